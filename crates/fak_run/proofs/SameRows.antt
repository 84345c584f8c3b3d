-- Whether two rows are equal.
use Rattle.std.proofs.lemmas.Bool.Decides.{nat_tests}
use Rattle.fak_text.specs.Journal.{NoteOf, said, yielded, downed, upped, opened, closed, statted, spawned, no_birth, no_slot, shut_down, Process}
use Rattle.fak_run.proofs.Common.{Outcome, Ended, Stuck, Halted, RowOf, ◌≡◌, ℕ, ◌==◌, Bool, true, false, cond, List, [], ◌∷◌, refl, ap, sym, ◌∙◌, arith, ◌&&◌, Option, Some, None, and_parts, and_from, common_steps}
use Rattle.fak_run.proofs.Names.{same_name, same_name_self, same_name_is}

same_number_is : (a b : ℕ) → (a == b) ≡ true → a ≡ b
same_number_is a b e = grind (arith, nat_tests)

pub same_number_self : (a : ℕ) → (a == a) ≡ true
same_number_self a = grind (arith, nat_tests)

-- ---- notes, by numbers that distinguish them

abbrev numbers_of : ℕ → ℕ → Option ℕ → List ℕ
numbers_of tag n None = tag ∷ n ∷ []
numbers_of tag n (Some i) = tag ∷ n ∷ i ∷ []

abbrev code : NoteOf → List ℕ
code (said text) = 0 ∷ text
code yielded = 1 ∷ []
code (downed s) = 2 ∷ s ∷ []
code (upped s) = 3 ∷ s ∷ []
code (opened n entry) = numbers_of 4 n entry
code (closed n entry) = numbers_of 5 n entry
code (statted n uses) = numbers_of 6 n uses
code (spawned j) = 7 ∷ j ∷ []
code no_birth = 8 ∷ []
code no_slot = 9 ∷ []
code shut_down = 10 ∷ []

abbrev option_in : List ℕ → Option ℕ
option_in [] = None
option_in (i ∷ others) = Some i

abbrev first_in : List ℕ → ℕ
first_in [] = 0
first_in (n ∷ others) = n

abbrev second_in : List ℕ → Option ℕ
second_in [] = None
second_in (n ∷ others) = option_in others

abbrev note_in : ℕ → List ℕ → NoteOf
note_in tag rest =
    cond (tag == 0) (said rest) (cond (tag == 1) yielded (cond (tag == 2) (downed (first_in rest)) (cond (tag == 3) (upped (first_in rest))
    (cond (tag == 4) (opened (first_in rest) (second_in rest)) (cond (tag == 5) (closed (first_in rest) (second_in rest)) (cond (tag == 6) (statted (first_in rest) (second_in rest))
    (cond (tag == 7) (spawned (first_in rest)) (cond (tag == 8) no_birth (cond (tag == 9) no_slot shut_down)))))))))

abbrev decode : List ℕ → NoteOf
decode [] = yielded
decode (tag ∷ rest) = note_in tag rest

decode_code : (note : NoteOf) → decode (code note) ≡ note
decode_code note = grind (arith, common_steps, decode, code)

abbrev pub same_note : NoteOf → NoteOf → Bool
same_note a b = same_name (code a) (code b)

pub same_note_is : (a b : NoteOf) → same_note a b ≡ true → a ≡ b
same_note_is a b e = sym (decode_code a) ∙ (ap decode (same_name_is (code a) (code b) e) ∙ decode_code b)

abbrev same_journal : List NoteOf → List NoteOf → Bool
same_journal [] [] = true
same_journal [] (b ∷ bs) = false
same_journal (a ∷ cs) [] = false
same_journal (a ∷ cs) (b ∷ bs) = same_note a b && same_journal cs bs

pub same_note_self : (a : NoteOf) → same_note a a ≡ true
same_note_self a = same_name_self (code a)

same_journal_self : (x : List NoteOf) → same_journal x x ≡ true
same_journal_self [] = refl
same_journal_self (a ∷ x) = and_from (same_note a a) (same_journal x x) (same_name_self (code a)) (same_journal_self x)

same_journal_is : (x y : List NoteOf) → same_journal x y ≡ true → x ≡ y
same_journal_is [] [] e = refl
same_journal_is [] (b ∷ y) e = absurd (cc)
same_journal_is (a ∷ x) [] e = absurd (cc)
same_journal_is (a ∷ x) (b ∷ y) e =
    let parts = and_parts (same_note a b) (same_journal x y) e in
    let first : a ≡ b = same_note_is a b parts.0 in
    let rest : x ≡ y = same_journal_is x y parts.1 in
    λ i. first i ∷ rest i

-- ---- processes and rows

abbrev same_numbers : Process → Process → Bool
same_numbers a b = (a.program == b.program) && ((a.slot == b.slot) && (a.position == b.position))

abbrev same_process : Process → Process → Bool
same_process a b = same_name a.name b.name && (same_numbers a b && same_journal a.journal b.journal)

same_process_self : (a : Process) → same_process a a ≡ true
same_process_self a =
    let numbers = and_from (a.program == a.program) ((a.slot == a.slot) && (a.position == a.position)) (same_number_self a.program)
    (and_from (a.slot == a.slot) (a.position == a.position) (same_number_self a.slot) (same_number_self a.position)) in
    and_from (same_name a.name a.name) (same_numbers a a && same_journal a.journal a.journal) (same_name_self a.name)
    (and_from (same_numbers a a) (same_journal a.journal a.journal) numbers (same_journal_self a.journal))

same_process_is : (a b : Process) → same_process a b ≡ true → a ≡ b
same_process_is a b e =
    let parts = and_parts (same_name a.name b.name) (same_numbers a b && same_journal a.journal b.journal) e in
    let rest = and_parts (same_numbers a b) (same_journal a.journal b.journal) parts.1 in
    let numbers = and_parts (a.program == b.program) ((a.slot == b.slot) && (a.position == b.position)) rest.0 in
    let last = and_parts (a.slot == b.slot) (a.position == b.position) numbers.1 in
    let name : a.name ≡ b.name = same_name_is a.name b.name parts.0 in
    let program : a.program ≡ b.program = same_number_is a.program b.program numbers.0 in
    let slot : a.slot ≡ b.slot = same_number_is a.slot b.slot last.0 in
    let position : a.position ≡ b.position = same_number_is a.position b.position last.1 in
    let journal : a.journal ≡ b.journal = same_journal_is a.journal b.journal rest.1 in
    λ i. record { name = name i; program = program i; slot = slot i; position = position i; journal = journal i }

abbrev number_of : Outcome → ℕ
number_of Ended = 0
number_of Stuck = 1
number_of Halted = 2

abbrev outcome_in : ℕ → Outcome
outcome_in n = cond (n == 0) Ended (cond (n == 1) Stuck Halted)

outcome_in_number : (o : Outcome) → outcome_in (number_of o) ≡ o
outcome_in_number o = grind (arith, common_steps, outcome_in, number_of)

abbrev pub same_row : RowOf → RowOf → Bool
same_row a b = same_process a.process b.process && (number_of a.outcome == number_of b.outcome)

pub same_row_self : (a : RowOf) → same_row a a ≡ true
same_row_self a = and_from (same_process a.process a.process) (number_of a.outcome == number_of a.outcome) (same_process_self a.process) (same_number_self (number_of a.outcome))

pub same_row_is : (a b : RowOf) → same_row a b ≡ true → a ≡ b
same_row_is a b e =
    let parts = and_parts (same_process a.process b.process) (number_of a.outcome == number_of b.outcome) e in
    let process : a.process ≡ b.process = same_process_is a.process b.process parts.0 in
    let number : number_of a.outcome ≡ number_of b.outcome = same_number_is (number_of a.outcome) (number_of b.outcome) parts.1 in
    let outcome : a.outcome ≡ b.outcome = sym (outcome_in_number a.outcome) ∙ (ap outcome_in number ∙ outcome_in_number b.outcome) in
    λ i. record { process = process i; outcome = outcome i }
