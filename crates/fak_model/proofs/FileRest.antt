-- A file table without open calls.
use Rattle.fak_model.proofs.Common.{ints, All-pop, FileKind, FileMark, seat_words, IsAtRest, AreNamed, sum_below, ◌≡◌, ◌≢◌, ◌⊎◌, ℕ, ◌+◌, ◌<◌, List, [], ◌∷◌, ◌++◌, Some, refl, ap, sym, ◌∙◌, arith, inl, inr, map, pos, sum_by, common_steps}
use Rattle.fak_model.specs.declared.file.FileKind.TheVariants.{Take, Over, Back, No, Set, Give}
use Rattle.fak_model.specs.File.{Setting, set_mark, WholeCall, Refused, Withdrawn, Held, kinds_of_call, kind_of, take_amount, over_amount, back_amount, total, hold_after, hold_from, amount_held, gives, amount_given, count, file_rules, IsFileHistory}
use Rattle.fak_model.proofs.Appending.{snoc_ind, seat_words-own, seat_words-other, history_front, last_calls}
use Rattle.fak_model.proofs.Leading.{total_push, sum_one, sum_none, rest_even}
use Rattle.fak_model.proofs.Places.{Runs, ends, CallsRun, may_come, rests}
use Rattle.fak_model.proofs.FileLaw.{given_push, hold_push}

-- the place of each kind in a call: 0 to begin, 2 during a hold, another one for the withdrawal of each amount
abbrev pub needs : FileKind → ℕ
needs (Back n) = n + 3
needs (Set i f v) = 2
needs Give = 2
needs _ = 0

abbrev pub leads : FileKind → ℕ
leads (Over n) = n + 3
leads (Take n) = 2
leads (Set i f v) = 2
leads _ = 0

sets_run : (sets : List Setting) → Runs needs leads 2 (map set_mark sets ++ Give ∷ []) × (ends leads 2 (map set_mark sets ++ Give ∷ []) ≡ 0)
sets_run [] = ((refl, tt), refl)
sets_run (s ∷ sets) = let r = sets_run sets in ((refl, r.0), r.1)

pub calls_run : CallsRun needs leads kinds_of_call
calls_run (Refused n) = ((refl, tt), refl)
calls_run (Withdrawn n) = ((refl, (refl, tt)), refl)
calls_run (Held n sets) = let r = sets_run sets in ((refl, r.0), r.1)

-- a seat that is in no hold holds nothing
holds_at : (n p : ℕ) (ws : List FileKind) → Runs needs leads p ws → (p ≡ 2) ⊎ (n ≡ 0) → (ends leads p ws ≡ 2) ⊎ (hold_from n ws ≡ 0)
holds_at n p [] r e = e
holds_at n p (Take a ∷ ws) r e = holds_at a 2 ws r.1 (inl refl)
holds_at n p (Give ∷ ws) r e = holds_at 0 0 ws r.1 (inr refl)
holds_at n p (Set i f v ∷ ws) r e = holds_at n 2 ws r.1 (inl refl)
holds_at n p (Over a ∷ ws) r e = holds_at n (a + 3) ws r.1 (elim e [ inl t ↦ absurd (omega (arith, t, r.0)) | inr z ↦ inr z ])
holds_at n p (Back a ∷ ws) r e = holds_at n 0 ws r.1 (elim e [ inl t ↦ absurd (omega (arith, t, r.0)) | inr z ↦ inr z ])
holds_at n p (No a ∷ ws) r e = holds_at n 0 ws r.1 (elim e [ inl t ↦ absurd (omega (arith, t, r.0)) | inr z ↦ inr z ])

no_hold : (ws : List FileKind) → Runs needs leads 0 ws → ends leads 0 ws ≡ 0 → hold_from 0 ws ≡ 0
no_hold ws r e = elim (holds_at 0 0 ws r (inr refl)) [ inl t ↦ absurd (omega (arith, t, e)) | inr z ↦ z ]

-- what one mark changes in its seat's hold, if a Take finds none
hold_moves : (n : ℕ) (kind : FileKind) → (needs kind ≡ 0 → n ≡ 0) → hold_after n kind + gives n kind ≡ n + take_amount kind
hold_moves n kind e = grind (arith, common_steps, hold_after, gives, take_amount)

-- what all seats hold plus what was given back is what was taken
pub holds_total : (k seats : ℕ) (h : List FileMark) → IsFileHistory k h → AreNamed (file_rules k) seats h → sum_below (λ s. amount_held s h) seats + amount_given h ≡ total take_amount h
holds_total k seats =
    let Named : FileMark → Type 0 = λ (m : FileMark). m.seat < seats in
    snoc_ind (λ (h : List FileMark). IsFileHistory k h → AreNamed (file_rules k) seats h → sum_below (λ s. amount_held s h) seats + amount_given h ≡ total take_amount h) (λ law named.
    let none = sum_none (λ s. amount_held s []) seats (λ s. refl) in omega arith) (λ h m before law named.
    let pop = All-pop Named (h ++ m ∷ []) h (Some m) refl named in
    let old = before (history_front (file_rules k) h m law) pop.0 in
    let takes = total_push kind_of take_amount h m in
    let gave = given_push [] h m in
    let may = may_come needs leads kinds_of_call calls_run (seat_words (file_rules k) m.seat h) m.kind (last_calls (file_rules k) h m law) in
    let own : amount_held m.seat (h ++ m ∷ []) ≡ hold_after (amount_held m.seat h) m.kind = ap (hold_from 0) (seat_words-own (file_rules k) m.seat h m refl) ∙ hold_push 0 (seat_words (file_rules k) m.seat h) m.kind in
    let others : (s : ℕ) → s ≢ m.seat → amount_held s (h ++ m ∷ []) ≡ amount_held s h = λ s d. ap (hold_from 0) (seat_words-other (file_rules k) s h m (λ e. d (sym e))) in
    let one = sum_one (λ s. amount_held s h) (λ s. amount_held s (h ++ m ∷ [])) m.seat seats pop.1 others in
    let moves = hold_moves (amount_held m.seat h) m.kind (λ z. no_hold (seat_words (file_rules k) m.seat h) may.0 (sym may.1 ∙ z)) in
    omega (arith, old, takes, gave, own, one, moves))

sets_even : (sets : List Setting) → sum_by over_amount (map set_mark sets ++ Give ∷ []) ≡ sum_by back_amount (map set_mark sets ++ Give ∷ [])
sets_even [] = refl
sets_even (s ∷ sets) = omega (arith, sets_even sets)

call_even : (c : WholeCall) → sum_by over_amount (kinds_of_call c) ≡ sum_by back_amount (kinds_of_call c)
call_even c = grind (arith, common_steps, sum_by, over_amount, kinds_of_call, back_amount, sets_even)

-- if no call is cut short, the count is k
pub files_rest : (k seats : ℕ) (h : List FileMark) → IsFileHistory k h → AreNamed (file_rules k) seats h → IsAtRest (file_rules k) h → count k h ≡ pos k
files_rest k seats h law named rest =
    let sum = holds_total k seats h law named in
    let even : total over_amount h ≡ total back_amount h = rest_even (file_rules k) over_amount back_amount call_even seats h rest named in
    let none = sum_none (λ s. amount_held s h) seats (λ s. let r = rests needs leads kinds_of_call calls_run (seat_words (file_rules k) s h) (rest s) in no_hold (seat_words (file_rules k) s h) r.0 r.1) in
    omega (arith, ints, sum, even, none)
