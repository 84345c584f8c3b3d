-- From the steps of a seat's token to what the seat's call promises.
use Rattle.std.proofs.lemmas.List.{append-nil, map-append, reverse-reverse}
use Rattle.fak_files.proofs.Common.{Access, Read, Write, FilePhase, Idle, Holding, FileLimits, entry_of, back_from_take, own_since_take, prefix_through_take, marks_since_take, ◌≡◌, ◌≢◌, ℕ, ◌+◌, ◌-◌, ◌<◌, ◌≤◌, List, [], ◌∷◌, ◌++◌, refl, ap, sym, ◌∙◌, subst, arith, inl, inr, reverse, map, ℤ, slice_index, sum_by, flat_map, sum_by-cons, sum_by-append, words_by, Owes, seat_of, kind_of, kinds_of_call, field, file_rules, In, marks_of, ObjectId, seat_info, Appends, IsSeatToken, FileKind, Take, Over, Back, No, Set, Give, FileField, Inode, Uses, FileMark, token_names, Nothing, Reading, Writing, amount_of, phase_of, hold_for, StandsIn, limits, FileHolder, mark, Steps, Got, FileSeatInfo, one_hold, holds_of, LeavesMarks, IsGranted, IsBusy, IsGot, IsSet, IsEnded, IsHoldOf, seat_now, IsFileSeat, Makes, Misses, common_steps, FileEntry}
use Rattle.fak_files.specs.declared.phase.Hold.{Hold}
use Rattle.fak_files.proofs.Making.{some_object, makes_none, makes_one, none_then}
use Rattle.fak_files.proofs.Grammar.{holds_amount, hold_amount, rest_amount, stands_refused, stands_withdrawn, stands_taken, stands_set, stands_given}
use Rattle.fak_files.proofs.HoldReads.{version, reads, version-sees, own_since-take}

-- the phase of a hold
pub phase_of-hold_for : (access : Access) → phase_of (hold_for access) ≡ Holding access
phase_of-hold_for access = grind (arith, common_steps, phase_of, hold_for)

-- the number of holds that a seat has had after steps
holds_after : {seats name : ℕ} {kinds : List FileKind} {phase : FilePhase} {m after : FileHolder} → Makes seats name kinds phase m after
    → holds_of name (reverse after.0.seen) ≡ holds_of name (reverse m.0.seen) + sum_by one_hold (map (mark name) kinds)
holds_after {seats} {name} {kinds} {m = m} x =
    ap (sum_by one_hold) ((x.appends (some_object seats) 0 refl).mine) ∙ sum_by-append one_hold (marks_of seat_of name (reverse m.0.seen)) (map (mark name) kinds)

-- marks that are made of these kinds have these kinds
kind_of-mark : (name : ℕ) (kinds : List FileKind) → map kind_of (map (mark name) kinds) ≡ kinds
kind_of-mark name [] = refl
kind_of-mark name (k ∷ kinds) = ap (λ l. k ∷ l) (kind_of-mark name kinds)

kinds_after : {seats name : ℕ} {kinds : List FileKind} {phase : FilePhase} {m after : FileHolder} → Makes seats name kinds phase m after
    → words_by seat_of kind_of name (reverse after.0.seen) ≡ words_by seat_of kind_of name (reverse m.0.seen) ++ kinds
kinds_after {seats} {name} {kinds} {m = m} x =
    ap (map kind_of) ((x.appends (some_object seats) 0 refl).mine)
    ∙ (map-append kind_of (marks_of seat_of name (reverse m.0.seen)) (map (mark name) kinds) ∙ ap (λ l. words_by seat_of kind_of name (reverse m.0.seen) ++ l) (kind_of-mark name kinds))

-- a seat's fields after steps
pub file_seat_after : {name seats : ℕ} {hold : Hold} {kinds : List FileKind} {phase : FilePhase} {m after : FileHolder} (next : Hold) → IsFileSeat name seats hold m → Makes seats name kinds phase m after → phase ≡ phase_of next
    → StandsIn seats (words_by seat_of kind_of name (reverse m.0.seen) ++ kinds) phase → IsFileSeat name seats next after
file_seat_after {name} {seats} {after = after} next f x is stands = record {
  token = subst (λ (p : FilePhase). IsSeatToken seat_of seats name p 0 after) is x.token;
  lawful = (x.appends (some_object seats) 0 refl).lawful;
  stands = subst (λ (y : List FileKind × FilePhase). StandsIn seats y.0 y.1) (λ i. (sym (kinds_after x) i, is i)) stands;
}

module _ (object object' : ObjectId) (same : object' ≡ object) (name left : ℕ) (hold : Hold) (m after : FileHolder) where
  -- the marks that a call leaves, if this many holds are left after it
  pub leaves_of : (kinds : List FileKind) (phase : FilePhase) → Makes object.seats name kinds phase m after → (left' : ℕ) → left' + sum_by one_hold (map (mark name) kinds) ≡ left → (next : Hold)
      → LeavesMarks kinds (seat_now object name left hold m).seat (seat_now object' name left' next after).seat
  leaves_of kinds phase x left' fits next =
      let stint : left' + holds_of name (reverse after.0.seen) ≡ left + holds_of name (reverse m.0.seen) = omega (arith, fits, holds_after x) in
      subst (λ (y : ObjectId × ℕ). Appends (file_rules object.seats) (map (mark name) kinds) (seat_info object name (left + holds_of name (reverse m.0.seen)) (reverse m.0.seen)) (seat_info y.0 name y.1 (reverse after.0.seen)))
      (λ i. (sym same i, sym stint i)) (x.appends object (left + holds_of name (reverse m.0.seen)) refl)

  pub granted_of : (access : Access) (old : FileSeatInfo) → seat_now object name left hold m ≡ old → left ≢ 0 → Makes object.seats name (Take (amount_of object.seats access) ∷ []) (Holding access) m after → (next : Hold) → next ≡ hold_for access
      → IsGranted access old (seat_now object' name (left - 1) next after)
  granted_of access old is some x next for = subst (λ (y : FileSeatInfo). IsGranted access y (seat_now object' name (left - 1) next after)) is record {
    within = omega (arith, some);
    leaves = leaves_of (Take (amount_of object.seats access) ∷ []) (Holding access) x (left - 1) (omega (arith, some, sum_by-cons one_hold (mark name (Take (amount_of object.seats access))) [])) next;
    hold = for;
  }

  pub busy_of : (access : Access) (old : FileSeatInfo) (answer : ℤ) → seat_now object name left hold m ≡ old → left ≢ 0 → Misses object.seats name (amount_of object.seats access) m after answer
      → IsBusy access old (seat_now object' name left hold after) answer
  busy_of access old answer is some x = subst (λ (y : FileSeatInfo). IsBusy access y (seat_now object' name left hold after) answer) is record {
    within = omega (arith, some);
    leaves = elim x.makes [
      | inl y ↦ inl (leaves_of (No (amount_of object.seats access) ∷ []) Idle y left (omega (arith, sum_by-cons one_hold (mark name (No (amount_of object.seats access))) [])) hold)
      | inr y ↦ inr (leaves_of (Over (amount_of object.seats access) ∷ Back (amount_of object.seats access) ∷ []) Idle y left
          (omega (arith, sum_by-cons one_hold (mark name (Over (amount_of object.seats access))) (mark name (Back (amount_of object.seats access)) ∷ []), sum_by-cons one_hold (mark name (Back (amount_of object.seats access))) [])) hold)
    ];
    answers = x.answers;
    hold = refl;
  }

-- a seat's fields after a claim was refused
pub file_seat_missed : {name seats n : ℕ} {hold : Hold} {m after : FileHolder} {answer : ℤ} → IsFileSeat name seats hold m → Misses seats name n m after answer → Idle ≡ phase_of hold → IsFileSeat name seats hold after
file_seat_missed {name} {seats} {n} {hold} {m} f x is =
    let kinds : List FileKind = words_by seat_of kind_of name (reverse m.0.seen) in
    let rest : Owes kinds_of_call kinds [] = subst (StandsIn seats kinds) (sym is) f.stands in
    elim x.makes [
      | inl y ↦ file_seat_after hold f y is (stands_refused seats kinds n rest)
      | inr y ↦ file_seat_after hold f y is (stands_withdrawn seats kinds n rest)
    ]

-- a seat's fields after a hold was granted
pub file_seat_granted : {name seats : ℕ} {hold : Hold} {m after : FileHolder} (access : Access) (next : Hold) → IsFileSeat name seats hold m → Makes seats name (Take (amount_of seats access) ∷ []) (Holding access) m after → hold ≡ Nothing
    → Holding access ≡ phase_of next → IsFileSeat name seats next after
file_seat_granted {name} {seats} {m = m} access next f x free is =
    let kinds : List FileKind = words_by seat_of kind_of name (reverse m.0.seen) in
    file_seat_after next f x is (stands_taken seats kinds access (subst (λ (h : Hold). StandsIn seats kinds (phase_of h)) free f.stands))

-- ---- steps whose name and number of seats come from the table and the token

module _ {name seats : ℕ} {was : FilePhase} {m : FileHolder} (t : IsSeatToken seat_of seats name was 0 m) (table : FileLimits) (is : table.seats ≡ seats) where
  named : slice_index m.0.names 0 ≡ name
  named = ap (λ (x : FileHolder). slice_index x.0.names 0) t.me_is

  own : IsSeatToken seat_of table.seats name was 0 m
  own = subst (λ (k : ℕ). IsSeatToken seat_of k name was 0 m) (sym is) t

  -- a step with one mark
  pub one_made : (kind : FileKind) (phase : FilePhase) {tells : List FileMark → Type 0} {after : FileHolder} → Steps table (slice_index m.0.names 0) m (mark (slice_index m.0.names 0) kind ∷ []) phase tells after → Makes seats name (kind ∷ []) phase m after
  one_made kind phase {tells} {after} step =
      let step' : Steps table name m (mark name kind ∷ []) phase tells after = subst (λ (n : ℕ). Steps table n m (mark n kind ∷ []) phase tells after) named step in
      subst (λ (k : ℕ). Makes k name (kind ∷ []) phase m after) is (makes_one table name kind own step')

  -- a load
  pub none_made : {phase : FilePhase} {tells : List FileMark → Type 0} {after : FileHolder} → Steps table (slice_index m.0.names 0) m [] phase tells after → Makes seats name [] phase m after
  none_made {phase} {tells} {after} step =
      let step' : Steps table name m [] phase tells after = subst (λ (n : ℕ). Steps table n m [] phase tells after) named step in
      subst (λ (k : ℕ). Makes k name [] phase m after) is (makes_none table name own step')

  -- a load of a field
  pub field_loaded : (access : Access) (i : ℕ) (f : FileField) (found : ℕ) {after : FileHolder} → Got table (slice_index m.0.names 0) access i f m found after → Got table name access i f m found after
  field_loaded access i f found {after} step = subst (λ (n : ℕ). Got table n access i f m found after) named step

-- ---- what is read

amount_some : (k : ℕ) (access : Access) → 1 ≤ k → 1 ≤ amount_of k access
amount_some k access some = grind (arith, common_steps, amount_of)

prefix_through_take-reverse : (name : ℕ) (past : List FileMark) → prefix_through_take name (reverse past) ≡ reverse (back_from_take name past)
prefix_through_take-reverse name past = ap (λ p. reverse (back_from_take name p)) (reverse-reverse past)

marks_since_take-reverse : (name : ℕ) (past : List FileMark) → marks_since_take name (reverse past) ≡ reverse (own_since_take name past)
marks_since_take-reverse name past = ap (λ p. reverse (own_since_take name p)) (reverse-reverse past)

module _ (table : FileLimits) (name : ℕ) (access : Access) where
  -- a load of a field reads the version of the seat's hold
  loaded : (i : ℕ) (f : FileField) (found : ℕ) (m after : FileHolder) → name < table.seats → Got table name access i f m found after → found ≡ field (version name after.0.seen) i f
  loaded i f found m after low step =
      let l = step.leaves in
      let seen : after.0.seen ≡ l.past = ap (λ (x : FileHolder). x.0.seen) l.after_is in
      let held = holds_amount table.seats (reverse l.past) l.lawful name access l.told.stands in
      l.told.found_is ∙ (reads table.seats table.seats name low i f l.past l.lawful l.named (omega (arith, held, amount_some table.seats access (omega (arith, low)))) ∙ ap (λ (p : List FileMark). field (version name p) i f) (sym seen))

  -- the version stays the same as more is seen
  stays : {tells : List FileMark → Type 0} (m after : FileHolder) → In name m.0.names → Steps table name m [] (Holding access) tells after → version name after.0.seen ≡ version name m.0.seen
  stays m after i step = grind (arith, common_steps, version, version-sees)

-- a reader has set nothing since
nothing_set : (table : FileLimits) (name i : ℕ) (f : FileField) (found : ℕ) (m after : FileHolder) → Got table name Read i f m found after → own_since_take name after.0.seen ≡ []
nothing_set table name i f found m after step = grind (arith, common_steps, own_since_take, own_since-take, flat_map, kinds_of_call)

-- a version, in the words of contracts
version_is : (name : ℕ) (past : List FileMark) → version name past ≡ prefix_through_take name (reverse past) ++ marks_since_take name (reverse past)
version_is name past = λ i. sym (prefix_through_take-reverse name past) i ++ sym (marks_since_take-reverse name past) i

-- in a reader's hold, the version is the prefix through its Take
version_reads : (table : FileLimits) (name : ℕ) (access : Access) (hold : Hold) → hold_for access ≡ hold → (i : ℕ) (f : FileField) (found : ℕ) (m after : FileHolder) → Got table name access i f m found after → hold ≡ Reading
    → version name after.0.seen ≡ prefix_through_take name (reverse after.0.seen)
version_reads table name Read hold is i f found m after step reading =
    ap (λ l. reverse (back_from_take name after.0.seen) ++ reverse l) (nothing_set table name i f found m after step) ∙ (append-nil (reverse (back_from_take name after.0.seen)) ∙ sym (prefix_through_take-reverse name after.0.seen))
version_reads table name Write hold is i f found m after step reading = grind (arith, common_steps)

module _ (object object' : ObjectId) (same : object' ≡ object) (name left : ℕ) (hold : Hold) (m : FileHolder) (f : IsFileSeat name object.seats hold m) (table : FileLimits) (is : table.seats ≡ object.seats) (old : FileSeatInfo) (old_is : seat_now object name left hold m ≡ old) where
  -- the seat's fields after each call
  pub seat_set : hold ≡ Writing → (i : ℕ) (g : FileField) (v : ℕ) {tells : List FileMark → Type 0} (after : FileHolder) → Steps table (slice_index m.0.names 0) m (mark (slice_index m.0.names 0) (Set i g v) ∷ []) (Holding Write) tells after
      → IsFileSeat name object.seats hold after
  seat_set writing i g v after step =
      let x = one_made f.token table is (Set i g v) (Holding Write) step in
      let stood : StandsIn object.seats (words_by seat_of kind_of name (reverse m.0.seen)) (Holding Write) = subst (λ (h : Hold). StandsIn object.seats (words_by seat_of kind_of name (reverse m.0.seen)) (phase_of h)) writing f.stands in
      file_seat_after hold f x (ap phase_of (sym writing)) (stands_set object.seats (words_by seat_of kind_of name (reverse m.0.seen)) i g v stood)

  stood_in : (access : Access) → hold_for access ≡ hold → StandsIn object.seats (words_by seat_of kind_of name (reverse m.0.seen)) (Holding access)
  stood_in access for = subst (StandsIn object.seats (words_by seat_of kind_of name (reverse m.0.seen))) (ap phase_of (sym for) ∙ phase_of-hold_for access) f.stands

  pub seat_ended : (access : Access) → hold_for access ≡ hold → {tells : List FileMark → Type 0} (after : FileHolder) → Steps table (slice_index m.0.names 0) m (mark (slice_index m.0.names 0) Give ∷ []) Idle tells after → IsFileSeat name object.seats Nothing after
  seat_ended access for after step =
      file_seat_after Nothing f (one_made f.token table is Give Idle step) refl (stands_given object.seats (words_by seat_of kind_of name (reverse m.0.seen)) access (stood_in access for))

  pub set_of : (i : ℕ) (g : FileField) (v : ℕ) {tells : List FileMark → Type 0} (after : FileHolder) → Steps table (slice_index m.0.names 0) m (mark (slice_index m.0.names 0) (Set i g v) ∷ []) (Holding Write) tells after → IsSet i g v old (seat_now object' name left hold after)
  set_of i g v after step = subst (λ (y : FileSeatInfo). IsSet i g v y (seat_now object' name left hold after)) old_is record {
    leaves = leaves_of object object' same name left hold m after (Set i g v ∷ []) (Holding Write) (one_made f.token table is (Set i g v) (Holding Write) step) left (omega (arith, sum_by-cons one_hold (mark name (Set i g v)) [])) hold;
    hold = refl;
  }

  pub ended_of : {tells : List FileMark → Type 0} (after : FileHolder) → Steps table (slice_index m.0.names 0) m (mark (slice_index m.0.names 0) Give ∷ []) Idle tells after → IsEnded old (seat_now object' name left Nothing after)
  ended_of after step = subst (λ (y : FileSeatInfo). IsEnded y (seat_now object' name left Nothing after)) old_is record {
    leaves = leaves_of object object' same name left hold m after (Give ∷ []) Idle (one_made f.token table is Give Idle step) left (omega (arith, sum_by-cons one_hold (mark name Give) [])) Nothing;
    hold = refl;
  }

  pub got_of : (access : Access) → hold_for access ≡ hold → (i inode uses : ℕ) (mid after : FileHolder) → Got table (slice_index m.0.names 0) access i Inode m inode mid → Got table (slice_index mid.0.names 0) access i Uses mid uses after
      → IsGot i old (seat_now object' name left hold after) (record { inode = inode; uses = uses })
  got_of access for i inode uses mid after one two =
      let first = field_loaded f.token table is access i Inode inode one in
      let x = none_made f.token table is one in
      let second = field_loaded x.token table is access i Uses uses two in
      let y = none_made x.token table is two in
      let low : name < table.seats = omega (arith, f.token.below, is) in
      let among : In name mid.0.names = subst (In name) (sym (token_names x.token)) (inl refl) in
      let inode_is : inode ≡ field (version name after.0.seen) i Inode = loaded table name access i Inode inode m mid low first ∙ ap (λ (p : List FileMark). field p i Inode) (sym (stays table name access mid after among second)) in
      let uses_is : uses ≡ field (version name after.0.seen) i Uses = loaded table name access i Uses uses mid after low second in
      let entry : FileEntry = record { inode = inode; uses = uses } in
      let is : entry ≡ entry_of (version name after.0.seen) i = λ t. record { inode = inode_is t; uses = uses_is t } in
      subst (λ (z : FileSeatInfo). IsGot i z (seat_now object' name left hold after) entry) old_is record {
        leaves = leaves_of object object' same name left hold m after [] (Holding access) (none_then (limits 0 object.seats) name [] x y) left (omega arith) hold;
        hold = refl;
        reading = λ reading. is ∙ ap (λ (p : List FileMark). entry_of p i) (version_reads table name access hold for i Uses uses mid after second reading);
        holding = is ∙ ap (λ (p : List FileMark). entry_of p i) (version_is name after.0.seen);
      }

-- ---- what a seat holds, as its marks show

pub hold_marked : (name seats : ℕ) (hold : Hold) (m : FileHolder) (object : ObjectId) (stint : ℕ) → object.seats ≡ seats → IsFileSeat name seats hold m → IsHoldOf (seat_info object name stint (reverse m.0.seen)) hold
hold_marked name seats Nothing m object stint same f = (rest_amount (words_by seat_of kind_of name (reverse m.0.seen)) f.stands, f.stands)
hold_marked name seats Reading m object stint same f = hold_amount 1 (words_by seat_of kind_of name (reverse m.0.seen)) [] f.stands
hold_marked name seats Writing m object stint same f = hold_amount seats (words_by seat_of kind_of name (reverse m.0.seen)) f.stands.0 f.stands.1 ∙ sym same
