-- Each kind of step of a seat keeps what a file table shows, and shows what it did.
use native.Mathlib.Decide.{dec_le}
use Rattle.fak_model.specs.File.{seat_of, kind_of, field_after, amount_held, count}
use Rattle.fak_model.proofs.RunningSteps.{Advances, stands_now, steps}
use Rattle.fak_files.proofs.Common.{Access, Write, FilePhase, FileLimits, amount_of, StandsIn, count_place, word_of, ◌≡◌, ℕ, ◌+◌, ◌-◌, ◌%◌, ◌^◌, ◌<◌, ◌≤◌, List, [], ◌∷◌, ◌++◌, refl, ap, sym, ◌∙◌, subst, arith, set, slice_index, Some, reverse, pos, ◌+ℤ◌, ◌-ℤ◌, ◌≤ℤ◌, ◌<ℤ◌, ints, some, get_elem?, words_by, sight, AreOwn, Leaves, IsSeatToken, bias, State, Act, keeps, stepped, carried_after, Valid, Allows, FileField, FileKind, Take, Over, Back, No, Set, Give, FileMark, reverse_cons, All-reverse, token_names, token_phase, token_slots, token_after, Idle, Taking, Backing, Holding, FileView, ShowsHistory, file_object, IsShownFile, FileHolder, mark, Steps, CountIs, Tested, Took, TellsNothing, Withdrew, Gave, FieldIs, Got, WasSet, HeardJoin, common_steps, lt_of_not-le, hears}
use Rattle.fak_files.proofs.Counts.{count_after, count-push, count_within}
use Rattle.fak_files.proofs.Grammar.{GoesOn, amounts, refuses, overdraws, withdraws, takes, sets_field, holds_amount, gives_back, stands_other}
use Rattle.fak_files.proofs.WordPlaces.{sub_word, add_word, near_word, words_same, counts_next, fields_next}

module _ (table : FileLimits) (s : State (Unit {0}) FileView) (r : IsShownFile table s) (id n : ℕ) (m : FileHolder) (at : get_elem? s.views id ≡ some m.0) (one : m.0.names ≡ n ∷ []) (none : m.1 ≡ []) {was : FilePhase} (token : IsSeatToken seat_of table.seats n was 0 m) where
  -- the history, oldest mark first
  abbrev h : List FileMark
  h = reverse r.core

  within : (taken : ℕ) × (count table.seats h +ℤ pos taken ≡ pos table.seats) × (taken ≤ 2000000)
  within = count_within table.seats h r.encoded.few_seats r.reached (All-reverse (λ (x : FileMark). x.seat < table.seats) r.core r.named)

  counts : CountIs table.seats (slice_index s.words count_place) r.core
  counts = (r.encoded.counted, near_word (slice_index s.words count_place) table.seats within.0 (count table.seats h) r.encoded.counted within.1 r.encoded.few_seats)

  small : (access : Access) → amount_of table.seats access ≤ 1024
  small access = grind (arith, common_steps, amount_of)

  -- a step with one mark
  advances : (kind : FileKind) (phase : FilePhase) → GoesOn table.seats h n kind phase → Advances (file_object table) r.core n (mark n kind ∷ r.core) (mark n kind ∷ []) phase
  advances kind phase g = grind (arith, common_steps, reverse, mark, reverse_cons, words_by, seat_of, kind_of, stands_other)

  -- what a step shows, for a seat without a slot
  says : {new : List FileMark} {phase : FilePhase} {tells : List FileMark → Type 0} (v : FileView) → AreOwn seat_of n new → Leaves (file_object table) m new phase 0 m.1 tells (v, m.1) → Steps table n m new phase tells (v, m.1)
  says {new} {phase} {tells} v own l = grind (arith, common_steps, file_object, token_after)

  -- the table and the seat after a step on word i
  abbrev Step : ℕ → (ℕ → ℕ) → (ℕ → FileHolder → Type 0) → Type 0
  Step i f then = (w : FileView) × (a : Act (Unit {0})) × Valid s.homes m.1 a × IsShownFile table (stepped s i (f (slice_index s.words i)) id m.1 w a) × then (slice_index s.words i) (w, carried_after m.1 a)

  abbrev after : List FileMark → FilePhase → FileView
  after new phase = sight m.0.names m.0.noted (new ++ r.core) phase 0

  -- a step with one mark on word i
  leaves : (kind : FileKind) (phase : FilePhase) (i w : ℕ) → GoesOn table.seats h n kind phase → ShowsHistory table (h ++ mark n kind ∷ []) (set s.words i w) → (tells : List FileMark → Type 0) → tells r.core
      → IsShownFile table (stepped s i w id m.1 (after (mark n kind ∷ []) phase) keeps) × Steps table n m (mark n kind ∷ []) phase tells (after (mark n kind ∷ []) phase, m.1)
  leaves kind phase i w g shows tells told =
      let t = steps (file_object table) s r id n m at one (λ c reached. reached) (mark n kind ∷ r.core) (mark n kind ∷ []) phase (advances kind phase g) i w keeps
      (subst (λ (x : List FileMark). ShowsHistory table x (set s.words i w)) (sym (reverse_cons (mark n kind) r.core)) shows) 0 (omega arith) tells told in
      (t.0, says (after (mark n kind ∷ []) phase) (refl, tt) t.1)

  -- a load, after which the seat is at this phase
  loads : (phase : FilePhase) (i : ℕ) → StandsIn table.seats (words_by seat_of kind_of n h) phase → (tells : List FileMark → Type 0) → tells r.core
      → IsShownFile table (stepped s i (slice_index s.words i) id m.1 (after [] phase) keeps) × Steps table n m [] phase tells (after [] phase, m.1)
  loads phase i stands tells told =
      let adv : Advances (file_object table) r.core n r.core [] phase = record { reached = r.reached; past = refl; own = tt; stands = stands; others = λ j p ne x. x } in
      let t = steps (file_object table) s r id n m at one (λ c reached. reached) r.core [] phase adv i (slice_index s.words i) keeps (words_same table h s.words r.encoded i) 0 (omega arith) tells told in
      (t.0, says (after [] phase) tt t.1)

  stood : (p : FilePhase) → m.0.phase ≡ Some p → StandsIn table.seats (words_by seat_of kind_of n h) p
  stood p e = stands_now (file_object table) s r id n m at one p e

  -- after a step on the count, the words show the history with its mark
  count_next : (kind : FileKind) (w : ℕ) → ((i : ℕ) (f : FileField) (v : ℕ) → field_after i f v kind ≡ v) → pos w ≡ pos bias +ℤ count_after (count table.seats h) (amount_held n h) kind → ShowsHistory table (h ++ mark n kind ∷ []) (set s.words count_place w)
  count_next kind w unset is = counts_next table h s.words r.encoded (mark n kind) w unset (is ∙ ap (λ x. pos bias +ℤ x) (sym (count-push table.seats h (mark n kind))))

  module _ (access : Access) where
    abbrev a : ℕ
    a = amount_of table.seats access

    tests_by : m.0.phase ≡ Some Idle → Dec (bias + amount_of table.seats access ≤ slice_index s.words count_place) → Step count_place (λ x. x) (Tested table n access m)
    tests_by idle (yes fits) =
        let t = loads (Taking access) count_place (stood Idle idle) (CountIs table.seats (slice_index s.words count_place)) counts in
        (after [] (Taking access), keeps, tt, t.0, record { enough = λ _. t.1; less = λ lt. absurd (omega (arith, lt, fits)) })
    tests_by idle (no not) =
        let lt = lt_of_not-le not in
        let kind = No (amount_of table.seats access) in
        let short : count table.seats h <ℤ pos (amount_of table.seats access) = omega (arith, ints, lt, r.encoded.counted) in
        let g = refuses table.seats h r.reached n (amount_of table.seats access) (stood Idle idle) (amounts table.seats h r.reached n access, short) in
        let t = leaves kind Idle count_place (slice_index s.words count_place) g (count_next kind (slice_index s.words count_place) (λ i f v. refl) (omega (arith, ints, r.encoded.counted))) (CountIs table.seats (slice_index s.words count_place)) counts in
        (after (mark n kind ∷ []) Idle, keeps, tt, t.0, record { enough = λ fits. absurd (omega (arith, lt, fits)); less = λ _. t.1 })

    less : pos ((slice_index s.words count_place + (2 ^ 64 - amount_of table.seats access)) % 2 ^ 64) ≡ pos bias +ℤ (count table.seats h -ℤ pos (amount_of table.seats access))
    less = sub_word (slice_index s.words count_place) (amount_of table.seats access) table.seats within.0 (count table.seats h) r.encoded.counted within.1 within.2 r.encoded.few_seats (small access)

    more : pos ((slice_index s.words count_place + amount_of table.seats access) % 2 ^ 64) ≡ pos bias +ℤ (count table.seats h +ℤ pos (amount_of table.seats access))
    more = add_word (slice_index s.words count_place) (amount_of table.seats access) table.seats within.0 (count table.seats h) r.encoded.counted within.1 within.2 r.encoded.few_seats (small access)

    takes_by : m.0.phase ≡ Some (Taking access) → Dec (bias + amount_of table.seats access ≤ slice_index s.words count_place) → Step count_place (λ x. (x + (2 ^ 64 - amount_of table.seats access)) % 2 ^ 64) (Took table n access m)
    takes_by taking (yes fits) =
        let kind = Take (amount_of table.seats access) in
        let enough : pos (amount_of table.seats access) ≤ℤ count table.seats h = omega (arith, ints, fits, r.encoded.counted) in
        let g = takes table.seats h r.reached n access (stood (Taking access) taking) (amounts table.seats h r.reached n access, enough) in
        let t = leaves kind (Holding access) count_place _ g (count_next kind ((slice_index s.words count_place + (2 ^ 64 - amount_of table.seats access)) % 2 ^ 64) (λ i f v. refl) (omega (arith, ints, less))) (CountIs table.seats (slice_index s.words count_place)) counts in
        (after (mark n kind ∷ []) (Holding access), keeps, tt, t.0, record { enough = λ _. t.1; less = λ lt. absurd (omega (arith, lt, fits)) })
    takes_by taking (no not) =
        let lt = lt_of_not-le not in
        let kind = Over (amount_of table.seats access) in
        let short : count table.seats h <ℤ pos (amount_of table.seats access) = omega (arith, ints, lt, r.encoded.counted) in
        let g = overdraws table.seats h r.reached n access (stood (Taking access) taking) (amounts table.seats h r.reached n access, short) in
        let t = leaves kind (Backing access) count_place _ g (count_next kind ((slice_index s.words count_place + (2 ^ 64 - amount_of table.seats access)) % 2 ^ 64) (λ i f v. refl) (omega (arith, ints, less))) (CountIs table.seats (slice_index s.words count_place)) counts in
        (after (mark n kind ∷ []) (Backing access), keeps, tt, t.0, record { enough = λ fits. absurd (omega (arith, lt, fits)); less = λ _. t.1 })

    withdraws_by : m.0.phase ≡ Some (Backing access) → Step count_place (λ x. (x + amount_of table.seats access) % 2 ^ 64) (λ _. Withdrew table n access m)
    withdraws_by backing =
        let kind = Back (amount_of table.seats access) in
        let g = withdraws table.seats h r.reached n access (stood (Backing access) backing) in
        let t = leaves kind Idle count_place _ g (count_next kind ((slice_index s.words count_place + amount_of table.seats access) % 2 ^ 64) (λ i f v. refl) (omega (arith, ints, more))) TellsNothing tt in
        (after (mark n kind ∷ []) Idle, keeps, tt, t.0, t.1)

    gives_by : m.0.phase ≡ Some (Holding access) → Step count_place (λ x. (x + amount_of table.seats access) % 2 ^ 64) (λ _. Gave table n m)
    gives_by holding =
        let stands = stood (Holding access) holding in
        let g = gives_back table.seats h r.reached n access stands in
        let held = holds_amount table.seats h r.reached n access stands in
        let t = leaves Give Idle count_place _ g (count_next Give ((slice_index s.words count_place + amount_of table.seats access) % 2 ^ 64) (λ i f v. refl) (omega (arith, ints, more, held))) TellsNothing tt in
        (after (mark n Give ∷ []) Idle, keeps, tt, t.0, t.1)

    gets_by : m.0.phase ≡ Some (Holding access) → (i : ℕ) (f : FileField) → i < table.entries → Step (word_of i f) (λ x. x) (Got table n access i f m)
    gets_by holding i f low =
        let stands = stood (Holding access) holding in
        let t = loads (Holding access) (word_of i f) stands (FieldIs table n access i f (slice_index s.words (word_of i f))) (record { found_is = r.encoded.fields i f low; stands = stands }) in
        (after [] (Holding access), keeps, tt, t.0, t.1)

  sets_by : m.0.phase ≡ Some (Holding Write) → (i : ℕ) (f : FileField) (v : ℕ) → i < table.entries → Step (word_of i f) (λ _. v) (λ _. WasSet table n i f v m)
  sets_by holding i f v low =
      let kind = Set i f v in
      let g = sets_field table.seats h r.reached n i f v (stood (Holding Write) holding) in
      let same : count table.seats (h ++ mark n kind ∷ []) ≡ count table.seats h = count-push table.seats h (mark n kind) ∙ omega (arith, ints) in
      let t = leaves kind (Holding Write) (word_of i f) v g (fields_next table h s.words r.encoded n i f v low same) TellsNothing tt in
      (after (mark n kind ∷ []) (Holding Write), keeps, tt, t.0, t.1)

-- each kind of step, for a table that its step names
module _ (key table : FileLimits) (is : key ≡ table) (slots id n : ℕ) (m : FileHolder) where
  -- a step that is allowed for `table` is allowed for `key`, which is equal to it
  named : (i : ℕ) (f : ℕ → ℕ) (then : ℕ → FileHolder → Type 0) → Allows (IsShownFile table) slots id m i f then → Allows (IsShownFile key) slots id m i f then
  named i f then allowed = subst (λ (k : FileLimits). Allows (IsShownFile k) slots id m i f then) (sym is) allowed

  pub tests_allowed : (access : Access) → IsSeatToken seat_of table.seats n Idle 0 m → Allows (IsShownFile key) slots id m count_place (λ x. x) (Tested table n access m)
  tests_allowed access token = named count_place (λ x. x) (Tested table n access m) (λ s r wide at fits. tests_by table s r id n m at (token_names token) (token_slots token) token access (token_phase token) (dec_le (bias + amount_of table.seats access) (slice_index s.words count_place)))

  pub takes_allowed : (access : Access) (amount : ℕ) → amount ≡ amount_of table.seats access → IsSeatToken seat_of table.seats n (Taking access) 0 m → Allows (IsShownFile key) slots id m count_place (λ x. (x + (2 ^ 64 - amount)) % 2 ^ 64) (Took table n access m)
  takes_allowed access amount e token = subst (λ (z : ℕ). Allows (IsShownFile key) slots id m count_place (λ x. (x + (2 ^ 64 - z)) % 2 ^ 64) (Took table n access m)) (sym e)
      (named count_place (λ x. (x + (2 ^ 64 - amount_of table.seats access)) % 2 ^ 64) (Took table n access m) (λ s r wide at fits. takes_by table s r id n m at (token_names token) (token_slots token) token access (token_phase token) (dec_le (bias + amount_of table.seats access) (slice_index s.words count_place))))

  pub withdraws_allowed : (access : Access) (amount : ℕ) → amount ≡ amount_of table.seats access → IsSeatToken seat_of table.seats n (Backing access) 0 m → Allows (IsShownFile key) slots id m count_place (λ x. (x + amount) % 2 ^ 64) (λ _. Withdrew table n access m)
  withdraws_allowed access amount e token = subst (λ (z : ℕ). Allows (IsShownFile key) slots id m count_place (λ x. (x + z) % 2 ^ 64) (λ _. Withdrew table n access m)) (sym e)
      (named count_place (λ x. (x + amount_of table.seats access) % 2 ^ 64) (λ _. Withdrew table n access m) (λ s r wide at fits. withdraws_by table s r id n m at (token_names token) (token_slots token) token access (token_phase token)))

  pub gives_allowed : (access : Access) (amount : ℕ) → amount ≡ amount_of table.seats access → IsSeatToken seat_of table.seats n (Holding access) 0 m → Allows (IsShownFile key) slots id m count_place (λ x. (x + amount) % 2 ^ 64) (λ _. Gave table n m)
  gives_allowed access amount e token = subst (λ (z : ℕ). Allows (IsShownFile key) slots id m count_place (λ x. (x + z) % 2 ^ 64) (λ _. Gave table n m)) (sym e)
      (named count_place (λ x. (x + amount_of table.seats access) % 2 ^ 64) (λ _. Gave table n m) (λ s r wide at fits. gives_by table s r id n m at (token_names token) (token_slots token) token access (token_phase token)))

  pub gets_allowed : (access : Access) (i : ℕ) (f : FileField) (place : ℕ) → place ≡ word_of i f → i < table.entries → IsSeatToken seat_of table.seats n (Holding access) 0 m → Allows (IsShownFile key) slots id m place (λ x. x) (Got table n access i f m)
  gets_allowed access i f place e low token = subst (λ (z : ℕ). Allows (IsShownFile key) slots id m z (λ x. x) (Got table n access i f m)) (sym e)
      (named (word_of i f) (λ x. x) (Got table n access i f m) (λ s r wide at fits. gets_by table s r id n m at (token_names token) (token_slots token) token access (token_phase token) i f low))

  pub sets_allowed : (i : ℕ) (f : FileField) (v to place : ℕ) → place ≡ word_of i f → to ≡ v → i < table.entries → IsSeatToken seat_of table.seats n (Holding Write) 0 m → Allows (IsShownFile key) slots id m place (λ _. to) (λ _. WasSet table n i f v m)
  sets_allowed i f v to place e same low token = subst (λ (z : ℕ × ℕ). Allows (IsShownFile key) slots id m z.0 (λ _. z.1) (λ _. WasSet table n i f v m)) (λ t. (sym e t, sym same t))
      (named (word_of i f) (λ _. v) (λ _. WasSet table n i f v m) (λ s r wide at fits. sets_by table s r id n m at (token_names token) (token_slots token) token (token_phase token) i f v low))

  -- the load after a join
  pub hears_allowed : (i : ℕ) → Allows (IsShownFile key) slots id m i (λ x. x) (λ _. HeardJoin table m)
  hears_allowed i = named i (λ x. x) (λ _. HeardJoin table m) (hears (file_object table) (λ c reached. reached) slots id m i)
