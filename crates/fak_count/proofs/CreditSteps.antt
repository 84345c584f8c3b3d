-- Each kind of step on a credit keeps the rule, and shows what it did.
use Rattle.fak_count.proofs.Common.{◌≡◌, ℕ, suc, ◌+◌, ◌-◌, ◌*◌, ◌%◌, ◌^◌, ◌<◌, ◌≤◌, ℤ, pos, ◌+ℤ◌, ◌-ℤ◌, List, [], ◌∷◌, ◌++◌, length, slice_index, refl, ap, sym, ◌∙◌, subst, arith, Some, reverse, ints, reverse-append, some, get_elem?, sight, Leaves, bias, every_history, count_place, KeepsCount, CreditView, CreditHolder, credit_mark, credit_object, opened_credit, IsShownCredit, FoundValue, MadeMark, Observed, HeardJoin, State, Act, keeps, stepped, carried_after, Valid, opening, Allows, CreditKind, CreditMark, debit_weight, credit_weight, kind_of, debits, credits, value, AreLawful, Advances, steps, observes, starts, hears, CreditLimits, IsCount, IsInLargeRange}
use Rattle.fak_model.specs.declared.credit.CreditKind.TheVariants.{Debit, Credit}
use Rattle.fak_model.proofs.Leading.{total_push}
use Rattle.fak_count.proofs.CountWords.{writes, added, subtracted}

-- ---- the value after one more mark

pub reverse_cons : {A : Type 0} (a : A) (l : List A) → reverse (a ∷ l) ≡ reverse l ++ a ∷ []
reverse_cons a l = reverse-append (a ∷ []) l

debits_more : (past : List CreditMark) (m : CreditMark) → debits (reverse (m ∷ past)) ≡ debits (reverse past) + debit_weight m.kind
debits_more past m = ap debits (reverse_cons m past) ∙ total_push kind_of debit_weight (reverse past) m

credits_more : (past : List CreditMark) (m : CreditMark) → credits (reverse (m ∷ past)) ≡ credits (reverse past) + credit_weight m.kind
credits_more past m = ap credits (reverse_cons m past) ∙ total_push kind_of credit_weight (reverse past) m

-- each mark is a debit or a credit
all_made : (past : List CreditMark) → debits (reverse past) + credits (reverse past) ≡ length past
all_made [] = refl
all_made (m ∷ past) = omega (arith, all_made past, debits_more past m, credits_more past m, one m.kind)
  where
    one : (k : CreditKind) → debit_weight k + credit_weight k ≡ 1
    one Debit = refl
    one Credit = refl

value_debit : (start name : ℕ) (past : List CreditMark) → value start (reverse (credit_mark name Debit ∷ past)) ≡ value start (reverse past) -ℤ pos 1
value_debit start name past = omega (arith, ints, debits_more past (credit_mark name Debit), credits_more past (credit_mark name Debit))

value_credit : (start name : ℕ) (past : List CreditMark) → value start (reverse (credit_mark name Credit ∷ past)) ≡ value start (reverse past) +ℤ pos 1
value_credit start name past = omega (arith, ints, debits_more past (credit_mark name Credit), credits_more past (credit_mark name Credit))

-- ---- steps

lawful : (key : CreditLimits) → AreLawful (credit_object key)
lawful key past reached = every_history (reverse past)

module _ (key : CreditLimits) (s : State (Unit {0}) CreditView) (r : IsShownCredit key s) (id name : ℕ) (m : CreditHolder) (at : get_elem? s.views id ≡ some m.0) (one : m.0.names ≡ name ∷ []) where
  same_name : (other : ℕ) → m.0.names ≡ other ∷ [] → name ≡ other
  same_name other e = cc (one, e)

  -- the word is far from its ends
  word_fits : (1 ≤ slice_index s.words count_place) × (slice_index s.words count_place < 2 ^ 63)
  word_fits =
      let is = r.encoded.count_is in
      let low = r.reached.0 in
      let few = r.reached.1 in
      let drawn = r.few in
      let made = all_made r.core in
      (omega (arith, ints, is, low, few, drawn, made), omega (arith, ints, is, low, few, drawn, made))

  found_now : FoundValue key (slice_index s.words count_place) r.core
  found_now = (r.encoded.count_is, word_fits.1)

  abbrev Outcome : (ℕ → ℕ) → (ℕ → CreditHolder → Type 0) → Type 0
  Outcome f tells = (w : CreditView) × (a : Act (Unit {0})) × Valid s.homes m.1 a × IsShownCredit key (stepped s count_place (f (slice_index s.words count_place)) id m.1 w a) × tells (slice_index s.words count_place) (w, carried_after m.1 a)

  advances : (kind : CreditKind) → Advances (credit_object key) r.core name (credit_mark name kind ∷ r.core) (credit_mark name kind ∷ []) tt
  advances kind = record { reached = r.reached; past = refl; own = (refl, tt); stands = tt; others = λ k p ne h. tt }

  -- a call that leaves a mark of this kind, and changes the word as f does
  calls : (kind : CreditKind) (f : ℕ → ℕ) → 0 < m.0.left → pos (f (slice_index s.words count_place)) ≡ pos bias +ℤ value key.start (reverse (credit_mark name kind ∷ r.core))
      → Outcome f (MadeMark key kind m)
  calls kind f some_left is =
      let few : suc (length r.core) + (m.0.left - 1) ≤ length r.core + m.0.left = omega (arith, some_left) in
      let t = steps (credit_object key) s r id name m at one (lawful key) (credit_mark name kind ∷ r.core) (credit_mark name kind ∷ []) tt (advances kind) count_place (f (slice_index s.words count_place)) keeps
      (writes s.words (value key.start (reverse r.core)) (value key.start (reverse (credit_mark name kind ∷ r.core))) (f (slice_index s.words count_place)) r.encoded is) (m.0.left - 1) few (FoundValue key (slice_index s.words count_place)) found_now in (
        sight m.0.names m.0.noted (credit_mark name kind ∷ r.core) tt (m.0.left - 1),
        keeps,
        tt,
        t.0,
        λ other e. subst (λ (n : ℕ). Leaves (credit_object key) m (credit_mark n kind ∷ []) tt (m.0.left - 1) m.1 (FoundValue key (slice_index s.words count_place)) (sight m.0.names m.0.noted (credit_mark name kind ∷ r.core) tt (m.0.left - 1), m.1)) (same_name other e) t.1,
      )

  debits_by : 0 < m.0.left → Outcome (λ x. (x + (2 ^ 64 - 1)) % 2 ^ 64) (MadeMark key Debit m)
  debits_by some_left = calls Debit (λ x. (x + (2 ^ 64 - 1)) % 2 ^ 64) some_left
      (subtracted (slice_index s.words count_place) 1 (value key.start (reverse r.core)) r.encoded.count_is word_fits.1 word_fits.0 ∙ ap (λ v. pos bias +ℤ v) (sym (value_debit key.start name r.core)))

  credits_by : 0 < m.0.left → Outcome (λ x. (x + 1) % 2 ^ 64) (MadeMark key Credit m)
  credits_by some_left = calls Credit (λ x. (x + 1) % 2 ^ 64) some_left
      (added (slice_index s.words count_place) 1 (value key.start (reverse r.core)) r.encoded.count_is word_fits.1 (omega arith) ∙ ap (λ v. pos bias +ℤ v) (sym (value_credit key.start name r.core)))

  observes_by : m.0.phase ≡ Some tt → Outcome (λ x. x) (Observed key m)
  observes_by phase =
      let t = observes (credit_object key) s r id name m at one (lawful key) tt phase count_place (FoundValue key (slice_index s.words count_place)) found_now in
      (sight m.0.names m.0.noted r.core tt m.0.left, keeps, tt, t.0, λ other e. t.1)

module _ (key : CreditLimits) (slots id name : ℕ) (m : CreditHolder) (one : m.0.names ≡ name ∷ []) where
  pub debits_allowed : 0 < m.0.left → Allows (IsShownCredit key) slots id m count_place (λ x. (x + (2 ^ 64 - 1)) % 2 ^ 64) (MadeMark key Debit m)
  debits_allowed some_left s r wide at small = debits_by key s r id name m at one some_left

  pub credits_allowed : 0 < m.0.left → Allows (IsShownCredit key) slots id m count_place (λ x. (x + 1) % 2 ^ 64) (MadeMark key Credit m)
  credits_allowed some_left s r wide at small = credits_by key s r id name m at one some_left

  pub observes_allowed : m.0.phase ≡ Some tt → Allows (IsShownCredit key) slots id m count_place (λ x. x) (Observed key m)
  observes_allowed phase s r wide at small = observes_by key s r id name m at one phase

pub hears_allowed : (key : CreditLimits) (slots id : ℕ) (m : CreditHolder) → Allows (IsShownCredit key) slots id m count_place (λ x. x) (λ _. HeardJoin key m)
hears_allowed key slots id m = hears (credit_object key) (lawful key) slots id m count_place

-- ---- opening

-- at the opening the table shows a credit at its start
pub opens_credit : (key : CreditLimits) → IsInLargeRange (IsCount key.start) key.seats key.stint → (ws : List ℕ) → KeepsCount (pos key.start) ws → IsShownCredit key (opening ws [] (opened_credit key))
opens_credit key range ws keeps_start =
    starts (credit_object key) tt (key.seats * key.stint) [] (range.0, range.2.1) refl (λ n low. tt) ws []
    (subst (λ (v : ℤ). KeepsCount v ws) (omega (arith, ints)) keeps_start) (omega arith)
