-- The histories of a credit: a count that debits lower and credits raise, without a test.
use Rattle.std.specs.Prelude.{ℕ, ◌+◌, cond, ℤ, pos, ◌-ℤ◌, int_lt, List, [], ◌∷◌, ◌++◌, map}
use Rattle.std.specs.List.{sum_by}
use Rattle.fak_model.specs.declared.credit.CreditKind.{CreditKind}
use Rattle.fak_model.specs.declared.credit.CreditKind.TheVariants.{Debit, Credit}
use Rattle.fak_model.specs.declared.credit.CreditMark.{CreditMark}
use Rattle.fak_model.specs.Histories.{Rules, IsHistory}

abbrev pub debit_weight : CreditKind → ℕ
debit_weight Debit = 1
debit_weight Credit = 0

abbrev pub credit_weight : CreditKind → ℕ
credit_weight Debit = 0
credit_weight Credit = 1

abbrev pub kind_of : CreditMark → CreditKind
kind_of m = m.kind

abbrev pub debits : List CreditMark → ℕ
debits h = sum_by debit_weight (map kind_of h)

abbrev pub credits : List CreditMark → ℕ
credits h = sum_by credit_weight (map kind_of h)

-- start + Credits - Debits
abbrev pub value : ℕ → List CreditMark → ℤ
value start p = pos (start + credits p) -ℤ pos (debits p)

-- 1 if a mark grants, else 0: a Debit grants if it found at least 1, a Credit if it found less than 0
abbrev pub grants : ℤ → CreditKind → ℕ
grants found Debit = cond (int_lt (pos 0) found) 1 0
grants found Credit = cond (int_lt found (pos 0)) 1 0

-- the number of grants among the marks of `rest`, which come after `before`
abbrev pub grants_made_from : ℕ → List CreditMark → List CreditMark → ℕ
grants_made_from start before [] = 0
grants_made_from start before (m ∷ rest) = grants (value start before) m.kind + grants_made_from start (before ++ m ∷ []) rest

abbrev pub grants_made : ℕ → List CreditMark → ℕ
grants_made start h = grants_made_from start [] h

-- each mark is a whole call, and may come anywhere
abbrev pub credit_rules : Rules CreditMark CreditKind CreditKind
credit_rules = record {
  seat_of = λ (m : CreditMark). m.seat;
  word_of = kind_of;
  words_of = λ (k : CreditKind). k ∷ [];
  IsFair = λ before m. Unit {0};
}

abbrev pub IsCreditHistory : List CreditMark → Type 0
IsCreditHistory h = IsHistory credit_rules h
