-- Which downs pass, which park their items, and which ups owe a wake. The values that they found decide.
use Rattle.std.specs.Prelude.{ℕ, ◌+◌, ◌≡◌, ◌==◌, cond, min, length, ℤ, pos, int_lt, List, [], ◌∷◌, ◌++◌}
use Rattle.fak_model.specs.declared.credit.CreditKind.{CreditKind}
use Rattle.fak_model.specs.declared.credit.CreditKind.TheVariants.{Debit, Credit}
use Rattle.fak_model.specs.declared.credit.CreditMark.{CreditMark}
use Rattle.fak_model.specs.declared.queue.Mark.{Mark}
use Rattle.fak_model.specs.Credit.{debits, credits, value}
use Rattle.fak_model.specs.Queue.{count, puts, gots, contents}
use Rattle.fak_model.specs.Seats.{marks_of}
use Rattle.fak_queue.specs.Queues.{seat_of}

-- the sum of what the marks of `rest` weigh at the values that they found; these marks come after `before`
abbrev pub weight_from : (CreditMark → ℤ → ℕ) → ℕ → List CreditMark → List CreditMark → ℕ
weight_from weight start before [] = 0
weight_from weight start before (m ∷ rest) = weight m (value start before) + weight_from weight start (before ++ m ∷ []) rest

-- a debit that found at least 1 passes
abbrev pub passes : CreditKind → ℤ → ℕ
passes Debit found = cond (int_lt (pos 0) found) 1 0
passes Credit found = 0

-- a debit that found less than 1 parks its item
abbrev pub parks : CreditKind → ℤ → ℕ
parks Debit found = cond (int_lt (pos 0) found) 0 1
parks Credit found = 0

-- a credit that found less than 0 wakes an item
abbrev pub wakes : CreditKind → ℤ → ℕ
wakes Debit found = 0
wakes Credit found = cond (int_lt found (pos 0)) 1 0

-- a weight for the marks of all names, and one for the marks of one name
abbrev pub of_all : (CreditKind → ℤ → ℕ) → CreditMark → ℤ → ℕ
of_all weight m found = weight m.kind found

abbrev pub of_name : ℕ → (CreditKind → ℤ → ℕ) → CreditMark → ℤ → ℕ
of_name name weight m found = cond (m.seat == name) (weight m.kind found) 0

-- the number of downs that passed
abbrev pub downs_passed : ℕ → List CreditMark → ℕ
downs_passed start h = weight_from (of_all passes) start [] h

-- for one name: the number of its downs that passed, of its downs that parked, and of its ups that woke
abbrev pub downs_passed_by : ℕ → ℕ → List CreditMark → ℕ
downs_passed_by name start h = weight_from (of_name name passes) start [] h

abbrev pub downs_parked_by : ℕ → ℕ → List CreditMark → ℕ
downs_parked_by name start h = weight_from (of_name name parks) start [] h

abbrev pub ups_waking_by : ℕ → ℕ → List CreditMark → ℕ
ups_waking_by name start h = weight_from (of_name name wakes) start [] h

-- each down of this name that parked has put an item, and each up that woke has got one
pub record IsMatched {T : Type 0} (start name : ℕ) (credit_seen : List CreditMark) (queue_seen : List (Mark T)) : Type 0 where
  pub parked : count puts (marks_of seat_of name queue_seen) ≡ downs_parked_by name start credit_seen
  pub woken : count gots (marks_of seat_of name queue_seen) ≡ ups_waking_by name start credit_seen

-- all calls have ended: the passed downs and the woken items together are the lesser of the downs, and of the start
-- plus the ups; each other down has put its item; the items left are the downs that neither passed nor were woken
pub record IsSettled {T : Type 0} (start : ℕ) (credit_seen : List CreditMark) (queue_seen : List (Mark T)) : Type 0 where
  pub granted : downs_passed start credit_seen + count gots queue_seen ≡ min (debits credit_seen) (start + credits credit_seen)
  pub put : downs_passed start credit_seen + count puts queue_seen ≡ debits credit_seen
  pub left : min (debits credit_seen) (start + credits credit_seen) + length (contents queue_seen) ≡ debits credit_seen
