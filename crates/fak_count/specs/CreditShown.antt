-- What a running credit shows between two steps, and what a seat learns from each step.
use Rattle.std.specs.Prelude.{ℕ, ◌*◌, ◌-◌, ◌^◌, ◌<◌, ◌≤◌, ◌≡◌, pos, ◌+ℤ◌, List, [], ◌∷◌, length, reverse}
use Rattle.atomic_table.specs.Table.{State, Me}
use Rattle.fak_model.specs.declared.view.View.{View}
use Rattle.fak_model.specs.declared.credit.CreditKind.{CreditKind}
use Rattle.fak_model.specs.declared.credit.CreditMark.{CreditMark}
use Rattle.fak_model.specs.Credit.{credit_rules, value}
use Rattle.fak_model.specs.Views.{opened}
use Rattle.fak_model.specs.Shown.{Object, IsShown, Leaves, Hears}
use Rattle.fak_count.specs.declared.credits.limits.CreditLimits.{CreditLimits}
use Rattle.fak_count.specs.Opening.{IsCount}
use Rattle.fak_model.specs.Words.{bias}
use Rattle.fak_count.specs.Words.{KeepsCount}

abbrev pub CreditView : Type 0
CreditView = View CreditMark (Unit {0})

abbrev pub CreditHolder : Type 0
CreditHolder = Me (Unit {0}) CreditView

abbrev pub credit_mark : ℕ → CreditKind → CreditMark
credit_mark name kind = record { seat = name; kind = kind }

-- a credit's state is its past, and every past can be reached; each debit and credit draws a ticket, and the limits hold
abbrev pub credit_object : CreditLimits → Object CreditMark CreditKind CreditKind (Unit {0}) (List CreditMark) (Unit {0})
credit_object key = record {
  rules = credit_rules;
  seats = key.seats;
  tickets = key.seats * key.stint;
  drawn_of = λ past. length past;
  past_of = λ past. past;
  IsReached = λ past. IsCount key.start × (key.seats * key.stint ≤ 1125899906842624);
  StandsAt = λ past name phase. Unit {0};
  Encodes = λ past notes words homes. KeepsCount (value key.start (reverse past)) words;
}

abbrev pub IsShownCredit : CreditLimits → State (Unit {0}) CreditView → Type 0
IsShownCredit key s = IsShown (credit_object key) s

abbrev pub opened_credit : CreditLimits → CreditView
opened_credit key = opened tt key.seats (key.seats * key.stint)

-- the word that was found holds the value after this past
abbrev pub FoundValue : CreditLimits → ℕ → List CreditMark → Type 0
FoundValue key found past = (pos found ≡ pos bias +ℤ value key.start (reverse past)) × (found < 2 ^ 63)

-- the seat left one mark, and drew a ticket
abbrev pub MadeMark : CreditLimits → CreditKind → CreditHolder → ℕ → CreditHolder → Type 0
MadeMark key kind m found after = (name : ℕ) → m.0.names ≡ name ∷ [] → Leaves (credit_object key) m (credit_mark name kind ∷ []) tt (m.0.left - 1) m.1 (FoundValue key found) after

-- the seat saw more, and left no mark
abbrev pub Observed : CreditLimits → CreditHolder → ℕ → CreditHolder → Type 0
Observed key m found after = (name : ℕ) → m.0.names ≡ name ∷ [] → Leaves (credit_object key) m [] tt m.0.left m.1 (FoundValue key found) after

abbrev pub HeardJoin : CreditLimits → CreditHolder → CreditHolder → Type 0
HeardJoin key m after = Hears (credit_object key) m after
