-- Seats of credits: what is asked of the library, and what the exported functions return.
use Rattle.std.specs.Prelude.{◌≡◌, ◌+◌, ℕ, ℤ, pos, Result, Ok, Err, MatchResult}
use Rattle.std.specs.Arc.{arc_value}
use Rattle.fak_model.specs.declared.credit.CreditKind.{CreditKind}
use Rattle.fak_count.specs.declared.fault.Worn.{Worn}
use Rattle.fak_count.specs.Credits as credits
use Rattle.fak_count.specs.Credits.{calls_made}
use Rattle.fak_handles.specs.declared.credit.seat.CreditDesk.{CreditDesk}

abbrev pub SameCredit : CreditDesk → CreditDesk → Type 0
SameCredit d e = arc_value e.credit ≡ arc_value d.credit

abbrev pub worn_code : Result ℤ Worn → ℤ
worn_code (Ok v) = pos 0
worn_code (Err w) = pos 5

abbrev pub old_or : ℤ → Result ℤ Worn → ℤ
old_or n (Ok v) = v
old_or n (Err w) = n

pub record MovesCredit (kind : CreditKind) (code before after : ℤ) (d e : CreditDesk) : Type 0 where
  pub answer : Result ℤ Worn
  pub code_is : code ≡ worn_code answer
  pub found_is : after ≡ old_or before answer
  pub call : MatchResult answer (credits.MakesCall kind (arc_value d.credit) d.seat e.seat) (λ _. credits.IsWorn d.seat e.seat)

pub record LoadsCredit (code value : ℤ) (left : ℕ) (d e : CreditDesk) : Type 0 where
  pub code_is : code ≡ pos 0
  pub call : credits.Observes (arc_value d.credit) d.seat e.seat value
  pub left_is : left + calls_made e.seat ≡ e.seat.stint
