-- A queue that is shut and empty for good.
use Rattle.std.specs.Prelude.{ℕ, List, pos, ◌≤ℤ◌}
use Rattle.fak_model.specs.declared.queue.Kind.{Kind}
use Rattle.fak_model.specs.declared.queue.Kind.TheVariants.{ClaimIn, ClaimOut, Close}
use Rattle.fak_model.specs.declared.queue.Mark.{Mark}
use Rattle.fak_model.specs.Queue.{Has, upper_count}

-- the queue is shut, and no cell is in use
abbrev pub IsDrained : {T : Type 0} → List (Mark T) → Type 0
IsDrained h = Has Close h × (upper_count h ≤ℤ pos 0)

-- a granted claim of an insertion, and of a deletion
abbrev pub claim_in_of : {T : Type 0} → Kind T → ℕ
claim_in_of ClaimIn = 1
claim_in_of _ = 0

abbrev pub claim_out_of : {T : Type 0} → Kind T → ℕ
claim_out_of ClaimOut = 1
claim_out_of _ = 0
