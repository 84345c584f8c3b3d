-- What is open of a bundle's burst.
use Rattle.std.specs.Prelude.{◌-◌, ℕ}
use Rattle.fak_queue.specs.declared.bundle.BundleState.{BundleState}
use Rattle.fak_queue.specs.declared.bundle.BundleState.TheVariants.{Idle, Inserting, Deleting}

-- how many insertions or deletions of the burst have not ended in the queue
abbrev pub open_in : BundleState → ℕ
open_in Idle = 0
open_in (Inserting ticket ended granted) = granted - ended
open_in (Deleting ticket ended granted) = granted - ended
