-- A seat's token between two steps of one call.
use Rattle.atomic_table.specs.Seated.{TableId}
use Rattle.fak_queue.proofs.Common.{◌≡◌, ℕ, ◌∙◌, QueueLimits, FitsTable}

-- a token that has kept its table still fits
pub still_fits : {id old new : TableId} {key : QueueLimits} {seats : ℕ} → FitsTable old id key seats → new ≡ old → FitsTable new id key seats
still_fits t same = record { same = same ∙ t.same; few = t.few; words = t.words }
