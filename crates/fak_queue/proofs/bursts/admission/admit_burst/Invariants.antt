use Rattle.std.specs.Prelude.{◌++◌, length, take, drop}
use Rattle.fak_core.specs.declared.queue.phase.Phase.TheVariants.{Idle}
use Rattle.fak_core.specs.QueueBlocks.{all_at}
use Rattle.fak_queue.specs.declared.phases.Phases.TheVariants.{Alike}
use Rattle.fak_queue.specs.Bursts.{idle_posts, pair_up}
use Rattle.fak_queue.proofs.bursts.admission.admit_burst.Given as goal

-- the names that were granted draw, and the others rest
abbrev pub ghosts-draw_burst : goal.ghosts-draw_burst
ghosts-draw_burst g a =
    let zs = pair_up a._names.now a._items.now in
    record { seats = a.words.now.key.seats; items = take a.count zs; others = all_at (λ x. Idle) (drop a.count zs) ++ idle_posts (drop (length a._items.now) a._names.now); then = Alike Idle }
