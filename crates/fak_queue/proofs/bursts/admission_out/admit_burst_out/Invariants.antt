use Rattle.std.specs.Prelude.{length, ◌++◌, take, drop}
use Rattle.fak_core.specs.declared.queue.phase.Phase.TheVariants.{Idle}
use Rattle.fak_core.specs.QueueBlocks.{all_at}
use Rattle.fak_queue.specs.declared.phases.Phases.TheVariants.{Alike}
use Rattle.fak_queue.specs.Bursts.{idle_posts, pair_up, units}
use Rattle.fak_queue.proofs.bursts.admission_out.admit_burst_out.Given as goal

-- the names that were granted draw, and the others rest
abbrev pub ghosts-draw_out_burst : goal.ghosts-draw_out_burst
ghosts-draw_out_burst g a =
    let zs = pair_up a._names.now (units a._part) in
    record { seats = a.words.now.key.seats; items = take a.count zs; others = all_at (λ x. Idle) (drop a.count zs) ++ idle_posts (drop (length (units a._part)) a._names.now); then = Alike Idle }
