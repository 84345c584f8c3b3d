use Rattle.std.specs.Prelude.{length, ◌-◌, ◌++◌, take, drop}
use Rattle.fak_core.specs.declared.queue.phase.Phase.TheVariants.{Idle, TicketOut}
use Rattle.fak_core.specs.QueueBlocks.{all_at}
use Rattle.fak_queue.specs.declared.phases.Phases.TheVariants.{Each}
use Rattle.fak_queue.specs.Bursts.{idle_posts, pair_up, units}
use Rattle.fak_queue.proofs.bursts.admission_out.back_over_low.Given as goal

-- the names that are over withdraw, and the others stay as they are
abbrev pub ghosts-back_low_burst : goal.ghosts-back_low_burst
ghosts-back_low_burst g a =
    let zs = pair_up a._names.now (units a._part) in
    let j = a._part - a.count in
    let others = all_at (λ x. TicketOut) (take j zs) ++ idle_posts (drop (length (units a._part)) a._names.now) in
    record { seats = a.words.now.key.seats; items = drop j zs; others = others; then = Each (all_at (λ x. Idle) (drop j zs) ++ others) }
