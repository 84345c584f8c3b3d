use Rattle.std.specs.Prelude.{◌-◌, ◌++◌, length, take, drop}
use Rattle.fak_core.specs.declared.queue.phase.Phase.TheVariants.{Idle, TicketIn}
use Rattle.fak_core.specs.QueueBlocks.{all_at}
use Rattle.fak_queue.specs.declared.phases.Phases.TheVariants.{Each}
use Rattle.fak_queue.specs.Bursts.{idle_posts, pair_up}
use Rattle.fak_queue.proofs.bursts.admission.back_over.Given as goal

-- the names that are over withdraw, and the others stay as they are
abbrev pub ghosts-back_burst : goal.ghosts-back_burst
ghosts-back_burst g a =
    let zs = pair_up a._names.now a._items.now in
    let j = length a._items.now - a.count in
    let others = all_at (λ x. TicketIn x) (take j zs) ++ idle_posts (drop (length a._items.now) a._names.now) in
    record { seats = a.words.now.key.seats; items = drop j zs; others = others; then = Each (all_at (λ x. Idle) (drop j zs) ++ others) }
