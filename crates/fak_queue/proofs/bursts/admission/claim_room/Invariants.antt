use Rattle.std.specs.Prelude.{length, drop}
use Rattle.fak_core.specs.declared.queue.phase.Phase.TheVariants.{Idle}
use Rattle.fak_queue.specs.declared.phases.Phases.TheVariants.{Alike}
use Rattle.fak_queue.specs.Bursts.{idle_posts, pair_up}
use Rattle.fak_queue.proofs.bursts.admission.claim_room.Given as goal

-- all names that have an item take part, and the others rest
abbrev pub ghosts-test_burst : goal.ghosts-test_burst
ghosts-test_burst g a = record { seats = a.words.now.key.seats; items = pair_up a._names.now a._items.now; others = idle_posts (drop (length a._items.now) a._names.now); then = Alike Idle }

abbrev pub ghosts-add_burst : goal.ghosts-add_burst
ghosts-add_burst g a = record { seats = a.words.now.key.seats; items = pair_up a._names.now a._items.now; others = idle_posts (drop (length a._items.now) a._names.now); then = Alike Idle }

abbrev pub ghosts-back_burst : goal.ghosts-back_burst
ghosts-back_burst g a = record { seats = a.words.now.key.seats; items = pair_up a._names.now a._items.now; others = idle_posts (drop (length a._items.now) a._names.now); then = Alike Idle }
