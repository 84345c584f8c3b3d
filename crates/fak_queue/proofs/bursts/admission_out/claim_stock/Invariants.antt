use Rattle.std.specs.Prelude.{length, drop}
use Rattle.fak_core.specs.declared.queue.phase.Phase.TheVariants.{Idle}
use Rattle.fak_queue.specs.declared.phases.Phases.TheVariants.{Alike}
use Rattle.fak_queue.specs.Bursts.{idle_posts, pair_up, units}
use Rattle.fak_queue.proofs.bursts.admission_out.claim_stock.Given as goal

-- as many names as are counted take part, and the others rest
abbrev pub ghosts-test_low_burst : goal.ghosts-test_low_burst
ghosts-test_low_burst g a = record { seats = a.words.now.key.seats; items = pair_up a._names.now (units a._part); others = idle_posts (drop (length (units a._part)) a._names.now); then = Alike Idle }

abbrev pub ghosts-sub_burst : goal.ghosts-sub_burst
ghosts-sub_burst g a = record { seats = a.words.now.key.seats; items = pair_up a._names.now (units a._part); others = idle_posts (drop (length (units a._part)) a._names.now); then = Alike Idle }

abbrev pub ghosts-back_low_burst : goal.ghosts-back_low_burst
ghosts-back_low_burst g a = record { seats = a.words.now.key.seats; items = pair_up a._names.now (units a._part); others = idle_posts (drop (length (units a._part)) a._names.now); then = Alike Idle }
