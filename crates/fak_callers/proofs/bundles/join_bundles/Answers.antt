use Rattle.std.proofs.Common.{◌++◌, ◌∷◌}
use Rattle.fak_queue.specs.Sums.{joined_bundle_first, joined_bundle_next, joined_next, seats_in}
use Rattle.fak_callers.proofs.bundles.join_bundles.Goals as goal

pub returns-clause-joined : goal.returns-clause-joined
returns-clause-joined c = joined_bundle_next c.args.second (joined_next (joined_bundle_first c.args.first c.of_bundle.ensures.tally) c.join-tally.ensures.joined) c.join_bundle.ensures.joined

pub returns-clause-known : goal.returns-clause-known
returns-clause-known c = c.joined_seats_have_observed_one_history.ensures.known c.args.queue.now.size (seats_in c.args.second ++ c.args.seat ∷ seats_in c.args.first) c.join_bundle.result (returns-clause-joined c)
