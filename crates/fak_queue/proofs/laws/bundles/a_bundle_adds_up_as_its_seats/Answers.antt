use Rattle.fak_model.specs.Weights.{got_of, put_of}
use Rattle.fak_queue.proofs.BundleShares.{broken_weighs, made_weighs}
use Rattle.fak_queue.proofs.Common.{sym}
use Rattle.fak_queue.proofs.Weighing.{bundle_weighs}
use Rattle.fak_queue.proofs.laws.bundles.a_bundle_adds_up_as_its_seats.Goals as goal

pub returns-clause-made : goal.returns-clause-made
returns-clause-made g c = λ size seats bundle b w. (made_weighs (put_of w) size seats bundle b, made_weighs (got_of w) size seats bundle b)

pub returns-clause-broken : goal.returns-clause-broken
returns-clause-broken g c = λ bundle seats a w. (broken_weighs (put_of w) bundle seats a, broken_weighs (got_of w) bundle seats a)

pub returns-clause-inside : goal.returns-clause-inside
returns-clause-inside g c = λ bundle w. (sym (bundle_weighs (put_of w) bundle bundle.names), sym (bundle_weighs (got_of w) bundle bundle.names))
