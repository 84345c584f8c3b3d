use Rattle.fak_core.proofs.Common.{refl}
use Rattle.fak_channel_core.proofs.laws.sleeper_examples.a_sign_that_is_not_true_is_judged.Goals as goal

pub returns-clause-sleeper : goal.returns-clause-sleeper
returns-clause-sleeper c = record { asleep = refl; bit = refl }
