use Rattle.fak_core.proofs.Common.{refl}
use Rattle.fak_channel_core.proofs.laws.sleeper_examples.a_withdrawal_and_a_last_deletion_owe_looks.Goals as goal

pub returns-clause-late : goal.returns-clause-late
returns-clause-late c = (record { asleep = refl; bit = refl }, refl)
