use Rattle.fak_core.proofs.Common.{refl, inl}
use Rattle.fak_channel_core.proofs.laws.sleeper_examples.a_deadline_loses_no_wake_up.Goals as goal

pub returns-clause-out : goal.returns-clause-out
returns-clause-out c = (record { idle = refl; for_senders = refl; for_receivers = refl; checks = refl; sender = inl refl; receiver = inl refl }, refl)

pub returns-clause-passed : goal.returns-clause-passed
returns-clause-passed c = (record { idle = refl; for_senders = refl; for_receivers = refl; checks = refl; sender = inl refl; receiver = inl refl }, refl)
