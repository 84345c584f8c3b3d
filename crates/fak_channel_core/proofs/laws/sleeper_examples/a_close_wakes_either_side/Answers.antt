use Rattle.fak_core.proofs.Common.{refl, inl}
use Rattle.fak_channel_core.proofs.SleeperCases.{not_set}
use Rattle.fak_channel_core.proofs.laws.sleeper_examples.a_close_wakes_either_side.Goals as goal

pub returns-clause-receiver : goal.returns-clause-receiver
returns-clause-receiver c = (λ sleeps. absurd (not_set sleeps.bit), record { idle = refl; for_senders = refl; for_receivers = refl; checks = refl; sender = inl refl; receiver = inl refl })

pub returns-clause-sender : goal.returns-clause-sender
returns-clause-sender c = (λ sleeps. absurd (not_set sleeps.bit), record { idle = refl; for_senders = refl; for_receivers = refl; checks = refl; sender = inl refl; receiver = inl refl })
