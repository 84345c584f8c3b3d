use Rattle.fak_core.proofs.Common.{refl, inl, inr, arith}
use Rattle.fak_channel_core.specs.SleeperSchedule.{IsResting}
use Rattle.fak_channel_core.specs.SleeperExamples.{after_schedule, receiver_sleeps, receiver_ends}
use Rattle.fak_channel_core.proofs.SleeperCases.{of_three, not_set, not_one}
use Rattle.fak_channel_core.proofs.laws.sleeper_examples.a_send_wakes_a_receiver.Goals as goal

pub returns-clause-sleeps : goal.returns-clause-sleeps
returns-clause-sleeps c = record { asleep = refl; bit = refl }

pub returns-clause-rest : goal.returns-clause-rest
returns-clause-rest c = of_three (IsResting (after_schedule receiver_sleeps))
    (record { idle = refl; for_senders = refl; for_receivers = refl; checks = refl; sender = inl refl; receiver = inr (record { asleep = refl; bit = refl }) })
    (record { idle = refl; for_senders = refl; for_receivers = refl; checks = refl; sender = inl refl; receiver = inl refl })
    (record { idle = refl; for_senders = refl; for_receivers = refl; checks = refl; sender = inl refl; receiver = inl refl })

pub returns-clause-beside : goal.returns-clause-beside
returns-clause-beside c = (record { asleep = refl; bit = refl }, refl)

pub returns-clause-busy : goal.returns-clause-busy
returns-clause-busy c all = absurd (not_one ((all 1 (omega arith)).for_receivers))

pub returns-clause-woken : goal.returns-clause-woken
returns-clause-woken c sleeps = absurd (not_set sleeps.bit)

pub returns-clause-paid : goal.returns-clause-paid
returns-clause-paid c = record { idle = refl; for_senders = refl; for_receivers = refl; checks = refl; sender = inl refl; receiver = inl refl }

pub returns-clause-ends : goal.returns-clause-ends
returns-clause-ends c = of_three (IsResting (after_schedule receiver_ends))
    (record { idle = refl; for_senders = refl; for_receivers = refl; checks = refl; sender = inl refl; receiver = inl refl })
    (record { idle = refl; for_senders = refl; for_receivers = refl; checks = refl; sender = inl refl; receiver = inl refl })
    (record { idle = refl; for_senders = refl; for_receivers = refl; checks = refl; sender = inl refl; receiver = inl refl })
