use Rattle.fak_core.proofs.Common.{Phase, Idle, AddUp, ◌≡◌, ℕ, refl, ap}
use Rattle.fak_core.specs.BlockExamples.{three}
use Rattle.fak_core.specs.QueueBlocks.{insertion_tests}
use Rattle.fak_core.proofs.laws.examples.blocks.the_steps_of_a_block_are_judged.Goals as goal

pub returns-clause-lead : goal.returns-clause-lead
returns-clause-lead c = record { leads = refl; reached = λ R. record { schedule = insertion_tests three; leads = refl } }

pub returns-clause-astray : goal.returns-clause-astray
returns-clause-astray c lead = let at_2 : ◌≡◌ {A = Phase ℕ} Idle (AddUp 12) = ap (λ st. st.phase 2) lead.leads in absurd cc
