use Rattle.fak_core.proofs.QueueBlocks.{block_leads, tests_lead, tests_low_lead}
use Rattle.fak_core.proofs.laws.blocks.a_block_is_part_of_a_schedule.Goals as goal

pub returns : goal.returns
returns g c = record { steps = block_leads; insertions = tests_lead; deletions = λ size st seats apart idle. tests_low_lead size st seats apart idle }
