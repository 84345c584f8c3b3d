use Rattle.fak_channel.proofs.Drained.{insertions_ended, deletions_ended}
use Rattle.fak_channel.proofs.laws.a_drained_channel_has_no_granted_call.Goals as goal

pub returns-clause-insertions : goal.returns-clause-insertions
returns-clause-insertions g c = insertions_ended

pub returns-clause-deletions : goal.returns-clause-deletions
returns-clause-deletions g c = deletions_ended
