use Rattle.fak_text.proofs.MarkNames.{mark_is_read}
use Rattle.fak_text.proofs.laws.each_mark_is_read_by_its_name.Goals as goal

pub returns : goal.returns
returns c = mark_is_read
