use Rattle.fak_text.proofs.Common.{rules}
use Rattle.fak_text.specs.HistoryText.{mark_from}
use Rattle.fak_text.proofs.reading.history.mark_from.Goals as goal

pub returns-then-complete : goal.returns-then-complete
unfolding mark_from
returns-then-complete c = search rules
