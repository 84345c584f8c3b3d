use Rattle.fak_text.proofs.Common.{rules, history_of, history_in, IsHistoryInRange}
use Rattle.fak_text.proofs.ReadRange.{IfOk-from_Gives}
use Rattle.fak_text.proofs.HistoryRange.{history_is_in_range}
use Rattle.fak_text.proofs.reading.history.read_history.Goals as goal

pub returns-clause-range : goal.returns-clause-range
returns-clause-range c =
    let bytes = c.args.bytes.now in
    IfOk-from_Gives history_of (λ h. IsHistoryInRange h) c.history_from.result (history_in bytes) (search rules) (history_is_in_range bytes)
