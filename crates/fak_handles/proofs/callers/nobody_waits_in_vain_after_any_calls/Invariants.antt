use Rattle.std.proofs.Common.{IsTrue}
use Rattle.fak_handles.specs.channel.Lending.{NobodyWaitsInVain}
use Rattle.fak_handles.proofs.callers.nobody_waits_in_vain_after_any_calls.Given as goal

abbrev pub invariant-loop-call : goal.invariant-loop-call
invariant-loop-call l = IsTrue l.is_open → NobodyWaitsInVain l.lending
