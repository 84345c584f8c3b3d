use Rattle.fak_model.proofs.Common.{take, AreCounts, IsLegalByStage}
use Rattle.fak_model.proofs.checker.first_fault.Given as goal

abbrev pub invariant-loop-i : goal.invariant-loop-i
invariant-loop-i l = record { legal : IsLegalByStage l.size (take l.i l.marks); counts_are : AreCounts (take l.i l.marks) l.counts }
