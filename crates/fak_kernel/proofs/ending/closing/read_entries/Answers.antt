use Rattle.fak_kernel.proofs.Common.{[], ◌∷◌, ◌++◌, List, ap, ◌∙◌, arith, FileEntry}
use Rattle.fak_kernel.proofs.Closing.{take_more, take_all}
use Rattle.fak_kernel.proofs.ending.closing.read_entries.Goals as goal

pub loop-i-preserved : goal.loop-i-preserved
loop-i-preserved c =
    c.in_ok-push.ensures.items ∙ (ap (λ (l : List FileEntry). l ++ c.get.result ∷ []) c.loop-i.invariant ∙ take_more c.loop-i.i c.args.rest c.get.result c.get.ensures)

pub returns : goal.returns
returns c = record { entries = c.loop-i.invariant ∙ take_all c.loop-i.i c.args.rest (omega (arith, c.loop-i.auto.i-end, c.loop-i-test.false, c.requires)) }
