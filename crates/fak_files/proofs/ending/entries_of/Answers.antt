use Rattle.fak_files.proofs.Common.{rules, entry_in, slots_items}
use Rattle.fak_files.proofs.Closing.{read_more, entry_read}
use Rattle.fak_files.proofs.ending.entries_of.Goals as goal

pub loop-i-preserved : goal.loop-i-preserved
loop-i-preserved c = (
  search rules,
  read_more c.loop-i.entries c.loop-i.i _ (entry_in (slots_items c.args.closed.now.words)) (search rules)
      (entry_read (slots_items c.args.closed.now.words) c.loop-i.i c.place_of.result c.place_of-in-loop-i.result _ _ c.place_of.ensures c.place_of-in-loop-i.ensures c.word.ensures c.word-in-loop-i.ensures)
      c.loop-i.invariant.1,
)
