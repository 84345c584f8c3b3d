use Rattle.fak_queue.proofs.BundleMaking.{inserts_next, name_there}
use Rattle.fak_queue.proofs.bundling.insert_names.Goals as goal

pub insert-requires : goal.insert-requires
insert-requires c = c.requires _ (name_there c.args.names.now c.loop-name.name-index c.loop-name-test.true)

pub loop-name-preserved : goal.loop-name-preserved
loop-name-preserved c = inserts_next _ _ _ c.args.names.now c.loop-name.name-index c.loop-name-test.true c.loop-name.invariant c.insert.ensures
