use Rattle.fak_text.specs.Journal.{closed}
use Rattle.fak_processor.proofs.Common.{close_change, sets_of, ◌∙◌, refl, inr, rules, Write, taken_of, made_by_sets, stores_change, waited_for, ended, changes_files, close_one, keeps_files_then, stored_only}
use Rattle.fak_processor.proofs.Spent.{worn_file}
use Rattle.fak_processor.proofs.seats.files.Files.close_shared.Goals as goal

pub returns-clause-only : goal.returns-clause-only
returns-clause-only g c = λ o.
    let a = waited_for o c.in-Ok.ensures.call in
    let b = c.refresh.ensures.only a.only in
    changes_files (λ xs. close_change xs c.args.inode) c.refresh.new.self c.close-entry.new.self c.close-entry.result (keeps_files_then a b.0) (b.1 ∙ a.entries c.args.table.now.entries) c.close-entry.ensures.change (close_one c.refresh.new.self c.args.inode)
    (c.store.ensures.only b.0.only) (ended (stored_only _ _ _ c.close-entry.result (c.store.ensures.only b.0.only)) c.end.ensures.call)

pub returns-clause-made : goal.returns-clause-made
returns-clause-made g c =
    let n = c.args.table.now.entries in
    let taken = taken_of n Write c.args.seat.now c.write.new.seat c.in-Ok.ensures.call in
    made_by_sets n Write (closed c.args.inode c.close-entry.result) (sets_of c.close-entry.new.self c.close-entry.result) _ _ _ _ _ taken c.refresh.ensures.left c.store.ensures.left c.end.ensures.call.leaves
    (stores_change (λ xs. close_change xs c.args.inode) _ c.refresh.new.self c.close-entry.new.self c.close-entry.result (c.refresh.ensures.read taken.just) c.close-entry.ensures.change (close_one c.refresh.new.self c.args.inode) (search rules)) (inr refl)

pub returns-in_default-clause-spent : goal.returns-in_default-clause-spent
returns-in_default-clause-spent g c = worn_file c.in_default.ensures.call
