use Rattle.fak_processor.proofs.Common.{◌∙◌, [], ap, inl, refl, sym, Read, uses_of, taken_of, made_by_sets, left_none, waited_for, ended, keeps_files_then}
use Rattle.fak_text.specs.Journal.{statted}
use Rattle.fak_processor.proofs.Spent.{worn_file}
use Rattle.fak_processor.proofs.seats.files.Files.uses_shared.Goals as goal

pub returns-clause-only : goal.returns-clause-only
returns-clause-only g c = λ o.
    let a = waited_for o c.in-Ok.ensures.call in
    let b = c.refresh.ensures.only a.only in
    let d = ended b.0.only c.end.ensures.call in
    (keeps_files_then a (keeps_files_then b.0 d), c.uses-uses.ensures ∙ ap (λ xs. uses_of xs c.args.inode) (b.1 ∙ a.entries c.args.table.now.entries))

pub returns-clause-made : goal.returns-clause-made
returns-clause-made g c =
    let n = c.args.table.now.entries in
    let taken = taken_of n Read c.args.seat.now c.read.new.seat c.in-Ok.ensures.call in
    made_by_sets n Read (statted c.args.inode c.uses-uses.result) [] _ _ _ _ _ taken c.refresh.ensures.left (left_none c.refresh.new.seat.seat) c.end.ensures.call.leaves
    (ap (λ xs. uses_of xs c.args.inode) (sym (c.refresh.ensures.read taken.just)) ∙ sym c.uses-uses.ensures, refl) (inl refl)

pub returns-in_default-clause-spent : goal.returns-in_default-clause-spent
returns-in_default-clause-spent g c = worn_file c.in_default.ensures.call
