use Rattle.fak_processor.proofs.Common.{◌<◌, length, sets_entry, found_at, left_sets}
use Rattle.fak_processor.proofs.seats.files.Files.store.Goals as goal

pub returns-clause-only : goal.returns-clause-only
returns-clause-only c = λ o.
    let within = rw c.in-Some.is at c.requires.within in
    let below : c.in-Some.i < length c.self.inside.entries.items = rw (← c.self.view_is) at within in
    rw (c.in-Some.is, ← c.self.view_is) (record { e = c.index-e.result.now; in_copy = found_at c.self.inside.entries.items c.in-Some.i c.index-e.result.now below c.index-e.ensures; puts = sets_entry o c.set.ensures.call c.set-2.ensures.call })

pub returns-clause-left : goal.returns-clause-left
returns-clause-left c =
    let within = rw c.in-Some.is at c.requires.within in
    let below : c.in-Some.i < length c.self.inside.entries.items = rw (← c.self.view_is) at within in
    rw (c.in-Some.is, ← c.self.view_is) (left_sets c.self.inside.entries.items c.in-Some.i c.index-e.result.now c.args.seat.now c.set.new.seat c.set-2.new.seat (found_at c.self.inside.entries.items c.in-Some.i c.index-e.result.now below c.index-e.ensures) c.set.ensures.call c.set-2.ensures.call)
