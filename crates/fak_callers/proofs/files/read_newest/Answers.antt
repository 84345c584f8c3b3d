use Rattle.std.proofs.Common.{ap, arith}
use Rattle.fak_model.specs.declared.file.FileMark.{FileMark}
use Rattle.fak_model.specs.Calls.{SeatInfo}
use Rattle.fak_model.specs.declared.file.FileField.TheVariants.{Inode, Uses}
use Rattle.fak_callers.proofs.files.read_newest.Goals as goal

pub returns-clause-newest : goal.returns-clause-newest
returns-clause-newest c =
    let made = c.get-entry.ensures.call.leaves in
    let name = ap (λ (s : SeatInfo FileMark). s.name) made.same_seat in
    let seats = ap (λ (s : SeatInfo FileMark). s.object.seats) made.same_seat in
    let holds = rw (c.get-entry.ensures.hold, c.requires.held.1) at c.hold-hold.ensures.marks in
    let field = c.the_fields_of_a_hold_are_those_of_its_take.ensures c.args.seat.now.seat.object.seats c.get-entry.new.seat.seat.object.seats c.get-entry.new.seat.seat.seen made.lawful made.named
    c.get-entry.new.seat.seat.name (omega (arith, name, seats)) (omega (arith, holds)) in
    cc (c.get-entry.ensures.call.holding, name, field c.args.i Inode, field c.args.i Uses)
