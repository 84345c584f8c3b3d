use Rattle.std.proofs.Common.{ap, ◌∙◌, arith}
use Rattle.fak_model.specs.declared.file.FileMark.{FileMark}
use Rattle.fak_model.specs.Calls.{SeatInfo}
use Rattle.fak_callers.proofs.files.write_alone.Goals as goal

pub returns-in-Ok-clause-alone : goal.returns-in-Ok-clause-alone
returns-in-Ok-clause-alone c granted other low apart =
    let made = c.in-Ok.ensures.call.leaves in
    let name = ap (λ (s : SeatInfo FileMark). s.name) made.same_seat in
    let seats = ap (λ (s : SeatInfo FileMark). s.object.seats) made.same_seat in
    let holds = rw c.in-Ok.ensures.hold at c.hold-hold.ensures.marks in
    c.a_writer_is_alone.ensures _ _ _ made.lawful made.named _ other (omega (arith, name, seats)) low apart (holds ∙ seats)
