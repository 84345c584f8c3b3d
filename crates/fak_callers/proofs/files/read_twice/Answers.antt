use Rattle.std.proofs.Common.{◌≡◌, ℕ, ◌++◌, [], ◌==◌, ap, sym, ◌∙◌, List}
use Rattle.std.proofs.lemmas.List.{append_cancel_left}
use Rattle.std.proofs.lemmas.List.Elements.{filter-append}
use Rattle.fak_model.specs.declared.file.FileMark.{FileMark}
use Rattle.fak_model.specs.Calls.{SeatInfo}
use Rattle.fak_model.specs.File.{seat_of}
use Rattle.fak_model.specs.Seats.{marks_of}
use Rattle.fak_callers.proofs.files.read_twice.Goals as goal

-- what comes after, without a mark of the name more
none_after : (n : ℕ) (h rest t : List FileMark) → h ++ rest ≡ t → marks_of seat_of n t ≡ marks_of seat_of n h ++ [] → marks_of seat_of n rest ≡ []
none_after n h rest t is same =
    append_cancel_left (marks_of seat_of n h) (marks_of seat_of n rest) [] (sym (filter-append (λ (m : FileMark). seat_of m == n) h rest) ∙ (ap (marks_of seat_of n) is ∙ same))

pub returns-clause-same : goal.returns-clause-same
returns-clause-same c =
    let first = c.get-first.ensures.call in
    let second = c.get-second.ensures.call in
    let first_name = ap (λ (s : SeatInfo FileMark). s.name) first.leaves.same_seat in
    let second_name = ap (λ (s : SeatInfo FileMark). s.name) second.leaves.same_seat in
    let seen = c.get-first.new.seat.seat.seen in
    let rest = second.leaves.begins.0 in
    let is = second.leaves.begins.1 in
    let own = ap (λ (n : ℕ). marks_of seat_of n c.get-second.new.seat.seat.seen) (sym second_name) ∙ second.leaves.mine in
    let stays = c.what_a_hold_reads_stays.ensures c.get-first.new.seat.seat.name seen rest (none_after c.get-first.new.seat.seat.name seen rest c.get-second.new.seat.seat.seen is own) in
    cc (first.holding, second.holding, first_name, is, stays.0, stays.1)
