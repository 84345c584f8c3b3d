use Rattle.std.proofs.Common.{ap, subst, sym, None, Some, MatchOption, ◌≡◌}
use borrow.Follows.Closed.{read_of}
use Rattle.core.specs.Option.{ghost_name_of}
use Rattle.fak_handles.specs.DeskLending.{with_seat_at}
use Rattle.fak_handles.proofs.padded_handle.PaddedHandle.lend.Goals as goal

pub returns-in-Some : goal.returns-in-Some
returns-in-Some g c =
    let p = c.args.self.now in
    let is = c.in-Some.ensures.value in (
      ap (λ k. read_of (ghost_name_of c.lend.result) (with_seat_at g.K.SeatKind.with_seat p k) (record p { handle = record p.handle { desk = k } })) (sym is),
      record { writes_back = tt; value = subst (λ k. MatchOption c.lend.result (g.K.SeatKind.seat_in k ≡ None) (λ r. g.K.SeatKind.seat_in k ≡ Some r.now)) (sym is) c.lend.ensures.value },
    )
