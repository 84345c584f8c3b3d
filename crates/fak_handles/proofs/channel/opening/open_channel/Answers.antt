use Rattle.std.proofs.Common.{refl, inl, sym, subst}
use Rattle.std.specs.Arc.{arc_value}
use Rattle.fak_model.specs.Limits.{IsInLargeRange}
use Rattle.fak_queue.specs.Refusals.{IsLargeSize}
use Rattle.fak_handles.proofs.Seating.{opened_channel}
use Rattle.fak_handles.proofs.channel.opening.open_channel.Goals as goal

pub returns-then-seat_channel-clause-opens : goal.returns-then-seat_channel-clause-opens
returns-then-seat_channel-clause-opens c =
    let len = c.seat_channel.ensures.len in
    let made = c.in-Ok.ensures in
    inl (refl, subst (λ k. IsInLargeRange (IsLargeSize c.args.size) k c.args.stint) (sym len) made.0, opened_channel len c.in-Ok.channel (arc_value c.in-Ok-new.channel) c.in-Ok-new.ensures.ok made.1 made.2 (c.seat_channel.ensures.seated c.if-seat_channel.true))
