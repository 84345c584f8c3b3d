use Rattle.std.proofs.Common.{◌≡◌, ◌+◌, ◌-◌, length, rules, arith, ap, sym, ◌∙◌, subst, length-set, Some}
use Rattle.std.specs.Arc.{arc_value}
use Rattle.fak_channel.specs.Standings.{IsSeatOf}
use Rattle.fak_channel.specs.declared.channel.Channel.{Channel as ChannelInfo}
use Rattle.fak_channel.specs.declared.seat.ChannelSeat.{ChannelSeat}
use Rattle.fak_channel.specs.Undealt.{AreUndealt, fresh_channel_seat}
use Rattle.fak_channel.proofs.Deals.{fresh_is_of}
use Rattle.fak_handles.specs.declared.channel.seat.ChannelDesk.{ChannelDesk}
use Rattle.fak_handles.specs.declared.channel.seat.Item.{Item}
use Rattle.fak_handles.specs.declared.desk.Desk.TheVariants.{Channel}
use Rattle.fak_handles.specs.Openings.{IsFreshChannel}
use Rattle.fak_handles.proofs.Seating.{seated_next}
use Rattle.fak_handles.proofs.channel.opening.seat_channel.Goals as goal

pub step_seat-requires : goal.step_seat-requires
step_seat-requires c =
    let channel = arc_value c.args.channel.now in
    let deals = c.in-Some.ensures channel c.args.stint c.loop-i.i (length c.args.handles.now - c.loop-i.i) c.loop-i.invariant.2 in
    let same : arc_value c.args.channel.now ≡ c.deref.result.now = search rules in
    let P : ChannelInfo Item → Type 0 = λ k. IsSeatOf k c.in-Some.seat in
    let Q : ChannelSeat Item → Type 0 = λ s. IsSeatOf channel s in
    subst P same (subst Q (sym deals.1) (fresh_is_of channel c.loop-i.invariant.2.fresh c.args.stint c.loop-i.i))

pub loop-i-preserved : goal.loop-i-preserved
loop-i-preserved c =
    let channel = arc_value c.args.channel.now in
    let deals = c.in-Some.ensures channel c.args.stint c.loop-i.i (length c.args.handles.now - c.loop-i.i) c.loop-i.invariant.2 in
    let long = c.loop-i.invariant.0 in
    let low = c.loop-i-test.true in
    let left : (length c.args.handles.now - c.loop-i.i) - 1 ≡ length c.args.handles.now - (c.loop-i.i + 1) = omega arith in
    let F : ChannelDesk → Type 0 = λ d. (arc_value d.channel ≡ channel) × (d.seat ≡ fresh_channel_seat channel c.args.stint c.loop-i.i) in (
      length-set c.loop-i.handles c.loop-i.i c.put.new.self ∙ long,
      seated_next (IsFreshChannel channel c.args.stint) c.loop-i.i c.loop-i.handles c.put.new.self (omega (arith, long, low)) c.loop-i.invariant.1
          (record {
            desk = Channel c.in-Ok-new.inner;
            held = c.put.ensures ∙ ap (λ d. Some d) c.in-Ok-new-2.ensures.ok;
            fresh = subst F (sym c.in-Ok-new.ensures.ok) (
              c.of-end.ensures.object ∙ c.in-Ok.ensures,
              c.of-end.ensures.seat ∙ (c.step_seat.ensures.seat ∙ deals.1),
            );
          }),
      subst (λ n. AreUndealt channel c.args.stint (c.loop-i.i + 1) n c.next.new.self) left deals.2,
    )
