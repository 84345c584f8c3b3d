use Rattle.std.proofs.Common.{◌<◌, ◌^◌, ap, sym, ◌∙◌, length, arith, pos}
use Rattle.std.proofs.lemmas.Int.{to_z_pos}
use Rattle.std.specs.Int.{w64}
use Rattle.fak_queue.specs.SleeperSeats.{fresh_sleeper}
use Rattle.fak_channel.proofs.Deals.{length-dealt}
use Rattle.fak_channel.proofs.channel.Channel.open_undealt.Goals as goal

pub returns : goal.returns
returns g c =
    let opened = c.in-Ok.ensures in
    let range = opened.0 in
    let some = range.1.0 in
    let small = range.0.1 in
    let below : c.args.size < 2 ^ 63 = omega (arith, small) in
    let dealt = c.in-Ok-deal.ensures in (
      range,
      opened.1,
      opened.2,
      record {
        fresh = record { ends = sym opened.2; some = omega (arith, some); few = range.1.1; cells = to_z_pos w64 c.args.size below ∙ ap (λ n. pos n) (sym opened.1) };
        queues = c.into_iter.ensures.rest ∙ dealt;
        queues_left = omega (arith, c.into_iter.ensures.len, c.in-Ok-deal.seats.ok, ap length dealt, length-dealt (fresh_sleeper {T = g.row.T.Denot} c.in-Ok.opened.0.object c.args.stint) 0 c.args.ends);
      },
    )
