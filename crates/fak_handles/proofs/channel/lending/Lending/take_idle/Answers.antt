use Rattle.std.proofs.Common.{◌<◌, ◌/◌, length, refl, rules}
use Rattle.fak_handles.proofs.EndBits.{clear_here, clear_else}
use Rattle.fak_handles.proofs.channel.lending.Lending.take_idle.Goals as goal

pub returns : goal.returns
returns c =
    let k = c.in_ok-number.number in
    let words = c.args.self.now.idle in
    let is = c.in_ok-number.ensures.idle in
    let inside : k / 64 < length words = search rules in (
      record {
        was_idle = is.0;
        is_lent = record { one = is.0.0; small = is.1; clear = clear_here words k inside };
        others = clear_else words k inside;
        same = record { count = refl; worn = refl };
      },
      (refl, refl),
    )
