use Rattle.std.proofs.Common.{◌∙◌}
use Rattle.fak_places.proofs.Times.{times_is}
use Rattle.fak_places.proofs.repeated.times.Goals as goal

pub returns : goal.returns
returns c = c.count_of.ensures ∙ times_is c.args.name.now c.args.members.now
