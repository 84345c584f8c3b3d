use Rattle.std.proofs.Common.{rules}
use Rattle.fak_places.specs.Named.{bears_named}
use Rattle.fak_places.proofs.mark.bears.Goals as goal

pub returns-in_default : goal.returns-in_default
unfolding bears_named
returns-in_default c = search rules
