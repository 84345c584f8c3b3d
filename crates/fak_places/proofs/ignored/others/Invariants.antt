use Rattle.std.proofs.Common.{◌≡◌}
use Rattle.serde_json.specs.View.{members_view}
use Rattle.fak_places.specs.Keys.{other_names}
use Rattle.fak_places.proofs.OtherNames.{found_and_left}
use Rattle.fak_places.proofs.ignored.others.Given as goal

abbrev pub invariant-loop-key : goal.invariant-loop-key
invariant-loop-key l = found_and_left l.keys l.found.items l.key-iterator ≡ other_names l.keys (members_view l.members.entries)
