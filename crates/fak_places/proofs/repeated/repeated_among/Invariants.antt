use Rattle.std.proofs.Common.{◌≡◌, map, take}
use Rattle.json.specs.Value.{members_view}
use Rattle.fak_places.specs.Repeats.{repeated_among}
use Rattle.fak_places.proofs.repeated.repeated_among.Given as goal

abbrev pub invariant-loop-key : goal.invariant-loop-key
invariant-loop-key l = map (λ repeated. repeated.key) l.found.items ≡ repeated_among (take l.key-index l.keys) (members_view l.members)
