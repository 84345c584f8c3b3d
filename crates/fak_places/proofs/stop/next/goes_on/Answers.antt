use Rattle.fak_places.proofs.Fronts.{can_go_on}
use Rattle.fak_places.proofs.stop.next.goes_on.Goals as goal

pub returns : goal.returns
returns c = can_go_on c.is_json.result c.args.front.now c.args.begin.now c.args.rest.now c.is_json.ensures
