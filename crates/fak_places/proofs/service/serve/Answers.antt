use Rattle.std.proofs.Common.{◌≡◌, rules}
use Rattle.fak_places.specs.Places.{fault_in}
use Rattle.fak_places.specs.Program.{status_of_place}
use Rattle.fak_places.proofs.KeptInput.{status_is}
use Rattle.fak_places.proofs.service.serve.Goals as goal

pub returns-clause-ok : goal.returns-clause-ok
returns-clause-ok g c =
    let of_kept : c.in_ok-status.status ≡ status_of_place (fault_in c.args.format c.in_ok-input.input.items) = search rules in
    status_is (g.R.Read.remaining c.args.reader) c.args.format c.in_ok-input.input.items c.in_ok-status.status c.in_ok-input.ensures.ok of_kept
