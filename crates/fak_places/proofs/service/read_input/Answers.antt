use Rattle.fak_places.proofs.KeptInput.{kept_is}
use Rattle.fak_places.proofs.service.read_input.Goals as goal

pub returns-in-Ok-clause-ok : goal.returns-in-Ok-clause-ok
returns-in-Ok-clause-ok g c =
    kept_is g.R.Read.remaining c.take.result c.args.reader c.new-kept.result.items c.read_to_end.new.buf.items c.take.ensures.limit c.take.ensures.inner c.new-kept.ensures.items c.in-Ok.ensures.bytes
