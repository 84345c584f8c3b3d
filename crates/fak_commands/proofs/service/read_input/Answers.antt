use Rattle.std.proofs.Common.{◌++◌, take, rules}
use Rattle.fak_commands.proofs.Input.{consumes_more, at_last, front_is_few}
use Rattle.fak_commands.proofs.service.read_input.Goals as goal
use Rattle.fak_text.specs.Values.{most_kept}

pub returns-in-Ok-eq0-clause-ok : goal.returns-in-Ok-eq0-clause-ok
returns-in-Ok-eq0-clause-ok g c =
    at_last (g.R.Read.remaining c.args.reader.now) (g.R.Read.remaining c.loop.reader) (g.R.Read.remaining c.read.new.self) c.loop.invariant.0 c.read.new.buf c.loop.kept.items c.in-Ok-eq0.field-0 most_kept
    c.in-Ok-eq0.field-0-test c.loop.invariant.1 c.in-Ok-eq0.ensures.bytes.0 (c.in-Ok-eq0.ensures.bytes.1 c.in-Ok-eq0.field-0-test (search rules)) c.loop.invariant.2

pub returns-in-Ok-eq0-clause-few : goal.returns-in-Ok-eq0-clause-few
returns-in-Ok-eq0-clause-few g c = front_is_few c.loop.kept.items c.loop.invariant.0 c.loop.invariant.2

pub loop-preserved : goal.loop-preserved
loop-preserved g c = (
  c.loop.invariant.0 ++ take c.in-Ok.n c.read.new.buf,
  consumes_more (g.R.Read.remaining c.args.reader.now) (g.R.Read.remaining c.loop.reader) (g.R.Read.remaining c.read.new.self) c.loop.invariant.0 (take c.in-Ok.n c.read.new.buf) c.loop.invariant.1 c.in-Ok.ensures.bytes.0,
  c.in_ok-keep-in-Ok.ensures.ok c.loop.invariant.0 c.loop.invariant.2,
)

pub returns-in-Err-clause-ok : goal.returns-in-Err-clause-ok
returns-in-Err-clause-ok g c = search rules
