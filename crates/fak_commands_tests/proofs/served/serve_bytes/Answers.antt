use Rattle.std.proofs.Common.{rules}
use Rattle.fak_commands_tests.proofs.WholeInput.{serves_all}
use Rattle.fak_commands_tests.proofs.served.serve_bytes.Goals as goal

pub returns : goal.returns
returns g c =
    serves_all c.args.command c.args.input.now c.serve.new.reader.now c.new-written.result.items c.serve.new.writer.items c.in_ok-status.status (search rules) c.in_ok-status.ensures.ok
