use Rattle.std.proofs.Common.{rules}
use Rattle.fak_commands.proofs.run_command.printed_on.Goals as goal

pub returns-in_err-run_one_to_text-in-1-clause-one : goal.returns-in_err-run_one_to_text-in-1-clause-one
returns-in_err-run_one_to_text-in-1-clause-one g c = search rules
