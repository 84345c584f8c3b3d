use Rattle.std.proofs.Common.{ap, length}
use Rattle.fak_commands_tests.proofs.command_lines.four_commands_have_names.Goals as goal

pub returns : goal.returns
returns c = ap length c.the_names_of_the_command_line_are_known.ensures
