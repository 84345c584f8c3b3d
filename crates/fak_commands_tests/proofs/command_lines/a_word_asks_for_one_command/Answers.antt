use Rattle.std.proofs.Common.{[], ◌∷◌, codes}
use Rattle.fak_commands_tests.proofs.CommandLines.{only_replays, only_runs}
use Rattle.fak_commands_tests.proofs.command_lines.a_word_asks_for_one_command.Goals as goal

pub returns : goal.returns
returns c = record {
  run = λ command asks. only_runs (codes "fak" ∷ codes "run" ∷ []) 1 command c.known_words_ask_for_known_commands.ensures.default asks;
  replay = λ command asks. only_replays (codes "fak" ∷ codes "replay" ∷ []) command c.known_words_ask_for_known_commands.ensures.replay asks;
}
