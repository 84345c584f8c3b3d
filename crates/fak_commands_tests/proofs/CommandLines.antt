-- Words ask for one command at most.
use Rattle.std.proofs.Common.{◌≡◌, ℕ, List, [], Option, None, Some, codes, ap, sym, refl, ◌∙◌}
use Rattle.fak_replay.specs.declared.command.Command.{Command}
use Rattle.fak_replay.specs.declared.command.Command.TheVariants.{Replay, Check, Run}
use Rattle.fak_commands.specs.Commands.{Asks}

-- the word of the subcommand that was found, and what `clap` matched below it
abbrev word_in : {R : Type 0} → Option (List ℕ × R) → List ℕ
word_in (Some found) = found.0
word_in None = []

abbrev rows_in : {R : Type 0} → R → Option (List ℕ × R) → R
rows_in rows (Some found) = found.1
rows_in rows None = rows

-- words that ask for a run on this number of processors ask for no other command
pub only_runs : (words : List (List ℕ)) (m : ℕ) (command : Command) → Asks words (Run m) → Asks words command → command ≡ Run m
only_runs words m Replay (rows, is, asked) (others, other) = let word : codes "run" ≡ codes "replay" = ap word_in (sym is ∙ other) in cc
only_runs words m Check (rows, is, asked) (others, other) = let word : codes "run" ≡ codes "check" = ap word_in (sym is ∙ other) in cc
only_runs words m (Run n) (rows, is, (text, text_is, m_is, low, high)) (others, other, (said, said_is, n_is, least, most)) =
    let same : rows ≡ others = ap (rows_in rows) (sym is ∙ other) in cc

-- words that ask for a replay ask for no other command
pub only_replays : (words : List (List ℕ)) (command : Command) → Asks words Replay → Asks words command → command ≡ Replay
only_replays words Replay replay other = refl
only_replays words Check (rows, is) (others, other) = let word : codes "replay" ≡ codes "check" = ap word_in (sym is ∙ other) in cc
only_replays words (Run n) (rows, is) (others, other, asked) = let word : codes "replay" ≡ codes "run" = ap word_in (sym is ∙ other) in cc
