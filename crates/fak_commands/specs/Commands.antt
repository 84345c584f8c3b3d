-- What a command line asks for, as `clap` matches its words.
use Rattle.std.specs.Prelude.{◌≡◌, ◌≤◌, ◌⊎◌, ℕ, codes, List, [], ◌∷◌, Option, Some, true}
use Rattle.std.specs.Str.Parse.{digits_value, without_leading_plus}
use Rattle.clap.specs.Words.{App, Row, Rule, Text, new_app, new_rule, one_of, subcommand_of, with_rule, with_subcommand}
use Rattle.clap.specs.Simple.{on_top}
use Rattle.clap.specs.declared.builder.value_parser.ValueParser.TheVariants as parsers
use Rattle.fak_replay.specs.declared.command.Command.{Command}
use Rattle.fak_replay.specs.declared.command.Command.TheVariants.{Replay, Check, Run}
use Rattle.fak_replay.specs.declared.fault.MainFault.{MainFault}
use Rattle.fak_replay.specs.declared.fault.MainFault.TheVariants.{Usage, Memory}

-- the program's command line: three subcommands, and no word for help or the version
abbrev pub bare_line : App
bare_line = on_top (λ shape. record shape {
  disable_help_flag = true;
  disable_help_subcommand = true;
  disable_version_flag = true;
  subcommand_required = true;
}) (new_app (codes "fak"))

-- the option `--processors N`, whose N is a whole number, and 1 if it is not given
abbrev pub processors_rule : Rule
processors_rule = record (new_rule (codes "processors")) {
  long = Some (codes "processors");
  parser = Some (parsers.Unsigned 0 18446744073709551615);
  defaults = codes "1" ∷ [];
}

abbrev pub run_line : App
run_line = with_rule (new_app (codes "run")) processors_rule

abbrev pub command_line : App
command_line =
    with_subcommand (
    with_subcommand (
    with_subcommand bare_line
    (new_app (codes "replay")).top)
    (new_app (codes "check")).top)
    run_line.top

-- this many processors, 1 to 8: the number that `clap` reads of the option
abbrev pub AskedProcessors : List Row → ℕ → Type 0
AskedProcessors rows n = (text : Text) × (one_of (codes "processors") rows ≡ Some text) × (n ≡ digits_value 10 (without_leading_plus text)) × (1 ≤ n) × (n ≤ 8)

-- a subcommand, by its name and what `clap` matched below it, is this command
abbrev pub Means : Option (Text × List Row) → Command → Type 0
Means found Replay = (rows : List Row) × (found ≡ Some (codes "replay", rows))
Means found Check = (rows : List Row) × (found ≡ Some (codes "check", rows))
Means found (Run n) = (rows : List Row) × (found ≡ Some (codes "run", rows)) × AskedProcessors rows n

-- the words ask for this command
abbrev pub Asks : List Text → Command → Type 0
Asks words command = Means (subcommand_of command_line words) command

-- the faults of a command line
abbrev pub IsOfWords : MainFault → Type 0
IsOfWords fault = (fault ≡ Usage) ⊎ (fault ≡ Memory)
