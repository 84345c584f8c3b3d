-- A subcommand that `clap` matched, as a command of the program.
use Rattle.std.proofs.Common.{◌≡◌, ℕ, List, Option, Some, None, Result, Ok, ap, ◌∙◌, subst, sym, refl, true, IfSome}
use Rattle.std.specs.Str.Parse.{ParsesUnsigned, digits_value, without_leading_plus}
use Rattle.clap.specs.Words.{App, Text, HasMatchesOf, ReadsOne, found_of, is_simple, one_of, one_text, rows_of, subcommand_of, subcommand_rows_of}
use Rattle.clap.specs.declared.parser.matches.ArgMatches.{ArgMatches}
use Rattle.clap.proofs.OnLiterals.{clap_on_literals}
use Rattle.clap.proofs.WalkLemmas.{one_text-rows}
use Rattle.fak_replay.specs.declared.command.Command.{Command}
use Rattle.fak_commands.specs.Commands.{Asks, Means, command_line}

-- the program's own command line is one whose matches `clap` states
line_is_simple : is_simple command_line ≡ true
unfolding clap_on_literals
line_is_simple = refl

-- what the words of a match mean is what they ask
asked : (app : App) (words : List Text) (m : ArgMatches) (command : Command) → app ≡ command_line → HasMatchesOf app words m → Means (subcommand_rows_of m) command → Asks words command
asked app words m command is has means =
    let rows : subcommand_rows_of m ≡ subcommand_of app words = (has (ap is_simple is ∙ line_is_simple)).1 in
    subst (λ found. Means found command) (rows ∙ ap (λ (a : App). subcommand_of a words) is) means

pub asked_if : (app : App) (words : List Text) (m : ArgMatches) (found : Option Command) → app ≡ command_line → HasMatchesOf app words m → IfSome found (Means (subcommand_rows_of m)) → IfSome found (Asks words)
asked_if app words m None is has means = tt
asked_if app words m (Some command) is has means = asked app words m command is has means

-- the number that a getter read of an id is the number of its text
pub number_read : (m : ArgMatches) (id : Text) (n : ℕ) (E : Type 0) (G : List ℕ → Result ℕ E → Type 0)
    → ((one_text (found_of m) id ≡ None) → Some n ≡ None)
    → ((t : List ℕ) → one_text (found_of m) id ≡ Some t → ReadsOne G t (Some n))
    → ((u : List ℕ) (x : Result ℕ E) → G u x → ParsesUnsigned 64 10 u x)
    → (text : Text) × (one_of id (rows_of (found_of m)) ≡ Some text) × (n ≡ digits_value 10 (without_leading_plus text))
number_read m id n E G absent value only = go (one_text (found_of m) id) refl
  where
    go : (o : Option Text) → one_text (found_of m) id ≡ o
        → (text : Text) × (one_of id (rows_of (found_of m)) ≡ Some text) × (n ≡ digits_value 10 (without_leading_plus text))
    go None e =
        let bad : Some n ≡ None = absent e in
        cc
    go (Some t) e = (t, sym (one_text-rows (found_of m) id) ∙ e, (only t (Ok n) (value t e)).1)
