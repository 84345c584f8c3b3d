-- The names by which a grammar of `clap` takes commands and options.
use Rattle.std.specs.Prelude.{ℕ, List, ◌∷◌, ◌++◌, map, option_to_list}
use Rattle.clap.specs.Words.{App, Rule, Shape, Text, built}

-- an option's long names and its characters, with their aliases
abbrev pub option_names : Rule → List Text × List ℕ
option_names rule = (option_to_list rule.long ++ rule.aliases, option_to_list rule.short ++ rule.short_aliases)

-- a command's name with its aliases, and the names of each of its options
abbrev pub command_names : Shape → List Text × List (List Text × List ℕ)
command_names shape = (shape.name ∷ shape.aliases, map option_names shape.rules)

-- those of a command and of its subcommands, with all that `clap` adds to them
abbrev pub all_names : App → List (List Text × List (List Text × List ℕ))
all_names app = map command_names ((built app).top ∷ (built app).subs)
