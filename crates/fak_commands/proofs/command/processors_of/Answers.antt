use Rattle.std.proofs.Common.{rules, codes}
use Rattle.std.specs.Str.Parse.{ParsesUnsigned, ExplainsUnsignedError, HasUnsignedDigitsIfOk}
use Rattle.fak_commands.proofs.CommandWords.{number_read}
use Rattle.fak_commands.proofs.command.processors_of.Goals as goal

pub returns : goal.returns
returns c =
    let read = number_read c.args.matches.now (codes "processors") c.in_ok-processors.processors _
    (λ bs r. ParsesUnsigned 64 10 bs r × ExplainsUnsignedError 10 bs r × HasUnsignedDigitsIfOk bs r)
    c.in_ok-processors.ensures.none c.in_ok-processors.ensures.value (λ u x g. g.0) in
    (read.0, read.1, read.2, search rules, search rules)
