use Rattle.std.proofs.Common.{rules, map, string_bytes, subst, IfSome}
use Rattle.fak_commands.specs.Commands.{Asks}
use Rattle.fak_commands.proofs.CommandWords.{asked_if}
use Rattle.fak_commands.proofs.command.command_of.Goals as goal

pub returns-in-Ok-clause-ok : goal.returns-in-Ok-clause-ok
returns-in-Ok-clause-ok c =
    let asks : IfSome c.command_from.result (Asks (map string_bytes c.args.words.items)) =
    subst (λ words. IfSome c.command_from.result (Asks (map string_bytes words))) c.as_slice.ensures.value
    (asked_if _ (map string_bytes c.as_slice.result.now) c.in-Ok.matches c.command_from.result c.in_ok-grammar.ensures c.in-Ok.ensures.matches c.command_from.ensures) in
    search (rules, asks)
