use Rattle.std.proofs.lemmas.Grind.{common_steps}
use Rattle.fak_run.proofs.Common.{arith, ◌∙◌, ap, sym, map, if◌then◌else◌, row_of}
use Rattle.fak_run.proofs.Told.{any_stuck-told}
use Rattle.fak_run.proofs.text.print_brief.Goals as goal

pub returns-clause-status : goal.returns-clause-status
returns-clause-status c = c.exit_status.ensures ∙ ap (λ b. if b then 3 else 0) (sym (any_stuck-told c.args.script.now (map row_of c.args.brief.now.rows.items)))

pub returns-clause-text : goal.returns-clause-text
returns-clause-text c = grind (arith, common_steps)
