use Rattle.std.proofs.Common.{rules, ap, ap₂, ◌≡◌, ◌∙◌, ◌||◌, codes}
use Rattle.std.proofs.lemmas.Result.{IfOk-weaker}
use Rattle.clap.specs.Words.{App, app_of, new_app, with_rule, with_subcommand}
use Rattle.fak_commands.specs.Commands.{bare_line, run_line}
use Rattle.fak_commands.proofs.command.grammar.Goals as goal

pub returns : goal.returns
returns c =
    let bare_is : app_of c.subcommand_required.result ≡ bare_line = search rules in
    let replay_is : app_of c.in_ok-subcommand.field-0 ≡ with_subcommand bare_line (new_app (codes "replay")).top =
    c.in_ok-subcommand.ensures.shape c.new-2.ensures.local ∙ ap₂ with_subcommand bare_is (ap (λ (a : App). a.top) c.new-2.ensures.app) in
    let check_is : app_of c.in_ok-subcommand-2.field-0 ≡ with_subcommand (with_subcommand bare_line (new_app (codes "replay")).top) (new_app (codes "check")).top =
    c.in_ok-subcommand-2.ensures.shape c.new-3.ensures.local ∙ ap₂ with_subcommand replay_is (ap (λ (a : App). a.top) c.new-3.ensures.app) in
    let run_is : app_of c.in_ok-arg.field-0 ≡ run_line =
    c.in_ok-arg.ensures.shape c.processors_option.ensures.local ∙ ap₂ with_rule c.new-4.ensures.app c.processors_option.ensures.rule in
    let run_local = c.in_ok-arg.ensures.globals ∙ ap₂ (λ a b. a || b) c.new-4.ensures.local c.processors_option.ensures.local in
    IfOk-weaker c.subcommand-3.result _ _ (λ command adds. adds.shape run_local ∙ ap₂ with_subcommand check_is (ap (λ (a : App). a.top) run_is)) c.subcommand-3.ensures
