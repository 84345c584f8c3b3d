use Rattle.std.proofs.lemmas.Iterator.{YieldsList-from_slice}
use Rattle.std.proofs.lemmas.Iterator.Search.{any_from_yields_List}
use Rattle.fak_kernel.proofs.Common.{◌∙◌, sum_by, shuts_of, Process, rules, tests, nat_lt}
use Rattle.fak_run.proofs.AnyWeighs.{any_weighs}
use Rattle.fak_kernel.proofs.ending.reporting.has_shutdown.Goals as goal

pub returns : goal.returns
returns g c =
    any_from_yields_List (λ (p : Process). nat_lt 0 (sum_by shuts_of p.journal)) _ _ _ c.any.ensures.ran (YieldsList-from_slice c.args.contexts.now cc) (λ x b q k. search (rules, tests))
    ∙ any_weighs (λ (p : Process). sum_by shuts_of p.journal) c.args.contexts.now
