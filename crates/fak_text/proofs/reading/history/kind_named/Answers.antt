use Rattle.std.proofs.Common.{rules, tests, ◌∙◌, ℕ, bytes_eq}
use Rattle.std.proofs.lemmas.Iterator.{YieldsList-from_slice}
use Rattle.std.proofs.lemmas.Iterator.Search.{find_from_yields_List}
use Rattle.fak_model.specs.declared.queue.Kind.{Kind}
use Rattle.fak_text.specs.Names.{kind_name}
use Rattle.fak_text.specs.HistoryText.{kind_named, kinds_with}
use Rattle.fak_text.proofs.reading.history.kind_named.Goals as goal

pub returns : goal.returns
unfolding kind_named
returns c =
    c.copied.ensures ∙ find_from_yields_List (λ (kind : Kind ℕ). bytes_eq (kind_name kind) c.args.name.now) _ _ c.find.result c.find.ensures.ran (YieldsList-from_slice (kinds_with c.args.n) (cc)) (λ x b q k. search (rules, tests))
