use Rattle.fak_model.proofs.Common.{ℕ, ◌<◌}
use Rattle.fak_model.specs.Names.{Has}
use Rattle.fak_model.proofs.name_set.NameSet.has_all.Given as goal

abbrev pub invariant-loop-name : goal.invariant-loop-name
invariant-loop-name l = (n : ℕ) → n < l.name → Has l.self n
