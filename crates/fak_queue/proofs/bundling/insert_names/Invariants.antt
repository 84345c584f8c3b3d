use Rattle.std.specs.Prelude.{take}
use Rattle.fak_model.specs.Names.{Has}
use Rattle.fak_queue.proofs.Common.{◌↔◌, ◌⊎◌, ℕ, In}
use Rattle.fak_queue.proofs.bundling.insert_names.Given as goal

-- the names before this one were put in
abbrev pub invariant-loop-name : goal.invariant-loop-name
invariant-loop-name l = (n : ℕ) → Has l.set n ↔ (Has l.initial.set n ⊎ In n (take l.name-index l.names))
