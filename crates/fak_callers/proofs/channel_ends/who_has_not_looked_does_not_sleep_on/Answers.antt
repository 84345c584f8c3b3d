use Rattle.std.specs.Prelude.{◌≡◌, List, ◌∷◌, length}
use Rattle.std.proofs.Common.{arith, ap, sym, ◌∙◌}
use Rattle.fak_callers.proofs.channel_ends.who_has_not_looked_does_not_sleep_on.Goals as goal

-- no list is its own rest
longer : {A : Type 0} (x : A) (l : List A) → l ≡ x ∷ l → ⊥
longer x l is = let same = ap length is in absurd (omega (arith, same))

pub returns : goal.returns
returns g c = λ channel w old new is same moves. longer _ old.queue.notes (sym same ∙ c.an_end_that_sleeps_on_finds_its_bit_set.ensures channel w old new is moves)
