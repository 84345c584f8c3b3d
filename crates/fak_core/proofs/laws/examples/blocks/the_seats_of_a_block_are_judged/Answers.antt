use Rattle.fak_core.proofs.Common.{◌≡◌, ℕ, List, [], ◌∷◌, suc, length, ap, arith}
use Rattle.fak_core.specs.BlockExamples.{drawn}
use Rattle.fak_core.specs.QueueBlocks.{ArePut, names_of}
use Rattle.fak_core.proofs.laws.examples.blocks.the_seats_of_a_block_are_judged.Goals as goal

items_are : (items : List (ℕ × ℕ)) → names_of items ≡ 4 ∷ 5 ∷ [] → ArePut drawn.past 0 items → items ≡ (4, 10) ∷ (5, 11) ∷ []
items_are [] e put = absurd (let long : 0 ≡ 2 = ap length e in omega (arith, long))
items_are (s ∷ []) e put = absurd (let long : 1 ≡ 2 = ap length e in omega (arith, long))
items_are (s ∷ t ∷ []) e put =
    let first : s.0 ≡ 4 = cc in
    let second : t.0 ≡ 5 = cc in
    let ten : s.1 ≡ 10 = cc (put.0) in
    let eleven : t.1 ≡ 11 = cc (put.1.0) in
    (λ i. (first i, ten i) ∷ (second i, eleven i) ∷ [])
items_are (s ∷ t ∷ u ∷ items) e put = absurd (let long : suc (suc (suc (length (names_of items)))) ≡ 2 = ap length e in omega (arith, long))

pub returns-clause-got : goal.returns-clause-got
returns-clause-got c both = items_are both.items both.names both.put
