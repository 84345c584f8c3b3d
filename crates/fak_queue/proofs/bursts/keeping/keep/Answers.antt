use Rattle.std.specs.Prelude.{zero, suc, take, drop}
use Rattle.fak_queue.proofs.BundleWaiting.{drop_more}
use Rattle.fak_queue.proofs.Common.{◌≡◌, ℕ, ◌+◌, List, [], ◌∷◌, ◌++◌, ap, ◌∙◌, sym, arith, append_assoc, append-nil, refl}
use Rattle.fak_queue.proofs.bursts.keeping.keep.Goals as goal

-- one item more
take_next : {A : Type 0} (l : List A) (n : ℕ) (x : A) (rest : List A) → drop n l ≡ x ∷ rest → take (n + 1) l ≡ take n l ++ x ∷ []
take_next [] zero x rest e = absurd cc
take_next [] (suc n) x rest e = absurd cc
take_next (y ∷ l) zero x rest e = let f : y ∷ l ≡ x ∷ rest = e in let same : y ≡ x = cc in ap (λ z. z ∷ []) same
take_next (y ∷ l) (suc n) x rest e = let z : suc n + 1 ≡ suc (n + 1) = omega arith in ap (λ k. take k (y ∷ l)) z ∙ ap (λ t. y ∷ t) (take_next l n x rest e)

pub loop-init : goal.loop-init
loop-init g c = (omega arith, refl, sym (append-nil c.args.kept.now.items), omega arith, omega arith, refl, refl)

pub loop-preserved : goal.loop-preserved
loop-preserved g c =
    let i = c.loop.invariant in
    let low = c.loop-test.true in
    let xs = c.args.items.now.items in
    let first : drop c.loop.counter xs ≡ c.in-Some.item ∷ c.pop_front.new.self.items = sym i.1 ∙ c.in-Some.ensures.items in
    let less = c.in-Some.ensures.cases in
    let more = c.push_back_reserved.ensures.len in (
      omega (arith, low),
      c.in-Some.ensures.rest ∙ (ap (drop 1) i.1 ∙ drop_more xs c.loop.counter 1),
      c.push_back_reserved.ensures.items ∙ (ap (λ l. l ++ c.in-Some.item ∷ []) i.2 ∙ (append_assoc c.args.kept.now.items (take c.loop.counter xs) (c.in-Some.item ∷ []) ∙ ap (λ l. c.args.kept.now.items ++ l) (sym (take_next xs c.loop.counter c.in-Some.item c.pop_front.new.self.items first)))),
      omega (arith, less, i.3),
      omega (arith, more, i.4),
      c.push_back_reserved.ensures.capacity ∙ i.5,
      c.in-Some.ensures.capacity ∙ i.6,
    )
