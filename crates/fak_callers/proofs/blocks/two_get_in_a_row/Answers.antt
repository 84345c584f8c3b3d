use Rattle.std.proofs.Common.{rules, ◌≡◌, ◌∙◌, ℕ, ap, subst, arith, pos, ◌+ℤ◌, ◌-ℤ◌, ◌+◌, List, suc, length, [], ◌∷◌, ◌++◌}
use Rattle.fak_core.specs.declared.queue.phase.Phase.TheVariants.{TurnOut}
use Rattle.fak_core.specs.QueueBlocks.{AreApart, ArePut, names_of, marks_back}
use Rattle.fak_model.specs.declared.queue.Kind.TheVariants.{Got}
use Rattle.fak_model.specs.declared.queue.Mark.{Mark}
use Rattle.fak_callers.proofs.blocks.two_get_in_a_row.Goals as goal

first_apart : AreApart (1 ∷ 2 ∷ [])
first_apart = search rules

last_apart : AreApart (2 ∷ 5 ∷ [])
last_apart = search rules

-- two named items, put under the tickets from k on
two_items : {A : Type 0} (past : List (Mark A)) (k : ℕ) (items : List (ℕ × A)) → names_of items ≡ 1 ∷ 2 ∷ [] → ArePut past k items
    → (x : A) × (y : A) × (items ≡ (1, x) ∷ (2, y) ∷ []) × ArePut past k ((1, x) ∷ (2, y) ∷ [])
two_items past k [] e put = absurd (let long : 0 ≡ 2 = ap length e in omega (arith, long))
two_items past k (s ∷ []) e put = absurd (let long : 1 ≡ 2 = ap length e in omega (arith, long))
two_items past k (s ∷ t ∷ []) e put =
    let first : s.0 ≡ 1 = cc in
    let second : t.0 ≡ 2 = cc in
    (s.1, t.1, (λ i. (first i, s.1) ∷ (second i, t.1) ∷ []), put)
two_items past k (s ∷ t ∷ u ∷ items) e put = absurd (let long : suc (suc (suc (length (names_of items)))) ≡ 2 = ap length e in omega (arith, long))

pub returns : goal.returns
returns g c = record {
  backs = λ st none. let all = c.one_add_moves_several_deletions_on.ensures.backs 4 st ((2, tt) ∷ (5, tt) ∷ []) last_apart in (all.lower_is ∙ ap (λ l. l +ℤ pos 2) none, all.past_is, all.stand.0, all.stand.1.0);
  draws = λ st R seven first second.
      let all = c.one_add_moves_several_deletions_on.ensures.draws 4 st ((1, tt) ∷ (2, tt) ∷ []) (omega arith) R first_apart (first, (second, tt)) in
      let two = two_items st.past st.draws_out all.items all.names all.put in
      let put = subst (λ k. ArePut st.past k ((1, two.0) ∷ (2, two.1) ∷ [])) seven two.3 in
      (two.0, two.1, put.0, put.1.0, all.changes.past_is ∙ ap (λ l. marks_back (λ x. Got x) l ++ st.past) two.2, all.changes.draws_out_is ∙ ap (λ k. k + 2) seven, all.changes.stand.0 ∙ ap (λ k. TurnOut k) seven, all.changes.stand.1.0 ∙ ap (λ k. TurnOut (k + 1)) seven);
  ends = λ st four. let all = c.one_add_moves_several_deletions_on.ensures.ends 4 st ((1, 7) ∷ (2, 8) ∷ []) first_apart in (all.upper_is ∙ ap (λ u. u -ℤ pos 2) four, all.past_is, all.stand.0, all.stand.1.0);
}
