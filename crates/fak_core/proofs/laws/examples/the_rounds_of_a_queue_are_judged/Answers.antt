use Rattle.std.proofs.lemmas.List.Elements.{All-cons, All-nil}
use Rattle.fak_core.specs.QueueSchedule.{QueueEvent, Advances, Deletes}
use Rattle.fak_core.proofs.Common.{All-head, All-tail, same_or_not, ◌≡◌, ℕ, ◌<◌, [], ◌∷◌, ap, sym, inl, inr, arith, seat_of}
use Rattle.fak_core.proofs.laws.examples.the_rounds_of_a_queue_are_judged.Goals as goal

abbrev Early : ℕ → QueueEvent ℕ → Type 0
Early n e = seat_of e < n

pub returns-clause-round : goal.returns-clause-round
returns-clause-round c = record {
  each = λ s l. elim (same_or_not s 0) [
    | inl q ↦ (2, omega arith, ap (λ i. Advances i) (sym q))
    | inr n ↦ (let one : s ≡ 1 = omega arith in (0, omega arith, ap (λ i. Advances i) (sym one)))
  ];
  within = All-cons (Early 2) (Advances 1) (Deletes 0 ∷ Advances 0 ∷ []) (omega arith) (All-cons (Early 2) (Deletes 0) (Advances 0 ∷ []) (omega arith) (All-cons (Early 2) (Advances 0) [] (omega arith) (All-nil (Early 2))));
}

pub returns-clause-within : goal.returns-clause-within
returns-clause-within c r =
    let rest = All-tail (Early 2) (Advances 1) (Deletes 2 ∷ []) (All-tail (Early 2) (Advances 0) (Advances 1 ∷ Deletes 2 ∷ []) r.within) in
    let last : 2 < 2 = All-head (Early 2) (Deletes 2) [] rest in omega arith
