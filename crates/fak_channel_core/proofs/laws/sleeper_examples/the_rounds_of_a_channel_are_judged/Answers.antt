use Rattle.std.specs.Prelude.{◌≡◌, ◌<◌, ℕ, [], ◌∷◌}
use Rattle.std.proofs.Common.{ap, sym, inl, inr, arith}
use Rattle.std.proofs.lemmas.List.Elements.{All-cons, All-nil}
use Rattle.fak_core.proofs.Common.{same_or_not}
use Rattle.fak_core.specs.QueueProgress.{seat_of}
use Rattle.fak_core.specs.QueueSchedule.{QueueEvent, Advances}
use Rattle.fak_channel_core.proofs.laws.sleeper_examples.the_rounds_of_a_channel_are_judged.Goals as goal

abbrev Early : QueueEvent ℕ → Type 0
Early v = seat_of v < 2

pub returns-clause-round : goal.returns-clause-round
returns-clause-round c = record {
  each = λ e l. elim (same_or_not e 0) [
    | inl q ↦ (1, omega arith, ap (λ i. Advances i) (sym q))
    | inr ne ↦ (let one : e ≡ 1 = omega (arith, l, ne) in (0, omega arith, ap (λ i. Advances i) (sym one)))
  ];
  within = All-cons Early (Advances 1) (Advances 0 ∷ []) (omega arith) (All-cons Early (Advances 0) [] (omega arith) (All-nil Early));
}
