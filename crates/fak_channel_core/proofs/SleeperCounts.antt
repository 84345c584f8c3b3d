-- What the counts of a queue core say of its contents, between any two steps and if no call is open.
use Rattle.std.specs.Prelude.{◌≡◌, ℕ, ◌+◌, ◌≤◌, pos, ◌-ℤ◌, ◌≤ℤ◌, [], length}
use Rattle.std.proofs.Common.{length-drop}
use Rattle.fak_model.specs.Queue.{count, puts, gots, contents, items_put, upper_raise, upper_drop, lower_raise, lower_drop}
use Rattle.fak_model.specs.QueuePast.{stage}
use Rattle.fak_model.specs.declared.queue.Kind.{Kind}
use Rattle.fak_model.specs.declared.queue.Stage.{Stage}
use Rattle.fak_model.specs.declared.queue.Stage.TheVariants as made
use Rattle.fak_model.proofs.QueueBackwards.{count_reverse, items_count}
use Rattle.fak_model.proofs.QueueWeights.{nothing_left}
use Rattle.fak_model.proofs.QueueCounts.{contents_bounded, a_claim_in, an_end_in, a_claim_out, an_end_out, an_over_in, a_back_in, an_over_out, a_back_out, in_over_in, in_claim_in, in_put, in_over_out, in_claim_out, in_got, open_over_in, open_claim_in, open_put, open_over_out, open_claim_out, open_got, count_two, seat_bound, seats_bounded, tally, tally_none}
use Rattle.fak_core.specs.declared.queue.phase.Phase.TheVariants as queue
use Rattle.fak_core.specs.QueueMoves.{QueueState, history_of}
use Rattle.fak_core.proofs.Common.{arith, ints, common_steps, refl, sym, ap, ◌∙◌}
use Rattle.fak_core.proofs.QueueKept.{IsKept, shown}

upper_raise_two : {A : Type 0} (κ : Kind A) → upper_raise κ ≡ a_claim_in κ + an_over_in κ
upper_raise_two κ = grind (arith, common_steps)

upper_drop_two : {A : Type 0} (κ : Kind A) → upper_drop κ ≡ a_back_in κ + an_end_out κ
upper_drop_two κ = grind (arith, common_steps)

lower_raise_two : {A : Type 0} (κ : Kind A) → lower_raise κ ≡ an_end_in κ + a_back_out κ
lower_raise_two κ = grind (arith, common_steps)

lower_drop_two : {A : Type 0} (κ : Kind A) → lower_drop κ ≡ a_claim_out κ + an_over_out κ
lower_drop_two κ = grind (arith, common_steps)

-- the lower count is at most the upper count
pub lower_below : {A : Type 0} (size : ℕ) (q : QueueState A) → IsKept size q → q.lower ≤ℤ q.upper
lower_below size q K =
    let below = seats_bounded q.past in
    let a = open_claim_in size (seat_bound q.past) q.past K.legal below in
    let b = open_put size (seat_bound q.past) q.past K.legal below in
    let c = open_claim_out size (seat_bound q.past) q.past K.legal below in
    let d = open_got size (seat_bound q.past) q.past K.legal below in
    let oi = open_over_in size (seat_bound q.past) q.past K.legal below in
    let oo = open_over_out size (seat_bound q.past) q.past K.legal below in
    let ur = count_two upper_raise a_claim_in an_over_in upper_raise_two q.past in
    let ud = count_two upper_drop a_back_in an_end_out upper_drop_two q.past in
    let lr = count_two lower_raise an_end_in a_back_out lower_raise_two q.past in
    let ld = count_two lower_drop a_claim_out an_over_out lower_drop_two q.past in
    let u = K.upper in let l = K.lower in omega (arith, ints)

module _ {A : Type 0} (size : ℕ) (q : QueueState A) (K : IsKept size q) (idle : (e : ℕ) → q.phase e ≡ queue.Idle) where
  none_open : (w : Stage A → ℕ) → w made.Idle ≡ 0 → tally w (stage q.past) (seat_bound q.past) ≡ 0
  none_open w none = tally_none w (stage q.past) (seat_bound q.past) (λ e. ap w (sym (K.phases e) ∙ ap shown (idle e)) ∙ none)

  -- both counts are the number of items
  pub rested : (q.upper ≡ pos (count puts q.past) -ℤ pos (count gots q.past)) × (q.lower ≡ pos (count puts q.past) -ℤ pos (count gots q.past))
  rested =
      let below = seats_bounded q.past in
      let a = open_claim_in size (seat_bound q.past) q.past K.legal below in let a0 = none_open in_claim_in refl in
      let b = open_put size (seat_bound q.past) q.past K.legal below in let b0 = none_open in_put refl in
      let c = open_claim_out size (seat_bound q.past) q.past K.legal below in let c0 = none_open in_claim_out refl in
      let d = open_got size (seat_bound q.past) q.past K.legal below in let d0 = none_open in_got refl in
      let o = open_over_in size (seat_bound q.past) q.past K.legal below in let o0 = none_open in_over_in refl in
      let p = open_over_out size (seat_bound q.past) q.past K.legal below in let p0 = none_open in_over_out refl in
      let ur = count_two upper_raise a_claim_in an_over_in upper_raise_two q.past in
      let ud = count_two upper_drop a_back_in an_end_out upper_drop_two q.past in
      let lr = count_two lower_raise an_end_in a_back_out lower_raise_two q.past in
      let ld = count_two lower_drop a_claim_out an_over_out lower_drop_two q.past in
      let u = K.upper in let l = K.lower in (omega (arith, ints), omega (arith, ints))

  pub holds_none : q.lower ≤ℤ pos 0 → contents (history_of q) ≡ []
  holds_none low =
      let r = rested in let r1 = r.1 in
      let few : count puts q.past ≤ count gots q.past = omega (arith, ints) in
      let p = count_reverse puts q.past in let g = count_reverse gots q.past in nothing_left (history_of q) (omega arith)

  pub holds_all : pos size ≤ℤ q.upper → length (contents (history_of q)) ≡ size
  holds_all high =
      let r = rested in let r0 = r.0 in
      let bounded = contents_bounded size q.past K.legal in let b0 = bounded.0 in let b1 = bounded.1 in
      let all : count gots q.past + size ≤ count puts q.past = omega (arith, ints) in
      let p = count_reverse puts q.past in let g = count_reverse gots q.past in
      let put = items_count (history_of q) in
      let left = length-drop (count gots (history_of q)) (items_put (history_of q)) in omega arith
