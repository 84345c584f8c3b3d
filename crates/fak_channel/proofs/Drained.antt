-- In a queue that is shut with no cell in use each claimed call has ended.
use Rattle.std.proofs.Common.{◌≡◌, ℕ, ◌+◌, ◌≤◌, List, arith, reverse}
use Rattle.std.proofs.lemmas.Grind.{common_steps}
use Rattle.std.proofs.lemmas.Int.{ints}
use Rattle.fak_model.specs.declared.queue.Kind.{Kind}
use Rattle.fak_model.specs.declared.queue.Mark.{Mark}
use Rattle.fak_model.specs.Queue.{IsQueueHistory, count, upper_raise, upper_drop}
use Rattle.fak_model.specs.QueuePast.{IsLegalPast}
use Rattle.fak_model.proofs.QueueBackwards.{count_reverse}
use Rattle.fak_model.proofs.QueueCounts.{count_two, claims_out_bounded, open_claim_in, open_put, open_claim_out, open_got, open_over_in, seat_bound, seats_bounded, a_claim_in, a_claim_out, an_end_in, an_end_out, an_over_in, a_back_in}
use Rattle.fak_model.proofs.QueueLiteral.{to_past}
use Rattle.fak_queue.specs.Drained.{IsDrained, claim_in_of, claim_out_of}
use Rattle.fak_channel.specs.Marks.{end_in_of, end_out_of}

raised : {T : Type 0} (κ : Kind T) → upper_raise κ ≡ a_claim_in κ + an_over_in κ
raised κ = grind (arith, common_steps, upper_raise, a_claim_in, an_over_in)

dropped : {T : Type 0} (κ : Kind T) → upper_drop κ ≡ a_back_in κ + an_end_out κ
dropped κ = grind (arith, common_steps, upper_drop, a_back_in, an_end_out)

claimed_in : {T : Type 0} (κ : Kind T) → claim_in_of κ ≡ a_claim_in κ
claimed_in κ = grind (arith, common_steps, claim_in_of, a_claim_in)

claimed_out : {T : Type 0} (κ : Kind T) → claim_out_of κ ≡ a_claim_out κ
claimed_out κ = grind (arith, common_steps, claim_out_of, a_claim_out)

ended_in : {T : Type 0} (κ : Kind T) → end_in_of κ ≡ an_end_in κ
ended_in κ = grind (arith, common_steps, end_in_of, an_end_in)

ended_out : {T : Type 0} (κ : Kind T) → end_out_of κ ≡ an_end_out κ
ended_out κ = grind (arith, common_steps, end_out_of, an_end_out)

-- the same counts, of a past
record AllEnded {T : Type 0} (past : List (Mark T)) : Type 0 where
  insertions : count an_end_in past ≡ count a_claim_in past
  deletions : count an_end_out past ≡ count a_claim_out past

-- a claim in is at most an end out, which is at most a claim out, which is at most an end in
all_ended : {T : Type 0} (size : ℕ) (past : List (Mark T)) → IsLegalPast size past → count upper_raise past ≤ count upper_drop past → AllEnded past
all_ended size past l none =
    let below = seats_bounded past in
    let a = open_claim_in size (seat_bound past) past l below in
    let b = open_put size (seat_bound past) past l below in
    let c = open_claim_out size (seat_bound past) past l below in
    let d = open_got size (seat_bound past) past l below in
    let o = open_over_in size (seat_bound past) past l below in
    let f = claims_out_bounded size past l in
    let ur = count_two upper_raise a_claim_in an_over_in raised past in
    let ud = count_two upper_drop a_back_in an_end_out dropped past in
    record {
      insertions = omega (arith, a, b, c, d, o, f, ur, ud, none);
      deletions = omega (arith, a, b, c, d, o, f, ur, ud, none);
    }

ended : {T : Type 0} (size : ℕ) (h : List (Mark T)) → IsQueueHistory size h → IsDrained h → AllEnded (reverse h)
ended size h law drained =
    let none : count upper_raise h ≤ count upper_drop h = (let e = drained.1 in omega (arith, ints, e)) in
    all_ended size (reverse h) (to_past size h law) (omega (arith, none, count_reverse upper_raise h, count_reverse upper_drop h))

pub insertions_ended : {T : Type 0} (size : ℕ) (h : List (Mark T)) → IsQueueHistory size h → IsDrained h → count end_in_of h ≡ count claim_in_of h
insertions_ended size h law drained =
    let e : count end_in_of h ≡ count an_end_in h = λ i. count (λ κ. ended_in κ i) h in
    let k : count claim_in_of h ≡ count a_claim_in h = λ i. count (λ κ. claimed_in κ i) h in
    omega (arith, e, k, (ended size h law drained).insertions, count_reverse an_end_in h, count_reverse a_claim_in h)

pub deletions_ended : {T : Type 0} (size : ℕ) (h : List (Mark T)) → IsQueueHistory size h → IsDrained h → count end_out_of h ≡ count claim_out_of h
deletions_ended size h law drained =
    let e : count end_out_of h ≡ count an_end_out h = λ i. count (λ κ. ended_out κ i) h in
    let k : count claim_out_of h ≡ count a_claim_out h = λ i. count (λ κ. claimed_out κ i) h in
    omega (arith, e, k, (ended size h law drained).deletions, count_reverse an_end_out h, count_reverse a_claim_out h)
