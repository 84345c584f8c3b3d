-- A queue that is shut with no cell in use stays empty.
use Rattle.fak_model.specs.QueuePast.{IsFair}
use Rattle.fak_queue.specs.Drained.{IsDrained, claim_in_of, claim_out_of}
use Rattle.fak_model.specs.Seats.{Begins}
use Rattle.fak_model.proofs.QueueCounts.{count_two, claims_out_bounded, open_claim_in, open_put, open_claim_out, open_got, open_over_in, seat_bound, seats_bounded, a_claim_in, a_claim_out, an_over_in, a_back_in, an_end_out}
use Rattle.fak_model.proofs.QueueLiteral.{to_past}
use Rattle.fak_model.proofs.QueueWeights.{nothing_left}
use Rattle.fak_model.proofs.Appending.{history_prefix}
use Rattle.std.proofs.lemmas.List.{reverse-append}
use Rattle.fak_queue.proofs.Common.{◌≡◌, ℕ, ◌+◌, ◌≤◌, List, [], ◌∷◌, ◌++◌, refl, sym, ap, ◌∙◌, subst, inr, arith, ints, common_steps, reverse, count, puts, gots, upper_raise, upper_drop, contents, Has, Close, Kind, Mark, IsQueueHistory, queue_rules, IsLegalPast, count_reverse, count_append, has_reverse}

claim_in_same : {T : Type 0} (κ : Kind T) → claim_in_of κ ≡ a_claim_in κ
claim_in_same κ = grind (arith, common_steps, claim_in_of, a_claim_in)

claim_out_same : {T : Type 0} (κ : Kind T) → claim_out_of κ ≡ a_claim_out κ
claim_out_same κ = grind (arith, common_steps, claim_out_of, a_claim_out)

raised : {T : Type 0} (κ : Kind T) → upper_raise κ ≡ claim_in_of κ + an_over_in κ
raised κ = grind (arith, common_steps, upper_raise, claim_in_of, an_over_in)

dropped : {T : Type 0} (κ : Kind T) → upper_drop κ ≡ a_back_in κ + an_end_out κ
dropped κ = grind (arith, common_steps, upper_drop, a_back_in, an_end_out)

count_same : {T : Type 0} (a b : Kind T → ℕ) → ((κ : Kind T) → a κ ≡ b κ) → (h : List (Mark T)) → count a h ≡ count b h
count_same a b e [] = refl
count_same a b e (m ∷ h) = λ i. e m.kind i + count_same a b e h i

-- what is ever claimed, put and got, and how the claims bound one another
record Amounts {T : Type 0} (h : List (Mark T)) : Type 0 where
  puts_few : count puts h ≤ count claim_in_of h
  claims_few : count claim_out_of h ≤ count puts h
  gots_few : count gots h ≤ count claim_out_of h

amounts : {T : Type 0} (size : ℕ) (h : List (Mark T)) → IsLegalPast size h → Amounts h
amounts size h l =
    let below = seats_bounded h in
    let a = open_claim_in size (seat_bound h) h l below in
    let b = open_put size (seat_bound h) h l below in
    let c = open_claim_out size (seat_bound h) h l below in
    let f = claims_out_bounded size h l in
    let s = count_same claim_in_of a_claim_in claim_in_same h in
    let t = count_same claim_out_of a_claim_out claim_out_same h in
    record { puts_few = omega (arith, a, s); claims_few = omega (arith, b, f, t); gots_few = omega (arith, c, t) }

-- with no cell in use each insertion that was claimed was got
all_got : {T : Type 0} (size : ℕ) (h : List (Mark T)) → IsLegalPast size h → count upper_raise h ≤ count upper_drop h → count claim_in_of h ≤ count gots h
all_got size h l none =
    let below = seats_bounded h in
    let d = open_got size (seat_bound h) h l below in
    let o = open_over_in size (seat_bound h) h l below in
    let ur = count_two upper_raise claim_in_of an_over_in raised h in
    let ud = count_two upper_drop a_back_in an_end_out dropped h in
    omega (arith, d, o, ur, ud, none)

-- after a shut no insertion is claimed
claim_or_close : {T : Type 0} (size : ℕ) (h : List (Mark T)) (κ : Kind T) → IsFair size h κ → Has Close h → claim_in_of κ ≡ 0
claim_or_close size h κ f has = grind (arith, common_steps, IsFair, claim_in_of)

has_more : {T : Type 0} (k h : List (Mark T)) → Has Close h → Has Close (k ++ h)
has_more [] h e = e
has_more (m ∷ k) h e = inr (has_more k h e)

no_more_claims : {T : Type 0} (size : ℕ) (k h : List (Mark T)) → IsLegalPast size (k ++ h) → Has Close h → count claim_in_of (k ++ h) ≡ count claim_in_of h
no_more_claims size [] h l has = refl
no_more_claims size (m ∷ k) h l has =
    let rest = no_more_claims size k h l.1 has in
    let here = claim_or_close size (k ++ h) m.kind l.0.fair (has_more k h has) in
    omega (arith, rest, here)

none_in_use : {T : Type 0} (h : List (Mark T)) → IsDrained h → count upper_raise h ≤ count upper_drop h
none_in_use h d = let e = d.1 in omega (arith, ints, e)

-- the amounts of a history, oldest mark first
forward : {T : Type 0} (w : Kind T → ℕ) (h : List (Mark T)) → count w (reverse h) ≡ count w h
forward w h = count_reverse w h

record Drained {T : Type 0} (h : List (Mark T)) : Type 0 where
  amounts : Amounts h
  got : count claim_in_of h ≤ count gots h

drained : {T : Type 0} (size : ℕ) (h : List (Mark T)) → IsQueueHistory size h → IsDrained h → Drained h
drained size h law d =
    let l = to_past size h law in
    let a = amounts size (reverse h) l in
    let none = none_in_use h d in
    let g = all_got size (reverse h) l (omega (arith, none, forward upper_raise h, forward upper_drop h)) in
    let p = forward puts h in let q = forward gots h in let i = forward claim_in_of h in let o = forward claim_out_of h in
    record {
      amounts = record { puts_few = omega (arith, a.puts_few, p, i); claims_few = omega (arith, a.claims_few, p, o); gots_few = omega (arith, a.gots_few, q, o) };
      got = omega (arith, g, q, i);
    }

pub drained_claims : {T : Type 0} (size : ℕ) (h : List (Mark T)) → IsQueueHistory size h → IsDrained h → count claim_in_of h ≡ count claim_out_of h
drained_claims size h law d = let r = drained size h law d in omega (arith, r.amounts.puts_few, r.amounts.claims_few, r.amounts.gots_few, r.got)

pub drained_gone : {T : Type 0} (size : ℕ) (h : List (Mark T)) → IsQueueHistory size h → IsDrained h → (count puts h ≡ count gots h) × (contents h ≡ [])
drained_gone size h law d =
    let r = drained size h law d in
    let same : count puts h ≡ count gots h = omega (arith, r.amounts.puts_few, r.amounts.claims_few, r.amounts.gots_few, r.got) in
    (same, nothing_left h (omega (arith, same)))

pub drained_later : {T : Type 0} (size : ℕ) (h later : List (Mark T)) → IsQueueHistory size later → Begins h later → IsDrained h
    → (count claim_in_of later ≡ count claim_in_of h) × (count claim_out_of later ≡ count claim_out_of h) × (count puts later ≡ count puts h) × (count gots later ≡ count gots h) × (contents later ≡ [])
drained_later size h later law b d =
    let whole : IsQueueHistory size (h ++ b.0) = subst (IsQueueHistory size) (sym b.1) law in
    let r = drained size h (history_prefix (queue_rules size) h b.0 whole) d in
    let l = to_past size (h ++ b.0) whole in
    let back : reverse (h ++ b.0) ≡ reverse b.0 ++ reverse h = reverse-append h b.0 in
    let claims = ap (count claim_in_of) (sym b.1) ∙ (sym (forward claim_in_of (h ++ b.0)) ∙ (ap (count claim_in_of) back
    ∙ (no_more_claims size (reverse b.0) (reverse h) (subst (IsLegalPast size) back l) (has_reverse Close h d.0) ∙ forward claim_in_of h))) in
    let a = amounts size (reverse later) (to_past size later law) in
    let p = forward puts later in let q = forward gots later in let i = forward claim_in_of later in let o = forward claim_out_of later in
    let more = ap (count gots) (sym b.1) ∙ count_append gots h b.0 in
    let gone : count puts later ≡ count gots later = omega (arith, a.puts_few, a.claims_few, a.gots_few, p, q, i, o, claims, r.got, more) in (
      claims,
      omega (arith, a.puts_few, a.claims_few, a.gots_few, p, q, i, o, claims, r.got, more, r.amounts.puts_few, r.amounts.claims_few, r.amounts.gots_few),
      omega (arith, a.puts_few, a.claims_few, a.gots_few, p, q, i, o, claims, r.got, more, r.amounts.puts_few, r.amounts.claims_few, r.amounts.gots_few),
      omega (arith, a.puts_few, a.claims_few, a.gots_few, p, q, i, o, claims, r.got, more, r.amounts.puts_few, r.amounts.claims_few, r.amounts.gots_few),
      nothing_left later (omega (arith, gone)),
    )
