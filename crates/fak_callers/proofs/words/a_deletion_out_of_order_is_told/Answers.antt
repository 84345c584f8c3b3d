use Rattle.std.proofs.Common.{◌≡◌, ℕ, ◌+◌, ◌<◌, List, [], ◌∷◌, ◌++◌, refl, ap, arith}
use Rattle.std.proofs.lemmas.List.Elements.{All-nil}
use Rattle.fak_model.specs.Examples.{by, deleted, inserted}
use Rattle.fak_model.specs.Queue.{count, gots}
use Rattle.fak_model.specs.QueueOrder.{Deletion, Insertion, Successive}
use Rattle.fak_model.specs.declared.queue.Kind.{Kind}
use Rattle.fak_model.specs.declared.queue.Kind.TheVariants.{ClaimIn, Put, Fill, EndIn, ClaimOut, Got, Take, EndOut}
use Rattle.fak_model.specs.declared.queue.Mark.{Mark}
use Rattle.fak_callers.proofs.words.a_deletion_out_of_order_is_told.Goals as goal

-- two marks of one seat side by side
abbrev beside : (before after : List (Mark ℕ)) (s : ℕ) (first second : Kind ℕ) → Successive (before ++ by s first ∷ by s second ∷ after) first second
beside before after s first second = record {
  before = before;
  m = by s first;
  between = [];
  n = by s second;
  after = after;
  stands = refl;
  first_is = refl;
  second_is = refl;
  same = refl;
  none = All-nil _;
}

gots_append : (f g : List (Mark ℕ)) → count gots (f ++ g) ≡ count gots f + count gots g
gots_append [] g = omega arith
gots_append (m ∷ f) g = omega (arith, gots_append f g)

-- k Gots come before that of a deletion with ticket k
drawn : (h : List (Mark ℕ)) (k : ℕ) → Deletion h k → k < count gots h
drawn h k d =
    let is = ap gots d.claim.second_is in
    let all = ap (count gots) d.claim.stands in
    let first = gots_append d.claim.before (d.claim.m ∷ (d.claim.between ++ d.claim.n ∷ d.claim.after)) in
    let second = gots_append d.claim.between (d.claim.n ∷ d.claim.after) in
    let third = gots_append d.claim.before (d.claim.m ∷ d.claim.between) in
    omega (arith, is, all, first, second, third, d.ticket)

pub returns-clause-told : goal.returns-clause-told
returns-clause-told c keeps =
    let third : Insertion (inserted 0 7 0 ++ inserted 0 8 1 ++ inserted 0 9 2 ++ deleted 1 9 2) 2 = record {
      x = 9;
      claim = beside (inserted 0 7 0 ++ inserted 0 8 1) (by 0 (Fill 2) ∷ by 0 EndIn ∷ deleted 1 9 2) 0 ClaimIn (Put 9);
      ticket = refl;
    } in
    let in_before = beside (inserted 0 7 0 ++ by 0 ClaimIn ∷ by 0 (Put 8) ∷ []) [] 0 (Fill 1) EndIn in
    let out = beside (inserted 0 7 0 ++ inserted 0 8 1 ++ inserted 0 9 2 ++ by 1 ClaimOut ∷ by 1 (Got 9) ∷ []) [] 1 (Take 2) EndOut in
    let low = drawn _ 1 (keeps 1 2 third in_before _ [] refl out) in
    absurd (omega (arith, low))

pub returns-clause-keeps : goal.returns-clause-keeps
returns-clause-keeps c =
    c.a_queue_keeps_the_order_of_its_calls.ensures 2 _ (c.a_beginning_of_a_queue_history_is_one.ensures 2 (inserted 0 7 0 ++ inserted 0 8 1 ++ by 1 ClaimOut ∷ by 1 (Got 7) ∷ [] ++ deleted 2 8 1) (by 0 ClaimIn ∷ by 0 (Put 9) ∷ by 1 (Take 0) ∷ by 0 (Fill 2) ∷ []) c.the_cells_of_a_queue_are_judged.ensures.fill.0)

pub returns-clause-met : goal.returns-clause-met
returns-clause-met c = (
  record {
    x = 8;
    claim = beside (inserted 0 7 0) (by 0 (Fill 1) ∷ by 0 EndIn ∷ by 1 ClaimOut ∷ by 1 (Got 7) ∷ deleted 2 8 1) 0 ClaimIn (Put 8);
    ticket = refl;
  },
  beside (by 0 ClaimIn ∷ by 0 (Put 7) ∷ []) [] 0 (Fill 0) EndIn,
  beside (inserted 0 7 0 ++ inserted 0 8 1 ++ by 1 ClaimOut ∷ by 1 (Got 7) ∷ by 2 ClaimOut ∷ by 2 (Got 8) ∷ []) [] 2 (Take 1) EndOut,
)
