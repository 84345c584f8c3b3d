-- The table of a queue whose seats are all joined: its slots hold what its history leaves.
use Rattle.fak_model.specs.declared.queue.Stage.TheVariants as at
use Rattle.fak_model.proofs.RunningViews.{sees_whole}
use Rattle.fak_core.specs.declared.queue.phase.Phase.TheVariants as phase
use Rattle.fak_core.specs.QueueSchedule.{InCell}
use Rattle.fak_queue.proofs.Common.{Alike, QueueLimits, QueueView, queue_object, IsShownQueue, ◌≡◌, ℕ, zero, suc, ◌+◌, ◌-◌, ◌/◌, ◌%◌, ◌<◌, ◌≤◌, List, [], ◌∷◌, ◌++◌, length, slice_index, drop, refl, sym, ap, ◌∙◌, subst, inl, inr, arith, mod-lt, Option, Some, reverse, All, All-head, All-tail, some, some-injective, some-ne-none, get_elem?, count, puts, gots, items_put, item_at, contents, Has, stage, item_of, IsWhole, State, Final, Seen, Fill, Take, Mark, Stage, count_reverse, items_count, contents_bounded, stage_else, item_there, take_below, IsKept, shown, take_turn, le_or_lt, in_cell, kept, total}
use Rattle.fak_queue.specs.Left.{item_in, items_left, AreLeft}
use Rattle.fak_queue.proofs.DeletionSteps.{item_past}
use Rattle.fak_model.proofs.QueueDrawn.{filled_or_putting}

-- a seat of no mark is idle
unnamed : {T : Type 0} (seats : ℕ) (h : List (Mark T)) (s : ℕ) → All (λ (m : Mark T). m.seat < seats) h → seats ≤ s → stage h s ≡ at.Idle
unnamed seats [] s all far = refl
unnamed {T} seats (m ∷ h) s all far =
    let P : Mark T → Type 0 = λ (m : Mark T). m.seat < seats in
    let low = All-head P m h all in
    stage_else m h s (λ e. omega (arith, e, low, far)) ∙ unnamed seats h s (All-tail P m h all) far

drop_at_item : {T : Type 0} (xs : List T) (k : ℕ) (x : T) → item_at xs k ≡ Some x → drop k xs ≡ x ∷ drop (suc k) xs
drop_at_item [] k x e = absurd cc
drop_at_item (y ∷ xs) zero x e = let same : y ≡ x = cc in ap (λ z. z ∷ xs) same
drop_at_item (y ∷ xs) (suc k) x e = drop_at_item xs k x e

drop_end : {T : Type 0} (xs : List T) (k : ℕ) → length xs ≤ k → drop k xs ≡ []
drop_end [] zero le = refl
drop_end [] (suc k) le = refl
drop_end (y ∷ xs) zero le = absurd (omega (arith, le))
drop_end (y ∷ xs) (suc k) le = drop_end xs k (omega (arith, le))

read_at : (l : List ℕ) (i n : ℕ) → get_elem? l i ≡ some n → slice_index l i ≡ n
read_at [] i n e = absurd (some-ne-none n (sym e))
read_at (x ∷ l) zero n e = some-injective x n e
read_at (x ∷ l) (suc i) n e = read_at l i n e

module _ {T : Type 0} (key : QueueLimits) (s : State (Option T) (QueueView T)) (r : IsShownQueue key s) (id : ℕ) (v : QueueView T) (there : get_elem? s.views id ≡ some v) (idle : v.phase ≡ Some (Alike phase.Idle)) (whole : IsWhole key.seats v.names) where
  K : IsKept key.size r.core
  K = kept key.size r.core r.reached.reached r.encoded.some_cell

  -- no call of any seat is open
  at_rest : (n : ℕ) → stage r.core.past n ≡ at.Idle
  at_rest n = elim (le_or_lt key.seats n) [
    | inl far ↦ unnamed key.seats r.core.past n r.named far
    | inr low ↦ sym (K.phases n) ∙ ap shown (r.stands id v there n (whole n low) (Alike phase.Idle) idle)
  ]

  nobody : (n c : ℕ) → InCell key.size (r.core.phase n) c → ⊥
  nobody n c inside = elim (in_cell key.size r.core.past r.core.cell (r.core.phase n) c (K.ready n) inside) [
    | inl p ↦ absurd (let two : at.Putting p.0 p.1 ≡ at.Idle = sym p.2 ∙ (K.phases n ∙ at_rest n) in cc)
    | inr g ↦ absurd (let two : ◌≡◌ {A = Stage T} (at.Getting g.0) at.Idle = sym g.1 ∙ (K.phases n ∙ at_rest n) in cc)
  ]

  filled : (k : ℕ) → k < count puts r.core.past → Has (Fill k) r.core.past
  filled k lt = elim (filled_or_putting key.size r.core.past K.legal k lt) [
    | inl f ↦ f
    | inr p ↦ absurd (let two : at.Putting k p.1 ≡ at.Idle = sym p.2 ∙ at_rest p.0 in cc)
  ]

  -- the slot of a ticket that was put and not got has its item
  in_slot : (k : ℕ) → count gots r.core.past ≤ k → (x : T) → item_of r.core.past k ≡ Some x → k < count puts r.core.past → get_elem? s.homes (k % key.size) ≡ some (some (Some x))
  in_slot k late x is lt =
      let untaken : Has (Take k) r.core.past → ⊥ = λ h. let b = take_below key.size r.core.past K.legal k h in omega (arith, b, late) in
      let turn = take_turn key.size r.core.past r.core.turn k K.turns (filled k lt) untaken in
      elim (r.encoded.slots_are (k % key.size) (mod-lt k r.encoded.some_cell)) [
        | inl home ↦ home.0.odd (k / key.size) turn ∙ ap (λ (o : Option T). some (some o)) (K.cells k (filled k lt) untaken ∙ is)
        | inr out ↦ absurd (nobody out.0 (k % key.size) out.1)
      ]

  module _ (cells : List (Option T)) (taken_out : (i : ℕ) (y : Option T) → get_elem? s.homes i ≡ some (some y) → get_elem? cells i ≡ some y) where
    left_from : (n k : ℕ) → k + n ≡ count puts r.core.past → count gots r.core.past ≤ k
        → (items_left key.size cells k n ≡ drop k (items_put (reverse r.core.past))) × (length (items_left key.size cells k n) ≡ n)
    left_from zero k all late = (sym (drop_end (items_put (reverse r.core.past)) k (let many = items_count (reverse r.core.past) ∙ count_reverse puts r.core.past in omega (arith, many, all))), refl)
    left_from (suc n) k all late =
        let lt : k < count puts r.core.past = omega (arith, all) in
        let it = item_there r.core.past k lt in
        let here = taken_out (k % key.size) (Some it.0) (in_slot k late it.0 it.1 lt) in
        let more = left_from n (suc k) (omega (arith, all)) (omega (arith, late)) in (
          (λ i. item_in (here i) ++ more.0 i) ∙ sym (drop_at_item (items_put (reverse r.core.past)) k it.0 (item_past r.core.past k ∙ it.1)),
          ap (λ o. length (item_in o ++ items_left key.size cells (suc k) n)) here ∙ ap suc more.1,
        )

    saw_all : reverse r.core.past ≡ reverse v.seen
    saw_all = ap reverse (sees_whole (queue_object {T = T} key.size key.seats).rules key.seats v.names v.seen r.core.past whole r.named (r.sees id v there))

    -- the tickets that were got and put, and what is left between them
    pub record Remains (put got : ℕ) : Type 0 where
      pub more : got ≤ put
      pub left : AreLeft key.size cells got (put - got)
      pub are : items_left key.size cells got (put - got) ≡ contents (reverse v.seen)

    pub remains : (put got : ℕ) → slice_index s.words 48 ≡ put → slice_index s.words 64 ≡ got → Remains put got
    remains put got put_is got_is =
        let p : put ≡ count puts r.core.past = sym put_is ∙ (r.encoded.words_are.draws_in_is ∙ K.draws_in) in
        let q : got ≡ count gots r.core.past = sym got_is ∙ (r.encoded.words_are.draws_out_is ∙ K.draws_out) in
        let bounds = contents_bounded key.size r.core.past K.legal in
        let b0 = bounds.0 in
        let b1 = bounds.1 in
        let few : count puts r.core.past + count gots r.core.past + total (λ (w : QueueView T). w.left) s.views ≤ 1125899906842624 = r.few in
        let all = left_from (put - got) got (omega (arith, p, q, b0)) (omega (arith, q)) in
        record {
          more = omega (arith, p, q, b0);
          left = record { some_cell = r.encoded.some_cell; fit = omega (arith, p, q, b0, b1); few = omega (arith, p, q, b0, few); each = all.1 };
          are = all.0 ∙ ((λ i. drop ((q ∙ sym (count_reverse gots r.core.past)) i) (items_put (reverse r.core.past))) ∙ ap contents saw_all);
        }

-- what a closed table of a queue of this size holds, if the tickets put and got are these
pub record Closes {T : Type 0} (size : ℕ) (seen : List (Mark T)) (cells : List (Option T)) (put got : ℕ) : Type 0 where
  pub more : got ≤ put
  pub left : AreLeft size cells got (put - got)
  pub are : items_left size cells got (put - got) ≡ contents seen

pub closes : {T : Type 0} (key : QueueLimits) (size id : ℕ) (v : QueueView T) (ws : List ℕ) (cells : List (Option T)) (put got : ℕ) → Final (Seen (IsShownQueue key) id v) ws cells → length cells ≡ size → v.phase ≡ Some (Alike phase.Idle) → IsWhole key.seats v.names
    → get_elem? ws 48 ≡ some put → get_elem? ws 64 ≡ some got → Closes size (reverse v.seen) cells put got
closes {T} key size id v ws cells put got f long idle whole at_put at_got =
    let s = f.0 in
    let r = f.1.0 in
    let same : key.size ≡ size = sym r.encoded.wide ∙ (f.3 ∙ long) in
    let l = remains key s r id v f.1.1 idle whole cells f.4 put got (ap (λ ws. slice_index ws 48) f.2 ∙ read_at ws 48 put at_put) (ap (λ ws. slice_index ws 64) f.2 ∙ read_at ws 64 got at_got) in
    subst (λ k. Closes k (reverse v.seen) cells put got) same record { more = l.more; left = l.left; are = l.are }
