-- The blocks that end insertions and deletions of a bundle, and that the table's rule allows them.
use Rattle.fak_queue.proofs.Common.{from_itself, QueueHolder, IsPost, StandsIn, queue_object, IsShownQueue, QueueLimits, AreWords, ◌≡◌, ◌⊎◌, ℕ, ◌+◌, ◌-◌, ◌%◌, ◌^◌, ◌≤◌, List, ◌++◌, length, slice_index, set, refl, sym, ◌∙◌, subst, inl, inr, arith, Some, Bool, pos, ◌+ℤ◌, true, false, ◌-ℤ◌, Each, some, get_elem?, In, Allows, keeps, carried_after, Phase, QueueState}
use Rattle.fak_model.specs.declared.queue.Kind.TheVariants as made
use Rattle.fak_model.specs.Views.{sight as sees}
use Rattle.fak_model.specs.Shown.{Leaves}
use Rattle.fak_core.specs.declared.queue.phase.Phase.TheVariants.{EndDelete, Idle, EndInsert}
use Rattle.fak_core.specs.QueueBlocks.{Posts, names_of, AreApart, Stand, all_at, marks_back}
use Rattle.fak_queue.proofs.ReachedFrom.{reached_block}
use Rattle.fak_core.proofs.QueueBlocks.{names-at}
use Rattle.fak_core.proofs.InsertionBlocks.{ends}
use Rattle.fak_queue.specs.Bursts.{AllIn, EndedBurst}
use Rattle.fak_queue.proofs.Stepping.{QueueTable}
use Rattle.fak_queue.proofs.BurstPosts.{among_back, idle_all, out_at}
use Rattle.fak_queue.proofs.BurstBlocks.{lows, Permits, posted}
use Rattle.fak_core.proofs.DeletionBlocks.{ends_out}
use Rattle.fak_core.specs.QueueBlocks.{Stand, block}
use Rattle.fak_queue.proofs.ReachedFrom.{reached_block}
use Rattle.fak_core.proofs.InsertionBlocks.{ends}
use Rattle.fak_queue.specs.Bundles.{SaysOf}
use Rattle.fak_queue.specs.Bursts.{once_rest, EndedBurst, EndedOutBurst}
use Rattle.fak_queue.proofs.BurstPosts.{in_or_not, moved_posts, idle_at, idle_all, out_at, among_back}
use Rattle.fak_queue.proofs.BurstBlocks.{lows, wide_block, lower_more, upper_less, posted, Permits}

each_same : {T : Type 0} {a b : Posts T} → Some (Each a) ≡ Some (Each b) → a ≡ b
each_same e = cc

-- the phases of the names once these are at rest
rests_now : {T : Type 0} (c b : QueueState T) (items : List (ℕ × ℕ)) (all : Posts T) (names : List ℕ) (rests : Bool) → Stand c (all_at (λ k. Idle) items) → ((n : ℕ) → (In n (names_of items) → ⊥) → c.phase n ≡ b.phase n)
    → ((n : ℕ) → In n names → (p : Phase T) → IsPost n p all → b.phase n ≡ p) → (rests ≡ true → (n : ℕ) → In n names → In n (names_of items) ⊎ IsPost n Idle all) → (n : ℕ) → In n names → StandsIn c n (once_rest rests (names_of items) all)
rests_now {T} c b items all names true stand others were resting n i =
    let idle : In n (names_of items) → c.phase n ≡ Idle = λ k. idle_at c (all_at {A = T} (λ (k : ℕ). Idle) items) stand (idle_all T items) n (subst (In n) (sym (names-at {A = T} (λ (k : ℕ). Idle) items)) k) in
    elim (in_or_not n (names_of items)) [
      | inl k ↦ idle k
      | inr out ↦ elim (resting refl n i) [ inl k ↦ absurd (out k) | inr o ↦ others n out ∙ were n i Idle o ]
    ]
rests_now {T} c b items all names false stand others were resting n i = λ p o. elim (moved_posts (names_of items) Idle all n p o) [
  | inl e ↦ idle_at c (all_at {A = T} (λ (k : ℕ). Idle) items) stand (idle_all T items) n (subst (In n) (sym (names-at {A = T} (λ (k : ℕ). Idle) items)) e.0) ∙ sym e.1
  | inr e ↦ others n e.0 ∙ were n i p e.1
]

module _ {T : Type 0} (key : QueueLimits) (s : QueueTable T) (r : IsShownQueue key s) (id : ℕ) (m : QueueHolder T) (at : get_elem? s.views id ≡ some m.0) (items : List (ℕ × ℕ)) (all : Posts T) (says : m.0.phase ≡ Some (Each all)) (once : AreApart (names_of items)) (inn : AllIn (names_of items) m.0.names)
    (rests : Bool) (resting : rests ≡ true → (n : ℕ) → In n m.0.names → In n (names_of items) ⊎ IsPost n Idle all) (d : ℕ) (d_is : d ≡ length items) (small : d ≤ 1024) where
  were : (n : ℕ) → In n m.0.names → (p : Phase T) → IsPost n p all → r.core.phase n ≡ p
  were n i p o = r.stands id m.0 at n i (Each all) says p o

  pub ends_burst : ((n : ℕ) (p : Phase T) → IsPost n p (all_at (λ k. EndInsert k) items) → IsPost n p all) → Permits key s r id m at 32 (λ w. (w + d) % 2 ^ 64) (λ found after. EndedBurst key.size key.seats items rests m after)
  ends_burst among =
      let w = slice_index s.words 32 in
      let was = all_at (λ k. EndInsert k) items in
      let names = names-at (λ k. EndInsert k) items in
      let same = names-at {A = T} (λ (k : ℕ). Idle) items in
      let now = all_at {A = T} (λ (k : ℕ). Idle) items in
      let stood = posted key s r id m at all was says among (subst (λ l. AllIn l m.0.names) (sym names) inn) in
      let reached = reached_block key.size r.core was (lows key s r id m at (names_of was) (subst (λ l. AllIn l m.0.names) (sym names) inn)) (from_itself key.size r.core) (subst AreApart (sym names) once) stood in
      let x = ends key.size r.core items once in
      let words = subst (λ k. AreWords key.size (r.core.upper) (r.core.lower +ℤ pos k) r.core.draws_in r.core.draws_out r.core.turn r.core.shut (set s.words 32 ((w + d) % 2 ^ 64))) d_is (lower_more key s r id m at d small) in
      let new = marks_back (λ k. made.EndIn) items in
      let then = once_rest rests (names_of items) all in
      let q = wide_block key s r id m at was now (names ∙ sym same) (subst (λ l. AllIn l m.0.names) (sym same) inn) stood (out_at key.size (λ k. EndInsert k) items (λ x i j. j)) (out_at key.size (λ (k : ℕ). Idle) items (λ x i j. j))
      (block key.size r.core was) new (r.core.upper) (r.core.lower +ℤ pos (length items)) r.core.draws_in r.core.draws_out reached x (among_back (λ k. made.EndIn) items m.0.names inn)
      32 (omega arith, omega arith) ((w + d) % 2 ^ 64) words m.0.left (omega arith) then (rests_now (block key.size r.core was) r.core items all m.0.names rests x.stand (λ n out. x.others n (λ k. out (subst (In n) same k))) were resting) (λ past. Unit {0}) tt in (
        sees m.0.names m.0.noted (new ++ r.core.past) then m.0.left,
        keeps,
        tt,
        q.0,
        λ others e. subst (λ z. Leaves (queue_object key.size key.seats) m new (once_rest rests (names_of items) z) m.0.left m.1 (λ past. Unit {0}) (sees m.0.names m.0.noted (new ++ r.core.past) then m.0.left, m.1)) (each_same (sym says ∙ e)) q.1,
      )

  pub ends_out_burst : ((n : ℕ) (p : Phase T) → IsPost n p (all_at (λ k. EndDelete k) items) → IsPost n p all) → Permits key s r id m at 16 (λ w. (w + (2 ^ 64 - d)) % 2 ^ 64) (λ found after. EndedOutBurst key.size key.seats items rests m after)
  ends_out_burst among =
      let w = slice_index s.words 16 in
      let was = all_at (λ k. EndDelete k) items in
      let names = names-at (λ k. EndDelete k) items in
      let same = names-at {A = T} (λ (k : ℕ). Idle) items in
      let now = all_at {A = T} (λ (k : ℕ). Idle) items in
      let stood = posted key s r id m at all was says among (subst (λ l. AllIn l m.0.names) (sym names) inn) in
      let reached = reached_block key.size r.core was (lows key s r id m at (names_of was) (subst (λ l. AllIn l m.0.names) (sym names) inn)) (from_itself key.size r.core) (subst AreApart (sym names) once) stood in
      let x = ends_out key.size r.core items once in
      let words = subst (λ k. AreWords key.size (r.core.upper -ℤ pos k) (r.core.lower) r.core.draws_in r.core.draws_out r.core.turn r.core.shut (set s.words 16 ((w + (2 ^ 64 - d)) % 2 ^ 64))) d_is (upper_less key s r id m at d small) in
      let new = marks_back (λ k. made.EndOut) items in
      let then = once_rest rests (names_of items) all in
      let q = wide_block key s r id m at was now (names ∙ sym same) (subst (λ l. AllIn l m.0.names) (sym same) inn) stood (out_at key.size (λ k. EndDelete k) items (λ x i j. j)) (out_at key.size (λ (k : ℕ). Idle) items (λ x i j. j))
      (block key.size r.core was) new (r.core.upper -ℤ pos (length items)) (r.core.lower) r.core.draws_in r.core.draws_out reached x (among_back (λ k. made.EndOut) items m.0.names inn)
      16 (omega arith, omega arith) ((w + (2 ^ 64 - d)) % 2 ^ 64) words m.0.left (omega arith) then (rests_now (block key.size r.core was) r.core items all m.0.names rests x.stand (λ n out. x.others n (λ k. out (subst (In n) same k))) were resting) (λ past. Unit {0}) tt in (
        sees m.0.names m.0.noted (new ++ r.core.past) then m.0.left,
        keeps,
        tt,
        q.0,
        λ others e. subst (λ z. Leaves (queue_object key.size key.seats) m new (once_rest rests (names_of items) z) m.0.left m.1 (λ past. Unit {0}) (sees m.0.names m.0.noted (new ++ r.core.past) then m.0.left, m.1)) (each_same (sym says ∙ e)) q.1,
      )

module _ {T : Type 0} (key : QueueLimits) (slots seats id : ℕ) (m : QueueHolder T) (few : key.seats ≡ seats) (items : List (ℕ × ℕ)) (all : Posts T) (says : m.0.phase ≡ Some (Each all)) (once : AreApart (names_of items)) (inn : AllIn (names_of items) m.0.names)
    (rests : Bool) (resting : rests ≡ true → (n : ℕ) → In n m.0.names → In n (names_of items) ⊎ SaysOf m.0 n Idle) (d : ℕ) (d_is : d ≡ length items) (small : d ≤ 1024) where
  -- what the view says of a name is in its posts
  in_posts : (n : ℕ) (p : Phase T) → SaysOf m.0 n p → IsPost n p all
  in_posts n p s = subst (IsPost n p) (each_same (sym s.1 ∙ says)) s.2

  rest_posts : rests ≡ true → (n : ℕ) → In n m.0.names → In n (names_of items) ⊎ IsPost n Idle all
  rest_posts e n i = elim (resting e n i) [ inl k ↦ inl k | inr s ↦ inr (in_posts n Idle s) ]

  pub ends_burst_allowed : ((n : ℕ) (p : Phase T) → IsPost n p (all_at (λ k. EndInsert k) items) → SaysOf m.0 n p) → Allows (IsShownQueue key) slots id m 32 (λ w. (w + d) % 2 ^ 64) (λ found after. EndedBurst slots seats items rests m after)
  ends_burst_allowed among s r wide at small' =
      let size : key.size ≡ slots = sym r.encoded.wide ∙ wide in
      let q = ends_burst key s r id m at items all says once inn rests rest_posts d d_is small (λ n p o. in_posts n p (among n p o)) in
      (q.0, q.1, q.2, q.3, subst (λ (z : ℕ × ℕ). EndedBurst z.0 z.1 items rests m (q.0, carried_after m.1 q.1)) (λ j. (size j, few j)) q.4)

  pub ends_out_burst_allowed : ((n : ℕ) (p : Phase T) → IsPost n p (all_at (λ k. EndDelete k) items) → SaysOf m.0 n p) → Allows (IsShownQueue key) slots id m 16 (λ w. (w + (2 ^ 64 - d)) % 2 ^ 64) (λ found after. EndedOutBurst slots seats items rests m after)
  ends_out_burst_allowed among s r wide at small' =
      let size : key.size ≡ slots = sym r.encoded.wide ∙ wide in
      let q = ends_out_burst key s r id m at items all says once inn rests rest_posts d d_is small (λ n p o. in_posts n p (among n p o)) in
      (q.0, q.1, q.2, q.3, subst (λ (z : ℕ × ℕ). EndedOutBurst z.0 z.1 items rests m (q.0, carried_after m.1 q.1)) (λ j. (size j, few j)) q.4)
