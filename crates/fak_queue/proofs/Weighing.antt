-- What calls and joins add to the weights of the items that were put into a queue and got out of it.
use Rattle.fak_queue.proofs.Common.{append-nil, append_assoc, map, marks_of, ◌≡◌, ◌≢◌, ℕ, ◌+◌, Bool, true, false, List, [], ◌∷◌, ◌++◌, refl, ap, sym, ◌∙◌, subst, inl, inr, arith, flat_map, sum_by, sum_by-cons, queue_rules, count, contents, In, mine, SeatInfo, TallyInfo, tally_of, mine_of, IsJoined, put_of, got_of, Kind, OverIn, BackIn, NoRoom, OverOut, BackOut, NoItem, Close, Closed, LateIn, Mark, count_append, IsWorn, ShutsAs, made_by, seat_of, RefusesDeletion, RefusedInsertion, kinds_not_in, RefusedDeletion, kinds_not_out, kinds_in, kinds_out, MakesAtLast, common_steps, DeleteFault}
use Rattle.fak_model.specs.Calls.{IsJoinOf}
use Rattle.fak_model.proofs.SeatWeights.{mine_one, mine_joined, mine_known, mine_more}
use Rattle.fak_queue.specs.BundleCalls.{BundleInfo, seat_in}
use Rattle.fak_queue.specs.Bundling.{tally_of_bundle}
use Rattle.fak_queue.specs.Sums.{seats_in}
use Rattle.fak_queue.proofs.NameLists.{StandOnce, front_once, last_is_new}
use Rattle.fak_queue.specs.declared.fault.DeleteFault.TheVariants as deletion
use Rattle.fak_queue.proofs.AfterRefusals.{made_by_append, at_once, refused_empty}

-- ---- weights of kinds

-- what a seat's own marks weigh
abbrev pub weight_of : {A : Type 0} → (Kind A → ℕ) → SeatInfo (Mark A) → ℕ
weight_of v s = count v (mine_of seat_of s)

-- what the marks of a tally's seats weigh
abbrev pub weight_in : {A : Type 0} → (Kind A → ℕ) → TallyInfo (Mark A) → ℕ
weight_in v t = count v (mine seat_of t.names t.seen)

-- a refused insertion weighs nothing if its kinds weigh nothing
pub none_in : {A : Type 0} (v : Kind A → ℕ) → v NoRoom + v OverIn + v BackIn + v Closed + v LateIn ≡ 0 → (name : ℕ) (r : RefusedInsertion) → count v (made_by name (kinds_not_in r)) ≡ 0
none_in v none u v' = grind (arith, common_steps, count, made_by, kinds_not_in)

-- and a refused deletion likewise
pub none_out : {A : Type 0} (v : Kind A → ℕ) → v NoItem + v OverOut + v BackOut ≡ 0 → (name : ℕ) (r : RefusedDeletion) → count v (made_by name (kinds_not_out r)) ≡ 0
none_out v none u v' = grind (arith, common_steps, count, made_by, kinds_not_out)

module _ {A R : Type 0} (v : Kind A → ℕ) (kinds_of : R → List (Kind A)) (none : (name : ℕ) (r : R) → count v (made_by name (kinds_of r)) ≡ 0) where
  -- refused calls add nothing
  count_refused : (name : ℕ) (refused : List R) → count v (made_by name (flat_map kinds_of refused)) ≡ 0
  count_refused name [] = refl
  count_refused name (r ∷ rs) =
      ap (count v) (made_by_append name (kinds_of r) (flat_map kinds_of rs)) ∙ (count_append v (made_by name (kinds_of r)) (made_by name (flat_map kinds_of rs)) ∙ omega (arith, none name r, count_refused name rs))

  -- so marks after theirs weigh the same as without them
  pub count_at_last : (name : ℕ) (refused : List R) (kinds : List (Kind A)) → count v (made_by name (flat_map kinds_of refused ++ kinds)) ≡ count v (made_by name kinds)
  count_at_last name refused kinds = grind (arith, common_steps, count, made_by_append, name, flat_map, count_append, made_by, count_refused)

  -- and a call after refused ones adds what its own marks weigh
  pub count_more : {size : ℕ} {kinds : List (Kind A)} {old new : SeatInfo (Mark A)} → MakesAtLast kinds_of size kinds old new → weight_of v new ≡ weight_of v old + count v (made_by old.name kinds)
  count_more {kinds = kinds} {old = old} t = grind (arith, common_steps, count, count_append, mine_of, seat_of, made_by, flat_map, count_at_last)

-- ---- calls

-- a call whose own marks put in and got out this much, under every weight of items
pub record Weighs {A : Type 0} (put got : (A → ℕ) → ℕ) (old new : SeatInfo (Mark A)) : Type 0 where
  pub name : new.name ≡ old.name
  pub stint : new.stint ≡ old.stint
  pub put_is : (w : A → ℕ) → weight_of (put_of w) new ≡ weight_of (put_of w) old + put w
  pub got_is : (w : A → ℕ) → weight_of (got_of w) new ≡ weight_of (got_of w) old + got w

module _ {A : Type 0} {old new : SeatInfo (Mark A)} where
  -- a call adds the weight of its own marks, if the refused ones before it weigh nothing
  call_weighs : {R : Type 0} {kinds_of : R → List (Kind A)} {size : ℕ} {kinds : List (Kind A)} (put got : (A → ℕ) → ℕ) → MakesAtLast kinds_of size kinds old new
      → ((w : A → ℕ) (name : ℕ) (r : R) → count (put_of w) (made_by name (kinds_of r)) ≡ 0) → ((w : A → ℕ) (name : ℕ) (r : R) → count (got_of w) (made_by name (kinds_of r)) ≡ 0)
      → ((w : A → ℕ) → count (put_of w) (made_by old.name kinds) ≡ put w) → ((w : A → ℕ) → count (got_of w) (made_by old.name kinds) ≡ got w) → Weighs put got old new
  call_weighs {kinds_of = kinds_of} put got t none_put none_got p g = record {
    name = ap (λ (s : SeatInfo (Mark A)). s.name) t.makes.same_seat;
    stint = ap (λ (s : SeatInfo (Mark A)). s.stint) t.makes.same_seat;
    put_is = λ w. omega (arith, count_more (put_of w) kinds_of (none_put w) t, p w);
    got_is = λ w. omega (arith, count_more (got_of w) kinds_of (none_got w) t, g w);
  }

  -- a call after refused insertions
  after_full : {size : ℕ} {kinds : List (Kind A)} (put got : (A → ℕ) → ℕ) → MakesAtLast kinds_not_in size kinds old new
      → ((w : A → ℕ) → count (put_of w) (made_by old.name kinds) ≡ put w) → ((w : A → ℕ) → count (got_of w) (made_by old.name kinds) ≡ got w) → Weighs put got old new
  after_full put got t p g = call_weighs put got t (λ w. none_in (put_of w) refl) (λ w. none_in (got_of w) refl) p g

  -- a call after refused deletions
  after_empty : {size : ℕ} {kinds : List (Kind A)} (put got : (A → ℕ) → ℕ) → MakesAtLast kinds_not_out size kinds old new
      → ((w : A → ℕ) → count (put_of w) (made_by old.name kinds) ≡ put w) → ((w : A → ℕ) → count (got_of w) (made_by old.name kinds) ≡ got w) → Weighs put got old new
  after_empty put got t p g = call_weighs put got t (λ w. none_out (put_of w) refl) (λ w. none_out (got_of w) refl) p g

  -- an insertion puts its item in, whatever was refused before
  pub insertion_weighs : {size k : ℕ} {x : A} → MakesAtLast kinds_not_in size (kinds_in k x) old new → Weighs (λ w. w x) (λ w. 0) old new
  insertion_weighs {x = x} t = after_full (λ w. w x) (λ w. 0) t (λ w. omega arith) (λ w. refl)

  -- a deletion gets its item out, whatever was refused before
  pub deletion_weighs : {size k : ℕ} {x : A} → MakesAtLast kinds_not_out size (kinds_out k x) old new → Weighs (λ w. 0) (λ w. w x) old new
  deletion_weighs {x = x} t = after_empty (λ w. 0) (λ w. w x) t (λ w. refl) (λ w. omega arith)

  -- a call of a worn seat adds nothing
  pub worn_weighs : IsWorn old new → Weighs (λ w. 0) (λ w. 0) old new
  worn_weighs worn = grind (arith, common_steps, put_of, got_of)

  -- nor does a shut
  pub shut_weighs : (size : ℕ) (first : Bool) → ShutsAs size first old new → Weighs (λ w. 0) (λ w. 0) old new
  shut_weighs size true s = after_full {size = size} {kinds = Close ∷ []} (λ w. 0) (λ w. 0) (at_once kinds_not_in s.0) (λ w. refl) (λ w. refl)
  shut_weighs size false s = after_full {size = size} {kinds = Close ∷ []} (λ w. 0) (λ w. 0) (at_once kinds_not_in s.0) (λ w. refl) (λ w. refl)

  -- nor a refused `delete`
  pub refused_delete_weighs : (size : ℕ) (fault : DeleteFault) → RefusesDeletion size old new fault → Weighs (λ w. 0) (λ w. 0) old new
  refused_delete_weighs size deletion.Worn r = worn_weighs r
  refused_delete_weighs size (deletion.Empty lower) r =
      let is = refused_empty r.1 in
      after_empty (λ w. 0) (λ w. 0) (at_once kinds_not_out is.makes) (λ w. none_out (put_of w) refl old.name is.refusal) (λ w. none_out (got_of w) refl old.name is.refusal)

-- ---- tallies

module _ {A : Type 0} (v : Kind A → ℕ) where
  -- a weight of marks is a sum over them
  count_sums : (h : List (Mark A)) → count v h ≡ sum_by (λ (m : Mark A). v m.kind) h
  count_sums [] = refl
  count_sums (m ∷ h) = omega (arith, count_sums h, sum_by-cons (λ (m : Mark A). v m.kind) m h)

  -- the tally of one seat weighs what the seat's marks do
  pub one_weighs : (s : SeatInfo (Mark A)) {t : TallyInfo (Mark A)} → t ≡ tally_of s → weight_in v t ≡ weight_of v s
  one_weighs s one = ap (weight_in v) one ∙ ap (count v) (mine_one seat_of s.name s.seen)

  -- a join of a seat with a new name adds what the seat's marks weigh
  pub join_weighs : {size : ℕ} {t both : TallyInfo (Mark A)} {s : SeatInfo (Mark A)} → IsJoined (queue_rules size) t s both → (In s.name t.names → ⊥) → weight_in v both ≡ weight_in v t + weight_of v s
  join_weighs {t = t} {both = both} {s = s} j new = grind (arith, common_steps, mine_joined, seat_of, count, mine, count_sums, mine_of)

  -- names that occur once add what the marks of each weigh
  names_weigh : (names more : List ℕ) (h : List (Mark A)) → StandOnce (names ++ more) → count v (mine seat_of (names ++ more) h) ≡ count v (mine seat_of names h) + sum_by (λ (n : ℕ). count v (marks_of seat_of n h)) more
  names_weigh names [] h once = omega (arith, ap (λ (l : List ℕ). count v (mine seat_of l h)) (append-nil names))
  names_weigh names (n ∷ more) h once =
      let all = append_assoc names (n ∷ []) more in
      let once' = subst StandOnce (sym all) once in
      let whole = ap (λ (l : List ℕ). count v (mine seat_of l h)) all in
      let rest = names_weigh (names ++ n ∷ []) more h once' in
      let one = mine_more seat_of (λ (m : Mark A). v m.kind) names n h (last_is_new names n (front_once (names ++ n ∷ []) more once')) in
      let a = count_sums (mine seat_of (names ++ n ∷ []) h) in
      let b = count_sums (mine seat_of names h) in
      let c = count_sums (marks_of seat_of n h) in
      let s = sum_by-cons (λ (n : ℕ). count v (marks_of seat_of n h)) n more in
      omega (arith, whole, rest, one, a, b, c, s)

  -- what names weigh in one history they weigh in another that has the same marks of theirs
  same_weigh : (names : List ℕ) (seen h : List (Mark A)) → ((n : ℕ) → In n names → marks_of seat_of n h ≡ marks_of seat_of n seen) → sum_by (λ (n : ℕ). count v (marks_of seat_of n h)) names ≡ sum_by (λ (n : ℕ). count v (marks_of seat_of n seen)) names
  same_weigh [] seen h own = refl
  same_weigh (n ∷ names) seen h own =
      let first = ap (count v) (own n (inl refl)) in
      let rest = same_weigh names seen h (λ m i. own m (inr i)) in
      let a = sum_by-cons (λ (n : ℕ). count v (marks_of seat_of n h)) n names in
      let b = sum_by-cons (λ (n : ℕ). count v (marks_of seat_of n seen)) n names in
      omega (arith, first, rest, a, b)

  -- a bundle weighs what its seats weigh
  pub bundle_weighs : (b : BundleInfo (Mark A)) (names : List ℕ) → sum_by (λ (n : ℕ). count v (marks_of seat_of n b.seen)) names ≡ sum_by (weight_of v) (map (seat_in b) names)
  bundle_weighs b [] = refl
  bundle_weighs b (n ∷ names) =
      let rest = bundle_weighs b names in
      let x = sum_by-cons (λ (n : ℕ). count v (marks_of seat_of n b.seen)) n names in
      let y = sum_by-cons (weight_of v) (seat_in b n) (map (seat_in b) names) in
      omega (arith, rest, x, y)

  -- the tally of a bundle weighs what the marks of its seats do
  pub first_weighs : (b : BundleInfo (Mark A)) {t : TallyInfo (Mark A)} → t ≡ tally_of_bundle b → StandOnce b.names → weight_in v t ≡ sum_by (weight_of v) (seats_in b)
  first_weighs b one once =
      let none = no_names b.seen in
      let all = names_weigh [] b.names b.seen once in
      let each = bundle_weighs b b.names in
      let is = ap (weight_in v) one in
      omega (arith, none, all, each, is)
    where
      no_names : (h : List (Mark A)) → count v (mine seat_of [] h) ≡ 0
      no_names [] = refl
      no_names (m ∷ h) = no_names h

  -- a join of a bundle with new names adds what the marks of its seats weigh
  pub join_bundle_weighs : {size : ℕ} {t both : TallyInfo (Mark A)} (b : BundleInfo (Mark A)) → IsJoinOf (queue_rules size) t (tally_of_bundle b) both → StandOnce (t.names ++ b.names) → weight_in v both ≡ weight_in v t + sum_by (weight_of v) (seats_in b)
  join_bundle_weighs {t = t} {both = both} b j once =
      let is = ap (λ (l : List ℕ). count v (mine seat_of l both.seen)) j.names in
      let all = names_weigh t.names b.names both.seen once in
      let old = ap (count v) (mine_known seat_of t.names t.seen both.seen j.of_first) in
      let his = same_weigh b.names b.seen both.seen j.of_second.own in
      let each = bundle_weighs b b.names in
      omega (arith, is, all, old, his, each)

  -- the tally of two seats
  pub pair_weighs : {size : ℕ} (a : SeatInfo (Mark A)) {b : SeatInfo (Mark A)} {t both : TallyInfo (Mark A)} → t ≡ tally_of a → IsJoined (queue_rules size) t b both → b.name ≢ a.name → weight_in v both ≡ weight_of v a + weight_of v b
  pair_weighs a {b} one j apart =
      let new : In b.name (a.name ∷ []) → ⊥ = λ i. elim i [ inl same ↦ apart same | inr none ↦ absurd none ] in
      omega (arith, one_weighs a one, join_weighs j (subst (λ (x : TallyInfo (Mark A)). In b.name x.names → ⊥) (sym one) new))

module _ {A : Type 0} (w : A → ℕ) (t : TallyInfo (Mark A)) (whole : mine seat_of t.names t.seen ≡ t.seen) (weighs : count (put_of w) t.seen ≡ count (got_of w) t.seen + sum_by w (contents t.seen)) where
  -- what the seats of a whole tally put in they got out, or it is left
  pub whole_weighs : weight_in (put_of w) t ≡ weight_in (got_of w) t + sum_by w (contents t.seen)
  whole_weighs = omega (arith, ap (count (put_of w)) whole, ap (count (got_of w)) whole, weighs)

  -- if nothing is left, they got all of it out
  pub all_out : contents t.seen ≡ [] → weight_in (put_of w) t ≡ weight_in (got_of w) t
  all_out none = grind (arith, common_steps, sum_by, contents, whole_weighs)
