-- From the atomic steps of a burst of insertions to its claim.
use Rattle.std.specs.Prelude.{take, drop, min}
use Rattle.std.proofs.lemmas.List.{append-nil, length-take-le, append_assoc}
use Rattle.fak_model.specs.Limits.{large_size}
use Rattle.fak_model.specs.declared.queue.Kind.TheVariants as made
use Rattle.fak_model.specs.Shown.{Leaves}
use Rattle.fak_model.proofs.Seats.{in_either}
use Rattle.fak_core.specs.declared.queue.phase.Phase.TheVariants.{Idle, AddUp, BackUp, TicketIn}
use Rattle.fak_core.specs.QueueBlocks.{names_of, AreApart, all_at, marks_back}
use Rattle.fak_core.proofs.QueueBlocks.{names-append, names-at}
use Rattle.fak_queue.specs.declared.found.NoRoom.{NoRoom}
use Rattle.fak_queue.specs.Bursts.{AllIn, AreDisjoint, PostsAreIdle, Says, SaysAfter, StandAfter, LeavesMarks, TestedBurst, AddedBurst, AddedSome, TellsUpper, DrewBurst, ClaimedBurst, RoomBurst, NoneBurst, RefusedBurst, granted_of, BackBurst, pair_up, idle_posts, claims_at}
use Rattle.fak_queue.proofs.BurstPosts.{idle_all, idle_both}
use Rattle.fak_queue.proofs.Common.{QueueHolder, queue_object, Alike, Each, IsUpperCount, Ok, Err, Full, Shut, upper_count, bias, ints, common_steps, le_or_lt, ℤ, pos, ◌+ℤ◌, ◌<◌, ◌^◌, ◌≡◌, ◌⊎◌, ℕ, ◌+◌, ◌-◌, ◌≤◌, List, [], ◌++◌, length, refl, sym, ap, ◌∙◌, subst, inl, inr, arith, reverse, In, Mark}
use Rattle.fak_queue.proofs.BurstNames.{own_past, own_past_first, stands_now, stands_more, idle_rest, all_of, post_swap, says_swap, whole, once, from_rest, in_zs, in_rest, once_granted, in_granted, in_over, not_both, makes_step, makes_then, makes_then_first, pair_length, none_over}
use Rattle.fak_queue.proofs.LastMarks.{ends_now, ends_back}

module _ {T : Type 0} (size seats : ℕ) (ns : List ℕ) (xs : List T) (m after : QueueHolder T) where
  abbrev Backed : ℕ → Type 0
  Backed j = BackBurst size seats (drop j (pair_up ns xs)) (all_at (λ x. TicketIn x) (take j (pair_up ns xs)) ++ idle_posts (drop (length xs) ns))
      (Each (all_at (λ x. Idle) (drop j (pair_up ns xs)) ++ (all_at (λ x. TicketIn x) (take j (pair_up ns xs)) ++ idle_posts (drop (length xs) ns)))) m after

  pub backed_phase : (i j : ℕ) → i ≡ j → Backed i → Says after.0 (claims_at (λ x. Idle) ns xs j)
  backed_phase i j is l = subst (λ k. Says after.0 (claims_at (λ x. Idle) ns xs k)) is
      (let all = all_at (λ x. Idle) (drop i (pair_up ns xs)) ++ (all_at (λ x. TicketIn x) (take i (pair_up ns xs)) ++ idle_posts (drop (length xs) ns)) in
      (all, ap (λ (x : QueueHolder T). x.0.phase) l.after_is, λ n p k. post_swap (all_at (λ x. TicketIn x) (take i (pair_up ns xs))) (all_at (λ x. Idle) (drop i (pair_up ns xs))) (idle_posts (drop (length xs) ns)) n p k))

  pub backed_makes : (i j : ℕ) → i ≡ j → Backed i → LeavesMarks size seats (marks_back (λ x. made.BackIn) (drop j (pair_up ns xs))) m after
  backed_makes i j is l = subst (λ k. LeavesMarks size seats (marks_back (λ x. made.BackIn) (drop k (pair_up ns xs))) m after) is (makes_step l)

module _ {T : Type 0} (ns : List ℕ) (xs : List T) (m : QueueHolder T) where
  pub backed_from : (i j : ℕ) → i ≡ j → Says m.0 (claims_at (λ x. BackUp x) ns xs j)
      → Says m.0 (all_at (λ x. BackUp x) (drop i (pair_up ns xs)) ++ (all_at (λ x. TicketIn x) (take i (pair_up ns xs)) ++ idle_posts (drop (length xs) ns)))
  backed_from i j is e = says_swap m.0 (all_at (λ x. TicketIn x) (take i (pair_up ns xs))) (all_at (λ x. BackUp x) (drop i (pair_up ns xs))) (idle_posts (drop (length xs) ns)) (subst (λ k. Says m.0 (claims_at (λ x. BackUp x) ns xs k)) (sym is) e)

  -- if none is over
  pub rests_so : (j : ℕ) → drop j (pair_up ns xs) ≡ [] → Says m.0 (claims_at (λ x. BackUp x) ns xs j) → Says m.0 (claims_at (λ x. Idle) ns xs j)
  rests_so j nobody e = subst (λ l. Says m.0 (all_at (λ x. TicketIn x) (take j (pair_up ns xs)) ++ (all_at (λ x. Idle) l ++ idle_posts (drop (length xs) ns)))) (sym nobody)
      (subst (λ l. Says m.0 (all_at (λ x. TicketIn x) (take j (pair_up ns xs)) ++ (all_at (λ x. BackUp x) l ++ idle_posts (drop (length xs) ns)))) nobody e)

-- ---- the claim

same_count : (f : ℕ) (u v : ℤ) → pos f ≡ pos bias +ℤ u → pos f ≡ pos bias +ℤ v → u ≡ v
same_count f u v a b = omega (arith, ints, a, b)

none_granted : (size f d : ℕ) → bias + size ≤ f → granted_of size f d ≡ 0
none_granted size f d high = grind (arith, common_steps, min)

pub some_granted : (size f d : ℕ) → f < bias + size → 0 < d → (0 < granted_of size f d) × (granted_of size f d ≤ d)
some_granted size f d low some = (grind (arith, common_steps, min), grind (arith, common_steps, min))

module _ {T : Type 0} (size seats : ℕ) (ns : List ℕ) (xs : List T) (apart : AreApart ns) (fit : length xs ≤ length ns) (m0 : QueueHolder T) (own : m0.0.names ≡ ns) where
  all_in : (names : List ℕ) → names ≡ ns → AllIn (names_of (pair_up ns xs) ++ names_of (idle_posts {T = T} (drop (length xs) ns))) names
  all_in names is = all_of _ names (λ n i. subst (In n) (sym is) (subst (In n) (whole T ns xs apart fit) i))

  in_all : AllIn m0.0.names (names_of (pair_up ns xs) ++ names_of (idle_posts {T = T} (drop (length xs) ns)))
  in_all = all_of m0.0.names _ (λ n i. subst (In n) (sym (whole T ns xs apart fit)) (subst (In n) own i))

  pub test_names : AreApart (names_of (pair_up ns xs)) × AreDisjoint (names_of (pair_up ns xs)) (names_of (idle_posts {T = T} (drop (length xs) ns)))
      × AllIn (names_of (pair_up ns xs) ++ names_of (idle_posts {T = T} (drop (length xs) ns))) m0.0.names × AllIn m0.0.names (names_of (pair_up ns xs) ++ names_of (idle_posts {T = T} (drop (length xs) ns)))
  test_names = (once T ns xs apart fit, from_rest T ns xs apart fit, all_in m0.0.names own, in_all)

  pub test_rest : PostsAreIdle (idle_posts {T = T} (drop (length xs) ns))
  test_rest = idle_rest T (drop (length xs) ns)

  module _ (f : ℕ) (m1 : QueueHolder T) (tested : TestedBurst size seats (pair_up ns xs) (idle_posts (drop (length xs) ns)) m0 f m1) where
    refused_by : {new : List (Mark T)} {tells : List (Mark T) → Type 0} → Leaves (queue_object size seats) m0 new (Alike Idle) m0.0.left m0.1 tells m1 → NoneBurst size seats new m0 m1
    refused_by {new} l = record { phase = ap (λ (x : QueueHolder T). x.0.phase) l.after_is; left = ap (λ (x : QueueHolder T). x.0.left) l.after_is; makes = makes_step l; ends = ends_now new l.past m1 (ap (λ (x : QueueHolder T). x.0.seen) l.after_is) }

    pub refused_at_test : (why : NoRoom) → IsUpperCount size f (Err why) → RefusedBurst size seats ns xs why m0 m1
    refused_at_test (Full u) is = let l = tested.full is.0 is.1 in (l.past, same_count f u (upper_count (reverse l.past)) is.2 l.told, own_past l, inl (refused_by l, stands_now l))
    refused_at_test Shut is = inl (refused_by (tested.late is))

    module _ (room : IsUpperCount size f (Ok tt)) where
      first : Leaves (queue_object size seats) m0 [] (Each (all_at (λ x. AddUp x) (pair_up ns xs) ++ idle_posts (drop (length xs) ns))) m0.0.left m0.1 (TellsUpper f) m1
      first = tested.room room

      pub names1 : m1.0.names ≡ ns
      names1 = ap (λ (x : QueueHolder T). x.0.names) first.after_is ∙ own

      left1 : m1.0.left ≡ m0.0.left
      left1 = ap (λ (x : QueueHolder T). x.0.left) first.after_is

      pub add_names : AreApart (names_of (pair_up ns xs)) × AreDisjoint (names_of (pair_up ns xs)) (names_of (idle_posts {T = T} (drop (length xs) ns)))
          × AllIn (names_of (pair_up ns xs) ++ names_of (idle_posts {T = T} (drop (length xs) ns))) m1.0.names
      add_names = (once T ns xs apart fit, from_rest T ns xs apart fit, all_in m1.0.names names1)

      pub add_says : Says m1.0 (all_at (λ x. AddUp x) (pair_up ns xs) ++ idle_posts (drop (length xs) ns))
      add_says = (all_at (λ x. AddUp x) (pair_up ns xs) ++ idle_posts (drop (length xs) ns), ap (λ (x : QueueHolder T). x.0.phase) first.after_is, λ n p i. i)

      module _ (v : ℕ) (m2 : QueueHolder T) (added : AddedBurst size seats (pair_up ns xs) (idle_posts (drop (length xs) ns)) m1 v m2) (small : size ≤ large_size) where
        -- refused at the add
        abbrev Over : List (Mark T) → (List (Mark T) → Type 0) → Type 0
        Over new tells = Leaves (queue_object size seats) m1 new (Each (all_at (λ x. BackUp x) (pair_up ns xs) ++ idle_posts (drop (length xs) ns))) m1.0.left m1.1 tells m2

        over_full : (u : ℤ) → IsUpperCount size v (Err (Full u)) → Over (marks_back (λ x. made.OverIn) (pair_up ns xs) ++ []) (TellsUpper v)
        over_full u is = subst (λ j. AddedSome size seats (pair_up ns xs) (idle_posts (drop (length xs) ns)) j m1 v m2) (none_granted size v (length (pair_up ns xs)) is.0) (added.some is.1)

        says_over : {new : List (Mark T)} {tells : List (Mark T) → Type 0} → Over new tells → Says m2.0 (all_at (λ x. BackUp x) (pair_up ns xs) ++ idle_posts (drop (length xs) ns))
        says_over l = (all_at (λ x. BackUp x) (pair_up ns xs) ++ idle_posts (drop (length xs) ns), ap (λ (x : QueueHolder T). x.0.phase) l.after_is, λ n p i. i)

        names_over : {new : List (Mark T)} {tells : List (Mark T) → Type 0} → Over new tells → m2.0.names ≡ ns
        names_over l = ap (λ (x : QueueHolder T). x.0.names) l.after_is ∙ names1

        pub back_says : (why : NoRoom) → IsUpperCount size v (Err why) → Says m2.0 (all_at (λ x. BackUp x) (pair_up ns xs) ++ idle_posts (drop (length xs) ns))
        back_says (Full u) is = says_over (over_full u is)
        back_says Shut is = says_over (added.late is)

        back_own : (why : NoRoom) → IsUpperCount size v (Err why) → m2.0.names ≡ ns
        back_own (Full u) is = names_over (over_full u is)
        back_own Shut is = names_over (added.late is)

        pub back_names : (why : NoRoom) → IsUpperCount size v (Err why) → AreApart (names_of (pair_up ns xs)) × AreDisjoint (names_of (pair_up ns xs)) (names_of (idle_posts {T = T} (drop (length xs) ns)))
            × AllIn (names_of (pair_up ns xs) ++ names_of (idle_posts {T = T} (drop (length xs) ns))) m2.0.names
        back_names why is = (once T ns xs apart fit, from_rest T ns xs apart fit, all_in m2.0.names (back_own why is))

        pub back_then : (why : NoRoom) → IsUpperCount size v (Err why) → SaysAfter {T = T} m2.0.names (all_at (λ (x : T). Idle) (pair_up ns xs) ++ idle_posts (drop (length xs) ns)) (Alike Idle)
        back_then why is = inr (
          refl,
          idle_both {T = T} (all_at (λ (x : T). Idle) (pair_up ns xs)) (idle_posts (drop (length xs) ns)) (idle_all T (pair_up ns xs)) test_rest,
          all_of m2.0.names _ (λ n i. subst (In n) (sym (names-append (all_at {A = T} (λ (x : T). Idle) (pair_up ns xs)) (idle_posts (drop (length xs) ns)) ∙ ((λ j. names-at {A = T} (λ (x : T). Idle) (pair_up ns xs) j ++ names_of (idle_posts {T = T} (drop (length xs) ns))) ∙ whole T ns xs apart fit))) (subst (In n) (back_own why is) i)),
        )

        none_back : {new : List (Mark T)} {tells : List (Mark T) → Type 0} (m3 : QueueHolder T) → (pair_up ns xs ≡ [] → new ≡ []) → Over new tells → BackBurst size seats (pair_up ns xs) (idle_posts (drop (length xs) ns)) (Alike Idle) m2 m3
            → NoneBurst size seats (marks_back (λ x. made.BackIn) (pair_up ns xs) ++ new) m0 m3
        none_back {new} m3 none l b = record {
          phase = ap (λ (x : QueueHolder T). x.0.phase) b.after_is;
          left = ap (λ (x : QueueHolder T). x.0.left) b.after_is ∙ (ap (λ (x : QueueHolder T). x.0.left) l.after_is ∙ left1);
          makes = makes_then (makes_then_first (makes_step first) (makes_step l)) (makes_step b);
          ends = ends_back (λ x. made.BackIn) (pair_up ns xs) new b.past m3 (ap (λ (x : QueueHolder T). x.0.seen) b.after_is) none;
        }

        pub refused_at_add : (why : NoRoom) → IsUpperCount size v (Err why) → (m3 : QueueHolder T) → BackBurst size seats (pair_up ns xs) (idle_posts (drop (length xs) ns)) (Alike Idle) m2 m3 → RefusedBurst size seats ns xs why m0 m3
        refused_at_add (Full u) is m3 b =
            let l = over_full u is in
            let same : marks_back {A = T} (λ x. made.OverIn) (pair_up ns xs) ++ [] ≡ marks_back (λ x. made.OverIn) (pair_up ns xs) = append-nil (marks_back (λ x. made.OverIn) (pair_up ns xs)) in (
              l.past,
              same_count v u (upper_count (reverse l.past)) is.2 l.told,
              own_past_first l.past (makes_step first) (own_past l),
              inr (subst (λ h. NoneBurst size seats (marks_back (λ x. made.BackIn) (pair_up ns xs) ++ h) m0 m3 × StandAfter l.past h m3) same (none_back m3 (λ e. ap (λ (ss : List (ℕ × T)). marks_back {A = T} (λ x. made.OverIn) ss ++ []) e) l b, stands_more l.past (marks_back (λ x. made.OverIn) (pair_up ns xs) ++ []) (stands_now l) (makes_step b))),
            )
        refused_at_add Shut is m3 b = inr (none_back m3 (λ e. ap (λ (ss : List (ℕ × T)). marks_back {A = T} (λ x. made.LateIn) ss) e) (added.late is) b)

        -- granted, all or some
        module _ (found : IsUpperCount size v (Ok tt)) (j : ℕ) (j_is : j ≡ granted_of size v (length xs)) where
          some_added : AddedSome size seats (pair_up ns xs) (idle_posts (drop (length xs) ns)) j m1 v m2
          some_added = subst (λ k. AddedSome size seats (pair_up ns xs) (idle_posts (drop (length xs) ns)) k m1 v m2) (ap (λ n. granted_of size v n) (pair_length ns xs fit) ∙ sym j_is) (added.some (omega (arith, found, small)))

          pub names2 : m2.0.names ≡ ns
          names2 = ap (λ (x : QueueHolder T). x.0.names) some_added.after_is ∙ names1

          pub room_says : Says m2.0 (claims_at (λ x. BackUp x) ns xs j)
          room_says =
              let a = all_at (λ x. TicketIn x) (take j (pair_up ns xs)) in
              let b = all_at (λ x. BackUp x) (drop j (pair_up ns xs)) in
              let c = idle_posts (drop (length xs) ns) in
              subst (λ l. Says m2.0 l) (append_assoc a b c) ((a ++ b) ++ c, ap (λ (x : QueueHolder T). x.0.phase) some_added.after_is, λ n p i. i)

          before_back : LeavesMarks size seats (marks_back (λ x. made.OverIn) (drop j (pair_up ns xs)) ++ marks_back (λ x. made.ClaimIn) (take j (pair_up ns xs))) m0 m2
          before_back = makes_then_first (makes_step first) (makes_step some_added)

          pub claims_room : 0 < length xs → (m3 : QueueHolder T) → Says m3.0 (claims_at (λ x. Idle) ns xs j) → m3.0.left ≡ m2.0.left → (j ≡ length xs → m3 ≡ m2)
              → (j < length xs → LeavesMarks size seats (marks_back (λ x. made.BackIn) (drop j (pair_up ns xs))) m2 m3) → RoomBurst size seats ns xs j m0 m3
          claims_room some m3 says left all back =
              let g = some_granted size v (length xs) found some in
              let most : j ≤ length xs = omega (arith, j_is, g.1) in
              record {
                some = omega (arith, j_is, g.0);
                most = most;
                phase = says;
                left = left ∙ (ap (λ (x : QueueHolder T). x.0.left) some_added.after_is ∙ left1);
                makes = elim (le_or_lt (length xs) j) [
                  | inl full ↦ (
                      let over = none_over ns xs fit j full in
                      let same : m3 ≡ m2 = all (omega (arith, full, most)) in
                      subst (λ l. LeavesMarks size seats (marks_back (λ x. made.BackIn) l ++ (marks_back (λ x. made.OverIn) (drop j (pair_up ns xs)) ++ marks_back (λ x. made.ClaimIn) (take j (pair_up ns xs)))) m0 m3) (sym over)
                      (subst (λ (w : QueueHolder T). LeavesMarks size seats (marks_back (λ x. made.OverIn) (drop j (pair_up ns xs)) ++ marks_back (λ x. made.ClaimIn) (take j (pair_up ns xs))) m0 w) (sym same) before_back))
                  | inr part ↦ makes_then before_back (back part)
                ];
                found = v;
                granted = j_is;
                past = some_added.past;
                upper = some_added.told;
                stands = elim (le_or_lt (length xs) j) [
                  | inl full ↦ subst (λ (w : QueueHolder T). StandAfter some_added.past (marks_back (λ x. made.OverIn) (drop j (pair_up ns xs)) ++ marks_back (λ x. made.ClaimIn) (take j (pair_up ns xs))) w) (sym (all (omega (arith, full, most)))) (stands_now some_added)
                  | inr part ↦ stands_more some_added.past (marks_back (λ x. made.OverIn) (drop j (pair_up ns xs)) ++ marks_back (λ x. made.ClaimIn) (take j (pair_up ns xs))) (stands_now some_added) (back part)
                ];
              }

-- ---- the draw

granted_length : {T : Type 0} (ns : List ℕ) (xs : List T) → length xs ≤ length ns → (j : ℕ) → j ≤ length xs → length (take j (pair_up ns xs)) ≡ j
granted_length ns xs fit j most = length-take-le j (pair_up ns xs) (omega (arith, most, pair_length ns xs fit))

module _ {T : Type 0} (size seats : ℕ) (ns : List ℕ) (xs : List T) (apart : AreApart ns) (fit : length xs ≤ length ns) (m0 m1 : QueueHolder T) (own : m0.0.names ≡ ns) (j : ℕ) (room : RoomBurst size seats ns xs j m0 m1) where
  pub draw_count : length xs ≤ 1024 → (j ≡ length (take j (pair_up ns xs))) × (j ≤ 1024)
  draw_count small = let most = room.most in (sym (granted_length ns xs fit j most), omega (arith, small, most))

  draw_others : (n : ℕ) → In n (names_of (all_at {A = T} (λ (x : T). Idle) (drop j (pair_up ns xs)) ++ idle_posts (drop (length xs) ns))) → In n (names_of (drop j (pair_up ns xs))) ⊎ In n (names_of (idle_posts {T = T} (drop (length xs) ns)))
  draw_others n i =
      let at = all_at {A = T} (λ (x : T). Idle) (drop j (pair_up ns xs)) in
      elim (in_either n (names_of at) (names_of (idle_posts {T = T} (drop (length xs) ns))) (subst (In n) (names-append at (idle_posts (drop (length xs) ns))) i)) [
        | inl a ↦ inl (subst (In n) (names-at {A = T} (λ (x : T). Idle) (drop j (pair_up ns xs))) a)
        | inr b ↦ inr b
      ]

  pub draw_names : AreApart (names_of (take j (pair_up ns xs))) × AreDisjoint (names_of (take j (pair_up ns xs))) (names_of (all_at {A = T} (λ (x : T). Idle) (drop j (pair_up ns xs)) ++ idle_posts (drop (length xs) ns)))
      × AllIn (names_of (take j (pair_up ns xs)) ++ names_of (all_at {A = T} (λ (x : T). Idle) (drop j (pair_up ns xs)) ++ idle_posts (drop (length xs) ns))) m1.0.names
  draw_names = (
    once_granted T ns xs apart fit j,
    (λ n i k. elim (draw_others n k) [ inl a ↦ not_both T ns xs apart fit j n i a | inr b ↦ from_rest T ns xs apart fit n (in_granted T ns xs apart fit j n i) b ]),
    all_of _ m1.0.names (λ n i. subst (In n) (sym (room.makes.names ∙ own)) (elim (in_either n (names_of (take j (pair_up ns xs))) (names_of (all_at {A = T} (λ (x : T). Idle) (drop j (pair_up ns xs)) ++ idle_posts (drop (length xs) ns))) i) [
      | inl a ↦ in_zs T ns xs apart fit n (in_granted T ns xs apart fit j n a)
      | inr b ↦ elim (draw_others n b) [ inl c ↦ in_zs T ns xs apart fit n (in_over T ns xs apart fit j n c) | inr d ↦ in_rest T ns xs apart fit n d ]
    ])),
  )

  pub draw_left : length xs ≤ m0.0.left → j ≤ m1.0.left
  draw_left left = let most = room.most in let same = room.left in omega (arith, left, most, same)

  pub claims_burst : (k : ℕ) (m2 : QueueHolder T) → DrewBurst size seats (take j (pair_up ns xs)) (all_at (λ x. Idle) (drop j (pair_up ns xs)) ++ idle_posts (drop (length xs) ns)) m1 k m2 → ClaimedBurst size seats ns xs k j m0 m2
  claims_burst k m2 drew =
      let l = drew.leaves in
      let n = granted_length ns xs fit j room.most in
      record {
        some = room.some;
        most = room.most;
        phase = ap (λ (x : QueueHolder T). x.0.phase) l.after_is;
        left = ap (λ (x : QueueHolder T). x.0.left) l.after_is ∙ (λ i. room.left i - n i);
        makes = makes_then room.makes (makes_step l);
        past = l.past;
        puts_last = ap (λ (x : QueueHolder T). x.0.seen) l.after_is;
        ticket = l.told;
        few = subst (λ d. k + d ≤ 2 ^ 50) n drew.few;
        found = room.found;
        granted = room.granted;
        earlier = room.past;
        upper = room.upper;
        stands = stands_more room.past (marks_back (λ x. made.OverIn) (drop j (pair_up ns xs)) ++ marks_back (λ x. made.ClaimIn) (take j (pair_up ns xs))) room.stands (makes_step l);
      }
