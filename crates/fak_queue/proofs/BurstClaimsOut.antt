-- From the atomic steps of a burst of deletions to its claim.
use Rattle.std.specs.Prelude.{take, drop, min}
use Rattle.std.proofs.lemmas.List.{append-nil, length-take-le, append_assoc}
use Rattle.fak_model.specs.declared.queue.Kind.TheVariants as made
use Rattle.fak_model.specs.Shown.{Leaves}
use Rattle.fak_model.proofs.Seats.{in_either}
use Rattle.fak_core.specs.declared.queue.phase.Phase.TheVariants.{Idle, SubLow, BackLow, TicketOut}
use Rattle.fak_core.specs.QueueBlocks.{names_of, AreApart, all_at, marks_back}
use Rattle.fak_core.proofs.QueueBlocks.{names-append, names-at}
use Rattle.fak_queue.specs.Bursts.{AllIn, AreDisjoint, PostsAreIdle, Says, SaysAfter, StandAfter, LeavesMarks, TestedLowBurst, SubbedBurst, SubbedSome, TellsLower, DrewOutBurst, ClaimedOutBurst, StockBurst, NoneBurst, RefusedOutBurst, granted_low, BackLowBurst, pair_up, idle_posts, claims_out_at}
use Rattle.fak_queue.proofs.BurstPosts.{idle_all, idle_both}
use Rattle.fak_queue.proofs.Common.{QueueHolder, queue_object, Alike, Each, IsLowerCount, Ok, Err, lower_count, bias, ints, common_steps, le_or_lt, ℤ, pos, ◌+ℤ◌, ◌<◌, ◌^◌, ◌≡◌, ◌⊎◌, ℕ, ◌+◌, ◌-◌, ◌≤◌, List, [], ◌++◌, length, refl, sym, ap, ◌∙◌, subst, inl, inr, arith, reverse, In, Mark}
use Rattle.fak_queue.proofs.BurstNames.{own_past, own_past_first, stands_now, stands_more, idle_rest, all_of, post_swap, says_swap, whole, once, from_rest, in_zs, in_rest, once_granted, in_granted, in_over, not_both, makes_step, makes_then, makes_then_first, pair_length, none_over}
use Rattle.fak_queue.proofs.LastMarks.{ends_now, ends_back}

module _ {T : Type 0} (size seats : ℕ) (ns : List ℕ) (us : List (Unit {0})) (m after : QueueHolder T) where
  abbrev Backed : ℕ → Type 0
  Backed j = BackLowBurst size seats (drop j (pair_up ns us)) (all_at (λ x. TicketOut) (take j (pair_up ns us)) ++ idle_posts (drop (length us) ns))
      (Each (all_at (λ x. Idle) (drop j (pair_up ns us)) ++ (all_at (λ x. TicketOut) (take j (pair_up ns us)) ++ idle_posts (drop (length us) ns)))) m after

  pub backed_phase : (i j : ℕ) → i ≡ j → Backed i → Says after.0 (claims_out_at Idle ns us j)
  backed_phase i j is l = subst (λ k. Says after.0 (claims_out_at Idle ns us k)) is
      (let all = all_at (λ x. Idle) (drop i (pair_up ns us)) ++ (all_at (λ x. TicketOut) (take i (pair_up ns us)) ++ idle_posts (drop (length us) ns)) in
      (all, ap (λ (x : QueueHolder T). x.0.phase) l.after_is, λ n p k. post_swap (all_at (λ x. TicketOut) (take i (pair_up ns us))) (all_at (λ x. Idle) (drop i (pair_up ns us))) (idle_posts (drop (length us) ns)) n p k))

  pub backed_makes : (i j : ℕ) → i ≡ j → Backed i → LeavesMarks size seats (marks_back (λ x. made.BackOut) (drop j (pair_up ns us))) m after
  backed_makes i j is l = subst (λ k. LeavesMarks size seats (marks_back (λ x. made.BackOut) (drop k (pair_up ns us))) m after) is (makes_step l)

module _ {T : Type 0} (ns : List ℕ) (us : List (Unit {0})) (m : QueueHolder T) where
  pub backed_from : (i j : ℕ) → i ≡ j → Says m.0 (claims_out_at BackLow ns us j)
      → Says m.0 (all_at (λ x. BackLow) (drop i (pair_up ns us)) ++ (all_at (λ x. TicketOut) (take i (pair_up ns us)) ++ idle_posts (drop (length us) ns)))
  backed_from i j is e = says_swap m.0 (all_at (λ x. TicketOut) (take i (pair_up ns us))) (all_at (λ x. BackLow) (drop i (pair_up ns us))) (idle_posts (drop (length us) ns)) (subst (λ k. Says m.0 (claims_out_at BackLow ns us k)) (sym is) e)

  -- if none is over
  pub rests_so : (j : ℕ) → drop j (pair_up ns us) ≡ [] → Says m.0 (claims_out_at BackLow ns us j) → Says m.0 (claims_out_at Idle ns us j)
  rests_so j nobody e = subst (λ l. Says m.0 (all_at (λ x. TicketOut) (take j (pair_up ns us)) ++ (all_at (λ x. Idle) l ++ idle_posts (drop (length us) ns)))) (sym nobody)
      (subst (λ l. Says m.0 (all_at (λ x. TicketOut) (take j (pair_up ns us)) ++ (all_at (λ x. BackLow) l ++ idle_posts (drop (length us) ns)))) nobody e)

-- ---- the claim

same_count : (f : ℕ) (u v : ℤ) → pos f ≡ pos bias +ℤ u → pos f ≡ pos bias +ℤ v → u ≡ v
same_count f u v a b = omega (arith, ints, a, b)

none_granted : (f d : ℕ) → f ≤ bias → granted_low f d ≡ 0
none_granted f d low = grind (arith, common_steps, min)

pub some_granted : (f d : ℕ) → bias < f → 0 < d → (0 < granted_low f d) × (granted_low f d ≤ d)
some_granted f d high some = (grind (arith, common_steps, min), grind (arith, common_steps, min))

module _ {T : Type 0} (size seats : ℕ) (ns : List ℕ) (us : List (Unit {0})) (apart : AreApart ns) (fit : length us ≤ length ns) (m0 : QueueHolder T) (own : m0.0.names ≡ ns) where
  all_in : (names : List ℕ) → names ≡ ns → AllIn (names_of (pair_up ns us) ++ names_of (idle_posts {T = T} (drop (length us) ns))) names
  all_in names is = all_of _ names (λ n i. subst (In n) (sym is) (subst (In n) (whole T ns us apart fit) i))

  in_all : AllIn m0.0.names (names_of (pair_up ns us) ++ names_of (idle_posts {T = T} (drop (length us) ns)))
  in_all = all_of m0.0.names _ (λ n i. subst (In n) (sym (whole T ns us apart fit)) (subst (In n) own i))

  pub test_names : AreApart (names_of (pair_up ns us)) × AreDisjoint (names_of (pair_up ns us)) (names_of (idle_posts {T = T} (drop (length us) ns)))
      × AllIn (names_of (pair_up ns us) ++ names_of (idle_posts {T = T} (drop (length us) ns))) m0.0.names × AllIn m0.0.names (names_of (pair_up ns us) ++ names_of (idle_posts {T = T} (drop (length us) ns)))
  test_names = (once T ns us apart fit, from_rest T ns us apart fit, all_in m0.0.names own, in_all)

  pub test_rest : PostsAreIdle (idle_posts {T = T} (drop (length us) ns))
  test_rest = idle_rest T (drop (length us) ns)

  module _ (f : ℕ) (m1 : QueueHolder T) (tested : TestedLowBurst size seats (pair_up ns us) (idle_posts (drop (length us) ns)) m0 f m1) where
    refused_by : {new : List (Mark T)} {tells : List (Mark T) → Type 0} → Leaves (queue_object size seats) m0 new (Alike Idle) m0.0.left m0.1 tells m1 → NoneBurst size seats new m0 m1
    refused_by {new} l = record { phase = ap (λ (x : QueueHolder T). x.0.phase) l.after_is; left = ap (λ (x : QueueHolder T). x.0.left) l.after_is; makes = makes_step l; ends = ends_now new l.past m1 (ap (λ (x : QueueHolder T). x.0.seen) l.after_is) }

    pub refused_at_test : (u : ℤ) → IsLowerCount f (Err u) → RefusedOutBurst size seats ns us u m0 m1
    refused_at_test u is = let l = tested.empty is.0 in (l.past, same_count f u (lower_count (reverse l.past)) is.1 l.told, own_past l, inl (refused_by l, stands_now l))

    module _ (stock : IsLowerCount f (Ok tt)) where
      first : Leaves (queue_object size seats) m0 [] (Each (all_at (λ x. SubLow) (pair_up ns us) ++ idle_posts (drop (length us) ns))) m0.0.left m0.1 (TellsLower f) m1
      first = tested.stock stock

      pub names1 : m1.0.names ≡ ns
      names1 = ap (λ (x : QueueHolder T). x.0.names) first.after_is ∙ own

      left1 : m1.0.left ≡ m0.0.left
      left1 = ap (λ (x : QueueHolder T). x.0.left) first.after_is

      pub add_names : AreApart (names_of (pair_up ns us)) × AreDisjoint (names_of (pair_up ns us)) (names_of (idle_posts {T = T} (drop (length us) ns)))
          × AllIn (names_of (pair_up ns us) ++ names_of (idle_posts {T = T} (drop (length us) ns))) m1.0.names
      add_names = (once T ns us apart fit, from_rest T ns us apart fit, all_in m1.0.names names1)

      pub add_says : Says m1.0 (all_at (λ x. SubLow) (pair_up ns us) ++ idle_posts (drop (length us) ns))
      add_says = (all_at (λ x. SubLow) (pair_up ns us) ++ idle_posts (drop (length us) ns), ap (λ (x : QueueHolder T). x.0.phase) first.after_is, λ n p i. i)

      module _ (v : ℕ) (m2 : QueueHolder T) (added : SubbedBurst size seats (pair_up ns us) (idle_posts (drop (length us) ns)) m1 v m2) where
        -- refused at the subtraction
        abbrev Over : List (Mark T) → (List (Mark T) → Type 0) → Type 0
        Over new tells = Leaves (queue_object size seats) m1 new (Each (all_at (λ x. BackLow) (pair_up ns us) ++ idle_posts (drop (length us) ns))) m1.0.left m1.1 tells m2

        over_all : (u : ℤ) → IsLowerCount v (Err u) → Over (marks_back (λ x. made.OverOut) (pair_up ns us) ++ []) (TellsLower v)
        over_all u is = subst (λ j. SubbedSome size seats (pair_up ns us) (idle_posts (drop (length us) ns)) j m1 v m2) (none_granted v (length (pair_up ns us)) is.0) added

        says_over : {new : List (Mark T)} {tells : List (Mark T) → Type 0} → Over new tells → Says m2.0 (all_at (λ x. BackLow) (pair_up ns us) ++ idle_posts (drop (length us) ns))
        says_over l = (all_at (λ x. BackLow) (pair_up ns us) ++ idle_posts (drop (length us) ns), ap (λ (x : QueueHolder T). x.0.phase) l.after_is, λ n p i. i)

        names_over : {new : List (Mark T)} {tells : List (Mark T) → Type 0} → Over new tells → m2.0.names ≡ ns
        names_over l = ap (λ (x : QueueHolder T). x.0.names) l.after_is ∙ names1

        pub back_says : (u : ℤ) → IsLowerCount v (Err u) → Says m2.0 (all_at (λ x. BackLow) (pair_up ns us) ++ idle_posts (drop (length us) ns))
        back_says u is = says_over (over_all u is)

        back_own : (u : ℤ) → IsLowerCount v (Err u) → m2.0.names ≡ ns
        back_own u is = names_over (over_all u is)

        pub back_names : (u : ℤ) → IsLowerCount v (Err u) → AreApart (names_of (pair_up ns us)) × AreDisjoint (names_of (pair_up ns us)) (names_of (idle_posts {T = T} (drop (length us) ns)))
            × AllIn (names_of (pair_up ns us) ++ names_of (idle_posts {T = T} (drop (length us) ns))) m2.0.names
        back_names u is = (once T ns us apart fit, from_rest T ns us apart fit, all_in m2.0.names (back_own u is))

        pub back_then : (u : ℤ) → IsLowerCount v (Err u) → SaysAfter {T = T} m2.0.names (all_at (λ (x : Unit {0}). Idle) (pair_up ns us) ++ idle_posts (drop (length us) ns)) (Alike Idle)
        back_then u is = inr (
          refl,
          idle_both {T = T} (all_at (λ (x : Unit {0}). Idle) (pair_up ns us)) (idle_posts (drop (length us) ns)) (idle_all T (pair_up ns us)) test_rest,
          all_of m2.0.names _ (λ n i. subst (In n) (sym (names-append (all_at {A = T} (λ (x : Unit {0}). Idle) (pair_up ns us)) (idle_posts (drop (length us) ns)) ∙ ((λ j. names-at {A = T} (λ (x : Unit {0}). Idle) (pair_up ns us) j ++ names_of (idle_posts {T = T} (drop (length us) ns))) ∙ whole T ns us apart fit))) (subst (In n) (back_own u is) i)),
        )

        none_back : {new : List (Mark T)} {tells : List (Mark T) → Type 0} (m3 : QueueHolder T) → (pair_up ns us ≡ [] → new ≡ []) → Over new tells → BackLowBurst size seats (pair_up ns us) (idle_posts (drop (length us) ns)) (Alike Idle) m2 m3
            → NoneBurst size seats (marks_back (λ x. made.BackOut) (pair_up ns us) ++ new) m0 m3
        none_back {new} m3 none l b = record {
          phase = ap (λ (x : QueueHolder T). x.0.phase) b.after_is;
          left = ap (λ (x : QueueHolder T). x.0.left) b.after_is ∙ (ap (λ (x : QueueHolder T). x.0.left) l.after_is ∙ left1);
          makes = makes_then (makes_then_first (makes_step first) (makes_step l)) (makes_step b);
          ends = ends_back (λ x. made.BackOut) (pair_up ns us) new b.past m3 (ap (λ (x : QueueHolder T). x.0.seen) b.after_is) none;
        }

        pub refused_at_add : (u : ℤ) → IsLowerCount v (Err u) → (m3 : QueueHolder T) → BackLowBurst size seats (pair_up ns us) (idle_posts (drop (length us) ns)) (Alike Idle) m2 m3 → RefusedOutBurst size seats ns us u m0 m3
        refused_at_add u is m3 b =
            let l = over_all u is in
            let same : marks_back {A = T} (λ x. made.OverOut) (pair_up ns us) ++ [] ≡ marks_back (λ x. made.OverOut) (pair_up ns us) = append-nil (marks_back (λ x. made.OverOut) (pair_up ns us)) in (
              l.past,
              same_count v u (lower_count (reverse l.past)) is.1 l.told,
              own_past_first l.past (makes_step first) (own_past l),
              inr (subst (λ h. NoneBurst size seats (marks_back (λ x. made.BackOut) (pair_up ns us) ++ h) m0 m3 × StandAfter l.past h m3) same (none_back m3 (λ e. ap (λ (ss : List (ℕ × Unit {0})). marks_back {A = T} (λ x. made.OverOut) ss ++ []) e) l b, stands_more l.past (marks_back (λ x. made.OverOut) (pair_up ns us) ++ []) (stands_now l) (makes_step b))),
            )

        -- granted, all or some
        module _ (found : IsLowerCount v (Ok tt)) (j : ℕ) (j_is : j ≡ granted_low v (length us)) where
          some_added : SubbedSome size seats (pair_up ns us) (idle_posts (drop (length us) ns)) j m1 v m2
          some_added = subst (λ k. SubbedSome size seats (pair_up ns us) (idle_posts (drop (length us) ns)) k m1 v m2) (ap (λ n. granted_low v n) (pair_length ns us fit) ∙ sym j_is) added

          pub names2 : m2.0.names ≡ ns
          names2 = ap (λ (x : QueueHolder T). x.0.names) some_added.after_is ∙ names1

          pub stock_says : Says m2.0 (claims_out_at BackLow ns us j)
          stock_says =
              let a = all_at (λ x. TicketOut) (take j (pair_up ns us)) in
              let b = all_at (λ x. BackLow) (drop j (pair_up ns us)) in
              let c = idle_posts (drop (length us) ns) in
              subst (λ l. Says m2.0 l) (append_assoc a b c) ((a ++ b) ++ c, ap (λ (x : QueueHolder T). x.0.phase) some_added.after_is, λ n p i. i)

          before_back : LeavesMarks size seats (marks_back (λ x. made.OverOut) (drop j (pair_up ns us)) ++ marks_back (λ x. made.ClaimOut) (take j (pair_up ns us))) m0 m2
          before_back = makes_then_first (makes_step first) (makes_step some_added)

          pub claims_stock : 0 < length us → (m3 : QueueHolder T) → Says m3.0 (claims_out_at Idle ns us j) → m3.0.left ≡ m2.0.left → (j ≡ length us → m3 ≡ m2)
              → (j < length us → LeavesMarks size seats (marks_back (λ x. made.BackOut) (drop j (pair_up ns us))) m2 m3) → StockBurst size seats ns us j m0 m3
          claims_stock some m3 says left all back =
              let g = some_granted v (length us) found some in
              let most : j ≤ length us = omega (arith, j_is, g.1) in
              record {
                some = omega (arith, j_is, g.0);
                most = most;
                phase = says;
                left = left ∙ (ap (λ (x : QueueHolder T). x.0.left) some_added.after_is ∙ left1);
                makes = elim (le_or_lt (length us) j) [
                  | inl full ↦ (
                      let over = none_over ns us fit j full in
                      let same : m3 ≡ m2 = all (omega (arith, full, most)) in
                      subst (λ l. LeavesMarks size seats (marks_back (λ x. made.BackOut) l ++ (marks_back (λ x. made.OverOut) (drop j (pair_up ns us)) ++ marks_back (λ x. made.ClaimOut) (take j (pair_up ns us)))) m0 m3) (sym over)
                      (subst (λ (w : QueueHolder T). LeavesMarks size seats (marks_back (λ x. made.OverOut) (drop j (pair_up ns us)) ++ marks_back (λ x. made.ClaimOut) (take j (pair_up ns us))) m0 w) (sym same) before_back))
                  | inr part ↦ makes_then before_back (back part)
                ];
                found = v;
                granted = j_is;
                past = some_added.past;
                lower = some_added.told;
                stands = elim (le_or_lt (length us) j) [
                  | inl full ↦ subst (λ (w : QueueHolder T). StandAfter some_added.past (marks_back (λ x. made.OverOut) (drop j (pair_up ns us)) ++ marks_back (λ x. made.ClaimOut) (take j (pair_up ns us))) w) (sym (all (omega (arith, full, most)))) (stands_now some_added)
                  | inr part ↦ stands_more some_added.past (marks_back (λ x. made.OverOut) (drop j (pair_up ns us)) ++ marks_back (λ x. made.ClaimOut) (take j (pair_up ns us))) (stands_now some_added) (back part)
                ];
              }

-- ---- the draw

granted_length : (ns : List ℕ) (us : List (Unit {0})) → length us ≤ length ns → (j : ℕ) → j ≤ length us → length (take j (pair_up ns us)) ≡ j
granted_length ns us fit j most = length-take-le j (pair_up ns us) (omega (arith, most, pair_length ns us fit))

module _ {T : Type 0} (size seats : ℕ) (ns : List ℕ) (us : List (Unit {0})) (apart : AreApart ns) (fit : length us ≤ length ns) (m0 m1 : QueueHolder T) (own : m0.0.names ≡ ns) (j : ℕ) (room : StockBurst size seats ns us j m0 m1) where
  pub draw_count : length us ≤ 1024 → (j ≡ length (take j (pair_up ns us))) × (j ≤ 1024)
  draw_count small = let most = room.most in (sym (granted_length ns us fit j most), omega (arith, small, most))

  draw_others : (n : ℕ) → In n (names_of (all_at {A = T} (λ (x : Unit {0}). Idle) (drop j (pair_up ns us)) ++ idle_posts (drop (length us) ns))) → In n (names_of (drop j (pair_up ns us))) ⊎ In n (names_of (idle_posts {T = T} (drop (length us) ns)))
  draw_others n i =
      let at = all_at {A = T} (λ (x : Unit {0}). Idle) (drop j (pair_up ns us)) in
      elim (in_either n (names_of at) (names_of (idle_posts {T = T} (drop (length us) ns))) (subst (In n) (names-append at (idle_posts (drop (length us) ns))) i)) [
        | inl a ↦ inl (subst (In n) (names-at {A = T} (λ (x : Unit {0}). Idle) (drop j (pair_up ns us))) a)
        | inr b ↦ inr b
      ]

  pub draw_names : AreApart (names_of (take j (pair_up ns us))) × AreDisjoint (names_of (take j (pair_up ns us))) (names_of (all_at {A = T} (λ (x : Unit {0}). Idle) (drop j (pair_up ns us)) ++ idle_posts (drop (length us) ns)))
      × AllIn (names_of (take j (pair_up ns us)) ++ names_of (all_at {A = T} (λ (x : Unit {0}). Idle) (drop j (pair_up ns us)) ++ idle_posts (drop (length us) ns))) m1.0.names
  draw_names = (
    once_granted T ns us apart fit j,
    (λ n i k. elim (draw_others n k) [ inl a ↦ not_both T ns us apart fit j n i a | inr b ↦ from_rest T ns us apart fit n (in_granted T ns us apart fit j n i) b ]),
    all_of _ m1.0.names (λ n i. subst (In n) (sym (room.makes.names ∙ own)) (elim (in_either n (names_of (take j (pair_up ns us))) (names_of (all_at {A = T} (λ (x : Unit {0}). Idle) (drop j (pair_up ns us)) ++ idle_posts (drop (length us) ns))) i) [
      | inl a ↦ in_zs T ns us apart fit n (in_granted T ns us apart fit j n a)
      | inr b ↦ elim (draw_others n b) [ inl c ↦ in_zs T ns us apart fit n (in_over T ns us apart fit j n c) | inr d ↦ in_rest T ns us apart fit n d ]
    ])),
  )

  pub draw_left : length us ≤ m0.0.left → j ≤ m1.0.left
  draw_left left = let most = room.most in let same = room.left in omega (arith, left, most, same)

  pub claims_burst : (k : ℕ) (m2 : QueueHolder T) → DrewOutBurst size seats (take j (pair_up ns us)) (all_at (λ x. Idle) (drop j (pair_up ns us)) ++ idle_posts (drop (length us) ns)) m1 k m2 → ClaimedOutBurst size seats ns us k j m0 m2
  claims_burst k m2 drew =
      let l = drew.leaves in
      let n = granted_length ns us fit j room.most in
      record {
        some = room.some;
        most = room.most;
        phase = ap (λ (x : QueueHolder T). x.0.phase) l.after_is;
        left = ap (λ (x : QueueHolder T). x.0.left) l.after_is ∙ (λ i. room.left i - n i);
        makes = makes_then room.makes (makes_step l);
        drawn = drew.drawn;
        names = drew.names;
        past = l.past;
        gots_last = ap (λ (x : QueueHolder T). x.0.seen) l.after_is;
        ticket = l.told.0;
        put = l.told.1;
        few = subst (λ d. k + d ≤ 2 ^ 50) n drew.few;
        found = room.found;
        granted = room.granted;
        earlier = room.past;
        lower = room.lower;
        stands = stands_more room.past (marks_back (λ x. made.OverOut) (drop j (pair_up ns us)) ++ marks_back (λ x. made.ClaimOut) (take j (pair_up ns us))) room.stands (makes_step l);
      }
