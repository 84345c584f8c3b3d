-- From a token of several names that rest to a bundle, and back.
use Rattle.std.specs.Prelude.{slice_index_or, take}
use Rattle.std.proofs.lemmas.List.{length-map, take_more}
use Rattle.fak_model.proofs.Deciding.{same_or_not}
use Rattle.fak_model.proofs.Seats.{in_either, in_left, in_right}
use Rattle.fak_model.specs.Calls.{ObjectId, object_id, SeatInfo, TallyInfo, tally_info, IsJoinOf}
use Rattle.fak_model.specs.Names.{Has, HasJust}
use Rattle.fak_model.specs.Queue.{queue_rules}
use Rattle.fak_model.specs.declared.name_set.NameSet.{NameSet}
use Rattle.fak_model.specs.Seats.{AreApart}
use Rattle.fak_queue.specs.BundleCalls.{BundleInfo, IsQueueBundle, queue_bundle}
use Rattle.fak_queue.specs.Bundling.{IsBundleOf, JoinsTo, Rests, name_of, tally_in, tally_of_bundle}
use Rattle.fak_queue.specs.Queues.{IsQueueTally}
use Rattle.fak_queue.specs.declared.bundle.BundleState.{BundleState}
use Rattle.fak_queue.specs.declared.bundle.BundleState.TheVariants.{Idle}
use Rattle.fak_queue.proofs.BundleLists.{item_in, item_is}
use Rattle.fak_queue.proofs.Gathering.{Gathered}
use Rattle.fak_queue.proofs.States.{idle_state}
use Rattle.fak_queue.proofs.Common.{AreIdle, QueueHolder, QueueInfo, queue_info, ◌≡◌, ◌≢◌, ◌⊎◌, ◌↔◌, ℕ, zero, suc, ◌+◌, ◌<◌, ◌≤◌, List, [], ◌∷◌, ◌++◌, length, map, refl, sym, ap, ◌∙◌, subst, inl, inr, arith, reverse, In, Mark, TableId}

-- ---- names

-- names without one of them
record Without (n : ℕ) (names : List ℕ) : Type 0 where
  pub rest : List ℕ
  pub long : length names ≡ suc (length rest)
  pub apart : AreApart rest
  pub among : (m : ℕ) → In m rest → In m names × (m ≢ n)

without : (n : ℕ) (names : List ℕ) → AreApart names → In n names → Without n names
without n [] apart i = absurd i
without n (x ∷ names) apart (inl is) = record { rest = names; long = refl; apart = apart.1; among = λ m i. (inr i, λ e. apart.0 (subst (λ k. In k names) (e ∙ is) i)) }
without n (x ∷ names) apart (inr i) =
    let w = without n names apart.1 i in
    record {
      rest = x ∷ w.rest;
      long = ap suc w.long;
      apart = ((λ j. apart.0 (w.among x j).0), w.apart);
      among = λ m j. elim j [ inl e ↦ (inl e, λ f. apart.0 (subst (λ k. In k names) (sym f ∙ e) i)) | inr later ↦ (inr (w.among m later).0, (w.among m later).1) ];
    }

in_or_not : (n : ℕ) (names : List ℕ) → In n names ⊎ (In n names → ⊥)
in_or_not n [] = inr (λ i. i)
in_or_not n (x ∷ names) = elim (same_or_not n x) [
  | inl e ↦ inl (inl e)
  | inr other ↦ elim (in_or_not n names) [ inl i ↦ inl (inr i) | inr none ↦ inr (λ i. elim i [ inl e ↦ other e | inr later ↦ none later ]) ]
]

-- names that are apart, all of them below a number, are no more than it
pub apart_few : (seats : ℕ) (names : List ℕ) → AreApart names → ((n : ℕ) → In n names → n < seats) → length names ≤ seats
apart_few zero [] apart below = omega arith
apart_few zero (x ∷ names) apart below = absurd (let low = below x (inl refl) in omega (arith, low))
apart_few (suc k) names apart below = elim (in_or_not k names) [
  | inl i ↦ (let w = without k names apart i in
      let fewer = apart_few k w.rest w.apart (λ n j. let low = below n (w.among n j).0 in let other = (w.among n j).1 in omega (arith, low, other)) in
      omega (arith, w.long, fewer))
  | inr none ↦ (let fewer = apart_few k names apart (λ n i. let low = below n i in let other : n ≢ k = λ e. none (subst (λ z. In z names) e i) in omega (arith, low, other)) in omega (arith, fewer))
]

-- ---- a bundle of a token

-- no call of names that rest is cut short
pub rests_ended : {T : Type 0} {size seats left : ℕ} {names : List ℕ} {m : QueueHolder T} (table : TableId) → Rests size seats names left m → AreIdle names (reverse m.0.seen)
rests_ended {T} {size} {seats} {left} {names} {m} table r n i = idle_state size (object_id table seats) n left m r.lawful (r.idle n i)

pub bundle_keeps : {T : Type 0} {size seats left capacity : ℕ} {table : TableId} {names : List ℕ} {all : List (SeatInfo (Mark T))} {kept : List T} {m : QueueHolder T} → Gathered size seats table all left m → names ≡ map name_of all → 0 < length all → kept ≡ [] → length all ≤ capacity
    → IsQueueBundle size seats names capacity kept Idle left m
bundle_keeps {T} {size} {seats} {left} {capacity} {table} {names} {all} {kept} {m} g is some none room =
    let r : Rests size seats names left m = subst (λ l. Rests size seats l left m) (sym is) g.rests in
    let long : length names ≡ length all = ap length is ∙ length-map all name_of in
    let few_seats = r.token.few in
    let fewer = apart_few seats names r.apart r.below in
    record {
      names_are = r.names_are;
      apart = r.apart;
      below = r.below;
      some = omega (arith, long, some);
      few = omega (arith, fewer, few_seats);
      few_seats = few_seats;
      left_is = r.left_is;
      slots = ap (λ (x : QueueHolder T). x.1) r.token.me_is;
      lawful = record { lawful = r.lawful; named = r.token.named };
      room = omega (arith, long, room);
      stands = record { phase = ap (λ (x : QueueHolder T). x.0.phase) r.token.me_is; none = none; ended = rests_ended table r };
    }

-- and its table and its seats are the object's, however they are called
pub bundle_keeps_here : {T : Type 0} {seats own left capacity : ℕ} {table now : TableId} {names : List ℕ} {all : List (SeatInfo (Mark T))} {kept : List T} {m : QueueHolder T} → Gathered table.slots seats table all left m → now ≡ table → own ≡ seats → names ≡ map name_of all → 0 < length all → kept ≡ [] → length all ≤ capacity
    → IsQueueBundle now.slots own names capacity kept Idle left m
bundle_keeps_here {T} {seats} {own} {left} {capacity} {table} {now} {names} {all} {kept} {m} g stays own_is is some none room =
    subst (λ (x : TableId × ℕ). IsQueueBundle x.0.slots x.1 names capacity kept Idle left m) (λ i. (sym stays i, sym own_is i)) (bundle_keeps g is some none room)

-- what callers see of it
pub bundle_made : {T : Type 0} {seats own left : ℕ} {table now : TableId} {names : List ℕ} {all : List (SeatInfo (Mark T))} {m : QueueHolder T} {queue : QueueInfo} → Gathered table.slots seats table all left m → now ≡ table → own ≡ seats → names ≡ map name_of all → queue_info (object_id table seats) ≡ queue
    → IsBundleOf queue.size all (queue_bundle (object_id now own) names left Idle m)
bundle_made {T} {seats} {own} {left} {table} {now} {names} {all} {m} {queue} g stays own_is is queue_is =
    subst (λ (x : ℕ × ObjectId × List ℕ). IsBundleOf x.0 all (queue_bundle x.1 x.2 left Idle m)) (λ i. (ap (λ (q : QueueInfo). q.size) queue_is i, object_id (sym stays i) (sym own_is i), sym is i)) g.made

-- ---- a tally of a token

-- a set with one name more
pub inserts_next : (old mid new : NameSet) (names : List ℕ) (i : ℕ) → i < length names → ((n : ℕ) → Has mid n ↔ (Has old n ⊎ In n (take i names))) → ((n : ℕ) → Has new n ↔ (Has mid n ⊎ (n ≡ slice_index_or names i 0))) → (n : ℕ) → Has new n ↔ (Has old n ⊎ In n (take (i + 1) names))
inserts_next old mid new names i low before step n =
    let x : ℕ = slice_index_or names i 0 in
    let all : Has new n ↔ (Has old n ⊎ In n (take i names ++ x ∷ [])) = (
      (λ h. elim ((step n).0 h) [
        | inl m ↦ elim ((before n).0 m) [ inl o ↦ inl o | inr e ↦ inr (in_left n (take i names) (x ∷ []) e) ]
        | inr e ↦ inr (in_right n (take i names) (x ∷ []) (inl e))
      ]),
      (λ k. elim k [
        | inl o ↦ (step n).1 (inl ((before n).1 (inl o)))
        | inr j ↦ elim (in_either n (take i names) (x ∷ []) j) [
          | inl e ↦ (step n).1 (inl ((before n).1 (inr e)))
          | inr last ↦ elim last [ inl e ↦ (step n).1 (inr e) | inr z ↦ absurd z ]
        ]
      ]),
    ) in
    subst (λ (l : List ℕ). Has new n ↔ (Has old n ⊎ In n l)) (sym (take_more names i 0 low)) all

pub name_there : (names : List ℕ) (i : ℕ) → i < length names → In (slice_index_or names i 0) names
name_there names i low = item_in names i (slice_index_or names i 0) (item_is names i low)

pub name_first : (names : List ℕ) (x : ℕ) → 0 < length names → x ≡ slice_index_or names 0 x → In x names
name_first [] x some e = absurd (omega (arith, some))
name_first (n ∷ names) x some e = inl e

pub tally_keeps : {T : Type 0} {seats own left : ℕ} {table now : TableId} {names : List ℕ} {set : NameSet} {m : QueueHolder T} → Rests table.slots seats names left m → now ≡ table → own ≡ seats → HasJust set names → IsQueueTally now.slots own set m
tally_keeps {T} {seats} {own} {left} {table} {now} {names} {set} {m} r stays own_is just =
    let here : IsQueueTally table.slots seats set m = record {
      token = r.token;
      just = subst (HasJust set) (sym r.names_are) just;
      lawful = r.lawful;
      idle = subst (λ l. AreIdle l (reverse m.0.seen)) (sym r.names_are) (rests_ended table r);
    } in
    subst (λ (x : TableId × ℕ). IsQueueTally x.0.slots x.1 set m) (λ i. (sym stays i, sym own_is i)) here

-- the set of a tally's names, with those of a bundle
pub just_both : (old new : NameSet) (before names : List ℕ) {after : List ℕ} → HasJust old before → ((n : ℕ) → Has new n ↔ (Has old n ⊎ In n names)) → after ≡ before ++ names → HasJust new after
just_both old new before names {after} just grown are n =
    let all : Has new n ↔ In n (before ++ names) = (
      (λ h. elim ((grown n).0 h) [ inl o ↦ in_left n before names ((just n).0 o) | inr i ↦ in_right n before names i ]),
      (λ i. (grown n).1 (elim (in_either n before names i) [ inl b ↦ inl ((just n).1 b) | inr j ↦ inr j ])),
    ) in
    subst (λ (l : List ℕ). Has new n ↔ In n l) (sym are) all

-- the set of a bundle's names, which begins with one of them
pub just_all : (one all : NameSet) (x : ℕ) (names : List ℕ) → In x names → ((n : ℕ) → Has one n ↔ (n ≡ x)) → ((n : ℕ) → Has all n ↔ (Has one n ⊎ In n names)) → HasJust all names
just_all one all x names there first grown n = (
  (λ h. elim ((grown n).0 h) [ inl o ↦ subst (λ k. In k names) (sym ((first n).0 o)) there | inr i ↦ i ]),
  (λ i. (grown n).1 (inr i)),
)

-- what callers see of the join of a tally and a bundle
pub joins_seen : {T : Type 0} {seats tally_seats bundle_seats : ℕ} (left : ℕ) {table tally_table bundle_table now : TableId} {v w after : QueueHolder T} {names : List ℕ} {state : BundleState} {tally : TallyInfo (Mark T)} {bundle : BundleInfo (Mark T)} {queue : QueueInfo} → JoinsTo table.slots seats v w after → now ≡ tally_table
    → tally_in tally_table tally_seats v ≡ tally → queue_bundle (object_id bundle_table bundle_seats) names left state w ≡ bundle → w.0.names ≡ names → queue_info (object_id table seats) ≡ queue → tally.object ≡ queue.object → bundle.object ≡ queue.object
    → IsJoinOf (queue_rules queue.size) tally (tally_of_bundle bundle) (tally_in now tally_seats after)
joins_seen {T} {seats} {tally_seats} {bundle_seats} left {table} {tally_table} {bundle_table} {now} {v} {w} {after} {names} {state} {tally} {bundle} {queue} joins stays tally_is bundle_is names_are queue_is fits fits' =
    let object : object_id table seats ≡ queue.object = ap (λ (q : QueueInfo). q.object) queue_is in
    let size : table.slots ≡ queue.size = ap (λ (q : QueueInfo). q.size) queue_is in
    let its : object_id tally_table tally_seats ≡ object_id table seats = ap (λ (t : TallyInfo (Mark T)). t.object) tally_is ∙ (fits ∙ sym object) in
    let bundles : object_id bundle_table bundle_seats ≡ object_id table seats = ap (λ (b : BundleInfo (Mark T)). b.object) bundle_is ∙ (fits' ∙ sym object) in
    let one : tally_in table seats v ≡ tally = (λ i. tally_info (sym its i) v.0.names (reverse v.0.seen)) ∙ tally_is in
    let two : tally_in table seats w ≡ tally_of_bundle bundle = (λ i. tally_info (sym bundles i) (names_are i) (reverse w.0.seen)) ∙ ap (λ (b : BundleInfo (Mark T)). tally_of_bundle b) bundle_is in
    let both : tally_in table seats after ≡ tally_in now tally_seats after = λ i. tally_info ((sym its ∙ (λ j. object_id (sym stays j) tally_seats)) i) after.0.names (reverse after.0.seen) in
    subst (λ (x : ℕ × TallyInfo (Mark T) × TallyInfo (Mark T) × TallyInfo (Mark T)). IsJoinOf (queue_rules x.0) x.1 x.2 x.3) (λ i. (size i, one i, two i, both i)) (joins.joined table)
