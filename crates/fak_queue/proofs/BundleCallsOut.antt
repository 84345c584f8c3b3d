-- From what a part of a burst of deletions leaves at a bundle's token to what its calls promise, over the bundle's own object.
use Rattle.std.specs.Prelude.{zero, suc, drop, min}
use Rattle.std.proofs.lemmas.List.{append-nil, length-drop}
use Rattle.fak_model.specs.declared.queue.Kind.TheVariants as made
use Rattle.fak_model.specs.Queue.{Deleted, WithdrawnOut}
use Rattle.fak_queue.specs.declared.bundle.BundleState.{BundleState}
use Rattle.fak_queue.specs.declared.bundle.BundleState.TheVariants.{Idle, Deleting}
use Rattle.fak_queue.specs.Bundles.{EmptiedOn, ClaimsOutOn, LastEnds, MadeBy, FoundEmpty, taken_at}
use Rattle.fak_queue.specs.BundleCalls.{BundleInfo, queue_bundle, tickets_of_all, seat_in, HasEnded, AllRest, AreDeleting, StandsAs}
use Rattle.fak_queue.specs.BurstCalls.{ClaimsBurstOut, DeletesBurst, TakesBurst, TriesToTake}
use Rattle.fak_queue.specs.Parts.{before_part}
use Rattle.fak_queue.proofs.BundleLists.{item_in, item_low, item_drop, number_of, put_more}
use Rattle.fak_queue.proofs.BundleClaims.{item_there}
use Rattle.fak_queue.proofs.BundlePlaces.{before_begins}
use Rattle.fak_queue.proofs.LastMarks.{drew_still}
use Rattle.fak_queue.proofs.BundleWords.{owed_then, ended_then, ended_now, owed_still, grows_by, ones, tickets_made}
use Rattle.fak_queue.proofs.BundleCalls.{asked, goes_on, no_tickets}
use Rattle.fak_queue.proofs.BurstNames.{begins_trans}
use Rattle.fak_queue.proofs.Common.{ObjectId, QueueHolder, Mark, seat_of, mine_of, marks_of, made_by, tickets_in, item_at, items_put, count, gots, ◌≡◌, ◌⊎◌, ⊎_elim, ℕ, ◌+◌, ◌-◌, ◌<◌, ◌≤◌, List, [], ◌∷◌, ◌++◌, length, length-append, reverse, refl, sym, ap, ◌∙◌, subst, inl, inr, arith, append_assoc, Some, le_or_lt}

-- ---- lists

-- a list of what there is for each number
pub chosen : {A : Type 0} (j : ℕ) (P : ℕ → A → Type 0) → ((i : ℕ) → i < j → (x : A) × P i x) → (l : List A) × (length l ≡ j) × ((i : ℕ) (x : A) → item_at l i ≡ Some x → P i x)
chosen zero P f = ([], refl, λ i x e. absurd cc)
chosen {A} (suc j) P f =
    let x = f 0 (omega arith) in
    let rest = chosen j (λ i. P (suc i)) (λ i low. f (suc i) (omega (arith, low))) in
    (x.0 ∷ rest.0, ap suc rest.1, each P x.0 x.1 rest.0 rest.2)
  where
    each : {A : Type 0} (P : ℕ → A → Type 0) (x : A) → P 0 x → (l : List A) → ((i : ℕ) (y : A) → item_at l i ≡ Some y → P (suc i) y) → (i : ℕ) (y : A) → item_at (x ∷ l) i ≡ Some y → P i y
    each P x p l later zero y e = let f : Some x ≡ Some y = e in let same : x ≡ y = cc in subst (P 0) same p
    each P x p l later (suc i) y e = later i y e

-- a list that begins as another does goes on from it
begins_so : {A : Type 0} (was got : List A) → length was ≤ length got → ((i : ℕ) → i < length was → item_at got i ≡ item_at was i) → got ≡ was ++ drop (length was) got
begins_so [] got fit same = refl
begins_so (x ∷ was) [] fit same = absurd (omega (arith, fit))
begins_so (x ∷ was) (y ∷ got) fit same =
    let e : Some y ≡ Some x = same 0 (omega arith) in
    let first : y ≡ x = cc in
    let rest = begins_so was got (omega (arith, fit)) (λ i low. same (suc i) (omega (arith, low))) in
    λ j. first j ∷ rest j

-- ---- the claim of a burst of deletions

module _ {T : Type 0} {size : ℕ} (o : ObjectId) (names : List ℕ) (most d k j left : ℕ) (m after : QueueHolder T) (c : ClaimsOutOn size o.seats names d k j m after) (d_is : d ≡ min most (min (length names) left)) where
  d_fits : (d ≤ most) × (d ≤ length names) × (d ≤ left)
  d_fits = (omega (arith, d_is), omega (arith, d_is), omega (arith, d_is))

  -- what is said of the i-th name, which got x
  abbrev Got : ℕ → T → Type 0
  Got i x = (n : ℕ) → item_at names i ≡ Some n → MadeBy n (made.ClaimOut ∷ made.Got x ∷ []) m after × (item_at (items_put (reverse after.0.seen)) (k + i) ≡ Some x) × (count gots (before_part n 1 m after) ≡ k + i)

  got : (i : ℕ) → i < j → (x : T) × Got i x
  got i low =
      let fits = d_fits in
      let less = c.most in
      let n = item_there names i (omega (arith, low, fits, less)) in
      let g = c.granted i n.0 n.1 low in
      (g.0, λ t e. let f : Some n.0 ≡ Some t = sym n.1 ∙ e in let same : n.0 ≡ t = cc in subst (λ z. MadeBy z (made.ClaimOut ∷ made.Got g.0 ∷ []) m after × (item_at (items_put (reverse after.0.seen)) (k + i) ≡ Some g.0) × (count gots (before_part z 1 m after) ≡ k + i)) same (g.1, g.2, g.3))

  ys : (l : List T) × (length l ≡ j) × ((i : ℕ) (x : T) → item_at l i ≡ Some x → Got i x)
  ys = chosen j Got got

  rest_made : (i n : ℕ) → item_at names i ≡ Some n → j ≤ i → MadeBy n (made.OverOut ∷ made.BackOut ∷ []) m after ⊎ MadeBy n [] m after
  rest_made i n e high = elim (le_or_lt d i) [ inl far ↦ inr (c.others i n e far) | inr near ↦ inl (c.over i n e high near) ]

  pub claim_tickets : tickets_of_all names (reverse after.0.seen) ≡ tickets_of_all names (reverse m.0.seen) + j
  claim_tickets =
      let fits = d_fits in
      let less = c.most in
      let l = ys in
      let many = l.1 in
      let one = ones l.0 in
      let grown = grows_by (λ n. tickets_in (marks_of seat_of n (reverse m.0.seen))) (λ n. tickets_in (marks_of seat_of n (reverse after.0.seen))) (λ (y : T). 1) names l.0 (omega (arith, many, fits, less))
      (λ i n y e at. tickets_made n (reverse m.0.seen) (reverse after.0.seen) (made.ClaimOut ∷ made.Got y ∷ []) (l.2 i y at n e).0)
      (λ i n e high. ⊎_elim
      (λ a. let t = tickets_made n (reverse m.0.seen) (reverse after.0.seen) (made.OverOut ∷ made.BackOut ∷ []) a in omega (arith, t))
      (λ a. let t = tickets_made n (reverse m.0.seen) (reverse after.0.seen) [] a in omega (arith, t))
      (rest_made i n e (omega (arith, high, many)))) in
      omega (arith, grown, one, many)

  pub claims_burst_out : (s : BundleState) → ClaimsBurstOut size most k j (queue_bundle o names left s m) (queue_bundle o names (left - j) (Deleting k 0 j) after)
  claims_burst_out s =
      let l = ys in
      let many = l.1 in
      let is = asked o names most d left s m d_is in
      let less = c.most in
      let some = c.some in
      let fits = d_fits in
      let t = claim_tickets in (
        l.0,
        l.1,
        record {
          some = omega (arith, many, some);
          few = omega (arith, many, is, less);
          goes_on = goes_on o names left (left - j) s (Deleting k 0 j) m after (omega (arith, t, fits, less)) c.begins c.lawful;
          granted = λ i n x e at. let g = l.2 i x at n e in record { makes = g.0; ticket_is = g.2; put = g.1 };
          over = λ i n e high low. c.over i n e (omega (arith, high, many)) (omega (arith, is, low));
          others = λ i n e high. c.others i n e (omega (arith, is, high));
          last = λ i n x e last at. c.last i n x e (last ∙ many) (l.2 i x at n e).1;
        },
      )

  pub claim_stands : {kept : List T} → AllRest names kept m → AreDeleting names k 0 j kept after
  claim_stands r = record {
    some = c.some;
    few = c.few;
    none = r.none;
    stands = c.stands;
    done = λ i n e out. elim out [
      | inl none ↦ absurd (omega (arith, none))
      | inr high ↦ ⊎_elim
          (λ a. ended_then WithdrawnOut n (reverse m.0.seen) (reverse after.0.seen) (made.OverOut ∷ made.BackOut ∷ []) refl a (r.ended n (item_in names i n e)))
          (λ a. owed_still n (reverse m.0.seen) (reverse after.0.seen) [] (a ∙ append-nil (marks_of seat_of n (reverse m.0.seen))) (r.ended n (item_in names i n e)))
          (rest_made i n e high)
    ];
    waits = λ i n e above below.
        let g = c.granted i n e below in
        owed_then Deleted n (reverse m.0.seen) (reverse after.0.seen) (made.ClaimOut ∷ made.Got g.0 ∷ []) (made.Take 0 ∷ made.EndOut ∷ []) refl g.1 (r.ended n (item_in names i n e));
    drew = λ i n e above below. c.drew i n e below;
  }

-- ---- emptying

module _ {T : Type 0} {size : ℕ} (o : ObjectId) (names : List ℕ) (k lo f granted left : ℕ) (was got : List T) (m after : QueueHolder T) (c : EmptiedOn size o.seats names k lo f granted was got m after) where
  pub take_drawn : tickets_of_all names (reverse after.0.seen) ≡ tickets_of_all names (reverse m.0.seen)
  take_drawn = no_tickets names m after (λ i n e. elim (le_or_lt lo i) [
    | inr low ↦ ap tickets_in (c.marks.outside i n e (inl low))
    | inl above ↦ elim (le_or_lt f i) [
      | inl high ↦ ap tickets_in (c.marks.outside i n e (inr high))
      | inr below ↦ (let t = tickets_made n (reverse m.0.seen) (reverse after.0.seen) (taken_at k i) (c.marks.inside i n e above below) in omega (arith, t))
    ]
  ])

  -- the items that were taken
  pub more : got ≡ was ++ drop (length was) got
  more = let many = c.many in begins_so was got (omega (arith, many)) c.same

  pub takes_burst : lo ≤ f → LastEnds made.EndOut names lo f after → (s t : BundleState) → TakesBurst size k lo f (drop (length was) got) (queue_bundle o names left s m) (queue_bundle o names left t after)
  takes_burst low last s t =
      let many = c.many in
      let l = length-drop (length was) got in
      record {
        goes_on = goes_on o names left left s t m after (ap (λ z. left + z) take_drawn) c.marks.begins c.marks.lawful;
        done = c.marks.inside;
        others = λ i n e out. c.marks.outside i n e out ∙ sym (append-nil (marks_of seat_of n (reverse m.0.seen)));
        last = last;
        many = omega (arith, many, l);
        put = λ i x e.
            let there : item_at got (length was + i) ≡ Some x = sym (item_drop got (length was) i) ∙ e in
            let less : i < f - lo = (let z = item_low (drop (length was) got) i x e in omega (arith, z, l, many)) in
            let at : length was + i ≡ length was + (lo + i - lo) = omega arith in
            c.put (lo + i) x (omega arith) (omega (arith, less, low)) (sym (ap (item_at got) at) ∙ there);
      }

  -- the same of a burst that is said otherwise
  pub takes_so : lo ≤ f → LastEnds made.EndOut names lo f after → (s t : BundleState) {k' lo' hi : ℕ} → k ≡ k' → lo ≡ lo' → f ≡ hi → TakesBurst size k' lo' hi (drop (length was) got) (queue_bundle o names left s m) (queue_bundle o names left t after)
  takes_so low last s t a b e = subst (λ (z : ℕ × ℕ × ℕ). TakesBurst size z.0 z.1 z.2 (drop (length was) got) (queue_bundle o names left s m) (queue_bundle o names left t after)) (λ i. (a i, b i, e i)) (takes_burst low last s t)

  module _ {kept : List T} (a : AreDeleting names k lo granted kept m) where
    ended : (i n : ℕ) → item_at names i ≡ Some n → (i < f) ⊎ (granted ≤ i) → lo ≤ f → f ≤ granted → HasEnded n (reverse after.0.seen)
    ended i n e out low high = elim (le_or_lt lo i) [
      | inr less ↦ owed_still n (reverse m.0.seen) (reverse after.0.seen) [] (c.marks.outside i n e (inl less)) (a.done i n e (inl less))
      | inl above ↦ elim (le_or_lt f i) [
        | inr below ↦ ended_now n (reverse m.0.seen) (reverse after.0.seen) (taken_at k i) (c.marks.inside i n e above below) (a.waits i n e above (omega (arith, below, high)))
        | inl far ↦ owed_still n (reverse m.0.seen) (reverse after.0.seen) [] (c.marks.outside i n e (inr far)) (a.done i n e (inr (⊎_elim (λ x. absurd (omega (arith, x, far))) (λ x. x) out)))
      ]
    ]

    pub take_rests : lo ≤ f → f ≡ granted → AllRest names kept after
    take_rests low all = record {
      phase = c.rests (omega (arith, all));
      none = a.none;
      ended = λ n i. let w = number_of names n i in ended w.0 n w.1 (elim (le_or_lt granted w.0) [ inl high ↦ inr high | inr less ↦ inl (omega (arith, less, all)) ]) low (omega (arith, all));
    }

    pub take_stands : lo ≤ f → f < granted → AreDeleting names k f granted kept after
    take_stands low less = record {
      some = less;
      few = a.few;
      none = a.none;
      stands = c.stands less;
      done = λ i n e out. ended i n e out low (omega (arith, less));
      waits = λ i n e above below. owed_still n (reverse m.0.seen) (reverse after.0.seen) (made.Take 0 ∷ made.EndOut ∷ []) (c.marks.outside i n e (inr above)) (a.waits i n e (omega (arith, low, above)) below);
      drew = λ i n e above below.
          let d = a.drew i n e (omega (arith, low, above)) below in
          (d.0, drew_still (reverse m.0.seen) (reverse after.0.seen) n (made.Got d.0) gots (k + i) c.marks.begins (c.marks.outside i n e (inr above)) d.1);
    }

    -- as far as the cells' turns had come
    module _ (t : BundleState) (low : lo ≤ f) (high : f ≤ granted) (all : f ≡ granted → t ≡ Idle) (some : f < granted → t ≡ Deleting k f granted) where
      pub take_keeps : StandsAs t names kept after
      take_keeps = elim (le_or_lt granted f) [
        | inl whole ↦ (let e : f ≡ granted = omega (arith, whole, high) in subst (λ s. StandsAs s names kept after) (sym (all e)) (take_rests low e))
        | inr less ↦ subst (λ s. StandsAs s names kept after) (sym (some less)) (take_stands low less)
      ]

      pub tries_to_take : (s : BundleState) {k' lo' granted' : ℕ} → k ≡ k' → lo ≡ lo' → granted ≡ granted' → (f < granted → FoundEmpty (k + f) (reverse m.0.seen) (reverse after.0.seen)) → LastEnds made.EndOut names lo f after → TriesToTake size k' lo' granted' (granted - f) (drop (length was) got) (queue_bundle o names left s m) (queue_bundle o names left t after)
      tries_to_take s x y z found last = subst (λ (v : ℕ × ℕ × ℕ). TriesToTake size v.0 v.1 v.2 (granted - f) (drop (length was) got) (queue_bundle o names left s m) (queue_bundle o names left t after)) (λ i. (x i, y i, z i)) tries
        where
          back : granted - (granted - f) ≡ f
          back = omega (arith, high)

          tries : TriesToTake size k lo granted (granted - f) (drop (length was) got) (queue_bundle o names left s m) (queue_bundle o names left t after)
          tries = record {
            few = omega (arith, low, high);
            takes = takes_so low last s t refl refl (sym back);
            all = λ e. all (omega (arith, e, high));
            some = λ e. some (omega (arith, e)) ∙ ap (λ h. Deleting k h granted) (sym back);
            waits = λ e. subst (λ h. FoundEmpty (k + h) (reverse m.0.seen) (reverse after.0.seen)) (sym back) (found (omega (arith, e)));
          }

-- ---- a claim, and then all cells

pub deletes_burst : {T : Type 0} {size : ℕ} (most k j : ℕ) (ys : List T) (old mid new : BundleInfo (Mark T)) → ClaimsBurstOut size most k j old mid → TakesBurst size k 0 j ys mid new → DeletesBurst size most ys k old new
deletes_burst {T} {size} most k j ys old mid new claim f =
    let xs = claim.0 in
    let many = claim.1 in
    let c = claim.2 in
    let long = f.many in
    let names : mid.names ≡ old.names = ap (λ (b : BundleInfo (Mark T)). b.names) c.goes_on.same_bundle in
    let named : (i n : ℕ) → item_at old.names i ≡ Some n → item_at mid.names i ≡ Some n = (λ i n e. ap (λ l. item_at l i) names ∙ e) in
    let still : (i n : ℕ) → item_at old.names i ≡ Some n → j ≤ i → mine_of seat_of (seat_in new n) ≡ mine_of seat_of (seat_in mid n) = (λ i n e high. f.others i n (named i n e) (inr high) ∙ append-nil (mine_of seat_of (seat_in mid n))) in
    let some = c.some in
    let few = c.few in
    record {
      some = omega (arith, some, many, long);
      few = omega (arith, few, many, long);
      goes_on = record {
        same_bundle = f.goes_on.same_bundle ∙ ap (λ (b : BundleInfo (Mark T)). record b { state = new.state; seen = new.seen }) c.goes_on.same_bundle;
        begins = begins_trans old.seen mid.seen new.seen c.goes_on.begins f.goes_on.begins;
        lawful = f.goes_on.lawful;
        named = f.goes_on.named;
      };
      granted = λ i n x e it.
          let low : i < j = (let l = item_low ys i x it in omega (arith, l, long)) in
          let y = item_there xs i (omega (arith, low, many)) in
          let g = c.granted i n y.0 e y.1 in
          let put : item_at (items_put new.seen) (k + i) ≡ Some x = (let z : k + i ≡ k + (0 + i) = omega arith in ap (item_at (items_put new.seen)) z ∙ f.put i x it) in
          let same : y.0 ≡ x = (let both : Some y.0 ≡ Some x = sym (put_more mid.seen new.seen (k + i) y.0 f.goes_on.begins g.put) ∙ put in cc) in
          let made_it : mine_of seat_of (seat_in mid n) ≡ mine_of seat_of (seat_in old n) ++ made_by n (made.ClaimOut ∷ made.Got x ∷ []) = subst (λ z. mine_of seat_of (seat_in mid n) ≡ mine_of seat_of (seat_in old n) ++ made_by n (made.ClaimOut ∷ made.Got z ∷ [])) same g.makes in
          let count_is : length (mine_of seat_of (seat_in mid n)) ≡ length (mine_of seat_of (seat_in old n)) + 2 = ap length made_it ∙ length-append (mine_of seat_of (seat_in old n)) (made_by n (made.ClaimOut ∷ made.Got x ∷ [])) in
          record {
            makes = f.done i n (named i n e) (omega arith) low ∙ (ap (λ l. l ++ made_by n (made.Take (k + i) ∷ made.EndOut ∷ [])) made_it ∙ append_assoc (mine_of seat_of (seat_in old n)) (made_by n (made.ClaimOut ∷ made.Got x ∷ [])) (made_by n (made.Take (k + i) ∷ made.EndOut ∷ [])));
            ticket_is = ap (count gots) (before_begins n (length (mine_of seat_of (seat_in old n)) + 1) mid.seen new.seen f.goes_on.begins (omega (arith, count_is))) ∙ g.ticket_is;
            put = put;
          };
      over = λ i n e high low. still i n e (omega (arith, high, long)) ∙ c.over i n e (omega (arith, high, long, many)) low;
      others = λ i n e high. still i n e (omega (arith, few, many, high)) ∙ c.others i n e high;
      last = λ i n x e last it. f.last i n (named i n e) (omega arith) (last ∙ omega (arith, long));
    }
