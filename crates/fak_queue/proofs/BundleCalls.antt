-- From what a part of a burst leaves at a bundle's token to what its calls promise, over the bundle's own object.
use Rattle.std.specs.Prelude.{zero, suc, take, drop, min}
use Rattle.std.proofs.lemmas.List.{append-nil, length-take-le, take-take}
use Rattle.fak_model.specs.declared.queue.Kind.TheVariants as made
use Rattle.fak_model.specs.Seats.{Begins}
use Rattle.fak_model.specs.Queue.{Inserted, WithdrawnIn}
use Rattle.fak_queue.specs.declared.bundle.BundleState.{BundleState}
use Rattle.fak_queue.specs.declared.bundle.BundleState.TheVariants.{Idle, Inserting}
use Rattle.fak_queue.specs.Bundles.{IsLawful, Filling, FilledOn, ClaimsOn, LastEnds, MadeBy, FoundFull, filled_at}
use Rattle.fak_queue.specs.BundleCalls.{BundleInfo, bundle_info, queue_bundle, tickets_of_all, seat_in, HasEnded, AllRest, AreInserting, StandsAs}
use Rattle.fak_queue.specs.BurstCalls.{GoesOn, asked_of, ClaimsBurst, InsertsBurst, FillsBurst, TriesToFill}
use Rattle.fak_queue.proofs.BundleLists.{item_in, item_low, item_take, number_of, put_more}
use Rattle.fak_queue.proofs.BundleClaims.{item_there}
use Rattle.fak_queue.proofs.BundlePlaces.{before_begins}
use Rattle.fak_queue.proofs.LastMarks.{drew_still}
use Rattle.fak_queue.proofs.BundleWords.{owed_then, ended_then, ended_now, owed_still, grows_by, ones, tickets_made}
use Rattle.fak_queue.proofs.BurstNames.{begins_trans}
use Rattle.fak_queue.proofs.Common.{ObjectId, QueueHolder, Mark, seat_of, mine_of, marks_of, made_by, tickets_in, item_at, count, puts, ◌≡◌, ◌⊎◌, ⊎_elim, ℕ, ◌+◌, ◌-◌, ◌<◌, ◌≤◌, List, [], ◌∷◌, ◌++◌, length, reverse, refl, sym, ap, ◌∙◌, subst, inl, inr, arith, append_assoc, length-append, None, Some, le_or_lt, common_steps}

-- a bundle that has seen more, with as many tickets in all
pub goes_on : {T : Type 0} {size : ℕ} (o : ObjectId) (names : List ℕ) (was now : ℕ) (s t : BundleState) (m after : QueueHolder T) → now + tickets_of_all names (reverse after.0.seen) ≡ was + tickets_of_all names (reverse m.0.seen)
    → Begins (reverse m.0.seen) (reverse after.0.seen) → IsLawful size o.seats after.0 → GoesOn size (queue_bundle o names was s m) (queue_bundle o names now t after)
goes_on o names was now s t m after same begins law = record {
  same_bundle = ap (λ (k : ℕ). bundle_info o names k t (reverse after.0.seen)) same;
  begins = begins;
  lawful = law.lawful;
  named = law.named;
}

-- names that draw no ticket
pub no_tickets : {T : Type 0} (names : List ℕ) (m after : QueueHolder T) → ((i n : ℕ) → item_at names i ≡ Some n → tickets_in (marks_of seat_of n (reverse after.0.seen)) ≡ tickets_in (marks_of seat_of n (reverse m.0.seen)))
    → tickets_of_all names (reverse after.0.seen) ≡ tickets_of_all names (reverse m.0.seen)
no_tickets {T} names m after none =
    let grown = grows_by (λ n. tickets_in (marks_of seat_of n (reverse m.0.seen))) (λ n. tickets_in (marks_of seat_of n (reverse after.0.seen))) (λ (x : ℕ). 1) names [] (omega arith) (λ i n y e at. absurd (let z : ◌≡◌ None (Some y) = at in cc)) (λ i n e high. none i n e) in
    omega (arith, grown)

-- how many seats take part
pub asked : {T : Type 0} (o : ObjectId) (names : List ℕ) (most d left : ℕ) (s : BundleState) (m : QueueHolder T) → d ≡ min most (min (length names) left) → asked_of most (queue_bundle o names left s m) ≡ d
asked o names most d left s m d_is =
    let z : left + tickets_of_all names (reverse m.0.seen) - tickets_of_all names (reverse m.0.seen) ≡ left = omega arith in
    ap (λ r. min most (min (length names) r)) z ∙ sym d_is

-- ---- the claim of a burst of insertions

module _ {T : Type 0} {size : ℕ} (o : ObjectId) (names : List ℕ) (xs : List T) (d k j left : ℕ) (m after : QueueHolder T) (c : ClaimsOn size o.seats names (take d xs) k j m after) (d_is : d ≡ min (length xs) (min (length names) left)) where
  d_fits : (d ≤ length xs) × (d ≤ length names) × (d ≤ left)
  d_fits = (grind (arith, common_steps, min), grind (arith, common_steps, min), grind (arith, common_steps, min))

  long : length (take d xs) ≡ d
  long = length-take-le d xs d_fits.0

  j_fits : j ≤ d
  j_fits = let most = c.most in omega (arith, most, long)

  first : (i : ℕ) (x : T) → i < j → item_at xs i ≡ Some x → item_at (take d xs) i ≡ Some x
  first i x low e = (let fits = j_fits in item_take xs d i (omega (arith, low, fits))) ∙ e

  -- a name that drew no ticket
  rest_made : (i n : ℕ) → item_at names i ≡ Some n → j ≤ i → MadeBy n (made.OverIn ∷ made.BackIn ∷ []) m after ⊎ MadeBy n [] m after
  rest_made i n e high = elim (le_or_lt (length (take d xs)) i) [ inl far ↦ inr (c.others i n e far) | inr near ↦ inl (c.over i n e high near) ]

  pub claim_tickets : tickets_of_all names (reverse after.0.seen) ≡ tickets_of_all names (reverse m.0.seen) + j
  claim_tickets =
      let ys = take j xs in
      let fits = d_fits in
      let less = j_fits in
      let many : length ys ≡ j = length-take-le j xs (omega (arith, fits, less)) in
      let one = ones ys in
      let grown = grows_by (λ n. tickets_in (marks_of seat_of n (reverse m.0.seen))) (λ n. tickets_in (marks_of seat_of n (reverse after.0.seen))) (λ (y : T). 1) names ys (omega (arith, many, fits, less))
      (λ i n y e at.
      let low : i < j = (let l = item_low ys i y at in omega (arith, l, many)) in
      let it : item_at xs i ≡ Some y = sym (item_take xs j i low) ∙ at in
      tickets_made n (reverse m.0.seen) (reverse after.0.seen) (made.ClaimIn ∷ made.Put y ∷ []) (c.granted i n y e low (first i y low it)))
      (λ i n e high. ⊎_elim
      (λ a. let t = tickets_made n (reverse m.0.seen) (reverse after.0.seen) (made.OverIn ∷ made.BackIn ∷ []) a in omega (arith, t))
      (λ a. let t = tickets_made n (reverse m.0.seen) (reverse after.0.seen) [] a in omega (arith, t))
      (rest_made i n e (omega (arith, high, many)))) in
      omega (arith, grown, one, many)

  pub claim_spent : (left - j) + tickets_of_all names (reverse after.0.seen) ≡ left + tickets_of_all names (reverse m.0.seen)
  claim_spent = let t = claim_tickets in let fits = d_fits in let less = j_fits in omega (arith, t, fits, less)

  pub claims_burst : (s : BundleState) → ClaimsBurst size xs k j (queue_bundle o names left s m) (queue_bundle o names (left - j) (Inserting k 0 j) after)
  claims_burst s = record {
    some = c.some;
    most = let a = asked o names (length xs) d left s m d_is in let less = j_fits in omega (arith, a, less);
    goes_on = goes_on o names left (left - j) s (Inserting k 0 j) m after claim_spent c.begins c.lawful;
    granted = λ i n x e low it. record { makes = c.granted i n x e low (first i x low it); ticket_is = c.ticket i n x e low (first i x low it); put = c.put i x low (first i x low it) };
    over = λ i n e high low. c.over i n e high (let a = asked o names (length xs) d left s m d_is in let l = long in omega (arith, a, l, low));
    others = λ i n e high. c.others i n e (let a = asked o names (length xs) d left s m d_is in let l = long in omega (arith, a, l, high));
    last = λ i n x e last it. c.last i n x e last (first i x (omega (arith, last)) it);
  }

  pub claim_kept : take j (take d xs) ≡ take j xs
  claim_kept = take-take j d xs j_fits

  pub claim_stands : {none : List T} → AllRest names none m → AreInserting names k 0 j (take j xs) after
  claim_stands r = record {
    some = c.some;
    few = c.few;
    stands = subst (λ l. Filling names k 0 0 j l after.0) claim_kept c.stands;
    done = λ i n e out. elim out [
      | inl none ↦ absurd (omega (arith, none))
      | inr high ↦ ⊎_elim
          (λ a. ended_then WithdrawnIn n (reverse m.0.seen) (reverse after.0.seen) (made.OverIn ∷ made.BackIn ∷ []) refl a (r.ended n (item_in names i n e)))
          (λ a. owed_still n (reverse m.0.seen) (reverse after.0.seen) [] (a ∙ append-nil (marks_of seat_of n (reverse m.0.seen))) (r.ended n (item_in names i n e)))
          (rest_made i n e high)
    ];
    waits = λ i n e above below.
        let fits = d_fits in
        let less = j_fits in
        let x = item_there xs i (omega (arith, below, fits, less)) in
        owed_then Inserted n (reverse m.0.seen) (reverse after.0.seen) (made.ClaimIn ∷ made.Put x.0 ∷ []) (made.Fill 0 ∷ made.EndIn ∷ []) refl (c.granted i n x.0 e below (first i x.0 below x.1)) (r.ended n (item_in names i n e));
    drew = λ i n e above below.
        let fits = d_fits in
        let less = j_fits in
        let x = item_there xs i (omega (arith, below, fits, less)) in
        (x.0, c.drew i n x.0 e below (first i x.0 below x.1));
  }

-- ---- filling

module _ {T : Type 0} {size : ℕ} (o : ObjectId) (names : List ℕ) (k lo f granted left : ℕ) (was kept : List T) (m after : QueueHolder T) (c : FilledOn size o.seats names k lo f granted was kept m after) where
  fill_tickets : tickets_of_all names (reverse after.0.seen) ≡ tickets_of_all names (reverse m.0.seen)
  fill_tickets = no_tickets names m after (λ i n e. elim (le_or_lt lo i) [
    | inr low ↦ ap tickets_in (c.marks.outside i n e (inl low))
    | inl above ↦ elim (le_or_lt f i) [
      | inl high ↦ ap tickets_in (c.marks.outside i n e (inr high))
      | inr below ↦ (let t = tickets_made n (reverse m.0.seen) (reverse after.0.seen) (filled_at k i) (c.marks.inside i n e above below) in omega (arith, t))
    ]
  ])

  pub fill_drawn : tickets_of_all names (reverse after.0.seen) ≡ tickets_of_all names (reverse m.0.seen)
  fill_drawn = fill_tickets

  pub fills_burst : LastEnds made.EndIn names lo f after → (s t : BundleState) → FillsBurst size k lo f (queue_bundle o names left s m) (queue_bundle o names left t after)
  fills_burst last s t = record {
    goes_on = goes_on o names left left s t m after (ap (λ z. left + z) fill_tickets) c.marks.begins c.marks.lawful;
    done = c.marks.inside;
    others = λ i n e out. c.marks.outside i n e out ∙ sym (append-nil (marks_of seat_of n (reverse m.0.seen)));
    last = last;
  }

  -- the same of a burst that is said otherwise
  pub fills_so : LastEnds made.EndIn names lo f after → (s t : BundleState) {k' lo' hi : ℕ} → k ≡ k' → lo ≡ lo' → f ≡ hi → FillsBurst size k' lo' hi (queue_bundle o names left s m) (queue_bundle o names left t after)
  fills_so last s t a b e = subst (λ (z : ℕ × ℕ × ℕ). FillsBurst size z.0 z.1 z.2 (queue_bundle o names left s m) (queue_bundle o names left t after)) (λ i. (a i, b i, e i)) (fills_burst last s t)

  module _ (a : AreInserting names k lo granted was m) where
    ended : (i n : ℕ) → item_at names i ≡ Some n → (i < f) ⊎ (granted ≤ i) → lo ≤ f → f ≤ granted → HasEnded n (reverse after.0.seen)
    ended i n e out low high = elim (le_or_lt lo i) [
      | inr less ↦ owed_still n (reverse m.0.seen) (reverse after.0.seen) [] (c.marks.outside i n e (inl less)) (a.done i n e (inl less))
      | inl above ↦ elim (le_or_lt f i) [
        | inr below ↦ ended_now n (reverse m.0.seen) (reverse after.0.seen) (filled_at k i) (c.marks.inside i n e above below) (a.waits i n e above (omega (arith, below, high)))
        | inl far ↦ owed_still n (reverse m.0.seen) (reverse after.0.seen) [] (c.marks.outside i n e (inr far)) (a.done i n e (inr (⊎_elim (λ x. absurd (omega (arith, x, far))) (λ x. x) out)))
      ]
    ]

    pub fill_rests : lo ≤ f → f ≡ granted → AllRest names kept after
    fill_rests low all = record {
      phase = c.rests (omega (arith, all));
      none =
          let many = a.stands.some in
          let e : kept ≡ drop (f - lo) was = c.kept_are in
          e ∙ none_left was (f - lo) (omega (arith, many, all));
      ended = λ n i. let w = number_of names n i in ended w.0 n w.1 (elim (le_or_lt granted w.0) [ inl high ↦ inr high | inr less ↦ inl (omega (arith, less, all)) ]) low (omega (arith, all));
    }
      where
        none_left : {A : Type 0} (l : List A) (n : ℕ) → length l ≤ n → drop n l ≡ []
        none_left [] zero e = refl
        none_left [] (suc n) e = refl
        none_left (x ∷ l) zero e = absurd (omega (arith, e))
        none_left (x ∷ l) (suc n) e = none_left l n (omega (arith, e))

    pub fill_stands : lo ≤ f → f < granted → AreInserting names k f granted kept after
    fill_stands low less = record {
      some = less;
      few = a.few;
      stands = c.stands less;
      done = λ i n e out. ended i n e out low (omega (arith, less));
      waits = λ i n e above below. owed_still n (reverse m.0.seen) (reverse after.0.seen) (made.Fill 0 ∷ made.EndIn ∷ []) (c.marks.outside i n e (inr above)) (a.waits i n e (omega (arith, low, above)) below);
      drew = λ i n e above below.
          let d = a.drew i n e (omega (arith, low, above)) below in
          (d.0, drew_still (reverse m.0.seen) (reverse after.0.seen) n (made.Put d.0) puts (k + i) c.marks.begins (c.marks.outside i n e (inr above)) d.1);
    }

    -- as far as the cells' turns had come
    module _ (t : BundleState) (low : lo ≤ f) (high : f ≤ granted) (all : f ≡ granted → t ≡ Idle) (some : f < granted → t ≡ Inserting k f granted) where
      pub fill_keeps : StandsAs t names kept after
      fill_keeps = elim (le_or_lt granted f) [
        | inl whole ↦ (let e : f ≡ granted = omega (arith, whole, high) in subst (λ s. StandsAs s names kept after) (sym (all e)) (fill_rests low e))
        | inr less ↦ subst (λ s. StandsAs s names kept after) (sym (some less)) (fill_stands low less)
      ]

      pub tries_to_fill : (s : BundleState) {k' lo' granted' : ℕ} → k ≡ k' → lo ≡ lo' → granted ≡ granted' → (f < granted → FoundFull size (k + f) (reverse m.0.seen) (reverse after.0.seen)) → LastEnds made.EndIn names lo f after → TriesToFill size k' lo' granted' (granted - f) (queue_bundle o names left s m) (queue_bundle o names left t after)
      tries_to_fill s x y z found last = subst (λ (v : ℕ × ℕ × ℕ). TriesToFill size v.0 v.1 v.2 (granted - f) (queue_bundle o names left s m) (queue_bundle o names left t after)) (λ i. (x i, y i, z i)) tries
        where
          back : granted - (granted - f) ≡ f
          back = omega (arith, high)

          tries : TriesToFill size k lo granted (granted - f) (queue_bundle o names left s m) (queue_bundle o names left t after)
          tries = record {
            few = omega (arith, low, high);
            fills = fills_so last s t refl refl (sym back);
            all = λ e. all (omega (arith, e, high));
            some = λ e. some (omega (arith, e)) ∙ ap (λ h. Inserting k h granted) (sym back);
            waits = λ e. subst (λ h. FoundFull size (k + h) (reverse m.0.seen) (reverse after.0.seen)) (sym back) (found (omega (arith, e)));
          }

-- ---- a claim, and then all cells

pub inserts_burst : {T : Type 0} {size : ℕ} (xs : List T) (k j : ℕ) (old mid new : BundleInfo (Mark T)) → ClaimsBurst size xs k j old mid → FillsBurst size k 0 j mid new → InsertsBurst size xs k j old new
inserts_burst {T} {size} xs k j old mid new c f =
    let names : mid.names ≡ old.names = ap (λ (b : BundleInfo (Mark T)). b.names) c.goes_on.same_bundle in
    let named : (i n : ℕ) → item_at old.names i ≡ Some n → item_at mid.names i ≡ Some n = (λ i n e. ap (λ l. item_at l i) names ∙ e) in
    let still : (i n : ℕ) → item_at old.names i ≡ Some n → j ≤ i → mine_of seat_of (seat_in new n) ≡ mine_of seat_of (seat_in mid n) = (λ i n e high. f.others i n (named i n e) (inr high) ∙ append-nil (mine_of seat_of (seat_in mid n))) in
    let less = c.most in
    record {
      some = c.some;
      most = c.most;
      goes_on = record {
        same_bundle = f.goes_on.same_bundle ∙ ap (λ (b : BundleInfo (Mark T)). record b { state = new.state; seen = new.seen }) c.goes_on.same_bundle;
        begins = begins_trans old.seen mid.seen new.seen c.goes_on.begins f.goes_on.begins;
        lawful = f.goes_on.lawful;
        named = f.goes_on.named;
      };
      granted = λ i n x e low it.
          let g = c.granted i n x e low it in
          let many : length (mine_of seat_of (seat_in mid n)) ≡ length (mine_of seat_of (seat_in old n)) + 2 = ap length g.makes ∙ length-append (mine_of seat_of (seat_in old n)) (made_by n (made.ClaimIn ∷ made.Put x ∷ [])) in
          record {
            makes = f.done i n (named i n e) (omega arith) low ∙ (ap (λ l. l ++ made_by n (made.Fill (k + i) ∷ made.EndIn ∷ [])) g.makes ∙ append_assoc (mine_of seat_of (seat_in old n)) (made_by n (made.ClaimIn ∷ made.Put x ∷ [])) (made_by n (made.Fill (k + i) ∷ made.EndIn ∷ [])));
            ticket_is = ap (count puts) (before_begins n (length (mine_of seat_of (seat_in old n)) + 1) mid.seen new.seen f.goes_on.begins (omega (arith, many))) ∙ g.ticket_is;
            put = put_more mid.seen new.seen (k + i) x f.goes_on.begins g.put;
          };
      over = λ i n e high low. still i n e high ∙ c.over i n e high low;
      others = λ i n e high. still i n e (omega (arith, less, high)) ∙ c.others i n e high;
      last = λ i n x e last it. f.last i n (named i n e) (omega arith) last;
    }
