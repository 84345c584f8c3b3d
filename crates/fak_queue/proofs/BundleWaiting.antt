-- A bundle that tries again until all its cells are done.
use Rattle.std.specs.Prelude.{zero, suc, drop}
use Rattle.fak_model.specs.declared.queue.Kind.{Kind}
use Rattle.fak_model.specs.Queue.{item_at}
use Rattle.fak_model.specs.Seats.{Begins}
use Rattle.fak_queue.specs.Bundles.{FoundEmpty, FoundFull, IsLawful, MadeFrom, Filling, FilledOn, Emptying, EmptiedOn, filled_at, taken_at}
use Rattle.fak_queue.proofs.BurstNames.{begins_trans}
use Rattle.fak_queue.proofs.BundleLists.{made_none, put_more}
use Rattle.fak_queue.proofs.Common.{Fill, Has, Mark, QueueHolder, Take, made_by, ◌≡◌, ℕ, ◌+◌, ◌-◌, ◌<◌, ◌≤◌, List, [], ◌∷◌, ◌++◌, length, reverse, refl, sym, ap, ◌∙◌, inl, inr, arith, le_or_lt}

made_then : {T : Type 0} {size seats : ℕ} (names : List ℕ) (lo f h : ℕ) (kinds_at : ℕ → List (Kind T)) (m a b : QueueHolder T) → lo ≤ f → f ≤ h → MadeFrom size seats names lo f kinds_at m a → MadeFrom size seats names f h kinds_at a b → MadeFrom size seats names lo h kinds_at m b
made_then names lo f h kinds_at m a b below above x y = record {
  names_are = y.names_are ∙ x.names_are;
  left = y.left ∙ x.left;
  begins = begins_trans (reverse m.0.seen) (reverse a.0.seen) (reverse b.0.seen) x.begins y.begins;
  inside = λ i n e low high. elim (le_or_lt f i) [
    | inl late ↦ y.inside i n e late high ∙ ap (λ l. l ++ made_by n (kinds_at i)) (x.outside i n e (inr late))
    | inr early ↦ y.outside i n e (inl early) ∙ x.inside i n e low early
  ];
  outside = λ i n e o. elim o [
    | inl low ↦ y.outside i n e (inl (omega (arith, low, below))) ∙ x.outside i n e (inl low)
    | inr high ↦ y.outside i n e (inr high) ∙ x.outside i n e (inr (omega (arith, high, above)))
  ];
  lawful = y.lawful;
}

drop_none : (A : Type 0) (n : ℕ) → drop n (let l : List A = [] in l) ≡ []
drop_none A zero = refl
drop_none A (suc n) = refl

pub drop_more : {A : Type 0} (l : List A) (a b : ℕ) → drop b (drop a l) ≡ drop (a + b) l
drop_more l zero b = let z : b ≡ 0 + b = omega arith in ap (λ n. drop n l) z
drop_more {A} [] (suc a) b = drop_none A b ∙ sym (drop_none A (suc a + b))
drop_more (x ∷ l) (suc a) b = let z : suc (a + b) ≡ suc a + b = omega arith in drop_more l a b ∙ ap (λ n. drop n (x ∷ l)) z

-- ---- looks

pub found_full : {T : Type 0} {size ticket : ℕ} (before look then : List (Mark T)) → Begins before look → Begins look then → (earlier : ℕ) × (ticket ≡ earlier + size) × (Has (Take earlier) look → ⊥) → FoundFull size ticket before then
found_full before look then a b early = record { earlier = early.0; round = early.1; look = look; after_before = a; by_then = b; untaken = early.2 }

pub found_empty : {T : Type 0} {ticket : ℕ} (before look then : List (Mark T)) → Begins before look → Begins look then → (Has (Fill ticket) look → ⊥) → FoundEmpty ticket before then
found_empty before look then a b early = record { look = look; after_before = a; by_then = b; unfilled = early }

-- ---- insertions

pub filled_start : {T : Type 0} {size seats : ℕ} (names : List ℕ) (k lo granted : ℕ) (kept : List T) (m : QueueHolder T) → IsLawful size seats m.0 → Filling names k lo lo granted kept m.0 → m.1 ≡ [] → lo < granted → FilledOn size seats names k lo lo granted kept kept m m
filled_start names k lo granted kept m law stands slots some = record {
  marks = made_none names lo (filled_at k) m law;
  stands = λ less. stands;
  rests = λ done. absurd (omega (arith, done, some));
  slots = slots;
  kept_are = let z : 0 ≡ lo - lo = omega arith in ap (λ d. drop d kept) z;
}

pub filled_then : {T : Type 0} {size seats : ℕ} (names : List ℕ) (k lo f h granted : ℕ) (was mid kept : List T) (m a b : QueueHolder T) → lo ≤ f → f ≤ h → FilledOn size seats names k lo f granted was mid m a → FilledOn size seats names k f h granted mid kept a b → FilledOn size seats names k lo h granted was kept m b
filled_then names k lo f h granted was mid kept m a b below above x y = record {
  marks = made_then names lo f h (filled_at k) m a b below above x.marks y.marks;
  stands = y.stands;
  rests = y.rests;
  slots = y.slots;
  kept_are =
      let d : (f - lo) + (h - f) ≡ h - lo = omega (arith, below, above) in
      y.kept_are ∙ (ap (λ l. drop (h - f) l) x.kept_are ∙ (drop_more was (f - lo) (h - f) ∙ ap (λ n. drop n was) d));
}

-- ---- deletions

pub emptied_start : {T : Type 0} {size seats : ℕ} (names : List ℕ) (k lo granted : ℕ) (was : List T) (m : QueueHolder T) → IsLawful size seats m.0 → Emptying names k lo lo granted m.0 → m.1 ≡ [] → lo < granted → EmptiedOn size seats names k lo lo granted was was m m
emptied_start names k lo granted was m law stands slots some = record {
  marks = made_none names lo (taken_at k) m law;
  stands = λ less. stands;
  rests = λ done. absurd (omega (arith, done, some));
  slots = slots;
  many = omega arith;
  same = λ i low. refl;
  put = λ i x above below e. absurd (omega (arith, above, below));
}

pub emptied_then : {T : Type 0} {size seats : ℕ} (names : List ℕ) (k lo f h granted : ℕ) (was mid got : List T) (m a b : QueueHolder T) → lo ≤ f → f ≤ h → EmptiedOn size seats names k lo f granted was mid m a → EmptiedOn size seats names k f h granted mid got a b → EmptiedOn size seats names k lo h granted was got m b
emptied_then names k lo f h granted was mid got m a b below above x y =
    let xm = x.many in
    let ym = y.many in
    record {
      marks = made_then names lo f h (taken_at k) m a b below above x.marks y.marks;
      stands = y.stands;
      rests = y.rests;
      slots = y.slots;
      many = omega (arith, xm, ym, below, above);
      same = λ i low. y.same i (omega (arith, low, xm)) ∙ x.same i low;
      put = λ i v low high e. elim (le_or_lt f i) [
        | inl late ↦ (
            let z : length was + (i - lo) ≡ length mid + (i - f) = omega (arith, xm, late, below) in
            y.put i v late high (sym (ap (item_at got) z) ∙ e))
        | inr early ↦ (
            let less : length was + (i - lo) < length mid = omega (arith, xm, early, low) in
            put_more (reverse a.0.seen) (reverse b.0.seen) (k + i) v y.marks.begins (x.put i v low early (sym (y.same (length was + (i - lo)) less) ∙ e)))
      ];
    }
