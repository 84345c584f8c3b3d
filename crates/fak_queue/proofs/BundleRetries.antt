-- Bursts that are tried again.
use Rattle.fak_queue.specs.declared.bundle.BundleState.TheVariants.{Idle}
use Rattle.fak_queue.specs.declared.fault.BurstFault.TheVariants.{Closed, Full}
use Rattle.fak_queue.specs.declared.fault.DeleteFault.TheVariants.{Empty}
use Rattle.fak_queue.specs.BundleCalls.{BundleInfo, drawn_by_all}
use Rattle.fak_queue.specs.BurstCalls.{AllEmpty, AllFull, DeletesBurst, DeletesBurstAfterEmpty, GetsInto, GoesOn, InsertsBurst, InsertsBurstAfterFull, IsWornBundle, PutsFrom, RefusesBurst, RefusesBurstOut, RefusesWaitingBurst, none_empty, none_full, one_more_empty, one_more_full}
use Rattle.fak_queue.proofs.Common.{ObjectId, Mark, ◌≡◌, ◌⊎◌, ⊎_elim, ℕ, ℤ, ◌<◌, List, length, refl, ap, ◌∙◌, subst, inl, inr, arith}

pub puts_then : {T : Type 0} (xs ys zs : List T) (a b c : BundleInfo (Mark T)) → PutsFrom xs ys a b → PutsFrom ys zs b c → PutsFrom xs zs a c
puts_then xs ys zs a b c p q = record {
  put_is = λ w. (let f = p.put_is w in let g = q.put_is w in omega (arith, f, g));
  got_is = λ w. q.got_is w ∙ p.got_is w;
}

pub gets_then : {T : Type 0} (xs ys zs : List T) (a b c : BundleInfo (Mark T)) → GetsInto xs ys a b → GetsInto ys zs b c → GetsInto xs zs a c
gets_then xs ys zs a b c p q = record {
  put_is = λ w. q.put_is w ∙ p.put_is w;
  got_is = λ w. (let f = p.got_is w in let g = q.got_is w in omega (arith, f, g));
}

-- a bundle as it was, or with tickets left
abbrev pub HasNotBegun : {T : Type 0} → BundleInfo (Mark T) → BundleInfo (Mark T) → Type 0
HasNotBegun old then = (then ≡ old) ⊎ (drawn_by_all then < then.stint)

pub worn_now : {T : Type 0} (old then new : BundleInfo (Mark T)) → HasNotBegun old then → IsWornBundle then new → IsWornBundle old new
worn_now old then new so worn = elim so [
  | inl same ↦ subst (λ b. IsWornBundle b new) same worn
  | inr low ↦ (let spent = worn.spent in absurd (omega (arith, low, spent)))
]

not_begun : {T : Type 0} {size : ℕ} (old then new : BundleInfo (Mark T)) → drawn_by_all then < then.stint → drawn_by_all new ≡ drawn_by_all then → GoesOn size then new → HasNotBegun old new
not_begun {T} old then new low drawn goes =
    let stint : new.stint ≡ then.stint = ap (λ (b : BundleInfo (Mark T)). b.stint) goes.same_bundle in
    inr (omega (arith, low, drawn, stint))

-- ---- insertions

-- so far each try was refused Full, and all items stay
pub record IsRetryingBurst {T : Type 0} (size : ℕ) (object : ObjectId) (xs now : List T) (old then : BundleInfo (Mark T)) : Type 0 where
  pub fits : then.object ≡ object
  pub same : then.object ≡ old.object
  pub idle : then.state ≡ Idle
  pub items : now ≡ xs
  pub full : AllFull size (length xs) old then
  pub drawn : drawn_by_all then ≡ drawn_by_all old
  pub begun : HasNotBegun old then
  pub sums : PutsFrom xs now old then

pub first_try : {T : Type 0} (size : ℕ) (object : ObjectId) (xs : List T) (old : BundleInfo (Mark T)) → old.object ≡ object → old.state ≡ Idle → IsRetryingBurst size object xs xs old old
first_try size object xs old fits idle = record {
  fits = fits;
  same = refl;
  idle = idle;
  items = refl;
  full = none_full;
  drawn = refl;
  begun = inl refl;
  sums = record { put_is = λ w. refl; got_is = λ w. refl };
}

module _ {T : Type 0} (size : ℕ) (object : ObjectId) (xs now : List T) (old then new : BundleInfo (Mark T)) (r : IsRetryingBurst size object xs now old then) where
  pub full_again : (u : ℤ) (after : List T) → RefusesBurst size (length now) then new (Full u) → new.object ≡ then.object → new.state ≡ Idle → drawn_by_all new ≡ drawn_by_all then → after ≡ now → PutsFrom now after then new → IsRetryingBurst size object xs after old new
  full_again u after refused stays idle drawn same sums = record {
    fits = stays ∙ r.fits;
    same = stays ∙ r.same;
    idle = idle;
    items = same ∙ r.items;
    full = one_more_full u r.full (subst (λ l. RefusesBurst size (length l) then new (Full u)) r.items refused);
    drawn = drawn ∙ r.drawn;
    begun = not_begun {size = size} old then new refused.0 drawn (⊎_elim (λ e. e.goes_on) (λ e. e.goes_on) refused.1.makes);
    sums = puts_then xs now after old then new r.sums sums;
  }

  pub inserts_after : (k j : ℕ) → InsertsBurst size now k j then new → InsertsBurstAfterFull size xs k j old new
  inserts_after k j i = record { then = then; full = r.full; inserts = subst (λ l. InsertsBurst size l k j then new) r.items i }

  pub closed_after : RefusesBurst size (length now) then new Closed → RefusesWaitingBurst size (length xs) old new Closed
  closed_after c = (then, r.full, subst (λ l. RefusesBurst size (length l) then new Closed) r.items c)

-- ---- deletions

-- so far each try was refused Empty, and no item came out
pub record IsRetryingBurstOut {T : Type 0} (size most : ℕ) (object : ObjectId) (xs now : List T) (old then : BundleInfo (Mark T)) : Type 0 where
  pub fits : then.object ≡ object
  pub same : then.object ≡ old.object
  pub idle : then.state ≡ Idle
  pub items : now ≡ xs
  pub empty : AllEmpty size most old then
  pub drawn : drawn_by_all then ≡ drawn_by_all old
  pub begun : HasNotBegun old then
  pub sums : GetsInto xs now old then

pub first_try_out : {T : Type 0} (size most : ℕ) (object : ObjectId) (xs : List T) (old : BundleInfo (Mark T)) → old.object ≡ object → old.state ≡ Idle → IsRetryingBurstOut size most object xs xs old old
first_try_out size most object xs old fits idle = record {
  fits = fits;
  same = refl;
  idle = idle;
  items = refl;
  empty = none_empty;
  drawn = refl;
  begun = inl refl;
  sums = record { put_is = λ w. refl; got_is = λ w. refl };
}

module _ {T : Type 0} (size most : ℕ) (object : ObjectId) (xs now : List T) (old then new : BundleInfo (Mark T)) (r : IsRetryingBurstOut size most object xs now old then) where
  pub empty_again : (l : ℤ) (after : List T) → RefusesBurstOut size most then new (Empty l) → new.object ≡ then.object → new.state ≡ Idle → drawn_by_all new ≡ drawn_by_all then → after ≡ now → GetsInto now after then new → IsRetryingBurstOut size most object xs after old new
  empty_again l after refused stays idle drawn same sums = record {
    fits = stays ∙ r.fits;
    same = stays ∙ r.same;
    idle = idle;
    items = same ∙ r.items;
    empty = one_more_empty l r.empty refused;
    drawn = drawn ∙ r.drawn;
    begun = not_begun {size = size} old then new refused.0 drawn (⊎_elim (λ e. e.goes_on) (λ e. e.goes_on) refused.1.makes);
    sums = gets_then xs now after old then new r.sums sums;
  }

  pub deletes_after : (k : ℕ) (ys : List T) → DeletesBurst size most ys k then new → DeletesBurstAfterEmpty size most ys k old new
  deletes_after k ys d = record { then = then; empty = r.empty; deletes = d }
