-- Semaphores are closed, one after the other.
use Rattle.fak_text.proofs.Common.{ScriptOf, down, Process, FitsScript, StandsAt}
use Rattle.fak_kernel.proofs.Common.{ids_of, ids_of_tallies, ◌≡◌, ℕ, zero, suc, ◌+◌, List, [], ◌∷◌, ◌++◌, length, take, refl, ap, sym, ◌∙◌, subst, arith, append_assoc, slice_get, Some, All, flat_map, append-nil, All-nil, All-cons, All-head, All-tail, All-append, IsWhole, FileMark, entries_after, IsSettled, SemId, SemInfo, SemTallyInfo, seats_of, IsSleeper, IsWholeAt, IsSettledAt, AreClosed, AreClosing, left_at}

module _ {script : ScriptOf} where
  pub closing_first : {os all_os : List SemInfo} {rest tallies : List (SemTallyInfo Process)} {asleep : List Process} → os ≡ all_os → rest ≡ tallies → asleep ≡ [] → ids_of_tallies tallies ≡ ids_of all_os → All IsWholeAt tallies
      → AreClosing script (ids_of os) rest tallies asleep
  closing_first {os} {all_os} {rest} {tallies} {asleep} same rest_is none are whole = record {
    ids_are = ap ids_of_tallies rest_is ∙ (are ∙ sym (ap ids_of same));
    whole = subst (All IsWholeAt) (sym rest_is) whole;
    asleep_are = (λ i. none i ++ flat_map left_at (rest_is i));
    settled = λ all. subst (All IsSettledAt) rest_is all;
    sleepers = subst (All (IsSleeper script)) (sym none) (All-nil (IsSleeper script));
  }

  -- the next tally is that of the next semaphore, and whole
  pub closing_head : {o : SemInfo} {os olds : List SemInfo} {t : SemTallyInfo Process} {ts oldt all : List (SemTallyInfo Process)} {asleep : List Process} → olds ≡ o ∷ os → oldt ≡ t ∷ ts → AreClosing script (ids_of olds) oldt all asleep
      → (t.object ≡ o.object) × IsWhole (seats_of o.object) t.names
  closing_head {o} {os} {olds} {t} {ts} {oldt} os_are ts_are c =
      let ids : ids_of_tallies (t ∷ ts) ≡ ids_of (o ∷ os) = sym (ap ids_of_tallies ts_are) ∙ (c.ids_are ∙ ap ids_of os_are) in
      let same : t.object ≡ o.object = cc in
      let whole : IsWholeAt t = All-head IsWholeAt t ts (subst (All IsWholeAt) ts_are c.whole) in
      (same, subst (λ (i : SemId). IsWhole (seats_of i) t.names) same whole)

  pub closing_next : {o : SemInfo} {os olds : List SemInfo} {t : SemTallyInfo Process} {ts oldt all : List (SemTallyInfo Process)} {asleep more rest : List Process} → olds ≡ o ∷ os → oldt ≡ t ∷ ts → AreClosing script (ids_of olds) oldt all asleep
      → rest ≡ left_at t → IsSettledAt t → All (IsSleeper script) rest → more ≡ asleep ++ rest → AreClosing script (ids_of os) ts all more
  closing_next {o} {os} {olds} {t} {ts} {oldt} {all} {asleep} {more} {rest} os_are ts_are c rest_is settled sleepers more_are =
      let ids : ids_of_tallies (t ∷ ts) ≡ ids_of (o ∷ os) = sym (ap ids_of_tallies ts_are) ∙ (c.ids_are ∙ ap ids_of os_are) in
      let whole : All IsWholeAt (t ∷ ts) = subst (All IsWholeAt) ts_are c.whole in
      let asleep_are : asleep ++ flat_map left_at (t ∷ ts) ≡ flat_map left_at all = subst (λ (l : List (SemTallyInfo Process)). asleep ++ flat_map left_at l ≡ flat_map left_at all) ts_are c.asleep_are in
      let parts : more ++ flat_map left_at ts ≡ asleep ++ flat_map left_at (t ∷ ts) = (λ i. (more_are i) ++ flat_map left_at ts) ∙ ((λ i. (asleep ++ rest_is i) ++ flat_map left_at ts) ∙ append_assoc asleep (left_at t) (flat_map left_at ts)) in
      record {
        ids_are = cc;
        whole = All-tail IsWholeAt t ts whole;
        asleep_are = parts ∙ asleep_are;
        settled = λ others. c.settled (subst (All IsSettledAt) (sym ts_are) (All-cons IsSettledAt t ts settled others));
        sleepers = subst (All (IsSleeper script)) (sym more_are) (All-append (IsSleeper script) asleep rest c.sleepers sleepers);
      }

  closing_end : {ids : List SemId} {rest all : List (SemTallyInfo Process)} {asleep : List Process} → ids ≡ [] → AreClosing script ids rest all asleep → AreClosed script all asleep
  closing_end {rest = []} {asleep = asleep} none c = record { asleep_are = sym (append-nil asleep) ∙ c.asleep_are; settled = c.settled (All-nil IsSettledAt); sleepers = c.sleepers }
  closing_end {rest = t ∷ rest} none c = let clash : ids_of_tallies (t ∷ rest) ≡ [] = c.ids_are ∙ none in absurd (cc)

  pub closing_last : {os : List SemInfo} {rest all : List (SemTallyInfo Process)} {asleep : List Process} → AreClosing script (ids_of os) rest all asleep → os ≡ [] → AreClosed script all asleep
  closing_last {os} c none = closing_end (ap ids_of none) c

-- what a semaphore's close says is said of its tally
pub settled_there : (t : SemTallyInfo Process) {i : SemId} → t.object ≡ i → IsSettled i.start t.credit_seen t.queue_seen → IsSettledAt t
settled_there t same settled = subst (λ (j : SemId). IsSettled j.start t.credit_seen t.queue_seen) (sym same) settled

-- one more entry is read
pub take_more : {A : Type 0} (n : ℕ) (xs : List A) (x : A) → slice_get xs n ≡ Some x → take n xs ++ x ∷ [] ≡ take (n + 1) xs
take_more n [] x is = absurd (cc)
take_more zero (y ∷ xs) x is = let same : y ≡ x = cc in λ i. sym same i ∷ []
take_more (suc n) (y ∷ xs) x is = let up : suc (n + 1) ≡ suc n + 1 = omega arith in ap (λ l. y ∷ l) (take_more n xs x is) ∙ ap (λ k. take k (y ∷ xs)) up

pub take_all : {A : Type 0} (n : ℕ) (xs : List A) → n ≡ length xs → take n xs ≡ xs
take_all zero [] long = refl
take_all zero (x ∷ xs) long = absurd (omega (arith, long))
take_all (suc n) [] long = absurd (omega (arith, long))
take_all (suc n) (x ∷ xs) long = ap (λ l. x ∷ l) (take_all n xs (omega (arith, long)))

-- ---- one more is taken out of a wait queue

pub drained_next : {script : ScriptOf} (before first all : List Process) {x y : Process} {old new after : List Process} → old ≡ x ∷ new → y ≡ x → FitsScript script x → (semaphore : ℕ) × StandsAt script x (down semaphore) → after ≡ before ++ y ∷ []
    → before ++ old ≡ first ++ all → (All (IsSleeper script) old → All (IsSleeper script) all) → (after ++ new ≡ first ++ all) × (All (IsSleeper script) new → All (IsSleeper script) all)
drained_next {script} before first all {x} {y} {old} {new} {after} is same fits stands pushed added sleepers = (
  (λ i. pushed i ++ new) ∙ ((λ i. (before ++ same i ∷ []) ++ new) ∙ (append_assoc before (x ∷ []) new ∙ (ap (λ l. before ++ l) (sym is) ∙ added))),
  λ others. sleepers (subst (All (IsSleeper script)) (sym is) (All-cons (IsSleeper script) x new (record { fits = fits; semaphore = stands.0; stands = stands.1 }) others)),
)

pub length_entries : (h : List FileMark) (first n : ℕ) → length (entries_after h first n) ≡ n
length_entries h first zero = refl
length_entries h first (suc n) = ap suc (length_entries h (suc first) n)
