-- Calls that follow refused ones.
use Rattle.fak_queue.proofs.Common.{Idle, Makes, made_by, seat_of, drawn_by, state_of, Inserts, Deletes, RefusesFull, RefusesClosed, RefusesEmpty, ◌≡◌, ◌⊎◌, ℕ, ◌<◌, arith, List, [], ◌∷◌, ◌++◌, length, length-append, refl, ap, sym, ◌∙◌, subst, inl, inr, append_assoc, All, flat_map, append-nil, All-append, All-push, queue_rules, count, puts, gots, ObjectId, SeatInfo, Appends, mine_of, before_mark, Kind, Mark, appends_then, RefusedInsertion, NotIn, WithdrawnIn, ClosedIn, WithdrawnLate, kinds_not_in, IsFull, IsClosed, RefusedDeletion, NotOut, WithdrawnOut, kinds_not_out, MakesAtLast, before_last, InsertsAfterFull, ClosesAfterFull, DeletesAfterEmpty, common_steps, flat_map-append}

pub made_by_append : {T : Type 0} (name : ℕ) (ks ls : List (Kind T)) → made_by name (ks ++ ls) ≡ made_by name ks ++ made_by name ls
made_by_append name [] ls = refl
made_by_append {T} name (κ ∷ ks) ls = ap (λ (h : List (Mark T)). record { seat = name; kind = κ } ∷ h) (made_by_append name ks ls)

made_by_length : {T : Type 0} (name : ℕ) (ks : List (Kind T)) → length (made_by name ks) ≡ length ks
made_by_length name [] = refl
made_by_length name (κ ∷ ks) = omega (arith, made_by_length name ks)

pub flat_map_push : {A B : Type 0} (f : A → List B) (xs : List A) (x : A) → flat_map f (xs ++ x ∷ []) ≡ flat_map f xs ++ f x
flat_map_push f xs x = flat_map-append f xs (x ∷ []) ∙ ap (λ l. flat_map f xs ++ l) (append-nil (f x))

all_none : {A : Type 0} (P : A → Type 0) → All P []
all_none P k d below = absurd (omega arith)

-- marks of two parts of a call
makes_then : {T : Type 0} {size : ℕ} (ks : List (Kind T)) (κ : Kind T) (ls : List (Kind T)) {old mid new : SeatInfo (Mark T)} → Makes size ks old mid → Makes size (κ ∷ ls) mid new → Makes size (ks ++ κ ∷ ls) old new
makes_then {T} {size} ks κ ls {old} {mid} {new} first second =
    let name = ap (λ (s : SeatInfo (Mark T)). s.name) first.same_seat in
    subst (λ (h : List (Mark T)). Appends (queue_rules size) h old new) (sym (made_by_append old.name ks (κ ∷ ls)))
    (appends_then (queue_rules size) (made_by old.name ks) _ (made_by old.name ls) old mid new first (subst (λ (n : ℕ). Appends (queue_rules size) (made_by n (κ ∷ ls)) mid new) name second))

-- a call leaves at least one mark
pub record Leading {T : Type 0} (kinds : List (Kind T)) : Type 0 where
  pub first : Kind T
  pub later : List (Kind T)
  pub is : kinds ≡ first ∷ later

pub leads : {T : Type 0} (κ : Kind T) (ks : List (Kind T)) → Leading (κ ∷ ks)
leads κ ks = record { first = κ; later = ks; is = refl }

pub leads_in : {T : Type 0} (r : RefusedInsertion) → Leading (kinds_not_in {T = T} r)
leads_in r = grind (arith, common_steps, kinds_not_in, leads)

pub leads_out : {T : Type 0} (r : RefusedDeletion) → Leading (kinds_not_out {T = T} r)
leads_out r = grind (arith, common_steps, kinds_not_out, leads)

leads_front : {T : Type 0} {ks : List (Kind T)} (ls : List (Kind T)) → Leading ks → Leading (ks ++ ls)
leads_front ls l = record { first = l.first; later = l.later ++ ls; is = ap (λ ks. ks ++ ls) l.is }

makes_both : {T : Type 0} {size : ℕ} (ks ls : List (Kind T)) {old mid new : SeatInfo (Mark T)} → Leading ls → Makes size ks old mid → Makes size ls mid new → Makes size (ks ++ ls) old new
makes_both {T} {size} ks ls {old} {mid} {new} l first second = grind (arith, common_steps, makes_then, first)

leads_behind : {T R : Type 0} (kinds_of : R → List (Kind T)) (rs : List R) {ks : List (Kind T)} → Leading ks → Leading (flat_map kinds_of rs ++ ks)
leads_behind kinds_of [] l = l
leads_behind {T} {R} kinds_of (r ∷ rs) {ks} l = by (kinds_of r) (leads_behind kinds_of rs l)
  where
    by : (js : List (Kind T)) → Leading (flat_map kinds_of rs ++ ks) → Leading ((js ++ flat_map kinds_of rs) ++ ks)
    by [] more = more
    by (κ ∷ js) more = leads κ _

module _ {T R : Type 0} (kinds_of : R → List (Kind T)) (Was : R → Type 0) (size : ℕ) where
  -- calls within the stint were refused, each in this way
  pub record HasTried (old now : SeatInfo (Mark T)) : Type 0 where
    pub within : drawn_by old < old.stint
    pub drawn : drawn_by now ≡ drawn_by old
    pub refused : List R
    pub was : All Was refused
    pub some_mark : Leading (flat_map kinds_of refused)
    pub makes : Makes size (flat_map kinds_of refused) old now

  -- nothing was tried yet, or all was refused
  abbrev pub RefusedSoFar : SeatInfo (Mark T) → SeatInfo (Mark T) → Type 0
  RefusedSoFar old now = (now ≡ old) ⊎ HasTried old now

  tried_more : {old mid new : SeatInfo (Mark T)} → HasTried old mid → HasTried mid new → HasTried old new
  tried_more {old} {mid} {new} a b =
      let all = flat_map-append kinds_of a.refused b.refused in
      record {
        within = a.within;
        drawn = b.drawn ∙ a.drawn;
        refused = a.refused ++ b.refused;
        was = All-append Was a.refused b.refused a.was b.was;
        some_mark = subst (λ (ks : List (Kind T)). Leading ks) (sym all) (leads_front (flat_map kinds_of b.refused) a.some_mark);
        makes = subst (λ (ks : List (Kind T)). Makes size ks old new) (sym all) (makes_both (flat_map kinds_of a.refused) (flat_map kinds_of b.refused) b.some_mark a.makes b.makes);
      }

  -- what is before the last call's marks stays so, however many were refused before
  stood_same : {old mid : SeatInfo (Mark T)} (new : SeatInfo (Mark T)) (rs qs : List R) → Makes size (flat_map kinds_of rs) old mid → (number : ℕ) → before_last kinds_of (rs ++ qs) number old new ≡ before_last kinds_of qs number mid new
  stood_same {old} {mid} new rs qs makes number = grind (arith, common_steps, makes, length, mine_of, seat_of, made_by, flat_map, length-append, made_by_length, flat_map-append, before_mark)

  -- a call of these kinds at last, and what was before its marks
  pub record IsAtLast {kinds : List (Kind T)} {mid new : SeatInfo (Mark T)} (old : SeatInfo (Mark T)) (t : MakesAtLast kinds_of size kinds mid new) : Type 0 where
    pub tries : MakesAtLast kinds_of size kinds old new
    pub were : All Was tries.refused
    pub stood : (number : ℕ) → before_last kinds_of tries.refused number old new ≡ before_last kinds_of t.refused number mid new

  module _ {old mid : SeatInfo (Mark T)} (so_far : RefusedSoFar old mid) where
    pub within_so_far : drawn_by mid < mid.stint → drawn_by old < old.stint
    within_so_far left = elim so_far [ inl same ↦ subst (λ (s : SeatInfo (Mark T)). drawn_by s < s.stint) same left | inr b ↦ b.within ]

    pub left_so_far : drawn_by old < old.stint → drawn_by mid < mid.stint
    left_so_far left = grind (arith, common_steps, so_far, drawn_by)

    -- one more was refused
    pub refused_again : {new : SeatInfo (Mark T)} (r : R) → Leading (kinds_of r) → drawn_by mid < mid.stint → drawn_by new ≡ drawn_by mid → Was r → (t : MakesAtLast kinds_of size (kinds_of r) mid new) → All Was t.refused → RefusedSoFar old new
    refused_again {new} r l left drawn is t were =
        let all = flat_map_push kinds_of t.refused r in
        let now : HasTried mid new = record {
          within = left;
          drawn = drawn;
          refused = t.refused ++ r ∷ [];
          was = All-push Was t.refused r were is;
          some_mark = subst (λ (ks : List (Kind T)). Leading ks) (sym all) (leads_behind kinds_of t.refused l);
          makes = subst (λ (ks : List (Kind T)). Makes size ks mid new) (sym all) t.makes;
        } in
        inr (elim so_far [ inl same ↦ subst (λ (s : SeatInfo (Mark T)). HasTried s new) same now | inr b ↦ tried_more b now ])

    pub at_last : {new : SeatInfo (Mark T)} {kinds : List (Kind T)} → Leading kinds → (t : MakesAtLast kinds_of size kinds mid new) → All Was t.refused → IsAtLast old t
    at_last {new} {kinds} l t were = elim so_far [
      | inl same ↦ subst (λ (s : SeatInfo (Mark T)). IsAtLast s t) same record { tries = t; were = were; stood = λ number. refl }
      | inr b ↦ (let all = flat_map-append kinds_of b.refused t.refused in
          let parts = ap (λ l. l ++ kinds) all ∙ append_assoc (flat_map kinds_of b.refused) (flat_map kinds_of t.refused) kinds in
          record {
            tries = record {
              refused = b.refused ++ t.refused;
              makes = subst (λ (ks : List (Kind T)). Makes size ks old new) (sym parts) (makes_both (flat_map kinds_of b.refused) (flat_map kinds_of t.refused ++ kinds) (leads_behind kinds_of t.refused l) b.makes t.makes);
            };
            were = All-append Was b.refused t.refused b.was were;
            stood = λ number. stood_same new b.refused t.refused b.makes number;
          })
    ]

-- a seat of this queue between two tries
pub record IsRetrying {T R : Type 0} (kinds_of : R → List (Kind T)) (Was : R → Type 0) (size : ℕ) (queue : ObjectId) (old now : SeatInfo (Mark T)) : Type 0 where
  pub fits : now.object ≡ queue
  pub same_object : now.object ≡ old.object
  pub idle : state_of now ≡ Idle
  pub so_far : RefusedSoFar kinds_of Was size old now

-- ---- one try

-- a call without refused ones before it
abbrev pub at_once : {T R : Type 0} (kinds_of : R → List (Kind T)) {size : ℕ} {kinds : List (Kind T)} {old new : SeatInfo (Mark T)} → Makes size kinds old new → MakesAtLast kinds_of size kinds old new
at_once kinds_of makes = record { refused = []; makes = makes }

-- a refused try in one of these ways
pub record IsRefused {T R : Type 0} (kinds_of : R → List (Kind T)) (Was : R → Type 0) (size : ℕ) (old new : SeatInfo (Mark T)) : Type 0 where
  pub refusal : R
  pub was : Was refusal
  pub makes : Makes size (kinds_of refusal) old new

pub refused_full : {T : Type 0} {size : ℕ} {upper : _} {old new : SeatInfo (Mark T)} → RefusesFull size upper old new → IsRefused kinds_not_in IsFull size old new
refused_full r = elim r.makes [ inl m ↦ record { refusal = NotIn; was = tt; makes = m } | inr m ↦ record { refusal = WithdrawnIn; was = tt; makes = m } ]

pub refused_closed : {T : Type 0} {size : ℕ} {old new : SeatInfo (Mark T)} → RefusesClosed size old new → IsRefused kinds_not_in IsClosed size old new
refused_closed r = elim r [ inl m ↦ record { refusal = ClosedIn; was = tt; makes = m } | inr m ↦ record { refusal = WithdrawnLate; was = tt; makes = m } ]

pub refused_empty : {T : Type 0} {size : ℕ} {lower : _} {old new : SeatInfo (Mark T)} → RefusesEmpty size lower old new → IsRefused kinds_not_out (λ r. Unit {0}) size old new
refused_empty r = elim r.makes [ inl m ↦ record { refusal = NotOut; was = tt; makes = m } | inr m ↦ record { refusal = WithdrawnOut; was = tt; makes = m } ]

-- ---- what the calls that wait promise

module _ {T : Type 0} {size : ℕ} {old mid new : SeatInfo (Mark T)} where
  pub inserted_after : {k : ℕ} {x : T} → RefusedSoFar kinds_not_in IsFull size old mid → Inserts size k x mid new → InsertsAfterFull size k x old new
  inserted_after so_far i =
      let e = at_last kinds_not_in IsFull size so_far (leads _ _) (at_once kinds_not_in i.makes) (all_none IsFull) in
      record { within = within_so_far kinds_not_in IsFull size so_far i.within; tries = e.tries; full = e.were; ticket = ap (count puts) (e.stood 1) ∙ i.ticket; put = i.put }

  pub closed_after : RefusedSoFar kinds_not_in IsFull size old mid → drawn_by mid < mid.stint → RefusesClosed size mid new → ClosesAfterFull size old new
  closed_after so_far left c =
      let r = refused_closed c in
      let e = at_last kinds_not_in IsFull size so_far (leads_in r.refusal) (at_once kinds_not_in r.makes) (all_none IsFull) in
      record { within = within_so_far kinds_not_in IsFull size so_far left; closed = r.refusal; is_closed = r.was; tries = e.tries; full = e.were }

  pub full_again : {upper : _} → RefusedSoFar kinds_not_in IsFull size old mid → drawn_by mid < mid.stint → drawn_by new ≡ drawn_by mid → RefusesFull size upper mid new → RefusedSoFar kinds_not_in IsFull size old new
  full_again so_far left drawn f =
      let r = refused_full f in
      refused_again kinds_not_in IsFull size so_far r.refusal (leads_in r.refusal) left drawn r.was (at_once kinds_not_in r.makes) (all_none IsFull)

  pub deleted_after : {k : ℕ} {x : T} → RefusedSoFar kinds_not_out (λ r. Unit {0}) size old mid → Deletes size k x mid new → DeletesAfterEmpty size k x old new
  deleted_after so_far d =
      let e = at_last kinds_not_out (λ r. Unit {0}) size so_far (leads _ _) (at_once kinds_not_out d.makes) (all_none (λ r. Unit {0})) in
      record { within = within_so_far kinds_not_out (λ r. Unit {0}) size so_far d.within; tries = e.tries; ticket = ap (count gots) (e.stood 1) ∙ d.ticket; put = d.put }

  pub empty_again : {lower : _} → RefusedSoFar kinds_not_out (λ r. Unit {0}) size old mid → drawn_by mid < mid.stint → drawn_by new ≡ drawn_by mid → RefusesEmpty size lower mid new → RefusedSoFar kinds_not_out (λ r. Unit {0}) size old new
  empty_again so_far left drawn f =
      let r = refused_empty f in
      refused_again kinds_not_out (λ r. Unit {0}) size so_far r.refusal (leads_out r.refusal) left drawn tt (at_once kinds_not_out r.makes) (all_none (λ r. Unit {0}))
