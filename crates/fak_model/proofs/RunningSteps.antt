-- Whatever the step is, a step of one seat keeps what a running object shows: it is a block of one name.
pub use Rattle.fak_model.proofs.RunningBlocks.{AreLawful, total_at}
use Rattle.fak_model.proofs.Common.{nat_tests, ◌==◌, Bool, true, false, cond, Option, None, some, get_elem?, View, In, sight, AreOwn, Sees, ◌≡◌, ◌≢◌, ◌⊎◌, ℕ, zero, suc, ◌+◌, ◌<◌, ◌≤◌, List, [], ◌∷◌, ◌++◌, set, slice_index, refl, ap, sym, ◌∙◌, subst, arith, inl, ⊎_elim, Some, State, Me, Act, keeps, stepped, homes_after, carried_after}
use Rattle.fak_model.specs.declared.note.Note.{Note}
use Rattle.fak_model.specs.Shown.{Object, IsShown, Leaves}
use Rattle.fak_model.specs.Views.{with_note, noting}
use Rattle.fak_model.proofs.Reversing.{All-reverse}
use Rattle.fak_model.proofs.RunningBlocks.{AreAmong, AddsNotes, BlockAdvances, Some_injective, block_goes, block_steps}

-- a load leaves the words as they are
pub set_found : (ws : List ℕ) (i : ℕ) → set ws i (slice_index ws i) ≡ ws
set_found [] i = refl
set_found (w ∷ ws) zero = refl
set_found (w ∷ ws) (suc i) = ap (λ l. w ∷ l) (set_found ws i)

-- marks of a name are among those of its view
among_own : {M : Type 0} (seat_of : M → ℕ) (names : List ℕ) (n : ℕ) (new : List M) → In n names → AreOwn seat_of n new → AreAmong seat_of names new
among_own seat_of names n [] i own = tt
among_own seat_of names n (m ∷ new) i own = (subst (λ (k : ℕ). In k names) (sym own.0) i, among_own seat_of names n new i own.1)

-- the seat n takes the object from one core state to another, leaves these marks, newest first, and is at this phase
-- afterwards
pub record Advances {M W C P S H : Type 0} (o : Object M W C P S H) (before : S) (n : ℕ) (after : S) (new : List M) (phase : P) : Type 0 where
  pub reached : o.IsReached after
  pub past : o.past_of after ≡ new ++ o.past_of before
  pub own : AreOwn o.rules.seat_of n new
  pub stands : o.StandsAt after n phase
  pub others : (k : ℕ) (p : P) → k ≢ n → o.StandsAt before k p → o.StandsAt after k p

module _ {M W C P S H : Type 0} (o : Object M W C P S H) (s : State H (View M P)) (r : IsShown o s) (id n : ℕ) (m : Me H (View M P)) (at : get_elem? s.views id ≡ some m.0) (one : m.0.names ≡ n ∷ []) where
  pub bears : In n m.0.names
  bears = subst (In n) (sym one) (inl refl)

  only : (k : ℕ) → In k m.0.names → k ≡ n
  only k i = let two : (k ≡ n) ⊎ ⊥ = subst (In k) one i in ⊎_elim (λ e. e) (λ z. absurd z) two

  pub low : n < o.seats
  low = r.below id m.0 at n bears

  pub sees_now : Sees o.rules.seat_of m.0.names m.0.seen (o.past_of r.core)
  sees_now = r.sees id m.0 at

  pub stands_now : (p : P) → m.0.phase ≡ Some p → o.StandsAt r.core n p
  stands_now p e = r.stands id m.0 at n bears p e

  -- the step is a block of one name
  block_of_one : (c : S) (new : List M) (phase : P) → Advances o r.core n c new phase → BlockAdvances o r.core m.0.names c new phase
  block_of_one c new phase step = record {
    reached = step.reached;
    past = step.past;
    own = among_own o.rules.seat_of m.0.names n new bears step.own;
    stands = λ k i. subst (λ (x : ℕ). o.StandsAt c x phase) (sym (only k i)) step.stands;
    others = λ k p out at. step.others k p (λ e. out (subst (λ (x : ℕ). In x m.0.names) (sym e) bears)) at;
  }

  -- a step on a word, with what the word shows
  pub steps : AreLawful o → (c : S) (new : List M) (phase : P) → Advances o r.core n c new phase → (i w : ℕ) (a : Act H) → o.Encodes c r.notes (set s.words i w) (homes_after s.homes m.1 a)
      → (left : ℕ) → o.drawn_of c + left ≤ o.drawn_of r.core + m.0.left → (tells : List M → Type 0) → tells (o.past_of r.core)
      → let v = sight m.0.names m.0.noted (new ++ o.past_of r.core) phase left in
      IsShown o (stepped s i w id m.1 v a) × Leaves o m new phase left (carried_after m.1 a) tells (v, carried_after m.1 a)
  steps law c new phase step i w a encoded left few tells told = block_steps o s r id m at law c new phase (block_of_one c new phase step) i w a encoded left few tells told

  -- a load that leaves no mark: the seat has seen the whole past
  pub stays : (phase : P) → m.0.phase ≡ Some phase → Advances o r.core n r.core [] phase
  stays phase e = record { reached = r.reached; past = refl; own = tt; stands = stands_now phase e; others = λ k p ne at. at }

  pub observes : AreLawful o → (phase : P) → m.0.phase ≡ Some phase → (i : ℕ) (tells : List M → Type 0) → tells (o.past_of r.core)
      → let v = sight m.0.names m.0.noted (o.past_of r.core) phase m.0.left in
      IsShown o (stepped s i (slice_index s.words i) id m.1 v keeps) × Leaves o m [] phase m.0.left m.1 tells (v, m.1)
  observes law phase e i tells told = steps law r.core [] phase (stays phase e) i (slice_index s.words i) keeps (subst (λ (ws : List ℕ). o.Encodes r.core r.notes ws s.homes) (sym (set_found s.words i)) r.encoded) m.0.left (omega arith) tells told

  -- ---- notes

  -- the seat's notes with this one
  abbrev pub notes_with : Note → ℕ → List Note
  notes_with x k = cond (k == n) (x ∷ r.notes n) (r.notes k)

  notes_here : (x : Note) → notes_with x n ≡ x ∷ r.notes n
  notes_here x = let e : (n == n) ≡ true = grind (arith, nat_tests) in ap (λ (b : Bool). cond b (x ∷ r.notes n) (r.notes n)) e

  notes_else : (x : Note) (k : ℕ) → k ≢ n → notes_with x k ≡ r.notes k
  notes_else x k ne = let e : (k == n) ≡ false = grind (arith, nat_tests) in ap (λ (b : Bool). cond b (x ∷ r.notes n) (r.notes k)) e

  noted_more : (x : Note) (known : Option (List Note)) → m.0.noted ≡ known → (l : List Note) → with_note x known ≡ Some l → notes_with x n ≡ l
  noted_more x None is l e = absurd cc
  noted_more x (Some notes) is l e = notes_here x ∙ (ap (λ h. x ∷ h) (r.noted id m.0 at n bears notes is) ∙ Some_injective e)

  adds_note : (x : Note) → AddsNotes m.0.names r.notes (notes_with x) (with_note x m.0.noted)
  adds_note x = record {
    own = λ k i l e. subst (λ (j : ℕ). notes_with x j ≡ l) (sym (only k i)) (noted_more x m.0.noted refl l e);
    others = λ k out. notes_else x k (λ e. out (subst (λ (j : ℕ). In j m.0.names) (sym e) bears));
  }

  -- a step that leaves this note and no mark: the seat has seen the whole past
  pub takes_note : AreLawful o → (x : Note) (phase : P) → m.0.phase ≡ Some phase → (i w : ℕ) → o.Encodes r.core (notes_with x) (set s.words i w) s.homes → (tells : List M → Type 0) → tells (o.past_of r.core)
      → let v = sight m.0.names (with_note x m.0.noted) (o.past_of r.core) phase m.0.left in
      IsShown o (stepped s i w id m.1 v keeps) × Leaves o (noting x m.0, m.1) [] phase m.0.left m.1 tells (v, m.1)
  takes_note law x phase e i w encoded tells told =
      let step = block_of_one r.core [] phase (stays phase e) in
      let v = sight m.0.names (with_note x m.0.noted) (o.past_of r.core) phase m.0.left in
      let t : State H (View M P) = stepped s i w id m.1 v keeps in (
        block_goes o s r id m at r.core [] phase step m.0.left (omega arith) (notes_with x) (with_note x m.0.noted) (adds_note x) t encoded refl,
        record {
          past = o.past_of r.core;
          sees = sees_now;
          after_is = refl;
          lawful = law r.core r.reached;
          named = All-reverse (λ (y : M). o.rules.seat_of y < o.seats) (o.past_of r.core) r.named;
          told = told;
        },
      )
