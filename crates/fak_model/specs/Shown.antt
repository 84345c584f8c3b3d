-- What is true of a running object between any two atomic steps: it shows a reached core state, and each view knows a
-- part of that state's past.
use Rattle.std.specs.Prelude.{ℕ, ◌+◌, ◌<◌, ◌≤◌, ◌≡◌, List, [], ◌∷◌, ◌++◌, reverse, Some}
use mathlib.Core.Option.{Option, some}
use lib.ListN.{get_elem?}
use Rattle.atomic_table.specs.Table.{State, Me}
use Rattle.fak_model.specs.declared.note.Note.{Note}
use Rattle.fak_model.specs.declared.view.View.{View}
use Rattle.fak_model.specs.Histories.{Rules, IsHistory, AreNamed}
use Rattle.fak_model.specs.Seats.{In, AreApart}
use Rattle.fak_model.specs.Views.{sight, settled, Sees}

-- an object with this many seats: the rules of its histories; its core states S, with the phase P of each seat; and how
-- a table of words, and of slots with contents H, shows such a state and what each seat has noted
pub record Object (M W C P S H : Type 0) : Type 1 where
  pub rules : Rules M W C
  pub seats : ℕ
  -- the tickets drawn and the tickets left are together at most this many
  pub tickets : ℕ
  pub drawn_of : S → ℕ
  -- the marks so far, newest first
  pub past_of : S → List M
  pub IsReached : S → Type 0
  -- the seat of this name is at this phase
  pub StandsAt : S → ℕ → P → Type 0
  pub Encodes : S → (ℕ → List Note) → List ℕ → List (Option H) → Type 0

-- the sum of f over a list
abbrev pub total : {A : Type 0} → (A → ℕ) → List A → ℕ
total f [] = 0
total f (a ∷ l) = f a + total f l

pub record IsShown {M W C P S H : Type 0} (object : Object M W C P S H) (s : State H (View M P)) : Type 0 where
  pub core : S
  -- what each name has noted, newest note first
  pub notes : ℕ → List Note
  pub reached : object.IsReached core
  pub encoded : object.Encodes core notes s.words s.homes
  pub named : AreNamed object.rules object.seats (object.past_of core)
  pub sees : (id : ℕ) (v : View M P) → get_elem? s.views id ≡ some v → Sees object.rules.seat_of v.names v.seen (object.past_of core)
  pub told : (id : ℕ) (v : View M P) → get_elem? s.views id ≡ some v → Sees object.rules.seat_of v.told_names v.told v.seen
  pub below : (id : ℕ) (v : View M P) → get_elem? s.views id ≡ some v → (n : ℕ) → In n v.names → n < object.seats
  pub stands : (id : ℕ) (v : View M P) → get_elem? s.views id ≡ some v → (n : ℕ) → In n v.names → (p : P) → v.phase ≡ Some p → object.StandsAt core n p
  pub once : (id : ℕ) (v : View M P) → get_elem? s.views id ≡ some v → AreApart v.names
  pub apart : (i j : ℕ) (v w : View M P) → get_elem? s.views i ≡ some v → get_elem? s.views j ≡ some w → (n : ℕ) → In n v.names → In n w.names → i ≡ j
  pub noted : (id : ℕ) (v : View M P) → get_elem? s.views id ≡ some v → (n : ℕ) → In n v.names → (l : List Note) → v.noted ≡ Some l → notes n ≡ l
  pub few : object.drawn_of core + total (λ (v : View M P). v.left) s.views ≤ object.tickets

-- a step of a seat: it sees what others did since its last step, and adds these marks, newest first; `tells` states
-- what the word that it found shows of the past before these marks
pub record Leaves {M W C P S H : Type 0} (object : Object M W C P S H) (m : Me H (View M P)) (new : List M) (phase : P) (left : ℕ) (carried : List (ℕ × H)) (tells : List M → Type 0) (after : Me H (View M P)) : Type 0 where
  pub past : List M
  pub sees : Sees object.rules.seat_of m.0.names m.0.seen past
  pub after_is : after ≡ (sight m.0.names m.0.noted (new ++ past) phase left, carried)
  pub lawful : IsHistory object.rules (reverse (new ++ past))
  pub named : AreNamed object.rules object.seats (reverse (new ++ past))
  pub told : tells past

-- for a step that shows nothing of the past
abbrev pub TellsNothing : {M : Type 0} → List M → Type 0
TellsNothing past = Unit {0}

-- a load after a join: it shows that the longer of the joined histories continues the shorter one by marks of others
-- only
pub record Hears {M W C P S H : Type 0} (object : Object M W C P S H) (m after : Me H (View M P)) : Type 0 where
  pub after_is : after ≡ (settled m.0, m.1)
  pub told : Sees object.rules.seat_of m.0.told_names m.0.told m.0.seen
  pub lawful : IsHistory object.rules (reverse m.0.seen)
  pub named : AreNamed object.rules object.seats (reverse m.0.seen)
