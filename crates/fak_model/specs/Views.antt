-- What the views of a running object know, and how they are split and joined. Pasts have the newest mark first.
use Rattle.std.specs.Prelude.{ℕ, zero, suc, ◌+◌, ◌-◌, ◌/◌, ◌≡◌, List, [], ◌∷◌, ◌++◌, cond, length, nat_lt, Option, Some, None}
use Rattle.fak_model.specs.declared.note.Note.{Note}
use Rattle.fak_model.specs.declared.view.View.{View}
use Rattle.fak_model.specs.Seats.{In, longer_of}

-- a view without the results of a join
abbrev pub sight : {M P : Type 0} → List ℕ → Option (List Note) → List M → P → ℕ → View M P
sight names noted seen phase left = record { names = names; seen = seen; phase = Some phase; left = left; told = []; told_names = []; noted = noted }

-- one note more, if the notes are known
abbrev pub with_note : Note → Option (List Note) → Option (List Note)
with_note x None = None
with_note x (Some notes) = Some (x ∷ notes)

-- the same view with this note
abbrev pub noting : {M P : Type 0} → Note → View M P → View M P
noting x v = record { names = v.names; seen = v.seen; phase = v.phase; left = v.left; told = v.told; told_names = v.told_names; noted = with_note x v.noted }

-- the view is that of one seat
abbrev pub HasOneName : {M P : Type 0} → View M P → Type 0
HasOneName v = (name : ℕ) × (v.names ≡ name ∷ [])

-- none of the marks belongs to one of these names
abbrev pub Foreign : {M : Type 0} → (M → ℕ) → List ℕ → List M → Type 0
Foreign seat_of names [] = Unit {0}
Foreign seat_of names (m ∷ h) = (In (seat_of m) names → ⊥) × Foreign seat_of names h

-- all marks belong to this name
abbrev pub AreOwn : {M : Type 0} → (M → ℕ) → ℕ → List M → Type 0
AreOwn seat_of name [] = Unit {0}
AreOwn seat_of name (m ∷ h) = (seat_of m ≡ name) × AreOwn seat_of name h

-- the past is what these names have seen, followed by marks of others only
pub record Sees {M : Type 0} (seat_of : M → ℕ) (names : List ℕ) (seen past : List M) : Type 0 where
  pub between : List M
  pub is : past ≡ between ++ seen
  pub foreign : Foreign seat_of names between

-- the n names from a on
abbrev pub names_from : ℕ → ℕ → List ℕ
names_from a zero = []
names_from a (suc n) = a ∷ names_from (suc a) n

-- the view at the opening has all names, of which none has noted anything
abbrev pub opened : {M P : Type 0} → P → ℕ → ℕ → View M P
opened resting seats left = sight (names_from 0 seats) (Some []) [] resting left

abbrev pub first_name : List ℕ → List ℕ
first_name [] = []
first_name (n ∷ names) = n ∷ []

abbrev pub later_names : List ℕ → List ℕ
later_names [] = []
later_names (n ∷ names) = names

-- the tickets of one name, if all names have the same number
abbrev pub share_of : {M P : Type 0} → View M P → ℕ
share_of v = v.left / length v.names

-- a split hands out a view of the first name, with its tickets
abbrev pub dealt : {M P : Type 0} → View M P → View M P
dealt v = record { names = first_name v.names; seen = v.seen; phase = v.phase; left = share_of v; told = []; told_names = []; noted = v.noted }

-- it keeps a view of the other names
abbrev pub kept : {M P : Type 0} → View M P → View M P
kept v = record { names = later_names v.names; seen = v.seen; phase = v.phase; left = v.left - share_of v; told = []; told_names = []; noted = v.noted }

-- the shorter of two prefixes of one history, and the names of its view
abbrev pub shorter_of : {M : Type 0} → List M → List M → List M
shorter_of s t = cond (nat_lt (length s) (length t)) s t

abbrev pub shorter_names : {M P : Type 0} → View M P → View M P → List ℕ
shorter_names v w = cond (nat_lt (length v.seen) (length w.seen)) v.names w.names

-- a join keeps the names and the tickets of both views, and the two histories that it compared. It forgets their notes
abbrev pub joined : {M P : Type 0} → View M P → View M P → View M P
joined v w = record {
  names = v.names ++ w.names;
  seen = longer_of v.seen w.seen;
  phase = v.phase;
  left = v.left + w.left;
  told = shorter_of v.seen w.seen;
  told_names = shorter_names v w;
  noted = None;
}

-- what remains of the second view of a join
abbrev pub spent : {M P : Type 0} → View M P
spent = record { names = []; seen = []; phase = None; left = 0; told = []; told_names = []; noted = None }

-- the same view without what its last join compared: a load has used it
abbrev pub settled : {M P : Type 0} → View M P → View M P
settled v = record { names = v.names; seen = v.seen; phase = v.phase; left = v.left; told = []; told_names = []; noted = v.noted }
