-- The histories of a bounded queue of `size` cells, after Gottlieb, Lubachevsky and Rudolph (TOPLAS 5(2), 1983).
use Rattle.std.specs.Prelude.{◌≡◌, ◌≢◌, ◌⊎◌, ℕ, zero, suc, ◌+◌, List, [], ◌∷◌, ◌++◌, drop, Option, Some, None, ℤ, pos, ◌-ℤ◌, ◌≤ℤ◌, ◌<ℤ◌}
use Rattle.std.specs.List.{All, flat_map}
use Rattle.fak_model.specs.declared.queue.Kind.{Kind}
use Rattle.fak_model.specs.declared.queue.Kind.TheVariants.{ClaimIn, OverIn, BackIn, NoRoom, Put, Fill, EndIn, ClaimOut, OverOut, BackOut, NoItem, Got, Take, EndOut, Close, Closed, LateIn}
use Rattle.fak_model.specs.declared.queue.Mark.{Mark}
use Rattle.fak_model.specs.Histories.{Rules, IsHistory}

-- ---- whole calls

-- a kind without its item or number
abbrev pub Word : Type 0
Word = Kind (Unit {0})

abbrev pub word : {T : Type 0} → Kind T → Word
word ClaimIn = ClaimIn
word OverIn = OverIn
word BackIn = BackIn
word NoRoom = NoRoom
word (Put x) = Put tt
word (Fill k) = Fill 0
word EndIn = EndIn
word ClaimOut = ClaimOut
word OverOut = OverOut
word BackOut = BackOut
word NoItem = NoItem
word (Got x) = Got tt
word (Take k) = Take 0
word EndOut = EndOut
word Close = Close
word Closed = Closed
word LateIn = LateIn

-- a whole call
pub data WholeCall : Type 0 where
  NotIn : WholeCall
  WithdrawnIn : WholeCall
  Inserted : WholeCall
  NotOut : WholeCall
  WithdrawnOut : WholeCall
  Deleted : WholeCall
  Shut : WholeCall
  ClosedIn : WholeCall
  WithdrawnLate : WholeCall

abbrev pub words_of_call : WholeCall → List Word
words_of_call NotIn = NoRoom ∷ []
words_of_call WithdrawnIn = OverIn ∷ BackIn ∷ []
words_of_call Inserted = ClaimIn ∷ Put tt ∷ Fill 0 ∷ EndIn ∷ []
words_of_call NotOut = NoItem ∷ []
words_of_call WithdrawnOut = OverOut ∷ BackOut ∷ []
words_of_call Deleted = ClaimOut ∷ Got tt ∷ Take 0 ∷ EndOut ∷ []
words_of_call Shut = Close ∷ []
words_of_call ClosedIn = Closed ∷ []
words_of_call WithdrawnLate = LateIn ∷ BackIn ∷ []

-- ---- counts

-- the sum over a history's marks of what w counts for each kind
abbrev pub count : {A : Type 0} → (Kind A → ℕ) → List (Mark A) → ℕ
count w [] = 0
count w (m ∷ h) = w m.kind + count w h

abbrev pub puts : {A : Type 0} → Kind A → ℕ
puts (Put x) = 1
puts _ = 0

abbrev pub gots : {A : Type 0} → Kind A → ℕ
gots (Got x) = 1
gots _ = 0

-- the kinds that raise the upper count, and those that lower it
abbrev pub upper_raise : {A : Type 0} → Kind A → ℕ
upper_raise ClaimIn = 1
upper_raise OverIn = 1
upper_raise LateIn = 1
upper_raise _ = 0

abbrev pub upper_drop : {A : Type 0} → Kind A → ℕ
upper_drop BackIn = 1
upper_drop EndOut = 1
upper_drop _ = 0

-- the kinds that raise the lower count, and those that lower it
abbrev pub lower_raise : {A : Type 0} → Kind A → ℕ
lower_raise EndIn = 1
lower_raise BackOut = 1
lower_raise _ = 0

abbrev pub lower_drop : {A : Type 0} → Kind A → ℕ
lower_drop ClaimOut = 1
lower_drop OverOut = 1
lower_drop _ = 0

-- ClaimIn + OverIn + LateIn - BackIn - EndOut
abbrev pub upper_count : {T : Type 0} → List (Mark T) → ℤ
upper_count h = pos (count upper_raise h) -ℤ pos (count upper_drop h)

-- EndIn - ClaimOut - OverOut + BackOut
abbrev pub lower_count : {T : Type 0} → List (Mark T) → ℤ
lower_count h = pos (count lower_raise h) -ℤ pos (count lower_drop h)

-- ---- fair outcomes

-- a mark of this kind is in the history
abbrev pub Has : {A : Type 0} → Kind A → List (Mark A) → Type 0
Has κ [] = ⊥
Has κ (m ∷ h) = (m.kind ≡ κ) ⊎ Has κ h

abbrev pub IsFairAnswer : {T : Type 0} → ℕ → List (Mark T) → Kind T → Type 0
IsFairAnswer size before NoRoom = (pos size ≤ℤ upper_count before) × (Has Close before → ⊥)
IsFairAnswer size before OverIn = (pos size ≤ℤ upper_count before) × (Has Close before → ⊥)
IsFairAnswer size before ClaimIn = (upper_count before <ℤ pos size) × (Has Close before → ⊥)
IsFairAnswer size before Closed = Has Close before
IsFairAnswer size before LateIn = Has Close before
IsFairAnswer size before NoItem = lower_count before ≤ℤ pos 0
IsFairAnswer size before OverOut = lower_count before ≤ℤ pos 0
IsFairAnswer size before ClaimOut = pos 1 ≤ℤ lower_count before
IsFairAnswer size before _ = Unit {0}

-- ---- first in, first out

abbrev pub item_in : {T : Type 0} → Mark T → List T
item_in m = put_in m.kind
  where
    put_in : {T : Type 0} → Kind T → List T
    put_in (Put x) = x ∷ []
    put_in _ = []

-- the items of the Puts, in order
abbrev pub items_put : {T : Type 0} → List (Mark T) → List T
items_put h = flat_map item_in h

-- the item at place j, counted from 0
abbrev pub item_at : {T : Type 0} → List T → ℕ → Option T
item_at [] j = None
item_at (x ∷ xs) zero = Some x
item_at (x ∷ xs) (suc j) = item_at xs j

-- the j-th Got has the item of the j-th Put, which comes before it
abbrev pub IsFirstOut : {T : Type 0} → List (Mark T) → Kind T → Type 0
IsFirstOut before (Got x) = item_at (items_put before) (count gots before) ≡ Some x
IsFirstOut before _ = Unit {0}

-- ---- cells

-- the seat's last mark is this draw, and this many such draws come before it
pub record Drew {T : Type 0} (before : List (Mark T)) (seat : ℕ) (draw : Kind T) (draws : Kind T → ℕ) (ticket : ℕ) : Type 0 where
  pub earlier : List (Mark T)
  pub m : Mark T
  pub later : List (Mark T)
  pub stands : earlier ++ m ∷ later ≡ before
  pub his : m.seat ≡ seat
  pub is : m.kind ≡ draw
  pub last : All (λ (n : Mark T). n.seat ≢ seat) later
  pub number : ticket ≡ count draws earlier

-- the number of a Fill or Take is its call's ticket
abbrev pub BearsTicket : {T : Type 0} → List (Mark T) → ℕ → Kind T → Type 0
BearsTicket {T} before seat (Fill k) = (x : T) × Drew before seat (Put x) puts k
BearsTicket {T} before seat (Take k) = (x : T) × Drew before seat (Got x) gots k
BearsTicket before seat _ = Unit {0}

-- Fill k comes after Take (k - size) if k >= size, and Take k comes after Fill k
abbrev pub HasItsCell : {T : Type 0} → ℕ → List (Mark T) → Kind T → Type 0
HasItsCell size before (Fill k) = (j : ℕ) → k ≡ j + size → Has (Take j) before
HasItsCell size before (Take k) = Has (Fill k) before
HasItsCell size before _ = Unit {0}

-- ---- legal histories

pub record IsFairMark {T : Type 0} (size : ℕ) (before : List (Mark T)) (m : Mark T) : Type 0 where
  pub answer : IsFairAnswer size before m.kind
  pub first_out : IsFirstOut before m.kind
  pub ticket : BearsTicket before m.seat m.kind
  pub cell : HasItsCell size before m.kind

abbrev pub queue_rules : {T : Type 0} → ℕ → Rules (Mark T) Word WholeCall
queue_rules {T} size = record {
  seat_of = λ (m : Mark T). m.seat;
  word_of = λ (m : Mark T). word m.kind;
  words_of = words_of_call;
  IsFair = IsFairMark size;
}

abbrev pub IsQueueHistory : {T : Type 0} → ℕ → List (Mark T) → Type 0
IsQueueHistory size h = IsHistory (queue_rules size) h

-- the items put, without the first n, where n is the number of Gots
abbrev pub contents : {T : Type 0} → List (Mark T) → List T
contents h = drop (count gots h) (items_put h)
