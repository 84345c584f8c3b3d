-- The histories of a queue, mark by mark. A past is a history with the newest mark first: what came before a mark is
-- the tail of the list.
use Rattle.std.specs.Prelude.{◌≡◌, ℕ, ◌+◌, ◌<◌, ◌≤◌, ◌==◌, cond, List, [], ◌∷◌, Option, Some, None, reverse}
use Rattle.fak_model.specs.declared.queue.Kind.{Kind}
use Rattle.fak_model.specs.declared.queue.Kind.TheVariants.{ClaimIn, OverIn, BackIn, NoRoom, Put, Fill, EndIn, ClaimOut, OverOut, BackOut, NoItem, Got, Take, EndOut, Close, Closed, LateIn}
use Rattle.fak_model.specs.declared.queue.Mark.{Mark}
use Rattle.fak_model.specs.declared.queue.Stage.{Stage}
use Rattle.fak_model.specs.declared.queue.Stage.TheVariants.{Idle, Withdrawing, Claimed, Putting, Filled, WithdrawingOut, ClaimedOut, Getting, Taken}
use Rattle.fak_model.specs.Queue.{count, puts, gots, upper_raise, upper_drop, lower_raise, lower_drop, Has}

-- the upper count is below n, or at least n; the lower count is at least 1, or less
abbrev pub UpperBelow : {A : Type 0} → ℕ → List (Mark A) → Type 0
UpperBelow n h = count upper_raise h < n + count upper_drop h

abbrev pub UpperAtLeast : {A : Type 0} → ℕ → List (Mark A) → Type 0
UpperAtLeast n h = n + count upper_drop h ≤ count upper_raise h

abbrev pub LowerPositive : {A : Type 0} → List (Mark A) → Type 0
LowerPositive h = count lower_drop h < count lower_raise h

abbrev pub LowerNotPositive : {A : Type 0} → List (Mark A) → Type 0
LowerNotPositive h = count lower_raise h ≤ count lower_drop h

-- the stage of a seat right after its mark of this kind; a ticket is the number of earlier draws
abbrev pub after : {A : Type 0} → List (Mark A) → Kind A → Stage A
after h ClaimIn = Claimed
after h OverIn = Withdrawing
after h LateIn = Withdrawing
after h (Put x) = Putting (count puts h) x
after h (Fill k) = Filled k
after h ClaimOut = ClaimedOut
after h OverOut = WithdrawingOut
after h (Got x) = Getting (count gots h)
after h (Take k) = Taken k
after h _ = Idle

abbrev pub stage : {A : Type 0} → List (Mark A) → ℕ → Stage A
stage [] s = Idle
stage (m ∷ h) s = cond (s == m.seat) (after h m.kind) (stage h s)

-- the item of a Put that has exactly k Puts before it
abbrev pub item_put : {A : Type 0} → ℕ → ℕ → Kind A → Option A → Option A
item_put k n (Put x) r = cond (k == n) (Some x) r
item_put k n _ r = r

abbrev pub item_of : {A : Type 0} → List (Mark A) → ℕ → Option A
item_of [] k = None
item_of (m ∷ h) k = item_put k (count puts h) m.kind (item_of h k)

-- a seat at this stage may make a mark of this kind next: the next one of its call, with the call's ticket, or the
-- first one of a call if none is open
abbrev pub IsNext : {A : Type 0} → Stage A → Kind A → Type 0
IsNext t NoRoom = t ≡ Idle
IsNext t OverIn = t ≡ Idle
IsNext t ClaimIn = t ≡ Idle
IsNext t BackIn = t ≡ Withdrawing
IsNext t (Put x) = t ≡ Claimed
IsNext {A} t (Fill k) = (x : A) × (t ≡ Putting k x)
IsNext t EndIn = (k : ℕ) × (t ≡ Filled k)
IsNext t NoItem = t ≡ Idle
IsNext t OverOut = t ≡ Idle
IsNext t ClaimOut = t ≡ Idle
IsNext t BackOut = t ≡ WithdrawingOut
IsNext t (Got x) = t ≡ ClaimedOut
IsNext t (Take k) = t ≡ Getting k
IsNext t Close = t ≡ Idle
IsNext t Closed = t ≡ Idle
IsNext t LateIn = t ≡ Idle
IsNext t EndOut = (k : ℕ) × (t ≡ Taken k)

-- a claim is granted exactly if the count leaves room, or an item; an insertion is late exactly if the queue is shut
abbrev pub IsFair : {A : Type 0} → ℕ → List (Mark A) → Kind A → Type 0
IsFair size h NoRoom = UpperAtLeast size h × (Has Close h → ⊥)
IsFair size h OverIn = UpperAtLeast size h × (Has Close h → ⊥)
IsFair size h ClaimIn = UpperBelow size h × (Has Close h → ⊥)
IsFair size h Closed = Has Close h
IsFair size h LateIn = Has Close h
IsFair size h NoItem = LowerNotPositive h
IsFair size h OverOut = LowerNotPositive h
IsFair size h ClaimOut = LowerPositive h
IsFair size h _ = Unit {0}

-- the j-th Got has the item of the j-th Put, which comes before it
abbrev pub IsOldest : {A : Type 0} → List (Mark A) → Kind A → Type 0
IsOldest h (Got x) = item_of h (count gots h) ≡ Some x
IsOldest h _ = Unit {0}

-- a cell is filled only after it was taken from in the round before, and taken from only after it was filled
abbrev pub HasCell : {A : Type 0} → ℕ → List (Mark A) → Kind A → Type 0
HasCell size h (Fill k) = (j : ℕ) → k ≡ j + size → Has (Take j) h
HasCell size h (Take k) = Has (Fill k) h
HasCell size h _ = Unit {0}

-- a mark of this seat and kind may come next after this past, in a queue of this size
pub record MayFollow {A : Type 0} (size : ℕ) (h : List (Mark A)) (s : ℕ) (κ : Kind A) : Type 0 where
  pub next : IsNext (stage h s) κ
  pub fair : IsFair size h κ
  pub oldest : IsOldest h κ
  pub cell : HasCell size h κ

-- each mark of the past may follow what came before it
abbrev pub IsLegalPast : {A : Type 0} → ℕ → List (Mark A) → Type 0
IsLegalPast size [] = Unit {0}
IsLegalPast size (m ∷ h) = MayFollow size h m.seat m.kind × IsLegalPast size h

-- the same for a history in its own order
abbrev pub IsLegalByStage : {A : Type 0} → ℕ → List (Mark A) → Type 0
IsLegalByStage size h = IsLegalPast size (reverse h)

-- no call is cut short
abbrev pub HasNoOpenCall : {A : Type 0} → List (Mark A) → Type 0
HasNoOpenCall h = (s : ℕ) → stage h s ≡ Idle

-- the seats of all marks of the past are below n
abbrev pub SeatsBelow : {A : Type 0} → ℕ → List (Mark A) → Type 0
SeatsBelow n [] = Unit {0}
SeatsBelow n (m ∷ h) = (m.seat < n) × SeatsBelow n h
