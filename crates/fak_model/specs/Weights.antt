-- The weights of marks, for the laws that add them up.
use Rattle.std.specs.Prelude.{ℕ, ◌==◌, cond}
use Rattle.fak_model.specs.declared.queue.Kind.{Kind}
use Rattle.fak_model.specs.declared.queue.Kind.TheVariants.{Put, Got, Close, Closed, LateIn}
use Rattle.fak_model.specs.declared.room.RoomKind.{RoomKind}
use Rattle.fak_model.specs.declared.room.RoomKind.TheVariants.{Over, No}

-- the weight of the item put, and of the item got
abbrev pub put_of : {A : Type 0} → (A → ℕ) → Kind A → ℕ
put_of f (Put x) = f x
put_of f _ = 0

abbrev pub got_of : {A : Type 0} → (A → ℕ) → Kind A → ℕ
got_of f (Got x) = f x
got_of f _ = 0

-- 1 for a close, and 1 for an insertion that found the queue shut
abbrev pub close_of : {A : Type 0} → Kind A → ℕ
close_of Close = 1
close_of _ = 0

abbrev pub closed_of : {A : Type 0} → Kind A → ℕ
closed_of Closed = 1
closed_of LateIn = 1
closed_of _ = 0

-- 1 for a claim that was refused, at its test or at its add
abbrev pub refusal_of : RoomKind → ℕ
refusal_of (No d) = 1
refusal_of (Over d) = 1
refusal_of _ = 0

-- 1 for a claim that was refused and asked for another amount than 1
abbrev pub other_amount : RoomKind → ℕ
other_amount (No d) = cond (d == 1) 0 1
other_amount (Over d) = cond (d == 1) 0 1
other_amount _ = 0
