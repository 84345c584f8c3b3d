-- How one more mark changes the value of a room's history and what its seat holds.
use Rattle.fak_core.proofs.Common.{◌≡◌, ℕ, ◌+◌, ◌-◌, List, [], ◌∷◌, ◌++◌, arith, ℤ, pos, ◌+ℤ◌, ◌-ℤ◌, sum_by, ints, sum_by_push, words_by, Owes, RoomKind, RoomMark, total_push, common_steps, seat_words-own, releases_le}
use Rattle.fak_model.specs.Room.{seat_of, kind_of, kinds_of_call, up_amount, over_amount, back_amount, release_amount, value, amount_held, room_rules, IsRoomHistory}

-- the kinds of a seat's marks, in order
abbrev pub kinds_by : ℕ → List RoomMark → List RoomKind
kinds_by seat h = words_by seat_of kind_of seat h

-- these kinds of a seat's marks, followed by the owed ones, are whole calls
abbrev pub OwesKinds : List RoomKind → List RoomKind → Type 0
OwesKinds kinds owed = Owes kinds_of_call kinds owed

-- what a seat holds after a mark of this kind, and how the mark changes the count
abbrev pub held_after : ℕ → RoomKind → ℕ
held_after n kind = n + up_amount kind - release_amount kind

abbrev pub count_after : ℤ → RoomKind → ℤ
count_after n kind = n +ℤ pos (up_amount kind + over_amount kind) -ℤ pos (back_amount kind + release_amount kind)

pub amount_held-own : (bound : ℕ) (h : List RoomMark) (m : RoomMark) → IsRoomHistory bound h → amount_held m.seat (h ++ m ∷ []) ≡ held_after (amount_held m.seat h) m.kind
amount_held-own bound h m law = grind (arith, common_steps, seat_words-own, room_rules, sum_by, up_amount, release_amount, sum_by_push, releases_le)

pub value-push : (h : List RoomMark) (m : RoomMark) → value (h ++ m ∷ []) ≡ count_after (value h) m.kind
value-push h m = omega (arith, ints, total_push kind_of up_amount h m, total_push kind_of over_amount h m, total_push kind_of back_amount h m, total_push kind_of release_amount h m)
