-- Known schedules of channels with one cell and three ends, on both sides of the definitions.
use Rattle.std.specs.Prelude.{ℕ, ◌==◌, Bool, false, List, [], ◌∷◌, ◌++◌, replicate, map}
use Rattle.fak_core.specs.QueueSchedule.{Inserts, Deletes, Shuts, Advances}
use Rattle.fak_model.specs.declared.note.Sign.{Sign}
use Rattle.fak_model.specs.declared.note.Sign.TheVariants.{Registers, FindsNoItem, FallsAsleep, IsWoken, TakesBack, GivesUp, PassesWord, WakesEnd}
use Rattle.fak_channel_core.specs.SleeperSides.{Awake, Duty}
use Rattle.fak_channel_core.specs.SleeperMoves.{SleeperState}
use Rattle.fak_channel_core.specs.SleeperSchedule.{SleeperEvent, OfQueue, SenderSigns, ReceiverSigns, ChecksUpper, sleeper_reached}

-- this many steps of an end on the queue
abbrev pub advances : ℕ → ℕ → List (SleeperEvent ℕ)
advances e k = replicate k (OfQueue (Advances e))

-- signs of an end, as a sender and as a receiver
abbrev pub as_sender : ℕ → List Sign → List (SleeperEvent ℕ)
as_sender e vs = map (SenderSigns e) vs

abbrev pub as_receiver : ℕ → List Sign → List (SleeperEvent ℕ)
as_receiver e vs = map (ReceiverSigns e) vs

-- the state after a schedule of such a channel
abbrev pub after_schedule : List (SleeperEvent ℕ) → SleeperState ℕ
after_schedule events = sleeper_reached 3 1 events

-- an insertion and a deletion that are granted, and a deletion that finds no item
abbrev pub inserts : ℕ → ℕ → List (SleeperEvent ℕ)
inserts e x = OfQueue (Inserts e x) ∷ advances e 7

abbrev pub deletes : ℕ → List (SleeperEvent ℕ)
deletes e = OfQueue (Deletes e) ∷ advances e 7

abbrev pub finds_none : ℕ → List (SleeperEvent ℕ)
finds_none e = OfQueue (Deletes e) ∷ advances e 1 ++ ChecksUpper e ∷ []

abbrev pub finds_full : ℕ → List (SleeperEvent ℕ)
finds_full e = OfQueue (Inserts e 9) ∷ advances e 1

abbrev pub shuts : ℕ → List (SleeperEvent ℕ)
shuts e = OfQueue (Shuts e) ∷ advances e 1

-- ---- receivers that sleep

-- end 0 receives from the empty channel, and sleeps
abbrev pub receiver_sleeps : List (SleeperEvent ℕ)
receiver_sleeps = finds_none 0 ++ as_receiver 0 (Registers ∷ FindsNoItem ∷ FallsAsleep ∷ [])

-- end 1 sends 7: it owes a look, and pays it by waking end 0
abbrev pub sender_owes : List (SleeperEvent ℕ)
sender_owes = receiver_sleeps ++ inserts 1 7

abbrev pub sender_wakes : List (SleeperEvent ℕ)
sender_wakes = sender_owes ++ as_receiver 1 (WakesEnd 0 ∷ [])

-- end 0 receives the item, and finds nobody to wake
abbrev pub receiver_ends : List (SleeperEvent ℕ)
receiver_ends = sender_wakes ++ as_receiver 0 (IsWoken ∷ []) ++ deletes 0 ++ as_sender 0 (PassesWord 0 ∷ []) ++ ChecksUpper 0 ∷ []

-- end 1 sends before end 0 tests again: end 0 does not fall asleep, and takes its bit back
abbrev pub receiver_tests : List (SleeperEvent ℕ)
receiver_tests = finds_none 0 ++ as_receiver 0 (Registers ∷ []) ++ inserts 1 7 ++ as_receiver 0 (FindsNoItem ∷ FallsAsleep ∷ [])

abbrev pub receiver_takes_back : List (SleeperEvent ℕ)
receiver_takes_back = receiver_tests ++ as_receiver 0 (TakesBack ∷ [])

-- the deadline of end 0 comes before a wake, and after it
abbrev pub deadline_comes : List (SleeperEvent ℕ)
deadline_comes = receiver_sleeps ++ as_receiver 0 (TakesBack ∷ [])

abbrev pub deadline_is_late : List (SleeperEvent ℕ)
deadline_is_late = sender_wakes ++ as_receiver 0 (TakesBack ∷ IsWoken ∷ GivesUp ∷ [])

-- ends 0 and 2 sleep, end 1 wakes end 0, whose deadline has come: it wakes end 2
abbrev pub wake_is_passed_on : List (SleeperEvent ℕ)
wake_is_passed_on =
    receiver_sleeps ++ finds_none 2 ++ as_receiver 2 (Registers ∷ FindsNoItem ∷ FallsAsleep ∷ []) ++ inserts 1 7 ++ as_receiver 1 (WakesEnd 0 ∷ [])
    ++ as_receiver 0 (IsWoken ∷ GivesUp ∷ WakesEnd 2 ∷ [])

-- end 1 closes the empty channel, checks it and wakes end 0, which finds it drained and wakes the next
abbrev pub close_owes : List (SleeperEvent ℕ)
close_owes = receiver_sleeps ++ shuts 1

abbrev pub close_wakes_receiver : List (SleeperEvent ℕ)
close_wakes_receiver = close_owes ++ as_sender 1 (PassesWord 0 ∷ []) ++ ChecksUpper 1 ∷ as_receiver 1 (WakesEnd 0 ∷ [])

abbrev pub receiver_is_told : List (SleeperEvent ℕ)
receiver_is_told = close_wakes_receiver ++ as_receiver 0 (IsWoken ∷ []) ++ finds_none 0

-- end 1 closes the empty channel, and end 2 closes it again
abbrev pub closed_twice : List (SleeperEvent ℕ)
closed_twice = close_owes ++ shuts 2

-- end 0 sleeps before a shut of end 1 that comes between its two tests: it does not fall asleep
abbrev pub receiver_tests_drained : List (SleeperEvent ℕ)
receiver_tests_drained = finds_none 0 ++ as_receiver 0 (Registers ∷ FindsNoItem ∷ []) ++ shuts 1 ++ as_receiver 0 (FallsAsleep ∷ [])

-- ---- senders that sleep

-- end 1 fills the channel, and end 2 sleeps with its item
abbrev pub sender_sleeps : List (SleeperEvent ℕ)
sender_sleeps = inserts 1 7 ++ as_receiver 1 (PassesWord 0 ∷ []) ++ finds_full 2 ++ as_sender 2 (Registers ∷ FallsAsleep ∷ [])

-- end 0 receives 7: it owes a look, and pays it by waking end 2
abbrev pub receiver_owes : List (SleeperEvent ℕ)
receiver_owes = sender_sleeps ++ deletes 0

abbrev pub receiver_wakes : List (SleeperEvent ℕ)
receiver_wakes = receiver_owes ++ as_sender 0 (WakesEnd 2 ∷ []) ++ ChecksUpper 0 ∷ []

-- end 2 sends its item, and finds nobody to wake
abbrev pub sender_ends : List (SleeperEvent ℕ)
sender_ends = receiver_wakes ++ as_sender 2 (IsWoken ∷ []) ++ inserts 2 9 ++ as_receiver 2 (PassesWord 0 ∷ [])

-- end 0 receives before end 2 tests again, and closes the channel before it tests again
abbrev pub sender_tests : List (SleeperEvent ℕ)
sender_tests = inserts 1 7 ++ finds_full 2 ++ as_sender 2 (Registers ∷ []) ++ deletes 0 ++ as_sender 2 (FallsAsleep ∷ [])

abbrev pub sender_tests_closed : List (SleeperEvent ℕ)
sender_tests_closed = inserts 1 7 ++ finds_full 2 ++ as_sender 2 (Registers ∷ []) ++ shuts 0 ++ as_sender 2 (FallsAsleep ∷ [])

-- end 0 closes the full channel and wakes end 2, which is refused as closed and owes a look itself
abbrev pub close_wakes_sender : List (SleeperEvent ℕ)
close_wakes_sender = sender_sleeps ++ shuts 0 ++ as_sender 0 (WakesEnd 2 ∷ []) ++ ChecksUpper 0 ∷ []

abbrev pub sender_is_told : List (SleeperEvent ℕ)
sender_is_told = close_wakes_sender ++ as_sender 2 (IsWoken ∷ []) ++ finds_full 2

-- ---- withdrawals, and both sides at once

-- end 0 tests a channel with room, end 1 fills it, and end 0 withdraws: it owes a look for a sender, and a check
abbrev pub insertion_withdraws : List (SleeperEvent ℕ)
insertion_withdraws = OfQueue (Inserts 0 5) ∷ advances 0 1 ++ inserts 1 7 ++ advances 0 2

-- end 0 tests a channel with an item, end 2 takes it, and end 0 withdraws: it owes a look for a receiver
abbrev pub deletion_withdraws : List (SleeperEvent ℕ)
deletion_withdraws = inserts 1 7 ++ OfQueue (Deletes 0) ∷ advances 0 1 ++ deletes 2 ++ advances 0 2

-- end 0 receives and sleeps; end 1 has found room, end 2 closes, and end 1 claims too late: its withdrawal leaves the channel
-- drained, and its check shows it
abbrev pub late_insertion_withdraws : List (SleeperEvent ℕ)
late_insertion_withdraws = OfQueue (Inserts 1 5) ∷ advances 1 1 ++ shuts 2 ++ advances 1 1 ++ receiver_sleeps ++ advances 1 1 ++ ChecksUpper 1 ∷ []

-- the last deletion of a shut channel: its check finds it drained
abbrev pub last_deletion_ends : List (SleeperEvent ℕ)
last_deletion_ends = inserts 1 7 ++ shuts 2 ++ deletes 0 ++ ChecksUpper 0 ∷ []

-- end 0 has found no item, and has not checked whether the channel is drained
abbrev pub item_is_missing : List (SleeperEvent ℕ)
item_is_missing = OfQueue (Deletes 0) ∷ advances 0 1

-- ---- the first mark of a woken end

-- end 2 is woken, and end 0 fills the free cell first: end 2 is refused by its test
abbrev pub woken_sender_is_refused : List (SleeperEvent ℕ)
woken_sender_is_refused = receiver_wakes ++ as_sender 2 (IsWoken ∷ []) ++ inserts 0 5 ++ finds_full 2

-- the same, by its add: at that time end 0 has filled the cell, or has closed the channel
abbrev pub woken_sender_claims_too_much : List (SleeperEvent ℕ)
woken_sender_claims_too_much = receiver_wakes ++ as_sender 2 (IsWoken ∷ []) ++ OfQueue (Inserts 2 9) ∷ advances 2 1 ++ inserts 0 5 ++ advances 2 1

abbrev pub woken_sender_claims_too_late : List (SleeperEvent ℕ)
woken_sender_claims_too_late = receiver_wakes ++ as_sender 2 (IsWoken ∷ []) ++ OfQueue (Inserts 2 9) ∷ advances 2 1 ++ shuts 0 ++ advances 2 1

-- end 0 is woken and tests, end 2 takes the item, and end 0 subtracts too much
abbrev pub woken_receiver_claims_too_much : List (SleeperEvent ℕ)
woken_receiver_claims_too_much = sender_wakes ++ as_receiver 0 (IsWoken ∷ []) ++ OfQueue (Deletes 0) ∷ advances 0 1 ++ deletes 2 ++ advances 0 1

-- end 2 is woken and tests: this leaves no mark
abbrev pub woken_sender_tests : List (SleeperEvent ℕ)
woken_sender_tests = receiver_wakes ++ as_sender 2 (IsWoken ∷ []) ++ OfQueue (Inserts 2 9) ∷ advances 2 1

-- ---- signs that are not true

-- end 0 sleeps: it was not woken, and gives nothing up
abbrev pub sleeper_signs : List (SleeperEvent ℕ)
sleeper_signs = receiver_sleeps ++ as_receiver 0 (IsWoken ∷ GivesUp ∷ Registers ∷ [])

-- end 0 is woken, and cannot set its bit before it has tried again
abbrev pub woken_end_registers : List (SleeperEvent ℕ)
woken_end_registers = sender_wakes ++ as_receiver 0 (IsWoken ∷ Registers ∷ [])

-- end 1 owes a look: the word has a bit set, and the bits of ends 1 and 2 are clear
abbrev pub looker_signs : List (SleeperEvent ℕ)
looker_signs = sender_owes ++ as_receiver 1 (PassesWord 0 ∷ WakesEnd 1 ∷ WakesEnd 2 ∷ [])

-- end 0 has an open call on the queue, and there is no end 3
abbrev pub busy_end_signs : List (SleeperEvent ℕ)
busy_end_signs = OfQueue (Deletes 0) ∷ ReceiverSigns 0 Registers ∷ SenderSigns 0 Registers ∷ []

abbrev pub stranger_signs : List (SleeperEvent ℕ)
stranger_signs = as_receiver 3 (Registers ∷ []) ++ as_sender 3 (Registers ∷ [])

-- ---- words of bits

-- one look, that has passed nothing, and two
abbrev pub one_look : Duty
one_look = record { stage = Awake; looks = 1; passed = λ w. false }

abbrev pub two_looks : Duty
two_looks = record { stage = Awake; looks = 2; passed = λ w. false }

-- only the bit of this name is set
abbrev pub bit_of : ℕ → ℕ → Bool
bit_of k j = j == k

-- ---- rounds

-- in each of k rounds the three ends take one step of their calls on the queue
abbrev pub rounds_of_three : ℕ → List (List (SleeperEvent ℕ))
rounds_of_three k = replicate k (advances 0 1 ++ advances 1 1 ++ advances 2 1)

-- end 0 has begun an insertion
abbrev pub insertion_begins : List (SleeperEvent ℕ)
insertion_begins = OfQueue (Inserts 0 7) ∷ []

-- in the last of these rounds its insertion ends, and it begins another
abbrev pub insertion_begins_again : List (List (SleeperEvent ℕ))
insertion_begins_again = rounds_of_three 6 ++ (advances 0 1 ++ insertion_begins) ∷ []
