-- The words and seats of a new file table.
use Rattle.fak_files.proofs.Common.{Idle, Nothing, Some, ◌≡◌, ℕ, ◌+◌, ◌<◌, ◌≤◌, List, [], ◌∷◌, ◌++◌, length, take, replicate, set, get_or, refl, ap, ◌∙◌, arith, reverse, ints, words_by, seat_of, kind_of, file_rules, sight, ObjectId, SeatInfo, seat_info, fresh_seats, bias, get_or-take, get_or-set_other, get_or-replicate, length-take-le, opening, FileField, FileMark, history_none, fresh_token, fresh_next, count_place, width, word_of, limits, ShowsHistory, file_object, IsShownFile, opened_file, FileHolder, FileSeatInfo, file_seat, idle_seats, seat_now, IsFileSeat, common_steps, starts}
use Rattle.fak_files.proofs.WordPlaces.{word_of-low}

-- ---- words

-- the words before they are cut to the table's entries
abbrev row : ℕ → List ℕ
row w = set (replicate (width 16) 0) count_place w

field_zero : (w n entry : ℕ) (f : FileField) → word_of entry f < n → n ≤ width 16 → get_or (take n (row w)) (word_of entry f) 0 ≡ 0
field_zero w n entry f low few =
    get_or-take n (row w) (word_of entry f) 0 low
    ∙ (get_or-set_other (replicate (width 16) 0) count_place (word_of entry f) w 0 (λ e. omega (arith, e)) ∙ get_or-replicate (width 16) (word_of entry f) 0 0 (omega (arith, low, few)))

-- a new table: its count is the number of seats, and all entries are free
pub opens : (entries seats : ℕ) → entries ≤ 16 → 1 ≤ seats → seats ≤ 1024 → IsShownFile (limits entries seats) (opening (take (width entries) (row (bias + seats))) [] (opened_file (limits entries seats)))
opens entries seats few some most =
    let shows : ShowsHistory (limits entries seats) [] (take (width entries) (row (bias + seats))) = record {
      few_entries = few;
      few_seats = most;
      some_seat = some;
      wide = let long : length (row (bias + seats)) ≡ width 16 = refl in length-take-le (width entries) (row (bias + seats)) (omega (arith, few, long));
      counted = let found : get_or (take (width entries) (row (bias + seats))) count_place 0 ≡ bias + seats = get_or-take (width entries) (row (bias + seats)) count_place 0 (omega arith) in omega (arith, ints, found);
      fields = λ entry f low. field_zero (bias + seats) (width entries) entry f (word_of-low entry entries f low) (omega (arith, few));
    } in
    starts (file_object (limits entries seats)) Idle 0 [] (history_none (file_rules seats)) refl (λ name low. ([], refl)) (take (width entries) (row (bias + seats))) [] shows (omega arith)

-- ---- seats

pub fresh_file_seat : (seats name stint : ℕ) (m : FileHolder) → m ≡ (sight (name ∷ []) (Some []) [] Idle 0, []) → name < seats → seats ≤ 1024 → IsFileSeat name seats Nothing m
fresh_file_seat seats name stint m is low few = grind (arith, common_steps, fresh_token, seat_of, reverse, history_none, file_rules, words_by, kind_of)

pub fresh_seat_is : (object : ObjectId) (name stint : ℕ) (m : FileHolder) → m ≡ (sight (name ∷ []) (Some []) [] Idle 0, []) → seat_now object name stint Nothing m ≡ file_seat (seat_info object name stint []) Nothing
fresh_seat_is object name stint m is = grind (arith, common_steps, seat_now, file_seat, seat_info)

idle_seats-push : (seats : List (SeatInfo FileMark)) (s : SeatInfo FileMark) → idle_seats (seats ++ s ∷ []) ≡ idle_seats seats ++ file_seat s Nothing ∷ []
idle_seats-push [] s = refl
idle_seats-push (x ∷ seats) s = ap (λ l. file_seat x Nothing ∷ l) (idle_seats-push seats s)

-- one more seat was dealt
pub idle_next : (object object' : ObjectId) → object' ≡ object → (stint name : ℕ) (m : FileHolder) → m ≡ (sight (name ∷ []) (Some []) [] Idle 0, []) → (dealt : List FileSeatInfo) → dealt ≡ idle_seats (fresh_seats object stint 0 name)
    → dealt ++ seat_now object' name stint Nothing m ∷ [] ≡ idle_seats (fresh_seats object stint 0 (name + 1))
idle_next object object' same stint name m is dealt before = grind (arith, common_steps, fresh_seat_is, file_seat, seat_info, idle_seats-push, fresh_seats, idle_seats, fresh_next)
