-- Each step on the bits of sleepers keeps what the queue's table shows, and tells what it did.
use Rattle.std.specs.Prelude.{◌%◌, not, int_lt, nat_eq, ◌&&◌, ◌≤ℤ◌, ◌<ℤ◌}
use Rattle.std.specs.Int.{w64}
use Rattle.std.specs.Int.Bits.{bit_and}
use Rattle.std.proofs.lemmas.List.{set-get_or}
use Rattle.std.proofs.lemmas.Nat.Bits.{bit_at-zero, bit_at_set_same, bit_at_set_other, bit_at_clear_same, bit_at_clear_other}
use Rattle.fak_model.specs.declared.note.Note.{Note}
use Rattle.fak_model.specs.declared.note.NoteKind.{NoteKind}
use Rattle.fak_model.specs.declared.note.NoteKind.TheVariants.{AsSender, AsReceiver, Checks}
use Rattle.fak_model.specs.declared.note.Sign.{Sign}
use Rattle.fak_model.specs.declared.note.Sign.TheVariants.{Registers, FindsNoItem, FallsAsleep, IsWoken, TakesBack, FindsBit, GivesUp, PassesWord, FindsWord, WakesEnd}
use Rattle.fak_model.specs.Views.{noting, with_note}
use Rattle.fak_model.proofs.Deciding.{same_or_not}
use Rattle.fak_model.proofs.RunningSteps.{observes, takes_note}
use Rattle.fak_core.specs.declared.queue.phase.Phase.TheVariants.{Idle}
use Rattle.fak_channel_core.specs.SleeperSides.{Awake, Registered, PastLower, Woken, bits_after, has_bit, is_as, is_clear, relies_on_bit, shows_bits}
use Rattle.fak_channel_core.specs.SleeperMoves.{Account, is_void}
use Rattle.fak_queue.specs.declared.in_use.InUse.{InUse}
use Rattle.fak_queue.specs.declared.role.Role.{Role}
use Rattle.fak_queue.specs.declared.role.Role.TheVariants.{Sender, Receiver}
use Rattle.fak_queue.specs.Accounts.{account_of, kinds_by}
use Rattle.fak_queue.specs.Drained.{IsDrained}
use Rattle.fak_queue.specs.Found.{HasRoom, HasNoRoom, HasItem, HasNoItem}
use Rattle.fak_queue.specs.SeatAccounts.{HasAccount}
use Rattle.fak_queue.specs.BitSteps.{Notes, note_by, mask_of, others_of, is_drained, SetBit, SawBit, TookBack, GaveUp, Looked, Cleared, TestedRoomAgain, TestedItemAgain, TestedDrainedAgain, CheckedDrained}
use Rattle.fak_queue.specs.Sleepers.{AreSleepers, as_role, bits_as, duty_as, first_bits, is_set}
use Rattle.fak_queue.specs.Words.{IsInUse}
use Rattle.fak_queue.proofs.Observations.{is_flag, one_count}
use Rattle.fak_queue.proofs.Shutting.{shut_exactly}
use Rattle.fak_queue.proofs.SleeperNotes.{may_as, notes_with, signed, checked, same_bits, same_bit, changed_bit, all_true, may_register, may_be_woken, may_take_back, may_give_up, may_pass, may_find, may_find_word, may_wake, may_sleep_full, may_find_none, may_sleep_empty}
use Rattle.fak_queue.proofs.Accounts.{kinds_foreign}
use Rattle.fak_queue.proofs.Sleepers.{few_words, word_else}
use Rattle.fak_queue.proofs.WordWrites.{below_word, full_word, shut_above, open_below, only_shut, only_below, only_full, only_positive, only_empty, positive_word, empty_word}
use Rattle.fak_queue.proofs.Stepping.{QueueTable, queue_law, Permits, one_of, stands, loaded, upper_bounds, upper_most, upper_shut, upper_open, upper_past, lower_past}
use Rattle.fak_queue.proofs.Common.{Alike, UpperCount, LowerCount, IsUpperCount, IsLowerCount, QueueLimits, AreWords, QueueView, QueueHolder, queue_object, IsShownQueue, IsEncoded, Leaves, TellsNothing, ◌≡◌, ◌≢◌, ℕ, ◌+◌, ◌*◌, ◌/◌, ◌<◌, ◌≤◌, List, [], ◌∷◌, length, slice_index, set, refl, sym, ap, ◌∙◌, subst, inl, inr, arith, length-set, bit_or, Some, Bool, true, false, ℤ, pos, reverse, true_or_false, some, get_elem?, In, sight, keeps, stepped, upper_count, lower_count, Mark, kept, with_at, Has, Close, has_back, has_reverse, ints, common_steps}

-- ---- a bit of a word

set_here : (w k : ℕ) → has_bit (bit_or w (mask_of k)) (k % 64) ≡ true
set_here w k = ap (λ d. nat_eq d 1) (bit_at_set_same w64 w (k % 64) (omega arith))

set_else : (w k i : ℕ) → i ≢ k % 64 → has_bit (bit_or w (mask_of k)) i ≡ has_bit w i
set_else w k i ne = ap (λ d. nat_eq d 1) (bit_at_set_other w64 w (k % 64) (omega arith) i ne)

clear_here : (w k : ℕ) → has_bit (bit_and w (others_of k)) (k % 64) ≡ false
clear_here w k = ap (λ d. nat_eq d 1) (bit_at_clear_same w64 w (k % 64) (omega arith))

clear_else : (w k i : ℕ) → i < 64 → i ≢ k % 64 → has_bit (bit_and w (others_of k)) i ≡ has_bit w i
clear_else w k i l ne = ap (λ d. nat_eq d 1) (bit_at_clear_other w64 w (k % 64) (omega arith) i l ne)

no_bit : (j : ℕ) → has_bit 0 j ≡ false
no_bit j = ap (λ d. nat_eq d 1) (bit_at-zero j)

-- a bit is as it was found
as_itself : (b c : Bool) → b ≡ c → is_as b c ≡ true
as_itself b c e = grind (arith, common_steps)

-- ---- what a count shows

and_true : (a b : Bool) → (a && b) ≡ true → (a ≡ true) × (b ≡ true)
and_true a b e = grind (arith, common_steps)

and_false : (a b : Bool) → a ≡ true → (a && b) ≡ false → b ≡ false
and_false a b t e = grind (arith, common_steps)

void_at_most : (u v : ℤ) → not (int_lt (pos 0) u) ≡ true → u ≡ v → v ≤ℤ pos 0
void_at_most u v e f = grind (arith, ints)

not_void_above : (u v : ℤ) → not (int_lt (pos 0) u) ≡ false → u ≡ v → v ≤ℤ pos 0 → ⊥
not_void_above u v e f l = grind (arith, ints)

room_below : (u v : ℤ) (size : ℕ) → int_lt u (pos size) ≡ true → u ≡ v → v <ℤ pos size
room_below u v size e f = grind (arith, ints)

full_from : (w u : ℤ) (size : ℕ) → int_lt u (pos size) ≡ false → w ≡ u → pos size ≤ℤ w
full_from w u size e f = grind (arith, ints)

item_above : (l v : ℤ) → int_lt (pos 0) l ≡ true → l ≡ v → pos 0 <ℤ v
item_above l v e f = grind (arith, ints)

none_from : (w l : ℤ) → int_lt (pos 0) l ≡ false → w ≡ l → w ≤ℤ pos 0
none_from w l e f = grind (arith, ints)

module _ {T : Type 0} (key : QueueLimits) (s : QueueTable T) (r : IsShownQueue key s) (id n : ℕ) (m : QueueHolder T) (at : get_elem? s.views id ≡ some m.0) (one : m.0.names ≡ n ∷ []) where
  S : AreSleepers key.size key.seats r.core r.notes s.words
  S = r.encoded.sleepers

  bears : In n m.0.names
  bears = subst (In n) (sym one) (inl refl)

  kinds_seen : kinds_by n r.core.past ≡ kinds_by n m.0.seen
  kinds_seen = let sees = r.sees id m.0 at in ap (kinds_by n) sees.is ∙ kinds_foreign n m.0.names sees.between m.0.seen bears sees.foreign

  -- the account that the seat knows is the one of the sleepers
  known : {is : Account → Type 0} → HasAccount key.seats is m → is (S.state.accounts n)
  known {is} A =
      let same : S.state.accounts n ≡ account_of key.seats A.notes (kinds_by n m.0.seen) =
      S.accounts n ∙ (ap (λ l. account_of key.seats l (kinds_by n r.core.past)) (r.noted id m.0 at n bears A.notes A.known) ∙ ap (account_of key.seats A.notes) kinds_seen) in
      subst is (sym same) (A.account n one)

  few : n < 1024
  few = let low = one_of key s r id n m at one in omega (arith, low, r.encoded.few_seats)

  -- ---- words that are none of the queue's own

  abbrev WordsOf : List ℕ → Type 0
  WordsOf ws = AreWords key.size r.core.upper r.core.lower r.core.draws_in r.core.draws_out r.core.turn r.core.shut ws

  words_else : (i w : ℕ) → ((k : ℕ) → 16 ≤ k → k < 80 + key.size → k ≢ i) → WordsOf (set s.words i w)
  words_else i w apart =
      let W = r.encoded.words_are in
      let stay : (k : ℕ) → 16 ≤ k → k < 80 + key.size → slice_index (set s.words i w) k ≡ slice_index s.words k = λ k low high. word_else s.words i k w (apart k low high) in
      record {
        wide = length-set s.words i w ∙ W.wide;
        upper_is = ap pos (stay 16 (omega arith) (omega arith)) ∙ W.upper_is;
        lower_is = ap pos (stay 32 (omega arith) (omega arith)) ∙ W.lower_is;
        draws_in_is = stay 48 (omega arith) (omega arith) ∙ W.draws_in_is;
        draws_out_is = stay 64 (omega arith) (omega arith) ∙ W.draws_out_is;
        turns_are = λ c near. stay (80 + c) (omega arith) (omega (arith, near)) ∙ W.turns_are c near;
      }

  words_bit : (role : Role) (k w : ℕ) → k < 1024 → WordsOf (set s.words (first_bits role key.size + k / 64) w)
  words_bit Sender k w l = let few = few_words k l in words_else (0 + k / 64) w (λ j low high e. absurd (omega (arith, few, low, e)))
  words_bit Receiver k w l = words_else (80 + key.size + k / 64) w (λ j low high e. absurd (omega (arith, high, e)))

  -- ---- a step of an idle seat

  abbrev Noted : NoteKind → ℕ → ℕ → (List (Mark T) → Type 0) → Type 0
  Noted k i w tells =
      let v : QueueView T = sight m.0.names (with_note (note_by n k m) m.0.noted) r.core.past Idle m.0.left in
      IsShownQueue key (stepped s i w id m.1 v keeps) × Notes key.size key.seats n k tells m (v, m.1)

  abbrev Quiet : ℕ → ℕ → (List (Mark T) → Type 0) → Type 0
  Quiet i w tells =
      let v : QueueView T = sight m.0.names m.0.noted r.core.past Idle m.0.left in
      IsShownQueue key (stepped s i w id m.1 v keeps) × Leaves (queue_object key.size key.seats) m [] Idle m.0.left m.1 tells (v, m.1)

  encoded : (ls : ℕ → List Note) (ws : List ℕ) → WordsOf ws → AreSleepers key.size key.seats r.core ls ws → IsEncoded key.size key.seats r.core ls ws s.homes
  encoded ls ws words sleepers = record {
    some_cell = r.encoded.some_cell;
    few_cells = r.encoded.few_cells;
    few_seats = r.encoded.few_seats;
    words_are = words;
    wide = r.encoded.wide;
    slots_are = r.encoded.slots_are;
    sleepers = sleepers;
  }

  module _ (e : m.0.phase ≡ Some (Alike Idle)) where
    low : n < key.seats
    low = one_of key s r id n m at one

    idle : r.core.phase n ≡ Idle
    idle = stands key s r id n m at one Idle e

    -- one that adds a note
    note_step : (k : NoteKind) (i w : ℕ) → WordsOf (set s.words i w) → AreSleepers key.size key.seats r.core (notes_with key.seats key.size n r.core r.notes s.words S k) (set s.words i w)
        → (tells : List (Mark T) → Type 0) → tells r.core.past → Noted k i w tells
    note_step k i w words sleepers tells told =
        let x : Note = record { kind = k; after = length (kinds_by n r.core.past) } in
        let is : x ≡ note_by n k m = ap (λ (l : ℕ). let y : Note = record { kind = k; after = l } in y) (ap length kinds_seen) in
        let q = takes_note (queue_object key.size key.seats) s r id n m at one (queue_law key.size key.seats r.encoded.some_cell) x (Alike Idle) e i w (encoded _ (set s.words i w) words sleepers) tells told in
        subst (λ (y : Note). let v : QueueView T = sight m.0.names (with_note y m.0.noted) r.core.past Idle m.0.left in
        IsShownQueue key (stepped s i w id m.1 v keeps) × Leaves (queue_object key.size key.seats) (noting y m.0, m.1) [] Idle m.0.left m.1 tells (v, m.1)) is q

    -- a load that adds none
    quiet_load : (i : ℕ) (tells : List (Mark T) → Type 0) → tells r.core.past → Quiet i (slice_index s.words i) tells
    quiet_load i tells told = observes (queue_object key.size key.seats) s r id n m at one (queue_law key.size key.seats r.encoded.some_cell) (Alike Idle) e i tells told

    -- a load that adds a note on which no bit changes
    note_load : (role : Role) (v : Sign) → ((bit : ℕ → Bool) → bits_after v n bit ≡ bit) → may_as role key.size S.state n v ≡ true → (i : ℕ) (tells : List (Mark T) → Type 0) → tells r.core.past → Noted (as_role role v) i (slice_index s.words i) tells
    note_load role v calm may i tells told = note_step (as_role role v) i (slice_index s.words i) (loaded key s r id n m at one i) (subst (AreSleepers key.size key.seats r.core _) (sym (set-get_or s.words i 0)) (signed key.seats key.size n r.core r.notes s.words S low idle role v may s.words (same_bits key.seats key.size n r.core r.notes s.words S role v calm s.words S.bits))) tells told

    -- a note on which the bit of end k becomes b
    note_write : (role : Role) (v : Sign) (k : ℕ) → k < 1024 → (b : Bool) → ((bit : ℕ → Bool) → bits_after v n bit ≡ with_at bit k b) → may_as role key.size S.state n v ≡ true → (w : ℕ) → has_bit w (k % 64) ≡ b
        → ((i : ℕ) → i < 64 → i ≢ k % 64 → has_bit w i ≡ has_bit (slice_index s.words (first_bits role key.size + k / 64)) i) → Noted (as_role role v) (first_bits role key.size + k / 64) w TellsNothing
    note_write role v k small b changes may w here others =
        let i = first_bits role key.size + k / 64 in
        note_step (as_role role v) i w (words_bit role k w small)
        (signed key.seats key.size n r.core r.notes s.words S low idle role v may (set s.words i w) (changed_bit key.seats key.size n r.core r.notes s.words S role v k small r.encoded.words_are.wide b changes w here others)) TellsNothing tt

    -- ---- the own bit

    pub sets_bit : (role : Role) → HasAccount key.seats (λ g. (duty_as role g).stage ≡ Awake) m
        → Permits key s r id n m at one (first_bits role key.size + n / 64) (λ w. bit_or w (mask_of n)) (λ found after. SetBit key.size key.seats n role m after)
    sets_bit role A =
        let w = slice_index s.words (first_bits role key.size + n / 64) in
        let q = note_write role Registers n few true (λ bit. refl) (may_register key.seats key.size n r.core r.notes s.words S role (known A)) (bit_or w (mask_of n)) (set_here w n) (λ i l ne. set_else w n i ne) in
        (sight m.0.names (with_note (note_by n (as_role role Registers) m) m.0.noted) r.core.past Idle m.0.left, keeps, tt, q.0, q.1)

    pub sees_bit : (role : Role) → HasAccount key.seats (λ g. relies_on_bit (duty_as role g).stage ≡ true) m
        → Permits key s r id n m at one (first_bits role key.size + n / 64) (λ w. w) (λ found after. SawBit key.size key.seats n role (has_bit found (n % 64)) m after)
    sees_bit role A =
        let i = first_bits role key.size + n / 64 in
        let found = slice_index s.words i in
        elim (true_or_false (has_bit found (n % 64))) [
          | inl is ↦ (let v : QueueView T = sight m.0.names (with_note (note_by n (as_role role (FindsBit n true)) m) m.0.noted) r.core.past Idle m.0.left in
              let q = note_load role (FindsBit n true) (λ bit. refl) (may_find key.seats key.size n r.core r.notes s.words S role n true (sym (S.bits role n few) ∙ is)) i TellsNothing tt in
              (v, keeps, tt, q.0, subst (λ b. SawBit key.size key.seats n role b m (v, m.1)) (sym is) q.1))
          | inr not_set ↦ (let v : QueueView T = sight m.0.names (with_note (note_by n (as_role role IsWoken) m) m.0.noted) r.core.past Idle m.0.left in
              let q = note_load role IsWoken (λ bit. refl) (may_be_woken key.seats key.size n r.core r.notes s.words S role (known A) (sym (S.bits role n few) ∙ not_set)) i TellsNothing tt in
              (v, keeps, tt, q.0, subst (λ b. SawBit key.size key.seats n role b m (v, m.1)) (sym not_set) q.1))
        ]

    pub takes_back : (role : Role) → HasAccount key.seats (λ g. relies_on_bit (duty_as role g).stage ≡ true) m
        → Permits key s r id n m at one (first_bits role key.size + n / 64) (λ w. bit_and w (others_of n)) (λ found after. TookBack key.size key.seats n role (has_bit found (n % 64)) m after)
    takes_back role A =
        let i = first_bits role key.size + n / 64 in
        let found = slice_index s.words i in
        let w = bit_and found (others_of n) in
        elim (true_or_false (has_bit found (n % 64))) [
          | inl is ↦ (let v : QueueView T = sight m.0.names (with_note (note_by n (as_role role TakesBack) m) m.0.noted) r.core.past Idle m.0.left in
              let q = note_write role TakesBack n few false (λ bit. refl) (may_take_back key.seats key.size n r.core r.notes s.words S role (known A) (sym (S.bits role n few) ∙ is)) w (clear_here found n) (clear_else found n) in
              (v, keeps, tt, q.0, subst (λ b. TookBack key.size key.seats n role b m (v, m.1)) (sym is) q.1))
          | inr not_set ↦ (let v : QueueView T = sight m.0.names (with_note (note_by n (as_role role IsWoken) m) m.0.noted) r.core.past Idle m.0.left in
              let clear = sym (S.bits role n few) ∙ not_set in
              let shows = same_bit key.seats key.size n r.core r.notes s.words S role n few r.encoded.words_are.wide clear w (clear_here found n) (clear_else found n) in
              let q = note_step (as_role role IsWoken) i w (words_bit role n w few)
              (signed key.seats key.size n r.core r.notes s.words S low idle role IsWoken (may_be_woken key.seats key.size n r.core r.notes s.words S role (known A) clear) (set s.words i w)
              (same_bits key.seats key.size n r.core r.notes s.words S role IsWoken (λ bit. refl) (set s.words i w) shows)) TellsNothing tt in
              (v, keeps, tt, q.0, subst (λ b. TookBack key.size key.seats n role b m (v, m.1)) (sym not_set) q.1))
        ]

    pub gives_up : (role : Role) → HasAccount key.seats (λ g. (duty_as role g).stage ≡ Woken) m
        → Permits key s r id n m at one (first_bits role key.size + n / 64) (λ w. w) (λ found after. GaveUp key.size key.seats n role m after)
    gives_up role A =
        let q = note_load role GivesUp (λ bit. refl) (may_give_up key.seats key.size n r.core r.notes s.words S role (known A)) (first_bits role key.size + n / 64) TellsNothing tt in
        (sight m.0.names (with_note (note_by n (as_role role GivesUp) m) m.0.noted) r.core.past Idle m.0.left, keeps, tt, q.0, q.1)

    -- ---- a look

    clear_word : (role : Role) (j : ℕ) → j < 16 → slice_index s.words (first_bits role key.size + j) ≡ 0 → is_clear (bits_as role S.state) j ≡ true
    clear_word role j near none = all_true (λ i. not (bits_as role S.state (64 * j + i))) 64 (λ i l.
        let word : (64 * j + i) / 64 ≡ j = omega (arith, l) in
        let bit : (64 * j + i) % 64 ≡ i = omega (arith, l) in
        let clear : is_set role key.size s.words (64 * j + i) ≡ false = (λ z. has_bit (slice_index s.words (first_bits role key.size + word z)) (bit z)) ∙ (ap (λ w. has_bit w i) none ∙ no_bit i) in
        ap not (sym (S.bits role (64 * j + i) (omega (arith, near, l))) ∙ clear))

    shown_word : (role : Role) (j : ℕ) → j < 16 → shows_bits (bits_as role S.state) j (slice_index s.words (first_bits role key.size + j)) ≡ true
    shown_word role j near =
        let found = slice_index s.words (first_bits role key.size + j) in
        all_true (λ i. is_as (has_bit found i) (bits_as role S.state (64 * j + i))) 64 (λ i l.
        let word : (64 * j + i) / 64 ≡ j = omega (arith, l) in
        let bit : (64 * j + i) % 64 ≡ i = omega (arith, l) in
        let at : is_set role key.size s.words (64 * j + i) ≡ has_bit found i = λ z. has_bit (slice_index s.words (first_bits role key.size + word z)) (bit z) in
        as_itself (has_bit found i) (bits_as role S.state (64 * j + i)) (sym at ∙ S.bits role (64 * j + i) (omega (arith, near, l))))

    pub looks : (role : Role) (j : ℕ) → j < 16 → Permits key s r id n m at one (first_bits role key.size + j) (λ w. w) (λ found after. Looked key.size key.seats n role j found m after)
    looks role j near =
        let i = first_bits role key.size + j in
        let found = slice_index s.words i in
        elim (same_or_not found 0) [
          | inl none ↦ (let v : QueueView T = sight m.0.names (with_note (note_by n (as_role role (PassesWord j)) m) m.0.noted) r.core.past Idle m.0.left in
              let q = note_load role (PassesWord j) (λ bit. refl) (may_pass key.seats key.size n r.core r.notes s.words S role j (clear_word role j near none)) i TellsNothing tt in
              (v, keeps, tt, q.0, record { none = λ _. q.1; some = λ no. absurd (no none) }))
          | inr any ↦ (let v : QueueView T = sight m.0.names (with_note (note_by n (as_role role (FindsWord j found)) m) m.0.noted) r.core.past Idle m.0.left in
              let q = note_load role (FindsWord j found) (λ bit. refl) (may_find_word key.seats key.size n r.core r.notes s.words S role j found (shown_word role j near)) i TellsNothing tt in
              (v, keeps, tt, q.0, record { none = λ none. absurd (any none); some = λ _. q.1 }))
        ]

    pub clears : (role : Role) (k : ℕ) → k < 1024 → Permits key s r id n m at one (first_bits role key.size + k / 64) (λ w. bit_and w (others_of k)) (λ found after. Cleared key.size key.seats n role k (has_bit found (k % 64)) m after)
    clears role k small =
        let i = first_bits role key.size + k / 64 in
        let found = slice_index s.words i in
        let w = bit_and found (others_of k) in
        elim (true_or_false (has_bit found (k % 64))) [
          | inl is ↦ (let v : QueueView T = sight m.0.names (with_note (note_by n (as_role role (WakesEnd k)) m) m.0.noted) r.core.past Idle m.0.left in
              let q = note_write role (WakesEnd k) k small false (λ bit. refl) (may_wake key.seats key.size n r.core r.notes s.words S role k (sym (S.bits role k small) ∙ is)) w (clear_here found k) (clear_else found k) in
              (v, keeps, tt, q.0, subst (λ b. Cleared key.size key.seats n role k b m (v, m.1)) (sym is) q.1))
          | inr not_set ↦ (let v : QueueView T = sight m.0.names (with_note (note_by n (as_role role (FindsBit k false)) m) m.0.noted) r.core.past Idle m.0.left in
              let clear = sym (S.bits role k small) ∙ not_set in
              let shows = same_bit key.seats key.size n r.core r.notes s.words S role k small r.encoded.words_are.wide clear w (clear_here found k) (clear_else found k) in
              let q = note_step (as_role role (FindsBit k false)) i w (words_bit role k w small)
              (signed key.seats key.size n r.core r.notes s.words S low idle role (FindsBit k false) (may_find key.seats key.size n r.core r.notes s.words S role k false clear) (set s.words i w)
              (same_bits key.seats key.size n r.core r.notes s.words S role (FindsBit k false) (λ bit. refl) (set s.words i w) shows)) TellsNothing tt in
              (v, keeps, tt, q.0, subst (λ b. Cleared key.size key.seats n role k b m (v, m.1)) (sym not_set) q.1))
        ]

    -- ---- tests

    -- what the past has by the state of the core
    was_shut : r.core.shut ≡ true → Has Close (reverse r.core.past)
    was_shut e = has_reverse Close r.core.past ((kept key.size r.core r.reached.reached r.encoded.some_cell).closed.0 e)

    was_open : r.core.shut ≡ false → Has Close (reverse r.core.past) → ⊥
    was_open e h = (kept key.size r.core r.reached.reached r.encoded.some_cell).closed.1 e (has_back Close r.core.past h)

    upper_is : r.core.upper ≡ upper_count (reverse r.core.past)
    upper_is = upper_past key s r id n m at one

    lower_is : r.core.lower ≡ lower_count (reverse r.core.past)
    lower_is = lower_past key s r id n m at one

    was_drained : (r.core.shut && is_void r.core) ≡ true → IsDrained (reverse r.core.past)
    was_drained e = let both = and_true r.core.shut (is_void r.core) e in (was_shut both.0, void_at_most r.core.upper _ both.1 upper_is)

    was_live : (r.core.shut && is_void r.core) ≡ false → IsDrained (reverse r.core.past) → ⊥
    was_live e d = elim (true_or_false r.core.shut) [
      | inr opn ↦ was_open opn d.0
      | inl shut ↦ not_void_above r.core.upper _ (and_false r.core.shut (is_void r.core) shut e) upper_is d.1
    ]

    pub tests_room_again : HasAccount key.seats (λ g. g.sender.stage ≡ Registered) m
        → Permits key s r id n m at one 16 (λ w. w) (λ found after. (u : UpperCount) → IsUpperCount key.size found u → TestedRoomAgain key.size key.seats n u m after)
    tests_room_again A =
        let w = slice_index s.words 16 in
        let b = upper_bounds key s r id n m at one in
        let most = upper_most key s r id n m at one in
        let calm : QueueView T = sight m.0.names m.0.noted r.core.past Idle m.0.left in
        let Then : QueueHolder T → UpperCount → Type 0 = λ after u. TestedRoomAgain key.size key.seats n u m after in
        elim (true_or_false r.core.shut) [
          | inl shut ↦ (let q = quiet_load 16 (λ past. Has Close (reverse past)) (was_shut shut) in
              (calm, keeps, tt, q.0, only_shut (Then (calm, m.1)) key.size w r.encoded.few_cells (shut_above w 0 most r.core.upper (upper_shut key s r id n m at one shut) b.0 (omega arith)) q.1))
          | inr opn ↦ (let word = upper_open key s r id n m at one opn in
              elim (true_or_false (int_lt r.core.upper (pos key.size))) [
                | inl lt ↦ (let q = quiet_load 16 (λ past. HasRoom key.size (reverse past)) (room_below r.core.upper _ key.size lt upper_is, was_open opn) in
                    (calm, keeps, tt, q.0, only_below (Then (calm, m.1)) key.size w r.encoded.few_cells (below_word w key.size r.core.upper word lt) q.1))
                | inr ge ↦ (let v : QueueView T = sight m.0.names (with_note (note_by n (AsSender FallsAsleep) m) m.0.noted) r.core.past Idle m.0.left in
                    let may = may_sleep_full key.seats key.size n r.core r.notes s.words S (known A) opn ge in
                    let q : (u : ℤ) → u ≡ r.core.upper → _ = λ u f. note_load Sender FallsAsleep (λ bit. refl) may 16 (λ past. HasNoRoom key.size u (reverse past)) (f ∙ upper_is, full_from u r.core.upper key.size ge f, was_open opn) in
                    (v, keeps, tt, (q r.core.upper refl).0, only_full (Then (v, m.1)) key.size w r.core.upper (full_word w key.size r.core.upper word ge) (open_below w 0 most r.core.upper word b.0 b.1) word (λ u f. (q u f).1)))
              ])
        ]

    pub tests_item_again : HasAccount key.seats (λ g. g.receiver.stage ≡ Registered) m
        → Permits key s r id n m at one 32 (λ w. w) (λ found after. (l : LowerCount) → IsLowerCount found l → TestedItemAgain key.size key.seats n l m after)
    tests_item_again A =
        let w = slice_index s.words 32 in
        let word = r.encoded.words_are.lower_is in
        let Then : QueueHolder T → LowerCount → Type 0 = λ after l. TestedItemAgain key.size key.seats n l m after in
        elim (true_or_false (int_lt (pos 0) r.core.lower)) [
          | inl lt ↦ (let calm : QueueView T = sight m.0.names m.0.noted r.core.past Idle m.0.left in
              let q = quiet_load 32 (λ past. HasItem (reverse past)) (item_above r.core.lower _ lt lower_is) in
              (calm, keeps, tt, q.0, only_positive (Then (calm, m.1)) w (positive_word w r.core.lower word lt) q.1))
          | inr ge ↦ (let v : QueueView T = sight m.0.names (with_note (note_by n (AsReceiver FindsNoItem) m) m.0.noted) r.core.past Idle m.0.left in
              let may = may_find_none key.seats key.size n r.core r.notes s.words S (known A) ge in
              let q : (l : ℤ) → l ≡ r.core.lower → _ = λ l f. note_load Receiver FindsNoItem (λ bit. refl) may 32 (λ past. HasNoItem l (reverse past)) (f ∙ lower_is, none_from l r.core.lower ge f) in
              (v, keeps, tt, (q r.core.lower refl).0, only_empty (Then (v, m.1)) w r.core.lower (empty_word w r.core.lower word ge) word (λ l f. (q l f).1)))
        ]

    -- a word of the upper count shows whether the channel is drained
    drained_is : (u : InUse) → IsInUse (slice_index s.words 16) u → is_drained u ≡ (r.core.shut && is_void r.core)
    drained_is u is =
        let k = kept key.size r.core r.reached.reached r.encoded.some_cell in
        let exact = shut_exactly key s r in
        let same : u.is_shut ≡ r.core.shut = is_flag u.is_shut r.core.shut is.shut (λ e. exact.1 (k.closed.0 e)) (λ e high. k.closed.1 e (exact.0 high)) in
        let count : u.count ≡ r.core.upper = one_count u.is_shut r.core.shut (slice_index s.words 16) u.count r.core.upper same is.count r.encoded.words_are.upper_is in
        λ i. same i && not (int_lt (pos 0) (count i))

    pub tests_drained_again : HasAccount key.seats (λ g. g.receiver.stage ≡ PastLower) m
        → Permits key s r id n m at one 16 (λ w. w) (λ found after. (u : InUse) → IsInUse found u → TestedDrainedAgain key.size key.seats n (is_drained u) m after)
    tests_drained_again A =
        elim (true_or_false (r.core.shut && is_void r.core)) [
          | inl drained ↦ (let calm : QueueView T = sight m.0.names m.0.noted r.core.past Idle m.0.left in
              let q = quiet_load 16 (λ past. IsDrained (reverse past)) (was_drained drained) in
              (calm, keeps, tt, q.0, λ u is. subst (λ b. TestedDrainedAgain key.size key.seats n b m (calm, m.1)) (sym (drained_is u is ∙ drained)) q.1))
          | inr live ↦ (let v : QueueView T = sight m.0.names (with_note (note_by n (AsReceiver FallsAsleep) m) m.0.noted) r.core.past Idle m.0.left in
              let q = note_load Receiver FallsAsleep (λ bit. refl) (may_sleep_empty key.seats key.size n r.core r.notes s.words S (known A) live) 16 (λ past. IsDrained (reverse past) → ⊥) (was_live live) in
              (v, keeps, tt, q.0, λ u is. subst (λ b. TestedDrainedAgain key.size key.seats n b m (v, m.1)) (sym (drained_is u is ∙ live)) q.1))
        ]

    -- a check, whose note says what it found
    check_step : (d : Bool) → (r.core.shut && is_void r.core) ≡ d → (tells : List (Mark T) → Type 0) → tells r.core.past → Noted (Checks d) 16 (slice_index s.words 16) tells
    check_step d is tells told =
        let sleepers = checked key.seats key.size n r.core r.notes s.words S low idle d is s.words S.bits in
        note_step (Checks d) 16 (slice_index s.words 16) (loaded key s r id n m at one 16) (subst (AreSleepers key.size key.seats r.core _) (sym (set-get_or s.words 16 0)) sleepers) tells told

    pub checks_drained : Permits key s r id n m at one 16 (λ w. w) (λ found after. (u : InUse) → IsInUse found u → CheckedDrained key.size key.seats n (is_drained u) m after)
    checks_drained =
        let view : Bool → QueueView T = λ d. sight m.0.names (with_note (note_by n (Checks d) m) m.0.noted) r.core.past Idle m.0.left in
        elim (true_or_false (r.core.shut && is_void r.core)) [
          | inl drained ↦ (let q = check_step true drained (λ past. IsDrained (reverse past)) (was_drained drained) in
              (view true, keeps, tt, q.0, λ u is. subst (λ b. CheckedDrained key.size key.seats n b m (view true, m.1)) (sym (drained_is u is ∙ drained)) q.1))
          | inr live ↦ (let q = check_step false live (λ past. IsDrained (reverse past) → ⊥) (was_live live) in
              (view false, keeps, tt, q.0, λ u is. subst (λ b. CheckedDrained key.size key.seats n b m (view false, m.1)) (sym (drained_is u is ∙ live)) q.1))
        ]
