-- The table of an empty queue shows the opening state.
use Rattle.fak_core.specs.declared.queue.phase.Phase.TheVariants as phase
use Rattle.fak_core.specs.QueueSchedule as core
use Rattle.fak_model.proofs.Appending.{history_none}
use Rattle.fak_channel_core.specs.SleeperMoves.{sleeper_opening}
use Rattle.fak_queue.specs.declared.role.Role.{Role}
use Rattle.fak_queue.specs.declared.role.Role.TheVariants.{Sender, Receiver}
use Rattle.fak_channel_core.specs.SleeperSides.{has_bit}
use Rattle.fak_queue.specs.Sleepers.{bits_as, is_set}
use Rattle.std.specs.Prelude.{◌/◌, ◌%◌, ◌≢◌, nat_eq}
use Rattle.std.proofs.Common.{ap}
use Rattle.std.proofs.lemmas.Nat.Bits.{bit_at-zero}
use Rattle.fak_queue.proofs.Sleepers.{few_words}
use Rattle.fak_queue.proofs.Common.{Alike, QueueLimits, AreWords, seat_of, idle, IsQueueSeat, queue_seat, ◌≡◌, ℕ, zero, suc, ◌+◌, ◌*◌, ◌<◌, false, List, [], ◌∷◌, length, slice_index, map, set, replicate, refl, sym, ◌∙◌, subst, inl, arith, Some, length-set, get_or-set_other, None, pos, length-map, length-replicate, get_or-replicate, some, get_elem?, ObjectId, seat_info, sight, IsSeatToken, queue_rules, bias, opening, is_reached, QueueHolder, IsEncoded, queue_object, IsShownQueue, opened_queue, IsInLargeRange, IsLargeSize, common_steps, starts}

read_map : {A : Type 0} (n c : ℕ) (a : A) → c < n → get_elem? (map some (replicate n a)) c ≡ some (some a)
read_map zero c a near = absurd (omega (arith, near))
read_map (suc n) zero a near = refl
read_map (suc n) (suc c) a near = read_map n c a (omega (arith, near))

-- zeros, and the bias at the two counts
abbrev pub first_words : ℕ → List ℕ
first_words size = set (set (replicate (size + 96) 0) 16 bias) 32 bias

first_are_words : (size : ℕ) → AreWords size (pos 0) (pos 0) 0 0 (λ c. 0) false (first_words size)
first_are_words size = grind (arith, common_steps, replicate, set, bias, length, length-replicate, length-set, slice_index, get_or-set_other, get_or-replicate)

zero_word : (size j : ℕ) → j < size + 96 → j ≢ 16 → j ≢ 32 → slice_index (first_words size) j ≡ 0
zero_word size j near up low = grind (arith, common_steps, slice_index, get_or-set_other, get_or-replicate)

no_bit : (key : QueueLimits) (words : List ℕ) → words ≡ first_words key.size → (j b : ℕ) → j < key.size + 96 → j ≢ 16 → j ≢ 32 → has_bit (slice_index words j) b ≡ false
no_bit key words is j b near up low = ap (λ ws. has_bit (slice_index ws j) b) is ∙ (ap (λ w. has_bit w b) (zero_word key.size j near up low) ∙ ap (λ d. nat_eq d 1) (bit_at-zero b))

clear_bits : (T : Type 0) (key : QueueLimits) (words : List ℕ) → words ≡ first_words key.size → (role : Role) (k : ℕ) → k < 1024 → is_set role key.size words k ≡ bits_as role (sleeper_opening {A = T}) k
clear_bits T key words is Sender k l = let s = few_words k l in no_bit key words is (0 + k / 64) (k % 64) (omega (arith, s)) (λ q. absurd (omega (arith, s, q))) (λ q. absurd (omega (arith, s, q)))
clear_bits T key words is Receiver k l = let s = few_words k l in no_bit key words is (80 + key.size + k / 64) (k % 64) (omega (arith, s)) (λ q. absurd (omega (arith, q))) (λ q. absurd (omega (arith, q)))

pub opens_queue : {T : Type 0} (key : QueueLimits) (words : List ℕ) → words ≡ first_words key.size → IsInLargeRange (IsLargeSize key.size) key.seats key.stint → IsShownQueue {T = T} key (opening words (replicate key.size None) (opened_queue key))
opens_queue {T} key words is range =
    let shows : IsEncoded key.size key.seats (core.opening {A = T}) (λ n. []) words (map some (replicate key.size None)) = record {
      sleepers = record { state = sleeper_opening; queue = refl; schedule = []; leads = refl; bits = clear_bits T key words is; accounts = λ k. refl; within = λ k. tt };
      some_cell = (let low = range.0.0 in omega (arith, low));
      few_cells = range.0.1;
      few_seats = range.1.1;
      words_are = subst (AreWords key.size (pos 0) (pos 0) 0 0 (λ c. 0) false) (sym is) (first_are_words key.size);
      wide = length-map (replicate key.size None) some ∙ length-replicate key.size None;
      slots_are = λ i lt. inl (record { odd = λ q f. absurd (omega (arith, f)); even = λ q f. read_map key.size i None lt }, λ t inside. inside);
    } in
    let few = range.2.1 in
    starts (queue_object key.size key.seats) (Alike phase.Idle) (key.seats * key.stint) core.opening (record { reached = is_reached key.size []; beyond = λ n far. refl }) refl (λ n low. refl) words (replicate key.size None) shows (omega (arith, few))

-- a seat as it is dealt
pub fresh_queue_seat : {T : Type 0} (object : ObjectId) (name stint : ℕ) (m : QueueHolder T) → m ≡ (sight (name ∷ []) (Some []) [] phase.Idle stint, []) → queue_seat object name stint m ≡ seat_info object name stint []
fresh_queue_seat {T} object name stint m is = grind (arith, common_steps, queue_seat, seat_info)

pub fresh_keeps : {T : Type 0} (size seats name stint : ℕ) (m : QueueHolder T) → m ≡ (sight (name ∷ []) (Some []) [] phase.Idle stint, []) → IsSeatToken seat_of seats name (Alike phase.Idle) stint m → IsQueueSeat size seats name phase.Idle stint m
fresh_keeps {T} size seats name stint m is token = subst (λ (x : QueueHolder T). IsSeatToken seat_of seats name (Alike phase.Idle) stint x → IsQueueSeat size seats name phase.Idle stint x) (sym is) (λ t. record { token = t; rests = idle; lawful = history_none (queue_rules size) }) token
