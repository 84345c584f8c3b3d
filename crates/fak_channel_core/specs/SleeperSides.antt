-- One side of a channel whose sleepers are bits, its senders or its receivers. An end that has to
-- wait sets its bit and tests again before it sleeps. An end that makes room or an item looks for a set bit, and clears it:
-- that wakes its end.
use Rattle.std.specs.Prelude.{ℕ, suc, zero, ◌+◌, ◌*◌, ◌/◌, ◌==◌, nat_eq, Bool, true, false, not, ◌&&◌, ◌||◌, if◌then◌else◌}
use Rattle.std.specs.Int.{bit_at}
use Rattle.fak_model.specs.declared.note.Sign.{Sign}
use Rattle.fak_model.specs.declared.note.Sign.TheVariants.{Registers, FindsNoItem, FallsAsleep, IsWoken, TakesBack, FindsBit, GivesUp, PassesWord, FindsWord, WakesEnd}
use Rattle.fak_core.specs.QueueMoves.{with_at}

-- how far an end has got on its way to sleep
pub data SleepStage : Type 0 where
  -- it is not on its way, and its bit is clear
  Awake : SleepStage
  -- it has set its bit
  Registered : SleepStage
  -- a receiver whose second test has found no item
  PastLower : SleepStage
  -- its second test has found nothing to wait for: it sleeps until its bit is clear
  Asleep : SleepStage
  -- it has found its bit cleared by another end, and has not tried again yet
  Woken : SleepStage

-- what an end has to do at one side: its stage; the looks for a sleeper that it owes; and the words of bits in which
-- these looks have found no bit set
pub record Duty : Type 0 where
  pub stage : SleepStage
  pub looks : ℕ
  pub passed : ℕ → Bool

-- the duty of each end at this side, and the bits, one for each end
pub record Side : Type 0 where
  pub duty : ℕ → Duty
  pub bit : ℕ → Bool

-- ---- what an end does at a side

-- one look more, which starts afresh
abbrev pub owes_look : Duty → Duty
owes_look g = record g { looks = g.looks + 1; passed = λ w. false }

-- a woken end has tried again
abbrev pub tried_stage : SleepStage → SleepStage
tried_stage Woken = Awake
tried_stage p = p

abbrev pub tried : Duty → Duty
tried g = record g { stage = tried_stage g.stage }

-- whether all numbers below this one pass the test
abbrev pub all_below : (ℕ → Bool) → ℕ → Bool
all_below f zero = true
all_below f (suc m) = f m && all_below f m

-- 64 bits share a word. Once the looks have passed the words of all n ends, nobody sleeps whom they could wake
abbrev pub has_passed : ℕ → (ℕ → Bool) → Bool
has_passed n passed = all_below (λ k. passed (k / 64)) n

abbrev pub passes_word : ℕ → ℕ → Duty → Duty
passes_word n w g =
    let passed = λ (v : ℕ). (v == w) || g.passed v in record g { looks = if has_passed n passed then 0 else g.looks; passed = passed }

abbrev pub less : ℕ → ℕ
less zero = zero
less (suc d) = d

-- the duty of an end after its sign, among n ends
abbrev pub after_sign : ℕ → Sign → Duty → Duty
after_sign n Registers g = record g { stage = Registered }
after_sign n FindsNoItem g = record g { stage = PastLower }
after_sign n FallsAsleep g = record g { stage = Asleep }
after_sign n IsWoken g = record g { stage = Woken }
after_sign n TakesBack g = record g { stage = Awake }
after_sign n (FindsBit k b) g = g
after_sign n GivesUp g = owes_look (record g { stage = Awake })
after_sign n (PassesWord w) g = passes_word n w g
after_sign n (FindsWord w found) g = g
after_sign n (WakesEnd k) g = record g { looks = less g.looks }

-- the bits after a sign of end e
abbrev pub bits_after : Sign → ℕ → (ℕ → Bool) → ℕ → Bool
bits_after Registers e bit = with_at bit e true
bits_after TakesBack e bit = with_at bit e false
bits_after (WakesEnd k) e bit = with_at bit k false
bits_after _ e bit = bit

-- ---- when it may

abbrev pub is_awake : SleepStage → Bool
is_awake Awake = true
is_awake _ = false

abbrev pub is_registered : SleepStage → Bool
is_registered Registered = true
is_registered _ = false

abbrev pub is_past_lower : SleepStage → Bool
is_past_lower PastLower = true
is_past_lower _ = false

abbrev pub is_woken : SleepStage → Bool
is_woken Woken = true
is_woken _ = false

-- it has set its bit, and has not seen it clear
abbrev pub relies_on_bit : SleepStage → Bool
relies_on_bit Registered = true
relies_on_bit PastLower = true
relies_on_bit Asleep = true
relies_on_bit _ = false

-- no bit of word w is set
abbrev pub is_clear : (ℕ → Bool) → ℕ → Bool
is_clear bit w = all_below (λ j. not (bit (64 * w + j))) 64

-- whether a bit is as it was found
abbrev pub is_as : Bool → Bool → Bool
is_as true b = b
is_as false b = not b

-- bit j of this number is set
abbrev pub has_bit : ℕ → ℕ → Bool
has_bit found j = nat_eq (bit_at found j) 1

-- the bits of word w are those of this number
abbrev pub shows_bits : (ℕ → Bool) → ℕ → ℕ → Bool
shows_bits bit w found = all_below (λ j. is_as (has_bit found j) (bit (64 * w + j))) 64

-- end e may leave this sign; the second tests of the counts depend on the side
abbrev pub may_sign : Side → ℕ → Sign → Bool
may_sign d e Registers = is_awake (d.duty e).stage
may_sign d e FindsNoItem = false
may_sign d e FallsAsleep = false
may_sign d e IsWoken = relies_on_bit (d.duty e).stage && not (d.bit e)
may_sign d e TakesBack = relies_on_bit (d.duty e).stage && d.bit e
may_sign d e (FindsBit k b) = is_as b (d.bit k)
may_sign d e GivesUp = is_woken (d.duty e).stage
may_sign d e (PassesWord w) = is_clear d.bit w
may_sign d e (FindsWord w found) = shows_bits d.bit w found
may_sign d e (WakesEnd k) = d.bit k
