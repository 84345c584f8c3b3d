-- Each step on the bits of sleepers is one that the table's rule allows.
use Rattle.std.specs.Prelude.{◌%◌}
use Rattle.std.specs.Int.Bits.{bit_and}
use Rattle.fak_core.specs.declared.queue.phase.Phase.TheVariants.{Idle}
use Rattle.fak_channel_core.specs.SleeperSides.{Awake, Registered, PastLower, Woken, relies_on_bit, has_bit}
use Rattle.fak_queue.specs.declared.role.Role.{Role}
use Rattle.fak_queue.specs.declared.role.Role.TheVariants.{Sender, Receiver}
use Rattle.fak_queue.specs.SeatAccounts.{HasAccount}
use Rattle.fak_queue.specs.BitSteps.{mask_of, others_of, SetBit, SawBit, TookBack, GaveUp, Looked, Cleared, TestsRoomAgain, TestsItemAgain, TestsDrainedAgain, ChecksDrained}
use Rattle.fak_queue.specs.Sleepers.{duty_as, first_bits}
use Rattle.fak_queue.proofs.Allowed.{named, of_step}
use Rattle.fak_queue.proofs.BitSteps.{sets_bit, sees_bit, takes_back, gives_up, looks, clears, tests_room_again, tests_item_again, tests_drained_again, checks_drained}
use Rattle.fak_queue.proofs.Stepping.{QueueTable, Permits}
use Rattle.fak_queue.proofs.Common.{Alike, QueueLimits, QueueHolder, IsShownQueue, ◌≡◌, ℕ, ◌+◌, ◌/◌, ◌<◌, [], ◌∷◌, refl, sym, ap, ◌∙◌, subst, arith, bit_or, true, Some, some, get_elem?, Allows, Named}
use Rattle.fak_channel_core.specs.SleeperMoves.{Account}

-- the word of a bit, by the number of slots
pub bit_word : (role : Role) (size slots i j : ℕ) → size ≡ slots → i ≡ first_bits role size + j → i ≡ first_bits role slots + j
bit_word role size slots i j same is = is ∙ ap (λ z. first_bits role z + j) same

-- it is in the table
pub bits_within : (role : Role) (slots words i j : ℕ) → words ≡ 96 + slots → i ≡ first_bits role slots + j → j < 16 → i < words
bits_within Sender slots words i j wide is l = omega (arith, wide, is, l)
bits_within Receiver slots words i j wide is l = omega (arith, wide, is, l)

module _ {T : Type 0} (key : QueueLimits) (slots seats id n : ℕ) (m : QueueHolder T) (few : key.seats ≡ seats) (one : m.0.names ≡ n ∷ []) where
  -- a step on a word of bits, whose place depends on the number of slots
  of_bits : (role : Role) (j i : ℕ) → i ≡ first_bits role slots + j → (f : ℕ → ℕ) (then : ℕ → ℕ → ℕ → ℕ → QueueHolder T → Type 0)
      → ((s : QueueTable T) (r : IsShownQueue key s) (at : get_elem? s.views id ≡ some m.0) → Permits key s r id n m at one (first_bits role key.size + j) f (then key.size key.seats n))
      → Allows (IsShownQueue key) slots id m i f (λ found after. Named m (λ k. then slots seats k found after))
  of_bits role j i is f then all = named key slots seats id n m few one i f (then slots seats) (of_step key slots seats id n m few one i f (λ z q. then z q n) (λ s r at size.
      let place : first_bits role key.size + j ≡ i = ap (λ z. first_bits role z + j) size ∙ sym is in
      subst (λ k. Permits key s r id n m at one k f (then key.size key.seats n)) place (all s r at)))

  -- the account among the seats of the queue
  here : {is : Account → Type 0} → HasAccount seats is m → HasAccount key.seats is m
  here {is} A = subst (λ k. HasAccount k is m) (sym few) A

  module _ (e : m.0.phase ≡ Some (Alike Idle)) where
    -- a step on the bits of a role, whose play names the role and a number
    of_role : (said role : Role) → said ≡ role → (number k : ℕ) → number ≡ k → (i v w : ℕ) → v ≡ w → (f : ℕ → ℕ → ℕ) (then : Role → ℕ → ℕ → ℕ → QueueHolder T → Type 0)
        → Allows (IsShownQueue key) slots id m i (λ x. f x w) (λ found after. Named m (λ n. then role k n found after)) → Allows (IsShownQueue key) slots id m i (λ x. f x v) (λ found after. Named m (λ n. then said number n found after))
    of_role said role is number k number_is i v w v_is f then all = subst (λ (z : Role × ℕ × ℕ). Allows (IsShownQueue key) slots id m i (λ x. f x z.2) (λ found after. Named m (λ n. then z.0 z.1 n found after))) (λ q. (sym is q, sym number_is q, sym v_is q)) all

    pub sets_bit_allowed : (said role : Role) → said ≡ role → (i v : ℕ) → i ≡ first_bits role slots + n / 64 → v ≡ mask_of n → HasAccount seats (λ g. (duty_as role g).stage ≡ Awake) m
        → Allows (IsShownQueue key) slots id m i (λ w. bit_or w v) (λ found after. Named m (λ k. SetBit slots seats k said m after))
    sets_bit_allowed said role is_role i v is v_is A = of_role said role is_role 0 0 refl i v (mask_of n) v_is (λ w x. bit_or w x) (λ q _ k found after. SetBit slots seats k q m after)
        (of_bits role (n / 64) i is (λ w. bit_or w (mask_of n)) (λ z q k found after. SetBit z q k role m after) (λ s r at. sets_bit key s r id n m at one e role (here A)))

    pub sees_bit_allowed : (said role : Role) → said ≡ role → (i : ℕ) → i ≡ first_bits role slots + n / 64 → HasAccount seats (λ g. relies_on_bit (duty_as role g).stage ≡ true) m
        → Allows (IsShownQueue key) slots id m i (λ w. w) (λ found after. Named m (λ k. SawBit slots seats k said (has_bit found (k % 64)) m after))
    sees_bit_allowed said role is_role i is A = of_role said role is_role 0 0 refl i 0 0 refl (λ w _. w) (λ q _ k found after. SawBit slots seats k q (has_bit found (k % 64)) m after)
        (of_bits role (n / 64) i is (λ w. w) (λ z q k found after. SawBit z q k role (has_bit found (k % 64)) m after) (λ s r at. sees_bit key s r id n m at one e role (here A)))

    pub takes_back_allowed : (said role : Role) → said ≡ role → (i v : ℕ) → i ≡ first_bits role slots + n / 64 → v ≡ others_of n → HasAccount seats (λ g. relies_on_bit (duty_as role g).stage ≡ true) m
        → Allows (IsShownQueue key) slots id m i (λ w. bit_and w v) (λ found after. Named m (λ k. TookBack slots seats k said (has_bit found (k % 64)) m after))
    takes_back_allowed said role is_role i v is v_is A = of_role said role is_role 0 0 refl i v (others_of n) v_is (λ w x. bit_and w x) (λ q _ k found after. TookBack slots seats k q (has_bit found (k % 64)) m after)
        (of_bits role (n / 64) i is (λ w. bit_and w (others_of n)) (λ z q k found after. TookBack z q k role (has_bit found (k % 64)) m after) (λ s r at. takes_back key s r id n m at one e role (here A)))

    pub gives_up_allowed : (said role : Role) → said ≡ role → (i : ℕ) → i ≡ first_bits role slots + n / 64 → HasAccount seats (λ g. (duty_as role g).stage ≡ Woken) m
        → Allows (IsShownQueue key) slots id m i (λ w. w) (λ found after. Named m (λ k. GaveUp slots seats k said m after))
    gives_up_allowed said role is_role i is A = of_role said role is_role 0 0 refl i 0 0 refl (λ w _. w) (λ q _ k found after. GaveUp slots seats k q m after)
        (of_bits role (n / 64) i is (λ w. w) (λ z q k found after. GaveUp z q k role m after) (λ s r at. gives_up key s r id n m at one e role (here A)))

    pub looks_allowed : (said role : Role) → said ≡ role → (number j : ℕ) → number ≡ j → (i : ℕ) → i ≡ first_bits role slots + j → j < 16
        → Allows (IsShownQueue key) slots id m i (λ w. w) (λ found after. Named m (λ k. Looked slots seats k said number found m after))
    looks_allowed said role is_role number j is_number i is near = of_role said role is_role number j is_number i 0 0 refl (λ w _. w) (λ q o k found after. Looked slots seats k q o found m after)
        (of_bits role j i is (λ w. w) (λ z q k found after. Looked z q k role j found m after) (λ s r at. looks key s r id n m at one e role j near))

    pub clears_allowed : (said role : Role) → said ≡ role → (number o : ℕ) → number ≡ o → (i v : ℕ) → i ≡ first_bits role slots + o / 64 → v ≡ others_of o → o < 1024
        → Allows (IsShownQueue key) slots id m i (λ w. bit_and w v) (λ found after. Named m (λ k. Cleared slots seats k said number (has_bit found (number % 64)) m after))
    clears_allowed said role is_role number o is_number i v is v_is small = of_role said role is_role number o is_number i v (others_of o) v_is (λ w x. bit_and w x) (λ q p k found after. Cleared slots seats k q p (has_bit found (p % 64)) m after)
        (of_bits role (o / 64) i is (λ w. bit_and w (others_of o)) (λ z q k found after. Cleared z q k role o (has_bit found (o % 64)) m after) (λ s r at. clears key s r id n m at one e role o small))

    -- a step on a word of the queue's own
    of_own : (i : ℕ) (then : ℕ → ℕ → ℕ → ℕ → QueueHolder T → Type 0)
        → ((s : QueueTable T) (r : IsShownQueue key s) (at : get_elem? s.views id ≡ some m.0) → Permits key s r id n m at one i (λ w. w) (then key.size key.seats n))
        → Allows (IsShownQueue key) slots id m i (λ w. w) (λ found after. Named m (λ k. then slots seats k found after))
    of_own i then all = named key slots seats id n m few one i (λ w. w) (then slots seats) (of_step key slots seats id n m few one i (λ w. w) (λ z q. then z q n) (λ s r at size. all s r at))

    pub tests_room_again_allowed : HasAccount seats (λ g. g.sender.stage ≡ Registered) m → Allows (IsShownQueue key) slots id m 16 (λ w. w) (λ found after. Named m (λ k. TestsRoomAgain slots seats k m found after))
    tests_room_again_allowed A = of_own 16 (λ z q k found after. TestsRoomAgain z q k m found after) (λ s r at. tests_room_again key s r id n m at one e (here A))

    pub tests_item_again_allowed : HasAccount seats (λ g. g.receiver.stage ≡ Registered) m → Allows (IsShownQueue key) slots id m 32 (λ w. w) (λ found after. Named m (λ k. TestsItemAgain slots seats k m found after))
    tests_item_again_allowed A = of_own 32 (λ z q k found after. TestsItemAgain z q k m found after) (λ s r at. tests_item_again key s r id n m at one e (here A))

    pub tests_drained_again_allowed : HasAccount seats (λ g. g.receiver.stage ≡ PastLower) m → Allows (IsShownQueue key) slots id m 16 (λ w. w) (λ found after. Named m (λ k. TestsDrainedAgain slots seats k m found after))
    tests_drained_again_allowed A = of_own 16 (λ z q k found after. TestsDrainedAgain z q k m found after) (λ s r at. tests_drained_again key s r id n m at one e (here A))

    pub checks_drained_allowed : Allows (IsShownQueue key) slots id m 16 (λ w. w) (λ found after. Named m (λ k. ChecksDrained slots seats k m found after))
    checks_drained_allowed = of_own 16 (λ z q k found after. ChecksDrained z q k m found after) (λ s r at. checks_drained key s r id n m at one e)
