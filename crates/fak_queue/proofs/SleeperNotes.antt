-- The sleepers of a channel after a note of one seat, which may change a bit.
use Rattle.std.specs.Prelude.{◌≡◌, ◌≢◌, ℕ, ◌+◌, ◌/◌, ◌%◌, ◌<◌, ◌≤◌, ◌==◌, ◌&&◌, ◌||◌, zero, suc, cond, not, Bool, true, false, pos, int_lt, List, [], ◌∷◌, ◌++◌, length, slice_index}
use Rattle.std.proofs.Common.{inl, inr, arith}
use Rattle.std.proofs.Math.ListN.{set}
use Rattle.std.proofs.lemmas.List.{get_or-set_same}
use Rattle.fak_model.specs.declared.note.Note.{Note}
use Rattle.fak_model.specs.declared.note.NoteKind.{NoteKind}
use Rattle.fak_model.specs.declared.note.NoteKind.TheVariants.{AsSender, AsReceiver, Checks}
use Rattle.fak_model.specs.declared.note.Sign.{Sign}
use Rattle.fak_model.specs.declared.note.Sign.TheVariants.{Registers, FindsNoItem, FallsAsleep, IsWoken, TakesBack, FindsBit, GivesUp, PassesWord, FindsWord, WakesEnd}
use Rattle.fak_core.specs.declared.queue.phase.Phase.TheVariants.{Idle}
use Rattle.fak_core.specs.QueueMoves.{QueueState, with_at}
use Rattle.fak_core.proofs.Common.{refl, sym, ap, ◌∙◌, subst, same_or_not, cond_here, cond_else}
use Rattle.fak_core.proofs.QueueTurns.{at_here, at_else}
use Rattle.fak_channel_core.specs.SleeperSides.{Awake, Registered, PastLower, Woken, all_below, bits_after, is_awake, is_clear, is_past_lower, is_registered, is_woken, relies_on_bit, has_bit, shows_bits}
use Rattle.fak_channel_core.specs.SleeperMoves.{Account, after_note, SleeperState, sleeper_opening, sender_side, receiver_side, with_deed, Notes, is_void, sender_may, receiver_may, is_idle, sender_signs, receiver_signs}
use Rattle.fak_channel_core.specs.SleeperSchedule.{SleeperEvent, SenderSigns, ReceiverSigns, ChecksUpper, sleeper_happens, sleeper_run}
use Rattle.fak_channel_core.proofs.SleeperTests.{if_so, make_both}
use Rattle.fak_queue.specs.declared.role.Role.{Role}
use Rattle.fak_queue.specs.declared.role.Role.TheVariants.{Sender, Receiver}
use Rattle.fak_queue.specs.Accounts.{account_of, kinds_by, AreWithin}
use Rattle.fak_queue.specs.Sleepers.{AreSleepers, as_role, bits_as, duty_as, first_bits, is_set}
use Rattle.fak_queue.proofs.Accounts.{account_noted}
use Rattle.fak_queue.proofs.Sleepers.{bits_stay, few_words, low_event, sleeper-append, word_else}

at_same : (f : ℕ → Bool) (k : ℕ) (b : Bool) → f k ≡ b → (j : ℕ) → with_at f k b j ≡ f j
at_same f k b is j = elim (same_or_not j k) [
  | inl q ↦ ap (with_at f k b) q ∙ (at_here f k b ∙ (sym is ∙ ap f (sym q)))
  | inr ne ↦ at_else f k j b ne
]

-- ---- signs by role

-- the state after a sign of the seat n, and whether it may leave it
abbrev pub signs_as : {T : Type 0} → Role → ℕ → SleeperState T → ℕ → Sign → SleeperState T
signs_as Sender seats s n v = sender_signs seats s n v
signs_as Receiver seats s n v = receiver_signs seats s n v

abbrev pub may_as : {T : Type 0} → Role → ℕ → SleeperState T → ℕ → Sign → Bool
may_as Sender size s n v = sender_may size s.queue (sender_side s) n v
may_as Receiver size s n v = receiver_may s.queue (receiver_side s) n v

module _ {T : Type 0} (seats size n : ℕ) (core : QueueState T) (notes : ℕ → List Note) (words : List ℕ) (S : AreSleepers size seats core notes words) where
  -- ---- notes

  abbrev pub note_of : NoteKind → Note
  note_of k = record { kind = k; after = length (kinds_by n core.past) }

  abbrev pub notes_with : NoteKind → ℕ → List Note
  notes_with k j = cond (j == n) (note_of k ∷ notes n) (notes j)

  abbrev IsNoted : NoteKind → (ℕ → Account) → ℕ → List Note → Type 0
  IsNoted k accounts j l = (accounts j ≡ account_of seats l (kinds_by j core.past)) × AreWithin l (length (kinds_by j core.past))

  own_note : (k : NoteKind) → IsNoted k (with_at S.state.accounts n (after_note seats k (S.state.accounts n))) n (note_of k ∷ notes n)
  own_note k = (
    at_here S.state.accounts n (after_note seats k (S.state.accounts n)) ∙ (ap (after_note seats k) (S.accounts n) ∙ sym (account_noted seats k (notes n) (kinds_by n core.past))),
    omega arith,
  )

  each_note : (k : NoteKind) (j : ℕ) → IsNoted k (with_at S.state.accounts n (after_note seats k (S.state.accounts n))) j (notes_with k j)
  each_note k j = elim (same_or_not j n) [
    | inl q ↦ subst (λ i. IsNoted k (with_at S.state.accounts n (after_note seats k (S.state.accounts n))) i (notes_with k i)) (sym q)
        (subst (IsNoted k (with_at S.state.accounts n (after_note seats k (S.state.accounts n))) n) (sym (cond_here n (note_of k ∷ notes n) (notes n))) (own_note k))
    | inr ne ↦ subst (IsNoted k (with_at S.state.accounts n (after_note seats k (S.state.accounts n))) j) (sym (cond_else j n (note_of k ∷ notes n) (notes j) ne))
        (at_else S.state.accounts n j (after_note seats k (S.state.accounts n)) ne ∙ S.accounts j, S.within j)
  ]

  -- the words show these bits
  abbrev pub ShowBits : List ℕ → SleeperState T → Type 0
  ShowBits ws t = (role : Role) (j : ℕ) → j < 1024 → is_set role size ws j ≡ bits_as role t j

  -- an event of the seat adds a note and leads to this state, which the words show
  noted : (k : NoteKind) (v : SleeperEvent T) (t : SleeperState T) → sleeper_happens seats size S.state v ≡ t → t.queue ≡ S.state.queue
      → t.accounts ≡ with_at S.state.accounts n (after_note seats k (S.state.accounts n)) → (ws : List ℕ) → ShowBits ws t → AreSleepers size seats core (notes_with k) ws
  noted k v t is queue accounts ws bits = record {
    state = t;
    queue = queue ∙ S.queue;
    schedule = S.schedule ++ v ∷ [];
    leads = sleeper-append seats size S.schedule (v ∷ []) sleeper_opening ∙ (ap (sleeper_run seats size (v ∷ [])) S.leads ∙ is);
    bits = bits;
    accounts = λ j. ap (λ (f : ℕ → Account). f j) accounts ∙ (each_note k j).0;
    within = λ j. (each_note k j).1;
  }

  module _ (low : n < seats) (idle : core.phase n ≡ Idle) where
    idle_now : is_idle (S.state.queue.phase n) ≡ true
    idle_now = ap (λ (q : QueueState T). is_idle (q.phase n)) S.queue ∙ ap is_idle idle

    -- a sign
    pub signed : (role : Role) (v : Sign) → may_as role size S.state n v ≡ true → (ws : List ℕ) → ShowBits ws (signs_as role seats S.state n v) → AreSleepers size seats core (notes_with (as_role role v)) ws
    signed Sender v may ws bits =
        let b = is_idle (S.state.queue.phase n) && sender_may size S.state.queue (sender_side S.state) n v in
        let is = low_event seats size S.state (SenderSigns n v) low ∙ if_so b (sender_signs seats S.state n v) S.state (make_both _ _ idle_now may) in
        noted (AsSender v) (SenderSigns n v) (sender_signs seats S.state n v) is refl refl ws bits
    signed Receiver v may ws bits =
        let b = is_idle (S.state.queue.phase n) && receiver_may S.state.queue (receiver_side S.state) n v in
        let is = low_event seats size S.state (ReceiverSigns n v) low ∙ if_so b (receiver_signs seats S.state n v) S.state (make_both _ _ idle_now may) in
        noted (AsReceiver v) (ReceiverSigns n v) (receiver_signs seats S.state n v) is refl refl ws bits

    -- a check
    pub checked : (d : Bool) → (core.shut && is_void core) ≡ d → (ws : List ℕ) → ShowBits ws S.state → AreSleepers size seats core (notes_with (Checks d)) ws
    checked d is_d ws bits =
        let drained : (S.state.queue.shut && is_void S.state.queue) ≡ d = ap (λ (q : QueueState T). q.shut && is_void q) S.queue ∙ is_d in
        let t : SleeperState T = with_deed seats S.state n (Notes (Checks d)) in
        let is = low_event seats size S.state (ChecksUpper n) low
        ∙ (if_so (is_idle (S.state.queue.phase n)) (with_deed seats S.state n (Notes (Checks (S.state.queue.shut && is_void S.state.queue)))) S.state idle_now
        ∙ ap (λ c. with_deed seats S.state n (Notes (Checks c))) drained) in
        noted (Checks d) (ChecksUpper n) t is refl refl ws (λ role j l. bits role j l ∙ ap (λ (f : ℕ → Bool). f j) (sym (bits_stay role S.state t refl refl)))

  -- ---- bits

  -- a sign that changes no bit
  pub same_bits : (role : Role) (v : Sign) → ((bit : ℕ → Bool) → bits_after v n bit ≡ bit) → (ws : List ℕ) → ShowBits ws S.state → ShowBits ws (signs_as role seats S.state n v)
  same_bits Sender v keeps ws shows Sender j l = shows Sender j l ∙ ap (λ (f : ℕ → Bool). f j) (sym (keeps S.state.senders))
  same_bits Sender v keeps ws shows Receiver j l = shows Receiver j l
  same_bits Receiver v keeps ws shows Sender j l = shows Sender j l
  same_bits Receiver v keeps ws shows Receiver j l = shows Receiver j l ∙ ap (λ (f : ℕ → Bool). f j) (sym (keeps S.state.receivers))

  -- the bits of one role stay as they are when a bit of the other changes
  senders_stay : (i w j : ℕ) → 80 + size ≤ i → j < 1024 → is_set Sender size (set words i w) j ≡ S.state.senders j
  senders_stay i w j far l = let few = few_words j l in ap (λ x. has_bit x (j % 64)) (word_else words i (0 + j / 64) w (λ q. absurd (omega (arith, few, far, q)))) ∙ S.bits Sender j l

  receivers_stay : (i w j : ℕ) → i < 16 → j < 1024 → is_set Receiver size (set words i w) j ≡ S.state.receivers j
  receivers_stay i w j near l = ap (λ x. has_bit x (j % 64)) (word_else words i (80 + size + j / 64) w (λ q. absurd (omega (arith, near, q)))) ∙ S.bits Receiver j l

  -- the word of end k becomes w, in which its bit is b and all others are as they were
  module _ (role : Role) (k : ℕ) (small : k < 1024) (wide : length words ≡ 96 + size) (b : Bool) (w : ℕ) (here : has_bit w (k % 64) ≡ b)
      (others : (i : ℕ) → i < 64 → i ≢ k % 64 → has_bit w i ≡ has_bit (slice_index words (first_bits role size + k / 64)) i) where
    abbrev place : ℕ
    place = first_bits role size + k / 64

    abbrev pub after_write : List ℕ
    after_write = set words place w

    within_words : (r : Role) → first_bits r size + k / 64 < length words
    within_words Sender = let few = few_words k small in omega (arith, few, wide)
    within_words Receiver = let few = few_words k small in omega (arith, few, wide)

    word_here : slice_index after_write place ≡ w
    word_here = get_or-set_same words place w 0 (within_words role)

    pub own_bit : (j : ℕ) → j < 1024 → is_set role size after_write j ≡ with_at (bits_as role S.state) k b j
    own_bit j l = elim (same_or_not j k) [
      | inl q ↦ subst (λ i. is_set role size after_write i ≡ with_at (bits_as role S.state) k b i) (sym q) (ap (λ x. has_bit x (k % 64)) word_here ∙ (here ∙ sym (at_here (bits_as role S.state) k b)))
      | inr ne ↦ elim (same_or_not (j / 64) (k / 64)) [
        | inl q ↦ (let old = ap (λ i. has_bit (slice_index words (first_bits role size + i)) (j % 64)) (sym q) ∙ (S.bits role j l ∙ sym (at_else (bits_as role S.state) k j b ne)) in
            ap (λ i. has_bit (slice_index after_write (first_bits role size + i)) (j % 64)) q
            ∙ (ap (λ x. has_bit x (j % 64)) word_here ∙ (others (j % 64) (omega arith) (λ e. ne (omega (arith, q, e))) ∙ old)))
        | inr far ↦ ap (λ x. has_bit x (j % 64)) (word_else words place (first_bits role size + j / 64) w (λ e. far (omega (arith, e)))) ∙ (S.bits role j l ∙ sym (at_else (bits_as role S.state) k j b ne))
      ]
    ]

  -- so it shows a sign that changes this bit
  pub changed_bit : (role : Role) (v : Sign) (k : ℕ) → k < 1024 → length words ≡ 96 + size → (b : Bool) → ((bit : ℕ → Bool) → bits_after v n bit ≡ with_at bit k b) → (w : ℕ) → has_bit w (k % 64) ≡ b
      → ((i : ℕ) → i < 64 → i ≢ k % 64 → has_bit w i ≡ has_bit (slice_index words (first_bits role size + k / 64)) i)
      → ShowBits (set words (first_bits role size + k / 64) w) (signs_as role seats S.state n v)
  changed_bit Sender v k small wide b changes w here others Sender j l = own_bit Sender k small wide b w here others j l ∙ ap (λ (f : ℕ → Bool). f j) (sym (changes S.state.senders))
  changed_bit Sender v k small wide b changes w here others Receiver j l = let few = few_words k small in receivers_stay (0 + k / 64) w j (omega (arith, few)) l
  changed_bit Receiver v k small wide b changes w here others Sender j l = senders_stay (80 + size + k / 64) w j (omega arith) l
  changed_bit Receiver v k small wide b changes w here others Receiver j l = own_bit Receiver k small wide b w here others j l ∙ ap (λ (f : ℕ → Bool). f j) (sym (changes S.state.receivers))

  -- a bit that is clear is cleared
  pub same_bit : (role : Role) (k : ℕ) → k < 1024 → length words ≡ 96 + size → bits_as role S.state k ≡ false → (w : ℕ) → has_bit w (k % 64) ≡ false
      → ((i : ℕ) → i < 64 → i ≢ k % 64 → has_bit w i ≡ has_bit (slice_index words (first_bits role size + k / 64)) i)
      → ShowBits (set words (first_bits role size + k / 64) w) S.state
  same_bit Sender k small wide is w here others Sender j l = own_bit Sender k small wide false w here others j l ∙ at_same S.state.senders k false is j
  same_bit Sender k small wide is w here others Receiver j l = let few = few_words k small in receivers_stay (0 + k / 64) w j (omega (arith, few)) l
  same_bit Receiver k small wide is w here others Sender j l = senders_stay (80 + size + k / 64) w j (omega arith) l
  same_bit Receiver k small wide is w here others Receiver j l = own_bit Receiver k small wide false w here others j l ∙ at_same S.state.receivers k false is j

  -- ---- when the seat may leave a sign

  pub may_register : (role : Role) → (duty_as role (S.state.accounts n)).stage ≡ Awake → may_as role size S.state n Registers ≡ true
  may_register Sender e = ap is_awake e
  may_register Receiver e = ap is_awake e

  pub may_be_woken : (role : Role) → relies_on_bit (duty_as role (S.state.accounts n)).stage ≡ true → bits_as role S.state n ≡ false → may_as role size S.state n IsWoken ≡ true
  may_be_woken Sender e clear = make_both _ _ e (ap not clear)
  may_be_woken Receiver e clear = make_both _ _ e (ap not clear)

  pub may_take_back : (role : Role) → relies_on_bit (duty_as role (S.state.accounts n)).stage ≡ true → bits_as role S.state n ≡ true → may_as role size S.state n TakesBack ≡ true
  may_take_back Sender e is = make_both _ _ e is
  may_take_back Receiver e is = make_both _ _ e is

  pub may_give_up : (role : Role) → (duty_as role (S.state.accounts n)).stage ≡ Woken → may_as role size S.state n GivesUp ≡ true
  may_give_up Sender e = ap is_woken e
  may_give_up Receiver e = ap is_woken e

  pub may_pass : (role : Role) (w : ℕ) → is_clear (bits_as role S.state) w ≡ true → may_as role size S.state n (PassesWord w) ≡ true
  may_pass Sender w e = e
  may_pass Receiver w e = e

  pub may_find : (role : Role) (k : ℕ) (b : Bool) → bits_as role S.state k ≡ b → may_as role size S.state n (FindsBit k b) ≡ true
  may_find Sender k true e = e
  may_find Sender k false e = ap not e
  may_find Receiver k true e = e
  may_find Receiver k false e = ap not e

  pub may_find_word : (role : Role) (w found : ℕ) → shows_bits (bits_as role S.state) w found ≡ true → may_as role size S.state n (FindsWord w found) ≡ true
  may_find_word Sender w found e = e
  may_find_word Receiver w found e = e

  pub may_wake : (role : Role) (k : ℕ) → bits_as role S.state k ≡ true → may_as role size S.state n (WakesEnd k) ≡ true
  may_wake Sender k e = e
  may_wake Receiver k e = e

  -- the second tests, by what the queue shows
  pub may_sleep_full : (S.state.accounts n).sender.stage ≡ Registered → core.shut ≡ false → int_lt core.upper (pos size) ≡ false → may_as Sender size S.state n FallsAsleep ≡ true
  may_sleep_full e opn full =
      let free : (S.state.queue.shut || int_lt S.state.queue.upper (pos size)) ≡ false = ap (λ (q : QueueState T). q.shut || int_lt q.upper (pos size)) S.queue ∙ (ap (λ b. b || int_lt core.upper (pos size)) opn ∙ full) in
      make_both _ _ (ap is_registered e) (ap not free)

  pub may_find_none : (S.state.accounts n).receiver.stage ≡ Registered → int_lt (pos 0) core.lower ≡ false → may_as Receiver size S.state n FindsNoItem ≡ true
  may_find_none e none = make_both _ _ (ap is_registered e) (ap not (ap (λ (q : QueueState T). int_lt (pos 0) q.lower) S.queue ∙ none))

  pub may_sleep_empty : (S.state.accounts n).receiver.stage ≡ PastLower → (core.shut && is_void core) ≡ false → may_as Receiver size S.state n FallsAsleep ≡ true
  may_sleep_empty e live = make_both _ _ (ap is_past_lower e) (ap not (ap (λ (q : QueueState T). q.shut && is_void q) S.queue ∙ live))

-- a word that is 0 has no bit
pub all_true : (f : ℕ → Bool) (m : ℕ) → ((j : ℕ) → j < m → f j ≡ true) → all_below f m ≡ true
all_true f zero all = refl
all_true f (suc m) all = make_both (f m) (all_below f m) (all m (omega arith)) (all_true f m (λ j l. all j (omega (arith, l))))
