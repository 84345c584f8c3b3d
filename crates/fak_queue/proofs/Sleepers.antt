-- The sleepers of a channel after steps of its queue. Any seat may take any of them, whatever sleeps.
use Rattle.std.specs.Prelude.{◌≡◌, ◌≢◌, ℕ, ◌+◌, ◌/◌, ◌%◌, ◌<◌, ◌≤◌, Bool, Option, Some, None, List, [], ◌∷◌, ◌++◌, length, slice_index, nat_lt}
use Rattle.std.proofs.Common.{inl, inr, arith}
use Rattle.std.proofs.Math.ListN.{set}
use Rattle.std.proofs.lemmas.List.{get_or-set_other}
use Rattle.std.proofs.lemmas.Grind.{common_steps}
use Rattle.fak_model.specs.declared.note.Note.{Note}
use Rattle.fak_model.specs.declared.queue.Kind.{Kind}
use Rattle.fak_model.specs.declared.queue.Mark.{Mark}
use Rattle.fak_core.specs.declared.queue.phase.Phase.{Phase}
use Rattle.fak_core.specs.declared.queue.phase.Phase.TheVariants.{TestUp, TestLow, SetShut}
use Rattle.fak_core.specs.declared.queue.step.QueueMove.{QueueMove}
use Rattle.fak_core.specs.QueueMoves.{QueueState, with_at, next_move, past_after}
use Rattle.fak_core.specs.QueueSchedule.{QueueEvent, Inserts, Deletes, Shuts, Advances, begun, run}
use Rattle.fak_core.proofs.Common.{refl, sym, ap, ◌∙◌, subst, same_or_not}
use Rattle.fak_core.proofs.QueueTurns.{at_here, at_else}
use Rattle.fak_channel_core.specs.SleeperMoves.{Account, Marks, after_deed, after_mark, SleeperState, sleeper_opening, queue_step, queue_event}
use Rattle.fak_channel_core.specs.SleeperSchedule.{SleeperEvent, OfQueue, end_of, sleeper_event, sleeper_happens, sleeper_run}
use Rattle.fak_channel_core.proofs.SleeperReached.{queue_goes}
use Rattle.fak_channel_core.proofs.SleeperTests.{if_so, lt_true}
use Rattle.fak_queue.specs.declared.role.Role.{Role}
use Rattle.fak_queue.specs.declared.role.Role.TheVariants.{Sender, Receiver}
use Rattle.fak_queue.specs.Accounts.{account_of, kinds_by, AreWithin}
use Rattle.fak_channel_core.specs.SleeperSides.{has_bit}
use Rattle.fak_queue.specs.Sleepers.{AreSleepers, bits_as, first_bits}
use Rattle.fak_queue.proofs.Accounts.{account_marked, kinds_else, kinds_own, within_more}
use Rattle.fak_queue.proofs.ReachedFrom.{AreLow, IsReachedFrom}

-- ---- accounts

-- the notes and the marks tell each account
abbrev pub AreTold : {T : Type 0} → ℕ → (ℕ → List Note) → (ℕ → Account) → List (Mark T) → Type 0
AreTold seats notes accounts past = (k : ℕ) → (accounts k ≡ account_of seats (notes k) (kinds_by k past)) × AreWithin (notes k) (length (kinds_by k past))

module _ {T : Type 0} (seats : ℕ) (notes : ℕ → List Note) (accounts : ℕ → Account) (past : List (Mark T)) (told : AreTold seats notes accounts past) (e : ℕ) where
  abbrev Told : (ℕ → Account) → List (Mark T) → ℕ → Type 0
  Told accounts' past' k = (accounts' k ≡ account_of seats (notes k) (kinds_by k past')) × AreWithin (notes k) (length (kinds_by k past'))

  own_mark : (κ : Kind T) → Told (with_at accounts e (after_deed seats (Marks κ) (accounts e))) (record { seat = e; kind = κ } ∷ past) e
  own_mark κ =
      let t = told e in
      subst (λ kinds. (with_at accounts e (after_deed seats (Marks κ) (accounts e)) e ≡ account_of seats (notes e) kinds) × AreWithin (notes e) (length kinds)) (sym (kinds_own e κ past)) (
        at_here accounts e (after_deed seats (Marks κ) (accounts e)) ∙ (ap (after_deed seats (Marks κ)) t.0 ∙ sym (account_marked seats (notes e) κ (kinds_by e past) t.1)),
        within_more (notes e) (length (kinds_by e past)) t.1,
      )

  told_mark : (o : Option (Kind T)) → AreTold seats notes (with_at accounts e (after_mark seats o (accounts e))) (past_after e o past)
  told_mark None k = elim (same_or_not k e) [
    | inl q ↦ (ap (with_at accounts e (accounts e)) q ∙ (at_here accounts e (accounts e) ∙ (ap accounts (sym q) ∙ (told k).0)), (told k).1)
    | inr ne ↦ (at_else accounts e k (accounts e) ne ∙ (told k).0, (told k).1)
  ]
  told_mark (Some κ) k = elim (same_or_not k e) [
    | inl q ↦ subst (Told (with_at accounts e (after_deed seats (Marks κ) (accounts e))) (record { seat = e; kind = κ } ∷ past)) (sym q) (own_mark κ)
    | inr ne ↦ subst (λ kinds. (with_at accounts e (after_deed seats (Marks κ) (accounts e)) k ≡ account_of seats (notes k) kinds) × AreWithin (notes k) (length kinds))
        (sym (kinds_else k (record { seat = e; kind = κ }) past (λ q. ne (sym q)))) (at_else accounts e k (after_deed seats (Marks κ) (accounts e)) ne ∙ (told k).0, (told k).1)
  ]

-- ---- events of the queue

of_queue : {T : Type 0} → List (QueueEvent T) → List (SleeperEvent T)
of_queue [] = []
of_queue (v ∷ vs) = OfQueue v ∷ of_queue vs

pub low_event : {T : Type 0} (seats size : ℕ) (s : SleeperState T) (v : SleeperEvent T) → end_of v < seats → sleeper_happens seats size s v ≡ sleeper_event seats size s v
low_event seats size s v l = if_so (nat_lt (end_of v) seats) (sleeper_event seats size s v) s (lt_true (end_of v) seats l)

past_begun : {T : Type 0} (st : QueueState T) (e : ℕ) (p q : Phase T) → (begun st e p q).past ≡ st.past
past_begun st e p q = grind (arith, common_steps)

-- the bits of each role are those of another state if both sets of bits are
pub bits_stay : {T : Type 0} (role : Role) (s t : SleeperState T) → t.senders ≡ s.senders → t.receivers ≡ s.receivers → bits_as role t ≡ bits_as role s
bits_stay Sender s t senders receivers = senders
bits_stay Receiver s t senders receivers = receivers

-- an event of the queue changes no bit, and the notes and the marks tell the accounts after it
record GoesOn {T : Type 0} (seats : ℕ) (notes : ℕ → List Note) (s t : SleeperState T) : Type 0 where
  bits : (role : Role) → bits_as role t ≡ bits_as role s
  told : AreTold seats notes t.accounts t.queue.past

begins : {T : Type 0} (seats : ℕ) (notes : ℕ → List Note) (s : SleeperState T) (e : ℕ) (p q : Phase T) → AreTold seats notes s.accounts s.queue.past
    → GoesOn seats notes s (record s { queue = begun s.queue e p q })
begins seats notes s e p q told = record { bits = λ role. bits_stay role s (record s { queue = begun s.queue e p q }) refl refl; told = subst (AreTold seats notes s.accounts) (sym (past_begun s.queue e p q)) told }

advances : {T : Type 0} (seats : ℕ) (notes : ℕ → List Note) (s : SleeperState T) (e : ℕ) (o : Option (QueueMove T)) → AreTold seats notes s.accounts s.queue.past
    → GoesOn seats notes s (queue_step seats s e o)
advances seats notes s e None told = record { bits = λ role. refl; told = told }
advances seats notes s e (Some m) told = record { bits = λ role. bits_stay role s (queue_step seats s e (Some m)) refl refl; told = told_mark seats notes s.accounts s.queue.past told e m.mark }

goes_on : {T : Type 0} (seats size : ℕ) (notes : ℕ → List Note) (s : SleeperState T) (v : QueueEvent T) → AreTold seats notes s.accounts s.queue.past
    → GoesOn seats notes s (queue_event seats size s v)
goes_on seats size notes s (Inserts e x) told = begins seats notes s e (TestUp x) (s.queue.phase e) told
goes_on seats size notes s (Deletes e) told = begins seats notes s e TestLow (s.queue.phase e) told
goes_on seats size notes s (Shuts e) told = begins seats notes s e SetShut (s.queue.phase e) told
goes_on seats size notes s (Advances e) told = advances seats notes s e (next_move size s.queue (s.queue.phase e)) told

-- the sleepers after such events
record Runs {T : Type 0} (seats size : ℕ) (notes : ℕ → List Note) (s : SleeperState T) (vs : List (QueueEvent T)) (t : SleeperState T) : Type 0 where
  queue : t.queue ≡ run size vs s.queue
  bits : (role : Role) → bits_as role t ≡ bits_as role s
  told : AreTold seats notes t.accounts t.queue.past

runs : {T : Type 0} (seats size : ℕ) (notes : ℕ → List Note) (vs : List (QueueEvent T)) (s : SleeperState T) → AreLow seats vs → AreTold seats notes s.accounts s.queue.past
    → Runs seats size notes s vs (sleeper_run seats size (of_queue vs) s)
unfolding of_queue
runs seats size notes [] s low told = record { queue = refl; bits = λ role. refl; told = told }
runs {T} seats size notes (v ∷ vs) s low told =
    let one : SleeperState T = sleeper_happens seats size s (OfQueue v) in
    let is : one ≡ queue_event seats size s v = low_event seats size s (OfQueue v) low.0 in
    let G = subst (GoesOn seats notes s) (sym is) (goes_on seats size notes s v told) in
    let R = runs seats size notes vs one low.1 G.told in
    record {
      queue = R.queue ∙ ap (run size vs) (ap (λ (z : SleeperState T). z.queue) is ∙ queue_goes seats size s v);
      bits = λ role. R.bits role ∙ G.bits role;
      told = R.told;
    }

pub sleeper-append : {T : Type 0} (seats size : ℕ) (vs ws : List (SleeperEvent T)) (s : SleeperState T) → sleeper_run seats size (vs ++ ws) s ≡ sleeper_run seats size ws (sleeper_run seats size vs s)
sleeper-append seats size [] ws s = refl
sleeper-append seats size (v ∷ vs) ws s = sleeper-append seats size vs ws (sleeper_happens seats size s v)

-- ---- words

pub word_else : (ws : List ℕ) (i j w : ℕ) → j ≢ i → slice_index (set ws i w) j ≡ slice_index ws j
word_else ws i j w ne = grind (arith, common_steps, get_or-set_other)

pub few_words : (k : ℕ) → k < 1024 → k / 64 < 16
few_words k l = grind arith

-- the word of a bit is none of the queue's own words
pub bits_apart : (role : Role) (size i k : ℕ) → k < 1024 → 16 ≤ i → i < 80 + size → first_bits role size + k / 64 ≢ i
bits_apart Sender size i k l low high q = let s = few_words k l in absurd (omega (arith, s, low, q))
bits_apart Receiver size i k l low high q = absurd (omega (arith, high, q))

-- a step on the queue that writes one of its own words
pub sleepers_after : {T : Type 0} (seats size : ℕ) (core c : QueueState T) (notes : ℕ → List Note) (words : List ℕ) (i w : ℕ) → AreSleepers size seats core notes words → IsReachedFrom seats size core c
    → 16 ≤ i → i < 80 + size → AreSleepers size seats c notes (set words i w)
sleepers_after {T} seats size core c notes words i w S F low high =
    let told : AreTold seats notes S.state.accounts S.state.queue.past = subst (AreTold seats notes S.state.accounts) (ap (λ (q : QueueState T). q.past) (sym S.queue)) (λ k. (S.accounts k, S.within k)) in
    let R = runs seats size notes F.schedule S.state F.low told in
    let is : (sleeper_run seats size (of_queue F.schedule) S.state).queue ≡ c = R.queue ∙ (ap (run size F.schedule) S.queue ∙ F.leads) in
    let after = subst (AreTold seats notes (sleeper_run seats size (of_queue F.schedule) S.state).accounts) (ap (λ (q : QueueState T). q.past) is) R.told in
    record {
      state = sleeper_run seats size (of_queue F.schedule) S.state;
      queue = is;
      schedule = S.schedule ++ of_queue F.schedule;
      leads = sleeper-append seats size S.schedule (of_queue F.schedule) sleeper_opening ∙ ap (sleeper_run seats size (of_queue F.schedule)) S.leads;
      bits = λ role k l. ap (λ x. has_bit x (k % 64)) (word_else words i (first_bits role size + k / 64) w (bits_apart role size i k l low high)) ∙ (S.bits role k l ∙ ap (λ (f : ℕ → Bool). f k) (sym (R.bits role)));
      accounts = λ k. (after k).0;
      within = λ k. (after k).1;
    }
