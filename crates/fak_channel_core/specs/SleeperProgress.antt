-- Progress of a channel whose sleepers are bits: what an end still has to do until it rests, and the steps that bring it
-- on.
use Rattle.std.specs.Prelude.{ℕ, ◌≡◌, ◌+◌, ◌*◌, ◌/◌, ◌<◌, zero, suc, cond, Bool, true, false, ◌⊎◌, List, [], ◌∷◌}
use Rattle.fak_model.specs.Histories.{sum_below}
use Rattle.fak_core.specs.declared.queue.phase.Phase.TheVariants.{Idle}
use Rattle.fak_channel_core.specs.SleeperSides.{SleepStage, Awake, Registered, PastLower, Asleep, Woken, Duty}
use Rattle.fak_channel_core.specs.SleeperMoves.{Account, SleeperState}
use Rattle.fak_channel_core.specs.SleeperSchedule.{SleeperEvent, end_of, sleeper_happens, sleeper_run}

-- the most steps on the bits by which an end comes to rest, among n ends, if no other end clears a bit before it does.
-- The first part of this number is for an end that sleeps, with its bit i and the looks that it owes
abbrev pub asleep_left : ℕ → Bool → ℕ → ℕ
asleep_left n true zero = 0
asleep_left n true (suc d) = n + 4
asleep_left n false d = n + 3

-- for a stage
abbrev pub stage_left : ℕ → SleepStage → Bool → ℕ → ℕ
stage_left n Awake i d = 0
stage_left n Registered i d = n + 3
stage_left n PastLower i d = n + 3
stage_left n Asleep i d = asleep_left n i d
stage_left n Woken i d = n + 2

-- the names whose words its looks have not passed
abbrev pub unpassed : ℕ → Duty → ℕ
unpassed n g = sum_below (λ k. cond (g.passed (k / 64)) 0 1) n

-- for its looks
abbrev pub looks_left : ℕ → Duty → ℕ → ℕ
looks_left n g zero = 0
looks_left n g (suc d) = suc d + unpassed n g

-- for its duty at one side
abbrev pub duty_left : ℕ → Duty → Bool → ℕ
duty_left n g i = stage_left n g.stage i g.looks + looks_left n g g.looks

abbrev pub account_left : ℕ → Account → Bool → Bool → ℕ
account_left n g i o = duty_left n g.sender i + duty_left n g.receiver o + cond g.checks (2 * n + 6) 0

abbrev pub steps_to_rest : {A : Type 0} → ℕ → SleeperState A → ℕ → ℕ
steps_to_rest n s e = account_left n (s.accounts e) (s.senders e) (s.receivers e)

-- the end has no open call on the queue, and one of its steps leaves it less to do
pub record ComesOn {A : Type 0} (n size : ℕ) (s : SleeperState A) (e : ℕ) : Type 0 where
  pub idle : s.queue.phase e ≡ Idle
  pub event : SleeperEvent A
  pub own : end_of event ≡ e
  pub less : steps_to_rest n (sleeper_happens n size s event) e < steps_to_rest n s e

-- ---- calls on the queue

-- the end has no open call on the queue before one of these events, or after the last
abbrev pub EndsCallOnce : {A : Type 0} → ℕ → ℕ → List (SleeperEvent A) → SleeperState A → ℕ → Type 0
EndsCallOnce n size [] s e = s.queue.phase e ≡ Idle
EndsCallOnce n size (v ∷ vs) s e = (s.queue.phase e ≡ Idle) ⊎ EndsCallOnce n size vs (sleeper_happens n size s v) e

-- the end has no open call on the queue at some time within these rounds
abbrev pub EndsCallWithin : {A : Type 0} → ℕ → ℕ → List (List (SleeperEvent A)) → SleeperState A → ℕ → Type 0
EndsCallWithin n size [] s e = s.queue.phase e ≡ Idle
EndsCallWithin n size (r ∷ rs) s e = EndsCallOnce n size r s e ⊎ EndsCallWithin n size rs (sleeper_run n size r s) e
