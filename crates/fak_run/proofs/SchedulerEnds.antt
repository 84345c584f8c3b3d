-- The list scheduler ends every script: each small step reduces what is left to do.
use Rattle.fak_run.proofs.Common.{◌≡◌, ◌⊎◌, ℕ, zero, suc, ◌+◌, ◌-◌, ◌*◌, ◌<◌, ◌≤◌, nat_lt, Bool, true, false, List, [], ◌∷◌, length, refl, ap, sym, ◌∙◌, arith, inl, inr, Option, Some, None, ◌==◌, ◌||◌, slice_get, slice_set, slice_index, slice_index_or, sum_by, cases_lt, nat_tests, slice_get_within, get_or_past, set_past, length_push, open_change, close_change, uses_of, Turn, Lists, State, EndsIn, next_step, enter_by, go_on, turn_over, down_by, up_by, child_of, spawn_by, make, go_or_make, turn_by, take_front, step_by, steps, opening, common_steps}
use Rattle.std.proofs.lemmas.List.Sums.{sum_by-cons, sum_by_push, sum_by-set}
use Rattle.fak_text.specs.Script.{ScriptOf, StepOf, say, yield, down, up, open_file, close_file, stat, spawn, shutdown, steps_of, steps_or_none}
use Rattle.fak_text.specs.Journal.{NoteOf, said, yielded, downed, upped, opened, closed, statted, spawned, no_birth, no_slot, shut_down, Process, after_note, child_count}

-- one program is at most as long as all together
part_of : (programs : List (List StepOf)) (i : ℕ) → length (steps_or_none (slice_get programs i)) ≤ sum_by length programs
part_of [] i = omega arith
part_of (p ∷ ps) zero = omega (arith, sum_by-cons length p ps)
part_of (p ∷ ps) (suc i) = omega (arith, sum_by-cons length p ps, part_of ps i)

-- the weight of this many births, if no child has more steps than `most`
abbrev births_weigh : ℕ → ℕ → ℕ
births_weigh most zero = 0
births_weigh most (suc n) = most + 1 + births_weigh most n

one_birth : (most a b : ℕ) → b < a → births_weigh most (a - b) ≡ most + 1 + births_weigh most (a - (b + 1))
one_birth most a b below = ap (births_weigh most) (let more : a - b ≡ suc (a - (b + 1)) = omega (arith, below) in more)

abbrev runs : Option Turn → ℕ
runs None = 0
runs (Some t) = 1

-- the weight of a turn's phase: 2 if it is over, 0 before its next step; between two turns it is 1
abbrev turn_phase : Bool → ℕ
turn_phase true = 2
turn_phase false = 0

few_phases : (b : Bool) → turn_phase b ≤ 2
few_phases b = grind (arith, common_steps, turn_phase)

-- a turn without steps is not over
new_turn : (quantum : ℕ) → 1 ≤ quantum → turn_phase (false || (0 == quantum)) ≡ 0
new_turn quantum some = grind (arith, common_steps, turn_phase, nat_tests)

module _ (script : ScriptOf) where
  -- the steps that a process has not taken yet
  abbrev left : Process → ℕ
  left p = length (steps_of script p.program) - p.position

  abbrev most : ℕ
  most = sum_by length script.programs

  -- the steps that may still be taken, by processes that are ready or asleep, and by children that are not born yet
  abbrev to_make : Lists → ℕ
  to_make s = sum_by left s.ready + (sum_by (sum_by left) s.sleepers + births_weigh most (script.births - s.births))

  abbrev turn_left : Option Turn → ℕ
  turn_left None = 0
  turn_left (Some t) = left t.process

  abbrev is_over : Turn → Bool
  is_over t = t.has_yielded || (t.made == script.quantum)

  abbrev phase : Option Turn → ℕ
  phase None = 1
  phase (Some t) = turn_phase (is_over t)

  -- what is left to do
  abbrev remains : State → ℕ
  remains s = 6 * (turn_left s.running + to_make s.lists) + 3 * (runs s.running + length s.lists.ready) + phase s.running

  -- ---- a process enters a list

  enters_made : (s : Lists) (p : Process) (is_shut : Bool) → to_make (enter_by s p is_shut) ≤ to_make s + left p
  enters_made s p is_shut = grind (arith, common_steps, to_make, enter_by, left, sum_by_push)

  enters_ready : (s : Lists) (p : Process) (is_shut : Bool) → length (enter_by s p is_shut).ready ≤ length s.ready + 1
  enters_ready s p is_shut = grind (arith, common_steps, length, enter_by, length_push)

  -- ---- the turn goes on

  -- a process that takes a step has one step less left
  one_made : (p : Process) (note : NoteOf) (next : StepOf) → next_step script p ≡ Some next → left p ≡ left (after_note p note) + 1
  one_made p note next stands = omega (arith, slice_get_within (steps_of script p.program) p.position next stands)

  goes_on : (s after : Lists) (t : Turn) (note : NoteOf) (yields : Bool) (next : StepOf) → next_step script t.process ≡ Some next → is_over t ≡ false
      → 6 * to_make after + 3 * length after.ready ≤ 6 * to_make s + 3 * length s.ready + 3
      → remains (go_on after t note yields) < remains (record { running = Some t; lists = s })
  goes_on s after t note yields next stands goes few =
      let made = one_made t.process note next stands in
      let now : turn_phase (is_over t) ≡ 0 = ap turn_phase goes in
      let then = few_phases (yields || ((t.made + 1) == script.quantum)) in
      omega (arith, made, now, then, few)

  plain : (s after : Lists) (t : Turn) (note : NoteOf) (yields : Bool) (next : StepOf) → next_step script t.process ≡ Some next → is_over t ≡ false
      → to_make after ≡ to_make s → length after.ready ≡ length s.ready
      → remains (go_on after t note yields) < remains (record { running = Some t; lists = s })
  plain s after t note yields next stands goes same ready = goes_on s after t note yields next stands goes (omega (arith, same, ready))

  -- ---- semaphores

  sleeps : (s : Lists) (t : Turn) (n : ℕ) → is_over t ≡ false → remains (down_by s t n false) < remains (record { running = Some t; lists = s })
  sleeps s t n goes = grind (arith, common_steps, slice_index_or, cases_lt, length, sum_by-set, sum_by, sum_by_push, set_past)

  wakes : (s : Lists) (t : Turn) (n : ℕ) (first : Process) (others : List Process) (next : StepOf) → next_step script t.process ≡ Some next → is_over t ≡ false
      → slice_index_or s.sleepers n [] ≡ first ∷ others → remains (up_by s t n (first ∷ others)) < remains (record { running = Some t; lists = s })
  wakes s t n first others next stands goes waits =
      let rest : Lists = record s { sleepers = slice_set s.sleepers n others } in
      let woken = after_note first (downed n) in
      let taken : to_make s ≡ to_make rest + left first = omega (arith, sum_by-set (sum_by left) s.sleepers n others [] below, ap (sum_by left) waits, sum_by-cons left first others) in
      goes_on s (enter_by rest woken s.is_shut) t (upped n) false next stands goes
      (omega (arith, taken, less, enters_made rest woken s.is_shut, enters_ready rest woken s.is_shut))
    where
      below : n < length s.sleepers
      below = elim (cases_lt n (length s.sleepers)) [
        | inl lt ↦ lt
        | inr past ↦ absurd (let none : first ∷ others ≡ [] = sym waits ∙ get_or_past s.sleepers n [] past in cc (none))
      ]

      less : left (after_note first (downed n)) ≤ left first
      less = omega arith

  ups : (s : Lists) (t : Turn) (n : ℕ) (waiting : List Process) (next : StepOf) → next_step script t.process ≡ Some next → is_over t ≡ false
      → slice_index_or s.sleepers n [] ≡ waiting → remains (up_by s t n waiting) < remains (record { running = Some t; lists = s })
  ups s t n [] next stands goes waits = plain s (record s { counts = slice_set s.counts n (slice_index s.counts n + 1) }) t (upped n) false next stands goes refl refl
  ups s t n (first ∷ others) next stands goes waits = wakes s t n first others next stands goes waits

  downs : (s : Lists) (t : Turn) (n : ℕ) (passes : Bool) (next : StepOf) → next_step script t.process ≡ Some next → is_over t ≡ false
      → remains (down_by s t n passes) < remains (record { running = Some t; lists = s })
  downs s t n true next stands goes = plain s (record s { counts = slice_set s.counts n (slice_index s.counts n - 1) }) t (downed n) false next stands goes refl refl
  downs s t n false next stands goes = sleeps s t n goes

  -- ---- births

  spawns : (s : Lists) (t : Turn) (program : ℕ) (may : Bool) (free : List ℕ) (next : StepOf) → next_step script t.process ≡ Some next → is_over t ≡ false
      → nat_lt s.births script.births ≡ may → remains (spawn_by s t program may free) < remains (record { running = Some t; lists = s })
  spawns s t program false free next stands goes may_is = plain s s t no_birth false next stands goes refl refl
  spawns s t program true [] next stands goes may_is = plain s s t no_slot false next stands goes refl refl
  spawns s t program true (slot ∷ free) next stands goes may_is = grind (arith, common_steps, child_of, nat_tests, part_of, goes_on, enter_by, spawned, child_count, one_birth, enters_made, enters_ready)

  -- ---- steps

  makes : (s : Lists) (t : Turn) (next : StepOf) → next_step script t.process ≡ Some next → is_over t ≡ false → remains (make script s t next) < remains (record { running = Some t; lists = s })
  makes s t (say text) stands goes = plain s s t (said text) false (say text) stands goes refl refl
  makes s t yield stands goes = plain s s t yielded true yield stands goes refl refl
  makes s t (down n) stands goes = downs s t n (nat_lt 0 (slice_index s.counts n)) (down n) stands goes
  makes s t (up n) stands goes = ups s t n (slice_index_or s.sleepers n []) (up n) stands goes refl
  makes s t (open_file inode) stands goes = plain s (record s { entries = (open_change s.entries inode).entries }) t (opened inode (open_change s.entries inode).entry) false (open_file inode) stands goes refl refl
  makes s t (close_file inode) stands goes = plain s (record s { entries = (close_change s.entries inode).entries }) t (closed inode (close_change s.entries inode).entry) false (close_file inode) stands goes refl refl
  makes s t (stat inode) stands goes = plain s s t (statted inode (uses_of s.entries inode)) false (stat inode) stands goes refl refl
  makes s t (spawn program) stands goes = spawns s t program (nat_lt s.births script.births) s.free_slots (spawn program) stands goes refl
  makes s t shutdown stands goes = plain s (record s { is_shut = true }) t shut_down false shutdown stands goes refl refl

  goes_or_makes : (s : Lists) (t : Turn) (next : StepOf) (over : Bool) → next_step script t.process ≡ Some next → is_over t ≡ over → remains (go_or_make script s t next over) < remains (record { running = Some t; lists = s })
  goes_or_makes s t next over stands is = grind (arith, common_steps, next_step, is_over, remains, go_or_make, enters_made, enters_ready, makes)

  turns : (s : Lists) (t : Turn) (next : Option StepOf) → next_step script t.process ≡ next → remains (turn_by script s t next) < remains (record { running = Some t; lists = s })
  turns s t next stands = grind (arith, common_steps, next_step, remains, turn_by, goes_or_makes, is_over)

  -- ---- if nobody runs or is ready, and before

  abbrev IsStill : Option Turn → Lists → Type 0
  IsStill running s = (running ≡ None) × (s.ready ≡ [])

  module _ (some : 1 ≤ script.quantum) where
    takes : (s : Lists) (ready : List Process) → s.ready ≡ ready → IsStill None s ⊎ (remains (take_front s ready) < remains (turn_over s))
    takes s ready is = grind (arith, common_steps, remains, take_front, turn_over, IsStill, sum_by, left, sum_by-cons, length, new_turn)

    falls : (s : Lists) (running : Option Turn) → IsStill running s ⊎ (remains (step_by script s running) < remains (record { running = running; lists = s }))
    falls s running = grind (arith, common_steps, remains, step_by, IsStill, takes, turns, next_step)

    -- after this many steps the machine was still, or that much less is left to do
    falls_or_ends : (n : ℕ) (s : State) → ((k : ℕ) × IsStill (steps k script s).running (steps k script s).lists) ⊎ (remains (steps n script s) + n ≤ remains s)
    falls_or_ends zero s = inr (omega arith)
    falls_or_ends (suc n) s = elim (falls_or_ends n s) [
      | inl ended ↦ inl ended
      | inr fallen ↦ elim (falls (steps n script s).lists (steps n script s).running) [
        | inl still ↦ inl (n, still)
        | inr falling ↦ inr (omega (arith, fallen, falling))
      ]
    ]

    pub ends : (lists : Lists) × EndsIn script lists
    ends = elim (falls_or_ends (remains (opening script) + 1) (opening script)) [
      | inl ended ↦ (let last = steps ended.0 script (opening script) in
          (last.lists, record { count = ended.0; reached = ap (λ (r : Option Turn). let s : State = record { running = r; lists = last.lists } in s) (sym ended.1.0); still = ended.1.1 }))
      | inr fallen ↦ absurd (omega (arith, fallen))
    ]
