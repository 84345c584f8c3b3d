-- The weight of all processes of the list scheduler together, from step to step.
use Rattle.fak_run.proofs.Common.{◌≡◌, ℕ, zero, suc, ◌+◌, ◌<◌, ◌≤◌, nat_lt, Bool, true, false, List, [], ◌∷◌, ◌++◌, length, refl, ap, sym, ◌∙◌, arith, inl, inr, Option, Some, None, slice_set, slice_index, slice_index_or, sum_by, get_or_past, set_past, ScriptOf, StepOf, NoteOf, said, yielded, downed, upped, opened, closed, statted, spawned, no_birth, no_slot, shut_down, Process, after_note, births_of, child_count, open_change, close_change, uses_of, Turn, Lists, State, next_step, enter_by, enter_ready, go_on, turn_over, down_by, up_by, child_of, spawn_by, make, end_process, go_or_make, turn_by, take_front, step_by, steps, common_steps}
use Rattle.std.proofs.lemmas.Bool.{cases_lt}
use Rattle.std.proofs.lemmas.List.Sums.{sum_by-append, sum_by-cons, sum_by_push, sum_by-set}

-- the weight of all processes: those in the lists, and the one that has the processor
abbrev pub lists_weigh : (Process → ℕ) → Lists → ℕ
lists_weigh f s = sum_by f s.ready + (sum_by (sum_by f) s.sleepers + (sum_by f s.ended + sum_by f s.halted))

abbrev pub turn_weighs : (Process → ℕ) → Option Turn → ℕ
turn_weighs f None = 0
turn_weighs f (Some t) = f t.process

abbrev pub all_weigh : (Process → ℕ) → State → ℕ
all_weigh f s = turn_weighs f s.running + lists_weigh f s.lists

-- no note changes f of a process, and g grows only at a birth, by at least f of the child
pub record Pays (f g : Process → ℕ) : Type 0 where
  pub kept : (p : Process) (note : NoteOf) → f (after_note p note) ≡ f p
  pub plain : (p : Process) (note : NoteOf) → births_of note ≡ 0 → g (after_note p note) ≡ g p
  pub born : (p : Process) (program slot : ℕ) → f (child_of p program slot) + g p ≤ g (after_note p (spawned (child_count p.journal)))

-- from s to t, f grows by at most g; processes that are lost, at a semaphore that does not exist, count too
pub record Paid (s t : State) : Type 0 where
  pub lost : List Process
  pub balance : (f g : Process → ℕ) → Pays f g → all_weigh f t + sum_by f lost + all_weigh g s ≤ all_weigh f s + all_weigh g t + sum_by g lost

pub paid-joined : (r s t : State) → Paid r s → Paid s t → Paid r t
paid-joined r s t a b = record {
  lost = a.lost ++ b.lost;
  balance = λ f g pays. omega (arith, a.balance f g pays, b.balance f g pays, sum_by-append f a.lost b.lost, sum_by-append g a.lost b.lost);
}

-- no weight changes
moved : (s t : State) → ((f : Process → ℕ) → all_weigh f t ≡ all_weigh f s) → Paid s t
moved s t same = record { lost = []; balance = λ f g pays. omega (arith, same f, same g) }

-- ---- a process enters a list

enters : (f : Process → ℕ) (s : Lists) (p : Process) (is_shut : Bool) → lists_weigh f (enter_by s p is_shut) ≡ lists_weigh f s + f p
enters f s p is_shut = grind (arith, common_steps, enter_by, sum_by_push)

-- ---- the turn goes on

noted : (s after : Lists) (t : Turn) (note : NoteOf) (yields : Bool) → births_of note ≡ 0 → ((f : Process → ℕ) → lists_weigh f after ≡ lists_weigh f s) → Paid (record { running = Some t; lists = s }) (go_on after t note yields)
noted s after t note yields none same = record {
  lost = [];
  balance = λ f g pays. omega (arith, same f, same g, pays.kept t.process note, pays.plain t.process note none);
}

-- ---- semaphores

sleeps : (s : Lists) (t : Turn) (n : ℕ) → Paid (record { running = Some t; lists = s }) (down_by s t n false)
sleeps s t n = elim (cases_lt n (length s.sleepers)) [
  | inl below ↦ moved (record { running = Some t; lists = s }) (down_by s t n false) (λ f.
      omega (arith, sum_by-set (sum_by f) s.sleepers n (slice_index_or s.sleepers n [] ++ t.process ∷ []) [] below, sum_by_push f (slice_index_or s.sleepers n []) t.process))
  | inr past ↦ record {
    lost = t.process ∷ [];
    balance = λ f g pays.
        let same = set_past s.sleepers n (slice_index_or s.sleepers n [] ++ t.process ∷ []) past in
        let by_f = ap (sum_by (sum_by f)) same in
        let by_g = ap (sum_by (sum_by g)) same in
        omega (arith, by_f, by_g, sum_by-cons f t.process [], sum_by-cons g t.process []);
  }
]

downs : (s : Lists) (t : Turn) (n : ℕ) (passes : Bool) → Paid (record { running = Some t; lists = s }) (down_by s t n passes)
downs s t n passes = grind (arith, common_steps, down_by, noted, slice_set, slice_index, downed, sleeps)

wakes : (s : Lists) (t : Turn) (n : ℕ) (first : Process) (others : List Process) → slice_index_or s.sleepers n [] ≡ first ∷ others → Paid (record { running = Some t; lists = s }) (up_by s t n (first ∷ others))
wakes s t n first others waits = record {
  lost = [];
  balance = λ f g pays.
      let rest : Lists = record s { sleepers = slice_set s.sleepers n others } in
      let woken = after_note first (downed n) in
      let left : (w : Process → ℕ) → lists_weigh w s ≡ lists_weigh w rest + w first = λ w. taken w in
      omega (arith, left f, left g, enters f rest woken s.is_shut, enters g rest woken s.is_shut, pays.kept first (downed n), pays.plain first (downed n) refl, pays.kept t.process (upped n), pays.plain t.process (upped n) refl);
} where
  below : n < length s.sleepers
  below = elim (cases_lt n (length s.sleepers)) [
    | inl lt ↦ lt
    | inr past ↦ absurd (let none : first ∷ others ≡ [] = sym waits ∙ get_or_past s.sleepers n [] past in cc (none))
  ]

  taken : (w : Process → ℕ) → lists_weigh w s ≡ lists_weigh w (record s { sleepers = slice_set s.sleepers n others }) + w first
  taken w = omega (arith, sum_by-set (sum_by w) s.sleepers n others [] below, ap (sum_by w) waits, sum_by-cons w first others)

ups : (s : Lists) (t : Turn) (n : ℕ) (waiting : List Process) → slice_index_or s.sleepers n [] ≡ waiting → Paid (record { running = Some t; lists = s }) (up_by s t n waiting)
ups s t n waiting waits = grind (arith, common_steps, slice_index_or, up_by, noted, slice_set, slice_index, upped, wakes)

-- ---- births

born : (s : Lists) (t : Turn) (program slot : ℕ) (free : List ℕ) → Paid (record { running = Some t; lists = s }) (spawn_by s t program true (slot ∷ free))
born s t program slot free = record {
  lost = [];
  balance = λ f g pays.
      let with : Lists = record s { births = s.births + 1; free_slots = free } in
      let child = child_of t.process program slot in
      let note = spawned (child_count t.process.journal) in
      omega (arith, enters f with child s.is_shut, enters g with child s.is_shut, pays.kept t.process note, pays.born t.process program slot);
}

spawns : (s : Lists) (t : Turn) (program : ℕ) (may : Bool) (free : List ℕ) → Paid (record { running = Some t; lists = s }) (spawn_by s t program may free)
spawns s t program may free = grind (arith, common_steps, spawn_by, noted, no_birth, no_slot, born)

-- ---- steps

makes : (script : ScriptOf) (s : Lists) (t : Turn) (next : StepOf) → Paid (record { running = Some t; lists = s }) (make script s t next)
makes script s t next = grind (arith, common_steps, make, noted, said, yielded, downs, nat_lt, slice_index, ups, slice_index_or, open_change, opened, close_change, closed, statted, uses_of, spawns, shut_down)

goes_or_makes : (script : ScriptOf) (s : Lists) (t : Turn) (next : StepOf) (is_over : Bool) → Paid (record { running = Some t; lists = s }) (go_or_make script s t next is_over)
goes_or_makes script s t next is_over = grind (arith, common_steps, go_or_make, moved, turn_over, enter_ready, enters, makes)

turns : (script : ScriptOf) (s : Lists) (t : Turn) (next : Option StepOf) → Paid (record { running = Some t; lists = s }) (turn_by script s t next)
turns script s t next = grind (arith, common_steps, turn_by, moved, end_process, sum_by_push, goes_or_makes)

takes : (s : Lists) (ready : List Process) → s.ready ≡ ready → Paid (turn_over s) (take_front s ready)
takes s ready is = grind (arith, common_steps, turn_over, take_front, moved, sum_by, sum_by-cons)

paid_by : (script : ScriptOf) (s : Lists) (running : Option Turn) → Paid (record { running = running; lists = s }) (step_by script s running)
paid_by script s running = grind (arith, common_steps, step_by, takes, turns, next_step)

pub paid : (n : ℕ) (script : ScriptOf) (s : State) → Paid s (steps n script s)
paid zero script s = moved s s (λ f. refl)
paid (suc n) script s = paid-joined s (steps n script s) (steps (suc n) script s) (paid n script s) (paid_by script (steps n script s).lists (steps n script s).running)
