use Rattle.std.proofs.Common.{◌≡◌, ◌∙◌, ◌+◌, ℕ, List, [], ◌∷◌, Option, Some, None, length, slice_get, ap, arith}
use Rattle.fak_text.specs.Journal.{Process}
use Rattle.fak_run.specs.ListScheduler.{Turn, opening}
use Rattle.fak_callers.proofs.beginnings.a_run_begins_with_its_first_lists.Goals as goal

none_or_some : (o : Option Turn) (turn : Turn) → o ≡ None → o ≡ Some turn → ⊥
none_or_some o turn none some = cc

none_or_one : (ps : List Process) (p : Process) → ps ≡ [] → ps ≡ p ∷ [] → ⊥
none_or_one ps p none one = cc

pub returns-clause-running : goal.returns-clause-running
returns-clause-running c script turn is = none_or_some _ turn (c.the_first_lists_are_known.ensures.running script) is

pub returns-clause-ready : goal.returns-clause-ready
returns-clause-ready c script is = c.the_first_lists_are_known.ensures.ready script 1 6 (ap (λ (l : List ℕ). slice_get l 1) is)

pub returns-clause-processes : goal.returns-clause-processes
returns-clause-processes c script is = c.the_first_lists_are_known.ensures.processes script ∙ ap length is

pub returns-clause-slots : goal.returns-clause-slots
returns-clause-slots c script is five = omega (arith, c.the_first_lists_are_known.ensures.slots script, ap length is, five)

pub returns-clause-free : goal.returns-clause-free
returns-clause-free c script is five =
    c.the_first_lists_are_known.ensures.free script 1 (omega (arith, ap length is, five)) ∙ ap (λ (l : List ℕ). Some (length l + 1)) is

pub returns-clause-counts : goal.returns-clause-counts
returns-clause-counts c script is = ap (λ (l : List ℕ). slice_get l 1) (c.the_first_lists_are_known.ensures.counts script ∙ is)

pub returns-clause-sleepers : goal.returns-clause-sleepers
returns-clause-sleepers c script p is = none_or_one _ p (c.the_first_lists_are_known.ensures.sleepers script 15) is

pub returns-clause-entries : goal.returns-clause-entries
returns-clause-entries c script nine = c.the_first_lists_are_known.ensures.entries script 8 (omega (arith, nine))

pub returns-clause-births : goal.returns-clause-births
returns-clause-births c script some = omega (arith, some, c.the_first_lists_are_known.ensures.births script)

pub returns-clause-is_open : goal.returns-clause-is_open
returns-clause-is_open c script p = c.each_turn_is_known.ensures.ready (opening script).lists p (c.the_first_lists_are_known.ensures.is_shut script)

pub returns-clause-nobody : goal.returns-clause-nobody
returns-clause-nobody c script =
    omega (arith, ap length (c.the_first_lists_are_known.ensures.ended script), ap length (c.the_first_lists_are_known.ensures.halted script))
