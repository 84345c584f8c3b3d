use Rattle.fak_core.proofs.Common.{◌≡◌, length, reverse, arith, Ok, slice_set, QueueFields, begin_of, phase_begin, fields_of, common_steps}
use Rattle.std.proofs.lemmas.Option.{slice_get_read}
use Rattle.fak_core.proofs.QueueSound.{sound_begun}
use Rattle.fak_core.proofs.queue.QueueCore.begin.Goals as goal

-- the fields before
abbrev before : goal.After-self-1 → QueueFields
before c = record (fields_of c.self.inside.words) { phases = c.self.inside.phases.items; past = reverse c.self.inside.marks.items }

begins : (c : goal.After-self-1) → begin_of (before c) c.args.seat c.args.call ≡ Ok c.in_ok-phase.phase
begins c = grind (arith, common_steps, length, slice_get_read, phase_begin)

pub invariant_of-self : goal.invariant_of-self
invariant_of-self c = record { sound = sound_begun (before c) c.args.seat c.args.call c.in_ok-phase.phase c.self.invariant.sound (begins c); put = c.self.invariant.put }

pub returns-clause-ok : goal.returns-clause-ok
returns-clause-ok c = grind (arith, common_steps, slice_set, begins)
