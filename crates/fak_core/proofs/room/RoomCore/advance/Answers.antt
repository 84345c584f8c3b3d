use Rattle.fak_core.proofs.Common.{◌≡◌, ◌<◌, ◌∙◌, length, reverse, arith, Ok, ap, subst, inl, inr, slice_get, slice_set, Some, w64, to_z, of_z, ints, slice_get_read, common_steps, w128}
use Rattle.fak_core.specs.Room.{RoomState, step_of, or_idle, IsStep}
use Rattle.fak_core.proofs.RoomReached.{held_within}
use Rattle.fak_core.proofs.RoomCalls.{sound_kept, sound_count, step_found, step_left, step_sound, step_line}
use Rattle.fak_core.proofs.room.RoomCore.advance.Goals as goal

-- the state before
abbrev state : goal.After-found-1 → RoomState
state c = record { bound = c.self.inside.bound; count = c.self.inside.count; seats = c.self.inside.seats.items; past = reverse c.self.inside.marks.items }

here : (c : goal.After-found-1) → slice_get (state c).seats c.args.seat ≡ Some c.index-at.result.now
here c = grind (arith, common_steps, length, slice_get_read)

pub next_move-requires-clause-low : goal.next_move-requires-clause-low
next_move-requires-clause-low c = let v = sound_count (state c) c.self.invariant in omega (arith, ints, v.1, v.2)

pub next_move-requires-clause-high : goal.next_move-requires-clause-high
next_move-requires-clause-high c = let v = sound_count (state c) c.self.invariant in omega (arith, ints, v.1, v.2)

pub next_move-requires-clause-held : goal.next_move-requires-clause-held
next_move-requires-clause-held c = omega (arith, held_within (state c) c.args.seat c.index-at.result.now (sound_kept (state c) c.self.invariant) (here c), c.self.invariant.bound)

pub next_move-requires-clause-range : goal.next_move-requires-clause-range
next_move-requires-clause-range c = ((sound_kept (state c) c.self.invariant).seats c.args.seat c.index-at.result.now (here c)).range

pub returns-in_default-clause-fault : goal.returns-in_default-clause-fault
returns-in_default-clause-fault c =
    let within : c.args.seat < length c.self.inside.seats.items = omega (arith, c.len.ensures) in
    let is = step_found (record { bound = c.self.inside.bound; count = c.self.inside.count; seats = c.self.inside.seats.items; past = reverse c.self.inside.marks.items }) c.args.seat c.index-at.result.now c.next_move.result c.self.invariant within c.index-at.ensures c.next_move.ensures in
    inl (rw (← c.self.view_is) (is ∙ ap or_idle c.in_default.is))

pub returns-in-Err-clause-fault : goal.returns-in-Err-clause-fault
returns-in-Err-clause-fault c =
    let within : c.args.seat < length c.self.inside.seats.items = omega (arith, c.len.ensures) in
    let is = step_found (record { bound = c.self.inside.bound; count = c.self.inside.count; seats = c.self.inside.seats.items; past = reverse c.self.inside.marks.items }) c.args.seat c.index-at.result.now c.next_move.result c.self.invariant within c.index-at.ensures c.next_move.ensures in
    inr (c.in-Err.ensures.fault.0, rw (← c.self.view_is) (c.in-Some.step, (is ∙ ap or_idle c.in-Some.is), c.in-Err.ensures.fault.1))

abbrev before : goal.After-line_mark → RoomState
before c = record { bound = c.self.inside.bound; count = c.self.inside.count; seats = c.self.inside.seats.items; past = reverse c.self.inside.marks.items }

steps : (c : goal.After-line_mark) → step_of (before c) c.args.seat ≡ Ok c.in-Some.step
steps c =
    let within : c.args.seat < length c.self.inside.seats.items = omega (arith, c.len.ensures) in
    step_found (before c) c.args.seat c.index-at.result.now c.next_move.result c.self.invariant within c.index-at.ensures c.next_move.ensures ∙ ap or_idle c.in-Some.is

pub invariant_of-self-2 : goal.invariant_of-self-2
invariant_of-self-2 c = step_sound (before c) c.args.seat c.in-Some.step (reverse c.keep_mark.new.marks.items) c.self.invariant (steps c) c.in_default-keep_mark.ensures.ok

pub returns-clause-ok : goal.returns-clause-ok
returns-clause-ok c =
    let after : RoomState = record { bound = c.self.inside.bound; count = to_z w64 (of_z w64 c.in-Some.step.count); seats = slice_set c.self.inside.seats.items c.args.seat c.in-Some.step.seat; past = reverse c.keep_mark.new.marks.items } in
    let P : RoomState → Type 0 = λ (s : RoomState). IsStep s c.args.seat (record { seat = c.args.seat; step = c.in-Some.step.step; found = to_z w128 (of_z w128 (to_z w64 (of_z w64 c.self.inside.count))); mark = c.line_mark.result }) after in
    subst P c.self.view_is (record {
      step = c.in-Some.step;
      is = steps c;
      says = step_line (before c) c.args.seat c.in-Some.step c.line_mark.result c.self.invariant c.line_mark.ensures;
      leaves = step_left (before c) c.args.seat c.in-Some.step (reverse c.keep_mark.new.marks.items) c.self.invariant (steps c) c.in_default-keep_mark.ensures.ok;
    })
