use Rattle.fak_core.proofs.Common.{◌≡◌, ◌∙◌, arith, reverse, slice_set, subst, sym, Ok, QueueFields, IsSoundWith, moved_fields, step_of, fields_of, common_steps}
use Rattle.std.proofs.lemmas.Option.{slice_get_within}
use Rattle.fak_core.proofs.QueueSound.{step_made, within_of}
use Rattle.fak_core.proofs.QueueCalls.{load_is, step_is, step_left, step_sound}
use Rattle.fak_core.proofs.queue.QueueCore.advance.Goals as goal

-- the fields before
abbrev before : goal.After-write-arg-1 → QueueFields
before c = record (fields_of c.self.inside.words) { phases = c.self.inside.phases.items; past = reverse c.self.inside.marks.items }

steps : (c : goal.After-write-arg-1) → step_of (before c) c.args.seat ≡ Ok c.in_ok-step.step
steps c = subst (λ (f : QueueFields). step_of f c.args.seat ≡ Ok c.in_ok-step.step) (sym c.self.view_is) (sym c.step_of.ensures ∙ c.in_ok-step.was)

pub write-requires-clause-within : goal.write-requires-clause-within
write-requires-clause-within c = within_of (before c) c.args.seat c.in_ok-step.step c.self.invariant.sound (step_made (before c) c.args.seat c.in_ok-step.step (steps c))

pub index_mut-requires : goal.index_mut-requires
index_mut-requires c =
    let f : QueueFields = record (fields_of c.self.inside.words) { phases = c.self.inside.phases.items; past = reverse c.self.inside.marks.items } in
    let e : step_of f c.args.seat ≡ Ok c.in_ok-step.step = subst (λ (g : QueueFields). step_of g c.args.seat ≡ Ok c.in_ok-step.step) (sym c.self.view_is) (sym c.step_of.ensures ∙ c.in_ok-step.was) in
    let made = step_made f c.args.seat c.in_ok-step.step e in
    omega (arith, slice_get_within f.phases c.args.seat made.phase made.at, c.self.inside.phases.ok)

-- the fields before, when the call returns
abbrev old : goal.After-line_of → QueueFields
old c = record (fields_of c.self.inside.words) { phases = c.self.inside.phases.items; past = reverse c.self.inside.marks.items }

abbrev new : goal.After-line_of → QueueFields
new c = record (fields_of c.write.new.self) { phases = slice_set c.self.inside.phases.items c.args.seat c.in_ok-step.step.phase; past = reverse c.keep_mark.new.marks.items }

stepped : (c : goal.After-line_of) → step_of (old c) c.args.seat ≡ Ok c.in_ok-step.step
stepped c = subst (λ (f : QueueFields). step_of f c.args.seat ≡ Ok c.in_ok-step.step) (sym c.self.view_is) (sym c.step_of.ensures ∙ c.in_ok-step.was)

left : (c : goal.After-line_of) → new c ≡ moved_fields (old c) c.args.seat c.in_ok-step.step
left c = step_left (old c) (fields_of c.write.new.self) c.args.seat c.in_ok-step.step (reverse c.keep_mark.new.marks.items) c.write.ensures c.in_default.ensures.ok

pub invariant_of-self-2 : goal.invariant_of-self-2
invariant_of-self-2 c =
    subst (λ (f : QueueFields). IsSoundWith f c.keep_mark.new.items.items) (sym (left c))
    (step_sound (old c) c.self.inside.items.items c.keep_mark.new.items.items c.args.seat c.in_ok-step.step c.self.invariant (stepped c) c.in_default.ensures.items)

pub returns-clause-ok : goal.returns-clause-ok
returns-clause-ok c = grind (arith, common_steps, left, step_is, stepped)

pub returns-clause-loads : goal.returns-clause-loads
returns-clause-loads c = grind (arith, common_steps, load_is, stepped)
