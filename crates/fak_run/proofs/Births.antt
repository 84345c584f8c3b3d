-- The children of all processes.
use Rattle.fak_run.proofs.Common.{RowOf, Ledger, Made, NameAndProgram, named, child, after_made, IsMade, notes, no_births_of, no_slots_of, Histories, Gathered, begun_names, asleep, ◌≡◌, ℕ, ◌+◌, ◌<◌, ◌≤◌, List, [], ◌∷◌, ◌++◌, length, slice_get, Some, ap, sym, ◌∙◌, subst, arith, sum_by, append-nil, sum_by-append, up_amount, release_amount, refusal_of, other_amount, ScriptOf, StepOf, steps_of, NoteOf, Process, births_of, child_count, Allows, FitsFrom, children_from, children_of, common_steps}
use Rattle.fak_run.proofs.Sums.{sum_by-map, sum_by_plus, sum_by-zeros}
use Rattle.fak_run.proofs.Conserved.{conserved, grown, fresh}
use Rattle.fak_model.proofs.RoomRefusals.{refused_at_bound, granted_fit}

-- one more note names one more child, if the step with it names one
children_push : (g : NameAndProgram → ℕ) (files n : ℕ) (name : List ℕ) (steps : List StepOf) (notes : List NoteOf) (step : StepOf) (note : NoteOf)
    → FitsFrom files n steps notes → slice_get steps (length notes) ≡ Some step
    → sum_by g (children_from name steps (notes ++ note ∷ [])) ≡ sum_by g (children_from name steps notes) + sum_by g (child name step note)
children_push g files n name [] [] step note fits at = absurd (cc)
children_push g files n name (s ∷ ss) [] step note fits at = grind (arith, common_steps, sum_by, append-nil, child)
children_push g files n name [] (m ∷ ms) step note fits at = absurd fits
children_push g files n name (s ∷ ss) (m ∷ ms) step note fits at =
    let rest = children_push g files (n + births_of m) name ss ms step note fits.1 at in
    omega (arith, rest, sum_by-append g (child name s m) (children_from name ss ms), sum_by-append g (child name s m) (children_from name ss (ms ++ note ∷ [])))

pub children_grow : (g : NameAndProgram → ℕ) (script : ScriptOf) (m : Made) → IsMade script m
    → sum_by g (children_of script (after_made m)) ≡ sum_by g (children_of script m.before) + sum_by g (child m.before.name m.step m.note)
children_grow g script m is = children_push g script.files 0 m.before.name (steps_of script m.before.program) m.before.journal m.step m.note is.fits.fits (subst (λ k. slice_get (steps_of script m.before.program) k ≡ Some m.step) is.fits.position is.stands)

-- a step begins as many children as its note states
child_count_is : (files n : ℕ) (name : List ℕ) (step : StepOf) (note : NoteOf) → Allows files n step note → sum_by (λ (c : NameAndProgram). 1) (child name step note) ≡ births_of note
child_count_is files n name step note ok = grind (arith, common_steps, sum_by, child, births_of)

module _ {script : ScriptOf} {seats : ℕ} {h : Histories} {l : Ledger} (g : Gathered script seats h l) where
  -- rows and sleepers have the same names as the processes that were started or spawned
  pub names_alike : (w : NameAndProgram → ℕ) → sum_by (λ (r : RowOf). w (named r.process)) l.rows + sum_by (λ (p : Process). w (named p)) (asleep h.waits (length script.semaphores))
      ≡ sum_by w (begun_names 0 script.start) + (sum_by (λ (r : RowOf). sum_by w (children_of script r.process)) l.rows + sum_by (λ (p : Process). sum_by w (children_of script p)) (asleep h.waits (length script.semaphores)))
  names_alike w =
      let all = conserved g (λ (p : Process). w (named p)) in
      let grows = grown g (λ (p : Process). sum_by w (children_of script p)) (λ (m : Made). sum_by w (child m.before.name m.step m.note)) (λ m is. children_grow w script m is) in
      let none = fresh g (λ (p : Process). sum_by w (children_of script p)) (λ p e. no_children p.name (steps_of script p.program) p.journal e) in
      let begun = sym (sum_by-map w named l.begun) ∙ ap (sum_by w) g.begun in
      omega (arith, all, grows, none.0, none.1, begun, g.balanced.children w)
    where
      no_children : (name : List ℕ) (steps : List StepOf) (notes : List NoteOf) → length notes ≡ 0 → sum_by w (children_from name steps notes) ≡ 0
      no_children name steps notes e = grind (arith, common_steps, notes, length, sum_by, children_from)

  -- at most as many children are spawned as the bound allows
  pub births_fit : notes births_of l ≤ script.births
  births_fit =
      let fit = granted_fit script.births seats h.births g.births_lawful g.births_named in
      let ups = g.births up_amount in
      let releases = g.births release_amount in
      omega (arith, fit, ups, releases, g.balanced.births.ups, g.balanced.births.releases)

  -- a birth is refused only if as many were claimed as the bound allows
  pub no_birth_at_bound : 0 < notes no_births_of l → script.births ≤ notes births_of l + notes no_slots_of l
  no_birth_at_bound some = grind (arith, common_steps, refusal_of, other_amount, up_amount, refused_at_bound)

  -- there are as many spawned processes as notes of births
  pub spawned_are : sum_by (λ (p : Process). 1) l.born ≡ notes births_of l
  spawned_are =
      let named_so = g.balanced.children (λ (c : NameAndProgram). 1) in
      let zero_more = sum_by_plus (IsMade script) (λ (m : Made). births_of m.note) (λ (m : Made). 0) (λ (m : Made). sum_by (λ (c : NameAndProgram). 1) (child m.before.name m.step m.note)) (λ m is. child_count_is script.files (child_count m.before.journal) m.before.name m.step m.note is.allows ∙ omega arith) l.made g.balanced.made in
      let none = sum_by-zeros l.made in
      omega (arith, named_so, zero_more, none)
