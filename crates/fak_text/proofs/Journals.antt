-- Journals that fit, note by note.
use Rattle.fak_text.proofs.Common.{◌≡◌, ℕ, ◌+◌, ◌≤◌, List, [], ◌∷◌, ◌++◌, length, slice_get, Some, arith, subst, StepOf, ScriptOf, steps_of, NoteOf, Process, births_of, child_count, after_note, StandsAt, Allows, FitsFrom, FitsScript}
use Rattle.std.proofs.lemmas.Grind.{common_steps}

pub child_count-append : (xs ys : List NoteOf) → child_count (xs ++ ys) ≡ child_count xs + child_count ys
child_count-append [] ys = omega arith
child_count-append (x ∷ xs) ys = omega (arith, child_count-append xs ys)

births_first : (n : ℕ) (note : NoteOf) (notes : List NoteOf) → n + child_count (note ∷ notes) ≡ (n + births_of note) + child_count notes
births_first n note notes = omega arith

pub FitsFrom-push : (files n : ℕ) (steps : List StepOf) (notes : List NoteOf) (step : StepOf) (note : NoteOf)
    → FitsFrom files n steps notes → slice_get steps (length notes) ≡ Some step → Allows files (n + child_count notes) step note → FitsFrom files n steps (notes ++ note ∷ [])
FitsFrom-push files n [] [] step note fits at allowed = absurd (cc)
FitsFrom-push files n (s ∷ ss) [] step note fits at allowed = grind (arith, common_steps)
FitsFrom-push files n [] (m ∷ ms) step note fits at allowed = fits
FitsFrom-push files n (s ∷ ss) (m ∷ ms) step note fits at allowed =
    (fits.0, FitsFrom-push files (n + births_of m) ss ms step note fits.1 at (subst (λ (k : ℕ). Allows files k step note) (births_first n m ms) allowed))

pub length-push : (notes : List NoteOf) (note : NoteOf) → length (notes ++ note ∷ []) ≡ length notes + 1
length-push notes note = grind (arith, common_steps)

-- a process that has done its next step still fits its script
pub note_fits : (script : ScriptOf) (process : Process) (step : StepOf) (note : NoteOf)
    → FitsScript script process → StandsAt script process step → Allows script.files (child_count process.journal) step note → FitsScript script (after_note process note)
note_fits script process step note f at allowed = record {
  program = f.program;
  slot = f.slot;
  position = omega (arith, length-push process.journal note, f.position);
  fits = FitsFrom-push script.files 0 (steps_of script process.program) process.journal step note f.fits (rw (← f.position) at) (subst (λ (k : ℕ). Allows script.files k step note) (let e : child_count process.journal ≡ 0 + child_count process.journal = omega arith in e) allowed);
}

pub FitsFrom-length : (files n : ℕ) (steps : List StepOf) (notes : List NoteOf) → FitsFrom files n steps notes → length notes ≤ length steps
FitsFrom-length files n steps [] fits = omega arith
FitsFrom-length files n [] (m ∷ ms) fits = absurd fits
FitsFrom-length files n (s ∷ ss) (m ∷ ms) fits = omega (arith, FitsFrom-length files (n + births_of m) ss ms fits.1)

-- a process that fits its script is in its program, or at the end
pub position_is_in_program : (script : ScriptOf) (process : Process) → FitsScript script process → process.position ≤ length (steps_of script process.program)
position_is_in_program script process f = omega (arith, f.position, FitsFrom-length script.files 0 (steps_of script process.program) process.journal f.fits)
