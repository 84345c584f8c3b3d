-- What is known of a process of a run, after one more note and before its last one.
use Rattle.fak_run.proofs.Common.{◌≡◌, ℕ, ◌+◌, ◌≤◌, List, [], ◌∷◌, ◌++◌, length, arith, subst, ap, ◌∙◌, refl, ScriptOf, StepOf, say, steps_of, NoteOf, downed, said, spawned, Process, FitsFrom, StandsAt, Allows, after_note, births_of, child_count, child_count-append, length-push, note_fits, common_steps}
use Rattle.fak_run.specs.Contexts.{IsContext, IsAsleep, unnoted}

-- what is known of a process of a run, after one more note
pub IsContext-after_note : (script : ScriptOf) (children : ℕ) (p : Process) (step : StepOf) (note : NoteOf)
    → IsContext script children p
    → StandsAt script p step
    → Allows script.files (child_count p.journal) step note
    → IsContext script (children + births_of note) (after_note p note)
IsContext-after_note script children p step note known at ok = grind (arith, common_steps, note_fits, child_count-append)

-- the same, if a text was said
pub IsContext-said : (script : ScriptOf) (children : ℕ) (p : Process) (text : List ℕ) → IsContext script children p → StandsAt script p (say text) → IsContext script children (after_note p (said text))
IsContext-said script children p text known at = record {
  fits = note_fits script p (say text) (said text) known.fits at refl;
  children_are = omega (arith, known.children_are, child_count-append p.journal (said text ∷ []));
}

-- a process has at most as many children as notes
child_count-least : (notes : List NoteOf) → child_count notes ≤ length notes
child_count-least [] = omega arith
child_count-least (spawned _ ∷ notes) = omega (arith, child_count-least notes)
child_count-least (_ ∷ notes) = omega (arith, child_count-least notes)

-- a process has at most as many children as steps taken
pub children-position : (script : ScriptOf) (children : ℕ) (p : Process) → IsContext script children p → children ≤ p.position
children-position script children p known = omega (arith, known.children_are, known.fits.position, child_count-least p.journal)

-- without its last notes
FitsFrom-front : (files n : ℕ) (steps : List StepOf) (notes rest : List NoteOf) → FitsFrom files n steps (notes ++ rest) → FitsFrom files n steps notes
FitsFrom-front files n steps [] rest f = tt
FitsFrom-front files n [] (m ∷ ms) rest f = f
FitsFrom-front files n (s ∷ ss) (m ∷ ms) rest f = (f.0, FitsFrom-front files (n + births_of m) ss ms rest f.1)

-- what is known of a sleeper, without the note of its down
pub IsContext-unnoted : (script : ScriptOf) (children semaphore : ℕ) (p : Process) → IsContext script children p → IsAsleep script semaphore p → IsContext script children (unnoted p)
IsContext-unnoted script children semaphore p known asleep =
    let journal : p.journal ≡ (unnoted p).journal ++ downed semaphore ∷ [] = ap (λ (q : Process). q.journal) asleep.has_note in
    let position : p.position ≡ (unnoted p).position + 1 = ap (λ (q : Process). q.position) asleep.has_note in
    let made : length p.journal ≡ length (unnoted p).journal + 1 = ap length journal ∙ length-push (unnoted p).journal (downed semaphore) in
    let counted : child_count p.journal ≡ child_count (unnoted p).journal + child_count (downed semaphore ∷ []) = ap child_count journal ∙ child_count-append (unnoted p).journal (downed semaphore ∷ []) in
    record {
      fits = record {
        program = known.fits.program;
        slot = known.fits.slot;
        position = omega (arith, known.fits.position, position, made);
        fits = FitsFrom-front script.files 0 (steps_of script p.program) (unnoted p).journal (downed semaphore ∷ []) (subst (FitsFrom script.files 0 (steps_of script p.program)) journal known.fits.fits);
      };
      children_are = omega (arith, known.children_are, counted);
    }
