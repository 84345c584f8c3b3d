use Rattle.std.proofs.Common.{ℕ, zero, suc, ◌<◌, ◌≤◌, [], ◌∷◌, length, refl, arith}
use Rattle.fak_text.specs.Journal.{downed, new_process}
use Rattle.fak_text.specs.Script.{down, steps_of}
use Rattle.fak_run.specs.Examples.{ping_pong}
use Rattle.fak_callers.proofs.scripts.a_process_walks_its_program.Goals as goal

few : (program : ℕ) → program < 2 → length (steps_of ping_pong program) ≤ 3
few zero low = omega arith
few (suc zero) low = omega arith
few (suc (suc program)) low = absurd (omega (arith, low))

pub returns-clause-begins : goal.returns-clause-begins
returns-clause-begins c = c.a_new_process_fits.ensures ping_pong (1 ∷ []) 1 1 (omega arith) (omega arith)

pub returns-clause-moves : goal.returns-clause-moves
returns-clause-moves c =
    let begins = c.a_new_process_fits.ensures ping_pong (1 ∷ []) 1 1 (omega arith) (omega arith) in
    c.an_allowed_note_still_fits.ensures ping_pong (new_process (1 ∷ []) 1 1) (down 1) (downed 1) begins refl refl

pub returns-clause-stands : goal.returns-clause-stands
returns-clause-stands c process fits =
    let within = c.a_process_that_fits_stands_in_its_program.ensures ping_pong process fits in
    omega (arith, within, few process.program fits.program)
