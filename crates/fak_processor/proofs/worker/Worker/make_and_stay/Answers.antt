use Rattle.fak_processor.proofs.Common.{ap, refl, say, yield, StandsAt, after_note, said, yielded}
use Rattle.fak_run.specs.ListScheduler as lists
use Rattle.fak_processor.proofs.Stepping.{gains_told, moves_to, made_is, moves_plain, plain_said, plain_yielded}
use Rattle.fak_processor.proofs.worker.Worker.make_and_stay.Goals as goal

pub returns-in-Say-clause-step : goal.returns-in-Say-clause-step
returns-in-Say-clause-step g c =
    let x = c.args.turn.now.process in
    let next = rw c.in-Say.is at c.requires.turn.stands in
    record { moves = moves_to (after_note x (said _)) (ap (λ (t : lists.Turn). t.process) (c.in_ok-note_said-in-Say.ensures.noted _ next)) (moves_plain x (say _) (said _) (made_is x (say _) (said _) c.note_said.ensures.fits next refl) (plain_said _ _) (gains_told _ x (say _) (said _) refl)); looks = refl }

pub returns-in-Yield-clause-step : goal.returns-in-Yield-clause-step
returns-in-Yield-clause-step g c =
    let x = c.args.turn.now.process in
    let next : StandsAt g.K.Run.script c.args.turn.now.process yield = rw c.in-Yield.is at c.requires.turn.stands in
    record { moves = moves_to (after_note x yielded) (ap (λ (t : lists.Turn). t.process) c.in_ok-note-in-Yield.ensures.noted) (moves_plain x yield yielded (made_is x yield yielded c.note.ensures.fits next tt) plain_yielded (gains_told _ x yield yielded refl)); looks = refl }
