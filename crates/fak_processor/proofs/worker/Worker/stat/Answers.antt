use Rattle.fak_processor.proofs.Common.{rules, ◌∙◌, ap, subst, refl, stat, FitsScript, after_note, statted, HasMade}
use Rattle.fak_run.specs.ListScheduler as lists
use Rattle.fak_processor.proofs.Stepping.{moves_to, made_is, gains_files, moves_plain, plain_statted}
use Rattle.fak_processor.proofs.worker.Worker.stat.Goals as goal

pub returns-clause-step : goal.returns-clause-step
returns-clause-step g c =
    let same = c.reserve_note.ensures.same in let fits = subst (λ (t : lists.Turn). FitsScript g.K.Run.script t.process) same c.note.ensures.fits in
    rw (← c.self.view_is, ← c.seats.view_is) (record {
      moves = moves_to (after_note c.args.turn.now.process (statted c.args.inode c.in_ok-uses.uses)) (ap (λ (t : lists.Turn). t.process) c.in_ok-note.ensures.noted ∙ ap (λ (t : lists.Turn). after_note t.process (statted c.args.inode c.in_ok-uses.uses)) same)
          (moves_plain c.args.turn.now.process (stat c.args.inode) (statted c.args.inode c.in_ok-uses.uses) (made_is c.args.turn.now.process (stat c.args.inode) (statted c.args.inode c.in_ok-uses.uses) fits c.requires.turn.stands refl) (plain_statted c.args.inode c.in_ok-uses.uses) (gains_files _ c.args.turn.now.process (stat c.args.inode) (statted c.args.inode c.in_ok-uses.uses) refl (subst (λ n. HasMade n (statted c.args.inode c.in_ok-uses.uses) c.seats.inside.files.seat c.uses_shared.new.seat.seat) c.objects.invariant.1.files c.in_ok-uses.ensures.made)));
      looks = refl;
    })

pub returns-clause-alone : goal.returns-clause-alone
returns-clause-alone g c = search rules
