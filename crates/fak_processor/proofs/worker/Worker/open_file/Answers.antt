use Rattle.fak_processor.proofs.Common.{rules, ◌∙◌, ◌<◌, ap, subst, refl, IfSome, open_file, FitsScript, after_note, opened, HasMade}
use Rattle.fak_run.specs.ListScheduler as lists
use Rattle.fak_processor.proofs.Stepping.{moves_to, made_is, gains_files, moves_plain, plain_opened}
use Rattle.fak_processor.proofs.worker.Worker.open_file.Goals as goal

pub returns-clause-step : goal.returns-clause-step
returns-clause-step g c =
    let same = c.reserve_note.ensures.same in let fits = subst (λ (t : lists.Turn). FitsScript g.K.Run.script t.process) same c.note.ensures.fits in
    rw (← c.self.view_is, ← c.seats.view_is) (record {
      moves = moves_to (after_note c.args.turn.now.process (opened c.args.inode c.in_ok-entry.entry)) (ap (λ (t : lists.Turn). t.process) c.in_ok-note.ensures.noted ∙ ap (λ (t : lists.Turn). after_note t.process (opened c.args.inode c.in_ok-entry.entry)) same)
          (moves_plain c.args.turn.now.process (open_file c.args.inode) (opened c.args.inode c.in_ok-entry.entry) (made_is c.args.turn.now.process (open_file c.args.inode) (opened c.args.inode c.in_ok-entry.entry) fits c.requires.turn.stands (refl, subst (λ n. IfSome c.in_ok-entry.entry (λ i. i < n)) c.objects.invariant.1.files c.in_ok-entry.ensures.within)) (plain_opened c.args.inode c.in_ok-entry.entry) (gains_files _ c.args.turn.now.process (open_file c.args.inode) (opened c.args.inode c.in_ok-entry.entry) refl (subst (λ n. HasMade n (opened c.args.inode c.in_ok-entry.entry) c.seats.inside.files.seat c.open_shared.new.seat.seat) c.objects.invariant.1.files c.in_ok-entry.ensures.made)));
      looks = refl;
    })

pub returns-clause-alone : goal.returns-clause-alone
returns-clause-alone g c = search rules
