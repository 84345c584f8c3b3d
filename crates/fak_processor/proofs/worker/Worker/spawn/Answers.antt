use Rattle.std.proofs.lemmas.Result.{MatchResult-weaker, on_err_weaker}
use Rattle.fak_processor.proofs.Common.{◌≡◌, ◌∙◌, ap, sym, subst, true, false, rules, [], ◌∷◌, ◌++◌, ℕ, None, spawn, Process, FitsScript, new_process, after_note, child_count, spawned, no_birth, no_slot, Moves}
use Rattle.fak_run.specs.ListScheduler as lists
use Rattle.fak_processor.specs.Steps.{MayMake}
use Rattle.fak_processor.proofs.Stepping.{entry_of, credited_behind, looks_behind, moves_from, moves_to, moves_unborn, moves_slotless, moves_spawned, moves_enters}
use Rattle.fak_processor.proofs.worker.Worker.spawn.Goals as goal

pub returns-then-not-branch-clause-step : goal.returns-then-not-branch-clause-step
returns-then-not-branch-clause-step g c =
    let same = c.reserve_note.ensures.same in
    let fits = subst (λ (t : lists.Turn). FitsScript g.K.Run.script t.process) same c.note.ensures.fits in
    let born : c.in_ok-claim_birth.field-0 ≡ false = search rules in
    let unborn = rw born at c.in_ok-claim_birth.ensures.gains in
    record {
      moves = moves_from c.reserve_halted.ensures.same
          (moves_to (after_note c.args.turn.now.process no_birth) (ap (λ (t : lists.Turn). t.process) c.in_ok-note.ensures.noted ∙ ap (λ (t : lists.Turn). after_note t.process no_birth) same)
          (moves_unborn unborn.0 c.args.turn.now.process c.args.program fits c.requires.turn.stands unborn.1));
      looks = search rules;
    }

pub note-requires-in_default : goal.note-requires-in_default
note-requires-in_default g c =
    let same = c.reserve_note.ensures.same in
    let may = subst (λ (t : lists.Turn). MayMake g.K.Run.script t (spawn c.args.program)) (sym same) c.requires.turn in
    record { allowed = (spawn c.args.program, may, tt) }

pub returns-in_default-clause-step : goal.returns-in_default-clause-step
returns-in_default-clause-step g c =
    let same = c.reserve_note.ensures.same in
    let fits = subst (λ (t : lists.Turn). FitsScript g.K.Run.script t.process) same c.note-in_default.ensures.fits in
    let born : c.in_ok-claim_birth.field-0 ≡ true = search rules in
    let claimed = rw born at c.in_ok-claim_birth.ensures.gains in
    let none : c.in_ok-slot.field-0 ≡ None = search rules in
    let slotless = rw none at c.in_ok-slot.ensures.gains in
    record {
      moves = moves_from c.reserve_halted.ensures.same
          (moves_to (after_note c.args.turn.now.process no_slot) (ap (λ (t : lists.Turn). t.process) c.in_ok-note-2.ensures.noted ∙ ap (λ (t : lists.Turn). after_note t.process no_slot) same)
          (moves_slotless slotless.0 c.args.turn.now.process c.args.program fits c.requires.turn.stands claimed slotless.1 c.give_birth_back.ensures.gains));
      looks = search rules;
    }

pub note-requires-2 : goal.note-requires-2
note-requires-2 g c =
    let same = c.reserve_note.ensures.same in
    let may = subst (λ (t : lists.Turn). MayMake g.K.Run.script t (spawn c.args.program)) (sym same) c.requires.turn in
    record { allowed = (spawn c.args.program, may, c.children-number.ensures) }

pub returns-clause-step : goal.returns-clause-step
returns-clause-step g c =
    let same = c.reserve_note.ensures.same in
    let fits = subst (λ (t : lists.Turn). FitsScript g.K.Run.script t.process) same c.note-2.ensures.fits in
    let born : c.in_ok-claim_birth.field-0 ≡ true = search rules in
    let claimed = rw born at c.in_ok-claim_birth.ensures.gains in
    let x = c.args.turn.now.process in
    let got = rw c.in-Some.is at c.in_ok-slot.ensures.gains in
    let number_is : c.children-number.result ≡ child_count x.journal = c.children-number.ensures ∙ ap (λ (t : lists.Turn). child_count t.process.journal) same in
    let child_is : c.new-child.result ≡ new_process (x.name ++ child_count x.journal ∷ []) c.args.program c.in-Some.slot =
    c.new-child.ensures ∙ (λ i. new_process (c.in_ok-name.ensures.name i) c.args.program (c.number.ensures.value i)) in
    let entry = ap entry_of c.take_slot.ensures.same ∙ (ap entry_of c.claim_birth.ensures.same ∙ ap entry_of c.reserve_halted.ensures.same) in
    MatchResult-weaker c.make_ready.result c.make_ready.ensures.step (λ _ ready. record {
      moves = moves_from c.reserve_halted.ensures.same
          (moves_to (after_note x (spawned (child_count x.journal)))
          (ap (λ (t : lists.Turn). t.process) c.in_ok-note-3.ensures.noted ∙ (ap (λ (t : lists.Turn). after_note t.process (spawned c.children-number.result)) same ∙ ap (λ (n : ℕ). after_note x (spawned n)) number_is))
          (moves_enters (after_note x (spawned (child_count x.journal))) (new_process (x.name ++ child_count x.journal ∷ []) c.args.program c.in-Some.slot)
          (moves_spawned got.0 x c.args.program c.in-Some.slot fits c.requires.turn.stands claimed got.1 ready.credited)
          (subst (λ (q : Process). Moves g.K.Run.script (q ∷ []) [] ready.between c.make_ready.new.self) child_is ready.entered)));
      looks = ready.looks ∙ looks_behind c.args.self.now c.take_slot.new.self entry;
    }) (λ _ spent. spent)

pub returns-clause-credited : goal.returns-clause-credited
returns-clause-credited g c =
    on_err_weaker c.make_ready.result (credited_behind c.args.self.now c.take_slot.new.self c.make_ready.new.self
    (ap entry_of c.take_slot.ensures.same ∙ (ap entry_of c.claim_birth.ensures.same ∙ ap entry_of c.reserve_halted.ensures.same))) c.make_ready.ensures.credited
