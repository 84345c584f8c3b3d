use Rattle.fak_processor.proofs.Common.{rules, ◌≡◌, ◌∙◌, [], ◌∷◌}
use Rattle.fak_text.specs.Journal.{new_process}
use Rattle.fak_processor.proofs.Starting.{begins_process, starts_one}
use Rattle.fak_processor.proofs.worker.Worker.start_process.Goals as goal

pub returns-clause-general : goal.returns-clause-general
returns-clause-general g c =
    let name : c.push.new.self.items ≡ c.args.number ∷ [] = search rules in
    let is : c.new-context.result ≡ new_process (c.args.number ∷ []) c.args.program c.in_ok-slot.slot = c.new-context.ensures ∙ (λ i. new_process (name i) c.args.program (c.number.ensures.value i)) in
    begins_process c.args.number c.args.program c.new-context.result is c.in_ok-slot.ensures.general c.in_ok-enter_ready.ensures.step.moves

pub returns-clause-alone : goal.returns-clause-alone
returns-clause-alone g c =
    let name : c.push.new.self.items ≡ c.args.number ∷ [] = search rules in
    let is : c.new-context.result ≡ new_process (c.args.number ∷ []) c.args.program c.in_ok-slot.slot = c.new-context.ensures ∙ (λ i. new_process (name i) c.args.program (c.number.ensures.value i)) in
    λ a. starts_one c.args.number c.args.program c.new-context.result is (c.in_ok-slot.ensures.alone a) c.in_ok-enter_ready.ensures.alone
