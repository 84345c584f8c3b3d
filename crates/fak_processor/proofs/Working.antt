-- The loop of the only processor.
use Rattle.fak_processor.proofs.Common.{◌≡◌, List, [], ◌∷◌, suc, refl, ap, sym, ◌∙◌, subst, Option, None, ScriptOf, Process, State, Lists, Turn, step, take_front, turn_over, ProcessorOf, IsAlone, GoesOn, GoesTo, IsReached, lists_of}

-- the processor with who has it
abbrev pub state_of : ScriptOf → ProcessorOf → Option Turn → State
state_of script p running = record { running = running; lists = lists_of script p }

-- one step more, and a look at `busy`
pub reached_on : {script : ScriptOf} {p q r : ProcessorOf} (a b : Option Turn) → IsReached script p (state_of script p a) → (IsAlone script p → GoesOn script q b (step script (state_of script p a)))
    → (IsAlone script q → GoesTo script r (lists_of script q)) → IsReached script r (state_of script r b)
reached_on {script} {p} {q} {r} a b was made looked =
    let m = made was.alone in
    let l = looked m.alone in
    record {
      alone = l.alone;
      count = suc was.count;
      reached = (λ i. record { running = b; lists = l.lists_are i }) ∙ (m.state_is ∙ ap (step script) was.reached);
    }

-- no process takes the processor only if none is ready, and then the lists stay
nobody_ready : (s : Lists) (ready : List Process) → (take_front s ready).running ≡ None → (ready ≡ []) × ((take_front s ready).lists ≡ s)
nobody_ready s [] e = (refl, refl)
nobody_ready s (first ∷ others) e = absurd cc

-- the last step: nobody ran before it nor after it
pub reached_the_end : {script : ScriptOf} {p q r : ProcessorOf} (a b : Option Turn) → a ≡ None → b ≡ None → IsReached script p (state_of script p a) → (IsAlone script p → GoesOn script q b (step script (state_of script p a)))
    → (IsAlone script q → GoesTo script r (lists_of script q)) → IsReached script r (turn_over (lists_of script r)) × ((lists_of script r).ready ≡ [])
reached_the_end {script} {p} {q} {r} a b before after was made looked =
    let m = made was.alone in
    let l = looked m.alone in
    let s = lists_of script p in
    let stepped : state_of script q None ≡ take_front s s.ready = subst (λ (z : Option Turn × Option Turn). state_of script q z.0 ≡ step script (state_of script p z.1)) (λ i. (after i, before i)) m.state_is in
    let over = nobody_ready s s.ready (sym (ap (λ (z : State). z.running) stepped)) in (
      subst (λ z. IsReached script r (state_of script r z)) after (reached_on a b was made looked),
      ap (λ (z : Lists). z.ready) (l.lists_are ∙ (ap (λ (z : State). z.lists) stepped ∙ over.1)) ∙ over.0,
    )
