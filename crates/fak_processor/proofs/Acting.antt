-- How what a processor does balances.
use Rattle.fak_processor.proofs.Common.{Ended, Halted, next_step, Ledger, Balanced, nothing, joined, ObjectsOf, ProcessorOf, AreFor, ◌≡◌, ℕ, List, [], ◌∷◌, ◌++◌, length, refl, ap, sym, ◌∙◌, subst, arith, None, sum_by, append-nil, sum_by-append, SeatInfo, Kind, Mark, Debit, kinds_in, kinds_out, ScriptOf, Process, FitsScript, MovesNoItem, IsQuiet, GrowsIn, GrowsShut, GrowsAtLast, GrowsOut, GrowsEmpty, BeginsNone, Gains, Moves, row_as, balanced-joined, common_steps}
use Rattle.fak_processor.specs.Events.{takes, puts, halts, ends, closed, empty}
use Rattle.fak_processor.proofs.Events.{by_free, by_ready, quiet, in_other_hands, balanced-beside, keeps_takes, keeps_puts, keeps_halts, keeps_ends}
use Rattle.fak_processor.proofs.Moving.{quiet_empty, gains_none, gains_then, gains_ready, gains_free}
use Rattle.fak_processor.proofs.Gaining.{gains_as}

-- nothing is begun in two ledgers
begins_then : (a b : Ledger) → BeginsNone a → BeginsNone b → BeginsNone (joined a b)
begins_then a b x y = (ap (λ l. l ++ b.begun) x.0 ∙ y.0, ap (λ l. l ++ b.first) x.1 ∙ y.1)

module _ {script : ScriptOf} where
  -- ---- marks that weigh nothing

  pub keeps_quiet : (n : ℕ) (kinds : List (Kind Process)) → IsQuiet kinds → Balanced script n [] [] (record nothing { ready = kinds })
  keeps_quiet n kinds q = by_ready script n kinds (λ f. omega (arith, q.idle.puts f, q.idle.gots f)) q.closes q.closeds

  pub keeps_idle : (n : ℕ) (kinds : List (Kind ℕ)) → MovesNoItem kinds → Balanced script n [] [] (record nothing { free = kinds })
  keeps_idle n kinds q = by_free script n kinds [] [] (λ g. omega (arith, q.puts g, q.gots g)) (λ f. refl) refl

  -- ---- moves one after the other, and with others in hand

  pub moves_none : (p : ProcessorOf) → Moves script [] [] p p
  moves_none p = record { ledger = nothing; begins = (refl, refl); balanced = quiet script (length script.semaphores); gains = gains_none p }

  pub moves_then : {before between after : List Process} {p q r : ProcessorOf} → Moves script before between p q → Moves script between after q r → Moves script before after p r
  moves_then {before} {between} {after} a b = record {
    ledger = joined a.ledger b.ledger;
    begins = begins_then a.ledger b.ledger a.begins b.begins;
    balanced = balanced-joined script (length script.semaphores) before between after a.ledger b.ledger a.balanced b.balanced;
    gains = gains_then a.ledger b.ledger a.gains b.gains;
  }

  -- others in hand, before these
  balanced_behind : {n : ℕ} {before after : List Process} {l : Ledger} (others : List Process) → Balanced script n before after l → Balanced script n (others ++ before) (others ++ after) l
  balanced_behind {before = before} {after = after} others b = in_other_hands b (λ f. omega (arith, sum_by-append f others before, sum_by-append f others after))

  pub moves_behind : {before after : List Process} {p q : ProcessorOf} (others : List Process) → Moves script before after p q → Moves script (others ++ before) (others ++ after) p q
  moves_behind others m = record { ledger = m.ledger; begins = m.begins; balanced = balanced_behind others m.balanced; gains = m.gains }

  -- ---- the ready queue

  pub moves_taken : {o : ObjectsOf} (p : ProcessorOf) (made : AreFor script o) {x y : Process} {s : SeatInfo (Mark Process)} → y ≡ x → GrowsOut o.ready.size x p.ready s → Moves script [] (y ∷ []) p (record p { ready = s })
  moves_taken p made {x} {y} {s} y_is g = subst (λ z. Moves script [] (z ∷ []) p (record p { ready = s })) (sym y_is) (record { ledger = takes g.ticket x; begins = (refl, refl); balanced = keeps_takes script (length script.semaphores) g.ticket x; gains = gains_ready p (kinds_out g.ticket x) made.ready g.grows })

  pub moves_empty : {o : ObjectsOf} (p : ProcessorOf) (made : AreFor script o) {s : SeatInfo (Mark Process)} → GrowsEmpty o.ready.size p.ready s → Moves script [] [] p (record p { ready = s })
  moves_empty p made g = record { ledger = record nothing { ready = empty g.late }; begins = (refl, refl); balanced = keeps_quiet (length script.semaphores) (empty g.late) (quiet_empty g.late); gains = gains_ready p _ made.ready g.grows }

  pub moves_entered : {o : ObjectsOf} (p : ProcessorOf) (made : AreFor script o) {x : Process} {s : SeatInfo (Mark Process)} {h : List Process} → h ≡ p.halted → GrowsIn o.ready.size x p.ready s → Moves script (x ∷ []) [] p (record p { ready = s; halted = h })
  moves_entered p made {x} {s} {h} h_is g = record {
    ledger = joined (record nothing { ready = g.refused }) (puts g.ticket x);
    begins = (refl, refl);
    balanced = balanced-joined script n (x ∷ []) (x ∷ []) [] (record nothing { ready = g.refused }) (puts g.ticket x) (balanced-beside (x ∷ []) (keeps_quiet n g.refused g.quiet)) (keeps_puts script n g.ticket x);
    gains = subst (λ l. Gains script p (record p { ready = s; halted = l }) (record nothing { ready = g.refused ++ kinds_in g.ticket x })) (sym h_is) (gains_ready p (g.refused ++ kinds_in g.ticket x) made.ready g.grows);
  }
    where
      n : ℕ
      n = length script.semaphores

  -- who finds the ready queue shut is halted
  gains_halted : {o : ObjectsOf} (p : ProcessorOf) (made : AreFor script o) {x : Process} {s : SeatInfo (Mark Process)} {h : List Process} {q : ProcessorOf} → h ≡ p.halted ++ x ∷ [] → (g : GrowsShut o.ready.size p.ready s)
      → Gains script (record p { ready = s; halted = h }) q (record nothing { busy = Debit ∷ [] }) → Gains script p q (joined (record nothing { ready = g.refused }) (halts g.late x))
  gains_halted p made {x} {s} {h} {q} h_is g debited =
      let entered : Gains script p (record p { ready = s }) (record nothing { ready = g.refused ++ closed g.late }) = gains_ready p (g.refused ++ closed g.late) made.ready g.grows in
      let with_row : Gains script p (record p { ready = s; halted = h }) (record nothing { ready = g.refused ++ closed g.late; rows = row_as Halted x ∷ [] }) = record {
        adds = λ d. let a = entered.adds d in record { ready = a.ready; free = a.free; births = a.births; busy = a.busy; credits = a.credits; waits = a.waits };
        names = entered.names;
        lines = entered.lines;
        rows = λ f. omega (arith, ap (sum_by (λ (q : Process). f (row_as Halted q))) h_is, sum_by-append (λ (q : Process). f (row_as Halted q)) p.halted (x ∷ []));
      } in
      gains_as (joined (record nothing { ready = g.refused ++ closed g.late; rows = row_as Halted x ∷ [] }) (record nothing { busy = Debit ∷ [] })) (joined (record nothing { ready = g.refused }) (halts g.late x))
      (gains_then (record nothing { ready = g.refused ++ closed g.late; rows = row_as Halted x ∷ [] }) (record nothing { busy = Debit ∷ [] }) with_row debited)
      (record { ready = append-nil (g.refused ++ closed g.late); free = refl; births = refl; busy = refl; credits = λ t. refl; waits = λ t. refl; rows = refl; lines = refl })

  pub moves_halted : {o : ObjectsOf} (p : ProcessorOf) (made : AreFor script o) {x : Process} {s : SeatInfo (Mark Process)} {h : List Process} {q : ProcessorOf} → FitsScript script x → h ≡ p.halted ++ x ∷ [] → GrowsShut o.ready.size p.ready s
      → Gains script (record p { ready = s; halted = h }) q (record nothing { busy = Debit ∷ [] }) → Moves script (x ∷ []) [] p q
  moves_halted p made {x} fits h_is g debited = record {
    ledger = joined (record nothing { ready = g.refused }) (halts g.late x);
    begins = (refl, refl);
    balanced = let n = length script.semaphores in balanced-joined script n (x ∷ []) (x ∷ []) [] (record nothing { ready = g.refused }) (halts g.late x) (balanced-beside (x ∷ []) (keeps_quiet n g.refused g.quiet)) (keeps_halts script n g.late x fits);
    gains = gains_halted p made h_is g debited;
  }

  -- ---- the free queue

  pub moves_ended : {o : ObjectsOf} (p : ProcessorOf) (made : AreFor script o) {x : Process} {slot : ℕ} {s : SeatInfo (Mark ℕ)} {e : List Process} {q : ProcessorOf} → FitsScript script x → next_step script x ≡ None → slot ≡ x.slot → e ≡ p.ended ++ x ∷ [] → GrowsAtLast o.free.size slot p.free s
      → Gains script (record p { free = s; ended = e }) q (record nothing { busy = Debit ∷ [] }) → Moves script (x ∷ []) [] p q
  moves_ended p made {x} {slot} {s} {e} {q} fits over slot_is e_is g debited = record {
    ledger = joined (record nothing { free = g.refused }) (ends g.ticket x);
    begins = (refl, refl);
    balanced = balanced-joined script n (x ∷ []) (x ∷ []) [] (record nothing { free = g.refused }) (ends g.ticket x) (balanced-beside (x ∷ []) (keeps_idle n g.refused g.idle)) (keeps_ends script n g.ticket x fits over);
    gains = gains_as (joined (record nothing { free = g.refused ++ kinds_in g.ticket slot; rows = row_as Ended x ∷ [] }) (record nothing { busy = Debit ∷ [] })) (joined (record nothing { free = g.refused }) (ends g.ticket x))
        (gains_then (record nothing { free = g.refused ++ kinds_in g.ticket slot; rows = row_as Ended x ∷ [] }) (record nothing { busy = Debit ∷ [] }) with_row debited)
        (record { ready = refl; free = append-nil (g.refused ++ kinds_in g.ticket slot) ∙ ap (λ (k : ℕ). g.refused ++ kinds_in g.ticket k) slot_is; births = refl; busy = refl; credits = λ t. refl; waits = λ t. refl; rows = refl; lines = refl });
  }
    where
      n : ℕ
      n = length script.semaphores

      freed : Gains script p (record p { free = s }) (record nothing { free = g.refused ++ kinds_in g.ticket slot })
      freed = gains_free p (g.refused ++ kinds_in g.ticket slot) made.free g.grows

      with_row : Gains script p (record p { free = s; ended = e }) (record nothing { free = g.refused ++ kinds_in g.ticket slot; rows = row_as Ended x ∷ [] })
      with_row = grind (arith, common_steps, freed, sum_by, row_as, sum_by-append)
