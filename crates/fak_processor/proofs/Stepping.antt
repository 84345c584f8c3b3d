-- How steps balance.
use Rattle.std.specs.Prelude.{◌⊎◌}
use Rattle.fak_model.specs.Credit as credit
use Rattle.fak_processor.specs.Asking.{looks_of}
use Rattle.fak_processor.specs.Moving.{EntersCredited}
use Rattle.fak_processor.proofs.Common.{SeatInfo, Mark, CreditMark, Grows, credit_rules, child_of, ProcessorOf, HasMade, is_file_line, ◌≡◌, ℕ, ◌<◌, ◌==◌, Bool, true, false, cond, List, [], ◌∷◌, ◌++◌, length, refl, ap, sym, ◌∙◌, subst, arith, Option, flat_map, append-nil, FileSeatInfo, Kind, Debit, Credit, Up, Release, cond_here, kinds_in, kinds_out, kinds_not_in, kinds_not_out, ScriptOf, StepOf, say, yield, open_file, close_file, stat, down, up, spawn, shutdown, NoteOf, said, yielded, opened, closed, statted, downed, upped, spawned, no_birth, no_slot, shut_down, Process, child_count, after_note, FitsScript, StandsAt, Allows, Ledger, IsMade, nothing, joined, other_down, made_of, IsPlain, steps, passes, parks, adds, wakes, spawns, lacks_birth, lacks_slot, shuts, waits_refused, refused_claim, empty, bundle_of, names_of, Gains, GainsParked, GainsWoken, Moves, at_one, lines_more, balanced-joined, FileEntry, Close, common_steps}
use Rattle.fak_processor.proofs.Events.{balanced-beside, keeps_steps, keeps_passes, keeps_parks, keeps_adds, keeps_wakes, keeps_spawns, keeps_lacks_birth, keeps_lacks_slot, keeps_shuts, keeps_waits_refused}
use Rattle.fak_processor.proofs.Calls.{refused_in_weighs, refused_out_weighs}
use Rattle.fak_processor.proofs.Moving.{adds_none, gains_none, gains_then}
use Rattle.fak_processor.proofs.Gaining.{gains_as}
use Rattle.fak_processor.proofs.Acting.{moves_then, moves_behind}

cond_both : {A : Type 0} (b : Bool) (x y : List A) → cond b (x ++ y) [] ≡ cond b x [] ++ cond b y []
cond_both b x y = grind (arith, common_steps)

pub plain_said : (t u : _) → IsPlain (say t) (said u)
plain_said t u = record { childless = λ name. refl; births = refl; no_births = refl; no_slots = refl; downs = λ s. refl; ups = λ s. refl; shuts = refl }

pub plain_opened : (n : ℕ) (e : Option ℕ) → IsPlain (open_file n) (opened n e)
plain_opened n e = record { childless = λ name. refl; births = refl; no_births = refl; no_slots = refl; downs = λ s. refl; ups = λ s. refl; shuts = refl }

pub plain_closed : (n : ℕ) (e : Option ℕ) → IsPlain (close_file n) (closed n e)
plain_closed n e = record { childless = λ name. refl; births = refl; no_births = refl; no_slots = refl; downs = λ s. refl; ups = λ s. refl; shuts = refl }

pub plain_statted : (n : ℕ) (e : Option ℕ) → IsPlain (stat n) (statted n e)
plain_statted n e = record { childless = λ name. refl; births = refl; no_births = refl; no_slots = refl; downs = λ s. refl; ups = λ s. refl; shuts = refl }

pub plain_yielded : IsPlain yield yielded
plain_yielded = record { childless = λ name. refl; births = refl; no_births = refl; no_slots = refl; downs = λ s. refl; ups = λ s. refl; shuts = refl }

-- the two seats by which a process becomes ready
abbrev pub entry_of : ProcessorOf → SeatInfo (Mark Process) × SeatInfo CreditMark
entry_of p = (p.ready, p.busy)

-- what went before was a call of neither
pub credited_behind : (p q r : ProcessorOf) → entry_of q ≡ entry_of p → EntersCredited q r → EntersCredited p r
credited_behind p q r same e = subst (λ s. (r.ready ≡ s.0) ⊎ Grows credit_rules credit.kind_of s.1 r.busy (Credit ∷ [])) same e

-- and no look
pub looks_behind : (p q : ProcessorOf) → entry_of q ≡ entry_of p → looks_of q.ready ≡ looks_of p.ready
looks_behind p q same = ap (λ s. looks_of s.0) same

module _ {script : ScriptOf} where
  pub made_is : (p : Process) (step : StepOf) (note : NoteOf) → FitsScript script p → StandsAt script p step → Allows script.files (child_count p.journal) step note → IsMade script (made_of p step note)
  made_is p step note fits stands allows = record { fits = fits; stands = stands; allows = allows }

  pub moves_to : {before : List Process} {p q : ProcessorOf} {y : Process} (z : Process) → y ≡ z → Moves script before (z ∷ []) p q → Moves script before (y ∷ []) p q
  moves_to {before} {p} {q} z is m = subst (λ v. Moves script before (v ∷ []) p q) (sym is) m

  pub moves_from : {before after : List Process} {o p q : ProcessorOf} → p ≡ o → Moves script before after p q → Moves script before after o q
  moves_from {before} {after} {o} {p} {q} is m = subst (λ x. Moves script before after x q) is m

  -- a line of the file table
  pub gains_files : (p : ProcessorOf) {files : FileSeatInfo} {copy : List FileEntry} (x : Process) (step : StepOf) (note : NoteOf) → is_file_line note ≡ true → HasMade script.files note p.files.seat files.seat
      → Gains script p (record p { files = files; copy = copy }) (steps x step note)
  gains_files p {files} x step note is made = grind (arith, common_steps, names_of, adds, adds_none, bundle_of, lines_more)

  -- a line that no object saw
  pub gains_told : (p : ProcessorOf) (x : Process) (step : StepOf) (note : NoteOf) → is_file_line note ≡ false → Gains script p p (steps x step note)
  gains_told p x step note is = gains_as nothing (steps x step note) (gains_none p) (record { ready = refl; free = refl; births = refl; busy = refl; credits = λ t. refl; waits = λ t. refl; rows = refl; lines = sym (ap (λ b. cond b (note ∷ []) []) is) })

  -- ---- up

  pub moves_added : {p q : ProcessorOf} (at : ℕ) (x : Process) → FitsScript script x → StandsAt script x (up at) → Gains script p q (record nothing { credits = at_one at (Credit ∷ []) }) → Moves script (x ∷ []) (after_note x (upped at) ∷ []) p q
  moves_added at x fits stands g = record {
    ledger = adds at x;
    begins = (refl, refl);
    balanced = keeps_adds script (length script.semaphores) at x (made_is x (up at) (upped at) fits stands refl);
    gains = gains_as (record nothing { credits = at_one at (Credit ∷ []) }) (adds at x) g (record { ready = refl; free = refl; births = refl; busy = refl; credits = λ t. refl; waits = λ t. refl; rows = refl; lines = refl });
  }

  pub moves_woken : {p q r : ProcessorOf} (at : ℕ) (x w : Process) → at < length script.semaphores → FitsScript script x → StandsAt script x (up at) → GainsWoken script at w p q → Gains script q r (record nothing { busy = Credit ∷ [] })
      → Moves script (x ∷ []) (after_note x (upped at) ∷ w ∷ []) p r
  moves_woken {p} {q} {r} at x w below fits stands k credited =
      subst (λ v. Moves script (x ∷ []) (after_note x (upped at) ∷ v ∷ []) p r) (sym k.woken_is) (record {
        ledger = joined first second;
        begins = (refl, refl);
        balanced = balanced-joined script n (x ∷ []) (x ∷ []) (after_note x (upped at) ∷ after_note k.sleeper (downed k.semaphore) ∷ []) first second (balanced-beside (x ∷ []) (keeps_waits_refused script n at tries below (λ f. refused_out_weighs f k.refused)))
            (keeps_wakes script n at k.ticket x k.sleeper k.semaphore below (made_is k.sleeper (down k.semaphore) (downed k.semaphore) k.fits k.stands refl) (made_is x (up at) (upped at) fits stands refl));
        gains = gains_as (joined woke (record nothing { busy = Credit ∷ [] })) (joined first second) (gains_then woke (record nothing { busy = Credit ∷ [] }) k.gains credited)
            (record { ready = refl; free = refl; births = refl; busy = refl; credits = λ t. append-nil (at_one at (Credit ∷ []) t); waits = λ t. append-nil (at_one at (tries ++ kinds_out k.ticket k.sleeper) t) ∙ cond_both (at == t) tries (kinds_out k.ticket k.sleeper); rows = refl; lines = refl });
      })
    where
      n : ℕ
      n = length script.semaphores

      tries : List (Kind Process)
      tries = flat_map kinds_not_out k.refused

      first : Ledger
      first = waits_refused at tries

      second : Ledger
      second = wakes at k.ticket x k.sleeper k.semaphore

      woke : Ledger
      woke = record nothing { credits = at_one at (Credit ∷ []); waits = at_one at (tries ++ kinds_out k.ticket k.sleeper) }

  -- the process that was woken enters, while another one has the processor
  pub moves_enters : {p q r : ProcessorOf} {before : List Process} (x w : Process) → Moves script before (x ∷ w ∷ []) p q → Moves script (w ∷ []) [] q r → Moves script before (x ∷ []) p r
  moves_enters x w a b = moves_then a (moves_behind (x ∷ []) b)

  -- ---- down

  pub moves_passed : {p q : ProcessorOf} (at : ℕ) (x : Process) → FitsScript script x → StandsAt script x (down at) → Gains script p q (record nothing { credits = at_one at (Debit ∷ []) }) → Moves script (x ∷ []) (after_note x (downed at) ∷ []) p q
  moves_passed at x fits stands g = record {
    ledger = passes at x;
    begins = (refl, refl);
    balanced = keeps_passes script (length script.semaphores) at x (made_is x (down at) (downed at) fits stands refl);
    gains = gains_as (record nothing { credits = at_one at (Debit ∷ []) }) (passes at x) g (record { ready = refl; free = refl; births = refl; busy = refl; credits = λ t. refl; waits = λ t. refl; rows = refl; lines = refl });
  }

  pub moves_parked : {p q r : ProcessorOf} (at : ℕ) (x : Process) → at < length script.semaphores → StandsAt script x (down at) → GainsParked script at x p q → Gains script q r (record nothing { busy = Debit ∷ [] }) → Moves script (x ∷ []) [] p r
  moves_parked at x below stands k debited = record {
    ledger = joined first second;
    begins = (refl, refl);
    balanced = balanced-joined script n (x ∷ []) (x ∷ []) [] first second (balanced-beside (x ∷ []) (keeps_waits_refused script n at tries below (λ f. refused_in_weighs f k.refused))) (keeps_parks script n at k.ticket x below (ap (other_down at) stands ∙ cond_here at 0 1));
    gains = gains_as (joined parked (record nothing { busy = Debit ∷ [] })) (joined first second) (gains_then parked (record nothing { busy = Debit ∷ [] }) k.gains debited)
        (record { ready = refl; free = refl; births = refl; busy = refl; credits = λ t. append-nil (at_one at (Debit ∷ []) t); waits = λ t. append-nil (at_one at (tries ++ kinds_in k.ticket x) t) ∙ cond_both (at == t) tries (kinds_in k.ticket x); rows = refl; lines = refl });
  }
    where
      n : ℕ
      n = length script.semaphores

      tries : List (Kind Process)
      tries = flat_map kinds_not_in k.refused

      first : Ledger
      first = waits_refused at tries

      second : Ledger
      second = parks at k.ticket x

      parked : Ledger
      parked = record nothing { credits = at_one at (Debit ∷ []); waits = at_one at (tries ++ kinds_in k.ticket x) }

  -- ---- spawn

  pub moves_unborn : {p q : ProcessorOf} (late : Bool) (x : Process) (program : ℕ) → FitsScript script x → StandsAt script x (spawn program) → Gains script p q (record nothing { births = refused_claim late }) → Moves script (x ∷ []) (after_note x no_birth ∷ []) p q
  moves_unborn late x program fits stands g = record {
    ledger = lacks_birth late x program;
    begins = (refl, refl);
    balanced = keeps_lacks_birth script (length script.semaphores) late x program (made_is x (spawn program) no_birth fits stands tt);
    gains = gains_as (record nothing { births = refused_claim late }) (lacks_birth late x program) g (record { ready = refl; free = refl; births = refl; busy = refl; credits = λ t. refl; waits = λ t. refl; rows = refl; lines = refl });
  }

  pub moves_slotless : {p q r s : ProcessorOf} (late : Bool) (x : Process) (program : ℕ) → FitsScript script x → StandsAt script x (spawn program) → Gains script p q (record nothing { births = Up 1 ∷ [] }) → Gains script q r (record nothing { free = empty late })
      → Gains script r s (record nothing { births = Release 1 ∷ [] }) → Moves script (x ∷ []) (after_note x no_slot ∷ []) p s
  moves_slotless late x program fits stands a b d = record {
    ledger = lacks_slot late x program;
    begins = (refl, refl);
    balanced = keeps_lacks_slot script (length script.semaphores) late x program (made_is x (spawn program) no_slot fits stands tt);
    gains = gains_as (joined (joined (record nothing { births = Up 1 ∷ [] }) (record nothing { free = empty late })) (record nothing { births = Release 1 ∷ [] })) (lacks_slot late x program)
        (gains_then (joined (record nothing { births = Up 1 ∷ [] }) (record nothing { free = empty late })) (record nothing { births = Release 1 ∷ [] }) (gains_then (record nothing { births = Up 1 ∷ [] }) (record nothing { free = empty late }) a b) d)
        (record { ready = refl; free = append-nil (empty late); births = refl; busy = refl; credits = λ t. refl; waits = λ t. refl; rows = refl; lines = refl });
  }

  pub moves_spawned : {p q r s : ProcessorOf} (ticket : ℕ) (x : Process) (program slot : ℕ) → FitsScript script x → StandsAt script x (spawn program) → Gains script p q (record nothing { births = Up 1 ∷ [] }) → Gains script q r (record nothing { free = kinds_out ticket slot })
      → Gains script r s (record nothing { busy = Credit ∷ [] }) → Moves script (x ∷ []) (after_note x (spawned (child_count x.journal)) ∷ child_of x program slot ∷ []) p s
  moves_spawned ticket x program slot fits stands a b d = record {
    ledger = spawns ticket x program slot;
    begins = (refl, refl);
    balanced = keeps_spawns script (length script.semaphores) ticket x program slot (made_is x (spawn program) (spawned (child_count x.journal)) fits stands refl);
    gains = gains_as (joined (joined (record nothing { births = Up 1 ∷ [] }) (record nothing { free = kinds_out ticket slot })) (record nothing { busy = Credit ∷ [] })) (spawns ticket x program slot)
        (gains_then (joined (record nothing { births = Up 1 ∷ [] }) (record nothing { free = kinds_out ticket slot })) (record nothing { busy = Credit ∷ [] }) (gains_then (record nothing { births = Up 1 ∷ [] }) (record nothing { free = kinds_out ticket slot }) a b) d)
        (record { ready = refl; free = refl; births = refl; busy = refl; credits = λ t. refl; waits = λ t. refl; rows = refl; lines = refl });
  }

  -- ---- steps that are nobody else's business, and a shutdown

  pub moves_plain : {p q : ProcessorOf} (x : Process) (step : StepOf) (note : NoteOf) → IsMade script (made_of x step note) → IsPlain step note → Gains script p q (steps x step note) → Moves script (x ∷ []) (after_note x note ∷ []) p q
  moves_plain x step note made plain g = record {
    ledger = steps x step note;
    begins = (refl, refl);
    balanced = keeps_steps script (length script.semaphores) x step note made plain;
    gains = g;
  }

  pub moves_shut : {p q : ProcessorOf} (x : Process) → FitsScript script x → StandsAt script x shutdown → Gains script p q (record nothing { ready = Close ∷ [] }) → Moves script (x ∷ []) (after_note x shut_down ∷ []) p q
  moves_shut x fits stands g = record {
    ledger = shuts x;
    begins = (refl, refl);
    balanced = keeps_shuts script (length script.semaphores) x (made_is x shutdown shut_down fits stands tt);
    gains = gains_as (record nothing { ready = Close ∷ [] }) (shuts x) g (record { ready = refl; free = refl; births = refl; busy = refl; credits = λ t. refl; waits = λ t. refl; rows = refl; lines = refl });
  }
