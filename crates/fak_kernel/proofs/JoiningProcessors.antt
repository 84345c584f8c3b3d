-- The seats of the processors are joined, processor by processor.
use Rattle.fak_text.proofs.Common.{ScriptOf, Process}
use Rattle.fak_kernel.proofs.Common.{Ended, Halted, RowOf, joined, ObjectsOf, ProcessorOf, AreOf, AreFor, HasName, bundle_of, files_of, row_as, IsLeftBy, ◌≡◌, ℕ, zero, suc, ◌+◌, ◌≤◌, List, ◌++◌, length, get_or, ap, sym, ◌∙◌, subst, arith, sum_by, length-map, sum_by-append, ObjectId, IsJoined, queue_rules, room_rules, SemInfo, SemSeatInfo, SemTallyInfo, Tallies, Have, Joins, JoinedTo, TalliesOf, AreTalliesOf, HaveNames, JoinAll, tallies_of, first_tallies, no_seat, no_tally, AreGathered, AreOfOne, FilesJoined, left_weigh, files_then}
use Rattle.fak_kernel.proofs.Gathering.{have_first, have_more}
use Rattle.fak_kernel.proofs.Gathering as gathering
use Rattle.fak_kernel.proofs.Naming.{first_joined, next_joined, is_new}
use Rattle.fak_kernel.proofs.JoiningEach.{ids_first, first_at, first_names, ids_joined, names_joined, joins_at}
use Rattle.fak_kernel.proofs.JoiningFiles.{files_first, files_more}

-- what rows weigh together
rows_more : (f : RowOf → ℕ) (e h e' h' : List Process) (xs ys : List RowOf) → left_weigh f e h ≡ sum_by f xs → left_weigh f e' h' ≡ sum_by f ys → left_weigh f (e ++ e') (h ++ h') ≡ sum_by f (xs ++ ys)
rows_more f e h e' h' xs ys a b =
    omega (arith, a, b, sum_by-append f xs ys, sum_by-append (λ (q : Process). f (row_as Ended q)) e e', sum_by-append (λ (q : Process). f (row_as Halted q)) h h')

same_first : (p : ProcessorOf) → gathering.first_tallies (bundle_of no_seat p) ≡ tallies_of (first_tallies p)
same_first p = λ i. record (gathering.first_tallies (bundle_of no_seat p)) { sems = λ s. sym (first_at p.semaphores s) i }

pub gathered_first : {script : ScriptOf} {o : ObjectsOf} {p : ProcessorOf} → IsLeftBy script o 0 p → AreGathered script o 1 (first_tallies p) p.ended p.halted
gathered_first {script} {o} {p} x =
    let b = x.between in
    record {
      are = record { ready = b.are.ready; free = b.are.free; births = b.are.births; busy = b.are.busy; semaphores = ids_first p.semaphores ∙ b.are.semaphores; files = b.are.files };
      names = record {
        ready = first_joined p.ready.name b.is.ready;
        free = first_joined p.free.name b.is.free;
        births = first_joined p.births.name b.is.births;
        busy = first_joined p.busy.name b.is.busy;
        semaphores = first_names p.semaphores b.is.semaphores;
        files = first_joined p.files.seat.name b.is.files;
      };
      ledger = b.ledger;
      have = subst (λ (t : Tallies). Have script t b.ledger) (same_first p) (have_first b.turning x.idle b.first.0 b.first.1);
      rows = b.rows;
      files = files_first o.files.entries o.files.object.seats p.files.seat (files_of b.ledger) b.is.files (ap (λ (i : ObjectId). i.seats) b.are.files) b.lines;
    }

pub gathered_of_first : {script : ScriptOf} {o : ObjectsOf} {p : ProcessorOf} {t : TalliesOf} {ended halted : List Process} → IsLeftBy script o 0 p → AreOfOne p t ended halted → AreGathered script o 1 t ended halted
gathered_of_first {script} {o} {p} {t} {ended} {halted} x is =
    subst (λ (y : TalliesOf × (List Process × List Process)). AreGathered script o 1 y.0 y.1.0 y.1.1) (λ i. (sym is.tallies i, (sym is.ended_are i, sym is.halted_are i))) (gathered_first x)

module _ {script : ScriptOf} {o : ObjectsOf} (for_it : AreFor script o) where
  joins_of : {m : ℕ} {t both : TalliesOf} {p : ProcessorOf} → AreTalliesOf o t → HaveNames m t → AreOf o p → HasName m p → JoinAll o t p both → Joins script (tallies_of t) (bundle_of no_seat p) (tallies_of both)
  joins_of {m = m} {t = t} {both = both} {p = p} at names ap_of is j =
      let tallies : length t.semaphores ≡ length o.semaphores = sym (length-map t.semaphores (λ (s : SemTallyInfo Process). s.object)) ∙ (ap length at.semaphores ∙ length-map o.semaphores (λ (s : SemInfo). s.object)) in
      let seats : length p.semaphores ≡ length o.semaphores = sym (length-map p.semaphores (λ (s : SemSeatInfo Process). s.object)) ∙ (ap length ap_of.semaphores ∙ length-map o.semaphores (λ (s : SemInfo). s.object)) in
      record {
        ready = subst (λ (n : ℕ). IsJoined (queue_rules n) t.ready p.ready both.ready) for_it.ready j.ready;
        free = subst (λ (n : ℕ). IsJoined (queue_rules n) t.free p.free both.free) for_it.free j.free;
        births = subst (λ (n : ℕ). IsJoined (room_rules n) t.births p.births both.births) for_it.births j.births;
        busy = j.busy;
        sems = λ s below. joins_at script.slots o.semaphores t.semaphores p.semaphores both.semaphores j.semaphores for_it.waits s (omega (arith, below, for_it.semaphores));
        new_ready = is_new m p.ready.name t.ready.names names.ready is.ready;
        new_free = is_new m p.free.name t.free.names names.free is.free;
        new_births = is_new m p.births.name t.births.names names.births is.births;
        new_busy = is_new m p.busy.name t.busy.names names.busy is.busy;
        new_sems = λ s below. is_new m (get_or p.semaphores s no_seat).name (get_or t.semaphores s no_tally).names (names.semaphores s no_tally (omega (arith, below, for_it.semaphores, tallies))) (is.semaphores s no_seat (omega (arith, below, for_it.semaphores, seats)));
      }

  pub gathered_more : {m : ℕ} {t both : TalliesOf} {p : ProcessorOf} {ended halted : List Process} → AreGathered script o (suc m) t ended halted → IsLeftBy script o (suc m) p → JoinAll o t p both → AreGathered script o (suc (suc m)) both (ended ++ p.ended) (halted ++ p.halted)
  gathered_more {m = m} {t = t} {both = both} {p = p} {ended = ended} {halted = halted} a x j =
      let b = x.between in
      record {
        are = record {
          ready = j.ready.object ∙ a.are.ready;
          free = j.free.object ∙ a.are.free;
          births = j.births.object ∙ a.are.births;
          busy = j.busy.object ∙ a.are.busy;
          semaphores = ids_joined o.semaphores t.semaphores p.semaphores both.semaphores j.semaphores;
          files = j.files.object ∙ a.are.files;
        };
        names = record {
          ready = subst (JoinedTo (suc (suc m))) (sym j.ready.names) (next_joined (suc m) p.ready.name t.ready.names a.names.ready b.is.ready);
          free = subst (JoinedTo (suc (suc m))) (sym j.free.names) (next_joined (suc m) p.free.name t.free.names a.names.free b.is.free);
          births = subst (JoinedTo (suc (suc m))) (sym j.births.names) (next_joined (suc m) p.births.name t.births.names a.names.births b.is.births);
          busy = subst (JoinedTo (suc (suc m))) (sym j.busy.names) (next_joined (suc m) p.busy.name t.busy.names a.names.busy b.is.busy);
          semaphores = names_joined (suc m) o.semaphores t.semaphores p.semaphores both.semaphores j.semaphores a.names.semaphores b.is.semaphores;
          files = subst (JoinedTo (suc (suc m))) (sym j.files.names) (next_joined (suc m) p.files.seat.name t.files.names a.names.files b.is.files);
        };
        ledger = joined a.ledger b.ledger;
        have = have_more a.have b.turning x.idle b.first.0 b.first.1 (joins_of a.are a.names b.are b.is j);
        rows = λ f. rows_more f ended halted p.ended p.halted a.ledger.rows b.ledger.rows (a.rows f) (b.rows f);
        files = subst (FilesJoined o.files.entries o.files.object.seats (suc (suc m)) both.files) (sym (files_then a.ledger b.ledger))
            (files_more a.files a.names.files b.is.files (ap (λ (i : ObjectId). i.seats) b.are.files) (ap (λ (i : ObjectId). i.seats) (j.files.object ∙ a.are.files)) j.files b.lines);
      }

  pub gathered_next : {k : ℕ} {t both : TalliesOf} {p : ProcessorOf} {ended halted : List Process} → 1 ≤ k → AreGathered script o k t ended halted → IsLeftBy script o k p → JoinAll o t p both → AreGathered script o (k + 1) both (ended ++ p.ended) (halted ++ p.halted)
  gathered_next {k = zero} low a x j = absurd (omega (arith, low))
  gathered_next {k = suc m} {t = t} {both = both} {p = p} {ended = ended} {halted = halted} low a x j =
      let next : suc (suc m) ≡ suc m + 1 = omega arith in
      subst (λ (n : ℕ). AreGathered script o n both (ended ++ p.ended) (halted ++ p.halted)) next (gathered_more a x j)

  pub next_of : {k : ℕ} {t both : TalliesOf} {p : ProcessorOf} {ended halted ended_all halted_all : List Process} → 1 ≤ k → AreGathered script o k t ended halted → IsLeftBy script o k p → JoinAll o t p both
      → ended_all ≡ ended ++ p.ended → halted_all ≡ halted ++ p.halted → AreGathered script o (k + 1) both ended_all halted_all
  next_of {k = k} {both = both} low a x j ended_are halted_are =
      subst (λ (y : List Process × List Process). AreGathered script o (k + 1) both y.0 y.1) (λ i. (sym ended_are i, sym halted_are i)) (gathered_next low a x j)
