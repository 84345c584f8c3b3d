-- A processor that was between its turns has left its loop.
use Rattle.std.proofs.lemmas.List.Sums.{sum_by-append}
use Rattle.fak_text.specs.Script.{ScriptOf}
use Rattle.fak_kernel.proofs.Common.{turn_over, Ledger, named, joined, AreLines, ObjectsOf, ProcessorOf, AreFor, AreOf, IsReached, lists_of, no_seat, ◌≡◌, ℕ, zero, suc, [], ◌++◌, ap, sym, ◌∙◌, subst, arith, map, append-nil, BeginsNone, LeavesNone, files_of, IsFirst, Between, IsLeftBy, HasBegun, HasLeft, files_then}
use Rattle.fak_processor.proofs.Calls.{turning_more}
use Rattle.fak_processor.proofs.Looping.{keeps_name}

-- nothing is begun later
first_then : (script : ScriptOf) (name : ℕ) (a b : Ledger) → IsFirst script name a → BeginsNone b → IsFirst script name (joined a b)
first_then script zero a b x y = (ap (map named) (ap (λ l. a.begun ++ l) y.0 ∙ append-nil a.begun) ∙ x.0, ap (λ l. a.first ++ l) y.1 ∙ (append-nil a.first ∙ x.1))
first_then script (suc n) a b x y = (ap (λ l. a.begun ++ l) y.0 ∙ (append-nil a.begun ∙ x.0), ap (λ l. a.first ++ l) y.1 ∙ (append-nil a.first ∙ x.1))

module _ {script : ScriptOf} {o : ObjectsOf} where
  pub left_by : {name : ℕ} {p q : ProcessorOf} → AreFor script o → Between script o name p → AreOf o q → LeavesNone script p q → IsLeftBy script o name q
  left_by {name} {p} {q} made b are x =
      let m = x.moves in
      let lines : AreLines script.files (files_of b.ledger) p.files.seat = subst (λ n. AreLines n (files_of b.ledger) p.files.seat) made.files b.lines in
      let more : AreLines script.files (files_of (joined b.ledger m.ledger)) q.files.seat = subst (λ ls. AreLines script.files ls q.files.seat) (sym (files_then b.ledger m.ledger)) (m.gains.lines (files_of b.ledger) lines) in
      record {
        between = record {
          are = are;
          is = keeps_name m.gains.names b.is;
          ledger = joined b.ledger m.ledger;
          first = first_then script name b.ledger m.ledger b.first m.begins;
          turning = turning_more m.ledger b.turning (m.gains.adds no_seat) m.balanced;
          rows = λ f. omega (arith, b.rows f, m.gains.rows f, sum_by-append f b.ledger.rows m.ledger.rows);
          lines = subst (λ n. AreLines n (files_of (joined b.ledger m.ledger)) q.files.seat) (sym made.files) more;
        };
        idle = x.idle;
      }

  -- the loop of a processor was its last
  pub has_left : {processors name : ℕ} {p q : ProcessorOf} → AreFor script o → HasBegun script o processors name p → AreOf o q → LeavesNone script p q
      → (IsReached script p (turn_over (lists_of script p)) → IsReached script q (turn_over (lists_of script q)) × ((lists_of script q).ready ≡ []))
      → HasLeft script o processors name q
  has_left made begun fits general alone = record {
    left = left_by made begun.between fits general;
    alone = λ one. (alone (begun.alone one)).0;
    still = λ one. (alone (begun.alone one)).1;
  }
