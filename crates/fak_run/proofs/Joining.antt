-- One ledger followed by another.
use Rattle.fak_run.proofs.Common.{◌≡◌, ℕ, ◌+◌, List, ◌++◌, length, ◌∙◌, arith, sum_by, sum_by-append, All-append, up_amount, release_amount, debit_weight, credit_weight, put_of, got_of, close_of, closed_of, refusal_of, other_amount, ScriptOf, NoteOf, Process, births_of, RowOf, Ledger, Made, Balanced, named, child, after_made, IsMade, FitsRow, joined, waiting, notes, downs_of, ups_of, shuts_of, no_births_of, no_slots_of, ended_slot, stuck_of, halted_of, not_before, before_down, common_steps, Kind, sum_same, sum_plus}

pub waiting-joined : (w : Kind Process → ℕ) (n : ℕ) (a b : Ledger) → waiting w n (joined a b) ≡ waiting w n a + waiting w n b
waiting-joined w n a b =
    sum_same (λ s. sum_by w (a.waits s ++ b.waits s)) (λ s. sum_by w (a.waits s) + sum_by w (b.waits s)) n (λ s below. sum_by-append w (a.waits s) (b.waits s))
    ∙ sum_plus (λ s. sum_by w (a.waits s)) (λ s. sum_by w (b.waits s)) n

pub notes-joined : (w : NoteOf → ℕ) (a b : Ledger) → notes w (joined a b) ≡ notes w a + notes w b
notes-joined w a b = sum_by-append (λ (m : Made). w m.note) a.made b.made

module _ (script : ScriptOf) (n : ℕ) (before between after : List Process) (a b : Ledger) (x : Balanced script n before between a) (y : Balanced script n between after b) where
  processes_joined : (f : Process → ℕ) →
      sum_by (put_of f) (a.ready ++ b.ready) + waiting (put_of f) n (joined a b) + sum_by (λ (r : RowOf). f r.process) (a.rows ++ b.rows) + sum_by (λ (m : Made). f m.before) (a.made ++ b.made) + sum_by f after
      ≡ sum_by (got_of f) (a.ready ++ b.ready) + waiting (got_of f) n (joined a b) + sum_by f (a.begun ++ b.begun) + sum_by f (a.born ++ b.born) + sum_by (λ (m : Made). f (after_made m)) (a.made ++ b.made) + sum_by f before
  processes_joined f = grind (arith, common_steps, waiting-joined, put_of, got_of, sum_by-append, after_made)

  -- if both ledgers balance, so does the joined one
  pub balanced-joined : Balanced script n before after (joined a b)
  balanced-joined = record {
    processes = processes_joined;
    slots = λ g. omega (
      arith,
      x.slots g,
      y.slots g,
      sum_by-append (put_of g) a.free b.free,
      sum_by-append (got_of g) a.free b.free,
      sum_by-append (λ (p : Process). g p.slot) a.begun b.begun,
      sum_by-append (λ (p : Process). g p.slot) a.born b.born,
      sum_by-append (λ (r : RowOf). ended_slot g r.outcome r.process.slot) a.rows b.rows,
      sum_by-append g a.first b.first,
    );
    children = λ g. omega (arith, x.children g, y.children g, sum_by-append (λ (p : Process). g (named p)) a.born b.born, sum_by-append (λ (m : Made). sum_by g (child m.before.name m.step m.note)) a.made b.made);
    new = omega (arith, x.new, y.new, sum_by-append (λ (p : Process). length p.journal) a.begun b.begun, sum_by-append (λ (p : Process). length p.journal) a.born b.born);
    births = record {
      ups = omega (arith, x.births.ups, y.births.ups, sum_by-append up_amount a.births b.births, notes-joined births_of a b, notes-joined no_slots_of a b);
      releases = omega (arith, x.births.releases, y.births.releases, sum_by-append release_amount a.births b.births, notes-joined no_slots_of a b);
      refusals = omega (arith, x.births.refusals, y.births.refusals, sum_by-append refusal_of a.births b.births, notes-joined no_births_of a b);
      ones = omega (arith, x.births.ones, y.births.ones, sum_by-append other_amount a.births b.births);
    };
    busy = record {
      credits = omega (arith, x.busy.credits, y.busy.credits, sum_by-append credit_weight a.busy b.busy, waiting-joined (got_of (λ (p : Process). 1)) n a b, sum_by-append (λ (p : Process). 1) a.born b.born);
      debits = omega (arith, x.busy.debits, y.busy.debits, sum_by-append debit_weight a.busy b.busy, waiting-joined (put_of (λ (p : Process). 1)) n a b, sum_by-append (λ (r : RowOf). 1) a.rows b.rows);
    };
    semaphores = record {
      downs = λ s l. omega (arith, x.semaphores.downs s l, y.semaphores.downs s l, notes-joined (downs_of s) a b, sum_by-append (put_of (λ (p : Process). 1)) (a.waits s) (b.waits s), waiting-joined (got_of (before_down script s)) n a b, sum_by-append debit_weight (a.credits s) (b.credits s));
      upped = λ s l. omega (arith, x.semaphores.upped s l, y.semaphores.upped s l, notes-joined (ups_of s) a b, sum_by-append credit_weight (a.credits s) (b.credits s));
      parked = λ s l. omega (arith, x.semaphores.parked s l, y.semaphores.parked s l, sum_by-append (put_of (not_before script s)) (a.waits s) (b.waits s));
    };
    shutdown = record {
      shuts = omega (arith, x.shutdown.shuts, y.shutdown.shuts, sum_by-append close_of a.ready b.ready, notes-joined shuts_of a b);
      halts = omega (arith, x.shutdown.halts, y.shutdown.halts, sum_by-append (λ (r : RowOf). halted_of r.outcome) a.rows b.rows, sum_by-append closed_of a.ready b.ready);
      no_stuck = omega (arith, x.shutdown.no_stuck, y.shutdown.no_stuck, sum_by-append (λ (r : RowOf). stuck_of r.outcome) a.rows b.rows);
    };
    made = All-append (IsMade script) a.made b.made x.made y.made;
    rows = All-append (FitsRow script) a.rows b.rows x.rows y.rows;
  }
