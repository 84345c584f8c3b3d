-- The seats of all processors are joined, one processor after the other.
use Rattle.fak_model.specs.Room as room
use Rattle.fak_model.specs.Credit as credit
use Rattle.fak_text.proofs.Common.{ScriptOf, Process}
use Rattle.fak_kernel.proofs.Common.{numbers_from, Ledger, named, joined, begun_names, Histories, Gathered, ◌≡◌, ℕ, ◌<◌, List, [], ◌∷◌, ◌++◌, length, refl, ap, sym, ◌∙◌, arith, map, pos, slice_index, sum_by, append-nil, sum_by-cons, Rules, mine, TallyInfo, tally_of, count, value, Mark, IsSettled, sem_tally_of, Weighs, queue_kind, Bundle, Tallies, Have, Joins, sum_by-map, Kind, CreditMark}
use Rattle.fak_processor.specs.Turning.{Turning}
use Rattle.fak_run.proofs.Joining.{balanced-joined}
use Rattle.fak_processor.proofs.Tallies.{weighs_one, weighs_joined, joined_either}

-- the tallies of the first processor's seats
abbrev pub first_tallies : Bundle → Tallies
first_tallies b = record {
  ready = tally_of b.ready;
  free = tally_of b.free;
  births = tally_of b.births;
  busy = tally_of b.busy;
  sems = λ s. sem_tally_of (b.sems s);
}

pub have_first : {script : ScriptOf} {b : Bundle} {l : Ledger} → Turning script b l [] → value (length script.start) b.busy.seen ≡ pos 0 → map named l.begun ≡ begun_names 0 script.start → l.first ≡ numbers_from 0 script.slots → Have script (first_tallies b) l
have_first x idle begun first = record {
  balanced = x.balanced;
  ready = weighs_one x.ready;
  free = weighs_one x.free;
  births = weighs_one x.births;
  busy = weighs_one x.busy;
  credits = λ s below. weighs_one (x.credits s below);
  waits = λ s below. weighs_one (x.waits s below);
  idle = idle;
  begun = begun;
  first = first;
}

-- another one, which started nothing
pub have_more : {script : ScriptOf} {t both : Tallies} {b : Bundle} {l m : Ledger} → Have script t l → Turning script b m [] → value (length script.start) b.busy.seen ≡ pos 0 → m.begun ≡ [] → m.first ≡ [] → Joins script t b both → Have script both (joined l m)
have_more {script} {t} {both} {b} {l} {m} has x idle no_begun no_first j = record {
  balanced = balanced-joined script (length script.semaphores) [] [] [] l m has.balanced x.balanced;
  ready = weighs_joined l.ready m.ready j.ready j.new_ready has.ready x.ready;
  free = weighs_joined l.free m.free j.free j.new_free has.free x.free;
  births = weighs_joined l.births m.births j.births j.new_births has.births x.births;
  busy = weighs_joined l.busy m.busy j.busy j.new_busy has.busy x.busy;
  credits = λ s below. weighs_joined (l.credits s) (m.credits s) (j.sems s below).credit (j.new_sems s below) (has.credits s below) (x.credits s below);
  waits = λ s below. weighs_joined (l.waits s) (m.waits s) (j.sems s below).queue (j.new_sems s below) (has.waits s below) (x.waits s below);
  idle = joined_either (λ (h : List CreditMark). value (length script.start) h ≡ pos 0) j.busy has.idle idle;
  begun = ap (λ ps. map named (l.begun ++ ps)) no_begun ∙ (ap (map named) (append-nil l.begun) ∙ has.begun);
  first = ap (λ ns. l.first ++ ns) no_first ∙ (append-nil l.first ∙ has.first);
}

-- ---- whole

count_is : {A : Type 0} (w : Kind A → ℕ) (h : List (Mark A)) → count w h ≡ sum_by (λ (m : Mark A). w (queue_kind m)) h
count_is w [] = refl
count_is {A} w (m ∷ h) = omega (arith, count_is w h, sum_by-cons (λ (m : Mark A). w (queue_kind m)) m h)

whole_weighs : {M W C K : Type 0} {rules : Rules M W C} {kind_of : M → K} {t : TallyInfo M} {kinds : List K} → Weighs rules kind_of t kinds → mine rules.seat_of t.names t.seen ≡ t.seen → (w : K → ℕ) → sum_by (λ (m : M). w (kind_of m)) t.seen ≡ sum_by w kinds
whole_weighs {M} {kind_of = kind_of} x all w = ap (sum_by (λ (m : M). w (kind_of m))) (sym all) ∙ x.weigh w

abbrev pub histories_of : Tallies → Histories
histories_of t = record {
  ready = t.ready.seen;
  free = t.free.seen;
  births = t.births.seen;
  busy = t.busy.seen;
  credits = λ s. (t.sems s).credit_seen;
  waits = λ s. (t.sems s).queue_seen;
}

-- each mark belongs to a joined seat, as each `is_whole` says; and what each semaphore's `close` says
pub record AreWhole (script : ScriptOf) (t : Tallies) : Type 0 where
  pub ready : mine (λ (m : Mark Process). m.seat) t.ready.names t.ready.seen ≡ t.ready.seen
  pub free : mine (λ (m : Mark ℕ). m.seat) t.free.names t.free.seen ≡ t.free.seen
  pub births : mine room.seat_of t.births.names t.births.seen ≡ t.births.seen
  pub busy : mine (λ (m : CreditMark). m.seat) t.busy.names t.busy.seen ≡ t.busy.seen
  pub credits : (s : ℕ) → s < length script.semaphores → mine (λ (m : CreditMark). m.seat) (t.sems s).names (t.sems s).credit_seen ≡ (t.sems s).credit_seen
  pub waits : (s : ℕ) → s < length script.semaphores → mine (λ (m : Mark Process). m.seat) (t.sems s).names (t.sems s).queue_seen ≡ (t.sems s).queue_seen
  pub settled : (s : ℕ) → s < length script.semaphores → IsSettled (slice_index script.semaphores s) (t.sems s).credit_seen (t.sems s).queue_seen

pub gathered : {script : ScriptOf} {t : Tallies} {l : Ledger} → Have script t l → AreWhole script t → Gathered script t.births.object.seats (histories_of t) l
gathered {script} {t} {l} has w = record {
  balanced = has.balanced;
  ready = λ v. count_is v t.ready.seen ∙ whole_weighs has.ready w.ready v;
  free = λ v. count_is v t.free.seen ∙ whole_weighs has.free w.free v;
  births = λ v. sum_by-map v room.kind_of t.births.seen ∙ whole_weighs has.births w.births v;
  busy = λ v. sum_by-map v credit.kind_of t.busy.seen ∙ whole_weighs has.busy w.busy v;
  credits = λ s below v. sum_by-map v credit.kind_of (t.sems s).credit_seen ∙ whole_weighs (has.credits s below) (w.credits s below) v;
  waits = λ s below v. count_is v (t.sems s).queue_seen ∙ whole_weighs (has.waits s below) (w.waits s below) v;
  ready_legal = has.ready.lawful;
  free_legal = has.free.lawful;
  waits_legal = λ s below. (has.waits s below).lawful;
  births_lawful = has.births.lawful;
  births_named = has.births.named;
  idle = has.idle;
  settled = w.settled;
  begun = has.begun;
  first = has.first;
}
