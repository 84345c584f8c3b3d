-- Core states that events of these seats lead to from another one.
use Rattle.std.specs.Prelude.{◌≡◌, ℕ, ◌<◌, List, [], ◌∷◌, ◌++◌}
use Rattle.fak_model.specs.Seats.{In}
use Rattle.std.proofs.Common.{inl, inr}
use Rattle.fak_core.specs.declared.queue.phase.Phase.{Phase}
use Rattle.fak_core.specs.declared.queue.phase.Phase.TheVariants.{Idle, TestUp, TestLow, SetShut}
use Rattle.fak_core.specs.QueueMoves.{QueueState, with_phase}
use Rattle.fak_core.specs.QueueProgress.{seat_of}
use Rattle.fak_core.specs.QueueSchedule.{QueueEvent, Inserts, Deletes, Shuts, Advances, move_from, begun, happens, run, IsReached}
use Rattle.fak_core.specs.QueueBlocks.{Posts, names_of, AreApart, Stand, all_at, block, tested, tested_low, next_steps, insertion_tests, deletion_tests}
use Rattle.fak_core.proofs.Common.{refl, ap, ◌∙◌, subst}
use Rattle.fak_core.proofs.QueueBlocks.{reached_run, block_leads, tests_lead, tests_low_lead}

-- all are events of the seats below this number
abbrev pub AreLow : {A : Type 0} → ℕ → List (QueueEvent A) → Type 0
AreLow seats [] = Unit {0}
AreLow seats (v ∷ vs) = (seat_of v < seats) × AreLow seats vs

low-append : {A : Type 0} (seats : ℕ) (es fs : List (QueueEvent A)) → AreLow seats es → AreLow seats fs → AreLow seats (es ++ fs)
low-append seats [] fs a b = b
low-append seats (e ∷ es) fs a b = (a.0, low-append seats es fs a.1 b)

-- events of these seats lead from one state to another
pub record IsReachedFrom {A : Type 0} (seats size : ℕ) (from st : QueueState A) : Type 0 where
  pub schedule : List (QueueEvent A)
  pub low : AreLow seats schedule
  pub leads : run size schedule from ≡ st

pub from_itself : {A : Type 0} {seats : ℕ} (size : ℕ) (st : QueueState A) → IsReachedFrom seats size st st
from_itself size st = record { schedule = []; low = tt; leads = refl }

pub reached_after : {A : Type 0} {seats : ℕ} (size : ℕ) (a b : QueueState A) → IsReached size a → IsReachedFrom seats size a b → IsReached size b
reached_after size a b R F = subst (IsReached size) F.leads (reached_run size a F.schedule R)

run-append : {A : Type 0} (size : ℕ) (es fs : List (QueueEvent A)) (st : QueueState A) → run size (es ++ fs) st ≡ run size fs (run size es st)
run-append size [] fs st = refl
run-append size (e ∷ es) fs st = run-append size es fs (happens size st e)

then_by : {A : Type 0} {seats : ℕ} (size : ℕ) (from st after : QueueState A) (es : List (QueueEvent A)) → AreLow seats es → IsReachedFrom seats size from st → run size es st ≡ after → IsReachedFrom seats size from after
then_by {A} {seats} size from st after es l F is = record { schedule = F.schedule ++ es; low = low-append seats F.schedule es F.low l; leads = run-append size F.schedule es from ∙ (ap (run size es) F.leads ∙ is) }

-- ---- one seat

module _ {A : Type 0} {seats : ℕ} {from : QueueState A} (size : ℕ) (st : QueueState A) (R : IsReachedFrom seats size from st) where
  goes_on : (e : QueueEvent A) → seat_of e < seats → IsReachedFrom seats size from (happens size st e)
  goes_on e l = then_by size from st (happens size st e) (e ∷ []) (l, tt) R refl

  pub moves : (s : ℕ) → s < seats → (p : Phase A) → st.phase s ≡ p → IsReachedFrom seats size from (move_from size st s p)
  moves s l p e = subst (λ q. IsReachedFrom seats size from (move_from size st s q)) e (goes_on (Advances s) l)

  pub inserts : (s : ℕ) → s < seats → (x : A) → st.phase s ≡ Idle → IsReachedFrom seats size from (with_phase st s (TestUp x))
  inserts s l x e = subst (λ q. IsReachedFrom seats size from (begun st s (TestUp x) q)) e (goes_on (Inserts s x) l)

  pub deletes : (s : ℕ) → s < seats → st.phase s ≡ Idle → IsReachedFrom seats size from (with_phase st s TestLow)
  deletes s l e = subst (λ q. IsReachedFrom seats size from (begun st s TestLow q)) e (goes_on (Deletes s) l)

  pub closes : (s : ℕ) → s < seats → st.phase s ≡ Idle → IsReachedFrom seats size from (with_phase st s SetShut)
  closes s l e = subst (λ q. IsReachedFrom seats size from (begun st s SetShut q)) e (goes_on (Shuts s) l)

-- ---- a block of seats

abbrev pub AreSmall : ℕ → List ℕ → Type 0
AreSmall seats names = (k : ℕ) → In k names → k < seats

low_steps : (A : Type 0) (seats : ℕ) (names : List ℕ) → AreSmall seats names → AreLow {A = A} seats (next_steps names)
low_steps A seats [] all = tt
low_steps A seats (n ∷ names) all = (all n (inl refl), low_steps A seats names (λ k i. all k (inr i)))

low_tests : {A : Type 0} (seats : ℕ) (ss : List (ℕ × A)) → AreSmall seats (names_of ss) → AreLow seats (insertion_tests ss)
low_tests seats [] all = tt
low_tests seats (s ∷ ss) all = (all s.0 (inl refl), (all s.0 (inl refl), low_tests seats ss (λ k i. all k (inr i))))

low_tests_low : (A : Type 0) (seats : ℕ) (names : List ℕ) → AreSmall seats names → AreLow {A = A} seats (deletion_tests names)
low_tests_low A seats [] all = tt
low_tests_low A seats (n ∷ names) all = (all n (inl refl), (all n (inl refl), low_tests_low A seats names (λ k i. all k (inr i))))

pub reached_block : {A : Type 0} {seats : ℕ} {from : QueueState A} (size : ℕ) (st : QueueState A) (ss : Posts A) → AreSmall seats (names_of ss) → IsReachedFrom seats size from st → AreApart (names_of ss) → Stand st ss → IsReachedFrom seats size from (block size st ss)
reached_block {A} {seats} {from} size st ss small R apart all = then_by size from st (block size st ss) (next_steps (names_of ss)) (low_steps A seats (names_of ss) small) R (block_leads size st ss apart all).leads

pub reached_tests : {A : Type 0} {seats : ℕ} {from : QueueState A} (size : ℕ) (st : QueueState A) (ss : List (ℕ × A)) → AreSmall seats (names_of ss) → IsReachedFrom seats size from st → AreApart (names_of ss) → Stand st (all_at (λ x. Idle) ss) → IsReachedFrom seats size from (tested size st ss)
reached_tests {A} {seats} {from} size st ss small R apart all = then_by size from st (tested size st ss) (insertion_tests ss) (low_tests seats ss small) R (tests_lead size st ss apart all).leads

pub reached_tests_low : {A B : Type 0} {seats : ℕ} {from : QueueState A} (size : ℕ) (st : QueueState A) (ss : List (ℕ × B)) → AreSmall seats (names_of ss) → IsReachedFrom seats size from st → AreApart (names_of ss) → Stand st (all_at (λ x. Idle) ss) → IsReachedFrom seats size from (tested_low size st ss)
reached_tests_low {A} {B} {seats} {from} size st ss small R apart all = then_by size from st (tested_low size st ss) (deletion_tests (names_of ss)) (low_tests_low A seats (names_of ss) small) R (tests_low_lead size st ss apart all).leads
