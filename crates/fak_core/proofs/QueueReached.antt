-- What is true of a reached state, and the states to which one more event leads.
use Rattle.fak_core.proofs.Common.{Phase, Idle, TestUp, TestLow, TicketOut, LoadItem, SetShut, QueueMove, ◌≡◌, ◌⊎◌, ℕ, ◌%◌, ◌<◌, ◌++◌, cond, Bool, true, false, List, [], ◌∷◌, Some, refl, sym, ap, ◌∙◌, subst, reverse-reverse, IsQueueHistory, count, gots, stage, item_of, IsLegalPast, getting_untaken, item_there, claimed_out_left, common_steps, arith, to_literal}
use Rattle.fak_core.specs.QueueMoves.{QueueState, next_move, moved, with_phase, history_of}
use Rattle.fak_core.specs.QueueSchedule.{QueueEvent, Inserts, Deletes, Shuts, Advances, opening, after_step, move_from, begun, happens, run, reached, IsReached}
use Rattle.fak_core.proofs.QueueKept.{IsKept, shown}
use Rattle.fak_core.proofs.QueueSteps.{kept_opening, kept_run}

-- ---- choices between two states

pub true_or_false : (b : Bool) → (b ≡ true) ⊎ (b ≡ false)
true_or_false b = grind (arith, common_steps)

pub if_true : {B : Type 0} (P : B → Type 0) (b : Bool) (x y : B) → b ≡ true → P (cond b x y) → P x
if_true P b x y e p = grind (arith, common_steps)

pub if_false : {B : Type 0} (P : B → Type 0) (b : Bool) (x y : B) → b ≡ false → P (cond b x y) → P y
if_false P b x y e p = grind (arith, common_steps)

-- ---- what is true of a reached state

-- a deletion loads the item that was put under its ticket
pub loads_put : {A : Type 0} (size : ℕ) (st : QueueState A) (s k : ℕ) → IsKept size st → st.phase s ≡ LoadItem k → st.cell (k % size) ≡ item_of st.past k
loads_put size st s k K e = grind (arith, common_steps, stage, shown, getting_untaken)

-- a granted deletion finds the item of the ticket that it draws
pub draws_put : {A : Type 0} (size : ℕ) (st : QueueState A) (s : ℕ) → IsKept size st → st.phase s ≡ TicketOut → (x : A) × (item_of st.past st.draws_out ≡ Some x)
draws_put size st s K e = grind (arith, common_steps, item_there, count, gots, claimed_out_left, shown, item_of)

pub legal_history : {A : Type 0} (size : ℕ) (st : QueueState A) → IsKept size st → IsQueueHistory size (history_of st)
legal_history size st K = to_literal size (history_of st) (subst (IsLegalPast size) (sym (reverse-reverse st.past)) K.legal)

pub run-push : {A : Type 0} (size : ℕ) (es : List (QueueEvent A)) (e : QueueEvent A) (st : QueueState A) → run size (es ++ e ∷ []) st ≡ happens size (run size es st) e
run-push size [] e st = refl
run-push size (d ∷ es) e st = run-push size es e (happens size st d)

pub kept_reached : {A : Type 0} (size : ℕ) (es : List (QueueEvent A)) → 0 < size → IsKept size (reached size es)
kept_reached size es z = kept_run size es opening z (kept_opening size z)

pub is_reached : {A : Type 0} (size : ℕ) (es : List (QueueEvent A)) → IsReached size (reached size es)
is_reached size es = record { schedule = es; leads = refl }

module _ {A : Type 0} (size : ℕ) (st : QueueState A) (R : IsReached size st) where
  pub kept : 0 < size → IsKept size st
  kept z = subst (IsKept size) R.leads (kept_reached size R.schedule z)

  pub goes_on : (e : QueueEvent A) → IsReached size (happens size st e)
  goes_on e = record { schedule = R.schedule ++ e ∷ []; leads = run-push size R.schedule e opening ∙ ap (λ c. happens size c e) R.leads }

  -- the step of a seat in this phase
  pub moves : (s : ℕ) (p : Phase A) → st.phase s ≡ p → IsReached size (move_from size st s p)
  moves s p e = subst (λ q. IsReached size (move_from size st s q)) e (goes_on (Advances s))

  -- the same, if that step is known
  pub makes : (s : ℕ) (p : Phase A) (m : QueueMove A) → st.phase s ≡ p → next_move size st p ≡ Some m → IsReached size (moved st s m)
  makes s p m e is = subst (λ o. IsReached size (after_step st s o)) is (moves s p e)

  pub inserts : (s : ℕ) (x : A) → st.phase s ≡ Idle → IsReached size (with_phase st s (TestUp x))
  inserts s x e = subst (λ q. IsReached size (begun st s (TestUp x) q)) e (goes_on (Inserts s x))

  pub deletes : (s : ℕ) → st.phase s ≡ Idle → IsReached size (with_phase st s TestLow)
  deletes s e = subst (λ q. IsReached size (begun st s TestLow q)) e (goes_on (Deletes s))

  pub closes : (s : ℕ) → st.phase s ≡ Idle → IsReached size (with_phase st s SetShut)
  closes s e = subst (λ q. IsReached size (begun st s SetShut q)) e (goes_on (Shuts s))
