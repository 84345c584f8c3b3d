use Rattle.std.proofs.Common.{[], ◌∷◌, refl, arith}
use Rattle.fak_model.specs.Examples.{by}
use Rattle.fak_model.specs.QueuePast.{IsLegalPast}
use Rattle.fak_model.specs.declared.queue.Kind.TheVariants.{ClaimIn, EndIn}
use Rattle.fak_callers.proofs.words.the_first_fault_is_one_and_the_first.Goals as goal

-- a first claim may come, and no end of an insertion that never began
claimed : IsLegalPast 1 (by 0 ClaimIn ∷ [])
claimed = (record { next = refl; fair = (omega arith, λ none. none); oldest = tt; cell = tt }, tt)

ended : IsLegalPast 1 (by 0 EndIn ∷ []) → ⊥
ended legal = let is = legal.0.next.1 in absurd (cc is)

pub returns-clause-lawful : goal.returns-clause-lawful
returns-clause-lawful c first = first.fault ((c.a_legal_history_is_legal_mark_by_mark.ensures 1 (by 0 ClaimIn ∷ [])).1 claimed)

pub returns-clause-first : goal.returns-clause-first
returns-clause-first c = record {
  inside = omega arith;
  before = (c.a_legal_history_is_legal_mark_by_mark.ensures 1 []).1 tt;
  fault = λ lawful. ended ((c.a_legal_history_is_legal_mark_by_mark.ensures 1 (by 0 EndIn ∷ [])).0 lawful);
}

pub returns-clause-second : goal.returns-clause-second
returns-clause-second c second = ended ((c.a_legal_history_is_legal_mark_by_mark.ensures 1 (by 0 EndIn ∷ [])).0 second.before)
