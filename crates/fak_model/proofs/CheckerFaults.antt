-- The checker's results, in the words of the definition.
use Rattle.fak_model.proofs.Common.{IsQueueHistory, Mark, ℕ, ◌<◌, ◌≤◌, List, length, take, get_or, reverse, subst, take_all, FirstFault, IsLegalByStage, MayFollow, common_steps, arith}
use Rattle.fak_model.proofs.CheckerPast.{past_more}
use Rattle.fak_model.proofs.QueueLiteral.{to_past, to_literal}

-- the first marks are legal, and the next one may not follow them
pub fault_at : (size : ℕ) (h : List (Mark ℕ)) (i : ℕ) (d : Mark ℕ) → i < length h → IsLegalByStage size (take i h)
    → (MayFollow size (reverse (take i h)) (get_or h i d).seat (get_or h i d).kind → ⊥) → FirstFault size h i
fault_at size h i d l legal not = grind (arith, common_steps, to_literal, take, past_more, to_past)

-- all marks are legal
pub all_legal : (size : ℕ) (h : List (Mark ℕ)) (i : ℕ) → length h ≤ i → IsLegalByStage size (take i h) → IsQueueHistory size h
all_legal size h i le legal = to_literal size h (subst (IsLegalByStage size) (take_all i h le) legal)
