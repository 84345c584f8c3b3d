-- The law of a credit.
use Rattle.fak_model.proofs.Common.{AreCalls, seat_words, ◌≡◌, ℕ, ◌+◌, min, List, [], ◌∷◌, ◌++◌, refl, ap, sym, ◌∙◌, arith, append_assoc, pos, ◌-ℤ◌, int_lt, append-nil, flat_map, common_steps}
use Rattle.fak_model.specs.declared.credit.CreditKind.{CreditKind}
use Rattle.fak_model.specs.declared.credit.CreditMark.{CreditMark}
use Rattle.fak_model.specs.Credit.{debit_weight, credit_weight, kind_of, debits, credits, value, grants, grants_made_from, grants_made, credit_rules, IsCreditHistory}
use Rattle.fak_model.proofs.Appending.{snoc_ind}
use Rattle.fak_model.proofs.Leading.{total_push}

from_push : (start : ℕ) (before h : List CreditMark) (m : CreditMark) → grants_made_from start before (h ++ m ∷ []) ≡ grants_made_from start before h + grants (value start (before ++ h)) m.kind
from_push start before [] m = ap (λ l. grants (value start l) m.kind + 0) (sym (append-nil before)) ∙ omega arith
from_push start before (x ∷ h) m =
    let rest = from_push start (before ++ x ∷ []) h m in
    let at = ap (λ l. grants (value start l) m.kind) (append_assoc before (x ∷ []) h) in
    omega (arith, rest, at)

-- a mark grants exactly if it raises the smaller of two numbers: the debits, and the start plus the credits
one_more : (s d c g : ℕ) (k : CreditKind) → g ≡ min d (s + c) → g + grants (pos (s + c) -ℤ pos d) k ≡ min (d + debit_weight k) (s + (c + credit_weight k))
one_more s d c g k e = grind (arith, common_steps, min, grants, debit_weight, credit_weight, int_lt)

pub granted_is : (start : ℕ) (h : List CreditMark) → grants_made start h ≡ min (debits h) (start + credits h)
granted_is start = snoc_ind (λ (h : List CreditMark). grants_made start h ≡ min (debits h) (start + credits h)) (omega arith) (λ h m before.
    from_push start [] h m
    ∙ (one_more start (debits h) (credits h) (grants_made start h) m.kind before
    ∙ (ap (λ d. min d (start + (credits h + credit_weight m.kind))) (sym (total_push kind_of debit_weight h m)) ∙ ap (λ c. min (debits (h ++ m ∷ [])) (start + c)) (sym (total_push kind_of credit_weight h m)))))

pub credit_grants : (start : ℕ) (h : List CreditMark) → IsCreditHistory h → grants_made start h ≡ min (debits h) (start + credits h)
credit_grants start h law = granted_is start h

-- if each word is a call by itself, any words are whole calls
each_is_a_call : (ks : List CreditKind) → AreCalls (λ (k : CreditKind). k ∷ []) ks
each_is_a_call ks = ([], (ks, append-nil ks ∙ sym (flat_map_one ks)))
  where
    flat_map_one : (ks : List CreditKind) → flat_map (λ (k : CreditKind). k ∷ []) ks ≡ ks
    flat_map_one [] = refl
    flat_map_one (k ∷ ks) = ap (λ l. k ∷ l) (flat_map_one ks)

pub every_history : (h : List CreditMark) → IsCreditHistory h
every_history h = grind (arith, common_steps, each_is_a_call, seat_words, credit_rules)
