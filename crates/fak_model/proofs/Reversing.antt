-- Lists from their other end.
use Rattle.fak_model.proofs.Common.{reverse-append, All-append, All-head, All-tail, ◌≡◌, List, [], ◌∷◌, ◌++◌, reverse, ap, ◌∙◌, sym, subst, rules, append_assoc, All}

pub reverse_cons : {A : Type 0} (x : A) (xs : List A) → reverse (x ∷ xs) ≡ reverse xs ++ x ∷ []
reverse_cons x xs = reverse-append (x ∷ []) xs

pub reverse_push : {A : Type 0} (xs : List A) (x : A) → reverse (xs ++ x ∷ []) ≡ x ∷ reverse xs
reverse_push xs x = reverse-append xs (x ∷ [])

pub reverse_split : {A : Type 0} (p : List A) (m : A) (q : List A) → reverse (p ++ (m ∷ q)) ≡ reverse q ++ (m ∷ reverse p)
reverse_split p m q = reverse-append p (m ∷ q) ∙ (ap (λ t. t ++ reverse p) (reverse-append (m ∷ []) q) ∙ append_assoc (reverse q) (m ∷ []) (reverse p))

pub All-reverse : {A : Type 0} (P : A → Type 0) (xs : List A) → All P xs → All P (reverse xs)
All-reverse P [] a = a
All-reverse P (x ∷ xs) a = subst (All P) (sym (reverse_cons x xs)) (All-append P (reverse xs) (x ∷ []) (All-reverse P xs (All-tail P x xs a)) (one (All-head P x xs a)))
  where
    one : P x → All P (x ∷ [])
    one p = search (rules, p)
