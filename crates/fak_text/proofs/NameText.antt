-- The texts of names.
use Rattle.fak_text.proofs.Common.{◌≡◌, ℕ, List, [], ◌∷◌, ◌++◌, ap, ◌∙◌, decimal, refl, append_assoc, text_of_name, child_prefix}

-- a name ends with its last number, and each number before it ends with a dot
pub text_of_name_push : (name : List ℕ) (n : ℕ) → text_of_name (name ++ n ∷ []) ≡ child_prefix name ++ decimal n
text_of_name_push [] n = refl
text_of_name_push (m ∷ []) n = simp append_assoc
text_of_name_push (m ∷ k ∷ name) n =
    let rest = text_of_name_push (k ∷ name) n in
    simp (append_assoc, rest)

-- a name is appended: what comes before its last number, and that number
pub name_appended : (new prefixed old name parents : List ℕ) (last : ℕ) → name ≡ parents ++ last ∷ [] → prefixed ≡ old ++ child_prefix parents → new ≡ prefixed ++ decimal last → new ≡ old ++ text_of_name name
name_appended new prefixed old name parents last parts prefix written =
    rw (parts, text_of_name_push) (written ∙ ap (λ t. t ++ decimal last) prefix ∙ append_assoc old (child_prefix parents) (decimal last))
