-- Some element has a weight above 0 exactly if the sum of all weights is above 0.
use Rattle.fak_run.proofs.Common.{◌≡◌, ℕ, ◌+◌, nat_lt, Bool, List, [], ◌∷◌, refl, ap, sym, ◌∙◌, arith, map, nat_tests, sum_by-cons, shuts_of, common_steps}
use Rattle.std.specs.List.{list_any, sum_by}
use Rattle.fak_text.specs.declared.steps.Note.{Note}
use Rattle.fak_text.specs.Views.{note_of}
use Rattle.fak_run.proofs.Sums.{sum_by-map}

pub any_weighs : {A : Type 0} (f : A → ℕ) (xs : List A) → list_any (λ x. nat_lt 0 (f x)) xs ≡ nat_lt 0 (sum_by f xs)
any_weighs f [] = refl
any_weighs {A} f (x ∷ xs) = by (nat_lt 0 (f x)) refl (any_weighs f xs) (sum_by-cons f x xs) where
  by : (b : Bool) → nat_lt 0 (f x) ≡ b → list_any (λ (y : A). nat_lt 0 (f y)) xs ≡ nat_lt 0 (sum_by f xs) → sum_by f (x ∷ xs) ≡ f x + sum_by f xs → list_any (λ (y : A). nat_lt 0 (f y)) (x ∷ xs) ≡ nat_lt 0 (sum_by f (x ∷ xs))
  by b is rest parts = grind (arith, common_steps, nat_lt, list_any, sum_by, nat_tests)

-- whether some note is that of a shutdown
pub any_notes : {result : Bool} {notes all : List Note} → result ≡ list_any (λ (n : Note). nat_lt 0 (shuts_of (note_of n))) notes → notes ≡ all → result ≡ nat_lt 0 (sum_by shuts_of (map note_of all))
any_notes {all = all} is same =
    is ∙ (ap (list_any (λ (n : Note). nat_lt 0 (shuts_of (note_of n)))) same ∙ (any_weighs (λ (n : Note). shuts_of (note_of n)) all ∙ ap (nat_lt 0) (sym (sum_by-map shuts_of note_of all))))
