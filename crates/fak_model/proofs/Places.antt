-- Grammars in which each word has one place in a call.
use Rattle.fak_model.proofs.Common.{◌≡◌, ℕ, List, [], ◌∷◌, ◌++◌, refl, ap, sym, ◌∙◌, subst, append_assoc, flat_map, append-nil, Owes, AreCalls}

-- the place after these words
abbrev pub ends : {W : Type 0} → (W → ℕ) → ℕ → List W → ℕ
ends leads p [] = p
ends leads p (w ∷ ws) = ends leads (leads w) ws

-- each word is at the place that it needs
abbrev pub Runs : {W : Type 0} → (W → ℕ) → (W → ℕ) → ℕ → List W → Type 0
Runs needs leads p [] = Unit {0}
Runs needs leads p (w ∷ ws) = (needs w ≡ p) × Runs needs leads (leads w) ws

pub ends_append : {W : Type 0} (leads : W → ℕ) (p : ℕ) (a b : List W) → ends leads p (a ++ b) ≡ ends leads (ends leads p a) b
ends_append leads p [] b = refl
ends_append leads p (w ∷ a) b = ends_append leads (leads w) a b

pub ends_push : {W : Type 0} (leads : W → ℕ) (p : ℕ) (ws : List W) (w : W) → ends leads p (ws ++ w ∷ []) ≡ leads w
ends_push leads p [] w = refl
ends_push leads p (v ∷ ws) w = ends_push leads (leads v) ws w

pub runs_append : {W : Type 0} (needs leads : W → ℕ) (p : ℕ) (a b : List W) → Runs needs leads p a → Runs needs leads (ends leads p a) b → Runs needs leads p (a ++ b)
runs_append needs leads p [] b r s = s
runs_append needs leads p (w ∷ a) b r s = (r.0, runs_append needs leads (leads w) a b r.1 s)

runs_parts : {W : Type 0} (needs leads : W → ℕ) (p : ℕ) (a b : List W) → Runs needs leads p (a ++ b) → Runs needs leads p a × Runs needs leads (ends leads p a) b
runs_parts needs leads p [] b r = (tt, r)
runs_parts needs leads p (w ∷ a) b r = let t = runs_parts needs leads (leads w) a b r.1 in ((r.0, t.0), t.1)

-- each call leads from place 0 back to place 0
abbrev pub CallsRun : {W C : Type 0} → (W → ℕ) → (W → ℕ) → (C → List W) → Type 0
CallsRun {W} {C} needs leads words_of = (c : C) → Runs needs leads 0 (words_of c) × (ends leads 0 (words_of c) ≡ 0)

calls_run : {W C : Type 0} (needs leads : W → ℕ) (words_of : C → List W) → CallsRun needs leads words_of → (calls : List C) → Runs needs leads 0 (flat_map words_of calls) × (ends leads 0 (flat_map words_of calls) ≡ 0)
calls_run needs leads words_of each [] = (tt, refl)
calls_run needs leads words_of each (c ∷ cs) =
    let rest = calls_run needs leads words_of each cs in (
      runs_append needs leads 0 (words_of c) (flat_map words_of cs) (each c).0 (subst (λ p. Runs needs leads p (flat_map words_of cs)) (sym (each c).1) rest.0),
      ends_append leads 0 (words_of c) (flat_map words_of cs) ∙ (ap (λ p. ends leads p (flat_map words_of cs)) (each c).1 ∙ rest.1),
    )

-- a word that may come next is at its place
pub may_come : {W C : Type 0} (needs leads : W → ℕ) (words_of : C → List W) → CallsRun needs leads words_of → (ws : List W) (w : W) → AreCalls words_of (ws ++ w ∷ []) → Runs needs leads 0 ws × (needs w ≡ ends leads 0 ws)
may_come needs leads words_of each ws w c =
    let r = runs_parts needs leads 0 ws (w ∷ c.0) (subst (Runs needs leads 0) (sym c.1.1 ∙ append_assoc ws (w ∷ []) c.0) (calls_run needs leads words_of each c.1.0).0) in
    (r.0, r.1.0)

-- after whole calls the place is 0
pub rests : {W C : Type 0} (needs leads : W → ℕ) (words_of : C → List W) → CallsRun needs leads words_of → (ws : List W) → Owes words_of ws [] → Runs needs leads 0 ws × (ends leads 0 ws ≡ 0)
rests needs leads words_of each ws o =
    let all = calls_run needs leads words_of each o.0 in
    let is = sym (append-nil ws) ∙ o.1 in
    (subst (Runs needs leads 0) (sym is) all.0, subst (λ l. ends leads 0 l ≡ 0) (sym is) all.1)
