-- The stage of each seat after one more mark.
use Rattle.fak_model.proofs.Common.{Kind, Put, Got, Mark, count, puts, gots, after, stage, Putting, Getting, ◌≡◌, ◌≢◌, ◌⊎◌, ℕ, List, ◌∷◌, refl, sym, ap, ◌∙◌, inl, inr}
use Rattle.fak_model.proofs.Deciding.{same_or_not, cond_here, cond_else}

pub stage_here : {A : Type 0} (m : Mark A) (h : List (Mark A)) → stage (m ∷ h) m.seat ≡ after h m.kind
stage_here m h = cond_here m.seat (after h m.kind) (stage h m.seat)

pub stage_else : {A : Type 0} (m : Mark A) (h : List (Mark A)) (s : ℕ) → s ≢ m.seat → stage (m ∷ h) s ≡ stage h s
stage_else m h s ne = cond_else s m.seat (after h m.kind) (stage h s) ne

pub after_putting : {A : Type 0} (h : List (Mark A)) (κ : Kind A) (k : ℕ) (x : A) → after h κ ≡ Putting k x → (κ ≡ Put x) × (k ≡ count puts h)
after_putting h (Put y) k x e = (cc, cc)
after_putting h _ k x e = absurd (cc)

pub after_getting : {A : Type 0} (h : List (Mark A)) (κ : Kind A) (k : ℕ) → after h κ ≡ Getting k → ((x : A) × (κ ≡ Got x)) × (k ≡ count gots h)
after_getting h (Got y) k e = ((y, refl), cc)
after_getting h _ k e = absurd (cc)

-- a seat that is putting after one more mark was putting before it, or has just drawn the newest ticket
pub putting_back : {A : Type 0} (m : Mark A) (h : List (Mark A)) (s k : ℕ) (x : A) → stage (m ∷ h) s ≡ Putting k x
    → ((s ≡ m.seat) × (m.kind ≡ Put x) × (k ≡ count puts h)) ⊎ ((s ≢ m.seat) × (stage h s ≡ Putting k x))
putting_back m h s k x e = go (same_or_not s m.seat)
  where
    go : (s ≡ m.seat) ⊎ (s ≢ m.seat) → ((s ≡ m.seat) × (m.kind ≡ Put x) × (k ≡ count puts h)) ⊎ ((s ≢ m.seat) × (stage h s ≡ Putting k x))
    go (inl q) = let w = after_putting h m.kind k x (sym (stage_here m h) ∙ (ap (stage (m ∷ h)) (sym q) ∙ e)) in inl (q, w.0, w.1)
    go (inr n) = inr (n, sym (stage_else m h s n) ∙ e)

pub getting_back : {A : Type 0} (m : Mark A) (h : List (Mark A)) (s k : ℕ) → stage (m ∷ h) s ≡ Getting k
    → ((s ≡ m.seat) × ((x : A) × (m.kind ≡ Got x)) × (k ≡ count gots h)) ⊎ ((s ≢ m.seat) × (stage h s ≡ Getting k))
getting_back {A} m h s k e = go (same_or_not s m.seat)
  where
    go : (s ≡ m.seat) ⊎ (s ≢ m.seat) → ((s ≡ m.seat) × ((x : A) × (m.kind ≡ Got x)) × (k ≡ count gots h)) ⊎ ((s ≢ m.seat) × (stage h s ≡ Getting k))
    go (inl q) = let w = after_getting h m.kind k (sym (stage_here m h) ∙ (ap (stage (m ∷ h)) (sym q) ∙ e)) in inl (q, w.0, w.1)
    go (inr n) = inr (n, sym (stage_else m h s n) ∙ e)
