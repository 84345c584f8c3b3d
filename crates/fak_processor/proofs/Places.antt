-- One of several seats performs a call.
use Rattle.fak_processor.proofs.Common.{◌≡◌, ℕ, ◌<◌, List, All, length, map, slice_set, slice_index_or, get_or, ap, sym, ◌∙◌, subst, arith, get_or-map, length-map, All-get_or}
use Rattle.std.proofs.Math.Seq.{map-set_same}

-- what two lists have alike at a place
pub alike_at : {X Y A : Type 0} (f : X → A) (g : Y → A) (xs : List X) (ys : List Y) (i : ℕ) (x : X) (y : Y) → map f xs ≡ map g ys → i < length xs → x ≡ slice_index_or xs i x → y ≡ slice_index_or ys i y → f x ≡ g y
alike_at f g xs ys i x y same below xis yis =
    let lengths : length xs ≡ length ys = sym (length-map xs f) ∙ (ap length same ∙ length-map ys g) in
    ap f xis ∙ (sym (get_or-map f xs i x (f x) below)
    ∙ (ap (λ l. get_or l i (f x)) same ∙ (get_or-map g ys i y (f x) (omega (arith, lengths, below)) ∙ sym (ap g yis))))

-- a seat that performs a call stays at its object
pub alike_after : {X A : Type 0} (f : X → A) (xs : List X) (i : ℕ) (x y : X) → x ≡ slice_index_or xs i x → f y ≡ f x → map f (slice_set xs i y) ≡ map f xs
alike_after f xs i x y xis same = map-set_same f xs i y x (same ∙ ap f xis)

-- the seat at a place is the only one of its object
pub only_at : {X : Type 0} (P : X → Type 0) (xs : List X) (i : ℕ) (x : X) → i < length xs → x ≡ slice_index_or xs i x → All P xs → P x
only_at P xs i x below xis all = subst P (sym xis) (All-get_or P xs i x below all)
