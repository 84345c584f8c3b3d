-- What the checker finds in the marks that it has read.
use Rattle.fak_model.proofs.Common.{count, Has, puts, gots, stage, after, item_of, HasCell, Kind, Put, Fill, Take, Mark, Stage, ◌≡◌, ℕ, ◌+◌, ◌-◌, ◌<◌, ◌≤◌, List, [], ◌∷◌, ◌++◌, length, take, drop, get_or, reverse, Some, None, ap, sym, ◌∙◌, subst, arith, inl, inr, reverse-append, take_more, take-append-drop, stage_with, common_steps}
use Rattle.fak_model.proofs.Deciding.{cond_here}
use Rattle.fak_model.proofs.QueueStages.{stage_here}
use Rattle.fak_model.proofs.QueueTickets.{item_stays, item_below}
use Rattle.fak_model.proofs.Reversing.{reverse_push}

-- one more mark, newest first
pub past_more : {A : Type 0} (xs : List A) (i : ℕ) (d : A) → i < length xs → reverse (take (i + 1) xs) ≡ get_or xs i d ∷ reverse (take i xs)
past_more xs i d l = ap reverse (take_more xs i d l) ∙ reverse_push (take i xs) (get_or xs i d)

-- a reversed history, split at one of its marks
past_split : {A : Type 0} (xs : List A) (i : ℕ) (d : A) → i < length xs → reverse xs ≡ reverse (drop (i + 1) xs) ++ (get_or xs i d ∷ reverse (take i xs))
past_split xs i d l =
    ap reverse (sym (take-append-drop (i + 1) xs)) ∙ (reverse-append (take (i + 1) xs) (drop (i + 1) xs) ∙ ap (λ p. reverse (drop (i + 1) xs) ++ p) (past_more xs i d l))

-- what is in the older marks is in all marks
has_more : {A : Type 0} (κ : Kind A) (newer older : List (Mark A)) → Has κ older → Has κ (newer ++ older)
has_more κ [] older h = h
has_more κ (m ∷ newer) older h = inr (has_more κ newer older h)

-- the mark at an index is in the history
pub has_at : {A : Type 0} (κ : Kind A) (h : List (Mark A)) (i : ℕ) (d : Mark A) → i < length h → (get_or h i d).kind ≡ κ → Has κ (reverse h)
has_at κ h i d l is = subst (Has κ) (sym (past_split h i d l)) (has_more κ (reverse (drop (i + 1) h)) (get_or h i d ∷ reverse (take i h)) (inl is))

-- ---- items

item_more : {A : Type 0} (newer older : List (Mark A)) (k : ℕ) (x : A) → item_of older k ≡ Some x → item_of (newer ++ older) k ≡ Some x
item_more [] older k x e = e
item_more (m ∷ newer) older k x e = item_stays m (newer ++ older) k x (item_more newer older k x e)

-- the item of the Put at this index
pub item_at_put : {A : Type 0} (h : List (Mark A)) (i k : ℕ) (x : A) (d : Mark A) → i < length h → (get_or h i d).kind ≡ Put x → count puts (reverse (take i h)) ≡ k
    → (item_of (reverse h) k ≡ Some x) × (count puts (reverse (take (i + 1) h)) ≡ k + 1)
item_at_put h i k x d l is e = (
  subst (λ p. item_of p k ≡ Some x) (sym (past_split h i d l)) (item_more (reverse (drop (i + 1) h)) (get_or h i d ∷ reverse (take i h)) k x (newest (get_or h i d) (reverse (take i h)) k x is e)),
  ap (count puts) (past_more h i d l) ∙ omega (arith, e, ap puts is),
)
  where
    newest : {A : Type 0} (m : Mark A) (older : List (Mark A)) (k : ℕ) (x : A) → m.kind ≡ Put x → count puts older ≡ k → item_of (m ∷ older) k ≡ Some x
    newest m older k x is e = rw (is, e) (cond_here k (Some x) (item_of older k))

-- no Put has drawn the next ticket
pub item_none : {A : Type 0} (h : List (Mark A)) (k : ℕ) → count puts h ≡ k → item_of h k ≡ None
item_none {A} h k e = grind (arith, common_steps, item_of, item_below)

-- ---- stages

-- a stage by counts is the stage by the marks before
stage_counted : (h : List (Mark ℕ)) (p g : ℕ) (κ : Kind ℕ) → p ≡ count puts h → g ≡ count gots h → stage_with p g κ ≡ after h κ
stage_counted h p g κ e f = grind (arith, common_steps, count, puts, gots, stage_with, after)

-- the stage that a seat's newest mark shows, from the counts of Puts and Gots before that mark
pub stage_found : (past : List (Mark ℕ)) (i j s p g : ℕ) (d : Mark ℕ) (r : Stage ℕ) → j + 1 ≡ i → j < length past → (get_or past j d).seat ≡ s → stage (reverse past) s ≡ stage (reverse (take i past)) s
    → p ≡ count puts (reverse (take i past)) → g ≡ count gots (reverse (take i past)) → r ≡ stage_with (p - puts (get_or past j d).kind) (g - gots (get_or past j d).kind) (get_or past j d).kind → r ≡ stage (reverse past) s
stage_found past i j s p g d r next l own stays ps gs is = grind (arith, common_steps, get_or, reverse, take, past_more, count, puts, gots, stage_counted, stage_here, stage)

-- ---- cells

-- from its second round on, a cell may be filled exactly if it was taken from in the round before
pub fill_decided : (size k : ℕ) (p : List (Mark ℕ)) (κ : Kind ℕ) (P : Type 0) → size ≤ k → κ ≡ Fill k → (P → Has (Take (k - size)) p) × (Has (Take (k - size)) p → P) → (P → HasCell size p κ) × (HasCell size p κ → P)
fill_decided size k p κ P le e d = grind (arith, common_steps)
