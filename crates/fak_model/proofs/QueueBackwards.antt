-- A history and its past, which is the same list reversed: both have the same counts, marks and items.
use Rattle.std.proofs.lemmas.List.{append-nil, reverse-reverse}
use Rattle.fak_model.proofs.Common.{All-cons, All-head, All-tail, flat_map-append, Kind, Mark, count, puts, Has, Idle, items_put, item_in, item_at, Drew, ◌≡◌, ◌≢◌, ◌⊎◌, ℕ, zero, suc, ◌+◌, List, [], ◌∷◌, ◌++◌, length, length-append, reverse, Option, Some, refl, ap, sym, ◌∙◌, subst, arith, rules, inl, inr, All, after, stage, item_put, item_of, common_steps}
use Rattle.fak_model.proofs.Appending.{snoc_ind}
use Rattle.fak_model.proofs.Reversing.{reverse_cons, reverse_push, reverse_split, All-reverse}
use Rattle.fak_model.proofs.Deciding.{cond_here, cond_else, same_or_not}
use Rattle.fak_model.proofs.QueueStages.{stage_here, stage_else}

pub count_append : {A : Type 0} (w : Kind A → ℕ) (f g : List (Mark A)) → count w (f ++ g) ≡ count w f + count w g
count_append w [] g = omega arith
count_append w (m ∷ f) g = omega (arith, count_append w f g)

pub count_reverse : {A : Type 0} (w : Kind A → ℕ) (h : List (Mark A)) → count w (reverse h) ≡ count w h
count_reverse w [] = refl
count_reverse w (m ∷ h) = ap (count w) (reverse_cons m h) ∙ omega (arith, count_append w (reverse h) (m ∷ []), count_reverse w h)

has_right : {A : Type 0} (κ : Kind A) (f g : List (Mark A)) → Has κ g → Has κ (f ++ g)
has_right κ [] g e = e
has_right κ (m ∷ f) g e = inr (has_right κ f g e)

has_left : {A : Type 0} (κ : Kind A) (f g : List (Mark A)) → Has κ f → Has κ (f ++ g)
has_left κ [] g e = absurd e
has_left κ (m ∷ f) g (inl e) = inl e
has_left κ (m ∷ f) g (inr e) = inr (has_left κ f g e)

pub has_reverse : {A : Type 0} (κ : Kind A) (h : List (Mark A)) → Has κ h → Has κ (reverse h)
has_reverse κ [] e = e
has_reverse κ (m ∷ h) (inl e) = subst (Has κ) (sym (reverse_cons m h)) (has_right κ (reverse h) (m ∷ []) (inl e))
has_reverse κ (m ∷ h) (inr e) = subst (Has κ) (sym (reverse_cons m h)) (has_left κ (reverse h) (m ∷ []) (has_reverse κ h e))

pub has_back : {A : Type 0} (κ : Kind A) (h : List (Mark A)) → Has κ (reverse h) → Has κ h
has_back κ h e = subst (Has κ) (reverse-reverse h) (has_reverse κ (reverse h) e)

-- ---- items

pub item_at_new : {A : Type 0} (xs : List A) (x : A) → item_at (xs ++ x ∷ []) (length xs) ≡ Some x
item_at_new [] x = refl
item_at_new (y ∷ xs) x = item_at_new xs x

pub item_at_old : {A : Type 0} (xs : List A) (x : A) (k : ℕ) → k ≢ length xs → item_at (xs ++ x ∷ []) k ≡ item_at xs k
item_at_old [] x zero ne = absurd (ne refl)
item_at_old [] x (suc k) ne = refl
item_at_old (y ∷ xs) x zero ne = refl
item_at_old (y ∷ xs) x (suc k) ne = item_at_old xs x k (λ e. ne (ap suc e))

pub items_push : {A : Type 0} (h : List (Mark A)) (m : Mark A) → items_put (h ++ m ∷ []) ≡ items_put h ++ item_in m
items_push h m = flat_map-append item_in h (m ∷ []) ∙ ap (λ l. items_put h ++ l) (append-nil (item_in m))

item_in_count : {A : Type 0} (s : ℕ) (κ : Kind A) → length (item_in (record { seat = s; kind = κ })) ≡ puts κ
item_in_count s κ = grind (arith, common_steps, length, item_in, puts)

pub items_count : {A : Type 0} (h : List (Mark A)) → length (items_put h) ≡ count puts h
items_count {A} = snoc_ind (λ (h : List (Mark A)). length (items_put h) ≡ count puts h) refl (λ h m before.
    ap length (items_push h m) ∙ omega (arith, length-append (items_put h) (item_in m), item_in_count m.seat m.kind, before, count_append puts h (m ∷ [])))

one_more : {A : Type 0} (xs : List A) (s : ℕ) (κ : Kind A) (n k : ℕ) (r : Option A) → length xs ≡ n → item_at xs k ≡ r
    → item_at (xs ++ item_in (record { seat = s; kind = κ })) k ≡ item_put k n κ r
one_more xs s κ n k r l e = grind (arith, common_steps, length, item_at, item_in, item_put, same_or_not, item_at_new, cond_here, item_at_old, cond_else, append-nil)

-- the item at place k is that of the Put with ticket k
pub item_same : {A : Type 0} (k : ℕ) (h : List (Mark A)) → item_at (items_put h) k ≡ item_of (reverse h) k
item_same {A} k = snoc_ind (λ (h : List (Mark A)). item_at (items_put h) k ≡ item_of (reverse h) k) refl (λ h m before.
    ap (λ t. item_at t k) (items_push h m)
    ∙ (one_more (items_put h) m.seat m.kind (count puts (reverse h)) k (item_of (reverse h) k) (items_count h ∙ sym (count_reverse puts h)) before
    ∙ ap (λ p. item_of p k) (sym (reverse_push h m))))

-- ---- the last mark of a seat

pub record Last {A : Type 0} (past : List (Mark A)) (s : ℕ) : Type 0 where
  pub newer : List (Mark A)
  pub m : Mark A
  pub older : List (Mark A)
  pub is : past ≡ newer ++ m ∷ older
  pub his : m.seat ≡ s
  pub last : All (λ (n : Mark A). n.seat ≢ s) newer
  pub stands : stage past s ≡ after older m.kind

pub last_of : {A : Type 0} (past : List (Mark A)) (s : ℕ) → (stage past s ≡ Idle) ⊎ Last past s
last_of [] s = inl refl
last_of {A} (m ∷ h) s = elim (same_or_not s m.seat) [
  | inl q ↦ inr (record { newer = []; m = m; older = h; is = refl; his = sym q; last = search rules; stands = ap (stage (m ∷ h)) q ∙ stage_here m h })
  | inr d ↦ elim (last_of h s) [
    | inl i ↦ inl (stage_else m h s d ∙ i)
    | inr l ↦ inr (record { newer = m ∷ l.newer; m = l.m; older = l.older; is = ap (λ t. m ∷ t) l.is; his = l.his; last = All-cons (λ (n : Mark A). n.seat ≢ s) m l.newer (λ e. d (sym e)) l.last; stands = stage_else m h s d ∙ l.stands })
  ]
]

pub stage_past : {A : Type 0} (newer older : List (Mark A)) (s : ℕ) → All (λ (n : Mark A). n.seat ≢ s) newer → stage (newer ++ older) s ≡ stage older s
stage_past [] older s a = refl
stage_past {A} (m ∷ newer) older s a =
    let Other : Mark A → Type 0 = λ (n : Mark A). n.seat ≢ s in
    stage_else m (newer ++ older) s (λ e. (All-head Other m newer a) (sym e)) ∙ stage_past newer older s (All-tail Other m newer a)

pub drew : {A : Type 0} (h : List (Mark A)) (s : ℕ) (l : Last (reverse h) s) (κ : Kind A) (w : Kind A → ℕ) (k : ℕ) → l.m.kind ≡ κ → k ≡ count w l.older → Drew h s κ w k
drew {A} h s l κ w k is number = record {
  earlier = reverse l.older;
  m = l.m;
  later = reverse l.newer;
  stands = sym (reverse_split l.newer l.m l.older) ∙ (ap reverse (sym l.is) ∙ reverse-reverse h);
  his = l.his;
  is = is;
  last = All-reverse (λ (n : Mark A). n.seat ≢ s) l.newer l.last;
  number = number ∙ sym (count_reverse w l.older);
}

-- the stage after a draw that is the last mark of the seat
pub stage_drew : {A : Type 0} (h : List (Mark A)) (s : ℕ) (κ : Kind A) (w : Kind A → ℕ) (k : ℕ) (d : Drew h s κ w k) → (stage (reverse h) s ≡ after (reverse d.earlier) κ) × (k ≡ count w (reverse d.earlier))
stage_drew {A} h s κ w k d = (
  ap (λ t. stage (reverse t) s) (sym d.stands)
      ∙ (ap (λ t. stage t s) (reverse_split d.earlier d.m d.later)
      ∙ (stage_past (reverse d.later) (d.m ∷ reverse d.earlier) s (All-reverse (λ (n : Mark A). n.seat ≢ s) d.later d.last)
      ∙ (ap (stage (d.m ∷ reverse d.earlier)) (sym d.his) ∙ (stage_here d.m (reverse d.earlier) ∙ ap (after (reverse d.earlier)) d.is)))),
  d.number ∙ sym (count_reverse w d.earlier),
)
