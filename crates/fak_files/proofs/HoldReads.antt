-- A writer is the only holder, and what a seat reads during a hold.
use Rattle.fak_files.proofs.Common.{◌≡◌, ◌≢◌, ◌⊎◌, ℕ, zero, suc, ◌+◌, ◌<◌, ◌≤◌, ◌==◌, Bool, true, false, List, [], ◌∷◌, ◌++◌, Some, refl, ap, sym, ◌∙◌, subst, arith, inl, inr, append_assoc, true≢false, reverse, All, append-nil, nat_tests, All-pop, AreNamed, seat_words, sum_below, words_by, seat_of, kind_of, hold_after, hold_from, amount_held, field_after, field, IsFair, file_rules, IsFileHistory, In, Foreign, Sees, FileField, FileKind, Take, FileMark, same_or_not, seat_words-own, seat_words-other, history_front, last_fair, reverse_cons, is_take, back_from_take, own_since_take, sum_term, files_fit, hold_push, common_steps}
use Rattle.fak_files.proofs.WordPlaces.{field-push}

-- ---- a writer is the only holder

-- what two seats add to a sum is at most the sum
sum_two : (f : ℕ → ℕ) (s t n : ℕ) → s < n → t < n → s ≢ t → f s + f t ≤ sum_below f n
sum_two f s t zero l k ne = absurd (omega (arith, l))
sum_two f s t (suc n) l k ne = elim (same_or_not s n) [
  | inl e ↦ omega (arith, ap f e, sum_term f t n (omega (arith, k, less s t n e ne)))
  | inr d ↦ elim (same_or_not t n) [
    | inl e ↦ omega (arith, ap f e, sum_term f s n (omega (arith, l, d)))
    | inr c ↦ omega (arith, sum_two f s t n (omega (arith, l, d)) (omega (arith, k, c)) ne)
  ]
]
  where
    less : (s t n : ℕ) → s ≡ n → s ≢ t → t ≢ n
    less s t n e ne q = ne (e ∙ sym q)

-- if a seat holds the whole amount, no other seat holds anything
pub alone : (k seats : ℕ) (h : List FileMark) → IsFileHistory k h → AreNamed (file_rules k) seats h → (s t : ℕ) → s < seats → t < seats → s ≢ t → amount_held s h ≡ k → amount_held t h ≡ 0
alone k seats h law named s t low below ne all = omega (arith, files_fit k seats h law named, sum_two (λ i. amount_held i h) s t seats low below ne, all)

-- ---- how a mark changes a seat's hold

pub held_own : (k : ℕ) (h : List FileMark) (m : FileMark) (s : ℕ) → m.seat ≡ s → amount_held s (h ++ m ∷ []) ≡ hold_after (amount_held s h) m.kind
held_own k h m s own = ap (hold_from 0) (seat_words-own (file_rules k) s h m own) ∙ hold_push 0 (seat_words (file_rules k) s h) m.kind

pub held_other : (k : ℕ) (h : List FileMark) (m : FileMark) (s : ℕ) → m.seat ≢ s → amount_held s (h ++ m ∷ []) ≡ amount_held s h
held_other k h m s other = ap (hold_from 0) (seat_words-other (file_rules k) s h m other)

-- a mark other than a Take leaves a hold as it is, or ends it
held_before : (n : ℕ) (kind : FileKind) → is_take kind ≡ false → 0 < hold_after n kind → 0 < n
held_before n kind none held = grind (arith, common_steps, is_take, hold_after, true≢false)

-- ---- what a seat reads

-- a mark of this kind sets no field, or it is a writer's
sets_none : (k : ℕ) (h : List FileMark) (seat : ℕ) (kind : FileKind) → IsFair k h seat kind → (amount_held seat h ≡ k) ⊎ ((i : ℕ) (f : FileField) (v : ℕ) → field_after i f v kind ≡ v)
sets_none k h seat kind fair = grind (arith, common_steps, amount_held, field_after, IsFair)

-- what a seat reads during a hold, from marks with the newest first
abbrev pub version : ℕ → List FileMark → List FileMark
version name past = reverse (back_from_take name past) ++ reverse (own_since_take name past)

module _ (k seats name : ℕ) (low : name < seats) (i : ℕ) (f : FileField) where
  Reads : List FileMark → Type 0
  Reads past = field (reverse past) i f ≡ field (version name past) i f

  pub reads : (past : List FileMark) → IsFileHistory k (reverse past) → AreNamed (file_rules k) seats (reverse past) → 0 < amount_held name (reverse past) → field (reverse past) i f ≡ field (version name past) i f
  reads [] law named held = absurd (omega (arith, held))
  reads (m ∷ past) law named held = by (m.seat == name) refl (is_take m.kind) refl (reads past)
    where
      Named : FileMark → Type 0
      Named w = w.seat < seats

      law' : IsFileHistory k (reverse past ++ m ∷ [])
      law' = subst (IsFileHistory k) (reverse_cons m past) law

      pop : All (λ (w : FileMark). w.seat < seats) (reverse past) × (m.seat < seats)
      pop = All-pop (λ (w : FileMark). w.seat < seats) (reverse past ++ m ∷ []) (reverse past) (Some m) refl (subst (AreNamed (file_rules k) seats) (reverse_cons m past) named)

      held' : 0 < amount_held name (reverse past ++ m ∷ [])
      held' = subst (λ (x : List FileMark). 0 < amount_held name x) (reverse_cons m past) held

      front : IsFileHistory k (reverse past)
      front = history_front (file_rules k) (reverse past) m law'

      pushed : field (reverse (m ∷ past)) i f ≡ field_after i f (field (reverse past) i f) m.kind
      pushed = ap (λ (x : List FileMark). field x i f) (reverse_cons m past) ∙ field-push (reverse past) m i f

      other : m.seat ≢ name → field (reverse past) i f ≡ field (version name past) i f → field (reverse (m ∷ past)) i f ≡ field (version name past) i f
      other ne ih = elim (sets_none k (reverse past) m.seat m.kind (last_fair (file_rules k) (reverse past) m law')) [
        | inl all ↦ absurd (omega (arith, held', held_other k (reverse past) m name ne, alone k seats (reverse past) front pop.0 m.seat name pop.1 low ne all))
        | inr none ↦ pushed ∙ (none i f (field (reverse past) i f) ∙ ih)
      ]

      own : field (reverse past) i f ≡ field (version name past) i f → field (reverse (m ∷ past)) i f ≡ field (reverse (back_from_take name past) ++ reverse (m ∷ own_since_take name past)) i f
      own ih = grind (arith, common_steps, reverse, back_from_take, own_since_take, reverse_cons, append_assoc, pushed, field_after, field-push, field)

      apart : (m.seat == name) ≡ false → m.seat ≢ name
      apart a e = grind (arith, nat_tests, a, e)

      same : (m.seat == name) ≡ true → m.seat ≡ name
      same a = grind (arith, nat_tests, a)

      by : (a : Bool) → (m.seat == name) ≡ a → (b : Bool) → is_take m.kind ≡ b
          → (IsFileHistory k (reverse past) → AreNamed (file_rules k) seats (reverse past) → 0 < amount_held name (reverse past) → field (reverse past) i f ≡ field (version name past) i f)
          → field (reverse (m ∷ past)) i f ≡ field (version name (m ∷ past)) i f
      by true a true b ih = rw (a, b) (ap (λ (x : List FileMark). field x i f) (sym (append-nil (reverse (m ∷ past)))))
      by true a false b ih = grind (arith, common_steps, amount_held, reverse, held_before, held_own, same, held', own, front, pop)
      by false a b e ih = grind (arith, common_steps, amount_held, reverse, held', held_other, apart, other, front, pop)

-- ---- what a seat reads, as more is seen

-- what a seat reads stays the same while it leaves no mark
pub back_from_take-foreign : (name : ℕ) (names : List ℕ) (between past : List FileMark) → In name names → Foreign seat_of names between → back_from_take name (between ++ past) ≡ back_from_take name past
back_from_take-foreign name names [] past i f = refl
back_from_take-foreign name names (m ∷ between) past i f =
    let t : (m.seat == name) ≡ false = grind (arith, nat_tests, other) in
    rw t (back_from_take-foreign name names between past i f.1)
  where
    other : m.seat ≢ name
    other e = f.0 (subst (λ (n : ℕ). In n names) (sym e) i)

pub own_since_take-foreign : (name : ℕ) (names : List ℕ) (between past : List FileMark) → In name names → Foreign seat_of names between → own_since_take name (between ++ past) ≡ own_since_take name past
own_since_take-foreign name names [] past i f = refl
own_since_take-foreign name names (m ∷ between) past i f =
    let t : (m.seat == name) ≡ false = grind (arith, nat_tests, other) in
    rw t (own_since_take-foreign name names between past i f.1)
  where
    other : m.seat ≢ name
    other e = f.0 (subst (λ (n : ℕ). In n names) (sym e) i)

pub version-sees : (name : ℕ) (names : List ℕ) (seen past : List FileMark) → In name names → Sees seat_of names seen past → version name past ≡ version name seen
version-sees name names seen past i s = grind (arith, common_steps, reverse, back_from_take-foreign, own_since_take-foreign)

-- ---- a reader

-- a reader's last mark is its Take: it has set nothing since
pub own_since-take : (k name n : ℕ) (past : List FileMark) (kinds : List FileKind) → words_by seat_of kind_of name (reverse past) ≡ kinds ++ Take n ∷ [] → own_since_take name past ≡ []
own_since-take k name n [] kinds is = refl
own_since-take k name n (m ∷ past) kinds is = by (m.seat == name) refl (own_since-take k name n past kinds)
  where
    words : words_by seat_of kind_of name (reverse past ++ m ∷ []) ≡ kinds ++ Take n ∷ []
    words = ap (words_by seat_of kind_of name) (sym (reverse_cons m past)) ∙ is

    last : {A : Type 0} (xs ys : List A) (x y : A) → xs ++ x ∷ [] ≡ ys ++ y ∷ [] → x ≡ y
    last [] [] x y e = cc
    last [] (z ∷ []) x y e = absurd cc
    last [] (z ∷ w ∷ ys) x y e = absurd cc
    last (z ∷ []) [] x y e = absurd cc
    last (z ∷ w ∷ xs) [] x y e = absurd cc
    last (z ∷ xs) (w ∷ ys) x y e = last xs ys x y cc

    by : (a : Bool) → (m.seat == name) ≡ a → (words_by seat_of kind_of name (reverse past) ≡ kinds ++ Take n ∷ [] → own_since_take name past ≡ []) → own_since_take name (m ∷ past) ≡ []
    by a a' ih = grind (arith, common_steps, words_by, seat_of, kind_of, reverse, own_since_take, nat_tests, last, seat_words-own, file_rules, words, is_take, seat_words-other)
