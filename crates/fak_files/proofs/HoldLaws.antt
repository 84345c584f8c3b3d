-- The laws of holds: what is between a Take and its Give, and what is read during a hold.
use Rattle.fak_files.proofs.Common.{◌≡◌, ◌≢◌, ℕ, ◌<◌, ◌≤◌, ◌==◌, Bool, true, List, [], ◌∷◌, ◌++◌, refl, ap, sym, ◌∙◌, subst, arith, inl, inr, append_assoc, true≢false, reverse, All, nat_tests, All-head, All-tail, All-cons, All-nil, AreNamed, seat_of, amount_held, hold_after, field, IsFair, file_rules, IsFileHistory, marks_of, Foreign, FileField, FileKind, Take, Give, FileMark, same_or_not, history_prefix, last_fair, reverse_push, marks_of-reverse, is_take, is_set, KeepsHold, back_from_take, own_since_take, prefix_through_take, marks_since_take, common_steps}
use Rattle.std.proofs.lemmas.List.{append-nil, reverse-append, reverse-reverse}
use Rattle.fak_files.proofs.HoldReads.{alone, held_own, held_other, reads, back_from_take-foreign, own_since_take-foreign}

-- ---- between a Take and its Give

-- what is true of all elements of a list is true of those of a prefix
all_front : {A : Type 0} (F : A → Type 0) (l k : List A) → All F (l ++ k) → All F l
all_front F [] k all = All-nil F
all_front F (x ∷ l) k all = All-cons F x l (All-head F x (l ++ k) all) (all_front F l k (All-tail F x (l ++ k) all))

-- a Take takes more than nothing
taken_some : (k : ℕ) (h : List FileMark) (seat n : ℕ) → 1 ≤ k → IsFair k h seat (Take n) → 0 < n
taken_some k h seat n some fair = elim fair.0 [ inl e ↦ omega (arith, e) | inr e ↦ omega (arith, e, some) ]

-- a seat keeps its hold at each of its marks except a Give
hold_goes : (k : ℕ) (h : List FileMark) (seat n : ℕ) (kind : FileKind) → 1 ≤ k → IsFair k h seat kind → kind ≢ Give → 0 < n → 0 < hold_after n kind
hold_goes k h seat n kind some fair keeps held = grind (arith, common_steps, hold_after, IsFair, taken_some)

module _ (k : ℕ) (some : 1 ≤ k) where
  -- a hold lasts while the seat leaves no Give
  hold_lasts : (seat : ℕ) (before mid : List FileMark) → IsFileHistory k (before ++ mid) → 0 < amount_held seat before → KeepsHold seat mid → 0 < amount_held seat (before ++ mid)
  hold_lasts seat before [] law held keeps = subst (λ (h : List FileMark). 0 < amount_held seat h) (sym (append-nil before)) held
  hold_lasts seat before (m ∷ mid) law held keeps =
      let Keeps : FileMark → Type 0 = λ (w : FileMark). w.seat ≡ seat → w.kind ≢ Give in
      let all : IsFileHistory k ((before ++ m ∷ []) ++ mid) = subst (IsFileHistory k) (sym (append_assoc before (m ∷ []) mid)) law in
      let one : IsFileHistory k (before ++ m ∷ []) = history_prefix (file_rules k) (before ++ m ∷ []) mid all in
      let next : 0 < amount_held seat (before ++ m ∷ []) = elim (same_or_not m.seat seat) [
        | inl own ↦ subst (λ (x : ℕ). 0 < x) (sym (held_own k before m seat own)) (hold_goes k before m.seat (amount_held seat before) m.kind some (last_fair (file_rules k) before m one) (All-head (λ (w : FileMark). w.seat ≡ seat → w.kind ≢ Give) m mid keeps own) held)
        | inr other ↦ subst (λ (x : ℕ). 0 < x) (sym (held_other k before m seat other)) held
      ] in
      subst (λ (h : List FileMark). 0 < amount_held seat h) (append_assoc before (m ∷ []) mid) (hold_lasts seat (before ++ m ∷ []) mid all next (All-tail (λ (w : FileMark). w.seat ≡ seat → w.kind ≢ Give) m mid keeps))

  take_holds : (before : List FileMark) (seat : ℕ) (kind : FileKind) → IsFair k before seat kind → is_take kind ≡ true → (n : ℕ) → 0 < hold_after n kind
  take_holds before seat kind fair take n = grind (arith, common_steps, is_take, hold_after, IsFair, taken_some, true≢false)

  set_alone : (before : List FileMark) (seat : ℕ) (kind : FileKind) → IsFair k before seat kind → is_set kind ≡ true → amount_held seat before ≡ k
  set_alone before seat kind fair set = grind (arith, common_steps, is_set, amount_held, IsFair, true≢false)

  pub no_other_set : (seats : ℕ) (h : List FileMark) → IsFileHistory k h → AreNamed (file_rules k) seats h
      → (before mid after : List FileMark) (take set : FileMark) → before ++ take ∷ (mid ++ set ∷ after) ≡ h → is_take take.kind ≡ true → KeepsHold take.seat mid → is_set set.kind ≡ true → set.seat ≡ take.seat
  no_other_set seats h law named before mid after take set is takes keeps sets =
      let Named : FileMark → Type 0 = λ (w : FileMark). w.seat < seats in
      let parts : ((before ++ take ∷ []) ++ mid) ++ set ∷ after ≡ h = append_assoc (before ++ take ∷ []) mid (set ∷ after) ∙ (append_assoc before (take ∷ []) (mid ++ set ∷ after) ∙ is) in
      let law' : IsFileHistory k (((before ++ take ∷ []) ++ mid) ++ set ∷ after) = subst (IsFileHistory k) (sym parts) law in
      let named' : All (λ (w : FileMark). w.seat < seats) (((before ++ take ∷ []) ++ mid) ++ set ∷ after) = subst (AreNamed (file_rules k) seats) (sym parts) named in
      let front : IsFileHistory k ((before ++ take ∷ []) ++ mid) = history_prefix (file_rules k) ((before ++ take ∷ []) ++ mid) (set ∷ after) law' in
      let named_front : All (λ (w : FileMark). w.seat < seats) ((before ++ take ∷ []) ++ mid) = all_front (λ (w : FileMark). w.seat < seats) ((before ++ take ∷ []) ++ mid) (set ∷ after) named' in
      let begun : IsFileHistory k (before ++ take ∷ []) = history_prefix (file_rules k) (before ++ take ∷ []) mid front in
      let first : 0 < amount_held take.seat (before ++ take ∷ []) = subst (λ (x : ℕ). 0 < x) (sym (held_own k before take take.seat refl)) (take_holds before take.seat take.kind (last_fair (file_rules k) before take begun) takes (amount_held take.seat before)) in
      let held : 0 < amount_held take.seat ((before ++ take ∷ []) ++ mid) = hold_lasts take.seat (before ++ take ∷ []) mid front first keeps in
      let all : amount_held set.seat ((before ++ take ∷ []) ++ mid) ≡ k = set_alone ((before ++ take ∷ []) ++ mid) set.seat set.kind (law'.fair ((before ++ take ∷ []) ++ mid) set after refl) sets in
      let set_low : set.seat < seats = name_low (before ++ take ∷ []) mid set after named' in
      let take_low : take.seat < seats = All-head (λ (w : FileMark). w.seat < seats) take (mid ++ set ∷ after) (all_back before (take ∷ (mid ++ set ∷ after)) (subst (AreNamed (file_rules k) seats) (sym is) named)) in
      elim (same_or_not set.seat take.seat) [
        | inl e ↦ e
        | inr ne ↦ absurd (omega (arith, held, alone k seats ((before ++ take ∷ []) ++ mid) front named_front set.seat take.seat set_low take_low ne all))
      ]
    where
      all_back : (l r : List FileMark) → All (λ (w : FileMark). w.seat < seats) (l ++ r) → All (λ (w : FileMark). w.seat < seats) r
      all_back [] r all = all
      all_back (x ∷ l) r all = all_back l r (All-tail (λ (w : FileMark). w.seat < seats) x (l ++ r) all)

      name_low : (a b : List FileMark) (m : FileMark) (c : List FileMark) → All (λ (w : FileMark). w.seat < seats) ((a ++ b) ++ m ∷ c) → m.seat < seats
      name_low a b m c all = All-head (λ (w : FileMark). w.seat < seats) m c (all_back (a ++ b) (m ∷ c) all)

-- ---- what is read during a hold

pub hold_reads : (k seats : ℕ) (h : List FileMark) → IsFileHistory k h → AreNamed (file_rules k) seats h → (name : ℕ) → name < seats → 0 < amount_held name h → (i : ℕ) (f : FileField) → field h i f ≡ field (prefix_through_take name h ++ marks_since_take name h) i f
hold_reads k seats h law named name low held i f =
    let back : reverse (reverse h) ≡ h = reverse-reverse h in
    let r = reads k seats name low i f (reverse h) (subst (IsFileHistory k) (sym back) law) (subst (AreNamed (file_rules k) seats) (sym back) named) (subst (λ (x : List FileMark). 0 < amount_held name x) (sym back) held) in
    ap (λ (x : List FileMark). field x i f) (sym back) ∙ r

-- marks of others are foreign
foreign_none : (name : ℕ) (h : List FileMark) → marks_of seat_of name h ≡ [] → Foreign seat_of (name ∷ []) h
foreign_none name [] is = tt
foreign_none name (m ∷ h) is = by (m.seat == name) refl (foreign_none name h)
  where
    by : (a : Bool) → (m.seat == name) ≡ a → (marks_of seat_of name h ≡ [] → Foreign seat_of (name ∷ []) h) → Foreign seat_of (name ∷ []) (m ∷ h)
    by a a' rest = grind (arith, common_steps, marks_of, seat_of, nat_tests)

-- what a seat reads stays the same while it leaves no mark
pub reads_stay : (name : ℕ) (h rest : List FileMark) → marks_of seat_of name rest ≡ [] → (prefix_through_take name (h ++ rest) ≡ prefix_through_take name h) × (marks_since_take name (h ++ rest) ≡ marks_since_take name h)
reads_stay name h rest none =
    let far : Foreign seat_of (name ∷ []) (reverse rest) = foreign_none name (reverse rest) (marks_of-reverse seat_of name rest ∙ ap reverse none) in
    let is : reverse (h ++ rest) ≡ reverse rest ++ reverse h = reverse-append h rest in (
      ap reverse (ap (back_from_take name) is ∙ back_from_take-foreign name (name ∷ []) (reverse rest) (reverse h) (inl refl) far),
      ap reverse (ap (own_since_take name) is ∙ own_since_take-foreign name (name ∷ []) (reverse rest) (reverse h) (inl refl) far),
    )

-- at its Take a seat reads all that it has seen
pub take_reads : (h : List FileMark) (m : FileMark) → is_take m.kind ≡ true → (prefix_through_take m.seat (h ++ m ∷ []) ≡ h ++ m ∷ []) × (marks_since_take m.seat (h ++ m ∷ []) ≡ [])
take_reads h m take = grind (arith, common_steps, reverse, reverse_push, nat_tests, reverse-reverse)
