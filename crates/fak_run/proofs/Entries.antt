-- The entries after one more mark.
use Rattle.fak_run.proofs.Common.{◌≡◌, ◌≢◌, ℕ, zero, suc, ◌+◌, ◌<◌, ◌==◌, true, false, List, [], ◌∷◌, ◌++◌, refl, ap, sym, ◌∙◌, subst, arith, nat_tests, field, field_after, FileEntry, FileField, Inode, Uses, Set, FileMark, with_field, set_in, common_steps}
use Rattle.fak_files.proofs.Common.{entry_of, entries_after}
use Rattle.fak_files.proofs.WordPlaces.{field-push}

-- an entry is given by its fields
entry_by : (i u j v : ℕ) → i ≡ j → u ≡ v → ◌≡◌ {A = FileEntry} (record { inode = i; uses = u }) (record { inode = j; uses = v })
entry_by i u j v e f = λ t. record { inode = e t; uses = f t }

module _ (h : List FileMark) (m : FileMark) where
  -- a mark that sets no field
  pub entries-same : ((i : ℕ) (f : FileField) (v : ℕ) → field_after i f v m.kind ≡ v) → (first n : ℕ) → entries_after (h ++ m ∷ []) first n ≡ entries_after h first n
  entries-same none first u = grind (arith, common_steps, field_after, entries_after, entry_of, entry_by, field-push, field)

  module _ (i : ℕ) (f : FileField) (v : ℕ) (is : m.kind ≡ Set i f v) where
    after : (e : ℕ) (g : FileField) → field (h ++ m ∷ []) e g ≡ field_after e g (field h e g) (Set i f v)
    after e g = field-push h m e g ∙ ap (field_after e g (field h e g)) is

    entry-elsewhere : (e : ℕ) → e ≢ i → entry_of (h ++ m ∷ []) e ≡ entry_of h e
    entry-elsewhere e other =
        let t : (e == i) ≡ false = grind (arith, nat_tests) in
        entry_by _ _ _ _ (after e Inode ∙ rw t refl) (after e Uses ∙ rw t refl)

    entries-below : (first n : ℕ) → i < first → entries_after (h ++ m ∷ []) first n ≡ entries_after h first n
    entries-below first zero low = refl
    entries-below first (suc n) low =
        let other : first ≢ i = omega (arith, low) in
        λ t. entry-elsewhere first other t ∷ entries-below (suc first) n (omega (arith, low)) t

  entry-here : (i : ℕ) (f : FileField) (v : ℕ) → m.kind ≡ Set i f v → entry_of (h ++ m ∷ []) i ≡ with_field (entry_of h i) f v
  entry-here i Inode v is =
      let t : (i == i) ≡ true = grind (arith, nat_tests) in
      entry_by _ _ _ _ (after i Inode v is i Inode ∙ rw t refl) (after i Inode v is i Uses ∙ rw t refl)
  entry-here i Uses v is =
      let t : (i == i) ≡ true = grind (arith, nat_tests) in
      entry_by _ _ _ _ (after i Uses v is i Inode ∙ rw t refl) (after i Uses v is i Uses ∙ rw t refl)

  pub entries-set : (i : ℕ) (f : FileField) (v : ℕ) → m.kind ≡ Set i f v → (first n j : ℕ) → i ≡ first + j → entries_after (h ++ m ∷ []) first n ≡ set_in (entries_after h first n) j f v
  entries-set i f v is first zero j at = refl
  entries-set i f v is first (suc n) zero at =
      let here : first ≡ i = omega (arith, at) in
      let one : entry_of (h ++ m ∷ []) first ≡ with_field (entry_of h first) f v = subst (λ (e : ℕ). entry_of (h ++ m ∷ []) e ≡ with_field (entry_of h e) f v) (sym here) (entry-here i f v is) in
      λ t. one t ∷ entries-below i f v is (suc first) n (omega (arith, here)) t
  entries-set i f v is first (suc n) (suc j) at =
      let other : first ≢ i = omega (arith, at) in
      λ t. entry-elsewhere i f v is first other t ∷ entries-set i f v is (suc first) n j (omega (arith, at)) t
