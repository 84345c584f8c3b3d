-- Whether a list of marks of a queue of numbers is legal, by the definition on pasts.
use Rattle.fak_model.proofs.Common.{cases_lt, Kind, ClaimIn, OverIn, BackIn, NoRoom, Put, Fill, EndIn, ClaimOut, OverOut, BackOut, NoItem, Got, Take, EndOut, Close, Closed, LateIn, Mark, Stage, Putting, Getting, count, gots, upper_raise, upper_drop, lower_raise, lower_drop, Has, IsQueueHistory, ◌≡◌, ◌⊎◌, ℕ, ◌+◌, ◌-◌, ◌<◌, ltb, ◌==◌, Bool, true, false, not, List, [], ◌∷◌, reverse, Option, Some, None, Decides, refl, arith, inl, inr, ◌&&◌, ◌||◌, Decides-ltb, Decides-like, Decides-not, Decides-and, Decides-or, common_steps}
use Rattle.fak_model.specs.QueuePast.{UpperAtLeast, LowerNotPositive, stage, item_of, IsNext, IsFair, IsOldest, HasCell, MayFollow, IsLegalPast}
use Rattle.fak_model.proofs.QueueWords.{place, at_idle, at_over_in, at_claimed_in, at_filled, at_over_out, at_claimed_out, at_taken}
use Rattle.fak_model.proofs.QueueLiteral.{to_past, to_literal}
use Rattle.fak_model.proofs.Judging.{le_decided}

-- ---- marks of a past

abbrev pub has : (Kind ℕ → Bool) → List (Mark ℕ) → Bool
has test [] = false
has test (m ∷ h) = test m.kind || has test h

has_decided : (test : Kind ℕ → Bool) (κ : Kind ℕ) → ((x : Kind ℕ) → Decides (test x) (x ≡ κ)) → (h : List (Mark ℕ)) → Decides (has test h) (Has κ h)
has_decided test κ each [] = (λ e. absurd (cc), λ z. absurd z)
has_decided test κ each (m ∷ h) = Decides-or (test m.kind) (has test h) (each m.kind) (has_decided test κ each h)

abbrev pub is_close : Kind ℕ → Bool
is_close Close = true
is_close _ = false

close_decided : (x : Kind ℕ) → Decides (is_close x) (x ≡ Close)
close_decided x = grind (arith, common_steps)

abbrev pub is_fill : ℕ → Kind ℕ → Bool
is_fill k (Fill j) = j == k
is_fill k _ = false

fill_decided : (k : ℕ) (x : Kind ℕ) → Decides (is_fill k x) (x ≡ Fill k)
fill_decided k x = grind (arith, common_steps)

abbrev pub is_take : ℕ → Kind ℕ → Bool
is_take k (Take j) = j == k
is_take k _ = false

take_decided : (k : ℕ) (x : Kind ℕ) → Decides (is_take k x) (x ≡ Take k)
take_decided k x = grind (arith, common_steps)

-- ---- the stage before a mark

abbrev is_putting : ℕ → Stage ℕ → Bool
is_putting k (Putting j x) = j == k
is_putting k _ = false

putting_decided : (k : ℕ) (t : Stage ℕ) → Decides (is_putting k t) ((x : ℕ) × (t ≡ Putting k x))
putting_decided k t = grind (arith, common_steps, is_putting)

abbrev is_getting : ℕ → Stage ℕ → Bool
is_getting k (Getting j) = j == k
is_getting k _ = false

getting_decided : (k : ℕ) (t : Stage ℕ) → Decides (is_getting k t) (t ≡ Getting k)
getting_decided k t = grind (arith, common_steps, is_getting)

abbrev pub is_next : Stage ℕ → Kind ℕ → Bool
is_next t BackIn = 1 == place t
is_next t (Put x) = 2 == place t
is_next t (Fill k) = is_putting k t
is_next t EndIn = 4 == place t
is_next t BackOut = 5 == place t
is_next t (Got x) = 6 == place t
is_next t (Take k) = is_getting k t
is_next t EndOut = 8 == place t
is_next t _ = 0 == place t

next_decided : (t : Stage ℕ) (κ : Kind ℕ) → Decides (is_next t κ) (IsNext t κ)
next_decided t κ = grind (arith, common_steps, IsNext, place, at_over_in, at_claimed_in, putting_decided, at_filled, at_over_out, at_claimed_out, getting_decided, at_taken, at_idle)

-- ---- outcomes

abbrev is_full : ℕ → List (Mark ℕ) → Bool
is_full size h = ltb (size + count upper_drop h) (count upper_raise h + 1)

abbrev has_room : ℕ → List (Mark ℕ) → Bool
has_room size h = ltb (count upper_raise h) (size + count upper_drop h)

abbrev is_empty : List (Mark ℕ) → Bool
is_empty h = ltb (count lower_raise h) (count lower_drop h + 1)

abbrev has_item : List (Mark ℕ) → Bool
has_item h = ltb (count lower_drop h) (count lower_raise h)

abbrev pub is_fair : ℕ → List (Mark ℕ) → Kind ℕ → Bool
is_fair size h NoRoom = is_full size h && not (has is_close h)
is_fair size h OverIn = is_full size h && not (has is_close h)
is_fair size h ClaimIn = has_room size h && not (has is_close h)
is_fair size h Closed = has is_close h
is_fair size h LateIn = has is_close h
is_fair size h NoItem = is_empty h
is_fair size h OverOut = is_empty h
is_fair size h ClaimOut = has_item h
is_fair size h _ = true

shut_decided : (h : List (Mark ℕ)) → Decides (has is_close h) (Has Close h)
shut_decided h = has_decided is_close Close close_decided h

full_decided : (size : ℕ) (h : List (Mark ℕ)) → Decides (is_full size h && not (has is_close h)) (UpperAtLeast size h × (Has Close h → ⊥))
full_decided size h = Decides-and _ _ (le_decided (size + count upper_drop h) (count upper_raise h)) (Decides-not _ (shut_decided h))

empty_decided : (h : List (Mark ℕ)) → Decides (is_empty h) (LowerNotPositive h)
empty_decided h = le_decided (count lower_raise h) (count lower_drop h)

fair_decided : (size : ℕ) (h : List (Mark ℕ)) (κ : Kind ℕ) → Decides (is_fair size h κ) (IsFair size h κ)
fair_decided size h κ = grind (arith, common_steps, IsFair, full_decided, count, upper_raise, upper_drop, shut_decided, empty_decided, lower_drop, lower_raise)

-- ---- items and cells

abbrev is_item : ℕ → Option ℕ → Bool
is_item x (Some y) = y == x
is_item x None = false

item_decided : (x : ℕ) (o : Option ℕ) → Decides (is_item x o) (o ≡ Some x)
item_decided x o = grind (arith, common_steps, is_item)

abbrev pub is_oldest : List (Mark ℕ) → Kind ℕ → Bool
is_oldest h (Got x) = is_item x (item_of h (count gots h))
is_oldest h _ = true

oldest_decided : (h : List (Mark ℕ)) (κ : Kind ℕ) → Decides (is_oldest h κ) (IsOldest h κ)
oldest_decided h κ = grind (arith, common_steps, IsOldest, item_decided, item_of, count, gots)

abbrev pub has_cell : ℕ → List (Mark ℕ) → Kind ℕ → Bool
has_cell size h (Fill k) = ltb k size || has (is_take (k - size)) h
has_cell size h (Take k) = has (is_fill k) h
has_cell size h _ = true

cell_decided : (size : ℕ) (h : List (Mark ℕ)) (κ : Kind ℕ) → Decides (has_cell size h κ) (HasCell size h κ)
cell_decided size h (Fill k) = Decides-like _ forth back (Decides-or (ltb k size) (has (is_take (k - size)) h) (Decides-ltb k size) (has_decided (is_take (k - size)) (Take (k - size)) (take_decided (k - size)) h))
  where
    forth : (k < size) ⊎ Has (Take (k - size)) h → (j : ℕ) → k ≡ j + size → Has (Take j) h
    forth e j is = grind (arith, common_steps)

    back : ((j : ℕ) → k ≡ j + size → Has (Take j) h) → (k < size) ⊎ Has (Take (k - size)) h
    back each = elim (cases_lt k size) [ inl low ↦ inl low | inr high ↦ inr (each (k - size) (omega arith)) ]
cell_decided size h (Take k) = has_decided (is_fill k) (Fill k) (fill_decided k) h
cell_decided size h _ = (λ e. tt, λ u. refl)

-- ---- pasts and histories

abbrev pub may_follow : ℕ → List (Mark ℕ) → ℕ → Kind ℕ → Bool
may_follow size h s κ = is_next (stage h s) κ && (is_fair size h κ && (is_oldest h κ && has_cell size h κ))

may_decided : (size : ℕ) (h : List (Mark ℕ)) (s : ℕ) (κ : Kind ℕ) → Decides (may_follow size h s κ) (MayFollow size h s κ)
may_decided size h s κ = grind (arith, common_steps, next_decided, stage, fair_decided, oldest_decided, cell_decided)

abbrev pub is_legal_past : ℕ → List (Mark ℕ) → Bool
is_legal_past size [] = true
is_legal_past size (m ∷ h) = may_follow size h m.seat m.kind && is_legal_past size h

past_decided : (size : ℕ) (h : List (Mark ℕ)) → Decides (is_legal_past size h) (IsLegalPast size h)
past_decided size [] = (λ e. tt, λ u. refl)
past_decided size (m ∷ h) = Decides-and _ _ (may_decided size h m.seat m.kind) (past_decided size h)

pub queue_decided : (size : ℕ) (h : List (Mark ℕ)) → Decides (is_legal_past size (reverse h)) (IsQueueHistory size h)
queue_decided size h = Decides-like _ (to_literal size h) (to_past size h) (past_decided size (reverse h))
