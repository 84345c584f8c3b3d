-- The words of a file table after a step.
use Rattle.fak_model.specs.File.{count, same_field, field_after, field_from, field}
use Rattle.fak_files.proofs.Common.{FileLimits, ShowsHistory, mark, ◌≡◌, ◌≢◌, ℕ, ◌+◌, ◌-◌, ◌%◌, ◌^◌, ◌<◌, ◌≤◌, ◌==◌, Bool, false, cond, List, [], ◌∷◌, ◌++◌, refl, sym, subst, arith, set, get_or, length, mod-eq_of_lt, ℤ, pos, ◌+ℤ◌, ◌-ℤ◌, ◌&&◌, nat_tests, ints, bias, get_or-set_same, get_or-set_other, length-set, set-get_or, FileField, Set, FileMark, same_or_not, count_place, width, word_of, common_steps, add-mod_left}

-- ---- numbers

pub sub_word : (w a k taken : ℕ) (u : ℤ) → pos w ≡ pos bias +ℤ u → u +ℤ pos taken ≡ pos k → taken ≤ 2000000 → k ≤ 1024 → a ≤ 1024 → pos ((w + (2 ^ 64 - a)) % 2 ^ 64) ≡ pos bias +ℤ (u -ℤ pos a)
sub_word w a k taken u e range low few small = grind (arith, common_steps, add-mod_left, mod-eq_of_lt)

pub add_word : (w a k taken : ℕ) (u : ℤ) → pos w ≡ pos bias +ℤ u → u +ℤ pos taken ≡ pos k → taken ≤ 2000000 → k ≤ 1024 → a ≤ 1024 → pos ((w + a) % 2 ^ 64) ≡ pos bias +ℤ (u +ℤ pos a)
add_word w a k taken u e range low few small = grind (arith, common_steps, mod-eq_of_lt)

pub near_word : (w k taken : ℕ) (u : ℤ) → pos w ≡ pos bias +ℤ u → u +ℤ pos taken ≡ pos k → k ≤ 1024 → w < 2 ^ 63
near_word w k taken u e range few = omega (arith, ints, e, range)

-- ---- fields

pub field_from-push : (i : ℕ) (f : FileField) (v : ℕ) (h : List FileMark) (m : FileMark) → field_from i f v (h ++ m ∷ []) ≡ field_after i f (field_from i f v h) m.kind
field_from-push i f v [] m = refl
field_from-push i f v (x ∷ h) m = field_from-push i f (field_after i f v x.kind) h m

pub field-push : (h : List FileMark) (m : FileMark) (i : ℕ) (f : FileField) → field (h ++ m ∷ []) i f ≡ field_after i f (field h i f) m.kind
field-push h m i f = field_from-push i f 0 h m

-- a field that is set, and one that is not
field_here : (i : ℕ) (f : FileField) (old new : ℕ) → cond ((i == i) && same_field f f) new old ≡ new
field_here i f old new = grind (arith, common_steps, same_field, nat_tests)

no_field : (b : Bool) (old new : ℕ) → cond (b && false) new old ≡ old
no_field b old new = grind (arith, common_steps)

-- ---- words

pub word_of-low : (i entries : ℕ) (f : FileField) → i < entries → word_of i f < width entries
word_of-low i entries f low = grind (arith, common_steps, word_of, width)

module _ (table : FileLimits) (h : List FileMark) (words : List ℕ) (shows : ShowsHistory table h words) where
  -- a load leaves the words as they are
  pub words_same : (place : ℕ) → ShowsHistory table h (set words place (get_or words place 0))
  words_same place = subst (ShowsHistory table h) (sym (set-get_or words place 0)) shows

  -- a step on the count, which sets no field
  pub counts_next : (m : FileMark) (w : ℕ) → ((i : ℕ) (f : FileField) (v : ℕ) → field_after i f v m.kind ≡ v) → pos w ≡ pos bias +ℤ count table.seats (h ++ m ∷ []) → ShowsHistory table (h ++ m ∷ []) (set words count_place w)
  counts_next m w none is = grind (arith, common_steps, length-set, count_place, get_or-set_same, get_or-set_other, word_of, field-push, field)

  within : (i : ℕ) (f : FileField) → i < table.entries → word_of i f < length words
  within i f low = omega (arith, word_of-low i table.entries f low, shows.wide)

  apart : (i j : ℕ) (f g : FileField) → j ≢ i → word_of j g ≢ word_of i f
  apart i j f g ne e = grind (arith, common_steps, word_of)

  -- the fields of one entry after one of them is set
  one_entry : (i v : ℕ) (f g : FileField) → i < table.entries → get_or (set words (word_of i f) v) (word_of i g) 0 ≡ cond ((i == i) && same_field g f) v (field h i g)
  one_entry i v f g low = grind (arith, common_steps, get_or, set, word_of, same_field, field, get_or-set_same, within, field_here, get_or-set_other, no_field)

  -- the fields of all entries after one field is set
  each_entry : (i v : ℕ) (f : FileField) → i < table.entries → (j : ℕ) (g : FileField) → j < table.entries → get_or (set words (word_of i f) v) (word_of j g) 0 ≡ cond ((j == i) && same_field g f) v (field h j g)
  each_entry i v f low j g near = grind (arith, common_steps, same_or_not, get_or, set, word_of, cond, same_field, field, one_entry, get_or-set_other, apart)

  -- the words after a field is set
  pub fields_next : (name i : ℕ) (f : FileField) (v : ℕ) → i < table.entries → count table.seats (h ++ mark name (Set i f v) ∷ []) ≡ count table.seats h → ShowsHistory table (h ++ mark name (Set i f v) ∷ []) (set words (word_of i f) v)
  fields_next name i f v low same = grind (arith, common_steps, length-set, word_of, get_or-set_other, count_place, bias, each_entry, field-push, mark)
