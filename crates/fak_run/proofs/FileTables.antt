-- The place of an inode's entry in a file table.
use Rattle.fak_run.proofs.Common.{◌≡◌, ◌≢◌, ℕ, ◌+◌, ◌-◌, ◌<◌, ◌==◌, true, false, nat_lt, List, [], ◌∷◌, ◌++◌, length, refl, arith, All, All-head, All-tail, slice_get, slice_set, Some, None, nat_tests, FileEntry, used, free_entry, first_entry, open_change, close_change, lowered, uses_of}
use Rattle.std.specs.Prelude.{not}
use Rattle.std.specs.List.{prefix_len}
use Rattle.std.proofs.lemmas.List.{length-append, set_at}
use Rattle.fak_run.specs.Examples.{changed}

-- an entry of another inode
abbrev pub IsOther : ℕ → FileEntry → Type 0
IsOther inode e = e.inode ≢ inode

abbrev pub AreOthers : ℕ → List FileEntry → Type 0
AreOthers inode entries = All (IsOther inode) entries

same : (a b : ℕ) → a ≡ b → (a == b) ≡ true
same a b is = grind (arith, nat_tests)

other : (a b : ℕ) → a ≢ b → (a == b) ≡ false
other a b differs = grind (arith, nat_tests)

below : (a b : ℕ) → a < b → nat_lt a b ≡ true
below a b less = grind (arith, nat_tests)

not_below : (a : ℕ) → nat_lt a a ≡ false
not_below a = grind (arith, nat_tests)

passed : (inode : ℕ) (before after : List FileEntry) (e : FileEntry) → AreOthers inode before → e.inode ≡ inode
    → prefix_len (λ (x : FileEntry). not (x.inode == inode)) (before ++ e ∷ after) ≡ length before
passed inode [] after e others its = let t = same e.inode inode its in rw t refl
passed inode (b ∷ before) after e others its =
    let t = other b.inode inode (All-head (IsOther inode) b before others) in
    let rest = passed inode before after e (All-tail (IsOther inode) b before others) its in
    rw t (omega (arith, rest))

passed_all : (inode : ℕ) (entries : List FileEntry) → AreOthers inode entries → prefix_len (λ (x : FileEntry). not (x.inode == inode)) entries ≡ length entries
passed_all inode [] others = refl
passed_all inode (e ∷ entries) others =
    let t = other e.inode inode (All-head (IsOther inode) e entries others) in
    let rest = passed_all inode entries (All-tail (IsOther inode) e entries others) in
    rw t (omega (arith, rest))

-- the entry is the first one of its inode
found : (inode : ℕ) (before after : List FileEntry) (e : FileEntry) → AreOthers inode before → e.inode ≡ inode → first_entry (before ++ e ∷ after) inode ≡ Some (length before)
found inode before after e others its =
    let p = passed inode before after e others its in
    let b = below (length before) (length (before ++ e ∷ after)) (omega (arith, length-append before (e ∷ after))) in
    rw (p, b) refl

not_found : (inode : ℕ) (entries : List FileEntry) → AreOthers inode entries → first_entry entries inode ≡ None
not_found inode entries others =
    let p = passed_all inode entries others in
    let b = not_below (length entries) in
    rw (p, b) refl

got : (before after : List FileEntry) (e : FileEntry) → slice_get (before ++ e ∷ after) (length before) ≡ Some e
got [] after e = refl
got (b ∷ before) after e = got before after e

put : (before after : List FileEntry) (e new : FileEntry) → slice_set (before ++ e ∷ after) (length before) new ≡ before ++ new ∷ after
put before after e new = set_at before e after new (length before) refl

-- ---- opens

pub opens : (before after : List FileEntry) (inode uses : ℕ) → AreOthers inode before → uses < 4294967295
    → open_change (before ++ used inode uses ∷ after) inode ≡ changed (Some (length before)) (before ++ used inode (uses + 1) ∷ after)
opens before after inode uses others few =
    let f = found inode before after (used inode uses) others refl in
    let g = got before after (used inode uses) in
    let b = below uses 4294967295 few in
    let p = put before after (used inode uses) (used inode (uses + 1)) in
    rw (f, g, b, p) refl

pub opens_no_more : (before after : List FileEntry) (inode : ℕ) → AreOthers inode before
    → open_change (before ++ used inode 4294967295 ∷ after) inode ≡ changed None (before ++ used inode 4294967295 ∷ after)
opens_no_more before after inode others =
    let f = found inode before after (used inode 4294967295) others refl in
    let g = got before after (used inode 4294967295) in
    rw (f, g) refl

pub takes : (before after : List FileEntry) (inode : ℕ) → AreOthers inode (before ++ free_entry ∷ after) → AreOthers 0 before
    → open_change (before ++ free_entry ∷ after) inode ≡ changed (Some (length before)) (before ++ used inode 1 ∷ after)
takes before after inode others in_use =
    let n = not_found inode (before ++ free_entry ∷ after) others in
    let f = found 0 before after free_entry in_use refl in
    let p = put before after free_entry (used inode 1) in
    rw (n, f, p) refl

pub opens_none : (entries : List FileEntry) (inode : ℕ) → AreOthers inode entries → AreOthers 0 entries → open_change entries inode ≡ changed None entries
opens_none entries inode others in_use =
    let n = not_found inode entries others in
    let f = not_found 0 entries in_use in
    rw (n, f) refl

-- ---- closes

lowered_is : (inode uses : ℕ) → lowered (used inode (uses + 2)) ≡ used inode (uses + 1)
lowered_is inode uses =
    let less : (uses + 2) - 1 ≡ uses + 1 = omega arith in
    let some : ((uses + 1) == 0) ≡ false = grind (arith, nat_tests) in
    rw (less, some) refl

pub closes : (before after : List FileEntry) (inode uses : ℕ) → AreOthers inode before
    → close_change (before ++ used inode (uses + 2) ∷ after) inode ≡ changed (Some (length before)) (before ++ used inode (uses + 1) ∷ after)
closes before after inode uses others =
    let f = found inode before after (used inode (uses + 2)) others refl in
    let g = got before after (used inode (uses + 2)) in
    let l = lowered_is inode uses in
    let p = put before after (used inode (uses + 2)) (used inode (uses + 1)) in
    rw (f, g, l, p) refl

pub frees : (before after : List FileEntry) (inode : ℕ) → AreOthers inode before
    → close_change (before ++ used inode 1 ∷ after) inode ≡ changed (Some (length before)) (before ++ free_entry ∷ after)
frees before after inode others =
    let f = found inode before after (used inode 1) others refl in
    let g = got before after (used inode 1) in
    let p = put before after (used inode 1) free_entry in
    rw (f, g, p) refl

pub closes_none : (entries : List FileEntry) (inode : ℕ) → AreOthers inode entries → close_change entries inode ≡ changed None entries
closes_none entries inode others = let n = not_found inode entries others in rw n refl

-- ---- stats

pub finds : (before after : List FileEntry) (inode uses : ℕ) → AreOthers inode before → uses_of (before ++ used inode uses ∷ after) inode ≡ Some uses
finds [] after inode uses others = let t = same inode inode refl in rw t refl
finds (b ∷ before) after inode uses others =
    let t = other b.inode inode (All-head (IsOther inode) b before others) in
    let rest = finds before after inode uses (All-tail (IsOther inode) b before others) in
    rw t rest

pub finds_none : (entries : List FileEntry) (inode : ℕ) → AreOthers inode entries → uses_of entries inode ≡ None
finds_none [] inode others = refl
finds_none (e ∷ entries) inode others =
    let t = other e.inode inode (All-head (IsOther inode) e entries others) in
    let rest = finds_none entries inode (All-tail (IsOther inode) e entries others) in
    rw t rest
