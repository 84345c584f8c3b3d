-- What the words of a closed file table show.
use Rattle.fak_model.proofs.RunningViews.{sees_whole}
use Rattle.fak_files.proofs.Common.{FileLimits, word_of, entry_of, entries_after, entry_in, ◌≡◌, ◌≢◌, inl, inr, slice_set, ℕ, zero, suc, ◌+◌, ◌<◌, List, [], ◌∷◌, length, take, slice_get, slice_index, Some, None, refl, ap, sym, ◌∙◌, subst, arith, reverse, some, some-injective, some-ne-none, get_elem?, file_rules, IsWhole, State, Inode, Uses, FileMark, same_or_not, FileView, IsShownFile, FileHolder, common_steps, FileEntry}

-- if all seats were joined, the words show what the tally has seen
pub ends : (table : FileLimits) (s : State (Unit {0}) FileView) (id : ℕ) (m : FileHolder) → IsShownFile table s → get_elem? s.views id ≡ some m.0 → IsWhole table.seats m.0.names → (words : List ℕ) → s.words ≡ words
    → (entry : ℕ) → entry < table.entries → entry_in words entry ≡ entry_of (reverse m.0.seen) entry
ends table s id m r at whole words is entry low =
    let all : r.core ≡ m.0.seen = sees_whole (file_rules table.seats) table.seats m.0.names m.0.seen r.core whole r.named (r.sees id m.0 at) in
    subst (λ (x : List ℕ × List FileMark). entry_in x.0 entry ≡ entry_of (reverse x.1) entry) (λ i. (is i, all i)) (λ i. record { inode = r.encoded.fields entry Inode low i; uses = r.encoded.fields entry Uses low i })

-- the first entries of a row
pub entries_taken : (h : List FileMark) (row : List FileEntry) (first n : ℕ) → ((i : ℕ) → i < n → slice_get row i ≡ Some (entry_of h (first + i))) → take n row ≡ entries_after h first n
entries_taken h row first zero each = refl
entries_taken h [] first (suc n) each = absurd (nothing (each 0 (omega arith)))
  where
    nothing : None ≡ Some (entry_of h (first + 0)) → ⊥
    nothing e = cc
entries_taken h (x ∷ row) first (suc n) each =
    let plus : first + 0 ≡ first = omega arith in
    let one : x ≡ entry_of h (first + 0) = cc (each 0 (omega arith)) in
    let rest = entries_taken h row (suc first) n (λ i low. each (suc i) (omega (arith, low)) ∙ (let next : first + suc i ≡ suc first + i = omega arith in ap (λ k. Some (entry_of h k)) next)) in
    λ i. (one ∙ ap (entry_of h) plus) i ∷ rest i

-- a word of a row, as it is read
pub word_read : (words : List ℕ) (i w : ℕ) → get_elem? words i ≡ some w → slice_index words i ≡ w
word_read [] i w e = absurd (some-ne-none w (sym e))
word_read (x ∷ words) zero w e = some-injective x w e
word_read (x ∷ words) (suc i) w e = word_read words i w e

-- the entry that was read is added to those before it
pub read_more : (row : List FileEntry) (i : ℕ) (e : FileEntry) (F : ℕ → FileEntry) → i < length row → e ≡ F i → ((j : ℕ) → j < i → slice_get row j ≡ Some (F j)) → (j : ℕ) → j < i + 1 → slice_get (slice_set row i e) j ≡ Some (F j)
read_more row i e F within is each j low = elim (same_or_not j i) [
  | inl same ↦ subst (λ (k : ℕ). slice_get (slice_set row i e) k ≡ Some (F k)) (sym same) (written_here row i e within ∙ ap Some is)
  | inr other ↦ written_elsewhere row i j e other ∙ each j (omega (arith, low, other))
]
  where
    written_here : (row : List FileEntry) (i : ℕ) (e : FileEntry) → i < length row → slice_get (slice_set row i e) i ≡ Some e
    written_here [] i e within = absurd (omega (arith, within))
    written_here (x ∷ row) zero e within = refl
    written_here (x ∷ row) (suc i) e within = written_here row i e (omega (arith, within))

    written_elsewhere : (row : List FileEntry) (i j : ℕ) (e : FileEntry) → j ≢ i → slice_get (slice_set row i e) j ≡ slice_get row j
    written_elsewhere [] i j e ne = refl
    written_elsewhere (x ∷ row) zero zero e ne = absurd (ne refl)
    written_elsewhere (x ∷ row) zero (suc j) e ne = refl
    written_elsewhere (x ∷ row) (suc i) zero e ne = refl
    written_elsewhere (x ∷ row) (suc i) (suc j) e ne = written_elsewhere row i j e (λ q. ne (ap suc q))

-- an entry, after its two words were read
pub entry_read : (words : List ℕ) (entry i j inode uses : ℕ) → i ≡ word_of entry Inode → j ≡ word_of entry Uses → get_elem? words i ≡ some inode → get_elem? words j ≡ some uses → ◌≡◌ {A = FileEntry} (record { inode = inode; uses = uses }) (entry_in words entry)
entry_read words entry i j inode uses ei ej one two = grind (arith, common_steps, word_read, slice_index)

-- the entries that were read out of a table's last words
pub closed_entries : (table : FileLimits) (s : State (Unit {0}) FileView) (id : ℕ) (m : FileHolder) → IsShownFile table s → get_elem? s.views id ≡ some m.0 → IsWhole table.seats m.0.names → (words : List ℕ) → s.words ≡ words
    → (count : ℕ) → table.entries ≡ count → (row : List FileEntry) → ((i : ℕ) → i < count → slice_get row i ≡ Some (entry_in words i)) → take count row ≡ entries_after (reverse m.0.seen) 0 count
closed_entries table s id m r at whole words is count same row each =
    entries_taken (reverse m.0.seen) row 0 count (λ i low.
    let plus : i ≡ 0 + i = omega arith in
    each i low ∙ ap Some (ends table s id m r at whole words is i (omega (arith, low, same)) ∙ ap (entry_of (reverse m.0.seen)) plus))

-- the entries of a closed table, by number
entry_after : (h : List FileMark) (first n i j : ℕ) → i < n → j ≡ first + i → slice_get (entries_after h first n) i ≡ Some (entry_of h j)
entry_after h first zero i j low at = absurd (omega (arith, low))
entry_after h first (suc n) zero j low at = let same : first ≡ j = omega arith in ap (λ (k : ℕ). Some (entry_of h k)) same
entry_after h first (suc n) (suc i) j low at = entry_after h (suc first) n i j (omega (arith, low)) (omega arith)

pub entries_after-get : (h : List FileMark) (n i : ℕ) → i < n → slice_get (entries_after h 0 n) i ≡ Some (entry_of h i)
entries_after-get h n i low = entry_after h 0 n i i low (omega arith)
