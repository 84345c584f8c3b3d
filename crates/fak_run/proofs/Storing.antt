-- A changed entry of a copy is stored in the table: the Sets make the change that the rules give.
use Rattle.fak_run.proofs.Common.{◌≡◌, ℕ, zero, suc, ◌<◌, List, [], ◌∷◌, Some, slice_set, length, get_or, refl, ap, arith, Option, map, slice_get, IfSome, FileEntry, Inode, Uses, FileSeatInfo, IsSet, FileChange, free_entry, set_in, set_all, common_steps, Left, sets_at, sets_of}
use Rattle.fak_model.specs.File.{set_mark}
use Rattle.fak_run.proofs.Holding.{left_of, left_then}
use Rattle.fak_run.proofs.OnlyFiles.{OneChange}

-- an entry with both fields set is that entry
set_both : (entries : List FileEntry) (i : ℕ) (e : FileEntry) → set_in (set_in entries i Inode e.inode) i Uses e.uses ≡ slice_set entries i e
set_both [] i e = refl
set_both (x ∷ entries) zero e = refl
set_both (x ∷ entries) (suc i) e = ap (λ l. x ∷ l) (set_both entries i e)

found_below : (entries : List FileEntry) (i : ℕ) → i < length entries → slice_get entries i ≡ Some (get_or entries i free_entry)
found_below [] i low = absurd (omega (arith, low))
found_below (e ∷ entries) zero low = refl
found_below (e ∷ entries) (suc i) low = found_below entries i (omega (arith, low))

-- if one entry of a copy was changed, its Sets make the entries equal to the copy
stored : (xs ys : List FileEntry) (entry : Option ℕ) → IfSome entry (λ i. i < length ys) → OneChange xs entry ys → set_all xs (sets_of ys entry) ≡ ys
stored xs ys entry low one = grind (arith, common_steps, length, set_all, sets_of, get_or, free_entry, slice_get, found_below, sets_at, set_both)

-- so the entries that were read become those of the change
pub stores_change : (change_of : List FileEntry → FileChange) (read xs ys : List FileEntry) (entry : Option ℕ) → xs ≡ read → record { entry = entry; entries = ys } ≡ change_of xs
    → OneChange xs (change_of xs).entry (change_of xs).entries → IfSome entry (λ i. i < length ys) → change_of read ≡ record { entry = entry; entries = set_all read (sets_of ys entry) }
stores_change change_of read xs ys entry is changed one low = grind (arith, common_steps, set_all, sets_of, stored)

-- two calls set both fields
pub left_sets : (copy : List FileEntry) (i : ℕ) (e : FileEntry) (a b c : FileSeatInfo) → slice_get copy i ≡ Some e → IsSet i Inode e.inode a b → IsSet i Uses e.uses b c → Left (map set_mark (sets_of copy (Some i))) a.seat c.seat
left_sets copy i e a b c found s t = grind (arith, common_steps, map, set_mark, sets_at, left_then, left_of)
