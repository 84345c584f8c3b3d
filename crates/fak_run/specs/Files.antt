-- The rules of a file table: what an open, a close and a stat of an inode find, and what they change.
use Rattle.std.specs.Prelude.{ℕ, ◌+◌, ◌-◌, ◌==◌, if◌then◌else◌, Bool, true, false, nat_lt, List, slice_get, slice_set, find, option_map, Option, Some, None}
use Rattle.std.specs.List.{position}
use Rattle.fak_model.specs.declared.file.FileEntry.{FileEntry}

-- the result of a step: the number of the entry that it names, if any, and the entries after it
pub record FileChange : Type 0 where
  pub entry : Option ℕ
  pub entries : List FileEntry

-- the largest number of uses of an entry
abbrev pub most_uses : ℕ
most_uses = 4294967295

-- a free entry
abbrev pub free_entry : FileEntry
free_entry = record { inode = 0; uses = 0 }

-- the number of the first entry with this inode; with 0, of the first free one
abbrev pub first_entry : List FileEntry → ℕ → Option ℕ
first_entry entries inode = position (λ e. e.inode == inode) entries

-- nothing is changed, and no entry is named
abbrev pub no_change : List FileEntry → FileChange
no_change entries = record { entry = None; entries = entries }

-- entry i becomes e, and is named
abbrev pub change_at : List FileEntry → ℕ → FileEntry → FileChange
change_at entries i e = record { entry = Some i; entries = slice_set entries i e }

-- one more use of entry i, unless it has the most uses
abbrev pub raise_by : List FileEntry → ℕ → FileEntry → Bool → FileChange
raise_by entries i e true = change_at entries i (record { inode = e.inode; uses = e.uses + 1 })
raise_by entries i e false = no_change entries

-- one more use of the entry that was found at i
abbrev pub raise : List FileEntry → ℕ → Option FileEntry → FileChange
raise entries i None = no_change entries
raise entries i (Some e) = raise_by entries i e (nat_lt e.uses most_uses)

-- an open, by the number of the inode's entry and of the first free one, if there are such
abbrev pub open_by : List FileEntry → ℕ → Option ℕ → Option ℕ → FileChange
open_by entries inode (Some i) free = raise entries i (slice_get entries i)
open_by entries inode None (Some i) = change_at entries i (record { inode = inode; uses = 1 })
open_by entries inode None None = no_change entries

-- open: the first entry with the inode gets one more use; if there is none, the first free entry gets the inode and 1
-- use
abbrev pub open_change : List FileEntry → ℕ → FileChange
open_change entries inode = open_by entries inode (first_entry entries inode) (first_entry entries 0)

-- an entry with one use less; with 0 uses it is free
abbrev pub lowered : FileEntry → FileEntry
lowered e = record { inode = (if (e.uses - 1) == 0 then 0 else e.inode); uses = e.uses - 1 }

-- one use less for the entry that was found at i
abbrev pub lower : List FileEntry → ℕ → Option FileEntry → FileChange
lower entries i None = no_change entries
lower entries i (Some e) = change_at entries i (lowered e)

-- a close, by the entry of the inode, if there is one
abbrev pub close_by : List FileEntry → Option ℕ → FileChange
close_by entries None = no_change entries
close_by entries (Some i) = lower entries i (slice_get entries i)

-- close: the first entry with the inode loses one use
abbrev pub close_change : List FileEntry → ℕ → FileChange
close_change entries inode = close_by entries (first_entry entries inode)

-- stat: the uses of the first entry with the inode
abbrev pub uses_of : List FileEntry → ℕ → Option ℕ
uses_of entries inode = option_map (λ e. e.uses) (find (λ e. e.inode == inode) entries)
