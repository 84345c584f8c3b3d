-- What calls do to a file table with one seat.
use Rattle.fak_run.proofs.Common.{◌≡◌, ◌≢◌, ◌⊎◌, ℕ, zero, suc, ◌+◌, ◌<◌, ◌==◌, ◌&&◌, Bool, true, cond, List, [], ◌∷◌, ◌++◌, Some, slice_set, length, refl, ap, sym, ◌∙◌, subst, arith, All, map, reverse, slice_get, slice_index_or, nat_lt, Option, MatchOption, flat_map, nat_tests, All-head, All-tail, SeatInfo, FileEntry, FileField, Inode, Uses, FileKind, Take, Set, Give, FileMark, FileSeatInfo, entries_after, LeavesMarks, AreRefused, IsWaitedFor, IsGot, IsSet, IsEnded, FileChange, most_uses, open_change, open_by, raise, raise_by, close_change, close_by, lower, lowered, first_entry, common_steps, Access, mark, entry_of, is_take_of, back_from_take, own_since_take, prefix_through_take, marks_since_take}
use Rattle.std.proofs.lemmas.List.{append-nil, reverse-append, reverse-reverse}
use Rattle.fak_model.specs.File.{WholeCall, Refused, Withdrawn, kinds_of_call, same_field, field_after, field_from, field}
use Rattle.fak_model.proofs.Reversing.{All-reverse}
use Rattle.fak_run.specs.OnlyFiles.{IsOnlyFiles, entries_now, KeepsFiles, PutsEntry, StoresEntry, ChangesFiles}
use Rattle.fak_run.proofs.Only.{only_seen, only_still}

-- ---- fields

field_from-more : (i : ℕ) (f : FileField) (v : ℕ) (h l : List FileMark) → field_from i f v (h ++ l) ≡ field_from i f (field_from i f v h) l
field_from-more i f v [] l = refl
field_from-more i f v (m ∷ h) l = field_from-more i f (field_after i f v m.kind) h l

-- these marks set nothing
abbrev SetNothing : List FileMark → Type 0
SetNothing l = (i : ℕ) (f : FileField) (v : ℕ) → field_from i f v l ≡ v

field_same : (h l : List FileMark) → SetNothing l → (i : ℕ) (f : FileField) → field (h ++ l) i f ≡ field h i f
field_same h l none i f = field_from-more i f 0 h l ∙ none i f (field h i f)

entry_same : (h l : List FileMark) → SetNothing l → (i : ℕ) → entry_of (h ++ l) i ≡ entry_of h i
entry_same h l none i = grind (arith, common_steps, field_same)

entries_same : (h l : List FileMark) → SetNothing l → (from count : ℕ) → entries_after (h ++ l) from count ≡ entries_after h from count
entries_same h l none from zero = refl
entries_same h l none from (suc n) = ap (λ (e : FileEntry). e ∷ entries_after (h ++ l) (suc from) n) (entry_same h l none from) ∙ ap (λ (es : List FileEntry). entry_of h from ∷ es) (entries_same h l none (suc from) n)

-- only entry i has changed
entries_put : (h g : List FileMark) (e : FileEntry) (from place count : ℕ) → entry_of g (from + place) ≡ e → ((j : ℕ) → j ≢ from + place → entry_of g j ≡ entry_of h j)
    → entries_after g from count ≡ slice_set (entries_after h from count) place e
entries_put h g e from place zero is others = refl
entries_put h g e from zero (suc n) is others =
    let here : from ≡ from + 0 = omega arith in
    ap (λ (x : FileEntry). x ∷ entries_after g (suc from) n) (ap (entry_of g) here ∙ is) ∙ ap (λ (es : List FileEntry). e ∷ es) (rest n (suc from) (omega arith))
  where
    rest : (m a : ℕ) → from < a → entries_after g a m ≡ entries_after h a m
    rest zero a low = refl
    rest (suc m) a low = ap (λ (x : FileEntry). x ∷ entries_after g (suc a) m) (others a (λ e. omega (arith, e, low))) ∙ ap (λ (es : List FileEntry). entry_of h a ∷ es) (rest m (suc a) (omega (arith, low)))
entries_put h g e from (suc place) (suc n) is others =
    let on : suc from + place ≡ from + suc place = omega arith in
    ap (λ (x : FileEntry). x ∷ entries_after g (suc from) n) (others from (λ e. omega (arith, e)))
    ∙ ap (λ (es : List FileEntry). entry_of h from ∷ es) (entries_put h g e (suc from) place n (ap (entry_of g) on ∙ is) (λ j d. others j (λ e. d (e ∙ sym on))))

-- ---- marks that set nothing

nothing_then : (k l : List FileMark) → SetNothing k → SetNothing l → SetNothing (k ++ l)
nothing_then k l a b i f v = field_from-more i f v k l ∙ (ap (λ (w : ℕ). field_from i f w l) (a i f v) ∙ b i f v)

map_mark-append : (name : ℕ) (ks ls : List FileKind) → map (mark name) (ks ++ ls) ≡ map (mark name) ks ++ map (mark name) ls
map_mark-append name ks ls = Rattle.std.proofs.lemmas.List.map-append (mark name) ks ls

call_nothing : (name n : ℕ) (call : WholeCall) → (call ≡ Refused n) ⊎ (call ≡ Withdrawn n) → SetNothing (map (mark name) (kinds_of_call call))
call_nothing name n call v = grind (arith, common_steps, map, mark, kinds_of_call)

tries_nothing : (name n : ℕ) (calls : List WholeCall) → AreRefused n calls → SetNothing (map (mark name) (flat_map kinds_of_call calls))
tries_nothing name n [] all = λ i f v. refl
tries_nothing name n (call ∷ calls) all =
    let P : WholeCall → Type 0 = λ (c : WholeCall). (c ≡ Refused n) ⊎ (c ≡ Withdrawn n) in
    subst SetNothing (sym (map_mark-append name (kinds_of_call call) (flat_map kinds_of_call calls)))
    (nothing_then (map (mark name) (kinds_of_call call)) (map (mark name) (flat_map kinds_of_call calls)) (call_nothing name n call (All-head P call calls all)) (tries_nothing name n calls (All-tail P call calls all)))

-- ---- what the only seat has read

own_all : (past : List FileMark) → All (λ (m : FileMark). m.seat < 1) past → own_since_take 0 past ++ back_from_take 0 past ≡ past
own_all [] named = refl
own_all (m ∷ past) named = by (own_all past (All-tail (λ (w : FileMark). w.seat < 1) m past named)) (is_take_of 0 m) refl
  where
    low : m.seat < 1
    low = All-head (λ (w : FileMark). w.seat < 1) m past named

    his : (m.seat == 0) ≡ true
    his = let l = low in grind (arith, nat_tests)

    by : own_since_take 0 past ++ back_from_take 0 past ≡ past → (b : Bool) → is_take_of 0 m ≡ b → own_since_take 0 (m ∷ past) ++ back_from_take 0 (m ∷ past) ≡ m ∷ past
    by before f is = grind (arith, common_steps, own_since_take, back_from_take, is_take_of, his)

reads_all : (h : List FileMark) → All (λ (m : FileMark). m.seat < 1) h → prefix_through_take 0 h ++ marks_since_take 0 h ≡ h
reads_all h named =
    sym (reverse-append (own_since_take 0 (reverse h)) (back_from_take 0 (reverse h)))
    ∙ (ap reverse (own_all (reverse h) (All-reverse (λ (m : FileMark). m.seat < 1) h named)) ∙ reverse-reverse h)

-- ---- calls

module _ (kinds : List FileKind) {old new : FileSeatInfo} (o : IsOnlyFiles old) (a : LeavesMarks kinds old.seat new.seat) where
  pub keeps_files : SetNothing (map (mark old.seat.name) kinds) → KeepsFiles old new
  keeps_files none = record {
    only = only_still o a;
    each = λ i. ap (λ (h : List FileMark). entry_of h i) (only_seen o a) ∙ entry_same old.seat.seen (map (mark old.seat.name) kinds) none i;
    entries = λ count. ap (λ (h : List FileMark). entries_after h 0 count) (only_seen o a) ∙ entries_same old.seat.seen (map (mark old.seat.name) kinds) none 0 count;
  }

pub waited_for : {access : Access} {old new : FileSeatInfo} → IsOnlyFiles old → IsWaitedFor access old new → KeepsFiles old new
waited_for {access} {old} {new} o w =
    let n = Rattle.fak_files.specs.Calls.amount_for access old.seat in
    keeps_files (flat_map kinds_of_call w.tries ++ Take n ∷ []) o w.leaves (subst SetNothing (sym (map_mark-append old.seat.name (flat_map kinds_of_call w.tries) (Take (Rattle.fak_files.specs.Calls.amount_for access old.seat) ∷ [])))
    (nothing_then (map (mark old.seat.name) (flat_map kinds_of_call w.tries)) (map (mark old.seat.name) (Take n ∷ [])) (tries_nothing old.seat.name (Rattle.fak_files.specs.Calls.amount_for access old.seat) w.tries w.refused) (λ i f v. refl)))

pub ended : {old new : FileSeatInfo} → IsOnlyFiles old → IsEnded old new → KeepsFiles old new
ended o e = keeps_files (Give ∷ []) o e.leaves (λ i f v. refl)

pub got : {i : ℕ} {old new : FileSeatInfo} {answer : FileEntry} → IsOnlyFiles old → IsGot i old new answer → KeepsFiles old new × (answer ≡ entry_of old.seat.seen i)
got {i} {old} {new} {answer} o g =
    let kept = keeps_files [] o g.leaves (λ i f v. refl) in
    let seen : new.seat.seen ≡ old.seat.seen = only_seen o g.leaves ∙ append-nil old.seat.seen in
    let all : prefix_through_take old.seat.name new.seat.seen ++ marks_since_take old.seat.name new.seat.seen ≡ new.seat.seen =
    ap (λ (n : ℕ). prefix_through_take n new.seat.seen ++ marks_since_take n new.seat.seen) o.name ∙ reads_all new.seat.seen kept.only.named in
    (kept, g.holding ∙ ap (λ (h : List FileMark). entry_of h i) (all ∙ seen))

-- both fields of an entry are set
set_here : (i v : ℕ) (f : FileField) (old : ℕ) → cond ((i == i) && same_field f f) v old ≡ v
set_here i v f old = grind (arith, common_steps, same_field, nat_tests)

entry_here : (h : List FileMark) (name i : ℕ) (e : FileEntry) → entry_of (h ++ mark name (Set i Inode e.inode) ∷ mark name (Set i Uses e.uses) ∷ []) i ≡ e
entry_here h name i e = grind (arith, common_steps, nat_tests, mark, field, field_from-more)

entry_there : (h : List FileMark) (name i : ℕ) (e : FileEntry) (j : ℕ) → j ≢ i → entry_of (h ++ mark name (Set i Inode e.inode) ∷ mark name (Set i Uses e.uses) ∷ []) j ≡ entry_of h j
entry_there h name i e j other = grind (arith, common_steps, nat_tests, mark, field, field_from-more)

pub sets_entry : {i : ℕ} {e : FileEntry} {old mid new : FileSeatInfo} → IsOnlyFiles old → IsSet i Inode e.inode old mid → IsSet i Uses e.uses mid new → PutsEntry i e old new
sets_entry {i} {e} {old} {mid} {new} o a b =
    let m = only_still o a.leaves in
    let name : mid.seat.name ≡ old.seat.name = ap (λ (s : SeatInfo FileMark). s.name) a.leaves.same_seat in
    let l = mark old.seat.name (Set i Inode e.inode) ∷ mark old.seat.name (Set i Uses e.uses) ∷ [] in
    let seen : new.seat.seen ≡ old.seat.seen ++ l =
    only_seen m b.leaves ∙ (ap (λ (h : List FileMark). h ++ mark mid.seat.name (Set i Uses e.uses) ∷ []) (only_seen o a.leaves)
    ∙ (Rattle.std.proofs.Common.append_assoc old.seat.seen (mark old.seat.name (Set i Inode e.inode) ∷ []) (mark mid.seat.name (Set i Uses e.uses) ∷ [])
    ∙ ap (λ (n : ℕ). old.seat.seen ++ mark old.seat.name (Set i Inode e.inode) ∷ mark n (Set i Uses e.uses) ∷ []) name)) in
    let zero_on : i ≡ 0 + i = omega arith in
    record {
      only = only_still m b.leaves;
      entries = λ count. ap (λ (h : List FileMark). entries_after h 0 count) seen
          ∙ entries_put old.seat.seen (old.seat.seen ++ l) e 0 i count (ap (entry_of (old.seat.seen ++ l)) (sym zero_on) ∙ entry_here old.seat.seen old.seat.name i e) (λ j d. entry_there old.seat.seen old.seat.name i e j (λ q. d (q ∙ zero_on)));
    }

pub keeps_files_then : {old mid new : FileSeatInfo} → KeepsFiles old mid → KeepsFiles mid new → KeepsFiles old new
keeps_files_then a b = record { only = b.only; each = λ i. b.each i ∙ a.each i; entries = λ count. b.entries count ∙ a.entries count }

pub keeps_files_all : {seat : FileSeatInfo} → IsOnlyFiles seat → KeepsFiles seat seat
keeps_files_all o = record { only = o; each = λ i. refl; entries = λ count. refl }

-- entries that were read one by one
pub all_read : (h : List FileMark) (xs : List FileEntry) (from count : ℕ) → length xs ≡ count → ((j : ℕ) → j < count → slice_get xs j ≡ Some (entry_of h (from + j))) → xs ≡ entries_after h from count
all_read h [] from zero len each = refl
all_read h [] from (suc n) len each = absurd (omega (arith, len))
all_read h (x ∷ xs) from zero len each = absurd (omega (arith, len))
all_read h (x ∷ xs) from (suc n) len each =
    let first : Some x ≡ Some (entry_of h (from + 0)) = each 0 (omega arith) in
    let here : from + 0 ≡ from = omega arith in
    let is : x ≡ entry_of h (from + 0) = cc in
    ap (λ (y : FileEntry). y ∷ xs) (is ∙ ap (entry_of h) here)
    ∙ ap (λ (l : List FileEntry). entry_of h from ∷ l) (all_read h xs (suc from) n (omega (arith, len)) (λ j low. let on : from + suc j ≡ suc from + j = omega arith in each (suc j) (omega (arith, low)) ∙ ap (λ (k : ℕ). Some (entry_of h k)) on))

-- ---- a change of one entry

-- no entry is changed, or only this one
abbrev pub OneChange : List FileEntry → Option ℕ → List FileEntry → Type 0
OneChange xs entry ys = MatchOption entry (ys ≡ xs) (λ i. (e : FileEntry) → slice_get ys i ≡ Some e → ys ≡ slice_set xs i e)

set_alike : (xs : List FileEntry) (i : ℕ) (a e : FileEntry) → slice_get (slice_set xs i a) i ≡ Some e → slice_set xs i a ≡ slice_set xs i e
set_alike [] i a e is = refl
set_alike (x ∷ xs) zero a e is = let same : a ≡ e = cc in ap (λ (y : FileEntry). y ∷ xs) same
set_alike (x ∷ xs) (suc i) a e is = ap (λ (l : List FileEntry). x ∷ l) (set_alike xs i a e is)

raise_by_one : (xs : List FileEntry) (i : ℕ) (e : FileEntry) (b : Bool) → OneChange xs (raise_by xs i e b).entry (raise_by xs i e b).entries
raise_by_one xs i e b = grind (arith, common_steps, raise_by, set_alike)

raise_one : (xs : List FileEntry) (i : ℕ) (found : Option FileEntry) → OneChange xs (raise xs i found).entry (raise xs i found).entries
raise_one xs i found = grind (arith, common_steps, raise, raise_by_one, nat_lt, most_uses)

open_by_one : (xs : List FileEntry) (inode : ℕ) (a b : Option ℕ) → OneChange xs (open_by xs inode a b).entry (open_by xs inode a b).entries
open_by_one xs inode a b = grind (arith, common_steps, open_by, raise_one, slice_get, set_alike)

pub open_one : (xs : List FileEntry) (inode : ℕ) → OneChange xs (open_change xs inode).entry (open_change xs inode).entries
open_one xs inode = open_by_one xs inode (first_entry xs inode) (first_entry xs 0)

lower_one : (xs : List FileEntry) (i : ℕ) (found : Option FileEntry) → OneChange xs (lower xs i found).entry (lower xs i found).entries
lower_one xs i found = grind (arith, common_steps, lower, set_alike, lowered)

close_by_one : (xs : List FileEntry) (a : Option ℕ) → OneChange xs (close_by xs a).entry (close_by xs a).entries
close_by_one xs a = grind (arith, common_steps, close_by, lower_one, slice_get)

pub close_one : (xs : List FileEntry) (inode : ℕ) → OneChange xs (close_change xs inode).entry (close_change xs inode).entries
close_one xs inode = close_by_one xs (first_entry xs inode)

-- if the copy has changed, the table changes in the same way
pub changes_files : {count : ℕ} {a b c d : FileSeatInfo} (change_of : List FileEntry → FileChange) (xs ys : List FileEntry) (entry : Option ℕ) → KeepsFiles a b → xs ≡ entries_now count a
    → record { entry = entry; entries = ys } ≡ change_of xs → OneChange xs (change_of xs).entry (change_of xs).entries
    → MatchOption entry (KeepsFiles b c) (λ i. StoresEntry ys i b c) → KeepsFiles c d → ChangesFiles count entry (change_of (entries_now count a)) d
changes_files change_of xs ys entry ab read changed one stored cd = grind (arith, common_steps, entries_now, slice_set)

-- the element that indexing gives
pub found_at : (xs : List FileEntry) (i : ℕ) (x : FileEntry) → i < length xs → x ≡ slice_index_or xs i x → slice_get xs i ≡ Some x
found_at [] i x low is = absurd (omega (arith, low))
found_at (y ∷ xs) zero x low is = ap Some (sym is)
found_at (y ∷ xs) (suc i) x low is = found_at xs i x (omega (arith, low)) is

pub stored_only : (ys : List FileEntry) (b c : FileSeatInfo) (entry : Option ℕ) → MatchOption entry (KeepsFiles b c) (λ i. StoresEntry ys i b c) → IsOnlyFiles c
stored_only ys b c entry k = grind (arith, common_steps, IsOnlyFiles)
