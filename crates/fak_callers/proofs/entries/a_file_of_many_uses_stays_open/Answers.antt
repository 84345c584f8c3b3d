use Rattle.std.proofs.Common.{◌≢◌, ℕ, ◌<◌, [], ◌∷◌, All, arith}
use Rattle.std.proofs.lemmas.List.Elements.{All-nil, All-cons}
use Rattle.fak_model.specs.declared.file.FileEntry.{FileEntry}
use Rattle.fak_run.specs.Examples.{used}
use Rattle.fak_run.specs.Files.{free_entry}
use Rattle.fak_callers.proofs.entries.a_file_of_many_uses_stays_open.Goals as goal

-- an entry of another inode, by itself and before another entry
differs : (inode : ℕ) (a : FileEntry) → a.inode ≢ inode → All (λ (e : FileEntry). e.inode ≢ inode) (a ∷ [])
differs inode a other = All-cons (λ (e : FileEntry). e.inode ≢ inode) a [] other (All-nil _)

both : (inode : ℕ) (a b : FileEntry) → a.inode ≢ inode → b.inode ≢ inode → All (λ (e : FileEntry). e.inode ≢ inode) (a ∷ b ∷ [])
both inode a b other second = All-cons (λ (e : FileEntry). e.inode ≢ inode) a (b ∷ []) other (differs inode b second)

apart : (a b : ℕ) → a < b → a ≢ b
apart a b less is = absurd (omega (arith, less, is))

behind : (a b : ℕ) → b < a → a ≢ b
behind a b less is = absurd (omega (arith, less, is))

pub returns-clause-closed : goal.returns-clause-closed
returns-clause-closed c = c.each_open_and_close_is_counted.ensures.closes (used 5 1 ∷ []) (used 9 3 ∷ []) 7 5998 (differs 7 (used 5 1) (apart 5 7 (omega arith)))

pub returns-clause-freed : goal.returns-clause-freed
returns-clause-freed c = c.each_open_and_close_is_counted.ensures.frees (used 5 1 ∷ []) (used 9 3 ∷ []) 7 (differs 7 (used 5 1) (apart 5 7 (omega arith)))

pub returns-clause-opened : goal.returns-clause-opened
returns-clause-opened c = c.each_open_and_close_is_counted.ensures.opens (used 5 1 ∷ []) [] 7 4294967294 (differs 7 (used 5 1) (apart 5 7 (omega arith))) (omega arith)

pub returns-clause-most : goal.returns-clause-most
returns-clause-most c = c.each_open_and_close_is_counted.ensures.most (used 5 1 ∷ []) [] 7 (differs 7 (used 5 1) (apart 5 7 (omega arith)))

pub returns-clause-taken : goal.returns-clause-taken
returns-clause-taken c = c.each_open_and_close_is_counted.ensures.takes (used 5 1 ∷ []) [] 7 (both 7 (used 5 1) free_entry (apart 5 7 (omega arith)) (apart 0 7 (omega arith))) (differs 0 (used 5 1) (behind 5 0 (omega arith)))

pub returns-clause-full : goal.returns-clause-full
returns-clause-full c = c.each_open_and_close_is_counted.ensures.full (used 5 1 ∷ used 6 2 ∷ []) 7 (both 7 (used 5 1) (used 6 2) (apart 5 7 (omega arith)) (apart 6 7 (omega arith))) (both 0 (used 5 1) (used 6 2) (behind 5 0 (omega arith)) (behind 6 0 (omega arith)))

pub returns-clause-unopened : goal.returns-clause-unopened
returns-clause-unopened c = c.each_open_and_close_is_counted.ensures.unopened (used 5 1 ∷ free_entry ∷ []) 7 (both 7 (used 5 1) free_entry (apart 5 7 (omega arith)) (apart 0 7 (omega arith)))

pub returns-clause-uses : goal.returns-clause-uses
returns-clause-uses c = c.each_open_and_close_is_counted.ensures.uses (used 5 1 ∷ []) [] 7 6000 (differs 7 (used 5 1) (apart 5 7 (omega arith)))

pub returns-clause-no_uses : goal.returns-clause-no_uses
returns-clause-no_uses c = c.each_open_and_close_is_counted.ensures.no_uses (used 5 1 ∷ used 6 2 ∷ []) 7 (both 7 (used 5 1) (used 6 2) (apart 5 7 (omega arith)) (apart 6 7 (omega arith)))
