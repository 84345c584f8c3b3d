use Rattle.std.proofs.Common.{◌≡◌, ◌++◌, [], ◌∷◌, List, Some, ap, refl, subst}
use Rattle.fak_model.specs.declared.file.FileMark.{FileMark}
use Rattle.fak_model.specs.Calls.{last_of}
use Rattle.fak_files.specs.Versions.{prefix_through_take}
use Rattle.fak_callers.proofs.files.read_all_seen.Goals as goal

-- the marks before the last one
before_last : (h : List FileMark) (m : FileMark) → last_of h ≡ Some m → (front : List FileMark) × (front ++ m ∷ [] ≡ h)
before_last [] m is = absurd (cc)
before_last (x ∷ []) m is = let same : m ≡ x = cc in ([], ap (λ (y : FileMark). y ∷ []) same)
before_last (x ∷ y ∷ h) m is = let more = before_last (y ∷ h) m is in (x ∷ more.0, ap (λ (l : List FileMark). x ∷ l) more.1)

pub returns-in-Ok-clause-all : goal.returns-in-Ok-clause-all
returns-in-Ok-clause-all c granted =
    let all = before_last _ _ (c.in-Ok.ensures.call.leaves.last _ refl) in
    let reads = (c.a_take_reads_all_before_it.ensures all.0 _ refl).0 in
    subst (λ (h : List FileMark). prefix_through_take c.args.seat.now.seat.name h ≡ h) all.1 reads
