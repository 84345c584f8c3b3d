-- When the calls of a queue start and complete.
use Rattle.std.specs.Prelude.{◌≡◌, ◌≢◌, ℕ, List, ◌∷◌, ◌++◌}
use Rattle.std.specs.List.{All}
use Rattle.fak_model.specs.declared.queue.Kind.{Kind}
use Rattle.fak_model.specs.declared.queue.Kind.TheVariants.{ClaimIn, Put, Fill, EndIn, ClaimOut, Got, Take, EndOut}
use Rattle.fak_model.specs.declared.queue.Mark.{Mark}
use Rattle.fak_model.specs.Queue.{count, puts, gots}

-- two marks of one seat, of these kinds, with no mark of that seat between them
pub record Successive {T : Type 0} (h : List (Mark T)) (first second : Kind T) : Type 0 where
  pub before : List (Mark T)
  pub m : Mark T
  pub between : List (Mark T)
  pub n : Mark T
  pub after : List (Mark T)
  pub stands : before ++ m ∷ (between ++ n ∷ after) ≡ h
  pub first_is : m.kind ≡ first
  pub second_is : n.kind ≡ second
  pub same : n.seat ≡ m.seat
  pub none : All (λ (o : Mark T). o.seat ≢ m.seat) between

-- the insertion that draws ticket k is in h; it starts after `claim.before`
pub record Insertion {T : Type 0} (h : List (Mark T)) (k : ℕ) : Type 0 where
  pub x : T
  pub claim : Successive h ClaimIn (Put x)
  pub ticket : count puts (claim.before ++ claim.m ∷ claim.between) ≡ k

-- the deletion that draws ticket k is in h; it yields the item of the k-th Put
pub record Deletion {T : Type 0} (h : List (Mark T)) (k : ℕ) : Type 0 where
  pub x : T
  pub claim : Successive h ClaimOut (Got x)
  pub ticket : count gots (claim.before ++ claim.m ∷ claim.between) ≡ k

-- the insertion, and the deletion, with ticket k has completed
abbrev pub InsertionEnded : {T : Type 0} → List (Mark T) → ℕ → Type 0
InsertionEnded h k = Successive h (Fill k) EndIn

abbrev pub DeletionEnded : {T : Type 0} → List (Mark T) → ℕ → Type 0
DeletionEnded h k = Successive h (Take k) EndOut

-- let the insertion with ticket p complete before the insertion with ticket q starts; then the deletion with ticket q
-- completes only after the deletion with ticket p has started
abbrev pub KeepsCallOrder : {T : Type 0} → List (Mark T) → Type 0
KeepsCallOrder {T} h = (p q : ℕ) (of_q : Insertion h q) → InsertionEnded of_q.claim.before p
    → (now later : List (Mark T)) → now ++ later ≡ h → DeletionEnded now q → Deletion now p
