-- The loop of a processor, among any number of them.
use Rattle.std.proofs.lemmas.List.Elements.{All-nil, All-cons, All-head, All-tail, All-map}
use Rattle.fak_model.specs.Credit.{value}
use Rattle.fak_processor.proofs.Common.{Turn, nothing, ProcessorOf, HasName, ◌≡◌, ◌∙◌, ℕ, List, [], ◌∷◌, All, length, map, refl, ap, sym, subst, Option, None, pos, ScriptOf, Process, names_of, Gains, Moves, LeavesNone, hand_of, SemSeatInfo}
use Rattle.fak_processor.proofs.Events.{quiet, balanced-beside}
use Rattle.fak_processor.proofs.Acting.{moves_then}

-- ---- names

all_of_map : {X Y : Type 0} (P : Y → Type 0) (f : X → Y) (xs : List X) → All P (map f xs) → All (λ x. P (f x)) xs
all_of_map P f [] all = All-nil (λ x. P (f x))
all_of_map P f (x ∷ xs) all = All-cons (λ x. P (f x)) x xs (All-head P (f x) (map f xs) all) (all_of_map P f xs (All-tail P (f x) (map f xs) all))

-- the seats of a processor that keeps their names
pub keeps_name : {n : ℕ} {p q : ProcessorOf} → names_of q ≡ names_of p → HasName n p → HasName n q
keeps_name {n} {p} {q} same h =
    let name_of : SemSeatInfo Process → ℕ = λ s. s.name in
    record {
      ready = ap (λ x. x.ready) same ∙ h.ready;
      free = ap (λ x. x.free) same ∙ h.free;
      births = ap (λ x. x.births) same ∙ h.births;
      busy = ap (λ x. x.busy) same ∙ h.busy;
      semaphores = all_of_map (λ m. m ≡ n) name_of q.semaphores (subst (All (λ m. m ≡ n)) (sym (ap (λ x. x.semaphores) same)) (All-map (λ m. m ≡ n) name_of p.semaphores h.semaphores));
      files = ap (λ x. x.files) same ∙ h.files;
    }

-- ---- the loop

module _ {script : ScriptOf} where
  -- a look at busy
  pub moves_looked : {p q : ProcessorOf} (hand : List Process) → Gains script p q nothing → Moves script hand hand p q
  moves_looked hand g = record { ledger = nothing; begins = (refl, refl); balanced = balanced-beside hand (quiet script (length script.semaphores)); gains = g }

  -- one turn of the loop
  pub moves_on : {o p q r : ProcessorOf} (a b : Option Turn) → Moves script [] (hand_of a) o p → Moves script (hand_of a) (hand_of b) p q → Gains script q r nothing → Moves script [] (hand_of b) o r
  moves_on a b was made looked = moves_then was (moves_then made (moves_looked (hand_of b) looked))

  -- the last one
  pub leaves_none : {o p q r : ProcessorOf} (a b : Option Turn) → Moves script [] (hand_of a) o p → Moves script (hand_of a) (hand_of b) p q → Gains script q r nothing → b ≡ None → value (length script.start) r.busy.seen ≡ pos 0 → LeavesNone script o r
  leaves_none {o} {r = r} a b was made looked over shows = record { moves = subst (λ (x : Option Turn). Moves script [] (hand_of x) o r) over (moves_on a b was made looked); idle = shows }
