-- What holds of each element holds of those that are popped, and of the others.
use Rattle.std.specs.Prelude.{◌≡◌, List, ◌++◌, Option, Some, IfSome, option_to_list}
use Rattle.std.specs.List.{All}
use Rattle.std.proofs.Common.{subst}
use Rattle.std.proofs.lemmas.List.Elements.{All-pop}

module _ {X : Type 0} (P : X → Type 0) (items left : List X) (r : Option X) (is : items ≡ left ++ option_to_list r) (all : All P items) where
  pub others : All P left
  others = (All-pop P items left r is all).0

  pub top : (x : X) → r ≡ Some x → P x
  top x e = subst (λ o. IfSome o P) e (All-pop P items left r is all).1
