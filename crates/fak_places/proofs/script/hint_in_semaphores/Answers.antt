use Rattle.std.proofs.Common.{◌≡◌, Some, None, refl, is_ok, not, rules}
use Rattle.std.specs.List.{position}
use Rattle.serde_json.specs.View.{view}
use Rattle.fak_text.specs.ScriptText.{number_from}
use Rattle.fak_text.specs.declared.fault.Field.TheVariants.{Semaphores}
use Rattle.fak_places.proofs.Spots.{in_first}
use Rattle.fak_places.proofs.script.hint_in_semaphores.Goals as goal

pub returns : goal.returns
returns c =
    let first : position (λ v. not (is_ok (number_from Semaphores 1000001 0 (view v)))) c.elements_of_key-values.result.now ≡ Some c.in_ok-index.index = search rules in
    in_first (λ d. not (is_ok (number_from Semaphores 1000001 0 d))) c.elements_of_key-values.result.now _ c.in_ok-index.index None _ c.elements_of_key-values.ensures first refl
