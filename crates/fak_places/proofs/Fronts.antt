-- Texts that can go on from a front, and the hints that say so.
use Rattle.std.proofs.Common.{◌≡◌, ℕ, ◌++◌, Bool, List, take, Option, Some, None, Result, Ok, Err, MatchOption, IfOk, IsOk, IsTrue, is_some, refl, sym, subst}
use Rattle.std.specs.Borrow.{Bor}
use Rattle.serde_json.specs.Data.{Data}
use Rattle.serde_json.specs.View.{view}
use Rattle.serde_json.specs.declared.value.Value.{Value}
use Rattle.fak_text.specs.Values.{json_in}
use Rattle.fak_text.specs.declared.fault.TextFault.{TextFault}
use Rattle.fak_text.specs.declared.fault.TextFault.TheVariants.{NotJson}
use Rattle.fak_places.specs.Fronts.{CanGoOn, HintsBy, HintsRight, IsStop, column_after, line_after}
use Rattle.fak_places.specs.declared.asked.Asked.{Asked}
use Rattle.fak_places.specs.declared.asked.Asked.TheVariants as asks
use Rattle.fak_places.specs.declared.asked.Hint.{Hint}
use Rattle.fak_places.specs.declared.asked.Spot.TheVariants.{Text}
use Rattle.fak_places.specs.declared.stop.Stop.{Stop}

-- what was read is JSON
pub read_is : (found : Option Value) (text whole : List ℕ) → MatchOption found (json_in text ≡ Err NotJson) (λ value. json_in text ≡ Ok (view value)) → text ≡ whole
    → IsTrue (is_some found) → IsOk (json_in whole)
read_is None text whole read same is = absurd (cc)
read_is (Some value) text whole read same is =
    subst (λ (bytes : List ℕ). IsOk (json_in bytes)) same (subst (λ (r : Result Data TextFault). IsOk r) (sym read) refl)

pub can_go_on : {E : Type 0} (result : Result Bool E) (front begin rest : List ℕ) → IfOk result (λ done. IsTrue done → IsOk (json_in (front ++ begin ++ rest)))
    → IfOk result (λ done. IsTrue done → CanGoOn front begin)
can_go_on (Ok done) front begin rest is = λ h. (rest, is h)
can_go_on (Err e) front begin rest is = tt

pub words_right : (text : List ℕ) (hint : Hint) (words : Bor (List ℕ)) → hint.asked ≡ asks.Words words → HintsRight text hint
words_right text hint words said = subst (λ (asked : Asked). HintsBy text hint asked) (sym said) tt

pub next_right : (text before : List ℕ) (stop : Stop) (hint : Hint) → before ≡ take stop.at text → hint.spot ≡ Text (line_after before) (column_after before)
    → hint.asked ≡ asks.Next stop.next → IsStop text stop → HintsRight text hint
next_right text before stop hint taken spot said is =
    subst (λ (asked : Asked). HintsBy text hint asked) (sym said) (record {
      at = stop.at;
      within = is.0;
      spot_is = subst (λ (front : List ℕ). hint.spot ≡ Text (line_after front) (column_after front)) taken spot;
      can = is.1;
    })
