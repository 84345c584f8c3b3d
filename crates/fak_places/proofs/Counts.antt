-- How many elements an array has.
use Rattle.std.specs.Prelude.{◌≡◌, List, length}
use Rattle.serde_json.specs.Events.{items_len}
use Rattle.serde_json.specs.View.{items_view}
use Rattle.serde_json.specs.declared.value.Value.{Value}
use Rattle.serde_json.proofs.Views.{items_len-items_view}

-- the name of the lemma that an attribute can write
pub items_len_is : (values : List Value) → items_len (items_view values) ≡ length values
items_len_is values = items_len-items_view values
