-- Bytes that are a JSON value, and bytes that are none.
use Rattle.fak_text.proofs.Common.{◌≡◌, ℕ, List, length, Bool, true, false, Some, None, Ok, Err, refl, Data, items_len, items_view, json_in, NotJson}
use Rattle.std.specs.Str.{IsUtf8, is_utf8}
use Rattle.std.proofs.lemmas.Str.{IsUtf8-from_is_utf8, is_utf8-from_IsUtf8}
use Rattle.serde_json.specs.Read.{read}
use Rattle.serde_json.specs.declared.value.Value.{Value}
use Rattle.serde_json.proofs.Views.{items_len-items_view}

pub json_in_read : (bytes : List ℕ) (d : Data) → IsUtf8 bytes → read bytes ≡ Some d → json_in bytes ≡ Ok d
json_in_read bytes d is_text reads = rw (is_utf8-from_IsUtf8 bytes is_text, reads) refl

refused_by_case : (bytes : List ℕ) (b : Bool) → is_utf8 bytes ≡ b → (IsUtf8 bytes → read bytes ≡ None) → json_in bytes ≡ Err NotJson
refused_by_case bytes true is_text unread = rw (is_text, unread (IsUtf8-from_is_utf8 bytes is_text)) refl
refused_by_case bytes false is_text unread = rw is_text refl

pub json_in_refused : (bytes : List ℕ) → (IsUtf8 bytes → read bytes ≡ None) → json_in bytes ≡ Err NotJson
json_in_refused bytes unread = refused_by_case bytes (is_utf8 bytes) refl unread

-- the name of the lemma that an attribute can write
pub items_len_is : (values : List Value) → items_len (items_view values) ≡ length values
items_len_is values = items_len-items_view values
