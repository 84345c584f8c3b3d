-- How many members of an object have a name, and what was read is UTF-8.
use Rattle.std.proofs.Common.{◌≡◌, ℕ, if◌then◌else◌, Bool, true, false, cond, List, [], ◌∷◌, length, suc, Ok, Err, refl, ap}
use Rattle.std.specs.Borrow.{Bor}
use Rattle.std.specs.List.{filter}
use Rattle.std.specs.Str.{IsUtf8, bytes_eq, is_utf8}
use Rattle.std.proofs.lemmas.Str.{IsUtf8-from_is_utf8}
use Rattle.std.specs.declared.alloc.Global.{Global}
use Rattle.json.specs.Value.{members_view}
use Rattle.json.specs.declared.value.Value.{Value}
use Rattle.serde_json.specs.Data.{Data}
use Rattle.serde_json.specs.Read.{read}
use Rattle.fak_text.specs.Values.{json_in, value_or}
use Rattle.fak_text.specs.declared.fault.TextFault.TheVariants.{NotJson}
use Rattle.fak_places.specs.Repeats.{times}

counted : (b : Bool) {X Y : Type 0} (x : X) (y : Y) (xs : List X) (ys : List Y) → length xs ≡ length ys → length (cond b (x ∷ xs) xs) ≡ length (cond b (y ∷ ys) ys)
counted true x y xs ys same = ap suc same
counted false x y xs ys same = same

-- counted among the members as they are kept
pub times_is : (name : List ℕ) (members : List (Bor (List ℕ) × Value Global)) → length (filter (λ member. bytes_eq member.0.now name) members) ≡ times name (members_view members)
times_is name [] = refl
times_is name (m ∷ members) = counted (bytes_eq m.0.now name) m m.0.now _ _ (times_is name members)

read_by_case : (bytes : List ℕ) (b : Bool) (d : Data) → is_utf8 bytes ≡ b → (if b then value_or NotJson (read bytes) else Err NotJson) ≡ Ok d → IsUtf8 bytes
read_by_case bytes true d is reads = IsUtf8-from_is_utf8 bytes is
read_by_case bytes false d is reads = absurd (cc)

-- only UTF-8 is read
pub read_is_utf8 : (bytes : List ℕ) (d : Data) → json_in bytes ≡ Ok d → IsUtf8 bytes
read_is_utf8 bytes d reads = read_by_case bytes (is_utf8 bytes) d refl reads
