-- The names of members that none of the keys has, one member after the other.
use Rattle.std.proofs.Common.{◌≡◌, ◌∙◌, ℕ, true, false, not, List, [], ◌∷◌, ◌++◌, map, String, Global, string_bytes, refl, sym, ap, subst, append_assoc}
use Rattle.std.specs.List.{filter}
use Rattle.std.specs.Map.{keys_of}
use Rattle.std.proofs.lemmas.List.{append-nil, map-append}
use Rattle.serde_json.specs.View.{members_view}
use Rattle.serde_json.proofs.Views.{Entry}
use Rattle.fak_text.specs.declared.fault.Field.{Field}
use Rattle.fak_places.specs.Keys.{is_named, names_of, other_names}
use Rattle.fak_places.specs.declared.ignored.Ignored.{Ignored}

names_are : (es : List Entry) → names_of (members_view es) ≡ map string_bytes (keys_of es)
names_are [] = refl
names_are (e ∷ es) = ap (λ (names : List (List ℕ)). string_bytes e.0 ∷ names) (names_are es)

abbrev pub name_found : Ignored → List ℕ
name_found ignored = string_bytes ignored.key

-- what was found, and after it what is still to be found among the names that are left
abbrev pub found_and_left : List Field → List Ignored → List (String Global) → List (List ℕ)
found_and_left keys found left = map name_found found ++ filter (λ name. not (is_named keys name)) (map string_bytes left)

pub none_found : (keys : List Field) (found : List Ignored) (es : List Entry) (left : List (String Global)) → found ≡ [] → left ≡ keys_of es
    → found_and_left keys found left ≡ other_names keys (members_view es)
none_found keys found es left none are = rw (none, are, names_are es) refl

pub all_found : (keys : List Field) (found : List Ignored) (es : List Entry) (left : List (String Global)) → left ≡ []
    → found_and_left keys found left ≡ other_names keys (members_view es) → map name_found found ≡ other_names keys (members_view es)
all_found keys found es left none kept =
    let by_none : found_and_left keys found [] ≡ other_names keys (members_view es) =
    subst (λ (rest : List (String Global)). found_and_left keys found rest ≡ other_names keys (members_view es)) none kept in
    sym (append-nil (map name_found found)) ∙ by_none

-- a key's name is passed over
pub passed_over : (keys : List Field) (found : List Ignored) (key : String Global) (left : List (String Global)) → is_named keys (string_bytes key) ≡ true
    → found_and_left keys found left ≡ found_and_left keys found (key ∷ left)
passed_over keys found key left is = rw is refl

-- another name is found
pub found_next : (keys : List Field) (found : List Ignored) (key copy : String Global) (left : List (String Global)) → is_named keys (string_bytes key) ≡ false
    → string_bytes copy ≡ string_bytes key
    → found_and_left keys (found ++ record { key = copy } ∷ []) left ≡ found_and_left keys found (key ∷ left)
found_next keys found key copy left other is =
    rw (other, map-append name_found found (record { key = copy } ∷ []), is) (append_assoc (map name_found found) (string_bytes key ∷ []) _)
