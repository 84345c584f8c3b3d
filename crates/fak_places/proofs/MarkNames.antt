-- Marks by their names: whether a mark bears a number.
use Rattle.std.proofs.Common.{◌≡◌, ◌∙◌, ◌&&◌, ℕ, Bool, true, false, cond, List, Option, Some, None, Result, Ok, Err, unwrap_or, refl, sym, ap, option_map, is_some, is_ok, nat_le, if◌then◌else◌}
use Rattle.std.specs.Str.{bytes_eq}
use Rattle.std.specs.Bool.{one_answer}
use Rattle.std.proofs.lemmas.Slice.Eq.{bytes_eq-Decides}
use Rattle.serde_json.specs.Data.{Data, Items}
use Rattle.serde_json.specs.Find.{as_array}
use Rattle.serde_json.specs.Events.{items_len}
use Rattle.fak_model.specs.declared.queue.Kind.{Kind}
use Rattle.fak_model.specs.declared.queue.Kind.TheVariants as kinds
use Rattle.fak_model.specs.declared.queue.Mark.{Mark}
use Rattle.fak_text.specs.Gives.{◌>>=◌}
use Rattle.fak_text.specs.Names.{kind_name, number_of}
use Rattle.fak_text.specs.Values.{value_or, number_at, text_at}
use Rattle.fak_text.specs.HistoryText.{kind_named, is_complete, mark_from}
use Rattle.fak_text.specs.declared.fault.Field.TheVariants.{Marks}
use Rattle.fak_text.specs.declared.fault.TextFault.{TextFault}
use Rattle.fak_text.specs.declared.fault.TextFault.TheVariants.{Range, UnknownOp}
use Rattle.fak_places.specs.Named.{bears_named, is_whole_mark, is_right_mark}

-- the order of two texts that are compared does not matter
comm : (xs ys : List ℕ) → bytes_eq xs ys ≡ bytes_eq ys xs
comm xs ys =
    let back = bytes_eq-Decides ys xs in
    one_answer (bytes_eq xs ys) (bytes_eq ys xs) (bytes_eq-Decides xs ys) ((λ h. sym (back.0 h)), (λ e. back.1 (sym e)))

-- whether a mark of this kind bears a number
abbrev bears : Kind ℕ → Bool
bears kind = is_some (number_of kind)

one_by : (b : Bool) (kind : Kind ℕ) (more : Option (Kind ℕ)) (rest : Option Bool) → option_map bears more ≡ rest
    → option_map bears (cond b (Some kind) more) ≡ (if b then Some (bears kind) else rest)
one_by true kind more rest e = refl
one_by false kind more rest e = e

-- one more kind is looked for
one : (name : List ℕ) (kind : Kind ℕ) (more : Option (Kind ℕ)) (rest : Option Bool) → option_map bears more ≡ rest
    → option_map bears (cond (bytes_eq (kind_name kind) name) (Some kind) more) ≡ (if bytes_eq name (kind_name kind) then Some (bears kind) else rest)
one name kind more rest e =
    let turned = comm (kind_name kind) name in
    rw turned (one_by (bytes_eq name (kind_name kind)) kind more rest e)

bears_is : (name : List ℕ) (n : ℕ) → option_map bears (kind_named name n) ≡ bears_named name
unfolding kind_named bears_named
bears_is name n =
    one name kinds.ClaimIn _ _ (one name kinds.OverIn _ _ (one name kinds.BackIn _ _ (one name kinds.NoRoom _ _ (one name (kinds.Put n) _ _ (one name (kinds.Fill n) _ _ (one name kinds.EndIn _ _ (one name kinds.ClaimOut _ _ (one name kinds.OverOut _ _ (one name kinds.BackOut _ _ (one name kinds.NoItem _ _ (one name (kinds.Got n) _ _ (one name (kinds.Take n) _ _ (one name kinds.EndOut _ _ (one name kinds.Close _ _ (one name kinds.Closed _ _ (one name kinds.LateIn _ _ (refl)))))))))))))))))

right_if : (b : Bool) (mark : Mark ℕ) (e : TextFault) → is_ok (if b then Ok mark else Err e) ≡ b
right_if true mark e = refl
right_if false mark e = refl

right_elements : (number : Option ℕ) (size : ℕ) (third : Option ℕ) → is_complete number size third ≡ is_whole_mark (is_some number) size third
right_elements None size third = refl
right_elements (Some n) size third = refl

-- a mark with this seat and these elements, whose name is that of the kind
abbrev mark_of_kind : Option (Kind ℕ) → ℕ → ℕ → Option ℕ → Result (Mark ℕ) TextFault
mark_of_kind found seat size third = do
  kind ← value_or (UnknownOp 0) found
  if nat_le seat 63 && is_complete (number_of kind) size third then Ok (record { seat = seat; kind = kind }) else Err (Range Marks)

right_kind : (found : Option (Kind ℕ)) (seat size : ℕ) (third : Option ℕ) → is_ok (mark_of_kind found seat size third) ≡ is_right_mark (option_map bears found) seat size third
right_kind None seat size third = refl
right_kind (Some kind) seat size third =
    right_if _ (record { seat = seat; kind = kind }) (Range Marks) ∙ ap (λ (b : Bool). nat_le seat 63 && b) (right_elements (number_of kind) size third)

-- whether a mark is right, by its elements
pub mark_is : (d : Data) (ds : Items) (seat : ℕ) (name : List ℕ) → as_array d ≡ Some ds → number_at 0 d ≡ Some seat → text_at 1 d ≡ Some name
    → is_ok (mark_from 0 d) ≡ is_right_mark (bears_named name) seat (items_len ds) (number_at 2 d)
unfolding mark_from
mark_is d ds seat name items first second =
    let by_kind = right_kind (kind_named name (unwrap_or (number_at 2 d) 0)) seat (items_len ds) (number_at 2 d) in
    let by_name = bears_is name (unwrap_or (number_at 2 d) 0) in
    rw (items, first, second) (by_kind ∙ ap (λ (o : Option Bool). is_right_mark o seat (items_len ds) (number_at 2 d)) by_name)
