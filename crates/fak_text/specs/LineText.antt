-- The text of a line: the seat, the step, the value found and the mark, with a space between two.
use Rattle.std.specs.Prelude.{ℕ, List, ◌++◌, codes, decimal, Option, Some, None}
use Rattle.std.specs.Fmt.{signed_decimal}
use Rattle.fak_core.specs.declared.fault.CoreFault.{CoreFault}
use Rattle.fak_core.specs.declared.line.Line.{Line}
use Rattle.fak_core.specs.declared.line.LineMark.{LineMark}
use Rattle.fak_core.specs.declared.line.LineMark.TheVariants as marks
use Rattle.fak_text.specs.Names.{move_name, room_name, amount_of, kind_name, number_of, refusal_name}

abbrev pub with_number : List ℕ → Option ℕ → List ℕ
with_number name None = name
with_number name (Some n) = name ++ codes " " ++ decimal n

abbrev pub mark_text : LineMark → List ℕ
mark_text (marks.Room kind) = with_number (room_name kind) (Some (amount_of kind))
mark_text (marks.Queue kind) = with_number (kind_name kind) (number_of kind)

abbrev pub mark_or_dash : Option LineMark → List ℕ
mark_or_dash None = codes "-"
mark_or_dash (Some mark) = mark_text mark

-- a line, with no newline
unfoldable pub text_of_line : Line → List ℕ
text_of_line l = decimal l.seat ++ codes " " ++ move_name l.step ++ codes " " ++ signed_decimal l.found ++ codes " " ++ mark_or_dash l.mark

-- the refusal of a seat's call or step, with no newline
unfoldable pub text_of_refusal : ℕ → CoreFault → List ℕ
text_of_refusal seat fault = decimal seat ++ codes " refused " ++ refusal_name fault
