-- What the program `fak_where` is asked, and its exit status.
use Rattle.std.specs.Prelude.{ℕ, Bool, true, false, List, [], ◌∷◌, codes, Option, Some, None, if◌then◌else◌}
use Rattle.std.specs.Str.{bytes_eq}
use Rattle.fak_text.specs.declared.fault.TextFault.{TextFault}
use Rattle.fak_places.specs.declared.fault_place.Format.{Format}
use Rattle.fak_places.specs.declared.fault_place.Format.TheVariants as formats
use Rattle.fak_places.specs.declared.fault.WhereFault.{WhereFault}
use Rattle.fak_places.specs.declared.fault.WhereFault.TheVariants as faults

-- the format that a command of `fak` reads
unfoldable pub format_named : List ℕ → Option Format
format_named name =
    if bytes_eq name (codes "replay") then Some formats.Schedule else (
    if bytes_eq name (codes "check") then Some formats.History else (
    if bytes_eq name (codes "run") then Some formats.Script else None))

-- whether a word asks for the version
unfoldable pub version_named : List ℕ → Bool
version_named name = if bytes_eq name (codes "--version") then true else false

-- whether the words ask for the version: the program's name, and this word
abbrev pub version_asked : List (List ℕ) → Bool
version_asked (program ∷ (name ∷ [])) = version_named name
version_asked words = false

-- the format that the words ask for: the program's name, and a command
abbrev pub format_asked : List (List ℕ) → Option Format
format_asked (program ∷ (name ∷ [])) = format_named name
format_asked words = None

-- the status if the input has this fault, or none
abbrev pub status_of_place : Option TextFault → ℕ
status_of_place None = 0
status_of_place (Some fault) = 1

-- the status of a fault of the program
abbrev pub status_of_fault : WhereFault → ℕ
status_of_fault faults.Usage = 2
status_of_fault _ = 1

-- what is said of an input that `fak` reads: the form is all that the reading tests, and `fak check` judges what a history says
abbrev pub said_of_read : Format → List ℕ
said_of_read formats.Schedule = codes "nothing is wrong"
said_of_read formats.History = codes "the form is right; fak check says whether the history is legal"
said_of_read formats.Script = codes "nothing is wrong"
