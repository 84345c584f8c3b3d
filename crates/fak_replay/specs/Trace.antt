-- The text of a replay, as it grows.
use Rattle.std.specs.Prelude.{◌≡◌, [], ◌∷◌, ◌++◌, IfSome, string_bytes}
use Rattle.fak_replay.specs.Replay.{text_of_row}
use Rattle.fak_replay.specs.declared.trace.Trace.{Trace}

-- if a last row is kept, its line is: the row's text and a newline
abbrev pub KeepsItsLine : Trace → Type 0
KeepsItsLine trace = IfSome trace.last (λ row. string_bytes trace.line ≡ text_of_row row ++ 10 ∷ [])
