-- The front of a text: its place, and how the text can go on to be JSON.
use Rattle.std.specs.Prelude.{ℕ, ◌+◌, ◌≡◌, ◌≤◌, ◌==◌, ◌++◌, ◌&&◌, Bool, true, false, List, [], ◌∷◌, length, drop, nat_eq, codes, take, reverse, slice_get, IsOk, Option, Some, None, unwrap_or}
use Rattle.std.specs.Char.{is_ascii_digit}
use Rattle.std.specs.List.{filter, position, starts_with}
use Rattle.json.specs.Word.{after_minus, head}
use Rattle.fak_text.specs.Values.{json_in}
use Rattle.fak_places.specs.declared.asked.Asked.{Asked}
use Rattle.fak_places.specs.declared.asked.Asked.TheVariants as asks
use Rattle.fak_places.specs.declared.asked.Hint.{Hint}
use Rattle.fak_places.specs.declared.asked.Spot.TheVariants.{Text}
use Rattle.fak_places.specs.declared.stop.Stop.{Stop}
use Rattle.fak_places.specs.declared.stop.front.Open.{Open}
use Rattle.fak_places.specs.declared.stop.front.Open.TheVariants as opens
use Rattle.fak_places.specs.declared.stop.next.Next.{Next}
use Rattle.fak_places.specs.declared.stop.next.Next.TheVariants as nexts

-- some text that begins with these two parts is JSON
abbrev pub CanGoOn : List ℕ → List ℕ → Type 0
CanGoOn front begin = (rest : List ℕ) × IsOk (json_in (front ++ begin ++ rest))

-- this can stand after the front; the line feed before it cannot be inside a text, and ends a word
abbrev pub CanStand : Next → List ℕ → Type 0
CanStand nexts.Value front = CanGoOn front (codes "\n0")
CanStand nexts.FirstItem front = CanGoOn front (codes "\n0") × CanGoOn front (codes "\n]")
CanStand nexts.AfterItem front = CanGoOn front (codes "\n,0") × CanGoOn front (codes "\n]")
CanStand nexts.FirstKey front = CanGoOn front (codes "\n\"\":0") × CanGoOn front (codes "\n}")
CanStand nexts.Key front = CanGoOn front (codes "\n\"\":0")
CanStand nexts.Colon front = CanGoOn front (codes "\n:0")
CanStand nexts.AfterMember front = CanGoOn front (codes "\n,\"\":0") × CanGoOn front (codes "\n}")
CanStand nexts.End front = IsOk (json_in (front ++ codes "\n"))

-- ---- brackets, commas and colons

-- the bracket that closes an array or an object
abbrev pub closes : Open → ℕ
closes opens.Array = 93
closes opens.Object = 125

-- whether a value can stand
abbrev pub begins_value : Next → Bool
begins_value nexts.Value = true
begins_value nexts.FirstItem = true
begins_value _ = false

-- what can stand after a value inside what is open last
abbrev pub after_value_in : Option Open → Next
after_value_in None = nexts.End
after_value_in (Some opens.Array) = nexts.AfterItem
after_value_in (Some opens.Object) = nexts.AfterMember

-- what can stand after a value, by what is open, the outermost first
abbrev pub after_value : List Open → Next
after_value opened = after_value_in (slice_get (reverse opened) 0)

-- ---- places

-- the line and the column after a front, both from 1
abbrev pub line_after : List ℕ → ℕ
line_after front = length (filter (λ byte. byte == 10) front) + 1

-- how many bytes are after the last line feed, or all if there is none
abbrev pub bytes_in_line : List ℕ → ℕ
bytes_in_line front = unwrap_or (position (λ byte. byte == 10) (reverse front)) (length front)

abbrev pub column_after : List ℕ → ℕ
column_after front = bytes_in_line front + 1

-- the text can go on so after this many bytes of it
abbrev pub IsStop : List ℕ → Stop → Type 0
IsStop text stop = (stop.at ≤ length text) × CanStand stop.next (take stop.at text)

-- a 0 before another digit, after a minus or at the head
abbrev pub has_leading_zero : List ℕ → Bool
has_leading_zero word = starts_with nat_eq (after_minus word) (48 ∷ []) && is_ascii_digit (head (drop 1 (after_minus word)))

-- the spot is after some front of the text, and this can come there
pub record IsNextAt (text : List ℕ) (next : Next) (hint : Hint) : Type 0 where
  pub at : ℕ
  pub within : at ≤ length text
  pub spot_is : hint.spot ≡ Text (line_after (take at text)) (column_after (take at text))
  pub can : CanStand next (take at text)

abbrev pub HintsBy : List ℕ → Hint → Asked → Type 0
HintsBy text hint (asks.Next next) = IsNextAt text next hint
HintsBy text hint _ = Unit {0}

-- the text can go on at its place as the hint says
abbrev pub HintsRight : List ℕ → Hint → Type 0
HintsRight text hint = HintsBy text hint hint.asked
