-- How a line begins and where it ends.
use Rattle.std.specs.Prelude.{ℕ, Bool, ◌||◌, List, [], ◌∷◌, eqb}
use Rattle.infon.specs.Bytes.{bytes, line_feed, alike}
use Rattle.std.specs.List.{position_or_len}

abbrev pub is_feed : ℕ → Bool
is_feed b = eqb b line_feed

-- how many bytes come before the first line feed
abbrev pub until_feed : List ℕ → ℕ
until_feed s = position_or_len is_feed s

-- "A line is `H` (hypothesis) or `Q` (query), one space, one formula": its first two bytes
unfoldable pub is_opening : ℕ → ℕ → Bool
is_opening letter gap = alike (letter ∷ (gap ∷ [])) (bytes "H ") || alike (letter ∷ (gap ∷ [])) (bytes "Q ")
