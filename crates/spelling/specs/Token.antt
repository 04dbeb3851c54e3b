-- A token is given back as the part of the text it stands on. It ends at a space, a line feed or the text's end.
use Rattle.std.specs.Prelude.{ℕ, Bool, ◌||◌, List, take, drop, eqb}
use Rattle.std.specs.List.{position_or_len}
use Rattle.infon.specs.Bytes.{line_feed, space}

unfoldable pub is_break : ℕ → Bool
is_break b = eqb b space || eqb b line_feed

abbrev pub word_length : List ℕ → ℕ
word_length s = position_or_len is_break s

-- the token that begins at a place
unfoldable pub word_at : List ℕ → ℕ → List ℕ
word_at text at = take (word_length (drop at text)) (drop at text)
