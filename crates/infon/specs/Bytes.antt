-- Bytes and rows: what the other files take for granted.
use Rattle.std.specs.Prelude.{bytes_eq, ℕ, Bool, List, Option, codes}
use Rattle.std.specs.List.{list_all, list_any, find}
use Prim.Native.String.{String}

-- an ASCII text as its bytes, so that a definition can show the letters that it means
unfoldable pub bytes : String → List ℕ
bytes text = codes text

-- the byte that ends a line, and the byte that separates tokens
unfoldable pub line_feed : ℕ
line_feed = 10

unfoldable pub space : ℕ
space = 32

-- two rows of bytes are alike
unfoldable pub alike : List ℕ → List ℕ → Bool
alike s t = bytes_eq s t

module _ {A : Type 0} where
  -- every element of the row passes the test
  unfoldable pub every : (A → Bool) → List A → Bool
  every test xs = list_all test xs

  -- some element of the row passes the test
  unfoldable pub some_of : (A → Bool) → List A → Bool
  some_of test xs = list_any test xs

  -- the first element of the row that passes the test, if any
  unfoldable pub first_of : (A → Bool) → List A → Option A
  first_of test xs = find test xs
