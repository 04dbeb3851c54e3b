-- A set of numbers as bits in words of 64: number i is bit i % 64 of word i / 64.
use Rattle.std.specs.Prelude.{ℕ, zero, suc, ◌/◌, ◌%◌, ◌^◌, ◌<◌, ◌≡◌, Bool, true, false, List, get_or, set, eqb, Option, None, Some}
use Rattle.std.specs.Int.Bits.{bit_or, bit_xor}
use Rattle.formulas.specs.Table.{table_rows}

abbrev pub cover_words : ℕ
cover_words = 64

-- bit k of a word
unfoldable pub has_bit : ℕ → ℕ → Bool
has_bit word zero = eqb (word % 2) 1
has_bit word (suc k) = has_bit (word / 2) k

unfoldable pub is_in : List ℕ → ℕ → Bool
is_in cover i = has_bit (get_or cover (i / 64) 0) (i % 64)

-- the set with a number put in, and with a member taken out
unfoldable pub with_number : List ℕ → ℕ → List ℕ
with_number cover i = set cover (i / 64) (bit_or (get_or cover (i / 64) 0) (2 ^ (i % 64)))

unfoldable pub without_member : List ℕ → ℕ → List ℕ
without_member cover i = set cover (i / 64) (bit_xor (get_or cover (i / 64) 0) (2 ^ (i % 64)))

-- The numbers below a place are not in the set.
abbrev pub NoneBelow : List ℕ → ℕ → Type 0
NoneBelow cover place = (i : ℕ) → i < place → is_in cover i ≡ false

-- The number is the least member.
pub record LeastAt (cover : List ℕ) (least : ℕ) : Type 0 where
  pub inside : least < table_rows
  pub member : is_in cover least ≡ true
  pub before : NoneBelow cover least

-- The answer is the least member; none says that there is none.
abbrev pub LeastIn : List ℕ → Option ℕ → Type 0
LeastIn cover (Some least) = LeastAt cover least
LeastIn cover None = NoneBelow cover table_rows
