-- 01, "From the desk, on both sides": the texts of which all that is printed is made.
use Rattle.std.specs.Prelude.{ℕ, zero, suc, ◌+◌, ◌/◌, ◌%◌, cond, List, [], ◌∷◌, ◌++◌, eqb, ltb}
use Rattle.infon.specs.Bytes.{bytes, space, line_feed}

-- the decimal digits of a number, the most significant first and no zero in front, where it has at most so many
unfoldable pub digits_of : ℕ → ℕ → List ℕ
digits_of zero n = []
digits_of (suc more) n =
    let before = digits_of more (n / 10) in
    cond (ltb n 10) ((48 + n) ∷ []) (before ++ ((48 + n % 10) ∷ []))

-- a number in decimal; none of the machine's has more than 20 digits
unfoldable pub decimal_of : ℕ → List ℕ
decimal_of n = digits_of 20 n

-- the word for an answer's byte: 1 is yes, 0 is no, any other is open
unfoldable pub word_of : ℕ → List ℕ
word_of answer = cond (eqb answer 1) (bytes "yes") (cond (eqb answer 0) (bytes "no") (bytes "open"))

-- "the query's count .., a space, `yes` or `no`", and what stands behind that
unfoldable pub line_of : ℕ → ℕ → List ℕ → List ℕ
line_of count answer behind = decimal_of count ++ (space ∷ (word_of answer ++ (behind ++ (line_feed ∷ []))))

-- "prints only `refused`, the code and the place, with single spaces"
unfoldable pub printed_refusal : ℕ → ℕ → List ℕ
printed_refusal code place =
    bytes "refused" ++ (space ∷ decimal_of code ++ (space ∷ decimal_of place ++ (line_feed ∷ [])))
