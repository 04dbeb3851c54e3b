-- From the outermost place inwards: one quotation more is put.
-- Assumes nothing.
use Prim.Native.Nat.{ℕ, ◌-◌, ◌/◌, ◌%◌, ◌≤◌, ◌<◌}
use native.Mathlib.Omega.{arith}
use mathlib.Core.Path.{◌≡◌, ap, subst}
use mathlib.Core.List.{List, ◌++◌}
use lib.ListN.{length, get_or, take, drop}
use lib.Dec.{eqb}
use Rattle.prefix.specs.declared.Place.{Place}
use Rattle.prefix.specs.Places.{EachPlace, blank}
use Rattle.prefix.proofs.Loops.{one_more, nothing_out}
use Rattle.twins.specs.Twins.{principal_text, Quoting}
use Rattle.twins.proofs.Walks.{each_place}
use Rattle.writing.specs.Placed.{PutSome}
use Rattle.writing.proofs.Placing.{some_on, some_nothing}
use Rattle.wording.specs.Words.{said_word}
use Rattle.wording.specs.Prefixed.{bits_behind, place_words}

-- What is known when the places from k on are put.
pub record Prefixed (file t : List ℕ) (puts : ℕ) (out₀ : List ℕ) (at : ℕ) (places : List Place) (count : ℕ) (out : List ℕ) (k bits end : ℕ) : Type 0 where
  pub within : k ≤ count
  pub bits_are : bits ≡ bits_behind (length (drop k (take count places))) puts
  pub begun : PutSome (place_words file t (drop k (take count places)) puts) at out₀ end out

module _ (file t : List ℕ) (puts : ℕ) (out₀ : List ℕ) (at : ℕ) (places : List Place) (count : ℕ) where
  pub prefix_begins : Prefixed file t puts out₀ at places count out₀ count puts at
  unfolding bits_behind place_words
  prefix_begins =
      record { within = omega arith; bits_are = rw (nothing_out places count); begun = rw (nothing_out places count) (some_nothing at out₀) }

  module _ (fits : count ≤ length places) {out : List ℕ} {k bits end : ℕ} (going : Prefixed file t puts out₀ at places count out k bits end) (more : 0 < k) where
    pub place_quoting : EachPlace (Quoting file t) (take count places) → Quoting file t (get_or places (k - 1) blank).node
    place_quoting each = each_place (Quoting file t) places count (k - 1) blank fits (omega (arith, going.within)) each

    pub prefix_turns : at ≤ length out₀ → {next : ℕ} {out' : List ℕ}
        → PutSome (principal_text file t (get_or places (k - 1) blank).node ++ said_word (eqb (bits % 2) 0)) end out next out'
        → Prefixed file t puts out₀ at places count out' (k - 1) (bits / 2) next
    unfolding bits_behind place_words
    prefix_turns inside {next} {out'} put =
        let row = one_more places count k blank fits going.within more in
        let bits_are = going.bits_are in
        record {
          within = omega (arith, going.within);
          bits_are = rw row (ap (λ (n : ℕ). n / 2) bits_are);
          begun = rw row (some_on going.begun (subst (λ (n : ℕ). PutSome (principal_text file t (get_or places (k - 1) blank).node ++ said_word (eqb (n % 2) 0)) end out next out') bits_are put) inside);
        }
