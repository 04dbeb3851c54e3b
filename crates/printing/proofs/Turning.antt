-- One line of the file: where the part behind an answer lies, and what is put.
-- Assumes nothing.
use Prim.Native.Nat.{ℕ, ◌+◌, ◌-◌, ◌≤◌, ◌<◌}
use native.Mathlib.Omega.{arith}
use mathlib.Core.Path.{◌≡◌}
use mathlib.Core.Bool.{Bool, true, false}
use mathlib.Core.List.{List}
use lib.ListN.{length, get_or, take, drop, length-take}
use borrow.Author.Tests.{eq-eqb, ne_eqb}
use Rattle.writing.specs.Placed.{Put}
use Rattle.writing.specs.Texts.{line_of}
use Rattle.writing.proofs.Placing.{put_nothing}
use Rattle.printing.specs.Turned.{behind_from, query_line, letter_of_queries, Turned}

-- the part begins behind the letter, and not behind the line's end
pub from_places : (asked : Bool) (start end : ℕ) → start < end → (start < behind_from asked start end) × (behind_from asked start end ≤ end)
unfolding behind_from
from_places true start end h = (omega arith, omega arith)
from_places false start end h = (omega arith, omega arith)

module _ (file : List ℕ) (start end : ℕ) (asked : Bool) (answers : List ℕ) (count at : ℕ) (b : List ℕ) where
  -- another letter: nothing is put
  pub not_asking : (get_or file start 0 ≡ 81 → ⊥) → Turned file start end asked answers count at b (record { at = at; count = count }) b
  unfolding letter_of_queries
  not_asking h =
      let e = ne_eqb (get_or file start 0) 81 h in
      record { counts = rw e; puts = rw e (put_nothing at b) }

  module _ (letter : get_or file start 0 ≡ 81) (from : ℕ) (told : from ≡ behind_from asked start end) (wide : start < end)
      (room : at + 32 + (end - start) ≤ length b) where
    pub part_room : at + 32 + length (take (end - from) (drop from file)) ≤ length b
    part_room = omega (arith, length-take (end - from) (drop from file), (from_places asked start end wide).0)

    pub asking : (r : ℕ) (after : List ℕ) → Put (line_of (count + 1) (get_or answers count 0) (take (end - from) (drop from file))) at b r after
        → Turned file start end asked answers count at b (record { at = r; count = count + 1 }) after
    unfolding letter_of_queries query_line
    asking r after p =
        let e = eq-eqb (get_or file start 0) 81 letter in
        record { counts = rw e; puts = rw e (rw told at p) }
