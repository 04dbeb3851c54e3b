-- How many answers a text has room for.
-- Assumes nothing.
use Prim.Native.Nat.{ℕ, ◌≤◌}
use native.Mathlib.Omega.{arith}
use mathlib.Core.Path.{◌≡◌}
use mathlib.Core.Bool.{true, false}
use mathlib.Core.Logic.{⊎_elim}
use mathlib.Core.List.{List}
use lib.ListN.{length}
use lib.Dec.{ltb}
use Rattle.std.proofs.lemmas.Bool.{cases_Bool}
use Rattle.settling.specs.Settled.{text_bytes, answer_room}

pub room_few : (text : List ℕ) → answer_room text ≤ 1024
unfolding answer_room
room_few text =
    ⊎_elim (λ (h : ltb (length text) text_bytes ≡ true). rw h (omega arith))
    (λ (h : ltb (length text) text_bytes ≡ false). rw h (omega arith)) (cases_Bool (ltb (length text) text_bytes))
