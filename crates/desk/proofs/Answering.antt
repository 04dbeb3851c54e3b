-- The text of a call settled from an empty journal is the desk's.
-- Assumes nothing.
use Prim.Native.Nat.{ℕ, ◌≤◌}
use mathlib.Core.Bool.{false}
use mathlib.Core.List.{List}
use lib.ListN.{length, replicate}
use borrow.Author.Tests.{le-ltb}
use Rattle.writing.specs.Placed.{Prints}
use Rattle.printing.specs.Printed.{printed_of}
use Rattle.settling.specs.Settled.{text_bytes, answer_room, settled_run, text_of, settled_text}
use Rattle.desk.specs.Desk.{desk_run, desk_text}

pub settled_desk : (file text : List ℕ) → text_bytes ≤ length text → (n : ℕ) (printed : List ℕ)
    → Prints (settled_text file (replicate 36864 0) 0 4096 false text) text n printed → Prints (desk_text file) text n printed
unfolding settled_text text_of settled_run answer_room desk_text desk_run printed_of
settled_desk file text long n printed p = rw (le-ltb (length text) text_bytes long) at p
