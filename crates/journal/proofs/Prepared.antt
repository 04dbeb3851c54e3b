-- A journal gone through on a prepared list: its kept part is the paper's, and the marks hold it.
-- Assumes nothing.
use Prim.Native.Nat.{ℕ, ◌≤◌, ◌<◌}
use native.Mathlib.Omega.{arith}
use mathlib.Core.Path.{◌≡◌, sym, ◌∙◌, ap}
use mathlib.Core.Bool.{true}
use mathlib.Core.List.{List, []}
use lib.ListN.{length, take, get_or, replicate}
use lib.Seq.{get_or-take, length-take-le, take_all}
use Rattle.std.proofs.lemmas.List.{get_or-map}
use Rattle.infon.specs.Formula.{Formula, True}
use Rattle.infon.specs.Listing.{is_listed}
use Rattle.infon.specs.Rules.{numbered}
use Rattle.infon.specs.Journal.{kept_of}
use Rattle.infon.proofs.Listed.{numbered_mem}
use Rattle.formulas.specs.Table.{number_in, table_rows, table_cells}
use Rattle.formulas.specs.Tests.{Held}
use Rattle.formulas.specs.Prepared.{Prepared, PreparedFor}
use Rattle.journal.specs.Kept.{Keeps}
use Rattle.journal.proofs.Holding.{held_zeros, kept_of_lem, kept_held}

module _ {hyps fs queries : List Formula} {t : List ℕ} {n : ℕ} {numbers : List ℕ} {asked : ℕ}
    (prepared : Prepared hyps fs queries t n numbers asked) where
  pub few : n ≤ table_rows
  few = let h = prepared.table.few in let e = prepared.count in omega arith

  pub wide : table_cells ≤ length t
  wide = prepared.table.long

  -- the number of a query, and that the list has it
  pub number_is : (i : ℕ) → i < asked → get_or numbers i 0 ≡ number_in fs (get_or queries i True)
  number_is i low =
      sym (get_or-take asked numbers i 0 low)
      ∙ (ap (λ (l : List ℕ). get_or l i 0) prepared.numbers_are
      ∙ get_or-map (number_in fs) queries i True 0 (let e = prepared.asked_are in omega arith))

  pub query_listed : (i : ℕ) → i < asked → is_listed (get_or queries i True) fs ≡ true
  unfolding numbered
  query_listed i low = prepared.listed (get_or queries i True) (numbered_mem queries i (let e = prepared.asked_are in omega arith))

  begin : Held hyps fs [] t n (replicate table_rows 0)
  begin = held_zeros hyps fs t n table_rows prepared.table prepared.count (omega arith)

  module _ {journal : List ℕ} {used kept : ℕ} {marks : List ℕ} (keeps : Keeps t n journal used (replicate table_rows 0) kept marks) where
    pub kept_is : kept ≡ length (kept_of hyps fs journal used)
    kept_is = keeps.counted ∙ ap length (kept_of_lem hyps fs t n journal used (replicate table_rows 0) begin)

    pub holds_kept : Held hyps fs (kept_of hyps fs journal used) t n marks
    holds_kept = rw keeps.marked (kept_held hyps fs t n journal used (replicate table_rows 0) begin)

-- the list is prepared for exactly the queries that are asked
pub only_asked : {file t : List ℕ} {n : ℕ} {numbers : List ℕ} {asked : ℕ} → PreparedFor file t n numbers asked
    → PreparedFor file t n (take asked numbers) (length (take asked numbers))
only_asked {numbers = numbers} {asked = asked} for =
    let p = for.prepared in
    let size : length (take asked numbers) ≡ asked = length-take-le asked numbers p.numbers_long in
    let all : take asked (take asked numbers) ≡ take asked numbers = take_all asked (take asked numbers) (omega arith) in
    rw size
    (record {
      accepted = for.accepted;
      prepared =
          record {
            table = p.table;
            count = p.count;
            asked_are = p.asked_are;
            listed = p.listed;
            numbers_long = omega arith;
            numbers_are = all ∙ p.numbers_are;
          };
    })
