-- The list is whole: what the buffers hold then, and what a refusal tells.
-- Assumes nothing.
use Prim.Native.Nat.{ℕ, zero, suc, ◌*◌, ◌≤◌, ◌<◌}
use native.Mathlib.Omega.{arith}
use mathlib.Core.Path.{◌≡◌, refl, ◌∙◌, ap, ap₂, subst}
use mathlib.Core.Logic.{inl}
use mathlib.Core.Bool.{true}
use mathlib.Core.List.{List}
use lib.ListN.{length, replicate, length-replicate}
use Rattle.std.proofs.lemmas.Bool.{and_from}
use Rattle.infon.specs.Formula.{Formula}
use Rattle.std.specs.Prelude.{Result, Ok, Err}
use Rattle.infon.specs.declared.Refusal.{Refusal}
use Rattle.infon.specs.Codes.{Verdict, passed}
use Rattle.infon.specs.Policy.{Entry, entries_of, hypotheses_of}
use Rattle.infon.specs.Listing.{list_of, most_listed, code5}
use Rattle.infon.specs.Rules.{Shape, truth, primitive, conjunction, implication, shape_of, numbered}
use Rattle.infon.proofs.Prefixes.{mem_listed}
use Rattle.infon.proofs.Listed.{PartsIn, list_shape_closed, numbered_mem, numbered_injective, code5_passed}
use Rattle.nodes.specs.Nodes.{Node, node_rows, count_nodes, nodes_of, NodesHeld}
use Rattle.formulas.specs.Table.{cell_of, table_rows, table_columns, rule_columns, table_cells, cell, parts_listed}
use Rattle.formulas.specs.Tests.{hypothesis_at, base_at}
use Rattle.columns.specs.Columns.{stride, nothing, column_of, filled, IsOwner, Owners}
use Rattle.columns.proofs.Columnwise.{filled_length, filled_cell, filled_others}
use Rattle.listing.specs.Forms.{Form, Owned, Placed, Entered}
use Rattle.listing.specs.Lines.{LinesReady, Clear, HypothesesMarked, QueriesNumbered}
use Rattle.listing.specs.Whole.{counted_by, NodesListed}
use Rattle.listing.specs.Outcome.{listed_by, base_in, TableFilled, queries_after, ListedFile}
use Rattle.listing.proofs.Cells.{is_owner, kind_column_lem, put_column_lem, left_column_lem, right_column_lem, bottom_column_lem, bottom_listed, base_column_lem}

-- The list is too long.
pub too_many : {file table queries cand keys owners : List ℕ} {by : Refusal} → NodesListed file (Err by) cand keys owners
    → ListedFile file table queries table queries (Err by)
unfolding counted_by listed_by queries_after
too_many {file} {table} {queries} {by = by} listed = each (code5 (entries_of file)) refl listed.answer
  where
    each : (v : Verdict) → code5 (entries_of file) ≡ v → Err by ≡ counted_by v (length (list_of (entries_of file)))
        → ListedFile file table queries table queries (Err by)
    each passed e answer = absurd (let z : ◌≡◌ {A = ℕ} 0 1 = cc in omega arith)
    each (Err other) e answer =
        let same : by ≡ other = cc in
        record {
          answer = rw e (ap (λ (r : Refusal). Err r) same);
          table_is = rw e refl;
          queries_are = rw e;
        }

-- The list is whole.
whole_by_lem : (L n : ℕ) (v : Verdict) → Ok n ≡ counted_by v L → (v ≡ passed) × (n ≡ L)
unfolding counted_by
whole_by_lem L n passed e = (refl, cc)
whole_by_lem L n (Err by) e = absurd (let z : ◌≡◌ {A = ℕ} 0 1 = cc in omega arith)

parts_listed_lem : (fs : List Formula) (shape : Shape) → PartsIn fs shape → parts_listed fs shape ≡ true
unfolding parts_listed
parts_listed_lem fs truth parts = refl
parts_listed_lem fs primitive parts = refl
parts_listed_lem fs (conjunction l r) parts = and_from _ _ (mem_listed parts.0) (mem_listed parts.1)
parts_listed_lem fs (implication l r) parts = and_from _ _ (mem_listed parts.0) (mem_listed parts.1)

module _ (file t : List ℕ) (held : NodesHeld file t) (table queries cand keys owners : List ℕ) (long : table_cells ≤ length table) (n : ℕ)
    (listed : NodesListed file (Ok n) cand keys owners) where
  abbrev es : List Entry
  es = entries_of file

  abbrev fs : List Formula
  fs = list_of (entries_of file)

  abbrev row : List Node
  row = nodes_of file

  code_passed : code5 es ≡ passed
  code_passed = (whole_by_lem (length fs) n (code5 es) listed.answer).0

  n_is : n ≡ length fs
  n_is = (whole_by_lem (length fs) n (code5 es) listed.answer).1

  tables : Entered row (count_nodes row) 0 fs cand keys owners (length fs)
  tables = listed.tables code_passed

  few : length fs ≤ table_rows
  few = code5_passed es code_passed

  placed : (b l : ℕ) → Form row b l → Placed row fs cand b l
  placed b l form = tables.placed b l form (inl form.below)

  owned : (i : ℕ) → i < length fs → Owned row fs keys owners i
  owned = tables.owned

  owners_are : (i : ℕ) → i < n → IsOwner file t owners i
  owners_are i h = is_owner file t held fs cand placed keys owners i (owned i (subst (λ (k : ℕ). i < k) n_is h))

  pub all_owned : Owners file t owners n
  all_owned = record { few = omega (arith, n_is, few); owned = owners_are }

  pub lines_ready : LinesReady file cand
  unfolding most_listed
  lines_ready = record { few = few; placed = placed }

  -- the columns are set
  module _ {set-table : List ℕ} (set_is : set-table ≡ filled t cand keys owners n table) where
    set_length : length set-table ≡ length table
    set_length = ap length set_is ∙ filled_length t cand keys owners n table

    set_cell : (k i : ℕ) → k < table_columns → i < length fs → cell set-table k i ≡ column_of t cand keys owners k i
    set_cell k i less h = rw set_is (filled_cell t cand keys owners n table (omega (arith, n_is, few)) long k i less (omega (arith, n_is)))

    pub now_clear : Clear file set-table
    unfolding column_of nothing
    now_clear = record { long = omega (arith, set_length, long); zeros = λ k h. set_cell hypothesis_at k (omega arith) h }

    -- the hypotheses are marked
    module _ {last : List ℕ} (marked : HypothesesMarked file set-table last) where
      last_cell : (k i : ℕ) → k < table_columns → (k ≡ hypothesis_at → ⊥) → i < length fs → cell last k i ≡ column_of t cand keys owners k i
      last_cell k i less apart h = marked.others k i (omega (arith, few)) (λ e. absurd (apart e)) ∙ set_cell k i less h

      cells : (k i : ℕ) → k < rule_columns → i < length fs → cell last k i ≡ cell_of k (hypotheses_of es) fs (numbered fs i)
      unfolding cell_of column_of
      cells zero i less h =
          last_cell 0 i (omega arith) (λ e. omega arith) h ∙ kind_column_lem file t held fs cand placed keys owners i (owned i h)
      cells (suc zero) i less h =
          last_cell 1 i (omega arith) (λ e. omega arith) h ∙ put_column_lem file t held fs cand placed keys owners i (owned i h)
      cells (suc (suc zero)) i less h =
          last_cell 2 i (omega arith) (λ e. omega arith) h ∙ left_column_lem file t held fs cand placed keys owners i (owned i h)
      cells (suc (suc (suc zero))) i less h =
          last_cell 3 i (omega arith) (λ e. omega arith) h ∙ right_column_lem file t held fs cand placed keys owners i (owned i h)
      cells (suc (suc (suc (suc zero)))) i less h =
          last_cell 4 i (omega arith) (λ e. omega arith) h ∙ bottom_column_lem file t held fs cand placed keys owners i (owned i h)
      cells (suc (suc (suc (suc (suc zero))))) i less h = marked.cells i h
      cells (suc (suc (suc (suc (suc (suc k)))))) i less h = absurd (omega arith)

      bases : (i : ℕ) → i < length fs → cell last base_at i ≡ base_in row (numbered fs i)
      unfolding column_of
      bases i h =
          last_cell base_at i (omega arith) (λ e. omega arith) h
          ∙ base_column_lem file t held fs cand placed keys owners i (owned i h)

      others_by : (k i : ℕ) → i < table_rows → length fs ≤ i → cell last k i ≡ cell table k i
      others_by k i less behind =
          marked.others k i less (λ e. behind) ∙ rw set_is (filled_others t cand keys owners n table k i less (omega (arith, n_is)))

      table_filled : TableFilled es table last
      unfolding nodes_of
      table_filled =
          record {
            size = marked.size ∙ set_length;
            holds =
                record {
                  few = few;
                  long = omega (arith, marked.size, set_length, long);
                  cells = cells;
                  once = numbered_injective es;
                  parts = λ i h. parts_listed_lem fs (shape_of (numbered fs i)) ((list_shape_closed es).parts (numbered_mem fs i h));
                  bottoms = λ i h. bottom_listed file t held fs cand placed keys owners i (owned i h);
                };
            bases = bases;
            others = others_by;
          }

      pub all_listed : {queries' : List ℕ} {q : ℕ} → QueriesNumbered file queries queries' q
          → ListedFile file table queries last queries' (Ok (record { formulas = n; queries = q }))
      unfolding listed_by queries_after
      all_listed numbered-are =
          record {
            answer = rw code_passed (ap₂ (λ (a b : ℕ). Ok (record { formulas = a; queries = b })) n_is numbered-are.count);
            table_is = rw code_passed table_filled;
            queries_are = rw code_passed numbered-are.numbers;
          }

-- The tables of a list to which no code 5 applies: as long as they have to be, and whole.
pub record WholeList (file t : List ℕ) (count : ℕ) (table queries cand keys owners : List ℕ) (n : ℕ) : Type 0 where
  pub held : NodesHeld file t
  pub all : count ≡ count_nodes (nodes_of file)
  pub table_size : length table ≡ table_cells
  pub queries_long : node_rows ≤ length queries
  pub cand_long : node_rows * stride ≤ length cand
  pub keys_long : table_rows ≤ length keys
  pub owners_long : table_rows ≤ length owners
  pub listed : NodesListed file (Ok n) cand keys owners
  pub passes : code5 (entries_of file) ≡ passed
  pub whole : n ≡ length (list_of (entries_of file))

still_long : (n : ℕ) (s : List ℕ) → length s ≡ length {A = ℕ} (replicate n 0) → n ≤ length s
still_long n s e = omega (arith, length-replicate {A = ℕ} n 0)

-- where the nodes were listed with no refusal, the list is whole
pub whole_list : {file t : List ℕ} {count : ℕ} {table queries : List ℕ} {counted : Result ℕ Refusal} {n : ℕ}
    → NodesHeld file t → count ≡ count_nodes (nodes_of file) → length table ≡ table_cells → node_rows ≤ length queries
    → (cand : List ℕ) → length cand ≡ length {A = ℕ} (replicate 16384 0)
    → (keys : List ℕ) → length keys ≡ length {A = ℕ} (replicate 4112 0)
    → (owners : List ℕ) → length owners ≡ length {A = ℕ} (replicate 4112 0)
    → NodesListed file counted cand keys owners → counted ≡ Ok n
    → WholeList file t count table queries cand keys owners n
whole_list {file} {n = n} held all table_size queries_long cand c keys k owners o listed counted_is =
    let listed_all : NodesListed file (Ok n) cand keys owners = subst (λ (r : Result ℕ Refusal). NodesListed file r cand keys owners) counted_is listed in
    let known = whole_by_lem (length (list_of (entries_of file))) n (code5 (entries_of file)) listed_all.answer in
    record {
      held = held;
      all = all;
      table_size = table_size;
      queries_long = queries_long;
      cand_long = still_long 16384 cand c;
      keys_long = omega (arith, still_long 4112 keys k);
      owners_long = omega (arith, still_long 4112 owners o);
      listed = listed_all;
      passes = known.0;
      whole = known.1;
    }
