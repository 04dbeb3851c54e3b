-- The list node by node: from one node to the next, and what all nodes come to.
-- Assumes nothing.
use Prim.Native.Nat.{ℕ, suc, ◌+◌, ◌≤◌, ◌<◌}
use native.Mathlib.Numerals.{add-one}
use native.Mathlib.Omega.{arith}
use mathlib.Core.Path.{◌≡◌, refl, sym, ◌∙◌, ap, subst}
use mathlib.Core.Logic.{◌⊎◌, inl, inr, ⊎_elim}
use mathlib.Core.Bool.{true, false, true≢false}
use mathlib.Core.List.{List}
use lib.ListN.{length}
use lib.Dec.{ltb}
use borrow.Author.Tests.{ltb-true, ltb-false}
use Rattle.std.proofs.lemmas.Bool.{cases_Bool}
use Rattle.infon.specs.Formula.{Formula}
use Rattle.infon.specs.Codes.{passed, refused}
use Rattle.infon.specs.Policy.{entries_of}
use Rattle.infon.specs.Listing.{weakened, enlist, list_of, most_listed, code5}
use Rattle.nodes.specs.Nodes.{Node, after, node_at, roots, count_nodes, nodes_of, kind_of, node_rows, node_kind, node_line, node_cell, NodesHeld}
use Rattle.prefix.specs.declared.Prefix.{Prefix}
use Rattle.prefix.specs.Places.{used, prefix_at, weaker_count_of}
use Rattle.prefix.specs.Weaker.{weaker_count, is_base}
use Rattle.prefix.proofs.Chosen.{weaker_count_bound, weaker_count_positive}
use Rattle.columns.proofs.Steps.{form_kind}
use Rattle.nodes.specs.declared.Kind.{Kind}
use Rattle.nodes.specs.Columns.{kind_by, number_of}
use Rattle.std.specs.Prelude.{Ok, Err}
use Rattle.prefix.proofs.Shown.{kind_cell, line_cell, count_few, pre_few, prefix_sized, node_weaker, node_puts}
use Rattle.prefix.proofs.Inside.{base_kind, quoted_kind}
use Rattle.twins.specs.Twins.{twin_of}
use Rattle.twins.proofs.Same.{twin_most}
use Rattle.listing.specs.Forms.{own_forms, listed_to, Form, Entered, BaseOf, FormsReady}
use Rattle.listing.specs.Whole.{counted_by, NodesListed}
use Rattle.listing.proofs.Asked.{listed_all, code5_of, code5_begins, code5_turn, code5_over, code5_end}

-- A form done behind node i is one of node i or of an earlier one.
module _ (row : List Node) (i m : ℕ) (fs : List Formula) (cand keys owners : List ℕ) (n : ℕ) (so : Entered row i m fs cand keys owners n)
    (done : (l : ℕ) → Form row i l → l < m) where
  earlier : (b l : ℕ) → Form row b l → (b < i + 1) ⊎ ((b ≡ i + 1) × (l < 0)) → (b < i) ⊎ ((b ≡ i) × (l < m))
  earlier b l form (inl less) =
      ⊎_elim (λ (h : ltb b i ≡ true). inl (ltb-true b i h))
      (λ (h : ltb b i ≡ false).
      let e : b ≡ i = omega (arith, ltb-false b i h) in
      inr (e, done l (subst (λ (c : ℕ). Form row c l) e form)))
      (cases_Bool (ltb b i))
  earlier b l form (inr none) = absurd (omega (arith, none.1))

  pub next_node : Entered row (i + 1) 0 fs cand keys owners n
  next_node =
      record {
        count = so.count;
        owned = so.owned;
        placed = λ b l form when. so.placed b l form (earlier b l form when);
      }

module _ (row : List Node) (i : ℕ) where
  base_listed : is_base (node_at row i).what ≡ true
      → enlist (listed_to row i) (weakened (node_at row i).pre (node_at row i).what) ≡ listed_to row (suc i)
  unfolding listed_to own_forms
  base_listed base = rw base

  quotation_listed : is_base (node_at row i).what ≡ false → listed_to row i ≡ listed_to row (suc i)
  unfolding listed_to own_forms enlist
  quotation_listed no_base = rw no_base

-- the kind that was read of a node, by its number
pub kind_read : (file t : List ℕ) (held : NodesHeld file t) (i : ℕ) → i < count_nodes (nodes_of file) → {kind : Kind}
    → kind ≡ kind_by (node_cell t node_kind i) → number_of kind ≡ node_cell t node_kind i
kind_read file t held i below read = form_kind file t held i 0 (below, weaker_count_positive (node_at (nodes_of file) i).pre) read

-- One node.
module _ (file t : List ℕ) (held : NodesHeld file t) (i : ℕ) (below : i < count_nodes (nodes_of file)) (kind : ℕ)
    (read : kind ≡ node_cell t node_kind i) where
  abbrev row : List Node
  row = nodes_of file

  kind_is : kind ≡ kind_of (node_at row i).what
  kind_is = read ∙ kind_cell file t held i below

  pub quotation_passed : {cand keys owners : List ℕ} {n : ℕ} → 4 ≤ kind → Entered row i 0 (listed_to row i) cand keys owners n
      → Entered row (i + 1) 0 (listed_to row (suc i)) cand keys owners n
  quotation_passed {cand} {keys} {owners} {n} h so_far =
      let no_base = quoted_kind (node_at row i).what (subst (λ (k : ℕ). 4 ≤ k) kind_is h) in
      subst (λ (fs : List Formula). Entered row (i + 1) 0 fs cand keys owners n) (quotation_listed row i no_base)
      (next_node row i 0 (listed_to row i) cand keys owners n so_far
      (λ l form. absurd (true≢false (sym form.base ∙ no_base))))

  module _ (h : kind < 4) (twin : ℕ) (p : Prefix) (twin_is : twin ≡ twin_of row i) (p_is : p ≡ prefix_at t i) where
    base_here : is_base (node_at row i).what ≡ true
    base_here = base_kind (node_at row i).what (subst (λ (k : ℕ). k < 4) kind_is h)

    weaker_here : weaker_count_of (used p) ≡ weaker_count (node_at row i).pre
    weaker_here = ap (λ (q : Prefix). weaker_count_of (used q)) p_is ∙ node_weaker file t held i below

    pub base_of_lem : BaseOf row p twin i
    base_of_lem =
        record {
          shallow = pre_few file t held;
          below = below;
          is_base_lem = base_here;
          weaker_are = weaker_here;
          puts_are = λ m. rw p_is (node_puts file t held i below m);
          twin_is = twin_is;
        }

    pub forms_ready : {n : ℕ} → n ≤ most_listed → FormsReady p twin i n
    forms_ready few =
        let row_few : i < node_rows = omega (arith, below, count_few file t held) in
        record {
          sized = rw p_is (prefix_sized file t held i below);
          few_weaker = rw weaker_here (weaker_count_bound (node_at row i).pre (pre_few file t held i below));
          twin_few = omega (arith, twin_is, twin_most row i);
          base_few = row_few;
          count_few = few;
        }

    pub base_entered : {cand' keys' owners' : List ℕ} {r : ℕ}
        → Entered row i (weaker_count (node_at row i).pre) (enlist (listed_to row i) (weakened (node_at row i).pre (node_at row i).what)) cand' keys' owners' r
        → Entered row (i + 1) 0 (listed_to row (suc i)) cand' keys' owners' r
    base_entered {cand'} {keys'} {owners'} {r} so =
        subst (λ (fs : List Formula). Entered row (i + 1) 0 fs cand' keys' owners' r) (base_listed row i base_here)
        (next_node row i (weaker_count (node_at row i).pre) (enlist (listed_to row i) (weakened (node_at row i).pre (node_at row i).what)) cand' keys' owners' r
        so (λ l form. form.less))

-- The loop over the nodes.
pub record NodesTo (file : List ℕ) (cand keys owners : List ℕ) (n i : ℕ) : Type 0 where
  pub few : n ≤ most_listed
  pub tables : Entered (nodes_of file) i 0 (listed_to (nodes_of file) i) cand keys owners n
  pub code : code5 (entries_of file) ≡ code5_of (listed_to (nodes_of file) i) (after 0 i (nodes_of file))

pub nodes_begin : (file cand keys owners : List ℕ) → NodesTo file cand keys owners 0 0
unfolding nodes_of listed_to most_listed
nodes_begin file cand keys owners =
    record {
      few = omega arith;
      tables =
          record {
            count = refl;
            owned = λ k h. absurd (omega arith);
            placed = λ b l form when. absurd (nothing b l when);
          };
      code = code5_begins (entries_of file);
    }
  where
    nothing : (b l : ℕ) → (b < 0) ⊎ ((b ≡ 0) × (l < 0)) → ⊥
    nothing b l (inl h) = omega arith
    nothing b l (inr h) = omega (arith, h.1)

module _ {file t : List ℕ} (held : NodesHeld file t) {cand keys owners : List ℕ} {n i : ℕ} (so : NodesTo file cand keys owners n i)
    (h : i < count_nodes (nodes_of file)) where
  module _ {cand' keys' owners' : List ℕ} {r : ℕ} (next : Entered (nodes_of file) (i + 1) 0 (listed_to (nodes_of file) (suc i)) cand' keys' owners' r) where
    pub nodes_on : r ≤ 4096 → NodesTo file cand' keys' owners' r (i + 1)
    unfolding nodes_of most_listed
    nodes_on few =
        record {
          few = few;
          tables = rw (add-one i) (rw (add-one i) at next);
          code = rw (add-one i) (code5_turn (entries_of file) i h (subst (λ (k : ℕ). k ≤ most_listed) next.count few) so.code);
        }

    over_code : 4096 < r → code5 (entries_of file) ≡ refused 5 (node_at (nodes_of file) i).line
    unfolding nodes_of most_listed
    over_code over =
        code5_over (entries_of file) i h (subst (λ (k : ℕ). k ≤ 4096) so.tables.count so.few) (subst (λ (k : ℕ). 4096 < k) next.count over) so.code

    pub nodes_over : 4096 < r → {place : ℕ} → place ≡ node_cell t node_line i → {cand'' keys'' owners'' : List ℕ}
        → NodesListed file (Err (record { code = 5; place = place })) cand'' keys'' owners''
    unfolding counted_by
    nodes_over over place_is =
        let code = over_code over in
        record {
          answer = rw code (ap (λ (p : ℕ). Err (record { code = 5; place = p })) (place_is ∙ line_cell file t held i h));
          tables = λ fine. absurd (let z : ◌≡◌ {A = ℕ} 0 1 = cc (fine, code) in omega arith);
        }

pub nodes_all : (file cand keys owners : List ℕ) (n : ℕ) → NodesTo file cand keys owners n (count_nodes (nodes_of file))
    → NodesListed file (Ok n) cand keys owners
unfolding nodes_of counted_by
nodes_all file cand keys owners n so =
    let entries = entries_of file in
    let row = roots entries in
    let whole : listed_to row (count_nodes row) ≡ list_of entries = listed_all entries in
    let code : code5 entries ≡ passed = code5_end entries so.code in
    let count : n ≡ length (list_of entries) = so.tables.count ∙ ap length whole in
    record {
      answer = rw code (ap (λ (k : ℕ). Ok k) count);
      tables = λ fine.
          subst (λ (k : ℕ). Entered row (count_nodes row) 0 (list_of entries) cand keys owners k) count
          (subst (λ (fs : List Formula). Entered row (count_nodes row) 0 fs cand keys owners n) whole so.tables);
    }
