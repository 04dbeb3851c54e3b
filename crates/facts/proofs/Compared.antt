-- A line's formula against the formula that a node and put places tell: the same core, the same principals and the same put places.
-- Assumes nothing.
use Prim.Native.Nat.{ℕ, ◌<◌}
use Prim.Native.Char.{code}
use mathlib.Core.Path.{◌≡◌, sym, ◌∙◌, ap, ap₂, subst}
use mathlib.Core.Bool.{true, false, true≢false}
use mathlib.Core.List.{List, []}
use lib.ListN.{get_or}
use lib.Dec.{eqb}
use borrow.Author.Tests.{eq-eqb, eqb-true, ne_eqb}
use Rattle.std.proofs.lemmas.Bool.{false_from_ne_true}
use Rattle.infon.specs.Formula.{Formula, same}
use Rattle.infon.specs.Listing.{Prefix, wrap}
use Rattle.infon.specs.Rules.{prefix_under, core_of}
use Rattle.infon.proofs.Same.{same_refl, same_eq}
use Rattle.infon.proofs.Prefixes.{wrap_core}
use Rattle.formulas.specs.Table.{put_mask, all_put}
use Rattle.formulas.proofs.Numbers.{same_test}
use Rattle.nodes.specs.Nodes.{Node, node_at, count_nodes, nodes_of, node_cell, node_line}
use Rattle.prefix.specs.Places.{used, prefix_at, puts_of}
use Rattle.prefix.specs.Told.{ToldBy}
use Rattle.prefix.proofs.Chosen.{same_prefix}
use Rattle.prefix.proofs.Shown.{shown_puts, prefix_shown, line_cell}
use Rattle.twins.specs.Twins.{are_twins}
use Rattle.twins.proofs.Same.{twins_eq, eq_twins}
use Rattle.facts.specs.OneLine.{base_of, fact_at, LineAsked}
use Rattle.facts.proofs.Bases.{IsBase, base_is}

whole : (x : Formula) → wrap (prefix_under [] x) (core_of x) ≡ x
unfolding wrap
whole x = wrap_core [] x

module _ (file t : List ℕ) (r b puts : ℕ) (asked : LineAsked file t r b puts) where
  abbrev row : List Node
  row = nodes_of file

  abbrev i : ℕ
  i = base_of row r

  abbrev y : Formula
  y = (node_at row r).what

  base : IsBase row [] y i
  base = subst (λ (w : Prefix). IsBase row w y i) asked.outermost (base_is row r asked.below)

  pub base_below : i < count_nodes row
  base_below = base.below

  base_puts : puts_of (used (prefix_at t i)) ≡ put_mask (prefix_under [] y)
  base_puts =
      shown_puts row (used (prefix_at t i))
      ∙ ap put_mask (prefix_shown file t asked.told.held i base_below ∙ base.prefix)

  module _ (x : Formula) (told : ToldBy file t b puts x) where
    -- where the formulas are the same, both tests pass
    same_twins : x ≡ y → are_twins (node_at row i) (node_at row b) ≡ true
    same_twins e =
        eq_twins (node_at row i) (node_at row b) (base.core ∙ (ap core_of (sym e) ∙ told.core))
        (ap all_put (base.prefix ∙ ap (prefix_under []) (sym e)) ∙ told.principals)

    same_puts : x ≡ y → puts_of (used (prefix_at t i)) ≡ puts
    same_puts e = base_puts ∙ (ap (λ (z : Formula). put_mask (prefix_under [] z)) (sym e) ∙ sym told.puts_are)

    -- where both tests pass, the formulas are the same
    tested_same : are_twins (node_at row i) (node_at row b) ≡ true → puts_of (used (prefix_at t i)) ≡ puts → x ≡ y
    tested_same twins equal =
        let alike = twins_eq (node_at row i) (node_at row b) twins in
        let prefixes : prefix_under [] x ≡ prefix_under [] y =
        same_prefix (prefix_under [] x) (prefix_under [] y)
        (told.principals ∙ (sym alike.1 ∙ ap all_put base.prefix))
        (sym told.puts_are ∙ (sym equal ∙ base_puts)) in
        let cores : core_of x ≡ core_of y = told.core ∙ (sym alike.0 ∙ base.core) in
        sym (whole x) ∙ (ap₂ wrap prefixes cores ∙ whole y)

    -- what each test of the code says
    module _ (line : ℕ) (e : line ≡ node_cell t node_line r) where
      letter_is : get_or file line 0 ≡ get_or file (node_at row r).line 0
      letter_is = ap (λ (n : ℕ). get_or file n 0) (e ∙ line_cell file t told.held r asked.below)

      pub no_letter : (get_or file line 0 ≡ code "H" → ⊥) → false ≡ fact_at file r x
      unfolding fact_at
      no_letter other = rw (← letter_is, ne_eqb (get_or file line 0) (code "H") other)

      module _ (letter : get_or file line 0 ≡ code "H") where
        fact_same : fact_at file r x ≡ same x y
        unfolding fact_at
        fact_same = rw (← letter_is, eq-eqb (get_or file line 0) (code "H") letter)

        pub no_twins : are_twins (node_at row i) (node_at row b) ≡ false → false ≡ fact_at file r x
        no_twins apart =
            sym (fact_same ∙ false_from_ne_true (same x y) (λ h. true≢false (sym (same_twins (same_eq x y h)) ∙ apart)))

        pub twins_puts : are_twins (node_at row i) (node_at row b) ≡ true → eqb (puts_of (used (prefix_at t i))) puts ≡ fact_at file r x
        twins_puts twins =
            same_test (eqb (puts_of (used (prefix_at t i))) puts) (same x y)
            (λ h. subst (λ (z : Formula). same x z ≡ true) (tested_same twins (eqb-true (puts_of (used (prefix_at t i))) puts h)) (same_refl x))
            (λ h. eq-eqb (puts_of (used (prefix_at t i))) puts (same_puts (same_eq x y h)))
            ∙ sym fact_same
