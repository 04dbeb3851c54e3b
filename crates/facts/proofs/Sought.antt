-- From line to line: the line that is sought is the one looked at, or one of those still ahead.
-- Assumes nothing.
use Prim.Native.Nat.{ℕ, suc, ◌+◌, ◌≤◌, ◌<◌}
use Prim.Native.Char.{code}
use native.Mathlib.Omega.{arith}
use mathlib.Core.Path.{◌≡◌, refl, sym, ◌∙◌, ap, subst}
use mathlib.Core.Bool.{Bool, true, false, ◌&&◌}
use mathlib.Core.List.{List, ◌∷◌}
use lib.Dec.{eqb}
use Rattle.infon.specs.Formula.{Formula, same, nodes}
use Rattle.infon.specs.Policy.{Sentence, hypothesis, query, Entry, entries_of, formula_in}
use Rattle.nodes.specs.Nodes.{node_at, count_nodes, nodes_of, node_cell, node_end}
use Rattle.nodes.proofs.Order.{nodes_positive}
use Rattle.prefix.specs.Told.{ToldBy}
use Rattle.prefix.proofs.Shown.{end_cell}
use Rattle.listing.proofs.Letters.{letter_byte, LinesAhead, all_ahead, NextLine, next_line, none_ahead}
use Rattle.facts.specs.Facts.{is_fact, fact_line, Askable}
use Rattle.facts.specs.OneLine.{fact_at, LineAsked}

-- a line's letter and formula say whether it is a fact
sentence_fact : (x : Formula) (s : Sentence) → eqb (letter_byte s) (code "H") && same x (formula_in s) ≡ is_fact x s
unfolding letter_byte formula_in is_fact
sentence_fact x (hypothesis y) = refl
sentence_fact x (query y) = refl

-- How far the loop has come: no line before this one is sought.
pub record Sought (file t : List ℕ) (b puts line r : ℕ) : Type 0 where
  pub es : List Entry
  pub ahead : LinesAhead file r es
  pub few : line ≤ r + 1
  pub from : (x : Formula) → ToldBy file t b puts x → fact_line x (entries_of file) + 1 ≡ line + fact_line x es

pub sought_begin : (file t : List ℕ) (b puts : ℕ) → Sought file t b puts 1 0
sought_begin file t b puts =
    record { es = entries_of file; ahead = all_ahead file; few = omega arith; from = λ x told. omega arith }

first_fact : (x : Formula) (e : Entry) (rest : List Entry) → is_fact x e.sentence ≡ true → fact_line x (e ∷ rest) ≡ 1
unfolding fact_line
first_fact x e rest h = rw h

later_fact : (x : Formula) (e : Entry) (rest : List Entry) → is_fact x e.sentence ≡ false → fact_line x (e ∷ rest) ≡ suc (fact_line x rest)
unfolding fact_line
later_fact x e rest h = rw h

module _ (file t : List ℕ) (count b puts line r : ℕ) (asked : Askable file t count b puts) (so : Sought file t b puts line r) (h : r < count) where
  pub node_below : r < count_nodes (nodes_of file)
  node_below = subst (λ (k : ℕ). r < k) asked.all h

  abbrev this : NextLine file r so.es
  this = next_line file r so.es so.ahead node_below

  pub line_asked : LineAsked file t r b puts
  line_asked =
      record {
        formula = asked.formula;
        told = asked.told;
        below = node_below;
        outermost = this.pre;
        inside = rw this.line this.inside;
      }

  fact_is : (x : Formula) → fact_at file r x ≡ is_fact x this.entry.sentence
  unfolding fact_at
  fact_is x = rw (this.line, this.letter, this.what) (sentence_fact x this.entry.sentence)

  module _ (found : Bool) (answer : (x : Formula) → ToldBy file t b puts x → found ≡ fact_at file r x) where
    pub sought_here : found ≡ true → (x : Formula) → ToldBy file t b puts x → line ≡ fact_line x (entries_of file)
    sought_here here x told =
        let first : fact_line x so.es ≡ 1 =
        ap (fact_line x) this.first
        ∙ first_fact x this.entry this.rest (sym (fact_is x) ∙ (sym (answer x told) ∙ here)) in
        omega (arith, so.from x told)

    pub sought_on : found ≡ false → {end : ℕ} → end ≡ node_cell t node_end r → Sought file t b puts (line + 1) end
    sought_on other {end} e =
        let behind : end ≡ r + nodes (node_at (nodes_of file) r).what = e ∙ end_cell file t asked.told.held r node_below in
        record {
          es = this.rest;
          ahead = rw behind this.later;
          few = omega (arith, so.few, nodes_positive (node_at (nodes_of file) r).what);
          from =
              λ x told.
              let later : fact_line x so.es ≡ suc (fact_line x this.rest) =
              ap (fact_line x) this.first
              ∙ later_fact x this.entry this.rest (sym (fact_is x) ∙ (sym (answer x told) ∙ other)) in
              omega (arith, so.from x told);
        }

  pub further : {end : ℕ} → end ≡ node_cell t node_end r → r < end
  further {end} e = omega (arith, e, end_cell file t asked.told.held r node_below, nodes_positive (node_at (nodes_of file) r).what)

pub sought_over : (file t : List ℕ) (count b puts line r : ℕ) → Askable file t count b puts → Sought file t b puts line r → count ≤ r
    → (x : Formula) → ToldBy file t b puts x → line ≡ fact_line x (entries_of file)
unfolding fact_line
sought_over file t count b puts line r asked so h x told =
    let none : fact_line x so.es ≡ 1 =
    ap (fact_line x) (none_ahead file r so.es so.ahead (subst (λ (k : ℕ). k ≤ r) asked.all h)) in
    omega (arith, so.from x told)
