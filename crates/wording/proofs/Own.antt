-- What a node of the file begins with in words, by its kind.
-- Assumes nothing.
use Prim.Native.Nat.{ℕ, ◌<◌, ◌≤◌}
use native.Mathlib.Omega.{arith}
use mathlib.Core.Path.{◌≡◌, refl, sym, ◌∙◌, ap, ap₂}
use mathlib.Core.Bool.{true, false}
use mathlib.Core.List.{List, [], ◌++◌}
use lib.Dec.{eqb}
use Rattle.infon.specs.Bytes.{bytes}
use Rattle.infon.specs.Formula.{Told, said, put, Formula, True, name, and, implies, quoted, spelling, words, joined}
use Rattle.nodes.specs.Nodes.{node_at, count_nodes, kind_of, nodes_of, node_cell, node_kind, NodesHeld}
use Rattle.nodes.specs.declared.Kind.{Kind}
use Rattle.nodes.specs.declared.Kind.TheVariants as Of
use Rattle.nodes.specs.Columns.{kind_by, number_of}
use Rattle.nodes.proofs.Order.{quoted_high}
use Rattle.prefix.proofs.Shown.{principal_of, kind_cell}
use Rattle.twins.specs.Twins.{principal_text, Quoting}
use Rattle.twins.proofs.Texts.{principal_text_lem, quoting}
use Rattle.wording.specs.Words.{said_word, told_word}
use Rattle.wording.specs.Waiting.{own_words}
use Rattle.wording.proofs.Named.{number_kind}

true_own : (x : Formula) → 0 ≡ kind_of x → bytes "what is true" ≡ own_words x
unfolding own_words kind_of
true_own True e = refl
true_own (name a) e = absurd (omega arith)
true_own (and x y) e = absurd (omega arith)
true_own (implies x y) e = absurd (omega arith)
true_own (quoted q x) e = absurd (omega (arith, e, quoted_high q x))

name_own : (x : Formula) → 1 ≡ kind_of x → spelling x ≡ own_words x
unfolding own_words kind_of spelling words joined
name_own True e = absurd (omega arith)
name_own (name a) e = refl
name_own (and x y) e = absurd (omega arith)
name_own (implies x y) e = absurd (omega arith)
name_own (quoted q x) e = absurd (omega (arith, e, quoted_high q x))

and_own : (x : Formula) → 2 ≡ kind_of x → [] ≡ own_words x
unfolding own_words kind_of
and_own True e = absurd (omega arith)
and_own (name a) e = absurd (omega arith)
and_own (and x y) e = refl
and_own (implies x y) e = absurd (omega arith)
and_own (quoted q x) e = absurd (omega (arith, e, quoted_high q x))

rule_own : (x : Formula) → 3 ≡ kind_of x → bytes "if " ≡ own_words x
unfolding own_words kind_of
rule_own True e = absurd (omega arith)
rule_own (name a) e = absurd (omega arith)
rule_own (and x y) e = absurd (omega arith)
rule_own (implies x y) e = refl
rule_own (quoted q x) e = absurd (omega (arith, e, quoted_high q x))

told_own : (told : Told) (p : List ℕ) (x : Formula) → told_word told ≡ said_word (eqb (kind_of (quoted (record { told = told; principal = p }) x)) 4)
unfolding told_word kind_of
told_own said p x = refl
told_own put p x = refl

-- A node of the file, and its kind as the cell shows it.
module _ (file t : List ℕ) (held : NodesHeld file t) (i : ℕ) (h : i < count_nodes (nodes_of file)) where
  abbrev here : Formula
  here = (node_at (nodes_of file) i).what

  pub known : {kind : Kind} → kind ≡ kind_by (node_cell t node_kind i) → number_of kind ≡ kind_of here
  known e = ap number_of (e ∙ ap kind_by (kind_cell file t held i h)) ∙ number_kind here

  pub own_true : Of.True ≡ kind_by (node_cell t node_kind i) → bytes "what is true" ≡ own_words here
  own_true e = true_own here (known e)

  pub own_name : Of.Name ≡ kind_by (node_cell t node_kind i) → spelling here ≡ own_words here
  own_name e = name_own here (known e)

  pub own_and : Of.And ≡ kind_by (node_cell t node_kind i) → [] ≡ own_words here
  own_and e = and_own here (known e)

  pub own_rule : Of.Implies ≡ kind_by (node_cell t node_kind i) → bytes "if " ≡ own_words here
  own_rule e = rule_own here (known e)

  told_here : (x : Formula) → here ≡ x → 4 ≤ kind_of x
      → Quoting file t i × (principal_text file t i ++ said_word (eqb (kind_of x) 4) ≡ own_words x)
  unfolding own_words kind_of principal_of
  told_here True f k = absurd (omega arith)
  told_here (name a) f k = absurd (omega arith)
  told_here (and x y) f k = absurd (omega arith)
  told_here (implies x y) f k = absurd (omega arith)
  told_here (quoted q x) f k = (
    quoting file t held i h q x f,
    ap₂ ◌++◌ (principal_text_lem file t held i h q x f ∙ ap principal_of f) (sym (told_own q.told q.principal x)),
  )

  pub own_said : Of.Said ≡ kind_by (node_cell t node_kind i) → Quoting file t i × (principal_text file t i ++ said_word true ≡ own_words here)
  own_said e =
      let four : 4 ≡ kind_of here = known e in
      let told = told_here here refl (omega arith) in
      (told.0, ap (λ (k : ℕ). principal_text file t i ++ said_word (eqb k 4)) four ∙ told.1)

  pub own_put : Of.Put ≡ kind_by (node_cell t node_kind i) → Quoting file t i × (principal_text file t i ++ said_word false ≡ own_words here)
  own_put e =
      let five : 5 ≡ kind_of here = known e in
      let told = told_here here refl (omega arith) in
      (told.0, ap (λ (k : ℕ). principal_text file t i ++ said_word (eqb k 4)) five ∙ told.1)
