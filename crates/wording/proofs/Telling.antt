-- What a node and put places tell of a formula is all of its words.
-- Assumes nothing.
use Prim.Native.Nat.{ℕ, ◌+◌, ◌*◌, ◌^◌, ◌≤◌}
use native.Mathlib.Nat.{zero-mul, add-zero}
use mathlib.Core.Path.{◌≡◌, refl, sym, ◌∙◌, ap, ap₂}
use mathlib.Core.List.{List, [], ◌∷◌, ◌++◌, nil≢cons, cons≢nil, head-eq_of_cons-eq, tail-eq_of_cons-eq}
use lib.ListN.{length}
use Rattle.infon.specs.Formula.{Quotation, Formula}
use Rattle.infon.specs.Listing.{Prefix, wrap}
use Rattle.infon.specs.Rules.{prefix_under}
use Rattle.infon.proofs.Prefixes.{wrap_core}
use Rattle.nodes.specs.Nodes.{Node, node_at, nodes_of}
use Rattle.formulas.specs.Table.{put_mask, all_put}
use Rattle.prefix.specs.declared.Place.{Place}
use Rattle.prefix.specs.Places.{used, EachPlace, prefix_at}
use Rattle.formulas.proofs.Weakened.{all_put_length}
use Rattle.prefix.proofs.Shown.{principal_of, shown, quotation_of, prefix_shown, places_quoted, depth_cell}
use Rattle.twins.specs.Twins.{principal_text}
use Rattle.twins.proofs.Texts.{principal_text_lem}
use Rattle.writing.specs.Placed.{PutSome}
use Rattle.writing.proofs.Placing.{some_on, some_as}
use Rattle.wording.specs.Words.{bracketed, in_words}
use Rattle.wording.specs.declared.Brackets.{Brackets}
use Rattle.wording.specs.declared.Item.TheVariants as Of
use Rattle.wording.specs.Waiting.{needs_brackets, item_text}
use Rattle.wording.specs.Prefixed.{place_words, around_by}
use Rattle.prefix.specs.Told.{ToldBy}
use Rattle.wording.proofs.Prefixing.{prefix_words, behind_words, SameWho, places_words}

module _ (file t : List ℕ) where
  abbrev row : List Node
  row = nodes_of file

  same_who : (ps : List Place) (w : Prefix) → EachPlace (λ (a : ℕ). principal_text file t a ≡ principal_of (node_at row a).what) ps
      → all_put (shown row ps) ≡ all_put w → SameWho file t ps w
  unfolding shown quotation_of all_put
  same_who [] [] each e = tt
  same_who [] (q ∷ w) each e = absurd (nil≢cons e)
  same_who (p ∷ ps) [] each e = absurd (cons≢nil e)
  same_who (p ∷ ps) (q ∷ w) each e =
      (each.0 ∙ ap (λ (r : Quotation). r.principal) (head-eq_of_cons-eq e), same_who ps w each.1 (tail-eq_of_cons-eq e))

  module _ (b puts : ℕ) (x : Formula) (told : ToldBy file t b puts x) where
    abbrev w : Prefix
    w = prefix_under [] x

    abbrev ps : List Place
    ps = used (prefix_at t b)

    same : SameWho file t ps w
    same =
        same_who ps w (places_quoted file t told.held _ (principal_text_lem file t told.held) b told.below)
        (ap all_put (prefix_shown file t told.held b told.below) ∙ sym told.principals)

    places_are : place_words file t ps puts ≡ prefix_words w
    places_are =
        let none : put_mask w + 0 * 2 ^ length w ≡ put_mask w = ap (λ (n : ℕ). put_mask w + n) (zero-mul (2 ^ length w)) ∙ add-zero (put_mask w) in
        ap (place_words file t ps) (told.puts_are ∙ sym none) ∙ places_words file t ps w 0 same

    count_is : (prefix_at t b).count ≡ length w
    unfolding prefix_at
    count_is =
        depth_cell file t told.held b told.below
        ∙ (sym (all_put_length (node_at row b).pre) ∙ (ap length (sym told.principals) ∙ all_put_length w))

    whole : (v : Prefix) → w ≡ v → in_words x ≡ prefix_words v ++ item_text row (Of.Formula (around_by (length v)) b)
    unfolding item_text needs_brackets around_by prefix_words wrap bracketed
    whole [] e = ap in_words (sym (wrap_core [] x) ∙ ap₂ wrap e told.core)
    whole (q ∷ outer) e = ap in_words (sym (wrap_core [] x) ∙ ap₂ wrap e told.core) ∙ behind_words q outer (node_at row b).what

    pub told_words : {behind end : ℕ} {out₀ out₁ out₂ : List ℕ} {at : ℕ} {how : Brackets} → at ≤ length out₀ → how ≡ around_by (prefix_at t b).count
        → PutSome (place_words file t ps puts) at out₀ behind out₁ → PutSome (item_text row (Of.Formula how b)) behind out₁ end out₂ → PutSome (in_words x) at out₀ end out₂
    told_words inside around first second =
        some_as (ap₂ (λ (one two : List ℕ). one ++ two) places_are (ap (λ (n : Brackets). item_text row (Of.Formula n b)) (around ∙ ap around_by count_is)) ∙ sym (whole w refl))
        (some_on first second inside)
