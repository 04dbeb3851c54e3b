-- The search among the keys, and the forms of a base, a turn each.
-- Assumes nothing.
use Prim.Native.Nat.{ℕ, suc, ◌+◌, ◌*◌, ◌≤◌, ◌<◌}
use native.Mathlib.Numerals.{add-one}
use native.Mathlib.Omega.{arith}
use mathlib.Core.Path.{◌≡◌, refl, sym, ◌∙◌, ap, ap₂, subst}
use mathlib.Core.Logic.{⊎_elim}
use mathlib.Core.Bool.{Bool, true, false, cond}
use mathlib.Core.List.{List, [], ◌∷◌}
use lib.ListN.{length, get_or, take, set}
use lib.Seq.{take-suc, take_all}
use lib.Dec.{eqb, ltb}
use borrow.Author.Tests.{ltb-false}
use Rattle.std.proofs.lemmas.Bool.{cases_Bool}
use Rattle.std.specs.Prelude.{Option, position}
use Rattle.std.specs.List.{position_or_len}
use Rattle.std.specs.Option.{unwrap_or}
use Rattle.std.proofs.lemmas.List.Recursion.{is_position_or_len}
use Rattle.infon.specs.Formula.{Formula}
use Rattle.infon.specs.Listing.{weakened, enlist, most_listed}
use Rattle.infon.proofs.Listed.{enlist_append}
use Rattle.nodes.specs.Nodes.{Node, node_at, node_rows}
use Rattle.prefix.specs.declared.Prefix.{Prefix}
use Rattle.prefix.specs.Places.{Sized, used, weaker_count_of, weaker_at, puts_of}
use Rattle.prefix.specs.Weaker.{weaker_count, form_at}
use Rattle.prefix.proofs.Loops.{puts_few}
use Rattle.prefix.proofs.Shown.{weaker_sized}
use Rattle.prefix.proofs.Chosen.{weakened_count, weakened_at}
use Rattle.columns.specs.Columns.{stride}
use Rattle.listing.specs.Forms.{place_in, key_at, Form, Entered, BaseOf, FormsReady}
use Rattle.listing.proofs.Enter.{entered}

-- a key stands among them or behind them
module _ (key : ℕ) where
  pub place_most : (ks : List ℕ) → place_in key ks ≤ length ks
  unfolding place_in
  place_most [] = omega arith
  place_most (k ∷ ks) = by (eqb key k) (place_most ks)
    where
      by : (t : Bool) → place_in key ks ≤ length ks → cond t 0 (suc (place_in key ks)) ≤ suc (length ks)
      by true h = omega arith
      by false h = omega arith

  place_or_length : (ks : List ℕ) → place_in key ks ≡ position_or_len (λ (k : ℕ). eqb key k) ks
  unfolding place_in
  place_or_length ks = is_position_or_len (place_in key) (λ (k : ℕ). eqb key k) refl
      (λ k rest. let e : suc (place_in key rest) ≡ 1 + place_in key rest = omega arith in ap (cond (eqb key k) 0) e) ks

-- the place that the search gives, and the length where it gives none
pub place_found : (key n : ℕ) (ks : List ℕ) {at : ℕ} {found : Option ℕ} → n ≡ length ks → at ≡ unwrap_or found n
    → found ≡ position (λ (k : ℕ). eqb key k) ks → at ≡ place_in key ks
place_found key n ks len at_is found_is =
    at_is ∙ ap₂ unwrap_or found_is len
    ∙ ⊎_elim
    (λ (some : ltb (position_or_len (λ (k : ℕ). eqb key k) ks) (length ks) ≡ true). rw some (sym (place_or_length key ks)))
    (λ (none : ltb (position_or_len (λ (k : ℕ). eqb key k) ks) (length ks) ≡ false).
    let behind = ltb-false _ _ none in
    let same = place_or_length key ks in
    rw none (omega (arith, place_most key ks)))
    (cases_Bool (ltb (position_or_len (λ (k : ℕ). eqb key k) ks) (length ks)))

-- The forms of a base, the first m of them done.
abbrev pub FormsTo : Prefix → ℕ → ℕ → List ℕ → List ℕ → List ℕ → ℕ → ℕ → List ℕ → List ℕ → List ℕ → ℕ → Type 0
FormsTo p twin base cand₀ keys₀ owners₀ count m cand keys owners n =
    (row : List Node) (fs : List Formula) → BaseOf row p twin base → Entered row base 0 fs cand₀ keys₀ owners₀ count
    → Entered row base m (enlist fs (take m (weakened (node_at row base).pre (node_at row base).what))) cand keys owners n

pub forms_begin : (p : Prefix) (twin base : ℕ) (cand keys owners : List ℕ) (count : ℕ)
    → FormsTo p twin base cand keys owners count 0 cand keys owners count
unfolding enlist
forms_begin p twin base cand keys owners count row fs of so = so

module _ (p : Prefix) (twin base : ℕ) (cand₀ keys₀ owners₀ : List ℕ) (count m : ℕ) (cand keys owners : List ℕ) (n : ℕ)
    (so : FormsTo p twin base cand₀ keys₀ owners₀ count m cand keys owners n) where
  pub forms_turn : (key at : ℕ) → m < weaker_count_of (used p) → key ≡ twin * stride + puts_of (used (weaker_at p m)) → at ≡ place_in key (take n keys)
      → n < length keys → n < length owners → base * stride + m < length cand
      → FormsTo p twin base cand₀ keys₀ owners₀ count (m + 1) (set cand (base * stride + m) at) (set keys n key) (set owners n (base * stride + m))
      (cond (ltb at n) n (n + 1))
  unfolding key_at form_at
  forms_turn key at h key-is found room room-too inside row fs of start =
      let pre = (node_at row base).pre in
      let what = (node_at row base).what in
      let less : m < weaker_count pre = subst (λ (k : ℕ). m < k) of.weaker_are h in
      let form : Form row base m = record { below = of.below; base = of.is_base_lem; less = less } in
      let key_at_lem : key ≡ key_at row base m = key-is ∙ ap₂ (λ (a b : ℕ). a * stride + b) of.twin_is (of.puts_are m) in
      let xs = weakened pre what in
      let more : enlist (enlist fs (take m xs)) (form_at row base m ∷ []) ≡ enlist fs (take (m + 1) xs) =
      ap (λ (z : Formula). enlist (enlist fs (take m xs)) (z ∷ [])) (sym (weakened_at pre what m less))
      ∙ sym (enlist_append fs (take m xs) (get_or xs m what ∷ []))
      ∙ ap (enlist fs) (sym (take-suc xs m what (omega (arith, weakened_count pre what))) ∙ ap (λ (k : ℕ). take k xs) (sym (add-one m))) in
      subst
      (λ (gs : List Formula).
      Entered row base (m + 1) gs (set cand (base * stride + m) at) (set keys n key) (set owners n (base * stride + m)) (cond (ltb at n) n (n + 1)))
      more
      (entered row of.shallow base m (enlist fs (take m xs)) cand keys owners n (so row fs of start) form key at key_at_lem found room room-too inside)

  pub forms_over : weaker_count_of (used p) ≤ m → m ≤ weaker_count_of (used p) → (row : List Node) (fs : List Formula) → BaseOf row p twin base
      → Entered row base 0 fs cand₀ keys₀ owners₀ count
      → Entered row base (weaker_count (node_at row base).pre) (enlist fs (weakened (node_at row base).pre (node_at row base).what)) cand keys owners n
  forms_over low high row fs of start =
      let pre = (node_at row base).pre in
      let what = (node_at row base).what in
      let e : m ≡ weaker_count pre = omega (arith, of.weaker_are) in
      subst (λ (k : ℕ). Entered row base k (enlist fs (weakened pre what)) cand keys owners n) e
      (subst (λ (xs : List Formula). Entered row base m (enlist fs xs) cand keys owners n)
      (take_all m (weakened pre what) (omega (arith, weakened_count pre what))) (so row fs of start))

-- The loop over the forms: how many there are, and what is listed.
pub record Turning (p : Prefix) (twin base : ℕ) (cand₀ keys₀ owners₀ : List ℕ) (count : ℕ) (cand keys owners : List ℕ) (n m : ℕ) : Type 0 where
  pub few : n ≤ count + m
  pub forms : FormsTo p twin base cand₀ keys₀ owners₀ count m cand keys owners n

pub turning_begins : (p : Prefix) (twin base : ℕ) (cand keys owners : List ℕ) (count : ℕ) → Turning p twin base cand keys owners count cand keys owners count 0
turning_begins p twin base cand keys owners count =
    record { few = omega arith; forms = forms_begin p twin base cand keys owners count }

next_few : (n at count m : ℕ) → n ≤ count + m → cond (ltb at n) n (n + 1) ≤ count + (m + 1)
next_few n at count m h = by (ltb at n)
  where
    by : (t : Bool) → cond t n (n + 1) ≤ count + (m + 1)
    by true = omega arith
    by false = omega arith

module _ {p : Prefix} {twin base : ℕ} {cand₀ keys₀ owners₀ : List ℕ} {count : ℕ} {cand keys owners : List ℕ} {n m : ℕ}
    (ready : FormsReady p twin base count) (so : Turning p twin base cand₀ keys₀ owners₀ count cand keys owners n m) (h : m < weaker_count_of (used p)) where
  pub listed_few : n < 4112
  unfolding most_listed
  listed_few = omega (arith, so.few, ready.count_few, ready.few_weaker)

  pub form_place : base * stride + m < node_rows * stride
  form_place = omega (arith, ready.base_few, ready.few_weaker)

  pub turning_on : (puts key at next : ℕ) → node_rows * stride ≤ length cand → most_listed + stride ≤ length keys
      → most_listed + stride ≤ length owners → puts ≡ puts_of (used (weaker_at p m)) → key ≡ twin * stride + puts
      → at ≡ place_in key (take n keys) → next ≡ cond (ltb at n) n (n + 1)
      → Turning p twin base cand₀ keys₀ owners₀ count (set cand (base * stride + m) at) (set keys n key) (set owners n (base * stride + m)) next (m + 1)
  unfolding most_listed
  turning_on puts key at next cand_long keys_long owners_long puts_are key-is found e =
      record {
        few = rw e (next_few n at count m so.few);
        forms =
            rw e
            (forms_turn p twin base cand₀ keys₀ owners₀ count m cand keys owners n so.forms key at h
            (key-is ∙ ap (λ (k : ℕ). twin * stride + k) puts_are) found (omega (arith, listed_few)) (omega (arith, listed_few)) (omega (arith, form_place)));
      }

pub puts_below : (p : Prefix) → Sized p → (m puts : ℕ) → puts ≡ puts_of (used (weaker_at p m)) → puts < 16
puts_below p sized m puts e =
    let q = weaker_at p m in
    rw e (puts_few q.places q.count 0 (weaker_sized p sized m).few)
