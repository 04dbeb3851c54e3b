-- The contracts leave one answer and one content: two words with the same bits, two sets with the same members and two searches
-- of the same set are the same.
-- Assumes nothing.
use Prim.Native.Nat.{ℕ, zero, suc, ◌+◌, ◌*◌, ◌/◌, ◌%◌, ◌^◌, ◌≤◌, ◌<◌}
use mathlib.Core.Path.{◌≡◌, refl, sym, ◌∙◌, ap}
use Rattle.std.proofs.lemmas.Bool.{cases_Bool}
use Rattle.std.specs.Prelude.{Option, None, Some}
use mathlib.Core.Logic.{⊎_elim}
use mathlib.Core.Bool.{true, false, false≢true}
use mathlib.Core.List.{List}
use native.Mathlib.Omega.{arith}
use lib.ListN.{length, get_or}
use lib.Seq.{ext_get_or}
use lib.Dec.{ltb, eqb}
use borrow.Author.Tests.{eqb-true, eqb-false, ltb-true, ltb-false}
use Rattle.infon.specs.declared.Record.{Record}
use Rattle.members.specs.Members.{has_bit, is_in, LeastAt, LeastIn}
use Rattle.frontier.specs.Found.{stop_of, Found}
use Rattle.members.proofs.Bitwise.{power_half, power_even}

same_low : (a b : ℕ) → a < 2 → b < 2 → eqb a 1 ≡ eqb b 1 → a ≡ b
same_low a b lowA lowB same =
    ⊎_elim
    (λ (e : eqb b 1 ≡ true). eqb-true a 1 (same ∙ e) ∙ sym (eqb-true b 1 e))
    (λ (e : eqb b 1 ≡ false).
    let first = eqb-false a 1 (same ∙ e) in
    let second = eqb-false b 1 e in
    omega (arith, first, second))
    (cases_Bool (eqb b 1))

same_bits : (k w v : ℕ) → w < 2 ^ k → v < 2 ^ k → ((j : ℕ) → j < k → has_bit w j ≡ has_bit v j) → w ≡ v
unfolding has_bit
same_bits zero w v fitsW fitsV same = omega arith
same_bits (suc k) w v fitsW fitsV same =
    let half = power_half k in
    let even = power_even k in
    let low : w % 2 ≡ v % 2 = same_low (w % 2) (v % 2) (omega arith) (omega arith) (same 0 (omega arith)) in
    let rest : w / 2 ≡ v / 2 = same_bits k (w / 2) (v / 2) (omega arith) (omega arith) (λ j less. same (suc j) (omega arith)) in
    omega arith

word_bit : (cover : List ℕ) (at j : ℕ) → j < 64 → is_in cover (at * 64 + j) ≡ has_bit (get_or cover at 0) j
unfolding is_in
word_bit cover at j low =
    ap (λ (k : ℕ). has_bit (get_or cover k 0) ((at * 64 + j) % 64)) (omega arith) ∙ ap (has_bit (get_or cover at 0)) (omega arith)

-- every word has 64 bits
abbrev pub Words : List ℕ → Type 0
Words cover = (at : ℕ) → get_or cover at 0 < 2 ^ 64

pub same_sets : (one two : List ℕ) → Words one → Words two → length one ≡ length two → ((i : ℕ) → is_in one i ≡ is_in two i) → one ≡ two
same_sets one two fitsOne fitsTwo long same =
    ext_get_or 0 one two long
    (λ at h.
    same_bits 64 (get_or one at 0) (get_or two at 0) (fitsOne at) (fitsTwo at)
    (λ j low. sym (word_bit one at j low) ∙ (same (at * 64 + j) ∙ word_bit two at j low)))

pub least_once : (cover : List ℕ) (one two : Option ℕ) → LeastIn cover one → LeastIn cover two → one ≡ two
least_once cover None None first second = refl
least_once cover None (Some b) first second = absurd (false≢true (sym (first b second.inside) ∙ second.member))
least_once cover (Some a) None first second = absurd (false≢true (sym (second a first.inside) ∙ first.member))
least_once cover (Some a) (Some b) first second =
    let up_to : b ≤ a = bounded first second in
    let back : a ≤ b = bounded second first in
    ap (λ (i : ℕ). Some i) (omega arith)
  where
    bounded : {a b : ℕ} → LeastAt cover a → LeastAt cover b → b ≤ a
    bounded {a} {b} is_a is_b =
        ⊎_elim
        (λ (h : ltb a b ≡ true). absurd (false≢true (sym (is_b.before a (ltb-true a b h)) ∙ is_a.member)))
        (λ (h : ltb a b ≡ false). ltb-false a b h)
        (cases_Bool (ltb a b))

pub found_once : {t : List ℕ} {n : ℕ} {marks before : List ℕ} {one two : Option Record} {afterOne afterTwo : List ℕ} → Words afterOne → Words afterTwo
    → Found t n marks before one afterOne → Found t n marks before two afterTwo → (one ≡ two) × (afterOne ≡ afterTwo)
found_once {t} {n} {marks} {before} {one} {two} {afterOne} {afterTwo} fitsOne fitsTwo first second =
    let same : one ≡ two = first.is_next ∙ sym second.is_next in
    let stop : stop_of n one ≡ stop_of n two = ap (stop_of n) same in (
      same,
      same_sets afterOne afterTwo fitsOne fitsTwo (first.long ∙ sym second.long)
          (λ i.
          ⊎_elim
          (λ (h : ltb i (stop_of n one) ≡ true).
          let less = ltb-true i (stop_of n one) h in
          first.taken i less ∙ sym (second.taken i (omega arith)))
          (λ (h : ltb i (stop_of n one) ≡ false).
          let more = ltb-false i (stop_of n one) h in
          first.stays i more ∙ sym (second.stays i (omega arith)))
          (cases_Bool (ltb i (stop_of n one)))),
    )
