-- Texts put into a buffer one after the other are one text put there; what a function that prints promises leaves one answer.
-- Assumes nothing.
use Prim.Native.Nat.{ℕ, zero, suc, ◌+◌, ◌-◌, ◌≤◌}
use native.Mathlib.Nat.{add-zero}
use native.Mathlib.Omega.{arith}
use mathlib.Core.Path.{◌≡◌, refl, sym, ◌∙◌, ap, subst}
use mathlib.Core.List.{List, [], ◌∷◌, ◌++◌}
use lib.ListN.{length, take, drop, length-append, length-take, take-append-drop}
use borrow.Rule.Slice.PartMut.{put_mid}
use lib.Seq.{take_all, take-nil, drop-drop, length-take-le}
use Rattle.infon.specs.Run.{written}
use Rattle.infon.proofs.Cuts.{length_written, written_more}
use Rattle.writing.specs.Placed.{Put, PutSome, Prints}

-- a text copied over a part of the buffer, which then comes back
pub copied_written : (buffer text after : List ℕ) (at : ℕ) → after ≡ text
    → put_mid at (at + length text - at) buffer after ≡ written buffer at text
unfolding written
copied_written buffer text after at e =
    let n : at + length text - at ≡ length text = omega arith in
    rw (e, n) (ap (λ (l : List ℕ). take at buffer ++ (text ++ l)) (drop-drop (length text) at buffer))

-- the buffer keeps its length
pub put_length : {text : List ℕ} {at : ℕ} {b₀ b₁ : List ℕ} {r : ℕ} → Put text at b₀ r b₁ → at + length text ≤ length b₀ → length b₁ ≡ length b₀
put_length {text} {at} {b₀} p fits = ap length p.holds ∙ length_written b₀ at text fits

-- so much room is left behind a text of at most n bytes
pub put_room : {text : List ℕ} {at : ℕ} {b₀ b₁ : List ℕ} {r : ℕ} → Put text at b₀ r b₁ → (n m : ℕ) → length text ≤ n → at + (n + m) ≤ length b₀
    → r + m ≤ length b₁
put_room p n m short fits = omega (arith, p.ends, put_length p (omega arith))

-- a text and then another behind it
pub put_on : {one two : List ℕ} {at : ℕ} {b₀ b₁ b₂ : List ℕ} {r₁ r₂ : ℕ} → Put one at b₀ r₁ b₁ → Put two r₁ b₁ r₂ b₂ → at + length one ≤ length b₀
    → Put (one ++ two) at b₀ r₂ b₂
put_on {one} {two} {at} {b₀} p q fits =
    record {
      ends = rw length-append (omega (arith, p.ends, q.ends));
      holds = q.holds ∙ rw (p.ends, p.holds) (written_more b₀ at one fits two);
    }

-- nothing
pub put_nothing : (at : ℕ) (b : List ℕ) → Put [] at b at b
unfolding written
put_nothing at b = record { ends = omega arith; holds = sym (ap (λ (k : ℕ). take at b ++ drop k b) (add-zero at) ∙ take-append-drop at b) }

-- As much of a text as there is room for: all of it where it fits, ..
pub some_fits : {text : List ℕ} {at : ℕ} {b₀ b₁ : List ℕ} {r : ℕ} → length text ≤ length b₀ - at → PutSome text at b₀ r b₁ → Put text at b₀ r b₁
some_fits {text} {at} {b₀} {b₁} {r} fits p = subst (λ (l : List ℕ). Put l at b₀ r b₁) (take_all (length b₀ - at) text fits) p.front

-- .. and the place after it is inside the buffer, which keeps its length.
pub some_ends : {text : List ℕ} {at : ℕ} {b₀ b₁ : List ℕ} {r : ℕ} → PutSome text at b₀ r b₁ → at ≤ length b₀ → (r ≤ length b₁) × (length b₁ ≡ length b₀)
some_ends {text} {at} {b₀} p inside =
    let size = length-take (length b₀ - at) text in
    let same = put_length p.front (omega (arith, size)) in
    (omega (arith, size, same, p.front.ends), same)

-- the text by another name
pub some_as : {one two : List ℕ} {at : ℕ} {b₀ b₁ : List ℕ} {r : ℕ} → one ≡ two → PutSome one at b₀ r b₁ → PutSome two at b₀ r b₁
some_as {at = at} {b₀ = b₀} {b₁ = b₁} {r = r} e p = subst (λ (l : List ℕ). PutSome l at b₀ r b₁) e p

-- the front of two texts is the front of the first and, behind it, that of the second
front_of_two : (n : ℕ) (one two : List ℕ) → take n (one ++ two) ≡ take n one ++ take (n - length (take n one)) two
front_of_two zero one two = refl
front_of_two (suc n) [] two = let all : suc n ≡ suc n - 0 = omega arith in ap (λ (k : ℕ). take k two) all
front_of_two (suc n) (b ∷ one) two =
    let less : n - length (take n one) ≡ suc n - suc (length (take n one)) = omega arith in
    ap (λ (l : List ℕ). b ∷ l) (front_of_two n one two ∙ ap (λ (k : ℕ). take n one ++ take k two) less)

-- one text and then another behind it, as far as there is room
pub some_on : {one two : List ℕ} {at : ℕ} {b₀ b₁ b₂ : List ℕ} {r₁ r₂ : ℕ} → PutSome one at b₀ r₁ b₁ → PutSome two r₁ b₁ r₂ b₂ → at ≤ length b₀
    → PutSome (one ++ two) at b₀ r₂ b₂
some_on {one} {two} {at} {b₀} {b₁} {b₂} {r₁} {r₂} p q inside =
    let size = length-take (length b₀ - at) one in
    let fits : at + length (take (length b₀ - at) one) ≤ length b₀ = omega (arith, size) in
    let left : length b₁ - r₁ ≡ length b₀ - at - length (take (length b₀ - at) one) = omega (arith, put_length p.front fits, p.front.ends) in
    let rest = subst (λ (n : ℕ). Put (take n two) r₁ b₁ r₂ b₂) left q.front in
    record { front = rw (front_of_two (length b₀ - at) one two) (put_on p.front rest fits) }

pub some_nothing : (at : ℕ) (b : List ℕ) → PutSome [] at b at b
some_nothing at b = record { front = rw (take-nil {A = ℕ} (length b - at)) (put_nothing at b) }

-- a text put at the start is printed
pub put_prints : {text b₀ b₁ : List ℕ} {r : ℕ} → Put text 0 b₀ r b₁ → length text ≤ length b₀ → Prints text b₀ r b₁
put_prints {text} {b₀} {b₁} {r} p fits =
    let n : r ≡ length text = omega (arith, p.ends) in
    let l : length b₁ ≡ length b₀ = put_length p (omega arith) in
    record {
      counts = n;
      holds = p.holds;
      within = omega arith;
      whole = sym (length-take-le r b₁ (omega arith));
    }

-- there is one count and one content of the buffer
pub prints_one : {text before after₁ after₂ : List ℕ} {count₁ count₂ : ℕ} → Prints text before count₁ after₁ → Prints text before count₂ after₂
    → (count₁ ≡ count₂) × (after₁ ≡ after₂)
prints_one p q = (p.counts ∙ sym q.counts, p.holds ∙ sym q.holds)
