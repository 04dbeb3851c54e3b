-- Every formula on a file's list is one of the language: its names are names. What of the language derives from a file derives by
-- formulas of the language alone.
-- Assumes nothing.
use Prim.Native.Nat.{ℕ}
use mathlib.Core.Path.{◌≡◌, refl, sym, ◌∙◌, ap}
use mathlib.Core.Logic.{⊎_elim, ◌↔◌}
use mathlib.Core.Bool.{Bool, true, false, cond}
use Rattle.std.specs.Prelude.{Option, None, Some}
use mathlib.Core.List.Memᴰ
use mathlib.Core.List.{List, [], ◌∷◌, map, Memᴰ}
use Rattle.infon.specs.Bytes.{bytes, every}
use Rattle.infon.specs.Formula.{Quotation, Formula, True, name, and, implies, quoted, is_name_byte, is_name, is_named}
use Rattle.infon.specs.Policy.{Line, Sentence, Entry, with_entry, entries_from, entries_of, lines_of, sentence_of, formula_in, hypotheses_of}
use Rattle.infon.specs.Listing.{Prefix, wrap, weakened, weakened_bases, list_of}
use Rattle.infon.specs.Calculus.{under, Weaker, end, unchanged, lowered, Derives, hypothesis, given, weaken, left, right, both, apply, attach, through}
use Rattle.std.proofs.lemmas.Bool.{and_parts, and_from, cases_Bool}
use Rattle.infon.proofs.Rows.{in_three}
use Rattle.infon.proofs.Words.{every_append}
use Rattle.infon.proofs.Prefixes.{mem_weakened}
use Rattle.infon.proofs.Lines.{line_read}
use Rattle.infon.proofs.Listed.{unskipped, list_of_only, hypotheses_listed}

-- the principals of a prefix are names
principals_named : Prefix → Bool
principals_named w = every (λ (q : Quotation). is_name q.principal) w

weaker_named : {v w : Prefix} → Weaker v w → principals_named w ≡ true → principals_named v ≡ true
unfolding principals_named every
weaker_named end h = refl
weaker_named (unchanged q le) h = let parts = and_parts (is_name q.principal) _ h in and_from _ _ parts.0 (weaker_named le parts.1)
weaker_named (lowered p le) h = let parts = and_parts (is_name p) _ h in and_from _ _ parts.0 (weaker_named le parts.1)

wrap_named : (w : Prefix) (x : Formula) → principals_named w ≡ true → is_named x ≡ true → is_named (wrap w x) ≡ true
unfolding principals_named every wrap is_named
wrap_named [] x hw hx = hx
wrap_named (q ∷ w) x hw hx =
    let parts = and_parts (is_name q.principal) (principals_named w) hw in
    wrap_named w (quoted q x) parts.1 (and_from _ _ parts.0 hx)

weakened_named : (p : Prefix) (b z : Formula) → principals_named p ≡ true → is_named b ≡ true → Memᴰ z (weakened p b) → is_named z ≡ true
weakened_named p b z hp hb m =
    let found = mem_weakened p b m in
    ap is_named found.1.1 ∙ wrap_named found.0 b (weaker_named found.1.0 hp) hb

bases_named : (p : Prefix) (x z : Formula) → principals_named p ≡ true → is_named x ≡ true → Memᴰ z (weakened_bases p x) → is_named z ≡ true
unfolding weakened_bases is_named principals_named every
bases_named p True z hp hx m = weakened_named p True z hp hx m
bases_named p (name a) z hp hx m = weakened_named p (name a) z hp hx m
bases_named p (and x y) z hp hx m =
    let parts = and_parts (is_named x) (is_named y) hx in
    in_three (weakened p (and x y)) (weakened_bases p x) (weakened_named p (and x y) z hp hx)
    (bases_named p x z hp parts.0) (bases_named p y z hp parts.1) m
bases_named p (implies x y) z hp hx m =
    let parts = and_parts (is_named x) (is_named y) hx in
    in_three (weakened p (implies x y)) (weakened_bases p x) (weakened_named p (implies x y) z hp hx)
    (bases_named p x z hp parts.0) (bases_named p y z hp parts.1) m
bases_named p (quoted q x) z hp hx m =
    let parts = and_parts (is_name q.principal) (is_named x) hx in
    bases_named (q ∷ p) x z (and_from _ _ parts.0 hp) parts.1 m

-- the formulas of a file's entries are of the language
entry_named : (start : ℕ) (text : List ℕ) (o : Option Sentence) (rest : List Entry) → sentence_of text ≡ o
    → ((e : Entry) → Memᴰ e rest → is_named (formula_in e.sentence) ≡ true)
    → (e : Entry) → Memᴰ e (with_entry start o rest) → is_named (formula_in e.sentence) ≡ true
unfolding with_entry
entry_named start text None rest read later e m = later e m
entry_named start text (Some s) rest read later e m =
    ⊎_elim (λ same. ap (λ (f : Entry). is_named (formula_in f.sentence)) same ∙ (line_read text s read).1)
    (λ (i : Memᴰ e rest). later e i)
    (Memᴰ.cases_cons m)

pub entries_named : (lines : List Line) (e : Entry) → Memᴰ e (entries_from lines) → is_named (formula_in e.sentence) ≡ true
unfolding entries_from
entries_named [] e m = absurd (Memᴰ.not-nil m)
entries_named (line ∷ rest) e m =
    entry_named line.start line.text (sentence_of line.text) (entries_from rest) refl (entries_named rest) e m

unskipped_named : (entries : List Entry) → ((e : Entry) → Memᴰ e entries → is_named (formula_in e.sentence) ≡ true)
    → (z : Formula) → Memᴰ z (unskipped entries) → is_named z ≡ true
unfolding unskipped principals_named every
unskipped_named [] named z m = absurd (Memᴰ.not-nil m)
unskipped_named (e ∷ rest) named z m =
    ⊎_elim
    (λ (i : Memᴰ z (weakened_bases [] (formula_in e.sentence))).
    bases_named [] (formula_in e.sentence) z refl (named e (Memᴰ.head refl)) i)
    (λ (i : Memᴰ z (unskipped rest)). unskipped_named rest (λ f j. named f (Memᴰ.tail j)) z i)
    (Memᴰ.append_cases (weakened_bases [] (formula_in e.sentence)) m)

pub listed_named : (file : List ℕ) (z : Formula) → Memᴰ z (list_of (entries_of file)) → is_named z ≡ true
unfolding entries_of
listed_named file z m =
    unskipped_named (entries_from (lines_of file)) (entries_named (lines_of file)) z (list_of_only (entries_from (lines_of file)) m)

-- Rules 2 and 8 may bring in names that are none. With "a" put for each of them, every formula is of the language, a formula of the
-- language is what it was, and a derivation is one by the same rules.
plain_word : List ℕ → List ℕ
plain_word a = cond (is_name a) a (bytes "a")

plain_place : Quotation → Quotation
plain_place q = record { told = q.told; principal = plain_word q.principal }

plain : Formula → Formula
plain True = True
plain (name a) = name (plain_word a)
plain (and x y) = and (plain x) (plain y)
plain (implies x y) = implies (plain x) (plain y)
plain (quoted q x) = quoted (plain_place q) (plain x)

word_named : (a : List ℕ) → is_name (plain_word a) ≡ true
unfolding plain_word is_name is_name_byte every bytes
word_named a = ⊎_elim (λ (h : is_name a ≡ true). rw h h) (λ (h : is_name a ≡ false). rw h) (cases_Bool (is_name a))

word_same : (a : List ℕ) → is_name a ≡ true → plain_word a ≡ a
unfolding plain_word
word_same a h = rw h

plain_named : (x : Formula) → is_named (plain x) ≡ true
unfolding plain plain_place is_named
plain_named True = refl
plain_named (name a) = word_named a
plain_named (and x y) = and_from _ _ (plain_named x) (plain_named y)
plain_named (implies x y) = and_from _ _ (plain_named x) (plain_named y)
plain_named (quoted q x) = and_from _ _ (word_named q.principal) (plain_named x)

plain_same : (x : Formula) → is_named x ≡ true → plain x ≡ x
unfolding plain plain_place is_named
plain_same True h = refl
plain_same (name a) h = ap name (word_same a h)
plain_same (and x y) h =
    let parts = and_parts (is_named x) (is_named y) h in
    rw (plain_same x parts.0, plain_same y parts.1)
plain_same (implies x y) h =
    let parts = and_parts (is_named x) (is_named y) h in
    rw (plain_same x parts.0, plain_same y parts.1)
plain_same (quoted q x) h =
    let parts = and_parts (is_name q.principal) (is_named x) h in
    rw (word_same q.principal parts.0, plain_same x parts.1)

plain_under : (pref : List Quotation) (x : Formula) → plain (under pref x) ≡ under (map plain_place pref) (plain x)
unfolding plain under
plain_under [] x = refl
plain_under (q ∷ pref) x = ap (quoted (plain_place q)) (plain_under pref x)

plain_weaker : {v w : List Quotation} → Weaker v w → Weaker (map plain_place v) (map plain_place w)
unfolding plain_place
plain_weaker end = end
plain_weaker (unchanged q le) = unchanged (plain_place q) (plain_weaker le)
plain_weaker (lowered p le) = lowered (plain_word p) (plain_weaker le)

module _ (hyps : List Formula) (named : (h : Formula) → Memᴰ h hyps → is_named h ≡ true) where
  -- a derivation by formulas of the language alone
  abbrev Plainly : Formula → Type 0
  Plainly z = (d : Derives hyps z) × (every is_named (through d) ≡ true)

  reached : (pref : List Quotation) (x : Formula) → is_named (under (map plain_place pref) (plain x)) ≡ true
  reached pref x = ap is_named (sym (plain_under pref x)) ∙ plain_named (under pref x)

  plainly : (z : Formula) → Derives hyps z → Plainly (plain z)
  unfolding plain through every
  plainly z (hypothesis x m) = rw (plain_same x (named x m)) (hypothesis x m, and_from _ _ (named x m) refl)
  plainly z (given pref) = rw (plain_under pref True) (given (map plain_place pref), and_from _ _ (reached pref True) refl)
  plainly z (weaken weak strong x le d) =
      let from = rw (plain_under strong x) at (plainly (under strong x) d) in
      rw (plain_under weak x)
      (weaken (map plain_place weak) (map plain_place strong) (plain x) (plain_weaker le) from.0, and_from _ _ (reached weak x) from.1)
  plainly z (left pref x y d) =
      let from = rw (plain_under pref (and x y)) at (plainly (under pref (and x y)) d) in
      rw (plain_under pref x) (left (map plain_place pref) (plain x) (plain y) from.0, and_from _ _ (reached pref x) from.1)
  plainly z (right pref x y d) =
      let from = rw (plain_under pref (and x y)) at (plainly (under pref (and x y)) d) in
      rw (plain_under pref y) (right (map plain_place pref) (plain x) (plain y) from.0, and_from _ _ (reached pref y) from.1)
  plainly z (both pref x y d e) =
      let one = rw (plain_under pref x) at (plainly (under pref x) d) in
      let other = rw (plain_under pref y) at (plainly (under pref y) e) in
      rw (plain_under pref (and x y)) (
        both (map plain_place pref) (plain x) (plain y) one.0 other.0,
        and_from _ _ (reached pref (and x y)) (every_append is_named (through one.0) (through other.0) ∙ and_from _ _ one.1 other.1),
      )
  plainly z (apply pref x y d e) =
      let one = rw (plain_under pref x) at (plainly (under pref x) d) in
      let other = rw (plain_under pref (implies x y)) at (plainly (under pref (implies x y)) e) in
      rw (plain_under pref y) (
        apply (map plain_place pref) (plain x) (plain y) one.0 other.0,
        and_from _ _ (reached pref y) (every_append is_named (through one.0) (through other.0) ∙ and_from _ _ one.1 other.1),
      )
  plainly z (attach pref x y d) =
      let from = rw (plain_under pref y) at (plainly (under pref y) d) in
      rw (plain_under pref (implies x y))
      (attach (map plain_place pref) (plain x) (plain y) from.0, and_from _ _ (reached pref (implies x y)) from.1)

-- a formula of the language derives from a file exactly if it does by formulas of the language alone
pub derives_plainly : (file : List ℕ) (z : Formula) → is_named z ≡ true
    → Derives (hypotheses_of (entries_of file)) z
    ↔ ((d : Derives (hypotheses_of (entries_of file)) z) × (every is_named (through d) ≡ true))
derives_plainly file z named = (
  λ d.
      rw (plain_same z named)
      at (plainly (hypotheses_of (entries_of file)) (λ x m. listed_named file x (hypotheses_listed (entries_of file) x m)) z d),
  λ found. found.0,
)
