-- The list: what stands on it, that nothing stands there twice, that it is closed under the parts and the weakenings of its
-- formulas, and code 5.
-- Assumes nothing.
use Prim.Native.Nat.{ℕ, zero, suc, ◌≤◌, ◌<◌, zero-le, suc-le-suc}
use native.Mathlib.Nat.{le_of_suc-le-suc, not-suc-le-zero}
use native.Mathlib.Omega.{arith}
use mathlib.Core.Path.{◌≡◌, refl, sym, ◌∙◌, ap, subst}
use mathlib.Core.Logic.{◌⊎◌, inl, inr, ⊎_elim}
use mathlib.Core.Bool.{true, cond, true≢false}
use mathlib.Core.List.Memᴰ
use mathlib.Core.List.{List, [], ◌∷◌, ◌++◌, append-nil, append_assoc, Memᴰ}
use lib.ListN.{length, length-append}
use lib.Dec.{ltb}
use borrow.Author.Tests.{ltb-false}
use Rattle.infon.specs.Formula.{Formula, True, name, and, implies, quoted}
use Rattle.infon.specs.Codes.{when, passed}
use Rattle.infon.specs.Policy.{Sentence, hypothesis, query, Entry, formula_in, hypotheses_of, queries_of}
use Rattle.infon.specs.Listing.{Prefix, wrap, weakened, weakened_bases, is_listed, enlist, list_from, list_of, most_listed, code5_from, code5}
use Rattle.infon.specs.Calculus.{Weaker, end, unchanged}
use Rattle.infon.specs.Rules.{Shape, truth, primitive, conjunction, implication, shape_under, shape_of, core_of, weakenings, numbered}
use Rattle.std.proofs.lemmas.Bool.{cases_Bool}
use Rattle.infon.proofs.Locality.{Closed}
use Rattle.infon.proofs.Tried.{when_passed, and_then_passed}
use Rattle.infon.proofs.Prefixes.{listed_mem, mem_listed, shape_wrap, shape_wrap_and, shape_wrap_implies, mem_weakened, weakened_mem, weaker_weakenings, weakened_twice}

-- a formula of a row has a number there
pub listed_number : {x : Formula} {fs : List Formula} → Memᴰ x fs → (n : ℕ) × ((n < length fs) × (numbered fs n ≡ x))
unfolding numbered
listed_number (Memᴰ.head e) = (zero, (suc-le-suc zero-le, sym e))
listed_number (Memᴰ.tail m) =
    let found = listed_number m in
    (suc found.0, (suc-le-suc found.1.0, found.1.1))

pub numbered_mem : (fs : List Formula) (n : ℕ) → n < length fs → Memᴰ (numbered fs n) fs
unfolding numbered
numbered_mem [] n h = absurd (not-suc-le-zero h)
numbered_mem (x ∷ fs) zero h = Memᴰ.head refl
numbered_mem (x ∷ fs) (suc n) h = Memᴰ.tail (numbered_mem fs n (le_of_suc-le-suc h))

-- a row that begins with another
pub record Begins (fs more : List Formula) : Type 0 where
  pub rest : List Formula
  pub row : more ≡ fs ++ rest

begins_refl : (fs : List Formula) → Begins fs fs
begins_refl fs = record { rest = []; row = sym (append-nil fs) }

begins_trans : {fs more most : List Formula} → Begins fs more → Begins more most → Begins fs most
begins_trans {fs} less further =
    record { rest = less.rest ++ further.rest; row = further.row ∙ rw (less.row, append_assoc) }

pub begins_keeps : {fs more : List Formula} {x : Formula} → Begins fs more → Memᴰ x fs → Memᴰ x more
begins_keeps begins m = rw begins.row (Memᴰ.append_left begins.rest m)

pub begins_shorter : {fs more : List Formula} → Begins fs more → length fs ≤ length more
begins_shorter begins = rw (begins.row, length-append) (omega arith)

-- `enlist` with one formula, which is listed already or new
abbrev enlist_one : List Formula → Formula → List Formula
enlist_one fs x = cond (is_listed x fs) fs (fs ++ (x ∷ []))

enlist_one_cases : (fs : List Formula) (x : Formula)
    → (Memᴰ x fs × (enlist_one fs x ≡ fs)) ⊎ ((Memᴰ x fs → ⊥) × (enlist_one fs x ≡ fs ++ (x ∷ [])))
enlist_one_cases fs x =
    ⊎_elim (λ old. inl (listed_mem x fs old, rw old)) (λ new. inr (λ m. true≢false (sym (mem_listed m) ∙ new), rw new))
    (cases_Bool (is_listed x fs))

enlist_one_begins : (fs : List Formula) (x : Formula) → Begins fs (enlist_one fs x)
enlist_one_begins fs x =
    ⊎_elim (λ old. rw old.1 (begins_refl fs)) (λ new. record { rest = x ∷ []; row = new.1 })
    (enlist_one_cases fs x)

enlist_one_has : (fs : List Formula) (x : Formula) → Memᴰ x (enlist_one fs x)
enlist_one_has fs x =
    ⊎_elim (λ old. rw old.1 old.0) (λ new. rw new.1 (Memᴰ.append_right fs (Memᴰ.head refl)))
    (enlist_one_cases fs x)

enlist_one_only : (fs : List Formula) (y : Formula) {x : Formula} → Memᴰ x (enlist_one fs y) → Memᴰ x fs ⊎ (x ≡ y)
enlist_one_only fs y m =
    ⊎_elim (λ old. inl (rw old.1 at m))
    (λ new. ⊎_elim inl (λ last. inr (Memᴰ.eq_of_singleton last)) (Memᴰ.append_cases fs (rw new.1 at m)))
    (enlist_one_cases fs y)

pub enlist_begins : (fs xs : List Formula) → Begins fs (enlist fs xs)
unfolding enlist
enlist_begins fs [] = begins_refl fs
enlist_begins fs (x ∷ rest) = begins_trans (enlist_one_begins fs x) (enlist_begins (enlist_one fs x) rest)

pub enlist_keeps : (fs xs : List Formula) {x : Formula} → Memᴰ x fs → Memᴰ x (enlist fs xs)
enlist_keeps fs xs m = begins_keeps (enlist_begins fs xs) m

pub enlist_has : {x : Formula} (fs : List Formula) {xs : List Formula} → Memᴰ x xs → Memᴰ x (enlist fs xs)
unfolding enlist
enlist_has fs (Memᴰ.head {x = first} {xs = rest} e) =
    Memᴰ.cast e (enlist_keeps (enlist_one fs first) rest (enlist_one_has fs first))
enlist_has fs (Memᴰ.tail {x = first} m) = enlist_has (enlist_one fs first) m

pub enlist_only : (fs xs : List Formula) {x : Formula} → Memᴰ x (enlist fs xs) → Memᴰ x fs ⊎ Memᴰ x xs
unfolding enlist
enlist_only fs [] m = inl m
enlist_only fs (first ∷ rest) m =
    ⊎_elim (λ early. ⊎_elim inl (λ e. inr (Memᴰ.head e)) (enlist_one_only fs first early))
    (λ late. inr (Memᴰ.tail late))
    (enlist_only (enlist_one fs first) rest m)

pub enlist_append : (fs xs ys : List Formula) → enlist fs (xs ++ ys) ≡ enlist (enlist fs xs) ys
unfolding enlist
enlist_append fs [] ys = refl
enlist_append fs (x ∷ xs) ys = enlist_append (enlist_one fs x) xs ys

-- all that the lines ask to be listed, before anything is skipped
unfoldable pub unskipped : List Entry → List Formula
unskipped [] = []
unskipped (e ∷ rest) = weakened_bases [] (formula_in e.sentence) ++ unskipped rest

pub list_from_enlist : (fs : List Formula) (es : List Entry) → list_from fs es ≡ enlist fs (unskipped es)
unfolding list_from enlist unskipped
list_from_enlist fs [] = refl
list_from_enlist fs (e ∷ rest) =
    let now = weakened_bases [] (formula_in e.sentence) in
    list_from_enlist (enlist fs now) rest ∙ sym (enlist_append fs now (unskipped rest))

pub list_from_has : (fs : List Formula) (es : List Entry) {x : Formula} → Memᴰ x (unskipped es) → Memᴰ x (list_from fs es)
list_from_has fs es m = rw (list_from_enlist fs es) (enlist_has fs m)

pub list_from_only : (fs : List Formula) (es : List Entry) {x : Formula} → Memᴰ x (list_from fs es)
    → Memᴰ x fs ⊎ Memᴰ x (unskipped es)
list_from_only fs es m = enlist_only fs (unskipped es) (rw (list_from_enlist fs es) at m)

pub list_from_append : (fs : List Formula) (es more : List Entry) → list_from fs (es ++ more) ≡ list_from (list_from fs es) more
unfolding list_from
list_from_append fs [] more = refl
list_from_append fs (e ∷ es) more = list_from_append (enlist fs (weakened_bases [] (formula_in e.sentence))) es more

pub list_of_has : (entries : List Entry) {x : Formula} → Memᴰ x (unskipped entries) → Memᴰ x (list_of entries)
unfolding list_of
list_of_has entries m = list_from_has [] entries m

pub list_of_only : (entries : List Entry) {x : Formula} → Memᴰ x (list_of entries) → Memᴰ x (unskipped entries)
unfolding list_of
list_of_only entries m = ⊎_elim (λ none. absurd (Memᴰ.not-nil none)) (λ some. some) (list_from_only [] entries m)

-- every formula's own weaker forms are among what it asks to be listed
pub bases_self : (p : Prefix) (x : Formula) {v : Prefix} → Weaker v p → Memᴰ (wrap v x) (weakened_bases p x)
unfolding weakened_bases wrap
bases_self p True h = weakened_mem True h
bases_self p (name a) h = weakened_mem (name a) h
bases_self p (and x y) h = Memᴰ.append_left (weakened_bases p x ++ weakened_bases p y) (weakened_mem (and x y) h)
bases_self p (implies x y) h = Memᴰ.append_left (weakened_bases p x ++ weakened_bases p y) (weakened_mem (implies x y) h)
bases_self p (quoted q x) h = bases_self (q ∷ p) x (unchanged q h)

-- the parts that a shape shows stand in a row
abbrev pub PartsIn : List Formula → Shape → Type 0
PartsIn fs truth = Unit {0}
PartsIn fs primitive = Unit {0}
PartsIn fs (conjunction l r) = Memᴰ l fs × Memᴰ r fs
PartsIn fs (implication l r) = Memᴰ l fs × Memᴰ r fs

parts_mono : {fs more : List Formula} → ((x : Formula) → Memᴰ x fs → Memᴰ x more) → (shape : Shape)
    → PartsIn fs shape → PartsIn more shape
parts_mono keeps truth parts = tt
parts_mono keeps primitive parts = tt
parts_mono keeps (conjunction l r) parts = (keeps l parts.0, keeps r parts.1)
parts_mono keeps (implication l r) parts = (keeps l parts.0, keeps r parts.1)

-- a row that holds, with a formula, the parts that its shape shows and what rule 3 gives from it
pub record ShapeClosed (fs : List Formula) : Type 0 where
  pub parts : {z : Formula} → Memᴰ z fs → PartsIn fs (shape_of z)
  pub weaker_forms : {y z : Formula} → Memᴰ y fs → Memᴰ z (weakenings y) → Memᴰ z fs

nil_closed : ShapeClosed []
nil_closed = record { parts = λ m. absurd (Memᴰ.not-nil m); weaker_forms = λ m n. absurd (Memᴰ.not-nil m) }

append_closed : {xs ys : List Formula} → ShapeClosed xs → ShapeClosed ys → ShapeClosed (xs ++ ys)
append_closed {xs} {ys} first second =
    record {
      parts = λ {z} m.
          ⊎_elim (λ l. parts_mono (λ x. Memᴰ.append_left ys) (shape_of z) (first.parts l))
          (λ r. parts_mono (λ x. Memᴰ.append_right xs) (shape_of z) (second.parts r))
          (Memᴰ.append_cases xs m);
      weaker_forms = λ m n.
          ⊎_elim (λ l. Memᴰ.append_left ys (first.weaker_forms l n))
          (λ r. Memᴰ.append_right xs (second.weaker_forms r n))
          (Memᴰ.append_cases xs m);
    }

-- what a base asks to be listed, in front of such a row that holds its parts
base_closed : (p : Prefix) (x : Formula) {fs : List Formula}
    → ((v : Prefix) → Weaker v p → PartsIn fs (shape_under v (core_of x))) → ShapeClosed fs → ShapeClosed (weakened p (core_of x) ++ fs)
base_closed p x {fs} its-parts rest =
    record {
      parts = λ {z} m.
          ⊎_elim (λ l. front_parts (mem_weakened p (core_of x) l))
          (λ r. parts_mono (λ y. Memᴰ.append_right (weakened p (core_of x))) (shape_of z) (rest.parts r))
          (Memᴰ.append_cases (weakened p (core_of x)) m);
      weaker_forms = λ m n.
          ⊎_elim (λ l. Memᴰ.append_left fs (weakened_twice p x l n))
          (λ r. Memᴰ.append_right (weakened p (core_of x)) (rest.weaker_forms r n))
          (Memᴰ.append_cases (weakened p (core_of x)) m);
    }
  where
    front_parts : {z : Formula} → (v : Prefix) × (Weaker v p × (z ≡ wrap v (core_of x)))
        → PartsIn (weakened p (core_of x) ++ fs) (shape_of z)
    front_parts {z} found =
        parts_mono (λ y. Memᴰ.append_right (weakened p (core_of x))) (shape_of z)
        (rw (found.1.1, shape_wrap) (its-parts found.0 found.1.0))

operands_local : (p : Prefix) (x y : Formula) {v : Prefix} → Weaker v p
    → Memᴰ (wrap v x) (weakened_bases p x ++ weakened_bases p y) × Memᴰ (wrap v y) (weakened_bases p x ++ weakened_bases p y)
operands_local p x y h = (Memᴰ.append_left (weakened_bases p y) (bases_self p x h), Memᴰ.append_right (weakened_bases p x) (bases_self p y h))

local_closed : (p : Prefix) (x : Formula) → ShapeClosed (weakened_bases p x)
unfolding weakened_bases core_of shape_under
local_closed p True = rw (← append-nil (weakened p True)) (base_closed p True (λ v h. tt) nil_closed)
local_closed p (name a) = rw (← append-nil (weakened p (name a))) (base_closed p (name a) (λ v h. tt) nil_closed)
local_closed p (and x y) =
    base_closed p (and x y) (λ v h. operands_local p x y h) (append_closed (local_closed p x) (local_closed p y))
local_closed p (implies x y) =
    base_closed p (implies x y) (λ v h. operands_local p x y h) (append_closed (local_closed p x) (local_closed p y))
local_closed p (quoted q x) = local_closed (q ∷ p) x

unskipped_closed : (entries : List Entry) → ShapeClosed (unskipped entries)
unfolding unskipped
unskipped_closed [] = nil_closed
unskipped_closed (e ∷ rest) = append_closed (local_closed [] (formula_in e.sentence)) (unskipped_closed rest)

-- a row that holds the same formulas
same_closed : {fs more : List Formula} → ((x : Formula) → Memᴰ x fs → Memᴰ x more)
    → ((x : Formula) → Memᴰ x more → Memᴰ x fs) → ShapeClosed fs → ShapeClosed more
same_closed into from closed =
    record {
      parts = λ {z} m. parts_mono into (shape_of z) (closed.parts (from z m));
      weaker_forms = λ {y} {z} m n. into z (closed.weaker_forms (from y m) n);
    }

pub list_shape_closed : (entries : List Entry) → ShapeClosed (list_of entries)
list_shape_closed entries =
    same_closed (λ x. list_of_has entries) (λ x. list_of_only entries) (unskipped_closed entries)

-- the same said with prefixes
shapes_prefixes : (fs : List Formula) → ShapeClosed fs → Closed (λ (x : Formula). is_listed x fs)
shapes_prefixes fs closed =
    record {
      and_left = λ w x y h. mem_listed (conjuncts w x y h).0;
      and_right = λ w x y h. mem_listed (conjuncts w x y h).1;
      implies_left = λ w x y h. mem_listed (sides w x y h).0;
      implies_right = λ w x y h. mem_listed (sides w x y h).1;
      weaker_listed = λ v w x le h. mem_listed (closed.weaker_forms (listed_mem (wrap w x) fs h) (weaker_weakenings x le));
    }
  where
    conjuncts : (w : Prefix) (x y : Formula) → is_listed (wrap w (and x y)) fs ≡ true
        → Memᴰ (wrap w x) fs × Memᴰ (wrap w y) fs
    conjuncts w x y h = subst (PartsIn fs) (shape_wrap_and w x y) (closed.parts (listed_mem (wrap w (and x y)) fs h))

    sides : (w : Prefix) (x y : Formula) → is_listed (wrap w (implies x y)) fs ≡ true
        → Memᴰ (wrap w x) fs × Memᴰ (wrap w y) fs
    sides w x y h = subst (PartsIn fs) (shape_wrap_implies w x y) (closed.parts (listed_mem (wrap w (implies x y)) fs h))

pub list_closed : (entries : List Entry) → Closed (λ (x : Formula). is_listed x (list_of entries))
list_closed entries = shapes_prefixes (list_of entries) (list_shape_closed entries)

-- what stands on a line is listed
line_unskipped : (s : Sentence) (rest : List Formula) {x : Formula} → (x ≡ formula_in s) ⊎ Memᴰ x rest
    → Memᴰ x (weakened_bases [] (formula_in s) ++ rest)
unfolding wrap
line_unskipped s rest (inl e) = Memᴰ.cast e (Memᴰ.append_left rest (bases_self [] (formula_in s) end))
line_unskipped s rest (inr m) = Memᴰ.append_right (weakened_bases [] (formula_in s)) m

first_hypothesis : (s : Sentence) (rest : List Formula) {x : Formula}
    → Memᴰ x (elim s [ hypothesis y ↦ y ∷ rest | query y ↦ rest ]) → (x ≡ formula_in s) ⊎ Memᴰ x rest
unfolding formula_in
first_hypothesis (hypothesis y) rest m = Memᴰ.cases_cons m
first_hypothesis (query y) rest m = inr m

first_query : (s : Sentence) (rest : List Formula) {x : Formula}
    → Memᴰ x (elim s [ hypothesis y ↦ rest | query y ↦ y ∷ rest ]) → (x ≡ formula_in s) ⊎ Memᴰ x rest
unfolding formula_in
first_query (hypothesis y) rest m = inr m
first_query (query y) rest m = Memᴰ.cases_cons m

hypotheses_unskipped : (entries : List Entry) {x : Formula} → Memᴰ x (hypotheses_of entries) → Memᴰ x (unskipped entries)
unfolding hypotheses_of unskipped
hypotheses_unskipped [] m = absurd (Memᴰ.not-nil m)
hypotheses_unskipped (e ∷ rest) m =
    line_unskipped e.sentence (unskipped rest)
    (⊎_elim inl (λ later. inr (hypotheses_unskipped rest later)) (first_hypothesis e.sentence (hypotheses_of rest) m))

queries_unskipped : (entries : List Entry) {x : Formula} → Memᴰ x (queries_of entries) → Memᴰ x (unskipped entries)
unfolding queries_of unskipped
queries_unskipped [] m = absurd (Memᴰ.not-nil m)
queries_unskipped (e ∷ rest) m =
    line_unskipped e.sentence (unskipped rest)
    (⊎_elim inl (λ later. inr (queries_unskipped rest later)) (first_query e.sentence (queries_of rest) m))

pub hypotheses_listed : (entries : List Entry) (x : Formula) → Memᴰ x (hypotheses_of entries) → Memᴰ x (list_of entries)
hypotheses_listed entries x m = list_of_has entries (hypotheses_unskipped entries m)

pub queries_listed : (entries : List Entry) (x : Formula) → Memᴰ x (queries_of entries) → Memᴰ x (list_of entries)
queries_listed entries x m = list_of_has entries (queries_unskipped entries m)

-- a row in which no formula stands twice
abbrev pub Distinct : List Formula → Type 0
Distinct [] = Unit {0}
Distinct (x ∷ fs) = (Memᴰ x fs → ⊥) × Distinct fs

last_distinct : (fs : List Formula) (x : Formula) → (Memᴰ x fs → ⊥) → Distinct fs → Distinct (fs ++ (x ∷ []))
last_distinct [] x new distinct = (Memᴰ.not-nil, tt)
last_distinct (y ∷ fs) x new distinct = (
  λ m.
      ⊎_elim distinct.0 (λ last. new (Memᴰ.head (sym (Memᴰ.eq_of_singleton last))))
      (Memᴰ.append_cases fs m),
  last_distinct fs x (λ m. new (Memᴰ.tail m)) distinct.1,
)

enlist_one_distinct : (fs : List Formula) (x : Formula) → Distinct fs → Distinct (enlist_one fs x)
enlist_one_distinct fs x distinct =
    ⊎_elim (λ old. rw old.1 distinct) (λ new. rw new.1 (last_distinct fs x new.0 distinct))
    (enlist_one_cases fs x)

pub enlist_distinct : (fs xs : List Formula) → Distinct fs → Distinct (enlist fs xs)
unfolding enlist
enlist_distinct fs [] distinct = distinct
enlist_distinct fs (x ∷ rest) distinct = enlist_distinct (enlist_one fs x) rest (enlist_one_distinct fs x distinct)

pub list_of_distinct : (entries : List Entry) → Distinct (list_of entries)
unfolding list_of
list_of_distinct entries = rw (list_from_enlist [] entries) (enlist_distinct [] (unskipped entries) tt)

-- in such a row no formula has two numbers
pub distinct_numbers : (fs : List Formula) → Distinct fs → (i j : ℕ) → i < length fs → j < length fs
    → numbered fs i ≡ numbered fs j → i ≡ j
unfolding numbered
distinct_numbers [] distinct i j h k e = absurd (not-suc-le-zero h)
distinct_numbers (x ∷ fs) distinct zero zero h k e = refl
distinct_numbers (x ∷ fs) distinct zero (suc j) h k e =
    absurd (distinct.0 (Memᴰ.cast e (numbered_mem fs j (le_of_suc-le-suc k))))
distinct_numbers (x ∷ fs) distinct (suc i) zero h k e =
    absurd (distinct.0 (Memᴰ.cast (sym e) (numbered_mem fs i (le_of_suc-le-suc h))))
distinct_numbers (x ∷ fs) distinct (suc i) (suc j) h k e =
    ap suc (distinct_numbers fs distinct.1 i j (le_of_suc-le-suc h) (le_of_suc-le-suc k) e)

pub numbered_injective : (entries : List Entry) (i j : ℕ) → i < length (list_of entries) → j < length (list_of entries)
    → numbered (list_of entries) i ≡ numbered (list_of entries) j → i ≡ j
numbered_injective entries = distinct_numbers (list_of entries) (list_of_distinct entries)

-- where code 5 is not given, the list is short enough
code5_from_passed : (fs : List Formula) (es : List Entry) → length fs ≤ most_listed → code5_from fs es ≡ passed
    → length (list_from fs es) ≤ most_listed
unfolding code5_from list_from
code5_from_passed fs [] few h = few
code5_from_passed fs (e ∷ rest) few h =
    let now = enlist fs (weakened_bases [] (formula_in e.sentence)) in
    let both = and_then_passed (when (ltb most_listed (length now)) 5 e.start) (code5_from now rest) h in
    code5_from_passed now rest (ltb-false most_listed (length now) (when_passed (ltb most_listed (length now)) 5 e.start both.0)) both.1

pub code5_passed : (entries : List Entry) → code5 entries ≡ passed → length (list_of entries) ≤ 4096
unfolding code5 list_of most_listed
code5_passed entries h = code5_from_passed [] entries zero-le h
