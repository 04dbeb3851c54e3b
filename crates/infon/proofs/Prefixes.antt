-- Prefixes: `weaker` against `Weaker`, a formula under a prefix, and what the shapes and weakenings of such a formula are.
-- Assumes nothing.
use Prim.Native.Nat.{ℕ}
use mathlib.Core.Path.{◌≡◌, refl, sym, ◌∙◌, ap, subst}
use mathlib.Core.Logic.{⊎_elim}
use mathlib.Core.Bool.{true}
use mathlib.Core.List.Memᴰ
use mathlib.Core.List.{List, [], ◌∷◌, ◌++◌, reverse, reverse_aux, reverse-reverse, Memᴰ}
use Rattle.infon.specs.Formula.{Told, said, put, Quotation, Formula, True, name, and, implies, quoted, same}
use Rattle.infon.specs.Listing.{Prefix, wrap, weaker_told, inside, inside_each, weaker_prefixes, weakened, is_listed}
use Rattle.infon.specs.Calculus.{under, Weaker, end, unchanged, lowered, said_by, put_by}
use Rattle.infon.specs.Rules.{Shape, truth, primitive, conjunction, implication, shape_under, shape_of, prefix_under, core_of, weakenings}
use Rattle.infon.proofs.Rows.{found_later, some_of_witness, witness_some_of}
use Rattle.infon.proofs.Same.{same_refl, same_eq}

pub listed_mem : (x : Formula) (fs : List Formula) → is_listed x fs ≡ true → Memᴰ x fs
unfolding is_listed
listed_mem x fs h =
    let found = some_of_witness (same x) fs h in
    Memᴰ.cast (same_eq x found.0 found.1.1) found.1.0

pub mem_listed : {x : Formula} {fs : List Formula} → Memᴰ x fs → is_listed x fs ≡ true
unfolding is_listed
mem_listed {x} m = witness_some_of (same x) m (same_refl x)

pub weaker_trans : {u v w : Prefix} → Weaker u v → Weaker v w → Weaker u w
weaker_trans end more = more
weaker_trans (unchanged q less) (unchanged r more) = unchanged q (weaker_trans less more)
weaker_trans (unchanged q less) (lowered p more) = lowered p (weaker_trans less more)
weaker_trans (lowered p less) (unchanged r more) = lowered p (weaker_trans less more)

-- two prefixes, each turned round onto an accumulator
weaker_reverse_aux : {v w a b : Prefix} → Weaker v w → Weaker a b → Weaker (reverse_aux v a) (reverse_aux w b)
weaker_reverse_aux end done = done
weaker_reverse_aux (unchanged q more) done = weaker_reverse_aux more (unchanged q done)
weaker_reverse_aux (lowered p more) done = weaker_reverse_aux more (lowered p done)

pub weaker_reverse : {v w : Prefix} → Weaker v w → Weaker (reverse v) (reverse w)
weaker_reverse h = weaker_reverse_aux h end

-- what `weaker` lists at one place: the same principal, told otherwise
abbrev retold : Told → Quotation → Quotation
retold told q = record { told = told; principal = q.principal }

inside_mem : (q : Quotation) {told : Told} {row : List Told} (outer : Prefix) → Memᴰ told row
    → Memᴰ (retold told q ∷ outer) (inside q row outer)
unfolding inside
inside_mem q outer (Memᴰ.head e) = Memᴰ.head (ap (λ (t : Told). retold t q ∷ outer) e)
inside_mem q outer (Memᴰ.tail m) = Memᴰ.tail (inside_mem q outer m)

inside_each_mem : (q : Quotation) {told : Told} {outer : Prefix} {rows : List Prefix} → Memᴰ told (weaker_told q.told)
    → Memᴰ outer rows → Memᴰ (retold told q ∷ outer) (inside_each q rows)
unfolding inside_each
inside_each_mem q {told} m (Memᴰ.head {x = first} {xs = rest} e) =
    Memᴰ.append_left (inside_each q rest) (Memᴰ.cast (ap (λ (o : Prefix). retold told q ∷ o) e) (inside_mem q first m))
inside_each_mem q {told} m (Memᴰ.tail {x = first} n) =
    Memᴰ.append_right (inside q (weaker_told q.told) first) (inside_each_mem q m n)

told_itself : (t : Told) → Memᴰ t (weaker_told t)
unfolding weaker_told
told_itself said = Memᴰ.head refl
told_itself put = Memᴰ.head refl

-- `weaker` lists what is `Weaker`, and nothing else
pub weaker_mem : {v w : Prefix} → Weaker v w → Memᴰ v (weaker_prefixes w)
unfolding weaker_prefixes weaker_told
weaker_mem end = Memᴰ.head refl
weaker_mem (unchanged q h) = inside_each_mem q (told_itself q.told) (weaker_mem h)
weaker_mem (lowered p h) =
    inside_each_mem (said_by p) (Memᴰ.tail (Memᴰ.head refl)) (weaker_mem h)

mem_inside : (q : Quotation) (row : List Told) (outer v : Prefix) → Memᴰ v (inside q row outer)
    → (told : Told) × (Memᴰ told row × (v ≡ retold told q ∷ outer))
unfolding inside
mem_inside q [] outer v m = absurd (Memᴰ.not-nil m)
mem_inside q (told ∷ rest) outer v m =
    ⊎_elim (λ e. (told, (Memᴰ.head refl, e)))
    (λ later. found_later (mem_inside q rest outer v later))
    (Memᴰ.cases_cons m)

mem_inside_each : (q : Quotation) (rows : List Prefix) (v : Prefix) → Memᴰ v (inside_each q rows)
    → (outer : Prefix) × (Memᴰ outer rows × Memᴰ v (inside q (weaker_told q.told) outer))
unfolding inside_each
mem_inside_each q [] v m = absurd (Memᴰ.not-nil m)
mem_inside_each q (outer ∷ rest) v m =
    ⊎_elim (λ here. (outer, (Memᴰ.head refl, here)))
    (λ later. found_later (mem_inside_each q rest v later))
    (Memᴰ.append_cases (inside q (weaker_told q.told) outer) m)

told_weaker : (told weak : Told) (p : List ℕ) {v w : Prefix} → Memᴰ weak (weaker_told told) → Weaker v w
    → Weaker (record { told = weak; principal = p } ∷ v) (record { told = told; principal = p } ∷ w)
unfolding weaker_told
told_weaker said said p m h = unchanged (said_by p) h
told_weaker said put p m h = lowered p h
told_weaker put said p m h = rw (Memᴰ.eq_of_singleton m) (unchanged (put_by p) h)
told_weaker put put p m h = unchanged (put_by p) h

pub mem_weaker : (v w : Prefix) → Memᴰ v (weaker_prefixes w) → Weaker v w
unfolding weaker_prefixes
mem_weaker v [] m = rw (Memᴰ.eq_of_singleton m) end
mem_weaker v (q ∷ outer) m =
    let found = mem_inside_each q (weaker_prefixes outer) v m in
    let first = mem_inside q (weaker_told q.told) found.0 v found.1.1 in
    rw first.1.1 (told_weaker q.told first.0 q.principal first.1.0 (mem_weaker found.0 outer found.1.0))

-- a formula under a prefix that is kept the other way round
pub wrap_under : (w pref : Prefix) (x : Formula) → wrap w (under pref x) ≡ wrap (reverse_aux pref w) x
unfolding wrap under
wrap_under w [] x = refl
wrap_under w (q ∷ pref) x = wrap_under (q ∷ w) pref x

pub under_wrap : (pref : Prefix) (x : Formula) → under pref x ≡ wrap (reverse pref) x
unfolding wrap
under_wrap pref x = wrap_under [] pref x

pub wrap_under_reverse : (w : Prefix) (x : Formula) → wrap w x ≡ under (reverse w) x
wrap_under_reverse w x = sym (under_wrap (reverse w) x ∙ ap (λ (v : Prefix). wrap v x) (reverse-reverse w))

-- every formula is its whole row of quotations over its core
pub wrap_core : (w : Prefix) (x : Formula) → wrap (prefix_under w x) (core_of x) ≡ wrap w x
unfolding wrap prefix_under core_of
wrap_core w True = refl
wrap_core w (name a) = refl
wrap_core w (and x y) = refl
wrap_core w (implies x y) = refl
wrap_core w (quoted q x) = wrap_core (q ∷ w) x

pub prefix_core : (w : Prefix) (x : Formula) → prefix_under w (core_of x) ≡ w
unfolding prefix_under core_of
prefix_core w True = refl
prefix_core w (name a) = refl
prefix_core w (and x y) = refl
prefix_core w (implies x y) = refl
prefix_core w (quoted q x) = prefix_core w x

pub core_core : (x : Formula) → core_of (core_of x) ≡ core_of x
unfolding core_of
core_core True = refl
core_core (name a) = refl
core_core (and x y) = refl
core_core (implies x y) = refl
core_core (quoted q x) = core_core x

-- what is read off a formula under a prefix
pub prefix_wrap : (v w : Prefix) (x : Formula) → prefix_under w (wrap v x) ≡ prefix_under (v ++ w) x
unfolding wrap prefix_under
prefix_wrap [] w x = refl
prefix_wrap (q ∷ outer) w x = prefix_wrap outer w (quoted q x)

pub core_wrap : (w : Prefix) (x : Formula) → core_of (wrap w x) ≡ core_of x
unfolding wrap core_of
core_wrap [] x = refl
core_wrap (q ∷ outer) x = core_wrap outer (quoted q x)

pub weakenings_wrap : (w : Prefix) (x : Formula) → weakenings (wrap w x) ≡ weakened (prefix_under w x) (core_of x)
unfolding wrap weakenings prefix_under core_of
weakenings_wrap [] x = refl
weakenings_wrap (q ∷ outer) x = weakenings_wrap outer (quoted q x)

pub shape_wrap : (w : Prefix) (x : Formula) → shape_of (wrap w x) ≡ shape_under w x
unfolding wrap shape_of shape_under
shape_wrap [] x = refl
shape_wrap (q ∷ outer) x = shape_wrap outer (quoted q x)

pub shape_wrap_True : (w : Prefix) → shape_of (wrap w True) ≡ truth
unfolding shape_under
shape_wrap_True w = shape_wrap w True

pub shape_wrap_and : (w : Prefix) (x y : Formula) → shape_of (wrap w (and x y)) ≡ conjunction (wrap w x) (wrap w y)
unfolding shape_under
shape_wrap_and w x y = shape_wrap w (and x y)

pub shape_wrap_implies : (w : Prefix) (x y : Formula) → shape_of (wrap w (implies x y)) ≡ implication (wrap w x) (wrap w y)
unfolding shape_under
shape_wrap_implies w x y = shape_wrap w (implies x y)

-- and the other way: which formulas have a shape
abbrev pub IsUnder : (Formula → Formula → Formula) → Formula → Formula → Formula → Type 0
IsUnder operator z l r =
    (w : Prefix) × ((x : Formula) × ((y : Formula) × ((z ≡ wrap w (operator x y)) × ((l ≡ wrap w x) × (r ≡ wrap w y)))))

abbrev pub HasShape : Formula → Shape → Type 0
HasShape z truth = (w : Prefix) × (z ≡ wrap w True)
HasShape z primitive = (w : Prefix) × ((a : List ℕ) × (z ≡ wrap w (name a)))
HasShape z (conjunction l r) = IsUnder and z l r
HasShape z (implication l r) = IsUnder implies z l r

has_shape_under : (w : Prefix) (z : Formula) → HasShape (wrap w z) (shape_under w z)
unfolding shape_under wrap
has_shape_under w True = (w, refl)
has_shape_under w (name a) = (w, (a, refl))
has_shape_under w (and x y) = (w, (x, (y, (refl, (refl, refl)))))
has_shape_under w (implies x y) = (w, (x, (y, (refl, (refl, refl)))))
has_shape_under w (quoted q x) = has_shape_under (q ∷ w) x

pub has_shape : (z : Formula) → HasShape z (shape_of z)
unfolding shape_of wrap
has_shape z = has_shape_under [] z

pub shape_truth : (z : Formula) → shape_of z ≡ truth → (w : Prefix) × (z ≡ wrap w True)
shape_truth z h = subst (HasShape z) h (has_shape z)

pub shape_conjunction : (z : Formula) {l r : Formula} → shape_of z ≡ conjunction l r → IsUnder and z l r
shape_conjunction z h = subst (HasShape z) h (has_shape z)

pub shape_implication : (z : Formula) {l r : Formula} → shape_of z ≡ implication l r → IsUnder implies z l r
shape_implication z h = subst (HasShape z) h (has_shape z)

-- rule 3: what it gives from a formula is a weaker prefix over the same core
pub mem_weakened : (p : Prefix) (b : Formula) {z : Formula} → Memᴰ z (weakened p b)
    → (v : Prefix) × (Weaker v p × (z ≡ wrap v b))
unfolding weakened
mem_weakened p b m =
    let found = Memᴰ.of_map (λ (w : Prefix). wrap w b) (weaker_prefixes p) m in
    (found.0, (mem_weaker found.0 p found.1, sym found.2))

pub weakened_mem : {v p : Prefix} (b : Formula) → Weaker v p → Memᴰ (wrap v b) (weakened p b)
unfolding weakened
weakened_mem b h = Memᴰ.map (λ (w : Prefix). wrap w b) (weaker_mem h)

weakenings_core : (a : Formula) {z : Formula} → Memᴰ z (weakenings a)
    → (v : Prefix) × (Weaker v (prefix_under [] a) × (z ≡ wrap v (core_of a)))
unfolding weakenings
weakenings_core a m = mem_weakened (prefix_under [] a) (core_of a) m

pub weakenings_weaker : (a : Formula) {z : Formula} → Memᴰ z (weakenings a)
    → (v : Prefix) × ((w : Prefix) × ((x : Formula) × (Weaker v w × ((a ≡ wrap w x) × (z ≡ wrap v x)))))
unfolding wrap
weakenings_weaker a m =
    let found = weakenings_core a m in
    (found.0, (prefix_under [] a, (core_of a, (found.1.0, (sym (wrap_core [] a), found.1.1)))))

under_weakened_mem : {v w : Prefix} (x : Formula) → Weaker v w → Memᴰ (wrap v x) (weakened (prefix_under w x) (core_of x))
unfolding wrap prefix_under core_of
under_weakened_mem True h = weakened_mem True h
under_weakened_mem (name a) h = weakened_mem (name a) h
under_weakened_mem (and x y) h = weakened_mem (and x y) h
under_weakened_mem (implies x y) h = weakened_mem (implies x y) h
under_weakened_mem (quoted q x) h = under_weakened_mem x (unchanged q h)

pub weaker_weakenings : {v w : Prefix} (x : Formula) → Weaker v w → Memᴰ (wrap v x) (weakenings (wrap w x))
weaker_weakenings {v} {w} x h = rw weakenings_wrap (under_weakened_mem x h)

-- rule 3 twice is rule 3
weakenings_core_wrap : (w : Prefix) (x : Formula) → weakenings (wrap w (core_of x)) ≡ weakened w (core_of x)
weakenings_core_wrap w x = rw (weakenings_wrap, prefix_core, core_core)

pub weakened_twice : (p : Prefix) (x : Formula) {y z : Formula} → Memᴰ y (weakened p (core_of x)) → Memᴰ z (weakenings y)
    → Memᴰ z (weakened p (core_of x))
weakened_twice p x {y} once twice =
    let first = mem_weakened p (core_of x) once in
    let back : weakenings y ≡ weakened first.0 (core_of x) = ap weakenings first.1.1 ∙ weakenings_core_wrap first.0 x in
    let second = mem_weakened first.0 (core_of x) (rw back at twice) in
    Memᴰ.cast second.1.1 (weakened_mem (core_of x) (weaker_trans second.1.0 first.1.0))
