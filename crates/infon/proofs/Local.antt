-- The list is the paper's local formulas: a formula is listed exactly if it is local to the file's hypotheses and queries. What is
-- local is listed because the list holds these and is closed. What is listed is a base under a prefix weaker than its own, and
-- under its own it is a component; a quotation under its prefix is what it quotes under the longer one, so bases are enough.
-- Assumes nothing.
use mathlib.Core.Path.{◌≡◌, refl}
use mathlib.Core.Logic.{◌⊎◌, inl, inr, ⊎_elim}
use mathlib.Core.Bool.{Bool, true}
use mathlib.Core.List.Memᴰ
use mathlib.Core.List.{List, [], ◌∷◌, ◌++◌, reverse, Memᴰ}
use Rattle.infon.specs.Formula.{Formula, True, name, and, implies, quoted}
use Rattle.infon.specs.Policy.{Sentence, hypothesis, query, Entry, formula_in, hypotheses_of, queries_of}
use Rattle.infon.specs.Listing.{Prefix, wrap, weakened, weakened_bases, list_of}
use Rattle.infon.specs.Local.{Component, itself, and_left, and_right, implies_left, implies_right, Dominated, by_prefix, Local, by_component}
use Rattle.infon.proofs.Rows.{in_three}
use Rattle.infon.proofs.Prefixes.{listed_mem, mem_listed, under_wrap, wrap_under_reverse, weaker_reverse, mem_weakened}
use Rattle.infon.proofs.Locality.{Closed}
use Rattle.infon.proofs.Listed.{unskipped, list_of_only, list_closed, hypotheses_listed, queries_listed}

-- what is closed holds, with a formula, its components and what they dominate
module _ {listed : Formula → Bool} (closed : Closed listed) where
  component_listed : {z y : Formula} → Component z y → listed z ≡ true → listed y ≡ true
  component_listed itself h = h
  component_listed (and_left pref x y c) h =
      rw (under_wrap pref x) (closed.and_left (reverse pref) x y (rw (under_wrap pref (and x y)) at (component_listed c h)))
  component_listed (and_right pref x y c) h =
      rw (under_wrap pref y) (closed.and_right (reverse pref) x y (rw (under_wrap pref (and x y)) at (component_listed c h)))
  component_listed (implies_left pref x y c) h =
      rw (under_wrap pref x) (closed.implies_left (reverse pref) x y (rw (under_wrap pref (implies x y)) at (component_listed c h)))
  component_listed (implies_right pref x y c) h =
      rw (under_wrap pref y) (closed.implies_right (reverse pref) x y (rw (under_wrap pref (implies x y)) at (component_listed c h)))

  dominated_listed : {x y : Formula} → Dominated x y → listed y ≡ true → listed x ≡ true
  dominated_listed (by_prefix weak strong x le) h =
      rw (under_wrap weak x)
      (closed.weaker_listed (reverse weak) (reverse strong) x (weaker_reverse le) (rw (under_wrap strong x) at h))

-- every local formula is listed
pub local_listed : (entries : List Entry) (x : Formula) → Local (hypotheses_of entries ++ queries_of entries) x
    → Memᴰ x (list_of entries)
local_listed entries _ (by_component z y x m c d) =
    let closed = list_closed entries in
    let stands = Memᴰ.append_cases (hypotheses_of entries) m in
    listed_mem x (list_of entries)
    (dominated_listed closed d
    (component_listed closed c (mem_listed (⊎_elim (hypotheses_listed entries z) (queries_listed entries z) stands))))

-- all that a component asks to be listed is local
module _ {formulas : List Formula} {z : Formula} (stands : Memᴰ z formulas) where
  weakened_local : (p : Prefix) (x : Formula) {y : Formula} → Component z (wrap p x) → Memᴰ y (weakened p x) → Local formulas y
  weakened_local p x c m =
      let found = mem_weakened p x m in
      let v = found.0 in
      rw found.1.1
      (by_component z (wrap p x) (wrap v x) stands c
      (rw (wrap_under_reverse v x, wrap_under_reverse p x) (by_prefix (reverse v) (reverse p) x (weaker_reverse found.1.0))))

  bases_local : (p : Prefix) (x : Formula) {y : Formula} → Component z (wrap p x) → Memᴰ y (weakened_bases p x) → Local formulas y
  unfolding weakened_bases wrap
  bases_local p True c = weakened_local p True c
  bases_local p (name a) c = weakened_local p (name a) c
  bases_local p (and x y) c =
      let whole = rw (wrap_under_reverse p (and x y)) at c in
      in_three (weakened p (and x y)) (weakened_bases p x) (weakened_local p (and x y) c)
      (bases_local p x (rw (wrap_under_reverse p x) (and_left (reverse p) x y whole)))
      (bases_local p y (rw (wrap_under_reverse p y) (and_right (reverse p) x y whole)))
  bases_local p (implies x y) c =
      let whole = rw (wrap_under_reverse p (implies x y)) at c in
      in_three (weakened p (implies x y)) (weakened_bases p x) (weakened_local p (implies x y) c)
      (bases_local p x (rw (wrap_under_reverse p x) (implies_left (reverse p) x y whole)))
      (bases_local p y (rw (wrap_under_reverse p y) (implies_right (reverse p) x y whole)))
  bases_local p (quoted q x) c = bases_local (q ∷ p) x c

-- what stands on a line or below it is a hypothesis or a query
first_stands : (s : Sentence) (hyps queries : List Formula) {z : Formula}
    → (z ≡ formula_in s) ⊎ (Memᴰ z hyps ⊎ Memᴰ z queries)
    → Memᴰ z (elim s [ hypothesis y ↦ y ∷ hyps | query y ↦ hyps ])
    ⊎ Memᴰ z (elim s [ hypothesis y ↦ queries | query y ↦ y ∷ queries ])
unfolding formula_in
first_stands (hypothesis y) hyps queries (inl e) = inl (Memᴰ.head e)
first_stands (hypothesis y) hyps queries (inr (inl m)) = inl (Memᴰ.tail m)
first_stands (hypothesis y) hyps queries (inr (inr m)) = inr m
first_stands (query y) hyps queries (inl e) = inr (Memᴰ.head e)
first_stands (query y) hyps queries (inr (inl m)) = inl m
first_stands (query y) hyps queries (inr (inr m)) = inr (Memᴰ.tail m)

-- what is asked to be listed is asked by a hypothesis or a query
unskipped_asked : (entries : List Entry) {x : Formula} → Memᴰ x (unskipped entries)
    → (z : Formula) × ((Memᴰ z (hypotheses_of entries) ⊎ Memᴰ z (queries_of entries)) × Memᴰ x (weakened_bases [] z))
unfolding unskipped hypotheses_of queries_of
unskipped_asked [] m = absurd (Memᴰ.not-nil m)
unskipped_asked (e ∷ rest) m =
    let now = formula_in e.sentence in
    ⊎_elim (λ here. (now, (first_stands e.sentence (hypotheses_of rest) (queries_of rest) (inl refl), here)))
    (λ later.
    let found = unskipped_asked rest later in
    (found.0, (first_stands e.sentence (hypotheses_of rest) (queries_of rest) (inr found.1.0), found.1.1)))
    (Memᴰ.append_cases (weakened_bases [] now) m)

-- every listed formula is local
pub listed_local : (entries : List Entry) (x : Formula) → Memᴰ x (list_of entries)
    → Local (hypotheses_of entries ++ queries_of entries) x
unfolding wrap
listed_local entries x m =
    let found = unskipped_asked entries (list_of_only entries m) in
    let stands = ⊎_elim (Memᴰ.append_left (queries_of entries)) (Memᴰ.append_right (hypotheses_of entries)) found.1.0 in
    bases_local stands [] found.0 itself found.1.1
