-- The weaker prefixes by number: which one stands at a place of `weaker_prefixes`, how many there are, what their masks are, and
-- how the number goes on into a longer prefix.
-- Assumes nothing.
use Prim.Native.Nat.{ℕ, zero, suc, ◌+◌, ◌*◌, ◌-◌, ◌/◌, ◌%◌, ◌^◌, ◌≤◌, ◌<◌}
use native.Mathlib.Nat.{pow-suc, le_trans}
use native.Mathlib.Omega.{arith}
use mathlib.Core.Path.{◌≡◌, refl, sym, ◌∙◌, ap, ap₂, subst}
use mathlib.Core.List.{List, [], ◌∷◌}
use lib.ListN.{length, get_or, length-map, get_or-map}
use lib.Pow.{pow_mono}
use Rattle.infon.specs.Formula.{Told, said, put, Quotation, Formula}
use Rattle.infon.specs.Listing.{Prefix, wrap, weaker_told, inside, inside_each, weaker_prefixes, weakened}
use Rattle.formulas.specs.Table.{put_bit, put_mask, all_put}
use Rattle.formulas.proofs.Weakened.{mask_below, all_put_length}
use Rattle.prefix.specs.Places.{branches, later_bits}
use Rattle.prefix.specs.Weaker.{is_said, lowered_told, weaker_count, choose, inwards}

-- One place more: the weaker prefixes come in pairs behind a said place, and one by one behind a put place.
abbrev as_put : List ℕ → Quotation
as_put p = record { told = put; principal = p }

abbrev as_said : List ℕ → Quotation
as_said p = record { told = said; principal = p }

pairs : (p : List ℕ) (rows : List Prefix) (m : ℕ) → m < 2 * length rows
    → get_or (inside_each (as_said p) rows) m [] ≡ record { told = lowered_told said m; principal = p } ∷ get_or rows (m / 2) []
unfolding inside_each inside weaker_told lowered_told
pairs p [] m h = absurd (omega arith)
pairs p (outer ∷ rest) zero h = refl
pairs p (outer ∷ rest) (suc zero) h = refl
pairs p (outer ∷ rest) (suc (suc m)) h =
    let odd : suc (suc m) % 2 ≡ m % 2 = omega arith in
    let half : suc (suc m) / 2 ≡ suc (m / 2) = omega arith in
    rw (odd, half) (pairs p rest m (omega arith))

singles : (p : List ℕ) (rows : List Prefix) (m : ℕ) → m < length rows → get_or (inside_each (as_put p) rows) m [] ≡ as_put p ∷ get_or rows m []
unfolding inside_each inside weaker_told
singles p [] m h = absurd (omega arith)
singles p (outer ∷ rest) zero h = refl
singles p (outer ∷ rest) (suc m) h = singles p rest m (omega arith)

pairs_count : (p : List ℕ) (rows : List Prefix) → length (inside_each (as_said p) rows) ≡ 2 * length rows
unfolding inside_each inside weaker_told
pairs_count p [] = refl
pairs_count p (outer ∷ rest) = let more = pairs_count p rest in omega arith

singles_count : (p : List ℕ) (rows : List Prefix) → length (inside_each (as_put p) rows) ≡ length rows
unfolding inside_each inside weaker_told
singles_count p [] = refl
singles_count p (outer ∷ rest) = ap suc (singles_count p rest)

place_count : (told : Told) (p : List ℕ) (rows : List Prefix)
    → length (inside_each (record { told = told; principal = p }) rows) ≡ branches (is_said told) (length rows)
unfolding is_said branches
place_count said p rows = pairs_count p rows
place_count put p rows = singles_count p rows

pub weaker_counted : (w : Prefix) → length (weaker_prefixes w) ≡ weaker_count w
unfolding weaker_prefixes weaker_count
weaker_counted [] = refl
weaker_counted (q ∷ outer) = place_count q.told q.principal (weaker_prefixes outer) ∙ ap (branches (is_said q.told)) (weaker_counted outer)

place_chosen : (told : Told) (p : List ℕ) (rows : List Prefix) (m : ℕ) → m < branches (is_said told) (length rows)
    → get_or (inside_each (record { told = told; principal = p }) rows) m []
    ≡ record { told = lowered_told told m; principal = p } ∷ get_or rows (later_bits (is_said told) m) []
unfolding is_said branches later_bits lowered_told
place_chosen said p rows m h = pairs p rows m h
place_chosen put p rows m h = singles p rows m h

later_below : (told : Told) (m n : ℕ) → m < branches (is_said told) n → later_bits (is_said told) m < n
unfolding is_said branches later_bits
later_below said m n h = omega arith
later_below put m n h = h

-- "`said` before `put`, the outermost place weighing most": weaker prefix number m stands at place m
pub choose_weaker : (w : Prefix) (m : ℕ) → m < weaker_count w → get_or (weaker_prefixes w) m [] ≡ choose w m
unfolding weaker_prefixes weaker_count choose
choose_weaker [] m h = let e : m ≡ 0 = omega arith in rw e
choose_weaker (q ∷ outer) m h =
    place_chosen q.told q.principal (weaker_prefixes outer) m (rw (weaker_counted outer) h)
    ∙ ap (λ (v : Prefix). record { told = lowered_told q.told m; principal = q.principal } ∷ v)
    (choose_weaker outer (later_bits (is_said q.told) m) (later_below q.told m (weaker_count outer) h))

-- so the weaker forms of a base are those of its numbers
pub weakened_count : (w : Prefix) (x : Formula) → length (weakened w x) ≡ weaker_count w
unfolding weakened
weakened_count w x = length-map (weaker_prefixes w) (λ (v : Prefix). wrap v x) ∙ weaker_counted w

pub weakened_at : (w : Prefix) (x : Formula) (m : ℕ) → m < weaker_count w → get_or (weakened w x) m x ≡ wrap (choose w m) x
unfolding weakened wrap
weakened_at w x m h = get_or-map (λ (v : Prefix). wrap v x) (weaker_prefixes w) m [] ∙ ap (λ (v : Prefix). wrap v x) (choose_weaker w m h)

branched_positive : (told : Told) (n : ℕ) → 0 < n → 0 < branches (is_said told) n
unfolding is_said branches
branched_positive said n h = omega arith
branched_positive put n h = h

pub weaker_count_positive : (w : Prefix) → 0 < weaker_count w
unfolding weaker_count
weaker_count_positive [] = omega arith
weaker_count_positive (q ∷ outer) = branched_positive q.told (weaker_count outer) (weaker_count_positive outer)

-- the last one has put at every place
retold_last : (told : Told) (n : ℕ) → 0 < n → lowered_told told (branches (is_said told) n - 1) ≡ put
unfolding lowered_told is_said branches
retold_last said n h = let e : (2 * n - 1) % 2 ≡ 1 = omega arith in rw e
retold_last put n h = refl

last_later : (told : Told) (n : ℕ) → 0 < n → later_bits (is_said told) (branches (is_said told) n - 1) ≡ n - 1
unfolding is_said branches later_bits
last_later said n h = omega arith
last_later put n h = refl

pub choose_last : (w : Prefix) → choose w (weaker_count w - 1) ≡ all_put w
unfolding choose weaker_count all_put
choose_last [] = refl
choose_last (q ∷ outer) =
    ap₂ (λ (t : Told) (v : Prefix). record { told = t; principal = q.principal } ∷ v)
    (retold_last q.told (weaker_count outer) (weaker_count_positive outer))
    (ap (choose outer) (last_later q.told (weaker_count outer) (weaker_count_positive outer)) ∙ choose_last outer)

-- the principals stay
pub choose_bottom : (w : Prefix) (m : ℕ) → all_put (choose w m) ≡ all_put w
unfolding choose all_put
choose_bottom [] m = refl
choose_bottom (q ∷ outer) m = ap (λ (v : Prefix). as_put q.principal ∷ v) (choose_bottom outer (later_bits (is_said q.told) m))

pub choose_length : (w : Prefix) (m : ℕ) → length (choose w m) ≡ length w
unfolding choose
choose_length [] m = refl
choose_length (q ∷ outer) m = ap suc (choose_length outer (later_bits (is_said q.told) m))

step_told : (told : Told) (m : ℕ) → lowered_told told (inwards told m) ≡ told
unfolding lowered_told inwards
step_told said m = let e : (2 * m) % 2 ≡ 0 = omega arith in rw e
step_told put m = refl

step_later : (told : Told) (m : ℕ) → later_bits (is_said told) (inwards told m) ≡ m
unfolding is_said later_bits inwards
step_later said m = omega arith
step_later put m = refl

pub choose_inwards : (q : Quotation) (w : Prefix) (m : ℕ) → choose (q ∷ w) (inwards q.told m) ≡ q ∷ choose w m
unfolding choose
choose_inwards q w m =
    ap₂ (λ (t : Told) (v : Prefix). record { told = t; principal = q.principal } ∷ v) (step_told q.told m)
    (ap (choose w) (step_later q.told m))

step_below : (told : Told) (m n : ℕ) → m < n → inwards told m < branches (is_said told) n
unfolding inwards is_said branches
step_below said m n h = omega arith
step_below put m n h = h

pub inwards_below : (q : Quotation) (w : Prefix) (m : ℕ) → m < weaker_count w → inwards q.told m < weaker_count (q ∷ w)
unfolding weaker_count
inwards_below q w m h = step_below q.told m (weaker_count w) h

pub wrap_inwards : (q : Quotation) (w : Prefix) (x : Formula) (m : ℕ)
    → wrap (choose (q ∷ w) (inwards q.told m)) x ≡ wrap (choose w m) (Rattle.infon.specs.Formula.quoted q x)
unfolding wrap
wrap_inwards q w x m = ap (λ (v : Prefix). wrap v x) (choose_inwards q w m)

-- Same principals and same put places: the same prefix.
heads_apart : (a b : Told) (m n k : ℕ) → m < 2 ^ k → n < 2 ^ k → m + put_bit a * 2 ^ k ≡ n + put_bit b * 2 ^ k → (a ≡ b) × (m ≡ n)
unfolding put_bit
heads_apart said said m n k hm hn e = (refl, omega arith)
heads_apart said put m n k hm hn e = absurd (omega arith)
heads_apart put said m n k hm hn e = absurd (omega arith)
heads_apart put put m n k hm hn e = (refl, omega arith)

pub same_prefix : (v w : Prefix) → all_put v ≡ all_put w → put_mask v ≡ put_mask w → v ≡ w
unfolding all_put put_mask
same_prefix [] [] e h = refl
same_prefix [] (r ∷ w) e h = absurd (let z : ◌≡◌ {A = ℕ} 0 1 = cc in omega arith)
same_prefix (q ∷ v) [] e h = absurd (let z : ◌≡◌ {A = ℕ} 0 1 = cc in omega arith)
same_prefix (q ∷ v) (r ∷ w) e h =
    let first : as_put q.principal ≡ as_put r.principal = cc in
    let rest : all_put v ≡ all_put w = cc in
    let alike : length v ≡ length w = sym (all_put_length v) ∙ (ap length rest ∙ all_put_length w) in
    let both = heads_apart q.told r.told (put_mask v) (put_mask w) (length w)
    (subst (λ (k : ℕ). put_mask v < 2 ^ k) alike (mask_below v)) (mask_below w)
    (subst (λ (k : ℕ). put_mask v + put_bit q.told * 2 ^ k ≡ put_mask w + put_bit r.told * 2 ^ length w) alike h) in
    let tails = same_prefix v w rest both.1 in
    let who : q.principal ≡ r.principal = ap (λ (p : Quotation). p.principal) first in
    λ i. record { told = both.0 i; principal = who i } ∷ tails i

-- at most two to the number of places
branched_most : (told : Told) (n k : ℕ) → n ≤ 2 ^ k → branches (is_said told) n ≤ 2 ^ suc k
unfolding is_said branches
branched_most said n k h = rw (pow-suc 2 k) (omega arith)
branched_most put n k h = rw (pow-suc 2 k) (omega arith)

weaker_count_most : (w : Prefix) → weaker_count w ≤ 2 ^ length w
unfolding weaker_count
weaker_count_most [] = omega arith
weaker_count_most (q ∷ outer) = branched_most q.told (weaker_count outer) (length outer) (weaker_count_most outer)

pub weaker_count_bound : (w : Prefix) → length w ≤ 4 → weaker_count w ≤ 16
weaker_count_bound w h = le_trans (weaker_count_most w) (pow_mono h)

pub mask_bound : (w : Prefix) → length w ≤ 4 → put_mask w < 16
mask_bound w h = le_trans (mask_below w) (pow_mono h)
