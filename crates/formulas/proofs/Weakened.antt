-- Rule 3 as a test on numbers: the bottoms are the same, and the put places of the premise are among those of the formula.
-- Assumes nothing.
use Prim.Native.Nat.{ℕ, suc, ◌+◌, ◌*◌, ◌^◌, ◌<◌}
use mathlib.Core.Path.{◌≡◌, refl, sym, ◌∙◌, ap, ap₂, subst}
use mathlib.Core.Bool.{true, ◌&&◌}
use mathlib.Core.List.{List, [], ◌∷◌, ◌++◌, append-nil, Memᴰ}
use native.Mathlib.Nat.{pow-suc}
use native.Mathlib.Omega.{arith}
use lib.ListN.{length, length-map}
use lib.Dec.{eqb}
use lib.Bits.{bit_and, and_block, and_lt, and_self}
use borrow.Author.Tests.{eqb-true, eq-eqb}
use Rattle.infon.specs.Formula.{Told, said, put, Quotation, Formula, same}
use Rattle.infon.specs.Listing.{Prefix, wrap, weakened, is_listed}
use Rattle.infon.specs.Calculus.{Weaker, end, unchanged, lowered, said_by, put_by}
use Rattle.infon.specs.Rules.{prefix_under, core_of, weakenings}
use Rattle.std.proofs.lemmas.Bool.{and_parts, and_from}
use Rattle.infon.proofs.Same.{same_refl, same_eq}
use Rattle.infon.proofs.Prefixes.{listed_mem, mem_listed, wrap_core, prefix_core, core_core, prefix_wrap, core_wrap, mem_weakened, weakened_mem}
use Rattle.formulas.specs.Table.{put_bit, put_mask, all_put, bottom_of}
use Rattle.formulas.proofs.Numbers.{same_test}

one_more_place : (t : Told) (m k : ℕ) → m < 2 ^ k → m + put_bit t * 2 ^ k < 2 ^ suc k
unfolding put_bit
one_more_place said m k h = rw (pow-suc 2 k) (omega arith)
one_more_place put m k h = rw (pow-suc 2 k) (omega arith)

pub mask_below : (w : Prefix) → put_mask w < 2 ^ length w
unfolding put_mask
mask_below [] = omega arith
mask_below (q ∷ outer) = one_more_place q.told (put_mask outer) (length outer) (mask_below outer)

-- the put places common to two rows, place by place
common : (s t : Told) (k m l : ℕ) → m < 2 ^ k → l < 2 ^ k
    → bit_and (m + put_bit s * 2 ^ k) (l + put_bit t * 2 ^ k) ≡ bit_and m l + bit_and (put_bit s) (put_bit t) * 2 ^ k
common s t k m l hm hl =
    let turned : m + put_bit s * 2 ^ k ≡ put_bit s * 2 ^ k + m = omega arith in
    let turned_too : l + put_bit t * 2 ^ k ≡ put_bit t * 2 ^ k + l = omega arith in
    let block = and_block k (put_bit s) (put_bit t) m l hm hl in
    ap₂ bit_and turned turned_too ∙ (block ∙ omega arith)

weaker_length : {v w : Prefix} → Weaker v w → length v ≡ length w
weaker_length end = refl
weaker_length (unchanged q h) = ap suc (weaker_length h)
weaker_length (lowered p h) = ap suc (weaker_length h)

common_put : (s t : Told) (v w : Prefix) → length v ≡ length w
    → bit_and (put_mask w + put_bit s * 2 ^ length w) (put_mask v + put_bit t * 2 ^ length v)
    ≡ bit_and (put_mask w) (put_mask v) + bit_and (put_bit s) (put_bit t) * 2 ^ length w
common_put s t v w e =
    let less = mask_below v in
    rw e (common s t (length w) (put_mask w) (put_mask v) (mask_below w) (rw e at less))

-- a weaker prefix has put where the other has it
weaker_mask : {v w : Prefix} → Weaker v w → bit_and (put_mask w) (put_mask v) ≡ put_mask w
unfolding put_mask put_bit
weaker_mask end = refl
weaker_mask (unchanged {weak = v} {strong = w} q h) =
    common_put q.told q.told v w (weaker_length h)
    ∙ ap₂ (λ (a b : ℕ). a + b * 2 ^ length w) (weaker_mask h) (and_self (put_bit q.told))
weaker_mask (lowered {weak = v} {strong = w} p h) =
    common_put said put v w (weaker_length h) ∙ ap (λ (a : ℕ). a + 0 * 2 ^ length w) (weaker_mask h)

weaker_bottom : {v w : Prefix} → Weaker v w → all_put v ≡ all_put w
unfolding all_put
weaker_bottom end = refl
weaker_bottom (unchanged q h) = ap (λ (r : Prefix). record { told = put; principal = q.principal } ∷ r) (weaker_bottom h)
weaker_bottom (lowered p h) = ap (λ (r : Prefix). record { told = put; principal = p } ∷ r) (weaker_bottom h)

-- and the other way: same principals, and put wherever the other has it
place_weaker : (s t : Told) (p : List ℕ) (v w : Prefix) → length v ≡ length w
    → bit_and (put_mask w + put_bit s * 2 ^ length w) (put_mask v + put_bit t * 2 ^ length v) ≡ put_mask w + put_bit s * 2 ^ length w
    → (bit_and (put_mask w) (put_mask v) ≡ put_mask w → Weaker v w)
    → Weaker (record { told = t; principal = p } ∷ v) (record { told = s; principal = p } ∷ w)
unfolding put_bit
place_weaker said said p v w e h more =
    unchanged (said_by p) (more (let both = common_put said said v w e in omega arith))
place_weaker said put p v w e h more = lowered p (more (let both = common_put said put v w e in omega arith))
place_weaker put said p v w e h more =
    let both = common_put put said v w e in
    let less = mask_below w in
    let less_too = mask_below v in
    let under = and_lt (length w) (put_mask w) (put_mask v) less (rw e at less_too) in
    absurd (omega arith)
place_weaker put put p v w e h more =
    unchanged (put_by p) (more (let both = common_put put put v w e in omega arith))

pub all_put_length : (w : Prefix) → length (all_put w) ≡ length w
unfolding all_put
all_put_length w = length-map w (λ (q : Quotation). record { told = put; principal = q.principal })

mask_weaker : (v w : Prefix) → all_put v ≡ all_put w → bit_and (put_mask w) (put_mask v) ≡ put_mask w → Weaker v w
unfolding all_put put_mask
mask_weaker [] [] e h = end
mask_weaker [] (r ∷ w) e h = absurd (let z : ◌≡◌ {A = ℕ} 0 1 = cc in omega arith)
mask_weaker (q ∷ v) [] e h = absurd (let z : ◌≡◌ {A = ℕ} 0 1 = cc in omega arith)
mask_weaker (q ∷ v) (r ∷ w) e h =
    let first : ◌≡◌ {A = Quotation} (record { told = put; principal = q.principal }) (record { told = put; principal = r.principal }) = cc in
    let rest : all_put v ≡ all_put w = cc in
    let alike : length v ≡ length w = sym (all_put_length v) ∙ (ap length rest ∙ all_put_length w) in
    let who : q.principal ≡ r.principal = ap (λ (p : Quotation). p.principal) first in
    let step = place_weaker r.told q.told r.principal v w alike h (mask_weaker v w rest) in
    subst (λ (p : List ℕ). Weaker (record { told = q.told; principal = p } ∷ v) (r ∷ w)) (sym who) step

-- what is read off a formula under a prefix that stops at its core
prefix_of_core : (v : Prefix) (x : Formula) → prefix_under [] (wrap v (core_of x)) ≡ v
prefix_of_core v x = prefix_wrap v [] (core_of x) ∙ (prefix_core (v ++ []) x ∙ append-nil v)

core_of_core : (v : Prefix) (x : Formula) → core_of (wrap v (core_of x)) ≡ core_of x
core_of_core v x = core_wrap v (core_of x) ∙ core_core x

bottom_of_core : (v : Prefix) (x : Formula) → bottom_of (wrap v (core_of x)) ≡ wrap (all_put v) (core_of x)
unfolding bottom_of
bottom_of_core v x = ap₂ (λ (p : Prefix) (b : Formula). wrap (all_put p) b) (prefix_of_core v x) (core_of_core v x)

bottom_itself : (a : Formula) → same (bottom_of a) (wrap (all_put (prefix_under [] a)) (core_of a)) ≡ true
unfolding bottom_of
bottom_itself a = same_refl (bottom_of a)

weak_bottom : (a z : Formula) → is_listed z (weakenings a) ≡ true → same (bottom_of a) (bottom_of z) ≡ true
unfolding weakenings
weak_bottom a z h =
    let found = mem_weakened (prefix_under [] a) (core_of a) (listed_mem z (weakened (prefix_under [] a) (core_of a)) h) in
    let e : bottom_of z ≡ wrap (all_put (prefix_under [] a)) (core_of a) =
    ap bottom_of found.1.1 ∙ (bottom_of_core found.0 a ∙ ap (λ (p : Prefix). wrap p (core_of a)) (weaker_bottom found.1.0)) in
    rw e (bottom_itself a)

weak_mask : (a z : Formula) → is_listed z (weakenings a) ≡ true
    → bit_and (put_mask (prefix_under [] a)) (put_mask (prefix_under [] z)) ≡ put_mask (prefix_under [] a)
unfolding weakenings
weak_mask a z h =
    let found = mem_weakened (prefix_under [] a) (core_of a) (listed_mem z (weakened (prefix_under [] a) (core_of a)) h) in
    let e : prefix_under [] z ≡ found.0 = ap (prefix_under []) found.1.1 ∙ prefix_of_core found.0 a in
    rw e (weaker_mask found.1.0)

test_weak : (a z : Formula) → bottom_of a ≡ bottom_of z
    → bit_and (put_mask (prefix_under [] a)) (put_mask (prefix_under [] z)) ≡ put_mask (prefix_under [] a)
    → is_listed z (weakenings a) ≡ true
unfolding weakenings bottom_of wrap
test_weak a z e h =
    let prefixes : all_put (prefix_under [] a) ≡ all_put (prefix_under [] z) =
    sym (prefix_of_core (all_put (prefix_under [] a)) a) ∙ (ap (prefix_under []) e ∙ prefix_of_core (all_put (prefix_under [] z)) z) in
    let cores : core_of a ≡ core_of z =
    sym (core_of_core (all_put (prefix_under [] a)) a) ∙ (ap core_of e ∙ core_of_core (all_put (prefix_under [] z)) z) in
    let weaker = mask_weaker (prefix_under [] z) (prefix_under [] a) (sym prefixes) h in
    let whole : wrap (prefix_under [] z) (core_of a) ≡ z = ap (wrap (prefix_under [] z)) cores ∙ wrap_core [] z in
    mem_listed (subst (λ (y : Formula). Memᴰ y (weakened (prefix_under [] a) (core_of a))) whole (weakened_mem (core_of a) weaker))

pub weak_test : (a z : Formula) → is_listed z (weakenings a)
    ≡ same (bottom_of a) (bottom_of z)
    && eqb (bit_and (put_mask (prefix_under [] a)) (put_mask (prefix_under [] z))) (put_mask (prefix_under [] a))
weak_test a z =
    let test = eqb (bit_and (put_mask (prefix_under [] a)) (put_mask (prefix_under [] z))) (put_mask (prefix_under [] a)) in
    same_test (is_listed z (weakenings a)) (same (bottom_of a) (bottom_of z) && test)
    (λ h. and_from _ _ (weak_bottom a z h) (eq-eqb _ _ (weak_mask a z h)))
    (λ h.
    let both = and_parts (same (bottom_of a) (bottom_of z)) test h in
    test_weak a z (same_eq (bottom_of a) (bottom_of z) both.0) (eqb-true _ _ both.1))
