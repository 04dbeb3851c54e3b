-- `prefix::puts` meets its contract: from the outermost place inwards, each put place adds its weight.
use native.Mathlib.Omega.{arith}
use Prim.Native.Nat.{ℕ, ◌+◌, ◌*◌, ◌≤◌}
use mathlib.Core.Path.{sym, ◌∙◌, ap, ap₂}
use lib.ListN.{length}
use Rattle.prefix.specs.Places.{put_weight, blank}
use Rattle.prefix.proofs.Loops.{puts_begin, weight_begin, puts_turn, weight_turn, puts_few, weight_few, weight_bound}
use Rattle.prefix.proofs.puts.Goals as goal

pub loop-k-init : goal.loop-k-init
loop-k-init c =
    record { so_far = puts_begin c.args.p.places c.args.p.count; weight_is = weight_begin c.args.p.places c.args.p.count }

pub overflow_add-sum : goal.overflow_add-sum
overflow_add-sum c =
    let p = c.args.p in
    omega (
      arith,
      c.loop-k.invariant.so_far,
      c.loop-k.invariant.weight_is,
      puts_few p.places p.count c.loop-k.k c.requires.few,
      weight_few p.places p.count c.loop-k.k c.requires.few,
      weight_bound _ _ _ c.put_weight-sum.ensures,
    )

pub overflow_mul-weight : goal.overflow_mul-weight
overflow_mul-weight c =
    omega (arith, c.loop-k.invariant.weight_is, weight_few c.args.p.places c.args.p.count c.loop-k.k c.requires.few)

pub loop-k-preserved : goal.loop-k-preserved
loop-k-preserved c =
    let p = c.args.p in
    let fits : p.count ≤ length p.places = omega (arith, c.requires.few, c.requires.full) in
    record {
      so_far =
          ap₂ ◌+◌ c.loop-k.invariant.so_far (c.put_weight-sum.ensures ∙ ap (put_weight _) c.loop-k.invariant.weight_is)
          ∙ sym (puts_turn p.places p.count c.loop-k.k blank fits c.loop-k.auto.k c.loop-k-test.true);
      weight_is =
          ap (λ (w : ℕ). w * 2) c.loop-k.invariant.weight_is
          ∙ sym (weight_turn p.places p.count c.loop-k.k blank fits c.loop-k.auto.k c.loop-k-test.true);
    }
