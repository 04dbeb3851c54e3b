-- Wanted records put behind each other into a lent buffer.
-- Assumes nothing.
use Prim.Native.Nat.{ℕ, zero, suc, ◌+◌, ◌-◌, ◌*◌, ◌≤◌, ◌<◌}
use native.Mathlib.Numerals.{add-one}
use native.Mathlib.Nat.{add-zero, add-suc}
use native.Mathlib.Omega.{arith}
use mathlib.Core.Path.{◌≡◌, refl, sym, ◌∙◌, ap}
use Rattle.std.specs.Prelude.{None, Some}
use mathlib.Core.List.{List, ◌++◌, append-nil}
use lib.ListN.{length, take, drop, length-append}
use Rattle.infon.specs.declared.Record.{Record}
use Rattle.infon.specs.Journal.{record_bytes, spelled, spelled_all}
use Rattle.infon.specs.Run.{written}
use Rattle.infon.proofs.Codec.{length_spelled, length_spelled_all, spelled_all_append}
use Rattle.infon.proofs.Cuts.{written_more}
use Rattle.journal.proofs.Writing.{written_nothing, tail_written}
use Rattle.reasons.specs.Wanted.{one_of, wanted_at, wanted_to}

-- more records have no fewer wanted ones
wanted_more : (journal wanted : List ℕ) (i more : ℕ) → length (wanted_to journal wanted i) ≤ length (wanted_to journal wanted (i + more))
unfolding wanted_to
wanted_more journal wanted i zero = rw (add-zero i) (omega arith)
wanted_more journal wanted i (suc more) =
    let before = wanted_more journal wanted i more in
    rw (add-suc i more, length-append (wanted_to journal wanted (i + more)) (one_of (wanted_at journal wanted (i + more)))) (omega arith)

-- After some turns of the loop: the wanted ones of the first i records stand at the front.
pub record Lending (journal wanted : List ℕ) (kept : ℕ) (out₀ out : List ℕ) (count i : ℕ) : Type 0 where
  pub within : i ≤ kept
  pub counts : count ≡ length (wanted_to journal wanted i)
  pub stands : out ≡ written out₀ 0 (spelled_all (wanted_to journal wanted i))

module _ {journal wanted : List ℕ} {kept : ℕ} {out₀ : List ℕ} where
  pub lending_begins : Lending journal wanted kept out₀ out₀ 0 0
  unfolding wanted_to spelled_all
  lending_begins = record { within = omega arith; counts = refl; stands = sym (written_nothing out₀ 0) }

  module _ {out : List ℕ} {count i : ℕ} (inv : Lending journal wanted kept out₀ out count i) (low : i < kept)
      (room : record_bytes * length (wanted_to journal wanted kept) ≤ length out₀) where
    lending_turns : {next : ℕ} {after : List ℕ} → next ≡ count + length (one_of (wanted_at journal wanted i))
        → after ≡ written out (record_bytes * count) (spelled_all (one_of (wanted_at journal wanted i))) → Lending journal wanted kept out₀ after next (i + 1)
    unfolding wanted_to
    lending_turns counted put =
        let before = wanted_to journal wanted i in
        let new = one_of (wanted_at journal wanted i) in
        let size = length_spelled_all before in
        let fits : 0 + length (spelled_all before) ≤ length out₀ =
        (let more = wanted_more journal wanted i (kept - i) in
        let whole : i + (kept - i) ≡ kept = omega arith in
        let enough : length before ≤ length (wanted_to journal wanted kept) = rw whole at more in
        omega arith) in
        let place : record_bytes * count ≡ 0 + length (spelled_all before) = (let told = inv.counts in omega arith) in
        rw add-one
        (record {
          within = omega arith;
          counts = counted ∙ (ap (λ (n : ℕ). n + length new) inv.counts ∙ sym (length-append before new));
          stands =
              put
              ∙ (ap (λ (s : List ℕ). written s (record_bytes * count) (spelled_all new)) inv.stands
              ∙ (ap (λ (n : ℕ). written (written out₀ 0 (spelled_all before)) n (spelled_all new)) place
              ∙ (written_more out₀ 0 (spelled_all before) fits (spelled_all new) ∙ ap (written out₀ 0) (sym (spelled_all_append before new)))));
        })

    pub lending_none : None ≡ wanted_at journal wanted i → Lending journal wanted kept out₀ out count (i + 1)
    unfolding one_of spelled_all
    lending_none here =
        lending_turns (rw (← here) (sym (add-zero count))) (rw (← here) (sym (written_nothing out (record_bytes * count))))

    module _ {r : Record} (here : Some r ≡ wanted_at journal wanted i) (same : length out ≡ length out₀) where
      -- there is room for one more
      pub lending_room : record_bytes * (count + 1) ≤ length out
      unfolding wanted_to one_of
      lending_room =
          let counted = inv.counts in
          let more = wanted_more journal wanted (suc i) (kept - suc i) in
          let whole : suc i + (kept - suc i) ≡ kept = omega arith in
          let enough : length (wanted_to journal wanted (suc i)) ≤ length (wanted_to journal wanted kept) = rw whole at more in
          let sum = length-append (wanted_to journal wanted i) (one_of (wanted_at journal wanted i)) in
          let one : length (one_of (wanted_at journal wanted i)) ≡ 1 = rw (← here) in
          omega arith

      pub lending_one : {last : List ℕ}
          → last ≡ written (take (length out - record_bytes * count) (drop (record_bytes * count) out)) 0 (spelled r)
          → Lending journal wanted kept out₀
          (take (record_bytes * count) out ++ (last ++ drop (length out - record_bytes * count) (drop (record_bytes * count) out))) (count + 1) (i + 1)
      unfolding one_of spelled_all
      lending_one put =
          let fits = lending_room in
          let nine = length_spelled r in
          lending_turns (rw (← here))
          (rw (← here, append-nil) (tail_written out (record_bytes * count) (spelled r) (omega arith) put))

  pub lending_over : {out : List ℕ} {count i : ℕ} → Lending journal wanted kept out₀ out count i → kept ≤ i → out ≡ written out₀ 0 (spelled_all (wanted_to journal wanted kept))
  lending_over {i = i} inv low = let end : kept ≡ i = (let within = inv.within in omega arith) in rw end inv.stands
