-- What comes of the file alone, code by code, and what is known of the tables of an accepted file.
-- Assumes nothing.
use Prim.Native.Nat.{ℕ, ◌+◌, ◌≤◌}
use native.Mathlib.Omega.{arith}
use mathlib.Core.Path.{◌≡◌, refl, sym, ◌∙◌, ap, subst}
use mathlib.Core.List.{List, [], ◌∷◌, ◌++◌}
use lib.ListN.{length, take, drop, length-map, length-append}
use lib.Seq.{take_at}
use Rattle.std.specs.Prelude.{Ok, Err}
use Rattle.infon.specs.declared.Refusal.{Refusal}
use Rattle.infon.specs.Codes.{and_then, tried, Verdict, passed}
use Rattle.infon.specs.Policy.{entries_of, queries_of, code2, code3, code4}
use Rattle.infon.specs.Listing.{list_of, code5}
use Rattle.infon.specs.Run.{file_codes, file_verdict, written}
use Rattle.infon.proofs.Tried.{pass_on, stop_at, and_then_end, tried_append}
use Rattle.infon.proofs.Prefixes.{mem_listed}
use Rattle.infon.proofs.Listed.{queries_listed}
use Rattle.nodes.specs.Nodes.{node_rows, node_table, count_nodes, nodes_of, NodesHeld}
use Rattle.formulas.specs.Table.{number_in}
use Rattle.policy.specs.Codes.{first_codes}
use Rattle.policy.specs.Filling.{NodesFilled}
use Rattle.policy.specs.Tables.{NodesTabled, IsCode4}
use Rattle.policy.proofs.Verdicts.{check_passed}
use Rattle.policy.proofs.Finish.{filled_tabled}
use Rattle.listing.specs.declared.Listed.{Listed}
use Rattle.listing.specs.Outcome.{listed_by, TableAfter, queries_after, ListedFile}
use Rattle.listing.specs.Lines.{query_numbers}
use Rattle.accept.specs.declared.Accepted.{Accepted}
use Rattle.accept.specs.Accepted.{accepted_by, accepted_of, NodesAfter, Accepts}
use Rattle.formulas.specs.Prepared.{PreparedFor}

-- the verdict is that of the first codes, and then that of the others
verdict_split : (file : List ℕ) → file_verdict file ≡ and_then (tried (first_codes file)) (and_then (code4 (entries_of file)) (code5 (entries_of file)))
unfolding file_verdict file_codes first_codes tried
verdict_split file =
    tried_append (first_codes file) (code4 (entries_of file) ∷ (code5 (entries_of file) ∷ []))
    ∙ ap (λ (v : Verdict). and_then (tried (first_codes file)) (and_then (code4 (entries_of file)) v)) (and_then_end (code5 (entries_of file)))

-- A file with this verdict is refused: what was filled of its nodes is told, the other buffers stay.
refused_by : (file nodes table queries nodes' : List ℕ) {by : Refusal} → file_verdict file ≡ Err by
    → NodesAfter (tried (first_codes file)) file nodes nodes' → Accepts file nodes table queries (Err by) nodes' table queries
unfolding accepted_of accepted_by queries_after
refused_by file nodes table queries nodes' verdict filled =
    record {
      answer = rw verdict refl;
      nodes_are = filled;
      table_is = rw verdict refl;
      queries_are = rw verdict;
    }

module _ (file nodes table queries : List ℕ) where
  pub refused_first : {by : Refusal} → Err by ≡ tried (first_codes file) → Accepts file nodes table queries (Err by) nodes table queries
  refused_first first =
      refused_by file nodes table queries nodes
      (verdict_split file ∙ stop_at (sym first) (and_then (code4 (entries_of file)) (code5 (entries_of file))))
      (subst (λ (v : Verdict). NodesAfter v file nodes nodes) first refl)

  module _ (pass : passed ≡ tried (first_codes file)) where
    pub first_passed : (length file ≤ 32768) × ((code2 file ≡ passed) × (code3 (entries_of file) ≡ passed))
    first_passed = check_passed file (sym pass)

    verdict_later : file_verdict file ≡ and_then (code4 (entries_of file)) (code5 (entries_of file))
    verdict_later = verdict_split file ∙ pass_on (sym pass) (and_then (code4 (entries_of file)) (code5 (entries_of file)))

    module _ (long : length nodes ≡ node_table) {count : ℕ} {t : List ℕ} (filled : NodesFilled file count nodes t) where
      nodes_after : NodesAfter (tried (first_codes file)) file nodes t
      nodes_after = subst (λ (v : Verdict). NodesAfter v file nodes t) pass filled.noded

      pub deep_asks : NodesTabled t count
      deep_asks = filled_tabled file count nodes t filled first_passed.1.1 long

      pub refused_fourth : {by : Refusal} → IsCode4 t count (Err by) → Accepts file nodes table queries (Err by) t table queries
      refused_fourth deep =
          refused_by file nodes table queries t
          (verdict_later ∙ stop_at (sym (deep file nodes filled.counted filled.noded)) (code5 (entries_of file))) nodes_after

      module _ (shallow : IsCode4 t count passed) where
        code4_passed : code4 (entries_of file) ≡ passed
        code4_passed = sym (shallow file nodes filled.counted filled.noded)

        pub held : NodesHeld file t
        held =
            record {
              formed = first_passed.1.0;
              few = first_passed.1.1;
              shallow = code4_passed;
              long = filled.noded.size ∙ long;
              held = record { size = refl; cells = filled.noded.cells; others = λ k i row behind. refl };
            }

        verdict_five : file_verdict file ≡ code5 (entries_of file)
        verdict_five = verdict_later ∙ pass_on code4_passed (code5 (entries_of file))

        module _ {table' queries' : List ℕ} where
          -- what the answer of the listing says of code 5
          code5_refused : {by : Refusal} → ListedFile file table queries table' queries' (Err by) → code5 (entries_of file) ≡ Err by
          unfolding listed_by
          code5_refused {by} lists = each (code5 (entries_of file)) refl lists.answer
            where
              each : (v : Verdict) → code5 (entries_of file) ≡ v
                  → Err by ≡ listed_by v (length (list_of (entries_of file))) (length (queries_of (entries_of file))) → code5 (entries_of file) ≡ Err by
              each passed e answer = absurd (let z : ◌≡◌ {A = ℕ} 0 1 = cc in omega arith)
              each (Err other) e answer = let same : by ≡ other = cc in e ∙ ap (λ (b : Refusal). Err b) (sym same)

          pub refused_fifth : {by : Refusal} → ListedFile file table queries table' queries' (Err by) → Accepts file nodes table queries (Err by) t table' queries'
          unfolding queries_after
          refused_fifth lists =
              let five = code5_refused lists in
              let same : table' ≡ table = subst (λ (v : Verdict). TableAfter v (entries_of file) table table') five lists.table_is in
              let stay : queries' ≡ queries = lists.queries_are ∙ ap (λ (v : Verdict). queries_after v file queries) five in
              rw (same, stay) (refused_by file nodes table queries t (verdict_five ∙ five) nodes_after)

          code5_passed : {listed : Listed} → ListedFile file table queries table' queries' (Ok listed)
              → (code5 (entries_of file) ≡ passed) × ((listed.formulas ≡ length (list_of (entries_of file))) × (listed.queries ≡ length (queries_of (entries_of file))))
          unfolding listed_by
          code5_passed {listed} lists = each (code5 (entries_of file)) refl lists.answer
            where
              each : (v : Verdict) → code5 (entries_of file) ≡ v
                  → Ok listed ≡ listed_by v (length (list_of (entries_of file))) (length (queries_of (entries_of file)))
                  → (code5 (entries_of file) ≡ passed) × ((listed.formulas ≡ length (list_of (entries_of file))) × (listed.queries ≡ length (queries_of (entries_of file))))
              each passed e answer =
                  let told : listed ≡ record { formulas = length (list_of (entries_of file)); queries = length (queries_of (entries_of file)) } = cc in
                  (e, (ap (λ (l : Listed). l.formulas) told, ap (λ (l : Listed). l.queries) told))
              each (Err other) e answer = absurd (let z : ◌≡◌ {A = ℕ} 0 1 = cc in omega arith)

          pub accepted : {listed : Listed} → ListedFile file table queries table' queries' (Ok listed)
              → Accepts file nodes table queries (Ok (record { nodes = count; formulas = listed.formulas; queries = listed.queries })) t table' queries'
          unfolding accepted_of accepted_by
          accepted lists =
              let five = code5_passed lists in
              let verdict = verdict_five ∙ five.0 in
              record {
                answer = rw (verdict, filled.counted, five.1.0, five.1.1);
                nodes_are = nodes_after;
                table_is = subst (λ (v : Verdict). TableAfter v (entries_of file) table table') (sym verdict_five) lists.table_is;
                queries_are = lists.queries_are ∙ ap (λ (v : Verdict). queries_after v file queries) (sym verdict_five);
              }

-- What a caller knows by the answer.
module _ {file nodes table queries nodes' table' queries' : List ℕ} where
  pub refused_is : {by : Refusal} → Accepts file nodes table queries (Err by) nodes' table' queries' → file_verdict file ≡ Err by
  unfolding accepted_of accepted_by
  refused_is {by} accepts = each (file_verdict file) refl accepts.answer
    where
      each : (v : Verdict) → file_verdict file ≡ v
          → Err by ≡ accepted_by v (count_nodes (nodes_of file)) (length (list_of (entries_of file))) (length (queries_of (entries_of file)))
          → file_verdict file ≡ Err by
      each passed e answer = absurd (let z : ◌≡◌ {A = ℕ} 0 1 = cc in omega arith)
      each (Err other) e answer = let same : by ≡ other = cc in e ∙ ap (λ (b : Refusal). Err b) (sym same)

  module _ {a : Accepted} (accepts : Accepts file nodes table queries (Ok a) nodes' table' queries') where
    counts : (file_verdict file ≡ passed)
        × (a ≡ record { nodes = count_nodes (nodes_of file); formulas = length (list_of (entries_of file)); queries = length (queries_of (entries_of file)) })
    unfolding accepted_of accepted_by
    counts = each (file_verdict file) refl accepts.answer
      where
        each : (v : Verdict) → file_verdict file ≡ v
            → Ok a ≡ accepted_by v (count_nodes (nodes_of file)) (length (list_of (entries_of file))) (length (queries_of (entries_of file)))
            → (file_verdict file ≡ passed)
            × (a ≡ record { nodes = count_nodes (nodes_of file); formulas = length (list_of (entries_of file)); queries = length (queries_of (entries_of file)) })
        each passed e answer = (e, cc)
        each (Err other) e answer = absurd (let z : ◌≡◌ {A = ℕ} 0 1 = cc in omega arith)

    pub prepared_for : node_rows ≤ length queries → PreparedFor file table' a.formulas queries' a.queries
    unfolding queries_after written
    prepared_for long =
        let entries = entries_of file in
        let fs = list_of entries in
        let asked = queries_of entries in
        let verdict = counts.0 in
        let table_is = subst (λ (v : Verdict). TableAfter v entries table table') verdict accepts.table_is in
        let new = query_numbers file in
        let queries_are : queries' ≡ new ++ drop (0 + length new) queries = accepts.queries_are ∙ ap (λ (v : Verdict). queries_after v file queries) verdict in
        let size : length new ≡ length asked = length-map asked (number_in fs) in
        rw (ap (λ (b : Accepted). b.formulas) counts.1, ap (λ (b : Accepted). b.queries) counts.1)
        (record {
          accepted = verdict;
          prepared =
              record {
                table = table_is.holds;
                count = refl;
                asked_are = refl;
                listed = λ x m. mem_listed (queries_listed entries x m);
                numbers_long = let e = ap length queries_are ∙ length-append new (drop (0 + length new) queries) in omega arith;
                numbers_are = ap (take (length asked)) queries_are ∙ take_at new (drop (0 + length new) queries) (length asked) size;
              };
        })
