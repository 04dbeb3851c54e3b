-- The way through the file: the rows up to the node where the walk stands are held.
-- Assumes nothing.
use Prim.Native.Nat.{ℕ, ◌+◌, ◌-◌, ◌≤◌, ◌<◌}
use native.Mathlib.Omega.{arith}
use mathlib.Core.Path.{◌≡◌, sym, ◌∙◌, ap, subst}
use mathlib.Core.Bool.{true, false, cond}
use mathlib.Core.List.{List}
use lib.ListN.{length, get_or}
use lib.Dec.{eqb}
use Rattle.infon.specs.Bytes.{space}
use Rattle.infon.specs.Codes.{passed}
use Rattle.infon.specs.Policy.{entries_of, code2, code3, most_nodes}
use Rattle.nodes.specs.Nodes.{after, node_at, count_nodes, kind_of, own_bytes, nodes_of, node_table}
use Rattle.nodes.proofs.Spelled.{Chain}
use Rattle.nodes.proofs.Codes.{code3_few}
use Rattle.spelling.specs.declared.Parsed.{Parsed}
use Rattle.spelling.specs.Parsing.{parsed_at, behind_own, kind_parsed}
use Rattle.nodes.specs.declared.Kind.{Kind}
use Rattle.nodes.specs.Columns.{number_of}
use Rattle.std.specs.Prelude.{Option, None, Some}
use Rattle.walk.specs.declared.Spot.{Spot}
use Rattle.walk.specs.Walking.{next_spot}
use Rattle.policy.specs.Filling.{spotted, first_cell, RowsAre, Begun}
use Rattle.walk.proofs.Spots.{walk_begin, walk_over, walk_inside, walk_here, walk_place, walk_line, walk_kind, walk_end, walk_forward, walk_within, walk_on}
use Rattle.policy.proofs.Cells.{none_held, spotted_held, spotted_size}

spot_ahead : (file : List ℕ) (end line : ℕ) → line < end → (next_spot file end line).line < (next_spot file end line).at
unfolding next_spot
spot_ahead file end line h =
    elim (eqb (get_or file end 0) space)
    as (λ t. (cond {A = Spot} t (record { at = end + 1; line = line }) (record { at = end + 3; line = end + 1 })).line < (cond {A = Spot} t (record { at = end + 1; line = line }) (record { at = end + 3; line = end + 1 })).at)
    [ true ↦ omega arith | false ↦ omega arith ]

-- the walk stands at node i, or at the file's end, and the rows before it are held
pub record SpotsTo (file before t : List ℕ) (at line i : ℕ) : Type 0 where
  pub few : i ≤ count_nodes (nodes_of file)
  pub most : count_nodes (nodes_of file) ≤ 1024
  pub chain : Chain file at line (after 0 i (nodes_of file))
  pub ahead : line < at
  pub long : length t ≡ node_table
  pub held : RowsAre (nodes_of file) first_cell i before t

pub spots_begin : (file t : List ℕ) → code2 file ≡ passed → code3 (entries_of file) ≡ passed → length t ≡ node_table → SpotsTo file t t 2 0 0
unfolding most_nodes nodes_of
spots_begin file t formed counted long =
    record {
      few = omega arith;
      most = code3_few (entries_of file) counted;
      chain = walk_begin file formed;
      ahead = omega arith;
      long = long;
      held = none_held (nodes_of file) first_cell t;
    }

module _ (file before t : List ℕ) (at line i : ℕ) (s : SpotsTo file before t at line i) where
  pub spots_over : (o : Option Parsed) → o ≡ parsed_at file at → o ≡ None → Begun file i before t
  spots_over o e none = record { counted = walk_over file at line i s.few s.chain o e none; held = s.held }

  pub spots_full : 1024 ≤ i → Begun file 1024 before t
  spots_full full =
      let all : i ≡ 1024 = omega (arith, s.few, s.most) in
      record { counted = omega (arith, s.few, s.most); held = subst (λ n. RowsAre (nodes_of file) first_cell n before t) all s.held }

  module _ (o : Option Parsed) (p : Parsed) (e : o ≡ parsed_at file at) (is : o ≡ Some p) where
    pub spots_inside : at < length file
    spots_inside = walk_inside file at line i s.few s.chain o p e is

    module _ (end : ℕ) (f : end ≡ behind_own at p) where
      pub spots_end : (at < end) × (end < length file)
      spots_end = (
        omega (arith, f, walk_end file at line i s.few s.chain o p e is, walk_forward file at line i s.few s.chain o p e is),
        walk_within file at line i s.few s.chain o p e is end f,
      )

      pub spots_turn : (kind : Kind) → kind ≡ kind_parsed p → i < 1024 → (after : List ℕ) → after ≡ spotted t i (number_of kind) at (end - at) line
          → (next : Spot) → next ≡ next_spot file end line → SpotsTo file before after next.at next.line (i + 1)
      spots_turn kind k here after stored next g =
          let x = (node_at (nodes_of file) i).what in
          let kinds : number_of kind ≡ kind_of x = ap number_of k ∙ walk_kind file at line i s.few s.chain o p e is in
          let owns : end - at ≡ own_bytes x = omega (arith, f, walk_end file at line i s.few s.chain o p e is) in
          record {
            few = omega (arith, walk_here file at line i s.few s.chain o p e is);
            most = s.most;
            chain = walk_on file at line i s.few s.chain o p e is end f next g;
            ahead =
                subst (λ (q : Spot). q.line < q.at) (sym g) (spot_ahead file end line (omega (arith, s.ahead, spots_end.0)));
            long = ap length stored ∙ spotted_size t s.long i here (number_of kind) at (end - at) line;
            held =
                subst (RowsAre (nodes_of file) first_cell (i + 1) before) (sym stored)
                (spotted_held (nodes_of file) before t i s.held s.long here (number_of kind) at (end - at) line kinds
                (sym (walk_place file at line i s.few s.chain o p e is)) owns (sym (walk_line file at line i s.few s.chain o p e is)));
          }
