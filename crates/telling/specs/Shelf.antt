-- What is at hand of an accepted file where its formulas are put into words: beside its nodes: the formula table with the list.
use Rattle.std.specs.Prelude.{ℕ, ◌≤◌, ◌≡◌, List, length, get_or, set}
use Rattle.infon.specs.declared.Record.{Record}
use Rattle.infon.specs.Policy.{entries_of}
use Rattle.infon.specs.Listing.{list_of}
use Rattle.infon.specs.Rules.{numbered}
use Rattle.formulas.specs.Table.{table_rows}
use Rattle.listing.specs.Outcome.{TableFilled}
use Rattle.writing.specs.Placed.{PutSome}
use Rattle.facts.specs.Facts.{fact_line}
use Rattle.telling.specs.Text.{record_words}

pub record Shelf (file table : List ℕ) : Type 0 where
  pub few : length (list_of (entries_of file)) ≤ table_rows
  pub before : List ℕ
  pub filled : TableFilled (entries_of file) before table

-- What putting the next record's line does: the line is put, and its formula has its place.
pub record Nexts (file places : List ℕ) (k : ℕ) (r : Record) (out : List ℕ) (at end : ℕ) (places' out' : List ℕ) : Type 0 where
  pub puts : PutSome
      (record_words (fact_line (numbered (list_of (entries_of file)) r.formula) (entries_of file)) (λ (p : ℕ). get_or places p 0)
      (numbered (list_of (entries_of file)) r.formula) k r.way) at out end out'
  pub placed : places' ≡ set places r.formula k
