-- `wording::put_formula` meets its contract: the words of the prefix are put, and behind them those of the base.
use Rattle.prefix.proofs.Shown.{readable, prefix_sized}
use Rattle.twins.proofs.Texts.{all_quoting}
use Rattle.wording.proofs.Telling.{told_words}
use Rattle.wording.proofs.put_formula.Goals as goal

pub prefix_of-p-requires : goal.prefix_of-p-requires
prefix_of-p-requires c = let told = c.requires.told in readable _ _ told.held _ told.below

pub put_prefix-behind-requires : goal.put_prefix-behind-requires
put_prefix-behind-requires c =
    let told = c.requires.told in
    rw c.prefix_of-p.ensures (prefix_sized _ _ told.held _ told.below, all_quoting _ _ told.held _ told.below, c.requires.inside)

pub returns : goal.returns
returns c =
    let prefix = c.prefix_of-p.ensures in
    λ x told.
    told_words _ _ _ _ x told c.requires.inside (rw prefix at c.around.ensures) (rw prefix at c.put_prefix-behind.ensures) c.put_words.ensures
