-- `policy::fill` meets its contract: what each way leaves is what the next one needs.
use Rattle.policy.proofs.Finish.{begun_holding, ended_holding, all_filled}
use Rattle.policy.proofs.fill.Goals as goal

pub fill_ends-requires : goal.fill_ends-requires
fill_ends-requires c =
    begun_holding _ _ _ _ c.fill_spots-count.ensures c.requires.few c.told-nodes

pub fill_above-requires : goal.fill_above-requires
fill_above-requires c =
    ended_holding _ _ _ _ c.fill_spots-count.ensures c.requires.few c.told-nodes _ c.fill_ends.ensures

pub returns : goal.returns
returns c =
    all_filled _ _ _ _ c.fill_spots-count.ensures c.requires.few c.told-nodes _ c.fill_ends.ensures _ c.fill_above.ensures
