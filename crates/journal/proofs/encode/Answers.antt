-- `journal::encode` meets its contract: what is written part by part, each right after the one before, is the record.
use Rattle.journal.proofs.Writing.{record_written}
use Rattle.journal.proofs.encode.Goals as goal

pub returns : goal.returns
returns c = record_written _ c.args.r c.requires c.rule_of.ensures c.first_premise.ensures c.second_premise.ensures c.put_number.ensures c.put_number-2.ensures c.put_number-3.ensures
