use Rattle.drinking_core.proofs.UnknownRecords.{unknown_records_are_nowhere}
use Rattle.drinking_core.proofs.laws.unknown_records_are_nowhere.Goals as goal

pub returns : goal.returns
returns c = unknown_records_are_nowhere
