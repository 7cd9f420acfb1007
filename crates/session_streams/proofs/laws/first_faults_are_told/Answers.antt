use Rattle.session_streams.proofs.FaultsHeard.{first_faults_are_told}
use Rattle.session_streams.proofs.laws.first_faults_are_told.Goals as goal

pub returns : goal.returns
returns c = first_faults_are_told
