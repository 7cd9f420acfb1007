use Rattle.session_streams.proofs.PartsHeard.{faults_are_told_once}
use Rattle.session_streams.proofs.laws.faults_are_told_once.Goals as goal

pub returns : goal.returns
returns c = faults_are_told_once
