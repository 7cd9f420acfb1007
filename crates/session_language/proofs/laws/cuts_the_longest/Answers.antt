use Rattle.session_language.proofs.LongestMatch.{the_longest}
use Rattle.session_language.proofs.laws.cuts_the_longest.Goals as goal

pub returns : goal.returns
returns c = the_longest
