use Rattle.session_programs.proofs.measures_lemmas.SortedNeeds.{needs_increase, needs_are_named}
use Rattle.session_programs.proofs.measures.laws.needs_what_it_names.Goals as goal

pub returns : goal.returns
returns c = λ b. (needs_increase b, needs_are_named b)
