use Rattle.session_programs.proofs.listing.comparison_text.Goals as goal

pub returns-in-NotEqual : goal.returns-in-NotEqual
returns-in-NotEqual c = cc
