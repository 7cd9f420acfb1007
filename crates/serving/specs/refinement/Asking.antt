-- What asking an office says.
use Rattle.std.specs.Prelude.{ℕ, Bool, List, Result, Ok, Err}
use Rattle.site_core.specs.Journals.{Site}
use Rattle.session_streams.specs.declared.requests.asked.Asked.{Asked}
use Rattle.serving.specs.declared.answers.lack.Lack.{Lack}
use Rattle.session_reports.specs.declared.form.forms.Form.{Form}
use Rattle.serving.specs.answers.Answers.{Answered, Lacks}

-- it is answered, or not yet; or it lacks something for the answer
abbrev pub Asks : Form → ℕ → Site → Asked → Result Bool Lack → Site → List ℕ → List ℕ → Type 0
Asks form tag s asked (Ok b) s' old new = Answered form tag s asked b s' old new
Asks form tag s asked (Err lack) s' old new = Lacks tag s asked lack s'
