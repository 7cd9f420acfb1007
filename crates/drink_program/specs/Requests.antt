-- What a command line's request asks of the inputs, and what is done.
use Rattle.std.specs.Prelude.{◌≡◌, ◌≤◌, List, [], ◌∷◌, codes, ℕ, Bool, Option, length, map, get_or}
use Rattle.std.specs.Option.{option_copied}
use Rattle.host_files.specs.outputs.Written.{KeepsFiles}
use Rattle.host_files.specs.inputs.Words.{StandFor}
use Rattle.office_map.specs.PlanValue.{PlanValue}
use Rattle.socket_pump.specs.Wires.{Account}
use Rattle.session_reports.specs.form.Forms.{form_of}
use Rattle.drink_commands.specs.Serial.{ReportsDay}
use Rattle.drink_commands.specs.Simulation.{Simulates}
use Rattle.drink_commands.specs.Random.{TellsRun}
use Rattle.drink_commands.specs.Run.{EndsWith, IsJudgedRun, RunsOffice, RunsOffices}
use Rattle.drink_commands.specs.Stored.{EndsStored, IsJudgedStored, RunsStored}
use Rattle.drink_commands.specs.Served.{IsJudgedServed, IsServed, ServesOffice}
use Rattle.drink_commands.specs.Audit.{Audits, IsJudgedAudit, journal_inputs}
use Rattle.command_outputs.specs.Journals.{File}
use Rattle.command_outputs.specs.Fault.{IsOfRun}
use Rattle.drink_commands.specs.Texts.{IsJudged, IsJudgedOr}
use Rattle.serial_command.specs.declared.reading.input.Input.{Input}
use Rattle.serial_command.specs.declared.reading.input.Input.TheVariants as inputs
use Rattle.command_outputs.specs.declared.fault.Fault.{Fault}
use Rattle.command_words.specs.declared.command_line.Request.{Request}
use Rattle.command_words.specs.declared.command_line.Request.TheVariants.{Serial, Sim, Random, Run, RunStored, Serve, Live, Audit}

-- the words of the request's inputs; the word of one
abbrev pub words_of : Request → List (List ℕ)
words_of (Serial plan sessions next json) = plan.now ∷ sessions.now ∷ []
words_of (Sim plan sessions script folder next unfinished json) = plan.now ∷ sessions.now ∷ script.now ∷ []
words_of (Random plan sessions seed loss steps next unfinished json) = plan.now ∷ sessions.now ∷ []
words_of (Run plan office sessions turns file secrets json) = plan.now ∷ sessions.now ∷ []
words_of (RunStored plan office sessions turns store sync is_new secrets json) = plan.now ∷ sessions.now ∷ []
words_of (Serve plan office store sync is_new secrets linger each json) = plan.now ∷ []
words_of (Live plan sessions folder next unfinished json) = plan.now ∷ sessions.now ∷ []
words_of (Audit plan journals next unfinished json) = plan.now ∷ map (λ w. w.now) journals.items

abbrev pub word_of : Request → Input → List ℕ
word_of (Serial plan sessions next json) inputs.Plan = plan.now
word_of (Serial plan sessions next json) inputs.Sessions = sessions.now
word_of (Serial plan sessions next json) inputs.Script = []
word_of (Serial plan sessions next json) (inputs.Journal k) = []
word_of (Sim plan sessions script folder next unfinished json) inputs.Plan = plan.now
word_of (Sim plan sessions script folder next unfinished json) inputs.Sessions = sessions.now
word_of (Sim plan sessions script folder next unfinished json) inputs.Script = script.now
word_of (Sim plan sessions script folder next unfinished json) (inputs.Journal k) = []
word_of (Random plan sessions seed loss steps next unfinished json) inputs.Plan = plan.now
word_of (Random plan sessions seed loss steps next unfinished json) inputs.Sessions = sessions.now
word_of (Random plan sessions seed loss steps next unfinished json) inputs.Script = []
word_of (Random plan sessions seed loss steps next unfinished json) (inputs.Journal k) = []
word_of (Run plan office sessions turns file secrets json) inputs.Plan = plan.now
word_of (Run plan office sessions turns file secrets json) inputs.Sessions = sessions.now
word_of (Run plan office sessions turns file secrets json) inputs.Script = []
word_of (Run plan office sessions turns file secrets json) (inputs.Journal k) = []
word_of (RunStored plan office sessions turns store sync is_new secrets json) inputs.Plan = plan.now
word_of (RunStored plan office sessions turns store sync is_new secrets json) inputs.Sessions = sessions.now
word_of (RunStored plan office sessions turns store sync is_new secrets json) inputs.Script = []
word_of (RunStored plan office sessions turns store sync is_new secrets json) (inputs.Journal k) = []
word_of (Serve plan office store sync is_new secrets linger each json) inputs.Plan = plan.now
word_of (Serve plan office store sync is_new secrets linger each json) inputs.Sessions = codes "-"
word_of (Serve plan office store sync is_new secrets linger each json) inputs.Script = []
word_of (Serve plan office store sync is_new secrets linger each json) (inputs.Journal k) = []
word_of (Live plan sessions folder next unfinished json) inputs.Plan = plan.now
word_of (Live plan sessions folder next unfinished json) inputs.Sessions = sessions.now
word_of (Live plan sessions folder next unfinished json) inputs.Script = []
word_of (Live plan sessions folder next unfinished json) (inputs.Journal k) = []
word_of (Audit plan journals next unfinished json) inputs.Plan = plan.now
word_of (Audit plan journals next unfinished json) inputs.Sessions = []
word_of (Audit plan journals next unfinished json) inputs.Script = []
word_of (Audit plan journals next unfinished json) (inputs.Journal k) = get_or (map (λ w. w.now) journals.items) k []

-- the inputs that these words are, in their order
abbrev pub inputs_of : Request → List Input
inputs_of (Serial plan sessions next json) = inputs.Plan ∷ inputs.Sessions ∷ []
inputs_of (Sim plan sessions script folder next unfinished json) = inputs.Plan ∷ inputs.Sessions ∷ inputs.Script ∷ []
inputs_of (Random plan sessions seed loss steps next unfinished json) = inputs.Plan ∷ inputs.Sessions ∷ []
inputs_of (Run plan office sessions turns file secrets json) = inputs.Plan ∷ inputs.Sessions ∷ []
inputs_of (RunStored plan office sessions turns store sync is_new secrets json) = inputs.Plan ∷ inputs.Sessions ∷ []
inputs_of (Serve plan office store sync is_new secrets linger each json) = inputs.Plan ∷ []
inputs_of (Live plan sessions folder next unfinished json) = inputs.Plan ∷ inputs.Sessions ∷ []
inputs_of (Audit plan journals next unfinished json) = inputs.Plan ∷ journal_inputs 0 (length journals.items)

-- The request is carried out, with this exit status: from the texts that its words stand for, what its command prints was
-- written after what the writer held, and the files that it names, and no others, after those that were written. Sockets tell what they
-- took and sent, or they don't. What stores have is told by their names, as far as it is known. Who asks of an office that serves does so on the standard input. What the socket of an office of a plan told, with a file for its secrets or without, is as Is says.
abbrev pub IsDone : (Option (List ℕ) → PlanValue → ℕ → Account → Type 0) → Bool → (List ℕ → Option (List ℕ)) → Option (List ℕ) → (List ℕ → Option (List ℕ)) → Request → ℕ → Option (List ℕ) → Option (List ℕ) → Option (List File) → Option (List File) → Type 0
IsDone Is tells files standard stores (Serial plan sessions next json) status old new kept left = (plan_text sessions_text : List ℕ)
    → StandFor files standard (plan.now ∷ sessions.now ∷ []) (plan_text ∷ sessions_text ∷ []) → ReportsDay (form_of json) plan_text sessions_text (option_copied next) old new kept left
IsDone Is tells files standard stores (Sim plan sessions script folder next unfinished json) status old new kept left = (plan_text sessions_text script_text : List ℕ)
    → StandFor files standard (plan.now ∷ sessions.now ∷ script.now ∷ []) (plan_text ∷ sessions_text ∷ script_text ∷ [])
    → Simulates (form_of json) plan_text sessions_text script_text (option_copied folder) (option_copied next) (option_copied unfinished) old new kept left
IsDone Is tells files standard stores (Random plan sessions seed loss steps next unfinished json) status old new kept left = (plan_text sessions_text : List ℕ)
    → StandFor files standard (plan.now ∷ sessions.now ∷ []) (plan_text ∷ sessions_text ∷ []) → TellsRun (form_of json) plan_text sessions_text loss steps (option_copied next) (option_copied unfinished) old new kept left
IsDone Is tells files standard stores (Run plan office sessions turns file secrets json) status old new kept left = RunsOffice (Is (option_copied secrets)) (form_of json) tells files standard plan.now office.now sessions.now turns (option_copied file) (EndsWith status) old new kept left
IsDone Is tells files standard stores (RunStored plan office sessions turns store sync is_new secrets json) status old new kept left = KeepsFiles kept left × RunsStored (Is (option_copied secrets)) (form_of json) tells files standard (stores store.now) is_new plan.now office.now sessions.now store.now turns (EndsStored status) old new
IsDone Is tells files standard stores (Serve plan office store sync is_new secrets linger each json) status old new kept left = KeepsFiles kept left × ServesOffice (Is (option_copied secrets)) (form_of json) tells files standard (stores store.now) is_new plan.now office.now store.now standard IsServed old new
IsDone Is tells files standard stores (Live plan sessions folder next unfinished json) status old new kept left = RunsOffices (form_of json) tells files standard plan.now sessions.now (option_copied folder) (option_copied next) (option_copied unfinished) (EndsWith status) old new kept left
IsDone Is tells files standard stores (Audit plan journals next unfinished json) status old new kept left = (plan_text : List ℕ) (texts : List (List ℕ))
    → StandFor files standard (plan.now ∷ map (λ w. w.now) journals.items) (plan_text ∷ texts) → Audits (form_of json) plan_text texts (option_copied next) (option_copied unfinished) status old new kept left

-- the exit statuses of a request that is carried out: of a run of offices, and of an audit, 1 too
abbrev pub IsStatusOf : Request → ℕ → Type 0
IsStatusOf (Run plan office sessions turns file secrets json) status = status ≤ 1
IsStatusOf (RunStored plan office sessions turns store sync is_new secrets json) status = status ≤ 1
IsStatusOf (Live plan sessions folder next unfinished json) status = status ≤ 1
IsStatusOf (Audit plan journals next unfinished json) status = status ≤ 1
IsStatusOf _ status = status ≡ 0

-- what a fault says of the texts that the words stand for
abbrev pub IsJudgedFor : (List ℕ → Option (List ℕ)) → Option (List ℕ) → Request → Fault → Type 0
IsJudgedFor files standard (Run plan office sessions turns file secrets json) f = IsJudgedRun files standard plan.now office.now sessions.now f
IsJudgedFor files standard (RunStored plan office sessions turns store sync is_new secrets json) f = IsJudgedStored files standard plan.now office.now sessions.now f
IsJudgedFor files standard (Serve plan office store sync is_new secrets linger each json) f = IsJudgedServed files standard plan.now office.now f
IsJudgedFor files standard (Live plan sessions folder next unfinished json) f = IsJudgedOr IsOfRun files standard (plan.now ∷ sessions.now ∷ []) (inputs.Plan ∷ inputs.Sessions ∷ []) f
IsJudgedFor files standard (Audit plan journals next unfinished json) f = IsJudgedAudit files standard plan.now (map (λ w. w.now) journals.items) f
IsJudgedFor files standard request f = IsJudged files standard (words_of request) (inputs_of request) f
