-- What a command line asks for: the commands that there are, in the terms of the crate that reads them.
use Rattle.std.specs.Prelude.{◌≡◌, ◌<◌, ◌^◌, ◌||◌, ℕ, Bool, List, [], ◌∷◌, true, false, map, Option, Some, None, is_some, option_map, option_and_then, unwrap_or, if◌then◌else◌, codes}
use Rattle.std.specs.Str.{bytes_eq}
use Rattle.std.specs.Str.Parse.{IsNumeral, without_leading_plus, digits_value}
use Rattle.clap.specs.Kinds.{or_else}
use Rattle.clap.specs.Words.{App, Kinds, Row, Rule, Text, all_of, fault_of, first_of, new_app, new_rule, subcommand_of, with_rule, with_subcommand}
use Rattle.clap.specs.declared.builder.action.ArgAction.TheVariants.{SetTrue}
use Rattle.clap.specs.declared.builder.value_parser.ValueParser.TheVariants as parsers
use Rattle.clap.specs.declared.error.kind.ErrorKind.TheVariants as kinds
use Rattle.journal_stores.specs.declared.file.Sync.{Sync}
use Rattle.journal_stores.specs.declared.file.Sync.TheVariants as syncs
use Rattle.command_words.specs.declared.command_line.Request.{Request}
use Rattle.command_words.specs.declared.command_line.Request.TheVariants.{Serial, Sim, Random, Run, RunStored, Serve, Live, Audit}

-- a word that must be there
abbrev pub required : Text → Rule
required id = record (new_rule id) { required = true }

-- one word or more, which must be there
abbrev pub several : Text → Rule
several id = record (required id) { range = Some (record { start_inclusive = 1; end_inclusive = 18446744073709551615 }) }

-- --ID N, which must be there, with a number from the least to the most
abbrev pub numbered : Text → ℕ → ℕ → Rule
numbered id least most = record (required id) { long = Some id; value_names = 1; parser = Some (parsers.Unsigned least most) }

-- --ID N, which need not be there, with a number from the least to the most; where it isn't, the usual one is meant
abbrev pub optional : Text → ℕ → ℕ → Text → Rule
optional id least most usual = record (new_rule id) { long = Some id; value_names = 1; defaults = usual ∷ []; parser = Some (parsers.Unsigned least most) }

-- --ID WORD, which need not be there
abbrev pub path : Text → Rule
path id = record (new_rule id) { long = Some id; value_names = 1 }

-- --ID WORD, which must be there
abbrev pub named : Text → Rule
named id = record (required id) { long = Some id; value_names = 1 }

-- --ID, which need not be there
abbrev pub flag : Text → Rule
flag id = record (new_rule id) { long = Some id; action = Some SetTrue }

-- a command whose report may be objects: [--json]
abbrev pub with_form : App → App
with_form command = with_rule command (flag (codes "json"))

-- serial PLAN SESSIONS [--plan FILE] [--json]
abbrev pub serial_command : App
serial_command = with_form (with_rule (with_rule (with_rule (new_app (codes "serial")) (required (codes "PLAN"))) (required (codes "SESSIONS"))) (path (codes "plan")))

-- a command that writes what a day leaves: [--plan FILE] [--left FILE]
abbrev pub with_end : App → App
with_end command = with_rule (with_rule command (path (codes "plan"))) (path (codes "left"))

-- sim PLAN SESSIONS SCRIPT [--journals DIR] [--plan FILE] [--left FILE] [--json]
abbrev pub sim_words : App
sim_words = with_rule (with_rule (with_rule (new_app (codes "sim")) (required (codes "PLAN"))) (required (codes "SESSIONS"))) (required (codes "SCRIPT"))

abbrev pub sim_without_end : App
sim_without_end = with_rule sim_words (path (codes "journals"))

abbrev pub sim_command : App
sim_command = with_form (with_end sim_without_end)

-- random PLAN SESSIONS --seed N --loss N --steps N [--plan FILE] [--left FILE] [--json]
abbrev pub random_words : App
random_words = with_rule (with_rule (new_app (codes "random")) (required (codes "PLAN"))) (required (codes "SESSIONS"))

abbrev pub random_without_end : App
random_without_end = with_rule (with_rule (with_rule random_words (numbered (codes "seed") 0 18446744073709551615)) (numbered (codes "loss") 0 100)) (numbered (codes "steps") 1 1000000)

abbrev pub random_command : App
random_command = with_form (with_end random_without_end)

-- run PLAN OFFICE SESSIONS [--turns N] [--secrets FILE] [--journal FILE] [--store FILE] [--sync WHEN] [--new] [--json]
abbrev pub run_words : App
run_words = with_rule (with_rule (with_rule (new_app (codes "run")) (required (codes "PLAN"))) (required (codes "OFFICE"))) (required (codes "SESSIONS"))

abbrev pub run_without_store : App
run_without_store = with_rule (with_rule (with_rule run_words (optional (codes "turns") 1 100000 (codes "2000"))) (path (codes "secrets"))) (path (codes "journal"))

abbrev pub run_command : App
run_command = with_form (with_rule (with_rule (with_rule run_without_store (path (codes "store"))) (path (codes "sync"))) (flag (codes "new")))

-- serve PLAN OFFICE --store FILE [--sync WHEN] [--new] [--secrets FILE] [--linger N] [--status N] [--json]
abbrev pub serve_words : App
serve_words = with_rule (with_rule (new_app (codes "serve")) (required (codes "PLAN"))) (required (codes "OFFICE"))

abbrev pub serve_with_store : App
serve_with_store = with_rule (with_rule serve_words (named (codes "store"))) (path (codes "sync"))

abbrev pub serve_command : App
serve_command = with_form (with_rule (with_rule (with_rule (with_rule serve_with_store (flag (codes "new"))) (path (codes "secrets"))) (optional (codes "linger") 0 86400 (codes "0"))) (optional (codes "status") 0 86400 (codes "0")))

-- live PLAN SESSIONS [--journals DIR] [--plan FILE] [--left FILE] [--json]
abbrev pub live_without_end : App
live_without_end = with_rule (with_rule (with_rule (new_app (codes "live")) (required (codes "PLAN"))) (required (codes "SESSIONS"))) (path (codes "journals"))

abbrev pub live_command : App
live_command = with_form (with_end live_without_end)

-- audit PLAN JOURNAL.. [--plan FILE] [--left FILE] [--json]
abbrev pub audit_command : App
audit_command = with_form (with_end (with_rule (with_rule (new_app (codes "audit")) (required (codes "PLAN"))) (several (codes "JOURNAL"))))

abbrev pub some_command : App
some_command = let a = new_app (codes "drink") in record a { top = record a.top { subcommand_required = true; has_version = true } }

-- the program with `serial`, `sim` and `random`
abbrev pub world_commands : App
world_commands = with_subcommand (with_subcommand (with_subcommand some_command serial_command.top) sim_command.top) random_command.top

-- the program with all its commands, one of which must be there
abbrev pub program : App
program = with_subcommand (with_subcommand (with_subcommand (with_subcommand world_commands run_command.top) serve_command.top) live_command.top) audit_command.top

-- the first word for an argument of the command, where there is one
abbrev pub given : Text → Option (List Row) → Option Text
given id rows = option_and_then (first_of id) rows

-- that word; - where there is none
abbrev pub word_of : Text → Option (List Row) → Text
word_of id rows = unwrap_or (given id rows) (codes "-")

-- all its words, in their order
abbrev pub words_of : Text → Option (List Row) → List Text
words_of id rows = unwrap_or (option_and_then (all_of id) rows) []

-- whether a flag is there
abbrev pub has_flag : Text → Option (List Row) → Bool
has_flag id rows = bytes_eq (word_of id rows) (codes "true")

-- what the word after --sync means; without one it is data
abbrev pub sync_meant : Option Text → Option Sync
sync_meant None = Some syncs.Data
sync_meant (Some word) = if bytes_eq word (codes "data") then Some syncs.Data else (if bytes_eq word (codes "none") then Some syncs.Nothing else None)

-- What the rules of `run` let through and is refused all the same: another word after --sync; --sync or --new without a store; a store
-- and a file for the journal.
abbrev pub run_faults : Option (List Row) → Kinds
run_faults rows =
    if is_some (sync_meant (given (codes "sync") rows)) then
    (if is_some (given (codes "store") rows) then (if is_some (given (codes "journal") rows) then kinds.ArgumentConflict ∷ [] else [])
    else (if is_some (given (codes "sync") rows) || has_flag (codes "new") rows then kinds.MissingRequiredArgument ∷ [] else []))
    else kinds.InvalidValue ∷ []

-- the same of `serve`: another word after --sync
abbrev pub serve_faults : Option (List Row) → Kinds
serve_faults rows = if is_some (sync_meant (given (codes "sync") rows)) then [] else kinds.InvalidValue ∷ []

-- the same of a command of this name
abbrev pub store_faults : Text → Option (List Row) → Kinds
store_faults name rows = if bytes_eq name (codes "run") then run_faults rows else if bytes_eq name (codes "serve") then serve_faults rows else []

-- the arguments of the command that the words name
abbrev pub arguments_of : List Text → Option (List Row)
arguments_of words = option_map (λ p. p.1) (subcommand_of program words)

-- the name of that command
abbrev pub command_of : List Text → Text
command_of words = unwrap_or (option_map (λ p. p.0) (subcommand_of program words)) (codes "serial")

-- the number that a text says, where it says one below 2^64: digits, after a + or none
abbrev pub IsNumber : Text → ℕ → Type 0
IsNumber text n = IsNumeral 10 (without_leading_plus text) → digits_value 10 (without_leading_plus text) < 2 ^ 64 → n ≡ digits_value 10 (without_leading_plus text)

-- a command of this name, with these arguments, asks for this
abbrev pub Requests : Text → Option (List Row) → Request → Type 0
Requests name rows (Serial plan sessions next json) =
    (bytes_eq name (codes "sim") ≡ false) × (bytes_eq name (codes "random") ≡ false) × (bytes_eq name (codes "run") ≡ false)
    × (bytes_eq name (codes "serve") ≡ false) × (bytes_eq name (codes "live") ≡ false) × (bytes_eq name (codes "audit") ≡ false)
    × (plan.now ≡ word_of (codes "PLAN") rows) × (sessions.now ≡ word_of (codes "SESSIONS") rows)
    × (option_map (λ file. file.now) next ≡ given (codes "plan") rows) × (has_flag (codes "json") rows ≡ json)
Requests name rows (Sim plan sessions script journals next left json) =
    (bytes_eq name (codes "sim") ≡ true) × (plan.now ≡ word_of (codes "PLAN") rows) × (sessions.now ≡ word_of (codes "SESSIONS") rows)
    × (script.now ≡ word_of (codes "SCRIPT") rows) × (option_map (λ folder. folder.now) journals ≡ given (codes "journals") rows)
    × (option_map (λ file. file.now) next ≡ given (codes "plan") rows) × (option_map (λ file. file.now) left ≡ given (codes "left") rows)
    × (has_flag (codes "json") rows ≡ json)
Requests name rows (Random plan sessions seed loss steps next left json) =
    (bytes_eq name (codes "random") ≡ true) × (plan.now ≡ word_of (codes "PLAN") rows) × (sessions.now ≡ word_of (codes "SESSIONS") rows)
    × IsNumber (word_of (codes "seed") rows) seed × IsNumber (word_of (codes "loss") rows) loss × IsNumber (word_of (codes "steps") rows) steps
    × (option_map (λ file. file.now) next ≡ given (codes "plan") rows) × (option_map (λ file. file.now) left ≡ given (codes "left") rows)
    × (has_flag (codes "json") rows ≡ json)
Requests name rows (Run plan office sessions turns journal secrets json) =
    (bytes_eq name (codes "run") ≡ true) × (plan.now ≡ word_of (codes "PLAN") rows) × (office.now ≡ word_of (codes "OFFICE") rows)
    × (sessions.now ≡ word_of (codes "SESSIONS") rows) × IsNumber (word_of (codes "turns") rows) turns
    × (option_map (λ file. file.now) journal ≡ given (codes "journal") rows)
    × (given (codes "store") rows ≡ None) × (given (codes "sync") rows ≡ None) × (has_flag (codes "new") rows ≡ false)
    × (option_map (λ file. file.now) secrets ≡ given (codes "secrets") rows) × (has_flag (codes "json") rows ≡ json)
Requests name rows (RunStored plan office sessions turns store sync new secrets json) =
    (bytes_eq name (codes "run") ≡ true) × (plan.now ≡ word_of (codes "PLAN") rows) × (office.now ≡ word_of (codes "OFFICE") rows)
    × (sessions.now ≡ word_of (codes "SESSIONS") rows) × IsNumber (word_of (codes "turns") rows) turns
    × (given (codes "store") rows ≡ Some store.now) × (given (codes "journal") rows ≡ None)
    × (sync_meant (given (codes "sync") rows) ≡ Some sync) × (has_flag (codes "new") rows ≡ new)
    × (option_map (λ file. file.now) secrets ≡ given (codes "secrets") rows) × (has_flag (codes "json") rows ≡ json)
Requests name rows (Serve plan office store sync new secrets linger status json) =
    (bytes_eq name (codes "serve") ≡ true) × (plan.now ≡ word_of (codes "PLAN") rows) × (office.now ≡ word_of (codes "OFFICE") rows)
    × (store.now ≡ word_of (codes "store") rows) × (sync_meant (given (codes "sync") rows) ≡ Some sync) × (has_flag (codes "new") rows ≡ new)
    × (option_map (λ file. file.now) secrets ≡ given (codes "secrets") rows)
    × IsNumber (word_of (codes "linger") rows) linger × IsNumber (word_of (codes "status") rows) status
    × (has_flag (codes "json") rows ≡ json)
Requests name rows (Live plan sessions journals next left json) =
    (bytes_eq name (codes "live") ≡ true) × (plan.now ≡ word_of (codes "PLAN") rows) × (sessions.now ≡ word_of (codes "SESSIONS") rows)
    × (option_map (λ folder. folder.now) journals ≡ given (codes "journals") rows)
    × (option_map (λ file. file.now) next ≡ given (codes "plan") rows) × (option_map (λ file. file.now) left ≡ given (codes "left") rows)
    × (has_flag (codes "json") rows ≡ json)
Requests name rows (Audit plan journals next left json) =
    (bytes_eq name (codes "audit") ≡ true) × (plan.now ≡ word_of (codes "PLAN") rows)
    × (map (λ journal. journal.now) journals.items ≡ words_of (codes "JOURNAL") rows)
    × (option_map (λ file. file.now) next ≡ given (codes "plan") rows) × (option_map (λ file. file.now) left ≡ given (codes "left") rows)
    × (has_flag (codes "json") rows ≡ json)

-- the words of a command line ask for this, in the terms of `clap`'s contracts
abbrev pub Asks : List Text → Request → Type 0
Asks words request = Requests (command_of words) (arguments_of words) request

-- the kinds of error that the words may have: those of the first step that fails
abbrev pub faults_of : List Text → Kinds
faults_of words = or_else (fault_of program words) (store_faults (command_of words) (arguments_of words))
