-- Commands to which arguments are added.
use Rattle.std.proofs.Common.{◌≡◌, ◌∙◌, ◌||◌, Bool, false, Result, Ok, Err, ap₂}
use Rattle.std.specs.Prelude.{IfOk}
use Rattle.std.specs.declared.alloc.AllocError.{AllocError}
use Rattle.clap.specs.Words.{AddsArg, App, Rule, app_of, rule_of, with_rule, with_subcommand}
use Rattle.clap.specs.declared.builder.arg.Arg.{Arg}
use Rattle.clap.specs.declared.builder.command.Command.{Command}
use Rattle.clap.specs.declared.builder.command.Command.TheViews.{out-Command as fields_of}

-- these arguments, and none that its own commands have too
abbrev pub IsCommand : App → Command → Type 0
IsCommand a c = (app_of c ≡ a) × ((fields_of c).has_globals ≡ false)

-- none comes in with an argument that isn't global
none_more : (old added new : Bool) → new ≡ (old || added) → old ≡ false → added ≡ false → new ≡ false
none_more old added new e f g = e ∙ ap₂ (λ x y. x || y) f g

pub with_one : (old new : Command) (arg : Arg) (a : App) (r : Rule) → IsCommand a old → AddsArg old arg new → rule_of arg ≡ r → arg.global ≡ false → IsCommand (with_rule a r) new
with_one old new arg a r is adds rule local =
    (adds.shape local ∙ ap₂ with_rule is.0 rule, none_more (fields_of old).has_globals arg.global (fields_of new).has_globals adds.globals is.1 local)

pub with_last : (old : Command) (arg : Arg) (a : App) (r : Rule) (res : Result Command AllocError) → IsCommand a old → IfOk res (λ c. AddsArg old arg c) → rule_of arg ≡ r → arg.global ≡ false → IfOk res (IsCommand (with_rule a r))
with_last old arg a r (Ok c) is adds rule local = with_one old c arg a r is adds rule local
with_last old arg a r (Err e) is adds rule local = tt

pub shape_of : (a : App) (res : Result Command AllocError) → IfOk res (IsCommand a) → IfOk res (λ c. app_of c ≡ a)
shape_of a (Ok c) is = is.0
shape_of a (Err e) is = tt

pub local_of : (a : App) (res : Result Command AllocError) → IfOk res (IsCommand a) → IfOk res (λ c. (fields_of c).has_globals ≡ false)
local_of a (Ok c) is = is.1
local_of a (Err e) is = tt

pub both_of : (a : App) (res : Result Command AllocError) → IfOk res (λ c. app_of c ≡ a) → IfOk res (λ c. (fields_of c).has_globals ≡ false) → IfOk res (IsCommand a)
both_of a (Ok c) shape local = (shape, local)
both_of a (Err e) shape local = tt

-- a program with the last command, and what that command is
pub with_command_last : (old a whole : App) (program command : Result Command AllocError) → IfOk program (λ p. (b : App) → IfOk command (IsCommand b) → app_of p ≡ with_subcommand old b.top) → IfOk command (IsCommand a) → with_subcommand old a.top ≡ whole →
    IfOk program (λ p. app_of p ≡ whole)
with_command_last old a whole (Ok p) command has is e = has a is ∙ e
with_command_last old a whole (Err f) command has is e = tt
