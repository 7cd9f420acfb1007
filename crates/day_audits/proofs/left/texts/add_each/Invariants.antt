use Rattle.std.proofs.Common.{◌≡◌, ◌++◌, take}
use Rattle.std.specs.Prelude.{All}
use Rattle.std.specs.List.{flat_map}
use Rattle.std.specs.String.{string_bytes}
use Rattle.session_programs.specs.Program.{text_under}
use Rattle.day_audits.specs.left.LeftTexts.{ReadsBack}
use Rattle.day_audits.proofs.left.texts.add_each.Given as goal

abbrev pub invariant-loop-session : goal.invariant-loop-session
invariant-loop-session l = (string_bytes l.text ≡ string_bytes l.initial.text ++ flat_map (λ s. text_under l.plan s.program) (take l.session-index l.sessions))
    × All (λ s. ReadsBack l.plan s.program) (take l.session-index l.sessions)
