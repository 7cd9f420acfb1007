use Rattle.std.proofs.Common.{◌≡◌, ◌-◌, ◌++◌, ◌∷◌, [], List, length, get_or, arith, ap, ◌∙◌}
use Rattle.std.proofs.lemmas.List.{length_push, get_or_push}
use Rattle.session_meaning.specs.declared.ending.Outcome.{Outcome}
use Rattle.world_schedule.specs.Readers.{mark_of}
use Rattle.world_schedule.proofs.happening.last_of.Goals as goal

pub returns : goal.returns
returns c = λ before last is.
    let told : List Outcome = c.outcomes-outcomes.result.now in
    let o : Outcome = c.index-outcomes-last.result in
    let all : told ≡ before ++ last ∷ [] = c.outcomes-outcomes.ensures ∙ is in
    c.mark_of.ensures ∙ ap mark_of (c.index-outcomes-last.is ∙ ap (λ l. get_or l (length told - 1) o) all ∙ get_or_push before last o (length told - 1) (omega (arith, ap length all, length_push before last)))
