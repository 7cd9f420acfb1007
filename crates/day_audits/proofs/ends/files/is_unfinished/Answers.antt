use Rattle.std.proofs.Common.{◌≡◌, ◌<◌, ◌+◌, ◌==◌, length, is_none, sym, ap, subst, ◌∙◌}
use Rattle.std.specs.Prelude.{count_by}
use Rattle.session_meaning.specs.ProgramValue.{ProgramValue}
use Rattle.site_core.specs.Journals.{Site, office_of}
use Rattle.site_core.specs.Readers.{outcome_with}
use Rattle.frame_world.specs.Worlds.{site_at}
use Rattle.day_audits.proofs.ends_lemmas.FileSessions.{none_told, office_within}
use Rattle.day_audits.proofs.ends.files.is_unfinished.Goals as goal

pub office-requires : goal.office-requires
office-requires c = subst (λ a. a < length c.args.world.now.plan.offices) (sym c.office-office.ensures) (office_within c.args.world.now.plan c.args.program.now c.requires.fit)

pub returns : goal.returns
returns c =
    let w = c.args.world.now in
    let before = c.args.before.now in
    none_told c.outcome.result c.is_none.result c.is_none.ensures
    ∙ ap is_none
    (c.outcome.ensures
    ∙ ap (λ (s : Site). outcome_with (office_of s).agenda.outcomes (c.count_of.result + 1)) c.office.ensures.site
    ∙ ap (λ n. outcome_with (office_of (site_at w c.office-office.result)).agenda.outcomes (n + 1)) c.count_of.ensures.count
    ∙ ap (λ a. outcome_with (office_of (site_at w a)).agenda.outcomes (count_by (λ (q : ProgramValue). q.office == a) before + 1)) c.office-office.ensures)
