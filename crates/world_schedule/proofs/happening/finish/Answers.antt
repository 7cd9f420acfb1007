use Rattle.std.proofs.Common.{◌≡◌, ◌<◌, ℕ, List, ◌++◌, ◌∷◌, [], length, map, get_or, Ok, Err, arith, ap, sym, ◌∙◌}
use Rattle.std.proofs.lemmas.List.{get_or_read, length_push}
use Rattle.site_core.specs.Journals.{Site, office_of}
use Rattle.office_journal.specs.declared.event.Event.TheVariants as event
use Rattle.office_journal.specs.declared.rule.Rule.TheVariants as rule
use Rattle.frame_world.specs.declared.refusal.WorldRefusal.TheVariants as refusal
use Rattle.world_schedule.specs.refinement.Handing.{passed_on}
use Rattle.world_schedule.specs.Readers.{listed_as}
use Rattle.world_schedule.specs.refinement.WorldOfCode.{finishes}
use Rattle.world_schedule.proofs.Asking.{asked, asked_and_refused}
use Rattle.world_schedule.proofs.EventSteps.{finishes_there}
use Rattle.world_schedule.proofs.happening.finish.Goals as goal

pub returns-in-Ok-act-clause-office : goal.returns-in-Ok-act-clause-office
returns-in-Ok-act-clause-office c =
    asked c.args.offices.now.items c.args.at c.index-2.result (event.Do rule.Finish) c.index_mut.result.now c.act.new.self c.act.result (Ok c.in-Ok-act.reply) c.index-2.ensures
    (omega (arith, c.if-index-len.false, c.index.ensures, c.index-2.ensures, c.len.ensures)) c.index_mut.ensures.value c.act.ensures (ap passed_on (sym c.in-Ok-act.is))

pub returns-in-Err-clause-office : goal.returns-in-Err-clause-office
returns-in-Err-clause-office c =
    asked c.args.offices.now.items c.args.at c.index-2.result (event.Do rule.Finish) c.index_mut.result.now c.act.new.self c.act.result (Err (refusal.Office c.in-Err.refusal)) c.index-2.ensures
    (omega (arith, c.if-index-len.false, c.index.ensures, c.index-2.ensures, c.len.ensures)) c.index_mut.ensures.value c.act.ensures (ap passed_on (sym c.in-Err.is))

pub last_of-last-requires : goal.last_of-last-requires
last_of-last-requires c =
    let s : Site = c.index_mut.result.now in
    let one = finishes_there c.args.offices.now.items c.index-2.result c.index-in-Ok-act.result s c.act.new.self c.index-in-Ok-act-2.result.now c.act.result c.in-Ok-act.reply
    (omega (arith, c.if-index-len.false, c.index.ensures, c.len.ensures, c.index-2.ensures)) (c.index-in-Ok-act.ensures ∙ sym c.index-2.ensures) c.index-in-Ok-act-2.ensures c.act.ensures c.in-Ok-act.is in
    omega (arith, ap length one.last, length_push (office_of s).agenda.outcomes one.session.outcome)

pub returns-in-Ok-act-clause-listed : goal.returns-in-Ok-act-clause-listed
returns-in-Ok-act-clause-listed c =
    let offices : List Site = c.args.offices.now.items in
    let s : Site = c.index_mut.result.now in
    let at : ℕ = c.args.at in
    let lt : at < length offices = omega (arith, c.if-index-len.false, c.index.ensures, c.len.ensures) in
    let one = finishes_there offices c.index-2.result c.index-in-Ok-act.result s c.act.new.self c.index-in-Ok-act-2.result.now c.act.result c.in-Ok-act.reply
    (omega (arith, lt, c.index-2.ensures)) (c.index-in-Ok-act.ensures ∙ sym c.index-2.ensures) c.index-in-Ok-act-2.ensures c.act.ensures c.in-Ok-act.is in
    let here : s ≡ get_or offices at s = c.index_mut.ensures.value ∙ ap (λ i. get_or offices i s) c.index-2.ensures in
    let told : c.last_of-last.result ≡ listed_as one.session = c.last_of-last.ensures (office_of s).agenda.outcomes one.session.outcome one.last in
    λ d. c.push_reserved.ensures.items ∙ ap (λ l. l ++ c.last_of-last.result ∷ []) c.in-Ok.ensures.items
    ∙ ap (λ m. c.args.finished.now.items ++ m ∷ []) told ∙ ap (λ l. c.args.finished.now.items ++ map listed_as l) (sym one.one)
    ∙ ap (λ x. c.args.finished.now.items ++ map listed_as (finishes x (event.Do rule.Finish))) (get_or_read offices at s lt here d)

pub returns-in_default-clause-office : goal.returns-in_default-clause-office
returns-in_default-clause-office c =
    asked_and_refused c.args.offices.now.items c.args.at c.index-in_default.result (event.Do rule.Finish) c.index-in_default-2.result.now c.not_finished-refusal.result c.index-in_default.ensures
    (omega (arith, c.if-index-len.false, c.index.ensures, c.index-in_default.ensures, c.len.ensures)) c.index-in_default-2.ensures c.not_finished-refusal.ensures
