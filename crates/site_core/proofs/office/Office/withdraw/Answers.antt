use Rattle.std.proofs.Common.{Err, cond, refl, ap, subst, ◌∙◌}
use mathlib.Core.Bool.{false≢true}
use Rattle.office_journal.specs.declared.event.Event.TheVariants as event
use Rattle.office_journal.specs.declared.reply.Refusal.TheVariants as refusal
use Rattle.site_core.specs.Offices.{may_withdraw, withdrawn}
use Rattle.site_core.specs.Journals.{Steps}
use Rattle.site_core.specs.refinement.OfficeOfCode.{site_of}
use Rattle.site_core.proofs.OfficeValues.{keeps_withdrawal}
use Rattle.site_core.proofs.OfficeSteps.{no_room_for, done_event, told_of, not_err, err_is, noted_more}
use Rattle.site_core.proofs.office.Office.withdraw.Goals as goal

pub returns-in-Err : goal.returns-in-Err
returns-in-Err c =
    let s = c.self.inside in
    let left = site_of s.pairs c.make_room-room.new.self.entries in
    let told = told_of s.pairs s.agenda s.journal.entries (λ o. cond (may_withdraw o c.args.ticket) c.in-Err.refusal refusal.NotNow) c.unless_guarded.result c.self.invariant
    (λ a m. c.unless_guarded.ensures ∙ ap (λ b. cond b c.in-Err.refusal refusal.NotNow) (c.may_withdraw-withdrawable.ensures a m)) in
    subst (λ x. Steps x c.args.tag (event.Withdraw c.args.ticket) (Err c.unless_guarded.result) left) c.self.view_is
    (no_room_for (site_of s.pairs s.journal.entries) left c.args.tag (event.Withdraw c.args.ticket) (λ o. may_withdraw o c.args.ticket) (λ o. withdrawn o c.args.ticket) (λ o. refl) c.in-Err.refusal c.unless_guarded.result (ap (site_of s.pairs) c.in-Err.ensures.unchanged) told
    (λ e. c.in-Err.ensures.full.0 (ap Err e)) (λ f. err_is _ _ (c.in-Err.ensures.full.1 f)) c.in-Err.ensures.known)

pub invariant_of-self-2 : goal.invariant_of-self-2
invariant_of-self-2 c =
    let s = c.self.inside in
    done_event s.pairs c.withdraw.new.pairs s.agenda c.withdraw.new.agenda s.journal.entries c.push.new.self.entries c.args.tag (event.Withdraw c.args.ticket) (λ o. may_withdraw o c.args.ticket) (λ o. withdrawn o c.args.ticket) (λ o. refl) (keeps_withdrawal s.pairs.plan s.pairs.me c.args.ticket) c.self.invariant c.in_ok-withdraw.ensures.office
    (λ a m e. false≢true ((c.in_ok-withdraw.ensures.not_now a m).1 e)) c.in_ok-withdraw.ensures.done c.requires (λ e. not_err _ _ (c.in_default.ensures.full.1 e))
    (noted_more _ _ _ _ _ c.push.ensures c.make_room-room.ensures.unchanged c.of_withdrawal-entry.ensures.entry)
