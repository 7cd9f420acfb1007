use Rattle.std.proofs.Common.{◌≡◌, ◌<◌, ℕ, List, ◌++◌, length, get_or, Ok, Err, arith, ap, sym, ◌∙◌}
use Rattle.std.proofs.lemmas.List.{get_or_read}
use Rattle.site_core.specs.Journals.{Site}
use Rattle.frame_world.specs.Sent.{sent_by}
use Rattle.office_journal.specs.declared.event.Event.TheVariants as event
use Rattle.frame_world.specs.declared.refusal.WorldRefusal.TheVariants as refusal
use Rattle.world_schedule.specs.refinement.Handing.{passed_on}
use Rattle.world_schedule.proofs.Asking.{asked, asked_and_refused}
use Rattle.world_schedule.proofs.happening.send.Goals as goal

pub returns-in-Ok-send-clause-kept : goal.returns-in-Ok-send-clause-kept
returns-in-Ok-send-clause-kept c d =
    let offices : List Site = c.args.offices.now.items in
    let at : ℕ = c.args.from in
    let s : Site = c.index-3.result.now in
    let lt : at < length offices = omega (arith, c.if-index-len.false, c.index.ensures, c.len.ensures) in
    let here : s ≡ get_or offices at s = c.index-3.ensures ∙ ap (λ k. get_or offices k s) c.index-2.ensures in
    c.keep.ensures.kept ∙ ap (λ l. l ++ sent_by at c.entries_of-entry.result c.in-Ok-send.reply) c.in-Ok.ensures.items
    ∙ ap (λ n. c.args.sent.now.items ++ sent_by at n c.in-Ok-send.reply) (c.entries_of-entry.ensures ∙ ap (λ (x : Site). length x.entries) (get_or_read offices at s lt here d))

pub returns-in-Ok-send-clause-office : goal.returns-in-Ok-send-clause-office
returns-in-Ok-send-clause-office c =
    asked c.args.offices.now.items c.args.from c.index-4.result (event.Send c.args.to c.args.i) c.index_mut.result.now c.send.new.self c.send.result (Ok c.in-Ok-send.reply) c.index-4.ensures
    (omega (arith, c.if-index-len.false, c.index.ensures, c.index-4.ensures, c.len.ensures)) c.index_mut.ensures.value c.send.ensures (ap passed_on (sym c.in-Ok-send.is))

pub returns-in-Err-clause-office : goal.returns-in-Err-clause-office
returns-in-Err-clause-office c =
    asked c.args.offices.now.items c.args.from c.index-4.result (event.Send c.args.to c.args.i) c.index_mut.result.now c.send.new.self c.send.result (Err (refusal.Office c.in-Err.refusal)) c.index-4.ensures
    (omega (arith, c.if-index-len.false, c.index.ensures, c.index-4.ensures, c.len.ensures)) c.index_mut.ensures.value c.send.ensures (ap passed_on (sym c.in-Err.is))

pub returns-in_default-clause-office : goal.returns-in_default-clause-office
returns-in_default-clause-office c =
    asked_and_refused c.args.offices.now.items c.args.from c.index-in_default.result (event.Send c.args.to c.args.i) c.index-in_default-2.result.now c.not_sent-refusal.result c.index-in_default.ensures
    (omega (arith, c.if-index-len.false, c.index.ensures, c.index-in_default.ensures, c.len.ensures)) c.index-in_default-2.ensures c.not_sent-refusal.ensures
