use Rattle.std.proofs.Common.{map}
use Rattle.std.specs.String.{string_bytes}
use Rattle.session_reports.specs.declared.form.forms.Form.TheVariants.{Plain}
use Rattle.day_audits.specs.audit.Following.{Gathers}
use Rattle.day_audits.proofs.audit_lemmas.RecordedTexts.{if_some, recorded_so, unrecorded_so}
use Rattle.day_audits.proofs.audit.texts.recorded.Goals as goal

pub returns-in_ok-found-in-Some : goal.returns-in_ok-found-in-Some
returns-in_ok-found-in-Some c =
    let p = c.args.plan.now in
    let texts = map string_bytes c.args.texts.now in
    let journals = c.in-Some.journals in
    let it = c.in_ok-found-in-Some in
    let gathers = if_some _ (Gathers p texts) journals c.in-Some.is c.in_ok-journals.ensures.gathers in
    record {
      found = recorded_so Plain p texts journals (string_bytes it.found.text) it.found.world gathers it.ensures.woven;
      none = unrecorded_so Plain p texts journals (string_bytes it.found.text) it.found.world gathers it.ensures.unwoven;
    }
