use Rattle.std.proofs.Common.{◌≡◌, None, ◌∙◌, ap, sym}
use Rattle.text_lines.specs.short.Names.{short_of}
use Rattle.office_map.proofs.ShortNames.{no_record, its_bytes}
use Rattle.office_map.proofs.plan.Plan.record_named.Goals as goal

-- the text is no short name
pub returns-in_default : goal.returns-in_default
returns-in_default c =
    let long : short_of c.args.name.now ≡ None = ap short_of (sym c.as_bytes.ensures.value) ∙ sym c.of.ensures ∙ c.in_default.is in
    rw (← c.self.view_is) (sym (no_record _ c.args.name.now c.self.invariant.2.0 long))

pub returns : goal.returns
returns c =
    let same : c.in-Some.short ≡ c.args.name.now = its_bytes c.as_bytes.result.now c.in-Some.short (sym c.of.ensures ∙ c.in-Some.is) ∙ c.as_bytes.ensures.value in
    (cc)
