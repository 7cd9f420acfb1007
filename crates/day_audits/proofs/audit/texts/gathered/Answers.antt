use Rattle.std.proofs.Common.{◌≡◌, ◌∷◌, [], ◌++◌, length, get_or, map, subst, rules, inl, inr}
use Rattle.std.specs.String.{string_bytes}
use Rattle.day_audits.specs.audit.Gathering.{IsRefusedAt}
use Rattle.day_audits.specs.audit.Following.{Gathers}
use Rattle.day_audits.proofs.audit_lemmas.RecordedTexts.{all_gathered, one_gathered, refused_among}
use Rattle.day_audits.proofs.audit.texts.gathered.Goals as goal

pub loop-text-preserved : goal.loop-text-preserved
loop-text-preserved c =
    let x = c.text-item.result in
    let i = c.loop-text.text-index in
    let here : get_or c.args.texts.now i x ≡ x = search rules in
    let bytes : c.as_bytes.result.now ≡ string_bytes x = search rules in
    one_gathered string_bytes c.args.plan.now c.args.texts.now i x c.loop-text.journals c.read.new.self c.loop-text-test.true here c.loop-text.invariant
    (λ plan texts h. subst (λ t. Gathers plan (texts ++ t ∷ []) c.read.new.self) bytes (c.in-Ok.ensures.gathered plan texts h))

pub returns-in-Err-clause-none : goal.returns-in-Err-clause-none
returns-in-Err-clause-none c =
    let x = c.text-item.result in
    let i = c.loop-text.text-index in
    let here : get_or c.args.texts.now i x ≡ x = search rules in
    let bytes : c.as_bytes.result.now ≡ string_bytes x = search rules in
    inl (refused_among string_bytes c.args.plan.now c.args.texts.now i x c.loop-text.journals c.in-Err.field-0 c.loop-text-test.true here c.loop-text.invariant
    (λ plan before after h. subst (λ t. IsRefusedAt plan (before ++ t ∷ after) (length before) c.in-Err.field-0) bytes (c.in-Err.ensures.refused plan before after h)))

pub returns-in-Some-clause-none : goal.returns-in-Some-clause-none
returns-in-Some-clause-none c =
    let p = c.args.plan.now in
    let texts = map string_bytes c.args.texts.now in
    let all = all_gathered string_bytes p c.args.texts.now c.loop-text.text-index c.loop-text.journals (search rules) c.loop-text.invariant in
    inr (_, c.in-Some.ensures.lacks p texts all)
