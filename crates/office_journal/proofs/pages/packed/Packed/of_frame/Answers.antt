use Rattle.std.proofs.Common.{◌≡◌, ap, ◌∙◌, ◌+◌, ◌/◌, rules}
use mir.Val.{to_z, of_z}
use mir.Syntax.{w64}
use Rattle.office_journal.specs.pages.refinement.PackedFrames.{joined, code_of, code_of_version, which_of, number_of}
use Rattle.office_journal.proofs.pages_lemmas.PackedFrames.{packed_frame, packed_text, packed_place, joined_back}
use Rattle.office_journal.proofs.pages.packed.Packed.of_frame.Goals as goal

pub returns-clause-frame : goal.returns-clause-frame
returns-clause-frame c = λ texts at.
    let f = c.args.frame.now in
    let same : to_z w64 (of_z w64 c.value_of.result) ≡ c.value_of.result = search rules in
    let carried = c.packed_message-carried.ensures.message in
    packed_frame texts c.args.place f c.run.result c.from.result c.to.result (joined c.low.result c.high.result) (joined c.low-2.result c.high-2.result) (c.head.result / 16) c.which_of.result (to_z w64 (of_z w64 c.value_of.result))
    c.number_of-number.ensures.numbered c.packed_message-carried.ensures.carried at c.run.ensures c.from.ensures c.to.ensures
    (joined_back c.number_of-number.result c.low.result c.high.result c.low.ensures c.high.ensures ∙ c.number_of-number.ensures.value)
    (joined_back c.count-taken.result c.low-2.result c.high-2.result c.low-2.ensures c.high-2.ensures ∙ c.count-taken.ensures.value)
    (c.head.ensures.code ∙ ap (λ i. i + c.code_of.result) c.code_of_version.ensures.code ∙ ap (λ v. code_of_version v + c.code_of.result) c.version.ensures ∙ ap (λ i. code_of_version f.version + i) (c.code_of.ensures.code ∙ ap code_of carried)) (c.which_of.ensures ∙ ap which_of carried) (same ∙ c.value_of.ensures ∙ ap (number_of c.args.place) carried)

pub returns-clause-has_text : goal.returns-clause-has_text
returns-clause-has_text c =
    let f = c.args.frame.now in
    let carried = c.packed_message-carried.ensures.message in
    packed_text f (c.head.result / 16)
    (c.head.ensures.code ∙ ap (λ i. i + c.code_of.result) c.code_of_version.ensures.code ∙ ap (λ v. code_of_version v + c.code_of.result) c.version.ensures ∙ ap (λ i. code_of_version f.version + i) (c.code_of.ensures.code ∙ ap code_of carried))

pub returns-clause-text : goal.returns-clause-text
returns-clause-text c = λ has.
    let f = c.args.frame.now in
    let same : to_z w64 (of_z w64 c.value_of.result) ≡ c.value_of.result = search rules in
    let carried = c.packed_message-carried.ensures.message in
    packed_place f (c.head.result / 16) c.args.place (to_z w64 (of_z w64 c.value_of.result))
    (c.head.ensures.code ∙ ap (λ i. i + c.code_of.result) c.code_of_version.ensures.code ∙ ap (λ v. code_of_version v + c.code_of.result) c.version.ensures ∙ ap (λ i. code_of_version f.version + i) (c.code_of.ensures.code ∙ ap code_of carried)) (same ∙ c.value_of.ensures ∙ ap (number_of c.args.place) carried) has
