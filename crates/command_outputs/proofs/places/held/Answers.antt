use Rattle.std.proofs.Common.{◌≡◌, ◌∙◌, ◌++◌, ap, length, sym, take}
use Rattle.journal_texts.specs.Written.{header_line}
use Rattle.command_outputs.proofs.Obstacles.{held, unheld}
use Rattle.command_outputs.proofs.places.held.Goals as goal

pub returns-in-Ok-Some-clause-free : goal.returns-in-Ok-Some-clause-free
returns-in-Ok-Some-clause-free g c =
    let begun = rw c.in-Ok-Some.field-0-is at c.in-Ok-Some.ensures.bytes in
    let line : c.as_bytes.result.now ≡ header_line c.args.plan.now c.args.office = c.as_bytes.ensures.value ∙ (c.in_ok-add_header.ensures.line ∙ ap (λ t. t ++ header_line c.args.plan.now c.args.office) c.new-header.ensures.bytes) in
    let size : c.len.result ≡ length c.as_bytes.result.now = c.len.ensures ∙ sym c.as_bytes.ensures.len in
    unheld (g.S.Sources.file_text c.args.sources.now) c.args.plan.now c.args.office c.args.name.now c.deref.result.now c.as_bytes.result.now c.journal_in.result line
    (λ text known. c.deref.ensures.value ∙ (begun text known ∙ ap (λ n. take n text) size)) c.journal_in.ensures

pub returns-in-Ok-Some-clause-found : goal.returns-in-Ok-Some-clause-found
returns-in-Ok-Some-clause-found g c =
    let begun = rw c.in-Ok-Some.field-0-is at c.in-Ok-Some.ensures.bytes in
    let line : c.as_bytes.result.now ≡ header_line c.args.plan.now c.args.office = c.as_bytes.ensures.value ∙ (c.in_ok-add_header.ensures.line ∙ ap (λ t. t ++ header_line c.args.plan.now c.args.office) c.new-header.ensures.bytes) in
    let size : c.len.result ≡ length c.as_bytes.result.now = c.len.ensures ∙ sym c.as_bytes.ensures.len in
    held (g.S.Sources.file_text c.args.sources.now) c.args.plan.now c.args.office c.args.name.now c.deref.result.now c.as_bytes.result.now c.journal_in.result line
    (λ text known. c.deref.ensures.value ∙ (begun text known ∙ ap (λ n. take n text) size)) c.journal_in.ensures
