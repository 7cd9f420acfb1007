use Rattle.std.proofs.Common.{◌≡◌, sym, ap, ◌∙◌, ◌/◌, ◌%◌, rules}
use Rattle.office_journal.specs.pages.Told.{Told}
use Rattle.office_journal.specs.pages.Framed.{frame_with}
use Rattle.office_journal.specs.pages.refinement.PackedFrames.{joined, message_in, version_in}
use Rattle.office_journal.proofs.pages_lemmas.PackedFrames.{ack_again, data_again}
use Rattle.office_journal.proofs.pages.packed.Packed.frame.Goals as goal

pub returns-then-number-eq0 : goal.returns-then-number-eq0
returns-then-number-eq0 c =
    let s = c.self.inside in
    c.ack.ensures
    ∙ ack_again c.version_in-version.result s.run s.from s.to c.joined-number.result c.joined-count.result (joined s.number_low s.number_high) (joined s.count_low s.count_high) (message_in ((s.head / 16) % 4) s.which s.value) c.joined-number.ensures.value c.joined-count.ensures.value c.if-number-eq0.true
    ∙ ap (λ v. frame_with v s.run s.from s.to (joined s.number_low s.number_high) (joined s.count_low s.count_high) (message_in ((s.head / 16) % 4) s.which s.value)) c.version_in-version.ensures
    ∙ ap (λ (t : Told). t.frame) c.self.view_is

pub returns : goal.returns
returns c =
    let s = c.self.inside in
    let carried : c.message-msg.result ≡ message_in ((s.head / 16) % 4) s.which s.value = search rules in
    c.data.ensures
    ∙ data_again c.version_in-version.result s.run s.from s.to c.joined-number.result c.joined-count.result (joined s.number_low s.number_high) (joined s.count_low s.count_high) c.message-msg.result (message_in ((s.head / 16) % 4) s.which s.value) c.joined-number.ensures.value c.joined-count.ensures.value carried
    c.if-number-eq0.false
    ∙ ap (λ v. frame_with v s.run s.from s.to (joined s.number_low s.number_high) (joined s.count_low s.count_high) (message_in ((s.head / 16) % 4) s.which s.value)) c.version_in-version.ensures
    ∙ ap (λ (t : Told). t.frame) c.self.view_is

pub data-requires-clause-carried : goal.data-requires-clause-carried
data-requires-clause-carried c = c.message-msg.ensures.carried c.version_in-version.result
