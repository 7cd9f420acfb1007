use Rattle.std.proofs.Common.{◌≡◌, List, ◌++◌, inl, inr, sym, ap, subst, ◌∙◌, arith}
use Rattle.std.specs.Prelude.{slice_get, option_to_list}
use Rattle.std.specs.Option.{option_and_then}
use Rattle.frame_codec.specs.Frame.{Fields}
use Rattle.office_journal.specs.Replies.{frame_told}
use Rattle.frame_world.specs.Sent.{entry_tells}
use Rattle.frame_world.specs.Worlds.{frames_of}
use Rattle.journal_weave.specs.contracts.key.FrameKeyOrd.TheImpl.{cmp-value}
use Rattle.journal_weave.specs.refinement.Merging.{Knows}
use Rattle.journal_weave.proofs.SentFrames.{listed_told}
use Rattle.journal_weave.proofs.merge.Merge.next_of.Goals as goal

pub returns-then-at-given-clause-stuck : goal.returns-then-at-given-clause-stuck
returns-then-at-given-clause-stuck c = inl (inl (omega (arith, c.if-at-given.true, c.done-at.ensures.count, c.given-given.ensures.count)))

pub returns-in_default-clause-stuck : goal.returns-in_default-clause-stuck
returns-in_default-clause-stuck c = inl (inr (ap (slice_get c.args.replay.now.site.entries) (sym c.done-at.ensures.count) ∙ c.in_default.ensures))

-- its frame is lacking
pub returns-in_default-2-clause-stuck : goal.returns-in_default-2-clause-stuck
returns-in_default-2-clause-stuck c =
    let there = c.in-Some.ensures in
    let lacks = rw c.in_default-2.is at c.in_ok-event.ensures in
    inr (there.0, ap (slice_get c.args.replay.now.site.entries) (sym c.done-at.ensures.count) ∙ there.1, lacks there.0 there.1 there.2)

pub push-requires-clause-next : goal.push-requires-clause-next
push-requires-clause-next c = omega (arith, c.if-at-given.false, c.done-at.ensures.count, c.given-given.ensures.few)

pub returns-clause-goes : goal.returns-clause-goes
returns-clause-goes c =
    let there = c.in-Some.ensures in
    let x = there.0 in
    let rs = c.args.replays.now in
    let found = rw c.in-Some-2.is at c.in_ok-event.ensures in
    let tells : c.frame_told-frame.result ≡ frame_told x.reply = c.frame_told-frame.ensures ∙ ap (option_and_then entry_tells) there.1 in
    let listed : option_to_list c.frame_told-frame.result ≡ frames_of x.reply = ap option_to_list tells ∙ listed_told x.reply in
    let Known : List Fields → Type 0 = Knows cmp-value.it rs c.push.new.self.sent in (
      x,
      omega (arith, c.if-at-given.false, c.done-at.ensures.count, c.given-given.ensures.count),
      ap (slice_get c.args.replay.now.site.entries) (sym c.done-at.ensures.count) ∙ there.1,
      record {
        at = c.in_ok-push.ensures.at;
        sent = λ told frames knows. subst (λ (l : List Fields). Known (frames ++ l)) listed (c.in_ok-push.ensures.sent rs (told ∙ sym tells) frames knows);
        is = found x there.1 there.2;
      },
    )
