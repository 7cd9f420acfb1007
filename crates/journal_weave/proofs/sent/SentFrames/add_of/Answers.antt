use Rattle.std.proofs.Common.{◌≡◌, List, ◌++◌, Option, sym, subst}
use Rattle.std.specs.Prelude.{OnOk, option_to_list}
use Rattle.frame_codec.specs.Frame.{Fields}
use Rattle.journal_weave.specs.contracts.key.FrameKeyOrd.TheImpl.{cmp-value}
use Rattle.journal_weave.specs.ReplayValue.{ReplayValue}
use Rattle.journal_weave.specs.refinement.Merging.{Knows, told_by}
use Rattle.journal_weave.proofs.sent.SentFrames.add_of.Goals as goal

pub returns-in-Some : goal.returns-in-Some
returns-in-Some c =
    subst (λ (q : Option Fields). OnOk c.add.result ((rs : List ReplayValue) → told_by rs (record { office = c.args.office; entry = c.args.entry }) ≡ q → (frames : List Fields) → Knows cmp-value.it rs c.args.self.now frames → Knows cmp-value.it rs c.add.new.self (frames ++ option_to_list q))) (sym c.in-Some.is) c.add.ensures
