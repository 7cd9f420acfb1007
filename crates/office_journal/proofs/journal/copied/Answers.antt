use Rattle.std.proofs.Common.{◌≡◌, ℕ, ◌-◌, take, drop, ap, ◌∙◌, refl, arith}
use Rattle.office_journal.specs.Shown.{entry_shown}
use Rattle.office_journal.proofs.ShownEntries.{entry_in, is_there}
use Rattle.office_journal.proofs.KeptEntries.{none_taken, one_copied}
use Rattle.office_journal.proofs.journal.copied.Goals as goal

pub loop-place-init : goal.loop-place-init
loop-place-init c = none_taken c.args.journal.now.entries c.in_ok-copies.copies.items c.args.from c.args.from c.in_ok-copies.ensures.items refl

pub loop-place-preserved : goal.loop-place-preserved
loop-place-preserved c =
    let es = c.args.journal.now.entries in
    let at = entry_in es c.loop-place.place c.get.result c.in-Some.entry c.get.ensures c.in-Some.is in
    one_copied es c.loop-place.copies.items c.push.new.self.items c.args.from c.loop-place.place (entry_shown c.in-Some.entry) c.in_ok-copy.copy c.loop-place.auto.place at c.loop-place.invariant c.in_ok-copy.ensures c.in_ok-push.ensures.items

pub unreachable-requires : goal.unreachable-requires
unreachable-requires c = is_there c.args.journal.now.entries c.loop-place.place c.get.result c.get.ensures (omega (arith, c.loop-place-test.true, c.requires.within)) c.in_default.is

pub returns-clause-same : goal.returns-clause-same
returns-clause-same c =
    let end : ◌≡◌ {A = ℕ} c.loop-place.place c.args.end = omega (arith, c.loop-place-test.false, c.loop-place.auto.place-end c.requires.ordered) in
    c.loop-place.invariant ∙ ap (λ k. take (k - c.args.from) (drop c.args.from c.args.journal.now.entries)) end
