use Rattle.std.proofs.Common.{◌≡◌, ℕ, true, false, take, refl, sym, subst, ◌∙◌, arith}
use Rattle.office_journal.specs.Shown.{entry_shown}
use Rattle.journal_weave.specs.Given.{HasMade}
use Rattle.journal_weave.proofs.Naming.{none_made, still_none, made_there, made_by_all}
use Rattle.journal_weave.proofs.standing.has_made.Goals as goal

pub loop-i-init : goal.loop-i-init
loop-i-init c = none_made c.args.replay.now.site.entries c.args.to c.args.number

pub loop-i-preserved : goal.loop-i-preserved
loop-i-preserved c =
    still_none c.args.replay.now.site.entries c.loop-i.i (entry_shown c.in-Some.entry) (sym c.in-Some.ensures) c.args.to c.args.number
    (λ h. let no : false ≡ true = sym c.if-is_frame.false ∙ c.is_frame.ensures.1 h in absurd (cc)) c.loop-i.invariant

pub returns-in_default : goal.returns-in_default
returns-in_default c = (
  λ t. absurd (let no : false ≡ true = t in cc),
  λ made. absurd (c.loop-i.invariant (made_by_all c.args.replay.now.site.entries c.loop-i.i c.args.done c.args.to c.args.number (sym c.in_default.ensures) (omega (arith, c.loop-i-test.true)) made)),
)

pub returns-then-is_frame : goal.returns-then-is_frame
returns-then-is_frame c = (
  λ t. made_there c.args.replay.now.site.entries c.loop-i.i (entry_shown c.in-Some.entry) (sym c.in-Some.ensures) c.args.to c.args.number c.args.done c.loop-i-test.true (c.is_frame.ensures.0 c.if-is_frame.true),
  λ made. refl,
)

pub returns : goal.returns
returns c =
    let end : ◌≡◌ {A = ℕ} c.loop-i.i c.args.done = omega (arith, c.loop-i-test.false, c.loop-i.auto.i-end) in (
      λ t. absurd (let no : false ≡ true = t in cc),
      λ made. absurd (c.loop-i.invariant (subst (λ n. HasMade (take n c.args.replay.now.site.entries) c.args.to c.args.number) (sym end) made)),
    )
