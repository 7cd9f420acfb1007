use Rattle.std.proofs.Common.{rules, ◌≡◌, ◌-◌, ◌+◌, ◌<◌, ℕ, arith, List, None, Some, refl, ap, sym, subst, ◌∙◌}
use Rattle.own_lock.specs.Rule.{amid}
use Rattle.own_lock.specs.Passes.{AreFresh}
use Rattle.own_lock.proofs.StepsKeepRule.{opens, deals}
use Rattle.own_lock.proofs.Dealing.{dealing, AreFresh-snoc, AreIdle-of_fresh, parts-dealing, without_first-dealing, HasOnePass-first, HasOnePass-last, pass_view-first, pass_view-last}
use Rattle.own_lock.proofs.lock.OwnLock.open.Goals as goal

pub new-requires-2 : goal.new-requires-2
new-requires-2 g c =
    let x = c.of.result.value in
    let same : c.args.state ≡ x = sym c.of.ensures in
    let boxed : c.in_ok-boxed.boxed ≡ x = c.in_ok-boxed.ensures ∙ same in
    let items : c.in_ok-slots.slots.items ≡ amid None (Some x) = c.in_ok-slots.ensures ∙ ap (λ y. amid None (Some y)) boxed in
    rw items (opens g.S.Kept.tag_of g.S.Kept.key g.S.Kept.entries g.S.Kept.fits (g.S.Kept.key x) c.args.passes x (subst g.S.Kept.fits same c.requires.fits) refl)

pub split_seat-next-requires : goal.split_seat-next-requires
split_seat-next-requires g c =
    let x = c.of.result.value in
    let me = c.loop-tag.invariant.1 in
    let parts = parts-dealing g.S.Kept.tag_of (g.S.Kept.key x) (g.S.Kept.entries x) (c.args.passes - c.loop-tag.tag) c.loop-tag.tag _ me (omega arith) in
    (search rules, subst (λ (n : ℕ). 0 < n) (sym c.in-Ok.ensures.ok.0) (omega arith), deals _ _ _ _ _ _ _ _ _ _ (ap (λ m. m.0.holds) me) parts)

pub invariant_of-push : goal.invariant_of-push
invariant_of-push g c =
    let x = c.of.result.value in
    rw c.split_seat-next.ensures.4 (HasOnePass-first g.S.Kept.tag_of (g.S.Kept.key x) (g.S.Kept.entries x) (c.args.passes - c.loop-tag.tag) c.loop-tag.tag _ c.loop-tag.invariant.1 (omega arith) (let few = c.requires.few in omega arith))

pub loop-tag-preserved : goal.loop-tag-preserved
loop-tag-preserved g c =
    let x = c.of.result.value in
    let n : ℕ = c.args.passes - c.loop-tag.tag in
    let more : 0 < n = omega arith in
    let me = c.loop-tag.invariant.1 in
    let out = c.split_seat-next.ensures in (
      search rules,
      out.2 ∙ without_first-dealing g.S.Kept.tag_of (g.S.Kept.key x) (g.S.Kept.entries x) n _ c.loop-tag.tag _ me more (omega arith),
      AreFresh-snoc _ _ _ _ _ _ _ c.loop-tag.invariant.2
          (pass_view-first g.S.Kept.tag_of (g.S.Kept.key x) (g.S.Kept.entries x) n c.loop-tag.tag _ _ _ _ me more (out.3 ∙ c.loop-tag.invariant.0) out.4)
          c.in_ok-push.ensures.items,
      c.in_ok-parker.ensures ∙ ap (λ n. n + 1) c.loop-tag.invariant.3,
    )

pub returns-clause-fresh : goal.returns-clause-fresh
returns-clause-fresh g c =
    let x = c.of.result.value in
    let es = g.S.Kept.entries x in
    let n : ℕ = c.args.passes - c.loop-tag.tag in
    let last = c.loop-tag.auto.tag-end in
    let some_pass = c.requires.some in
    let one : n ≡ 1 = omega arith in
    let me = c.loop-tag.invariant.1 ∙ ap (λ n. dealing g.S.Kept.tag_of (g.S.Kept.key x) es n c.loop-tag.tag) one in
    let all = AreFresh-snoc _ _ _ _ _ _ _ c.loop-tag.invariant.2 (pass_view-last g.S.Kept.tag_of (g.S.Kept.key x) es c.loop-tag.tag _ _ _ me c.loop-tag.invariant.0) c.in_ok-push-2.ensures.items in
    let count : c.loop-tag.tag + 1 ≡ c.args.passes = omega arith in
    let key = ap (λ o. g.S.Kept.key o.state.value) (sym c.in-Ok.ensures.ok.5) in
    let entries : es ≡ g.S.Kept.entries c.args.state = ap g.S.Kept.entries c.of.ensures in
    subst (λ (z : ℕ × g.row.S-Key.Denot × List g.row.S-Entry.Denot). AreFresh (record { name = c.in-Ok.table.shared.table_id; key = z.1 }) g.S.Kept.tag_of z.2 z.0 c.push-2.new.self.items) (λ i. (count i, key i, entries i)) all

pub returns-clause-idle : goal.returns-clause-idle
returns-clause-idle g c = AreIdle-of_fresh _ _ _ _ _ (returns-clause-fresh g c)

pub invariant_of-push-2 : goal.invariant_of-push-2
invariant_of-push-2 g c =
    let x = c.of.result.value in
    let es = g.S.Kept.entries x in
    let n : ℕ = c.args.passes - c.loop-tag.tag in
    let last = c.loop-tag.auto.tag-end in
    let end = c.loop-tag-test.false in
    let some_pass = c.requires.some in
    let few = c.requires.few in
    let one : n ≡ 1 = omega arith in
    let me = c.loop-tag.invariant.1 ∙ ap (λ n. dealing g.S.Kept.tag_of (g.S.Kept.key x) es n c.loop-tag.tag) one in
    HasOnePass-last g.S.Kept.tag_of (g.S.Kept.key x) es c.loop-tag.tag _ _ me (omega arith) (omega arith)
