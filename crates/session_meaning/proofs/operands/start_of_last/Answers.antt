use Rattle.std.proofs.Common.{◌≡◌, ◌-◌, ◌<◌, ap, ◌∙◌, arith, sym, reverse, take, ⊎_elim}
use Rattle.session_meaning.specs.refinement.PostfixSplit.{after_back}
use Rattle.session_meaning.proofs.PostfixSplit.{one_back, wanted_before}
use Rattle.session_meaning.proofs.operands.start_of_last.Goals as goal

pub loop-wanted-preserved-in-Literal : goal.loop-wanted-preserved-in-Literal
loop-wanted-preserved-in-Literal c =
    let some : 0 < c.loop-wanted.at = omega (arith, c.if-at-eq0.false) in
    let less : wanted_before c.node.result c.loop-wanted.wanted ≡ c.loop-wanted.wanted - 1 =
    ⊎_elim (λ l. ap (λ n. wanted_before n c.loop-wanted.wanted) l.1) (λ r. ⊎_elim (λ v. ap (λ n. wanted_before n c.loop-wanted.wanted) v.1) (λ k. ap (λ n. wanted_before n c.loop-wanted.wanted) k.1) r) c.in-Literal.is in
    record {
      so_far = ap (λ k. after_back k (reverse (take (c.loop-wanted.at - 1) c.args.nodes.now))) (sym less)
          ∙ one_back c.args.nodes.now c.loop-wanted.wanted c.loop-wanted.at c.node.result c.loop-wanted-test.true some c.node.ensures.node ∙ c.loop-wanted.invariant.so_far;
      within = omega (arith, c.loop-wanted.invariant.within);
      counted = omega (arith, c.loop-wanted.invariant.counted);
    }

pub loop-wanted-preserved-in-Negate : goal.loop-wanted-preserved-in-Negate
loop-wanted-preserved-in-Negate c =
    let some : 0 < c.loop-wanted.at = omega (arith, c.if-at-eq0.false) in
    record {
      so_far = ap (λ n. after_back (wanted_before n c.loop-wanted.wanted) (reverse (take (c.loop-wanted.at - 1) c.args.nodes.now))) (sym c.in-Negate.is)
          ∙ one_back c.args.nodes.now c.loop-wanted.wanted c.loop-wanted.at c.node.result c.loop-wanted-test.true some c.node.ensures.node ∙ c.loop-wanted.invariant.so_far;
      within = omega (arith, c.loop-wanted.invariant.within);
      counted = omega (arith, c.loop-wanted.invariant.counted);
    }

pub loop-wanted-preserved : goal.loop-wanted-preserved
loop-wanted-preserved c =
    let some : 0 < c.loop-wanted.at = omega (arith, c.if-at-eq0.false) in
    record {
      so_far = ap (λ n. after_back (wanted_before n c.loop-wanted.wanted) (reverse (take (c.loop-wanted.at - 1) c.args.nodes.now))) (sym c.in-Apply.is)
          ∙ one_back c.args.nodes.now c.loop-wanted.wanted c.loop-wanted.at c.node.result c.loop-wanted-test.true some c.node.ensures.node ∙ c.loop-wanted.invariant.so_far;
      within = omega (arith, c.loop-wanted.invariant.within);
      counted = omega (arith, c.loop-wanted.invariant.counted, some);
    }
