use Rattle.std.proofs.Common.{◌≤◌, refl, take, ◌++◌, length, ◌∙◌, ap, arith, ◌+◌}
use Rattle.std.proofs.lemmas.Slice.{take-put_mid, drop-put_mid}
use Rattle.bottle_values.proofs.Growth.{grown}
use Rattle.bottle_values.proofs.text.Text.with.Goals as goal

pub invariant_of-result : goal.invariant_of-result
invariant_of-result c =
    let len = c.self.inside.len in
    let xs = c.self.inside.bytes in
    let ys = c.args.more.now in
    let within : len ≤ length xs = omega (arith, c.self.ranges, c.if-grown-gt-MAX_TEXT.false, c.self.invariant.0) in
    grown (len + length ys) len xs ys _ c.self.invariant.0 c.self.invariant.1 c.self.invariant.2 c.requires refl (omega (arith, c.if-grown-gt-MAX_TEXT.false))
    (take-put_mid len _ xs _ (len + length ys) (omega (arith, ap length c.copy_from_slice.ensures.after)) within ∙ ap (λ l. take len xs ++ l) c.copy_from_slice.ensures.after)
    (drop-put_mid len _ xs _ (len + length ys) (omega arith) within (omega (arith, ap length c.copy_from_slice.ensures.after)))
