use Rattle.std.proofs.Common.{◌<◌, ◌≤◌, length, Some, set, ap, ◌∙◌, arith, rules}
use Rattle.arrayvec.proofs.ArrayVecLemmas.{items-with_items}
use Rattle.window_link.specs.Limits.{most_kept}
use Rattle.window_link.specs.Windows.{kept_with}
use Rattle.window_link.specs.refinement.Places.{filled}
use Rattle.window_link.proofs.KeptPlaces.{kept-new, kept-old}
use Rattle.window_link.proofs.receiving.keep_at.Goals as goal

pub returns-then-is_none-clause-kept : goal.returns-then-is_none-clause-kept
returns-then-is_none-clause-kept c =
    let ks = c.reach.new.ahead.items in
    let few : length ks ≤ most_kept = omega (arith, c.reach.ensures.len, c.requires.few, c.requires.near) in
    let at : c.args.place < length ks = omega (arith, c.reach.ensures.len) in
    ap (filled most_kept) (items-with_items c.reach.new.ahead _ (search rules))
    ∙ ap (λ xs. filled most_kept (set xs c.args.place (Some c.args.msg))) c.deref_mut.ensures.value
    ∙ kept-new most_kept ks c.args.place c.index-deref-place.result c.args.msg few at (search rules) (search rules)
    ∙ ap (λ xs. kept_with xs c.args.place c.args.msg) c.reach.ensures.same

pub returns-else-is_none-clause-kept : goal.returns-else-is_none-clause-kept
returns-else-is_none-clause-kept c =
    let ks = c.reach.new.ahead.items in
    let few : length ks ≤ most_kept = omega (arith, c.reach.ensures.len, c.requires.few, c.requires.near) in
    let at : c.args.place < length ks = omega (arith, c.reach.ensures.len) in
    kept-old most_kept ks c.args.place c.index-deref-place.result c.args.msg few at (search rules) (search rules)
    ∙ ap (λ xs. kept_with xs c.args.place c.args.msg) c.reach.ensures.same
