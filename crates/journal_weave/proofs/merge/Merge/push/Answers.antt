use Rattle.std.proofs.Common.{◌≡◌, ℕ, get_or, subst, sym, ap, ◌∙◌}
use Rattle.std.proofs.lemmas.List.{get_or_default}
use Rattle.journal_weave.specs.refinement.Merging.{told_by}
use Rattle.journal_weave.proofs.merge.Merge.push.Goals as goal

pub returns-clause-sent : goal.returns-clause-sent
returns-clause-sent c =
    let at = c.args.self.now.at.items in
    let entry = c.index-entry.result.now in
    let here : get_or at c.args.a 0 ≡ entry = sym (c.index-entry.ensures ∙ ap (λ n. get_or at n entry) c.index.ensures ∙ get_or_default at c.args.a entry 0 c.requires.office) in
    λ rs told. c.in_ok-add_of.ensures rs (subst (λ (n : ℕ). told_by rs (record { office = c.args.a; entry = n }) ≡ c.args.frame.now) here told)
