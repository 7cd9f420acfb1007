use Rattle.std.proofs.Common.{◌≡◌, ◌<◌, false, true, length, take, get_or, refl, sym, ap, subst, ◌∙◌}
use Rattle.std.specs.Prelude.{IsTrue, ◌↔◌}
use Rattle.journal_weave.specs.Given.{HasMade}
use Rattle.journal_weave.specs.refinement.Standing.{StandsBefore}
use Rattle.journal_weave.proofs.Naming.{comes_not, comes_so, inside}
use Rattle.journal_weave.proofs.standing.may_come.Goals as goal

pub returns-then-not-stands : goal.returns-then-not-stands
returns-then-not-stands c =
    let rs = c.args.replays.now in
    let at = c.args.merge.now.at.items in
    comes_not rs at c.args.a c.args.frame.now (λ s. let no : false ≡ true = sym c.if-not-stands.true ∙ c.stands.ensures.1 (subst (StandsBefore rs at) (sym (c.new-from.ensures ∙ c.from.ensures)) s) in absurd (cc))

pub bounds-replays-index : goal.bounds-replays-index
bounds-replays-index c = subst (λ n. n < length c.args.replays.now) (sym c.index.ensures) (inside c.args.replays.now c.args.merge.now.at.items c.new-from.result (c.stands.ensures.0 c.if-not-stands.false))

pub returns : goal.returns
returns c =
    let rs = c.args.replays.now in
    let at = c.args.merge.now.at.items in
    let f = c.args.frame.now in
    let from : c.new-from.result ≡ f.from = c.new-from.ensures ∙ c.from.ensures in
    let r = c.index-replays-index.result in
    let stands = subst (StandsBefore rs at) from (c.stands.ensures.0 c.if-not-stands.false) in
    let is : r ≡ get_or rs f.from r = c.index-replays-index.is ∙ ap (λ n. get_or rs n r) (c.index.ensures ∙ from) in
    let done : c.done.result ≡ get_or at f.from 0 = c.done.ensures.count ∙ ap (λ n. get_or at n 0) from in
    let numbered : IsTrue c.has_made.result ↔ HasMade (take c.done.result r.site.entries) c.args.a f.number =
    subst (λ k. IsTrue c.has_made.result ↔ HasMade (take c.done.result r.site.entries) c.args.a k) c.number-2.ensures.value
    (subst (λ k. IsTrue c.has_made.result ↔ HasMade (take c.done.result r.site.entries) k c.number-2.result) c.number.ensures c.has_made.ensures) in
    let made = subst (λ n. IsTrue c.has_made.result ↔ HasMade (take n r.site.entries) c.args.a f.number) done numbered in
    comes_so rs at c.args.a f r c.has_made.result _ stands is refl made
