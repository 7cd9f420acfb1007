use Rattle.std.proofs.Common.{◌≡◌, ◌<◌, true, ap, sym, ◌∙◌, arith, length}
use Rattle.std.specs.Prelude.{◌==◌}
use Rattle.std.specs.Option.{option_map_or}
use Rattle.std.proofs.lemmas.Bool.{cond_both}
use Rattle.office_map.specs.PlanValue.{is_end, other_end, peer, are_neighbours}
use Rattle.office_map.specs.NeighbourLaws.{peer_near, peer_back}
use Rattle.office_map.proofs.plan.Plan.other_end.Goals as goal

pub returns-clause-peer : goal.returns-clause-peer
returns-clause-peer c = c.other_end.ensures ∙ sym (ap (λ o. option_map_or (other_end c.args.office) o 0) c.record.ensures.entry)

pub returns-clause-office : goal.returns-clause-office
returns-clause-office c =
    rw c.other_end.ensures
    (cond_both (c.record.result.now.first == c.args.office) c.record.result.now.second c.record.result.now.first (λ z. z < length c.args.self.now.offices) (λ t. c.record.ensures.ends.second) (λ t. c.record.ensures.ends.first))

pub returns-clause-near : goal.returns-clause-near
returns-clause-near c end =
    let e : is_end c.args.self.now c.args.r c.args.office ≡ true = grind (end, arith) in
    let near : are_neighbours c.args.self.now c.args.office (peer c.args.self.now c.args.office c.args.r) ≡ true = peer_near c.args.self.now c.args.r c.args.office c.offices.ensures.consistent e in
    let same : c.other_end.result ≡ peer c.args.self.now c.args.office c.args.r = c.other_end.ensures ∙ sym (ap (λ o. option_map_or (other_end c.args.office) o 0) c.record.ensures.entry) in
    grind (arith, rw (← same) at near)

pub returns-clause-back : goal.returns-clause-back
returns-clause-back c end =
    let e : is_end c.args.self.now c.args.r c.args.office ≡ true = grind (end, arith) in
    let same : c.other_end.result ≡ peer c.args.self.now c.args.office c.args.r = c.other_end.ensures ∙ sym (ap (λ o. option_map_or (other_end c.args.office) o 0) c.record.ensures.entry) in
    ap (λ x. peer c.args.self.now x c.args.r) same ∙ peer_back c.args.self.now c.args.r c.args.office e
