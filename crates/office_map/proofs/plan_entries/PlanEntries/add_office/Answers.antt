use Rattle.std.proofs.Common.{arith, refl, sym, ◌∙◌, rules}
use Rattle.office_map.proofs.ConsistencyKept.{office_added}
use Rattle.office_map.proofs.plan_entries.PlanEntries.add_office.Goals as goal

pub invariant_of-self-2 : goal.invariant_of-self-2
invariant_of-self-2 c =
    rw c.in_ok-push.ensures.items ((office_added _ c.args.self.now _ c.office_named.result c.is_address_taken.result c.args.office.now.name c.args.office.now.address.now c.self.invariant.0 c.args.office.now.named c.args.office.now.addressed c.self.view_is c.office_named.ensures (sym c.is_some.ensures ∙ c.if-is_some.false) c.is_address_taken.ensures c.if-is_address_taken.false (omega (arith, c.self.inside.offices.ok.0)) refl c.in_ok-address.ensures), c.self.invariant.1, c.self.invariant.2)

pub returns : goal.returns
returns c = search rules
