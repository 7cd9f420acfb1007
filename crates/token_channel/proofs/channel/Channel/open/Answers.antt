use Rattle.std.proofs.Common.{length, sym, ap, subst, arith, rules}
use Rattle.window_link.specs.Links.{LinkState}
use Rattle.token_channel.specs.Places.{Apart}
use Rattle.token_channel.proofs.ThingsApart.{apart_none}
use Rattle.token_channel.specs.PlaceLaws.{few_places}
use Rattle.token_channel.proofs.channel.Channel.open.Goals as goal

pub invariant_of-result : goal.invariant_of-result
invariant_of-result c =
    let places = c.in_ok-places.places.items in (
      subst (λ (l : LinkState). Apart places l.sending.waiting) (sym c.open-link.ensures) (apart_none places),
      omega (
        arith,
        ap length c.in_ok-places.ensures,
        few_places c.args.plan.now c.args.me c.args.peer c.offices.ensures.consistent c.requires.neighbours,
        c.offices.ensures.consistent.records_fit c.args.me c.args.peer,
      ),
    )

pub returns-clause-few : goal.returns-clause-few
returns-clause-few c =
    omega (arith, ap length c.in_ok-places.ensures, few_places c.args.plan.now c.args.me c.args.peer c.offices.ensures.consistent c.requires.neighbours)

pub returns-clause-opened : goal.returns-clause-opened
returns-clause-opened c = search rules
