use Rattle.std.proofs.Common.{◌≡◌, ◌<◌, ◌-◌, suc, get_or, length, arith}
use Rattle.std.proofs.lemmas.List.{get_or_default}
use Rattle.office_map.proofs.RecordChains.{begun, walked, ended}
use Rattle.office_map.proofs.records.first_named.Goals as goal

pub chain-init : goal.chain-init
chain-init c = begun c.args.entries.now c.args.name.now c.args.from c.requires.last

pub chain-preserved : goal.chain-preserved
chain-preserved c =
    let entries = c.args.entries.now in
    let at = c.chain.at in
    let r = get_or entries (at - 1) c.index-entries-place.result in
    let lt : at - 1 < length entries = omega (arith, c.chain.invariant.within, c.chain-test.true) in
    let is : at ≡ suc (at - 1) = omega (arith, c.chain-test.true) in
    rw (c.nearer-found.ensures, c.is.ensures)
    (walked entries c.args.before.now c.args.name.now at (at - 1) c.chain.found r c.requires.chains c.chain.invariant is (λ d. get_or_default entries (at - 1) d c.index-entries-place.result lt))

pub chain-smaller : goal.chain-smaller
chain-smaller c =
    let entries = c.args.entries.now in
    let at = c.chain.at in
    let lt : at - 1 < length entries = omega (arith, c.chain.invariant.within, c.chain-test.true) in
    omega (arith, (c.requires.chains.goes_on (at - 1) c.index-entries-place.result lt).within, c.chain-test.true)

pub returns : goal.returns
returns c =
    ended c.args.entries.now c.args.name.now c.chain.at c.chain.found c.chain.invariant (omega (arith, c.chain-test.false))
