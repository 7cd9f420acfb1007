use Rattle.std.proofs.Common.{◌≡◌, ◌+◌, length, get_or, subst, arith}
use Rattle.office_map.specs.refinement.RecordChains.{place_of_key, has_key, IsLastBelow}
use Rattle.office_map.proofs.RecordChains.{chains_more, starts_more}
use Rattle.office_map.proofs.records.RecordTable.push.Goals as goal

pub invariant_of-self-2 : goal.invariant_of-self-2
invariant_of-self-2 c =
    let records = c.self.inside.entries.items in
    let key = c.key_place-key.result in
    let last : IsLastBelow (has_key (place_of_key c.args.entry.name)) records (length records) (get_or c.self.inside.last key 0) =
    subst (λ k. IsLastBelow (has_key k) records (length records) (get_or c.self.inside.last key 0)) c.key_place-key.ensures.place (c.self.invariant.1.starts key c.key_place-key.ensures.within) in
    let count : c.len.result ≡ length records + 1 = omega (arith, c.len.ensures, c.in_ok-push-2.ensures.len, c.in_ok-reserve.ensures.len, c.self.inside.entries.ok.0) in
    rw (c.in_ok-push-2.ensures.items, c.in_ok-reserve.ensures.items, c.in_ok-push.ensures.items) (
      chains_more records c.self.inside.before.items c.args.entry (get_or c.self.inside.last key 0) c.self.invariant.0 last,
      starts_more records c.self.inside.last c.args.entry key c.len.result c.self.invariant.1 c.key_place-key.ensures.place c.key_place-key.ensures.within count,
    )
