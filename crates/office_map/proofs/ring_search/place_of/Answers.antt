use Rattle.std.proofs.Common.{◌≡◌, ◌==◌, get_or, true, arith}
use Rattle.std.specs.List.{Any}
use Rattle.std.proofs.lemmas.Bool.{eqb-true}
use Rattle.std.proofs.lemmas.List.Folds.{Any-from_list_any}
use Rattle.office_map.proofs.ring_search.place_of.Goals as goal

pub unreachable-requires : goal.unreachable-requires
unreachable-requires c =
    let any : Any (λ x. (x == c.args.office) ≡ true) c.args.path.now = Any-from_list_any (λ x. x == c.args.office) c.args.path.now c.requires in
    c.loop-place.invariant any.0 any.1 (omega (arith, any.2, c.loop-place-test.false)) (eqb-true (get_or c.args.path.now any.0 any.1) c.args.office (rw any.3 any.4))
