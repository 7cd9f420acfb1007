use Rattle.std.proofs.Common.{◌≡◌, ◌-◌, ◌∙◌, length, drop, refl, sym, ap, arith}
use Rattle.std.proofs.lemmas.List.{drop_all}
use Rattle.datagram_seals.specs.frames.Seals.{differing_bits}
use Rattle.datagram_seals.proofs.frames_lemmas.Differences.{one_place_more}
use Rattle.datagram_seals.proofs.frames.secret.differing.Goals as goal

pub places-init : goal.places-init
places-init c =
    let ours = c.args.ours.now in
    sym (ap (λ xs. differing_bits xs (drop (length ours - 0) c.args.theirs.now)) (drop_all (length ours - 0) ours (omega arith)))

pub places-preserved : goal.places-preserved
places-preserved c =
    one_place_more c.args.ours.now c.args.theirs.now (length c.args.ours.now) c.places.i c.places.bits refl (sym c.requires) (omega arith) c.places.invariant

pub returns : goal.returns
returns c =
    let whole : length c.args.ours.now - c.places.i ≡ 0 = omega arith in
    c.places.invariant ∙ ap (λ k. differing_bits (drop k c.args.ours.now) (drop k c.args.theirs.now)) whole
