use Rattle.std.proofs.Common.{ℕ, ◌≡◌, ◌<◌, ◌∙◌, sym, length, get_or, slice_index_or, [], arith}
use Rattle.std.proofs.lemmas.List.{get_or_default}
use Rattle.std.proofs.lemmas.Slice.Eq.{bytes_eq-Decides}
use Rattle.text_lines.proofs.NamePlaces.{place_is}
use Rattle.text_lines.proofs.guesses.Guesses.find_name.Goals as goal

pub returns-then-is : goal.returns-then-is
returns-then-is c =
    let k : ℕ = slice_index_or c.args.self.now.last c.short_key-key.result 0 in
    let there : k < length c.args.names.now = c.if-place-names.true in
    let at : get_or c.args.names.now k [] ≡ c.index-names-place.result = get_or_default c.args.names.now k [] c.index-names-place.result there ∙ sym c.index-names-place.is in
    let same : c.index-names-place.result ≡ c.args.name.now = (bytes_eq-Decides c.index-names-place.result c.args.name.now).0 (sym c.is.ensures ∙ c.if-is.true) in
    sym (place_is c.args.names.now c.args.name.now k c.requires.distinct there (at ∙ same))
