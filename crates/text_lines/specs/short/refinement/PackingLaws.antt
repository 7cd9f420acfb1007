-- That a name's bytes give back how many they are.
use Rattle.std.proofs.Common.{◌≡◌, ℕ, List, length, take, arith}
use Rattle.std.proofs.lemmas.List.{length-take-le}
use Rattle.text_lines.specs.short.refinement.Packing.{IsPacked}

pub count_again : (bytes : List ℕ) (count : ℕ) → IsPacked bytes count → length (take count bytes) ≡ count
count_again bytes count packed = length-take-le count bytes (omega (arith, packed.within, packed.whole))
