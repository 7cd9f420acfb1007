-- A name that is packed.
use Rattle.std.proofs.Common.{◌≡◌, ℕ, zero, suc, ◌+◌, ◌-◌, ◌<◌, ◌≤◌, List, [], ◌∷◌, ◌++◌, length, get_or, take, drop, replicate, ◌&&◌, true, refl, sym, ap, ◌∙◌, arith}
use Rattle.std.specs.List.{list_all}
use Rattle.std.proofs.lemmas.Bool.{and_parts, and_from, leb-true, le-leb}
use Rattle.std.proofs.lemmas.Bool.Decides.{nat_tests}
use Rattle.std.proofs.lemmas.List.{length-append, length-replicate, length-take-le, take_at, take_all, drop-replicate}
use Rattle.text_lines.specs.short.Names.{most_bytes, is_short, is_short_byte}
use Rattle.text_lines.specs.short.refinement.Packing.{padded, IsPacked}

pub few : (name : List ℕ) → is_short name ≡ true → length name ≤ most_bytes
few name h = leb-true (length name) most_bytes (and_parts _ _ h).0

pub all_short : (name : List ℕ) → is_short name ≡ true → list_all is_short_byte name ≡ true
all_short name h = (and_parts _ _ h).1

pub length-padded : (name : List ℕ) → length name ≤ most_bytes → length (padded name) ≡ most_bytes
length-padded name h =
    let rest : List ℕ = replicate (most_bytes - length name) 0 in
    let e : length (padded name) ≡ length name + length rest = length-append name rest in
    let z : length rest ≡ most_bytes - length name = length-replicate (most_bytes - length name) 0 in
    omega arith

pub front_of_padded : (name : List ℕ) → take (length name) (padded name) ≡ name
front_of_padded name = take_at name (replicate (most_bytes - length name) 0) (length name) refl

pub packed : (name : List ℕ) → is_short name ≡ true → IsPacked (padded name) (length name)
packed name h = record {
  within = few name h;
  whole = length-padded name (few name h);
  filled = ap padded (front_of_padded name);
  short = ap (list_all is_short_byte) (front_of_padded name) ∙ all_short name h;
}

-- the bytes of a packed name can be a name
pub is_name : (bytes : List ℕ) (count : ℕ) → IsPacked bytes count → is_short (take count bytes) ≡ true
is_name bytes count h =
    let long : length (take count bytes) ≡ count = length-take-le count bytes (omega (arith, h.within, h.whole)) in
    and_from _ _ (le-leb (length (take count bytes)) most_bytes (omega (arith, long, h.within))) h.short

byte_below : (b : ℕ) → is_short_byte b ≡ true → b < 128
byte_below b h = grind (arith, nat_tests)

-- such bytes are ASCII
pub ascii : (name : List ℕ) → list_all is_short_byte name ≡ true → (i : ℕ) → get_or name i 0 < 128
ascii [] h i = omega arith
ascii (b ∷ bs) h zero = byte_below b (and_parts (is_short_byte b) (list_all is_short_byte bs) h).0
ascii (b ∷ bs) h (suc i) = ascii bs (and_parts (is_short_byte b) (list_all is_short_byte bs) h).1 i
