-- What the code opens and lets out, in the words of accounts.
use Rattle.std.proofs.Common.{◌≡◌, ℕ, ◌-◌, Bool, true, List, [], ◌∷◌, ◌++◌, length, take, map, Option, Some, Ok, if◌then◌else◌, refl, sym, ap, ap₂, ◌∙◌, arith, length-append}
use Rattle.std.specs.Str.{bytes_eq}
use Rattle.std.proofs.Math.Seq.{take-append_seam}
use Rattle.std.proofs.lemmas.List.{map-append}
use Rattle.std.proofs.lemmas.Slice.Eq.{bytes_eq-Decides}
use Rattle.socket_pump.specs.Wires.{Account, Accepts}
use Rattle.datagram_seals.specs.frames.Seals.{seal_of, sealed}
use Rattle.datagram_seals.proofs.frames_lemmas.SealsOpened.{seal_long}
use Rattle.datagram_seals.specs.wires.SealedWires.{frame_in, opened_by, told_of, IsSealedWith}

-- the frame of a sealed form
front_is : (b d f : List ℕ) → d ≡ sealed b f → frame_in d ≡ f
front_is b d f is =
    let seam : length d - 16 ≡ length f = omega (arith, ap length is, length-append f (seal_of b f), seal_long b f) in
    ap₂ take seam is ∙ take-append_seam f (seal_of b f)

-- what is opened by the secret
pub opened_is : (b d f : List ℕ) → d ≡ sealed b f → take (length f) d ≡ opened_by (Some b) d
opened_is b d f is =
    let whole : bytes_eq d (sealed b (frame_in d)) ≡ true = (bytes_eq-Decides d (sealed b (frame_in d))).1 (is ∙ ap (sealed b) (sym (front_is b d f is))) in
    ap (take (length f)) is ∙ take-append_seam f (seal_of b f) ∙ sym (front_is b d f is) ∙ ap (λ t. if t then frame_in d else []) (sym whole)

abbrev with_accepted : Account → List (ℕ × List ℕ) → Account
with_accepted a out = record a { accepted = out }

-- a sealed form that goes out is told as its frame
pub posted : (tells : Bool) (secrets given : List (Option (List ℕ))) (failures office to n : ℕ) (a b : Account) (frame datagram out : List ℕ) (u : Unit {0})
    → Accepts {E = Unit {0}} tells a to datagram (Ok u) b → datagram ≡ take n out → IsSealedWith given office frame (take n out)
    → Accepts {E = Unit {0}} tells (told_of secrets failures a) to frame (Ok u) (told_of secrets failures b)
posted tells secrets given failures office to n a b frame datagram out u h is s =
    let whole : datagram ≡ sealed s.0 frame = is ∙ s.2 in (
      refl,
      λ t.
          ap (told_of secrets failures) (h.1 t)
          ∙ ap (with_accepted (told_of secrets failures a)) (map-append (λ (d : ℕ × List ℕ). (d.0, frame_in d.1)) a.accepted ((to, datagram) ∷ []))
          ∙ ap (λ f. with_accepted (told_of secrets failures a) (map (λ (d : ℕ × List ℕ). (d.0, frame_in d.1)) a.accepted ++ (to, f) ∷ [])) (front_is s.0 datagram frame whole),
    )
