-- What is handed on was opened.
use Rattle.std.proofs.Common.{◌≡◌, ◌≢◌, ℕ, zero, suc, List, [], ◌∷◌, map, Bool, true, false, Option, None, Some, option_map, if◌then◌else◌, refl, sym, ap, ◌∙◌}
use Rattle.std.specs.Prelude.{slice_get}
use Rattle.std.specs.List.{slice_index_or}
use Rattle.std.specs.Str.{bytes_eq}
use Rattle.std.proofs.lemmas.List.{get_or_append_left}
use Rattle.std.proofs.lemmas.Slice.Eq.{bytes_eq-Decides}
use Rattle.datagram_seals.specs.frames.Seals.{seal_of, sealed}
use Rattle.datagram_seals.specs.wires.SealedWires.{sender_of, frame_in, secret_with, opened_by, handed_on, IsOpened, EachIsOpened}

-- a secret opens what is the sealed form of the rest
by_secret : (secrets : List (Option (List ℕ))) (d frame : List ℕ) (o : Option (List ℕ)) → secret_with secrets (sender_of d) ≡ o → opened_by o d ≡ frame → frame ≢ [] → IsOpened secrets d frame
by_secret secrets d frame None here is some = absurd (some (sym is))
by_secret secrets d frame (Some b) here is some = by_test (bytes_eq d (sealed b (frame_in d))) refl is
  where
    by_test : (t : Bool) → bytes_eq d (sealed b (frame_in d)) ≡ t → (if t then frame_in d else []) ≡ frame → IsOpened secrets d frame
    by_test false e same = absurd (some (sym same))
    by_test true e same =
        let whole : d ≡ sealed b frame = (bytes_eq-Decides d (sealed b (frame_in d))).0 e ∙ ap (sealed b) same in
        record {
          secret = b;
          shared = here;
          is_sealed = whole;
          names = λ long. ap (λ l. slice_index_or l 8 0) whole ∙ get_or_append_left frame (seal_of b frame) 0 8 long;
        }

in_list : {A B : Type 0} (f : A → B) (xs : List A) (i : ℕ) (y : B) → slice_get (map f xs) i ≡ Some y → (x : A) × (slice_get xs i ≡ Some x) × (f x ≡ y)
in_list f [] i y h = absurd cc
in_list f (x ∷ xs) zero y h = let same : f x ≡ y = cc in (x, refl, same)
in_list f (x ∷ xs) (suc i) y h = in_list f xs i y h

came : (secrets : List (Option (List ℕ))) (o : Option (List ℕ)) (frame : List ℕ) → option_map (handed_on secrets) o ≡ Some frame → (d : List ℕ) × (o ≡ Some d) × (handed_on secrets d ≡ frame)
came secrets None frame h = absurd cc
came secrets (Some d) frame h = let same : handed_on secrets d ≡ frame = cc in (d, refl, same)

pub each_is_opened : EachIsOpened
each_is_opened secrets failures a i frame there some =
    let x = in_list (option_map (handed_on secrets)) a.received i (Some frame) there in
    let d = came secrets x.0 frame x.2 in
    (d.0, x.1 ∙ ap Some d.1, by_secret secrets d.0 frame (secret_with secrets (sender_of d.0)) refl d.2 some)
