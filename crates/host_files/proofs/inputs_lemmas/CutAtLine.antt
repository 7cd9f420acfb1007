-- A text cut at a line.
use Rattle.std.proofs.Common.{◌≡◌, ◌≢◌, ◌-◌, ◌+◌, ℕ, zero, suc, List, [], ◌∷◌, ◌++◌, All, length, take, codes, refl, sym, ap, ◌∙◌, append_assoc, arith, length-append, inl, inr}
use Rattle.std.proofs.Math.Seq.{take-append_seam}
use Rattle.std.proofs.lemmas.Grind.{flat_map-append}
use Rattle.std.proofs.lemmas.List.{append-nil}
use Rattle.std.proofs.lemmas.List.Elements.{All-append}
use Rattle.host_files.specs.inputs.Cut.{IsLine, IsCutLine, IsOther, ended, IsCut, at_line, at_last_line, nowhere}

-- other lines stand before the rest
abbrev pub Walked : List ℕ → List ℕ → Type 0
Walked text rest = (others : List (List ℕ)) × All IsOther others × (text ≡ ended others ++ rest)

front_is : (text before rest : List ℕ) → text ≡ before ++ rest → take (length text - length rest) text ≡ before
front_is text before rest e =
    let whole : length text ≡ length before + length rest = ap length e ∙ length-append before rest in
    let size : length text - length rest ≡ length before = omega (arith, whole) in
    rw size (ap (take (length before)) e ∙ take-append_seam before rest)

ended_more : (others : List (List ℕ)) (line after : List ℕ) → ended others ++ (line ++ 10 ∷ after) ≡ ended (others ++ line ∷ []) ++ after
ended_more others line after =
    let one : ended (others ++ line ∷ []) ≡ ended others ++ (line ++ 10 ∷ []) =
    flat_map-append (λ l. l ++ 10 ∷ []) others (line ∷ []) ∙ ap (λ b. ended others ++ b) (append-nil (line ++ 10 ∷ [])) in
    sym (ap (λ b. b ++ after) one ∙ append_assoc (ended others) (line ++ 10 ∷ []) after ∙ ap (λ b. ended others ++ b) (append_assoc line (10 ∷ []) after))

alone : (line : List ℕ) → IsOther line → All IsOther (line ∷ [])
alone line h zero d lt = h
alone line h (suc k) d lt = absurd (omega (arith, lt))

-- one more line that is not that of the cut
pub walked_further : (text rest line after : List ℕ) → IsLine line → (IsCutLine line → ⊥) → rest ≡ line ++ 10 ∷ after → Walked text rest → Walked text after
walked_further text rest line after l n e (others, all, whole) =
    let other : IsOther line = record { line_itself = l; no_cut = λ h. n (inl h); no_cut_either = λ h. n (inr h) } in
    (others ++ line ∷ [], All-append IsOther others (line ∷ []) all (alone line other), whole ∙ ap (λ b. ended others ++ b) e ∙ ended_more others line after)

pub cut_here : (text rest line after : List ℕ) → IsCutLine line → rest ≡ line ++ 10 ∷ after → Walked text rest → IsCut text (take (length text - length rest) text) after
cut_here text rest line after h e (others, all, whole) =
    at_line others line all h (whole ∙ ap (λ b. ended others ++ b) e) (front_is text (ended others) rest whole)

pub cut_at_end : (text rest : List ℕ) → rest ≡ codes "---" → Walked text rest → IsCut text (take (length text - length rest) text) []
cut_at_end text rest e (others, all, whole) = at_last_line others all (whole ∙ ap (λ b. ended others ++ b) e) (front_is text (ended others) rest whole) refl

pub uncut : (text rest : List ℕ) → IsLine rest → rest ≢ codes "---" → Walked text rest → IsCut text text []
uncut text rest l n (others, all, whole) = nowhere others rest all l n whole refl refl
