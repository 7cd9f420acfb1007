-- One input that stands for two texts: it is cut at its first line that is exactly ---.
use Rattle.std.specs.Prelude.{◌≡◌, ◌≢◌, ◌⊎◌, ℕ, List, [], ◌∷◌, ◌++◌, All, codes}
use Rattle.std.specs.List.{flat_map}

-- a line's bytes, without its end
abbrev pub IsLine : List ℕ → Type 0
IsLine = All (λ b. b ≢ 10)

-- the line of the cut, where an LF follows: a CR before the LF is no part of it
abbrev pub IsCutLine : List ℕ → Type 0
IsCutLine line = (line ≡ codes "---") ⊎ (line ≡ codes "---" ++ 13 ∷ [])

-- a line that is followed by an LF, and is not the line of the cut
pub record IsOther (line : List ℕ) : Type 0 where
  pub line_itself : IsLine line
  pub no_cut : line ≢ codes "---"
  pub no_cut_either : line ≢ codes "---" ++ 13 ∷ []

-- lines, each with its LF
abbrev pub ended : List (List ℕ) → List ℕ
ended = flat_map (λ line. line ++ 10 ∷ [])

-- A text is cut at its first line that is exactly ---: the text before that line, and the text after it. Where no line
-- is that of the cut, all stands before it.
pub data IsCut (text front back : List ℕ) : Type 0 where
  at_line : (others : List (List ℕ)) (line : List ℕ) → All IsOther others → IsCutLine line
      → text ≡ ended others ++ (line ++ 10 ∷ back) → front ≡ ended others → IsCut text front back
  at_last_line : (others : List (List ℕ)) → All IsOther others → text ≡ ended others ++ codes "---" → front ≡ ended others → back ≡ []
      → IsCut text front back
  nowhere : (others : List (List ℕ)) (last : List ℕ) → All IsOther others → IsLine last → last ≢ codes "---"
      → text ≡ ended others ++ last → front ≡ text → back ≡ [] → IsCut text front back
