-- The code and the name of a rule's refusal.
use Rattle.std.specs.Prelude.{ℕ, List, codes}

-- the code and the name of a rule's refusal
abbrev pub not_now_text : List ℕ
not_now_text = codes "O1 NotNow"
