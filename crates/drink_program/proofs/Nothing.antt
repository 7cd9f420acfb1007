-- Reads of nothing.
use Rattle.std.proofs.Common.{◌≡◌, ℕ, zero, suc, List, [], ◌∷◌, length, Option, None, Some, take, sym, arith}
use Rattle.std.specs.Io.KnownBytes.{Consumes, Keeps}

pub keeps : (old new : Option (List ℕ)) (n : ℕ) (bytes : List ℕ) → length bytes ≡ 0 → Consumes old new (take n bytes) → Keeps old new
keeps None new n bytes none h = tt
keeps (Some xs) None n bytes none h = absurd h
keeps (Some xs) (Some ys) n (b ∷ bytes) none h = absurd (omega (arith, none))
keeps (Some xs) (Some ys) zero [] none h = sym h
keeps (Some xs) (Some ys) (suc n) [] none h = sym h
