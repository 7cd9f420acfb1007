-- Values as eight bytes: two's complement, the highest byte first.
use Rattle.std.specs.Prelude.{ℕ, ℤ, pos, negsuc, List, suc, ◌-◌, ◌^◌}
use Rattle.std.specs.Int.{w64, to_be_bytes}

-- the natural number that stands for z: z itself, or 2 ^ 64 more where z is negative
abbrev pub twos_complement : ℤ → ℕ
twos_complement (pos n) = n
twos_complement (negsuc n) = 2 ^ 64 - suc n

-- the eight bytes of z, the highest first
abbrev pub bytes_of : ℤ → List ℕ
bytes_of z = to_be_bytes w64 (twos_complement z)
