-- Nothing is remembered at first.
use Rattle.std.proofs.Common.{◌≡◌, ℕ, zero, suc, get_or, replicate, eqb, cond, Bool, true, false, Option, None, refl}
use Rattle.socket_pump.specs.declared.last.LastSend.{LastSend}
use Rattle.socket_pump.specs.Last.{no_slot, read_slot}

empty_slot : (b : Bool) (m : Option LastSend) → cond b m m ≡ m
empty_slot true m = refl
empty_slot false m = refl

pub nothing_yet : (k i n : ℕ) → read_slot (get_or (replicate k no_slot) i no_slot) n ≡ None
nothing_yet zero i n = empty_slot (eqb 0 n) None
nothing_yet (suc k) zero n = empty_slot (eqb 0 n) None
nothing_yet (suc k) (suc i) n = nothing_yet k i n
