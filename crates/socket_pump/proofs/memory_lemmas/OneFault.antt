-- What a wire tells that fails once.
use Rattle.std.proofs.Common.{◌≡◌, ℕ, ◌-◌, Bool, true, false, cond, List, Option, None, Some, Result, Ok, Err, refl, sym, ap, subst, ◌∙◌}
use Rattle.socket_pump.specs.Wires.{Account, risen, Hands, Accepts}
use Rattle.socket_pump.specs.memory.OneFault.{is_due, after_call, with_fault}

-- ---- a call that is passed on

-- the failure that is told beside
hands_beside : {E : Type 0} (tells : Bool) (a b : Account) (r : Result (Option ℕ) E) (buffer : List ℕ) → Hands tells a r buffer b → Hands tells (with_fault None a) r buffer (with_fault None b)
hands_beside tells a b (Ok (Some n)) buffer h = (ap risen h.0, λ t. ap (with_fault None) (h.1 t))
hands_beside tells a b (Ok None) buffer h = (ap risen h.0, λ t. ap (with_fault None) (h.1 t))
hands_beside tells a b (Err e) buffer h = (ap risen h.0, λ t. ap (λ (x : Account). record x { failures = risen b.failures }) (h.1 t))

accepts_beside : {E : Type 0} (tells : Bool) (a b : Account) (to : ℕ) (bytes : List ℕ) (r : Result (Unit {0}) E) → Accepts tells a to bytes r b → Accepts tells (with_fault None a) to bytes r (with_fault None b)
accepts_beside tells a b to bytes (Ok u) h = (ap risen h.0, λ t. ap (with_fault None) (h.1 t))
accepts_beside tells a b to bytes (Err e) h = (ap risen h.0, λ t. ap (λ (x : Account). record x { failures = risen b.failures }) (h.1 t))

hands_on : {E : Type 0} (tells : Bool) (left : Option ℕ) (a b : Account) (r : Result (Option ℕ) E) (buffer : List ℕ) → is_due left ≡ false → Hands tells a r buffer b → Hands tells (with_fault left a) r buffer (with_fault (after_call left) b)
hands_on tells None a b r buffer passes h = hands_beside tells a b r buffer h
hands_on tells (Some n) a b r buffer passes h = subst (λ (k : Bool). Hands tells a r buffer (with_fault (cond k None (Some (n - 1))) b)) (sym passes) h

accepts_on : {E : Type 0} (tells : Bool) (left : Option ℕ) (a b : Account) (to : ℕ) (bytes : List ℕ) (r : Result (Unit {0}) E) → is_due left ≡ false → Accepts tells a to bytes r b → Accepts tells (with_fault left a) to bytes r (with_fault (after_call left) b)
accepts_on tells None a b to bytes r passes h = accepts_beside tells a b to bytes r h
accepts_on tells (Some n) a b to bytes r passes h = subst (λ (k : Bool). Accepts tells a to bytes r (with_fault (cond k None (Some (n - 1))) b)) (sym passes) h

-- as the code has it: whether the call fails, and how many are passed on then
pub passed_hands : {E : Type 0} (tells fails : Bool) (left next : Option ℕ) (a b : Account) (r : Result (Option ℕ) E) (buffer : List ℕ) → fails ≡ is_due left → fails ≡ false → next ≡ after_call left → Hands tells a r buffer b →
    Hands tells (with_fault left a) r buffer (with_fault next b)
passed_hands tells fails left next a b r buffer due goes is h = subst (λ (o : Option ℕ). Hands tells (with_fault left a) r buffer (with_fault o b)) (sym is) (hands_on tells left a b r buffer (sym due ∙ goes) h)

pub passed_accepts : {E : Type 0} (tells fails : Bool) (left next : Option ℕ) (a b : Account) (to : ℕ) (bytes : List ℕ) (r : Result (Unit {0}) E) → fails ≡ is_due left → fails ≡ false → next ≡ after_call left → Accepts tells a to bytes r b →
    Accepts tells (with_fault left a) to bytes r (with_fault next b)
passed_accepts tells fails left next a b to bytes r due goes is h = subst (λ (o : Option ℕ). Accepts tells (with_fault left a) to bytes r (with_fault o b)) (sym is) (accepts_on tells left a b to bytes r (sym due ∙ goes) h)

-- ---- the call that fails

-- one failure more is told, and nothing else changes
abbrev pub FailsAlone : Bool → Account → Account → Type 0
FailsAlone tells a b = (b.failures ≡ risen a.failures) × (tells ≡ true → b ≡ record a { failures = b.failures })

failed_there : (tells : Bool) (left : Option ℕ) (a : Account) → is_due left ≡ true → FailsAlone tells (with_fault left a) (with_fault (after_call left) a)
failed_there tells None a due = absurd cc
failed_there tells (Some n) a due = subst (λ (k : Bool). FailsAlone tells a (with_fault (cond k None (Some (n - 1))) a)) (sym due) (refl, λ t. refl)

pub failed_alone : (tells fails : Bool) (left next : Option ℕ) (a : Account) → fails ≡ is_due left → fails ≡ true → next ≡ after_call left → FailsAlone tells (with_fault left a) (with_fault next a)
failed_alone tells fails left next a due ends is = subst (λ (o : Option ℕ). FailsAlone tells (with_fault left a) (with_fault o a)) (sym is) (failed_there tells left a (sym due ∙ ends))
