-- How a run ends.
use Rattle.std.proofs.Common.{refl, ◌≡◌, ℕ, Bool, List, Option, None, Some, inl, inr, sym, subst, ◌∙◌}
use Rattle.session_meaning.specs.ProgramValue.{ProgramValue}
use Rattle.locked_office.specs.Calls.{Key}
use Rattle.socket_pump.specs.Wires.{Account}
use Rattle.office_stations.specs.Rounds.{Standing}
use Rattle.office_stations.specs.declared.fault.RunFault.TheVariants as run
use Rattle.stored_runs.specs.declared.fault.StoredFault.{StoredFault}
use Rattle.stored_runs.specs.declared.fault.StoredFault.TheVariants.{Run, StoreFailed, WriteFailed}
use Rattle.stored_runs.specs.Runs.{BeforeAll, Goes, IsOfStanding, IsUntold, Unless}
use Rattle.stored_runs.specs.refinement.Running.{IsStill}
use Rattle.stored_runs.proofs.Running.{unless_then}

-- whatever came of it, a fault may be told after it
late_fault : (Is : Account → Type 0) (why : StoredFault) (tells : Bool) (k : Key) (turns : ℕ) (a b : Standing) (ss : List ProgramValue) → IsOfStanding why → Goes Is None tells k turns a b ss → Goes Is (Some why) tells k turns a b ss
late_fault Is why tells k turns a b ss cause (made, count, begun, left, rounds, is) = (made, b, begun, left, rounds, is, why, BeforeAll refl cause, inl refl)

pub of_standing : (why : StoredFault) → IsUntold why → IsOfStanding why
of_standing (WriteFailed cause) h = tt
of_standing (Run why) h = absurd h
of_standing StoreFailed h = absurd h

-- that writing failed may be told after whatever came of it
late_writing : (Is : Account → Type 0) (f : Option StoredFault) (why : StoredFault) (tells : Bool) (k : Key) (turns : ℕ) (a b : Standing) (ss : List ProgramValue) → IsUntold why → Goes Is f tells k turns a b ss → Goes Is (Some why) tells k turns a b ss
late_writing Is None why tells k turns a b ss untold h = late_fault Is why tells k turns a b ss (of_standing why untold) h
late_writing Is (Some f) why tells k turns a b ss untold (made, at, begun, left, rounds, is, first, cut, told) = (made, at, begun, left, rounds, is, first, cut, inr (why, refl, untold))

pub goes_still : (Is : Account → Type 0) (f g : Option StoredFault) (tells : Bool) (k : Key) (turns : ℕ) (a b : Standing) (ss : List ProgramValue) → IsStill f g → Goes Is f tells k turns a b ss → Goes Is g tells k turns a b ss
goes_still Is f g tells k turns a b ss (inl same) h = subst (λ (x : Option StoredFault). Goes Is x tells k turns a b ss) (sym same) h
goes_still Is f g tells k turns a b ss (inr (inl (none, is))) h = subst (λ (x : Option StoredFault). Goes Is x tells k turns a b ss) (sym is) (late_fault Is (Run run.Memory) tells k turns a b ss tt (subst (λ (x : Option StoredFault). Goes Is x tells k turns a b ss) none h))
goes_still Is f g tells k turns a b ss (inr (inr (why, is, untold))) h = subst (λ (x : Option StoredFault). Goes Is x tells k turns a b ss) (sym is) (late_writing Is f why tells k turns a b ss untold h)

-- where no fault is told at the end, none was before
pub none_still : (f g : Option StoredFault) → IsStill f g → g ≡ None → f ≡ None
none_still f g (inl same) none = sym same ∙ none
none_still f g (inr (inl (was, is))) none = was
none_still f g (inr (inr (why, is, untold))) none = absurd (cc (is, none))

unknown : (why : StoredFault) (P : Type 0) → IsUntold why → Unless (Some why) P
unknown (WriteFailed cause) P h = tt
unknown (Run why) P h = absurd h
unknown StoreFailed P h = absurd h

pub unless_end : (f g : Option StoredFault) (P Q R : Type 0) → IsStill f g → (P → Q → R) → Unless f P → Unless g Q → Unless g R
unless_end None g P Q R still then p q = unless_then g Q R (then p) q
unless_end (Some (Run why)) g P Q R still then p q = unless_then g Q R (then p) q
unless_end (Some StoreFailed) g P Q R still then p q = unless_then g Q R (then p) q
unless_end (Some (WriteFailed cause)) g P Q R (inl same) then p q = subst (λ (x : Option StoredFault). Unless x R) (sym same) tt
unless_end (Some (WriteFailed cause)) g P Q R (inr (inl (none, is))) then p q = absurd (cc none)
unless_end (Some (WriteFailed cause)) g P Q R (inr (inr (why, is, untold))) then p q = subst (λ (x : Option StoredFault). Unless x R) (sym is) (unknown why R untold)
