-- Sessions that an office takes one after the other, and its rounds.
use Rattle.std.proofs.Common.{◌≡◌, ℕ, suc, ◌==◌, ◌+◌, ◌<◌, Bool, true, false, cond, List, [], ◌∷◌, ◌++◌, length, get_or, drop, Ok, Err, inl, inr, refl, sym, ap, subst, ◌∙◌, append_assoc, arith}
use Rattle.std.proofs.Math.Seq.{drop-cons}
use Rattle.session_meaning.specs.ProgramValue.{ProgramValue}
use Rattle.office_journal.specs.declared.reply.Refusal.TheVariants as refusal
use Rattle.locked_office.specs.Calls.{Key, DeskPass, Looks}
use Rattle.socket_pump.specs.declared.pump.PumpFault.{PumpFault}
use Rattle.socket_pump.specs.Wires.{Account}
use Rattle.socket_pump.specs.Turns.{Times}
use Rattle.office_stations.specs.declared.fault.RunFault.{RunFault}
use Rattle.office_stations.specs.declared.fault.RunFault.TheVariants.{WireFailed}
use Rattle.office_stations.specs.declared.pace.TimedTurn.{TimedTurn}
use Rattle.office_stations.specs.declared.turning.Turning.{Turning}
use Rattle.office_stations.specs.Rounds.{of_office, run_fault, Takes, TakesAll, Refuses, Lacks, Fills, StopsFilling, TurnedBy, StageBy, Turns, BreaksOff}
use Rattle.socket_pump.specs.sockets.Waits.{failed}
use Rattle.office_stations.specs.refinement.Standings.{standing, Answered, PassedOver}

-- ---- sessions that are taken

takes_append : (tag : ℕ) (k : Key) (xs : List ProgramValue) (s : ProgramValue) (p m q : DeskPass) → TakesAll tag k xs p m → Takes tag k s m q → TakesAll tag k (xs ++ s ∷ []) p q
takes_append tag k [] s p m q same t = (q, subst (λ (x : DeskPass). Takes tag k s x q) (sym same) t, refl)
takes_append tag k (x ∷ xs) s p m q (n, t, ts) u = (n, t, takes_append tag k xs s n m q ts u)

-- the first of these sessions were taken, and of the others nothing was done yet
pub record Given (tag : ℕ) (k : Key) (p q : DeskPass) (sessions left : List ProgramValue) : Type 0 where
  pub given : List ProgramValue
  pub are : given ++ left ≡ sessions
  pub takes : TakesAll tag k given p q

one_given : (tag : ℕ) (k : Key) (p m q : DeskPass) (ss : List ProgramValue) (s : ProgramValue) (left : List ProgramValue) → Given tag k p m ss (s ∷ left) → Takes tag k s m q → Given tag k p q ss left
one_given tag k p m q ss s left g t = record {
  given = g.given ++ s ∷ [];
  are = append_assoc g.given (s ∷ []) left ∙ g.are;
  takes = takes_append tag k g.given s p m q g.takes t;
}

full : (tag : ℕ) (k : Key) (p m q : DeskPass) (ss : List ProgramValue) (s : ProgramValue) (left : List ProgramValue) → Given tag k p m ss (s ∷ left) → Refuses tag k s refusal.QueueFull m q → Fills tag k p q ss (s ∷ left)
full tag k p m q ss s left g r = record { given = g.given; are = g.are; mid = m; takes = g.takes; full = r }

stops : (tag : ℕ) (k : Key) (p m q : DeskPass) (ss : List ProgramValue) (s : ProgramValue) (left : List ProgramValue) (f : RunFault) → Given tag k p m ss (s ∷ left) → Lacks tag k s f m q → StopsFilling tag k p q ss f
stops tag k p m q ss s left f g l = record { given = g.given; next = s; left = left; are = g.are; mid = m; takes = g.takes; lacks = l }

-- ---- sessions of a list, from a place on

either_way : {X : Type 0} (b : Bool) → (b ≡ true → X) → (b ≡ false → X) → X
either_way true f g = f refl
either_way false f g = g refl

own_next : (me n : ℕ) (ps : List ProgramValue) (s : ProgramValue) → n < length ps → s ≡ get_or ps n s → of_office me (drop n ps) ≡ cond (s.office == me) (s ∷ of_office me (drop (n + 1) ps)) (of_office me (drop (n + 1) ps))
own_next me n ps s within is =
    let next : suc n ≡ n + 1 = omega arith in
    ap (of_office me) (drop-cons ps n s within) ∙ ap (λ x. of_office me (x ∷ drop (suc n) ps)) (sym is) ∙ ap (λ m. cond (s.office == me) (s ∷ of_office me (drop m ps)) (of_office me (drop m ps))) next

own_first : (me n : ℕ) (ps : List ProgramValue) (s : ProgramValue) → n < length ps → s ≡ get_or ps n s → (s.office == me) ≡ true → of_office me (drop n ps) ≡ s ∷ of_office me (drop (n + 1) ps)
own_first me n ps s within is own = own_next me n ps s within is ∙ ap (λ b. cond b (s ∷ of_office me (drop (n + 1) ps)) (of_office me (drop (n + 1) ps))) own

others_first : (me n : ℕ) (ps : List ProgramValue) (s : ProgramValue) → n < length ps → s ≡ get_or ps n s → (s.office == me) ≡ false → of_office me (drop n ps) ≡ of_office me (drop (n + 1) ps)
others_first me n ps s within is other = own_next me n ps s within is ∙ ap (λ b. cond b (s ∷ of_office me (drop (n + 1) ps)) (of_office me (drop (n + 1) ps))) other

-- it was taken, or is another office's
pub one_gone : (tag t : ℕ) (k : Key) (p m q : DeskPass) (ss : List ProgramValue) (me n : ℕ) (ps : List ProgramValue) (s : ProgramValue) (b : Bool) → b ≡ true → t ≡ tag → n < length ps → s ≡ get_or ps n s → Given tag k p m ss (of_office me (drop n ps)) →
    ((s.office == me) ≡ true → Answered t k s (Ok b) m q) → ((s.office == me) ≡ false → PassedOver (Ok b) m q) → Given tag k p q ss (of_office me (drop (n + 1) ps))
one_gone tag t k p m q ss me n ps s b yes' same within is g own other = either_way (s.office == me)
    (λ h. one_given tag k p m q ss s (of_office me (drop (n + 1) ps)) (subst (λ x. Given tag k p m ss x) (own_first me n ps s within is h) g) (subst (λ (x : ℕ). Takes x k s m q) same (subst (λ (x : Bool). Answered t k s (Ok x) m q) yes' (own h))))
    (λ h. subst (λ (x : DeskPass). Given tag k p x ss (of_office me (drop (n + 1) ps))) (sym (subst (λ (x : Bool). PassedOver (Ok x) m q) yes' (other h))) (subst (λ x. Given tag k p m ss x) (others_first me n ps s within is h) g))

-- the queue is full
pub one_waits : (tag t : ℕ) (k : Key) (p m q : DeskPass) (ss : List ProgramValue) (me n : ℕ) (ps : List ProgramValue) (s : ProgramValue) (b : Bool) → b ≡ false → t ≡ tag → n < length ps → s ≡ get_or ps n s → Given tag k p m ss (of_office me (drop n ps)) →
    ((s.office == me) ≡ true → Answered t k s (Ok b) m q) → ((s.office == me) ≡ false → PassedOver (Ok b) m q) → Fills tag k p q ss (of_office me (drop n ps))
one_waits tag t k p m q ss me n ps s b no' same within is g own other = either_way (s.office == me)
    (λ h. subst (λ x. Fills tag k p q ss x) (sym (own_first me n ps s within is h))
    (full tag k p m q ss s (of_office me (drop (n + 1) ps)) (subst (λ x. Given tag k p m ss x) (own_first me n ps s within is h) g) (subst (λ (x : ℕ). Refuses x k s refusal.QueueFull m q) same (subst (λ (x : Bool). Answered t k s (Ok x) m q) no' (own h)))))
    (λ h. absurd (subst (λ (x : Bool). PassedOver (Ok x) m q) no' (other h)))

-- there is no room for it
pub one_lacks : (tag t : ℕ) (k : Key) (p m q : DeskPass) (ss : List ProgramValue) (me n : ℕ) (ps : List ProgramValue) (s : ProgramValue) (f : RunFault) → t ≡ tag → n < length ps → s ≡ get_or ps n s → Given tag k p m ss (of_office me (drop n ps)) →
    ((s.office == me) ≡ true → Answered t k s (Err f) m q) → ((s.office == me) ≡ false → PassedOver (Err f) m q) → StopsFilling tag k p q ss f
one_lacks tag t k p m q ss me n ps s f same within is g own other = either_way (s.office == me)
    (λ h. stops tag k p m q ss s (of_office me (drop (n + 1) ps)) f (subst (λ x. Given tag k p m ss x) (own_first me n ps s within is h) g) (subst (λ (x : ℕ). Lacks x k s f m q) same (own h)))
    (λ h. absurd (other h))

-- ---- turns

-- a turn, whose socket tells what it told before the wait
pub turned : (how : Turning) (tells : Bool) (tag : ℕ) (k : Key) (p q : DeskPass) (a polled b : Account) (l m : Times) (t : TimedTurn) → polled ≡ a → TurnedBy how tells tag k l t.at p polled t.turn b q m → Turns how tells tag k t (standing p a l) (standing q b m)
turned how tells tag k p q a polled b l m t same h = record { after = q; turned = subst (λ (x : Account). TurnedBy how tells tag k l t.at p x t.turn b q m) same h; looked = inl refl }

-- a turn, and then a look
pub turned_and_looked : (how : Turning) (tells : Bool) (tag : ℕ) (k : Key) (p q r : DeskPass) (a polled b : Account) (l m : Times) (t : TimedTurn) → polled ≡ a → TurnedBy how tells tag k l t.at p polled t.turn b q m → Looks k q r → Turns how tells tag k t (standing p a l) (standing r b m)
turned_and_looked how tells tag k p q r a polled b l m t same h looks = record { after = q; turned = subst (λ (x : Account). TurnedBy how tells tag k l t.at p x t.turn b q m) same h; looked = inr looks }

-- no turn was begun
pub not_begun : (how : Turning) (tells : Bool) (tag : ℕ) (k : Key) (p : DeskPass) (a polled : Account) (l : Times) → polled ≡ failed a → BreaksOff how tells tag k (standing p a l) (standing p polled l) WireFailed
not_begun how tells tag k p a polled l counted_so = inl (ap (λ (x : Account). standing p x l) counted_so, refl)

-- a turn broke off
pub broken_off : (how : Turning) (tells : Bool) (tag : ℕ) (k : Key) (p q : DeskPass) (a polled b : Account) (l m : Times) (now : ℕ) (f : PumpFault) (fault : RunFault) → polled ≡ a → fault ≡ run_fault f → StageBy how tells tag k l now p polled f b q m →
    BreaksOff how tells tag k (standing p a l) (standing q b m) fault
broken_off how tells tag k p q a polled b l m now f fault same told h = inr (now, f, subst (λ (x : Account). StageBy how tells tag k l now p x f b q m) same h, told)
