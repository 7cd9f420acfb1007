-- Rounds that a loop made so far, and what one more makes of them.
use Rattle.std.proofs.Common.{◌≡◌, ℕ, ◌+◌, ◌<◌, Bool, cond, List, [], ◌∷◌, ◌++◌, refl, inl, inr, sym, ap, subst, ◌∙◌}
use Rattle.std.proofs.lemmas.List.Sums.{sum_by-append}
use Rattle.session_meaning.specs.ProgramValue.{ProgramValue}
use Rattle.locked_office.specs.Calls.{Key, DeskPass}
use Rattle.socket_pump.specs.Wires.{Account}
use Rattle.socket_pump.specs.Turns.{Times}
use Rattle.office_stations.specs.declared.fault.RunFault.{RunFault}
use Rattle.office_stations.specs.declared.pace.TimedTurn.{TimedTurn}
use Rattle.office_stations.specs.declared.turning.Turning.{Turning}
use Rattle.office_stations.specs.Rounds.{Standing, Fills, StopsFilling, Turns, BreaksOff, counts, counted, IsLastBegun, Round, Rounds, EndsEarly}
use Rattle.office_stations.specs.refinement.Standings.{standing}

-- calls of a pass that has its tag still
fills_still : (tag t : ℕ) (k : Key) (p q : DeskPass) (ss left : List ProgramValue) → t ≡ tag → Fills t k p q ss left → Fills tag k p q ss left
fills_still tag t k p q ss left same h = subst (λ (x : ℕ). Fills x k p q ss left) same h

rounds_append : (how : Turning) (tells : Bool) (tag : ℕ) (k : Key) (ts : List TimedTurn) (t : TimedTurn) (a m b : Standing) (ss mid left : List ProgramValue) → Rounds how tells tag k ts a m ss mid → Round how tells tag k t m b mid left → Rounds how tells tag k (ts ++ t ∷ []) a b ss left
rounds_append how tells tag k [] t a m b ss mid left (same, sessions) round =
    (b, left, subst (λ (x : Standing). Round how tells tag k t x b ss left) (sym same) (subst (λ x. Round how tells tag k t m b x left) (sym sessions) round), (refl, refl))
rounds_append how tells tag k (u ∷ ts) t a m b ss mid left (n, next, first, others) round = (n, next, first, rounds_append how tells tag k ts t n m b next mid left others round)

counted_append : (turns : ℕ) (ts : List TimedTurn) (t : TimedTurn) → counted turns (ts ++ t ∷ []) ≡ counted turns ts + counted turns (t ∷ [])
counted_append turns ts t = sum_by-append (λ u. cond (counts turns u) 1 0) ts (t ∷ [])

-- rounds that were made, of which n count
pub record Made (how : Turning) (tells : Bool) (tag : ℕ) (k : Key) (turns n : ℕ) (a b : Standing) (sessions left : List ProgramValue) : Type 0 where
  pub made : List TimedTurn
  pub number : counted turns made ≡ n
  pub begun : IsLastBegun turns made
  pub rounds : Rounds how tells tag k made a b sessions left

pub none_made : (how : Turning) (tells : Bool) (tag : ℕ) (k : Key) (turns : ℕ) (a : Standing) (ss : List ProgramValue) → Made how tells tag k turns 0 a a ss ss
none_made how tells tag k turns a ss = record { made = []; number = refl; begun = inl refl; rounds = (refl, refl) }

pub one_round : (how : Turning) (tells : Bool) (tag t u : ℕ) (k : Key) (turns n c : ℕ) (d : TimedTurn) (a : Standing) (p q r : DeskPass) (w b : Account) (l m : Times) (ss mid left : List ProgramValue) → t ≡ tag → u ≡ tag → n < turns → c ≡ counted turns (d ∷ []) →
    Made how tells tag k turns n a (standing p w l) ss mid → Fills t k p q mid left → Turns how tells u k d (standing q w l) (standing r b m) → Made how tells tag k turns (n + c) a (standing r b m) ss left
one_round how tells tag t u k turns n c d a p q r w b l m ss mid left same still few count so_far fills turns_once = record {
  made = so_far.made ++ d ∷ [];
  number = counted_append turns so_far.made d ∙ ap (λ x. x + counted turns (d ∷ [])) so_far.number ∙ ap (λ x. n + x) (sym count);
  begun = inr (so_far.made, d, refl, subst (λ (x : ℕ). x < turns) (sym so_far.number) few);
  rounds = rounds_append how tells tag k so_far.made d a (standing p w l) (standing r b m) ss mid left so_far.rounds
      (record { filled = q; fills = fills_still tag t k p q mid left same fills; turns = subst (λ (x : ℕ). Turns how tells x k d (standing q w l) (standing r b m)) still turns_once });
}

-- it ends at its sessions
pub ends_at_sessions : (how : Turning) (tells : Bool) (tag t : ℕ) (k : Key) (n turns : ℕ) (a : Standing) (p q : DeskPass) (w : Account) (l : Times) (ss mid : List ProgramValue) (fault : RunFault) → n < turns → t ≡ tag → Made how tells tag k turns n a (standing p w l) ss mid →
    StopsFilling t k p q mid fault → EndsEarly how tells tag k turns a (standing q w l) ss fault
ends_at_sessions how tells tag t k n turns a p q w l ss mid fault few same so_far stop = record {
  made = so_far.made;
  few = subst (λ (x : ℕ). x < turns) (sym so_far.number) few;
  at = standing p w l;
  left = mid;
  rounds = so_far.rounds;
  ends = inl (subst (λ (x : ℕ). StopsFilling x k p q mid fault) same stop, refl);
}

-- it ends in its turn
pub ends_in_turn : (how : Turning) (tells : Bool) (tag t u : ℕ) (k : Key) (n turns : ℕ) (a : Standing) (p q : DeskPass) (w : Account) (l : Times) (b : Standing) (ss mid left : List ProgramValue) (fault : RunFault) → n < turns → t ≡ tag → u ≡ tag →
    Made how tells tag k turns n a (standing p w l) ss mid → Fills t k p q mid left → BreaksOff how tells u k (standing q w l) b fault → EndsEarly how tells tag k turns a b ss fault
ends_in_turn how tells tag t u k n turns a p q w l b ss mid left fault few same still so_far fills breaks = record {
  made = so_far.made;
  few = subst (λ (x : ℕ). x < turns) (sym so_far.number) few;
  at = standing p w l;
  left = mid;
  rounds = so_far.rounds;
  ends = inr (q, left, fills_still tag t k p q mid left same fills, subst (λ (x : ℕ). BreaksOff how tells x k (standing q w l) b fault) still breaks);
}
