-- The stages of a turn, put together.
use Rattle.std.proofs.Common.{◌≡◌, ℕ, ◌+◌, Bool, List, [], ◌∷◌, ◌++◌, length, Result, refl, sym, subst, ◌∙◌, arith, length-append, inl, inr, ⊎_elim, ◌<◌, true}
use Rattle.office_map.specs.PlanValue.{are_neighbours}
use Rattle.site_core.specs.Growing.{LinksOnlyGrow}
use Rattle.locked_office.specs.declared.advance.Stopped.{Stopped}
use Rattle.locked_office.specs.Advance.{Advances}
use Rattle.locked_office.specs.Calls.{Key, DeskPass, office_with, Does}
use Rattle.locked_office.specs.Sends.{WaitsFor}
use Rattle.socket_pump.specs.declared.last.Backoff.{Backoff}
use Rattle.socket_pump.specs.declared.pump.PumpFault.{PumpFault}
use Rattle.socket_pump.specs.Wires.{Account}
use Rattle.socket_pump.specs.Chains.{Heard, Brought, Made, Sends, Sent, DueOnce}
use Rattle.socket_pump.specs.ChainLaws.{Begins, sends_begins}
use Rattle.socket_pump.specs.Turns.{Times, Told, Remembers, SentTo, GotMessage, CountsGo, CountsBroke, BrokeTelling}
use Rattle.socket_pump.specs.refinement.Counts.{Owed, Owes, Spares, Acknowledges, AcknowledgesOnly}
use Rattle.socket_pump.specs.refinement.Stages.{AreUsed, AreMessages, SpokeToAll, AreCounts}
use Rattle.socket_pump.proofs.Telling.{waits_between, told_both, broke_both, sent_left, sent_right, sent_cases, due_both, remembers_both}

-- ---- counts that follow messages

count_number : (v n : ℕ) (ns : List Made) → AreCounts ns → Sent v n ns → n ≡ 0
count_number v n [] c s = elim s [ ]
count_number v n (m ∷ ms) c (inl e) = sym e.1 ∙ c.0
count_number v n (m ∷ ms) c (inr t) = count_number v n ms c.2 t

-- a count isn't what waits
counts_wait_not : (k : Key) (q : DeskPass) (ns : List Made) → AreCounts ns → (v n : ℕ) → WaitsFor (office_with k q.seen) v n → Sent v n ns → ⊥
counts_wait_not k q ns c v n w s = absurd (omega (arith, w.unknown, count_number v n ns c s))

-- counts are of no message
counts_remember : (how : Backoff) (k : Key) (last : Times) (now : ℕ) (p q : DeskPass) (ns : List Made) → AreCounts ns → Remembers how k last last now p q ns
counts_remember how k last now p q ns c = record { sent = λ v n w s. absurd (counts_wait_not k q ns c v n w s); others = λ v n a b none. refl }

-- nor do they change what is remembered of messages
remembers_past : LinksOnlyGrow → (how : Backoff) (tag : ℕ) (k : Key) (last then : Times) (now : ℕ) (p m q : DeskPass) (ms ns : List Made) → Sends tag k p ms m → Sends tag k m ns q → AreUsed k m ms → AreCounts ns → Remembers how k last then now p m ms → Remembers how k last then now p q (ms ++ ns)
remembers_past grow how tag k last then now p m q ms ns pm mq used c r =
    remembers_both grow how k last then then now p m q ms ns (sends_begins tag k p m ms pm) (sends_begins tag k m q ns mq) used (λ u i w s. absurd (counts_wait_not k q ns c u i w s)) r (counts_remember how k then now m q ns c)

counts_are_due : (how : Backoff) (last : Times) (now : ℕ) (ns : List Made) → AreCounts ns → DueOnce how last now ns
counts_are_due how last now [] c = tt
counts_are_due how last now (m ∷ ms) c = (inl c.0, c.1, counts_are_due how last now ms c.2)

-- no count is a message
due_then_counts : (how : Backoff) (last : Times) (now : ℕ) (ms ns : List Made) → AreMessages ms → DueOnce how last now ms → AreCounts ns → DueOnce how last now (ms ++ ns)
due_then_counts how last now ms ns messages due c = due_both how last now ms ns (λ v n s t. absurd (omega (arith, messages v n s, count_number v n ns c t))) due (counts_are_due how last now ns c)

-- no count but to who brought a message and got none
counts_only : (k : Key) (hs : List Heard) (none s t : List Bool) (ms ns : List Made) → ((v : ℕ) → Owed none v → ⊥) → Owes none hs s → Spares s ms t → AcknowledgesOnly k t ns → AreMessages ms → AreCounts ns →
    ((v : ℕ) → are_neighbours k.0 k.1 v ≡ true → v < 16) → CountsBroke hs (ms ++ ns)
counts_only k hs none s t ms ns nobody owes spares acks messages counts within v x =
    let need = acks v (⊎_elim (λ y. absurd (omega (arith, messages v 0 y))) (λ y. y) (sent_cases v 0 ms ns x)) in
    let owed = (spares v).0 need.0 in (
      ⊎_elim (λ y. absurd (nobody v y)) (λ y. y) ((owes v (within v need.1)).0 owed.0),
      λ got. ⊎_elim (owed.1 got.0) (λ y. absurd (omega (arith, got.1, count_number v got.0 ns counts y))) (sent_cases v got.0 ms ns got.2),
    )

-- and one to each such
counts_go : (k : Key) (hs : List Heard) (none s t : List Bool) (ms ns : List Made) → ((v : ℕ) → Owed none v → ⊥) → Owes none hs s → Spares s ms t → Acknowledges k t ns → AreMessages ms → AreCounts ns →
    ((v : ℕ) → Brought v hs → are_neighbours k.0 k.1 v ≡ true) → ((v : ℕ) → are_neighbours k.0 k.1 v ≡ true → v < 16) → CountsGo hs (ms ++ ns)
counts_go k hs none s t ms ns nobody owes spares acks messages counts near within v = (counts_only k hs none s t ms ns nobody owes spares (λ u. (acks u).0) messages counts within v, from)
  where
    from : Brought v hs × (GotMessage v (ms ++ ns) → ⊥) → Sent v 0 (ms ++ ns)
    from x =
        let close = near v x.0 in
        let owed = (owes v (within v close)).1 (inr x.0) in
        let spared = (spares v).1 (owed, λ n y. x.1 (n, messages v n y, sent_left v n ms ns y)) in
        sent_right v 0 ms ns ((acks v).1 (spared, close))

-- messages to all, and then counts
pub record SpokeAndCounted (how : Backoff) (tells : Bool) (tag : ℕ) (k : Key) (last then : Times) (now : ℕ) (hs : List Heard) (p : DeskPass) (a : Account) (sent : ℕ) (b : Account) (q : DeskPass) : Type 0 where
  pub made : List Made
  pub told : Told tells tag k p a b q made
  pub counted : length made ≡ sent
  pub all_due : (v : ℕ) → SentTo how k last now p q made v
  pub due_once : DueOnce how last now made
  pub counts_go : CountsGo hs made
  pub remembers : Remembers how k last then now p q made

pub counts_after : LinksOnlyGrow → (how : Backoff) (tells : Bool) (tag : ℕ) (k : Key) (last then : Times) (now : ℕ) (hs : List Heard) (none s t : List Bool) (p m q : DeskPass) (a b d : Account) (messages counts : ℕ) (ns : List Made) →
    ((v : ℕ) → Owed none v → ⊥) → Owes none hs s → ((v : ℕ) → Brought v hs → are_neighbours k.0 k.1 v ≡ true) → ((v : ℕ) → are_neighbours k.0 k.1 v ≡ true → v < 16) → SpokeToAll how tells tag k last then now p a s messages b m t →
    Told tells tag k m b d q ns → length ns ≡ counts → AreCounts ns → Acknowledges k t ns → SpokeAndCounted how tells tag k last then now hs p a (messages + counts) d q
counts_after grow how tells tag k last then now hs none s t p m q a b d messages counts ns nobody owes near within (ms, spoke, all, spares) told number are acks =
    let pm : Begins p m = sends_begins tag k p m ms spoke.told.sends in
    let mq : Begins m q = sends_begins tag k m q ns told.sends in
    record {
      made = ms ++ ns;
      told = told_both tells tag k p m q a b d ms ns spoke.told told;
      counted = omega (arith, length-append ms ns, spoke.count, number);
      all_due = λ v n x y due. sent_left v n ms ns (all v n x (waits_between grow k p m q v n pm mq x y) due);
      due_once = due_then_counts how last now ms ns spoke.messages spoke.due_once are;
      counts_go = counts_go k hs none s t ms ns nobody owes spares acks spoke.messages are near within;
      remembers = remembers_past grow how tag k last then now p m q ms ns spoke.told.sends told.sends spoke.used are spoke.remembers;
    }

-- messages to all, and then a fault among the counts
pub record SpokeAndBroke (how : Backoff) (tells : Bool) (tag : ℕ) (k : Key) (last then : Times) (now : ℕ) (hs : List Heard) (p : DeskPass) (a : Account) (f : PumpFault) (b : Account) (q : DeskPass) : Type 0 where
  pub made : List Made
  pub told : BrokeTelling tells tag k p a f b q made
  pub due_once : DueOnce how last now made
  pub counts_broke : CountsBroke hs made
  pub remembers : Remembers how k last then now p q made

pub fault_after : LinksOnlyGrow → (how : Backoff) (tells : Bool) (tag : ℕ) (k : Key) (last then : Times) (now : ℕ) (hs : List Heard) (none s t : List Bool) (p m q : DeskPass) (a b d : Account) (messages : ℕ) (f : PumpFault) (ns : List Made) →
    ((v : ℕ) → Owed none v → ⊥) → Owes none hs s → ((v : ℕ) → are_neighbours k.0 k.1 v ≡ true → v < 16) → SpokeToAll how tells tag k last then now p a s messages b m t →
    BrokeTelling tells tag k m b f d q ns → AreCounts ns → AcknowledgesOnly k t ns → SpokeAndBroke how tells tag k last then now hs p a f d q
fault_after grow how tells tag k last then now hs none s t p m q a b d messages f ns nobody owes within (ms, spoke, all, spares) broke are acks = record {
  made = ms ++ ns;
  told = broke_both tells tag k p m q a b d f ms ns spoke.told broke;
  due_once = due_then_counts how last now ms ns spoke.messages spoke.due_once are;
  counts_broke = counts_only k hs none s t ms ns nobody owes spares acks spoke.messages are within;
  remembers = remembers_past grow how tag k last then now p m q ms ns spoke.told.sends broke.sends spoke.used are spoke.remembers;
}

-- ---- one tag

abbrev pub Rules : ℕ → Key → Result ℕ Stopped → DeskPass → DeskPass → Type 0
Rules tag k result p q = Does (λ s s'. Advances tag 64 result s s') k p q

pub rules_with : (tag tag' : ℕ) (k : Key) (result : Result ℕ Stopped) (p q : DeskPass) → tag ≡ tag' → Rules tag k result p q → Rules tag' k result p q
rules_with tag tag' k result p q e r = subst (λ (t : ℕ). Rules t k result p q) e r

pub spoke_with : (how : Backoff) (tells : Bool) (tag tag' : ℕ) (k : Key) (last then : Times) (now : ℕ) (p : DeskPass) (a : Account) (s : List Bool) (sent : ℕ) (b : Account) (q : DeskPass) (t : List Bool) → tag ≡ tag' → SpokeToAll how tells tag k last then now p a s sent b q t →
    SpokeToAll how tells tag' k last then now p a s sent b q t
spoke_with how tells tag tag' k last then now p a s sent b q t e spoke = subst (λ (i : ℕ). SpokeToAll how tells i k last then now p a s sent b q t) e spoke
