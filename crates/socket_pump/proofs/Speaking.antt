-- All messages to one neighbour, and all to all.
use Rattle.std.proofs.Common.{◌≡◌, ℕ, ◌+◌, ◌<◌, ◌≤◌, Bool, true, false, cond, List, [], ◌++◌, length, Result, Ok, Err, refl, sym, ap, subst, ◌∙◌, arith, ⊎_elim}
use Rattle.std.specs.Prelude.{◌%◌}
use Rattle.std.proofs.lemmas.Bool.{cases_eq}
use Rattle.office_map.specs.PlanValue.{are_neighbours}
use Rattle.window_link.specs.Windows.{used}
use Rattle.office_journal.specs.declared.reply.Refusal.{Refusal}
use Rattle.office_journal.specs.declared.reply.Refusal.TheVariants.{NotNow}
use Rattle.site_core.specs.Journals.{Site}
use Rattle.site_core.specs.Readers.{waiting_on}
use Rattle.site_core.specs.Growing.{link_at, LinksOnlyGrow}
use Rattle.locked_office.specs.Calls.{Key, DeskPass, office_with, Looks}
use Rattle.locked_office.specs.Outcomes.{waiting_for}
use Rattle.locked_office.specs.Sends.{WaitsFor, SomeWaits}
use Rattle.socket_pump.specs.declared.last.Backoff.{Backoff}
use Rattle.socket_pump.specs.declared.pump.PumpFault.{PumpFault}
use Rattle.socket_pump.specs.Wires.{Account}
use Rattle.socket_pump.specs.Last.{IsDue}
use Rattle.socket_pump.specs.Chains.{Made, Sees, Sent}
use Rattle.socket_pump.specs.ChainLaws.{sees_begins, sends_begins}
use Rattle.socket_pump.specs.Turns.{Times, SentTo}
use Rattle.socket_pump.specs.refinement.Stages.{AreFor, Spoke, SpokeOf, SpokeTo, SpokeToAll, BrokenOf, BrokenTo, BrokenToAll}
use Rattle.socket_pump.specs.refinement.Counts.{Spares, Gets}
use Rattle.socket_pump.proofs.Owing.{spares_none, spares_both}
use Rattle.socket_pump.proofs.Telling.{grows_on, waits_between, unchanged, sent_left, sent_right, sent_cases, AreSame, spoke_both, spoke_none, broke_on}

-- ---- what waits for a neighbour

pub looked : (k : Key) (p q : DeskPass) → p.holds ≡ false → Looks k p q → Sees p q
looked k p q idle d = unchanged (λ s s'. s' ≡ s) k p q d idle (ap (λ (s : Site). s.entries) d.1.done)

-- no neighbour: nothing waits for it
pub none_near : (s : Site) (v n : ℕ) (why : Refusal) → Err why ≡ waiting_for s v → WaitsFor s v n → ⊥
none_near s v n why e w = let f : Err why ≡ Ok (waiting_on (link_at s.plan s.me s.entries v)) = e ∙ ap (λ b. cond {A = Result (ℕ × ℕ) Refusal} b (Ok (waiting_on (link_at s.plan s.me s.entries v))) (Err NotNow)) w.near in absurd cc

-- the numbers of those that wait
pub record Waiting (k : Key) (q : DeskPass) (v first count : ℕ) : Type 0 where
  pub acked : (link_at k.0 k.1 q.seen v).sending.acked + 1 ≡ first
  pub last : first + count ≡ used (link_at k.0 k.1 q.seen v).sending + 1

pub waiting_are : (k : Key) (q : DeskPass) (v first count : ℕ) → Ok (first, count) ≡ waiting_for (office_with k q.seen) v → Waiting k q v first count
waiting_are k q v first count e = go (are_neighbours k.0 k.1 v) refl e
  where
    go : (b : Bool) → are_neighbours k.0 k.1 v ≡ b → Ok (first, count) ≡ cond {A = Result (ℕ × ℕ) Refusal} b (Ok (waiting_on (link_at k.0 k.1 q.seen v))) (Err NotNow) → Waiting k q v first count
    go true h e =
        let pair : (first, count) ≡ waiting_on (link_at k.0 k.1 q.seen v) = cc in
        let a : first ≡ (link_at k.0 k.1 q.seen v).sending.acked + 1 = ap (λ (x : ℕ × ℕ). x.0) pair in
        let b : count ≡ length (link_at k.0 k.1 q.seen v).sending.waiting = ap (λ (x : ℕ × ℕ). x.1) pair in
        record { acked = sym a; last = omega (arith, a, b) }
    go false h e = absurd cc

-- ---- to one neighbour

-- so far, up to a number: what was told, that the messages before it are told, and that nothing is known of those from it on but what was
pub record SpokeSoFar (how : Backoff) (tells : Bool) (tag : ℕ) (k : Key) (last then : Times) (now : ℕ) (p : DeskPass) (a : Account) (sent : ℕ) (b : Account) (q : DeskPass) (v first end number : ℕ) : Type 0 where
  pub made : List Made
  pub spoke : Spoke how tells tag k last then now p a sent b q made
  pub for : AreFor v made
  pub before : (u i : ℕ) → Sent u i made → i < number
  pub others : (u i : ℕ) → (u ≡ v → ⊥) → then u i ≡ last u i
  pub ahead : (i : ℕ) → number ≤ i → i < first + 18 → then v i ≡ last v i
  pub done : (i : ℕ) → i < number → WaitsFor (office_with k p.seen) v i → WaitsFor (office_with k q.seen) v i → IsDue how (last v i) now → Sent v i made
  pub reach : (i : ℕ) → WaitsFor (office_with k p.seen) v i → i < end
  pub few : sent + first ≤ number

pub speaking_starts : LinksOnlyGrow → (how : Backoff) (tells : Bool) (tag : ℕ) (k : Key) (last : Times) (now : ℕ) (p q : DeskPass) (a : Account) (v first count : ℕ) → p.holds ≡ false → Looks k p q → Waiting k q v first count →
    SpokeSoFar how tells tag k last last now p a 0 a q v first (first + count) first
speaking_starts grow how tells tag k last now p q a v first count idle d w = record {
  made = [];
  spoke = spoke_none how tells tag k last now p q a sees;
  for = λ u i s. elim s [ ];
  before = λ u i s. elim s [ ];
  others = λ u i ne. refl;
  ahead = λ i from to. refl;
  done = λ i lt x y due. absurd (omega (arith, lt, y.unknown, w.acked));
  reach = λ i x. let g = grows_on grow k p q v (sees_begins p q sees) in omega (arith, x.sent, g.used, w.last);
  few = omega arith;
}
  where
    sees : Sees p q
    sees = looked k p q idle d

pub speaking_on : LinksOnlyGrow → (how : Backoff) (tells : Bool) (tag : ℕ) (k : Key) (last mid then : Times) (now : ℕ) (p m q : DeskPass) (a b d : Account) (sent more v first end number : ℕ) → number < first + 18 → more ≤ 1 →
    SpokeSoFar how tells tag k last mid now p a sent b m v first end number → SpokeOf how tells tag k mid then now m b more d q v number → ((u i : ℕ) → ((u ≡ v) × (i % 18 ≡ number % 18) → ⊥) → then u i ≡ mid u i) →
    SpokeSoFar how tells tag k last then now p a (sent + more) d q v first end (number + 1)
speaking_on grow how tells tag k last mid then now p m q a b d sent more v first end number near one h (ns, s, of, told) others = record {
  made = h.made ++ ns;
  spoke = spoke_both grow how tells tag k last mid then now p m q a b d sent more h.made ns (λ u i x y. absurd (omega (arith, h.before u i x, (of u i y).1))) still h.spoke s;
  for = λ u i x. ⊎_elim (h.for u i) (λ y. (of u i y).0) (sent_cases u i h.made ns x);
  before = λ u i x. ⊎_elim (λ y. omega (arith, h.before u i y)) (λ y. omega (arith, (of u i y).1)) (sent_cases u i h.made ns x);
  others = λ u i ne. others u i (λ e. ne e.0) ∙ h.others u i ne;
  ahead = λ i from to. others v i (λ e. absurd (omega (arith, from, to, near, h.few, e.1))) ∙ h.ahead i (omega (arith, from)) to;
  done = done;
  reach = h.reach;
  few = omega (arith, h.few, one);
}
  where
    still : AreSame mid last ns
    still u i x =
        let e = of u i x in
        subst (λ y. mid y i ≡ last y i) (sym e.0) (h.ahead i (omega (arith, e.1)) (omega (arith, e.1, near)))

    done : (i : ℕ) → i < number + 1 → WaitsFor (office_with k p.seen) v i → WaitsFor (office_with k q.seen) v i → IsDue how (last v i) now → Sent v i (h.made ++ ns)
    done i lt x y due = ⊎_elim
        (λ e. sent_right v i h.made ns (subst (λ j. WaitsFor (office_with k q.seen) v j → IsDue how (mid v j) now → Sent v j ns) (sym e) told y (subst (λ t. IsDue how t now) (sym (h.ahead i (omega (arith, e)) (omega (arith, e, near)))) due)))
        (λ ne. sent_left v i h.made ns (h.done i (omega (arith, lt, ne)) x (waits_between grow k p m q v i (sends_begins tag k p m h.made h.spoke.told.sends) (sends_begins tag k m q ns s.told.sends) x y) due))
        (cases_eq i number)

pub spoken_to : (how : Backoff) (tells : Bool) (tag : ℕ) (k : Key) (last then : Times) (now : ℕ) (p q : DeskPass) (a b : Account) (sent v first end : ℕ) → SpokeSoFar how tells tag k last then now p a sent b q v first end end → SpokeTo how tells tag k last then now p a sent b q v
spoken_to how tells tag k last then now p q a b sent v first end h = (h.made, h.spoke, h.for, λ i x y due. h.done i (h.reach i x) x y due)

pub speaking_broke : LinksOnlyGrow → (how : Backoff) (tells : Bool) (tag : ℕ) (k : Key) (last mid then : Times) (now : ℕ) (p m q : DeskPass) (a b d : Account) (sent v first end number : ℕ) (f : PumpFault) → number < first + 18 →
    SpokeSoFar how tells tag k last mid now p a sent b m v first end number → BrokenOf how tells tag k mid then now m b f d q v number → BrokenTo how tells tag k last then now p a f d q v
speaking_broke grow how tells tag k last mid then now p m q a b d sent v first end number f near h (ns, x, of) = (
  h.made ++ ns,
  broke_on grow how tells tag k last mid then now p m q a b d sent f h.made ns (λ u i y z. absurd (omega (arith, h.before u i y, (of u i z).1))) still h.spoke x,
  λ u i y. ⊎_elim (h.for u i) (λ z. (of u i z).0) (sent_cases u i h.made ns y),
)
  where
    still : AreSame mid last ns
    still u i y =
        let e = of u i y in
        subst (λ z. mid z i ≡ last z i) (sym e.0) (h.ahead i (omega (arith, e.1)) (omega (arith, e.1, near)))

-- no message waits for who is no neighbour
pub spoken_to_none : (how : Backoff) (tells : Bool) (tag : ℕ) (k : Key) (last : Times) (now : ℕ) (p q : DeskPass) (a : Account) (v : ℕ) (why : Refusal) → p.holds ≡ false → Looks k p q → Err why ≡ waiting_for (office_with k q.seen) v → SpokeTo how tells tag k last last now p a 0 a q v
spoken_to_none how tells tag k last now p q a v why idle d e = ([], spoke_none how tells tag k last now p q a (looked k p q idle d), λ u i s. elim s [ ], λ i x y due. absurd (none_near (office_with k q.seen) v i why e y))

-- ---- to all

-- so far, to those with a number below: those from it on are as they were
pub record SpokeBelow (how : Backoff) (tells : Bool) (tag : ℕ) (k : Key) (last then : Times) (now : ℕ) (p : DeskPass) (a : Account) (s : List Bool) (sent : ℕ) (b : Account) (q : DeskPass) (t : List Bool) (below : ℕ) : Type 0 where
  pub made : List Made
  pub spoke : Spoke how tells tag k last then now p a sent b q made
  pub before : (v i : ℕ) → Sent v i made → v < below
  pub ahead : (v i : ℕ) → below ≤ v → then v i ≡ last v i
  pub done : (v : ℕ) → v < below → SentTo how k last now p q made v
  pub spares : Spares s made t

pub below_starts : (how : Backoff) (tells : Bool) (tag : ℕ) (k : Key) (last : Times) (now : ℕ) (p q : DeskPass) (a : Account) (s : List Bool) → Sees p q → SpokeBelow how tells tag k last last now p a s 0 a q s 0
below_starts how tells tag k last now p q a s sees = record {
  made = [];
  spoke = spoke_none how tells tag k last now p q a sees;
  before = λ v i x. elim x [ ];
  ahead = λ v i le. refl;
  done = λ v lt. absurd (omega (arith, lt));
  spares = spares_none s;
}

-- where no message waits, nothing is to be told
pub silent_to_all : (how : Backoff) (tells : Bool) (tag : ℕ) (k : Key) (last : Times) (now : ℕ) (p q : DeskPass) (a : Account) (s : List Bool) → p.holds ≡ false → Looks k p q → (SomeWaits (office_with k q.seen) → ⊥) → SpokeToAll how tells tag k last last now p a s 0 a q s
silent_to_all how tells tag k last now p q a s idle d none = ([], spoke_none how tells tag k last now p q a (looked k p q idle d), λ v i x y due. absurd (none (v, i, y)), spares_none s)

-- what was told below v, and then to v
both_are_same : (last mid : Times) (v : ℕ) (ns : List Made) → ((u i : ℕ) → v ≤ u → mid u i ≡ last u i) → AreFor v ns → AreSame mid last ns
both_are_same last mid v ns ahead for u i x = ahead u i (omega (arith, for u i x))

pub below_on : LinksOnlyGrow → (how : Backoff) (tells : Bool) (tag : ℕ) (k : Key) (last mid then : Times) (now : ℕ) (p m q : DeskPass) (a b d : Account) (before owed after : List Bool) (sent more v : ℕ) → SpokeBelow how tells tag k last mid now p a before sent b m owed v →
    SpokeTo how tells tag k mid then now m b more d q v → ((u i : ℕ) → (u ≡ v → ⊥) → then u i ≡ mid u i) → Gets v more owed after → SpokeBelow how tells tag k last then now p a before (sent + more) d q after (v + 1)
below_on grow how tells tag k last mid then now p m q a b d before owed after sent more v h (ns, s, for, told) others gets = record {
  made = h.made ++ ns;
  spoke = spoke_both grow how tells tag k last mid then now p m q a b d sent more h.made ns (λ u i x y. absurd (omega (arith, h.before u i x, for u i y))) (both_are_same last mid v ns h.ahead for) h.spoke s;
  before = λ u i x. ⊎_elim (λ y. omega (arith, h.before u i y)) (λ y. omega (arith, for u i y)) (sent_cases u i h.made ns x);
  ahead = λ u i le. others u i (λ e. absurd (omega (arith, e, le))) ∙ h.ahead u i (omega (arith, le));
  done = done;
  spares = spares_both before owed after v more h.made ns for s.count h.spares gets;
}
  where
    between : (u i : ℕ) → WaitsFor (office_with k p.seen) u i → WaitsFor (office_with k q.seen) u i → WaitsFor (office_with k m.seen) u i
    between u i = waits_between grow k p m q u i (sends_begins tag k p m h.made h.spoke.told.sends) (sends_begins tag k m q ns s.told.sends)

    done : (u : ℕ) → u < v + 1 → SentTo how k last now p q (h.made ++ ns) u
    done u lt i x y due = ⊎_elim
        (λ e. subst (λ w. Sent w i (h.made ++ ns)) (sym e) (sent_right v i h.made ns (told i
        (subst (λ w. WaitsFor (office_with k m.seen) w i) e (between u i x y))
        (subst (λ w. WaitsFor (office_with k q.seen) w i) e y)
        (subst (λ t. IsDue how t now) (sym (h.ahead v i (omega arith))) (subst (λ w. IsDue how (last w i) now) e due)))))
        (λ ne. sent_left u i h.made ns (h.done u (omega (arith, lt, ne)) i x (between u i x y) due))
        (cases_eq u v)

-- who is no neighbour needs nothing
pub below_past : (how : Backoff) (tells : Bool) (tag : ℕ) (k : Key) (last then : Times) (now : ℕ) (p q : DeskPass) (a b : Account) (s t : List Bool) (sent v : ℕ) → are_neighbours k.0 k.1 v ≡ false → SpokeBelow how tells tag k last then now p a s sent b q t v → SpokeBelow how tells tag k last then now p a s sent b q t (v + 1)
below_past how tells tag k last then now p q a b s t sent v far h = record {
  made = h.made;
  spoke = h.spoke;
  before = λ u i x. omega (arith, h.before u i x);
  ahead = λ u i le. h.ahead u i (omega (arith, le));
  done = λ u lt i x y due. ⊎_elim (λ e. let w = x.near in let z : are_neighbours k.0 k.1 v ≡ true = subst (λ t. are_neighbours k.0 k.1 t ≡ true) e w in absurd cc) (λ ne. h.done u (omega (arith, lt, ne)) i x y due) (cases_eq u v);
  spares = h.spares;
}

pub spoken_to_all : (how : Backoff) (tells : Bool) (tag : ℕ) (k : Key) (last then : Times) (now : ℕ) (p q : DeskPass) (a b : Account) (s t : List Bool) (sent most : ℕ) → ((v : ℕ) → are_neighbours k.0 k.1 v ≡ true → v < most) → SpokeBelow how tells tag k last then now p a s sent b q t most →
    SpokeToAll how tells tag k last then now p a s sent b q t
spoken_to_all how tells tag k last then now p q a b s t sent most within h = (h.made, h.spoke, λ v i x y due. h.done v (within v x.near) i x y due, h.spares)

pub below_broke : LinksOnlyGrow → (how : Backoff) (tells : Bool) (tag : ℕ) (k : Key) (last mid then : Times) (now : ℕ) (p m q : DeskPass) (a b d : Account) (before owed : List Bool) (sent v : ℕ) (f : PumpFault) → SpokeBelow how tells tag k last mid now p a before sent b m owed v →
    BrokenTo how tells tag k mid then now m b f d q v → BrokenToAll how tells tag k last then now p a f d q
below_broke grow how tells tag k last mid then now p m q a b d before owed sent v f h (ns, x, for) = (
  h.made ++ ns,
  broke_on grow how tells tag k last mid then now p m q a b d sent f h.made ns (λ u i y z. absurd (omega (arith, h.before u i y, for u i z))) (both_are_same last mid v ns h.ahead for) h.spoke x,
)
