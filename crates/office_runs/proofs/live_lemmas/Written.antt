-- What a pass adds to the entries that are its own: who turns an office submits nothing, and who submits its sessions adds these.
use Rattle.std.proofs.Common.{◌≡◌, ℕ, zero, suc, Bool, List, [], ◌∷◌, ◌++◌, map, append_assoc, append-nil, Option, None, Some, Result, Ok, Err, sym, ap, subst, ◌∙◌, ⊎_elim}
use Rattle.std.specs.Prelude.{All}
use Rattle.std.proofs.lemmas.List.{append_cancel_left, map-append}
use Rattle.std.proofs.lemmas.List.Elements.{All-append, All-cons, All-nil}
use Rattle.session_meaning.specs.ProgramValue.{ProgramValue}
use Rattle.office_journal.specs.declared.event.Event.{Event}
use Rattle.office_journal.specs.declared.event.Event.TheVariants.{Submit, Took}
use Rattle.office_journal.specs.declared.event.Entry.{Entry}
use Rattle.office_journal.specs.declared.reply.Reply.{Reply}
use Rattle.office_journal.specs.declared.reply.Refusal.{Refusal}
use Rattle.office_journal.specs.declared.reply.Refusal.TheVariants as refusal
use Rattle.site_core.specs.Journals.{Site, Steps, StepsAddTheirEntry}
use Rattle.site_core.specs.RulesInTurn.{extended, AreNext}
use Rattle.locked_office.specs.declared.advance.Stopped.{Stopped}
use Rattle.locked_office.specs.Advance.{Advances}
use Rattle.locked_office.specs.Calls.{Key, DeskPass, office_with, Does, Looks}
use Rattle.socket_pump.specs.declared.pump.Turn.{Turn}
use Rattle.socket_pump.specs.declared.pump.PumpFault.{PumpFault}
use Rattle.socket_pump.specs.Wires.{Account}
use Rattle.socket_pump.specs.Chains.{Made, IsTook, sent_entry}
use Rattle.socket_pump.specs.Handling.{Handled, AreRules, AreHandled}
use Rattle.socket_pump.specs.Turns.{Times}
use Rattle.socket_pump.specs.AdaptiveTurns.{HandledAll, AdaptiveTurned, AdaptiveStage, WhileHandling, AtLastRules, AfterRules}
use Rattle.office_stations.specs.declared.fault.RunFault.{RunFault}
use Rattle.office_stations.specs.declared.pace.TimedTurn.{TimedTurn}
use Rattle.office_stations.specs.declared.turning.Turning.TheVariants.{Adaptive}
use Rattle.office_stations.specs.Rounds.{Standing, with_pass, Takes, TakesAll, TakesNoMore, Refuses, Fills, StopsFilling, Turns, BreaksOff, Rounds}
use Rattle.office_runs.specs.Threads.{FillsTimes, Submitted, Worked, IsNoSubmit}
use Rattle.office_runs.proofs.live_lemmas.Beginnings.{nothing_before, nothing_behind}

-- ---- one holding

-- a pass that had seen these entries did this, and added those
record Adding (what : Site → Site → Type 0) (k : Key) (p q : DeskPass) : Type 0 where
  seen : List Entry
  added : List Entry
  done : what (office_with k seen) (office_with k (seen ++ added))
  mine : q.mine ≡ p.mine ++ added

adding : (what : Site → Site → Type 0) (k : Key) (p q : DeskPass) → Does what k p q → Adding what k p q
adding what k p q (between, d) = record {
  seen = p.seen ++ between;
  added = d.added;
  done = subst (λ (x : DeskPass). what (office_with k (p.seen ++ between)) (office_with k x.seen)) d.left d.done;
  mine = ap (λ (x : DeskPass). x.mine) d.left;
}

those : (k : Key) (seen added es : List Entry) → office_with k (seen ++ added) ≡ office_with k (seen ++ es) → added ≡ es
those k seen added es h = append_cancel_left seen added es (ap (λ (s : Site). s.entries) h)

nothing : (k : Key) (seen added : List Entry) → office_with k (seen ++ added) ≡ office_with k seen → added ≡ []
nothing k seen added h = append_cancel_left seen added [] (ap (λ (s : Site). s.entries) h ∙ sym (append-nil seen))

same_mine : (what : Site → Site → Type 0) (k : Key) (p q : DeskPass) (a : Adding what k p q) → a.added ≡ [] → q.mine ≡ p.mine
same_mine what k p q a none = a.mine ∙ ap (λ (l : List Entry). p.mine ++ l) none ∙ append-nil p.mine

looks_adds_nothing : (k : Key) (p q : DeskPass) → Looks k p q → q.mine ≡ p.mine
looks_adds_nothing k p q h = let a = adding (λ s s'. s' ≡ s) k p q h in same_mine (λ s s'. s' ≡ s) k p q a (nothing k a.seen a.added a.done)

-- ---- who turns an office

-- it submitted no session
abbrev Quiet : DeskPass → Type 0
Quiet p = All IsNoSubmit p.mine

quiet_more : (p q : DeskPass) (es : List Entry) → q.mine ≡ p.mine ++ es → All IsNoSubmit es → Quiet p → Quiet q
quiet_more p q es is none quiet = subst (All IsNoSubmit) (sym is) (All-append IsNoSubmit p.mine es quiet none)

quiet_still : (p q : DeskPass) → q.mine ≡ p.mine → Quiet p → Quiet q
quiet_still p q same quiet = subst (All IsNoSubmit) (sym same) quiet

took : (tag : ℕ) (bytes : List ℕ) (answer : Result Reply Refusal) (es : List Entry) → IsTook tag bytes answer es → All IsNoSubmit es
took tag bytes (Ok r) es (f, spelled, is) = subst (All IsNoSubmit) (sym is) (All-cons IsNoSubmit (record { tag = tag; event = Took f; reply = r }) [] (λ s e. cc e) (All-nil IsNoSubmit))
took tag bytes (Err why) es is = subst (All IsNoSubmit) (sym is) (All-nil IsNoSubmit)

all_done : (tag : ℕ) (es : List Entry) → AreRules tag es → All IsNoSubmit es
all_done tag [] done = All-nil IsNoSubmit
all_done tag (x ∷ xs) (r, does, tagged, rest) = All-cons IsNoSubmit x xs (λ p e. cc (does, e)) (all_done tag xs rest)

all_took : (tag : ℕ) (handled : List Handled) (es : List Entry) → AreHandled tag handled es → All IsNoSubmit es
all_took tag [] es is = subst (All IsNoSubmit) (sym is) (All-nil IsNoSubmit)
all_took tag (h ∷ hs) es (first, rules, rest, is, one, done, others) =
    subst (All IsNoSubmit) (sym is) (All-append IsNoSubmit first (rules ++ rest) (took tag h.heard.bytes h.heard.answer first one) (All-append IsNoSubmit rules rest (all_done tag rules done) (all_took tag hs rest others)))

handled_all : (tells : Bool) (tag : ℕ) (k : Key) (p : DeskPass) (a : Account) (n m : ℕ) (b : Account) (q : DeskPass) → HandledAll tells tag k p a n m b q → Quiet p → Quiet q
handled_all tells tag k p a n m b q h = quiet_more p q h.handling.added h.handling.mine (all_took tag h.handled h.handling.added h.handling.are)

all_rules : (tag : ℕ) (s : Site) (es : List Entry) → AreNext tag s es → All IsNoSubmit es
all_rules tag s [] next = All-nil IsNoSubmit
all_rules tag s (x ∷ xs) (r, next, does, tagged, rest) = All-cons IsNoSubmit x xs (λ p e. cc (does, e)) (all_rules tag (extended s (x ∷ [])) xs rest)

advanced : (tag most : ℕ) (result : Result ℕ Stopped) (k : Key) (p q : DeskPass) → Does (λ s s'. Advances tag most result s s') k p q → Quiet p → Quiet q
advanced tag most result k p q h =
    let a = adding (λ s s'. Advances tag most result s s') k p q h in
    quiet_more p q a.added a.mine (subst (All IsNoSubmit) (sym (those k a.seen a.added a.done.done a.done.added)) (all_rules tag (office_with k a.seen) a.done.done a.done.next))

all_sent : (tag : ℕ) (made : List Made) → All IsNoSubmit (map (sent_entry tag) made)
all_sent tag [] = All-nil IsNoSubmit
all_sent tag (m ∷ ms) = All-cons IsNoSubmit (sent_entry tag m) (map (sent_entry tag) ms) (λ s e. cc e) (all_sent tag ms)

turned : (tells : Bool) (tag : ℕ) (k : Key) (last : Times) (now : ℕ) (p : DeskPass) (a : Account) (t : Turn) (b : Account) (q : DeskPass) (later : Times) → AdaptiveTurned tells tag k last now p a t b q later → Quiet p → Quiet q
turned tells tag k last now p a t b q later h quiet =
    quiet_more h.ruled q (map (sent_entry tag) h.made) h.told.mine (all_sent tag h.made) (advanced tag 64 (Ok h.finally) k h.mid h.ruled h.rules (handled_all tells tag k p a t.taken t.refused h.received h.mid h.handled quiet))

broken : (tells : Bool) (tag : ℕ) (k : Key) (last : Times) (now : ℕ) (p : DeskPass) (a : Account) (f : PumpFault) (b : Account) (q : DeskPass) (later : Times) → AdaptiveStage tells tag k last now p a f b q later → Quiet p → Quiet q
broken tells tag k last now p a f b q later (WhileHandling handled marks) quiet = quiet_more p q handled.added handled.mine (all_took tag handled.handled handled.added handled.are) quiet
broken tells tag k last now p a f b q later (AtLastRules mid received n m handled why rules fault wire marks) quiet = advanced tag 64 (Err why) k mid q rules (handled_all tells tag k p a n m received mid handled quiet)
broken tells tag k last now p a f b q later (AfterRules mid ruled received n m done handled rules marked marks made told due_once counts remembers) quiet =
    quiet_more ruled q (map (sent_entry tag) made) told.mine (all_sent tag made) (advanced tag 64 (Ok done) k mid ruled rules (handled_all tells tag k p a n m received mid handled quiet))

turns : (tells : Bool) (tag : ℕ) (k : Key) (t : TimedTurn) (a b : Standing) → Turns Adaptive tells tag k t a b → Quiet a.pass → Quiet b.pass
turns tells tag k t a b h quiet =
    let here : Quiet h.after = turned tells tag k a.last t.at a.pass a.wire t.turn b.wire h.after b.last h.turned quiet in
    ⊎_elim (λ same. subst Quiet same here) (λ looks. quiet_still h.after b.pass (looks_adds_nothing k h.after b.pass looks) here) h.looked

breaks_off : (tells : Bool) (tag : ℕ) (k : Key) (a b : Standing) (fault : RunFault) → BreaksOff Adaptive tells tag k a b fault → Quiet a.pass → Quiet b.pass
breaks_off tells tag k a b fault h quiet = ⊎_elim
    (λ waited. subst (λ (x : Standing). Quiet x.pass) (sym waited.0) quiet)
    (λ stage. broken tells tag k a.last stage.0 a.pass a.wire stage.1 b.wire b.pass b.last stage.2 quiet)
    h

-- where no session is left, none is submitted
none_filled : (tag : ℕ) (k : Key) (p q : DeskPass) (left : List ProgramValue) → Fills tag k p q [] left → (p ≡ q) × (left ≡ [])
none_filled tag k p q left f =
    let none : f.given ≡ [] = nothing_before f.given left f.are in
    let rest : left ≡ [] = nothing_behind f.given left f.are in
    let taken : p ≡ f.mid = subst (λ (l : List ProgramValue). TakesAll tag k l p f.mid) none f.takes in
    let refused : f.mid ≡ q = subst (λ (l : List ProgramValue). TakesNoMore tag k l f.mid q) rest f.full in
    (taken ∙ refused, rest)

all_turns : (tells : Bool) (tag : ℕ) (k : Key) (made : List TimedTurn) (a b : Standing) (left : List ProgramValue) → Rounds Adaptive tells tag k made a b [] left → Quiet a.pass → Quiet b.pass
all_turns tells tag k [] a b left (same, none) quiet = subst (λ (x : Standing). Quiet x.pass) same quiet
all_turns tells tag k (t ∷ ts) a b left (m, mid, round, rest) quiet =
    let none = none_filled tag k a.pass round.filled mid round.fills in
    all_turns tells tag k ts m b left (subst (λ (l : List ProgramValue). Rounds Adaptive tells tag k ts m b l left) none.1 rest) (turns tells tag k t (with_pass a round.filled) m round.turns (subst Quiet none.0 quiet))

fresh : (p : DeskPass) → p.mine ≡ [] → Quiet p
fresh p none = subst (All IsNoSubmit) (sym none) (All-nil IsNoSubmit)

-- who turns an office submits no session
pub worker_submits_nothing : (fault : Option RunFault) (tells : Bool) (k : Key) (most : ℕ) (a b : Standing) → Worked fault tells k most a b → a.pass.mine ≡ [] → All IsNoSubmit b.pass.mine
worker_submits_nothing None tells k most a b (made, begun, rounds) none = all_turns tells 0 k made a b [] rounds (fresh a.pass none)
worker_submits_nothing (Some f) tells k most a b (made, at, few, rounds, breaks) none = breaks_off tells 0 k at b f breaks (all_turns tells 0 k made a at [] rounds (fresh a.pass none))

-- ---- who submits its sessions

abbrev events_of : List Entry → List Event
events_of = map (λ (e : Entry). e.event)

-- it submitted these, and did nothing else
abbrev Adds : DeskPass → DeskPass → List ProgramValue → Type 0
Adds p q ss = events_of q.mine ≡ events_of p.mine ++ map Submit ss

adds : (p q : DeskPass) (es : List Entry) (ss : List ProgramValue) → q.mine ≡ p.mine ++ es → events_of es ≡ map Submit ss → Adds p q ss
adds p q es ss is same = ap events_of is ∙ map-append (λ (e : Entry). e.event) p.mine es ∙ ap (λ (l : List Event). events_of p.mine ++ l) same

adds_nothing : (p q : DeskPass) → q.mine ≡ p.mine → Adds p q []
adds_nothing p q same = ap events_of same ∙ sym (append-nil (events_of p.mine))

adds_then : (p m q : DeskPass) (xs ys : List ProgramValue) → Adds p m xs → Adds m q ys → Adds p q (xs ++ ys)
adds_then p m q xs ys first later =
    later ∙ ap (λ (l : List Event). l ++ map Submit ys) first ∙ append_assoc (events_of p.mine) (map Submit xs) (map Submit ys) ∙ ap (λ (l : List Event). events_of p.mine ++ l) (sym (map-append Submit xs ys))

-- it submitted a beginning of these sessions, and those are left
record Began (p q : DeskPass) (sessions left : List ProgramValue) : Type 0 where
  given : List ProgramValue
  are : given ++ left ≡ sessions
  submits : Adds p q given

module _ (law : StepsAddTheirEntry) where
  takes : (tag : ℕ) (k : Key) (s : ProgramValue) (p q : DeskPass) → Takes tag k s p q → Adds p q (s ∷ [])
  takes tag k s p q h =
      let a = adding (λ x y. (reply : Reply) × Steps x tag (Submit s) (Ok reply) y) k p q h in
      let noted = law (office_with k a.seen) tag (Submit s) (Ok a.done.0) (office_with k (a.seen ++ a.added)) a.done.1 in
      adds p q a.added (s ∷ []) a.mine (ap events_of (those k a.seen a.added (record { tag = tag; event = Submit s; reply = a.done.0 } ∷ []) noted))

  refuses : (tag : ℕ) (k : Key) (s : ProgramValue) (why : Refusal) (p q : DeskPass) → Refuses tag k s why p q → Adds p q []
  refuses tag k s why p q h =
      let a = adding (λ x y. Steps x tag (Submit s) (Err why) y) k p q h in
      let same = law (office_with k a.seen) tag (Submit s) (Err why) (office_with k (a.seen ++ a.added)) a.done in
      adds_nothing p q (same_mine (λ x y. Steps x tag (Submit s) (Err why) y) k p q a (nothing k a.seen a.added same))

  takes_all : (tag : ℕ) (k : Key) (ss : List ProgramValue) (p q : DeskPass) → TakesAll tag k ss p q → Adds p q ss
  takes_all tag k [] p q same = adds_nothing p q (ap (λ (x : DeskPass). x.mine) (sym same))
  takes_all tag k (s ∷ ss) p q (m, one, rest) = adds_then p m q (s ∷ []) ss (takes tag k s p m one) (takes_all tag k ss m q rest)

  takes_no_more : (tag : ℕ) (k : Key) (ss : List ProgramValue) (p q : DeskPass) → TakesNoMore tag k ss p q → Adds p q []
  takes_no_more tag k [] p q same = adds_nothing p q (ap (λ (x : DeskPass). x.mine) (sym same))
  takes_no_more tag k (s ∷ ss) p q h = refuses tag k s refusal.QueueFull p q h

  fills : (tag : ℕ) (k : Key) (p q : DeskPass) (sessions left : List ProgramValue) → Fills tag k p q sessions left → Began p q sessions left
  fills tag k p q sessions left f = record {
    given = f.given;
    are = f.are;
    submits = subst (Adds p q) (append-nil f.given) (adds_then p f.mid q f.given [] (takes_all tag k f.given p f.mid f.takes) (takes_no_more tag k left f.mid q f.full));
  }

  stops : (tag : ℕ) (k : Key) (p q : DeskPass) (sessions : List ProgramValue) (fault : RunFault) (f : StopsFilling tag k p q sessions fault) → Began p q sessions (f.next ∷ f.left)
  stops tag k p q sessions fault f = record {
    given = f.given;
    are = f.are;
    submits = subst (Adds p q) (append-nil f.given) (adds_then p f.mid q f.given [] (takes_all tag k f.given p f.mid f.takes) (refuses tag k f.next f.lacks.0 f.mid q f.lacks.1));
  }

  began_then : (p m q : DeskPass) (sessions mid left : List ProgramValue) → Began p m sessions mid → Began m q mid left → Began p q sessions left
  began_then p m q sessions mid left first later = record {
    given = first.given ++ later.given;
    are = append_assoc first.given later.given left ∙ ap (λ (l : List ProgramValue). first.given ++ l) later.are ∙ first.are;
    submits = adds_then p m q first.given later.given first.submits later.submits;
  }

  fills_times : (n : ℕ) (k : Key) (p q : DeskPass) (sessions left : List ProgramValue) → FillsTimes n k p q sessions left → Began p q sessions left
  fills_times zero k p q sessions left (same, all) = record { given = []; are = sym all; submits = adds_nothing p q (ap (λ (x : DeskPass). x.mine) (sym same)) }
  fills_times (suc n) k p q sessions left (m, mid, first, rest) = began_then p m q sessions mid left (fills 1 k p m sessions mid first) (fills_times n k m q mid left rest)

  -- from a pass that did nothing yet
  begins : (p q : DeskPass) (sessions left : List ProgramValue) → Began p q sessions left → p.mine ≡ [] → (given rest : List ProgramValue) × (given ++ rest ≡ sessions) × (events_of q.mine ≡ map Submit given)
  begins p q sessions left b none = (b.given, left, b.are, b.submits ∙ ap (λ (l : List Entry). events_of l ++ map Submit b.given) none)

  -- who submits sessions submits a beginning of them, in order, and does nothing else
  pub client_submits_a_beginning : (fault : Option RunFault) (k : Key) (p q : DeskPass) (sessions : List ProgramValue) → Submitted fault k p q sessions → p.mine ≡ [] →
      (given left : List ProgramValue) × (given ++ left ≡ sessions) × (events_of q.mine ≡ map Submit given)
  client_submits_a_beginning None k p q sessions (n, left, filled) none = begins p q sessions left (fills_times n k p q sessions left filled) none
  client_submits_a_beginning (Some fault) k p q sessions (n, m, mid, filled, stopped) none =
      begins p q sessions (stopped.next ∷ stopped.left) (began_then p m q sessions mid (stopped.next ∷ stopped.left) (fills_times n k p m sessions mid filled) (stops 1 k m q mid fault stopped)) none
