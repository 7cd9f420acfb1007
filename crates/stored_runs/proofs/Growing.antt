-- Journals that go on, and what stands and left of them.
use Rattle.std.proofs.Common.{ℕ, ◌≤◌, Bool, List, [], ◌∷◌, ◌++◌, length, length-append, sym, ap, ◌∙◌, append_assoc, append-nil, arith}
use mathlib.Core.List.{IsPrefix}
use Rattle.std.proofs.lemmas.List.Elements.{All-append, All-nil}
use Rattle.session_meaning.specs.ProgramValue.{ProgramValue}
use Rattle.office_journal.specs.declared.event.Entry.{Entry}
use Rattle.locked_office.specs.Calls.{Key, DeskPass, Looks}
use Rattle.socket_pump.specs.Wires.{Account}
use Rattle.socket_pump.specs.ChainLaws.{does_begins}
use Rattle.stored_runs.specs.durable.Letting.{IsOfStanding, LetsOut}
use Rattle.stored_runs.specs.durable.LettingLaws.{standing_on}
use Rattle.office_stations.specs.declared.fault.RunFault.{RunFault}
use Rattle.office_stations.specs.Rounds.{TakesAll, TakesNoMore, Fills, StopsFilling}
use Rattle.stored_runs.proofs.Outcomes.{both}

-- ---- a pass that has seen more

pub looks_begin : (k : Key) (p q : DeskPass) → Looks k p q → IsPrefix p.seen q.seen
looks_begin k p q h = let b = does_begins _ k p q h in (b.0, sym b.1)

takes_begin : (tag : ℕ) (k : Key) (ss : List ProgramValue) (p q : DeskPass) → TakesAll tag k ss p q → IsPrefix p.seen q.seen
takes_begin tag k [] p q same = ([], append-nil p.seen ∙ ap (λ (x : DeskPass). x.seen) same)
takes_begin tag k (s ∷ ss) p q (m, one, others) = let b = does_begins _ k p m one in both p.seen m.seen q.seen (b.0, sym b.1) (takes_begin tag k ss m q others)

no_more_begin : (tag : ℕ) (k : Key) (ss : List ProgramValue) (p q : DeskPass) → TakesNoMore tag k ss p q → IsPrefix p.seen q.seen
no_more_begin tag k [] p q same = ([], append-nil p.seen ∙ ap (λ (x : DeskPass). x.seen) same)
no_more_begin tag k (s ∷ ss) p q refused = let b = does_begins _ k p q refused in (b.0, sym b.1)

pub fills_begin : (tag : ℕ) (k : Key) (p q : DeskPass) (ss left : List ProgramValue) → Fills tag k p q ss left → IsPrefix p.seen q.seen
fills_begin tag k p q ss left h = both p.seen h.mid.seen q.seen (takes_begin tag k h.given p h.mid h.takes) (no_more_begin tag k left h.mid q h.full)

pub stops_begin : (tag : ℕ) (k : Key) (p q : DeskPass) (ss : List ProgramValue) (f : RunFault) → StopsFilling tag k p q ss f → IsPrefix p.seen q.seen
stops_begin tag k p q ss f h = let b = does_begins _ k h.mid q h.lacks.1 in both p.seen h.mid.seen q.seen (takes_begin tag k h.given p h.mid h.takes) (b.0, sym b.1)

-- ---- what stands, and what left

pub within_on : (n : ℕ) (es fs : List Entry) → n ≤ length es → IsPrefix es fs → n ≤ length fs
within_on n es fs le p = omega (arith, le, ap length p.1, length-append es p.0)

pub no_datagram : (tells : Bool) (tag : ℕ) (a : Account) (es : List Entry) (n : ℕ) → LetsOut tells tag a a es n
no_datagram tells tag a es n = record { out = []; went = λ h. sym (append-nil a.accepted); stand = All-nil (IsOfStanding tag es n) }

pub lets_out_on : (tells : Bool) (tag : ℕ) (a b : Account) (es fs : List Entry) (n m : ℕ) → n ≤ m → IsPrefix es fs → LetsOut tells tag a b es n → LetsOut tells tag a b fs m
lets_out_on tells tag a b es fs n m le p h = record { out = h.out; went = h.went; stand = standing_on tag es fs n m h.out le p h.stand }

pub lets_out_both : (tells : Bool) (tag : ℕ) (a b c : Account) (es fs : List Entry) (n m : ℕ) → n ≤ m → IsPrefix es fs → LetsOut tells tag a b es n → LetsOut tells tag b c fs m → LetsOut tells tag a c fs m
lets_out_both tells tag a b c es fs n m le p first second = record {
  out = first.out ++ second.out;
  went = λ h. second.went h ∙ ap (λ l. l ++ second.out) (first.went h) ∙ append_assoc a.accepted first.out second.out;
  stand = All-append (IsOfStanding tag fs m) first.out second.out (standing_on tag es fs n m first.out le p first.stand) second.stand;
}
