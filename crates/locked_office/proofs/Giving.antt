-- What a pass that holds the office adds to it, and what it has seen when it has given the office back.
use Rattle.std.proofs.Common.{◌≡◌, ℕ, List, [], ◌∷◌, ◌++◌, Result, Ok, Err, refl, sym, ap, subst, ◌∙◌}
use Rattle.frame_codec.specs.Frame.{Fields}
use Rattle.frame_codec.specs.declared.fault.FrameFault.{FrameFault}
use Rattle.own_lock.specs.Entries.{Every, AddsOnly}
use mathlib.Core.List.{IsPrefix}
use Rattle.own_lock.specs.Passes.{LockView, IsOf, pass_after_take}
use Rattle.office_journal.specs.declared.event.Entry.{Entry}
use Rattle.office_journal.specs.declared.event.Event.{Event}
use Rattle.office_journal.specs.declared.event.Event.TheVariants.{Took}
use Rattle.office_journal.specs.declared.reply.Reply.{Reply}
use Rattle.office_journal.specs.declared.reply.Refusal.{Refusal}
use Rattle.site_core.specs.Journals.{Site, IsLegal, noted, Steps, TakesRead, IsRead, Receives, Adds, StepsAddTheirEntry, ReadIsReceived}
use Rattle.locked_office.specs.declared.advance.Stopped.{Stopped}
use Rattle.locked_office.specs.Calls.{Key, DeskPass, tag_of, office_with, Did, Does}
use Rattle.site_core.specs.RulesInTurn.{extended, AreNext}
use Rattle.locked_office.specs.Advance.{Advances}
use Rattle.locked_office.specs.refinement.Holding.{Holds, Came, GivesBack}
use Rattle.locked_office.proofs.Walk.{extended_none}

-- the journal grew by entries of this tag
pub record Grew (tag : ℕ) (s s' : Site) : Type 0 where
  pub added : List Entry
  pub is : s' ≡ extended s added
  pub tagged : Every (λ (e : Entry). tag_of e ≡ tag) added

pub grew_none : (tag : ℕ) (s s' : Site) → s' ≡ s → Grew tag s s'
grew_none tag s s' same = record { added = []; is = same ∙ sym (extended_none s); tagged = tt }

grew_noted : (tag : ℕ) (s s' : Site) (e : Event) (r : Reply) → s' ≡ noted s tag e r → Grew tag s s'
grew_noted tag s s' e r is = record { added = record { tag = tag; event = e; reply = r } ∷ []; is = is; tagged = (refl, tt) }

pub grew_by : (tag : ℕ) (s s' : Site) (e : Event) (result : Result Reply Refusal) → Adds s tag e result s' → Grew tag s s'
grew_by tag s s' e (Ok r) a = grew_noted tag s s' e r a
grew_by tag s s' e (Err r) a = grew_none tag s s' a

-- what was read is a frame, or nothing is added
grew_by_read : StepsAddTheirEntry → (tag : ℕ) (s s' : Site) (read : Result Fields FrameFault) (result : Result Reply Refusal) → TakesRead s tag read result s' → Grew tag s s'
grew_by_read law tag s s' (Ok f) result h = grew_by tag s s' (Took f) result (law s tag (Took f) result s' h)
grew_by_read law tag s s' (Err fault) result h = grew_none tag s s' h.1

next_tagged : (tag : ℕ) (s : Site) (xs : List Entry) → AreNext tag s xs → Every (λ (e : Entry). tag_of e ≡ tag) xs
next_tagged tag s [] a = tt
next_tagged tag s (x ∷ xs) a = (a.3, next_tagged tag (extended s (x ∷ [])) xs a.4)

pub grew_by_rules : (tag most : ℕ) (s s' : Site) (result : Result ℕ Stopped) → Advances tag most result s s' → Grew tag s s'
grew_by_rules tag most s s' result h = record { added = h.done; is = h.added; tagged = next_tagged tag s h.done h.next }

-- ---- giving the office back

pub adds_only : (desk : LockView Key) (p : DeskPass) (s s' : Site) → Holds desk p s → Grew p.tag s s' → AddsOnly tag_of p.tag p.seen s'.entries
adds_only desk p s s' h g = (g.added, ap (λ (l : List Entry). l ++ g.added) (sym h.seen) ∙ sym (ap (λ (o : Site). o.entries) g.is), g.tagged)

pub key_stays : (desk : LockView Key) (p : DeskPass) (s s' : Site) → Holds desk p s → Grew p.tag s s' → (s'.plan, s'.me) ≡ desk.key
key_stays desk p s s' h g = ap (λ (o : Site). (o.plan, o.me)) g.is ∙ h.key

pub did : (what : Site → Site → Type 0) (desk : LockView Key) (p q : DeskPass) (s s' : Site) → Holds desk p s → Grew p.tag s s' → what s s' → q.seen ≡ s'.entries → IsLegal s' → GivesBack p q s' →
    Did what desk.key p q
did what desk p q s s' h g w seen legal back =
    let here : s ≡ office_with desk.key p.seen = ap (λ (k : Key). office_with k s.entries) h.key ∙ ap (office_with desk.key) h.seen in
    let there : s' ≡ office_with desk.key q.seen = ap (λ (k : Key). office_with k s'.entries) (key_stays desk p s s' h g) ∙ ap (office_with desk.key) (sym seen) in
    let adds = adds_only desk p s s' h g in
    record {
      done = subst (λ (o : Site). what o (office_with desk.key q.seen)) here (subst (what s) there w);
      legal = subst IsLegal there legal;
      added = adds.0;
      left = back adds.0 adds.1;
    }

-- ---- events that are handed in: the state that was lent out is the one that was held, and the tag the pass's

pub still : (desk : LockView Key) (p : DeskPass) (held s : Site) → Holds desk p held → s ≡ held → Holds desk p s
still desk p held s h same = subst (Holds desk p) (sym same) h

pub event_grew : StepsAddTheirEntry → (p : DeskPass) (t : ℕ) (e : Event) (result : Result Reply Refusal) (s s' : Site) → t ≡ p.tag → Steps s t e result s' → Grew p.tag s s'
event_grew law p t e result s s' tag steps = grew_by p.tag s s' e result (law s p.tag e result s' (subst (λ n. Steps s n e result s') tag steps))

pub event_adds : StepsAddTheirEntry → (desk : LockView Key) (p : DeskPass) (t : ℕ) (e : Event) (result : Result Reply Refusal) (held s s' : Site) → Holds desk p held → s ≡ held → t ≡ p.tag → Steps s t e result s' → AddsOnly tag_of p.tag p.seen s'.entries
event_adds law desk p t e result held s s' h same tag steps = adds_only desk p s s' (still desk p held s h same) (event_grew law p t e result s s' tag steps)

pub event_did : StepsAddTheirEntry → (desk : LockView Key) (p q : DeskPass) (t : ℕ) (e : Event) (result : Result Reply Refusal) (held s s' : Site) → Holds desk p held → s ≡ held → t ≡ p.tag → Steps s t e result s' →
    q.seen ≡ s'.entries → IsLegal s' → GivesBack p q s' → Did (λ x x'. Steps x p.tag e result x') desk.key p q
event_did law desk p q t e result held s s' h same tag steps seen legal back =
    did (λ x x'. Steps x p.tag e result x') desk p q s s' (still desk p held s h same) (event_grew law p t e result s s' tag steps) (subst (λ n. Steps s n e result s') tag steps) seen legal back

-- ---- what was read of bytes

read_grew : StepsAddTheirEntry → (p : DeskPass) (t : ℕ) (read : Result Fields FrameFault) (result : Result Reply Refusal) (s s' : Site) → t ≡ p.tag → TakesRead s t read result s' → Grew p.tag s s'
read_grew law p t read result s s' tag answer = subst (λ n. Grew n s s') tag (grew_by_read law t s s' read result answer)

pub read_adds : StepsAddTheirEntry → (desk : LockView Key) (p : DeskPass) (t : ℕ) (read : Result Fields FrameFault) (result : Result Reply Refusal) (held s s' : Site) → Holds desk p held → s ≡ held → t ≡ p.tag → TakesRead s t read result s' →
    AddsOnly tag_of p.tag p.seen s'.entries
read_adds law desk p t read result held s s' h same tag answer = adds_only desk p s s' (still desk p held s h same) (read_grew law p t read result s s' tag answer)

pub read_key : StepsAddTheirEntry → (desk : LockView Key) (p : DeskPass) (t : ℕ) (read : Result Fields FrameFault) (result : Result Reply Refusal) (held s s' : Site) → Holds desk p held → s ≡ held → t ≡ p.tag → TakesRead s t read result s' →
    (s'.plan, s'.me) ≡ desk.key
read_key law desk p t read result held s s' h same tag answer = key_stays desk p s s' (still desk p held s h same) (read_grew law p t read result s s' tag answer)

pub read_did : StepsAddTheirEntry → (desk : LockView Key) (p q : DeskPass) (t : ℕ) (read : Result Fields FrameFault) (result : Result Reply Refusal) (held s s' : Site) → Holds desk p held → s ≡ held → t ≡ p.tag → TakesRead s t read result s' →
    q.seen ≡ s'.entries → IsLegal s' → GivesBack p q s' → Did (λ x x'. TakesRead x p.tag read result x') desk.key p q
read_did law desk p q t read result held s s' h same tag answer seen legal back =
    did (λ x x'. TakesRead x p.tag read result x') desk p q s s' (still desk p held s h same) (read_grew law p t read result s s' tag answer) (subst (λ n. TakesRead s n read result s') tag answer) seen legal back

-- bytes that were read so were received
pub read_received : ReadIsReceived → (k : Key) (p q : DeskPass) (bytes : List ℕ) (read : Result Fields FrameFault) (result : Result Reply Refusal) → IsRead bytes read → Does (λ s s'. TakesRead s p.tag read result s') k p q → Does (λ s s'. Receives s p.tag bytes result s') k p q
read_received law k p q bytes read result is (between, d) =
    (between, record { done = law (office_with k (p.seen ++ between)) p.tag bytes read result (office_with k q.seen) is d.done; legal = d.legal; added = d.added; left = d.left })

-- ---- rules that come next

rules_grew : (p : DeskPass) (t most : ℕ) (result : Result ℕ Stopped) (s s' : Site) → t ≡ p.tag → Advances t most result s s' → Grew p.tag s s'
rules_grew p t most result s s' tag h = subst (λ n. Grew n s s') tag (grew_by_rules t most s s' result h)

pub rules_add : (desk : LockView Key) (p : DeskPass) (t most : ℕ) (result : Result ℕ Stopped) (held s s' : Site) → Holds desk p held → s ≡ held → t ≡ p.tag → Advances t most result s s' → AddsOnly tag_of p.tag p.seen s'.entries
rules_add desk p t most result held s s' h same tag w = adds_only desk p s s' (still desk p held s h same) (rules_grew p t most result s s' tag w)

pub rules_did : (desk : LockView Key) (p q : DeskPass) (t most : ℕ) (result : Result ℕ Stopped) (held s s' : Site) → Holds desk p held → s ≡ held → t ≡ p.tag → Advances t most result s s' → q.seen ≡ s'.entries → IsLegal s' →
    GivesBack p q s' → Did (λ x x'. Advances p.tag most result x x') desk.key p q
rules_did desk p q t most result held s s' h same tag w seen legal back =
    did (λ x x'. Advances p.tag most result x x') desk p q s s' (still desk p held s h same) (rules_grew p t most result s s' tag w) (subst (λ n. Advances n most result s s') tag w) seen legal back

-- ---- looking

pub nothing_added : (desk : LockView Key) (p : DeskPass) (s : Site) → Holds desk p s → AddsOnly tag_of p.tag p.seen s.entries
nothing_added desk p s h = adds_only desk p s s h (grew_none p.tag s s refl)

pub looked : (desk : LockView Key) (p q : DeskPass) (s : Site) → Holds desk p s → q.seen ≡ s.entries → IsLegal s → GivesBack p q s → Did (λ x x'. x' ≡ x) desk.key p q
looked desk p q s h seen legal back = did (λ x x'. x' ≡ x) desk p q s s h (grew_none p.tag s s refl) refl seen legal back

-- ---- taking the office

pub came : (p m : DeskPass) (es : List Entry) → m ≡ pass_after_take p es → IsPrefix p.seen es → Came p m
came p m es is begins = (begins.0, is ∙ ap (pass_after_take p) (sym begins.1))

pub takes : (desk : LockView Key) (p m : DeskPass) (s : Site) → IsOf desk p → m ≡ pass_after_take p s.entries → (s.plan, s.me) ≡ desk.key → Holds desk m s
takes desk p m s of is key = record {
  of = (ap (λ (q : DeskPass). q.lock) is ∙ of.0, ap (λ (q : DeskPass). q.key) is ∙ of.1);
  holds = ap (λ (q : DeskPass). q.holds) is;
  key = key;
  seen = sym (ap (λ (q : DeskPass). q.seen) is);
}

-- what was done while the pass held the office, told from before it did
pub does : (what : ℕ → Site → Site → Type 0) (k : Key) (p m q : DeskPass) → Came p m → Did (what m.tag) k m q → Does (what p.tag) k p q
does what k p m q c d = (c.0, subst (λ (x : DeskPass). Did (what x.tag) k x q) c.1 d)
