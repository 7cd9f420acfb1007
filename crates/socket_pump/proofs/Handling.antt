-- Datagrams that come, one after another, each followed by rules.
use Rattle.std.proofs.Common.{◌≡◌, ℕ, ◌+◌, ◌<◌, ◌≤◌, ◌⊎◌, inl, inr, Bool, true, false, List, [], ◌∷◌, ◌++◌, length, Option, None, Some, Result, Ok, Err, IfOk, refl, sym, ap, subst, ◌∙◌, arith, append_assoc, length-append, ⊎_elim}
use Rattle.std.proofs.lemmas.List.{append-nil}
use Rattle.frame_codec.specs.Frame.{Fields}
use Rattle.frame_codec.specs.Spelling.{Spells}
use Rattle.frame_codec.specs.declared.fault.FrameFault.{FrameFault}
use Rattle.office_journal.specs.declared.event.Entry.{Entry}
use Rattle.office_journal.specs.declared.reply.Reply.{Reply}
use Rattle.office_journal.specs.declared.reply.Refusal.{Refusal}
use Rattle.office_journal.specs.declared.reply.Refusal.TheVariants as refusal
use Rattle.site_core.specs.Limits.{most_entries}
use Rattle.site_core.specs.Journals.{Site, LacksRoom, Receives, FullAtTheLimit}
use Rattle.site_core.specs.RulesInTurn.{extended, AreNext}
use Rattle.locked_office.specs.declared.advance.Stopped.{Stopped}
use Rattle.locked_office.specs.Advance.{Advances, done_of}
use Rattle.locked_office.specs.Calls.{Key, DeskPass, office_with, Does}
use Rattle.socket_pump.specs.declared.last.LastSend.{LastSend}
use Rattle.socket_pump.specs.declared.pump.PumpFault.{PumpFault}
use Rattle.socket_pump.specs.declared.pump.PumpFault.TheVariants as faults
use Rattle.socket_pump.specs.Wires.{Account, risen}
use Rattle.socket_pump.specs.Last.{heard_since}
use Rattle.socket_pump.specs.Chains.{Heard, Sees, one_taken, taken, Counts, AllCount, answers}
use Rattle.socket_pump.specs.Handling.{Handled, heard_of, Follows, Handles, rules_after, AreDone, AllDone, AreRules, AreHandled, HeardOf, Marks}
use Rattle.socket_pump.specs.Turns.{Times, Faulted, IsFaultOf}
use Rattle.socket_pump.specs.AdaptiveTurns.{Handling, LackedRoom, EndsAt}
use Rattle.socket_pump.specs.refinement.Counts.{Owes}
use Rattle.socket_pump.specs.refinement.Marking.{IsFrom, MarksRead}
use Rattle.socket_pump.specs.refinement.Stages.{HandledOne, HandledFrom, BrokeHandlingOne, BrokeHandlingAll}
use Rattle.socket_pump.proofs.Left.{does_later, sees_self, sees_both}
use Rattle.socket_pump.proofs.Owing.{owes_none, owes_both}
use Rattle.socket_pump.proofs.Hearing.{added_is, took_mine, Reads, no_room, count_both, answers_both, taken_both, faulted_from}

-- ---- the rules that follow it

are_rules : (tag : ℕ) (s : Site) (es : List Entry) → AreNext tag s es → AreRules tag es
are_rules tag s [] h = tt
are_rules tag s (x ∷ xs) (r, next, event, tagged, rest) = (r, event, tagged, are_rules tag (extended s (x ∷ [])) xs rest)

follows_mine : (tag : ℕ) (k : Key) (p q : DeskPass) (answer : Result Reply Refusal) (rules : Result ℕ Stopped) → Follows tag k answer rules p q → (es : List Entry) × AreRules tag es × (q.mine ≡ p.mine ++ es)
follows_mine tag k p q (Ok r) rules (between, did) =
    let same : did.added ≡ did.done.done = added_is p q between did.done.done (λ s s'. Advances tag 64 rules s s') k did (ap (λ (s : Site). s.entries) did.done.added) in
    (did.done.done, are_rules tag (office_with k (p.seen ++ between)) did.done.done did.done.next, ap (λ (x : DeskPass). x.mine) did.left ∙ ap (λ l. p.mine ++ l) same)
follows_mine tag k p q (Err why) rules (none, same) = ([], tt, ap (λ (x : DeskPass). x.mine) same ∙ sym (append-nil p.mine))

pub rules_of : (tag tag' : ℕ) (k : Key) (rules : Result ℕ Stopped) (p q : DeskPass) → tag ≡ tag' → Does (λ s s'. Advances tag 64 rules s s') k p q → Does (λ s s'. Advances tag' 64 rules s s') k p q
rules_of tag tag' k rules p q e does = subst (λ (t : ℕ). Does (λ s s'. Advances t 64 rules s s') k p q) e does

pub follows_taken : (tag : ℕ) (k : Key) (p q : DeskPass) (answer : Result Reply Refusal) (rules : Result ℕ Stopped) → one_taken answer ≡ 1 → Does (λ s s'. Advances tag 64 rules s s') k p q → Follows tag k answer rules p q
follows_taken tag k p q (Ok r) rules one does = does
follows_taken tag k p q (Err why) rules one does = absurd (omega (arith, one))

pub follows_refused : (tag : ℕ) (k : Key) (p : DeskPass) (answer : Result Reply Refusal) → one_taken answer ≡ 0 → Follows tag k answer (Ok 0) p p
follows_refused tag k p (Ok r) none = absurd (omega (arith, none))
follows_refused tag k p (Err why) none = (refl, refl)

-- ---- who was heard

heard_of_both : (hs is : List Handled) → heard_of (hs ++ is) ≡ heard_of hs ++ heard_of is
heard_of_both [] is = refl
heard_of_both (h ∷ hs) is = ap (λ l. h.heard ∷ l) (heard_of_both hs is)

heard_left : (v : ℕ) (hs is : List Heard) → HeardOf v hs → HeardOf v (hs ++ is)
heard_left v [] is x = elim x [ ]
heard_left v (h ∷ hs) is (inl x) = inl x
heard_left v (h ∷ hs) is (inr x) = inr (heard_left v hs is x)

heard_right : (v : ℕ) (hs is : List Heard) → HeardOf v is → HeardOf v (hs ++ is)
heard_right v [] is x = x
heard_right v (h ∷ hs) is x = inr (heard_right v hs is x)

heard_cases : (v : ℕ) (hs is : List Heard) → HeardOf v (hs ++ is) → HeardOf v hs ⊎ HeardOf v is
heard_cases v [] is x = inr x
heard_cases v (h ∷ hs) is (inl x) = inl (inl x)
heard_cases v (h ∷ hs) is (inr x) = ⊎_elim (λ y. inl (inr y)) inr (heard_cases v hs is x)

marks_same : (last then : Times) → ((v n : ℕ) → then v n ≡ last v n) → Marks last [] then
marks_same last then same v n lt = inr (λ x. x, same v n)

-- who was heard twice was heard
heard_twice : (before : Option LastSend) → heard_since (heard_since before) ≡ heard_since before
heard_twice None = refl
heard_twice (Some s) = refl

marks_both : (last mid then : Times) (hs is : List Heard) → Marks last hs mid → Marks mid is then → Marks last (hs ++ is) then
marks_both last mid then hs is f g v n lt = ⊎_elim
    (λ x. ⊎_elim
    (λ y. inl (heard_left v hs is x.0, y.1 ∙ (ap heard_since x.1 ∙ heard_twice (last v n))))
    (λ y. inl (heard_left v hs is x.0, y.1 ∙ x.1))
    (g v n lt))
    (λ x. ⊎_elim
    (λ y. inl (heard_right v hs is y.0, y.1 ∙ ap heard_since x.1))
    (λ y. inr (λ z. ⊎_elim x.0 y.0 (heard_cases v hs is z), y.1 ∙ x.1))
    (g v n lt))
    (f v n lt)

-- what was read of the bytes tells who was heard, where the office took them
pub marks_one : (last then : Times) (bytes : List ℕ) (read : Result Fields FrameFault) (answer : Result Reply Refusal) → IfOk read (Spells bytes) → ((f : Fields) → Spells bytes f → read ≡ Ok f) → one_taken answer ≡ 1 → MarksRead read last then →
    Marks last (record { bytes = bytes; answer = answer } ∷ []) then
marks_one last then bytes read answer found only one marks v n lt = ⊎_elim
    (λ x. inl (inl (of read found x.0), x.1))
    (λ x. inr (λ y. x.0 (back y), x.1))
    (marks v n lt)
  where
    of : (r : Result Fields FrameFault) → IfOk r (Spells bytes) → IsFrom r v → (f : Fields) × Spells bytes f × (f.from ≡ v) × (one_taken answer ≡ 1)
    of (Ok f) h x = (f, h, x, one)
    of (Err fault) h x = elim x [ ]

    back : HeardOf v (record { bytes = bytes; answer = answer } ∷ []) → IsFrom read v
    back (inl (f, spells, from, took)) = subst (λ (r : Result Fields FrameFault). IsFrom r v) (sym (only f spells)) from
    back (inr x) = elim x [ ]

-- nobody is heard by what the office refuses
pub marks_refused : (last : Times) (bytes : List ℕ) (answer : Result Reply Refusal) → one_taken answer ≡ 0 → Marks last (record { bytes = bytes; answer = answer } ∷ []) last
marks_refused last bytes answer none v n lt = inr (nobody, refl)
  where
    nobody : HeardOf v (record { bytes = bytes; answer = answer } ∷ []) → ⊥
    nobody (inl (f, spells, from, took)) = absurd (omega (arith, none, took))
    nobody (inr x) = x

refused_none : (answer : Result Reply Refusal) (why : Refusal) → answer ≡ Err why → one_taken answer ≡ 0
refused_none answer why is = ap one_taken is

-- ---- one datagram

pub handling_one : (tells : Bool) (tag : ℕ) (k : Key) (p m q : DeskPass) (a b : Account) (bytes : List ℕ) (answer : Result Reply Refusal) (rules : Result ℕ Stopped) → Does (λ s s'. Receives s tag bytes answer s') k p m → Counts answer → Follows tag k answer rules m q → AreDone rules →
    b.failures ≡ a.failures → (tells ≡ true → b ≡ record a { received = a.received ++ Some bytes ∷ [] }) → Handling tells tag k p a [] b q (record { heard = record { bytes = bytes; answer = answer }; rules = rules } ∷ [])
handling_one tells tag k p m q a b bytes answer rules does counts follows done f w =
    let t = took_mine tag k p m bytes answer does in
    let r = follows_mine tag k m q answer rules follows in
    record {
      handles = (m, q, does, follows, sees_self q);
      count = (counts, tt);
      done = (done, tt);
      added = t.0 ++ r.0;
      are = (t.0, r.0, [], ap (λ l. t.0 ++ l) (sym (append-nil r.0)), t.1, r.1, refl);
      mine = r.2 ∙ (ap (λ l. l ++ r.0) t.2 ∙ append_assoc p.mine t.0 r.0);
      failures = f;
      wire = w;
    }

-- ---- one that found no room

ends_with : (f : PumpFault) (h : Handled) → LackedRoom f h → EndsAt f (h ∷ [])
ends_with faults.WireFailed h (inl (why, is, none)) = elim none [ ]
ends_with faults.WireFailed h (inr (stopped, is, none)) = elim none [ ]
ends_with faults.Memory h none = ([], h, refl, tt, tt, none)
ends_with faults.JournalFull h none = ([], h, refl, tt, tt, none)

pub broke_handling_at : FullAtTheLimit → (tells : Bool) (tag : ℕ) (k : Key) (last : Times) (p q : DeskPass) (a b : Account) (bytes : List ℕ) (answer : Result Reply Refusal) (why : Refusal) (fault : PumpFault) → Reads bytes →
    Does (λ s s'. Receives s tag bytes answer s') k p q → answer ≡ Err why → IsFaultOf why fault →
    b.failures ≡ a.failures → (tells ≡ true → b ≡ record a { received = a.received ++ Some bytes ∷ [] }) → BrokeHandlingOne tells tag k last p a fault b q last
broke_handling_at law tells tag k last p q a b bytes answer why fault reads does is of f w =
    let m = took_mine tag k p q bytes answer does in
    let refused : Does (λ s s'. Receives s tag bytes (Err why) s') k p q = subst (λ (r : Result Reply Refusal). Does (λ s s'. Receives s tag bytes r s') k p q) is does in (
      record {
        handled = record { heard = record { bytes = bytes; answer = answer }; rules = Ok 0 } ∷ [];
        few = omega arith;
        ends = ends_with fault (record { heard = record { bytes = bytes; answer = answer }; rules = Ok 0 }) (inl (why, is, of));
        handles = (q, q, does, subst (λ (r : Result Reply Refusal). Follows tag k r (Ok 0) q q) (sym is) (refl, refl), sees_self q);
        added = m.0;
        are = (m.0, [], [], sym (append-nil m.0), m.1, tt, refl);
        mine = m.2;
        fault = no_room law tag k p q a b bytes why fault reads refused of f;
        wire = λ t. w t ∙ ap (λ n. record a { failures = n; received = a.received ++ Some bytes ∷ [] }) (sym f);
      },
      omega arith,
      marks_refused last bytes answer (refused_none answer why is),
    )

-- who lacks room for the reason that the journal is full has a full one
lacks : (s : Site) (why : Refusal) → LacksRoom s why → why ≡ refusal.JournalFull → most_entries ≤ length s.entries
lacks s why (inl full) is = full.1
lacks s why (inr memory) is = let none : refusal.Memory ≡ refusal.JournalFull = sym memory ∙ is in absurd cc

stopped_full : (tag : ℕ) (k : Key) (p q : DeskPass) (a b : Account) (stopped : Stopped) (fault : PumpFault) → Does (λ s s'. Advances tag 64 (Err stopped) s s') k p q → IsFaultOf stopped.refusal fault → b.failures ≡ a.failures → Faulted a fault b q
stopped_full tag k p q a b stopped faults.WireFailed does is f = elim is [ ]
stopped_full tag k p q a b stopped faults.Memory does is f = f
stopped_full tag k p q a b stopped faults.JournalFull (between, did) is f = (f, lacks (office_with k q.seen) stopped.refusal did.done.ends.1 is)

-- one datagram, and then a rule for which there was no room
pub broke_handling_after : (tells : Bool) (tag : ℕ) (k : Key) (last then : Times) (p m q : DeskPass) (a b : Account) (bytes : List ℕ) (answer : Result Reply Refusal) (stopped : Stopped) (fault : PumpFault) → Does (λ s s'. Receives s tag bytes answer s') k p m → one_taken answer ≡ 1 →
    Does (λ s s'. Advances tag 64 (Err stopped) s s') k m q → IsFaultOf stopped.refusal fault → b.failures ≡ a.failures → (tells ≡ true → b ≡ record a { received = a.received ++ Some bytes ∷ [] }) →
    Marks last (record { bytes = bytes; answer = answer } ∷ []) then → BrokeHandlingOne tells tag k last p a fault b q then
broke_handling_after tells tag k last then p m q a b bytes answer stopped fault does one advances of f w marks =
    let follows = follows_taken tag k m q answer (Err stopped) one advances in
    let t = took_mine tag k p m bytes answer does in
    let r = follows_mine tag k m q answer (Err stopped) follows in (
      record {
        handled = record { heard = record { bytes = bytes; answer = answer }; rules = Err stopped } ∷ [];
        few = omega arith;
        ends = ends_with fault (record { heard = record { bytes = bytes; answer = answer }; rules = Err stopped }) (inr (stopped, refl, of));
        handles = (m, q, does, follows, sees_self q);
        added = t.0 ++ r.0;
        are = (t.0, r.0, [], ap (λ l. t.0 ++ l) (sym (append-nil r.0)), t.1, r.1, refl);
        mine = r.2 ∙ (ap (λ l. l ++ r.0) t.2 ∙ append_assoc p.mine t.0 r.0);
        fault = stopped_full tag k m q a b stopped fault advances of f;
        wire = λ t. w t ∙ ap (λ n. record a { failures = n; received = a.received ++ Some bytes ∷ [] }) (sym f);
      },
      omega arith,
      marks,
    )

-- the wire failed before anything came
pub broke_handling_wire : (tells : Bool) (tag : ℕ) (k : Key) (last : Times) (p : DeskPass) (a b : Account) → b.failures ≡ risen a.failures → (tells ≡ true → b ≡ record a { failures = b.failures }) → BrokeHandlingOne tells tag k last p a faults.WireFailed b p last
broke_handling_wire tells tag k last p a b f w = (
  record {
    handled = [];
    few = omega arith;
    ends = (tt, tt);
    handles = sees_self p;
    added = [];
    are = refl;
    mine = sym (append-nil p.mine);
    fault = f;
    wire = λ t. w t ∙ (λ i. record a { failures = b.failures; received = sym (append-nil a.received) i });
  },
  omega arith,
  marks_same last last (λ v n. refl),
)

-- ---- one more

handles_sees : (tag : ℕ) (k : Key) (p m q : DeskPass) (hs : List Handled) → Handles tag k p hs m → Sees m q → Handles tag k p hs q
handles_sees tag k p m q [] h s = sees_both p m q h s
handles_sees tag k p m q (x ∷ xs) h s = (h.0, h.1, h.2, h.3, handles_sees tag k h.1 m q xs h.4 s)

handles_both : (tag : ℕ) (k : Key) (p m q : DeskPass) (hs is : List Handled) → Handles tag k p hs m → Handles tag k m is q → Handles tag k p (hs ++ is) q
handles_both tag k p m q [] [] h i = sees_both p m q h i
handles_both tag k p m q [] (x ∷ xs) h i = (i.0, i.1, does_later (λ s s'. Receives s tag x.heard.bytes x.heard.answer s') k p m i.0 h i.2, i.3, i.4)
handles_both tag k p m q (x ∷ xs) is h i = (h.0, h.1, h.2, h.3, handles_both tag k h.1 m q xs is h.4 i)

done_both : (hs is : List Handled) → AllDone hs → AllDone is → AllDone (hs ++ is)
done_both [] is h i = i
done_both (x ∷ xs) is h i = (h.0, done_both xs is h.1 i)

count_on : (hs is : List Handled) → AllCount (heard_of hs) → AllCount (heard_of is) → AllCount (heard_of (hs ++ is))
count_on hs is h i = subst AllCount (sym (heard_of_both hs is)) (count_both (heard_of hs) (heard_of is) h i)

handled_both : (tag : ℕ) (hs is : List Handled) (es fs : List Entry) → AreHandled tag hs es → AreHandled tag is fs → AreHandled tag (hs ++ is) (es ++ fs)
handled_both tag [] is es fs h i = subst (λ (l : List Entry). AreHandled tag is (l ++ fs)) (sym h) i
handled_both tag (x ∷ xs) is es fs h i = (
  h.0,
  h.1,
  h.2 ++ fs,
  ap (λ l. l ++ fs) h.3 ∙ (append_assoc h.0 (h.1 ++ h.2) fs ∙ ap (λ l. h.0 ++ l) (append_assoc h.1 h.2 fs)),
  h.4,
  h.5,
  handled_both tag xs is h.2 fs h.6 i,
)

rules_both : (hs is : List Handled) → rules_after (hs ++ is) ≡ rules_after hs + rules_after is
rules_both [] is = omega arith
rules_both (x ∷ xs) is = omega (arith, rules_both xs is)

-- what the wire answered before, and then
received_on : (a b : Account) (hs is : List Handled) (ends : List (Option (List ℕ))) → b ≡ record a { received = a.received ++ answers (heard_of hs) [] } →
    record b { received = b.received ++ answers (heard_of is) ends } ≡ record a { received = a.received ++ answers (heard_of (hs ++ is)) ends }
received_on a b hs is ends e =
    ap (λ (x : Account). record x { received = x.received ++ answers (heard_of is) ends }) e
    ∙ ap (λ l. record a { received = l }) (append_assoc a.received (answers (heard_of hs) []) (answers (heard_of is) ends)
    ∙ ap (λ l. a.received ++ l) (answers_both (heard_of hs) (heard_of is) ends ∙ ap (λ l. answers l ends) (sym (heard_of_both hs is))))

handling_both : (tells : Bool) (tag : ℕ) (k : Key) (p m q : DeskPass) (a b d : Account) (ends : List (Option (List ℕ))) (hs is : List Handled) → Handling tells tag k p a [] b m hs → Handling tells tag k m b ends d q is → Handling tells tag k p a ends d q (hs ++ is)
handling_both tells tag k p m q a b d ends hs is h i = record {
  handles = handles_both tag k p m q hs is h.handles i.handles;
  count = count_on hs is h.count i.count;
  done = done_both hs is h.done i.done;
  added = h.added ++ i.added;
  are = handled_both tag hs is h.added i.added h.are i.are;
  mine = i.mine ∙ (ap (λ l. l ++ i.added) h.mine ∙ append_assoc p.mine h.added i.added);
  failures = i.failures ∙ h.failures;
  wire = λ t. i.wire t ∙ received_on a b hs is ends (h.wire t);
}

-- no datagram came
handling_end : (tells : Bool) (tag : ℕ) (k : Key) (p : DeskPass) (a b : Account) → b.failures ≡ a.failures → (tells ≡ true → b ≡ record a { received = a.received ++ None ∷ [] }) → Handling tells tag k p a (None ∷ []) b p []
handling_end tells tag k p a b f w = record { handles = sees_self p; count = tt; done = tt; added = []; are = refl; mine = sym (append-nil p.mine); failures = f; wire = w }

handling_none : (tells : Bool) (tag : ℕ) (k : Key) (p : DeskPass) (a : Account) → Handling tells tag k p a [] a p []
handling_none tells tag k p a = record {
  handles = sees_self p;
  count = tt;
  done = tt;
  added = [];
  are = refl;
  mine = sym (append-nil p.mine);
  failures = refl;
  wire = λ t. λ i. record a { received = sym (append-nil a.received) i };
}

-- ---- so far

-- so many were taken and refused, so many rules followed them; these are owed a count, and that is remembered of messages, before and then
pub record HandledSoFar (tells : Bool) (tag : ℕ) (k : Key) (last : Times) (p : DeskPass) (a : Account) (s : List Bool) (took refused rules : ℕ) (b : Account) (q : DeskPass) (t : List Bool) (then : Times) : Type 0 where
  pub handled : List Handled
  pub handling : Handling tells tag k p a [] b q handled
  pub taken : taken (heard_of handled) ≡ took
  pub all : length handled ≡ took + refused
  pub ruled : rules_after handled ≡ rules
  pub owes : Owes s (heard_of handled) t
  pub marks : Marks last (heard_of handled) then

pub none_handled : (tells : Bool) (tag : ℕ) (k : Key) (last : Times) (p : DeskPass) (a : Account) (s : List Bool) → HandledSoFar tells tag k last p a s 0 0 0 a p s last
none_handled tells tag k last p a s = record {
  handled = [];
  handling = handling_none tells tag k p a;
  taken = refl;
  all = refl;
  ruled = refl;
  owes = owes_none s;
  marks = marks_same last last (λ v n. refl);
}

so_far_both : (tells : Bool) (tag : ℕ) (k : Key) (last mid then : Times) (p m q : DeskPass) (a b d : Account) (s o t : List Bool) (took refused rules n r more : ℕ) (h : Handled) → HandledSoFar tells tag k last p a s took refused rules b m o mid → Handling tells tag k m b [] d q (h ∷ []) →
    taken (heard_of (h ∷ [])) ≡ n → done_of h.rules ≡ more → Owes o (heard_of (h ∷ [])) t → Marks mid (heard_of (h ∷ [])) then → n + r ≡ 1 → HandledSoFar tells tag k last p a s (took + n) (refused + r) (rules + more) d q t then
so_far_both tells tag k last mid then p m q a b d s o t took refused rules n r more h x one is ruled owed marks sum = record {
  handled = x.handled ++ h ∷ [];
  handling = handling_both tells tag k p m q a b d [] x.handled (h ∷ []) x.handling one;
  taken = omega (arith, ap taken (heard_of_both x.handled (h ∷ [])), taken_both (heard_of x.handled) (heard_of (h ∷ [])), x.taken, is);
  all = omega (arith, length-append x.handled (h ∷ []), x.all, sum);
  ruled = omega (arith, rules_both x.handled (h ∷ []), x.ruled, ruled);
  owes = subst (λ (l : List Heard). Owes s l t) (sym (heard_of_both x.handled (h ∷ []))) (owes_both s o t (heard_of x.handled) (heard_of (h ∷ [])) x.owes owed);
  marks = subst (λ (l : List Heard). Marks last l then) (sym (heard_of_both x.handled (h ∷ []))) (marks_both last mid then (heard_of x.handled) (heard_of (h ∷ [])) x.marks marks);
}

pub one_taken_on : (tells : Bool) (tag : ℕ) (k : Key) (last mid then : Times) (p m q : DeskPass) (a b d : Account) (s o t : List Bool) (took refused rules more : ℕ) → HandledSoFar tells tag k last p a s took refused rules b m o mid → HandledOne tells tag k mid m b o (Some (true, more)) d q t then →
    HandledSoFar tells tag k last p a s (took + 1) refused (rules + more) d q t then
one_taken_on tells tag k last mid then p m q a b d s o t took refused rules more x (h, one, is, ruled, owes, marks) =
    subst (λ r. HandledSoFar tells tag k last p a s (took + 1) r (rules + more) d q t then) (omega arith) (so_far_both tells tag k last mid then p m q a b d s o t took refused rules 1 0 more h x one is ruled owes marks refl)

pub one_refused_on : (tells : Bool) (tag : ℕ) (k : Key) (last mid then : Times) (p m q : DeskPass) (a b d : Account) (s o t : List Bool) (took refused rules more : ℕ) → HandledSoFar tells tag k last p a s took refused rules b m o mid → HandledOne tells tag k mid m b o (Some (false, more)) d q t then →
    HandledSoFar tells tag k last p a s took (refused + 1) (rules + more) d q t then
one_refused_on tells tag k last mid then p m q a b d s o t took refused rules more x (h, one, is, ruled, owes, marks) =
    subst (λ n. HandledSoFar tells tag k last p a s n (refused + 1) (rules + more) d q t then) (omega arith) (so_far_both tells tag k last mid then p m q a b d s o t took refused rules 0 1 more h x one is ruled owes marks refl)

-- ---- the end

pub handled_all_full : (tells : Bool) (tag : ℕ) (k : Key) (last then : Times) (p q : DeskPass) (a b : Account) (s t : List Bool) (took refused rules : ℕ) → HandledSoFar tells tag k last p a s took refused rules b q t then → took + refused ≡ 32 → HandledFrom tells tag k last p a s took refused rules b q t then
handled_all_full tells tag k last then p q a b s t took refused rules x full =
    (record { ends = []; handled = x.handled; ended = inl (x.all ∙ full, refl); handling = x.handling; taken = x.taken; all = x.all }, x.ruled, x.owes, x.marks)

pub handled_all_fewer : (tells : Bool) (tag : ℕ) (k : Key) (last mid then : Times) (p m q : DeskPass) (a b d : Account) (s o t : List Bool) (took refused rules : ℕ) → HandledSoFar tells tag k last p a s took refused rules b m o mid → took + refused < 32 → HandledOne tells tag k mid m b o None d q t then →
    HandledFrom tells tag k last p a s took refused rules d q t then
handled_all_fewer tells tag k last mid then p m q a b d s o t took refused rules x few (same, f, w, owed, times) =
    let all = handling_both tells tag k p m m a b d (None ∷ []) x.handled [] x.handling (handling_end tells tag k m b d f w) in
    let these : Handling tells tag k p a (None ∷ []) d m x.handled = subst (λ (hs : List Handled). Handling tells tag k p a (None ∷ []) d m hs) (append-nil x.handled) all in (
      record {
        ends = None ∷ [];
        handled = x.handled;
        ended = inr (omega (arith, x.all, few), refl);
        handling = subst (λ (y : DeskPass). Handling tells tag k p a (None ∷ []) d y x.handled) (sym same) these;
        taken = x.taken;
        all = x.all;
      },
      x.ruled,
      subst (λ (l : List Bool). Owes s (heard_of x.handled) l) (sym owed) x.owes,
      subst (λ (l : List Heard). Marks last l then) (append-nil (heard_of x.handled)) (marks_both last mid then (heard_of x.handled) [] x.marks (marks_same mid then times)),
    )

ends_later : (f : PumpFault) (hs is : List Handled) → AllCount (heard_of hs) → AllDone hs → EndsAt f is → EndsAt f (hs ++ is)
ends_later faults.WireFailed hs is c d e = (count_on hs is c e.0, done_both hs is d e.1)
ends_later faults.Memory hs is c d (before, h, at, counts, done, none) =
    (hs ++ before, h, ap (λ l. hs ++ l) at ∙ sym (append_assoc hs before (h ∷ [])), count_on hs before c counts, done_both hs before d done, none)
ends_later faults.JournalFull hs is c d (before, h, at, counts, done, none) =
    (hs ++ before, h, ap (λ l. hs ++ l) at ∙ sym (append_assoc hs before (h ∷ [])), count_on hs before c counts, done_both hs before d done, none)

pub broke_handling_later : (tells : Bool) (tag : ℕ) (k : Key) (last mid then : Times) (p m q : DeskPass) (a b d : Account) (before after : List Bool) (took refused rules : ℕ) (fault : PumpFault) → HandledSoFar tells tag k last p a before took refused rules b m after mid → took + refused < 32 →
    BrokeHandlingOne tells tag k mid m b fault d q then → BrokeHandlingAll tells tag k last p a fault d q then
broke_handling_later tells tag k last mid then p m q a b d before after took refused rules fault s few (x, one, marks) = (
  record {
    handled = s.handled ++ x.handled;
    few = omega (arith, length-append s.handled x.handled, s.all, few, one);
    ends = ends_later fault s.handled x.handled s.handling.count s.handling.done x.ends;
    handles = handles_both tag k p m q s.handled x.handled s.handling.handles x.handles;
    added = s.handling.added ++ x.added;
    are = handled_both tag s.handled x.handled s.handling.added x.added s.handling.are x.are;
    mine = x.mine ∙ (ap (λ l. l ++ x.added) s.handling.mine ∙ append_assoc p.mine s.handling.added x.added);
    fault = faulted_from a b d fault q s.handling.failures x.fault;
    wire = λ t. x.wire t ∙ ap (λ (y : Account). record y { failures = d.failures }) (received_on a b s.handled x.handled [] (s.handling.wire t));
  },
  subst (λ (l : List Heard). Marks last l then) (sym (heard_of_both s.handled x.handled)) (marks_both last mid then (heard_of s.handled) (heard_of x.handled) s.marks marks),
)
