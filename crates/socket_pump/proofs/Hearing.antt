-- Datagrams that come, one after another.
use Rattle.std.proofs.Common.{◌≡◌, ℕ, ◌+◌, ◌<◌, ◌≤◌, inl, inr, Bool, true, false, List, [], ◌∷◌, ◌++◌, length, Option, None, Some, Result, Ok, Err, IfOk, refl, sym, ap, subst, ◌∙◌, arith, append_assoc, length-append}
use Rattle.std.specs.Result.{result_err}
use Rattle.std.proofs.lemmas.List.{append-nil, append_cancel_left}
use Rattle.frame_codec.specs.Frame.{Fields}
use Rattle.frame_codec.specs.Spelling.{Spells, first_fault}
use Rattle.frame_codec.specs.declared.fault.FrameFault.{FrameFault}
use Rattle.own_lock.specs.Passes.{pass_after_take}
use Rattle.office_journal.specs.declared.event.Entry.{Entry}
use Rattle.office_journal.specs.declared.event.Event.TheVariants.{Took}
use Rattle.office_journal.specs.declared.reply.Reply.{Reply}
use Rattle.office_journal.specs.declared.reply.Refusal.{Refusal}
use Rattle.office_journal.specs.declared.reply.Refusal.TheVariants as refusal
use Rattle.site_core.specs.Limits.{most_entries}
use Rattle.site_core.specs.Journals.{Site, Enters, TakesRead, Receives, FullAtTheLimit, ReadIsReceived}
use Rattle.locked_office.specs.Calls.{Key, DeskPass, office_with, Did, Does}
use Rattle.socket_pump.specs.declared.pump.PumpFault.{PumpFault}
use Rattle.socket_pump.specs.declared.pump.PumpFault.TheVariants as faults
use Rattle.socket_pump.specs.Wires.{Account, risen}
use Rattle.socket_pump.specs.Chains.{Heard, Sees, Hears, taken, Counts, AllCount, IsTook, AreTooks, answers}
use Rattle.socket_pump.specs.Turns.{Hearing, BrokeHearing, Faulted, IsFaultOf, HadNoRoom, EndsBy}
use Rattle.socket_pump.specs.refinement.Counts.{Owes}
use Rattle.socket_pump.specs.refinement.Stages.{HeardOne, HeardFrom, BrokeOne}
use Rattle.socket_pump.proofs.Left.{does_later, sees_self, sees_both}
use Rattle.socket_pump.proofs.Owing.{owes_none, owes_both}

-- ---- one call

-- what a call added is what the journal has more
pub added_is : (p q : DeskPass) (between es : List Entry) (what : Site → Site → Type 0) (k : Key) (did : Did what k (pass_after_take p (p.seen ++ between)) q) → q.seen ≡ (p.seen ++ between) ++ es → did.added ≡ es
added_is p q between es what k did e = append_cancel_left (p.seen ++ between) did.added es (sym (ap (λ (x : DeskPass). x.seen) did.left) ∙ e)

took_entry : (tag : ℕ) (k : Key) (p q : DeskPass) (between : List Entry) (bytes : List ℕ) (answer : Result Reply Refusal) (did : Did (λ s s'. Receives s tag bytes answer s') k (pass_after_take p (p.seen ++ between)) q) →
    Enters (office_with k (p.seen ++ between)) tag bytes answer (office_with k q.seen) → IsTook tag bytes answer did.added
took_entry tag k p q between bytes (Ok r) did (f, spells, noted) =
    (f, spells, added_is p q between (record { tag = tag; event = Took f; reply = r } ∷ []) (λ s s'. Receives s tag bytes (Ok r) s') k did (ap (λ (s : Site). s.entries) noted))
took_entry tag k p q between bytes (Err why) did same =
    added_is p q between [] (λ s s'. Receives s tag bytes (Err why) s') k did (ap (λ (s : Site). s.entries) same ∙ sym (append-nil (p.seen ++ between)))

pub took_mine : (tag : ℕ) (k : Key) (p q : DeskPass) (bytes : List ℕ) (answer : Result Reply Refusal) → Does (λ s s'. Receives s tag bytes answer s') k p q → (es : List Entry) × IsTook tag bytes answer es × (q.mine ≡ p.mine ++ es)
took_mine tag k p q bytes answer (between, did) = (did.added, took_entry tag k p q between bytes answer did did.done.entry, ap (λ (x : DeskPass). x.mine) did.left)

pub hearing_one : (tells : Bool) (tag : ℕ) (k : Key) (p q : DeskPass) (a b : Account) (bytes : List ℕ) (answer : Result Reply Refusal) → Does (λ s s'. Receives s tag bytes answer s') k p q → Counts answer →
    b.failures ≡ a.failures → (tells ≡ true → b ≡ record a { received = a.received ++ Some bytes ∷ [] }) → Hearing tells tag k p a [] b q (record { bytes = bytes; answer = answer } ∷ [])
hearing_one tells tag k p q a b bytes answer does counts f w =
    let m = took_mine tag k p q bytes answer does in
    record {
      hears = (q, does, sees_self q);
      count = (counts, tt);
      tooks = m.0;
      are = (m.0, [], sym (append-nil m.0), m.1, refl);
      mine = m.2;
      failures = f;
      wire = w;
    }

-- ---- one that found no room

-- bytes spell a frame, or a fault applies
pub data Reads (bytes : List ℕ) : Type 0 where
  AsFrame : (f : Fields) (spells : Spells bytes f) → Reads bytes
  AsFault : (fault : FrameFault) (applies : first_fault bytes ≡ Some fault) → Reads bytes

pub reads : (bytes : List ℕ) (d : Result Fields FrameFault) → IfOk d (Spells bytes) → result_err d ≡ first_fault bytes → Reads bytes
reads bytes (Ok f) h e = AsFrame f h
reads bytes (Err fault) h e = AsFault fault (sym e)

-- what was read of the bytes was taken, so they were received
pub read_received : ReadIsReceived → (tag : ℕ) (k : Key) (p q : DeskPass) (bytes : List ℕ) (read : Result Fields FrameFault) (answer : Result Reply Refusal) → IfOk read (Spells bytes) → ((f : Fields) → Spells bytes f → read ≡ Ok f) → result_err read ≡ first_fault bytes →
    Does (λ s s'. TakesRead s tag read answer s') k p q → Does (λ s s'. Receives s tag bytes answer s') k p q
read_received law tag k p q bytes read answer found only fault (between, did) = (
  between,
  record {
    done = law (office_with k (p.seen ++ between)) tag bytes read answer (office_with k q.seen) (record { found = found; only = only; fault = fault }) did.done;
    legal = did.legal;
    added = did.added;
    left = did.left;
  },
)

full_where : FullAtTheLimit → (s s' : Site) (tag : ℕ) (bytes : List ℕ) → Reads bytes → Receives s tag bytes (Err refusal.JournalFull) s' → most_entries ≤ length s.entries
full_where law s s' tag bytes (AsFrame f h) r = law s tag (Took f) s' (r.frame f h)
full_where law s s' tag bytes (AsFault fault applies) r = let e = (r.fault fault applies).0 in absurd cc

pub no_room : FullAtTheLimit → (tag : ℕ) (k : Key) (p q : DeskPass) (a b : Account) (bytes : List ℕ) (why : Refusal) (fault : PumpFault) → Reads bytes → Does (λ s s'. Receives s tag bytes (Err why) s') k p q → IsFaultOf why fault →
    b.failures ≡ a.failures → Faulted a fault b q
no_room law tag k p q a b bytes why faults.WireFailed reads does is f = elim is [ ]
no_room law tag k p q a b bytes why faults.Memory reads does is f = f
no_room law tag k p q a b bytes why faults.JournalFull reads (between, did) is f =
    let r = subst (λ (w : Refusal). Receives (office_with k (p.seen ++ between)) tag bytes (Err w) (office_with k q.seen)) is did.done in
    let full = full_where law (office_with k (p.seen ++ between)) (office_with k q.seen) tag bytes reads r in
    (f, subst (λ (es : List Entry). most_entries ≤ length es) (sym (ap (λ (s : Site). s.entries) did.done.entry)) full)

-- one datagram, for which there was no room
ends_with : (f : PumpFault) (h : Heard) → HadNoRoom f h → EndsBy f (h ∷ [])
ends_with faults.WireFailed h (why, is, none) = elim none [ ]
ends_with faults.Memory h none = ([], h, refl, tt, none)
ends_with faults.JournalFull h none = ([], h, refl, tt, none)

pub broke_at : FullAtTheLimit → (tells : Bool) (tag : ℕ) (k : Key) (p q : DeskPass) (a b : Account) (bytes : List ℕ) (answer : Result Reply Refusal) (why : Refusal) (fault : PumpFault) → Reads bytes →
    Does (λ s s'. Receives s tag bytes answer s') k p q → answer ≡ Err why → IsFaultOf why fault →
    b.failures ≡ a.failures → (tells ≡ true → b ≡ record a { received = a.received ++ Some bytes ∷ [] }) → BrokeOne tells tag k p a fault b q
broke_at law tells tag k p q a b bytes answer why fault reads does is of f w =
    let m = took_mine tag k p q bytes answer does in
    let refused : Does (λ s s'. Receives s tag bytes (Err why) s') k p q = subst (λ (r : Result Reply Refusal). Does (λ s s'. Receives s tag bytes r s') k p q) is does in (
      record {
        heard = record { bytes = bytes; answer = answer } ∷ [];
        few = omega arith;
        ends = ends_with fault (record { bytes = bytes; answer = answer }) (why, is, of);
        hears = (q, does, sees_self q);
        tooks = m.0;
        are = (m.0, [], sym (append-nil m.0), m.1, refl);
        mine = m.2;
        fault = no_room law tag k p q a b bytes why fault reads refused of f;
        wire = λ t. w t ∙ ap (λ n. record a { failures = n; received = a.received ++ Some bytes ∷ [] }) (sym f);
      },
      omega arith,
    )

-- the wire failed before anything came
pub broke_wire : (tells : Bool) (tag : ℕ) (k : Key) (p : DeskPass) (a b : Account) → b.failures ≡ risen a.failures → (tells ≡ true → b ≡ record a { failures = b.failures }) → BrokeOne tells tag k p a faults.WireFailed b p
broke_wire tells tag k p a b f w = (
  record {
    heard = [];
    few = omega arith;
    ends = tt;
    hears = sees_self p;
    tooks = [];
    are = refl;
    mine = sym (append-nil p.mine);
    fault = f;
    wire = λ t. w t ∙ (λ i. record a { failures = b.failures; received = sym (append-nil a.received) i });
  },
  omega arith,
)

-- ---- one more

hears_sees : (tag : ℕ) (k : Key) (p m q : DeskPass) (hs : List Heard) → Hears tag k p hs m → Sees m q → Hears tag k p hs q
hears_sees tag k p m q [] h s = sees_both p m q h s
hears_sees tag k p m q (x ∷ xs) h s = (h.0, h.1, hears_sees tag k h.0 m q xs h.2 s)

hears_both : (tag : ℕ) (k : Key) (p m q : DeskPass) (hs is : List Heard) → Hears tag k p hs m → Hears tag k m is q → Hears tag k p (hs ++ is) q
hears_both tag k p m q [] [] h i = sees_both p m q h i
hears_both tag k p m q [] (x ∷ xs) h i = (i.0, does_later (λ s s'. Receives s tag x.bytes x.answer s') k p m i.0 h i.1, i.2)
hears_both tag k p m q (x ∷ xs) is h i = (h.0, h.1, hears_both tag k h.0 m q xs is h.2 i)

pub count_both : (hs is : List Heard) → AllCount hs → AllCount is → AllCount (hs ++ is)
count_both [] is h i = i
count_both (x ∷ xs) is h i = (h.0, count_both xs is h.1 i)

tooks_both : (tag : ℕ) (hs is : List Heard) (es fs : List Entry) → AreTooks tag hs es → AreTooks tag is fs → AreTooks tag (hs ++ is) (es ++ fs)
tooks_both tag [] is es fs h i = subst (λ (l : List Entry). AreTooks tag is (l ++ fs)) (sym h) i
tooks_both tag (x ∷ xs) is es fs h i = (h.0, h.1 ++ fs, ap (λ l. l ++ fs) h.2 ∙ append_assoc h.0 h.1 fs, h.3, tooks_both tag xs is h.1 fs h.4 i)

pub answers_both : (hs is : List Heard) (ends : List (Option (List ℕ))) → answers hs [] ++ answers is ends ≡ answers (hs ++ is) ends
answers_both [] is ends = refl
answers_both (x ∷ xs) is ends = ap (λ l. Some x.bytes ∷ l) (answers_both xs is ends)

pub taken_both : (hs is : List Heard) → taken (hs ++ is) ≡ taken hs + taken is
taken_both [] is = omega arith
taken_both (x ∷ xs) is = omega (arith, taken_both xs is)

-- what the wire answered before, and then
received_both : (a b : Account) (hs is : List Heard) (ends : List (Option (List ℕ))) → b ≡ record a { received = a.received ++ answers hs [] } →
    record b { received = b.received ++ answers is ends } ≡ record a { received = a.received ++ answers (hs ++ is) ends }
received_both a b hs is ends e =
    ap (λ (x : Account). record x { received = x.received ++ answers is ends }) e ∙ ap (λ l. record a { received = l }) (append_assoc a.received (answers hs []) (answers is ends) ∙ ap (λ l. a.received ++ l) (answers_both hs is ends))

hearing_both : (tells : Bool) (tag : ℕ) (k : Key) (p m q : DeskPass) (a b d : Account) (ends : List (Option (List ℕ))) (hs is : List Heard) → Hearing tells tag k p a [] b m hs → Hearing tells tag k m b ends d q is → Hearing tells tag k p a ends d q (hs ++ is)
hearing_both tells tag k p m q a b d ends hs is h i = record {
  hears = hears_both tag k p m q hs is h.hears i.hears;
  count = count_both hs is h.count i.count;
  tooks = h.tooks ++ i.tooks;
  are = tooks_both tag hs is h.tooks i.tooks h.are i.are;
  mine = i.mine ∙ (ap (λ l. l ++ i.tooks) h.mine ∙ append_assoc p.mine h.tooks i.tooks);
  failures = i.failures ∙ h.failures;
  wire = λ t. i.wire t ∙ received_both a b hs is ends (h.wire t);
}

-- no datagram came
hearing_end : (tells : Bool) (tag : ℕ) (k : Key) (p : DeskPass) (a b : Account) → b.failures ≡ a.failures → (tells ≡ true → b ≡ record a { received = a.received ++ None ∷ [] }) → Hearing tells tag k p a (None ∷ []) b p []
hearing_end tells tag k p a b f w = record { hears = sees_self p; count = tt; tooks = []; are = refl; mine = sym (append-nil p.mine); failures = f; wire = w }

hearing_none : (tells : Bool) (tag : ℕ) (k : Key) (p : DeskPass) (a : Account) → Hearing tells tag k p a [] a p []
hearing_none tells tag k p a = record {
  hears = sees_self p;
  count = tt;
  tooks = [];
  are = refl;
  mine = sym (append-nil p.mine);
  failures = refl;
  wire = λ t. λ i. record a { received = sym (append-nil a.received) i };
}

-- ---- so far

-- so many were taken and refused, and these are owed a count, before and then
pub record HeardSoFar (tells : Bool) (tag : ℕ) (k : Key) (p : DeskPass) (a : Account) (s : List Bool) (took refused : ℕ) (b : Account) (q : DeskPass) (t : List Bool) : Type 0 where
  pub heard : List Heard
  pub hearing : Hearing tells tag k p a [] b q heard
  pub taken : taken heard ≡ took
  pub all : length heard ≡ took + refused
  pub owes : Owes s heard t

pub so_far_none : (tells : Bool) (tag : ℕ) (k : Key) (p : DeskPass) (a : Account) (s : List Bool) → HeardSoFar tells tag k p a s 0 0 a p s
so_far_none tells tag k p a s = record { heard = []; hearing = hearing_none tells tag k p a; taken = refl; all = refl; owes = owes_none s }

so_far_both : (tells : Bool) (tag : ℕ) (k : Key) (p m q : DeskPass) (a b d : Account) (s o t : List Bool) (took refused n r : ℕ) (h : Heard) → HeardSoFar tells tag k p a s took refused b m o → Hearing tells tag k m b [] d q (h ∷ []) →
    taken (h ∷ []) ≡ n → Owes o (h ∷ []) t → n + r ≡ 1 → HeardSoFar tells tag k p a s (took + n) (refused + r) d q t
so_far_both tells tag k p m q a b d s o t took refused n r h x one is more sum = record {
  heard = x.heard ++ h ∷ [];
  hearing = hearing_both tells tag k p m q a b d [] x.heard (h ∷ []) x.hearing one;
  taken = omega (arith, taken_both x.heard (h ∷ []), x.taken, is);
  all = omega (arith, length-append x.heard (h ∷ []), x.all, sum);
  owes = owes_both s o t x.heard (h ∷ []) x.owes more;
}

pub one_taken_more : (tells : Bool) (tag : ℕ) (k : Key) (p m q : DeskPass) (a b d : Account) (s o t : List Bool) (took refused : ℕ) → HeardSoFar tells tag k p a s took refused b m o → HeardOne tells tag k m b o (Some true) d q t →
    HeardSoFar tells tag k p a s (took + 1) refused d q t
one_taken_more tells tag k p m q a b d s o t took refused x (h, one, is, owes) =
    subst (λ r. HeardSoFar tells tag k p a s (took + 1) r d q t) (omega arith) (so_far_both tells tag k p m q a b d s o t took refused 1 0 h x one is owes refl)

pub one_refused_more : (tells : Bool) (tag : ℕ) (k : Key) (p m q : DeskPass) (a b d : Account) (s o t : List Bool) (took refused : ℕ) → HeardSoFar tells tag k p a s took refused b m o → HeardOne tells tag k m b o (Some false) d q t →
    HeardSoFar tells tag k p a s took (refused + 1) d q t
one_refused_more tells tag k p m q a b d s o t took refused x (h, one, is, owes) =
    subst (λ n. HeardSoFar tells tag k p a s n (refused + 1) d q t) (omega arith) (so_far_both tells tag k p m q a b d s o t took refused 0 1 h x one is owes refl)

-- ---- the end

pub heard_all_full : (tells : Bool) (tag : ℕ) (k : Key) (p q : DeskPass) (a b : Account) (s t : List Bool) (took refused : ℕ) → HeardSoFar tells tag k p a s took refused b q t → took + refused ≡ 32 → HeardFrom tells tag k p a s took refused b q t
heard_all_full tells tag k p q a b s t took refused x full =
    (record { ends = []; heard = x.heard; ended = inl (x.all ∙ full, refl); hearing = x.hearing; taken = x.taken; all = x.all }, x.owes)

pub heard_all_fewer : (tells : Bool) (tag : ℕ) (k : Key) (p m q : DeskPass) (a b d : Account) (s o t : List Bool) (took refused : ℕ) → HeardSoFar tells tag k p a s took refused b m o → took + refused < 32 → HeardOne tells tag k m b o None d q t →
    HeardFrom tells tag k p a s took refused d q t
heard_all_fewer tells tag k p m q a b d s o t took refused x few (same, f, w, owed) =
    let all = hearing_both tells tag k p m m a b d (None ∷ []) x.heard [] x.hearing (hearing_end tells tag k m b d f w) in
    let these : Hearing tells tag k p a (None ∷ []) d m x.heard = subst (λ (hs : List Heard). Hearing tells tag k p a (None ∷ []) d m hs) (append-nil x.heard) all in (
      record {
        ends = None ∷ [];
        heard = x.heard;
        ended = inr (omega (arith, x.all, few), refl);
        hearing = subst (λ (y : DeskPass). Hearing tells tag k p a (None ∷ []) d y x.heard) (sym same) these;
        taken = x.taken;
        all = x.all;
      },
      subst (λ (l : List Bool). Owes s x.heard l) (sym owed) x.owes,
    )

pub faulted_from : (a b d : Account) (fault : PumpFault) (q : DeskPass) → b.failures ≡ a.failures → Faulted b fault d q → Faulted a fault d q
faulted_from a b d faults.WireFailed q e f = f ∙ ap risen e
faulted_from a b d faults.Memory q e f = f ∙ e
faulted_from a b d faults.JournalFull q e f = (f.0 ∙ e, f.1)

ends_later : (f : PumpFault) (hs is : List Heard) → AllCount hs → EndsBy f is → EndsBy f (hs ++ is)
ends_later faults.WireFailed hs is c e = count_both hs is c e
ends_later faults.Memory hs is c (before, h, at, counts, none) = (hs ++ before, h, ap (λ l. hs ++ l) at ∙ sym (append_assoc hs before (h ∷ [])), count_both hs before c counts, none)
ends_later faults.JournalFull hs is c (before, h, at, counts, none) = (hs ++ before, h, ap (λ l. hs ++ l) at ∙ sym (append_assoc hs before (h ∷ [])), count_both hs before c counts, none)

pub broke_later : (tells : Bool) (tag : ℕ) (k : Key) (p m q : DeskPass) (a b d : Account) (before after : List Bool) (took refused : ℕ) (fault : PumpFault) → HeardSoFar tells tag k p a before took refused b m after → took + refused < 32 → BrokeOne tells tag k m b fault d q →
    BrokeHearing tells tag k p a fault d q
broke_later tells tag k p m q a b d before after took refused fault s few (x, one) = record {
  heard = s.heard ++ x.heard;
  few = omega (arith, length-append s.heard x.heard, s.all, few, one);
  ends = ends_later fault s.heard x.heard s.hearing.count x.ends;
  hears = hears_both tag k p m q s.heard x.heard s.hearing.hears x.hears;
  tooks = s.hearing.tooks ++ x.tooks;
  are = tooks_both tag s.heard x.heard s.hearing.tooks x.tooks s.hearing.are x.are;
  mine = x.mine ∙ (ap (λ l. l ++ x.tooks) s.hearing.mine ∙ append_assoc p.mine s.hearing.tooks x.tooks);
  fault = faulted_from a b d fault q s.hearing.failures x.fault;
  wire = λ t. x.wire t ∙ ap (λ (y : Account). record y { failures = d.failures }) (received_both a b s.heard x.heard [] (s.hearing.wire t));
}
