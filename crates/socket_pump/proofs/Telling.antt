-- Messages that are sent, one after another.
use Rattle.std.proofs.Common.{◌≡◌, ℕ, ◌+◌, ◌<◌, ◌≤◌, ◌⊎◌, inl, inr, Bool, true, false, List, [], ◌∷◌, ◌++◌, length, map, None, Some, refl, sym, ap, subst, ◌∙◌, arith, append_assoc, length-append, ⊎_elim}
use Rattle.std.specs.Prelude.{◌%◌, Ok, Err}
use Rattle.std.proofs.lemmas.Bool.{cases_eq}
use Rattle.std.proofs.lemmas.List.{append-nil, append_cancel_left}
use Rattle.frame_codec.specs.Frame.{Fields}
use Rattle.frame_codec.specs.Spelling.{spelling}
use Rattle.window_link.specs.Windows.{used}
use Rattle.own_lock.specs.Passes.{pass_after_take}
use Rattle.site_core.specs.Limits.{most_entries}
use Rattle.office_journal.specs.declared.event.Entry.{Entry}
use Rattle.office_journal.specs.declared.reply.Refusal.{Refusal}
use Rattle.site_core.specs.Journals.{Site, LacksRoom}
use Rattle.site_core.specs.Growing.{link_at, Grows, LinksOnlyGrow}
use Rattle.locked_office.specs.Calls.{Key, DeskPass, office_with, pass_after_adding, Does}
use Rattle.locked_office.specs.Sends.{WaitsFor, SendsNumber}
use Rattle.socket_pump.specs.declared.last.Backoff.{Backoff}
use Rattle.socket_pump.specs.declared.pump.PumpFault.{PumpFault}
use Rattle.socket_pump.specs.declared.pump.PumpFault.TheVariants.{WireFailed, Memory, JournalFull}
use Rattle.socket_pump.specs.Wires.{Account}
use Rattle.socket_pump.specs.Last.{IsDue, sent_now}
use Rattle.socket_pump.specs.Chains.{Made, Sees, MakesFrame, Sends, sent_entry, datagram, Sent, DueOnce}
use Rattle.socket_pump.specs.ChainLaws.{Begins, sends_begins}
use Rattle.socket_pump.specs.Turns.{Times, Told, Remembers, BrokeTelling, Faulted, Lost, IsFaultOf}
use Rattle.socket_pump.specs.refinement.Stages.{AreUsed, AreMessages, AreOf, AreCounts, Spoke, SpokeOf, Broken, BrokenOf}
use Rattle.socket_pump.proofs.Left.{does_later, sees_self, sees_both}

-- ---- what waits

-- the links at the ends of two journals, of which one begins the other
pub grows_on : LinksOnlyGrow → (k : Key) (p q : DeskPass) (v : ℕ) → Begins p q → Grows (link_at k.0 k.1 p.seen v) (link_at k.0 k.1 q.seen v)
grows_on grow k p q v b = subst (λ (l : List Entry). Grows (link_at k.0 k.1 p.seen v) (link_at k.0 k.1 l v)) (sym b.1) (grow k.0 k.1 p.seen b.0 v)

-- what waits at both ends waits between them
pub waits_between : LinksOnlyGrow → (k : Key) (p m q : DeskPass) (v n : ℕ) → Begins p m → Begins m q → WaitsFor (office_with k p.seen) v n → WaitsFor (office_with k q.seen) v n → WaitsFor (office_with k m.seen) v n
waits_between grow k p m q v n b d x y =
    let f = grows_on grow k p m v b in
    let h = grows_on grow k m q v d in
    record { near = x.near; unknown = omega (arith, h.acked, y.unknown); sent = omega (arith, f.used, x.sent) }

-- ---- one call

-- what was added is what the journal has more
added_of : (what : Site → Site → Type 0) (k : Key) (p q : DeskPass) (d : Does what k p q) (es : List Entry) → q.seen ≡ (p.seen ++ d.0) ++ es → d.1.added ≡ es
added_of what k p q (between, did) es e = append_cancel_left (p.seen ++ between) did.added es (sym (ap (λ (x : DeskPass). x.seen) did.left) ∙ e)

-- a call that added nothing only saw
pub unchanged : (what : Site → Site → Type 0) (k : Key) (p q : DeskPass) (d : Does what k p q) → p.holds ≡ false → q.seen ≡ p.seen ++ d.0 → Sees p q
unchanged what k p q d idle same =
    let none : d.1.added ≡ [] = added_of what k p q d [] (same ∙ sym (append-nil (p.seen ++ d.0))) in
    (d.0, d.1.left ∙ (ap (pass_after_adding (pass_after_take p (p.seen ++ d.0))) none ∙ (λ i. record p { holds = sym idle i; seen = append-nil (p.seen ++ d.0) i; mine = append-nil p.mine i })))

frame_mine : (tag : ℕ) (k : Key) (p q : DeskPass) (m : Made) → Does (MakesFrame tag m) k p q → q.mine ≡ p.mine ++ sent_entry tag m ∷ []
frame_mine tag k p q m d = ap (λ (x : DeskPass). x.mine) d.1.left ∙ ap (λ l. p.mine ++ l) (added_of (MakesFrame tag m) k p q d (sent_entry tag m ∷ []) (ap (λ (s : Site). s.entries) d.1.done))

pub one_told : (tells : Bool) (tag : ℕ) (k : Key) (p q : DeskPass) (a b : Account) (m : Made) → Does (MakesFrame tag m) k p q → b.failures ≡ a.failures → (tells ≡ true → b ≡ record a { accepted = a.accepted ++ datagram m ∷ [] }) → Told tells tag k p a b q (m ∷ [])
one_told tells tag k p q a b m does f w = record {
  sends = (q, does, sees_self q);
  mine = frame_mine tag k p q m does;
  failures = f;
  wire = w;
}

pub none_told : (tells : Bool) (tag : ℕ) (k : Key) (p q : DeskPass) (a : Account) → Sees p q → Told tells tag k p a a q []
none_told tells tag k p q a s = record {
  sends = s;
  mine = ap (λ (x : DeskPass). x.mine) s.1 ∙ sym (append-nil p.mine);
  failures = refl;
  wire = λ t. λ i. record a { accepted = sym (append-nil a.accepted) i };
}

-- ---- chains

pub sends_both : (tag : ℕ) (k : Key) (p m q : DeskPass) (ms ns : List Made) → Sends tag k p ms m → Sends tag k m ns q → Sends tag k p (ms ++ ns) q
sends_both tag k p m q [] [] h i = sees_both p m q h i
sends_both tag k p m q [] (x ∷ xs) h i = (i.0, does_later (MakesFrame tag x) k p m i.0 h i.1, i.2)
sends_both tag k p m q (x ∷ xs) ns h i = (h.0, h.1, sends_both tag k h.0 m q xs ns h.2 i)

map_both : {A B : Type 0} (f : A → B) (xs ys : List A) → map f (xs ++ ys) ≡ map f xs ++ map f ys
map_both f [] ys = refl
map_both f (x ∷ xs) ys = ap (λ l. f x ∷ l) (map_both f xs ys)

mine_both : (tag : ℕ) (before at after : List Entry) (ms ns : List Made) → at ≡ before ++ map (sent_entry tag) ms → after ≡ at ++ map (sent_entry tag) ns → after ≡ before ++ map (sent_entry tag) (ms ++ ns)
mine_both tag before at after ms ns x y =
    y ∙ (ap (λ l. l ++ map (sent_entry tag) ns) x ∙ (append_assoc before (map (sent_entry tag) ms) (map (sent_entry tag) ns) ∙ ap (λ l. before ++ l) (sym (map_both (sent_entry tag) ms ns))))

accepted_both : (l : List (ℕ × List ℕ)) (ms ns : List Made) → (l ++ map datagram ms) ++ map datagram ns ≡ l ++ map datagram (ms ++ ns)
accepted_both l ms ns = append_assoc l (map datagram ms) (map datagram ns) ∙ ap (λ x. l ++ x) (sym (map_both datagram ms ns))

pub told_both : (tells : Bool) (tag : ℕ) (k : Key) (p m q : DeskPass) (a b d : Account) (ms ns : List Made) → Told tells tag k p a b m ms → Told tells tag k m b d q ns → Told tells tag k p a d q (ms ++ ns)
told_both tells tag k p m q a b d ms ns x y = record {
  sends = sends_both tag k p m q ms ns x.sends y.sends;
  mine = mine_both tag p.mine m.mine q.mine ms ns x.mine y.mine;
  failures = y.failures ∙ x.failures;
  wire = λ t. y.wire t ∙ (ap (λ (z : Account). record z { accepted = z.accepted ++ map datagram ns }) (x.wire t) ∙ ap (λ l. record a { accepted = l }) (accepted_both a.accepted ms ns));
}

fault_later : (a b d : Account) (f : PumpFault) (q : DeskPass) → b.failures ≡ a.failures → Faulted b f d q → Faulted a f d q
fault_later a b d f q e h = subst (λ n. Faulted (record b { failures = n }) f d q) e h

lost_later : (f : PumpFault) (ms ns out : List Made) → Lost f ns out → Lost f (ms ++ ns) (ms ++ out)
lost_later WireFailed ms ns out h = (h.0, ap (λ l. ms ++ l) h.1 ∙ sym (append_assoc ms out (h.0 ∷ [])))
lost_later Memory ms ns out h = ap (λ l. ms ++ l) h
lost_later JournalFull ms ns out h = ap (λ l. ms ++ l) h

pub broke_both : (tells : Bool) (tag : ℕ) (k : Key) (p m q : DeskPass) (a b d : Account) (f : PumpFault) (ms ns : List Made) → Told tells tag k p a b m ms → BrokeTelling tells tag k m b f d q ns → BrokeTelling tells tag k p a f d q (ms ++ ns)
broke_both tells tag k p m q a b d f ms ns x y = record {
  sends = sends_both tag k p m q ms ns x.sends y.sends;
  mine = mine_both tag p.mine m.mine q.mine ms ns x.mine y.mine;
  fault = fault_later a b d f q x.failures y.fault;
  out = ms ++ y.out;
  lost = lost_later f ms ns y.out y.lost;
  wire = λ t. y.wire t ∙ (ap (λ (z : Account). record z { failures = d.failures; accepted = z.accepted ++ map datagram y.out }) (x.wire t) ∙ ap (λ l. record a { failures = d.failures; accepted = l }) (accepted_both a.accepted ms y.out));
}

-- ---- which frames

pub sent_left : (v n : ℕ) (ms ns : List Made) → Sent v n ms → Sent v n (ms ++ ns)
sent_left v n [] ns x = elim x [ ]
sent_left v n (m ∷ ms) ns (inl t) = inl t
sent_left v n (m ∷ ms) ns (inr t) = inr (sent_left v n ms ns t)

pub sent_right : (v n : ℕ) (ms ns : List Made) → Sent v n ns → Sent v n (ms ++ ns)
sent_right v n [] ns s = s
sent_right v n (m ∷ ms) ns s = inr (sent_right v n ms ns s)

pub sent_cases : (v n : ℕ) (ms ns : List Made) → Sent v n (ms ++ ns) → Sent v n ms ⊎ Sent v n ns
sent_cases v n [] ns s = inr s
sent_cases v n (m ∷ ms) ns (inl t) = inl (inl t)
sent_cases v n (m ∷ ms) ns (inr t) = ⊎_elim (λ x. inl (inr x)) inr (sent_cases v n ms ns t)

is_of : (v n : ℕ) (m : Made) → ((m.to ≡ v) × (m.frame.number ≡ n)) ⊎ ((m.to ≡ v) × (m.frame.number ≡ n) → ⊥)
is_of v n m = ⊎_elim (λ a. ⊎_elim (λ b. inl (a, b)) (λ ne. inr (λ s. ne s.1)) (cases_eq m.frame.number n)) (λ ne. inr (λ s. ne s.0)) (cases_eq m.to v)

sent_or : (v n : ℕ) (ms : List Made) → Sent v n ms ⊎ (Sent v n ms → ⊥)
sent_or v n [] = inr (λ x. x)
sent_or v n (m ∷ ms) = ⊎_elim (λ t. inl (inr t)) (λ none. ⊎_elim (λ here. inl (inl here)) (λ ne. inr (λ s. ⊎_elim ne none s)) (is_of v n m)) (sent_or v n ms)

-- no message of the first is among the second
abbrev pub AreApart : List Made → List Made → Type 0
AreApart ms ns = (u i : ℕ) → Sent u i ms → Sent u i ns → ⊥

-- what doesn't come again among its own, nor among what is apart
not_again : (m : Made) (ms ns : List Made) → (Sent m.to m.frame.number ms → ⊥) → AreApart (m ∷ ms) ns → Sent m.to m.frame.number (ms ++ ns) → ⊥
not_again m ms ns once apart s = ⊎_elim once (λ t. apart m.to m.frame.number (inl (refl, refl)) t) (sent_cases m.to m.frame.number ms ns s)

pub due_both : (how : Backoff) (last : Times) (now : ℕ) (ms ns : List Made) → AreApart ms ns → DueOnce how last now ms → DueOnce how last now ns → DueOnce how last now (ms ++ ns)
due_both how last now [] ns apart h i = i
due_both how last now (m ∷ ms) ns apart h i = (h.0, not_again m ms ns h.1 apart, due_both how last now ms ns (λ u i s. apart u i (inr s)) h.2 i)

-- two tables have the same of these frames
abbrev pub AreSame : Times → Times → List Made → Type 0
AreSame mid last ms = (u i : ℕ) → Sent u i ms → mid u i ≡ last u i

-- what is due by the one is due by the other
due_from : (how : Backoff) (mid last : Times) (now : ℕ) (ms : List Made) → AreSame mid last ms → DueOnce how mid now ms → DueOnce how last now ms
due_from how mid last now [] h o = tt
due_from how mid last now (m ∷ ms) h o = (
  ⊎_elim inl (λ d. inr (subst (λ t. IsDue how t now) (h m.to m.frame.number (inl (refl, refl))) d)) o.0,
  o.1,
  due_from how mid last now ms (λ u i s. h u i (inr s)) o.2,
)

pub counts_both : (ms ns : List Made) → AreApart ms ns → AreCounts ms → AreCounts ns → AreCounts (ms ++ ns)
counts_both [] ns apart h i = i
counts_both (m ∷ ms) ns apart h i = (h.0, not_again m ms ns h.1 apart, counts_both ms ns (λ u i s. apart u i (inr s)) h.2 i)

pub messages_both : (ms ns : List Made) → AreMessages ms → AreMessages ns → AreMessages (ms ++ ns)
messages_both ms ns h i = λ v n s. ⊎_elim (h v n) (i v n) (sent_cases v n ms ns s)

used_both : LinksOnlyGrow → (k : Key) (m q : DeskPass) (ms ns : List Made) → Begins m q → AreUsed k m ms → AreUsed k q ns → AreUsed k q (ms ++ ns)
used_both grow k m q ms ns b h i = λ u n s. ⊎_elim (λ x. let g = grows_on grow k m q u b in omega (arith, g.used, h u n x)) (i u n) (sent_cases u n ms ns s)

-- ---- when it was sent

pub remembers_both : LinksOnlyGrow → (how : Backoff) (k : Key) (last mid then : Times) (now : ℕ) (p m q : DeskPass) (ms ns : List Made) → Begins p m → Begins m q → AreUsed k m ms →
    ((u i : ℕ) → WaitsFor (office_with k q.seen) u i → Sent u i ns → mid u i ≡ last u i) → Remembers how k last mid now p m ms → Remembers how k mid then now m q ns → Remembers how k last then now p q (ms ++ ns)
remembers_both grow how k last mid then now p m q ms ns pm mq used_by same r s = record { sent = sent; others = other }
  where
    -- used by m, and waits at q: it waits at m
    earlier : (u i : ℕ) → i ≤ used (link_at k.0 k.1 m.seen u).sending → WaitsFor (office_with k q.seen) u i → WaitsFor (office_with k m.seen) u i
    earlier u i le w = let l = grows_on grow k m q u mq in record { near = w.near; unknown = omega (arith, l.acked, w.unknown); sent = le }

    old : (u i : ℕ) → WaitsFor (office_with k q.seen) u i → (Sent u i ns → ⊥) → Sent u i ms → then u i ≡ Some (sent_now how (last u i) now)
    old u i w none x =
        let e = earlier u i (used_by u i x) w in
        s.others u i e w none ∙ r.sent u i e x

    new : (u i : ℕ) → WaitsFor (office_with k q.seen) u i → Sent u i ns → then u i ≡ Some (sent_now how (last u i) now)
    new u i w x = s.sent u i w x ∙ ap (λ t. Some (sent_now how t now)) (same u i w x)

    sent : (u i : ℕ) → WaitsFor (office_with k q.seen) u i → Sent u i (ms ++ ns) → then u i ≡ Some (sent_now how (last u i) now)
    sent u i w x = ⊎_elim (new u i w) (λ none. ⊎_elim (old u i w none) (λ y. absurd (none y)) (sent_cases u i ms ns x)) (sent_or u i ns)

    other : (u i : ℕ) → WaitsFor (office_with k p.seen) u i → WaitsFor (office_with k q.seen) u i → (Sent u i (ms ++ ns) → ⊥) → then u i ≡ last u i
    other u i a b none =
        let w = waits_between grow k p m q u i pm mq a b in
        s.others u i w b (λ y. none (sent_right u i ms ns y)) ∙ r.others u i a w (λ y. none (sent_left u i ms ns y))

pub remembers_none : (how : Backoff) (k : Key) (last then : Times) (now : ℕ) (p q : DeskPass) → ((u i : ℕ) → then u i ≡ last u i) → Remembers how k last then now p q []
remembers_none how k last then now p q same = record { sent = λ u i w s. elim s [ ]; others = λ u i a b none. same u i }

-- ---- stretches

-- what was told is followed by more, of messages of which nothing was told yet
pub spoke_both : LinksOnlyGrow → (how : Backoff) (tells : Bool) (tag : ℕ) (k : Key) (last mid then : Times) (now : ℕ) (p m q : DeskPass) (a b d : Account) (s t : ℕ) (ms ns : List Made) → AreApart ms ns → AreSame mid last ns →
    Spoke how tells tag k last mid now p a s b m ms → Spoke how tells tag k mid then now m b t d q ns → Spoke how tells tag k last then now p a (s + t) d q (ms ++ ns)
spoke_both grow how tells tag k last mid then now p m q a b d s t ms ns apart same x y = record {
  told = told_both tells tag k p m q a b d ms ns x.told y.told;
  count = omega (arith, length-append ms ns, x.count, y.count);
  used = used_both grow k m q ms ns (sends_begins tag k m q ns y.told.sends) x.used y.used;
  due_once = due_both how last now ms ns apart x.due_once (due_from how mid last now ns same y.due_once);
  messages = messages_both ms ns x.messages y.messages;
  remembers = remembers_both grow how k last mid then now p m q ms ns (sends_begins tag k p m ms x.told.sends) (sends_begins tag k m q ns y.told.sends) x.used (λ u i w e. same u i e) x.remembers y.remembers;
}

pub spoke_none : (how : Backoff) (tells : Bool) (tag : ℕ) (k : Key) (last : Times) (now : ℕ) (p q : DeskPass) (a : Account) → Sees p q → Spoke how tells tag k last last now p a 0 a q []
spoke_none how tells tag k last now p q a s = record {
  told = none_told tells tag k p q a s;
  count = refl;
  messages = λ u i x. elim x [ ];
  used = λ u i x. elim x [ ];
  due_once = tt;
  remembers = remembers_none how k last last now p q (λ u i. refl);
}

-- the same with what was told before a fault
pub broke_on : LinksOnlyGrow → (how : Backoff) (tells : Bool) (tag : ℕ) (k : Key) (last mid then : Times) (now : ℕ) (p m q : DeskPass) (a b d : Account) (s : ℕ) (fault : PumpFault) (ms ns : List Made) → AreApart ms ns → AreSame mid last ns →
    Spoke how tells tag k last mid now p a s b m ms → Broken how tells tag k mid then now m b fault d q ns → Broken how tells tag k last then now p a fault d q (ms ++ ns)
broke_on grow how tells tag k last mid then now p m q a b d s fault ms ns apart same x (y, only, r, messages) = (
  broke_both tells tag k p m q a b d fault ms ns x.told y,
  due_both how last now ms ns apart x.due_once (due_from how mid last now ns same only),
  remembers_both grow how k last mid then now p m q ms ns (sends_begins tag k p m ms x.told.sends) (sends_begins tag k m q ns y.sends) x.used (λ u i w e. same u i e) x.remembers r,
  messages_both ms ns x.messages messages,
)

-- nothing was told, and there was no room
pub broke_none : (tells : Bool) (tag : ℕ) (k : Key) (p q : DeskPass) (a : Account) (es : List Entry) (why : Refusal) (f : PumpFault) → Sees p q → q.seen ≡ es → LacksRoom (office_with k es) why → IsFaultOf why f → BrokeTelling tells tag k p a f a q []
broke_none tells tag k p q a es why f s e room fault = record {
  sends = s;
  mine = ap (λ (x : DeskPass). x.mine) s.1 ∙ sym (append-nil p.mine);
  fault = (told f room fault).0;
  out = [];
  lost = (told f room fault).1;
  wire = λ t. λ i. record a { accepted = sym (append-nil a.accepted) i };
}
  where
    told : (f : PumpFault) → LacksRoom (office_with k es) why → IsFaultOf why f → Faulted a f a q × Lost f [] []
    told WireFailed room fault = elim fault [ ]
    told Memory room fault = (refl, refl)
    told JournalFull (inl full) fault = ((refl, subst (λ (l : List Entry). most_entries ≤ length l) (sym e) full.1), refl)
    told JournalFull (inr memory) fault = absurd cc

-- ---- one message

-- two that wait and have one place are one
one_place : (acked i n : ℕ) → acked < i → i ≤ acked + 18 → acked < n → n ≤ acked + 18 → i % 18 ≡ n % 18 → i ≡ n
one_place acked i n a b c d e = omega (arith, e)

remembers_one : LinksOnlyGrow → (how : Backoff) (k : Key) (last then : Times) (now v n : ℕ) (p x q : DeskPass) (m : Made) → Begins p x → Begins x q → WaitsFor (office_with k x.seen) v n → length (link_at k.0 k.1 x.seen v).sending.waiting ≤ 18 → m.to ≡ v → m.frame.number ≡ n →
    then v n ≡ Some (sent_now how (last v n) now) → ((u i : ℕ) → ((u ≡ v) × (i % 18 ≡ n % 18) → ⊥) → then u i ≡ last u i) → Remembers how k last then now p q (m ∷ [])
remembers_one grow how k last then now v n p x q m px xq here few to number this others = record { sent = sent; others = other }
  where
    -- what waits at x besides n has another place
    apart : (u i : ℕ) → WaitsFor (office_with k x.seen) u i → ((u ≡ v) × (i ≡ n)) ⊎ (then u i ≡ last u i)
    apart u i w = ⊎_elim
        (λ same. ⊎_elim
        (λ slot. let z = subst (λ y. WaitsFor (office_with k x.seen) y i) same w in inl (same, one_place (link_at k.0 k.1 x.seen v).sending.acked i n z.unknown (omega (arith, z.sent, few)) here.unknown (omega (arith, here.sent, few)) slot))
        (λ ne. inr (others u i (λ e. ne e.1)))
        (cases_eq (i % 18) (n % 18)))
        (λ ne. inr (others u i (λ e. ne e.0)))
        (cases_eq u v)

    sent : (u i : ℕ) → WaitsFor (office_with k q.seen) u i → Sent u i (m ∷ []) → then u i ≡ Some (sent_now how (last u i) now)
    sent u i w (inl e) = subst (λ y. then y i ≡ Some (sent_now how (last y i) now)) (sym to ∙ e.0) (subst (λ z. then v z ≡ Some (sent_now how (last v z) now)) (sym number ∙ e.1) this)
    sent u i w (inr e) = elim e [ ]

    other : (u i : ℕ) → WaitsFor (office_with k p.seen) u i → WaitsFor (office_with k q.seen) u i → (Sent u i (m ∷ []) → ⊥) → then u i ≡ last u i
    other u i a b none = ⊎_elim (λ that. absurd (none (inl (to ∙ sym that.0, number ∙ sym that.1)))) (λ same. same) (apart u i (waits_between grow k p x q u i px xq a b))

are_of : (v n : ℕ) (m : Made) → m.to ≡ v → m.frame.number ≡ n → AreOf v n (m ∷ [])
are_of v n m to number u i (inl e) = (sym e.0 ∙ to, sym e.1 ∙ number)
are_of v n m to number u i (inr e) = elim e [ ]

-- the frame of a message was made: what stands, wherever it goes
pub record OneMade (how : Backoff) (tag : ℕ) (k : Key) (last then : Times) (now : ℕ) (p q : DeskPass) (v n : ℕ) (f : Fields) : Type 0 where
  pub made : Made
  pub to : made.to ≡ v
  pub frame : made.frame ≡ f
  pub does : Does (MakesFrame tag made) k p q
  pub used : AreUsed k q (made ∷ [])
  pub messages : AreMessages (made ∷ [])
  pub due_once : DueOnce how last now (made ∷ [])
  pub remembers : Remembers how k last then now p q (made ∷ [])
  pub are : AreOf v n (made ∷ [])

pub one_made : LinksOnlyGrow → (how : Backoff) (tag : ℕ) (k : Key) (last then : Times) (now v n : ℕ) (p q : DeskPass) (f : Fields) → Does (λ s s'. SendsNumber tag v n (Ok (Some f)) s s') k p q → IsDue how (last v n) now → then v n ≡ Some (sent_now how (last v n) now) →
    ((u i : ℕ) → ((u ≡ v) × (i % 18 ≡ n % 18) → ⊥) → then u i ≡ last u i) → OneMade how tag k last then now p q v n f
one_made grow how tag k last then now v n p q f (between, did) due this others = record {
  made = m;
  to = refl;
  frame = refl;
  does = (between, record { done = did.done.made; legal = did.legal; added = did.added; left = did.left });
  used = λ u i s. let e = are_of v n m refl did.done.number u i s in subst (λ y. i ≤ used (link_at k.0 k.1 q.seen y).sending) (sym e.0) (omega (arith, e.1, grown.used, did.done.waits.sent));
  due_once = (inr (subst (λ i. IsDue how (last v i) now) (sym did.done.number) due), λ s. elim s [ ], tt);
  messages = λ u i s. let e = are_of v n m refl did.done.number u i s in omega (arith, e.1, did.done.waits.unknown);
  remembers = remembers_one grow how k last then now v n p x q m px xq did.done.waits did.done.few refl did.done.number this others;
  are = are_of v n m refl did.done.number;
}
  where
    m : Made
    m = record { to = v; place = did.done.place; frame = f }

    x : DeskPass
    x = record p { seen = p.seen ++ between }

    px : Begins p x
    px = (between, refl)

    xq : Begins x q
    xq = (did.added, ap (λ (y : DeskPass). y.seen) did.left)

    grown : Grows (link_at k.0 k.1 x.seen v) (link_at k.0 k.1 q.seen v)
    grown = grows_on grow k x q v xq

pub message_out : (how : Backoff) (tells : Bool) (tag : ℕ) (k : Key) (last then : Times) (now v n : ℕ) (p q : DeskPass) (a b : Account) (f : Fields) → OneMade how tag k last then now p q v n f → b.failures ≡ a.failures → (tells ≡ true → b ≡ record a { accepted = a.accepted ++ (v, spelling f) ∷ [] }) →
    IsDue how (last v n) now → f.number ≡ n → SpokeOf how tells tag k last then now p a 1 b q v n
message_out how tells tag k last then now v n p q a b f o e w due number = (
  o.made ∷ [],
  record {
    told = one_told tells tag k p q a b o.made o.does e (subst (λ (x : ℕ × List ℕ). tells ≡ true → b ≡ record a { accepted = a.accepted ++ x ∷ [] }) (λ i. (sym o.to i, spelling (sym o.frame i))) w);
    count = refl;
    messages = o.messages;
    used = o.used;
    due_once = o.due_once;
    remembers = o.remembers;
  },
  o.are,
  λ waits d. inl (o.to, ap (λ (x : Fields). x.number) o.frame ∙ number),
)

-- it was lost: the wire failed
pub message_lost : (tells : Bool) (tag : ℕ) (k : Key) (p q : DeskPass) (a b : Account) (m : Made) → Does (MakesFrame tag m) k p q → Faulted a WireFailed b q → (tells ≡ true → b ≡ record a { failures = b.failures }) → BrokeTelling tells tag k p a WireFailed b q (m ∷ [])
message_lost tells tag k p q a b m does e w = record {
  sends = (q, does, sees_self q);
  mine = frame_mine tag k p q m does;
  fault = e;
  out = [];
  lost = (m, refl);
  wire = λ t. w t ∙ (λ i. record a { failures = b.failures; accepted = sym (append-nil a.accepted) i });
}

-- it isn't due
pub message_early : (how : Backoff) (tells : Bool) (tag : ℕ) (k : Key) (last : Times) (now v n : ℕ) (p : DeskPass) (a : Account) → (IsDue how (last v n) now → ⊥) → SpokeOf how tells tag k last last now p a 0 a p v n
message_early how tells tag k last now v n p a early = ([], spoke_none how tells tag k last now p p a (sees_self p), λ u i s. elim s [ ], λ w d. early d)

-- it waits no more
pub message_none : (how : Backoff) (tells : Bool) (tag : ℕ) (k : Key) (last : Times) (now v n : ℕ) (p q : DeskPass) (a : Account) → p.holds ≡ false → Does (λ s s'. SendsNumber tag v n (Ok None) s s') k p q → SpokeOf how tells tag k last last now p a 0 a q v n
message_none how tells tag k last now v n p q a idle d = (
  [],
  spoke_none how tells tag k last now p q a (unchanged (λ s s'. SendsNumber tag v n (Ok None) s s') k p q d idle (ap (λ (s : Site). s.entries) d.1.done.0)),
  λ u i s. elim s [ ],
  λ w due. d.1.done.1 (subst (λ (s : Site). WaitsFor s v n) d.1.done.0 w),
)

-- there was no room
pub message_refused : (how : Backoff) (tells : Bool) (tag : ℕ) (k : Key) (last : Times) (now v n : ℕ) (p q : DeskPass) (a : Account) (why : Refusal) (f : PumpFault) → p.holds ≡ false → Does (λ s s'. SendsNumber tag v n (Err why) s s') k p q → IsFaultOf why f → BrokenOf how tells tag k last last now p a f a q v n
message_refused how tells tag k last now v n p q a why f idle d fault = (
  [],
  (
    broke_none tells tag k p q a (p.seen ++ d.0) why f (unchanged (λ s s'. SendsNumber tag v n (Err why) s s') k p q d idle seen) seen d.1.done.1 fault,
    tt,
    remembers_none how k last last now p q (λ u i. refl),
    λ u i s. elim s [ ],
  ),
  λ u i s. elim s [ ],
)
  where
    seen : q.seen ≡ p.seen ++ d.0
    seen = ap (λ (s : Site). s.entries) d.1.done.0
