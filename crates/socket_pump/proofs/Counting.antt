-- Counts that go alone.
use Rattle.std.proofs.Common.{◌≡◌, ℕ, ◌+◌, ◌<◌, ◌⊎◌, inl, inr, Bool, true, false, cond, List, [], ◌∷◌, ◌++◌, length, Option, None, Some, Result, Ok, Err, refl, sym, ap, subst, ◌∙◌, arith, length-append, ⊎_elim}
use Rattle.std.specs.Prelude.{nat_le, ◌↔◌}
use Rattle.std.proofs.lemmas.Bool.{cases_eq}
use Rattle.std.proofs.lemmas.Bool.Decides.{nat_tests}
use Rattle.frame_codec.specs.Frame.{Fields}
use Rattle.frame_codec.specs.Spelling.{spelling}
use Rattle.office_map.specs.PlanValue.{are_neighbours}
use Rattle.window_link.specs.Links.{ack_frame_of}
use Rattle.office_journal.specs.declared.event.Event.TheVariants.{Send}
use Rattle.office_journal.specs.declared.reply.Reply.{Reply}
use Rattle.office_journal.specs.declared.reply.Reply.TheVariants.{Frame}
use Rattle.office_journal.specs.declared.reply.Refusal.{Refusal}
use Rattle.office_journal.specs.declared.reply.Refusal.TheVariants as refusal
use Rattle.site_core.specs.Limits.{most_entries}
use Rattle.site_core.specs.Offices.{Answer, framed, answer}
use Rattle.site_core.specs.Growing.{link_to}
use Rattle.site_core.specs.Journals.{Site, office_of, noted, recorded, Steps, LacksRoom}
use Rattle.locked_office.specs.Calls.{Key, DeskPass, office_with, Does}
use Rattle.locked_office.specs.Sends.{framed_as}
use Rattle.socket_pump.specs.declared.pump.PumpFault.{PumpFault}
use Rattle.socket_pump.specs.Wires.{Account}
use Rattle.socket_pump.specs.Chains.{Made, MakesFrame, Sent}
use Rattle.socket_pump.specs.Turns.{Told, BrokeTelling, IsFaultOf}
use Rattle.socket_pump.specs.refinement.Counts.{Needs, Acknowledges, AcknowledgesOnly}
use Rattle.socket_pump.specs.refinement.Stages.{AreCounts, AreFor}
use Rattle.socket_pump.proofs.Left.{sees_self}
use Rattle.socket_pump.proofs.Telling.{unchanged, one_told, none_told, told_both, broke_none, broke_both, sent_left, sent_right, sent_cases, counts_both}

-- a count for a neighbour is a frame without a message, where there is room
abbrev pub MakesCount : Site → ℕ → ℕ → Result (Option Fields) Refusal → Site → Type 0
MakesCount s tag v (Ok (Some f)) s' = (f.number ≡ 0) × (s' ≡ noted s tag (Send v 0) (Frame f))
MakesCount s tag v (Ok None) s' = ⊥
MakesCount s tag v (Err why) s' = (s' ≡ s) × LacksRoom s why

counted : (s s' : Site) (tag v : ℕ) (result : Result Reply Refusal) → are_neighbours s.plan s.me v ≡ true → Steps s tag (Send v 0) result s' → MakesCount s tag v (framed_as result) s'
counted s s' tag v result near (inl m) = subst (λ (x : Result Reply Refusal). MakesCount s tag v (framed_as x) s') (sym m.0) (m.1, inr refl)
counted s s' tag v result near (inr x) = by_room (nat_le most_entries (length s.entries)) refl (x.0 ∙ ap (λ z. z.0) here) (x.1 ∙ ap (λ z. z.1) here)
  where
    f : Fields
    f = ack_frame_of (link_to s v)

    here : recorded s tag (Send v 0) (answer s.plan s.me (office_of s) (Send v 0)) ≡ recorded s tag (Send v 0) (Ok (Frame f, office_of s))
    here = ap (λ b. recorded s tag (Send v 0) (cond {A = Answer} b (framed (office_of s) (Some f)) (Err refusal.NotNow))) near

    by_room : (b : Bool) → nat_le most_entries (length s.entries) ≡ b → result ≡ (cond {A = Result Reply Refusal × Site} b (Err refusal.JournalFull, s) (Ok (Frame f), noted s tag (Send v 0) (Frame f))).0 →
        s' ≡ (cond {A = Result Reply Refusal × Site} b (Err refusal.JournalFull, s) (Ok (Frame f), noted s tag (Send v 0) (Frame f))).1 → MakesCount s tag v (framed_as result) s'
    by_room true h r e = subst (λ (x : Result Reply Refusal). MakesCount s tag v (framed_as x) s') (sym r) (e, inl (refl, grind (arith, nat_tests, h)))
    by_room false h r e = subst (λ (x : Result Reply Refusal). MakesCount s tag v (framed_as x) s') (sym r) (refl, e)

pub counts : (tag : ℕ) (k : Key) (p q : DeskPass) (v : ℕ) (result : Result Reply Refusal) (made : Result (Option Fields) Refusal) → are_neighbours k.0 k.1 v ≡ true → Does (λ s s'. Steps s tag (Send v 0) result s') k p q → made ≡ framed_as result → Does (λ s s'. MakesCount s tag v made s') k p q
counts tag k p q v result made near (between, did) is = subst (λ (x : Result (Option Fields) Refusal). Does (λ s s'. MakesCount s tag v x s') k p q) (sym is)
    (between, record { done = counted (office_with k (p.seen ++ between)) (office_with k q.seen) tag v result near did.done; legal = did.legal; added = did.added; left = did.left })

-- why it could not be made
pub no_room : (tag : ℕ) (k : Key) (p q : DeskPass) (v : ℕ) (why : Refusal) → Does (λ s s'. MakesCount s tag v (Err why) s') k p q → (why ≡ refusal.JournalFull) ⊎ (why ≡ refusal.Memory)
no_room tag k p q v why (between, did) = go did.done.1
  where
    go : LacksRoom (office_with k (p.seen ++ between)) why → (why ≡ refusal.JournalFull) ⊎ (why ≡ refusal.Memory)
    go (inl full) = inl full.0
    go (inr memory) = inr memory

pub count_refused : (tells : Bool) (tag : ℕ) (k : Key) (p q : DeskPass) (a : Account) (v : ℕ) (why : Refusal) (f : PumpFault) → p.holds ≡ false → Does (λ s s'. MakesCount s tag v (Err why) s') k p q → IsFaultOf why f → (made : List Made) × BrokeTelling tells tag k p a f a q made × AreCounts made × AreFor v made
count_refused tells tag k p q a v why f idle d fault = (
  [],
  broke_none tells tag k p q a (p.seen ++ d.0) why f (unchanged (λ s s'. MakesCount s tag v (Err why) s') k p q d idle seen) seen d.1.done.1 fault,
  tt,
  λ u n s. elim s [ ],
)
  where
    seen : q.seen ≡ p.seen ++ d.0
    seen = ap (λ (s : Site). s.entries) d.1.done.0

-- it was made
pub record OneCount (tag : ℕ) (k : Key) (p q : DeskPass) (v : ℕ) (f : Fields) : Type 0 where
  pub made : Made
  pub to : made.to ≡ v
  pub frame : made.frame ≡ f
  pub does : Does (MakesFrame tag made) k p q
  pub number : made.frame.number ≡ 0

pub one_count : (tag : ℕ) (k : Key) (p q : DeskPass) (v : ℕ) (f : Fields) → Does (λ s s'. MakesCount s tag v (Ok (Some f)) s') k p q → OneCount tag k p q v f
one_count tag k p q v f (between, did) = record {
  made = record { to = v; place = 0; frame = f };
  to = refl;
  frame = refl;
  does = (between, record { done = did.done.1; legal = did.legal; added = did.added; left = did.left });
  number = did.done.0;
}

pub count_out : (tells : Bool) (tag : ℕ) (k : Key) (p q : DeskPass) (a b : Account) (v : ℕ) (f : Fields) → OneCount tag k p q v f → b.failures ≡ a.failures → (tells ≡ true → b ≡ record a { accepted = a.accepted ++ (v, spelling f) ∷ [] }) → (m : Made) × Told tells tag k p a b q (m ∷ []) × (m.frame.number ≡ 0) × (m.to ≡ v)
count_out tells tag k p q a b v f o e w = (
  o.made,
  one_told tells tag k p q a b o.made o.does e (subst (λ (x : ℕ × List ℕ). tells ≡ true → b ≡ record a { accepted = a.accepted ++ x ∷ [] }) (λ i. (sym o.to i, spelling (sym o.frame i))) w),
  o.number,
  o.to,
)

pub only_for : (v : ℕ) (m : Made) → m.to ≡ v → AreFor v (m ∷ [])
only_for v m to u n (inl e) = sym e.0 ∙ to
only_for v m to u n (inr e) = elim e [ ]

-- ---- several

-- so many counts went out so far: to those neighbours that are owed one and have a number below
pub record CountedSoFar (tells : Bool) (tag : ℕ) (k : Key) (owed : List Bool) (p : DeskPass) (a : Account) (sent : ℕ) (b : Account) (q : DeskPass) (below : ℕ) : Type 0 where
  pub made : List Made
  pub told : Told tells tag k p a b q made
  pub count : length made ≡ sent
  pub are : AreCounts made
  pub before : (v n : ℕ) → Sent v n made → v < below
  pub who : (v : ℕ) → v < below → Sent v 0 made ↔ Needs k owed v

pub counting_starts : (tells : Bool) (tag : ℕ) (k : Key) (owed : List Bool) (p : DeskPass) (a : Account) → CountedSoFar tells tag k owed p a 0 a p 0
counting_starts tells tag k owed p a = record { made = []; told = none_told tells tag k p p a (sees_self p); count = refl; are = tt; before = λ v n s. elim s [ ]; who = λ v lt. absurd (omega (arith, lt)) }

-- who needs none is passed over
pub counting_past : (tells : Bool) (tag : ℕ) (k : Key) (owed : List Bool) (p q : DeskPass) (a b : Account) (sent v : ℕ) → (Needs k owed v → ⊥) → CountedSoFar tells tag k owed p a sent b q v → CountedSoFar tells tag k owed p a sent b q (v + 1)
counting_past tells tag k owed p q a b sent v none h = record { made = h.made; told = h.told; count = h.count; are = h.are; before = λ u n s. omega (arith, h.before u n s); who = who }
  where
    who : (u : ℕ) → u < v + 1 → Sent u 0 h.made ↔ Needs k owed u
    who u lt = ⊎_elim (λ e. (λ s. absurd (omega (arith, h.before u 0 s, e)), λ x. absurd (none (subst (Needs k owed) e x)))) (λ ne. h.who u (omega (arith, lt, ne))) (cases_eq u v)

pub counting_on : (tells : Bool) (tag : ℕ) (k : Key) (owed : List Bool) (p m q : DeskPass) (a b d : Account) (sent v : ℕ) → Needs k owed v → CountedSoFar tells tag k owed p a sent b m v → (x : Made) × Told tells tag k m b d q (x ∷ []) × (x.frame.number ≡ 0) × (x.to ≡ v) →
    CountedSoFar tells tag k owed p a (sent + 1) d q (v + 1)
counting_on tells tag k owed p m q a b d sent v needs h (x, told, number, to) = record {
  made = h.made ++ x ∷ [];
  told = told_both tells tag k p m q a b d h.made (x ∷ []) h.told told;
  count = omega (arith, length-append h.made (x ∷ []), h.count);
  are = counts_both h.made (x ∷ []) (λ u n s t. absurd (omega (arith, h.before u n s, only_for v x to u n t))) h.are (number, λ s. elim s [ ], tt);
  before = λ u n s. ⊎_elim (λ t. omega (arith, h.before u n t)) (λ t. omega (arith, only_for v x to u n t)) (sent_cases u n h.made (x ∷ []) s);
  who = who;
}
  where
    who : (u : ℕ) → u < v + 1 → Sent u 0 (h.made ++ x ∷ []) ↔ Needs k owed u
    who u lt = ⊎_elim
        (λ e. (λ s. subst (Needs k owed) (sym e) needs, λ y. sent_right u 0 h.made (x ∷ []) (inl (to ∙ sym e, number))))
        (λ ne. let old = h.who u (omega (arith, lt, ne)) in (
          λ s. old.0 (⊎_elim (λ y. y) (λ y. absurd (ne (only_for v x to u 0 y))) (sent_cases u 0 h.made (x ∷ []) s)),
          λ y. sent_left u 0 h.made (x ∷ []) (old.1 y),
        ))
        (cases_eq u v)

-- all that need one are below
pub counting_ends : (tells : Bool) (tag : ℕ) (k : Key) (owed : List Bool) (p q : DeskPass) (a b : Account) (sent below : ℕ) → ((v : ℕ) → Needs k owed v → v < below) → (h : CountedSoFar tells tag k owed p a sent b q below) → Acknowledges k owed h.made
counting_ends tells tag k owed p q a b sent below within h v = (λ s. (h.who v (h.before v 0 s)).0 s, λ x. (h.who v (within v x)).1 x)

pub counting_broke : (tells : Bool) (tag : ℕ) (k : Key) (owed : List Bool) (p m q : DeskPass) (a b d : Account) (sent v : ℕ) (f : PumpFault) → Needs k owed v → CountedSoFar tells tag k owed p a sent b m v → (made : List Made) × BrokeTelling tells tag k m b f d q made × AreCounts made × AreFor v made →
    (made : List Made) × BrokeTelling tells tag k p a f d q made × AreCounts made × AcknowledgesOnly k owed made
counting_broke tells tag k owed p m q a b d sent v f needs h (ns, broke, are, for) = (
  h.made ++ ns,
  broke_both tells tag k p m q a b d f h.made ns h.told broke,
  counts_both h.made ns (λ u n s t. absurd (omega (arith, h.before u n s, for u n t))) h.are are,
  λ u s. ⊎_elim (λ t. (h.who u (h.before u 0 t)).0 t) (λ t. subst (Needs k owed) (sym (for u 0 t)) needs) (sent_cases u 0 h.made ns s),
)
