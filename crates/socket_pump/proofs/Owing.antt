-- Whom an office owes a count: who brought a message, and got none.
use Rattle.std.proofs.Common.{◌≡◌, ℕ, zero, suc, ◌⊎◌, inl, inr, Bool, true, false, List, [], ◌∷◌, ◌++◌, length, Option, None, Some, Result, Ok, Err, IfOk, refl, sym, subst, ◌∙◌, arith, ⊎_elim, replicate}
use Rattle.frame_codec.specs.Frame.{Fields}
use Rattle.frame_codec.specs.Spelling.{Spells}
use Rattle.frame_codec.specs.declared.fault.FrameFault.{FrameFault}
use Rattle.office_map.specs.PlanValue.{are_neighbours}
use Rattle.office_journal.specs.declared.event.Event.TheVariants.{Took}
use Rattle.office_journal.specs.declared.reply.Reply.{Reply}
use Rattle.office_journal.specs.declared.reply.Refusal.{Refusal}
use Rattle.office_journal.specs.declared.reply.Refusal.TheVariants as refusal
use Rattle.site_core.specs.Pairs.{frame_fault}
use Rattle.site_core.specs.Offices.{answer, unless_faulty}
use Rattle.site_core.specs.neighbours.PairLaws.{passed}
use Rattle.site_core.specs.Journals.{Site, office_of, recorded, OrMemory, Receives}
use Rattle.locked_office.specs.Calls.{Key, DeskPass, office_with}
use Rattle.socket_pump.specs.Chains.{Heard, Hears, BringsMessage, Brought, Made, Sent}
use Rattle.socket_pump.specs.Handling.{Handled, heard_of, Handles}
use Rattle.socket_pump.specs.refinement.Stages.{AreFor}
use Rattle.socket_pump.proofs.Telling.{sent_left, sent_right, sent_cases}
use Rattle.socket_pump.specs.refinement.Counts.{Owed, Brings, Owes, Notes, Gets, Spares}

-- ---- nobody yet

pub nobody : (k v : ℕ) → Owed (replicate k false) v → ⊥
nobody zero v h = absurd cc
nobody (suc k) zero h = absurd cc
nobody (suc k) (suc v) h = nobody k v h

-- ---- one datagram after the other

brought_left : (v : ℕ) (hs is : List Heard) → Brought v hs → Brought v (hs ++ is)
brought_left v [] is x = elim x [ ]
brought_left v (h ∷ hs) is (inl x) = inl x
brought_left v (h ∷ hs) is (inr x) = inr (brought_left v hs is x)

brought_right : (v : ℕ) (hs is : List Heard) → Brought v is → Brought v (hs ++ is)
brought_right v [] is x = x
brought_right v (h ∷ hs) is x = inr (brought_right v hs is x)

brought_cases : (v : ℕ) (hs is : List Heard) → Brought v (hs ++ is) → Brought v hs ⊎ Brought v is
brought_cases v [] is x = inr x
brought_cases v (h ∷ hs) is (inl x) = inl (inl x)
brought_cases v (h ∷ hs) is (inr x) = ⊎_elim (λ y. inl (inr y)) inr (brought_cases v hs is x)

pub owes_none : (s : List Bool) → Owes s [] s
owes_none s v lt = (inl, λ x. ⊎_elim (λ y. y) (λ y. elim y [ ]) x)

pub owes_both : (s o t : List Bool) (hs is : List Heard) → Owes s hs o → Owes o is t → Owes s (hs ++ is) t
owes_both s o t hs is h i v lt = (
  λ x. ⊎_elim (λ y. ⊎_elim inl (λ z. inr (brought_left v hs is z)) ((h v lt).0 y)) (λ y. inr (brought_right v hs is y)) ((i v lt).0 x),
  λ x. (i v lt).1 (⊎_elim (λ y. inl ((h v lt).1 (inl y))) (λ y. ⊎_elim (λ z. inl ((h v lt).1 (inr z))) inr (brought_cases v hs is y)) x),
)

-- what was read of the bytes tells who brought them
pub owes_one : (s t : List Bool) (bytes : List ℕ) (read : Result Fields FrameFault) (answer : Result Reply Refusal) → IfOk read (Spells bytes) → ((f : Fields) → Spells bytes f → read ≡ Ok f) →
    Notes read answer s t → Owes s (record { bytes = bytes; answer = answer } ∷ []) t
owes_one s t bytes read answer found only noted v lt = (
  λ x. ⊎_elim inl (λ y. inr (inl (of read found y))) ((noted v lt).0 x),
  λ x. (noted v lt).1 (⊎_elim inl (λ y. inr (back y)) x),
)
  where
    of : (r : Result Fields FrameFault) → IfOk r (Spells bytes) → Brings r answer v → (f : Fields) × Spells bytes f × (f.from ≡ v) × BringsMessage answer
    of (Ok f) h x = (f, h, x.0, x.1)
    of (Err fault) h x = elim x [ ]

    back : Brought v (record { bytes = bytes; answer = answer } ∷ []) → Brings read answer v
    back (inl (f, spells, from, brings)) = subst (λ (r : Result Fields FrameFault). Brings r answer v) (sym (only f spells)) (from, brings)
    back (inr x) = elim x [ ]

-- ---- who brings a message is a neighbour

near_one : (s s' : Site) (tag : ℕ) (bytes : List ℕ) (result : Result Reply Refusal) (f : Fields) → Receives s tag bytes result s' → Spells bytes f → BringsMessage result → are_neighbours s.plan s.me f.from ≡ true
near_one s s' tag bytes (Err why) f r spells brings = elim brings [ ]
near_one s s' tag bytes (Ok reply) f r spells brings = go (r.frame f spells)
  where
    by_fault : (x : Option _) → frame_fault s.plan s.me (office_of s).pairs f ≡ x → Ok reply ≡ (recorded s tag (Took f) (unless_faulty s.plan s.me (office_of s) f x)).0 → are_neighbours s.plan s.me f.from ≡ true
    by_fault None none e = (passed s.plan s.me (office_of s).pairs f none).0
    by_fault (Some fault) some e = absurd cc

    go : OrMemory s (recorded s tag (Took f) (answer s.plan s.me (office_of s) (Took f))) (Ok reply) s' → are_neighbours s.plan s.me f.from ≡ true
    go (inl m) = let e : Ok reply ≡ Err refusal.Memory = m.0 in absurd cc
    go (inr x) = by_fault (frame_fault s.plan s.me (office_of s).pairs f) refl x.0

pub brought_near : (tag : ℕ) (k : Key) (p q : DeskPass) (hs : List Heard) (v : ℕ) → Hears tag k p hs q → Brought v hs → are_neighbours k.0 k.1 v ≡ true
brought_near tag k p q [] v h x = elim x [ ]
brought_near tag k p q (h ∷ hs) v (m, does, rest) (inl (f, spells, from, brings)) =
    subst (λ u. are_neighbours k.0 k.1 u ≡ true) from (near_one (office_with k (p.seen ++ does.0)) (office_with k m.seen) tag h.bytes h.answer f does.1.done spells brings)
brought_near tag k p q (h ∷ hs) v (m, does, rest) (inr x) = brought_near tag k m q hs v rest x

pub handled_near : (tag : ℕ) (k : Key) (p q : DeskPass) (hs : List Handled) (v : ℕ) → Handles tag k p hs q → Brought v (heard_of hs) → are_neighbours k.0 k.1 v ≡ true
handled_near tag k p q [] v h x = elim x [ ]
handled_near tag k p q (h ∷ hs) v (m, r, does, follows, rest) (inl (f, spells, from, brings)) =
    subst (λ u. are_neighbours k.0 k.1 u ≡ true) from (near_one (office_with k (p.seen ++ does.0)) (office_with k m.seen) tag h.heard.bytes h.heard.answer f does.1.done spells brings)
handled_near tag k p q (h ∷ hs) v (m, r, does, follows, rest) (inr x) = handled_near tag k r q hs v rest x

-- ---- who gets messages

pub spares_none : (s : List Bool) → Spares s [] s
spares_none s v = (λ x. (x, λ n y. elim y [ ]), λ x. x.0)

empty_has_none : (u n : ℕ) (ns : List Made) → length ns ≡ 0 → Sent u n ns → ⊥
empty_has_none u n [] e s = elim s [ ]
empty_has_none u n (m ∷ ms) e s = absurd (omega (arith, e))

none_is_empty : (u v : ℕ) (ns : List Made) → AreFor v ns → u ≡ v → ((n : ℕ) → Sent u n ns → ⊥) → length ns ≡ 0
none_is_empty u v [] for e none = refl
none_is_empty u v (m ∷ ms) for e none = absurd (none m.frame.number (inl (for m.to m.frame.number (inl (refl, refl)) ∙ sym e, refl)))

pub spares_both : (s o t : List Bool) (v more : ℕ) (ms ns : List Made) → AreFor v ns → length ns ≡ more → Spares s ms o → Gets v more o t → Spares s (ms ++ ns) t
spares_both s o t v more ms ns for count h gets u = (
  λ x. let y = (gets u).0 x in let z = (h u).0 y.0 in (z.0, λ n w. ⊎_elim (z.1 n) (λ sent. empty_has_none u n ns (count ∙ y.1 (for u n sent)) sent) (sent_cases u n ms ns w)),
  λ x. (gets u).1 ((h u).1 (x.0, λ n w. x.1 n (sent_left u n ms ns w)), λ e. sym count ∙ none_is_empty u v ns for e (λ n w. x.1 n (sent_right u n ms ns w))),
)
