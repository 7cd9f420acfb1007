-- One channel changed, and what the office has on all of them.
use Rattle.std.proofs.Common.{◌≡◌, ◌≢◌, ℕ, ◌<◌, Bool, true, false, IsTrue, cond, List, length, get_or, None, Some, refl, sym, ap, subst, ◌∙◌, ⊎_elim, set}
use Rattle.std.specs.Prelude.{is_some}
use Rattle.std.proofs.lemmas.Bool.{eq-eqb, ne_eqb, cases_eq, cases_lt}
use Rattle.std.proofs.lemmas.List.{get_or-set_same, get_or-set_other, get_or_past, get_or_read}
use mathlib.Core.Path.{fun_ext}
use Rattle.bottle_values.specs.Maps.{put}
use Rattle.bottle_values.specs.declared.version.Version.{Version}
use Rattle.frame_codec.specs.declared.message.Msg.{Msg}
use Rattle.frame_codec.specs.Frame.{Fields, carries}
use Rattle.office_map.specs.PlanValue.{PlanValue}
use Rattle.window_link.specs.declared.arrival.Arrival.{Arrival}
use Rattle.window_link.specs.declared.arrival.Arrival.TheVariants as arrival
use Rattle.window_link.specs.Windows.{queued}
use Rattle.token_channel.specs.declared.thing.Thing.{Thing}
use Rattle.token_channel.specs.Things.{thing_of, same, hold}
use Rattle.token_channel.specs.Places.{holds, shares}
use Rattle.token_channel.specs.Channels.{ChannelState, sent, after_taking, held_after, WhatIsSharedStays}
use Rattle.site_core.specs.neighbours.Pairs.{queued_to}
use Rattle.site_core.specs.neighbours.refinement.Slots.{Slot, slot_at, link_in, links_of, slot_holds, slot_carries, slot_sent, slot_taking, IsSlotOf}

put_same : {A : Type 0} (f : ℕ → A) (v u : ℕ) (x : A) → u ≡ v → put f v x u ≡ x
put_same f v u x e = ap (λ b. cond b x (f u)) (eq-eqb u v e)

put_other : {A : Type 0} (f : ℕ → A) (v u : ℕ) (x : A) → u ≢ v → put f v x u ≡ f u
put_other f v u x ne = ap (λ b. cond b x (f u)) (ne_eqb u v ne)

-- ---- what each channel has

same_channel : (plan : PlanValue) (me v : ℕ) (here h : Thing → Bool) (c c' : ChannelState) → ((t : Thing) → shares c'.places t ≡ shares c.places t) → ((t : Thing) → holds c'.places t ≡ h t) →
    IsSlotOf plan me v here (Some c) → IsSlotOf plan me v h (Some c')
same_channel plan me v here h c c' sh hd (near, is) = (near, record { shared = λ t. sh t ∙ is.shared t; held = hd })

slots_put : (plan : PlanValue) (me : ℕ) (here : ℕ → Thing → Bool) (slots : List Slot) (v : ℕ) (c c' : ChannelState) (h : Thing → Bool) → v < length slots →
    slot_at slots v ≡ Some c → ((t : Thing) → shares c'.places t ≡ shares c.places t) → ((t : Thing) → holds c'.places t ≡ h t) →
    ((u : ℕ) → IsSlotOf plan me u (here u) (slot_at slots u)) → (u : ℕ) → IsSlotOf plan me u (put here v h u) (slot_at (set slots v (Some c')) u)
slots_put plan me here slots v c c' h lt is sh hd all u = ⊎_elim
    (λ e.
    let at_v : IsSlotOf plan me v h (Some c') = same_channel plan me v (here v) h c c' sh hd (subst (IsSlotOf plan me v (here v)) is (all v)) in
    let at_u : IsSlotOf plan me u h (Some c') = subst (λ k. IsSlotOf plan me k h (Some c')) (sym e) at_v in
    let there : slot_at (set slots v (Some c')) u ≡ Some c' = ap (slot_at (set slots v (Some c'))) e ∙ get_or-set_same slots v (Some c') None lt in
    subst (IsSlotOf plan me u (put here v h u)) (sym there) (subst (λ k. IsSlotOf plan me u k (Some c')) (sym (put_same here v u h e)) at_u))
    (λ ne. subst (IsSlotOf plan me u (put here v h u)) (sym (get_or-set_other slots v u (Some c') None ne)) (subst (λ k. IsSlotOf plan me u k (slot_at slots u)) (sym (put_other here v u h ne)) (all u)))
    (cases_eq u v)

links_put : (run : ℕ) (version : Version) (me : ℕ) (slots : List Slot) (v : ℕ) (c' : ChannelState) → v < length slots → links_of run version me (set slots v (Some c')) ≡ put (links_of run version me slots) v c'.link
links_put run version me slots v c' lt = fun_ext (λ u. ⊎_elim
    (λ e. ap (link_in run version me u) (ap (slot_at (set slots v (Some c'))) e ∙ get_or-set_same slots v (Some c') None lt) ∙ sym (put_same (links_of run version me slots) v u c'.link e))
    (λ ne. ap (link_in run version me u) (get_or-set_other slots v u (Some c') None ne) ∙ sym (put_other (links_of run version me slots) v u c'.link ne))
    (cases_eq u v))

hold_same : (f g : Thing → Bool) (t u : Thing) (b : Bool) → ((x : Thing) → f x ≡ g x) → hold f t b u ≡ hold g t b u
hold_same f g t u b e = ap (λ x. cond (same u t) b x) (e u)

pub held_after_same : (f g : Thing → Bool) (a : Arrival) (u : Thing) → ((x : Thing) → f x ≡ g x) → held_after f a u ≡ held_after g a u
held_after_same f g (arrival.Fresh m) u e = hold_same f g (thing_of m) u true e
held_after_same f g arrival.Acked u e = e u
held_after_same f g arrival.Repeat u e = e u
held_after_same f g arrival.Kept u e = e u
held_after_same f g arrival.Early u e = e u

held_here : (plan : PlanValue) (me v : ℕ) (here : Thing → Bool) (c : ChannelState) → IsSlotOf plan me v here (Some c) → (t : Thing) → holds c.places t ≡ here t
held_here plan me v here c (near, is) = is.held

-- ---- a message is sent

-- what the link to v carries, its slot does
pub carried_on : (run : ℕ) (version : Version) (me v : ℕ) (slot : Slot) (m : Msg) → IsTrue (carries (link_in run version me v slot).version m) → IsTrue (slot_carries slot m)
carried_on run version me v None m e = refl
carried_on run version me v (Some c) m e = e

-- every link carries what has no value
pub carried_token : (slot : Slot) (m : Msg) → ((version : Version) → IsTrue (carries version m)) → IsTrue (slot_carries slot m)
carried_token None m e = refl
carried_token (Some c) m e = e c.link.version

pub slots_sent : (plan : PlanValue) (me : ℕ) (here : ℕ → Thing → Bool) (slots slots' : List Slot) (v : ℕ) (slot : Slot) (m : Msg) → WhatIsSharedStays → v < length slots → slot_holds slot (thing_of m) ≡ true →
    slot_at slots v ≡ slot → slots' ≡ set slots v (slot_sent slot m) → ((t : Thing) → slot_holds (slot_sent slot m) t ≡ hold (slot_holds slot) (thing_of m) false t) →
    ((u : ℕ) → IsSlotOf plan me u (here u) (slot_at slots u)) → (u : ℕ) → IsSlotOf plan me u (put here v (hold (here v) (thing_of m) false) u) (slot_at slots' u)
slots_sent plan me here slots slots' v None m stays lt has is new hd all u = cc
slots_sent plan me here slots slots' v (Some c) m stays lt has is new hd all u =
    subst (λ s. IsSlotOf plan me u (put here v (hold (here v) (thing_of m) false) u) (slot_at s u)) (sym new)
    (slots_put plan me here slots v c (sent c m) (hold (here v) (thing_of m) false) lt is (λ t. (stays c t).0 m)
    (λ t. hd t ∙ hold_same (holds c.places) (here v) (thing_of m) t false (held_here plan me v (here v) c (subst (IsSlotOf plan me v (here v)) is (all v)))) all u)

pub links_sent : (run : ℕ) (version : Version) (me : ℕ) (slots slots' : List Slot) (v : ℕ) (slot : Slot) (m : Msg) → v < length slots → slot_holds slot (thing_of m) ≡ true → slot_at slots v ≡ slot → slots' ≡ set slots v (slot_sent slot m) →
    links_of run version me slots' ≡ queued_to (links_of run version me slots) v m
links_sent run version me slots slots' v None m lt has is new = cc
links_sent run version me slots slots' v (Some c) m lt has is new =
    ap (links_of run version me) new ∙ links_put run version me slots v (sent c m) lt
    ∙ ap (λ (s : Slot). put (links_of run version me slots) v (record { run = (link_in run version me v s).run; me = (link_in run version me v s).me; peer = (link_in run version me v s).peer; sending = queued (link_in run version me v s).sending m; receiving = (link_in run version me v s).receiving; version = (link_in run version me v s).version })) (sym is)

-- ---- what is taken with a frame

-- where there is a channel there is a place
within_slots : (slots : List Slot) (v : ℕ) → is_some (slot_at slots v) ≡ true → v < length slots
within_slots slots v e = ⊎_elim (λ lt. lt) (λ past. absurd (go (get_or_past slots v None past))) (cases_lt v (length slots))
  where
    go : slot_at slots v ≡ None → ⊥
    go none = let wrong : false ≡ true = ap is_some (sym none) ∙ e in cc

-- the channel that the code looked at is the one that is there
pub looked_at : (slots : List Slot) (v : ℕ) (looked : Slot) (c d : ChannelState) → is_some (slot_at slots v) ≡ true → looked ≡ get_or slots v looked → looked ≡ Some c → slot_at slots v ≡ Some d → c ≡ d
looked_at slots v looked c d there value is at =
    let both : ◌≡◌ {A = Slot} (Some c) (Some d) = sym is ∙ get_or_read slots v looked (within_slots slots v there) value None ∙ at in
    cc

pub links_taking : (run : ℕ) (version : Version) (me : ℕ) (slots slots' : List Slot) (v : ℕ) (c : ChannelState) (f : Fields) → v < length slots → slot_at slots v ≡ Some c → slots' ≡ set slots v (slot_taking (slot_at slots v) f) →
    links_of run version me slots' ≡ put (links_of run version me slots) v (after_taking c f).link
links_taking run version me slots slots' v c f lt is new =
    ap (links_of run version me) new ∙ ap (λ (s : Slot). links_of run version me (set slots v (slot_taking s f))) is ∙ links_put run version me slots v (after_taking c f) lt

-- the channel to v has what it had, and holds this
pub slots_taking : (plan : PlanValue) (me : ℕ) (here : ℕ → Thing → Bool) (slots slots' : List Slot) (v : ℕ) (c : ChannelState) (f : Fields) → v < length slots → slot_at slots v ≡ Some c → slots' ≡ set slots v (slot_taking (slot_at slots v) f) →
    ((t : Thing) → shares (after_taking c f).places t ≡ shares c.places t) → ((u : ℕ) → IsSlotOf plan me u (here u) (slot_at slots u)) →
    (u : ℕ) → IsSlotOf plan me u (put here v (holds (after_taking c f).places) u) (slot_at slots' u)
slots_taking plan me here slots slots' v c f lt is new stays all u =
    let after : slots' ≡ set slots v (Some (after_taking c f)) = new ∙ ap (λ (s : Slot). set slots v (slot_taking s f)) is in
    subst (λ s. IsSlotOf plan me u (put here v (holds (after_taking c f).places) u) (slot_at s u)) (sym after)
    (slots_put plan me here slots v c (after_taking c f) (holds (after_taking c f).places) lt is stays (λ t. refl) all u)
