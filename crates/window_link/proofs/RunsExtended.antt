-- One event more at two ends that some events led to.
use Rattle.std.proofs.Common.{◌≡◌, List, [], ◌∷◌, ◌++◌, Result, Ok, Err, refl, sym, ap, ◌∙◌, subst}
use Rattle.std.specs.Prelude.{IfOk}
use Rattle.std.specs.declared.alloc.AllocError.{AllocError}
use Rattle.window_link.specs.declared.laws.event.LinkEvent.{LinkEvent}
use Rattle.window_link.specs.declared.laws.event.LinkReply.{LinkReply}
use Rattle.window_link.specs.Streams.{Pair, happens, run_of}
use Rattle.window_link.specs.Two.{Ends, Names, ends_of, office_at, after, LedTo, HasLawfulStreams, Happens, Accepts, NoFrameIsRefused}
use Rattle.window_link.specs.declared.laws.event.Posted.{Posted}
use Rattle.window_link.specs.Links.{LinkState, resumed}
use Rattle.window_link.specs.refinement.TwoLinksStep.{step, ends, Steps}
use Rattle.window_link.proofs.Invariant.{Sound, sound_run, sound_opening, streams_kept}
use Rattle.window_link.proofs.LinksRefineStreams.{step_is, accepts_all}

run_push : (p : Pair) (events : List LinkEvent) (event : LinkEvent) → run_of p (events ++ event ∷ []) ≡ (happens (run_of p events) event).1
run_push p [] event = refl
run_push p (e ∷ events) event = run_push (happens p e).1 events event

sound_after : (names : Names) (events : List LinkEvent) → Sound (after names events)
sound_after names events = sound_run _ events (sound_opening names.run (office_at names) names.version)

-- the events that led to the old ends and this one lead to what the links' step leaves
led_next : (names : Names) (events : List LinkEvent) (old : Ends) (event : LinkEvent) → LedTo names events old →
    LedTo names (events ++ event ∷ []) (step old event).1 × ((step old event).0 ≡ (happens (after names events) event).0)
led_next names events old event led =
    let p = after names events in
    let taken : step old event ≡ ((happens p event).0, ends_of (happens p event).1) = ap (λ t. step t event) (sym led) ∙ step_is p event (sound_after names events) in
    (ap ends_of (run_push _ events event) ∙ sym (ap (λ r. r.1) taken), ap (λ r. r.0) taken)

pub happens_so : (old new : Ends) (event : LinkEvent) (reply : LinkReply) → (reply ≡ (step old event).0) × (new ≡ (step old event).1) → Happens old event reply new
happens_so old new event reply h names events led =
    let next = led_next names events old event led in
    (subst (LedTo names (events ++ event ∷ [])) (sym h.1) next.0, h.0 ∙ next.1)

pub keeps_opening : (names : Names) → HasLawfulStreams (ends_of (after names []))
keeps_opening names = record { names = names; events = []; led = refl; lawful = streams_kept names.run (office_at names) names.version [] }

keeps_next : (old new : Ends) (event : LinkEvent) → HasLawfulStreams old → new ≡ (step old event).1 → HasLawfulStreams new
keeps_next old new event k is =
    subst HasLawfulStreams (sym is)
    (record { names = k.names; events = k.events ++ event ∷ []; led = (led_next k.names k.events old event k.led).0; lawful = streams_kept k.names.run (office_at k.names) k.names.version (k.events ++ event ∷ []) })

pub keeps_steps : (old new : Ends) (event : LinkEvent) (result : Result LinkReply AllocError) → HasLawfulStreams old → Steps old event result new → HasLawfulStreams new
keeps_steps old new event (Ok reply) k s = keeps_next old new event k s.0.1
keeps_steps old new event (Err e) k s = subst HasLawfulStreams (sym s.1.0) k

pub keeps_accepts : (t : Ends) → HasLawfulStreams t → Accepts t
keeps_accepts t k = subst Accepts k.led (accepts_all (after k.names k.events) (sound_after k.names k.events))

pub keeps_ends : (names : Names) (left right : LinkState) (frames : List Posted) → left ≡ resumed names.run names.left names.right 0 0 names.version → right ≡ resumed names.run names.right names.left 0 0 names.version → frames ≡ [] →
    HasLawfulStreams (ends left right frames)
keeps_ends names left right frames l r f =
    subst HasLawfulStreams
    (ap (λ x. ends x (resumed names.run names.right names.left 0 0 names.version) []) (sym l) ∙ ap (λ x. ends left x []) (sym r) ∙ ap (ends left right) (sym f))
    (keeps_opening names)

pub happens_steps : (old new : Ends) (event : LinkEvent) (result : Result LinkReply AllocError) → Steps old event result new → IfOk result (λ reply. Happens old event reply new)
happens_steps old new event (Ok reply) s = happens_so old new event reply s.0
happens_steps old new event (Err e) s = tt

pub none_refused : NoFrameIsRefused
none_refused names events = accepts_all (after names events) (sound_after names events)
