-- A world is that of its accepted events alone, since a refused one leaves it as it was; and a world's entries have no tags.
use Rattle.std.proofs.Common.{◌≡◌, ℕ, Bool, true, false, cond, List, [], ◌∷◌, ◌++◌, length, map, Option, None, Some, Ok, Err, refl, sym, ap, subst, ◌∙◌}
use Rattle.std.specs.Prelude.{Result, is_ok, nat_lt}
use Rattle.std.proofs.lemmas.List.{map-append}
use Rattle.bottle_values.specs.MapLaws.{put_cases}
use Rattle.frame_codec.specs.Frame.{Fields}
use Rattle.office_map.specs.PlanValue.{PlanValue}
use Rattle.office_journal.specs.declared.event.Event.{Event}
use Rattle.office_journal.specs.declared.event.Event.TheVariants as event
use Rattle.office_journal.specs.declared.event.Entry.{Entry}
use Rattle.office_journal.specs.declared.reply.Reply.{Reply}
use Rattle.office_journal.specs.declared.reply.Refusal as offices
use Rattle.site_core.specs.Journals.{Site, step}
use Rattle.frame_world.specs.declared.event.WorldEvent.{WorldEvent}
use Rattle.frame_world.specs.declared.event.WorldEvent.TheVariants as happening
use Rattle.frame_world.specs.declared.refusal.WorldRefusal.{WorldRefusal}
use Rattle.frame_world.specs.declared.refusal.WorldRefusal.TheVariants as refusal
use Rattle.frame_world.specs.Worlds.{World, Answer, opening, site_at, frame_at, told, handed, delivered, happens, run_of, AreAccepted}
use Rattle.frame_world.specs.WorldStates.{State, IsAccepted, entry_of}
use Rattle.frame_world.specs.WorldLaws.{through}
use Rattle.journal_weave.specs.Weaving.{untagged, entries_at}

-- ---- a refused event

told_stays : (w : World) (a : ℕ) (e : Event) (r : Result Reply offices.Refusal) (s : Site) (why : WorldRefusal) → (told w a e (r, s)).0 ≡ Err why → (told w a e (r, s)).1 ≡ w
told_stays w a e (Ok r) s why h = cc
told_stays w a e (Err r) s why h = refl

handed_stays : (w : World) (a : ℕ) (e : Event) (why : WorldRefusal) → (handed w a e).0 ≡ Err why → (handed w a e).1 ≡ w
handed_stays w a e why = by (nat_lt a (length w.sites))
  where
    by : (b : Bool) → (cond {A = Answer} b (told w a e (step (site_at w a) 0 e)) (Err refusal.NoOffice, w)).0 ≡ Err why → (cond {A = Answer} b (told w a e (step (site_at w a) 0 e)) (Err refusal.NoOffice, w)).1 ≡ w
    by true h = told_stays w a e (step (site_at w a) 0 e).0 (step (site_at w a) 0 e).1 why h
    by false h = refl

delivered_stays : (w : World) (f : Option Fields) (why : WorldRefusal) → (delivered w f).0 ≡ Err why → (delivered w f).1 ≡ w
delivered_stays w None why h = refl
delivered_stays w (Some f) why h = handed_stays w f.to (event.Took f) why h

stays : (w : World) (e : WorldEvent) (why : WorldRefusal) → (happens w e).0 ≡ Err why → (happens w e).1 ≡ w
stays w (happening.Submit a p) why = handed_stays w a (event.Submit p) why
stays w (happening.Withdraw a t) why = handed_stays w a (event.Withdraw t) why
stays w (happening.Do a r) why = handed_stays w a (event.Do r) why
stays w (happening.Send a v i) why = handed_stays w a (event.Send v i) why
stays w (happening.Deliver k) why = delivered_stays w (frame_at w k) why

-- ---- all events

-- accepted events that lead to the same world
pub record LedByAccepted (w : World) (es : List WorldEvent) : Type 0 where
  pub events : List WorldEvent
  pub accepted : AreAccepted w events
  pub leads : run_of w events ≡ run_of w es

pub led_by_accepted : (w : World) (es : List WorldEvent) → LedByAccepted w es
led_by_accepted w [] = record { events = []; accepted = tt; leads = refl }
led_by_accepted w (e ∷ es) = by (happens w e).0 refl (led_by_accepted (happens w e).1 es)
  where
    by : (r : Result Reply WorldRefusal) → (happens w e).0 ≡ r → LedByAccepted (happens w e).1 es → LedByAccepted w (e ∷ es)
    by (Ok r) is rest = record { events = e ∷ rest.events; accepted = (ap is_ok is, rest.accepted); leads = rest.leads }
    by (Err why) is rest =
        let same : (happens w e).1 ≡ w = stays w e why is in
        record {
          events = rest.events;
          accepted = subst (λ v. AreAccepted v rest.events) same rest.accepted;
          leads = ap (λ v. run_of v rest.events) (sym same) ∙ rest.leads;
        }

-- ---- tags

abbrev Untagged : State → Type 0
Untagged s = (a : ℕ) → map untagged (s.journal a) ≡ s.journal a

untagged_after : (plan : PlanValue) (s s' : State) → Untagged s → IsAccepted plan s s' → Untagged s'
untagged_after plan s s' h i = subst Untagged (sym i.led) (λ a.
    put_cases s.journal i.place (s.journal i.place ++ new ∷ []) a (λ l. map untagged l ≡ l)
    (λ is. map-append untagged (s.journal i.place) (new ∷ []) ∙ ap (λ l. l ++ new ∷ []) (h i.place))
    (λ ne. h a))
  where
    new : Entry
    new = entry_of i.event i.reply

pub are_untagged : (plan : PlanValue) (es : List WorldEvent) (a : ℕ) → map untagged (entries_at (run_of (opening plan) es) a) ≡ entries_at (run_of (opening plan) es) a
are_untagged plan es = through plan Untagged (λ a. refl) (untagged_after plan) es
