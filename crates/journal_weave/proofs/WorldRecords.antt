-- Each world's journals are woven, and settle it but for the order: an office is its plan, its number and its entries.
use Rattle.std.proofs.Common.{◌≡◌, ℕ, ◌<◌, List, [], map, Option, None, Some, refl, sym, ap, subst, ◌∙◌}
use Rattle.std.specs.Option.{option_map_or}
use Rattle.std.proofs.lemmas.List.{ext_get_or}
use Rattle.frame_codec.specs.Frame.{Fields}
use Rattle.office_map.specs.PlanValue.{PlanValue, ends_of}
use Rattle.site_core.specs.Journals.{Site, office_of}
use Rattle.frame_world.specs.declared.event.WorldEvent.{WorldEvent}
use Rattle.frame_world.specs.Worlds.{World, Finished, silent, opening, site_at, run_of}
use Rattle.frame_world.specs.Ways.{bottles_between, bottles_of}
use Rattle.frame_world.specs.Headline.{Always}
use Rattle.frame_world.specs.Tickets.{HaveTheirTickets, TellsEachOffice}
use Rattle.frame_world.specs.WorldStates.{IsSeated}
use Rattle.frame_world.specs.WorldLaws.{seated}
use Rattle.journal_weave.specs.declared.given.GivenJournal.{GivenJournal}
use Rattle.journal_weave.specs.Weaving.{untagged, entries_at}
use Rattle.journal_weave.specs.Given.{told_in}
use Rattle.journal_weave.specs.WorldRecords.{AreRecordOf, DifferInOrder, WovenIsRecord, WorldsAreWoven, SchedulesDifferInOrder, WorldsAreFoundAgain}
use Rattle.journal_weave.proofs.EntriesTold.{other_default}
use Rattle.journal_weave.proofs.AcceptedEvents.{site_is}
use Rattle.journal_weave.proofs.AcceptedAlone.{LedByAccepted, led_by_accepted, are_untagged}
use Rattle.journal_weave.proofs.FinishedAt.{same_finished}
use Rattle.journal_weave.proofs.SentFromAll.{same_frames}

-- what a world's offices accepted has no tags, so it is what is told of them, without tags
as_told : (plan : PlanValue) (events : List WorldEvent) (journals : List GivenJournal) → AreRecordOf (run_of (opening plan) events) journals → (a : ℕ) → entries_at (run_of (opening plan) events) a ≡ map untagged (told_in journals a)
as_told plan events journals of a = sym (are_untagged plan events a) ∙ sym (of.told a)

pub woven_is_record : WovenIsRecord
woven_is_record plan journals events = (
  λ h. (h.woven.accepted, record { whole = h.whole; told = λ a. sym (h.woven.as_told a) ∙ sym (are_untagged plan events a) }),
  λ h. record { whole = h.1.whole; woven = record { accepted = h.0; as_told = as_told plan events journals h.1 } },
)

pub worlds_are_woven : WovenIsRecord → WorldsAreWoven
worlds_are_woven records plan events journals of =
    let led : LedByAccepted (opening plan) events = led_by_accepted (opening plan) events in
    let there : AreRecordOf (run_of (opening plan) led.events) journals = subst (λ w. AreRecordOf w journals) (sym led.leads) of in
    (led.events, (records plan journals led.events).1 (led.accepted, there), led.leads)

-- ---- offices

-- whichever stands past the end
same_site : (plan : PlanValue) (v w : World) (a : ℕ) → IsSeated plan v → IsSeated plan w → entries_at v a ≡ entries_at w a → site_at v a ≡ site_at w a
same_site plan v w a hv hw same = site_is plan v a hv ∙ ap (λ l. record { plan = plan; me = a; entries = l }) same ∙ sym (site_is plan w a hw)

same_sites : (plan : PlanValue) (v w : World) → IsSeated plan v → IsSeated plan w → ((a : ℕ) → site_at v a ≡ site_at w a) → v.sites ≡ w.sites
same_sites plan v w hv hw same = ext_get_or (silent plan 0) v.sites w.sites (hv.size ∙ sym hw.size) (λ i lt.
    other_default v.sites i (silent v.plan i) (silent plan 0) lt
    ∙ same i
    ∙ sym (other_default w.sites i (silent w.plan i) (silent plan 0) (subst (λ n. i < n) (hv.size ∙ sym hw.size) lt)))

-- ---- bottles: the frames and the finishing list say nothing of them

abbrev a_world : PlanValue → List Site → List Fields → List Finished → World
a_world plan sites frames finished = record { plan = plan; sites = sites; frames = frames; finished = finished }

same_bottles : (plan : PlanValue) (sites : List Site) (fs gs : List Fields) (xs ys : List Finished) (r : ℕ) → bottles_of (a_world plan sites fs xs) r ≡ bottles_of (a_world plan sites gs ys) r
same_bottles plan sites fs gs xs ys r = by (ends_of plan r)
  where
    by : (o : Option (ℕ × ℕ)) → option_map_or (bottles_between (a_world plan sites fs xs) r) o [] ≡ option_map_or (bottles_between (a_world plan sites gs ys) r) o []
    by None = refl
    by (Some (a, b)) = refl

bottles_by : (plan : PlanValue) (v w : World) (r : ℕ) → IsSeated plan v → IsSeated plan w → v.sites ≡ w.sites → bottles_of v r ≡ bottles_of w r
bottles_by plan v w r hv hw same =
    ap (λ p. bottles_of (a_world p v.sites v.frames v.finished) r) (hv.planned ∙ sym hw.planned)
    ∙ ap (λ s. bottles_of (a_world w.plan s v.frames v.finished) r) same
    ∙ same_bottles w.plan w.sites v.frames w.frames v.finished w.finished r

-- ---- the laws

pub schedules_differ_in_order : Always HaveTheirTickets → Always TellsEachOffice → SchedulesDifferInOrder
schedules_differ_in_order tickets tells plan told events others consistent one other =
    let v : World = run_of (opening plan) events in
    let w : World = run_of (opening plan) others in
    let hv : IsSeated plan v = seated plan events in
    let hw : IsSeated plan w = seated plan others in
    let same : (a : ℕ) → entries_at v a ≡ entries_at w a = λ a. one.as_told a ∙ sym (other.as_told a) in
    let site : (a : ℕ) → site_at v a ≡ site_at w a = λ a. same_site plan v w a hv hw (same a) in
    let sites : v.sites ≡ w.sites = same_sites plan v w hv hw site in
    record {
      plan = hv.planned ∙ sym hw.planned;
      offices = sites;
      sessions = λ a. same_finished v w a same (tickets plan events consistent) (tickets plan others consistent)
          (tells plan events consistent a ∙ ap (λ (s : Site). (office_of s).agenda.outcomes) (site a) ∙ sym (tells plan others consistent a));
      frames = λ test. same_frames plan test events others one.accepted other.accepted sites;
      bottles = λ r. bottles_by plan v w r hv hw sites;
    }

pub worlds_are_found_again : WorldsAreWoven → SchedulesDifferInOrder → WorldsAreFoundAgain
worlds_are_found_again woven settled plan events schedule journals consistent of found =
    let led = woven plan events journals of in
    subst (λ v. DifferInOrder v (run_of (opening plan) schedule)) led.2 (settled plan (told_in journals) led.0 schedule consistent led.1.woven found.woven)
