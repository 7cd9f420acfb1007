-- What the world's list of finished sessions tells.
use Rattle.std.proofs.Common.{◌≡◌, ℕ, zero, suc, ◌<◌, List, [], ◌∷◌, length, map, get_or, Some, option_map, refl, sym, ap, subst, ◌∙◌, arith}
use Rattle.std.specs.Prelude.{All, find, slice_get}
use Rattle.std.proofs.lemmas.Bool.{eqb-true}
use Rattle.std.proofs.lemmas.List.{get_or_read}
use Rattle.std.proofs.lemmas.List.Elements.{All-head, All-tail, All-get_or}
use Rattle.frame_codec.specs.Frame.{Fields}
use Rattle.office_map.specs.PlanValue.{PlanValue}
use Rattle.site_core.specs.Journals.{Site, office_of, IsLegal}
use Rattle.site_core.specs.Readers.{outcome_with}
use Rattle.frame_world.specs.Worlds.{World, Finished, silent}
use Rattle.frame_world.specs.Headline.{outcomes}
use Rattle.world_schedule.specs.declared.finished.Finished as mark
use Rattle.world_schedule.specs.Readers.{listed_as}
use Rattle.world_schedule.specs.refinement.WorldOfCode.{no_session, finished_of, has_ticket, found_in, finished_in, world_in, IsKnown, IsWorld}
use Rattle.world_schedule.proofs.FinishedSessions.{outcomes_told, finished_here, found_passes, found_all, found_some, outcome_found}

-- ---- one entry of the list

is_listed : (plan : PlanValue) (sites : List Site) (frames : List Fields) (marks : List mark.Finished) → IsWorld plan sites frames marks → (m : mark.Finished) → IsKnown plan sites m → m ≡ listed_as (finished_in plan sites m)
is_listed plan sites frames marks world m (within, found) =
    let s : Site = get_or sites m.office (silent plan m.office) in
    let f : Finished = finished_in plan sites m in
    let is : found_in plan sites m ≡ Some f = found_some (found_in plan sites m) no_session found in
    let ticket : f.outcome.ticket ≡ m.ticket = eqb-true f.outcome.ticket m.ticket (found_passes (has_ticket m.ticket) (finished_of s) f is) in
    let office : f.outcome.office ≡ m.office = found_all (λ (x : Finished). x.outcome.office ≡ s.me) (has_ticket m.ticket) (finished_of s) f (finished_here s) is ∙ (world.each m.office within).1 in
    ap (λ o. record { office = o; ticket = m.ticket }) (sym office) ∙ ap (λ t. record { office = f.outcome.office; ticket = t }) (sym ticket)

-- ---- all of it

marks_are : (plan : PlanValue) (sites : List Site) (ms : List mark.Finished) → ((m : mark.Finished) → IsKnown plan sites m → m ≡ listed_as (finished_in plan sites m)) → All (IsKnown plan sites) ms → ms ≡ map listed_as (map (finished_in plan sites) ms)
marks_are plan sites [] is h = refl
marks_are plan sites (m ∷ ms) is h =
    ap (λ x. x ∷ ms) (is m (All-head (IsKnown plan sites) m ms h)) ∙ ap (λ l. listed_as (finished_in plan sites m) ∷ l) (marks_are plan sites ms is (All-tail (IsKnown plan sites) m ms h))

pub listed : (plan : PlanValue) (sites : List Site) (frames : List Fields) (marks : List mark.Finished) → IsWorld plan sites frames marks → marks ≡ map listed_as (world_in plan sites frames marks).finished
listed plan sites frames marks world = marks_are plan sites marks (is_listed plan sites frames marks world) world.known

-- ---- outcomes

element : {X Y : Type 0} (f : X → Y) (xs : List X) (i : ℕ) (d : X) → i < length xs → slice_get (map f xs) i ≡ Some (f (get_or xs i d))
element f [] i d lt = absurd (omega (arith, lt))
element f (x ∷ xs) zero d lt = refl
element f (x ∷ xs) (suc i) d lt = element f xs i d (omega (arith, lt))

mapped_twice : {X Y Z : Type 0} (f : X → Y) (g : Y → Z) (xs : List X) → map g (map f xs) ≡ map (λ x. g (f x)) xs
mapped_twice f g [] = refl
mapped_twice f g (x ∷ xs) = ap (λ l. g (f x) ∷ l) (mapped_twice f g xs)

pub known_at : (plan : PlanValue) (sites : List Site) (frames : List Fields) (marks : List mark.Finished) (i : ℕ) (m : mark.Finished) → IsWorld plan sites frames marks → i < length marks → m ≡ get_or marks i m → IsKnown plan sites m
known_at plan sites frames marks i m world lt is = subst (IsKnown plan sites) (sym is) (All-get_or (IsKnown plan sites) marks i m lt world.known)

-- the outcome that the listed office has with the listed ticket
pub outcome_at : (plan : PlanValue) (sites : List Site) (frames : List Fields) (marks : List mark.Finished) (i : ℕ) (m : mark.Finished) (s : Site) → IsWorld plan sites frames marks → i < length marks → m ≡ get_or marks i m →
    s ≡ get_or sites m.office s → outcome_with (office_of s).agenda.outcomes m.ticket ≡ slice_get (outcomes (world_in plan sites frames marks)) i
outcome_at plan sites frames marks i m s world lt is here =
    let known : IsKnown plan sites m = known_at plan sites frames marks i m world lt is in
    let there : s ≡ get_or sites m.office (silent plan m.office) = get_or_read sites m.office s known.0 here (silent plan m.office) in
    let legal : IsLegal s = subst IsLegal (sym there) (world.each m.office known.0).2 in
    let found : found_in plan sites m ≡ Some (finished_in plan sites m) = found_some (found_in plan sites m) no_session known.1 in
    let right : slice_get (outcomes (world_in plan sites frames marks)) i ≡ Some (finished_in plan sites m).outcome =
    ap (λ l. slice_get l i) (mapped_twice (finished_in plan sites) (λ (f : Finished). f.outcome) marks) ∙ element (λ x. (finished_in plan sites x).outcome) marks i m lt ∙ ap (λ x. Some (finished_in plan sites x).outcome) (sym is) in
    ap (λ l. outcome_with l m.ticket) (outcomes_told s legal) ∙ outcome_found m.ticket (finished_of s)
    ∙ ap (λ x. option_map (λ (f : Finished). f.outcome) (find (has_ticket m.ticket) (finished_of x))) there ∙ ap (option_map (λ (f : Finished). f.outcome)) found ∙ sym right

-- ---- the office of a number

pub site_of_world : (plan : PlanValue) (sites : List Site) (frames : List Fields) (marks : List mark.Finished) (v : World) (a i : ℕ) (s : Site) → IsWorld plan sites frames marks → world_in plan sites frames marks ≡ v → a < length v.plan.offices → i ≡ a → s ≡ get_or sites i s →
    (s.plan ≡ v.plan) × (s.me ≡ a)
site_of_world plan sites frames marks v a i s world is lt same here =
    let count : length v.plan.offices ≡ length sites = ap (λ (w : World). length w.plan.offices) (sym is) ∙ sym world.count in
    let within : a < length sites = omega (arith, lt, count) in
    let there : s ≡ get_or sites a (silent plan a) = get_or_read sites a s within (here ∙ ap (λ k. get_or sites k s) same) (silent plan a) in
    let each = world.each a within in
    (ap (λ (x : Site). x.plan) there ∙ each.0 ∙ ap (λ (w : World). w.plan) is, ap (λ (x : Site). x.me) there ∙ each.1)
