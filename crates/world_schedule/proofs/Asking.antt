-- One of several offices is asked.
use Rattle.std.proofs.Common.{◌≡◌, ℕ, ◌<◌, List, length, get_or, set, Err, refl, ap, subst, ◌∙◌}
use Rattle.std.specs.Prelude.{Result}
use Rattle.std.proofs.lemmas.List.{get_or_read, set-get_or}
use Rattle.office_journal.specs.declared.event.Event.{Event}
use Rattle.office_journal.specs.declared.reply.Reply.{Reply}
use Rattle.office_journal.specs.declared.reply.Refusal as offices
use Rattle.site_core.specs.Journals.{Site, Steps}
use Rattle.frame_world.specs.declared.refusal.WorldRefusal.{WorldRefusal}
use Rattle.world_schedule.specs.refinement.Handing.{Hands, Asked, passed_on}

pub asked : (sites : List Site) (a i : ℕ) (e : Event) (s s' : Site) (answer : Result Reply offices.Refusal) (result : Result Reply WorldRefusal) → i ≡ a → i < length sites → s ≡ get_or sites i s → Steps s 0 e answer s' → result ≡ passed_on answer →
    Hands sites a e result (set sites i s')
asked sites a i e s s' answer result same lt is steps told =
    let within : a < length sites = subst (λ k. k < length sites) same lt in
    let here : s ≡ get_or sites a s = is ∙ ap (λ k. get_or sites k s) same in
    Asked within answer s' told (λ d. subst (λ x. Steps x 0 e answer s') (get_or_read sites a s within here d) steps) (ap (λ k. set sites k s') same)

-- it refuses, and all stay as they are
pub asked_and_refused : (sites : List Site) (a i : ℕ) (e : Event) (s : Site) (r : offices.Refusal) → i ≡ a → i < length sites → s ≡ get_or sites i s → Steps s 0 e (Err r) s → Hands sites a e (passed_on (Err r)) sites
asked_and_refused sites a i e s r same lt is steps = subst (Hands sites a e (passed_on (Err r))) (ap (set sites i) is ∙ set-get_or sites i s) (asked sites a i e s s (Err r) (passed_on (Err r)) same lt is steps refl)
