-- The office that the code keeps, at the end of its journal.
use Rattle.std.proofs.Common.{◌≡◌, ℕ, ◌+◌, ◌≤◌, ◌<◌, ◌⊎◌, inl, inr, Bool, true, false, cond, List, [], ◌∷◌, ◌++◌, length, None, Some, Result, Ok, Err, refl, sym, ap, subst, ◌∙◌, arith}
use Rattle.std.specs.Prelude.{nat_le, All, IsOk, IsTrue, OnErr}
use Rattle.bottle_values.specs.Versions.{admits}
use Rattle.office_map.specs.Consistency.{IsConsistent}
use Rattle.office_map.specs.PlanValue.{PlanValue, are_neighbours}
use Rattle.window_link.specs.Windows.{used}
use Rattle.site_core.specs.Limits.{most_entries}
use Rattle.office_journal.specs.declared.event.Event.{Event}
use Rattle.office_journal.specs.declared.event.Event.TheVariants as event
use Rattle.office_journal.specs.declared.event.Entry.{Entry}
use Rattle.site_core.specs.declared.agendas.session.Session.{Session}
use Rattle.office_journal.specs.declared.reply.Reply.{Reply}
use Rattle.office_journal.specs.declared.reply.Reply.TheVariants as reply
use Rattle.office_journal.specs.declared.reply.Refusal.{Refusal}
use Rattle.office_journal.specs.declared.reply.Refusal.TheVariants as refusal
use Rattle.frame_codec.specs.Frame.{Fields}
use Rattle.session_meaning.specs.ProgramValue.{ProgramValue}
use Rattle.window_link.specs.declared.arrival.Arrival.{Arrival}
use Rattle.office_journal.specs.Replies.{reply_to}
use Rattle.site_core.specs.neighbours.Pairs.{Pairs, frame_fault, arrival_of, after_taking}
use Rattle.site_core.specs.neighbours.Pairs as pairs
use Rattle.site_core.specs.agendas.Agenda.{Agenda}
use Rattle.site_core.specs.agendas.Agenda as agenda
use Rattle.site_core.specs.Offices.{Office, Answer, done_if, is_ours, frame_on, framed, unless_faulty, with_pairs, answer, opened}
use Rattle.site_core.specs.Journals.{Site, office_of, noted, after, next_or, step, Steps, Adds, IsLegal, recorded}
use Rattle.site_core.specs.neighbours.refinement.PairsOfCode.{PairsValue, pairs_of, IsOf, HaveRoom, HaveValues}
use Rattle.site_core.specs.agendas.refinement.AgendaOfCode.{AgendaValue, Means}
use Rattle.site_core.specs.refinement.OfficeOfCode.{office_at, Stands, AreOurs, site_of, IsAtEnd}
use Rattle.site_core.specs.JournalLaws.{office_noted, legal_noted, office_empty, legal_empty}
use Rattle.site_core.specs.refinement.OfficeValues.{OfficeFits, Keeps}
use Rattle.site_core.proofs.OfficeLimits.{within}
use Rattle.site_core.proofs.OfficeValues.{keeps_submit, keeps_sending, fits_at_start}

stands_by : (p : PairsValue) (v : AgendaValue) (o o' : Office) → o ≡ o' → Stands p v o → Stands p v o'
stands_by p v o o' e s = subst (Stands p v) e s

pub opens : (p : PairsValue) (v : AgendaValue) (entries : List Entry) (plan : PlanValue) (me : ℕ) → IsConsistent plan → IsOf plan me p → pairs_of p ≡ pairs.opened plan me → Means v agenda.empty → entries ≡ [] → IsAtEnd p v entries
opens p v entries plan me consistent of is means none =
    let here : Stands p v (office_of (site_of p [])) = stands_by p v (opened p.plan p.me) (office_of (site_of p [])) (sym (office_empty p.plan p.me))
    (is ∙ ap (λ x. pairs.opened x me) (sym of.0) ∙ ap (λ x. pairs.opened p.plan x) (sym of.1), means) in
    let fits : OfficeFits p.plan.version (office_of (site_of p [])) = subst (OfficeFits p.plan.version) (sym (office_empty p.plan p.me)) (fits_at_start p.plan p.me (subst IsConsistent (sym of.0) consistent)) in
    subst (IsAtEnd p v) (sym none) (record { stands = here; legal = legal_empty p.plan p.me; fits = fits })

-- no link used more numbers than a journal takes entries
pub numbers_in_range : (p : PairsValue) (v : AgendaValue) (entries : List Entry) → IsAtEnd p v entries → (u : ℕ) → used ((pairs_of p).link u).sending ≤ most_entries
numbers_in_range p v entries h u =
    let w = (within (site_of p entries)).numbers u in
    let same = ap (λ (x : Pairs). used (x.link u).sending) h.stands.0 in
    omega (arith, w, same, h.legal.few)

-- so each has numbers left, while the journal isn't too long
pub have_room : (p : PairsValue) (v : AgendaValue) (entries : List Entry) → IsAtEnd p v entries → HaveRoom p
have_room p v entries h = λ u. omega (arith, numbers_in_range p v entries h u)

pub are_ours : (p : PairsValue) (v : AgendaValue) (entries : List Entry) → IsAtEnd p v entries → AreOurs p v
are_ours p v entries h = subst (All (λ (s : Session). is_ours p.plan p.me s.program ≡ true)) (sym h.stands.1.queue) (within (site_of p entries)).ours

-- what the bottles hold can go on the links
pub have_values : (p : PairsValue) (v : AgendaValue) (entries : List Entry) → IsAtEnd p v entries → HaveValues p
have_values p v entries h r x is =
    let u = (pairs_of p).drinker.peer r in
    let version = ap (λ (y : Pairs). (y.link u).version) h.stands.0 ∙ (h.fits.pairs.links u).same in
    subst (λ w. IsTrue (admits w x)) (sym version) (h.fits.pairs.bottles r x (ap (λ (y : Pairs). y.drinker.bottle r) (sym h.stands.0) ∙ is))

-- one entry more, where room was made for it
pub noted_more : (xs ys zs : List Entry) (x e : Entry) → zs ≡ ys ++ x ∷ [] → ys ≡ xs → x ≡ e → zs ≡ xs ++ e ∷ []
noted_more xs ys zs x e is same told = is ∙ ap (λ l. l ++ x ∷ []) same ∙ ap (λ y. xs ++ y ∷ []) told

still_fits : (p p' : PairsValue) (entries : List Entry) → p'.plan ≡ p.plan → OfficeFits p.plan.version (office_of (site_of p' entries)) → OfficeFits p'.plan.version (office_of (site_of p' entries))
still_fits p p' entries same fits = subst (λ (x : PlanValue). OfficeFits x.version (office_of (site_of p' entries))) (sym same) fits

-- an accepted event, and its entry
pub goes_on : (p p' : PairsValue) (v v' : AgendaValue) (entries entries' : List Entry) (tag : ℕ) (e : Event) (r : Reply) (o : Office) → IsAtEnd p v entries → Keeps p.plan p.me e → IsOf p.plan p.me p' →
    answer p.plan p.me (office_of (site_of p entries)) e ≡ Ok (r, o) → Stands p' v' o → tag < 16 → nat_le most_entries (length entries) ≡ false → entries' ≡ entries ++ record { tag = tag; event = e; reply = r } ∷ [] → IsAtEnd p' v' entries'
goes_on p p' v v' entries entries' tag e r o h keeps of ok stands lt room grown =
    let s = site_of p entries in
    let reached : after p.plan p.me (office_of s) e ≡ o = ap (next_or (office_of s)) ok in
    let same : site_of p' entries' ≡ noted s tag e r = ap (λ x. record { plan = x; me = p'.me; entries = entries' }) of.0 ∙ ap (λ x. record { plan = p.plan; me = x; entries = entries' }) of.1 ∙ ap (λ x. record { plan = p.plan; me = p.me; entries = x }) grown in
    let fits : OfficeFits p.plan.version (after p.plan p.me (office_of s) e) = keeps (office_of s) h.fits (within s).ours in
    record {
      stands = stands_by p' v' o (office_of (site_of p' entries')) (sym (ap office_of same ∙ office_noted s tag e r ∙ reached)) stands;
      legal = subst IsLegal (sym same) (legal_noted s tag e r h.legal (ok ∙ ap (λ x. Ok (r, x)) (sym reached)) lt room);
      fits = still_fits p p' entries' of.0 (subst (OfficeFits p.plan.version) (sym (ap office_of same ∙ office_noted s tag e r)) fits);
    }

-- what is kept where nothing was accepted
pub stays : (p p' : PairsValue) (v v' : AgendaValue) (entries entries' : List Entry) → IsAtEnd p v entries → IsOf p.plan p.me p' → pairs_of p' ≡ pairs_of p → ((a : Agenda) → Means v a → Means v' a) → entries' ≡ entries → IsAtEnd p' v' entries'
stays p p' v v' entries entries' h of ep ea ee =
    let same : site_of p' entries' ≡ site_of p entries = ap (λ x. record { plan = x; me = p'.me; entries = entries' }) of.0 ∙ ap (λ x. record { plan = p.plan; me = x; entries = entries' }) of.1 ∙ ap (λ x. record { plan = p.plan; me = p.me; entries = x }) ee in
    record {
      stands = stands_by p' v' (office_of (site_of p entries)) (office_of (site_of p' entries')) (sym (ap office_of same)) (ep ∙ h.stands.0, ea (office_of (site_of p entries)).agenda h.stands.1);
      legal = subst IsLegal (sym same) h.legal;
      fits = still_fits p p' entries' of.0 (subst (OfficeFits p.plan.version) (sym (ap office_of same)) h.fits);
    }

-- ---- replies

abbrev Full : Site → Type 0
Full s = nat_le most_entries (length s.entries) ≡ true

pub refused : (s s' : Site) (tag : ℕ) (e : Event) (r : Refusal) → answer s.plan s.me (office_of s) e ≡ Err r → s' ≡ s → Steps s tag e (Err r) s'
refused s s' tag e r is same = inr (ap (λ (a : Answer). (recorded s tag e a).0) (sym is), same ∙ ap (λ (a : Answer). (recorded s tag e a).1) (sym is))

full_answer : (s s' : Site) (tag : ℕ) (e : Event) (r : Reply) (o : Office) → answer s.plan s.me (office_of s) e ≡ Ok (r, o) → Full s → s' ≡ s → Steps s tag e (Err refusal.JournalFull) s'
full_answer s s' tag e r o is full same =
    let expected : step s tag e ≡ (Err refusal.JournalFull, s) = ap (recorded s tag e) is ∙ ap (λ b. cond b (Err refusal.JournalFull, s) (Ok r, noted s tag e r)) full in
    inr (sym (ap (λ x. x.0) expected), same ∙ sym (ap (λ x. x.1) expected))

pub no_memory : (s s' : Site) (tag : ℕ) (e : Event) (r : Reply) (o : Office) → answer s.plan s.me (office_of s) e ≡ Ok (r, o) → nat_le most_entries (length s.entries) ≡ false → s' ≡ s → Steps s tag e (Err refusal.Memory) s'
no_memory s s' tag e r o is room same =
    let expected : step s tag e ≡ (Ok r, noted s tag e r) = ap (recorded s tag e) is ∙ ap (λ b. cond b (Err refusal.JournalFull, s) (Ok r, noted s tag e r)) room in
    inl (refl, same, subst (λ (x : Result Reply Refusal). IsOk x) (sym (ap (λ x. x.0) expected)) refl)

pub accepted : (s s' : Site) (tag : ℕ) (e : Event) (r : Reply) (o : Office) → answer s.plan s.me (office_of s) e ≡ Ok (r, o) → nat_le most_entries (length s.entries) ≡ false → s' ≡ noted s tag e r → Steps s tag e (Ok r) s'
accepted s s' tag e r o is room same =
    let expected : step s tag e ≡ (Ok r, noted s tag e r) = ap (recorded s tag e) is ∙ ap (λ b. cond b (Err refusal.JournalFull, s) (Ok r, noted s tag e r)) room in
    inr (sym (ap (λ x. x.0) expected), same ∙ sym (ap (λ x. x.1) expected))

-- there was no room for an entry: the journal is full, or memory ran out
pub no_room : (s s' : Site) (tag : ℕ) (e : Event) (r : Reply) (o : Office) (why : Refusal) → answer s.plan s.me (office_of s) e ≡ Ok (r, o) → s' ≡ s → (why ≡ refusal.JournalFull → Full s) → (Full s → why ≡ refusal.JournalFull) → (why ≡ refusal.JournalFull) ⊎ (why ≡ refusal.Memory) → Steps s tag e (Err why) s'
no_room s s' tag e r o why is same full fills (inl j) = subst (λ w. Steps s tag e (Err w) s') (sym j) (full_answer s s' tag e r o is (full j) same)
no_room s s' tag e r o why is same full fills (inr m) = subst (λ w. Steps s tag e (Err w) s') (sym m) (no_memory s s' tag e r o is (go (nat_le most_entries (length s.entries)) refl) same)
  where
    go : (b : Bool) → nat_le most_entries (length s.entries) ≡ b → nat_le most_entries (length s.entries) ≡ false
    go true h = absurd (other (sym m ∙ fills h))
      where
        other : refusal.Memory ≡ refusal.JournalFull → ⊥
        other k = cc
    go false h = h

-- an event that a guard decides, for which there is no room
pub no_room_for : (s s' : Site) (tag : ℕ) (e : Event) (guard : Office → Bool) (effect : Office → Office) → ((o : Office) → answer s.plan s.me o e ≡ done_if (guard o) (effect o)) → (why told : Refusal) → s' ≡ s → told ≡ cond (guard (office_of s)) why refusal.NotNow →
    (why ≡ refusal.JournalFull → Full s) → (Full s → why ≡ refusal.JournalFull) → (why ≡ refusal.JournalFull) ⊎ (why ≡ refusal.Memory) → Steps s tag e (Err told) s'
no_room_for s s' tag e guard effect answers why told same tells full fills either = go (guard (office_of s)) refl tells
  where
    go : (b : Bool) → guard (office_of s) ≡ b → told ≡ cond b why refusal.NotNow → Steps s tag e (Err told) s'
    go true h k = subst (λ w. Steps s tag e (Err w) s') (sym k) (no_room s s' tag e reply.Done (effect (office_of s)) why (answers (office_of s) ∙ ap (λ b. done_if b (effect (office_of s))) h) same full fills either)
    go false h k = subst (λ w. Steps s tag e (Err w) s') (sym k) (refused s s' tag e refusal.NotNow (answers (office_of s) ∙ ap (λ b. done_if b (effect (office_of s))) h) same)

-- ---- rules

pub not_err : {A E : Type 0} (x : A) (e : E) → ◌≡◌ {A = Result A E} (Ok x) (Err e) → ⊥
not_err x e h = cc

decided : (b : Bool) → (b ≡ false → ⊥) → b ≡ true
decided true h = refl
decided false h = absurd (h refl)

pub not_full : (b : Bool) → (b ≡ true → ⊥) → b ≡ false
not_full true h = absurd (h refl)
not_full false h = refl

same_office : (p : PairsValue) (o : Office) → pairs_of p ≡ o.pairs → office_at p o.agenda ≡ o
same_office p o e = ap (λ x. record { pairs = x; agenda = o.agenda }) e

-- an event that a guard decides, and its entry
pub done_event : (p p' : PairsValue) (v v' : AgendaValue) (entries entries' : List Entry) (tag : ℕ) (e : Event) (guard : Office → Bool) (effect : Office → Office) → ((o : Office) → answer p.plan p.me o e ≡ done_if (guard o) (effect o)) → Keeps p.plan p.me e → IsAtEnd p v entries → IsOf p.plan p.me p' →
    ((a : Agenda) → Means v a → guard (office_at p a) ≡ false → ⊥) → ((a : Agenda) → Means v a → Stands p' v' (effect (office_at p a))) → tag < 16 → (nat_le most_entries (length entries) ≡ true → ⊥) →
    entries' ≡ entries ++ record { tag = tag; event = e; reply = reply.Done } ∷ [] → IsAtEnd p' v' entries'
done_event p p' v v' entries entries' tag e guard effect answers keeps h of can done lt room grown =
    let o = office_of (site_of p entries) in
    let same = same_office p o h.stands.0 in
    let ok : guard o ≡ true = ap guard (sym same) ∙ decided (guard (office_at p o.agenda)) (can o.agenda h.stands.1) in
    goes_on p p' v v' entries entries' tag e reply.Done (effect o) h keeps of (answers o ∙ ap (λ b. done_if b (effect o)) ok) (subst (λ x. Stands p' v' (effect x)) same (done o.agenda h.stands.1)) lt (not_full _ room) grown

-- what the office's definition says of its rules, where it is told of the code's
pub told_of : {A : Type 0} (p : PairsValue) (v : AgendaValue) (entries : List Entry) (f : Office → A) (x : A) → IsAtEnd p v entries → ((a : Agenda) → Means v a → x ≡ f (office_at p a)) → x ≡ f (office_of (site_of p entries))
told_of p v entries f x h e =
    let o = office_of (site_of p entries) in
    e o.agenda h.stands.1 ∙ ap f (same_office p o h.stands.0)

pub err_is : {A E : Type 0} (x y : E) → ◌≡◌ {A = Result A E} (Err x) (Err y) → x ≡ y
err_is x y e = cc

-- ---- sessions and frames

pub few_tickets : (p : PairsValue) (v : AgendaValue) (entries : List Entry) → IsAtEnd p v entries → v.tickets ≤ most_entries
few_tickets p v entries h = omega (arith, (within (site_of p entries)).tickets, h.stands.1.tickets, h.legal.few)

submit_answer : (s : Site) (x : ProgramValue) → is_ours s.plan s.me x ≡ true → agenda.is_full (office_of s).agenda ≡ false →
    answer s.plan s.me (office_of s) (event.Submit x) ≡ Ok (reply.Ticket ((office_of s).agenda.tickets + 1), record { pairs = (office_of s).pairs; agenda = agenda.submitted (office_of s).agenda x })
submit_answer s x ours room =
    ap (λ b. cond b (cond (agenda.is_full (office_of s).agenda) (Err refusal.QueueFull) (Ok (reply.Ticket ((office_of s).agenda.tickets + 1), record { pairs = (office_of s).pairs; agenda = agenda.submitted (office_of s).agenda x }))) (Err refusal.NotOurs)) ours
    ∙ ap (λ b. cond b (Err refusal.QueueFull) (Ok (reply.Ticket ((office_of s).agenda.tickets + 1), record { pairs = (office_of s).pairs; agenda = agenda.submitted (office_of s).agenda x }))) room

pub submitted_session : (p : PairsValue) (v v' : AgendaValue) (entries entries' : List Entry) (tag : ℕ) (x : ProgramValue) (ticket : ℕ) (full : Bool) → IsAtEnd p v entries → is_ours p.plan p.me x ≡ true → ((a : Agenda) → Means v a → full ≡ agenda.is_full a) → full ≡ false →
    ((a : Agenda) → Means v a → ticket ≡ a.tickets + 1) → ((a : Agenda) → Means v a → Means v' (agenda.submitted a x)) → tag < 16 → (nat_le most_entries (length entries) ≡ true → ⊥) →
    entries' ≡ entries ++ record { tag = tag; event = event.Submit x; reply = reply.Ticket ticket } ∷ [] → IsAtEnd p v' entries'
submitted_session p v v' entries entries' tag x ticket full h ours fullness room tickets done lt journal grown =
    let s = site_of p entries in
    let a = (office_of s).agenda in
    let m = h.stands.1 in
    goes_on p p v v' entries entries' tag (event.Submit x) (reply.Ticket ticket) (record { pairs = (office_of s).pairs; agenda = agenda.submitted a x }) h (keeps_submit p.plan p.me x) (refl, refl)
    (submit_answer s x ours (sym (fullness a m) ∙ room) ∙ ap (λ t. Ok (reply.Ticket t, record { pairs = (office_of s).pairs; agenda = agenda.submitted a x })) (sym (tickets a m))) (h.stands.0, done a m) lt (not_full _ journal) grown

send_answer : (s : Site) (v i : ℕ) (f : Fields) → cond (are_neighbours s.plan s.me v) (frame_on ((office_of s).pairs.link v) i) None ≡ Some f → answer s.plan s.me (office_of s) (event.Send v i) ≡ Ok (reply.Frame f, office_of s)
send_answer s v i f e = go (are_neighbours s.plan s.me v) e
  where
    go : (b : Bool) → cond b (frame_on ((office_of s).pairs.link v) i) None ≡ Some f → cond b (framed (office_of s) (frame_on ((office_of s).pairs.link v) i)) (Err refusal.NotNow) ≡ Ok (reply.Frame f, office_of s)
    go true h = ap (framed (office_of s)) h
    go false h = absurd cc

pub framed_message : (p : PairsValue) (v : AgendaValue) (entries entries' : List Entry) (tag to i : ℕ) (f : Fields) → IsAtEnd p v entries → cond (are_neighbours p.plan p.me to) (frame_on ((pairs_of p).link to) i) None ≡ Some f → tag < 16 →
    (nat_le most_entries (length entries) ≡ true → ⊥) → entries' ≡ entries ++ record { tag = tag; event = event.Send to i; reply = reply.Frame f } ∷ [] → IsAtEnd p v entries'
framed_message p v entries entries' tag to i f h made lt journal grown =
    let s = site_of p entries in
    goes_on p p v v entries entries' tag (event.Send to i) (reply.Frame f) (office_of s) h (keeps_sending p.plan p.me to i) (refl, refl)
    (send_answer s to i f (ap (λ (x : Pairs). cond (are_neighbours p.plan p.me to) (frame_on (x.link to) i) None) (sym h.stands.0) ∙ made)) h.stands lt (not_full _ journal) grown

take_answer : (p : PairsValue) (v : AgendaValue) (entries : List Entry) (f : Fields) (a : Arrival) → IsAtEnd p v entries → frame_fault p.plan p.me (pairs_of p) f ≡ None → a ≡ arrival_of (pairs_of p) f →
    answer p.plan p.me (office_of (site_of p entries)) (event.Took f) ≡ Ok (reply_to a, with_pairs (office_of (site_of p entries)) (after_taking p.plan p.me (office_of (site_of p entries)).pairs f))
take_answer p v entries f a h none is =
    let o = office_of (site_of p entries) in
    let here = h.stands.0 in
    ap (unless_faulty p.plan p.me o f) (ap (λ x. frame_fault p.plan p.me x f) (sym here) ∙ none) ∙ ap (λ x. Ok (reply_to x, with_pairs o (after_taking p.plan p.me o.pairs f))) (ap (λ x. arrival_of x f) (sym here) ∙ sym is)

pub taken_steps : (p p' : PairsValue) (v : AgendaValue) (entries entries' : List Entry) (tag : ℕ) (f : Fields) (a : Arrival) (r : Reply) → IsAtEnd p v entries → IsOf p.plan p.me p' → frame_fault p.plan p.me (pairs_of p) f ≡ None → a ≡ arrival_of (pairs_of p) f →
    r ≡ reply_to a → (nat_le most_entries (length entries) ≡ true → ⊥) → entries' ≡ entries ++ record { tag = tag; event = event.Took f; reply = reply_to a } ∷ [] → Steps (site_of p entries) tag (event.Took f) (Ok r) (site_of p' entries')
taken_steps p p' v entries entries' tag f a r h of none is told journal grown =
    let s = site_of p entries in
    let same : site_of p' entries' ≡ noted s tag (event.Took f) (reply_to a) = ap (λ x. record { plan = x; me = p'.me; entries = entries' }) of.0 ∙ ap (λ x. record { plan = p.plan; me = x; entries = entries' }) of.1 ∙ ap (λ x. record { plan = p.plan; me = p.me; entries = x }) grown in
    subst (λ x. Steps s tag (event.Took f) (Ok x) (site_of p' entries')) (sym told) (accepted s (site_of p' entries') tag (event.Took f) (reply_to a) _ (take_answer p v entries f a h none is) (not_full _ journal) same)

pub taken_frame : (p p' : PairsValue) (v : AgendaValue) (entries entries' : List Entry) (tag : ℕ) (f : Fields) (a : Arrival) → IsAtEnd p v entries → Keeps p.plan p.me (event.Took f) → IsOf p.plan p.me p' → frame_fault p.plan p.me (pairs_of p) f ≡ None → a ≡ arrival_of (pairs_of p) f →
    pairs_of p' ≡ after_taking p.plan p.me (pairs_of p) f → tag < 16 → (nat_le most_entries (length entries) ≡ true → ⊥) → entries' ≡ entries ++ record { tag = tag; event = event.Took f; reply = reply_to a } ∷ [] → IsAtEnd p' v entries'
taken_frame p p' v entries entries' tag f a h keeps of none is after_is lt journal grown =
    let o = office_of (site_of p entries) in
    goes_on p p' v v entries entries' tag (event.Took f) (reply_to a) (with_pairs o (after_taking p.plan p.me o.pairs f)) h keeps of (take_answer p v entries f a h none is) (after_is ∙ ap (λ x. after_taking p.plan p.me x f) h.stands.0, h.stands.1) lt (not_full _ journal) grown

-- ---- what a step adds

unless_full : (s : Site) (tag : ℕ) (e : Event) (r : Reply) (b : Bool) (x : Result Reply Refusal × Site) → x ≡ cond b (Err refusal.JournalFull, s) (Ok r, noted s tag e r) → Adds s tag e x.0 x.1
unless_full s tag e r true x h = subst (λ (y : Result Reply Refusal × Site). Adds s tag e y.0 y.1) (sym h) refl
unless_full s tag e r false x h = subst (λ (y : Result Reply Refusal × Site). Adds s tag e y.0 y.1) (sym h) refl

recorded_adds : (s : Site) (tag : ℕ) (e : Event) (x : Answer) → Adds s tag e (recorded s tag e x).0 (recorded s tag e x).1
recorded_adds s tag e (Ok x) = unless_full s tag e x.0 (nat_le most_entries (length s.entries)) (recorded s tag e (Ok x)) refl
recorded_adds s tag e (Err r) = refl

pub steps_add : (s : Site) (tag : ℕ) (e : Event) (result : Result Reply Refusal) (s' : Site) → Steps s tag e result s' → Adds s tag e result s'
steps_add s tag e result s' (inl m) = subst (λ (r : Result Reply Refusal). Adds s tag e r s') (sym m.0) m.1
steps_add s tag e result s' (inr h) = subst (λ (r : Result Reply Refusal). Adds s tag e r s') (sym h.0) (subst (Adds s tag e (step s tag e).0) (sym h.1) (recorded_adds s tag e (answer s.plan s.me (office_of s) e)))

pub unchanged : (s : Site) (tag : ℕ) (e : Event) (result : Result Reply Refusal) (s' : Site) → Adds s tag e result s' → OnErr result (s' ≡ s)
unchanged s tag e (Ok r) s' a = tt
unchanged s tag e (Err r) s' a = a
