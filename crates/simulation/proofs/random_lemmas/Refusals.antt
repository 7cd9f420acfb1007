-- A session that its office refuses goes on being refused until that office finishes one.
use Rattle.std.proofs.Common.{◌≡◌, ℕ, suc, ◌+◌, ◌<◌, ◌≤◌, Bool, true, false, cond, List, [], ◌∷◌, ◌++◌, length, get_or, set, Option, None, Some, Ok, Err, refl, sym, ap, subst, ◌∙◌, ⊎_elim, arith}
use Rattle.std.specs.Prelude.{IsOk, is_some, nat_lt, nat_le, option_map, All}
use Rattle.std.proofs.lemmas.Bool.{cases_eq, and_parts}
use Rattle.std.proofs.lemmas.Bool.Decides.{nat_tests}
use Rattle.std.proofs.lemmas.List.{get_or-set_same, get_or-set_other, length-set, length-append}
use Rattle.std.proofs.lemmas.List.Elements.{All-weaker}
use Rattle.bottle_values.specs.declared.Value.{Value}
use Rattle.frame_codec.specs.Frame.{Fields}
use Rattle.office_map.specs.PlanValue.{PlanValue, are_neighbours}
use Rattle.session_meaning.specs.ProgramValue.{ProgramValue}
use Rattle.session_meaning.specs.declared.ending.Ending.{Ending}
use Rattle.session_machine.specs.Pieces.{ending_after}
use Rattle.token_channel.specs.declared.fault.ChannelFault.{ChannelFault}
use Rattle.drinking_core.specs.Drinkers as bottles
use Rattle.site_core.specs.declared.agendas.session.Session.{Session}
use Rattle.office_journal.specs.declared.rule.Rule.{Rule}
use Rattle.office_journal.specs.declared.rule.Rule.TheVariants as rule
use Rattle.office_journal.specs.declared.event.Event as office
use Rattle.office_journal.specs.declared.event.Event.TheVariants as event
use Rattle.office_journal.specs.declared.reply.Reply.{Reply}
use Rattle.office_journal.specs.declared.reply.Reply.TheVariants as reply
use Rattle.office_journal.specs.declared.reply.Refusal.TheVariants as refused
use Rattle.site_core.specs.Limits.{most_entries, most_unfinished}
use Rattle.site_core.specs.Pairs.{frame_fault}
use Rattle.site_core.specs.Agenda.{Agenda, Current, Idle, Gathering, Working, unfinished, unfinished_current, is_full, submitted, first_needs, started, begun, worked, writes_of}
use Rattle.site_core.specs.Offices.{Office, Answer, answer, submit, may, act, is_ours, framed, frame_on, unless_faulty, value_in}
use Rattle.site_core.specs.Journals.{Site, office_of, noted, recorded, step, next_or}
use Rattle.site_core.specs.JournalLaws.{office_noted}
use Rattle.frame_world.specs.declared.event.WorldEvent.{WorldEvent}
use Rattle.frame_world.specs.declared.event.WorldEvent.TheVariants as happening
use Rattle.frame_world.specs.declared.refusal.WorldRefusal.TheVariants as refusal
use Rattle.frame_world.specs.Worlds.{World, silent, site_at, office_at, finished_by, ended, ended_as, told, handed, delivered, happens}
use Rattle.frame_world.specs.Worlds as worlds
use Rattle.frame_world.specs.Headline.{IsReached}
use Rattle.simulation.specs.random.Runs.{IsRefused, MayHappen}
use Rattle.simulation.specs.random.refinement.Steps.{Steps}
use Rattle.simulation.proofs.random_lemmas.TranquilOffices.{Rests, reached_rest}

clash : false ≡ true → ⊥
clash e = absurd cc

-- ---- what an office takes

-- it is one of the plan, the session is its own, and there is room in its queue and its journal
record Takes (w : World) (a : ℕ) (p : ProgramValue) : Type 0 where
  inside : nat_lt a (length w.sites) ≡ true
  ours : is_ours (site_at w a).plan (site_at w a).me p ≡ true
  queue : is_full (office_at w a).agenda ≡ false
  journal : nat_le most_entries (length (site_at w a).entries) ≡ false

module _ (w : World) (a : ℕ) (p : ProgramValue) where
  abbrev s : Site
  s = site_at w a

  abbrev o : Office
  o = office_of s

  abbrev e : office.Event
  e = event.Submit p

  abbrev ticket : Reply
  ticket = reply.Ticket (o.agenda.tickets + 1)

  abbrev new : Office
  new = record { pairs = o.pairs; agenda = submitted o.agenda p }

  takes : IsOk (happens w (happening.Submit a p)).0 → Takes w a p
  takes = by_place (nat_lt a (length w.sites)) refl
    where
      by_room : nat_lt a (length w.sites) ≡ true → is_ours s.plan s.me p ≡ true → is_full o.agenda ≡ false → (b : Bool) → nat_le most_entries (length s.entries) ≡ b → IsOk (told w a e (cond b (Err refused.JournalFull, s) (Ok ticket, noted s 0 e ticket))).0 → Takes w a p
      by_room inside ours queue true is ok = absurd (clash ok)
      by_room inside ours queue false is ok = record { inside = inside; ours = ours; queue = queue; journal = is }

      by_queue : nat_lt a (length w.sites) ≡ true → is_ours s.plan s.me p ≡ true → (b : Bool) → is_full o.agenda ≡ b → IsOk (told w a e (recorded s 0 e (cond b (Err refused.QueueFull) (Ok (ticket, new))))).0 → Takes w a p
      by_queue inside ours true is ok = absurd (clash ok)
      by_queue inside ours false is ok = by_room inside ours is (nat_le most_entries (length s.entries)) refl ok

      by_office : nat_lt a (length w.sites) ≡ true → (b : Bool) → is_ours s.plan s.me p ≡ b → IsOk (told w a e (recorded s 0 e (cond b (cond (is_full o.agenda) (Err refused.QueueFull) (Ok (ticket, new))) (Err refused.NotOurs)))).0 → Takes w a p
      by_office inside true is ok = by_queue inside is (is_full o.agenda) refl ok
      by_office inside false is ok = absurd (clash ok)

      by_place : (b : Bool) → nat_lt a (length w.sites) ≡ b → IsOk (cond {A = worlds.Answer} b (told w a e (step s 0 e)) (Err refusal.NoOffice, w)).0 → Takes w a p
      by_place true is ok = by_office is (is_ours s.plan s.me p) refl ok
      by_place false is ok = absurd (clash ok)

  taken : Takes w a p → IsOk (happens w (happening.Submit a p)).0
  taken t =
      let ours : submit s.plan s.me o p ≡ cond (is_full o.agenda) (Err refused.QueueFull) (Ok (ticket, new)) = ap (λ b. cond b (cond (is_full o.agenda) (Err refused.QueueFull) (Ok (ticket, new))) (Err refused.NotOurs)) t.ours in
      let answered : submit s.plan s.me o p ≡ Ok (ticket, new) = ours ∙ ap (λ b. cond {A = Answer} b (Err refused.QueueFull) (Ok (ticket, new))) t.queue in
      let is : (happens w (happening.Submit a p)).0 ≡ Ok ticket =
      ap (λ b. (cond {A = worlds.Answer} b (told w a e (step s 0 e)) (Err refusal.NoOffice, w)).0) t.inside
      ∙ ap (λ x. (told w a e (recorded s 0 e x)).0) answered
      ∙ ap (λ b. (told w a e (cond b (Err refused.JournalFull, s) (Ok ticket, noted s 0 e ticket))).0) t.journal in
      subst IsOk (sym is) refl

-- ---- what leaves offices no more room

record Kept (s s' : Site) : Type 0 where
  plan : s'.plan ≡ s.plan
  number : s'.me ≡ s.me
  entries : length s.entries ≤ length s'.entries
  sessions : unfinished (office_of s).agenda ≤ unfinished (office_of s').agenda

record Keeps (w w' : World) : Type 0 where
  size : length w'.sites ≡ length w.sites
  each : (a : ℕ) → Kept (site_at w a) (site_at w' a)

same_site : (s : Site) → Kept s s
same_site s = record { plan = refl; number = refl; entries = omega arith; sessions = omega arith }

same_world : (w : World) → Keeps w w
same_world w = record { size = refl; each = λ a. same_site (site_at w a) }

no_room : (n x y : ℕ) → x ≤ y → nat_le n y ≡ false → nat_le n x ≡ false
no_room n x y le h = grind (arith, nat_tests, le, h)

still_refused : (w w' : World) (p : ProgramValue) → Keeps w w' → IsRefused w p → IsRefused w' p
still_refused w w' p k out ok =
    let a : ℕ = p.office in
    let t = takes w' a p ok in
    let s = k.each a in
    out (taken w a p (record {
      inside = ap (nat_lt a) (sym k.size) ∙ t.inside;
      ours = ap (λ q. is_ours q (site_at w a).me p) (sym s.plan) ∙ ap (λ m. is_ours (site_at w' a).plan m p) (sym s.number) ∙ t.ours;
      queue = no_room most_unfinished (unfinished (office_at w a).agenda) (unfinished (office_at w' a).agenda) s.sessions t.queue;
      journal = no_room most_entries (length (site_at w a).entries) (length (site_at w' a).entries) s.entries t.journal;
    }))

-- an event that is handed to an office, by what it leaves of the sessions there
module _ (w : World) (a : ℕ) (e : office.Event) where
  abbrev here : Site
  here = site_at w a

  abbrev asked : Answer
  asked = answer here.plan here.me (office_of here) e

  entered : (r : Reply) (o : Office) → nat_lt a (length w.sites) ≡ true → asked ≡ Ok (r, o) → nat_le most_entries (length here.entries) ≡ false → handed w a e ≡ told w a e (Ok r, noted here 0 e r)
  entered r o inside ans room =
      ap (λ b. cond {A = worlds.Answer} b (told w a e (step here 0 e)) (Err refusal.NoOffice, w)) inside
      ∙ ap (λ x. told w a e (recorded here 0 e x)) ans
      ∙ ap (λ b. told w a e (cond b (Err refused.JournalFull, here) (Ok r, noted here 0 e r))) room

  module _ (r : Reply) (more : unfinished (office_of here).agenda ≤ unfinished (next_or (office_of here) asked).agenda) (lt : a < length w.sites) where
    abbrev after : Site
    after = noted here 0 e r

    noted_kept : Kept here after
    noted_kept = record {
      plan = refl;
      number = refl;
      entries = (let long = length-append here.entries (record { tag = 0; event = e; reply = r } ∷ []) in omega (arith, long));
      sessions = subst (λ (o : Office). unfinished (office_of here).agenda ≤ unfinished o.agenda) (sym (office_noted here 0 e r)) more;
    }

    noted_keeps : Keeps w (told w a e (Ok r, after)).1
    noted_keeps = record {
      size = length-set w.sites a after;
      each = λ x. ⊎_elim
          (λ is. subst (λ y. Kept (site_at w y) (get_or (set w.sites a after) y (silent w.plan y))) (sym is) (subst (Kept here) (sym (get_or-set_same w.sites a after (silent w.plan a) lt)) noted_kept))
          (λ ne. subst (Kept (site_at w x)) (sym (get_or-set_other w.sites a x after (silent w.plan x) ne)) (same_site (site_at w x)))
          (cases_eq x a);
    }

  handed_keeps : ((r : Reply) (o : Office) → asked ≡ Ok (r, o) → handed w a e ≡ told w a e (Ok r, noted here 0 e r) → unfinished (office_of here).agenda ≤ unfinished (next_or (office_of here) asked).agenda) → Keeps w (handed w a e).1
  handed_keeps more = by_place (nat_lt a (length w.sites)) refl
    where
      by_room : (r : Reply) (o : Office) → nat_lt a (length w.sites) ≡ true → asked ≡ Ok (r, o) → (b : Bool) → nat_le most_entries (length here.entries) ≡ b → Keeps w (told w a e (cond b (Err refused.JournalFull, here) (Ok r, noted here 0 e r))).1
      by_room r o inside ans true room = same_world w
      by_room r o inside ans false room = noted_keeps r (more r o ans (entered r o inside ans room)) (grind (arith, nat_tests, inside))

      by_answer : (x : Answer) → asked ≡ x → nat_lt a (length w.sites) ≡ true → Keeps w (told w a e (recorded here 0 e x)).1
      by_answer (Ok x) ans inside = by_room x.0 x.1 inside ans (nat_le most_entries (length here.entries)) refl
      by_answer (Err r) ans inside = same_world w

      by_place : (b : Bool) → nat_lt a (length w.sites) ≡ b → Keeps w (cond {A = worlds.Answer} b (told w a e (step here 0 e)) (Err refusal.NoOffice, w)).1
      by_place true inside = by_answer asked refl inside
      by_place false inside = same_world w

-- ---- events that finish no session

submission_keeps : (w : World) (a : ℕ) (p : ProgramValue) → Keeps w (happens w (happening.Submit a p)).1
submission_keeps w a p = handed_keeps w a (event.Submit p) (λ r x ans is. go (office_at w a) (is_ours (site_at w a).plan (site_at w a).me p) (is_full (office_at w a).agenda))
  where
    go : (o : Office) (b c : Bool) → unfinished o.agenda ≤ unfinished (next_or o (cond b (cond c (Err refused.QueueFull) (Ok (reply.Ticket (o.agenda.tickets + 1), record { pairs = o.pairs; agenda = submitted o.agenda p }))) (Err refused.NotOurs))).agenda
    go o true false = let long = length-append o.agenda.queue (record { ticket = o.agenda.tickets + 1; program = p } ∷ []) in omega (arith, long)
    go o true true = omega arith
    go o false c = omega arith

send_keeps : (w : World) (a v i : ℕ) → Keeps w (happens w (happening.Send a v i)).1
send_keeps w a v i = handed_keeps w a (event.Send v i) (λ r x ans is. go (office_at w a) (are_neighbours (site_at w a).plan (site_at w a).me v) (frame_on ((office_at w a).pairs.link v) i))
  where
    go : (o : Office) (b : Bool) (f : Option Fields) → unfinished o.agenda ≤ unfinished (next_or o (cond b (framed o f) (Err refused.NotNow))).agenda
    go o true None = omega arith
    go o true (Some f) = omega arith
    go o false f = omega arith

take_keeps : (w : World) (a : ℕ) (f : Fields) → Keeps w (handed w a (event.Took f)).1
take_keeps w a f = handed_keeps w a (event.Took f) (λ r x ans is. go (frame_fault (site_at w a).plan (site_at w a).me (office_at w a).pairs f))
  where
    go : (x : Option ChannelFault) → unfinished (office_at w a).agenda ≤ unfinished (next_or (office_at w a) (unless_faulty (site_at w a).plan (site_at w a).me (office_at w a) f x)).agenda
    go None = omega arith
    go (Some x) = omega arith

delivery_keeps : (w : World) (k : ℕ) → Keeps w (happens w (happening.Deliver k)).1
delivery_keeps w k = go (worlds.frame_at w k)
  where
    go : (f : Option Fields) → Keeps w (delivered w f).1
    go None = same_world w
    go (Some f) = take_keeps w f.to f

-- ---- rules

begun_count : (values : ℕ → Value) (c : Current) → unfinished_current (begun values c) ≡ unfinished_current c
begun_count values Idle = refl
begun_count values (Gathering s) = refl
begun_count values (Working s reads done) = refl

worked_count : (n : ℕ) (c : Current) → unfinished_current (worked n c) ≡ unfinished_current c
worked_count n Idle = refl
worked_count n (Gathering s) = refl
worked_count n (Working s reads done) = refl

by_start : (a : Agenda) (queue : List Session) → a.queue ≡ queue → a.current ≡ Idle → unfinished a ≤ unfinished (started a queue)
by_start a [] is none = omega arith
by_start a (s ∷ rest) is none =
    let long : length a.queue ≡ suc (length rest) = ap length is in
    let alone : unfinished_current a.current ≡ 0 = ap unfinished_current none in
    omega (arith, long, alone)

-- a session that ends is told
one_finishes : (a : ℕ) (c : Current) → is_some (writes_of c) ≡ true → length (ended a c) ≡ 1
one_finishes a Idle h = absurd cc
one_finishes a (Gathering s) h = absurd cc
one_finishes a (Working s reads done) h = go (ending_after s.program reads done) h
  where
    go : (e : Option Ending) → is_some (option_map (λ (x : Ending). x.writes) e) ≡ true → length (ended_as a s e) ≡ 1
    go None k = absurd cc
    go (Some e) k = refl

by_rule : (plan : PlanValue) (me a : ℕ) (o : Office) (r : Rule) → Rests o → may plan me o r ≡ true → length (finished_by a o.agenda.current (event.Do r)) ≡ 0 → unfinished o.agenda ≤ unfinished (act me o r).agenda
by_rule plan me a o rule.Start w m none = by_start o.agenda o.agenda.queue refl (w (and_parts (bottles.is_tranquil o.pairs.drinker.phase) (is_some (first_needs o.agenda.queue)) m).0)
by_rule plan me a o rule.Hungry w m none = omega arith
by_rule plan me a o (rule.AskFork v) w m none = omega arith
by_rule plan me a o (rule.GiveFork v) w m none = omega arith
by_rule plan me a o rule.Eat w m none = omega arith
by_rule plan me a o rule.Leave w m none = omega arith
by_rule plan me a o (rule.AskBottle r) w m none = omega arith
by_rule plan me a o (rule.GiveBottle r) w m none = omega arith
by_rule plan me a o rule.Drink w m none = let same = begun_count (value_in o.pairs.drinker) o.agenda.current in omega (arith, same)
by_rule plan me a o (rule.Work n) w m none = let same = worked_count n o.agenda.current in omega (arith, same)
by_rule plan me a o rule.Finish w m none =
    let one = one_finishes a o.agenda.current (and_parts (bottles.is_drinking o.pairs.drinker.phase) (is_some (writes_of o.agenda.current)) m).1 in
    let nothing : length (ended a o.agenda.current) ≡ 0 = none in
    absurd (omega (arith, nothing, one))

rule_keeps : (w : World) (a : ℕ) (r : Rule) → Rests (office_at w a) → length (happens w (happening.Do a r)).1.finished ≡ length w.finished → Keeps w (happens w (happening.Do a r)).1
rule_keeps w a r rests same = handed_keeps w a (event.Do r) (λ x y ans is. go x is (may (site_at w a).plan (site_at w a).me o r) refl)
  where
    o : Office
    o = office_at w a

    none : (x : Reply) → handed w a (event.Do r) ≡ told w a (event.Do r) (Ok x, noted (site_at w a) 0 (event.Do r) x) → length (finished_by a o.agenda.current (event.Do r)) ≡ 0
    none x is =
        let long = length-append w.finished (finished_by a o.agenda.current (event.Do r)) in
        let all : length (handed w a (event.Do r)).1.finished ≡ length (w.finished ++ finished_by a o.agenda.current (event.Do r)) = ap (λ (y : worlds.Answer). length y.1.finished) is in
        let kept : length (handed w a (event.Do r)).1.finished ≡ length w.finished = same in
        omega (arith, long, all, kept)

    go : (x : Reply) → handed w a (event.Do r) ≡ told w a (event.Do r) (Ok x, noted (site_at w a) 0 (event.Do r) x) → (b : Bool) → may (site_at w a).plan (site_at w a).me o r ≡ b →
        unfinished o.agenda ≤ unfinished (next_or o (cond b (Ok (reply.Done, act (site_at w a).me o r)) (Err refused.NotNow))).agenda
    go x is true m = by_rule (site_at w a).plan (site_at w a).me a o r rests m (none x is)
    go x is false m = omega arith

-- ---- what is refused goes on being refused

pub after_submission : (w : World) (a : ℕ) (q : ProgramValue) (ps : List ProgramValue) → All (IsRefused w) ps → All (IsRefused (happens w (happening.Submit a q)).1) ps
after_submission w a q ps h =
    let v = (happens w (happening.Submit a q)).1 in
    All-weaker (IsRefused w) (IsRefused v) (λ p out. still_refused w v p (submission_keeps w a q) out) ps h

event_keeps : (w : World) (e : WorldEvent) (loss : ℕ) → IsReached w → MayHappen loss w e → length (happens w e).1.finished ≡ length w.finished → Keeps w (happens w e).1
event_keeps w (happening.Submit a p) loss r m same = submission_keeps w a p
event_keeps w (happening.Withdraw a number) loss r m same = absurd m
event_keeps w (happening.Do a rule) loss r m same = rule_keeps w a rule (reached_rest w r a) same
event_keeps w (happening.Send a v i) loss r m same = send_keeps w a v i
event_keeps w (happening.Deliver k) loss r m same = delivery_keeps w k

pub after_step : (w w' : World) (loss : ℕ) (ps : List ProgramValue) → IsReached w → Steps loss w w' → length w'.finished ≡ length w.finished → All (IsRefused w) ps → All (IsRefused w') ps
after_step w w' loss ps r step same h = ⊎_elim
    (λ stays. subst (λ v. All (IsRefused v) ps) (sym stays.1) h)
    (λ it.
    let v = (happens w it.event).1 in
    let keeps : Keeps w v = event_keeps w it.event loss r it.may (sym (ap (λ (u : World). length u.finished) it.led) ∙ same) in
    subst (λ u. All (IsRefused u) ps) (sym it.led) (All-weaker (IsRefused w) (IsRefused v) (λ p out. still_refused w v p keeps out) ps h))
    step
