-- Each event that is a step lowers the work that is left, and nothing but a submitted session raises it.
use Rattle.std.proofs.Common.{◌≡◌, ℕ, zero, suc, ◌+◌, ◌≤◌, Bool, true, false, cond, List, Option, None, Some, is_some, Result, Ok, Err, length, sum_by, refl, sym, ap, subst, ◌∙◌, arith, ltb-true}
use Rattle.std.specs.Prelude.{◌&&◌, ◌||◌, nat_lt, nat_le, slice_get}
use Rattle.std.specs.List.{range_with_len}
use Rattle.std.proofs.lemmas.Bool.{and_parts}
use Rattle.bottle_values.specs.Lists.{num}
use Rattle.bottle_values.specs.Maps.{put}
use Rattle.frame_codec.specs.declared.message.Msg.{Msg}
use Rattle.frame_codec.specs.Frame.{Fields}
use Rattle.office_map.specs.PlanValue.{PlanValue, are_neighbours, is_end}
use Rattle.office_map.specs.Consistency.{IsConsistent}
use Rattle.session_programs.specs.measures.Laws.{EndsWithinItsCost}
use Rattle.window_link.specs.declared.arrival.Arrival.{Arrival}
use Rattle.window_link.specs.declared.arrival.Arrival.TheVariants as arrival
use Rattle.dining_core.specs.Diners as forks
use Rattle.dining_core.specs.Worlds as tables
use Rattle.drinking_core.specs.Drinkers as bottles
use Rattle.drinking_core.specs.Worlds as bars
use Rattle.office_journal.specs.declared.rule.Rule.{Rule}
use Rattle.office_journal.specs.declared.rule.Rule.TheVariants as rule
use Rattle.office_journal.specs.declared.event.Event as office
use Rattle.office_journal.specs.declared.event.Event.TheVariants as event
use Rattle.office_journal.specs.declared.reply.Reply.{Reply}
use Rattle.office_journal.specs.declared.reply.Refusal.TheVariants as refused
use Rattle.site_core.specs.Limits.{most_entries}
use Rattle.site_core.specs.Replies.{reply_to}
use Rattle.site_core.specs.Agenda.{is_gathering, first_needs, writes_of}
use Rattle.site_core.specs.Pairs.{Pairs, is_thirsty, arrival_of, after_taking, follows}
use Rattle.site_core.specs.Offices.{Office, may, act, may_withdraw, withdrawn, with_pairs, answer}
use Rattle.site_core.specs.Offices as site
use Rattle.site_core.specs.WithdrawalLaws.{either_withdrawn}
use Rattle.site_core.specs.Journals.{Site, office_of, noted, recorded, step}
use Rattle.frame_world.specs.declared.event.WorldEvent.TheVariants as happening
use Rattle.frame_world.specs.declared.refusal.WorldRefusal.{WorldRefusal}
use Rattle.frame_world.specs.declared.refusal.WorldRefusal.TheVariants as refusal
use Rattle.frame_world.specs.Worlds.{World, Answer, opening, site_at, office_at, told, handed, delivered, run_of}
use Rattle.frame_world.specs.WorldStates.{State, state_of, MayCome, IsAccepted, IsSeated}
use Rattle.frame_world.specs.WorldLaws.{seated, accepted_as}
use Rattle.frame_world.specs.Headline.{Always}
use Rattle.frame_world.specs.refinement.PartsLaws.{PartsLaws}
use Rattle.frame_world.specs.WorkLeft.{session_work, office_work, pairs_work, work_left}
use Rattle.frame_world.specs.Termination.{is_step, added_by, StepsUseUpWork}
use Rattle.frame_world.proofs.Answers.{ByFrame, ByKept, step_of, was_submitted, was_done, was_sent, was_taken, was_withdrawn}
use Rattle.frame_world.proofs.Answers as answers
use Rattle.frame_world.proofs.OneLink.{brought}
use Rattle.frame_world.proofs.Following.{moved, pairs_in, through_moves, pairs_after}
use Rattle.frame_world.proofs.PlacesAndForks.{each_is_placed}
use Rattle.frame_world.proofs.work.RequestsKept.{GoOn, peers_are, own_goes_on, kept_goes_on, all_go_on}
use Rattle.frame_world.proofs.Sessions.{IsSane}
use Rattle.frame_world.proofs.SerialSessions.{kept}
use Rattle.frame_world.proofs.work.WorkSums.{one_changed}
use Rattle.frame_world.proofs.work.OfficeSteps.{hungry_work, eat_work, leave_work, start_work, work_work, submitted_work}
use Rattle.frame_world.proofs.work.OfficeSessions.{drink_work, finish_work, withdrawn_waiting_work, withdrawn_current_work, taken_work}
use Rattle.frame_world.proofs.work.PairMoves.{AreInOrder, hungry_takes, ask_fork_takes, give_fork_takes, eat_takes, leave_takes, start_takes, ask_bottle_takes, give_bottle_takes, drink_takes, finish_takes, withdraw_takes, frame_comes, kept_comes}
use Rattle.frame_world.proofs.work.NeedsChanged.{stays_as_it_was}

-- ---- one office and the pairs

-- what is left of a state
abbrev work_in : PlanValue → State → ℕ
work_in plan s = sum_by (λ a. office_work plan a (s.office a)) (range_with_len 0 (length plan.offices)) + pairs_work plan (pairs_in s)

-- where an office becomes this one, n of what is left of it and of the pairs is taken, and k at most is added
abbrev Takes : PlanValue → State → ℕ → Office → (n k : ℕ) → Type 0
Takes plan s a o' n k = n + (office_work plan a o' + pairs_work plan (put (pairs_in s) a o'.pairs)) ≤ office_work plan a (s.office a) + pairs_work plan (pairs_in s) + k

-- a message is taken just where the reply says so
is_taken : (x : Arrival) → num (is_step (Ok (reply_to x))) ≡ num (is_some (brought x))
is_taken (arrival.Fresh m) = refl
is_taken arrival.Acked = refl
is_taken arrival.Repeat = refl
is_taken arrival.Kept = refl
is_taken arrival.Early = refl

abbrev ok : Reply → Result Reply WorldRefusal
ok r = Ok r

-- what a session adds that is accepted with this answer
abbrev added_for : PlanValue → ℕ → office.Event → Result Reply WorldRefusal → ℕ
added_for plan a (event.Submit p) r = added_by (session_work plan a p) r
added_for plan a (event.Do rule) r = 0
added_for plan a (event.Send v i) r = 0
added_for plan a (event.Took f) r = 0
added_for plan a (event.Withdraw t) r = 0

-- what is left of the pairs while a frame and what follows it is taken
record Falls (plan : PlanValue) (frames : List Fields) (pairs : ℕ → Pairs) (n : ℕ) (qs : ℕ → Pairs) : Type 0 where
  go_on : GoOn plan frames qs
  less : pairs_work plan qs + n ≤ pairs_work plan pairs

module _ (forks_one : tables.EachHasOnePlace) (bottles_one : bars.EachHasOnePlace) (peers_stay : bars.PeersStay) (law : EndsWithinItsCost) (plan : PlanValue) (c : IsConsistent plan) where
  in_order : (frames : List Fields) (pairs : ℕ → Pairs) → GoOn plan frames pairs → AreInOrder plan pairs
  in_order frames pairs g = record {
    linked = g.follow.linked;
    placed = each_is_placed forks_one bottles_one plan frames pairs c g.follow;
    peers = peers_are forks_one bottles_one peers_stay plan c frames pairs g.follow;
    requests = g.requests;
  }

  -- ---- rules

  done_takes : (s : State) (a : ℕ) (r : Rule) → nat_lt a (length plan.offices) ≡ true → AreInOrder plan (pairs_in s) → IsSane plan a (s.office a) → may plan a (s.office a) r ≡ true → Takes plan s a (act a (s.office a) r) 1 0
  done_takes s a rule.Start inside o sane g = omega (arith, start_work plan a (s.office a) g, start_takes plan c (pairs_in s) a (first_needs (s.office a).agenda.queue) inside o g)
  done_takes s a rule.Hungry inside o sane g = omega (arith, hungry_work plan a (s.office a) g, hungry_takes plan c (pairs_in s) a (is_thirsty (s.office a).pairs) inside o g)
  done_takes s a (rule.AskFork v) inside o sane g = let parts = and_parts (are_neighbours plan a v) (forks.may (pairs_in s a).diner (forks.AskFork v)) g in omega (arith, ask_fork_takes plan c (pairs_in s) a v parts.0 inside o parts.1)
  done_takes s a (rule.GiveFork v) inside o sane g = let parts = and_parts (are_neighbours plan a v) (forks.may (pairs_in s a).diner (forks.GiveFork v)) g in omega (arith, give_fork_takes plan c (pairs_in s) a v parts.0 inside o parts.1)
  done_takes s a rule.Eat inside o sane g = omega (arith, eat_work plan a (s.office a) g, eat_takes plan c (pairs_in s) a inside o g)
  done_takes s a rule.Leave inside o sane g = omega (arith, leave_work plan a (s.office a) g, leave_takes plan c (pairs_in s) a (is_thirsty (s.office a).pairs) inside o g)
  done_takes s a (rule.AskBottle r) inside o sane g = let parts = and_parts (is_end plan r a) (bottles.may (pairs_in s a).drinker (bottles.AskBottle r)) g in omega (arith, ask_bottle_takes plan c (pairs_in s) a r inside o parts.1)
  done_takes s a (rule.GiveBottle r) inside o sane g = let parts = and_parts (is_end plan r a) (bottles.may (pairs_in s a).drinker (bottles.GiveBottle r (pairs_in s a).diner.held)) g in omega (arith, give_bottle_takes plan c (pairs_in s) a r inside o parts.1)
  done_takes s a rule.Drink inside o sane g = omega (arith, drink_work law plan a (s.office a) sane.current g, drink_takes plan c (pairs_in s) a inside o g)
  done_takes s a (rule.Work n) inside o sane g = omega (arith, work_work plan a n (s.office a) g, stays_as_it_was plan (pairs_in s) a)
  done_takes s a rule.Finish inside o sane g = omega (arith, finish_work plan a (s.office a) g, finish_takes plan c (pairs_in s) a (writes_of (s.office a).agenda.current) inside o g)

  -- ---- withdrawals

  withdrawn_takes : (s : State) (a t : ℕ) → nat_lt a (length plan.offices) ≡ true → AreInOrder plan (pairs_in s) → may_withdraw (s.office a) t ≡ true → Takes plan s a (withdrawn (s.office a) t) 1 0
  withdrawn_takes s a t inside o g = either_withdrawn (λ o'. Takes plan s a o' 1 0) (s.office a) t
      (λ waits. omega (arith, withdrawn_waiting_work plan a t (s.office a) waits, stays_as_it_was plan (pairs_in s) a))
      (λ none.
      let parts = and_parts (is_gathering (s.office a).agenda.current t) (bottles.may (pairs_in s a).drinker bottles.Withdraw) (ap (λ b. b || (is_gathering (s.office a).agenda.current t && bottles.may (pairs_in s a).drinker bottles.Withdraw)) (sym none) ∙ g) in
      omega (arith, withdrawn_current_work plan a t (s.office a) parts.0, withdraw_takes plan c (pairs_in s) a inside o parts.1))

  -- ---- frames

  taken_takes : (s s' : State) (i : IsAccepted plan s s') (f : Fields) → i.event ≡ event.Took f → GoOn plan s.frames (pairs_in s) → answer plan i.place (s.office i.place) (event.Took f) ≡ Ok (i.reply, i.new) → MayCome s.frames i.place (event.Took f) →
      Takes plan s i.place (with_pairs (s.office i.place) (after_taking plan i.place (pairs_in s i.place) f)) (num (is_some (brought (arrival_of (pairs_in s i.place) f)))) 0
  taken_takes s s' i f is g ans comes = omega (arith, taken_work plan i.place (s.office i.place) f, (through_moves plan i.place (Falls plan s'.frames (pairs_in s) n) keeps (pairs_in s) (ByFrame f) own).less)
    where
      n : ℕ
      n = num (is_some (brought (arrival_of (pairs_in s i.place) f)))

      own : Falls plan s'.frames (pairs_in s) n (moved (pairs_in s) i.place (ByFrame f))
      own = record {
        go_on = subst (λ e. GoOn plan s'.frames (moved (pairs_in s) i.place (step_of (s.office i.place) e))) is (own_goes_on forks_one bottles_one peers_stay plan c s s' g i);
        less = frame_comes plan c (pairs_in s) i.place f comes.0 (g.follow.honest comes.1 f comes.2) (was_taken plan i.place (s.office i.place) f i.reply i.new ans).fine (in_order s.frames (pairs_in s) g);
      }

      keeps : (qs : ℕ → Pairs) (v : ℕ) (k : Option Msg) → follows plan i.place v (qs i.place) ≡ k → Falls plan s'.frames (pairs_in s) n qs → Falls plan s'.frames (pairs_in s) n (moved qs i.place (ByKept v k))
      keeps qs v k e h = record {
        go_on = kept_goes_on forks_one bottles_one peers_stay plan c s'.frames qs i.place v k e h.go_on;
        less = omega (arith, h.less, kept_comes plan c qs i.place v k e (in_order s'.frames qs h.go_on));
      }

  -- ---- any event

  office_takes : (s s' : State) (i : IsAccepted plan s s') → GoOn plan s.frames (pairs_in s) → IsSane plan i.place (s.office i.place) → Takes plan s i.place i.new (num (is_step (Ok i.reply))) (added_for plan i.place i.event (Ok i.reply))
  office_takes s s' i g sane = by i.event refl i.answered i.comes
    where
      a : ℕ
      a = i.place

      o : Office
      o = s.office a

      by : (e : office.Event) → i.event ≡ e → answer plan a o e ≡ Ok (i.reply, i.new) → MayCome s.frames a e → Takes plan s a i.new (num (is_step (Ok i.reply))) (added_for plan a e (Ok i.reply))
      by (event.Submit p) is ans comes =
          let t = was_submitted plan a o p i.reply i.new ans in
          omega (
            arith,
            ap (λ r. num (is_step (ok r))) t.told,
            ap (λ r. added_by (session_work plan a p) (ok r)) t.told,
            ap (λ (x : Office). office_work plan a x + pairs_work plan (put (pairs_in s) a x.pairs)) t.after,
            submitted_work plan a o p,
            stays_as_it_was plan (pairs_in s) a,
          )
      by (event.Do r) is ans comes =
          let t = was_done plan a o r i.reply i.new ans in
          omega (
            arith,
            ap (λ x. num (is_step (ok x))) t.told,
            ap (λ (x : Office). office_work plan a x + pairs_work plan (put (pairs_in s) a x.pairs)) t.after,
            done_takes s a r i.inside (in_order s.frames (pairs_in s) g) sane t.guard,
          )
      by (event.Send v n) is ans comes =
          let t = was_sent plan a o v n i.reply i.new ans in
          omega (
            arith,
            ap (λ x. num (is_step (ok x))) t.told,
            ap (λ (x : Office). office_work plan a x + pairs_work plan (put (pairs_in s) a x.pairs)) t.after,
            stays_as_it_was plan (pairs_in s) a,
          )
      by (event.Took f) is ans comes =
          let t = was_taken plan a o f i.reply i.new ans in
          omega (
            arith,
            ap (λ x. num (is_step (ok x))) t.told,
            is_taken (arrival_of o.pairs f),
            ap (λ (x : Office). office_work plan a x + pairs_work plan (put (pairs_in s) a x.pairs)) t.after,
            taken_takes s s' i f is g ans comes,
          )
      by (event.Withdraw t) is ans comes =
          let w = was_withdrawn o t i.reply i.new ans in
          omega (
            arith,
            ap (λ x. num (is_step (ok x))) w.told,
            ap (λ (x : Office). office_work plan a x + pairs_work plan (put (pairs_in s) a x.pairs)) w.after,
            withdrawn_takes s a t i.inside (in_order s.frames (pairs_in s) g) w.guard,
          )

  -- so it is of all that is left
  state_takes : (s s' : State) (i : IsAccepted plan s s') → GoOn plan s.frames (pairs_in s) → IsSane plan i.place (s.office i.place) → num (is_step (Ok i.reply)) + work_in plan s' ≤ work_in plan s + added_for plan i.place i.event (Ok i.reply)
  state_takes s s' i g sane =
      omega (
        arith,
        office_takes s s' i g sane,
        one_changed (office_work plan) s.office i.place i.new (length plan.offices) 0 (omega arith) (omega (arith, ltb-true i.place (length plan.offices) i.inside)),
        ap (work_in plan) i.led,
        ap (pairs_work plan) pairs_are,
      )
    where
      pairs_are : ◌≡◌ {A = ℕ → Pairs} (λ x. (put s.office i.place i.new x).pairs) (put (pairs_in s) i.place i.new.pairs)
      pairs_are = sym (ap pairs_in i.led) ∙ pairs_after plan s s' i ∙ ap (put (pairs_in s) i.place) (sym (answers.is_step plan i.place (s.office i.place) i.event i.reply i.new i.answered).after)

  -- ---- what is handed to an office of a world

  module _ (w : World) (seat : IsSeated plan w) (g : GoOn plan w.frames (pairs_in (state_of w))) (sane : (a : ℕ) → IsSane plan a (office_at w a)) where
    abbrev Uses : ℕ → office.Event → Answer → Type 0
    Uses a e x = num (is_step x.0) + work_left x.1 ≤ work_left w + added_for w.plan a e x.0

    not_done : (a : ℕ) (e : office.Event) (r : WorldRefusal) → Uses a e (Err r, w)
    not_done a e r = omega arith

    noted_uses : (a : ℕ) (e : office.Event) (r : Reply) (o : Office) → MayCome w.frames a e → nat_lt a (length w.sites) ≡ true → answer (site_at w a).plan (site_at w a).me (office_at w a) e ≡ Ok (r, o) → Uses a e (told w a e (Ok r, noted (site_at w a) 0 e r))
    noted_uses a e r o come inside ans =
        let w' : World = (told w a e (Ok r, noted (site_at w a) 0 e r)).1 in
        subst (λ p. num (is_step (ok r)) + work_in p (state_of w') ≤ work_in p (state_of w) + added_for p a e (ok r)) (sym seat.planned)
        (state_takes (state_of w) (state_of w') (accepted_as plan w a e r o seat come inside ans) g (sane a))

    handed_uses : (a : ℕ) (e : office.Event) → MayCome w.frames a e → Uses a e (handed w a e)
    handed_uses a e come = by_place (nat_lt a (length w.sites)) refl
      where
        at : Site
        at = site_at w a

        by_room : (r : Reply) (o : Office) → answer at.plan at.me (office_of at) e ≡ Ok (r, o) → nat_lt a (length w.sites) ≡ true → (full : Bool) → Uses a e (told w a e (cond full (Err refused.JournalFull, at) (Ok r, noted at 0 e r)))
        by_room r o ans inside true = not_done a e (refusal.Office refused.JournalFull)
        by_room r o ans inside false = noted_uses a e r o come inside ans

        by_answer : (x : site.Answer) → answer at.plan at.me (office_of at) e ≡ x → nat_lt a (length w.sites) ≡ true → Uses a e (told w a e (recorded at 0 e x))
        by_answer (Ok x) ans inside = by_room x.0 x.1 ans inside (nat_le most_entries (length at.entries))
        by_answer (Err r) ans inside = not_done a e (refusal.Office r)

        by_place : (b : Bool) → nat_lt a (length w.sites) ≡ b → Uses a e (cond b (told w a e (step at 0 e)) (Err refusal.NoOffice, w))
        by_place true inside = by_answer (answer at.plan at.me (office_of at) e) refl inside
        by_place false inside = not_done a e refusal.NoOffice

    uses : StepsUseUpWork w
    uses (happening.Submit a p) = handed_uses a (event.Submit p) tt
    uses (happening.Withdraw a t) = handed_uses a (event.Withdraw t) tt
    uses (happening.Do a rule) = handed_uses a (event.Do rule) tt
    uses (happening.Send a v i) = handed_uses a (event.Send v i) tt
    uses (happening.Deliver zero) = omega arith
    uses (happening.Deliver (suc k)) = of (slice_get w.frames k) refl
      where
        of : (f : Option Fields) → slice_get w.frames k ≡ f → num (is_step (delivered w f).0) + work_left (delivered w f).1 ≤ work_left w + 0
        of None e = omega arith
        of (Some f) e = handed_uses f.to (event.Took f) (refl, k, e)

pub steps_use_up_work : tables.EachHasOnePlace → bars.EachHasOnePlace → PartsLaws → EndsWithinItsCost → Always StepsUseUpWork
steps_use_up_work forks_one bottles_one parts law plan es c =
    uses forks_one bottles_one parts.peers law plan c (run_of (opening plan) es) (seated plan es) (all_go_on forks_one bottles_one parts.peers plan c es) (kept plan parts es).sane
