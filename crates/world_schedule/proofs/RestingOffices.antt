-- Offices that have nothing to do, and which of them still have nothing after an event.
use Rattle.std.proofs.Common.{◌≡◌, ◌≢◌, ℕ, zero, suc, ◌+◌, ◌<◌, ◌≤◌, Bool, true, false, cond, List, [], ◌∷◌, ◌++◌, length, get_or, set, Option, None, Some, Ok, Err, refl, sym, ap, subst, ◌∙◌, arith, ⊎_elim}
use Rattle.std.specs.Prelude.{IsOk, nat_lt, nat_le, slice_get, option_map}
use Rattle.std.specs.Option.{option_or}
use Rattle.std.proofs.lemmas.Bool.{le-ltb, cases_eq, cases_lt}
use Rattle.std.proofs.lemmas.Bool.Decides.{nat_tests}
use Rattle.std.proofs.lemmas.List.{length-set, length-append, get_or_past, get_or-set_same, get_or-set_other}
use Rattle.frame_codec.specs.Frame.{Fields}
use Rattle.office_map.specs.PlanValue.{are_neighbours, neighbours_of}
use Rattle.window_link.specs.Windows.{used}
use Rattle.window_link.specs.Links.{LinkState, frame_of}
use Rattle.office_journal.specs.declared.event.Event as office
use Rattle.office_journal.specs.declared.event.Event.TheVariants as event
use Rattle.office_journal.specs.declared.rule.Rule.{Rule}
use Rattle.office_journal.specs.declared.reply.Reply.{Reply}
use Rattle.office_journal.specs.declared.reply.Reply.TheVariants as reply
use Rattle.office_journal.specs.declared.reply.Refusal.TheVariants as refused
use Rattle.site_core.specs.Growing.{LinksOnlyGrow}
use Rattle.site_core.specs.Limits.{most_entries}
use Rattle.site_core.specs.Offices.{Office, answer, framed, frame_on}
use Rattle.site_core.specs.Offices as answers
use Rattle.site_core.specs.Journals.{Site, office_of, noted, recorded, step, next_or}
use Rattle.site_core.specs.RuleOrder.{next_rule}
use Rattle.site_core.specs.JournalLaws.{office_noted}
use Rattle.frame_world.specs.declared.event.WorldEvent.TheVariants as happening
use Rattle.frame_world.specs.declared.refusal.WorldRefusal.{WorldRefusal}
use Rattle.frame_world.specs.declared.refusal.WorldRefusal.TheVariants as refusal
use Rattle.frame_world.specs.declared.next_step.NextStep.{NextStep}
use Rattle.frame_world.specs.declared.next_step.NextStep.TheVariants as next
use Rattle.frame_world.specs.Worlds.{World, Answer, silent, site_at, office_at, told, handed, delivered, frame_at, happens}
use Rattle.frame_world.specs.Ways.{pairs_at}
use Rattle.frame_world.specs.Standstill.{sent_by, taken_of, first_of, message_to, message_from, place_of, rule_at}
use Rattle.world_schedule.specs.Resting.{Resting, RestIn, RestAfter}
use Rattle.world_schedule.specs.refinement.Marks.{step_at, marks_of, marked}
use Rattle.world_schedule.specs.declared.sought.Sought.{Sought}
use Rattle.world_schedule.specs.declared.sought.Sought.TheVariants as sought
use Rattle.world_schedule.proofs.LinkPeers.{link_peers}

-- ---- marks

not_true : ◌≡◌ {A = Bool} false true → ⊥
not_true h = absurd cc

cleared : (marks : List Bool) (a b : ℕ) → get_or (set marks a false) b false ≡ true → (b ≢ a) × (get_or marks b false ≡ true)
cleared marks a b e = ⊎_elim
    (λ is. absurd (not_true (sym (unmarked b is) ∙ e)))
    (λ ne. (ne, sym (get_or-set_other marks a b false false ne) ∙ e))
    (cases_eq b a)
  where
    unmarked : (x : ℕ) → x ≡ a → get_or (set marks a false) x false ≡ false
    unmarked x is = ap (λ k. get_or (set marks a false) k false) is ∙ ⊎_elim
        (λ lt. get_or-set_same marks a false false lt)
        (λ ge. get_or_past (set marks a false) a false (omega (arith, ge, length-set marks a false)))
        (cases_lt a (length marks))

abbrev pub woken : Resting → ℕ → Resting
woken r a = record { rules = set r.rules a false; messages = set r.messages a false }

-- who is marked has none
pub marked_has_none : (w : World) (r : Resting) (k : Sought) (a : ℕ) → RestIn w r → get_or (marks_of k r) a false ≡ true → step_at k w a ≡ None
marked_has_none w r sought.Rule a rest e = rest.rules a e
marked_has_none w r sought.Message a rest e = rest.messages a e

-- one more is marked, which has none
one_more : (step : ℕ → Option NextStep) (marks : List Bool) (a : ℕ) → ((b : ℕ) → get_or marks b false ≡ true → step b ≡ None) → step a ≡ None
    → (b : ℕ) → get_or (set marks a true) b false ≡ true → step b ≡ None
one_more step marks a rest none b e = ⊎_elim
    (λ is. ap step is ∙ none)
    (λ ne. rest b (sym (get_or-set_other marks a b true false ne) ∙ e))
    (cases_eq b a)

pub marked_rests : (w : World) (r : Resting) (k : Sought) (a : ℕ) → RestIn w r → step_at k w a ≡ None → RestIn w (marked k r a)
marked_rests w r sought.Rule a rest none = record { rules = one_more (rule_at w) r.rules a rest.rules none; messages = rest.messages }
marked_rests w r sought.Message a rest none = record { rules = rest.rules; messages = one_more (message_from w) r.messages a rest.messages none }

-- ---- a world in which one office went on

-- all others are as they were, and no office took less than before
record Onward (w w' : World) (a : ℕ) : Type 0 where
  plan : w'.plan ≡ w.plan
  others : (b : ℕ) → b ≢ a → office_at w' b ≡ office_at w b
  grown : (b v : ℕ) → taken_of w v b ≤ taken_of w' v b

stays : (w : World) (a : ℕ) → Onward w w a
stays w a = record { plan = refl; others = λ b ne. refl; grown = λ b v. omega arith }

then_onward : (w v u : World) (a : ℕ) → Onward w v a → Onward v u a → Onward w u a
then_onward w v u a first second = record {
  plan = second.plan ∙ first.plan;
  others = λ b ne. second.others b ne ∙ first.others b ne;
  grown = λ b x. omega (arith, first.grown b x, second.grown b x);
}

-- where each of several still has none, there is still no first
none_still : (f g : ℕ → Option NextStep) (xs : List ℕ) → ((x : ℕ) → f x ≡ None → g x ≡ None) → first_of f xs ≡ None → first_of g xs ≡ None
none_still f g [] still e = refl
none_still f g (x ∷ xs) still e = go (f x) refl e (λ k. none_still f g xs still k)
  where
    go : (o : Option NextStep) → f x ≡ o → option_or o (first_of f xs) ≡ None → (first_of f xs ≡ None → first_of g xs ≡ None) → option_or (g x) (first_of g xs) ≡ None
    go None h k rest = ap (λ o. option_or o (first_of g xs)) (still x h) ∙ rest k
    go (Some y) h k rest = absurd cc

-- the other took all that was sent, and so it is as long as no more is sent
none_to : (a b taken sent taken' sent' : ℕ) → taken ≤ taken' → sent' ≡ sent →
    cond (nat_lt taken sent) (Some (next.Message a b (taken + 1))) None ≡ None → cond (nat_lt taken' sent') (Some (next.Message a b (taken' + 1))) None ≡ None
none_to a b taken sent taken' sent' le same e = ap (λ t. cond t (Some (next.Message a b (taken' + 1))) None) (le-ltb taken' sent' (omega (arith, le, same, all_taken (nat_lt taken sent) refl e)))
  where
    all_taken : (t : Bool) → nat_lt taken sent ≡ t → cond t (Some (next.Message a b (taken + 1))) None ≡ None → sent ≤ taken
    all_taken true h k = absurd cc
    all_taken false h k = grind (arith, nat_tests, h)

rest_onward : (w w' : World) (r : Resting) (a : ℕ) → Onward w w' a → RestIn w r → RestIn w' (woken r a)
rest_onward w w' r a on rest = record {
  rules = λ b e.
      let was = cleared r.rules a b e in
      ap (λ p. option_map (next.Rule b) (next_rule p b (office_at w' b))) on.plan ∙ ap (λ o. option_map (next.Rule b) (next_rule w.plan b o)) (on.others b was.0) ∙ rest.rules b was.1;
  messages = λ b e.
      let was = cleared r.messages a b e in
      ap (λ p. first_of (message_to w' b) (neighbours_of p b)) on.plan
      ∙ none_still (message_to w b) (message_to w' b) (neighbours_of w.plan b)
      (λ c. none_to b c (taken_of w b c) (sent_by w b c) (taken_of w' b c) (sent_by w' b c) (on.grown c b) (ap (λ (o : Office). used (o.pairs.link c).sending) (on.others b was.0))) (rest.messages b was.1);
}

-- ---- what an event leaves

module _ (grow : LinksOnlyGrow) (w : World) (a : ℕ) (e : office.Event) where
  abbrev s : Site
  s = site_at w a

  -- the office takes an entry
  noted_onward : (r : Reply) → a < length w.sites → Onward w (told w a e (Ok r, noted s 0 e r)).1 a
  noted_onward r lt = record {
    plan = refl;
    others = λ b ne. ap office_of (get_or-set_other w.sites a b (noted s 0 e r) (silent w.plan b) ne);
    grown = λ b v. ⊎_elim
        (λ is. subst (λ k. taken_of w v k ≤ taken_of w' v k) (sym is) (subst (λ (x : Site). taken_of w v a ≤ ((office_of x).pairs.link v).receiving.taken) (sym (get_or-set_same w.sites a (noted s 0 e r) (silent w.plan a) lt))
        (grow s.plan s.me s.entries (record { tag = 0; event = e; reply = r } ∷ []) v).taken))
        (λ ne. let same : taken_of w' v b ≡ taken_of w v b = ap (λ (x : Site). ((office_of x).pairs.link v).receiving.taken) (get_or-set_other w.sites a b (noted s 0 e r) (silent w.plan b) ne) in omega (arith, same))
        (cases_eq b a);
  }
    where
      w' : World
      w' = (told w a e (Ok r, noted s 0 e r)).1

  handed_onward : Onward w (handed w a e).1 a
  handed_onward = by_place (nat_lt a (length w.sites)) refl
    where
      by_room : (r : Reply) → nat_lt a (length w.sites) ≡ true → (full : Bool) → Onward w (told w a e (cond full (Err refused.JournalFull, s) (Ok r, noted s 0 e r))).1 a
      by_room r inside true = stays w a
      by_room r inside false = noted_onward r (grind (arith, nat_tests, inside))

      by_answer : (x : answers.Answer) → nat_lt a (length w.sites) ≡ true → Onward w (told w a e (recorded s 0 e x)).1 a
      by_answer (Ok x) inside = by_room x.0 inside (nat_le most_entries (length s.entries))
      by_answer (Err r) inside = stays w a

      by_place : (b : Bool) → nat_lt a (length w.sites) ≡ b → Onward w (cond b (told w a e (step s 0 e)) (Err refusal.NoOffice, w)).1 a
      by_place true inside = by_answer (answer s.plan s.me (office_of s) e) inside
      by_place false inside = stays w a

-- ---- a frame is made

-- no office is otherwise for it; and where it is made it is the last of all, for the other end of the link
record Made (w : World) (peer : ℕ) (x : Answer) : Type 0 where
  onward : (b : ℕ) → Onward w x.1 b
  frame : IsOk x.0 → (f : Fields) × (x.1.frames ≡ w.frames ++ f ∷ []) × (f.to ≡ peer)

abbrev goes_to : ℕ → Option Fields → ℕ
goes_to peer None = peer
goes_to peer (Some f) = f.to

to_the_peer : (l : LinkState) (i : ℕ) → goes_to l.peer (frame_on l i) ≡ l.peer
to_the_peer l zero = refl
to_the_peer l (suc i) = go (nat_le (suc i) (length l.sending.waiting))
  where
    go : (b : Bool) → goes_to l.peer (cond b (Some (frame_of l (suc i))) None) ≡ l.peer
    go true = refl
    go false = refl

module _ (w : World) (a v i : ℕ) where
  abbrev sender : Site
  sender = site_at w a

  abbrev way : LinkState
  way = (office_of sender).pairs.link v

  abbrev e : office.Event
  e = event.Send v i

  not_made : (r : WorldRefusal) → Made w way.peer (Err r, w)
  not_made r = record { onward = stays w; frame = λ ok. absurd (not_true ok) }

  frame_made : (f : Fields) → f.to ≡ way.peer → answer sender.plan sender.me (office_of sender) e ≡ Ok (reply.Frame f, office_of sender) → a < length w.sites → Made w way.peer (told w a e (Ok (reply.Frame f), noted sender 0 e (reply.Frame f)))
  frame_made f to ans lt = record {
    onward = λ b. record { plan = refl; others = λ x ne. same x; grown = λ x u. let k = ap (λ (o : Office). (o.pairs.link u).receiving.taken) (same x) in omega (arith, k) };
    frame = λ ok. (f, refl, to);
  }
    where
      new : Site
      new = noted sender 0 e (reply.Frame f)

      w' : World
      w' = (told w a e (Ok (reply.Frame f), new)).1

      same : (x : ℕ) → office_at w' x ≡ office_at w x
      same x = ⊎_elim
          (λ is. ap (office_at w') is ∙ ap office_of (get_or-set_same w.sites a new (silent w.plan a) lt) ∙ office_noted sender 0 e (reply.Frame f) ∙ ap (next_or (office_of sender)) ans ∙ sym (ap (office_at w) is))
          (λ ne. ap office_of (get_or-set_other w.sites a x new (silent w.plan x) ne))
          (cases_eq x a)

  sends : Made w way.peer (handed w a e)
  sends = by_place (nat_lt a (length w.sites)) refl
    where
      by_room : (f : Fields) → f.to ≡ way.peer → answer sender.plan sender.me (office_of sender) e ≡ Ok (reply.Frame f, office_of sender) → nat_lt a (length w.sites) ≡ true → (full : Bool) →
          Made w way.peer (told w a e (cond full (Err refused.JournalFull, sender) (Ok (reply.Frame f), noted sender 0 e (reply.Frame f))))
      by_room f to ans inside true = not_made (refusal.Office refused.JournalFull)
      by_room f to ans inside false = frame_made f to ans (grind (arith, nat_tests, inside))

      by_frame : (x : Option Fields) → goes_to way.peer x ≡ way.peer → answer sender.plan sender.me (office_of sender) e ≡ framed (office_of sender) x → nat_lt a (length w.sites) ≡ true → Made w way.peer (told w a e (recorded sender 0 e (framed (office_of sender) x)))
      by_frame None to ans inside = not_made (refusal.Office refused.NotNow)
      by_frame (Some f) to ans inside = by_room f to ans inside (nat_le most_entries (length sender.entries))

      by_near : (b : Bool) → are_neighbours sender.plan sender.me v ≡ b → nat_lt a (length w.sites) ≡ true → Made w way.peer (told w a e (recorded sender 0 e (cond b (framed (office_of sender) (frame_on way i)) (Err refused.NotNow))))
      by_near true near inside = by_frame (frame_on way i) (to_the_peer way i) (ap (λ b. cond {A = answers.Answer} b (framed (office_of sender) (frame_on way i)) (Err refused.NotNow)) near) inside
      by_near false near inside = not_made (refusal.Office refused.NotNow)

      by_place : (b : Bool) → nat_lt a (length w.sites) ≡ b → Made w way.peer (cond b (told w a e (step sender 0 e)) (Err refusal.NoOffice, w))
      by_place true inside = by_near (are_neighbours sender.plan sender.me v) refl inside
      by_place false inside = not_made refusal.NoOffice

-- ---- the last frame comes

last_of : (xs : List Fields) (f : Fields) → slice_get (xs ++ f ∷ []) (length xs) ≡ Some f
last_of [] f = refl
last_of (x ∷ xs) f = last_of xs f

last_comes : LinksOnlyGrow → (w : World) (xs : List Fields) (f : Fields) (b : ℕ) → w.frames ≡ xs ++ f ∷ [] → f.to ≡ b → Onward w (happens w (happening.Deliver (length w.frames))).1 b
last_comes grow w xs f b last to =
    let count : length w.frames ≡ suc (length xs) = (let long = length-append xs (f ∷ []) in let same = ap length last in omega (arith, long, same)) in
    let is : happens w (happening.Deliver (length w.frames)) ≡ handed w b (event.Took f) =
    ap (λ k. delivered w (frame_at w k)) count ∙ ap (λ fs. delivered w (slice_get fs (length xs))) last ∙ ap (delivered w) (last_of xs f) ∙ ap (λ k. handed w k (event.Took f)) to in
    subst (λ (y : Answer). Onward w y.1 b) (sym is) (handed_onward grow w b (event.Took f))

-- ---- what a step leaves

pub rest_after_rule : LinksOnlyGrow → (w : World) (r : Resting) (a : ℕ) (rule : Rule) → RestIn w r → RestAfter w (next.Rule a rule) (woken r a)
rest_after_rule grow w r a rule rest = rest_onward w (happens w (happening.Do a rule)).1 r a (handed_onward grow w a (event.Do rule)) rest

pub rest_after_message : LinksOnlyGrow → (w : World) (r : Resting) (a b number : ℕ) → RestIn w r → RestAfter w (next.Message a b number) (woken r b)
rest_after_message grow w r a b number rest =
    let x : Answer = happens w (happening.Send a b (place_of w a b number)) in
    let made : Made w ((pairs_at w a).link b).peer x = sends w a b (place_of w a b number) in
    let peer : ((pairs_at w a).link b).peer ≡ b = link_peers (site_at w a) b in (
      rest_onward w x.1 r b (made.onward b) rest,
      λ ok.
          let f = made.frame ok in
          rest_onward w (happens x.1 (happening.Deliver (length x.1.frames))).1 r b (then_onward w x.1 (happens x.1 (happening.Deliver (length x.1.frames))).1 b (made.onward b) (last_comes grow x.1 w.frames f.0 b f.1 (f.2 ∙ peer))) rest,
    )
