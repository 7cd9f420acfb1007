-- A run that is one step longer, and a rule more of an office.
use Rattle.std.proofs.Common.{◌≡◌, ℕ, zero, suc, ◌+◌, ◌-◌, ◌<◌, ◌≤◌, Bool, true, false, cond, List, [], ◌∷◌, ◌++◌, length, take, get_or, Option, None, Some, Result, Ok, Err, refl, sym, ap, ap₂, subst, ◌∙◌, inl, inr, ⊎_elim, arith}
use Rattle.std.specs.Prelude.{nat_lt, slice_get, IsOk}
use Rattle.std.specs.List.{flat_map}
use Rattle.std.proofs.lemmas.Bool.Decides.{nat_tests}
use Rattle.std.proofs.lemmas.List.{take_more}
use Rattle.std.proofs.lemmas.List.Concat.{flat_map-append}
use Rattle.std.proofs.lemmas.List.Elements.{filter_map-append}
use Rattle.frame_codec.specs.Frame.{Fields}
use Rattle.office_map.specs.PlanValue.{PlanValue}
use Rattle.session_meaning.specs.ProgramValue.{ProgramValue}
use Rattle.office_journal.specs.declared.event.Event as office
use Rattle.office_journal.specs.declared.event.Event.TheVariants as site_event
use Rattle.office_journal.specs.declared.rule.Rule.{Rule}
use Rattle.office_journal.specs.declared.reply.Reply.{Reply}
use Rattle.office_journal.specs.declared.reply.Refusal as offices
use Rattle.office_journal.specs.declared.reply.Refusal.TheVariants as refused
use Rattle.site_core.specs.Journals.{Site, office_of, step}
use Rattle.site_core.specs.RuleOrder.{next_rule}
use Rattle.frame_world.specs.declared.event.WorldEvent.{WorldEvent}
use Rattle.frame_world.specs.declared.event.WorldEvent.TheVariants as happening
use Rattle.frame_world.specs.declared.refusal.WorldRefusal.{WorldRefusal}
use Rattle.frame_world.specs.declared.refusal.WorldRefusal.TheVariants as refusal
use Rattle.frame_world.specs.Worlds.{World, Answer, site_at, office_at, told, handed, delivered, happens, OrMemory}
use Rattle.frame_world.specs.declared.next_step.NextStep.{NextStep}
use Rattle.frame_world.specs.declared.next_step.NextStep.TheVariants as next
use Rattle.frame_world.specs.Standstill.{next_step, place_of}
use Rattle.world_schedule.specs.Resting.{Resting, RestIn, RestAfter}
use Rattle.simulation.specs.declared.scripts.event.ScriptEvent.{ScriptEvent}
use Rattle.simulation.specs.declared.scripts.said.Said.{Said}
use Rattle.simulation.specs.declared.scripts.said.Said.TheVariants.{Rules}
use Rattle.simulation.specs.scripts.Script.{Act, Happens, Advances, Settles, act_with, acts_with}
use Rattle.simulation.specs.scripts.Runs.{Told, does, run_of, all_told, advanced, by_rule, further, stepped, by_step, settled}
use Rattle.simulation.specs.scripts.Runs as runs
use Rattle.session_reports.specs.declared.form.forms.Form.{Form}
use Rattle.simulation.specs.scripts.Transcript.{told_line}
use Rattle.simulation.specs.scripts.refinement.Steps.{Says, Answered, AnswersStep}

-- the lines of what is told of a run
abbrev pub lines_of : Form → World → List Act → List ℕ
lines_of f w xs = flat_map (told_line f) (all_told w xs)

run_append : (w : World) (xs ys : List Act) → run_of w (xs ++ ys) ≡ run_of (run_of w xs) ys
run_append w [] ys = refl
run_append w (x ∷ xs) ys = run_append (does w x).1 xs ys

told_append : (w : World) (xs ys : List Act) → all_told w (xs ++ ys) ≡ all_told w xs ++ all_told (run_of w xs) ys
told_append w [] ys = refl
told_append w (x ∷ xs) ys = ap (λ ts. does w x ∷ ts) (told_append (does w x).1 xs ys)

module _ (programs : List ProgramValue) (w : World) (es : List ScriptEvent) (i : ℕ) (d : ScriptEvent) (lt : i < length es) where
  abbrev before : List Act
  before = acts_with programs (take i es)

  abbrev here : List Act
  here = acts_with programs (get_or es i d ∷ [])

  one_more : acts_with programs (take (i + 1) es) ≡ before ++ here
  one_more = ap (acts_with programs) (take_more es i d lt) ∙ filter_map-append (act_with programs) (take i es) (get_or es i d ∷ [])

  pub run_longer : (v v' : World) → v ≡ run_of w before → v' ≡ run_of v here → v' ≡ run_of w (acts_with programs (take (i + 1) es))
  run_longer v v' so_far next = next ∙ ap (λ u. run_of u here) so_far ∙ sym (run_append w before here) ∙ sym (ap (run_of w) one_more)

  pub lines_longer : (f : Form) (v : World) (old new : List ℕ) → v ≡ run_of w before → old ≡ lines_of f w before → new ≡ old ++ lines_of f v here → new ≡ lines_of f w (acts_with programs (take (i + 1) es))
  lines_longer f v old new so_far told next =
      next ∙ ap₂ (λ l u. l ++ lines_of f u here) told so_far
      ∙ sym (flat_map-append (told_line f) (all_told w before) (all_told (run_of w before) here))
      ∙ sym (ap (flat_map (told_line f)) (told_append w before here))
      ∙ sym (ap (lines_of f w) one_more)

-- no event changes the plan
told_plan : (w : World) (a : ℕ) (e : office.Event) (x : Result Reply offices.Refusal × Site) → (told w a e x).1.plan ≡ w.plan
told_plan w a e (Ok r, s) = refl
told_plan w a e (Err r, s) = refl

handed_plan : (w : World) (a : ℕ) (e : office.Event) → (handed w a e).1.plan ≡ w.plan
handed_plan w a e = go (nat_lt a (length w.sites))
  where
    go : (b : Bool) → (cond {A = Answer} b (told w a e (step (site_at w a) 0 e)) (Err refusal.NoOffice, w)).1.plan ≡ w.plan
    go true = told_plan w a e (step (site_at w a) 0 e)
    go false = refl

pub plan_stays : (w : World) (e : WorldEvent) → (happens w e).1.plan ≡ w.plan
plan_stays w (happening.Submit a p) = handed_plan w a (site_event.Submit p)
plan_stays w (happening.Withdraw a ticket) = handed_plan w a (site_event.Withdraw ticket)
plan_stays w (happening.Do a r) = handed_plan w a (site_event.Do r)
plan_stays w (happening.Send a v i) = handed_plan w a (site_event.Send v i)
plan_stays w (happening.Deliver zero) = refl
plan_stays w (happening.Deliver (suc k)) = of (slice_get w.frames k)
  where
    of : (f : Option Fields) → (delivered w f).1.plan ≡ w.plan
    of None = refl
    of (Some f) = handed_plan w f.to (site_event.Took f)

-- nor does an act
further_plan : (p : PlanValue) (go_on : World → Told) (x : Answer) → x.1.plan ≡ p → ((v : World) → v.plan ≡ p → (go_on v).1.plan ≡ p) → (further go_on x).1.plan ≡ p
further_plan p go_on (Ok r, v) h on = on v h
further_plan p go_on (Err e, v) h on = h

delivered_plan : (p : PlanValue) (x : Answer) → x.1.plan ≡ p → (runs.delivered x).1.plan ≡ p
delivered_plan p (Ok r, v) h = plan_stays v (happening.Deliver (length v.frames)) ∙ h
delivered_plan p (Err e, v) h = h

advanced_plan : (w : World) (a done left : ℕ) → (advanced w a done left).1.plan ≡ w.plan
advanced_plan w a done zero = refl
advanced_plan w a done (suc left) = go (next_rule w.plan a (office_at w a)) (λ v e. advanced_plan v a (done + 1) left ∙ e)
  where
    go : (o : Option Rule) → ((v : World) → v.plan ≡ w.plan → (advanced v a (done + 1) left).1.plan ≡ w.plan) → (by_rule (λ v. advanced v a (done + 1) left) w a done o).1.plan ≡ w.plan
    go None on = refl
    go (Some r) on = further_plan w.plan (λ v. advanced v a (done + 1) left) (happens w (happening.Do a r)) (plan_stays w (happening.Do a r)) on

settled_plan : (w : World) (done left : ℕ) → (settled w done left).1.plan ≡ w.plan
settled_plan w done zero = refl
settled_plan w done (suc left) = go (next_step w) (λ v e. settled_plan v (done + 1) left ∙ e)
  where
    go : (s : NextStep) → ((v : World) → v.plan ≡ w.plan → (settled v (done + 1) left).1.plan ≡ w.plan) → (by_step (λ v. settled v (done + 1) left) w done (stepped w s)).1.plan ≡ w.plan
    go (next.Rule a r) on = further_plan w.plan (λ v. settled v (done + 1) left) (happens w (happening.Do a r)) (plan_stays w (happening.Do a r)) on
    go (next.Message a b number) on =
        let sending = happening.Send a b (place_of w a b number) in
        further_plan w.plan (λ v. settled v (done + 1) left) (runs.delivered (happens w sending)) (delivered_plan w.plan (happens w sending) (plan_stays w sending)) on
    go next.AllFinished on = refl

act_plan : (w : World) (x : Act) → (does w x).1.plan ≡ w.plan
act_plan w (Happens e) = plan_stays w e
act_plan w (Advances a n) = go (nat_lt a (length w.plan.offices))
  where
    go : (b : Bool) → (cond {A = Told} b (advanced w a 0 n) (Err refusal.NoOffice, w)).1.plan ≡ w.plan
    go true = advanced_plan w a 0 n
    go false = refl
act_plan w (Settles n) = settled_plan w 0 n

pub run_plan : (w : World) (xs : List Act) → (run_of w xs).plan ≡ w.plan
run_plan w [] = refl
run_plan w (x ∷ xs) = run_plan (does w x).1 xs ∙ act_plan w x

-- ---- rules, left to itself

-- where there is no rule, neither
pub no_rule : (w : World) (a done n : ℕ) → done < n → next_rule w.plan a (office_at w a) ≡ None → advanced w a done (n - done) ≡ (Ok (Rules done), w)
no_rule w a done n lt e =
    let left : n - done ≡ suc (n - (done + 1)) = omega (arith, lt) in
    ap (advanced w a done) left ∙ ap (by_rule (λ v. advanced v a (done + 1) (n - (done + 1))) w a done) e

-- a rule that is next
one_rule : (w : World) (a done n : ℕ) (r : Rule) → done < n → next_rule w.plan a (office_at w a) ≡ Some r → advanced w a done (n - done) ≡ further (λ v. advanced v a (done + 1) (n - (done + 1))) (happens w (happening.Do a r))
one_rule w a done n r lt e =
    let left : n - done ≡ suc (n - (done + 1)) = omega (arith, lt) in
    ap (advanced w a done) left ∙ ap (by_rule (λ v. advanced v a (done + 1) (n - (done + 1))) w a done) e

-- it goes on where it was done
pub rule_done : (w w' : World) (a done n : ℕ) (r : Rule) (x : Reply) → done < n → next_rule w.plan a (office_at w a) ≡ Some r → Ok x ≡ (happens w (happening.Do a r)).0 → w' ≡ (happens w (happening.Do a r)).1 →
    advanced w a done (n - done) ≡ advanced w' a (done + 1) (n - (done + 1))
rule_done w w' a done n r x lt e ok new =
    one_rule w a done n r lt e ∙ ap₂ (λ k v. further (λ v. advanced v a (done + 1) (n - (done + 1))) (k, v)) (sym ok) (sym new)

-- and ends where it was refused
pub rule_refused : (w w' : World) (a done n : ℕ) (r : Rule) (x : WorldRefusal) → done < n → next_rule w.plan a (office_at w a) ≡ Some r → Err x ≡ (happens w (happening.Do a r)).0 → w' ≡ (happens w (happening.Do a r)).1 →
    advanced w a done (n - done) ≡ (Err x, w')
rule_refused w w' a done n r x lt e err new =
    one_rule w a done n r lt e ∙ ap₂ (λ k v. further (λ v. advanced v a (done + 1) (n - (done + 1))) (k, v)) (sym err) (sym new)

-- the rule that an office of a world tells
pub rule_at : (w : World) (a : ℕ) (s : Site) (r : Option Rule) → s ≡ site_at w a → s.plan ≡ w.plan → s.me ≡ a → r ≡ next_rule s.plan s.me (office_of s) → r ≡ next_rule w.plan a (office_at w a)
rule_at w a s r site plan me e = e ∙ ap (λ p. next_rule p s.me (office_of s)) plan ∙ ap (λ m. next_rule w.plan m (office_of s)) me ∙ ap (λ x. next_rule w.plan a (office_of x)) site

-- what was told of the rules is said of the act
says_rules : (w w' : World) (a n : ℕ) (said : Result Said WorldRefusal) → nat_lt a (length w.plan.offices) ≡ true → advanced w a 0 n ≡ (said, w') → Says (does w (Advances a n)) said w'
says_rules w w' a n said inside e =
    let told : does w (Advances a n) ≡ (said, w') = ap (λ b. cond b (advanced w a 0 n) (Err refusal.NoOffice, w)) inside ∙ e in
    inr (sym (ap (λ (t : Told). t.0) told), sym (ap (λ (t : Told). t.1) told))

inside_is : (a n : ℕ) → a < n → nat_lt a n ≡ true
inside_is a n lt = grind (arith, nat_tests)

pub stops : (w v : World) (a done n : ℕ) → a < length w.plan.offices → advanced w a 0 n ≡ advanced v a done (n - done) → done < n → next_rule v.plan a (office_at v a) ≡ None → Says (does w (Advances a n)) (Ok (Rules done)) v
stops w v a done n inside same lt e = says_rules w v a n (Ok (Rules done)) (inside_is a (length w.plan.offices) inside) (same ∙ no_rule v a done n lt e)

pub is_refused : (w v v' : World) (a done n : ℕ) (r : Rule) (x : WorldRefusal) (res : Result Reply WorldRefusal) → a < length w.plan.offices → advanced w a 0 n ≡ advanced v a done (n - done) → done < n → next_rule v.plan a (office_at v a) ≡ Some r →
    res ≡ Err x → OrMemory v (happens v (happening.Do a r)) res v' → Says (does w (Advances a n)) (Err x) v'
is_refused w v v' a done n r x res inside same lt next is h = ⊎_elim
    (λ m. inl (let e : x ≡ refusal.Office refused.Memory = (let both : ◌≡◌ {A = Result Reply WorldRefusal} (Err x) (Err (refusal.Office refused.Memory)) = sym is ∙ m.0 in cc) in ap Err e))
    (λ k. says_rules w v' a n (Err x) (inside_is a (length w.plan.offices) inside) (same ∙ rule_refused v v' a done n r x lt next (sym is ∙ k.0) k.1))
    h

pub record Goes (w v' : World) (a done n : ℕ) : Type 0 where
  pub plan : v'.plan ≡ w.plan
  pub few : done + 1 ≤ n
  pub same : advanced w a 0 n ≡ advanced v' a (done + 1) (n - (done + 1))

pub is_done : (w v v' : World) (a done n : ℕ) (r : Rule) (x : Reply) (res : Result Reply WorldRefusal) → v.plan ≡ w.plan → advanced w a 0 n ≡ advanced v a done (n - done) → done < n → next_rule v.plan a (office_at v a) ≡ Some r →
    res ≡ Ok x → OrMemory v (happens v (happening.Do a r)) res v' → Goes w v' a done n
is_done w v v' a done n r x res plan same lt next is h = ⊎_elim
    (λ m. absurd (let both : ◌≡◌ {A = Result Reply WorldRefusal} (Ok x) (Err (refusal.Office refused.Memory)) = sym is ∙ m.0 in cc))
    (λ k. record {
      plan = ap (λ (y : World). y.plan) k.1 ∙ plan_stays v (happening.Do a r) ∙ plan;
      few = omega (arith, lt);
      same = same ∙ rule_done v v' a done n r x lt next (sym is ∙ k.0) k.1;
    })
    h

-- ---- steps of the world, left to itself

-- and one whose frame is made comes
pub made : (w v v' : World) (e : WorldEvent) (r : Result Reply WorldRefusal) (x : Reply) (k : ℕ) (r' : Result Reply WorldRefusal) → r ≡ Ok x → OrMemory w (happens w e) r v → k ≡ length v.frames → OrMemory v (happens v (happening.Deliver k)) r' v' →
    Answered (runs.delivered (happens w e)) r' v'
made w v v' e r x k r' is h last h' = ⊎_elim
    (λ m. absurd (let both : ◌≡◌ {A = Result Reply WorldRefusal} (Ok x) (Err (refusal.Office refused.Memory)) = sym is ∙ m.0 in cc))
    (λ n.
    let same : happens w e ≡ (Ok x, v) = ap₂ (λ y u. (y, u)) (sym n.0 ∙ is) (sym n.1) in
    let all : happens v (happening.Deliver k) ≡ runs.delivered (happens w e) = ap (λ j. happens v (happening.Deliver j)) last ∙ ap runs.delivered (sym same) in
    ⊎_elim (λ m. inl m.0) (λ a. inr (a.0 ∙ ap (λ y. y.0) all, a.1 ∙ ap (λ y. y.1) all)) h')
    h

-- what was told of the steps is said of the act
says_steps : (w w' : World) (n : ℕ) (said : Result Said WorldRefusal) → settled w 0 n ≡ (said, w') → Says (does w (Settles n)) said w'
says_steps w w' n said e = inr (sym (ap (λ (t : Told). t.0) e), sym (ap (λ (t : Told). t.1) e))

one_step : (w : World) (done n : ℕ) → done < n → settled w done (n - done) ≡ by_step (λ v. settled v (done + 1) (n - (done + 1))) w done (stepped w (next_step w))
one_step w done n lt = let left : n - done ≡ suc (n - (done + 1)) = omega (arith, lt) in ap (settled w done) left

-- one is refused
pub step_refused : (w v v' : World) (done n : ℕ) (step : NextStep) (x : WorldRefusal) → settled w 0 n ≡ settled v done (n - done) → done < n → step ≡ next_step v → AnswersStep v (stepped v step) (Some (Err x)) v' → Says (does w (Settles n)) (Err x) v'
step_refused w v v' done n step x same lt is h = go (stepped v step) (ap (stepped v) is) h
  where
    go : (o : Option Answer) → o ≡ stepped v (next_step v) → AnswersStep v o (Some (Err x)) v' → Says (does w (Settles n)) (Err x) v'
    go None e k = absurd k
    go (Some a) e k = ⊎_elim
        (λ m. inl (let y : x ≡ refusal.Office refused.Memory = (let both : ◌≡◌ {A = Result Reply WorldRefusal} (Err x) (Err (refusal.Office refused.Memory)) = m in cc) in ap Err y))
        (λ t.
        let all : a ≡ (Err x, v') = ap₂ (λ y u. (y, u)) (sym t.0) (sym t.1) in
        says_steps w v' n (Err x) (same ∙ one_step v done n lt ∙ ap (by_step (λ u. settled u (done + 1) (n - (done + 1))) v done) (sym e) ∙ ap (further (λ u. settled u (done + 1) (n - (done + 1)))) all))
        k

-- one is done, and it goes on
pub step_done : (w v v' : World) (done n : ℕ) (step : NextStep) (x : Reply) → settled w 0 n ≡ settled v done (n - done) → done < n → step ≡ next_step v → AnswersStep v (stepped v step) (Some (Ok x)) v' → settled w 0 n ≡ settled v' (done + 1) (n - (done + 1))
step_done w v v' done n step x same lt is h = go (stepped v step) (ap (stepped v) is) h
  where
    go : (o : Option Answer) → o ≡ stepped v (next_step v) → AnswersStep v o (Some (Ok x)) v' → settled w 0 n ≡ settled v' (done + 1) (n - (done + 1))
    go None e k = absurd k
    go (Some a) e k = ⊎_elim
        (λ m. absurd (let both : ◌≡◌ {A = Result Reply WorldRefusal} (Ok x) (Err (refusal.Office refused.Memory)) = m in cc))
        (λ t.
        let all : a ≡ (Ok x, v') = ap₂ (λ y u. (y, u)) (sym t.0) (sym t.1) in
        same ∙ one_step v done n lt ∙ ap (by_step (λ u. settled u (done + 1) (n - (done + 1))) v done) (sym e) ∙ ap (further (λ u. settled u (done + 1) (n - (done + 1)))) all)
        k

-- who is known to have nothing to do still has nothing
pub still_resting : (v v' : World) (step : NextStep) (x : Reply) (r : Resting) → AnswersStep v (stepped v step) (Some (Ok x)) v' → RestAfter v step r → RestIn v' r
still_resting v v' (next.Rule a rule) x r h rest = ⊎_elim
    (λ m. absurd (let both : ◌≡◌ {A = Result Reply WorldRefusal} (Ok x) (Err (refusal.Office refused.Memory)) = m in cc))
    (λ t. subst (λ u. RestIn u r) (sym t.1) rest)
    h
still_resting v v' (next.Message a b number) x r h rest = by_made (happens v (happening.Send a b (place_of v a b number))) rest h
  where
    by_made : (y : Answer) → RestIn y.1 r × (IsOk y.0 → RestIn (happens y.1 (happening.Deliver (length y.1.frames))).1 r) → Answered (runs.delivered y) (Ok x) v' → RestIn v' r
    by_made (Ok k, u) rests g = ⊎_elim
        (λ m. absurd (let both : ◌≡◌ {A = Result Reply WorldRefusal} (Ok x) (Err (refusal.Office refused.Memory)) = m in cc))
        (λ t. subst (λ z. RestIn z r) (sym t.1) (rests.1 refl))
        g
    by_made (Err k, u) rests g = ⊎_elim
        (λ m. absurd (let both : ◌≡◌ {A = Result Reply WorldRefusal} (Ok x) (Err (refusal.Office refused.Memory)) = m in cc))
        (λ t. absurd (let both : ◌≡◌ {A = Result Reply WorldRefusal} (Ok x) (Err k) = t.0 in cc))
        g
still_resting v v' next.AllFinished x r h rest = absurd h
