-- What comes next is there to be done, or no session is left.
use Rattle.std.proofs.Common.{◌≡◌, ℕ, zero, suc, ◌+◌, ◌-◌, ◌<◌, ◌≤◌, Bool, true, false, not, ◌&&◌, cond, List, [], ◌∷◌, length, drop, Option, None, Some, is_some, refl, sym, ap, ◌∙◌, subst, arith, ⊎_elim, inl, inr, ◌⊎◌}
use Rattle.std.specs.Prelude.{◌==◌, nat_lt, nat_le, find, option_map, unwrap_or, All}
use Rattle.std.specs.Option.{option_or}
use Rattle.std.specs.List.{range_with_len}
use Rattle.std.proofs.lemmas.Bool.{or_left, or_right, or_cases, cases_lt, cases_eq, eq-eqb, eqb-true, ltb-true, lt-ltb}
use Rattle.std.proofs.lemmas.List.{get_or_past}
use Rattle.std.proofs.lemmas.List.Elements.{All-head, All-tail, filter_passes}
use Rattle.std.proofs.lemmas.List.Sums.{AllPass-from_list_all}
use Rattle.bottle_values.specs.Lists.{num, is_among}
use Rattle.frame_codec.specs.declared.message.Msg.{Msg}
use Rattle.session_meaning.specs.declared.ending.Ending.{Ending}
use Rattle.office_map.specs.PlanValue.{PlanValue, are_neighbours, is_end, has_ends, neighbours_of}
use Rattle.office_map.specs.Consistency.{IsConsistent, IsAccepted}
use Rattle.office_map.specs.NeighbourLaws.{near_both, near_within, peer_is, peer_near, is_first_end, among_neighbours}
use Rattle.token_channel.specs.declared.thing.Thing.TheVariants.{Fork, ForkToken, BottleToken}
use Rattle.token_channel.specs.Things.{count_carrying}
use Rattle.dining_core.specs.Diners as forks
use Rattle.dining_core.specs.Worlds as tables
use Rattle.dining_core.specs.Standstill as tables_rest
use Rattle.drinking_core.specs.declared.phase.Phase.{Phase}
use Rattle.drinking_core.specs.declared.phase.Phase.TheVariants.{Tranquil, Thirsty, Drinking}
use Rattle.drinking_core.specs.Drinkers as bottles
use Rattle.drinking_core.specs.Drinkers.{Drinker}
use Rattle.drinking_core.specs.Worlds as bars
use Rattle.drinking_core.specs.Standstill as bars_rest
use Rattle.site_core.specs.declared.agendas.session.Session.{Session}
use Rattle.office_journal.specs.declared.rule.Rule.{Rule}
use Rattle.office_journal.specs.declared.rule.Rule.TheVariants as rule
use Rattle.site_core.specs.Limits.{usual_piece}
use Rattle.site_core.specs.Agenda.{Current, Idle, Gathering, Working, unfinished, is_working, may_work, ending_of, writes_of, first_needs}
use Rattle.site_core.specs.Pairs.{Pairs, is_thirsty}
use Rattle.site_core.specs.Offices.{Office, may}
use Rattle.site_core.specs.Journals.{Site, office_of}
use Rattle.site_core.specs.RuleOrder.{next_rule, rules_in_order, IsAtRest, NoneNextIsAtRest}
use Rattle.site_core.specs.JournalLaws.{office_empty}
use Rattle.frame_world.specs.declared.event.WorldEvent.{WorldEvent}
use Rattle.frame_world.specs.declared.next_step.NextStep.{NextStep}
use Rattle.frame_world.specs.declared.next_step.NextStep.TheVariants as next
use Rattle.frame_world.specs.Worlds.{World, opening, run_of, office_at, silent}
use Rattle.frame_world.specs.Ways.{pairs_at, between, bottles_in, tables_of, bars_of}
use Rattle.frame_world.specs.Standstill.{sent_by, taken_of, AllAreFinished, IsStep, first_of, first_office, are_all_finished, rule_at, message_to, message_from, NeverStuck}
use Rattle.frame_world.specs.Headline.{Always, EatersHaveTheirForks}
use Rattle.frame_world.specs.refinement.PartsLaws.{PartsLaws}
use Rattle.frame_world.specs.WorldStates.{state_of, IsSeated}
use Rattle.frame_world.specs.WorldLaws.{seated}
use Rattle.frame_world.proofs.Sessions.{IsCurrent, drinks_where_it_works}
use Rattle.frame_world.proofs.SerialSessions.{IsKept, kept}

and_off : (b c : Bool) → (b && c) ≡ false → b ≡ true → c ≡ false
and_off true c e f = e
and_off false c e f = absurd cc

no_true : false ≡ true → ⊥
no_true e = absurd cc

clash : (b : Bool) → b ≡ true → b ≡ false → ⊥
clash true e f = absurd cc
clash false e f = absurd cc

-- what is found passes the test
found_passes : {A : Type 0} (p : A → Bool) (xs : List A) (y : A) → find p xs ≡ Some y → p y ≡ true
found_passes p [] y e = absurd cc
found_passes p (x ∷ xs) y e = go (p x) refl (found_passes p xs y) e
  where
    go : (b : Bool) → p x ≡ b → (find p xs ≡ Some y → p y ≡ true) → cond b (Some x) (find p xs) ≡ Some y → p y ≡ true
    go true h later k = let same : x ≡ y = cc in ap p (sym same) ∙ h
    go false h later k = later k

-- ---- where nothing is left to do, nobody has a session

-- who works goes on or has ended
no_work : (c : Current) (works drinks : Bool) → works ≡ is_working c → drinks ≡ works → may_work c usual_piece ≡ false → (drinks && is_some (writes_of c)) ≡ false → drinks ≡ false
no_work c works drinks w d h k = of works drinks (ending_of c) w d (ap (λ b. b && (not (is_some (ending_of c)) && (nat_le 1 usual_piece && nat_le usual_piece 1000))) w ∙ h) k
  where
    of : (works drinks : Bool) (e : Option Ending) → works ≡ is_working c → drinks ≡ works → (works && (not (is_some e) && true)) ≡ false → (drinks && is_some (option_map (λ (x : Ending). x.writes) e)) ≡ false → drinks ≡ false
    of true true None w d h k = absurd cc
    of true true (Some x) w d h k = absurd cc
    of false true e w d h k = absurd cc
    of works false e w d h k = refl

at_rest : (p : Phase) → bottles.is_thirsty p ≡ false → bottles.is_drinking p ≡ false → p ≡ Tranquil
at_rest Tranquil e f = refl
at_rest Thirsty e f = absurd (no_true (sym e))
at_rest Drinking e f = absurd (no_true (sym f))

-- a tranquil office without a waiting session has none
idle : (plan : PlanValue) (a : ℕ) (c : Current) (queue : List Session) (tickets : ℕ) (d : Drinker) → d.phase ≡ Tranquil → IsCurrent plan a c d → (bottles.is_tranquil d.phase && is_some (first_needs queue)) ≡ false →
    unfinished (record { queue = queue; tickets = tickets; current = c; outcomes = [] }) ≡ 0
idle plan a Idle [] t d ph i h = refl
idle plan a Idle (s ∷ rest) t d ph i h = absurd (clash (bottles.is_tranquil d.phase && true) (ap (λ p. bottles.is_tranquil p && true) ph) h)
idle plan a (Gathering s) queue t d ph i h = absurd (no_true (ap bottles.is_thirsty (sym ph ∙ i.phase)))
idle plan a (Working s reads done) queue t d ph i h = absurd (no_true (ap bottles.is_drinking (sym ph ∙ i.phase)))

nothing_left : (xs : List Msg) (n : ℕ) → length xs ≤ n → drop n xs ≡ []
nothing_left [] zero h = refl
nothing_left [] (suc n) h = refl
nothing_left (x ∷ xs) zero h = absurd (omega (arith, h))
nothing_left (x ∷ xs) (suc n) h = nothing_left xs n (omega (arith, h))

record ThePartsLaws : Type 0 where
  pub parts : PartsLaws
  pub placed : tables.EachHasOnePlace
  pub eaters : Always EatersHaveTheirForks
  pub wait : tables_rest.TheThirstyWaitForAnEater
  pub lack : bars_rest.TheThirstyLackAFork
  pub none : NoneNextIsAtRest

module _ (plan : PlanValue) (es : List WorldEvent) (laws : ThePartsLaws) (accepted : IsAccepted plan)
    (rules : (a : ℕ) → a < length plan.offices → next_rule plan a (office_at (run_of (opening plan) es) a) ≡ None)
    (ways : (a b : ℕ) → are_neighbours plan a b ≡ true → sent_by (run_of (opening plan) es) a b ≤ taken_of (run_of (opening plan) es) a b) where
  abbrev w : World
  w = run_of (opening plan) es

  abbrev pairs : ℕ → Pairs
  pairs = pairs_at w

  c : IsConsistent plan
  c = accepted.consistent

  k : IsKept plan (state_of w)
  k = kept plan laws.parts es

  near_of : (a b : ℕ) → are_neighbours plan a b ≡ true → are_neighbours w.plan a b ≡ true
  near_of a b n = ap (λ (p : PlanValue). are_neighbours p a b) (seated plan es).planned ∙ n

  rests : (a : ℕ) → a < length plan.offices → IsAtRest plan a (office_at w a)
  rests a inside = laws.none plan a (office_at w a) c (rules a inside)

  empty : (a b : ℕ) → are_neighbours plan a b ≡ true → between pairs a b ≡ []
  empty a b n = nothing_left ((pairs a).link b).sending.waiting (((pairs b).link a).receiving.taken - ((pairs a).link b).sending.acked) (omega (arith, ways a b n))

  calm : (a : ℕ) → a < length plan.offices → bottles.is_drinking (pairs a).drinker.phase ≡ false
  calm a inside = no_work (office_at w a).agenda.current (is_working (office_at w a).agenda.current) (bottles.is_drinking (pairs a).drinker.phase) refl
      (drinks_where_it_works plan a (office_at w a).agenda.current (pairs a).drinker (k.sane a).current) (rests a inside (rule.Work usual_piece)) (rests a inside rule.Finish)

  tables_still : tables_rest.StandsStill plan (tables_of pairs) (λ a. is_thirsty (pairs a))
  tables_still = record {
    rests = λ a inside. record {
      hungers = rests a inside rule.Hungry;
      asks = λ v n. and_off (are_neighbours plan a v) (forks.may (pairs a).diner (forks.AskFork v)) (rests a inside (rule.AskFork v)) n;
      gives = λ v n. and_off (are_neighbours plan a v) (forks.may (pairs a).diner (forks.GiveFork v)) (rests a inside (rule.GiveFork v)) n;
      eats = rests a inside rule.Eat;
      leaves = rests a inside rule.Leave;
    };
    forks = λ u v n. ap (count_carrying Fork) (empty u v n);
    tokens = λ u v n. ap (count_carrying ForkToken) (empty u v n);
  }

  ends_near : (r u v : ℕ) → has_ends plan r u v ≡ true → are_neighbours plan u v ≡ true
  ends_near r u v e = ap (are_neighbours plan u) (sym (peer_is plan r u v e)) ∙ peer_near plan r u c (is_first_end plan r u v e)

  bars_still : bars_rest.StandsStill plan (bars_of pairs) (λ a. (pairs a).diner.held)
  bars_still = record {
    rests = λ a inside. record {
      rests = calm a inside;
      asks = λ r e. and_off (is_end plan r a) (bottles.may (pairs a).drinker (bottles.AskBottle r)) (rests a inside (rule.AskBottle r)) e;
      gives = λ r e. and_off (is_end plan r a) (bottles.may (pairs a).drinker (bottles.GiveBottle r (pairs a).diner.held)) (rests a inside (rule.GiveBottle r)) e;
      drinks = rests a inside rule.Drink;
    };
    bottles = λ r u v e. ap (bottles_in r) (empty u v (ends_near r u v e));
    tokens = λ r u v e. ap (count_carrying (BottleToken r)) (empty u v (ends_near r u v e));
  }

  -- who eats and is thirsty would lack a fork
  never_thirsty : (a : ℕ) → a < length plan.offices → is_thirsty (pairs a) ≡ true → ⊥
  never_thirsty a inside thirsty =
      let to = k.follows.tables in
      let bo = k.follows.bars in
      let eater : tables_rest.HasThirstyEater plan (tables_of pairs) (λ x. is_thirsty (pairs x)) =
      subst (λ (x : tables.World). tables_rest.HasThirstyEater plan x (λ y. is_thirsty (pairs y))) (sym to.led) (laws.wait plan to.events (λ x. is_thirsty (pairs x)) a accepted (subst (λ (x : tables.World). tables_rest.StandsStill plan x (λ y. is_thirsty (pairs y))) to.led tables_still) inside thirsty) in
      let e : ℕ = eater.office in
      let lacks : bars_rest.LacksAFork plan e (λ x. (pairs x).diner.held) =
      laws.lack plan bo.events (λ x. (pairs x).diner.held) e c (subst (λ (x : bars.World). bars_rest.StandsStill plan x (λ y. (pairs y).diner.held)) bo.led bars_still) eater.of_plan
      (subst (λ (x : bars.World). bottles.is_thirsty (x.drinker e).phase ≡ true) bo.led eater.thirsts) in
      let q : ℕ = lacks.neighbour in
      let mine : (pairs e).diner.held q ≡ true = laws.eaters plan es c e q eater.eats (near_of e q lacks.near) in
      let one : tables.HasOnePlaceEach plan (tables_of pairs) = subst (tables.HasOnePlaceEach plan) (sym to.led) (laws.placed plan to.events c) in
      omega (arith, one.fork e q, ap num lacks.near, ap num mine, ap num lacks.there)

  is_idle : (a : ℕ) → a < length plan.offices → unfinished (office_at w a).agenda ≡ 0
  is_idle a inside = idle plan a (office_at w a).agenda.current (office_at w a).agenda.queue (office_at w a).agenda.tickets (pairs a).drinker
      (at_rest (pairs a).drinker.phase (dry (is_thirsty (pairs a)) (never_thirsty a inside)) (calm a inside)) (k.sane a).current (rests a inside rule.Start)
    where
      dry : (b : Bool) → (b ≡ true → ⊥) → b ≡ false
      dry true f = absurd (f refl)
      dry false f = refl

-- ---- the step

-- of what first_of tells, who it is of
record FoundFor (step : ℕ → Option NextStep) (xs : List ℕ) (y : NextStep) : Type 0 where
  at : ℕ
  among : is_among xs at ≡ true
  is : step at ≡ Some y

found_for : (step : ℕ → Option NextStep) (xs : List ℕ) (y : NextStep) → first_of step xs ≡ Some y → FoundFor step xs y
found_for step [] y e = absurd cc
found_for step (x ∷ xs) y e = go (step x) refl (found_for step xs y) e
  where
    go : (o : Option NextStep) → step x ≡ o → (first_of step xs ≡ Some y → FoundFor step xs y) → option_or o (first_of step xs) ≡ Some y → FoundFor step (x ∷ xs) y
    go None h later k = let l = later k in record { at = l.at; among = or_right (x == l.at) (is_among xs l.at) l.among; is = l.is }
    go (Some z) h later k = record { at = x; among = or_left (x == x) (is_among xs x) (eq-eqb x x refl); is = h ∙ k }

none_for : (step : ℕ → Option NextStep) (xs : List ℕ) (v : ℕ) → first_of step xs ≡ None → is_among xs v ≡ true → step v ≡ None
none_for step [] v e h = absurd cc
none_for step (x ∷ xs) v e h = go (step x) refl e (none_for step xs v)
  where
    go : (o : Option NextStep) → step x ≡ o → option_or o (first_of step xs) ≡ None → (first_of step xs ≡ None → is_among xs v ≡ true → step v ≡ None) → step v ≡ None
    go None is k later = ⊎_elim (λ i. ap step (sym (eqb-true x v i)) ∙ is) (λ i. later k i) (or_cases (x == v) (is_among xs v) h)
    go (Some y) is k later = absurd cc

-- the offices of the plan, by number
in_range : (a n v : ℕ) → a ≤ v → v < a + n → is_among (range_with_len a n) v ≡ true
in_range a zero v le lt = absurd (omega (arith, le, lt))
in_range a (suc n) v le lt = ⊎_elim
    (λ e. or_left (a == v) (is_among (range_with_len (a + 1) n) v) (eq-eqb a v e))
    (λ ne. or_right (a == v) (is_among (range_with_len (a + 1) n) v) (in_range (a + 1) n v (after (cases_lt a v) ne) (omega (arith, lt))))
    (cases_eq a v)
  where
    after : (a < v) ⊎ (v ≤ a) → (a ≡ v → ⊥) → a + 1 ≤ v
    after (inl h) ne = omega (arith, h)
    after (inr h) ne = absurd (ne (omega (arith, h, le)))

below : (a n v : ℕ) → is_among (range_with_len a n) v ≡ true → v < a + n
below a zero v e = absurd cc
below a (suc n) v e = ⊎_elim
    (λ i. let same : a ≡ v = eqb-true a v i in omega (arith, same))
    (λ i. omega (arith, below (a + 1) n v i))
    (or_cases (a == v) (is_among (range_with_len (a + 1) n) v) e)

rule_is : (w : World) (a : ℕ) (step : NextStep) → a < length w.plan.offices → rule_at w a ≡ Some step → IsStep w step
rule_is w a step lt e = go (next_rule w.plan a (office_at w a)) refl e
  where
    go : (o : Option Rule) → next_rule w.plan a (office_at w a) ≡ o → option_map (next.Rule a) o ≡ Some step → IsStep w step
    go None h k = absurd cc
    go (Some r) h k = let same : next.Rule a r ≡ step = cc in subst (IsStep w) same (record { of_plan = lt; guard = found_passes (may w.plan a (office_at w a)) (rules_in_order w.plan a) r h })

message_is : (w : World) (a b : ℕ) (step : NextStep) → are_neighbours w.plan a b ≡ true → message_to w a b ≡ Some step → IsStep w step
message_is w a b step near e = go (nat_lt (taken_of w a b) (sent_by w a b)) refl e
  where
    go : (x : Bool) → nat_lt (taken_of w a b) (sent_by w a b) ≡ x → cond x (Some (next.Message a b (taken_of w a b + 1))) None ≡ Some step → IsStep w step
    go false h k = absurd cc
    go true h k =
        let more : taken_of w a b < sent_by w a b = ltb-true (taken_of w a b) (sent_by w a b) h in
        let same : next.Message a b (taken_of w a b + 1) ≡ step = cc in
        subst (IsStep w) same (record { near = near; next = refl; sent = omega (arith, more) })

no_rule : (w : World) (a : ℕ) → rule_at w a ≡ None → next_rule w.plan a (office_at w a) ≡ None
no_rule w a e = go (next_rule w.plan a (office_at w a)) e
  where
    go : (o : Option Rule) → option_map (next.Rule a) o ≡ None → o ≡ None
    go None k = refl
    go (Some r) k = absurd cc

no_message : (w : World) (a b : ℕ) → message_to w a b ≡ None → sent_by w a b ≤ taken_of w a b
no_message w a b e = go (nat_lt (taken_of w a b) (sent_by w a b)) refl e
  where
    go : (x : Bool) → nat_lt (taken_of w a b) (sent_by w a b) ≡ x → cond x (Some (next.Message a b (taken_of w a b + 1))) None ≡ None → sent_by w a b ≤ taken_of w a b
    go true h k = absurd cc
    go false h k = ⊎_elim (λ lt. absurd (clash (nat_lt (taken_of w a b) (sent_by w a b)) (lt-ltb (taken_of w a b) (sent_by w a b) lt) h)) (λ le. le) (cases_lt (taken_of w a b) (sent_by w a b))

-- among an office's neighbours are neighbours alone
near_of_list : (plan : PlanValue) (a b : ℕ) → is_among (neighbours_of plan a) b ≡ true → are_neighbours plan a b ≡ true
near_of_list plan a b = among_all (neighbours_of plan a) b (filter_passes (are_neighbours plan a) (range_with_len 0 (length plan.offices)))
  where
    among_all : (xs : List ℕ) (v : ℕ) → All (λ x. are_neighbours plan a x ≡ true) xs → is_among xs v ≡ true → are_neighbours plan a v ≡ true
    among_all [] v h e = absurd cc
    among_all (x ∷ xs) v h e = ⊎_elim
        (λ i. ap (are_neighbours plan a) (sym (eqb-true x v i)) ∙ All-head (λ y. are_neighbours plan a y ≡ true) x xs h)
        (λ i. among_all xs v (All-tail (λ y. are_neighbours plan a y ≡ true) x xs h) i)
        (or_cases (x == v) (is_among xs v) e)

pub never_stuck : PartsLaws → tables.EachHasOnePlace → Always EatersHaveTheirForks → tables_rest.TheThirstyWaitForAnEater → bars_rest.TheThirstyLackAFork → NoneNextIsAtRest → NeverStuck
never_stuck parts placed eaters wait lack none plan es accepted =
    by (are_all_finished w) (first_office w (rule_at w)) (first_office w (message_from w)) refl refl refl
  where
    w : World
    w = run_of (opening plan) es

    seat : IsSeated plan w
    seat = seated plan es

    laws : ThePartsLaws
    laws = record { parts = parts; placed = placed; eaters = eaters; wait = wait; lack = lack; none = none }

    size : length w.plan.offices ≡ length plan.offices
    size = ap (λ (p : PlanValue). length p.offices) seat.planned

    -- an office that the plan hasn't has no session
    strange : (a : ℕ) → length plan.offices ≤ a → unfinished (office_at w a).agenda ≡ 0
    strange a past = ap (λ x. unfinished (office_of x).agenda) (get_or_past w.sites a (silent w.plan a) (omega (arith, past, seat.size))) ∙ ap (λ (o : Office). unfinished o.agenda) (office_empty w.plan a)

    each : ((a : ℕ) → a < length plan.offices → unfinished (office_at w a).agenda ≡ 0) → AllAreFinished w
    each h a = ⊎_elim (h a) (strange a) (cases_lt a (length plan.offices))

    finished : are_all_finished w ≡ true → (a : ℕ) → a < length plan.offices → unfinished (office_at w a).agenda ≡ 0
    finished h a lt = eqb-true (unfinished (office_at w a).agenda) 0 (AllPass-from_list_all (λ (s : Site). unfinished (office_of s).agenda == 0) w.sites h a (silent w.plan a) (omega (arith, lt, seat.size)))

    near_in : (a b : ℕ) → are_neighbours plan a b ≡ true → are_neighbours w.plan a b ≡ true
    near_in a b n = ap (λ (p : PlanValue). are_neighbours p a b) seat.planned ∙ n

    in_plan : (a : ℕ) → a < length plan.offices → is_among (range_with_len 0 (length w.plan.offices)) a ≡ true
    in_plan a lt = in_range 0 (length w.plan.offices) a (omega arith) (omega (arith, lt, size))

    of_plan : (a : ℕ) → is_among (range_with_len 0 (length w.plan.offices)) a ≡ true → a < length w.plan.offices
    of_plan a e = omega (arith, below 0 (length w.plan.offices) a e)

    none_in : (a b : ℕ) → first_office w (message_from w) ≡ None → are_neighbours plan a b ≡ true → sent_by w a b ≤ taken_of w a b
    none_in a b m n =
        let from : message_from w a ≡ None = none_for (message_from w) (range_with_len 0 (length w.plan.offices)) a m (in_plan a (near_within plan b a accepted.consistent (near_both plan b a ∙ n))) in
        no_message w a b (none_for (message_to w a) (neighbours_of w.plan a) b from
        (subst (λ (p : PlanValue). is_among (neighbours_of p a) b ≡ true) (sym seat.planned) (among_neighbours plan a b accepted.consistent n)))

    by : (b : Bool) (o1 o2 : Option NextStep) → are_all_finished w ≡ b → first_office w (rule_at w) ≡ o1 → first_office w (message_from w) ≡ o2 → IsStep w (cond b next.AllFinished (unwrap_or (option_or o1 o2) next.AllFinished))
    by true o1 o2 h r m = each (finished h)
    by false (Some step) o2 h r m = let f = found_for (rule_at w) (range_with_len 0 (length w.plan.offices)) step r in rule_is w f.at step (of_plan f.at f.among) f.is
    by false None (Some step) h r m =
        let f = found_for (message_from w) (range_with_len 0 (length w.plan.offices)) step m in
        let g = found_for (message_to w f.at) (neighbours_of w.plan f.at) step f.is in
        message_is w f.at g.at step (near_of_list w.plan f.at g.at g.among) g.is
    by false None None h r m = each (is_idle plan es laws accepted
        (λ a lt. ap (λ (p : PlanValue). next_rule p a (office_at w a)) (sym seat.planned) ∙ no_rule w a (none_for (rule_at w) (range_with_len 0 (length w.plan.offices)) a r (in_plan a lt)))
        (λ a b n. none_in a b m n))
