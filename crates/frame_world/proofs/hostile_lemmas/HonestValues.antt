-- The bottles between offices that keep to the rules have the values that sessions there wrote, and sessions read these.
use Rattle.std.proofs.Common.{◌≡◌, ℕ, zero, suc, ◌<◌, Bool, true, false, cond, List, [], ◌∷◌, ◌++◌, length, map, Option, None, Some, Ok, refl, sym, ap, subst, ◌∙◌, arith, inl, inr, ◌⊎◌, ⊎_elim, append-nil}
use Rattle.std.specs.Prelude.{nat_lt, slice_get, ◌==◌, ◌&&◌, is_some, unwrap_or, filter, option_map, All}
use Rattle.std.specs.Option.{option_map_or}
use Rattle.std.proofs.lemmas.Bool.{and_parts, or_left, or_right, eq-eqb}
use Rattle.std.proofs.lemmas.List.Elements.{All-nil, All-cons, filter-append}
use Rattle.bottle_values.specs.declared.Value.{Value}
use Rattle.bottle_values.specs.Operations.{nought}
use Rattle.bottle_values.specs.Lists.{is_among}
use Rattle.bottle_values.specs.Maps.{put, reads_of}
use Rattle.bottle_values.specs.MapLaws.{put_cases}
use Rattle.frame_codec.specs.declared.message.Msg.{Msg}
use Rattle.frame_codec.specs.Frame.{Fields}
use Rattle.office_map.specs.declared.entries.RecordEntry.{RecordEntry}
use Rattle.office_map.specs.PlanValue.{PlanValue, peer, records_of}
use Rattle.office_map.specs.Consistency.{IsConsistent}
use Rattle.session_meaning.specs.declared.ending.Ending.{Ending}
use Rattle.session_meaning.specs.Meaning.{alone}
use Rattle.session_meaning.specs.Length.{length_on}
use Rattle.session_meaning.specs.Laws.{WritesWhatItHas, TellsWhatItRead}
use Rattle.session_machine.specs.Pieces.{ending_after}
use Rattle.serial_replay.specs.Serial.{start_map, ending_on}
use Rattle.dining_core.specs.Diners as forks
use Rattle.drinking_core.specs.Drinkers.{is_drinking, holds, value_after}
use Rattle.drinking_core.specs.Drinkers as bottles
use Rattle.drinking_core.specs.Worlds as bars
use Rattle.site_core.specs.declared.agendas.session.Session.{Session}
use Rattle.site_core.specs.agendas.Agenda.{Current, Idle, Gathering, Working, writes_of, is_waiting}
use Rattle.office_journal.specs.declared.rule.Rule.TheVariants as rule
use Rattle.office_journal.specs.declared.event.Event as office
use Rattle.office_journal.specs.declared.event.Event.TheVariants as event
use Rattle.office_journal.specs.declared.reply.Reply.{Reply}
use Rattle.site_core.specs.neighbours.Pairs.{Pairs, arrival_of, follows}
use Rattle.site_core.specs.Offices.{Office, value_in, answer}
use Rattle.frame_world.specs.Worlds.{Finished, ended_as, ended, finished_by}
use Rattle.frame_world.specs.Ways.{bars_of}
use Rattle.frame_world.specs.WorldStates.{State, starting, after_reply, IsAccepted}
use Rattle.frame_world.proofs.OneLink.{brought}
use Rattle.frame_world.proofs.Answers.{PairStep, Stays, ByFork, ByBottle, ByFrame, ByKept, step_of, withdrawal_step, pair_after, all_after, MayStep, rule_alone, was_done, is_step}
use Rattle.frame_world.proofs.BarsFollow.{bottle_event}
use Rattle.frame_world.proofs.Following.{moved, pairs_in, through_moves, pairs_after}
use Rattle.frame_world.proofs.PlacesAndForks.{all_at}
use Rattle.frame_world.proofs.Sessions.{IsCurrent, IsAtWork, IsSane, needs, sane_on, sane_at_start, not_true}
use Rattle.frame_world.proofs.SerialRun.{unwritten, written_needed}
use Rattle.frame_world.proofs.SerialSessions.{IsNoEnd, values_stay, nothing_ends, held_value, not_here, first_values}
use Rattle.frame_world.specs.hostile.Claims.{has_honest_ends, written}
use Rattle.frame_world.proofs.hostile_lemmas.Masks.{masks, masked_seen, masks_unseen, first_bottle, shown_if, shown_writes, written_shown}
use Rattle.frame_world.proofs.hostile_lemmas.MaskedSteps.{IsOwn, shown_step}
use Rattle.frame_world.proofs.hostile_lemmas.MaskedPlans.{bars_start}
use Rattle.frame_world.proofs.hostile_lemmas.MaskedWorlds.{Laws, Shows, ShowsState, ComesTrue, unseen_on, shows_step, bars_step, with_new, step_own, comes_true, shows_on, shows_start}

-- the laws of the parts that the values rest on, besides
pub record ValueLaws : Type 0 where
  pub records : bars.RecordsStay
  pub begin : bars.BottlesStartWithTheirValues
  pub stay : bars.ValuesStay
  pub finishing : bars.FinishingWrites
  pub written : WritesWhatItHas
  pub read : TellsWhatItRead

-- ---- what finished at offices that keep to the rules

abbrev pub there : (ℕ → Bool) → List Finished → List Finished
there h fs = filter (λ (f : Finished). h f.outcome.office) fs

pub written_more : (r : ℕ) (x : Value) (fs : List Finished) (g : Finished) → written r x (fs ++ g ∷ []) ≡ value_after g.outcome.ending.writes r (written r x fs)
written_more r x [] g = refl
written_more r x (f ∷ fs) g = written_more r (value_after f.outcome.ending.writes r x) fs g

abbrev pub finished_one : ℕ → Session → Ending → Finished
finished_one a s e = record { program = s.program; outcome = record { office = a; ticket = s.ticket; ending = e } }

-- the sessions of others aren't among them
ended_unseen : (h : ℕ → Bool) (a : ℕ) (c : Current) → h a ≡ false → there h (ended a c) ≡ []
ended_unseen h a Idle e = refl
ended_unseen h a (Gathering s) e = refl
ended_unseen h a (Working s reads done) e = by (ending_after s.program reads done)
  where
    by : (o : Option Ending) → there h (ended_as a s o) ≡ []
    by None = refl
    by (Some x) = ap (λ b. cond b (finished_one a s x ∷ []) []) e

finished_unseen : (h : ℕ → Bool) (a : ℕ) (c : Current) (ev : office.Event) → h a ≡ false → there h (finished_by a c ev) ≡ []
finished_unseen h a c (event.Submit p) e = refl
finished_unseen h a c (event.Send v i) e = refl
finished_unseen h a c (event.Took f) e = refl
finished_unseen h a c (event.Withdraw t) e = refl
finished_unseen h a c (event.Do rule.Start) e = refl
finished_unseen h a c (event.Do rule.Hungry) e = refl
finished_unseen h a c (event.Do (rule.AskFork v)) e = refl
finished_unseen h a c (event.Do (rule.GiveFork v)) e = refl
finished_unseen h a c (event.Do rule.Eat) e = refl
finished_unseen h a c (event.Do rule.Leave) e = refl
finished_unseen h a c (event.Do (rule.AskBottle r)) e = refl
finished_unseen h a c (event.Do (rule.GiveBottle r)) e = refl
finished_unseen h a c (event.Do rule.Drink) e = refl
finished_unseen h a c (event.Do (rule.Work n)) e = refl
finished_unseen h a c (event.Do rule.Finish) e = ended_unseen h a c e

-- ---- steps that finish nothing

abbrev is_finish : PairStep → Bool
is_finish (ByBottle (bottles.Finish writes)) = true
is_finish _ = false

ends_nothing : (h : ℕ → Bool) (p : PlanValue) (a : ℕ) (q : Pairs) (step : PairStep) → is_finish step ≡ false → IsNoEnd (bottle_event a q (shown_step h p step))
ends_nothing h p a q Stays n = tt
ends_nothing h p a q (ByFork (forks.BecomeHungry thirsty)) n = tt
ends_nothing h p a q (ByFork (forks.AskFork v)) n = by (h v)
  where
    by : (b : Bool) → IsNoEnd (bottle_event a q (shown_if b (ByFork (forks.AskFork v))))
    by true = tt
    by false = tt
ends_nothing h p a q (ByFork (forks.GiveFork v)) n = by (h v)
  where
    by : (b : Bool) → IsNoEnd (bottle_event a q (shown_if b (ByFork (forks.GiveFork v))))
    by true = tt
    by false = tt
ends_nothing h p a q (ByFork forks.Eat) n = tt
ends_nothing h p a q (ByFork (forks.Leave thirsty)) n = tt
ends_nothing h p a q (ByBottle (bottles.Start session)) n = λ plan w. refl
ends_nothing h p a q (ByBottle (bottles.AskBottle r)) n = by (has_honest_ends h p r)
  where
    by : (b : Bool) → IsNoEnd (bottle_event a q (shown_if b (ByBottle (bottles.AskBottle r))))
    by true = λ plan w. refl
    by false = tt
ends_nothing h p a q (ByBottle (bottles.GiveBottle r held)) n = by (has_honest_ends h p r)
  where
    by : (b : Bool) → IsNoEnd (bottle_event a q (shown_if b (ByBottle (bottles.GiveBottle r held))))
    by true = λ plan w. refl
    by false = tt
ends_nothing h p a q (ByBottle bottles.Drink) n = λ plan w. refl
ends_nothing h p a q (ByBottle (bottles.Finish writes)) n = absurd cc
ends_nothing h p a q (ByBottle bottles.Withdraw) n = λ plan w. refl
ends_nothing h p a q (ByFrame f) n = by (h f.from)
  where
    by : (b : Bool) → IsNoEnd (bottle_event a q (shown_if b (ByFrame f)))
    by true = nothing_ends a f.from (brought (arrival_of q f))
    by false = tt
ends_nothing h p a q (ByKept v o) n = by (h v)
  where
    by : (b : Bool) → IsNoEnd (bottle_event a q (shown_if b (ByKept v o)))
    by true = nothing_ends a v o
    by false = tt

-- each bottle that is shown keeps its value
abbrev KeepValues : PlanValue → (ℕ → Bool) → (ℕ → Pairs) → (ℕ → Pairs) → Type 0
KeepValues p h qs qs' = (r : ℕ) (v : Value) → bars.HasValue (bars_of (masks h p qs)) r v → bars.HasValue (bars_of (masks h p qs')) r v

keep_unseen : (p : PlanValue) (h : ℕ → Bool) (qs : ℕ → Pairs) (a : ℕ) (q : Pairs) → h a ≡ false → KeepValues p h qs (put qs a q)
keep_unseen p h qs a q e = λ r v has. subst (λ x. bars.HasValue (bars_of x) r v) (sym (masks_unseen h p qs a q e)) has

record Stay (p : PlanValue) (h : ℕ → Bool) (frames : List Fields) (first qs : ℕ → Pairs) : Type 0 where
  shows : Shows p h frames qs
  values : KeepValues p h first qs

stay_step : (p : PlanValue) (h : ℕ → Bool) (frames : List Fields) (first qs : ℕ → Pairs) (a : ℕ) (step : PairStep) → Laws → bars.ValuesStay → IsConsistent p → nat_lt a (length p.offices) ≡ true →
    IsOwn p a step → MayStep p a (qs a) step → ComesTrue p h qs a step → is_finish step ≡ false → Stay p h frames first qs → Stay p h frames first (moved qs a step)
stay_step p h frames first qs a step laws stay c inside own guard comes none s = record { shows = shows_step p h frames qs a step laws c inside s.shows own guard comes; values = by (h a) refl }
  where
    by : (b : Bool) → h a ≡ b → KeepValues p h first (moved qs a step)
    by true e = λ r v has. values_stay p (bars_of (masks h p qs)) (bars_of (masks h p (moved qs a step))) (bottle_event a (masks h p qs a) (shown_step h p step)) r v stay
        (ends_nothing h p a (masks h p qs a) step none) (bars_step p h frames qs a step laws c inside s.shows own guard comes e) (s.values r v has)
    by false e = λ r v has. keep_unseen p h qs a (pair_after (qs a) step) e r v (s.values r v has)

event_keeps : (p : PlanValue) (h : ℕ → Bool) (s s' : State) → Laws → bars.ValuesStay → IsConsistent p → ShowsState p h s → (i : IsAccepted p s s') → is_finish (step_of (s.office i.place) i.event) ≡ false → KeepValues p h (pairs_in s) (pairs_in s')
event_keeps p h s s' laws stay c x i none = subst (KeepValues p h (pairs_in s)) (sym (pairs_after p s s' i)) all.values
  where
    a : ℕ
    a = i.place

    step : PairStep
    step = step_of (s.office i.place) i.event

    more : Shows p h s'.frames (pairs_in s)
    more = with_new p h s s' x i

    kept_on : (qs : ℕ → Pairs) (v : ℕ) (o : Option Msg) → follows p a v (qs a) ≡ o → Stay p h s'.frames (pairs_in s) qs → Stay p h s'.frames (pairs_in s) (moved qs a (ByKept v o))
    kept_on qs v o e y = stay_step p h s'.frames (pairs_in s) qs a (ByKept v o) laws stay c i.inside tt e tt refl y

    own_step : Stay p h s'.frames (pairs_in s) (moved (pairs_in s) a step)
    own_step = by (h a) refl
      where
        by : (b : Bool) → h a ≡ b → Stay p h s'.frames (pairs_in s) (moved (pairs_in s) a step)
        by true e = stay_step p h s'.frames (pairs_in s) (pairs_in s) a step laws stay c i.inside
            (step_own p i.place (s.office i.place) i.event i.reply i.new i.answered) (is_step p i.place (s.office i.place) i.event i.reply i.new i.answered).may
            (comes_true p h s i.place i.event e x i.comes) none (record { shows = more; values = λ r v has. has })
        by false e = record { shows = unseen_on p h s'.frames (pairs_in s) a step e more; values = keep_unseen p h (pairs_in s) a (pair_after (pairs_in s a) step) e }

    all : Stay p h s'.frames (pairs_in s) (put (pairs_in s) a (all_after p a (pairs_in s a) step))
    all = through_moves p a (Stay p h s'.frames (pairs_in s)) kept_on (pairs_in s) step own_step

-- ---- what is kept

-- what a session read of records between such offices, where these had finished before it
abbrev pub WasLeft : PlanValue → (ℕ → Bool) → List Finished → List (ℕ × Value) → Type 0
WasLeft p h before reads = All (λ (y : ℕ × Value). has_honest_ends h p y.0 ≡ true → y.1 ≡ written y.0 (start_map p y.0) before) reads

pub record Told (p : PlanValue) (h : ℕ → Bool) (s : State) : Type 0 where
  pub values : (r : ℕ) → has_honest_ends h p r ≡ true → bars.HasValue (bars_of (masks h p (pairs_in s))) r (written r (start_map p r) (there h s.finished))
  pub reads : (before later : List Finished) (f : Finished) → there h s.finished ≡ before ++ f ∷ later → WasLeft p h before f.outcome.ending.reads

pub record Keeps (p : PlanValue) (h : ℕ → Bool) (s : State) : Type 0 where
  pub shows : ShowsState p h s
  pub sane : (a : ℕ) → h a ≡ true → IsSane p a (s.office a)
  pub told : Told p h s

-- an office that keeps to the rules has the plan's records and other ends
records_there : (p : PlanValue) (h : ℕ → Bool) (s : State) (a : ℕ) → bars.RecordsStay → ShowsState p h s → h a ≡ true → (pairs_in s a).drinker.records ≡ records_of p a
records_there p h s a law x e = sym (ap (λ (q : Pairs). q.drinker.records) (masked_seen h p a (pairs_in s a) e)) ∙ subst (λ (w : bars.World). (w.drinker a).records ≡ records_of p a) (sym x.bars.led) (law p x.bars.events a)

others_there : (p : PlanValue) (h : ℕ → Bool) (s : State) (a : ℕ) → bars.PeersStay → ShowsState p h s → h a ≡ true → (r : ℕ) → (pairs_in s a).drinker.peer r ≡ peer p a r
others_there p h s a law x e r = sym (ap (λ (q : Pairs). q.drinker.peer r) (masked_seen h p a (pairs_in s a) e)) ∙ subst (λ (w : bars.World). (w.drinker a).peer r ≡ peer p a r) (sym x.bars.led) (law p x.bars.events a r)

-- a bottle between such offices is shown as it is
pub bottle_there : (p : PlanValue) (h : ℕ → Bool) (qs : ℕ → Pairs) (a r : ℕ) → h a ≡ true → has_honest_ends h p r ≡ true → (masks h p qs a).drinker.bottle r ≡ (qs a).drinker.bottle r
bottle_there p h qs a r e t = ap (λ (q : Pairs). q.drinker.bottle r) (masked_seen h p a (qs a) e) ∙ ap (λ b. cond b ((qs a).drinker.bottle r) (first_bottle p a r)) t

-- ---- an event that finishes nothing there

none_more : (p : PlanValue) (h : ℕ → Bool) (s s' : State) → there h s'.finished ≡ there h s.finished → KeepValues p h (pairs_in s) (pairs_in s') → Told p h s → Told p h s'
none_more p h s s' same stay told = record {
  values = λ r ends. subst (λ fs. bars.HasValue (bars_of (masks h p (pairs_in s'))) r (written r (start_map p r) fs)) (sym same) (stay r (written r (start_map p r) (there h s.finished)) (told.values r ends));
  reads = λ before later f is. told.reads before later f (sym same ∙ is);
}

quiet : (p : PlanValue) (h : ℕ → Bool) (s s' : State) (a : ℕ) (ev : office.Event) (r : Reply) (o : Office) → s' ≡ after_reply s a ev r o → finished_by a (s.office a).agenda.current ev ≡ [] →
    KeepValues p h (pairs_in s) (pairs_in s') → Told p h s → Told p h s'
quiet p h s s' a ev r o led none stay told = none_more p h s s' (ap (there h) same) stay told
  where
    same : s'.finished ≡ s.finished
    same = ap (λ (k : State). k.finished) led ∙ ap (λ l. s.finished ++ l) none ∙ append-nil s.finished

-- whatever an office does that keeps to no rule
unseen_told : (p : PlanValue) (h : ℕ → Bool) (s s' : State) (i : IsAccepted p s s') → h i.place ≡ false → Told p h s → Told p h s'
unseen_told p h s s' i e told = none_more p h s s' same
    (subst (KeepValues p h (pairs_in s)) (sym (pairs_after p s s' i)) (keep_unseen p h (pairs_in s) i.place (all_after p i.place (pairs_in s i.place) (step_of (s.office i.place) i.event)) e)) told
  where
    new : List Finished
    new = finished_by i.place (s.office i.place).agenda.current i.event

    same : there h s'.finished ≡ there h s.finished
    same = ap (λ (k : State). there h k.finished) i.led ∙ filter-append (λ (f : Finished). h f.outcome.office) s.finished new ∙ ap (λ l. there h s.finished ++ l) (finished_unseen h i.place (s.office i.place).agenda.current i.event e) ∙ append-nil (there h s.finished)

-- ---- the end of a session

-- one more at the end: what stands somewhere is that one, or stood there
record IsLast (xs : List Finished) (g : Finished) (before : List Finished) (f : Finished) : Type 0 where
  rest : before ≡ xs
  last : f ≡ g

record WasThere (xs : List Finished) (before : List Finished) (f : Finished) : Type 0 where
  later : List Finished
  is : xs ≡ before ++ f ∷ later

after_one : (x b : Finished) (xs bs : List Finished) (g f : Finished) → x ≡ b → IsLast xs g bs f ⊎ WasThere xs bs f → IsLast (x ∷ xs) g (b ∷ bs) f ⊎ WasThere (x ∷ xs) (b ∷ bs) f
after_one x b xs bs g f head =
    ⊎_elim
    (λ l. inl (record { rest = ap (λ y. y ∷ bs) (sym head) ∙ ap (λ ys. x ∷ ys) l.rest; last = l.last }))
    (λ w. inr (record { later = w.later; is = ap (λ y. y ∷ xs) head ∙ ap (λ ys. b ∷ ys) w.is }))

last_or_there : (xs : List Finished) (g : Finished) (before later : List Finished) (f : Finished) → xs ++ g ∷ [] ≡ before ++ f ∷ later → IsLast xs g before f ⊎ WasThere xs before f
last_or_there [] g [] later f e = let same : g ≡ f = cc in inl (record { rest = refl; last = sym same })
last_or_there [] g (b ∷ []) later f e = absurd cc
last_or_there [] g (b ∷ c ∷ bs) later f e = absurd cc
last_or_there (x ∷ xs) g [] later f e = let same : x ≡ f = cc in inr (record { later = xs; is = ap (λ y. y ∷ xs) same })
last_or_there (x ∷ xs) g (b ∷ bs) later f e =
    let head : x ≡ b = cc in
    let tail : xs ++ g ∷ [] ≡ bs ++ f ∷ later = cc in
    after_one x b xs bs g f head (last_or_there xs g bs later f tail)

-- of all that is read
all_reads : (P : ℕ × Value → Type 0) (rs : List ℕ) (m : ℕ → Value) → ((r : ℕ) → is_among rs r ≡ true → P (r, m r)) → All P (reads_of rs m)
all_reads P [] m each = All-nil P
all_reads P (r ∷ rs) m each = All-cons P (r, m r) (reads_of rs m) (each r (or_left (r == r) (is_among rs r) (eq-eqb r r refl))) (all_reads P rs m (λ q i. each q (or_right (r == q) (is_among rs q) i)))

module _ (p : PlanValue) (h : ℕ → Bool) (s s' : State) (a : ℕ) (x : Session) (reads : List (ℕ × Value)) (done : ℕ) (end : Ending)
    (laws : Laws)
    (more : ValueLaws)
    (c : IsConsistent p)
    (inside : nat_lt a (length p.offices) ≡ true)
    (e : h a ≡ true)
    (k : Keeps p h s)
    (work : IsAtWork p a x reads (pairs_in s a).drinker)
    (ends : ending_after x.program reads done ≡ Some end)
    (may : bottles.may (pairs_in s a).drinker (bottles.Finish (Some end.writes)) ≡ true)
    (finishes : s'.finished ≡ s.finished ++ finished_one a x end ∷ [])
    (left : pairs_in s' ≡ moved (pairs_in s) a (ByBottle (bottles.Finish (Some end.writes))))
  where
    abbrev t : ℕ → Bool
    t = has_honest_ends h p

    abbrev w : bars.World
    w = bars_of (masks h p (pairs_in s))

    ending_told : (b : Bool) → cond b None (Some (alone x.program reads)) ≡ Some end → end ≡ alone x.program reads
    ending_told true i = absurd cc
    ending_told false i = cc

    ending_is : end ≡ ending_on x.program (value_in (pairs_in s a).drinker)
    ending_is = ending_told (nat_lt done (length_on x.program reads)) ends ∙ ap (alone x.program) work.values

    -- what is written is held
    writes_held : (r : ℕ) → is_among (map (λ (y : ℕ × Value). y.0) end.writes) r ≡ true → holds (pairs_in s a).drinker r ≡ true
    writes_held r i = all_at (holds (pairs_in s a).drinker) (needs x) r work.held
        (written_needed more.written x.program (value_in (pairs_in s a).drinker) r (ap (λ (y : Ending). is_among (map (λ (z : ℕ × Value). z.0) y.writes) r) (sym ending_is) ∙ i))

    new_value : (r : ℕ) (v : Value) → t r ≡ true → (has : bars.HasValue w r v) → cond (bars.is_with has.spot a) (value_after (shown_writes t end.writes) r v) v ≡ value_after end.writes r v
    new_value r v shown has = by (bars.is_with has.spot a) refl
      where
        by : (b : Bool) → bars.is_with has.spot a ≡ b → cond b (value_after (shown_writes t end.writes) r v) v ≡ value_after end.writes r v
        by true i = written_shown t end.writes (λ q. v) (λ q. v) r shown refl
        by false i = ⊎_elim
            (λ among. absurd (not_true (holds (pairs_in s a).drinker r) (writes_held r among) (ap is_some (sym (bottle_there p h (pairs_in s) a r e shown)) ∙ not_here w a r v has i)))
            sym
            (unwritten end.writes (λ q. v) r)

    may_there : bars.finishes p w (bars.Do a (bottles.Finish (Some (shown_writes t end.writes)))) ≡ true
    may_there = ap (λ b. b && bottles.may (w.drinker a) (bottles.Finish (Some (shown_writes t end.writes)))) inside
        ∙ ap (λ (q : Pairs). bottles.may q.drinker (bottles.Finish (Some (shown_writes t end.writes)))) (masked_seen h p a (pairs_in s a) e) ∙ may

    bars_are : bars_of (masks h p (pairs_in s')) ≡ bars.happens p w (bars.Do a (bottles.Finish (Some (shown_writes t end.writes))))
    bars_are = ap (λ qs. bars_of (masks h p qs)) left ∙ bars_step p h s.frames (pairs_in s) a (ByBottle (bottles.Finish (Some end.writes))) laws c inside k.shows tt may tt e

    finished_last : there h s'.finished ≡ there h s.finished ++ finished_one a x end ∷ []
    finished_last = ap (there h) finishes ∙ filter-append (λ (f : Finished). h f.outcome.office) s.finished (finished_one a x end ∷ []) ∙ ap (λ b. there h s.finished ++ cond b (finished_one a x end ∷ []) []) e

    value_then : (r : ℕ) → t r ≡ true → bars.HasValue w r (written r (start_map p r) (there h s.finished)) → bars.HasValue (bars_of (masks h p (pairs_in s'))) r (written r (start_map p r) (there h s'.finished))
    value_then r shown has =
        let v : Value = written r (start_map p r) (there h s.finished) in
        let same : written r (start_map p r) (there h s'.finished) ≡ value_after end.writes r v = ap (written r (start_map p r)) finished_last ∙ written_more r (start_map p r) (there h s.finished) (finished_one a x end) in
        record {
          spot = has.spot;
          at = subst (λ y. bars.IsBottleAt y r has.spot (written r (start_map p r) (there h s'.finished))) (sym bars_are)
              (subst (bars.IsBottleAt (bars.happens p w (bars.Do a (bottles.Finish (Some (shown_writes t end.writes))))) r has.spot) (new_value r v shown has ∙ sym same)
              (more.finishing p w a (shown_writes t end.writes) r has.spot v may_there has.at));
        }

    -- what it read is what was left
    read_then : WasLeft p h (there h s.finished) end.reads
    read_then = subst (WasLeft p h (there h s.finished)) (sym (ap (λ (y : Ending). y.reads) ending_is ∙ more.read x.program (reads_of (needs x) (value_in (pairs_in s a).drinker))))
        (all_reads (λ (y : ℕ × Value). t y.0 ≡ true → y.1 ≡ written y.0 (start_map p y.0) (there h s.finished)) (needs x) (value_in (pairs_in s a).drinker) (λ r i shown.
        ap (λ o. unwrap_or o nought)
        (sym (bottle_there p h (pairs_in s) a r e shown) ∙ held_value w a r (written r (start_map p r) (there h s.finished)) (k.told.values r shown) (ap is_some (bottle_there p h (pairs_in s) a r e shown) ∙ all_at (holds (pairs_in s a).drinker) (needs x) r work.held i))))

    pub told_then : Told p h s'
    told_then = record {
      values = λ r shown. value_then r shown (k.told.values r shown);
      reads = λ before later f is. ⊎_elim
          (λ l. subst (λ fs. WasLeft p h fs f.outcome.ending.reads) (sym l.rest) (subst (λ (g : Finished). WasLeft p h (there h s.finished) g.outcome.ending.reads) (sym l.last) read_then))
          (λ o. k.told.reads before o.later f o.is)
          (last_or_there (there h s.finished) (finished_one a x end) before later f (sym finished_last ∙ is));
    }

-- an accepted Finish
finish_told : (p : PlanValue) (h : ℕ → Bool) (s s' : State) (a : ℕ) (c : Current) → Laws → ValueLaws → IsConsistent p → nat_lt a (length p.offices) ≡ true → h a ≡ true → Keeps p h s → IsCurrent p a c (pairs_in s a).drinker →
    bottles.may (pairs_in s a).drinker (bottles.Finish (writes_of c)) ≡ true → s'.finished ≡ s.finished ++ ended a c → pairs_in s' ≡ moved (pairs_in s) a (ByBottle (bottles.Finish (writes_of c))) → Told p h s'
finish_told p h s s' a Idle laws more c inside e k is may fin left = absurd (not_true false (and_parts (is_drinking (pairs_in s a).drinker.phase) false may).1 refl)
finish_told p h s s' a (Gathering x) laws more c inside e k is may fin left = absurd (not_true false (and_parts (is_drinking (pairs_in s a).drinker.phase) false may).1 refl)
finish_told p h s s' a (Working x reads done) laws more c inside e k is may fin left = by (ending_after x.program reads done) refl may fin left
  where
    writes : Option Ending → Option (List (ℕ × Value))
    writes o = option_map (λ (y : Ending). y.writes) o

    by : (o : Option Ending) → ending_after x.program reads done ≡ o → bottles.may (pairs_in s a).drinker (bottles.Finish (writes o)) ≡ true → s'.finished ≡ s.finished ++ ended_as a x o →
        pairs_in s' ≡ moved (pairs_in s) a (ByBottle (bottles.Finish (writes o))) → Told p h s'
    by None i m f l = absurd (not_true false (and_parts (is_drinking (pairs_in s a).drinker.phase) false m).1 refl)
    by (Some end) i m f l = told_then p h s s' a x reads done end laws more c inside e k is i m f l

-- ---- any event

told_on : (p : PlanValue) (h : ℕ → Bool) (s s' : State) → Laws → ValueLaws → IsConsistent p → Keeps p h s → IsAccepted p s s' → Told p h s'
told_on p h s s' laws more c k i = of (h i.place) refl
  where
    still : (ev : office.Event) → i.event ≡ ev → is_finish (step_of (s.office i.place) ev) ≡ false → finished_by i.place (s.office i.place).agenda.current ev ≡ [] → Told p h s'
    still ev is none nothing = quiet p h s s' i.place i.event i.reply i.new i.led (ap (finished_by i.place (s.office i.place).agenda.current) is ∙ nothing)
        (event_keeps p h s s' laws more.stay c k.shows i (ap (λ y. is_finish (step_of (s.office i.place) y)) is ∙ none)) k.told

    seen_event : h i.place ≡ true → (ev : office.Event) → i.event ≡ ev → Told p h s'
    seen_event e (event.Submit q) is = still (event.Submit q) is refl refl
    seen_event e (event.Send v j) is = still (event.Send v j) is refl refl
    seen_event e (event.Took f) is = still (event.Took f) is refl refl
    seen_event e (event.Withdraw t) is = still (event.Withdraw t) is (withdraws (is_waiting (s.office i.place).agenda.queue t)) refl
      where
        withdraws : (b : Bool) → is_finish (withdrawal_step b) ≡ false
        withdraws true = refl
        withdraws false = refl
    seen_event e (event.Do rule.Start) is = still (event.Do rule.Start) is refl refl
    seen_event e (event.Do rule.Hungry) is = still (event.Do rule.Hungry) is refl refl
    seen_event e (event.Do (rule.AskFork v)) is = still (event.Do (rule.AskFork v)) is refl refl
    seen_event e (event.Do (rule.GiveFork v)) is = still (event.Do (rule.GiveFork v)) is refl refl
    seen_event e (event.Do rule.Eat) is = still (event.Do rule.Eat) is refl refl
    seen_event e (event.Do rule.Leave) is = still (event.Do rule.Leave) is refl refl
    seen_event e (event.Do (rule.AskBottle r)) is = still (event.Do (rule.AskBottle r)) is refl refl
    seen_event e (event.Do (rule.GiveBottle r)) is = still (event.Do (rule.GiveBottle r)) is refl refl
    seen_event e (event.Do rule.Drink) is = still (event.Do rule.Drink) is refl refl
    seen_event e (event.Do (rule.Work n)) is = still (event.Do (rule.Work n)) is refl refl
    seen_event e (event.Do rule.Finish) is =
        finish_told p h s s' i.place (s.office i.place).agenda.current laws more c i.inside e k (k.sane i.place e).current
        (was_done p i.place (s.office i.place) rule.Finish i.reply i.new (subst (λ ev. answer p i.place (s.office i.place) ev ≡ Ok (i.reply, i.new)) is i.answered)).guard
        (ap (λ (y : State). y.finished) i.led ∙ ap (λ ev. s.finished ++ finished_by i.place (s.office i.place).agenda.current ev) is)
        (pairs_after p s s' i ∙ ap (λ ev. put (pairs_in s) i.place (all_after p i.place (pairs_in s i.place) (step_of (s.office i.place) ev))) is ∙ ap (put (pairs_in s) i.place) (rule_alone p i.place (s.office i.place) rule.Finish))

    of : (b : Bool) → h i.place ≡ b → Told p h s'
    of true e = seen_event e i.event refl
    of false e = unseen_told p h s s' i e k.told

pub keeps_on : (p : PlanValue) (h : ℕ → Bool) (s s' : State) → Laws → ValueLaws → IsConsistent p → Keeps p h s → IsAccepted p s s' → Keeps p h s'
keeps_on p h s s' laws more c k i = record {
  shows = shows_on p h laws c s s' k.shows i;
  sane = λ x ex. subst (λ (f : ℕ → Office). IsSane p x (f x)) (sym (ap (λ (y : State). y.office) i.led))
      (put_cases s.office i.place i.new x (λ (o : Office). IsSane p x o)
      (λ same. let here : h i.place ≡ true = ap h (sym same) ∙ ex in subst (λ y. IsSane p y i.new) (sym same) (sane_on p i.place (s.office i.place) i.event i.reply i.new laws.away laws.away_kept (records_there p h s i.place more.records k.shows here) (others_there p h s i.place laws.peers k.shows here) i.answered (k.sane i.place here)))
      (λ ne. k.sane x ex));
  told = told_on p h s s' laws more c k i;
}

-- ---- the start

-- a record with such ends is one of the plan
pub ends_within : (h : ℕ → Bool) (p : PlanValue) (r : ℕ) → has_honest_ends h p r ≡ true → r < length p.records
ends_within h p r e = go p.records r e
  where
    go : (xs : List RecordEntry) (k : ℕ) → option_map_or (λ (x : RecordEntry). h x.first && h x.second) (slice_get xs k) false ≡ true → k < length xs
    go [] k i = absurd cc
    go (x ∷ xs) zero i = omega arith
    go (x ∷ xs) (suc k) i = omega (arith, go xs k i)

pub keeps_start : (p : PlanValue) (h : ℕ → Bool) → ValueLaws → Keeps p h (starting p)
keeps_start p h more = record {
  shows = shows_start p h;
  sane = λ a e. sane_at_start p a;
  told = record {
    values = λ r e. subst (λ (w : bars.World). bars.HasValue w r (start_map p r)) (sym (bars_start h p)) (first_values p r more.begin (ends_within h p r e));
    reads = nothing_read;
  };
}
  where
    nothing_read : (before later : List Finished) (f : Finished) → ◌≡◌ {A = List Finished} [] (before ++ f ∷ later) → WasLeft p h before f.outcome.ending.reads
    nothing_read [] later f e = absurd cc
    nothing_read (b ∷ bs) later f e = absurd cc
