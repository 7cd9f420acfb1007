-- The sessions of an office and its bottles: who works has the bottles that its session needs, with the values of its beginning.
use Rattle.std.proofs.Common.{◌≡◌, ℕ, ◌+◌, Bool, true, false, List, [], ◌∷◌, length, Option, None, Some, Ok, refl, sym, ap, subst, ◌∙◌, arith}
use Rattle.std.specs.Prelude.{◌==◌, ◌&&◌, ◌||◌, not, is_some, unwrap_or, nat_lt, All}
use Rattle.std.specs.List.{list_all}
use Rattle.std.proofs.lemmas.Bool.{and_parts, eqb-true, eq-eqb, or_left, or_right}
use Rattle.std.proofs.lemmas.List.Elements.{All-head, All-tail, All-cons, All-append, All-filter}
use Rattle.bottle_values.specs.declared.Value.{Value}
use Rattle.bottle_values.specs.Operations.{nought}
use Rattle.bottle_values.specs.Lists.{is_among}
use Rattle.bottle_values.specs.Maps.{reads_of}
use Rattle.bottle_values.specs.MapLaws.{put_other}
use Rattle.frame_codec.specs.declared.message.Msg.{Msg}
use Rattle.frame_codec.specs.declared.message.Msg.TheVariants as msg
use Rattle.frame_codec.specs.Frame.{Fields}
use Rattle.office_map.specs.PlanValue.{PlanValue, is_end, has_ends, peer, records_of}
use Rattle.office_map.specs.NeighbourLaws.{peer_is, among_records}
use Rattle.session_meaning.specs.ProgramValue.{ProgramValue}
use Rattle.session_meaning.specs.Fitting.{block_fits}
use Rattle.session_programs.specs.measures.Needs.{needs_of}
use Rattle.session_programs.specs.Program.{fits}
use Rattle.window_link.specs.declared.arrival.Arrival.{Arrival}
use Rattle.window_link.specs.declared.arrival.Arrival.TheVariants as arrival
use Rattle.token_channel.specs.Ends.{is_shared}
use Rattle.token_channel.specs.Channels.{WhatComesWasAway, WhatFollowsWasAway}
use Rattle.drinking_core.specs.declared.phase.Phase.{Phase}
use Rattle.drinking_core.specs.declared.phase.Phase.TheVariants.{Tranquil, Thirsty, Drinking}
use Rattle.drinking_core.specs.Drinkers.{Drinker, is_drinking, is_thirsty, holds, is_served}
use Rattle.drinking_core.specs.Drinkers as bottles
use Rattle.site_core.specs.declared.agendas.session.Session.{Session}
use Rattle.office_journal.specs.declared.rule.Rule.{Rule}
use Rattle.office_journal.specs.declared.rule.Rule.TheVariants as rule
use Rattle.office_journal.specs.declared.event.Event as office
use Rattle.office_journal.specs.declared.event.Event.TheVariants as event
use Rattle.office_journal.specs.declared.reply.Reply.{Reply}
use Rattle.site_core.specs.Pairs.{Pairs, held, frame_fault, arrival_of, drinker_after, after_frame, follows, as_arrival, after_kept, after_taking}
use Rattle.site_core.specs.Agenda.{Current, Idle, Gathering, Working, is_working, first_needs, started, begun, worked, writes_of}
use Rattle.site_core.specs.Offices.{Office, opened, may, act, is_ours, value_in, answer}
use Rattle.site_core.specs.neighbours.PairLaws.{passed, same_records, through_taking}
use Rattle.site_core.specs.WithdrawalLaws.{either_withdrawn}
use Rattle.frame_world.specs.Headline.{HasItsBottles}
use Rattle.frame_world.proofs.Answers.{was_submitted, was_done, was_sent, was_taken, was_withdrawn}
use Rattle.frame_world.proofs.PlacesAndForks.{all_at}

abbrev pub needs : Session → List ℕ
needs s = needs_of s.program.body

pub record IsGathering (plan : PlanValue) (a : ℕ) (s : Session) (d : Drinker) : Type 0 where
  pub ours : is_ours plan a s.program ≡ true
  pub phase : d.phase ≡ Thirsty
  pub needed : (r : ℕ) → d.needed r ≡ is_among (needs s) r

pub record IsAtWork (plan : PlanValue) (a : ℕ) (s : Session) (reads : List (ℕ × Value)) (d : Drinker) : Type 0 where
  pub ours : is_ours plan a s.program ≡ true
  pub phase : d.phase ≡ Drinking
  pub needed : (r : ℕ) → d.needed r ≡ is_among (needs s) r
  pub held : list_all (holds d) (needs s) ≡ true
  pub values : reads ≡ reads_of (needs s) (value_in d)

-- the bar of an office with this current session
abbrev pub IsCurrent : PlanValue → ℕ → Current → Drinker → Type 0
IsCurrent plan a Idle d = d.phase ≡ Tranquil
IsCurrent plan a (Gathering s) d = IsGathering plan a s d
IsCurrent plan a (Working s reads done) d = IsAtWork plan a s reads d

pub record IsSane (plan : PlanValue) (a : ℕ) (o : Office) : Type 0 where
  pub current : IsCurrent plan a o.agenda.current o.pairs.drinker
  pub queue : All (λ (s : Session). is_ours plan a s.program ≡ true) o.agenda.queue

-- ---- lists

agree_all : (f g : ℕ → Bool) (xs : List ℕ) → ((x : ℕ) → is_among xs x ≡ true → g x ≡ f x) → list_all f xs ≡ true → list_all g xs ≡ true
agree_all f g [] h e = refl
agree_all f g (x ∷ xs) h e =
    let parts : (f x ≡ true) × (list_all f xs ≡ true) = and_parts (f x) (list_all f xs) e in
    let head : g x ≡ true = h x (or_left (x == x) (is_among xs x) (eq-eqb x x refl)) ∙ parts.0 in
    let tail : list_all g xs ≡ true = agree_all f g xs (λ y i. h y (or_right (x == y) (is_among xs y) i)) parts.1 in
    ap (λ b. b && list_all g xs) head ∙ tail

pub agree_reads : {A : Type 0} (f g : ℕ → A) (xs : List ℕ) → ((x : ℕ) → is_among xs x ≡ true → f x ≡ g x) → reads_of xs f ≡ reads_of xs g
agree_reads f g [] h = refl
agree_reads f g (x ∷ xs) h =
    let head : f x ≡ g x = h x (or_left (x == x) (is_among xs x) (eq-eqb x x refl)) in
    let tail : reads_of xs f ≡ reads_of xs g = agree_reads f g xs (λ y i. h y (or_right (x == y) (is_among xs y) i)) in
    ap (λ v. (x, v) ∷ reads_of xs f) head ∙ ap (λ l. (x, g x) ∷ l) tail

-- what a session of the office needs is among the office's records
pub needs_are_ours : (plan : PlanValue) (a : ℕ) (p : ProgramValue) (r : ℕ) → is_ours plan a p ≡ true → is_among (needs_of p.body) r ≡ true → is_end plan r a ≡ true
needs_are_ours plan a p r ours among =
    let parts : ((p.office == a) ≡ true) × (fits plan p ≡ true) = and_parts (p.office == a) (fits plan p) ours in
    let is_placed : Bool = nat_lt p.office (length plan.offices) && list_all (λ q. is_end plan q p.office) (needs_of p.body) in
    let placed = (and_parts is_placed (block_fits plan.version p.body) parts.1).0 in
    let ends = (and_parts (nat_lt p.office (length plan.offices)) (list_all (λ q. is_end plan q p.office) (needs_of p.body)) placed).1 in
    ap (is_end plan r) (sym (eqb-true p.office a parts.0)) ∙ all_at (λ q. is_end plan q p.office) (needs_of p.body) r ends among

-- ---- a bar that changed

-- as to the current session, it is as it was
same_current : (plan : PlanValue) (a : ℕ) (c : Current) (d d' : Drinker) → d'.phase ≡ d.phase → ((r : ℕ) → d'.needed r ≡ d.needed r) → ((s : Session) (reads : List (ℕ × Value)) (done : ℕ) → c ≡ Working s reads done → (r : ℕ) → is_among (needs s) r ≡ true → d'.bottle r ≡ d.bottle r) →
    IsCurrent plan a c d → IsCurrent plan a c d'
same_current plan a Idle d d' ph n b h = ph ∙ h
same_current plan a (Gathering s) d d' ph n b h = record { ours = h.ours; phase = ph ∙ h.phase; needed = λ r. n r ∙ h.needed r }
same_current plan a (Working s reads done) d d' ph n b h = record {
  ours = h.ours;
  phase = ph ∙ h.phase;
  needed = λ r. n r ∙ h.needed r;
  held = agree_all (holds d) (holds d') (needs s) (λ r i. ap is_some (b s reads done refl r i)) h.held;
  values = h.values ∙ agree_reads (value_in d) (value_in d') (needs s) (λ r i. ap (λ o. unwrap_or o nought) (sym (b s reads done refl r i)));
}

-- ---- rules

pub not_true : (b : Bool) → b ≡ true → b ≡ false → ⊥
not_true true e f = absurd cc
not_true false e f = absurd cc

abbrev drinker_of : Office → Drinker
drinker_of o = o.pairs.drinker

-- the first waiting session becomes the current one
start_sane : (plan : PlanValue) (a : ℕ) (o : Office) (queue : List Session) → All (λ (s : Session). is_ours plan a s.program ≡ true) queue → is_some (first_needs queue) ≡ true →
    IsCurrent plan a (started o.agenda queue).current (bottles.started (drinker_of o) (first_needs queue)) × All (λ (s : Session). is_ours plan a s.program ≡ true) (started o.agenda queue).queue
start_sane plan a o [] h e = absurd cc
start_sane plan a o (s ∷ rest) h e =
    (record { ours = All-head (λ (x : Session). is_ours plan a x.program ≡ true) s rest h; phase = refl; needed = λ r. refl }, All-tail (λ (x : Session). is_ours plan a x.program ≡ true) s rest h)

-- a bottle that is needed isn't given by who works
give_kept : (plan : PlanValue) (a : ℕ) (c : Current) (d : Drinker) (r : ℕ) (forks : ℕ → Bool) → bottles.may d (bottles.GiveBottle r forks) ≡ true → IsCurrent plan a c d → IsCurrent plan a c (bottles.act d (bottles.GiveBottle r forks))
give_kept plan a c d r forks e h = same_current plan a c d (bottles.act d (bottles.GiveBottle r forks)) refl (λ q. refl) (λ s reads done is q among. put_other d.bottle r None q (λ i. not_needed s reads done is (ap (λ k. is_among (needs s) k) (sym i) ∙ among))) h
  where
    free : (not (d.needed r && (is_drinking d.phase || forks (d.peer r)))) ≡ true
    free = (and_parts (holds d r) _ (and_parts (d.token r) _ e).1).1

    not_needed : (s : Session) (reads : List (ℕ × Value)) (done : ℕ) → c ≡ Working s reads done → is_among (needs s) r ≡ true → ⊥
    not_needed s reads done is among =
        let w : IsAtWork plan a s reads d = subst (λ k. IsCurrent plan a k d) is h in
        clash (d.needed r) (w.needed r ∙ among) d.phase w.phase free
      where
        clash : (b : Bool) → b ≡ true → (ph : Phase) → ph ≡ Drinking → not (b && (is_drinking ph || forks (d.peer r))) ≡ true → ⊥
        clash b eb ph ep f = let x : not (true && (is_drinking Drinking || forks (d.peer r))) ≡ true = ap (λ k. not (true && (is_drinking k || forks (d.peer r)))) (sym ep) ∙ ap (λ k. not (k && (is_drinking ph || forks (d.peer r)))) (sym eb) ∙ f in absurd cc

-- who drinks has what its session needs
drink_sane : (plan : PlanValue) (a : ℕ) (c : Current) (d : Drinker) → d.records ≡ records_of plan a → bottles.may d bottles.Drink ≡ true → IsCurrent plan a c d → IsCurrent plan a (begun (value_in d) c) (bottles.act d bottles.Drink)
drink_sane plan a Idle d own e h = absurd (let x : is_thirsty d.phase ≡ true = (and_parts (is_thirsty d.phase) _ e).0 in let y : is_thirsty d.phase ≡ false = ap is_thirsty h in not_true _ x y)
drink_sane plan a (Gathering s) d own e h = record { ours = h.ours; phase = refl; needed = h.needed; held = all (needs s) (λ r i. i); values = refl }
  where
    served : list_all (is_served d) d.records ≡ true
    served = (and_parts (is_thirsty d.phase) (list_all (is_served d) d.records) e).1

    one : (r : ℕ) → is_among (needs s) r ≡ true → holds d r ≡ true
    one r i =
        let has : is_served d r ≡ true = all_at (is_served d) d.records r served (ap (λ l. is_among l r) own ∙ among_records plan a r (needs_are_ours plan a s.program r h.ours i)) in
        ap (λ b. not b || holds d r) (sym (h.needed r ∙ i)) ∙ has

    all : (xs : List ℕ) → ((r : ℕ) → is_among xs r ≡ true → is_among (needs s) r ≡ true) → list_all (holds d) xs ≡ true
    all xs within = agree_all (λ r. true) (holds d) xs (λ r i. one r (within r i)) (trues xs)
      where
        trues : (xs : List ℕ) → list_all (λ r. true) xs ≡ true
        trues [] = refl
        trues (x ∷ xs) = trues xs
drink_sane plan a (Working s reads done) d own e h = absurd (let x : is_thirsty d.phase ≡ true = (and_parts (is_thirsty d.phase) _ e).0 in let y : is_thirsty d.phase ≡ false = ap is_thirsty h.phase in not_true _ x y)

work_sane : (plan : PlanValue) (a n : ℕ) (c : Current) (d : Drinker) → IsCurrent plan a c d → IsCurrent plan a (worked n c) d
work_sane plan a n Idle d h = h
work_sane plan a n (Gathering s) d h = h
work_sane plan a n (Working s reads done) d h = h

-- who finishes is tranquil
finish_sane : (d : Drinker) (writes : Option (List (ℕ × Value))) → bottles.may d (bottles.Finish writes) ≡ true → (bottles.finished d writes).phase ≡ Tranquil
finish_sane d None e = absurd (not_true false ((and_parts (is_drinking d.phase) false e).1) refl)
finish_sane d (Some ws) e = refl

rule_sane : (plan : PlanValue) (a : ℕ) (o : Office) (r : Rule) → (drinker_of o).records ≡ records_of plan a → may plan a o r ≡ true → IsSane plan a o → IsSane plan a (act a o r)
rule_sane plan a o rule.Start own e h =
    let x = start_sane plan a o o.agenda.queue h.queue (and_parts (bottles.is_tranquil (drinker_of o).phase) (is_some (first_needs o.agenda.queue)) e).1 in
    record { current = x.0; queue = x.1 }
rule_sane plan a o rule.Hungry own e h = record { current = h.current; queue = h.queue }
rule_sane plan a o (rule.AskFork v) own e h = record { current = h.current; queue = h.queue }
rule_sane plan a o (rule.GiveFork v) own e h = record { current = h.current; queue = h.queue }
rule_sane plan a o rule.Eat own e h = record { current = h.current; queue = h.queue }
rule_sane plan a o rule.Leave own e h = record { current = h.current; queue = h.queue }
rule_sane plan a o (rule.AskBottle r) own e h = record { current = same_current plan a o.agenda.current (drinker_of o) (bottles.act (drinker_of o) (bottles.AskBottle r)) refl (λ q. refl) (λ s reads done is q i. refl) h.current; queue = h.queue }
rule_sane plan a o (rule.GiveBottle r) own e h = record { current = give_kept plan a o.agenda.current (drinker_of o) r o.pairs.diner.held (and_parts (is_end plan r a) (bottles.may (drinker_of o) (bottles.GiveBottle r o.pairs.diner.held)) e).1 h.current; queue = h.queue }
rule_sane plan a o rule.Drink own e h = record { current = drink_sane plan a o.agenda.current (drinker_of o) own e h.current; queue = h.queue }
rule_sane plan a o (rule.Work n) own e h = record { current = work_sane plan a n o.agenda.current (drinker_of o) h.current; queue = h.queue }
rule_sane plan a o rule.Finish own e h = record { current = finish_sane (drinker_of o) (writes_of o.agenda.current) e; queue = h.queue }

-- ---- frames

-- a bottle that comes wasn't here
came_new : (plan : PlanValue) (a : ℕ) (p : Pairs) (f : Fields) (r : ℕ) (x : Value) → WhatComesWasAway → ((q : ℕ) → p.drinker.peer q ≡ peer plan a q) → frame_fault plan a p f ≡ None → arrival_of p f ≡ arrival.Fresh (msg.Bottle r x) → holds p.drinker r ≡ false
came_new plan a p f r x away peers fine e =
    let it = passed plan a p f fine in
    let new : (has_ends plan r a f.from ≡ true) × (((p.drinker.peer r == f.from) && is_some (p.drinker.bottle r)) ≡ false) = away (is_shared plan a f.from) (held p f.from) (p.link f.from) f (msg.Bottle r x) it.1 e in
    ap (λ b. b && is_some (p.drinker.bottle r)) (sym (eq-eqb (p.drinker.peer r) f.from (peers r ∙ peer_is plan r a f.from new.0))) ∙ new.1

came_current : (plan : PlanValue) (a : ℕ) (c : Current) (d : Drinker) (arr : Arrival) → ((r : ℕ) (x : Value) → arr ≡ arrival.Fresh (msg.Bottle r x) → holds d r ≡ false) → IsCurrent plan a c d → IsCurrent plan a c (drinker_after d arr)
came_current plan a c d (arrival.Fresh msg.AskFork) away h = h
came_current plan a c d (arrival.Fresh msg.Fork) away h = h
came_current plan a c d (arrival.Fresh (msg.AskBottle r)) away h = same_current plan a c d (bottles.with_token d r) refl (λ q. refl) (λ s reads done is q i. refl) h
came_current plan a c d (arrival.Fresh (msg.Bottle r x)) away h = same_current plan a c d (bottles.with_bottle d r x) refl (λ q. refl) (λ s reads done is q i. put_other d.bottle r (Some x) q (λ e. not_true (holds d q) (there s reads done is q i) (ap (holds d) e ∙ away r x refl))) h
  where
    there : (s : Session) (reads : List (ℕ × Value)) (done : ℕ) → c ≡ Working s reads done → (q : ℕ) → is_among (needs s) q ≡ true → holds d q ≡ true
    there s reads done is q i = let w : IsAtWork plan a s reads d = subst (λ k. IsCurrent plan a k d) is h in all_at (holds d) (needs s) q w.held i
came_current plan a c d arrival.Acked away h = h
came_current plan a c d arrival.Repeat away h = h
came_current plan a c d arrival.Kept away h = h
came_current plan a c d arrival.Early away h = h

-- nor was one here that follows
follows_new : (plan : PlanValue) (a v : ℕ) (p : Pairs) (r : ℕ) (x : Value) → WhatFollowsWasAway → ((q : ℕ) → p.drinker.peer q ≡ peer plan a q) → follows plan a v p ≡ Some (msg.Bottle r x) → holds p.drinker r ≡ false
follows_new plan a v p r x away peers e =
    let new : (has_ends plan r a v ≡ true) × (((p.drinker.peer r == v) && is_some (p.drinker.bottle r)) ≡ false) = away (is_shared plan a v) (held p v) (p.link v) (msg.Bottle r x) e in
    ap (λ b. b && is_some (p.drinker.bottle r)) (sym (eq-eqb (p.drinker.peer r) v (peers r ∙ peer_is plan r a v new.0))) ∙ new.1

-- the current session at a bar with the plan's other ends
record IsCurrentAt (plan : PlanValue) (a : ℕ) (c : Current) (p : Pairs) : Type 0 where
  current : IsCurrent plan a c p.drinker
  peers : (q : ℕ) → p.drinker.peer q ≡ peer plan a q

frame_current : (plan : PlanValue) (a : ℕ) (c : Current) (p : Pairs) (f : Fields) → WhatComesWasAway → frame_fault plan a p f ≡ None → IsCurrentAt plan a c p → IsCurrentAt plan a c (after_frame p f)
frame_current plan a c p f away fine h = record {
  current = came_current plan a c p.drinker (arrival_of p f) (λ q x e. came_new plan a p f q x away h.peers fine e) h.current;
  peers = λ q. ap (λ (g : ℕ → ℕ). g q) (same_records p.drinker (arrival_of p f)).1 ∙ h.peers q;
}

kept_current : (plan : PlanValue) (a v : ℕ) (c : Current) (p : Pairs) → WhatFollowsWasAway → IsCurrentAt plan a c p → IsCurrentAt plan a c (after_kept plan a v p)
kept_current plan a v c p away h = record {
  current = came_current plan a c p.drinker (as_arrival (follows plan a v p)) (λ q x e. follows_new plan a v p q x away h.peers (message (follows plan a v p) (msg.Bottle q x) e)) h.current;
  peers = λ q. ap (λ (g : ℕ → ℕ). g q) (same_records p.drinker (as_arrival (follows plan a v p))).1 ∙ h.peers q;
}
  where
    message : (o : Option Msg) (m : Msg) → as_arrival o ≡ arrival.Fresh m → o ≡ Some m
    message None m e = absurd cc
    message (Some n) m e = let same : n ≡ m = cc in ap Some same

-- what a frame brings, and what follows it
taken_current : (plan : PlanValue) (a : ℕ) (c : Current) (p : Pairs) (f : Fields) → WhatComesWasAway → WhatFollowsWasAway → frame_fault plan a p f ≡ None → IsCurrentAt plan a c p → IsCurrentAt plan a c (after_taking plan a p f)
taken_current plan a c p f comes goes_on fine h = through_taking plan a (IsCurrentAt plan a c) f (λ q k. kept_current plan a f.from c q goes_on k) p (frame_current plan a c p f comes fine h)

-- ---- any event

pub sane_on : (plan : PlanValue) (a : ℕ) (o : Office) (e : office.Event) (r : Reply) (o' : Office) → WhatComesWasAway → WhatFollowsWasAway → (drinker_of o).records ≡ records_of plan a → ((q : ℕ) → (drinker_of o).peer q ≡ peer plan a q) → answer plan a o e ≡ Ok (r, o') → IsSane plan a o → IsSane plan a o'
sane_on plan a o (event.Submit p) r o' away goes_on own peers ans h =
    let t = was_submitted plan a o p r o' ans in
    subst (IsSane plan a) (sym t.after) (record { current = h.current; queue = All-append (λ (s : Session). is_ours plan a s.program ≡ true) o.agenda.queue (new p ∷ []) h.queue (All-cons (λ (s : Session). is_ours plan a s.program ≡ true) (new p) [] t.ours (λ i d lt. absurd (omega (arith, lt)))) })
  where
    new : ProgramValue → Session
    new p = record { ticket = o.agenda.tickets + 1; program = p }
sane_on plan a o (event.Do rule) r o' away goes_on own peers ans h =
    let d = was_done plan a o rule r o' ans in
    subst (IsSane plan a) (sym d.after) (rule_sane plan a o rule own d.guard h)
sane_on plan a o (event.Send v i) r o' away goes_on own peers ans h = subst (IsSane plan a) (sym (was_sent plan a o v i r o' ans).after) h
sane_on plan a o (event.Took f) r o' away goes_on own peers ans h =
    let t = was_taken plan a o f r o' ans in
    subst (IsSane plan a) (sym t.after) (record { current = (taken_current plan a o.agenda.current o.pairs f away goes_on t.fine (record { current = h.current; peers = peers })).current; queue = h.queue })
sane_on plan a o (event.Withdraw t) r o' away goes_on own peers ans h =
    subst (IsSane plan a) (sym (was_withdrawn o t r o' ans).after)
    (either_withdrawn (IsSane plan a) o t
    (λ waits. record { current = h.current; queue = All-filter (λ (s : Session). not (s.ticket == t)) (λ (s : Session). is_ours plan a s.program ≡ true) o.agenda.queue h.queue })
    (λ none. record { current = refl; queue = h.queue }))

pub sane_at_start : (plan : PlanValue) (a : ℕ) → IsSane plan a (opened plan a)
sane_at_start plan a = record { current = refl; queue = λ i d lt. absurd (omega (arith, lt)) }

-- ---- what a reader is told

pub drinks_where_it_works : (plan : PlanValue) (a : ℕ) (c : Current) (d : Drinker) → IsCurrent plan a c d → is_drinking d.phase ≡ is_working c
drinks_where_it_works plan a Idle d h = ap is_drinking h
drinks_where_it_works plan a (Gathering s) d h = ap is_drinking h.phase
drinks_where_it_works plan a (Working s reads done) d h = ap is_drinking h.phase

pub has_its_bottles : (plan : PlanValue) (a : ℕ) (o : Office) (s : Session) (reads : List (ℕ × Value)) (done : ℕ) → IsSane plan a o → o.agenda.current ≡ Working s reads done → HasItsBottles o s reads
has_its_bottles plan a o s reads done h e = let w : IsAtWork plan a s reads o.pairs.drinker = subst (λ c. IsCurrent plan a c o.pairs.drinker) e h.current in record { held = w.held; values = w.values }
