-- Whatever an office does, it has values of its plan's version alone.
use Rattle.std.proofs.Common.{◌≡◌, ℕ, zero, suc, ◌+◌, ◌-◌, Bool, true, false, IsTrue, cond, List, [], ◌∷◌, get_or, replicate, Option, None, Some, option_map, Ok, Err, refl, sym, ap, subst, ◌∙◌, ⊎_elim}
use Rattle.std.specs.Prelude.{◌==◌, nat_lt, not, IfSome, slice_get, unwrap_or}
use Rattle.std.proofs.lemmas.Bool.{eqb-true, and_parts}
use Rattle.std.proofs.lemmas.List.Elements.{All-nil, All-cons, All-head, All-tail}
use Rattle.std.proofs.lemmas.Option.{slice_get_within, get_or_from_slice_get}
use Rattle.bottle_values.specs.declared.Value.{Value}
use Rattle.bottle_values.specs.Operations.{nought}
use Rattle.bottle_values.specs.Maps.{put, write_all, reads_of}
use Rattle.bottle_values.specs.MapLaws.{put_cases}
use Rattle.bottle_values.specs.ListLaws.{get-set}
use Rattle.bottle_values.specs.Versions.{admits}
use Rattle.bottle_values.specs.declared.version.Version.{Version}
use Rattle.bottle_values.specs.declared.version.Version.TheVariants.{One, Two}
use Rattle.frame_codec.specs.declared.message.Msg.{Msg}
use Rattle.frame_codec.specs.declared.message.Msg.TheVariants as msg
use Rattle.frame_codec.specs.Frame.{Fields, carries}
use Rattle.frame_codec.specs.SpellingLaws.{same_version}
use Rattle.office_map.specs.declared.entries.RecordEntry.{RecordEntry}
use Rattle.office_map.specs.PlanValue.{PlanValue, are_neighbours, start_end}
use Rattle.office_map.specs.Consistency.{IsConsistent}
use Rattle.window_link.specs.declared.arrival.Arrival.{Arrival}
use Rattle.window_link.specs.declared.arrival.Arrival.TheVariants as arrival
use Rattle.window_link.specs.declared.fault.LinkFault.{LinkFault}
use Rattle.window_link.specs.declared.fault.LinkFault.TheVariants.{Stranger, WrongVersion, AckAhead}
use Rattle.window_link.specs.Limits.{most_kept}
use Rattle.window_link.specs.Windows.{Receiving, used, arrival as arrival_by, next_kept, received, after_message}
use Rattle.window_link.specs.WindowLaws.{Stands, stands, get-after, get-with}
use Rattle.window_link.specs.Links.{LinkState, fault_of, is_own, is_of_version, brings, received_from, after_arrival}
use Rattle.token_channel.specs.declared.fault.ChannelFault.{ChannelFault}
use Rattle.token_channel.specs.Ends.{is_shared}
use Rattle.token_channel.specs.Channels.{breach_among, unless_breach, link_then, window_then, link_fault_or}
use Rattle.session_meaning.specs.declared.ending.Ending.{Ending}
use Rattle.session_meaning.specs.ProgramValue.{ProgramValue}
use Rattle.session_meaning.specs.Length.{length_on}
use Rattle.session_meaning.specs.Meaning.{alone}
use Rattle.session_meaning.specs.Fitting.{block_fits, RecordsFit}
use Rattle.session_meaning.specs.Laws.{ValuesFit}
use Rattle.session_programs.specs.measures.Needs.{needs_of}
use Rattle.session_programs.specs.Program.{fits}
use Rattle.dining_core.specs.Diners as forks
use Rattle.drinking_core.specs.Drinkers.{Drinker, value_after, start_bottle}
use Rattle.drinking_core.specs.Drinkers as bottles
use Rattle.site_core.specs.neighbours.Pairs.{Pairs, held, sent, fork_sends, bottle_sends, frame_fault, drinker_after, arrived, arrival_of, follows, as_arrival, after_fork_rule, after_bottle_rule}
use Rattle.site_core.specs.neighbours.Pairs as pairs
use Rattle.site_core.specs.neighbours.PairLaws.{passed, through_taking}
use Rattle.site_core.specs.declared.agendas.session.Session.{Session}
use Rattle.site_core.specs.agendas.Agenda.{Agenda, Current, Idle, Gathering, Working, started, begun, worked, writes_of, submitted}
use Rattle.site_core.specs.agendas.Agenda as agenda
use Rattle.office_journal.specs.declared.rule.Rule.{Rule}
use Rattle.office_journal.specs.declared.rule.Rule.TheVariants as rule
use Rattle.office_journal.specs.declared.event.Event.TheVariants as event
use Rattle.office_journal.specs.declared.reply.Reply.TheVariants as reply
use Rattle.office_journal.specs.declared.reply.Refusal.TheVariants as refusal
use Rattle.site_core.specs.Offices.{Office, value_in, may, act, withdrawn, is_ours, framed, frame_on, unless_faulty, opened}
use Rattle.site_core.specs.Journals.{next_or}
use Rattle.site_core.specs.WithdrawalLaws.{either_withdrawn, after_withdrawal}
use Rattle.site_core.specs.refinement.OfficeValues.{LinkFits, PairsFit, CurrentFits, OfficeFits, Keeps}
use Rattle.site_core.proofs.OfficeLimits.{Ours}

-- ---- links

abbrev LinksFit : Version → (ℕ → LinkState) → Type 0
LinksFit version link = (v : ℕ) → LinkFits version (link v)

after_put : (version : Version) (link : ℕ → LinkState) (v : ℕ) (l : LinkState) → LinksFit version link → LinkFits version l → LinksFit version (put link v l)
after_put version link v l h fits u = put_cases link v l u (LinkFits version) (λ e. fits) (λ ne. h u)

after_sent : (version : Version) (link : ℕ → LinkState) (o : Option (ℕ × Msg)) → LinksFit version link → LinksFit version (sent link o)
after_sent version link None h = h
after_sent version link (Some x) h = after_put version link x.0 _ h (record { same = (h x.0).same; kept = (h x.0).kept })

abbrev KeptFit : Version → List (Option Msg) → Type 0
KeptFit version ks = (k : ℕ) (m : Msg) → get_or ks k None ≡ Some m → IsTrue (carries version m)

-- what a frame's message leaves in the window
kept_received : (version : Version) (r : Receiving) (number : ℕ) (m : Msg) → KeptFit version r.kept → IsTrue (carries version m) → KeptFit version (received r number m).kept
kept_received version r number m h fits = by (arrival_by r.taken number m)
  where
    by : (a : Arrival) → KeptFit version (after_message r number m a).kept
    by (arrival.Fresh x) k n is = h (suc k) n (sym (get-after r.kept k) ∙ is)
    by arrival.Kept k n is = ⊎_elim (λ old. h k n old) (λ new. subst (λ x. IsTrue (carries version x)) new.1 fits) (get-with r.kept (number - (r.taken + 1)) k m n is)
    by arrival.Acked k n is = h k n is
    by arrival.Repeat k n is = h k n is
    by arrival.Early k n is = h k n is

kept_from : (version : Version) (r : Receiving) (number : ℕ) (o : Option Msg) → KeptFit version r.kept → IfSome o (λ m. IsTrue (carries version m)) → KeptFit version (received_from r number o).kept
kept_from version r number None h fits = h
kept_from version r number (Some m) h fits = kept_received version r number m h fits

-- what follows, or is thrown out
kept_then : (version : Version) (r : Receiving) (o : Option Msg) → KeptFit version r.kept → KeptFit version (window_then r o).kept
kept_then version r None h k m is = ⊎_elim (λ here. absurd (nothing here.1)) (λ old. h k m old) (get-set r.kept 0 k None None (Some m) is)
  where
    nothing : ◌≡◌ {A = Option Msg} None (Some m) → ⊥
    nothing e = cc
kept_then version r (Some x) h k m is = h (suc k) m (sym (get-after r.kept k) ∙ is)

-- ---- bottles

abbrev BottlesFit : Version → (ℕ → Option Value) → Type 0
BottlesFit version bottle = (r : ℕ) (x : Value) → bottle r ≡ Some x → IsTrue (admits version x)

-- where a bottle came or went
bottle_put : (version : Version) (bottle : ℕ → Option Value) (r : ℕ) (o : Option Value) → BottlesFit version bottle → IfSome o (λ x. IsTrue (admits version x)) → BottlesFit version (put bottle r o)
bottle_put version bottle r o h fits q x is = put_cases bottle r o q (λ y. y ≡ Some x → IsTrue (admits version x)) (λ e same. of o fits same) (λ ne same. h q x same) is
  where
    of : (y : Option Value) → IfSome y (λ z. IsTrue (admits version z)) → y ≡ Some x → IsTrue (admits version x)
    of None k same = absurd cc
    of (Some z) k same = let e : z ≡ x = cc in subst (λ w. IsTrue (admits version w)) e k

message_came : (version : Version) (d : Drinker) (m : Msg) → BottlesFit version d.bottle → IsTrue (carries version m) → BottlesFit version (pairs.bottle_came d m).bottle
message_came version d msg.AskFork h fits = h
message_came version d msg.Fork h fits = h
message_came version d (msg.AskBottle r) h fits = h
message_came version d (msg.Bottle r x) h fits = bottle_put version d.bottle r (Some x) h fits

abbrev Brings : Version → Arrival → Type 0
Brings version a = (m : Msg) → a ≡ arrival.Fresh m → IsTrue (carries version m)

after_coming : (version : Version) (d : Drinker) (a : Arrival) → BottlesFit version d.bottle → Brings version a → BottlesFit version (drinker_after d a).bottle
after_coming version d (arrival.Fresh m) h fits = message_came version d m h (fits m refl)
after_coming version d arrival.Acked h fits = h
after_coming version d arrival.Repeat h fits = h
after_coming version d arrival.Kept h fits = h
after_coming version d arrival.Early h fits = h

-- what is written
written : (version : Version) (ws : List (ℕ × Value)) (m : ℕ → Value) → RecordsFit version ws → ((q : ℕ) → IsTrue (admits version (m q))) → (q : ℕ) → IsTrue (admits version (write_all ws m q))
written version [] m fits h q = h q
written version (w ∷ rest) m fits h q =
    let first = All-head (λ (x : ℕ × Value). IsTrue (admits version x.1)) w rest fits in
    written version rest (put m w.0 w.1) (All-tail (λ (x : ℕ × Value). IsTrue (admits version x.1)) w rest fits) (λ r. put_cases m w.0 w.1 r (λ x. IsTrue (admits version x)) (λ e. first) (λ ne. h r)) q

after_finish : (version : Version) (d : Drinker) (o : Option (List (ℕ × Value))) → BottlesFit version d.bottle → IfSome o (RecordsFit version) → BottlesFit version (bottles.finished d o).bottle
after_finish version d None h fits r x is = h r x is
after_finish version d (Some ws) h fits r x is = go (d.bottle r) refl is
  where
    go : (o : Option Value) → d.bottle r ≡ o → option_map (value_after ws r) o ≡ Some x → IsTrue (admits version x)
    go None here e = absurd cc
    go (Some y) here e =
        let same : value_after ws r y ≡ x = cc in
        subst (λ w. IsTrue (admits version w)) same (written version ws (λ q. y) fits (λ q. h r y here) r)

-- ---- frames

-- a message that is fresh is the frame's
fresh_is : (taken number : ℕ) (o : Option Msg) (m : Msg) → brings taken number o ≡ arrival.Fresh m → o ≡ Some m
fresh_is taken number None m e = absurd cc
fresh_is taken number (Some n) m e = ap Some (subst (Stands taken number n) e (stands taken number n)).1

-- the frame is of the link's version
of_version : (l : LinkState) (f : Fields) → fault_of l f ≡ None → f.version ≡ l.version
of_version l f e = go (is_own l f) (is_of_version l f) (nat_lt (used l.sending) f.count) refl e
  where
    go : (a v b : Bool) → is_of_version l f ≡ v → cond (not a) (Some Stranger) (cond (not v) (Some WrongVersion) (cond b (Some AckAhead) None)) ≡ None → f.version ≡ l.version
    go false v b h k = absurd cc
    go true false b h k = absurd cc
    go true true b h k = same_version f.version l.version (eqb-true _ _ h)

no_link_fault : (fault : Option LinkFault) (b : Bool) → link_fault_or fault b ≡ None → fault ≡ None
no_link_fault None b e = refl
no_link_fault (Some x) b e = absurd cc

arrives : (version : Version) (p : Pairs) (v : ℕ) (l : LinkState) (a : Arrival) → PairsFit version p → LinkFits version l → Brings version a → PairsFit version (arrived p v l a)
arrives version p v l a h fits new = record {
  links = after_put version p.link v l h.links fits;
  bottles = after_coming version p.drinker a h.bottles new;
}

after_frame : (plan : PlanValue) (me : ℕ) (p : Pairs) (f : Fields) → PairsFit plan.version p → IfSome f.msg (λ m. IsTrue (carries f.version m)) → frame_fault plan me p f ≡ None → PairsFit plan.version (pairs.after_frame p f)
after_frame plan me p f h carried none =
    let l = p.link f.from in
    let fine = no_link_fault (fault_of l f) _ (passed plan me p f none).1 in
    let same : f.version ≡ plan.version = of_version l f fine ∙ (h.links f.from).same in
    let fits : IfSome f.msg (λ m. IsTrue (carries plan.version m)) = subst (λ v. IfSome f.msg (λ m. IsTrue (carries v m))) same carried in
    arrives plan.version p f.from (after_arrival l f) (arrival_of p f) h
    (record { same = (h.links f.from).same; kept = kept_from plan.version l.receiving f.number f.msg (h.links f.from).kept fits })
    (λ m e. subst (λ o. IfSome o (λ n. IsTrue (carries plan.version n))) (fresh_is l.receiving.taken f.number f.msg m e) fits)

-- what follows was kept
followed_is : (breach : Msg → Bool) (o : Option Msg) (m : Msg) → as_arrival (unless_breach breach o) ≡ arrival.Fresh m → o ≡ Some m
followed_is breach None m e = absurd cc
followed_is breach (Some n) m e = go (breach n) e
  where
    go : (b : Bool) → as_arrival (cond b None (Some n)) ≡ arrival.Fresh m → Some n ≡ Some m
    go true k = absurd cc
    go false k = cc

after_kept : (plan : PlanValue) (me v : ℕ) (p : Pairs) → PairsFit plan.version p → PairsFit plan.version (pairs.after_kept plan me v p)
after_kept plan me v p h =
    let l = p.link v in
    arrives plan.version p v (link_then l (follows plan me v p)) (as_arrival (follows plan me v p)) h
    (record { same = (h.links v).same; kept = kept_then plan.version l.receiving (follows plan me v p) (h.links v).kept })
    (λ m e. (h.links v).kept 0 m (followed_is (breach_among (is_shared plan me v) (held p v) l l.sending.acked) (next_kept l.receiving) m e))

after_taking : (plan : PlanValue) (me : ℕ) (p : Pairs) (f : Fields) → PairsFit plan.version p → IfSome f.msg (λ m. IsTrue (carries f.version m)) → frame_fault plan me p f ≡ None → PairsFit plan.version (pairs.after_taking plan me p f)
after_taking plan me p f h carried none =
    through_taking plan me (PairsFit plan.version) f (λ q k. after_kept plan me f.from q k) p (after_frame plan me p f h carried none)

-- ---- sessions

-- what it wrote, if its work has ended
writes_are : ValuesFit → (version : Version) (c : Current) → CurrentFits version c → IfSome (writes_of c) (RecordsFit version)
writes_are law version Idle h = tt
writes_are law version (Gathering s) h = tt
writes_are law version (Working s reads done) h = go (nat_lt done (length_on s.program reads))
  where
    go : (b : Bool) → IfSome (option_map (λ (e : Ending). e.writes) (cond b None (Some (alone s.program reads)))) (RecordsFit version)
    go true = tt
    go false = (law version s.program reads h.0 h.1).0

nought_admitted : (version : Version) → IsTrue (admits version nought)
nought_admitted One = refl
nought_admitted Two = refl

value_admitted : (version : Version) (o : Option Value) → IfSome o (λ x. IsTrue (admits version x)) → IsTrue (admits version (unwrap_or o nought))
value_admitted version None h = nought_admitted version
value_admitted version (Some x) h = h

bottle_admitted : (version : Version) (bottle : ℕ → Option Value) (r : ℕ) → BottlesFit version bottle → IfSome (bottle r) (λ x. IsTrue (admits version x))
bottle_admitted version bottle r h = go (bottle r) refl
  where
    go : (o : Option Value) → bottle r ≡ o → IfSome o (λ x. IsTrue (admits version x))
    go None is = tt
    go (Some x) is = h r x is

read_values : (version : Version) (rs : List ℕ) (d : Drinker) → BottlesFit version d.bottle → RecordsFit version (reads_of rs (value_in d))
read_values version [] d h = All-nil (λ (x : ℕ × Value). IsTrue (admits version x.1))
read_values version (r ∷ rest) d h =
    All-cons (λ (x : ℕ × Value). IsTrue (admits version x.1)) (r, value_in d r) (reads_of rest (value_in d)) (value_admitted version (d.bottle r) (bottle_admitted version d.bottle r h)) (read_values version rest d h)

begins : (version : Version) (d : Drinker) (c : Current) → BottlesFit version d.bottle → CurrentFits version c → CurrentFits version (begun (value_in d) c)
begins version d Idle h fits = fits
begins version d (Gathering s) h fits = (fits, read_values version (needs_of s.program.body) d h)
begins version d (Working s reads done) h fits = fits

goes_on : (version : Version) (n : ℕ) (c : Current) → CurrentFits version c → CurrentFits version (worked n c)
goes_on version n Idle fits = fits
goes_on version n (Gathering s) fits = fits
goes_on version n (Working s reads done) fits = fits

-- a session of the office is one of the plan's version
ours_fits : (plan : PlanValue) (me : ℕ) (p : ProgramValue) → is_ours plan me p ≡ true → IsTrue (block_fits plan.version p.body)
ours_fits plan me p e = (and_parts _ (block_fits plan.version p.body) (and_parts (p.office == me) (fits plan p) e).1).1

starts : (plan : PlanValue) (me : ℕ) (a : Agenda) (queue : List Session) → Ours plan me queue → CurrentFits plan.version a.current → CurrentFits plan.version (started a queue).current
starts plan me a [] ours fits = fits
starts plan me a (s ∷ rest) ours fits = ours_fits plan me s.program (All-head (λ (x : Session). is_ours plan me x.program ≡ true) s rest ours)

-- ---- events

-- a rule that sends this, and leaves what the bottles hold
sends : (version : Version) (p : Pairs) (d : forks.Diner) (k : Drinker) (o : Option (ℕ × Msg)) → PairsFit version p → BottlesFit version k.bottle → PairsFit version (record { diner = d; drinker = k; link = sent p.link o })
sends version p d k o h fits = record { links = after_sent version p.link o h.links; bottles = fits }

by_rule : ValuesFit → (plan : PlanValue) (me : ℕ) (o : Office) (r : Rule) → OfficeFits plan.version o → Ours plan me o.agenda.queue → OfficeFits plan.version (act me o r)
by_rule law plan me o rule.Start h ours = record {
  pairs = sends plan.version o.pairs _ _ None h.pairs (same (agenda.first_needs o.agenda.queue));
  current = starts plan me o.agenda o.agenda.queue ours h.current;
}
  where
    same : (n : Option (List ℕ)) → BottlesFit plan.version (bottles.started o.pairs.drinker n).bottle
    same None = h.pairs.bottles
    same (Some rs) = h.pairs.bottles
by_rule law plan me o rule.Hungry h ours = record { pairs = sends plan.version o.pairs _ _ None h.pairs h.pairs.bottles; current = h.current }
by_rule law plan me o (rule.AskFork v) h ours = record { pairs = sends plan.version o.pairs _ _ (fork_sends (forks.AskFork v)) h.pairs h.pairs.bottles; current = h.current }
by_rule law plan me o (rule.GiveFork v) h ours = record { pairs = sends plan.version o.pairs _ _ (fork_sends (forks.GiveFork v)) h.pairs h.pairs.bottles; current = h.current }
by_rule law plan me o rule.Eat h ours = record { pairs = sends plan.version o.pairs _ _ None h.pairs h.pairs.bottles; current = h.current }
by_rule law plan me o rule.Leave h ours = record { pairs = sends plan.version o.pairs _ _ None h.pairs h.pairs.bottles; current = h.current }
by_rule law plan me o (rule.AskBottle r) h ours = record { pairs = sends plan.version o.pairs _ _ (bottle_sends o.pairs.drinker (bottles.AskBottle r)) h.pairs h.pairs.bottles; current = h.current }
by_rule law plan me o (rule.GiveBottle r) h ours = record {
  pairs = sends plan.version o.pairs _ _ (bottle_sends o.pairs.drinker (bottles.GiveBottle r o.pairs.diner.held)) h.pairs (bottle_put plan.version o.pairs.drinker.bottle r None h.pairs.bottles tt);
  current = h.current;
}
by_rule law plan me o rule.Drink h ours = record { pairs = sends plan.version o.pairs _ _ None h.pairs h.pairs.bottles; current = begins plan.version o.pairs.drinker o.agenda.current h.pairs.bottles h.current }
by_rule law plan me o (rule.Work n) h ours = record { pairs = h.pairs; current = goes_on plan.version n o.agenda.current h.current }
by_rule law plan me o rule.Finish h ours = record {
  pairs = sends plan.version o.pairs _ _ None h.pairs (after_finish plan.version o.pairs.drinker (writes_of o.agenda.current) h.pairs.bottles (writes_are law plan.version o.agenda.current h.current));
  current = tt;
}

pub keeps_rule : ValuesFit → (plan : PlanValue) (me : ℕ) (r : Rule) → Keeps plan me (event.Do r)
keeps_rule law plan me r o h ours = go (may plan me o r)
  where
    go : (b : Bool) → OfficeFits plan.version (next_or o (cond b (Ok (reply.Done, act me o r)) (Err refusal.NotNow)))
    go true = by_rule law plan me o r h ours
    go false = h

pub keeps_submit : (plan : PlanValue) (me : ℕ) (p : ProgramValue) → Keeps plan me (event.Submit p)
keeps_submit plan me p o h ours = go (is_ours plan me p) (agenda.is_full o.agenda)
  where
    go : (a b : Bool) → OfficeFits plan.version (next_or o (cond a (cond b (Err refusal.QueueFull) (Ok (reply.Ticket (o.agenda.tickets + 1), record { pairs = o.pairs; agenda = submitted o.agenda p }))) (Err refusal.NotOurs)))
    go true true = h
    go false b = h
    go true false = record { pairs = h.pairs; current = h.current }

by_withdrawal : (plan : PlanValue) (o : Office) (t : ℕ) → OfficeFits plan.version o → OfficeFits plan.version (withdrawn o t)
by_withdrawal plan o t h = either_withdrawn (OfficeFits plan.version) o t
    (λ e. record { pairs = h.pairs; current = h.current })
    (λ e. record { pairs = sends plan.version o.pairs _ _ None h.pairs h.pairs.bottles; current = tt })

pub keeps_withdrawal : (plan : PlanValue) (me t : ℕ) → Keeps plan me (event.Withdraw t)
keeps_withdrawal plan me t o h ours = after_withdrawal (OfficeFits plan.version) o t h (by_withdrawal plan o t h)

pub keeps_sending : (plan : PlanValue) (me v i : ℕ) → Keeps plan me (event.Send v i)
keeps_sending plan me v i o h ours = go (are_neighbours plan me v)
  where
    made : (f : Option Fields) → next_or o (framed o f) ≡ o
    made None = refl
    made (Some f) = refl

    go : (b : Bool) → OfficeFits plan.version (next_or o (cond b (framed o (frame_on (o.pairs.link v) i)) (Err refusal.NotNow)))
    go true = subst (OfficeFits plan.version) (sym (made (frame_on (o.pairs.link v) i))) h
    go false = h

-- a frame that comes carries what its own version can
pub keeps_taking : (plan : PlanValue) (me : ℕ) (f : Fields) → IfSome f.msg (λ m. IsTrue (carries f.version m)) → Keeps plan me (event.Took f)
keeps_taking plan me f carried o h ours = go (frame_fault plan me o.pairs f) refl
  where
    go : (x : Option ChannelFault) → frame_fault plan me o.pairs f ≡ x → OfficeFits plan.version (next_or o (unless_faulty plan me o f x))
    go None e = record { pairs = after_taking plan me o.pairs f h.pairs carried e; current = h.current }
    go (Some x) e = h

-- ---- the opening

none_kept : (n k : ℕ) (m : Msg) → get_or {A = Option Msg} (replicate n None) k None ≡ Some m → ⊥
none_kept zero k m e = absurd cc
none_kept (suc n) zero m e = absurd cc
none_kept (suc n) (suc k) m e = none_kept n k m e

pub fits_at_start : (plan : PlanValue) (me : ℕ) → IsConsistent plan → OfficeFits plan.version (opened plan me)
fits_at_start plan me h = record {
  pairs = record {
    links = λ v. record { same = refl; kept = λ k m is. absurd (none_kept most_kept k m is) };
    bottles = λ r x is. starting r x (slice_get plan.records r) refl is;
  };
  current = tt;
}
  where
    starting : (r : ℕ) (x : Value) (o : Option RecordEntry) → slice_get plan.records r ≡ o → start_bottle me o ≡ Some x → IsTrue (admits plan.version x)
    starting r x None is e = absurd cc
    starting r x (Some entry) is e = go (me == start_end entry) e
      where
        go : (b : Bool) → cond b (Some entry.value) None ≡ Some x → IsTrue (admits plan.version x)
        go true k =
            let same : entry.value ≡ x = cc in
            subst (λ w. IsTrue (admits plan.version w)) same (subst (λ (y : RecordEntry). IsTrue (admits plan.version y.value)) (get_or_from_slice_get plan.records r entry entry is) (h.values_are_admitted r entry (slice_get_within plan.records r entry is)))
        go false k = absurd cc
