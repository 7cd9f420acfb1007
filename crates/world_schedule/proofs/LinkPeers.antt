-- The link of an office to another is to that other, along its whole journal.
use Rattle.std.proofs.Common.{◌≡◌, ℕ, ◌+◌, Bool, true, false, cond, List, [], ◌∷◌, Option, None, Some, Ok, Err, refl, sym, ◌∙◌}
use Rattle.bottle_values.specs.Maps.{put}
use Rattle.bottle_values.specs.MapLaws.{put_cases}
use Rattle.frame_codec.specs.declared.message.Msg.{Msg}
use Rattle.frame_codec.specs.declared.message.Msg.TheVariants as msg
use Rattle.frame_codec.specs.Frame.{Fields}
use Rattle.office_map.specs.PlanValue.{PlanValue, are_neighbours}
use Rattle.window_link.specs.Links.{LinkState, after_arrival}
use Rattle.window_link.specs.Windows.{queued}
use Rattle.token_channel.specs.declared.fault.ChannelFault.{ChannelFault}
use Rattle.token_channel.specs.Channels.{link_then}
use Rattle.drinking_core.specs.Drinkers as bottles
use Rattle.office_journal.specs.declared.rule.Rule.{Rule}
use Rattle.office_journal.specs.declared.rule.Rule.TheVariants as rule
use Rattle.office_journal.specs.declared.event.Event.{Event}
use Rattle.office_journal.specs.declared.event.Event.TheVariants as event
use Rattle.office_journal.specs.declared.event.Entry.{Entry}
use Rattle.office_journal.specs.declared.reply.Reply.TheVariants as reply
use Rattle.office_journal.specs.declared.reply.Refusal.TheVariants as refusal
use Rattle.site_core.specs.Pairs.{Pairs, queued_to, sent, bottle_sends, frame_fault, follows, after_taking}
use Rattle.site_core.specs.Agenda.{is_full, submitted}
use Rattle.site_core.specs.Offices.{Office, Answer, may, act, is_ours, framed, frame_on, unless_faulty, opened}
use Rattle.site_core.specs.Journals.{Site, next_or, after, run_of, office_of}
use Rattle.site_core.specs.neighbours.PairLaws.{through_taking}
use Rattle.site_core.specs.WithdrawalLaws.{either_withdrawn, after_withdrawal}

abbrev ArePeers : (ℕ → LinkState) → Type 0
ArePeers link = (v : ℕ) → (link v).peer ≡ v

put_peers : (link : ℕ → LinkState) (x : ℕ) (l : LinkState) → l.peer ≡ (link x).peer → ArePeers link → ArePeers (put link x l)
put_peers link x l same h v = put_cases link x l v (λ (k : LinkState). k.peer ≡ v) (λ e. same ∙ h x ∙ sym e) (λ ne. h v)

queued_peers : (link : ℕ → LinkState) (x : ℕ) (m : Msg) → ArePeers link → ArePeers (queued_to link x m)
queued_peers link x m h = put_peers link x (record { run = (link x).run; me = (link x).me; peer = (link x).peer; sending = queued (link x).sending m; receiving = (link x).receiving; version = (link x).version }) refl h

sent_peers : (link : ℕ → LinkState) (m : Option (ℕ × Msg)) → ArePeers link → ArePeers (sent link m)
sent_peers link None h = h
sent_peers link (Some x) h = queued_peers link x.0 x.1 h

rule_peers : (me : ℕ) (o : Office) (r : Rule) → ArePeers o.pairs.link → ArePeers (act me o r).pairs.link
rule_peers me o rule.Start h = h
rule_peers me o rule.Hungry h = h
rule_peers me o (rule.AskFork u) h = queued_peers o.pairs.link u msg.AskFork h
rule_peers me o (rule.GiveFork u) h = queued_peers o.pairs.link u msg.Fork h
rule_peers me o rule.Eat h = h
rule_peers me o rule.Leave h = h
rule_peers me o (rule.AskBottle r) h = queued_peers o.pairs.link (o.pairs.drinker.peer r) (msg.AskBottle r) h
rule_peers me o (rule.GiveBottle r) h = sent_peers o.pairs.link (bottle_sends o.pairs.drinker (bottles.GiveBottle r o.pairs.diner.held)) h
rule_peers me o rule.Drink h = h
rule_peers me o (rule.Work n) h = h
rule_peers me o rule.Finish h = h

abbrev OfPairs : Pairs → Type 0
OfPairs p = ArePeers p.link

taking_peers : (plan : PlanValue) (me : ℕ) (p : Pairs) (f : Fields) → OfPairs p → OfPairs (after_taking plan me p f)
taking_peers plan me p f h =
    through_taking plan me OfPairs f (λ q g. put_peers q.link f.from (link_then (q.link f.from) (follows plan me f.from q)) refl g) p (put_peers p.link f.from (after_arrival (p.link f.from) f) refl h)

abbrev OfOffice : Office → Type 0
OfOffice o = ArePeers o.pairs.link

event_peers : (plan : PlanValue) (me : ℕ) (o : Office) (e : Event) → OfOffice o → OfOffice (after plan me o e)
event_peers plan me o (event.Submit p) h = go (is_ours plan me p) (is_full o.agenda)
  where
    go : (b full : Bool) → OfOffice (next_or o (cond {A = Answer} b (cond full (Err refusal.QueueFull) (Ok (reply.Ticket (o.agenda.tickets + 1), record { pairs = o.pairs; agenda = submitted o.agenda p }))) (Err refusal.NotOurs)))
    go false full = h
    go true true = h
    go true false = h
event_peers plan me o (event.Do r) h = go (may plan me o r)
  where
    go : (b : Bool) → OfOffice (next_or o (cond {A = Answer} b (Ok (reply.Done, act me o r)) (Err refusal.NotNow)))
    go true = rule_peers me o r h
    go false = h
event_peers plan me o (event.Send u i) h = go (are_neighbours plan me u) (frame_on (o.pairs.link u) i)
  where
    go : (b : Bool) (f : Option Fields) → OfOffice (next_or o (cond {A = Answer} b (framed o f) (Err refusal.NotNow)))
    go false f = h
    go true None = h
    go true (Some f) = h
event_peers plan me o (event.Took f) h = go (frame_fault plan me o.pairs f)
  where
    go : (x : Option ChannelFault) → OfOffice (next_or o (unless_faulty plan me o f x))
    go None = taking_peers plan me o.pairs f h
    go (Some fault) = h
event_peers plan me o (event.Withdraw t) h = after_withdrawal OfOffice o t h (either_withdrawn OfOffice o t (λ e. h) (λ e. h))

run_peers : (plan : PlanValue) (me : ℕ) (o : Office) (es : List Entry) → OfOffice o → OfOffice (run_of plan me o es)
run_peers plan me o [] h = h
run_peers plan me o (x ∷ xs) h = run_peers plan me (after plan me o x.event) xs (event_peers plan me o x.event h)

pub link_peers : (s : Site) (v : ℕ) → ((office_of s).pairs.link v).peer ≡ v
unfolding office_of
link_peers s v = run_peers s.plan s.me (opened s.plan s.me) s.entries (λ u. refl) v
