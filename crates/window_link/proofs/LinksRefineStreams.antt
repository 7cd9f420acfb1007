-- The two links take each step that the streams take.
use Rattle.std.proofs.Common.{◌≡◌, ℕ, zero, suc, ◌+◌, ◌-◌, ◌≤◌, max, Bool, true, false, not, cond, List, [], ◌∷◌, ◌++◌, length, drop, get_or, Option, Some, None, refl, sym, ap, ◌∙◌, arith}
use Rattle.std.specs.Prelude.{◌&&◌, ◌==◌, nat_lt}
use Rattle.std.proofs.lemmas.Bool.{eq-eqb, le-ltb}
use Rattle.std.proofs.lemmas.List.{length-append, length-drop, drop-drop, drop-append-le, append-nil}
use Rattle.bottle_values.specs.Versions.{number_of}
use Rattle.frame_codec.specs.declared.message.Msg.{Msg}
use Rattle.frame_codec.specs.Frame.{Fields, carries}
use Rattle.window_link.specs.declared.laws.event.End.{End}
use Rattle.window_link.specs.declared.laws.event.End.TheVariants.{Left, Right}
use Rattle.window_link.specs.declared.laws.event.Posted.{Posted}
use Rattle.window_link.specs.declared.laws.event.LinkEvent.{LinkEvent}
use Rattle.window_link.specs.declared.laws.event.LinkEvent.TheVariants.{Queue, Make, Ack, Arrive}
use Rattle.window_link.specs.declared.laws.event.LinkReply.{LinkReply}
use Rattle.window_link.specs.declared.laws.event.LinkReply.TheVariants.{Idle, Queued, Made, Arrived}
use Rattle.window_link.specs.declared.fault.LinkFault.TheVariants.{Stranger, WrongVersion, AckAhead}
use Rattle.window_link.specs.declared.arrival.Arrival.{Arrival}
use Rattle.window_link.specs.declared.arrival.Arrival.TheVariants.{Acked, Fresh, Repeat, Kept, Early}
use Rattle.window_link.specs.Windows.{Sending, Receiving, arrival, next_kept, kept_after, advanced, after_message}
use Rattle.window_link.specs.Links.{LinkState, brings, received_from, fault_of, arrival_at}
use Rattle.window_link.specs.Streams.{Stream, Pair, IsLawful, waiting, other, with_stream, nth, can_send, send, post_waiting, learned, took_next, took_by, took, deliver, happens}
use Rattle.window_link.specs.Streams as streams
use Rattle.window_link.specs.Two.{Ends, at, link_at, ends_of, Accepts}
use Rattle.window_link.specs.refinement.TwoLinksStep.{with_link, with_sending, queue_step, made, made_of, with_frames, followed, settled, after_taking, arrive_step, step}
use Rattle.window_link.proofs.Invariant.{Sound, Honest}
use Rattle.window_link.specs.Limits.{most_waiting, most_kept, greatest}

-- ---- parts of a link's state

abbrev window_of : Stream → Receiving
window_of s = record { taken = length s.taken; kept = s.kept }

shown_link : Pair → End → Stream → Stream → LinkState
shown_link p e out back = record {
  run = p.run;
  me = p.office e;
  peer = p.office (other e);
  sending = record { acked = out.acked; waiting = waiting out };
  receiving = window_of back;
  version = p.version;
}

at_is : (p : Pair) (e : End) → at (ends_of p) e ≡ link_at p e
at_is p Left = refl
at_is p Right = refl

-- where one stream went on, the sender's window and the taker's count did
ends_with : (p : Pair) (e : End) (s : Stream) → ends_of (with_stream p e s) ≡ with_link (with_link (ends_of p) e (shown_link p e s (p.stream (other e)))) (other e) (shown_link p (other e) (p.stream (other e)) s)
unfolding shown_link
ends_with p Left s = refl
ends_with p Right s = refl

with_window : Pair → End → Receiving → LinkState
with_window p e r = record {
  run = p.run;
  me = p.office e;
  peer = p.office (other e);
  sending = record { acked = (p.stream e).acked; waiting = waiting (p.stream e) };
  receiving = r;
  version = p.version;
}

link_sent : (p : Pair) (e : End) (s : Stream) → window_of s ≡ window_of (p.stream e) → shown_link p (other e) (p.stream (other e)) s ≡ at (ends_of p) (other e)
unfolding shown_link with_window
link_sent p Left s same = ap (λ (r : Receiving). with_window p Right r) same
link_sent p Right s same = ap (λ (r : Receiving). with_window p Left r) same

with_other : (t : Ends) (e : End) (l : LinkState) → with_link (with_link t e l) (other e) (at t (other e)) ≡ with_link t e l
with_other t Left l = refl
with_other t Right l = refl

ends_sent : (p : Pair) (e : End) (s : Stream) → window_of s ≡ window_of (p.stream e) → ends_of (with_stream p e s) ≡ with_link (ends_of p) e (shown_link p e s (p.stream (other e)))
ends_sent p e s same =
    ends_with p e s ∙ ap (with_link (with_link (ends_of p) e (shown_link p e s (p.stream (other e)))) (other e)) (link_sent p e s same)
    ∙ with_other (ends_of p) e (shown_link p e s (p.stream (other e)))

-- ---- a message is sent

used_is : (s : Stream) → IsLawful s → s.acked + length (waiting s) ≡ length s.sent
used_is s h =
    let low = h.acknowledged in
    omega (arith, low, length-drop s.acked s.sent, ap length h.begins, length-append s.taken h.ahead)

acked_low : (s : Stream) → IsLawful s → s.acked ≤ length s.sent
acked_low s h = let low = h.acknowledged in omega (arith, low, ap length h.begins, length-append s.taken h.ahead)

more : Stream → Msg → Stream
more s msg = record { sent = s.sent ++ msg ∷ []; taken = s.taken; acked = s.acked; kept = s.kept }

window : ℕ → List Msg → Sending
window acked ms = record { acked = acked; waiting = ms }

link_more : (p : Pair) (e : End) (msg : Msg) → IsLawful (p.stream e) → shown_link p e (more (p.stream e) msg) (p.stream (other e)) ≡ with_sending (link_at p e) msg
unfolding shown_link more
link_more p e msg h =
    ap (λ (ms : List Msg). with_waiting p e ms) (drop-append-le (p.stream e).acked (p.stream e).sent (msg ∷ []) (acked_low (p.stream e) h))
  where
    with_waiting : Pair → End → List Msg → LinkState
    with_waiting p e ms = record { run = p.run; me = p.office e; peer = p.office (other e); sending = record { acked = (p.stream e).acked; waiting = ms }; receiving = window_of (p.stream (other e)); version = p.version }

-- a link in the place of the same link
with_same : (t : Ends) (e : End) → with_link t e (at t e) ≡ t
with_same t Left = refl
with_same t Right = refl

answer : LinkReply × LinkState → Ends → End → LinkReply × Ends
answer r t e = (r.0, with_link t e r.1)

shown : LinkReply × Pair → LinkReply × Ends
shown r = (r.0, ends_of r.1)

step_send : (p : Pair) (e : End) (msg : Msg) → Sound p → step (ends_of p) (Queue e msg) ≡ shown (send p e msg)
unfolding more answer shown
step_send p e msg S =
    let s = p.stream e in
    let h = S.lawful e in
    ap (λ l. answer (queue_step l msg) (ends_of p) e) (at_is p e)
    ∙ ap (λ n. answer (cond (carries p.version msg && nat_lt (length (waiting s)) most_waiting && nat_lt n greatest) (Queued, with_sending (link_at p e) msg) (Idle, link_at p e)) (ends_of p) e) (used_is s h)
    ∙ choice (can_send p.version s msg)
  where
    queued_to : LinkReply × Pair
    queued_to = (Queued, with_stream p e (more (p.stream e) msg))

    choice : (b : Bool) → answer (cond b (Queued, with_sending (link_at p e) msg) (Idle, link_at p e)) (ends_of p) e ≡ shown (cond b (Queued, with_stream p e (more (p.stream e) msg)) (Idle, p))
    choice true = ap (λ t. (Queued, t)) (ap (with_link (ends_of p) e) (sym (link_more p e msg (S.lawful e))) ∙ sym (ends_sent p e (more (p.stream e) msg) refl))
    choice false = ap (λ t. (Idle, t)) (ap (with_link (ends_of p) e) (sym (at_is p e)) ∙ with_same (ends_of p) e)

-- ---- a frame is made

step_post_waiting : (p : Pair) (e : End) (i : ℕ) (msg : Option Msg) → with_frames (ends_of p) (made_of (link_at p e) e i msg) ≡ shown (post_waiting p e i msg)
unfolding shown
step_post_waiting p e i None = ap (λ l. (Idle, record { left = link_at p Left; right = link_at p Right; frames = l })) (append-nil p.frames)
step_post_waiting p e i (Some msg) = refl

-- ---- a frame arrives

link_with : (p : Pair) (e : End) → ℕ → List Msg → Receiving → LinkState
link_with p e acked ms r = record {
  run = p.run;
  me = p.office e;
  peer = p.office (other e);
  sending = record { acked = acked; waiting = ms };
  receiving = r;
  version = p.version;
}

link_same : (p : Pair) (e : End) (out out' back back' : Stream) → out'.sent ≡ out.sent → out'.acked ≡ out.acked → window_of back' ≡ window_of back → shown_link p e out' back' ≡ shown_link p e out back
unfolding shown_link link_with
link_same p e out out' back back' sent acked same =
    ap (λ (l : List Msg). link_with p e out'.acked (drop out'.acked l) (window_of back')) sent
    ∙ ap (λ (n : ℕ). link_with p e n (drop n out.sent) (window_of back')) acked
    ∙ ap (λ (r : Receiving). link_with p e out.acked (drop out.acked out.sent) r) same

-- where the taker learned a count and took a message, only its own link changed
ends_taken : (p : Pair) (e : End) (out' back' : Stream) → out'.sent ≡ (p.stream e).sent → out'.acked ≡ (p.stream e).acked → window_of back' ≡ window_of (p.stream (other e)) →
    ends_of (with_stream (with_stream p (other e) back') e out') ≡ with_link (ends_of p) (other e) (shown_link p (other e) back' out')
unfolding shown_link
ends_taken p Left out' back' sent acked taken =
    ap (λ l. record { left = l; right = shown_link p Right back' out'; frames = p.frames }) (link_same p Left (p.stream Left) out' (p.stream Right) back' sent acked taken)
ends_taken p Right out' back' sent acked taken =
    ap (λ l. record { left = shown_link p Left back' out'; right = l; frames = p.frames }) (link_same p Right (p.stream Right) out' (p.stream Left) back' sent acked taken)

followed_sent : (o : Option Msg) (n : ℕ) (s : Stream) → ((streams.followed o n s).sent ≡ s.sent) × ((streams.followed o n s).acked ≡ s.acked)
followed_sent None n s = (refl, refl)
followed_sent (Some msg) zero s = (refl, refl)
followed_sent (Some msg) (suc n) s = followed_sent (get_or (took_next s msg).kept 0 None) n (took_next s msg)

took_sent : (s : Stream) (number : ℕ) (msg : Option Msg) → ((took s number msg).sent ≡ s.sent) × ((took s number msg).acked ≡ s.acked)
took_sent s number None = (refl, refl)
took_sent s number (Some msg) = by (arrival (length s.taken) number msg)
  where
    by : (a : Arrival) → ((took_by s number msg a).sent ≡ s.sent) × ((took_by s number msg a).acked ≡ s.acked)
    by (Fresh m) = followed_sent (get_or (took_next s m).kept 0 None) most_kept (took_next s m)
    by Acked = (refl, refl)
    by Repeat = (refl, refl)
    by Kept = (refl, refl)
    by Early = (refl, refl)

-- the taker's window goes along
advanced_window : (s : Stream) (msg : Msg) → advanced (window_of s) ≡ window_of (took_next s msg)
advanced_window s msg = ap (λ (n : ℕ). with_count n) (omega (arith, length-append s.taken (msg ∷ [])))
  where
    with_count : ℕ → Receiving
    with_count n = record { taken = n; kept = kept_after s.kept }

followed_window : (o : Option Msg) (n : ℕ) (s : Stream) → followed o n (window_of s) ≡ window_of (streams.followed o n s)
followed_window None n s = refl
followed_window (Some msg) zero s = refl
followed_window (Some msg) (suc n) s =
    ap (λ (r : Receiving). followed (next_kept r) n r) (advanced_window s msg) ∙ followed_window (get_or (took_next s msg).kept 0 None) n (took_next s msg)

took_window : (s : Stream) (number : ℕ) (msg : Option Msg) → settled (brings (length s.taken) number msg) (received_from (window_of s) number msg) ≡ window_of (took s number msg)
took_window s number None = refl
took_window s number (Some msg) = by (arrival (length s.taken) number msg)
  where
    by : (a : Arrival) → settled a (after_message (window_of s) number msg a) ≡ window_of (took_by s number msg a)
    by (Fresh m) = ap (λ (r : Receiving). followed (next_kept r) most_kept r) (advanced_window s m) ∙ followed_window (get_or (took_next s m).kept 0 None) most_kept (took_next s m)
    by Acked = refl
    by Repeat = refl
    by Kept = refl
    by Early = refl

-- what waits is dropped up to the greater count
learned_waiting : (s : Stream) (count : ℕ) → waiting (learned s count) ≡ drop (count - s.acked) (waiting s)
learned_waiting s count =
    let n : s.acked + (count - s.acked) ≡ max s.acked count = omega arith in
    sym (drop-drop (count - s.acked) s.acked s.sent ∙ ap (λ k. drop k s.sent) n)

link_arrived : (p : Pair) (e : End) (f : Fields) (out back : Stream) → after_taking (shown_link p e back out) f ≡ shown_link p e (learned back f.count) (took out f.number f.msg)
unfolding shown_link link_with
link_arrived p e f out back =
    ap (λ (l : List Msg). link_with p e (max back.acked f.count) l (settled (brings (length out.taken) f.number f.msg) (received_from (window_of out) f.number f.msg))) (sym (learned_waiting back f.count))
    ∙ ap (λ (r : Receiving). link_with p e (max back.acked f.count) (waiting (learned back f.count)) r) (took_window out f.number f.msg)

at_other : (p : Pair) (e : End) → at (ends_of p) (other e) ≡ shown_link p (other e) (p.stream (other e)) (p.stream e)
unfolding shown_link
at_other p Left = refl
at_other p Right = refl

arrived : Ends → End → Fields → LinkState → LinkReply × Ends
arrived t d f l = (Arrived (arrival_at l f), with_link t d (after_taking l f))

step_deliver : (p : Pair) (posted : Option Posted) → arrive_step (ends_of p) posted ≡ shown (deliver p posted)
unfolding shown arrived shown_link
step_deliver p None = refl
step_deliver p (Some posted) =
    let e = posted.by in
    let f = posted.frame in
    let out = p.stream e in
    let back = p.stream (other e) in
    let same = took_sent out f.number f.msg in
    ap (λ l. arrived (ends_of p) (other e) f l) (at_other p e)
    ∙ ap (λ l. (Arrived (arrival_at (shown_link p (other e) back out) f), with_link (ends_of p) (other e) l)) (link_arrived p (other e) f out back)
    ∙ ap (λ t. (Arrived (arrival_at (shown_link p (other e) back out) f), t)) (sym (ends_taken p e (took out f.number f.msg) (learned back f.count) same.0 same.1 refl))

-- ---- every event

-- the links' step is the streams'
pub step_is : (p : Pair) (event : LinkEvent) → Sound p → step (ends_of p) event ≡ ((happens p event).0, ends_of (happens p event).1)
unfolding shown
step_is p (Queue e msg) S = step_send p e msg S
step_is p (Make e i) S = ap (λ l. with_frames (ends_of p) (made_of l e i (nth l.sending.waiting i))) (at_is p e) ∙ step_post_waiting p e i (nth (waiting (p.stream e)) i)
step_is p (Ack e) S = ap (λ l. with_frames (ends_of p) (Made, made l e 0 None)) (at_is p e)
step_is p (Arrive k) S = step_deliver p (nth p.frames k)

-- ---- no frame is refused

no_fault : (a b c v d : Bool) → a ≡ true → b ≡ true → c ≡ true → v ≡ true → d ≡ false → cond (not (a && b && c)) (Some Stranger) (cond (not v) (Some WrongVersion) (cond d (Some AckAhead) None)) ≡ None
no_fault a b c v d ae be ce ve de = rw (ae, be, ce, ve, de) refl

other_other : (e : End) → other (other e) ≡ e
other_other Left = refl
other_other Right = refl

accepts_one : (p : Pair) (posted : Posted) → Sound p → Honest p posted → fault_of (at (ends_of p) (other posted.by)) posted.frame ≡ None
accepts_one p posted S h =
    let e = posted.by in
    let f = posted.frame in
    let back = p.stream (other e) in
    let low : f.count ≤ back.acked + length (waiting back) = let c = h.count in omega (arith, c, used_is back (S.lawful (other e)), ap length (S.lawful (other e)).begins, length-append back.taken (S.lawful (other e)).ahead) in
    ap (λ l. fault_of l f) (at_is p (other e))
    ∙ no_fault (f.run == p.run) (f.from == p.office (other (other e))) (f.to == p.office (other e)) (number_of f.version == number_of p.version) (nat_lt (back.acked + length (waiting back)) f.count)
    (eq-eqb f.run p.run h.run) (eq-eqb _ _ (h.from ∙ ap p.office (sym (other_other e)))) (eq-eqb _ _ h.to) (eq-eqb _ _ (ap number_of h.version)) (le-ltb _ _ low)

pub accepts_all : (p : Pair) → Sound p → Accepts (ends_of p)
accepts_all p S k posted is = accepts_one p posted S (S.honest k posted is)
