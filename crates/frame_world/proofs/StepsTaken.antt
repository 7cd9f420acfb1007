-- A rule that may be done is done, and the message that is next is sent and taken.
use Rattle.std.proofs.Common.{◌≡◌, ℕ, zero, suc, ◌+◌, ◌-◌, ◌<◌, ◌≤◌, Bool, true, false, cond, List, [], ◌∷◌, ◌++◌, length, Option, None, Some, Ok, Err, refl, sym, ap, ◌∙◌, subst, arith}
use Rattle.std.specs.Prelude.{◌==◌, nat_lt, nat_le, slice_get, Result}
use Rattle.std.proofs.lemmas.Bool.{lt-ltb, lt-leb, le-leb, eq-eqb}
use Rattle.std.proofs.lemmas.List.{get_or-set_other}
use Rattle.frame_codec.specs.declared.message.Msg.{Msg}
use Rattle.frame_codec.specs.Frame.{Fields}
use Rattle.office_map.specs.PlanValue.{PlanValue, are_neighbours}
use Rattle.office_map.specs.Consistency.{IsConsistent}
use Rattle.office_map.specs.NeighbourLaws.{near_both, near_within, neighbours_apart}
use Rattle.window_link.specs.declared.arrival.Arrival.TheVariants as arrival
use Rattle.window_link.specs.Limits.{most_kept}
use Rattle.window_link.specs.Links.{LinkState, frame_of, brings}
use Rattle.token_channel.specs.declared.fault.ChannelFault.{ChannelFault}
use Rattle.office_journal.specs.declared.event.Event as office
use Rattle.office_journal.specs.declared.event.Event.TheVariants as event
use Rattle.office_journal.specs.declared.reply.Reply.{Reply}
use Rattle.office_journal.specs.declared.reply.Reply.TheVariants as reply
use Rattle.office_journal.specs.declared.reply.Refusal.TheVariants as refused
use Rattle.site_core.specs.Limits.{most_entries}
use Rattle.site_core.specs.Replies.{reply_to}
use Rattle.site_core.specs.Pairs.{frame_fault, arrival_of, after_taking}
use Rattle.site_core.specs.Offices.{Office, Answer, answer, may, act, framed, frame_on, with_pairs, unless_faulty}
use Rattle.site_core.specs.Journals.{Site, office_of, noted, recorded, step}
use Rattle.frame_world.specs.declared.event.WorldEvent.{WorldEvent}
use Rattle.frame_world.specs.declared.event.WorldEvent.TheVariants as happening
use Rattle.frame_world.specs.declared.refusal.WorldRefusal.{WorldRefusal}
use Rattle.frame_world.specs.declared.refusal.WorldRefusal.TheVariants as refusal
use Rattle.frame_world.specs.Worlds.{World, opening, run_of, site_at, office_at, silent, told, handed, delivered, happens}
use Rattle.frame_world.specs.Worlds as worlds
use Rattle.frame_world.specs.Ways.{pairs_at}
use Rattle.frame_world.specs.Headline.{Always, FramesAreTaken, is_fault}
use Rattle.frame_world.specs.Standstill.{taken_of, IsNextMessage, place_of, HasRoom, IsSentAndTaken, RulesAreDone, MessagesAreTaken}
use Rattle.frame_world.specs.WorldStates.{IsSeated, state_of}
use Rattle.frame_world.specs.WorldLaws.{seated, as_seated}
use Rattle.frame_world.proofs.Following.{Follows, follows}

clash : (b : Bool) → b ≡ true → b ≡ false → ⊥
clash true e f = absurd cc
clash false e f = absurd cc

abbrev ok : Reply → Result Reply WorldRefusal
ok r = Ok r

-- an accepted event, where there is room
handed_ok : (w : World) (a : ℕ) (e : office.Event) (r : Reply) (o : Office) → nat_lt a (length w.sites) ≡ true → answer (site_at w a).plan (site_at w a).me (office_at w a) e ≡ Ok (r, o) → nat_le most_entries (length (site_at w a).entries) ≡ false →
    handed w a e ≡ told w a e (Ok r, noted (site_at w a) 0 e r)
handed_ok w a e r o inside ans room =
    let s : Site = site_at w a in
    ap (λ b. cond b (told w a e (step s 0 e)) (Err refusal.NoOffice, w)) inside
    ∙ ap (λ x. told w a e (recorded s 0 e x)) ans
    ∙ ap (λ b. told w a e (cond b (Err refused.JournalFull, s) (Ok r, noted s 0 e r))) room

pub rules_are_done : Always RulesAreDone
rules_are_done plan es c a rule m room =
    let w : World = run_of (opening plan) es in
    let s : IsSeated plan w = seated plan es in
    let guard : may plan a (office_at w a) rule ≡ true = ap (λ p. may p a (office_at w a) rule) (sym s.planned) ∙ m.guard in
    let ans : answer (site_at w a).plan (site_at w a).me (office_at w a) (event.Do rule) ≡ Ok (reply.Done, act a (office_at w a) rule) =
    as_seated plan w a (event.Do rule) s ∙ ap (λ b. cond {A = Answer} b (Ok (reply.Done, act a (office_at w a) rule)) (Err refused.NotNow)) guard in
    ap (λ (x : worlds.Answer). x.0) (handed_ok w a (event.Do rule) reply.Done (act a (office_at w a) rule) (lt-ltb a (length w.sites) (omega (arith, m.of_plan, s.size, ap (λ (p : PlanValue). length p.offices) s.planned))) ans (lt-leb most_entries (length (site_at w a).entries) room))

-- ---- the next message

run_more : (w : World) (es : List WorldEvent) (e : WorldEvent) → run_of w (es ++ e ∷ []) ≡ (happens (run_of w es) e).1
run_more w [] e = refl
run_more w (x ∷ xs) e = run_more (happens w x).1 xs e

last_of : (xs : List Fields) (f : Fields) → slice_get (xs ++ f ∷ []) (length xs) ≡ Some f
last_of [] f = refl
last_of (x ∷ xs) f = last_of xs f

-- the i-th that waits
there_waits : (ms : List Msg) (i : ℕ) → i < length ms → (m : Msg) × (slice_get ms i ≡ Some m)
there_waits [] i lt = absurd (omega (arith, lt))
there_waits (m ∷ ms) zero lt = (m, refl)
there_waits (m ∷ ms) (suc i) lt = there_waits ms i (omega (arith, lt))

fresh_reply : (taken number : ℕ) (m : Msg) → number ≡ taken + 1 → reply_to (brings taken number (Some m)) ≡ reply.Taken
fresh_reply taken number m e =
    ap (λ b. reply_to (cond b arrival.Repeat (cond (number == taken + 1) (arrival.Fresh m) (cond (nat_le number (taken + most_kept)) arrival.Kept arrival.Early)))) (lt-leb number taken (omega (arith, e)))
    ∙ ap (λ b. reply_to (cond b (arrival.Fresh m) (cond (nat_le number (taken + most_kept)) arrival.Kept arrival.Early))) (eq-eqb number (taken + 1) e)

-- a frame that comes to an office with room, isn't refused for what it says, and is fresh
taken_there : (plan : PlanValue) (w : World) (b : ℕ) (f : Fields) → IsSeated plan w → nat_lt b (length w.sites) ≡ true → nat_le most_entries (length (site_at w b).entries) ≡ false →
    ((r : WorldRefusal) → (handed w b (event.Took f)).0 ≡ Err r → is_fault r ≡ false) → reply_to (arrival_of (office_at w b).pairs f) ≡ reply.Taken → (handed w b (event.Took f)).0 ≡ Ok reply.Taken
taken_there plan w b f seat inside room fine fresh = go (frame_fault plan b (office_at w b).pairs f) refl
  where
    go : (x : Option ChannelFault) → frame_fault plan b (office_at w b).pairs f ≡ x → (handed w b (event.Took f)).0 ≡ Ok reply.Taken
    go None h =
        ap (λ (x : worlds.Answer). x.0) (handed_ok w b (event.Took f) (reply_to (arrival_of (office_at w b).pairs f)) (with_pairs (office_at w b) (after_taking plan b (office_at w b).pairs f)) inside (as_seated plan w b (event.Took f) seat ∙ ap (unless_faulty plan b (office_at w b) f) h) room)
        ∙ ap ok fresh
    go (Some fault) h =
        let ans : answer (site_at w b).plan (site_at w b).me (office_at w b) (event.Took f) ≡ Err (refused.Channel fault) = as_seated plan w b (event.Took f) seat ∙ ap (unless_faulty plan b (office_at w b) f) h in
        let is : (handed w b (event.Took f)).0 ≡ Err (refusal.Office (refused.Channel fault)) =
        ap (λ (x : worlds.Answer). x.0) (ap (λ c. cond c (told w b (event.Took f) (step (site_at w b) 0 (event.Took f))) (Err refusal.NoOffice, w)) inside ∙ ap (λ x. told w b (event.Took f) (recorded (site_at w b) 0 (event.Took f) x)) ans) in
        absurd (clash true refl (fine (refusal.Office (refused.Channel fault)) is))

module _ (plan : PlanValue) (es : List WorldEvent) (a b number : ℕ) (c : IsConsistent plan) (m : IsNextMessage (run_of (opening plan) es) a b number)
    (room_a : HasRoom (run_of (opening plan) es) a) (room_b : HasRoom (run_of (opening plan) es) b) where
  abbrev w : World
  w = run_of (opening plan) es

  seat : IsSeated plan w
  seat = seated plan es

  follow : Follows plan (state_of w)
  follow = follows plan es

  near : are_neighbours plan a b ≡ true
  near = ap (λ (p : PlanValue). are_neighbours p a b) (sym seat.planned) ∙ m.near

  abbrev l : LinkState
  l = (pairs_at w a).link b

  -- how many that wait were taken
  abbrev j : ℕ
  j = taken_of w a b - l.sending.acked

  known : l.sending.acked ≤ taken_of w a b
  known = (follow.linked.linked a b).known

  abbrev f : Fields
  f = frame_of l (suc j)

  place_is : place_of w a b number ≡ suc j
  place_is = omega (arith, m.next, known)

  behind : j < length l.sending.waiting
  behind = omega (arith, m.next, m.sent, known)

  inside : (x : ℕ) → x < length plan.offices → nat_lt x (length w.sites) ≡ true
  inside x lt = lt-ltb x (length w.sites) (omega (arith, lt, seat.size))

  a_inside : a < length plan.offices
  a_inside = near_within plan b a c (near_both plan b a ∙ near)

  b_inside : b < length plan.offices
  b_inside = near_within plan a b c near

  abbrev sending : WorldEvent
  sending = happening.Send a b (place_of w a b number)

  abbrev w1 : World
  w1 = (told w a (event.Send b (place_of w a b number)) (Ok (reply.Frame f), noted (site_at w a) 0 (event.Send b (place_of w a b number)) (reply.Frame f))).1

  sends : happens w sending ≡ told w a (event.Send b (place_of w a b number)) (Ok (reply.Frame f), noted (site_at w a) 0 (event.Send b (place_of w a b number)) (reply.Frame f))
  sends = handed_ok w a (event.Send b (place_of w a b number)) (reply.Frame f) (office_at w a) (inside a a_inside)
      (as_seated plan w a (event.Send b (place_of w a b number)) seat
      ∙ ap (λ x. cond {A = Answer} x (framed (office_at w a) (frame_on l (place_of w a b number))) (Err refused.NotNow)) near
      ∙ ap (λ k. framed (office_at w a) (frame_on l k)) place_is
      ∙ ap (λ x. framed (office_at w a) (cond x (Some f) None)) (le-leb (suc j) (length l.sending.waiting) (omega (arith, behind))))
      (lt-leb most_entries (length (site_at w a).entries) room_a)

  led : run_of (opening plan) (es ++ sending ∷ []) ≡ w1
  led = run_more (opening plan) es sending ∙ ap (λ (x : worlds.Answer). x.1) sends

  seat1 : IsSeated plan w1
  seat1 = subst (IsSeated plan) led (seated plan (es ++ sending ∷ []))

  -- the other office stays
  same_site : site_at w1 b ≡ site_at w b
  same_site = get_or-set_other w.sites a b (noted (site_at w a) 0 (event.Send b (place_of w a b number)) (reply.Frame f)) (silent w.plan b) (λ e. neighbours_apart plan a b c near (sym e))

  goes_to : f.to ≡ b
  goes_to = follow.linked.peer a b

  comes_from : f.from ≡ a
  comes_from = follow.linked.me a b

  deliver_is : happens w1 (happening.Deliver (suc (length w.frames))) ≡ handed w1 b (event.Took f)
  deliver_is = ap (delivered w1) (last_of w.frames f) ∙ ap (λ x. handed w1 x (event.Took f)) goes_to

  number_is : f.number ≡ taken_of w a b + 1
  number_is = omega (arith, known)

  fresh : reply_to (arrival_of (office_at w1 b).pairs f) ≡ reply.Taken
  fresh =
      let mine : (x : Msg) × (slice_get l.sending.waiting j ≡ Some x) = there_waits l.sending.waiting j behind in
      let this : suc j - 1 ≡ j = omega arith in
      ap (λ (s : Site). reply_to (arrival_of (office_of s).pairs f)) same_site
      ∙ ap (λ x. reply_to (brings (((pairs_at w b).link x).receiving.taken) f.number f.msg)) comes_from
      ∙ ap (λ k. reply_to (brings (taken_of w a b) f.number (slice_get l.sending.waiting k))) this
      ∙ ap (λ x. reply_to (brings (taken_of w a b) f.number x)) mine.1
      ∙ fresh_reply (taken_of w a b) f.number mine.0 number_is

  room1 : nat_le most_entries (length (site_at w1 b).entries) ≡ false
  room1 = lt-leb most_entries (length (site_at w1 b).entries) (subst (λ (s : Site). length s.entries < most_entries) (sym same_site) room_b)

  is_sent : Always FramesAreTaken → IsSentAndTaken w a b number
  is_sent fine = record {
    frame = f;
    sent = ap (λ (x : worlds.Answer). x.0) sends;
    taken = ap (λ (x : worlds.Answer). (happens x.1 (happening.Deliver (suc (length w.frames)))).0) sends ∙ ap (λ (x : worlds.Answer). x.0) deliver_is
        ∙ taken_there plan w1 b f seat1 (ap (λ n. nat_lt b n) (seat1.size ∙ sym seat.size) ∙ inside b b_inside) room1
        (λ r e. subst FramesAreTaken led (fine plan (es ++ sending ∷ []) c) (happening.Deliver (suc (length w.frames))) r (ap (λ (x : worlds.Answer). x.0) deliver_is ∙ e)) fresh;
  }

pub messages_are_taken : Always FramesAreTaken → Always MessagesAreTaken
messages_are_taken fine plan es c a b number m room_a room_b = is_sent plan es a b number c m room_a room_b fine
