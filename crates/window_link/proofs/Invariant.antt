-- Every run keeps both ends lawful, and every frame that was made true.
use Rattle.std.proofs.Common.{◌≡◌, ℕ, zero, suc, ◌+◌, ◌-◌, ◌<◌, ◌≤◌, max, Bool, true, false, List, [], ◌∷◌, ◌++◌, length, drop, replicate, get_or, Option, Some, None, refl, sym, ap, ◌∙◌, subst, arith, ⊎_elim, append_assoc}
use Rattle.std.specs.Prelude.{slice_get, ◌&&◌}
use Rattle.std.proofs.lemmas.Bool.{cond_both, ltb-true, and_parts}
use Rattle.std.proofs.lemmas.List.{length-append, length-drop}
use Rattle.bottle_values.specs.ListLaws.{get_left, get_push, get-drop}
use Rattle.bottle_values.specs.declared.version.Version.{Version}
use Rattle.frame_codec.specs.Frame.{carries}
use Rattle.frame_codec.specs.declared.message.Msg.{Msg}
use Rattle.window_link.specs.declared.laws.event.End.{End}
use Rattle.window_link.specs.declared.laws.event.End.TheVariants.{Left, Right}
use Rattle.window_link.specs.declared.laws.event.Posted.{Posted}
use Rattle.window_link.specs.declared.laws.event.LinkEvent.{LinkEvent}
use Rattle.window_link.specs.declared.laws.event.LinkEvent.TheVariants.{Queue, Make, Ack, Arrive}
use Rattle.window_link.specs.declared.laws.event.LinkReply.{LinkReply}
use Rattle.window_link.specs.declared.arrival.Arrival.{Arrival}
use Rattle.window_link.specs.declared.arrival.Arrival.TheVariants.{Acked, Fresh, Repeat, Kept, Early}
use Rattle.window_link.specs.Windows.{arrival, kept_with}
use Rattle.window_link.specs.Streams.{Stream, Pair, IsLawful, waiting, other, with_end, with_stream, nth, can_send, send, post, post_waiting, learned, took_next, followed, took_by, took, deliver, happens, opening, run_of, StreamsStayLawful}
use Rattle.window_link.specs.Limits.{most_waiting, most_kept}
use Rattle.window_link.specs.WindowLaws.{Stands, stands, get-after, get-with}

-- ---- lists

nth-append : {X : Type 0} (xs ys : List X) (k : ℕ) (x : X) → nth xs k ≡ Some x → nth (xs ++ ys) k ≡ Some x
nth-append xs ys zero x e = absurd cc
nth-append xs ys (suc k) x e = get_left xs ys k x e

-- a waiting message is the sent one of its number
pub nth-drop : {X : Type 0} (xs : List X) (n i : ℕ) (x : X) → nth (drop n xs) i ≡ Some x → nth xs (n + i) ≡ Some x
nth-drop xs n zero x e = absurd cc
nth-drop xs n (suc i) x e =
    let s : suc (n + i) ≡ n + suc i = omega arith in
    subst (λ k. nth xs k ≡ Some x) s (sym (get-drop xs n i) ∙ e)

-- what stands at the place where one list ends begins the other
next_of : {X : Type 0} (xs ys : List X) (x : X) → slice_get (xs ++ ys) (length xs) ≡ Some x → (rest : List X) × (ys ≡ x ∷ rest)
next_of [] [] x e = absurd cc
next_of [] (y ∷ ys) x e = (ys, cc)
next_of (z ∷ xs) ys x e = next_of xs ys x e

-- ---- ends

-- what holds of the changed value and of all old ones
pub put_all : {X : Type 0} (P : End → X → Type 0) (f : End → X) (e : End) (x : X) → P e x → ((d : End) → P d (f d)) → (d : End) → P d (with_end f e x d)
put_all P f Left x here there Left = here
put_all P f Left x here there Right = there Right
put_all P f Right x here there Left = there Left
put_all P f Right x here there Right = here

pub put_back : {X : Type 0} (f : End → X) (e : End) (x : X) → with_end f (other e) x e ≡ f e
put_back f Left x = refl
put_back f Right x = refl

-- ---- a stream that goes on

pub record Grows (s t : Stream) : Type 0 where
  pub sent : (k : ℕ) (msg : Msg) → nth s.sent k ≡ Some msg → nth t.sent k ≡ Some msg
  pub taken : length s.taken ≤ length t.taken

grows_none : (s : Stream) → Grows s s
grows_none s = record { sent = λ k msg e. e; taken = omega arith }

-- the frame of an end is of a message that it sent, and its count is of messages that it took
pub record Honest (p : Pair) (posted : Posted) : Type 0 where
  pub run : posted.frame.run ≡ p.run
  pub version : posted.frame.version ≡ p.version
  pub from : posted.frame.from ≡ p.office posted.by
  pub to : posted.frame.to ≡ p.office (other posted.by)
  pub count : posted.frame.count ≤ length (p.stream (other posted.by)).taken
  pub sent : (msg : Msg) → posted.frame.msg ≡ Some msg → nth (p.stream posted.by).sent posted.frame.number ≡ Some msg

pub record Sound (p : Pair) : Type 0 where
  pub lawful : (e : End) → IsLawful (p.stream e)
  pub honest : (k : ℕ) (posted : Posted) → slice_get p.frames k ≡ Some posted → Honest p posted

with_streams : Pair → (End → Stream) → Pair
with_streams p f = record { run = p.run; office = p.office; stream = f; frames = p.frames; version = p.version }

honest_grown : (p : Pair) (f : End → Stream) (posted : Posted) → ((e : End) → Grows (p.stream e) (f e)) → Honest p posted → Honest (with_streams p f) posted
unfolding with_streams
honest_grown p f posted g h = record {
  run = h.run;
  version = h.version;
  from = h.from;
  to = h.to;
  count = let more = (g (other posted.by)).taken in let old = h.count in omega arith;
  sent = λ msg e. (g posted.by).sent posted.frame.number msg (h.sent msg e);
}

-- one stream went on
pub sound_with : (p : Pair) (e : End) (s : Stream) → Sound p → Grows (p.stream e) s → IsLawful s → Sound (with_stream p e s)
unfolding with_streams
sound_with p e s S g h = record {
  lawful = put_all (λ d t. IsLawful t) p.stream e s h S.lawful;
  honest = λ k posted is. honest_grown p (with_end p.stream e s) posted (put_all (λ d t. Grows (p.stream d) t) p.stream e s g (λ d. grows_none (p.stream d))) (S.honest k posted is);
}

-- ---- the events

sent_more : Stream → Msg → Stream
sent_more s msg = record { sent = s.sent ++ msg ∷ []; taken = s.taken; acked = s.acked; kept = s.kept }

lawful_sent : (s : Stream) (msg : Msg) → IsLawful s → length (waiting s) < most_waiting → IsLawful (sent_more s msg)
unfolding sent_more
lawful_sent s msg h room = record {
  ahead = h.ahead ++ msg ∷ [];
  begins = ap (λ l. l ++ msg ∷ []) h.begins ∙ append_assoc s.taken h.ahead (msg ∷ []);
  acknowledged = h.acknowledged;
  few = omega (arith, room, length-drop s.acked s.sent, length-drop s.acked (s.sent ++ msg ∷ []), length-append s.sent (msg ∷ []));
  kept = λ k m e. get_left s.sent (msg ∷ []) (length s.taken + k) m (h.kept k m e);
}

grows_sent : (s : Stream) (msg : Msg) → Grows s (sent_more s msg)
unfolding sent_more
grows_sent s msg = record { sent = λ k m e. nth-append s.sent (msg ∷ []) k m e; taken = omega arith }

and_left : (a b : Bool) → (a && b) ≡ true → a ≡ true
and_left true b e = refl
and_left false b e = absurd cc

sound_send : (p : Pair) (e : End) (msg : Msg) → Sound p → Sound (send p e msg).1
unfolding sent_more
sound_send p e msg S =
    let s = p.stream e in
    cond_both {A = LinkReply × Pair} (can_send p.version s msg) _ _ (λ r. Sound r.1)
    (λ yes. sound_with p e (sent_more s msg) S (grows_sent s msg) (lawful_sent s msg (S.lawful e) (ltb-true _ _ (and_parts (carries p.version msg) _ (and_left _ _ yes)).1)))
    (λ no. S)

sound_post : (p : Pair) (e : End) (number : ℕ) (msg : Option Msg) → Sound p → ((m : Msg) → msg ≡ Some m → nth (p.stream e).sent number ≡ Some m) → Sound (post p e number msg).1
sound_post p e number msg S placed = record {
  lawful = S.lawful;
  honest = λ k posted is. ⊎_elim
      (λ old. let h = S.honest k posted old in record { run = h.run; version = h.version; from = h.from; to = h.to; count = h.count; sent = h.sent })
      (λ new. subst (Honest _) new (record { run = refl; version = refl; from = refl; to = refl; count = omega arith; sent = placed }))
      (get_push p.frames _ posted k is);
}

sound_post_waiting : (p : Pair) (e : End) (i : ℕ) (msg : Option Msg) → Sound p → nth (waiting (p.stream e)) i ≡ msg → Sound (post_waiting p e i msg).1
sound_post_waiting p e i None S is = S
sound_post_waiting p e i (Some msg) S is =
    sound_post p e _ (Some msg) S (λ m same. nth-drop (p.stream e).sent (p.stream e).acked i m (is ∙ same))

lawful_learned : (s : Stream) (count : ℕ) → IsLawful s → count ≤ length s.taken → IsLawful (learned s count)
lawful_learned s count h low = record {
  ahead = h.ahead;
  begins = h.begins;
  acknowledged = let old = h.acknowledged in omega arith;
  few = let old = h.few in omega (arith, length-drop s.acked s.sent, length-drop (max s.acked count) s.sent);
  kept = h.kept;
}

grows_learned : (s : Stream) (count : ℕ) → Grows s (learned s count)
grows_learned s count = record { sent = λ k msg e. e; taken = omega arith }

lawful_taken : (s : Stream) (msg : Msg) → IsLawful s → slice_get s.sent (length s.taken) ≡ Some msg → IsLawful (took_next s msg)
lawful_taken s msg h is =
    let found : (rest : List Msg) × (h.ahead ≡ msg ∷ rest) = next_of s.taken h.ahead msg (subst (λ l. slice_get l (length s.taken) ≡ Some msg) h.begins is) in
    record {
      ahead = found.0;
      begins = h.begins ∙ ap (λ l. s.taken ++ l) found.1 ∙ sym (append_assoc s.taken (msg ∷ []) found.0);
      acknowledged = let old = h.acknowledged in omega (arith, length-append s.taken (msg ∷ []));
      few = h.few;
      kept = λ k m e.
          let at : length s.taken + suc k ≡ length (s.taken ++ msg ∷ []) + k = omega (arith, length-append s.taken (msg ∷ [])) in
          subst (λ j. slice_get s.sent j ≡ Some m) at (h.kept (suc k) m (sym (get-after s.kept k) ∙ e));
    }

grows_taken : (s : Stream) (msg : Msg) → Grows s (took_next s msg)
grows_taken s msg = record { sent = λ k m e. e; taken = omega (arith, length-append s.taken (msg ∷ [])) }

grows_both : (s t u : Stream) → Grows s t → Grows t u → Grows s u
grows_both s t u g h = record { sent = λ k m e. h.sent k m (g.sent k m e); taken = omega (arith, g.taken, h.taken) }

-- what is kept was sent, so that it is taken lawfully
lawful_followed : (o : Option Msg) (n : ℕ) (s : Stream) → IsLawful s → get_or s.kept 0 None ≡ o → IsLawful (followed o n s) × Grows s (followed o n s)
lawful_followed None n s h is = (h, grows_none s)
lawful_followed (Some msg) zero s h is = (h, grows_none s)
lawful_followed (Some msg) (suc n) s h is =
    let first : length s.taken + 0 ≡ length s.taken = omega arith in
    let here : slice_get s.sent (length s.taken) ≡ Some msg = subst (λ k. slice_get s.sent k ≡ Some msg) first (h.kept 0 msg is) in
    let rest : IsLawful (followed (get_or (took_next s msg).kept 0 None) n (took_next s msg)) × Grows (took_next s msg) (followed (get_or (took_next s msg).kept 0 None) n (took_next s msg)) =
    lawful_followed (get_or (took_next s msg).kept 0 None) n (took_next s msg) (lawful_taken s msg h here) refl in
    (rest.0, grows_both s (took_next s msg) _ (grows_taken s msg) rest.1)

kept_more : Stream → ℕ → Msg → Stream
kept_more s number msg = record { sent = s.sent; taken = s.taken; acked = s.acked; kept = kept_with s.kept (number - (length s.taken + 1)) msg }

lawful_kept : (s : Stream) (number : ℕ) (msg : Msg) → IsLawful s → length s.taken + 1 < number → nth s.sent number ≡ Some msg → IsLawful (kept_more s number msg)
unfolding kept_more
lawful_kept s number msg h ahead placed = record {
  ahead = h.ahead;
  begins = h.begins;
  acknowledged = h.acknowledged;
  few = h.few;
  kept = λ k m e. ⊎_elim
      (λ old. h.kept k m old)
      (λ new.
      let at : number ≡ suc (length s.taken + k) = omega (arith, new.0, ahead) in
      subst (λ j. nth s.sent j ≡ Some msg) at placed ∙ ap Some new.1)
      (get-with s.kept (number - (length s.taken + 1)) k msg m e);
}

-- a message that was sent is taken or kept lawfully, or not at all
lawful_took : (s : Stream) (number : ℕ) (msg : Option Msg) → IsLawful s → ((m : Msg) → msg ≡ Some m → nth s.sent number ≡ Some m) → IsLawful (took s number msg) × Grows s (took s number msg)
unfolding kept_more
lawful_took s number None h placed = (h, grows_none s)
lawful_took s number (Some msg) h placed = by (arrival (length s.taken) number msg) (stands (length s.taken) number msg)
  where
    by : (a : Arrival) → Stands (length s.taken) number msg a → IsLawful (took_by s number msg a) × Grows s (took_by s number msg a)
    by (Fresh m) is =
        let next : number ≡ suc (length s.taken) = omega (arith, is.0) in
        let one : IsLawful (took_next s m) = lawful_taken s m h (subst (λ k. nth s.sent k ≡ Some m) next (placed msg refl ∙ ap Some is.1)) in
        let rest : IsLawful (followed (get_or (took_next s m).kept 0 None) most_kept (took_next s m)) × Grows (took_next s m) (followed (get_or (took_next s m).kept 0 None) most_kept (took_next s m)) =
        lawful_followed (get_or (took_next s m).kept 0 None) most_kept (took_next s m) one refl in
        (rest.0, grows_both s (took_next s m) _ (grows_taken s m) rest.1)
    by Kept is = (lawful_kept s number msg h is.0 (placed msg refl), record { sent = λ k m e. e; taken = omega arith })
    by Repeat is = (h, grows_none s)
    by Early is = (h, grows_none s)
    by Acked is = absurd is

sound_deliver : (p : Pair) (posted : Option Posted) → Sound p → ((f : Posted) → posted ≡ Some f → Honest p f) → Sound (deliver p posted).1
sound_deliver p None S honest = S
sound_deliver p (Some posted) S honest =
    let e = posted.by in
    let f = posted.frame in
    let h : Honest p posted = honest posted refl in
    let back = p.stream (other e) in
    let learnt : Sound (with_stream p (other e) (learned back f.count)) =
    sound_with p (other e) (learned back f.count) S (grows_learned back f.count) (lawful_learned back f.count (S.lawful (other e)) h.count) in
    let t : IsLawful (took (p.stream e) f.number f.msg) × Grows (p.stream e) (took (p.stream e) f.number f.msg) =
    lawful_took (p.stream e) f.number f.msg (S.lawful e) h.sent in
    sound_with (with_stream p (other e) (learned back f.count)) e (took (p.stream e) f.number f.msg) learnt
    (subst (λ s. Grows s (took (p.stream e) f.number f.msg)) (sym (put_back p.stream e (learned back f.count))) t.1) t.0

nth-get : {X : Type 0} (xs : List X) (k : ℕ) (x : X) → nth xs k ≡ Some x → (j : ℕ) × (slice_get xs j ≡ Some x)
nth-get xs zero x e = absurd cc
nth-get xs (suc k) x e = (k, e)

pub nth_honest : (p : Pair) (k : ℕ) → Sound p → (f : Posted) → nth p.frames k ≡ Some f → Honest p f
nth_honest p k S f is = let j = nth-get p.frames k f is in S.honest j.0 f j.1

pub sound_happens : (p : Pair) (event : LinkEvent) → Sound p → Sound (happens p event).1
sound_happens p (Queue e msg) S = sound_send p e msg S
sound_happens p (Make e i) S = sound_post_waiting p e i _ S refl
sound_happens p (Ack e) S = sound_post p e 0 None S (λ m is. absurd cc)
sound_happens p (Arrive k) S = sound_deliver p (nth p.frames k) S (nth_honest p k S)

pub sound_run : (p : Pair) (events : List LinkEvent) → Sound p → Sound (run_of p events)
sound_run p [] S = S
sound_run p (event ∷ events) S = sound_run (happens p event).1 events (sound_happens p event S)

pub sound_opening : (run : ℕ) (office : End → ℕ) (version : Version) → Sound (opening run office version)
sound_opening run office version = record {
  lawful = λ e. record { ahead = []; begins = refl; acknowledged = omega arith; few = omega arith; kept = λ k m is. absurd (none most_kept k m is) };
  honest = λ k posted is. absurd cc;
}
  where
    none : (n k : ℕ) (m : Msg) → get_or {A = Option Msg} (replicate n None) k None ≡ Some m → ⊥
    none zero k m e = absurd cc
    none (suc n) zero m e = absurd cc
    none (suc n) (suc k) m e = none n k m e

pub streams_kept : StreamsStayLawful
streams_kept run office version events e = (sound_run (opening run office version) events (sound_opening run office version)).lawful e
