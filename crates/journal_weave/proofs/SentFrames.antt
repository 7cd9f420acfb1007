-- One frame more in the map of frames that were sent, and what is looked up there.
use Rattle.std.proofs.Common.{◌≡◌, ℕ, zero, suc, ◌+◌, ◌<◌, ◌≤◌, Bool, true, false, cond, List, [], ◌∷◌, ◌++◌, length, map, get_or, Option, None, Some, refl, sym, ap, ◌∙◌, subst, arith, ⊎_elim}
use Rattle.std.specs.Prelude.{IsTrue, ◌↔◌, slice_get, option_to_list}
use Rattle.std.specs.BTreeMap.{get}
use Rattle.std.specs.Option.{option_and_then}
use Rattle.std.specs.Ordering.{is_eq}
use Rattle.std.specs.declared.cmp.Ordering.{Ordering}
use Rattle.std.proofs.lemmas.Bool.{false≢true}
use Rattle.std.proofs.lemmas.List.{length-map, map-append}
use Rattle.std.proofs.lemmas.Option.{slice_get-get_or, slice_get_past}
use Rattle.std.proofs.lemmas.List.Elements.{All-nil, All-cons, All-append}
use Rattle.frame_codec.specs.Frame.{Fields, IsFrame}
use Rattle.office_journal.specs.declared.event.Entry.{Entry}
use Rattle.office_journal.specs.declared.reply.Reply.{Reply}
use Rattle.office_journal.specs.declared.reply.Reply.TheVariants as reply
use Rattle.office_journal.specs.Replies.{frame_told}
use Rattle.frame_codec.specs.SpellingLaws.{same_version}
use Rattle.frame_world.specs.declared.sent.SentAt.{SentAt}
use Rattle.frame_world.specs.Sent.{entry_tells, told_in}
use Rattle.frame_world.specs.Worlds.{World, frames_of}
use Rattle.frame_world.specs.Headline.{NumbersTellMessages}
use Rattle.journal_weave.specs.declared.key.FrameKey.{FrameKey}
use Rattle.journal_weave.specs.declared.sent.SentFrames.{SentFrames}
use Rattle.journal_weave.specs.ReplayValue.{ReplayValue}
use Rattle.journal_weave.specs.refinement.Keys.{key_of}
use Rattle.journal_weave.specs.refinement.Merging.{WasSent, WasNotSent, WasSentAs, AreOne, number_in, told_by, Knows}
use Rattle.bottle_values.specs.ListLaws.{get_push, get_left, at_seam}

module _ (C : FrameKey → FrameKey → Ordering) (rs : List ReplayValue) (s s' : SentFrames) (f : Fields) (m : SentAt) where
  -- whether another frame has the same key
  abbrev alike : Fields → Bool
  alike g = is_eq (C (key_of f) (key_of g))

  pub known_more : (k : FrameKey) (n : ℕ) → IsFrame f → k ≡ key_of f → ((g : Fields) → IsTrue (alike g) ↔ (key_of f ≡ key_of g)) → s'.sent.items ≡ s.sent.items ++ m ∷ [] → told_by rs m ≡ Some f → n ≡ length s.sent.items + 1 →
      ((q : FrameKey) → get C s'.numbers q ≡ cond (is_eq (C k q)) (Some n) (get C s.numbers q)) → (frames : List Fields) → Knows C rs s frames → Knows C rs s' (frames ++ f ∷ [])
  known_more k n fits key apart more told count updates frames known = record {
    told = ap (map (told_by rs)) more ∙ map-append (told_by rs) s.sent.items (m ∷ []) ∙ ap (λ l. l ++ told_by rs m ∷ []) known.told ∙ ap (λ o. map Some frames ++ o ∷ []) told ∙ sym (map-append Some frames (f ∷ []));
    fit = All-append IsFrame frames (f ∷ []) known.fit (All-cons IsFrame f [] fits (All-nil IsFrame));
    right = λ g i is. by_same g i (alike g) refl (sym (now g) ∙ is);
    all = λ g h is same j at. none g h (alike g) refl (sym (now g) ∙ is) same j at;
  }
    where
      size : length s.sent.items ≡ length frames
      size = omega (arith, ap length known.told, length-map s.sent.items (told_by rs), length-map frames Some)

      now : (g : Fields) → number_in C s' g ≡ cond (alike g) (Some n) (number_in C s g)
      now g = updates (key_of g) ∙ ap (λ (o : FrameKey). cond (is_eq (C o (key_of g))) (Some n) (number_in C s g)) key

      by_same : (g : Fields) (i : ℕ) (b : Bool) → alike g ≡ b → cond b (Some n) (number_in C s g) ≡ Some i → WasSentAs (frames ++ f ∷ []) g i
      by_same g i true e is =
          let number : n ≡ i = cc in
          record { frame = f; same = (apart g).0 e; sent = (length frames, sym number ∙ omega (arith, count, size), at_seam frames f []) }
      by_same g i false e is =
          let w = known.right g i is in
          record { frame = w.frame; same = w.same; sent = (w.sent.0, w.sent.1, get_left frames (f ∷ []) w.sent.0 w.frame w.sent.2) }

      none : (g h : Fields) (b : Bool) → alike g ≡ b → cond b (Some n) (number_in C s g) ≡ None → key_of h ≡ key_of g → WasNotSent (frames ++ f ∷ []) h
      none g h true e is same j at = cc
      none g h false e is same j at = ⊎_elim
          (λ old. known.all g h is same j old)
          (λ new. false≢true (sym e ∙ (apart g).1 (ap key_of new ∙ same)))
          (get_push frames f h j at)

-- ---- a frame that is looked up

-- the frame of a number is told by the entry that is kept there
pub told_there : (g : SentAt → Option Fields) (ms : List SentAt) (fs : List Fields) (j : ℕ) (m : SentAt) (f : Fields) → map g ms ≡ map Some fs → slice_get ms j ≡ Some m → slice_get fs j ≡ Some f → g m ≡ Some f
told_there g [] fs j m f told here there = absurd cc
told_there g (n ∷ ms) [] j m f told here there = absurd cc
told_there g (n ∷ ms) (h ∷ fs) zero m f told here there =
    let first : g n ≡ Some h = cc in
    let same : n ≡ m = cc in
    ap g (sym same) ∙ first ∙ there
told_there g (n ∷ ms) (h ∷ fs) (suc j) m f told here there = let later : map g ms ≡ map Some fs = cc in told_there g ms fs j m f later here there

-- an office that isn't there tells none
pub nobody_tells : (rs : List ReplayValue) (m : SentAt) → length rs ≤ m.office → None ≡ told_by rs m
nobody_tells rs m ge = ap (option_and_then (λ (r : ReplayValue). told_in r.site.entries m.entry)) (sym (slice_get_past rs m.office ge))

-- one that is tells that of its entry
pub tells : (rs : List ReplayValue) (m : SentAt) (r : ReplayValue) (o : Option Entry) → m.office < length rs → r ≡ get_or rs m.office r → o ≡ slice_get r.site.entries m.entry → option_and_then entry_tells o ≡ told_by rs m
tells rs m r o lt is at = ap (option_and_then entry_tells) at ∙ ap (option_and_then (λ (q : ReplayValue). told_in q.site.entries m.entry)) (ap Some is ∙ sym (slice_get-get_or rs m.office r lt))

-- one of that key which is the frame
pub was_sent : (frames : List Fields) (f g : Fields) (k : ℕ) → g ≡ f → WasSent frames g k → WasSent frames f k
was_sent frames f g k same sent = subst (λ x. WasSent frames x k) same sent

-- one of that key which isn't: so none is
pub was_not_sent : (frames : List Fields) (f : Fields) (k : ℕ) → AreOne frames → WasSentAs frames f k → ((g : Fields) → WasSent frames g k → g ≡ f → ⊥) → WasNotSent frames f
was_not_sent frames f k one found other j at = other found.frame found.sent (one found.sent.0 j found.frame f found.sent.2 at found.same)

-- ---- of a world

same_but : (f g : Fields) → key_of f ≡ key_of g → record f { msg = g.msg } ≡ g
same_but f g e =
    ap (λ n. record { version = f.version; run = f.run; from = f.from; to = f.to; number = n; count = f.count; msg = g.msg }) (ap (λ (k : FrameKey). k.number) e)
    ∙ ap (λ n. record { version = f.version; run = f.run; from = f.from; to = f.to; number = g.number; count = n; msg = g.msg }) (ap (λ (k : FrameKey). k.count) e)
    ∙ ap (λ a. record { version = f.version; run = f.run; from = a; to = f.to; number = g.number; count = g.count; msg = g.msg }) (ap (λ (k : FrameKey). k.from) e)
    ∙ ap (λ a. record { version = f.version; run = f.run; from = g.from; to = a; number = g.number; count = g.count; msg = g.msg }) (ap (λ (k : FrameKey). k.to) e)
    ∙ ap (λ r. record { version = f.version; run = r; from = g.from; to = g.to; number = g.number; count = g.count; msg = g.msg }) (ap (λ (k : FrameKey). k.run) e)
    ∙ ap (λ v. record { version = v; run = g.run; from = g.from; to = g.to; number = g.number; count = g.count; msg = g.msg }) (same_version f.version g.version (ap (λ (k : FrameKey). k.version) e))

pub are_one : (w : World) → NumbersTellMessages w → AreOne w.frames
are_one w law j k f g at there e =
    let same : f.msg ≡ g.msg = law j k f g at there (ap (λ (x : FrameKey). x.from) e) (ap (λ (x : FrameKey). x.to) e) (ap (λ (x : FrameKey). x.number) e) in
    ap (λ m. record f { msg = m }) same ∙ same_but f g e

-- the frame that a reply tells, as a list
pub listed_told : (r : Reply) → option_to_list (frame_told r) ≡ frames_of r
listed_told (reply.Frame f) = refl
listed_told _ = refl
