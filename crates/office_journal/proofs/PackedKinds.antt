-- What is packed of an event is its entry.
use Rattle.std.proofs.Common.{◌≡◌, ◌≢◌, ℕ, ◌<◌, Bool, true, false, List, length, Option, None, Some, refl, sym, ap, subst, ◌∙◌, arith}
use Rattle.std.specs.Prelude.{slice_get, is_some, IfSome}
use Rattle.std.proofs.lemmas.Option.{slice_get_within}
use Rattle.frame_codec.specs.declared.message.Msg.{Msg}
use Rattle.office_journal.specs.pages.Framed.{framed, frame_in, text_carried, StandsAt}
use Rattle.frame_codec.specs.Frame.{Fields}
use Rattle.session_meaning.specs.ProgramValue.{ProgramValue}
use Rattle.office_journal.specs.pages.Told.{Told}
use Rattle.office_journal.specs.declared.pages.kind.Kind.{Kind}
use Rattle.office_journal.specs.declared.pages.kind.Kind.TheVariants as kind
use Rattle.office_journal.specs.declared.event.Event.{Event}
use Rattle.office_journal.specs.declared.event.Event.TheVariants as event
use Rattle.office_journal.specs.declared.event.Entry.{Entry}
use Rattle.office_journal.specs.declared.reply.Reply.{Reply}
use Rattle.office_journal.specs.declared.reply.Reply.TheVariants as reply
use Rattle.office_journal.specs.refinement.PackedEntries.{Beside, nothing, submitted_from, rule_by, event_by, reply_by, entry_in, IsPlaced, IsOfRule, IsOfArrival}

-- an entry of that kind, with that tag
told_as : (b : Beside) (t : Told) (k : Kind) (tag : ℕ) → t.kind ≡ k → t.tag ≡ tag → entry_in b t ≡ record { tag = tag; event = event_by k b t; reply = reply_by k b.texts t }
told_as b t k tag is same =
    ap (λ x. record { tag = x; event = event_by t.kind b t; reply = reply_by t.kind b.texts t }) same ∙ ap (λ x. record { tag = tag; event = event_by x b t; reply = reply_by x b.texts t }) is

pub submitted_entry : (b : Beside) (t : Told) (tag ticket place : ℕ) (p : ProgramValue) → t.kind ≡ kind.Submitted → t.tag ≡ tag → t.ticket ≡ ticket → t.place ≡ place → slice_get b.programs place ≡ Some p →
    entry_in b t ≡ record { tag = tag; event = event.Submit p; reply = reply.Ticket ticket }
submitted_entry b t tag ticket place p is same numbered placed at =
    told_as b t kind.Submitted tag is same
    ∙ ap (λ (e : Event). record { tag = tag; event = e; reply = reply.Ticket t.ticket }) (ap submitted_from (ap (slice_get b.programs) placed ∙ at))
    ∙ ap (λ (n : ℕ). record { tag = tag; event = event.Submit p; reply = reply.Ticket n }) numbered

pub withdrawn_entry : (t : Told) (tag ticket : ℕ) → t.kind ≡ kind.Withdrew → t.tag ≡ tag → t.ticket ≡ ticket → entry_in nothing t ≡ record { tag = tag; event = event.Withdraw ticket; reply = reply.Done }
withdrawn_entry t tag ticket is same numbered =
    told_as nothing t kind.Withdrew tag is same ∙ ap (λ (n : ℕ). record { tag = tag; event = event.Withdraw n; reply = reply.Done }) numbered

-- a rule that was done
rule_told : (k : Kind) (t : Told) (tag : ℕ) → IsOfRule k → ◌≡◌ {A = Entry} (record { tag = tag; event = event_by k nothing t; reply = reply_by k nothing.texts t }) (record { tag = tag; event = event.Do (rule_by k t.v t.which); reply = reply.Done })
rule_told kind.Submitted t tag h = absurd h
rule_told kind.Withdrew t tag h = absurd h
rule_told kind.Sent t tag h = absurd h
rule_told kind.Acked t tag h = absurd h
rule_told kind.Taken t tag h = absurd h
rule_told kind.Repeat t tag h = absurd h
rule_told kind.Kept t tag h = absurd h
rule_told kind.Early t tag h = absurd h
rule_told _ t tag h = refl

pub done_entry : (t : Told) (k : Kind) (tag v which : ℕ) → t.kind ≡ k → t.tag ≡ tag → t.v ≡ v → t.which ≡ which → IsOfRule k → entry_in nothing t ≡ record { tag = tag; event = event.Do (rule_by k v which); reply = reply.Done }
done_entry t k tag v which is same by of h =
    told_as nothing t k tag is same ∙ rule_told k t tag h ∙ ap (λ (n : ℕ). record { tag = tag; event = event.Do (rule_by k n t.which); reply = reply.Done }) by ∙ ap (λ (n : ℕ). record { tag = tag; event = event.Do (rule_by k v n); reply = reply.Done }) of

-- a frame that was made
pub sent_entry : (b : Beside) (t : Told) (tag v i : ℕ) (f : Fields) → t.kind ≡ kind.Sent → t.tag ≡ tag → t.v ≡ v → t.i ≡ i → frame_in b.texts t ≡ f → entry_in b t ≡ record { tag = tag; event = event.Send v i; reply = reply.Frame f }
sent_entry b t tag v i f is same by of made =
    told_as b t kind.Sent tag is same ∙ ap (λ (n : ℕ). record { tag = tag; event = event.Send n t.i; reply = reply.Frame (frame_in b.texts t) }) by ∙ ap (λ (n : ℕ). record { tag = tag; event = event.Send v n; reply = reply.Frame (frame_in b.texts t) }) of
    ∙ ap (λ (x : Fields). record { tag = tag; event = event.Send v i; reply = reply.Frame x }) made

-- a frame that came
arrival_told : (k : Kind) (b : Beside) (t : Told) → IsOfArrival k → event_by k b t ≡ event.Took (frame_in b.texts t)
arrival_told kind.Acked b t h = refl
arrival_told kind.Taken b t h = refl
arrival_told kind.Repeat b t h = refl
arrival_told kind.Kept b t h = refl
arrival_told kind.Early b t h = refl
arrival_told _ b t h = absurd h

pub came_entry : (b : Beside) (t : Told) (k : Kind) (tag : ℕ) (f : Fields) → t.kind ≡ k → t.tag ≡ tag → frame_in b.texts t ≡ f → IsOfArrival k → entry_in b t ≡ record { tag = tag; event = event.Took f; reply = reply_by k b.texts t }
came_entry b t k tag f is same came h =
    told_as b t k tag is same ∙ ap (λ (e : Event). record { tag = tag; event = e; reply = reply_by k b.texts t }) (arrival_told k b t h ∙ ap event.Took came)

-- only a session that was submitted has a program
pub plain : (P : Kind → Type 0) (k k' : Kind) → k ≡ k' → P k' → (P kind.Submitted → ⊥) → k ≢ kind.Submitted
plain P k k' is h not = λ e. not (subst P (sym is ∙ e) h)

-- a text that stands at a place stands among them
text_within : (texts : List (List ℕ)) (place : ℕ) (m : Option Msg) → StandsAt texts place m → is_some (text_carried m) ≡ true → place < length texts
text_within texts place m at has = go (text_carried m) at has
  where
    go : (o : Option (List ℕ)) → IfSome o (λ text. slice_get texts place ≡ Some text) → is_some o ≡ true → place < length texts
    go None h e = absurd cc
    go (Some text) h e = slice_get_within texts place text h

-- what a frame's entry has beside is there
pub frame_placed : (b : Beside) (t : Told) (place : ℕ) (m : Option Msg) → t.kind ≢ kind.Submitted → StandsAt b.texts place m → t.has_text ≡ is_some (text_carried m) → (t.has_text ≡ true → t.text ≡ place) → IsPlaced b t
frame_placed b t place m other at has is = record {
  program = λ e. absurd (other e);
  text = λ e. let within = text_within b.texts place m at (sym has ∙ e) in omega (arith, within, is e);
}

-- ---- and shown again

pub shown_again : (b : Beside) (t : Told) (k : Kind) (tag : ℕ) (e : Event) (r : Reply) → k ≡ t.kind → tag ≡ t.tag → e ≡ event_by k b t → r ≡ reply_by k b.texts t → ◌≡◌ {A = Entry} (record { tag = tag; event = e; reply = r }) (entry_in b t)
shown_again b t k tag e r is same told replied =
    ap (λ (x : Event). record { tag = tag; event = x; reply = r }) told ∙ ap (λ (x : Reply). record { tag = tag; event = event_by k b t; reply = x }) replied
    ∙ sym (told_as b t k tag (sym is) (sym same))

-- ---- with more beside

frame_same : (texts texts' : List (List ℕ)) (t : Told) → (t.has_text ≡ true → slice_get texts t.text ≡ slice_get texts' t.text) → frame_in texts t ≡ frame_in texts' t
frame_same texts texts' t h = go t.has_text refl
  where
    go : (x : Bool) → t.has_text ≡ x → framed x (slice_get texts t.text) t.which t.frame ≡ framed x (slice_get texts' t.text) t.which t.frame
    go true e = ap (λ o. framed true o t.which t.frame) (h e)
    go false e = refl

event_same : (k : Kind) (b b' : Beside) (t : Told) → (k ≡ kind.Submitted → slice_get b.programs t.place ≡ slice_get b'.programs t.place) → frame_in b.texts t ≡ frame_in b'.texts t → event_by k b t ≡ event_by k b' t
event_same kind.Submitted b b' t h f = ap submitted_from (h refl)
event_same kind.Acked b b' t h f = ap event.Took f
event_same kind.Taken b b' t h f = ap event.Took f
event_same kind.Repeat b b' t h f = ap event.Took f
event_same kind.Kept b b' t h f = ap event.Took f
event_same kind.Early b b' t h f = ap event.Took f
event_same _ b b' t h f = refl

reply_same : (k : Kind) (texts texts' : List (List ℕ)) (t : Told) → frame_in texts t ≡ frame_in texts' t → reply_by k texts t ≡ reply_by k texts' t
reply_same kind.Sent texts texts' t f = ap reply.Frame f
reply_same kind.Submitted texts texts' t f = refl
reply_same kind.Acked texts texts' t f = refl
reply_same kind.Taken texts texts' t f = refl
reply_same kind.Repeat texts texts' t f = refl
reply_same kind.Kept texts texts' t f = refl
reply_same kind.Early texts texts' t f = refl
reply_same _ texts texts' t f = refl

-- an entry is the same, where its program is, if it has one, and its text
pub entry_same : (b b' : Beside) (t : Told) → (t.kind ≡ kind.Submitted → slice_get b.programs t.place ≡ slice_get b'.programs t.place) → (t.has_text ≡ true → slice_get b.texts t.text ≡ slice_get b'.texts t.text) → entry_in b t ≡ entry_in b' t
entry_same b b' t h f =
    let same = frame_same b.texts b'.texts t f in
    ap (λ (e : Event). record { tag = t.tag; event = e; reply = reply_by t.kind b.texts t }) (event_same t.kind b b' t h same)
    ∙ ap (λ (r : Reply). record { tag = t.tag; event = event_by t.kind b' t; reply = r }) (reply_same t.kind b.texts b'.texts t same)
