-- What is asked at a desk, one thing after the other.
use Rattle.std.proofs.Common.{◌≡◌, ℕ, Bool, true, false, List, [], ◌∷◌, ◌++◌, drop, Option, None, Some, Result, Ok, Err, inl, inr, refl, sym, ap, subst, ◌∙◌, append_assoc, append-nil, arith}
use Rattle.std.specs.Prelude.{IfErr, IfOk}
use Rattle.std.specs.List.{flat_map, ItemBy}
use mathlib.Core.List.{IsPrefix}
use Rattle.std.proofs.lemmas.List.Concat.{flat_map-append}
use Rattle.own_lock.specs.Entries.{AddsOnly}
use Rattle.own_lock.specs.Passes.{LockView}
use Rattle.office_journal.specs.declared.event.Event.TheVariants.{Submit}
use Rattle.office_journal.specs.declared.reply.Reply.TheVariants.{Ticket}
use Rattle.office_journal.specs.declared.reply.Refusal.TheVariants as refusal
use Rattle.session_meaning.specs.ProgramValue.{ProgramValue}
use Rattle.site_core.specs.Journals.{Site, IsLegal, StepsAddTheirEntry}
use Rattle.locked_office.specs.Calls.{Key, DeskPass, Did, Does, office_with, tag_of}
use Rattle.locked_office.specs.refinement.Holding.{Holds, GivesBack}
use Rattle.locked_office.proofs.Giving.{Grew, grew_none, grew_by, adds_only, key_stays, did, still}
use Rattle.socket_pump.specs.ChainLaws.{does_begins}
use Rattle.stored_runs.proofs.Outcomes.{both}
use Rattle.session_streams.specs.declared.requests.asked.Asked.{Asked}
use Rattle.session_streams.specs.declared.requests.asked.Asked.TheVariants as ask
use Rattle.serving.specs.declared.answers.lack.Lack.{Lack}
use Rattle.serving.specs.declared.answers.lack.Lack.TheVariants.{JournalFull, Memory}
use Rattle.serving.specs.answers.Said.{Said, said_as}
use Rattle.serving.specs.answers.Answers.{Answered, Answers, IsFull, Lacks, SaysTicket, Submits}
use Rattle.session_reports.specs.declared.form.forms.Form.{Form}
use Rattle.serving.specs.Rounds.{AnswersAll, AnswersNoMore, AnswersSome, AnswersFirst, StopsAnswering}
use Rattle.serving.specs.refinement.Asking.{Asks}

-- ---- one thing

pub asks_of : (form : Form) (tag : ℕ) (s : Site) (asked : Asked) (r : Result Bool Lack) (s' : Site) (old new : List ℕ) → IfOk r (λ (b : Bool). Answered form tag s asked b s' old new) → IfErr r (λ (l : Lack). Lacks tag s asked l s') → Asks form tag s asked r s' old new
asks_of form tag s asked (Ok b) s' old new answered lacks = answered
asks_of form tag s asked (Err l) s' old new answered lacks = lacks

ticket_grew : StepsAddTheirEntry → (tag : ℕ) (s : Site) (x : ProgramValue) (said : Said) (s' : Site) → SaysTicket tag s x said s' → Grew tag s s'
ticket_grew law tag s x said s' (inl (t, steps, is)) = grew_by tag s s' (Submit x) (Ok (Ticket t)) (law s tag (Submit x) (Ok (Ticket t)) s' steps)
ticket_grew law tag s x said s' (inr (steps, is)) = grew_by tag s s' (Submit x) (Err refusal.NotOurs) (law s tag (Submit x) (Err refusal.NotOurs) s' steps)

answer_grew : StepsAddTheirEntry → (tag : ℕ) (s : Site) (asked : Asked) (said : Said) (s' : Site) → Answers tag s asked said s' → Grew tag s s'
answer_grew law tag s (ask.Session x) said s' h = ticket_grew law tag s x said s' h
answer_grew law tag s (ask.Numbered t x) said s' (inl (next, h)) = ticket_grew law tag s x said s' h
answer_grew law tag s (ask.Numbered t x) said s' (inr (other, same, says)) = grew_none tag s s' same
answer_grew law tag s (ask.Look r) said s' (same, is) = grew_none tag s s' same
answer_grew law tag s (ask.Misread f) said s' (same, is) = grew_none tag s s' same

asks_grew : StepsAddTheirEntry → (form : Form) (tag : ℕ) (s : Site) (asked : Asked) (r : Result Bool Lack) (s' : Site) (old new : List ℕ) → Asks form tag s asked r s' old new → Grew tag s s'
asks_grew law form tag s asked (Ok true) s' old new (said, answers, line) = answer_grew law tag s asked said s' answers
asks_grew law form tag s asked (Ok false) s' old new ((x, submits, steps), same) = grew_by tag s s' (Submit x) (Err refusal.QueueFull) (law s tag (Submit x) (Err refusal.QueueFull) s' steps)
asks_grew law form tag s asked (Err JournalFull) s' old new (x, submits, steps) = grew_by tag s s' (Submit x) (Err refusal.JournalFull) (law s tag (Submit x) (Err refusal.JournalFull) s' steps)
asks_grew law form tag s asked (Err Memory) s' old new (inl same) = grew_none tag s s' same
asks_grew law form tag s asked (Err Memory) s' old new (inr (x, submits, result, steps)) = grew_by tag s s' (Submit x) result (law s tag (Submit x) result s' steps)

-- the state that was lent out is the one that was held, and the tag the pass's
module _ (law : StepsAddTheirEntry) (form : Form) (desk : LockView Key) (p : DeskPass) (t : ℕ) (asked : Asked) (r : Result Bool Lack) (held s s' : Site) (old new : List ℕ) (h : Holds desk p held) (same : s ≡ held) (tag : t ≡ p.tag) (asks : Asks form t s asked r s' old new) where
  grew : Grew p.tag s s'
  grew = subst (λ (n : ℕ). Grew n s s') tag (asks_grew law form t s asked r s' old new asks)

  pub asks_adds : AddsOnly tag_of p.tag p.seen s'.entries
  asks_adds = adds_only desk p s s' (still desk p held s h same) grew

  pub asks_key : (s'.plan, s'.me) ≡ desk.key
  asks_key = key_stays desk p s s' (still desk p held s h same) grew

  pub asks_did : (q : DeskPass) → q.seen ≡ s'.entries → IsLegal s' → GivesBack p q s' → Did (λ y y'. Asks form p.tag y asked r y' old new) desk.key p q
  asks_did q seen legal back =
      did (λ y y'. Asks form p.tag y asked r y' old new) desk p q s s' (still desk p held s h same) grew (subst (λ (n : ℕ). Asks form n s asked r s' old new) tag asks) seen legal back

-- ---- its line

-- it is added to a text
pub said_after : (form : Form) (tag : ℕ) (k : Key) (x : Asked) (p q : DeskPass) (empty line text new : List ℕ) → empty ≡ [] → new ≡ text ++ line → Does (λ s s'. Asks form tag s x (Ok true) s' empty line) k p q → Does (λ s s'. Asks form tag s x (Ok true) s' text new) k p q
said_after form tag k x p q empty line text new none wrote (between, d) =
    let lines : new ≡ text ++ said_as form k.0 d.done.0 = wrote ∙ ap (λ l. text ++ l) (d.done.2 ∙ ap (λ l. l ++ said_as form k.0 d.done.0) none) in
    (between, record { done = (d.done.0, d.done.1, lines); legal = d.legal; added = d.added; left = d.left })

-- there is none yet
pub full_after : (form : Form) (tag : ℕ) (k : Key) (x : Asked) (p q : DeskPass) (empty line text : List ℕ) → Does (λ s s'. Asks form tag s x (Ok false) s' empty line) k p q → Does (λ s s'. Asks form tag s x (Ok false) s' text text) k p q
full_after form tag k x p q empty line text (between, d) = (between, record { done = (d.done.0, refl); legal = d.legal; added = d.added; left = d.left })

ticket_lacks : (tag : ℕ) (s : Site) (asked : Asked) (x : ProgramValue) (said : Said) (s' : Site) → Submits s asked x → SaysTicket tag s x said s' → Lacks tag s asked Memory s'
ticket_lacks tag s asked x said s' submits (inl (t, steps, is)) = inr (x, submits, Ok (Ticket t), steps)
ticket_lacks tag s asked x said s' submits (inr (steps, is)) = inr (x, submits, Err refusal.NotOurs, steps)

answer_lacks : (tag : ℕ) (s : Site) (asked : Asked) (said : Said) (s' : Site) → Answers tag s asked said s' → Lacks tag s asked Memory s'
answer_lacks tag s (ask.Session x) said s' h = ticket_lacks tag s (ask.Session x) x said s' refl h
answer_lacks tag s (ask.Numbered t x) said s' (inl (next, h)) = ticket_lacks tag s (ask.Numbered t x) x said s' (refl, next) h
answer_lacks tag s (ask.Numbered t x) said s' (inr (other, same, says)) = inl same
answer_lacks tag s (ask.Look r) said s' (same, is) = inl same
answer_lacks tag s (ask.Misread f) said s' (same, is) = inl same

-- there is no memory for it
pub unsaid_after : (form : Form) (tag : ℕ) (k : Key) (x : Asked) (p q : DeskPass) (empty line text : List ℕ) → Does (λ s s'. Asks form tag s x (Ok true) s' empty line) k p q → Does (λ s s'. Asks form tag s x (Err Memory) s' text text) k p q
unsaid_after form tag k x p q empty line text (between, d) = (between, record { done = answer_lacks tag (office_with k (p.seen ++ between)) x d.done.0 (office_with k q.seen) d.done.1; legal = d.legal; added = d.added; left = d.left })

-- ---- the first of a queue

pub head_is : {R X : Type 0} (now : R → X) (xs : List X) (r : Option R) (x : R) → ItemBy now xs 0 0 r → r ≡ Some x → xs ≡ now x ∷ drop 1 xs
head_is {R} {X} now xs r x h is = at xs (subst (λ (o : Option R). ItemBy now xs 0 0 o) is h)
  where
    at : (ys : List X) → ItemBy now ys 0 0 (Some x) → ys ≡ now x ∷ drop 1 ys
    at [] g = absurd (omega (arith, g.3.0))
    at (y ∷ ys) g = ap (λ z. z ∷ ys) (sym g.1)

pub none_is : {R X : Type 0} (now : R → X) (xs : List X) (r : Option R) → ItemBy now xs 0 0 r → r ≡ None → xs ≡ []
none_is {R} {X} now xs r h is = at xs (subst (λ (o : Option R). ItemBy now xs 0 0 o) is h)
  where
    at : (ys : List X) → ItemBy now ys 0 0 None → ys ≡ []
    at [] g = refl
    at (y ∷ ys) g = absurd (omega (arith, g.3))

-- ---- one thing after the other

answers_append : (tag : ℕ) (k : Key) (xs : List Asked) (ws : List Said) (x : Asked) (w : Said) (p m q : DeskPass) → AnswersAll tag k xs ws p m → Does (λ s s'. Answers tag s x w s') k m q → AnswersAll tag k (xs ++ x ∷ []) (ws ++ w ∷ []) p q
answers_append tag k [] [] x w p m q same d = (q, subst (λ (y : DeskPass). Does (λ s s'. Answers tag s x w s') k y q) (sym same) d, refl)
answers_append tag k [] (v ∷ ws) x w p m q h d = absurd h
answers_append tag k (y ∷ xs) [] x w p m q h d = absurd h
answers_append tag k (y ∷ xs) (v ∷ ws) x w p m q (n, one, rest) d = (n, one, answers_append tag k xs ws x w n m q rest d)

-- the first of what waited was answered, and the lines that say so were added
pub record Given (form : Form) (tag : ℕ) (k : Key) (p q : DeskPass) (waiting left : List Asked) (old new : List ℕ) : Type 0 where
  pub asked : List Asked
  pub are : asked ++ left ≡ waiting
  pub said : List Said
  pub answers : AnswersAll tag k asked said p q
  pub lines : new ≡ old ++ flat_map (said_as form k.0) said

pub none_given : (form : Form) (tag : ℕ) (k : Key) (p : DeskPass) (waiting : List Asked) (old : List ℕ) → Given form tag k p p waiting waiting old old
none_given form tag k p waiting old = record { asked = []; are = refl; said = []; answers = refl; lines = sym (append-nil old) }

module _ (form : Form) (tag t : ℕ) (still_tag : t ≡ tag) (k : Key) (p m q : DeskPass) (waiting left now_left : List Asked) (x : Asked) (at : left ≡ x ∷ now_left) (old mid new : List ℕ) (g : Given form tag k p m waiting left old mid) where
  parts : g.asked ++ x ∷ now_left ≡ waiting
  parts = ap (λ l. g.asked ++ l) (sym at) ∙ g.are

  pub one_answered : Does (λ s s'. Answered form t s x true s' mid new) k m q → Given form tag k p q waiting now_left old new
  one_answered (between, d) =
      let does : Does (λ s s'. Answers t s x d.done.0 s') k m q = (between, record { done = d.done.1; legal = d.legal; added = d.added; left = d.left }) in
      record {
        asked = g.asked ++ x ∷ [];
        are = append_assoc g.asked (x ∷ []) now_left ∙ parts;
        said = g.said ++ d.done.0 ∷ [];
        answers = answers_append tag k g.asked g.said x d.done.0 p m q g.answers (subst (λ (n : ℕ). Does (λ s s'. Answers n s x d.done.0 s') k m q) still_tag does);
        lines = d.done.2 ∙ ap (λ l. l ++ said_as form k.0 d.done.0) g.lines ∙ append_assoc old (flat_map (said_as form k.0) g.said) (said_as form k.0 d.done.0)
            ∙ ap (λ l. old ++ (flat_map (said_as form k.0) g.said ++ l)) (sym (append-nil (said_as form k.0 d.done.0))) ∙ ap (λ l. old ++ l) (sym (flat_map-append (said_as form k.0) g.said (d.done.0 ∷ [])));
      }

  pub full_first : Does (λ s s'. Answered form t s x false s' mid new) k m q → AnswersFirst form tag k p q waiting left old new
  full_first (between, d) =
      let does : Does (λ s s'. IsFull t s x s') k m q = (between, record { done = d.done.0; legal = d.legal; added = d.added; left = d.left }) in
      let more : AnswersNoMore tag k (x ∷ now_left) m q = subst (λ (n : ℕ). Does (λ s s'. IsFull n s x s') k m q) still_tag does in
      (g.said, record { asked = g.asked; are = g.are; mid = m; answers = g.answers; full = subst (λ l. AnswersNoMore tag k l m q) (sym at) more }, d.done.1 ∙ g.lines)

  pub lacks_next : (lack : Lack) → new ≡ mid → Does (λ s s'. Lacks t s x lack s') k m q → StopsAnswering form tag k p q waiting lack old new
  lacks_next lack same does = record {
    asked = g.asked;
    next = x;
    left = now_left;
    are = parts;
    said = g.said;
    mid = m;
    answers = g.answers;
    lacks = subst (λ (n : ℕ). Does (λ s s'. Lacks n s x lack s') k m q) still_tag does;
    lines = same ∙ g.lines;
  }

pub all_given : (form : Form) (tag : ℕ) (k : Key) (p q : DeskPass) (waiting left : List Asked) (old new : List ℕ) → left ≡ [] → Given form tag k p q waiting left old new → AnswersFirst form tag k p q waiting left old new
all_given form tag k p q waiting left old new none g =
    (g.said, record { asked = g.asked; are = g.are; mid = q; answers = g.answers; full = subst (λ l. AnswersNoMore tag k l q q) (sym none) refl }, g.lines)

-- ---- a pass that has seen more

pub answers_begin : (tag : ℕ) (k : Key) (xs : List Asked) (ws : List Said) (p q : DeskPass) → AnswersAll tag k xs ws p q → IsPrefix p.seen q.seen
answers_begin tag k [] [] p q same = ([], append-nil p.seen ∙ ap (λ (x : DeskPass). x.seen) same)
answers_begin tag k [] (w ∷ ws) p q h = absurd h
answers_begin tag k (x ∷ xs) [] p q h = absurd h
answers_begin tag k (x ∷ xs) (w ∷ ws) p q (m, one, others) = let b = does_begins _ k p m one in both p.seen m.seen q.seen (b.0, sym b.1) (answers_begin tag k xs ws m q others)

no_more_begin : (tag : ℕ) (k : Key) (xs : List Asked) (p q : DeskPass) → AnswersNoMore tag k xs p q → IsPrefix p.seen q.seen
no_more_begin tag k [] p q same = ([], append-nil p.seen ∙ ap (λ (x : DeskPass). x.seen) same)
no_more_begin tag k (x ∷ xs) p q full = let b = does_begins _ k p q full in (b.0, sym b.1)

pub mid_begin : (tag : ℕ) (k : Key) (p q : DeskPass) (waiting left : List Asked) (said : List Said) → (h : AnswersSome tag k p q waiting left said) → IsPrefix h.mid.seen q.seen
mid_begin tag k p q waiting left said h = no_more_begin tag k left h.mid q h.full

pub some_begin : (tag : ℕ) (k : Key) (p q : DeskPass) (waiting left : List Asked) (said : List Said) → AnswersSome tag k p q waiting left said → IsPrefix p.seen q.seen
some_begin tag k p q waiting left said h = both p.seen h.mid.seen q.seen (answers_begin tag k h.asked said p h.mid h.answers) (no_more_begin tag k left h.mid q h.full)

pub lack_begin : (form : Form) (tag : ℕ) (k : Key) (p q : DeskPass) (waiting : List Asked) (lack : Lack) (old new : List ℕ) → (h : StopsAnswering form tag k p q waiting lack old new) → IsPrefix h.mid.seen q.seen
lack_begin form tag k p q waiting lack old new h = let b = does_begins _ k h.mid q h.lacks in (b.0, sym b.1)

pub stops_begin : (form : Form) (tag : ℕ) (k : Key) (p q : DeskPass) (waiting : List Asked) (lack : Lack) (old new : List ℕ) → StopsAnswering form tag k p q waiting lack old new → IsPrefix p.seen q.seen
stops_begin form tag k p q waiting lack old new h = both p.seen h.mid.seen q.seen (answers_begin tag k h.asked h.said p h.mid h.answers) (lack_begin form tag k p q waiting lack old new h)
