-- The parts of an entry's line, one after the other.
use Rattle.std.proofs.Common.{None, ◌≡◌, ℕ, List, [], ◌∷◌, ◌++◌, codes, refl, sym, ap, ◌∙◌, append_assoc, arith}
use Rattle.std.specs.Fmt.{decimal}
use Rattle.std.proofs.lemmas.Grind.{common_steps}
use Rattle.office_map.specs.PlanValue.{PlanValue}
use Rattle.office_journal.specs.declared.event.Event.{Event}
use Rattle.office_journal.specs.declared.event.Event.TheVariants as event
use Rattle.office_journal.specs.declared.event.Entry.{Entry}
use Rattle.office_journal.specs.declared.reply.Reply.{Reply}
use Rattle.office_journal.specs.declared.reply.Reply.TheVariants as reply
use Rattle.session_programs.specs.Program.{text_under}
use Rattle.journal_texts.specs.wording.Words.{office_name, line_of_words}
use Rattle.journal_texts.specs.wording.Replies.{reply_words}
use Rattle.journal_texts.specs.wording.Rules.{rule_words}
use Rattle.journal_texts.specs.wording.Digits.{digits_of, frame_digits}
use Rattle.journal_texts.specs.Written.{event_words, entry_words, entry_line}

joined : (a : List ℕ) (ws : List (List ℕ)) (v : List ℕ) (vs : List (List ℕ)) → line_of_words ((a ∷ ws) ++ v ∷ vs) ≡ line_of_words (a ∷ ws) ++ 32 ∷ line_of_words (v ∷ vs)
joined a [] v vs = refl
joined a (b ∷ ws) v vs = ap (λ l. a ++ 32 ∷ l) (joined b ws v vs) ∙ sym (append_assoc a (32 ∷ line_of_words (b ∷ ws)) (32 ∷ line_of_words (v ∷ vs)))

after_tag : (tag a : List ℕ) (ws : List (List ℕ)) (v : List ℕ) (vs : List (List ℕ)) → line_of_words (tag ∷ (a ∷ ws) ++ v ∷ vs) ≡ tag ++ 32 ∷ (line_of_words (a ∷ ws) ++ 32 ∷ line_of_words (v ∷ vs))
after_tag tag a ws v vs = ap (λ l. tag ++ 32 ∷ l) (joined a ws v vs)

-- an event has words
with_event : (p : PlanValue) (tag : List ℕ) (e : Event) (v : List ℕ) (vs : List (List ℕ)) → line_of_words (tag ∷ event_words p e ++ v ∷ vs) ≡ tag ++ 32 ∷ (line_of_words (event_words p e) ++ 32 ∷ line_of_words (v ∷ vs))
with_event p tag (event.Submit x) v vs = after_tag tag (codes "submit") (digits_of (text_under p x) ∷ []) v vs
with_event p tag (event.Do r) v vs = after_tag tag (codes "do") (rule_words p r) v vs
with_event p tag (event.Send n i) v vs = after_tag tag (codes "send") (office_name p n ∷ decimal i ∷ []) v vs
with_event p tag (event.Took f) v vs = after_tag tag (codes "took") (frame_digits f ∷ []) v vs
with_event p tag (event.Withdraw t) v vs = after_tag tag (codes "withdraw") (decimal t ∷ []) v vs

-- the words after the sign are those of the reply
with_reply : (p : PlanValue) (x : Entry) → line_of_words (entry_words p x) ≡ decimal x.tag ++ 32 ∷ (line_of_words (event_words p x.event) ++ 32 ∷ 61 ∷ 32 ∷ line_of_words (reply_words None x.reply))
with_reply p x = with_event p (decimal x.tag) x.event (codes "=") (reply_words None x.reply) ∙ ap (λ l. decimal x.tag ++ 32 ∷ (line_of_words (event_words p x.event) ++ 32 ∷ l)) (sign (x.reply))
  where
    sign : (r : Reply) → line_of_words (codes "=" ∷ reply_words None r) ≡ 61 ∷ 32 ∷ line_of_words (reply_words None r)
    sign (reply.Ticket t) = refl
    sign reply.Done = refl
    sign (reply.Frame f) = refl
    sign reply.Acked = refl
    sign reply.Taken = refl
    sign reply.Repeat = refl
    sign reply.Kept = refl
    sign reply.Early = refl

parts : (a t e r : List ℕ) → ((((a ++ (t ++ 32 ∷ [])) ++ e) ++ 32 ∷ 61 ∷ 32 ∷ []) ++ r) ++ 10 ∷ [] ≡ a ++ ((t ++ 32 ∷ (e ++ 32 ∷ 61 ∷ 32 ∷ r)) ++ 10 ∷ [])
parts a t e r = grind (arith, common_steps)

-- a line, part by part
pub whole_line : (p : PlanValue) (x : Entry) (a b c d e f : List ℕ) → b ≡ a ++ (decimal x.tag ++ codes " ") → c ≡ b ++ line_of_words (event_words p x.event) → d ≡ c ++ codes " = " → e ≡ d ++ line_of_words (reply_words None x.reply) → f ≡ e ++ codes "\n"
    → f ≡ a ++ entry_line p x
whole_line p x a b c d e f hb hc hd he hf =
    let event = line_of_words (event_words p x.event) in
    let answer = line_of_words (reply_words None x.reply) in
    let written : f ≡ ((((a ++ (decimal x.tag ++ codes " ")) ++ event) ++ codes " = ") ++ answer) ++ 10 ∷ [] =
    hf ∙ ap (λ l. l ++ 10 ∷ []) (he ∙ ap (λ l. l ++ answer) (hd ∙ ap (λ l. l ++ codes " = ") (hc ∙ ap (λ l. l ++ event) hb))) in
    written ∙ parts a (decimal x.tag) event answer ∙ ap (λ l. a ++ (l ++ 10 ∷ [])) (sym (with_reply p x))
