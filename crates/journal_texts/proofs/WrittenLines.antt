-- What is written of a journal is the text of that journal.
use Rattle.std.proofs.Common.{◌≡◌, ℕ, ◌+◌, ◌<◌, ◌≤◌, ◌^◌, true, false, ◌&&◌, nat_lt, List, [], ◌∷◌, ◌++◌, length, map, Some, None, Ok, Err, not, if◌then◌else◌, codes, refl, sym, ap, ap₂, ◌∙◌, subst, append_assoc, arith}
use Rattle.std.specs.Prelude.{All, ◌==◌}
use Rattle.std.specs.Option.{ok_or}
use Rattle.std.specs.List.{list_all, flat_map}
use Rattle.std.specs.Fmt.{decimal}
use Rattle.std.proofs.lemmas.Bool.{and_parts, eq-eqb}
use Rattle.std.proofs.lemmas.Bool.Decides.{nat_tests}
use Rattle.std.proofs.lemmas.List.{append-nil}
use Rattle.std.proofs.lemmas.List.Elements.{All-head, All-tail}
use Rattle.std.proofs.lemmas.List.Folds.{list_all-append}
use Rattle.frame_codec.specs.Frame.{Fields}
use Rattle.office_map.specs.PlanValue.{PlanValue, office_named}
use Rattle.office_map.specs.Consistency.{IsConsistent}
use Rattle.text_lines.specs.Text.{is_blank, is_name_byte, says_something, statements_from, lines}
use Rattle.office_map.specs.PlanText.{and_then}
use Rattle.session_programs.specs.Program.{text_under}
use Rattle.session_language.specs.Reading.{sessions_of}
use Rattle.session_language.proofs.canonical.Lexemes.{IsWord, number_is_word, number_again}
use Rattle.session_language.proofs.canonical.TextLines.{plainly, first_statement_is}
use Rattle.session_meaning.specs.ProgramValue.{ProgramValue}
use Rattle.window_link.specs.declared.arrival.Arrival.{Arrival}
use Rattle.window_link.specs.declared.arrival.Arrival.TheVariants as arrival
use Rattle.office_journal.specs.declared.rule.Rule.{Rule}
use Rattle.office_journal.specs.declared.rule.Rule.TheVariants as rule
use Rattle.office_journal.specs.declared.event.Event.{Event}
use Rattle.office_journal.specs.declared.event.Event.TheVariants as event
use Rattle.office_journal.specs.declared.event.Entry.{Entry}
use Rattle.office_journal.specs.declared.reply.Reply.{Reply}
use Rattle.office_journal.specs.declared.reply.Reply.TheVariants as reply
use Rattle.site_core.specs.Replies.{reply_to}
use Rattle.journal_texts.specs.wording.Words.{office_name, is_word, line_of_words}
use Rattle.journal_texts.specs.wording.Replies.{reply_words, ReplyReadsBack}
use Rattle.journal_texts.specs.wording.Rules.{rule_of, rule_words}
use Rattle.journal_texts.specs.wording.Digits.{digits_of, frame_digits, bytes_in}
use Rattle.journal_texts.proofs.wording_lemmas.LinesOfWords.{line_of, lines_are_cut}
use Rattle.journal_texts.proofs.wording_lemmas.DigitWords.{frame_size, digits_are_a_word}
use Rattle.journal_texts.proofs.wording_lemmas.NamesAndNumbers.{number_word, count_again, name_of_office, office_name_again, office_word, office_again}
use Rattle.journal_texts.proofs.wording_lemmas.RuleWords.{rules_read_back}
use Rattle.journal_texts.specs.declared.fault.JournalRule.TheVariants.{JournalHeader}
use Rattle.journal_texts.specs.Lines.{Said, Whole, Made, Came, tag_of, program_in, one_program, do_line, done_by, withdrawn_by, submitted_by, sent_by, took_by, said_after, tagged, said_by, said_of, IsEntry}
use Rattle.journal_texts.specs.JournalText.{run_and_name, header_said, office_of_header, header_of, HaveEntries, IsJournal}
use Rattle.journal_texts.specs.Written.{header_words, event_words, entry_words, entry_line, journal_text}
use Rattle.journal_texts.specs.refinement.WrittenValues.{FrameReadsBack, EventReadsBack, EntryReadsBack}
use Rattle.journal_texts.proofs.LegalEntries.{IsEventOf, IsEntryOf}

-- ---- words

one_word : (w : List ℕ) (ws : List (List ℕ)) → is_word w ≡ true → list_all is_word ws ≡ true → list_all is_word (w ∷ ws) ≡ true
one_word w ws h k = ap₂ (λ x y. x && y) h k

all1 : (a : List ℕ) → is_word a ≡ true → list_all is_word (a ∷ []) ≡ true
all1 a h = ap (λ x. x && true) h

all2 : (a b : List ℕ) → is_word a ≡ true → is_word b ≡ true → list_all is_word (a ∷ b ∷ []) ≡ true
all2 a b h k = one_word a (b ∷ []) h (all1 b k)

all4 : (a b c d : List ℕ) → is_word a ≡ true → is_word b ≡ true → is_word c ≡ true → is_word d ≡ true → list_all is_word (a ∷ b ∷ c ∷ d ∷ []) ≡ true
all4 a b c d h k l m = one_word a (b ∷ c ∷ d ∷ []) h (one_word b (c ∷ d ∷ []) k (all2 c d l m))

all5 : (a b c d e : List ℕ) → is_word a ≡ true → is_word b ≡ true → is_word c ≡ true → is_word d ≡ true → is_word e ≡ true → list_all is_word (a ∷ b ∷ c ∷ d ∷ e ∷ []) ≡ true
all5 a b c d e h k l m n = one_word a (b ∷ c ∷ d ∷ e ∷ []) h (all4 b c d e k l m n)

all6 : (a b c d e f : List ℕ) → is_word a ≡ true → is_word b ≡ true → is_word c ≡ true → is_word d ≡ true → is_word e ≡ true → is_word f ≡ true → list_all is_word (a ∷ b ∷ c ∷ d ∷ e ∷ f ∷ []) ≡ true
all6 a b c d e f h k l m n o = one_word a (b ∷ c ∷ d ∷ e ∷ f ∷ []) h (all5 b c d e f k l m n o)

tag_again : (tag : ℕ) → tag < 16 → tag_of (decimal tag) ≡ Some tag
tag_again tag lt =
    let small : nat_lt tag 16 ≡ true = grind (arith, nat_tests) in
    ap (λ o. and_then o (λ n. if nat_lt n 16 then Some n else None)) (number_again tag (omega (arith, lt))) ∙ ap (λ b. if b then Some tag else None) small

-- the digits of a frame
frame_word : (f : Fields) → FrameReadsBack f → is_word (frame_digits f) ≡ true
frame_word f h = digits_are_a_word (frame_digits f) h.0 h.1 (let size = (frame_size h.0 f h.2).0 in omega (arith, size))

some_text : (p : PlanValue) (x : ProgramValue) → 0 < length (text_under p x)
some_text p x = omega arith

-- what an entry is written as are words, and they say that entry
pub record SaysEntry (p : PlanValue) (x : Entry) : Type 0 where
  pub words : list_all is_word (entry_words p x) ≡ true
  pub said : Said
  pub says : said_by p (entry_words p x) ≡ Some said
  pub entry : IsEntry said x

after_tag : (p : PlanValue) (x : Entry) (ws : List (List ℕ)) (s : Said) → x.tag < 16 → entry_words p x ≡ decimal x.tag ∷ ws → list_all is_word ws ≡ true → said_after p x.tag ws ≡ Some s → IsEntry s x → SaysEntry p x
after_tag p x ws s lt are good says is = record {
  words = ap (list_all is_word) are ∙ one_word (decimal x.tag) ws (number_word x.tag (omega (arith, lt))) good;
  said = s;
  says = ap (said_by p) are ∙ ap (λ o. tagged p o ws) (tag_again x.tag lt) ∙ says;
  entry = is;
}

-- the words of a rule, then = done
do_said : (p : PlanValue) (tag : ℕ) (r : Rule) → do_line p tag (rule_words p r ++ codes "=" ∷ codes "done" ∷ []) ≡ done_by tag (rule_of p (rule_words p r))
do_said p tag rule.Start = refl
do_said p tag rule.Hungry = refl
do_said p tag (rule.AskFork v) = refl
do_said p tag (rule.GiveFork v) = refl
do_said p tag rule.Eat = refl
do_said p tag rule.Leave = refl
do_said p tag (rule.AskBottle r) = refl
do_said p tag (rule.GiveBottle r) = refl
do_said p tag rule.Drink = refl
do_said p tag (rule.Work n) = refl
do_said p tag rule.Finish = refl

module _ (p : PlanValue) (ok : IsConsistent p) (tag : ℕ) (lt : tag < 16) where
  submit_says : (x : ProgramValue) (t : ℕ) → 1 ≤ t → t < 2 ^ 32 → EventReadsBack p (event.Submit x) → SaysEntry p (record { tag = tag; event = event.Submit x; reply = reply.Ticket t })
  submit_says x t low small h =
      let d = digits_of (text_under p x) in
      let program : program_in p d ≡ Some x = ap (λ o. and_then o (λ text. one_program (sessions_of p text))) h.0 ∙ ap one_program h.1 in
      let word = digits_are_a_word d (text_under p x) h.0 (some_text p x) in
      after_tag p _ (codes "submit" ∷ d ∷ codes "=" ∷ codes "ticket" ∷ decimal t ∷ []) (Whole (record { tag = tag; event = event.Submit x; reply = reply.Ticket t })) lt refl
      (all5 (codes "submit") d (codes "=") (codes "ticket") (decimal t) refl word refl refl (number_word t (omega (arith, small))))
      (ap₂ (submitted_by tag) program (count_again 4294967295 t low (omega (arith, small)) (omega (arith, small)))) refl

  do_says : (r : Rule) → (list_all is_word (rule_words p r) ≡ true) × (rule_of p (rule_words p r) ≡ Some r) → SaysEntry p (record { tag = tag; event = event.Do r; reply = reply.Done })
  do_says r h =
      let ends : List (List ℕ) = codes "=" ∷ codes "done" ∷ [] in
      after_tag p _ (codes "do" ∷ rule_words p r ++ ends) (Whole (record { tag = tag; event = event.Do r; reply = reply.Done })) lt refl
      (one_word (codes "do") (rule_words p r ++ ends) refl (list_all-append is_word (rule_words p r) ends ∙ ap (λ b. b && list_all is_word ends) h.0))
      (do_said p tag r ∙ ap (done_by tag) h.1) refl

  send_says : (v i : ℕ) (f : Fields) → v < length p.offices → i < 2 ^ 63 → FrameReadsBack f → SaysEntry p (record { tag = tag; event = event.Send v i; reply = reply.Frame f })
  send_says v i f near small h =
      let d = frame_digits f in
      after_tag p _ (codes "send" ∷ office_name p v ∷ decimal i ∷ codes "=" ∷ codes "frame" ∷ d ∷ []) (Made tag v i h.0) lt refl
      (all6 (codes "send") (office_name p v) (decimal i) (codes "=") (codes "frame") d refl (office_word p ok v near) (number_word i small) refl refl (frame_word f h))
      (ap₂ (λ a b. sent_by tag a b (bytes_in d)) (office_again p ok v near) (number_again i small) ∙ ap (sent_by tag (Some v) (Some i)) h.1) (f, h.2, refl)

  took_says : (f : Fields) (r : Reply) (name : List ℕ) → reply_words None r ≡ name ∷ [] → is_word name ≡ true → said_after p tag (codes "took" ∷ frame_digits f ∷ codes "=" ∷ name ∷ []) ≡ took_by tag (bytes_in (frame_digits f)) (Some r)
      → FrameReadsBack f → SaysEntry p (record { tag = tag; event = event.Took f; reply = r })
  took_says f r name are word says h =
      let d = frame_digits f in
      after_tag p _ (codes "took" ∷ d ∷ codes "=" ∷ name ∷ []) (Came tag h.0 r) lt (ap (λ ws. decimal tag ∷ codes "took" ∷ d ∷ codes "=" ∷ ws) are)
      (all4 (codes "took") d (codes "=") name refl (frame_word f h) refl word)
      (says ∙ ap (λ o. took_by tag o (Some r)) h.1) (f, h.2, refl)

  arrival_says : (f : Fields) (a : Arrival) → FrameReadsBack f → SaysEntry p (record { tag = tag; event = event.Took f; reply = reply_to a })
  arrival_says f arrival.Acked h = took_says f reply.Acked (codes "acked") refl refl refl h
  arrival_says f (arrival.Fresh m) h = took_says f reply.Taken (codes "taken") refl refl refl h
  arrival_says f arrival.Repeat h = took_says f reply.Repeat (codes "repeat") refl refl refl h
  arrival_says f arrival.Kept h = took_says f reply.Kept (codes "kept") refl refl refl h
  arrival_says f arrival.Early h = took_says f reply.Early (codes "early") refl refl refl h

  withdraw_says : (t : ℕ) → 1 ≤ t → t < 2 ^ 32 → SaysEntry p (record { tag = tag; event = event.Withdraw t; reply = reply.Done })
  withdraw_says t low small =
      after_tag p _ (codes "withdraw" ∷ decimal t ∷ codes "=" ∷ codes "done" ∷ []) (Whole (record { tag = tag; event = event.Withdraw t; reply = reply.Done })) lt refl
      (all4 (codes "withdraw") (decimal t) (codes "=") (codes "done") refl (number_word t (omega (arith, small))) refl refl)
      (ap (withdrawn_by tag) (count_again 4294967295 t low (omega (arith, small)) (omega (arith, small)))) refl

  event_says : (e : Event) (r : Reply) → IsEventOf p e r → EventReadsBack p e → ReplyReadsBack r → SaysEntry p (record { tag = tag; event = e; reply = r })
  event_says (event.Submit x) r h b c =
      subst (λ y. SaysEntry p (record { tag = tag; event = event.Submit x; reply = y })) (sym h.3) (submit_says x h.1 h.2 (subst ReplyReadsBack h.3 c) b)
  event_says (event.Do done) r h b c = subst (λ y. SaysEntry p (record { tag = tag; event = event.Do done; reply = y })) (sym h.1) (do_says done (rules_read_back p done ok h.0))
  event_says (event.Send v i) r h b c =
      subst (λ y. SaysEntry p (record { tag = tag; event = event.Send v i; reply = y })) (sym h.3) (send_says v i h.2 h.0 h.1 (subst ReplyReadsBack h.3 c))
  event_says (event.Took f) r h b c = subst (λ y. SaysEntry p (record { tag = tag; event = event.Took f; reply = y })) (sym h.1) (arrival_says f h.0 b)
  event_says (event.Withdraw t) r h b c = subst (λ y. SaysEntry p (record { tag = tag; event = event.Withdraw t; reply = y })) (sym h.1) (withdraw_says t h.0 b)

pub entry_says : (p : PlanValue) (x : Entry) → IsConsistent p → IsEntryOf p x → EntryReadsBack p x → SaysEntry p x
entry_says p x ok h b = event_says p ok x.tag h.tag x.event x.reply h.event b.0 b.1

-- ---- lines

first_says : (w rest : List ℕ) → IsWord w → says_something (w ++ rest) ≡ true
first_says [] rest h = let some = h.some in absurd (omega (arith, some))
first_says (b ∷ w) rest h =
    let byte = (and_parts (is_name_byte b) _ h.bytes).0 in
    let text : is_blank b ≡ false = grind (arith, nat_tests) in
    let note : (b == 35) ≡ false = grind (arith, nat_tests) in
    ap (λ x. if x then says_something (w ++ rest) else not (b == 35)) text ∙ ap not note

line_says : (w : List ℕ) (ws : List (List ℕ)) → IsWord w → says_something (line_of_words (w ∷ ws)) ≡ true
line_says w [] h = ap says_something (sym (append-nil w)) ∙ first_says w [] h
line_says w (v ∷ ws) h = first_says w (32 ∷ line_of_words (v ∷ ws)) h

-- a line of words is the first statement
statement_is : (n : ℕ) (w : List ℕ) (ws : List (List ℕ)) (rest : List ℕ) → IsWord w → list_all is_word (w ∷ ws) ≡ true
    → statements_from n (lines ((line_of_words (w ∷ ws) ++ 10 ∷ []) ++ rest)) ≡ (n, line_of_words (w ∷ ws)) ∷ statements_from (n + 1) (lines rest)
statement_is n w ws rest h good =
    ap (λ t. statements_from n (lines t)) (append_assoc (line_of_words (w ∷ ws)) (10 ∷ []) rest)
    ∙ first_statement_is n (line_of_words (w ∷ ws)) rest (plainly (line_of_words (w ∷ ws)) (line_of (w ∷ ws) good).plain) (line_says w ws h)

said_in : (p : PlanValue) (ws : List (List ℕ)) → list_all is_word ws ≡ true → said_of p (line_of_words ws) ≡ said_by p ws
unfolding said_of
said_in p ws h = ap (λ o. and_then o (said_by p)) (lines_are_cut ws h)

-- ---- the lines of entries

have : (p : PlanValue) (n : ℕ) (xs : List Entry) → IsConsistent p → All (IsEntryOf p) xs → All (EntryReadsBack p) xs → HaveEntries p (statements_from n (lines (flat_map (entry_line p) xs))) xs true
have p n [] ok h b = record { said = []; each = refl; entered = refl }
have p n (x ∷ xs) ok h b =
    let s = entry_says p x ok (All-head (IsEntryOf p) x xs h) (All-head (EntryReadsBack p) x xs b) in
    let small = (All-head (IsEntryOf p) x xs h).tag in
    let first = statement_is n (decimal x.tag) (event_words p x.event ++ codes "=" ∷ reply_words None x.reply) (flat_map (entry_line p) xs) (number_is_word x.tag (omega (arith, small))) s.words in
    let more = have p (n + 1) xs ok (All-tail (IsEntryOf p) x xs h) (All-tail (EntryReadsBack p) x xs b) in
    record {
      said = s.said ∷ more.said;
      each = ap (map (λ l. said_of p l.1)) first ∙ ap₂ (λ o os. o ∷ os) (said_in p (entry_words p x) s.words ∙ s.says) more.each;
      entered = (s.entry, more.entered);
    }

-- ---- the header

header_again : (p : PlanValue) (office : ℕ) → IsConsistent p → office < length p.offices → p.run < 2 ^ 63 → list_all is_word (header_words p office) ≡ true → header_of p (line_of_words (header_words p office)) ≡ Ok office
header_again p office ok lt small good =
    let same : (p.run == p.run) ≡ true = eq-eqb p.run p.run refl in
    ap (λ o. office_of_header p (and_then o header_said)) (lines_are_cut (header_words p office) good)
    ∙ ap₂ (λ n w. office_of_header p (run_and_name n w)) (number_again p.run small) (name_of_office p ok office lt)
    ∙ ap (λ b. if b then ok_or (office_named p (office_name p office)) JournalHeader else Err JournalHeader) same
    ∙ ap (λ o. ok_or o JournalHeader) (office_name_again p ok office lt)

pub header_is_words : (p : PlanValue) (office : ℕ) → IsConsistent p → office < length p.offices → p.run < 2 ^ 63 → list_all is_word (header_words p office) ≡ true
header_is_words p office ok lt small = all6 (codes "journal") (codes "1") (codes "run") (decimal p.run) (codes "office") (office_name p office) refl refl refl (number_word p.run small) refl (office_word p ok office lt)

pub is_journal_text : (p : PlanValue) (office : ℕ) (xs : List Entry) → IsConsistent p → office < length p.offices → p.run < 2 ^ 63 → All (IsEntryOf p) xs → All (EntryReadsBack p) xs → IsJournal p (journal_text p office xs) office xs true
is_journal_text p office xs ok lt small h b =
    let good : list_all is_word (header_words p office) ≡ true = header_is_words p office ok lt small in
    record {
      first = (1, line_of_words (header_words p office));
      rest = statements_from 2 (lines (flat_map (entry_line p) xs));
      lines = statement_is 1 (codes "journal") (codes "1" ∷ codes "run" ∷ decimal p.run ∷ codes "office" ∷ office_name p office ∷ []) (flat_map (entry_line p) xs) (record { some = omega arith; bytes = refl }) good;
      header = header_again p office ok lt small good;
      entered = have p 2 xs ok h b;
    }
