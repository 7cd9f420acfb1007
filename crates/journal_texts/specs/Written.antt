-- How a journal is written.
use Rattle.std.specs.Prelude.{ℕ, List, [], ◌∷◌, ◌++◌, None, codes}
use Rattle.std.specs.List.{flat_map}
use Rattle.std.specs.Fmt.{decimal}
use Rattle.office_map.specs.PlanValue.{PlanValue}
use Rattle.session_programs.specs.Program.{text_under}
use Rattle.office_journal.specs.declared.event.Event.{Event}
use Rattle.office_journal.specs.declared.event.Event.TheVariants as event
use Rattle.office_journal.specs.declared.event.Entry.{Entry}
use Rattle.journal_texts.specs.wording.Words.{office_name, line_of_words}
use Rattle.journal_texts.specs.wording.Rules.{rule_words}
use Rattle.journal_texts.specs.wording.Replies.{reply_words}
use Rattle.journal_texts.specs.wording.Digits.{digits_of, frame_digits}

abbrev pub header_words : PlanValue → ℕ → List (List ℕ)
header_words p office = codes "journal" ∷ codes "1" ∷ codes "run" ∷ decimal p.run ∷ codes "office" ∷ office_name p office ∷ []

-- a session by its canonical text, a frame by its bytes
abbrev pub event_words : PlanValue → Event → List (List ℕ)
event_words p (event.Submit x) = codes "submit" ∷ digits_of (text_under p x) ∷ []
event_words p (event.Do r) = codes "do" ∷ rule_words p r
event_words p (event.Send v i) = codes "send" ∷ office_name p v ∷ decimal i ∷ []
event_words p (event.Took f) = codes "took" ∷ frame_digits f ∷ []
event_words p (event.Withdraw t) = codes "withdraw" ∷ decimal t ∷ []

-- TAG EVENT = REPLY
abbrev pub entry_words : PlanValue → Entry → List (List ℕ)
entry_words p x = decimal x.tag ∷ event_words p x.event ++ codes "=" ∷ reply_words None x.reply

-- the line of an entry
abbrev pub entry_line : PlanValue → Entry → List ℕ
entry_line p x = line_of_words (entry_words p x) ++ 10 ∷ []

-- a journal's first line
abbrev pub header_line : PlanValue → ℕ → List ℕ
header_line p office = line_of_words (header_words p office) ++ 10 ∷ []

-- the lines of entries
abbrev pub lines_of : PlanValue → List Entry → List ℕ
lines_of p = flat_map (entry_line p)

-- how a journal is written, to the byte: the header, and then a line for each entry
abbrev pub journal_text : PlanValue → ℕ → List Entry → List ℕ
journal_text p office entries = header_line p office ++ lines_of p entries
