-- What a line of a journal says, under a plan.
use Rattle.std.specs.Prelude.{◌≡◌, ℕ, List, [], ◌∷◌, Bool, ◌&&◌, nat_lt, Option, Some, None, Result, Ok, Err, option_map, if◌then◌else◌, codes}
use Rattle.std.specs.Str.{bytes_eq}
use Rattle.frame_codec.specs.Frame.{Fields}
use Rattle.frame_codec.specs.Spelling.{Spells}
use Rattle.office_map.specs.PlanValue.{PlanValue}
use Rattle.text_lines.specs.Text.{number_of, plain_words}
use Rattle.office_map.specs.PlanText.{and_then}
use Rattle.session_meaning.specs.ProgramValue.{ProgramValue}
use Rattle.session_language.specs.declared.fault.SessionRefusal.{SessionRefusal}
use Rattle.session_language.specs.Reading.{sessions_of}
use Rattle.office_journal.specs.declared.rule.Rule.{Rule}
use Rattle.office_journal.specs.declared.event.Event.TheVariants as event
use Rattle.office_journal.specs.declared.event.Entry.{Entry}
use Rattle.office_journal.specs.declared.reply.Reply.{Reply}
use Rattle.office_journal.specs.declared.reply.Reply.TheVariants as reply
use Rattle.journal_texts.specs.wording.Words.{office_by, count_by}
use Rattle.journal_texts.specs.wording.Replies.{arrival_named}
use Rattle.journal_texts.specs.wording.Rules.{rule_named, rule_with}
use Rattle.journal_texts.specs.wording.Digits.{bytes_in}
use Rattle.journal_texts.specs.Limits.{tags, last_ticket}

-- An entry; or one of a frame that was made for a neighbour, or that came, with the frame as the bytes that stand in the line.
pub data Said : Type 0 where
  Whole : (x : Entry) → Said
  Made : (tag neighbour i : ℕ) (bytes : List ℕ) → Said
  Came : (tag : ℕ) (bytes : List ℕ) (r : Reply) → Said

-- ---- words

abbrev pub tag_of : List ℕ → Option ℕ
tag_of word = and_then (number_of word) (λ n. if nat_lt n tags then Some n else None)

-- one session, and no more
abbrev pub one_program : Result (List ProgramValue) SessionRefusal → Option ProgramValue
one_program (Ok []) = None
one_program (Ok (x ∷ [])) = Some x
one_program (Ok (x ∷ y ∷ more)) = None
one_program (Err e) = None

-- the program whose text's digits stand in a word
abbrev pub program_in : PlanValue → List ℕ → Option ProgramValue
program_in p word = and_then (bytes_in word) (λ text. one_program (sessions_of p text))

-- ---- lines

-- = done
abbrev pub is_done : List ℕ → List ℕ → Bool
is_done sign answer = bytes_eq sign (codes "=") && bytes_eq answer (codes "done")

-- submit HEX = ticket T
abbrev pub submitted_by : ℕ → Option ProgramValue → Option ℕ → Option Said
submitted_by tag None ticket = None
submitted_by tag (Some x) None = None
submitted_by tag (Some x) (Some t) = Some (Whole (record { tag = tag; event = event.Submit x; reply = reply.Ticket t }))

abbrev pub submit_line : PlanValue → ℕ → List (List ℕ) → Option Said
submit_line p tag (word ∷ sign ∷ answer ∷ ticket ∷ []) =
    if bytes_eq sign (codes "=") && bytes_eq answer (codes "ticket") then submitted_by tag (program_in p word) (count_by last_ticket ticket) else None
submit_line p tag words = None

-- withdraw T = done
abbrev pub withdrawn_by : ℕ → Option ℕ → Option Said
withdrawn_by tag ticket = option_map (λ t. Whole (record { tag = tag; event = event.Withdraw t; reply = reply.Done })) ticket

abbrev pub withdraw_line : ℕ → List (List ℕ) → Option Said
withdraw_line tag (ticket ∷ sign ∷ answer ∷ []) = if is_done sign answer then withdrawn_by tag (count_by last_ticket ticket) else None
withdraw_line tag words = None

-- do RULE = done, do RULE ARGUMENT = done
abbrev pub done_by : ℕ → Option Rule → Option Said
done_by tag r = option_map (λ x. Whole (record { tag = tag; event = event.Do x; reply = reply.Done })) r

abbrev pub do_line : PlanValue → ℕ → List (List ℕ) → Option Said
do_line p tag (name ∷ sign ∷ answer ∷ []) = if is_done sign answer then done_by tag (rule_named name) else None
do_line p tag (name ∷ argument ∷ sign ∷ answer ∷ []) = if is_done sign answer then done_by tag (rule_with p name argument) else None
do_line p tag words = None

-- send NEIGHBOUR I = frame HEX: the frame of the I-th message that waits for the neighbour, or with 0 of the count alone
abbrev pub sent_by : ℕ → Option ℕ → Option ℕ → Option (List ℕ) → Option Said
sent_by tag None i bytes = None
sent_by tag (Some neighbour) None bytes = None
sent_by tag (Some neighbour) (Some i) None = None
sent_by tag (Some neighbour) (Some i) (Some bytes) = Some (Made tag neighbour i bytes)

abbrev pub send_line : PlanValue → ℕ → List (List ℕ) → Option Said
send_line p tag (neighbour ∷ i ∷ sign ∷ answer ∷ word ∷ []) =
    if bytes_eq sign (codes "=") && bytes_eq answer (codes "frame") then sent_by tag (office_by p neighbour) (number_of i) (bytes_in word) else None
send_line p tag words = None

-- took HEX = WHAT
abbrev pub took_by : ℕ → Option (List ℕ) → Option Reply → Option Said
took_by tag None r = None
took_by tag (Some bytes) None = None
took_by tag (Some bytes) (Some r) = Some (Came tag bytes r)

abbrev pub took_line : ℕ → List (List ℕ) → Option Said
took_line tag (word ∷ sign ∷ what ∷ []) = if bytes_eq sign (codes "=") then took_by tag (bytes_in word) (arrival_named what) else None
took_line tag words = None

-- what the words after a tag say
abbrev pub said_after : PlanValue → ℕ → List (List ℕ) → Option Said
said_after p tag [] = None
said_after p tag (keyword ∷ words) =
    if bytes_eq keyword (codes "took") then took_line tag words
    else (if bytes_eq keyword (codes "do") then do_line p tag words
    else (if bytes_eq keyword (codes "send") then send_line p tag words
    else (if bytes_eq keyword (codes "submit") then submit_line p tag words
    else (if bytes_eq keyword (codes "withdraw") then withdraw_line tag words else None))))

abbrev pub tagged : PlanValue → Option ℕ → List (List ℕ) → Option Said
tagged p None words = None
tagged p (Some tag) words = said_after p tag words

abbrev pub said_by : PlanValue → List (List ℕ) → Option Said
said_by p [] = None
said_by p (tag ∷ words) = tagged p (tag_of tag) words

-- what a line says
unfoldable pub said_of : PlanValue → List ℕ → Option Said
said_of p line = and_then (plain_words line) (said_by p)

-- ---- entries

-- what is said is this entry
abbrev pub IsEntry : Said → Entry → Type 0
IsEntry (Whole x) y = y ≡ x
IsEntry (Made tag neighbour i bytes) y = (f : Fields) × Spells bytes f × (y ≡ record { tag = tag; event = event.Send neighbour i; reply = reply.Frame f })
IsEntry (Came tag bytes r) y = (f : Fields) × Spells bytes f × (y ≡ record { tag = tag; event = event.Took f; reply = r })

-- the bytes of a frame spell none
abbrev pub HasNoFrame : Said → Type 0
HasNoFrame (Whole x) = ⊥
HasNoFrame (Made tag neighbour i bytes) = (f : Fields) → Spells bytes f → ⊥
HasNoFrame (Came tag bytes r) = (f : Fields) → Spells bytes f → ⊥
