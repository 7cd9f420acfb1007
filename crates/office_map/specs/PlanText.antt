-- Which plan the lines of a text mean, and which is their first fault.
use Rattle.std.specs.Prelude.{◌≡◌, ℕ, ◌^◌, ◌≤◌, ◌⊎◌, List, [], ◌∷◌, ◌++◌, length, Bool, not, ◌&&◌, ◌||◌, ◌==◌, nat_lt, nat_le, Option, Some, None, Result, Ok, Err, if◌then◌else◌, codes, is_some, option_map, ℤ, pos, neg_ℤ}
use Rattle.std.specs.List.{list_any, before_first}
use Rattle.std.specs.Str.{bytes_eq}
use Rattle.std.specs.Option.{ok_or}
use Rattle.std.specs.Result.{MatchResult}
use Rattle.bottle_values.specs.declared.Value.{Value}
use Rattle.bottle_values.specs.declared.Value.TheVariants.{Number, Text}
use Rattle.bottle_values.specs.Texts.{is_text}
use Rattle.bottle_values.specs.declared.version.Version.{Version}
use Rattle.bottle_values.specs.declared.version.Version.TheVariants.{One, Two}
use Rattle.office_map.specs.declared.entries.OfficeEntry.{OfficeEntry}
use Rattle.office_map.specs.declared.fault.PlanRule.{PlanRule}
use Rattle.office_map.specs.declared.fault.PlanRule.TheVariants.{Header, Line, NameTwice, UnknownName, SelfPair, PairTwice, Limit}
use Rattle.office_map.specs.declared.fault.PlanRefusal.{PlanRefusal}
use Rattle.office_map.specs.declared.fault.PlanFault.{PlanFault}
use Rattle.office_map.specs.declared.ring.Ring as rings
use Rattle.office_map.specs.declared.fault.PlanFault.TheVariants.{Memory, Refused, Ring}
use Rattle.office_map.specs.PlanValue.{PlanValue, office_named, record_named, are_neighbours, records_between, with_office, with_pair, with_record, no_address}
use Rattle.office_map.specs.Precedence.{IsNamedRing, HasOrder}
use Rattle.text_lines.specs.Text.{name_of, number_of, lines, statements}
use Rattle.office_map.specs.PlanWords.{is_quote, quoted, plain_plan_words}
use Rattle.office_map.specs.Address.{address_of_word}
use Rattle.office_map.specs.Limits.{most_offices, most_pair_records, most_text}

-- one after the other, up to the first refusal
infixl 10 ◌>>=◌
abbrev pub ◌>>=◌ : {A B E : Type 0} → Result A E → (A → Result B E) → Result B E
(Ok x) >>= f = f x
(Err e) >>= f = Err e

infixl 10 ◌>>◌
abbrev pub ◌>>◌ : {A B E : Type 0} → Result A E → Result B E → Result B E
(Ok x) >> r = r
(Err e) >> r = Err e

abbrev pub refuse_if : {E : Type 0} → Bool → E → Result (Unit {0}) E
refuse_if b e = if b then Err e else Ok tt

abbrev pub and_then : {A B : Type 0} → Option A → (A → Option B) → Option B
and_then None f = None
and_then (Some x) f = f x

-- What a line declares. Names are still text.
pub data Declaration : Type 0 where
  AnOffice : (name address : List ℕ) → Declaration
  APair : (a b : List ℕ) (at_first : Bool) → Declaration
  ARecord : (name a b : List ℕ) (value : Value) (at_first : Bool) → Declaration

-- each declaration, where all its words are good
abbrev pub office_of : Option (List ℕ) → Option (List ℕ) → Option Declaration
office_of (Some name) (Some address) = Some (AnOffice name address)
office_of (Some name) None = None
office_of None address = None

abbrev pub pair_of : Option (List ℕ) → Option (List ℕ) → Bool → Option Declaration
pair_of (Some a) (Some b) at_first = Some (APair a b at_first)
pair_of (Some a) None at_first = None
pair_of None b at_first = None

abbrev pub record_of : Option (List ℕ) → Option (List ℕ) → Option (List ℕ) → Option Value → Bool → Option Declaration
record_of (Some name) (Some a) (Some b) (Some value) at_first = Some (ARecord name a b value at_first)
record_of (Some name) (Some a) (Some b) None at_first = None
record_of (Some name) (Some a) None value at_first = None
record_of (Some name) None b value at_first = None
record_of None a b value at_first = None

-- office NAME ADDR
abbrev pub office_line : List ℕ → List ℕ → List ℕ → Option Declaration
office_line keyword name address =
    if bytes_eq keyword (codes "office") then office_of (name_of name) (address_of_word address) else None

-- pair A B fork E, where E is A or B
abbrev pub pair_line : List ℕ → List ℕ → List ℕ → List ℕ → List ℕ → Option Declaration
pair_line keyword a b fork end =
    if (bytes_eq keyword (codes "pair") && bytes_eq fork (codes "fork")) && (bytes_eq end a || bytes_eq end b) then pair_of (name_of a) (name_of b) (bytes_eq end a) else None

-- a NUMBER below 0, or the least i64, which is one more than a NUMBER can be
abbrev pub negative_of : List ℕ → Option ℤ
negative_of digits =
    if bytes_eq digits (codes "9223372036854775808") then Some (neg_ℤ (pos (2 ^ 63))) else option_map (λ n. neg_ℤ (pos n)) (number_of digits)

-- a NUMBER, or - with a NUMBER or 2 ^ 63 right after it
abbrev pub integer_of : List ℕ → Option ℤ
integer_of [] = None
integer_of (first ∷ digits) =
    if first == 45 then negative_of digits else option_map pos (number_of (first ∷ digits))

-- the text between the two " of a word, if it is one: the " behind it is the next one, and the word's last byte
abbrev pub text_of : List ℕ → Option (List ℕ)
text_of [] = None
text_of (first ∷ rest) =
    if (is_quote first && quoted rest == length rest) && is_text (before_first is_quote rest) then Some (before_first is_quote rest) else None

-- a number where there is one, else a text
abbrev pub number_or_text : Option ℤ → Option (List ℕ) → Option Value
number_or_text (Some z) text = Some (Number z)
number_or_text None text = option_map Text text

-- the value that a word spells: a number, and under version 2 a text too
abbrev pub value_under : Version → List ℕ → Option Value
value_under One word = option_map Number (integer_of word)
value_under Two word = number_or_text (integer_of word) (text_of word)

-- record NAME A B VALUE at E, where E is A or B, and this is what VALUE spells
abbrev pub record_line : Option Value → List ℕ → List ℕ → List ℕ → List ℕ → List ℕ → List ℕ → Option Declaration
record_line value keyword name a b at end =
    if (bytes_eq keyword (codes "record") && bytes_eq at (codes "at")) && (bytes_eq end a || bytes_eq end b) then record_of (name_of name) (name_of a) (name_of b) value (bytes_eq end a) else None

-- what words declare, where this tells the value that a word spells
abbrev pub declaration_of : (List ℕ → Option Value) → List (List ℕ) → Option Declaration
declaration_of value (keyword ∷ name ∷ address ∷ []) = office_line keyword name address
declaration_of value (keyword ∷ a ∷ b ∷ fork ∷ end ∷ []) = pair_line keyword a b fork end
declaration_of value (keyword ∷ name ∷ a ∷ b ∷ spelled ∷ at ∷ end ∷ []) = record_line (value spelled) keyword name a b at end
declaration_of value words = None

-- a number below 2 ^ 32
abbrev pub small_number : Option ℕ → Option ℕ
small_number None = None
small_number (Some n) = if nat_lt n (2 ^ 32) then Some n else None

-- the version that a word tells
abbrev pub version_of : List ℕ → Option Version
version_of word = if bytes_eq word (codes "1") then Some One else if bytes_eq word (codes "2") then Some Two else None

-- a version with a run
abbrev pub with_run : Option Version → Option ℕ → Option (Version × ℕ)
with_run (Some version) (Some run) = Some (version, run)
with_run (Some version) None = None
with_run None run = None

-- plan VERSION run N
abbrev pub header_of : List (List ℕ) → Option (Version × ℕ)
header_of (plan ∷ version ∷ run ∷ number ∷ []) =
    if bytes_eq plan (codes "plan") && bytes_eq run (codes "run") then with_run (version_of version) (small_number (number_of number)) else None
header_of words = None

-- another office has this address; `-` is none
abbrev pub is_address_taken : PlanValue → List ℕ → Bool
is_address_taken p address =
    not (bytes_eq address no_address) && list_any (λ (o : OfficeEntry). bytes_eq o.address address) p.offices

-- the plan with one more declaration, or the first rule that refuses it
abbrev pub declare : PlanValue → Declaration → Result PlanValue PlanRule
declare p (AnOffice name address) = do
  refuse_if (is_some (office_named p name)) NameTwice
  refuse_if (is_address_taken p address) NameTwice
  refuse_if (nat_le most_offices (length p.offices)) Limit
  Ok (with_office p (record { name = name; address = address }))
declare p (APair a b at_first) = do
  first ← ok_or (office_named p a) UnknownName
  second ← ok_or (office_named p b) UnknownName
  refuse_if (first == second) SelfPair
  refuse_if (are_neighbours p first second) PairTwice
  Ok (with_pair p (record { first = first; second = second; fork_at_first = at_first }))
declare p (ARecord name a b value at_first) = do
  first ← ok_or (office_named p a) UnknownName
  second ← ok_or (office_named p b) UnknownName
  refuse_if (not (are_neighbours p first second)) UnknownName
  refuse_if (is_some (record_named p name)) NameTwice
  refuse_if (nat_le most_pair_records (records_between p first second)) Limit
  Ok (with_record p (record { name = name; first = first; second = second; value = value; starts_at_first = at_first }))

abbrev pub at_line : {A : Type 0} → ℕ → Result A PlanRule → Result A PlanRefusal
at_line n (Ok x) = Ok x
at_line n (Err rule) = Err (record { rule = rule; line = n })

-- a plan that declares nothing yet
abbrev pub empty_plan : Version → ℕ → PlanValue
empty_plan version run = record { version = version; run = run; offices = []; pairs = []; records = [] }

unfoldable pub read_header : ℕ × List ℕ → Result PlanValue PlanRefusal
read_header l = at_line l.0 (do
  header ← ok_or (and_then (plain_plan_words l.1) header_of) Header
  Ok (empty_plan header.0 header.1))

unfoldable pub read_line : PlanValue → ℕ × List ℕ → Result PlanValue PlanRefusal
read_line p l = at_line l.0 (do
  d ← ok_or (and_then (plain_plan_words l.1) (declaration_of (value_under p.version))) Line
  declare p d)

-- each line in order, on what those before it declare
abbrev pub read_lines : PlanValue → List (ℕ × List ℕ) → Result PlanValue PlanRefusal
read_lines p [] = Ok p
read_lines p (l ∷ ls) = read_line p l >>= λ q. read_lines q ls

abbrev pub read_statements : List (ℕ × List ℕ) → Result PlanValue PlanRefusal
read_statements [] = Err (record { rule = Header; line = 0 })
read_statements (l ∷ ls) = read_header l >>= λ p. read_lines p ls

-- The plan that the lines of a text mean, or their first fault. Whether it has a ring isn't asked here.
unfoldable pub plan_of : List ℕ → Result PlanValue PlanRefusal
plan_of text = do
  refuse_if (nat_lt most_text (length text)) (record { rule = Limit; line = 0 })
  p ← read_statements (statements text)
  refuse_if (nat_lt (length p.offices) 2) (record { rule = Limit; line = 0 })
  Ok p

-- the lines have no fault, and their plan has this ring
abbrev pub HasRing : rings.Ring → Result PlanValue PlanRefusal → Type 0
HasRing r (Ok p) = IsNamedRing p r
HasRing r (Err f) = ⊥

-- What reading a plan answers, where its lines mean this: their plan, which has an order; their first refusal; or a
-- ring of that plan. Of `Memory` nothing is said.
abbrev pub Answers : Result PlanValue PlanFault → Result PlanValue PlanRefusal → Type 0
Answers (Ok p) read = (read ≡ Ok p) × HasOrder p
Answers (Err Memory) read = Unit {0}
Answers (Err (Refused r)) read = read ≡ Err r
Answers (Err (Ring r)) read = HasRing r read

-- a fact of a refusal that has a line
abbrev pub IfRefused : (PlanRefusal → Type 0) → PlanFault → Type 0
IfRefused P Memory = Unit {0}
IfRefused P (Refused r) = P r
IfRefused P (Ring r) = Unit {0}

-- The lines are accepted one after the other, and lead from one plan to another.
abbrev pub Lead : PlanValue → List (ℕ × List ℕ) → PlanValue → Type 0
Lead p [] q = p ≡ q
Lead p (l ∷ ls) q = (next : PlanValue) × (read_line p l ≡ Ok next) × Lead next ls q

-- a line is refused, and all before it are accepted
pub record IsFirstFault (p : PlanValue) (lines : List (ℕ × List ℕ)) (f : PlanRefusal) : Type 0 where
  pub before : List (ℕ × List ℕ)
  pub line : ℕ × List ℕ
  pub after : List (ℕ × List ℕ)
  pub split : lines ≡ before ++ line ∷ after
  pub reached : PlanValue
  pub accepted : Lead p before reached
  pub refused : read_line reached line ≡ Err f

-- Reading the lines is this, and nothing else: a text is refused exactly where its lines before the fault are accepted
-- and that line isn't.
abbrev pub ReadsInOrder : Type 0
ReadsInOrder = (p : PlanValue) (lines : List (ℕ × List ℕ)) → MatchResult (read_lines p lines) (Lead p lines) (IsFirstFault p lines)

-- the line is 0, which is none, or one of the text's
abbrev pub IsLineOf : List ℕ → ℕ → Type 0
IsLineOf text n = (n ≡ 0) ⊎ ((1 ≤ n) × (n ≤ length (lines text)))
