-- What reading accepts, and where it refuses.
use Rattle.std.proofs.Common.{◌≡◌, ℕ, ◌+◌, ◌≤◌, List, [], ◌∷◌, length, Bool, true, false, not, eqb, inl, inr, Option, Some, None, IfSome, is_some, option_map, ℤ, codes, Result, Ok, Err, refl, sym, arith, subst, nat_lt, nat_le, if◌then◌else◌}
use Rattle.std.specs.Option.{ok_or}
use Rattle.std.specs.Result.{MatchResult}
use Rattle.std.proofs.lemmas.Bool.{eqb-false, leb-false, ltb-false, not-false}
use Rattle.bottle_values.specs.declared.Value.{Value}
use Rattle.bottle_values.specs.declared.Value.TheVariants.{Number}
use Rattle.bottle_values.specs.Versions.{admits}
use Rattle.bottle_values.specs.declared.version.Version.{Version}
use Rattle.bottle_values.specs.declared.version.Version.TheVariants.{One, Two}
use Rattle.office_map.specs.declared.entries.OfficeEntry.{OfficeEntry}
use Rattle.office_map.specs.declared.entries.PairEntry.{PairEntry}
use Rattle.office_map.specs.declared.entries.RecordEntry.{RecordEntry}
use Rattle.office_map.specs.declared.fault.PlanRule.{PlanRule}
use Rattle.office_map.specs.declared.fault.PlanRule.TheVariants.{Header, Line, NameTwice, UnknownName, SelfPair, PairTwice, Limit}
use Rattle.office_map.specs.declared.fault.PlanRefusal.{PlanRefusal}
use Rattle.office_map.specs.declared.fault.PlanFault.{PlanFault}
use Rattle.office_map.specs.declared.fault.PlanFault.TheVariants.{Memory, Refused, Ring}
use Rattle.office_map.specs.PlanValue.{PlanValue, office_named, record_named, are_neighbours, records_between, with_office, with_pair, with_record}
use Rattle.office_map.specs.PlanText.{◌>>=◌, ◌>>◌, refuse_if, Declaration, AnOffice, APair, ARecord, is_address_taken, declare, office_of, pair_of, record_of, number_or_text, value_under, declaration_of, at_line, and_then, header_of, empty_plan, integer_of, read_header, read_line, read_lines, read_statements, plan_of, IsLineOf, IfRefused}
use Rattle.std.specs.Str.{bytes_eq}
use Rattle.office_map.specs.Address.{is_address, address_of_word}
use Rattle.text_lines.specs.Text.{is_name, name_of, lines, says_something, statements_from, statements}
use Rattle.office_map.specs.PlanWords.{plain_plan_words}
use Rattle.office_map.specs.Consistency.{IsConsistent, IsComplete, ReadsCompletePlans}
use Rattle.office_map.proofs.ConsistencyKept.{none_found, is_office, office_consistent, pair_consistent, record_consistent}
use Rattle.office_map.specs.refinement.PlanReader.{Fails, HasAdmitted}

-- an answer that is accepted has a property
abbrev pub Has : (PlanValue → Type 0) → Result PlanValue PlanRule → Type 0
Has P r = MatchResult r P (λ _. Unit {0})

abbrev Keeps : Result PlanValue PlanRule → Type 0
Keeps = Has IsConsistent

module _ (P : PlanValue → Type 0) where
  pub office_kept : (q : PlanValue) (named taken full : Bool) → (named ≡ false → taken ≡ false → full ≡ false → P q) → Has P (refuse_if named NameTwice >> (refuse_if taken NameTwice >> (refuse_if full Limit >> Ok q)))
  office_kept q true taken full h = tt
  office_kept q false true full h = tt
  office_kept q false false true h = tt
  office_kept q false false false h = h refl refl refl

  pub pair_kept : (a b : Option ℕ) (same joined : ℕ → ℕ → Bool) (q : ℕ → ℕ → PlanValue) → ((x y : ℕ) → a ≡ Some x → b ≡ Some y → same x y ≡ false → joined x y ≡ false → P (q x y))
      → Has P (ok_or a UnknownName >>= λ x. ok_or b UnknownName >>= λ y. refuse_if (same x y) SelfPair >> (refuse_if (joined x y) PairTwice >> Ok (q x y)))
  pair_kept None b same joined q h = tt
  pair_kept (Some x) None same joined q h = tt
  pair_kept (Some x) (Some y) same joined q h = by_tests (same x y) (joined x y) refl refl
    where
      by_tests : (s j : Bool) → same x y ≡ s → joined x y ≡ j → Has P (refuse_if s SelfPair >> (refuse_if j PairTwice >> Ok (q x y)))
      by_tests true j e f = tt
      by_tests false true e f = tt
      by_tests false false e f = h x y refl refl e f

  pub record_kept : (a b : Option ℕ) (apart : ℕ → ℕ → Bool) (named : Bool) (full : ℕ → ℕ → Bool) (q : ℕ → ℕ → PlanValue) → ((x y : ℕ) → apart x y ≡ false → named ≡ false → full x y ≡ false → P (q x y))
      → Has P (ok_or a UnknownName >>= λ x. ok_or b UnknownName >>= λ y. refuse_if (apart x y) UnknownName >> (refuse_if named NameTwice >> (refuse_if (full x y) Limit >> Ok (q x y))))
  record_kept None b apart named full q h = tt
  record_kept (Some x) None apart named full q h = tt
  record_kept (Some x) (Some y) apart named full q h = by_tests (apart x y) named (full x y) refl refl refl
    where
      by_tests : (s n f : Bool) → apart x y ≡ s → named ≡ n → full x y ≡ f → Has P (refuse_if s UnknownName >> (refuse_if n NameTwice >> (refuse_if f Limit >> Ok (q x y))))
      by_tests true n f d e g = tt
      by_tests false true f d e g = tt
      by_tests false false true d e g = tt
      by_tests false false false d e g = h x y d e g

-- what a line declares has a name, an office an address, and a record a value that the plan may have
abbrev IsNamed : Version → Declaration → Type 0
IsNamed version (AnOffice name address) = (is_name name ≡ true) × (is_address address ≡ true)
IsNamed version (APair a b at_first) = Unit {0}
IsNamed version (ARecord name a b value at_first) = (is_name name ≡ true) × (admits version value ≡ true)

declare_keeps : (p : PlanValue) (d : Declaration) → IsConsistent p → IsNamed p.version d → Keeps (declare p d)
declare_keeps p (AnOffice name address) ok named =
    let o : OfficeEntry = record { name = name; address = address } in
    office_kept IsConsistent (with_office p o) (is_some (office_named p name)) (is_address_taken p address) (nat_le 16 (length p.offices)) (λ fresh free room. office_consistent p o ok named.0 named.1 (none_found _ fresh) free (leb-false 16 (length p.offices) room))
declare_keeps p (APair a b at_first) ok named =
    let pair : ℕ → ℕ → PairEntry = λ x y. record { first = x; second = y; fork_at_first = at_first } in
    pair_kept IsConsistent (office_named p a) (office_named p b) (λ x y. eqb x y) (λ x y. are_neighbours p x y) (λ x y. with_pair p (pair x y)) (λ x y e f apart fresh. pair_consistent p (pair x y) ok (is_office p a x e) (is_office p b y f) (eqb-false x y apart) fresh)
declare_keeps p (ARecord name a b value at_first) ok named =
    let entry : ℕ → ℕ → RecordEntry = λ x y. record { name = name; first = x; second = y; value = value; starts_at_first = at_first } in
    record_kept IsConsistent (office_named p a) (office_named p b) (λ x y. not (are_neighbours p x y)) (is_some (record_named p name)) (λ x y. nat_le 8 (records_between p x y)) (λ x y. with_record p (entry x y)) (λ x y joined fresh room. record_consistent p (entry x y) ok named.0 named.1 (not-false (are_neighbours p x y) joined) (none_found _ fresh) (leb-false 8 (records_between p x y) room))

-- the tables of a plan that is read, and the line of a refusal
abbrev pub Reads : ℕ → Result PlanValue PlanRefusal → Type 0
Reads last r = MatchResult r IsConsistent (λ f. (1 ≤ f.line) × (f.line ≤ last))

at_its_line : (n last : ℕ) → 1 ≤ n → n ≤ last → (r : Result PlanValue PlanRule) → Keeps r → Reads last (at_line n r)
at_its_line n last low high (Ok q) ok = ok
at_its_line n last low high (Err rule) ok = (low, high)

-- an empty plan
pub empty : (version : Version) (run : ℕ) → IsConsistent (empty_plan version run)
empty version run = record {
  offices_fit = omega arith;
  offices_are_named = λ k d lt. absurd (omega arith);
  office_names = λ i j d lt short. absurd (omega arith);
  offices_have_addresses = λ k d lt. absurd (omega arith);
  addresses = λ i j d lt short. absurd (omega arith);
  ends_are_offices = λ k d lt. absurd (omega arith);
  ends_differ = λ k d lt. absurd (omega arith);
  pairs_once = λ i j d lt short. absurd (omega arith);
  records_are_named = λ k d lt. absurd (omega arith);
  record_names = λ i j d lt short. absurd (omega arith);
  records_have_pairs = λ k d lt. absurd (omega arith);
  records_fit = λ a b. omega arith;
  values_are_admitted = λ k d lt. absurd (omega arith);
}

header_kept : (header : Option (Version × ℕ)) → Keeps (ok_or header Header >>= λ h. Ok (empty_plan h.0 h.1))
header_kept None = tt
header_kept (Some h) = empty h.0 h.1

header_reads : (last : ℕ) (l : ℕ × List ℕ) → 1 ≤ l.0 → l.0 ≤ last → Reads last (read_header l)
unfolding read_header
header_reads last l low high = at_its_line l.0 last low high _ (header_kept (and_then (plain_plan_words l.1) header_of))

line_kept : (p : PlanValue) (d : Option Declaration) → IsConsistent p → IfSome d (IsNamed p.version) → Keeps (ok_or d Line >>= declare p)
line_kept p None ok named = tt
line_kept p (Some d) ok named = declare_keeps p d ok named

-- a word that is taken for a name is one
named_by : (b : Bool) (word : List ℕ) → is_name word ≡ b → IfSome (if b then Some word else None) (λ name. is_name name ≡ true)
named_by true word h = h
named_by false word h = tt

named : (word : List ℕ) → IfSome (name_of word) (λ name. is_name name ≡ true)
named word = named_by (is_name word) word refl

-- and one that is taken for an address is one
addressed_by : (b : Bool) (word : List ℕ) → is_address word ≡ b → IfSome (if b then Some word else None) (λ address. is_address address ≡ true)
addressed_by true word h = h
addressed_by false word h = tt

addressed : (word : List ℕ) → IfSome (address_of_word word) (λ address. is_address address ≡ true)
addressed word = addressed_by (is_address word) word refl

module _ (version : Version) where
  office_named_so : (name address : Option (List ℕ)) → IfSome name (λ n. is_name n ≡ true) → IfSome address (λ a. is_address a ≡ true) → IfSome (office_of name address) (IsNamed version)
  office_named_so (Some name) (Some address) h a = (h, a)
  office_named_so (Some name) None h a = tt
  office_named_so None address h a = tt

  pair_named_so : (a b : Option (List ℕ)) (at_first : Bool) → IfSome (pair_of a b at_first) (IsNamed version)
  pair_named_so (Some a) (Some b) at_first = tt
  pair_named_so (Some a) None at_first = tt
  pair_named_so None b at_first = tt

  record_named_so : (name a b : Option (List ℕ)) (value : Option Value) (at_first : Bool) → IfSome name (λ n. is_name n ≡ true) → IfSome value (λ v. admits version v ≡ true) → IfSome (record_of name a b value at_first) (IsNamed version)
  record_named_so (Some name) (Some a) (Some b) (Some value) at_first h v = (h, v)
  record_named_so (Some name) (Some a) (Some b) None at_first h v = tt
  record_named_so (Some name) (Some a) None value at_first h v = tt
  record_named_so (Some name) None b value at_first h v = tt
  record_named_so None a b value at_first h v = tt

  if_so : (b : Bool) (o : Option Declaration) → IfSome o (IsNamed version) → IfSome (if b then o else None) (IsNamed version)
  if_so true o h = h
  if_so false o h = tt

  -- words declare what is named, where the values that they spell are admitted
  declared_named : (value : List ℕ → Option Value) → ((w : List ℕ) → IfSome (value w) (λ v. admits version v ≡ true)) → (words : List (List ℕ)) → IfSome (declaration_of value words) (IsNamed version)
  declared_named value spelled [] = tt
  declared_named value spelled (a ∷ []) = tt
  declared_named value spelled (a ∷ b ∷ []) = tt
  declared_named value spelled (keyword ∷ name ∷ address ∷ []) = if_so (bytes_eq keyword (codes "office")) _ (office_named_so (name_of name) (address_of_word address) (named name) (addressed address))
  declared_named value spelled (a ∷ b ∷ c ∷ d ∷ []) = tt
  declared_named value spelled (keyword ∷ a ∷ b ∷ fork ∷ end ∷ []) = if_so _ _ (pair_named_so (name_of a) (name_of b) (bytes_eq end a))
  declared_named value spelled (a ∷ b ∷ c ∷ d ∷ e ∷ f ∷ []) = tt
  declared_named value spelled (keyword ∷ name ∷ a ∷ b ∷ w ∷ at ∷ end ∷ []) = if_so _ _ (record_named_so (name_of name) (name_of a) (name_of b) (value w) (bytes_eq end a) (named name) (spelled w))
  declared_named value spelled (a ∷ b ∷ c ∷ d ∷ e ∷ f ∷ g ∷ h ∷ more) = tt

  declaration_named : (value : List ℕ → Option Value) → ((w : List ℕ) → IfSome (value w) (λ v. admits version v ≡ true)) → (o : Option (List (List ℕ))) → IfSome (and_then o (declaration_of value)) (IsNamed version)
  declaration_named value spelled None = tt
  declaration_named value spelled (Some words) = declared_named value spelled words

-- a value that is spelled under a version can be one of it
number_admitted : (o : Option ℤ) → IfSome (option_map Number o) (λ v. admits One v ≡ true)
number_admitted None = tt
number_admitted (Some z) = refl

any_admitted : (o : Option Value) → IfSome o (λ v. admits Two v ≡ true)
any_admitted None = tt
any_admitted (Some v) = refl

pub spelled_under : (version : Version) (w : List ℕ) → IfSome (value_under version w) (λ v. admits version v ≡ true)
spelled_under One w = number_admitted (integer_of w)
spelled_under Two w = any_admitted (value_under Two w)

only_admitted : (version : Version) (d : Declaration) → IsNamed version d → HasAdmitted version d
only_admitted version (AnOffice name address) h = tt
only_admitted version (APair a b at_first) h = tt
only_admitted version (ARecord name a b value at_first) h = h.1

pub admitted_in : (version now : Version) (words : List (List ℕ)) (d : Declaration) → version ≡ now → Some d ≡ declaration_of (value_under version) words → HasAdmitted now d
admitted_in version now words d same e =
    let P : Option Declaration → Type 0 = λ o. IfSome o (IsNamed version) in
    let Q : Version → Type 0 = λ v. HasAdmitted v d in
    subst Q same (only_admitted version d (subst P (sym e) (declared_named version (value_under version) (spelled_under version) words)))

line_reads : (p : PlanValue) (last : ℕ) (l : ℕ × List ℕ) → IsConsistent p → 1 ≤ l.0 → l.0 ≤ last → Reads last (read_line p l)
unfolding read_line
line_reads p last l ok low high = at_its_line l.0 last low high _ (line_kept p (and_then (plain_plan_words l.1) (declaration_of (value_under p.version))) ok (declaration_named p.version (value_under p.version) (spelled_under p.version) (plain_plan_words l.1)))

-- the numbers of lines
abbrev pub AreLines : ℕ → List (ℕ × List ℕ) → Type 0
AreLines last [] = Unit {0}
AreLines last (l ∷ ls) = (1 ≤ l.0) × (l.0 ≤ last) × AreLines last ls

one_line : (n last : ℕ) (line : List ℕ) (more : List (ℕ × List ℕ)) (says : Bool) → 1 ≤ n → n ≤ last → AreLines last more → AreLines last (if says then (n, line) ∷ more else more)
one_line n last line more true low high h = (low, high, h)
one_line n last line more false low high h = h

pub statements_are_lines : (n last : ℕ) (ls : List (List ℕ)) → 1 ≤ n → n + length ls ≤ last + 1 → AreLines last (statements_from n ls)
statements_are_lines n last [] low high = tt
statements_are_lines n last (line ∷ more) low high =
    one_line n last line (statements_from (n + 1) more) (says_something line) low (omega arith) (statements_are_lines (n + 1) last more (omega arith) (omega arith))

next_lines : (last : ℕ) (ls : List (ℕ × List ℕ)) (r : Result PlanValue PlanRefusal) → Reads last r → ((q : PlanValue) → IsConsistent q → Reads last (read_lines q ls)) → Reads last (r >>= λ q. read_lines q ls)
next_lines last ls (Ok q) kept others = others q kept
next_lines last ls (Err f) line others = line

lines_read : (last : ℕ) (p : PlanValue) (ls : List (ℕ × List ℕ)) → IsConsistent p → AreLines last ls → Reads last (read_lines p ls)
lines_read last p [] ok h = ok
lines_read last p (l ∷ ls) ok h =
    next_lines last ls (read_line p l) (line_reads p last l ok h.0 h.1) (λ q kept. lines_read last q ls kept h.2)

-- what a text is read as
abbrev Answers : List ℕ → Result PlanValue PlanRefusal → Type 0
Answers text r = MatchResult r IsConsistent (λ f. IsLineOf text f.line)

statements_read : (text : List ℕ) (ls : List (ℕ × List ℕ)) → AreLines (length (lines text)) ls → Answers text (read_statements ls)
statements_read text [] h = inl refl
statements_read text (l ∷ ls) h = header (read_header l) (header_reads (length (lines text)) l h.0 h.1)
  where
    answer : (r : Result PlanValue PlanRefusal) → Reads (length (lines text)) r → Answers text r
    answer (Ok q) kept = kept
    answer (Err f) line = inr line

    header : (r : Result PlanValue PlanRefusal) → Reads (length (lines text)) r → Answers text (r >>= λ q. read_lines q ls)
    header (Ok q) kept = answer (read_lines q ls) (lines_read (length (lines text)) q ls kept h.2)
    header (Err f) line = inr line

-- a plan needs two
abbrev counted : Bool → PlanValue → Result PlanValue PlanRefusal
counted few p = refuse_if few (record { rule = Limit; line = 0 }) >> Ok p

abbrev Accepts : List ℕ → Result PlanValue PlanRefusal → Type 0
Accepts text r = MatchResult r IsComplete (λ f. IsLineOf text f.line)

enough : (text : List ℕ) (p : PlanValue) (few : Bool) → IsConsistent p → nat_lt (length p.offices) 2 ≡ few → Accepts text (counted few p)
enough text p true ok e = inl refl
enough text p false ok e = (ok, ltb-false (length p.offices) 2 e)

two_offices : (text : List ℕ) (r : Result PlanValue PlanRefusal) → Answers text r → Accepts text (r >>= λ p. counted (nat_lt (length p.offices) 2) p)
two_offices text (Err f) line = line
two_offices text (Ok p) ok = enough text p (nat_lt (length p.offices) 2) ok refl

abbrev too_long : Bool → Result PlanValue PlanRefusal → Result PlanValue PlanRefusal
too_long long r = refuse_if long (record { rule = Limit; line = 0 }) >> r

short_text : (text : List ℕ) (long : Bool) (r : Result PlanValue PlanRefusal) → Accepts text r → Accepts text (too_long long r)
short_text text true r h = inl refl
short_text text false r h = h

pub complete : ReadsCompletePlans
unfolding plan_of
complete text =
    let numbered : AreLines (length (lines text)) (statements text) = statements_are_lines 1 (length (lines text)) (lines text) (omega arith) (omega arith) in
    short_text text (nat_lt 262144 (length text)) _ (two_offices text (read_statements (statements text)) (statements_read text (statements text) numbered))

read_as : (text : List ℕ) (r : Result PlanValue PlanRefusal) → plan_of text ≡ r → Accepts text r
read_as text r e = let P : Result PlanValue PlanRefusal → Type 0 = Accepts text in subst P e (complete text)

pub complete_plan : (text : List ℕ) (p : PlanValue) → plan_of text ≡ Ok p → IsComplete p
complete_plan text p e = read_as text (Ok p) e

pub refused_line : (text : List ℕ) (e : PlanFault) → Fails e (plan_of text) → IfRefused (λ f. IsLineOf text f.line) e
refused_line text Memory h = tt
refused_line text (Refused f) h = read_as text (Err f) h
refused_line text (Ring r) h = tt
