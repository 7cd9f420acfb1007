-- What was read is spelled by the bytes.
use Rattle.std.proofs.Common.{◌≡◌, ℕ, Bool, true, false, cond, IsTrue, ◌++◌, List, [], ◌∷◌, get_or, drop, Option, Some, None, refl, sym, ap, ◌∙◌, arith}
use Rattle.std.specs.Prelude.{IfSome}
use Rattle.std.proofs.lemmas.Bool.{and_parts, ltb-true, eqb-true, false≢true}
use Rattle.std.proofs.lemmas.List.{take-append-drop, get_or-take}
use Rattle.bottle_values.specs.Texts.{is_text}
use Rattle.bottle_values.specs.Versions.{number_of}
use Rattle.bottle_values.specs.declared.Value.TheVariants.{Number, Text}
use Rattle.bottle_values.specs.declared.version.Version.{Version}
use Rattle.bottle_values.specs.declared.version.Version.TheVariants.{One, Two}
use Rattle.frame_codec.specs.declared.body.Part.{Part}
use Rattle.frame_codec.specs.declared.message.Msg.TheVariants.{AskFork, Fork, AskBottle, Bottle}
use Rattle.frame_codec.specs.declared.header.Kind.{Kind}
use Rattle.frame_codec.specs.declared.header.Kind.TheVariants.{Data, Ack}
use Rattle.frame_codec.specs.declared.header.Header.{Header}
use Rattle.frame_codec.specs.declared.message.Msg.{Msg}
use Rattle.frame_codec.specs.Frame.{Fields, IsMsg, carries}
use Rattle.frame_codec.specs.Header.{header, header_fault, ack_kind, data_kind, kind_of}
use Rattle.frame_codec.specs.refinement.DecodedParts.{BeginsWith, code_of, fault_left, fields_of, framed, is_numbered_by, message_fault, message_of}
use Rattle.frame_codec.specs.Spelling.{Spells, body, first_fault, message, spelling}
use Rattle.frame_codec.proofs.FirstFaults.{first_fault-of_message}

-- the header, and what follows it
whole : (bytes tail : List ℕ) (h : Header) (k : Kind) → BeginsWith bytes h → h.kind ≡ k → drop 26 bytes ≡ tail → bytes ≡ header (code_of k) (fields_of h) ++ tail
whole bytes tail h k begun is follows =
    sym (take-append-drop 26 bytes)
    ∙ ap (λ (l : List ℕ). l ++ drop 26 bytes) (begun.spelled ∙ ap (λ (j : Kind). header (code_of j) (fields_of h)) is)
    ∙ ap (λ (l : List ℕ). header (code_of k) (fields_of h) ++ l) follows

numbered : (bytes : List ℕ) (h : Header) (k : Kind) → BeginsWith bytes h → h.kind ≡ k → is_numbered_by k h.number ≡ true
numbered bytes h k begun is = ap (λ (j : Kind). is_numbered_by j h.number) (sym is) ∙ begun.number

pub spells_data : (bytes : List ℕ) (h : Header) (m : Msg) → BeginsWith bytes h → h.kind ≡ Data → drop 26 bytes ≡ message h.version m → IsMsg m → IsTrue (carries h.version m)
    → Spells bytes (record { version = h.version; run = h.run; from = h.from; to = h.to; number = h.number; count = h.count; msg = Some m })
unfolding spelling
spells_data bytes h m begun is follows fits carried =
    let both = and_parts _ _ (numbered bytes h Data begun is) in
    record {
      in_range = record { run = begun.run; from = begun.from; to = begun.to; number = (ltb-true _ _ both.0, ltb-true _ _ both.1); count = begun.count; msg = fits; carried = carried };
      is = whole bytes (message h.version m) h Data begun is follows;
    }

pub spells_ack : (bytes : List ℕ) (h : Header) → BeginsWith bytes h → h.kind ≡ Ack → drop 26 bytes ≡ []
    → Spells bytes (record { version = h.version; run = h.run; from = h.from; to = h.to; number = 0; count = h.count; msg = None })
unfolding spelling
spells_ack bytes h begun is follows =
    let number : h.number ≡ 0 = eqb-true _ _ (numbered bytes h Ack begun is) in
    record {
      in_range = record { run = begun.run; from = begun.from; to = begun.to; number = refl; count = begun.count; msg = tt; carried = tt };
      is = whole bytes [] h Ack begun is follows ∙ ap (λ (n : ℕ). header ack_kind (record { version = h.version; run = h.run; from = h.from; to = h.to; number = n; count = h.count; msg = None }) ++ []) number;
    }

-- the same where the message was found as a part, and which one that is
pub spells_part : (bytes tail : List ℕ) (h : Header) (p q : Part) → BeginsWith bytes h → h.kind ≡ Data → drop 26 bytes ≡ tail → tail ≡ message h.version (message_of p tail)
    → IsTrue (carries h.version (message_of p tail)) → p ≡ q → IsMsg (message_of q tail) → Spells bytes (framed h (message_of q tail))
spells_part bytes tail h p q begun is follows spelled carried same fits =
    spells_data bytes h (message_of q tail) begun is (follows ∙ spelled ∙ ap (λ (r : Part). message h.version (message_of r tail)) same) fits (ap (λ (r : Part). carries h.version (message_of r tail)) (sym same) ∙ carried)

-- the fault that is left then
pub fault_of_part : (bytes tail : List ℕ) (h : Header) (p q : Part) → BeginsWith bytes h → header_fault bytes ≡ None → h.kind ≡ Data → drop 26 bytes ≡ tail
    → message_fault h.version tail ≡ fault_left p tail → p ≡ q → first_fault bytes ≡ fault_left q tail
fault_of_part bytes tail h p q begun faultless is follows left same =
    first_fault-of_message bytes h begun faultless is ∙ ap (message_fault h.version) follows ∙ left ∙ ap (λ (r : Part). fault_left r tail) same

-- whether bytes are a text, by what is made of them
pub some_text : (b : Bool) (t u : List ℕ) → cond b (Some t) None ≡ Some u → (b ≡ true) × (t ≡ u)
some_text true t u e = (refl, cc)
some_text false t u e = absurd cc

pub none_text : (b : Bool) (t : List ℕ) → cond b (Some t) None ≡ None → b ≡ false
none_text true t e = absurd cc
none_text false t e = refl

-- what stands in a spelling where a text does is one
text_behind : (v : Version) (run from to number count : ℕ) (m : Option Msg) → IfSome m IsMsg → (bytes text : List ℕ) (high low size : ℕ)
    → bytes ≡ header (kind_of m) (record { version = v; run = run; from = from; to = to; number = number; count = count; msg = m }) ++ body v m
    → get_or bytes 2 0 ≡ 2 → get_or bytes 3 0 ≡ data_kind → drop 26 bytes ≡ 4 ∷ high ∷ low ∷ 2 ∷ size ∷ text → IsTrue (is_text text)
text_behind One run from to number count m fits bytes text high low size e second kind follows =
    let no : ◌≡◌ {A = ℕ} 1 2 = ap (λ (l : List ℕ). get_or l 2 0) (sym e) ∙ second in absurd (omega arith)
text_behind Two run from to number count None fits bytes text high low size e second kind follows =
    let no : ◌≡◌ {A = ℕ} 2 1 = ap (λ (l : List ℕ). get_or l 3 0) (sym e) ∙ kind in absurd (omega arith)
text_behind Two run from to number count (Some AskFork) fits bytes text high low size e second kind follows =
    let no : ◌≡◌ {A = ℕ} 1 4 = ap (λ (l : List ℕ). get_or (drop 26 l) 0 0) (sym e) ∙ ap (λ (l : List ℕ). get_or l 0 0) follows in absurd (omega arith)
text_behind Two run from to number count (Some Fork) fits bytes text high low size e second kind follows =
    let no : ◌≡◌ {A = ℕ} 2 4 = ap (λ (l : List ℕ). get_or (drop 26 l) 0 0) (sym e) ∙ ap (λ (l : List ℕ). get_or l 0 0) follows in absurd (omega arith)
text_behind Two run from to number count (Some (AskBottle b)) fits bytes text high low size e second kind follows =
    let no : ◌≡◌ {A = ℕ} 3 4 = ap (λ (l : List ℕ). get_or (drop 26 l) 0 0) (sym e) ∙ ap (λ (l : List ℕ). get_or l 0 0) follows in absurd (omega arith)
text_behind Two run from to number count (Some (Bottle b (Number z))) fits bytes text high low size e second kind follows =
    let no : ◌≡◌ {A = ℕ} 1 2 = ap (λ (l : List ℕ). get_or (drop 26 l) 3 0) (sym e) ∙ ap (λ (l : List ℕ). get_or l 3 0) follows in absurd (omega arith)
text_behind Two run from to number count (Some (Bottle b (Text t))) fits bytes text high low size e second kind follows =
    let same : t ≡ text = ap (λ (l : List ℕ). drop 5 (drop 26 l)) (sym e) ∙ ap (λ (l : List ℕ). drop 5 l) follows in
    ap is_text (sym same) ∙ fits.1

text_of : (v : Version) (bytes text : List ℕ) (bottle : ℕ) (f : Fields) → get_or bytes 2 0 ≡ number_of v → get_or bytes 3 0 ≡ data_kind
    → drop 26 bytes ≡ message v (Bottle bottle (Text text)) → IsTrue (carries v (Bottle bottle (Text text))) → Spells bytes f → IsTrue (is_text text)
unfolding spelling
text_of One bytes text bottle f version kind follows carried s = absurd (false≢true carried)
text_of Two bytes text bottle f version kind follows carried s =
    text_behind f.version f.run f.from f.to f.number f.count f.msg s.in_range.msg bytes text _ _ _ s.is version kind follows

-- bytes whose text is none spell nothing
pub spelled_text : (bytes text : List ℕ) (h : Header) (bottle : ℕ) (f : Fields) → BeginsWith bytes h → h.kind ≡ Data → drop 26 bytes ≡ message h.version (Bottle bottle (Text text))
    → IsTrue (carries h.version (Bottle bottle (Text text))) → Spells bytes f → IsTrue (is_text text)
spelled_text bytes text h bottle f begun is follows carried s =
    let version : get_or bytes 2 0 ≡ number_of h.version = sym (get_or-take 26 bytes 2 0 (omega arith)) ∙ ap (λ (l : List ℕ). get_or l 2 0) begun.spelled in
    let kind : get_or bytes 3 0 ≡ data_kind = sym (get_or-take 26 bytes 3 0 (omega arith)) ∙ ap (λ (l : List ℕ). get_or l 3 0) begun.spelled ∙ ap code_of is in
    text_of h.version bytes text bottle f version kind follows carried s
