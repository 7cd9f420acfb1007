-- What follows of spellings: what two of them can have in common.
use Rattle.std.proofs.Common.{◌≡◌, ℕ, ◌<◌, ◌^◌, ℤ, pos, negsuc, IsTrue, List, [], ◌++◌, length, take, drop, get_or, Option, Some, None, refl, sym, ap, ◌∙◌, arith}
use Rattle.std.proofs.Math.Seq.{take-append_seam, drop-append_seam}
use Rattle.std.specs.Prelude.{IfSome}
use Rattle.std.proofs.lemmas.Bool.{ltb-true, false≢true}
use Rattle.byteorder.specs.Endian.{big_bytes, big_number}
use Rattle.byteorder.specs.Numbers.{big_number-reads_back}
use Rattle.bottle_values.specs.Operations.{is_i64, is_value}
use Rattle.bottle_values.specs.Bytes.{bytes_of, twos_complement}
use Rattle.bottle_values.specs.declared.Value.{Value}
use Rattle.bottle_values.specs.declared.Value.TheVariants.{Number, Text}
use Rattle.bottle_values.specs.Versions.{number_of, admits}
use Rattle.bottle_values.specs.declared.version.Version.{Version}
use Rattle.bottle_values.specs.declared.version.Version.TheVariants.{One, Two}
use Rattle.frame_codec.specs.declared.message.Msg.{Msg}
use Rattle.frame_codec.specs.declared.message.Msg.TheVariants.{AskFork, Fork, AskBottle, Bottle}
use Rattle.frame_codec.specs.Frame.{Fields, IsFrame, IsMsg, IsNumbered, carries}
use Rattle.frame_codec.specs.Header.{kind_of}
use Rattle.frame_codec.specs.Spelling.{Spells, value_bytes, message, body, spelling}

-- ---- fields

-- a field spells one number
same_number : (n x y : ℕ) → x < 256 ^ n → y < 256 ^ n → big_bytes n x ≡ big_bytes n y → x ≡ y
same_number n x y fx fy e =
    sym (big_number-reads_back n x [] fx) ∙ ap (λ (l : List ℕ). big_number n (l ++ [])) e ∙ big_number-reads_back n y [] fy

-- the eight bytes spell one value
same_int : (y z : ℤ) → IsTrue (is_i64 y) → IsTrue (is_i64 z) → twos_complement y ≡ twos_complement z → y ≡ z
same_int (pos m) (pos n) fm fn e = ap pos e
same_int (pos m) (negsuc n) fm fn e = let a = ltb-true _ _ fm in let b = ltb-true _ _ fn in absurd (omega arith)
same_int (negsuc m) (pos n) fm fn e = let a = ltb-true _ _ fm in let b = ltb-true _ _ fn in absurd (omega arith)
same_int (negsuc m) (negsuc n) fm fn e = let a = ltb-true _ _ fm in let b = ltb-true _ _ fn in ap negsuc (omega arith)

below : (z : ℤ) → IsTrue (is_i64 z) → twos_complement z < 2 ^ 64
below (pos n) f = let a = ltb-true _ _ f in omega arith
below (negsuc n) f = omega arith

same_number_value : (y z : ℤ) → IsTrue (is_i64 y) → IsTrue (is_i64 z) → bytes_of y ≡ bytes_of z → Number y ≡ Number z
same_number_value y z fy fz e = ap Number (same_int y z fy fz (same_number 8 _ _ (below y fy) (below z fz) e))

-- no text begins another of its length
pub record SameText (s t x y : List ℕ) : Type 0 where
  pub same : s ≡ t
  pub rest : x ≡ y

same_text : (s t x y : List ℕ) → length s ≡ length t → s ++ x ≡ t ++ y → SameText s t x y
same_text s t x y size e = record {
  same = sym (take-append_seam s x) ∙ ap (take (length s)) e ∙ ap (λ n. take n (t ++ y)) size ∙ take-append_seam t y;
  rest = sym (drop-append_seam s x) ∙ ap (drop (length s)) e ∙ ap (λ n. drop n (t ++ y)) size ∙ drop-append_seam t y;
}

-- no value begins another of its version
pub record SameValue (v w : Value) (x y : List ℕ) : Type 0 where
  pub same : v ≡ w
  pub rest : x ≡ y

same_value : (version : Version) (v w : Value) (x y : List ℕ) → IsTrue (is_value v) → IsTrue (is_value w) → IsTrue (admits version v) → IsTrue (admits version w)
    → value_bytes version v ++ x ≡ value_bytes version w ++ y → SameValue v w x y
same_value One (Number a) (Number b) x y fv fw av aw e =
    record { same = same_number_value a b fv fw (ap (take 8) e); rest = ap (drop 8) e }
same_value One (Number a) (Text t) x y fv fw av aw e = absurd (false≢true aw)
same_value One (Text s) w x y fv fw av aw e = absurd (false≢true av)
same_value Two (Number a) (Number b) x y fv fw av aw e =
    record { same = same_number_value a b fv fw (ap (λ (l : List ℕ). take 8 (drop 1 l)) e); rest = ap (drop 9) e }
same_value Two (Number a) (Text t) x y fv fw av aw e = absurd cc
same_value Two (Text s) (Number b) x y fv fw av aw e = absurd cc
same_value Two (Text s) (Text t) x y fv fw av aw e =
    let text = same_text s t x y (ap (λ (l : List ℕ). get_or l 1 0) e) (ap (drop 2) e) in
    record { same = ap Text text.same; rest = text.rest }

-- ---- messages

-- no message begins another of its version
pub record SameMessage (m n : Msg) (x y : List ℕ) : Type 0 where
  pub same : m ≡ n
  pub rest : x ≡ y

same_message : (version : Version) (m n : Msg) (x y : List ℕ) → IsMsg m → IsMsg n → IsTrue (carries version m) → IsTrue (carries version n) → message version m ++ x ≡ message version n ++ y → SameMessage m n x y
same_message version AskFork AskFork x y fm fn cm cn e = record { same = refl; rest = cc }
same_message version AskFork Fork x y fm fn cm cn e = absurd cc
same_message version AskFork (AskBottle b) x y fm fn cm cn e = absurd cc
same_message version AskFork (Bottle b w) x y fm fn cm cn e = absurd cc
same_message version Fork AskFork x y fm fn cm cn e = absurd cc
same_message version Fork Fork x y fm fn cm cn e = record { same = refl; rest = cc }
same_message version Fork (AskBottle b) x y fm fn cm cn e = absurd cc
same_message version Fork (Bottle b w) x y fm fn cm cn e = absurd cc
same_message version (AskBottle a) AskFork x y fm fn cm cn e = absurd cc
same_message version (AskBottle a) Fork x y fm fn cm cn e = absurd cc
same_message version (AskBottle a) (AskBottle b) x y fm fn cm cn e =
    record { same = ap AskBottle (same_number 2 a b fm fn (ap (λ (l : List ℕ). take 2 (drop 1 l)) e)); rest = ap (drop 3) e }
same_message version (AskBottle a) (Bottle b w) x y fm fn cm cn e = absurd cc
same_message version (Bottle a v) AskFork x y fm fn cm cn e = absurd cc
same_message version (Bottle a v) Fork x y fm fn cm cn e = absurd cc
same_message version (Bottle a v) (AskBottle b) x y fm fn cm cn e = absurd cc
same_message version (Bottle a v) (Bottle b w) x y fm fn cm cn e =
    let bottle : a ≡ b = same_number 2 a b fm.0 fn.0 (ap (λ (l : List ℕ). take 2 (drop 1 l)) e) in
    let behind : value_bytes version v ++ x ≡ value_bytes version w ++ y = ap (drop 3) e in
    let value = same_value version v w x y fm.1 fn.1 cm cn behind in
    record { same = ap (λ (r : ℕ). Bottle r v) bottle ∙ ap (λ (u : Value). Bottle b u) value.same; rest = value.rest }

-- the same of what follows a header, where the kinds agree
pub record SameBody (m n : Option Msg) (x y : List ℕ) : Type 0 where
  pub same : m ≡ n
  pub rest : x ≡ y

same_body : (version : Version) (m n : Option Msg) (x y : List ℕ) → IfSome m IsMsg → IfSome n IsMsg → IfSome m (λ k. IsTrue (carries version k)) → IfSome n (λ k. IsTrue (carries version k)) → kind_of m ≡ kind_of n → body version m ++ x ≡ body version n ++ y → SameBody m n x y
same_body version None None x y fm fn cm cn k e = record { same = refl; rest = e }
same_body version None (Some n) x y fm fn cm cn k e = absurd (omega arith)
same_body version (Some m) None x y fm fn cm cn k e = absurd (omega arith)
same_body version (Some m) (Some n) x y fm fn cm cn k e =
    let s = same_message version m n x y fm fn cm cn e in record { same = ap Some s.same; rest = s.rest }

-- ---- frames

number_fits : (m : Option Msg) (number : ℕ) → IsNumbered m number → number < 2 ^ 64
number_fits None number h = omega arith
number_fits (Some m) number h = let high = h.1 in omega arith

frame_of : Version → ℕ → ℕ → ℕ → ℕ → ℕ → Option Msg → Fields
frame_of version run from to number count msg =
    record { version = version; run = run; from = from; to = to; number = number; count = count; msg = msg }

same_fields : (f g : Fields) → f.version ≡ g.version → f.run ≡ g.run → f.from ≡ g.from → f.to ≡ g.to → f.number ≡ g.number → f.count ≡ g.count → f.msg ≡ g.msg → f ≡ g
unfolding frame_of
same_fields f g version run from to number count msg =
    ap (λ (v : Version). frame_of v f.run f.from f.to f.number f.count f.msg) version
    ∙ ap (λ (r : ℕ). frame_of g.version r f.from f.to f.number f.count f.msg) run
    ∙ ap (λ (r : ℕ). frame_of g.version g.run r f.to f.number f.count f.msg) from
    ∙ ap (λ (r : ℕ). frame_of g.version g.run g.from r f.number f.count f.msg) to
    ∙ ap (λ (r : ℕ). frame_of g.version g.run g.from g.to r f.count f.msg) number
    ∙ ap (λ (r : ℕ). frame_of g.version g.run g.from g.to g.number r f.msg) count
    ∙ ap (λ (m : Option Msg). frame_of g.version g.run g.from g.to g.number g.count m) msg

-- a version is told by its number
pub same_version : (v w : Version) → number_of v ≡ number_of w → v ≡ w
same_version One One e = refl
same_version One Two e = absurd (omega arith)
same_version Two One e = absurd (omega arith)
same_version Two Two e = refl

-- two spellings with the same bytes behind one another are of one frame
same_spelled : (f g : Fields) (x y : List ℕ) → IsFrame f → IsFrame g → spelling f ++ x ≡ spelling g ++ y → f ≡ g
unfolding spelling
same_spelled f g x y ff fg e =
    let version = same_version f.version g.version (ap (λ (l : List ℕ). get_or l 2 0) e) in
    let run = same_number 4 f.run g.run ff.run fg.run (ap (λ (l : List ℕ). take 4 (drop 4 l)) e) in
    let from : f.from ≡ g.from = ap (λ (l : List ℕ). get_or l 8 0) e in
    let to : f.to ≡ g.to = ap (λ (l : List ℕ). get_or l 9 0) e in
    let number = same_number 8 f.number g.number (number_fits f.msg f.number ff.number) (number_fits g.msg g.number fg.number) (ap (λ (l : List ℕ). take 8 (drop 10 l)) e) in
    let count = same_number 8 f.count g.count (let low = ff.count in omega arith) (let low = fg.count in omega arith) (ap (λ (l : List ℕ). take 8 (drop 18 l)) e) in
    let kind : kind_of f.msg ≡ kind_of g.msg = ap (λ (l : List ℕ). get_or l 3 0) e in
    let behind : body g.version f.msg ++ x ≡ body g.version g.msg ++ y = ap (λ (v : Version). body v f.msg ++ x) (sym version) ∙ ap (drop 26) e in
    let msg = same_body g.version f.msg g.msg x y ff.msg fg.msg (rw (← version) ff.carried) fg.carried kind behind in
    same_fields f g version run from to number count msg.same

-- no spelling begins another
pub same_spelling : (a b x y : List ℕ) (f g : Fields) → Spells a f → Spells b g → a ++ x ≡ b ++ y → (a ≡ b) × (f ≡ g)
same_spelling a b x y f g sa sb e =
    let spelled : spelling f ++ x ≡ spelling g ++ y = ap (λ (l : List ℕ). l ++ x) (sym sa.is) ∙ e ∙ ap (λ (l : List ℕ). l ++ y) sb.is in
    let same = same_spelled f g x y sa.in_range sb.in_range spelled in
    (sa.is ∙ ap spelling same ∙ sym sb.is, same)

-- bytes spell one frame
pub same_frame : (a : List ℕ) (f g : Fields) → Spells a f → Spells a g → f ≡ g
same_frame a f g sf sg = (same_spelling a a [] [] f g sf sg refl).1
