-- A frame that is packed is read back.
use Rattle.std.proofs.Common.{◌≡◌, ℕ, ◌+◌, ◌*◌, ◌/◌, ◌%◌, ◌^◌, ◌<◌, ℤ, pos, true, IsTrue, cond, eqb, List, Option, None, Some, refl, sym, ap, ◌∙◌, arith}
use Rattle.std.specs.Prelude.{nat_le, is_some, slice_get, IfSome}
use Rattle.std.proofs.lemmas.Bool.{eq-eqb, ne_eqb, false≢true}
use Rattle.std.proofs.lemmas.Nat.{div-add-mod', div-mul-add, mod-mul-add, mod_below, div_below}
use Rattle.bottle_values.specs.declared.Value.TheVariants.{Number, Text}
use Rattle.bottle_values.specs.declared.version.Version.{Version}
use Rattle.bottle_values.specs.declared.version.Version.TheVariants.{One, Two}
use Rattle.frame_codec.specs.Frame.{Fields, IsNumbered, carries}
use Rattle.frame_codec.specs.declared.message.Msg.{Msg}
use Rattle.frame_codec.specs.declared.message.Msg.TheVariants as msg
use Rattle.office_journal.specs.pages.Framed.{frame_with, framed, text_carried, StandsAt}
use Rattle.office_journal.specs.pages.refinement.PackedFrames.{joined, code_of, code_of_version, version_in, which_of, number_of, place_in, message_in, packed_message}

-- a message's number, and an acknowledgement's, is below 2 ^ 48
pub numbered_below : (m : Option Msg) (n : ℕ) → IsNumbered m n → n < 2 ^ 48
numbered_below None n h = omega (arith, h)
numbered_below (Some m) n h = h.1

-- a number in two parts is that number
pub joined_back : (n low high : ℕ) → low ≡ n % 2 ^ 32 → high ≡ n / 2 ^ 32 → joined low high ≡ n
joined_back n low high l h = ap (λ x. joined x high) l ∙ ap (joined (n % 2 ^ 32)) h ∙ div-add-mod' n (2 ^ 32)

pub low_below : (n : ℕ) → n % 2 ^ 32 < 2 ^ 32
low_below n = mod_below n (2 ^ 32) (omega arith)

pub high_below : (n : ℕ) → n < 2 ^ 48 → n / 2 ^ 32 < 2 ^ 16
high_below n lt = div_below n (2 ^ 32) (2 ^ 16) (omega arith) (omega (arith, lt))

pub head_tag : (code tag : ℕ) → tag < 16 → (code * 16 + tag) % 16 ≡ tag
head_tag code tag lt = mod-mul-add code 16 tag lt

pub head_code : (code tag : ℕ) → tag < 16 → (code * 16 + tag) / 16 ≡ code
head_code code tag lt = div-mul-add code 16 tag lt

-- a frame without a message has the number 0, and one with a message another
carried_back : (m : Option Msg) (n : ℕ) → IsNumbered m n → cond (eqb n 0) None (Some (packed_message m)) ≡ m
carried_back None n h = ap (λ b. cond {A = Option Msg} b None (Some msg.AskFork)) (eq-eqb n 0 h)
carried_back (Some m) n h = ap (λ b. cond {A = Option Msg} b None (Some m)) (ne_eqb n 0 (λ zero. absurd (omega (arith, h.0, zero))))

made : Version → ℕ → ℕ → ℕ → ℕ → ℕ → Option Msg → Fields
made version run from to number count m = record { version = version; run = run; from = from; to = to; number = number; count = count; msg = m }

-- the parts of a frame are that frame
parts_back : (version : Version) (run from to number count : ℕ) (m : Option Msg) → IsNumbered m number → frame_with version run from to number count (packed_message m) ≡ record { version = version; run = run; from = from; to = to; number = number; count = count; msg = m }
unfolding made
parts_back version run from to number count m h = ap (made version run from to number count) (carried_back m number h)

-- what is told of a frame with this message, of that version
abbrev told_frame : List (List ℕ) → ℕ → Version → ℕ → ℕ → ℕ → ℕ → ℕ → Msg → Fields
told_frame texts place version run from to number count m =
    let code : ℕ = code_of_version version + code_of m in
    framed (nat_le 8 code) (slice_get texts (place_in (number_of place m))) (which_of m) (frame_with (version_in code) run from to number count (message_in (code % 4) (which_of m) (number_of place m)))

told_back : (texts : List (List ℕ)) (place : ℕ) (version : Version) (run from to number count : ℕ) (m : Option Msg) → IsNumbered m number → IfSome m (λ n. IsTrue (carries version n)) → StandsAt texts place m →
    told_frame texts place version run from to number count (packed_message m) ≡ record { version = version; run = run; from = from; to = to; number = number; count = count; msg = m }
told_back texts place One run from to number count None h carried at = parts_back One run from to number count None h
told_back texts place Two run from to number count None h carried at = parts_back Two run from to number count None h
told_back texts place One run from to number count (Some msg.AskFork) h carried at = parts_back One run from to number count (Some msg.AskFork) h
told_back texts place Two run from to number count (Some msg.AskFork) h carried at = parts_back Two run from to number count (Some msg.AskFork) h
told_back texts place One run from to number count (Some msg.Fork) h carried at = parts_back One run from to number count (Some msg.Fork) h
told_back texts place Two run from to number count (Some msg.Fork) h carried at = parts_back Two run from to number count (Some msg.Fork) h
told_back texts place One run from to number count (Some (msg.AskBottle r)) h carried at = parts_back One run from to number count (Some (msg.AskBottle r)) h
told_back texts place Two run from to number count (Some (msg.AskBottle r)) h carried at = parts_back Two run from to number count (Some (msg.AskBottle r)) h
told_back texts place One run from to number count (Some (msg.Bottle r (Number z))) h carried at = parts_back One run from to number count (Some (msg.Bottle r (Number z))) h
told_back texts place Two run from to number count (Some (msg.Bottle r (Number z))) h carried at = parts_back Two run from to number count (Some (msg.Bottle r (Number z))) h
told_back texts place One run from to number count (Some (msg.Bottle r (Text text))) h carried at = absurd (false≢true carried)
told_back texts place Two run from to number count (Some (msg.Bottle r (Text text))) h carried at =
    ap (λ o. framed true o r (frame_with Two run from to number count (msg.Bottle r (Number (pos place))))) at ∙ parts_back Two run from to number count (Some (msg.Bottle r (Text text))) h

-- so are they where its number, its count and its message were packed
pub packed_frame : (texts : List (List ℕ)) (place : ℕ) (f : Fields) (run from to number count code which : ℕ) (value : ℤ) → IsNumbered f.msg f.number → IfSome f.msg (λ m. IsTrue (carries f.version m)) → StandsAt texts place f.msg →
    run ≡ f.run → from ≡ f.from → to ≡ f.to → number ≡ f.number → count ≡ f.count →
    code ≡ code_of_version f.version + code_of (packed_message f.msg) → which ≡ which_of (packed_message f.msg) → value ≡ number_of place (packed_message f.msg) →
    framed (nat_le 8 code) (slice_get texts (place_in value)) which (frame_with (version_in code) run from to number count (message_in (code % 4) which value)) ≡ f
packed_frame texts place f run from to number count code which value h carried at r a b n c k w x =
    rw (r, a, b, n, c, k, w, x) (told_back texts place f.version f.run f.from f.to f.number f.count f.msg h carried at)

-- it has a text beside where it carries one
code_tells : (version : Version) (m : Option Msg) → nat_le 8 (code_of_version version + code_of (packed_message m)) ≡ is_some (text_carried m)
code_tells One None = refl
code_tells Two None = refl
code_tells One (Some msg.AskFork) = refl
code_tells Two (Some msg.AskFork) = refl
code_tells One (Some msg.Fork) = refl
code_tells Two (Some msg.Fork) = refl
code_tells One (Some (msg.AskBottle r)) = refl
code_tells Two (Some (msg.AskBottle r)) = refl
code_tells One (Some (msg.Bottle r (Number z))) = refl
code_tells Two (Some (msg.Bottle r (Number z))) = refl
code_tells One (Some (msg.Bottle r (Text text))) = refl
code_tells Two (Some (msg.Bottle r (Text text))) = refl

pub packed_text : (f : Fields) (code : ℕ) → code ≡ code_of_version f.version + code_of (packed_message f.msg) → nat_le 8 code ≡ is_some (text_carried f.msg)
packed_text f code is = ap (nat_le 8) is ∙ code_tells f.version f.msg

-- at the place that was given
text_placed : (place : ℕ) (m : Option Msg) → is_some (text_carried m) ≡ true → place_in (number_of place (packed_message m)) ≡ place
text_placed place None e = absurd (false≢true e)
text_placed place (Some msg.AskFork) e = absurd (false≢true e)
text_placed place (Some msg.Fork) e = absurd (false≢true e)
text_placed place (Some (msg.AskBottle r)) e = absurd (false≢true e)
text_placed place (Some (msg.Bottle r (Number z))) e = absurd (false≢true e)
text_placed place (Some (msg.Bottle r (Text text))) e = refl

pub packed_place : (f : Fields) (code place : ℕ) (value : ℤ) → code ≡ code_of_version f.version + code_of (packed_message f.msg) → value ≡ number_of place (packed_message f.msg) → nat_le 8 code ≡ true → place_in value ≡ place
packed_place f code place value k x has = ap place_in x ∙ text_placed place f.msg (sym (packed_text f code k) ∙ has)

-- ---- read again

-- one with the number 0 is an acknowledgement
ack_is : (version : Version) (run from to number count : ℕ) (m : Msg) → number ≡ 0 → ◌≡◌ {A = Fields} (record { version = version; run = run; from = from; to = to; number = 0; count = count; msg = None }) (frame_with version run from to number count m)
ack_is version run from to number count m none =
    ap (λ (b : Option Msg). record { version = version; run = run; from = from; to = to; number = 0; count = count; msg = b }) (sym (ap (λ b. cond {A = Option Msg} b None (Some m)) (eq-eqb number 0 none)))
    ∙ ap (λ (i : ℕ). record { version = version; run = run; from = from; to = to; number = i; count = count; msg = cond {A = Option Msg} (eqb number 0) None (Some m) }) (sym none)

-- and one with another number brings the message
data_is : (version : Version) (run from to number count : ℕ) (m : Msg) → (number ≡ 0 → ⊥) → ◌≡◌ {A = Fields} (record { version = version; run = run; from = from; to = to; number = number; count = count; msg = Some m }) (frame_with version run from to number count m)
data_is version run from to number count m some =
    ap (λ (b : Option Msg). record { version = version; run = run; from = from; to = to; number = number; count = count; msg = b }) (sym (ap (λ b. cond {A = Option Msg} b None (Some m)) (ne_eqb number 0 some)))

-- where number and count were put together first
pub ack_again : (version : Version) (run from to number count number' count' : ℕ) (m : Msg) → number ≡ number' → count ≡ count' → number ≡ 0 → ◌≡◌ {A = Fields} (record { version = version; run = run; from = from; to = to; number = 0; count = count; msg = None }) (frame_with version run from to number' count' m)
ack_again version run from to number count number' count' m n c none =
    ack_is version run from to number count m none ∙ ap (λ i. frame_with version run from to i count m) n ∙ ap (λ i. frame_with version run from to number' i m) c

pub data_again : (version : Version) (run from to number count number' count' : ℕ) (m m' : Msg) → number ≡ number' → count ≡ count' → m ≡ m' → (number ≡ 0 → ⊥) → ◌≡◌ {A = Fields} (record { version = version; run = run; from = from; to = to; number = number; count = count; msg = Some m }) (frame_with version run from to number' count' m')
data_again version run from to number count number' count' m m' n c b some =
    data_is version run from to number count m some ∙ ap (λ i. frame_with version run from to i count m) n ∙ ap (λ i. frame_with version run from to number' i m) c ∙ ap (frame_with version run from to number' count') b

-- and where the text stands beside
pub ack_text : (f : Fields) (r : ℕ) (text : List ℕ) (run from to number count : ℕ) → run ≡ f.run → from ≡ f.from → to ≡ f.to → number ≡ f.number → count ≡ f.count → number ≡ 0 →
    ◌≡◌ {A = Fields} (record { version = Two; run = run; from = from; to = to; number = 0; count = count; msg = None }) (framed true (Some text) r f)
ack_text f r text run from to number count er ea eb en ec none = rw (er, ea, eb, ec) (ack_is Two f.run f.from f.to f.number f.count (msg.Bottle r (Text text)) (sym en ∙ none))

pub data_text : (f : Fields) (r : ℕ) (text : List ℕ) (run from to number count : ℕ) → run ≡ f.run → from ≡ f.from → to ≡ f.to → number ≡ f.number → count ≡ f.count → (number ≡ 0 → ⊥) →
    ◌≡◌ {A = Fields} (record { version = Two; run = run; from = from; to = to; number = number; count = count; msg = Some (msg.Bottle r (Text text)) }) (framed true (Some text) r f)
data_text f r text run from to number count er ea eb en ec some = rw (er, ea, eb, en, ec) (data_is Two f.run f.from f.to f.number f.count (msg.Bottle r (Text text)) (λ zero. some (en ∙ zero)))
