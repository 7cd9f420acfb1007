-- The first fault of bytes: that of their header, or else that of what follows it.
use Rattle.std.proofs.Common.{◌≡◌, ℕ, ◌+◌, ◌<◌, ◌≤◌, Bool, true, false, cond, not, ◌&&◌, leb, ltb, List, [], ◌∷◌, ◌++◌, length, drop, get_or, Option, Some, None, refl, sym, ap, ◌∙◌, arith}
use Rattle.std.specs.Prelude.{◌==◌}
use Rattle.std.specs.List.{find, list_all}
use Rattle.std.proofs.lemmas.Bool.{lt-ltb, eq-eqb, eqb-true}
use Rattle.std.proofs.lemmas.List.{get_or-drop, get_or-take, get_or_past, length-drop, drop-drop}
use Rattle.bottle_values.specs.Texts.{is_text_byte}
use Rattle.bottle_values.specs.Versions.{number_of}
use Rattle.bottle_values.specs.declared.version.Version as versions
use Rattle.bottle_values.specs.declared.version.Version.TheVariants.{One, Two}
use Rattle.frame_codec.specs.declared.fault.FrameFault.{FrameFault}
use Rattle.frame_codec.specs.declared.fault.FrameFault.TheVariants.{Short, Magic, Version, Kind, Number, Count, Tag, ValueForm, Length, TextByte}
use Rattle.frame_codec.specs.declared.header.Kind.TheVariants.{Data}
use Rattle.frame_codec.specs.declared.header.Header.{Header}
use Rattle.frame_codec.specs.Header.{header_fault, data_kind}
use Rattle.frame_codec.specs.refinement.DecodedParts.{BeginsWith, code_of, value_fault, bottle_fault, message_fault}
use Rattle.frame_codec.specs.Spelling.{is_form, length_by_tag, has, first_fault}

cond_none : (b : Bool) (x : FrameFault) (r : Option FrameFault) → cond b (Some x) r ≡ None → (b ≡ false) × (r ≡ None)
cond_none true x r h = absurd cc
cond_none false x r h = (refl, h)

cond_some : (b : Bool) (x e : FrameFault) (r s : Option FrameFault) → cond b (Some x) r ≡ Some e → (r ≡ Some e → s ≡ Some e) → cond b (Some x) s ≡ Some e
cond_some true x e r s h later = h
cond_some false x e r s h later = later h

find-append_none : (test : FrameFault → Bool) (xs ys : List FrameFault) → find test xs ≡ None → find test (xs ++ ys) ≡ find test ys
find-append_none test [] ys h = refl
find-append_none test (x ∷ xs) ys h =
    let p = cond_none (test x) x (find test xs) h in rw p.0 (find-append_none test xs ys p.1)

find-append_some : (test : FrameFault → Bool) (xs ys : List FrameFault) (e : FrameFault) → find test xs ≡ Some e → find test (xs ++ ys) ≡ Some e
find-append_some test [] ys e h = absurd cc
find-append_some test (x ∷ xs) ys e h =
    cond_some (test x) x e (find test xs) (find test (xs ++ ys)) h (find-append_some test xs ys e)

abbrev header_faults : List FrameFault
header_faults = Short ∷ Magic ∷ Version ∷ Kind ∷ Number ∷ Count ∷ []

abbrev later_faults : List FrameFault
later_faults = Tag ∷ ValueForm ∷ Length ∷ TextByte ∷ []

abbrev later_fault : List ℕ → Option FrameFault
later_fault bytes = find (has bytes) later_faults

-- a fault of the header comes first
pub first_fault-in_header : (bytes : List ℕ) (e : FrameFault) → header_fault bytes ≡ Some e → first_fault bytes ≡ Some e
unfolding header_fault first_fault
first_fault-in_header bytes e h = find-append_some (has bytes) header_faults later_faults e h

first_fault-after_header : (bytes : List ℕ) → header_fault bytes ≡ None → first_fault bytes ≡ later_fault bytes
unfolding header_fault first_fault
first_fault-after_header bytes h = find-append_none (has bytes) header_faults later_faults h

-- what is looked at behind a data frame's header: whether the version is 02, how long the bytes are, the tag, the form, the
-- length behind it, and whether what follows may stand in a text
abbrev later_of : Bool → ℕ → ℕ → ℕ → ℕ → Bool → Option FrameFault
later_of second size tag form count are =
    cond (ltb 26 size && not (leb 1 tag && leb tag 4)) (Some Tag)
    (cond ((second && ltb 26 size && tag == 4 && ltb 29 size) && not (is_form form count)) (Some ValueForm)
    (cond (not (size == length_by_tag second tag form count)) (Some Length)
    (cond ((second && ltb 26 size && tag == 4 && ltb 29 size) && form == 2 && not are) (Some TextByte) None)))

abbrev is_two : versions.Version → Bool
is_two v = number_of v == 2

later_read : (v : versions.Version) (bytes : List ℕ) → get_or bytes 2 0 ≡ number_of v → get_or bytes 3 0 ≡ data_kind
    → later_fault bytes ≡ later_of (is_two v) (length bytes) (get_or bytes 26 0) (get_or bytes 29 0) (get_or bytes 30 0) (list_all is_text_byte (drop 31 bytes))
later_read v bytes version kind = rw (version, kind) refl

flip : {A : Type 0} (b : Bool) (x y : A) → cond (not b) x y ≡ cond b y x
flip true x y = refl
flip false x y = refl

same_truth : (b c : Bool) → (b ≡ true → c ≡ true) → (c ≡ true → b ≡ true) → b ≡ c
same_truth true c there back = sym (there refl)
same_truth false true there back = back refl
same_truth false false there back = refl

-- a length and what stands before it
shifted : (k n m : ℕ) → (k + n == k + m) ≡ (n == m)
shifted k n m = same_truth _ _ (λ e. eq-eqb n m (let h = eqb-true (k + n) (k + m) e in omega arith)) (λ e. eq-eqb (k + n) (k + m) (let h = eqb-true n m e in omega arith))

number_fault_is : (k n : ℕ) → cond (not (k + n == k + 8)) (Some Length) None ≡ cond (n == 8) None (Some Length)
number_fault_is k n = flip (k + n == k + 8) (Some Length) None ∙ ap (λ b. cond b None (Some Length)) (shifted k n 8)

longer : (k n : ℕ) → 26 < k → ltb 26 (k + n) ≡ true
longer k n h = lt-ltb 26 (k + n) (omega arith)

-- of a bottle: of each version, where its record and its form are there
of_one : (n form count : ℕ) (are : Bool) → later_of false (29 + n) 4 form count are ≡ cond (n == 8) None (Some Length)
of_one n form count are =
    let long : ltb 26 (29 + n) ≡ true = longer 29 n (omega arith) in
    rw long (number_fault_is 29 n)

of_text : (n count : ℕ) (are : Bool) → cond (not (leb count 64)) (Some ValueForm) (cond (not (31 + n == 31 + count)) (Some Length) (cond (not are) (Some TextByte) None))
    ≡ cond (not (leb count 64)) (Some ValueForm) (cond (not (n == count)) (Some Length) (cond are None (Some TextByte)))
of_text n count are =
    ap (λ r. cond (not (leb count 64)) (Some ValueForm) (cond (not (31 + n == 31 + count)) (Some Length) r)) (flip are (Some TextByte) None)
    ∙ ap (λ b. cond (not (leb count 64)) (Some ValueForm) (cond (not b) (Some Length) (cond are None (Some TextByte)))) (shifted 31 n count)

of_two : (form count : ℕ) (text : List ℕ) → later_of true (31 + length text) 4 form count (list_all is_text_byte text) ≡ value_fault Two (form ∷ count ∷ text)
of_two form count text = go (form == 1) refl (form == 2) refl
  where
    long : ltb 26 (31 + length text) ≡ true
    long = longer 31 (length text) (omega arith)

    there : ltb 29 (31 + length text) ≡ true
    there = lt-ltb 29 (31 + length text) (omega arith)

    go : (a : Bool) → (form == 1) ≡ a → (b : Bool) → (form == 2) ≡ b → later_of true (31 + length text) 4 form count (list_all is_text_byte text) ≡ value_fault Two (form ∷ count ∷ text)
    go true one b two =
        let more : 31 + length text ≡ 30 + length (count ∷ text) = omega arith in
        rw (eqb-true form 1 one, long, there) (ap (λ k. cond (not (k == 38)) (Some Length) None) more ∙ number_fault_is 30 (length (count ∷ text)))
    go false one true two = rw (eqb-true form 2 two, long, there) (of_text (length text) count (list_all is_text_byte text))
    go false one false two = rw (long, there, one, two) refl

-- where no length is there behind the form
of_form : (form : ℕ) → later_of true 30 4 form 0 true ≡ value_fault Two (form ∷ [])
of_form form = go (form == 1) refl (form == 2) refl
  where
    go : (a : Bool) → (form == 1) ≡ a → (b : Bool) → (form == 2) ≡ b → later_of true 30 4 form 0 true ≡ value_fault Two (form ∷ [])
    go true one b two = rw (eqb-true form 1 one) refl
    go false one true two = rw (eqb-true form 2 two) refl
    go false one false two = rw (one, two) refl

abbrev later_by : versions.Version → ℕ → List ℕ → Option FrameFault
later_by v tag rest = later_of (is_two v) (27 + length rest) tag (get_or rest 2 0) (get_or rest 3 0) (list_all is_text_byte (drop 4 rest))

-- by how many bytes there are behind its tag
of_bottle : (v : versions.Version) (rest : List ℕ) → later_by v 4 rest ≡ bottle_fault v rest
of_bottle One [] = refl
of_bottle One (high ∷ []) = refl
of_bottle One (high ∷ low ∷ value) =
    let rest : List ℕ = high ∷ low ∷ value in
    let size : 27 + length rest ≡ 29 + length value = omega arith in
    ap (λ k. later_of false k 4 (get_or rest 2 0) (get_or rest 3 0) (list_all is_text_byte (drop 4 rest))) size
    ∙ of_one (length value) (get_or rest 2 0) (get_or rest 3 0) (list_all is_text_byte (drop 4 rest))
of_bottle Two [] = refl
of_bottle Two (high ∷ []) = refl
of_bottle Two (high ∷ low ∷ []) = refl
of_bottle Two (high ∷ low ∷ form ∷ []) = of_form form
of_bottle Two (high ∷ low ∷ form ∷ count ∷ text) =
    let size : 27 + length (high ∷ low ∷ form ∷ count ∷ text) ≡ 31 + length text = omega arith in
    ap (λ k. later_of true k 4 form count (list_all is_text_byte text)) size ∙ of_two form count text

-- of any other message
of_another : (v : versions.Version) (tag : ℕ) (rest : List ℕ) → (tag == 4) ≡ false → later_by v tag rest ≡ message_fault v (tag ∷ rest)
of_another v tag rest other =
    let long : ltb 26 (27 + length rest) ≡ true = longer 27 (length rest) (omega arith) in
    rw (long, other) (by_version v)
  where
    by_size : (b : Bool) → cond (not (27 + length rest == cond b 29 27)) (Some Length) None ≡ cond (length rest == cond b 2 0) None (Some Length)
    by_size true = flip (27 + length rest == 29) (Some Length) None ∙ ap (λ x. cond x None (Some Length)) (shifted 27 (length rest) 2)
    by_size false = flip (27 + length rest == 27) (Some Length) None ∙ ap (λ x. cond x None (Some Length)) (shifted 27 (length rest) 0)

    formed : versions.Version → Bool
    formed w = is_two w && true && false && ltb 29 (27 + length rest)

    by_version : (w : versions.Version) → cond (not (leb 1 tag && leb tag 4)) (Some Tag)
        (cond (formed w && not (is_form (get_or rest 2 0) (get_or rest 3 0))) (Some ValueForm)
        (cond (not (27 + length rest == cond (tag == 3) 29 27)) (Some Length)
        (cond (formed w && get_or rest 2 0 == 2 && not (list_all is_text_byte (drop 4 rest))) (Some TextByte) None)))
        ≡ cond (not (leb 1 tag && leb tag 4)) (Some Tag) (cond (length rest == cond (tag == 3) 2 0) None (Some Length))
    by_version One = ap (cond (not (leb 1 tag && leb tag 4)) (Some Tag)) (by_size (tag == 3))
    by_version Two = ap (cond (not (leb 1 tag && leb tag 4)) (Some Tag)) (by_size (tag == 3))

of_message : (v : versions.Version) (tag : ℕ) (rest : List ℕ) → later_by v tag rest ≡ message_fault v (tag ∷ rest)
of_message v tag rest = go (tag == 4) refl
  where
    go : (b : Bool) → (tag == 4) ≡ b → later_by v tag rest ≡ message_fault v (tag ∷ rest)
    go true is = rw (eqb-true tag 4 is) (of_bottle v rest)
    go false is = of_another v tag rest is

later_fault-message : (v : versions.Version) (bytes tail : List ℕ) → 26 ≤ length bytes → get_or bytes 2 0 ≡ number_of v → get_or bytes 3 0 ≡ data_kind → drop 26 bytes ≡ tail → later_fault bytes ≡ message_fault v tail
later_fault-message v bytes [] whole version kind is =
    let len : length bytes ≡ 26 = omega (arith, length-drop 26 bytes, ap length is) in
    later_read v bytes version kind ∙ rw (len, get_or_past bytes 26 0 (omega arith)) (nothing v)
  where
    nothing : (v : versions.Version) → later_of (is_two v) 26 0 (get_or bytes 29 0) (get_or bytes 30 0) (list_all is_text_byte (drop 31 bytes)) ≡ Some Length
    nothing One = refl
    nothing Two = refl
later_fault-message v bytes (tag ∷ rest) whole version kind is =
    let len : length bytes ≡ 27 + length rest = omega (arith, length-drop 26 bytes, ap length is) in
    let first : get_or bytes 26 0 ≡ tag = sym (get_or-drop 26 bytes 0 0) ∙ ap (λ (l : List ℕ). get_or l 0 0) is in
    let form : get_or bytes 29 0 ≡ get_or rest 2 0 = sym (get_or-drop 26 bytes 3 0) ∙ ap (λ (l : List ℕ). get_or l 3 0) is in
    let count : get_or bytes 30 0 ≡ get_or rest 3 0 = sym (get_or-drop 26 bytes 4 0) ∙ ap (λ (l : List ℕ). get_or l 4 0) is in
    let behind : drop 31 bytes ≡ drop 4 rest = sym (drop-drop 5 26 bytes) ∙ ap (drop 5) is in
    later_read v bytes version kind ∙ rw (len, first, form, count, behind) (of_message v tag rest)

-- behind the good header of a data frame, it is the message's
pub first_fault-of_message : (bytes : List ℕ) (h : Header) → BeginsWith bytes h → header_fault bytes ≡ None → h.kind ≡ Data → first_fault bytes ≡ message_fault h.version (drop 26 bytes)
first_fault-of_message bytes h begun faultless is =
    let version : get_or bytes 2 0 ≡ number_of h.version = sym (get_or-take 26 bytes 2 0 (omega arith)) ∙ ap (λ (l : List ℕ). get_or l 2 0) begun.spelled in
    let kind : get_or bytes 3 0 ≡ data_kind = sym (get_or-take 26 bytes 3 0 (omega arith)) ∙ ap (λ (l : List ℕ). get_or l 3 0) begun.spelled ∙ ap code_of is in
    first_fault-after_header bytes faultless ∙ later_fault-message h.version bytes (drop 26 bytes) begun.whole version kind refl
