-- A line is cut into its longest pieces.
use Rattle.std.proofs.Common.{◌≡◌, ◌<◌, ◌≤◌, ◌+◌, ℕ, zero, suc, List, [], ◌∷◌, ◌++◌, length, take, drop, Bool, true, false, ◌&&◌, ◌⊎◌, inl, inr, ◌==◌, nat_lt, Option, Some, None, if◌then◌else◌, refl, sym, ap, ◌∙◌, subst, arith, append_assoc, length-append}
use Rattle.std.specs.List.{list_all, list_any}
use Rattle.std.proofs.lemmas.Bool.{and_parts}
use Rattle.std.proofs.lemmas.Bool.Decides.{nat_tests}
use Rattle.std.proofs.lemmas.List.{append-nil, take-append-drop}
use Rattle.std.proofs.lemmas.List.Folds.{list_all-append}
use Rattle.text_lines.specs.Text.{is_blank, is_name_byte}
use Rattle.bottle_values.specs.Printed.{quoted}
use Rattle.session_language.specs.declared.lexer.Symbol.{Symbol}
use Rattle.session_language.specs.declared.lexer.Symbol.TheVariants.{Assign, Equal, NotEqual, Less, AtMost, Greater, AtLeast, Plus, Minus, Times, Open, Close}
use Rattle.session_language.specs.Lexer.{Piece, AWord, ASymbol, AQuoted, AStray, word_len, one_byte, two_bytes, long_symbol, symbol_or_stray, symbol_at, is_quote, quoted_len, quoted_at, piece_at, pieces_of}
use Rattle.session_language.specs.LongestMatch.{spelling, IsPiece, IsLongest, IsCut, nothing, blank, piece, CutsTheLongest}
use Rattle.session_language.proofs.Pieces.{pieces_of-nil, pieces_of-blank, pieces_of-piece, quoted_by, no_word_by, piece_shorter}
use Rattle.session_language.proofs.Quotes.{HasNoQuote, no_quote_in, closed, none_to_come, ends_once, has_one}

-- symbols and their spellings
first_byte : List ℕ → ℕ
first_byte [] = 32
first_byte (b ∷ bs) = b

symbol_of : List ℕ → Option Symbol
symbol_of [] = None
symbol_of (b ∷ []) = one_byte b
symbol_of (b ∷ c ∷ bs) = two_bytes b

abbrev Spelled : Symbol → Type 0
Spelled s = (symbol_of (spelling s) ≡ Some s) × (is_name_byte (first_byte (spelling s)) ≡ false) × (is_blank (first_byte (spelling s)) ≡ false)

spelled : (s : Symbol) → Spelled s
unfolding symbol_of first_byte
spelled Assign = (refl, refl, refl)
spelled Equal = (refl, refl, refl)
spelled NotEqual = (refl, refl, refl)
spelled Less = (refl, refl, refl)
spelled AtMost = (refl, refl, refl)
spelled Greater = (refl, refl, refl)
spelled AtLeast = (refl, refl, refl)
spelled Plus = (refl, refl, refl)
spelled Minus = (refl, refl, refl)
spelled Times = (refl, refl, refl)
spelled Open = (refl, refl, refl)
spelled Close = (refl, refl, refl)

-- a symbol of two bytes has = as its second
two_long : (s : Symbol) (b c : ℕ) (more : List ℕ) → b ∷ c ∷ more ≡ spelling s → (c ≡ 61) × (more ≡ [])
two_long Assign b c more e = absurd (cc)
two_long Equal b c more e = (cc, cc)
two_long NotEqual b c more e = (cc, cc)
two_long Less b c more e = absurd (cc)
two_long AtMost b c more e = (cc, cc)
two_long Greater b c more e = absurd (cc)
two_long AtLeast b c more e = (cc, cc)
two_long Plus b c more e = absurd (cc)
two_long Minus b c more e = absurd (cc)
two_long Times b c more e = absurd (cc)
two_long Open b c more e = absurd (cc)
two_long Close b c more e = absurd (cc)

two_symbol : (s : Symbol) (b c : ℕ) (more : List ℕ) → b ∷ c ∷ more ≡ spelling s → two_bytes b ≡ Some s
unfolding symbol_of
two_symbol s b c more e = ap symbol_of e ∙ (spelled s).0

one_symbol : (s : Symbol) (b : ℕ) → b ∷ [] ≡ spelling s → one_byte b ≡ Some s
unfolding symbol_of
one_symbol s b e = ap symbol_of e ∙ (spelled s).0

-- one of the tests by which a byte's symbol is found
one_test : (b k : ℕ) (tail : List ℕ) (t s : Symbol) (o : Option Symbol) → k ∷ tail ≡ spelling t → (if b == k then Some t else o) ≡ Some s → (o ≡ Some s → b ∷ tail ≡ spelling s) → b ∷ tail ≡ spelling s
one_test b k tail t s o is e others = by_bool (b == k) refl e
  where
    by_bool : (v : Bool) → (b == k) ≡ v → (if v then Some t else o) ≡ Some s → b ∷ tail ≡ spelling s
    by_bool true h f = let same : b ≡ k = grind (h, arith, nat_tests) in let found : t ≡ s = (cc) in ap (λ x. x ∷ tail) same ∙ is ∙ ap spelling found
    by_bool false h f = others f

one_spelled : (b : ℕ) (s : Symbol) → one_byte b ≡ Some s → b ∷ [] ≡ spelling s
one_spelled b s e =
    one_test b 61 [] Assign s _ refl e (λ e. one_test b 60 [] Less s _ refl e (λ e. one_test b 62 [] Greater s _ refl e
    (λ e. one_test b 43 [] Plus s _ refl e (λ e. one_test b 45 [] Minus s _ refl e (λ e. one_test b 42 [] Times s _ refl e
    (λ e. one_test b 40 [] Open s _ refl e (λ e. one_test b 41 [] Close s _ refl e (λ e. absurd (cc)))))))))

two_spelled : (b : ℕ) (s : Symbol) → two_bytes b ≡ Some s → b ∷ 61 ∷ [] ≡ spelling s
two_spelled b s e =
    one_test b 61 (61 ∷ []) Equal s _ refl e (λ e. one_test b 33 (61 ∷ []) NotEqual s _ refl e
    (λ e. one_test b 60 (61 ∷ []) AtMost s _ refl e (λ e. one_test b 62 (61 ∷ []) AtLeast s _ refl e (λ e. absurd (cc)))))

-- pieces of bytes
first_of_piece : (b : ℕ) (bs : List ℕ) (p : Piece) → IsPiece (b ∷ bs) p → is_blank b ≡ false
unfolding first_byte
first_of_piece b bs (AWord []) h = absurd (omega (arith, h.1))
first_of_piece b bs (AWord (x ∷ w)) h =
    let same : b ≡ x = let e = h.0 in (cc) in
    let named : is_name_byte x ≡ true = (and_parts (is_name_byte x) (list_all is_name_byte w) h.2).0 in grind (same, named, arith, nat_tests)
first_of_piece b bs (ASymbol s) h = ap (λ cs. is_blank (first_byte cs)) h ∙ (spelled s).2
first_of_piece b bs (AQuoted t) h = let same : b ≡ 34 = let e = h.0 in (cc) in ap is_blank same
first_of_piece b bs AStray h = let same : b ≡ h.0 = let e = h.1 in (cc) in ap is_blank same ∙ h.2.no_blank

no_bytes : (p : Piece) → IsPiece [] p → ⊥
unfolding first_byte
no_bytes (AWord []) h = omega (arith, h.1)
no_bytes (AWord (x ∷ w)) h = let e = h.0 in absurd (cc)
no_bytes (ASymbol s) h = let no : true ≡ false = ap (λ cs. is_blank (first_byte cs)) h ∙ (spelled s).2 in absurd (cc)
no_bytes (AQuoted t) h = let e = h.0 in absurd (cc)
no_bytes AStray h = let e = h.1 in absurd (cc)

-- more than one byte of which the first is in a word
longer_word : (b c : ℕ) (bs : List ℕ) (p : Piece) → is_name_byte b ≡ true → IsPiece (b ∷ c ∷ bs) p → list_all is_name_byte (b ∷ c ∷ bs) ≡ true
unfolding first_byte
longer_word b c bs (AWord w) named h = ap (list_all is_name_byte) h.0 ∙ h.2
longer_word b c bs (ASymbol s) named h = let no : is_name_byte b ≡ false = ap (λ cs. is_name_byte (first_byte cs)) h ∙ (spelled s).1 in absurd (cc)
longer_word b c bs (AQuoted t) named h = let same : b ≡ 34 = let e = h.0 in (cc) in let no : is_name_byte b ≡ false = ap is_name_byte same in absurd (cc)
longer_word b c bs AStray named h = let e = h.1 in absurd (cc)

longer_symbol : (b c : ℕ) (bs : List ℕ) (p : Piece) → is_name_byte b ≡ false → is_quote b ≡ false → IsPiece (b ∷ c ∷ bs) p → (s : Symbol) × (two_bytes b ≡ Some s) × (c ≡ 61) × (bs ≡ [])
longer_symbol b c bs (AWord w) named no_quote h =
    let all : list_all is_name_byte (b ∷ c ∷ bs) ≡ true = ap (list_all is_name_byte) h.0 ∙ h.2 in
    let is : is_name_byte b ≡ true = (and_parts (is_name_byte b) (list_all is_name_byte (c ∷ bs)) all).0 in absurd (cc)
longer_symbol b c bs (ASymbol s) named no_quote h = let t = two_long s b c bs h in (s, two_symbol s b c bs h, t.0, t.1)
longer_symbol b c bs (AQuoted t) named no_quote h = let same : b ≡ 34 = let e = h.0 in (cc) in let yes : is_quote b ≡ true = ap is_quote same in absurd (cc)
longer_symbol b c bs AStray named no_quote h = let e = h.1 in absurd (cc)

-- what begins with a quotation mark and has more bytes ends with the next one
record IsQuoted (tail : List ℕ) : Type 0 where
  text : List ℕ
  split : tail ≡ text ++ 34 ∷ []
  inside : HasNoQuote text

longer_quoted : (b : ℕ) (tail : List ℕ) (p : Piece) → is_quote b ≡ true → 0 < length tail → IsPiece (b ∷ tail) p → IsQuoted tail
longer_quoted b [] p is some h = absurd (omega arith)
longer_quoted b (c ∷ bs) (AWord w) is some h =
    let all : list_all is_name_byte (b ∷ c ∷ bs) ≡ true = ap (list_all is_name_byte) h.0 ∙ h.2 in
    let named : is_name_byte b ≡ true = (and_parts (is_name_byte b) (list_all is_name_byte (c ∷ bs)) all).0 in
    let same : b ≡ 34 = grind (is, arith, nat_tests) in let no : is_name_byte b ≡ false = ap is_name_byte same in absurd (cc)
longer_quoted b (c ∷ bs) (ASymbol s) is some h =
    let same : b ≡ 34 = grind (is, arith, nat_tests) in
    let none : two_bytes b ≡ None = ap two_bytes same in let found : two_bytes b ≡ Some s = two_symbol s b c bs h in absurd (cc)
longer_quoted b (c ∷ bs) (AQuoted t) is some h = let e = h.0 in record { text = t; split = (cc); inside = no_quote_in t h.1 }
longer_quoted b (c ∷ bs) AStray is some h = let e = h.1 in absurd (cc)

-- a piece at the front of a line that is the longest there
record IsAtFront (line : List ℕ) (p : Piece) (rest : List ℕ) : Type 0 where
  front : List ℕ
  split : line ≡ front ++ rest
  is : IsPiece front p
  longest : IsLongest front rest

-- the longest word
after_one : (k : ℕ) → 1 + k ≡ suc k
after_one k = omega arith

word_bytes : (bs : List ℕ) → list_all is_name_byte (take (word_len bs) bs) ≡ true
word_bytes [] = refl
word_bytes (b ∷ bs) = by_byte (is_name_byte b) refl (word_bytes bs)
  where
    by_byte : (v : Bool) → is_name_byte b ≡ v → list_all is_name_byte (take (word_len bs) bs) ≡ true → list_all is_name_byte (take (if v then 1 + word_len bs else 0) (b ∷ bs)) ≡ true
    by_byte true h more = ap (λ k. list_all is_name_byte (take k (b ∷ bs))) (after_one (word_len bs)) ∙ ap (λ x. x && list_all is_name_byte (take (word_len bs) bs)) h ∙ more
    by_byte false h more = refl

word_ends : (bs : List ℕ) (c : ℕ) (after : List ℕ) → drop (word_len bs) bs ≡ c ∷ after → is_name_byte c ≡ false
word_ends [] c after e = absurd (cc)
word_ends (b ∷ bs) c after e = by_byte (is_name_byte b) refl e (λ f. word_ends bs c after f)
  where
    by_byte : (v : Bool) → is_name_byte b ≡ v → drop (if v then 1 + word_len bs else 0) (b ∷ bs) ≡ c ∷ after → (drop (word_len bs) bs ≡ c ∷ after → is_name_byte c ≡ false) → is_name_byte c ≡ false
    by_byte true h e more = more (sym (ap (λ k. drop k (b ∷ bs)) (after_one (word_len bs))) ∙ e)
    by_byte false h e more = let same : b ≡ c = (cc) in sym (ap is_name_byte same) ∙ h

-- where the byte after a word is in no word, no piece is longer
longest_word : (b : ℕ) (w rest : List ℕ) → is_name_byte b ≡ true → ((c : ℕ) (after : List ℕ) → rest ≡ c ∷ after → is_name_byte c ≡ false) → IsLongest (b ∷ w) rest
longest_word b w rest named ends [] after q split is = refl
longest_word b w rest named ends (c ∷ more) after q split is = absurd (by_word w is)
  where
    no_name : is_name_byte c ≡ false
    no_name = ends c (more ++ after) split

    in_word : (w : List ℕ) → list_all is_name_byte (w ++ c ∷ more) ≡ true → ⊥
    in_word w all =
        let parts = and_parts (list_all is_name_byte w) (list_all is_name_byte (c ∷ more)) (sym (list_all-append is_name_byte w (c ∷ more)) ∙ all) in
        let name : is_name_byte c ≡ true = (and_parts (is_name_byte c) (list_all is_name_byte more) parts.1).0 in
        let no = no_name in absurd (cc)

    by_word : (w : List ℕ) → IsPiece (b ∷ (w ++ c ∷ more)) q → ⊥
    by_word [] is = in_word (b ∷ []) (longer_word b c more q named is)
    by_word (x ∷ w) is = in_word (b ∷ x ∷ w) (longer_word b x (w ++ c ∷ more) q named is)

word_found : (b : ℕ) (bs : List ℕ) → is_name_byte b ≡ true → IsAtFront (b ∷ bs) (AWord (take (word_len (b ∷ bs)) (b ∷ bs))) (drop (word_len (b ∷ bs)) (b ∷ bs))
word_found b bs named =
    let len : word_len (b ∷ bs) ≡ suc (word_len bs) = ap (λ v. if v then 1 + word_len bs else 0) named ∙ after_one (word_len bs) in
    let P : ℕ → Type 0 = λ k. IsAtFront (b ∷ bs) (AWord (take k (b ∷ bs))) (drop k (b ∷ bs)) in
    subst P (sym len) (record {
      front = b ∷ take (word_len bs) bs;
      split = ap (λ x. b ∷ x) (sym (take-append-drop (word_len bs) bs));
      is = (refl, omega arith, ap (λ x. x && list_all is_name_byte (take (word_len bs) bs)) named ∙ word_bytes bs);
      longest = longest_word b (take (word_len bs) bs) (drop (word_len bs) bs) named (λ c after e. word_ends bs c after e);
    })

-- the longest symbol, or a stray byte
long_found : (b : ℕ) (bs : List ℕ) (s : Symbol) → is_name_byte b ≡ false → is_quote b ≡ false → long_symbol b bs ≡ Some s → IsAtFront (b ∷ bs) (ASymbol s) (drop 1 bs)
long_found b [] s named no_quote e = absurd (cc)
long_found b (c ∷ bs) s named no_quote e = by_byte (c == 61) refl e
  where
    by_byte : (v : Bool) → (c == 61) ≡ v → (if v then two_bytes b else None) ≡ Some s → IsAtFront (b ∷ c ∷ bs) (ASymbol s) bs
    by_byte true h f = let same : c ≡ 61 = grind (h, arith, nat_tests) in record {
      front = b ∷ c ∷ [];
      split = refl;
      is = ap (λ x. b ∷ x ∷ []) same ∙ two_spelled b s f;
      longest = λ more after q split is. (longer_symbol b c more q named no_quote is).3;
    }
    by_byte false h f = absurd (cc)

no_longer : (b : ℕ) (bs : List ℕ) → is_name_byte b ≡ false → is_quote b ≡ false → long_symbol b bs ≡ None → IsLongest (b ∷ []) bs
no_longer b bs named no_quote none [] after q split is = refl
no_longer b bs named no_quote none (c ∷ more) after q split is =
    let t = longer_symbol b c more q named no_quote is in
    let found : long_symbol b (c ∷ (more ++ after)) ≡ Some t.0 = ap (λ x. long_symbol b (x ∷ (more ++ after))) t.2 ∙ t.1 in
    let same : Some t.0 ≡ None = sym found ∙ ap (long_symbol b) (sym split) ∙ none in absurd (cc)

short_found : (b : ℕ) (bs : List ℕ) → is_blank b ≡ false → is_name_byte b ≡ false → is_quote b ≡ false → long_symbol b bs ≡ None → IsAtFront (b ∷ bs) (symbol_or_stray (one_byte b)) bs
short_found b bs no_blank named no_quote none = record { front = b ∷ []; split = refl; is = by_symbol (one_byte b) refl; longest = no_longer b bs named no_quote none }
  where
    by_symbol : (o : Option Symbol) → one_byte b ≡ o → IsPiece (b ∷ []) (symbol_or_stray o)
    by_symbol (Some s) e = one_spelled b s e
    by_symbol None e = (b, refl, record { no_blank = no_blank; no_word = named; no_symbol = λ s f. let g = one_symbol s b (sym f) in absurd (cc) })

symbol_found : (b : ℕ) (bs : List ℕ) → is_blank b ≡ false → is_name_byte b ≡ false → is_quote b ≡ false → (o : Option Symbol) → long_symbol b bs ≡ o → IsAtFront (b ∷ bs) (symbol_at o b bs).0 (symbol_at o b bs).1
symbol_found b bs no_blank named no_quote (Some s) e = long_found b bs s named no_quote e
symbol_found b bs no_blank named no_quote None e = short_found b bs no_blank named no_quote e

quoted_found : (b : ℕ) (bs : List ℕ) → is_blank b ≡ false → is_quote b ≡ true → IsAtFront (b ∷ bs) (quoted_at bs).0 (quoted_at bs).1
quoted_found b bs no_blank is = by_end (nat_lt (quoted_len bs) (length bs)) refl
  where
    same : b ≡ 34
    same = grind (is, arith, nat_tests)

    by_end : (v : Bool) → nat_lt (quoted_len bs) (length bs) ≡ v → IsAtFront (b ∷ bs) (quoted_by v bs).0 (quoted_by v bs).1
    by_end true e =
        let c = closed bs (grind (e, arith, nat_tests)) in
        let t : List ℕ = take (quoted_len bs) bs in
        let rest : List ℕ = drop (suc (quoted_len bs)) bs in
        record {
          front = b ∷ (t ++ 34 ∷ []);
          split = ap (λ x. b ∷ x) (c.split ∙ sym (append_assoc t (34 ∷ []) rest));
          is = (ap (λ x. x ∷ (t ++ 34 ∷ [])) same, c.inside.none);
          longest = λ more after q split fits.
              let l = longer_quoted b ((t ++ 34 ∷ []) ++ more) q is (omega (arith, length-append (t ++ 34 ∷ []) more, length-append t (34 ∷ []))) fits in
              (ends_once t l.text more c.inside l.inside l.split).0;
        }
    by_end false e = record {
      front = b ∷ [];
      split = refl;
      is = (
        b,
        refl,
        record {
          no_blank = no_blank;
          no_word = ap is_name_byte same;
          no_symbol = λ s f.
              let none : one_byte b ≡ None = ap one_byte same in let found = one_symbol s b (sym f) in absurd (cc);
        },
      );
      longest = alone (none_to_come bs (grind (e, arith, nat_tests)));
    }
      where
        alone : HasNoQuote bs → IsLongest (b ∷ []) bs
        alone none [] after q split fits = refl
        alone none (c ∷ more) after q split fits =
            let l = longer_quoted b (c ∷ more) q is (omega arith) fits in
            let here : bs ≡ (l.text ++ 34 ∷ []) ++ after = split ∙ ap (λ x. x ++ after) l.split in
            let yes : list_any is_quote bs ≡ true = ap (list_any is_quote) here ∙ has_one l.text after in
            let no : list_any is_quote bs ≡ false = none.none in absurd (cc)

no_word_found : (b : ℕ) (bs : List ℕ) → is_blank b ≡ false → is_name_byte b ≡ false → IsAtFront (b ∷ bs) (no_word_by (is_quote b) b bs).0 (no_word_by (is_quote b) b bs).1
no_word_found b bs no_blank named = by_byte (is_quote b) refl
  where
    by_byte : (v : Bool) → is_quote b ≡ v → IsAtFront (b ∷ bs) (no_word_by v b bs).0 (no_word_by v b bs).1
    by_byte true h = quoted_found b bs no_blank h
    by_byte false h = symbol_found b bs no_blank named h (long_symbol b bs) refl

piece_by : Bool → ℕ → List ℕ → Piece × List ℕ
piece_by v b bs = if v then (AWord (take (word_len (b ∷ bs)) (b ∷ bs)), drop (word_len (b ∷ bs)) (b ∷ bs)) else no_word_by (is_quote b) b bs

piece_found : (b : ℕ) (bs : List ℕ) → is_blank b ≡ false → IsAtFront (b ∷ bs) (piece_at b bs).0 (piece_at b bs).1
unfolding piece_by
piece_found b bs no_blank = by_byte (is_name_byte b) refl
  where
    by_byte : (v : Bool) → is_name_byte b ≡ v → IsAtFront (b ∷ bs) (piece_by v b bs).0 (piece_by v b bs).1
    by_byte true h = word_found b bs h
    by_byte false h = no_word_found b bs no_blank h

-- the lexer's pieces are a cut
cut_at : (b : ℕ) (bs : List ℕ) → is_blank b ≡ false → IsCut (piece_at b bs).1 (pieces_of (piece_at b bs).1) → IsCut (b ∷ bs) (pieces_of (b ∷ bs))
cut_at b bs e more =
    let f = piece_found b bs e in
    let rest : List ℕ = (piece_at b bs).1 in
    let P : List ℕ → Type 0 = λ line. IsCut line ((piece_at b bs).0 ∷ pieces_of rest) in
    subst (IsCut (b ∷ bs)) (sym (pieces_of-piece b bs e)) (subst P (sym f.split) (piece f.front rest (piece_at b bs).0 (pieces_of rest) f.is f.longest more))

cut_within : (n : ℕ) (bs : List ℕ) → length bs ≤ n → IsCut bs (pieces_of bs)
cut_within n [] h = subst (IsCut []) (sym pieces_of-nil) nothing
cut_within zero (b ∷ bs) h = absurd (omega arith)
cut_within (suc n) (b ∷ bs) h =
    let shorter = piece_shorter b bs in
    by_blank (is_blank b) refl (cut_within n bs (omega arith)) (cut_within n (piece_at b bs).1 (omega arith))
  where
    by_blank : (v : Bool) → is_blank b ≡ v → IsCut bs (pieces_of bs) → IsCut (piece_at b bs).1 (pieces_of (piece_at b bs).1) → IsCut (b ∷ bs) (pieces_of (b ∷ bs))
    by_blank true e next more = subst (IsCut (b ∷ bs)) (sym (pieces_of-blank b bs e)) (blank b bs (pieces_of bs) e next)
    by_blank false e next more = cut_at b bs e more

-- of two beginnings of a line one begins the other
abbrev Begins : List ℕ → List ℕ → List ℕ → List ℕ → Type 0
Begins a b c d = (more : List ℕ) × (c ≡ a ++ more) × (b ≡ more ++ d)

longer_by : (x y : ℕ) (a b c d : List ℕ) → x ≡ y → Begins a b c d ⊎ Begins c d a b → Begins (x ∷ a) b (y ∷ c) d ⊎ Begins (y ∷ c) d (x ∷ a) b
longer_by x y a b c d e (inl h) = inl (h.0, (cc (ap (λ t. x ∷ t) h.1)), h.2)
longer_by x y a b c d e (inr h) = inr (h.0, (cc (ap (λ t. y ∷ t) h.1)), h.2)

one_begins : (a b c d : List ℕ) → a ++ b ≡ c ++ d → Begins a b c d ⊎ Begins c d a b
one_begins [] b c d e = inl (c, refl, e)
one_begins (x ∷ a) b [] d e = inr (x ∷ a, refl, sym e)
one_begins (x ∷ a) b (y ∷ c) d e =
    let heads : x ≡ y = (cc) in let tails : a ++ b ≡ c ++ d = (cc) in longer_by x y a b c d heads (one_begins a b c d tails)

-- a line has one longest piece at its front
longest_at : (a b c d : List ℕ) (p q : Piece) → IsPiece a p → IsLongest a b → IsPiece c q → IsLongest c d → a ++ b ≡ c ++ d → (c ≡ a) × (d ≡ b)
longest_at a b c d p q is_a most_a is_c most_c e = by_order (one_begins a b c d e)
  where
    ends_alike : (a b c d : List ℕ) (p : Piece) → IsPiece c p → IsLongest a b → Begins a b c d → (c ≡ a) × (d ≡ b)
    ends_alike a b c d p is most h =
        let P : List ℕ → Type 0 = λ x. IsPiece x p in
        let none : h.0 ≡ [] = most h.0 d p h.2 (subst P h.1 is) in
        (h.1 ∙ ap (λ x. a ++ x) none ∙ append-nil a, sym (h.2 ∙ ap (λ x. x ++ d) none))

    by_order : Begins a b c d ⊎ Begins c d a b → (c ≡ a) × (d ≡ b)
    by_order (inl h) = ends_alike a b c d q is_c most_a h
    by_order (inr h) = let s = ends_alike c d a b p is_a most_c h in (sym s.0, sym s.1)

named_first : (w : List ℕ) → 0 < length w → list_all is_name_byte w ≡ true → is_name_byte (first_byte w) ≡ true
unfolding first_byte
named_first [] some all = absurd (omega arith)
named_first (b ∷ w) some all = (and_parts (is_name_byte b) (list_all is_name_byte w) all).0

word_or_symbol : (bs w : List ℕ) (s : Symbol) → IsPiece bs (AWord w) → IsPiece bs (ASymbol s) → ⊥
word_or_symbol bs w s h g =
    let yes : is_name_byte (first_byte w) ≡ true = named_first w h.1 h.2 in
    let no : is_name_byte (first_byte w) ≡ false = ap (λ x. is_name_byte (first_byte x)) (sym h.0 ∙ g) ∙ (spelled s).1 in absurd (cc)

word_or_stray : (bs w : List ℕ) → IsPiece bs (AWord w) → IsPiece bs AStray → ⊥
unfolding first_byte
word_or_stray bs w h g =
    let yes : is_name_byte (first_byte w) ≡ true = named_first w h.1 h.2 in
    let no : is_name_byte (first_byte w) ≡ false = ap (λ x. is_name_byte (first_byte x)) (sym h.0 ∙ g.1) ∙ g.2.no_word in absurd (cc)

word_or_quoted : (bs w t : List ℕ) → IsPiece bs (AWord w) → IsPiece bs (AQuoted t) → ⊥
unfolding first_byte
word_or_quoted bs w t h g =
    let yes : is_name_byte (first_byte w) ≡ true = named_first w h.1 h.2 in
    let no : is_name_byte (first_byte w) ≡ false = ap (λ x. is_name_byte (first_byte x)) (sym h.0 ∙ g.0) in absurd (cc)

no_symbol_quoted : (t : List ℕ) → symbol_of (quoted t) ≡ None
unfolding symbol_of
no_symbol_quoted [] = refl
no_symbol_quoted (b ∷ t) = refl

symbol_or_quoted : (bs t : List ℕ) (s : Symbol) → IsPiece bs (ASymbol s) → IsPiece bs (AQuoted t) → ⊥
symbol_or_quoted bs t s h g =
    let found : Some s ≡ None = sym (spelled s).0 ∙ ap symbol_of (sym h ∙ g.0) ∙ no_symbol_quoted t in absurd (cc)

quoted_or_stray : (bs t : List ℕ) → IsPiece bs (AQuoted t) → IsPiece bs AStray → ⊥
quoted_or_stray bs [] h g = let e : 34 ∷ 34 ∷ [] ≡ g.0 ∷ [] = sym h.0 ∙ g.1 in absurd (cc)
quoted_or_stray bs (b ∷ t) h g = let e : 34 ∷ b ∷ (t ++ 34 ∷ []) ≡ g.0 ∷ [] = sym h.0 ∙ g.1 in absurd (cc)

same_quoted : (bs t u : List ℕ) → IsPiece bs (AQuoted t) → IsPiece bs (AQuoted u) → t ≡ u
same_quoted bs t u h g =
    let e : quoted t ≡ quoted u = sym h.0 ∙ g.0 in
    let f : t ++ 34 ∷ [] ≡ u ++ 34 ∷ [] = (cc) in
    (ends_once t u [] (no_quote_in t h.1) (no_quote_in u g.1) (append-nil (t ++ 34 ∷ []) ∙ f)).1

-- and these bytes are one piece
one_piece : (bs : List ℕ) (p q : Piece) → IsPiece bs p → IsPiece bs q → p ≡ q
one_piece bs (AWord v) (AWord w) h g = ap AWord (sym h.0 ∙ g.0)
one_piece bs (AWord w) (ASymbol s) h g = absurd (word_or_symbol bs w s h g)
one_piece bs (AWord w) (AQuoted t) h g = absurd (word_or_quoted bs w t h g)
one_piece bs (AWord w) AStray h g = absurd (word_or_stray bs w h g)
one_piece bs (ASymbol s) (AWord w) h g = absurd (word_or_symbol bs w s g h)
one_piece bs (ASymbol s) (ASymbol t) h g =
    let same : Some s ≡ Some t = sym (spelled s).0 ∙ ap symbol_of (sym h ∙ g) ∙ (spelled t).0 in let is : s ≡ t = (cc) in ap ASymbol is
one_piece bs (ASymbol s) (AQuoted t) h g = absurd (symbol_or_quoted bs t s h g)
one_piece bs (AQuoted t) (AWord w) h g = absurd (word_or_quoted bs w t g h)
one_piece bs (AQuoted t) (ASymbol s) h g = absurd (symbol_or_quoted bs t s g h)
one_piece bs (AQuoted t) (AQuoted u) h g = ap AQuoted (same_quoted bs t u h g)
one_piece bs (AQuoted t) AStray h g = absurd (quoted_or_stray bs t h g)
one_piece bs (ASymbol s) AStray h g = absurd (g.2.no_symbol s (sym h ∙ g.1))
one_piece bs AStray (AWord w) h g = absurd (word_or_stray bs w g h)
one_piece bs AStray (AQuoted t) h g = absurd (quoted_or_stray bs t g h)
one_piece bs AStray (ASymbol s) h g = absurd (h.2.no_symbol s (sym g ∙ h.1))
one_piece bs AStray AStray h g = refl

-- a cut has the lexer's pieces
piece_lexed : (front rest : List ℕ) (p : Piece) → IsPiece front p → IsLongest front rest → pieces_of (front ++ rest) ≡ p ∷ pieces_of rest
piece_lexed [] rest p is most = absurd (no_bytes p is)
piece_lexed (b ∷ bs) rest p is most =
    let no_blank : is_blank b ≡ false = first_of_piece b bs p is in
    let q : Piece = (piece_at b (bs ++ rest)).0 in
    let left : List ℕ = (piece_at b (bs ++ rest)).1 in
    let f : IsAtFront (b ∷ (bs ++ rest)) q left = piece_found b (bs ++ rest) no_blank in
    let same = longest_at (b ∷ bs) rest f.front left p q is most f.is f.longest f.split in
    let P : List ℕ → Type 0 = λ x. IsPiece x q in
    let alike : p ≡ q = one_piece (b ∷ bs) p q is (subst P same.0 f.is) in
    pieces_of-piece b (bs ++ rest) no_blank ∙ ap (λ x. x ∷ pieces_of left) (sym alike) ∙ ap (λ x. p ∷ pieces_of x) same.1

lexed : (line : List ℕ) (ps : List Piece) → IsCut line ps → pieces_of line ≡ ps
lexed _ _ nothing = pieces_of-nil
lexed _ _ (blank b bs ps e more) = pieces_of-blank b bs e ∙ lexed bs ps more
lexed _ _ (piece front rest p ps is most more) = piece_lexed front rest p is most ∙ ap (λ x. p ∷ x) (lexed rest ps more)

pub the_longest : CutsTheLongest
the_longest line ps = record { cut = lexed line ps; pieces = λ e. subst (IsCut line) e (cut_within (length line) line (omega arith)) }
