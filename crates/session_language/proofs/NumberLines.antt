-- Lines under a plan of version 1 are lines of numbers alone.
use Rattle.std.proofs.Common.{◌≡◌, ◌⊎◌, inl, inr, ℕ, zero, suc, List, [], ◌∷◌, ◌++◌, length, take, drop, Bool, true, false, ◌||◌, nat_lt, Option, Some, None, if◌then◌else◌, codes, refl, sym, ap, ◌∙◌, subst, arith}
use Rattle.std.specs.List.{list_any}
use Rattle.std.proofs.lemmas.Bool.{both_ways}
use Rattle.std.proofs.lemmas.Bool.Decides.{nat_tests}
use Rattle.bottle_values.specs.declared.version.Version.TheVariants.{One}
use Rattle.text_lines.specs.Text.{is_blank, is_name_byte}
use Rattle.session_language.specs.declared.lexer.Symbol.{Symbol}
use Rattle.session_language.specs.Lexer.{Piece, AWord, ASymbol, AQuoted, AStray, word_len, long_symbol, two_bytes, begins_equals, symbol_at, is_quote, quoted_len, quoted_at, piece_at, pieces_in, pieces_of}
use Rattle.session_language.specs.Spelling.{Token}
use Rattle.session_language.specs.LineGrammar.{AreTokens, nothing, number, variable, value_of, text, sign, IsForm, opens, lets, sets, gives, demands, asks, repeats, otherwise, closes}
use Rattle.session_language.specs.Form.{Form, form_of}
use Rattle.session_language.specs.Reading.{take_formed}
use Rattle.session_language.specs.NumberLines.{number_piece_at, number_pieces_in, number_pieces_of, NumbersMeanTheSame}
use Rattle.session_language.proofs.Pieces.{quoted_by, no_word_by}
use Rattle.session_language.proofs.LineGrammar.{by_grammar}

-- a piece that no form has, where there are no texts
abbrev is_other : Piece → Bool
is_other (AWord w) = false
is_other (ASymbol s) = false
is_other (AQuoted bytes) = true
is_other AStray = true

record HasOther (ps : List Piece) : Type 0 where
  some : list_any is_other ps ≡ true

here : (p : Piece) (ps : List Piece) → is_other p ≡ true → HasOther (p ∷ ps)
here p ps h = record { some = ap (λ b. b || list_any is_other ps) h }

later : (p : Piece) (ps : List Piece) → HasOther ps → HasOther (p ∷ ps)
later p ps h = record { some = by_first (is_other p) }
  where
    by_first : (b : Bool) → (b || list_any is_other ps) ≡ true
    by_first true = refl
    by_first false = h.some

-- forms have none
record HasNone (ps : List Piece) : Type 0 where
  none : list_any is_other ps ≡ false

no_more : HasNone []
no_more = record { none = refl }

one_word : (w : List ℕ) (ps : List Piece) → HasNone ps → HasNone (AWord w ∷ ps)
one_word w ps h = record { none = h.none }

one_symbol : (s : Symbol) (ps : List Piece) → HasNone ps → HasNone (ASymbol s ∷ ps)
one_symbol s ps h = record { none = h.none }

both_none : (ps qs : List Piece) → HasNone ps → HasNone qs → HasNone (ps ++ qs)
both_none [] qs h g = g
both_none (p ∷ ps) qs h g = record { none = by_first (is_other p) h.none (both_none ps qs) }
  where
    by_first : (b : Bool) → (b || list_any is_other ps) ≡ false → (HasNone ps → HasNone qs → HasNone (ps ++ qs)) → (b || list_any is_other (ps ++ qs)) ≡ false
    by_first true k more = k
    by_first false k more = (more (record { none = k }) g).none

tokens_none : (ps : List Piece) (ts : List Token) → AreTokens One ps ts → HasNone ps
tokens_none _ _ nothing = no_more
tokens_none _ _ (number w n ps ts h more) = one_word w ps (tokens_none ps ts more)
tokens_none _ _ (variable w ps ts h more) = one_word w ps (tokens_none ps ts more)
tokens_none _ _ (value_of w ps ts h more) = one_word (codes "read") (AWord w ∷ ps) (one_word w ps (tokens_none ps ts more))
tokens_none _ _ (text bytes ps ts two is more) = absurd (cc)
tokens_none _ _ (sign s t ps ts h more) = one_symbol s ps (tokens_none ps ts more)

form_none : (ps : List Piece) (f : Form) → IsForm One ps f → HasNone ps
form_none _ _ (opens name h) = one_word (codes "session") (AWord name ∷ []) (one_word name [] no_more)
form_none _ _ (lets name ps e h g) = one_word (codes "let") _ (one_word name _ (one_symbol _ ps (tokens_none ps e.tokens g.tokens)))
form_none _ _ (sets name ps e h g) = one_word (codes "set") _ (one_word name _ (one_symbol _ ps (tokens_none ps e.tokens g.tokens)))
form_none _ _ (gives ps e h) = one_word (codes "give") ps (tokens_none ps e.tokens h.tokens)
form_none _ _ (demands ps qs left right s c word n first is second value few) =
    one_word (codes "require") _
    (both_none ps _ (tokens_none ps left.tokens first.tokens) (one_symbol s _ (both_none qs _ (tokens_none qs right.tokens second.tokens) (one_word (codes "else") _ (one_word word [] no_more)))))
form_none _ _ (asks ps qs left right s c first is second) = one_word (codes "if") _ (both_none ps _ (tokens_none ps left.tokens first.tokens) (one_symbol s qs (tokens_none qs right.tokens second.tokens)))
form_none _ _ (repeats word n value few) = one_word (codes "repeat") _ (one_word word [] no_more)
form_none _ _ otherwise = one_word (codes "else") [] no_more
form_none _ _ closes = one_word (codes "end") [] no_more

no_form : (ps : List Piece) → HasOther ps → form_of One ps ≡ None
no_form ps h = by_form (form_of One ps) refl
  where
    by_form : (o : Option Form) → form_of One ps ≡ o → o ≡ None
    by_form None e = refl
    by_form (Some f) e = absurd (both_ways (list_any is_other ps) (form_none ps f ((by_grammar One ps f).is e)).none h.some)

-- both ways of cutting a line give the same pieces, or neither is a form
record Alike (ps qs : List Piece) : Type 0 where
  same : (ps ≡ qs) ⊎ (HasOther ps × HasOther qs)

alike_forms : (ps qs : List Piece) → Alike ps qs → form_of One ps ≡ form_of One qs
alike_forms ps qs a = by_case a.same
  where
    by_case : (ps ≡ qs) ⊎ (HasOther ps × HasOther qs) → form_of One ps ≡ form_of One qs
    by_case (inl e) = ap (form_of One) e
    by_case (inr h) = no_form ps h.0 ∙ sym (no_form qs h.1)

and_alike : (p : Piece) (ps qs : List Piece) → Alike ps qs → Alike (p ∷ ps) (p ∷ qs)
and_alike p ps qs a = by_case a.same
  where
    by_case : (ps ≡ qs) ⊎ (HasOther ps × HasOther qs) → Alike (p ∷ ps) (p ∷ qs)
    by_case (inl e) = record { same = inl (ap (λ x. p ∷ x) e) }
    by_case (inr h) = record { same = inr (later p ps h.0, later p qs h.1) }

-- what a quotation mark begins is of no form, however it is cut
quoted_other : (bs : List ℕ) → is_other (quoted_at bs).0 ≡ true
quoted_other bs = by_end (nat_lt (quoted_len bs) (length bs))
  where
    by_end : (v : Bool) → is_other (quoted_by v bs).0 ≡ true
    by_end true = refl
    by_end false = refl

symbol_other : (b : ℕ) (bs : List ℕ) → is_quote b ≡ true → is_other (symbol_at (long_symbol b bs) b bs).0 ≡ true
symbol_other b bs h =
    let same : b ≡ 34 = grind (h, arith, nat_tests) in
    ap (λ c. is_other (symbol_at (long_symbol c bs) c bs).0) same ∙ by_equals (begins_equals bs)
  where
    by_equals : (v : Bool) → is_other (symbol_at (if v then two_bytes 34 else None) 34 bs).0 ≡ true
    by_equals true = refl
    by_equals false = refl

-- where no quotation mark comes first, both cut the same piece
abbrev first_by : Bool → Bool → ℕ → List ℕ → Piece × List ℕ
first_by v q b bs = if v then (AWord (take (word_len (b ∷ bs)) (b ∷ bs)), drop (word_len (b ∷ bs)) (b ∷ bs)) else no_word_by q b bs

same_piece : (b : ℕ) (bs : List ℕ) → is_quote b ≡ false → piece_at b bs ≡ number_piece_at b bs
same_piece b bs h = ap (λ q. first_by (is_name_byte b) q b bs) h

abbrev Cut : ℕ → ℕ → List ℕ → Type 0
Cut m n bs = Alike (pieces_in m bs) (number_pieces_in n bs)

quote_first : (m : ℕ) (b : ℕ) (bs : List ℕ) → is_quote b ≡ true → Alike ((piece_at b bs).0 ∷ pieces_in m (piece_at b bs).1) ((number_piece_at b bs).0 ∷ number_pieces_in m (number_piece_at b bs).1)
quote_first m b bs h =
    let same : b ≡ 34 = grind (h, arith, nat_tests) in
    let no_word : is_name_byte b ≡ false = ap is_name_byte same in
    let one : is_other (piece_at b bs).0 ≡ true = ap (λ v. is_other (first_by v (is_quote b) b bs).0) no_word ∙ ap (λ q. is_other (no_word_by q b bs).0) h ∙ quoted_other bs in
    let two : is_other (number_piece_at b bs).0 ≡ true = ap (λ v. is_other (first_by v false b bs).0) no_word ∙ symbol_other b bs h in
    record { same = inr (here (piece_at b bs).0 (pieces_in m (piece_at b bs).1) one, here (number_piece_at b bs).0 (number_pieces_in m (number_piece_at b bs).1) two) }

other_first : (m : ℕ) (b : ℕ) (bs : List ℕ) → is_quote b ≡ false → Cut m m (piece_at b bs).1 → Alike ((piece_at b bs).0 ∷ pieces_in m (piece_at b bs).1) ((number_piece_at b bs).0 ∷ number_pieces_in m (number_piece_at b bs).1)
other_first m b bs h more =
    let P : Piece × List ℕ → Type 0 = λ x. Alike ((piece_at b bs).0 ∷ pieces_in m (piece_at b bs).1) (x.0 ∷ number_pieces_in m x.1) in
    subst P (same_piece b bs h) (and_alike (piece_at b bs).0 _ _ more)

abbrev CutAt : ℕ → ℕ → List ℕ → Type 0
CutAt n b bs = Alike ((piece_at b bs).0 ∷ pieces_in n (piece_at b bs).1) ((number_piece_at b bs).0 ∷ number_pieces_in n (number_piece_at b bs).1)

cut_alike : (n : ℕ) (bs : List ℕ) → Cut n n bs
cut_alike zero bs = record { same = inl refl }
cut_alike (suc n) [] = record { same = inl refl }
cut_alike (suc n) (b ∷ bs) = by_blank (is_blank b) (cut_alike n bs) (by_first (is_quote b) refl (cut_alike n (piece_at b bs).1))
  where
    by_first : (v : Bool) → is_quote b ≡ v → Cut n n (piece_at b bs).1 → CutAt n b bs
    by_first true h more = quote_first n b bs h
    by_first false h more = other_first n b bs h more

    by_blank : (v : Bool) → Cut n n bs → CutAt n b bs
        → Alike (if v then pieces_in n bs else (piece_at b bs).0 ∷ pieces_in n (piece_at b bs).1) (if v then number_pieces_in n bs else (number_piece_at b bs).0 ∷ number_pieces_in n (number_piece_at b bs).1)
    by_blank true next more = next
    by_blank false next more = more

pub same_line : NumbersMeanTheSame
same_line p x line one =
    ap (λ v. take_formed p x (form_of v (pieces_of line))) one
    ∙ ap (take_formed p x) (alike_forms (pieces_of line) (number_pieces_of line) (unfold pieces_of in cut_alike (length line) line))
