-- What stands between two quotation marks.
use Rattle.std.proofs.Common.{◌≡◌, ◌<◌, ◌≤◌, ◌+◌, ℕ, zero, suc, List, [], ◌∷◌, ◌++◌, length, take, drop, Bool, true, false, not, ◌||◌, nat_lt, if◌then◌else◌, refl, sym, ap, ◌∙◌, subst, arith, length-append}
use Rattle.std.specs.List.{list_any, list_all}
use Rattle.std.proofs.lemmas.Bool.{and_parts}
use Rattle.std.proofs.lemmas.Bool.Decides.{nat_tests}
use Rattle.bottle_values.specs.Texts.{is_text_byte, is_text}
use Rattle.session_language.specs.Lexer.{Piece, AQuoted, AStray, is_quote, quoted_len, quoted_at}

-- none of these bytes is a quotation mark
pub record HasNoQuote (bs : List ℕ) : Type 0 where
  pub none : list_any is_quote bs ≡ false

pub no_quote_in : (bs : List ℕ) → list_any is_quote bs ≡ false → HasNoQuote bs
no_quote_in bs h = record { none = h }

-- the first byte isn't one, and none of the others is
either_false : (a b : Bool) → (a || b) ≡ false → (a ≡ false) × (b ≡ false)
either_false true b h = absurd (cc)
either_false false b h = (refl, h)

first_is_none : (b : ℕ) (bs : List ℕ) → HasNoQuote (b ∷ bs) → is_quote b ≡ false
first_is_none b bs h = (either_false (is_quote b) (list_any is_quote bs) h.none).0

others_are_none : (b : ℕ) (bs : List ℕ) → HasNoQuote (b ∷ bs) → HasNoQuote bs
others_are_none b bs h = record { none = (either_false (is_quote b) (list_any is_quote bs) h.none).1 }

with_first : (b : ℕ) (bs : List ℕ) → is_quote b ≡ false → HasNoQuote bs → HasNoQuote (b ∷ bs)
with_first b bs h g = record { none = ap (λ x. x || list_any is_quote bs) h ∙ g.none }

-- the bytes up to the next quotation mark, and what follows it
pub record IsClosed (bs front rest : List ℕ) : Type 0 where
  pub split : bs ≡ front ++ 34 ∷ rest
  pub inside : HasNoQuote front

one_more : (k : ℕ) → 1 + k ≡ suc k
one_more k = omega arith

pub closed : (bs : List ℕ) → quoted_len bs < length bs → IsClosed bs (take (quoted_len bs) bs) (drop (suc (quoted_len bs)) bs)
closed [] h = absurd (omega arith)
closed (b ∷ bs) h = by_byte (is_quote b) refl h (closed bs)
  where
    at : (v : Bool) → ℕ
    at v = if not v then 1 + quoted_len bs else 0

    by_byte : (v : Bool) → is_quote b ≡ v → (if not v then 1 + quoted_len bs else 0) < suc (length bs) → (quoted_len bs < length bs → IsClosed bs (take (quoted_len bs) bs) (drop (suc (quoted_len bs)) bs))
        → IsClosed (b ∷ bs) (take (if not v then 1 + quoted_len bs else 0) (b ∷ bs)) (drop (suc (if not v then 1 + quoted_len bs else 0)) (b ∷ bs))
    by_byte true e h more =
        let same : b ≡ 34 = grind (e, arith, nat_tests) in
        record { split = ap (λ x. x ∷ bs) same; inside = record { none = refl } }
    by_byte false e h more =
        let c = more (omega arith) in
        let P : ℕ → Type 0 = λ k. IsClosed (b ∷ bs) (take k (b ∷ bs)) (drop (suc k) (b ∷ bs)) in
        subst P (sym (one_more (quoted_len bs))) (record { split = ap (λ x. b ∷ x) c.split; inside = with_first b (take (quoted_len bs) bs) e c.inside })

pub none_to_come : (bs : List ℕ) → length bs ≤ quoted_len bs → HasNoQuote bs
none_to_come [] h = record { none = refl }
none_to_come (b ∷ bs) h = by_byte (is_quote b) refl h (none_to_come bs)
  where
    by_byte : (v : Bool) → is_quote b ≡ v → suc (length bs) ≤ (if not v then 1 + quoted_len bs else 0) → (length bs ≤ quoted_len bs → HasNoQuote bs) → HasNoQuote (b ∷ bs)
    by_byte true e h more = absurd (omega arith)
    by_byte false e h more = with_first b bs e (more (omega arith))

-- what is quoted is cut there, whatever comes after it
len_is : (t rest : List ℕ) → HasNoQuote t → quoted_len (t ++ 34 ∷ rest) ≡ length t
len_is [] rest h = refl
len_is (b ∷ t) rest h =
    ap (λ v. if not v then 1 + quoted_len (t ++ 34 ∷ rest) else 0) (first_is_none b t h) ∙ ap (λ k. 1 + k) (len_is t rest (others_are_none b t h)) ∙ one_more (length t)

took : (t rest : List ℕ) → take (length t) (t ++ rest) ≡ t
took [] rest = refl
took (b ∷ t) rest = ap (λ x. b ∷ x) (took t rest)

past : (t rest : List ℕ) → drop (suc (length t)) (t ++ 34 ∷ rest) ≡ rest
past [] rest = refl
past (b ∷ t) rest = past t rest

abbrev cut_at : ℕ → List ℕ → Piece × List ℕ
cut_at k bs = if nat_lt k (length bs) then (AQuoted (take k bs), drop (suc k) bs) else (AStray, bs)

within : (t rest : List ℕ) → nat_lt (length t) (length (t ++ 34 ∷ rest)) ≡ true
within t rest = let l = length-append t (34 ∷ rest) in grind (l, arith, nat_tests)

pub quoted_is : (t rest : List ℕ) → HasNoQuote t → quoted_at (t ++ 34 ∷ rest) ≡ (AQuoted t, rest)
quoted_is t rest h =
    ap (λ k. cut_at k (t ++ 34 ∷ rest)) (len_is t rest h)
    ∙ ap (λ v. if v then (AQuoted (take (length t) (t ++ 34 ∷ rest)), drop (suc (length t)) (t ++ 34 ∷ rest)) else (AStray, t ++ 34 ∷ rest)) (within t rest)
    ∙ ap (λ x. (AQuoted x, drop (suc (length t)) (t ++ 34 ∷ rest))) (took t (34 ∷ rest))
    ∙ ap (λ x. (AQuoted t, x)) (past t rest)

after_one : (k : ℕ) (bs : List ℕ) → drop 1 (drop k bs) ≡ drop (suc k) bs
after_one zero bs = refl
after_one (suc k) [] = refl
after_one (suc k) (b ∷ bs) = after_one k bs

-- the same in two steps
pub cut_in_two : (bs front back rest : List ℕ) (len : ℕ) → len ≡ quoted_len bs → len < length bs → front ≡ take len bs → back ≡ drop len bs → rest ≡ drop 1 back → (AQuoted front, rest) ≡ quoted_at bs
cut_in_two bs front back rest len is lt f g h =
    let inside : nat_lt len (length bs) ≡ true = grind (lt, arith, nat_tests) in
    let end : rest ≡ drop (suc len) bs = h ∙ ap (λ xs. drop 1 xs) g ∙ after_one len bs in
    ap (λ x. (AQuoted x, rest)) f ∙ ap (λ x. (AQuoted (take len bs), x)) end
    ∙ sym (ap (λ v. if v then (AQuoted (take len bs), drop (suc len) bs) else (AStray, bs)) inside)
    ∙ ap (λ k. cut_at k bs) is

-- a text has none
text_byte : (b : ℕ) → is_text_byte b ≡ true → is_quote b ≡ false
text_byte b h = grind (h, arith, nat_tests)

pub bytes_have_none : (t : List ℕ) → list_all is_text_byte t ≡ true → HasNoQuote t
bytes_have_none [] h = record { none = refl }
bytes_have_none (b ∷ t) h =
    let parts = and_parts (is_text_byte b) (list_all is_text_byte t) h in with_first b t (text_byte b parts.0) (bytes_have_none t parts.1)

pub text_has_none : (t : List ℕ) → is_text t ≡ true → HasNoQuote t
text_has_none t h = bytes_have_none t (and_parts _ (list_all is_text_byte t) h).1

-- where what is quoted ends, nothing more of it comes
pub ends_once : (t u more : List ℕ) → HasNoQuote t → HasNoQuote u → (t ++ 34 ∷ []) ++ more ≡ u ++ 34 ∷ [] → (more ≡ []) × (t ≡ u)
ends_once [] [] more h g e = (cc, refl)
ends_once [] (x ∷ u) more h g e =
    let same : x ≡ 34 = (cc) in let yes : is_quote x ≡ true = ap is_quote same in let no = first_is_none x u g in absurd (cc)
ends_once (y ∷ t) [] more h g e =
    let same : y ≡ 34 = (cc) in let yes : is_quote y ≡ true = ap is_quote same in let no = first_is_none y t h in absurd (cc)
ends_once (y ∷ t) (x ∷ u) more h g e =
    let rest : (t ++ 34 ∷ []) ++ more ≡ u ++ 34 ∷ [] = (cc) in
    let same : y ≡ x = (cc) in
    let r = ends_once t u more (others_are_none y t h) (others_are_none x u g) rest in
    (r.0, ap (λ z. z ∷ t) same ∙ ap (λ z. x ∷ z) r.1)

-- bytes with one have one
or_true : (v b : Bool) → b ≡ true → (v || b) ≡ true
or_true true b h = refl
or_true false b h = h

pub has_one : (t after : List ℕ) → list_any is_quote ((t ++ 34 ∷ []) ++ after) ≡ true
has_one [] after = refl
has_one (b ∷ t) after = or_true (is_quote b) _ (has_one t after)
