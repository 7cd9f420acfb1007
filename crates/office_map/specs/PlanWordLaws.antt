-- What follows of the words of a plan's line: where a word ends with a space behind it or with the line, and that a text is
-- read as it is written.
use Rattle.std.proofs.Common.{◌≡◌, ℕ, zero, suc, ◌+◌, ◌≤◌, List, [], ◌∷◌, ◌++◌, length, take, drop, Bool, true, false, not, cond, ◌&&◌, nat_lt, nat_le, Option, Some, None, is_some, option_map, pos, if◌then◌else◌, refl, sym, ap, ◌∙◌, arith, length-append, append_assoc}
use Rattle.std.specs.Prelude.{◌==◌}
use Rattle.std.specs.List.{list_all, position_or_len}
use Rattle.std.proofs.lemmas.Bool.{and_parts, both_ways, eqb-true, eq-eqb}
use Rattle.std.proofs.lemmas.Bool.Decides.{nat_tests}
use Rattle.std.proofs.lemmas.List.{take_all, drop_all}
use Rattle.bottle_values.specs.ListLaws.{all_weaker}
use Rattle.bottle_values.specs.declared.Value.TheVariants.{Text}
use Rattle.bottle_values.specs.declared.version.Version.TheVariants.{Two}
use Rattle.bottle_values.specs.Texts.{is_text, is_text_byte}
use Rattle.bottle_values.specs.Printed.{quoted}
use Rattle.text_lines.specs.Text.{is_blank, name_of, number_of, decimal}
use Rattle.office_map.specs.Address.{address_of_word}
use Rattle.office_map.specs.PlanWords.{is_quote, unspaced, others_of, words_behind, plan_words}
use Rattle.office_map.specs.PlanWords as words
use Rattle.office_map.specs.PlanText.{integer_of, text_of, number_or_text, value_under}

-- what stands behind the first bytes has the words that begin there
pub behind_is_drop : (k : ℕ) (line : List ℕ) → words_behind k line ≡ words_behind 0 (drop k line)
behind_is_drop zero line = refl
behind_is_drop (suc k) [] = refl
behind_is_drop (suc k) (b ∷ bs) = behind_is_drop k bs

-- ---- places

abbrev none_of : (ℕ → Bool) → List ℕ → Bool
none_of p w = list_all (λ b. not (p b)) w

no : (t : Bool) → not t ≡ true → t ≡ false
no true h = sym h
no false h = refl

place : (p : ℕ → Bool) (b : ℕ) (bs : List ℕ) (n : ℕ) → p b ≡ false → position_or_len p bs ≡ n → position_or_len p (b ∷ bs) ≡ suc n
place p b bs n e h = omega (arith, ap (λ t. cond (not t) (1 + position_or_len p bs) 0) e, h)

-- the first that passes is the one behind those that don't
pub place_there : (p : ℕ → Bool) (w : List ℕ) (x : ℕ) (rest : List ℕ) → none_of p w ≡ true → p x ≡ true → position_or_len p (w ++ x ∷ rest) ≡ length w
place_there p [] x rest h e = ap (λ t. cond (not t) (1 + position_or_len p rest) 0) e
place_there p (b ∷ w) x rest h e =
    let parts = and_parts (not (p b)) (none_of p w) h in
    place p b (w ++ x ∷ rest) (length w) (no (p b) parts.0) (place_there p w x rest parts.1 e)

pub place_nowhere : (p : ℕ → Bool) (w : List ℕ) → none_of p w ≡ true → position_or_len p w ≡ length w
place_nowhere p [] h = refl
place_nowhere p (b ∷ w) h =
    let parts = and_parts (not (p b)) (none_of p w) h in
    place p b w (length w) (no (p b) parts.0) (place_nowhere p w parts.1)

take_it : (w rest : List ℕ) → take (length w) (w ++ rest) ≡ w
take_it [] rest = refl
take_it (b ∷ w) rest = ap (λ l. b ∷ l) (take_it w rest)

drop_it : (w rest : List ℕ) → drop (length w) (w ++ rest) ≡ rest
drop_it [] rest = refl
drop_it (b ∷ w) rest = drop_it w rest

-- ---- words

-- what ends a word is a space behind it
pub word_then : (b : ℕ) (bs rest : List ℕ) → is_blank b ≡ false → others_of b (bs ++ 32 ∷ rest) ≡ length bs → plan_words (b ∷ bs ++ 32 ∷ rest) ≡ (b ∷ bs) ∷ plan_words rest
unfolding plan_words
word_then b bs rest text ends =
    let line : List ℕ = bs ++ 32 ∷ rest in
    ap (λ t. if t then words_behind 0 line else (b ∷ take (others_of b line) line) ∷ words_behind (others_of b line) line) text
    ∙ ap (λ k. (b ∷ take k line) ∷ words_behind k line) ends
    ∙ ap (λ l. (b ∷ l) ∷ words_behind (length bs) line) (take_it bs (32 ∷ rest))
    ∙ ap (λ ws. (b ∷ bs) ∷ ws) (behind_is_drop (length bs) line ∙ ap (words_behind 0) (drop_it bs (32 ∷ rest)))

-- or the line's end
pub word_last : (b : ℕ) (bs : List ℕ) → is_blank b ≡ false → length bs ≤ others_of b bs → plan_words (b ∷ bs) ≡ (b ∷ bs) ∷ []
unfolding plan_words
word_last b bs text ends =
    ap (λ t. if t then words_behind 0 bs else (b ∷ take (others_of b bs) bs) ∷ words_behind (others_of b bs) bs) text
    ∙ ap (λ l. (b ∷ l) ∷ words_behind (others_of b bs) bs) (take_all (others_of b bs) bs ends)
    ∙ ap (λ ws. (b ∷ bs) ∷ ws) (behind_is_drop (others_of b bs) bs ∙ ap (words_behind 0) (drop_all (others_of b bs) bs ends))

-- the word begins as a text does
abbrev pub begins_text : List ℕ → Bool
begins_text [] = false
begins_text (b ∷ bs) = is_quote b

-- where a test fails at " whatever follows
pub fails_there : (p : List ℕ → Bool) → ((bs : List ℕ) → p (34 ∷ bs) ≡ false) → (w : List ℕ) → p w ≡ true → begins_text w ≡ false
fails_there p fails [] e = refl
fails_there p fails (b ∷ bs) e = by_byte (is_quote b) refl
  where
    by_byte : (q : Bool) → is_quote b ≡ q → q ≡ false
    by_byte false h = refl
    by_byte true h = absurd (both_ways (p (b ∷ bs)) (ap (λ c. p (c ∷ bs)) (eqb-true b 34 h) ∙ fails bs) e)

pub name_is_no_text : (w : List ℕ) → is_some (name_of w) ≡ true → begins_text w ≡ false
name_is_no_text = fails_there (λ w. is_some (name_of w)) (λ bs. refl)

pub address_is_no_text : (w : List ℕ) → is_some (address_of_word w) ≡ true → begins_text w ≡ false
address_is_no_text = fails_there (λ w. is_some (address_of_word w)) (λ bs. refl)

pub number_fails : (bs : List ℕ) → number_of (34 ∷ bs) ≡ None
number_fails bs = by_length (nat_lt 0 (length (34 ∷ bs)) && nat_le (length (34 ∷ bs)) 19)
  where
    by_length : (x : Bool) → (if x && false then Some (decimal (34 ∷ bs)) else None) ≡ None
    by_length true = refl
    by_length false = refl

pub number_is_no_text : (w : List ℕ) → is_some (number_of w) ≡ true → begins_text w ≡ false
number_is_no_text = fails_there (λ w. is_some (number_of w)) (λ bs. ap is_some (number_fails bs))

-- a word without blanks that doesn't begin so
others_plain : (b : ℕ) (bs : List ℕ) → is_quote b ≡ false → others_of b bs ≡ unspaced bs
others_plain b bs e = ap (λ t. if t then words.quoted bs + unspaced (drop (words.quoted bs) bs) else unspaced bs) e

pub plain_then : (b : ℕ) (bs rest : List ℕ) → none_of is_blank (b ∷ bs) ≡ true → is_quote b ≡ false → plan_words (b ∷ bs ++ 32 ∷ rest) ≡ (b ∷ bs) ∷ plan_words rest
plain_then b bs rest h e =
    let parts = and_parts (not (is_blank b)) (none_of is_blank bs) h in
    word_then b bs rest (no (is_blank b) parts.0) (others_plain b (bs ++ 32 ∷ rest) e ∙ place_there is_blank bs 32 rest parts.1 refl)

pub plain_last : (b : ℕ) (bs : List ℕ) → none_of is_blank (b ∷ bs) ≡ true → is_quote b ≡ false → plan_words (b ∷ bs) ≡ (b ∷ bs) ∷ []
plain_last b bs h e =
    let parts = and_parts (not (is_blank b)) (none_of is_blank bs) h in
    word_last b bs (no (is_blank b) parts.0) (omega (arith, others_plain b bs e, place_nowhere is_blank bs parts.1))

-- ---- texts

no_quote : (b : ℕ) → is_text_byte b ≡ true → not (is_quote b) ≡ true
no_quote b h = (and_parts (nat_le 32 b && nat_le b 126) (not (b == 34)) h).1

unquoted : (t : List ℕ) → is_text t ≡ true → none_of is_quote t ≡ true
unquoted t h = all_weaker is_text_byte (λ b. not (is_quote b)) no_quote t (and_parts (nat_le (length t) 64) (list_all is_text_byte t) h).1

-- how long it is up to the second "
closed : (t rest : List ℕ) → is_text t ≡ true → words.quoted (t ++ 34 ∷ rest) ≡ length t + 1
closed t rest h = ap (λ n. n + 1) (place_there is_quote t 34 rest (unquoted t h) refl)

behind_it : (t rest : List ℕ) → drop (length t + 1) (t ++ 34 ∷ rest) ≡ rest
behind_it [] rest = refl
behind_it (b ∷ t) rest = let on : length (b ∷ t) + 1 ≡ suc (length t + 1) = omega arith in ap (λ k. drop k (b ∷ t ++ 34 ∷ rest)) on ∙ behind_it t rest

others_text : (t rest : List ℕ) → is_text t ≡ true → others_of 34 (t ++ 34 ∷ rest) ≡ length t + 1 + unspaced rest
others_text t rest h =
    ap (λ k. k + unspaced (drop k (t ++ 34 ∷ rest))) (closed t rest h) ∙ ap (λ l. length t + 1 + unspaced l) (behind_it t rest)

pub text_then : (t rest : List ℕ) → is_text t ≡ true → plan_words (quoted t ++ 32 ∷ rest) ≡ quoted t ∷ plan_words rest
text_then t rest h =
    let same : others_of 34 ((t ++ 34 ∷ []) ++ 32 ∷ rest) ≡ others_of 34 (t ++ 34 ∷ 32 ∷ rest) = ap (others_of 34) (append_assoc t (34 ∷ []) (32 ∷ rest)) in
    word_then 34 (t ++ 34 ∷ []) rest refl (omega (arith, same, others_text t (32 ∷ rest) h, length-append t (34 ∷ [])))

pub text_last : (t : List ℕ) → is_text t ≡ true → plan_words (quoted t) ≡ quoted t ∷ []
text_last t h = word_last 34 (t ++ 34 ∷ []) refl (omega (arith, length-append t (34 ∷ []), others_text t [] h))

-- a text between two " is read as it
pub text_again : (t : List ℕ) → is_text t ≡ true → value_under Two (quoted t) ≡ Some (Text t)
text_again t h =
    let rest : List ℕ = t ++ 34 ∷ [] in
    let end : words.quoted rest ≡ length rest = closed t [] h ∙ sym (length-append t (34 ∷ [])) in
    let text : take (position_or_len is_quote rest) rest ≡ t = ap (λ k. take k rest) (place_there is_quote t 34 [] (unquoted t h) refl) ∙ take_it t (34 ∷ []) in
    let told : text_of (quoted t) ≡ Some t =
    ap (λ b. if b && is_text (take (position_or_len is_quote rest) rest) then Some (take (position_or_len is_quote rest) rest) else None) (eq-eqb (words.quoted rest) (length rest) end)
    ∙ ap (λ l. if is_text l then Some l else None) text
    ∙ ap (λ b. if b then Some t else None) h in
    ap (λ o. number_or_text (option_map pos o) (text_of (quoted t))) (number_fails rest) ∙ ap (option_map Text) told
