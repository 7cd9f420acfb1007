-- The parts of a line of JSON, each of which tells what it is of.
use Rattle.std.proofs.Common.{◌≡◌, ◌<◌, ◌^◌, ◌+◌, ◌%◌, ◌≤◌, ◌==◌, ℕ, suc, List, [], ◌∷◌, ◌++◌, length, drop, get_or, Bool, true, false, nat_lt, ◌&&◌, ◌||◌, All, refl, sym, ap, ap₂, ◌∙◌, append_assoc, arith}
use Rattle.std.specs.Prelude.{ℤ, pos, negsuc, nat_le, if◌then◌else◌}
use Rattle.std.proofs.Math.Seq.{drop-append_seam}
use Rattle.std.specs.List.{flat_map, list_all}
use Rattle.std.specs.Char.{is_ascii_digit}
use Rattle.std.specs.Fmt.{decimal, signed_decimal}
use Rattle.std.proofs.lemmas.Bool.{and_parts, both_ways}
use Rattle.std.proofs.lemmas.Bool.Decides.{nat_tests}
use Rattle.std.proofs.lemmas.Fmt.{decimal_by_steps, decimal_injective, decimal_nonempty}
use Rattle.std.proofs.lemmas.List.Folds.{list_all-append}
use Rattle.bottle_values.specs.declared.Value.{Value}
use Rattle.bottle_values.specs.declared.Value.TheVariants.{Number, Text}
use Rattle.bottle_values.specs.Operations.{is_i64, is_value}
use Rattle.bottle_values.specs.Texts.{is_text, is_text_byte, longest_text}
use Rattle.bottle_values.specs.ListLaws.{all_weaker}
use Rattle.text_lines.specs.Text.{is_name_byte}
use Rattle.office_map.specs.PlanValue.{PlanValue}
use Rattle.office_map.specs.Consistency.{IsConsistent}
use Rattle.session_meaning.specs.declared.ending.End.{End}
use Rattle.session_meaning.specs.declared.ending.End.TheVariants.{Done, Refused, Overflow, Mismatch}
use Rattle.session_reports.specs.Names.{record_name}
use Rattle.session_reports.specs.json.Json.{escaped, quoted, key, joined, json_value, json_end, json_member, json_object, json_array}
use Rattle.session_reports.specs.json.JsonLaws.{IsEnd, IsRecord}
use Rattle.session_reports.proofs.json_lemmas.Cutting.{Begins, begins, Stops, Tells, cut_once, joined_told}
use Rattle.session_reports.proofs.json_lemmas.Names.{one_record, record_bytes}

-- ---- numbers

digit_is : (k : ℕ) → k < 10 → is_ascii_digit (48 + k) ≡ true
digit_is k h = grind (arith, nat_tests)

one_digit : (n : ℕ) → n < 10 → list_all is_ascii_digit ((48 + n) ∷ []) ≡ true
one_digit n h = ap (λ b. b && true) (digit_is n h)

one_more : (n : ℕ) (ds : List ℕ) → 10 ≤ n → list_all is_ascii_digit ds ≡ true → list_all is_ascii_digit (ds ++ (48 + n % 10) ∷ []) ≡ true
one_more n ds h d = list_all-append is_ascii_digit ds ((48 + n % 10) ∷ []) ∙ ap (λ b. b && list_all is_ascii_digit ((48 + n % 10) ∷ [])) d ∙ one_digit (n % 10) (omega arith)

digits : (n : ℕ) → n < 2 ^ 64 → list_all is_ascii_digit (decimal n) ≡ true
digits = decimal_by_steps (λ n ds. list_all is_ascii_digit ds ≡ true) one_digit one_more

pub decimal_told : Tells decimal (λ n. n < 2 ^ 64) (Stops is_ascii_digit)
decimal_told n m s t a b p q e = let same = cut_once is_ascii_digit (decimal n) (decimal m) s t (digits n a) (digits m b) p q e in (decimal_injective n m a b same.front, same.back)

-- ---- values

abbrev pub is_number_byte : ℕ → Bool
is_number_byte b = is_ascii_digit b || b == 45

digit_of_number : (b : ℕ) → is_ascii_digit b ≡ true → is_number_byte b ≡ true
digit_of_number b h = ap (λ d. d || b == 45) h

positive : (n : ℕ) → is_i64 (pos n) ≡ true → n < 2 ^ 64
positive n h = let low : nat_lt n (2 ^ 63) ≡ true = h in grind (low, arith, nat_tests)

negative : (n : ℕ) → is_i64 (negsuc n) ≡ true → suc n < 2 ^ 64
negative n h = let low : nat_lt n (2 ^ 63) ≡ true = h in grind (low, arith, nat_tests)

number_bytes : (z : ℤ) → is_i64 z ≡ true → list_all is_number_byte (signed_decimal z) ≡ true
number_bytes (pos n) h = all_weaker is_ascii_digit is_number_byte digit_of_number (decimal n) (digits n (positive n h))
number_bytes (negsuc n) h = all_weaker is_ascii_digit is_number_byte digit_of_number (decimal (suc n)) (digits (suc n) (negative n h))

-- there is one at least
number_some : (z : ℤ) → is_i64 z ≡ true → 0 < length (signed_decimal z)
number_some (pos n) h = decimal_nonempty n (positive n h)
number_some (negsuc n) h = omega arith

-- and it is no other byte
no_other : (z : ℤ) (c : ℕ) (s : List ℕ) → is_i64 z ≡ true → is_number_byte c ≡ false → Begins c (signed_decimal z ++ s) → ⊥
no_other z c s h other = by_bytes (signed_decimal z) (number_bytes z h) (number_some z h)
  where
    by_bytes : (ds : List ℕ) → list_all is_number_byte ds ≡ true → 0 < length ds → Begins c (ds ++ s) → ⊥
    by_bytes [] all some e = absurd (omega (arith, some))
    by_bytes (b ∷ ds) all some e = both_ways (is_number_byte c) other (ap is_number_byte (sym e) ∙ (and_parts (is_number_byte b) (list_all is_number_byte ds) all).0)

-- digits don't begin with a sign
no_sign : (n : ℕ) (ds : List ℕ) → n < 2 ^ 64 → decimal n ≡ 45 ∷ ds → ⊥
no_sign n ds h e = let all : list_all is_ascii_digit (45 ∷ ds) ≡ true = ap (list_all is_ascii_digit) (sym e) ∙ digits n h in absurd (both_ways (list_all is_ascii_digit (45 ∷ ds)) refl all)

one_number : (y z : ℤ) → is_i64 y ≡ true → is_i64 z ≡ true → signed_decimal y ≡ signed_decimal z → y ≡ z
one_number (pos n) (pos m) a b e = ap pos (decimal_injective n m (positive n a) (positive m b) e)
one_number (pos n) (negsuc m) a b e = absurd (no_sign n (decimal (suc m)) (positive n a) e)
one_number (negsuc n) (pos m) a b e = absurd (no_sign m (decimal (suc n)) (positive m b) (sym e))
one_number (negsuc n) (negsuc m) a b e =
    let same : suc n ≡ suc m = decimal_injective (suc n) (suc m) (negative n a) (negative m b) (ap (drop 1) e) in
    let one : n ≡ m = omega (arith, same) in
    ap negsuc one

then_quote : (name s : List ℕ) → quoted name ++ s ≡ 34 ∷ (name ++ 34 ∷ s)
then_quote name s = ap (λ (t : List ℕ). 34 ∷ t) (append_assoc name (34 ∷ []) s)

-- ---- texts

-- what stands behind a byte of a string
abbrev second : ℕ → List ℕ
second b = if b == 92 then 92 ∷ [] else []

no_quote : (b : ℕ) → is_text_byte b ≡ true → b ≡ 34 → ⊥
no_quote b h e = both_ways (is_text_byte 34) refl (ap is_text_byte (sym e) ∙ h)

escaped_told : (xs ys s t : List ℕ) → list_all is_text_byte xs ≡ true → list_all is_text_byte ys ≡ true
    → flat_map escaped xs ++ 34 ∷ s ≡ flat_map escaped ys ++ 34 ∷ t → (xs ≡ ys) × (s ≡ t)
escaped_told [] [] s t a b e = (refl, ap (drop 1) e)
escaped_told [] (y ∷ ys) s t a b e =
    let same : ◌≡◌ {A = ℕ} 34 y = ap (λ (u : List ℕ). get_or u 0 0) e in
    absurd (no_quote y (and_parts (is_text_byte y) (list_all is_text_byte ys) b).0 (sym same))
escaped_told (x ∷ xs) [] s t a b e =
    let same : ◌≡◌ {A = ℕ} x 34 = ap (λ (u : List ℕ). get_or u 0 0) e in
    absurd (no_quote x (and_parts (is_text_byte x) (list_all is_text_byte xs) a).0 same)
escaped_told (x ∷ xs) (y ∷ ys) s t a b e =
    let here : x ≡ y = ap (λ (u : List ℕ). get_or u 0 0) e in
    let behind : (second x ++ flat_map escaped xs) ++ 34 ∷ s ≡ (second y ++ flat_map escaped ys) ++ 34 ∷ t = ap (drop 1) e in
    let level : second x ++ (flat_map escaped xs ++ 34 ∷ s) ≡ second x ++ (flat_map escaped ys ++ 34 ∷ t) =
    sym (append_assoc (second x) (flat_map escaped xs) (34 ∷ s)) ∙ behind ∙ append_assoc (second y) (flat_map escaped ys) (34 ∷ t)
    ∙ ap (λ (z : ℕ). second z ++ (flat_map escaped ys ++ 34 ∷ t)) (sym here) in
    let rest : flat_map escaped xs ++ 34 ∷ s ≡ flat_map escaped ys ++ 34 ∷ t =
    sym (drop-append_seam (second x) (flat_map escaped xs ++ 34 ∷ s)) ∙ ap (drop (length (second x))) level
    ∙ drop-append_seam (second x) (flat_map escaped ys ++ 34 ∷ t) in
    let more = escaped_told xs ys s t (and_parts (is_text_byte x) (list_all is_text_byte xs) a).1 (and_parts (is_text_byte y) (list_all is_text_byte ys) b).1 rest in
    (ap₂ (λ (z : ℕ) (zs : List ℕ). z ∷ zs) here more.0, more.1)

text_bytes : (t : List ℕ) → is_text t ≡ true → list_all is_text_byte t ≡ true
text_bytes t h = (and_parts (nat_le (length t) longest_text) (list_all is_text_byte t) h).1

text_told : (x y s t : List ℕ) → is_text x ≡ true → is_text y ≡ true → quoted (flat_map escaped x) ++ s ≡ quoted (flat_map escaped y) ++ t → (x ≡ y) × (s ≡ t)
text_told x y s t a b e =
    escaped_told x y s t (text_bytes x a) (text_bytes y b) (ap (drop 1) (sym (then_quote (flat_map escaped x) s) ∙ e ∙ then_quote (flat_map escaped y) t))

-- ---- either

pub value_told : Tells json_value (λ v. is_value v ≡ true) (Stops is_number_byte)
value_told (Number y) (Number z) s t a b p q e =
    let same = cut_once is_number_byte (signed_decimal y) (signed_decimal z) s t (number_bytes y a) (number_bytes z b) p q e in
    (ap Number (one_number y z a b same.front), same.back)
value_told (Number y) (Text v) s t a b p q e = absurd (no_other y 34 s a refl (begins 34 (signed_decimal y ++ s) ((flat_map escaped v ++ 34 ∷ []) ++ t) e))
value_told (Text u) (Number z) s t a b p q e = absurd (no_other z 34 t b refl (begins 34 (signed_decimal z ++ t) ((flat_map escaped u ++ 34 ∷ []) ++ s) (sym e)))
value_told (Text u) (Text v) s t a b p q e = let same = text_told u v s t a b e in (ap Text same.0, same.1)

-- ---- names

abbrev IsName : List ℕ → Type 0
IsName w = list_all is_name_byte w ≡ true

pub quoted_told : (x y s t : List ℕ) → list_all is_name_byte x ≡ true → list_all is_name_byte y ≡ true → quoted x ++ s ≡ quoted y ++ t → (x ≡ y) × (s ≡ t)
quoted_told x y s t a b e =
    let within = ap (drop 1) (sym (then_quote x s) ∙ e ∙ then_quote y t) in
    let same = cut_once is_name_byte x y (34 ∷ s) (34 ∷ t) a b refl refl within in
    (same.front, ap (drop 1) same.back)

then_key : (name s : List ℕ) → key name ++ s ≡ 34 ∷ (name ++ 34 ∷ 58 ∷ s)
then_key name s = ap (λ (t : List ℕ). 34 ∷ t) (append_assoc name (34 ∷ 58 ∷ []) s)

key_told : (x y s t : List ℕ) → list_all is_name_byte x ≡ true → list_all is_name_byte y ≡ true → key x ++ s ≡ key y ++ t → (x ≡ y) × (s ≡ t)
key_told x y s t a b e =
    let within = ap (drop 1) (sym (then_key x s) ∙ e ∙ then_key y t) in
    let same = cut_once is_name_byte x y (34 ∷ 58 ∷ s) (34 ∷ 58 ∷ t) a b refl refl within in
    (same.front, ap (drop 2) same.back)

-- ---- records

member_told : (p : PlanValue) → IsConsistent p → Tells (json_member p) (IsRecord p) (Stops is_number_byte)
member_told p c v w s t a b k l e =
    let names = key_told (record_name p v.0) (record_name p w.0) (json_value v.1 ++ s) (json_value w.1 ++ t) (record_bytes p v.0 c a.0) (record_bytes p w.0 c b.0)
    (sym (append_assoc (key (record_name p v.0)) (json_value v.1) s) ∙ e ∙ append_assoc (key (record_name p w.0)) (json_value w.1) t) in
    let values = value_told v.1 w.1 s t a.1 b.1 k l names.1 in
    (ap₂ (λ (r : ℕ) (u : Value). (r, u)) (one_record p v.0 w.0 c a.0 b.0 names.0) values.0, values.1)

-- a member doesn't begin with a brace, nor a value with a bracket
no_brace : (p : PlanValue) (w : ℕ × Value) (s : List ℕ) → IsRecord p w → Begins 125 (json_member p w ++ s) → ⊥
no_brace p w s ok e = absurd (omega (arith, e))

no_bracket : (v : Value) (s : List ℕ) → is_value v ≡ true → Begins 93 (json_value v ++ s) → ⊥
no_bracket (Number z) s ok e = no_other z 93 s ok refl e
no_bracket (Text t) s ok e = absurd (omega (arith, e))

pub object_told : (p : PlanValue) → IsConsistent p → (xs ys : List (ℕ × Value)) (s t : List ℕ) → All (IsRecord p) xs → All (IsRecord p) ys → json_object p xs ++ s ≡ json_object p ys ++ t → (xs ≡ ys) × (s ≡ t)
object_told p c xs ys s t a b e =
    joined_told (json_member p) (IsRecord p) (Stops is_number_byte) 125 (member_told p c) (λ u. refl) (λ u. refl) (λ k. omega (arith, k)) (no_brace p) xs ys s t a b
    (sym (append_assoc (joined (json_member p) xs) (125 ∷ []) s) ∙ ap (drop 1) e ∙ append_assoc (joined (json_member p) ys) (125 ∷ []) t)

pub array_told : (xs ys : List Value) (s t : List ℕ) → All (λ v. is_value v ≡ true) xs → All (λ v. is_value v ≡ true) ys → json_array xs ++ s ≡ json_array ys ++ t → (xs ≡ ys) × (s ≡ t)
array_told xs ys s t a b e =
    joined_told json_value (λ v. is_value v ≡ true) (Stops is_number_byte) 93 value_told (λ u. refl) (λ u. refl) (λ k. omega (arith, k)) no_bracket xs ys s t a b
    (sym (append_assoc (joined json_value xs) (93 ∷ []) s) ∙ ap (drop 1) e ∙ append_assoc (joined json_value ys) (93 ∷ []) t)

-- ---- ends

refused_told : (c d : ℕ) (s t : List ℕ) → c < 2 ^ 16 → d < 2 ^ 16 → json_end (Refused c) ++ s ≡ json_end (Refused d) ++ t → (c ≡ d) × (s ≡ t)
refused_told c d s t a b e =
    let same = decimal_told c d (125 ∷ s) (125 ∷ t) (omega (arith, a)) (omega (arith, b)) refl refl (sym (append_assoc (decimal c) (125 ∷ []) s) ∙ ap (drop 11) e ∙ append_assoc (decimal d) (125 ∷ []) t) in
    (same.0, ap (drop 1) same.1)

-- they differ in their first bytes
pub end_told : (x y : End) (s t : List ℕ) → IsEnd x → IsEnd y → json_end x ++ s ≡ json_end y ++ t → (x ≡ y) × (s ≡ t)
end_told Done Done s t a b e = (refl, ap (drop 6) e)
end_told Done (Refused d) s t a b e = let k : ◌≡◌ {A = ℕ} 34 123 = ap (λ (u : List ℕ). get_or u 0 0) e in absurd (omega (arith, k))
end_told Done Overflow s t a b e = let k : ◌≡◌ {A = ℕ} 100 111 = ap (λ (u : List ℕ). get_or u 1 0) e in absurd (omega (arith, k))
end_told Done Mismatch s t a b e = let k : ◌≡◌ {A = ℕ} 100 109 = ap (λ (u : List ℕ). get_or u 1 0) e in absurd (omega (arith, k))
end_told (Refused c) Done s t a b e = let k : ◌≡◌ {A = ℕ} 123 34 = ap (λ (u : List ℕ). get_or u 0 0) e in absurd (omega (arith, k))
end_told (Refused c) (Refused d) s t a b e = let same = refused_told c d s t a b e in (ap Refused same.0, same.1)
end_told (Refused c) Overflow s t a b e = let k : ◌≡◌ {A = ℕ} 123 34 = ap (λ (u : List ℕ). get_or u 0 0) e in absurd (omega (arith, k))
end_told (Refused c) Mismatch s t a b e = let k : ◌≡◌ {A = ℕ} 123 34 = ap (λ (u : List ℕ). get_or u 0 0) e in absurd (omega (arith, k))
end_told Overflow Done s t a b e = let k : ◌≡◌ {A = ℕ} 111 100 = ap (λ (u : List ℕ). get_or u 1 0) e in absurd (omega (arith, k))
end_told Overflow (Refused d) s t a b e = let k : ◌≡◌ {A = ℕ} 34 123 = ap (λ (u : List ℕ). get_or u 0 0) e in absurd (omega (arith, k))
end_told Overflow Overflow s t a b e = (refl, ap (drop 10) e)
end_told Overflow Mismatch s t a b e = let k : ◌≡◌ {A = ℕ} 111 109 = ap (λ (u : List ℕ). get_or u 1 0) e in absurd (omega (arith, k))
end_told Mismatch Done s t a b e = let k : ◌≡◌ {A = ℕ} 109 100 = ap (λ (u : List ℕ). get_or u 1 0) e in absurd (omega (arith, k))
end_told Mismatch (Refused d) s t a b e = let k : ◌≡◌ {A = ℕ} 34 123 = ap (λ (u : List ℕ). get_or u 0 0) e in absurd (omega (arith, k))
end_told Mismatch Overflow s t a b e = let k : ◌≡◌ {A = ℕ} 109 111 = ap (λ (u : List ℕ). get_or u 1 0) e in absurd (omega (arith, k))
end_told Mismatch Mismatch s t a b e = (refl, ap (drop 10) e)
