-- Texts of plans of numbers mean what they mean without texts among their values.
use Rattle.std.proofs.Common.{◌≡◌, ◌≢◌, ℕ, List, [], ◌∷◌, length, Bool, true, false, not, ◌&&◌, ◌||◌, nat_lt, nat_le, Option, Some, None, is_some, option_map, ℤ, pos, inl, inr, Result, Ok, Err, if◌then◌else◌, codes, refl, sym, ap, ◌∙◌, subst}
use Rattle.std.specs.Prelude.{◌==◌}
use Rattle.std.specs.List.{list_all, list_any}
use Rattle.std.specs.Char.{is_ascii_digit}
use Rattle.std.specs.Option.{ok_or}
use Rattle.std.specs.Str.{bytes_eq}
use Rattle.std.specs.Result.{MatchResult}
use Rattle.std.proofs.lemmas.Bool.{and_parts, or_cases, both_ways, eqb-true}
use Rattle.std.proofs.lemmas.Slice.Eq.{bytes_eq-Decides}
use Rattle.bottle_values.specs.declared.Value.{Value}
use Rattle.bottle_values.specs.declared.Value.TheVariants.{Number}
use Rattle.bottle_values.specs.declared.version.Version.{Version}
use Rattle.bottle_values.specs.declared.version.Version.TheVariants.{One, Two}
use Rattle.office_map.specs.declared.fault.PlanRule.{PlanRule}
use Rattle.office_map.specs.declared.fault.PlanRule.TheVariants.{Header, Line, Limit}
use Rattle.office_map.specs.declared.fault.PlanRefusal.{PlanRefusal}
use Rattle.office_map.specs.Address.{is_address, address_of_word}
use Rattle.office_map.specs.PlanValue.{PlanValue, office_named, record_named, are_neighbours, records_between, with_office, with_pair, with_record}
use Rattle.office_map.specs.PlanWords.{is_quote, plan_words, plain_plan_words}
use Rattle.office_map.specs.PlanText.{◌>>=◌, ◌>>◌, refuse_if, Declaration, AnOffice, APair, ARecord, is_address_taken, and_then, office_of, pair_of, record_of, integer_of, number_or_text, value_under, declaration_of, small_number, version_of, with_run, header_of, declare, at_line, empty_plan, read_header, read_line, read_lines, read_statements, plan_of}
use Rattle.office_map.specs.PlanWordLaws.{begins_text, number_fails, fails_there, name_is_no_text, address_is_no_text, number_is_no_text}
use Rattle.office_map.specs.NumberPlans.{number_value, run_of, read_number_header, read_number_line, read_number_lines, read_number_statements, number_plan_of, version_told, NumbersMeanTheSame}
use Rattle.text_lines.specs.Text.{name_of, is_name, is_plain, number_of, decimal, plain_words, words_of, statements}
use Rattle.office_map.proofs.AcceptedPlans.{Has, office_kept, pair_kept, record_kept}
use Rattle.office_map.proofs.PlainWords.{AreAlike, words_alike}

-- ---- a word that begins with " is no keyword, name, address or number

no_keyword : (w k : List ℕ) → begins_text k ≡ false → bytes_eq w k ≡ true → begins_text w ≡ false
no_keyword w k plain e = ap begins_text ((bytes_eq-Decides w k).0 e) ∙ plain

no_version : (w : List ℕ) → is_some (version_of w) ≡ true → begins_text w ≡ false
no_version = fails_there (λ w. is_some (version_of w)) (λ bs. refl)

as_there : {A B : Type 0} (f : A → B) (o : Option A) → is_some (option_map f o) ≡ is_some o
as_there f None = refl
as_there f (Some x) = refl

no_value : (w : List ℕ) → is_some (number_value w) ≡ true → begins_text w ≡ false
no_value = fails_there (λ w. is_some (number_value w)) (λ bs. as_there Number (integer_of (34 ∷ bs)) ∙ as_there pos (number_of (34 ∷ bs)) ∙ ap is_some (number_fails bs))

-- ---- so words of which one begins with " declare nothing, and are no header

if_some : {A : Type 0} (t : Bool) (o : Option A) → is_some (if t then o else None) ≡ true → (t ≡ true) × (is_some o ≡ true)
if_some true o e = (refl, e)
if_some false o e = absurd cc

office_some : (name address : Option (List ℕ)) → is_some (office_of name address) ≡ true → (is_some name ≡ true) × (is_some address ≡ true)
office_some None address e = absurd cc
office_some (Some n) None e = absurd cc
office_some (Some n) (Some a) e = (refl, refl)

pair_some : (a b : Option (List ℕ)) (at_first : Bool) → is_some (pair_of a b at_first) ≡ true → (is_some a ≡ true) × (is_some b ≡ true)
pair_some None b at_first e = absurd cc
pair_some (Some a) None at_first e = absurd cc
pair_some (Some a) (Some b) at_first e = (refl, refl)

record_some : (name a b : Option (List ℕ)) (value : Option Value) (at_first : Bool) → is_some (record_of name a b value at_first) ≡ true
    → (is_some name ≡ true) × (is_some a ≡ true) × (is_some b ≡ true) × (is_some value ≡ true)
record_some None a b value at_first e = absurd cc
record_some (Some n) None b value at_first e = absurd cc
record_some (Some n) (Some a) None value at_first e = absurd cc
record_some (Some n) (Some a) (Some b) None at_first e = absurd cc
record_some (Some n) (Some a) (Some b) (Some v) at_first e = (refl, refl, refl, refl)

no_end : (end a b : List ℕ) → begins_text a ≡ false → begins_text b ≡ false → (bytes_eq end a || bytes_eq end b) ≡ true → begins_text end ≡ false
no_end end a b h k e = elim (or_cases (bytes_eq end a) (bytes_eq end b) e) [
  | inl s ↦ no_keyword end a h s
  | inr s ↦ no_keyword end b k s
]

and_no : (w : List ℕ) (ws : List (List ℕ)) → begins_text w ≡ false → list_any begins_text ws ≡ false → list_any begins_text (w ∷ ws) ≡ false
and_no w ws e h = ap (λ b. b || list_any begins_text ws) e ∙ h

office_plain : (k n a : List ℕ) → is_some (declaration_of number_value (k ∷ n ∷ a ∷ [])) ≡ true → list_any begins_text (k ∷ n ∷ a ∷ []) ≡ false
office_plain k n a e =
    let parts = if_some (bytes_eq k (codes "office")) (office_of (name_of n) (address_of_word a)) e in
    let words = office_some (name_of n) (address_of_word a) parts.1 in
    and_no k (n ∷ a ∷ []) (no_keyword k (codes "office") refl parts.0) (and_no n (a ∷ []) (name_is_no_text n words.0) (and_no a [] (address_is_no_text a words.1) refl))

pair_plain : (k a b fork end : List ℕ) → is_some (declaration_of number_value (k ∷ a ∷ b ∷ fork ∷ end ∷ [])) ≡ true → list_any begins_text (k ∷ a ∷ b ∷ fork ∷ end ∷ []) ≡ false
pair_plain k a b fork end e =
    let parts = if_some ((bytes_eq k (codes "pair") && bytes_eq fork (codes "fork")) && (bytes_eq end a || bytes_eq end b)) (pair_of (name_of a) (name_of b) (bytes_eq end a)) e in
    let tests = and_parts (bytes_eq k (codes "pair") && bytes_eq fork (codes "fork")) (bytes_eq end a || bytes_eq end b) parts.0 in
    let keys = and_parts (bytes_eq k (codes "pair")) (bytes_eq fork (codes "fork")) tests.0 in
    let words = pair_some (name_of a) (name_of b) (bytes_eq end a) parts.1 in
    let one = name_is_no_text a words.0 in
    let two = name_is_no_text b words.1 in
    and_no k (a ∷ b ∷ fork ∷ end ∷ []) (no_keyword k (codes "pair") refl keys.0)
    (and_no a (b ∷ fork ∷ end ∷ []) one
    (and_no b (fork ∷ end ∷ []) two
    (and_no fork (end ∷ []) (no_keyword fork (codes "fork") refl keys.1) (and_no end [] (no_end end a b one two tests.1) refl))))

record_plain : (k n a b v at end : List ℕ) → is_some (declaration_of number_value (k ∷ n ∷ a ∷ b ∷ v ∷ at ∷ end ∷ [])) ≡ true → list_any begins_text (k ∷ n ∷ a ∷ b ∷ v ∷ at ∷ end ∷ []) ≡ false
record_plain k n a b v at end e =
    let parts = if_some ((bytes_eq k (codes "record") && bytes_eq at (codes "at")) && (bytes_eq end a || bytes_eq end b)) (record_of (name_of n) (name_of a) (name_of b) (number_value v) (bytes_eq end a)) e in
    let tests = and_parts (bytes_eq k (codes "record") && bytes_eq at (codes "at")) (bytes_eq end a || bytes_eq end b) parts.0 in
    let keys = and_parts (bytes_eq k (codes "record")) (bytes_eq at (codes "at")) tests.0 in
    let words = record_some (name_of n) (name_of a) (name_of b) (number_value v) (bytes_eq end a) parts.1 in
    let one = name_is_no_text a words.1 in
    let two = name_is_no_text b words.2 in
    and_no k (n ∷ a ∷ b ∷ v ∷ at ∷ end ∷ []) (no_keyword k (codes "record") refl keys.0)
    (and_no n (a ∷ b ∷ v ∷ at ∷ end ∷ []) (name_is_no_text n words.0)
    (and_no a (b ∷ v ∷ at ∷ end ∷ []) one
    (and_no b (v ∷ at ∷ end ∷ []) two
    (and_no v (at ∷ end ∷ []) (no_value v words.3)
    (and_no at (end ∷ []) (no_keyword at (codes "at") refl keys.1) (and_no end [] (no_end end a b one two tests.1) refl))))))

declares_plain : (ws : List (List ℕ)) → is_some (declaration_of number_value ws) ≡ true → list_any begins_text ws ≡ false
declares_plain [] e = absurd cc
declares_plain (a ∷ []) e = absurd cc
declares_plain (a ∷ b ∷ []) e = absurd cc
declares_plain (k ∷ n ∷ a ∷ []) e = office_plain k n a e
declares_plain (a ∷ b ∷ c ∷ d ∷ []) e = absurd cc
declares_plain (k ∷ a ∷ b ∷ fork ∷ end ∷ []) e = pair_plain k a b fork end e
declares_plain (a ∷ b ∷ c ∷ d ∷ e ∷ f ∷ []) h = absurd cc
declares_plain (k ∷ n ∷ a ∷ b ∷ v ∷ at ∷ end ∷ []) e = record_plain k n a b v at end e
declares_plain (a ∷ b ∷ c ∷ d ∷ e ∷ f ∷ g ∷ h ∷ more) i = absurd cc

small_some : (o : Option ℕ) → is_some (small_number o) ≡ true → is_some o ≡ true
small_some None e = e
small_some (Some n) e = refl

with_some : (version : Option Version) (run : Option ℕ) → is_some (with_run version run) ≡ true → (is_some version ≡ true) × (is_some run ≡ true)
with_some None run e = absurd cc
with_some (Some v) None e = absurd cc
with_some (Some v) (Some n) e = (refl, refl)

header_plain : (ws : List (List ℕ)) → is_some (header_of ws) ≡ true → list_any begins_text ws ≡ false
header_plain [] e = absurd cc
header_plain (a ∷ []) e = absurd cc
header_plain (a ∷ b ∷ []) e = absurd cc
header_plain (a ∷ b ∷ c ∷ []) e = absurd cc
header_plain (plan ∷ v ∷ run ∷ n ∷ []) e =
    let parts = if_some (bytes_eq plan (codes "plan") && bytes_eq run (codes "run")) (with_run (version_of v) (small_number (number_of n))) e in
    let keys = and_parts (bytes_eq plan (codes "plan")) (bytes_eq run (codes "run")) parts.0 in
    let words = with_some (version_of v) (small_number (number_of n)) parts.1 in
    and_no plan (v ∷ run ∷ n ∷ []) (no_keyword plan (codes "plan") refl keys.0)
    (and_no v (run ∷ n ∷ []) (no_version v words.0)
    (and_no run (n ∷ []) (no_keyword run (codes "run") refl keys.1) (and_no n [] (number_is_no_text n (small_some (number_of n) words.1)) refl)))
header_plain (a ∷ b ∷ c ∷ d ∷ f ∷ more) e = absurd cc

run_plain : (ws : List (List ℕ)) → is_some (run_of ws) ≡ true → list_any begins_text ws ≡ false
run_plain [] e = absurd cc
run_plain (a ∷ []) e = absurd cc
run_plain (a ∷ b ∷ []) e = absurd cc
run_plain (a ∷ b ∷ c ∷ []) e = absurd cc
run_plain (plan ∷ one ∷ run ∷ n ∷ []) e =
    let parts = if_some ((bytes_eq plan (codes "plan") && bytes_eq one (codes "1")) && bytes_eq run (codes "run")) (small_number (number_of n)) e in
    let tests = and_parts (bytes_eq plan (codes "plan") && bytes_eq one (codes "1")) (bytes_eq run (codes "run")) parts.0 in
    let keys = and_parts (bytes_eq plan (codes "plan")) (bytes_eq one (codes "1")) tests.0 in
    and_no plan (one ∷ run ∷ n ∷ []) (no_keyword plan (codes "plan") refl keys.0)
    (and_no one (run ∷ n ∷ []) (no_keyword one (codes "1") refl keys.1)
    (and_no run (n ∷ []) (no_keyword run (codes "run") refl tests.1) (and_no n [] (number_is_no_text n (small_some (number_of n) parts.1)) refl)))
run_plain (a ∷ b ∷ c ∷ d ∷ f ∷ more) e = absurd cc

nothing : {A : Type 0} (f : List (List ℕ) → Option A) → ((ws : List (List ℕ)) → is_some (f ws) ≡ true → list_any begins_text ws ≡ false) → (ws : List (List ℕ)) → list_any begins_text ws ≡ true → f ws ≡ None
nothing f plain ws e = by_answer (f ws) refl
  where
    by_answer : (o : Option _) → f ws ≡ o → o ≡ None
    by_answer None h = refl
    by_answer (Some x) h = absurd (both_ways (list_any begins_text ws) (plain ws (ap is_some h)) e)

-- ---- lines

words_told : (line : List ℕ) (xs ys : List (List ℕ)) → AreAlike xs ys → declaration_of number_value xs ≡ declaration_of number_value ys
words_told line xs ys (inl e) = ap (declaration_of number_value) e
words_told line xs ys (inr h) = nothing (declaration_of number_value) declares_plain xs h.0 ∙ sym (nothing (declaration_of number_value) declares_plain ys h.1)

line_told : (line : List ℕ) → and_then (plain_plan_words line) (declaration_of number_value) ≡ and_then (plain_words line) (declaration_of number_value)
line_told line = by_bytes (list_all is_plain line)
  where
    by_bytes : (t : Bool) → and_then (if t then Some (plan_words line) else None) (declaration_of number_value) ≡ and_then (if t then Some (words_of line) else None) (declaration_of number_value)
    by_bytes true = words_told line (plan_words line) (words_of line) (words_alike line)
    by_bytes false = refl

same_line : (p : PlanValue) (l : ℕ × List ℕ) → p.version ≡ One → read_line p l ≡ read_number_line p l
unfolding read_line
same_line p l e =
    ap (λ v. at_line l.0 (ok_or (and_then (plain_plan_words l.1) (declaration_of (value_under v))) Line >>= declare p)) e
    ∙ ap (λ o. at_line l.0 (ok_or o Line >>= declare p)) (line_told l.1)

-- ---- the first line

abbrev told : Option (Version × ℕ) → Option Version
told = option_map (λ h. h.0)

abbrev of_one : Option ℕ → Option (Version × ℕ)
of_one = option_map (λ n. (One, n))

told_one : (w : List ℕ) → version_of w ≢ Some Two → version_of w ≡ (if bytes_eq w (codes "1") then Some One else None)
told_one w = by_tests (bytes_eq w (codes "1")) (bytes_eq w (codes "2"))
  where
    by_tests : (one two : Bool) → (if one then Some One else if two then Some Two else None) ≢ Some Two → (if one then Some One else if two then Some Two else None) ≡ (if one then Some One else None)
    by_tests true two h = refl
    by_tests false true h = absurd (h refl)
    by_tests false false h = refl

header_words : (plan v run n : List ℕ) → told (header_of (plan ∷ v ∷ run ∷ n ∷ [])) ≢ Some Two → header_of (plan ∷ v ∷ run ∷ n ∷ []) ≡ of_one (run_of (plan ∷ v ∷ run ∷ n ∷ []))
header_words plan v run n = by_tests (bytes_eq plan (codes "plan")) (bytes_eq run (codes "run")) (small_number (number_of n))
  where
    one : Bool
    one = bytes_eq v (codes "1")

    of_version : (o : Option Version) (m : ℕ) → told (with_run o (Some m)) ≡ o
    of_version None m = refl
    of_version (Some x) m = refl

    no_run : (o : Option Version) → with_run o None ≡ None
    no_run None = refl
    no_run (Some x) = refl

    by_one : (t : Bool) (m : ℕ) → with_run (if t then Some One else None) (Some m) ≡ of_one (if (true && t) && true then Some m else None)
    by_one true m = refl
    by_one false m = refl

    without : (t : Bool) → None ≡ of_one (if (true && t) && true then None else None)
    without true = refl
    without false = refl

    not_run : (t : Bool) (r : Option ℕ) → None ≡ of_one (if (true && t) && false then r else None)
    not_run true r = refl
    not_run false r = refl

    by_tests : (p r : Bool) (m : Option ℕ) → told (if p && r then with_run (version_of v) m else None) ≢ Some Two
        → (if p && r then with_run (version_of v) m else None) ≡ of_one (if (p && one) && r then m else None)
    by_tests false r m h = refl
    by_tests true false m h = not_run one m
    by_tests true true None h = no_run (version_of v) ∙ without one
    by_tests true true (Some m) h =
        ap (λ o. with_run o (Some m)) (told_one v (λ e. h (of_version (version_of v) m ∙ e))) ∙ by_one one m

words_head : (ws : List (List ℕ)) → told (header_of ws) ≢ Some Two → header_of ws ≡ of_one (run_of ws)
words_head [] h = refl
words_head (a ∷ []) h = refl
words_head (a ∷ b ∷ []) h = refl
words_head (a ∷ b ∷ c ∷ []) h = refl
words_head (plan ∷ v ∷ run ∷ n ∷ []) h = header_words plan v run n h
words_head (a ∷ b ∷ c ∷ d ∷ e ∷ more) h = refl

alike_head : (xs ys : List (List ℕ)) → AreAlike xs ys → told (header_of xs) ≢ Some Two → header_of xs ≡ of_one (run_of ys)
alike_head xs ys (inl e) h = words_head xs h ∙ ap (λ ws. of_one (run_of ws)) e
alike_head xs ys (inr k) h = nothing header_of header_plain xs k.0 ∙ ap of_one (sym (nothing run_of run_plain ys k.1))

line_head : (line : List ℕ) → told (and_then (plain_plan_words line) header_of) ≢ Some Two → and_then (plain_plan_words line) header_of ≡ of_one (and_then (plain_words line) run_of)
line_head line = by_bytes (list_all is_plain line)
  where
    by_bytes : (t : Bool) → told (and_then (if t then Some (plan_words line) else None) header_of) ≢ Some Two
        → and_then (if t then Some (plan_words line) else None) header_of ≡ of_one (and_then (if t then Some (words_of line) else None) run_of)
    by_bytes true h = alike_head (plan_words line) (words_of line) (words_alike line) h
    by_bytes false h = refl

same_header : (l : ℕ × List ℕ) → told (and_then (plain_plan_words l.1) header_of) ≢ Some Two → read_header l ≡ read_number_header l
unfolding read_header
same_header l h =
    ap (λ o. at_line l.0 (ok_or o Header >>= λ x. Ok (empty_plan x.0 x.1))) (line_head l.1 h)
    ∙ by_run (and_then (plain_words l.1) run_of)
  where
    by_run : (o : Option ℕ) → at_line l.0 (ok_or (of_one o) Header >>= λ x. Ok (empty_plan x.0 x.1)) ≡ at_line l.0 (ok_or o Header >>= λ n. Ok (empty_plan One n))
    by_run None = refl
    by_run (Some n) = refl

-- ---- all lines, which keep the version

abbrev IsOfOne : PlanValue → Type 0
IsOfOne p = p.version ≡ One

declare_keeps : (p : PlanValue) (d : Declaration) → IsOfOne p → Has IsOfOne (declare p d)
declare_keeps p (AnOffice name address) e =
    office_kept IsOfOne (with_office p (record { name = name; address = address })) (is_some (office_named p name)) (is_address_taken p address) (nat_le 16 (length p.offices)) (λ f g h. e)
declare_keeps p (APair a b at_first) e =
    pair_kept IsOfOne (office_named p a) (office_named p b) (λ x y. x == y) (λ x y. are_neighbours p x y) (λ x y. with_pair p (record { first = x; second = y; fork_at_first = at_first })) (λ x y f g h i. e)
declare_keeps p (ARecord name a b value at_first) e =
    record_kept IsOfOne (office_named p a) (office_named p b) (λ x y. not (are_neighbours p x y)) (is_some (record_named p name)) (λ x y. nat_le 8 (records_between p x y))
    (λ x y. with_record p (record { name = name; first = x; second = y; value = value; starts_at_first = at_first })) (λ x y f g h. e)

abbrev IsReadOfOne : Result PlanValue PlanRefusal → Type 0
IsReadOfOne r = MatchResult r IsOfOne (λ _. Unit {0})

at_its_line : (n : ℕ) (r : Result PlanValue PlanRule) → Has IsOfOne r → IsReadOfOne (at_line n r)
at_its_line n (Ok q) e = e
at_its_line n (Err rule) e = tt

line_keeps : (p : PlanValue) (n : ℕ) (o : Option Declaration) → IsOfOne p → IsReadOfOne (at_line n (ok_or o Line >>= declare p))
line_keeps p n None e = tt
line_keeps p n (Some d) e = at_its_line n (declare p d) (declare_keeps p d e)

header_keeps : (n : ℕ) (o : Option ℕ) → IsReadOfOne (at_line n (ok_or o Header >>= λ m. Ok (empty_plan One m)))
header_keeps n None = tt
header_keeps n (Some m) = refl

same_after : (r : Result PlanValue PlanRefusal) (ls : List (ℕ × List ℕ)) → IsReadOfOne r → ((q : PlanValue) → IsOfOne q → read_lines q ls ≡ read_number_lines q ls) → (r >>= λ q. read_lines q ls) ≡ (r >>= λ q. read_number_lines q ls)
same_after (Ok q) ls e others = others q e
same_after (Err f) ls e others = refl

same_lines : (ls : List (ℕ × List ℕ)) (p : PlanValue) → IsOfOne p → read_lines p ls ≡ read_number_lines p ls
same_lines [] p e = refl
same_lines (l ∷ ls) p e =
    ap (λ r. r >>= λ q. read_lines q ls) (same_line p l e)
    ∙ same_after (read_number_line p l) ls (line_keeps p l.0 (and_then (plain_words l.1) (declaration_of number_value)) e) (same_lines ls)

same_statements : (ls : List (ℕ × List ℕ)) → version_told ls ≢ Some Two → read_statements ls ≡ read_number_statements ls
same_statements [] h = refl
same_statements (l ∷ ls) h =
    ap (λ r. r >>= λ q. read_lines q ls) (same_header l h)
    ∙ same_after (read_number_header l) ls (header_keeps l.0 (and_then (plain_words l.1) run_of)) (same_lines ls)

pub numbers_mean_the_same : NumbersMeanTheSame
unfolding plan_of
numbers_mean_the_same text h =
    ap (λ r. refuse_if (nat_lt 262144 (length text)) (record { rule = Limit; line = 0 }) >> (r >>= λ p. refuse_if (nat_lt (length p.offices) 2) (record { rule = Limit; line = 0 }) >> Ok p)) (same_statements (statements text) h)
