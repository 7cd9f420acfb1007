-- What is asked by a text that isn't too long: what its lines ask for.
use Rattle.std.proofs.Common.{◌≡◌, ◌≤◌, ◌<◌, ◌+◌, ◌==◌, ◌⊎◌, inl, inr, ℕ, zero, suc, List, [], ◌∷◌, ◌++◌, length, take, drop, cond, Bool, true, false, not, if◌then◌else◌, refl, sym, ap, ◌∙◌, append_assoc, length-append, length-take, length-drop, take-append-drop, ap₂, All, arith}
use Rattle.std.specs.List.{position_or_len}
use Rattle.std.specs.Str.Lines.{lines_of_parts, strip_carriage_return}
use Rattle.std.proofs.lemmas.Bool.{cases_lt}
use Rattle.std.proofs.lemmas.Bool.Decides.{nat_tests}
use Rattle.std.proofs.lemmas.List.Sums.{fails_before_first}
use Rattle.std.proofs.lemmas.List.Elements.{All-from_get_or, All-head, All-tail}
use Rattle.office_map.specs.PlanValue.{PlanValue}
use Rattle.text_lines.specs.Text.{is_newline, lines, says_something, statements_from}
use Rattle.text_lines.specs.TextLaws.{cut_nowhere, lines_cut}
use Rattle.session_language.specs.Limits.{most_text}
use Rattle.session_streams.specs.declared.requests.asked.Asked.{Asked}
use Rattle.session_streams.specs.requests.Requests.{Asking, quiet, ask, ask_all, given_up}
use Rattle.session_streams.specs.requests.Bytes.{Taking, last_number, next_number, next_line, line_ended, at_end, taken}
use Rattle.session_streams.specs.requests.RequestLaws.{TextsAreAsked}
use Rattle.session_streams.proofs.requests_lemmas.Kept.{IsWithin, with_more, kept, within_before, end_next}
use Rattle.session_streams.proofs.requests_lemmas.Parts.{parts_are_one}

-- ---- lines of a text

short_text : (bytes : List ℕ) → 0 < length bytes → lines_of_parts (bytes ∷ []) ≡ bytes ∷ []
short_text [] h = absurd (omega (arith, h))
short_text (b ∷ bs) h = grind (arith, nat_tests)

-- a text in which no line ends is one line
one_line : (bytes : List ℕ) → 0 < length bytes → length bytes ≤ position_or_len is_newline bytes → lines bytes ≡ bytes ∷ []
one_line bytes some none = ap lines_of_parts (cut_nowhere is_newline bytes none) ∙ short_text bytes some

-- the end of a line comes after it
end_after : (line : List ℕ) → All IsWithin line → position_or_len is_newline (line ++ 10 ∷ []) ≡ length line
end_after [] h = refl
end_after (b ∷ line) h =
    let more = end_after line (All-tail IsWithin b line h) in
    ap (λ x. cond (not x) (1 + position_or_len is_newline (line ++ 10 ∷ [])) 0) (All-head IsWithin b line h) ∙ omega (arith, more)

took : (line after : List ℕ) → take (length line) (line ++ after) ≡ line
took [] after = refl
took (b ∷ line) after = ap (λ (l : List ℕ). b ∷ l) (took line after)

dropped : (line : List ℕ) → drop (suc (length line)) (line ++ 10 ∷ []) ≡ []
dropped [] = refl
dropped (b ∷ line) = dropped line

ended_line : (line : List ℕ) → All IsWithin line → lines (line ++ 10 ∷ []) ≡ strip_carriage_return line ∷ []
ended_line line h =
    let more : length line + 1 ≡ suc (length line) = omega arith in
    lines_cut (line ++ 10 ∷ []) (length line) (strip_carriage_return line) [] (sym (end_after line h)) (omega (arith, length-append line (10 ∷ [])))
    (sym (ap strip_carriage_return (took line (10 ∷ [])))) (sym (ap (λ k. drop k (line ++ 10 ∷ [])) more ∙ dropped line))

-- ---- what lines ask for

abbrev two_asked : PlanValue → ℕ → Asking → List (ℕ × List ℕ) → List (ℕ × List ℕ) → Asking × List Asked
two_asked p me a ls ms = ((ask_all p me (ask_all p me a ls).0 ms).0, (ask_all p me a ls).1 ++ (ask_all p me (ask_all p me a ls).0 ms).1)

asked_on : (p : PlanValue) (me : ℕ) (a : Asking) (ls ms : List (ℕ × List ℕ)) → ask_all p me a (ls ++ ms) ≡ two_asked p me a ls ms
asked_on p me a [] ms = refl
asked_on p me a (l ∷ ls) ms =
    let first = ask p me a l in
    ap (λ (r : Asking × List Asked). (r.0, first.1 ++ r.1)) (asked_on p me first.0 ls ms)
    ∙ ap (λ (xs : List Asked). ((ask_all p me (ask_all p me first.0 ls).0 ms).0, xs)) (sym (append_assoc first.1 (ask_all p me first.0 ls).1 (ask_all p me (ask_all p me first.0 ls).0 ms).1))

-- the first line, and the others
first_said : (n : ℕ) (line : List ℕ) (more : List (List ℕ)) → statements_from n (line ∷ more) ≡ statements_from n (line ∷ []) ++ statements_from (n + 1) more
first_said n line more = by_word (says_something line)
  where
    by_word : (b : Bool) → (if b then (n, line) ∷ statements_from (n + 1) more else statements_from (n + 1) more) ≡ (if b then (n, line) ∷ [] else []) ++ statements_from (n + 1) more
    by_word true = refl
    by_word false = refl

-- ---- a text

-- where a line begins
abbrev starting : Asking → ℕ → Taking
starting a n = record { asking = a; number = n; ahead = []; skips = false }

abbrev told_from : PlanValue → ℕ → Taking × List Asked → List Asked
told_from p me x = x.1 ++ at_end p me x.0

abbrev said_from : PlanValue → ℕ → Asking → ℕ → List (List ℕ) → List Asked
said_from p me a n ls = (ask_all p me a (statements_from n ls)).1 ++ given_up (n + length ls) (ask_all p me a (statements_from n ls)).0

-- no byte
nothing : (p : PlanValue) (me : ℕ) (a : Asking) (n : ℕ) → told_from p me (taken p me (starting a n) []) ≡ said_from p me a n (lines [])
nothing p me a n = let same : n ≡ n + 0 = omega arith in ap (λ m. given_up m a) same

-- a last line without an end
last_said : (p : PlanValue) (me : ℕ) (a : Asking) (n : ℕ) (bytes : List ℕ) → 0 < length bytes → length bytes ≤ most_text → n < last_number → length bytes ≤ position_or_len is_newline bytes
    → told_from p me (taken p me (starting a n) bytes) ≡ said_from p me a n (lines bytes)
last_said p me a n bytes some short low none =
    let t = starting a n in
    let within : All IsWithin bytes = All-from_get_or IsWithin bytes 0 (λ i lt. fails_before_first is_newline bytes i 0 (omega (arith, lt, none))) in
    let asked = ask_all p me a (statements_from n (lines bytes)) in
    let held : taken p me t bytes ≡ (with_more t bytes, []) = kept p me t bytes refl within (omega (arith, short)) in
    let there : (length bytes == 0) ≡ false = grind (some, arith, nat_tests) in
    let next : next_number n ≡ n + 1 = grind (low, arith, nat_tests) in
    let size : length (lines bytes) ≡ 1 = ap length (one_line bytes some none) in
    let place : next_number n ≡ n + length (lines bytes) = omega (arith, next, size) in
    ap (told_from p me) held
    ∙ ap (λ (b : Bool). let x : Taking × List Asked = if b then (with_more t bytes, []) else next_line (with_more t bytes) asked in x.1 ++ given_up x.0.number x.0.asking) there
    ∙ ap (λ m. asked.1 ++ given_up m asked.0) place

-- a line with its end, and what comes after it
module _ (p : PlanValue) (me : ℕ) (a : Asking) (n : ℕ) (line rest : List ℕ) (within : All IsWithin line) (short : length line ≤ most_text) (low : n < last_number) where
  abbrev first : Asking × List Asked
  first = ask_all p me a (statements_from n (strip_carriage_return line ∷ []))

  ended : line_ended p me (with_more (starting a n) line) ≡ (starting first.0 (n + 1), first.1)
  ended =
      let next : next_number n ≡ n + 1 = grind (low, arith, nat_tests) in
      ap (λ (ls : List (List ℕ)). next_line (starting a n) (ask_all p me a (statements_from n ls))) (ended_line line within) ∙ ap (λ m. (starting first.0 m, first.1)) next

  came : taken p me (starting a n) (line ++ 10 ∷ rest) ≡ ((taken p me (starting first.0 (n + 1)) rest).0, first.1 ++ (taken p me (starting first.0 (n + 1)) rest).1)
  came =
      let t = starting a n in
      let one = parts_are_one p me t line (10 ∷ rest) in
      let held : taken p me t line ≡ (with_more t line, []) = kept p me t line refl within (omega (arith, short)) in
      let on : Taking × List Asked → Taking × List Asked = λ (x : Taking × List Asked). ((taken p me x.0 (10 ∷ rest)).0, x.1 ++ (taken p me x.0 (10 ∷ rest)).1) in
      let after : Taking × List Asked → Taking × List Asked = λ (x : Taking × List Asked). ((taken p me x.0 rest).0, x.1 ++ (taken p me x.0 rest).1) in
      ap₂ (λ (u : Taking) (xs : List Asked). (u, xs)) one.stands one.asked ∙ ap on held ∙ ap after ended

  line_said : told_from p me (taken p me (starting first.0 (n + 1)) rest) ≡ said_from p me first.0 (n + 1) (lines rest) → told_from p me (taken p me (starting a n) (line ++ 10 ∷ rest)) ≡ said_from p me a n (strip_carriage_return line ∷ lines rest)
  line_said others =
      let rest_taken = taken p me (starting first.0 (n + 1)) rest in
      let more = statements_from (n + 1) (lines rest) in
      let all : ask_all p me a (statements_from n (strip_carriage_return line ∷ lines rest)) ≡ ((ask_all p me first.0 more).0, first.1 ++ (ask_all p me first.0 more).1) =
      ap (ask_all p me a) (first_said n (strip_carriage_return line) (lines rest)) ∙ asked_on p me a (statements_from n (strip_carriage_return line ∷ [])) more in
      let place : n + 1 + length (lines rest) ≡ n + suc (length (lines rest)) = omega arith in
      ap (told_from p me) came
      ∙ append_assoc first.1 rest_taken.1 (at_end p me rest_taken.0)
      ∙ ap (λ (xs : List Asked). first.1 ++ xs) others
      ∙ sym (append_assoc first.1 (ask_all p me first.0 more).1 (given_up (n + 1 + length (lines rest)) (ask_all p me first.0 more).0))
      ∙ ap (λ m. (first.1 ++ (ask_all p me first.0 more).1) ++ given_up m (ask_all p me first.0 more).0) place
      ∙ sym (ap (λ (r : Asking × List Asked). r.1 ++ given_up (n + suc (length (lines rest))) r.0) all)

-- a text in which a line ends: that line, and what comes after it
first_line : (p : PlanValue) (me : ℕ) (k : ℕ) (a : Asking) (n : ℕ) (text : List ℕ) → length text ≤ suc k → length text ≤ most_text → n + length text ≤ last_number → position_or_len is_newline text < length text
    → ((a : Asking) (n : ℕ) (rest : List ℕ) → length rest ≤ k → length rest ≤ most_text → n + length rest ≤ last_number → told_from p me (taken p me (starting a n) rest) ≡ said_from p me a n (lines rest))
    → told_from p me (taken p me (starting a n) text) ≡ said_from p me a n (lines text)
first_line p me k a n text few short low lt others =
    let at = position_or_len is_newline text in
    let line = take at text in
    let rest = drop (at + 1) text in
    let whole : line ++ 10 ∷ rest ≡ text = ap (λ (bs : List ℕ). line ++ bs) (sym (end_next text lt)) ∙ take-append-drop at text in
    let size : length line ≤ length text = omega (arith, length-take at text) in
    let left : length rest < length text = omega (arith, lt, length-drop (at + 1) text) in
    let asked = ask_all p me a (statements_from n (strip_carriage_return line ∷ [])) in
    let more = others asked.0 (n + 1) rest (omega (arith, left, few)) (omega (arith, left, short)) (omega (arith, left, low)) in
    ap (λ (bs : List ℕ). told_from p me (taken p me (starting a n) bs)) (sym whole)
    ∙ line_said p me a n line rest (within_before text) (omega (arith, size, short)) (omega (arith, low, lt)) more
    ∙ ap (said_from p me a n) (sym (lines_cut text at (strip_carriage_return line) rest refl lt refl refl))

-- by as many bytes as there may be
text_said : (p : PlanValue) (me : ℕ) (k : ℕ) (a : Asking) (n : ℕ) (text : List ℕ) → length text ≤ k → length text ≤ most_text → n + length text ≤ last_number
    → told_from p me (taken p me (starting a n) text) ≡ said_from p me a n (lines text)
text_said p me k a n [] few short low = nothing p me a n
text_said p me zero a n (b ∷ bs) few short low = absurd (omega (arith, few))
text_said p me (suc k) a n (b ∷ bs) few short low = by_end (cases_lt (position_or_len is_newline (b ∷ bs)) (length (b ∷ bs))) (λ a n rest. text_said p me k a n rest)
  where
    by_end : (position_or_len is_newline (b ∷ bs) < length (b ∷ bs)) ⊎ (length (b ∷ bs) ≤ position_or_len is_newline (b ∷ bs))
        → ((a : Asking) (n : ℕ) (rest : List ℕ) → length rest ≤ k → length rest ≤ most_text → n + length rest ≤ last_number → told_from p me (taken p me (starting a n) rest) ≡ said_from p me a n (lines rest))
        → told_from p me (taken p me (starting a n) (b ∷ bs)) ≡ said_from p me a n (lines (b ∷ bs))
    by_end (inr none) others = last_said p me a n (b ∷ bs) (omega arith) short (omega (arith, low)) none
    by_end (inl lt) others = first_line p me k a n (b ∷ bs) few short low lt others

pub texts_are_asked : TextsAreAsked
texts_are_asked p me text short = text_said p me (length text) quiet 1 text (omega arith) short (omega (arith, short))
