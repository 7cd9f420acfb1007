-- A line that begins a text, found by its bytes.
use Rattle.std.proofs.Common.{◌≡◌, ℕ, zero, suc, ◌+◌, ◌-◌, ◌<◌, ◌≤◌, List, [], ◌∷◌, length, take, drop, get_or, not, Bool, true, false, ◌==◌, ◌||◌, if◌then◌else◌, Some, None, refl, sym, ap, ◌∙◌, arith}
use Rattle.std.specs.List.{list_all}
use Rattle.std.specs.Str.Lines.{strip_carriage_return}
use Rattle.std.proofs.lemmas.Bool.{and_parts, and_from}
use Rattle.std.proofs.lemmas.Bool.Decides.{nat_tests}
use Rattle.std.proofs.lemmas.List.{length-take-le}
use Rattle.std.proofs.lemmas.List.Sums.{position_or_len_is}
use Rattle.text_lines.specs.Text.{lines, is_newline, is_plain, plain_words, says_something, statements_from, words_of}
use Rattle.text_lines.specs.TextLaws.{lines_cut}
use Rattle.text_lines.specs.marked.refinement.Marks.{is_printable, BeginsPlain}

all_of : (p : ℕ → Bool) (n : ℕ) (xs : List ℕ) → n ≤ length xs → ((k : ℕ) → k < n → p (get_or xs k 0) ≡ true) → list_all p (take n xs) ≡ true
all_of p zero xs le each = refl
all_of p (suc n) [] le each = absurd (omega arith)
all_of p (suc n) (x ∷ xs) le each = and_from (p x) (list_all p (take n xs)) (each 0 (omega arith)) (all_of p n xs (omega arith) (λ k lt. each (suc k) (omega arith)))

no_newline : (b : ℕ) → is_printable b ≡ true → is_newline b ≡ false
no_newline b h = grind (arith, nat_tests)

plain_too : (b : ℕ) → is_printable b ≡ true → is_plain b ≡ true
plain_too b h = grind (arith, nat_tests)

all_plain : (xs : List ℕ) → list_all is_printable xs ≡ true → list_all is_plain xs ≡ true
all_plain [] h = refl
all_plain (x ∷ xs) h =
    let parts = and_parts (is_printable x) (list_all is_printable xs) h in
    and_from (is_plain x) (list_all is_plain xs) (plain_too x parts.0) (all_plain xs parts.1)

says : (end : ℕ) (text : List ℕ) → 0 < end → 0 < length text → 35 < get_or text 0 0 → says_something (take end text) ≡ true
says zero text some long above = absurd (omega (arith, some))
says (suc n) [] some long above = absurd (omega (arith, long))
says (suc n) (b ∷ bs) some long above = begun b above
  where
    begun : (x : ℕ) → 35 < x → (if (x == 32 || x == 9) then says_something (take n bs) else not (x == 35)) ≡ true
    begun x h = grind (arith, nat_tests)

pub begins_plain : (text : List ℕ) (end : ℕ) → end < length text → ((k : ℕ) → k < end → is_printable (get_or text k 0) ≡ true) → get_or text end 0 ≡ 10 → 35 < get_or text 0 0 → BeginsPlain text end
begins_plain text end inside printable newline above = record {
  some = some end newline;
  within = inside;
  ended = sym (position_or_len_is is_newline text end 0 (omega (arith, inside)) (λ k lt. no_newline (get_or text k 0) (printable k lt)) (λ lt. ap is_newline newline));
  printable = all_of is_printable end text (omega (arith, inside)) printable;
  says = says end text (some end newline) (omega (arith, inside)) above;
}
  where
    some : (e : ℕ) → get_or text e 0 ≡ 10 → 0 < e
    some zero is = absurd (omega (arith, is, above))
    some (suc e) is = omega arith

each_of : (xs : List ℕ) (k : ℕ) → k < length xs → list_all is_printable xs ≡ true → is_printable (get_or xs k 0) ≡ true
each_of [] k lt h = absurd (omega (arith, lt))
each_of (x ∷ xs) zero lt h = (and_parts (is_printable x) (list_all is_printable xs) h).0
each_of (x ∷ xs) (suc k) lt h = each_of xs k (omega (arith, lt)) (and_parts (is_printable x) (list_all is_printable xs) h).1

no_return : (b : ℕ) → is_printable b ≡ true → (b == 13) ≡ false
no_return b h = grind (arith, nat_tests)

no_return_dropped : (xs : List ℕ) → 0 < length xs → list_all is_printable xs ≡ true → strip_carriage_return xs ≡ xs
no_return_dropped xs some h = ap (λ t. if t then take (length xs - 1) xs else xs) (no_return (get_or xs (length xs - 1) 0) (each_of xs (length xs - 1) (omega (arith, some)) h))

-- ---- the line as one that says something

module _ (text : List ℕ) (end : ℕ) (b : BeginsPlain text end) where
  long : length (take end text) ≡ end
  long = length-take-le end text (omega (arith, b.within))

  pub is_plain_line : list_all is_plain (take end text) ≡ true
  is_plain_line = all_plain (take end text) b.printable

  pub is_first : (line rest : List ℕ) (number : ℕ) → line ≡ take end text → rest ≡ drop (end + 1) text → statements_from number (lines text) ≡ (number, line) ∷ statements_from (number + 1) (lines rest)
  is_first line rest number front back =
      let unstripped : line ≡ strip_carriage_return (take end text) = front ∙ sym (no_return_dropped (take end text) (omega (arith, long, b.some)) b.printable) in
      let said : says_something line ≡ true = ap says_something front ∙ b.says in
      ap (statements_from number) (lines_cut text end line rest b.ended b.within unstripped back)
      ∙ ap (λ (t : Bool). if t then (number, line) ∷ statements_from (number + 1) (lines rest) else statements_from (number + 1) (lines rest)) said

-- ---- words

pub words_there : (line : List ℕ) (words : List (List ℕ)) → list_all is_plain line ≡ true → words ≡ words_of line → Some words ≡ plain_words line
words_there line words plain is = ap Some is ∙ ap (λ (t : Bool). if t then Some (words_of line) else None) (sym plain)

pub no_words_there : (line : List ℕ) → list_all is_plain line ≡ false → None ≡ plain_words line
no_words_there line plain = ap (λ (t : Bool). if t then Some (words_of line) else None) (sym plain)
