-- A beginning of a text of lines, without the line that was torn.
use Rattle.std.proofs.Common.{◌≡◌, ℕ, zero, suc, ◌+◌, ◌<◌, ◌≤◌, Bool, true, false, List, [], ◌∷◌, ◌++◌, length, map, take, drop, refl, sym, ap, subst, ◌∙◌, arith, inl, inr, ◌⊎◌, ⊎_elim, append_assoc, append-nil, length-append}
use Rattle.std.specs.Prelude.{All, ◌==◌, ◌||◌}
use Rattle.std.specs.List.{flat_map, list_all}
use Rattle.std.proofs.lemmas.Bool.{cases_lt, and_parts}
use Rattle.std.proofs.lemmas.Bool.Decides.{nat_tests}
use Rattle.std.proofs.lemmas.List.{append_cancel_left, take-append-drop, take-append-le, take_at, take-map}
use Rattle.std.proofs.lemmas.List.Elements.{All-head, All-tail, All-cons, All-nil}
use Rattle.office_map.specs.PlanValue.{PlanValue}
use Rattle.office_map.specs.Consistency.{IsConsistent}
use Rattle.text_lines.specs.Text.{is_plain}
use Rattle.office_journal.specs.declared.event.Entry.{Entry}
use Rattle.journal_texts.specs.wording.Words.{line_of_words}
use Rattle.journal_texts.proofs.wording_lemmas.LinesOfWords.{line_of}
use Rattle.journal_texts.specs.Written.{header_words, header_line, entry_words, entry_line, lines_of, journal_text}
use Rattle.journal_texts.specs.Growing.{has_end, IsCutAfterLines, IsBeginning, TornTextsBegin}
use Rattle.journal_texts.specs.refinement.WrittenValues.{EntryReadsBack}
use Rattle.journal_texts.proofs.LegalEntries.{legal_entries, IsEntryOf}
use Rattle.journal_texts.proofs.WrittenLines.{entry_says, header_is_words}

abbrev Lines : Type 0
Lines = List (List ℕ)

abbrev ended : List ℕ → List ℕ
ended l = l ++ 10 ∷ []

abbrev text_of : Lines → List ℕ
text_of = flat_map ended

abbrev NoEnd : List ℕ → Type 0
NoEnd l = has_end l ≡ false

-- ---- lists

either_here : (b p : Bool) → p ≡ true → (b || p) ≡ true
either_here true p h = refl
either_here false p h = h

has_here : (xs ys : List ℕ) → has_end (xs ++ 10 ∷ ys) ≡ true
has_here [] ys = refl
has_here (x ∷ xs) ys = either_here (x == 10) (has_end (xs ++ 10 ∷ ys)) (has_here xs ys)

drop_later : (b : Bool) (p q : Bool) → (b || p) ≡ false → (p ≡ false → q ≡ false) → (b || q) ≡ false
drop_later true p q h f = cc
drop_later false p q h f = f h

none_first : (xs ys : List ℕ) → NoEnd (xs ++ ys) → NoEnd xs
none_first [] ys h = refl
none_first (x ∷ xs) ys h = drop_later (x == 10) (has_end (xs ++ ys)) (has_end xs) h (λ k. none_first xs ys k)

same_first : (n : ℕ) (xs ys zs ws : List ℕ) → xs ++ ys ≡ zs ++ ws → length xs ≡ n → n ≤ length zs → take n zs ≡ xs
same_first n xs ys zs ws e size le = sym (take-append-le n zs ws le) ∙ ap (take n) (sym e) ∙ take_at xs ys n size

-- ---- one line, and then the others

-- a text that begins with a line which is whole
pub record Whole (l : List ℕ) (text whole rest : List ℕ) : Type 0 where
  pub later : List ℕ
  pub text_is : text ≡ ended l ++ (later ++ rest)
  pub whole_is : whole ≡ ended l ++ later
  pub ends : (later ≡ []) ⊎ ((before : List ℕ) × (later ≡ before ++ 10 ∷ []))

abbrev Ends : List ℕ → Type 0
Ends whole = (whole ≡ []) ⊎ ((before : List ℕ) × (whole ≡ before ++ 10 ∷ []))

ends_later : (l later whole : List ℕ) → whole ≡ ended l ++ later → Ends whole → Ends later
ends_later l later whole is (inl none) = absurd (omega (arith, ap length (sym none ∙ is), length-append (ended l) later, length-append l (10 ∷ [])))
ends_later l [] whole is (inr e) = inl refl
ends_later l (x ∷ xs) whole is (inr e) =
    let size : length (ended l) ≤ length e.0 = omega (arith, ap length (sym e.1 ∙ is), length-append e.0 (10 ∷ []), length-append (ended l) (x ∷ xs)) in
    let first : take (length (ended l)) e.0 ≡ ended l = same_first (length (ended l)) (ended l) (x ∷ xs) e.0 (10 ∷ []) (sym is ∙ e.1) refl size in
    let split : e.0 ≡ ended l ++ drop (length (ended l)) e.0 = sym (take-append-drop (length (ended l)) e.0) ∙ ap (λ z. z ++ drop (length (ended l)) e.0) first in
    inr (drop (length (ended l)) e.0, append_cancel_left (ended l) (x ∷ xs) (drop (length (ended l)) e.0 ++ 10 ∷ []) (sym is ∙ e.1 ∙ ap (λ z. z ++ 10 ∷ []) split ∙ append_assoc (ended l) (drop (length (ended l)) e.0) (10 ∷ [])))

-- the whole lines of a beginning have the first line, or they are none, and then the beginning is shorter than it
first_line : (l others text whole rest more : List ℕ) → NoEnd l → ended l ++ others ≡ text ++ more → IsCutAfterLines text whole rest → Whole l text whole rest ⊎ ((whole ≡ []) × (length text < length (ended l)))
first_line l others text whole rest more clean e cut = ⊎_elim short long (cases_lt (length whole) (length (ended l)))
  where
    all : ended l ++ others ≡ whole ++ (rest ++ more)
    all = e ∙ ap (λ z. z ++ more) cut.parts ∙ append_assoc whole rest more

    -- a shorter one has no LF, so it is none
    none : length whole < length (ended l) → Ends whole → whole ≡ []
    none lt (inl z) = z
    none lt (inr b) =
        let le : length whole ≤ length l = omega (arith, lt, length-append l (10 ∷ [])) in
        let flat : l ++ (10 ∷ others) ≡ whole ++ (rest ++ more) = sym (append_assoc l (10 ∷ []) others) ∙ all in
        let first : take (length whole) l ≡ whole = same_first (length whole) whole (rest ++ more) l (10 ∷ others) (sym flat) refl le in
        let free : NoEnd whole = subst NoEnd first (none_first (take (length whole) l) (drop (length whole) l) (subst NoEnd (sym (take-append-drop (length whole) l)) clean)) in
        let has : has_end whole ≡ true = ap has_end b.1 ∙ has_here b.0 [] in
        absurd cc

    short : length whole < length (ended l) → Whole l text whole rest ⊎ ((whole ≡ []) × (length text < length (ended l)))
    short lt =
        let z = none lt cut.ended in
        let is : text ≡ rest = cut.parts ∙ ap (λ w. w ++ rest) z in
        inr (z, ⊎_elim (λ small. small) (λ big. absurd (lacks is big)) (cases_lt (length text) (length (ended l))))
      where
        lacks : text ≡ rest → length (ended l) ≤ length text → ⊥
        lacks is big =
            let first : take (length (ended l)) text ≡ ended l = same_first (length (ended l)) (ended l) others text more e refl big in
            let split : text ≡ ended l ++ drop (length (ended l)) text = sym (take-append-drop (length (ended l)) text) ∙ ap (λ z. z ++ drop (length (ended l)) text) first in
            let has : has_end text ≡ true = ap has_end (split ∙ append_assoc l (10 ∷ []) (drop (length (ended l)) text)) ∙ has_here l (drop (length (ended l)) text) in
            let torn : has_end text ≡ false = ap has_end is ∙ cut.torn in
            cc

    long : length (ended l) ≤ length whole → Whole l text whole rest ⊎ ((whole ≡ []) × (length text < length (ended l)))
    long le =
        let first : take (length (ended l)) whole ≡ ended l = same_first (length (ended l)) (ended l) others whole (rest ++ more) all refl le in
        let later = drop (length (ended l)) whole in
        let whole_is : whole ≡ ended l ++ later = sym (take-append-drop (length (ended l)) whole) ∙ ap (λ z. z ++ later) first in
        inl (record {
          later = later;
          text_is = cut.parts ∙ ap (λ w. w ++ rest) whole_is ∙ append_assoc (ended l) later rest;
          whole_is = whole_is;
          ends = ends_later l later whole whole_is cut.ended;
        })

-- ---- all lines

pub record Lasts (ls : Lines) (text whole : List ℕ) : Type 0 where
  pub count : ℕ
  pub is : whole ≡ text_of (take count ls)
  pub has : (m : ℕ) → m ≤ length ls → length (text_of (take m ls)) ≤ length text → m ≤ count

lasts : (ls : Lines) → All NoEnd ls → (text whole rest more : List ℕ) → text_of ls ≡ text ++ more → IsCutAfterLines text whole rest → Lasts ls text whole
lasts [] clean text whole rest more e cut =
    let none : length whole ≡ 0 = omega (arith, ap length e, length-append text more, ap length cut.parts, length-append whole rest) in
    record { count = 0; is = no_bytes whole none; has = λ m le size. omega (arith, le) }
  where
    no_bytes : (xs : List ℕ) → length xs ≡ 0 → xs ≡ []
    no_bytes [] z = refl
    no_bytes (x ∷ xs) z = absurd (omega (arith, z))
lasts (l ∷ ls) clean text whole rest more e cut = ⊎_elim (with_line (λ t w r m f c. lasts ls (All-tail NoEnd l ls clean) t w r m f c)) without (first_line l (text_of ls) text whole rest more (All-head NoEnd l ls clean) e cut)
  where
    with_line : ((t w r m : List ℕ) → text_of ls ≡ t ++ m → IsCutAfterLines t w r → Lasts ls t w) → Whole l text whole rest → Lasts (l ∷ ls) text whole
    with_line others w =
        let on : text_of ls ≡ (w.later ++ rest) ++ more = append_cancel_left (ended l) (text_of ls) ((w.later ++ rest) ++ more) (e ∙ ap (λ z. z ++ more) w.text_is ∙ append_assoc (ended l) (w.later ++ rest) more) in
        let r = others (w.later ++ rest) w.later rest more on (record { parts = refl; torn = cut.torn; ended = w.ends }) in
        let size = ap length w.text_is ∙ length-append (ended l) (w.later ++ rest) in
        record {
          count = suc r.count;
          is = w.whole_is ∙ ap (λ z. ended l ++ z) r.is;
          has = more_of r size;
        }
      where
        more_of : (r : Lasts ls (w.later ++ rest) w.later) → length text ≡ length (ended l) + length (w.later ++ rest) → (m : ℕ) → m ≤ length (l ∷ ls) → length (text_of (take m (l ∷ ls))) ≤ length text → m ≤ suc r.count
        more_of r size zero le fits = omega arith
        more_of r size (suc m) le fits = let k = r.has m (omega (arith, le)) (omega (arith, fits, size, length-append (ended l) (text_of (take m ls)))) in omega (arith, k)

    without : (whole ≡ []) × (length text < length (ended l)) → Lasts (l ∷ ls) text whole
    without (none, small) = record { count = 0; is = none; has = few }
      where
        few : (m : ℕ) → m ≤ length (l ∷ ls) → length (text_of (take m (l ∷ ls))) ≤ length text → m ≤ 0
        few zero le fits = omega arith
        few (suc m) le fits = absurd (omega (arith, fits, small, length-append (ended l) (text_of (take m ls))))

-- ---- journals

plain_none : (xs : List ℕ) → list_all is_plain xs ≡ true → NoEnd xs
plain_none [] h = refl
plain_none (x ∷ xs) h =
    let parts = and_parts (is_plain x) (list_all is_plain xs) h in
    let other : (x == 10) ≡ false = grind (arith, nat_tests, parts.0) in
    ap (λ b. b || has_end xs) other ∙ plain_none xs parts.1

abbrev bodies : PlanValue → ℕ → List Entry → Lines
bodies p office es = line_of_words (header_words p office) ∷ map (λ x. line_of_words (entry_words p x)) es

as_lines : (p : PlanValue) (es : List Entry) → text_of (map (λ x. line_of_words (entry_words p x)) es) ≡ lines_of p es
as_lines p [] = refl
as_lines p (x ∷ es) = ap (λ l. entry_line p x ++ l) (as_lines p es)

as_text : (p : PlanValue) (office : ℕ) (es : List Entry) → text_of (bodies p office es) ≡ journal_text p office es
as_text p office es = ap (λ l. header_line p office ++ l) (as_lines p es)

entries_clean : (p : PlanValue) (es : List Entry) → IsConsistent p → All (IsEntryOf p) es → All (EntryReadsBack p) es → All NoEnd (map (λ x. line_of_words (entry_words p x)) es)
entries_clean p [] ok are back = All-nil NoEnd
entries_clean p (x ∷ es) ok are back =
    let s = entry_says p x ok (All-head (IsEntryOf p) x es are) (All-head (EntryReadsBack p) x es back) in
    All-cons NoEnd (line_of_words (entry_words p x)) (map (λ y. line_of_words (entry_words p y)) es) (plain_none (line_of_words (entry_words p x)) (line_of (entry_words p x) s.words).plain)
    (entries_clean p es ok (All-tail (IsEntryOf p) x es are) (All-tail (EntryReadsBack p) x es back))

of_bodies : (p : PlanValue) (office : ℕ) (es : List Entry) (text whole : List ℕ) → length (header_line p office) ≤ length text → Lasts (bodies p office es) text whole → IsBeginning p office es text whole
of_bodies p office es text whole header r = go r.count r.is r.has
  where
    taken : (n : ℕ) → text_of (take (suc n) (bodies p office es)) ≡ journal_text p office (take n es)
    taken n = ap (λ l. header_line p office ++ l) (ap text_of (take-map (λ x. line_of_words (entry_words p x)) n es) ∙ as_lines p (take n es))

    go : (n : ℕ) → whole ≡ text_of (take n (bodies p office es)) → ((m : ℕ) → m ≤ length (bodies p office es) → length (text_of (take m (bodies p office es))) ≤ length text → m ≤ n) → IsBeginning p office es text whole
    go zero is has = absurd (omega (arith, has 1 (omega arith) (omega (arith, header, ap length (append-nil (header_line p office))))))
    go (suc n) is has = record {
      count = n;
      is = is ∙ taken n;
      has = λ m le fits. let k = has (suc m) (omega (arith, le, sizes m)) (omega (arith, fits, ap length (taken m))) in omega (arith, k);
    }
      where
        sizes : (m : ℕ) → length (bodies p office es) ≡ suc (length es)
        sizes m = ap suc (size es)
          where
            size : (xs : List Entry) → length (map (λ x. line_of_words (entry_words p x)) xs) ≡ length xs
            size [] = refl
            size (x ∷ xs) = ap suc (size xs)

pub torn_texts_begin : TornTextsBegin
torn_texts_begin p office es text whole rest more ok inside run legal back e cut header =
    let clean : All NoEnd (bodies p office es) = All-cons NoEnd (line_of_words (header_words p office)) (map (λ x. line_of_words (entry_words p x)) es)
    (plain_none (line_of_words (header_words p office)) (line_of (header_words p office) (header_is_words p office ok inside (omega (arith, run)))).plain)
    (entries_clean p es ok (legal_entries p office es ok legal) back) in
    of_bodies p office es text whole header (lasts (bodies p office es) clean text whole rest more (as_text p office es ∙ e) cut)
