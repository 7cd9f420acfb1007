-- Sessions of a file that haven't finished, one after the other.
use Rattle.std.proofs.Common.{Bor, ◌≡◌, ℕ, ◌+◌, ◌<◌, ◌≤◌, Bool, true, false, List, [], ◌∷◌, ◌++◌, length, take, get_or, if◌then◌else◌, Option, None, Some, is_none, is_some, Result, Ok, Err, OnOk, refl, sym, ap, subst, ◌∙◌, arith, append_assoc, append-nil, take_all}
use Rattle.std.specs.Prelude.{All, IsTrue, not, ◌==◌, count_by}
use Rattle.std.specs.List.{flat_map}
use Rattle.std.specs.Option.{option_copied}
use Rattle.std.proofs.lemmas.Bool.Decides.{nat_tests}
use Rattle.std.proofs.lemmas.List.{take_more}
use Rattle.std.proofs.lemmas.List.Concat.{flat_map-append}
use Rattle.std.proofs.lemmas.List.Elements.{All-append, All-get_or, All-nil}
use Rattle.office_map.specs.PlanValue.{PlanValue}
use Rattle.session_meaning.specs.ProgramValue.{ProgramValue}
use Rattle.session_meaning.specs.declared.ending.Outcome.{Outcome}
use Rattle.session_programs.specs.Program.{fits, text_under}
use Rattle.session_language.specs.Reading.{sessions_of}
use Rattle.frame_world.specs.Worlds.{World}
use Rattle.day_audits.specs.left.LeftTexts.{ReadsBack, TextsAreReadInTurn, texts_of}
use Rattle.day_audits.specs.ends.FileEnds.{is_unfinished, left_after, left_in_file, one_left, IsLeftOfFile}

-- the office of a program that fits is the plan's
pub office_within : (p : PlanValue) (x : ProgramValue) → IsTrue (fits p x) → x.office < length p.offices
office_within p x h = grind (h, arith, nat_tests)

left_append : (w : World) (before xs ys : List ProgramValue) → left_after w before (xs ++ ys) ≡ left_after w before xs ++ left_after w (before ++ xs) ys
left_append w before [] ys = ap (λ b. left_after w b ys) (sym (append-nil before))
left_append w before (x ∷ xs) ys =
    ap (λ l. one_left w before x ++ l) (left_append w (before ++ x ∷ []) xs ys ∙ ap (λ b. left_after w (before ++ x ∷ []) xs ++ left_after w b ys) (append_assoc before (x ∷ []) xs))
    ∙ sym (append_assoc (one_left w before x) (left_after w (before ++ x ∷ []) xs) (left_after w (before ++ x ∷ xs) ys))

-- one session more
left_more : (w : World) (xs : List ProgramValue) (i : ℕ) (x : ProgramValue) → i < length xs → get_or xs i x ≡ x → left_in_file w (take (i + 1) xs) ≡ left_in_file w (take i xs) ++ one_left w (take i xs) x
left_more w xs i x lt is =
    ap (left_in_file w) (take_more xs i x lt ∙ ap (λ y. take i xs ++ y ∷ []) is)
    ∙ left_append w [] (take i xs) (x ∷ [])
    ∙ ap (λ l. left_in_file w (take i xs) ++ l) (append-nil (one_left w (take i xs) x))

pub one_is : (w : World) (before : List ProgramValue) (x : ProgramValue) (b : Bool) → is_unfinished w before x ≡ b → one_left w before x ≡ (if b then x ∷ [] else [])
one_is w before x b e = ap (λ t. if t then x ∷ [] else []) e

pub on_ok : {A E : Type 0} (r : Result A E) (P : Type 0) → P → OnOk r P
on_ok (Ok x) P h = h
on_ok (Err e) P h = tt

-- none is there, and so none of its copies
pub none_told : (o : Option (Bor Outcome)) (b : Bool) → is_some o ≡ not b → b ≡ is_none (option_copied o)
none_told None true e = refl
none_told None false e = absurd (let no : ◌≡◌ {A = Bool} false true = e in cc)
none_told (Some x) true e = absurd (let no : ◌≡◌ {A = Bool} true false = e in cc)
none_told (Some x) false e = refl

-- a session among those that fit
pub one_fits : (p : PlanValue) (xs : List ProgramValue) (i : ℕ) (x : ProgramValue) → All (λ y. IsTrue (fits p y)) xs → i < length xs → get_or xs i x ≡ x → IsTrue (fits p x)
one_fits p xs i x fit lt is = subst (λ y. IsTrue (fits p y)) is (All-get_or (λ y. IsTrue (fits p y)) xs i x lt fit)

-- what stands after so many sessions of the file
pub record IsSoFar (w : World) (xs : List ProgramValue) (i : ℕ) (text : List ℕ) : Type 0 where
  pub written : text ≡ texts_of w.plan (left_in_file w (take i xs))
  pub read : All (ReadsBack w.plan) (left_in_file w (take i xs))

pub none_yet : (w : World) (xs : List ProgramValue) (text : List ℕ) → text ≡ [] → IsSoFar w xs 0 text
none_yet w xs text e = record { written = e; read = All-nil (ReadsBack w.plan) }

pub one_more : (w : World) (xs : List ProgramValue) (i : ℕ) (x : ProgramValue) (before : List ProgramValue) (old new : List ℕ) → i < length xs → get_or xs i x ≡ x → before ≡ take i xs → IsSoFar w xs i old
    → new ≡ old ++ texts_of w.plan (one_left w before x) → All (ReadsBack w.plan) (one_left w before x) → IsSoFar w xs (i + 1) new
one_more w xs i x before old new lt is shown h added read =
    let one : one_left w before x ≡ one_left w (take i xs) x = ap (λ b. one_left w b x) shown in
    record {
      written =
          added ∙ ap (λ l. old ++ texts_of w.plan l) one
          ∙ ap (λ l. l ++ texts_of w.plan (one_left w (take i xs) x)) h.written
          ∙ sym (flat_map-append (text_under w.plan) (left_in_file w (take i xs)) (one_left w (take i xs) x))
          ∙ ap (texts_of w.plan) (sym (left_more w xs i x lt is));
      read = subst (All (ReadsBack w.plan)) (sym (left_more w xs i x lt is))
          (All-append (ReadsBack w.plan) (left_in_file w (take i xs)) (one_left w (take i xs) x) h.read (subst (All (ReadsBack w.plan)) one read));
    }

-- no more of them are left than there are
few_left : (w : World) (before xs : List ProgramValue) → length (left_after w before xs) ≤ length xs
few_left w before [] = omega arith
few_left w before (x ∷ xs) = go (is_unfinished w before x) (few_left w (before ++ x ∷ []) xs)
  where
    go : (b : Bool) → length (left_after w (before ++ x ∷ []) xs) ≤ length xs → length ((if b then x ∷ [] else []) ++ left_after w (before ++ x ∷ []) xs) ≤ length (x ∷ xs)
    go true h = omega (arith, h)
    go false h = omega (arith, h)

pub all_told : (w : World) (xs : List ProgramValue) (i : ℕ) (text : List ℕ) → TextsAreReadInTurn → length xs ≤ 1024 → length xs ≤ i → IsSoFar w xs i text → IsLeftOfFile w xs text
all_told w xs i text law few le h =
    let all : take i xs ≡ xs = take_all i xs le in
    let is : text ≡ texts_of w.plan (left_in_file w xs) = h.written ∙ ap (λ l. texts_of w.plan (left_in_file w l)) all in
    let size : length (left_in_file w xs) ≤ length xs = few_left w [] xs in
    record {
      written = is;
      read = λ little.
          let short : length (texts_of w.plan (left_in_file w xs)) ≤ 1048576 = subst (λ t. length t ≤ 1048576) is little in
          ap (sessions_of w.plan) is ∙ law w.plan (left_in_file w xs) (subst (λ l. All (ReadsBack w.plan) (left_in_file w l)) all h.read) (omega (arith, size, few)) short;
    }
