-- What offices have left, one after the other; and the values of records, one after the other.
use Rattle.std.proofs.Common.{◌≡◌, ℕ, zero, suc, ◌+◌, ◌<◌, ◌≤◌, List, [], ◌∷◌, ◌++◌, Bool, true, false, length, Some, refl, sym, ap, subst, ◌∙◌, arith, append_assoc, append-nil, ⊎_elim, length-append}
use Rattle.std.specs.Prelude.{All, nat_lt, slice_get}
use Rattle.std.specs.List.{flat_map, range_with_len}
use Rattle.std.proofs.lemmas.Bool.{cases_lt}
use Rattle.std.proofs.lemmas.Bool.Decides.{nat_tests}
use Rattle.std.proofs.lemmas.List.Concat.{flat_map-append}
use Rattle.std.proofs.lemmas.List.Elements.{All-append, All-nil}
use Rattle.bottle_values.specs.declared.Value.{Value}
use Rattle.session_programs.specs.Program.{text_under}
use Rattle.session_language.specs.Reading.{sessions_of}
use Rattle.serial_replay.specs.Serial.{ListsValues}
use Rattle.frame_world.specs.Worlds.{World, site_at}
use Rattle.day_audits.specs.left.Left.{left_programs}
use Rattle.day_audits.specs.left.LeftTexts.{ReadsBack, TextsAreReadInTurn, texts_of}
use Rattle.day_audits.specs.ends.DayEnds.{left_of, left_of_first, IsLeftOnce, IsLeftText}

-- ---- rows

last_row : {X : Type 0} (f : ℕ → List X) (a m j : ℕ) → a + m ≡ j → flat_map f (range_with_len a (suc m)) ≡ flat_map f (range_with_len a m) ++ f j
last_row f a zero j e = let here : a ≡ j = omega (arith, e) in append-nil (f a) ∙ ap f here
last_row f a (suc m) j e = ap (λ l. f a ++ l) (last_row f (a + 1) m j (omega (arith, e))) ∙ sym (append_assoc (f a) (flat_map f (range_with_len (a + 1) m)) (f j))

left_more : (w : World) (i : ℕ) → left_of_first (i + 1) w ≡ left_of_first i w ++ left_programs (site_at w i)
left_more w i =
    let next : i + 1 ≡ suc i = omega arith in
    ap (λ n. left_of_first n w) next ∙ last_row (λ a. left_programs (site_at w a)) 0 i i (omega arith)

-- ---- texts

-- what stands after so many offices
pub record IsSoFar (w : World) (n : ℕ) (text : List ℕ) : Type 0 where
  pub written : text ≡ texts_of w.plan (left_of_first n w)
  pub once : (a : ℕ) → a < n → IsLeftOnce (site_at w a)
  pub read : All (ReadsBack w.plan) (left_of_first n w)

pub none_yet : (w : World) (text : List ℕ) → text ≡ [] → IsSoFar w 0 text
none_yet w text e = record { written = e; once = λ a lt. absurd (omega (arith, lt)); read = All-nil (ReadsBack w.plan) }

pub one_more : (w : World) (i : ℕ) (old new : List ℕ) → IsSoFar w i old → new ≡ old ++ texts_of w.plan (left_programs (site_at w i)) → All (ReadsBack w.plan) (left_programs (site_at w i)) → IsLeftOnce (site_at w i) → IsSoFar w (i + 1) new
one_more w i old new h added read once = record {
  written =
      added ∙ ap (λ l. l ++ texts_of w.plan (left_programs (site_at w i))) h.written
      ∙ sym (flat_map-append (text_under w.plan) (left_of_first i w) (left_programs (site_at w i)))
      ∙ ap (texts_of w.plan) (sym (left_more w i));
  once = λ a lt. ⊎_elim (λ before. h.once a before) (λ not_before. subst (λ b. IsLeftOnce (site_at w b)) (let same : i ≡ a = omega (arith, lt, not_before) in same) once) (cases_lt a i);
  read = subst (All (ReadsBack w.plan)) (sym (left_more w i)) (All-append (ReadsBack w.plan) (left_of_first i w) (left_programs (site_at w i)) h.read read);
}

pub all_told : (w : World) (n : ℕ) (text : List ℕ) → TextsAreReadInTurn → n ≡ length w.plan.offices → IsSoFar w n text → IsLeftText w text
all_told w n text law e h =
    let so_far : IsSoFar w (length w.plan.offices) text = subst (λ k. IsSoFar w k text) e h in
    record {
      written = so_far.written;
      once = so_far.once;
      read = λ few little.
          let short : length (texts_of w.plan (left_of w)) ≤ 1048576 = subst (λ t. length t ≤ 1048576) so_far.written little in
          ap (sessions_of w.plan) so_far.written ∙ law w.plan (left_of w) so_far.read few short;
    }

-- ---- values

more_at : (vs : List Value) (v : Value) (j : ℕ) (w : Value) → slice_get vs j ≡ Some w → slice_get (vs ++ v ∷ []) j ≡ Some w
more_at [] v j w h = (cc)
more_at (x ∷ xs) v zero w h = h
more_at (x ∷ xs) v (suc j) w h = more_at xs v j w h

last_at : (vs : List Value) (v : Value) → slice_get (vs ++ v ∷ []) (length vs) ≡ Some v
last_at [] v = refl
last_at (x ∷ xs) v = last_at xs v

-- one record more
pub value_more : (vs : List Value) (n : ℕ) (m : ℕ → Value) (v : Value) (new : List Value) → ListsValues vs n m → v ≡ m n → new ≡ vs ++ v ∷ [] → ListsValues new (n + 1) m
value_more vs n m v new t e is =
    subst (λ l. ListsValues l (n + 1) m) (sym is) (record { size = length-append vs (v ∷ []) ∙ ap (λ k. k + 1) t.size; each = λ j lt. by_test j lt (nat_lt j n) refl })
  where
    by_test : (j : ℕ) → j < n + 1 → (b : Bool) → nat_lt j n ≡ b → slice_get (vs ++ v ∷ []) j ≡ Some (m j)
    by_test j lt true h = more_at vs v j (m j) (t.each j (grind (h, arith, nat_tests)))
    by_test j lt false h =
        let s : length vs ≡ j = grind (h, lt, t.size, arith, nat_tests) in
        let k : n ≡ j = grind (h, lt, arith, nat_tests) in
        ap (λ i. slice_get (vs ++ v ∷ []) i) (sym s) ∙ last_at vs v ∙ ap Some e ∙ ap (λ i. Some (m i)) k
