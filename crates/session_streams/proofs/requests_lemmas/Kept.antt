-- Bytes of one line, without its end.
use Rattle.std.proofs.Common.{◌≡◌, ◌≤◌, ◌<◌, ◌+◌, ◌-◌, ◌==◌, ◌⊎◌, inl, inr, ℕ, List, [], ◌∷◌, ◌++◌, length, take, drop, get_or, All, true, false, nat_lt, if◌then◌else◌, refl, sym, ap, ◌∙◌, append_assoc, append-nil, length-append, length-take, eqb-true, Result, Ok, Err, OnOk, arith}
use Rattle.std.specs.Prelude.{is_ok}
use Rattle.std.specs.List.{position_or_len}
use Rattle.std.proofs.lemmas.Bool.{cases_lt}
use Rattle.std.proofs.lemmas.Bool.Decides.{nat_tests}
use Rattle.std.proofs.lemmas.List.{get_or-take, drop_more}
use Rattle.std.proofs.lemmas.List.Elements.{All-head, All-tail, All-from_get_or}
use Rattle.std.proofs.lemmas.List.Sums.{fails_before_first, passes_at_first}
use Rattle.text_lines.specs.Text.{is_newline}
use Rattle.office_map.specs.PlanValue.{PlanValue}
use Rattle.session_language.specs.Limits.{most_text}
use Rattle.session_streams.specs.declared.requests.asked.Asked.{Asked}
use Rattle.session_streams.specs.requests.Requests.{Asking, overlong}
use Rattle.session_streams.specs.requests.Bytes.{Taking, line_ended, too_long, byte_kept, byte_taken, taken}

abbrev pub IsWithin : ℕ → Type 0
IsWithin b = (b == 10) ≡ false

-- it is kept, one byte after the other
abbrev pub with_more : Taking → List ℕ → Taking
with_more t bytes = record t { ahead = t.ahead ++ bytes }

module _ (p : PlanValue) (me : ℕ) where
  -- what bytes ask for by what the first of them does
  abbrev on : Taking × List Asked → List ℕ → Taking × List Asked
  on x bs = ((taken p me x.0 bs).0, x.1 ++ (taken p me x.0 bs).1)

  within : (t : Taking) (b : ℕ) → IsWithin b → byte_taken p me t b ≡ byte_kept t b
  within t b h = ap (λ e. if e then line_ended p me t else byte_kept t b) h

  pub skipped : (t : Taking) (part : List ℕ) → t.skips ≡ true → All IsWithin part → taken p me t part ≡ (t, [])
  skipped t [] s h = refl
  skipped t (b ∷ bs) s h =
      let here : byte_kept t b ≡ (t, []) = ap (λ e. if e then (t, []) else if nat_lt (length t.ahead) most_text then (with_more t (b ∷ []), []) else too_long t) s in
      ap (λ x. on x bs) (within t b (All-head IsWithin b bs h) ∙ here) ∙ skipped t bs s (All-tail IsWithin b bs h)

  -- a byte for which there is room, and one for which there is none
  room : (t : Taking) (b : ℕ) → t.skips ≡ false → IsWithin b → length t.ahead < most_text → byte_taken p me t b ≡ (with_more t (b ∷ []), [])
  room t b s h lt =
      let is : nat_lt (length t.ahead) most_text ≡ true = grind (lt, arith, nat_tests) in
      within t b h ∙ ap (λ e. if e then (t, []) else if nat_lt (length t.ahead) most_text then (with_more t (b ∷ []), []) else too_long t) s
      ∙ ap (λ e. if e then (with_more t (b ∷ []), []) else too_long t) is

  no_room : (t : Taking) (b : ℕ) → t.skips ≡ false → IsWithin b → most_text ≤ length t.ahead → byte_taken p me t b ≡ too_long t
  no_room t b s h ge =
      let is : nat_lt (length t.ahead) most_text ≡ false = grind (ge, arith, nat_tests) in
      within t b h ∙ ap (λ e. if e then (t, []) else if nat_lt (length t.ahead) most_text then (with_more t (b ∷ []), []) else too_long t) s
      ∙ ap (λ e. if e then (with_more t (b ∷ []), []) else too_long t) is

  pub kept : (t : Taking) (part : List ℕ) → t.skips ≡ false → All IsWithin part → length part ≤ most_text - length t.ahead → taken p me t part ≡ (with_more t part, [])
  kept t [] s h fits = ap (λ (a : List ℕ). (record t { ahead = a }, [])) (sym (append-nil t.ahead))
  kept t (b ∷ bs) s h fits =
      let one : length (t.ahead ++ b ∷ []) ≡ length t.ahead + 1 = length-append t.ahead (b ∷ []) in
      ap (λ x. on x bs) (room t b s (All-head IsWithin b bs h) (omega (arith, fits)))
      ∙ ap (λ (r : Taking × List Asked). (r.0, r.1)) (kept (with_more t (b ∷ [])) bs s (All-tail IsWithin b bs h) (omega (arith, fits, one)))
      ∙ ap (λ (a : List ℕ). (record t { ahead = a }, [])) (append_assoc t.ahead (b ∷ []) bs)

  pub overflows : (t : Taking) (part : List ℕ) → t.skips ≡ false → All IsWithin part → most_text - length t.ahead < length part → taken p me t part ≡ too_long t
  overflows t [] s h over = absurd (omega (arith, over))
  overflows t (b ∷ bs) s h over = by_room (cases_lt (length t.ahead) most_text) (overflows (with_more t (b ∷ [])) bs s (All-tail IsWithin b bs h))
    where
      by_room : (length t.ahead < most_text) ⊎ (most_text ≤ length t.ahead)
          → (most_text - length (t.ahead ++ b ∷ []) < length bs → taken p me (with_more t (b ∷ [])) bs ≡ too_long (with_more t (b ∷ []))) → taken p me t (b ∷ bs) ≡ too_long t
      by_room (inl lt) others =
          let one : length (t.ahead ++ b ∷ []) ≡ length t.ahead + 1 = length-append t.ahead (b ∷ []) in
          ap (λ x. on x bs) (room t b s (All-head IsWithin b bs h) lt)
          ∙ ap (λ (r : Taking × List Asked). (r.0, r.1)) (others (omega (arith, lt, over, one)))
      by_room (inr ge) others =
          ap (λ x. on x bs) (no_room t b s (All-head IsWithin b bs h) ge)
          ∙ ap (λ (r : Taking × List Asked). (r.0, (too_long t).1 ++ r.1)) (skipped (too_long t).0 bs refl (All-tail IsWithin b bs h))
          ∙ ap (λ (a : List Asked). ((too_long t).0, a)) (append-nil (too_long t).1)

-- ---- what is done with them

-- they are added to what is there of the line
pub added_state : {A E : Type 0} (r : Result A E) (t : Taking) (part ahead : List ℕ) → t.skips ≡ false → All IsWithin part → length part ≤ most_text - length t.ahead → ahead ≡ (if is_ok r then t.ahead ++ part else t.ahead)
    → OnOk r ((p : PlanValue) (me : ℕ) → record t { ahead = ahead } ≡ (taken p me t part).0)
added_state (Ok x) t part ahead s h fits is = λ p me. ap (λ (bs : List ℕ). record t { ahead = bs }) is ∙ sym (ap (λ (y : Taking × List Asked). y.0) (kept p me t part s h fits))
added_state (Err e) t part ahead s h fits is = tt

pub added_asked : {A E : Type 0} (r : Result A E) (t : Taking) (part : List ℕ) (asked : List Asked) → t.skips ≡ false → All IsWithin part → length part ≤ most_text - length t.ahead
    → OnOk r ((p : PlanValue) (me : ℕ) → asked ≡ asked ++ (taken p me t part).1)
added_asked (Ok x) t part asked s h fits = λ p me. sym (append-nil asked) ∙ ap (λ (y : Taking × List Asked). asked ++ y.1) (sym (kept p me t part s h fits))
added_asked (Err e) t part asked s h fits = tt

-- the line is too long
pub long_state : (p : PlanValue) (me : ℕ) (t : Taking) (part ahead : List ℕ) (n : ℕ) (a : Asking) → t.skips ≡ false → All IsWithin part → most_text - length t.ahead < length part → n ≡ t.number → ahead ≡ [] → a ≡ (overlong n t.asking).0
    → record { asking = a; number = t.number; ahead = ahead; skips = true } ≡ (taken p me t part).0
long_state p me t part ahead n a s h over number none is =
    ap (λ (bs : List ℕ). record { asking = a; number = t.number; ahead = bs; skips = true }) none
    ∙ ap (λ (b : Asking). record { asking = b; number = t.number; ahead = []; skips = true }) (is ∙ ap (λ m. (overlong m t.asking).0) number)
    ∙ sym (ap (λ (y : Taking × List Asked). y.0) (overflows p me t part s h over))

pub long_asked : (p : PlanValue) (me : ℕ) (t : Taking) (part : List ℕ) (n : ℕ) (before after : List Asked) → t.skips ≡ false → All IsWithin part → most_text - length t.ahead < length part → n ≡ t.number → after ≡ before ++ (overlong n t.asking).1
    → after ≡ before ++ (taken p me t part).1
long_asked p me t part n before after s h over number is =
    is ∙ ap (λ m. before ++ (overlong m t.asking).1) number ∙ sym (ap (λ (y : Taking × List Asked). before ++ y.1) (overflows p me t part s h over))

-- ---- where a line ends

pub within_before : (bytes : List ℕ) → All IsWithin (take (position_or_len is_newline bytes) bytes)
within_before bytes k d lt =
    let at = position_or_len is_newline bytes in
    let before : k < at = omega (arith, lt, length-take at bytes) in
    ap is_newline (get_or-take at bytes k d before) ∙ fails_before_first is_newline bytes k d before

pub end_next : (bytes : List ℕ) → position_or_len is_newline bytes < length bytes → drop (position_or_len is_newline bytes) bytes ≡ 10 ∷ drop (position_or_len is_newline bytes + 1) bytes
end_next bytes lt =
    let at = position_or_len is_newline bytes in
    drop_more bytes at 0 lt ∙ ap (λ (b : ℕ). b ∷ drop (at + 1) bytes) (eqb-true (get_or bytes at 0) 10 (passes_at_first is_newline bytes 0 lt))

-- where no line ends
pub all_within : (bytes : List ℕ) (at : ℕ) → at ≡ position_or_len is_newline bytes → length bytes ≤ at → All IsWithin bytes
all_within bytes at is none = All-from_get_or IsWithin bytes 0 (λ i lt. fails_before_first is_newline bytes i 0 (omega (arith, lt, none, is)))
