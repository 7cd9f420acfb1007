-- Bytes that are cut where lines end.
use Rattle.std.proofs.Common.{◌≡◌, ◌<◌, ◌+◌, ℕ, List, [], ◌∷◌, ◌++◌, length, take, drop, refl, sym, ap, ◌∙◌, append_assoc, append-nil, take-append-drop, subst}
use Rattle.std.specs.List.{position_or_len}
use Rattle.office_map.specs.PlanValue.{PlanValue}
use Rattle.text_lines.specs.Text.{is_newline}
use Rattle.session_streams.specs.declared.requests.asked.Asked.{Asked}
use Rattle.session_streams.specs.requests.Bytes.{Taking, line_ended, taken}
use Rattle.session_streams.specs.requests.refinement.{Takes}
use Rattle.session_streams.proofs.requests_lemmas.Parts.{parts_are_one}
use Rattle.session_streams.proofs.requests_lemmas.Kept.{end_next}

pub takes_all : (p : PlanValue) (me : ℕ) (t : Taking) (before : List Asked) (bytes : List ℕ) → Takes p me t before bytes t before bytes
takes_all p me t before bytes = record { stands = refl; asked = refl }

-- so it goes on
pub takes_on : (p : PlanValue) (me : ℕ) (t u w : Taking) (before after more : List Asked) (bytes left rest : List ℕ) → Takes p me u after left w more rest → Takes p me t before bytes u after left → Takes p me t before bytes w more rest
takes_on p me t u w before after more bytes left rest h k = record { stands = h.stands ∙ k.stands; asked = h.asked ∙ k.asked }

-- a part of what comes
pub part_taken : (p : PlanValue) (me : ℕ) (t u : Taking) (before after : List Asked) (xs ys : List ℕ) → u ≡ (taken p me t xs).0 → after ≡ before ++ (taken p me t xs).1 → Takes p me t before (xs ++ ys) u after ys
part_taken p me t u before after xs ys stands asked =
    let one = parts_are_one p me t xs ys in
    record {
      stands = ap (λ (s : Taking). (taken p me s ys).0) stands ∙ sym one.stands;
      asked = ap (λ (s : Taking). after ++ (taken p me s ys).1) stands ∙ ap (λ (a : List Asked). a ++ (taken p me (taken p me t xs).0 ys).1) asked
          ∙ append_assoc before (taken p me t xs).1 (taken p me (taken p me t xs).0 ys).1 ∙ ap (λ (a : List Asked). before ++ a) (sym one.asked);
    }

-- the end of a line
pub end_taken : (p : PlanValue) (me : ℕ) (t u : Taking) (before after : List Asked) (rest : List ℕ) → u ≡ (line_ended p me t).0 → after ≡ before ++ (line_ended p me t).1 → Takes p me t before (10 ∷ rest) u after rest
end_taken p me t u before after rest stands asked = record {
  stands = ap (λ (s : Taking). (taken p me s rest).0) stands;
  asked = ap (λ (s : Taking). after ++ (taken p me s rest).1) stands ∙ ap (λ (a : List Asked). a ++ (taken p me (line_ended p me t).0 rest).1) asked
      ∙ append_assoc before (line_ended p me t).1 (taken p me (line_ended p me t).0 rest).1;
}

-- bytes up to where a line ends, and its end
pub line_taken : (p : PlanValue) (me : ℕ) (t u w : Taking) (before after more : List Asked) (bytes : List ℕ) (at : ℕ) → at ≡ position_or_len is_newline bytes → at < length bytes
    → u ≡ (taken p me t (take at bytes)).0 → after ≡ before ++ (taken p me t (take at bytes)).1 → w ≡ (line_ended p me u).0 → more ≡ after ++ (line_ended p me u).1 → Takes p me t before bytes w more (drop (at + 1) bytes)
line_taken p me t u w before after more bytes at is lt stands asked ended told =
    let first : Takes p me t before bytes u after (drop at bytes) = subst (λ (bs : List ℕ). Takes p me t before bs u after (drop at bytes)) (take-append-drop at bytes) (part_taken p me t u before after (take at bytes) (drop at bytes) stands asked) in
    let next : drop at bytes ≡ 10 ∷ drop (at + 1) bytes = by_place at is lt in
    takes_on p me t u w before after more bytes (drop at bytes) (drop (at + 1) bytes) (subst (λ (bs : List ℕ). Takes p me u after bs w more (drop (at + 1) bytes)) (sym next) (end_taken p me u w after more (drop (at + 1) bytes) ended told)) first
  where
    by_place : (at : ℕ) → at ≡ position_or_len is_newline bytes → at < length bytes → drop at bytes ≡ 10 ∷ drop (at + 1) bytes
    by_place at e lt = subst (λ (n : ℕ). n < length bytes → drop n bytes ≡ 10 ∷ drop (n + 1) bytes) (sym e) (end_next bytes) lt

-- bytes in which no line ends
pub rest_taken : (p : PlanValue) (me : ℕ) (t u : Taking) (before after : List Asked) (bytes : List ℕ) → u ≡ (taken p me t bytes).0 → after ≡ before ++ (taken p me t bytes).1 → Takes p me t before bytes u after []
rest_taken p me t u before after bytes stands asked = record { stands = stands; asked = append-nil after ∙ asked }
