-- All rounds together.
use Rattle.std.proofs.Common.{◌≡◌, ℕ, List, [], ◌∷◌, ◌++◌, length, refl, sym, ap, ◌∙◌, append_assoc, append-nil, arith, length-append}
use Rattle.std.specs.List.{flat_map}
use Rattle.session_meaning.specs.declared.ending.Outcome.{Outcome}
use Rattle.locked_office.specs.Calls.{Key, DeskPass}
use Rattle.session_streams.specs.declared.requests.asked.Asked.{Asked}
use Rattle.serving.specs.answers.Said.{Said}
use Rattle.serving.specs.Rounds.{AnswersAll, Made, finished_at}
use Rattle.serving.specs.ServingLaws.{AreAnswered, EachIsAnsweredOnce, OutcomesAreToldOnce}

-- as many lines as questions
as_many : (tag : ℕ) (k : Key) (xs : List Asked) (ws : List Said) (p q : DeskPass) → AnswersAll tag k xs ws p q → length ws ≡ length xs
as_many tag k [] [] p q h = refl
as_many tag k [] (w ∷ ws) p q h = absurd h
as_many tag k (x ∷ xs) [] p q h = absurd h
as_many tag k (x ∷ xs) (w ∷ ws) p q (m, one, rest) = let more : length ws ≡ length xs = as_many tag k xs ws m q rest in omega (arith, more)

pub each_once : EachIsAnsweredOnce
each_once tells tag k [] a b waiting left (same, waits) = record { asked = []; are = sym waits ∙ sym (append-nil waiting); each = refl }
each_once tells tag k (r ∷ rs) a b waiting left (m, mid, round, others) =
    let rest : AreAnswered rs mid left = each_once tells tag k rs m b mid left others in
    let first : List Asked = round.answers.asked in
    let came : List Asked = flat_map (λ (x : Made). x.came) rs in
    let said : List Said = flat_map (λ (x : Made). x.said) rs in
    let lines : length r.said ≡ length first = as_many tag k first r.said a.pass round.answers.mid round.answers.answers in
    record {
      asked = first ++ rest.asked;
      are = append_assoc first rest.asked left ∙ ap (λ l. first ++ l) rest.are ∙ sym (append_assoc first mid came) ∙ ap (λ l. l ++ came) round.answers.are ∙ append_assoc waiting r.came came;
      each = omega (arith, lines, rest.each, length-append r.said said, length-append first rest.asked);
    }

pub told_once : OutcomesAreToldOnce
told_once tells tag k [] a b waiting left (same, waits) = ap (finished_at k) (sym same) ∙ sym (append-nil (finished_at k a))
told_once tells tag k (r ∷ rs) a b waiting left (m, mid, round, others) =
    let later : List Outcome = flat_map (λ (x : Made). x.finished) rs in
    told_once tells tag k rs m b mid left others ∙ ap (λ l. l ++ later) round.finished ∙ append_assoc (finished_at k a) r.finished later
