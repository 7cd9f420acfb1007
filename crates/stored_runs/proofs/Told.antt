-- What is told at the end.
use Rattle.std.proofs.Common.{◌≡◌, ℕ, ◌-◌, ◌≤◌, List, [], ◌∷◌, ◌++◌, length, take, drop, Option, None, refl, sym, ap, subst, ◌∙◌, append_assoc, arith, length-append, take-append-drop}
use Rattle.std.specs.List.{flat_map}
use Rattle.std.specs.Io.KnownBytes.{Appends}
use Rattle.std.proofs.KnownBytes.{Appends-nil, Appends-trans}
use mathlib.Core.List.{IsPrefix}
use Rattle.std.proofs.lemmas.List.{drop-append-le, drop_all}
use Rattle.std.proofs.lemmas.List.Concat.{flat_map-append}
use Rattle.office_map.specs.PlanValue.{PlanValue}
use Rattle.session_meaning.specs.ProgramValue.{ProgramValue}
use Rattle.session_meaning.specs.declared.ending.Outcome.{Outcome}
use Rattle.office_journal.specs.declared.event.Entry.{Entry}
use Rattle.site_core.specs.Journals.{IsLegal}
use Rattle.locked_office.specs.Calls.{Key, office_with}
use Rattle.session_reports.specs.form.Forms.{outcome_as}
use Rattle.session_reports.specs.declared.form.forms.Form.{Form}
use Rattle.site_core.specs.ReopeningLaws.{legal_first}
use Rattle.office_stations.specs.Sessions.{count_of, finished_of}
use Rattle.stored_runs.specs.declared.ended.Ended.{Ended}
use Rattle.stored_runs.specs.Runs.{finished_by, before_as, told_text, IsLastLine, IsTold}
use Rattle.stored_runs.specs.refinement.Running.{Told}
use Rattle.stored_runs.proofs.Outcomes.{first_same, first_begin, finished_on}

-- ---- lines after lines

drop_front : {A : Type 0} (xs ys : List A) → drop (length xs) (xs ++ ys) ≡ ys
drop_front [] ys = refl
drop_front (x ∷ xs) ys = drop_front xs ys

-- where one list begins another, the lines of what the other has more come after its lines
lines_more : (form : Form) (p : PlanValue) (xs ys : List Outcome) → IsPrefix xs ys → flat_map (outcome_as form p) xs ++ flat_map (outcome_as form p) (drop (length xs) ys) ≡ flat_map (outcome_as form p) ys
lines_more form p xs ys (more, is) =
    ap (λ l. flat_map (outcome_as form p) xs ++ flat_map (outcome_as form p) l) (ap (drop (length xs)) (sym is) ∙ drop_front xs more) ∙ sym (flat_map-append (outcome_as form p) xs more) ∙ ap (flat_map (outcome_as form p)) is

first_all : {A : Type 0} (xs ys : List A) → IsPrefix xs ys → take (length xs) ys ≡ xs
first_all xs ys (more, is) = ap (take (length xs)) (sym is) ∙ front xs more
  where
    front : {A : Type 0} (us vs : List A) → take (length us) (us ++ vs) ≡ us
    front [] vs = refl
    front (u ∷ us) vs = ap (λ l. u ∷ l) (front us vs)

-- the lines of what finished since the last ones were told
pub more_lines : (form : Form) (p : PlanValue) (before : ℕ) (xs ys : List Outcome) (a b c : Option (List ℕ)) (count : ℕ) → before ≤ length xs → count ≡ length xs → IsPrefix xs ys → Appends a b (flat_map (outcome_as form p) (drop before xs)) → Appends b c (flat_map (outcome_as form p) (drop count ys)) →
    Appends a c (flat_map (outcome_as form p) (drop before ys))
more_lines form p before xs ys a b c count le all (more, is) first second =
    let rest : flat_map (outcome_as form p) (drop before xs) ++ flat_map (outcome_as form p) (drop count ys) ≡ flat_map (outcome_as form p) (drop before ys) =
    ap (λ l. flat_map (outcome_as form p) (drop before xs) ++ flat_map (outcome_as form p) l) (ap (λ (n : ℕ). drop n ys) all ∙ ap (drop (length xs)) (sym is) ∙ drop_front xs more)
    ∙ sym (flat_map-append (outcome_as form p) (drop before xs) more) ∙ ap (flat_map (outcome_as form p)) (sym (drop-append-le before xs more le) ∙ ap (drop before) is) in
    subst (Appends a c) rest (Appends-trans a b c (flat_map (outcome_as form p) (drop before xs)) (flat_map (outcome_as form p) (drop count ys)) first second)

-- ---- at the end

module _ (k : Key) (kept es fs : List Entry) (stood : ℕ) (legal : IsLegal (office_with k fs)) (begun : IsPrefix kept fs) (grown : IsPrefix es fs) (within : stood ≤ length es) where
  abbrev standing : List Outcome
  standing = finished_by k fs stood

  legal_standing : IsLegal (office_with k (take stood fs))
  legal_standing = legal_first k.0 k.1 (take stood fs) (drop stood fs) (subst (λ l. IsLegal (office_with k l)) (sym (take-append-drop stood fs)) legal)

  module _ (by : ℕ) (few : by ≤ stood) where
    same : take by es ≡ take by fs
    same = first_same by es fs (omega (arith, few, within)) grown

    -- what finished by fewer of the entries that stand
    pub finished_before : IsPrefix (finished_by k es by) standing
    finished_before = finished_on k (take by es) (take stood fs) legal_standing (subst (λ l. IsPrefix l (take stood fs)) (sym same) (first_begin by stood fs few))

    pub finished_first : length kept ≤ by → IsPrefix (finished_of (office_with k kept)) (finished_by k es by)
    finished_first le =
        let here : kept ≡ take (length kept) fs = sym (first_all kept fs begun) in
        let legal_by : IsLegal (office_with k (take by es)) = subst (λ l. IsLegal (office_with k l)) (sym same) (legal_first k.0 k.1 (take by fs) (drop by fs) (subst (λ l. IsLegal (office_with k l)) (sym (take-append-drop by fs)) legal)) in
        finished_on k kept (take by es) legal_by (subst (λ l. IsPrefix l (take by es)) (sym here) (subst (λ l. IsPrefix (take (length kept) fs) l) (sym same) (first_begin (length kept) by fs le)))

  pub told_at_end : (form : Form) (p : PlanValue) (me : ℕ) (programs : List ProgramValue) (n told : ℕ) (e : Ended) (a b c d : Option (List ℕ)) (last : List ℕ) → n ≡ length (finished_of (office_with k kept)) → Told form p k es (length kept) stood n told b c →
      (e.fault ≡ None → told ≡ length (finished_by k es stood)) → e.unfinished ≡ count_of programs me - told → Appends a b (told_text form p n (finished_of (office_with k kept))) → IsLastLine form e.fault e.unfinished last → Appends c d last → IsTold form p me programs n standing e a d
  told_at_end form p me programs n told e a b c d last count t all left first ends wrote =
      let by : List Outcome = finished_by k es t.by in
      let kept_first : List Outcome = finished_of (office_with k kept) in
      let front : IsPrefix by standing = finished_before t.by t.stand in
      let here : take told standing ≡ by = ap (λ (m : ℕ). take m standing) t.count ∙ first_all by standing front in
      let lines : flat_map (outcome_as form p) kept_first ++ flat_map (outcome_as form p) (drop n by) ≡ flat_map (outcome_as form p) by =
      ap (λ (m : ℕ). flat_map (outcome_as form p) kept_first ++ flat_map (outcome_as form p) (drop m by)) count ∙ lines_more form p kept_first by (finished_first t.by t.stand t.from) in
      let text : told_text form p n kept_first ++ flat_map (outcome_as form p) (drop n by) ≡ told_text form p n (take told standing) =
      append_assoc (before_as form n) (flat_map (outcome_as form p) kept_first) (flat_map (outcome_as form p) (drop n by)) ∙ ap (λ l. before_as form n ++ l) lines ∙ ap (λ (l : List Outcome). told_text form p n l) (sym here) in
      let whole : finished_by k es stood ≡ standing = ap (λ (l : List Entry). finished_of (office_with k l)) (first_same stood es fs within grown) in
      record {
        told = told;
        within = omega (arith, t.count, ap length front.1, length-append by front.0);
        all = λ none. all none ∙ ap length whole;
        left = left;
        last = last;
        ends = ends;
        written = Appends-trans a c d (told_text form p n (take told standing)) last (subst (Appends a c) text (Appends-trans a b c (told_text form p n kept_first) (flat_map (outcome_as form p) (drop n by)) first t.lines)) wrote;
      }

-- all were told before
pub nothing_more : (form : Form) (p : PlanValue) (n : ℕ) (xs : List Outcome) (a : Option (List ℕ)) → length xs ≤ n → Appends a a (flat_map (outcome_as form p) (drop n xs))
nothing_more form p n xs a le = subst (λ (l : List Outcome). Appends a a (flat_map (outcome_as form p) l)) (sym (drop_all n xs le)) (Appends-nil a)
