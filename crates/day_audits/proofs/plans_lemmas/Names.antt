-- The names of a plan's offices tell them apart.
use Rattle.std.proofs.Common.{◌≡◌, ◌≢◌, ℕ, ◌<◌, List, [], ◌∷◌, length, Bool, true, false, ◌&&◌, ◌||◌, Some, if◌then◌else◌, sym, ap, ◌∙◌, arith, ⊎_elim}
use Rattle.std.specs.Prelude.{All, ◌==◌}
use Rattle.std.specs.List.{list_any}
use Rattle.std.specs.Str.{bytes_eq}
use Rattle.std.proofs.lemmas.Bool.{and_parts, or_left, or_right, or_cases, eqb-true}
use Rattle.std.proofs.lemmas.List.Elements.{All-head, All-tail}
use Rattle.office_map.specs.declared.entries.PairEntry.{PairEntry}
use Rattle.office_map.specs.PlanValue.{PlanValue, office_named, joins, are_neighbours}
use Rattle.office_map.specs.Consistency.{IsConsistent}
use Rattle.session_reports.specs.Names.{office_name}
use Rattle.journal_texts.proofs.wording_lemmas.NamesAndNumbers.{office_name_again, name_of_office, office_word}
use Rattle.day_audits.proofs.plans_lemmas.PlanLines.{IsCut, cut_name}
use Rattle.day_audits.proofs.plans_lemmas.Places.{same_bytes, other_bytes}

module _ (p : PlanValue) (ok : IsConsistent p) where
  -- the name of an office is cut from a line
  pub cut_office : (i : ℕ) → i < length p.offices → IsCut (office_name p i)
  cut_office i lt = cut_name (office_name p i) (office_word p ok i lt) (name_of_office p ok i lt)

  pub cut_end : (t : Bool) (i j : ℕ) → i < length p.offices → j < length p.offices → IsCut (office_name p (if t then i else j))
  cut_end true i j a b = cut_office i a
  cut_end false i j a b = cut_office j b

  pub names_differ : (i j : ℕ) → i < length p.offices → j < length p.offices → i ≢ j → office_name p i ≢ office_name p j
  names_differ i j a b apart same =
      let both : Some i ≡ Some j = sym (office_name_again p ok i a) ∙ ap (office_named p) same ∙ office_name_again p ok j b in
      let one : i ≡ j = cc in
      apart one

  -- the word of one of two ends tells which it is
  pub end_told : (i j : ℕ) → i < length p.offices → j < length p.offices → i ≢ j → (t : Bool) → bytes_eq (office_name p (if t then i else j)) (office_name p i) ≡ t
  end_told i j a b apart true = same_bytes (office_name p i)
  end_told i j a b apart false = other_bytes (office_name p j) (office_name p i) (names_differ j i b a (λ e. apart (sym e)))

  pub end_is_one : (i j : ℕ) → (t : Bool) → (bytes_eq (office_name p (if t then i else j)) (office_name p i) || bytes_eq (office_name p (if t then i else j)) (office_name p j)) ≡ true
  end_is_one i j true = or_left (bytes_eq (office_name p i) (office_name p i)) (bytes_eq (office_name p i) (office_name p j)) (same_bytes (office_name p i))
  end_is_one i j false = or_right (bytes_eq (office_name p j) (office_name p i)) (bytes_eq (office_name p j) (office_name p j)) (same_bytes (office_name p j))

-- neighbours are offices
within : (pairs : List PairEntry) (n a b : ℕ) → All (λ (pair : PairEntry). (pair.first < n) × (pair.second < n)) pairs → list_any (joins a b) pairs ≡ true → (a < n) × (b < n)
within [] n a b h e = absurd cc
within (x ∷ xs) n a b h e =
    let P : PairEntry → Type 0 = λ pair. (pair.first < n) × (pair.second < n) in
    let ends = All-head P x xs h in
    ⊎_elim
    (λ s. ⊎_elim
    (λ k. let j : ((x.first == a) ≡ true) × ((x.second == b) ≡ true) = and_parts _ _ k in
    let f : x.first ≡ a = eqb-true x.first a j.0 in
    let g : x.second ≡ b = eqb-true x.second b j.1 in
    (omega (arith, ends.0, f), omega (arith, ends.1, g)))
    (λ k. let j : ((x.first == b) ≡ true) × ((x.second == a) ≡ true) = and_parts _ _ k in
    let f : x.first ≡ b = eqb-true x.first b j.0 in
    let g : x.second ≡ a = eqb-true x.second a j.1 in
    (omega (arith, ends.1, g), omega (arith, ends.0, f)))
    (or_cases (x.first == a && x.second == b) (x.first == b && x.second == a) s))
    (λ s. within xs n a b (All-tail P x xs h) s)
    (or_cases (joins a b x) (list_any (joins a b) xs) e)

pub neighbours_are_offices : (p : PlanValue) (a b : ℕ) → IsConsistent p → are_neighbours p a b ≡ true → (a < length p.offices) × (b < length p.offices)
neighbours_are_offices p a b ok near = within p.pairs (length p.offices) a b ok.ends_are_offices near
