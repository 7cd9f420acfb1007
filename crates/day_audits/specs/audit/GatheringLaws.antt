-- What follows of journals that are gathered, where none is.
use Rattle.std.proofs.Common.{◌≡◌, ℕ, zero, suc, List, [], ◌∷◌, length, get_or, Option, None, refl, sym, ap, subst, IsPermutation}
use Rattle.std.proofs.lemmas.List.Sorted.{IsPermutation-refl}
use Rattle.office_map.specs.declared.entries.OfficeEntry.{OfficeEntry}
use Rattle.office_map.specs.PlanValue.{PlanValue}
use Rattle.journal_weave.specs.declared.given.GivenJournal.{GivenJournal}
use Rattle.day_audits.specs.audit.Gathering.{IsGiven, present, AreGathered}

abbrev nothing : {A : Type 0} → List OfficeEntry → List (Option A)
nothing [] = []
nothing (x ∷ xs) = None ∷ nothing xs

present-nothing : (xs : List OfficeEntry) → present (nothing xs) ≡ []
present-nothing [] = refl
present-nothing (x ∷ xs) = present-nothing xs

length-nothing : (A : Type 0) (xs : List OfficeEntry) → length (nothing {A = A} xs) ≡ length xs
length-nothing A [] = refl
length-nothing A (x ∷ xs) = ap suc (length-nothing A xs)

at_nothing : {A : Type 0} (xs : List OfficeEntry) (a : ℕ) → get_or (nothing {A = A} xs) a None ≡ None
at_nothing [] a = refl
at_nothing (x ∷ xs) zero = refl
at_nothing (x ∷ xs) (suc a) = at_nothing xs a

pub gathered_nothing : (p : PlanValue) (journals : List (Option GivenJournal)) → length journals ≡ length p.offices → ((a : ℕ) → get_or journals a None ≡ None) → AreGathered p [] journals
gathered_nothing p journals size empty = record {
  by_office = nothing p.offices;
  same = subst (λ l. IsPermutation l []) (sym (present-nothing p.offices)) (IsPermutation-refl []);
  texts_for = length-nothing (List ℕ) p.offices;
  journals_for = size;
  given = λ a. subst (λ j. IsGiven p a (get_or (nothing p.offices) a None) j) (sym (empty a)) (subst (λ t. IsGiven p a t None) (sym (at_nothing p.offices a)) tt);
}

-- where no text is there, no journal is
pub none_gathered : (p : PlanValue) → (journals : List (Option GivenJournal)) × AreGathered p [] journals
none_gathered p = (nothing p.offices, gathered_nothing p (nothing p.offices) (length-nothing GivenJournal p.offices) (at_nothing p.offices))
