-- Texts that are gathered, one after the other.
use Rattle.std.proofs.Common.{◌≡◌, ℕ, zero, suc, ◌<◌, List, [], ◌∷◌, ◌++◌, length, set, get_or, Option, None, Some, refl, sym, ap, subst, ◌∙◌, arith, ⊎_elim, IsPermutation}
use Rattle.std.specs.Prelude.{Contains, IsSome}
use Rattle.std.proofs.lemmas.Bool.{cases_eq}
use Rattle.std.proofs.lemmas.List.{length-set, get_or-set_same, get_or-set_other}
use Rattle.std.proofs.lemmas.List.Sorted.{IsPermutation-refl, IsPermutation-trans, IsPermutation-sym, IsPermutation-cons, IsPermutation-middle, IsPermutation-to_front, Contains-permutation}
use Rattle.office_map.specs.PlanValue.{PlanValue}
use Rattle.journal_texts.specs.JournalText.{IsJournal, ATextIsOneJournal}
use Rattle.journal_weave.specs.declared.given.GivenJournal.{GivenJournal}
use Rattle.day_audits.specs.declared.audit.fault.GatherFault.{GatherFault}
use Rattle.day_audits.specs.audit.Gathering.{IsOf, IsGiven, present, AreGathered, HaveOne, IsRefused, IsRefusedAt, Lacks}

-- ---- those that are there

none_some : {A B : Type 0} (x : A) → ◌≡◌ {A = Option A} None (Some x) → B
none_some x e = absurd (cc)

some_none : {A B : Type 0} (x : A) → ◌≡◌ {A = Option A} (Some x) None → B
some_none x e = absurd (cc)

present_set : (xs : List (Option (List ℕ))) (a : ℕ) (text : List ℕ) → a < length xs → get_or xs a None ≡ None → IsPermutation (present (set xs a (Some text))) (text ∷ present xs)
present_set [] a text lt none = absurd (omega (arith, lt))
present_set (None ∷ xs) zero text lt none = IsPermutation-refl (text ∷ present xs)
present_set (Some u ∷ xs) zero text lt none = some_none u none
present_set (None ∷ xs) (suc a) text lt none = present_set xs a text (omega (arith, lt)) none
present_set (Some u ∷ xs) (suc a) text lt none =
    IsPermutation-trans (u ∷ present (set xs a (Some text))) (u ∷ text ∷ present xs) (text ∷ u ∷ present xs)
    (IsPermutation-cons u (present (set xs a (Some text))) (text ∷ present xs) (present_set xs a text (omega (arith, lt)) none))
    (IsPermutation-middle (u ∷ []) text (present xs))

has_present : (xs : List (Option (List ℕ))) (a : ℕ) (text : List ℕ) → get_or xs a None ≡ Some text → Contains (present xs) text
has_present [] a text e = none_some text e
has_present (None ∷ xs) zero text e = none_some text e
has_present (Some u ∷ xs) zero text e = (0, omega arith, let both : Some u ≡ Some text = e in cc)
has_present (None ∷ xs) (suc a) text e = has_present xs a text e
has_present (Some u ∷ xs) (suc a) text e = let h = has_present xs a text e in (suc h.0, omega (arith, h.1), h.2)

place_of : (xs : List (Option (List ℕ))) (text : List ℕ) → Contains (present xs) text → (a : ℕ) × (get_or xs a None ≡ Some text)
place_of [] text h = absurd (omega (arith, h.1))
place_of (None ∷ xs) text h = let below = place_of xs text h in (suc below.0, below.1)
place_of (Some u ∷ xs) text (zero, lt, e) = (0, ap Some e)
place_of (Some u ∷ xs) text (suc k, lt, e) = let below = place_of xs text (k, omega (arith, lt), e) in (suc below.0, below.1)

-- ---- what is given of an office

none_given : (p : PlanValue) (a : ℕ) (text : Option (List ℕ)) (j : Option GivenJournal) → IsGiven p a text j → j ≡ None → text ≡ None
none_given p a None j h e = refl
none_given p a (Some t) None h e = absurd h
none_given p a (Some t) (Some j) h e = some_none j e

some_given : (p : PlanValue) (a : ℕ) (text : Option (List ℕ)) (j : Option GivenJournal) → IsGiven p a text j → IsSome j → (t : List ℕ) × (text ≡ Some t) × IsOf p t a
some_given p a text None h e = absurd (cc)
some_given p a None (Some j) h e = absurd h
some_given p a (Some t) (Some j) h e = (t, refl, record { entries = j.entries.items; ends = j.ends; journal = h })

text_given : (p : PlanValue) (a : ℕ) (t : List ℕ) (text : Option (List ℕ)) (j : Option GivenJournal) → IsGiven p a text j → text ≡ Some t → IsSome j × IsOf p t a
text_given p a t None j h e = none_some t e
text_given p a t (Some u) None h e = absurd h
text_given p a t (Some u) (Some j) h e =
    let same : u ≡ t = let both : Some u ≡ Some t = e in cc in
    (refl, subst (λ v. IsOf p v a) same (record { entries = j.entries.items; ends = j.ends; journal = h }))

-- ---- gathering

-- nothing is there
pub push_none : (xs : List (Option GivenJournal)) → ((a : ℕ) → get_or xs a None ≡ None) → (a : ℕ) → get_or (xs ++ None ∷ []) a None ≡ None
push_none [] h zero = refl
push_none [] h (suc a) = refl
push_none (x ∷ xs) h zero = h 0
push_none (x ∷ xs) h (suc a) = push_none xs (λ b. h (suc b)) a

module _ (p : PlanValue) (texts : List (List ℕ)) (journals : List (Option GivenJournal)) (g : AreGathered p texts journals) where
  -- one text more
  pub gathered_more : (text : List ℕ) (a : ℕ) (j : GivenJournal) → a < length journals → get_or journals a None ≡ None → IsJournal p text a j.entries.items j.ends → AreGathered p (texts ++ text ∷ []) (set journals a (Some j))
  gathered_more text a j lt none is = record {
    by_office = set g.by_office a (Some text);
    same =
        IsPermutation-trans (present (set g.by_office a (Some text))) (text ∷ texts) (texts ++ text ∷ [])
        (IsPermutation-trans (present (set g.by_office a (Some text))) (text ∷ present g.by_office) (text ∷ texts)
        (present_set g.by_office a text within (none_given p a _ _ (g.given a) none)) (IsPermutation-cons text (present g.by_office) texts g.same))
        (IsPermutation-sym (texts ++ text ∷ []) (text ∷ texts) (IsPermutation-to_front texts text));
    texts_for = length-set g.by_office a (Some text) ∙ g.texts_for;
    journals_for = length-set journals a (Some j) ∙ g.journals_for;
    given = λ b. ⊎_elim (here b) (elsewhere b) (cases_eq b a);
  }
    where
      within : a < length g.by_office
      within = omega (arith, lt, g.texts_for, g.journals_for)

      here : (b : ℕ) → b ≡ a → IsGiven p b (get_or (set g.by_office a (Some text)) b None) (get_or (set journals a (Some j)) b None)
      here b e =
          subst (λ c. IsGiven p c (get_or (set g.by_office a (Some text)) c None) (get_or (set journals a (Some j)) c None)) (sym e)
          (subst (λ t. IsGiven p a t (get_or (set journals a (Some j)) a None)) (sym (get_or-set_same g.by_office a (Some text) None within))
          (subst (λ k. IsGiven p a (Some text) k) (sym (get_or-set_same journals a (Some j) None lt)) is))

      elsewhere : (b : ℕ) → (b ≡ a → ⊥) → IsGiven p b (get_or (set g.by_office a (Some text)) b None) (get_or (set journals a (Some j)) b None)
      elsewhere b ne =
          subst (λ t. IsGiven p b t (get_or (set journals a (Some j)) b None)) (sym (get_or-set_other g.by_office a b (Some text) None ne))
          (subst (λ k. IsGiven p b (get_or g.by_office b None) k) (sym (get_or-set_other journals a b (Some j) None ne)) (g.given b))

  -- where an office's journal is there, a text of it is
  pub have_one : (a : ℕ) → IsSome (get_or journals a None) → HaveOne p texts a
  have_one a some =
      let h = some_given p a _ _ (g.given a) some in
      (h.0, Contains-permutation (present g.by_office) texts h.0 g.same (has_present g.by_office a h.0 h.1), h.2)

  -- and where it isn't, none is
  pub have_none : ATextIsOneJournal → (a : ℕ) → get_or journals a None ≡ None → HaveOne p texts a → ⊥
  have_none one a none (text, there, is) =
      let at = place_of g.by_office text (Contains-permutation texts (present g.by_office) text (IsPermutation-sym (present g.by_office) texts g.same) there) in
      let h = text_given p at.0 text _ _ (g.given at.0) at.1 in
      let same : at.0 ≡ a = (one p text at.0 a h.1.entries is.entries h.1.ends is.ends h.1.journal is.journal).offices in
      let some : IsSome (get_or journals a None) = subst (λ b. IsSome (get_or journals b None)) same h.0 in
      let nothing : ◌≡◌ {A = Option GivenJournal} (get_or journals a None) None = none in
      absurd (is_none _ some nothing)
    where
      is_none : (o : Option GivenJournal) → IsSome o → o ≡ None → ⊥
      is_none None some e = absurd (cc)
      is_none (Some j) some e = some_none j e

  -- a text that comes next, and is refused
  pub refused_next : (text : List ℕ) (after : List (List ℕ)) (fault : GatherFault) → IsRefused p texts text fault → IsRefusedAt p (texts ++ text ∷ after) (length texts) fault
  refused_next text after fault is = record {
    before = texts;
    text = text;
    after = after;
    split = refl;
    at = refl;
    journals = journals;
    gathered = g;
    refused = is;
  }

  -- the least office that lacks
  pub lacks : ATextIsOneJournal → (a : ℕ) → a < length journals → get_or journals a None ≡ None → ((b : ℕ) → b < a → IsSome (get_or journals b None)) → Lacks p texts a
  lacks one a lt none before = record {
    journals = journals;
    gathered = g;
    of_plan = omega (arith, lt, g.journals_for);
    lacking = have_none one a none;
    before = λ b less. have_one b (before b less);
  }
