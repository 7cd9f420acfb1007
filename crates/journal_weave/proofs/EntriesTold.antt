-- One entry more of what an office tells.
use Rattle.std.proofs.Common.{◌≡◌, ℕ, zero, suc, ◌+◌, ◌<◌, List, [], ◌∷◌, ◌++◌, length, map, take, get_or, Some, refl, sym, ap, subst, ◌∙◌, arith, ⊎_elim}
use Rattle.std.specs.Prelude.{slice_get}
use Rattle.std.proofs.lemmas.Bool.{cases_eq}
use Rattle.std.proofs.lemmas.List.{take_more, map-append}
use Rattle.std.proofs.lemmas.Option.{get_or_from_slice_get, slice_get-get_or}
use Rattle.office_map.specs.PlanValue.{PlanValue}
use Rattle.office_journal.specs.declared.event.Entry.{Entry}
use Rattle.site_core.specs.Journals.{noted}
use Rattle.journal_weave.specs.Weaving.{untagged}
use Rattle.journal_weave.specs.Following.{site_of, Gives, Follows, IsLimit}

-- an element that is there is the same, whatever stands for one that isn't
pub other_default : {X : Type 0} (xs : List X) (i : ℕ) (d c : X) → i < length xs → get_or xs i c ≡ get_or xs i d
other_default xs i d c lt = get_or_from_slice_get xs i (get_or xs i d) c (slice_get-get_or xs i d lt)

pub some_below : {X : Type 0} (xs : List X) (i : ℕ) (x : X) → slice_get xs i ≡ Some x → i < length xs
some_below [] i x e = cc
some_below (y ∷ xs) zero x e = omega arith
some_below (y ∷ xs) (suc i) x e = omega (arith, some_below xs i x e)

pub untagged_next : (xs : List Entry) (i : ℕ) (x : Entry) → slice_get xs i ≡ Some x → map untagged (take (i + 1) xs) ≡ map untagged (take i xs) ++ untagged x ∷ []
untagged_next xs i x e =
    ap (map untagged) (take_more xs i x (some_below xs i x e))
    ∙ map-append untagged (take i xs) _
    ∙ ap (λ y. map untagged (take i xs) ++ untagged y ∷ []) (get_or_from_slice_get xs i x x e)

pub site_next : (plan : PlanValue) (a : ℕ) (xs : List Entry) (i : ℕ) (x : Entry) → slice_get xs i ≡ Some x → noted (site_of plan a (take i xs)) 0 x.event x.reply ≡ site_of plan a (take (i + 1) xs)
site_next plan a xs i x e = ap (λ es. record { plan = plan; me = a; entries = es }) (sym (untagged_next xs i x e))

pub follows_next : (plan : PlanValue) (a : ℕ) (xs : List Entry) (i : ℕ) (x : Entry) → slice_get xs i ≡ Some x → Follows plan a xs i → Gives (site_of plan a (take i xs)) x → Follows plan a xs (i + 1)
follows_next plan a xs i x e h g j y lt at = ⊎_elim
    (λ is.
    let same : x ≡ y = let both : Some x ≡ Some y = sym e ∙ ap (slice_get xs) (sym is) ∙ at in cc in
    subst (λ k. Gives (site_of plan a (take k xs)) y) (sym is) (subst (Gives (site_of plan a (take i xs))) same g))
    (λ ne. h j y (omega (arith, lt, ne)) at)
    (cases_eq j i)

-- the limit is where the next entry isn't given
pub limit_at : (plan : PlanValue) (a : ℕ) (xs : List Entry) (i n : ℕ) (x : Entry) → n ≡ i → i < length xs → slice_get xs i ≡ Some x → Follows plan a xs i → (Gives (site_of plan a (take i xs)) x → ⊥) → IsLimit plan a xs n
limit_at plan a xs i n x is lt at follows lacks = subst (IsLimit plan a xs) (sym is) (record {
  within = omega (arith, lt);
  follows = follows;
  no_more = λ y there g.
      let same : y ≡ x = let both : Some y ≡ Some x = sym there ∙ at in cc in
      lacks (subst (Gives (site_of plan a (take i xs))) same g);
})

-- or the end
pub limit_at_end : (plan : PlanValue) (a : ℕ) (xs : List Entry) (i n : ℕ) → n ≡ i → i ≡ length xs → Follows plan a xs i → IsLimit plan a xs n
limit_at_end plan a xs i n is end follows = subst (IsLimit plan a xs) (sym is) (record {
  within = omega (arith, end);
  follows = follows;
  no_more = λ y there g. let lt : i < length xs = some_below xs i y there in omega (arith, end, lt);
})

-- what the next entry is, by what is told without tags
pub next_told : (xs : List Entry) (i : ℕ) (z : Entry) (rest : List Entry) → map untagged xs ≡ map untagged (take i xs) ++ z ∷ rest → (y : Entry) × (slice_get xs i ≡ Some y) × (untagged y ≡ z)
next_told [] zero z rest e = cc
next_told [] (suc i) z rest e = cc
next_told (x ∷ xs) zero z rest e = (x, refl, cc)
next_told (x ∷ xs) (suc i) z rest e = let tail : map untagged xs ≡ map untagged (take i xs) ++ z ∷ rest = cc in next_told xs i z rest tail
