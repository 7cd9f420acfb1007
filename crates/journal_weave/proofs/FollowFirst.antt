-- The first of the journals, one after the other.
use Rattle.std.proofs.Common.{◌≡◌, ℕ, ◌<◌, ◌≤◌, List, [], ◌∷◌, ◌++◌, length, get_or, sym, ap, subst, ◌∙◌, arith, ⊎_elim}
use Rattle.std.proofs.lemmas.Bool.{cases_lt}
use Rattle.std.proofs.lemmas.List.{get_or_append_left, length_push}
use Rattle.std.proofs.Math.Seq.{get_or-append_seam}
use Rattle.office_map.specs.PlanValue.{PlanValue}
use Rattle.journal_weave.specs.declared.given.GivenJournal.{GivenJournal}
use Rattle.journal_weave.specs.ReplayValue.{ReplayValue}
use Rattle.journal_weave.specs.Replays.{IsReplay}
use Rattle.journal_weave.proofs.EntriesTold.{other_default}

-- each of these follows the journal at its place
abbrev pub FollowFirst : PlanValue → List GivenJournal → List ReplayValue → Type 0
FollowFirst plan journals rs = (a : ℕ) (j : GivenJournal) (r : ReplayValue) → a < length rs → j ≡ get_or journals a j → r ≡ get_or rs a r → IsReplay plan a j.entries.items j.ends r

pub follow_none : (plan : PlanValue) (journals : List GivenJournal) (rs : List ReplayValue) → rs ≡ [] → FollowFirst plan journals rs
follow_none plan journals rs none a j r lt is_j is_r = absurd (omega (arith, lt, ap length none))

pub follow_next : (plan : PlanValue) (journals : List GivenJournal) (rs rs' : List ReplayValue) (k : ℕ) (j : GivenJournal) (r : ReplayValue) → rs' ≡ rs ++ r ∷ [] → length rs ≡ k → k < length journals → j ≡ get_or journals k j
    → IsReplay plan k j.entries.items j.ends r → FollowFirst plan journals rs → FollowFirst plan journals rs'
follow_next plan journals rs rs' k j r more count within is follows before a j' r' lt is_j is_r = ⊎_elim old new (cases_lt a (length rs))
  where
    there : r' ≡ get_or (rs ++ r ∷ []) a r'
    there = is_r ∙ ap (λ l. get_or l a r') more

    old : a < length rs → IsReplay plan a j'.entries.items j'.ends r'
    old less = before a j' r' less is_j (there ∙ get_or_append_left rs (r ∷ []) r' a less)

    new : length rs ≤ a → IsReplay plan a j'.entries.items j'.ends r'
    new ge =
        let last : a ≡ length rs = omega (arith, ge, lt, ap length more, length_push rs r) in
        let same_r : r ≡ r' = sym (there ∙ ap (λ n. get_or (rs ++ r ∷ []) n r') last ∙ get_or-append_seam rs r [] r') in
        let at : k ≡ a = sym count ∙ sym last in
        let same_j : j ≡ j' = is ∙ other_default journals k j' j within ∙ ap (λ n. get_or journals n j') at ∙ sym is_j in
        subst (λ x. IsReplay plan a j'.entries.items j'.ends x) same_r (subst (λ (x : GivenJournal). IsReplay plan a x.entries.items x.ends r) same_j (subst (λ n. IsReplay plan n j.entries.items j.ends r) at follows))
