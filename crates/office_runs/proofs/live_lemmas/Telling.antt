-- What is told of one office, and of one more.
use Rattle.std.proofs.Common.{◌≡◌, ℕ, ◌+◌, ◌-◌, List, [], ◌∷◌, ◌++◌, length, Bool, true, false, refl, sym, ap, ◌∙◌, arith}
use Rattle.std.specs.List.{flat_map}
use Rattle.std.proofs.lemmas.List.Elements.{All-append, All-cons, All-nil}
use Rattle.std.proofs.lemmas.List.{append-nil, map-append, length-append}
use Rattle.std.proofs.lemmas.List.Concat.{flat_map-append}
use Rattle.session_meaning.specs.declared.ending.Outcome.{Outcome}
use Rattle.site_core.specs.Journals.{Site}
use Rattle.office_stations.specs.Sessions.{finished_of}
use Rattle.office_runs.specs.Runs.{all_finished, text_of, HasJournals, IsReadBack}
use Rattle.office_runs.specs.refinement.Reports.{AddsJournal}

pub finished_more : (sites : List Site) (s : Site) → all_finished (sites ++ s ∷ []) ≡ all_finished sites ++ finished_of s
finished_more sites s = flat_map-append finished_of sites (s ∷ []) ∙ ap (λ l. all_finished sites ++ l) (append-nil (finished_of s))

pub left_more : (sites : List Site) (s : Site) (sessions left next n : ℕ) → left ≡ sessions - length (all_finished sites) → next ≡ left - n → n ≡ length (finished_of s) → next ≡ sessions - length (all_finished (sites ++ s ∷ []))
left_more sites s sessions left next n before after count =
    let all : length (all_finished (sites ++ s ∷ [])) ≡ length (all_finished sites) + length (finished_of s) = ap length (finished_more sites s) ∙ length-append (all_finished sites) (finished_of s) in
    omega (arith, before, after, count, all)

pub text_more : (line : Outcome → List ℕ) (sites : List Site) (s : Site) (before after : List ℕ) → before ≡ flat_map line (all_finished sites) → after ≡ before ++ flat_map line (finished_of s) → after ≡ flat_map line (all_finished (sites ++ s ∷ []))
text_more line sites s before after told more =
    more ∙ ap (λ l. l ++ flat_map line (finished_of s)) told ∙ sym (flat_map-append line (all_finished sites) (finished_of s)) ∙ ap (flat_map line) (sym (finished_more sites s))

-- ---- journals

-- of no office yet
pub no_journals : (wanted : Bool) → HasJournals wanted [] []
no_journals true = (refl, All-nil IsReadBack)
no_journals false = refl

pub journals_more : (wanted : Bool) (sites : List Site) (s : Site) (before after : List (List ℕ)) → HasJournals wanted sites before → AddsJournal wanted s before after → HasJournals wanted (sites ++ s ∷ []) after
journals_more true sites s before after has adds =
    (adds.0 ∙ ap (λ l. l ++ text_of s ∷ []) has.0 ∙ sym (map-append text_of sites (s ∷ [])), All-append IsReadBack sites (s ∷ []) has.1 (All-cons IsReadBack s [] adds.1 (All-nil IsReadBack)))
journals_more false sites s before after has adds = adds ∙ has
