-- A walk over a journal, entry by entry, and texts, session by session.
use Rattle.std.proofs.Common.{◌≡◌, ℕ, ◌+◌, ◌<◌, List, [], ◌∷◌, ◌++◌, length, drop, take, get_or, map, refl, zero, suc, Some, None, Result, Ok, Err, OnOk, sym, ap, subst, ◌∙◌, append_assoc, append-nil}
use Rattle.std.specs.Prelude.{All, slice_get}
use Rattle.std.specs.List.{flat_map}
use Rattle.std.proofs.lemmas.List.{drop_more, take_more}
use Rattle.std.proofs.lemmas.List.Concat.{flat_map-append}
use Rattle.std.proofs.lemmas.List.Elements.{All-push}
use Rattle.std.proofs.lemmas.Option.{none-some, slice_get_within, get_or_from_slice_get}
use Rattle.site_core.specs.declared.agendas.session.Session.{Session}
use Rattle.office_journal.specs.declared.event.Entry.{Entry}
use Rattle.office_map.specs.PlanValue.{PlanValue}
use Rattle.session_programs.specs.Program.{text_under}
use Rattle.day_audits.specs.left.LeftTexts.{ReadsBack, texts_of}
use Rattle.day_audits.specs.left.refinement.Walks.{after_event, left_after}

-- what is left of a list, where its next element is known
rest_at : (xs : List Entry) (i : ℕ) (x : Entry) → slice_get xs i ≡ Some x → drop i xs ≡ x ∷ drop (i + 1) xs
rest_at xs i x at = drop_more xs i x (slice_get_within xs i x at) ∙ ap (λ y. y ∷ drop (i + 1) xs) (get_or_from_slice_get xs i x x at)

past : (xs : List Entry) (i : ℕ) → slice_get xs i ≡ None → drop i xs ≡ []
past [] zero none = refl
past [] (suc i) none = refl
past (x ∷ xs) zero none = absurd (none-some x (sym none))
past (x ∷ xs) (suc i) none = past xs i none

-- one entry more
pub one_noted : (left more all : List Session) (xs : List Entry) (i : ℕ) (x : Entry) → slice_get xs i ≡ Some x → left_after left (drop i xs) ≡ all → more ≡ after_event left x.event x.reply → left_after more (drop (i + 1) xs) ≡ all
one_noted left more all xs i x at so_far is = ap (λ l. left_after l (drop (i + 1) xs)) is ∙ sym (ap (left_after left) (rest_at xs i x at)) ∙ so_far

-- there is no entry any more
pub all_noted : (left all : List Session) (xs : List Entry) (i : ℕ) → slice_get xs i ≡ None → left_after left (drop i xs) ≡ all → left ≡ all
all_noted left all xs i none so_far = sym (ap (left_after left) (past xs i none)) ∙ so_far

-- ---- texts

pub texts_are : (p : PlanValue) (xs : List Session) → flat_map (λ (s : Session). text_under p s.program) xs ≡ texts_of p (map (λ (s : Session). s.program) xs)
texts_are p [] = refl
texts_are p (x ∷ xs) = ap (λ l. text_under p x.program ++ l) (texts_are p xs)

pub on_ok_more : {A E : Type 0} (r : Result A E) (P Q : Type 0) → (P → Q) → OnOk r P → OnOk r Q
on_ok_more (Ok x) P Q f h = f h
on_ok_more (Err e) P Q f h = tt

-- the text of one session more
pub one_told : (p : PlanValue) (xs : List Session) (i : ℕ) (x : Session) (old mid new : List ℕ) → i < length xs → get_or xs i x ≡ x
    → (mid ≡ old ++ flat_map (λ (s : Session). text_under p s.program) (take i xs)) × All (λ (s : Session). ReadsBack p s.program) (take i xs) → new ≡ mid ++ text_under p x.program → ReadsBack p x.program
    → (new ≡ old ++ flat_map (λ (s : Session). text_under p s.program) (take (i + 1) xs)) × All (λ (s : Session). ReadsBack p s.program) (take (i + 1) xs)
one_told p xs i x old mid new lt is so_far added read =
    let f : Session → List ℕ = λ s. text_under p s.program in
    let more : take (i + 1) xs ≡ take i xs ++ x ∷ [] = take_more xs i x lt ∙ ap (λ y. take i xs ++ y ∷ []) is in
    let row : flat_map f (take (i + 1) xs) ≡ flat_map f (take i xs) ++ f x = ap (flat_map f) more ∙ flat_map-append f (take i xs) (x ∷ []) ∙ ap (λ b. flat_map f (take i xs) ++ b) (append-nil (f x)) in (
      added ∙ ap (λ b. b ++ f x) so_far.0 ∙ append_assoc old (flat_map f (take i xs)) (f x) ∙ ap (λ l. old ++ l) (sym row),
      subst (All (λ (s : Session). ReadsBack p s.program)) (sym more) (All-push (λ (s : Session). ReadsBack p s.program) (take i xs) x so_far.1 read),
    )
