-- Entries in pages are one list.
use Rattle.std.proofs.Common.{◌≡◌, ℕ, zero, suc, ◌+◌, ◌*◌, ◌/◌, ◌<◌, ◌≤◌, List, [], ◌∷◌, ◌++◌, length, None, Some, Result, Ok, Err, OnOk, refl, sym, ap, subst, ◌∙◌, arith, length-append}
use Rattle.std.specs.List.{slice_get}
use Rattle.std.proofs.lemmas.List.{append_assoc, append-nil, length_push}
use Rattle.std.proofs.lemmas.Nat.{div-add-mod'}
use Rattle.office_journal.specs.pages.Told.{Told}
use Rattle.office_journal.specs.pages.Limits.{most_entries}
use Rattle.office_journal.specs.pages.refinement.PagesOfCode.{entries_of, AreFull, ArePaged, room_after}

-- ---- lists

-- what stands in the first of two lists
pub get_before : {X : Type 0} (xs ys : List X) (i : ℕ) → i < length xs → slice_get (xs ++ ys) i ≡ slice_get xs i
get_before [] ys i lt = absurd (omega (arith, lt))
get_before (x ∷ xs) ys zero lt = refl
get_before (x ∷ xs) ys (suc i) lt = get_before xs ys i (omega (arith, lt))

-- what stands in the second
get_after : (xs ys : List Told) (i j : ℕ) → i ≡ length xs + j → slice_get (xs ++ ys) i ≡ slice_get ys j
get_after [] ys i j e = let same : i ≡ j = omega (arith, e) in ap (slice_get ys) same
get_after (x ∷ xs) ys zero j e = absurd (omega (arith, e))
get_after (x ∷ xs) ys (suc i) j e = get_after xs ys i j (omega (arith, e))

-- ---- pages

-- one page more
entries_push : (pages : List (List Told)) (page : List Told) → entries_of (pages ++ page ∷ []) ≡ entries_of pages ++ page
entries_push [] page = append-nil page
entries_push (p ∷ pages) page = ap (λ l. p ++ l) (entries_push pages page) ∙ sym (append_assoc p (entries_of pages) page)

full_push : (pages : List (List Told)) (page : List Told) → length page ≡ 256 → AreFull pages → AreFull (pages ++ page ∷ [])
full_push [] page size h = (size, tt)
full_push (p ∷ pages) page size h = (h.0, full_push pages page size h.1)

-- where the last page is one of the full ones, and an empty one is the last, the entries are the same
pub turned : (pages room pages' : List (List Told)) (page moved page' : List Told) → room ≡ pages → pages' ≡ room ++ moved ∷ [] → moved ≡ page → page' ≡ [] → entries_of pages' ++ page' ≡ entries_of pages ++ page
turned pages room pages' page moved page' same more m none =
    ap (λ l. entries_of pages' ++ l) none ∙ append-nil (entries_of pages') ∙ ap entries_of more ∙ entries_push room moved ∙ ap (λ l. entries_of l ++ moved) same ∙ ap (λ l. entries_of pages ++ l) m

pub turned_full : (pages room pages' : List (List Told)) (page moved : List Told) → room ≡ pages → pages' ≡ room ++ moved ∷ [] → moved ≡ page → length page ≡ 256 → AreFull pages → AreFull pages'
turned_full pages room pages' page moved same more m size h =
    subst AreFull (sym (more ∙ ap (λ l. l ++ moved ∷ []) same ∙ ap (λ (l : List Told). pages ++ l ∷ []) m)) (full_push pages page size h)

-- as many entries as there are in full pages, and in the last one
length_of_full : (pages : List (List Told)) → AreFull pages → length (entries_of pages) ≡ length pages * 256
length_of_full [] h = omega arith
length_of_full (p ∷ pages) h = omega (arith, length-append p (entries_of pages), h.0, length_of_full pages h.1)

pub length_is : (pages : List (List Told)) (last : List Told) → AreFull pages → length (entries_of pages ++ last) ≡ length pages * 256 + length last
length_is pages last h = omega (arith, length-append (entries_of pages) last, length_of_full pages h)

-- so what reckons with places of entries stays small
pub few_pages : (pages : List (List Told)) (last : List Told) → ArePaged pages last → length pages * 256 + length last ≤ most_entries
few_pages pages last h = omega (arith, h.few, length_is pages last h.full)

-- the j-th entry of the k-th page, where that is full
pub in_page : (pages : List (List Told)) (last page : List Told) (k j i : ℕ) → AreFull pages → slice_get pages k ≡ Some page → j < 256 → i ≡ k * 256 + j → slice_get (entries_of pages ++ last) i ≡ slice_get page j
in_page [] last page k j i h found lt e = absurd cc
in_page (p ∷ pages) last page zero j i h found lt e =
    let same : p ≡ page = cc in
    let place : i ≡ j = omega (arith, e) in
    let within : j < length p = omega (arith, lt, h.0) in
    let within_all : j < length (p ++ entries_of pages) = omega (arith, within, length-append p (entries_of pages)) in
    ap (slice_get ((p ++ entries_of pages) ++ last)) place ∙ get_before (p ++ entries_of pages) last j within_all ∙ get_before p (entries_of pages) j within ∙ ap (λ l. slice_get l j) same
in_page (p ∷ pages) last page (suc k) j i h found lt e =
    ap (λ l. slice_get l i) (append_assoc p (entries_of pages) last) ∙ get_after p (entries_of pages ++ last) i (k * 256 + j) (omega (arith, e, h.0)) ∙ in_page pages last page k j (k * 256 + j) h.1 found lt refl

-- a place that no full page has is after all of them
past_end : (pages : List (List Told)) (k : ℕ) → slice_get pages k ≡ None → length pages ≤ k
past_end [] k none = omega arith
past_end (p ∷ pages) zero none = absurd cc
past_end (p ∷ pages) (suc k) none = omega (arith, past_end pages k none)

pub after_all : (pages : List (List Told)) (i : ℕ) → slice_get pages (i / 256) ≡ None → length pages * 256 ≤ i
after_all pages i none = omega (arith, past_end pages (i / 256) none, div-add-mod' i 256)

-- what stands after all full pages
pub past_pages : (pages : List (List Told)) (last : List Told) (j i : ℕ) → AreFull pages → i ≡ length pages * 256 + j → slice_get (entries_of pages ++ last) i ≡ slice_get last j
past_pages [] last j i h e = let same : i ≡ j = omega (arith, e) in ap (slice_get last) same
past_pages (p ∷ pages) last j i h e =
    ap (λ l. slice_get l i) (append_assoc p (entries_of pages) last) ∙ get_after p (entries_of pages ++ last) i (length pages * 256 + j) (omega (arith, e, h.0)) ∙ past_pages pages last j (length pages * 256 + j) h.1 refl

-- ---- one entry more

pub pushed_entries : (pages : List (List Told)) (last last' : List Told) (x : Told) → last' ≡ last ++ x ∷ [] → entries_of pages ++ last' ≡ (entries_of pages ++ last) ++ x ∷ []
pushed_entries pages last last' x is = ap (λ l. entries_of pages ++ l) is ∙ sym (append_assoc (entries_of pages) last (x ∷ []))

pub pushed : (pages : List (List Told)) (last last' : List Told) (x : Told) → ArePaged pages last → length last < 256 → length (entries_of pages ++ last) < most_entries → last' ≡ last ++ x ∷ [] → ArePaged pages last'
pushed pages last last' x h left few is =
    let one : length last' ≡ length last + 1 = ap length is ∙ length_push last x in
    let all : length (entries_of pages ++ last') ≡ length (entries_of pages ++ last) + 1 = ap length (pushed_entries pages last last' x is) ∙ length_push (entries_of pages ++ last) x in
    record { full = h.full; last = omega (arith, one, left); few = omega (arith, all, few) }

pub none_paged : ArePaged [] []
none_paged = record { full = tt; last = omega arith; few = omega arith }

-- where other pages have the same entries
pub still_paged : (pages pages' : List (List Told)) (last last' : List Told) → ArePaged pages last → AreFull pages' → length last' ≤ 256 → entries_of pages' ++ last' ≡ entries_of pages ++ last → ArePaged pages' last'
still_paged pages pages' last last' h full short same = record { full = full; last = short; few = omega (arith, ap length same, h.few) }

-- where there is memory for one entry more, in a page that takes it, there is room
pub roomy : (spare page all : ℕ) → 0 < spare → page < 256 → all < most_entries → 0 < room_after spare page all
roomy spare page all s p a = omega (arith, s, p, a)

-- two facts where there is a value make a third
pub on_both : {A E P Q R : Type 0} (r : Result A E) → (P → Q → R) → OnOk r P → OnOk r Q → OnOk r R
on_both (Ok x) f p q = f p q
on_both (Err e) f p q = tt
