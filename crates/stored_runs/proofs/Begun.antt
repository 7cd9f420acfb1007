-- What stands where an office begins, or goes on.
use Rattle.std.proofs.Common.{◌≡◌, ℕ, zero, suc, ◌≤◌, List, [], ◌∷◌, ◌++◌, length, take, Option, None, Some, inl, inr, refl, sym, ap, subst, ◌∙◌, append-nil, arith, length-append}
use Rattle.std.specs.Prelude.{IfSome}
use mathlib.Core.List.{IsPrefix}
use Rattle.std.proofs.lemmas.List.{take_all}
use Rattle.office_map.specs.PlanValue.{PlanValue}
use Rattle.office_journal.specs.declared.event.Entry.{Entry}
use Rattle.locked_office.specs.Calls.{Key}
use Rattle.journal_texts.specs.wording.Words.{line_of_words}
use Rattle.journal_stores.specs.Stores.{Stands}
use Rattle.journal_texts.specs.Written.{header_words, header_line, lines_of, journal_text}
use Rattle.stored_runs.specs.durable.Letting.{StoreHas}
use Rattle.stored_runs.specs.Keeping.{HasText}
use Rattle.stored_runs.specs.Runs.{HasStanding}
use Rattle.stored_runs.proofs.Outcomes.{first_same}

-- the text of a journal has a first line
some_text : (p : PlanValue) (me : ℕ) (es : List Entry) → length (journal_text p me es) ≡ 0 → ⊥
some_text p me es none =
    omega (arith, none, length-append (header_line p me) (lines_of p es), length-append (line_of_words (header_words p me)) (10 ∷ []))

none_of : {A : Type 0} (xs : List A) → length xs ≡ 0 → xs ≡ []
none_of [] h = refl
none_of (x ∷ xs) h = absurd (omega (arith, h))

-- without a text there are no entries
pub no_entries : (p : PlanValue) (me : ℕ) (text : List ℕ) (es : List Entry) → HasText p me text es → length text ≡ 0 → es ≡ []
no_entries p me text es (inl both) h = both.1
no_entries p me text es (inr is) h = absurd (some_text p me es (sym (ap length is) ∙ h))

take_none : (n : ℕ) → take {A = Entry} n [] ≡ []
take_none zero = refl
take_none (suc n) = refl

-- the first line was added
pub begun : (o new : Option (List ℕ)) (p : PlanValue) (me : ℕ) (k : Key) (seen : List Entry) (n bytes : ℕ) → k ≡ (p, me) → bytes ≡ 0 → seen ≡ [] → IfSome o (λ text. (length text ≡ bytes) × HasText p me text seen) → Stands o (header_line p me) new → StoreHas new k seen n
begun None new p me k seen n bytes key none empty has stands = subst (λ x. StoreHas x k seen n) (sym stands) tt
begun (Some text) new p me k seen n bytes key none empty has stands =
    let nothing : text ≡ [] = none_of text (has.0 ∙ none) in
    let first : take n seen ≡ [] = ap (take n) empty ∙ take_none n in
    let all : header_line p me ++ [] ≡ header_line p me = append-nil (header_line p me) in
    subst (λ x. StoreHas x k seen n) (sym stands)
    (ap (λ l. l ++ header_line p me) nothing ∙ sym all ∙ ap (λ (x : Key). journal_text x.0 x.1 []) (sym key) ∙ ap (journal_text k.0 k.1) (sym first))

-- there was a first line
pub went_on : (o : Option (List ℕ)) (p : PlanValue) (me : ℕ) (k : Key) (seen : List Entry) (n bytes : ℕ) → k ≡ (p, me) → (bytes ≡ 0 → ⊥) → n ≡ length seen → IfSome o (λ text. (length text ≡ bytes) × HasText p me text seen) → StoreHas o k seen n
went_on None p me k seen n bytes key some all has = tt
went_on (Some text) p me k seen n bytes key some all (size, inl both) = absurd (some (sym size ∙ ap length both.0))
went_on (Some text) p me k seen n bytes key some all (size, inr is) =
    is ∙ ap (λ (x : Key). journal_text x.0 x.1 seen) (sym key) ∙ ap (journal_text k.0 k.1) (sym (take_all n seen (omega (arith, all))))

-- what stands as one of these says
pub standing_so : (o : Option (List ℕ)) (k : Key) (es : List Entry) (n : ℕ) → StoreHas o k es n → HasStanding o k es n
standing_so None k es n h = tt
standing_so (Some bytes) k es n h = inr h

pub standing_first : (o : Option (List ℕ)) (p : PlanValue) (me : ℕ) (k : Key) (seen : List Entry) (n bytes : ℕ) → k ≡ (p, me) → n ≡ length seen → IfSome o (λ text. (length text ≡ bytes) × HasText p me text seen) → HasStanding o k seen n
standing_first None p me k seen n bytes key all has = tt
standing_first (Some text) p me k seen n bytes key all has =
    subst (λ (l : List Entry). HasText k.0 k.1 text l) (sym (take_all n seen (omega (arith, all)))) (subst (λ (x : Key). HasText x.0 x.1 text seen) (sym key) has.1)

pub standing_on : (o : Option (List ℕ)) (k : Key) (es fs : List Entry) (n : ℕ) → n ≤ length es → IsPrefix es fs → HasStanding o k es n → HasStanding o k fs n
standing_on None k es fs n le p h = tt
standing_on (Some bytes) k es fs n le p h = subst (λ (l : List Entry). HasText k.0 k.1 bytes l) (first_same n es fs le p) h
