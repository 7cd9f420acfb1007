-- The entries of a journal, written one after the other.
use Rattle.std.proofs.Common.{◌≡◌, ℕ, ◌+◌, ◌-◌, ◌≤◌, drop, List, [], ◌∷◌, ◌++◌, length, take, Option, Some, None, sym, ap, ◌∙◌, subst, arith, append_assoc, inl, inr}
use Rattle.std.specs.Prelude.{All, slice_get, option_map}
use Rattle.std.proofs.lemmas.Bool.{cases_lt}
use Rattle.std.proofs.lemmas.Grind.{flat_map-append}
use Rattle.std.proofs.lemmas.List.{take_more, take_all, append-nil}
use Rattle.std.proofs.lemmas.List.Elements.{All-nil, All-cons, All-append}
use Rattle.std.proofs.lemmas.Option.{slice_get_within, get_or_from_slice_get, slice_get-get_or}
use Rattle.bottle_values.specs.ListLaws.{get-drop}
use Rattle.office_map.specs.PlanValue.{PlanValue}
use Rattle.office_map.specs.Consistency.{IsConsistent}
use Rattle.office_journal.specs.declared.event.Event.{Event}
use Rattle.office_journal.specs.declared.event.Event.TheVariants as event
use Rattle.office_journal.specs.declared.event.Entry.{Entry}
use Rattle.office_journal.specs.declared.event.EntryRef.{EntryRef}
use Rattle.office_journal.specs.Shown.{event_shown, entry_shown}
use Rattle.office_journal.proofs.ShownEntries.{entry_in}
use Rattle.office_journal.specs.declared.reply.Reply.{Reply}
use Rattle.site_core.specs.Journals.{IsLegal}
use Rattle.journal_texts.specs.Written.{header_line, entry_line, lines_of, journal_text}
use Rattle.journal_texts.specs.refinement.WrittenValues.{HasText, EntryReadsBack}
use Rattle.journal_texts.proofs.LegalEntries.{IsEventOf, IsEntryOf, legal_entries}

-- what is accepted has a text
pub has_text : (p : PlanValue) (e : Event) (r : Reply) → IsEventOf p e r → HasText p e
has_text p (event.Submit x) r h = h.0
has_text p (event.Do done) r h = tt
has_text p (event.Send v i) r h = tt
has_text p (event.Took f) r h = tt
has_text p (event.Withdraw t) r h = tt

-- the entry at a place
pub entry_at : (P : Entry → Type 0) (xs : List Entry) (i : ℕ) (x : Entry) → All P xs → slice_get xs i ≡ Some x → P x
entry_at P xs i x all at = subst P (get_or_from_slice_get xs i x x at) (all i x (slice_get_within xs i x at))

-- what stands at a place has a text
pub text_at : (p : PlanValue) (me : ℕ) (xs : List Entry) (i : ℕ) (o : Option EntryRef) (e : EntryRef) → IsConsistent p → IsLegal (record { plan = p; me = me; entries = xs }) → option_map entry_shown o ≡ slice_get xs i → o ≡ Some e → HasText p (event_shown e.event)
text_at p me xs i o e ok legal h is = let x = entry_at (IsEntryOf p) xs i (entry_shown e) (legal_entries p me xs ok legal) (entry_in xs i o e h is) in has_text p (event_shown e.event) e.reply x.event

longer : (xs : List Entry) (i : ℕ) (x : Entry) → slice_get xs i ≡ Some x → take (i + 1) xs ≡ take i xs ++ x ∷ []
longer xs i x at = take_more xs i x (slice_get_within xs i x at) ∙ ap (λ y. take i xs ++ y ∷ []) (get_or_from_slice_get xs i x x at)

pub lines_more : (p : PlanValue) (xs : List Entry) (i n : ℕ) (x : Entry) (before text grown : List ℕ) → n ≡ i + 1 → slice_get xs i ≡ Some x → text ≡ before ++ lines_of p (take i xs) → grown ≡ text ++ entry_line p x
    → grown ≡ before ++ lines_of p (take n xs)
lines_more p xs i n x before text grown next at so_far g =
    let one : lines_of p (x ∷ []) ≡ entry_line p x = append-nil (entry_line p x) in
    let more : lines_of p (take i xs) ++ entry_line p x ≡ lines_of p (take n xs) =
    ap (λ l. lines_of p (take i xs) ++ l) (sym one) ∙ sym (flat_map-append (entry_line p) (take i xs) (x ∷ [])) ∙ ap (lines_of p) (sym (longer xs i x at)) ∙ ap (λ k. lines_of p (take k xs)) (sym next) in
    g ∙ ap (λ t. t ++ entry_line p x) so_far ∙ append_assoc before (lines_of p (take i xs)) (entry_line p x) ∙ ap (λ l. before ++ l) more

pub texts_go_on : (p : PlanValue) (office : ℕ) (xs more : List Entry) → journal_text p office (xs ++ more) ≡ journal_text p office xs ++ lines_of p more
texts_go_on p office xs more = ap (λ l. header_line p office ++ l) (flat_map-append (entry_line p) xs more) ∙ sym (append_assoc (header_line p office) (lines_of p xs) (lines_of p more))

-- what stands from a place on
pub in_rest : (xs : List Entry) (from i : ℕ) (x : Entry) → from ≤ i → slice_get xs i ≡ Some x → slice_get (drop from xs) (i - from) ≡ Some x
in_rest xs from i x le at = get-drop xs from (i - from) ∙ ap (slice_get xs) (omega (arith, le)) ∙ at

pub no_more : (xs : List Entry) (from i : ℕ) → from ≤ i → slice_get xs i ≡ None → slice_get (drop from xs) (i - from) ≡ None
no_more xs from i le none = get-drop xs from (i - from) ∙ ap (slice_get xs) (omega (arith, le)) ∙ none

pub one_read_back : (p : PlanValue) (xs : List Entry) (i : ℕ) (x : Entry) → slice_get xs i ≡ Some x → All (EntryReadsBack p) (take i xs) → EntryReadsBack p x → All (EntryReadsBack p) (take (i + 1) xs)
one_read_back p xs i x at all h =
    subst (All (EntryReadsBack p)) (sym (longer xs i x at)) (All-append (EntryReadsBack p) (take i xs) (x ∷ []) all (All-cons (EntryReadsBack p) x [] h (All-nil (EntryReadsBack p))))

-- all are written where there is no entry any more
past : (xs : List Entry) (i : ℕ) (d : Entry) → slice_get xs i ≡ None → take i xs ≡ xs
past xs i d none = elim (cases_lt i (length xs)) [
  | inl lt ↦ cc (sym (slice_get-get_or xs i d lt) ∙ none)
  | inr ge ↦ take_all i xs ge
]

pub all_taken : (xs : List Entry) (i : ℕ) → slice_get xs i ≡ None → take i xs ≡ xs
all_taken [] i none = take_all i [] (omega arith)
all_taken (x ∷ xs) i none = past (x ∷ xs) i x none
