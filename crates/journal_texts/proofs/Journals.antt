-- The lines of a journal, one after the other.
use Rattle.std.proofs.Common.{◌≡◌, ℕ, List, [], ◌∷◌, ◌++◌, map, Bool, true, false, Option, Some, None, Result, Ok, Err, refl, sym, ap, ap₂, ◌∙◌, subst, append_assoc, inl}
use Rattle.std.proofs.lemmas.List.{map-append, append-nil}
use Rattle.office_map.specs.PlanValue.{PlanValue}
use Rattle.text_lines.specs.Text.{statements}
use Rattle.office_journal.specs.declared.event.Entry.{Entry}
use Rattle.journal_texts.specs.declared.fault.JournalRule.{JournalRule}
use Rattle.journal_texts.specs.declared.fault.JournalRule.TheVariants.{Journal}
use Rattle.journal_texts.specs.refinement.ReadLines as told
use Rattle.journal_texts.specs.Lines.{Said, said_of, IsEntry, HasNoFrame}
use Rattle.journal_texts.specs.JournalText.{header_of, AreSaid, AreEntries, HaveEntries, IsJournal, IsFirstFault, RefusesLines, RefusesJournal}
use Rattle.journal_texts.specs.refinement.ReadLines.{Means, Reads, Adds, Told}

-- one line more

entry_more : (ss : List Said) (xs : List Entry) (s : Said) (x : Entry) → AreEntries ss xs true → IsEntry s x → AreEntries (ss ++ s ∷ []) (xs ++ x ∷ []) true
entry_more [] [] s x h k = (k, refl)
entry_more [] (y ∷ ys) s x h k = absurd h
entry_more (t ∷ ts) [] s x h k = cc h.1
entry_more (t ∷ ts) (y ∷ ys) s x h k = (h.0, entry_more ts ys s x h.1 k)

ends_here : (ss : List Said) (xs : List Entry) (s : Said) → AreEntries ss xs true → HasNoFrame s → AreEntries (ss ++ s ∷ []) xs false
ends_here [] [] s h k = (k, refl)
ends_here [] (y ∷ ys) s h k = absurd h
ends_here (t ∷ ts) [] s h k = cc h.1
ends_here (t ∷ ts) (y ∷ ys) s h k = (h.0, ends_here ts ys s h.1 k)

ended_before : (ss : List Said) (xs : List Entry) (s : Said) → AreEntries ss xs false → AreEntries (ss ++ s ∷ []) xs false
ended_before [] [] s h = cc h
ended_before [] (y ∷ ys) s h = absurd h
ended_before (t ∷ ts) [] s h = h
ended_before (t ∷ ts) (y ∷ ys) s h = (h.0, ended_before ts ys s h.1)

one_more : (ss : List Said) (xs ys : List Entry) (s : Said) (t : Told) (ends more : Bool) → AreEntries ss xs ends → Means s t → Adds ends xs t more ys → AreEntries (ss ++ s ∷ []) ys more
one_more ss xs ys s (told.AnEntry x) true more h k a =
    subst (λ b. AreEntries (ss ++ s ∷ []) ys b) (sym a.0) (subst (λ l. AreEntries (ss ++ s ∷ []) l true) (sym a.1) (entry_more ss xs s x h k))
one_more ss xs ys s (told.AnEntry x) false more h k a =
    subst (λ b. AreEntries (ss ++ s ∷ []) ys b) (sym a.0) (subst (λ l. AreEntries (ss ++ s ∷ []) l false) (sym a.1) (ended_before ss xs s h))
one_more ss xs ys s told.NoFrame true more h k a =
    subst (λ b. AreEntries (ss ++ s ∷ []) ys b) (sym a.0) (subst (λ l. AreEntries (ss ++ s ∷ []) l false) (sym a.1) (ends_here ss xs s h k))
one_more ss xs ys s told.NoFrame false more h k a =
    subst (λ b. AreEntries (ss ++ s ∷ []) ys b) (sym a.0) (subst (λ l. AreEntries (ss ++ s ∷ []) l false) (sym a.1) (ended_before ss xs s h))

-- the lines before the rest have these entries
pub record Walked (p : PlanValue) (all rest : List (ℕ × List ℕ)) (entries : List Entry) (ends : Bool) : Type 0 where
  pub before : List (ℕ × List ℕ)
  pub split : all ≡ before ++ rest
  pub said : List Said
  pub each : AreSaid p before said
  pub entered : AreEntries said entries ends

pub none_read : (p : PlanValue) (all : List (ℕ × List ℕ)) → Walked p all all [] true
none_read p all = record { before = []; split = refl; said = []; each = refl; entered = refl }

-- what is said, where something was read
read_as : (o : Option Said) (t : Told) → Reads o (Some t) → (s : Said) × (o ≡ Some s) × Means s t
read_as None t h = absurd h
read_as (Some s) t h = (s, refl, h)

pub further : (p : PlanValue) (all rest left : List (ℕ × List ℕ)) (number : ℕ) (line : List ℕ) (t : Told) (xs ys : List Entry) (ends more : Bool) → rest ≡ (number, line) ∷ left
    → Reads (said_of p line) (Some t) → Adds ends xs t more ys → Walked p all rest xs ends → Walked p all left ys more
further p all rest left number line t xs ys ends more first reads adds w =
    let r = read_as (said_of p line) t reads in
    let f : ℕ × List ℕ → Option Said = λ l. said_of p l.1 in
    record {
      before = w.before ++ (number, line) ∷ [];
      split = w.split ∙ ap (λ l. w.before ++ l) first ∙ sym (append_assoc w.before ((number, line) ∷ []) left);
      said = w.said ++ r.0 ∷ [];
      each = map-append f w.before ((number, line) ∷ []) ∙ ap₂ (λ l o. l ++ o ∷ []) w.each r.1 ∙ sym (map-append Some w.said (r.0 ∷ []));
      entered = one_more w.said xs ys r.0 t ends more w.entered r.2 adds;
    }

pub all_read : (p : PlanValue) (all rest : List (ℕ × List ℕ)) (entries : List Entry) (ends : Bool) → rest ≡ [] → Walked p all rest entries ends → HaveEntries p all entries ends
all_read p all rest entries ends none w =
    let same : all ≡ w.before = w.split ∙ ap (λ l. w.before ++ l) none ∙ append-nil w.before in
    record { said = w.said; each = ap (map (λ l. said_of p l.1)) same ∙ w.each; entered = w.entered }

-- nothing was read
nothing_said : (o : Option Said) → Reads o None → o ≡ None
nothing_said None h = refl
nothing_said (Some s) h = absurd h

pub is_faulty : (p : PlanValue) (all rest left : List (ℕ × List ℕ)) (number : ℕ) (line : List ℕ) (entries : List Entry) (ends : Bool) → rest ≡ (number, line) ∷ left
    → Reads (said_of p line) None → Walked p all rest entries ends → IsFirstFault p all number
is_faulty p all rest left number line entries ends first reads w =
    record { before = w.before; line = line; after = left; said = w.said; split = w.split ∙ ap (λ l. w.before ++ l) first; good = w.each; faulty = nothing_said (said_of p line) reads }

-- the whole text
pub is_journal : (p : PlanValue) (text : List ℕ) (number office office' : ℕ) (line : List ℕ) (rest : List (ℕ × List ℕ)) (entries : List Entry) (ends : Bool)
    → statements text ≡ (number, line) ∷ rest → header_of p line ≡ Ok office' → office ≡ office' → HaveEntries p rest entries ends → IsJournal p text office entries ends
is_journal p text number office office' line rest entries ends first header same e =
    record { first = (number, line); rest = rest; lines = first; header = header ∙ ap Ok (sym same); entered = e }

pub header_fault : (p : PlanValue) (text : List ℕ) (number : ℕ) (line : List ℕ) (rest : List (ℕ × List ℕ)) (why : JournalRule) (h : Result ℕ JournalRule) → statements text ≡ (number, line) ∷ rest → h ≡ header_of p line → h ≡ Err why
    → RefusesJournal p text (record { rule = why; line = number })
header_fault p text number line rest why h first header is = subst (λ ls. RefusesLines p ls (record { rule = why; line = number })) (sym first) (inl (sym header ∙ is, refl))

pub no_header : (p : PlanValue) (text : List ℕ) → statements text ≡ [] → RefusesJournal p text (record { rule = Journal; line = 0 })
no_header p text none = subst (λ ls. RefusesLines p ls (record { rule = Journal; line = 0 })) (sym none) refl
