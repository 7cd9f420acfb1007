-- A text is one journal at most, and none where it has a fault.
use Rattle.std.proofs.Common.{◌≡◌, ℕ, List, [], ◌∷◌, ◌++◌, map, Bool, Option, Some, None, Result, Ok, Err, refl, sym, ap, ap₂, ◌∙◌, subst, inl, inr}
use Rattle.std.specs.Prelude.{◌⊎◌}
use Rattle.frame_codec.specs.SpellingLaws.{same_frame}
use Rattle.office_map.specs.PlanValue.{PlanValue}
use Rattle.office_journal.specs.declared.event.Event.TheVariants as event
use Rattle.office_journal.specs.declared.event.Entry.{Entry}
use Rattle.office_journal.specs.declared.reply.Reply.TheVariants as reply
use Rattle.journal_texts.specs.declared.fault.JournalRule.{JournalRule}
use Rattle.journal_texts.specs.declared.fault.JournalRefusal.{JournalRefusal}
use Rattle.journal_texts.specs.Lines.{Said, Whole, Made, Came, said_of, IsEntry, HasNoFrame}
use Rattle.journal_texts.specs.JournalText.{header_of, AreSaid, AreEntries, RefusesLine, RefusesLines, ATextIsOneJournal, AFaultyTextIsNoJournal}

-- ---- one entry, one list of them

same_entry : (s : Said) (x y : Entry) → IsEntry s x → IsEntry s y → x ≡ y
same_entry (Whole z) x y h k = h ∙ sym k
same_entry (Made tag v i bytes) x y h k =
    h.2 ∙ ap (λ f. record { tag = tag; event = event.Send v i; reply = reply.Frame f }) (same_frame bytes h.0 k.0 h.1 k.1) ∙ sym k.2
same_entry (Came tag bytes r) x y h k = h.2 ∙ ap (λ f. record { tag = tag; event = event.Took f; reply = r }) (same_frame bytes h.0 k.0 h.1 k.1) ∙ sym k.2

not_both : (s : Said) (x : Entry) → IsEntry s x → HasNoFrame s → ⊥
not_both (Whole z) x h k = k
not_both (Made tag v i bytes) x h k = k h.0 h.1
not_both (Came tag bytes r) x h k = k h.0 h.1

abbrev Same : List Entry → List Entry → Bool → Bool → Type 0
Same xs ys e f = (xs ≡ ys) × (e ≡ f)

same_entries : (ss : List Said) (xs ys : List Entry) (e f : Bool) → AreEntries ss xs e → AreEntries ss ys f → Same xs ys e f
same_entries [] [] [] e f h k = (refl, h ∙ sym k)
same_entries [] [] (y ∷ ys) e f h k = absurd k
same_entries [] (x ∷ xs) ys e f h k = absurd h
same_entries (s ∷ ss) [] [] e f h k = (refl, h.1 ∙ sym k.1)
same_entries (s ∷ ss) [] (y ∷ ys) e f h k = absurd (not_both s y k.0 h.0)
same_entries (s ∷ ss) (x ∷ xs) [] e f h k = absurd (not_both s x h.0 k.0)
same_entries (s ∷ ss) (x ∷ xs) (y ∷ ys) e f h k =
    let more = same_entries ss xs ys e f h.1 k.1 in (ap₂ (λ z l. z ∷ l) (same_entry s x y h.0 k.0) more.0, more.1)

-- ---- one text

abbrev first_or : {X : Type 0} → X → List X → X
first_or d [] = d
first_or d (x ∷ xs) = x

abbrev rest_of : {X : Type 0} → List X → List X
rest_of [] = []
rest_of (x ∷ xs) = xs

abbrev value_or : {X : Type 0} → X → Option X → X
value_or d None = d
value_or d (Some x) = x

same_said : (ss ts : List Said) → map Some ss ≡ map Some ts → ss ≡ ts
same_said [] [] h = refl
same_said [] (t ∷ ts) h = (cc)
same_said (s ∷ ss) [] h = (cc)
same_said (s ∷ ss) (t ∷ ts) h =
    ap₂ (λ x l. x ∷ l) (ap (λ l. value_or s (first_or None l)) h) (same_said ss ts (ap rest_of h))

abbrev office_or : Result ℕ JournalRule → ℕ
office_or (Ok o) = o
office_or (Err e) = 0

pub one_journal : ATextIsOneJournal
one_journal p text o o' xs ys e f h k =
    let cut : h.first ∷ h.rest ≡ k.first ∷ k.rest = sym h.lines ∙ k.lines in
    let first : h.first ≡ k.first = ap (first_or h.first) cut in
    let rest : h.rest ≡ k.rest = ap rest_of cut in
    let header : Ok o ≡ Ok o' = sym h.header ∙ ap (λ (l : ℕ × List ℕ). header_of p l.1) first ∙ k.header in
    let said : h.entered.said ≡ k.entered.said = same_said h.entered.said k.entered.said (sym h.entered.each ∙ ap (map (λ (l : ℕ × List ℕ). said_of p l.1)) rest ∙ k.entered.each) in
    let same = same_entries k.entered.said xs ys e f (subst (λ ss. AreEntries ss xs e) said h.entered.entered) k.entered.entered in
    record { offices = ap office_or header; lists = same.0; ways = same.1 }

-- ---- faults

none_faulty : (p : PlanValue) (before after : List (ℕ × List ℕ)) (n : ℕ) (line : List ℕ) (said : List Said) → AreSaid p (before ++ (n, line) ∷ after) said → said_of p line ≡ None → ⊥
none_faulty p [] after n line [] h k = (cc)
none_faulty p [] after n line (s ∷ said) h k = let one : said_of p line ≡ Some s = ap (first_or (Some s)) h in cc (sym one ∙ k)
none_faulty p (b ∷ before) after n line [] h k = (cc)
none_faulty p (b ∷ before) after n line (s ∷ said) h k = none_faulty p before after n line said (ap rest_of h) k

not_both_headers : (r : Result ℕ JournalRule) (o : ℕ) (e : JournalRule) → r ≡ Ok o → r ≡ Err e → ⊥
not_both_headers r o e h k = cc (sym h ∙ k)

no_line_faulty : (p : PlanValue) (lines : List (ℕ × List ℕ)) (said : List Said) (r : JournalRefusal) → AreSaid p lines said → RefusesLine p lines r → ⊥
no_line_faulty p lines said r h k =
    none_faulty p k.1.before k.1.after r.line k.1.line said (ap (map (λ (l : ℕ × List ℕ). said_of p l.1)) (sym k.1.split) ∙ h) k.1.faulty

not_refused : (p : PlanValue) (first : ℕ × List ℕ) (rest : List (ℕ × List ℕ)) (said : List Said) (o : ℕ) (r : JournalRefusal) → header_of p first.1 ≡ Ok o → AreSaid p rest said
    → (((header_of p first.1 ≡ Err r.rule) × (r.line ≡ first.0)) ⊎ ((office : ℕ) × (header_of p first.1 ≡ Ok office) × RefusesLine p rest r)) → ⊥
not_refused p first rest said o r h k (inl bad) = not_both_headers (header_of p first.1) o r.rule h bad.0
not_refused p first rest said o r h k (inr bad) = no_line_faulty p rest said r k bad.2

pub no_faulty_journal : AFaultyTextIsNoJournal
no_faulty_journal p text r o xs e refused h =
    not_refused p h.first h.rest h.entered.said o r h.header h.entered.each (subst (λ ls. RefusesLines p ls r) h.lines refused)
