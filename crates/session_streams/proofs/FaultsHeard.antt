-- What is heard of a text that is refused.
use Rattle.std.proofs.Common.{◌≡◌, ◌≤◌, ◌+◌, ◌⊎◌, inl, inr, ℕ, List, [], ◌∷◌, ◌++◌, map, length, Bool, true, false, Option, Some, None, Result, Ok, Err, nat_lt, refl, sym, ap, ◌∙◌, subst, append_assoc, append-nil, arith}
use Rattle.std.proofs.lemmas.Bool.Decides.{nat_tests}
use Rattle.std.proofs.lemmas.List.{map-append}
use Rattle.office_map.specs.PlanValue.{PlanValue}
use Rattle.office_map.specs.PlanText.{◌>>=◌, ◌>>◌, refuse_if}
use Rattle.text_lines.specs.Text.{lines, statements}
use Rattle.session_meaning.specs.ProgramValue.{ProgramValue}
use Rattle.session_language.specs.declared.fault.SessionRule.{SessionRule}
use Rattle.session_language.specs.declared.fault.SessionRule.TheVariants.{Syntax, TooLong}
use Rattle.session_language.specs.declared.fault.SessionRefusal.{SessionRefusal}
use Rattle.session_language.specs.Limits.{most_text, most_sessions}
use Rattle.session_language.specs.Reading.{Draft, Reading, take_line, at_line, read_lines, nothing_read, unless_open, all_closed, sessions_of}
use Rattle.session_streams.specs.Streams.{Told, Came, Faulty, Listening, begins_session, unclosed, cut, answered, read_on, after_cut, hear, heard_on, listening_after}
use Rattle.session_streams.specs.StreamLaws.{heard_of, TellsFirst, TellsMany, FirstFaultsAreTold}
use Rattle.session_streams.proofs.PartsHeard.{heard_opening, heard_within}
use Rattle.session_streams.proofs.LinesRead.{bare, IsTaken, IsRefused, taken_alone, refused_alone, opening_within}
use Rattle.session_streams.proofs.TextsHeard.{listening, heard_taken, AreHeard, lines_heard, whole_heard}

-- what is told begins with as many sessions as a text has at most, with those that were closed before
record TellsFull (told : List Told) (x : Reading) : Type 0 where
  pub sessions : List ProgramValue
  pub others : List Told
  pub are : told ≡ map Came sessions ++ others
  pub many : most_sessions ≤ length (x.done ++ sessions)

abbrev Tells : Reading → List Told → SessionRefusal → Type 0
Tells x told f = TellsFirst told f ⊎ TellsFull told x

-- ---- the faulty line

at_once : (told rest : List Told) (f : SessionRefusal) → told ≡ Faulty f ∷ rest → TellsFirst told f
at_once told rest f e = record { sessions = []; others = rest; are = e }

full : (x : Reading) (told : List Told) → most_sessions ≤ length x.done → TellsFull told x
full x told many = record { sessions = []; others = told; are = refl; many = subst (λ (d : List ProgramValue). most_sessions ≤ length d) (sym (append-nil x.done)) many }

abbrev fault_at : ℕ × List ℕ → SessionRule → SessionRefusal
fault_at l rule = record { rule = rule; line = l.0 }

abbrev told_from : PlanValue → Reading → List (ℕ × List ℕ) → List Told
told_from p x ls = heard_on p (listening x.open_session) ls

-- where the line is heard so, this is told of it and the others
from_line : (p : PlanValue) (x : Reading) (l : ℕ × List ℕ) (ls : List (ℕ × List ℕ)) (u : Listening × List Told) → hear p (listening x.open_session) l ≡ u → told_from p x (l ∷ ls) ≡ u.1 ++ heard_on p u.0 ls
from_line p x l ls u e = ap (λ (v : Listening × List Told). v.1 ++ heard_on p v.0 ls) e

fault_heard : (p : PlanValue) (x : Reading) (l : ℕ × List ℕ) (ls : List (ℕ × List ℕ)) (rule : SessionRule) → take_line p x l.1 ≡ Err rule → Tells x (told_from p x (l ∷ ls)) (fault_at l rule)
fault_heard p x l ls rule h = by_word (begins_session l.1) refl
  where
    by_open : (o : Option Draft) → x.open_session ≡ o → begins_session l.1 ≡ true → IsRefused x rule (take_line p (bare x.open_session) l.1) → Tells x (told_from p x (l ∷ ls)) (fault_at l rule)
    by_open (Some d) e b r =
        let other = opening_within p x d l.1 b e in
        let same : rule ≡ Syntax = (cc) in
        let read = read_on p nothing_read l in
        let here = heard_opening p (listening x.open_session) l b ∙ ap (λ o. after_cut (unclosed l.0 o) read) e in
        inl (at_once (told_from p x (l ∷ ls)) (read.1 ++ heard_on p read.0 ls) (fault_at l rule) (from_line p x l ls (after_cut (unclosed l.0 (Some d)) read) here ∙ ap (λ s. Faulty (fault_at l s) ∷ (read.1 ++ heard_on p read.0 ls)) (sym same)))
    by_open None e b (inr many) = inr (full x (told_from p x (l ∷ ls)) many)
    by_open None e b (inl alone) =
        let read : take_line p nothing_read l.1 ≡ Err rule = ap (λ o. take_line p (bare o) l.1) (sym e) ∙ alone in
        let here = heard_opening p (listening x.open_session) l b ∙ ap (λ o. after_cut (unclosed l.0 o) (read_on p nothing_read l)) e ∙ ap (λ r. after_cut [] (answered l.0 r)) read in
        inl (at_once (told_from p x (l ∷ ls)) (heard_on p (answered l.0 (Err rule)).0 ls) (fault_at l rule) (from_line p x l ls (after_cut [] (answered l.0 (Err rule))) here))

    by_rule : begins_session l.1 ≡ false → IsRefused x rule (take_line p (bare x.open_session) l.1) → Tells x (told_from p x (l ∷ ls)) (fault_at l rule)
    by_rule e (inr many) = inr (full x (told_from p x (l ∷ ls)) many)
    by_rule e (inl alone) =
        let here = heard_within p (listening x.open_session) l e ∙ ap (answered l.0) alone in
        inl (at_once (told_from p x (l ∷ ls)) (heard_on p (answered l.0 (Err rule)).0 ls) (fault_at l rule) (from_line p x l ls (answered l.0 (Err rule)) here))

    by_word : (b : Bool) → begins_session l.1 ≡ b → Tells x (told_from p x (l ∷ ls)) (fault_at l rule)
    by_word true e = by_open x.open_session refl e (refused_alone p x rule l.1 h)
    by_word false e = by_rule e (refused_alone p x rule l.1 h)

-- ---- lines before it

later_fault : (p : PlanValue) (x z : Reading) (l : ℕ × List ℕ) (ls : List (ℕ × List ℕ)) (f : SessionRefusal) → take_line p x l.1 ≡ Ok z → (t : IsTaken x z (take_line p (bare x.open_session) l.1))
    → Tells z (heard_on p (listening z.open_session) ls) f → Tells x (heard_on p (listening x.open_session) (l ∷ ls)) f
later_fault p x z l ls f h t m = by_end m
  where
    here : hear p (listening x.open_session) l ≡ (listening z.open_session, map Came t.closed)
    here = heard_taken p x z l h t

    joined : (sessions : List ProgramValue) (rest : List Told) → heard_on p (listening z.open_session) ls ≡ map Came sessions ++ rest
        → heard_on p (listening x.open_session) (l ∷ ls) ≡ map Came (t.closed ++ sessions) ++ rest
    joined sessions rest e =
        ap (λ (u : Listening × List Told). u.1 ++ heard_on p u.0 ls) here ∙ ap (λ w. map Came t.closed ++ w) e
        ∙ sym (append_assoc (map Came t.closed) (map Came sessions) rest) ∙ ap (λ w. w ++ rest) (sym (map-append Came t.closed sessions))

    by_end : Tells z (heard_on p (listening z.open_session) ls) f → Tells x (heard_on p (listening x.open_session) (l ∷ ls)) f
    by_end (inl m) = inl (record { sessions = t.closed ++ m.sessions; others = m.others; are = joined m.sessions (Faulty f ∷ m.others) m.are })
    by_end (inr m) =
        let all : z.done ++ m.sessions ≡ x.done ++ (t.closed ++ m.sessions) = ap (λ d. d ++ m.sessions) t.done ∙ append_assoc x.done t.closed m.sessions in
        inr (record { sessions = t.closed ++ m.sessions; others = m.others; are = joined m.sessions m.others m.are; many = subst (λ (d : List ProgramValue). most_sessions ≤ length d) all m.many })

-- by what the first line leaves, where the others are heard so whatever is left
first_faulty : (p : PlanValue) (x : Reading) (l : ℕ × List ℕ) (ls : List (ℕ × List ℕ)) (f : SessionRefusal) (r : Result Reading SessionRule) → take_line p x l.1 ≡ r → (at_line l.0 r >>= λ z. read_lines p z ls) ≡ Err f
    → ((z : Reading) → read_lines p z ls ≡ Err f → Tells z (heard_on p (listening z.open_session) ls) f) → Tells x (heard_on p (listening x.open_session) (l ∷ ls)) f
first_faulty p x l ls f (Ok z) e k others = later_fault p x z l ls f e (taken_alone p x z l.1 e) (others z k)
first_faulty p x l ls f (Err rule) e k others =
    let same : ◌≡◌ {A = SessionRefusal} (record { rule = rule; line = l.0 }) f = (cc) in
    subst (λ (g : SessionRefusal). Tells x (heard_on p (listening x.open_session) (l ∷ ls)) g) same (fault_heard p x l ls rule e)

faults_heard : (p : PlanValue) (ls : List (ℕ × List ℕ)) (x : Reading) (f : SessionRefusal) → read_lines p x ls ≡ Err f → Tells x (heard_on p (listening x.open_session) ls) f
faults_heard p [] x f h = absurd (cc)
faults_heard p (l ∷ ls) x f h = first_faulty p x l ls f (take_line p x l.1) refl h (λ z. faults_heard p ls z f)

-- ---- a text

abbrev after_last : List ℕ → ℕ
after_last text = length (lines text) + 1

-- what is told at the end
abbrev told_last : PlanValue → List ℕ → List Told
told_last p text = cut (after_last text) (listening_after p (listening None) (statements text)).reading

abbrev TextTells : PlanValue → List ℕ → SessionRefusal → Type 0
TextTells p text f = TellsFirst (heard_of p text) f ⊎ TellsMany (heard_of p text)

pub first_faults_are_told : FirstFaultsAreTold
unfolding sessions_of
first_faults_are_told p text f short h = by_length (nat_lt most_text (length text)) refl h
  where
    by_open : (y : Reading) (o : Option Draft) → AreHeard p nothing_read y (statements text) → y.open_session ≡ o → unless_open (length (lines text)) y.done o ≡ Err f → TextTells p text f
    by_open y None m e k = absurd (cc)
    by_open y (Some d) m e k =
        let same : ◌≡◌ {A = SessionRefusal} (record { rule = Syntax; line = after_last text }) f = (cc) in
        inl (record { sessions = m.closed; others = []; are = whole_heard p (statements text) (after_last text) y (Some d) m e ∙ ap (λ g. map Came m.closed ++ Faulty g ∷ []) same })

    by_fault : Tells nothing_read (heard_on p (listening None) (statements text)) f → TextTells p text f
    by_fault (inl m) = inl (record { sessions = m.sessions; others = m.others ++ told_last p text; are = ap (λ (t : List Told). t ++ told_last p text) m.are ∙ append_assoc (map Came m.sessions) (Faulty f ∷ m.others) (told_last p text) })
    by_fault (inr m) = inr (record { sessions = m.sessions; others = m.others ++ told_last p text; are = ap (λ (t : List Told). t ++ told_last p text) m.are ∙ append_assoc (map Came m.sessions) m.others (told_last p text); many = m.many })

    by_lines : (r : Result Reading SessionRefusal) → read_lines p nothing_read (statements text) ≡ r → (r >>= all_closed (length (lines text))) ≡ Err f → TextTells p text f
    by_lines (Ok y) e k = by_open y y.open_session (lines_heard p (statements text) nothing_read y e) refl k
    by_lines (Err g) e k = let same : g ≡ f = (cc) in by_fault (subst (λ (x : SessionRefusal). Tells nothing_read (heard_on p (listening None) (statements text)) x) same (faults_heard p (statements text) nothing_read g e))

    by_length : (b : Bool) → nat_lt most_text (length text) ≡ b → (refuse_if b (record { rule = TooLong; line = 0 }) >> (read_lines p nothing_read (statements text) >>= all_closed (length (lines text)))) ≡ Err f → TextTells p text f
    by_length true e k = absurd (grind (e, short, arith, nat_tests))
    by_length false e k = by_lines (read_lines p nothing_read (statements text)) refl k
