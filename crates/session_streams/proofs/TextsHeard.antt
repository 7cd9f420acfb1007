-- What is heard of a text that can be read.
use Rattle.std.proofs.Common.{◌≡◌, ◌+◌, ℕ, List, [], ◌∷◌, ◌++◌, map, length, Bool, true, false, Option, Some, None, Result, Ok, Err, nat_lt, refl, sym, ap, ap₂, ◌∙◌, append_assoc, append-nil}
use Rattle.std.proofs.lemmas.List.{map-append}
use Rattle.office_map.specs.PlanValue.{PlanValue}
use Rattle.office_map.specs.PlanText.{◌>>=◌, ◌>>◌, refuse_if}
use Rattle.text_lines.specs.Text.{lines, statements}
use Rattle.session_meaning.specs.ProgramValue.{ProgramValue}
use Rattle.session_language.specs.declared.fault.SessionRule.{SessionRule}
use Rattle.session_language.specs.declared.fault.SessionRule.TheVariants.{TooLong}
use Rattle.session_language.specs.declared.fault.SessionRefusal.{SessionRefusal}
use Rattle.session_language.specs.Limits.{most_text}
use Rattle.session_language.specs.Reading.{Draft, Reading, take_line, at_line, read_lines, nothing_read, unless_open, all_closed, sessions_of}
use Rattle.session_streams.specs.Streams.{Told, Came, Listening, begins_session, unclosed, cut, answered, read_on, after_cut, hear, heard_on, listening_after}
use Rattle.session_streams.specs.StreamLaws.{heard_of, TextsAreHeard}
use Rattle.session_streams.proofs.PartsHeard.{heard_opening, heard_within}
use Rattle.session_streams.proofs.LinesRead.{bare, taken_as, IsTaken, taken_alone, opening_within}

-- this is open, and no line is passed over
abbrev pub listening : Option Draft → Listening
listening o = record { reading = bare o; passing = false }

-- ---- one line

pub heard_taken : (p : PlanValue) (x y : Reading) (l : ℕ × List ℕ) → take_line p x l.1 ≡ Ok y → (t : IsTaken x y (take_line p (bare x.open_session) l.1))
    → hear p (listening x.open_session) l ≡ (listening y.open_session, map Came t.closed)
heard_taken p x y l h t = by_word (begins_session l.1) refl
  where
    by_open : (o : Option Draft) → x.open_session ≡ o → begins_session l.1 ≡ true
        → after_cut (cut l.0 (bare x.open_session)) (read_on p nothing_read l) ≡ (listening y.open_session, map Came t.closed)
    by_open (Some d) e b = let refused = opening_within p x d l.1 b e in absurd (cc)
    by_open None e b =
        let alone : take_line p nothing_read l.1 ≡ taken_as t.closed y.open_session = ap (λ o. take_line p (bare o) l.1) (sym e) ∙ t.alone in
        ap (λ o. after_cut (unclosed l.0 o) (read_on p nothing_read l)) e ∙ ap (λ r. after_cut [] (answered l.0 r)) alone

    by_word : (b : Bool) → begins_session l.1 ≡ b → hear p (listening x.open_session) l ≡ (listening y.open_session, map Came t.closed)
    by_word true e = heard_opening p (listening x.open_session) l e ∙ by_open x.open_session refl e
    by_word false e = heard_within p (listening x.open_session) l e ∙ ap (answered l.0) t.alone

-- ---- lines

pub record AreHeard (p : PlanValue) (x y : Reading) (ls : List (ℕ × List ℕ)) : Type 0 where
  pub closed : List ProgramValue
  pub done : y.done ≡ x.done ++ closed
  pub told : heard_on p (listening x.open_session) ls ≡ map Came closed
  pub stands : listening_after p (listening x.open_session) ls ≡ listening y.open_session

one_more : (p : PlanValue) (x z y : Reading) (l : ℕ × List ℕ) (ls : List (ℕ × List ℕ)) → take_line p x l.1 ≡ Ok z → (t : IsTaken x z (take_line p (bare x.open_session) l.1)) → (m : AreHeard p z y ls) → AreHeard p x y (l ∷ ls)
one_more p x z y l ls h t m =
    let here = heard_taken p x z l h t in
    record {
      closed = t.closed ++ m.closed;
      done = m.done ∙ ap (λ d. d ++ m.closed) t.done ∙ append_assoc x.done t.closed m.closed;
      told = ap (λ (u : Listening × List Told). u.1 ++ heard_on p u.0 ls) here ∙ ap (λ w. map Came t.closed ++ w) m.told ∙ sym (map-append Came t.closed m.closed);
      stands = ap (λ (u : Listening × List Told). listening_after p u.0 ls) here ∙ m.stands;
    }

-- by what the first line leaves, where the others are heard so whatever is left
first_heard : (p : PlanValue) (x y : Reading) (l : ℕ × List ℕ) (ls : List (ℕ × List ℕ)) (r : Result Reading SessionRule) → take_line p x l.1 ≡ r → (at_line l.0 r >>= λ z. read_lines p z ls) ≡ Ok y
    → ((z : Reading) → read_lines p z ls ≡ Ok y → AreHeard p z y ls) → AreHeard p x y (l ∷ ls)
first_heard p x y l ls (Ok z) e k others = one_more p x z y l ls e (taken_alone p x z l.1 e) (others z k)
first_heard p x y l ls (Err rule) e k others = absurd (cc)

pub lines_heard : (p : PlanValue) (ls : List (ℕ × List ℕ)) (x y : Reading) → read_lines p x ls ≡ Ok y → AreHeard p x y ls
lines_heard p [] x y h =
    let same : x ≡ y = (cc) in
    record { closed = []; done = ap (λ (z : Reading). z.done) (sym same) ∙ sym (append-nil x.done); told = refl; stands = ap (λ (z : Reading). listening z.open_session) same }
lines_heard p (l ∷ ls) x y h = first_heard p x y l ls (take_line p x l.1) refl h (λ z. lines_heard p ls z y)

-- ---- a text

pub whole_heard : (p : PlanValue) (ls : List (ℕ × List ℕ)) (n : ℕ) (y : Reading) (o : Option Draft) → (m : AreHeard p nothing_read y ls) → y.open_session ≡ o
    → heard_on p (listening None) ls ++ cut n (listening_after p (listening None) ls).reading ≡ map Came m.closed ++ unclosed n o
whole_heard p ls n y o m e = ap₂ (λ (a b : List Told). a ++ b) m.told (ap (λ (s : Listening). cut n s.reading) m.stands ∙ ap (unclosed n) e)

pub texts_are_heard : TextsAreHeard
unfolding sessions_of
texts_are_heard p text xs h = by_length (nat_lt most_text (length text)) h
  where
    by_open : (y : Reading) (o : Option Draft) → AreHeard p nothing_read y (statements text) → y.open_session ≡ o → unless_open (length (lines text)) y.done o ≡ Ok xs → heard_of p text ≡ map Came xs
    by_open y None m e k =
        let same : y.done ≡ xs = (cc) in
        whole_heard p (statements text) (length (lines text) + 1) y None m e ∙ append-nil (map Came m.closed) ∙ ap (map Came) (sym m.done ∙ same)
    by_open y (Some d) m e k = absurd (cc)

    by_lines : (r : Result Reading SessionRefusal) → read_lines p nothing_read (statements text) ≡ r → (r >>= all_closed (length (lines text))) ≡ Ok xs → heard_of p text ≡ map Came xs
    by_lines (Ok y) e k = by_open y y.open_session (lines_heard p (statements text) nothing_read y e) refl k
    by_lines (Err f) e k = absurd (cc)

    by_length : (b : Bool) → (refuse_if b (record { rule = TooLong; line = 0 }) >> (read_lines p nothing_read (statements text) >>= all_closed (length (lines text)))) ≡ Ok xs → heard_of p text ≡ map Came xs
    by_length true k = absurd (cc)
    by_length false k = by_lines (read_lines p nothing_read (statements text)) refl k
