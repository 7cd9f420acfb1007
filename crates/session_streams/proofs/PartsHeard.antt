-- What is heard of parts of a stream.
use Rattle.std.proofs.Common.{◌≡◌, ℕ, List, [], ◌∷◌, ◌++◌, true, false, if◌then◌else◌, refl, sym, ap, ap₂, ◌∙◌, append_assoc}
use Rattle.std.proofs.lemmas.List.Elements.{All-head, All-tail}
use Rattle.office_map.specs.PlanValue.{PlanValue}
use Rattle.session_language.specs.Reading.{nothing_read}
use Rattle.session_streams.specs.Streams.{Told, Listening, fresh, passing_over, begins_session, cut, read_on, after_cut, hear, heard_on, listening_after}
use Rattle.session_streams.specs.StreamLaws.{SessionsStandAlone, FaultsAreToldOnce}

-- ---- one line

pub heard_opening : (p : PlanValue) (s : Listening) (l : ℕ × List ℕ) → begins_session l.1 ≡ true → hear p s l ≡ after_cut (cut l.0 s.reading) (read_on p nothing_read l)
heard_opening p s l h = ap (λ b. if b then after_cut (cut l.0 s.reading) (read_on p nothing_read l) else if s.passing then (s, []) else read_on p s.reading l) h

pub heard_within : (p : PlanValue) (s : Listening) (l : ℕ × List ℕ) → begins_session l.1 ≡ false → hear p s l ≡ (if s.passing then (s, []) else read_on p s.reading l)
heard_within p s l h = ap (λ b. if b then after_cut (cut l.0 s.reading) (read_on p nothing_read l) else if s.passing then (s, []) else read_on p s.reading l) h

-- ---- lines after lines

on_after : (p : PlanValue) (ls ms : List (ℕ × List ℕ)) (s : Listening) → heard_on p s (ls ++ ms) ≡ heard_on p s ls ++ heard_on p (listening_after p s ls) ms
on_after p [] ms s = refl
on_after p (l ∷ ls) ms s =
    ap (λ t. (hear p s l).1 ++ t) (on_after p ls ms (hear p s l).0) ∙ sym (append_assoc (hear p s l).1 (heard_on p (hear p s l).0 ls) (heard_on p (listening_after p (hear p s l).0 ls) ms))

after_after : (p : PlanValue) (ls ms : List (ℕ × List ℕ)) (s : Listening) → listening_after p s (ls ++ ms) ≡ listening_after p (listening_after p s ls) ms
after_after p [] ms s = refl
after_after p (l ∷ ls) ms s = after_after p ls ms (hear p s l).0

-- ---- where a session begins

-- what is told from the first line of a session on, after what it cuts off
opening : (p : PlanValue) (s : Listening) (l : ℕ × List ℕ) (ls : List (ℕ × List ℕ)) → begins_session l.1 ≡ true → heard_on p s (l ∷ ls) ≡ cut l.0 s.reading ++ heard_on p fresh (l ∷ ls)
opening p s l ls h =
    let here = heard_opening p s l h in
    let alone = heard_opening p fresh l h in
    let read = read_on p nothing_read l in
    ap (λ (x : Listening × List Told). x.1 ++ heard_on p x.0 ls) here ∙ append_assoc (cut l.0 s.reading) read.1 (heard_on p read.0 ls)
    ∙ ap (λ t. cut l.0 s.reading ++ t) (sym (ap (λ (x : Listening × List Told). x.1 ++ heard_on p x.0 ls) alone))

opening_after : (p : PlanValue) (s : Listening) (l : ℕ × List ℕ) (ls : List (ℕ × List ℕ)) → begins_session l.1 ≡ true → listening_after p s (l ∷ ls) ≡ listening_after p fresh (l ∷ ls)
opening_after p s l ls h =
    ap (λ (x : Listening × List Told). listening_after p x.0 ls) (heard_opening p s l h) ∙ sym (ap (λ (x : Listening × List Told). listening_after p x.0 ls) (heard_opening p fresh l h))

pub sessions_stand_alone : SessionsStandAlone
sessions_stand_alone p before line after n h =
    let there = listening_after p fresh before in
    let told = on_after p before (line ∷ after) fresh ∙ ap (λ t. heard_on p fresh before ++ t) (opening p there line after h) in
    let stands = after_after p before (line ∷ after) fresh ∙ opening_after p there line after h in
    ap₂ (λ (t : List Told) (s : Listening). t ++ cut n s.reading) told stands
    ∙ regrouped (heard_on p fresh before) (cut line.0 there.reading) (heard_on p fresh (line ∷ after)) (cut n (listening_after p fresh (line ∷ after)).reading)
  where
    regrouped : (a b c d : List Told) → (a ++ (b ++ c)) ++ d ≡ (a ++ b) ++ (c ++ d)
    regrouped a b c d = ap (λ t. t ++ d) (sym (append_assoc a b c)) ∙ append_assoc (a ++ b) c d

-- ---- after a fault

pub faults_are_told_once : FaultsAreToldOnce
faults_are_told_once p [] h = refl
faults_are_told_once p (l ∷ ls) h =
    let B : ℕ × List ℕ → Type 0 = λ (l : ℕ × List ℕ). begins_session l.1 ≡ false in
    ap (λ (x : Listening × List Told). x.1 ++ heard_on p x.0 ls) (heard_within p passing_over l (All-head B l ls h)) ∙ faults_are_told_once p ls (All-tail B l ls h)
