-- Looking for a ticket.
use Rattle.std.proofs.Common.{◌≡◌, ◌==◌, ℕ, ◌+◌, ◌≤◌, ◌<◌, zero, suc, Bool, true, false, cond, List, [], ◌∷◌, ◌++◌, length, take, drop, Option, None, Some, refl, sym, ap, subst, ◌∙◌, append_assoc, arith, take-append-drop}
use Rattle.std.specs.Prelude.{find, option_map, slice_get}
use Rattle.std.proofs.lemmas.Bool.{eqb-true, ne_eqb}
use Rattle.std.proofs.lemmas.List.{drop_more}
use Rattle.std.proofs.lemmas.Option.{none-some, slice_get_within, get_or_from_slice_get}
use Rattle.session_meaning.specs.ProgramValue.{ProgramValue}
use Rattle.session_meaning.specs.declared.ending.Outcome.{Outcome}
use Rattle.site_core.specs.declared.agendas.session.Session.{Session}
use Rattle.office_journal.specs.declared.event.Event.{Event}
use Rattle.office_journal.specs.declared.event.Event.TheVariants as event
use Rattle.office_journal.specs.declared.event.Entry.{Entry}
use Rattle.office_journal.specs.declared.reply.Reply.{Reply}
use Rattle.office_journal.specs.declared.reply.Reply.TheVariants as reply
use Rattle.site_core.specs.Readers.{outcome_with}
use Rattle.site_core.specs.Submitted.{submitted_by, submitted_in}
use Rattle.serving.specs.answers.Answers.{session_in}
use Rattle.serving.specs.answers.TicketLaws.{AreNumbered}
use Rattle.serving.specs.answers.refinement.{session_by, submitted_as}

-- the session with a ticket, of these
abbrev pub program_with : ℕ → List Session → Option ProgramValue
program_with t xs = option_map (λ (x : Session). x.program) (find (λ (x : Session). x.ticket == t) xs)

abbrev pub first_of : Option ProgramValue → Option ProgramValue → Option ProgramValue
first_of None o = o
first_of (Some p) o = Some p

pub looked_on : (t : ℕ) (xs ys : List Session) → program_with t (xs ++ ys) ≡ first_of (program_with t xs) (program_with t ys)
looked_on t [] ys = refl
looked_on t (x ∷ xs) ys = go (x.ticket == t) (looked_on t xs ys)
  where
    go : (b : Bool) → program_with t (xs ++ ys) ≡ first_of (program_with t xs) (program_with t ys)
        → option_map (λ (x : Session). x.program) (cond b (Some x) (find (λ (x : Session). x.ticket == t) (xs ++ ys))) ≡ first_of (option_map (λ (x : Session). x.program) (cond b (Some x) (find (λ (x : Session). x.ticket == t) xs))) (program_with t ys)
    go true rest = refl
    go false rest = rest

-- ---- entries

submitted_on : (xs ys : List Entry) → submitted_in (xs ++ ys) ≡ submitted_in xs ++ submitted_in ys
submitted_on [] ys = refl
submitted_on (x ∷ xs) ys = ap (λ l. submitted_by x.event x.reply ++ l) (submitted_on xs ys) ∙ sym (append_assoc (submitted_by x.event x.reply) (submitted_in xs) (submitted_in ys))

pub session_on : (t : ℕ) (xs ys : List Entry) → session_in t (xs ++ ys) ≡ first_of (session_in t xs) (session_in t ys)
session_on t xs ys = ap (program_with t) (submitted_on xs ys) ∙ looked_on t (submitted_in xs) (submitted_in ys)

-- an entry, and those after it
pub session_next : (t : ℕ) (e : Entry) (es : List Entry) → session_in t (e ∷ es) ≡ first_of (session_by t (Some e)) (session_in t es)
session_next t e es = session_on t (e ∷ []) es

-- ---- a journal that is looked through

rest_at : (xs : List Entry) (i : ℕ) (x : Entry) → slice_get xs i ≡ Some x → drop i xs ≡ x ∷ drop (i + 1) xs
rest_at xs i x at = drop_more xs i x (slice_get_within xs i x at) ∙ ap (λ y. y ∷ drop (i + 1) xs) (get_or_from_slice_get xs i x x at)

past : (xs : List Entry) (i : ℕ) → slice_get xs i ≡ None → drop i xs ≡ []
past [] zero none = refl
past [] (suc i) none = refl
past (x ∷ xs) zero none = absurd (none-some x (sym none))
past (x ∷ xs) (suc i) none = past xs i none

drop_none : (n : ℕ) → ◌≡◌ {A = List Entry} (drop n []) []
drop_none zero = refl
drop_none (suc n) = refl

drop_past : (xs : List Entry) (i : ℕ) → drop i xs ≡ [] → drop (i + 1) xs ≡ []
drop_past [] i h = drop_none (i + 1)
drop_past (x ∷ xs) zero h = absurd cc
drop_past (x ∷ xs) (suc i) h = let more : suc i + 1 ≡ suc (i + 1) = omega arith in ap (λ k. drop k (x ∷ xs)) more ∙ drop_past xs i h

drop_all : (n : ℕ) (xs : List Entry) → length xs ≤ n → drop n xs ≡ []
drop_all n [] le = drop_none n
drop_all zero (x ∷ xs) le = absurd (omega (arith, le))
drop_all (suc n) (x ∷ xs) le = drop_all n xs (omega (arith, le))

pub by_place : (t : ℕ) (xs : List Entry) (i : ℕ) → session_in t (drop i xs) ≡ first_of (session_by t (slice_get xs i)) (session_in t (drop (i + 1) xs))
by_place t xs i = go (slice_get xs i) refl
  where
    go : (o : Option Entry) → slice_get xs i ≡ o → session_in t (drop i xs) ≡ first_of (session_by t (slice_get xs i)) (session_in t (drop (i + 1) xs))
    go None e =
        let none = past xs i e in
        let more : drop (i + 1) xs ≡ [] = drop_past xs i none in
        ap (session_in t) none ∙ sym (ap (λ (o : Option Entry). first_of (session_by t o) (session_in t (drop (i + 1) xs))) e ∙ ap (session_in t) more)
    go (Some x) e = ap (session_in t) (rest_at xs i x e) ∙ session_next t x (drop (i + 1) xs) ∙ sym (ap (λ (o : Option Entry). first_of (session_by t o) (session_in t (drop (i + 1) xs))) e)

-- of entries from one place on, none of which had it before this one: it has it
pub found_here : (t : ℕ) (xs : List Entry) (first i : ℕ) (p : ProgramValue) → session_in t (drop i xs) ≡ session_in t (drop first xs) → session_by t (slice_get xs i) ≡ Some p → Some p ≡ session_in t (drop first xs)
found_here t xs first i p before here = sym (ap (λ (o : Option ProgramValue). first_of o (session_in t (drop (i + 1) xs))) here) ∙ sym (by_place t xs i) ∙ before

-- or hasn't either
pub not_here : (t : ℕ) (xs : List Entry) (first i : ℕ) → session_in t (drop i xs) ≡ session_in t (drop first xs) → session_by t (slice_get xs i) ≡ None → session_in t (drop (i + 1) xs) ≡ session_in t (drop first xs)
not_here t xs first i before here = sym (ap (λ (o : Option ProgramValue). first_of o (session_in t (drop (i + 1) xs))) here) ∙ sym (by_place t xs i) ∙ before

-- the first entries have theirs at the same places
pub first_at : (xs : List Entry) (n i : ℕ) → i < n → slice_get (take n xs) i ≡ slice_get xs i
first_at xs zero i lt = absurd (omega (arith, lt))
first_at [] (suc n) i lt = refl
first_at (x ∷ xs) (suc n) zero lt = refl
first_at (x ∷ xs) (suc n) (suc i) lt = first_at xs n i (omega (arith, lt))

-- none is left
pub nowhere : (t : ℕ) (xs : List Entry) (i : ℕ) → length xs ≤ i → None ≡ session_in t (drop i xs)
nowhere t xs i le = sym (ap (session_in t) (drop_all i xs le))

pub short : (n : ℕ) (xs : List Entry) → length (take n xs) ≤ n
short zero xs = omega arith
short (suc n) [] = omega arith
short (suc n) (x ∷ xs) = let rest : length (take n xs) ≤ n = short n xs in omega (arith, rest)

-- ---- one entry

of_session : (t n : ℕ) (p : ProgramValue) (b : Bool) → cond b (Some p) None ≡ option_map (λ (x : Session). x.program) (cond b (Some (record { ticket = n; program = p })) None)
of_session t n p true = refl
of_session t n p false = refl

by_one : (t : ℕ) (e : Event) (r : Reply) → submitted_as t e r ≡ program_with t (submitted_by e r ++ [])
by_one t (event.Submit p) (reply.Ticket n) = of_session t n p (n == t)
by_one t (event.Submit p) reply.Done = refl
by_one t (event.Submit p) (reply.Frame f) = refl
by_one t (event.Submit p) reply.Acked = refl
by_one t (event.Submit p) reply.Taken = refl
by_one t (event.Submit p) reply.Repeat = refl
by_one t (event.Submit p) reply.Kept = refl
by_one t (event.Submit p) reply.Early = refl
by_one t (event.Do rule) r = refl
by_one t (event.Send v i) r = refl
by_one t (event.Took f) r = refl
by_one t (event.Withdraw k) r = refl

pub at_entry : (t : ℕ) (xs : List Entry) (i : ℕ) (e : Entry) → slice_get xs i ≡ Some e → submitted_as t e.event e.reply ≡ session_by t (slice_get xs i)
at_entry t xs i e at = by_one t e.event e.reply ∙ sym (ap (session_by t) at)

-- ---- tickets that weren't given

numbered_top : (k n : ℕ) (xs : List Session) → AreNumbered k xs n → k ≤ n
numbered_top k n [] h = omega (arith, h)
numbered_top k n (x ∷ xs) h = let top = numbered_top (suc k) n xs h.1 in omega (arith, top)

pub none_beyond : (k n t : ℕ) (xs : List Session) → AreNumbered k xs n → n < t → program_with t xs ≡ None
none_beyond k n t [] h lt = refl
none_beyond k n t (x ∷ xs) h lt =
    let top : suc k ≤ n = numbered_top (suc k) n xs h.1 in
    let is : x.ticket ≡ suc k = h.0 in
    ap (λ b. option_map (λ (y : Session). y.program) (cond b (Some x) (find (λ (y : Session). y.ticket == t) xs))) (ne_eqb x.ticket t (λ (e : x.ticket ≡ t). absurd (omega (arith, top, lt, is, e))))
    ∙ none_beyond (suc k) n t xs h.1 lt

-- ---- outcomes

pub outcome_stays : (t : ℕ) (xs ys : List Outcome) (o : Outcome) → outcome_with xs t ≡ Some o → outcome_with (xs ++ ys) t ≡ Some o
outcome_stays t [] ys o h = absurd cc
outcome_stays t (x ∷ xs) ys o h = go (x.ticket == t) h (outcome_stays t xs ys o)
  where
    go : (b : Bool) → cond b (Some x) (outcome_with xs t) ≡ Some o → (outcome_with xs t ≡ Some o → outcome_with (xs ++ ys) t ≡ Some o) → cond b (Some x) (outcome_with (xs ++ ys) t) ≡ Some o
    go true h rest = h
    go false h rest = rest h

-- ---- one ticket is given once

parted : (k n : ℕ) (xs ys : List Session) → AreNumbered k (xs ++ ys) n → (m : ℕ) × AreNumbered k xs m × AreNumbered m ys n
parted k n [] ys h = (k, refl, h)
parted k n (x ∷ xs) ys (is, h) = let rest = parted (suc k) n xs ys h in (rest.0, (is, rest.1), rest.2)

above : (k n t : ℕ) (xs : List Session) (p : ProgramValue) → AreNumbered k xs n → program_with t xs ≡ Some p → k < t
above k n t [] p h e = absurd cc
above k n t (x ∷ xs) p (is, h) e = go (x.ticket == t) refl e (above (suc k) n t xs p h)
  where
    go : (b : Bool) → (x.ticket == t) ≡ b → option_map (λ (y : Session). y.program) (cond b (Some x) (find (λ (y : Session). y.ticket == t) xs)) ≡ Some p → (program_with t xs ≡ Some p → suc k < t) → k < t
    go true same e' rest = let one : x.ticket ≡ t = eqb-true x.ticket t same in omega (arith, is, one)
    go false other e' rest = let more : suc k < t = rest e' in omega (arith, more)

-- so the session that the later entries have under a ticket is the one that all have
pub later_is_it : (t n i : ℕ) (es : List Entry) (p : ProgramValue) → AreNumbered 0 (submitted_in es) n → session_in t (drop i es) ≡ Some p → session_in t es ≡ Some p
later_is_it t n i es p numbered there =
    let all : submitted_in es ≡ submitted_in (take i es) ++ submitted_in (drop i es) = ap submitted_in (sym (take-append-drop i es)) ∙ submitted_on (take i es) (drop i es) in
    let parts = parted 0 n (submitted_in (take i es)) (submitted_in (drop i es)) (subst (λ l. AreNumbered 0 l n) all numbered) in
    let none : program_with t (submitted_in (take i es)) ≡ None = none_beyond 0 parts.0 t (submitted_in (take i es)) parts.1 (above parts.0 n t (submitted_in (drop i es)) p parts.2 there) in
    ap (program_with t) all ∙ looked_on t (submitted_in (take i es)) (submitted_in (drop i es)) ∙ ap (λ (o : Option ProgramValue). first_of o (session_in t (drop i es))) none ∙ there

-- where the later ones have none, it is the one that the first have
pub first_has_it : (t i : ℕ) (es : List Entry) → session_in t (drop i es) ≡ None → session_in t (take i es) ≡ session_in t es
first_has_it t i es none =
    sym (ap (session_in t) (sym (take-append-drop i es)) ∙ session_on t (take i es) (drop i es) ∙ ap (first_of (session_in t (take i es))) none ∙ alone (session_in t (take i es)))
  where
    alone : (o : Option ProgramValue) → first_of o None ≡ o
    alone None = refl
    alone (Some x) = refl
