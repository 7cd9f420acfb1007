-- What is said, put together.
use Rattle.std.proofs.Common.{◌≡◌, ◌≢◌, inl, inr, ℕ, suc, Bool, true, false, List, Option, None, Some, Result, Ok, Err, refl, sym, subst}
use Rattle.std.specs.Prelude.{IfOk, IfErr, IsOk, OnOk}
use Rattle.session_meaning.specs.ProgramValue.{ProgramValue}
use Rattle.site_core.specs.Journals.{Site}
use Rattle.session_reports.specs.declared.form.forms.Form.{Form}
use Rattle.session_streams.specs.declared.requests.asked.Asked.TheVariants as ask
use Rattle.serving.specs.declared.answers.lack.Lack.{Lack}
use Rattle.serving.specs.declared.answers.lack.Lack.TheVariants.{JournalFull, Memory}
use Rattle.serving.specs.answers.Said.{Said, OtherSession, TicketAhead}
use Rattle.serving.specs.answers.Answers.{Answered, Answers, Lacks, SaysAgain, known, session_under, tickets_of}
use Rattle.serving.specs.answers.refinement.{Submitted}

-- ---- lines

-- where it is told that a line was said, it was
pub once_said : {A E : Type 0} (a : Result A E) (r : Result Bool Lack) (Q : Type 0) (P : Bool → Type 0) → IfOk r (λ (b : Bool). (b ≡ true) × IsOk a) → OnOk a Q → (Q → P true) → IfOk r P
once_said a (Err l) Q P h q f = tt
once_said (Ok u) (Ok b) Q P h q f = subst P (sym h.0) (f q)
once_said (Err e) (Ok b) Q P h q f = let no' = h.1 in absurd cc

pub on_ok : {A E : Type 0} (r : Result A E) (P Q : Type 0) → (P → Q) → OnOk r P → OnOk r Q
on_ok (Ok x) P Q f h = f h
on_ok (Err e) P Q f h = tt

-- else memory ran out
pub unsaid : (r : Result Bool Lack) (P : Lack → Type 0) → IfErr r (λ (l : Lack). l ≡ Memory) → P Memory → IfErr r P
unsaid (Ok b) P h p = tt
unsaid (Err l) P h p = subst P (sym h) p

-- ---- sessions

pub asked_session : (form : Form) (tag : ℕ) (s : Site) (x : ProgramValue) (r : Result Bool Lack) (s' : Site) (old new : List ℕ) → IfOk r (λ (b : Bool). Submitted form tag s x b s' old new) → IfOk r (λ (b : Bool). Answered form tag s (ask.Session x) b s' old new)
asked_session form tag s x (Err l) s' old new h = tt
asked_session form tag s x (Ok true) s' old new h = h
asked_session form tag s x (Ok false) s' old new h = ((x, refl, h.0), h.1)

-- under the next ticket
pub asked_next : (form : Form) (tag : ℕ) (s : Site) (t : ℕ) (x : ProgramValue) (r : Result Bool Lack) (s' : Site) (old new : List ℕ) → t ≡ suc (tickets_of s) → IfOk r (λ (b : Bool). Submitted form tag s x b s' old new) → IfOk r (λ (b : Bool). Answered form tag s (ask.Numbered t x) b s' old new)
asked_next form tag s t x (Err l) s' old new next h = tt
asked_next form tag s t x (Ok true) s' old new next h = (h.0, inl (next, h.1), h.2)
asked_next form tag s t x (Ok false) s' old new next h = ((x, (refl, next), h.0), h.1)

pub lacks_next : (tag : ℕ) (s : Site) (t : ℕ) (x : ProgramValue) (r : Result Bool Lack) (s' : Site) → t ≡ suc (tickets_of s) → IfErr r (λ (l : Lack). Lacks tag s (ask.Session x) l s') → IfErr r (λ (l : Lack). Lacks tag s (ask.Numbered t x) l s')
lacks_next tag s t x (Ok b) s' next h = tt
lacks_next tag s t x (Err JournalFull) s' next h = (h.0, (h.1, next), h.2)
lacks_next tag s t x (Err Memory) s' next (inl same) = inl same
lacks_next tag s t x (Err Memory) s' next (inr (y, is, r, steps)) = inr (y, (is, next), r, steps)

-- under another ticket
pub asked_again : (tag : ℕ) (s : Site) (t : ℕ) (x : ProgramValue) (said : Said) → t ≢ suc (tickets_of s) → SaysAgain s t x (session_under s t) said → Answers tag s (ask.Numbered t x) said s
asked_again tag s t x said other says = inr (other, refl, says)

pub again_same : (s : Site) (t : ℕ) (x : ProgramValue) (o : Option ProgramValue) → o ≡ Some x → SaysAgain s t x o (known s t)
again_same s t x o is = subst (λ (y : Option ProgramValue). SaysAgain s t x y (known s t)) (sym is) (inl (refl, refl))

pub again_other : (s : Site) (t : ℕ) (x y : ProgramValue) (o : Option ProgramValue) → o ≡ Some y → y ≢ x → SaysAgain s t x o OtherSession
again_other s t x y o is other = subst (λ (z : Option ProgramValue). SaysAgain s t x z OtherSession) (sym is) (inr (other, refl))

pub again_never : (s : Site) (t : ℕ) (x : ProgramValue) (o : Option ProgramValue) → o ≡ None → SaysAgain s t x o TicketAhead
again_never s t x o is = subst (λ (y : Option ProgramValue). SaysAgain s t x y TicketAhead) (sym is) refl
