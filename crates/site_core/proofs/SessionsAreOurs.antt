-- What is known of the sessions of an office.
use Rattle.std.proofs.Common.{◌≡◌, ℕ, ◌+◌, ◌<◌, Bool, true, List, [], ◌∷◌, ◌++◌, length, take, get_or, None, Some, refl, sym, ap, subst, ◌∙◌, arith}
use Rattle.std.specs.Prelude.{◌==◌, ◌&&◌, nat_lt, All}
use Rattle.std.specs.List.{list_all}
use Rattle.std.proofs.lemmas.Bool.{and_parts, eqb-true}
use Rattle.std.proofs.lemmas.List.{take_more}
use Rattle.std.proofs.lemmas.List.Elements.{All-head, All-cons}
use Rattle.bottle_values.specs.Maps.{reads_of}
use Rattle.office_map.specs.PlanValue.{PlanValue, is_end}
use Rattle.session_meaning.specs.ProgramValue.{ProgramValue}
use Rattle.session_meaning.specs.Fitting.{block_fits}
use Rattle.session_programs.specs.Program.{fits}
use Rattle.session_programs.specs.measures.Needs.{needs_of}
use Rattle.site_core.specs.declared.agendas.session.Session.{Session}
use Rattle.bottle_values.specs.declared.Value.{Value}
use Rattle.site_core.specs.agendas.Agenda.{Agenda, Current, Idle, Gathering, Working, first_needs, gathering, begun, with_current}
use Rattle.site_core.specs.Offices.{is_ours}

each : (f : ℕ → Bool) (xs : List ℕ) → list_all f xs ≡ true → All (λ r. f r ≡ true) xs
each f [] e = λ i d lt. absurd (omega (arith, lt))
each f (x ∷ xs) e =
    let parts : (f x ≡ true) × (list_all f xs ≡ true) = and_parts _ _ e in
    All-cons (λ r. f r ≡ true) x xs parts.0 (each f xs parts.1)

needed_ends : (p : PlanValue) (me : ℕ) (x : ProgramValue) → is_ours p me x ≡ true → All (λ r. is_end p r me ≡ true) (needs_of x.body)
needed_ends p me x e =
    let parts : ((x.office == me) ≡ true) × (fits p x ≡ true) = and_parts _ _ e in
    let near : ((nat_lt x.office (length p.offices) && list_all (λ r. is_end p r x.office) (needs_of x.body)) ≡ true) × (block_fits p.version x.body ≡ true) = and_parts _ (block_fits p.version x.body) parts.1 in
    let fit : (nat_lt x.office (length p.offices) ≡ true) × (list_all (λ r. is_end p r x.office) (needs_of x.body) ≡ true) = and_parts _ _ near.0 in
    subst (λ o. All (λ r. is_end p r o ≡ true) (needs_of x.body)) (eqb-true x.office me parts.0) (each (λ r. is_end p r x.office) (needs_of x.body) fit.1)

-- what the first waiting session needs is of the office
pub ends_needed : (p : PlanValue) (me : ℕ) (queue : List Session) (rs : List ℕ) → All (λ (s : Session). is_ours p me s.program ≡ true) queue → first_needs queue ≡ Some rs → All (λ r. is_end p r me ≡ true) rs
ends_needed p me [] rs h e = absurd cc
ends_needed p me (s ∷ rest) rs h e =
    let same : needs_of s.program.body ≡ rs = cc in
    subst (All (λ r. is_end p r me ≡ true)) same (needed_ends p me s.program (All-head (λ (x : Session). is_ours p me x.program ≡ true) s rest h))

-- one value more
reads_append : {A : Type 0} (f : ℕ → A) (xs ys : List ℕ) → reads_of (xs ++ ys) f ≡ reads_of xs f ++ reads_of ys f
reads_append f [] ys = refl
reads_append f (x ∷ xs) ys = ap (λ l. (x, f x) ∷ l) (reads_append f xs ys)

pub one_read_more : {A : Type 0} (f : ℕ → A) (rs : List ℕ) (i r d : ℕ) (before after : List (ℕ × A)) (v : A) → i < length rs → r ≡ get_or rs i d → v ≡ f r → before ≡ reads_of (take i rs) f → after ≡ before ++ (r, v) ∷ [] → after ≡ reads_of (take (i + 1) rs) f
one_read_more f rs i r d before after v lt is value so_far grown =
    grown ∙ ap (λ l. l ++ (r, v) ∷ []) so_far ∙ ap (λ x. reads_of (take i rs) f ++ (r, x) ∷ []) value ∙ sym (reads_append f (take i rs) (r ∷ []))
    ∙ ap (λ x. reads_of (take i rs ++ x ∷ []) f) is ∙ ap (λ l. reads_of l f) (sym (take_more rs i d lt))

-- where no session gathers, none begins to work
pub none_begins : (a : Agenda) (values : ℕ → Value) → gathering a.current ≡ None → a ≡ with_current a (begun values a.current)
none_begins a values e = go a.current refl e
  where
    go : (c : Current) → a.current ≡ c → gathering c ≡ None → a ≡ with_current a (begun values c)
    go Idle is h = ap (λ x. with_current a x) is
    go (Gathering s) is h = absurd cc
    go (Working s reads done) is h = ap (λ x. with_current a x) is
