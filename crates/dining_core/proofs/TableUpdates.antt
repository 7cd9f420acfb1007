-- What a changed table means.
use Rattle.std.proofs.Common.{◌≡◌, ℕ, zero, suc, ◌<◌, Bool, true, false, cond, List, [], ◌∷◌, length, map, refl, sym, ap, ◌∙◌, arith, ⊎_elim, set, get_or}
use Rattle.std.specs.Prelude.{◌==◌, All, ◌&&◌, not}
use Rattle.std.specs.List.{list_any}
use Rattle.std.proofs.lemmas.Bool.{eq-eqb, ne_eqb, cases_eq, eqb-true, or_cases}
use Rattle.std.proofs.lemmas.List.{get_or-set_same, get_or-set_other, get_or_default}
use Rattle.std.proofs.lemmas.List.Elements.{All-head, All-tail}
use mathlib.Core.Path.{fun_ext}
use Rattle.dining_core.specs.declared.phase.Phase.{Phase}
use Rattle.dining_core.specs.declared.shared_fork.Fork.{Fork}
use Rattle.dining_core.specs.declared.shared_fork.Fork.TheVariants.{Away, Dirty, Clean}
use Rattle.dining_core.specs.declared.shared_fork.SharedFork.{SharedFork}
use Rattle.dining_core.specs.Diners.{Diner}
use Rattle.dining_core.specs.refinement.Tables.{diner_of, place_at, nothing, holds, has_clean, has_token, is_held, is_clean, used, used_shared}
use Rattle.bottle_values.specs.Maps.{put}

-- one place changed, and what is asked of it
pub seen_put : (f : SharedFork → Bool) (ps : List SharedFork) (v : ℕ) (p : SharedFork) → v < length ps → (λ u. f (place_at (set ps v p) u)) ≡ put (λ u. f (place_at ps u)) v (f p)
seen_put f ps v p lt = fun_ext (λ u.
    ⊎_elim
    (λ e. ap (λ k. f (place_at (set ps v p) k)) e ∙ ap f (get_or-set_same ps v p nothing lt) ∙ sym (ap (λ b. cond b (f p) (f (place_at ps u))) (eq-eqb u v e)))
    (λ ne. ap f (get_or-set_other ps v u p nothing ne) ∙ sym (ap (λ b. cond b (f p) (f (place_at ps u))) (ne_eqb u v ne)))
    (cases_eq u v))

-- putting what is there changes nothing
put_kept : (f : ℕ → Bool) (v : ℕ) (x : Bool) → f v ≡ x → put f v x ≡ f
put_kept f v x e = fun_ext (λ u. ⊎_elim
    (λ s. ap (λ b. cond b x (f u)) (eq-eqb u v s) ∙ sym e ∙ ap f (sym s))
    (λ ne. ap (λ b. cond b x (f u)) (ne_eqb u v ne))
    (cases_eq u v))

pub kept_put : (f : SharedFork → Bool) (ps : List SharedFork) (v : ℕ) (p : SharedFork) → v < length ps → f (place_at ps v) ≡ f p → ◌≡◌ {A = ℕ → Bool} (λ u. f (place_at (set ps v p) u)) (λ u. f (place_at ps u))
kept_put f ps v p lt e = seen_put f ps v p lt ∙ put_kept (λ u. f (place_at ps u)) v (f p) e

abbrev made : List ℕ → Phase → (ℕ → Bool) → (ℕ → Bool) → (ℕ → Bool) → Diner
made ns ph h c t = record { neighbours = ns; phase = ph; held = h; clean = c; token = t }

pub made_same : (ns : List ℕ) (ph : Phase) (h h' c c' t t' : ℕ → Bool) → h ≡ h' → c ≡ c' → t ≡ t' →
    ◌≡◌ {A = Diner} (record { neighbours = ns; phase = ph; held = h; clean = c; token = t }) (record { neighbours = ns; phase = ph; held = h'; clean = c'; token = t' })
made_same ns ph h h' c c' t t' eh ec et =
    (ap (λ x. made ns ph x c t) eh ∙ ap (λ x. made ns ph h' x t) ec ∙ ap (λ x. made ns ph h' c' x) et)

-- a place that has a token, or a fork, is one of the table
pub token_within : (ps : List SharedFork) (v : ℕ) → (place_at ps v).token ≡ true → v < length ps
token_within [] v e = cc
token_within (p ∷ ps) zero e = omega arith
token_within (p ∷ ps) (suc v) e = omega (arith, token_within ps v e)

-- a neighbour is one of the table
pub among_within : (n : ℕ) (ns : List ℕ) (v : ℕ) → All (λ u. u < n) ns → list_any (λ u. u == v) ns ≡ true → v < n
among_within n [] v h e = cc
among_within n (x ∷ xs) v h e = ⊎_elim
    (λ s. omega (arith, All-head (λ u. u < n) x xs h, eqb-true x v s))
    (λ s. among_within n xs v (All-tail (λ u. u < n) x xs h) s)
    (or_cases (x == v) (list_any (λ u. u == v) xs) e)

-- a request token came or went
pub token_put : (ns : List ℕ) (ph : Phase) (ps : List SharedFork) (v : ℕ) (p : SharedFork) (b : Bool) → v < length ps → p ≡ place_at ps v →
    diner_of (record { neighbours = ns; phase = ph; places = set ps v (record { fork = p.fork; token = b }) }) ≡ record { neighbours = ns; phase = ph; held = holds ps; clean = has_clean ps; token = put (has_token ps) v b }
token_put ns ph ps v p b lt is =
    made_same ns ph _ _ _ _ _ _
    (kept_put (λ (q : SharedFork). is_held q.fork) ps v (record { fork = p.fork; token = b }) lt (ap (λ (q : SharedFork). is_held q.fork) (sym is)))
    (kept_put (λ (q : SharedFork). is_clean q.fork) ps v (record { fork = p.fork; token = b }) lt (ap (λ (q : SharedFork). is_clean q.fork) (sym is)))
    (seen_put (λ (q : SharedFork). q.token) ps v (record { fork = p.fork; token = b }) lt)

-- a fork went that wasn't clean
pub fork_gone : (ns : List ℕ) (ph : Phase) (ps : List SharedFork) (v : ℕ) (p : SharedFork) → v < length ps → p ≡ place_at ps v → is_clean p.fork ≡ false →
    diner_of (record { neighbours = ns; phase = ph; places = set ps v (record { fork = Away; token = p.token }) }) ≡ record { neighbours = ns; phase = ph; held = put (holds ps) v false; clean = has_clean ps; token = has_token ps }
fork_gone ns ph ps v p lt is dirty =
    made_same ns ph _ _ _ _ _ _
    (seen_put (λ (q : SharedFork). is_held q.fork) ps v (record { fork = Away; token = p.token }) lt)
    (kept_put (λ (q : SharedFork). is_clean q.fork) ps v (record { fork = Away; token = p.token }) lt (ap (λ (q : SharedFork). is_clean q.fork) (sym is) ∙ dirty))
    (kept_put (λ (q : SharedFork). q.token) ps v (record { fork = Away; token = p.token }) lt (ap (λ (q : SharedFork). q.token) (sym is)))

-- a fork came, clean
pub fork_came : (ns : List ℕ) (ph : Phase) (ps : List SharedFork) (v : ℕ) (p : SharedFork) → v < length ps → p ≡ place_at ps v →
    diner_of (record { neighbours = ns; phase = ph; places = set ps v (record { fork = Clean; token = p.token }) }) ≡ record { neighbours = ns; phase = ph; held = put (holds ps) v true; clean = put (has_clean ps) v true; token = has_token ps }
fork_came ns ph ps v p lt is =
    made_same ns ph _ _ _ _ _ _
    (seen_put (λ (q : SharedFork). is_held q.fork) ps v (record { fork = Clean; token = p.token }) lt)
    (seen_put (λ (q : SharedFork). is_clean q.fork) ps v (record { fork = Clean; token = p.token }) lt)
    (kept_put (λ (q : SharedFork). q.token) ps v (record { fork = Clean; token = p.token }) lt (ap (λ (q : SharedFork). q.token) (sym is)))

-- every fork was used
used_held : (f : Fork) → is_held (used f) ≡ is_held f
used_held Away = refl
used_held Dirty = refl
used_held Clean = refl

used_dirty : (f : Fork) → is_clean (used f) ≡ false
used_dirty Away = refl
used_dirty Dirty = refl
used_dirty Clean = refl

all_used : (ps : List SharedFork) (v : ℕ) → place_at (map used_shared ps) v ≡ used_shared (place_at ps v)
all_used [] v = refl
all_used (p ∷ ps) zero = refl
all_used (p ∷ ps) (suc v) = all_used ps v

pub forks_used : (ns : List ℕ) (ph : Phase) (ps : List SharedFork) →
    diner_of (record { neighbours = ns; phase = ph; places = map used_shared ps }) ≡ record { neighbours = ns; phase = ph; held = holds ps; clean = λ v. false; token = has_token ps }
forks_used ns ph ps =
    made_same ns ph _ _ _ _ _ _
    (fun_ext (λ v. ap (λ (q : SharedFork). is_held q.fork) (all_used ps v) ∙ used_held (place_at ps v).fork))
    (fun_ext (λ v. ap (λ (q : SharedFork). is_clean q.fork) (all_used ps v) ∙ used_dirty (place_at ps v).fork))
    (fun_ext (λ v. ap (λ (q : SharedFork). q.token) (all_used ps v)))

-- the place that is read before it is changed
pub place_is : (ps : List SharedFork) (i v : ℕ) (p : SharedFork) → i ≡ v → v < length ps → p ≡ get_or ps i p → p ≡ place_at ps v
place_is ps i v p same lt here = here ∙ ap (λ k. get_or ps k p) same ∙ get_or_default ps v p nothing lt

-- a place whose fork is owed
pub owed_token : (t h k : Bool) → (t && (h && not k)) ≡ true → t ≡ true
owed_token true h k e = refl
owed_token false h k e = cc

pub owed_dirty : (t h k : Bool) → (t && (h && not k)) ≡ true → k ≡ false
owed_dirty true true false e = refl
owed_dirty true true true e = cc
owed_dirty true false k e = cc
owed_dirty false h k e = cc
