-- Parts of journals, and what an office gives without tags.
use Rattle.std.proofs.Common.{◌≡◌, ℕ, zero, suc, ◌<◌, ◌≤◌, false, cond, List, [], ◌∷◌, ◌++◌, length, map, take, Some, Ok, Err, refl, sym, ap, subst, ◌∙◌, arith, inl, inr, ◌⊎◌, ⊎_elim}
use Rattle.std.specs.Prelude.{Result, nat_le, slice_get}
use Rattle.std.proofs.lemmas.List.{length-map, take-take, take-append-le, take_at}
use Rattle.std.proofs.lemmas.Option.{slice_get_within}
use Rattle.office_map.specs.PlanValue.{PlanValue}
use Rattle.site_core.specs.Limits.{most_entries}
use Rattle.office_journal.specs.declared.event.Entry.{Entry}
use Rattle.office_journal.specs.declared.reply.Reply.{Reply}
use Rattle.office_journal.specs.declared.reply.Refusal.{Refusal}
use Rattle.office_journal.specs.declared.reply.Refusal.TheVariants as refusal
use Rattle.site_core.specs.Offices.{Office, answer, opened}
use Rattle.site_core.specs.Journals.{Site, office_of, run_of, after, noted, recorded}
use Rattle.journal_weave.specs.Weaving.{untagged}
use Rattle.journal_weave.specs.Following.{site_of, Gives}
use Rattle.site_core.specs.Reopening.{site_with}

-- ---- tags are of no account

run_untagged : (plan : PlanValue) (me : ℕ) (o : Office) (xs : List Entry) → run_of plan me o (map untagged xs) ≡ run_of plan me o xs
run_untagged plan me o [] = refl
run_untagged plan me o (x ∷ xs) = run_untagged plan me (after plan me o x.event) xs

pub office_untagged : (plan : PlanValue) (me : ℕ) (xs : List Entry) → office_of (site_of plan me xs) ≡ office_of (site_with plan me xs)
unfolding office_of
office_untagged plan me xs = run_untagged plan me (opened plan me) xs

abbrev Stepped : Type 0
Stepped = Result Reply Refusal × Site

-- what is accepted with tags is accepted without
pub gives_untagged : (plan : PlanValue) (me : ℕ) (xs : List Entry) (x : Entry) (o : Office) → answer plan me (office_of (site_with plan me xs)) x.event ≡ Ok (x.reply, o) → nat_le most_entries (length xs) ≡ false → Gives (site_of plan me xs) x
gives_untagged plan me xs x o is room =
    let s : Site = site_of plan me xs in
    ap (λ z. recorded s 0 x.event (answer plan me z x.event)) (office_untagged plan me xs)
    ∙ ap (recorded s 0 x.event) is
    ∙ ap (λ b. cond {A = Stepped} b (Err refusal.JournalFull, s) (Ok x.reply, noted s 0 x.event x.reply)) (ap (nat_le most_entries) (length-map xs untagged) ∙ room)

-- ---- beginnings

pub get_first : {X : Type 0} (xs : List X) (n i : ℕ) (x : X) → slice_get (take n xs) i ≡ Some x → slice_get xs i ≡ Some x
get_first xs zero i x e = absurd (none_at i e)
  where
    none_at : (k : ℕ) → slice_get [] k ≡ Some x → ⊥
    none_at k h = cc
get_first [] (suc n) i x e = e
get_first (y ∷ xs) (suc n) zero x e = e
get_first (y ∷ xs) (suc n) (suc i) x e = get_first xs n i x e

pub below_cut : {X : Type 0} (xs : List X) (n i : ℕ) (x : X) → slice_get (take n xs) i ≡ Some x → i < n
below_cut xs zero i x e = absurd (none_at i e)
  where
    none_at : (k : ℕ) → slice_get [] k ≡ Some x → ⊥
    none_at k h = cc
below_cut [] (suc n) i x e = cc
below_cut (y ∷ xs) (suc n) zero x e = omega arith
below_cut (y ∷ xs) (suc n) (suc i) x e = omega (arith, below_cut xs n i x e)

-- ---- what an office gives of a journal

-- it gives all of it
abbrev pub GivesAll : PlanValue → ℕ → List Entry → Type 0
GivesAll plan me xs = (i : ℕ) (x : Entry) → slice_get xs i ≡ Some x → Gives (site_of plan me (take i xs)) x

pub gives_first : (plan : PlanValue) (me : ℕ) (xs : List Entry) (n : ℕ) → GivesAll plan me xs → GivesAll plan me (take n xs)
gives_first plan me xs n all i x e =
    let le : i ≤ n = omega (arith, below_cut xs n i x e) in
    subst (λ l. Gives (site_of plan me l) x) (sym (take-take i n xs le)) (all i x (get_first xs n i x e))

-- the last of a list, or one before it
pub last_or_before : {X : Type 0} (xs : List X) (y x : X) (i : ℕ) → slice_get (xs ++ y ∷ []) i ≡ Some x → (slice_get xs i ≡ Some x) ⊎ ((i ≡ length xs) × (y ≡ x))
last_or_before [] y x zero e = inr (refl, cc)
last_or_before [] y x (suc i) e = inl e
last_or_before (z ∷ xs) y x zero e = inl e
last_or_before (z ∷ xs) y x (suc i) e = ⊎_elim (λ h. inl h) (λ h. inr (ap suc h.0, h.1)) (last_or_before xs y x i e)

pub gives_one_more : (plan : PlanValue) (me : ℕ) (xs : List Entry) (y : Entry) → GivesAll plan me xs → Gives (site_of plan me xs) y → GivesAll plan me (xs ++ y ∷ [])
gives_one_more plan me xs y all one i x e = ⊎_elim
    (λ h.
    let le : i ≤ length xs = omega (arith, slice_get_within xs i x h) in
    subst (λ l. Gives (site_of plan me l) x) (sym (take-append-le i xs (y ∷ []) le)) (all i x h))
    (λ h. subst (Gives (site_of plan me (take i (xs ++ y ∷ [])))) h.1 (subst (λ l. Gives (site_of plan me l) y) (sym (take_at xs (y ∷ []) i (sym h.0))) one))
    (last_or_before xs y x i e)
