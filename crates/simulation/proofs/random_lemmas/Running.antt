-- Moves that lead on, with what is submitted and what is left.
use Rattle.std.proofs.Common.{◌≡◌, ℕ, zero, suc, ◌+◌, ◌<◌, ◌≤◌, Bool, true, false, cond, List, [], ◌∷◌, ◌++◌, length, map, take, get_or, Option, None, Some, Result, Ok, Err, refl, sym, ap, subst, ◌∙◌, ⊎_elim, inl, inr, arith, add-one, append_assoc, IsPermutation}
use Rattle.std.specs.Prelude.{nat_lt, All, IsOk, OnOk}
use Rattle.std.specs.List.{remove}
use Rattle.std.proofs.lemmas.List.{map-append, take_more}
use Rattle.std.proofs.lemmas.Bool.{cases_eq}
use Rattle.std.proofs.lemmas.List.Concat.{flat_map-append}
use Rattle.std.proofs.lemmas.List.Sums.{sum_by-append}
use Rattle.std.proofs.lemmas.List.Elements.{All-append, All-cons, All-nil}
use Rattle.std.proofs.lemmas.List.Sorted.{All-permutation, IsPermutation-refl, IsPermutation-trans, IsPermutation-append_right, IsPermutation-middle, IsPermutation-sym, IsPermutation-cons}
use Rattle.session_meaning.specs.ProgramValue.{ProgramValue}
use Rattle.office_journal.specs.declared.event.Event as office
use Rattle.office_journal.specs.declared.event.Event.TheVariants as site_event
use Rattle.office_journal.specs.declared.reply.Reply.{Reply}
use Rattle.office_journal.specs.declared.reply.Refusal as offices
use Rattle.office_journal.specs.declared.reply.Refusal.TheVariants as refused_as
use Rattle.office_journal.specs.declared.rule.Rule.{Rule}
use Rattle.site_core.specs.Journals.{Site, office_of, step}
use Rattle.site_core.specs.RuleOrder.{next_rule}
use Rattle.frame_world.specs.declared.event.WorldEvent.{WorldEvent}
use Rattle.frame_world.specs.declared.event.WorldEvent.TheVariants as happening
use Rattle.frame_world.specs.declared.refusal.WorldRefusal.{WorldRefusal}
use Rattle.frame_world.specs.declared.refusal.WorldRefusal.TheVariants as refusal
use Rattle.frame_world.specs.Worlds.{World, Answer, site_at, office_at, told, handed, happens, run_of, Applies}
use Rattle.simulation.specs.random.Runs.{IsRefused, Leads, MayAllBe, MayHappen, events_in, events_of, is_step, messages_at, steps_in, submitted, submitted_by, submitted_in}
use Rattle.simulation.specs.random.refinement.Steps.{GoesOn, HasCome, Steps, messages_below}

run_append : (w : World) (xs ys : List WorldEvent) → run_of w (xs ++ ys) ≡ run_of (run_of w xs) ys
run_append w [] ys = refl
run_append w (x ∷ xs) ys = run_append (happens w x).1 xs ys

events_append : (xs ys : List (Option WorldEvent)) → events_of (xs ++ ys) ≡ events_of xs ++ events_of ys
events_append = flat_map-append events_in

submitted_append : (xs ys : List (Option WorldEvent)) (c : List ProgramValue) → submitted (xs ++ ys) ++ c ≡ submitted xs ++ (submitted ys ++ c)
submitted_append xs ys c = ap (λ l. l ++ c) (flat_map-append submitted_in xs ys) ∙ append_assoc (submitted xs) (submitted ys) c

-- those that were left are then submitted, or left again
each_append : (loss : ℕ) (w : World) (xs ys : List (Option WorldEvent)) (b c : List ProgramValue) → IsPermutation (submitted ys ++ c) b → MayAllBe loss w xs b → MayAllBe loss (run_of w (events_of xs)) ys c → MayAllBe loss w (xs ++ ys) c
each_append loss w [] ys b c same h k = k
each_append loss w (x ∷ xs) ys b c same (may, before, rest) k =
    (may, λ step. All-permutation (IsRefused w) (submitted xs ++ b) (submitted (xs ++ ys) ++ c) all (before step), each_append loss (run_of w (events_in x)) xs ys b c same rest later)
  where
    all : IsPermutation (submitted xs ++ b) (submitted (xs ++ ys) ++ c)
    all = subst (IsPermutation (submitted xs ++ b)) (sym (submitted_append xs ys c)) (IsPermutation-append_right (submitted xs) b (submitted ys ++ c) (IsPermutation-sym (submitted ys ++ c) b same))

    later : MayAllBe loss (run_of (run_of w (events_in x)) (events_of xs)) ys c
    later = subst (λ v. MayAllBe loss v ys c) (run_append w (events_in x) (events_of xs)) k

-- nothing happens
pub stays : (loss : ℕ) (w : World) (sessions : List ProgramValue) → Leads loss 0 w w sessions sessions
stays loss w sessions = record { moves = []; led = refl; each = tt; once = IsPermutation-refl sessions; made = refl }

-- one after the other
pub follows : (loss m n : ℕ) (u v w : World) (a b c : List ProgramValue) → Leads loss m u v a b → Leads loss n v w b c → Leads loss (m + n) u w a c
follows loss m n u v w a b c f g = record {
  moves = f.moves ++ g.moves;
  led = ap (run_of u) (events_append f.moves g.moves) ∙ run_append u (events_of f.moves) (events_of g.moves) ∙ ap (λ x. run_of x (events_of g.moves)) f.led ∙ g.led;
  each = each_append loss u f.moves g.moves b c g.once f.each (subst (λ x. MayAllBe loss x g.moves c) (sym f.led) g.each);
  once =
      subst (λ l. IsPermutation l a) (sym (submitted_append f.moves g.moves c))
      (IsPermutation-trans (submitted f.moves ++ (submitted g.moves ++ c)) (submitted f.moves ++ b) a
      (IsPermutation-append_right (submitted f.moves) (submitted g.moves ++ c) b g.once) f.once);
  made = sum_by-append (λ x. cond (is_step x) 1 0) f.moves g.moves ∙ ap (λ k. k + steps_in g.moves) f.made ∙ ap (λ k. m + k) g.made;
}

-- an event that may happen and submits nothing, whatever is answered, unless memory ran out
pub stepped : (loss : ℕ) (w w' : World) (e : WorldEvent) (result : Result Reply WorldRefusal) → is_step (Some e) ≡ true → MayHappen loss w e → (result ≡ Err (refusal.Office refused_as.Memory) → ⊥) → Applies w e result w' → Steps loss w w'
stepped loss w w' e result step may not_memory h = ⊎_elim (λ m. absurd (not_memory m.0)) (λ k. inr (record { event = e; step = step; may = may; led = k.1 })) h

submits_nothing : (e : WorldEvent) → is_step (Some e) ≡ true → submitted_by e ≡ []
submits_nothing (happening.Submit a p) is = absurd cc
submits_nothing (happening.Withdraw a ticket) is = refl
submits_nothing (happening.Do a rule) is = refl
submits_nothing (happening.Send a v i) is = refl
submits_nothing (happening.Deliver k) is = refl

one_step : (e : WorldEvent) → is_step (Some e) ≡ true → steps_in (Some e ∷ []) ≡ 1
one_step (happening.Submit a p) is = absurd cc
one_step (happening.Withdraw a ticket) is = refl
one_step (happening.Do a rule) is = refl
one_step (happening.Send a v i) is = refl
one_step (happening.Deliver k) is = refl

pub on_ok : {A E : Type 0} (r : Result A E) (P Q : Type 0) → (P → Q) → OnOk r P → OnOk r Q
on_ok (Ok x) P Q f h = f h
on_ok (Err e) P Q f h = tt

-- the rule that an office of a world tells
pub rule_there : (w : World) (a : ℕ) (s : Site) (r : Option Rule) → s ≡ site_at w a → s.plan ≡ w.plan → s.me ≡ a → r ≡ next_rule s.plan s.me (office_of s) → r ≡ next_rule w.plan a (office_at w a)
rule_there w a s r site plan me e = e ∙ ap (λ p. next_rule p s.me (office_of s)) plan ∙ ap (λ m. next_rule w.plan m (office_of s)) me ∙ ap (λ x. next_rule w.plan a (office_of x)) site

-- where the sessions that wait are refused, and go on waiting
pub step_leads : (loss : ℕ) (w w' : World) (sessions : List ProgramValue) → Steps loss w w' → All (IsRefused w) sessions → Leads loss 1 w w' sessions sessions
step_leads loss w w' sessions came refused_all = ⊎_elim
    (λ it. record { moves = None ∷ []; led = sym it.1; each = (it.0, λ e. refused_all, tt); once = IsPermutation-refl sessions; made = refl })
    (λ it. record {
      moves = Some it.event ∷ [];
      led = sym it.led;
      each = (it.may, λ e. refused_all, tt);
      once = subst (λ l. IsPermutation l sessions) (sym (ap (λ l. ((l ++ []) ++ []) ++ sessions) (submits_nothing it.event it.step))) (IsPermutation-refl sessions);
      made = one_step it.event it.step;
    })
    came

-- ---- how many steps were made

pub begins : (loss all : ℕ) (w w' : World) (sessions left : List ProgramValue) → Leads loss 0 w w' sessions left → HasCome loss 0 all w w' sessions left
begins loss all w w' sessions left h = record { made = 0; leads = h; enough = (omega arith, λ lt. absurd (omega (arith, lt))) }

pub goes_on : (loss steps all : ℕ) (u v w : World) (a b c : List ProgramValue) → HasCome loss steps all u v a b → GoesOn loss all v w b c → HasCome loss (steps + 1) all u w a c
goes_on loss steps all u v w a b c h came = ⊎_elim
    (λ it. record {
      made = h.made + 1;
      leads = follows loss h.made 1 u v w a b c h.leads it.1;
      enough =
          (let few = h.enough.0 in omega (arith, few), λ lt. let fewer : all ≤ length v.finished = h.enough.1 (omega (arith, lt)) in let open_yet = it.0 in absurd (omega (arith, fewer, open_yet)));
    })
    (λ it.
    let same : w ≡ v = it.1 in
    let left : c ≡ b = it.2 in
    record {
      made = h.made;
      leads = subst (λ l. Leads loss h.made u w a l) (sym left) (subst (λ x. Leads loss h.made u x a b) (sym same) h.leads);
      enough = (let few = h.enough.0 in omega (arith, few), λ lt. subst (λ (x : World). all ≤ length x.finished) (sym same) it.0);
    })
    came

pub all_made : (loss done steps all : ℕ) (w w' : World) (sessions left : List ProgramValue) → HasCome loss done all w w' sessions left → done ≤ steps → steps ≤ done → HasCome loss steps all w w' sessions left
all_made loss done steps all w w' sessions left h within over = record {
  made = h.made;
  leads = h.leads;
  enough = (let few = h.enough.0 in omega (arith, few, within), λ lt. h.enough.1 (omega (arith, lt, over)));
}

-- ---- the messages that wait

pub none_below : (s : Site) (n : ℕ) → messages_below s n ≡ 0 → (v : ℕ) → v < n → messages_at s v ≡ 0
none_below s zero none v lt = absurd (omega (arith, lt))
none_below s (suc n) none v lt = ⊎_elim
    (λ (is : v ≡ n). subst (λ k. messages_at s k ≡ 0) (sym is) (omega (arith, none)))
    (λ ne. none_below s n (omega (arith, none)) v (omega (arith, lt, ne)))
    (cases_eq v n)

pub more_below : (s : Site) (v : ℕ) → messages_below s (v + 1) ≡ messages_below s v + messages_at s v
more_below s v = ap (messages_below s) (add-one v)

-- ---- what is refused

told_stays : (w : World) (a : ℕ) (e : office.Event) (x : Result Reply offices.Refusal × Site) (r : WorldRefusal) → (told w a e x).0 ≡ Err r → (told w a e x).1 ≡ w
told_stays w a e (Ok k, s) r h = absurd (let both : ◌≡◌ {A = Result Reply WorldRefusal} (Ok k) (Err r) = h in cc)
told_stays w a e (Err k, s) r h = refl

handed_stays : (w : World) (a : ℕ) (e : office.Event) (r : WorldRefusal) → (handed w a e).0 ≡ Err r → (handed w a e).1 ≡ w
handed_stays w a e r = go (nat_lt a (length w.sites))
  where
    go : (b : Bool) → (cond {A = Answer} b (told w a e (step (site_at w a) 0 e)) (Err refusal.NoOffice, w)).0 ≡ Err r
        → (cond {A = Answer} b (told w a e (step (site_at w a) 0 e)) (Err refusal.NoOffice, w)).1 ≡ w
    go true h = told_stays w a e (step (site_at w a) 0 e) r h
    go false h = refl

-- a session that isn't taken changes nothing, and where it isn't for want of memory it is refused
pub unchanged : (w w' : World) (p : ProgramValue) (result : Result Reply WorldRefusal) (r : WorldRefusal) → result ≡ Err r
    → Applies w (happening.Submit p.office p) result w' → w' ≡ w
unchanged w w' p result r e h = ⊎_elim (λ m. m.1) (λ k. k.1 ∙ handed_stays w p.office (site_event.Submit p) r (sym k.0 ∙ e)) h

not_ok : (r : WorldRefusal) (x : Result Reply WorldRefusal) → x ≡ Err r → IsOk x → ⊥
not_ok r x e ok = absurd (let clash : ◌≡◌ {A = Bool} false true = subst (λ (y : Result Reply WorldRefusal). IsOk y) e ok in cc)

pub refused : (w w' : World) (p : ProgramValue) (result : Result Reply WorldRefusal) (r : WorldRefusal) → result ≡ Err r → (r ≡ refusal.Office refused_as.Memory → ⊥)
    → Applies w (happening.Submit p.office p) result w' → IsRefused w' p
refused w w' p result r e not_memory h = subst (λ v. IsRefused v p) (sym (unchanged w w' p result r e h)) (⊎_elim
    (λ m. absurd (not_memory (let both : ◌≡◌ {A = Result Reply WorldRefusal} (Err r) (Err (refusal.Office refused_as.Memory)) = sym e ∙ m.0 in cc)))
    (λ k. not_ok r (happens w (happening.Submit p.office p)).0 (sym k.0 ∙ e)) h)

-- and one that is
pub taken : (w w' : World) (p : ProgramValue) (result : Result Reply WorldRefusal) (r : Reply) → result ≡ Ok r
    → Applies w (happening.Submit p.office p) result w' → w' ≡ run_of w (happening.Submit p.office p ∷ [])
taken w w' p result r e h = ⊎_elim
    (λ m. absurd (let both : ◌≡◌ {A = Result Reply WorldRefusal} (Ok r) (Err (refusal.Office refused_as.Memory)) = sym e ∙ m.0 in cc))
    (λ k. k.1) h

is_ok_of : (r : Reply) (x : Result Reply WorldRefusal) → Ok r ≡ x → IsOk x
is_ok_of r x e = subst IsOk e refl

pub accepted : (w w' : World) (p : ProgramValue) (result : Result Reply WorldRefusal) (r : Reply) → result ≡ Ok r
    → Applies w (happening.Submit p.office p) result w' → IsOk (happens w (happening.Submit p.office p)).0
accepted w w' p result r e h = ⊎_elim
    (λ m. absurd (let both : ◌≡◌ {A = Result Reply WorldRefusal} (Ok r) (Err (refusal.Office refused_as.Memory)) = sym e ∙ m.0 in cc))
    (λ k. is_ok_of r (happens w (happening.Submit p.office p)).0 (sym e ∙ k.0)) h

-- ---- what is taken waits no more

removed : {X : Type 0} (f : X → ProgramValue) (xs : List X) (i : ℕ) (d : X) → i < length xs → IsPermutation (f (get_or xs i d) ∷ map f (remove xs i)) (map f xs)
removed f [] i d lt = absurd (omega (arith, lt))
removed f (x ∷ xs) zero d lt = IsPermutation-refl (f x ∷ map f xs)
removed f (x ∷ xs) (suc i) d lt =
    let y = f (get_or xs i d) in
    let rest = map f (remove xs i) in
    IsPermutation-trans (y ∷ f x ∷ rest) (f x ∷ y ∷ rest) (f x ∷ map f xs)
    (IsPermutation-sym (f x ∷ y ∷ rest) (y ∷ f x ∷ rest) (IsPermutation-middle (f x ∷ []) y rest))
    (IsPermutation-cons (f x) (y ∷ rest) (map f xs) (removed f xs i d (omega (arith, lt))))

-- the session at this place was submitted
pub submits : {X : Type 0} (f : X → ProgramValue) (w w' : World) (xs : List X) (i : ℕ) (d : X) (p : ProgramValue) → i < length xs → p ≡ f (get_or xs i d)
    → IsOk (happens w (happening.Submit p.office p)).0 → w' ≡ run_of w (happening.Submit p.office p ∷ []) → (loss : ℕ) → Leads loss 0 w w' (map f xs) (map f (remove xs i))
submits f w w' xs i d p lt is ok led loss = record {
  moves = Some (happening.Submit p.office p) ∷ [];
  led = sym led;
  each = ((refl, ok), λ e. absurd cc, tt);
  once = subst (λ q. IsPermutation (q ∷ map f (remove xs i)) (map f xs)) (sym is) (removed f xs i d lt);
  made = refl;
}

-- ---- who was asked, and refused

take_remove : {X : Type 0} (xs : List X) (i : ℕ) → take i (remove xs i) ≡ take i xs
take_remove [] zero = refl
take_remove [] (suc i) = refl
take_remove (x ∷ xs) zero = refl
take_remove (x ∷ xs) (suc i) = ap (λ l. x ∷ l) (take_remove xs i)

pub still_before : {X : Type 0} (f : X → ProgramValue) (w : World) (xs : List X) (i : ℕ) → All (IsRefused w) (map f (take i xs)) → All (IsRefused w) (map f (take i (remove xs i)))
still_before f w xs i h = subst (λ l. All (IsRefused w) (map f l)) (sym (take_remove xs i)) h

pub one_more_refused : {X : Type 0} (f : X → ProgramValue) (w : World) (xs : List X) (i : ℕ) (d : X) → i < length xs → All (IsRefused w) (map f (take i xs)) → IsRefused w (f (get_or xs i d)) → All (IsRefused w) (map f (take (i + 1) xs))
one_more_refused f w xs i d lt h here =
    subst (All (IsRefused w)) (sym (ap (map f) (take_more xs i d lt) ∙ map-append f (take i xs) (get_or xs i d ∷ [])))
    (All-append (IsRefused w) (map f (take i xs)) (f (get_or xs i d) ∷ []) h (All-cons (IsRefused w) (f (get_or xs i d)) [] here (All-nil (IsRefused w))))
