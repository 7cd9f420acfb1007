-- Bottles among the messages that wait.
use Rattle.std.proofs.Common.{◌≡◌, ℕ, zero, suc, ◌+◌, ◌-◌, ◌≤◌, ◌<◌, Bool, true, false, cond, eqb, List, [], ◌∷◌, drop, Option, None, Some, refl, sym, ap, subst, arith, ◌⊎◌, inl, inr}
use Rattle.std.specs.Prelude.{slice_get, Contains}
use Rattle.std.proofs.lemmas.Bool.{eq-eqb, ne_eqb, cases_eq}
use Rattle.std.proofs.lemmas.List.Elements.{Contains-append_right}
use Rattle.bottle_values.specs.declared.Value.{Value}
use Rattle.bottle_values.specs.Lists.{num}
use Rattle.frame_codec.specs.declared.message.Msg.{Msg}
use Rattle.frame_codec.specs.declared.message.Msg.TheVariants as msg
use Rattle.office_map.specs.PlanValue.{are_neighbours, is_end, peer}
use Rattle.token_channel.specs.declared.thing.Thing.TheVariants.{Bottle}
use Rattle.token_channel.specs.Things.{count_carrying}
use Rattle.window_link.specs.Links.{LinkState}
use Rattle.token_channel.specs.WaitingBottle.{TellsBottle}
use Rattle.site_core.specs.Journals.{Site, office_of}
use Rattle.frame_world.specs.Ways.{untaken, bottles_in}
use Rattle.world_schedule.specs.refinement.Bottles.{bottles_toward, LiesBetween}

here : {X : Type 0} (x : X) (xs : List X) → Contains (x ∷ xs) x
here x xs = (0, omega arith, refl)

behind : {X : Type 0} (x y : X) (xs : List X) → Contains xs x → Contains (y ∷ xs) x
behind x y xs h = Contains-append_right (y ∷ []) xs x h

-- a message more at the front
kept_behind : (r : ℕ) (m : Msg) (ms : List Msg) (x : Value) → Contains (bottles_in r ms) x → Contains (bottles_in r (m ∷ ms)) x
kept_behind r msg.AskFork ms x h = h
kept_behind r msg.Fork ms x h = h
kept_behind r (msg.AskBottle q) ms x h = h
kept_behind r (msg.Bottle q y) ms x h = go (eqb r q)
  where
    go : (b : Bool) → Contains (cond b (y ∷ bottles_in r ms) (bottles_in r ms)) x
    go true = behind x y (bottles_in r ms) h
    go false = h

among : (r : ℕ) (ms : List Msg) (i : ℕ) (x : Value) → slice_get ms i ≡ Some (msg.Bottle r x) → Contains (bottles_in r ms) x
among r [] i x h = absurd cc
among r (m ∷ ms) zero x h =
    let is : m ≡ msg.Bottle r x = cc in
    subst (λ y. Contains (bottles_in r (y ∷ ms)) x) (sym is) (subst (λ b. Contains (cond b (x ∷ bottles_in r ms) (bottles_in r ms)) x) (sym (eq-eqb r r refl)) (here x (bottles_in r ms)))
among r (m ∷ ms) (suc i) x h = kept_behind r m ms x (among r ms i x h)

-- past k messages
past : (r k : ℕ) (ms : List Msg) (i : ℕ) (x : Value) → k ≤ i → slice_get ms i ≡ Some (msg.Bottle r x) → Contains (bottles_in r (drop k ms)) x
past r zero ms i x le h = among r ms i x h
past r (suc k) [] i x le h = absurd cc
past r (suc k) (m ∷ ms) zero x le h = absurd (omega (arith, le))
past r (suc k) (m ∷ ms) (suc i) x le h = past r k ms i x (omega (arith, le)) h

-- none of a record is among messages that don't carry it
none_carried : (r : ℕ) (ms : List Msg) → count_carrying (Bottle r) ms ≡ 0 → bottles_in r ms ≡ []
none_carried r [] h = refl
none_carried r (msg.AskFork ∷ ms) h = none_carried r ms (omega (arith, h))
none_carried r (msg.Fork ∷ ms) h = none_carried r ms (omega (arith, h))
none_carried r (msg.AskBottle q ∷ ms) h = none_carried r ms (omega (arith, h))
none_carried r (msg.Bottle q x ∷ ms) h = go (eqb r q) h (none_carried r ms (omega (arith, h)))
  where
    go : (b : Bool) → num b + count_carrying (Bottle r) ms ≡ 0 → bottles_in r ms ≡ [] → cond b (x ∷ bottles_in r ms) (bottles_in r ms) ≡ []
    go true e rest = absurd (omega (arith, e))
    go false e rest = rest

fewer : (r k : ℕ) (ms : List Msg) → count_carrying (Bottle r) (drop k ms) ≤ count_carrying (Bottle r) ms
fewer r zero ms = omega arith
fewer r (suc k) [] = omega arith
fewer r (suc k) (m ∷ ms) = omega (arith, fewer r k ms)

-- where one is passed over and no more wait, none is left
none_past : (r k : ℕ) (ms : List Msg) (i : ℕ) (x : Value) → i < k → slice_get ms i ≡ Some (msg.Bottle r x) → count_carrying (Bottle r) ms ≤ 1 → count_carrying (Bottle r) (drop k ms) ≡ 0
none_past r zero ms i x lt h one = absurd (omega (arith, lt))
none_past r (suc k) [] i x lt h one = absurd cc
none_past r (suc k) (m ∷ ms) zero x lt h one =
    let is : m ≡ msg.Bottle r x = cc in
    let first : num (eqb r r) + count_carrying (Bottle r) ms ≤ 1 = subst (λ y. count_carrying (Bottle r) (y ∷ ms) ≤ 1) is one in
    let same : num (eqb r r) ≡ 1 = ap num (eq-eqb r r refl) in
    omega (arith, first, same, fewer r k ms)
none_past r (suc k) (m ∷ ms) (suc i) x lt h one = none_past r k ms i x (omega (arith, lt)) h (omega (arith, one))

no_bottle : (r : ℕ) (ms : List Msg) → ((i : ℕ) (x : Value) → slice_get ms i ≡ Some (msg.Bottle r x) → ⊥) → count_carrying (Bottle r) ms ≡ 0
no_bottle r [] h = refl
no_bottle r (msg.AskFork ∷ ms) h = omega (arith, no_bottle r ms (λ i. h (suc i)))
no_bottle r (msg.Fork ∷ ms) h = omega (arith, no_bottle r ms (λ i. h (suc i)))
no_bottle r (msg.AskBottle q ∷ ms) h = omega (arith, no_bottle r ms (λ i. h (suc i)))
no_bottle r (msg.Bottle q x ∷ ms) h = go (cases_eq r q) (no_bottle r ms (λ i. h (suc i)))
  where
    go : (r ≡ q) ⊎ (r ≡ q → ⊥) → count_carrying (Bottle r) ms ≡ 0 → num (eqb r q) + count_carrying (Bottle r) ms ≡ 0
    go (inl e) rest = absurd (h 0 x (ap (λ p. Some (msg.Bottle p x)) (sym e)))
    go (inr ne) rest = let off : num (eqb r q) ≡ 0 = ap num (ne_eqb r q ne) in omega (arith, off, rest)

-- ---- what a link tells

found_on_way : (l : LinkState) (r number taken : ℕ) (x : Value) → TellsBottle l r (Some (number, x)) → taken < number → Contains (bottles_in r (untaken l.sending taken)) x
found_on_way l r number taken x (i, is, at) lt = past r (taken - l.sending.acked) l.sending.waiting i x (omega (arith, is, lt)) at

was_taken : (l : LinkState) (r number taken : ℕ) (x : Value) → TellsBottle l r (Some (number, x)) → count_carrying (Bottle r) l.sending.waiting ≤ 1 → number ≤ taken → bottles_in r (untaken l.sending taken) ≡ []
was_taken l r number taken x (i, is, at) one le = none_carried r (drop (taken - l.sending.acked) l.sending.waiting) (none_past r (taken - l.sending.acked) l.sending.waiting i x (omega (arith, is, le)) at one)

none_waits : (l : LinkState) (r taken : ℕ) → TellsBottle l r None → bottles_in r (untaken l.sending taken) ≡ []
none_waits l r taken h =
    let none : count_carrying (Bottle r) l.sending.waiting ≡ 0 = no_bottle r l.sending.waiting (λ i x e. h (l.sending.acked + 1 + i) x (i, refl, e)) in
    none_carried r (drop (taken - l.sending.acked) l.sending.waiting) (omega (arith, none, fewer r (taken - l.sending.acked) l.sending.waiting))

-- ---- what two offices tell

abbrev pub Told : Site → ℕ → Option (ℕ × Value) → Type 0
Told s r answer = is_end s.plan r s.me ≡ true → TellsBottle ((office_of s).pairs.link (peer s.plan s.me r)) r answer

abbrev pub Taken : Site → ℕ → ℕ → Type 0
Taken t v taken = ◌≡◌ {A = Option ℕ} (Some taken) (cond (are_neighbours t.plan t.me v) (Some ((office_of t).pairs.link v).receiving.taken) None)

told_of : (s t : Site) (r : ℕ) (answer : Option (ℕ × Value)) → LiesBetween r s t → Told s r answer → TellsBottle ((office_of s).pairs.link t.me) r answer
told_of s t r answer lies told = subst (λ p. TellsBottle ((office_of s).pairs.link p) r answer) lies.other (told lies.end)

taken_of : (s t : Site) (r v taken : ℕ) → LiesBetween r s t → v ≡ s.me → Taken t v taken → taken ≡ ((office_of t).pairs.link s.me).receiving.taken
taken_of s t r v taken lies same h = go (are_neighbours t.plan t.me s.me) lies.near (subst (λ u. Taken t u taken) same h)
  where
    go : (b : Bool) → b ≡ true → ◌≡◌ {A = Option ℕ} (Some taken) (cond b (Some ((office_of t).pairs.link s.me).receiving.taken) None) → taken ≡ ((office_of t).pairs.link s.me).receiving.taken
    go true near is = cc
    go false near is = absurd cc

pub is_on_way : (s t : Site) (r v number taken : ℕ) (x : Value) → LiesBetween r s t → Told s r (Some (number, x)) → v ≡ s.me → Taken t v taken → taken < number → Contains (bottles_toward s t r) x
is_on_way s t r v number taken x lies told same taken_is lt =
    let is = taken_of s t r v taken lies same taken_is in
    found_on_way ((office_of s).pairs.link t.me) r number ((office_of t).pairs.link s.me).receiving.taken x (told_of s t r (Some (number, x)) lies told) (omega (arith, is, lt))

pub none_on_way : (s t : Site) (r v number taken : ℕ) (x : Value) → LiesBetween r s t → Told s r (Some (number, x)) → (is_end s.plan r s.me ≡ true → count_carrying (Bottle r) ((office_of s).pairs.link (peer s.plan s.me r)).sending.waiting ≤ 1) → v ≡ s.me → Taken t v taken → number ≤ taken →
    bottles_toward s t r ≡ []
none_on_way s t r v number taken x lies told once same taken_is le =
    let is = taken_of s t r v taken lies same taken_is in
    let one = subst (λ p. count_carrying (Bottle r) ((office_of s).pairs.link p).sending.waiting ≤ 1) lies.other (once lies.end) in
    was_taken ((office_of s).pairs.link t.me) r number ((office_of t).pairs.link s.me).receiving.taken x (told_of s t r (Some (number, x)) lies told) one (omega (arith, is, le))

pub nothing_waits : (s t : Site) (r : ℕ) → LiesBetween r s t → Told s r None → bottles_toward s t r ≡ []
nothing_waits s t r lies told = none_waits ((office_of s).pairs.link t.me) r ((office_of t).pairs.link s.me).receiving.taken (told_of s t r None lies told)
