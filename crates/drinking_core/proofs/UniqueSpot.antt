-- What is at one spot alone, and how it moves.
use Rattle.std.proofs.Common.{◌≡◌, ℕ, suc, Bool, true, false, ◌&&◌, cond, List, [], ◌∷◌, Option, None, Some, refl, sym, ap, ◌∙◌, arith, ⊎_elim}
use Rattle.std.specs.Prelude.{◌==◌, option_map}
use Rattle.std.proofs.lemmas.Bool.{eq-eqb, ne_eqb, eqb-true, cases_eq, and_parts, and_from}
use Rattle.bottle_values.specs.declared.Value.{Value}
use Rattle.bottle_values.specs.Maps.{put}
use Rattle.dining_core.specs.Worlds.{with_way}
use Rattle.drinking_core.specs.Drinkers.{Drinker}
use Rattle.drinking_core.specs.Worlds.{Spot, With, Toward, is_with, is_toward, IsAt}

-- ---- one office, or one record, changed

pub changed : {X : Type 0} (get : Drinker → X) (f : ℕ → Drinker) (a : ℕ) (d : Drinker) (c : ℕ) → get (put f a d c) ≡ put (λ z. get (f z)) a (get d) c
changed get f a d c = either (c == a)
  where
    either : (b : Bool) → get (cond b d (f c)) ≡ cond b (get d) (get (f c))
    either true = refl
    either false = refl

pub unchanged : {X : Type 0} (get : Drinker → X) (f : ℕ → Drinker) (a : ℕ) (d : Drinker) → get d ≡ get (f a) → (c : ℕ) → get (put f a d c) ≡ get (f c)
unchanged get f a d h c = ⊎_elim
    (λ e. ap (λ b. get (cond b d (f c))) (eq-eqb c a e) ∙ h ∙ ap (λ z. get (f z)) (sym e))
    (λ ne. ap (λ b. get (cond b d (f c))) (ne_eqb c a ne))
    (cases_eq c a)

pub way_there : {X : Type 0} (way : ℕ → ℕ → ℕ → X) (r : ℕ) (one : ℕ → ℕ → X) (b c : ℕ) → put way r one r b c ≡ one b c
way_there way r one b c = ap (λ t. cond t one (way r) b c) (eq-eqb r r refl)

pub way_elsewhere : {X : Type 0} (way : ℕ → ℕ → ℕ → X) (q : ℕ) (one : ℕ → ℕ → X) (r b c : ℕ) → (r ≡ q → ⊥) → put way q one r b c ≡ way r b c
way_elsewhere way q one r b c ne = ap (λ t. cond t one (way r) b c) (ne_eqb r q ne)

-- what goes from one office to another, changed
way_changed : {X : Type 0} (way : ℕ → ℕ → X) (a v : ℕ) (x : X) (b c : ℕ) → with_way way a v x b c ≡ cond (b == a && c == v) x (way b c)
way_changed way a v x b c = ⊎_elim
    (λ e. ap (λ t. cond t (put (way a) v x) (way b) c) (eq-eqb b a e) ∙ ap (λ z. cond (c == v) x (way z c)) (sym e) ∙ sym (ap (λ t. cond (t && c == v) x (way b c)) (eq-eqb b a e)))
    (λ ne. ap (λ t. cond t (put (way a) v x) (way b) c) (ne_eqb b a ne) ∙ sym (ap (λ t. cond (t && c == v) x (way b c)) (ne_eqb b a ne)))
    (cases_eq b a)

-- ---- a spot

pub same_at : {X Y : Type 0} (n : X) (m : Y) (held held' : ℕ → X) (way way' : ℕ → ℕ → Y) (spot : Spot) (x : X) (y : Y) → ((c : ℕ) → held' c ≡ held c) → ((b c : ℕ) → way' b c ≡ way b c) → IsAt n m held way spot x y →
    IsAt n m held' way' spot x y
same_at n m held held' way way' spot x y h s at = record { here = λ c. h c ∙ at.here c; sent = λ b c. s b c ∙ at.sent b c }

no_true : false ≡ true → ⊥
no_true e = absurd cc

-- what an office gives goes on the way
pub moved_off : {X Y : Type 0} (n : X) (m : Y) (held : ℕ → X) (way : ℕ → ℕ → Y) (spot : Spot) (x : X) (y : Y) (a v : ℕ) → IsAt n m held way spot x y → is_with spot a ≡ true → IsAt n m (put held a n) (with_way way a v y) (Toward a v) x y
moved_off n m held way (Toward s t) x y a v at e = absurd (no_true e)
moved_off n m held way (With s) x y a v at e = record {
  here = λ c. ⊎_elim
      (λ same. ap (λ t. cond t n (held c)) (eq-eqb c a same))
      (λ ne. ap (λ t. cond t n (held c)) (ne_eqb c a ne) ∙ at.here c ∙ ap (λ t. cond t x n) (ne_eqb c s (λ is. ne (is ∙ sym (eqb-true a s e)))))
      (cases_eq c a);
  sent = λ b c. way_changed way a v y b c ∙ ap (λ z. cond (b == a && c == v) y z) (at.sent b c);
}

-- what comes is held
pub moved_on : {X Y : Type 0} (n : X) (m : Y) (held : ℕ → X) (way : ℕ → ℕ → Y) (spot : Spot) (x : X) (y : Y) (v a : ℕ) → IsAt n m held way spot x y → is_toward spot v a ≡ true → IsAt n m (put held a x) (with_way way v a m) (With a) x y
moved_on n m held way (With s) x y v a at e = absurd (no_true e)
moved_on n m held way (Toward s t) x y v a at e = record {
  here = λ c. ap (λ z. cond (c == a) x z) (at.here c);
  sent = λ b c. way_changed way v a m b c
      ∙ ap (λ z. cond (b == v && c == a) m z) (at.sent b c)
      ∙ ap (λ z. cond (b == v && c == a) m (cond (b == z && c == t) y m)) (sym (eqb-true v s (and_parts (v == s) (a == t) e).0))
      ∙ ap (λ z. cond (b == v && c == a) m (cond (b == v && c == z) y m)) (sym (eqb-true a t (and_parts (v == s) (a == t) e).1))
      ∙ gone (b == v && c == a);
}
  where
    gone : (b : Bool) → cond b m (cond b y m) ≡ m
    gone true = refl
    gone false = refl

-- where it is with an office, nothing is on the way
pub none_on_way : {X Y : Type 0} (n : X) (m : Y) (held : ℕ → X) (way : ℕ → ℕ → Y) (spot : Spot) (x : X) (y : Y) (a : ℕ) → IsAt n m held way spot x y → is_with spot a ≡ true → (b c : ℕ) → way b c ≡ m
none_on_way n m held way (With s) x y a at e b c = at.sent b c
none_on_way n m held way (Toward s t) x y a at e b c = absurd (no_true e)

-- what is found is there
pub present : {X : Type 0} (test : X → Bool) (n x : X) (b : Bool) (y : X) → test n ≡ false → y ≡ cond b x n → test y ≡ true → (b ≡ true) × (y ≡ x)
present test n x true y none is t = (refl, is)
present test n x false y none is t = absurd (no_true (sym none ∙ ap test (sym is) ∙ t))

found : (b : Bool) (v x : Value) → Some v ≡ cond b (Some x) None → (b ≡ true) × (v ≡ x)
found true v x e = (refl, cc)
found false v x e = cc

-- a bottle that is on the way is the only one
pub found_first : (b : Bool) (v x : Value) (later : List Value) → v ∷ later ≡ cond b (x ∷ []) [] → (b ≡ true) × ((v ≡ x) × (later ≡ []))
found_first true v x later e = (refl, (cc, cc))
found_first false v x later e = cc

-- and so is a token
pub found_one : (b : Bool) (left : ℕ) → suc left ≡ cond b 1 0 → (b ≡ true) × (left ≡ 0)
found_one true left e = (refl, omega (arith, e))
found_one false left e = absurd (omega (arith, e))

pub one_spot : (held : ℕ → Option Value) (way : ℕ → ℕ → List Value) (spot other : Spot) (v x : Value) → IsAt None [] held way spot (Some v) (v ∷ []) → IsAt None [] held way other (Some x) (x ∷ []) → (spot ≡ other) × (v ≡ x)
one_spot held way (With a) (With b) v x p q =
    let f : ((a == b) ≡ true) × (v ≡ x) = found (a == b) v x (sym (p.here a ∙ ap (λ t. cond t (Some v) None) (eq-eqb a a refl)) ∙ q.here a) in
    (ap With (eqb-true a b f.0), f.1)
one_spot held way (Toward a b) (Toward c d) v x p q =
    let same : (a == a && b == b) ≡ true = and_from (a == a) (b == b) (eq-eqb a a refl) (eq-eqb b b refl) in
    let f : ((a == c && b == d) ≡ true) × ((v ≡ x) × ([] ≡ [])) = found_first (a == c && b == d) v x [] (sym (p.sent a b ∙ ap (λ t. cond t (v ∷ []) []) same) ∙ q.sent a b) in
    let k : ((a == c) ≡ true) × ((b == d) ≡ true) = and_parts (a == c) (b == d) f.0 in
    (ap (λ z. Toward z b) (eqb-true a c k.0) ∙ ap (Toward c) (eqb-true b d k.1), f.1.0)
one_spot held way (With a) (Toward c d) v x p q =
    absurd (no_true (found false v x (sym (p.here a ∙ ap (λ t. cond t (Some v) None) (eq-eqb a a refl)) ∙ q.here a)).0)
one_spot held way (Toward c d) (With a) v x p q =
    absurd (no_true (found false x v (sym (q.here a ∙ ap (λ t. cond t (Some x) None) (eq-eqb a a refl)) ∙ p.here a)).0)

-- what is here gets another value
pub written : (held : ℕ → Option Value) (way : ℕ → ℕ → List Value) (spot : Spot) (v : Value) (a : ℕ) (f : Value → Value) → IsAt None [] held way spot (Some v) (v ∷ []) →
    IsAt None [] (put held a (option_map f (held a))) way spot (Some (cond (is_with spot a) (f v) v)) (cond (is_with spot a) (f v) v ∷ [])
written held way (Toward s t) v a f at = record {
  here = λ c. ap (λ y. cond (c == a) (option_map f y) (held c)) (at.here a) ∙ ap (λ y. cond (c == a) None y) (at.here c) ∙ either (c == a);
  sent = at.sent;
}
  where
    either : (b : Bool) → ◌≡◌ {A = Option Value} (cond b None None) None
    either true = refl
    either false = refl
written held way (With s) v a f at = record {
  here = λ c. ⊎_elim
      (λ same. ap (λ t. cond t (option_map f (held a)) (held c)) (eq-eqb c a same) ∙ ap (option_map f) (at.here a) ∙ mapped (a == s) ∙ ap (λ z. cond (z == s) (Some (cond (a == s) (f v) v)) None) (sym same))
      (λ ne. ap (λ t. cond t (option_map f (held a)) (held c)) (ne_eqb c a ne) ∙ at.here c ∙ apart c ne)
      (cases_eq c a);
  sent = at.sent;
}
  where
    mapped : (b : Bool) → option_map f (cond b (Some v) None) ≡ cond b (Some (cond b (f v) v)) None
    mapped true = refl
    mapped false = refl

    apart : (c : ℕ) → (c ≡ a → ⊥) → cond (c == s) (Some v) None ≡ cond (c == s) (Some (cond (a == s) (f v) v)) None
    apart c ne = ⊎_elim
        (λ is. ap (λ t. cond (c == s) (Some (cond t (f v) v)) None) (sym (ne_eqb a s (λ e. ne (is ∙ sym e)))))
        (λ no. ap (λ t. cond t (Some v) None) (ne_eqb c s no) ∙ ap (λ t. cond t (Some (cond (a == s) (f v) v)) None) (sym (ne_eqb c s no)))
        (cases_eq c s)
