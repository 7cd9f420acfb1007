-- What is on the way between two offices, measured: where one message was sent or came, only the way that it took changes.
use Rattle.std.proofs.Common.{◌≡◌, ℕ, ◌+◌, Bool, true, false, cond, List, [], ◌∷◌, ◌++◌, None, Some, refl, sym, ap, ◌∙◌, arith, ⊎_elim, append-nil}
use Rattle.std.specs.Prelude.{◌==◌}
use Rattle.std.proofs.lemmas.Bool.{cases_eq}
use mathlib.Core.Path.{fun_ext}
use Rattle.bottle_values.specs.declared.Value.{Value}
use Rattle.bottle_values.specs.Maps.{put}
use Rattle.bottle_values.specs.MapLaws.{put_at, put_other}
use Rattle.frame_codec.specs.declared.message.Msg.{Msg}
use Rattle.frame_codec.specs.declared.message.Msg.TheVariants as msg
use Rattle.token_channel.specs.declared.thing.Thing.{Thing}
use Rattle.token_channel.specs.Things.{count_carrying}
use Rattle.dining_core.specs.Worlds.{with_way}
use Rattle.dining_core.specs.WayLaws.{cases_two, way_at, way_off}
use Rattle.site_core.specs.Pairs.{Pairs}
use Rattle.frame_world.specs.Ways.{between, bottles_in}
use Rattle.frame_world.proofs.Links.{Goes, Comes, way_same}

-- ---- measures of messages

pub count_append : (t : Thing) (xs ys : List Msg) → count_carrying t (xs ++ ys) ≡ count_carrying t xs + count_carrying t ys
count_append t [] ys = omega arith
count_append t (x ∷ xs) ys = omega (arith, count_append t xs ys)

more_bottles : (b : Bool) (x : Value) (xs ys zs : List Value) → zs ≡ xs ++ ys → cond b (x ∷ zs) zs ≡ cond b (x ∷ xs) xs ++ ys
more_bottles true x xs ys zs e = ap (λ l. x ∷ l) e
more_bottles false x xs ys zs e = e

pub bottles_append : (r : ℕ) (xs ys : List Msg) → bottles_in r (xs ++ ys) ≡ bottles_in r xs ++ bottles_in r ys
bottles_append r [] ys = refl
bottles_append r (msg.Bottle q x ∷ ms) ys = more_bottles (r == q) x (bottles_in r ms) (bottles_in r ys) (bottles_in r (ms ++ ys)) (bottles_append r ms ys)
bottles_append r (msg.AskBottle q ∷ ms) ys = bottles_append r ms ys
bottles_append r (msg.Fork ∷ ms) ys = bottles_append r ms ys
bottles_append r (msg.AskFork ∷ ms) ys = bottles_append r ms ys

-- ---- only one way changed

pub record OneWay (f g : ℕ → ℕ → List Msg) (a v : ℕ) : Type 0 where
  pub off : (x y : ℕ) → ((x ≡ a) × (y ≡ v) → ⊥) → f x y ≡ g x y

pub measured : {X : Type 0} (h : List Msg → X) (f g : ℕ → ℕ → List Msg) (a v : ℕ) → OneWay f g a v → ◌≡◌ {A = ℕ → ℕ → X} (λ x y. h (f x y)) (with_way (λ x y. h (g x y)) a v (h (f a v)))
measured h f g a v one = fun_ext (λ x. fun_ext (λ y. ⊎_elim
    (λ e. ap (λ k. h (f k y)) e.0 ∙ ap (λ k. h (f a k)) e.1 ∙ sym (way_at (λ x y. h (g x y)) a v (h (f a v)) x y e))
    (λ ne. ap h (one.off x y ne) ∙ sym (way_off (λ x y. h (g x y)) a v (h (f a v)) x y ne))
    (cases_two x a y v)))

pub unmeasured : {X : Type 0} (h : List Msg → X) (f g : ℕ → ℕ → List Msg) (a v : ℕ) → OneWay f g a v → h (f a v) ≡ h (g a v) → ◌≡◌ {A = ℕ → ℕ → X} (λ x y. h (f x y)) (λ x y. h (g x y))
unmeasured h f g a v one e = measured h f g a v one ∙ fun_ext (λ x. fun_ext (λ y. way_same (λ x y. h (g x y)) a v (h (f a v)) e x y))

-- of measures for each record, that of one
pub measured_of : {X : Type 0} (h : ℕ → List Msg → X) (r : ℕ) (f g : ℕ → ℕ → List Msg) (a v : ℕ) → OneWay f g a v → ((q : ℕ) → (q ≡ r → ⊥) → h q (f a v) ≡ h q (g a v)) →
    ◌≡◌ {A = ℕ → ℕ → ℕ → X} (λ q x y. h q (f x y)) (put (λ q x y. h q (g x y)) r (with_way (λ x y. h r (g x y)) a v (h r (f a v))))
measured_of h r f g a v one others = fun_ext (λ q. ⊎_elim
    (λ e. ap (λ k. (λ x y. h k (f x y))) e ∙ measured (h r) f g a v one ∙ sym (put_at (λ q x y. h q (g x y)) r (with_way (λ x y. h r (g x y)) a v (h r (f a v))) q e))
    (λ ne. unmeasured (h q) f g a v one (others q ne) ∙ sym (put_other (λ q x y. h q (g x y)) r (with_way (λ x y. h r (g x y)) a v (h r (f a v))) q ne))
    (cases_eq q r))

pub unmeasured_of : {X : Type 0} (h : ℕ → List Msg → X) (f g : ℕ → ℕ → List Msg) (a v : ℕ) → OneWay f g a v → ((q : ℕ) → h q (f a v) ≡ h q (g a v)) → ◌≡◌ {A = ℕ → ℕ → ℕ → X} (λ q x y. h q (f x y)) (λ q x y. h q (g x y))
unmeasured_of h f g a v one others = fun_ext (λ q. unmeasured (h q) f g a v one (others q))

-- ---- of what goes out and what comes in

pub nothing_sent : (pairs pairs' : ℕ → Pairs) (a : ℕ) → Goes pairs a None pairs' → between pairs' ≡ between pairs
nothing_sent pairs pairs' a g = fun_ext (λ x. fun_ext (λ y. g.ways x y ∙ append-nil (between pairs x y)))

pub one_sent : (pairs pairs' : ℕ → Pairs) (a v : ℕ) (m : Msg) → Goes pairs a (Some (v, m)) pairs' → OneWay (between pairs') (between pairs) a v × (between pairs' a v ≡ between pairs a v ++ m ∷ [])
one_sent pairs pairs' a v m g = (
  record { off = λ x y ne. g.ways x y ∙ ap (λ l. between pairs x y ++ l) (way_off (λ x y. []) a v (m ∷ []) x y ne) ∙ append-nil (between pairs x y) },
  g.ways a v ∙ ap (λ l. between pairs a v ++ l) (way_at (λ x y. []) a v (m ∷ []) a v (refl, refl)),
)

pub nothing_came : (pairs pairs' : ℕ → Pairs) (u a : ℕ) → Comes pairs u a None pairs' → between pairs' ≡ between pairs
nothing_came pairs pairs' u a c = fun_ext (λ x. fun_ext (λ y. sym (c.ways x y)))

pub one_came : (pairs pairs' : ℕ → Pairs) (u a : ℕ) (m : Msg) → Comes pairs u a (Some m) pairs' → OneWay (between pairs') (between pairs) u a × (between pairs u a ≡ m ∷ between pairs' u a)
one_came pairs pairs' u a m c = (
  record { off = λ x y ne. sym (c.ways x y ∙ ap (λ l. l ++ between pairs' x y) (way_off (λ x y. []) u a (m ∷ []) x y ne)) },
  c.ways u a ∙ ap (λ l. l ++ between pairs' u a) (way_at (λ x y. []) u a (m ∷ []) u a (refl, refl)),
)
