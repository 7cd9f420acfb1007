-- What the work of a pair looks at, and how an office that asks for a fork lowers it.
use Rattle.std.proofs.Common.{◌≡◌, ℕ, ◌+◌, ◌*◌, Bool, false, not, cond, List, [], ◌∷◌, ◌++◌, Option, None, Some, refl, ap, ◌∙◌, arith}
use Rattle.std.specs.Prelude.{◌&&◌, ◌||◌, nat_lt}
use Rattle.std.specs.Option.{option_map_or}
use Rattle.bottle_values.specs.Lists.{num}
use Rattle.frame_codec.specs.declared.message.Msg.{Msg}
use Rattle.frame_codec.specs.declared.message.Msg.TheVariants as msg
use Rattle.office_map.specs.PlanValue.{PlanValue, ends_of}
use Rattle.token_channel.specs.declared.thing.Thing.{Thing}
use Rattle.token_channel.specs.declared.thing.Thing.TheVariants.{Fork, ForkToken, Bottle, BottleToken}
use Rattle.token_channel.specs.Things.{thing_of, same, count_carrying}
use Rattle.token_channel.specs.ThingLaws.{count_carrying-push}
use Rattle.site_core.specs.Pairs.{Pairs, held}
use Rattle.frame_world.specs.Ways.{between}
use Rattle.frame_world.specs.WorkLeft.{is_sent, is_near, request_work, gives_by_needs, gives_by_order, is_behind, gives_between, gives_left, bottle_work}

-- ---- behind a fork

-- a message at the end, other than the bottle, changes nothing
pub behind_pushed : (r : ℕ) (ms : List Msg) (m : Msg) → same (Bottle r) (thing_of m) ≡ false → is_behind r (ms ++ m ∷ []) ≡ is_behind r ms
behind_pushed r [] msg.Fork e = refl
behind_pushed r [] msg.AskFork e = refl
behind_pushed r [] (msg.AskBottle q) e = refl
behind_pushed r [] (msg.Bottle q x) e = refl
behind_pushed r (msg.Fork ∷ ms) m e = let as_many : count_carrying (Bottle r) (ms ++ m ∷ []) ≡ count_carrying (Bottle r) ms = omega (arith, count_carrying-push (Bottle r) ms m, ap num e) in ap (nat_lt 0) as_many
behind_pushed r (msg.AskFork ∷ ms) m e = behind_pushed r ms m e
behind_pushed r (msg.AskBottle q ∷ ms) m e = behind_pushed r ms m e
behind_pushed r (msg.Bottle q x ∷ ms) m e = behind_pushed r ms m e

-- ---- bottles

-- all that is looked at of a record's bottle is as it was
pub record IsSeenSame (pairs pairs' : ℕ → Pairs) (r : ℕ) : Type 0 where
  pub held : (x y : ℕ) (t : Thing) → same t ForkToken ≡ false → held (pairs' x) y t ≡ held (pairs x) y t
  pub needed : (x : ℕ) → (pairs' x).drinker.needed r ≡ (pairs x).drinker.needed r
  pub sent : (x y : ℕ) (t : Thing) → same t ForkToken ≡ false → count_carrying t (between pairs' x y) ≡ count_carrying t (between pairs x y)
  pub behind : (x y : ℕ) → is_behind r (between pairs' x y) ≡ is_behind r (between pairs x y)

module _ (pairs pairs' : ℕ → Pairs) (r : ℕ) (s : IsSeenSame pairs pairs' r) where
  near_same : (x y : ℕ) (t : Thing) → same t ForkToken ≡ false → is_near pairs' x y t ≡ is_near pairs x y t
  near_same x y t e = ap (λ b. b || is_sent pairs' y x t) (s.held x y t e) ∙ ap (λ n. held (pairs x) y t || nat_lt 0 n) (s.sent y x t e)

  abbrev gives : Bool → Bool → Bool → Bool → Bool → ℕ
  gives fork needed near token behind = cond fork (gives_by_needs needed near token) (gives_by_order behind near)

  between_same : (x y : ℕ) → gives_between pairs' r x y ≡ gives_between pairs r x y
  between_same x y =
      ap (λ b. gives b ((pairs' x).drinker.needed r) (is_near pairs' x y (Bottle r)) (held (pairs' x) y (BottleToken r)) (is_behind r (between pairs' y x))) (s.held x y Fork refl)
      ∙ ap (λ b. gives (held (pairs x) y Fork) b (is_near pairs' x y (Bottle r)) (held (pairs' x) y (BottleToken r)) (is_behind r (between pairs' y x))) (s.needed x)
      ∙ ap (λ b. gives (held (pairs x) y Fork) ((pairs x).drinker.needed r) b (held (pairs' x) y (BottleToken r)) (is_behind r (between pairs' y x))) (near_same x y (Bottle r) refl)
      ∙ ap (λ b. gives (held (pairs x) y Fork) ((pairs x).drinker.needed r) (is_near pairs x y (Bottle r)) b (is_behind r (between pairs' y x))) (s.held x y (BottleToken r) refl)
      ∙ ap (λ b. gives (held (pairs x) y Fork) ((pairs x).drinker.needed r) (is_near pairs x y (Bottle r)) (held (pairs x) y (BottleToken r)) b) (s.behind y x)

  left_same : (u v : ℕ) → gives_left pairs' r (u, v) ≡ gives_left pairs r (u, v)
  left_same u v =
      ap (λ b. cond b (gives_between pairs' r u v) (gives_between pairs' r v u)) (near_same u v Fork refl)
      ∙ ap (λ n. cond (is_near pairs u v Fork) n (gives_between pairs' r v u)) (between_same u v)
      ∙ ap (λ n. cond (is_near pairs u v Fork) (gives_between pairs r u v) n) (between_same v u)

  request_same : (x y : ℕ) → request_work pairs' x y (Bottle r) (BottleToken r) ≡ request_work pairs x y (Bottle r) (BottleToken r)
  request_same x y =
      ap (λ n. n + 2 * num (held (pairs' x) y (BottleToken r) && not (held (pairs' x) y (Bottle r)))) (s.sent x y (BottleToken r) refl)
      ∙ ap (λ b. count_carrying (BottleToken r) (between pairs x y) + 2 * num (b && not (held (pairs' x) y (Bottle r)))) (s.held x y (BottleToken r) refl)
      ∙ ap (λ b. count_carrying (BottleToken r) (between pairs x y) + 2 * num (held (pairs x) y (BottleToken r) && not b)) (s.held x y (Bottle r) refl)

  pub bottle_work_same : (u v : ℕ) → bottle_work pairs' r (u, v) ≡ bottle_work pairs r (u, v)
  bottle_work_same u v = omega (arith, left_same u v, s.sent u v (Bottle r) refl, s.sent v u (Bottle r) refl, request_same u v, request_same v u)

  pub ends_work_same : (plan : PlanValue) → option_map_or (bottle_work pairs' r) (ends_of plan r) 0 ≡ option_map_or (bottle_work pairs r) (ends_of plan r) 0
  ends_work_same plan = of (ends_of plan r)
    where
      of : (o : Option (ℕ × ℕ)) → option_map_or (bottle_work pairs' r) o 0 ≡ option_map_or (bottle_work pairs r) o 0
      of None = refl
      of (Some (u, v)) = bottle_work_same u v
