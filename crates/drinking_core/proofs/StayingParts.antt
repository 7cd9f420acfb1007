-- What of an office no event changes: its records, and the other end of each.
use Rattle.std.proofs.Common.{◌≡◌, ℕ, zero, suc, List, [], ◌∷◌, None, Some, refl, ap, ◌∙◌}
use Rattle.std.proofs.lemmas.Bool.{cond_both}
use Rattle.bottle_values.specs.declared.Value.{Value}
use Rattle.office_map.specs.PlanValue.{PlanValue, records_of, peer}
use Rattle.drinking_core.specs.Drinkers.{Drinker, BottleRule, Start, AskBottle, GiveBottle, Drink, Finish, Withdraw, act, with_token, with_bottle}
use Rattle.drinking_core.specs.Worlds.{World, opening, Event, Do, TokenComes, BottleComes, done, does, bottle_taken, token_taken, happens, run}
use Rattle.drinking_core.proofs.UniqueSpot.{unchanged}

-- a part that neither a rule nor what comes changes
record Stays {X : Type 0} (get : Drinker → X) : Type 0 where
  pub rule : (d : Drinker) (rule : BottleRule) → get (act d rule) ≡ get d
  pub token : (d : Drinker) (r : ℕ) → get (with_token d r) ≡ get d
  pub bottle : (d : Drinker) (r : ℕ) (x : Value) → get (with_bottle d r x) ≡ get d

after_token : {X : Type 0} (get : Drinker → X) → Stays get → (w : World) (a v r n c : ℕ) → get ((token_taken w a v r n).drinker c) ≡ get (w.drinker c)
after_token get s w a v r zero c = refl
after_token get s w a v r (suc left) c = unchanged get w.drinker a (with_token (w.drinker a) r) (s.token (w.drinker a) r) c

after_bottle : {X : Type 0} (get : Drinker → X) → Stays get → (w : World) (a v r : ℕ) (sent : List Value) (c : ℕ) → get ((bottle_taken w a v r sent).drinker c) ≡ get (w.drinker c)
after_bottle get s w a v r [] c = refl
after_bottle get s w a v r (x ∷ later) c = unchanged get w.drinker a (with_bottle (w.drinker a) r x) (s.bottle (w.drinker a) r x) c

after_event : {X : Type 0} (get : Drinker → X) → Stays get → (plan : PlanValue) (w : World) (e : Event) (c : ℕ) → get ((happens plan w e).drinker c) ≡ get (w.drinker c)
after_event get s plan w (Do a rule) c =
    cond_both (does plan w a rule) (done w a rule) w (λ (x : World). get (x.drinker c) ≡ get (w.drinker c))
    (λ e. unchanged get w.drinker a (act (w.drinker a) rule) (s.rule (w.drinker a) rule) c)
    (λ e. refl)
after_event get s plan w (TokenComes a v r) c = after_token get s w a v r (w.tokens_on_way r v a) c
after_event get s plan w (BottleComes a v r) c = after_bottle get s w a v r (w.bottles_on_way r v a) c

after_run : {X : Type 0} (get : Drinker → X) → Stays get → (plan : PlanValue) (w : World) (es : List Event) (c : ℕ) → get ((run plan w es).drinker c) ≡ get (w.drinker c)
after_run get s plan w [] c = refl
after_run get s plan w (e ∷ es) c = after_run get s plan (happens plan w e) es c ∙ after_event get s plan w e c

-- an office's records, and the other end of each
abbrev ends_of : Drinker → List ℕ × (ℕ → ℕ)
ends_of d = (d.records, d.peer)

ends_stay : Stays ends_of
ends_stay = record { rule = of; token = λ d r. refl; bottle = λ d r x. refl }
  where
    of : (d : Drinker) (rule : BottleRule) → ends_of (act d rule) ≡ ends_of d
    of d (Start None) = refl
    of d (Start (Some rs)) = refl
    of d (AskBottle r) = refl
    of d (GiveBottle r forks) = refl
    of d Drink = refl
    of d (Finish None) = refl
    of d (Finish (Some ws)) = refl
    of d Withdraw = refl

pub peers_after : (plan : PlanValue) (w : World) (e : Event) (a : ℕ) → ((happens plan w e).drinker a).peer ≡ (w.drinker a).peer
peers_after plan w e a = ap (λ (p : List ℕ × (ℕ → ℕ)). p.1) (after_event ends_of ends_stay plan w e a)

pub peers_run : (plan : PlanValue) (es : List Event) (a : ℕ) → ((run plan (opening plan) es).drinker a).peer ≡ peer plan a
peers_run plan es a = ap (λ (p : List ℕ × (ℕ → ℕ)). p.1) (after_run ends_of ends_stay plan (opening plan) es a)

pub peers_stay : (plan : PlanValue) (es : List Event) (a r : ℕ) → ((run plan (opening plan) es).drinker a).peer r ≡ peer plan a r
peers_stay plan es a r = ap (λ (f : ℕ → ℕ). f r) (peers_run plan es a)

pub records_stay : (plan : PlanValue) (es : List Event) (a : ℕ) → ((run plan (opening plan) es).drinker a).records ≡ records_of plan a
records_stay plan es a = ap (λ (p : List ℕ × (ℕ → ℕ)). p.0) (after_run ends_of ends_stay plan (opening plan) es a)
