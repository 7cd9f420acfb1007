-- The spots of bottles and request tokens, event by event.
use Rattle.std.proofs.Common.{◌≡◌, ℕ, zero, suc, ◌+◌, ◌<◌, Bool, true, false, not, ◌&&◌, ◌||◌, cond, List, [], ◌∷◌, ◌++◌, length, Option, None, Some, is_some, refl, sym, ap, ◌∙◌, subst, arith, ⊎_elim, slice_get}
use Rattle.std.specs.Prelude.{◌==◌, nat_lt, option_map}
use Rattle.std.specs.Option.{option_map_or}
use Rattle.std.proofs.lemmas.Bool.{cond_both, eq-eqb, eqb-true, cases_eq, and_parts, or_left, or_right}
use Rattle.std.proofs.lemmas.Option.{slice_get_cases}
use Rattle.bottle_values.specs.declared.Value.{Value}
use Rattle.bottle_values.specs.Maps.{put}
use Rattle.bottle_values.specs.MapLaws.{put_same, put_other}
use Rattle.office_map.specs.declared.entries.RecordEntry.{RecordEntry}
use Rattle.office_map.specs.PlanValue.{PlanValue, has_ends, has_end, start_end, peer}
use Rattle.office_map.specs.NeighbourLaws.{has_peer, has_ends_both, is_first_end}
use Rattle.dining_core.specs.Worlds.{with_way, one_more}
use Rattle.drinking_core.specs.Drinkers.{Drinker, BottleRule, Start, AskBottle, GiveBottle, Drink, Finish, Withdraw, is_thirsty, is_drinking, holds, may, act, started, finished, with_token, with_bottle, value_after, token_end, start_bottle, start_token}
use Rattle.drinking_core.specs.Worlds.{World, opening, Event, Do, TokenComes, BottleComes, bottle_sent, done, bottle_taken, token_taken, does, happens, run, Spot, With, Toward, is_with, is_toward, is_at_ends, IsBottleAt, IsTokenAt, HasItsSpots, finishes, HasValue}
use Rattle.drinking_core.proofs.UniqueSpot.{changed, unchanged, way_there, way_elsewhere, same_at, moved_off, moved_on, none_on_way, present, found_first, found_one, one_spot, written}
use Rattle.drinking_core.proofs.StayingParts.{peers_after}

-- what an office has of a record
abbrev bottle_of : ℕ → Drinker → Option Value
bottle_of r d = d.bottle r

abbrev token_of : ℕ → Drinker → Bool
token_of r d = d.token r

no_true : false ≡ true → ⊥
no_true e = absurd cc

-- ---- what a rule leaves as it is

started_bottle : (d : Drinker) (s : Option (List ℕ)) → (started d s).bottle ≡ d.bottle
started_bottle d None = refl
started_bottle d (Some rs) = refl

started_token : (d : Drinker) (s : Option (List ℕ)) → (started d s).token ≡ d.token
started_token d None = refl
started_token d (Some rs) = refl

finished_token : (d : Drinker) (w : Option (List (ℕ × Value))) → (finished d w).token ≡ d.token
finished_token d None = refl
finished_token d (Some ws) = refl

-- where something of a record may be, from where it may go and to where it may come
record Leads (P : Spot → Type 0) (w : World) (r : ℕ) : Type 0 where
  pub off : (a : ℕ) → P (With a) → P (Toward a ((w.drinker a).peer r))
  pub on : (a v : ℕ) → P (Toward a v) → P (With v)

-- it is at such a spot
record Moved (P : Spot → Type 0) (w : World) (r : ℕ) (v : Value) : Type 0 where
  pub spot : Spot
  pub at : IsBottleAt w r spot v
  pub end : P spot

record TokenMoved (P : Spot → Type 0) (w : World) (r : ℕ) : Type 0 where
  pub spot : Spot
  pub at : IsTokenAt w r spot
  pub end : P spot

end_of : (P : Spot → Type 0) (spot : Spot) (a : ℕ) → is_with spot a ≡ true → P spot → P (With a)
end_of P (With s) a e p = subst (λ z. P (With z)) (sym (eqb-true a s e)) p
end_of P (Toward s t) a e p = absurd (no_true e)

end_toward : (P : Spot → Type 0) (spot : Spot) (v a : ℕ) → is_toward spot v a ≡ true → P spot → P (Toward v a)
end_toward P (With s) v a e p = absurd (no_true e)
end_toward P (Toward s t) v a e p =
    let k : ((v == s) ≡ true) × ((a == t) ≡ true) = and_parts (v == s) (a == t) e in
    subst (λ z. P (Toward z a)) (sym (eqb-true v s k.0)) (subst (λ z. P (Toward s z)) (sym (eqb-true a t k.1)) p)

-- ---- bottles

bottle_still : (w : World) (a : ℕ) (d : Drinker) (way : ℕ → ℕ → ℕ → List Value) (tokens : ℕ → ℕ → ℕ → ℕ) (r : ℕ) (spot : Spot) (v : Value) → d.bottle r ≡ (w.drinker a).bottle r → ((b c : ℕ) → way r b c ≡ w.bottles_on_way r b c) → IsBottleAt w r spot v →
    IsBottleAt (record { drinker = put w.drinker a d; bottles_on_way = way; tokens_on_way = tokens }) r spot v
bottle_still w a d way tokens r spot v same ways at =
    same_at None [] (λ c. (w.drinker c).bottle r) (λ c. (put w.drinker a d c).bottle r) (w.bottles_on_way r) (way r) spot (Some v) (v ∷ []) (unchanged (bottle_of r) w.drinker a d same) ways at

sent_elsewhere : (way : ℕ → ℕ → ℕ → List Value) (q a p : ℕ) (o : Option Value) (r b c : ℕ) → (r ≡ q → ⊥) → bottle_sent way q a p o r b c ≡ way r b c
sent_elsewhere way q a p None r b c ne = refl
sent_elsewhere way q a p (Some x) r b c ne = way_elsewhere way q (with_way (way q) a p (way q a p ++ x ∷ [])) r b c ne

is_given : (t h k : Bool) → (t && (h && k)) ≡ true → h ≡ true
is_given t h k e = (and_parts h k (and_parts t (h && k) e).1).0

bottle_given : (P : Spot → Type 0) (w : World) (a r : ℕ) (forks : ℕ → Bool) (spot : Spot) (v : Value) → Leads P w r → may (w.drinker a) (GiveBottle r forks) ≡ true → IsBottleAt w r spot v → P spot →
    Moved P (done w a (GiveBottle r forks)) r v
bottle_given P w a r forks spot v leads g at p =
    let d : Drinker = w.drinker a in
    let here : (is_with spot a ≡ true) × (d.bottle r ≡ Some v) =
    present (λ o. is_some o) None (Some v) (is_with spot a) (d.bottle r) refl (at.here a) (is_given (d.token r) (is_some (d.bottle r)) (not (d.needed r && (is_drinking d.phase || forks (d.peer r)))) g) in
    let free : w.bottles_on_way r a (d.peer r) ≡ [] = none_on_way None [] (λ c. (w.drinker c).bottle r) (w.bottles_on_way r) spot (Some v) (v ∷ []) a at here.0 a (d.peer r) in
    record {
      spot = Toward a (d.peer r);
      at = same_at None [] (put (λ c. (w.drinker c).bottle r) a None) (λ c. (put w.drinker a (act d (GiveBottle r forks)) c).bottle r)
          (with_way (w.bottles_on_way r) a (d.peer r) (v ∷ [])) (bottle_sent w.bottles_on_way r a (d.peer r) (d.bottle r) r) (Toward a (d.peer r)) (Some v) (v ∷ [])
          (λ c. changed (bottle_of r) w.drinker a (act d (GiveBottle r forks)) c ∙ ap (λ x. put (λ z. (w.drinker z).bottle r) a x c) (put_same d.bottle r None))
          (λ b c. ap (λ o. bottle_sent w.bottles_on_way r a (d.peer r) o r b c) here.1
          ∙ way_there w.bottles_on_way r (with_way (w.bottles_on_way r) a (d.peer r) (w.bottles_on_way r a (d.peer r) ++ v ∷ [])) b c
          ∙ ap (λ l. with_way (w.bottles_on_way r) a (d.peer r) (l ++ v ∷ []) b c) free)
          (moved_off None [] (λ c. (w.drinker c).bottle r) (w.bottles_on_way r) spot (Some v) (v ∷ []) a (d.peer r) at here.0);
      end = leads.off a (end_of P spot a here.0 p);
    }

bottle_gives : (P : Spot → Type 0) (w : World) (a q r : ℕ) (forks : ℕ → Bool) (spot : Spot) (v : Value) → Leads P w r → may (w.drinker a) (GiveBottle q forks) ≡ true → IsBottleAt w r spot v → P spot →
    Moved P (done w a (GiveBottle q forks)) r v
bottle_gives P w a q r forks spot v leads g at p = ⊎_elim
    (λ e. subst (λ z. may (w.drinker a) (GiveBottle z forks) ≡ true → Moved P (done w a (GiveBottle z forks)) r v) e (λ m. bottle_given P w a r forks spot v leads m at p) g)
    (λ ne. record {
      spot = spot;
      at = bottle_still w a (act (w.drinker a) (GiveBottle q forks)) (bottle_sent w.bottles_on_way q a ((w.drinker a).peer q) ((w.drinker a).bottle q)) w.tokens_on_way r spot v
          (put_other (w.drinker a).bottle q None r ne) (λ b c. sent_elsewhere w.bottles_on_way q a ((w.drinker a).peer q) ((w.drinker a).bottle q) r b c ne) at;
      end = p;
    })
    (cases_eq r q)

bottle_finishes : (w : World) (a r : ℕ) (ws : List (ℕ × Value)) (spot : Spot) (v : Value) → IsBottleAt w r spot v → IsBottleAt (done w a (Finish (Some ws))) r spot (cond (is_with spot a) (value_after ws r v) v)
bottle_finishes w a r ws spot v at =
    let x : Value = cond (is_with spot a) (value_after ws r v) v in
    same_at None [] (put (λ c. (w.drinker c).bottle r) a (option_map (value_after ws r) ((w.drinker a).bottle r))) (λ c. (put w.drinker a (act (w.drinker a) (Finish (Some ws))) c).bottle r) (w.bottles_on_way r) (w.bottles_on_way r) spot (Some x) (x ∷ [])
    (changed (bottle_of r) w.drinker a (act (w.drinker a) (Finish (Some ws))))
    (λ b c. refl)
    (written (λ c. (w.drinker c).bottle r) (w.bottles_on_way r) spot v a (value_after ws r) at)

-- a rule other than the end of a session
abbrev ends_one : BottleRule → Bool
ends_one (Start s) = false
ends_one (AskBottle r) = false
ends_one (GiveBottle r forks) = false
ends_one Drink = false
ends_one (Finish w) = true
ends_one Withdraw = false

bottle_rule : (P : Spot → Type 0) (w : World) (a r : ℕ) (rule : BottleRule) (spot : Spot) (v : Value) → Leads P w r → ends_one rule ≡ false → may (w.drinker a) rule ≡ true → IsBottleAt w r spot v → P spot → Moved P (done w a rule) r v
bottle_rule P w a r (Start s) spot v leads f g at p = record { spot = spot; at = bottle_still w a (started (w.drinker a) s) w.bottles_on_way w.tokens_on_way r spot v (ap (λ (b : ℕ → Option Value). b r) (started_bottle (w.drinker a) s)) (λ b c. refl) at; end = p }
bottle_rule P w a r (AskBottle q) spot v leads f g at p = record {
  spot = spot;
  at = bottle_still w a (act (w.drinker a) (AskBottle q)) w.bottles_on_way (put w.tokens_on_way q (one_more (w.tokens_on_way q) a ((w.drinker a).peer q))) r spot v refl (λ b c. refl) at;
  end = p;
}
bottle_rule P w a r (GiveBottle q forks) spot v leads f g at p = bottle_gives P w a q r forks spot v leads g at p
bottle_rule P w a r Drink spot v leads f g at p = record { spot = spot; at = bottle_still w a (act (w.drinker a) Drink) w.bottles_on_way w.tokens_on_way r spot v refl (λ b c. refl) at; end = p }
bottle_rule P w a r (Finish ws) spot v leads f g at p = absurd (no_true (sym f))
bottle_rule P w a r Withdraw spot v leads f g at p = record { spot = spot; at = bottle_still w a (act (w.drinker a) Withdraw) w.bottles_on_way w.tokens_on_way r spot v refl (λ b c. refl) at; end = p }

if_done : (P : Spot → Type 0) (plan : PlanValue) (w : World) (a r : ℕ) (rule : BottleRule) (spot : Spot) (v : Value) → Leads P w r → ends_one rule ≡ false → IsBottleAt w r spot v → P spot → Moved P (cond (does plan w a rule) (done w a rule) w) r v
if_done P plan w a r rule spot v leads f at p =
    cond_both (does plan w a rule) (done w a rule) w (λ (x : World). Moved P x r v)
    (λ e. bottle_rule P w a r rule spot v leads f (and_parts (nat_lt a (length plan.offices)) (may (w.drinker a) rule) e).1 at p)
    (λ e. record { spot = spot; at = at; end = p })

-- the bottles on the way, of which the first comes, are those that were sent
bottle_comes : (P : Spot → Type 0) (w : World) (a u q r : ℕ) (sent : List Value) (spot : Spot) (v : Value) → Leads P w r → w.bottles_on_way q u a ≡ sent → IsBottleAt w r spot v → P spot → Moved P (bottle_taken w a u q sent) r v
bottle_comes P w a u q r [] spot v leads e at p = record { spot = spot; at = at; end = p }
bottle_comes P w a u q r (x ∷ later) spot v leads e at p = ⊎_elim
    (λ same. subst (λ z. w.bottles_on_way z u a ≡ x ∷ later → Moved P (bottle_taken w a u z (x ∷ later)) r v) same here e)
    (λ ne. record {
      spot = spot;
      at = bottle_still w a (with_bottle (w.drinker a) q x) (put w.bottles_on_way q (with_way (w.bottles_on_way q) u a later)) w.tokens_on_way r spot v
          (put_other (w.drinker a).bottle q (Some x) r ne) (λ b c. way_elsewhere w.bottles_on_way q (with_way (w.bottles_on_way q) u a later) r b c ne) at;
      end = p;
    })
    (cases_eq r q)
  where
    here : w.bottles_on_way r u a ≡ x ∷ later → Moved P (bottle_taken w a u r (x ∷ later)) r v
    here is =
        let f : (is_toward spot u a ≡ true) × ((x ≡ v) × (later ≡ [])) = found_first (is_toward spot u a) x v later (sym is ∙ at.sent u a) in
        record {
          spot = With a;
          at = same_at None [] (put (λ c. (w.drinker c).bottle r) a (Some v)) (λ c. (put w.drinker a (with_bottle (w.drinker a) r x) c).bottle r)
              (with_way (w.bottles_on_way r) u a []) (put w.bottles_on_way r (with_way (w.bottles_on_way r) u a later) r) (With a) (Some v) (v ∷ [])
              (λ c. changed (bottle_of r) w.drinker a (with_bottle (w.drinker a) r x) c ∙ ap (λ y. put (λ z. (w.drinker z).bottle r) a y c) (put_same (w.drinker a).bottle r (Some x) ∙ ap Some f.1.0))
              (λ b c. way_there w.bottles_on_way r (with_way (w.bottles_on_way r) u a later) b c ∙ ap (λ l. with_way (w.bottles_on_way r) u a l b c) f.1.1)
              (moved_on None [] (λ c. (w.drinker c).bottle r) (w.bottles_on_way r) spot (Some v) (v ∷ []) u a at f.0);
          end = leads.on u a (end_toward P spot u a f.0 p);
        }

bottle_at_token : (P : Spot → Type 0) (w : World) (a u q n r : ℕ) (spot : Spot) (v : Value) → IsBottleAt w r spot v → P spot → Moved P (token_taken w a u q n) r v
bottle_at_token P w a u q zero r spot v at p = record { spot = spot; at = at; end = p }
bottle_at_token P w a u q (suc left) r spot v at p = record {
  spot = spot;
  at = bottle_still w a (with_token (w.drinker a) q) w.bottles_on_way (put w.tokens_on_way q (with_way (w.tokens_on_way q) u a left)) r spot v refl (λ b c. refl) at;
  end = p;
}

-- every event but the end of a session
bottle_after : (P : Spot → Type 0) (plan : PlanValue) (w : World) (e : Event) (r : ℕ) (spot : Spot) (v : Value) → Leads P w r → finishes plan w e ≡ false → IsBottleAt w r spot v → P spot → Moved P (happens plan w e) r v
bottle_after P plan w (TokenComes a u q) r spot v leads f at p = bottle_at_token P w a u q (w.tokens_on_way q u a) r spot v at p
bottle_after P plan w (BottleComes a u q) r spot v leads f at p = bottle_comes P w a u q r (w.bottles_on_way q u a) spot v leads refl at p
bottle_after P plan w (Do a (Finish ws)) r spot v leads f at p = subst (λ b. Moved P (cond b (done w a (Finish ws)) w) r v) (sym f) (record { spot = spot; at = at; end = p })
bottle_after P plan w (Do a (Start s)) r spot v leads f at p = if_done P plan w a r (Start s) spot v leads refl at p
bottle_after P plan w (Do a (AskBottle q)) r spot v leads f at p = if_done P plan w a r (AskBottle q) spot v leads refl at p
bottle_after P plan w (Do a (GiveBottle q forks)) r spot v leads f at p = if_done P plan w a r (GiveBottle q forks) spot v leads refl at p
bottle_after P plan w (Do a Drink) r spot v leads f at p = if_done P plan w a r Drink spot v leads refl at p
bottle_after P plan w (Do a Withdraw) r spot v leads f at p = if_done P plan w a r Withdraw spot v leads refl at p

pub values_stay : (plan : PlanValue) (w : World) (e : Event) (r : ℕ) (v : Value) → finishes plan w e ≡ false → HasValue w r v → HasValue (happens plan w e) r v
values_stay plan w e r v f h =
    let m : Moved (λ c. Unit {0}) (happens plan w e) r v = bottle_after (λ c. Unit {0}) plan w e r h.spot v (record { off = λ a u. tt; on = λ a c u. tt }) f h.at tt in
    record { spot = m.spot; at = m.at }

pub finishing_writes : (plan : PlanValue) (w : World) (a : ℕ) (ws : List (ℕ × Value)) (r : ℕ) (spot : Spot) (v : Value) → finishes plan w (Do a (Finish (Some ws))) ≡ true → IsBottleAt w r spot v →
    IsBottleAt (happens plan w (Do a (Finish (Some ws)))) r spot (cond (is_with spot a) (value_after ws r v) v)
finishing_writes plan w a ws r spot v f at =
    subst (λ b. IsBottleAt (cond b (done w a (Finish (Some ws))) w) r spot (cond (is_with spot a) (value_after ws r v) v)) (sym f) (bottle_finishes w a r ws spot v at)

pub no_other_spot : (w : World) (r : ℕ) (spot other : Spot) (v x : Value) → IsBottleAt w r spot v → IsBottleAt w r other x → (spot ≡ other) × (v ≡ x)
no_other_spot w r spot other v x p q = one_spot (λ c. (w.drinker c).bottle r) (w.bottles_on_way r) spot other v x p q

pub bottles_start : (plan : PlanValue) (r : ℕ) (e : RecordEntry) → slice_get plan.records r ≡ Some e → IsBottleAt (opening plan) r (With (start_end e)) e.value
bottles_start plan r e h = record { here = λ c. ap (start_bottle c) h; sent = λ b c. refl }

tokens_start : (plan : PlanValue) (r : ℕ) (e : RecordEntry) → slice_get plan.records r ≡ Some e → IsTokenAt (opening plan) r (With (token_end e))
tokens_start plan r e h = record { here = λ c. ap (start_token c) h ∙ plain (c == token_end e); sent = λ b c. refl }
  where
    plain : (b : Bool) → b ≡ cond b true false
    plain true = refl
    plain false = refl

-- ---- request tokens

token_still : (w : World) (a : ℕ) (d : Drinker) (bottles : ℕ → ℕ → ℕ → List Value) (way : ℕ → ℕ → ℕ → ℕ) (r : ℕ) (spot : Spot) → d.token r ≡ (w.drinker a).token r → ((b c : ℕ) → way r b c ≡ w.tokens_on_way r b c) → IsTokenAt w r spot →
    IsTokenAt (record { drinker = put w.drinker a d; bottles_on_way = bottles; tokens_on_way = way }) r spot
token_still w a d bottles way r spot same ways at =
    same_at false 0 (λ c. (w.drinker c).token r) (λ c. (put w.drinker a d c).token r) (w.tokens_on_way r) (way r) spot true 1 (unchanged (token_of r) w.drinker a d same) ways at

is_asked : (p n h t : Bool) → (p && (n && (h && t))) ≡ true → t ≡ true
is_asked p n h t e = (and_parts h t (and_parts n (h && t) (and_parts p (n && (h && t)) e).1).1).1

token_given : (P : Spot → Type 0) (w : World) (a r : ℕ) (spot : Spot) → Leads P w r → may (w.drinker a) (AskBottle r) ≡ true → IsTokenAt w r spot → P spot → TokenMoved P (done w a (AskBottle r)) r
token_given P w a r spot leads g at p =
    let d : Drinker = w.drinker a in
    let here : (is_with spot a ≡ true) × (d.token r ≡ true) = present (λ b. b) false true (is_with spot a) (d.token r) refl (at.here a) (is_asked (is_thirsty d.phase) (d.needed r) (not (holds d r)) (d.token r) g) in
    let one : w.tokens_on_way r a (d.peer r) + 1 ≡ 1 = omega (arith, none_on_way false 0 (λ c. (w.drinker c).token r) (w.tokens_on_way r) spot true 1 a at here.0 a (d.peer r)) in
    record {
      spot = Toward a (d.peer r);
      at = same_at false 0 (put (λ c. (w.drinker c).token r) a false) (λ c. (put w.drinker a (act d (AskBottle r)) c).token r)
          (with_way (w.tokens_on_way r) a (d.peer r) 1) (put w.tokens_on_way r (one_more (w.tokens_on_way r) a (d.peer r)) r) (Toward a (d.peer r)) true 1
          (λ c. changed (token_of r) w.drinker a (act d (AskBottle r)) c ∙ ap (λ x. put (λ z. (w.drinker z).token r) a x c) (put_same d.token r false))
          (λ b c. way_there w.tokens_on_way r (one_more (w.tokens_on_way r) a (d.peer r)) b c ∙ ap (λ n. with_way (w.tokens_on_way r) a (d.peer r) n b c) one)
          (moved_off false 0 (λ c. (w.drinker c).token r) (w.tokens_on_way r) spot true 1 a (d.peer r) at here.0);
      end = leads.off a (end_of P spot a here.0 p);
    }

token_gives : (P : Spot → Type 0) (w : World) (a q r : ℕ) (spot : Spot) → Leads P w r → may (w.drinker a) (AskBottle q) ≡ true → IsTokenAt w r spot → P spot → TokenMoved P (done w a (AskBottle q)) r
token_gives P w a q r spot leads g at p = ⊎_elim
    (λ e. subst (λ z. may (w.drinker a) (AskBottle z) ≡ true → TokenMoved P (done w a (AskBottle z)) r) e (λ m. token_given P w a r spot leads m at p) g)
    (λ ne. record {
      spot = spot;
      at = token_still w a (act (w.drinker a) (AskBottle q)) w.bottles_on_way (put w.tokens_on_way q (one_more (w.tokens_on_way q) a ((w.drinker a).peer q))) r spot
          (put_other (w.drinker a).token q false r ne) (λ b c. way_elsewhere w.tokens_on_way q (one_more (w.tokens_on_way q) a ((w.drinker a).peer q)) r b c ne) at;
      end = p;
    })
    (cases_eq r q)

token_rule : (P : Spot → Type 0) (w : World) (a r : ℕ) (rule : BottleRule) (spot : Spot) → Leads P w r → may (w.drinker a) rule ≡ true → IsTokenAt w r spot → P spot → TokenMoved P (done w a rule) r
token_rule P w a r (Start s) spot leads g at p = record { spot = spot; at = token_still w a (started (w.drinker a) s) w.bottles_on_way w.tokens_on_way r spot (ap (λ (t : ℕ → Bool). t r) (started_token (w.drinker a) s)) (λ b c. refl) at; end = p }
token_rule P w a r (AskBottle q) spot leads g at p = token_gives P w a q r spot leads g at p
token_rule P w a r (GiveBottle q forks) spot leads g at p = record {
  spot = spot;
  at = token_still w a (act (w.drinker a) (GiveBottle q forks)) (bottle_sent w.bottles_on_way q a ((w.drinker a).peer q) ((w.drinker a).bottle q)) w.tokens_on_way r spot refl (λ b c. refl) at;
  end = p;
}
token_rule P w a r Drink spot leads g at p = record { spot = spot; at = token_still w a (act (w.drinker a) Drink) w.bottles_on_way w.tokens_on_way r spot refl (λ b c. refl) at; end = p }
token_rule P w a r (Finish ws) spot leads g at p = record { spot = spot; at = token_still w a (finished (w.drinker a) ws) w.bottles_on_way w.tokens_on_way r spot (ap (λ (t : ℕ → Bool). t r) (finished_token (w.drinker a) ws)) (λ b c. refl) at; end = p }
token_rule P w a r Withdraw spot leads g at p = record { spot = spot; at = token_still w a (act (w.drinker a) Withdraw) w.bottles_on_way w.tokens_on_way r spot refl (λ b c. refl) at; end = p }

token_comes : (P : Spot → Type 0) (w : World) (a u q r n : ℕ) (spot : Spot) → Leads P w r → w.tokens_on_way q u a ≡ n → IsTokenAt w r spot → P spot → TokenMoved P (token_taken w a u q n) r
token_comes P w a u q r zero spot leads e at p = record { spot = spot; at = at; end = p }
token_comes P w a u q r (suc left) spot leads e at p = ⊎_elim
    (λ same. subst (λ z. w.tokens_on_way z u a ≡ suc left → TokenMoved P (token_taken w a u z (suc left)) r) same here e)
    (λ ne. record {
      spot = spot;
      at = token_still w a (with_token (w.drinker a) q) w.bottles_on_way (put w.tokens_on_way q (with_way (w.tokens_on_way q) u a left)) r spot
          (put_other (w.drinker a).token q true r ne) (λ b c. way_elsewhere w.tokens_on_way q (with_way (w.tokens_on_way q) u a left) r b c ne) at;
      end = p;
    })
    (cases_eq r q)
  where
    here : w.tokens_on_way r u a ≡ suc left → TokenMoved P (token_taken w a u r (suc left)) r
    here is =
        let f : (is_toward spot u a ≡ true) × (left ≡ 0) = found_one (is_toward spot u a) left (sym is ∙ at.sent u a) in
        record {
          spot = With a;
          at = same_at false 0 (put (λ c. (w.drinker c).token r) a true) (λ c. (put w.drinker a (with_token (w.drinker a) r) c).token r)
              (with_way (w.tokens_on_way r) u a 0) (put w.tokens_on_way r (with_way (w.tokens_on_way r) u a left) r) (With a) true 1
              (λ c. changed (token_of r) w.drinker a (with_token (w.drinker a) r) c ∙ ap (λ y. put (λ z. (w.drinker z).token r) a y c) (put_same (w.drinker a).token r true))
              (λ b c. way_there w.tokens_on_way r (with_way (w.tokens_on_way r) u a left) b c ∙ ap (λ n. with_way (w.tokens_on_way r) u a n b c) f.1)
              (moved_on false 0 (λ c. (w.drinker c).token r) (w.tokens_on_way r) spot true 1 u a at f.0);
          end = leads.on u a (end_toward P spot u a f.0 p);
        }

token_unmoved : (P : Spot → Type 0) (w : World) (a u q r : ℕ) (sent : List Value) (spot : Spot) → IsTokenAt w r spot → P spot → TokenMoved P (bottle_taken w a u q sent) r
token_unmoved P w a u q r [] spot at p = record { spot = spot; at = at; end = p }
token_unmoved P w a u q r (x ∷ later) spot at p = record {
  spot = spot;
  at = token_still w a (with_bottle (w.drinker a) q x) (put w.bottles_on_way q (with_way (w.bottles_on_way q) u a later)) w.tokens_on_way r spot refl (λ b c. refl) at;
  end = p;
}

token_after : (P : Spot → Type 0) (plan : PlanValue) (w : World) (e : Event) (r : ℕ) (spot : Spot) → Leads P w r → IsTokenAt w r spot → P spot → TokenMoved P (happens plan w e) r
token_after P plan w (Do a rule) r spot leads at p =
    cond_both (does plan w a rule) (done w a rule) w (λ (x : World). TokenMoved P x r)
    (λ e. token_rule P w a r rule spot leads (and_parts (nat_lt a (length plan.offices)) (may (w.drinker a) rule) e).1 at p)
    (λ e. record { spot = spot; at = at; end = p })
token_after P plan w (TokenComes a u q) r spot leads at p = token_comes P w a u q r (w.tokens_on_way q u a) spot leads refl at p
token_after P plan w (BottleComes a u q) r spot leads at p = token_unmoved P w a u q r (w.bottles_on_way q u a) spot at p

-- ---- ends

first_is : (e : RecordEntry) → has_end e e.first ≡ true
first_is e = or_left (e.first == e.first) (e.second == e.first) (eq-eqb e.first e.first refl)

second_is : (e : RecordEntry) → has_end e e.second ≡ true
second_is e = or_right (e.first == e.second) (e.second == e.second) (eq-eqb e.second e.second refl)

of_two : (e : RecordEntry) (b : Bool) (x y : ℕ) → has_end e x ≡ true → has_end e y ≡ true → has_end e (cond b x y) ≡ true
of_two e true x y p q = p
of_two e false x y p q = q

at_ends_leads : (plan : PlanValue) (w : World) (r : ℕ) → ((a : ℕ) → (w.drinker a).peer r ≡ peer plan a r) → Leads (λ s. is_at_ends plan r s ≡ true) w r
at_ends_leads plan w r peers = record {
  off = λ a e. ap (has_ends plan r a) (peers a) ∙ has_peer plan r a e;
  on = λ a v e. is_first_end plan r v a (has_ends_both plan r v a ∙ e);
}

-- ---- runs

never : (b c : Bool) → (b && (c && false)) ≡ false
never true true = refl
never true false = refl
never false c = refl

bottle_ends : (plan : PlanValue) (w : World) (e : Event) (b : Bool) (r : ℕ) (spot : Spot) (v : Value) → finishes plan w e ≡ b → Leads (λ s. is_at_ends plan r s ≡ true) w r → IsBottleAt w r spot v → is_at_ends plan r spot ≡ true →
    (x : Value) × Moved (λ s. is_at_ends plan r s ≡ true) (happens plan w e) r x
bottle_ends plan w e false r spot v f leads at p = (v, bottle_after (λ s. is_at_ends plan r s ≡ true) plan w e r spot v leads f at p)
bottle_ends plan w (Do a (Finish None)) true r spot v f leads at p = absurd (no_true (sym (never (nat_lt a (length plan.offices)) (is_drinking (w.drinker a).phase)) ∙ f))
bottle_ends plan w (Do a (Finish (Some ws))) true r spot v f leads at p = (cond (is_with spot a) (value_after ws r v) v, record { spot = spot; at = finishing_writes plan w a ws r spot v f at; end = p })
bottle_ends plan w (Do a (Start s)) true r spot v f leads at p = absurd (no_true f)
bottle_ends plan w (Do a Withdraw) true r spot v f leads at p = absurd (no_true f)
bottle_ends plan w (Do a (AskBottle q)) true r spot v f leads at p = absurd (no_true f)
bottle_ends plan w (Do a (GiveBottle q forks)) true r spot v f leads at p = absurd (no_true f)
bottle_ends plan w (Do a Drink) true r spot v f leads at p = absurd (no_true f)
bottle_ends plan w (TokenComes a u q) true r spot v f leads at p = absurd (no_true f)
bottle_ends plan w (BottleComes a u q) true r spot v f leads at p = absurd (no_true f)

abbrev HavePeers : PlanValue → World → Type 0
HavePeers plan w = (a : ℕ) → (w.drinker a).peer ≡ peer plan a

spots_after : (plan : PlanValue) (w : World) (e : Event) (r : ℕ) → HavePeers plan w → HasItsSpots plan w r → HasItsSpots plan (happens plan w e) r
spots_after plan w e r peers h =
    let leads : Leads (λ s. is_at_ends plan r s ≡ true) w r = at_ends_leads plan w r (λ a. ap (λ (f : ℕ → ℕ). f r) (peers a)) in
    let b : (x : Value) × Moved (λ s. is_at_ends plan r s ≡ true) (happens plan w e) r x = bottle_ends plan w e (finishes plan w e) r h.spot h.value refl leads h.bottle h.bottle_end in
    let t : TokenMoved (λ s. is_at_ends plan r s ≡ true) (happens plan w e) r = token_after (λ s. is_at_ends plan r s ≡ true) plan w e r h.token_spot leads h.token h.token_at_end in
    record { spot = b.1.spot; value = b.0; bottle = b.1.at; bottle_end = b.1.end; token_spot = t.spot; token = t.at; token_at_end = t.end }

spots_run : (plan : PlanValue) (w : World) (es : List Event) (r : ℕ) → HavePeers plan w → HasItsSpots plan w r → HasItsSpots plan (run plan w es) r
spots_run plan w [] r s h = h
spots_run plan w (e ∷ es) r s h = spots_run plan (happens plan w e) es r (λ a. peers_after plan w e a ∙ s a) (spots_after plan w e r s h)

opening_spots : (plan : PlanValue) (r : ℕ) (e : RecordEntry) → slice_get plan.records r ≡ Some e → HasItsSpots plan (opening plan) r
opening_spots plan r e h = record {
  spot = With (start_end e);
  value = e.value;
  bottle = bottles_start plan r e h;
  bottle_end = ap (λ o. option_map_or (λ (x : RecordEntry). has_end x (start_end e)) o false) h ∙ of_two e e.starts_at_first e.first e.second (first_is e) (second_is e);
  token_spot = With (token_end e);
  token = tokens_start plan r e h;
  token_at_end = ap (λ o. option_map_or (λ (x : RecordEntry). has_end x (token_end e)) o false) h ∙ of_two e e.starts_at_first e.second e.first (second_is e) (first_is e);
}

pub each_has_its_spots : (plan : PlanValue) (es : List Event) (r : ℕ) → r < length plan.records → HasItsSpots plan (run plan (opening plan) es) r
each_has_its_spots plan es r lt = ⊎_elim
    (λ x. spots_run plan (opening plan) es r (λ a. refl) (opening_spots plan r x.0 x.2))
    (λ past. absurd (omega (arith, lt, past.0)))
    (slice_get_cases plan.records r).1
