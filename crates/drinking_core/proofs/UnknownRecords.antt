-- Of a record that the plan doesn't have there is nothing anywhere, event by event.
use Rattle.std.proofs.Common.{◌≡◌, ℕ, zero, suc, ◌≤◌, Bool, true, false, not, ◌&&◌, ◌||◌, List, [], ◌∷◌, ◌++◌, length, Option, None, Some, is_some, refl, sym, ap, ◌∙◌, arith, slice_get}
use Rattle.std.specs.Prelude.{nat_lt, option_map}
use Rattle.std.proofs.lemmas.Bool.{cond_both, and_parts}
use Rattle.std.proofs.lemmas.Option.{slice_get_past}
use Rattle.bottle_values.specs.declared.Value.{Value}
use Rattle.bottle_values.specs.Maps.{put}
use Rattle.bottle_values.specs.MapLaws.{put_cases}
use Rattle.office_map.specs.PlanValue.{PlanValue}
use Rattle.dining_core.specs.Worlds.{with_way, one_more}
use Rattle.drinking_core.specs.Drinkers.{Drinker, BottleRule, Start, AskBottle, GiveBottle, Drink, Finish, Withdraw, is_thirsty, is_drinking, holds, may, act, with_token, with_bottle, value_after, start_bottle, start_token}
use Rattle.drinking_core.specs.Worlds.{World, opening, Event, Do, TokenComes, BottleComes, bottle_sent, done, does, bottle_taken, token_taken, happens, run, IsNowhere}

no_true : false ≡ true → ⊥
no_true e = absurd cc

-- another record's change, and an office's
way_put : {X : Type 0} (way : ℕ → ℕ → ℕ → X) (q : ℕ) (one : ℕ → ℕ → X) (r : ℕ) (none : X) → (r ≡ q → ⊥) → ((b c : ℕ) → way r b c ≡ none) → (b c : ℕ) → put way q one r b c ≡ none
way_put way q one r none ne h b c = put_cases way q one r (λ (f : ℕ → ℕ → _). f b c ≡ none) (λ e. absurd (ne e)) (λ _. h b c)

put_nowhere : (w : World) (a : ℕ) (d : Drinker) (bottles : ℕ → ℕ → ℕ → List Value) (tokens : ℕ → ℕ → ℕ → ℕ) (r : ℕ) → IsNowhere w r → d.bottle r ≡ None → d.token r ≡ false →
    ((b c : ℕ) → bottles r b c ≡ []) → ((b c : ℕ) → tokens r b c ≡ 0) → IsNowhere (record { drinker = put w.drinker a d; bottles_on_way = bottles; tokens_on_way = tokens }) r
put_nowhere w a d bottles tokens r h bottle token bs ts = record {
  bottle = λ c. put_cases w.drinker a d c (λ (x : Drinker). x.bottle r ≡ None) (λ e. bottle) (λ ne. h.bottle c);
  token = λ c. put_cases w.drinker a d c (λ (x : Drinker). x.token r ≡ false) (λ e. token) (λ ne. h.token c);
  bottles_on_way = bs;
  tokens_on_way = ts;
}

-- what is asked for or given is there, so it is of another record
asks_other : (w : World) (a q r : ℕ) → may (w.drinker a) (AskBottle q) ≡ true → IsNowhere w r → r ≡ q → ⊥
asks_other w a q r g h e =
    let d : Drinker = w.drinker a in
    let has : d.token q ≡ true = (and_parts (not (holds d q)) (d.token q) (and_parts (d.needed q) (not (holds d q) && d.token q) (and_parts (is_thirsty d.phase) (d.needed q && (not (holds d q) && d.token q)) g).1).1).1 in
    no_true (sym (h.token a) ∙ ap d.token e ∙ has)

gives_other : (w : World) (a q r : ℕ) (forks : ℕ → Bool) → may (w.drinker a) (GiveBottle q forks) ≡ true → IsNowhere w r → r ≡ q → ⊥
gives_other w a q r forks g h e =
    let d : Drinker = w.drinker a in
    let has : holds d q ≡ true = (and_parts (holds d q) (not (d.needed q && (is_drinking d.phase || forks (d.peer q)))) (and_parts (d.token q) (holds d q && not (d.needed q && (is_drinking d.phase || forks (d.peer q)))) g).1).0 in
    no_true (sym (ap (λ o. is_some o) (h.bottle a)) ∙ ap (holds d) e ∙ has)

sent_other : (way : ℕ → ℕ → ℕ → List Value) (q a p : ℕ) (o : Option Value) (r : ℕ) → (r ≡ q → ⊥) → ((b c : ℕ) → way r b c ≡ []) → (b c : ℕ) → bottle_sent way q a p o r b c ≡ []
sent_other way q a p None r ne h = h
sent_other way q a p (Some x) r ne h = way_put way q (with_way (way q) a p (way q a p ++ x ∷ [])) r [] ne h

after_rule : (w : World) (a : ℕ) (rule : BottleRule) (r : ℕ) → may (w.drinker a) rule ≡ true → IsNowhere w r → IsNowhere (done w a rule) r
after_rule w a (Start None) r g h = put_nowhere w a (act (w.drinker a) (Start None)) w.bottles_on_way w.tokens_on_way r h (h.bottle a) (h.token a) h.bottles_on_way h.tokens_on_way
after_rule w a (Start (Some rs)) r g h = put_nowhere w a (act (w.drinker a) (Start (Some rs))) w.bottles_on_way w.tokens_on_way r h (h.bottle a) (h.token a) h.bottles_on_way h.tokens_on_way
after_rule w a (AskBottle q) r g h =
    put_nowhere w a (act (w.drinker a) (AskBottle q)) w.bottles_on_way (put w.tokens_on_way q (one_more (w.tokens_on_way q) a ((w.drinker a).peer q))) r h (h.bottle a)
    (put_cases (w.drinker a).token q false r (λ b. b ≡ false) (λ e. refl) (λ ne. h.token a))
    h.bottles_on_way
    (way_put w.tokens_on_way q (one_more (w.tokens_on_way q) a ((w.drinker a).peer q)) r 0 (asks_other w a q r g h) h.tokens_on_way)
after_rule w a (GiveBottle q forks) r g h =
    put_nowhere w a (act (w.drinker a) (GiveBottle q forks)) (bottle_sent w.bottles_on_way q a ((w.drinker a).peer q) ((w.drinker a).bottle q)) w.tokens_on_way r h
    (put_cases (w.drinker a).bottle q None r (λ o. o ≡ None) (λ e. refl) (λ ne. h.bottle a))
    (h.token a)
    (sent_other w.bottles_on_way q a ((w.drinker a).peer q) ((w.drinker a).bottle q) r (gives_other w a q r forks g h) h.bottles_on_way)
    h.tokens_on_way
after_rule w a Drink r g h = put_nowhere w a (act (w.drinker a) Drink) w.bottles_on_way w.tokens_on_way r h (h.bottle a) (h.token a) h.bottles_on_way h.tokens_on_way
after_rule w a (Finish None) r g h = put_nowhere w a (act (w.drinker a) (Finish None)) w.bottles_on_way w.tokens_on_way r h (h.bottle a) (h.token a) h.bottles_on_way h.tokens_on_way
after_rule w a (Finish (Some ws)) r g h = put_nowhere w a (act (w.drinker a) (Finish (Some ws))) w.bottles_on_way w.tokens_on_way r h (ap (option_map (value_after ws r)) (h.bottle a)) (h.token a) h.bottles_on_way h.tokens_on_way
after_rule w a Withdraw r g h = put_nowhere w a (act (w.drinker a) Withdraw) w.bottles_on_way w.tokens_on_way r h (h.bottle a) (h.token a) h.bottles_on_way h.tokens_on_way

after_token : (w : World) (a v q n r : ℕ) → w.tokens_on_way q v a ≡ n → IsNowhere w r → IsNowhere (token_taken w a v q n) r
after_token w a v q zero r e h = h
after_token w a v q (suc left) r e h =
    put_nowhere w a (with_token (w.drinker a) q) w.bottles_on_way (put w.tokens_on_way q (with_way (w.tokens_on_way q) v a left)) r h (h.bottle a)
    (put_cases (w.drinker a).token q true r (λ b. b ≡ false) (λ s. absurd (other s)) (λ ne. h.token a))
    h.bottles_on_way
    (way_put w.tokens_on_way q (with_way (w.tokens_on_way q) v a left) r 0 other h.tokens_on_way)
  where
    other : r ≡ q → ⊥
    other s = absurd (omega (arith, e, h.tokens_on_way v a, ap (λ z. w.tokens_on_way z v a) s))

after_bottle : (w : World) (a v q : ℕ) (sent : List Value) (r : ℕ) → w.bottles_on_way q v a ≡ sent → IsNowhere w r → IsNowhere (bottle_taken w a v q sent) r
after_bottle w a v q [] r e h = h
after_bottle w a v q (x ∷ later) r e h =
    put_nowhere w a (with_bottle (w.drinker a) q x) (put w.bottles_on_way q (with_way (w.bottles_on_way q) v a later)) w.tokens_on_way r h
    (put_cases (w.drinker a).bottle q (Some x) r (λ o. o ≡ None) (λ s. absurd (other s)) (λ ne. h.bottle a))
    (h.token a)
    (way_put w.bottles_on_way q (with_way (w.bottles_on_way q) v a later) r [] other h.bottles_on_way)
    h.tokens_on_way
  where
    some : (l : List Value) → l ≡ [] → l ≡ x ∷ later → ⊥
    some [] i j = absurd cc
    some (y ∷ l) i j = absurd cc

    other : r ≡ q → ⊥
    other s = some (w.bottles_on_way q v a) (ap (λ z. w.bottles_on_way z v a) (sym s) ∙ h.bottles_on_way v a) e

after_event : (plan : PlanValue) (w : World) (e : Event) (r : ℕ) → IsNowhere w r → IsNowhere (happens plan w e) r
after_event plan w (Do a rule) r h =
    cond_both (does plan w a rule) (done w a rule) w (λ (x : World). IsNowhere x r)
    (λ e. after_rule w a rule r (and_parts (nat_lt a (length plan.offices)) (may (w.drinker a) rule) e).1 h)
    (λ e. h)
after_event plan w (TokenComes a v q) r h = after_token w a v q (w.tokens_on_way q v a) r refl h
after_event plan w (BottleComes a v q) r h = after_bottle w a v q (w.bottles_on_way q v a) r refl h

after_run : (plan : PlanValue) (w : World) (es : List Event) (r : ℕ) → IsNowhere w r → IsNowhere (run plan w es) r
after_run plan w [] r h = h
after_run plan w (e ∷ es) r h = after_run plan (happens plan w e) es r (after_event plan w e r h)

pub unknown_records_are_nowhere : (plan : PlanValue) (es : List Event) (r : ℕ) → length plan.records ≤ r → IsNowhere (run plan (opening plan) es) r
unknown_records_are_nowhere plan es r past =
    let none : slice_get plan.records r ≡ None = slice_get_past plan.records r past in
    after_run plan (opening plan) es r (record {
      bottle = λ a. ap (start_bottle a) none;
      token = λ a. ap (start_token a) none;
      bottles_on_way = λ a v. refl;
      tokens_on_way = λ a v. refl;
    })
