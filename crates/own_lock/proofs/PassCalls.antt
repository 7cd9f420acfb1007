-- What a call knows of the seat of its pass.
use Rattle.std.proofs.Common.{◌≡◌, ℕ, zero, suc, true, false, List, [], ◌∷◌, ◌++◌, get_or, ap, sym, subst, ◌∙◌, Option, Some, None, if◌then◌else◌}
use mathlib.Core.List.{IsPrefix}
use mathlib.Core.Option.{some, none, some-injective, some-ne-none}
use lib.ListN.{get_elem?}
use Rattle.atomic_table.specs.Table.{Me, step, Allows, Final, Seen}
use Rattle.atomic_table.specs.Seated.{TableId}
use Rattle.own_lock.specs.declared.seat_view.SeatView.{SeatView}
use Rattle.own_lock.specs.Entries.{tagged, AddsOnly}
use Rattle.own_lock.specs.Rule.{room, place, LockRule}
use Rattle.own_lock.specs.Passes.{PassView}
use Rattle.own_lock.specs.refinement.Seats.{pass_view, HasOnePass}
use Rattle.own_lock.specs.Steps.{rest, the_part, giver_view}
use Rattle.own_lock.specs.refinement.Plays.{GaveBack}
use Rattle.own_lock.proofs.TaggedEntries.{tagged-adds_own}
use Rattle.own_lock.proofs.StepsKeepRule.{gives_back, closes}

get_or-of_get_elem : {A : Type 0} (l : List A) (i : ℕ) (a d : A) → get_elem? l i ≡ some a → get_or l i d ≡ a
get_or-of_get_elem [] i a d e = absurd (some-ne-none a (sym e))
get_or-of_get_elem (x ∷ xs) zero a d e = some-injective x a e
get_or-of_get_elem (x ∷ xs) (suc i) a d e = get_or-of_get_elem xs i a d e

module _ {S K E : Type 0} (tag_of : E → ℕ) where
  -- a pass that holds nothing has no slot
  pub no_slot : (tag : ℕ) (name : TableId) (me : Me (Option S) (SeatView K E)) (p : PassView K E) → HasOnePass tag_of tag me → pass_view name me ≡ p → p.holds ≡ false → me.1 ≡ []
  no_slot tag name me p has is idle = has.slots ∙ ap (λ b. if b then (place, None) ∷ [] else []) (ap (λ (q : PassView K E). q.holds) is ∙ idle)

  -- and one that holds has the slot, in which there is now what was put there
  filled : (tag : ℕ) (name : TableId) (before after : Me (Option S) (SeatView K E)) (x : S) (p : PassView K E) → HasOnePass tag_of tag before → pass_view name before ≡ p → p.holds ≡ true
      → after ≡ (before.0, (place, Some x) ∷ rest before.1) → after.1 ≡ (place, Some x) ∷ []
  filled tag name before after x p has is holds put =
      let empty : before.1 ≡ (place, None) ∷ [] = has.slots ∙ ap (λ b. if b then (place, None) ∷ [] else []) (ap (λ (q : PassView K E). q.holds) is ∙ holds) in
      ap (λ (m : Me (Option S) (SeatView K E)). m.1) put ∙ ap (λ (l : List (ℕ × Option S)). (place, Some x) ∷ rest l) empty

  -- what a pass has of its own grows by what was added
  pub given_mine : (entries : S → List E) (tag : ℕ) (name : TableId) (before after last : Me (Option S) (SeatView K E)) (x held : S) (p : PassView K E) → HasOnePass tag_of tag before → pass_view name before ≡ p → p.holds ≡ true
      → after ≡ (before.0, (place, Some x) ∷ rest before.1) → x ≡ held → AddsOnly tag_of p.tag p.seen (entries held)
      → ((y : S) → after.1 ≡ (place, Some y) ∷ [] → last ≡ (giver_view tag_of after.0 (entries y), []))
      → (added : List E) → p.seen ++ added ≡ entries held → (the_part last.0).mine ≡ p.mine ++ added
  given_mine entries tag name before after last x held p has is holds put same adds gave added all =
      let part : tagged tag_of p.tag p.seen ≡ p.mine = subst (λ (q : PassView K E). tagged tag_of q.tag q.seen ≡ q.mine) is (ap (λ t. tagged tag_of t (the_part before.0).seen) has.tag_is ∙ has.own) in
      let tag_is : (the_part after.0).tag ≡ p.tag = ap (λ (m : Me (Option S) (SeatView K E)). (the_part m.0).tag) put ∙ ap (λ (q : PassView K E). q.tag) is in
      ap (λ (m : Me (Option S) (SeatView K E)). (the_part m.0).mine) (gave x (filled tag name before after x p has is holds put))
      ∙ ((λ i. tagged tag_of (tag_is i) (entries (same i))) ∙ (tagged-adds_own tag_of p.tag p.seen added (entries held) adds all ∙ ap (λ l. l ++ added) part))

module _ {S K E : Type 0} (tag_of : E → ℕ) (key : S → K) (entries : S → List E) (fits : S → Type 0) (k : K) (passes : ℕ) where
  abbrev Seat : Type 0
  Seat = Me (Option S) (SeatView K E)

  abbrev Pass : Type 0
  Pass = PassView K E

  pub may_give : (id tag : ℕ) (name : TableId) (before after : Seat) (x held : S) (p : Pass) (j : K) → HasOnePass tag_of tag before → pass_view name before ≡ p → p.holds ≡ true → p.key ≡ Some j
      → after ≡ (before.0, (place, Some x) ∷ rest before.1) → x ≡ held → fits held → key held ≡ j → AddsOnly tag_of p.tag p.seen (entries held)
      → Allows (LockRule tag_of key entries fits k passes) room id after place (λ _. 0) (GaveBack tag_of entries (step room place 0 0 none) after)
  may_give id tag name before after x held p j has is holds own_key put same fit key_is adds =
      let view : before.0 ≡ after.0 = ap (λ (m : Seat). m.0) (sym put) in
      let v_is = sym is in
      gives_back tag_of key entries fits k passes id after x
      (subst (λ (v : SeatView K E). v.parts ≡ the_part v ∷ []) view has.one)
      (ap (λ (v : SeatView K E). v.holds) (sym view) ∙ (ap (λ (q : Pass). q.holds) is ∙ holds))
      (filled tag_of tag name before after x p has is holds put)
      (subst fits (sym same) fit)
      (ap (λ (v : SeatView K E). v.key) (sym view) ∙ (ap (λ (q : Pass). q.key) is ∙ (own_key ∙ ap Some (sym key_is ∙ ap key (sym same)))))
      (subst (λ (z : ℕ × List E × List E). AddsOnly tag_of z.0 z.1 z.2)
      (λ i. ((ap (λ (q : Pass). q.tag) v_is ∙ ap (λ (v : SeatView K E). (the_part v).tag) view) i, (ap (λ (q : Pass). q.seen) v_is ∙ ap (λ (v : SeatView K E). (the_part v).seen) view) i, entries (sym same i)))
      adds)

  pub closed : (id tag : ℕ) (name : TableId) (me : Seat) (p : Pass) (ws : List ℕ) (xs : List (Option S)) (word : ℕ) (state : Option S) (x given : S) (j : K) → HasOnePass tag_of tag me → pass_view name me ≡ p → p.key ≡ Some j
      → Final (Seen (LockRule tag_of key entries fits k passes) id me.0) ws xs → get_elem? ws place ≡ some word → word ≡ 0 → get_elem? xs place ≡ some state → state ≡ Some x → given ≡ x
      → fits given × (key given ≡ j) × IsPrefix p.seen (entries given) × (tagged tag_of p.tag (entries given) ≡ p.mine)
  closed id tag name me p ws xs word state x given j has is own_key end word_is free state_is some_is given_is =
      let last = closes tag_of key entries fits k passes id me.0 ws xs has.one end (get_or-of_get_elem ws place word 0 word_is ∙ free) in
      let keys : Some (key last.0) ≡ Some j = sym last.3 ∙ (ap (λ (q : Pass). q.key) is ∙ own_key) in
      let found : state ≡ Some last.0 = some-injective _ _ (sym state_is ∙ last.1) in
      let x_is : Some x ≡ Some last.0 = sym some_is ∙ found in
      let same : x ≡ last.0 = cc x_is in
      rw (given_is ∙ same) (
        last.2,
        cc keys,
        subst (λ l. IsPrefix l (entries last.0)) (ap (λ (q : Pass). q.seen) is) last.4,
        ap (λ t. tagged tag_of t (entries last.0)) (ap (λ (q : Pass). q.tag) (sym is)) ∙ (last.5 ∙ ap (λ (q : Pass). q.mine) is),
      )
