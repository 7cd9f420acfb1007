-- A neighbour was heard: what is remembered of its messages, place by place.
use Rattle.std.proofs.Common.{◌≡◌, ℕ, ◌+◌, ◌*◌, ◌<◌, ◌≤◌, eqb, cond, Bool, true, false, List, length, get_or, set, None, refl, ap, subst, sym, ◌∙◌, ⊎_elim, arith}
use Rattle.std.proofs.lemmas.Bool.{cases_eq}
use Rattle.std.proofs.lemmas.List.{get_or-set_same, get_or-set_other}
use Rattle.socket_pump.specs.declared.last.Slot.{Slot}
use Rattle.socket_pump.specs.Last.{no_slot, place, read_slot, heard_since}
use Rattle.socket_pump.specs.refinement.Marking.{marked_slot}

read_marked : (s : Slot) (n : ℕ) → read_slot (marked_slot s) n ≡ heard_since (read_slot s n)
read_marked s n = go (eqb s.number n)
  where
    go : (b : Bool) → cond b (heard_since s.last) None ≡ heard_since (cond b s.last None)
    go true = refl
    go false = refl

-- v's places below i are marked, and no other is
pub record MarkedBelow (old new : List Slot) (v i : ℕ) : Type 0 where
  pub done : (j : ℕ) → v * 18 ≤ j → j < i → get_or new j no_slot ≡ marked_slot (get_or old j no_slot)
  pub others : (j : ℕ) → ((v * 18 ≤ j) × (j < i) → ⊥) → get_or new j no_slot ≡ get_or old j no_slot

pub none_marked : (old : List Slot) (v : ℕ) → MarkedBelow old old v (v * 18)
none_marked old v = record { done = λ j from to. absurd (omega (arith, from, to)); others = λ j out. refl }

pub one_more_marked : (old new : List Slot) (v i : ℕ) (s : Slot) → v * 18 ≤ i → i < length new → s ≡ marked_slot (get_or new i no_slot) → MarkedBelow old new v i → MarkedBelow old (set new i s) v (i + 1)
one_more_marked old new v i s from within is m = record { done = done; others = others }
  where
    here : get_or (set new i s) i no_slot ≡ marked_slot (get_or old i no_slot)
    here = get_or-set_same new i s no_slot within ∙ is ∙ ap marked_slot (m.others i (λ x. absurd (omega (arith, x.1))))

    done : (j : ℕ) → v * 18 ≤ j → j < i + 1 → get_or (set new i s) j no_slot ≡ marked_slot (get_or old j no_slot)
    done j low to = ⊎_elim
        (λ e. subst (λ n. get_or (set new i s) n no_slot ≡ marked_slot (get_or old n no_slot)) (sym e) here)
        (λ ne. get_or-set_other new i j s no_slot ne ∙ m.done j low (omega (arith, to, ne)))
        (cases_eq j i)

    others : (j : ℕ) → ((v * 18 ≤ j) × (j < i + 1) → ⊥) → get_or (set new i s) j no_slot ≡ get_or old j no_slot
    others j out = get_or-set_other new i j s no_slot (λ e. out (omega (arith, e, from), omega (arith, e))) ∙ m.others j (λ x. out (x.0, omega (arith, x.1)))

pub all_marked : (old new : List Slot) (v n : ℕ) → MarkedBelow old new v (v * 18 + 18) → read_slot (get_or new (place v n) no_slot) n ≡ heard_since (read_slot (get_or old (place v n) no_slot) n)
all_marked old new v n m = ap (λ s. read_slot s n) (m.done (place v n) (omega arith) (omega arith)) ∙ read_marked (get_or old (place v n) no_slot) n

pub others_stay : (old new : List Slot) (v u n : ℕ) → (u ≡ v → ⊥) → MarkedBelow old new v (v * 18 + 18) → read_slot (get_or new (place u n) no_slot) n ≡ read_slot (get_or old (place u n) no_slot) n
others_stay old new v u n ne m = ap (λ s. read_slot s n) (m.others (place u n) (λ x. ne (omega (arith, x.0, x.1))))
