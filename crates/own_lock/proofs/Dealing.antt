-- The passes that come out of an opening, one after the other.
use Rattle.std.proofs.Common.{◌≡◌, ◌+◌, ◌-◌, ◌<◌, ℕ, zero, suc, false, List, [], ◌∷◌, ◌++◌, length, refl, ap, sym, subst, ◌∙◌, arith, length-append, slice_get, get_or, Option, Some}
use Rattle.std.proofs.lemmas.Option.{get_or_from_slice_get}
use mathlib.Core.Logic.{dite}
use native.Mathlib.Decide.{ℕ_discrete}
use Rattle.atomic_table.specs.Table.{Me}
use Rattle.atomic_table.specs.Seated.{TableId}
use Rattle.own_lock.specs.declared.seat_view.Part.{Part}
use Rattle.own_lock.specs.declared.seat_view.SeatView.{SeatView}
use Rattle.own_lock.specs.Passes.{PassView, LockView, IsOf, fresh_pass, AreFresh, AreIdle}
use Rattle.own_lock.specs.refinement.Seats.{pass_view, HasOnePass}
use Rattle.own_lock.specs.Steps.{rest, first_part, the_part, part_with, parts_from, view_with, without_first, first_alone}

parts_from-next : {E : Type 0} (tag_of : E → ℕ) (es : List E) (count t : ℕ) → 0 < count → parts_from tag_of es count t ≡ part_with tag_of t es ∷ parts_from tag_of es (count - 1) (t + 1)
parts_from-next tag_of es zero t some_part = absurd (omega arith)
parts_from-next tag_of es (suc count) t some_part = let less : suc count - 1 ≡ count = omega arith in rw less refl

module _ {A : Type 0} where
  slice_get-before : (xs ys : List A) (i : ℕ) → i < length xs → slice_get (xs ++ ys) i ≡ slice_get xs i
  slice_get-before [] ys i inside = absurd (omega arith)
  slice_get-before (x ∷ xs) ys zero inside = refl
  slice_get-before (x ∷ xs) ys (suc i) inside = slice_get-before xs ys i (omega arith)

  slice_get-last : (xs : List A) (y : A) (i : ℕ) → i ≡ length xs → slice_get (xs ++ y ∷ []) i ≡ Some y
  slice_get-last [] y zero is = refl
  slice_get-last [] y (suc i) is = absurd (omega arith)
  slice_get-last (x ∷ xs) y zero is = absurd (omega arith)
  slice_get-last (x ∷ xs) y (suc i) is = slice_get-last xs y i (omega arith)

module _ {K E : Type 0} (lock : LockView K) (tag_of : E → ℕ) (es : List E) where
  pub AreFresh-snoc : (n : ℕ) (ps qs : List (PassView K E)) (p : PassView K E) → AreFresh lock tag_of es n ps → p ≡ fresh_pass lock tag_of es n → qs ≡ ps ++ p ∷ []
      → AreFresh lock tag_of es (n + 1) qs
  AreFresh-snoc n ps qs p fresh is all = rw all (
    let count = fresh.0 in omega (arith, length-append ps (p ∷ [])),
    λ t lt. let count = fresh.0 in dite (ℕ_discrete t n)
        (λ last. slice_get-last ps p t (last ∙ sym count) ∙ ap Some (is ∙ ap (fresh_pass lock tag_of es) (sym last)))
        (λ ne. slice_get-before ps (p ∷ []) t (omega arith) ∙ fresh.1 t (omega arith)),
  )

  pub AreIdle-of_fresh : (n : ℕ) (ps : List (PassView K E)) → AreFresh lock tag_of es n ps → AreIdle lock ps
  AreIdle-of_fresh n ps fresh t d lt =
      let is : fresh_pass lock tag_of es t ≡ get_or ps t d = sym (get_or_from_slice_get ps t _ d (fresh.1 t (let count = fresh.0 in omega arith))) in
      subst (λ (p : PassView K E). IsOf lock p × (p.holds ≡ false)) is ((refl, refl), refl)

module _ {S K E : Type 0} (tag_of : E → ℕ) (k : K) (es : List E) where
  -- a seat at which as many passes sit, with the tags from t on
  abbrev pub dealing : ℕ → ℕ → Me (Option S) (SeatView K E)
  dealing count t = (record { key = Some k; holds = false; parts = parts_from tag_of es count t }, [])

  pub parts-dealing : (count t : ℕ) (me : Me (Option S) (SeatView K E)) → me ≡ dealing count t → 0 < count → me.0.parts ≡ part_with tag_of t es ∷ parts_from tag_of es (count - 1) (t + 1)
  parts-dealing count t me is more = ap (λ (m : Me (Option S) (SeatView K E)). m.0.parts) is ∙ parts_from-next tag_of es count t more

  the_part-dealing : (count t : ℕ) (me : Me (Option S) (SeatView K E)) → me ≡ dealing count t → 0 < count → the_part me.0 ≡ part_with tag_of t es
  the_part-dealing count t me is more = ap first_part (parts-dealing count t me is more)

  pub without_first-dealing : (count less t : ℕ) (me : Me (Option S) (SeatView K E)) → me ≡ dealing count t → 0 < count → less ≡ count - 1
      → (without_first me.0, me.1) ≡ dealing less (t + 1)
  without_first-dealing count less t me is more one_less =
      let parts : rest me.0.parts ≡ parts_from tag_of es less (t + 1) = ap rest (parts-dealing count t me is more) ∙ ap (λ n. parts_from tag_of es n (t + 1)) (sym one_less) in
      λ i. (record { key = (is i).0.key; holds = false; parts = parts i }, (is i).1)

  -- the seat that is dealt, and the one that is left
  pub HasOnePass-first : (count t : ℕ) (me : Me (Option S) (SeatView K E)) → me ≡ dealing count t → 0 < count → t < 16 → HasOnePass {S = S} tag_of t (first_alone me.0, [])
  HasOnePass-first count t me is more low =
      subst (λ (p : Part E). HasOnePass {S = S} tag_of t (view_with me.0.key false p, [])) (sym (the_part-dealing count t me is more)) record { one = refl; tag_is = refl; below = low; own = refl; slots = refl }

  pub pass_view-first : (count t : ℕ) (me : Me (Option S) (SeatView K E)) (a b : TableId) (out : Me (Option S) (SeatView K E)) → me ≡ dealing count t → 0 < count → a ≡ b → out ≡ (first_alone me.0, [])
      → pass_view a out ≡ fresh_pass (record { name = b; key = k }) tag_of es t
  pass_view-first count t me a b out is more same out_is =
      ap (pass_view a) out_is ∙ (let p = the_part-dealing count t me is more in λ i. record { lock = same i; key = (is i).0.key; tag = (p i).tag; holds = false; seen = (p i).seen; mine = (p i).mine })

  pub pass_view-last : (t : ℕ) (me : Me (Option S) (SeatView K E)) (a b : TableId) → me ≡ dealing 1 t → a ≡ b → pass_view a me ≡ fresh_pass (record { name = b; key = k }) tag_of es t
  pass_view-last t me a b is same =
      λ i. record { lock = same i; key = (is i).0.key; tag = (the_part (is i).0).tag; holds = (is i).0.holds; seen = (the_part (is i).0).seen; mine = (the_part (is i).0).mine }

  pub HasOnePass-last : (t tag : ℕ) (me : Me (Option S) (SeatView K E)) → me ≡ dealing 1 t → tag ≡ t → t < 16 → HasOnePass {S = S} tag_of tag me
  HasOnePass-last t tag me is same low =
      subst (λ (z : ℕ × Me (Option S) (SeatView K E)). HasOnePass {S = S} tag_of z.0 z.1) (λ i. (sym same i, sym is i)) record { one = refl; tag_is = refl; below = low; own = refl; slots = refl }
