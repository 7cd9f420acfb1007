-- What each step at the table tells the code.
use Rattle.std.specs.Prelude.{◌≡◌, ◌≢◌, ℕ, List, [], ◌∷◌, Option, Some}
use mathlib.Core.List.{IsPrefix}
use Rattle.atomic_table.specs.Table.{Me, Step}
use Rattle.own_lock.specs.declared.seat_view.SeatView.{SeatView}
use Rattle.own_lock.specs.Entries.{longer, tagged}
use Rattle.own_lock.specs.Rule.{place, free_word, taken_word, awaited_word}
use Rattle.own_lock.specs.Steps.{the_part, second_part, holder_view, giver_view, told_view}

module _ {S K E : Type 0} where
  -- where the word was 0, the seat has the slot with the state, and has seen the state's entries
  abbrev pub TookFree : (E → ℕ) → (S → K) → (S → List E) → (S → Type 0) → Me (Option S) (SeatView K E) → ℕ → Me (Option S) (SeatView K E) → Type 0
  TookFree tag_of key entries fits before found after = let p = the_part before.0 in
      found ≡ free_word → (x : S) × (after ≡ (holder_view tag_of before.0 (entries x), (place, Some x) ∷ [])) × fits x × (before.0.key ≡ Some (key x)) × IsPrefix p.seen (entries x) × (tagged tag_of p.tag (entries x) ≡ p.mine)

  -- and it sets a word that was 0 to 1: a pass that only tries leaves no word
  abbrev pub Tried : (E → ℕ) → (S → K) → (S → List E) → (S → Type 0) → Step (Option S) → Me (Option S) (SeatView K E) → ℕ → Me (Option S) (SeatView K E) → Type 0
  Tried tag_of key entries fits step before found after =
      TookFree tag_of key entries fits before found after × (found ≢ free_word → after ≡ before) × (step.first ≡ free_word) × (step.second ≡ taken_word)

  -- or sets the word to 2, whatever it was
  abbrev pub Pressed : (E → ℕ) → (S → K) → (S → List E) → (S → Type 0) → Step (Option S) → Me (Option S) (SeatView K E) → ℕ → Me (Option S) (SeatView K E) → Type 0
  Pressed tag_of key entries fits step before found after =
      TookFree tag_of key entries fits before found after × (found ≢ free_word → after ≡ before) × (step.first ≡ awaited_word)

  -- the state that lay in the seat's slot is given, and its entries are seen
  abbrev pub GaveBack : (E → ℕ) → (S → List E) → Step (Option S) → Me (Option S) (SeatView K E) → ℕ → Me (Option S) (SeatView K E) → Type 0
  GaveBack tag_of entries step before found after = (x : S) → before.1 ≡ (place, Some x) ∷ [] → after ≡ (giver_view tag_of before.0 (entries x), [])

  abbrev pub Told : (E → ℕ) → Step (Option S) → Me (Option S) (SeatView K E) → ℕ → Me (Option S) (SeatView K E) → Type 0
  Told tag_of step before found after = let p = the_part before.0 in let q = second_part before.0 in let both = longer p.seen q.seen in
      (after ≡ (told_view before.0, before.1)) × IsPrefix p.seen both × IsPrefix q.seen both × (tagged tag_of p.tag both ≡ p.mine) × (tagged tag_of q.tag both ≡ q.mine)
