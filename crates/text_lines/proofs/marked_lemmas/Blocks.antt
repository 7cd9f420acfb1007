-- What marks of 64 bytes tell of each byte.
use Rattle.std.proofs.Common.{◌≡◌, ℕ, ◌+◌, ◌-◌, ◌<◌, ◌≤◌, ◌%◌, ◌^◌, true, false, not, cond, ltb, List, length, map, drop, get_or, replicate, sym, ap, ◌∙◌, arith, w8, ⊎_elim}
use Rattle.std.specs.List.{prefix_len}
use Rattle.std.specs.Simd.Lanes.{chunk, mask_l, zip2, top}
use Rattle.std.specs.Int.Count.{count_trailing_zeros}
use Rattle.std.proofs.lemmas.Simd.{bitmask_splat, tops_compared, zip2_splat_left, mask_l-mod, length-chunk, none_from_empty_mask, run_in_chunk_fails, trailing_mask_l}
use Rattle.std.proofs.lemmas.List.{length-map, get_or-drop}
use Rattle.std.proofs.lemmas.Bool.{cases_lt}
use Rattle.std.proofs.lemmas.Bool.Decides.{nat_tests}
use Rattle.std.proofs.lemmas.Nat.{trailing_le}
use Rattle.text_lines.specs.marked.refinement.Marks.{is_printable}

-- bytes above one, by a comparison whose sides are turned
above : (y : ℕ) (xs : List ℕ) (n : ℕ) → length xs ≡ n → n ≤ 64 → mask_l (map (top 7) (zip2 (λ a b. cond (ltb a b) 255 0) (replicate n y) xs)) % 2 ^ 64 ≡ mask_l (map (λ x. ltb y x) xs)
above y xs n long few =
    ap (λ ms. mask_l ms % 2 ^ 64) (tops_compared w8 ltb (replicate n y) xs ∙ zip2_splat_left ltb y n xs long) ∙ mask_l-mod (map (λ x. ltb y x) xs) 64 (omega (arith, length-map xs (λ x. ltb y x)))

none_high : (text : List ℕ) → 64 ≤ length text → mask_l (map (top 7) (zip2 (λ a b. cond (ltb a b) 255 0) (replicate 64 126) (chunk 0 64 text))) % 2 ^ 64 ≡ 0 → (k : ℕ) → k < 64 → ltb 126 (get_or text k 0) ≡ false
none_high text long none k lt =
    none_from_empty_mask (λ x. ltb 126 x) text 0 64 0 long (sym (above 126 (chunk 0 64 text) 64 (length-chunk 0 64 text long) (omega arith)) ∙ none) k (omega arith) (omega (arith, lt))

control_marks : (text : List ℕ) → 64 ≤ length text → mask_l (map (top 7) (zip2 (λ a b. cond (ltb a b) 255 0) (chunk 0 64 text) (replicate 64 32))) % 2 ^ 64 ≡ mask_l (map (λ x. ltb x 32) (chunk 0 64 text))
control_marks text long = bitmask_splat w8 ltb (chunk 0 64 text) 64 32 (length-chunk 0 64 text long) (omega arith)

none_control : (text : List ℕ) → 64 ≤ length text → mask_l (map (λ x. ltb x 32) (chunk 0 64 text)) ≡ 0 → (k : ℕ) → k < 64 → ltb (get_or text k 0) 32 ≡ false
none_control text long none k lt = none_from_empty_mask (λ x. ltb x 32) text 0 64 0 long none k (omega arith) (omega (arith, lt))

-- the place of the first control byte, and those before it
first_control : (text : List ℕ) → 64 ≤ length text → 0 < mask_l (map (λ x. ltb x 32) (chunk 0 64 text)) → count_trailing_zeros 64 (mask_l (map (λ x. ltb x 32) (chunk 0 64 text))) ≡ prefix_len (λ x. not (ltb x 32)) (chunk 0 64 text)
first_control text long some = trailing_mask_l (λ x. ltb x 32) 64 (chunk 0 64 text) (omega (arith, length-chunk 0 64 text long)) some

before_control : (text : List ℕ) (r : ℕ) → 64 ≤ length text → r ≡ prefix_len (λ x. not (ltb x 32)) (chunk 0 64 text) → (k : ℕ) → k < r → ltb (get_or text k 0) 32 ≡ false
before_control text r long is k lt = run_in_chunk_fails (λ x. ltb x 32) text 0 64 r 0 long is k (omega arith) (omega (arith, lt))

printable_between : (b : ℕ) → ltb b 32 ≡ false → ltb 126 b ≡ false → is_printable b ≡ true
printable_between b low high = grind (arith, nat_tests)

-- all bytes, or those before the first control byte, where none is high
pub printable_all : (text : List ℕ) → 64 ≤ length text → mask_l (map (top 7) (zip2 (λ a b. cond (ltb a b) 255 0) (replicate 64 126) (chunk 0 64 text))) % 2 ^ 64 ≡ 0
    → mask_l (map (top 7) (zip2 (λ a b. cond (ltb a b) 255 0) (chunk 0 64 text) (replicate 64 32))) % 2 ^ 64 ≡ 0 → (k : ℕ) → k < 64 → is_printable (get_or text k 0) ≡ true
printable_all text long high control k lt =
    printable_between (get_or text k 0) (none_control text long (sym (control_marks text long) ∙ control) k lt) (none_high text long high k lt)

pub printable_first : (text : List ℕ) (r : ℕ) → 64 ≤ length text → mask_l (map (top 7) (zip2 (λ a b. cond (ltb a b) 255 0) (replicate 64 126) (chunk 0 64 text))) % 2 ^ 64 ≡ 0
    → 0 < mask_l (map (top 7) (zip2 (λ a b. cond (ltb a b) 255 0) (chunk 0 64 text) (replicate 64 32))) % 2 ^ 64
    → r ≡ count_trailing_zeros 64 (mask_l (map (top 7) (zip2 (λ a b. cond (ltb a b) 255 0) (chunk 0 64 text) (replicate 64 32))) % 2 ^ 64)
    → (k : ℕ) → k < r → is_printable (get_or text k 0) ≡ true
printable_first text r long high some is k lt =
    let set : 0 < mask_l (map (λ x. ltb x 32) (chunk 0 64 text)) = omega (arith, control_marks text long, some) in
    let first : r ≡ prefix_len (λ x. not (ltb x 32)) (chunk 0 64 text) = is ∙ ap (count_trailing_zeros 64) (control_marks text long) ∙ first_control text long set in
    let inside : r ≤ 64 = omega (arith, is, trailing_le 64 (mask_l (map (top 7) (zip2 (λ a b. cond (ltb a b) 255 0) (chunk 0 64 text) (replicate 64 32))) % 2 ^ 64)) in
    printable_between (get_or text k 0) (before_control text r long first k lt) (none_high text long high k (omega (arith, lt, inside)))

-- one block more
pub printable_more : (text rest : List ℕ) (run more : ℕ) → rest ≡ drop run text → ((k : ℕ) → k < run → is_printable (get_or text k 0) ≡ true) → ((k : ℕ) → k < more → is_printable (get_or rest k 0) ≡ true)
    → (k : ℕ) → k < run + more → is_printable (get_or text k 0) ≡ true
printable_more text rest run more is so later k lt = ⊎_elim
    (λ below. so k below)
    (λ above. let place : run + (k - run) ≡ k = omega (arith, above) in
    ap (λ i. is_printable (get_or text i 0)) (sym place) ∙ ap is_printable (sym (get_or-drop run text (k - run) 0)) ∙ ap (λ l. is_printable (get_or l (k - run) 0)) (sym is) ∙ later (k - run) (omega (arith, lt, above)))
    (cases_lt k run)
