-- Rows for each number below another.
use Rattle.std.proofs.Common.{◌≡◌, ◌+◌, ℕ, zero, suc, List, ◌++◌, sym, ap, ◌∙◌, append_assoc, arith}
use Rattle.std.specs.List.{flat_map, range_with_len}
use Rattle.std.proofs.lemmas.List.{append-nil}
use Rattle.session_reports.specs.Report.{RowsAreAdded}

last : (f : ℕ → List ℕ) (a n j : ℕ) → a + n ≡ j → flat_map f (range_with_len a (suc n)) ≡ flat_map f (range_with_len a n) ++ f j
last f a zero j e = let here : a ≡ j = omega (arith, e) in append-nil (f a) ∙ ap f here
last f a (suc n) j e = ap (λ rows. f a ++ rows) (last f (a + 1) n j (omega (arith, e))) ∙ sym (append_assoc (f a) _ (f j))

pub rows_more : RowsAreAdded
rows_more f n = let more : n + 1 ≡ suc n = omega arith in ap (λ k. flat_map f (range_with_len 0 k)) more ∙ last f 0 n n (omega arith)
