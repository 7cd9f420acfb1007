-- A text that grows is padded again.
use Rattle.std.proofs.Common.{◌≡◌, ℕ, ◌+◌, ◌-◌, ◌≤◌, List, ◌++◌, length, take, drop, replicate, Bool, true, false, sym, ap, ◌∙◌, arith, subst}
use Rattle.std.proofs.lemmas.Bool.{false≢true}
use Rattle.std.specs.Prelude.{IsTrue, ◌&&◌, nat_le}
use Rattle.std.specs.List.{list_all}
use Rattle.std.proofs.lemmas.List.{take-append-drop, length-append, drop-replicate}
use Rattle.std.proofs.lemmas.List.Folds.{list_all-append}
use Rattle.std.proofs.lemmas.Bool.{le-leb}
use Rattle.std.proofs.Math.Seq.{drop-append-add}
use Rattle.bottle_values.specs.Texts.{is_text, is_text_byte}
use Rattle.bottle_values.specs.refinement.Padding.{padded}

both_true : (a b : Bool) → IsTrue (a && b) → IsTrue b
both_true true b h = h
both_true false b h = absurd (false≢true h)

are_true : (a b : Bool) → a ≡ true → IsTrue b → IsTrue (a && b)
are_true a b e h = subst (λ x. IsTrue (x && b)) (sym e) h

all_true : (xs ys : List ℕ) → IsTrue (list_all is_text_byte xs) → IsTrue (list_all is_text_byte ys) → IsTrue (list_all is_text_byte (xs ++ ys))
all_true xs ys a b = subst IsTrue (sym (list_all-append is_text_byte xs ys)) (go (list_all is_text_byte xs) a)
  where
    go : (x : Bool) → IsTrue x → IsTrue (x && list_all is_text_byte ys)
    go true h = b
    go false h = absurd (false≢true h)

-- what stands behind a padded text, so many places on
behind : (t ys : List ℕ) (n : ℕ) → n ≡ length t + length ys → drop n (padded t) ≡ replicate (64 - length (t ++ ys)) 0
behind t ys n e =
    ap (λ k. drop k (padded t)) e ∙ drop-append-add t (replicate (64 - length t) 0) (length ys) ∙ drop-replicate (length ys) (64 - length t) 0
    ∙ ap (λ k. replicate k 0) (omega (arith, length-append t ys))

pub grown : (n len : ℕ) (xs ys all : List ℕ) → length (take len xs) ≡ len → xs ≡ padded (take len xs) → IsTrue (is_text (take len xs)) → IsTrue (list_all is_text_byte ys) → n ≡ len + length ys → n ≤ 64
    → take n all ≡ take len xs ++ ys → drop n all ≡ drop n xs
    → (length (take n all) ≡ n) × (all ≡ padded (take n all)) × IsTrue (is_text (take n all))
grown n len xs ys all len_is xs_is text more n_is fits front rest =
    let size : length (take len xs ++ ys) ≡ n = length-append (take len xs) ys ∙ ap (λ k. k + length ys) len_is ∙ sym n_is in
    let whole : all ≡ padded (take len xs ++ ys) =
    sym (take-append-drop n all) ∙ ap (λ l. l ++ drop n all) front ∙ ap (λ l. (take len xs ++ ys) ++ l) (rest ∙ ap (drop n) xs_is ∙ behind (take len xs) ys n (n_is ∙ ap (λ k. k + length ys) (sym len_is))) in (
      ap length front ∙ size,
      whole ∙ ap padded (sym front),
      subst (λ l. IsTrue (is_text l)) (sym front) (are_true (nat_le (length (take len xs ++ ys)) 64) (list_all is_text_byte (take len xs ++ ys)) (le-leb _ _ (omega (arith, size, fits))) (all_true (take len xs) ys (both_true (nat_le (length (take len xs)) 64) (list_all is_text_byte (take len xs)) text) more)),
    )
