-- What is kept is taken one after the other, as a loop takes it.
use Rattle.std.proofs.Common.{◌≡◌, ℕ, suc, Option, Some, None, is_some, true, refl, ap, ◌∙◌}
use Rattle.frame_codec.specs.declared.message.Msg.{Msg}
use Rattle.window_link.specs.Windows.{Receiving, next_kept, advanced}
use Rattle.window_link.specs.refinement.TwoLinksStep.{followed}

pub follow_one : (r : Receiving) (n m : ℕ) → n ≡ suc m → is_some (next_kept r) ≡ true → followed (next_kept r) n r ≡ followed (next_kept (advanced r)) m (advanced r)
follow_one r n m e there = ap (λ k. followed (next_kept r) k r) e ∙ go (next_kept r) there
  where
    go : (o : Option Msg) → is_some o ≡ true → followed o (suc m) r ≡ followed (next_kept (advanced r)) m (advanced r)
    go None is = absurd cc
    go (Some msg) is = refl

pub follow_all : (r : Receiving) (n : ℕ) → n ≡ 0 → followed (next_kept r) n r ≡ r
follow_all r n e = ap (λ k. followed (next_kept r) k r) e ∙ go (next_kept r)
  where
    go : (o : Option Msg) → followed o 0 r ≡ r
    go None = refl
    go (Some msg) = refl
