-- One part of a text after another.
use Rattle.std.proofs.Common.{◌≡◌, ℕ, List, ◌++◌, Result, Ok, Err, OnOk, ap, ◌∙◌, append_assoc}

pub written : {A E : Type 0} (r : Result A E) (old mid new x y : List ℕ) → mid ≡ old ++ x → OnOk r (new ≡ mid ++ y) → OnOk r (new ≡ old ++ (x ++ y))
written (Ok u) old mid new x y e h = h ∙ ap (λ bs. bs ++ y) e ∙ append_assoc old x y
written (Err f) old mid new x y e h = h

pub written_3 : {A E : Type 0} (r : Result A E) (old one two new x y z : List ℕ) → one ≡ old ++ x → two ≡ one ++ y → OnOk r (new ≡ two ++ z) → OnOk r (new ≡ old ++ (x ++ (y ++ z)))
written_3 r old one two new x y z e f h = written r old one new x (y ++ z) e (written r one two new y z f h)

pub written_5 : {A E : Type 0} (r : Result A E) (old one two three four new v w x y z : List ℕ) → one ≡ old ++ v → two ≡ one ++ w → three ≡ two ++ x → four ≡ three ++ y → OnOk r (new ≡ four ++ z) → OnOk r (new ≡ old ++ (v ++ (w ++ (x ++ (y ++ z)))))
written_5 r old one two three four new v w x y z e f g i h = written_3 r old one two new v w (x ++ (y ++ z)) e f (written_3 r two three four new x y z g i h)
