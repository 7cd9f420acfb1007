-- Bytes that come in parts.
use Rattle.std.proofs.Common.{ℕ, List, [], ◌∷◌, ◌++◌, refl, sym, ap, ◌∙◌, append_assoc}
use Rattle.office_map.specs.PlanValue.{PlanValue}
use Rattle.session_streams.specs.requests.Bytes.{Taking, byte_taken, taken}
use Rattle.session_streams.specs.requests.RequestLaws.{AreOne, PartsAreOne}

one_more : (p : PlanValue) (me : ℕ) (t : Taking) (b : ℕ) (xs ys : List ℕ) → AreOne p me (byte_taken p me t b).0 xs ys → AreOne p me t (b ∷ xs) ys
one_more p me t b xs ys h = record {
  stands = h.stands;
  asked = ap (λ a. (byte_taken p me t b).1 ++ a) h.asked ∙ sym (append_assoc (byte_taken p me t b).1 (taken p me (byte_taken p me t b).0 xs).1 (taken p me (taken p me (byte_taken p me t b).0 xs).0 ys).1);
}

pub parts_are_one : PartsAreOne
parts_are_one p me t [] ys = record { stands = refl; asked = refl }
parts_are_one p me t (b ∷ xs) ys = one_more p me t b xs ys (parts_are_one p me (byte_taken p me t b).0 xs ys)
