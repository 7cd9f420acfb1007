-- Texts that are read whole.
use Rattle.std.proofs.Common.{◌≡◌, ◌≤◌, ◌+◌, ℕ, List, Option, Some, Result, Ok, Err, IfOk, IfSome, min, length, take, subst, ap, ◌∙◌, arith}
use Rattle.std.proofs.lemmas.List.{length-take, take_all}
use Rattle.command_outputs.specs.declared.secrets.fault.SecretsFault.{SecretsFault}

-- the first bytes of a text are all of it, where they are fewer than were asked for
pub is_whole : (most : ℕ) (bytes text : List ℕ) → bytes ≡ take (most + 1) text → length bytes ≤ most → bytes ≡ text
is_whole most bytes text first few =
    let least : length bytes ≡ min (most + 1) (length text) = ap length first ∙ length-take (most + 1) text in
    first ∙ take_all (most + 1) text (omega (arith, least, few))

-- what is read whole is the text, if that is known
pub of_text : {X Y : Type 0} (items : X → List ℕ) (read : Y → List ℕ) (known : Option (List ℕ)) (found : Option Y) (bytes : Y) (r : Result X SecretsFault) → found ≡ Some bytes → IfSome found (λ v. (text : List ℕ) → known ≡ Some text → read v ≡ take 262145 text)
    → IfOk r (λ v. (text : List ℕ) → read bytes ≡ take 262145 text → items v ≡ text) → IfOk r (λ v. (text : List ℕ) → known ≡ Some text → items v ≡ text)
of_text items read known found bytes (Ok v) is first whole =
    let here : (text : List ℕ) → known ≡ Some text → read bytes ≡ take 262145 text = subst (λ o. IfSome o (λ v. (text : List ℕ) → known ≡ Some text → read v ≡ take 262145 text)) is first in
    λ text e. whole text (here text e)
of_text items read known found bytes (Err f) is first whole = tt
