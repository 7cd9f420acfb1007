use Rattle.std.proofs.Common.{◌≡◌, ◌<◌, ◌++◌, List, [], ◌∷◌, length, get_or, Option, None, Some, ap, subst, ◌∙◌, arith, length-append}
use Rattle.std.specs.Prelude.{IfSome}
use Rattle.std.specs.List.{All}
use Rattle.std.specs.Option.{option_to_list}
use Rattle.std.proofs.Math.Seq.{get_or-append_seam}
use Rattle.std.proofs.lemmas.List.Elements.{All-get_or}
use Rattle.locked_office_tests.proofs.tests.threads.last_back.Goals as goal

-- what holds of each holds of the last
last_of : {A : Type 0} (P : A → Type 0) (xs all : List A) (last : Option A) → all ≡ xs ++ option_to_list last → All P all → IfSome last P
last_of P xs all None e each = tt
last_of P xs all (Some x) e each =
    let more : length xs < length all = omega (arith, ap length e, length-append xs (x ∷ [])) in
    subst P (ap (λ l. get_or l (length xs) x) e ∙ get_or-append_seam xs x [] x) (All-get_or P all (length xs) x more each)

pub returns-clause-last : goal.returns-clause-last
returns-clause-last c = last_of _ _ _ c.pop.result c.pop.ensures.items c.requires
