-- An expression is one of version 1 where each of its nodes is.
use Rattle.std.proofs.Common.{◌≡◌, List, [], ◌∷◌, ◌++◌, Bool, true, false, ◌&&◌, refl, ap, ◌∙◌, sym}
use Rattle.std.specs.List.{list_all}
use Rattle.std.proofs.lemmas.List.Folds.{list_all-append}
use Rattle.bottle_values.specs.declared.version.Version.TheVariants.{One}
use Rattle.session_meaning.specs.declared.node.Node.TheVariants.{Negate, Apply}
use Rattle.session_meaning.specs.Tree.{Term, Constant, Var, ReadOf, Neg, Bin}
use Rattle.session_meaning.specs.Fitting.{term_fits}
use Rattle.session_meaning.specs.refinement.Postfix.{postfix}
use Rattle.session_programs.specs.measures.refinement.NodeFitting.{node_fits}

and_true : (b : Bool) → (b && true) ≡ b
and_true true = refl
and_true false = refl

pub term_fits_by_nodes : (e : Term) → list_all node_fits (postfix e) ≡ term_fits One e
term_fits_by_nodes (Constant v) = and_true _
term_fits_by_nodes (Var k) = refl
term_fits_by_nodes (ReadOf r) = refl
term_fits_by_nodes (Neg e) = list_all-append node_fits (postfix e) (Negate ∷ []) ∙ and_true _ ∙ term_fits_by_nodes e
term_fits_by_nodes (Bin o a b) =
    list_all-append node_fits (postfix a) (postfix b ++ Apply o ∷ [])
    ∙ ap (λ x. x && list_all node_fits (postfix b ++ Apply o ∷ [])) (term_fits_by_nodes a)
    ∙ ap (λ x. term_fits One a && x) (list_all-append node_fits (postfix b) (Apply o ∷ []) ∙ and_true _ ∙ term_fits_by_nodes b)
