-- A node that needs no bytes lies within those that there are.
use Rattle.std.proofs.Common.{◌∷◌, [], length, sym, subst, arith}
use Rattle.std.specs.Prelude.{All}
use Rattle.std.proofs.lemmas.List.Elements.{All-append, All-cons, All-nil}
use Rattle.session_meaning.specs.refinement.KeptNode.{IsWithin}
use Rattle.session_meaning.proofs.KeptTexts.{within_more}
use Rattle.session_meaning.proofs.node_list.NodeList.keep.Goals as goal

pub invariant_of-self-2 : goal.invariant_of-self-2
invariant_of-self-2 c =
    let n = length c.self.inside.bytes.items in
    subst (All (IsWithin n)) (sym c.in_ok-push.ensures.items)
    (All-append (IsWithin n) c.self.inside.nodes.items (c.args.kept ∷ []) c.self.invariant (All-cons (IsWithin n) c.args.kept [] (within_more 0 n c.args.kept (omega arith) c.requires.within) (All-nil (IsWithin n))))
