-- The records named so far are those that the statements so far need.
use Rattle.std.proofs.Common.{◌≡◌, ℕ, List, [], ◌∷◌, ◌++◌, IfOk, refl, sym, ap, ◌∙◌}
use Rattle.session_meaning.specs.Tree.{Command, LetVar, SetTo, GiveOf, Requires, Block}
use Rattle.session_meaning.specs.refinement.TreeOfStatements.{block_from}
use Rattle.session_programs.specs.measures.Needs.{test_needs, command_needs, block_needs}
use Rattle.session_language.specs.Reading.{Head, IfHead, ElseHead, RepeatHead, OpenBlock, Draft, Spoken, SpeaksLet, SpeaksSet, SpeaksGive, SpeaksDemand, SpeaksIf, SpeaksRepeat, place_of, with_variable, with_line, with_names, turned, whole, with_end}
use Rattle.session_language.specs.refinement.KeptDraft.{named_past, named_in, IsNamed}

-- one more statement
needs_more : (cs : List Command) (c : Command) (rs : List ℕ) → block_needs (block_from (cs ++ c ∷ [])) rs ≡ command_needs c (block_needs (block_from cs) rs)
needs_more [] c rs = refl
needs_more (d ∷ cs) c rs = needs_more cs c (command_needs d rs)

module _ (d : Draft) (h : IsNamed d) where
  one_more : (c : Command) → command_needs c d.named ≡ block_needs (block_from (d.body ++ c ∷ [])) (named_in d.outer)
  one_more c = ap (command_needs c) h ∙ sym (needs_more d.body c (named_in d.outer))

  pub line_named : (x : Spoken) → IsNamed (with_line (with_names d x) x)
  line_named (SpeaksLet name e) = one_more (LetVar (place_of name (with_variable name d.variables)) e)
  line_named (SpeaksSet r e) = one_more (SetTo r e)
  line_named (SpeaksGive e) = one_more (GiveOf e)
  line_named (SpeaksDemand t code) = one_more (Requires t code)
  line_named (SpeaksIf t) = ap (test_needs t) h
  line_named (SpeaksRepeat n) = h

-- an `else`, and an `end`
abbrev IsNamedAfter : Draft → List Command → Head → List OpenBlock → Type 0
IsNamedAfter d before head outer = d.named ≡ block_needs (block_from d.body) (named_past head (block_needs (block_from before) (named_in outer)))

pub turned_named : (d : Draft) (before : List Command) (head : Head) (outer : List OpenBlock) → IsNamedAfter d before head outer → IfOk (turned d before head outer) IsNamed
turned_named d before (IfHead t) outer h = h
turned_named d before (ElseHead t first) outer h = tt
turned_named d before (RepeatHead n) outer h = tt

whole_needs : (head : Head) (b : Block) (rs : List ℕ) → command_needs (whole head b) rs ≡ block_needs b (named_past head rs)
whole_needs (IfHead t) b rs = refl
whole_needs (ElseHead t first) b rs = refl
whole_needs (RepeatHead n) b rs = refl

pub end_named : (d : Draft) (b : OpenBlock) (outer : List OpenBlock) → IsNamedAfter d b.before b.head outer → IsNamed (with_end d b outer)
end_named d b outer h =
    h ∙ sym (needs_more b.before (whole b.head (block_from d.body)) (named_in outer) ∙ whole_needs b.head (block_from d.body) (block_needs (block_from b.before) (named_in outer)))
