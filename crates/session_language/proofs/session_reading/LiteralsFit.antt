-- The literals of a session that is open are of the plan's version, after each line.
use Rattle.std.proofs.Common.{◌≡◌, ℕ, List, [], ◌∷◌, ◌++◌, Bool, true, false, ◌&&◌, IfOk, refl, ap, ◌∙◌}
use Rattle.bottle_values.specs.declared.version.Version.{Version}
use Rattle.session_meaning.specs.Tree.{Command, LetVar, SetTo, GiveOf, Requires}
use Rattle.session_meaning.specs.Fitting.{term_fits, test_fits, command_fits, block_fits}
use Rattle.session_meaning.specs.refinement.TreeOfStatements.{block_from}
use Rattle.session_language.specs.Reading.{Head, IfHead, ElseHead, RepeatHead, OpenBlock, Draft, Spoken, SpeaksLet, SpeaksSet, SpeaksGive, SpeaksDemand, SpeaksIf, SpeaksRepeat, place_of, with_variable, with_line, with_names, turned, whole, with_end, begun}

-- how a block begins, and all blocks that are open
abbrev head_fits : Version → Head → Bool
head_fits v (IfHead t) = test_fits v t
head_fits v (ElseHead t first) = test_fits v t && block_fits v first
head_fits v (RepeatHead n) = true

abbrev pub BlocksFit : Version → List OpenBlock → Type 0
BlocksFit v [] = Unit {0}
BlocksFit v (b ∷ outer) = (block_fits v (block_from b.before) ≡ true) × (head_fits v b.head ≡ true) × BlocksFit v outer

pub record DraftFits (v : Version) (d : Draft) : Type 0 where
  pub body : block_fits v (block_from d.body) ≡ true
  pub blocks : BlocksFit v d.outer

abbrev pub SpokenFits : Version → Spoken → Type 0
SpokenFits v (SpeaksLet name e) = term_fits v e ≡ true
SpokenFits v (SpeaksSet r e) = term_fits v e ≡ true
SpokenFits v (SpeaksGive e) = term_fits v e ≡ true
SpokenFits v (SpeaksDemand t code) = test_fits v t ≡ true
SpokenFits v (SpeaksIf t) = test_fits v t ≡ true
SpokenFits v (SpeaksRepeat n) = Unit {0}

both : (a b : Bool) → a ≡ true → b ≡ true → (a && b) ≡ true
both a b h g = ap (λ x. x && b) h ∙ g

-- one more statement
one_more : (v : Version) (cs : List Command) (c : Command) → block_fits v (block_from cs) ≡ true → command_fits v c ≡ true → block_fits v (block_from (cs ++ c ∷ [])) ≡ true
one_more v [] c h g = both (command_fits v c) true g refl
one_more v (d ∷ cs) c h g = split (command_fits v d) h (λ k. one_more v cs c k g)
  where
    split : (b : Bool) → (b && block_fits v (block_from cs)) ≡ true → (block_fits v (block_from cs) ≡ true → block_fits v (block_from (cs ++ c ∷ [])) ≡ true) → (b && block_fits v (block_from (cs ++ c ∷ []))) ≡ true
    split true k more = more k
    split false k more = k

pub begun_fits : (v : Version) (office : ℕ) → DraftFits v (begun office)
begun_fits v office = record { body = refl; blocks = tt }

module _ (v : Version) (d : Draft) (f : DraftFits v d) where
  with_one : (c : Command) → command_fits v c ≡ true → block_fits v (block_from (d.body ++ c ∷ [])) ≡ true
  with_one c g = one_more v d.body c f.body g

  pub line_kept : (x : Spoken) → SpokenFits v x → DraftFits v (with_line (with_names d x) x)
  line_kept (SpeaksLet name e) g = record { body = with_one (LetVar (place_of name (with_variable name d.variables)) e) g; blocks = f.blocks }
  line_kept (SpeaksSet r e) g = record { body = with_one (SetTo r e) g; blocks = f.blocks }
  line_kept (SpeaksGive e) g = record { body = with_one (GiveOf e) g; blocks = f.blocks }
  line_kept (SpeaksDemand t code) g = record { body = with_one (Requires t code) g; blocks = f.blocks }
  line_kept (SpeaksIf t) g = record { body = refl; blocks = (f.body, g, f.blocks) }
  line_kept (SpeaksRepeat n) g = record { body = refl; blocks = (f.body, refl, f.blocks) }

  -- an `else`, and an `end`
  pub turned_kept : (before : List Command) (head : Head) (outer : List OpenBlock) → (block_fits v (block_from before) ≡ true) × (head_fits v head ≡ true) × BlocksFit v outer → IfOk (turned d before head outer) (DraftFits v)
  turned_kept before (IfHead t) outer g = record { body = refl; blocks = (g.0, both (test_fits v t) (block_fits v (block_from d.body)) g.1 f.body, g.2) }
  turned_kept before (ElseHead t first) outer g = tt
  turned_kept before (RepeatHead n) outer g = tt

  whole_fits : (head : Head) → head_fits v head ≡ true → command_fits v (whole head (block_from d.body)) ≡ true
  whole_fits (IfHead t) g = both (test_fits v t) (block_fits v (block_from d.body)) g f.body
  whole_fits (ElseHead t first) g = split (test_fits v t) (block_fits v first) g
    where
      split : (a b : Bool) → (a && b) ≡ true → (a && (b && block_fits v (block_from d.body))) ≡ true
      split true true k = f.body
      split true false k = k
      split false b k = k
  whole_fits (RepeatHead n) g = f.body

  pub end_kept : (b : OpenBlock) (outer : List OpenBlock) → BlocksFit v (b ∷ outer) → DraftFits v (with_end d b outer)
  end_kept b outer g = record { body = one_more v b.before (whole b.head (block_from d.body)) g.0 (whole_fits b.head g.1); blocks = g.2 }
