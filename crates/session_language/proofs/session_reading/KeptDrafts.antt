-- What holds of a session that is open holds after each further line, and makes its program well formed.
use Rattle.std.proofs.Common.{◌≡◌, ◌<◌, ◌≤◌, ℕ, suc, List, [], ◌∷◌, ◌++◌, length, false, ◌&&◌, nat_lt, nat_le, IfOk, Result, Ok, Err, refl, sym, ap, ◌∙◌, subst, arith}
use Rattle.std.proofs.lemmas.Bool.Decides.{nat_tests}
use Rattle.session_language.specs.declared.fault.SessionRule.{SessionRule}
use Rattle.session_language.specs.declared.fault.SessionRule.TheVariants.{TooDeep, TooManyRecords, TooManyVariables}
use Rattle.session_meaning.specs.Tree.{Command, LetVar, SetTo, GiveOf, Requires, Block}
use Rattle.session_meaning.specs.ProgramValue.{ProgramValue}
use Rattle.session_meaning.specs.refinement.TreeOfStatements.{block_from}
use Rattle.session_programs.specs.measures.Needs.{block_needs, needs_of}
use Rattle.session_programs.specs.measures.Measures.{block_gives}
use Rattle.session_language.specs.Reading.{Head, IfHead, ElseHead, RepeatHead, OpenBlock, Draft, Spoken, SpeaksLet, SpeaksSet, SpeaksGive, SpeaksDemand, SpeaksIf, SpeaksRepeat, with_variable, place_of, variables_after, named_after, with_line, with_names, opens_block, add, turned, turned_in, whole, with_end, Ended, Going, Closed, ended_in, ended, closed, program_of, begun}
use Rattle.session_programs.specs.WellFormed.{IsTestOver, IsStatementOver, known_after, known_after_block, AreStatements, IsDeclared, IsWellFormed}
use Rattle.session_programs.specs.Program.{is_too_long}
use Rattle.session_language.specs.refinement.KeptDraft.{IsSpokenOver, known_past, known_in, named_in, IsHeadOver, IsNamed, IsKept}
use Rattle.session_language.proofs.session_reading.ProgramsFit.{past, and_so}
use Rattle.session_language.proofs.session_reading.NamedRecords.{line_named, turned_named, end_named}
use Rattle.session_language.proofs.session_reading.WellFormedness.{IsGrown, variable_kept}

-- a session with nothing in it
pub kept_begun : (office : ℕ) → IsKept (begun office)
kept_begun office = record {
  names = λ k d lt. absurd (omega arith);
  distinct = λ i j d lt short. absurd (omega arith);
  blocks = tt;
  statements = tt;
  all_let = refl;
  named = refl;
  few_named = omega arith;
  few_variables = omega arith;
}

-- one statement more
statements_more : (cs : List Command) (c : Command) (around n : ℕ) → AreStatements around n (block_from cs) → IsStatementOver around (known_after_block n (block_from cs)) c → AreStatements around n (block_from (cs ++ c ∷ []))
statements_more [] c around n h g = (g, tt)
statements_more (d ∷ cs) c around n h g = (h.0, statements_more cs c around (known_after n d) h.1 g)

known_more : (cs : List Command) (c : Command) (n : ℕ) → known_after_block n (block_from (cs ++ c ∷ [])) ≡ known_after (known_after_block n (block_from cs)) c
known_more [] c n = refl
known_more (d ∷ cs) c n = known_more cs c (known_after n d)

not_above : (k n : ℕ) → nat_lt k n ≡ false → n ≤ k
not_above k n h = grind (h, arith, nat_tests)

module _ (d : Draft) (k : IsKept d) where
  abbrev count : ℕ
  count = length d.variables

  body_more : (c : Command) → IsStatementOver (length d.outer) count c → AreStatements (length d.outer) (known_in d.outer) (block_from (d.body ++ c ∷ []))
  body_more c h = statements_more d.body c (length d.outer) (known_in d.outer) k.statements (let P : ℕ → Type 0 = λ n. IsStatementOver (length d.outer) n c in subst P (sym k.all_let) h)

  known_then : (c : Command) → known_after_block (known_in d.outer) (block_from (d.body ++ c ∷ [])) ≡ known_after count c
  known_then c = known_more d.body c (known_in d.outer) ∙ ap (λ n. known_after n c) k.all_let

  room : nat_le 8 (length d.outer) ≡ false → length d.outer < 8
  room h = grind (h, arith, nat_tests)

  over_here : (t : _) → IsTestOver count t → IsTestOver (known_after_block (known_in d.outer) (block_from d.body)) t
  over_here t h = let P : ℕ → Type 0 = λ n. IsTestOver n t in subst P (sym k.all_let) h

  -- the line of a statement, within the limits
  line_kept : (x : Spoken) → IsSpokenOver count x → (opens_block x && nat_le 8 (length d.outer)) ≡ false → length (named_after d.named x) ≤ 16 → length (variables_after d.variables x) ≤ 32 → IsKept (with_line (with_names d x) x)
  line_kept (SpeaksLet name e) h deep few_named few_variables =
      let later : List (List ℕ) = with_variable name d.variables in
      let g : IsGrown name d.variables later = variable_kept name d.variables h.0 k.names k.distinct in
      let c : Command = LetVar (place_of name later) e in
      record {
        names = g.names;
        distinct = g.distinct;
        blocks = k.blocks;
        statements = body_more c (g.place, h.1);
        all_let = known_then c ∙ sym g.count;
        named = line_named d k.named (SpeaksLet name e);
        few_named = few_named;
        few_variables = few_variables;
      }
  line_kept (SpeaksSet r e) h deep few_named few_variables = record {
    names = k.names;
    distinct = k.distinct;
    blocks = k.blocks;
    statements = body_more (SetTo r e) h;
    all_let = known_then (SetTo r e);
    named = line_named d k.named (SpeaksSet r e);
    few_named = few_named;
    few_variables = few_variables;
  }
  line_kept (SpeaksGive e) h deep few_named few_variables = record {
    names = k.names;
    distinct = k.distinct;
    blocks = k.blocks;
    statements = body_more (GiveOf e) h;
    all_let = known_then (GiveOf e);
    named = line_named d k.named (SpeaksGive e);
    few_named = few_named;
    few_variables = few_variables;
  }
  line_kept (SpeaksDemand t code) h deep few_named few_variables = record {
    names = k.names;
    distinct = k.distinct;
    blocks = k.blocks;
    statements = body_more (Requires t code) h;
    all_let = known_then (Requires t code);
    named = line_named d k.named (SpeaksDemand t code);
    few_named = few_named;
    few_variables = few_variables;
  }
  line_kept (SpeaksIf t) h deep few_named few_variables = record {
    names = k.names;
    distinct = k.distinct;
    blocks = (room deep, k.statements, over_here t h, k.blocks);
    statements = tt;
    all_let = k.all_let;
    named = line_named d k.named (SpeaksIf t);
    few_named = few_named;
    few_variables = few_variables;
  }
  line_kept (SpeaksRepeat n) h deep few_named few_variables = record {
    names = k.names;
    distinct = k.distinct;
    blocks = (room deep, k.statements, h, k.blocks);
    statements = tt;
    all_let = k.all_let;
    named = line_named d k.named (SpeaksRepeat n);
    few_named = few_named;
    few_variables = few_variables;
  }

  variables_named : (x : Spoken) → (with_line (with_names d x) x).variables ≡ variables_after d.variables x
  variables_named (SpeaksLet name e) = refl
  variables_named (SpeaksSet r e) = refl
  variables_named (SpeaksGive e) = refl
  variables_named (SpeaksDemand t code) = refl
  variables_named (SpeaksIf t) = refl
  variables_named (SpeaksRepeat n) = refl

  records_named : (x : Spoken) → (with_line (with_names d x) x).named ≡ named_after d.named x
  records_named (SpeaksLet name e) = refl
  records_named (SpeaksSet r e) = refl
  records_named (SpeaksGive e) = refl
  records_named (SpeaksDemand t code) = refl
  records_named (SpeaksIf t) = refl
  records_named (SpeaksRepeat n) = refl

  add_kept : (x : Spoken) → IsSpokenOver count x → IfOk (add d x) IsKept
  add_kept x h =
      let e : Draft = with_line (with_names d x) x in
      past (opens_block x && nat_le 8 (length d.outer)) TooDeep _ IsKept (λ a.
      past (nat_lt 16 (length e.named)) TooManyRecords _ IsKept (λ b.
      past (nat_lt 32 (length e.variables)) TooManyVariables _ IsKept (λ c.
      line_kept x h a (not_above 16 _ (ap (λ (rs : List ℕ). nat_lt 16 (length rs)) (sym (records_named x)) ∙ b)) (not_above 32 _ (ap (λ (vs : List (List ℕ)). nat_lt 32 (length vs)) (sym (variables_named x)) ∙ c)))))

-- a session with this innermost block
abbrev in_block : Draft → List OpenBlock → Draft
in_block d outer = record { office = d.office; variables = d.variables; named = d.named; outer = outer; body = d.body }

abbrev block : List Command → Head → OpenBlock
block before head = record { before = before; head = head }

turn_kept : (d : Draft) (before : List Command) (head : Head) (outer : List OpenBlock) → IsKept (in_block d (block before head ∷ outer)) → IfOk (turned d before head outer) IsNamed → IfOk (turned d before head outer) IsKept
turn_kept d before (IfHead t) outer k n = record {
  names = k.names;
  distinct = k.distinct;
  blocks = (k.blocks.0, k.blocks.1, (k.blocks.2, k.statements), k.blocks.3);
  statements = tt;
  all_let = k.all_let;
  named = n;
  few_named = k.few_named;
  few_variables = k.few_variables;
}
turn_kept d before (ElseHead t first) outer k n = tt
turn_kept d before (RepeatHead turns) outer k n = tt

turned_kept : (d : Draft) (outer : List OpenBlock) → IsKept (in_block d outer) → IfOk (turned_in d outer) IsKept
turned_kept d [] k = tt
turned_kept d (b ∷ outer) k = turn_kept d b.before b.head outer k (turned_named d b.before b.head outer k.named)

whole_over : (head : Head) (around known last : ℕ) (b : Block) → around < 8 → IsHeadOver (suc around) known head → AreStatements (suc around) (known_past head known) b → known_after_block (known_past head known) b ≡ last
    → IsStatementOver around known (whole head b) × (known_after known (whole head b) ≡ last)
whole_over (IfHead t) around known last b lt h g e = ((lt, h, g), e)
whole_over (ElseHead t first) around known last b lt h g e = ((lt, h.0, h.1, g), e)
whole_over (RepeatHead n) around known last b lt h g e = ((lt, h, g), e)

end_kept : (d : Draft) (b : OpenBlock) (outer : List OpenBlock) → IsKept (in_block d (b ∷ outer)) → IsKept (with_end d b outer)
end_kept d b outer k =
    let c : Command = whole b.head (block_from d.body) in
    let before : ℕ = known_after_block (known_in outer) (block_from b.before) in
    let over = whole_over b.head (length outer) before (length d.variables) (block_from d.body) k.blocks.0 k.blocks.2 k.statements k.all_let in
    record {
      names = k.names;
      distinct = k.distinct;
      blocks = k.blocks.3;
      statements = statements_more b.before c (length outer) (known_in outer) k.blocks.1 over.0;
      all_let = known_more b.before c (known_in outer) ∙ over.1;
      named = end_named d b outer k.named;
      few_named = k.few_named;
      few_variables = k.few_variables;
    }

abbrev pub EndedKept : Ended → Type 0
EndedKept (Going d) = IsKept d
EndedKept (Closed p) = Unit {0}

ended_kept : (d : Draft) (outer : List OpenBlock) → IsKept (in_block d outer) → IfOk (ended_in d outer) EndedKept
ended_kept d [] k = and_so (closed d) (λ q. Ok (Closed q)) (λ q. Unit {0}) EndedKept (anything (closed d)) (λ q h. tt)
  where
    anything : (r : Result ProgramValue SessionRule) → IfOk r (λ q. Unit {0})
    anything (Ok q) = tt
    anything (Err e) = tt
ended_kept d (b ∷ outer) k = end_kept d b outer k

-- what the code is left with
pub kept_added : (d e : Draft) (x : Spoken) (n : ℕ) → IsKept d → n ≡ length d.variables → IsSpokenOver n x → add d x ≡ Ok e → IsKept e
kept_added d e x n k len h is = subst (λ r. IfOk r IsKept) is (add_kept d k x (let P : ℕ → Type 0 = λ m. IsSpokenOver m x in subst P len h))

pub kept_turned : (d e : Draft) → IsKept d → turned_in d d.outer ≡ Ok e → IsKept e
kept_turned d e k is = subst (λ r. IfOk r IsKept) is (turned_kept d d.outer k)

pub kept_ended : (d e : Draft) → IsKept d → ended d ≡ Ok (Going e) → IsKept e
kept_ended d e k is = subst (λ r. IfOk r EndedKept) is (ended_kept d d.outer k)

-- the statements of a session all blocks of which have ended
pub declared_whole : (d : Draft) → IsKept d → d.outer ≡ [] → IsDeclared d.variables (block_from d.body)
declared_whole d k none =
    let P : List OpenBlock → Type 0 = λ outer. IsKept (in_block d outer) in
    let closed : IsKept (in_block d []) = subst P none k in
    record { names = closed.names; distinct = closed.distinct; statements = closed.statements; all_let = closed.all_let }

-- which are those of a program
pub named_whole : (d : Draft) → IsKept d → d.outer ≡ [] → d.named ≡ needs_of (block_from d.body)
named_whole d k none = k.named ∙ ap (λ outer. block_needs (block_from d.body) (named_in outer)) none

pub well_formed_whole : (d : Draft) → IsKept d → d.outer ≡ [] → is_too_long (program_of d) ≡ false → block_gives (block_from d.body) ≤ 64 → IsWellFormed (program_of d)
well_formed_whole d k none short few = record {
  declared = declared_whole d k none;
  few_records = let P : List ℕ → Type 0 = λ rs. length rs ≤ 16 in subst P (named_whole d k none) k.few_named;
  few_variables = k.few_variables;
  few_gives = few;
  short = short;
}
