-- Statements with their names in their places.
use Rattle.std.proofs.Common.{◌≡◌, ℕ, min, max, List, ◌∷◌, Bool, true, false, not, ◌&&◌, ◌||◌, nat_lt, Option, Some, None, Result, Ok, Err, option_map, option_and_then, refl, sym, ap, ◌∙◌, arith}
use Rattle.std.proofs.lemmas.Bool.Decides.{nat_tests}
use Rattle.std.specs.Option.{ok_or}
use Rattle.office_map.specs.PlanText.{◌>>=◌, ◌>>◌, refuse_if}
use Rattle.bottle_values.specs.declared.version.Version.{Version}
use Rattle.session_meaning.specs.declared.node.Node.{Node}
use Rattle.session_meaning.specs.declared.node.Comparison.{Comparison}
use Rattle.session_language.specs.declared.summary.Summary.{Summary}
use Rattle.session_language.specs.declared.fault.SessionRule.{SessionRule}
use Rattle.session_language.specs.declared.fault.SessionRule.TheVariants.{Syntax, UnknownName, UnknownRecord, TooDeep}
use Rattle.session_meaning.specs.Tree.{Term, Test}
use Rattle.session_meaning.specs.refinement.Postfix.{postfix, tree_of, tree_of-postfix, IsPostfix}
use Rattle.session_language.specs.declared.lexer.Symbol.{Symbol}
use Rattle.session_language.specs.declared.keyword.Keyword.TheVariants.{Require, If}
use Rattle.session_language.specs.Lexer.{Piece, AWord, ASymbol}
use Rattle.session_language.specs.Phrase.{Phrase, phrase_at, summary_of, Keeps}
use Rattle.session_language.specs.Names.{Scope, placed}
use Rattle.session_language.specs.Form.{Demands, Asks, comparison_of, else_code, Last, condition, after_left, compared, demand, question, ends_there, phrase_alone}
use Rattle.session_language.specs.Reading.{SpeaksDemand, SpeaksIf, speak}
use Rattle.session_language.specs.refinement.ResolvedStatements.{judged, spoken_after}

pub is_postfix : (nodes : List Node) (e : Term) → nodes ≡ postfix e → IsPostfix nodes
is_postfix nodes e h = rw h (ap postfix (tree_of-postfix e))

pub its_tree : (nodes : List Node) (e : Term) → nodes ≡ postfix e → tree_of nodes ≡ e
its_tree nodes e h = ap tree_of h ∙ tree_of-postfix e

-- 33 stands for all that is deeper than 32
capped : (d : ℕ) → nat_lt 32 (min 33 d) ≡ nat_lt 32 d
capped d = grind (arith, nat_tests)

abbrev verdict : {A : Type 0} → Bool → Bool → Bool → A → Result A SessionRule
verdict v r deep x = do
  refuse_if (not v) UnknownName
  refuse_if (not r) UnknownRecord
  refuse_if deep TooDeep
  Ok x

same_verdict : {A : Type 0} (v r deep : Bool) (x : A) (b : Result (Unit {0}) SessionRule) → b ≡ verdict v r deep tt → (b ≡ Ok tt → verdict v r deep x ≡ Ok x) × ((rule : SessionRule) → b ≡ Err rule → verdict v r deep x ≡ Err rule)
same_verdict true true true x b h = (λ e. (cc), λ rule e. (cc))
same_verdict true true false x b h = (λ e. refl, λ rule e. (cc))
same_verdict true false deep x b h = (λ e. (cc), λ rule e. (cc))
same_verdict false r deep x b h = (λ e. (cc), λ rule e. (cc))

judged_is : (sc : Scope) (e : Phrase) (x : Summary) → x ≡ summary_of sc e → judged x ≡ verdict (summary_of sc e).knows_variables (summary_of sc e).knows_records (nat_lt 32 e.depth) tt
judged_is sc e x h = ap judged h ∙ ap (λ b. verdict (summary_of sc e).knows_variables (summary_of sc e).knows_records b tt) (capped e.depth)

capped_both : (a b : ℕ) → nat_lt 32 (max (min 33 a) (min 33 b)) ≡ (nat_lt 32 a || nat_lt 32 b)
capped_both a b = by_case (nat_lt 32 a) (nat_lt 32 b) refl refl
  where
    by_case : (p q : Bool) → nat_lt 32 a ≡ p → nat_lt 32 b ≡ q → nat_lt 32 (max (min 33 a) (min 33 b)) ≡ (p || q)
    by_case true q h k = grind (arith, nat_tests)
    by_case false true h k = grind (arith, nat_tests)
    by_case false false h k = grind (arith, nat_tests)

abbrev together : Summary → Summary → Summary
together x y = record { depth = max x.depth y.depth; knows_variables = x.knows_variables && y.knows_variables; knows_records = x.knows_records && y.knows_records }

-- what a phrase was read as, before these pieces
abbrev pub Read : Summary → Scope → List Node → List Piece → List Piece → Type 0
Read x sc nodes ps rest = (e : Phrase) × (phrase_at sc.plan.version ps ≡ Some (e, rest)) × Keeps x sc nodes e

-- the left side of a condition, and its comparison
module _ (v : Version) (last : Last) (ps ps1 rest1 : List Piece) (s : Symbol) (c : Comparison) where
  pub left_read : (l : Phrase) → phrase_at v ps ≡ Some (l, rest1) → rest1 ≡ ASymbol s ∷ ps1 → comparison_of s ≡ Some c → condition v last ps ≡ option_and_then (last l c) (phrase_at v ps1)
  left_read l first front compares = ap (option_and_then (after_left v last)) first ∙ ap (λ rest. after_left v last (l, rest)) front ∙ ap (λ o. compared v last l o ps1) compares

-- what is told of two sides together
module _ (sc : Scope) (l r : Phrase) (x y : Summary) (ls rs : List Node) (kl : Keeps x sc ls l) (kr : Keeps y sc rs r) (judged_ok : judged (together x y) ≡ Ok tt) where
  verdict_is : judged (together x y) ≡ verdict ((summary_of sc l).knows_variables && (summary_of sc r).knows_variables) ((summary_of sc l).knows_records && (summary_of sc r).knows_records) (nat_lt 32 l.depth || nat_lt 32 r.depth) tt
  verdict_is =
      ap (λ (z : Summary). judged (together z y)) kl.1 ∙ ap (λ (z : Summary). judged (together (summary_of sc l) z)) kr.1
      ∙ ap (λ b. verdict ((summary_of sc l).knows_variables && (summary_of sc r).knows_variables) ((summary_of sc l).knows_records && (summary_of sc r).knows_records) b tt) (capped_both l.depth r.depth)

  both_told : {A : Type 0} (z : A) → verdict ((summary_of sc l).knows_variables && (summary_of sc r).knows_variables) ((summary_of sc l).knows_records && (summary_of sc r).knows_records) (nat_lt 32 l.depth || nat_lt 32 r.depth) z ≡ Ok z
  both_told z = (same_verdict _ _ (nat_lt 32 l.depth || nat_lt 32 r.depth) z (judged (together x y)) verdict_is).0 judged_ok

  module _ (c : Comparison) (el er : Term) (is_l : el ≡ tree_of ls) (is_r : er ≡ tree_of rs) where
    abbrev read_test : Test
    read_test = record { left = placed sc l.tree; comparison = c; right = placed sc r.tree }

    abbrev built_test : Test
    built_test = record { left = el; comparison = c; right = er }

    same_test : read_test ≡ built_test
    same_test =
        ap (λ (e : Term). record { left = e; comparison = c; right = placed sc r.tree }) (sym (is_l ∙ its_tree ls (placed sc l.tree) kl.0))
        ∙ ap (λ (e : Term). record { left = el; comparison = c; right = e }) (sym (is_r ∙ its_tree rs (placed sc r.tree) kr.0))

    pub demand_told : (code : ℕ) → speak sc (Demands l c r code) ≡ Ok (SpeaksDemand built_test code)
    demand_told code = both_told (SpeaksDemand read_test code) ∙ ap (λ (t : Test). Ok (SpeaksDemand t code)) same_test

    pub question_told : speak sc (Asks l c r) ≡ Ok (SpeaksIf built_test)
    question_told = both_told (SpeaksIf read_test) ∙ ap (λ (t : Test). Ok (SpeaksIf t)) same_test

-- a requirement
module _ (sc : Scope) (ps ps1 ps2 rest1 rest2 : List Piece) (s : Symbol) (c : Comparison) (w : List ℕ) (code : ℕ) (x y : Summary) (ls rs : List Node) where
  pub demand_spoken : Read x sc ls ps rest1 → rest1 ≡ ASymbol s ∷ ps1 → comparison_of s ≡ Some c → Read y sc rs ps1 rest2 → rest2 ≡ AWord w ∷ ps2 → else_code (AWord w ∷ ps2) ≡ Some code → judged (together x y) ≡ Ok tt
      → (el er : Term) → el ≡ tree_of ls → er ≡ tree_of rs → spoken_after sc Require ps ≡ Ok (SpeaksDemand (record { left = el; comparison = c; right = er }) code)
  demand_spoken (l, first, kl) front compares (r, second, kr) back coded judged_ok el er is_l is_r =
      let one : condition sc.plan.version demand ps ≡ option_and_then (demand l c) (phrase_at sc.plan.version ps1) = left_read sc.plan.version demand ps ps1 rest1 s c l first front compares in
      let two : option_and_then (demand l c) (phrase_at sc.plan.version ps1) ≡ option_map (Demands l c r) (else_code rest2) = ap (option_and_then (demand l c)) second in
      let three : option_map (Demands l c r) (else_code rest2) ≡ Some (Demands l c r code) = ap (λ rest. option_map (Demands l c r) (else_code rest)) back ∙ ap (option_map (Demands l c r)) coded in
      ap (λ o. ok_or o Syntax >>= speak sc) (one ∙ two ∙ three) ∙ demand_told sc l r x y ls rs kl kr judged_ok c el er is_l is_r code

-- the condition of an `if`
module _ (sc : Scope) (ps ps1 rest1 : List Piece) (s : Symbol) (c : Comparison) (x y : Summary) (ls rs : List Node) where
  alone_asked : (l : Phrase) (o : Option (Phrase × List Piece)) (r : Phrase) → option_and_then ends_there o ≡ Some r → option_and_then (question l c) o ≡ Some (Asks l c r)
  alone_asked l None r h = absurd (cc)
  alone_asked l (Some z) r h = ap (option_map (Asks l c)) h

  pub question_spoken : Read x sc ls ps rest1 → rest1 ≡ ASymbol s ∷ ps1 → comparison_of s ≡ Some c → (r : Phrase) → phrase_alone sc.plan.version ps1 ≡ Some r → Keeps y sc rs r → judged (together x y) ≡ Ok tt
      → (el er : Term) → el ≡ tree_of ls → er ≡ tree_of rs → spoken_after sc If ps ≡ Ok (SpeaksIf (record { left = el; comparison = c; right = er }))
  question_spoken (l, first, kl) front compares r second kr judged_ok el er is_l is_r =
      ap (λ o. ok_or o Syntax >>= speak sc) (left_read sc.plan.version question ps ps1 rest1 s c l first front compares ∙ alone_asked l (phrase_at sc.plan.version ps1) r second)
      ∙ question_told sc l r x y ls rs kl kr judged_ok c el er is_l is_r
