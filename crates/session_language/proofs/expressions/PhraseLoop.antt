-- An expression within a line, one token after another.
use Rattle.std.proofs.Common.{◌≡◌, ℕ, List, [], ◌∷◌, ◌++◌, Bool, true, false, ◌&&◌, if◌then◌else◌, Option, Some, None, option_map, refl, sym, ap, ◌∙◌, append_assoc}
use Rattle.std.proofs.lemmas.List.{append-nil}
use Rattle.std.specs.List.{list_all}
use Rattle.session_meaning.specs.declared.node.Node.{Node}
use Rattle.session_language.specs.declared.lexer.Piece as code_piece
use Rattle.session_language.specs.declared.summary.Summary.{Summary}
use Rattle.session_language.specs.Lexer.{Piece}
use Rattle.session_language.specs.Spelling.{AText, Token, Leaf}
use Rattle.session_meaning.specs.refinement.Postfix.{postfix}
use Rattle.session_language.specs.Parse.{Part, State, take, take_all, and_take, finished, start}
use Rattle.session_language.specs.Names.{Scope, placed, token_variable, token_record, knows_variables, knows_records}
use Rattle.session_language.specs.refinement.PlacedTokens.{Placed, element_of, placed_of}
use Rattle.session_language.specs.refinement.PostfixBuilder.{Build, emit, ended, fresh_build}
use Rattle.session_language.specs.Phrase.{Run, run, with_token, stop_at, Phrase, phrase_of, phrase_in, phrase_at, stopped, Reads}
use Rattle.session_language.proofs.expressions.BuilderRefinesParser.{build, taken_alike, ended_alike, depth_of, ending}

abbrev Told : Type 0
Told = Option (Phrase × List Piece)

-- what is left of the run, read after these tokens
abbrev from_run : List Token → State → Option Run → Told
from_run front s None = None
from_run front s (Some r) = phrase_of (front ++ r.tokens) r.rest (finished (take_all s r.tokens))

abbrev further : List Token → List Token → List Piece → Option State → Told
further front ts rest o = phrase_of (front ++ ts) rest (finished (and_take o (λ u. take_all u ts)))

run_more : (front : List Token) (s u : State) (t : Token) (o : Option Run) → take s t ≡ Some u → from_run front s (with_token t o) ≡ from_run (front ++ t ∷ []) u o
run_more front s u t None e = refl
run_more front s u t (Some r) e =
    ap (λ (x : Option State). phrase_of (front ++ t ∷ r.tokens) r.rest (finished (and_take x (λ v. take_all v r.tokens)))) e
    ∙ ap (λ (ts : List Token). phrase_of ts r.rest (finished (take_all u r.tokens))) (sym (append_assoc front (t ∷ []) r.tokens))

run_none : (front : List Token) (s : State) (t : Token) (o : Option Run) → take s t ≡ None → from_run front s (with_token t o) ≡ None
run_none front s t None e = refl
run_none front s t (Some r) e = ap (λ (x : Option State). phrase_of (front ++ t ∷ r.tokens) r.rest (finished (and_take x (λ v. take_all v r.tokens)))) e

all_more : (p : Token → Bool) (ts : List Token) (t : Token) → list_all p (ts ++ t ∷ []) ≡ (list_all p ts && p t)
all_more p [] t = by_case (p t)
  where
    by_case : (b : Bool) → (b && true) ≡ b
    by_case true = refl
    by_case false = refl
all_more p (x ∷ xs) t = by_case (p x) (all_more p xs t)
  where
    by_case : (b : Bool) → list_all p (xs ++ t ∷ []) ≡ (list_all p xs && p t) → (b && list_all p (xs ++ t ∷ [])) ≡ ((b && list_all p xs) && p t)
    by_case true e = e
    by_case false e = refl

-- where the loop stands: these tokens have been taken, and what is left makes the whole
pub record Going (sc : Scope) (b : Build) (variables records : Bool) (left : List Piece) (all : Told) : Type 0 where
  pub front : List Token
  pub state : State
  pub is : b ≡ build sc state
  pub variables_are : variables ≡ knows_variables sc front
  pub records_are : records ≡ knows_records sc front
  pub so_far : from_run front state (run sc.plan.version false left) ≡ all

start_run : (o : Option Run) → from_run [] start o ≡ phrase_in o
start_run None = refl
start_run (Some r) = refl

pub begun : (sc : Scope) (b : Build) (ps : List Piece) → b ≡ fresh_build → Going sc b true true ps (phrase_at sc.plan.version ps)
unfolding phrase_at
begun sc b ps e = record { front = []; state = start; is = e; variables_are = refl; records_are = refl; so_far = start_run (run sc.plan.version false ps) }

some_taken : (sc : Scope) (o : Option State) (b : Build) → option_map (build sc) o ≡ Some b → (u : State) × (o ≡ Some u) × (b ≡ build sc u)
some_taken sc None b e = (cc)
some_taken sc (Some u) b e = let same : build sc u ≡ b = (cc) in (u, refl, sym same)

none_taken : (sc : Scope) (o : Option State) → option_map (build sc) o ≡ None → o ≡ None
none_taken sc None e = refl
none_taken sc (Some u) e = (cc)

module _ (sc : Scope) (b : Build) (variables records : Bool) (left : List Piece) (all : Told) (g : Going sc b variables records left all) where
  alike : (t : Token) → emit b (element_of sc t) ≡ option_map (build sc) (take g.state t)
  alike t = ap (λ (x : Build). emit x (element_of sc t)) g.is ∙ taken_alike sc g.state t

  pub one_more : (t : Token) (next : Build) (after : List Piece) → run sc.plan.version false left ≡ with_token t (run sc.plan.version false after) → emit b (element_of sc t) ≡ Some next
      → Going sc next (variables && token_variable sc t) (records && token_record sc t) after all
  one_more t next after told e =
      let f = some_taken sc (take g.state t) next (sym (alike t) ∙ e) in
      record {
        front = g.front ++ t ∷ [];
        state = f.0;
        is = f.2;
        variables_are = ap (λ x. x && token_variable sc t) g.variables_are ∙ sym (all_more (token_variable sc) g.front t);
        records_are = ap (λ x. x && token_record sc t) g.records_are ∙ sym (all_more (token_record sc) g.front t);
        so_far = sym (run_more g.front g.state f.0 t (run sc.plan.version false after) f.1) ∙ ap (from_run g.front g.state) (sym told) ∙ g.so_far;
      }

  and_true : (a : Bool) → (a && true) ≡ a
  and_true true = refl
  and_true false = refl

  -- a text knows its names
  pub text_taken : (bytes : List ℕ) (next : Build) (after : List Piece) → run sc.plan.version false left ≡ with_token (Leaf (AText bytes)) (run sc.plan.version false after) → emit b (element_of sc (Leaf (AText bytes))) ≡ Some next → Going sc next variables records after all
  text_taken bytes next after told e =
      let m = one_more (Leaf (AText bytes)) next after told e in
      record {
        front = m.front;
        state = m.state;
        is = m.is;
        variables_are = sym (and_true variables) ∙ m.variables_are;
        records_are = sym (and_true records) ∙ m.records_are;
        so_far = m.so_far;
      }

  pub no_more : (t : Token) (after : List Piece) → run sc.plan.version false left ≡ with_token t (run sc.plan.version false after) → emit b (element_of sc t) ≡ None → all ≡ None
  no_more t after told e =
      let f = none_taken sc (take g.state t) (sym (alike t) ∙ e) in
      sym g.so_far ∙ ap (from_run g.front g.state) told ∙ run_none g.front g.state t (run sc.plan.version false after) f

  pub wrong : run sc.plan.version false left ≡ None → all ≡ None
  wrong told = sym g.so_far ∙ ap (from_run g.front g.state) told

  ends : ended b ≡ option_map (ending sc) (finished (Some g.state))
  ends = ap ended g.is ∙ ended_alike sc g.state

  stops : (rest : List Piece) → run sc.plan.version false left ≡ stop_at rest → all ≡ phrase_of g.front rest (finished (Some g.state))
  stops rest told = sym g.so_far ∙ ap (from_run g.front g.state) told ∙ ap (λ (ts : List Token). phrase_of ts rest (finished (Some g.state))) (append-nil g.front)

  pub stopped_none : (rest : List Piece) → run sc.plan.version false left ≡ stop_at rest → ended b ≡ None → all ≡ None
  stopped_none rest told e = by_end (finished (Some g.state)) (sym ends ∙ e) (stops rest told)
    where
      by_end : (o : Option Part) → option_map (ending sc) o ≡ None → all ≡ phrase_of g.front rest o → all ≡ None
      by_end None h k = k
      by_end (Some x) h k = (cc)

  pub stopped_some : (p : Option code_piece.Piece) (ps : List Piece) (d : ℕ) (nodes : List Node) → run sc.plan.version false left ≡ stop_at (stopped p ps) → ended b ≡ Some (d, nodes)
      → Reads (Some (record { depth = d; knows_variables = variables; knows_records = records }, p)) sc nodes all ps
  stopped_some p ps d nodes told e = by_end (finished (Some g.state)) (sym ends ∙ e) (stops (stopped p ps) told)
    where
      by_end : (o : Option Part) → option_map (ending sc) o ≡ Some (d, nodes) → all ≡ phrase_of g.front (stopped p ps) o
          → Reads (Some (record { depth = d; knows_variables = variables; knows_records = records }, p)) sc nodes all ps
      by_end None h k = (cc)
      by_end (Some x) h k =
          let pair : ◌≡◌ {A = ℕ × List Node} (depth_of x, postfix (placed sc x.tree)) (d, nodes) = (cc) in
          let is_d : d ≡ depth_of x = ap (λ (y : ℕ × List Node). y.0) (sym pair) in
          let is_n : nodes ≡ postfix (placed sc x.tree) = ap (λ (y : ℕ × List Node). y.1) (sym pair) in
          (record { tokens = g.front; tree = x.tree; depth = x.depth }, k, (is_n, summary_is (depth_of x) is_d))
        where
          summary_is : (n : ℕ) → d ≡ n → ◌≡◌ {A = Summary} (record { depth = d; knows_variables = variables; knows_records = records }) (record { depth = n; knows_variables = knows_variables sc g.front; knows_records = knows_records sc g.front })
          summary_is n h = rw (h, g.variables_are, g.records_are) refl

-- the same of what the code answers for a token
pub refused : (sc : Scope) (b next : Build) (t : Token) (p : Placed) (ok : Bool) → p ≡ placed_of sc t → emit b p.element ≡ (if ok then Some next else None) → ok ≡ false → emit b (element_of sc t) ≡ None
refused sc b next t p ok is took e = ap (λ (q : Placed). emit b q.element) (sym is) ∙ took ∙ ap (λ o. if o then Some next else None) e

pub accepted : (sc : Scope) (b next : Build) (t : Token) (p : Placed) (ok : Bool) → p ≡ placed_of sc t → emit b p.element ≡ (if ok then Some next else None) → ok ≡ true → emit b (element_of sc t) ≡ Some next
accepted sc b next t p ok is took e = ap (λ (q : Placed). emit b q.element) (sym is) ∙ took ∙ ap (λ o. if o then Some next else None) e

pub goes_on : (sc : Scope) (b : Build) (v v' r r' : Bool) (t : Token) (p : Placed) (left : List Piece) (all : Told) → p ≡ placed_of sc t → v' ≡ (v && p.knows_variable) → r' ≡ (r && p.knows_record)
    → Going sc b (v && token_variable sc t) (r && token_record sc t) left all → Going sc b v' r' left all
goes_on sc b v v' r r' t p left all is hv hr g = record {
  front = g.front;
  state = g.state;
  is = g.is;
  variables_are = hv ∙ ap (λ (q : Placed). v && q.knows_variable) is ∙ g.variables_are;
  records_are = hr ∙ ap (λ (q : Placed). r && q.knows_record) is ∙ g.records_are;
  so_far = g.so_far;
}
