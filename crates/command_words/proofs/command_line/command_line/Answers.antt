use Rattle.std.proofs.Common.{◌≡◌, ◌∙◌, List, [], ◌∷◌, Option, Some, None, Result, Ok, Err, inl, inr, option_map, unwrap_or, map, ap, sym, refl, true, false, subst, codes}
use Rattle.std.specs.Prelude.{IsErr, IsErrAnd}
use Rattle.std.proofs.lemmas.Option.{none-some}
use Rattle.std.proofs.lemmas.Result.{IfOk-weaker}
use Rattle.std.specs.Str.{bytes_eq}
use Rattle.std.specs.String.{string_bytes}
use Rattle.clap.specs.Kinds.{or_else}
use Rattle.clap.specs.Words.{App, FailsBy, HasKind, Kinds, Row, Text, app_of, fault_of, found_of, is_simple, is_simple_and_free, rows_of, subcommand_of, subcommand_rows_of}
use Rattle.clap.specs.declared.error.Error.{Error}
use Rattle.clap.proofs.OnLiterals.{clap_on_literals}
use Rattle.command_words.specs.declared.command_line.Request.{Request}
use Rattle.command_words.specs.CommandLine.{Asks, Requests, arguments_of, command_of, given, has_flag, program, store_faults, word_of}
use Rattle.command_words.proofs.command_line.command_line.Goals as goal

is_free : is_simple_and_free program ≡ true
unfolding clap_on_literals
is_free = refl

is_plain : is_simple program ≡ true
unfolding clap_on_literals
is_plain = refl

-- what is said of a command's faults holds of the program's, where it is the program
of_program : (P : Kinds → Type 0) (a : App) (words : List Text) → a ≡ program → (is_simple_and_free a ≡ true → P (fault_of a words)) → P (fault_of program words)
of_program P a words e h = subst (λ b. P (fault_of b words)) e (h (ap is_simple_and_free e ∙ is_free))

-- an error that is handed on has the kind that it had
handed_on : {A : Type 0} (kinds : Kinds) (error : Error) (r : Result A Error) → HasKind kinds error → IsErr r × IsErrAnd r (λ e. e ≡ error) → FailsBy kinds r
handed_on kinds error (Ok x) has is = absurd is.1
handed_on kinds error (Err e) has is = subst (HasKind kinds) (sym is.1) has

-- where the first step fails, its kinds are those of all
first_has : (first next : Kinds) (error : Error) → HasKind first error → HasKind (or_else first next) error
first_has first next error (inl memory) = inl memory
first_has [] next error (inr among) = absurd among
first_has (k ∷ ks) next error (inr among) = inr among

first_fails : {A : Type 0} (first next : Kinds) (error : Error) (r : Result A Error) → IsErrAnd r (λ e. e ≡ error) → FailsBy first r → FailsBy (or_else first next) r
first_fails first next error (Ok x) is by = absurd is
first_fails first next error (Err e) is by = first_has first next e by

-- where it doesn't, they are those of the next
next_fails : {A : Type 0} (first next own : Kinds) (r : Result A Error) → first ≡ [] → next ≡ own → FailsBy own r → FailsBy (or_else first next) r
next_fails first next own r none is by = subst (λ kinds. FailsBy kinds r) (sym (ap (λ f. or_else f next) none ∙ is)) by

first_alone : {A : Type 0} (f : A → Text) (g : A → List Row) (o : Option A) (d : Text) → unwrap_or (option_map (λ (q : Text × List Row). q.0) (option_map (λ b. (f b, g b)) o)) d ≡ unwrap_or (option_map f o) d
first_alone f g None d = refl
first_alone f g (Some b) d = refl

-- the name that was found is that of the rows that were found
named : {A : Type 0} (f : A → Text) (g : A → List Row) (o : Option A) (p : Option (Text × List Row)) (d name : Text)
    → Some name ≡ option_map f o → option_map (λ b. (f b, g b)) o ≡ p → unwrap_or (option_map (λ q. q.0) p) d ≡ name
named f g o p d name e h =
    ap (λ q. unwrap_or (option_map (λ (r : Text × List Row). r.0) q) d) (sym h) ∙ first_alone f g o d ∙ ap (λ q. unwrap_or q d) (sym e)

of_store : (words : List Text) (name : Text) (rows : List Row) → command_of words ≡ name → arguments_of words ≡ Some rows → store_faults (command_of words) (arguments_of words) ≡ store_faults name (Some rows)
of_store words name rows e f = ap (λ n. store_faults n (arguments_of words)) e ∙ ap (store_faults name) f

asked : (words : List Text) (name : Text) (rows : List Row) (r : Request) → command_of words ≡ name → arguments_of words ≡ Some rows → Requests name (Some rows) r → Asks words r
asked words name rows r e f h = subst (λ n. Requests n (arguments_of words) r) (sym e) (subst (λ rs. Requests name rs r) (sym f) h)

no_subcommand : (o p : Option (Text × List Row)) → None ≡ option_map (λ q. q.1) o → o ≡ p → p ≡ None
no_subcommand None p h e = sym e
no_subcommand (Some q) p h e = absurd (none-some q.1 h)

-- without a command it would be serial - -
unasked : (words : List Text) → subcommand_of program words ≡ None
    → (bytes_eq (command_of words) (codes "sim") ≡ false) × (bytes_eq (command_of words) (codes "random") ≡ false) × (bytes_eq (command_of words) (codes "run") ≡ false)
    × (bytes_eq (command_of words) (codes "serve") ≡ false) × (bytes_eq (command_of words) (codes "live") ≡ false) × (bytes_eq (command_of words) (codes "audit") ≡ false)
    × (codes "-" ≡ word_of (codes "PLAN") (arguments_of words)) × (codes "-" ≡ word_of (codes "SESSIONS") (arguments_of words))
    × (None ≡ given (codes "plan") (arguments_of words)) × (has_flag (codes "json") (arguments_of words) ≡ false)
unasked words none =
    let serial : codes "serial" ≡ command_of words = ap (λ o. unwrap_or (option_map (λ (q : Text × List Row). q.0) o) (codes "serial")) (sym none) in
    let nothing : None ≡ arguments_of words = ap (option_map (λ (q : Text × List Row). q.1)) (sym none) in (
      subst (λ n. bytes_eq n (codes "sim") ≡ false) serial refl,
      subst (λ n. bytes_eq n (codes "random") ≡ false) serial refl,
      subst (λ n. bytes_eq n (codes "run") ≡ false) serial refl,
      subst (λ n. bytes_eq n (codes "serve") ≡ false) serial refl,
      subst (λ n. bytes_eq n (codes "live") ≡ false) serial refl,
      subst (λ n. bytes_eq n (codes "audit") ≡ false) serial refl,
      ap (word_of (codes "PLAN")) nothing,
      ap (word_of (codes "SESSIONS")) nothing,
      ap (given (codes "plan")) nothing,
      subst (λ rows. has_flag (codes "json") rows ≡ false) nothing refl,
    )

pub returns-in-Some-clause-request : goal.returns-in-Some-clause-request
returns-in-Some-clause-request c =
    let words : List Text = map string_bytes c.args.words.now in
    let rows = (c.in_ok-matches.ensures.matches (ap is_simple c.in_ok-program.ensures ∙ is_plain)).1 ∙ ap (λ a. subcommand_of a words) c.in_ok-program.ensures in
    let found : arguments_of words ≡ Some (rows_of (found_of c.in-Some.found.now)) = sym (c.in-Some.ensures.rows ∙ ap (option_map (λ p. p.1)) rows) in
    let name = named _ _ _ (subcommand_of program words) _ c.in-Some.name.now c.in-Some.ensures.name rows in
    IfOk-weaker c.requested.result _ _ (λ r. asked words c.in-Some.name.now (rows_of (found_of c.in-Some.found.now)) r name found) c.requested.ensures.request

pub returns-in-Some-clause-faults : goal.returns-in-Some-clause-faults
returns-in-Some-clause-faults c =
    let words : List Text = map string_bytes c.args.words.now in
    let rows = (c.in_ok-matches.ensures.matches (ap is_simple c.in_ok-program.ensures ∙ is_plain)).1 ∙ ap (λ a. subcommand_of a words) c.in_ok-program.ensures in
    let found : arguments_of words ≡ Some (rows_of (found_of c.in-Some.found.now)) = sym (c.in-Some.ensures.rows ∙ ap (option_map (λ p. p.1)) rows) in
    let name : command_of words ≡ c.in-Some.name.now = named _ _ _ (subcommand_of program words) _ c.in-Some.name.now c.in-Some.ensures.name rows in
    next_fails (fault_of program words) _ _ c.requested.result
    (of_program (λ kinds. kinds ≡ []) (app_of c.in_ok-program.field-0) words c.in_ok-program.ensures c.in_ok-matches.ensures.kinds)
    (of_store words c.in-Some.name.now (rows_of (found_of c.in-Some.found.now)) name found) c.requested.ensures.faults

pub returns-in_err-matches-clause-faults : goal.returns-in_err-matches-clause-faults
returns-in_err-matches-clause-faults c =
    let error = c.in_err-matches.field-0.0 in
    let words : List Text = map string_bytes c.args.words.now in
    first_fails (fault_of program words) _ error c.from_residual-in_err-matches.result c.from_residual-in_err-matches.ensures.1
    (handed_on _ error c.from_residual-in_err-matches.result
    (of_program (λ kinds. HasKind kinds error) (app_of c.in_ok-program.field-0) words c.in_ok-program.ensures c.in_err-matches.ensures.kinds) c.from_residual-in_err-matches.ensures)

pub returns-clause-request : goal.returns-clause-request
returns-clause-request c =
    let words : List Text = map string_bytes c.args.words.now in
    let rows = (c.in_ok-matches.ensures.matches (ap is_simple c.in_ok-program.ensures ∙ is_plain)).1 ∙ ap (λ a. subcommand_of a words) c.in_ok-program.ensures in
    unasked words (no_subcommand (subcommand_rows_of c.in_ok-matches.matches) (subcommand_of program words) c.in-None.ensures.rows rows)

-- without a command nothing is said of a store
no_store : (words : List Text) → subcommand_of program words ≡ None → store_faults (command_of words) (arguments_of words) ≡ []
no_store words none =
    let serial : codes "serial" ≡ command_of words = ap (λ o. unwrap_or (option_map (λ (q : Text × List Row). q.0) o) (codes "serial")) (sym none) in
    subst (λ n. store_faults n (arguments_of words) ≡ []) serial refl

pub returns-clause-faults : goal.returns-clause-faults
returns-clause-faults c =
    let words : List Text = map string_bytes c.args.words.now in
    let rows = (c.in_ok-matches.ensures.matches (ap is_simple c.in_ok-program.ensures ∙ is_plain)).1 ∙ ap (λ a. subcommand_of a words) c.in_ok-program.ensures in
    ap (λ f. or_else f (store_faults (command_of words) (arguments_of words)))
    (of_program (λ kinds. kinds ≡ []) (app_of c.in_ok-program.field-0) words c.in_ok-program.ensures c.in_ok-matches.ensures.kinds)
    ∙ no_store words (no_subcommand (subcommand_rows_of c.in_ok-matches.matches) (subcommand_of program words) c.in-None.ensures.rows rows)
