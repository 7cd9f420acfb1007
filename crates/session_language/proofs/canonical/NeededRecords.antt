-- What holds of all records that are needed holds of those of each statement; and needs only grow.
use Rattle.std.proofs.Common.{◌≡◌, ◌≤◌, ◌==◌, ℕ, List, [], ◌∷◌, length, Bool, true, false, ◌&&◌, nat_lt, if◌then◌else◌, refl, ap, ◌∙◌, arith}
use Rattle.std.specs.List.{list_all}
use Rattle.std.proofs.lemmas.Bool.{and_parts}
use Rattle.std.proofs.lemmas.Bool.Decides.{nat_tests}
use Rattle.bottle_values.specs.declared.version.Version.{Version}
use Rattle.session_meaning.specs.Fitting.{term_fits, test_fits, command_fits, block_fits}
use Rattle.session_meaning.specs.Tree.{Term, Constant, Var, ReadOf, Neg, Bin, Test, Command, LetVar, SetTo, GiveOf, Requires, When, Choice, Loop, Block, Nothing, Then}
use Rattle.session_programs.specs.measures.Needs.{with_record, term_needs, test_needs, command_needs, block_needs}
use Rattle.session_language.proofs.session_reading.ProgramsFit.{and_true, term_within}
use Rattle.session_language.proofs.canonical.TextLines.{command_within}

module _ (v : Version) (ok : ℕ → Bool) where
  abbrev All : List ℕ → Type 0
  All rs = list_all ok rs ≡ true

  with_one : (r : ℕ) (rs : List ℕ) → All (with_record r rs) → (ok r ≡ true) × All rs
  with_one r [] h = ((and_parts (ok r) true h).0, refl)
  with_one r (s ∷ rest) h = by_order (nat_lt r s) (r == s) refl h (with_one r rest)
    where
      by_order : (b c : Bool) → (r == s) ≡ c → All (if b then r ∷ s ∷ rest else if c then s ∷ rest else s ∷ with_record r rest) → (All (with_record r rest) → (ok r ≡ true) × All rest) → (ok r ≡ true) × All (s ∷ rest)
      by_order true c e g more = let parts = and_parts (ok r) (list_all ok (s ∷ rest)) g in (parts.0, parts.1)
      by_order false true e g more = let same : r ≡ s = grind (e, arith, nat_tests) in (ap ok same ∙ (and_parts (ok s) (list_all ok rest) g).0, g)
      by_order false false e g more =
          let parts = and_parts (ok s) (list_all ok (with_record r rest)) g in
          let m = more parts.1 in (m.0, and_true (ok s) (list_all ok rest) parts.0 m.1)

  with_term : (e : Term) (rs : List ℕ) → All (term_needs e rs) → term_fits v e ≡ true → (term_within v ok e ≡ true) × All rs
  with_term (Constant c) rs h f = (f, h)
  with_term (Var k) rs h f = (refl, h)
  with_term (ReadOf r) rs h f = with_one r rs h
  with_term (Neg e) rs h f = with_term e rs h f
  with_term (Bin o a b) rs h f =
      let fits = and_parts (term_fits v a) (term_fits v b) f in
      let right = with_term b (term_needs a rs) h fits.1 in
      let left = with_term a rs right.1 fits.0 in (and_true (term_within v ok a) (term_within v ok b) left.0 right.0, left.1)

  with_test : (t : Test) (rs : List ℕ) → All (test_needs t rs) → test_fits v t ≡ true → (term_within v ok t.left ≡ true) × (term_within v ok t.right ≡ true) × All rs
  with_test t rs h f =
      let fits = and_parts (term_fits v t.left) (term_fits v t.right) f in
      let right = with_term t.right (term_needs t.left rs) h fits.1 in
      let left = with_term t.left rs right.1 fits.0 in (left.0, right.0, left.1)

  mutual
    pub with_command : (c : Command) (rs : List ℕ) → All (command_needs c rs) → command_fits v c ≡ true → command_within v ok c × All rs
    with_command (LetVar k e) rs h f = with_term e rs h f
    with_command (SetTo r e) rs h f = let m = with_term e (with_record r rs) h f in let n = with_one r rs m.1 in ((n.0, m.0), n.1)
    with_command (GiveOf e) rs h f = with_term e rs h f
    with_command (Requires t code) rs h f = let m = with_test t rs h f in ((m.0, m.1), m.2)
    with_command (When t b) rs h f =
        let fits = and_parts (test_fits v t) (block_fits v b) f in let m = with_test t rs (with_block b (test_needs t rs) h fits.1) fits.0 in ((m.0, m.1), m.2)
    with_command (Choice t a b) rs h f =
        let fits = and_parts (test_fits v t) (block_fits v a && block_fits v b) f in
        let both = and_parts (block_fits v a) (block_fits v b) fits.1 in
        let m = with_test t rs (with_block a (test_needs t rs) (with_block b (block_needs a (test_needs t rs)) h both.1) both.0) fits.0 in ((m.0, m.1), m.2)
    with_command (Loop n b) rs h f = (tt, with_block b rs h f)

    pub with_block : (b : Block) (rs : List ℕ) → All (block_needs b rs) → block_fits v b ≡ true → All rs
    with_block Nothing rs h f = h
    with_block (Then c rest) rs h f =
        let fits = and_parts (command_fits v c) (block_fits v rest) f in (with_command c rs (with_block rest (command_needs c rs) h fits.1) fits.0).1

one_longer : (r : ℕ) (rs : List ℕ) → length rs ≤ length (with_record r rs)
one_longer r [] = omega arith
one_longer r (s ∷ rest) = by_order (nat_lt r s) (r == s) (one_longer r rest)
  where
    by_order : (b c : Bool) → length rest ≤ length (with_record r rest) → length (s ∷ rest) ≤ length (if b then r ∷ s ∷ rest else if c then s ∷ rest else s ∷ with_record r rest)
    by_order true c h = omega arith
    by_order false true h = omega arith
    by_order false false h = omega arith

term_longer : (e : Term) (rs : List ℕ) → length rs ≤ length (term_needs e rs)
term_longer (Constant v) rs = omega arith
term_longer (Var k) rs = omega arith
term_longer (ReadOf r) rs = one_longer r rs
term_longer (Neg e) rs = term_longer e rs
term_longer (Bin o a b) rs = let left = term_longer a rs in let right = term_longer b (term_needs a rs) in omega arith

test_longer : (t : Test) (rs : List ℕ) → length rs ≤ length (test_needs t rs)
test_longer t rs = let left = term_longer t.left rs in let right = term_longer t.right (term_needs t.left rs) in omega arith

mutual
  pub command_longer : (c : Command) (rs : List ℕ) → length rs ≤ length (command_needs c rs)
  command_longer (LetVar k e) rs = term_longer e rs
  command_longer (SetTo r e) rs = let one = one_longer r rs in let more = term_longer e (with_record r rs) in omega arith
  command_longer (GiveOf e) rs = term_longer e rs
  command_longer (Requires t code) rs = test_longer t rs
  command_longer (When t b) rs = let one = test_longer t rs in let more = block_longer b (test_needs t rs) in omega arith
  command_longer (Choice t a b) rs =
      let one = test_longer t rs in
      let two = block_longer a (test_needs t rs) in
      let more = block_longer b (block_needs a (test_needs t rs)) in omega arith
  command_longer (Loop n b) rs = block_longer b rs

  pub block_longer : (b : Block) (rs : List ℕ) → length rs ≤ length (block_needs b rs)
  block_longer Nothing rs = omega arith
  block_longer (Then c rest) rs = let one = command_longer c rs in let more = block_longer rest (command_needs c rs) in omega arith
