-- Under version 2 every session fits.
use Rattle.std.proofs.Common.{◌≡◌, true, refl, ap, ◌∙◌, ◌&&◌}
use Rattle.bottle_values.specs.declared.version.Version.TheVariants.{Two}
use Rattle.session_meaning.specs.Tree.{Term, Constant, Var, ReadOf, Neg, Bin, Test, Command, LetVar, SetTo, GiveOf, Requires, When, Choice, Loop, Block, Nothing, Then}
use Rattle.session_meaning.specs.Fitting.{term_fits, test_fits, command_fits, block_fits}

term_fits_two : (e : Term) → term_fits Two e ≡ true
term_fits_two (Constant v) = refl
term_fits_two (Var k) = refl
term_fits_two (ReadOf r) = refl
term_fits_two (Neg e) = term_fits_two e
term_fits_two (Bin op a b) = ap (λ x. x && term_fits Two b) (term_fits_two a) ∙ term_fits_two b

test_fits_two : (t : Test) → test_fits Two t ≡ true
test_fits_two t = ap (λ x. x && term_fits Two t.right) (term_fits_two t.left) ∙ term_fits_two t.right

mutual
  command_fits_two : (c : Command) → command_fits Two c ≡ true
  command_fits_two (LetVar k e) = term_fits_two e
  command_fits_two (SetTo r e) = term_fits_two e
  command_fits_two (GiveOf e) = term_fits_two e
  command_fits_two (Requires t code) = test_fits_two t
  command_fits_two (When t b) = ap (λ x. x && block_fits Two b) (test_fits_two t) ∙ all_fit_two b
  command_fits_two (Choice t a b) = ap (λ x. x && (block_fits Two a && block_fits Two b)) (test_fits_two t) ∙ ap (λ x. x && block_fits Two b) (all_fit_two a) ∙ all_fit_two b
  command_fits_two (Loop n b) = all_fit_two b

  pub all_fit_two : (b : Block) → block_fits Two b ≡ true
  all_fit_two Nothing = refl
  all_fit_two (Then c rest) = ap (λ x. x && block_fits Two rest) (command_fits_two c) ∙ all_fit_two rest
