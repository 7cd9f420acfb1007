use Rattle.std.proofs.Common.{◌≡◌, ◌∙◌, List, ℕ, Option, Some, None, option_map, unwrap_or, codes, ap, refl}
use Rattle.std.specs.Borrow.{Bor}
use Rattle.command_words.proofs.command_line.word.Goals as goal

now_or : (o : Option (Bor (List ℕ))) (d : Bor (List ℕ)) → (unwrap_or o d).now ≡ unwrap_or (option_map (λ s. s.now) o) d.now
now_or None d = refl
now_or (Some s) d = refl

pub returns : goal.returns
returns c = ap (λ s. s.now) c.unwrap_or.ensures ∙ now_or c.given.result _ ∙ ap (λ o. unwrap_or o (codes "-")) c.given.ensures
