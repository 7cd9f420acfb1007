-- The bytes in which a text is kept.
use Rattle.std.specs.Prelude.{◌≡◌, ℕ, ◌-◌, List, ◌++◌, length, replicate, take, IsTrue}
use Rattle.std.proofs.Common.{ap, sym, ◌∙◌}
use Rattle.bottle_values.specs.Texts.{is_text}
use Rattle.bottle_values.specs.declared.text.Text.TheInside.{Inside}

-- behind a text stand zeros
abbrev pub padded : List ℕ → List ℕ
padded bytes = bytes ++ replicate (64 - length bytes) 0

-- a text that is padded gives its fields back
pub given_back : (a : Inside) → (length (take a.len a.bytes) ≡ a.len) × (a.bytes ≡ padded (take a.len a.bytes)) × IsTrue (is_text (take a.len a.bytes)) → record { len = length (take a.len a.bytes); bytes = padded (take a.len a.bytes) } ≡ a
given_back a h = ap (λ n. record { len = n; bytes = padded (take a.len a.bytes) }) h.0 ∙ ap (λ b. record { len = a.len; bytes = b }) (sym h.1)
