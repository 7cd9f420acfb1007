-- What follows of the lines of a text that say something.
use Rattle.std.proofs.Common.{◌≡◌, ℕ, suc, ◌+◌, List, [], ◌∷◌, ◌++◌, Bool, true, false, slice_get, Some, if◌then◌else◌, refl, subst, arith}
use Rattle.text_lines.specs.Text.{lines, says_something, statements_from, statements}
use Rattle.office_map.specs.RefusedLines.{SaysSomethingAt}

-- of lines that are numbered from n on, one that says something
record IsAmong (n : ℕ) (ls : List (List ℕ)) (l : ℕ × List ℕ) : Type 0 where
  before : ℕ
  number : l.0 ≡ n + before
  is : slice_get ls before ≡ Some l.1
  says : says_something l.1 ≡ true

abbrev AreAmong : ℕ → List (List ℕ) → List (ℕ × List ℕ) → Type 0
AreAmong n ls [] = Unit {0}
AreAmong n ls (l ∷ more) = IsAmong n ls l × AreAmong n ls more

one_later : (n : ℕ) (line : List ℕ) (ls : List (List ℕ)) (ks : List (ℕ × List ℕ)) → AreAmong (n + 1) ls ks → AreAmong n (line ∷ ls) ks
one_later n line ls [] h = tt
one_later n line ls (l ∷ more) h =
    let i = h.0 in (record { before = suc i.before; number = omega (arith, i.number); is = i.is; says = i.says }, one_later n line ls more h.1)

are_among : (n : ℕ) (ls : List (List ℕ)) → AreAmong n ls (statements_from n ls)
are_among n [] = tt
are_among n (line ∷ more) = by_line (says_something line) refl (one_later n line more (statements_from (n + 1) more) (are_among (n + 1) more))
  where
    by_line : (v : Bool) → says_something line ≡ v → AreAmong n (line ∷ more) (statements_from (n + 1) more)
        → AreAmong n (line ∷ more) (if v then (n, line) ∷ statements_from (n + 1) more else statements_from (n + 1) more)
    by_line true e h = (record { before = 0; number = omega arith; is = refl; says = e }, h)
    by_line false e h = h

one_among : (n : ℕ) (ls : List (List ℕ)) (before : List (ℕ × List ℕ)) (l : ℕ × List ℕ) (after : List (ℕ × List ℕ)) → AreAmong n ls (before ++ l ∷ after) → IsAmong n ls l
one_among n ls [] l after h = h.0
one_among n ls (k ∷ before) l after h = one_among n ls before l after h.1

pub says_at : (text : List ℕ) (before : List (ℕ × List ℕ)) (l : ℕ × List ℕ) (after : List (ℕ × List ℕ)) → statements text ≡ before ++ l ∷ after → SaysSomethingAt text l.0
says_at text before l after e =
    let P : List (ℕ × List ℕ) → Type 0 = AreAmong 1 (lines text) in
    let i = one_among 1 (lines text) before l after (subst P e (are_among 1 (lines text))) in
    record { before = i.before; number = omega (arith, i.number); line = l.1; is = i.is; says = i.says }
