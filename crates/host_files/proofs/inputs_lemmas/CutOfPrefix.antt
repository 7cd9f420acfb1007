-- Cutting what was read of a text, when all or enough of it was read, is as good as cutting the text.
use Rattle.std.proofs.Common.{◌≡◌, ◌≢◌, ◌⊎◌, ◌+◌, ◌≤◌, ◌<◌, ℕ, true, false, nat_lt, List, [], ◌∷◌, ◌++◌, All, length, drop, take, slice_index, codes, refl, sym, subst, ap, ◌∙◌, append_assoc, arith, length-append, inl, inr}
use Rattle.std.proofs.Math.Seq.{take-append_seam}
use Rattle.std.proofs.lemmas.Bool.Decides.{nat_tests}
use Rattle.std.proofs.lemmas.List.{append-nil}
use Rattle.std.proofs.lemmas.List.Elements.{All-head, All-tail, All-from_recursion}
use Rattle.host_files.specs.inputs.Cut.{IsLine, IsCutLine, IsOther, ended, IsCut, at_line, at_last_line, nowhere}
use Rattle.host_files.specs.inputs.Words.{IsReadUpTo}

abbrev NotLf : ℕ → Type 0
NotLf b = b ≢ 10

no_lf : (a x b : List ℕ) → IsLine b → a ++ 10 ∷ x ≡ b → ⊥
no_lf [] x [] line e = absurd (omega (arith, ap length e))
no_lf [] x (c ∷ b) line e = All-head NotLf c b line (sym (ap (λ l. slice_index l 0) e))
no_lf (d ∷ a) x [] line e = absurd (omega (arith, ap length e))
no_lf (d ∷ a) x (c ∷ b) line e = no_lf a x b (All-tail NotLf c b line) (ap (drop 1) e)

cons_same : (c d : ℕ) (a b : List ℕ) → c ≡ d → a ≡ b → c ∷ a ≡ d ∷ b
cons_same c d a b e f = ap (λ k. k ∷ a) e ∙ ap (λ l. d ∷ l) f

-- the first line of a text is one
lines_meet : (a b x y : List ℕ) → IsLine a → IsLine b → a ++ 10 ∷ x ≡ b ++ 10 ∷ y → (a ≡ b) × (x ≡ y)
lines_meet [] [] x y la lb e = (refl, ap (drop 1) e)
lines_meet [] (d ∷ b) x y la lb e = absurd (All-head NotLf d b lb (sym (ap (λ l. slice_index l 0) e)))
lines_meet (c ∷ a) [] x y la lb e = absurd (All-head NotLf c a la (ap (λ l. slice_index l 0) e))
lines_meet (c ∷ a) (d ∷ b) x y la lb e =
    let more = lines_meet a b x y (All-tail NotLf c a la) (All-tail NotLf d b lb) (ap (drop 1) e) in
    (cons_same c d a b (ap (λ l. slice_index l 0) e) more.0, more.1)

-- and bytes without an LF at the front of a text are of its first line
line_within : (a r c y : List ℕ) → IsLine a → a ++ r ≡ c ++ 10 ∷ y → length a ≤ length c
line_within [] r c y line e = omega arith
line_within (b ∷ a) r [] y line e = absurd (All-head NotLf b a line (ap (λ l. slice_index l 0) e))
line_within (b ∷ a) r (d ∷ c) y line e =
    let more : length a ≤ length c = line_within a r c y (All-tail NotLf b a line) (ap (drop 1) e) in omega (arith, more)

dash : ◌≢◌ {A = ℕ} 45 10
dash e = absurd (omega (arith, e))

return : ◌≢◌ {A = ℕ} 13 10
return e = absurd (omega (arith, e))

dashes_are_a_line : IsLine (codes "---")
dashes_are_a_line = All-from_recursion NotLf (codes "---") (dash, (dash, (dash, tt)))

dashes_and_return : IsLine (codes "---" ++ 13 ∷ [])
dashes_and_return = All-from_recursion NotLf (codes "---" ++ 13 ∷ []) (dash, (dash, (dash, (return, tt))))

cut_line : (line : List ℕ) → IsCutLine line → IsLine line
cut_line line (inl e) = subst IsLine (sym e) dashes_are_a_line
cut_line line (inr e) = subst IsLine (sym e) dashes_and_return

cut_line_is_short : (line : List ℕ) → IsCutLine line → length line ≤ 4
cut_line_is_short line (inl e) = rw e (omega arith)
cut_line_is_short line (inr e) = rw e (omega arith)

not_both : (a b : List ℕ) → a ≡ b → IsCutLine a → IsOther b → ⊥
not_both a b e (inl cut) o = o.no_cut (sym e ∙ cut)
not_both a b e (inr cut) o = o.no_cut_either (sym e ∙ cut)

ended_cons : (l : List ℕ) (ls : List (List ℕ)) (rest : List ℕ) → ended (l ∷ ls) ++ rest ≡ l ++ 10 ∷ (ended ls ++ rest)
ended_cons l ls rest =
    append_assoc (l ++ 10 ∷ []) (ended ls) rest ∙ append_assoc l (10 ∷ []) (ended ls ++ rest)

front_cons : (l : List ℕ) (ls : List (List ℕ)) → ended (l ∷ ls) ≡ l ++ 10 ∷ ended ls
front_cons l ls = append_assoc l (10 ∷ []) (ended ls)

-- a first line that is not that of a cut stands before the cut
abbrev AfterLine : (l x f b : List ℕ) → Type 0
AfterLine l x f b = (g : List ℕ) × (f ≡ l ++ 10 ∷ g) × IsCut x g b

peel : (l x f b : List ℕ) → IsOther l → IsCut (l ++ 10 ∷ x) f b → AfterLine l x f b
peel l x f b o (at_line [] line all cut e fe) =
    let same = lines_meet l line x b o.line_itself (cut_line line cut) e in absurd (not_both line l (sym same.0) cut o)
peel l x f b o (at_line (k ∷ ks) line all cut e fe) =
    let k_is : IsOther k = All-head IsOther k ks all in
    let same = lines_meet l k x (ended ks ++ (line ++ 10 ∷ b)) o.line_itself k_is.line_itself (e ∙ ended_cons k ks (line ++ 10 ∷ b)) in
    (ended ks, fe ∙ front_cons k ks ∙ ap (λ a. a ++ 10 ∷ ended ks) (sym same.0), at_line ks line (All-tail IsOther k ks all) cut same.1 refl)
peel l x f b o (at_last_line [] all e fe be) = absurd (no_lf l x (codes "---") dashes_are_a_line e)
peel l x f b o (at_last_line (k ∷ ks) all e fe be) =
    let k_is : IsOther k = All-head IsOther k ks all in
    let same = lines_meet l k x (ended ks ++ codes "---") o.line_itself k_is.line_itself (e ∙ ended_cons k ks (codes "---")) in
    (ended ks, fe ∙ front_cons k ks ∙ ap (λ a. a ++ 10 ∷ ended ks) (sym same.0), at_last_line ks (All-tail IsOther k ks all) same.1 refl be)
peel l x f b o (nowhere [] last all line other e fe be) = absurd (no_lf l x last line e)
peel l x f b o (nowhere (k ∷ ks) last all line other e fe be) =
    let k_is : IsOther k = All-head IsOther k ks all in
    let same = lines_meet l k x (ended ks ++ last) o.line_itself k_is.line_itself (e ∙ ended_cons k ks last) in
    (x, fe, nowhere ks last (All-tail IsOther k ks all) line other same.1 refl be)

abbrev AfterLines : (others : List (List ℕ)) (x f b : List ℕ) → Type 0
AfterLines others x f b = (g : List ℕ) × (f ≡ ended others ++ g) × IsCut x g b

peel_all : (others : List (List ℕ)) (x f b : List ℕ) → All IsOther others → IsCut (ended others ++ x) f b → AfterLines others x f b
peel_all [] x f b all cut = (f, refl, cut)
peel_all (l ∷ ls) x f b all cut =
    let first = peel l (ended ls ++ x) f b (All-head IsOther l ls all) (subst (λ t. IsCut t f b) (ended_cons l ls x) cut) in
    let more = peel_all ls x first.0 b (All-tail IsOther l ls all) first.2 in
    (more.0, first.1 ∙ ap (λ g. l ++ 10 ∷ g) more.1 ∙ sym (ended_cons l ls more.0), more.2)

cut_at_once : (line back g b : List ℕ) → IsCutLine line → IsCut (line ++ 10 ∷ back) g b → (g ≡ []) × (b ≡ back)
cut_at_once line back g b cut (at_line [] other all here e fe) =
    (fe, sym (lines_meet line other back b (cut_line line cut) (cut_line other here) e).1)
cut_at_once line back g b cut (at_line (k ∷ ks) other all here e fe) =
    let k_is : IsOther k = All-head IsOther k ks all in
    let same = lines_meet line k back (ended ks ++ (other ++ 10 ∷ b)) (cut_line line cut) k_is.line_itself (e ∙ ended_cons k ks (other ++ 10 ∷ b)) in
    absurd (not_both line k same.0 cut k_is)
cut_at_once line back g b cut (at_last_line [] all e fe be) = absurd (no_lf line back (codes "---") dashes_are_a_line e)
cut_at_once line back g b cut (at_last_line (k ∷ ks) all e fe be) =
    let k_is : IsOther k = All-head IsOther k ks all in
    let same = lines_meet line k back (ended ks ++ codes "---") (cut_line line cut) k_is.line_itself (e ∙ ended_cons k ks (codes "---")) in
    absurd (not_both line k same.0 cut k_is)
cut_at_once line back g b cut (nowhere [] last all is_line other e fe be) = absurd (no_lf line back last is_line e)
cut_at_once line back g b cut (nowhere (k ∷ ks) last all is_line other e fe be) =
    let k_is : IsOther k = All-head IsOther k ks all in
    let same = lines_meet line k back (ended ks ++ last) (cut_line line cut) k_is.line_itself (e ∙ ended_cons k ks last) in
    absurd (not_both line k same.0 cut k_is)

-- a text of one line without an LF
cut_of_dashes : (g b : List ℕ) → IsCut (codes "---") g b → (g ≡ []) × (b ≡ [])
cut_of_dashes g b (at_line [] line all cut e fe) = absurd (no_lf line b (codes "---") dashes_are_a_line (sym e))
cut_of_dashes g b (at_line (k ∷ ks) line all cut e fe) =
    absurd (no_lf k (ended ks ++ (line ++ 10 ∷ b)) (codes "---") dashes_are_a_line (sym (e ∙ ended_cons k ks (line ++ 10 ∷ b))))
cut_of_dashes g b (at_last_line [] all e fe be) = (fe, be)
cut_of_dashes g b (at_last_line (k ∷ ks) all e fe be) =
    absurd (no_lf k (ended ks ++ codes "---") (codes "---") dashes_are_a_line (sym (e ∙ ended_cons k ks (codes "---"))))
cut_of_dashes g b (nowhere [] last all line other e fe be) = absurd (other (sym e))
cut_of_dashes g b (nowhere (k ∷ ks) last all line other e fe be) =
    absurd (no_lf k (ended ks ++ last) (codes "---") dashes_are_a_line (sym (e ∙ ended_cons k ks last)))

cut_of_a_line : (last g b : List ℕ) → IsLine last → last ≢ codes "---" → IsCut last g b → (g ≡ last) × (b ≡ [])
cut_of_a_line last g b is_line other (at_line [] line all cut e fe) = absurd (no_lf line b last is_line (sym e))
cut_of_a_line last g b is_line other (at_line (k ∷ ks) line all cut e fe) =
    absurd (no_lf k (ended ks ++ (line ++ 10 ∷ b)) last is_line (sym (e ∙ ended_cons k ks (line ++ 10 ∷ b))))
cut_of_a_line last g b is_line other (at_last_line [] all e fe be) = absurd (other e)
cut_of_a_line last g b is_line other (at_last_line (k ∷ ks) all e fe be) =
    absurd (no_lf k (ended ks ++ codes "---") last is_line (sym (e ∙ ended_cons k ks (codes "---"))))
cut_of_a_line last g b is_line other (nowhere others end all line not_cut e fe be) = (fe, be)

-- a line that was begun stands before the cut, or is short
abbrev Begun : (last g : List ℕ) → Type 0
Begun last g = (length last ≤ length g) ⊎ (length last ≤ 4)

longer : (k rest g : List ℕ) (n : ℕ) → n ≤ length k → g ≡ k ++ rest → n ≤ length g
longer k rest g n h e = let size : length g ≡ length k + length rest = ap length e ∙ length-append k rest in omega (arith, size, h)

begun : (last rest g b : List ℕ) → IsLine last → IsCut (last ++ rest) g b → Begun last g
begun last rest g b line (at_line [] other all cut e fe) =
    let within : length last ≤ length other = line_within last rest other b line e in
    let short : length other ≤ 4 = cut_line_is_short other cut in inr (omega (arith, within, short))
begun last rest g b line (at_line (k ∷ ks) other all cut e fe) =
    let within : length last ≤ length k = line_within last rest k (ended ks ++ (other ++ 10 ∷ b)) line (e ∙ ended_cons k ks (other ++ 10 ∷ b)) in
    inl (longer k (10 ∷ ended ks) g (length last) within (fe ∙ front_cons k ks))
begun last rest g b line (at_last_line [] all e fe be) =
    let size : length last + length rest ≡ 3 = sym (length-append last rest) ∙ ap length e in inr (omega (arith, size))
begun last rest g b line (at_last_line (k ∷ ks) all e fe be) =
    let within : length last ≤ length k = line_within last rest k (ended ks ++ codes "---") line (e ∙ ended_cons k ks (codes "---")) in
    inl (longer k (10 ∷ ended ks) g (length last) within (fe ∙ front_cons k ks))
begun last rest g b line (nowhere others end all is_line other e fe be) = inl (longer last rest g (length last) (omega arith) fe)

-- what is known of the cut of a text, where its beginning was cut so
abbrev pub AsGood : ℕ → (front back rest text after : List ℕ) → Type 0
AsGood limit front back rest text after = IsReadUpTo limit text front × (length front ≤ limit → after ≡ back ++ rest)

rest_is_nothing : (n m : ℕ) (rest : List ℕ) → (n ≤ m) ⊎ (rest ≡ []) → m < n → rest ≡ []
rest_is_nothing n m rest (inl h) lt = absurd (omega (arith, h, lt))
rest_is_nothing n m rest (inr h) lt = h

long_or_ended : (limit : ℕ) (ahead front back rest text after : List ℕ) (n l g : ℕ) → (limit + 6 ≤ length ahead) ⊎ (rest ≡ []) → (l ≤ g) ⊎ (l ≤ 4)
    → (rest ≡ [] → AsGood limit front back rest text after) → length ahead ≡ n + l → length front ≡ length ahead → length text ≡ n + g
    → AsGood limit front back rest text after
long_or_ended limit ahead front back rest text after n l g (inr none) h f a b c = f none
long_or_ended limit ahead front back rest text after n l g (inl much) (inl h) f a b c =
    (inr (omega (arith, much, b), omega (arith, much, a, b, c, h)), λ short. absurd (omega (arith, short, much, b)))
long_or_ended limit ahead front back rest text after n l g (inl much) (inr h) f a b c =
    (inr (omega (arith, much, b), omega (arith, much, a, b, c, h)), λ short. absurd (omega (arith, short, much, b)))

pub cut_of_prefix : (limit : ℕ) (ahead rest front back text after : List ℕ) → (limit + 6 ≤ length ahead) ⊎ (rest ≡ [])
    → IsCut ahead front back → IsCut (ahead ++ rest) text after → AsGood limit front back rest text after
cut_of_prefix limit ahead rest front back text after full (at_line others line all cut e fe) whole =
    let text_is : ahead ++ rest ≡ ended others ++ (line ++ 10 ∷ (back ++ rest)) =
    ap (λ a. a ++ rest) e ∙ append_assoc (ended others) (line ++ 10 ∷ back) rest
    ∙ ap (λ a. ended others ++ a) (append_assoc line (10 ∷ back) rest) in
    let found = peel_all others (line ++ 10 ∷ (back ++ rest)) text after all (subst (λ t. IsCut t text after) text_is whole) in
    let once = cut_at_once line (back ++ rest) found.0 after cut found.2 in
    (inl (fe ∙ sym (found.1 ∙ ap (λ g. ended others ++ g) once.0 ∙ append-nil (ended others))), λ short. once.1)
cut_of_prefix limit ahead rest front back text after full (at_last_line others all e fe be) whole =
    let text_is : ahead ++ rest ≡ ended others ++ (codes "---" ++ rest) =
    ap (λ a. a ++ rest) e ∙ append_assoc (ended others) (codes "---") rest in
    let found = peel_all others (codes "---" ++ rest) text after all (subst (λ t. IsCut t text after) text_is whole) in
    let size : length ahead ≡ length (ended others) + 3 = ap length e ∙ length-append (ended others) (codes "---") in
    let front_size : length front ≡ length (ended others) = ap length fe in
    elim (nat_lt limit (length front)) as (λ b. nat_lt limit (length front) ≡ b → AsGood limit front back rest text after) [
      | true ↦ λ t.
          let long : limit < length front = grind (arith, nat_tests, t) in
          let as_long : length (ended others) ≤ length text = longer (ended others) found.0 text (length (ended others)) (omega arith) found.1 in
          (inr (long, omega (arith, long, as_long, front_size)), λ short. absurd (omega (arith, short, long)))
      | false ↦ λ t.
          let short : length front ≤ limit = grind (arith, nat_tests, t) in
          let none : rest ≡ [] = rest_is_nothing (limit + 6) (length ahead) rest full (omega (arith, size, front_size, short)) in
          let last = cut_of_dashes found.0 after (subst (λ t. IsCut t found.0 after) (ap (λ r. codes "---" ++ r) none) found.2) in (
            inl (fe ∙ sym (found.1 ∙ ap (λ g. ended others ++ g) last.0 ∙ append-nil (ended others))),
            λ h. last.1 ∙ sym (ap (λ a. a ++ rest) be ∙ none),
          )
    ] refl
cut_of_prefix limit ahead rest front back text after full (nowhere others last all line other e fe be) whole =
    let text_is : ahead ++ rest ≡ ended others ++ (last ++ rest) = ap (λ a. a ++ rest) e ∙ append_assoc (ended others) last rest in
    let found = peel_all others (last ++ rest) text after all (subst (λ t. IsCut t text after) text_is whole) in
    let ended_here : rest ≡ [] → AsGood limit front back rest text after =
    (λ none.
    let it = cut_of_a_line last found.0 after line other (subst (λ t. IsCut t found.0 after) (ap (λ r. last ++ r) none ∙ append-nil last) found.2) in
    (inl (fe ∙ e ∙ sym (found.1 ∙ ap (λ g. ended others ++ g) it.0)), λ h. it.1 ∙ sym (ap (λ a. a ++ rest) be ∙ none))) in
    let size : length ahead ≡ length (ended others) + length last = ap length e ∙ length-append (ended others) last in
    let front_size : length front ≡ length ahead = ap length fe in
    let text_size : length text ≡ length (ended others) + length found.0 = ap length found.1 ∙ length-append (ended others) found.0 in
    long_or_ended limit ahead front back rest text after (length (ended others)) (length last) (length found.0) full (begun last rest found.0 after line found.2) ended_here size front_size text_size

prefix_of : (text front more : List ℕ) → text ≡ front ++ more → take (length front) text ≡ front
prefix_of text front more e = ap (take (length front)) e ∙ take-append_seam front more

-- the front of a cut is the beginning of the text
pub front_is : (text front back : List ℕ) → IsCut text front back → take (length front) text ≡ front
front_is text front back (at_line others line all cut e fe) = prefix_of text front (line ++ 10 ∷ back) (e ∙ ap (λ f. f ++ (line ++ 10 ∷ back)) (sym fe))
front_is text front back (at_last_line others all e fe be) = prefix_of text front (codes "---") (e ∙ ap (λ f. f ++ codes "---") (sym fe))
front_is text front back (nowhere others last all line other e fe be) = prefix_of text front [] (sym fe ∙ sym (append-nil front))
