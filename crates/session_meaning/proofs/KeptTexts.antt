-- Bytes that come behind those of texts change none of them.
use Rattle.std.proofs.Common.{◌≡◌, ℕ, zero, suc, ◌+◌, ◌≤◌, List, [], ◌∷◌, ◌++◌, length, map, take, drop, refl, ap, ◌∙◌, arith}
use Rattle.std.specs.Prelude.{All, IsTrue, if◌then◌else◌}
use Rattle.std.specs.List.{slice_index_or}
use Rattle.std.proofs.Math.Seq.{drop-append_seam}
use Rattle.std.proofs.lemmas.List.{take-append-le, drop-append-le, length-append, length-drop, map-append}
use Rattle.std.proofs.lemmas.List.Elements.{All-append, All-cons, All-nil}
use Rattle.bottle_values.specs.declared.Value.TheVariants as bottle
use Rattle.bottle_values.specs.Texts.{is_text}
use Rattle.session_meaning.specs.declared.kept.Kept.{Kept}
use Rattle.session_meaning.specs.declared.kept.Kept.TheVariants as kept
use Rattle.session_meaning.specs.declared.node.Node.TheVariants.{Literal}
use Rattle.session_meaning.specs.refinement.KeptNode.{node_of, text_or_none, IsWithin}
use Rattle.session_meaning.specs.refinement.TextBytes.{node_bytes, nodes_bytes}

pub within_more : (n m : ℕ) (k : Kept) → n ≤ m → IsWithin n k → IsWithin m k
within_more n m (kept.Number z) le h = tt
within_more n m (kept.Text start len) le h = omega (arith, le, h)
within_more n m (kept.Variable place) le h = tt
within_more n m (kept.Read r) le h = tt
within_more n m kept.Negate le h = tt
within_more n m (kept.Apply o) le h = tt

cut_same : (bytes more : List ℕ) (start len : ℕ) → start + len ≤ length bytes → take len (drop start (bytes ++ more)) ≡ take len (drop start bytes)
cut_same bytes more start len h =
    ap (take len) (drop-append-le start bytes more (omega (arith, h))) ∙ take-append-le len (drop start bytes) more (omega (arith, h, length-drop start bytes))

reads_same : (bytes more : List ℕ) (k : Kept) → IsWithin (length bytes) k → node_of (bytes ++ more) k ≡ node_of bytes k
reads_same bytes more (kept.Number z) h = refl
reads_same bytes more (kept.Text start len) h = ap (λ t. Literal (bottle.Text (text_or_none t))) (cut_same bytes more start len h)
reads_same bytes more (kept.Variable place) h = refl
reads_same bytes more (kept.Read r) h = refl
reads_same bytes more kept.Negate h = refl
reads_same bytes more (kept.Apply o) h = refl

all_read_same : (bytes more : List ℕ) (ks : List Kept) → All (IsWithin (length bytes)) ks → map (node_of (bytes ++ more)) ks ≡ map (node_of bytes) ks
all_read_same bytes more [] h = refl
all_read_same bytes more (k ∷ ks) h =
    ap (λ n. n ∷ map (node_of (bytes ++ more)) ks) (reads_same bytes more k (h 0 k (omega arith)))
    ∙ ap (λ l. node_of bytes k ∷ l) (all_read_same bytes more ks (λ i d lt. h (suc i) d (omega (arith, lt))))

text_is : (t : List ℕ) → IsTrue (is_text t) → text_or_none t ≡ t
text_is t h = ap (λ b. if b then t else []) h

behind : (bytes text : List ℕ) → take (length text) (drop (length bytes) (bytes ++ text)) ≡ text
behind bytes text = ap (take (length text)) (drop-append_seam bytes text) ∙ whole text
  where
    whole : (t : List ℕ) → take (length t) t ≡ t
    whole [] = refl
    whole (x ∷ xs) = ap (λ l. x ∷ l) (whole xs)

-- one text more, behind the bytes of the others
pub one_text_more : (bytes text : List ℕ) (ks : List Kept) → IsTrue (is_text text) → All (IsWithin (length bytes)) ks →
    map (node_of (bytes ++ text)) (ks ++ kept.Text (length bytes) (length text) ∷ []) ≡ map (node_of bytes) ks ++ Literal (bottle.Text text) ∷ []
one_text_more bytes text ks is within =
    map-append (node_of (bytes ++ text)) ks (kept.Text (length bytes) (length text) ∷ [])
    ∙ ap (λ l. l ++ node_of (bytes ++ text) (kept.Text (length bytes) (length text)) ∷ []) (all_read_same bytes text ks within)
    ∙ ap (λ t. map (node_of bytes) ks ++ Literal (bottle.Text t) ∷ []) (ap text_or_none (behind bytes text) ∙ text_is text is)

-- with no bytes beside them, texts have none
nothing_in : (start len : ℕ) → ◌≡◌ {A = List ℕ} (take len (drop start [])) []
nothing_in zero zero = refl
nothing_in zero (suc len) = refl
nothing_in (suc start) zero = refl
nothing_in (suc start) (suc len) = refl

no_bytes : (k : Kept) → node_bytes (node_of [] k) ≡ 0
no_bytes (kept.Number z) = refl
no_bytes (kept.Text start len) = ap (λ t. length (text_or_none t)) (nothing_in start len)
no_bytes (kept.Variable place) = refl
no_bytes (kept.Read r) = refl
no_bytes kept.Negate = refl
no_bytes (kept.Apply o) = refl

none_of_none : (ks : List Kept) → nodes_bytes (map (node_of []) ks) ≡ 0
none_of_none [] = refl
none_of_none (k ∷ ks) = omega (arith, no_bytes k, none_of_none ks)

pub none_beside : (bytes : List ℕ) (ks : List Kept) → length bytes ≡ 0 → nodes_bytes (map (node_of bytes) ks) ≡ 0
none_beside [] ks h = none_of_none ks
none_beside (b ∷ bs) ks h = absurd (omega (arith, h))

-- and lies within the bytes then, as the others do
pub all_within : (bytes text : List ℕ) (ks : List Kept) → All (IsWithin (length bytes)) ks → All (IsWithin (length (bytes ++ text))) (ks ++ kept.Text (length bytes) (length text) ∷ [])
all_within bytes text ks h =
    All-append (IsWithin (length (bytes ++ text))) ks (kept.Text (length bytes) (length text) ∷ [])
    (λ i d lt. within_more (length bytes) (length (bytes ++ text)) (slice_index_or ks i d) (omega (arith, length-append bytes text)) (h i d lt))
    (All-cons (IsWithin (length (bytes ++ text))) (kept.Text (length bytes) (length text)) [] (omega (arith, length-append bytes text)) (All-nil (IsWithin (length (bytes ++ text)))))
