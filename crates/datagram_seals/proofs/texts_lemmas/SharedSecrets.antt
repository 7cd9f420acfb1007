-- What follows of keys that are shared.
use Rattle.std.proofs.Common.{◌≡◌, ℕ, ◌+◌, ◌<◌, ◌≤◌, ◌⊎◌, inl, inr, List, [], ◌∷◌, ◌++◌, length, map, get_or, Bool, true, false, not, ◌&&◌, ◌||◌, Option, None, Some, Result, Ok, Err, option_map, if◌then◌else◌, refl, sym, ap, ap₂, ◌∙◌, subst, arith, append_assoc, drop, IfOk, ⊎_elim}
use Rattle.std.specs.Prelude.{◌==◌, Contains, find, is_none, is_some}
use Rattle.std.specs.List.{list_any, range_with_len}
use Rattle.std.specs.Option.{ok_or}
use Rattle.std.proofs.Math.Bool.{or_comm}
use Rattle.std.proofs.lemmas.Bool.{and_parts, cases_lt, eqb-true, or_cases}
use Rattle.std.proofs.lemmas.List.{drop_more, get_or_past}
use Rattle.std.proofs.lemmas.List.Elements.{Contains-append_right}
use Rattle.std.proofs.lemmas.List.FromFn.{get_or-map-range_with_len, length-map-range_with_len}
use Rattle.bottle_values.specs.Lists.{is_among}
use Rattle.bottle_values.specs.Memory.{UnlessMemory}
use Rattle.text_lines.specs.Text.{plain_words, statements}
use Rattle.office_map.specs.PlanValue.{PlanValue, office_named, are_neighbours, neighbours_of}
use Rattle.office_map.specs.PlanText.{◌>>=◌, ◌>>◌, and_then, refuse_if}
use Rattle.office_map.specs.Consistency.{IsConsistent}
use Rattle.office_map.specs.NeighbourLaws.{among_neighbours, near_both, near_within}
use Rattle.datagram_seals.specs.frames.Hmac.{key_block}
use Rattle.datagram_seals.specs.declared.texts.fault.SecretRule.{SecretRule}
use Rattle.datagram_seals.specs.declared.texts.fault.SecretRule.TheVariants.{Secret, NotNeighbours, SecretTwice}
use Rattle.datagram_seals.specs.declared.texts.fault.SecretRefusal.{SecretRefusal}
use Rattle.datagram_seals.specs.declared.texts.fault.SecretFault.{SecretFault}
use Rattle.datagram_seals.specs.texts.refinement.Reader.{Fails}
use Rattle.datagram_seals.specs.declared.texts.line.SecretLine.{SecretLine}
use Rattle.datagram_seals.specs.declared.texts.shared.SharedKey.{SharedKey}
use Rattle.datagram_seals.specs.texts.SecretText.{line_of, is_between, share, at_line, read_line, read_lines, keys_of, secret_between, first_without, unless_without, of_office, secrets_of}
use Rattle.datagram_seals.specs.texts.SecretLaws.{NeighboursHaveSecrets, NeighboursShareOneSecret, Names, SecretsAreOfLines}

-- ---- steps that went well

first_then : {A B E : Type 0} (r : Result A E) (f : A → Result B E) (y : B) → (r >>= f) ≡ Ok y → (x : A) × (r ≡ Ok x) × (f x ≡ Ok y)
first_then (Ok x) f y h = (x, refl, h)
first_then (Err e) f y h = absurd cc

passed : {A E : Type 0} (b : Bool) (e : E) (r : Result A E) (y : A) → (refuse_if b e >> r) ≡ Ok y → (b ≡ false) × (r ≡ Ok y)
passed true e r y h = absurd cc
passed false e r y h = (refl, h)

is_there : {A E : Type 0} (o : Option A) (e : E) (x : A) → ok_or o e ≡ Ok x → o ≡ Some x
is_there None e x h = absurd cc
is_there (Some y) e x h = cc

went_well : {A : Type 0} (n : ℕ) (r : Result A SecretRule) (x : A) → at_line n r ≡ Ok x → r ≡ Ok x
went_well n (Ok y) x h = cc
went_well n (Err rule) x h = absurd cc

no_one_left : {A : Type 0} (o : Option ℕ) (x y : A) → unless_without o x ≡ Ok y → (o ≡ None) × (x ≡ y)
no_one_left None x y h = (refl, cc)
no_one_left (Some v) x y h = absurd cc

-- ---- one line

-- the two offices of a line are known and are neighbours, and its key is added
record Added (p : PlanValue) (keys : List SharedKey) (said : SecretLine) (more : List SharedKey) : Type 0 where
  first : ℕ
  second : ℕ
  first_named : office_named p said.a ≡ Some first
  second_named : office_named p said.b ≡ Some second
  near : are_neighbours p first second ≡ true
  is : more ≡ keys ++ (record { first = first; second = second; key = said.key }) ∷ []

abbrev between_both : PlanValue → List SharedKey → SecretLine → ℕ → ℕ → Result (List SharedKey) SecretRule
between_both p keys said first second =
    refuse_if (not (are_neighbours p first second)) NotNeighbours >> (refuse_if (list_any (is_between first second) keys) SecretTwice >> Ok (keys ++ (record { first = first; second = second; key = said.key }) ∷ []))

abbrev from_first : PlanValue → List SharedKey → SecretLine → ℕ → Result (List SharedKey) SecretRule
from_first p keys said first = ok_or (office_named p said.b) NotNeighbours >>= between_both p keys said first

not_false : (b : Bool) → not b ≡ false → b ≡ true
not_false true h = refl
not_false false h = cc

added : (p : PlanValue) (keys : List SharedKey) (said : SecretLine) (more : List SharedKey) → share p keys said ≡ Ok more → Added p keys said more
added p keys said more h =
    let a = first_then (ok_or (office_named p said.a) NotNeighbours) (from_first p keys said) more h in
    let b = first_then (ok_or (office_named p said.b) NotNeighbours) (between_both p keys said a.0) more a.2 in
    let all : List SharedKey = keys ++ (record { first = a.0; second = b.0; key = said.key }) ∷ [] in
    let near = passed (not (are_neighbours p a.0 b.0)) NotNeighbours (refuse_if (list_any (is_between a.0 b.0) keys) SecretTwice >> Ok all) more b.2 in
    let once = passed (list_any (is_between a.0 b.0) keys) SecretTwice (Ok all) more near.1 in
    let whole : ◌≡◌ {A = Result (List SharedKey) SecretRule} (Ok all) (Ok more) = once.1 in
    record {
      first = a.0;
      second = b.0;
      first_named = is_there (office_named p said.a) NotNeighbours a.0 a.1;
      second_named = is_there (office_named p said.b) NotNeighbours b.0 b.1;
      near = not_false (are_neighbours p a.0 b.0) near.0;
      is = cc;
    }

line_added : (p : PlanValue) (keys : List SharedKey) (l : ℕ × List ℕ) (more : List SharedKey) → read_line p keys l ≡ Ok more
    → (said : SecretLine) × (and_then (plain_words l.1) line_of ≡ Some said) × Added p keys said more
unfolding read_line
line_added p keys l more h =
    let told = went_well l.0 (ok_or (and_then (plain_words l.1) line_of) Secret >>= share p keys) more h in
    let s = first_then (ok_or (and_then (plain_words l.1) line_of) Secret) (share p keys) more told in
    (s.0, is_there (and_then (plain_words l.1) line_of) Secret s.0 s.1, added p keys s.0 more s.2)

-- ---- all lines

-- a key is that of one of the lines, which names two neighbours
record IsOfLine (p : PlanValue) (all : List (ℕ × List ℕ)) (s : SharedKey) : Type 0 where
  line : ℕ × List ℕ
  stands : Contains all line
  said : SecretLine
  says : and_then (plain_words line.1) line_of ≡ Some said
  first_named : office_named p said.a ≡ Some s.first
  second_named : office_named p said.b ≡ Some s.second
  near : are_neighbours p s.first s.second ≡ true
  key : s.key ≡ said.key

abbrev AreOfLines : PlanValue → List (ℕ × List ℕ) → List SharedKey → Type 0
AreOfLines p all [] = Unit {0}
AreOfLines p all (s ∷ keys) = IsOfLine p all s × AreOfLines p all keys

one_more : (p : PlanValue) (all : List (ℕ × List ℕ)) (keys : List SharedKey) (s : SharedKey) → AreOfLines p all keys → IsOfLine p all s → AreOfLines p all (keys ++ s ∷ [])
one_more p all [] s h i = (i, tt)
one_more p all (k ∷ keys) s h i = (h.0, one_more p all keys s h.1 i)

line_more : (p : PlanValue) (all : List (ℕ × List ℕ)) (keys : List SharedKey) (l : ℕ × List ℕ) (more : List SharedKey) → Contains all l → AreOfLines p all keys → read_line p keys l ≡ Ok more → AreOfLines p all more
line_more p all keys l more stands h e =
    let s = line_added p keys l more e in
    let a = s.2 in
    let P : List SharedKey → Type 0 = AreOfLines p all in
    subst P (sym a.is) (one_more p all keys (record { first = a.first; second = a.second; key = s.0.key }) h (record { line = l; stands = stands; said = s.0; says = s.1; first_named = a.first_named; second_named = a.second_named; near = a.near; key = refl }))

are_of_lines : (p : PlanValue) (all : List (ℕ × List ℕ)) (before ls : List (ℕ × List ℕ)) (keys final : List SharedKey) → all ≡ before ++ ls → AreOfLines p all keys → read_lines p keys ls ≡ Ok final → AreOfLines p all final
are_of_lines p all before [] keys final split h e =
    let same : ◌≡◌ {A = Result (List SharedKey) SecretRefusal} (Ok keys) (Ok final) = e in
    let P : List SharedKey → Type 0 = AreOfLines p all in
    let is : keys ≡ final = cc in
    subst P is h
are_of_lines p all before (l ∷ ls) keys final split h e =
    let m = first_then (read_line p keys l) (λ more. read_lines p more ls) final e in
    let Q : List (ℕ × List ℕ) → Type 0 = λ xs. Contains xs l in
    let stands : Contains all l = subst Q (sym split) (Contains-append_right before (l ∷ ls) l (0, omega arith, refl)) in
    are_of_lines p all (before ++ l ∷ []) ls m.0 final (split ∙ sym (append_assoc before (l ∷ []) ls)) (line_more p all keys l m.0 stands h m.1) m.2

-- ---- what an office has

record HasRead (p : PlanValue) (office : ℕ) (text : List ℕ) (secrets : List (Option (List ℕ))) : Type 0 where
  keys : List SharedKey
  are : keys_of p text ≡ Ok keys
  lines : AreOfLines p (statements text) keys
  whole : first_without p office keys ≡ None
  is : secrets ≡ map (secret_between keys office) (range_with_len 0 (length p.offices))

has_read : (p : PlanValue) (office : ℕ) (text : List ℕ) (secrets : List (Option (List ℕ))) → secrets_of p office text ≡ Ok secrets → HasRead p office text secrets
has_read p office text secrets h =
    let k = first_then (keys_of p text) (of_office p office) secrets h in
    let s = no_one_left (first_without p office k.0) (map (secret_between k.0 office) (range_with_len 0 (length p.offices))) secrets k.2 in
    record { keys = k.0; are = k.1; lines = are_of_lines p (statements text) [] (statements text) [] k.0 refl tt k.1; whole = s.0; is = sym s.1 }

-- at an office of the plan
here : (p : PlanValue) (office other : ℕ) (text : List ℕ) (secrets : List (Option (List ℕ))) (r : HasRead p office text secrets) → other < length p.offices → get_or secrets other None ≡ secret_between r.keys office other
here p office other text secrets r lt =
    ap (λ (xs : List (Option (List ℕ))). get_or xs other None) r.is ∙ get_or-map-range_with_len (secret_between r.keys office) 0 (length p.offices) other other None lt (omega arith)

-- past them
past : (p : PlanValue) (office other : ℕ) (text : List ℕ) (secrets : List (Option (List ℕ))) (r : HasRead p office text secrets) → length p.offices ≤ other → get_or secrets other None ≡ None
past p office other text secrets r le =
    get_or_past secrets other None (omega (arith, ap length r.is, length-map-range_with_len (secret_between r.keys office) 0 (length p.offices)))

-- ---- who shares it

ends : (a b : ℕ) (s : SharedKey) → is_between a b s ≡ true → ((s.first ≡ a) × (s.second ≡ b)) ⊎ ((s.first ≡ b) × (s.second ≡ a))
ends a b s h =
    ⊎_elim
    (λ j. let q = and_parts (s.first == a) (s.second == b) j in inl (eqb-true s.first a q.0, eqb-true s.second b q.1))
    (λ j. let q = and_parts (s.first == b) (s.second == a) j in inr (eqb-true s.first b q.0, eqb-true s.second a q.1))
    (or_cases (s.first == a && s.second == b) (s.first == b && s.second == a) h)

-- a secret is that of one of the keys
record IsOfKey (p : PlanValue) (all : List (ℕ × List ℕ)) (a b : ℕ) (secret : List ℕ) : Type 0 where
  shared : SharedKey
  of_line : IsOfLine p all shared
  between : is_between a b shared ≡ true
  is : secret ≡ key_block shared.key

of_key : (p : PlanValue) (all : List (ℕ × List ℕ)) (keys : List SharedKey) (a b : ℕ) (secret : List ℕ) → AreOfLines p all keys → secret_between keys a b ≡ Some secret → IsOfKey p all a b secret
of_key p all [] a b secret h e = absurd cc
of_key p all (s ∷ keys) a b secret h e = by_test (is_between a b s) refl (λ k. of_key p all keys a b secret h.1 k) e
  where
    by_test : (t : Bool) → is_between a b s ≡ t → (secret_between keys a b ≡ Some secret → IsOfKey p all a b secret) → option_map (λ (k : SharedKey). key_block k.key) (if t then Some s else find (is_between a b) keys) ≡ Some secret
        → IsOfKey p all a b secret
    by_test true t later k = let same : key_block s.key ≡ secret = cc in record { shared = s; of_line = h.0; between = t; is = sym same }
    by_test false t later k = later k

names : (p : PlanValue) (all : List (ℕ × List ℕ)) (s : SharedKey) (a b : ℕ) (l : IsOfLine p all s) → is_between a b s ≡ true → Names p l.said a b
names p all s a b l h =
    ⊎_elim
    (λ e. inl (l.first_named ∙ ap Some e.0, l.second_named ∙ ap Some e.1))
    (λ e. inr (l.first_named ∙ ap Some e.0, l.second_named ∙ ap Some e.1))
    (ends a b s h)

pub secrets_are_of_lines : SecretsAreOfLines
secrets_are_of_lines p office other text secrets secret h there =
    let r = has_read p office text secrets h in
    ⊎_elim
    (λ lt.
    let k = of_key p (statements text) r.keys office other secret r.lines (sym (here p office other text secrets r lt) ∙ there) in
    let l = k.of_line in
    record { line = l.line; stands = l.stands; said = l.said; says = l.says; names = names p (statements text) k.shared office other l k.between; is = k.is ∙ ap key_block l.key })
    (λ le. let none = past p office other text secrets r le in absurd cc)
    (cases_lt other (length p.offices))

-- ---- both ends

both_ways : (a b : ℕ) (s : SharedKey) → is_between a b s ≡ is_between b a s
both_ways a b s = or_comm (s.first == a && s.second == b) (s.first == b && s.second == a)

found_so : (a b : ℕ) (keys : List SharedKey) → find (is_between a b) keys ≡ find (is_between b a) keys
found_so a b [] = refl
found_so a b (s ∷ keys) = ap₂ (λ (t : Bool) (o : Option SharedKey). if t then Some s else o) (both_ways a b s) (found_so a b keys)

pub neighbours_share_one_secret : NeighboursShareOneSecret
neighbours_share_one_secret p a b text ours theirs a_is b_is h k =
    let r = has_read p a text ours h in
    let s = has_read p b text theirs k in
    let same : ◌≡◌ {A = Result (List SharedKey) SecretRefusal} (Ok r.keys) (Ok s.keys) = sym r.are ∙ s.are in
    let keys : r.keys ≡ s.keys = cc in
    here p a b text ours r b_is
    ∙ ap (option_map (λ (x : SharedKey). key_block x.key)) (found_so a b r.keys)
    ∙ ap (λ ks. secret_between ks b a) keys
    ∙ sym (here p b a text theirs s a_is)

-- ---- with whom an office has one

none_left : (q : ℕ → Bool) (xs : List ℕ) (v : ℕ) → find q xs ≡ None → is_among xs v ≡ true → q v ≡ false
none_left q [] v h e = absurd cc
none_left q (x ∷ xs) v h e = by_test (q x) refl (λ k s. none_left q xs v k s) h
  where
    by_test : (t : Bool) → q x ≡ t → (find q xs ≡ None → is_among xs v ≡ true → q v ≡ false) → (if t then Some x else find q xs) ≡ None → q v ≡ false
    by_test true t later k = absurd cc
    by_test false t later k =
        ⊎_elim (λ s. ap q (sym (eqb-true x v s)) ∙ t) (λ s. later k s) (or_cases (x == v) (is_among xs v) e)

-- no secret where no key
pub none_there : (a b : ℕ) (keys : List SharedKey) → is_none (secret_between keys a b) ≡ not (list_any (is_between a b) keys)
none_there a b [] = refl
none_there a b (s ∷ keys) = by_test (is_between a b s) (none_there a b keys)
  where
    by_test : (t : Bool) → is_none (secret_between keys a b) ≡ not (list_any (is_between a b) keys)
        → is_none (option_map (λ (k : SharedKey). key_block k.key) (if t then Some s else find (is_between a b) keys)) ≡ not (t || list_any (is_between a b) keys)
    by_test true later = refl
    by_test false later = later

-- ---- the first that passes

here_or_later : (q : ℕ → Bool) (xs : List ℕ) (i x : ℕ) (t : Bool) → i < length xs → x ≡ get_or xs i x → find q xs ≡ find q (drop i xs) → q x ≡ t → find q xs ≡ (if t then Some x else find q (drop (i + 1) xs))
here_or_later q xs i x t lt is so_far passes =
    let cut : drop i xs ≡ x ∷ drop (i + 1) xs = drop_more xs i x lt ∙ ap (λ y. y ∷ drop (i + 1) xs) (sym is) in
    so_far ∙ ap (find q) cut ∙ ap (λ b. if b then Some x else find q (drop (i + 1) xs)) passes

pub first_here : (q : ℕ → Bool) (xs : List ℕ) (i x : ℕ) → i < length xs → x ≡ get_or xs i x → find q xs ≡ find q (drop i xs) → q x ≡ true → Some x ≡ find q xs
first_here q xs i x lt is so_far passes = sym (here_or_later q xs i x true lt is so_far passes)

pub first_later : (q : ℕ → Bool) (xs : List ℕ) (i x : ℕ) → i < length xs → x ≡ get_or xs i x → find q xs ≡ find q (drop i xs) → q x ≡ false → find q xs ≡ find q (drop (i + 1) xs)
first_later q xs i x lt is so_far passes = here_or_later q xs i x false lt is so_far passes

some_of : {A : Type 0} (o : Option A) → is_none o ≡ false → is_some o ≡ true
some_of None h = cc
some_of (Some x) h = refl

near_from : (p : PlanValue) (all : List (ℕ × List ℕ)) (a b : ℕ) (secret : List ℕ) → IsOfKey p all a b secret → are_neighbours p a b ≡ true
near_from p all a b secret k =
    let near = k.of_line.near in
    ⊎_elim
    (λ e. sym (ap₂ (are_neighbours p) e.0 e.1) ∙ near)
    (λ e. near_both p a b ∙ sym (ap₂ (are_neighbours p) e.0 e.1) ∙ near)
    (ends a b k.shared k.between)

pub neighbours_have_secrets : NeighboursHaveSecrets
neighbours_have_secrets p office other text secrets consistent h = by_number (cases_lt other (length p.offices))
  where
    r : HasRead p office text secrets
    r = has_read p office text secrets h

    with_it : (o : Option (List ℕ)) (near : Bool) → secret_between r.keys office other ≡ o → are_neighbours p office other ≡ near → is_some o ≡ near
    with_it None false s n = refl
    with_it (Some secret) true s n = refl
    with_it None true s n =
        sym (ap is_some s) ∙ some_of (secret_between r.keys office other) (none_left (λ v. is_none (secret_between r.keys office v)) (neighbours_of p office) other r.whole (among_neighbours p office other consistent n))
    with_it (Some secret) false s n =
        sym (near_from p (statements text) office other secret (of_key p (statements text) r.keys office other secret r.lines s)) ∙ n

    past_it : (near : Bool) → are_neighbours p office other ≡ near → length p.offices ≤ other → is_some (get_or secrets other None) ≡ near
    past_it false n le = ap is_some (past p office other text secrets r le)
    past_it true n le = absurd (omega (arith, near_within p office other consistent n))

    by_number : (other < length p.offices) ⊎ (length p.offices ≤ other) → is_some (get_or secrets other None) ≡ are_neighbours p office other
    by_number (inl lt) = ap is_some (here p office other text secrets r lt) ∙ with_it (secret_between r.keys office other) (are_neighbours p office other) refl refl
    by_number (inr le) = past_it (are_neighbours p office other) refl le

-- so it is of what is read
pub all_have : {X : Type 0} (view : X → List (Option (List ℕ))) (p : PlanValue) (office : ℕ) (text : List ℕ) (keys : List SharedKey) (r : Result X SecretFault) → IsConsistent p → keys_of p text ≡ Ok keys → UnlessMemory view Fails r (of_office p office keys)
    → IfOk r (λ v. (other : ℕ) → is_some (get_or (view v) other None) ≡ are_neighbours p office other)
all_have view p office text keys (Ok v) consistent k h =
    let read : secrets_of p office text ≡ Ok (view v) = ap (λ r. r >>= of_office p office) k ∙ h in
    λ other. neighbours_have_secrets p office other text (view v) consistent read
all_have view p office text keys (Err e) consistent k h = tt
