-- Which office is named of those that stand.
use Rattle.std.proofs.Common.{◌≡◌, ℕ, zero, suc, ◌+◌, ◌<◌, ◌≤◌, Bool, true, false, not, List, [], ◌∷◌, ◌++◌, length, take, get_or, Option, Some, None, refl, sym, ap, subst, ◌∙◌, arith, inl, inr, ⊎_elim}
use Rattle.std.specs.Prelude.{IfSome, IfNone, IsTrue, ◌↔◌, is_some, slice_get}
use Rattle.std.specs.Option.{option_or}
use Rattle.std.proofs.lemmas.Bool.{cases_lt}
use Rattle.std.proofs.lemmas.List.{take_more, take_all, get_or_append_left, length_push}
use Rattle.std.proofs.lemmas.Option.{slice_get_cases, get_or_from_slice_get}
use Rattle.std.proofs.Math.Seq.{get_or-append_seam}
use Rattle.office_journal.specs.declared.event.Entry.{Entry}
use Rattle.frame_codec.specs.Frame.{Fields}
use Rattle.journal_weave.specs.Given.{HasMade, IsFrameFor}
use Rattle.journal_weave.specs.ReplayValue.{ReplayValue}
use Rattle.journal_weave.specs.refinement.Standing.{StandsBefore, MayCome, WaitsIn, IsFirstLeft, taken_next}
use Rattle.journal_weave.proofs.EntriesTold.{some_below, other_default}

module _ (rs : List ReplayValue) (at : List ℕ) where
  -- beyond them none stands
  pub inside : (a : ℕ) → StandsBefore rs at a → a < length rs
  inside a stands = stands.1.0

  -- the first that doesn't wait is named
  pub named_first : (a entry : ℕ) → StandsBefore rs at a → (entry ≡ get_or at a 0 + 1) → (WaitsIn rs at a → ⊥) → ((b : ℕ) → b < a → StandsBefore rs at b → WaitsIn rs at b) → IsFirstLeft rs at (Some (a, entry))
  named_first a entry stands next free wait = (stands, next, inl ((stands, free), λ b lt other. other.1 (wait b lt other.0)))

  -- and where all wait the first that stands, if there is one
  pub named_waiting : (first : Option (ℕ × ℕ)) (n : ℕ) → length rs ≤ n → IfNone first ((a : ℕ) → a < n → StandsBefore rs at a → ⊥) → IfSome first (λ left. StandsBefore rs at left.0) → IfSome first (λ left. left.1 ≡ get_or at left.0 0 + 1) →
      ((b : ℕ) → b < n → StandsBefore rs at b → WaitsIn rs at b) → IfSome first (λ left. (b : ℕ) → b < left.0 → StandsBefore rs at b → ⊥) → IsFirstLeft rs at first
  named_waiting None n all none stands next wait least = λ a s. none a (omega (arith, all, inside a s)) s
  named_waiting (Some left) n all none stands next wait least = (stands, next, inr (λ b other. wait b (omega (arith, all, inside b other)) other, (stands, least)))

-- so far the first that stands is known, if one does
pub record IsFirst (rs : List ReplayValue) (at : List ℕ) (first : Option (ℕ × ℕ)) (k : ℕ) : Type 0 where
  pub none : IfNone first ((a : ℕ) → a < k → StandsBefore rs at a → ⊥)
  pub stands : IfSome first (λ left. StandsBefore rs at left.0)
  pub next : IfSome first (λ left. left.1 ≡ get_or at left.0 0 + 1)
  pub least : IfSome first (λ left. (a : ℕ) → a < left.0 → StandsBefore rs at a → ⊥)

pub first_none : (rs : List ReplayValue) (at : List ℕ) → IsFirst rs at None 0
first_none rs at = record { none = λ a lt. absurd (omega (arith, lt)); stands = tt; next = tt; least = tt }

-- the next one doesn't stand
pub passed : (rs : List ReplayValue) (at : List ℕ) (first : Option (ℕ × ℕ)) (k a : ℕ) → a ≡ k → (StandsBefore rs at a → ⊥) → IsFirst rs at first k → IsFirst rs at first (k + 1)
passed rs at None k a same free h = record {
  none = λ b lt s. ⊎_elim (λ less. h.none b less s) (λ ge. let is : b ≡ a = omega (arith, lt, ge, same) in free (subst (StandsBefore rs at) is s)) (cases_lt b k);
  stands = tt;
  next = tt;
  least = tt;
}
passed rs at (Some left) k a same free h = record { none = tt; stands = h.stands; next = h.next; least = h.least }

-- or it does
pub chosen : (rs : List ReplayValue) (at : List ℕ) (first first' : Option (ℕ × ℕ)) (k a entry : ℕ) → a ≡ k → StandsBefore rs at a → entry ≡ get_or at a 0 + 1 → first' ≡ option_or first (Some (a, entry)) → IsFirst rs at first k → IsFirst rs at first' (k + 1)
chosen rs at None first' k a entry same s n is h =
    subst (λ o. IsFirst rs at o (k + 1)) (sym is) (record { none = tt; stands = s; next = n; least = λ b lt other. h.none b (omega (arith, lt, same)) other })
chosen rs at (Some left) first' k a entry same s n is h =
    subst (λ o. IsFirst rs at o (k + 1)) (sym is) (record { none = tt; stands = h.stands; next = h.next; least = h.least })

-- of the offices so far each that stands waits
abbrev pub AllWait : List ReplayValue → List ℕ → ℕ → Type 0
AllWait rs at k = (b : ℕ) → b < k → StandsBefore rs at b → WaitsIn rs at b

pub wait_more : (rs : List ReplayValue) (at : List ℕ) (k a : ℕ) → a ≡ k → (StandsBefore rs at a → WaitsIn rs at a) → AllWait rs at k → AllWait rs at (k + 1)
wait_more rs at k a same wait h b lt s = ⊎_elim
    (λ less. h b less s)
    (λ ge. let is : b ≡ a = omega (arith, lt, ge, same) in subst (WaitsIn rs at) (sym is) (wait (subst (StandsBefore rs at) is s)))
    (cases_lt b k)

-- ---- one office

pub none_beyond : (rs : List ReplayValue) (at : List ℕ) (a : ℕ) → length rs ≤ a → IsTrue false ↔ StandsBefore rs at a
none_beyond rs at a ge = (λ t. absurd (let no : false ≡ true = t in cc), λ s. absurd (omega (arith, ge, inside rs at a s)))

pub where_some : (rs : List ReplayValue) (at : List ℕ) (a : ℕ) (o : Option ℕ) (b : Bool) → b ≡ is_some o → IfSome o (λ entry. StandsBefore rs at a) → IfNone o (StandsBefore rs at a → ⊥) → IsTrue b ↔ StandsBefore rs at a
where_some rs at a None b is some none = (λ t. absurd (let no : false ≡ true = sym is ∙ t in cc), λ s. absurd (none s))
where_some rs at a (Some entry) b is some none = (λ t. some, λ s. is)

-- the same place has the same office
pub same_at : (rs : List ReplayValue) (a : ℕ) (r s : ReplayValue) → a < length rs → r ≡ get_or rs a r → s ≡ get_or rs a s → r ≡ s
same_at rs a r s lt is_r is_s = is_r ∙ other_default rs a s r lt ∙ sym is_s

module _ (rs : List ReplayValue) (at : List ℕ) (a : ℕ) (r : ReplayValue) (lt : a < length rs) (is : r ≡ get_or rs a r) (n : ℕ) (done : n ≡ get_or at a 0) where
  -- it takes nothing
  pub waits_not : taken_next r n ≡ None → IsTrue false ↔ WaitsIn rs at a
  waits_not none = (
    λ t. absurd (let no : false ≡ true = t in cc),
    λ w.
        let same : w.mine ≡ r = same_at rs a w.mine r lt w.is.1 is in
        let takes : taken_next r n ≡ Some w.frame = ap (taken_next r) done ∙ ap (λ x. taken_next x (get_or at a 0)) (sym same) ∙ w.takes in
        absurd (let no : None ≡ Some w.frame = sym none ∙ takes in cc),
  )

  -- it takes a frame, which may come or not
  pub waits_so : (f : Fields) (b : Bool) → taken_next r n ≡ Some f → IsTrue b ↔ MayCome rs at a f → IsTrue b ↔ WaitsIn rs at a
  waits_so f b takes so = (
    λ t. record { mine = r; is = (lt, is); frame = f; takes = ap (taken_next r) (sym done) ∙ takes; comes = so.0 t },
    λ w.
        let same : w.mine ≡ r = same_at rs a w.mine r lt w.is.1 is in
        let found : taken_next r n ≡ Some w.frame = ap (taken_next r) done ∙ ap (λ x. taken_next x (get_or at a 0)) (sym same) ∙ w.takes in
        let frames : f ≡ w.frame = let both : Some f ≡ Some w.frame = sym takes ∙ found in cc in
        so.1 (subst (MayCome rs at a) (sym frames) w.comes),
  )

-- the sender doesn't stand
pub comes_not : (rs : List ReplayValue) (at : List ℕ) (a : ℕ) (f : Fields) → (StandsBefore rs at f.from → ⊥) → IsTrue false ↔ MayCome rs at a f
comes_not rs at a f none = (λ t. absurd (let no : false ≡ true = t in cc), λ m. absurd (none m.stands))

-- it stands, and made such a frame or none
pub comes_so : (rs : List ReplayValue) (at : List ℕ) (a : ℕ) (f : Fields) (r : ReplayValue) (made b : Bool) → StandsBefore rs at f.from → r ≡ get_or rs f.from r → b ≡ not made → IsTrue made ↔ HasMade (take (get_or at f.from 0) r.site.entries) a f.number → IsTrue b ↔ MayCome rs at a f
comes_so rs at a f r true b stands is not_made so = (
  λ t. absurd (let bad : false ≡ true = sym not_made ∙ t in cc),
  λ m. absurd (m.none_made r (inside rs at f.from stands, is) (so.0 refl)),
)
comes_so rs at a f r false b stands is not_made so = (
  λ t. record {
    stands = stands;
    none_made = λ s there made.
        let same : s ≡ r = same_at rs f.from s r there.0 there.1 is in
        let bad : false ≡ true = so.1 (subst (λ (x : ReplayValue). HasMade (take (get_or at f.from 0) x.site.entries) a f.number) same made) in
        absurd (cc);
  },
  λ m. not_made,
)

-- ---- frames that the first entries made

pub none_made : (xs : List Entry) (to number : ℕ) → HasMade (take 0 xs) to number → ⊥
none_made xs to number (k, x, lt, is, h) = omega (arith, lt)

module _ (xs : List Entry) (i : ℕ) (x : Entry) (at : slice_get xs i ≡ Some x) (to number : ℕ) where
  below : i < length xs
  below = some_below xs i x at

  next : take (i + 1) xs ≡ take i xs ++ x ∷ []
  next = take_more xs i x below ∙ ap (λ y. take i xs ++ y ∷ []) (get_or_from_slice_get xs i x x at)

  pub still_none : (IsFrameFor to number x.reply → ⊥) → (HasMade (take i xs) to number → ⊥) → HasMade (take (i + 1) xs) to number → ⊥
  still_none one none made = of (subst (λ l. HasMade l to number) next made)
    where
      of : HasMade (take i xs ++ x ∷ []) to number → ⊥
      of (k, y, lt, is, h) = ⊎_elim
          (λ less. none (k, y, less, sym (get_or_append_left (take i xs) (x ∷ []) y k less) ∙ is, h))
          (λ ge.
          let last : k ≡ length (take i xs) = omega (arith, ge, lt, length_push (take i xs) x) in
          let same : y ≡ x = sym is ∙ ap (λ n. get_or (take i xs ++ x ∷ []) n y) last ∙ get_or-append_seam (take i xs) x [] y in
          one (subst (λ (z : Entry). IsFrameFor to number z.reply) same h))
          (cases_lt k (length (take i xs)))

  pub made_there : (done : ℕ) → i < done → IsFrameFor to number x.reply → HasMade (take done xs) to number
  made_there done lt h = (i, x, length_taken done xs i lt below, get_taken done xs i x lt at, h)
    where
      length_taken : (n : ℕ) (l : List Entry) (j : ℕ) → j < n → j < length l → j < length (take n l)
      length_taken zero l j less there = absurd (omega (arith, less))
      length_taken (suc n) [] j less there = absurd (omega (arith, there))
      length_taken (suc n) (y ∷ l) zero less there = omega arith
      length_taken (suc n) (y ∷ l) (suc j) less there = let rest = length_taken n l j (omega (arith, less)) (omega (arith, there)) in omega (arith, rest)

      get_taken : (n : ℕ) (l : List Entry) (j : ℕ) (y : Entry) → j < n → slice_get l j ≡ Some y → get_or (take n l) j y ≡ y
      get_taken zero l j y less e = absurd (omega (arith, less))
      get_taken (suc n) [] zero y less e = cc
      get_taken (suc n) [] (suc j) y less e = cc
      get_taken (suc n) (z ∷ l) zero y less e = cc
      get_taken (suc n) (z ∷ l) (suc j) y less e = get_taken n l j y (omega (arith, less)) e

-- past the last entry there is no more of them
pub made_by_all : (xs : List Entry) (i done to number : ℕ) → slice_get xs i ≡ None → i ≤ done → HasMade (take done xs) to number → HasMade (take i xs) to number
made_by_all xs i done to number none le made =
    let past : length xs ≤ i = ⊎_elim (λ there. absurd (let no : None ≡ Some there.0 = sym none ∙ there.2 in cc)) (λ p. p.0) (slice_get_cases xs i).1 in
    subst (λ l. HasMade l to number) (take_all done xs (omega (arith, past, le)) ∙ sym (take_all i xs past)) made
