-- A name is found by the chain of its key.
use Rattle.std.proofs.Common.{◌≡◌, ℕ, suc, ◌+◌, ◌<◌, ◌≤◌, List, [], ◌∷◌, ◌++◌, length, get_or, set, replicate, Bool, true, false, if◌then◌else◌, Option, Some, None, refl, sym, subst, ap, ◌∙◌, arith, ⊎_elim}
use Rattle.std.specs.List.{position}
use Rattle.std.specs.Str.{bytes_eq}
use Rattle.std.proofs.lemmas.Bool.{both_ways, false_from_ne_true, eqb-true, eq-eqb, ne_eqb, cases_lt, cases_eq}
use Rattle.std.proofs.lemmas.List.{get_or_append_left, get_or_push, get_or-set_same, get_or-set_other, length-set, length_push}
use Rattle.std.proofs.lemmas.Slice.Eq.{bytes_eq-Decides}
use Rattle.office_map.specs.declared.entries.RecordEntry.{RecordEntry}
use Rattle.office_map.specs.refinement.RecordChains.{place_of_key, has_key, IsLastBelow, HasChains, HasStarts}
use Rattle.office_map.proofs.FirstPosition.{found_nowhere, found_first}
use Rattle.office_map.proofs.RecordCountsKept.{nothing_kept}

abbrev pub is_named : List ℕ → RecordEntry → Bool
is_named name r = bytes_eq r.name name

-- a record of another key has another name
other_key : (name : List ℕ) (r : RecordEntry) → has_key (place_of_key name) r ≡ false → is_named name r ≡ false
other_key name r other = false_from_ne_true (is_named name r) (λ e.
    let same : r.name ≡ name = (bytes_eq-Decides r.name name).0 e in
    both_ways (has_key (place_of_key name) r) other (eq-eqb (place_of_key r.name) (place_of_key name) (ap place_of_key same)))

-- what was found at this place and after it: the first that passes
abbrev pub IsFirstFrom : (RecordEntry → Bool) → List RecordEntry → ℕ → Option ℕ → Type 0
IsFirstFrom p records at None = (j : ℕ) (d : RecordEntry) → at ≤ j → j < length records → p (get_or records j d) ≡ false
IsFirstFrom p records at (Some i) =
    (at ≤ i) × (i < length records) × ((d : RecordEntry) → p (get_or records i d) ≡ true) × ((j : ℕ) (d : RecordEntry) → at ≤ j → j < i → p (get_or records j d) ≡ false)

-- a walk along the chain of a name's key that has come to this place
pub record IsWalked (records : List RecordEntry) (name : List ℕ) (at : ℕ) (found : Option ℕ) : Type 0 where
  pub within : at ≤ length records
  pub in_chain : (j : ℕ) (d : RecordEntry) → suc j ≡ at → has_key (place_of_key name) (get_or records j d) ≡ true
  pub so_far : IsFirstFrom (is_named name) records at found

pub begun : (records : List RecordEntry) (name : List ℕ) (from : ℕ) → IsLastBelow (has_key (place_of_key name)) records (length records) from → IsWalked records name from None
begun records name from h = record {
  within = h.within;
  in_chain = h.passes;
  so_far = λ j d ge lt. other_key name (get_or records j d) (h.after j d ge lt);
}

-- what was found, where none of the places between passes
earlier : (p : RecordEntry → Bool) (records : List RecordEntry) (next at : ℕ) (found : Option ℕ) → next ≤ at → ((j : ℕ) (d : RecordEntry) → next ≤ j → j < at → p (get_or records j d) ≡ false) → IsFirstFrom p records at found → IsFirstFrom p records next found
earlier p records next at None le none h = λ j d ge lt. ⊎_elim (λ before. none j d ge before) (λ after. h j d after lt) (cases_lt j at)
earlier p records next at (Some i) le none h =
    (omega (arith, h.0), h.1, h.2, λ j d ge lt. ⊎_elim (λ before. none j d ge before) (λ after. h.3 j d after lt) (cases_lt j at))

-- the places before this one that are left out have another key
left_out : (records : List RecordEntry) (name : List ℕ) (next place : ℕ) → IsLastBelow (has_key (place_of_key name)) records place next → (j : ℕ) (d : RecordEntry) → next ≤ j → j < place → is_named name (get_or records j d) ≡ false
left_out records name next place h j d ge lt = other_key name (get_or records j d) (h.after j d ge lt)

at_place : (records : List RecordEntry) (name : List ℕ) (next place : ℕ) (found : Option ℕ) (r : RecordEntry) → place < length records → ((d : RecordEntry) → get_or records place d ≡ r) → IsLastBelow (has_key (place_of_key name)) records place next → IsFirstFrom (is_named name) records (suc place) found
    → (t : Bool) → is_named name r ≡ t → IsFirstFrom (is_named name) records next (if t then Some place else found)
at_place records name next place found r lt here h so_far true e =
    (h.within, lt, λ d. ap (is_named name) (here d) ∙ e, left_out records name next place h)
at_place records name next place found r lt here h so_far false e =
    earlier (is_named name) records next (suc place) found (omega (arith, h.within)) between so_far
  where
    between : (j : ℕ) (d : RecordEntry) → next ≤ j → j < suc place → is_named name (get_or records j d) ≡ false
    between j d ge below = ⊎_elim (λ same. ap (λ k. is_named name (get_or records k d)) same ∙ ap (is_named name) (here d) ∙ e) (λ other. left_out records name next place h j d ge (omega (arith, other))) (cases_eq j place)

-- one step along the chain
pub walked : (records : List RecordEntry) (before : List ℕ) (name : List ℕ) (at place : ℕ) (found : Option ℕ) (r : RecordEntry) → HasChains records before → IsWalked records name at found → at ≡ suc place → ((d : RecordEntry) → get_or records place d ≡ r) → IsWalked records name (get_or before place 0) (if is_named name r then Some place else found)
walked records before name at place found r chains h is here = record {
  within = omega (arith, step.within, h.within, is);
  in_chain = step.passes;
  so_far = at_place records name (get_or before place 0) place found r lt here step (subst (λ k. IsFirstFrom (is_named name) records k found) is h.so_far) (is_named name r) refl;
}
  where
    lt : place < length records
    lt = omega (arith, h.within, is)

    key : place_of_key (get_or records place r).name ≡ place_of_key name
    key = eqb-true (place_of_key (get_or records place r).name) (place_of_key name) (h.in_chain place r (sym is))

    step : IsLastBelow (has_key (place_of_key name)) records place (get_or before place 0)
    step = subst (λ k. IsLastBelow (has_key k) records place (get_or before place 0)) key (chains.goes_on place r lt)

-- at the end of the chain
pub ended : (records : List RecordEntry) (name : List ℕ) (at : ℕ) (found : Option ℕ) → IsWalked records name at found → at ≡ 0 → found ≡ position (is_named name) records
ended records name at None h is = sym (found_nowhere (is_named name) records (λ j d lt. h.so_far j d (omega arith) lt))
ended records name at (Some i) h is = sym (found_first (is_named name) records i h.so_far.1 h.so_far.2 (λ j d lt. h.so_far.3 j d (omega arith) lt))

-- ---- a record that is added

kept : (p : RecordEntry → Bool) (records : List RecordEntry) (r : RecordEntry) (m n : ℕ) → m ≤ length records → IsLastBelow p records m n → IsLastBelow p (records ++ r ∷ []) m n
kept p records r m n le h = record {
  within = h.within;
  passes = λ j d is. ap p (get_or_append_left records (r ∷ []) d j (omega (arith, is, h.within))) ∙ h.passes j d is;
  after = λ j d ge lt. ap p (get_or_append_left records (r ∷ []) d j (omega arith)) ∙ h.after j d ge lt;
}

abbrev GoesOn : List RecordEntry → List ℕ → ℕ → RecordEntry → Type 0
GoesOn records before i d = IsLastBelow (has_key (place_of_key (get_or records i d).name)) records i (get_or before i 0)

pub chains_more : (records : List RecordEntry) (before : List ℕ) (r : RecordEntry) (n : ℕ) → HasChains records before → IsLastBelow (has_key (place_of_key r.name)) records (length records) n → HasChains (records ++ r ∷ []) (before ++ n ∷ [])
chains_more records before r n h last = record {
  whole = length_push before n ∙ ap (λ k. k + 1) h.whole ∙ sym (length_push records r);
  goes_on = λ i d lt. ⊎_elim (old i d) (new i d lt) (cases_lt i (length records));
}
  where
    old : (i : ℕ) (d : RecordEntry) → i < length records → GoesOn (records ++ r ∷ []) (before ++ n ∷ []) i d
    old i d lt =
        rw (get_or_append_left records (r ∷ []) d i lt, get_or_append_left before (n ∷ []) 0 i (omega (arith, h.whole)))
        (kept (has_key (place_of_key (get_or records i d).name)) records r i (get_or before i 0) (omega arith) (h.goes_on i d lt))

    new : (i : ℕ) (d : RecordEntry) → i < length (records ++ r ∷ []) → length records ≤ i → GoesOn (records ++ r ∷ []) (before ++ n ∷ []) i d
    new i d lt ge =
        let more : length (records ++ r ∷ []) ≡ length records + 1 = length_push records r in
        let at : length records ≡ i = omega arith in
        rw (get_or_push records r d i at, get_or_push before n 0 i (h.whole ∙ at))
        (subst (λ k. IsLastBelow (has_key (place_of_key r.name)) (records ++ r ∷ []) k n) at (kept (has_key (place_of_key r.name)) records r (length records) n (omega arith) last))

pub starts_more : (records : List RecordEntry) (last : List ℕ) (r : RecordEntry) (key n : ℕ) → HasStarts records last → key ≡ place_of_key r.name → key < 256 → n ≡ length records + 1 → HasStarts (records ++ r ∷ []) (set last key n)
starts_more records last r key n h is lt count = record {
  all_keys = length-set last key n ∙ h.all_keys;
  starts = λ k below. ⊎_elim (own k) (others k below) (cases_eq k key);
}
  where
    long : length (records ++ r ∷ []) ≡ length records + 1
    long = length_push records r

    own : (k : ℕ) → k ≡ key → IsLastBelow (has_key k) (records ++ r ∷ []) (length (records ++ r ∷ [])) (get_or (set last key n) k 0)
    own k same =
        rw (same, get_or-set_same last key n 0 (omega (arith, h.all_keys)), long, count)
        (record {
          within = omega arith;
          passes = λ j d e. ap (has_key key) (get_or_push records r d j (omega arith)) ∙ eq-eqb (place_of_key r.name) key (sym is);
          after = λ j d ge below. absurd (omega arith);
        })

    others : (k : ℕ) → k < 256 → (k ≡ key → ⊥) → IsLastBelow (has_key k) (records ++ r ∷ []) (length (records ++ r ∷ [])) (get_or (set last key n) k 0)
    others k below other =
        let before = kept (has_key k) records r (length records) (get_or last k 0) (omega arith) (h.starts k below) in
        rw (get_or-set_other last key k n 0 other, long)
        (record {
          within = omega (arith, before.within);
          passes = before.passes;
          after = λ j d ge lt. ⊎_elim (λ old. before.after j d ge old) (λ new. ap (has_key k) (get_or_push records r d j (omega (arith, new, lt))) ∙ ne_eqb (place_of_key r.name) k (λ e. other (sym e ∙ sym is))) (cases_lt j (length records));
        })

nothing_below : (p : RecordEntry → Bool) → IsLastBelow p [] 0 0
nothing_below p = record {
  within = omega arith;
  passes = λ j d e. (cc);
  after = λ j d ge lt. absurd (omega arith);
}

pub no_chains : HasChains [] []
no_chains = record {
  whole = refl;
  goes_on = λ i d lt. absurd (omega arith);
}

nothing_stands : (k : ℕ) → ◌≡◌ {A = ℕ} (get_or (replicate 256 0) k 0) 0
nothing_stands k = nothing_kept 0 256 k

pub no_starts : HasStarts [] (replicate 256 0)
no_starts = record {
  all_keys = refl;
  starts = λ k below. subst (λ n. IsLastBelow (has_key k) [] 0 n) (sym (nothing_stands k)) (nothing_below (has_key k));
}
