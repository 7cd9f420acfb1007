-- The sessions that a journal submitted, beside an office's of a list.
use Rattle.std.proofs.Common.{◌≡◌, ◌⊎◌, ℕ, suc, ◌==◌, ◌+◌, ◌-◌, ◌≤◌, true, false, cond, List, [], ◌∷◌, ◌++◌, length, take, drop, Some, inl, inr, refl, sym, ap, subst, ◌∙◌, append_assoc, append-nil, arith, length-append, take-append-drop}
use Rattle.std.specs.Prelude.{slice_get}
use Rattle.std.proofs.Math.Seq.{drop-cons}
use Rattle.std.proofs.lemmas.Option.{slice_get_within, get_or_from_slice_get}
use Rattle.std.proofs.lemmas.List.Concat.{flat_map-append}
use Rattle.session_meaning.specs.ProgramValue.{ProgramValue}
use Rattle.office_journal.specs.declared.event.Event.{Event}
use Rattle.office_journal.specs.declared.event.Event.TheVariants.{Submit}
use Rattle.office_journal.specs.declared.event.Entry.{Entry}
use Rattle.bottle_values.specs.ListLaws.{first_more}
use Rattle.office_stations.specs.Rounds.{of_office}
use Rattle.stored_runs.specs.Keeping.{submitted, submitted_by, IsFirstOther}
use Rattle.stored_runs.specs.refinement.Submits.{IsNextOf}

-- ---- one place of a list

pub first_of_rest : {A : Type 0} (xs : List A) (n : ℕ) (x : A) → slice_get xs n ≡ Some x → drop n xs ≡ x ∷ drop (n + 1) xs
first_of_rest xs n x h =
    let next : suc n ≡ n + 1 = omega arith in
    drop-cons xs n x (slice_get_within xs n x h) ∙ ap (λ y. y ∷ drop (suc n) xs) (get_or_from_slice_get xs n x x h) ∙ ap (λ (m : ℕ). x ∷ drop m xs) next

pub split_at : {A : Type 0} (xs : List A) (n : ℕ) (x : A) → slice_get xs n ≡ Some x → xs ≡ take n xs ++ x ∷ drop (n + 1) xs
split_at xs n x h = sym (take-append-drop n xs) ∙ ap (λ l. take n xs ++ l) (first_of_rest xs n x h)

get_behind : {A : Type 0} (xs ys : List A) → slice_get (xs ++ ys) (length xs) ≡ slice_get ys 0
get_behind [] ys = refl
get_behind (x ∷ xs) ys = get_behind xs ys

take_front : {A : Type 0} (xs ys : List A) → take (length xs) (xs ++ ys) ≡ xs
take_front [] ys = refl
take_front (x ∷ xs) ys = ap (λ l. x ∷ l) (take_front xs ys)

drop_all : {A : Type 0} (xs : List A) → drop (length xs) xs ≡ []
drop_all [] = refl
drop_all (x ∷ xs) = drop_all xs

-- ---- the office's next

own : (me : ℕ) (ps : List ProgramValue) (n : ℕ) (p : ProgramValue) → slice_get ps n ≡ Some p → (p.office == me) ≡ true → of_office me (drop n ps) ≡ p ∷ of_office me (drop (n + 1) ps)
own me ps n p at mine = ap (of_office me) (first_of_rest ps n p at) ∙ ap (λ b. cond b (p ∷ of_office me (drop (n + 1) ps)) (of_office me (drop (n + 1) ps))) mine

other : (me : ℕ) (ps : List ProgramValue) (n : ℕ) (p : ProgramValue) → slice_get ps n ≡ Some p → (p.office == me) ≡ false → of_office me (drop n ps) ≡ of_office me (drop (n + 1) ps)
other me ps n p at theirs = ap (of_office me) (first_of_rest ps n p at) ∙ ap (λ b. cond b (p ∷ of_office me (drop (n + 1) ps)) (of_office me (drop (n + 1) ps))) theirs

-- ---- what was submitted

-- what was looked at so far
pub record Looked (me : ℕ) (programs : List ProgramValue) (entries : List Entry) (place next ticket : ℕ) : Type 0 where
  pub left : submitted (take place entries) ++ of_office me (drop next programs) ≡ of_office me programs
  pub number : ticket ≡ length (submitted (take place entries))
  pub within : next ≤ length programs
  pub few : ticket ≤ place

pub nothing_looked : (me : ℕ) (programs : List ProgramValue) (entries : List Entry) → Looked me programs entries 0 0 0
nothing_looked me programs entries = record { left = refl; number = refl; within = omega arith; few = omega arith }

submitted_more : (entries : List Entry) (place : ℕ) (e : Entry) → slice_get entries place ≡ Some e → submitted (take (place + 1) entries) ≡ submitted (take place entries) ++ submitted_by e.event
submitted_more entries place e at =
    ap submitted (first_more entries place e at) ∙ flat_map-append (λ (x : Entry). submitted_by x.event) (take place entries) (e ∷ []) ∙ ap (λ l. submitted (take place entries) ++ l) (append-nil (submitted_by e.event))

module _ (me : ℕ) (programs : List ProgramValue) (entries : List Entry) (place next ticket : ℕ) (e : Entry) (at : slice_get entries place ≡ Some e) (h : Looked me programs entries place next ticket) where
  -- it submits none
  pub none_submitted : submitted_by e.event ≡ [] → Looked me programs entries (place + 1) next ticket
  none_submitted none =
      let same : submitted (take (place + 1) entries) ≡ submitted (take place entries) = submitted_more entries place e at ∙ ap (λ l. submitted (take place entries) ++ l) none ∙ append-nil (submitted (take place entries)) in
      record { left = ap (λ l. l ++ of_office me (drop next programs)) same ∙ h.left; number = h.number ∙ ap length (sym same); within = h.within; few = omega (arith, h.few) }

  module _ (p : ProgramValue) (submits : e.event ≡ Submit p) (found : ℕ) (is : IsNextOf programs me next found) where
    grown : submitted (take (place + 1) entries) ≡ submitted (take place entries) ++ p ∷ []
    grown = submitted_more entries place e at ∙ ap (λ (x : Event). submitted (take place entries) ++ submitted_by x) submits

    from_found : submitted (take place entries) ++ of_office me (drop found programs) ≡ of_office me programs
    from_found = ap (λ l. submitted (take place entries) ++ l) (sym is.same) ∙ h.left

    -- it is the office's next
    pub one_submitted : slice_get programs found ≡ Some p → (found + 1 ≤ length programs) → Looked me programs entries (place + 1) (found + 1) (ticket + 1)
    one_submitted here room = record {
      left = ap (λ l. l ++ of_office me (drop (found + 1) programs)) grown ∙ append_assoc (submitted (take place entries)) (p ∷ []) (of_office me (drop (found + 1) programs)) ∙ ap (λ l. submitted (take place entries) ++ l) (sym (own me programs found p here (mine is.here))) ∙ from_found;
      number = omega (arith, h.number, ap length grown, length-append (submitted (take place entries)) (p ∷ []));
      within = room;
      few = omega (arith, h.few);
    }
      where
        mine : (found ≡ length programs) ⊎ ((q : ProgramValue) × (slice_get programs found ≡ Some q) × ((q.office == me) ≡ true)) → (p.office == me) ≡ true
        mine (inl end) = absurd (omega (arith, end, room))
        mine (inr (q, there, office)) = let same : Some q ≡ Some p = sym there ∙ here in cc (same, office)

    -- it is another
    pub another : (slice_get programs found ≡ Some p → ⊥) → IsFirstOther (submitted entries) (of_office me programs) (ticket + 1)
    another never = record {
      number = omega arith;
      within = omega (arith, h.number, ap length all, length-append front (p ∷ submitted (drop (place + 1) entries)));
      before = subst (λ (n : ℕ). take n (submitted entries) ≡ take n (of_office me programs)) (sym count) (ap (take (length front)) all ∙ take_front front (p ∷ submitted (drop (place + 1) entries)) ∙ sym (ap (take (length front)) (sym from_found) ∙ take_front front (of_office me (drop found programs))));
      other = λ same. differs is.here (sym (get_behind front (of_office me (drop found programs))) ∙ ap (λ l. slice_get l (length front)) from_found ∙ subst (λ (n : ℕ). slice_get (of_office me programs) n ≡ slice_get (submitted entries) n) count (sym same) ∙ ap (λ l. slice_get l (length front)) all ∙ get_behind front (p ∷ submitted (drop (place + 1) entries)));
    }
      where
        front : List ProgramValue
        front = submitted (take place entries)

        count : ticket + 1 - 1 ≡ length front
        count = omega (arith, h.number)

        all : submitted entries ≡ front ++ p ∷ submitted (drop (place + 1) entries)
        all =
            ap submitted (split_at entries place e at) ∙ flat_map-append (λ (x : Entry). submitted_by x.event) (take place entries) (e ∷ drop (place + 1) entries)
            ∙ ap (λ (x : Event). front ++ (submitted_by x ++ submitted (drop (place + 1) entries))) submits

        differs : (found ≡ length programs) ⊎ ((q : ProgramValue) × (slice_get programs found ≡ Some q) × ((q.office == me) ≡ true)) → slice_get (of_office me (drop found programs)) 0 ≡ Some p → ⊥
        differs (inl end) h0 = cc (sym (ap (λ l. slice_get (of_office me l) 0) (ap (λ (n : ℕ). drop n programs) end ∙ drop_all programs)) ∙ h0)
        differs (inr (q, there, office)) h0 = never (there ∙ (sym (ap (λ l. slice_get l 0) (own me programs found q there office)) ∙ h0))
