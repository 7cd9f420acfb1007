-- Which office is named, by what offices gave and by what their journals tell.
use Rattle.std.proofs.Common.{◌≡◌, ℕ, zero, suc, ◌+◌, ◌<◌, ◌≤◌, Bool, true, false, cond, List, [], ◌∷◌, length, map, take, get_or, Option, None, Some, refl, sym, ap, subst, ◌∙◌, arith, inl, inr, ◌⊎◌, ⊎_elim}
use Rattle.std.specs.Prelude.{slice_get, nat_lt, is_some, if◌then◌else◌}
use Rattle.std.proofs.lemmas.Bool.{cases_lt, lt-ltb, le-ltb}
use Rattle.std.proofs.lemmas.List.{length-map, get_or-map}
use Rattle.frame_codec.specs.Frame.{Fields}
use Rattle.office_map.specs.PlanValue.{PlanValue}
use Rattle.office_journal.specs.declared.event.Event.{Event}
use Rattle.office_journal.specs.declared.event.Event.TheVariants as event
use Rattle.office_journal.specs.declared.event.Entry.{Entry}
use Rattle.journal_weave.specs.declared.given.GivenJournal.{GivenJournal}
use Rattle.journal_weave.specs.declared.stop.Stop.{Stop}
use Rattle.journal_weave.specs.Weaving.{untagged}
use Rattle.journal_weave.specs.Given.{told_in, lines_in, lines_of, Stands, HasMade, IsFrameFor, TakesNext, Waits, IsLeastOffice, IsNamed}
use Rattle.journal_weave.specs.ReplayValue.{ReplayValue}
use Rattle.journal_weave.specs.Replays.{given, given_at, IsReplay, AreReplays, StopsSo, TakesAs}
use Rattle.journal_weave.specs.refinement.Standing.{IsAt, IsLeft, StandsBefore, frame_taken, of_entry, of_stop, taken_next, WaitsIn}
use Rattle.journal_weave.proofs.EntriesTold.{some_below}
use Rattle.journal_weave.proofs.Limits.{told_at, lines_at, lines_past}
use Rattle.journal_weave.proofs.Pushing.{told_from}

-- ---- entries with their tags, and without

pub office_from : (n : ℕ) (xs ys : List Entry) (i : ℕ) (y : Entry) → take n ys ≡ map untagged (take n xs) → i < n → slice_get xs i ≡ Some y → slice_get ys i ≡ Some (untagged y)
office_from zero xs ys i y e lt at = absurd (omega (arith, lt))
office_from (suc n) [] ys zero y e lt at = cc
office_from (suc n) [] ys (suc i) y e lt at = cc
office_from (suc n) (x ∷ xs) [] i y e lt at = cc
office_from (suc n) (x ∷ xs) (z ∷ ys) zero y e lt at = cc
office_from (suc n) (x ∷ xs) (z ∷ ys) (suc i) y e lt at = let rest : take n ys ≡ map untagged (take n xs) = cc in office_from n xs ys i y rest (omega (arith, lt)) at

first_of : (n k : ℕ) (xs ys : List Entry) → k ≤ n → take n ys ≡ map untagged (take n xs) → take k ys ≡ map untagged (take k xs)
first_of n zero xs ys le e = refl
first_of zero (suc k) xs ys le e = absurd (omega (arith, le))
first_of (suc n) (suc k) [] [] le e = refl
first_of (suc n) (suc k) [] (y ∷ ys) le e = cc
first_of (suc n) (suc k) (x ∷ xs) [] le e = cc
first_of (suc n) (suc k) (x ∷ xs) (y ∷ ys) le e =
    let rest : take n ys ≡ map untagged (take n xs) = cc in
    let head : y ≡ untagged x = cc in
    ap (λ z. z ∷ take k ys) head ∙ ap (λ l. untagged x ∷ l) (first_of n k xs ys (omega (arith, le)) rest)

made_untagged : (xs : List Entry) (to number : ℕ) → HasMade (map untagged xs) to number → HasMade xs to number
made_untagged xs to number (k, x, lt, is, h) =
    let within : k < length xs = omega (arith, lt, length-map xs untagged) in
    let there : get_or (map untagged xs) k x ≡ untagged (get_or xs k x) = get_or-map untagged xs k x x within in
    let y : Entry = get_or xs k x in
    (k, y, within, same_there xs k x y within refl, subst (λ (z : Entry). IsFrameFor to number z.reply) (sym is ∙ there) h)
  where
    same_there : (xs : List Entry) (k : ℕ) (d y : Entry) → k < length xs → y ≡ get_or xs k d → get_or xs k y ≡ y
    same_there [] k d y lt e = absurd (omega (arith, lt))
    same_there (x ∷ xs) zero d y lt e = sym e
    same_there (x ∷ xs) (suc k) d y lt e = same_there xs k d y (omega (arith, lt)) e

made_tagged : (xs : List Entry) (to number : ℕ) → HasMade xs to number → HasMade (map untagged xs) to number
made_tagged xs to number (k, x, lt, is, h) =
    (k, untagged x, omega (arith, lt, length-map xs untagged), get_or-map untagged xs k x (untagged x) lt ∙ ap untagged is, h)

-- ---- one office

module _ (plan : PlanValue) (a : ℕ) (j : GivenJournal) (r : ReplayValue) (n : ℕ) (h : IsReplay plan a j.entries.items j.ends r) (le : n ≤ given r) where
  abbrev xs : List Entry
  xs = j.entries.items

  left_by : (o : Option Stop) → StopsSo xs j.ends (length r.site.entries) o → r.stop ≡ o → IsLeft r n → n < lines_in j
  left_by None s e (inl lt) = omega (arith, lt, h.limit.within)
  left_by None s e (inr some) = absurd (let no : is_some r.stop ≡ false = ap is_some e in cc)
  left_by (Some stop) s e left =
      let at : given r ≡ stop.given = ap (λ o. given_at (length r.site.entries) o) e in
      omega (arith, le, at, s.0)

  pub lines_left : IsLeft r n → n < lines_in j
  lines_left left = left_by r.stop h.stops refl left

  left_by_lines : (o : Option Stop) → StopsSo xs j.ends (length r.site.entries) o → r.stop ≡ o → n < lines_in j → IsLeft r n
  left_by_lines None s e lt =
      let at : given r ≡ length r.site.entries = ap (λ o. given_at (length r.site.entries) o) e in
      let whole : lines_in j ≡ length xs = ap (λ b. length xs + (if b then 0 else 1)) s.1 ∙ omega arith in
      inl (omega (arith, lt, whole, s.0, at))
  left_by_lines (Some stop) s e lt = inr (ap is_some e)

  pub is_left : n < lines_in j → IsLeft r n
  is_left lt = left_by_lines r.stop h.stops refl lt

  frame_of : (e : Event) (f : Fields) → frame_taken e ≡ Some f → e ≡ event.Took f
  frame_of (event.Submit p) f is = cc
  frame_of (event.Do x) f is = cc
  frame_of (event.Send v i) f is = cc
  frame_of (event.Withdraw t) f is = cc
  frame_of (event.Took g) f is = let same : g ≡ f = cc in ap event.Took same

  entry_of : (o : Option Entry) (f : Fields) → of_entry o ≡ Some f → (x : Entry) × (o ≡ Some x) × (x.event ≡ event.Took f)
  entry_of None f is = cc
  entry_of (Some x) f is = (x, refl, frame_of x.event f is)

  pub takes : (f : Fields) → taken_next r n ≡ Some f → TakesNext xs n f
  takes f is = ⊎_elim inside beyond (cases_lt n (given r))
    where
      chosen : (b : Bool) → nat_lt n (given r) ≡ b → taken_next r n ≡ cond b (of_entry (slice_get r.site.entries n)) (of_stop r.stop)
      chosen b e = ap (λ x. cond x (of_entry (slice_get r.site.entries n)) (of_stop r.stop)) e

      inside : n < given r → TakesNext xs n f
      inside lt =
          let x = entry_of (slice_get r.site.entries n) f (sym (chosen true (lt-ltb n (given r) lt)) ∙ is) in
          let y = told_from (given r) xs r.site.entries n x.0 h.has lt x.1 in
          (y.0, y.1, ap (λ (z : Entry). z.event) y.2 ∙ x.2)

      by_stop : (o : Option Stop) → StopsSo xs j.ends (length r.site.entries) o → r.stop ≡ o → given r ≤ n → of_stop r.stop ≡ Some f → TakesNext xs n f
      by_stop None s e ge of = absurd (let no : of_stop r.stop ≡ None = ap of_stop e in cc)
      by_stop (Some stop) s e ge of =
          let at : given r ≡ stop.given = ap (λ o. given_at (length r.site.entries) o) e in
          let same : stop.given ≡ n = omega (arith, at, ge, le) in
          let frame : stop.takes ≡ Some f = sym (ap of_stop e) ∙ of in
          subst (λ k. TakesNext xs k f) same (subst (TakesAs xs stop.given) frame s.1)

      beyond : given r ≤ n → TakesNext xs n f
      beyond ge = by_stop r.stop h.stops refl ge (sym (chosen false (le-ltb n (given r) ge)) ∙ is)

  -- and whatever is taken next is found so
  pub found : (f : Fields) → TakesNext xs n f → taken_next r n ≡ Some f
  found f (y, at, is) = ⊎_elim inside beyond (cases_lt n (given r))
    where
      chosen : (b : Bool) → nat_lt n (given r) ≡ b → taken_next r n ≡ cond b (of_entry (slice_get r.site.entries n)) (of_stop r.stop)
      chosen b e = ap (λ x. cond x (of_entry (slice_get r.site.entries n)) (of_stop r.stop)) e

      inside : n < given r → taken_next r n ≡ Some f
      inside lt = chosen true (lt-ltb n (given r) lt) ∙ ap of_entry (office_from (given r) xs r.site.entries n y h.has lt at) ∙ ap frame_taken is

      by_stop : (o : Option Stop) → StopsSo xs j.ends (length r.site.entries) o → r.stop ≡ o → given r ≤ n → of_stop r.stop ≡ Some f
      by_stop None s e ge =
          let at_end : given r ≡ length r.site.entries = ap (λ o. given_at (length r.site.entries) o) e in
          let lt : n < length xs = some_below xs n y at in
          absurd (omega (arith, lt, ge, at_end, s.0))
      by_stop (Some stop) s e ge =
          let given_is : given r ≡ stop.given = ap (λ o. given_at (length r.site.entries) o) e in
          let same : stop.given ≡ n = omega (arith, given_is, ge, le) in
          ap of_stop e ∙ by_frame stop.takes (subst (λ k. TakesAs xs k stop.takes) same s.1)
        where
          by_frame : (o : Option Fields) → TakesAs xs n o → o ≡ Some f
          by_frame None t = absurd (t f (y, at, is))
          by_frame (Some g) (z, there, takes_g) =
              let both : Some y ≡ Some z = sym at ∙ there in
              let one : y ≡ z = cc in
              let frames : event.Took g ≡ event.Took f = sym takes_g ∙ ap (λ (w : Entry). w.event) (sym one) ∙ is in
              let same_frame : g ≡ f = cc in
              ap Some same_frame

      beyond : given r ≤ n → taken_next r n ≡ Some f
      beyond ge = chosen false (le-ltb n (given r) ge) ∙ by_stop r.stop h.stops refl ge

  pub made_told : (to number : ℕ) → HasMade (take n r.site.entries) to number → HasMade (take n xs) to number
  made_told to number made = made_untagged (take n xs) to number (subst (λ l. HasMade l to number) (first_of (given r) n xs r.site.entries le h.has) made)

  pub told_made : (to number : ℕ) → HasMade (take n xs) to number → HasMade (take n r.site.entries) to number
  told_made to number made = subst (λ l. HasMade l to number) (sym (first_of (given r) n xs r.site.entries le h.has)) (made_tagged (take n xs) to number made)

-- ---- all of them

module _ (plan : PlanValue) (journals : List GivenJournal) (rs : List ReplayValue) (at : List ℕ) (are : AreReplays plan journals rs) (within : (a : ℕ) → get_or at a 0 ≤ get_or (map given rs) a 0) where
  abbrev at_of : ℕ → ℕ
  at_of b = get_or at b 0

  limit_of : (a : ℕ) (r : ReplayValue) → IsAt rs a r → at_of a ≤ given r
  limit_of a r (lt, is) = omega (arith, within a, get_or-map given rs a r 0 lt ∙ ap given (sym is))

  -- of each office that is there its journal and what follows it
  record There (a : ℕ) : Type 0 where
    j : GivenJournal
    r : ReplayValue
    is : IsAt rs a r
    told : told_in journals a ≡ j.entries.items
    lines : lines_of journals a ≡ lines_in j
    follows : IsReplay plan a j.entries.items j.ends r
    le : at_of a ≤ given r

  nth : {X : Type 0} (l : List X) (a : ℕ) → a < length l → (x : X) × (x ≡ get_or l a x)
  nth [] a lt = absurd (omega (arith, lt))
  nth (x ∷ l) zero lt = (x, refl)
  nth (x ∷ l) (suc a) lt = nth l a (omega (arith, lt))

  abbrev there_with : (a : ℕ) (r : ReplayValue) → IsAt rs a r → There a
  there_with a r is =
      let inside : a < length journals = omega (arith, is.0, are.count) in
      let j = nth journals a inside in
      record { j = j.0; r = r; is = is; told = told_at journals a j.0 inside j.1; lines = lines_at journals a j.0 inside j.1; follows = are.each a j.0 r is.0 j.1 is.1; le = limit_of a r is }

  pub stands : (a : ℕ) → StandsBefore rs at a → Stands journals at_of a
  stands a (r, is, left) = let t = there_with a r is in omega (arith, t.lines, lines_left plan a t.j t.r (at_of a) t.follows t.le left)

  there_inside : (a : ℕ) → Stands journals at_of a → There a
  there_inside a s =
      let inside : a < length journals = ⊎_elim (λ lt. lt) (λ ge. absurd (omega (arith, s, lines_past journals a ge))) (cases_lt a (length journals)) in
      let r = nth rs a (omega (arith, inside, are.count)) in
      there_with a r.0 (omega (arith, inside, are.count), r.1)

  pub stood : (a : ℕ) → Stands journals at_of a → StandsBefore rs at a
  stood a s = let t = there_inside a s in (t.r, t.is, is_left plan a t.j t.r (at_of a) t.follows t.le (omega (arith, t.lines, s)))

  pub waits : (a : ℕ) → WaitsIn rs at a → Waits journals at_of a
  waits a w =
      let t = there_with a w.mine w.is in
      record {
        frame = w.frame;
        takes = subst (λ l. TakesNext l (at_of a) w.frame) (sym t.told) (takes plan a t.j t.r (at_of a) t.follows t.le w.frame w.takes);
        sender_stands = stands w.frame.from w.comes.stands;
        none_made = λ made.
            let s = there_with w.frame.from w.comes.stands.0 w.comes.stands.1 in
            w.comes.none_made s.r s.is (told_made plan w.frame.from s.j s.r (at_of w.frame.from) s.follows s.le a w.frame.number (subst (λ l. HasMade (take (at_of w.frame.from) l) a w.frame.number) s.told made));
      }

  pub waited : (a : ℕ) → a < length rs → Waits journals at_of a → WaitsIn rs at a
  waited a lt w =
      let r = nth rs a lt in
      let t = there_with a r.0 (lt, r.1) in
      record {
        mine = t.r;
        is = t.is;
        frame = w.frame;
        takes = found plan a t.j t.r (at_of a) t.follows t.le w.frame (subst (λ l. TakesNext l (at_of a) w.frame) t.told w.takes);
        comes = record {
          stands = stood w.frame.from w.sender_stands;
          none_made = λ s is made.
              let sender = there_with w.frame.from s is in
              w.none_made (subst (λ l. HasMade (take (at_of w.frame.from) l) a w.frame.number) (sym sender.told) (made_told plan w.frame.from sender.j sender.r (at_of w.frame.from) sender.follows sender.le a w.frame.number made));
        };
      }

  inside_of : (a : ℕ) → StandsBefore rs at a → a < length rs
  inside_of a (r, is, left) = is.0

  pub none_stands : ((a : ℕ) → StandsBefore rs at a → ⊥) → (a : ℕ) → Stands journals at_of a → ⊥
  none_stands none a s = none a (stood a s)

  pub named : (a : ℕ) → IsLeastOffice (λ b. StandsBefore rs at b × (WaitsIn rs at b → ⊥)) a ⊎ (((b : ℕ) → StandsBefore rs at b → WaitsIn rs at b) × IsLeastOffice (StandsBefore rs at) a) → IsNamed journals at_of a
  named a (inl ((s, free), least)) = inl (
    (stands a s, λ w. free (waited a (inside_of a s) w)),
    λ b lt other. least b lt (stood b other.0, λ w. other.1 (waits b w)),
  )
  named a (inr (wait, (s, least))) = inr (
    λ b other. waits b (wait b (stood b other)),
    (stands a s, λ b lt other. least b lt (stood b other)),
  )
