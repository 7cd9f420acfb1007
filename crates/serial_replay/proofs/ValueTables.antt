-- Tables of values, and what one more session changes.
use Rattle.std.proofs.Common.{◌≡◌, ℕ, zero, suc, ◌<◌, ◌+◌, List, [], ◌∷◌, ◌++◌, length, map, take, get_or, Bool, true, false, ◌==◌, ◌&&◌, Option, Some, None, nat_lt, if◌then◌else◌, slice_get, count_by, All, IsTrue, refl, sym, ap, subst, ◌∙◌, arith}
use Rattle.std.proofs.lemmas.List.{take_more, length-append, get_or-set_same, get_or-set_other}
use Rattle.std.proofs.lemmas.List.Sums.{count_by_more_yes, count_by_more_no}
use Rattle.std.proofs.lemmas.Option.{slice_get_within, get_or_from_slice_get}
use Rattle.std.proofs.lemmas.List.Elements.{All-cons, All-tail}
use Rattle.std.proofs.lemmas.Bool.Decides.{nat_tests}
use Rattle.std.proofs.Math.ListN.{set}
use Rattle.std.specs.Option.{option_map_or}
use Rattle.std.specs.List.{list_all, zip, slice_index_or}
use Rattle.bottle_values.specs.declared.Value.{Value}
use Rattle.bottle_values.specs.Maps.{put, reads_of, write_all}
use Rattle.office_map.specs.PlanValue.{PlanValue, is_end, has_end, start_values}
use Rattle.session_meaning.specs.ProgramValue.{ProgramValue}
use Rattle.session_programs.specs.measures.Needs.{needs_of}
use Rattle.session_programs.specs.Program.{fits}
use Rattle.session_meaning.specs.declared.ending.Ending.{Ending}
use Rattle.session_meaning.specs.declared.ending.Outcome.{Outcome}
use Rattle.serial_replay.specs.Serial.{ticket_of, outcomes_after, map_of, map_after, start_map, ending_on, ListsValues}
use Rattle.bottle_values.specs.Operations.{nought}

-- each record of the list is one of the plan's
ends_within : (p : PlanValue) (office : ℕ) (rs : List ℕ) → list_all (λ r. is_end p r office) rs ≡ true → All (λ r. r < length p.records) rs
ends_within p office [] h = λ k d lt. absurd (omega arith)
ends_within p office (r ∷ rs) h = by_test (slice_get p.records r) refl h (ends_within p office rs)
  where
    by_test : (o : Option _) → slice_get p.records r ≡ o → (option_map_or (λ e. has_end e office) o false && list_all (λ r. is_end p r office) rs) ≡ true
        → (list_all (λ r. is_end p r office) rs ≡ true → All (λ r. r < length p.records) rs) → All (λ r. r < length p.records) (r ∷ rs)
    by_test (Some e) is h more = All-cons (λ r. r < length p.records) r rs (slice_get_within p.records r e is) (more (grind (h, arith)))
    by_test None is h more = (cc)

pub fits_records : (p : PlanValue) (x : ProgramValue) → IsTrue (fits p x) → All (λ r. r < length p.records) (needs_of x.body)
fits_records p x h = ends_within p x.office (needs_of x.body) (grind (h, arith))

pub fits_office : (p : PlanValue) (x : ProgramValue) → IsTrue (fits p x) → x.office < length p.offices
fits_office p x h = grind (h, arith, nat_tests)

-- the values that a table has for these records are the map's
pub gathered : (vs : List Value) (n : ℕ) (m : ℕ → Value) (rs : List ℕ) → ListsValues vs n m → All (λ r. r < n) rs → zip rs (map (λ r. get_or vs r nought) rs) ≡ reads_of rs m
gathered vs n m [] t h = refl
gathered vs n m (r ∷ rs) t h =
    let at : get_or vs r nought ≡ m r = get_or_from_slice_get vs r (m r) nought (t.each r (h zero 0 (omega arith))) in
    ap (λ v. (r, v) ∷ zip rs (map (λ r. get_or vs r nought) rs)) at ∙ ap (λ ws. (r, m r) ∷ ws) (gathered vs n m rs t (All-tail (λ r. r < n) r rs h))

-- a table with one value changed is the changed map's
set_at : (vs : List Value) (r : ℕ) (v : Value) (j : ℕ) (w : Value) → slice_get vs j ≡ Some w → slice_get (set vs r v) j ≡ Some (if j == r then v else w)
set_at [] r v j w h = (cc)
set_at (x ∷ xs) zero v zero w h = refl
set_at (x ∷ xs) zero v (suc j) w h =
    let e : (suc j == 0) ≡ false = grind (arith, nat_tests) in
    h ∙ ap (λ b. Some (if b then v else w)) (sym e)
set_at (x ∷ xs) (suc r) v zero w h =
    let e : (0 == suc r) ≡ false = grind (arith, nat_tests) in
    h ∙ ap (λ b. Some (if b then v else w)) (sym e)
set_at (x ∷ xs) (suc r) v (suc j) w h =
    let e : (suc j == suc r) ≡ (j == r) = grind (arith, nat_tests) in
    set_at xs r v j w h ∙ ap (λ b. Some (if b then v else w)) (sym e)

length-set_same : (vs : List Value) (r : ℕ) (v : Value) → length (set vs r v) ≡ length vs
length-set_same [] r v = refl
length-set_same (x ∷ xs) zero v = refl
length-set_same (x ∷ xs) (suc r) v = ap suc (length-set_same xs r v)

pub write_more : (ws : List (ℕ × Value)) (m : ℕ → Value) (w : ℕ × Value) → write_all (ws ++ w ∷ []) m ≡ put (write_all ws m) w.0 w.1
write_more [] m w = refl
write_more (x ∷ ws) m w = write_more ws (put m x.0 x.1) w

pub map_more : (m : ℕ → Value) (ps : List ProgramValue) (p : ProgramValue) → map_of m (ps ++ p ∷ []) ≡ map_after p (map_of m ps)
map_more m [] p = refl
map_more m (q ∷ qs) p = map_more (map_after q m) qs p

abbrev pub outcome_after : List ProgramValue → (ℕ → Value) → ProgramValue → Outcome
outcome_after before m p = record { office = p.office; ticket = ticket_of before p; ending = ending_on p m }

append_nil : {X : Type 0} (xs : List X) → xs ++ [] ≡ xs
append_nil [] = refl
append_nil (z ∷ zs) = ap (λ l. z ∷ l) (append_nil zs)

append_one : {X : Type 0} (xs : List X) (x : X) (ys : List X) → (xs ++ x ∷ []) ++ ys ≡ xs ++ x ∷ ys
append_one [] x ys = refl
append_one (z ∷ zs) x ys = ap (λ l. z ∷ l) (append_one zs x ys)

outcomes_further : (before : List ProgramValue) (m : ℕ → Value) (ps : List ProgramValue) (p : ProgramValue)
    → outcomes_after before m (ps ++ p ∷ []) ≡ outcomes_after before m ps ++ outcome_after (before ++ ps) (map_of m ps) p ∷ []
outcomes_further before m [] p =
    let e : before ≡ before ++ [] = sym (append_nil before) in
    ap (λ b. outcome_after b m p ∷ []) e
outcomes_further before m (q ∷ qs) p =
    ap (λ os. outcome_after before m q ∷ os) (outcomes_further (before ++ q ∷ []) (map_after q m) qs p
    ∙ ap (λ b. outcomes_after (before ++ q ∷ []) (map_after q m) qs ++ outcome_after b (map_of (map_after q m) qs) p ∷ []) (append_one before q qs))

pub outcomes_more : (m : ℕ → Value) (ps : List ProgramValue) (p : ProgramValue)
    → outcomes_after [] m (ps ++ p ∷ []) ≡ outcomes_after [] m ps ++ outcome_after ps (map_of m ps) p ∷ []
outcomes_more m ps p = outcomes_further [] m ps p

more_at : (vs : List Value) (v : Value) (j : ℕ) (w : Value) → slice_get vs j ≡ Some w → slice_get (vs ++ v ∷ []) j ≡ Some w
more_at [] v j w h = (cc)
more_at (x ∷ xs) v zero w h = h
more_at (x ∷ xs) v (suc j) w h = more_at xs v j w h

last_at : (vs : List Value) (v : Value) → slice_get (vs ++ v ∷ []) (length vs) ≡ Some v
last_at [] v = refl
last_at (x ∷ xs) v = last_at xs v

-- one row more
table_more : (vs : List Value) (n : ℕ) (m : ℕ → Value) (v : Value) → ListsValues vs n m → v ≡ m n → ListsValues (vs ++ v ∷ []) (n + 1) m
table_more vs n m v t e = record { size = length-append vs (v ∷ []) ∙ ap (λ k. k + 1) t.size; each = λ j lt. by_test j lt (nat_lt j n) refl }
  where
    by_test : (j : ℕ) → j < n + 1 → (b : Bool) → nat_lt j n ≡ b → slice_get (vs ++ v ∷ []) j ≡ Some (m j)
    by_test j lt true h = more_at vs v j (m j) (t.each j (grind (h, arith, nat_tests)))
    by_test j lt false h =
        let s : length vs ≡ j = grind (h, lt, t.size, arith, nat_tests) in
        let k : n ≡ j = grind (h, lt, arith, nat_tests) in
        ap (λ i. slice_get (vs ++ v ∷ []) i) (sym s) ∙ last_at vs v ∙ ap Some e ∙ ap (λ i. Some (m i)) k

pub start_more : (p : PlanValue) (vs : List Value) (n : ℕ) (v : Value) → ListsValues vs n (start_map p) → slice_get (start_values p) n ≡ Some v
    → ListsValues (vs ++ v ∷ []) (n + 1) (start_map p)
start_more p vs n v t h =
    let e : slice_index_or (start_values p) n nought ≡ v = get_or_from_slice_get (start_values p) n v nought h in
    table_more vs n (start_map p) v t (sym e)

pub table_written : (vs : List Value) (n : ℕ) (m : ℕ → Value) (ws : List (ℕ × Value)) (i : ℕ) (w : ℕ × Value) → i < length ws → w ≡ get_or ws i w
    → ListsValues vs n (put (write_all (take i ws) m) w.0 w.1) → ListsValues vs n (write_all (take (i + 1) ws) m)
table_written vs n m ws i w lt is t =
    let e : put (write_all (take i ws) m) w.0 w.1 ≡ write_all (take (i + 1) ws) m =
    sym (write_more (take i ws) m w) ∙ ap (λ x. write_all (take i ws ++ x ∷ []) m) is ∙ ap (λ us. write_all us m) (sym (take_more ws i w lt)) in
    rw e at t

-- how many of these sessions are of this office
abbrev pub sessions_of_office : ℕ → List ProgramValue → ℕ
sessions_of_office o ps = count_by (λ (q : ProgramValue). q.office == o) ps

-- the counts of the offices' sessions
abbrev pub IsCounts : List ℕ → List ProgramValue → Type 0
IsCounts cs ps = (o : ℕ) → o < length cs → get_or cs o 0 ≡ sessions_of_office o ps

pub length-set_at : (cs : List ℕ) (r v : ℕ) → length (set cs r v) ≡ length cs
length-set_at [] r v = refl
length-set_at (x ∷ xs) zero v = refl
length-set_at (x ∷ xs) (suc r) v = ap suc (length-set_at xs r v)

pub counts_more : (cs : List ℕ) (ps : List ProgramValue) (i : ℕ) (p : ProgramValue) → i < length ps → p ≡ get_or ps i p → p.office < length cs
    → IsCounts cs (take i ps) → IsCounts (set cs p.office (get_or cs p.office 0 + 1)) (take (i + 1) ps)
counts_more cs ps i p lt is office h o within = by_test (o == p.office) refl
  where
    test : ProgramValue → Bool
    test q = q.office == o

    at : p ≡ get_or ps i p
    at = is

    by_test : (b : Bool) → (o == p.office) ≡ b → get_or (set cs p.office (get_or cs p.office 0 + 1)) o 0 ≡ sessions_of_office o (take (i + 1) ps)
    by_test true e =
        let k : o ≡ p.office = grind (e, arith, nat_tests) in
        let y : (p.office == o) ≡ true = grind (e, arith, nat_tests) in
        let yes' : test (get_or ps i p) ≡ true = rw is at y in
        ap (λ x. get_or (set cs p.office (get_or cs p.office 0 + 1)) x 0) k ∙ get_or-set_same cs p.office (get_or cs p.office 0 + 1) 0 office
        ∙ ap (λ x. x + 1) (ap (λ x. get_or cs x 0) (sym k) ∙ h o (grind (k, office, arith))) ∙ sym (count_by_more_yes test ps i p lt yes')
    by_test false e =
        let y : (p.office == o) ≡ false = grind (e, arith, nat_tests) in
        let no' : test (get_or ps i p) ≡ false = rw is at y in
        get_or-set_other cs p.office o (get_or cs p.office 0 + 1) 0 (λ k. grind (e, k, arith, nat_tests))
        ∙ h o (grind (within, length-set_at cs p.office (get_or cs p.office 0 + 1), arith)) ∙ sym (count_by_more_no test ps i p lt no')

one_more : (ps : List ProgramValue) (i : ℕ) (p : ProgramValue) → i < length ps → p ≡ get_or ps i p → take i ps ++ p ∷ [] ≡ take (i + 1) ps
one_more ps i p lt is = ap (λ q. take i ps ++ q ∷ []) is ∙ sym (take_more ps i p lt)

-- the table after one session more
pub values_step : (m : ℕ → Value) (ps : List ProgramValue) (i : ℕ) (p : ProgramValue) (vs : List Value) (n : ℕ) (e : Ending) → i < length ps → p ≡ get_or ps i p
    → e ≡ ending_on p (map_of m (take i ps)) → ListsValues vs n (write_all e.writes (map_of m (take i ps))) → ListsValues vs n (map_of m (take (i + 1) ps))
values_step m ps i p vs n e lt is ends t =
    let a = rw ends at t in
    let b : map_after p (map_of m (take i ps)) ≡ map_of m (take (i + 1) ps) = sym (map_more m (take i ps) p) ∙ ap (λ qs. map_of m qs) (one_more ps i p lt is) in
    rw b at a

-- the outcomes after one session more
pub outcomes_step : (m : ℕ → Value) (ps : List ProgramValue) (i : ℕ) (p : ProgramValue) (os : List Outcome) (cs : List ℕ) (e : Ending) → i < length ps → p ≡ get_or ps i p
    → e ≡ ending_on p (map_of m (take i ps)) → p.office < length cs → IsCounts cs (take i ps) → os ≡ outcomes_after [] m (take i ps)
    → os ++ record { office = p.office; ticket = get_or cs p.office 0 + 1; ending = e } ∷ [] ≡ outcomes_after [] m (take (i + 1) ps)
outcomes_step m ps i p os cs e lt is ends office counts before =
    ap (λ x. x ++ record { office = p.office; ticket = get_or cs p.office 0 + 1; ending = e } ∷ []) before
    ∙ ap (λ k. outcomes_after [] m (take i ps) ++ record { office = p.office; ticket = k + 1; ending = e } ∷ []) (counts p.office office)
    ∙ ap (λ x. outcomes_after [] m (take i ps) ++ record { office = p.office; ticket = ticket_of (take i ps) p; ending = x } ∷ []) ends
    ∙ sym (outcomes_more m (take i ps) p) ∙ ap (λ qs. outcomes_after [] m qs) (one_more ps i p lt is)

pub own_size : (vs : List Value) (n : ℕ) (m : ℕ → Value) → ListsValues vs n m → ListsValues vs (length vs) m
own_size vs n m t = record { size = refl; each = λ r lt. t.each r (grind (lt, t.size, arith)) }

pub office_within : (plan : PlanValue) (ps : List ProgramValue) (i : ℕ) (p : ProgramValue) → All (λ q. IsTrue (fits plan q)) ps → i < length ps → p ≡ get_or ps i p
    → p.office < length plan.offices
office_within plan ps i p fit lt is = fits_office plan p (subst (λ q. IsTrue (fits plan q)) (sym is) (fit i p lt))
