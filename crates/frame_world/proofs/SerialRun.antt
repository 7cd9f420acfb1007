-- A serial run with one program more, and what its writes change.
use Rattle.std.proofs.Common.{◌≡◌, ℕ, zero, suc, ◌<◌, true, cond, List, [], ◌∷◌, ◌++◌, length, map, refl, sym, ap, subst, ◌∙◌, arith, inl, inr, ◌⊎◌, ⊎_elim, append_assoc, append-nil}
use Rattle.std.specs.Prelude.{get_or, ◌==◌, All, Contains}
use Rattle.std.proofs.lemmas.Bool.{eqb-true, eq-eqb, cases_eq, or_cases, or_left, or_right}
use Rattle.std.proofs.lemmas.List.Elements.{All-head, All-tail}
use Rattle.bottle_values.specs.declared.Value.{Value}
use Rattle.bottle_values.specs.Lists.{is_among}
use Rattle.bottle_values.specs.Maps.{put, reads_of, write_all}
use Rattle.bottle_values.specs.MapLaws.{put_other}
use Rattle.session_meaning.specs.declared.ending.Outcome.{Outcome}
use Rattle.session_meaning.specs.ProgramValue.{ProgramValue}
use Rattle.session_programs.specs.measures.Needs.{needs_of}
use Rattle.session_meaning.specs.Laws.{WritesWhatItHas}
use Rattle.serial_replay.specs.Serial.{ending_on, map_after, map_of, ticket_of, outcomes_after}

-- ---- one program more

pub map_push_one : (m : ℕ → Value) (ps : List ProgramValue) (p : ProgramValue) → map_of m (ps ++ p ∷ []) ≡ map_after p (map_of m ps)
map_push_one m [] p = refl
map_push_one m (q ∷ qs) p = map_push_one (map_after q m) qs p

abbrev pub outcome_of : List ProgramValue → ProgramValue → (ℕ → Value) → Outcome
outcome_of before p m = record { office = p.office; ticket = ticket_of before p; ending = ending_on p m }

pub outcomes_push : (before : List ProgramValue) (m : ℕ → Value) (ps : List ProgramValue) (p : ProgramValue) →
    outcomes_after before m (ps ++ p ∷ []) ≡ outcomes_after before m ps ++ outcome_of (before ++ ps) p (map_of m ps) ∷ []
outcomes_push before m [] p = ap (λ l. outcome_of l p m ∷ []) (sym (append-nil before))
outcomes_push before m (q ∷ qs) p =
    let rest : outcomes_after (before ++ q ∷ []) (map_after q m) (qs ++ p ∷ []) ≡ outcomes_after (before ++ q ∷ []) (map_after q m) qs ++ outcome_of ((before ++ q ∷ []) ++ qs) p (map_of (map_after q m) qs) ∷ [] = outcomes_push (before ++ q ∷ []) (map_after q m) qs p in
    ap (λ l. outcome_of before q m ∷ l) (rest ∙ ap (λ l. outcomes_after (before ++ q ∷ []) (map_after q m) qs ++ outcome_of l p (map_of (map_after q m) qs) ∷ []) (append_assoc before (q ∷ []) qs))

-- ---- writes

-- a record has what was written, or what it had
pub unwritten : (ws : List (ℕ × Value)) (m : ℕ → Value) (r : ℕ) → (is_among (map (λ (w : ℕ × Value). w.0) ws) r ≡ true) ⊎ (write_all ws m r ≡ m r)
unwritten [] m r = inr refl
unwritten (w ∷ ws) m r = ⊎_elim
    (λ e. inl (or_left (w.0 == r) (is_among (map (λ (x : ℕ × Value). x.0) ws) r) (eq-eqb w.0 r (sym e))))
    (λ ne. ⊎_elim (λ i. inl (or_right (w.0 == r) (is_among (map (λ (x : ℕ × Value). x.0) ws) r) i)) (λ e. inr (e ∙ put_other m w.0 w.1 r ne)) (unwritten ws (put m w.0 w.1) r))
    (cases_eq r w.0)

pub write_same : (ws : List (ℕ × Value)) (f g : ℕ → Value) (r : ℕ) → f r ≡ g r → write_all ws f r ≡ write_all ws g r
write_same [] f g r e = e
write_same (w ∷ ws) f g r e = write_same ws (put f w.0 w.1) (put g w.0 w.1) r (ap (cond (r == w.0) w.1) e)

records_read : {A : Type 0} (rs : List ℕ) (m : ℕ → A) → map (λ (x : ℕ × A). x.0) (reads_of rs m) ≡ rs
records_read [] m = refl
records_read (r ∷ rs) m = ap (λ l. r ∷ l) (records_read rs m)

among_at : (xs : List ℕ) (k r d : ℕ) → k < length xs → get_or xs k d ≡ r → is_among xs r ≡ true
among_at [] k r d lt e = absurd (omega (arith, lt))
among_at (x ∷ xs) zero r d lt e = or_left (x == r) (is_among xs r) (eq-eqb x r e)
among_at (x ∷ xs) (suc k) r d lt e = or_right (x == r) (is_among xs r) (among_at xs k r d (omega (arith, lt)) e)

keys_among : (rs : List ℕ) (ws : List (ℕ × Value)) (r : ℕ) → All (λ (w : ℕ × Value). Contains rs w.0) ws → is_among (map (λ (w : ℕ × Value). w.0) ws) r ≡ true → is_among rs r ≡ true
keys_among rs [] r h e = absurd cc
keys_among rs (w ∷ ws) r h e = ⊎_elim
    (λ i. let c : Contains rs w.0 = All-head (λ (x : ℕ × Value). Contains rs x.0) w ws h in let same : w.0 ≡ r = eqb-true w.0 r i in ap (is_among rs) (sym same) ∙ among_at rs c.0 w.0 w.0 c.1 c.2)
    (λ i. keys_among rs ws r (All-tail (λ (x : ℕ × Value). Contains rs x.0) w ws h) i)
    (or_cases (w.0 == r) (is_among (map (λ (x : ℕ × Value). x.0) ws) r) e)

-- what a session writes it needs
pub written_needed : WritesWhatItHas → (p : ProgramValue) (m : ℕ → Value) (r : ℕ) → is_among (map (λ (w : ℕ × Value). w.0) (ending_on p m).writes) r ≡ true → is_among (needs_of p.body) r ≡ true
written_needed law p m r e =
    keys_among (needs_of p.body) (ending_on p m).writes r
    (subst (λ l. All (λ (w : ℕ × Value). Contains l w.0) (ending_on p m).writes) (records_read (needs_of p.body) m) (law p (reads_of (needs_of p.body) m))) e
