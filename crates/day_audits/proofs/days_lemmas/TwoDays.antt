-- The serial runs of two days, one after the other.
use Rattle.std.proofs.Common.{◌≡◌, ℕ, zero, suc, ◌+◌, ◌<◌, List, [], ◌∷◌, ◌++◌, length, map, false, ◌&&◌, nat_lt, refl, sym, ap, ap₂, ◌∙◌, arith}
use Rattle.std.specs.Prelude.{All, IsTrue, slice_get}
use Rattle.std.specs.List.{list_all}
use Rattle.std.specs.Option.{option_map_or}
use Rattle.std.proofs.lemmas.List.{map-append}
use Rattle.std.proofs.lemmas.List.Elements.{All-weaker}
use Rattle.bottle_values.specs.declared.Value.{Value}
use Rattle.office_map.specs.declared.entries.RecordEntry.{RecordEntry}
use Rattle.office_map.specs.PlanValue.{PlanValue, has_end, is_end}
use Rattle.session_meaning.specs.Fitting.{block_fits}
use Rattle.session_programs.specs.measures.Needs.{needs_of}
use Rattle.session_meaning.specs.ProgramValue.{ProgramValue}
use Rattle.session_meaning.specs.declared.ending.Ending.{Ending}
use Rattle.session_meaning.specs.declared.ending.Outcome.{Outcome}
use Rattle.session_programs.specs.Program.{fits}
use Rattle.serial_replay.specs.Serial.{start_map, map_of, outcomes_of}
use Rattle.frame_world.specs.Worlds.{World}
use Rattle.frame_world.specs.Headline.{programs, outcomes, office_and_ending, HasSerialSessions}
use Rattle.day_audits.specs.carried.Days.{with_values, endings, DaysAreOneRun}
use Rattle.day_audits.specs.carried.RunNumbers.{run_after}
use Rattle.day_audits.specs.plans.NextPlans.{next_plan}
use Rattle.day_audits.specs.days.TwoDays.{WorldsOfTwoDaysAreOneRun}

-- ---- plans with values

same_values : (m k : ℕ → Value) (from : ℕ) (xs : List RecordEntry) → ((r : ℕ) → r < length xs → m (from + r) ≡ k (from + r)) → with_values m from xs ≡ with_values k from xs
same_values m k from [] same = refl
same_values m k from (x ∷ xs) same =
    let here : from + 0 ≡ from = omega arith in
    let first : m from ≡ k from = ap m (sym here) ∙ same 0 (omega arith) ∙ ap k here in
    let rest : (r : ℕ) → r < length xs → m (suc from + r) ≡ k (suc from + r) =
    λ r lt. let there : suc from + r ≡ from + suc r = omega arith in ap m there ∙ same (suc r) (omega (arith, lt)) ∙ ap k (sym there) in
    ap₂ (λ v ys. record x { value = v } ∷ ys) first (same_values m k (suc from) xs rest)

same_plan : (p : PlanValue) (m k : ℕ → Value) → ((r : ℕ) → r < length p.records → m r ≡ k r) → next_plan p m ≡ next_plan p k
same_plan p m k same =
    let each : (r : ℕ) → r < length p.records → m (0 + r) ≡ k (0 + r) = λ r lt. let on : 0 + r ≡ r = omega arith in ap m on ∙ same r lt ∙ ap k (sym on) in
    let build : List RecordEntry → PlanValue = λ records. record { version = p.version; run = run_after p.run 1; offices = p.offices; pairs = p.pairs; records = records } in
    ap build (same_values m k 0 p.records each)

same_length : (m : ℕ → Value) (from : ℕ) (xs : List RecordEntry) → length (with_values m from xs) ≡ length xs
same_length m from [] = refl
same_length m from (x ∷ xs) = ap suc (same_length m (suc from) xs)

same_end : (m : ℕ → Value) (from : ℕ) (xs : List RecordEntry) (r a : ℕ)
    → option_map_or (λ (e : RecordEntry). has_end e a) (slice_get (with_values m from xs) r) false ≡ option_map_or (λ (e : RecordEntry). has_end e a) (slice_get xs r) false
same_end m from [] r a = refl
same_end m from (x ∷ xs) zero a = refl
same_end m from (x ∷ xs) (suc r) a = same_end m (suc from) xs r a

same_ends : (p : PlanValue) (m : ℕ → Value) (a : ℕ) (rs : List ℕ) → list_all (λ r. is_end (next_plan p m) r a) rs ≡ list_all (λ r. is_end p r a) rs
same_ends p m a [] = refl
same_ends p m a (r ∷ rs) = ap₂ (λ x y. x && y) (same_end m 0 p.records r a) (same_ends p m a rs)

same_fits : (p : PlanValue) (m : ℕ → Value) (x : ProgramValue) → fits (next_plan p m) x ≡ fits p x
same_fits p m x = ap (λ b. (nat_lt x.office (length p.offices) && b) && block_fits p.version x.body) (same_ends p m x.office (needs_of x.body))

-- ---- endings

ending_alone : (os : List Outcome) → map (λ (x : ℕ × Ending). x.1) (map office_and_ending os) ≡ map (λ (o : Outcome). o.ending) os
ending_alone [] = refl
ending_alone (o ∷ os) = ap (λ es. o.ending ∷ es) (ending_alone os)

serial_endings : (w : World) → HasSerialSessions w → map (λ (o : Outcome). o.ending) (outcomes w) ≡ endings (start_map w.plan) (programs w)
serial_endings w h =
    sym (ending_alone (outcomes w))
    ∙ ap (map (λ (x : ℕ × Ending). x.1)) h
    ∙ ending_alone (outcomes_of (start_map w.plan) (programs w))

-- ---- two days

pub two_days : DaysAreOneRun → WorldsOfTwoDaysAreOneRun
two_days law today tomorrow m first second on =
    let p = today.plan in
    let ps = programs today in
    let qs = programs tomorrow in
    let run = run_after p.run 1 in
    let k : ℕ → Value = map_of (start_map p) ps in
    let agree : (r : ℕ) → r < length p.records → m r ≡ k r = λ r lt. (let one : m r ∷ [] ≡ k r ∷ [] = sym (on.left r lt) ∙ first.values r lt in cc) in
    let planned : tomorrow.plan ≡ next_plan p k = on.planned ∙ same_plan p m k agree in
    let fit : All (λ (x : ProgramValue). IsTrue (fits p x)) qs =
    All-weaker (λ (x : ProgramValue). IsTrue (fits tomorrow.plan x)) (λ (x : ProgramValue). IsTrue (fits p x))
    (λ x h. sym (same_fits p k x) ∙ ap (λ q. fits q x) (sym planned) ∙ h) qs second.fit in
    let days = law p run ps qs fit in
    record {
      sessions =
          map-append (λ (o : Outcome). o.ending) (outcomes today) (outcomes tomorrow)
          ∙ ap₂ (λ xs ys. xs ++ ys) (serial_endings today first.sessions) (serial_endings tomorrow second.sessions ∙ ap (λ q. endings (start_map q) qs) planned)
          ∙ sym days.ended;
      values = λ r lt.
          second.values r (omega (arith, lt, ap (λ (q : PlanValue). length q.records) planned, same_length k 0 p.records))
          ∙ ap (λ q. map_of (start_map q) qs r ∷ []) planned
          ∙ ap (λ v. v ∷ []) (sym (days.left r lt));
    }
