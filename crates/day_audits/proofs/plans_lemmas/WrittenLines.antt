-- Lines of a plan's text, one after the other.
use Rattle.std.proofs.Common.{◌≡◌, ℕ, zero, suc, ◌+◌, ◌<◌, List, [], ◌∷◌, ◌++◌, length, take, get_or, true, Option, Some, None, option_map, unwrap_or, codes, refl, sym, ap, ap₂, ◌∙◌, subst, arith, append_assoc}
use Rattle.std.specs.Prelude.{slice_get, All, IsTrue}
use Rattle.std.proofs.lemmas.List.{append-nil, take_more, length-take-le}
use Rattle.std.proofs.lemmas.List.Concat.{flat_map-append}
use Rattle.std.proofs.lemmas.List.Elements.{All-push}
use Rattle.std.proofs.lemmas.Option.{get_or_from_slice_get}
use Rattle.bottle_values.specs.declared.Value.{Value}
use Rattle.bottle_values.specs.Operations.{is_value, nought}
use Rattle.bottle_values.specs.Printed.{value_text}
use Rattle.office_map.specs.declared.entries.OfficeEntry.{OfficeEntry}
use Rattle.office_map.specs.declared.entries.RecordEntry.{RecordEntry}
use Rattle.office_map.specs.PlanValue.{PlanValue, start_end}
use Rattle.session_reports.specs.Names.{office_name}
use Rattle.session_reports.specs.Report.{value_at}
use Rattle.day_audits.specs.carried.Days.{with_values}
use Rattle.day_audits.specs.carried.RunNumbers.{run_after}
use Rattle.day_audits.specs.plans.NextPlans.{next_plan}
use Rattle.day_audits.specs.plans.WrittenPlans.{ended, header_words, office_words, office_lines, pair_lines, record_words, record_lines, plan_text}
use Rattle.day_audits.specs.plans.refinement.LinesByNumber.{office_line, record_line}
use Rattle.day_audits.proofs.plans_lemmas.CarriedPlans.{with_more}

added : (f old t line u : List ℕ) → t ≡ old ++ f → u ≡ t ++ line → u ≡ old ++ (f ++ line)
added f old t line u so_far more = more ∙ ap (λ b. b ++ line) so_far ∙ append_assoc old f line

-- a number below the length has an element
none_within : {X : Type 0} (xs : List X) (i : ℕ) → i < length xs → slice_get xs i ≡ None → ⊥
none_within [] i h e = absurd (omega arith)
none_within (x ∷ xs) zero h e = absurd cc
none_within (x ∷ xs) (suc i) h e = none_within xs i (omega (arith, h)) e

-- ---- offices

-- the line of an office, by what is asked of the plan
pub office_line_is : (p : PlanValue) (i : ℕ) (address : List ℕ) → option_map (λ (e : OfficeEntry). e.address) (slice_get p.offices i) ≡ Some address
    → ended (codes "office" ∷ office_name p i ∷ address ∷ []) ≡ office_line p i
office_line_is p i address addressed = by_entry (slice_get p.offices i) refl addressed
  where
    by_entry : (o : Option OfficeEntry) → slice_get p.offices i ≡ o → option_map (λ (e : OfficeEntry). e.address) o ≡ Some address
        → ended (codes "office" ∷ office_name p i ∷ address ∷ []) ≡ office_line p i
    by_entry None e a = absurd cc
    by_entry (Some x) e a =
        let named : office_name p i ≡ x.name = ap (λ o. unwrap_or (option_map (λ (y : OfficeEntry). y.name) o) []) e in
        let is : address ≡ x.address = cc in
        let line : office_line p i ≡ ended (office_words x) = rw e refl in
        ap₂ (λ v w. ended (codes "office" ∷ v ∷ w ∷ [])) named is ∙ sym line

-- one office more
pub office_more : (p : PlanValue) (i : ℕ) (old t u : List ℕ) → i < length p.offices → t ≡ old ++ office_lines (take i p.offices) → u ≡ t ++ office_line p i
    → u ≡ old ++ office_lines (take (i + 1) p.offices)
office_more p i old t u within so_far more = by_entry (slice_get p.offices i) refl
  where
    by_entry : (o : Option OfficeEntry) → slice_get p.offices i ≡ o → u ≡ old ++ office_lines (take (i + 1) p.offices)
    by_entry None e = absurd (none_within p.offices i within e)
    by_entry (Some x) e =
        let xs = p.offices in
        let line : office_line p i ≡ ended (office_words x) = rw e refl in
        let one : take (i + 1) xs ≡ take i xs ++ x ∷ [] = take_more xs i x within ∙ ap (λ y. take i xs ++ y ∷ []) (get_or_from_slice_get xs i x x e) in
        let rows : office_lines (take (i + 1) xs) ≡ office_lines (take i xs) ++ ended (office_words x) =
        ap office_lines one ∙ flat_map-append (λ y. ended (office_words y)) (take i xs) (x ∷ []) ∙ ap (λ b. office_lines (take i xs) ++ b) (append-nil (ended (office_words x))) in
        added (office_lines (take i xs)) old t (ended (office_words x)) u so_far (more ∙ ap (λ b. t ++ b) line) ∙ ap (λ b. old ++ b) (sym rows)

-- ---- records

-- the line of a record, by what is asked of the plan
pub record_line_is : (p : PlanValue) (i : ℕ) (v : Value) (name : List ℕ) (ends : ℕ × ℕ) (end : ℕ) → unwrap_or (option_map (λ (e : RecordEntry). e.name) (slice_get p.records i)) [] ≡ name
    → option_map (λ (e : RecordEntry). (e.first, e.second)) (slice_get p.records i) ≡ Some ends → option_map start_end (slice_get p.records i) ≡ Some end
    → ended (codes "record" ∷ name ∷ office_name p ends.0 ∷ office_name p ends.1 ∷ value_text v ∷ codes "at" ∷ office_name p end ∷ []) ≡ record_line p i v
record_line_is p i v name ends end named between starts = by_entry (slice_get p.records i) refl named between starts
  where
    words : List ℕ → ℕ → ℕ → ℕ → List ℕ
    words n a b e = ended (codes "record" ∷ n ∷ office_name p a ∷ office_name p b ∷ value_text v ∷ codes "at" ∷ office_name p e ∷ [])

    by_entry : (o : Option RecordEntry) → slice_get p.records i ≡ o → unwrap_or (option_map (λ (e : RecordEntry). e.name) o) [] ≡ name → option_map (λ (e : RecordEntry). (e.first, e.second)) o ≡ Some ends → option_map start_end o ≡ Some end
        → words name ends.0 ends.1 end ≡ record_line p i v
    by_entry None e n b s = absurd cc
    by_entry (Some x) e n b s =
        let both : (x.first, x.second) ≡ ends = ap (λ o. unwrap_or o ends) b in
        let last : start_end x ≡ end = ap (λ o. unwrap_or o end) s in
        let line : record_line p i v ≡ ended (record_words p (record x { value = v })) = rw e refl in
        ap (λ w. words w ends.0 ends.1 end) (sym n)
        ∙ ap (λ q. words x.name q.0 q.1 end) (sym both)
        ∙ ap (λ k. words x.name x.first x.second k) (sym last)
        ∙ sym line

-- one record more, with its value
pub record_more : (p : PlanValue) (m : ℕ → Value) (i : ℕ) (v : Value) (old t u : List ℕ) → i < length p.records → v ≡ m i
    → t ≡ old ++ record_lines p (with_values m 0 (take i p.records)) → u ≡ t ++ record_line p i v
    → u ≡ old ++ record_lines p (with_values m 0 (take (i + 1) p.records))
record_more p m i v old t u within is so_far more = by_entry (slice_get p.records i) refl
  where
    by_entry : (o : Option RecordEntry) → slice_get p.records i ≡ o → u ≡ old ++ record_lines p (with_values m 0 (take (i + 1) p.records))
    by_entry None e = absurd (none_within p.records i within e)
    by_entry (Some x) e =
        let xs = p.records in
        let y : RecordEntry = record x { value = m i } in
        let before = with_values m 0 (take i xs) in
        let line : record_line p i v ≡ ended (record_words p y) = (let here : record_line p i v ≡ ended (record_words p (record x { value = v })) = rw e refl in here ∙ ap (λ w. ended (record_words p (record x { value = w }))) is) in
        let one : take (i + 1) xs ≡ take i xs ++ x ∷ [] = take_more xs i x within ∙ ap (λ z. take i xs ++ z ∷ []) (get_or_from_slice_get xs i x x e) in
        let at : 0 + length (take i xs) ≡ i = (let l : length (take i xs) ≡ i = length-take-le i xs (omega (arith, within)) in omega (arith, l)) in
        let values : with_values m 0 (take (i + 1) xs) ≡ before ++ y ∷ [] = ap (with_values m 0) one ∙ with_more m 0 (take i xs) (x ∷ []) ∙ ap (λ k. before ++ record x { value = m k } ∷ []) at in
        let rows : record_lines p (with_values m 0 (take (i + 1) xs)) ≡ record_lines p before ++ ended (record_words p y) =
        ap (record_lines p) values ∙ flat_map-append (λ z. ended (record_words p z)) before (y ∷ []) ∙ ap (λ l. record_lines p before ++ l) (append-nil (ended (record_words p y))) in
        added (record_lines p before) old t (ended (record_words p y)) u so_far (more ∙ ap (λ l. t ++ l) line) ∙ ap (λ l. old ++ l) (sym rows)

-- ---- values

-- one more of them is a number of 64 bits
pub values_more : (vs : List Value) (i : ℕ) (v : Value) → i < length vs → v ≡ get_or vs i v → All (λ w. IsTrue (is_value w)) (take i vs) → IsTrue (is_value v) → All (λ w. IsTrue (is_value w)) (take (i + 1) vs)
values_more vs i v within read before good =
    let P : Value → Type 0 = λ w. IsTrue (is_value w) in
    let one : take (i + 1) vs ≡ take i vs ++ v ∷ [] = take_more vs i v within ∙ ap (λ w. take i vs ++ w ∷ []) (sym read) in
    subst (All P) (sym one) (All-push P (take i vs) v before good)

pub value_within : (vs : List Value) (r : ℕ) → r < length vs → All (λ w. IsTrue (is_value w)) vs → is_value (value_at vs r) ≡ true
value_within vs r within all = all r nought within

-- ---- the whole

-- the lines that are added make the text
pub text_is : (p : PlanValue) (m : ℕ → Value) (t u v w : List ℕ) → t ≡ [] ++ ended (header_words p.version (run_after p.run 1)) → u ≡ t ++ office_lines p.offices → v ≡ u ++ pair_lines p p.pairs
    → w ≡ v ++ record_lines p (with_values m 0 p.records) → w ≡ plan_text (next_plan p m)
unfolding plan_text
text_is p m t u v w a b c d =
    let h = ended (header_words p.version (run_after p.run 1)) in
    let o = office_lines p.offices in
    let q = pair_lines p p.pairs in
    let r = record_lines p (with_values m 0 p.records) in
    d ∙ ap (λ x. x ++ r) (c ∙ ap (λ x. x ++ q) (b ∙ ap (λ x. x ++ o) a))
    ∙ append_assoc (h ++ o) q r ∙ append_assoc h o (q ++ r)
