-- The one bottle of a record.
use Rattle.std.proofs.Common.{◌≡◌, ℕ, ◌<◌, true, false, List, [], ◌∷◌, ◌++◌, length, get_or, Option, None, Some, refl, sym, ap, subst, ◌∙◌, arith}
use Rattle.std.specs.Prelude.{◌==◌, ◌&&◌, All, slice_get, option_map, Contains, IfNone, IsSome}
use Rattle.std.specs.Option.{option_map_or}
use Rattle.std.proofs.lemmas.Bool.{eq-eqb, and_from, or_left, or_right}
use Rattle.std.proofs.lemmas.List.{get_or_read}
use Rattle.std.proofs.lemmas.List.Elements.{All-contains, All-cons, All-nil}
use Rattle.bottle_values.specs.declared.Value.{Value}
use Rattle.frame_codec.specs.Frame.{Fields}
use Rattle.office_map.specs.declared.entries.RecordEntry.{RecordEntry}
use Rattle.office_map.specs.PlanValue.{PlanValue, are_neighbours, ends_of, is_end, has_end, has_ends, lies_between, peer}
use Rattle.office_map.specs.NeighbourLaws.{near_both, has_ends_both, peer_is}
use Rattle.serial_replay.specs.Serial.{start_map, map_of}
use Rattle.site_core.specs.Journals.{Site, office_of}
use Rattle.frame_world.specs.Worlds.{World, site_at, silent}
use Rattle.frame_world.specs.Ways.{untaken, bottles_in, listed, bottles_between, bottles_of}
use Rattle.frame_world.specs.Headline.{programs, HasSerialValues}
use Rattle.world_schedule.specs.declared.finished.Finished as mark
use Rattle.world_schedule.specs.refinement.WorldOfCode.{world_in, IsWorld}
use Rattle.world_schedule.specs.refinement.Bottles.{bottles_at, LiesBetween}
use Rattle.world_schedule.proofs.Finishing.{site_of_world}

-- ---- where a record lies

ends_are : (p : PlanValue) (r a b : ℕ) → ends_of p r ≡ Some (a, b) → (has_ends p r a b ≡ true) × (is_end p r a ≡ true) × (is_end p r b ≡ true)
ends_are p r a b = go (slice_get p.records r)
  where
    first_in : Option (ℕ × ℕ) → ℕ
    first_in o = option_map_or (λ (x : ℕ × ℕ). x.0) o 0

    second_in : Option (ℕ × ℕ) → ℕ
    second_in o = option_map_or (λ (x : ℕ × ℕ). x.1) o 0

    go : (o : Option RecordEntry) → option_map {U = ℕ × ℕ} (λ (e : RecordEntry). (e.first, e.second)) o ≡ Some (a, b) →
        (option_map_or (lies_between a b) o false ≡ true) × (option_map_or (λ e. has_end e a) o false ≡ true) × (option_map_or (λ e. has_end e b) o false ≡ true)
    go None h = absurd cc
    go (Some e) h =
        let f : (e.first == a) ≡ true = eq-eqb e.first a (ap first_in h) in
        let s : (e.second == b) ≡ true = eq-eqb e.second b (ap second_in h) in
        (or_left (e.first == a && e.second == b) _ (and_from (e.first == a) (e.second == b) f s), or_left (e.first == a) (e.second == a) f, or_right (e.first == b) (e.second == b) s)

lies : (p : PlanValue) (r a b : ℕ) (s t : Site) → ends_of p r ≡ Some (a, b) → are_neighbours p a b ≡ true → (s.plan ≡ p) × (s.me ≡ a) → (t.plan ≡ p) × (t.me ≡ b) → LiesBetween r s t × LiesBetween r t s
lies p r a b s t h near (sp, sm) (tp, tm) =
    let ends = ends_are p r a b h in (
      one p r a b s t ends.1 (peer_is p r a b ends.0) (near_both p b a ∙ near) sp sm tp tm,
      one p r b a t s ends.2 (peer_is p r b a (has_ends_both p r b a ∙ ends.0)) near tp tm sp sm,
    )
  where
    one : (p : PlanValue) (r a b : ℕ) (s t : Site) → is_end p r a ≡ true → peer p a r ≡ b → are_neighbours p b a ≡ true → s.plan ≡ p → s.me ≡ a → t.plan ≡ p → t.me ≡ b → LiesBetween r s t
    one p r a b s t end other near sp sm tp tm = record {
      end = ap (λ q. is_end q r s.me) sp ∙ ap (is_end p r) sm ∙ end;
      other = ap (λ q. peer q s.me r) sp ∙ ap (λ k. peer p k r) sm ∙ other ∙ sym tm;
      near = ap (λ q. are_neighbours q t.me s.me) tp ∙ ap (λ k. are_neighbours p k s.me) tm ∙ ap (are_neighbours p b) sm ∙ near;
    }

-- ---- its bottles

-- by the numbers of the offices
abbrev bottles_as : Site → Site → ℕ → ℕ → ℕ → List Value
bottles_as s t u v r =
    listed ((office_of s).pairs.drinker.bottle r) ++ (listed ((office_of t).pairs.drinker.bottle r)
    ++ (bottles_in r (untaken ((office_of s).pairs.link v).sending ((office_of t).pairs.link u).receiving.taken) ++ bottles_in r (untaken ((office_of t).pairs.link u).sending ((office_of s).pairs.link v).receiving.taken)))

same_bottles : (w : World) (r a b : ℕ) (s t : Site) → ends_of w.plan r ≡ Some (a, b) → s ≡ site_at w a → t ≡ site_at w b → s.me ≡ a → t.me ≡ b → bottles_of w r ≡ bottles_at s t r
same_bottles w r a b s t ends here there sm tm =
    ap (λ o. option_map_or (bottles_between w r) o []) ends
    ∙ ap (λ x. bottles_as x (site_at w b) a b r) (sym here) ∙ ap (λ y. bottles_as s y a b r) (sym there) ∙ ap (λ u. bottles_as s t u b r) (sym sm) ∙ ap (λ v. bottles_as s t s.me v r) (sym tm)

pub is_value : (w : World) (r : ℕ) (xs : List Value) (x : Value) → HasSerialValues w → r < length w.plan.records → bottles_of w r ≡ xs → Contains xs x → (bottles_of w r ≡ x ∷ []) × (x ≡ map_of (start_map w.plan) (programs w) r)
is_value w r xs x law lt same has =
    let v : Value = map_of (start_map w.plan) (programs w) r in
    let one : xs ≡ v ∷ [] = sym same ∙ law r lt in
    let is : x ≡ v = All-contains (λ y. y ≡ v) xs x (subst (λ l. All (λ y. y ≡ v) l) (sym one) (All-cons (λ y. y ≡ v) v [] refl (All-nil (λ y. y ≡ v)))) has in
    (law r lt ∙ ap (λ y. y ∷ []) (sym is), is)

pub is_found : (w : World) (r : ℕ) (xs : List Value) (found : Option Value) → HasSerialValues w → r < length w.plan.records → bottles_of w r ≡ xs → IfNone found (xs ≡ []) → IsSome found
is_found w r xs (Some x) law lt same none = refl
is_found w r xs None law lt same none = absurd (empty (sym none ∙ sym same ∙ law r lt))
  where
    empty : {v : Value} → ◌≡◌ {A = List Value} [] (v ∷ []) → ⊥
    empty e = cc

-- ---- in the world

-- two offices between which a record lies
pub record Ends (plan : PlanValue) (v : World) (r a b : ℕ) (s t : Site) : Type 0 where
  pub planned : v.plan ≡ plan
  pub ends : ends_of plan r ≡ Some (a, b)
  pub first : s ≡ site_at v a
  pub second : t ≡ site_at v b
  pub of_first : (s.plan ≡ v.plan) × (s.me ≡ a)
  pub of_second : (t.plan ≡ v.plan) × (t.me ≡ b)

pub ends_in : (plan : PlanValue) (sites : List Site) (frames : List Fields) (marks : List mark.Finished) (v : World) (r : ℕ) (x : ℕ × ℕ) (i j : ℕ) (s t : Site) → IsWorld plan sites frames marks → world_in plan sites frames marks ≡ v →
    ends_of plan r ≡ Some x → (x.0 < length plan.offices) × (x.1 < length plan.offices) → i ≡ x.0 → j ≡ x.1 → s ≡ get_or sites i s → t ≡ get_or sites j t → Ends plan v r x.0 x.1 s t
ends_in plan sites frames marks v r x i j s t world is ends (first, second) ix jx here there =
    let below : (k : ℕ) → k < length plan.offices → k < length v.plan.offices = λ k lt. subst (λ (w : World). k < length w.plan.offices) is lt in
    record {
      planned = sym (ap (λ (w : World). w.plan) is);
      ends = ends;
      first = at x.0 i s first ix here;
      second = at x.1 j t second jx there;
      of_first = site_of_world plan sites frames marks v x.0 i s world is (below x.0 first) ix here;
      of_second = site_of_world plan sites frames marks v x.1 j t world is (below x.1 second) jx there;
    }
  where
    at : (k n : ℕ) (y : Site) → k < length plan.offices → n ≡ k → y ≡ get_or sites n y → y ≡ site_at v k
    at k n y lt same read =
        let within : k < length sites = omega (arith, lt, world.count) in
        get_or_read sites k y within (read ∙ ap (λ z. get_or sites z y) same) (silent plan k) ∙ ap (λ (w : World). site_at w k) is

pub ends_lie : (plan : PlanValue) (v : World) (r a b : ℕ) (s t : Site) → Ends plan v r a b s t → are_neighbours plan a b ≡ true → LiesBetween r s t × LiesBetween r t s
ends_lie plan v r a b s t e near = lies plan r a b s t e.ends near (e.of_first.0 ∙ e.planned, e.of_first.1) (e.of_second.0 ∙ e.planned, e.of_second.1)

pub bottles_there : (plan : PlanValue) (v : World) (r a b : ℕ) (s t : Site) → Ends plan v r a b s t → bottles_of v r ≡ bottles_at s t r
bottles_there plan v r a b s t e = same_bottles v r a b s t (ap (λ p. ends_of p r) e.planned ∙ e.ends) e.first e.second e.of_first.1 e.of_second.1
