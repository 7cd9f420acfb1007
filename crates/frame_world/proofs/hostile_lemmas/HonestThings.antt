-- Between two offices that keep to the rules the mask hides nothing, so the places and counts that it shows are theirs.
use Rattle.std.proofs.Common.{◌≡◌, ℕ, ◌+◌, Bool, true, List, sym, ap, subst, ◌∙◌, arith}
use Rattle.std.specs.Prelude.{◌&&◌}
use Rattle.std.proofs.lemmas.Bool.{and_from}
use Rattle.bottle_values.specs.Lists.{num}
use Rattle.frame_codec.specs.declared.message.Msg.{Msg}
use Rattle.frame_codec.specs.Frame.{Fields}
use Rattle.office_map.specs.PlanValue.{PlanValue, are_neighbours}
use Rattle.office_map.specs.Consistency.{IsConsistent}
use Rattle.office_map.specs.NeighbourLaws.{near_both, has_ends_both}
use Rattle.window_link.specs.Links.{LinkState}
use Rattle.token_channel.specs.declared.thing.Thing.{Thing}
use Rattle.token_channel.specs.declared.thing.Thing.TheVariants as thing
use Rattle.token_channel.specs.Things.{count_carrying}
use Rattle.token_channel.specs.Ends.{is_shared}
use Rattle.dining_core.specs.Worlds as tables
use Rattle.drinking_core.specs.Worlds as bars
use Rattle.site_core.specs.neighbours.Pairs.{Pairs, held}
use Rattle.frame_world.specs.Worlds.{World, opening}
use Rattle.frame_world.specs.Ways.{pairs_at, untaken, between, tables_of, bars_of}
use Rattle.frame_world.proofs.OneLink.{IsLinked}
use Rattle.frame_world.proofs.PlacesAndForks.{counted, places_of}
use Rattle.frame_world.specs.hostile.Hostile.{goes_on}
use Rattle.frame_world.specs.hostile.Claims.{Always, HaveOnePlaceEach, HaveTrueCounts}
use Rattle.frame_world.proofs.hostile_lemmas.Masks.{table_plan, masks, masked_seen}
use Rattle.frame_world.proofs.hostile_lemmas.MaskedSteps.{held_seen, link_seen, near_there}
use Rattle.frame_world.proofs.hostile_lemmas.MaskedPlans.{consistent_there}
use Rattle.frame_world.proofs.hostile_lemmas.MaskedWorlds.{Laws, Shows, shows}

-- what two offices share, they share two ways round
shared_both : (p : PlanValue) (a b : ℕ) (t : Thing) → is_shared p a b t ≡ is_shared p b a t
shared_both p a b thing.Fork = near_both p a b
shared_both p a b thing.ForkToken = near_both p a b
shared_both p a b (thing.Bottle r) = has_ends_both p r a b
shared_both p a b (thing.BottleToken r) = has_ends_both p r a b

-- ---- what is shown of two that keep to the rules is as it is

module _ (h : ℕ → Bool) (p : PlanValue) (qs : ℕ → Pairs) where
  link_there : (x y : ℕ) → h x ≡ true → h y ≡ true → (masks h p qs x).link y ≡ (qs x).link y
  link_there x y ex ey = ap (λ (q : Pairs). q.link y) (masked_seen h p x (qs x) ex) ∙ link_seen h p x y (qs x) ey

  pub between_there : (x y : ℕ) → h x ≡ true → h y ≡ true → between (masks h p qs) x y ≡ between qs x y
  between_there x y ex ey =
      ap (λ (l : LinkState). untaken l.sending ((masks h p qs y).link x).receiving.taken) (link_there x y ex ey)
      ∙ ap (λ (l : LinkState). untaken ((qs x).link y).sending l.receiving.taken) (link_there y x ey ex)

  held_there : (x y : ℕ) (t : Thing) → h x ≡ true → h y ≡ true → is_shared p x y t ≡ true → held (masks h p qs x) y t ≡ held (qs x) y t
  held_there x y t ex ey shared = ap (λ (q : Pairs). held q y t) (masked_seen h p x (qs x) ex) ∙ held_seen h p x y (qs x) t ex ey shared

-- ---- places

module _ (p : PlanValue) (h : ℕ → Bool) (frames : List Fields) (qs : ℕ → Pairs)
    (forks : tables.EachHasOnePlace)
    (bottles : bars.EachHasOnePlace)
    (c : IsConsistent p)
    (s : Shows p h frames qs)
    (a b : ℕ)
    (ea : h a ≡ true)
    (eb : h b ≡ true)
  where
    tables_placed : tables.HasOnePlaceEach (table_plan h p) (tables_of (masks h p qs))
    tables_placed = subst (tables.HasOnePlaceEach (table_plan h p)) (sym s.tables.led) (forks (table_plan h p) s.tables.events (consistent_there h p c))

    bars_placed : bars.HasOnePlaceEach p (bars_of (masks h p qs))
    bars_placed = subst (bars.HasOnePlaceEach p) (sym s.bars.led) (bottles p s.bars.events c)

    near : are_neighbours (table_plan h p) a b ≡ are_neighbours p a b
    near = near_there h p a b ∙ ap (λ k. k && are_neighbours p a b) (and_from (h a) (h b) ea eb)

    shown_places : (t : Thing) → places_of (masks h p qs) a b t ≡ num (is_shared p a b t)
    shown_places thing.Fork = tables_placed.fork a b ∙ ap num near
    shown_places thing.ForkToken = tables_placed.token a b ∙ ap num near
    shown_places (thing.Bottle r) = omega (arith, bars_placed.bottle r a b, counted r (between (masks h p qs) a b), counted r (between (masks h p qs) b a))
    shown_places (thing.BottleToken r) = bars_placed.token r a b

    same_places : (t : Thing) → is_shared p a b t ≡ true → places_of (masks h p qs) a b t ≡ places_of qs a b t
    same_places t shared =
        ap (λ k. sum k (held (masks h p qs b) a t) (between (masks h p qs) a b) (between (masks h p qs) b a)) (held_there h p qs a b t ea eb shared)
        ∙ ap (λ k. sum (held (qs a) b t) k (between (masks h p qs) a b) (between (masks h p qs) b a)) (held_there h p qs b a t eb ea (sym (shared_both p a b t) ∙ shared))
        ∙ ap (λ l. sum (held (qs a) b t) (held (qs b) a t) l (between (masks h p qs) b a)) (between_there h p qs a b ea eb)
        ∙ ap (sum (held (qs a) b t) (held (qs b) a t) (between qs a b)) (between_there h p qs b a eb ea)
      where
        sum : Bool → Bool → List Msg → List Msg → ℕ
        sum x y there back = num x + (num y + (count_carrying t there + count_carrying t back))

    placed : (t : Thing) → is_shared p a b t ≡ true → places_of qs a b t ≡ 1
    placed t shared = sym (same_places t shared) ∙ shown_places t ∙ ap num shared

pub honest_pairs_keep_their_things : tables.EachHasOnePlace → bars.EachHasOnePlace → Laws → Always HaveOnePlaceEach
honest_pairs_keep_their_things forks bottles laws plan h es c a b t ea eb shared =
    let w : World = goes_on h (opening plan) es in
    let x = shows plan h es laws c in
    placed plan h w.frames (pairs_at w) forks bottles c x.1 a b ea eb t (ap (λ (p : PlanValue). is_shared p a b t) (sym x.0.planned) ∙ shared)

-- ---- counts

linked_between : (p : PlanValue) (h : ℕ → Bool) (frames : List Fields) (qs : ℕ → Pairs) → Shows p h frames qs → (a b : ℕ) → h a ≡ true → h b ≡ true → IsLinked ((qs a).link b).sending ((qs b).link a).receiving.taken
linked_between p h frames qs s a b ea eb =
    subst (λ (l : LinkState). IsLinked l.sending ((qs b).link a).receiving.taken) (link_there h p qs a b ea eb)
    (subst (λ (l : LinkState). IsLinked ((masks h p qs a).link b).sending l.receiving.taken) (link_there h p qs b a eb ea) (s.linked.linked a b))

pub honest_counts_are_true : Laws → Always HaveTrueCounts
honest_counts_are_true laws plan h es c a b ea eb =
    let w : World = goes_on h (opening plan) es in
    let x = shows plan h es laws c in
    let l : IsLinked ((pairs_at w a).link b).sending ((pairs_at w b).link a).receiving.taken = linked_between plan h w.frames (pairs_at w) x.1 a b ea eb in
    record { known = l.known; most = l.most }
