-- Each step at the lock's table keeps its rule.
use Rattle.std.proofs.Common.{◌≡◌, ◌≢◌, ◌≤◌, ◌==◌, ◌+◌, inl, inr, ℕ, zero, suc, true, false, List, [], ◌∷◌, length, get_or, set, refl, ap, sym, subst, ◌∙◌, arith, length-set, get_or-set_same, eq-eqb, ne_eqb, Option, Some, None}
use mathlib.Core.Logic.{dite}
use mathlib.Core.List.{IsPrefix}
use mathlib.Core.Option.{some, none, some-injective, some-ne-none}
use native.Mathlib.Decide.{ℕ_discrete}
use lib.ListN.{get_elem?}
use lib.Seq.{set-get_or}
use prog.Atomic.{either}
use Rattle.atomic_table.specs.Table.{State, Me, step, keeps, takes, gives, stepped, Allows, Splits, Joins, opening, Final, Seen}
use Rattle.atomic_table.proofs.Lists.{set_here, set_else, set_again}
use Rattle.own_lock.specs.declared.seat_view.Part.{Part}
use Rattle.own_lock.specs.declared.seat_view.SeatView.{SeatView}
use Rattle.own_lock.specs.Entries.{Every, longer, tagged, AddsOnly}
use Rattle.own_lock.specs.Rule.{room, place, amid, awaited_word, DistinctTags, PartAgrees, SeatAgrees, IsStateOf, IsHeldWord, LockRule, word_of}
use Rattle.own_lock.specs.Steps.{rest, first_part, the_part, second_part, part_with, parts_from, opening_view, without_first, first_alone, joined_view, spent_view, holder_view, giver_view, told_view, Step, Deals, Takes, FindsTaken, LeavesWord, Gives, TakesIn, Tells, May, MayAll, table_after, table_after_all, LeavesAwaited, GivesNothing}
use Rattle.own_lock.specs.refinement.Plays.{Tried, Pressed, GaveBack, Told}
use Rattle.own_lock.proofs.Prefixes.{IsPrefix-refl, IsPrefix-trans, longer-covers}
use Rattle.own_lock.proofs.TaggedEntries.{Every-map, Every-zip, AddsOnly-prefix, tagged-adds_other, tagged-between}
use Rattle.own_lock.proofs.Views.{get_elem-inside, each-set, each-snoc, HoldsAt-set, HoldsAt-snoc, moved, moved-here, moved-else}

-- the value in the slot that a seat took last
abbrev value_of : {S : Type 0} → List (ℕ × Option S) → Option S
value_of [] = None
value_of (x ∷ xs) = x.1

module _ {S K E : Type 0} (tag_of : E → ℕ) (key : S → K) (entries : S → List E) (fits : S → Type 0) (k : K) (passes : ℕ) where
  abbrev View : Type 0
  View = SeatView K E

  abbrev Table : Type 0
  Table = State (Option S) View

  abbrev Seat : Type 0
  Seat = Me (Option S) View

  abbrev Rule : Table → Type 0
  Rule = LockRule tag_of key entries fits k passes

  abbrev with_views : Table → List View → Table
  with_views s vs = record { words = s.words; homes = s.homes; views = vs }

  -- ---- what the rule says of one seat

  -- the one pass of a seat
  one_part : (s : Table) (r : Rule s) (id : ℕ) (v : View) → get_elem? s.views id ≡ some v → v.parts ≡ the_part v ∷ []
      → PartAgrees tag_of passes r.history r.seat_of id (the_part v)
  one_part s r id v at one = (subst (Every (PartAgrees tag_of passes r.history r.seat_of id)) one (r.views id v at).parts).0

  key_of : (s : Table) (r : Rule s) (id : ℕ) (v : View) → get_elem? s.views id ≡ some v → v.parts ≡ the_part v ∷ [] → v.key ≡ Some k
  key_of s r id v at one = (r.views id v at).key (let some_part = ap length one in omega arith)

  written : (s : Table) → Rule s → (m : ℕ) → get_or (set s.words place m) place 0 ≡ m
  written s r m = get_or-set_same s.words place m 0 (let one = r.word_room in omega arith)

  -- ---- a step that leaves the word, or finds it and leaves all

  word_again : (s : Table) (w : View) (id : ℕ) → Rule (with_views s (set s.views id w))
      → Rule record { words = set s.words place (word_of s); homes = s.homes; views = set s.views id w }
  word_again s w id r = subst (λ (ws : List ℕ). Rule record { words = ws; homes = s.homes; views = set s.views id w }) (sym (set-get_or s.words place 0)) r

  unchanged : (s : Table) → Rule s → (id : ℕ) (me : Seat) → get_elem? s.views id ≡ some me.0 → Rule (stepped s place (word_of s) id me.1 me.0 keeps)
  unchanged s r id me at = word_again s me.0 id (subst (λ (vs : List View). Rule (with_views s vs)) (sym (set_again s.views id me.0 at)) r)

  -- ---- the state is taken: the word was 0, and becomes another

  taken : (m : ℕ) → m ≢ 0 → (s : Table) (r : Rule s) (id : ℕ) (v : View) → get_elem? s.views id ≡ some v → v.parts ≡ the_part v ∷ []
      → (x : S) → IsStateOf key entries fits k r.history x → word_of s ≡ 0 → Rule record { words = set s.words place m; homes = set s.homes place none; views = set s.views id (holder_view tag_of v (entries x)) }
  taken m not_free s r id v at one x is free =
      let w : View = holder_view tag_of v (entries x) in
      let known = one_part s r id v at one in
      let now = written s r m in
      let not_now : get_or (set s.words place m) place 0 ≢ 0 = λ zero_now. not_free (sym now ∙ zero_now) in
      record {
        history = r.history;
        seat_of = r.seat_of;
        holder = id;
        word_room = length-set s.words place m ∙ r.word_room;
        slot_room = length-set s.homes place none ∙ r.slot_room;
        free = λ zero_now. absurd (not_now zero_now);
        taken = λ _. (w, set_here s.views id w (get_elem-inside s.views id v at), refl);
        views = each-set (SeatAgrees tag_of k passes r.history r.seat_of (get_or (set s.words place m) place 0) id) s.views id w
            record {
              distinct = (tt, tt);
              parts = (
                record {
                  at = known.at;
                  below = known.below;
                  seen = subst (IsPrefix (entries x)) is.entries_are (IsPrefix-refl (entries x));
                  mine = ap (tagged tag_of (the_part v).tag) is.entries_are;
                  own = refl;
                },
                tt,
              );
              key = λ _. key_of s r id v at one;
              holding = λ _. (not_now, refl, (part_with tag_of (the_part v).tag (entries x), refl, is.entries_are));
            }
            (λ j u ne e. let old = r.views j u e in record { distinct = old.distinct; parts = old.parts; key = old.key; holding = λ h. absurd ((old.holding h).0 free) });
      }

  -- the word isn't 0, and becomes another that isn't
  marked : (m : ℕ) → m ≢ 0 → (s : Table) → Rule s → word_of s ≢ 0 → Rule record { words = set s.words place m; homes = s.homes; views = s.views }
  marked m not_free s r busy =
      let not_now : get_or (set s.words place m) place 0 ≢ 0 = λ zero_now. not_free (sym (written s r m) ∙ zero_now) in
      record {
        history = r.history;
        seat_of = r.seat_of;
        holder = r.holder;
        word_room = length-set s.words place m ∙ r.word_room;
        slot_room = r.slot_room;
        free = λ zero_now. absurd (not_now zero_now);
        taken = λ _. r.taken busy;
        views = λ seat v at. let old = r.views seat v at in record { distinct = old.distinct; parts = old.parts; key = old.key; holding = λ h. let was = old.holding h in (not_now, was.1, was.2) };
      }

  pub presses : (id : ℕ) (me : Seat) → me.0.parts ≡ the_part me.0 ∷ [] → me.1 ≡ []
      → Allows Rule room id me place (λ found. 2) (Pressed tag_of key entries fits (step room place 2 0 none) me)
  presses id me one bare s r slots at small = dite (ℕ_discrete (word_of s) 0)
      (λ free.
      let lies = r.free free in
      let x : S = lies.0 in
      let w : View = holder_view tag_of me.0 (entries x) in
      let known = one_part s r id me.0 at one in (
        w,
        takes place (Some x),
        lies.1,
        taken 2 (λ no. omega arith) s r id me.0 at one x lies.2 free,
        (
          (λ _. (
            x,
            ap (λ c. (w, (place, Some x) ∷ c)) bare,
            lies.2.fit,
            key_of s r id me.0 at one ∙ ap Some (sym lies.2.key_is),
            subst (IsPrefix (the_part me.0).seen) (sym lies.2.entries_are) known.seen,
            ap (tagged tag_of (the_part me.0).tag) lies.2.entries_are ∙ sym known.mine,
          )),
          (λ busy. absurd (busy free)),
          refl,
        ),
      ))
      (λ busy. (
        me.0,
        keeps,
        tt,
        subst (λ (vs : List View). Rule record { words = set s.words place 2; homes = s.homes; views = vs }) (sym (set_again s.views id me.0 at)) (marked 2 (λ no. omega arith) s r busy),
        ((λ free. absurd (busy free)), (λ _. refl), refl),
      ))

  pub tries : (id : ℕ) (me : Seat) → me.0.parts ≡ the_part me.0 ∷ [] → me.1 ≡ []
      → Allows Rule room id me place (λ found. either (found == 0) 1 found) (Tried tag_of key entries fits (step room place 0 1 none) me)
  tries id me one bare s r slots at small = dite (ℕ_discrete (word_of s) 0)
      (λ free.
      let lies = r.free free in
      let x : S = lies.0 in
      let w : View = holder_view tag_of me.0 (entries x) in
      let known = one_part s r id me.0 at one in (
        w,
        takes place (Some x),
        lies.1,
        subst (λ b. Rule (stepped s place (either b 1 (word_of s)) id me.1 w (takes place (Some x)))) (sym (eq-eqb (word_of s) 0 free)) (taken 1 (λ no. omega arith) s r id me.0 at one x lies.2 free),
        (
          (λ _. (
            x,
            ap (λ c. (w, (place, Some x) ∷ c)) bare,
            lies.2.fit,
            key_of s r id me.0 at one ∙ ap Some (sym lies.2.key_is),
            subst (IsPrefix (the_part me.0).seen) (sym lies.2.entries_are) known.seen,
            ap (tagged tag_of (the_part me.0).tag) lies.2.entries_are ∙ sym known.mine,
          )),
          (λ busy. absurd (busy free)),
          refl,
          refl,
        ),
      ))
      (λ busy. (
        me.0,
        keeps,
        tt,
        subst (λ b. Rule (stepped s place (either b 1 (word_of s)) id me.1 me.0 keeps)) (sym (ne_eqb (word_of s) 0 busy)) (unchanged s r id me at),
        ((λ free. absurd (busy free)), (λ _. refl), refl, refl),
      ))

  -- ---- the state is given back: the word becomes 0

  given : (s : Table) (r : Rule s) (id : ℕ) (v : View) (x : S) → get_elem? s.views id ≡ some v → v.parts ≡ the_part v ∷ [] → v.holds ≡ true
      → fits x → v.key ≡ Some (key x) → AddsOnly tag_of (the_part v).tag (the_part v).seen (entries x)
      → Rule record { words = set s.words place 0; homes = set s.homes place (some (Some x)); views = set s.views id (giver_view tag_of v (entries x)) }
  given s r id v x at one holds fit key_is adds =
      let p : Part E = the_part v in
      let known = one_part s r id v at one in
      let held = ((r.views id v at).holding holds).2 in
      let alone : p ∷ [] ≡ held.0 ∷ [] = sym one ∙ held.1 in
      let same : p ≡ held.0 = cc alone in
      let all : p.seen ≡ r.history = ap (λ (q : Part E). q.seen) same ∙ held.2 in
      let adds' : AddsOnly tag_of p.tag r.history (entries x) = subst (λ es. AddsOnly tag_of p.tag es (entries x)) all adds in
      let keys : Some (key x) ≡ Some k = sym key_is ∙ key_of s r id v at one in
      let now = written s r 0 in
      record {
        history = entries x;
        seat_of = r.seat_of;
        holder = r.holder;
        word_room = length-set s.words place 0 ∙ r.word_room;
        slot_room = length-set s.homes place (some (Some x)) ∙ r.slot_room;
        free = λ _. (x, set_here s.homes place (some (Some x)) (let slot_room = r.slot_room in omega arith), record { fit = fit; key_is = cc keys; entries_are = refl });
        taken = λ not_now. absurd (not_now now);
        views = each-set (SeatAgrees tag_of k passes (entries x) r.seat_of (get_or (set s.words place 0) place 0) r.holder) s.views id (giver_view tag_of v (entries x))
            record {
              distinct = (tt, tt);
              parts = (record { at = known.at; below = known.below; seen = IsPrefix-refl (entries x); mine = refl; own = refl }, tt);
              key = λ _. key_of s r id v at one;
              holding = λ no. absurd (cc no);
            }
            (λ j u ne e. let old = r.views j u e in record {
              distinct = old.distinct;
              parts = Every-map (λ (q : Part E) (b : PartAgrees tag_of passes r.history r.seat_of j q).
                  let other : q.tag ≢ p.tag = λ tags. ne (sym b.at ∙ (ap r.seat_of tags ∙ known.at)) in record {
                    at = b.at;
                    below = b.below;
                    seen = IsPrefix-trans q.seen r.history (entries x) b.seen (AddsOnly-prefix tag_of p.tag r.history (entries x) adds');
                    mine = b.mine ∙ sym (tagged-adds_other tag_of q.tag p.tag r.history (entries x) other adds');
                    own = b.own;
                  }) u.parts old.parts;
              key = old.key;
              holding = λ h. absurd (ne ((old.holding h).1 ∙ sym ((r.views id v at).holding holds).1));
            });
      }

  pub gives_back : (id : ℕ) (me : Seat) (x : S) → me.0.parts ≡ the_part me.0 ∷ [] → me.0.holds ≡ true → me.1 ≡ (place, Some x) ∷ [] → fits x → me.0.key ≡ Some (key x)
      → AddsOnly tag_of (the_part me.0).tag (the_part me.0).seen (entries x)
      → Allows Rule room id me place (λ _. 0) (GaveBack tag_of entries (step room place 0 0 none) me)
  gives_back id me x one holds carried fit key_is adds s r slots at small =
      let w : View = giver_view tag_of me.0 (entries x) in (
        w,
        gives,
        tt,
        subst (λ (c : List (ℕ × Option S)). Rule (stepped s place 0 id c w gives)) (sym carried) (given s r id me.0 x at one holds fit key_is adds),
        λ y lay. let values : Some y ≡ Some x = ap value_of (sym lay ∙ carried) in let same : y ≡ x = cc values in
            λ i. (giver_view tag_of me.0 (entries (sym same i)), ap rest carried i),
      )

  -- ---- the first pass of a seat goes to a seat of its own

  pub deals : (id : ℕ) (v : View) (p : Part E) (ps : List (Part E)) → v.holds ≡ false → v.parts ≡ p ∷ ps → Splits Rule id v (without_first v) (first_alone v)
  deals id v p ps idle is s r at =
      let m : ℕ = length s.views in
      let left : View = without_first v in
      let right : View = first_alone v in
      let known = r.views id v at in
      let distinct : DistinctTags (p ∷ ps) = subst DistinctTags is known.distinct in
      let parts : Every (PartAgrees tag_of passes r.history r.seat_of id) (p ∷ ps) = subst (Every (PartAgrees tag_of passes r.history r.seat_of id)) is known.parts in
      let has_key : v.key ≡ Some k = known.key (let some_part = ap length is in omega arith) in
      let seat_of : ℕ → ℕ = moved r.seat_of p.tag m in
      let Agrees = SeatAgrees tag_of k passes r.history seat_of (word_of s) r.holder in
      let stays : (j : ℕ) (q : Part E) → q.tag ≢ p.tag → PartAgrees tag_of passes r.history r.seat_of j q → PartAgrees tag_of passes r.history seat_of j q =
      λ j q ne b. record { at = moved-else r.seat_of p.tag m q.tag ne ∙ b.at; below = b.below; seen = b.seen; mine = b.mine; own = b.own } in
      record {
        history = r.history;
        seat_of = seat_of;
        holder = r.holder;
        word_room = r.word_room;
        slot_room = r.slot_room;
        free = r.free;
        taken = λ busy. HoldsAt-snoc (set s.views id left) r.holder right (HoldsAt-set s.views id r.holder v left at idle (r.taken busy));
        views = each-snoc Agrees (set s.views id left) right
            (subst (λ j. Agrees j right) (sym (length-set s.views id left)) record {
              distinct = (tt, tt);
              parts = (
                subst (PartAgrees tag_of passes r.history seat_of m) (ap first_part (sym is))
                    record { at = moved-here r.seat_of p.tag m; below = parts.0.below; seen = parts.0.seen; mine = parts.0.mine; own = parts.0.own },
                tt,
              );
              key = λ _. has_key;
              holding = λ no. absurd (cc no);
            })
            (each-set Agrees s.views id left
            record {
              distinct = subst DistinctTags (ap rest (sym is)) distinct.1;
              parts = subst (Every (PartAgrees tag_of passes r.history seat_of id)) (ap rest (sym is)) (Every-zip (stays id) ps distinct.0 parts.1);
              key = λ _. has_key;
              holding = λ no. absurd (cc no);
            }
            (λ j w ne e. let old = r.views j w e in record {
              distinct = old.distinct;
              parts = Every-map (λ (q : Part E) (b : PartAgrees tag_of passes r.history r.seat_of j q).
                  stays j q (λ tags. ne (sym b.at ∙ (ap r.seat_of tags ∙ parts.0.at))) b) w.parts old.parts;
              key = old.key;
              holding = old.holding;
            }));
      }

  -- ---- two passes come to one seat

  pub joins : (id : ℕ) (v : View) (other : ℕ) (w : View) → v.holds ≡ false → v.parts ≡ the_part v ∷ [] → w.holds ≡ false → w.parts ≡ the_part w ∷ []
      → Joins Rule id v other w (joined_view v w) spent_view
  joins id v other w idle one idle' one' s r at apart there =
      let both : View = joined_view v w in
      let p : Part E = the_part v in
      let q : Part E = the_part w in
      let before : get_elem? s.views other ≡ some w = sym (set_else s.views id other both apart) ∙ there in
      let known = one_part s r id v at one in
      let known' = one_part s r other w before one' in
      let ne : q.tag ≢ p.tag = λ tags. apart (sym known'.at ∙ (ap r.seat_of tags ∙ known.at)) in
      let seat_of : ℕ → ℕ = moved r.seat_of q.tag id in
      let Agrees = SeatAgrees tag_of k passes r.history seat_of (word_of s) r.holder in
      let stays : (j : ℕ) (o : Part E) → o.tag ≢ q.tag → PartAgrees tag_of passes r.history r.seat_of j o → PartAgrees tag_of passes r.history seat_of j o =
      λ j o else' b. record { at = moved-else r.seat_of q.tag id o.tag else' ∙ b.at; below = b.below; seen = b.seen; mine = b.mine; own = b.own } in
      let comes : PartAgrees tag_of passes r.history seat_of id q =
      record { at = moved-here r.seat_of q.tag id; below = known'.below; seen = known'.seen; mine = known'.mine; own = known'.own } in
      record {
        history = r.history;
        seat_of = seat_of;
        holder = r.holder;
        word_room = r.word_room;
        slot_room = r.slot_room;
        free = r.free;
        taken = λ busy. HoldsAt-set (set s.views id both) other r.holder w spent_view there idle' (HoldsAt-set s.views id r.holder v both at idle (r.taken busy));
        views = each-set Agrees (set s.views id both) other spent_view
            record { distinct = tt; parts = tt; key = λ no. absurd (omega arith); holding = λ no. absurd (cc no) }
            (λ j u not_other e. each-set (λ i t. i ≢ other → Agrees i t) s.views id both
            (λ _. record {
              distinct = ((ne, tt), (tt, tt));
              parts = (stays id p (λ tags. ne (sym tags)) known, (comes, tt));
              key = λ _. key_of s r id v at one;
              holding = λ no. absurd (cc no);
            })
            (λ i t not_id e' other_seat. let old = r.views i t e' in record {
              distinct = old.distinct;
              parts = Every-map (λ (o : Part E) (b : PartAgrees tag_of passes r.history r.seat_of i o).
                  stays i o (λ tags. other_seat (sym b.at ∙ (ap r.seat_of tags ∙ known'.at))) b) t.parts old.parts;
              key = old.key;
              holding = old.holding;
            })
            j u e not_other);
      }

  -- ---- the first of two passes at a seat learns what the second one has seen

  told : (s : Table) (r : Rule s) (id : ℕ) (v : View) → get_elem? s.views id ≡ some v → v.holds ≡ false → v.parts ≡ the_part v ∷ second_part v ∷ []
      → let p = the_part v in let q = second_part v in let both : List E = longer p.seen q.seen in
      Rule (with_views s (set s.views id (told_view v))) × IsPrefix p.seen both × IsPrefix q.seen both × (tagged tag_of p.tag both ≡ p.mine) × (tagged tag_of q.tag both ≡ q.mine)
  told s r id v at idle two =
      let p = the_part v in
      let q = second_part v in
      let both : List E = longer p.seen q.seen in
      let known = r.views id v at in
      let parts : Every (PartAgrees tag_of passes r.history r.seat_of id) (p ∷ q ∷ []) = subst (Every (PartAgrees tag_of passes r.history r.seat_of id)) two known.parts in
      let a = parts.0 in
      let b = parts.1.0 in
      let covers = longer-covers p.seen q.seen r.history a.seen b.seen in
      let own = tagged-between tag_of p.tag p.seen both r.history covers.0 covers.2 (a.own ∙ a.mine) ∙ a.own in
      let own' = tagged-between tag_of q.tag q.seen both r.history covers.1 covers.2 (b.own ∙ b.mine) ∙ b.own in (
        record {
          history = r.history;
          seat_of = r.seat_of;
          holder = r.holder;
          word_room = r.word_room;
          slot_room = r.slot_room;
          free = r.free;
          taken = λ busy. HoldsAt-set s.views id r.holder v (told_view v) at idle (r.taken busy);
          views = each-set (SeatAgrees tag_of k passes r.history r.seat_of (word_of s) r.holder) s.views id (told_view v)
              record {
                distinct = (tt, tt);
                parts = (record { at = a.at; below = a.below; seen = covers.2; mine = a.mine; own = own }, tt);
                key = λ _. known.key (let some_part = ap length two in omega arith);
                holding = λ no. absurd (cc no);
              }
              (λ j u _ e. r.views j u e);
        },
        covers.0,
        covers.1,
        own,
        own',
      )

  pub tells : (id : ℕ) (ok : Option K) (p q : Part E) (c : List (ℕ × Option S)) → let me : Seat = (record { key = ok; holds = false; parts = p ∷ q ∷ [] }, c) in
      Allows Rule room id me place (λ found. found) (Told tag_of (step room place 0 0 none) me)
  tells id ok p q c s r slots at small =
      let v : View = record { key = ok; holds = false; parts = p ∷ q ∷ [] } in
      let t = told s r id v at refl refl in
      (told_view v, keeps, tt, word_again s (told_view v) id t.0, (refl, t.1, t.2, t.3, t.4))

  -- ---- the start

  above : (es : List E) (count t low : ℕ) → low ≤ t → Every (λ (p : Part E). low ≤ p.tag) (parts_from tag_of es count t)
  above es zero t low le = tt
  above es (suc count) t low le = (le, above es count (t + 1) low (omega arith))

  distinct_from : (es : List E) (count t : ℕ) → DistinctTags (parts_from tag_of es count t)
  distinct_from es zero t = tt
  distinct_from es (suc count) t =
      (Every-map (λ (p : Part E) (later : t + 1 ≤ p.tag). (λ (same : p.tag ≡ t). omega arith)) (parts_from tag_of es count (t + 1)) (above es count (t + 1) (t + 1) (omega arith)), distinct_from es count (t + 1))

  agree_from : (es : List E) (count t : ℕ) → t + count ≤ passes → Every (PartAgrees tag_of passes es (λ _. 0) 0) (parts_from tag_of es count t)
  agree_from es zero t le = tt
  agree_from es (suc count) t le = (record { at = refl; below = omega arith; seen = IsPrefix-refl es; mine = refl; own = refl }, agree_from es count (t + 1) (omega arith))

  starts : (es : List E) (v : View) → v ≡ opening_view tag_of k es passes → (j : ℕ) (w : View) → get_elem? (v ∷ []) j ≡ some w → SeatAgrees tag_of k passes es (λ _. 0) 0 0 j w
  starts es v is zero w e = subst (SeatAgrees tag_of k passes es (λ _. 0) 0 0 0) (sym is ∙ some-injective v w e)
      record { distinct = distinct_from es passes 0; parts = agree_from es passes 0 (omega arith); key = λ _. refl; holding = λ no. absurd (cc no) }
  starts es v is (suc j) w e = absurd (some-ne-none w (sym e))

  pub opens : (x : S) → fits x → key x ≡ k → Rule (opening (amid 0 0) (amid None (Some x)) (opening_view tag_of k (entries x) passes))
  opens x fit key_is = record {
    history = entries x;
    seat_of = λ _. 0;
    holder = 0;
    word_room = refl;
    slot_room = refl;
    free = λ _. (x, refl, record { fit = fit; key_is = key_is; entries_are = refl });
    taken = λ busy. absurd (busy refl);
    views = starts (entries x) (opening_view tag_of k (entries x) passes) refl;
  }

  -- ---- the end, at word 0

  pub closes : (id : ℕ) (v : View) (ws : List ℕ) (xs : List (Option S)) → v.parts ≡ the_part v ∷ [] → Final (Seen Rule id v) ws xs → get_or ws place 0 ≡ 0
      → (x : S) × (get_elem? xs place ≡ some (Some x)) × fits x × (v.key ≡ Some (key x)) × IsPrefix (the_part v).seen (entries x) × (tagged tag_of (the_part v).tag (entries x) ≡ (the_part v).mine)
  closes id v ws xs one end free =
      let s = end.0 in
      let r = end.1.0 in
      let at = end.1.1 in
      let lies = r.free (ap (λ (l : List ℕ). get_or l place 0) end.2 ∙ free) in
      let known = one_part s r id v at one in (
        lies.0,
        end.4 place (Some lies.0) lies.1,
        lies.2.fit,
        key_of s r id v at one ∙ ap Some (sym lies.2.key_is),
        subst (IsPrefix (the_part v).seen) (sym lies.2.entries_are) known.seen,
        ap (tagged tag_of (the_part v).tag) lies.2.entries_are ∙ sym known.mine,
      )

  -- ---- all of them

  held_word : (m : ℕ) → IsHeldWord m → m ≢ 0
  held_word m (inl one) = λ no. omega arith
  held_word m (inr two) = λ no. omega arith

  pub LockRule-table_after : (s : Table) (t : Step S K E) → Rule s → May tag_of key entries fits s t → Rule (table_after tag_of entries s t)
  LockRule-table_after s (Deals seat v) r may = deals seat v (the_part v) (rest v.parts) may.1 may.2 s r may.0
  LockRule-table_after s (Takes word seat v x) r may =
      let lies = r.free may.2 in
      let values : Some lies.0 ≡ Some x = some-injective _ _ (some-injective _ _ (sym lies.1 ∙ may.4)) in
      let same : lies.0 ≡ x = cc values in
      taken word (held_word word may.3) s r seat v may.0 may.1.1 x (subst (IsStateOf key entries fits k r.history) same lies.2) may.2
  LockRule-table_after s (FindsTaken seat v) r may = r
  LockRule-table_after s (LeavesWord seat v) r may = marked awaited_word (λ no. omega arith) s r may.1
  LockRule-table_after s (Gives seat v x) r may = given s r seat v x may.0 may.2 may.1 may.3 may.4 may.5
  LockRule-table_after s (TakesIn seat v other w) r may =
      joins seat v other w may.1.0 may.1.1 may.3.0 may.3.1 s r may.0 may.4 (set_else s.views seat other (joined_view v w) may.4 ∙ may.2)
  LockRule-table_after s (Tells seat v) r may = (told s r seat v may.0 may.1 may.2).0

  pub LockRule-table_after_all : (s : Table) (ts : List (Step S K E)) → Rule s → MayAll tag_of key entries fits s ts → Rule (table_after_all tag_of entries s ts)
  LockRule-table_after_all s [] r may = r
  LockRule-table_after_all s (t ∷ ts) r may = LockRule-table_after_all (table_after tag_of entries s t) ts (LockRule-table_after s t r may.0) may.1

  -- ---- the word that was left

  word_stays : (s : Table) (t : Step S K E) → Rule s → word_of s ≡ awaited_word → May tag_of key entries fits s t → GivesNothing t → word_of (table_after tag_of entries s t) ≡ awaited_word
  word_stays s (Deals seat v) r is may nothing = is
  word_stays s (Takes word seat v x) r is may nothing = let both : ◌≡◌ {A = ℕ} 0 2 = sym may.2 ∙ is in absurd (omega arith)
  word_stays s (FindsTaken seat v) r is may nothing = is
  word_stays s (LeavesWord seat v) r is may nothing = written s r awaited_word
  word_stays s (Gives seat v x) r is may nothing = absurd nothing
  word_stays s (TakesIn seat v other w) r is may nothing = is
  word_stays s (Tells seat v) r is may nothing = is

  word_stays_all : (s : Table) (ts : List (Step S K E)) → Rule s → word_of s ≡ awaited_word → MayAll tag_of key entries fits s ts → Every GivesNothing ts
      → word_of (table_after_all tag_of entries s ts) ≡ awaited_word
  word_stays_all s [] r is may nothing = is
  word_stays_all s (t ∷ ts) r is may nothing =
      word_stays_all (table_after tag_of entries s t) ts (LockRule-table_after s t r may.0) (word_stays s t r is may.0 nothing.0) may.1 nothing.1

  leaves_word : (s : Table) (t : Step S K E) → Rule s → LeavesAwaited t → word_of (table_after tag_of entries s t) ≡ awaited_word
  leaves_word s (Deals seat v) r leaves = absurd leaves
  leaves_word s (Takes word seat v x) r leaves = written s r word ∙ leaves
  leaves_word s (FindsTaken seat v) r leaves = absurd leaves
  leaves_word s (LeavesWord seat v) r leaves = written s r awaited_word
  leaves_word s (Gives seat v x) r leaves = absurd leaves
  leaves_word s (TakesIn seat v other w) r leaves = absurd leaves
  leaves_word s (Tells seat v) r leaves = absurd leaves

  pub word_left_is_found : (s : Table) (t : Step S K E) (ts : List (Step S K E)) → Rule s → MayAll tag_of key entries fits s (t ∷ ts) → LeavesAwaited t → Every GivesNothing ts
      → word_of (table_after_all tag_of entries s (t ∷ ts)) ≡ awaited_word
  word_left_is_found s t ts r may leaves nothing =
      word_stays_all (table_after tag_of entries s t) ts (LockRule-table_after s t r may.0) (leaves_word s t r leaves) may.1 nothing
