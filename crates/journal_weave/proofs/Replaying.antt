-- An office that follows its journal, entry by entry.
use Rattle.std.proofs.Common.{◌≡◌, ℕ, zero, suc, ◌+◌, ◌<◌, ◌≤◌, Bool, true, false, List, [], ◌∷◌, ◌++◌, length, map, take, Option, None, Some, refl, sym, ap, subst, ◌∙◌, arith, length-append}
use Rattle.std.specs.Prelude.{slice_get, IfSome, IfNone, is_some}
use Rattle.std.proofs.lemmas.List.{map-append, take-append-le, append-nil}
use Rattle.std.proofs.Math.Seq.{take-length}
use Rattle.bottle_values.specs.ListLaws.{at_seam}
use Rattle.frame_codec.specs.Frame.{Fields}
use Rattle.office_map.specs.PlanValue.{PlanValue}
use Rattle.office_journal.specs.declared.event.Event.TheVariants as event
use Rattle.office_journal.specs.declared.event.Entry.{Entry}
use Rattle.office_journal.specs.declared.reply.Refusal.TheVariants as refusal
use Rattle.site_core.specs.Journals.{Site, noted}
use Rattle.journal_weave.specs.declared.stop.Stop.{Stop}
use Rattle.journal_weave.specs.Weaving.{untagged}
use Rattle.journal_weave.specs.Following.{site_of, Gives, Follows, IsLimit}
use Rattle.journal_weave.specs.ReplayValue.{ReplayValue}
use Rattle.journal_weave.specs.Replays.{given_at, TakesAs, IsReplay}
use Rattle.journal_weave.proofs.EntriesTold.{some_below, follows_next, limit_at, limit_at_end}

-- ---- a list that goes on

get_before : {X : Type 0} (xs ys : List X) (i : ℕ) → i < length xs → slice_get (xs ++ ys) i ≡ slice_get xs i
get_before [] ys i lt = absurd (omega (arith, lt))
get_before (x ∷ xs) ys zero lt = refl
get_before (x ∷ xs) ys (suc i) lt = get_before xs ys i (omega (arith, lt))

follows_before : (plan : PlanValue) (a : ℕ) (xs ys : List Entry) (n : ℕ) → n ≤ length xs → Follows plan a xs n → Follows plan a (xs ++ ys) n
follows_before plan a xs ys n le h i x lt at =
    subst (λ l. Gives (site_of plan a l) x) (sym (take-append-le i xs ys (omega (arith, lt, le)))) (h i x lt (sym (get_before xs ys i (omega (arith, lt, le))) ∙ at))

limit_before : (plan : PlanValue) (a : ℕ) (xs ys : List Entry) (n : ℕ) → n < length xs → IsLimit plan a xs n → IsLimit plan a (xs ++ ys) n
limit_before plan a xs ys n lt h = record {
  within = omega (arith, lt, length-append xs ys);
  follows = follows_before plan a xs ys n (omega (arith, lt)) h.follows;
  no_more = λ x at g. h.no_more x (sym (get_before xs ys n lt) ∙ at) (subst (λ l. Gives (site_of plan a l) x) (take-append-le n xs ys (omega (arith, lt))) g);
}

takes_before : (xs ys : List Entry) (n : ℕ) (o : Option Fields) → n < length xs → TakesAs xs n o → TakesAs (xs ++ ys) n o
takes_before xs ys n None lt h = λ f t. h f (t.0, sym (get_before xs ys n lt) ∙ t.1, t.2)
takes_before xs ys n (Some f) lt (x, at, is) = (x, get_before xs ys n lt ∙ at, is)

has_before : (xs ys es : List Entry) (n : ℕ) → n ≤ length xs → take n es ≡ map untagged (take n xs) → take n es ≡ map untagged (take n (xs ++ ys))
has_before xs ys es n le h = h ∙ ap (map untagged) (sym (take-append-le n xs ys le))

-- ---- before the first entry

nothing_given : (plan : PlanValue) (a : ℕ) → IsLimit plan a [] 0
nothing_given plan a = record { within = omega arith; follows = λ i x lt at. absurd (omega (arith, lt)); no_more = λ x at. absurd (never x at) }
  where
    never : (x : Entry) → slice_get [] 0 ≡ Some x → ⊥
    never x at = cc

at_first : (plan : PlanValue) (a : ℕ) → IsReplay plan a [] true (record { site = record { plan = plan; me = a; entries = [] }; stop = None })
at_first plan a = record { planned = refl; number = refl; limit = nothing_given plan a; has = refl; enough = omega arith; stops = (refl, refl) }

pub begins : (plan : PlanValue) (a : ℕ) (s : Site) → s.plan ≡ plan → s.me ≡ a → s.entries ≡ [] → IsReplay plan a [] true (record { site = s; stop = None })
begins plan a s p m e =
    let same : record { plan = plan; me = a; entries = [] } ≡ s =
    ap (λ x. record { plan = x; me = a; entries = [] }) (sym p) ∙ ap (λ x. record { plan = s.plan; me = x; entries = [] }) (sym m) ∙ ap (λ x. record { plan = s.plan; me = s.me; entries = x }) (sym e) in
    subst (λ x. IsReplay plan a [] true (record { site = x; stop = None })) same (at_first plan a)

-- ---- one entry more

-- an office that follows so far has all that was told
whole : (plan : PlanValue) (a : ℕ) (xs : List Entry) (s : Site) → IsReplay plan a xs true (record { site = s; stop = None }) → s ≡ site_of plan a xs
whole plan a xs s h =
    let n : ℕ = length s.entries in
    let all : take n xs ≡ xs = ap (λ k. take k xs) h.stops.0 ∙ take-length xs in
    let es : s.entries ≡ map untagged xs = sym (take-length s.entries) ∙ h.has ∙ ap (map untagged) all in
    ap (λ x. record { plan = x; me = s.me; entries = s.entries }) h.planned ∙ ap (λ x. record { plan = plan; me = x; entries = s.entries }) h.number ∙ ap (λ x. record { plan = plan; me = a; entries = x }) es

length_untagged : (xs : List Entry) → length (map untagged xs) ≡ length xs
length_untagged [] = refl
length_untagged (x ∷ xs) = ap suc (length_untagged xs)

all_first : (plan : PlanValue) (a : ℕ) (xs : List Entry) → take (length xs) (xs ++ []) ≡ xs
all_first plan a xs = ap (take (length xs)) (append-nil xs) ∙ take-length xs

pub follows_more : (plan : PlanValue) (a : ℕ) (xs : List Entry) (x : Entry) (s : Site) → IsReplay plan a xs true (record { site = s; stop = None }) → Gives s x → IsReplay plan a (xs ++ x ∷ []) true (record { site = noted s 0 x.event x.reply; stop = None })
follows_more plan a xs x s h g =
    let n : ℕ = length xs in
    let ys : List Entry = xs ++ x ∷ [] in
    let is : s ≡ site_of plan a xs = whole plan a xs s h in
    let first : take n ys ≡ xs = take-append-le n xs (x ∷ []) (omega arith) ∙ take-length xs in
    let there : Gives (site_of plan a (take n ys)) x = subst (λ l. Gives (site_of plan a l) x) (sym first) (subst (λ z. Gives z x) is g) in
    let before : Follows plan a ys n = follows_before plan a xs (x ∷ []) n (omega arith) (subst (Follows plan a xs) h.stops.0 h.limit.follows) in
    let size : length ys ≡ n + 1 = length-append xs (x ∷ []) in
    let after : Follows plan a ys (n + 1) = follows_next plan a ys n x (at_seam xs x []) before there in
    let new : noted s 0 x.event x.reply ≡ site_of plan a ys =
    ap (λ z. noted z 0 x.event x.reply) is ∙ ap (λ l. record { plan = plan; me = a; entries = l }) (sym (map-append untagged xs (x ∷ []))) in
    let many : length (map untagged ys) ≡ length ys = length_untagged ys in
    subst (λ z. IsReplay plan a ys true (record { site = z; stop = None })) (sym new) (record {
      planned = refl;
      number = refl;
      limit = limit_at_end plan a ys (n + 1) (length (map untagged ys)) (many ∙ size) (sym size) after;
      has = take-length (map untagged ys) ∙ ap (map untagged) (sym (ap (λ k. take k ys) many ∙ take-length ys));
      enough = omega arith;
      stops = (many, refl);
    })

pub stops_there : (plan : PlanValue) (a : ℕ) (xs more : List Entry) (x : Entry) (s : Site) (n : ℕ) (takes : Option Fields) → IsReplay plan a xs true (record { site = s; stop = None }) → (Gives s x → ⊥) → n ≡ length s.entries →
    IfSome takes (λ f. x.event ≡ event.Took f) → IfNone takes ((f : Fields) → x.event ≡ event.Took f → ⊥) →
    IsReplay plan a (xs ++ x ∷ []) true (record { site = record { plan = s.plan; me = s.me; entries = s.entries ++ more }; stop = Some (record { given = n; takes = takes }) })
stops_there plan a xs more x s n takes h lacks count some none =
    let ys : List Entry = xs ++ x ∷ [] in
    let k : ℕ = length xs in
    let is : s ≡ site_of plan a xs = whole plan a xs s h in
    let same : n ≡ k = count ∙ h.stops.0 in
    let size : length ys ≡ k + 1 = length-append xs (x ∷ []) in
    let first : take k ys ≡ xs = take-append-le k xs (x ∷ []) (omega arith) ∙ take-length xs in
    let seam : slice_get ys k ≡ Some x = at_seam xs x [] in
    let before : Follows plan a ys k = follows_before plan a xs (x ∷ []) k (omega arith) (subst (Follows plan a xs) h.stops.0 h.limit.follows) in
    let es : s.entries ≡ map untagged xs = ap (λ (z : Site). z.entries) is in
    record {
      planned = h.planned;
      number = h.number;
      limit = limit_at plan a ys k n x same (omega (arith, size)) seam before (λ g. lacks (subst (λ z. Gives z x) (sym is) (subst (λ l. Gives (site_of plan a l) x) first g)));
      has = take-append-le n s.entries more (omega (arith, count)) ∙ ap (λ j. take j s.entries) count ∙ take-length s.entries ∙ es ∙ ap (map untagged) (sym first ∙ ap (λ j. take j ys) (sym same));
      enough = omega (arith, count, length-append s.entries more);
      stops = (omega (arith, same, size), subst (λ j. TakesAs ys j takes) (sym same) (takes_as takes some none seam));
    }
  where
    takes_as : (o : Option Fields) → IfSome o (λ f. x.event ≡ event.Took f) → IfNone o ((f : Fields) → x.event ≡ event.Took f → ⊥) → slice_get (xs ++ x ∷ []) (length xs) ≡ Some x → TakesAs (xs ++ x ∷ []) (length xs) o
    takes_as None s n at = λ f t. n f (ap (λ (z : Entry). z.event) (let both : Some x ≡ Some t.0 = sym at ∙ t.1 in let one : x ≡ t.0 = cc in one) ∙ t.2)
    takes_as (Some f) s n at = (x, at, s)

-- where it stopped, nothing more is looked at
pub stopped_before : (plan : PlanValue) (a : ℕ) (xs : List Entry) (x : Entry) (s : Site) (o : Option Stop) → is_some o ≡ true → IsReplay plan a xs true (record { site = s; stop = o }) → IsReplay plan a (xs ++ x ∷ []) true (record { site = s; stop = o })
stopped_before plan a xs x s None some h = absurd (cc)
stopped_before plan a xs x s (Some stop) some h =
    let lt : stop.given < length xs = omega (arith, h.stops.0) in
    record {
      planned = h.planned;
      number = h.number;
      limit = limit_before plan a xs (x ∷ []) stop.given lt h.limit;
      has = has_before xs (x ∷ []) s.entries stop.given (omega (arith, lt)) h.has;
      enough = h.enough;
      stops = (omega (arith, lt, length-append xs (x ∷ [])), takes_before xs (x ∷ []) stop.given stop.takes lt h.stops.1);
    }

-- ---- what is no entry

none_at_end : (xs : List Entry) (x : Entry) → slice_get xs (length xs) ≡ Some x → ⊥
none_at_end xs x at = let lt : length xs < length xs = some_below xs (length xs) x at in omega (arith, lt)

pub breaks_off : (plan : PlanValue) (a : ℕ) (xs : List Entry) (s : Site) (n : ℕ) → n ≡ length s.entries → IsReplay plan a xs true (record { site = s; stop = None }) → IsReplay plan a xs false (record { site = s; stop = Some (record { given = n; takes = None }) })
breaks_off plan a xs s n count h = record {
  planned = h.planned;
  number = h.number;
  limit = subst (IsLimit plan a xs) (sym count) h.limit;
  has = ap (λ k. take k s.entries) count ∙ h.has ∙ ap (λ k. map untagged (take k xs)) (sym count);
  enough = omega (arith, count);
  stops = (omega (arith, count, h.stops.0), λ f t. none_at_end xs t.0 (ap (slice_get xs) (sym h.stops.0 ∙ sym count) ∙ t.1));
}

pub broken_off : (plan : PlanValue) (a : ℕ) (xs : List Entry) (s : Site) (o : Option Stop) → is_some o ≡ true → IsReplay plan a xs true (record { site = s; stop = o }) → IsReplay plan a xs false (record { site = s; stop = o })
broken_off plan a xs s None some h = absurd (cc)
broken_off plan a xs s (Some stop) some h = record {
  planned = h.planned;
  number = h.number;
  limit = h.limit;
  has = h.has;
  enough = h.enough;
  stops = (omega (arith, h.stops.0), h.stops.1);
}

-- ---- one entry, whatever became of it

pub gave : (plan : PlanValue) (a : ℕ) (xs : List Entry) (x : Entry) (s s' : Site) (o : Option Stop) → is_some o ≡ false → Gives s x × (s' ≡ noted s 0 x.event x.reply) → IsReplay plan a xs true (record { site = s; stop = o })
    → IsReplay plan a (xs ++ x ∷ []) true (record { site = s'; stop = o })
gave plan a xs x s s' None none g h = subst (λ z. IsReplay plan a (xs ++ x ∷ []) true (record { site = z; stop = None })) (sym g.1) (follows_more plan a xs x s h g.0)
gave plan a xs x s s' (Some stop) none g h = absurd (cc)

pub gave_not : (plan : PlanValue) (a : ℕ) (xs : List Entry) (x : Entry) (s s' : Site) (o : Option Stop) (n : ℕ) (takes : Option Fields) → is_some o ≡ false → (Gives s x → ⊥)
    → (more : List Entry) × (s' ≡ record { plan = s.plan; me = s.me; entries = s.entries ++ more }) → n ≡ length s.entries → IfSome takes (λ f. x.event ≡ event.Took f) → IfNone takes ((f : Fields) → x.event ≡ event.Took f → ⊥)
    → IsReplay plan a xs true (record { site = s; stop = o }) → IsReplay plan a (xs ++ x ∷ []) true (record { site = s'; stop = Some (record { given = n; takes = takes }) })
gave_not plan a xs x s s' None n takes none lacks kept count some others h =
    subst (λ z. IsReplay plan a (xs ++ x ∷ []) true (record { site = z; stop = Some (record { given = n; takes = takes }) })) (sym kept.1) (stops_there plan a xs kept.0 x s n takes h lacks count some others)
gave_not plan a xs x s s' (Some stop) n takes none lacks kept count some others h = absurd (cc)

pub broke_off : (plan : PlanValue) (a : ℕ) (xs : List Entry) (s : Site) (o : Option Stop) (n : ℕ) → is_some o ≡ false → n ≡ length s.entries → IsReplay plan a xs true (record { site = s; stop = o })
    → IsReplay plan a xs false (record { site = s; stop = Some (record { given = n; takes = None }) })
broke_off plan a xs s None n none count h = breaks_off plan a xs s n count h
broke_off plan a xs s (Some stop) n none count h = absurd (cc)

pub was_broken : (plan : PlanValue) (a : ℕ) (xs : List Entry) (s : Site) (o : Option Stop) → is_some o ≡ true → IsReplay plan a xs true (record { site = s; stop = o }) → IsReplay plan a xs false (record { site = s; stop = o })
was_broken plan a xs s None some h = absurd (cc)
was_broken plan a xs s (Some stop) some h = broken_off plan a xs s (Some stop) refl h

-- whether it ends, where that is known
pub ends_so : (plan : PlanValue) (a : ℕ) (xs : List Entry) (ends known : Bool) (r : ReplayValue) → ends ≡ known → IsReplay plan a xs known r → IsReplay plan a xs ends r
ends_so plan a xs ends known r is h = subst (λ b. IsReplay plan a xs b r) (sym is) h

-- ---- no more is given than the office has

pub few_none : (n : ℕ) (o : Option Stop) → is_some o ≡ false → given_at n o ≤ n
few_none n None none = omega arith
few_none n (Some stop) none = absurd (cc)

pub few_kept : (s s' : Site) (n : ℕ) → n ≡ length s.entries → (more : List Entry) × (s' ≡ record { plan = s.plan; me = s.me; entries = s.entries ++ more }) → n ≤ length s'.entries
few_kept s s' n count kept = omega (arith, count, ap (λ (z : Site). length z.entries) kept.1, length-append s.entries kept.0)
