-- Offices that follow the journals that are gathered, one more, and all of them.
use Rattle.std.proofs.Common.{◌≡◌, ℕ, zero, suc, ◌<◌, ◌^◌, List, [], ◌∷◌, ◌++◌, length, map, set, get_or, Option, None, Some, Global, refl, sym, ap, subst, ◌∙◌, arith, ⊎_elim}
use Rattle.std.specs.Prelude.{IsSome}
use Rattle.std.proofs.lemmas.Bool.{cases_eq}
use Rattle.std.proofs.lemmas.List.{length-set, length-map, get_or-set_same, get_or-set_other, get_or-map}
use Rattle.office_map.specs.PlanValue.{PlanValue}
use Rattle.journal_texts.specs.HeaderLaws.{office_of_plan}
use Rattle.journal_texts.specs.JournalText.{IsJournal, ATextIsOneJournal}
use Rattle.journal_texts.specs.Receiving.{IsReadAs}
use Rattle.journal_weave.specs.declared.given.GivenJournal.{GivenJournal}
use Rattle.journal_weave.specs.ReplayValue.{ReplayValue}
use Rattle.journal_weave.specs.Replays.{IsReplay, AreReplays}
use Rattle.day_audits.specs.declared.audit.fault.GatherFault.{GatherFault}
use Rattle.day_audits.specs.declared.audit.fault.GatherFault.TheVariants as faults
use Rattle.day_audits.specs.audit.Gathered.{Gathered}
use Rattle.day_audits.specs.audit.Gathering.{AreGathered, HaveOne, IsRefused, IsRefusedAt, Lacks}
use Rattle.day_audits.specs.audit.Following.{IsFollowed, Gathers, FollowJournals, TellsOf}
use Rattle.day_audits.specs.audit.GatheringLaws.{gathered_nothing}
use Rattle.day_audits.proofs.audit_lemmas.Given.{given_as}
use Rattle.day_audits.proofs.audit_lemmas.Gathering.{gathered_more, have_one, refused_next, lacks}

-- ---- one slot

no_journal : (p : PlanValue) (a : ℕ) (j : Option GivenJournal) (r : Option ReplayValue) → IsFollowed p a j r → r ≡ None → j ≡ None
no_journal p a None r h e = refl
no_journal p a (Some j) None h e = absurd h
no_journal p a (Some j) (Some r) h e = absurd (cc)

a_journal : (p : PlanValue) (a : ℕ) (j : Option GivenJournal) (r : Option ReplayValue) → IsFollowed p a j r → IsSome r → IsSome j
a_journal p a None None h some = some
a_journal p a None (Some r) h some = absurd h
a_journal p a (Some j) r h some = refl

-- ---- none yet

nothing_followed : (p : PlanValue) (a : ℕ) (j : Option GivenJournal) (r : Option ReplayValue) → j ≡ None → r ≡ None → IsFollowed p a j r
nothing_followed p a j r e f = subst (λ x. IsFollowed p a x r) (sym e) (subst (IsFollowed p a None) (sym f) tt)

abbrev nones : ℕ → List (Option GivenJournal)
nones zero = []
nones (suc n) = None ∷ nones n

length-nones : (n : ℕ) → length (nones n) ≡ n
length-nones zero = refl
length-nones (suc n) = ap suc (length-nones n)

at_nones : (n a : ℕ) → get_or (nones n) a None ≡ None
at_nones zero a = refl
at_nones (suc n) zero = refl
at_nones (suc n) (suc a) = at_nones n a

abbrev pub gathered_as : PlanValue → List (Option ReplayValue) → Gathered
gathered_as q slots = record { plan = q; slots = slots }

pub gathers_nothing : (p q : PlanValue) (slots : List (Option ReplayValue)) → q ≡ p → length slots ≡ length p.offices → ((a : ℕ) → get_or slots a None ≡ None) → Gathers p [] (gathered_as q slots)
gathers_nothing p q slots same size empty =
    let n : ℕ = length p.offices in
    record {
      planned = same;
      journals = nones n;
      gathered = gathered_nothing p (nones n) (length-nones n) (at_nones n);
      count = size ∙ sym (length-nones n);
      followed = λ a. nothing_followed p a _ _ (at_nones n a) (empty a);
    }

-- ---- what is known of those that are there

module _ (p : PlanValue) (texts : List (List ℕ)) (v : Gathered) (g : Gathers p texts v) where
  pub one_each : length v.slots ≡ length p.offices
  one_each = g.count ∙ g.gathered.journals_for

  gathers_more : (text : List ℕ) (a : ℕ) (j : GivenJournal) (r : ReplayValue) (slots' : List (Option ReplayValue)) → slots' ≡ set v.slots a (Some r) → a < length v.slots → get_or v.slots a None ≡ None
      → IsJournal p text a j.entries.items j.ends → IsReplay p a j.entries.items j.ends r → Gathers p (texts ++ text ∷ []) (gathered_as v.plan slots')
  gathers_more text a j r slots' filled lt none is follows = subst (λ l. Gathers p (texts ++ text ∷ []) (gathered_as v.plan l)) (sym filled) (record {
    planned = g.planned;
    journals = set g.journals a (Some j);
    gathered = gathered_more p texts g.journals g.gathered text a j within (no_journal p a _ _ (g.followed a) none) is;
    count = length-set v.slots a (Some r) ∙ g.count ∙ sym (length-set g.journals a (Some j));
    followed = λ b. ⊎_elim (here b) (elsewhere b) (cases_eq b a);
  })
    where
      within : a < length g.journals
      within = omega (arith, lt, g.count)

      here : (b : ℕ) → b ≡ a → IsFollowed p b (get_or (set g.journals a (Some j)) b None) (get_or (set v.slots a (Some r)) b None)
      here b e =
          subst (λ c. IsFollowed p c (get_or (set g.journals a (Some j)) c None) (get_or (set v.slots a (Some r)) c None)) (sym e)
          (subst (λ x. IsFollowed p a x (get_or (set v.slots a (Some r)) a None)) (sym (get_or-set_same g.journals a (Some j) None within))
          (subst (λ x. IsFollowed p a (Some j) x) (sym (get_or-set_same v.slots a (Some r) None lt)) follows))

      elsewhere : (b : ℕ) → (b ≡ a → ⊥) → IsFollowed p b (get_or (set g.journals a (Some j)) b None) (get_or (set v.slots a (Some r)) b None)
      elsewhere b ne =
          subst (λ x. IsFollowed p b x (get_or (set v.slots a (Some r)) b None)) (sym (get_or-set_other g.journals a b (Some j) None ne))
          (subst (λ x. IsFollowed p b (get_or g.journals b None) x) (sym (get_or-set_other v.slots a b (Some r) None ne)) (g.followed b))

  pub refused_more : (text : List ℕ) (after : List (List ℕ)) (fault : GatherFault) → IsRefused p texts text fault → IsRefusedAt p (texts ++ text ∷ after) (length texts) fault
  refused_more text after fault is = refused_next p texts g.journals g.gathered text after fault is

  there_is_one : (a : ℕ) → IsSome (get_or v.slots a None) → HaveOne p texts a
  there_is_one a some = have_one p texts g.journals g.gathered a (a_journal p a _ _ (g.followed a) some)

  pub lacks_one : ATextIsOneJournal → (a : ℕ) → a < length v.slots → get_or v.slots a None ≡ None → ((b : ℕ) → b < a → IsSome (get_or v.slots b None)) → Lacks p texts a
  lacks_one one a lt none before =
      lacks p texts g.journals g.gathered one a (omega (arith, lt, g.count)) (no_journal p a _ _ (g.followed a) none) (λ b less. a_journal p b _ _ (g.followed b) (before b less))

  -- ---- with a text that was read, whose office r is

  module _ (text : List ℕ) (r : ReplayValue) (office : ℕ) (numbered : office ≡ r.site.me) (read : IsReadAs v.plan text (λ a entries ends. IsReplay v.plan a entries ends r)) where
    same : read.office ≡ office
    same = sym read.held.number ∙ sym numbered

    is_of : IsJournal p text office read.entries read.ends
    is_of = subst (λ a. IsJournal p text a read.entries read.ends) same (subst (λ x. IsJournal x text read.office read.entries read.ends) g.planned read.journal)

    follows : IsReplay p office read.entries read.ends r
    follows = subst (λ a. IsReplay p a read.entries read.ends r) same (subst (λ x. IsReplay x read.office read.entries read.ends r) g.planned read.held)

    pub of_plan : office < length v.slots
    of_plan = let lt = office_of_plan p is_of.first.1 office is_of.header in omega (arith, lt, one_each)

    pub gathers_text : Global → length text < 2 ^ 63 → (slots' : List (Option ReplayValue)) → get_or v.slots office None ≡ None → slots' ≡ set v.slots office (Some r) → Gathers p (texts ++ text ∷ []) (gathered_as v.plan slots')
    gathers_text heap short slots' none filled =
        let j : GivenJournal = given_as heap read.entries (omega (arith, read.few, short)) read.ends in
        gathers_more text office j r slots' filled of_plan none is_of follows

    pub twice : (after : List (List ℕ)) → IsSome (get_or v.slots office None) → IsRefusedAt p (texts ++ text ∷ after) (length texts) (faults.Twice office)
    twice after some = refused_more text after (faults.Twice office) (record { entries = read.entries; ends = read.ends; journal = is_of }, there_is_one office some)

-- ---- all of them

is_none : (o : Option GivenJournal) → IsSome o → o ≡ None → ⊥
is_none None some e = absurd (cc)
is_none (Some j) some e = absurd (cc)

all_some : (js : List (Option GivenJournal)) → ((a : ℕ) → a < length js → IsSome (get_or js a None)) → (journals : List GivenJournal) × (map Some journals ≡ js)
all_some [] h = ([], refl)
all_some (None ∷ js) h = absurd (is_none None (h 0 (omega arith)) refl)
all_some (Some j ∷ js) h = let rest = all_some js (λ a lt. h (suc a) (omega (arith, lt))) in (j ∷ rest.0, ap (λ l. Some j ∷ l) rest.1)

each_some : (rs : List ReplayValue) (a : ℕ) → a < length rs → IsSome (get_or (map Some rs) a None)
each_some [] a lt = absurd (omega (arith, lt))
each_some (r ∷ rs) zero lt = refl
each_some (r ∷ rs) (suc a) lt = each_some rs a (omega (arith, lt))

pub follow_journals : (p : PlanValue) (texts : List (List ℕ)) (v : Gathered) (rs : List ReplayValue) → Gathers p texts v → map Some rs ≡ v.slots → FollowJournals p texts rs
follow_journals p texts v rs h is =
    let count : length rs ≡ length v.slots = sym (length-map rs Some) ∙ ap length is in
    let there : (a : ℕ) → a < length h.journals → IsSome (get_or h.journals a None) =
    λ a lt. a_journal p a _ _ (h.followed a) (subst (λ l. IsSome (get_or l a None)) is (each_some rs a (omega (arith, lt, count, h.count)))) in
    let all = all_some h.journals there in
    let same : length all.0 ≡ length h.journals = sym (length-map all.0 Some) ∙ ap length all.1 in
    record {
      journals = all.0;
      are = subst (AreGathered p texts) (sym all.1) h.gathered;
      follow = record {
        offices = same ∙ h.gathered.journals_for;
        count = count ∙ h.count ∙ sym same;
        each = λ a j r lt is_j is_r.
            let within : a < length all.0 = omega (arith, lt, count, h.count, same) in
            let left : get_or h.journals a None ≡ Some j = ap (λ l. get_or l a None) (sym all.1) ∙ get_or-map Some all.0 a j None within ∙ ap Some (sym is_j) in
            let right : get_or v.slots a None ≡ Some r = ap (λ l. get_or l a None) (sym is) ∙ get_or-map Some rs a r None lt ∙ ap Some (sym is_r) in
            subst (λ x. IsFollowed p a (Some j) x) right (subst (λ x. IsFollowed p a x (get_or v.slots a None)) left (h.followed a));
      };
    }

-- what is told of those that they follow is told of those whose texts are gathered
pub tells_of : (Tells : PlanValue → List GivenJournal → List ℕ → Type 0) (v : Gathered) (rs : List ReplayValue) (q : PlanValue) (told : List ℕ) → q ≡ v.plan
    → ((p : PlanValue) (texts : List (List ℕ)) → Gathers p texts v → FollowJournals p texts rs) → ((journals : List GivenJournal) → AreReplays q journals rs → Tells q journals told) → TellsOf Tells v told
tells_of Tells v rs q told same follow tells p texts g =
    let f = follow p texts g in
    let planned : q ≡ p = same ∙ g.planned in (
      f.journals,
      f.are,
      subst (λ x. AreReplays x f.journals rs → Tells x f.journals told) planned (tells f.journals) f.follow,
    )
