-- Who wrote what is told of an office, by what its passes show that met.
use Rattle.std.proofs.Common.{◌≡◌, ℕ, ◌+◌, ◌<◌, ◌≤◌, List, [], ◌∷◌, ◌++◌, length, map, sym, ap, subst, ◌∙◌, append-nil, arith, ⊎_elim}
use Rattle.std.specs.Prelude.{All}
use Rattle.std.specs.List.{range_with_len}
use Rattle.std.proofs.lemmas.Bool.{cases_lt}
use Rattle.std.proofs.lemmas.List.{append_cancel_left}
use Rattle.std.proofs.lemmas.List.Elements.{All-cons, All-nil}
use mathlib.Core.List.{IsPrefix}
use Rattle.own_lock.specs.Entries.{longer, tagged}
use Rattle.own_lock.specs.Passes.{LockView, fresh_pass}
use Rattle.office_map.specs.PlanValue.{PlanValue}
use Rattle.office_journal.specs.declared.event.Entry.{Entry}
use Rattle.site_core.specs.Offices.{Office}
use Rattle.site_core.specs.Journals.{Site, AreAccepted, IsLegal, after}
use Rattle.locked_office.specs.Calls.{Key, DeskPass, Looks, office_with, tag_of}
use Rattle.office_runs.proofs.Beginnings.{begins_all, none_before, tagged_begins, tags_below}

-- who only looked added nothing
looks_adds_nothing : (k : Key) (p q : DeskPass) → Looks k p q → q.mine ≡ p.mine
looks_adds_nothing k p q (between, d) =
    let seen : List Entry = p.seen ++ between in
    let done : office_with k (seen ++ d.added) ≡ office_with k seen = subst (λ (x : DeskPass). office_with k x.seen ≡ office_with k seen) d.left d.done in
    let none : d.added ≡ [] = append_cancel_left seen d.added [] (ap (λ (s : Site). s.entries) done ∙ sym (append-nil seen)) in
    ap (λ (x : DeskPass). x.mine) d.left ∙ ap (λ (l : List Entry). p.mine ++ l) none ∙ append-nil p.mine

accepted_tags : (plan : PlanValue) (me : ℕ) (o : Office) (es : List Entry) → AreAccepted plan me o es → All (λ (e : Entry). e.tag < 16) es
accepted_tags plan me o [] accepted = All-nil (λ (e : Entry). e.tag < 16)
accepted_tags plan me o (x ∷ xs) (answered, tag, rest) = All-cons (λ (e : Entry). e.tag < 16) x xs tag (accepted_tags plan me (after plan me o x.event) xs rest)

-- where the passes with the tags from 2 on have no entry of their own
pub told_tags : (s : Site) (seen : List Entry) → IsLegal s → IsPrefix s.entries seen → ((t : ℕ) → 2 ≤ t → t < 15 → tagged tag_of t s.entries ≡ []) → tagged tag_of 15 seen ≡ [] → All (λ (e : Entry). e.tag < 2) s.entries
told_tags s seen legal begins rest own = tags_below tag_of 2 16 s.entries (accepted_tags s.plan s.me _ s.entries legal.accepted) (λ t more less. ⊎_elim
    (λ lt. rest t more lt)
    (λ ge. let last : 15 ≡ t = omega (arith, less, ge) in subst (λ (x : ℕ). tagged tag_of x s.entries ≡ []) last (none_before tag_of 15 s.entries seen begins own))
    (cases_lt t 15))

-- a pass that did nothing was met, and before it those with greater tags
pub one_met : (desk : LockView Key) (at most : ℕ) (pass : DeskPass) (first seen : List Entry) → pass ≡ fresh_pass desk tag_of [] at → IsPrefix first seen → tagged tag_of pass.tag seen ≡ pass.mine →
    ((t : ℕ) → at < t → t < most → tagged tag_of t first ≡ []) → (t : ℕ) → at ≤ t → t < most → tagged tag_of t first ≡ []
one_met desk at most pass first seen is begins mine others t more less =
    let none : tagged tag_of at seen ≡ [] = subst (λ (p : DeskPass). tagged tag_of p.tag seen ≡ p.mine) is mine in
    ⊎_elim (λ gt. others t gt less) (λ le. let same : at ≡ t = omega (arith, le, more) in subst (λ (x : ℕ). tagged tag_of x first ≡ []) same (none_before tag_of at first seen begins none)) (cases_lt at t)

-- a pass that another one met has all as before, but for what it has seen
pub own_kept : (own met other : DeskPass) → met ≡ record own { seen = longer own.seen other.seen } → met ≡ record own { seen = met.seen }
own_kept own met other is = is ∙ ap (λ (l : List Entry). record own { seen = l }) (sym (ap (λ (p : DeskPass). p.seen) is))

-- what who turned the office had seen at its last look, when all passes have met it
pub all_met : (desk : LockView Key) (k : Key) (own worker looked met rested given client : DeskPass) (rest : List DeskPass) → own ≡ fresh_pass desk tag_of [] 15 → rest ≡ map (fresh_pass desk tag_of []) (range_with_len 2 13) →
    worker.tag ≡ 0 → Looks k worker looked → looked.tag ≡ worker.tag → looked.mine ≡ tagged tag_of looked.tag looked.seen → met ≡ record own { seen = met.seen } → IsPrefix looked.seen met.seen →
    rested.tag ≡ met.tag → rested.mine ≡ met.mine → IsPrefix met.seen rested.seen → ((t : ℕ) → 2 ≤ t → t < 2 + length rest → tagged tag_of t met.seen ≡ []) →
    IsPrefix rested.seen given.seen → tagged tag_of rested.tag given.seen ≡ rested.mine → client.tag ≡ 1 → tagged tag_of client.tag given.seen ≡ client.mine →
    All (λ (e : Entry). e.tag < 2) looked.seen × (tagged tag_of 0 looked.seen ≡ worker.mine) × IsPrefix (tagged tag_of 1 looked.seen) client.mine
all_met desk k own worker looked met rested given client rest fresh others turns looks tag mine is seen still kept later none last own_mine submits client_mine =
    let to_given : IsPrefix looked.seen given.seen = begins_all looked.seen rested.seen given.seen (begins_all looked.seen met.seen rested.seen seen later) last in
    let count : length rest ≡ 13 = ap length others in
    let is_last : rested.tag ≡ 15 = still ∙ ap (λ (p : DeskPass). p.tag) is ∙ ap (λ (p : DeskPass). p.tag) fresh in
    let empty : rested.mine ≡ [] = kept ∙ ap (λ (p : DeskPass). p.mine) is ∙ ap (λ (p : DeskPass). p.mine) fresh in
    let own_none : tagged tag_of 15 given.seen ≡ [] = subst (λ (t : ℕ). tagged tag_of t given.seen ≡ []) is_last (own_mine ∙ empty) in
    let submitted : tagged tag_of 1 given.seen ≡ client.mine = subst (λ (t : ℕ). tagged tag_of t given.seen ≡ client.mine) submits client_mine in (
      told_tags (office_with k looked.seen) given.seen looks.1.legal to_given (λ t more less. none_before tag_of t looked.seen met.seen seen (none t more (omega (arith, less, count)))) own_none,
      subst (λ (t : ℕ). tagged tag_of t looked.seen ≡ looked.mine) (tag ∙ turns) (sym mine) ∙ looks_adds_nothing k worker looked looks,
      subst (IsPrefix (tagged tag_of 1 looked.seen)) submitted (tagged_begins tag_of 1 looked.seen given.seen to_given),
    )
