-- A run that goes on, and one that is cut short.
use Rattle.std.proofs.Common.{refl, ◌≡◌, ◌⊎◌, ℕ, ◌≤◌, Bool, false, List, [], ◌∷◌, ◌++◌, length, take, drop, Option, None, Some, inl, inr, sym, ap, subst, ◌∙◌, append_assoc, append-nil, arith, length-append}
use Rattle.std.specs.List.{flat_map}
use Rattle.std.specs.Io.KnownBytes.{Appends}
use mathlib.Core.List.{IsPrefix}
use Rattle.std.proofs.lemmas.List.{take_all}
use Rattle.office_map.specs.PlanValue.{PlanValue}
use Rattle.session_meaning.specs.ProgramValue.{ProgramValue}
use Rattle.session_meaning.specs.declared.ending.Outcome.{Outcome}
use Rattle.office_journal.specs.declared.event.Entry.{Entry}
use Rattle.site_core.specs.Journals.{Site, IsLegal}
use Rattle.own_lock.specs.Passes.{pass_after_take}
use Rattle.locked_office.specs.Calls.{Key, DeskPass, Looks, office_with, pass_after_adding}
use Rattle.session_reports.specs.form.Forms.{outcome_as}
use Rattle.session_reports.specs.declared.form.forms.Form.{Form}
use Rattle.socket_pump.specs.Wires.{Account}
use Rattle.office_stations.specs.declared.pace.TimedTurn.{TimedTurn}
use Rattle.office_stations.specs.declared.turning.Turning.TheVariants.{Adaptive}
use Rattle.office_stations.specs.Rounds.{Standing, Turns}
use Rattle.office_stations.specs.Sessions.{finished_of}
use Rattle.office_stations.specs.refinement.RoundLaws.{Made}
use Rattle.stored_runs.specs.declared.fault.StoredFault.{StoredFault}
use Rattle.stored_runs.specs.declared.fault.StoredFault.TheVariants.{Run, StoreFailed, WriteFailed}
use Rattle.stored_runs.specs.Runs.{finished_by, CutShort, Goes, Unless}
use Rattle.stored_runs.specs.refinement.Running.{Told}
use Rattle.stored_runs.proofs.Outcomes.{first_same}

-- ---- looks, one after the other

cancel : {A : Type 0} (xs ys : List A) → xs ++ ys ≡ xs → ys ≡ []
cancel [] ys h = h
cancel (x ∷ xs) ys h = cancel xs ys (ap (drop 1) h)

abbrev LooksOnce : Key → DeskPass → DeskPass → Type 0
LooksOnce k p q = (more : List Entry) × (q ≡ record p { holds = false; seen = p.seen ++ more }) × IsLegal (office_with k q.seen)

once : (k : Key) (p q : DeskPass) → Looks k p q → LooksOnce k p q
once k p q (between, did) =
    let same : q.seen ≡ p.seen ++ between = ap (λ (s : Site). s.entries) did.done in
    let none : did.added ≡ [] = cancel (p.seen ++ between) did.added (sym (ap (λ (x : DeskPass). x.seen) did.left) ∙ same) in
    let left : q ≡ pass_after_adding (pass_after_take p (p.seen ++ between)) [] = did.left ∙ ap (pass_after_adding (pass_after_take p (p.seen ++ between))) none in
    let seen : (p.seen ++ between) ++ [] ≡ p.seen ++ between = append-nil (p.seen ++ between) in
    let mine : p.mine ++ [] ≡ p.mine = append-nil p.mine in
    (between, left ∙ ap (λ l. record p { holds = false; seen = l; mine = p.mine ++ [] }) seen ∙ ap (λ l. record p { holds = false; seen = p.seen ++ between; mine = l }) mine, did.legal)

looks_once : (k : Key) (p q : DeskPass) → LooksOnce k p q → Looks k p q
looks_once k p q (more, is, legal) =
    let seen : (p.seen ++ more) ++ [] ≡ p.seen ++ more = append-nil (p.seen ++ more) in
    let mine : p.mine ++ [] ≡ p.mine = append-nil p.mine in (
      more,
      record {
        done = ap (λ (x : DeskPass). office_with k x.seen) is;
        legal = legal;
        added = [];
        left = is ∙ sym (ap (λ l. record p { holds = false; seen = l; mine = p.mine ++ [] }) seen ∙ ap (λ l. record p { holds = false; seen = p.seen ++ more; mine = l }) mine);
      },
    )

pub looks_both : (k : Key) (p q r : DeskPass) → Looks k p q → Looks k q r → Looks k p r
looks_both k p q r first second =
    let (a, is, legal) = once k p q first in
    let (b, then, last) = once k q r second in
    looks_once k p r (a ++ b, then ∙ ap (λ (x : DeskPass). record x { holds = false; seen = x.seen ++ b }) is ∙ ap (λ l. record p { holds = false; seen = l }) (append_assoc p.seen a b), last)

-- a turn, after which the office is looked at once more
pub turned_and_looked : (tells : Bool) (tag : ℕ) (k : Key) (t : TimedTurn) (a b : Standing) (q : DeskPass) → Turns Adaptive tells tag k t a b → Looks k b.pass q → Turns Adaptive tells tag k t a (record b { pass = q })
turned_and_looked tells tag k t a b q h looks = record { after = h.after; turned = h.turned; looked = inr (more h.looked) }
  where
    more : (h.after ≡ b.pass) ⊎ Looks k h.after b.pass → Looks k h.after q
    more (inl same) = subst (λ (x : DeskPass). Looks k x q) (sym same) looks
    more (inr looked) = looks_both k h.after b.pass q looked looks

-- ---- what was done and told

-- after these rounds one was cut short
pub cut_short : (Is : Account → Type 0) (tells : Bool) (k : Key) (turns n : ℕ) (a m b : Standing) (ss left : List ProgramValue) (f : StoredFault) → Made Adaptive tells 0 k turns n a m ss left → Is m.wire → CutShort tells k m b left f → Goes Is (Some f) tells k turns a b ss
cut_short Is tells k turns n a m b ss left f h is cut = (h.made, m, h.begun, left, h.rounds, is, f, cut, inl refl)

pub grown_stood : (es fs : List Entry) (n m : ℕ) → n ≡ length es → IsPrefix es fs → (m ≡ n) ⊎ (m ≡ length fs) → n ≤ m
grown_stood es fs n m all p (inl same) = omega (arith, same)
grown_stood es fs n m all p (inr now) = omega (arith, now, all, ap length p.1, length-append es p.0)

-- what had finished when all stood was told
pub told_at : (form : Form) (p : PlanValue) (k : Key) (old seen es : List Entry) (n m before after : ℕ) (a b : Option (List ℕ)) → IsPrefix old seen → IsPrefix seen es → n ≡ length seen → n ≤ m → after ≡ length (finished_of (office_with k seen)) →
    Appends a b (flat_map (outcome_as form p) (drop before (finished_of (office_with k seen)))) → Told form p k es (length old) m before after a b
told_at form p k old seen es n m before after a b begun grown all le count lines =
    let here : take n es ≡ seen = sym (first_same n seen es (omega (arith, all)) grown) ∙ take_all n seen (omega (arith, all)) in
    let same : finished_by k es n ≡ finished_of (office_with k seen) = ap (λ l. finished_of (office_with k l)) here in
    record {
      by = n;
      from = omega (arith, all, ap length begun.1, length-append old begun.0);
      stand = le;
      count = count ∙ ap length (sym same);
      lines = subst (λ (l : List Outcome). Appends a b (flat_map (outcome_as form p) (drop before l))) (sym same) lines;
    }

pub unless : (f : Option StoredFault) (P : Type 0) → P → Unless f P
unless None P h = h
unless (Some (Run why)) P h = h
unless (Some StoreFailed) P h = h
unless (Some (WriteFailed cause)) P h = tt

pub unless_then : (f : Option StoredFault) (P Q : Type 0) → (P → Q) → Unless f P → Unless f Q
unless_then None P Q g h = g h
unless_then (Some (Run why)) P Q g h = g h
unless_then (Some StoreFailed) P Q g h = g h
unless_then (Some (WriteFailed cause)) P Q g h = tt
