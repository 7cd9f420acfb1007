-- A whole service, from what its parts say.
use Rattle.std.proofs.Common.{◌≡◌, ℕ, ◌≤◌, Bool, List, ◌++◌, length, take, Option, None, Some, inl, inr, sym, subst, ◌∙◌, arith}
use Rattle.std.specs.Io.KnownBytes.{Appends}
use Rattle.std.proofs.KnownBytes.{Appends-trans}
use mathlib.Core.List.{IsPrefix}
use Rattle.site_core.specs.agendas.Agenda.{unfinished}
use Rattle.site_core.specs.Journals.{office_of}
use Rattle.locked_office.specs.Calls.{Key, DeskPass, Looks, office_with}
use Rattle.socket_pump.specs.Wires.{Account}
use Rattle.stored_runs.specs.durable.Letting.{LetsOut}
use Rattle.office_stations.specs.Rounds.{Standing}
use Rattle.office_journal.specs.declared.event.Entry.{Entry}
use Rattle.stored_runs.specs.declared.fault.StoredFault.TheVariants as stored
use Rattle.stored_runs.specs.Keeping.{Keeping}
use Rattle.stored_runs.specs.Runs.{HasStanding}
use Rattle.stored_runs.proofs.Outcomes.{first_same}
use Rattle.stored_runs.proofs.Growing.{looks_begin, within_on, lets_out_on}
use Rattle.stored_runs.proofs.Begun.{standing_on}
use Rattle.serving.specs.answers.Said.{ready_as}
use Rattle.session_reports.specs.declared.form.forms.Form.{Form}
use Rattle.serving.specs.answers.Answers.{tickets_of}
use Rattle.serving.specs.declared.fault.ServeFault.{ServeFault}
use Rattle.serving.specs.declared.fault.ServeFault.TheVariants.{Run, InputFailed}
use Rattle.serving.specs.declared.served.Served.{Served}
use Rattle.serving.specs.Serving.{IsEndBy, IsLastLine, Serves, Unless, told_text}
use Rattle.serving.specs.refinement.Telling.{EndsTelling, IsStill}
use Rattle.serving.specs.refinement.Rounding.{Went, WentAfter}
use Rattle.serving.proofs.Rounding.{unless_then}
use Rattle.serving.proofs.Untold.{unknown, untold_fault}

-- where no fault is told at the end, none was before
pub none_still : (f g : Option ServeFault) → IsStill f g → g ≡ None → f ≡ None
none_still f g (inl same) none = sym same ∙ none
none_still f g (inr (inl (was, is))) none = was
none_still f g (inr (inr (why, is, untold))) none = absurd (cc (is, none))

pub unless_end : (f g : Option ServeFault) (P Q R : Type 0) → IsStill f g → (P → Q → R) → Unless f P → Unless g Q → Unless g R
unless_end None g P Q R still then p q = unless_then g Q R (then p) q
unless_end (Some (Run (stored.Run why))) g P Q R still then p q = unless_then g Q R (then p) q
unless_end (Some (Run stored.StoreFailed)) g P Q R still then p q = unless_then g Q R (then p) q
unless_end (Some (InputFailed cause)) g P Q R still then p q = unless_then g Q R (then p) q
unless_end (Some (Run (stored.WriteFailed cause))) g P Q R (inl same) then p q = subst (λ (x : Option ServeFault). Unless x R) (sym same) tt
unless_end (Some (Run (stored.WriteFailed cause))) g P Q R (inr (inl (none, is))) then p q = absurd (cc none)
unless_end (Some (Run (stored.WriteFailed cause))) g P Q R (inr (inr (why, is, untold))) then p q = subst (λ (x : Option ServeFault). Unless x R) (sym is) (unknown why R untold)

pub unless_both : (f : Option ServeFault) (P Q : Type 0) → Unless f P → Unless f Q → Unless f (P × Q)
unless_both None P Q p q = (p, q)
unless_both (Some (Run (stored.Run why))) P Q p q = (p, q)
unless_both (Some (Run stored.StoreFailed)) P Q p q = (p, q)
unless_both (Some (Run (stored.WriteFailed cause))) P Q p q = tt
unless_both (Some (InputFailed cause)) P Q p q = (p, q)

-- that the store failed is told at the end as before
pub end_by : (failed : Bool) (f g : Option ServeFault) → IsStill f g → IsEndBy failed f → IsEndBy failed g
end_by failed f g (inl same) h = subst (IsEndBy failed) (sym same) h
end_by failed f g (inr (inl (none, is))) h = subst (IsEndBy failed) (sym is) (subst (IsEndBy failed) none h)
end_by failed f g (inr (inr (why, is, untold))) h = subst (IsEndBy failed) (sym is) (untold_fault failed why untold)

pub whole : (Is : Account → Type 0) (form : Form) (tells : Bool) (k : Key) (kept : Keeping) (input stands : Option (List ℕ)) (a b : Account) (e : Served) (f : Option ServeFault) (text : List ℕ) (first : Standing) (last seen : DeskPass) (stood : ℕ) (old mid new : Option (List ℕ)) →
    (first.pass.tag ≡ 0) × (first.pass.seen ≡ kept.site.entries) × (first.wire ≡ a) × ((v n : ℕ) → first.last v n ≡ None) → WentAfter Is text form tells k input first (take stood last.seen) f old mid → Looks k last seen → stood ≤ length last.seen → HasStanding stands k last.seen stood → LetsOut tells 0 a b last.seen stood →
    text ≡ ready_as form (tickets_of kept.site) → e.unfinished ≡ unfinished (office_of (office_with k seen.seen)).agenda → EndsTelling form f e.unfinished mid e.fault new → Serves Is form tells k.0 k.1 kept input stands a b e old new
whole Is form tells (p, me) kept input stands a b e f text first last seen stood old mid new begins after looked within has out ready count ended =
    let grown : IsPrefix last.seen seen.seen = looks_begin (p, me) last seen looked in
    let same : take stood last.seen ≡ take stood seen.seen = first_same stood last.seen seen.seen within grown in
    let went : Went Is form tells (p, me) input first (take stood seen.seen) f after.mid mid = subst (λ (l : List Entry). Went Is form tells (p, me) input first l f after.mid mid) same after.went in
    record {
      first = first;
      begins = begins;
      seen = seen.seen;
      legal = looked.1.legal;
      stood = stood;
      within = within_on stood last.seen seen.seen within grown;
      has = standing_on stands (p, me) last.seen seen.seen stood within grown has;
      lets_out = lets_out_on tells 0 a b last.seen seen.seen stood stood (omega arith) grown out;
      goes = went.goes;
      is = went.is;
      over = λ none. went.over (none_still f e.fault ended.still none);
      unfinished = count;
      told = unless_end f e.fault (Appends old after.mid text × Appends after.mid mid (told_text form p went.goes.made went.goes.cut)) ((line : List ℕ) × IsLastLine form e.fault e.unfinished line × Appends mid new line)
          ((line : List ℕ) × IsLastLine form e.fault e.unfinished line × Appends old new (ready_as form (tickets_of kept.site) ++ (told_text form p went.goes.made went.goes.cut ++ line))) ended.still
          (λ t q. (
            q.0,
            q.1,
            subst (λ l. Appends old new (l ++ (told_text form p went.goes.made went.goes.cut ++ q.0))) ready
                (Appends-trans old after.mid new text (told_text form p went.goes.made went.goes.cut ++ q.0) t.0 (Appends-trans after.mid mid new (told_text form p went.goes.made went.goes.cut) q.0 t.1 q.2)),
          )) (unless_both f (Appends old after.mid text) (Appends after.mid mid (told_text form p went.goes.made went.goes.cut)) after.first went.told) ended.told;
    }
