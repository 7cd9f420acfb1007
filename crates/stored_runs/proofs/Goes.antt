-- A whole run, from what its parts say.
use Rattle.std.proofs.Common.{◌≡◌, ℕ, ◌-◌, ◌≤◌, Bool, List, length, drop, Option, None, Result, Ok, Err, sym, ap, subst, ◌∙◌, arith}
use Rattle.std.specs.Prelude.{OnOk}
use Rattle.std.specs.Result.{result_err}
use Rattle.std.specs.Io.KnownBytes.{Appends}
use mathlib.Core.List.{IsPrefix}
use Rattle.office_map.specs.PlanValue.{PlanValue}
use Rattle.session_meaning.specs.ProgramValue.{ProgramValue}
use Rattle.site_core.specs.Journals.{Site}
use Rattle.locked_office.specs.Calls.{Key, DeskPass, Looks, office_with}
use Rattle.socket_pump.specs.Wires.{Account}
use Rattle.stored_runs.specs.durable.Letting.{LetsOut}
use Rattle.office_stations.specs.Rounds.{Standing, of_office}
use Rattle.office_stations.specs.Sessions.{count_of, finished_of}
use Rattle.stored_runs.specs.declared.fault.StoredFault.{StoredFault}
use Rattle.stored_runs.specs.declared.ended.Ended.{Ended}
use Rattle.session_reports.specs.declared.form.forms.Form.{Form}
use Rattle.stored_runs.specs.Keeping.{Keeping}
use Rattle.stored_runs.specs.Runs.{finished_by, told_text, Goes, GoesOn, HasStanding, IsLastLine, IsTold, Unless}
use Rattle.stored_runs.specs.refinement.Running.{EndsTelling, TellsAfter}
use Rattle.stored_runs.proofs.Outcomes.{both}
use Rattle.stored_runs.proofs.Growing.{looks_begin, within_on, lets_out_on}
use Rattle.stored_runs.proofs.Begun.{standing_on}
use Rattle.stored_runs.proofs.Told.{told_at_end}
use Rattle.stored_runs.proofs.Ending.{goes_still, none_still, unless_end}

pub ok_none : {A E : Type 0} (r : Result A E) (P : Type 0) → OnOk r P → result_err r ≡ None → P
ok_none (Ok x) P h none = h
ok_none (Err e) P h none = absurd (cc none)

pub site_is : (s : Site) (p : PlanValue) (me : ℕ) → (s.plan ≡ p) × (s.me ≡ me) → s ≡ office_with (p, me) s.entries
site_is s p me (plan, office) = ap (λ (x : PlanValue). record { plan = x; me = s.me; entries = s.entries }) plan ∙ ap (λ (x : ℕ). record { plan = p; me = x; entries = s.entries }) office

-- what the turns left, of an office with this plan and number
pub record Left (Is : Account → Type 0) (form : Form) (tells : Bool) (p : PlanValue) (me : ℕ) (programs : List ProgramValue) (turns : ℕ) (kept : Keeping) (stands : Option (List ℕ)) (f : Option StoredFault) (text : List ℕ) (first last : Standing) (seen : DeskPass) (stood n told : ℕ) (old mid : Option (List ℕ)) (k : Key) : Type 0 where
  pub grows : IsPrefix kept.site.entries last.pass.seen
  pub goes : Goes Is f tells k turns first last (of_office me (drop kept.next programs))
  pub looked : Looks k last.pass seen
  pub within : stood ≤ length last.pass.seen
  pub all : f ≡ None → stood ≡ length last.pass.seen
  pub has : HasStanding stands k last.pass.seen stood
  pub all_told : f ≡ None → told ≡ length (finished_by k last.pass.seen stood)
  pub before : text ≡ told_text form p n (finished_of (office_with k kept.site.entries))
  pub count : n ≡ length (finished_of (office_with k kept.site.entries))
  pub tells_after : Unless f (TellsAfter text form p k last.pass.seen (length kept.site.entries) stood n told old mid)

pub whole : (Is : Account → Type 0) (form : Form) (tells : Bool) (p : PlanValue) (me : ℕ) (programs : List ProgramValue) (turns : ℕ) (kept : Keeping) (stands : Option (List ℕ)) (a b : Account) (e : Ended) (f : Option StoredFault) (text : List ℕ) (first last : Standing) (seen : DeskPass) (stood n told : ℕ) (old mid new : Option (List ℕ)) (k : Key) →
    Left Is form tells p me programs turns kept stands f text first last seen stood n told old mid k → k ≡ (p, me) → kept.site ≡ office_with (p, me) kept.site.entries → (first.pass.tag ≡ 0) × (first.pass.seen ≡ kept.site.entries) × (first.wire ≡ a) × ((v m : ℕ) → first.last v m ≡ None) → last.wire ≡ b →
    LetsOut tells 0 a b last.pass.seen stood → EndsTelling form f e.unfinished mid e.fault new → e.unfinished ≡ count_of programs me - told → GoesOn Is form tells p me programs turns kept stands a b e old new
whole Is form tells p me programs turns kept stands a b e f text first last seen stood n told old mid new k left key site begins ends out ended unfinished =
    let l : Left Is form tells p me programs turns kept stands f text first last seen stood n told old mid (p, me) = subst (Left Is form tells p me programs turns kept stands f text first last seen stood n told old mid) key left in
    let grown : IsPrefix last.pass.seen seen.seen = looks_begin (p, me) last.pass seen l.looked in
    let begun : IsPrefix kept.site.entries seen.seen = both kept.site.entries last.pass.seen seen.seen l.grows grown in
    let none : e.fault ≡ None → f ≡ None = none_still f e.fault ended.still in
    let number : length (finished_of (office_with (p, me) kept.site.entries)) ≡ length (finished_of kept.site) = ap (λ s. length (finished_of s)) (sym site) in
    record {
      first = first;
      begins = begins;
      last = last;
      ends = ends;
      goes = goes_still Is f e.fault tells (p, me) turns first last (of_office me (drop kept.next programs)) ended.still l.goes;
      seen = seen;
      looked = l.looked;
      stood = stood;
      within = within_on stood last.pass.seen seen.seen l.within grown;
      all = λ h. l.all (none h);
      has = standing_on stands (p, me) last.pass.seen seen.seen stood l.within grown l.has;
      lets_out = lets_out_on tells 0 a b last.pass.seen seen.seen stood stood (omega arith) grown out;
      told = unless_end f e.fault (TellsAfter text form p (p, me) last.pass.seen (length kept.site.entries) stood n told old mid) ((line : List ℕ) × IsLastLine form e.fault e.unfinished line × Appends mid new line)
          (IsTold form p me programs (length (finished_of kept.site)) (finished_by (p, me) seen.seen stood) e old new) ended.still
          (λ t q. subst (λ (m : ℕ). IsTold form p me programs m (finished_by (p, me) seen.seen stood) e old new) (l.count ∙ number)
          (told_at_end (p, me) kept.site.entries last.pass.seen seen.seen stood l.looked.1.legal begun grown l.within form p me programs n told e old t.mid mid new q.0 l.count t.told (λ h. l.all_told (none h)) unfinished
          (subst (Appends old t.mid) l.before t.text_first) q.1 q.2)) l.tells_after ended.told;
    }
