-- What is told of offices whose threads have ended, one after the other.
use Rattle.std.proofs.Common.{◌≡◌, ℕ, ◌-◌, ◌⊎◌, ⊎_elim, inl, inr, false, List, [], ◌∷◌, ◌++◌, length, map, Bool, All, Option, None, Some, IfSome, IfNone, Result, Ok, Err, IfOk, get_or, drop, refl, sym, ap, subst, ◌∙◌, append_assoc, arith}
use Rattle.std.specs.List.{flat_map, range_with_len, Contains}
use Rattle.std.specs.String.{string_bytes}
use Rattle.std.proofs.lemmas.List.{append-nil, map-append}
use Rattle.std.proofs.lemmas.List.Concat.{flat_map-append}
use Rattle.std.proofs.lemmas.List.Elements.{All-append, All-cons, All-head, All-map, All-nil, All-tail, All-weaker, Contains-append_left, Contains-append_right, Contains-push}
use Rattle.office_map.specs.PlanValue.{PlanValue}
use Rattle.session_meaning.specs.ProgramValue.{ProgramValue}
use mathlib.Core.List.{IsPrefix}
use Rattle.own_lock.specs.Entries.{tagged}
use Rattle.own_lock.specs.Passes.{LockView}
use Rattle.site_core.specs.Journals.{Site, IsLegal, StepsAddTheirEntry}
use Rattle.site_core.specs.Tickets.{SessionsGoInOrder}
use Rattle.locked_office.specs.Calls.{Key, DeskPass, tag_of}
use Rattle.session_reports.specs.form.Forms.{outcome_as, unfinished_as}
use Rattle.session_reports.specs.declared.form.forms.Form.{Form}
use Rattle.office_stations.specs.declared.fault.RunFault.{RunFault}
use Rattle.office_stations.specs.declared.fault.RunFault.TheVariants.{NoThread}
use Rattle.office_runs.specs.declared.report.Ran.{Ran}
use Rattle.office_runs.specs.Runs.{all_finished, key_of, HasJournals, TellsJournals}
use Rattle.office_stations.specs.Rounds.{of_office}
use Rattle.office_runs.specs.Threads.{WorkedOut, Submitted, IsWrittenBy, most_turns}
use Rattle.office_runs.specs.live.Courses.{AreTurned, Course, site_of, faults_of, IsCourse, IsToldOf, TellsCourses, offices_of}
use Rattle.office_runs.specs.refinement.Reports.{Told, none_told, AddsOffice}
use Rattle.office_runs.specs.refinement.Ends.{HasWorked, HasSubmitted}
use Rattle.office_runs.specs.live.refinement.Ends.{Duty, EndView, TellsEnd, duty_of, key_of_end, programs_of_end, with_programs}
use Rattle.office_runs.proofs.Ends.{as_worked}
use Rattle.office_runs.proofs.live_lemmas.Finishing.{left_exactly}
use Rattle.office_runs.proofs.live_lemmas.Writers.{written_by}
use Rattle.office_runs.proofs.live_lemmas.Written.{worker_submits_nothing, client_submits_a_beginning}
use Rattle.office_runs.proofs.live_lemmas.Telling.{left_more, text_more, no_journals, journals_more}

-- of offices, what came of the first of them is told
pub record ToldSoFar (form : Form) (tells : Bool) (p : PlanValue) (programs : List ProgramValue) (asked : Bool) (all rest : List EndView) (unfinished : ℕ) (found : Option RunFault) (over : Bool) (report : Told) : Type 0 where
  pub courses : List Course
  pub keys : map (λ c. key_of c.site) courses ++ map key_of_end rest ≡ map key_of_end all
  pub each : All (IsCourse tells programs) courses
  pub sessions : All (λ e. programs_of_end e ≡ programs) rest
  pub fault : IsToldOf (flat_map faults_of courses) found
  pub turned : over ≡ false → AreTurned courses
  pub left : unfinished ≡ length programs - length (all_finished (map site_of courses))
  pub lines : report.lines ≡ flat_map (outcome_as form p) (all_finished (map site_of courses))
  pub journals : HasJournals report.wanted (map site_of courses) report.texts
  pub wanted : report.wanted ≡ asked

-- ---- faults

-- of no office: only that a thread couldn't be started
no_faults : (fault : Option RunFault) → IfSome fault (λ why. why ≡ NoThread) → IsToldOf [] fault
no_faults None h = All-nil (λ f. f ≡ None)
no_faults (Some why) h = inl h

-- what is told of these, or one of two more
fault_more : (fs : List (Option RunFault)) (a b c r : Option RunFault) → IsToldOf fs a → IfNone r ((a ≡ None) × (b ≡ None) × (c ≡ None)) → IfSome r (λ why. (a ≡ Some why) ⊎ ((b ≡ Some why) ⊎ (c ≡ Some why))) → IsToldOf (fs ++ b ∷ c ∷ []) r
fault_more fs a b c None told none some =
    All-append (λ f. f ≡ None) fs (b ∷ c ∷ []) (subst (IsToldOf fs) none.0 told) (All-cons (λ f. f ≡ None) b (c ∷ []) none.1 (All-cons (λ f. f ≡ None) c [] none.2 (All-nil (λ f. f ≡ None))))
fault_more fs a b c (Some why) told none (inl h) = kept (subst (IsToldOf fs) h told)
  where
    kept : IsToldOf fs (Some why) → IsToldOf (fs ++ b ∷ c ∷ []) (Some why)
    kept (inl n) = inl n
    kept (inr i) = inr (Contains-append_left fs (b ∷ c ∷ []) (Some why) i)
fault_more fs a b c (Some why) told none (inr (inl h)) =
    inr (subst (λ x. Contains (fs ++ b ∷ c ∷ []) x) h (Contains-append_right fs (b ∷ c ∷ []) b (Contains-append_left (b ∷ []) (c ∷ []) b (Contains-push [] b))))
fault_more fs a b c (Some why) told none (inr (inr h)) = inr (subst (λ x. Contains (fs ++ b ∷ c ∷ []) x) h (Contains-append_right fs (b ∷ c ∷ []) c (Contains-push (b ∷ []) c)))

-- ---- one more office

pub none_so_far : (form : Form) (tells : Bool) (p : PlanValue) (programs : List ProgramValue) (wanted : Bool) (all : List EndView) (left : ℕ) (fault : Option RunFault) (over : Bool) (report : Told) → All (λ e. programs_of_end e ≡ programs) all → left ≡ length programs →
    IfSome fault (λ why. why ≡ NoThread) → report ≡ none_told wanted → ToldSoFar form tells p programs wanted all all left fault over report
none_so_far form tells p programs wanted all left fault over report sessions whole none empty = subst (λ (r : Told). ToldSoFar form tells p programs wanted all all left fault over r) (sym empty) record {
  courses = [];
  keys = refl;
  each = All-nil (IsCourse tells programs);
  sessions = sessions;
  fault = no_faults fault none;
  turned = λ e. All-nil (λ (c : Course). c.over ≡ false);
  left = omega (arith, whole);
  lines = refl;
  journals = no_journals wanted;
  wanted = refl;
}

sites_more : (cs : List Course) (c : Course) → map site_of (cs ++ c ∷ []) ≡ map site_of cs ++ c.site ∷ []
sites_more cs c = map-append site_of cs (c ∷ [])

pub one_more_told : (form : Form) (tells : Bool) (p : PlanValue) (programs : List ProgramValue) (wanted : Bool) (all before rest : List EndView) (e : EndView) (left next count : ℕ) (a r : Option RunFault) (over later : Bool) (old new : Told) → before ≡ e ∷ rest →
    ToldSoFar form tells p programs wanted all before left a over old → TellsEnd tells (outcome_as form p) e count old new → new.wanted ≡ old.wanted → next ≡ left - count →
    IfNone r ((a ≡ None) × (e.broke ≡ None) × (e.stopped ≡ None)) → IfSome r (λ why. (a ≡ Some why) ⊎ ((e.broke ≡ Some why) ⊎ (e.stopped ≡ Some why))) → (later ≡ false → (over ≡ false) × (e.over ≡ false)) → ToldSoFar form tells p programs wanted all rest next r later new
one_more_told form tells p programs wanted all before rest e left next count a r over later old new split h end same fewer none some both =
    let Same : EndView → Type 0 = λ x. programs_of_end x ≡ programs in
    let sessions : All Same (e ∷ rest) = subst (All Same) split h.sessions in
    let c : Course = end.course in
    let sites : List Site = map site_of h.courses in
    let more : map site_of (h.courses ++ c ∷ []) ≡ sites ++ c.site ∷ [] = sites_more h.courses c in
    let faults : flat_map faults_of (h.courses ++ c ∷ []) ≡ flat_map faults_of h.courses ++ e.broke ∷ e.stopped ∷ [] =
    flat_map-append faults_of h.courses (c ∷ []) ∙ ap (λ l. flat_map faults_of h.courses ++ l) (append-nil (faults_of c)) ∙ ap (λ (x : Option RunFault). flat_map faults_of h.courses ++ x ∷ c.stopped ∷ []) end.broke
    ∙ ap (λ (x : Option RunFault). flat_map faults_of h.courses ++ e.broke ∷ x ∷ []) end.stopped in
    record {
      courses = h.courses ++ c ∷ [];
      keys = ap (λ l. l ++ map key_of_end rest) (map-append (λ (x : Course). key_of x.site) h.courses (c ∷ [])) ∙ append_assoc (map (λ (x : Course). key_of x.site) h.courses) (key_of c.site ∷ []) (map key_of_end rest)
          ∙ ap (λ (k : Key). map (λ (x : Course). key_of x.site) h.courses ++ (k ∷ map key_of_end rest)) end.key ∙ ap (λ l. map (λ (x : Course). key_of x.site) h.courses ++ map key_of_end l) (sym split) ∙ h.keys;
      each = All-append (IsCourse tells programs) h.courses (c ∷ []) h.each (All-cons (IsCourse tells programs) c [] (subst (λ ps. IsCourse tells ps c) (All-head Same e rest sessions) end.is) (All-nil (IsCourse tells programs)));
      sessions = All-tail Same e rest sessions;
      fault = subst (λ fs. IsToldOf fs r) (sym faults) (fault_more (flat_map faults_of h.courses) a e.broke e.stopped r h.fault none some);
      turned = λ is. All-append (λ (x : Course). x.over ≡ false) h.courses (c ∷ []) (h.turned (both is).0) (All-cons (λ (x : Course). x.over ≡ false) c [] (end.over ∙ (both is).1) (All-nil (λ (x : Course). x.over ≡ false)));
      left = left_more sites c.site (length programs) left next count h.left fewer end.count ∙ ap (λ l. length programs - length (all_finished l)) (sym more);
      lines = text_more (outcome_as form p) sites c.site old.lines new.lines h.lines end.lines ∙ ap (λ l. flat_map (outcome_as form p) (all_finished l)) (sym more);
      journals = subst (λ l. HasJournals new.wanted l new.texts) (sym more) (subst (λ w. HasJournals w (sites ++ c.site ∷ []) new.texts) (sym same) (journals_more old.wanted sites c.site old.texts new.texts h.journals end.journal));
      wanted = same ∙ h.wanted;
    }

-- ---- one office

-- what its journal tells is what came of its threads
pub end_told : StepsAddTheirEntry → (form : Form) (tells : Bool) (p : PlanValue) (desk : LockView Key) (programs : List ProgramValue) (broke stopped : Option RunFault) (over : Bool) (w c : DeskPass) (count : ℕ) (old new : Told) →
    HasWorked tells desk over broke w → HasSubmitted desk programs stopped c → AddsOffice form p desk.key w.mine c.mine old new count →
    TellsEnd tells (outcome_as form p) (record { duty = with_programs programs desk.key; broke = broke; stopped = stopped; over = over }) count old new
end_told law form tells p desk programs broke stopped over w c count old new work submit adds =
    let s : Site = adds.site in
    let worked : WorkedOut over broke tells (key_of s) most_turns work.first work.last = subst (λ (k : Key). WorkedOut over broke tells k most_turns work.first work.last) (sym adds.key) work.worked in
    let submitted : Submitted stopped (key_of s) submit.began c (of_office s.me programs) = subst (λ (k : Key). Submitted stopped k submit.began c (of_office k.1 programs)) (sym adds.key) submit.submitted in
    let turns : tagged tag_of 0 s.entries ≡ work.last.pass.mine = subst (λ (q : DeskPass). tagged tag_of 0 s.entries ≡ q.mine) (sym work.is) adds.turns in
    let begin : IsPrefix (tagged tag_of 0 s.entries) work.last.pass.mine = ([], append-nil (tagged tag_of 0 s.entries) ∙ turns) in
    record {
      course = record { first = work.first; last = work.last; broke = broke; over = over; began = submit.began; ended = c; stopped = stopped; site = s };
      key = adds.key;
      is = record {
        first = work.new;
        worked = worked;
        began = submit.new;
        submitted = submitted;
        legal = adds.legal;
        turns = turns;
        sessions = adds.submits;
        written = written_by (of_office s.me programs) s work.last.pass.mine c.mine adds.tags begin adds.submits (worker_submits_nothing broke tells (key_of s) most_turns work.first work.last (as_worked over broke tells (key_of s) most_turns work.first work.last worked) work.new.0.2)
            (client_submits_a_beginning law stopped (key_of s) submit.began c (of_office s.me programs) submitted submit.new.2);
      };
      broke = refl;
      stopped = refl;
      over = refl;
      count = adds.count;
      lines = adds.lines;
      journal = adds.journal;
    }

pub ends_told : {E : Type 0} → StepsAddTheirEntry → (form : Form) (tells : Bool) (p : PlanValue) (desk : LockView Key) (programs : List ProgramValue) (broke stopped : Option RunFault) (over : Bool) (w c : DeskPass) (old new : Told) (result : Result ℕ E) →
    HasWorked tells desk over broke w → HasSubmitted desk programs stopped c → IfOk result (AddsOffice form p desk.key w.mine c.mine old new) →
    IfOk result (λ n. TellsEnd tells (outcome_as form p) (record { duty = with_programs programs desk.key; broke = broke; stopped = stopped; over = over }) n old new)
ends_told law form tells p desk programs broke stopped over w c old new (Ok n) work submit adds = end_told law form tells p desk programs broke stopped over w c n old new work submit adds
ends_told law form tells p desk programs broke stopped over w c old new (Err e) work submit adds = adds

-- ---- of which sessions and offices

pub same_sessions : (programs : List ProgramValue) (ends : List EndView) (ks : List Key) → map duty_of ends ≡ map (with_programs programs) ks → All (λ e. programs_of_end e ≡ programs) ends
same_sessions programs [] ks h = All-nil (λ e. programs_of_end e ≡ programs)
same_sessions programs (e ∷ es) [] h = absurd (cc h)
same_sessions programs (e ∷ es) (k ∷ ks) h =
    All-cons (λ x. programs_of_end x ≡ programs) e es (ap (λ (d : Duty). d.programs) (ap (λ (l : List Duty). get_or l 0 (duty_of e)) h)) (same_sessions programs es ks (ap (drop 1) h))

pub same_keys : (programs : List ProgramValue) (ends : List EndView) (ks : List Key) → map duty_of ends ≡ map (with_programs programs) ks → map key_of_end ends ≡ ks
same_keys programs [] [] h = refl
same_keys programs [] (k ∷ ks) h = absurd (cc h)
same_keys programs (e ∷ es) [] h = absurd (cc h)
same_keys programs (e ∷ es) (k ∷ ks) h =
    ap (λ (x : Key). x ∷ map key_of_end es) (ap (λ (d : Duty). d.key) (ap (λ (l : List Duty). get_or l 0 (duty_of e)) h)) ∙ ap (λ l. k ∷ l) (same_keys programs es ks (ap (drop 1) h))

-- ---- all of them

all_written : (tells : Bool) (programs : List ProgramValue) (cs : List Course) → All (IsCourse tells programs) cs → All (λ (s : Site). IsWrittenBy (of_office s.me programs) s) (map site_of cs)
all_written tells programs cs each =
    All-map (λ (s : Site). IsWrittenBy (of_office s.me programs) s) site_of cs (All-weaker (IsCourse tells programs) (λ (c : Course). IsWrittenBy (of_office c.site.me programs) c.site) (λ c is. is.written) cs each)

keys_of_sites : (cs : List Course) → map key_of (map site_of cs) ≡ map (λ (c : Course). key_of c.site) cs
keys_of_sites [] = refl
keys_of_sites (c ∷ cs) = ap (λ l. key_of c.site ∷ l) (keys_of_sites cs)

pub all_told : SessionsGoInOrder → (form : Form) (tells : Bool) (p : PlanValue) (programs : List ProgramValue) (wanted : Bool) (all rest : List EndView) (left : ℕ) (fault : Option RunFault) (over : Bool) (report : Told) (ran : Ran) → map key_of_end all ≡ offices_of p → rest ≡ [] → (fault ≡ None → (left ≡ 0) ⊎ (over ≡ false)) →
    ToldSoFar form tells p programs wanted all rest left fault over report → string_bytes ran.text ≡ report.lines ++ unfinished_as form left → ran.unfinished ≡ left → ran.fault ≡ fault → map string_bytes ran.journals.items ≡ report.texts →
    TellsCourses form tells p programs wanted ran
all_told law form tells p programs wanted all rest left fault over report ran offices none accounted h text unfinished same texts =
    let sites : List Site = map site_of h.courses in
    let keys : map (λ (c : Course). key_of c.site) h.courses ≡ offices_of p =
    sym (append-nil (map (λ (c : Course). key_of c.site) h.courses)) ∙ ap (λ l. map (λ (c : Course). key_of c.site) h.courses ++ map key_of_end l) (sym none) ∙ h.keys ∙ offices in
    record {
      courses = h.courses;
      are = keys;
      each = h.each;
      fault = subst (IsToldOf (flat_map faults_of h.courses)) (sym same) h.fault;
      ended = λ e. ⊎_elim (λ none_left. inl (unfinished ∙ none_left)) (λ is. inr (h.turned is)) (accounted (sym same ∙ e));
      left = left_exactly law p programs (length p.offices) sites ran.unfinished (keys_of_sites h.courses ∙ keys) (all_written tells programs h.courses h.each) (unfinished ∙ h.left);
      told = text ∙ ap (λ l. l ++ unfinished_as form left) h.lines ∙ ap (λ (n : ℕ). flat_map (outcome_as form p) (all_finished sites) ++ unfinished_as form n) (sym unfinished);
      journals = subst (λ l. HasJournals wanted sites l) (sym texts) (subst (λ w. HasJournals w sites report.texts) h.wanted h.journals);
    }

-- what it tells is what these journals tell
pub tells_journals : (form : Form) (tells : Bool) (p : PlanValue) (programs : List ProgramValue) (wanted : Bool) (ran : Ran) → TellsCourses form tells p programs wanted ran → TellsJournals form p (range_with_len 0 (length p.offices)) (length programs) wanted ran
tells_journals form tells p programs wanted ran h = record {
  sites = map site_of h.courses;
  are = keys_of_sites h.courses ∙ h.are;
  legal = All-map IsLegal site_of h.courses (All-weaker (IsCourse tells programs) (λ (c : Course). IsLegal c.site) (λ c is. is.legal) h.courses h.each);
  left = omega (arith, h.left);
  told = h.told;
  journals = h.journals;
}

-- what holds where A does holds where B does, which A follows from
pub told_for : {E : Type 0} (result : Result Ran E) (A B : Type 0) (P : Ran → Type 0) → (B → A) → IfOk result (λ ran. A → P ran) → IfOk result (λ ran. B → P ran)
told_for (Ok ran) A B P f h = λ b. h (f b)
told_for (Err e) A B P f h = h
