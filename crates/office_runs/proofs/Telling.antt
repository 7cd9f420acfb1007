-- What is told of one office, and of one more.
use Rattle.std.proofs.Common.{◌≡◌, ℕ, ◌-◌, ◌<◌, List, [], ◌∷◌, ◌++◌, length, map, Bool, true, Option, None, Result, Ok, Err, sym, ap, subst, ◌∙◌, arith}
use Rattle.std.specs.Prelude.{All, IfOk, OnOk}
use Rattle.std.specs.List.{flat_map}
use mathlib.Core.List.{IsPrefix}
use Rattle.std.specs.String.{string_bytes}
use Rattle.std.proofs.lemmas.List.Elements.{All-cons, All-nil}
use Rattle.office_map.specs.PlanValue.{PlanValue}
use Rattle.session_meaning.specs.ProgramValue.{ProgramValue}
use Rattle.own_lock.specs.Entries.{tagged}
use Rattle.locked_office.specs.Calls.{Key, DeskPass, Looks, office_with, tag_of}
use Rattle.session_reports.specs.form.Forms.{outcome_as}
use Rattle.session_reports.specs.declared.form.forms.Form.{Form}
use Rattle.socket_pump.specs.Wires.{Account}
use Rattle.office_stations.specs.declared.fault.RunFault.{RunFault}
use Rattle.office_runs.specs.declared.report.Ran.{Ran}
use Rattle.office_stations.specs.declared.turning.Turning.TheVariants.{Plain}
use Rattle.office_stations.specs.Rounds.{Standing, Goes, of_office}
use Rattle.std.proofs.lemmas.List.{append-nil, map-append}
use Rattle.site_core.specs.Journals.{Site, IsLegal}
use Rattle.office_journal.specs.declared.event.Entry.{Entry}
use Rattle.journal_texts.specs.JournalText.{IsJournal}
use Rattle.journal_texts.specs.Written.{journal_text}
use Rattle.office_stations.specs.Sessions.{count_of, finished_of}
use Rattle.office_runs.specs.Runs.{all_finished, key_of, runs_report, text_of, HasJournals, IsReadBack, TellsCourse, TellsJournals}
use Rattle.office_runs.specs.refinement.Reports.{Told, AddsJournal, AddsOffice}

-- ---- journals

-- that office, of which a pass has seen all entries
pub site_is : (s : Site) (k : Key) (seen : List Entry) → (s.plan, s.me) ≡ k → seen ≡ s.entries → s ≡ office_with k seen
site_is s k seen key same = ap (λ (x : Key). office_with x s.entries) key ∙ ap (λ (es : List Entry). office_with k es) (sym same)

pub one_more : {A : Type 0} (f : A → List ℕ) (before after : List A) (x : A) (texts : List (List ℕ)) (t : List ℕ) → after ≡ before ++ x ∷ [] → f x ≡ t → map f before ≡ texts → map f after ≡ texts ++ t ∷ []
one_more f before after x texts t grown is so_far = ap (map f) grown ∙ map-append f before (x ∷ []) ∙ ap (λ (y : List ℕ). map f before ++ y ∷ []) is ∙ ap (λ (l : List (List ℕ)). l ++ t ∷ []) so_far

pub text_is : (s : Site) (p : PlanValue) (me : ℕ) (entries : List Entry) → p ≡ s.plan → me ≡ s.me → entries ≡ s.entries → journal_text p me entries ≡ text_of s
text_is s p me entries plan number same = ap (λ (x : PlanValue). journal_text x me entries) plan ∙ ap (λ (x : ℕ). journal_text s.plan x entries) number ∙ ap (λ (x : List Entry). journal_text s.plan s.me x) same

pub read_back : (s : Site) (p : PlanValue) (me : ℕ) (entries : List Entry) (text : List ℕ) → p ≡ s.plan → me ≡ s.me → entries ≡ s.entries → text ≡ journal_text p me entries → IsJournal p text me entries true → IsReadBack s
read_back s p me entries text plan number same is reads =
    subst (λ (x : List Entry). IsJournal s.plan (text_of s) s.me x true) same
    (subst (λ (x : ℕ). IsJournal s.plan (text_of s) x entries true) number
    (subst (λ (x : PlanValue). IsJournal x (text_of s) me entries true) plan (subst (λ (x : List ℕ). IsJournal p x me entries true) (is ∙ text_is s p me entries plan number same) reads)))

pub journal_added : (wanted : Bool) (s : Site) (before after : List (List ℕ)) → wanted ≡ true → after ≡ before ++ text_of s ∷ [] → IsReadBack s → AddsJournal wanted s before after
journal_added wanted s before after asked told reads = subst (λ (w : Bool). AddsJournal w s before after) (sym asked) (told, reads)

-- ---- one office alone

pub tells_runs : (form : Form) (p : PlanValue) (me : ℕ) (k : Key) (x q : DeskPass) (sessions count : ℕ) (wanted : Bool) (ran : Ran) → k ≡ (p, me) → sessions ≡ count → Looks k x q → ran.unfinished ≡ sessions - length (finished_of (office_with k q.seen)) →
    string_bytes ran.text ≡ runs_report form p (office_with k q.seen ∷ []) ran.unfinished → HasJournals wanted (office_with k q.seen ∷ []) (map string_bytes ran.journals.items) → TellsJournals form p (me ∷ []) count wanted ran
tells_runs form p me k x q sessions count wanted ran key all looks left told journals =
    let site : Site = office_with k q.seen in
    let size : length (all_finished (site ∷ [])) ≡ length (finished_of site) = ap length (append-nil (finished_of site)) in
    record {
      sites = site ∷ [];
      are = ap (λ (x : Key). (x.0, x.1) ∷ []) key;
      legal = All-cons IsLegal site [] looks.1.legal (All-nil IsLegal);
      left = omega (arith, left, all, size);
      told = told;
      journals = journals;
    }

pub tells_run : (Is : Account → Type 0) (form : Form) (tells : Bool) (p : PlanValue) (me : ℕ) (programs : List ProgramValue) (turns : ℕ) (wanted : Bool) (ran : Ran) (k : Key) (a b : Standing) (q : DeskPass) (sessions : ℕ) (fault : Option RunFault) → k ≡ (p, me) → sessions ≡ count_of programs me →
    (a.pass.tag ≡ 0) × (a.pass.seen ≡ []) × (a.pass.mine ≡ []) × ((v n : ℕ) → a.last v n ≡ None) → Goes fault Plain tells a.pass.tag k turns a b (of_office me programs) → Is b.wire → Looks k b.pass q → ran.fault ≡ fault →
    string_bytes ran.text ≡ runs_report form p (office_with k q.seen ∷ []) ran.unfinished → ran.unfinished ≡ sessions - length (finished_of (office_with k q.seen)) →
    HasJournals wanted (office_with k q.seen ∷ []) (map string_bytes ran.journals.items) → TellsCourse Is form tells p me programs turns wanted ran
tells_run Is form tells p me programs turns wanted ran k a b q sessions fault key all begins goes is looks same told left journals = record {
  first = a;
  begins = begins;
  last = b;
  goes = subst (λ (x : Option RunFault). Goes x Plain tells 0 (p, me) turns a b (of_office me programs)) (sym same)
      (subst (λ (x : Key). Goes fault Plain tells 0 x turns a b (of_office me programs)) key (subst (λ (t : ℕ). Goes fault Plain tells t k turns a b (of_office me programs)) begins.0 goes));
  is = is;
  seen = q;
  looked = subst (λ (x : Key). Looks x b.pass q) key looks;
  left = subst (λ (x : Key). ran.unfinished ≡ count_of programs me - length (finished_of (office_with x q.seen))) key (left ∙ ap (λ n. n - length (finished_of (office_with k q.seen))) all);
  told = subst (λ (x : Key). string_bytes ran.text ≡ runs_report form p (office_with x q.seen ∷ []) ran.unfinished) key told;
  journals = subst (λ (x : Key). HasJournals wanted (office_with x q.seen ∷ []) (map string_bytes ran.journals.items)) key journals;
}

-- ---- of who wrote it

pub adds_office : {E : Type 0} (form : Form) (p : PlanValue) (k : Key) (worker client : List Entry) (before after : Told) (s : Site) (result : Result ℕ E) → key_of s ≡ k → IsLegal s →
    OnOk result (after.lines ≡ before.lines ++ flat_map (outcome_as form p) (finished_of s)) → IfOk result (λ n. n ≡ length (finished_of s)) → OnOk result (AddsJournal before.wanted s before.texts after.texts) →
    All (λ (e : Entry). e.tag < 2) s.entries → tagged tag_of 0 s.entries ≡ worker → IsPrefix (tagged tag_of 1 s.entries) client → IfOk result (AddsOffice form p k worker client before after)
adds_office form p k worker client before after s (Ok n) key legal lines count journal tags turns submits = record {
  site = s;
  key = key;
  legal = legal;
  count = count;
  lines = lines;
  journal = journal;
  tags = tags;
  turns = turns;
  submits = submits;
}
adds_office form p k worker client before after s (Err e) key legal lines count journal tags turns submits = tt
