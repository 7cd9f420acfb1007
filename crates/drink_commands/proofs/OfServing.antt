-- What a fault of `serve` says, and what it leaves; and that what was written is what the text means.
use Rattle.std.proofs.Common.{◌≡◌, ◌⊎◌, ℕ, zero, suc, Bool, List, [], ◌∷◌, take, Option, Some, None, refl, sym, subst, arith, inl, inr}
use Rattle.host_files.specs.inputs.Words.{HaveTexts, StandFor, Unread, unread}
use Rattle.office_map.specs.PlanValue.{PlanValue, office_named}
use Rattle.socket_pump.specs.Wires.{Account}
use Rattle.stored_runs.specs.declared.fault.KeptFault.{KeptFault}
use Rattle.stored_runs.specs.declared.fault.StoredFault.TheVariants as stored
use Rattle.command_outputs.specs.declared.secrets.fault.SecretsFault.{SecretsFault}
use Rattle.serving.specs.declared.fault.ServeFault.{ServeFault}
use Rattle.serving.specs.declared.fault.ServeFault.TheVariants as serve
use Rattle.serving.specs.declared.served.Served.{Served}
use Rattle.serial_command.specs.declared.reading.input.Input.{Input}
use Rattle.serial_command.specs.declared.reading.input.Input.TheVariants as inputs
use Rattle.serial_command.specs.declared.reading.fault.TextFault.{TextFault}
use Rattle.serial_command.specs.declared.reading.fault.TextFault.TheVariants as unfit
use Rattle.serial_command.specs.reading.Fault.{IsAtInput}
use Rattle.serial_command.specs.reading.Plans.{IsAcceptedAs}
use Rattle.command_outputs.specs.declared.fault.Obstacle.{Obstacle}
use Rattle.command_outputs.specs.declared.fault.Fault.{Fault}
use Rattle.command_outputs.specs.declared.fault.Fault.TheVariants.{Memory, Text, Refused, NoSuchOffice, NoAddress, NoJournal, NoPlace, NoRun, CutShort, WriteFailed, FileFailed, NoStore, StoreFailed, OtherSessions, NoSecrets}
use Rattle.command_outputs.specs.Fault.{IsAmong, IsFaultAt, IsOfStoredRun, IsPlaceFault}
use Rattle.drink_commands.specs.Run.{IsOfOffice, IsReached, SaysOf}
use Rattle.session_reports.specs.declared.form.forms.Form.{Form}
use Rattle.drink_commands.specs.Served.{HasServed, IsCutOff, IsJudgedServed, IsNotFoundIn, IsOfService, IsServeEnd, JudgesServed, LeavesServed, RefusesFound, WritesServed}
use Rattle.drink_commands.specs.Sealed.{IsSecretsFault}
use Rattle.drink_commands.specs.Stored.{IsStoreFault, IsUnbegun, LeavesStored}
use Rattle.drink_commands.specs.Texts.{Judges, NoOther, Refuses, nothing}
use Rattle.drink_commands.proofs.Faults.{RefusesWord, TakesPlan, among, among_more, weaker}
use Rattle.drink_commands.proofs.Faults as texts
use Rattle.drink_commands.proofs.Reported.{started}
use Rattle.drink_commands.proofs.Running.{asked_for, says_more}
use Rattle.drink_commands.proofs.Storing as storing

-- ---- what a fault leaves

-- an office that can't be run is told by no fault of a text
no_text : (p : PlanValue) (o : Option ℕ) (t : TextFault) → SaysOf p NoOther o (Text t) → ⊥
no_text p None t h = h
no_text p (Some me) t (inl (v, e, h)) = h
no_text p (Some me) t (inr (reached, h)) = h

abbrev IsThePlan : Input → Type 0
IsThePlan inputs.Plan = Unit {0}
IsThePlan input = ⊥

module _ (U S : Type 0) (F : List ℕ → Obstacle → Type 0) (is_new : Bool) (N : KeptFault → Type 0) (R : ServeFault → Type 0) where
  abbrev L : Fault → Type 0
  L = LeavesServed U S F is_new N R

  -- what a fault of a run with a store leaves, if it is of no text
  as_stored : (f : Fault) → ((t : TextFault) → f ≡ Text t → ⊥) → LeavesStored U S F is_new N (λ cause. R (serve.Run cause)) f → L f
  as_stored Memory k h = h
  as_stored (Text t) k h = absurd (k t refl)
  as_stored (Refused why said) k h = h
  as_stored (NoSuchOffice offices) k h = h
  as_stored (NoAddress office) k h = h
  as_stored (NoJournal office) k h = h
  as_stored (NoPlace name why) k h = h
  as_stored (NoRun cause) k h = h
  as_stored (CutShort cause) k h = h
  as_stored (WriteFailed cause) k h = h
  as_stored (FileFailed name cause) k h = h
  as_stored (NoStore why) k h = h
  as_stored StoreFailed k h = h
  as_stored (OtherSessions ticket) k h = h
  as_stored (NoSecrets why) k h = h

  -- the plan isn't read, or is refused
  pub at_plan : (P : TextFault → Type 0) (t : TextFault) → IsAtInput inputs.Plan P t → U → L (Text t)
  at_plan P unfit.Memory h u = u
  at_plan P (unfit.ReadFailed inputs.Plan cause) h u = u
  at_plan P (unfit.ReadFailed inputs.Sessions cause) h u = absurd (subst IsThePlan (sym h) tt)
  at_plan P (unfit.ReadFailed inputs.Script cause) h u = u
  at_plan P (unfit.ReadFailed (inputs.Journal k) cause) h u = u
  at_plan P (unfit.Plan refusal said) h u = u
  at_plan P (unfit.Ring ring said) h u = u
  at_plan P (unfit.Sessions refusal said) h u = u

  pub at_office : (p : PlanValue) (o : Option ℕ) (f : Fault) → SaysOf p NoOther o f → U → L f
  at_office p o f h u = as_stored f (λ t e. no_text p o t (subst (SaysOf p NoOther o) e h)) (storing.at_office U S F is_new N (λ cause. R (serve.Run cause)) p o f h u)

  pub at_secrets : (Q : SecretsFault → Type 0) (f : Fault) → IsSecretsFault Q f → U → L f
  at_secrets Q f h u = as_stored f (λ t e. subst (IsSecretsFault Q) e h) (storing.at_secrets U S F is_new N (λ cause. R (serve.Run cause)) Q f h u)

  pub at_place : (f : Fault) → IsPlaceFault F f → U → S → L f
  at_place f h u s = as_stored f (λ t e. subst (IsPlaceFault F) e h) (storing.at_place U S F is_new N (λ cause. R (serve.Run cause)) f h u s)

  pub at_store : (M : KeptFault → Type 0) → ((fault : KeptFault) → M fault → N fault) → (f : Fault) → IsStoreFault S is_new M f → U → L f
  at_store M k f h u = as_stored f (λ t e. subst (IsStoreFault S is_new M) e h) (storing.at_store U S F is_new N (λ cause. R (serve.Run cause)) M k f h u)

  pub at_unbegun : (M : KeptFault → Type 0) → ((fault : KeptFault) → M fault → N fault) → (f : Fault) → IsUnbegun S is_new M f → U → L f
  at_unbegun M k f (inl (cause, is)) u = subst L (sym is) u
  at_unbegun M k f (inr h) u = at_store M k f h u

  -- the service had begun
  pub at_end : (e : Served) (f : Fault) → IsServeEnd e f → ((cause : ServeFault) → IsCutOff cause e → R cause) → L f
  at_end e Memory h k = absurd h
  at_end e (Text unfit.Memory) h k = absurd h
  at_end e (Text (unfit.ReadFailed inputs.Plan cause)) h k = absurd h
  at_end e (Text (unfit.ReadFailed inputs.Sessions cause)) h k = k (serve.InputFailed cause) h
  at_end e (Text (unfit.ReadFailed inputs.Script cause)) h k = absurd h
  at_end e (Text (unfit.ReadFailed (inputs.Journal n) cause)) h k = absurd h
  at_end e (Text (unfit.Plan refusal said)) h k = absurd h
  at_end e (Text (unfit.Ring ring said)) h k = absurd h
  at_end e (Text (unfit.Sessions refusal said)) h k = absurd h
  at_end e (Refused why said) h k = absurd h
  at_end e (NoSuchOffice offices) h k = absurd h
  at_end e (NoAddress office) h k = absurd h
  at_end e (NoJournal office) h k = absurd h
  at_end e (NoPlace name why) h k = absurd h
  at_end e (NoRun cause) h k = absurd h
  at_end e (CutShort cause) h k = k (serve.Run (stored.Run cause)) h
  at_end e (WriteFailed cause) h k = k (serve.Run (stored.WriteFailed cause)) h
  at_end e (FileFailed name cause) h k = absurd h
  at_end e (NoStore why) h k = absurd h
  at_end e StoreFailed h k = k (serve.Run stored.StoreFailed) h
  at_end e (OtherSessions ticket) h k = absurd h
  at_end e (NoSecrets why) h k = absurd h

-- ---- faults of a service

-- those of a run with a store
pub of_store : (f : Fault) → IsAmong [] f ⊎ IsOfStoredRun f → IsAmong [] f ⊎ IsOfService f
of_store f (inl h) = inl h
of_store f (inr h) = inr (inl h)

pub is_end : (e : Served) (f : Fault) → IsServeEnd e f → IsAmong [] f ⊎ IsOfService f
is_end e Memory h = absurd h
is_end e (Text unfit.Memory) h = absurd h
is_end e (Text (unfit.ReadFailed inputs.Plan cause)) h = absurd h
is_end e (Text (unfit.ReadFailed inputs.Sessions cause)) h = inr (inr tt)
is_end e (Text (unfit.ReadFailed inputs.Script cause)) h = absurd h
is_end e (Text (unfit.ReadFailed (inputs.Journal n) cause)) h = absurd h
is_end e (Text (unfit.Plan refusal said)) h = absurd h
is_end e (Text (unfit.Ring ring said)) h = absurd h
is_end e (Text (unfit.Sessions refusal said)) h = absurd h
is_end e (Refused why said) h = absurd h
is_end e (NoSuchOffice offices) h = absurd h
is_end e (NoAddress office) h = absurd h
is_end e (NoJournal office) h = absurd h
is_end e (NoPlace name why) h = absurd h
is_end e (NoRun cause) h = absurd h
is_end e (CutShort cause) h = inr (inl (inl (inr (inl tt))))
is_end e (WriteFailed cause) h = inl tt
is_end e (FileFailed name cause) h = absurd h
is_end e (NoStore why) h = absurd h
is_end e StoreFailed h = inr (inl (inr tt))
is_end e (OtherSessions ticket) h = absurd h
is_end e (NoSecrets why) h = absurd h

-- ---- what a fault says

module _ (files : List ℕ → Option (List ℕ)) (word : List ℕ) where
  -- a fault says what is so of the text of this word, whether it is known or not
  abbrev pub SaysServed : Unread → List ℕ → Fault → Type 0
  SaysServed u a f = (read : List (List ℕ)) (n : ℕ) → HaveTexts files u (take n (a ∷ [])) (take n read) → JudgesServed word (take n read) f

  pub of_plan : (u : Unread) (a : List ℕ) (f : Fault) → IsFaultAt inputs.Plan (RefusesWord files u a nothing) f → SaysServed u a f
  of_plan u a f h read zero has = inl (among (inputs.Plan ∷ []) inputs.Plan (RefusesWord files u a nothing) f (0, omega arith, refl) h)
  of_plan u a f h [] (suc n) has = absurd has
  of_plan u a f h (text ∷ read) (suc n) (after, has, more) = inl (weaker inputs.Plan (RefusesWord files u a nothing) (Refuses nothing text) f (λ why refused. refused text after has) h)

  pub of_word : (u v : Unread) (a : List ℕ) (p : PlanValue) (f : Fault) → TakesPlan files u a v p → SaysOf p NoOther (office_named p word) f → SaysServed u a f
  of_word u v a p f taken h read zero has = asked_for IsOfService (inputs.Plan ∷ []) p (office_named p word) f h
  of_word u v a p f taken h [] (suc n) has = absurd has
  of_word u v a p f taken h (text ∷ read) (suc n) (after, has, more) = inr (p, (taken text after has).0, says_more p _ (office_named p word) f h)

  later_first : (f : Fault) → IsAmong [] f ⊎ IsOfService f → IsAmong (inputs.Plan ∷ []) f ⊎ (IsOfOffice f ⊎ IsOfService f)
  later_first f (inl h) = inl (among_more inputs.Plan [] f h)
  later_first f (inr h) = inr (inr h)

  pub of_rest : (u v : Unread) (a : List ℕ) (p : PlanValue) (me : ℕ) (f : Fault) → TakesPlan files u a v p → office_named p word ≡ Some me → IsReached p me
      → IsAmong [] f ⊎ IsOfService f → SaysServed u a f
  of_rest u v a p me f taken e reached h read zero has = later_first f h
  of_rest u v a p me f taken e reached h [] (suc n) has = absurd has
  of_rest u v a p me f taken e reached h (text ∷ read) (suc n) (after, has, more) =
      let it = taken text after has in
      let known = record nothing { plan = Some p } in
      let rest = texts.at_end IsOfService files v known f h read n (subst (λ s. HaveTexts files s (take n []) (take n read)) (sym it.1) more) in
      inr (p, it.0, subst (λ o. SaysOf p (Judges IsOfService known [] (take n read)) o f) (sym e) (inr (reached, rest)))

  pub judged : (standard : Option (List ℕ)) (u : Unread) (a : List ℕ) (f : Fault) → u ≡ unread standard (a ∷ []) → SaysServed u a f → IsJudgedServed files standard a word f
  judged standard u a f e says read n known = says read n (subst (λ s. HaveTexts files s (take n (a ∷ [])) (take n read)) (sym e) known.1)

-- ---- what was written

module _ (files : List ℕ → Option (List ℕ)) (standard : Option (List ℕ)) (u v : Unread) (a word : List ℕ) (p : PlanValue) (me : ℕ)
    (e : u ≡ unread standard (a ∷ [])) (plan : TakesPlan files u a v p) (named : office_named p word ≡ Some me) where
  -- what the text means
  meaning : (a_text : List ℕ) → StandFor files standard (a ∷ []) (a_text ∷ []) → IsAcceptedAs a_text p
  meaning a_text known =
      let (after, has, more) = started u standard files (a ∷ []) (a_text ∷ []) e known in
      (plan a_text after has).0

  pub writes : (Is : PlanValue → ℕ → Account → Type 0) (form : Form) (tells : Bool) (known_bytes : Option (List ℕ)) (is_new : Bool) (asks : Option (List ℕ)) (end : Served) (old new : Option (List ℕ)) → IsReached p me → HasServed (Is p me) form tells known_bytes is_new p me asks end old new
      → (a_text : List ℕ) → StandFor files standard (a ∷ []) (a_text ∷ []) → WritesServed Is form tells known_bytes is_new a_text word asks end old new
  writes Is form tells known_bytes is_new asks end old new reached served a_text known = record {
    p = p;
    accepted = meaning a_text known;
    me = me;
    office = named;
    reached = reached;
    served = served;
  }

  pub not_found : (known_bytes : Option (List ℕ)) (is_new : Bool) (fault : KeptFault) → IsNotFoundIn known_bytes is_new p me fault → RefusesFound files standard known_bytes is_new a word fault
  not_found known_bytes is_new fault h a_text known = (p, me, meaning a_text known, named, h)
