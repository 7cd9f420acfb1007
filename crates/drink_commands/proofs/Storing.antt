-- What a fault of `run` with a store says, and what it leaves; and that what was written is what the texts mean.
use Rattle.std.proofs.Common.{◌≡◌, ◌⊎◌, ℕ, Bool, List, [], ◌∷◌, Option, Some, None, Ok, sym, subst, inl, inr}
use Rattle.host_files.specs.inputs.Words.{HasText, StandFor, Unread, unread}
use Rattle.office_map.specs.PlanValue.{PlanValue, office_named}
use Rattle.session_meaning.specs.ProgramValue.{ProgramValue}
use Rattle.session_language.specs.Reading.{sessions_of}
use Rattle.socket_pump.specs.Wires.{Account}
use Rattle.session_reports.specs.declared.form.forms.Form.{Form}
use Rattle.stored_runs.specs.declared.ended.Ended.{Ended}
use Rattle.stored_runs.specs.declared.fault.KeptFault.{KeptFault}
use Rattle.stored_runs.specs.declared.fault.StoredFault.{StoredFault}
use Rattle.stored_runs.specs.declared.fault.StoredFault.TheVariants as ended
use Rattle.serial_command.specs.declared.reading.input.Input.TheVariants as inputs
use Rattle.command_outputs.specs.declared.fault.Obstacle.{Obstacle}
use Rattle.command_outputs.specs.declared.secrets.fault.SecretsFault.{SecretsFault}
use Rattle.drink_commands.specs.Sealed.{IsSecretsFault}
use Rattle.command_outputs.specs.declared.fault.StoreRefusal.{StoreRefusal}
use Rattle.command_outputs.specs.declared.fault.StoreRefusal.TheVariants as refusal
use Rattle.command_outputs.specs.declared.fault.Fault.{Fault}
use Rattle.command_outputs.specs.declared.fault.Fault.TheVariants.{Memory, Text, Refused, NoSuchOffice, NoAddress, NoJournal, NoPlace, NoRun, CutShort, WriteFailed, FileFailed, NoStore, StoreFailed, OtherSessions, NoSecrets}
use Rattle.command_outputs.specs.Fault.{IsAmong, IsOfStoredRun, IsPlaceFault}
use Rattle.serial_command.specs.reading.Plans.{IsAcceptedAs}
use Rattle.drink_commands.specs.Run.{IsNoOffice, IsReached, IsUnreached, SaysOf}
use Rattle.drink_commands.specs.Stored.{IsEnd, IsEndedBy, IsJudgedStored, IsNotHeld, IsRefusal, IsStoreFault, IsUnbegun, LeavesStored, RefusesStore, WentOn, WritesStored}
use Rattle.drink_commands.specs.Texts.{Known, NoOther, nothing}
use Rattle.drink_commands.proofs.Faults as texts
use Rattle.drink_commands.proofs.Faults.{TakesPlan, TakesSessions, at_next, sessions_taken}
use Rattle.drink_commands.proofs.Reported.{started}
use Rattle.drink_commands.proofs.Running.{at_later, judged}

-- ---- what a fault leaves

module _ (U S : Type 0) (F : List ℕ → Obstacle → Type 0) (is_new : Bool) (N : KeptFault → Type 0) (R : StoredFault → Type 0) where
  abbrev L : Fault → Type 0
  L = LeavesStored U S F is_new N R

  no_office : (f : Fault) → IsNoOffice f → U → L f
  no_office Memory h u = u
  no_office (Text fault) h u = u
  no_office (Refused why said) h u = u
  no_office (NoSuchOffice offices) h u = u
  no_office (NoAddress office) h u = u
  no_office (NoJournal office) h u = u
  no_office (NoPlace name why) h u = absurd h
  no_office (NoRun cause) h u = u
  no_office (CutShort cause) h u = absurd h
  no_office (WriteFailed cause) h u = absurd h
  no_office (FileFailed name cause) h u = u
  no_office (NoStore why) h u = absurd h
  no_office StoreFailed h u = absurd h
  no_office (OtherSessions ticket) h u = absurd h
  no_office (NoSecrets why) h u = absurd h

  unreached : (p : PlanValue) (v : ℕ) (f : Fault) → IsUnreached p v f → U → L f
  unreached p v Memory h u = u
  unreached p v (Text fault) h u = u
  unreached p v (Refused why said) h u = u
  unreached p v (NoSuchOffice offices) h u = u
  unreached p v (NoAddress office) h u = u
  unreached p v (NoJournal office) h u = u
  unreached p v (NoPlace name why) h u = absurd h
  unreached p v (NoRun cause) h u = u
  unreached p v (CutShort cause) h u = absurd h
  unreached p v (WriteFailed cause) h u = absurd h
  unreached p v (FileFailed name cause) h u = u
  unreached p v (NoStore why) h u = absurd h
  unreached p v StoreFailed h u = absurd h
  unreached p v (OtherSessions ticket) h u = absurd h
  unreached p v (NoSecrets why) h u = absurd h

  -- a fault at the office that is asked for
  pub at_office : (p : PlanValue) (o : Option ℕ) (f : Fault) → SaysOf p NoOther o f → U → L f
  at_office p None f h u = no_office f h u
  at_office p (Some me) f (inl (v, e, h)) u = unreached p v f h u
  at_office p (Some me) f (inr (reached, h)) u = absurd h

  -- the store is an input
  pub at_place : (f : Fault) → IsPlaceFault F f → U → S → L f
  at_place Memory h u s = u
  at_place (Text fault) h u s = absurd h
  at_place (Refused why said) h u s = absurd h
  at_place (NoSuchOffice offices) h u s = absurd h
  at_place (NoAddress office) h u s = absurd h
  at_place (NoJournal office) h u s = absurd h
  at_place (NoPlace name why) h u s = (u, s, h)
  at_place (NoRun cause) h u s = absurd h
  at_place (CutShort cause) h u s = absurd h
  at_place (WriteFailed cause) h u s = absurd h
  at_place (FileFailed name cause) h u s = absurd h
  at_place (NoStore why) h u s = absurd h
  at_place StoreFailed h u s = absurd h
  at_place (OtherSessions ticket) h u s = absurd h
  at_place (NoSecrets why) h u s = absurd h

  refused : (M : KeptFault → Type 0) → ((fault : KeptFault) → M fault → N fault) → (why : StoreRefusal) → IsRefusal S is_new M why → IsRefusal S is_new N why
  refused M k (refusal.Failed cause) h = tt
  refused M k refusal.InUse h = tt
  refused M k refusal.Missing h = h
  refused M k refusal.There h = h
  refused M k (refusal.Faulty line why text) h = (h.0, k _ h.1)

  -- the office doesn't get its secrets
  pub at_secrets : (E : SecretsFault → Type 0) (f : Fault) → IsSecretsFault E f → U → L f
  at_secrets E Memory h u = absurd h
  at_secrets E (Text fault) h u = absurd h
  at_secrets E (Refused why said) h u = absurd h
  at_secrets E (NoSuchOffice offices) h u = absurd h
  at_secrets E (NoAddress office) h u = absurd h
  at_secrets E (NoJournal office) h u = absurd h
  at_secrets E (NoPlace name why) h u = absurd h
  at_secrets E (NoRun cause) h u = absurd h
  at_secrets E (CutShort cause) h u = absurd h
  at_secrets E (WriteFailed cause) h u = absurd h
  at_secrets E (FileFailed name cause) h u = absurd h
  at_secrets E (NoStore why) h u = absurd h
  at_secrets E StoreFailed h u = absurd h
  at_secrets E (OtherSessions ticket) h u = absurd h
  at_secrets E (NoSecrets why) h u = u

  -- the office doesn't get its store, or doesn't go on from it
  pub at_store : (M : KeptFault → Type 0) → ((fault : KeptFault) → M fault → N fault) → (f : Fault) → IsStoreFault S is_new M f → U → L f
  at_store M k Memory h u = u
  at_store M k (Text fault) h u = absurd h
  at_store M k (Refused why said) h u = absurd h
  at_store M k (NoSuchOffice offices) h u = absurd h
  at_store M k (NoAddress office) h u = absurd h
  at_store M k (NoJournal office) h u = absurd h
  at_store M k (NoPlace name why) h u = absurd h
  at_store M k (NoRun cause) h u = absurd h
  at_store M k (CutShort cause) h u = absurd h
  at_store M k (WriteFailed cause) h u = absurd h
  at_store M k (FileFailed name cause) h u = absurd h
  at_store M k (NoStore why) h u = (u, refused M k why h)
  at_store M k StoreFailed h u = absurd h
  at_store M k (OtherSessions ticket) h u = (u, h.0, k _ h.1)
  at_store M k (NoSecrets why) h u = absurd h

  -- the office isn't begun
  pub at_unbegun : (M : KeptFault → Type 0) → ((fault : KeptFault) → M fault → N fault) → (f : Fault) → IsUnbegun S is_new M f → U → L f
  at_unbegun M k f (inl (cause, is)) u = subst L (sym is) u
  at_unbegun M k f (inr h) u = at_store M k f h u

  -- the run had begun
  pub at_end : (e : Ended) (f : Fault) → IsEnd e f → ((cause : StoredFault) → IsEndedBy cause e → R cause) → L f
  at_end e Memory h k = absurd h
  at_end e (Text fault) h k = absurd h
  at_end e (Refused why said) h k = absurd h
  at_end e (NoSuchOffice offices) h k = absurd h
  at_end e (NoAddress office) h k = absurd h
  at_end e (NoJournal office) h k = absurd h
  at_end e (NoPlace name why) h k = absurd h
  at_end e (NoRun cause) h k = absurd h
  at_end e (CutShort cause) h k = k (ended.Run cause) h
  at_end e (WriteFailed cause) h k = k (ended.WriteFailed cause) h
  at_end e (FileFailed name cause) h k = absurd h
  at_end e (NoStore why) h k = absurd h
  at_end e StoreFailed h k = k ended.StoreFailed h
  at_end e (OtherSessions ticket) h k = absurd h
  at_end e (NoSecrets why) h k = absurd h

-- ---- faults of such a run

pub is_end : (e : Ended) (f : Fault) → IsEnd e f → IsAmong [] f ⊎ IsOfStoredRun f
is_end e Memory h = absurd h
is_end e (Text fault) h = absurd h
is_end e (Refused why said) h = absurd h
is_end e (NoSuchOffice offices) h = absurd h
is_end e (NoAddress office) h = absurd h
is_end e (NoJournal office) h = absurd h
is_end e (NoPlace name why) h = absurd h
is_end e (NoRun cause) h = absurd h
is_end e (CutShort cause) h = inr (inl (inr (inl tt)))
is_end e (WriteFailed cause) h = inl tt
is_end e (FileFailed name cause) h = absurd h
is_end e (NoStore why) h = absurd h
is_end e StoreFailed h = inr (inr tt)
is_end e (OtherSessions ticket) h = absurd h
is_end e (NoSecrets why) h = absurd h

pub is_place : (F : List ℕ → Obstacle → Type 0) (f : Fault) → IsPlaceFault F f → IsAmong [] f ⊎ IsOfStoredRun f
is_place F Memory h = inl tt
is_place F (Text fault) h = absurd h
is_place F (Refused why said) h = absurd h
is_place F (NoSuchOffice offices) h = absurd h
is_place F (NoAddress office) h = absurd h
is_place F (NoJournal office) h = absurd h
is_place F (NoPlace name why) h = inr (inl (inr (inr tt)))
is_place F (NoRun cause) h = absurd h
is_place F (CutShort cause) h = absurd h
is_place F (WriteFailed cause) h = absurd h
is_place F (FileFailed name cause) h = absurd h
is_place F (NoStore why) h = absurd h
is_place F StoreFailed h = absurd h
is_place F (OtherSessions ticket) h = absurd h
is_place F (NoSecrets why) h = absurd h

pub is_secrets : (E : SecretsFault → Type 0) (f : Fault) → IsSecretsFault E f → IsAmong [] f ⊎ IsOfStoredRun f
is_secrets E Memory h = absurd h
is_secrets E (Text fault) h = absurd h
is_secrets E (Refused why said) h = absurd h
is_secrets E (NoSuchOffice offices) h = absurd h
is_secrets E (NoAddress office) h = absurd h
is_secrets E (NoJournal office) h = absurd h
is_secrets E (NoPlace name why) h = absurd h
is_secrets E (NoRun cause) h = absurd h
is_secrets E (CutShort cause) h = absurd h
is_secrets E (WriteFailed cause) h = absurd h
is_secrets E (FileFailed name cause) h = absurd h
is_secrets E (NoStore why) h = absurd h
is_secrets E StoreFailed h = absurd h
is_secrets E (OtherSessions ticket) h = absurd h
is_secrets E (NoSecrets why) h = inr (inl (inr (inr tt)))

pub is_store : (S : Type 0) (is_new : Bool) (N : KeptFault → Type 0) (f : Fault) → IsStoreFault S is_new N f → IsAmong [] f ⊎ IsOfStoredRun f
is_store S is_new N Memory h = inl tt
is_store S is_new N (Text fault) h = absurd h
is_store S is_new N (Refused why said) h = absurd h
is_store S is_new N (NoSuchOffice offices) h = absurd h
is_store S is_new N (NoAddress office) h = absurd h
is_store S is_new N (NoJournal office) h = absurd h
is_store S is_new N (NoPlace name why) h = absurd h
is_store S is_new N (NoRun cause) h = absurd h
is_store S is_new N (CutShort cause) h = absurd h
is_store S is_new N (WriteFailed cause) h = absurd h
is_store S is_new N (FileFailed name cause) h = absurd h
is_store S is_new N (NoStore why) h = inr (inr tt)
is_store S is_new N StoreFailed h = absurd h
is_store S is_new N (OtherSessions ticket) h = inr (inr tt)
is_store S is_new N (NoSecrets why) h = absurd h

-- the office isn't begun
pub is_unbegun : (S : Type 0) (is_new : Bool) (N : KeptFault → Type 0) (f : Fault) → IsUnbegun S is_new N f → IsAmong [] f ⊎ IsOfStoredRun f
is_unbegun S is_new N f (inl (cause, is)) = subst (λ (x : Fault). IsAmong [] x ⊎ IsOfStoredRun x) (sym is) (inr (inl (inl tt)))
is_unbegun S is_new N f (inr h) = is_store S is_new N f h

-- ---- what a fault says

-- one that comes later than the texts
pub later : (files : List ℕ → Option (List ℕ)) (standard : Option (List ℕ)) (u v w : Unread) (a word b : List ℕ) (p : PlanValue) (me : ℕ) (programs : List ProgramValue) (f : Fault)
    → u ≡ unread standard (a ∷ b ∷ []) → TakesPlan files u a v p → office_named p word ≡ Some me → IsReached p me → TakesSessions files v b w p programs
    → IsAmong [] f ⊎ IsOfStoredRun f → IsJudgedStored files standard a word b f
later files standard u v w a word b p me programs f e plan named reached sessions h =
    let known : Known = record nothing { plan = Some p } in
    let all : Known = record nothing { plan = Some p; programs = Some programs } in
    judged IsOfStoredRun files word standard u a b f e
    (at_later IsOfStoredRun files word u v a b p me f plan named reached
    (at_next IsOfStoredRun files v w b [] known all inputs.Sessions [] f (sessions_taken files v b w p programs sessions) (texts.at_end IsOfStoredRun files w all f h)))

-- ---- what was written

module _ (files : List ℕ → Option (List ℕ)) (standard : Option (List ℕ)) (u v w : Unread) (a word b : List ℕ) (p : PlanValue) (me : ℕ) (programs seen : List ProgramValue)
    (e : u ≡ unread standard (a ∷ b ∷ [])) (plan : TakesPlan files u a v p) (named : office_named p word ≡ Some me) (sessions : TakesSessions files v b w p programs) (same : seen ≡ programs) where
  -- what the texts mean
  meaning : (a_text b_text : List ℕ) → StandFor files standard (a ∷ b ∷ []) (a_text ∷ b_text ∷ []) → IsAcceptedAs a_text p × (sessions_of p b_text ≡ Ok programs)
  meaning a_text b_text known =
      let (after, has, (next, has_next, more)) = started u standard files (a ∷ b ∷ []) (a_text ∷ b_text ∷ []) e known in
      let it = plan a_text after has in
      (it.0, (sessions b_text next (subst (λ s. HasText files s b b_text next) (sym it.1) has_next)).0)

  pub went_on : (Is : PlanValue → ℕ → Account → Type 0) (form : Form) (tells : Bool) (known_bytes : Option (List ℕ)) (is_new : Bool) (turns : ℕ) (end : Ended) (old new : Option (List ℕ)) → IsReached p me → WentOn (Is p me) form tells known_bytes is_new p me seen turns end old new
      → (a_text b_text : List ℕ) → StandFor files standard (a ∷ b ∷ []) (a_text ∷ b_text ∷ []) → WritesStored Is form tells known_bytes is_new a_text word b_text turns end old new
  went_on Is form tells known_bytes is_new turns end old new reached went a_text b_text known =
      let it = meaning a_text b_text known in
      record {
        named = record {
          both = record { p = p; programs = programs; is_plan = it.0; are_sessions = it.1 };
          me = me;
          is_office = named;
          is_reached = reached;
        };
        went_on = subst (λ ps. WentOn (Is p me) form tells known_bytes is_new p me ps turns end old new) same went;
      }

  pub not_held : (known_bytes : Option (List ℕ)) (is_new : Bool) (fault : KeptFault) → IsNotHeld known_bytes is_new p me seen fault → RefusesStore files standard known_bytes is_new a word b fault
  not_held known_bytes is_new fault h a_text b_text known =
      let it = meaning a_text b_text known in
      (p, me, programs, it.0, named, it.1, subst (λ ps. IsNotHeld known_bytes is_new p me ps fault) same h)
