-- What a fault of `run` says, and what it leaves.
use Rattle.std.proofs.Common.{Bor, is_some, ◌≡◌, ◌⊎◌, ◌≤◌, ℕ, zero, suc, List, [], ◌∷◌, take, Option, Some, None, Result, Ok, Err, refl, sym, subst, arith, inl, inr, IfErr, IfOk, OnOk}
use Rattle.std.specs.Option.{option_copied}
use Rattle.std.specs.String.{string_bytes}
use Rattle.host_files.specs.inputs.Words.{HaveTexts, Unread, unread}
use Rattle.office_map.specs.PlanValue.{PlanValue, office_named}
use Rattle.office_stations.specs.declared.fault.RunFault.{RunFault}
use Rattle.serial_command.specs.declared.reading.input.Input.{Input}
use Rattle.serial_command.specs.declared.reading.input.Input.TheVariants as inputs
use Rattle.command_outputs.specs.declared.fault.Obstacle.{Obstacle}
use Rattle.command_outputs.specs.declared.secrets.fault.SecretsFault.{SecretsFault}
use Rattle.command_outputs.specs.declared.fault.Fault.{Fault}
use Rattle.command_outputs.specs.declared.fault.Fault.TheVariants.{Memory, Text, Refused, NoSuchOffice, NoAddress, NoJournal, NoPlace, NoRun, CutShort, WriteFailed, FileFailed, NoStore, StoreFailed, OtherSessions, NoSecrets}
use Rattle.command_outputs.specs.Fault.{IsAmong, IsFaultAt, IsOfRun, IsPlaceFault}
use Rattle.drink_commands.specs.Sealed.{IsSecretsFault}
use Rattle.drink_commands.specs.Texts.{Judges, NoOther, Refuses, nothing}
use Rattle.drink_commands.specs.Run.{IsJudgedOffice, IsNoOffice, IsOfOffice, IsReached, IsUnreached, JudgesOffice, Leaves, NoObstacle, SaysOf, status_with}
use Rattle.drink_commands.proofs.Faults.{RefusesWord, SaysTexts, TakesPlan, among, among_more, weaker}

-- ---- what a fault leaves

no_office : (U : Type 0) (F : List ℕ → Obstacle → Type 0) (S : RunFault → Type 0) (f : Fault) → IsNoOffice f → U → Leaves U F S f
no_office U F S Memory h u = u
no_office U F S (Text fault) h u = u
no_office U F S (Refused why said) h u = u
no_office U F S (NoSuchOffice offices) h u = u
no_office U F S (NoAddress office) h u = u
no_office U F S (NoJournal office) h u = u
no_office U F S (NoPlace name why) h u = absurd h
no_office U F S (NoRun cause) h u = u
no_office U F S (CutShort cause) h u = absurd h
no_office U F S (WriteFailed cause) h u = tt
no_office U F S (FileFailed name cause) h u = tt
no_office U F S (NoStore why) h u = u
no_office U F S StoreFailed h u = u
no_office U F S (OtherSessions ticket) h u = u
no_office U F S (NoSecrets why) h u = u

unreached : (U : Type 0) (F : List ℕ → Obstacle → Type 0) (S : RunFault → Type 0) (p : PlanValue) (v : ℕ) (f : Fault) → IsUnreached p v f → U → Leaves U F S f
unreached U F S p v Memory h u = u
unreached U F S p v (Text fault) h u = u
unreached U F S p v (Refused why said) h u = u
unreached U F S p v (NoSuchOffice offices) h u = u
unreached U F S p v (NoAddress office) h u = u
unreached U F S p v (NoJournal office) h u = u
unreached U F S p v (NoPlace name why) h u = absurd h
unreached U F S p v (NoRun cause) h u = u
unreached U F S p v (CutShort cause) h u = absurd h
unreached U F S p v (WriteFailed cause) h u = tt
unreached U F S p v (FileFailed name cause) h u = tt
unreached U F S p v (NoStore why) h u = u
unreached U F S p v StoreFailed h u = u
unreached U F S p v (OtherSessions ticket) h u = u
unreached U F S p v (NoSecrets why) h u = u

-- a fault at the office that is asked for
pub at_office : (U : Type 0) (F : List ℕ → Obstacle → Type 0) (S : RunFault → Type 0) (p : PlanValue) (o : Option ℕ) (f : Fault) → SaysOf p NoOther o f → U → Leaves U F S f
at_office U F S p None f h u = no_office U F S f h u
at_office U F S p (Some me) f (inl (v, e, h)) u = unreached U F S p v f h u
at_office U F S p (Some me) f (inr (reached, h)) u = absurd h

-- a run that was cut short, or the writing that failed
pub at_end : (U : Type 0) (F : List ℕ → Obstacle → Type 0) (S T : RunFault → Type 0) (f : Fault) → Leaves ⊥ NoObstacle S f → ((cause : RunFault) → S cause → T cause) → Leaves U F T f
at_end U F S T Memory h k = absurd h
at_end U F S T (Text fault) h k = absurd h
at_end U F S T (Refused why said) h k = absurd h
at_end U F S T (NoSuchOffice offices) h k = absurd h
at_end U F S T (NoAddress office) h k = absurd h
at_end U F S T (NoJournal office) h k = absurd h
at_end U F S T (NoPlace name why) h k = absurd (h.0)
at_end U F S T (NoRun cause) h k = absurd h
at_end U F S T (CutShort cause) h k = k cause h
at_end U F S T (WriteFailed cause) h k = tt
at_end U F S T (FileFailed name cause) h k = tt
at_end U F S T (NoStore why) h k = absurd h
at_end U F S T StoreFailed h k = absurd h
at_end U F S T (OtherSessions ticket) h k = absurd h
at_end U F S T (NoSecrets why) h k = absurd h

pub is_end : (S : RunFault → Type 0) (f : Fault) → Leaves ⊥ NoObstacle S f → IsAmong [] f ⊎ IsOfRun f
is_end S Memory h = absurd h
is_end S (Text fault) h = absurd h
is_end S (Refused why said) h = absurd h
is_end S (NoSuchOffice offices) h = absurd h
is_end S (NoAddress office) h = absurd h
is_end S (NoJournal office) h = absurd h
is_end S (NoPlace name why) h = absurd (h.0)
is_end S (NoRun cause) h = absurd h
is_end S (CutShort cause) h = inr (inr (inl tt))
is_end S (WriteFailed cause) h = inl tt
is_end S (FileFailed name cause) h = inl tt
is_end S (NoStore why) h = absurd h
is_end S StoreFailed h = absurd h
is_end S (OtherSessions ticket) h = absurd h
is_end S (NoSecrets why) h = absurd h

-- the journals have no place
pub at_place : (U : Type 0) (E F : List ℕ → Obstacle → Type 0) (S : RunFault → Type 0) (f : Fault) → IsPlaceFault E f → U → ((name : List ℕ) (why : Obstacle) → E name why → F name why)
    → Leaves U F S f
at_place U E F S Memory h u k = u
at_place U E F S (Text fault) h u k = absurd h
at_place U E F S (Refused why said) h u k = absurd h
at_place U E F S (NoSuchOffice offices) h u k = absurd h
at_place U E F S (NoAddress office) h u k = absurd h
at_place U E F S (NoJournal office) h u k = absurd h
at_place U E F S (NoPlace name why) h u k = (u, k (string_bytes name) why h)
at_place U E F S (NoRun cause) h u k = absurd h
at_place U E F S (CutShort cause) h u k = absurd h
at_place U E F S (WriteFailed cause) h u k = absurd h
at_place U E F S (FileFailed name cause) h u k = absurd h
at_place U E F S (NoStore why) h u k = absurd h
at_place U E F S StoreFailed h u k = absurd h
at_place U E F S (OtherSessions ticket) h u k = absurd h
at_place U E F S (NoSecrets why) h u k = absurd h

pub is_place : (E : List ℕ → Obstacle → Type 0) (f : Fault) → IsPlaceFault E f → IsAmong [] f ⊎ IsOfRun f
is_place E Memory h = inl tt
is_place E (Text fault) h = absurd h
is_place E (Refused why said) h = absurd h
is_place E (NoSuchOffice offices) h = absurd h
is_place E (NoAddress office) h = absurd h
is_place E (NoJournal office) h = absurd h
is_place E (NoPlace name why) h = inr (inr (inr tt))
is_place E (NoRun cause) h = absurd h
is_place E (CutShort cause) h = absurd h
is_place E (WriteFailed cause) h = absurd h
is_place E (FileFailed name cause) h = absurd h
is_place E (NoStore why) h = absurd h
is_place E StoreFailed h = absurd h
is_place E (OtherSessions ticket) h = absurd h
is_place E (NoSecrets why) h = absurd h

-- the office doesn't get its secrets
pub at_secrets : (U : Type 0) (E : SecretsFault → Type 0) (F : List ℕ → Obstacle → Type 0) (S : RunFault → Type 0) (f : Fault) → IsSecretsFault E f → U → Leaves U F S f
at_secrets U E F S Memory h u = absurd h
at_secrets U E F S (Text fault) h u = absurd h
at_secrets U E F S (Refused why said) h u = absurd h
at_secrets U E F S (NoSuchOffice offices) h u = absurd h
at_secrets U E F S (NoAddress office) h u = absurd h
at_secrets U E F S (NoJournal office) h u = absurd h
at_secrets U E F S (NoPlace name why) h u = absurd h
at_secrets U E F S (NoRun cause) h u = absurd h
at_secrets U E F S (CutShort cause) h u = absurd h
at_secrets U E F S (WriteFailed cause) h u = absurd h
at_secrets U E F S (FileFailed name cause) h u = absurd h
at_secrets U E F S (NoStore why) h u = absurd h
at_secrets U E F S StoreFailed h u = absurd h
at_secrets U E F S (OtherSessions ticket) h u = absurd h
at_secrets U E F S (NoSecrets why) h u = u

pub is_secrets : (E : SecretsFault → Type 0) (f : Fault) → IsSecretsFault E f → IsAmong [] f ⊎ IsOfRun f
is_secrets E Memory h = absurd h
is_secrets E (Text fault) h = absurd h
is_secrets E (Refused why said) h = absurd h
is_secrets E (NoSuchOffice offices) h = absurd h
is_secrets E (NoAddress office) h = absurd h
is_secrets E (NoJournal office) h = absurd h
is_secrets E (NoPlace name why) h = absurd h
is_secrets E (NoRun cause) h = absurd h
is_secrets E (CutShort cause) h = absurd h
is_secrets E (WriteFailed cause) h = absurd h
is_secrets E (FileFailed name cause) h = absurd h
is_secrets E (NoStore why) h = absurd h
is_secrets E StoreFailed h = absurd h
is_secrets E (OtherSessions ticket) h = absurd h
is_secrets E (NoSecrets why) h = inr (inr (inr tt))

-- ---- what a fault says

module _ (P : Fault → Type 0) (asked : List Input) where
  named : (f : Fault) → IsNoOffice f → IsAmong asked f ⊎ (IsOfOffice f ⊎ P f)
  named Memory h = inl tt
  named (Text fault) h = absurd h
  named (Refused why said) h = absurd h
  named (NoSuchOffice offices) h = inr (inl tt)
  named (NoAddress office) h = absurd h
  named (NoJournal office) h = absurd h
  named (NoPlace name why) h = absurd h
  named (NoRun cause) h = absurd h
  named (CutShort cause) h = absurd h
  named (WriteFailed cause) h = absurd h
  named (FileFailed name cause) h = absurd h
  named (NoStore why) h = absurd h
  named StoreFailed h = absurd h
  named (OtherSessions ticket) h = absurd h
  named (NoSecrets why) h = absurd h

  met : (p : PlanValue) (v : ℕ) (f : Fault) → IsUnreached p v f → IsAmong asked f ⊎ (IsOfOffice f ⊎ P f)
  met p v Memory h = inl tt
  met p v (Text fault) h = absurd h
  met p v (Refused why said) h = absurd h
  met p v (NoSuchOffice offices) h = absurd h
  met p v (NoAddress office) h = inr (inl tt)
  met p v (NoJournal office) h = absurd h
  met p v (NoPlace name why) h = absurd h
  met p v (NoRun cause) h = absurd h
  met p v (CutShort cause) h = absurd h
  met p v (WriteFailed cause) h = absurd h
  met p v (FileFailed name cause) h = absurd h
  met p v (NoStore why) h = absurd h
  met p v StoreFailed h = absurd h
  met p v (OtherSessions ticket) h = absurd h
  met p v (NoSecrets why) h = absurd h

  pub asked_for : (p : PlanValue) (o : Option ℕ) (f : Fault) → SaysOf p NoOther o f → IsAmong asked f ⊎ (IsOfOffice f ⊎ P f)
  asked_for p None f h = named f h
  asked_for p (Some me) f (inl (v, e, h)) = met p v f h
  asked_for p (Some me) f (inr (reached, h)) = absurd h

pub says_more : (p : PlanValue) (P : Fault → Type 0) (o : Option ℕ) (f : Fault) → SaysOf p NoOther o f → SaysOf p P o f
says_more p P None f h = h
says_more p P (Some me) f (inl h) = inl h
says_more p P (Some me) f (inr (reached, h)) = absurd h

-- P holds of the faults that come besides
module _ (P : Fault → Type 0) (files : List ℕ → Option (List ℕ)) (word : List ℕ) where
  -- a fault says what is so of the texts of these words, whichever are known
  abbrev pub SaysRun : Unread → List (List ℕ) → Fault → Type 0
  SaysRun u words f = (texts : List (List ℕ)) (n : ℕ) → HaveTexts files u (take n words) (take n texts) → JudgesOffice P word (take n texts) f

  -- at the plan
  pub at_plan : (u : Unread) (a b : List ℕ) (f : Fault)
      → IsFaultAt inputs.Plan (RefusesWord files u a nothing) f
      → SaysRun u (a ∷ b ∷ []) f
  at_plan u a b f h texts zero has = inl (among (inputs.Plan ∷ inputs.Sessions ∷ []) inputs.Plan (RefusesWord files u a nothing) f (0, omega arith, refl) h)
  at_plan u a b f h [] (suc n) has = absurd has
  at_plan u a b f h (text ∷ texts) (suc n) (after, has, more) = inl (weaker inputs.Plan (RefusesWord files u a nothing) (Refuses nothing text) f (λ why refused. refused text after has) h)

  -- at OFFICE
  pub at_word : (u v : Unread) (a b : List ℕ) (p : PlanValue) (f : Fault) → TakesPlan files u a v p → SaysOf p NoOther (office_named p word) f
      → SaysRun u (a ∷ b ∷ []) f
  at_word u v a b p f taken h texts zero has = asked_for P (inputs.Plan ∷ inputs.Sessions ∷ []) p (office_named p word) f h
  at_word u v a b p f taken h [] (suc n) has = absurd has
  at_word u v a b p f taken h (text ∷ texts) (suc n) (after, has, more) =
      inr (p, (taken text after has).0, says_more p _ (office_named p word) f h)

  later_first : (f : Fault) → IsAmong (inputs.Sessions ∷ []) f ⊎ P f → IsAmong (inputs.Plan ∷ inputs.Sessions ∷ []) f ⊎ (IsOfOffice f ⊎ P f)
  later_first f (inl h) = inl (among_more inputs.Plan (inputs.Sessions ∷ []) f h)
  later_first f (inr h) = inr (inr h)

  -- at the sessions, or later
  pub at_later : (u v : Unread) (a b : List ℕ) (p : PlanValue) (me : ℕ) (f : Fault) → TakesPlan files u a v p → office_named p word ≡ Some me → IsReached p me
      → SaysTexts P files v (b ∷ []) (record nothing { plan = Some p }) (inputs.Sessions ∷ []) f
      → SaysRun u (a ∷ b ∷ []) f
  at_later u v a b p me f taken e reached later texts zero has = later_first f (later [] 0 tt)
  at_later u v a b p me f taken e reached later [] (suc n) has = absurd has
  at_later u v a b p me f taken e reached later (text ∷ texts) (suc n) (after, has, more) =
      let it = taken text after has in
      let rest = later texts n (subst (λ s. HaveTexts files s (take n (b ∷ [])) (take n texts)) (sym it.1) more) in
      let known = record nothing { plan = Some p } in
      inr (p, it.0, subst (λ o. SaysOf p (Judges P known (inputs.Sessions ∷ []) (take n texts)) o f) (sym e) (inr (reached, rest)))

  pub judged : (standard : Option (List ℕ)) (u : Unread) (a b : List ℕ) (f : Fault) → u ≡ unread standard (a ∷ b ∷ [])
      → SaysRun u (a ∷ b ∷ []) f → IsJudgedOffice P files standard a word b f
  judged standard u a b f e says texts n known =
      says texts n (subst (λ s. HaveTexts files s (take n (a ∷ b ∷ [])) (take n texts)) (sym e) known.1)

-- ---- the end

pub err_more : {A : Type 0} (r : Result A Fault) (P Q : Fault → Type 0) → ((f : Fault) → P f → Q f) → IfErr r P → IfErr r Q
err_more (Ok x) P Q k h = tt
err_more (Err f) P Q k h = k f h

pub err_both : {A : Type 0} (r : Result A Fault) (P Q S : Fault → Type 0) → ((f : Fault) → P f → Q f → S f) → IfErr r P → IfErr r Q → IfErr r S
err_both (Ok x) P Q S k h j = tt
err_both (Err f) P Q S k h j = k f h j

pub ok_more : {A : Type 0} (r : Result A Fault) (P Q : A → Type 0) → ((x : A) → P x → Q x) → IfOk r P → IfOk r Q
ok_more (Ok x) P Q k h = k x h
ok_more (Err f) P Q k h = tt

pub on_three : {A : Type 0} (r : Result A Fault) (P Q R S : Type 0) → (P → Q → R → S) → OnOk r P → OnOk r Q → OnOk r R → OnOk r S
on_three (Ok x) P Q R S k h j l = k h j l
on_three (Err f) P Q R S k h j l = tt

pub one_at_most : (left : ℕ) → status_with left ≤ 1
one_at_most zero = omega arith
one_at_most (suc n) = omega arith

-- whether there is a word, and whether there are its bytes
pub is_some_copied : (o : Option (Bor (List ℕ))) → is_some o ≡ is_some (option_copied o)
is_some_copied None = refl
is_some_copied (Some x) = refl
