-- Texts that aren't written by an office of any of its journals.
use Rattle.std.proofs.Common.{◌≡◌, ℕ, Bool, List, [], ◌∷◌, ◌++◌, length, take, drop, true, false, Result, Ok, Err, refl, sym, ap, subst, ◌∙◌, arith, length-append}
use Rattle.std.specs.Prelude.{IfErr}
use Rattle.office_map.specs.PlanValue.{PlanValue}
use Rattle.session_meaning.specs.ProgramValue.{ProgramValue}
use Rattle.office_journal.specs.declared.event.Entry.{Entry}
use Rattle.site_core.specs.Journals.{Site, IsLegal}
use Rattle.journal_texts.specs.declared.fault.JournalRefusal.{JournalRefusal}
use Rattle.journal_texts.specs.JournalText.{IsJournal, RefusesJournal, ATextIsOneJournal, AFaultyTextIsNoJournal}
use Rattle.journal_texts.specs.Written.{journal_text}
use Rattle.journal_texts.specs.Growing.{has_end, IsCutAfterLines}
use Rattle.site_core.specs.Reopening.{site_with}
use Rattle.office_stations.specs.Rounds.{of_office}
use Rattle.stored_runs.specs.declared.fault.KeptFault.{KeptFault}
use Rattle.stored_runs.specs.declared.fault.KeptFault.TheVariants as fault
use Rattle.stored_runs.specs.Keeping.{HasText, IsFound, IsNoText, IsNotKept, submitted}
use Rattle.stored_runs.specs.refinement.Reading.{IsOffice, IsNoOffice, IsOtherText}
use Rattle.stored_runs.specs.refinement.Submits.{IsOtherOf}

-- it has a fault
pub faulty : AFaultyTextIsNoJournal → (p : PlanValue) (me : ℕ) (text : List ℕ) (r : JournalRefusal) → RefusesJournal p text r → IsNoText p me text
faulty law p me text r refused = λ es legal journal same. law p text r me es true refused journal

module _ (law : ATextIsOneJournal) (p : PlanValue) (me : ℕ) (text : List ℕ) (office : ℕ) (entries : List Entry) (ends : Bool) (read : IsJournal p text office entries ends) where
  -- it is another office's
  pub of_another : (office ≡ me → ⊥) → IsNoText p me text
  of_another other = λ es legal journal same. other (law p text office me entries es ends true read journal).offices

  -- a frame in it is spelled by no bytes
  pub without_end : ends ≡ false → IsNoText p me text
  without_end none = λ es legal journal same. let yes : ends ≡ true = (law p text office me entries es ends true read journal).ways in cc (yes, none)

  -- the office doesn't give these entries
  pub not_given : (IsLegal (site_with p me entries) → ⊥) → IsNoText p me text
  not_given never = λ es legal journal same. never (subst (λ l. IsLegal (site_with p me l)) (sym (law p text office me entries es ends true read journal).lists) legal)

  -- it isn't written so
  pub other_text : (text ≡ journal_text p me entries → ⊥) → IsNoText p me text
  other_text other = λ es legal journal same. other (same ∙ subst (λ l. journal_text p me es ≡ journal_text p me l) (sym (law p text office me entries es ends true read journal).lists) refl)

-- it isn't the text of the office that was opened with what was read
pub unlike : {A : Type 0} (p : PlanValue) (me : ℕ) (text : List ℕ) (office : ℕ) (entries given : List Entry) (ends : Bool) (r : Result A KeptFault) → ATextIsOneJournal → IsJournal p text office entries ends → given ≡ entries → IfErr r (IsOtherText p me text given) → IfErr r (IsNoOffice p me text)
unlike p me text office entries given ends (Ok x) law read same h = tt
unlike p me text office entries given ends (Err fault.Memory) law read same h = tt
unlike p me text office entries given ends (Err (fault.Faulty line why)) law read same h = other_text law p me text office entries ends read (subst (λ l. text ≡ journal_text p me l → ⊥) same h)
unlike p me text office entries given ends (Err (fault.OtherSessions ticket)) law read same h = absurd h

-- ---- what was found

drop_front : {A : Type 0} (xs ys : List A) → drop (length xs) (xs ++ ys) ≡ ys
drop_front [] ys = refl
drop_front (x ∷ xs) ys = drop_front xs ys

take_front : {A : Type 0} (xs ys : List A) → take (length xs) (xs ++ ys) ≡ xs
take_front [] ys = refl
take_front (x ∷ xs) ys = ap (λ l. x ∷ l) (take_front xs ys)

pub is_found : (p : PlanValue) (me : ℕ) (found whole rest : List ℕ) (s : Site) (next : ℕ) → IsCutAfterLines found whole rest → IsOffice p me whole s → IsFound p me found (record { site = s; bytes = length whole; next = next })
is_found p me found whole rest s next cut o = record {
  plan = o.plan;
  office = o.office;
  legal = o.legal;
  within = omega (arith, ap length cut.parts, length-append whole rest);
  text = subst (λ l. HasText p me l s.entries) (sym (ap (take (length whole)) cut.parts ∙ take_front whole rest)) o.has;
  torn = ap has_end (ap (drop (length whole)) cut.parts ∙ drop_front whole rest) ∙ cut.torn;
}

-- the sessions are others
pub other_sessions : (p : PlanValue) (me : ℕ) (programs : List ProgramValue) (found whole rest : List ℕ) (s : Site) (f : KeptFault) → IsCutAfterLines found whole rest → IsOffice p me whole s → IsOtherOf (submitted s.entries) (of_office me programs) f → IsNotKept p me programs found f
other_sessions p me programs found whole rest s fault.Memory cut o h = tt
other_sessions p me programs found whole rest s (fault.Faulty line why) cut o h = absurd h
other_sessions p me programs found whole rest s (fault.OtherSessions ticket) cut o h = (record { site = s; bytes = length whole; next = 0 }, is_found p me found whole rest s 0 cut o, h)
