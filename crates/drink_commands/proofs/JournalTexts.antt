-- What is so of the texts of journals that are read one after another, those that are known.
use Rattle.std.proofs.Common.{◌≡◌, ◌⊎◌, ◌+◌, ◌-◌, ◌<◌, ◌≤◌, ℕ, zero, suc, List, [], ◌∷◌, ◌++◌, length, take, Contains, Option, None, Some, Bool, true, false, if◌then◌else◌, refl, sym, subst, ap, ◌∙◌, append_assoc, arith, inl, inr}
use Rattle.std.specs.Prelude.{IfNone, IfSome, is_some}
use Rattle.std.proofs.lemmas.List.{append-nil}
use Rattle.host_files.specs.inputs.Words.{HaveTexts, Unread, unread}
use Rattle.office_map.specs.PlanValue.{PlanValue}
use Rattle.frame_world.specs.Worlds.{World}
use Rattle.command_outputs.specs.Journals.{File}
use Rattle.journal_weave.specs.declared.given.GivenJournal.{GivenJournal}
use Rattle.day_audits.specs.audit.Gathering.{AreGathered, AreJournals, Lacks}
use Rattle.day_audits.specs.audit.Gathered.{Gathered}
use Rattle.day_audits.specs.audit.Following.{Gathers, TellsOf}
use Rattle.session_reports.specs.declared.form.forms.Form.{Form}
use Rattle.day_audits.specs.audit.Findings.{TellsWoven, TellsUnwoven}
use Rattle.serial_command.specs.declared.reading.input.Input.{Input}
use Rattle.serial_command.specs.declared.reading.input.Input.TheVariants as inputs
use Rattle.command_outputs.specs.declared.fault.Fault.{Fault}
use Rattle.command_outputs.specs.declared.fault.Fault.TheVariants.{Memory, Text, Refused, NoSuchOffice, NoAddress, NoJournal, NoPlace, NoRun, CutShort, WriteFailed, FileFailed, NoStore, StoreFailed, OtherSessions, NoSecrets}
use Rattle.drink_commands.specs.Audit.{Tells, IsJudgedAudit, JudgesJournals, RefusesJournal, SaysAfter, IsLacking, journal_inputs}
use Rattle.command_outputs.specs.Fault.{IsAmong, IsFaultAt, IsNoJournal}
use Rattle.drink_commands.specs.Texts.{Refuses, nothing}
use Rattle.drink_commands.specs.refinement.Journals.{GathersFirst, IsNamed, RefusesOne, SaysAudit, SaysFrom, SaysJournals, SaysOne, TakesAll, TakesOne, TellsAudit, WritesFound}
use Rattle.day_audits.specs.audit.GatheringLaws.{none_gathered}
use Rattle.drink_commands.proofs.Faults.{RefusesWord, TakesPlan, among, among_more, weaker}

-- ---- lists

-- an element after others
snoc_append : (xs ys : List (List ℕ)) (x : List ℕ) → (xs ++ x ∷ []) ++ ys ≡ xs ++ x ∷ ys
snoc_append xs ys x = append_assoc xs (x ∷ []) ys

length_snoc : (xs : List (List ℕ)) (x : List ℕ) → length (xs ++ x ∷ []) ≡ length xs + 1
length_snoc [] x = omega arith
length_snoc (y ∷ ys) x = let e = length_snoc ys x in omega (arith, e)

place_within : (before rest : List (List ℕ)) (text : List ℕ) (place : ℕ) → length before ≡ place → place < length (before ++ text ∷ rest)
place_within [] rest text place e = subst (λ n. n < length (text ∷ rest)) e (omega arith)
place_within (x ∷ xs) rest text place e =
    let it = place_within xs rest text (length xs) refl in
    subst (λ n. n < length ((x ∷ xs) ++ text ∷ rest)) e (omega (arith, it))

-- ---- what a fault says once texts are gathered

-- it is of no input
pub after_all : (p : PlanValue) (texts : List (List ℕ)) (asked : List Input) (f : Fault) → IsAmong [] f → SaysAfter p texts asked f
after_all p texts [] f h = inl h
after_all p texts (input ∷ asked) f h = inl (more (input ∷ asked) f h)
  where
    more : (asked : List Input) (f : Fault) → IsAmong [] f → IsAmong asked f
    more [] f h = h
    more (x ∷ xs) f h = among_more x xs f (more xs f h)

-- at a journal after the first
pub among_next : (place n k : ℕ) (f : Fault) → n + 1 ≡ k → IsAmong (journal_inputs (place + 1) n) f → IsAmong (journal_inputs place k) f
among_next place n k f e h =
    let size : suc n ≡ k = omega (arith, e) in
    let at : place + 1 ≡ suc place = omega arith in
    subst (λ m. IsAmong (journal_inputs place m) f) size (among_more (inputs.Journal place) (journal_inputs (suc place) n) f (subst (λ m. IsAmong (journal_inputs m n) f) at h))

nothing_contains : (x : Input) → Contains [] x → ⊥
nothing_contains x (k, lt, e) = omega (arith, lt)

module _ (files : List ℕ → Option (List ℕ)) (p : PlanValue) where
  -- ---- gathered

  -- the texts of the first of the words, whichever are known
  pub first_gathered : (n : ℕ) (words texts : List (List ℕ)) (u : Unread) (slots : Gathered) (v : Unread) (filled : Gathered) → TakesAll files p u words slots v filled
      → (before : List (List ℕ)) → Gathers p before slots → HaveTexts files u (take n words) (take n texts)
      → (some : Gathered) × Gathers p (before ++ take n texts) some
  first_gathered zero words texts u slots v filled taken before h has = (slots, subst (λ ts. Gathers p ts slots) (sym (append-nil before)) h)
  first_gathered (suc n) [] [] u slots v filled taken before h has = (slots, subst (λ ts. Gathers p ts slots) (sym (append-nil before)) h)
  first_gathered (suc n) [] (text ∷ texts) u slots v filled taken before h has = absurd has
  first_gathered (suc n) (word ∷ words) [] u slots v filled taken before h has = absurd has
  first_gathered (suc n) (word ∷ words) (text ∷ texts) u slots v filled (mid, more, one, rest) before h (after, has, others) =
      let it = one text after has in
      let found = first_gathered n words texts mid more v filled rest (before ++ text ∷ []) (it.1 before h) (subst (λ s. HaveTexts files s (take n words) (take n texts)) (sym it.0) others) in
      (found.0, subst (λ ts. Gathers p ts found.0) (snoc_append before (take n texts) text) found.1)

  -- those of all
  pub all_gathered : (words texts : List (List ℕ)) (u : Unread) (slots : Gathered) (v : Unread) (filled : Gathered) → TakesAll files p u words slots v filled
      → (before : List (List ℕ)) → Gathers p before slots → HaveTexts files u words texts → Gathers p (before ++ texts) filled
  all_gathered [] [] u slots v filled taken before h has = subst (Gathers p (before ++ [])) (sym taken.1) (subst (λ ts. Gathers p ts slots) (sym (append-nil before)) h)
  all_gathered [] (text ∷ texts) u slots v filled taken before h has = absurd has
  all_gathered (word ∷ words) [] u slots v filled taken before h has = absurd has
  all_gathered (word ∷ words) (text ∷ texts) u slots v filled (mid, more, one, rest) before h (after, has, others) =
      let it = one text after has in
      subst (λ ts. Gathers p ts filled) (snoc_append before texts text)
      (all_gathered words texts mid more v filled rest (before ++ text ∷ []) (it.1 before h) (subst (λ s. HaveTexts files s words texts) (sym it.0) others))

  -- ---- faults

  -- none of the texts is known yet
  none_known : (place count : ℕ) (slots : Gathered) (before : List (List ℕ)) (f : Fault) → Gathers p before slots → length before ≡ place
      → IsAmong (journal_inputs place (suc count)) f → JudgesJournals p (place + suc count) (before ++ []) f
  none_known place count slots before f h e among =
      let at : length (before ++ []) ≡ place = ap length (append-nil before) ∙ e in
      let left : (place + suc count) - length (before ++ []) ≡ suc count = omega (arith, at) in
      inr (
        h.journals,
        subst (λ ts. AreGathered p ts h.journals) (sym (append-nil before)) h.gathered,
        subst (λ n. SaysAfter p (before ++ []) (journal_inputs (length (before ++ [])) n) f) (sym left)
            (subst (λ n. SaysAfter p (before ++ []) (journal_inputs n (suc count)) f) (sym at) (inl among)),
      )

  -- at the first of the words
  pub one_among : (u : Unread) (word : List ℕ) (place count : ℕ) (slots : Gathered) (f : Fault) → SaysOne files p u word place slots f
      → IsAmong (journal_inputs place (suc count)) f
  one_among u word place count slots f h = among (journal_inputs place (suc count)) (inputs.Journal place) (RefusesOne files p u word place slots) f (0, omega arith, refl) h

  pub says_first : (u : Unread) (word : List ℕ) (words : List (List ℕ)) (place : ℕ) (slots : Gathered) (f : Fault) → SaysOne files p u word place slots f
      → SaysJournals files p u (word ∷ words) place slots f
  says_first u word words place slots f h before gathered e texts zero has =
      none_known place (length words) slots before f gathered e (one_among u word place (length words) slots f h)
  says_first u word words place slots f h before gathered e [] (suc n) has = absurd has
  says_first u word words place slots f h before gathered e (text ∷ texts) (suc n) (after, has, others) =
      inl (
        place,
        place_within before (take n texts) text place e,
        weaker (inputs.Journal place) (RefusesOne files p u word place slots) (RefusesJournal p (before ++ text ∷ take n texts) place) f (λ why refused. refused text after has before (take n texts) gathered e) h,
      )

  -- at a later one
  pub says_next : (u : Unread) (word : List ℕ) (words : List (List ℕ)) (place : ℕ) (slots : Gathered) (v : Unread) (more : Gathered) (f : Fault)
      → TakesOne files p u word slots v more → IsAmong (journal_inputs (place + 1) (length words)) f → SaysJournals files p v words (place + 1) more f
      → SaysJournals files p u (word ∷ words) place slots f
  says_next u word words place slots v more f one later says before gathered e texts zero has =
      none_known place (length words) slots before f gathered e (among_more (inputs.Journal place) (journal_inputs (suc place) (length words)) f
      (subst (λ n. IsAmong (journal_inputs n (length words)) f) (let at : place + 1 ≡ suc place = omega arith in at) later))
  says_next u word words place slots v more f one later says before gathered e [] (suc n) has = absurd has
  says_next u word words place slots v more f one later says before gathered e (text ∷ texts) (suc n) (after, has, others) =
      let it = one text after has in
      let at : length (before ++ text ∷ []) ≡ place + 1 = length_snoc before text ∙ ap (λ n. n + 1) e in
      let found = says (before ++ text ∷ []) (it.1 before gathered) at texts n (subst (λ s. HaveTexts files s (take n words) (take n texts)) (sym it.0) others) in
      let count : place + 1 + length words ≡ place + suc (length words) = omega arith in
      subst (λ ts. JudgesJournals p (place + suc (length words)) ts f) (snoc_append before (take n texts) text)
      (subst (λ k. JudgesJournals p k ((before ++ text ∷ []) ++ take n texts) f) count found)

  -- all are gathered, and it comes after them
  pub says_later : (u : Unread) (words : List (List ℕ)) (f : Fault) → GathersFirst files p u words → IsAmong [] f → SaysFrom files p u words f
  says_later u words f gathers h texts n has =
      let it = gathers texts n has in
      inr (it.1.journals, it.1.gathered, after_all p (take n texts) _ f h)

  same_count : (words texts : List (List ℕ)) (u : Unread) → HaveTexts files u words texts → length words ≡ length texts
  same_count [] [] u has = refl
  same_count [] (text ∷ texts) u has = absurd has
  same_count (word ∷ words) [] u has = absurd has
  same_count (word ∷ words) (text ∷ texts) u (after, has, others) = ap suc (same_count words texts after others)

  -- an office's journal isn't there
  full_take : (n : ℕ) (words : List (List ℕ)) → length words ≤ length (take n words) → take n words ≡ words
  full_take zero [] h = refl
  full_take zero (word ∷ words) h = absurd (omega (arith, h))
  full_take (suc n) [] h = refl
  full_take (suc n) (word ∷ words) h = ap (λ ws. word ∷ ws) (full_take n words (omega (arith, h)))

  named_after : (a : ℕ) (texts : List (List ℕ)) (asked : List Input) (f : Fault) → IsNamed p a f → (asked ≡ [] → Lacks p texts a) → SaysAfter p texts asked f
  named_after a texts [] Memory h lacks = inl tt
  named_after a texts [] (NoJournal name) h lacks = inr (a, lacks refl, h)
  named_after a texts [] (Text fault) h lacks = absurd h
  named_after a texts [] (Refused why said) h lacks = absurd h
  named_after a texts [] (NoSuchOffice offices) h lacks = absurd h
  named_after a texts [] (NoAddress office) h lacks = absurd h
  named_after a texts [] (NoRun cause) h lacks = absurd h
  named_after a texts [] (NoPlace name why) h lacks = absurd h
  named_after a texts [] (CutShort cause) h lacks = absurd h
  named_after a texts [] (WriteFailed cause) h lacks = absurd h
  named_after a texts [] (FileFailed name cause) h lacks = absurd h
  named_after a texts [] (NoStore why) h lacks = absurd h
  named_after a texts [] StoreFailed h lacks = absurd h
  named_after a texts [] (OtherSessions ticket) h lacks = absurd h
  named_after a texts [] (NoSecrets why) h lacks = absurd h
  named_after a texts (x ∷ xs) Memory h lacks = inl tt
  named_after a texts (x ∷ xs) (NoJournal name) h lacks = inr tt
  named_after a texts (x ∷ xs) (Text fault) h lacks = absurd h
  named_after a texts (x ∷ xs) (Refused why said) h lacks = absurd h
  named_after a texts (x ∷ xs) (NoSuchOffice offices) h lacks = absurd h
  named_after a texts (x ∷ xs) (NoAddress office) h lacks = absurd h
  named_after a texts (x ∷ xs) (NoRun cause) h lacks = absurd h
  named_after a texts (x ∷ xs) (NoPlace name why) h lacks = absurd h
  named_after a texts (x ∷ xs) (CutShort cause) h lacks = absurd h
  named_after a texts (x ∷ xs) (WriteFailed cause) h lacks = absurd h
  named_after a texts (x ∷ xs) (FileFailed name cause) h lacks = absurd h
  named_after a texts (x ∷ xs) (NoStore why) h lacks = absurd h
  named_after a texts (x ∷ xs) StoreFailed h lacks = absurd h
  named_after a texts (x ∷ xs) (OtherSessions ticket) h lacks = absurd h
  named_after a texts (x ∷ xs) (NoSecrets why) h lacks = absurd h

  is_nought : (place count : ℕ) → journal_inputs place count ≡ [] → count ≡ 0
  is_nought place zero e = refl
  is_nought place (suc n) e = absurd (let no : ◌≡◌ {A = List Input} (inputs.Journal place ∷ journal_inputs (suc place) n) [] = e in cc)

  pub says_missing : (u : Unread) (words : List (List ℕ)) (slots : Gathered) (v : Unread) (filled : Gathered) (a : ℕ) (f : Fault) → TakesAll files p u words slots v filled
      → Gathers p [] slots → ((texts : List (List ℕ)) → Gathers p texts filled → Lacks p texts a) → IsNamed p a f → SaysFrom files p u words f
  says_missing u words slots v filled a f taken h lacks named texts n has =
      let it = first_gathered n words texts u slots v filled taken [] h has in
      let count = same_count (take n words) (take n texts) u has in
      inr (
        it.1.journals,
        it.1.gathered,
        named_after a (take n texts) _ f named (λ none.
            let nought = is_nought (length (take n texts)) (length words - length (take n texts)) none in
            let whole = full_take n words (omega (arith, count, nought)) in
            lacks (take n texts) (all_gathered words (take n texts) u slots v filled taken [] h (subst (λ ws. HaveTexts files u ws (take n texts)) whole has))),
      )

  -- memory ran out, and nothing is said
  memory_says : (count : ℕ) (texts : List (List ℕ)) → JudgesJournals p count texts Memory
  memory_says count [] =
      let gathered = none_gathered p in
      inr (gathered.0, gathered.1, after_all p [] _ Memory tt)
  memory_says count (text ∷ texts) = inl (0, omega arith, tt)

  pub says_memory : (u : Unread) (words : List (List ℕ)) → SaysFrom files p u words Memory
  says_memory u words texts n has = memory_says (length words) (take n texts)

  -- of the first word on
  pub says_from : (u : Unread) (words : List (List ℕ)) (slots : Gathered) (f : Fault) → Gathers p [] slots → SaysJournals files p u words 0 slots f → SaysFrom files p u words f
  says_from u words slots f h says texts n has =
      let count : 0 + length words ≡ length words = omega arith in
      subst (λ k. JudgesJournals p k (take n texts) f) count (says [] h refl texts n has)

-- ---- the command

module _ (files : List ℕ → Option (List ℕ)) where
  pub at_plan : (u : Unread) (a : List ℕ) (words : List (List ℕ)) (f : Fault)
      → IsFaultAt inputs.Plan (RefusesWord files u a nothing) f → SaysAudit files u a words f
  at_plan u a words f h texts zero has = inl (among (inputs.Plan ∷ journal_inputs 0 (length words)) inputs.Plan (RefusesWord files u a nothing) f (0, omega arith, refl) h)
  at_plan u a words f h [] (suc n) has = absurd has
  at_plan u a words f h (text ∷ texts) (suc n) (after, has, more) = inl (weaker inputs.Plan (RefusesWord files u a nothing) (Refuses nothing text) f (λ why refused. refused text after has) h)

  is_no_journal : (p : PlanValue) (texts : List (List ℕ)) (f : Fault) → IsLacking p texts f → IsNoJournal f
  is_no_journal p texts Memory h = h
  is_no_journal p texts (NoJournal name) h = tt
  is_no_journal p texts (Text fault) h = h
  is_no_journal p texts (Refused why said) h = h
  is_no_journal p texts (NoSuchOffice offices) h = h
  is_no_journal p texts (NoAddress office) h = h
  is_no_journal p texts (NoRun cause) h = h
  is_no_journal p texts (NoPlace name why) h = h
  is_no_journal p texts (CutShort cause) h = h
  is_no_journal p texts (WriteFailed cause) h = h
  is_no_journal p texts (FileFailed name cause) h = h
  is_no_journal p texts (NoStore why) h = h
  is_no_journal p texts StoreFailed h = h
  is_no_journal p texts (OtherSessions ticket) h = h
  is_no_journal p texts (NoSecrets why) h = h

  after_plan : (p : PlanValue) (asked : List Input) (f : Fault) → SaysAfter p [] asked f → IsAmong (inputs.Plan ∷ asked) f ⊎ IsNoJournal f
  after_plan p [] f (inl h) = inl (among_more inputs.Plan [] f h)
  after_plan p [] f (inr h) = inr (is_no_journal p [] f h)
  after_plan p (x ∷ xs) f (inl h) = inl (among_more inputs.Plan (x ∷ xs) f h)
  after_plan p (x ∷ xs) f (inr h) = inr h

  none_given : (p : PlanValue) (count : ℕ) (f : Fault) → JudgesJournals p count [] f → IsAmong (inputs.Plan ∷ journal_inputs 0 count) f ⊎ IsNoJournal f
  none_given p count f (inl (place, lt, h)) = absurd (omega (arith, lt))
  none_given p count f (inr (slots, gathered, h)) =
      let all : count - 0 ≡ count = omega arith in
      after_plan p (journal_inputs 0 count) f (subst (λ n. SaysAfter p [] (journal_inputs 0 n) f) all h)

  pub at_journals : (u v : Unread) (a : List ℕ) (words : List (List ℕ)) (p : PlanValue) (f : Fault) → TakesPlan files u a v p → SaysFrom files p v words f → SaysAudit files u a words f
  at_journals u v a words p f taken says texts zero has = none_given p (length words) f (says [] 0 tt)
  at_journals u v a words p f taken says [] (suc n) has = absurd has
  at_journals u v a words p f taken says (text ∷ texts) (suc n) (after, has, more) =
      let it = taken text after has in
      inr (p, it.0, says texts n (subst (λ s. HaveTexts files s (take n words) (take n texts)) (sym it.1) more))

  pub judged : (standard : Option (List ℕ)) (u : Unread) (a : List ℕ) (words : List (List ℕ)) (f : Fault) → u ≡ unread standard (a ∷ words)
      → SaysAudit files u a words f → IsJudgedAudit files standard a words f
  judged standard u a words f e says texts n known =
      says texts n (subst (λ s. HaveTexts files s (take n (a ∷ words)) (take n texts)) (sym e) known.1)

  -- what the journals tell that are gathered under the plan
  pub audited : (form : Form) (u v : Unread) (a : List ℕ) (words : List (List ℕ)) (p : PlanValue) (g : Gathered) (found : Option World) (printed : List ℕ)
      → TakesPlan files u a v p → ((texts : List (List ℕ)) → HaveTexts files v words texts → Gathers p texts g)
      → IfSome found (λ w. TellsOf (TellsWoven form w) g printed) → IfNone found (TellsOf (TellsUnwoven form) g printed)
      → TellsAudit files form u a words found printed
  audited form u v a words p g found printed plan gathers woven unwoven a_text texts (after, has, more) next unfinished status old new kept left is written leaves =
      let it = plan a_text after has in
      let h = gathers texts (subst (λ s. HaveTexts files s words texts) (sym it.1) more) in
      let t = tells h found woven unwoven is leaves in
      record {
        p = p;
        journals = t.0;
        printed = printed;
        is_plan = it.0;
        are_journals = t.1;
        told = t.2;
        written = written;
      }
    where
      tells : Gathers p texts g → (found : Option World) → IfSome found (λ w. TellsOf (TellsWoven form w) g printed) → IfNone found (TellsOf (TellsUnwoven form) g printed)
          → status ≡ (if is_some found then 0 else 1) → WritesFound next unfinished found kept left → (journals : List GivenJournal) × AreJournals p texts journals × Tells form next unfinished p journals printed status kept left
      tells h (Some w) so not_so is leaves = let t = so p texts h in (t.0, t.1, inl (w, t.2, is, leaves))
      tells h None so not_so is leaves = let t = not_so p texts h in (t.0, t.1, inr (t.2, is, leaves))

pub at_most_one : (woven : Bool) (status : ℕ) → status ≡ (if woven then 0 else 1) → status ≤ 1
at_most_one true status e = omega (arith, e)
at_most_one false status e = omega (arith, e)
