-- What a command wrote is what its texts mean.
use Rattle.std.proofs.Common.{◌≡◌, ℕ, Bool, List, [], ◌∷◌, length, map, get_or, Option, Some, is_some, IfSome, sym, subst}
use Rattle.std.specs.String.{string_bytes}
use Rattle.std.specs.Io.KnownBytes.{Appends}
use Rattle.host_files.specs.inputs.Words.{HasText, HaveTexts, StandFor, Unread, unread}
use Rattle.office_map.specs.PlanValue.{PlanValue, office_named}
use Rattle.session_meaning.specs.ProgramValue.{ProgramValue}
use Rattle.session_reports.specs.declared.form.forms.Form.{Form}
use Rattle.frame_world.specs.Worlds.{World, opening}
use Rattle.simulation.specs.scripts.Script.{Act}
use Rattle.simulation.specs.scripts.Runs.{run_of}
use Rattle.simulation.specs.scripts.Transcript.{transcript, IsSerialRun}
use Rattle.simulation.specs.random.Runs.{Tells}
use Rattle.drink_commands.specs.Random.{TellsRun}
use Rattle.session_reports.specs.declared.form.forms.Form.{Form}
use Rattle.office_runs.specs.Runs.{TellsCourse}
use Rattle.office_runs.specs.live.Courses.{TellsCourses}
use Rattle.office_runs.specs.declared.report.Ran.{Ran}
use Rattle.command_outputs.specs.Days.{WritesEndOf}
use Rattle.command_outputs.specs.Journals.{File, WritesFiles}
use Rattle.command_outputs.specs.Places.{IsIn, IsObstacle}
use Rattle.drink_commands.specs.Run.{IsReached, RefusesFile, RefusesFolder, WritesOffice, WritesOffices, WritesRan, are_wanted}
use Rattle.command_outputs.specs.declared.fault.Obstacle.{Obstacle}
use Rattle.socket_pump.specs.Wires.{Account}
use Rattle.drink_commands.specs.Simulation.{LeavesFiles, Simulates}
use Rattle.drink_commands.proofs.Faults.{TakesPlan, TakesScript, TakesSessions}

-- the words are those that were counted
pub started : (u : Unread) (bytes : Option (List ℕ)) (files : List ℕ → Option (List ℕ)) (words texts : List (List ℕ)) → u ≡ unread bytes words
    → StandFor files bytes words texts → HaveTexts files u words texts
started u bytes files words texts e h = subst (λ s. HaveTexts files s words texts) (sym e) h

pub ran : (form : Form) (files : List ℕ → Option (List ℕ)) (u v w : Unread) (a b a_text b_text : List ℕ) (p : PlanValue) (programs seen : List ProgramValue) (loss steps : ℕ)
    (old new : Option (List ℕ)) (printed : List ℕ) (world : World) (next_file unfinished : Option (List ℕ)) (kept left : Option (List File)) → TakesPlan files u a v p → TakesSessions files v b w p programs
    → HaveTexts files u (a ∷ b ∷ []) (a_text ∷ b_text ∷ []) → seen ≡ programs → Tells form p seen loss steps world printed → Appends old new printed → WritesEndOf seen next_file unfinished world kept left
    → TellsRun form a_text b_text loss steps next_file unfinished old new kept left
ran form files u v w a b a_text b_text p programs seen loss steps old new printed world next_file unfinished kept left plan sessions (after, has, (next, has_next, more)) same told written day =
    let it = plan a_text after has in
    record {
      both = record {
        p = p;
        programs = programs;
        is_plan = it.0;
        are_sessions = (sessions b_text next (subst (λ s. HasText files s b b_text next) (sym it.1) has_next)).0;
      };
      world = world;
      printed = printed;
      told = subst (λ ps. Tells form p ps loss steps world printed) same told;
      written = written;
      day = subst (λ ps. WritesEndOf ps next_file unfinished world kept left) same day;
    }

pub simulated : (form : Form) (files : List ℕ → Option (List ℕ)) (u v w x : Unread) (a b c a_text b_text c_text : List ℕ) (p : PlanValue)
    (programs : List ProgramValue) (acts run : List Act) (folder next_file unfinished : Option (List ℕ)) (old new : Option (List ℕ)) (kept left : Option (List File))
    → TakesPlan files u a v p → TakesSessions files v b w p programs → TakesScript files w c x p programs acts
    → HaveTexts files u (a ∷ b ∷ c ∷ []) (a_text ∷ b_text ∷ c_text ∷ [])
    → run ≡ acts → IsSerialRun (run_of (opening p) run) → Appends old new (transcript form p run)
    → LeavesFiles folder next_file unfinished (run_of (opening p) run) kept left → Simulates form a_text b_text c_text folder next_file unfinished old new kept left
simulated form files u v w x a b c a_text b_text c_text p programs acts run folder next_file unfinished old new kept left plan sessions script (after, has, (next, has_next, (last, has_last, more))) same serial written leaves =
    let it = plan a_text after has in
    let then_it = sessions b_text next (subst (λ s. HasText files s b b_text next) (sym it.1) has_next) in
    record {
      both = record { p = p; programs = programs; is_plan = it.0; are_sessions = then_it.0 };
      acts = acts;
      is_script = (script c_text last (subst (λ s. HasText files s c c_text last) (sym then_it.1) has_last)).0;
      written = subst (λ xs. Appends old new (transcript form p xs)) same written;
      serial = subst (λ xs. IsSerialRun (run_of (opening p) xs)) same serial;
      files = subst (λ xs. LeavesFiles folder next_file unfinished (run_of (opening p) xs) kept left) same leaves;
    }

-- ---- offices that run

pub ran_office : (Is : PlanValue → ℕ → Account → Type 0) (form : Form) (tells : Bool) (Free : PlanValue → ℕ → List ℕ → Type 0) (files : List ℕ → Option (List ℕ)) (u v w : Unread) (a word b a_text b_text : List ℕ) (p : PlanValue) (me : ℕ) (programs seen : List ProgramValue)
    (turns : ℕ) (file : Option (List ℕ)) (run : Ran) (old new : Option (List ℕ)) (kept left : Option (List File)) → TakesPlan files u a v p → office_named p word ≡ Some me → IsReached p me → TakesSessions files v b w p programs
    → HaveTexts files u (a ∷ b ∷ []) (a_text ∷ b_text ∷ []) → seen ≡ programs → IfSome file (Free p me) → TellsCourse (Is p me) form tells p me seen turns (is_some file) run → Appends old new (string_bytes run.text)
    → WritesFiles file (λ place. map (λ text. (place, string_bytes text)) run.journals.items) kept left
    → WritesOffice Is form tells Free a_text word b_text turns file run old new kept left
ran_office Is form tells Free files u v w a word b a_text b_text p me programs seen turns file run old new kept left plan e reached sessions (after, has, (next, has_next, more)) same free told written journal =
    let it = plan a_text after has in
    record {
      named = record {
        both = record {
          p = p;
          programs = programs;
          is_plan = it.0;
          are_sessions = (sessions b_text next (subst (λ s. HasText files s b b_text next) (sym it.1) has_next)).0;
        };
        me = me;
        is_office = e;
        is_reached = reached;
      };
      free = free;
      told = subst (λ ps. TellsCourse (Is p me) form tells p me ps turns (is_some file) run) same told;
      written = written;
      journal = journal;
    }

pub ran_offices : (form : Form) (tells : Bool) (Free : PlanValue → ℕ → List ℕ → Type 0) (files : List ℕ → Option (List ℕ)) (u v w : Unread) (a b a_text b_text : List ℕ) (p : PlanValue) (programs seen : List ProgramValue)
    (folder next_file unfinished : Option (List ℕ)) (run : Ran) (old new : Option (List ℕ)) (kept left : Option (List File)) → TakesPlan files u a v p → TakesSessions files v b w p programs
    → HaveTexts files u (a ∷ b ∷ []) (a_text ∷ b_text ∷ []) → seen ≡ programs → IfSome folder (Free p (length p.offices))
    → TellsCourses form tells p seen (are_wanted folder next_file unfinished) run → WritesRan p seen folder next_file unfinished run old new kept left
    → WritesOffices form tells Free a_text b_text folder next_file unfinished run old new kept left
ran_offices form tells Free files u v w a b a_text b_text p programs seen folder next_file unfinished run old new kept left plan sessions (after, has, (next, has_next, more)) same free told writes =
    let it = plan a_text after has in
    record {
      both = record {
        p = p;
        programs = programs;
        is_plan = it.0;
        are_sessions = (sessions b_text next (subst (λ s. HasText files s b b_text next) (sym it.1) has_next)).0;
      };
      free = free;
      told = subst (λ ps. TellsCourses form tells p ps (are_wanted folder next_file unfinished) run) same told;
      writes = subst (λ ps. WritesRan p ps folder next_file unfinished run old new kept left) same writes;
    }

-- ---- where journals have no place

pub file_refused : (files : List ℕ → Option (List ℕ)) (standard : Option (List ℕ)) (u v : Unread) (a word b : List ℕ) (p : PlanValue) (me : ℕ) (file : Option (List ℕ))
    → u ≡ unread standard (a ∷ b ∷ []) → TakesPlan files u a v p → office_named p word ≡ Some me
    → (name : List ℕ) (why : Obstacle) → (file ≡ Some name) × IsObstacle files a b p why me name → RefusesFile files standard a word b file name why
file_refused files standard u v a word b p me file e plan named name why found a_text b_text known =
    let (after, has, more) = started u standard files (a ∷ b ∷ []) (a_text ∷ b_text ∷ []) e known in
    (p, me, (plan a_text after has).0, named, found.0, found.1)

pub folder_refused : (files : List ℕ → Option (List ℕ)) (standard : Option (List ℕ)) (u v : Unread) (a b : List ℕ) (p : PlanValue) (folder : Option (List ℕ))
    → u ≡ unread standard (a ∷ b ∷ []) → TakesPlan files u a v p
    → (name : List ℕ) (why : Obstacle) → IfSome folder (λ place. IsIn files a b p place name why) → RefusesFolder files standard a b folder name why
folder_refused files standard u v a b p folder e plan name why found a_text b_text known =
    let (after, has, more) = started u standard files (a ∷ b ∷ []) (a_text ∷ b_text ∷ []) e known in
    (p, (plan a_text after has).0, found)
