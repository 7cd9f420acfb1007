-- What an office's socket told, in the words of its secrets.
use Rattle.std.proofs.Common.{◌≡◌, ℕ, Bool, List, Option, None, Some, Result, Ok, Err, refl, subst}
use Rattle.std.specs.Prelude.{IfOk}
use Rattle.office_map.specs.PlanValue.{PlanValue}
use Rattle.session_meaning.specs.ProgramValue.{ProgramValue}
use Rattle.locked_office.specs.Calls.{Key}
use Rattle.socket_pump.specs.Wires.{Account}
use Rattle.office_stations.specs.Rounds.{Standing}
use Rattle.session_reports.specs.declared.form.forms.Form.{Form}
use Rattle.office_runs.specs.Runs.{TellsCourse}
use Rattle.office_runs.specs.declared.report.Ran.{Ran}
use Rattle.stored_runs.specs.Keeping.{Keeping}
use Rattle.stored_runs.specs.Runs.{Goes, GoesOn}
use Rattle.stored_runs.specs.declared.ended.Ended.{Ended}
use Rattle.stored_runs.specs.declared.fault.StoredFault.{StoredFault}
use Rattle.serving.specs.Serving.{Serves}
use Rattle.serving.specs.declared.served.Served.{Served}
use Rattle.datagram_seals.specs.sockets.Sealed.{IsToldUnder}
use Rattle.drink_commands.specs.Sealed.{AreSecrets, IsUnderSeals}
use Rattle.drink_commands.specs.Stored.{IsKept, WentOn}
use Rattle.drink_commands.specs.Served.{HasServed, IsFoundIn}

pub ok_to : {A E : Type 0} (r : Result A E) (P Q : A → Type 0) → ((x : A) → P x → Q x) → IfOk r P → IfOk r Q
ok_to (Ok x) P Q k h = k x h
ok_to (Err e) P Q k h = tt

-- under the secrets of its file, where those were handed on
pub under_seals : {S : Type 0} (account : S → Account) (files : List ℕ → Option (List ℕ)) (file : Option (List ℕ)) (p : PlanValue) (me : ℕ) (secrets lent : Option (List (Option (List ℕ)))) → AreSecrets files p me file secrets → lent ≡ secrets → (a : Account) → IsToldUnder account lent a → IsUnderSeals account files file p me a
under_seals account files file p me secrets lent are same a told = (secrets, are, subst (λ o. IsToldUnder account o a) same told)

module _ (P Q : Account → Type 0) (more : (a : Account) → P a → Q a) where
  -- of a run
  pub course_as : (form : Form) (tells : Bool) (p : PlanValue) (me : ℕ) (programs : List ProgramValue) (turns : ℕ) (wanted : Bool) (ran : Ran) → TellsCourse P form tells p me programs turns wanted ran → TellsCourse Q form tells p me programs turns wanted ran
  course_as form tells p me programs turns wanted ran x = record {
    first = x.first;
    begins = x.begins;
    last = x.last;
    goes = x.goes;
    is = more x.last.wire x.is;
    seen = x.seen;
    looked = x.looked;
    left = x.left;
    told = x.told;
    journals = x.journals;
  }

  goes_as : (f : Option StoredFault) (tells : Bool) (k : Key) (turns : ℕ) (a b : Standing) (ss : List ProgramValue) → Goes P f tells k turns a b ss → Goes Q f tells k turns a b ss
  goes_as None tells k turns a b ss (made, count, begun, left, rounds, is) = (made, count, begun, left, rounds, more b.wire is)
  goes_as (Some f) tells k turns a b ss (made, at, begun, left, rounds, is, first, cut, told) = (made, at, begun, left, rounds, more at.wire is, first, cut, told)

  -- of one with a store
  goes_on_as : (form : Form) (tells : Bool) (p : PlanValue) (me : ℕ) (programs : List ProgramValue) (turns : ℕ) (kept : Keeping) (stands : Option (List ℕ)) (a b : Account) (e : Ended) (old new : Option (List ℕ))
      → GoesOn P form tells p me programs turns kept stands a b e old new → GoesOn Q form tells p me programs turns kept stands a b e old new
  goes_on_as form tells p me programs turns kept stands a b e old new x = record {
    first = x.first;
    begins = x.begins;
    last = x.last;
    ends = x.ends;
    goes = goes_as e.fault tells (p, me) turns x.first x.last _ x.goes;
    seen = x.seen;
    looked = x.looked;
    stood = x.stood;
    within = x.within;
    all = x.all;
    has = x.has;
    lets_out = x.lets_out;
    told = x.told;
  }

  pub went_of : (form : Form) (tells : Bool) (known : Option (List ℕ)) (is_new : Bool) (p : PlanValue) (me : ℕ) (programs : List ProgramValue) (turns : ℕ) (kept : Keeping) (stands : Option (List ℕ)) (a b : Account) (e : Ended) (old new : Option (List ℕ))
      → IsKept known is_new p me programs kept → GoesOn P form tells p me programs turns kept stands a b e old new → WentOn Q form tells known is_new p me programs turns e old new
  went_of form tells known is_new p me programs turns kept stands a b e old new is_kept goes = record {
    kept = kept;
    is_kept = is_kept;
    stands = stands;
    first = a;
    last = b;
    goes_on = goes_on_as form tells p me programs turns kept stands a b e old new goes;
  }

  pub went_as : (form : Form) (tells : Bool) (known : Option (List ℕ)) (is_new : Bool) (p : PlanValue) (me : ℕ) (programs : List ProgramValue) (turns : ℕ) (e : Ended) (old new : Option (List ℕ))
      → WentOn P form tells known is_new p me programs turns e old new → WentOn Q form tells known is_new p me programs turns e old new
  went_as form tells known is_new p me programs turns e old new x = went_of form tells known is_new p me programs turns x.kept x.stands x.first x.last e old new x.is_kept x.goes_on

  -- of a service
  serves_as : (form : Form) (tells : Bool) (p : PlanValue) (me : ℕ) (kept : Keeping) (input stands : Option (List ℕ)) (a b : Account) (e : Served) (old new : Option (List ℕ)) → Serves P form tells p me kept input stands a b e old new → Serves Q form tells p me kept input stands a b e old new
  serves_as form tells p me kept input stands a b e old new x = record {
    first = x.first;
    begins = x.begins;
    seen = x.seen;
    legal = x.legal;
    stood = x.stood;
    within = x.within;
    has = x.has;
    lets_out = x.lets_out;
    goes = x.goes;
    is = more x.goes.last.wire x.is;
    over = x.over;
    unfinished = x.unfinished;
    told = x.told;
  }

  pub served_of : (form : Form) (tells : Bool) (known : Option (List ℕ)) (is_new : Bool) (p : PlanValue) (me : ℕ) (asks heard : Option (List ℕ)) (kept : Keeping) (stands : Option (List ℕ)) (a b : Account) (e : Served) (old new : Option (List ℕ))
      → IsFoundIn known is_new p me kept → heard ≡ asks → Serves P form tells p me kept heard stands a b e old new → HasServed Q form tells known is_new p me asks e old new
  served_of form tells known is_new p me asks heard kept stands a b e old new found same serves = record {
    kept = kept;
    found = found;
    stands = stands;
    first = a;
    last = b;
    serves = serves_as form tells p me kept asks stands a b e old new (subst (λ it. Serves P form tells p me kept it stands a b e old new) same serves);
  }

  pub served_as : (form : Form) (tells : Bool) (known : Option (List ℕ)) (is_new : Bool) (p : PlanValue) (me : ℕ) (asks : Option (List ℕ)) (e : Served) (old new : Option (List ℕ)) → HasServed P form tells known is_new p me asks e old new → HasServed Q form tells known is_new p me asks e old new
  served_as form tells known is_new p me asks e old new x = served_of form tells known is_new p me asks asks x.kept x.stands x.first x.last e old new x.found refl x.serves
