-- Rounds that were made, and one that was cut off.
use Rattle.std.proofs.Common.{◌≡◌, ℕ, ◌≤◌, Bool, true, false, List, [], ◌∷◌, ◌++◌, length, take, drop, Option, None, Some, Result, Ok, Err, inl, inr, refl, sym, ap, subst, ◌∙◌, append-nil, arith}
use Rattle.std.specs.Prelude.{IfErr, IfOk, OnOk}
use Rattle.std.specs.List.{flat_map}
use Rattle.std.specs.Io.KnownBytes.{Appends}
use Rattle.std.proofs.KnownBytes.{Appends-nil, Appends-trans}
use Rattle.std.proofs.lemmas.List.{take_all}
use Rattle.std.proofs.lemmas.List.Concat.{flat_map-append}
use mathlib.Core.List.{IsPrefix}
use Rattle.session_meaning.specs.declared.ending.Outcome.{Outcome}
use Rattle.office_journal.specs.declared.event.Entry.{Entry}
use Rattle.site_core.specs.agendas.Agenda.{unfinished}
use Rattle.site_core.specs.Journals.{office_of, IsLegal}
use Rattle.locked_office.specs.Calls.{Key, DeskPass, office_with}
use Rattle.session_reports.specs.form.Forms.{outcome_as}
use Rattle.session_reports.specs.declared.form.forms.Form.{Form}
use Rattle.socket_pump.specs.Wires.{Account}
use Rattle.office_stations.specs.declared.pace.TimedTurn.{TimedTurn}
use Rattle.office_stations.specs.declared.turning.Turning.TheVariants.{Adaptive}
use Rattle.office_stations.specs.Rounds.{Standing, Turns, with_pass}
use Rattle.office_stations.specs.Sessions.{finished_of}
use Rattle.stored_runs.specs.declared.fault.StoredFault.TheVariants as stored
use Rattle.stored_runs.proofs.Outcomes.{both, first_same, first_begin, finished_on}
use Rattle.session_streams.specs.declared.requests.asked.Asked.{Asked}
use Rattle.session_streams.specs.requests.Bytes.{Taking, nothing_taken}
use Rattle.session_streams.specs.requests.RequestLaws.{PartsAreOne}
use Rattle.serving.specs.answers.Said.{Said, said_as}
use Rattle.serving.specs.declared.fault.ServeFault.{ServeFault}
use Rattle.serving.specs.declared.fault.ServeFault.TheVariants.{Run, InputFailed}
use Rattle.serving.specs.Rounds.{AnswersAll, AnswersSome, CutOff, Made, Round, Rounds, round_text}
use Rattle.serving.specs.Serving.{Unless, told_text}
use Rattle.serving.specs.refinement.Hearing.{Hears, Heard}
use Rattle.serving.specs.refinement.Telling.{SaidOrNot}
use Rattle.serving.specs.refinement.Rounding.{RoundMade, RoundCut, Went}
use Rattle.serving.proofs.Hearing.{heard_more, is_read, none_heard}

-- ---- unless writing failed

pub unless : (f : Option ServeFault) (P : Type 0) → P → Unless f P
unless None P h = h
unless (Some (Run (stored.Run why))) P h = h
unless (Some (Run stored.StoreFailed)) P h = h
unless (Some (Run (stored.WriteFailed cause))) P h = tt
unless (Some (InputFailed cause)) P h = h

pub unless_then : (f : Option ServeFault) (P Q : Type 0) → (P → Q) → Unless f P → Unless f Q
unless_then None P Q g h = g h
unless_then (Some (Run (stored.Run why))) P Q g h = g h
unless_then (Some (Run stored.StoreFailed)) P Q g h = g h
unless_then (Some (Run (stored.WriteFailed cause))) P Q g h = tt
unless_then (Some (InputFailed cause)) P Q g h = g h

-- ---- a list that begins another

pub begins_first : {A : Type 0} (n : ℕ) (xs ys : List A) → length xs ≤ n → IsPrefix xs ys → IsPrefix xs (take n ys)
begins_first n xs ys le p =
    let whole : take (length xs) ys ≡ xs = sym (first_same (length xs) xs ys (omega arith) p) ∙ take_all (length xs) xs (omega arith) in
    subst (λ l. IsPrefix l (take n ys)) whole (first_begin (length xs) n ys le)

drop_front : {A : Type 0} (xs ys : List A) → drop (length xs) (xs ++ ys) ≡ ys
drop_front [] ys = refl
drop_front (x ∷ xs) ys = drop_front xs ys

rest_of : (xs ys : List Outcome) (n : ℕ) → n ≡ length xs → IsPrefix xs ys → ys ≡ xs ++ drop n ys
rest_of xs ys n is (more, all) = sym all ∙ ap (λ l. xs ++ l) (sym (ap (λ (m : ℕ). drop m ys) is ∙ ap (drop (length xs)) (sym all) ∙ drop_front xs more))

-- ---- one round

pub one_round : (tells : Bool) (k : Key) (t : TimedTurn) (said : List Said) (p filled q : DeskPass) (a b : Standing) (told : ℕ) (waiting left : List Asked) → a.pass ≡ p → b.pass ≡ q → IsPrefix p.seen q.seen → IsLegal (office_with k q.seen) → told ≡ length (finished_of (office_with k p.seen)) →
    AnswersSome 0 k p filled waiting left said → Turns Adaptive tells 0 k t (with_pass a filled) b → Round tells 0 k t said (drop told (finished_of (office_with k q.seen))) a b waiting left
one_round tells k t said p filled q a b told waiting left first last grows legal count answers turns = record {
  filled = filled;
  answers = subst (λ (x : DeskPass). AnswersSome 0 k x filled waiting left said) (sym first) answers;
  turns = turns;
  finished =
      ap (λ (x : DeskPass). finished_of (office_with k x.seen)) last
      ∙ rest_of (finished_of (office_with k p.seen)) (finished_of (office_with k q.seen)) told count (finished_on k p.seen q.seen legal grows)
      ∙ ap (λ (x : DeskPass). finished_of (office_with k x.seen) ++ drop told (finished_of (office_with k q.seen))) (sym first);
}

-- it was made, and is written
pub made_of : (form : Form) (tells : Bool) (k : Key) (r : Result TimedTurn ServeFault) (said : List Said) (p filled q : DeskPass) (a b : Standing) (told : ℕ) (waiting left : List Asked) (text : List ℕ) (old new : Option (List ℕ)) → a.pass ≡ p → b.pass ≡ q → IsPrefix p.seen q.seen →
    told ≡ length (finished_of (office_with k p.seen)) → AnswersSome 0 k p filled waiting left said → text ≡ flat_map (said_as form k.0) said → IfOk r (λ (t : TimedTurn). Turns Adaptive tells 0 k t (with_pass a filled) b) → OnOk r (IsLegal (office_with k q.seen)) →
    OnOk r (Appends old new (text ++ flat_map (outcome_as form k.0) (drop told (finished_of (office_with k q.seen))))) → IfOk r (λ (t : TimedTurn). RoundMade form tells k t a b waiting left old new)
made_of form tells k (Err f) said p filled q a b told waiting left text old new first last grows count answers lines turns legal wrote = tt
made_of form tells k (Ok t) said p filled q a b told waiting left text old new first last grows count answers lines turns legal wrote = record {
  said = said;
  outcomes = drop told (finished_of (office_with k q.seen));
  round = one_round tells k t said p filled q a b told waiting left first last grows legal count answers turns;
  written = subst (λ l. Appends old new (l ++ flat_map (outcome_as form k.0) (drop told (finished_of (office_with k q.seen))))) lines wrote;
}

pub if_err : {A E : Type 0} (r : Result A E) (P Q : E → Type 0) → ((e : E) → P e → Q e) → IfErr r P → IfErr r Q
if_err (Ok x) P Q f h = tt
if_err (Err e) P Q f h = f e h

pub nothing_cut : (k : Key) (p : DeskPass) (waiting : List Asked) (stands : List Entry) → IsPrefix p.seen stands → CutOff 0 k p waiting [] stands
nothing_cut k p waiting stands begins = record { asked = []; left = waiting; are = refl; mid = p; answers = refl; stand = begins }

-- what was answered is said, or not
pub cut_from : (form : Form) (k : Key) (p mid filled : DeskPass) (waiting asked left : List Asked) (said : List Said) (seen : List Entry) (n stood : ℕ) (text : List ℕ) (old new : Option (List ℕ)) → asked ++ left ≡ waiting → AnswersAll 0 k asked said p mid →
    IsPrefix p.seen (take stood seen) → IsPrefix mid.seen filled.seen → IsPrefix filled.seen seen → n ≡ length filled.seen → text ≡ flat_map (said_as form k.0) said → SaidOrNot old new text n stood →
    (ws : List Said) × CutOff 0 k p waiting ws (take stood seen) × Appends old new (flat_map (said_as form k.0) ws)
cut_from form k p mid filled waiting asked left said seen n stood text old new are answers begins middle grows count lines (inl same) =
    ([], nothing_cut k p waiting (take stood seen) begins, subst (λ x. Appends old x []) (sym same) (Appends-nil old))
cut_from form k p mid filled waiting asked left said seen n stood text old new are answers begins middle grows count lines (inr (wrote, le)) =
    (said, record { asked = asked; left = left; are = are; mid = mid; answers = answers; stand = both mid.seen filled.seen (take stood seen) middle (begins_first stood filled.seen seen (omega (arith, le, count)) grows) }, subst (Appends old new) lines wrote)

-- ---- round after round

rounds_append : (tells : Bool) (k : Key) (rs : List Made) (r : Made) (a m b : Standing) (waiting mid left : List Asked) → Rounds tells 0 k rs a m waiting mid → Round tells 0 k r.turn r.said r.finished m b (mid ++ r.came) left → Rounds tells 0 k (rs ++ r ∷ []) a b waiting left
rounds_append tells k [] r a m b waiting mid left (same, waits) round =
    (b, left, subst (λ (x : Standing). Round tells 0 k r.turn r.said r.finished x b (waiting ++ r.came) left) (sym same) (subst (λ l. Round tells 0 k r.turn r.said r.finished m b (l ++ r.came) left) (sym waits) round), (refl, refl))
rounds_append tells k (x ∷ rs) r a m b waiting mid left (n, next, first, others) round = (n, next, first, rounds_append tells k rs r n m b next mid left others round)

-- so many rounds were made, before which this came, and which say this
pub record Done (form : Form) (tells : Bool) (k : Key) (a b : Standing) (left xs : List Asked) (bs : List ℕ) : Type 0 where
  pub made : List Made
  pub rounds : Rounds tells 0 k made a b [] left
  pub came : flat_map (λ (r : Made). r.came) made ≡ xs
  pub lines : flat_map (round_text form k.0) made ≡ bs

pub none_done : (form : Form) (tells : Bool) (k : Key) (a : Standing) → Done form tells k a a [] [] []
none_done form tells k a = record { made = []; rounds = (refl, refl); came = refl; lines = refl }

pub one_done : (form : Form) (tells : Bool) (k : Key) (t : TimedTurn) (a m b : Standing) (before came after left xs : List Asked) (bs : List ℕ) (old new : Option (List ℕ)) → Done form tells k a m before xs bs → after ≡ before ++ came → (r : RoundMade form tells k t m b after left old new) →
    Done form tells k a b left (xs ++ came) (bs ++ (flat_map (said_as form k.0) r.said ++ flat_map (outcome_as form k.0) r.outcomes))
one_done form tells k t a m b before came after left xs bs old new d waits r =
    let made : Made = record { came = came; turn = t; said = r.said; finished = r.outcomes } in
    record {
      made = d.made ++ made ∷ [];
      rounds = rounds_append tells k d.made made a m b [] before left d.rounds (subst (λ l. Round tells 0 k t r.said r.outcomes m b l left) waits r.round);
      came = flat_map-append (λ (x : Made). x.came) d.made (made ∷ []) ∙ ap (λ l. l ++ (came ++ [])) d.came ∙ ap (λ l. xs ++ l) (append-nil came);
      lines = flat_map-append (round_text form k.0) d.made (made ∷ []) ∙ ap (λ l. l ++ (round_text form k.0 made ++ [])) d.lines ∙ ap (λ l. bs ++ l) (append-nil (round_text form k.0 made));
    }

-- ---- how it ends

module _ (Is : Account → Type 0) (form : Form) (tells : Bool) (k : Key) (input now : Option (List ℕ)) (t : Taking) (ended : Bool) (a b : Standing) (left xs : List Asked) (bs : List ℕ) (old mid : Option (List ℕ)) (d : Done form tells k a b left xs bs) (h : Heard k.0 k.1 input now t ended xs) (wrote : Appends old mid bs) (is : Is b.wire) where
  text : Appends old mid (told_text form k.0 d.made [])
  text = subst (Appends old mid) (sym (append-nil (flat_map (round_text form k.0) d.made) ∙ d.lines)) wrote

  -- nothing is left to do
  pub went_over : (stands : List Entry) → IsPrefix b.pass.seen stands → left ≡ [] → ended ≡ true → unfinished (office_of (office_with k b.pass.seen)).agenda ≡ 0 → Went Is form tells k input a stands None old mid
  went_over stands begins none over done = record {
    goes = record {
      bytes = h.bytes;
      ended = ended;
      read = is_read k.0 k.1 input now t ended xs h;
      made = d.made;
      last = b;
      left = left;
      rounds = d.rounds;
      rest = [];
      came = append-nil (flat_map (λ (r : Made). r.came) d.made) ∙ d.came ∙ h.asked;
      cut = [];
      cut_off = nothing_cut k b.pass (left ++ []) stands begins;
    };
    is = is;
    told = text;
    over = λ e. record { over = over; answered = (none, refl); whole = refl; done = done };
  }

  -- a fault is found before a round
  pub went_before : (f : ServeFault) (stands : List Entry) → IsPrefix b.pass.seen stands → Went Is form tells k input a stands (Some f) old mid
  went_before f stands begins = record {
    goes = record {
      bytes = h.bytes;
      ended = ended;
      read = is_read k.0 k.1 input now t ended xs h;
      made = d.made;
      last = b;
      left = left;
      rounds = d.rounds;
      rest = [];
      came = append-nil (flat_map (λ (r : Made). r.came) d.made) ∙ d.came ∙ h.asked;
      cut = [];
      cut_off = nothing_cut k b.pass (left ++ []) stands begins;
    };
    is = is;
    told = unless (Some f) (Appends old mid (told_text form k.0 d.made [])) text;
    over = λ e. absurd cc;
  }

  cut_of : (f : ServeFault) (waiting : List Asked) (stands : List Entry) (new : Option (List ℕ)) → IsPrefix b.pass.seen stands → RoundCut form f k b.pass waiting stands mid new → (said : List Said) × CutOff 0 k b.pass waiting said stands × Unless (Some f) (Appends mid new (flat_map (said_as form k.0) said))
  cut_of (Run (stored.Run why)) waiting stands new begins c = c
  cut_of (Run stored.StoreFailed) waiting stands new begins c = c
  cut_of (Run (stored.WriteFailed cause)) waiting stands new begins c = ([], nothing_cut k b.pass waiting stands begins, tt)
  cut_of (InputFailed cause) waiting stands new begins c = c

  -- a round is cut off
  pub went_cut : PartsAreOne → (f : ServeFault) (stands : List Entry) (later new : Option (List ℕ)) (u : Taking) (over : Bool) (after : List Asked) → Hears k.0 k.1 now later t u ended over left after → IsPrefix b.pass.seen stands → RoundCut form f k b.pass after stands mid new → Went Is form tells k input a stands (Some f) old new
  went_cut law f stands later new u over after hears begins c =
      let all : Heard k.0 k.1 input later u over (xs ++ hears.came) = heard_more law k.0 k.1 input now later t u ended over xs left after h hears in
      let cut = cut_of f after stands new begins c in
      record {
        goes = record {
          bytes = all.bytes;
          ended = over;
          read = is_read k.0 k.1 input later u over (xs ++ hears.came) all;
          made = d.made;
          last = b;
          left = left;
          rounds = d.rounds;
          rest = hears.came;
          came = ap (λ l. l ++ hears.came) d.came ∙ all.asked;
          cut = cut.0;
          cut_off = subst (λ l. CutOff 0 k b.pass l cut.0 stands) hears.waits cut.1;
        };
        is = is;
        told = unless_then (Some f) (Appends mid new (flat_map (said_as form k.0) cut.0)) (Appends old new (told_text form k.0 d.made cut.0))
            (λ w. subst (λ l. Appends old new (l ++ flat_map (said_as form k.0) cut.0)) (sym d.lines) (Appends-trans old mid new bs (flat_map (said_as form k.0) cut.0) wrote w)) cut.2;
        over = λ e. absurd cc;
      }

-- ---- a loop of rounds

-- what was heard, done and written so far
pub record So (form : Form) (tells : Bool) (k : Key) (input now : Option (List ℕ)) (t : Taking) (ended : Bool) (a b : Standing) (left : List Asked) (old new : Option (List ℕ)) : Type 0 where
  pub xs : List Asked
  pub heard : Heard k.0 k.1 input now t ended xs
  pub bs : List ℕ
  pub done : Done form tells k a b left xs bs
  pub written : Appends old new bs

pub none_so : (form : Form) (tells : Bool) (k : Key) (input : Option (List ℕ)) (t : Taking) (ended : Bool) (a : Standing) (left : List Asked) (old : Option (List ℕ)) → t ≡ nothing_taken → ended ≡ false → left ≡ [] → So form tells k input input t ended a a left old old
none_so form tells k input t ended a left old nothing going none = record {
  xs = [];
  heard = none_heard k.0 k.1 input t ended nothing going;
  bs = [];
  done = subst (λ l. Done form tells k a a l [] []) (sym none) (none_done form tells k a);
  written = Appends-nil old;
}

pub one_so : PartsAreOne → (form : Form) (tells : Bool) (k : Key) (input now later : Option (List ℕ)) (t u : Taking) (ended over : Bool) (a m b : Standing) (before after left : List Asked) (old mid new : Option (List ℕ)) (turn : TimedTurn) → So form tells k input now t ended a m before old mid →
    Hears k.0 k.1 now later t u ended over before after → RoundMade form tells k turn m b after left mid new → So form tells k input later u over a b left old new
one_so law form tells k input now later t u ended over a m b before after left old mid new turn so hears made = record {
  xs = so.xs ++ hears.came;
  heard = heard_more law k.0 k.1 input now later t u ended over so.xs before after so.heard hears;
  bs = so.bs ++ (flat_map (said_as form k.0) made.said ++ flat_map (outcome_as form k.0) made.outcomes);
  done = one_done form tells k turn a m b before hears.came after left so.xs so.bs mid new so.done hears.waits made;
  written = Appends-trans old mid new so.bs (flat_map (said_as form k.0) made.said ++ flat_map (outcome_as form k.0) made.outcomes) so.written made.written;
}
