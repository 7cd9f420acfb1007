-- What left is of entries that stand.
use Rattle.std.proofs.Common.{◌≡◌, ℕ, ◌≤◌, Bool, true, List, [], ◌∷◌, ◌++◌, length, map, take, drop, Option, Some, None, Result, Ok, Err, refl, sym, ap, subst, ◌∙◌, arith, length-append, append_assoc, append-nil}
use Rattle.std.specs.Prelude.{All, slice_get}
use mathlib.Core.List.{IsPrefix}
use Rattle.std.proofs.lemmas.List.{take-append-le, take_all, take-append-drop}
use Rattle.std.proofs.lemmas.List.Elements.{All-nil, All-cons, All-take}
use Rattle.std.proofs.lemmas.List.Concat.{flat_map-append}
use Rattle.std.proofs.lemmas.Option.{slice_get_within}
use Rattle.bottle_values.specs.ListLaws.{get_left}
use Rattle.office_map.specs.PlanValue.{PlanValue}
use Rattle.office_journal.specs.declared.event.Entry.{Entry}
use Rattle.office_journal.specs.declared.reply.Reply.{Reply}
use Rattle.office_journal.specs.declared.reply.Refusal.{Refusal}
use Rattle.site_core.specs.Journals.{Site, Receives}
use Rattle.locked_office.specs.declared.advance.Stopped.{Stopped}
use Rattle.locked_office.specs.Advance.{Advances}
use Rattle.locked_office.specs.Calls.{Key, DeskPass, Does, Looks}
use Rattle.journal_stores.specs.Stores.{Stands, IsFound, Finds}
use Rattle.journal_texts.specs.Written.{header_line, lines_of, entry_line, journal_text}
use Rattle.socket_pump.specs.declared.pump.Turn.{Turn}
use Rattle.socket_pump.specs.declared.pump.PumpFault.{PumpFault}
use Rattle.socket_pump.specs.Wires.{Account}
use Rattle.socket_pump.specs.Chains.{Made, MakesFrame, Sends, sent_entry, datagram, answers}
use Rattle.socket_pump.specs.Handling.{Handled, heard_of, Follows, Handles}
use Rattle.socket_pump.specs.Turns.{Times, Ended}
use Rattle.socket_pump.specs.AdaptiveTurns.{AdaptiveTurned, AdaptiveStage, WhileHandling, AtLastRules, AfterRules}
use Rattle.socket_pump.specs.ChainLaws.{Begins, begins_both, does_begins, sees_begins, sends_begins, heard_length}
use Rattle.stored_runs.specs.durable.LettingLaws.{has_on}
use Rattle.stored_runs.specs.durable.Letting.{key_of, StoreHas, FindsText, IsOfStanding, LetsOut, Posts, Turns}
use Rattle.stored_runs.specs.durable.refinement.Mailed.{Mailed, IsMail, fresh, account_of, Fetches}
use Rattle.stored_runs.proofs.durable_lemmas.Mailing.{heard_is_fetched}

-- ---- journals that go on

follows_begins : (tag : ℕ) (k : Key) (p q : DeskPass) (answer : Result Reply Refusal) (rules : Result ℕ Stopped) → Follows tag k answer rules p q → Begins p q
follows_begins tag k p q (Ok r) rules d = does_begins (λ s s'. Advances tag 64 rules s s') k p q d
follows_begins tag k p q (Err why) rules d = ([], ap (λ (x : DeskPass). x.seen) d.1 ∙ sym (append-nil p.seen))

handles_begins : (tag : ℕ) (k : Key) (p q : DeskPass) (hs : List Handled) → Handles tag k p hs q → Begins p q
handles_begins tag k p q [] s = sees_begins p q s
handles_begins tag k p q (h ∷ hs) s =
    begins_both p s.0 q (does_begins (λ x y. Receives x tag h.heard.bytes h.heard.answer y) k p s.0 s.2)
    (begins_both s.0 s.1 q (follows_begins tag k s.0 s.1 h.heard.answer h.rules s.3) (handles_begins tag k s.1 q hs s.4))

pub turned_begins : (tells : Bool) (tag : ℕ) (k : Key) (last : Times) (now : ℕ) (p : DeskPass) (a : Account) (t : Turn) (b : Account) (q : DeskPass) (then : Times) → AdaptiveTurned tells tag k last now p a t b q then → Begins p q
turned_begins tells tag k last now p a t b q then x =
    begins_both p x.mid q (handles_begins tag k p x.mid x.handled.handled x.handled.handling.handles)
    (begins_both x.mid x.ruled q (does_begins _ k x.mid x.ruled x.rules) (sends_begins tag k x.ruled q x.made x.told.sends))

pub stage_begins : (tells : Bool) (tag : ℕ) (k : Key) (last : Times) (now : ℕ) (p : DeskPass) (a : Account) (f : PumpFault) (b : Account) (q : DeskPass) (then : Times) → AdaptiveStage tells tag k last now p a f b q then → Begins p q
stage_begins tells tag k last now p a f b q then (WhileHandling handled marks) = handles_begins tag k p q handled.handled handled.handles
stage_begins tells tag k last now p a f b q then (AtLastRules mid received took refused handled why rules fault wire marks) = begins_both p mid q (handles_begins tag k p mid handled.handled handled.handling.handles) (does_begins _ k mid q rules)
stage_begins tells tag k last now p a f b q then (AfterRules mid ruled received took refused done handled rules marked marks made told due_once counts remembers) =
    begins_both p mid q (handles_begins tag k p mid handled.handled handled.handling.handles) (begins_both mid ruled q (does_begins _ k mid ruled rules) (sends_begins tag k ruled q made told.sends))

-- ---- what stands

pub has_later : (o : Option (List ℕ)) (k : Key) (p q : DeskPass) (n : ℕ) → n ≤ length p.seen → Begins p q → StoreHas o k p.seen n → StoreHas o k q.seen n
has_later None k p q n le b h = tt
has_later (Some bytes) k p q n le b h = h ∙ ap (journal_text k.0 k.1) (sym (take-append-le n p.seen b.0 le) ∙ ap (take n) (sym b.1))

pub within_later : (p q : DeskPass) (n : ℕ) → n ≤ length p.seen → Begins p q → n ≤ length q.seen
within_later p q n le b = omega (arith, le, ap length b.1, length-append p.seen b.0)

-- ---- what leaves

at_end : (xs ys : List Entry) (x : Entry) → slice_get ((xs ++ x ∷ []) ++ ys) (length xs) ≡ Some x
at_end [] ys x = refl
at_end (z ∷ xs) ys x = at_end xs ys x

-- its entry is in the journal
abbrev IsThere : ℕ → List Entry → Made → Type 0
IsThere tag es m = (i : ℕ) × (slice_get es i ≡ Some (sent_entry tag m))

there_on : (tag : ℕ) (p q : DeskPass) (m : Made) → Begins p q → IsThere tag p.seen m → IsThere tag q.seen m
there_on tag p q m b h = (h.0, ap (λ l. slice_get l h.0) b.1 ∙ get_left p.seen b.0 h.0 (sent_entry tag m) h.1)

one_there : (tag : ℕ) (k : Key) (p x : DeskPass) (m : Made) → Does (MakesFrame tag m) k p x → IsThere tag x.seen m
one_there tag k p x m d =
    let grown : x.seen ≡ (p.seen ++ d.0) ++ sent_entry tag m ∷ [] = ap (λ (s : Site). s.entries) d.1.done in
    (length (p.seen ++ d.0), ap (λ l. slice_get l (length (p.seen ++ d.0))) (grown ∙ sym (append-nil ((p.seen ++ d.0) ++ sent_entry tag m ∷ []))) ∙ at_end (p.seen ++ d.0) [] (sent_entry tag m))

all_there : (tag : ℕ) (k : Key) (p q z : DeskPass) (ms : List Made) → Sends tag k p ms q → Begins q z → All (IsOfStanding tag z.seen (length z.seen)) (map datagram ms)
all_there tag k p q z [] s b = All-nil (IsOfStanding tag z.seen (length z.seen))
all_there tag k p q z (m ∷ ms) s b =
    let on : Begins s.0 z = begins_both s.0 q z (sends_begins tag k s.0 q ms s.2) b in
    let here = there_on tag s.0 z m on (one_there tag k p s.0 m s.1) in
    let one : IsOfStanding tag z.seen (length z.seen) (datagram m) = (m, refl, here.0, slice_get_within z.seen here.0 (sent_entry tag m) here.1, here.1) in
    All-cons (IsOfStanding tag z.seen (length z.seen)) (datagram m) (map datagram ms) one (all_there tag k s.0 q z ms s.2 b)

-- what the mail accepted are the frames that were made
mail_is : (tag : ℕ) (k : Key) (last : Times) (now : ℕ) (p : DeskPass) (t : Turn) (a b : Account) (q : DeskPass) (then : Times) → a.accepted ≡ [] → (x : AdaptiveTurned true tag k last now p a t b q then) → b.accepted ≡ map datagram x.made
mail_is tag k last now p t a b q then none x =
    ap (λ (y : Account). y.accepted) (x.told.wire refl)
    ∙ ap (λ (y : Account). y.accepted ++ map datagram x.made) (x.handled.handling.wire refl)
    ∙ ap (λ l. l ++ map datagram x.made) none

pub nothing_out : (tells : Bool) (tag : ℕ) (a b : Account) (es : List Entry) (n : ℕ) → (tells ≡ true → b.accepted ≡ a.accepted) → LetsOut tells tag a b es n
nothing_out tells tag a b es n same = record { out = []; went = λ h. same h ∙ sym (append-nil a.accepted); stand = All-nil (IsOfStanding tag es n) }

pub posted : (tells : Bool) (tag : ℕ) (k : Key) (last : Times) (now : ℕ) (p : DeskPass) (t : Turn) (before mail : Mailed) (m q : DeskPass) (then : Times) (a b c : Account) (n : ℕ) (out : List (ℕ × List ℕ)) → before ≡ fresh before.came →
    AdaptiveTurned true tag k last now p (account_of before) t (account_of mail) m then → Looks k m q → (tells ≡ true → b.accepted ≡ a.accepted) → out ≡ mail.out → Posts tells b out c → n ≡ length q.seen → LetsOut tells tag a c q.seen n
posted tells tag k last now p t before mail m q then a b c n out clear x looks same are posts all = record {
  out = take posts.0 (map datagram x.made);
  went = λ h. posts.1 h ∙ ap (λ l. l ++ take posts.0 out) (same h) ∙ ap (λ l. a.accepted ++ take posts.0 l) (are ∙ mail_is tag k last now p t (account_of before) (account_of mail) m then (ap (λ (y : Mailed). y.out) clear) x);
  stand = subst (λ i. All (IsOfStanding tag q.seen i) (take posts.0 (map datagram x.made))) (sym all)
      (All-take (IsOfStanding tag q.seen (length q.seen)) posts.0 (map datagram x.made) (all_there tag k x.ruled m q x.made x.told.sends (does_begins _ k m q looks)));
}

-- ---- what the wire answered, and what went out on it

-- the account of a turn with the mail is one of a turn with the wire
on_wire : (tells : Bool) (tag : ℕ) (k : Key) (last : Times) (now : ℕ) (p : DeskPass) (t : Turn) (before mail : Mailed) (m : DeskPass) (then : Times) (a b c : Account) (out : List (ℕ × List ℕ)) → before ≡ fresh before.came → IsMail mail.came mail.handed mail.ended →
    Fetches tells a b before.came → AdaptiveTurned true tag k last now p (account_of before) t (account_of mail) m then → out ≡ mail.out → (tells ≡ true → c ≡ record b { accepted = b.accepted ++ out }) → c.failures ≡ b.failures → AdaptiveTurned tells tag k last now p a t c m then
on_wire tells tag k last now p t before mail m then a b c out clear is_mail fetches x are posts failures = record {
  mid = x.mid;
  ruled = x.ruled;
  received = record a { received = a.received ++ answers (heard_of x.handled.handled) x.handled.ends };
  handled = record {
    ends = x.handled.ends;
    handled = x.handled.handled;
    ended = x.handled.ended;
    handling = record {
      handles = x.handled.handling.handles;
      count = x.handled.handling.count;
      done = x.handled.handling.done;
      added = x.handled.handling.added;
      are = x.handled.handling.are;
      mine = x.handled.handling.mine;
      failures = refl;
      wire = λ h. refl;
    };
    taken = x.handled.taken;
    all = x.handled.all;
  };
  finally = x.finally;
  rules = x.rules;
  all_rules = x.all_rules;
  marked = x.marked;
  marks = x.marks;
  made = x.made;
  told = record { sends = x.told.sends; mine = x.told.mine; failures = failures ∙ fetches.gives.0; wire = wire };
  sent = x.sent;
  all_due = x.all_due;
  due_once = x.due_once;
  counts = x.counts;
  remembers = x.remembers;
}
  where
    heard : (account_of mail).received ≡ (account_of (fresh before.came)).received ++ answers (heard_of x.handled.handled) x.handled.ends
    heard =
        ap (λ (y : Account). y.received) (x.told.wire refl)
        ∙ ap (λ (y : Account). y.received) (x.handled.handling.wire refl)
        ∙ ap (λ (y : Mailed). (account_of y).received ++ answers (heard_of x.handled.handled) x.handled.ends) clear

    ended : Ended (length (heard_of x.handled.handled)) x.handled.ends
    ended = subst (λ (n : ℕ). Ended n x.handled.ends) (sym (heard_length x.handled.handled)) x.handled.ended

    fetched : tells ≡ true → b ≡ record a { received = a.received ++ answers (heard_of x.handled.handled) x.handled.ends }
    fetched h =
        fetches.gives.1 h
        ∙ ap (λ l. record a { received = l })
        (append_assoc a.received (map (λ y. Some y) before.came) fetches.ends
        ∙ ap (λ l. a.received ++ l) (heard_is_fetched before.came mail (heard_of x.handled.handled) x.handled.ends fetches.ends is_mail fetches.ended ended heard))

    wire : tells ≡ true → c ≡ record a { received = a.received ++ answers (heard_of x.handled.handled) x.handled.ends; accepted = a.accepted ++ map datagram x.made }
    wire h =
        posts h
        ∙ ap (λ (y : Account). record y { accepted = y.accepted ++ out }) (fetched h)
        ∙ ap (λ l. record a { received = a.received ++ answers (heard_of x.handled.handled) x.handled.ends; accepted = a.accepted ++ l }) (are ∙ mail_is tag k last now p t (account_of before) (account_of mail) m then (ap (λ (y : Mailed). y.out) clear) x)

pub turns : (tells : Bool) (tag : ℕ) (k : Key) (last : Times) (now : ℕ) (p : DeskPass) (t : Turn) (before mail : Mailed) (m q : DeskPass) (then : Times) (a b c : Account) (out : List (ℕ × List ℕ)) → before ≡ fresh before.came → IsMail mail.came mail.handed mail.ended →
    Fetches tells a b before.came → AdaptiveTurned true tag k last now p (account_of before) t (account_of mail) m then → Looks k m q → out ≡ mail.out → (tells ≡ true → c ≡ record b { accepted = b.accepted ++ out }) → c.failures ≡ b.failures → Turns tells tag k last now p a t c q then
turns tells tag k last now p t before mail m q then a b c out clear is_mail fetches x looks are posts failures =
    record { mid = m; turned = on_wire tells tag k last now p t before mail m then a b c out clear is_mail fetches x are posts failures; looked = looks }

-- ---- entries that are made to stand

whole : (k : Key) (es : List Entry) (n : ℕ) → journal_text k.0 k.1 (take n es) ++ lines_of k.0 (drop n es) ≡ journal_text k.0 k.1 es
whole k es n =
    append_assoc (header_line k.0 k.1) (lines_of k.0 (take n es)) (lines_of k.0 (drop n es))
    ∙ ap (λ l. header_line k.0 k.1 ++ l) (sym (flat_map-append (entry_line k.0) (take n es) (drop n es)) ∙ ap (lines_of k.0) (take-append-drop n es))

pub has_all : (o new : Option (List ℕ)) (k : Key) (es : List Entry) (n m : ℕ) (text : List ℕ) → StoreHas o k es n → text ≡ lines_of k.0 (drop n es) → Stands o text new → m ≡ length es → StoreHas new k es m
has_all None new k es n m text h is stands all = subst (λ x. StoreHas x k es m) (sym stands) tt
has_all (Some bytes) new k es n m text h is stands all =
    subst (λ x. StoreHas x k es m) (sym stands) (ap (λ b. b ++ text) h ∙ ap (λ t. journal_text k.0 k.1 (take n es) ++ t) is ∙ whole k es n ∙ ap (journal_text k.0 k.1) (sym (take_all m es (omega (arith, all)))))

pub kept : (o new : Option (List ℕ)) (k : Key) (es : List Entry) (n : ℕ) → StoreHas o k es n → new ≡ o → StoreHas new k es n
kept o new k es n h same = subst (λ x. StoreHas x k es n) (sym same) h

-- of an office that a pass took
pub has_taken : (o : Option (List ℕ)) (k : Key) (old : List Entry) (s : Site) (n : ℕ) → n ≤ length old → IsPrefix old s.entries → key_of s ≡ k → StoreHas o k old n → StoreHas o (key_of s) s.entries n
has_taken o k old s n le begins key h = subst (λ (x : Key). StoreHas o x s.entries n) (sym key) (has_on o k old s.entries n le begins h)

pub has_given : (o : Option (List ℕ)) (k : Key) (s : Site) (es : List Entry) (n : ℕ) → key_of s ≡ k → es ≡ s.entries → StoreHas o (key_of s) s.entries n → StoreHas o k es n
has_given o k s es n key same h = subst (λ l. StoreHas o k l n) (sym same) (subst (λ (x : Key). StoreHas o x s.entries n) key h)

pub finds_given : (o found : Option (List ℕ)) (k : Key) (s : Site) (es : List Entry) → key_of s ≡ k → es ≡ s.entries → FindsText o found (key_of s) s.entries → FindsText o found k es
finds_given o found k s es key same h = subst (λ l. FindsText o found k l) (sym same) (subst (λ (x : Key). FindsText o found x s.entries) key h)

pub stood_all : (o new : Option (List ℕ)) (s : Site) (plan : PlanValue) (n m : ℕ) (text : List ℕ) → StoreHas o (key_of s) s.entries n → plan ≡ s.plan → text ≡ lines_of plan (drop n s.entries) → m ≡ length s.entries → Stands o text new →
    StoreHas new (key_of s) s.entries m
stood_all o new s plan n m text has same is all stands =
    has_all o new (key_of s) s.entries n m text has (is ∙ ap (λ (x : PlanValue). lines_of x (drop n s.entries)) same) stands all

-- ---- what a start finds

pub finds : (o found : Option (List ℕ)) (k : Key) (es : List Entry) (n : ℕ) → StoreHas o k es n → IsFound o found → FindsText o found k es
finds None found k es n h same = tt
finds (Some bytes) None k es n h same = tt
finds (Some bytes) (Some found) k es n h same =
    subst (λ x. FindsText (Some bytes) x k es) (sym same)
    (lines_of k.0 (drop n es), sym (whole k es n) ∙ ap (λ l. l ++ lines_of k.0 (drop n es)) (sym h))

torn : (o found : Option (List ℕ)) (k : Key) (es : List Entry) (n : ℕ) (text : List ℕ) → StoreHas o k es n → text ≡ lines_of k.0 (drop n es) → Finds o text found → FindsText o found k es
torn None found k es n text h is f = tt
torn (Some bytes) None k es n text h is f = tt
torn (Some bytes) (Some found) k es n text h is f =
    (f.rest, sym (whole k es n) ∙ ap (λ l. l ++ lines_of k.0 (drop n es)) (sym h) ∙ ap (λ l. bytes ++ l) (sym is ∙ f.begins) ∙ sym (append_assoc bytes f.part f.rest) ∙ ap (λ l. l ++ f.rest) (sym f.after))

pub torn_later : (o new found : Option (List ℕ)) (s : Site) (n : ℕ) (text : List ℕ) → StoreHas o (key_of s) s.entries n → text ≡ lines_of s.plan (drop n s.entries) → Finds o text found → new ≡ o → FindsText new found (key_of s) s.entries
torn_later o new found s n text has is f kept =
    subst (λ y. FindsText y found (key_of s) s.entries) (sym kept) (torn o found (key_of s) s.entries n text has is f)
