-- An accepted event is refused for want of room alone, and a journal that is said to be full is full.
use Rattle.std.proofs.Common.{◌≡◌, ℕ, ◌+◌, ◌≤◌, inl, inr, Bool, true, false, cond, List, [], ◌∷◌, length, Option, None, Some, Result, Ok, Err, refl, sym, ap, ◌∙◌, arith}
use Rattle.std.specs.Prelude.{nat_le, find}
use Rattle.std.proofs.lemmas.Bool.Decides.{nat_tests}
use Rattle.frame_codec.specs.Frame.{Fields}
use Rattle.office_map.specs.PlanValue.{PlanValue, are_neighbours}
use Rattle.token_channel.specs.declared.fault.ChannelFault.{ChannelFault}
use Rattle.office_journal.specs.declared.rule.Rule.{Rule}
use Rattle.office_journal.specs.declared.event.Event.{Event}
use Rattle.office_journal.specs.declared.event.Event.TheVariants as event
use Rattle.office_journal.specs.declared.reply.Reply.{Reply}
use Rattle.office_journal.specs.declared.reply.Reply.TheVariants as reply
use Rattle.office_journal.specs.declared.reply.Refusal.{Refusal}
use Rattle.office_journal.specs.declared.reply.Refusal.TheVariants as refusal
use Rattle.site_core.specs.Limits.{most_entries}
use Rattle.site_core.specs.neighbours.Pairs.{frame_fault}
use Rattle.site_core.specs.agendas.Agenda.{is_full, submitted}
use Rattle.site_core.specs.Offices.{Office, Answer, may, act, may_withdraw, withdrawn, done_if, is_ours, framed, frame_on, unless_faulty, answer}
use Rattle.site_core.specs.Journals.{Site, office_of, noted, recorded, FullAtTheLimit}
use Rattle.site_core.specs.RuleOrder.{rules_in_order}
use Rattle.site_core.specs.RulesInTurn.{NextIsDoneWhereThereIsRoom}

-- no office answers by itself that its journal is full
never_full : (plan : PlanValue) (me : ℕ) (o : Office) (e : Event) → answer plan me o e ≡ Err refusal.JournalFull → ⊥
never_full plan me o (event.Submit p) h = go (is_ours plan me p) (is_full o.agenda) h
  where
    go : (b full : Bool) → cond {A = Answer} b (cond full (Err refusal.QueueFull) (Ok (reply.Ticket (o.agenda.tickets + 1), record { pairs = o.pairs; agenda = submitted o.agenda p }))) (Err refusal.NotOurs) ≡ Err refusal.JournalFull → ⊥
    go true true k = absurd cc
    go true false k = absurd cc
    go false full k = absurd cc
never_full plan me o (event.Do r) h = go (may plan me o r) h
  where
    go : (b : Bool) → cond {A = Answer} b (Ok (reply.Done, act me o r)) (Err refusal.NotNow) ≡ Err refusal.JournalFull → ⊥
    go true k = absurd cc
    go false k = absurd cc
never_full plan me o (event.Send v i) h = go (are_neighbours plan me v) (frame_on (o.pairs.link v) i) h
  where
    go : (b : Bool) (f : Option Fields) → cond {A = Answer} b (framed o f) (Err refusal.NotNow) ≡ Err refusal.JournalFull → ⊥
    go true None k = absurd cc
    go true (Some f) k = absurd cc
    go false f k = absurd cc
never_full plan me o (event.Took f) h = go (frame_fault plan me o.pairs f) h
  where
    go : (x : Option ChannelFault) → unless_faulty plan me o f x ≡ Err refusal.JournalFull → ⊥
    go None k = absurd cc
    go (Some fault) k = absurd cc
never_full plan me o (event.Withdraw t) h = go (may_withdraw o t) h
  where
    go : (b : Bool) → done_if b (withdrawn o t) ≡ Err refusal.JournalFull → ⊥
    go true k = absurd cc
    go false k = absurd cc

-- what is refused of an answer that accepts
full_or_not : (s : Site) (tag : ℕ) (e : Event) (x : Reply × Office) (why : Refusal) → Err why ≡ (recorded s tag e (Ok x)).0 → (why ≡ refusal.JournalFull) × (most_entries ≤ length s.entries)
full_or_not s tag e x why h = go (nat_le most_entries (length s.entries)) refl h
  where
    go : (b : Bool) → nat_le most_entries (length s.entries) ≡ b → Err why ≡ (cond {A = Result Reply Refusal × Site} b (Err refusal.JournalFull, s) (Ok x.0, noted s tag e x.0)).0 → (why ≡ refusal.JournalFull) × (most_entries ≤ length s.entries)
    go true full k = (cc, grind (arith, nat_tests, full))
    go false full k = absurd cc

pub full_at_the_limit : FullAtTheLimit
full_at_the_limit s tag e s' (inl m) = let no : Err refusal.JournalFull ≡ Err refusal.Memory = m.0 in absurd cc
full_at_the_limit s tag e s' (inr x) = go (answer s.plan s.me (office_of s) e) refl x.0
  where
    go : (a : Answer) → answer s.plan s.me (office_of s) e ≡ a → Err refusal.JournalFull ≡ (recorded s tag e a).0 → most_entries ≤ length s.entries
    go (Ok y) h k = (full_or_not s tag e y refusal.JournalFull k).1
    go (Err r) h k =
        let is : r ≡ refusal.JournalFull = cc in
        absurd (never_full s.plan s.me (office_of s) e (h ∙ ap Err is))

found_may : (p : Rule → Bool) (xs : List Rule) (r : Rule) → find p xs ≡ Some r → p r ≡ true
found_may p [] r e = absurd cc
found_may p (x ∷ xs) r e = go (found_may p xs r) (p x) refl e
  where
    go : (find p xs ≡ Some r → p r ≡ true) → (b : Bool) → p x ≡ b → cond b (Some x) (find p xs) ≡ Some r → p r ≡ true
    go later true h k =
        let is : x ≡ r = cc in
        ap p (sym is) ∙ h
    go later false h k = later k

pub next_is_done_where_there_is_room : NextIsDoneWhereThereIsRoom
next_is_done_where_there_is_room s tag r why s' next (inl m) = inr cc
next_is_done_where_there_is_room s tag r why s' next (inr x) =
    let o = office_of s in
    let allowed = found_may (may s.plan s.me o) (rules_in_order s.plan s.me) r next in
    let accepted : answer s.plan s.me o (event.Do r) ≡ Ok (reply.Done, act s.me o r) = ap (λ b. cond {A = Answer} b (Ok (reply.Done, act s.me o r)) (Err refusal.NotNow)) allowed in
    inl (full_or_not s tag (event.Do r) (reply.Done, act s.me o r) why (x.0 ∙ ap (λ a. (recorded s tag (event.Do r) a).0) accepted))
