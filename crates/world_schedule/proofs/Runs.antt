-- Runs of events.
use Rattle.std.proofs.Common.{◌≡◌, ℕ, ◌+◌, ◌<◌, cond, List, [], ◌∷◌, ◌++◌, length, take, get_or, Option, None, Some, Ok, Err, refl, sym, ap, subst, ◌∙◌, ⊎_elim}
use Rattle.std.specs.Prelude.{Result, IsOk, slice_get, nat_lt, nat_le}
use Rattle.std.proofs.lemmas.Option.{get_or_from_slice_get}
use Rattle.std.proofs.lemmas.Bool.{cond_both}
use Rattle.std.proofs.lemmas.List.{take_more}
use Rattle.frame_codec.specs.Frame.{Fields}
use Rattle.office_map.specs.PlanValue.{PlanValue, are_neighbours}
use Rattle.token_channel.specs.declared.fault.ChannelFault.{ChannelFault}
use Rattle.site_core.specs.Limits.{most_entries}
use Rattle.office_journal.specs.declared.event.Event.{Event}
use Rattle.office_journal.specs.declared.event.Event.TheVariants as event
use Rattle.office_journal.specs.declared.reply.Reply.{Reply}
use Rattle.office_journal.specs.declared.reply.Reply.TheVariants as reply
use Rattle.office_journal.specs.declared.reply.Refusal as offices
use Rattle.office_journal.specs.declared.reply.Refusal.TheVariants as refused
use Rattle.site_core.specs.Pairs.{frame_fault}
use Rattle.site_core.specs.Agenda.{is_full, submitted}
use Rattle.site_core.specs.Offices.{Office, may, act, may_withdraw, withdrawn, is_ours, answer, framed, frame_on, unless_faulty}
use Rattle.site_core.specs.Offices as answers
use Rattle.site_core.specs.Journals.{Site, office_of, noted, step, recorded}
use Rattle.frame_world.specs.declared.event.WorldEvent.{WorldEvent}
use Rattle.frame_world.specs.declared.event.WorldEvent.TheVariants as happening
use Rattle.frame_world.specs.declared.refusal.WorldRefusal.{WorldRefusal}
use Rattle.frame_world.specs.declared.refusal.WorldRefusal.TheVariants as refusal
use Rattle.frame_world.specs.Worlds.{World, Answer, site_at, told, handed, delivered, frame_at, happens, run_of, replies_of, Applies}
use Rattle.world_schedule.proofs.WorldSteps.{run_append}

-- ---- the definitions never answer Memory

abbrev OfficeSpeaks : answers.Answer → Type 0
OfficeSpeaks x = x ≡ Err refused.Memory → ⊥

answer_speaks : (plan : PlanValue) (me : ℕ) (o : Office) (e : Event) → OfficeSpeaks (answer plan me o e)
answer_speaks plan me o (event.Submit p) =
    let full : answers.Answer = Err refused.QueueFull in
    let good : answers.Answer = Ok (reply.Ticket (o.agenda.tickets + 1), record { pairs = o.pairs; agenda = submitted o.agenda p }) in
    cond_both (is_ours plan me p) (cond (is_full o.agenda) full good) (Err refused.NotOurs) OfficeSpeaks (λ _. cond_both (is_full o.agenda) full good OfficeSpeaks (λ _ e. cc) (λ _ e. cc)) (λ _ e. cc)
answer_speaks plan me o (event.Do x) = cond_both (may plan me o x) (Ok (reply.Done, act me o x)) (Err refused.NotNow) OfficeSpeaks (λ _ e. cc) (λ _ e. cc)
answer_speaks plan me o (event.Withdraw ticket) = cond_both (may_withdraw o ticket) (Ok (reply.Done, withdrawn o ticket)) (Err refused.NotNow) OfficeSpeaks (λ _ e. cc) (λ _ e. cc)
answer_speaks plan me o (event.Send v i) = cond_both (are_neighbours plan me v) (framed o (frame_on (o.pairs.link v) i)) (Err refused.NotNow) OfficeSpeaks (λ _. made (frame_on (o.pairs.link v) i)) (λ _ e. cc)
  where
    made : (f : Option Fields) → OfficeSpeaks (framed o f)
    made None e = cc
    made (Some f) e = cc
answer_speaks plan me o (event.Took f) = go (frame_fault plan me o.pairs f)
  where
    go : (x : Option ChannelFault) → OfficeSpeaks (unless_faulty plan me o f x)
    go None e = cc
    go (Some x) e = cc

abbrev Speaks : Answer → Type 0
Speaks x = x.0 ≡ Err (refusal.Office refused.Memory) → ⊥

told_speaks : (w : World) (a : ℕ) (e : Event) (s : Site) (x : answers.Answer) → OfficeSpeaks x → Speaks (told w a e (recorded s 0 e x))
told_speaks w a e s (Ok x) h = cond_both (nat_le most_entries (length s.entries)) (Err refused.JournalFull, s) (Ok x.0, noted s 0 e x.0) (λ y. Speaks (told w a e y)) (λ _ k. cc) (λ _ k. cc)
told_speaks w a e s (Err r) h = λ k. h (ap Err (office_refusal r k))
  where
    office_refusal : (r : offices.Refusal) → ◌≡◌ {A = Result Reply WorldRefusal} (Err (refusal.Office r)) (Err (refusal.Office refused.Memory)) → r ≡ refused.Memory
    office_refusal r k = cc

handed_speaks : (w : World) (a : ℕ) (e : Event) → Speaks (handed w a e)
handed_speaks w a e =
    cond_both (nat_lt a (length w.sites)) (told w a e (step (site_at w a) 0 e)) (Err refusal.NoOffice, w) Speaks
    (λ _. told_speaks w a e (site_at w a) (answer (site_at w a).plan (site_at w a).me (office_of (site_at w a)) e) (answer_speaks (site_at w a).plan (site_at w a).me (office_of (site_at w a)) e)) (λ _ k. cc)

speaks : (w : World) (e : WorldEvent) → Speaks (happens w e)
speaks w (happening.Submit a p) = handed_speaks w a (event.Submit p)
speaks w (happening.Withdraw a ticket) = handed_speaks w a (event.Withdraw ticket)
speaks w (happening.Do a x) = handed_speaks w a (event.Do x)
speaks w (happening.Send a v i) = handed_speaks w a (event.Send v i)
speaks w (happening.Deliver k) = go (frame_at w k)
  where
    go : (f : Option Fields) → Speaks (delivered w f)
    go None = λ e. cc
    go (Some f) = handed_speaks w f.to (event.Took f)

-- an answer that isn't Memory is that of the definition; and after Memory the world is as it was
pub not_memory : (w w' : World) (e : WorldEvent) (r : Result Reply WorldRefusal) → Applies w e r w' → (r ≡ Err (refusal.Office refused.Memory) → ⊥) → (r ≡ (happens w e).0) × (w' ≡ (happens w e).1)
not_memory w w' e r a n = ⊎_elim (λ m. absurd (n m.0)) (λ h. (h.0, h.1)) a

pub was_memory : (w w' : World) (e : WorldEvent) (r : Result Reply WorldRefusal) → Applies w e r w' → r ≡ Err (refusal.Office refused.Memory) → w' ≡ w
was_memory w w' e r a m = ⊎_elim (λ h. h.1) (λ h. absurd (speaks w e (sym h.0 ∙ m))) a

pub memory_accepts : (w w' : World) (e : WorldEvent) (r : Result Reply WorldRefusal) → Applies w e r w' → r ≡ Err (refusal.Office refused.Memory) → IsOk (happens w e).0
memory_accepts w w' e r a m = ⊎_elim (λ h. h.2) (λ h. absurd (speaks w e (sym h.0 ∙ m))) a

-- the event at a place is accepted
pub next_accepts : (v v' : World) (e : WorldEvent) (es : List WorldEvent) (i done : ℕ) → i ≡ done → e ≡ get_or es i e → v' ≡ v → IsOk (happens v e).0 → (d : WorldEvent) → slice_get es done ≡ Some d → IsOk (happens v' d).0
next_accepts v v' e es i done place is same ok d at =
    let this : e ≡ d = is ∙ ap (λ k. get_or es k e) place ∙ get_or_from_slice_get es done d e at in
    subst (λ w. IsOk (happens w d).0) (sym same) (subst (λ x. IsOk (happens v x).0) this ok)

-- ---- one event more

replies_append : (w : World) (es : List WorldEvent) (e : WorldEvent) → replies_of w (es ++ e ∷ []) ≡ replies_of w es ++ (happens (run_of w es) e).0 ∷ []
replies_append w [] e = refl
replies_append w (x ∷ es) e = ap (λ l. (happens w x).0 ∷ l) (replies_append (happens w x).1 es e)

pub run_more : (w v v' : World) (es : List WorldEvent) (i : ℕ) (d : WorldEvent) → i < length es → run_of w (take i es) ≡ v → v' ≡ (happens v (get_or es i d)).1 → run_of w (take (i + 1) es) ≡ v'
run_more w v v' es i d lt so_far next =
    ap (run_of w) (take_more es i d lt) ∙ run_append w (take i es) (get_or es i d) ∙ ap (λ u. (happens u (get_or es i d)).1) so_far ∙ sym next

pub replies_more : (w v : World) (es : List WorldEvent) (i : ℕ) (d : WorldEvent) (rs rs' : List (Result Reply WorldRefusal)) (r : Result Reply WorldRefusal) → i < length es → run_of w (take i es) ≡ v → rs ≡ replies_of w (take i es) →
    r ≡ (happens v (get_or es i d)).0 → rs' ≡ rs ++ r ∷ [] → rs' ≡ replies_of w (take (i + 1) es)
replies_more w v es i d rs rs' r lt so_far told next pushed =
    pushed ∙ ap (λ l. l ++ r ∷ []) told ∙ ap (λ x. replies_of w (take i es) ++ x ∷ []) (next ∙ ap (λ u. (happens u (get_or es i d)).0) (sym so_far)) ∙ sym (replies_append w (take i es) (get_or es i d))
    ∙ ap (replies_of w) (sym (take_more es i d lt))
