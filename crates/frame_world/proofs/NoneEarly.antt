-- No event of a world is answered that a frame comes too early.
use Rattle.std.proofs.Common.{◌≡◌, ◌≢◌, ℕ, zero, suc, ◌+◌, ◌≤◌, Bool, true, false, cond, length, Option, None, Some, Ok, Err, refl, sym, subst, ◌∙◌, arith}
use Rattle.std.specs.Prelude.{slice_get, nat_le, nat_lt}
use Rattle.frame_codec.specs.declared.message.Msg.{Msg}
use Rattle.frame_codec.specs.Frame.{Fields}
use Rattle.window_link.specs.declared.arrival.Arrival.{Arrival}
use Rattle.window_link.specs.declared.arrival.Arrival.TheVariants as arrival
use Rattle.window_link.specs.Windows as windows
use Rattle.window_link.specs.Links.{brings}
use Rattle.window_link.specs.Limits.{most_kept}
use Rattle.window_link.specs.WindowLaws.{Stands, stands}
use Rattle.office_journal.specs.declared.event.Event as office
use Rattle.office_journal.specs.declared.event.Event.TheVariants as event
use Rattle.office_journal.specs.declared.reply.Reply.{Reply}
use Rattle.office_journal.specs.declared.reply.Reply.TheVariants as reply
use Rattle.office_journal.specs.declared.reply.Refusal.TheVariants as refused
use Rattle.site_core.specs.Limits.{most_entries}
use Rattle.site_core.specs.Replies.{reply_to}
use Rattle.site_core.specs.Offices.{Office, Answer, answer}
use Rattle.site_core.specs.Journals.{Site, office_of, noted, recorded, step}
use Rattle.frame_world.specs.declared.event.WorldEvent.{WorldEvent}
use Rattle.frame_world.specs.declared.event.WorldEvent.TheVariants as happening
use Rattle.frame_world.specs.declared.refusal.WorldRefusal.TheVariants as refusal
use Rattle.frame_world.specs.Worlds.{World, opening, run_of, site_at, office_at, told, handed, delivered, happens}
use Rattle.frame_world.specs.Ways.{pairs_at}
use Rattle.frame_world.specs.Headline.{Always, NoneIsEarly}
use Rattle.frame_world.specs.Waiting.{NoFrameIsFarAhead}
use Rattle.frame_world.proofs.Answers.{was_submitted, was_done, was_sent, was_taken, was_withdrawn}

-- what is told of an accepted event is the office's reply
handed_reply : (w : World) (a : ℕ) (e : office.Event) (P : Reply → Type 0) → ((r : Reply) (o : Office) → answer (site_at w a).plan (site_at w a).me (office_at w a) e ≡ Ok (r, o) → P r) → (r : Reply) → (handed w a e).0 ≡ Ok r → P r
handed_reply w a e P replies r is = by_place (nat_lt a (length w.sites)) is
  where
    s : Site
    s = site_at w a

    by_room : (x : Reply × Office) → P x.0 → (full : Bool) → (told w a e (cond full (Err refused.JournalFull, s) (Ok x.0, noted s 0 e x.0))).0 ≡ Ok r → P r
    by_room x h true is = absurd cc
    by_room x h false is = let same : x.0 ≡ r = cc in subst P same h

    by_answer : (x : Answer) → answer s.plan s.me (office_of s) e ≡ x → (told w a e (recorded s 0 e x)).0 ≡ Ok r → P r
    by_answer (Ok x) ans is = by_room x (replies x.0 x.1 ans) (nat_le most_entries (length s.entries)) is
    by_answer (Err x) ans is = absurd cc

    by_place : (b : Bool) → (cond b (told w a e (step s 0 e)) (Err refusal.NoOffice, w)).0 ≡ Ok r → P r
    by_place true is = by_answer (answer s.plan s.me (office_of s) e) refl is
    by_place false is = absurd cc

-- a message up to so far past the taken ones isn't early
in_reach : (taken number : ℕ) (msg : Option Msg) → number ≤ taken + most_kept → reply_to (brings taken number msg) ≢ reply.Early
in_reach taken number None h e = absurd cc
in_reach taken number (Some m) h e = go (windows.arrival taken number m) (stands taken number m) e
  where
    go : (a : Arrival) → Stands taken number m a → reply_to a ≢ reply.Early
    go (arrival.Fresh x) s k = absurd cc
    go arrival.Acked s k = absurd cc
    go arrival.Repeat s k = absurd cc
    go arrival.Kept s k = absurd cc
    go arrival.Early s k = omega (arith, s, h)

pub none_is_early : Always NoFrameIsFarAhead → Always NoneIsEarly
none_is_early near plan es c e r is = by e is
  where
    w : World
    w = run_of (opening plan) es

    of_office : (a : ℕ) (e : office.Event) → ((r : Reply) (o : Office) → answer (site_at w a).plan (site_at w a).me (office_at w a) e ≡ Ok (r, o) → r ≢ reply.Early) → (handed w a e).0 ≡ Ok r → r ≢ reply.Early
    of_office a e replies is = handed_reply w a e (λ x. x ≢ reply.Early) replies r is

    comes : (k : ℕ) (f : Option Fields) → slice_get w.frames k ≡ f → (delivered w f).0 ≡ Ok r → r ≢ reply.Early
    comes k None at is = absurd cc
    comes k (Some f) at is = of_office f.to (event.Took f) (λ x o ans.
        let t = was_taken (site_at w f.to).plan (site_at w f.to).me (office_at w f.to) f x o ans in
        subst (λ y. y ≢ reply.Early) (sym t.told) (in_reach ((pairs_at w f.to).link f.from).receiving.taken f.number f.msg (near plan es c (suc k) f at))) is

    by : (e : WorldEvent) → (happens w e).0 ≡ Ok r → r ≢ reply.Early
    by (happening.Submit a p) is = of_office a (event.Submit p) (λ x o ans early.
        let t = was_submitted (site_at w a).plan (site_at w a).me (office_at w a) p x o ans in
        let no : reply.Ticket ((office_at w a).agenda.tickets + 1) ≡ reply.Early = sym t.told ∙ early in
        absurd cc) is
    by (happening.Withdraw a ticket) is = of_office a (event.Withdraw ticket) (λ x o ans early.
        let t = was_withdrawn (office_at w a) ticket x o ans in
        let no : reply.Done ≡ reply.Early = sym t.told ∙ early in
        absurd cc) is
    by (happening.Do a rule) is = of_office a (event.Do rule) (λ x o ans early.
        let t = was_done (site_at w a).plan (site_at w a).me (office_at w a) rule x o ans in
        let no : reply.Done ≡ reply.Early = sym t.told ∙ early in
        absurd cc) is
    by (happening.Send a v i) is = of_office a (event.Send v i) (λ x o ans early.
        let t = was_sent (site_at w a).plan (site_at w a).me (office_at w a) v i x o ans in
        let no : reply.Frame t.frame ≡ reply.Early = sym t.told ∙ early in
        absurd cc) is
    by (happening.Deliver zero) is = absurd cc
    by (happening.Deliver (suc k)) is = comes k (slice_get w.frames k) refl is
