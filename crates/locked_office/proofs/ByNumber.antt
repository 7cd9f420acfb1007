-- A message that is sent by its number.
use Rattle.std.proofs.Common.{◌≡◌, ℕ, zero, suc, ◌+◌, ◌-◌, ◌<◌, ◌≤◌, inl, inr, Bool, true, false, cond, length, None, Some, Result, Ok, Err, refl, sym, ap, subst, ◌∙◌, arith}
use Rattle.std.specs.Prelude.{nat_le, nat_lt, ◌&&◌}
use Rattle.std.proofs.lemmas.Bool.Decides.{nat_tests}
use Rattle.frame_codec.specs.Frame.{Fields}
use Rattle.office_map.specs.PlanValue.{are_neighbours}
use Rattle.window_link.specs.Windows.{Sending, used}
use Rattle.window_link.specs.Links.{LinkState, frame_of}
use Rattle.own_lock.specs.Passes.{LockView}
use Rattle.office_journal.specs.declared.event.Event.TheVariants.{Send}
use Rattle.office_journal.specs.declared.reply.Reply.{Reply}
use Rattle.office_journal.specs.declared.reply.Reply.TheVariants.{Frame}
use Rattle.office_journal.specs.declared.reply.Refusal.{Refusal}
use Rattle.office_journal.specs.declared.reply.Refusal.TheVariants.{NotNow, JournalFull}
use Rattle.site_core.specs.Limits.{most_entries}
use Rattle.site_core.specs.Offices.{Office, Answer, frame_on, framed, answer}
use Rattle.site_core.specs.Journals.{Site, IsLegal, office_of, noted, recorded, Steps, StepsAddTheirEntry}
use Rattle.locked_office.specs.Calls.{Key, DeskPass, Did}
use Rattle.site_core.specs.Growing.{link_to}
use Rattle.locked_office.specs.Sends.{WaitsFor, SendsNumber, framed_as}
use Rattle.locked_office.specs.refinement.Holding.{Holds, GivesBack}
use Rattle.locked_office.specs.refinement.Places.{place_in, place_at}
use Rattle.locked_office.proofs.Giving.{did, still, event_grew}

-- ---- where it stands

pub record IsPlace (s : Sending) (n k : ℕ) : Type 0 where
  pub at : s.acked + k ≡ n
  pub some : 0 < k
  pub within : k ≤ length s.waiting

place_is : (s : Sending) (n k : ℕ) → place_in s n ≡ Some k → IsPlace s n k
place_is s n k e = go (nat_lt s.acked n) (nat_lt (n - (s.acked + 1)) (length s.waiting)) refl refl e
  where
    go : (a b : Bool) → nat_lt s.acked n ≡ a → nat_lt (n - (s.acked + 1)) (length s.waiting) ≡ b → cond (a && b) (Some (n - s.acked)) None ≡ Some k → IsPlace s n k
    go true true h i e =
        let is : n - s.acked ≡ k = cc in
        let lt : s.acked < n = grind (arith, nat_tests, h) in
        let le : n - (s.acked + 1) < length s.waiting = grind (arith, nat_tests, i) in
        record { at = omega (arith, is, lt); some = omega (arith, is, lt); within = omega (arith, is, lt, le) }
    go true false h i e = absurd cc
    go false b h i e = absurd cc

no_place : (s : Sending) (n : ℕ) → place_in s n ≡ None → s.acked < n → n ≤ used s → ⊥
no_place s n e lt le = go (nat_lt s.acked n) (nat_lt (n - (s.acked + 1)) (length s.waiting)) refl refl e
  where
    go : (a b : Bool) → nat_lt s.acked n ≡ a → nat_lt (n - (s.acked + 1)) (length s.waiting) ≡ b → cond (a && b) (Some (n - s.acked)) None ≡ None → ⊥
    go true true h i e = absurd cc
    go true false h i e = absurd (grind (arith, nat_tests, i, lt, le))
    go false b h i e = absurd (grind (arith, nat_tests, h, lt))

pub not_there : (s : Site) (v n : ℕ) → place_at s v n ≡ None → WaitsFor s v n → ⊥
not_there s v n e w =
    let here : place_in (link_to s v).sending n ≡ None = sym (ap (λ b. cond b (place_in (link_to s v).sending n) None) w.near) ∙ e in
    no_place (link_to s v).sending n here w.unknown w.sent

-- ---- what the office answers

framed_at : (l : LinkState) (k : ℕ) → 0 < k → k ≤ length l.sending.waiting → frame_on l k ≡ Some (frame_of l k)
framed_at l zero lt le = absurd (omega (arith, lt))
framed_at l (suc i) lt le =
    let fits : nat_le (suc i) (length l.sending.waiting) ≡ true = grind (arith, nat_tests, le) in
    ap (λ b. cond b (Some (frame_of l (suc i))) None) fits

pub record Answers (s : Site) (v n k : ℕ) : Type 0 where
  pub frame : Fields
  pub number : frame.number ≡ n
  pub waits : WaitsFor s v n
  pub answers : answer s.plan s.me (office_of s) (Send v k) ≡ Ok (Frame frame, office_of s)

answers_at : (s : Site) (v n k : ℕ) → place_at s v n ≡ Some k → Answers s v n k
answers_at s v n k e = go (are_neighbours s.plan s.me v) refl e
  where
    o : Office
    o = office_of s

    go : (b : Bool) → are_neighbours s.plan s.me v ≡ b → cond b (place_in (link_to s v).sending n) None ≡ Some k → Answers s v n k
    go true h e =
        let p = place_is (link_to s v).sending n k e in
        record {
          frame = frame_of (link_to s v) k;
          number = p.at;
          waits = record { near = h; unknown = omega (arith, p.at, p.some); sent = omega (arith, p.at, p.within) };
          answers = ap (λ b. cond {A = Answer} b (framed o (frame_on (o.pairs.link v) k)) (Err NotNow)) h ∙ ap (framed o) (framed_at (link_to s v) k p.some p.within);
        }
    go false h e = absurd cc

pub number_sent : (s s' : Site) (tag v n k : ℕ) (result : Result Reply Refusal) → place_at s v n ≡ Some k → length (link_to s v).sending.waiting ≤ 18 → Steps s tag (Send v k) result s' → SendsNumber tag v n (framed_as result) s s'
number_sent s s' tag v n k result at few (inl m) = subst (λ (x : Result Reply Refusal). SendsNumber tag v n (framed_as x) s s') (sym m.0) (m.1, inr refl)
number_sent s s' tag v n k result at few (inr x) = by_room (nat_le most_entries (length s.entries)) refl (x.0 ∙ ap (λ z. z.0) here) (x.1 ∙ ap (λ z. z.1) here)
  where
    a : Answers s v n k
    a = answers_at s v n k at

    here : recorded s tag (Send v k) (answer s.plan s.me (office_of s) (Send v k)) ≡ recorded s tag (Send v k) (Ok (Frame a.frame, office_of s))
    here = ap (recorded s tag (Send v k)) a.answers

    by_room : (b : Bool) → nat_le most_entries (length s.entries) ≡ b → result ≡ (cond {A = Result Reply Refusal × Site} b (Err JournalFull, s) (Ok (Frame a.frame), noted s tag (Send v k) (Frame a.frame))).0 →
        s' ≡ (cond {A = Result Reply Refusal × Site} b (Err JournalFull, s) (Ok (Frame a.frame), noted s tag (Send v k) (Frame a.frame))).1 → SendsNumber tag v n (framed_as result) s s'
    by_room true h r e = subst (λ (x : Result Reply Refusal). SendsNumber tag v n (framed_as x) s s') (sym r) (e, inl (refl, grind (arith, nat_tests, h)))
    by_room false h r e = subst (λ (x : Result Reply Refusal). SendsNumber tag v n (framed_as x) s s') (sym r) (record { waits = a.waits; few = few; place = k; made = e; number = a.number })

-- ---- at the desk

pub number_did : StepsAddTheirEntry → (desk : LockView Key) (p q : DeskPass) (t v n k : ℕ) (result : Result Reply Refusal) (held s s' : Site) → Holds desk p held → s ≡ held → t ≡ p.tag → place_at held v n ≡ Some k → length (link_to held v).sending.waiting ≤ 18 → Steps s t (Send v k) result s' →
    q.seen ≡ s'.entries → IsLegal s' → GivesBack p q s' → Did (λ x x'. SendsNumber p.tag v n (framed_as result) x x') desk.key p q
number_did law desk p q t v n k result held s s' h same tag at few steps seen legal back =
    let mine = subst (λ m. Steps s m (Send v k) result s') tag steps in
    did (λ x x'. SendsNumber p.tag v n (framed_as result) x x') desk p q s s' (still desk p held s h same) (event_grew law p t (Send v k) result s s' tag steps)
    (number_sent s s' p.tag v n k result (ap (λ (o : Site). place_at o v n) same ∙ at) (subst (λ (o : Site). length (link_to o v).sending.waiting ≤ 18) (sym same) few) mine) seen legal back
