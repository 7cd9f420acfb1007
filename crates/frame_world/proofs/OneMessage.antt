-- A number of a link is of one message, whatever is sent.
use Rattle.std.proofs.Common.{◌≡◌, ℕ, zero, suc, ◌+◌, ◌-◌, ◌<◌, Bool, true, false, cond, length, get_or, None, Some, refl, sym, ap, subst, ◌∙◌, arith, ⊎_elim}
use Rattle.std.specs.Prelude.{slice_get, nat_le}
use Rattle.std.proofs.lemmas.Bool.Decides.{nat_tests}
use Rattle.std.proofs.lemmas.Option.{slice_get-get_or}
use Rattle.frame_codec.specs.declared.message.Msg.{Msg}
use Rattle.frame_codec.specs.declared.message.Msg.TheVariants.{AskFork}
use Rattle.frame_codec.specs.Frame.{Fields}
use Rattle.office_map.specs.PlanValue.{PlanValue}
use Rattle.window_link.specs.Links.{LinkState, frame_with}
use Rattle.site_core.specs.Offices.{frame_on}
use Rattle.frame_world.specs.Worlds.{opening, run_of}
use Rattle.frame_world.specs.Headline.{Always, NumbersTellMessages}
use Rattle.frame_world.specs.WorldStates.{State, state_of, starting, IsAccepted}
use Rattle.frame_world.specs.WorldLaws.{through}
use Rattle.frame_world.proofs.OneLink.{Carries, Known, Waits}
use Rattle.frame_world.proofs.Following.{pairs_in, Follows, follows_on, starts, IsNew, old_or_new}
use Rattle.frame_world.proofs.SentFrames.{IsOfLink, of_link}

-- a frame has a message just where it has a number
data IsSaid (f : Fields) : Type 0 where
  Count : (zeroth : f.number ≡ 0) (none : f.msg ≡ None) → IsSaid f
  Message : (m : Msg) (later : 0 < f.number) (is : f.msg ≡ Some m) → IsSaid f

-- a frame that a link made has its count alone, or a message that waits there
data IsMade (l : LinkState) (f : Fields) : Type 0 where
  OfCount : (zeroth : f.number ≡ 0) (none : f.msg ≡ None) → IsMade l f
  OfMessage : (i : ℕ) (m : Msg) (number : f.number ≡ l.sending.acked + suc i) (is : f.msg ≡ Some m) (waits : slice_get l.sending.waiting i ≡ Some m) → IsMade l f

made_on : (l : LinkState) (i : ℕ) (f : Fields) → frame_on l i ≡ Some f → IsMade l f
made_on l zero f e = let is : frame_with l 0 None ≡ f = cc in subst (IsMade l) is (OfCount refl refl)
made_on l (suc i) f e = go (nat_le (suc i) (length l.sending.waiting)) refl e
  where
    before : suc i - 1 ≡ i
    before = omega arith

    go : (b : Bool) → nat_le (suc i) (length l.sending.waiting) ≡ b → cond b (Some (frame_with l (l.sending.acked + suc i) (slice_get l.sending.waiting (suc i - 1)))) None ≡ Some f → IsMade l f
    go true h k =
        let within : i < length l.sending.waiting = grind (arith, nat_tests, h) in
        let m : Msg = get_or l.sending.waiting i AskFork in
        let waits : slice_get l.sending.waiting i ≡ Some m = slice_get-get_or l.sending.waiting i AskFork within in
        let is : frame_with l (l.sending.acked + suc i) (slice_get l.sending.waiting (suc i - 1)) ≡ f = cc in
        subst (IsMade l) is (OfMessage i m refl (ap (slice_get l.sending.waiting) before ∙ waits) waits)
    go false h k = absurd cc

is_said : (l : LinkState) (f : Fields) → IsMade l f → IsSaid f
is_said l f (OfCount zeroth none) = Count zeroth none
is_said l f (OfMessage i m number is waits) = Message m (omega (arith, number)) is

-- two frames of a link
both_made : (l : LinkState) (f g : Fields) → IsMade l f → IsMade l g → f.number ≡ g.number → f.msg ≡ g.msg
both_made l f g (OfCount zeroth none) (OfCount zeroth' none') e = none ∙ sym none'
both_made l f g (OfCount zeroth none) (OfMessage j n number' is' waits') e = absurd (omega (arith, zeroth, number', e))
both_made l f g (OfMessage i m number is waits) (OfCount zeroth' none') e = absurd (omega (arith, number, zeroth', e))
both_made l f g (OfMessage i m number is waits) (OfMessage j n number' is' waits') e =
    let same : i ≡ j = omega (arith, number, number', e) in
    is ∙ sym waits ∙ ap (slice_get l.sending.waiting) same ∙ waits' ∙ sym is'

-- one that was made before, whose message the link carries, and one that is made now
old_and_made : (l : LinkState) (g f : Fields) → IsSaid g → ((m : Msg) → g.msg ≡ Some m → Carries l.sending g.number m) → IsMade l f → g.number ≡ f.number → g.msg ≡ f.msg
old_and_made l g f (Count zeroth none) carries (OfCount zeroth' none') e = none ∙ sym none'
old_and_made l g f (Count zeroth none) carries (OfMessage i m number is waits) e = absurd (omega (arith, zeroth, number, e))
old_and_made l g f (Message n later is) carries (OfCount zeroth' none') e = absurd (omega (arith, later, zeroth', e))
old_and_made l g f (Message n later is) carries (OfMessage i m number is' waits) e = go (carries n is)
  where
    go : Carries l.sending g.number n → g.msg ≡ f.msg
    go (Known le) = absurd (omega (arith, le, number, e))
    go (Waits k at there) =
        let same : k ≡ i = omega (arith, at, number, e) in
        is ∙ sym there ∙ ap (slice_get l.sending.waiting) same ∙ waits ∙ sym is'

-- ---- all frames

record AreTold (plan : PlanValue) (s : State) : Type 0 where
  pub follows : Follows plan s
  pub said : (k : ℕ) (f : Fields) → slice_get s.frames k ≡ Some f → IsSaid f
  pub same : (j k : ℕ) (f g : Fields) → slice_get s.frames j ≡ Some f → slice_get s.frames k ≡ Some g → f.from ≡ g.from → f.to ≡ g.to → f.number ≡ g.number → f.msg ≡ g.msg

told_on : (plan : PlanValue) (s s' : State) → AreTold plan s → IsAccepted plan s s' → AreTold plan s'
told_on plan s s' h i = record {
  follows = follows_on plan s s' h.follows i;
  said = λ k f e. ⊎_elim (h.said k f) (λ n. is_said ((pairs_in s n.sender).link n.receiver) f (made_on ((pairs_in s n.sender).link n.receiver) n.place f n.made)) (old_or_new plan s s' i k f e);
  same = λ j k f g e d from to number. ⊎_elim
      (λ old_f. ⊎_elim
      (λ old_g. h.same j k f g old_f old_g from to number)
      (λ new_g. old_and_new j f g old_f new_g from to number)
      (old_or_new plan s s' i k g d))
      (λ new_f. ⊎_elim
      (λ old_g. sym (old_and_new k g f old_g new_f (sym from) (sym to) (sym number)))
      (λ new_g. both_made ((pairs_in s f.from).link f.to) f g (of_pair f new_f) (subst (λ l. IsMade l g) (ap (λ x. (pairs_in s x).link g.to) (sym from) ∙ ap (λ y. (pairs_in s f.from).link y) (sym to)) (of_pair g new_g)) number)
      (old_or_new plan s s' i k g d))
      (old_or_new plan s s' i j f e);
}
  where
    -- what was made is of the link between its two offices
    of_pair : (f : Fields) → IsNew plan (pairs_in s) f → IsMade ((pairs_in s f.from).link f.to) f
    of_pair f n =
        let o : IsOfLink ((pairs_in s n.sender).link n.receiver) f = of_link ((pairs_in s n.sender).link n.receiver) n.place f n.made in
        let from : n.sender ≡ f.from = sym (o.from ∙ h.follows.linked.me n.sender n.receiver) in
        let to : n.receiver ≡ f.to = sym (o.to ∙ h.follows.linked.peer n.sender n.receiver) in
        subst (λ l. IsMade l f) (ap (λ x. (pairs_in s x).link n.receiver) from ∙ ap (λ y. (pairs_in s f.from).link y) to) (made_on ((pairs_in s n.sender).link n.receiver) n.place f n.made)

    old_and_new : (k : ℕ) (g f : Fields) → slice_get s.frames k ≡ Some g → IsNew plan (pairs_in s) f → g.from ≡ f.from → g.to ≡ f.to → g.number ≡ f.number → g.msg ≡ f.msg
    old_and_new k g f there new from to number =
        old_and_made ((pairs_in s g.from).link g.to) g f (h.said k g there) (h.follows.honest k g there).carries
        (subst (λ l. IsMade l f) (ap (λ x. (pairs_in s x).link f.to) (sym from) ∙ ap (λ y. (pairs_in s g.from).link y) (sym to)) (of_pair f new)) number

told_at_start : (plan : PlanValue) → AreTold plan (starting plan)
told_at_start plan = record { follows = starts plan; said = λ k f e. absurd cc; same = λ j k f g e d from to number. absurd cc }

pub numbers_tell_messages : Always NumbersTellMessages
numbers_tell_messages plan es c = (through plan (AreTold plan) (told_at_start plan) (told_on plan) es).same
