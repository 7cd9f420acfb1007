-- What is told of a world that is left to itself is one thing.
use Rattle.std.proofs.Common.{◌≡◌, ◌≢◌, ℕ, suc, ◌+◌, ◌≤◌, Bool, true, false, List, [], ◌∷◌, length, Result, Ok, Err, sym, ap, ap₂, subst, ◌∙◌, arith, inl, inr}
use Rattle.std.specs.Prelude.{IsOk}
use Rattle.office_journal.specs.declared.reply.Reply.{Reply}
use Rattle.frame_world.specs.declared.event.WorldEvent.{WorldEvent}
use Rattle.frame_world.specs.declared.refusal.WorldRefusal.{WorldRefusal}
use Rattle.frame_world.specs.declared.next_step.NextStep.{NextStep}
use Rattle.frame_world.specs.declared.next_step.NextStep.TheVariants as next
use Rattle.frame_world.specs.Worlds.{World, Answer, happens, AreAccepted}
use Rattle.frame_world.specs.Worlds as worlds
use Rattle.frame_world.specs.Standstill.{next_step, AllAreFinished}
use Rattle.simulation.specs.declared.scripts.said.Said.TheVariants.{Replied, Rules, Settled, Open}
use Rattle.simulation.specs.scripts.Runs.{Told, replied}
use Rattle.simulation.specs.scripts.Settling.{events_of, IsRefused, Lead, Ends, WorldsSettleInOneWay}
use Rattle.simulation.proofs.scripts_lemmas.Settling.{next_if_finished}

-- ---- a step that is refused

accepted_or_refused : (w : World) (e : WorldEvent) (r : WorldRefusal) (v : World) → IsOk (happens w e).0 → happens w e ≡ (Err r, v) → ⊥
accepted_or_refused w e r v ok is = absurd (let clash : ◌≡◌ {A = Bool} false true = subst (λ (x : Result Reply WorldRefusal). IsOk x) (ap (λ (x : Answer). x.0) is) ok in cc)

not_both : (w : World) (es : List WorldEvent) (r : WorldRefusal) (v : World) → AreAccepted w es → IsRefused w es r v → ⊥
not_both w [] r v ok h = h
not_both w (e ∷ es) r v (ok, rest) (inl is) = accepted_or_refused w e r v ok is
not_both w (e ∷ es) r v (ok, rest) (inr k) = not_both (happens w e).1 es r v rest k.1

one_answer : (x : Answer) (r q : WorldRefusal) (u v : World) → x ≡ (Err r, u) → x ≡ (Err q, v) → ◌≡◌ {A = Told} (Err r, u) (Err q, v)
one_answer x r q u v a b = ap replied (sym a ∙ b)

one_refusal : (w : World) (es : List WorldEvent) (r q : WorldRefusal) (u v : World) → IsRefused w es r u → IsRefused w es q v → ◌≡◌ {A = Told} (Err r, u) (Err q, v)
one_refusal w [] r q u v h k = absurd h
one_refusal w (e ∷ es) r q u v (inl a) (inl b) = one_answer (happens w e) r q u v a b
one_refusal w (e ∷ es) r q u v (inl a) (inr b) = absurd (accepted_or_refused w e r u b.0 a)
one_refusal w (e ∷ es) r q u v (inr a) (inl b) = absurd (accepted_or_refused w e q v a.0 b)
one_refusal w (e ∷ es) r q u v (inr a) (inr b) = one_refusal (happens w e).1 es r q u v a.1 b.1

-- where no session is left no step comes, and none is refused
none_comes : (w : World) (s : NextStep) → next_step w ≡ s → s ≢ next.AllFinished → AllAreFinished w → ⊥
none_comes w s is done all = done (sym is ∙ next_if_finished w all)

none_is_refused : (w : World) (r : WorldRefusal) (v : World) → AllAreFinished w → IsRefused w (events_of w (next_step w)) r v → ⊥
none_is_refused w r v all h = subst (λ s. IsRefused w (events_of w s) r v) (next_if_finished w all) h

-- ---- after as many steps

same_end : (most done : ℕ) (w : World) (t u : Told) → Ends most done w t → Ends most done w u → t ≡ u
same_end most done w (Ok (Settled n), v) (Ok (Settled m), x) (a, b, c, all) (d, e, f, others) = ap₂ (λ (k : ℕ) (y : World). (Ok (Settled k), y)) (b ∙ sym e) (a ∙ sym d)
same_end most done w (Ok (Settled n), v) (Ok (Open m), x) (a, b, c, all) (d, e, f, some) = absurd (some all)
same_end most done w (Ok (Settled n), v) (Err q, x) (a, b, c, all) (few, is, full) = absurd (none_is_refused w q x all is)
same_end most done w (Ok (Open n), v) (Ok (Settled m), x) (a, b, c, some) (d, e, f, all) = absurd (some all)
same_end most done w (Ok (Open n), v) (Ok (Open m), x) (a, b, c, some) (d, e, f, others) = ap₂ (λ (k : ℕ) (y : World). (Ok (Open k), y)) (b ∙ sym e) (a ∙ sym d)
same_end most done w (Ok (Open n), v) (Err q, x) (a, b, c, some) (few, is, full) = absurd (omega (arith, b, c, few))
same_end most done w (Err r, v) (Ok (Settled m), x) (few, is, full) (d, e, f, all) = absurd (none_is_refused w r v all is)
same_end most done w (Err r, v) (Ok (Open m), x) (few, is, full) (d, e, f, some) = absurd (omega (arith, e, f, few))
same_end most done w (Err r, v) (Err q, x) (few, is, full) (less, was, filled) = one_refusal w (events_of w (next_step w)) r q v x is was
same_end most done w (Ok (Replied r), v) u h k = absurd h
same_end most done w (Ok (Rules n), v) u h k = absurd h
same_end most done w (Ok (Settled n), v) (Ok (Replied r), x) h k = absurd k
same_end most done w (Ok (Settled n), v) (Ok (Rules m), x) h k = absurd k
same_end most done w (Ok (Open n), v) (Ok (Replied r), x) h k = absurd k
same_end most done w (Ok (Open n), v) (Ok (Rules m), x) h k = absurd k
same_end most done w (Err r, v) (Ok (Replied q), x) h k = absurd k
same_end most done w (Err r, v) (Ok (Rules m), x) h k = absurd k

-- ---- after fewer

within : (most done : ℕ) (w : World) (t : Told) → Ends most done w t → done ≤ most
within most done w (Ok (Settled n), v) (a, b, c, all) = omega (arith, b, c)
within most done w (Ok (Open n), v) (a, b, c, some) = omega (arith, b, c)
within most done w (Err r, v) (few, is, full) = omega (arith, few)
within most done w (Ok (Replied r), v) h = absurd h
within most done w (Ok (Rules n), v) h = absurd h

-- where it ends no step that is accepted comes, unless all that were asked for are done
goes_no_further : (most done : ℕ) (w : World) (t : Told) (s : NextStep) → Ends most done w t → next_step w ≡ s → s ≢ next.AllFinished → AreAccepted w (events_of w s) → suc done ≤ most → ⊥
goes_no_further most done w (Ok (Settled n), v) s (a, b, c, all) is one ok more = none_comes w s is one all
goes_no_further most done w (Ok (Open n), v) s (a, b, c, some) is one ok more = absurd (omega (arith, b, c, more))
goes_no_further most done w (Err r, v) s (few, was, full) is one ok more = not_both w (events_of w s) r v ok (subst (λ x. IsRefused w (events_of w x) r v) is was)
goes_no_further most done w (Ok (Replied r), v) s h is one ok more = h
goes_no_further most done w (Ok (Rules n), v) s h is one ok more = h

-- ---- all steps

same_told : (most before : ℕ) (w x y : World) (ss rs : List NextStep) (t u : Told) → Lead w ss x → Lead w rs y → Ends most (before + length ss) x t → Ends most (before + length rs) y u → t ≡ u
same_told most before w x y [] [] t u l m h k = same_end most (before + 0) w t u (subst (λ v. Ends most (before + 0) v t) l h) (subst (λ v. Ends most (before + 0) v u) m k)
same_told most before w x y [] (r ∷ rs) t u l (is, one, ok, m) h k =
    let far : before + length (r ∷ rs) ≤ most = within most (before + length (r ∷ rs)) y u k in
    absurd (goes_no_further most (before + 0) w t r (subst (λ v. Ends most (before + 0) v t) l h) is one ok (omega (arith, far)))
same_told most before w x y (s ∷ ss) [] t u (is, one, ok, l) m h k =
    let far : before + length (s ∷ ss) ≤ most = within most (before + length (s ∷ ss)) x t h in
    absurd (goes_no_further most (before + 0) w u s (subst (λ v. Ends most (before + 0) v u) m k) is one ok (omega (arith, far)))
same_told most before w x y (s ∷ ss) (r ∷ rs) t u (is, one, ok, l) (was, other, fine, m) h k =
    let same : r ≡ s = sym was ∙ is in
    let here : before + length (s ∷ ss) ≡ (before + 1) + length ss = omega arith in
    let there : before + length (r ∷ rs) ≡ (before + 1) + length rs = omega arith in
    same_told most (before + 1) (worlds.run_of w (events_of w s)) x y ss rs t u l (subst (λ q. Lead (worlds.run_of w (events_of w q)) rs y) same m)
    (subst (λ n. Ends most n x t) here h) (subst (λ n. Ends most n y u) there k)

pub worlds_settle_in_one_way : WorldsSettleInOneWay
worlds_settle_in_one_way w most t u f g =
    let first : length f.steps ≡ 0 + length f.steps = omega arith in
    let second : length g.steps ≡ 0 + length g.steps = omega arith in
    same_told most 0 w f.world g.world f.steps g.steps t u f.lead g.lead (subst (λ n. Ends most n f.world t) first f.ends) (subst (λ n. Ends most n g.world u) second g.ends)
