-- A frame of the list arrives at the end that it was made for.
use Rattle.std.proofs.Common.{◌≡◌, ℕ, zero, suc, ◌-◌, ◌<◌, length, List, Some, None, refl, sym, ap, ◌∙◌, subst, arith}
use Rattle.std.specs.Prelude.{slice_get}
use Rattle.std.proofs.lemmas.Option.{slice_get_past}
use Rattle.frame_codec.specs.Frame.{Fields}
use Rattle.window_link.specs.declared.arrival.Arrival.{Arrival}
use Rattle.window_link.specs.declared.laws.event.End.{End}
use Rattle.window_link.specs.declared.laws.event.End.TheVariants.{Left, Right}
use Rattle.window_link.specs.declared.laws.event.Posted.{Posted}
use Rattle.window_link.specs.declared.laws.event.LinkReply.{LinkReply}
use Rattle.window_link.specs.declared.laws.event.LinkReply.TheVariants.{Arrived}
use Rattle.window_link.specs.Links.{LinkState, fault_of, arrival_at}
use Rattle.window_link.specs.Streams.{nth, other}
use Rattle.window_link.specs.Two.{Ends, at, Accepts}
use Rattle.window_link.specs.refinement.TwoLinksStep.{with_link, after_taking, arrive_step, ends}

nth-from_get : {X : Type 0} (xs : List X) (k : ℕ) (x : X) → (k ≡ 0 → ⊥) → slice_get xs (k - 1) ≡ Some x → nth xs k ≡ Some x
nth-from_get xs zero x n e = absurd (n refl)
nth-from_get xs (suc k) x n e = let s : suc k - 1 ≡ k = omega arith in subst (λ j. slice_get xs j ≡ Some x) s e

pub nth_zero : {X : Type 0} (xs : List X) (k : ℕ) → k ≡ 0 → nth xs k ≡ None
nth_zero xs k e = ap (nth xs) e

pub nth_past : {X : Type 0} (xs : List X) (k : ℕ) → length xs < k → nth xs k ≡ None
nth_past xs zero h = refl
nth_past xs (suc k) h = slice_get_past xs k (omega arith)

to_end : Ends → End → Fields → LinkReply × Ends
to_end t d f = (Arrived (arrival_at (at t d) f), with_link t d (after_taking (at t d) f))

pub accepted_from : (t : Ends) (k : ℕ) (posted : Posted) (e : End) → Accepts t → slice_get t.frames k ≡ Some posted → posted.by ≡ e → fault_of (at t (other e)) posted.frame ≡ None
accepted_from t k posted e h is by = subst (λ x. fault_of (at t (other x)) posted.frame ≡ None) by (h k posted is)

pub arrived_right : (t : Ends) (k : ℕ) (posted : Posted) (a : Arrival) (l : LinkState) → (k ≡ 0 → ⊥) → slice_get t.frames (k - 1) ≡ Some posted → posted.by ≡ Left →
    a ≡ arrival_at t.right posted.frame → l ≡ after_taking t.right posted.frame → (Arrived a, ends t.left l t.frames) ≡ arrive_step t (nth t.frames k)
unfolding to_end
arrived_right t k posted a l n is by arrival link =
    ap (λ x. (Arrived x, ends t.left l t.frames)) arrival ∙ ap (λ x. (Arrived (arrival_at t.right posted.frame), ends t.left x t.frames)) link
    ∙ ap (λ e. to_end t (other e) posted.frame) (sym by) ∙ ap (arrive_step t) (sym (nth-from_get t.frames k posted n is))

pub arrived_left : (t : Ends) (k : ℕ) (posted : Posted) (a : Arrival) (l : LinkState) → (k ≡ 0 → ⊥) → slice_get t.frames (k - 1) ≡ Some posted → posted.by ≡ Right →
    a ≡ arrival_at t.left posted.frame → l ≡ after_taking t.left posted.frame → (Arrived a, ends l t.right t.frames) ≡ arrive_step t (nth t.frames k)
unfolding to_end
arrived_left t k posted a l n is by arrival link =
    ap (λ x. (Arrived x, ends l t.right t.frames)) arrival ∙ ap (λ x. (Arrived (arrival_at t.left posted.frame), ends x t.right t.frames)) link
    ∙ ap (λ e. to_end t (other e) posted.frame) (sym by) ∙ ap (arrive_step t) (sym (nth-from_get t.frames k posted n is))
