-- Bytes that come, and what is read of them.
use Rattle.std.proofs.Common.{◌≡◌, ℕ, List, Option, None, Some, Result, Ok, Err, sym, ap, subst, ◌∙◌}
use Rattle.frame_codec.specs.Frame.{Fields}
use Rattle.frame_codec.specs.Spelling.{Spells}
use Rattle.frame_codec.specs.declared.fault.FrameFault.{FrameFault}
use Rattle.office_journal.specs.declared.event.Event.TheVariants as event
use Rattle.office_journal.specs.declared.reply.Reply.{Reply}
use Rattle.office_journal.specs.declared.reply.Refusal.{Refusal}
use Rattle.office_journal.specs.declared.reply.Refusal.TheVariants as refusal
use Rattle.site_core.specs.Journals.{Site, Adds, Enters, TakesRead, StepsAddTheirEntry, ReadIsReceived}

entered : (s s' : Site) (tag : ℕ) (bytes : List ℕ) (f : Fields) (result : Result Reply Refusal) → Spells bytes f → Adds s tag (event.Took f) result s' → Enters s tag bytes result s'
entered s s' tag bytes f (Ok r) spelled added = (f, spelled, added)
entered s s' tag bytes f (Err why) spelled added = added

-- what is taken of what was read is received
pub received : StepsAddTheirEntry → ReadIsReceived
received law s tag bytes (Ok f) result s' is steps = record {
  frame = λ g other.
      let read : ◌≡◌ {A = Result Fields FrameFault} (Ok f) (Ok g) = is.only g other in
      let same : f ≡ g = cc in
      subst (λ h. TakesRead s tag (Ok h) result s') same steps;
  fault = λ x e.
      let none : ◌≡◌ {A = Option FrameFault} None (Some x) = is.fault ∙ e in
      absurd cc;
  entry = entered s s' tag bytes f result is.found (law s tag (event.Took f) result s' steps);
}
received law s tag bytes (Err x) result s' is (told, same) = record {
  frame = λ g spelled.
      let read : ◌≡◌ {A = Result Fields FrameFault} (Err x) (Ok g) = is.only g spelled in
      absurd cc;
  fault = λ y e.
      let both : ◌≡◌ {A = Option FrameFault} (Some x) (Some y) = is.fault ∙ e in
      let one : x ≡ y = cc in
      (told ∙ ap (λ z. Err (refusal.Frame z)) one, same);
  entry = subst (λ (r : Result Reply Refusal). Enters s tag bytes r s') (sym told) same;
}
