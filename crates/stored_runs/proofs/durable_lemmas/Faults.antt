-- Why a turn broke off.
use Rattle.std.proofs.Common.{◌≡◌, ℕ, ◌≤◌, inl, inr, Bool, false, List, length, sym, subst, ◌∙◌}
use Rattle.office_journal.specs.declared.event.Entry.{Entry}
use Rattle.office_journal.specs.declared.reply.Refusal.{Refusal}
use Rattle.office_journal.specs.declared.reply.Refusal.TheVariants as refusal
use Rattle.site_core.specs.Limits.{most_entries}
use Rattle.site_core.specs.Journals.{Site, LacksRoom}
use Rattle.locked_office.specs.Calls.{Key, DeskPass, office_with}
use Rattle.socket_pump.specs.declared.pump.PumpFault.{PumpFault}
use Rattle.socket_pump.specs.declared.pump.PumpFault.TheVariants as pump
use Rattle.socket_pump.specs.Wires.{Account}
use Rattle.socket_pump.specs.Turns.{Times}
use Rattle.socket_pump.specs.AdaptiveTurns.{AdaptiveStage, WhileHandling, AtLastRules, AfterRules}
use Rattle.stored_runs.specs.declared.durable.fault.TurnFault.{TurnFault}
use Rattle.stored_runs.specs.declared.durable.fault.TurnFault.TheVariants.{WireFailed, StoreFailed, JournalFull, Memory}
use Rattle.stored_runs.specs.durable.Letting.{BreaksOff}
use Rattle.stored_runs.specs.durable.Breaking.{told_as}
use Rattle.stored_runs.specs.durable.refinement.Faults.{BreaksStanding}

pub wire_failed : (failed : Bool) (es : List Entry) (a b : Account) (f : TurnFault) → f ≡ WireFailed → failed ≡ false → BreaksOff failed es a b f
wire_failed failed es a b f is usable = subst (BreaksOff failed es a b) (sym is) usable

pub standing_broke : (failed : Bool) (es : List Entry) (a b : Account) (f : TurnFault) → BreaksStanding failed f → b.failures ≡ a.failures → BreaksOff failed es a b f
standing_broke failed es a b WireFailed broke same = absurd broke
standing_broke failed es a b StoreFailed broke same = (broke, same)
standing_broke failed es a b JournalFull broke same = absurd broke
standing_broke failed es a b Memory broke same = (broke, same)

-- who lacks room for the reason that the journal is full has a full one
lacks : (s : Site) (why : Refusal) → LacksRoom s why → why ≡ refusal.JournalFull → most_entries ≤ length s.entries
lacks s why (inl full) is = full.1
lacks s why (inr memory) is = let none : refusal.Memory ≡ refusal.JournalFull = sym memory ∙ is in absurd cc

full : (tells : Bool) (tag : ℕ) (k : Key) (last : Times) (now : ℕ) (p : DeskPass) (a b : Account) (q : DeskPass) (then : Times) → AdaptiveStage tells tag k last now p a pump.JournalFull b q then → most_entries ≤ length q.seen
full tells tag k last now p a b q then (WhileHandling handled marks) = handled.fault.1
full tells tag k last now p a b q then (AtLastRules mid received took refused handled why rules fault wire marks) = lacks (office_with k q.seen) why.refusal rules.1.done.ends.1 fault
full tells tag k last now p a b q then (AfterRules mid ruled received took refused done handled rules marked marks made told due_once counts remembers) = told.fault.1

broke : (tells : Bool) (tag : ℕ) (k : Key) (last : Times) (now : ℕ) (p : DeskPass) (a : Account) (f : PumpFault) (b : Account) (q : DeskPass) (then : Times) (failed : Bool) (x y : Account) → AdaptiveStage tells tag k last now p a f b q then → failed ≡ false → y.failures ≡ x.failures →
    BreaksOff failed q.seen x y (told_as f)
broke tells tag k last now p a pump.WireFailed b q then failed x y stage usable same = usable
broke tells tag k last now p a pump.JournalFull b q then failed x y stage usable same = (usable, same, full tells tag k last now p a b q then stage)
broke tells tag k last now p a pump.Memory b q then failed x y stage usable same = (usable, same)

pub pump_broke : (tells : Bool) (tag : ℕ) (k : Key) (last : Times) (now : ℕ) (p : DeskPass) (a : Account) (f : PumpFault) (b : Account) (q : DeskPass) (then : Times) (failed : Bool) (x y : Account) (g : TurnFault) → AdaptiveStage tells tag k last now p a f b q then → failed ≡ false →
    y.failures ≡ x.failures → g ≡ told_as f → BreaksOff failed q.seen x y g
pump_broke tells tag k last now p a f b q then failed x y g stage usable same is = subst (BreaksOff failed q.seen x y) (sym is) (broke tells tag k last now p a f b q then failed x y stage usable same)
