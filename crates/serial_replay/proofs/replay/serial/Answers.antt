use Rattle.std.proofs.Common.{◌≡◌, ◌<◌, ◌+◌, length, take, get_or, sym, ap, subst, ◌∙◌}
use Rattle.std.proofs.Math.ListN.{set}
use Rattle.serial_replay.specs.Serial.{start_map, map_of}
use Rattle.serial_replay.proofs.replay.serial.Goals as goal
use Rattle.serial_replay.proofs.ValueTables as tables

pub loop-program-preserved : goal.loop-program-preserved
loop-program-preserved c =
    let inv = c.loop-program.invariant in
    let i = c.loop-program.program-index in
    let ps = c.args.programs.now in
    let p = c.program-item.result in
    let m = start_map c.args.plan.now in
    let n = length c.args.plan.now.records in
    let lt = c.loop-program-test.true in
    let is = c.program-item.is in
    let asked = rw c.deref.ensures.value at c.in_ok-ending.ensures in
    let ends = asked (map_of m (take i ps)) (tables.own_size c.loop-program.values.items n (map_of m (take i ps)) inv.0) in
    let written = rw c.as_slice.ensures at c.write_all.ensures n (map_of m (take i ps)) inv.0 in
    let near = tables.office_within c.args.plan.now ps i p c.requires.fit lt is in
    let within : p.office < length c.loop-program.counts.items = rw (sym inv.1) at near in
    let cs = c.loop-program.counts.items in
    let ticket : c.count_one-ticket.result ≡ get_or cs p.office 0 + 1 = rw c.office.ensures at c.count_one-ticket.ensures.count in
    let told = rw c.office.ensures at c.count_one-ticket.ensures.counts in
    let counted : c.count_one-ticket.new.counts.items ≡ set cs p.office (get_or cs p.office 0 + 1) = rw ticket at told in
    let fits = tables.counts_more cs ps i p lt is within inv.2 in
    let by_office = rw c.office-in-loop-program.ensures at c.in_ok-push.ensures.items in
    let by_ticket = rw ticket at by_office in (
      tables.values_step m ps i p c.write_all.new.values.items n c.in_ok-ending.ending lt is ends written,
      ap length counted ∙ tables.length-set_at cs p.office (get_or cs p.office 0 + 1) ∙ inv.1,
      subst (λ xs. tables.IsCounts xs (take (i + 1) ps)) (sym counted) fits,
      by_ticket ∙ tables.outcomes_step m ps i p c.loop-program.outcomes.items cs c.in_ok-ending.ending lt is ends within inv.2 inv.3,
    )
