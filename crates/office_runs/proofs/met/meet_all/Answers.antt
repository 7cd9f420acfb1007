use Rattle.std.proofs.Common.{◌≡◌, ◌+◌, [], length, refl, ap, ◌∙◌, arith}
use Rattle.std.proofs.lemmas.List.{length_push}
use Rattle.own_lock.specs.Passes.{fresh_pass}
use Rattle.locked_office.specs.Calls.{DeskPass, tag_of}
use Rattle.office_runs.proofs.Beginnings.{begins_itself, begins_all}
use Rattle.office_runs.proofs.Dealing.{last_dealt}
use Rattle.office_runs.proofs.Writers.{one_met}
use Rattle.office_runs.proofs.met.meet_all.Goals as goal

pub loop-pass-init : goal.loop-pass-init
loop-pass-init c = record {
  stays = (c.requires.of, refl, c.requires.idle);
  seen = begins_itself c.args.own.now.seen;
  mine = refl;
  left = c.requires.rest;
  none = λ t more less. absurd (omega (arith, more, less));
}

pub meet-requires-clause-first_of : goal.meet-requires-clause-first_of
meet-requires-clause-first_of c =
    let is = (last_dealt (fresh_pass c.args.desk.now tag_of []) 2 c.loop-pass.rest.items c.last.new.passes.items c.in-Some.pass c.loop-pass.invariant.left c.in-Some.ensures.some).0 in
    (ap (λ (p : DeskPass). p.lock) is, ap (λ (p : DeskPass). p.key) is)

pub meet-requires-clause-first_idle : goal.meet-requires-clause-first_idle
meet-requires-clause-first_idle c =
    ap (λ (p : DeskPass). p.holds) (last_dealt (fresh_pass c.args.desk.now tag_of []) 2 c.loop-pass.rest.items c.last.new.passes.items c.in-Some.pass c.loop-pass.invariant.left c.in-Some.ensures.some).0

pub loop-pass-preserved : goal.loop-pass-preserved
loop-pass-preserved c =
    let h = c.loop-pass.invariant in
    let left = c.last.new.passes.items in
    let count : length c.loop-pass.rest.items ≡ length left + 1 = ap length c.in-Some.ensures.some ∙ length_push left c.in-Some.pass in
    let both = last_dealt (fresh_pass c.args.desk.now tag_of []) 2 c.loop-pass.rest.items left c.in-Some.pass h.left c.in-Some.ensures.some in
    let seen = begins_all c.args.own.now.seen c.loop-pass.own.seen c.meet.new.second.seen h.seen c.meet.ensures.second in
    record {
      stays = (c.meet.ensures.stays.0, c.meet.ensures.stays.1 ∙ h.stays.1, c.meet.ensures.stays.2);
      seen = seen;
      mine = ap (λ (p : DeskPass). p.mine) c.meet.ensures.seen ∙ h.mine;
      left = both.1;
      none = one_met c.args.desk.now (2 + length left) (2 + length c.args.rest.items) c.in-Some.pass c.args.own.now.seen c.meet.new.second.seen both.0 seen c.meet.ensures.first_mine (λ t more less. h.none t (omega (arith, more, count)) less);
    }
