use Rattle.std.proofs.Common.{rules, ◌≡◌, ◌∙◌, [], length, sym, ap, arith}
use Rattle.std.proofs.lemmas.List.{nil_from_length}
use Rattle.std.specs.Vec.Iter.{into_iter_items}
use Rattle.office_runs.specs.live.refinement.Ends.{with_programs}
use Rattle.office_runs.proofs.live_lemmas.Lists.{none_made_yet, one_more_made, one_taken, room_left, all_made}
use Rattle.office_runs.proofs.live.crew.start_all.Goals as goal

pub loop-crew-init : goal.loop-crew-init
loop-crew-init g c =
    let none = ap length c.in_ok-running.ensures.items in
    let same = ap length c.into_iter-crew-iterator.ensures.into_iter_gives.0 in
    let size : length c.args.crews.items ≡ c.len.result = search rules in
    record {
      all = none_made_yet (with_programs c.args.programs.now) c.in_ok-running.running.items (into_iter_items c.into_iter-crew-iterator.result) c.args.crews.items c.in_ok-running.ensures.items c.into_iter-crew-iterator.ensures.into_iter_gives.0;
      size = search rules;
      room = omega (arith, none, same, size, c.in_ok-running.ensures.capacity);
    }

pub loop-crew-preserved : goal.loop-crew-preserved
loop-crew-preserved g c = record {
  all = one_more_made (with_programs c.args.programs.now) c.loop-crew.running.items c.put.new.list.items c.start_crew-one.result c.in-Some.crew (into_iter_items c.loop-crew.crew-iterator) (into_iter_items c.next.new.self) _ c.put.ensures.items c.start_crew-one.ensures c.in-Some.ensures.steps.0 c.loop-crew.invariant.all;
  size = one_taken c.in-Some.crew (into_iter_items c.loop-crew.crew-iterator) (into_iter_items c.next.new.self) _ _ c.in-Some.ensures.steps.0 c.in-Some.ensures.steps.1 c.loop-crew.invariant.size;
  room = room_left (with_programs c.args.programs.now) c.loop-crew.running.items c.put.new.list.items c.start_crew-one.result c.in-Some.crew (into_iter_items c.loop-crew.crew-iterator) (into_iter_items c.next.new.self) _ _ c.put.ensures.items c.in-Some.ensures.steps.0 c.put.ensures.room c.loop-crew.invariant.room;
}

pub returns : goal.returns
returns g c =
    let none : into_iter_items c.loop-crew.crew-iterator ≡ [] = nil_from_length (into_iter_items c.loop-crew.crew-iterator) (sym c.loop-crew.invariant.size ∙ c.in-None.ensures.steps.0) in
    all_made (with_programs c.args.programs.now) c.loop-crew.running.items (into_iter_items c.loop-crew.crew-iterator) _ none c.loop-crew.invariant.all
