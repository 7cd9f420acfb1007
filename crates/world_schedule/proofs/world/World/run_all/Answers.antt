use Rattle.std.proofs.Common.{◌≡◌, ℕ, take, inr, sym, ap, ◌∙◌, arith}
use Rattle.std.proofs.lemmas.Bool.{iff_false}
use Rattle.frame_world.specs.Worlds.{happens, run_of}
use Rattle.world_schedule.proofs.Runs.{not_memory, was_memory, memory_accepts, next_accepts, run_more, replies_more}
use Rattle.world_schedule.proofs.world.World.run_all.Goals as goal

pub loop-event-preserved : goal.loop-event-preserved
loop-event-preserved c =
    let v = c.loop-event.self in
    let v' = c.apply-reply.new.self in
    let e = c.event-item.result in
    let i : ℕ = c.loop-event.event-index in
    let k = c.loop-event.invariant in
    let h = not_memory v v' e c.apply-reply.result c.apply-reply.ensures (iff_false c.is_memory.ensures c.if-is_memory.false) in
    let reply = h.0 ∙ ap (λ x. (happens v x).0) c.event-item.is in
    let next = h.1 ∙ ap (λ x. (happens v x).1) c.event-item.is in
    record {
      counted = omega (arith, c.push_reserved.ensures.len, k.counted);
      room = omega (arith, c.push_reserved.ensures.capacity, k.room);
      world = run_more c.args.self.now v v' c.args.events.now i e c.loop-event-test.true k.world next;
      told = replies_more c.args.self.now v c.args.events.now i e c.loop-event.replies.items c.push_reserved.new.self.items c.apply-reply.result c.loop-event-test.true k.world k.told reply c.push_reserved.ensures.items;
    }

pub returns-then-is_memory-clause-stopped : goal.returns-then-is_memory-clause-stopped
returns-then-is_memory-clause-stopped c =
    let v = c.loop-event.self in
    let v' = c.apply-reply.new.self in
    let k = c.loop-event.invariant in
    let i : ℕ = c.loop-event.event-index in
    let e = c.event-item.result in
    let memory = c.is_memory.ensures.0 c.if-is_memory.true in
    let done : i ≡ c.len-done.result = omega (arith, k.counted, c.len-done.ensures) in
    let same : v' ≡ v = was_memory v v' e c.apply-reply.result c.apply-reply.ensures memory in
    let accepts = memory_accepts v v' e c.apply-reply.result c.apply-reply.ensures memory in
    record {
      within = omega (arith, done, c.loop-event-test.true);
      world = same ∙ sym k.world ∙ ap (λ n. run_of c.args.self.now (take n c.args.events.now)) done;
      next = inr (next_accepts v v' e c.args.events.now i c.len-done.result done c.event-item.is same accepts);
    }
