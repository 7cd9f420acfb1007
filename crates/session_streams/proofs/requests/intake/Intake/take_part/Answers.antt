use Rattle.std.proofs.Common.{ℕ, List, All, take, sym, subst, arith}
use Rattle.session_streams.specs.requests.refinement.{Takes, taking_of}
use Rattle.session_streams.proofs.requests_lemmas.Cut.{line_taken}
use Rattle.session_streams.proofs.requests_lemmas.Kept.{IsWithin, all_within, within_before}
use Rattle.session_streams.proofs.requests.intake.Intake.take_part.Goals as goal

pub keep-requires : goal.keep-requires
keep-requires c = subst (λ (at : ℕ). All IsWithin (take at c.args.bytes.now)) (sym c.place_of-at.ensures) (within_before c.args.bytes.now)

pub returns-then-at-bytes-clause-takes : goal.returns-then-at-bytes-clause-takes
returns-then-at-bytes-clause-takes c =
    subst (λ (rest : List ℕ). Takes c.args.plan.now c.args.me (taking_of c.args.self.now) c.args.asked.now.items c.args.bytes.now (taking_of c.end_line.new.self) c.end_line.new.asked.items rest) (sym c.split_at.ensures.back)
    (line_taken c.args.plan.now c.args.me (taking_of c.args.self.now) (taking_of c.keep.new.self) (taking_of c.end_line.new.self) c.args.asked.now.items c.keep.new.asked.items c.end_line.new.asked.items c.args.bytes.now c.place_of-at.result
    c.place_of-at.ensures c.if-at-bytes.true (c.in_ok-keep.ensures.state c.args.plan.now c.args.me) (c.in_ok-keep.ensures.asked c.args.plan.now c.args.me) c.in_ok-end_line.ensures.state c.in_ok-end_line.ensures.asked)

pub keep-requires-2 : goal.keep-requires-2
keep-requires-2 c = all_within c.args.bytes.now c.place_of-at.result c.place_of-at.ensures (omega (arith, c.if-at-bytes.false))
