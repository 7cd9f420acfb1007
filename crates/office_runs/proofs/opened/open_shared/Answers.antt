use Rattle.std.proofs.Common.{◌≡◌, ◌+◌, List, [], ◌∷◌, ◌++◌, get_or, Some, ap, sym, subst, ◌∙◌, arith}
use Rattle.std.specs.List.{remove}
use Rattle.std.specs.Arc.{arc_value}
use Rattle.own_lock.specs.Passes.{LockView, AreFresh, fresh_pass}
use Rattle.locked_office.specs.Calls.{Key, DeskPass, tag_of}
use Rattle.office_runs.proofs.Dealing.{Dealt, dealt, parted}
use Rattle.office_runs.proofs.opened.open_shared.Goals as goal

-- who gets which of the passes
dealt_out : (shared lock : LockView Key) (all one two rest : List DeskPass) (worker client own : DeskPass) → shared ≡ lock → AreFresh lock tag_of [] 16 all → worker ≡ get_or all 0 worker → one ≡ remove all 0 → client ≡ get_or one 0 client → two ≡ remove one 0 → two ≡ rest ++ own ∷ [] →
    (worker ≡ fresh_pass shared tag_of [] 0) × (client ≡ fresh_pass shared tag_of [] 1) × (own ≡ fresh_pass shared tag_of [] 15) × Dealt (fresh_pass shared tag_of []) 2 13 rest
dealt_out shared lock all one two rest worker client own same fresh first others second left last =
    let here : AreFresh shared tag_of [] 16 all = subst (λ (x : LockView Key). AreFresh x tag_of [] 16 all) (sym same) fresh in
    let from : Dealt (fresh_pass shared tag_of []) 0 16 all = dealt (fresh_pass shared tag_of []) 0 16 all here.0 (λ t lt. let still : t ≡ 0 + t = omega arith in here.1 t lt ∙ ap (λ k. Some (fresh_pass shared tag_of [] k)) still) in
    parted (fresh_pass shared tag_of []) 13 all one two rest worker client own from first others second left last

pub returns-clause-worker : goal.returns-clause-worker
returns-clause-worker c =
    (dealt_out (arc_value c.in_ok-desk-2.desk) c.in_ok-desk.desk c.in_ok-desk.rest.items c.remove-worker.new.self.items c.remove-client.new.self.items c.pop.new.self.items c.remove-worker.result c.remove-client.result c.in-Some.own
    c.in_ok-desk-2.ensures.ok c.in_ok-desk.ensures.fresh c.remove-worker.ensures.value c.remove-worker.ensures.items c.remove-client.ensures.value c.remove-client.ensures.items c.in-Some.ensures.items).0

pub returns-clause-client : goal.returns-clause-client
returns-clause-client c =
    (dealt_out (arc_value c.in_ok-desk-2.desk) c.in_ok-desk.desk c.in_ok-desk.rest.items c.remove-worker.new.self.items c.remove-client.new.self.items c.pop.new.self.items c.remove-worker.result c.remove-client.result c.in-Some.own
    c.in_ok-desk-2.ensures.ok c.in_ok-desk.ensures.fresh c.remove-worker.ensures.value c.remove-worker.ensures.items c.remove-client.ensures.value c.remove-client.ensures.items c.in-Some.ensures.items).1

pub invariant_of-result-clause-last : goal.invariant_of-result-clause-last
invariant_of-result-clause-last c =
    (dealt_out (arc_value c.in_ok-desk-2.desk) c.in_ok-desk.desk c.in_ok-desk.rest.items c.remove-worker.new.self.items c.remove-client.new.self.items c.pop.new.self.items c.remove-worker.result c.remove-client.result c.in-Some.own
    c.in_ok-desk-2.ensures.ok c.in_ok-desk.ensures.fresh c.remove-worker.ensures.value c.remove-worker.ensures.items c.remove-client.ensures.value c.remove-client.ensures.items c.in-Some.ensures.items).2

pub invariant_of-result-clause-others : goal.invariant_of-result-clause-others
invariant_of-result-clause-others c =
    (dealt_out (arc_value c.in_ok-desk-2.desk) c.in_ok-desk.desk c.in_ok-desk.rest.items c.remove-worker.new.self.items c.remove-client.new.self.items c.pop.new.self.items c.remove-worker.result c.remove-client.result c.in-Some.own
    c.in_ok-desk-2.ensures.ok c.in_ok-desk.ensures.fresh c.remove-worker.ensures.value c.remove-worker.ensures.items c.remove-client.ensures.value c.remove-client.ensures.items c.in-Some.ensures.items).3
