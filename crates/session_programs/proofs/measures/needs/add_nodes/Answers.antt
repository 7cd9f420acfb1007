use Rattle.std.proofs.Common.{◌≡◌, rules}
use Rattle.session_programs.specs.measures.Needs.{with_record}
use Rattle.session_programs.proofs.measures_lemmas.PostfixNeeds.{read_next, other_next}
use Rattle.session_programs.proofs.measures.needs.add_nodes.Goals.{in-Read+in_ok-add_record, in_default}
use Rattle.session_programs.proofs.measures.needs.add_nodes.Goals as goal

pub loop-i-preserved : goal.loop-i-preserved
loop-i-preserved c = elim c.match-part.branch [
  | in-Read+in_ok-add_record w ↦
      let more : c.match-part.needs.items ≡ with_record w.in-Read.id c.loop-i.needs.items = search rules in
      read_next c.args.nodes.now c.loop-i.i w.in-Read.id c.loop-i.needs.items c.match-part.needs.items _ w.in-Read.ensures more c.loop-i.invariant
  | in_default w ↦
      let same : c.match-part.needs.items ≡ c.loop-i.needs.items = search rules in
      other_next c.args.nodes.now c.loop-i.i c.part.result c.loop-i.needs.items c.match-part.needs.items _ c.part.ensures w.in_default.not-Read same c.loop-i.invariant
]
