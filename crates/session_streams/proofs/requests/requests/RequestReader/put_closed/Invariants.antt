use Rattle.std.proofs.Common.{◌≡◌, length}
use Rattle.std.specs.Vec.Iter.{into_iter_items, into_iter_len}
use Rattle.session_streams.specs.requests.refinement.{asking_of}
use Rattle.session_streams.proofs.requests_lemmas.Heard.{Puts}
use Rattle.session_streams.proofs.requests.requests.RequestReader.put_closed.Given as goal

abbrev pub invariant-loop-program : goal.invariant-loop-program
invariant-loop-program l = Puts (asking_of l.initial.self) l.initial.asked.items l.fn.closed.items (asking_of l.self) l.asked.items (into_iter_items l.program-iterator)
    × (into_iter_len l.program-iterator ≡ length (into_iter_items l.program-iterator))
