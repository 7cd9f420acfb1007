use Rattle.std.proofs.Common.{ℕ, List, Option, None, Some, subst}
use Rattle.std.specs.String.{string_bytes}
use Rattle.std.specs.Io.KnownBytes.{Appends, Keeps, append_known}
use Rattle.std.proofs.lemmas.Result.{on_ok_weaker}
use Rattle.host_files.proofs.outputs.outgoing.Outgoing.write_rest.Goals as goal

-- a writer that took all that had gathered holds it
all_taken : (old new : Option (List ℕ)) (text : List ℕ) → Appends old new text → Keeps (append_known old text) new
all_taken None new text took = tt
all_taken (Some x) None text took = absurd took
all_taken (Some x) (Some y) text took = took

pub returns : goal.returns
returns g c =
    let old = g.W.Write.contents c.args.writer.now in
    let new = g.W.Write.contents c.write_whole.new.writer in
    let text = string_bytes c.args.self.text in
    let more : Appends old new c.as_bytes.result.now → Keeps (append_known old text) new = λ took. all_taken old new text (subst (Appends old new) c.as_bytes.ensures.value took) in
    on_ok_weaker c.write_whole.result more c.write_whole.ensures.whole
