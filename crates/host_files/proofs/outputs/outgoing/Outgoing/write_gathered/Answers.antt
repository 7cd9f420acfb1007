use Rattle.std.proofs.Common.{◌≡◌, ℕ, List, [], ◌++◌, Option, sym, ap, subst, ◌∙◌}
use Rattle.std.specs.String.{string_bytes}
use Rattle.std.specs.Io.KnownBytes.{Appends, Keeps, append_known}
use Rattle.std.proofs.lemmas.List.{append-nil}
use Rattle.std.proofs.KnownBytes.{append_known-moved}
use Rattle.host_files.proofs.outputs.outgoing.Outgoing.write_gathered.Goals as goal

-- what the writer took hasn't gathered any more
moved : (old new : Option (List ℕ)) (text left : List ℕ) → Appends old new text → left ≡ [] → Keeps (append_known old text) (append_known new left)
moved old new text left took none = append_known-moved old new text left text took (sym (append-nil text) ∙ ap (λ l. text ++ l) (sym none))

pub returns-in-Ok-clause-bytes : goal.returns-in-Ok-clause-bytes
returns-in-Ok-clause-bytes g c =
    let old = g.W.Write.contents c.args.writer.now in
    let new = g.W.Write.contents c.write_all.new.self in
    let text = string_bytes c.args.self.now.text in
    let took : Appends old new text = subst (Appends old new) c.as_bytes.ensures.value c.in-Ok.ensures.bytes in
    moved old new text (string_bytes c.clear.new.self) took c.clear.ensures.bytes
