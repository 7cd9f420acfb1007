use Rattle.std.proofs.Common.{rules, ◌≡◌, ◌+◌, ◌≤◌, ℕ, [], length, take, ◌∙◌}
use Rattle.host_files.proofs.inputs_lemmas.ReadInto.{kept, read_in, read_none}
use Rattle.host_files.proofs.inputs.reading.is_end.Goals as goal

pub returns-in-Ok-clause-grown : goal.returns-in-Ok-clause-grown
returns-in-Ok-clause-grown g c =
    let old = c.args.bytes.now.items in
    let held : ℕ = c.len-held.result in
    let size : length old ≡ held = search rules in
    let before : take held c.deref_mut.result.now ≡ old = kept old _ c.deref_mut.result.now c.resize.new.self.items held (held + c.args.room) size (search rules) c.deref_mut.ensures.value c.in_ok-resize.ensures.items in
    let few : c.in-Ok.n ≤ length c.read.new.buf = search rules in
    let room : held + c.in-Ok.n ≤ c.resize.new.self.len = search rules in
    (take c.in-Ok.n c.read.new.buf, c.truncate.ensures.items ∙ read_in old c.deref_mut.result.now c.read.new.buf _ _ held c.in-Ok.n c.resize.new.self.len size before few room, search rules)

pub returns-else-ne-clause-grown : goal.returns-else-ne-clause-grown
returns-else-ne-clause-grown g c =
    let old = c.args.bytes.now.items in
    let held : ℕ = c.len-held.result in
    let size : length old ≡ held = search rules in
    let before : take held c.deref_mut.result.now ≡ old = kept old _ c.deref_mut.result.now c.resize.new.self.items held (held + c.args.room) size (search rules) c.deref_mut.ensures.value c.in_ok-resize.ensures.items in
    let room : held ≤ c.resize.new.self.len = search rules in
    ([], c.truncate-in-Err.ensures.items ∙ read_none old c.deref_mut.result.now c.read.new.buf _ _ held c.resize.new.self.len size before room, search rules)
