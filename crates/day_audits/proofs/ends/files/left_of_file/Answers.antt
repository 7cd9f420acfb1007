use Rattle.std.proofs.Common.{◌≡◌, take, get_or, arith, refl, rules}
use Rattle.std.specs.String.{string_bytes}
use Rattle.day_audits.proofs.ends_lemmas.FileSessions.{all_told, none_yet, one_fits, one_more}
use Rattle.day_audits.proofs.ends.files.left_of_file.Goals as goal

pub loop-i-init : goal.loop-i-init
loop-i-init c = none_yet c.args.world.now c.args.programs.now (string_bytes c.new-text.result) c.new-text.ensures.bytes

pub add_unfinished-requires-clause-fit : goal.add_unfinished-requires-clause-fit
add_unfinished-requires-clause-fit c =
    let xs = c.args.programs.now in
    let x = c.index-programs-i.result in
    let here : get_or xs c.loop-i.i x ≡ x = search rules in
    one_fits c.args.world.now.plan xs c.loop-i.i x c.requires.fit c.loop-i-test.true here

pub loop-i-preserved : goal.loop-i-preserved
loop-i-preserved c =
    let xs = c.args.programs.now in
    let x = c.index-programs-i.result in
    let here : get_or xs c.loop-i.i x ≡ x = search rules in
    one_more c.args.world.now xs c.loop-i.i x (take c.loop-i.i xs) (string_bytes c.loop-i.text) (string_bytes c.add_unfinished.new.text) c.loop-i-test.true here refl c.loop-i.invariant c.in_ok-add_unfinished.ensures.added c.in_ok-add_unfinished.ensures.read

pub returns : goal.returns
returns c = all_told c.args.world.now c.args.programs.now c.loop-i.i (string_bytes c.loop-i.text) c.texts_are_read_in_turn.ensures c.requires.few (omega (arith, c.loop-i-test.false)) c.loop-i.invariant
