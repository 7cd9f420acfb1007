use Rattle.std.proofs.Common.{rules, ◌≡◌, ◌++◌, codes}
use Rattle.std.specs.String.{string_bytes}
use Rattle.std.specs.Fmt.{decimal}
use Rattle.session_meaning.specs.Tree.{When, Choice, Loop}
use Rattle.session_meaning.specs.refinement.TreeOfStatements.{test_of, command_of, block_of}
use Rattle.session_programs.specs.Text.{words_of, test_text, block_text, line}
use Rattle.session_meaning.specs.declared.tree.Statement.TheViews.{the_lemmas}
use Rattle.session_meaning.specs.refinement.RowLaws.{row_block_is}
use Rattle.session_programs.proofs.Texts.{written_3, written_5}
use Rattle.session_programs.proofs.listing.+listing.Goals as goal

pub write_statement-returns-in_ok-write_block-in-If : goal.write_statement-returns-in_ok-write_block-in-If
write_statement-returns-in_ok-write_block-in-If t c =
    let e : command_of c.args.statement.now ≡ When (test_of c.deref-in-If.result.now) (block_of c.deref-in-If-2.result.now) = search (rules, the_lemmas, row_block_is) in
    let w = words_of c.args.words.now in
    rw e (written_3 c.write_end.result (string_bytes c.args.out.now) (string_bytes c.write_if.new.out) (string_bytes c.write_block.new.out) (string_bytes c.write_end.new.out)
    (line (codes "if " ++ test_text w (test_of c.deref-in-If.result.now))) (block_text w (block_of c.deref-in-If-2.result.now)) (line (codes "end"))
    c.in_ok-write_if-in-If.ensures c.in_ok-write_block-in-If.ensures c.write_end.ensures)

pub write_statement-returns-in_ok-write_block-in-IfElse-2 : goal.write_statement-returns-in_ok-write_block-in-IfElse-2
write_statement-returns-in_ok-write_block-in-IfElse-2 t c =
    let e : command_of c.args.statement.now ≡ Choice (test_of c.deref-in-IfElse.result.now) (block_of c.deref-in-IfElse-2.result.now) (block_of c.deref-in-IfElse-3.result.now) = search (rules, the_lemmas, row_block_is) in
    let w = words_of c.args.words.now in
    rw e (written_5 c.write_end-in-IfElse.result (string_bytes c.args.out.now) (string_bytes c.write_if-in-IfElse.new.out) (string_bytes c.write_block-in-IfElse.new.out) (string_bytes c.push_str.new.self) (string_bytes c.write_block-in-IfElse-2.new.out) (string_bytes c.write_end-in-IfElse.new.out)
    (line (codes "if " ++ test_text w (test_of c.deref-in-IfElse.result.now))) (block_text w (block_of c.deref-in-IfElse-2.result.now)) (line (codes "else")) (block_text w (block_of c.deref-in-IfElse-3.result.now)) (line (codes "end"))
    c.in_ok-write_if-in-IfElse.ensures c.in_ok-write_block-in-IfElse.ensures (search rules) c.in_ok-write_block-in-IfElse-2.ensures c.write_end-in-IfElse.ensures)

pub write_statement-returns-in_ok-write_block-in-Repeat : goal.write_statement-returns-in_ok-write_block-in-Repeat
write_statement-returns-in_ok-write_block-in-Repeat t c =
    let e : command_of c.args.statement.now ≡ Loop c.in-Repeat.turns (block_of c.deref-in-Repeat.result.now) = search (rules, the_lemmas, row_block_is) in
    let w = words_of c.args.words.now in
    rw e (written_3 c.write_end-in-Repeat.result (string_bytes c.args.out.now) (string_bytes c.write_repeat.new.out) (string_bytes c.write_block-in-Repeat.new.out) (string_bytes c.write_end-in-Repeat.new.out)
    (line (codes "repeat " ++ decimal c.in-Repeat.turns)) (block_text w (block_of c.deref-in-Repeat.result.now)) (line (codes "end"))
    c.in_ok-write_repeat-in-Repeat.ensures c.in_ok-write_block-in-Repeat.ensures c.write_end-in-Repeat.ensures)
