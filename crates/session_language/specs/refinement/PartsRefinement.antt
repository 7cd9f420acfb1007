-- What the parts of the code's open session are, in the words of reading.
use Rattle.std.specs.Prelude.{List, map, reverse}
use Rattle.session_language.specs.declared.parts.Head as code
use Rattle.session_language.specs.declared.parts.Head.TheVariants as heads
use Rattle.session_language.specs.declared.parts.OpenBlock as code_block
use Rattle.session_language.specs.declared.parts.Parts as code_parts
use Rattle.session_meaning.specs.refinement.TreeOfStatements.{test_of, command_of, block_of}
use Rattle.session_language.specs.Reading.{Head, IfHead, ElseHead, RepeatHead, OpenBlock, Draft, Spoken, variables_after}

abbrev pub head_of : code.Head → Head
head_of (heads.If c) = IfHead (test_of c.value)
head_of (heads.Else c first) = ElseHead (test_of c.value) (block_of first.items)
head_of (heads.Repeat turns) = RepeatHead turns

abbrev pub open_block_of : code_block.OpenBlock → OpenBlock
open_block_of b = record { before = map command_of b.before.items; head = head_of b.head }

-- the blocks that are open, the innermost first
abbrev pub outer_of : List code_block.OpenBlock → List OpenBlock
outer_of blocks = reverse (map open_block_of blocks)

abbrev pub parts_of : code_parts.Parts → Draft
parts_of d = record { office = d.office; variables = d.variables.items; named = d.needs.items; outer = outer_of d.outer.items; body = map command_of d.statements.items }

-- a session with the variables after one more line
abbrev pub with_variables : Draft → Spoken → Draft
with_variables d x = record { office = d.office; variables = variables_after d.variables x; named = d.named; outer = d.outer; body = d.body }
