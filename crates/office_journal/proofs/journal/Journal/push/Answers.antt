use Rattle.std.proofs.Common.{◌<◌, ◌++◌, ◌∷◌, [], sym, ap, subst, ◌∙◌, arith}
use Rattle.office_journal.specs.refinement.PackedEntries.{Beside, nothing, entry_in}
use Rattle.office_journal.specs.refinement.JournalOfCode.{JournalValue}
use Rattle.office_journal.proofs.KeptEntries.{extends_none, entry_pushed, kept_push, plain_same, plain_placed}
use Rattle.office_journal.proofs.journal.Journal.push.Goals as goal

pub push-requires : goal.push-requires
push-requires c = subst (λ (j : JournalValue). 0 < j.room) (sym c.self.view_is) c.requires.room

pub invariant_of-self : goal.invariant_of-self
invariant_of-self c =
    let s = c.self.inside in
    let b : Beside = record { programs = s.programs.items; texts = s.texts.items } in
    kept_push b b s.pages.entries c.push.new.self.entries c.args.packed (extends_none b) c.push.ensures c.self.invariant (plain_placed b c.args.packed c.requires.plain) (omega arith) (omega arith)

pub returns : goal.returns
returns c =
    let s = c.self.inside in
    let b : Beside = record { programs = s.programs.items; texts = s.texts.items } in
    entry_pushed b b s.pages.entries c.push.new.self.entries c.args.packed (entry_in nothing c.args.packed) (extends_none b) c.push.ensures c.self.invariant.placed (plain_same b c.args.packed c.requires.plain)
    ∙ ap (λ (j : JournalValue). j.entries ++ entry_in nothing c.args.packed ∷ []) c.self.view_is
