use Rattle.std.proofs.Common.{◌≡◌, ℕ, ◌-◌, ◌+◌, ◌++◌, drop, take, ap, ◌∙◌, sym, arith, subst, All}
use Rattle.std.specs.String.{string_bytes}
use Rattle.std.proofs.lemmas.Option.{slice_get_within}
use Rattle.office_journal.specs.Shown.{entry_shown}
use Rattle.journal_texts.specs.Written.{lines_of}
use Rattle.journal_texts.specs.refinement.WrittenValues.{EntryReadsBack}
use Rattle.office_journal.proofs.ShownEntries.{entry_in, none_in}
use Rattle.journal_texts.proofs.WrittenSoFar.{text_at, in_rest, no_more, lines_more, one_read_back, all_taken}
use Rattle.journal_texts.proofs.writing.add_lines.Goals as goal

pub add_entry-requires : goal.add_entry-requires
add_entry-requires c =
    text_at c.args.plan.now c.args.office c.args.journal.now.entries c.loop-entry.place c.get.result c.in-Some.entry c.offices.ensures.consistent c.requires.legal c.get.ensures c.in-Some.is

pub loop-entry-smaller : goal.loop-entry-smaller
loop-entry-smaller c =
    let xs = c.args.journal.now.entries in
    let at = entry_in xs c.loop-entry.place c.get.result c.in-Some.entry c.get.ensures c.in-Some.is in
    let lt = slice_get_within xs c.loop-entry.place (entry_shown c.in-Some.entry) at in
    omega (arith, lt)

pub loop-entry-preserved : goal.loop-entry-preserved
loop-entry-preserved c =
    let p = c.args.plan.now in
    let xs = c.args.journal.now.entries in
    let from : ℕ = c.args.from in
    let i : ℕ = c.loop-entry.place in
    let k = c.loop-entry.invariant in
    let at = in_rest xs from i (entry_shown c.in-Some.entry) k.within (entry_in xs i c.get.result c.in-Some.entry c.get.ensures c.in-Some.is) in
    let next : ◌≡◌ {A = ℕ} (i + 1 - from) ((i - from) + 1) = omega (arith, k.within) in
    record {
      within = omega (arith, k.within);
      written = lines_more p (drop from xs) (i - from) (i + 1 - from) (entry_shown c.in-Some.entry) _ _ _ next at k.written c.in_ok-add_entry.ensures.line;
      reads_back = subst (λ n. All (EntryReadsBack p) (take n (drop from xs))) (sym next) (one_read_back p (drop from xs) (i - from) (entry_shown c.in-Some.entry) at k.reads_back c.in_ok-add_entry.ensures.reads_back);
    }

pub returns-clause-lines : goal.returns-clause-lines
returns-clause-lines c =
    let xs = c.args.journal.now.entries in
    let from : ℕ = c.args.from in
    let i : ℕ = c.loop-entry.place in
    let all = all_taken (drop from xs) (i - from) (no_more xs from i c.loop-entry.invariant.within (none_in xs i c.get.result c.get.ensures c.in_default.is)) in
    c.loop-entry.invariant.written ∙ ap (λ l. string_bytes c.args.text.now ++ lines_of c.args.plan.now l) all

pub returns-clause-reads_back : goal.returns-clause-reads_back
returns-clause-reads_back c =
    let xs = c.args.journal.now.entries in
    let from : ℕ = c.args.from in
    let i : ℕ = c.loop-entry.place in
    let all = all_taken (drop from xs) (i - from) (no_more xs from i c.loop-entry.invariant.within (none_in xs i c.get.result c.get.ensures c.in_default.is)) in
    subst (All (EntryReadsBack c.args.plan.now)) all c.loop-entry.invariant.reads_back
