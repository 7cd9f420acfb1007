use Rattle.std.proofs.Common.{◌≡◌, [], get_or, length, map, rules, subst}
use Rattle.std.specs.Option.{option_copied}
use Rattle.std.specs.String.{string_bytes}
use Rattle.std.specs.Io.KnownBytes.{Appends}
use Rattle.command_outputs.specs.Days.{WritesDay, is_day_named}
use Rattle.command_outputs.specs.Journals.{WritesFiles, files_of}
use Rattle.drink_commands.specs.Run.{NoObstacle, WritesRan}
use Rattle.drink_commands.proofs.Running.{at_end, err_more, ok_more}
use Rattle.drink_commands.proofs.commands.live.write_ran.Goals as goal

pub returns-clause-done : goal.returns-clause-done
returns-clause-done g c =
    let text : c.deref.result.now ≡ string_bytes c.args.ran.now.text = search rules in
    let kept = g.T.Targets.written c.args.targets.now in
    let between = g.T.Targets.written c.write_texts.new.targets in
    let left = g.T.Targets.written c.write_day.new.targets in
    let folder = option_copied c.args.journals in
    let next = option_copied c.args.next in
    let unfinished = option_copied c.args.left in
    let p = c.args.plan.now in
    let writes : WritesRan p c.args.programs.now folder next unfinished c.args.ran.now (g.W.Write.contents c.args.out.now) (g.W.Write.contents c.write_whole.new.out) kept left = record {
      written = subst (Appends (g.W.Write.contents c.args.out.now) (g.W.Write.contents c.write_whole.new.out)) text c.in_ok-write_whole.ensures.written;
      between = between;
      journals = subst (λ xs. WritesFiles folder (λ place. files_of place p (λ a. get_or (map string_bytes xs) a []) (length xs)) kept between) c.deref-2.ensures.value c.in_ok-write_texts.ensures.written;
      day = subst (λ xs. WritesDay (is_day_named next unfinished) p c.args.programs.now (map string_bytes xs) next unfinished between left) c.deref-3.ensures.value c.in_ok-write_day.ensures.written;
    } in
    ok_more c.ended.result _ _ (λ status h. (h, writes)) c.ended.ensures.done

pub returns-clause-leaves : goal.returns-clause-leaves
returns-clause-leaves g c =
    let text : c.deref.result.now ≡ string_bytes c.args.ran.now.text = search rules in
    let kept = g.T.Targets.written c.args.targets.now in
    let between = g.T.Targets.written c.write_texts.new.targets in
    let left = g.T.Targets.written c.write_day.new.targets in
    let folder = option_copied c.args.journals in
    let next = option_copied c.args.next in
    let unfinished = option_copied c.args.left in
    let p = c.args.plan.now in
    let writes : WritesRan p c.args.programs.now folder next unfinished c.args.ran.now (g.W.Write.contents c.args.out.now) (g.W.Write.contents c.write_whole.new.out) kept left = record {
      written = subst (Appends (g.W.Write.contents c.args.out.now) (g.W.Write.contents c.write_whole.new.out)) text c.in_ok-write_whole.ensures.written;
      between = between;
      journals = subst (λ xs. WritesFiles folder (λ place. files_of place p (λ a. get_or (map string_bytes xs) a []) (length xs)) kept between) c.deref-2.ensures.value c.in_ok-write_texts.ensures.written;
      day = subst (λ xs. WritesDay (is_day_named next unfinished) p c.args.programs.now (map string_bytes xs) next unfinished between left) c.deref-3.ensures.value c.in_ok-write_day.ensures.written;
    } in
    err_more c.ended.result _ _ (λ f h. at_end ⊥ NoObstacle _ _ f h (λ cause k. (k, writes))) c.ended.ensures.cut
