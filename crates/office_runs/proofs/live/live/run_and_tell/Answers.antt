use Rattle.std.proofs.Common.{◌∙◌}
use Rattle.office_runs.proofs.live_lemmas.Courses.{same_sessions, same_keys, told_for}
use Rattle.office_runs.proofs.live.live.run_and_tell.Goals as goal

pub tell_all-requires : goal.tell_all-requires
tell_all-requires g c = record { sessions = same_sessions c.args.programs.now c.in_ok-ended.ended.items c.args.crews.items c.in_ok-ended.ensures }

pub returns-clause-told : goal.returns-clause-told
returns-clause-told g c = told_for c.tell_all.result _ _ _ (λ e. same_keys c.args.programs.now c.in_ok-ended.ended.items c.args.crews.items c.in_ok-ended.ensures ∙ e) c.tell_all.ensures.told
