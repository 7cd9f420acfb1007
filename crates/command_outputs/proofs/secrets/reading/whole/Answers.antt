use Rattle.std.proofs.Common.{◌≤◌, length, arith}
use Rattle.command_outputs.proofs.secrets_lemmas.WholeTexts.{is_whole}
use Rattle.command_outputs.proofs.secrets.reading.whole.Goals as goal

pub returns-else-len-gt-TEXT_LIMIT-clause-text : goal.returns-else-len-gt-TEXT_LIMIT-clause-text
returns-else-len-gt-TEXT_LIMIT-clause-text c =
    let few : length c.args.bytes.items ≤ 262144 = omega (arith, c.if-len-gt-TEXT_LIMIT.false, c.len.ensures) in
    λ text first. is_whole 262144 c.args.bytes.items text first few
