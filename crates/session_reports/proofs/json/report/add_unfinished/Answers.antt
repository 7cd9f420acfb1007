use Rattle.std.proofs.Common.{◌∷◌, [], codes}
use Rattle.std.specs.Fmt.{decimal}
use Rattle.std.specs.String.{string_bytes}
use Rattle.session_reports.specs.json.Json.{key}
use Rattle.session_reports.proofs.json_lemmas.Added.{four_added}
use Rattle.session_reports.proofs.json.report.add_unfinished.Goals as goal

pub returns : goal.returns
returns c =
    four_added c.push_str-2.result (string_bytes c.args.text.now) (string_bytes c.push_str.new.self) (string_bytes c.add_key.new.text) (string_bytes c.add_number.new.text) (string_bytes c.push_str-2.new.self)
    (123 ∷ []) (key (codes "unfinished")) (decimal c.args.count) (125 ∷ 10 ∷ []) c.in_ok-push_str.ensures.bytes c.in_ok-add_key.ensures c.in_ok-add_number.ensures c.push_str-2.ensures.bytes
