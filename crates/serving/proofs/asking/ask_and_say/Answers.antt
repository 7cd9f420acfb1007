use Rattle.std.proofs.Common.{rules, ◌≡◌, ◌++◌, Err, Ok, false, true, sym, subst}
use Rattle.std.specs.String.{string_bytes}
use Rattle.locked_office.specs.Calls.{Does}
use Rattle.serving.specs.declared.answers.lack.Lack.TheVariants.{Memory}
use Rattle.serving.specs.refinement.Asking.{Asks}
use Rattle.serving.proofs.Answering.{full_after, said_after, unsaid_after}
use Rattle.serving.proofs.asking.ask_and_say.Goals as goal

pub returns-in-Ok-false-clause-asks : goal.returns-in-Ok-false-clause-asks
returns-in-Ok-false-clause-asks g c =
    let p = c.args.pass.now in
    let is : c.ask.result ≡ Ok false = search rules in
    full_after c.args.form p.tag c.args.desk.now.key c.args.asked.now p c.ask.new.pass (string_bytes c.clear.new.self) (string_bytes c.ask.new.line) (string_bytes c.args.text.now)
    (subst (λ r. Does (λ s s'. Asks c.args.form p.tag s c.args.asked.now r s' (string_bytes c.clear.new.self) (string_bytes c.ask.new.line)) c.args.desk.now.key p c.ask.new.pass) is c.ask.ensures.asks)

pub returns-in-Ok-clause-asks : goal.returns-in-Ok-clause-asks
returns-in-Ok-clause-asks g c =
    let p = c.args.pass.now in
    let is : c.ask.result ≡ Ok true = search rules in
    let wrote : string_bytes c.push_str.new.self ≡ string_bytes c.args.text.now ++ string_bytes c.ask.new.line = search rules in
    said_after c.args.form p.tag c.args.desk.now.key c.args.asked.now p c.ask.new.pass (string_bytes c.clear.new.self) (string_bytes c.ask.new.line) (string_bytes c.args.text.now) (string_bytes c.push_str.new.self) c.clear.ensures.bytes wrote
    (subst (λ r. Does (λ s s'. Asks c.args.form p.tag s c.args.asked.now r s' (string_bytes c.clear.new.self) (string_bytes c.ask.new.line)) c.args.desk.now.key p c.ask.new.pass) is c.ask.ensures.asks)

pub returns-in-Err-push_str-clause-asks : goal.returns-in-Err-push_str-clause-asks
returns-in-Err-push_str-clause-asks g c =
    let p = c.args.pass.now in
    let k = c.args.desk.now.key in
    let x = c.args.asked.now in
    let is : c.ask.result ≡ Ok true = search rules in
    let same : string_bytes c.push_str.new.self ≡ string_bytes c.args.text.now = search rules in
    subst (λ l. Does (λ s s'. Asks c.args.form p.tag s x (Err Memory) s' (string_bytes c.args.text.now) l) k p c.ask.new.pass) (sym same)
    (unsaid_after c.args.form p.tag k x p c.ask.new.pass (string_bytes c.clear.new.self) (string_bytes c.ask.new.line) (string_bytes c.args.text.now)
    (subst (λ r. Does (λ s s'. Asks c.args.form p.tag s x r s' (string_bytes c.clear.new.self) (string_bytes c.ask.new.line)) k p c.ask.new.pass) is c.ask.ensures.asks))
