use Rattle.std.proofs.Common.{rules, ◌≡◌, ◌∷◌, [], Bor, Err, Ok, true, false, drop, length, refl, sym, subst, ap, ◌∙◌, arith}
use Rattle.std.specs.String.{string_bytes}
use Rattle.locked_office.specs.Calls.{Does}
use Rattle.session_streams.specs.declared.requests.asked.Asked.{Asked}
use Rattle.serving.specs.refinement.Asking.{Asks}
use Rattle.serving.proofs.Answering.{all_given, full_first, head_is, lacks_next, none_given, none_is, one_answered}
use Rattle.serving.proofs.asking.answer_some.Goals as goal

pub loop-first-init : goal.loop-first-init
loop-first-init g c = record {
  stays = (c.requires.of, refl, c.requires.idle);
  given = none_given c.args.form c.args.pass.now.tag c.args.desk.now.key c.args.pass.now c.args.waiting.now.items (string_bytes c.args.text.now);
}

pub loop-first-preserved : goal.loop-first-preserved
loop-first-preserved g c =
    let i = c.loop-first.invariant in
    let k = c.args.desk.now.key in
    let x = c.in-Some.first.now in
    let m = c.loop-first.pass in
    let q = c.ask_and_say.new.pass in
    let items = c.loop-first.waiting.items in
    let rest = c.drop_first.new.waiting.items in
    let mid = string_bytes c.loop-first.text in
    let new = string_bytes c.ask_and_say.new.text in
    let at : items ≡ x ∷ rest = head_is (λ (y : Bor Asked). y.now) items c.front.result c.in-Some.first c.front.ensures.item c.in-Some.is ∙ ap (λ l. x ∷ l) (sym c.drop_first.ensures) in
    let is : c.ask_and_say.result ≡ Ok true = search rules in
    let asks = subst (λ r. Does (λ s s'. Asks c.args.form m.tag s x r s' mid new) k m q) is c.ask_and_say.ensures.asks in
    record {
      stays = (c.ask_and_say.ensures.stays.0, c.ask_and_say.ensures.stays.1 ∙ i.stays.1, c.ask_and_say.ensures.stays.2);
      given = one_answered c.args.form c.args.pass.now.tag m.tag i.stays.1 k c.args.pass.now m q c.args.waiting.now.items items rest x at (string_bytes c.args.text.now) mid new i.given asks;
    }

pub loop-first-smaller : goal.loop-first-smaller
loop-first-smaller g c =
    let x = c.in-Some.first.now in
    let items = c.loop-first.waiting.items in
    let rest = c.drop_first.new.waiting.items in
    let at : items ≡ x ∷ rest = head_is (λ (y : Bor Asked). y.now) items c.front.result c.in-Some.first c.front.ensures.item c.in-Some.is ∙ ap (λ l. x ∷ l) (sym c.drop_first.ensures) in
    omega (arith, ap length at)

pub returns-in-Ok-false-clause-answers : goal.returns-in-Ok-false-clause-answers
returns-in-Ok-false-clause-answers g c =
    let i = c.loop-first.invariant in
    let k = c.args.desk.now.key in
    let x = c.in-Some.first.now in
    let m = c.loop-first.pass in
    let q = c.ask_and_say.new.pass in
    let items = c.loop-first.waiting.items in
    let mid = string_bytes c.loop-first.text in
    let new = string_bytes c.ask_and_say.new.text in
    let at : items ≡ x ∷ drop 1 items = head_is (λ (y : Bor Asked). y.now) items c.front.result c.in-Some.first c.front.ensures.item c.in-Some.is in
    let is : c.ask_and_say.result ≡ Ok false = search rules in
    let asks = subst (λ r. Does (λ s s'. Asks c.args.form m.tag s x r s' mid new) k m q) is c.ask_and_say.ensures.asks in
    full_first c.args.form c.args.pass.now.tag m.tag i.stays.1 k c.args.pass.now m q c.args.waiting.now.items items (drop 1 items) x at (string_bytes c.args.text.now) mid new i.given asks

pub returns-in-Err-clause-stops : goal.returns-in-Err-clause-stops
returns-in-Err-clause-stops g c =
    let i = c.loop-first.invariant in
    let k = c.args.desk.now.key in
    let x = c.in-Some.first.now in
    let m = c.loop-first.pass in
    let q = c.ask_and_say.new.pass in
    let items = c.loop-first.waiting.items in
    let mid = string_bytes c.loop-first.text in
    let new = string_bytes c.ask_and_say.new.text in
    let at : items ≡ x ∷ drop 1 items = head_is (λ (y : Bor Asked). y.now) items c.front.result c.in-Some.first c.front.ensures.item c.in-Some.is in
    let is : c.ask_and_say.result ≡ Err c.in-Err.lack = search rules in
    let asks = subst (λ r. Does (λ s s'. Asks c.args.form m.tag s x r s' mid new) k m q) is c.ask_and_say.ensures.asks in
    lacks_next c.args.form c.args.pass.now.tag m.tag i.stays.1 k c.args.pass.now m q c.args.waiting.now.items items (drop 1 items) x at (string_bytes c.args.text.now) mid new i.given c.in-Err.lack c.in-Err.ensures.same asks

pub returns-clause-answers : goal.returns-clause-answers
returns-clause-answers g c =
    let i = c.loop-first.invariant in
    let items = c.loop-first.waiting.items in
    let none : items ≡ [] = none_is (λ (y : Bor Asked). y.now) items c.front.result c.front.ensures.item c.in_default.is in
    all_given c.args.form c.args.pass.now.tag c.args.desk.now.key c.args.pass.now c.loop-first.pass c.args.waiting.now.items items (string_bytes c.args.text.now) (string_bytes c.loop-first.text) none i.given
