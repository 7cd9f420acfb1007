use Rattle.std.proofs.Common.{◌≡◌, ◌+◌, Bool, true, false, ◌||◌, drop, sym, ap, ◌∙◌, arith}
use Rattle.std.proofs.lemmas.List.{drop_all}
use Rattle.token_channel.specs.Things.{same, thing_of}
use Rattle.token_channel.specs.Places.{waits}
use Rattle.token_channel.proofs.WaitingMessages.{waits_more}
use Rattle.token_channel.proofs.places.waits_after.Goals as goal

pub loop-i-preserved : goal.loop-i-preserved
loop-i-preserved c =
    let t = c.args.thing in
    let ms = c.args.messages.now in
    let no : same t (thing_of c.message.result) ≡ false = ap (same t) (sym c.of.ensures) ∙ sym c.is.ensures ∙ c.if-is.false in
    c.loop-i.invariant ∙ waits_more t ms c.loop-i.i c.message.result c.message.ensures ∙ ap (λ (b : Bool). b || waits t (drop (c.loop-i.i + 1) ms)) no

pub returns-then-is : goal.returns-then-is
returns-then-is c =
    let t = c.args.thing in
    let ms = c.args.messages.now in
    let yes : same t (thing_of c.message.result) ≡ true = ap (same t) (sym c.of.ensures) ∙ sym c.is.ensures ∙ c.if-is.true in
    sym (c.loop-i.invariant ∙ waits_more t ms c.loop-i.i c.message.result c.message.ensures ∙ ap (λ (b : Bool). b || waits t (drop (c.loop-i.i + 1) ms)) yes)

pub returns : goal.returns
returns c =
    let ms = c.args.messages.now in
    sym (c.loop-i.invariant ∙ ap (waits c.args.thing) (drop_all c.loop-i.i ms (omega (arith, c.loop-i-test.false, c.len-i-end.ensures.len))))
