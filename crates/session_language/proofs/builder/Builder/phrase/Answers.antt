use Rattle.std.proofs.Common.{◌≡◌, ◌∙◌, ap, arith, rules, length, Some, None, if◌then◌else◌}
use Rattle.session_language.specs.refinement.PostfixBuilder.{build_of, emit}
use Rattle.session_language.specs.Lexer.{pieces_of}
use Rattle.session_language.specs.Names.{scope_of}
use Rattle.session_language.specs.Spelling.{AText, Leaf}
use Rattle.session_language.specs.refinement.PlacedTokens.{element_of, seen_placed}
use Rattle.session_language.specs.Phrase.{token_of}
use Rattle.session_language.proofs.expressions.PhraseLoop.{begun, one_more, text_taken, no_more, refused, accepted, goes_on}
use Rattle.session_language.proofs.expressions.CounterBounds.{room_begun, room_after}
use Rattle.session_language.proofs.builder.Builder.phrase.Goals as goal

pub loop-token-init : goal.loop-token-init
loop-token-init c = (
  begun (scope_of c.args.scope.now) (build_of c.clear.new.self) (pieces_of c.args.pieces.now.rest.now) c.clear.ensures,
  room_begun (length c.args.pieces.now.rest.now) (build_of c.clear.new.self) c.clear.ensures c.if-prove.false,
  omega arith,
)

pub returns-then-not-branch-clause-gives : goal.returns-then-not-branch-clause-gives
returns-then-not-branch-clause-gives c =
    let sc = scope_of c.args.scope.now in
    let after = pieces_of c.next_token.new.self.rest.now in
    no_more sc _ _ _ _ _ c.loop-token.invariant.0 (Leaf (AText c.in-Text.bytes.now)) after c.in-Text.ensures.gives.0
    (c.in_ok-take_text-in-Text.ensures ∙ ap (λ o. if o then Some (build_of c.take_text.new.self) else None) c.if-not-branch.true)

pub loop-token-preserved-in-Text : goal.loop-token-preserved-in-Text
loop-token-preserved-in-Text c =
    let sc = scope_of c.args.scope.now in
    let after = pieces_of c.next_token.new.self.rest.now in
    let took : emit (build_of c.loop-token.self) (element_of (scope_of c.args.scope.now) (Leaf (AText c.in-Text.bytes.now))) ≡ Some (build_of c.take_text.new.self) =
    c.in_ok-take_text-in-Text.ensures ∙ ap (λ o. if o then Some (build_of c.take_text.new.self) else None) c.if-not-branch.false in (
      text_taken sc _ _ _ _ _ c.loop-token.invariant.0 c.in-Text.bytes.now (build_of c.take_text.new.self) after c.in-Text.ensures.gives.0 took,
      room_after (build_of c.loop-token.self) (build_of c.take_text.new.self) _ (length c.loop-token.pieces.rest.now) (length c.next_token.new.self.rest.now) took c.loop-token.invariant.1 c.in-Text.ensures.shorter,
      search rules,
    )

pub returns-then-not-branch-2-clause-gives : goal.returns-then-not-branch-2-clause-gives
returns-then-not-branch-2-clause-gives c =
    let sc = scope_of c.args.scope.now in
    let t = token_of c.in-Token.token in
    let after = pieces_of c.next_token.new.self.rest.now in
    no_more sc _ _ _ _ _ c.loop-token.invariant.0 t after c.in-Token.ensures.gives
    (refused sc (build_of c.loop-token.self) (build_of c.take.new.self) t (seen_placed c.element-placed.result) c.in_ok-take.field-0 c.element-placed.ensures c.in_ok-take.ensures c.if-not-branch-2.true)

pub loop-token-preserved : goal.loop-token-preserved
loop-token-preserved c =
    let sc = scope_of c.args.scope.now in
    let t = token_of c.in-Token.token in
    let after = pieces_of c.next_token.new.self.rest.now in
    let took : emit (build_of c.loop-token.self) (element_of (scope_of c.args.scope.now) (token_of c.in-Token.token)) ≡ Some (build_of c.take.new.self) =
    accepted sc (build_of c.loop-token.self) (build_of c.take.new.self) t (seen_placed c.element-placed.result) c.in_ok-take.field-0 c.element-placed.ensures c.in_ok-take.ensures c.if-not-branch-2.false in (
      goes_on sc _ _ _ _ _ t (seen_placed c.element-placed.result) _ _ c.element-placed.ensures c.both-knows_variables.ensures c.both-knows_records.ensures
          (one_more sc _ _ _ _ _ c.loop-token.invariant.0 t _ after c.in-Token.ensures.gives took),
      room_after (build_of c.loop-token.self) (build_of c.take.new.self) _ (length c.loop-token.pieces.rest.now) (length c.next_token.new.self.rest.now) took c.loop-token.invariant.1 c.in-Token.ensures.shorter,
      search rules,
    )
