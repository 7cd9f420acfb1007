use Rattle.std.proofs.Common.{rules, ◌≡◌, ◌∙◌, sym, ap, length, ◌++◌, ◌∷◌, []}
use Rattle.session_language.specs.Reading.{place_of}
use Rattle.session_language.proofs.Places.{place_there, place_new}
use Rattle.session_language.proofs.adding.place_of.Goals as goal

pub returns-in-Some-clause-place : goal.returns-in-Some-clause-place
returns-in-Some-clause-place c = (place_there c.args.name c.args.variables.now.items c.in-Some.place (search rules)).0

pub returns-in-Some-clause-variables : goal.returns-in-Some-clause-variables
returns-in-Some-clause-variables c = (place_there c.args.name c.args.variables.now.items c.in-Some.place (search rules)).1

pub returns-in_ok-push-in-None-clause-place : goal.returns-in_ok-push-in-None-clause-place
returns-in_ok-push-in-None-clause-place c =
    let new = place_new c.args.name c.args.variables.now.items (search rules) in
    let grown : c.push.new.self.items ≡ c.args.variables.now.items ++ c.args.name ∷ [] = c.in_ok-push-in-None.ensures.items in
    let len : c.len-place.result ≡ length c.args.variables.now.items = search rules in
    len ∙ new.0 ∙ ap (place_of c.args.name) (sym grown)

pub returns-in_ok-push-in-None-clause-variables : goal.returns-in_ok-push-in-None-clause-variables
returns-in_ok-push-in-None-clause-variables c =
    let new = place_new c.args.name c.args.variables.now.items (search rules) in
    let grown : c.push.new.self.items ≡ c.args.variables.now.items ++ c.args.name ∷ [] = c.in_ok-push-in-None.ensures.items in
    grown ∙ new.1
