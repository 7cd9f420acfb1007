use Rattle.std.proofs.Common.{◌≡◌, arith, sym, ap, codes, rules}
use Rattle.std.proofs.lemmas.Slice.Eq.{text_from_reads}
use Rattle.session_language.specs.Form.{keyword_of}
use Rattle.session_language.proofs.keyword.keyword_of.Goals as goal

pub returns-in-session : goal.returns-in-session
returns-in-session c =
    let text : c.args.word.now ≡ codes "session" = text_from_reads c.args.word.now (codes "session") (omega arith) (omega arith, (omega arith, (omega arith, (omega arith, (omega arith, (omega arith, (omega arith, tt))))))) in
    sym (ap keyword_of text)

pub returns-in-require : goal.returns-in-require
returns-in-require c =
    let text : c.args.word.now ≡ codes "require" = text_from_reads c.args.word.now (codes "require") (omega arith) (omega arith, (omega arith, (omega arith, (omega arith, (omega arith, (omega arith, (omega arith, tt))))))) in
    sym (ap keyword_of text)

pub returns-in-repeat : goal.returns-in-repeat
returns-in-repeat c =
    let text : c.args.word.now ≡ codes "repeat" = text_from_reads c.args.word.now (codes "repeat") (omega arith) (omega arith, (omega arith, (omega arith, (omega arith, (omega arith, (omega arith, tt)))))) in
    sym (ap keyword_of text)

pub returns-in_default-14 : goal.returns-in_default-14
returns-in_default-14 c = search rules
