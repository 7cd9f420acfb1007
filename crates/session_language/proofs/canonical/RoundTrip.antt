-- A program's canonical text means that program.
use Rattle.std.proofs.Common.{◌≡◌, ◌<◌, ◌≤◌, ◌+◌, ◌&&◌, ℕ, List, [], ◌∷◌, ◌++◌, length, Bool, true, false, ◌||◌, nat_lt, nat_le, Some, None, option_map, unwrap_or, Result, Ok, codes, refl, sym, ap, ◌∙◌, append_assoc, arith}
use Rattle.std.specs.Prelude.{slice_get}
use Rattle.std.specs.List.{list_all}
use Rattle.std.specs.Option.{ok_or}
use Rattle.std.proofs.lemmas.Bool.{and_parts}
use Rattle.std.proofs.lemmas.Bool.Decides.{nat_tests}
use Rattle.std.proofs.lemmas.List.{append-nil, take_all}
use Rattle.std.proofs.lemmas.Option.{slice_get-get_or}
use Rattle.office_map.specs.declared.entries.OfficeEntry.{OfficeEntry}
use Rattle.office_map.specs.PlanValue.{PlanValue, office_named}
use Rattle.office_map.specs.PlanText.{◌>>=◌, ◌>>◌, refuse_if}
use Rattle.office_map.specs.Consistency.{IsConsistent}
use Rattle.std.specs.Fmt.{decimal}
use Rattle.text_lines.specs.Text.{is_name, lines, statements, statements_from, says_something}
use Rattle.session_language.specs.declared.fault.SessionRule.{SessionRule}
use Rattle.session_language.specs.declared.fault.SessionRule.TheVariants.{UnknownName, TooLong, TooManyGives}
use Rattle.session_language.specs.declared.fault.SessionRefusal.{SessionRefusal}
use Rattle.session_meaning.specs.Fitting.{test_fits, command_fits, block_fits}
use Rattle.session_meaning.specs.Tree.{Test, Command, LetVar, SetTo, GiveOf, Requires, When, Choice, Loop, Block, Nothing, Then}
use Rattle.session_meaning.specs.ProgramValue.{ProgramValue}
use Rattle.session_meaning.specs.refinement.TreeOfStatements.{block_from}
use Rattle.session_programs.specs.measures.Needs.{test_needs, command_needs, block_needs, needs_of}
use Rattle.session_programs.specs.measures.Measures.{block_statements, block_cost, block_gives}
use Rattle.session_programs.specs.Program.{fits, words_under, text_under}
use Rattle.session_programs.specs.Text.{Words, line, test_text, command_text, block_text, session_text, wide_words}
use Rattle.session_language.specs.Reading.{Head, IfHead, ElseHead, RepeatHead, OpenBlock, Draft, Reading, program_of, closed, whole, Closed, begun, with_open, with_ended, take_line, take_formed, at_line, read_lines, nothing_read, all_closed, sessions_of}
use Rattle.session_programs.specs.Program.{is_too_long}
use Rattle.session_programs.specs.WellFormed.{IsStatementOver, known_after, known_after_block, AreStatements, IsWellFormed}
use Rattle.session_language.proofs.canonical.NameResolution.{office_found, office_is_named}
use Rattle.session_language.proofs.canonical.LineForms.{text_of, IsFirstOver, session_form, else_form, end_form}
use Rattle.session_language.proofs.canonical.TextLines.{IsPlain, both_plain, name_plain, plainly, command_says, command_within, first_statement_is}
use Rattle.session_language.proofs.canonical.NeededRecords.{with_command, with_block, block_longer}
use Rattle.session_language.proofs.canonical.StatementRoundTrip.{own, draft, going, first_known, first_needs, first_done, opens, plain_line, line_retaken}
use Rattle.session_language.proofs.canonical.SizeBound.{text_is_short}

-- the statements of a block
abbrev commands_of : Block → List Command
commands_of Nothing = []
commands_of (Then c rest) = c ∷ commands_of rest

block_again : (b : Block) → block_from (commands_of b) ≡ b
block_again Nothing = refl
block_again (Then c rest) = ap (Then c) (block_again rest)

-- no statement makes a variable unknown
mutual
  grows : (n : ℕ) (c : Command) → n ≤ known_after n c
  grows n (LetVar k e) = omega arith
  grows n (SetTo r e) = omega arith
  grows n (GiveOf e) = omega arith
  grows n (Requires t code) = omega arith
  grows n (When t b) = block_grows n b
  grows n (Choice t a b) = let one = block_grows n a in let more = block_grows (known_after_block n a) b in omega arith
  grows n (Loop m b) = block_grows n b

  block_grows : (n : ℕ) (b : Block) → n ≤ known_after_block n b
  block_grows n Nothing = omega arith
  block_grows n (Then c rest) = let one = grows n c in let more = block_grows (known_after n c) rest in omega arith

room_for : (n : ℕ) → n < 8 → nat_le 8 n ≡ false
room_for n h = grind (arith, nat_tests)

is_below : (k n : ℕ) → n ≤ k → nat_lt k n ≡ false
is_below k n h = grind (arith, nat_tests)

second_false : (a b : Bool) → (a || b) ≡ false → b ≡ false
second_false true b h = (cc)
second_false false b h = h

module _ (p : PlanValue) (ok : IsConsistent p) (x : ProgramValue) (good : IsWellFormed x) where
  abbrev w : Words
  w = words_under p x

  abbrev ours : ℕ → Bool
  ours = own p ok x good.declared

  abbrev so_far : List ℕ → List OpenBlock → ℕ → List Command → Reading
  so_far named outer n cs = going p ok x good.declared (draft p ok x good.declared named outer n cs)

  abbrev count : ℕ
  count = length x.variables

  abbrev Ours : List ℕ → Type 0
  Ours rs = list_all ours rs ≡ true

  -- reading goes on from there, at some line
  abbrev GoesOn : Reading → ℕ → List ℕ → Reading → List ℕ → Type 0
  GoesOn y k bs z after = (m : ℕ) × (read_lines p y (statements_from k (lines bs)) ≡ read_lines p z (statements_from m (lines after)))

  goes_on : (y z u : Reading) (k : ℕ) (bs cs ds : List ℕ) → GoesOn y k bs z cs → ((m : ℕ) → GoesOn z m cs u ds) → GoesOn y k bs u ds
  goes_on y z u k bs cs ds one more = ((more one.0).0, one.1 ∙ (more one.0).1)

  -- one plain line, and what follows it
  taken_line : (y z : Reading) (k : ℕ) (t after : List ℕ) → IsPlain t → says_something t ≡ true → take_line p y t ≡ Ok z → GoesOn y k (line t ++ after) z after
  taken_line y z k t after plain says is = (
    k + 1,
    ap (λ bs. read_lines p y (statements_from k (lines bs))) (append_assoc t (10 ∷ []) after)
        ∙ ap (read_lines p y) (first_statement_is k t after plain says)
        ∙ ap (λ r. at_line k r >>= λ u. read_lines p u (statements_from (k + 1) (lines after))) is,
  )

  -- the first line of a statement
  line_read : (named : List ℕ) (outer : List OpenBlock) (n k : ℕ) (cs : List Command) (c : Command) (after : List ℕ) → n ≤ count → IsFirstOver n c → command_within p.version ours c → first_known n c ≤ count → length (first_needs c named) ≤ 16
      → (opens c && nat_le 8 (length outer)) ≡ false
      → GoesOn (so_far named outer n cs) k (line (text_of w c) ++ after) (going p ok x good.declared (first_done (draft p ok x good.declared (first_needs c named) outer (first_known n c) cs) c)) after
  line_read named outer n k cs c after le h g room needs shallow =
      taken_line (so_far named outer n cs) _ k (text_of w c) after (plain_line p ok x good.declared n le c h g room) (command_says w c)
      (line_retaken p ok x good.declared named outer n cs c le h g room good.few_variables needs shallow)

  abbrev inside_of : List Command → Head → OpenBlock
  inside_of cs head = record { before = cs; head = head }

  -- the last line of a block, and the line between the parts of an `if`
  end_read : (named : List ℕ) (outer : List OpenBlock) (n k : ℕ) (cs body : List Command) (head : Head) (after : List ℕ)
      → GoesOn (so_far named (inside_of cs head ∷ outer) n body) k (line (codes "end") ++ after) (so_far named outer n (cs ++ whole head (block_from body) ∷ [])) after
  end_read named outer n k cs body head after =
      taken_line (so_far named (inside_of cs head ∷ outer) n body) _ k (codes "end") after (plainly (codes "end") refl) refl (ap (take_formed p (so_far named (inside_of cs head ∷ outer) n body)) (end_form p.version))

  else_read : (named : List ℕ) (outer : List OpenBlock) (n k : ℕ) (cs body : List Command) (t : Test) (after : List ℕ)
      → GoesOn (so_far named (inside_of cs (IfHead t) ∷ outer) n body) k (line (codes "else") ++ after) (so_far named (inside_of cs (ElseHead t (block_from body)) ∷ outer) n []) after
  else_read named outer n k cs body t after =
      taken_line (so_far named (inside_of cs (IfHead t) ∷ outer) n body) _ k (codes "else") after (plainly (codes "else") refl) refl (ap (take_formed p (so_far named (inside_of cs (IfHead t) ∷ outer) n body)) (else_form p.version))

  regrouped : (y z : Reading) (k : ℕ) (bs cs after : List ℕ) → bs ≡ cs → GoesOn y k cs z after → GoesOn y k bs z after
  regrouped y z k bs cs after is g = (g.0, ap (λ ds. read_lines p y (statements_from k (lines ds))) is ∙ g.1)

  arrived : (y z u : Reading) (k : ℕ) (bs after : List ℕ) → z ≡ u → GoesOn y k bs z after → GoesOn y k bs u after
  arrived y z u k bs after is g = (g.0, g.1 ∙ ap (λ (v : Reading). read_lines p v (statements_from g.0 (lines after))) is)

  abbrev last_line : List ℕ
  last_line = line (codes "end")

  -- all lines of a statement, and of a block
  abbrev IsRead : Command → Type 0
  IsRead c =
      command_fits p.version c ≡ true → (named : List ℕ) (outer : List OpenBlock) (n k : ℕ) (cs : List Command) (after : List ℕ) → IsStatementOver (length outer) n c → known_after n c ≤ count → Ours (command_needs c named) → length (command_needs c named) ≤ 16
      → GoesOn (so_far named outer n cs) k (command_text w c ++ after) (so_far (command_needs c named) outer (known_after n c) (cs ++ c ∷ [])) after

  abbrev IsBlockRead : Block → Type 0
  IsBlockRead b =
      block_fits p.version b ≡ true → (named : List ℕ) (outer : List OpenBlock) (n k : ℕ) (cs : List Command) (after : List ℕ) → AreStatements (length outer) n b → known_after_block n b ≤ count → Ours (block_needs b named) → length (block_needs b named) ≤ 16
      → GoesOn (so_far named outer n cs) k (block_text w b ++ after) (so_far (block_needs b named) outer (known_after_block n b) (cs ++ commands_of b)) after

  when_read : (t : Test) (b : Block) → IsBlockRead b → IsRead (When t b)
  when_read t b body f named outer n k cs after h top all few =
      let fits_so = and_parts (test_fits p.version t) (block_fits p.version b) f in
      let rs : List ℕ = test_needs t named in
      let parts = with_command p.version ours (When t b) named all f in
      let le : n ≤ count = let g = block_grows n b in omega arith in
      let small : length rs ≤ 16 = let l = block_longer b rs in omega arith in
      let blocks : List OpenBlock = inside_of cs (IfHead t) ∷ outer in
      let head : List ℕ = line (codes "if " ++ test_text w t) in
      regrouped (so_far named outer n cs) (so_far (block_needs b rs) outer (known_after_block n b) (cs ++ When t b ∷ [])) k _ (head ++ (block_text w b ++ (last_line ++ after))) after
      (append_assoc head (block_text w b ++ last_line) after ∙ ap (λ bs. head ++ bs) (append_assoc (block_text w b) last_line after))
      (goes_on (so_far named outer n cs) (so_far rs blocks n []) (so_far (block_needs b rs) outer (known_after_block n b) (cs ++ When t b ∷ [])) k (head ++ (block_text w b ++ (last_line ++ after))) (block_text w b ++ (last_line ++ after)) after
      (line_read named outer n k cs (When t b) (block_text w b ++ (last_line ++ after)) le h.1 parts.0 le small (room_for (length outer) h.0)) (λ i.
      goes_on (so_far rs blocks n []) (so_far (block_needs b rs) blocks (known_after_block n b) (commands_of b)) (so_far (block_needs b rs) outer (known_after_block n b) (cs ++ When t b ∷ [])) i (block_text w b ++ (last_line ++ after)) (last_line ++ after) after
      (body fits_so.1 rs blocks n i [] (last_line ++ after) h.2 top all few) (λ j.
      arrived _ (so_far (block_needs b rs) outer (known_after_block n b) (cs ++ When t (block_from (commands_of b)) ∷ [])) (so_far (block_needs b rs) outer (known_after_block n b) (cs ++ When t b ∷ [])) j (last_line ++ after) after
      (ap (λ d. so_far (block_needs b rs) outer (known_after_block n b) (cs ++ When t d ∷ [])) (block_again b))
      (end_read (block_needs b rs) outer (known_after_block n b) j cs (commands_of b) (IfHead t) after))))

  loop_read : (turns : ℕ) (b : Block) → IsBlockRead b → IsRead (Loop turns b)
  loop_read turns b body f named outer n k cs after h top all few =
      let le : n ≤ count = let g = block_grows n b in omega arith in
      let small : length named ≤ 16 = let l = block_longer b named in omega arith in
      let blocks : List OpenBlock = inside_of cs (RepeatHead turns) ∷ outer in
      let head : List ℕ = line (codes "repeat " ++ decimal turns) in
      regrouped (so_far named outer n cs) (so_far (block_needs b named) outer (known_after_block n b) (cs ++ Loop turns b ∷ [])) k _ (head ++ (block_text w b ++ (last_line ++ after))) after
      (append_assoc head (block_text w b ++ last_line) after ∙ ap (λ bs. head ++ bs) (append_assoc (block_text w b) last_line after))
      (goes_on (so_far named outer n cs) (so_far named blocks n []) (so_far (block_needs b named) outer (known_after_block n b) (cs ++ Loop turns b ∷ [])) k (head ++ (block_text w b ++ (last_line ++ after))) (block_text w b ++ (last_line ++ after)) after
      (line_read named outer n k cs (Loop turns b) (block_text w b ++ (last_line ++ after)) le h.1 tt le small (room_for (length outer) h.0)) (λ i.
      goes_on (so_far named blocks n []) (so_far (block_needs b named) blocks (known_after_block n b) (commands_of b)) (so_far (block_needs b named) outer (known_after_block n b) (cs ++ Loop turns b ∷ [])) i (block_text w b ++ (last_line ++ after)) (last_line ++ after) after
      (body f named blocks n i [] (last_line ++ after) h.2 top all few) (λ j.
      arrived _ (so_far (block_needs b named) outer (known_after_block n b) (cs ++ Loop turns (block_from (commands_of b)) ∷ [])) (so_far (block_needs b named) outer (known_after_block n b) (cs ++ Loop turns b ∷ [])) j (last_line ++ after) after
      (ap (λ d. so_far (block_needs b named) outer (known_after_block n b) (cs ++ Loop turns d ∷ [])) (block_again b))
      (end_read (block_needs b named) outer (known_after_block n b) j cs (commands_of b) (RepeatHead turns) after))))

  choice_read : (t : Test) (a b : Block) → IsBlockRead a → IsBlockRead b → IsRead (Choice t a b)
  choice_read t a b first second f named outer n k cs after h top all few =
      let fits_so = and_parts (test_fits p.version t) (block_fits p.version a && block_fits p.version b) f in
      let both_fit = and_parts (block_fits p.version a) (block_fits p.version b) fits_so.1 in
      let rs : List ℕ = test_needs t named in
      let ra : List ℕ = block_needs a rs in
      let na : ℕ = known_after_block n a in
      let nb : ℕ = known_after_block na b in
      let parts = with_command p.version ours (Choice t a b) named all f in
      let top_a : na ≤ count = let g = block_grows na b in omega arith in
      let le : n ≤ count = let g = block_grows n a in omega arith in
      let few_a : length ra ≤ 16 = let l = block_longer b ra in omega arith in
      let small : length rs ≤ 16 = let l = block_longer a rs in omega arith in
      let blocks : List OpenBlock = inside_of cs (IfHead t) ∷ outer in
      let turned : List OpenBlock = inside_of cs (ElseHead t (block_from (commands_of a))) ∷ outer in
      let head : List ℕ = line (codes "if " ++ test_text w t) in
      let middle : List ℕ = line (codes "else") in
      let tail : List ℕ = block_text w b ++ (last_line ++ after) in
      let end : Reading = so_far (block_needs b ra) outer nb (cs ++ Choice t a b ∷ []) in
      regrouped (so_far named outer n cs) end k _ (head ++ (block_text w a ++ (middle ++ tail))) after
      (append_assoc head (block_text w a ++ (middle ++ (block_text w b ++ last_line))) after
      ∙ ap (λ bs. head ++ bs) (append_assoc (block_text w a) (middle ++ (block_text w b ++ last_line)) after
      ∙ ap (λ bs. block_text w a ++ bs) (append_assoc middle (block_text w b ++ last_line) after ∙ ap (λ bs. middle ++ bs) (append_assoc (block_text w b) last_line after))))
      (goes_on (so_far named outer n cs) (so_far rs blocks n []) end k (head ++ (block_text w a ++ (middle ++ tail))) (block_text w a ++ (middle ++ tail)) after
      (line_read named outer n k cs (Choice t a b) (block_text w a ++ (middle ++ tail)) le h.1 parts.0 le small (room_for (length outer) h.0)) (λ i.
      goes_on (so_far rs blocks n []) (so_far ra blocks na (commands_of a)) end i (block_text w a ++ (middle ++ tail)) (middle ++ tail) after
      (first both_fit.0 rs blocks n i [] (middle ++ tail) h.2 top_a (with_block p.version ours b ra all both_fit.1) few_a) (λ j.
      goes_on (so_far ra blocks na (commands_of a)) (so_far ra turned na []) end j (middle ++ tail) tail after
      (else_read ra outer na j cs (commands_of a) t tail) (λ l.
      goes_on (so_far ra turned na []) (so_far (block_needs b ra) turned nb (commands_of b)) end l tail (last_line ++ after) after
      (second both_fit.1 ra turned na l [] (last_line ++ after) h.3 top all few) (λ m.
      arrived _ (so_far (block_needs b ra) outer nb (cs ++ Choice t (block_from (commands_of a)) (block_from (commands_of b)) ∷ [])) end m (last_line ++ after) after
      (ap (λ d. so_far (block_needs b ra) outer nb (cs ++ Choice t d (block_from (commands_of b)) ∷ [])) (block_again a) ∙ ap (λ d. so_far (block_needs b ra) outer nb (cs ++ Choice t a d ∷ [])) (block_again b))
      (end_read (block_needs b ra) outer nb m cs (commands_of b) (ElseHead t (block_from (commands_of a))) after))))))

  then_read : (c : Command) (rest : Block) → IsRead c → IsBlockRead rest → IsBlockRead (Then c rest)
  then_read c rest one more f named outer n k cs after h top all few =
      let fits_so = and_parts (command_fits p.version c) (block_fits p.version rest) f in
      let next : ℕ = known_after n c in
      let rs : List ℕ = command_needs c named in
      let room : next ≤ count = let g = block_grows next rest in omega arith in
      let small : length rs ≤ 16 = let l = block_longer rest rs in omega arith in
      let end : Reading = so_far (block_needs rest rs) outer (known_after_block next rest) (cs ++ c ∷ commands_of rest) in
      regrouped (so_far named outer n cs) end k _ (command_text w c ++ (block_text w rest ++ after)) after (append_assoc (command_text w c) (block_text w rest) after)
      (goes_on (so_far named outer n cs) (so_far rs outer next (cs ++ c ∷ [])) end k (command_text w c ++ (block_text w rest ++ after)) (block_text w rest ++ after) after
      (one fits_so.0 named outer n k cs (block_text w rest ++ after) h.0 room (with_block p.version ours rest rs all fits_so.1) small) (λ i.
      arrived _ (so_far (block_needs rest rs) outer (known_after_block next rest) ((cs ++ c ∷ []) ++ commands_of rest)) end i (block_text w rest ++ after) after
      (ap (λ ds. so_far (block_needs rest rs) outer (known_after_block next rest) ds) (append_assoc cs (c ∷ []) (commands_of rest)))
      (more fits_so.1 rs outer next i (cs ++ c ∷ []) after h.1 top all few)))

  mutual
    command_read : (c : Command) → IsRead c
    command_read (LetVar i e) = λ f named outer n k cs after h top all few. line_read named outer n k cs (LetVar i e) after (let g = grows n (LetVar i e) in omega arith) h (with_command p.version ours (LetVar i e) named all f).0 top few refl
    command_read (SetTo r e) = λ f named outer n k cs after h top all few. line_read named outer n k cs (SetTo r e) after top h (with_command p.version ours (SetTo r e) named all f).0 top few refl
    command_read (GiveOf e) = λ f named outer n k cs after h top all few. line_read named outer n k cs (GiveOf e) after top h (with_command p.version ours (GiveOf e) named all f).0 top few refl
    command_read (Requires t code) = λ f named outer n k cs after h top all few. line_read named outer n k cs (Requires t code) after top h (with_command p.version ours (Requires t code) named all f).0 top few refl
    command_read (When t b) = when_read t b (block_read b)
    command_read (Choice t a b) = choice_read t a b (block_read a) (block_read b)
    command_read (Loop turns b) = loop_read turns b (block_read b)

    block_read : (b : Block) → IsBlockRead b
    block_read Nothing = λ f named outer n k cs after h top all few. (k, ap (λ ds. read_lines p (so_far named outer n ds) (statements_from k (lines after))) (sym (append-nil cs)))
    block_read (Then c rest) = then_read c rest (command_read c) (block_read rest)

  -- the program at its end
  abbrev closing : ProgramValue → Result ProgramValue SessionRule
  closing q = do
    refuse_if (is_too_long q) TooLong
    refuse_if (nat_lt 64 (block_gives q.body)) TooManyGives
    Ok q

  abbrev made : List (List ℕ) → Block → ProgramValue
  made vs b = record { office = x.office; variables = vs; body = b }

  abbrev whole_draft : Draft
  whole_draft = draft p ok x good.declared (needs_of x.body) [] count (commands_of x.body)

  same : program_of whole_draft ≡ x
  same =
      ap (λ vs. made vs (block_from (commands_of x.body))) (take_all count x.variables (omega arith))
      ∙ ap (made x.variables) (block_again x.body)

  abbrev judged : Bool → Bool → Result ProgramValue SessionRule
  judged long many = do
    refuse_if long TooLong
    refuse_if many TooManyGives
    Ok x

  closes : closed whole_draft ≡ Ok x
  closes =
      ap closing same
      ∙ ap (λ b. judged b (nat_lt 64 (block_gives x.body))) good.short
      ∙ ap (judged false) (is_below 64 (block_gives x.body) good.few_gives)

  abbrev last : Reading
  last = record { done = x ∷ []; open_session = None }

  end_taken : take_line p (going p ok x good.declared whole_draft) (codes "end") ≡ Ok last
  end_taken =
      ap (take_formed p (going p ok x good.declared whole_draft)) (end_form p.version)
      ∙ ap (λ r. (r >>= λ q. Ok (Closed q)) >>= λ e. Ok (with_ended (going p ok x good.declared whole_draft) e)) closes

  last_read : (k : ℕ) → read_lines p (going p ok x good.declared whole_draft) (statements_from k (lines (line (codes "end")))) ≡ Ok last
  last_read k = (taken_line (going p ok x good.declared whole_draft) last k (codes "end") [] (plainly (codes "end") refl) refl end_taken).1

  module _ (fitting : fits p x ≡ true) where
    placed : (nat_lt x.office (length p.offices) && list_all ours (needs_of x.body)) ≡ true
    placed = (and_parts (nat_lt x.office (length p.offices) && list_all ours (needs_of x.body)) (block_fits p.version x.body) fitting).0

    literals : block_fits p.version x.body ≡ true
    literals = (and_parts (nat_lt x.office (length p.offices) && list_all ours (needs_of x.body)) (block_fits p.version x.body) fitting).1

    inside : x.office < length p.offices
    inside = let h = (and_parts (nat_lt x.office (length p.offices)) (list_all ours (needs_of x.body)) placed).0 in grind (arith, nat_tests)

    abbrev nobody : OfficeEntry
    nobody = record { name = []; address = [] }

    abbrev Office : Type 0
    Office = (e : OfficeEntry) × (slice_get p.offices x.office ≡ Some e)

    office : Office
    office = (_, slice_get-get_or p.offices x.office nobody inside)

    word_is : w.office ≡ office.0.name
    word_is = ap (λ o. unwrap_or (option_map (λ (e : OfficeEntry). e.name) o) []) office.1

    is_named : is_name w.office ≡ true
    is_named = ap is_name word_is ∙ office_is_named p ok x.office office.0 office.1

    named : office_named p w.office ≡ Some x.office
    named = ap (office_named p) word_is ∙ office_found p ok x.office office.0 office.1

    begins : take_line p nothing_read (codes "session " ++ w.office) ≡ Ok (so_far [] [] 0 [])
    begins =
        ap (take_formed p nothing_read) (session_form p.version w.office is_named)
        ∙ ap (λ o. ok_or o UnknownName >>= λ office. refuse_if (nat_le 1024 0) TooLong >> Ok (with_open nothing_read (begun office))) named

    first_plain : IsPlain (codes "session " ++ w.office)
    first_plain = both_plain (codes "session ") w.office (plainly (codes "session ") refl) (name_plain w.office is_named)

    abbrev later : List ℕ
    later = block_text w x.body ++ line (codes "end")

    all_read : read_lines p nothing_read (statements (text_under p x)) ≡ Ok last
    all_read =
        let body = block_read x.body literals [] [] 0 2 [] (line (codes "end")) good.declared.statements (omega (arith, good.declared.all_let)) (and_parts (nat_lt x.office (length p.offices)) (list_all ours (needs_of x.body)) placed).1 good.few_records in
        let known : so_far (needs_of x.body) [] (known_after_block 0 x.body) (commands_of x.body) ≡ going p ok x good.declared whole_draft = ap (λ n. so_far (needs_of x.body) [] n (commands_of x.body)) good.declared.all_let in
        ap (λ bs. read_lines p nothing_read (statements bs)) (append_assoc (codes "session " ++ w.office) (10 ∷ []) later)
        ∙ ap (read_lines p nothing_read) (first_statement_is 1 (codes "session " ++ w.office) later first_plain refl)
        ∙ ap (λ r. at_line 1 r >>= λ y. read_lines p y (statements_from 2 (lines later))) begins
        ∙ body.1
        ∙ ap (λ (y : Reading). read_lines p y (statements_from body.0 (lines (line (codes "end"))))) known
        ∙ last_read body.0

    short : nat_lt 1048576 (length (text_under p x)) ≡ false
    short =
        let wide : nat_lt 16384 (length (session_text (wide_words x.variables) x.body)) ≡ false = second_false (nat_lt 256 (block_statements x.body) || nat_lt 10000 (block_cost x.body)) _ good.short in
        let le = text_is_short p ok x in grind (wide, le, arith, nat_tests)

    abbrev answered : Bool → Result Reading SessionRefusal → Result (List ProgramValue) SessionRefusal
    answered long r = do
      refuse_if long (record { rule = TooLong; line = 0 })
      y ← r
      all_closed (length (lines (text_under p x))) y

    pub reads_back : sessions_of p (text_under p x) ≡ Ok (x ∷ [])
    reads_back = unfold sessions_of in
        ap (λ b. answered b (read_lines p nothing_read (statements (text_under p x)))) short
        ∙ ap (answered false) all_read
