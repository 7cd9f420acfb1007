-- There is room to count each leading minus that a line can still have.
use Rattle.std.proofs.Common.{◌≡◌, ◌<◌, ℕ, List, [], ◌∷◌, Option, Some, subst, sym, arith}
use Rattle.session_meaning.specs.declared.node.Node.{Node}
use Rattle.session_language.specs.refinement.PlacedTokens.{Element, Operand, Plus, Minus, Times, Open, Close}
use Rattle.session_language.specs.declared.builder.Level.{Level}
use Rattle.session_language.specs.declared.builder.Stage.{Stage}
use Rattle.session_language.specs.declared.builder.Stage.TheVariants.{Wants, Has}
use Rattle.session_language.specs.refinement.PostfixBuilder.{Build, emit, emit_at, fresh_build, HasRoomFor}

moved : (n : ℕ) (a b : Build) → a ≡ b → HasRoomFor n a.stage → HasRoomFor n b.stage
moved n a b e h = let P : Build → Type 0 = λ x. HasRoomFor n x.stage in subst P e h

pub room_begun : (n : ℕ) (b : Build) → b ≡ fresh_build → n < 18446744073709551615 → HasRoomFor n b.stage
room_begun n b e lt = moved n fresh_build b (sym e) (omega arith)

the_next : (a b : Build) → ◌≡◌ {A = Option Build} (Some a) (Some b) → a ≡ b
the_next a b e = (cc)

room_at : (outer : List Level) (stage : Stage) (nodes : List Node) (e : Element) (b : Build) (n m : ℕ) → emit_at outer stage nodes e ≡ Some b → HasRoomFor n stage → m < n → HasRoomFor m b.stage
room_at outer (Wants l) nodes (Operand x) b n m is room lt = moved m _ b (the_next _ b is) (omega arith)
room_at outer (Wants l) nodes Minus b n m is room lt = moved m _ b (the_next _ b is) (omega arith)
room_at outer (Wants l) nodes Open b n m is room lt = moved m _ b (the_next _ b is) (omega arith)
room_at outer (Wants l) nodes Plus b n m is room lt = (cc)
room_at outer (Wants l) nodes Times b n m is room lt = (cc)
room_at outer (Wants l) nodes Close b n m is room lt = (cc)
room_at outer (Has s d) nodes Plus b n m is room lt = moved m _ b (the_next _ b is) (omega arith)
room_at outer (Has s d) nodes Minus b n m is room lt = moved m _ b (the_next _ b is) (omega arith)
room_at outer (Has s d) nodes Times b n m is room lt = moved m _ b (the_next _ b is) (omega arith)
room_at [] (Has s d) nodes Close b n m is room lt = (cc)
room_at (l ∷ outer) (Has s d) nodes Close b n m is room lt = moved m _ b (the_next _ b is) (omega arith)
room_at outer (Has s d) nodes (Operand x) b n m is room lt = (cc)
room_at outer (Has s d) nodes Open b n m is room lt = (cc)

pub room_after : (a b : Build) (e : Element) (n m : ℕ) → emit a e ≡ Some b → HasRoomFor n a.stage → m < n → HasRoomFor m b.stage
room_after a b e n m is room lt = room_at a.outer a.stage a.nodes e b n m is room lt
