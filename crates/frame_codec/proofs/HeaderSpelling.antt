-- What was read of a header spells it, and the faults of bytes whose first four are right.
use Rattle.std.proofs.Common.{◌≡◌, ℕ, ◌<◌, ◌≤◌, Bool, true, false, cond, not, leb, List, length, get_or, take, drop, Some, None, refl, sym, ◌∙◌, ap, arith}
use Rattle.std.proofs.lemmas.Bool.{le-ltb, le-leb, lt-leb, eq-eqb}
use Rattle.byteorder.specs.Endian.{big_number}
use Rattle.bottle_values.specs.Versions.{number_of}
use Rattle.bottle_values.specs.declared.version.Version.{Version}
use Rattle.bottle_values.specs.declared.version.Version.TheVariants.{One, Two}
use Rattle.frame_codec.specs.declared.fault.FrameFault.TheVariants.{Number, Count}
use Rattle.frame_codec.specs.declared.header.Kind.{Kind}
use Rattle.frame_codec.specs.declared.header.Kind.TheVariants.{Data, Ack}
use Rattle.frame_codec.specs.Header.{header, header_fault, number_in, count_in}
use Rattle.frame_codec.specs.refinement.DecodedParts.{code_of, is_numbered_by}
use Rattle.frame_codec.proofs.BigEndian.{IsBytes, width_4, width_8, front_byte, front_field}
use Rattle.frame_codec.specs.Limits.{sequence_space}

-- the first four bytes of a header
pub record Opens (v : Version) (k : ℕ) (bytes : List ℕ) : Type 0 where
  pub whole : 26 ≤ length bytes
  pub d : get_or bytes 0 0 ≡ 0x44
  pub p : get_or bytes 1 0 ≡ 0x50
  pub version : get_or bytes 2 0 ≡ number_of v
  pub kind : get_or bytes 3 0 ≡ k

pub header_spelled : (version : Version) (kind : ℕ) (bytes : List ℕ) (run from to number count : ℕ) → IsBytes bytes → Opens version kind bytes
    → run ≡ big_number 4 (drop 4 bytes) → from ≡ get_or bytes 8 0 → to ≡ get_or bytes 9 0 → number ≡ number_in bytes → count ≡ count_in bytes
    → take 26 bytes ≡ header kind (record { version = version; run = run; from = from; to = to; number = number; count = count; msg = None })
header_spelled version kind bytes run from to number count fits opens run_is from_is to_is number_is count_is =
    let whole = opens.whole in
    let b1 = front_byte 0 bytes _ 0x44 (omega arith) opens.d refl in
    let b2 = front_byte 1 bytes _ 0x50 (omega arith) opens.p b1 in
    let b3 = front_byte 2 bytes _ (number_of version) (omega arith) opens.version b2 in
    let b4 = front_byte 3 bytes _ kind (omega arith) opens.kind b3 in
    let b8 = front_field 4 4 width_4 bytes _ run (omega arith) fits run_is b4 in
    let b9 = front_byte 8 bytes _ from (omega arith) (sym from_is) b8 in
    let b10 = front_byte 9 bytes _ to (omega arith) (sym to_is) b9 in
    let b18 = front_field 10 8 width_8 bytes _ number (omega arith) fits number_is b10 in
    front_field 18 8 width_8 bytes _ count (omega arith) fits count_is b18

-- what is left to look at behind four right bytes
header_fault-opened : (version : Version) (kind : Kind) (bytes : List ℕ) → Opens version (code_of kind) bytes
    → header_fault bytes ≡ cond (not (is_numbered_by kind (number_in bytes))) (Some Number) (cond (leb sequence_space (count_in bytes)) (Some Count) None)
unfolding header_fault
header_fault-opened One Data bytes opens =
    rw (le-ltb _ _ opens.whole, eq-eqb _ _ opens.d, eq-eqb _ _ opens.p, opens.version, eq-eqb _ _ opens.kind) refl
header_fault-opened One Ack bytes opens =
    rw (le-ltb _ _ opens.whole, eq-eqb _ _ opens.d, eq-eqb _ _ opens.p, opens.version, opens.kind) refl
header_fault-opened Two Data bytes opens =
    rw (le-ltb _ _ opens.whole, eq-eqb _ _ opens.d, eq-eqb _ _ opens.p, opens.version, eq-eqb _ _ opens.kind) refl
header_fault-opened Two Ack bytes opens =
    rw (le-ltb _ _ opens.whole, eq-eqb _ _ opens.d, eq-eqb _ _ opens.p, opens.version, opens.kind) refl

pub header_fault-number : (version : Version) (kind : Kind) (bytes : List ℕ) (number : ℕ) → Opens version (code_of kind) bytes → number ≡ number_in bytes
    → is_numbered_by kind number ≡ false → header_fault bytes ≡ Some Number
header_fault-number version kind bytes number opens is e =
    let wrong : is_numbered_by kind (number_in bytes) ≡ false = ap (is_numbered_by kind) (sym is) ∙ e in
    header_fault-opened version kind bytes opens ∙ ap (λ (b : Bool). cond (not b) (Some Number) (cond (leb sequence_space (count_in bytes)) (Some Count) None)) wrong

header_fault-numbered : (version : Version) (kind : Kind) (bytes : List ℕ) (number : ℕ) → Opens version (code_of kind) bytes → number ≡ number_in bytes
    → is_numbered_by kind number ≡ true → header_fault bytes ≡ cond (leb sequence_space (count_in bytes)) (Some Count) None
header_fault-numbered version kind bytes number opens is e =
    let right : is_numbered_by kind (number_in bytes) ≡ true = ap (is_numbered_by kind) (sym is) ∙ e in
    header_fault-opened version kind bytes opens ∙ ap (λ (b : Bool). cond (not b) (Some Number) (cond (leb sequence_space (count_in bytes)) (Some Count) None)) right

pub header_fault-count : (version : Version) (kind : Kind) (bytes : List ℕ) (number count : ℕ) → Opens version (code_of kind) bytes → number ≡ number_in bytes
    → is_numbered_by kind number ≡ true → count ≡ count_in bytes → sequence_space ≤ count → header_fault bytes ≡ Some Count
header_fault-count version kind bytes number count opens is e count_is high =
    let wrong : leb sequence_space (count_in bytes) ≡ true = ap (leb sequence_space) (sym count_is) ∙ le-leb _ _ high in
    header_fault-numbered version kind bytes number opens is e ∙ ap (λ (b : Bool). cond b (Some Count) None) wrong

pub header_fault-none : (version : Version) (kind : Kind) (bytes : List ℕ) (number count : ℕ) → Opens version (code_of kind) bytes → number ≡ number_in bytes
    → is_numbered_by kind number ≡ true → count ≡ count_in bytes → count < sequence_space → header_fault bytes ≡ None
header_fault-none version kind bytes number count opens is e count_is low =
    let right : leb sequence_space (count_in bytes) ≡ false = ap (leb sequence_space) (sym count_is) ∙ lt-leb _ _ low in
    header_fault-numbered version kind bytes number opens is e ∙ ap (λ (b : Bool). cond b (Some Count) None) right
