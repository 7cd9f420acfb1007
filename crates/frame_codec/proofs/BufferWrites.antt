-- Writing fields one behind the other: the buffer is what was written, and then what stood there before.
use Rattle.std.proofs.Common.{◌≡◌, ℕ, ◌+◌, ◌-◌, ◌<◌, ◌≤◌, List, [], ◌∷◌, ◌++◌, length, set, take, drop, sym, ap, ◌∙◌, append_assoc, arith}
use Rattle.std.proofs.lemmas.List.{append-nil, drop-append-le, take-append-drop, length-take, drop_all, drop_at, drop_more, drop-drop, length-append, length-drop, set_at, take_at}
use borrow.Rule.Slice.PartMut.{put_mid}

-- the front is written, k bytes long, and the rest is as it was
pub record Written (k : ℕ) (front old new : List ℕ) : Type 0 where
  pub len : length front ≡ k
  pub is : new ≡ front ++ drop k old

-- a byte behind it
pub write_byte : (k x : ℕ) {front old new : List ℕ} → k < length old → Written k front old new → Written (k + 1) (front ++ x ∷ []) old (set new k x)
write_byte k x {front} {old} {new} room w = record {
  len = omega (arith, length-append front (x ∷ []), w.len);
  is =
      ap (λ (l : List ℕ). set l k x) (w.is ∙ ap (λ (l : List ℕ). front ++ l) (drop_more old k 0 room))
      ∙ set_at front _ (drop (k + 1) old) x k w.len
      ∙ sym (append_assoc front (x ∷ []) (drop (k + 1) old));
}

-- the end of a part, and what stands behind the part
drop-take-append : (n j : ℕ) (xs : List ℕ) → n ≤ j → n ≤ length xs → drop n (take j xs) ++ drop j xs ≡ drop n xs
drop-take-append n j xs below room =
    sym (drop-append-le n (take j xs) (drop j xs) (omega (arith, length-take j xs))) ∙ ap (drop n) (take-append-drop j xs)

-- a field of n bytes behind it, written to the front of the j bytes from place k on
pub write_part : (k n j : ℕ) (field : List ℕ) {front old new : List ℕ} (part : List ℕ) → length field ≡ n → k + n ≤ length old → n ≤ j
    → part ≡ field ++ drop n (take j (drop k new)) → Written k front old new → Written (k + n) (front ++ field) old (put_mid k j new part)
write_part k n j field {front} {old} {new} part len room below is w =
    let before : take k new ≡ front = ap (take k) w.is ∙ take_at front (drop k old) k w.len in
    let behind : drop k new ≡ drop k old = ap (drop k) w.is ∙ drop_at front (drop k old) k w.len in
    let there : n ≤ length (drop k old) = omega (arith, length-drop k old) in
    let part_is : part ≡ field ++ drop n (take j (drop k old)) = is ∙ ap (λ (l : List ℕ). field ++ drop n (take j l)) behind in
    let rest : drop n (take j (drop k old)) ++ drop j (drop k old) ≡ drop (k + n) old = drop-take-append n j (drop k old) below there ∙ drop-drop n k old in
    record {
      len = omega (arith, length-append front field, w.len);
      is =
          rw (before, part_is, behind) (
          ap (λ (l : List ℕ). front ++ l) (append_assoc field (drop n (take j (drop k old))) (drop j (drop k old)) ∙ ap (λ (l : List ℕ). field ++ l) rest)
          ∙ sym (append_assoc front field (drop (k + n) old))
          );
    }

-- the same, written to the whole rest of the buffer
pub write_field : (k n : ℕ) (field : List ℕ) {front old new : List ℕ} (part : List ℕ) → length field ≡ n → k + n ≤ length old
    → part ≡ field ++ drop n (take (length new - k) (drop k new)) → Written k front old new → Written (k + n) (front ++ field) old (put_mid k (length new - k) new part)
write_field k n field {front} {old} {new} part len room is w =
    let size = ap length w.is in
    write_part k n (length new - k) field part len room (omega (arith, length-append front (drop k old), length-drop k old, w.len)) is w

-- the same, where the field is the whole part
pub write_whole : (k n : ℕ) (field : List ℕ) {front old new : List ℕ} (part : List ℕ) → length field ≡ n → k + n ≤ length old
    → part ≡ field → Written k front old new → Written (k + n) (front ++ field) old (put_mid k n new part)
write_whole k n field {front} {old} {new} part len room is w =
    let nothing : drop n (take n (drop k new)) ≡ [] = drop_all n (take n (drop k new)) (omega (arith, length-take n (drop k new))) in
    write_part k n n field part len room (omega arith) (is ∙ sym (append-nil field) ∙ ap (λ (l : List ℕ). field ++ l) (sym nothing)) w

-- what is written, and what isn't
pub taken : {k : ℕ} {front old new : List ℕ} → Written k front old new → take k new ≡ front
taken {k} {front} {old} {new} w = ap (take k) w.is ∙ take_at front (drop k old) k w.len

pub kept : {k : ℕ} {front old new : List ℕ} → Written k front old new → drop k new ≡ drop k old
kept {k} {front} {old} {new} w = ap (drop k) w.is ∙ drop_at front (drop k old) k w.len
