-- A text in memory, read byte by byte from its front.
use Rattle.std.proofs.Common.{◌≡◌, ◌≢◌, ℕ, zero, suc, ◌+◌, ◌-◌, ◌<◌, ◌≤◌, List, [], ◌∷◌, ◌++◌, Option, Some, None, refl, sym, ap, ◌∙◌, arith, append_assoc, Result, Ok, Err, OnErr}
use Rattle.outside.specs.Sink.{Account, TookAll, TookFront}
use Rattle.outside.proofs.Taking.{front_on, front_longer}
use Rattle.std.proofs.lemmas.List.{append-nil}
use Rattle.wrapping_numbers.specs.Numbers.{add64}
use Rattle.a64_memory.specs.Memory.{Area, load1}
use Rattle.a64_memory.proofs.Parts.{HasArea, load_rest_byte}
use Rattle.a64_memory.specs.Texts.{Text, Bytes, Outside, before, after_bytes, text_with, text_at}

-- nothing in front, and one byte more
after_none : (text : Text) → text ≡ after_bytes [] text
after_none (Bytes bytes) = refl
after_none (Outside address) = refl

after_one : (front : List ℕ) (byte : ℕ) (text : Text) → after_bytes front (before byte text) ≡ after_bytes (front ++ byte ∷ []) text
after_one front byte (Bytes bytes) = ap Bytes (sym (append_assoc front (byte ∷ []) bytes))
after_one front byte (Outside address) = refl

-- a text of which the bytes in front were seen, and what is left of it is at an address
pub record Seen (whole : Text) (memory : List Area) (by at left : ℕ) (front : List ℕ) : Type 0 where
  pub is : whole ≡ after_bytes front (text_at memory by at left)

pub seen_none : (memory : List Area) (by at most : ℕ) → Seen (text_at memory by at most) memory by at most []
seen_none memory by at most = record { is = after_none (text_at memory by at most) }

at_left : (memory : List Area) (by at left more : ℕ) → left ≡ suc more → text_at memory by at left ≡ text_with (load1 memory at) at (text_at memory by (add64 at by) more)
at_left memory by at left more e = ap (text_at memory by at) e

not_zero : (o : Option ℕ) (byte at : ℕ) (rest : Text) → o ≡ Some byte → byte ≢ 0 → text_with o at rest ≡ before byte rest
not_zero None byte at rest e h = cc
not_zero (Some zero) byte at rest e h = absurd (h (let z : byte ≡ 0 = cc in z))
not_zero (Some (suc n)) byte at rest e h = let z : suc n ≡ byte = cc in ap (λ b. before b rest) z

module _ (whole : Text) (memory : List Area) (by at most n : ℕ) (front : List ℕ) (seen : Seen whole memory by at (most - n) front) where
  left : n < most → text_at memory by at (most - n) ≡ text_with (load1 memory at) at (text_at memory by (add64 at by) (most - (n + 1)))
  left lt = at_left memory by at (most - n) (most - (n + 1)) (omega arith)

  -- one more byte is seen
  pub seen_more : (byte : ℕ) → n < most → load1 memory at ≡ Some byte → byte ≢ 0 → Seen whole memory by (add64 at by) (most - (n + 1)) (front ++ byte ∷ [])
  seen_more byte lt is h = record {
    is = seen.is ∙ ap (after_bytes front) (left lt ∙ not_zero (load1 memory at) byte at (text_at memory by (add64 at by) (most - (n + 1))) is h) ∙ after_one front byte (text_at memory by (add64 at by) (most - (n + 1)));
  }

  -- at a 0 the text is what was seen
  pub seen_all : n < most → load1 memory at ≡ Some 0 → whole ≡ Bytes front
  seen_all lt is =
      seen.is ∙ ap (after_bytes front) (left lt ∙ ap (λ o. text_with o at (text_at memory by (add64 at by) (most - (n + 1)))) is) ∙ ap Bytes (append-nil front)

  -- so it is where no byte is left
  pub seen_most : most ≤ n → whole ≡ Bytes front
  seen_most le =
      let none : most - n ≡ 0 = omega arith in
      seen.is ∙ ap (λ k. after_bytes front (text_at memory by at k)) none ∙ ap Bytes (append-nil front)

  -- where no area has the byte, the text isn't in the memory
  pub seen_outside : n < most → load1 memory at ≡ None → whole ≡ Outside at
  seen_outside lt is =
      seen.is ∙ ap (after_bytes front) (left lt ∙ ap (λ o. text_with o at (text_at memory by (add64 at by) (most - (n + 1)))) is)

-- more bytes are seen
after_after : (front part : List ℕ) (text : Text) → after_bytes front (after_bytes part text) ≡ after_bytes (front ++ part) text
after_after front part (Bytes bytes) = ap Bytes (sym (append_assoc front part bytes))
after_after front part (Outside address) = refl

pub seen_on : (whole : Text) (memory : List Area) (by at left next fewer : ℕ) (front part : List ℕ) → Seen whole memory by at left front → text_at memory by at left ≡ after_bytes part (text_at memory by next fewer) → Seen whole memory by next fewer (front ++ part)
seen_on whole memory by at left next fewer front part seen e = record { is = seen.is ∙ ap (after_bytes front) e ∙ after_after front part (text_at memory by next fewer) }

-- what was seen stands in front
rest_of : (whole : Text) (bytes front : List ℕ) (text : Text) → whole ≡ Bytes bytes → whole ≡ after_bytes front text → (rest : List ℕ) × (bytes ≡ front ++ rest)
rest_of whole bytes front (Bytes rest) e h = let same : bytes ≡ front ++ rest = cc in (rest, same)
rest_of whole bytes front (Outside address) e h = cc

-- a front of the text is taken where a front of its next bytes is
pub took_front : (old now after : Account) (front part : List ℕ) (whole : Text) (bytes : List ℕ) (memory : List Area) (by at left : ℕ) → TookAll old now front → whole ≡ Bytes bytes → Seen whole memory by at left (front ++ part) → TookFront now after part → TookFront old after bytes
took_front old now after front part whole bytes memory by at left taken e seen last =
    let rest = rest_of whole bytes (front ++ part) (text_at memory by at left) e seen.is in
    front_longer old after (front ++ part) rest.0 bytes (front_on old now after front part (front ++ part) taken last refl) rest.1

-- what holds of the text holds where the answer is a fault
pub on_fault : {T E : Type 0} (answer : Result T E) (P : Type 0) → P → OnErr answer P
on_fault (Ok x) P p = tt
on_fault (Err e) P p = p

module _ (m : List Area) (s : Area) (a : List Area) (has : HasArea m s a) where
  -- a text that lies in the rest of a memory is the same in the whole
  pub text_rest : (by most p : ℕ) (bytes : List ℕ) → text_at m by p most ≡ Bytes bytes → text_at a by p most ≡ Bytes bytes
  text_rest by zero p bytes e = e
  text_rest by (suc most) p bytes e = at (λ xs e. text_rest by most (add64 p by) xs e) (load1 m p) refl e
    where
      after : (t : Text) (n : ℕ) (bs : List ℕ) → before n t ≡ Bytes bs → (xs : List ℕ) × (t ≡ Bytes xs)
      after (Bytes xs) n bs e = (xs, refl)
      after (Outside z) n bs e = cc

      at : ((xs : List ℕ) → text_at m by (add64 p by) most ≡ Bytes xs → text_at a by (add64 p by) most ≡ Bytes xs) → (o : Option ℕ) → load1 m p ≡ o → text_with o p (text_at m by (add64 p by) most) ≡ Bytes bytes → text_at a by p (suc most) ≡ Bytes bytes
      at rest None i e = cc
      at rest (Some zero) i e = ap (λ (o : Option ℕ). text_with o p (text_at a by (add64 p by) most)) (load_rest_byte m s a has p zero i) ∙ e
      at rest (Some (suc n)) i e =
          let r = after (text_at m by (add64 p by) most) (suc n) bytes e in
          let same = rest r.0 r.1 in
          ap (λ (o : Option ℕ). text_with o p (text_at a by (add64 p by) most)) (load_rest_byte m s a has p (suc n) i) ∙ ap (before (suc n)) same ∙ sym (ap (before (suc n)) r.1) ∙ e
