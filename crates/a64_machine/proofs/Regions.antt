-- The regions at the start lie one above the other, and are of bytes.
use Rattle.std.proofs.Common.{◌≡◌, ℕ, ◌+◌, ◌-◌, ◌^◌, List, ◌++◌, ◌<◌, zero, suc, [], ◌∷◌, get_or, length, refl, ap, ap₂, ◌∙◌, arith, length-append}
use Rattle.std.specs.Prelude.{replicate}
use Rattle.std.proofs.lemmas.List.{append-nil, length-replicate, take-replicate, drop-replicate}
use Rattle.a64_memory.specs.Bytes.{splice}
use Rattle.a64_memory.specs.Memory.{written, IsRising, AreBytes, IsOfBytes}
use Rattle.image_form.specs.declared.image.Image.{Image}
use Rattle.image_form.specs.Form.{IsInForm}
use Rattle.a64_machine.proofs.Registers.{zeros_read}
use Rattle.a64_memory.proofs.Parts.{HasArea}
use Rattle.a64_memory.proofs.Sizes.{local_bytes-is, heap_bytes-is}
use Rattle.a64_memory.specs.Areas.{zeroed, data_base, local_base, local_bytes, frames_base, frames_bytes, heap_base, heap_bytes}
use Rattle.a64_machine.specs.Machine.{first_memory}

pub first_memory-rises : (image : Image) → IsInForm image → IsRising 0 (first_memory image)
first_memory-rises image form =
    let globals : length (replicate {A = ℕ} image.globals 0) ≡ image.globals = length-replicate image.globals 0 in
    let whole = length-append (replicate image.globals 0) image.constants in
    let local : length (replicate {A = ℕ} local_bytes 0) ≡ local_bytes = length-replicate local_bytes 0 in
    let frames : length (replicate {A = ℕ} (frames_bytes image.frame) 0) ≡ frames_bytes image.frame = length-replicate (frames_bytes image.frame) 0 in
    let heap : length (replicate {A = ℕ} heap_bytes 0) ≡ heap_bytes = length-replicate heap_bytes 0 in
    let small = local_bytes-is in
    let large = heap_bytes-is in
    (omega arith, (omega (arith, whole), (omega arith, (omega arith, omega arith))))

zeros_are : (n i : ℕ) → get_or (replicate {A = ℕ} n 0) i 0 < 2 ^ 8
zeros_are n i = let zero' : ◌≡◌ {A = ℕ} (get_or (replicate n 0) i 0) 0 = ap (λ (f : ℕ → ℕ). f i) (zeros_read n) in omega (arith, zero')

append_are : (xs ys : List ℕ) → AreBytes xs → AreBytes ys → (i : ℕ) → get_or (xs ++ ys) i 0 < 2 ^ 8
append_are [] ys h k i = k i
append_are (x ∷ xs) ys h k zero = h 0
append_are (x ∷ xs) ys h k (suc i) = append_are xs ys (λ j. h (suc j)) k i

pub first_memory-bytes : (image : Image) → AreBytes image.constants → IsOfBytes (first_memory image)
first_memory-bytes image constants =
    (append_are (replicate image.globals 0) image.constants (zeros_are image.globals) constants, (zeros_are local_bytes, (zeros_are (frames_bytes image.frame), (zeros_are heap_bytes, tt))))

-- bytes stored into zeros, up to their end
zeros_before : (n : ℕ) (bytes : List ℕ) → splice (replicate (n + length bytes) 0) n bytes ≡ replicate n 0 ++ bytes
zeros_before n bytes =
    let none : n + length bytes - (n + length bytes) ≡ 0 = omega arith in
    ap₂ (λ u v. u ++ (bytes ++ v)) (take-replicate n (n + length bytes) 0 (omega arith)) (drop-replicate (n + length bytes) (n + length bytes) 0 ∙ ap (λ k. replicate k 0) none)
    ∙ ap (λ l. replicate n 0 ++ l) (append-nil bytes)

pub constants_stored : (base n : ℕ) (bytes : List ℕ) → written (record { base = base; bytes = replicate (n + length bytes) 0 }) (base + n) bytes ≡ record { base = base; bytes = replicate n 0 ++ bytes }
constants_stored base n bytes =
    let there : base + n - base ≡ n = omega arith in
    ap (λ l. record { base = base; bytes = l }) (ap (λ i. splice (replicate (n + length bytes) 0) i bytes) there ∙ zeros_before n bytes)

-- the frames' area apart from the rest
pub frames_apart : (image : Image) → IsInForm image
    → HasArea (record { base = data_base; bytes = replicate image.globals 0 ++ image.constants } ∷ zeroed local_base local_bytes ∷ zeroed heap_base heap_bytes ∷ [])
    (zeroed frames_base (frames_bytes image.frame)) (first_memory image)
frames_apart image form = record {
  below = record { base = data_base; bytes = replicate image.globals 0 ++ image.constants } ∷ zeroed local_base local_bytes ∷ [];
  above = zeroed heap_base heap_bytes ∷ [];
  without = refl;
  among = refl;
  rises = first_memory-rises image form;
}
