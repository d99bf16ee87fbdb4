-- What is held and what is left, after a call.
use Rattle.std.proofs.Common.{◌≡◌, ℕ, ◌+◌, ◌-◌, ◌≤◌, List, ◌++◌, length, take, drop, length-drop, length-take-le, Result, sym, ap, ◌∙◌, subst, arith}
use Rattle.std.proofs.lemmas.List.{take-append-drop, take_at, drop-drop}
use Rattle.std.specs.Prelude.{Vec}
use Rattle.std.specs.Global.{Global}
use Rattle.outside.specs.declared.files.GetFault.{GetFault}
use Rattle.outside.specs.Files.{Held, OthersStay, ReadOf}

-- where all stays as it was, the others do
pub others_same : (old new : Held) (name : List ℕ) → new ≡ old → OthersStay old name new
others_same old new name same other apart = ap (λ (h : Held). h other) same

-- what stays after a call that changed nothing stays in all
pub others_via : (old mid new : Held) (name : List ℕ) → mid ≡ old → OthersStay mid name new → OthersStay old name new
others_via old mid new name same stays other apart = stays other apart ∙ ap (λ (h : Held). h other) same

-- an answer after a call that changed nothing
pub answers_via : (old mid : Held) (name : List ℕ) (most : ℕ) (answer : Result (Vec ℕ Global) GetFault) → mid ≡ old → ReadOf (mid name) most answer → ReadOf (old name) most answer
answers_via old mid name most answer same told = subst (λ (h : Held). ReadOf (h name) most answer) same told

-- a copy of the next bytes is what a source gives
module _ (bytes lent slice tail : List ℕ) (from count : ℕ) (same : lent ≡ bytes) (fits : from + count ≤ length bytes) (copied : slice ≡ take (from + count - from) (drop from lent)) where
  is_next : slice ≡ take count (drop from bytes)
  is_next = copied ∙ ap (λ l. take (from + count - from) (drop from l)) same ∙ ap (λ n. take n (drop from bytes)) less
    where
      less : from + count - from ≡ count
      less = omega arith

  pub given_front : take count (slice ++ tail) ≡ take count (drop from bytes)
  given_front = take_at slice tail count (ap length is_next ∙ length-take-le count (drop from bytes) (omega (arith, length-drop from bytes, fits))) ∙ is_next

  pub given_rest : drop from bytes ≡ take count (slice ++ tail) ++ drop (from + count) bytes
  given_rest = sym (take-append-drop count (drop from bytes)) ∙ ap (λ l. l ++ drop count (drop from bytes)) (sym given_front) ∙ ap (λ l. take count (slice ++ tail) ++ l) (drop-drop count from bytes)
