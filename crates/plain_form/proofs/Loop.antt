-- Reading one behind the other, as a loop does.
use Rattle.std.proofs.Common.{◌≡◌, ℕ, suc, ◌-◌, ◌+◌, ◌≤◌, ◌<◌, List, [], ◌∷◌, ◌++◌, Result, Ok, Err, refl, sym, ap, ◌∙◌, append_assoc, arith}
use Rattle.std.proofs.lemmas.List.{append-nil}
use Rattle.plain_form.specs.declared.fault.FormFault.{FormFault}
use Rattle.plain_form.specs.declared.fault.FormFault.TheVariants as faults
use Rattle.plain_form.specs.Reading.{Broken, Reading, ◌>>=◌, Fails, several}

-- what was read before, and what is still read
abbrev pub with_front : {X : Type 0} → List X → Result (List X × List ℕ) Broken → Result (List X × List ℕ) Broken
with_front front read = read >>= λ x. Ok (front ++ x.0, x.1)

regroup : {X : Type 0} (front : List X) (n : X) (read : Result (List X × List ℕ) Broken) → with_front front (read >>= λ x. Ok (n ∷ x.0, x.1)) ≡ with_front (front ++ n ∷ []) read
regroup {X} front n (Ok x) = ap (λ (ns : List X). Ok (ns, x.1)) (simp append_assoc)
regroup front n (Err f) = refl

module _ {X : Type 0} (one : Reading X) where
  pub goes_on : (front : List X) (count i : ℕ) (bytes : List ℕ) (n : X) (after : List ℕ) (total : Result (List X × List ℕ) Broken) → i < count → one bytes ≡ Ok (n, after)
      → with_front front (several one (count - i) bytes) ≡ total → with_front (front ++ n ∷ []) (several one (count - (i + 1)) after) ≡ total
  goes_on front count i bytes n after total lt h so_far =
      let k : count - i ≡ suc (count - (i + 1)) = omega arith in
      let e : with_front front (several one (suc (count - (i + 1))) bytes) ≡ total = ap (λ m. with_front front (several one m bytes)) (sym k) ∙ so_far in
      let d : with_front front (several one (suc (count - (i + 1))) bytes) ≡ with_front (front ++ n ∷ []) (several one (count - (i + 1)) after) = ap (λ r. with_front front (r >>= λ first. several one (count - (i + 1)) first.1 >>= λ others. Ok (first.0 ∷ others.0, others.1))) h ∙ regroup front n (several one (count - (i + 1)) after) in
      sym d ∙ e

  pub ends : (e : FormFault) (front : List X) (count i : ℕ) (bytes : List ℕ) (total : Result (List X × List ℕ) Broken) → i < count → Fails e (one bytes)
      → with_front front (several one (count - i) bytes) ≡ total → Fails e total
  ends faults.Memory front count i bytes total lt h so_far = tt
  ends (faults.Broken rule at) front count i bytes total lt h so_far =
      let k : count - i ≡ suc (count - (i + 1)) = omega arith in
      let e : with_front front (several one (suc (count - (i + 1))) bytes) ≡ total = ap (λ m. with_front front (several one m bytes)) (sym k) ∙ so_far in
      sym e ∙ ap (λ r. with_front front (r >>= λ first. several one (count - (i + 1)) first.1 >>= λ others. Ok (first.0 ∷ others.0, others.1))) h

  pub is_done : (front : List X) (count i : ℕ) (bytes : List ℕ) (total : Result (List X × List ℕ) Broken) → count ≤ i → with_front front (several one (count - i) bytes) ≡ total → total ≡ Ok (front, bytes)
  is_done front count i bytes total le so_far =
      let k : count - i ≡ 0 = omega arith in
      let e : with_front front (several one 0 bytes) ≡ total = ap (λ m. with_front front (several one m bytes)) (sym k) ∙ so_far in
      sym e ∙ ap (λ (ns : List X). Ok (ns, bytes)) (append-nil front)
