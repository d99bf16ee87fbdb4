-- Final results that are gathered one after another.
use Rattle.std.proofs.Common.{◌≡◌, ℕ, zero, suc, ◌+◌, ◌<◌, List, [], ◌∷◌, ◌++◌, length, sym, refl, ap, ◌∙◌, subst, arith, length-append}
use Rattle.std.specs.Prelude.{Option, Some, None}
use mathlib.Core.Logic.{dite}
use native.Mathlib.Decide.{ℕ_discrete, dec_lt}
use mathlib.Core.Option.{some, some-injective, some-ne-none}
use lib.ListN.{get_elem?}
use Rattle.pool_core.specs.Sums.{times}
use Rattle.trace_pool.specs.Ends.{ClosedAs, AreFinalBelow}

module _ {D : Type 0} (is_final : ℕ → D → Type 0) where
  -- what is left of a closed pool from the trace n on: where there is a result, it is final
  pub record Left (count n : ℕ) (rest : List (Option D)) : Type 0 where
    pub long : n + length rest ≡ count
    pub final : (k : ℕ) (d : D) → get_elem? rest k ≡ some (Some d) → is_final (n + k) d

  pub left_all : (P : List (Option ℕ)) (finished : List ℕ) (rest results : List (Option D)) → rest ≡ results → ClosedAs is_final P finished results → Left (length P) 0 rest
  left_all P finished rest results same closed = subst (Left (length P) 0) (sym same) (record {
    long = omega (arith, closed.0);
    final = λ k d at. let z : 0 + k ≡ k = omega arith in subst (λ j. is_final j d) (sym z) (found k d at);
  })
    where
      within : (l : List (Option D)) (k : ℕ) (o : Option D) → get_elem? l k ≡ some o → k < length l
      within [] k o at = absurd (some-ne-none o (sym at))
      within (x ∷ xs) zero o at = omega arith
      within (x ∷ xs) (suc k) o at = omega (arith, within xs k o at)

      found : (k : ℕ) (d : D) → get_elem? results k ≡ some (Some d) → is_final k d
      found k d at =
          let lt : k < length P = omega (arith, within results k (Some d) at, closed.0) in
          dite (dec_lt 0 (times k finished))
          (λ yes. let r = closed.1 k lt yes in let both : Some r.0 ≡ Some d = some-injective (Some r.0) (Some d) (sym r.1 ∙ at) in let same : r.0 ≡ d = cc in subst (is_final k) same r.2)
          (λ no. let both : None ≡ Some d = some-injective None (Some d) (sym (closed.2 k lt (omega arith)) ∙ at) in absurd (let z : ⊥ = cc in z))

  module _ (count n : ℕ) (rest rest' : List (Option D)) (o : Option D) (left : Left count n rest) (is : rest ≡ o ∷ rest') where
    pub left_less : n < count
    left_less = omega (arith, left.long, ap length is)

    pub left_head : (d : D) → o ≡ Some d → is_final n d
    left_head d e = let z : n + 0 ≡ n = omega arith in subst (λ j. is_final j d) z (left.final 0 d (ap (λ l. get_elem? l 0) is ∙ ap some e))

    pub left_tail : Left count (n + 1) rest'
    left_tail = record {
      long = omega (arith, left.long, ap length is);
      final = λ k d at. let z : n + suc k ≡ n + 1 + k = omega arith in subst (λ j. is_final j d) z (left.final (suc k) d (ap (λ l. get_elem? l (suc k)) is ∙ at));
    }

  pub left_none : (count n : ℕ) (rest : List (Option D)) → Left count n rest → rest ≡ [] → n ≡ count
  left_none count n rest left is = omega (arith, left.long, ap length is)

  pub one_more : (n : ℕ) (xs ys : List D) (d : D) → ys ≡ xs ++ d ∷ [] → AreFinalBelow is_final n xs → is_final n d → AreFinalBelow is_final (n + 1) ys
  one_more n xs ys d is before final = (
    omega (arith, ap length is, length-append xs (d ∷ []), before.0),
    (λ t lt. dite (ℕ_discrete t n)
        (λ last. (d, ap (λ l. get_elem? l t) is ∙ (ap (get_elem? (xs ++ d ∷ [])) (last ∙ sym before.0) ∙ at_end xs d), subst (λ k. is_final k d) (sym last) final))
        (λ ne. let r = before.1 t (omega arith) in (r.0, ap (λ l. get_elem? l t) is ∙ at_front xs t r.0 (d ∷ []) r.1, r.2))),
  )
    where
      at_end : (xs : List D) (d : D) → get_elem? (xs ++ d ∷ []) (length xs) ≡ some d
      at_end [] d = refl
      at_end (x ∷ xs) d = at_end xs d

      at_front : (xs : List D) (t : ℕ) (d : D) (ys : List D) → get_elem? xs t ≡ some d → get_elem? (xs ++ ys) t ≡ some d
      at_front [] t d ys at = absurd (some-ne-none d (sym at))
      at_front (x ∷ xs) zero d ys at = at
      at_front (x ∷ xs) (suc t) d ys at = at_front xs t d ys at

  pub none_below : AreFinalBelow is_final 0 []
  none_below = (refl, λ t lt. absurd (omega arith))
