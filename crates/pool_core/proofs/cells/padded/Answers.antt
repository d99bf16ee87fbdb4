use Rattle.std.proofs.Common.{arith, ◌≡◌, ◌+◌, ◌-◌, ◌∷◌, ◌++◌, [], List, ℕ, suc, zero, replicate, vec_len, refl, sym, ap, ◌∙◌, append_assoc}
use Rattle.pool_core.proofs.cells.padded.Goals as goal

one_more : (n : ℕ) → replicate {A = ℕ} (suc n) 0 ≡ replicate n 0 ++ 0 ∷ []
one_more zero = refl
one_more (suc n) = ap (λ (l : List ℕ). 0 ∷ l) (one_more n)

pub loop-preserved : goal.loop-preserved
loop-preserved c =
    let n : c.loop.counter + 1 - vec_len c.args.cells ≡ suc (c.loop.counter - vec_len c.args.cells) = omega (arith, c.loop.auto.counter, c.len-counter.ensures) in
    c.in_ok-push.ensures.items ∙ (ap (λ (l : List ℕ). l ++ 0 ∷ []) c.loop.invariant ∙ (append_assoc c.args.cells.items (replicate (c.loop.counter - vec_len c.args.cells) 0) (0 ∷ []) ∙ ap (λ (l : List ℕ). c.args.cells.items ++ l) (sym (ap (λ k. replicate {A = ℕ} k 0) n ∙ one_more (c.loop.counter - vec_len c.args.cells)))))
