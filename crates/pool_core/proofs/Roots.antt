-- The traces without a parent of a longer part of the list.
use Rattle.std.proofs.Common.{◌≡◌, ℕ, zero, suc, ◌+◌, List, [], ◌∷◌, ◌++◌, map, take, Bool, true, false, sym, refl, ap, ◌∙◌, arith, append-nil}
use Rattle.std.specs.Prelude.{Option, Some, None}
use mathlib.Core.Option.{some, some-injective, some-ne-none}
use lib.ListN.{get_elem?}
use Rattle.pool_core.specs.Tree.{is_root, put_if, picked, roots}

more : (ps : List (Option ℕ)) (n i : ℕ) (o : Option ℕ) → get_elem? ps i ≡ some o → picked is_root n (take (suc i) ps) ≡ picked is_root n (take i ps) ++ put_if (is_root o) (n + i) []
more [] n i o e = absurd (some-ne-none o (sym e))
more (p ∷ ps) n zero o e = let z : n ≡ n + 0 = omega arith in ap (λ q. put_if (is_root q) n []) (some-injective p o e) ∙ ap (λ k. put_if (is_root o) k []) z
more (p ∷ ps) n (suc i) o e = let z : suc n + i ≡ n + suc i = omega arith in ap (put_if (is_root p) n) (more ps (suc n) i o e ∙ ap (λ k. picked is_root (suc n) (take i ps) ++ put_if (is_root o) k []) z) ∙ put_over (is_root p) n (picked is_root (suc n) (take i ps)) (put_if (is_root o) (n + suc i) [])
  where
    put_over : (b : Bool) (n : ℕ) (xs ys : List ℕ) → put_if b n (xs ++ ys) ≡ put_if b n xs ++ ys
    put_over true n xs ys = refl
    put_over false n xs ys = refl

pub roots_more_none : (ps : List (Option ℕ)) (i : ℕ) → get_elem? ps i ≡ some None → map suc (roots (take (i + 1) ps)) ≡ map suc (roots (take i ps)) ++ (i + 1) ∷ []
unfolding roots
roots_more_none ps i e = let a : i + 1 ≡ suc i = omega arith in let z : 0 + i ≡ i = omega arith in
    ap (λ k. map suc (roots (take k ps))) a ∙ (ap (map suc) (more ps 0 i None e) ∙ (mapped (picked is_root 0 (take i ps)) (0 + i) ∙ ap (λ (k : ℕ). map suc (picked is_root 0 (take i ps)) ++ k ∷ []) (ap suc z ∙ sym a)))
  where
    mapped : (xs : List ℕ) (x : ℕ) → map suc (xs ++ x ∷ []) ≡ map suc xs ++ suc x ∷ []
    mapped [] x = refl
    mapped (y ∷ xs) x = ap (λ (l : List ℕ). suc y ∷ l) (mapped xs x)

pub roots_more_some : (ps : List (Option ℕ)) (i p : ℕ) → get_elem? ps i ≡ some (Some p) → map suc (roots (take (i + 1) ps)) ≡ map suc (roots (take i ps))
unfolding roots
roots_more_some ps i p e = let a : i + 1 ≡ suc i = omega arith in ap (λ k. map suc (roots (take k ps))) a ∙ (ap (map suc) (more ps 0 i (Some p) e ∙ append-nil (picked is_root 0 (take i ps))))

pub no_roots : map suc (roots []) ≡ []
unfolding roots
no_roots = refl
