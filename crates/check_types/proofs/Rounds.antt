-- Rounds of loops over numbers and parameters.
use Rattle.std.proofs.Common.{◌≡◌, ℕ, ◌+◌, ◌<◌, ◌≤◌, List, [], ◌∷◌, length, drop, get_or, false, ◌&&◌, ◌||◌, nat_eq, refl, sym, ap, ap₂, ◌∙◌, arith, ⊎_elim}
use Rattle.std.proofs.lemmas.List.{drop_more, drop_all}
use Rattle.std.proofs.lemmas.Bool.Decides.{eqb_tells}
use Rattle.std.proofs.Math.Dec.{eqb-suc-suc}
use Rattle.ob_types.specs.declared.types.Formal.{Formal}
use Rattle.ob_types.specs.declared.types.Mode.TheVariants.{Value}
use Rattle.ob_judge.specs.Shapes.{Shape, contains, same_formals}
use Rattle.judged_tree.specs.TypeShapes.{formals_shape}
use Rattle.check_types.specs.TableFacts.{same_formal_shape}

pub eqb_false : (a b : ℕ) → (a ≡ b → ⊥) → nat_eq a b ≡ false
eqb_false a b h = ⊎_elim (λ p. absurd (h p.1)) (λ p. p.0) (eqb_tells a b)

pub contains_more : (n : ℕ) (xs : List ℕ) (i : ℕ) → i < length xs → contains n (drop i xs) ≡ (nat_eq n (get_or xs i 0) || contains n (drop (i + 1) xs))
contains_more n xs i lt = ap (contains n) (drop_more xs i 0 lt)

pub formals_more : (shapes : List Shape) (a b : List Formal) (i : ℕ) (x y : Formal) → i < length a → i < length b → y ≡ get_or b i y →
    same_formals (formals_shape shapes (drop i a)) (formals_shape shapes (drop i b))
    ≡ (same_formal_shape shapes (get_or a i x) y && same_formals (formals_shape shapes (drop (i + 1) a)) (formals_shape shapes (drop (i + 1) b)))
formals_more shapes a b i x y la lb e =
    ap₂ (λ l m. same_formals (formals_shape shapes l) (formals_shape shapes m)) (drop_more a i x la) (drop_more b i y lb)
    ∙ ap (λ z. same_formal_shape shapes (get_or a i x) z && same_formals (formals_shape shapes (drop (i + 1) a)) (formals_shape shapes (drop (i + 1) b))) (sym e)

-- more parameters on the left
pub formals_longer : (shapes : List Shape) (a b : List Formal) (i : ℕ) → i < length a → length b ≤ i →
    same_formals (formals_shape shapes (drop i a)) (formals_shape shapes (drop i b)) ≡ false
formals_longer shapes a b i la lb = ap₂ (λ l m. same_formals (formals_shape shapes l) (formals_shape shapes m)) (drop_more a i (record { mode = Value; variable = false; type_number = 0 }) la) (drop_all i b lb)

none_left : (shapes : List Shape) (b : List Formal) → same_formals (formals_shape shapes []) (formals_shape shapes b) ≡ nat_eq 0 (length b)
none_left shapes [] = refl
none_left shapes (x ∷ xs) = sym (eqb_false 0 (length (x ∷ xs)) (λ h. omega (arith, h)))

-- no more on the left
pub formals_end : (shapes : List Shape) (a b : List Formal) → length a ≤ length b →
    same_formals (formals_shape shapes (drop (length a) a)) (formals_shape shapes (drop (length a) b)) ≡ nat_eq (length a) (length b)
formals_end shapes [] b h = none_left shapes b
formals_end shapes (x ∷ a) [] h = absurd (omega (arith, h))
formals_end shapes (x ∷ a) (y ∷ b) h = formals_end shapes a b (omega (arith, h)) ∙ sym (eqb-suc-suc (length a) (length b))
