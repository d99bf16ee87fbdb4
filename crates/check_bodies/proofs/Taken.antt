-- Procedures that were taken, one after the other.
use Rattle.std.proofs.Common.{◌≡◌, ◌<◌, ◌≤◌, ℕ, zero, suc, ◌+◌, List, [], ◌∷◌, ◌++◌, length, take, get_or, refl, ap, ◌∙◌, arith}
use Rattle.ob_syntax.specs.declared.declarations.ProcedureDecl.{ProcedureDecl, ProcedureDecl', out-ProcedureDecl}
use Rattle.judged_modules.specs.steps.Procedures.{plain_procedure}
use Rattle.later_bodies.specs.Walked.{one_by_one}

take_suc : {A : Type 0} (xs : List A) (i : ℕ) (d : A) → i < length xs → take (suc i) xs ≡ take i xs ++ get_or xs i d ∷ []
take_suc [] i d l = absurd (omega (arith, l))
take_suc (x ∷ xs) zero d l = refl
take_suc (x ∷ xs) (suc i) d l = ap (λ ys. x ∷ ys) (take_suc xs i d (omega (arith, l)))

take_next : {A : Type 0} (xs : List A) (i : ℕ) (d : A) → i < length xs → take (i + 1) xs ≡ take i xs ++ get_or xs i d ∷ []
take_next xs i d l = ap (λ n. take n xs) (up i) ∙ take_suc xs i d l
  where
    up : (i : ℕ) → i + 1 ≡ suc i
    up i = omega arith

one_is : (x : ProcedureDecl) → one_by_one (x ∷ []) ≡ plain_procedure (out-ProcedureDecl x).procedure ∷ []
unfolding out-ProcedureDecl denote.Hole.Carrier.out
one_is (ProcedureDecl' q semicolon) = refl

one_last : (xs : List ProcedureDecl) (x : ProcedureDecl) → one_by_one (xs ++ x ∷ []) ≡ one_by_one xs ++ plain_procedure (out-ProcedureDecl x).procedure ∷ []
one_last [] x = one_is x
one_last (ProcedureDecl' q semicolon ∷ xs) x = ap (λ qs. plain_procedure q ∷ qs) (one_last xs x)

-- one more
pub one_taken : (xs : List ProcedureDecl) (i : ℕ) (d : ProcedureDecl) → i < length xs → one_by_one (take (i + 1) xs) ≡ one_by_one (take i xs) ++ plain_procedure (out-ProcedureDecl (get_or xs i d)).procedure ∷ []
one_taken xs i d l = ap one_by_one (take_next xs i d l) ∙ one_last (take i xs) (get_or xs i d)

-- and all of them
pub all_taken : {A : Type 0} (xs : List A) (i : ℕ) → length xs ≤ i → take i xs ≡ xs
all_taken [] zero l = refl
all_taken [] (suc i) l = refl
all_taken (x ∷ xs) zero l = absurd (omega (arith, l))
all_taken (x ∷ xs) (suc i) l = ap (λ ys. x ∷ ys) (all_taken xs i (omega (arith, l)))
