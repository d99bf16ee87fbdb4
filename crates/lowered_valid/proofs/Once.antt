-- The values that blocks make are 0, 1, 2 and so on, each once, in order.
use Rattle.std.proofs.Common.{◌≡◌, ⊎_elim, ℕ, zero, suc, ◌+◌, ◌≤◌, ◌<◌, true, cond, List, [], ◌∷◌, ◌++◌, map, refl, sym, ap, ◌∙◌, subst, arith, append_assoc}
use Rattle.std.specs.Prelude.{option_to_list, nat_lt}
use Rattle.std.proofs.lemmas.Bool.{eq-eqb, ne_eqb, cases_lt, lt-ltb, and_from}
use Rattle.block_runs.specs.Live.{defs_of}
use Rattle.block_runs.specs.Valid.{made, times, all_below}
use Rattle.block_runs.specs.declared.end.End.{End}
use Rattle.ssa_core.specs.declared.procedure.Op.{Op}
use Rattle.ssa_core.specs.Procedures.{operation_of, code_blocks}
use Rattle.ssa_lowered.specs.Pieces.{Start, Piece, Appends, Closes, blocks_of, numbers}
use Rattle.lowered_valid.proofs.Numbered.{Counts, after_all, Numbered, after_more}

counts_on : (n : ℕ) (xs ys : List ℕ) → Counts n xs → Counts (after_all xs n) ys → Counts n (xs ++ ys)
counts_on n [] ys p q = q
counts_on n (x ∷ xs) ys p q = (p.0, counts_on (suc n) xs ys p.1 q)

after_on : (n : ℕ) (xs ys : List ℕ) → after_all (xs ++ ys) n ≡ after_all ys (after_all xs n)
after_on n [] ys = refl
after_on n (x ∷ xs) ys = after_on (suc n) xs ys

pub append_nil : (xs : List ℕ) → xs ++ [] ≡ xs
append_nil [] = refl
append_nil (x ∷ xs) = ap (λ ys. x ∷ ys) (append_nil xs)

defs_last : (ops : List Op) (op : Op) → defs_of (map operation_of (ops ++ op ∷ [])) ≡ defs_of (map operation_of ops) ++ option_to_list op.def
defs_last [] op = append_nil (option_to_list op.def)
defs_last (o ∷ ops) op = ap (λ z. option_to_list o.def ++ z) (defs_last ops op) ∙ sym (append_assoc (option_to_list o.def) (defs_of (map operation_of ops)) (option_to_list op.def))

-- what is made behind the open block's start and operations
made_blocks : (s : Start) (ops : List Op) (last : End) (ps : List Piece) (n m : ℕ) → Numbered n ps m
    → (more : List ℕ) × Counts n more × (after_all more n ≡ m) × (made (code_blocks (blocks_of s ops last ps)) ≡ (s.params ++ defs_of (map operation_of ops)) ++ more)
made_blocks s ops last [] n m p = ([], tt, p, refl)
made_blocks s ops last (Appends b i op ∷ ps) n m p =
    let d = option_to_list op.def in
    let before = defs_of (map operation_of ops) in
    let r = made_blocks s (ops ++ op ∷ []) last ps (after_all d n) m p.1 in (
      d ++ r.0,
      counts_on n d r.0 p.0 r.1,
      after_on n d r.0 ∙ r.2,
      r.3 ∙ ap (λ z. (s.params ++ z) ++ r.0) (defs_last ops op) ∙ ap (λ z. z ++ r.0) (sym (append_assoc s.params before d)) ∙ append_assoc (s.params ++ before) d r.0,
    )
made_blocks s ops last (Closes b i end next ∷ ps) n m p =
    let r = made_blocks next [] last ps (after_all next.params n) m p.2 in (
      next.params ++ r.0,
      counts_on n next.params r.0 p.0 r.1,
      after_on n next.params r.0 ∙ r.2,
      ap (λ z. (s.params ++ defs_of (map operation_of ops)) ++ z) (r.3 ∙ ap (λ z. z ++ r.0) (append_nil next.params)),
    )

counts_same : (n : ℕ) (xs : List ℕ) (m : ℕ) → Counts n xs → after_all xs n ≡ m → (k : ℕ) → n + k ≡ m → xs ≡ numbers n k
counts_same n [] m c a zero e = refl
counts_same n [] m c a (suc k) e = absurd (omega (arith, a, e))
counts_same n (x ∷ xs) m c a zero e = let l = after_more xs (suc n) in absurd (omega (arith, a, e, l))
counts_same n (x ∷ xs) m c a (suc k) e = ap (λ z. z ∷ xs) c.0 ∙ ap (λ z. n ∷ z) (counts_same (suc n) xs m c.1 a k (omega (arith, e)))

pub counts_numbers : (n k : ℕ) → Counts n (numbers n k)
counts_numbers n zero = tt
counts_numbers n (suc k) = (refl, counts_numbers (suc n) k)

pub after_numbers : (n k : ℕ) → after_all (numbers n k) n ≡ n + k
after_numbers n zero = omega arith
after_numbers n (suc k) = let e = after_numbers (suc n) k in omega (arith, e)

-- blocks of which the first has k parameters, the numbers from 0 on
pub made_in_order : (s : Start) (last : End) (ps : List Piece) (k m : ℕ) → s.params ≡ numbers 0 k → Numbered k ps m → made (code_blocks (blocks_of s [] last ps)) ≡ numbers 0 m
made_in_order s last ps k m e z =
    let r = made_blocks s [] last ps k m z in
    let a : after_all (numbers 0 k) 0 ≡ k = after_numbers 0 k ∙ omega arith in
    r.3 ∙ ap (λ x. x ++ r.0) (append_nil s.params ∙ e) ∙ counts_same 0 (numbers 0 k ++ r.0) m (counts_on 0 (numbers 0 k) r.0 (counts_numbers 0 k) (subst (λ x. Counts x r.0) (sym a) r.1)) (after_on 0 (numbers 0 k) r.0 ∙ ap (λ x. after_all r.0 x) a ∙ r.2) m (omega arith)

---- Numbers in order are below their end, and each is there once

pub numbers_below : (i n m : ℕ) → i + n ≤ m → all_below m (numbers i n) ≡ true
numbers_below i zero m l = refl
numbers_below i (suc n) m l = and_from (nat_lt i m) (all_below m (numbers (suc i) n)) (lt-ltb i m (omega (arith, l))) (numbers_below (suc i) n m (omega (arith, l)))

times_past : (i n v : ℕ) → v < i → times (numbers i n) v ≡ 0
times_past i zero v l = refl
times_past i (suc n) v l = ap (λ b. cond b (suc (times (numbers (suc i) n) v)) (times (numbers (suc i) n) v)) (ne_eqb i v (λ e. omega (arith, e, l))) ∙ times_past (suc i) n v (omega (arith, l))

pub times_once : (i n v : ℕ) → i ≤ v → v < i + n → times (numbers i n) v ≡ 1
times_once i zero v l k = absurd (omega (arith, l, k))
times_once i (suc n) v l k =
    ⊎_elim
    (λ (less : i < v). ap (λ b. cond b (suc (times (numbers (suc i) n) v)) (times (numbers (suc i) n) v)) (ne_eqb i v (λ e. omega (arith, e, less))) ∙ times_once (suc i) n v (omega (arith, less)) (omega (arith, k)))
    (λ (not_less : v ≤ i). ap (λ b. cond b (suc (times (numbers (suc i) n) v)) (times (numbers (suc i) n) v)) (eq-eqb i v (omega (arith, l, not_less))) ∙ ap suc (times_past (suc i) n v (omega (arith, not_less))))
    (cases_lt i v)
