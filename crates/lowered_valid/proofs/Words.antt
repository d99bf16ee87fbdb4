-- Argument words: each parameter's are among those of the procedure.
use Rattle.std.proofs.Common.{◌≡◌, ⊎_elim, inl, inr, ℕ, zero, suc, ◌+◌, ◌-◌, ◌≤◌, ◌<◌, min, List, [], ◌∷◌, ◌++◌, map, take, Bool, true, false, Option, Some, None, refl, sym, ap, subst, arith, slice_get, append_assoc}
use Rattle.std.proofs.lemmas.Bool.{cases_lt}
use Rattle.std.proofs.lemmas.List.Sums.{sum_by-cons}
use Rattle.std.specs.Prelude.{if◌then◌else◌}
use Rattle.ob_types.specs.Layout.{kind_of}
use Rattle.ob_types.specs.Meaning.{is_value}
use Rattle.ob_types.specs.Table.{Table}
use Rattle.ob_types.specs.declared.types.Mode.{Mode}
use Rattle.ob_types.specs.declared.types.Mode.TheVariants.{Place}
use Rattle.ob_types.specs.declared.types.Mode.TheVariants.{Value as AsValue, Record as AsRecord, Open as AsOpen}
use Rattle.ob_types.specs.declared.types.Formal.{Formal}
use Rattle.ssa_lowered.specs.Data.{Layout, room}
use Rattle.ssa_lowered.specs.Pieces.{Mask, rest, numbers}
use Rattle.ssa_lowered.specs.Variables.{words_of, words_by, Variable, placed, value_parameters, is_structured}
use Rattle.ssa_lowered.specs.Variables.{Register as InRegister, Memory as InMemory}
use Rattle.ssa_lowered.specs.Lowered.{by_mode}
use Rattle.ssa_lowered.proofs.Everywhere.{Each}
use Rattle.ob_types.proofs.Tests.{none_some, some_same}
use Rattle.lowered_valid.proofs.Lists.{In, Sub}
use Rattle.lowered_valid.proofs.Tree.{OfNamed, OfWord}

in_numbers : (i n v : ℕ) → i ≤ v → v < i + n → In v (numbers i n)
in_numbers i zero v p q = absurd (omega (arith, p, q))
in_numbers i (suc n) v p q = ⊎_elim (λ (l : i < v). inr (in_numbers (suc i) n v (omega (arith, l)) (omega (arith, q)))) (λ (l : v ≤ i). inl (omega (arith, l, p))) (cases_lt i v)

of_numbers : (i n v : ℕ) → In v (numbers i n) → (i ≤ v) × (v < i + n)
of_numbers i zero v j = absurd j
of_numbers i (suc n) v (inl e) = (omega (arith, e), omega (arith, e))
of_numbers i (suc n) v (inr k) = let r = of_numbers (suc i) n v k in let a = r.0 in let b = r.1 in (omega (arith, a), omega (arith, b))

-- the first four argument words, and the others
pub all_words : (n : ℕ) (w : List ℕ) → Sub (numbers 0 (min n 4)) w → Sub (numbers (min n 4) (n - 4)) w → Sub (numbers 0 n) w
all_words n w p q v i =
    let b = (of_numbers 0 n v i).1 in
    ⊎_elim (λ (l : v < min n 4). p v (in_numbers 0 (min n 4) v (omega arith) (omega (arith, l)))) (λ (l : min n 4 ≤ v). q v (in_numbers (min n 4) (n - 4) v l (omega (arith, l, b)))) (cases_lt v (min n 4))

words_cons : (x : Formal) (xs : List Formal) → words_of (x ∷ xs) ≡ words_by x.mode + words_of xs
words_cons x xs = sum_by-cons (λ (x : Formal). words_by x.mode) x xs

no_words : words_of [] ≡ 0
no_words = refl

-- a parameter's words
pub words_fit : (formals : List Formal) (k : ℕ) (f : Formal) → slice_get formals k ≡ Some f → words_of (take k formals) + words_by f.mode ≤ words_of formals
words_fit [] k f e = none_some f e
words_fit (x ∷ xs) zero f e = let q = words_cons x xs in let r = ap (λ (z : Formal). words_by z.mode) (some_same x f e) in let n = no_words in omega (arith, q, r, n)
words_fit (x ∷ xs) (suc k) f e = let r = words_fit xs k f e in let a = words_cons x xs in let b = words_cons x (take k xs) in omega (arith, r, a, b)

pub named_given : (regs : Mask) (m : Mode) (w n : ℕ) → w + words_by m ≤ n → OfNamed regs (by_mode m w) (numbers 0 n)
named_given regs AsValue w n p = in_numbers 0 n w (omega arith) (omega (arith, p))
named_given regs Place w n p = in_numbers 0 n w (omega arith) (omega (arith, p))
named_given regs AsRecord w n p = (in_numbers 0 n w (omega arith) (omega (arith, p)), in_numbers 0 n (suc w) (omega arith) (omega (arith, p)))
named_given regs AsOpen w n p = (in_numbers 0 n w (omega arith) (omega (arith, p)), in_numbers 0 n (suc w) (omega arith) (omega (arith, p)))

abbrev First : List ℕ → ℕ × Option ℕ → Type 0
First given x = OfWord given x.1

one_first : (m : Mode) (kind w n : ℕ) (more : List (ℕ × Option ℕ)) → w + words_by m ≤ n → Each (First (numbers 0 n)) more → Each (First (numbers 0 n)) ((if is_value m then (kind, Some w) ∷ [] else []) ++ more)
one_first AsValue kind w n more p q = (in_numbers 0 n w (omega arith) (omega (arith, p)), q)
one_first Place kind w n more p q = q
one_first AsRecord kind w n more p q = q
one_first AsOpen kind w n more p q = q

all_first : (w n : ℕ) (formals : List Formal) (more : List (ℕ × Option ℕ)) → w + words_of formals ≤ n → Each (First (numbers 0 n)) more → Each (First (numbers 0 n)) (value_parameters w formals ++ more)
all_first w n [] more p q = q
all_first w n (x ∷ xs) more p q =
    let c = words_cons x xs in
    subst (λ z. Each (First (numbers 0 n)) z) (sym (append_assoc (if is_value x.mode then (x.type_number, Some w) ∷ [] else []) (value_parameters (w + words_by x.mode) xs) more))
    (one_first x.mode x.type_number w n (value_parameters (w + words_by x.mode) xs ++ more) (omega (arith, p, c)) (all_first (w + words_by x.mode) n xs more (omega (arith, p, c)) q))

abbrev none_word : Option ℕ
none_word = None

locals_first : (given ks : List ℕ) → Each (First given) (map (λ (k : ℕ). (k, none_word)) ks)
locals_first given [] = tt
locals_first given (k ∷ ks) = (tt, locals_first given ks)

abbrev Words : List ℕ → List Variable → Type 0
Words given vs = Each (λ (v : Variable). OfWord given v.word) vs

words_if : (given : List ℕ) (b : Bool) (xs ys : List Variable) → Words given xs → Words given ys → Words given (if b then xs else ys)
words_if given true xs ys p q = p
words_if given false xs ys p q = q

words_placed : (given : List ℕ) (t : Table) (l : Layout) (lent : Mask) (a b : ℕ) (xs : List (ℕ × Option ℕ)) → Each (First given) xs → Words given (placed t l lent a b xs)
words_placed given t l lent a b [] q = tt
words_placed given t l lent a b (x ∷ xs) q =
    words_if given (is_structured (kind_of t x.0)) (record { type_number = x.0; word = x.1; site = InMemory a } ∷ placed t l (rest lent) (a + room l x.0) b xs) (if lent 0 then record { type_number = x.0; word = x.1; site = InMemory b } ∷ placed t l (rest lent) a (b + 8) xs else record { type_number = x.0; word = x.1; site = InRegister } ∷ placed t l (rest lent) a b xs)
    (q.0, words_placed given t l (rest lent) (a + room l x.0) b xs q.1)
    (words_if given (lent 0) (record { type_number = x.0; word = x.1; site = InMemory b } ∷ placed t l (rest lent) a (b + 8) xs) (record { type_number = x.0; word = x.1; site = InRegister } ∷ placed t l (rest lent) a b xs) (q.0, words_placed given t l (rest lent) a (b + 8) xs q.1) (q.0, words_placed given t l (rest lent) a b xs q.1))

-- the variables' first values are argument words
pub variables_first : (t : Table) (l : Layout) (lent : Mask) (a b : ℕ) (formals : List Formal) (locals : List ℕ) → Words (numbers 0 (words_of formals)) (placed t l lent a b (value_parameters 0 formals ++ map (λ (k : ℕ). (k, none_word)) locals))
variables_first t l lent a b formals locals =
    let n = words_of formals in
    words_placed (numbers 0 n) t l lent a b (value_parameters 0 formals ++ map (λ (k : ℕ). (k, none_word)) locals) (all_first 0 n formals (map (λ (k : ℕ). (k, none_word)) locals) (omega arith) (locals_first (numbers 0 n) locals))
