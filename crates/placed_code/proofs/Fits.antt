-- What it means for operations that their uses, their definition and their numbers fit.
use Rattle.std.proofs.Common.{◌≡◌, ℕ, ◌≤◌, ◌^◌, ◌==◌, ◌&&◌, ⊎_elim, Bool, true, false, not, refl, arith}
use Rattle.std.specs.Prelude.{nat_lt, nat_le}
use Rattle.std.proofs.lemmas.Bool.{ltb-true}
use Rattle.std.proofs.lemmas.Bool.Decides.{eqb_tells, nat_tests}
use Rattle.block_runs.specs.declared.code.Code.{Code}
use Rattle.block_runs.specs.declared.code.Code.TheVariants as f
use Rattle.block_runs.specs.Valid.{makes, acts, fits, in_24_bits, is_call}
use Rattle.placed_code.specs.Claims.{IsNumber}
use Rattle.placed_code.proofs.Values.{is_value, uses, valued, ValueFits}

and_left : (a b : Bool) → (a && b) ≡ true → a ≡ true
and_left true b e = refl
and_left false b e = cc

and_right : (a b : Bool) → (a && b) ≡ true → b ≡ true
and_right true b e = e
and_right false b e = cc

same_numbers : (m n : ℕ) → (m == n) ≡ true → m ≡ n
same_numbers m n e = ⊎_elim (λ t. t.1) (λ f. let wrong = f.0 in cc) (eqb_tells m n)

not_true : (b : Bool) → not b ≡ true → b ≡ false
not_true true e = cc
not_true false e = refl

pub makes_is : (n u : ℕ) (d : Bool) → makes n u d ≡ true → (u ≡ n) × (d ≡ true)
makes_is n u d h = (same_numbers u n (and_left (u == n) d h), and_right (u == n) d h)

pub acts_is : (n u : ℕ) (d : Bool) → acts n u d ≡ true → (u ≡ n) × (d ≡ false)
acts_is n u d h = (same_numbers u n (and_left (u == n) (not d) h), not_true d (and_right (u == n) (not d) h))

-- a value's operation reads as many values as its words do, and makes one where they give one
pub fits_value : (args : ℕ) (code : Code) (u : ℕ) (d : Bool) → is_value code ≡ true → fits args code u d ≡ true → (u ≡ uses code) × (d ≡ valued code)
fits_value args (f.Const n) u d v h = makes_is 0 u d h
fits_value args (f.Global n) u d v h = makes_is 0 u d (and_right (in_24_bits n) (makes 0 u d) h)
fits_value args (f.Local n) u d v h = makes_is 0 u d (and_right (in_24_bits n) (makes 0 u d) h)
fits_value args (f.Plus n) u d v h = makes_is 1 u d (and_right (in_24_bits n) (makes 1 u d) h)
fits_value args (f.Code p) u d v h = makes_is 0 u d h
fits_value args (f.Arg i) u d v h = makes_is 0 u d (and_right (nat_lt i args) (makes 0 u d) (and_right (nat_le 4 i) (nat_lt i args && makes 0 u d) h))
fits_value args f.Load u d v h = makes_is 1 u d h
fits_value args f.LoadByte u d v h = makes_is 1 u d h
fits_value args f.Add u d v h = makes_is 2 u d h
fits_value args f.Sub u d v h = makes_is 2 u d h
fits_value args f.And u d v h = makes_is 2 u d h
fits_value args f.Or u d v h = makes_is 2 u d h
fits_value args f.Eor u d v h = makes_is 2 u d h
fits_value args f.Bic u d v h = makes_is 2 u d h
fits_value args f.Lsl u d v h = makes_is 2 u d h
fits_value args f.Asr u d v h = makes_is 2 u d h
fits_value args f.Ror u d v h = makes_is 2 u d h
fits_value args f.Mul u d v h = makes_is 2 u d h
fits_value args f.MulAdd u d v h = makes_is 3 u d h
fits_value args f.Neg u d v h = makes_is 1 u d h
fits_value args f.Not u d v h = makes_is 1 u d h
fits_value args f.Abs u d v h = makes_is 1 u d h
fits_value args f.Max0 u d v h = makes_is 1 u d h
fits_value args f.Odd u d v h = makes_is 1 u d h
fits_value args (f.Set k) u d v h = makes_is 2 u d (and_right (nat_lt k 14) (makes 2 u d) h)
fits_value args f.Flip u d v h = makes_is 1 u d h
fits_value args f.Bit u d v h = makes_is 1 u d h
fits_value args f.Span u d v h = makes_is 2 u d h
fits_value args f.Has u d v h = makes_is 2 u d h
fits_value args f.Div u d v h = makes_is 2 u d h
fits_value args f.Mod u d v h = makes_is 2 u d h
fits_value args f.Below u d v h = acts_is 2 u d h
fits_value args f.Fits u d v h = acts_is 2 u d h
fits_value args f.Byte u d v h = acts_is 1 u d h
fits_value args f.Elem u d v h = acts_is 1 u d h
fits_value args f.NotNil u d v h = acts_is 1 u d h
fits_value args f.True u d v h = acts_is 1 u d h
fits_value args (f.IsPtr j) u d v h = makes_is 2 u d (and_right (nat_lt j 16) (makes 2 u d) h)
fits_value args (f.IsTag j) u d v h = makes_is 2 u d (and_right (nat_lt j 16) (makes 2 u d) h)
fits_value args (f.GuardPtr j) u d v h = acts_is 2 u d (and_right (nat_lt j 16) (acts 2 u d) h)
fits_value args (f.GuardTag j) u d v h = acts_is 2 u d (and_right (nat_lt j 16) (acts 2 u d) h)
fits_value args f.Store u d v h = cc
fits_value args f.StoreByte u d v h = cc
fits_value args f.New u d v h = cc
fits_value args (f.Call p) u d v h = cc
fits_value args f.CallAt u d v h = cc
fits_value args f.Copy u d v h = cc
fits_value args f.Zero u d v h = cc
fits_value args f.Compare u d v h = cc
fits_value args (f.Svc n) u d v h = cc

-- no value's operation is a call
pub not_call : (code : Code) → is_value code ≡ true → is_call code ≡ false
not_call (f.Const n) v = refl
not_call (f.Global n) v = refl
not_call (f.Local n) v = refl
not_call (f.Plus n) v = refl
not_call (f.Code p) v = refl
not_call (f.Arg i) v = refl
not_call f.Load v = refl
not_call f.LoadByte v = refl
not_call f.Add v = refl
not_call f.Sub v = refl
not_call f.And v = refl
not_call f.Or v = refl
not_call f.Eor v = refl
not_call f.Bic v = refl
not_call f.Lsl v = refl
not_call f.Asr v = refl
not_call f.Ror v = refl
not_call f.Mul v = refl
not_call f.MulAdd v = refl
not_call f.Neg v = refl
not_call f.Not v = refl
not_call f.Abs v = refl
not_call f.Max0 v = refl
not_call f.Odd v = refl
not_call (f.Set k) v = refl
not_call f.Flip v = refl
not_call f.Bit v = refl
not_call f.Span v = refl
not_call f.Has v = refl
not_call f.Div v = refl
not_call f.Mod v = refl
not_call f.Below v = refl
not_call f.Fits v = refl
not_call f.Byte v = refl
not_call f.Elem v = refl
not_call f.NotNil v = refl
not_call f.True v = refl
not_call (f.IsPtr j) v = refl
not_call (f.IsTag j) v = refl
not_call (f.GuardPtr j) v = refl
not_call (f.GuardTag j) v = refl
not_call f.Store v = cc
not_call f.StoreByte v = cc
not_call f.New v = cc
not_call (f.Call p) v = cc
not_call f.CallAt v = cc
not_call f.Copy v = cc
not_call f.Zero v = cc
not_call f.Compare v = cc
not_call (f.Svc n) v = cc

-- the number of an operation is one that its words can make
pub fits_number : (args : ℕ) (entry : ℕ → ℕ) → ((p : ℕ) → entry p ≤ 2 ^ 18) → (code : Code) (u : ℕ) (d : Bool) → fits args code u d ≡ true → IsNumber code → ValueFits entry code
fits_number args entry low (f.Const n) u d h is = is
fits_number args entry low (f.Global n) u d h is = ltb-true n 16777216 (and_left (in_24_bits n) (makes 0 u d) h)
fits_number args entry low (f.Local n) u d h is = ltb-true n 16777216 (and_left (in_24_bits n) (makes 0 u d) h)
fits_number args entry low (f.Plus n) u d h is = ltb-true n 16777216 (and_left (in_24_bits n) (makes 1 u d) h)
fits_number args entry low (f.Code p) u d h is = low p
fits_number args entry low (f.Arg i) u d h is = let t = and_left (nat_le 4 i) (nat_lt i args && makes 0 u d) h in grind (arith, nat_tests, t)
fits_number args entry low (f.Set k) u d h is = ltb-true k 14 (and_left (nat_lt k 14) (makes 2 u d) h)
fits_number args entry low f.Load u d h is = tt
fits_number args entry low f.LoadByte u d h is = tt
fits_number args entry low f.Add u d h is = tt
fits_number args entry low f.Sub u d h is = tt
fits_number args entry low f.And u d h is = tt
fits_number args entry low f.Or u d h is = tt
fits_number args entry low f.Eor u d h is = tt
fits_number args entry low f.Bic u d h is = tt
fits_number args entry low f.Lsl u d h is = tt
fits_number args entry low f.Asr u d h is = tt
fits_number args entry low f.Ror u d h is = tt
fits_number args entry low f.Mul u d h is = tt
fits_number args entry low f.MulAdd u d h is = tt
fits_number args entry low f.Neg u d h is = tt
fits_number args entry low f.Not u d h is = tt
fits_number args entry low f.Abs u d h is = tt
fits_number args entry low f.Max0 u d h is = tt
fits_number args entry low f.Odd u d h is = tt
fits_number args entry low f.Flip u d h is = tt
fits_number args entry low f.Bit u d h is = tt
fits_number args entry low f.Span u d h is = tt
fits_number args entry low f.Has u d h is = tt
fits_number args entry low f.Div u d h is = tt
fits_number args entry low f.Mod u d h is = tt
fits_number args entry low f.Below u d h is = tt
fits_number args entry low f.Fits u d h is = tt
fits_number args entry low f.Byte u d h is = tt
fits_number args entry low f.Elem u d h is = tt
fits_number args entry low f.NotNil u d h is = tt
fits_number args entry low f.True u d h is = tt
fits_number args entry low (f.IsPtr j) u d h is = tt
fits_number args entry low (f.IsTag j) u d h is = tt
fits_number args entry low (f.GuardPtr j) u d h is = tt
fits_number args entry low (f.GuardTag j) u d h is = tt
fits_number args entry low f.Store u d h is = tt
fits_number args entry low f.StoreByte u d h is = tt
fits_number args entry low f.New u d h is = tt
fits_number args entry low (f.Call p) u d h is = tt
fits_number args entry low f.CallAt u d h is = tt
fits_number args entry low f.Copy u d h is = tt
fits_number args entry low f.Zero u d h is = tt
fits_number args entry low f.Compare u d h is = tt
fits_number args entry low (f.Svc n) u d h is = tt
