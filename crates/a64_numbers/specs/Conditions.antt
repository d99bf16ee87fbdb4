-- The flags, the fifteen conditions, and selects (Arm Architecture Reference Manual, "Condition code suffixes").
use Rattle.std.specs.Prelude.{ℕ, Bool, true, false, not, cond, ◌&&◌, nat_lt, nat_le, ◌==◌, int_lt, int_le}
use mathlib.Core.Bool.{beq}
use Rattle.wrapping_numbers.specs.Numbers.{signed, sign, add64, sub64, neg64}
use Rattle.a64_numbers.specs.declared.flags.Flags.{Flags}
use Rattle.a64_instr.specs.declared.instr.Cond.{Cond}
use Rattle.a64_instr.specs.declared.instr.Cond.TheVariants.{Eq, Ne, Hs, Lo, Mi, Pl, Vs, Vc, Hi, Ls, Ge, Lt, Gt, Le, Al}

-- the signed difference of a and b leaves the signed 64-bit range
abbrev pub overflows : ℕ → ℕ → Bool
overflows a b = not (beq (sign a) (sign b)) && not (beq (sign (sub64 a b)) (sign a))

-- SUBS of a and b: the sign, no difference, no borrow, signed overflow
abbrev pub subs_flags : ℕ → ℕ → Flags
subs_flags a b = record { negative = sign (sub64 a b); zero = sub64 a b == 0; carry = nat_le b a; overflow = overflows a b }

-- ANDS with this result
abbrev pub ands_flags : ℕ → Flags
ands_flags r = record { negative = sign r; zero = r == 0; carry = false; overflow = false }

-- no flag is set
abbrev pub clear_flags : Flags
clear_flags = record { negative = false; zero = false; carry = false; overflow = false }

-- the condition holds at these flags
abbrev pub holds : Cond → Flags → Bool
holds Eq f = f.zero
holds Ne f = not f.zero
holds Hs f = f.carry
holds Lo f = not f.carry
holds Mi f = f.negative
holds Pl f = not f.negative
holds Vs f = f.overflow
holds Vc f = not f.overflow
holds Hi f = f.carry && not f.zero
holds Ls f = not (f.carry && not f.zero)
holds Ge f = beq f.negative f.overflow
holds Lt f = not (beq f.negative f.overflow)
holds Gt f = not f.zero && beq f.negative f.overflow
holds Le f = not (not f.zero && beq f.negative f.overflow)
holds Al f = true

-- the condition that holds where this one doesn't; AL has none, and stays
abbrev pub opposite : Cond → Cond
opposite Eq = Ne
opposite Ne = Eq
opposite Hs = Lo
opposite Lo = Hs
opposite Mi = Pl
opposite Pl = Mi
opposite Vs = Vc
opposite Vc = Vs
opposite Hi = Ls
opposite Ls = Hi
opposite Ge = Lt
opposite Lt = Ge
opposite Gt = Le
opposite Le = Gt
opposite Al = Al

-- what the condition says of two numbers whose SUBS set the flags
abbrev pub compares : Cond → ℕ → ℕ → Bool
compares Eq a b = a == b
compares Ne a b = not (a == b)
compares Hs a b = nat_le b a
compares Lo a b = nat_lt a b
compares Hi a b = nat_lt b a
compares Ls a b = nat_le a b
compares Ge a b = int_le (signed b) (signed a)
compares Lt a b = int_lt (signed a) (signed b)
compares Gt a b = int_lt (signed b) (signed a)
compares Le a b = int_le (signed a) (signed b)
compares Al a b = true
compares Mi a b = sign (sub64 a b)
compares Pl a b = not (sign (sub64 a b))
compares Vs a b = overflows a b
compares Vc a b = not (overflows a b)

-- CSEL, CSINC, CSNEG: n where the condition holds, else m, m + 1, -m
abbrev pub csel : Cond → Flags → ℕ → ℕ → ℕ
csel c f n m = cond (holds c f) n m

abbrev pub csinc : Cond → Flags → ℕ → ℕ → ℕ
csinc c f n m = cond (holds c f) n (add64 m 1)

abbrev pub csneg : Cond → Flags → ℕ → ℕ → ℕ
csneg c f n m = cond (holds c f) n (neg64 m)
