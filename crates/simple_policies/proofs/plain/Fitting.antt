-- Operations of valid flows are such that plain lines are accepted.
use Rattle.std.proofs.Common.{◌≡◌, ℕ, zero, suc, ◌-◌, ◌<◌, ◌≤◌, Bool, true, false, not, ◌&&◌, cond, List, [], ◌∷◌, map, length, refl, sym, ap, ◌∙◌, arith}
use Rattle.std.specs.Prelude.{◌==◌, nat_lt, nat_le, is_some, option_to_list}
use Rattle.std.specs.List.{list_all}
use Rattle.std.proofs.lemmas.Bool.{eqb-true, eq-eqb}
use Rattle.std.proofs.lemmas.Bool.Decides.{nat_tests}
use mathlib.Core.Bool.{beq}
use Rattle.block_runs.specs.declared.code.Code.{Code}
use Rattle.block_runs.specs.declared.code.Code.TheVariants.{Const, Global, Local, Plus, Arg, Load, Store, LoadByte, StoreByte, Add, Sub, And, Or, Eor, Bic, Lsl, Asr, Ror, Mul, MulAdd, Neg, Not, Abs, Max0, Odd, Set, Flip, Bit, Span, Has, Div, Mod, Below, Fits, Byte, Elem, NotNil, True, IsPtr, IsTag, GuardPtr, GuardTag, New, Call, CallAt, Copy, Zero, Compare, Svc}
use Rattle.block_runs.specs.declared.code.Code.TheVariants.{Code as CodeOf}
use Rattle.block_runs.specs.Blocks.{Operation, CodeBlock, block_at}
use Rattle.block_runs.specs.Live.{has, defs_of}
use Rattle.block_runs.specs.Valid.{makes, acts, in_24_bits, fits, is_call, operation_fits, uses_of}
use Rattle.lir_core.specs.declared.flow.Lir.{Lir}
use Rattle.lir_core.specs.Flows.{operation_of}
use Rattle.lir_core.specs.Lines.{is_aimed, arguments, Room, slots_used, slots_in, slots_of}
use Rattle.global_live.proofs.Lists.{has_front, has_back}
use Rattle.simple_policies.proofs.plain.Walked.{IsFit, AllFit}

pub parts : (a b : Bool) → (a && b) ≡ true → (a ≡ true) × (b ≡ true)
parts true b h = (refl, h)
parts false b h = cc

exactly : (n u : ℕ) (d : Bool) → makes n u d ≡ true → n ≤ 3 → u ≤ 3
exactly n u d e l = let a = eqb-true u n (parts (u == n) d e).0 in omega (arith, a, l)

exactly_none : (n u : ℕ) (d : Bool) → acts n u d ≡ true → n ≤ 3 → u ≤ 3
exactly_none n u d e l = let a = eqb-true u n (parts (u == n) (not d) e).0 in omega (arith, a, l)

-- an operation other than a call reads at most three values
few_fits : (args : ℕ) (c : Code) (u : ℕ) (d : Bool) → fits args c u d ≡ true → is_call c ≡ false → u ≤ 3
few_fits args (Const n) u d e off = exactly 0 u d e (omega arith)
few_fits args (Global n) u d e off = exactly 0 u d (parts (in_24_bits n) (makes 0 u d) e).1 (omega arith)
few_fits args (Local n) u d e off = exactly 0 u d (parts (in_24_bits n) (makes 0 u d) e).1 (omega arith)
few_fits args (Plus n) u d e off = exactly 1 u d (parts (in_24_bits n) (makes 1 u d) e).1 (omega arith)
few_fits args (CodeOf p) u d e off = exactly 0 u d e (omega arith)
few_fits args (Arg i) u d e off = let a = parts (nat_le 4 i) (nat_lt i args && makes 0 u d) e in let b = parts (nat_lt i args) (makes 0 u d) a.1 in exactly 0 u d b.1 (omega arith)
few_fits args Load u d e off = exactly 1 u d e (omega arith)
few_fits args Store u d e off = exactly_none 2 u d e (omega arith)
few_fits args LoadByte u d e off = exactly 1 u d e (omega arith)
few_fits args StoreByte u d e off = exactly_none 2 u d e (omega arith)
few_fits args Add u d e off = exactly 2 u d e (omega arith)
few_fits args Sub u d e off = exactly 2 u d e (omega arith)
few_fits args And u d e off = exactly 2 u d e (omega arith)
few_fits args Or u d e off = exactly 2 u d e (omega arith)
few_fits args Eor u d e off = exactly 2 u d e (omega arith)
few_fits args Bic u d e off = exactly 2 u d e (omega arith)
few_fits args Lsl u d e off = exactly 2 u d e (omega arith)
few_fits args Asr u d e off = exactly 2 u d e (omega arith)
few_fits args Ror u d e off = exactly 2 u d e (omega arith)
few_fits args Mul u d e off = exactly 2 u d e (omega arith)
few_fits args MulAdd u d e off = exactly 3 u d e (omega arith)
few_fits args Neg u d e off = exactly 1 u d e (omega arith)
few_fits args Not u d e off = exactly 1 u d e (omega arith)
few_fits args Abs u d e off = exactly 1 u d e (omega arith)
few_fits args Max0 u d e off = exactly 1 u d e (omega arith)
few_fits args Odd u d e off = exactly 1 u d e (omega arith)
few_fits args (Set k) u d e off = exactly 2 u d (parts (nat_lt k 14) (makes 2 u d) e).1 (omega arith)
few_fits args Flip u d e off = exactly 1 u d e (omega arith)
few_fits args Bit u d e off = exactly 1 u d e (omega arith)
few_fits args Span u d e off = exactly 2 u d e (omega arith)
few_fits args Has u d e off = exactly 2 u d e (omega arith)
few_fits args Div u d e off = exactly 2 u d e (omega arith)
few_fits args Mod u d e off = exactly 2 u d e (omega arith)
few_fits args Below u d e off = exactly_none 2 u d e (omega arith)
few_fits args Fits u d e off = exactly_none 2 u d e (omega arith)
few_fits args Byte u d e off = exactly_none 1 u d e (omega arith)
few_fits args Elem u d e off = exactly_none 1 u d e (omega arith)
few_fits args NotNil u d e off = exactly_none 1 u d e (omega arith)
few_fits args True u d e off = exactly_none 1 u d e (omega arith)
few_fits args (IsPtr j) u d e off = exactly 2 u d (parts (nat_lt j 16) (makes 2 u d) e).1 (omega arith)
few_fits args (IsTag j) u d e off = exactly 2 u d (parts (nat_lt j 16) (makes 2 u d) e).1 (omega arith)
few_fits args (GuardPtr j) u d e off = exactly_none 2 u d (parts (nat_lt j 16) (acts 2 u d) e).1 (omega arith)
few_fits args (GuardTag j) u d e off = exactly_none 2 u d (parts (nat_lt j 16) (acts 2 u d) e).1 (omega arith)
few_fits args New u d e off = exactly 3 u d e (omega arith)
few_fits args (Call p) u d e off = cc
few_fits args CallAt u d e off = cc
few_fits args Copy u d e off = cc
few_fits args Zero u d e off = cc
few_fits args Compare u d e off = cc
few_fits args (Svc n) u d e off = cc

aims_some : (args : ℕ) (c : Code) (u : ℕ) (d : Bool) → fits args c u d ≡ true → is_aimed c ≡ true → 0 < u
aims_some args CallAt u d e on = let a = (parts (nat_le 1 u) (nat_le u 25) e).0 in grind (arith, nat_tests)
aims_some args _ u d e on = cc

same_test : (a b : Bool) → beq a b ≡ true → a ≡ b
same_test true true e = refl
same_test false false e = refl
same_test true false e = cc
same_test false true e = cc

-- what is known of some operations
pub record AreFit (room : Room) (args : ℕ) (xs : List Lir) : Type 0 where
  pub calls : list_all (λ x. beq x.call (is_call x.template)) xs ≡ true
  pub below : (v : ℕ) → has (uses_of (map operation_of xs)) v ≡ true → v < room.values
  pub defs_below : (v : ℕ) → has (defs_of (map operation_of xs)) v ≡ true → v < room.values
  pub operations : list_all (operation_fits args) (map operation_of xs) ≡ true
  pub slots : slots_in (map operation_of xs) ≤ room.slots

module _ (room : Room) (ops : List Operation) (room_for : 4 ≤ room.regs) (args : ℕ) where
  fit_one : (x : Lir) (xs : List Lir) → AreFit room args (x ∷ xs) → IsFit room x
  fit_one x xs a = record {
    call = same_test x.call (is_call x.template) calls.0;
    below = λ v h. a.below v (has_front x.uses (uses_of (map operation_of xs)) v h);
    def_below = λ v e. a.defs_below v (has_front (option_to_list x.def) (defs_of (map operation_of xs)) v (ap (λ o. has (option_to_list o) v) e ∙ ap (λ b. cond b true false) (eq-eqb v v refl)));
    few = λ e. few_fits args x.template (length x.uses) (is_some x.def) operations.0 (sym (same_test x.call (is_call x.template) calls.0) ∙ e);
    aimed = λ e. aims_some args x.template (length x.uses) (is_some x.def) operations.0 e;
    slots = λ e.
        let s = a.slots in
        let used : slots_used (operation_of x) ≡ length (arguments (operation_of x)) - 4 = ap (λ b. cond b (length (arguments (operation_of x)) - 4) 0) (sym (same_test x.call (is_call x.template) calls.0) ∙ e) in
        omega (arith, s, used);
  }
    where
      calls : (beq x.call (is_call x.template) ≡ true) × (list_all (λ x. beq x.call (is_call x.template)) xs ≡ true)
      calls = parts (beq x.call (is_call x.template)) (list_all (λ x. beq x.call (is_call x.template)) xs) a.calls

      operations : (operation_fits args (operation_of x) ≡ true) × (list_all (operation_fits args) (map operation_of xs) ≡ true)
      operations = parts (operation_fits args (operation_of x)) (list_all (operation_fits args) (map operation_of xs)) a.operations

  fit_rest : (x : Lir) (xs : List Lir) → AreFit room args (x ∷ xs) → AreFit room args xs
  fit_rest x xs a = record {
    calls = (parts (beq x.call (is_call x.template)) (list_all (λ x. beq x.call (is_call x.template)) xs) a.calls).1;
    below = λ v h. a.below v (has_back x.uses (uses_of (map operation_of xs)) v h);
    defs_below = λ v h. a.defs_below v (has_back (option_to_list x.def) (defs_of (map operation_of xs)) v h);
    operations = (parts (operation_fits args (operation_of x)) (list_all (operation_fits args) (map operation_of xs)) a.operations).1;
    slots = let s = a.slots in omega (arith, s);
  }

  pub all_fit : (xs : List Lir) → AreFit room args xs → AllFit room ops room_for xs
  all_fit [] a = tt
  all_fit (x ∷ xs) a = (fit_one x xs a, all_fit xs (fit_rest x xs a))

---- Slots of a flow

pub slots_at : (bls : List CodeBlock) (n : ℕ) → n < length bls → slots_in (block_at bls n).ops ≤ slots_of bls
slots_at [] n l = absurd (omega (arith, l))
slots_at (b ∷ bls) zero l = omega arith
slots_at (b ∷ bls) (suc n) l = let on = slots_at bls n (omega (arith, l)) in omega (arith, on)
