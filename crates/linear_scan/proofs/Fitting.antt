-- What an operation of a valid flow has.
use Rattle.std.proofs.Common.{◌≡◌, ℕ, zero, suc, ◌+◌, ◌<◌, ◌≤◌, Bool, true, false, not, ◌&&◌, List, [], ◌∷◌, map, length, max, Option, Some, None, refl, sym, ap, ◌∙◌, subst, arith, ◌⊎◌, inl, inr}
use Rattle.std.specs.Prelude.{◌==◌, nat_lt, nat_le, is_some, option_to_list}
use mathlib.Core.Bool.{beq}
use Rattle.std.specs.List.{list_all}
use Rattle.std.proofs.lemmas.Bool.{eqb-true, and_parts, leb-true, cases_lt}
use Rattle.block_runs.specs.declared.code.Code.{Code}
use Rattle.block_runs.specs.declared.code.Code.TheVariants.{Abs, Add, And, Arg, Asr, Below, Bic, Bit, Byte, Call, CallAt, Compare, Const, Copy, Div, Elem, Eor, Fits, Flip, Global, GuardPtr, GuardTag, Has, IsPtr, IsTag, Load, LoadByte, Local, Lsl, Max0, Mod, Mul, MulAdd, Neg, New, Not, NotNil, Odd, Or, Plus, Ror, Set, Span, Store, StoreByte, Sub, Svc, True, Zero}
use Rattle.block_runs.specs.declared.code.Code.TheVariants.{Code as CodeOf}
use Rattle.block_runs.specs.Blocks.{CodeBlock, block_at}
use Rattle.block_runs.specs.Live.{has, defs_of, block_makes}
use Rattle.block_runs.specs.Valid.{is_call, fits, makes, acts, in_24_bits, operation_fits, made, times}
use Rattle.lir_core.specs.declared.flow.Lir.{Lir}
use Rattle.lir_core.specs.declared.flow.Node.{Node}
use Rattle.lir_core.specs.declared.flow.Flow.{Flow}
use Rattle.lir_core.specs.Flows.{operation_of, code_node, code_nodes, calls_marked, IsValidFlow}
use Rattle.lir_core.specs.Lines.{is_aimed, slots_in, slots_of}
use Rattle.lir_core.specs.Sound.{room_of}
use Rattle.global_live.proofs.Lists.{times-append, times_of_in, times_of_out, has_front, has_back, all_below_in}
use Rattle.global_live.proofs.Tables.{at_block}
use Rattle.linear_scan.proofs.Operating.{AreFitting, AreOnce}

makes_few : (n u : ℕ) (d : Bool) → makes n u d ≡ true → n ≤ 4 → u ≤ 4
makes_few n u d f l = let e = eqb-true u n (and_parts (u == n) d f).0 in omega (arith, e, l)

acts_few : (n u : ℕ) (d : Bool) → acts n u d ≡ true → n ≤ 4 → u ≤ 4
acts_few n u d f l = let e = eqb-true u n (and_parts (u == n) (not d) f).0 in omega (arith, e, l)

-- an operation that isn't a call reads few values
few_uses : (args : ℕ) (c : Code) (u : ℕ) (d : Bool) → is_call c ≡ false → fits args c u d ≡ true → u ≤ 4
few_uses args (Const n) u d c f = makes_few 0 u d (f) (omega arith)
few_uses args (Global n) u d c f = makes_few 0 u d ((and_parts (in_24_bits n) (makes 0 u d) f).1) (omega arith)
few_uses args (Local n) u d c f = makes_few 0 u d ((and_parts (in_24_bits n) (makes 0 u d) f).1) (omega arith)
few_uses args (Plus n) u d c f = makes_few 1 u d ((and_parts (in_24_bits n) (makes 1 u d) f).1) (omega arith)
few_uses args (CodeOf p) u d c f = makes_few 0 u d (f) (omega arith)
few_uses args (Arg i) u d c f = makes_few 0 u d ((and_parts (nat_lt i args) (makes 0 u d) (and_parts (nat_le 4 i) (nat_lt i args && makes 0 u d) f).1).1) (omega arith)
few_uses args Load u d c f = makes_few 1 u d (f) (omega arith)
few_uses args Store u d c f = acts_few 2 u d (f) (omega arith)
few_uses args LoadByte u d c f = makes_few 1 u d (f) (omega arith)
few_uses args StoreByte u d c f = acts_few 2 u d (f) (omega arith)
few_uses args Add u d c f = makes_few 2 u d (f) (omega arith)
few_uses args Sub u d c f = makes_few 2 u d (f) (omega arith)
few_uses args And u d c f = makes_few 2 u d (f) (omega arith)
few_uses args Or u d c f = makes_few 2 u d (f) (omega arith)
few_uses args Eor u d c f = makes_few 2 u d (f) (omega arith)
few_uses args Bic u d c f = makes_few 2 u d (f) (omega arith)
few_uses args Lsl u d c f = makes_few 2 u d (f) (omega arith)
few_uses args Asr u d c f = makes_few 2 u d (f) (omega arith)
few_uses args Ror u d c f = makes_few 2 u d (f) (omega arith)
few_uses args Mul u d c f = makes_few 2 u d (f) (omega arith)
few_uses args MulAdd u d c f = makes_few 3 u d (f) (omega arith)
few_uses args Neg u d c f = makes_few 1 u d (f) (omega arith)
few_uses args Not u d c f = makes_few 1 u d (f) (omega arith)
few_uses args Abs u d c f = makes_few 1 u d (f) (omega arith)
few_uses args Max0 u d c f = makes_few 1 u d (f) (omega arith)
few_uses args Odd u d c f = makes_few 1 u d (f) (omega arith)
few_uses args (Set k) u d c f = makes_few 2 u d ((and_parts (nat_lt k 14) (makes 2 u d) f).1) (omega arith)
few_uses args Flip u d c f = makes_few 1 u d (f) (omega arith)
few_uses args Bit u d c f = makes_few 1 u d (f) (omega arith)
few_uses args Span u d c f = makes_few 2 u d (f) (omega arith)
few_uses args Has u d c f = makes_few 2 u d (f) (omega arith)
few_uses args Div u d c f = makes_few 2 u d (f) (omega arith)
few_uses args Mod u d c f = makes_few 2 u d (f) (omega arith)
few_uses args Below u d c f = acts_few 2 u d (f) (omega arith)
few_uses args Fits u d c f = acts_few 2 u d (f) (omega arith)
few_uses args Byte u d c f = acts_few 1 u d (f) (omega arith)
few_uses args Elem u d c f = acts_few 1 u d (f) (omega arith)
few_uses args NotNil u d c f = acts_few 1 u d (f) (omega arith)
few_uses args True u d c f = acts_few 1 u d (f) (omega arith)
few_uses args (IsPtr j) u d c f = makes_few 2 u d ((and_parts (nat_lt j 16) (makes 2 u d) f).1) (omega arith)
few_uses args (IsTag j) u d c f = makes_few 2 u d ((and_parts (nat_lt j 16) (makes 2 u d) f).1) (omega arith)
few_uses args (GuardPtr j) u d c f = acts_few 2 u d ((and_parts (nat_lt j 16) (acts 2 u d) f).1) (omega arith)
few_uses args (GuardTag j) u d c f = acts_few 2 u d ((and_parts (nat_lt j 16) (acts 2 u d) f).1) (omega arith)
few_uses args New u d c f = makes_few 3 u d (f) (omega arith)
few_uses args (Call p) u d c f = cc
few_uses args CallAt u d c f = cc
few_uses args Copy u d c f = cc
few_uses args Zero u d c f = cc
few_uses args Compare u d c f = cc
few_uses args (Svc n) u d c f = cc

-- a call by an address reads it
some_uses : (args : ℕ) (c : Code) (u : ℕ) (d : Bool) → is_aimed c ≡ true → fits args c u d ≡ true → 1 ≤ u
some_uses args CallAt u d a f = leb-true 1 u (and_parts (nat_le 1 u) (nat_le u 25) f).0
some_uses args _ u d a f = cc

---- Slots

max_left : (a b c : ℕ) → c ≤ a → c ≤ max a b
max_left a b c h = omega (arith, h)

max_right : (a b c : ℕ) → c ≤ b → c ≤ max a b
max_right a b c h = omega (arith, h)

slots_at : (bls : List CodeBlock) (n : ℕ) → slots_in (block_at bls n).ops ≤ slots_of bls
slots_at [] n = omega arith
slots_at (bl ∷ bls) zero = max_left (slots_in bl.ops) (slots_of bls) (slots_in bl.ops) (omega arith)
slots_at (bl ∷ bls) (suc n) = max_right (slots_in bl.ops) (slots_of bls) (slots_in (block_at bls n).ops) (slots_at bls n)

---- Values are made once

pub made_at : (bls : List CodeBlock) (n v : ℕ) → times (block_makes (block_at bls n)) v ≤ times (made bls) v
made_at [] n v = omega arith
made_at (bl ∷ bls) zero v = let a = times-append (block_makes bl) (made bls) v in omega (arith, a)
made_at (bl ∷ bls) (suc n) v = let a = times-append (block_makes bl) (made bls) v in let b = made_at bls n v in omega (arith, a, b)

times_in : (bls : List CodeBlock) (n v : ℕ) → has (block_makes (block_at bls n)) v ≡ true → has (made bls) v ≡ true
times_in [] n v h = h
times_in (bl ∷ bls) zero v h = has_front (block_makes bl) (made bls) v h
times_in (bl ∷ bls) (suc n) v h = has_back (block_makes bl) (made bls) v (times_in bls n v h)

module _ (f : Flow) (valid : IsValidFlow f) (n : ℕ) (node : Node) (here : block_at (code_nodes f.nodes) n ≡ code_node node) where
  pub made_below : (v : ℕ) → has (block_makes (code_node node)) v ≡ true → v < f.values
  made_below v h = all_below_in f.values (made (code_nodes f.nodes)) v valid.code.made_below (times_in (code_nodes f.nodes) n v (ap (λ bl. has (block_makes bl) v) here ∙ h))

  -- parameters and definitions together
  pub made_once : (v : ℕ) → times node.params v + times (defs_of (map operation_of node.lirs)) v ≤ 1
  made_once v = by (cases_lt v f.values)
    where
      split : times (block_makes (code_node node)) v ≡ times node.params v + times (defs_of (map operation_of node.lirs)) v
      split = times-append node.params (defs_of (map operation_of node.lirs)) v

      out : f.values ≤ v → (b : Bool) → has (block_makes (code_node node)) v ≡ b → b ≡ false
      out le false e = refl
      out le true e = let lt = made_below v e in absurd (omega (arith, lt, le))

      by : ◌⊎◌ (v < f.values) (f.values ≤ v) → times node.params v + times (defs_of (map operation_of node.lirs)) v ≤ 1
      by (inl lt) = let a = made_at (code_nodes f.nodes) n v in let b = valid.code.made_once v lt in let c = ap (λ bl. times (block_makes bl) v) here in omega (arith, split, a, b, c)
      by (inr le) = let z = times_of_out (block_makes (code_node node)) v (out le (has (block_makes (code_node node)) v) refl) in omega (arith, split, z)

  pub are_once : AreOnce node.lirs
  are_once v = let a = made_once v in omega (arith, a)

  module _ (k : ℕ) (four : 4 ≤ k) where
    fitting : (xs : List Lir) → list_all (operation_fits f.args) (map operation_of xs) ≡ true → list_all (λ x. beq x.call (is_call x.template)) xs ≡ true → slots_in (map operation_of xs) ≤ slots_of (code_nodes f.nodes) → ((v : ℕ) → has (defs_of (map operation_of xs)) v ≡ true → v < f.values) → AreFitting (room_of k f) xs
    fitting [] fit marks slots below = tt
    fitting (x ∷ xs) fit marks slots below =
        let a = and_parts (operation_fits f.args (operation_of x)) (list_all (operation_fits f.args) (map operation_of xs)) fit in
        let m = and_parts (beq x.call (is_call x.template)) (list_all (λ y. beq y.call (is_call y.template)) xs) marks in (
          record {
            marked = same x.call (is_call x.template) m.0;
            few = λ c. (let l = few_uses f.args x.template (length x.uses) (is_some x.def) c a.0 in omega (arith, l, four));
            aimed = λ c. some_uses f.args x.template (length x.uses) (is_some x.def) c a.0;
            slots = omega (arith, slots);
            def = λ v d. below v (has_front (option_to_list x.def) (defs_of (map operation_of xs)) v (one x.def v d));
          },
          fitting xs a.1 m.1 (omega (arith, slots)) (λ v h. below v (has_back (option_to_list x.def) (defs_of (map operation_of xs)) v h)),
        )
      where
        same : (p q : Bool) → beq p q ≡ true → p ≡ q
        same true true e = refl
        same true false e = cc
        same false true e = cc
        same false false e = refl

        one : (o : Option ℕ) (v : ℕ) → o ≡ Some v → has (option_to_list o) v ≡ true
        one None v e = cc
        one (Some d) v e = let q : d ≡ v = cc in ap (λ y. has (y ∷ []) v) q ∙ Rattle.global_live.proofs.Lists.has_head v []

    pub are_fitting : list_all calls_marked f.nodes ≡ true → calls_marked node ≡ true → AreFitting (room_of k f) node.lirs
    are_fitting all mark =
        fitting node.lirs
        (ap (λ bl. list_all (operation_fits f.args) bl.ops) (sym here) ∙ at_block (λ bl. list_all (operation_fits f.args) bl.ops) (code_nodes f.nodes) n valid.code.operations refl)
        mark
        (subst (λ bl. slots_in bl.ops ≤ slots_of (code_nodes f.nodes)) here (slots_at (code_nodes f.nodes) n))
        (λ v h. made_below v (has_back node.params (defs_of (map operation_of node.lirs)) v h))
