-- Calls of valid flows have few slots for arguments.
use Rattle.std.proofs.Common.{◌≡◌, ℕ, zero, suc, ◌-◌, ◌≤◌, ◌&&◌, List, [], ◌∷◌, length, drop, max, Bool, true, false, cond, not, refl, arith}
use Rattle.std.specs.Prelude.{◌==◌, nat_le, is_some}
use Rattle.std.specs.List.{list_all}
use Rattle.std.proofs.lemmas.Bool.{eqb-true}
use Rattle.std.proofs.lemmas.Bool.Decides.{nat_tests}
use Rattle.block_runs.specs.declared.code.Code.{Code}
use Rattle.block_runs.specs.declared.code.Code.TheVariants as o
use Rattle.block_runs.specs.Blocks.{Operation, CodeBlock}
use Rattle.block_runs.specs.Valid.{makes, acts, serves, fits, operation_fits, is_call}
use Rattle.lir_core.specs.Lines.{is_aimed, slots_used, slots_in, slots_of}
use Rattle.link_blocks.specs.Fits.{most_outs}

and_left : (a b : Bool) → (a && b) ≡ true → a ≡ true
and_left true b e = refl
and_left false b e = cc

and_right : (a b : Bool) → (a && b) ≡ true → b ≡ true
and_right true b e = e
and_right false b e = cc

aimed_few : (uses : List ℕ) → length uses ≤ 25 → length (drop 1 uses) - 4 ≤ most_outs
aimed_few [] l = omega arith
aimed_few (x ∷ xs) l = omega (arith, l)

acted : (n u : ℕ) (d : Bool) → n ≤ 24 → acts n u d ≡ true → u ≤ 24
acted n u d l e = let q = eqb-true u n (and_left (u == n) (not d) e) in omega (arith, q, l)

maked : (n u : ℕ) (d : Bool) → n ≤ 24 → makes n u d ≡ true → u ≤ 24
maked n u d l e = let q = eqb-true u n (and_left (u == n) d e) in omega (arith, q, l)

serves_few : (n u : ℕ) (d : Bool) → serves n u d ≡ true → u ≤ 24
serves_few zero u d e = cc
serves_few (suc zero) u d e = acted 1 u d (omega arith) e
serves_few (suc (suc zero)) u d e = acted 2 u d (omega arith) e
serves_few (suc (suc (suc zero))) u d e = acted 3 u d (omega arith) e
serves_few (suc (suc (suc (suc zero)))) u d e = maked 0 u d (omega arith) e
serves_few (suc (suc (suc (suc (suc n))))) u d e = cc

le_true : (a b : ℕ) → nat_le a b ≡ true → a ≤ b
le_true a b e = grind (arith, nat_tests)

used_few : (args : ℕ) (code : Code) (uses : List ℕ) (d : Bool) → fits args code (length uses) d ≡ true → cond (is_call code) (length (cond (is_aimed code) (drop 1 uses) uses) - 4) 0 ≤ most_outs
used_few args (o.Call p) uses d e = let l = le_true (length uses) 24 e in omega (arith, l)
used_few args o.CallAt uses d e = aimed_few uses (le_true (length uses) 25 (and_right (nat_le 1 (length uses)) (nat_le (length uses) 25) e))
used_few args o.Copy uses d e = let l = acted 3 (length uses) d (omega arith) e in omega (arith, l)
used_few args o.Zero uses d e = let l = acted 2 (length uses) d (omega arith) e in omega (arith, l)
used_few args o.Compare uses d e = let l = maked 4 (length uses) d (omega arith) e in omega (arith, l)
used_few args (o.Svc n) uses d e = let l = serves_few n (length uses) d e in omega (arith, l)
used_few args code uses d e = omega arith

max_few : (a b n : ℕ) → a ≤ n → b ≤ n → max a b ≤ n
max_few a b n l m = omega (arith, l, m)

slots_in_few : (args : ℕ) (ops : List Operation) → list_all (operation_fits args) ops ≡ true → slots_in ops ≤ most_outs
slots_in_few args [] e = omega arith
slots_in_few args (op ∷ ops) e =
    max_few (slots_used op) (slots_in ops) most_outs (used_few args op.code op.uses (is_some op.def) (and_left (operation_fits args op) (list_all (operation_fits args) ops) e)) (slots_in_few args ops (and_right (operation_fits args op) (list_all (operation_fits args) ops) e))

pub slots_few : (args : ℕ) (bls : List CodeBlock) → list_all (λ bl. list_all (operation_fits args) bl.ops) bls ≡ true → slots_of bls ≤ most_outs
slots_few args [] e = omega arith
slots_few args (bl ∷ bls) e =
    max_few (slots_in bl.ops) (slots_of bls) most_outs (slots_in_few args bl.ops (and_left (list_all (operation_fits args) bl.ops) (list_all (λ x. list_all (operation_fits args) x.ops) bls) e)) (slots_few args bls (and_right (list_all (operation_fits args) bl.ops) (list_all (λ x. list_all (operation_fits args) x.ops) bls) e))
