-- What is seen at one place: the tests, and the conditions of a valid procedure.
use Rattle.std.proofs.Common.{◌≡◌, ℕ, ◌<◌, ◌≤◌, ◌==◌, true, List, [], ◌∷◌, ◌++◌, length, map, refl, sym, ◌∙◌, subst}
use Rattle.std.specs.Prelude.{nat_le, nat_lt, min, option_to_list}
use Rattle.std.specs.List.{list_all}
use Rattle.std.proofs.lemmas.List.{length-map}
use Rattle.std.proofs.lemmas.List.Folds.{list_all-append}
use Rattle.std.proofs.lemmas.Bool.{and_parts, and_from, eqb-true, eq-eqb, ltb-true, lt-ltb, leb-true, le-leb}
use Rattle.block_runs.specs.Blocks.{Operation, end_uses, successors}
use Rattle.block_runs.specs.Live.{defs_of, block_makes}
use Rattle.block_runs.specs.Valid.{operation_fits, condition_fits, arguments_fit, params_of, all_below, uses_of, block_reads, made, size_of, enter_below}
use Rattle.ssa_core.specs.declared.procedure.Op.{Op}
use Rattle.ssa_core.specs.declared.procedure.Block.{Block}
use Rattle.ssa_core.specs.declared.procedure.Proc.{Proc}
use Rattle.ssa_core.specs.Procedures.{operation_of, code_block, code_blocks}
use Rattle.ssa_core.specs.Validity.{most}
use Rattle.ssa_valid.specs.Form.{operation_formed, operations_formed, end_formed, block_formed, is_formed}

---- Numbers that are below a limit

join : (n : ℕ) (xs ys : List ℕ) → all_below n xs ≡ true → all_below n ys ≡ true → all_below n (xs ++ ys) ≡ true
join n xs ys a b = list_all-append (λ x. nat_lt x n) xs ys ∙ and_from _ _ a b

parts_of : (n : ℕ) (xs ys : List ℕ) → all_below n (xs ++ ys) ≡ true → (all_below n xs ≡ true) × (all_below n ys ≡ true)
parts_of n xs ys h = and_parts (all_below n xs) _ (sym (list_all-append (λ x. nat_lt x n) xs ys) ∙ h)

---- Operations

pub record OperationParts (args values : ℕ) (ops : List Operation) : Type 0 where
  pub fit : list_all (operation_fits args) ops ≡ true
  pub uses : all_below values (uses_of ops) ≡ true
  pub defs : all_below values (defs_of ops) ≡ true

module _ (args values : ℕ) where
  operations_to : (ops : List Op) → operations_formed args values ops ≡ true → OperationParts args values (map operation_of ops)
  operations_to [] h = record { fit = refl; uses = refl; defs = refl }
  operations_to (op ∷ ops) h =
      let a = and_parts (operation_formed args values (operation_of op)) _ h in
      let b = and_parts (operation_fits args (operation_of op)) _ a.0 in
      let d = and_parts (all_below values op.uses) _ b.1 in
      let r = operations_to ops a.1 in
      record { fit = and_from _ _ b.0 r.fit; uses = join values op.uses _ d.0 r.uses; defs = join values (option_to_list op.def) _ d.1 r.defs }

  operations_from : (ops : List Op) → OperationParts args values (map operation_of ops) → operations_formed args values ops ≡ true
  operations_from [] r = refl
  operations_from (op ∷ ops) r =
      let a = and_parts (operation_fits args (operation_of op)) _ r.fit in
      let b = parts_of values op.uses (uses_of (map operation_of ops)) r.uses in
      let d = parts_of values (option_to_list op.def) (defs_of (map operation_of ops)) r.defs in
      and_from _ _ (and_from _ _ a.0 (and_from _ _ b.0 d.0)) (operations_from ops (record { fit = a.1; uses = b.1; defs = d.1 }))

---- Blocks

pub record Parts (p : Proc) (bs : List Block) : Type 0 where
  pub targets : list_all (λ bl. all_below (length (code_blocks p.blocks)) (successors bl.end)) (code_blocks bs) ≡ true
  pub read_below : list_all (λ bl. all_below p.values (block_reads bl)) (code_blocks bs) ≡ true
  pub made_below : all_below p.values (made (code_blocks bs)) ≡ true
  pub operations : list_all (λ bl. list_all (operation_fits p.args) bl.ops) (code_blocks bs) ≡ true
  pub conditions : list_all (λ bl. condition_fits bl.end) (code_blocks bs) ≡ true
  pub arguments : list_all (λ bl. arguments_fit (code_blocks p.blocks) bl.end) (code_blocks bs) ≡ true
  pub enters : list_all (λ b. enter_below (length p.blocks) b.enter) bs ≡ true

module _ (p : Proc) where
  pub parts_to : (bs : List Block) → list_all (block_formed p) bs ≡ true → Parts p bs
  parts_to [] h = record { targets = refl; read_below = refl; made_below = refl; operations = refl; conditions = refl; arguments = refl; enters = refl }
  parts_to (b ∷ bs) h =
      let a = and_parts (block_formed p b) _ h in
      let params = and_parts (all_below p.values b.params) _ a.0 in
      let ops = and_parts (operations_formed p.args p.values b.ops) _ params.1 in
      let end = and_parts (end_formed (code_blocks p.blocks) p.values b.end) _ ops.1 in
      let targets = and_parts (all_below (length (code_blocks p.blocks)) (successors b.end)) _ end.0 in
      let reads = and_parts (all_below p.values (end_uses b.end)) _ targets.1 in
      let fit = and_parts (condition_fits b.end) _ reads.1 in
      let o = operations_to p.args p.values b.ops ops.0 in
      let r = parts_to bs a.1 in
      record {
        targets = and_from _ _ targets.0 r.targets;
        read_below = and_from _ _ (join p.values (uses_of (map operation_of b.ops)) (end_uses b.end) o.uses reads.0) r.read_below;
        made_below = join p.values (block_makes (code_block b)) (made (code_blocks bs)) (join p.values b.params (defs_of (map operation_of b.ops)) params.0 o.defs) r.made_below;
        operations = and_from _ _ o.fit r.operations;
        conditions = and_from _ _ fit.0 r.conditions;
        arguments = and_from _ _ fit.1 r.arguments;
        enters = and_from _ _ end.1 r.enters;
      }

  pub parts_from : (bs : List Block) → Parts p bs → list_all (block_formed p) bs ≡ true
  parts_from [] r = refl
  parts_from (b ∷ bs) r =
      let bl = code_block b in
      let targets = and_parts (all_below (length (code_blocks p.blocks)) (successors b.end)) _ r.targets in
      let read = and_parts (all_below p.values (block_reads bl)) _ r.read_below in
      let reads = parts_of p.values (uses_of (map operation_of b.ops)) (end_uses b.end) read.0 in
      let made_both = parts_of p.values (block_makes bl) (made (code_blocks bs)) r.made_below in
      let makes = parts_of p.values b.params (defs_of (map operation_of b.ops)) made_both.0 in
      let ops = and_parts (list_all (operation_fits p.args) bl.ops) _ r.operations in
      let conditions = and_parts (condition_fits b.end) _ r.conditions in
      let arguments = and_parts (arguments_fit (code_blocks p.blocks) b.end) _ r.arguments in
      let enters = and_parts (enter_below (length p.blocks) b.enter) _ r.enters in
      let o = operations_from p.args p.values b.ops (record { fit = ops.0; uses = reads.0; defs = makes.1 }) in
      and_from _ _
      (and_from _ _ makes.0 (and_from _ _ o (and_from _ _ (and_from _ _ targets.0 (and_from _ _ reads.1 (and_from _ _ conditions.0 arguments.0))) enters.0)))
      (parts_from bs (record { targets = targets.1; read_below = read.1; made_below = made_both.1; operations = ops.1; conditions = conditions.1; arguments = arguments.1; enters = enters.1 }))

---- A procedure

pub record Form (p : Proc) : Type 0 where
  pub few_args : p.args ≤ 24
  pub few : size_of (code_blocks p.blocks) ≤ most
  pub begins : 0 < length (code_blocks p.blocks)
  pub first_params : params_of (code_blocks p.blocks) 0 ≡ min 4 p.args
  pub parts : Parts p p.blocks

pub formed_to : (p : Proc) → is_formed p ≡ true → Form p
formed_to p h =
    let l = length-map p.blocks code_block in
    let a = and_parts (nat_le p.args 24) _ h in
    let b = and_parts (nat_lt 0 (length p.blocks)) _ a.1 in
    let d = and_parts (params_of (code_blocks p.blocks) 0 == min 4 p.args) _ b.1 in
    let e = and_parts (nat_le (size_of (code_blocks p.blocks)) most) _ d.1 in
    record {
      few_args = leb-true _ _ a.0;
      few = leb-true _ _ e.0;
      begins = subst (λ n. 0 < n) (sym l) (ltb-true _ _ b.0);
      first_params = eqb-true _ _ d.0;
      parts = parts_to p p.blocks e.1;
    }

pub formed_from : (p : Proc) → Form p → is_formed p ≡ true
formed_from p f =
    let l = length-map p.blocks code_block in
    and_from _ _ (le-leb _ _ f.few_args)
    (and_from _ _ (lt-ltb _ _ (subst (λ n. 0 < n) l f.begins)) (and_from _ _ (eq-eqb _ _ f.first_params) (and_from _ _ (le-leb _ _ f.few) (parts_from p p.blocks f.parts))))
