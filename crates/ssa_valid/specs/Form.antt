-- What is seen at one place of a procedure, as tests.
use Rattle.std.specs.Prelude.{ℕ, ◌==◌, ◌&&◌, nat_le, nat_lt, min, length, List, Bool, option_to_list}
use Rattle.std.specs.List.{list_all}
use Rattle.block_runs.specs.declared.end.End.{End}
use Rattle.block_runs.specs.Blocks.{Operation, CodeBlock, end_uses, successors}
use Rattle.block_runs.specs.Valid.{operation_fits, all_below, condition_fits, arguments_fit, params_of, size_of, enter_below}
use Rattle.ssa_core.specs.declared.procedure.Op.{Op}
use Rattle.ssa_core.specs.declared.procedure.Block.{Block}
use Rattle.ssa_core.specs.declared.procedure.Proc.{Proc}
use Rattle.ssa_core.specs.Procedures.{operation_of, code_blocks}
use Rattle.ssa_core.specs.Validity.{most}

-- of a procedure with so many argument words, over so many values
abbrev pub operation_formed : ℕ → ℕ → Operation → Bool
operation_formed args values op = operation_fits args op && (all_below values op.uses && all_below values (option_to_list op.def))

abbrev pub end_formed : List CodeBlock → ℕ → End → Bool
end_formed bls values end = all_below (length bls) (successors end) && (all_below values (end_uses end) && (condition_fits end && arguments_fit bls end))

abbrev pub operations_formed : ℕ → ℕ → List Op → Bool
operations_formed args values ops = list_all (λ op. operation_formed args values (operation_of op)) ops

abbrev pub block_formed : Proc → Block → Bool
block_formed p b = all_below p.values b.params && (operations_formed p.args p.values b.ops && (end_formed (code_blocks p.blocks) p.values b.end && enter_below (length p.blocks) b.enter))

abbrev pub is_formed : Proc → Bool
is_formed p =
    nat_le p.args 24
    && (nat_lt 0 (length p.blocks)
    && (params_of (code_blocks p.blocks) 0 == min 4 p.args
    && (nat_le (size_of (code_blocks p.blocks)) most && list_all (block_formed p) p.blocks)))
