-- Procedures in blocks that differ in the numbers of Global alone.
use Rattle.std.specs.Prelude.{◌≡◌, List, map}
use Rattle.moved_code.specs.Code.{unplaced_code}
use Rattle.ssa_core.specs.declared.procedure.Op.{Op}
use Rattle.ssa_core.specs.declared.procedure.Block.{Block}
use Rattle.ssa_core.specs.declared.procedure.Proc.{Proc}

abbrev pub unplaced_op : Op → Op
unplaced_op x = record x { code = unplaced_code x.code }

abbrev pub unplaced_block : Block → Block
unplaced_block b = record b { ops = map unplaced_op b.ops }

abbrev pub unplaced_proc : Proc → Proc
unplaced_proc p = record p { blocks = map unplaced_block p.blocks }

-- two procedures are the same but for these numbers
pub record AreAlikeProcs (p q : Proc) : Type 0 where
  pub same : unplaced_proc p ≡ unplaced_proc q
