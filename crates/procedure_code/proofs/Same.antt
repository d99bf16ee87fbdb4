-- Words of a procedure whose ends lead to its blocks depend on where these begin alone.
use Rattle.std.proofs.Common.{◌≡◌, ℕ, suc, ◌+◌, ◌<◌, List, ◌∷◌, ◌++◌, length, refl, ap, ap₂, min}
use Rattle.std.specs.Prelude.{◌==◌}
use Rattle.run_laws.specs.Layers.{whole_width, spread}
use Rattle.a64_instr.specs.declared.instr.Instr.{Instr}
use Rattle.a64_runtime.specs.Routines.{against}
use Rattle.a64_table.specs.Decode.{cond_of}
use Rattle.block_runs.specs.declared.code.Code.{Code}
use Rattle.block_runs.specs.declared.code.Code.TheVariants.{Call}
use Rattle.block_runs.specs.declared.code.Code.TheVariants.{Code as CodeOf}
use Rattle.block_runs.specs.declared.end.End.{End}
use Rattle.block_runs.specs.declared.end.End.TheVariants.{Return, Jump, Branch, Nonzero, Trap}
use Rattle.placed_code.specs.Placed.{Placed, block_of}
use Rattle.placed_code.specs.Words.{copies_words, prologue, op_words, last_words, jump_words, branch_words, nonzero_words, turned}
use Rattle.placed_code.specs.Layout.{cell_width, Placing, placings, block_width, zero_first, front_width}
use Rattle.link_words.specs.Fields.{entry_in}
use Rattle.procedure_pieces.specs.Code.{cell_code, block_code, proc_code}
use Rattle.procedure_code.specs.Parts.{clamped, LeadsBelow, IsWhole}

-- a procedure's number that is the last one's at most leads where that number does
pub clamped_is : (entries : List ℕ) (last start slots k : ℕ) (code : Code) (a b c d : ℕ) → op_words (entry_in entries) start slots k (clamped last code) a b c d ≡ op_words (λ p. entry_in entries (min p last)) start slots k code a b c d
clamped_is entries last start slots k (Call p) a b c d = refl
clamped_is entries last start slots k (CodeOf p) a b c d = refl
clamped_is entries last start slots k code a b c d = refl

module _ (block block' : ℕ → ℕ) (pr : Placed) (m : ℕ) (same : (t : ℕ) → t < m → block t ≡ block' t) where
  last_same : (n k : ℕ) (end : End) (a b : ℕ) → LeadsBelow m end → last_words n block pr k end a b ≡ last_words n block' pr k end a b
  last_same n k (Return x) a b l = refl
  last_same n k (Jump to args) a b l = ap (λ t. jump_words (to == n) k t) (same to l)
  last_same n k (Branch c x y one other) a b l = ap₂ (λ t u. against a b ∷ branch_words (turned n one other) (other == n) (suc k) (cond_of c) t u) (same one l.0) (same other l.1)
  last_same n k (Nonzero x one other) a b l = ap₂ (λ t u. nonzero_words (turned n one other) (other == n) k a t u) (same one l.0) (same other l.1)
  last_same n k (Trap kind) a b l = refl

module _ (entry start : _) (block block' : ℕ → ℕ) (pr : Placed) (whole : IsWhole pr) (same : (t : ℕ) → t < length pr.blocks → block t ≡ block' t) where
  block_same : (j k : ℕ) (at : Placing) → block_code entry start block pr j k at ≡ block_code entry start block' pr j k at
  block_same j k at =
      let bl = block_of pr at.number in
      let k' = k + whole_width (cell_width pr) 0 bl.body + length (copies_words pr bl.copies) in
      ap (λ (is : List Instr). spread (cell_code entry start pr) (cell_width pr) 0 k bl.body ++ (copies_words pr bl.copies ++ is)) (last_same block block' pr (length pr.blocks) same at.next k' bl.end bl.a bl.b (whole.leads at.number))

  pub proc_same : (k : ℕ) → proc_code entry start block k pr ≡ proc_code entry start block' k pr
  proc_same k =
      let blocks : block_code entry start block pr ≡ block_code entry start block' pr = λ i j k at. block_same j k at i in
      ap₂ (λ t f. (prologue pr ++ (copies_words pr pr.copies ++ jump_words (zero_first pr) (k + (length (prologue pr) + length (copies_words pr pr.copies))) t)) ++ spread f (block_width pr) 0 (k + front_width pr) (placings pr)) (same 0 whole.some) blocks
