-- Pieces that follow one another stand in the blocks that are made of them.
use Rattle.std.proofs.Common.{◌≡◌, ℕ, suc, List, [], ◌∷◌, ◌++◌, drop, length, map, refl, sym, ap, ap₂, ◌∙◌, subst, arith, append_assoc, length-append}
use Rattle.block_runs.specs.Blocks.{block_at}
use Rattle.block_runs.specs.declared.end.End.{End}
use Rattle.block_runs.specs.declared.end.End.TheVariants.{Return}
use Rattle.ob_types.specs.declared.program.Procedure.{Procedure}
use Rattle.ob_types.specs.declared.program.Program.{Program}
use Rattle.ssa_core.specs.declared.procedure.Op.{Op}
use Rattle.ssa_core.specs.declared.procedure.Block.{Block}
use Rattle.ssa_core.specs.Procedures.{operation_of, code_block, code_blocks}
use Rattle.ssa_lowered.specs.Data.{Layout}
use Rattle.ssa_lowered.specs.Pieces.{Start, Piece, Appends, Closes, blocks_of}
use Rattle.ssa_lowered.specs.Places.{rest_at, Does, Leaves, Stand}
use Rattle.ssa_lowered.specs.Variables.{words_of}
use Rattle.ssa_lowered.specs.Lowered.{here_of, zeroed_bytes, at_entry, entry, made_of, proc_of}
use Rattle.ssa_lowered.proofs.Linear.{Linear, line_whole}

abbrev block_of : Start → List Op → End → Block
block_of s ops end = record { params = s.params; ops = ops; end = end; freq = s.freq; enter = s.enter }

append_nil : {X : Type 0} (xs : List X) → xs ++ [] ≡ xs
append_nil [] = refl
append_nil (x ∷ xs) = ap (λ ys. x ∷ ys) (append_nil xs)

-- the first of the blocks holds what was there
first_of : (last : End) (s : Start) (ops : List Op) (ps : List Piece) → (more : List Op) × (end : End) × (rest : List Block) × (blocks_of s ops last ps ≡ block_of s (ops ++ more) end ∷ rest)
first_of last s ops [] = ([], last, [], ap (λ o. block_of s o last ∷ []) (sym (append_nil ops)))
first_of last s ops (Appends at k op ∷ ps) =
    let r = first_of last s (ops ++ op ∷ []) ps in
    (op ∷ r.0, r.1, r.2, r.3 ∙ ap (λ o. block_of s o r.1 ∷ r.2) (append_assoc ops (op ∷ []) r.0))
first_of last s ops (Closes at k end next ∷ ps) = ([], end, blocks_of next [] last ps, ap (λ o. block_of s o end ∷ blocks_of next [] last ps) (sym (append_nil ops)))

-- the block behind those before it
block_here : (past : List Block) (b : Block) (rest : List Block) → block_at (code_blocks (past ++ b ∷ rest)) (length past) ≡ code_block b
block_here [] b rest = refl
block_here (z ∷ past) b rest = block_here past b rest

-- what is left behind the operations before it
left_here : (ops : List Op) (op : Op) (more : List Op) → drop (length ops) (map operation_of (ops ++ op ∷ more)) ≡ operation_of op ∷ map operation_of more
left_here [] op more = refl
left_here (z ∷ ops) op more = left_here ops op more

left_end : (ops : List Op) → drop (length ops) (map operation_of ops) ≡ []
left_end [] = refl
left_end (z ∷ ops) = left_end ops

length_snoc : {X : Type 0} (xs : List X) (x : X) → length (xs ++ x ∷ []) ≡ suc (length xs)
length_snoc xs x = let e = length-append xs (x ∷ []) in omega (arith, e)

module _ (last : End) where
  op_here : (past : List Block) (s : Start) (ops : List Op) (op : Op) (ps : List Piece) → Does (code_blocks (past ++ blocks_of s (ops ++ op ∷ []) last ps)) (length past) (length ops) op
  op_here past s ops op ps =
      let f = first_of last s (ops ++ op ∷ []) ps in (
        map operation_of f.0,
        ap (λ l. rest_at (code_blocks (past ++ l)) (length past) (length ops)) f.3
            ∙ ap (λ b. drop (length ops) b.ops) (block_here past (block_of s ((ops ++ op ∷ []) ++ f.0) f.1) f.2)
            ∙ ap (λ l. drop (length ops) (map operation_of l)) (append_assoc ops (op ∷ []) f.0)
            ∙ left_here ops op f.0,
      )

  end_here : (past : List Block) (s : Start) (ops : List Op) (end : End) (rest : List Block) → Leaves (code_blocks (past ++ block_of s ops end ∷ rest)) (length past) (length ops) end
  end_here past s ops end rest = (
    ap (λ b. drop (length ops) b.ops) (block_here past (block_of s ops end) rest) ∙ left_end ops,
    ap (λ b. b.end) (block_here past (block_of s ops end) rest),
  )

  params_here : (past : List Block) (s : Start) (ops : List Op) (ps : List Piece) → (block_at (code_blocks (past ++ blocks_of s ops last ps)) (length past)).params ≡ s.params
  params_here past s ops ps =
      let f = first_of last s ops ps in
      ap (λ l. (block_at (code_blocks (past ++ l)) (length past)).params) f.3 ∙ ap (λ b. b.params) (block_here past (block_of s (ops ++ f.0) f.1) f.2)

  -- at another place, where that is the same
  does_at : (bs : List Block) (b i c j : ℕ) (op : Op) → c ≡ b → j ≡ i → Does (code_blocks bs) b i op → Does (code_blocks bs) c j op
  does_at bs b i c j op x y h = (h.0, ap₂ (λ m n. rest_at (code_blocks bs) m n) x y ∙ h.1)

  leaves_at : (bs : List Block) (b i c j : ℕ) (end : End) → c ≡ b → j ≡ i → Leaves (code_blocks bs) b i end → Leaves (code_blocks bs) c j end
  leaves_at bs b i c j end x y h = (ap₂ (λ m n. rest_at (code_blocks bs) m n) x y ∙ h.0, ap (λ m. (block_at (code_blocks bs) m).end) x ∙ h.1)

  stands_in : (past : List Block) (s : Start) (ops : List Op) (ps : List Piece) (c j : ℕ) → Linear (length past) (length ops) ps c j → Stand (code_blocks (past ++ blocks_of s ops last ps)) ps × Leaves (code_blocks (past ++ blocks_of s ops last ps)) c j last
  stands_in past s ops [] c j h =
      (tt, leaves_at (past ++ block_of s ops last ∷ []) (length past) (length ops) c j last h.0 h.1 (end_here past s ops last []))
  stands_in past s ops (Appends at k op ∷ ps) c j h =
      let f = stands_in past s (ops ++ op ∷ []) ps c j (subst (λ n. Linear (length past) n ps c j) (sym (length_snoc ops op)) h.2) in
      ((does_at (past ++ blocks_of s (ops ++ op ∷ []) last ps) (length past) (length ops) at k op h.0 h.1 (op_here past s ops op ps), f.0), f.1)
  stands_in past s ops (Closes at k end next ∷ ps) c j h =
      let block = block_of s ops end in
      let whole = append_assoc past (block ∷ []) (blocks_of next [] last ps) in
      let f = stands_in (past ++ block ∷ []) next [] ps c j (subst (λ n. Linear n 0 ps c j) (sym (length_snoc past block)) h.2) in
      let all = past ++ block ∷ blocks_of next [] last ps in (
        (
          (
            leaves_at all (length past) (length ops) at k end h.0 h.1 (end_here past s ops end (blocks_of next [] last ps)),
            ap (λ x. (block_at (code_blocks all) (suc x)).params) h.0
                ∙ ap (λ n. (block_at (code_blocks all) n).params) (sym (length_snoc past block))
                ∙ ap (λ l. (block_at (code_blocks l) (length (past ++ block ∷ []))).params) (sym whole)
                ∙ params_here (past ++ block ∷ []) next [] ps,
          ),
          subst (λ l. Stand (code_blocks l) ps) whole f.0,
        ),
        subst (λ l. Leaves (code_blocks l) c j last) whole f.1,
      )

pub proc_stands : (p : Program) (l : Layout) (f : ℕ) (q : Procedure) → Stand (code_blocks (proc_of p l f q).blocks) (made_of p l f q).pieces × Leaves (code_blocks (proc_of p l f q).blocks) (made_of p l f q).after.block (made_of p l f q).after.op (Return (made_of p l f q).result)
proc_stands p l f q =
    let words = words_of q.formals in
    stands_in (Return (made_of p l f q).result) [] (entry words) [] (made_of p l f q).pieces (made_of p l f q).after.block (made_of p l f q).after.op
    (line_whole p l (here_of p l f q) words (zeroed_bytes p l q) (at_entry words)).by
