-- A procedure that was made from its tables is the one that is defined, and so is its limit.
use Rattle.std.proofs.Common.{◌≡◌, ℕ, [], not, Option, None, ap, ap₂, ◌∙◌}
use Rattle.block_runs.specs.declared.end.End.TheVariants.{Return}
use Rattle.ob_types.specs.declared.program.Procedure.{Procedure}
use Rattle.ob_types.specs.declared.program.Program.{Program}
use Rattle.ssa_core.specs.declared.procedure.Proc.{Proc}
use Rattle.ssa_lowered.specs.Data.{layout}
use Rattle.ssa_lowered.specs.Limits.{passed}
use Rattle.ssa_lowered.specs.Lowered.{Here, here_of, whole, entry, at_entry, made_of, proc_of}
use Rattle.ssa_lowered.specs.Pieces.{Made, blocks_of}
use Rattle.ssa_lowered.specs.Variables.{words_of}
use Rattle.ssa_exprs.specs.Making.{View}
use Rattle.ssa_tables.specs.Local.{AreLocals}
use Rattle.ssa_tables.specs.declared.locals.Locals.{Locals}
use Rattle.ssa_build.specs.Blocks.{blocks_in}
use Rattle.ssa_build.specs.Makes.{Makes}
use Rattle.ssa_build.proofs.Whole.{started, limit_is, values_are, result_is, blocks_are}

module _ (p : Program) (f : ℕ) (q : Procedure) (x : Locals) (are : AreLocals x p f q) (words : ℕ) (count : words ≡ words_of q.formals)
    (v w : View) (r : Option ℕ) (start : v ≡ started words) (makes : Makes v w (whole p (layout p.types) (here_of p (layout p.types) f q) words x.structured) r) where
  abbrev here : Here
  here = here_of p (layout p.types) f q

  -- the code with so many words, of which so many bytes are zeroed
  abbrev code : ℕ → ℕ → Made (Option ℕ)
  code n z = whole p (layout p.types) here n z (at_entry n)

  pub limit_at : w.over ≡ passed (made_of p (layout p.types) f q).pieces
  limit_at =
      limit_is words v w (whole p (layout p.types) here words x.structured) r start makes
      ∙ ap₂ (λ n z. passed (code n z).pieces) count are.structured

  abbrev proc : (n z cells bytes : ℕ) → Proc
  proc n z cells bytes = record {
    blocks = blocks_of (entry n) [] (Return (code n z).result) (code n z).pieces;
    values = (code n z).after.values;
    args = n;
    counted = not q.is_body;
    local_cells = cells;
    local_bytes = bytes;
  }

  pub procedure_is : (made : Proc) → w.over ≡ None → made ≡ record { blocks = blocks_in w words r; values = w.values; args = words; counted = not q.is_body; local_cells = x.cells; local_bytes = x.bytes } → made ≡ proc_of p (layout p.types) f q
  procedure_is made within is =
      let m = whole p (layout p.types) here words x.structured in
      let blocks = blocks_are words v w m r start makes within r ∙ ap (λ a. blocks_of (entry words) [] (Return a) (code words x.structured).pieces) (result_is words v w m r start makes within) in
      is
      ∙ ap₂ (λ bs n. record { blocks = bs; values = n; args = words; counted = not q.is_body; local_cells = x.cells; local_bytes = x.bytes }) blocks (values_are words v w m r start makes within)
      ∙ ap₂ (λ n z. proc n z x.cells x.bytes) count are.structured
      ∙ ap₂ (λ c b. proc (words_of q.formals) (Rattle.ssa_lowered.specs.Lowered.zeroed_bytes p (layout p.types) q) c b) are.cells are.bytes
