use Rattle.std.proofs.Common.{◌≡◌, drop, length}
use Rattle.std.specs.List.{list_all}
use Rattle.program_image.specs.Sizes.{is_short}
use Rattle.program_image.proofs.sizes.are_short.Given as goal

abbrev pub invariant-loop-procedure : goal.invariant-loop-procedure
invariant-loop-procedure l = record {
  end : l.procedure-index-end ≡ length l.procedures;
  so_far : list_all (λ p. is_short p) l.procedures ≡ list_all (λ p. is_short p) (drop l.procedure-index l.procedures);
}
