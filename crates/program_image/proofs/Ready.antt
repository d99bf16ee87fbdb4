-- Lowered procedures, where they are short, are what the back end takes.
use Rattle.std.proofs.Common.{◌≡◌, ℕ, zero, suc, ◌≤◌, List, [], ◌∷◌, length, Bool, true, false, Some, None, refl, sym, ap, ◌∙◌, arith}
use Rattle.std.specs.Prelude.{All, nat_le, nat_lt, slice_get, slice_index_or}
use Rattle.std.specs.List.{list_all}
use Rattle.std.proofs.lemmas.Bool.{ltb-false}
use Rattle.std.proofs.lemmas.Bool.Decides.{nat_tests}
use Rattle.std.proofs.lemmas.Option.{slice_get_within}
use Rattle.block_runs.specs.Valid.{size_of}
use Rattle.ob_types.specs.WellFormed.{well_formed}
use Rattle.ob_types.specs.Meaning.{no_procedure}
use Rattle.ob_types.specs.declared.program.Procedure.{Procedure}
use Rattle.ob_types.specs.declared.program.Program.{Program}
use Rattle.ssa_core.specs.declared.procedure.Proc.{Proc}
use Rattle.ssa_core.specs.Procedures.{code_blocks}
use Rattle.ssa_core.specs.Validity.{most, IsValid}
use Rattle.ssa_lowered.specs.Data.{layout}
use Rattle.ssa_lowered.specs.Limits.{or_else, passes, global_cells, limit_in, limit_of}
use Rattle.ssa_lowered.specs.Lowered.{proc_of, lowered}
use Rattle.ssa_tables.specs.Faults.{first_limit}
use Rattle.lowered_valid.specs.Claims.{IsShort, CanBeLowered}
use Rattle.lowered_valid.proofs.Valid.{valid_here, valid_all, bare_all}
use Rattle.lowered_valid.proofs.Modest.{all_small}
use Rattle.lowered_valid.proofs.Narrow.{packed_narrow}
use Rattle.program_image.specs.Sizes.{is_short}
use Rattle.link_plan.proofs.Low.{and_left, and_right}
use Rattle.back_end.specs.Images.{IsReady}

---- Short procedures

is_within : (a b : ℕ) → nat_le a b ≡ true → a ≤ b
is_within a b e = grind (arith, nat_tests, e)

abbrev all_short : List Proc → Bool
all_short ps = list_all (λ p. is_short p) ps

are_all : (ps : List Proc) → all_short ps ≡ true → All IsShort ps
are_all [] e k d l = absurd (omega (arith, l))
are_all (p ∷ ps) e zero d l = is_within (size_of (code_blocks p.blocks)) most (and_left (is_short p) (all_short ps) e)
are_all (p ∷ ps) e (suc k) d l = are_all ps (and_right (is_short p) (all_short ps) e) k d (omega (arith, l))

pub are_short : (p : Program) (ps : List Proc) → ps ≡ lowered p → true ≡ all_short ps → All IsShort (lowered p)
are_short p ps same e = are_all (lowered p) (sym (e ∙ ap all_short same))

pub is_short_enough : (x : Proc) → true ≡ is_short x → IsShort x
is_short_enough x e = is_within (size_of (code_blocks x.blocks)) most (sym e)

---- A procedure, whatever limits others pass

few_by : (a b : Bool) → or_else (passes 52 a) (passes 53 b) ≡ None → b ≡ false
few_by true b h = absurd (cc)
few_by false true h = absurd (cc)
few_by false false h = refl

count_by : (a b : Bool) → or_else (passes 52 a) (passes 53 b) ≡ None → a ≡ false
count_by true b h = absurd (cc)
count_by false b h = refl

pub few_procedures : (p : Program) → first_limit p ≡ None → length p.procedures ≤ 4096
few_procedures p first = ltb-false 4096 (length p.procedures) (count_by (nat_lt 4096 (length p.procedures)) (nat_lt 1048576 (global_cells p)) first)

few_globals : (p : Program) → first_limit p ≡ None → global_cells p ≤ 1048576
few_globals p first = ltb-false 1048576 (global_cells p) (few_by (nat_lt 4096 (length p.procedures)) (nat_lt 1048576 (global_cells p)) first)

found : (qs : List Procedure) (f : ℕ) (q : Procedure) → slice_get qs f ≡ Some q → slice_index_or qs f no_procedure ≡ q
found [] f q e = absurd (cc)
found (r ∷ qs) zero q e = cc
found (r ∷ qs) (suc f) q e = found qs f q e

pub valid_alone : (p : Program) (f : ℕ) (q : Procedure) → well_formed p ≡ true → first_limit p ≡ None → slice_get p.procedures f ≡ Some q → limit_in p (layout p.types) f q ≡ None → IsShort (proc_of p (layout p.types) f q) → IsValid (proc_of p (layout p.types) f q)
valid_alone p f q fine first there within short =
    valid_here (layout p.types) p (packed_narrow p.types) fine (few_globals p first) f q (record { same = found p.procedures f q there; there = slice_get_within p.procedures f q there }) within short

---- All that is asked

module _ (p : Program) (fine : well_formed p ≡ true) (none : limit_of p ≡ None) (short : All IsShort (lowered p)) where
  can_be_lowered : CanBeLowered (layout p.types) p
  can_be_lowered = record { within = record { narrow = packed_narrow p.types; fine = fine; limits = none }; short = short }

  pub valid : All IsValid (lowered p)
  valid = valid_all p (layout p.types) can_be_lowered

  pub ready : All IsReady (lowered p)
  ready k d l =
      let small = all_small p fine none k d l in
      record { valid = valid k d l; local_data = (small.cells, small.bytes); body = bare_all p (layout p.types) fine k d l }
