-- A program that meets what is asked: what is proved speaks of some programs.
use Rattle.std.proofs.Common.{ℕ, [], ◌∷◌, true, false, Some, None, All, refl, arith}
use Rattle.std.specs.Prelude.{Vec, Box}
use Rattle.std.specs.declared.alloc.Global.{Global as Heap}
use Rattle.std.proofs.lemmas.Bool.{leb-true}
use Rattle.std.proofs.lemmas.List.Elements.{All-cons, All-nil}
use Rattle.ssa_core.specs.declared.procedure.Proc.{Proc}
use Rattle.ssa_lowered.specs.Data.{Layout, in_cells, packed}
use Rattle.ssa_lowered.specs.Lowered.{proc_of, lowered_by}
use Rattle.ob_types.specs.Trees.{data_tree, record_row, fields_before}
use Rattle.ob_types.specs.Meaning.{procedure_of}
use Rattle.ob_types.specs.declared.program.Program.{Program}
use Rattle.ob_types.specs.declared.statements.Stmt.{Stmt, Assign, Increase, OutInt, While', end_of-Stmt, more_of-Stmt, end_of-Branch, more_of-Branch}
use Rattle.ob_types.specs.declared.statements.Checked.{Checked}
use Rattle.ob_types.specs.declared.tree.Argument.{ByValue, ByPlace, ByRecord, ByOpen}
use Rattle.ob_types.specs.declared.tree.Base.TheVariants.{Global, Local, Parameter}
use Rattle.ob_types.specs.declared.tree.Binary.TheVariants.{Add}
use Rattle.ob_types.specs.declared.tree.Call.{Direct', end_of-Argument, more_of-Argument}
use Rattle.ob_types.specs.declared.tree.Designator.{Designator, Whole, Part', end_of-Selector, more_of-Selector}
use Rattle.ob_types.specs.declared.tree.Selector.{Index, Field}
use Rattle.ob_types.specs.declared.tree.Expr.{Expr, Literal, Load, Chain', Compare', Length, Call', end_of-Link, more_of-Link}
use Rattle.ob_types.specs.declared.tree.Link.{Operate, And}
use Rattle.ob_types.specs.declared.tree.Relation.TheVariants.{Less}
use Rattle.ob_types.specs.declared.types.Mode.TheVariants.{Value, Place, Open}
use Rattle.ob_types.specs.declared.types.Mode.TheVariants.{Record as AsRecord}
use Rattle.ob_types.specs.declared.types.TypeKind.{TypeKind}
use Rattle.ob_types.specs.declared.types.TypeKind.TheVariants.{Int, Array, Nothing}
use Rattle.ob_types.specs.declared.types.TypeKind.TheVariants.{Bool as Boolean, Record as RecordOf}
use Rattle.lowered_valid.specs.Claims.{CanBeLowered, IsShort}
use Rattle.lowered_valid.proofs.Narrow.{cells_narrow, packed_narrow}

-- MODULE M; IMPORT Out; TYPE R = RECORD n: INTEGER END; VAR v: INTEGER; a: ARRAY 3 OF INTEGER; r: R;
-- PROCEDURE Add(a: ARRAY OF INTEGER; n: INTEGER; VAR total: INTEGER; VAR r: R): INTEGER; VAR i: INTEGER; b: ARRAY 3 OF INTEGER;
-- BEGIN i := 0; WHILE (i < n) & (i < LEN(a)) DO INC(total, a[i]); INC(i, 1) END; r.n := i RETURN total + i END Add;
-- BEGIN INC(v, Add(a, 3, v, r)); Out.Int(v, 0) END M.
module _ (b : Box (Unit {0}) Heap) (v : Vec (Unit {0}) Heap) where
  abbrev vec1 : Vec (Unit {0}) Heap
  vec1 = record { ptr = v.ptr; len = 1; cap = 1; alloc = v.alloc; items = tt ∷ []; ok = (refl, omega arith); small = omega arith }

  abbrev vec2 : Vec (Unit {0}) Heap
  vec2 = record { ptr = v.ptr; len = 2; cap = 2; alloc = v.alloc; items = tt ∷ tt ∷ []; ok = (refl, omega arith); small = omega arith }

  abbrev vec4 : Vec (Unit {0}) Heap
  vec4 = record { ptr = v.ptr; len = 4; cap = 4; alloc = v.alloc; items = tt ∷ tt ∷ tt ∷ tt ∷ []; ok = (refl, omega arith); small = omega arith }

  abbrev number : Expr → Checked
  number x = record { form = x; kind = Int }

  abbrev open_kind : TypeKind
  open_kind = Array None 0

  abbrev n : Expr
  n = Load (Whole (Local 0) Int)

  abbrev i : Expr
  i = Load (Whole (Local 1) Int)

  abbrev total : Designator
  total = Whole (Parameter 2) Int

  abbrev within : Checked
  within = record { form = Chain' b (Compare' Less b i b n) vec1 (more_of-Link (And (Compare' Less b i b (Length (Whole (Parameter 0) open_kind)))) end_of-Link); kind = Boolean }

  abbrev element : Designator
  element = Part' b (Parameter 0) Int vec1 (more_of-Selector (Index None 0 i) end_of-Selector)

  abbrev field : Designator
  field = Part' b (Parameter 3) Int vec1 (more_of-Selector (Field 0 0) end_of-Selector)

  abbrev round : Stmt
  round = While' vec1 (more_of-Branch within vec2 (more_of-Stmt (Increase total (number (Load element))) (more_of-Stmt (Increase (Whole (Local 1) Int) (number (Literal 1))) end_of-Stmt)) end_of-Branch)

  abbrev sum : Expr
  sum = Call' b (Direct' 0 vec4 (more_of-Argument (ByOpen (Whole (Global 0 1) (Array (Some 3) 0))) (more_of-Argument (ByValue (Literal 3))
      (more_of-Argument (ByPlace (Whole (Global 0 0) Int)) (more_of-Argument (ByRecord (Whole (Global 0 2) (RecordOf 0))) end_of-Argument)))))

  abbrev sample : Program
  sample = record {
    types = record {
      kinds = Int ∷ open_kind ∷ RecordOf 0 ∷ Array (Some 3) 0 ∷ Boolean ∷ Nothing ∷ [];
      records = record { «module» = 0; base = None; level = 0; fields = record { name = 110 ∷ []; exported = false; type_number = 0 } ∷ []; cells = 1; extent = record { bytes = 8; wide = true } } ∷ [];
      signatures = [];
    };
    modules = record { name = 77 ∷ []; objects = []; variables = 0 ∷ 3 ∷ 2 ∷ []; body = 1 } ∷ [];
    procedures = record {
      «module» = 0;
      line = 1;
      is_body = false;
      formals = record { mode = Open; variable = false; type_number = 1 } ∷ record { mode = Value; variable = false; type_number = 0 }
          ∷ record { mode = Place; variable = true; type_number = 0 } ∷ record { mode = AsRecord; variable = true; type_number = 2 } ∷ [];
      result = 0;
      locals = 0 ∷ 3 ∷ [];
      texts = [];
      body = Assign (Whole (Local 1) Int) (number (Literal 0)) ∷ round ∷ Assign field (number i) ∷ [];
      answer = Some (number (Chain' b (Load total) vec1 (more_of-Link (Operate Add i) end_of-Link)));
    } ∷ record {
      «module» = 0;
      line = 2;
      is_body = true;
      formals = [];
      result = 5;
      locals = [];
      texts = [];
      body = Increase (Whole (Global 0 0) Int) (number sum) ∷ OutInt (number (Load (Whole (Global 0 0) Int))) (number (Literal 0)) ∷ [];
      answer = None;
    } ∷ [];
    imports_in = false;
  }

  module _ (l : Layout) where
    abbrev at : ℕ → Proc
    at f = proc_of sample l f (procedure_of sample f)

    all_short : IsShort (at 0) → IsShort (at 1) → All IsShort (lowered_by l sample)
    all_short a b = All-cons IsShort (at 0) (at 1 ∷ []) a (All-cons IsShort (at 1) [] b (All-nil IsShort))

  in_cells_lowers : CanBeLowered (in_cells sample.types) sample
  unfolding data_tree record_row
  in_cells_lowers = record {
    within = record { narrow = cells_narrow sample.types; fine = refl; limits = refl };
    short = all_short (in_cells sample.types) (leb-true _ _ refl) (leb-true _ _ refl);
  }

  packed_lowers : CanBeLowered (packed sample.types) sample
  unfolding data_tree record_row fields_before
  packed_lowers = record {
    within = record { narrow = packed_narrow sample.types; fine = refl; limits = refl };
    short = all_short (packed sample.types) (leb-true _ _ refl) (leb-true _ _ refl);
  }

  pub some_lowers : (p : Program) × CanBeLowered (in_cells p.types) p × CanBeLowered (packed p.types) p
  some_lowers = (sample, in_cells_lowers, packed_lowers)
