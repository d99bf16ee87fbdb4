-- The samples can run: what is proved speaks of some programs.
use Rattle.std.proofs.Common.{◌≡◌, ℕ, suc, List, [], ◌∷◌, true, false, Some, None, refl, arith}
use Rattle.std.specs.Prelude.{flat_map, Vec, Box}
use Rattle.std.specs.Int.{to_le_bytes, w64}
use Rattle.std.specs.Fmt.{digits}
use Rattle.std.specs.declared.alloc.Global.{Global as Heap}
use Rattle.ob_types.specs.Trees.{data_tree, record_row}
use Rattle.ob_types.specs.declared.program.Program.{Program}
use Rattle.ob_types.specs.declared.statements.Stmt.{Assign, Increase, OutInt, If', end_of-Stmt, more_of-Stmt, end_of-Branch, more_of-Branch}
use Rattle.ob_types.specs.declared.statements.Stmt.{Call as Invoke}
use Rattle.ob_types.specs.declared.tree.Argument.{ByValue, ByPlace, ByRecord, ByOpen}
use Rattle.ob_types.specs.declared.tree.Base.TheVariants.{Global, Local, Parameter}
use Rattle.ob_types.specs.declared.tree.Binary.TheVariants.{Add, Subtract}
use Rattle.ob_types.specs.declared.tree.Call.{Direct', Indirect', end_of-Argument, more_of-Argument}
use Rattle.ob_types.specs.declared.tree.Designator.{Designator, Whole, Part', end_of-Selector, more_of-Selector}
use Rattle.ob_types.specs.declared.tree.Selector.{Index, Field}
use Rattle.ob_types.specs.declared.tree.Expr.{Expr, Literal, Load, Routine, Length, Chain', Compare', Call', end_of-Link, more_of-Link}
use Rattle.ob_types.specs.declared.tree.Link.{Operate}
use Rattle.ob_types.specs.declared.tree.Relation.TheVariants.{Greater}
use Rattle.ob_types.specs.declared.types.Formal.{Formal}
use Rattle.ob_types.specs.declared.types.Mode.TheVariants.{Value, Place, Open}
use Rattle.ob_types.specs.declared.types.Mode.TheVariants.{Record as Tagged}
use Rattle.ob_types.specs.declared.types.TypeKind.TheVariants.{Int, Array, Record, Nothing}
use Rattle.ob_types.specs.declared.types.TypeKind.TheVariants.{Bool as Boolean, Procedure as ProcedureOf}
use Rattle.a64_memory.specs.Memory.{AreBytes}
use Rattle.a64_memory.proofs.Cells.{no_bytes, bytes_of_8}
use Rattle.a64_memory.proofs.Shapes.{append_bytes}
use Rattle.a64_memory.specs.Areas.{data_base}
use Rattle.ssa_lowered.specs.Constants.{ancestor, address_of, descriptor_bytes}
use Rattle.ssa_lowered.specs.Data.{layout}
use Rattle.ssa_lowered.specs.Pieces.{numbers}
use Rattle.lowered_runs.specs.Claims.{CanRun, constants_of}
use Rattle.lowered_runs.specs.Sample.{sample, number, CallsItself, HandsOver}

no_constants : false ≡ true → ⊥
no_constants e = cc

pub sample_runs : CanRun sample [] [] (λ g. suc g)
unfolding data_tree record_row
sample_runs = record {
  fine = refl;
  numbers = refl;
  bytes = λ i. omega arith;
  places = record { few = λ g lt. omega (arith, lt); nowhere = λ g lt e. absurd (omega (arith, e)); apart = λ g h lt less e. omega (arith, e) };
  globals = omega arith;
  room = omega arith;
  stands = λ h. absurd (no_constants h);
}

pub each_bytes : {A : Type 0} (f : A → List ℕ) → ((x : A) → AreBytes (f x)) → (xs : List A) → AreBytes (flat_map f xs)
each_bytes f are [] = no_bytes
each_bytes f are (x ∷ xs) = append_bytes (f x) (flat_map f xs) (are x) (each_bytes f are xs)

-- MODULE M; IMPORT Out; VAR v: INTEGER; PROCEDURE Count(n: INTEGER; VAR total: INTEGER): INTEGER; VAR left: INTEGER;
-- BEGIN IF n > 0 THEN INC(total, Count(n - 1, left)) END RETURN left + n END Count; BEGIN v := 2; INC(v, Count(3, v)); Out.Int(v, 0) END M.
module _ (b : Box (Unit {0}) Heap) (v : Vec (Unit {0}) Heap) where
  abbrev vec0 : Vec (Unit {0}) Heap
  vec0 = record { ptr = v.ptr; len = 0; cap = 0; alloc = v.alloc; items = []; ok = (refl, omega arith); small = omega arith }

  abbrev vec1 : Vec (Unit {0}) Heap
  vec1 = record { ptr = v.ptr; len = 1; cap = 1; alloc = v.alloc; items = tt ∷ []; ok = (refl, omega arith); small = omega arith }

  abbrev vec2 : Vec (Unit {0}) Heap
  vec2 = record { ptr = v.ptr; len = 2; cap = 2; alloc = v.alloc; items = tt ∷ tt ∷ []; ok = (refl, omega arith); small = omega arith }

  abbrev count : Expr → Designator → Expr
  count n total = Call' b (Direct' 0 vec2 (more_of-Argument (ByValue n) (more_of-Argument (ByPlace total) end_of-Argument)))

  abbrev own : Designator
  own = Whole (Local 0) Int

  abbrev left : Designator
  left = Whole (Local 1) Int

  abbrev counting : Program
  counting = record {
    types = record { kinds = Int ∷ Nothing ∷ Boolean ∷ []; records = []; signatures = [] };
    modules = record { name = 77 ∷ []; objects = []; variables = 0 ∷ []; body = 1 } ∷ [];
    procedures = record {
      «module» = 0;
      line = 1;
      is_body = false;
      formals = record { mode = Value; variable = false; type_number = 0 } ∷ record { mode = Place; variable = true; type_number = 0 } ∷ [];
      result = 0;
      locals = 0 ∷ [];
      texts = [];
      body = If' vec1 (more_of-Branch (record { form = Compare' Greater b (Load own) b (Literal 0); kind = Boolean }) vec1
          (more_of-Stmt (Increase (Whole (Parameter 1) Int) (record { form = count (Chain' b (Load own) vec1 (more_of-Link (Operate Subtract (Literal 1)) end_of-Link)) left; kind = Int })) end_of-Stmt) end_of-Branch) vec0 end_of-Stmt ∷ [];
      answer = Some (record { form = Chain' b (Load left) vec1 (more_of-Link (Operate Add (Load own)) end_of-Link); kind = Int });
    } ∷ record {
      «module» = 0;
      line = 2;
      is_body = true;
      formals = [];
      result = 1;
      locals = [];
      texts = [];
      body = Assign (Whole (Global 0 0) Int) (record { form = Literal 2; kind = Int }) ∷ Increase (Whole (Global 0 0) Int) (record { form = count (Literal 3) (Whole (Global 0 0) Int); kind = Int })
          ∷ OutInt (record { form = Load (Whole (Global 0 0) Int); kind = Int }) (record { form = Literal 0; kind = Int }) ∷ [];
      answer = None;
    } ∷ [];
    imports_in = false;
  }

  pub counting_runs : CanRun counting [] [] (λ g. suc g)
  unfolding data_tree record_row
  counting_runs = record {
    fine = refl;
    numbers = refl;
    bytes = λ i. omega arith;
    places = record { few = λ g lt. omega (arith, lt); nowhere = λ g lt e. absurd (omega (arith, e)); apart = λ g h lt less e. omega (arith, e) };
    globals = omega arith;
    room = omega arith;
    stands = λ h. absurd (no_constants h);
  }

  counting_calls : CallsItself counting
  unfolding digits
  counting_calls = (refl, refl)

  pub some_calls : (p : Program) × CanRun p [] [] (λ g. suc g) × CallsItself p
  some_calls = (counting, counting_runs, counting_calls)

  -- MODULE M; IMPORT Out; TYPE Total = RECORD sum: INTEGER END; Adding = PROCEDURE (xs: ARRAY OF INTEGER; VAR t: Total);
  -- VAR numbers: ARRAY 3 OF INTEGER; total: Total; add: Adding; PROCEDURE Add(xs: ARRAY OF INTEGER; VAR t: Total); BEGIN t.sum := LEN(xs) + xs[1] END Add;
  -- BEGIN numbers[1] := 4; add := Add; add(numbers, total); Out.Int(total.sum, 0) END M.
  abbrev handed : List Formal
  handed = record { mode = Open; variable = false; type_number = 5 } ∷ record { mode = Tagged; variable = true; type_number = 3 } ∷ []

  abbrev add : Designator
  add = Whole (Global 0 2) (ProcedureOf 0)

  abbrev handing : Program
  handing = record {
    types = record {
      kinds = Int ∷ Nothing ∷ Array (Some 3) 0 ∷ Record 0 ∷ ProcedureOf 0 ∷ Array None 0 ∷ [];
      records = record { «module» = 0; base = None; level = 0; fields = record { name = 115 ∷ []; exported = false; type_number = 0 } ∷ []; cells = 1; extent = record { bytes = 8; wide = true } } ∷ [];
      signatures = record { formals = handed; result = 1 } ∷ [];
    };
    modules = record { name = 77 ∷ []; objects = []; variables = 2 ∷ 3 ∷ 4 ∷ []; body = 1 } ∷ [];
    procedures = record {
      «module» = 0;
      line = 1;
      is_body = false;
      formals = handed;
      result = 1;
      locals = [];
      texts = [];
      body = Assign (Part' b (Parameter 1) Int vec1 (more_of-Selector (Field 0 0) end_of-Selector)) (record {
        form = Chain' b (Length (Whole (Parameter 0) (Array None 0))) vec1 (more_of-Link (Operate Add (Load (Part' b (Parameter 0) Int vec1 (more_of-Selector (Index None 0 (Literal 1)) end_of-Selector)))) end_of-Link);
        kind = Int;
      }) ∷ [];
      answer = None;
    } ∷ record {
      «module» = 0;
      line = 2;
      is_body = true;
      formals = [];
      result = 1;
      locals = [];
      texts = [];
      body = Assign (Part' b (Global 0 0) Int vec1 (more_of-Selector (Index (Some 3) 0 (Literal 1)) end_of-Selector)) (number 4)
          ∷ Assign add (record { form = Routine 0; kind = ProcedureOf 0 })
          ∷ Invoke (Indirect' add vec2 (more_of-Argument (ByOpen (Whole (Global 0 0) (Array (Some 3) 0))) (more_of-Argument (ByRecord (Whole (Global 0 1) (Record 0))) end_of-Argument)))
          ∷ OutInt (record { form = Load (Part' b (Global 0 1) Int vec1 (more_of-Selector (Field 0 0) end_of-Selector)); kind = Int }) (number 0) ∷ [];
      answer = None;
    } ∷ [];
    imports_in = false;
  }

  handing_bytes : AreBytes (constants_of handing)
  handing_bytes = each_bytes (descriptor_bytes handing (layout handing.types) data_base) (λ r. each_bytes (λ j. to_le_bytes w64 (address_of handing (layout handing.types) data_base (ancestor handing.types j r))) (λ j. bytes_of_8 (address_of handing (layout handing.types) data_base (ancestor handing.types j r))) (numbers 0 16)) (numbers 0 1)

  handing_runs : CanRun handing [] (constants_of handing) (λ g. suc g)
  unfolding data_tree record_row
  handing_runs = record {
    fine = refl;
    numbers = refl;
    bytes = handing_bytes;
    places = record { few = λ g lt. omega (arith, lt); nowhere = λ g lt e. absurd (omega (arith, e)); apart = λ g h lt less e. omega (arith, e) };
    globals = omega arith;
    room = omega arith;
    stands = λ h. record { same = refl; near = omega arith };
  }

  handing_hands : HandsOver handing
  unfolding digits
  handing_hands = record { through = refl; modes = refl; asks = refl; writes = refl }

  pub some_hands : (p : Program) × CanRun p [] (constants_of p) (λ g. suc g) × HandsOver p
  some_hands = (handing, handing_runs, handing_hands)
