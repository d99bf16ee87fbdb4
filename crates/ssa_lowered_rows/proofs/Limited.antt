-- Worked programs: their checked trees, and the procedures that they become. Written by bench/lowered_rows.py from their texts.
use Rattle.std.specs.Prelude.{◌≡◌, ℕ, List, [], ◌∷◌, Bool, true, false, Option, Some, None, Vec, Box}
use Rattle.std.proofs.Common.{refl, arith}
use Rattle.std.specs.declared.alloc.Global.{Global as Heap}
use Rattle.std.specs.Prelude.{◌++◌, replicate}
use Rattle.block_runs.specs.declared.code.Code.{Code}
use Rattle.block_runs.specs.declared.end.End.{End}
use Rattle.ssa_core.specs.declared.procedure.Op.{Op}
use Rattle.ssa_core.specs.declared.procedure.Block.{Block}
use Rattle.ssa_core.specs.declared.procedure.Proc.{Proc}
use Rattle.ssa_lowered.specs.Limits.{limit_of}
use Rattle.ob_types.specs.declared.types.TypeKind.TheVariants.{Int, Array, Nothing}
use Rattle.ob_types.specs.declared.types.TypeKind.TheVariants.{Bool as BoolKind, Text as TextKind, Record as RecordKind}
use Rattle.ob_types.specs.declared.tree.Base.TheVariants.{Global, Local, Text}
use Rattle.ob_types.specs.declared.tree.Expr.{Literal, Load}
use Rattle.ob_types.specs.declared.tree.Designator.{Whole}
use Rattle.ob_types.specs.declared.statements.Stmt.{Increase, OutInt, OutString, OutLn, If', end_of-Stmt, more_of-Stmt, end_of-Branch, more_of-Branch}
use Rattle.ob_types.specs.declared.program.Program.{Program}

-- the outside of a box and of a vector
abbrev Outside : Type 0 → Type 0
Outside A = Box (Unit {0}) Heap → Vec (Unit {0}) Heap → A

-- procedures, blocks and operations, in few words
abbrev op : Code → List ℕ → Option ℕ → Op
op code uses def = record { code = code; uses = uses; def = def }

abbrev block : List ℕ → List Op → End → ℕ → Option ℕ → Block
block params ops end freq enter = record { params = params; ops = ops; end = end; freq = freq; enter = enter }

abbrev proc : List Block → (values args : ℕ) → Bool → (cells bytes : ℕ) → Proc
proc blocks values args counted cells bytes = record { blocks = blocks; values = values; args = args; counted = counted; local_cells = cells; local_bytes = bytes }

abbrev vec0 : Vec (Unit {0}) Heap → Vec (Unit {0}) Heap
vec0 v = record { ptr = v.ptr; len = 0; cap = 0; alloc = v.alloc; items = []; ok = (refl, omega arith); small = omega arith }

abbrev vec1 : Vec (Unit {0}) Heap → Vec (Unit {0}) Heap
vec1 v = record { ptr = v.ptr; len = 1; cap = 1; alloc = v.alloc; items = tt ∷ []; ok = (refl, omega arith); small = omega arith }

abbrev vec2 : Vec (Unit {0}) Heap → Vec (Unit {0}) Heap
vec2 v = record { ptr = v.ptr; len = 2; cap = 2; alloc = v.alloc; items = tt ∷ tt ∷ []; ok = (refl, omega arith); small = omega arith }

-- MODULE M; IMPORT Out; BEGIN [4000*Out.Int(1, 1); ]Out.Ln END M.
abbrev values : Outside Program
values b v = record { types = record { kinds = (Nothing ∷ []); records = []; signatures = [] }; modules = (record { name = []; objects = []; variables = []; body = 0 } ∷ []); procedures = (record { «module» = 0; line = 1; is_body = true; formals = []; result = 0; locals = []; texts = []; body = (replicate 4000 (OutInt (record { form = (Literal 1); kind = Int }) (record { form = (Literal 1); kind = Int })) ++ (OutLn ∷ [])); answer = None } ∷ []); imports_in = false }

pub values_limit : (b : Box (Unit {0}) Heap) (v : Vec (Unit {0}) Heap) → limit_of (values b v) ≡ Some (record { number = 50; index = 0 })
values_limit b v = refl

-- MODULE M; IMPORT Out; BEGIN [4000*Out.Int(1, 1); ]END M.
abbrev values_just : Outside Program
values_just b v = record { types = record { kinds = (Nothing ∷ []); records = []; signatures = [] }; modules = (record { name = []; objects = []; variables = []; body = 0 } ∷ []); procedures = (record { «module» = 0; line = 1; is_body = true; formals = []; result = 0; locals = []; texts = []; body = (replicate 4000 (OutInt (record { form = (Literal 1); kind = Int }) (record { form = (Literal 1); kind = Int })) ++ []); answer = None } ∷ []); imports_in = false }

pub values_just_limit : (b : Box (Unit {0}) Heap) (v : Vec (Unit {0}) Heap) → limit_of (values_just b v) ≡ None
values_just_limit b v = refl

-- MODULE M; VAR g: BOOLEAN; BEGIN [1334*IF g THEN END; ]END M.
abbrev blocks : Outside Program
blocks b v = record { types = record { kinds = (BoolKind ∷ (Nothing ∷ [])); records = []; signatures = [] }; modules = (record { name = []; objects = []; variables = (0 ∷ []); body = 0 } ∷ []); procedures = (record { «module» = 0; line = 1; is_body = true; formals = []; result = 1; locals = []; texts = []; body = (replicate 1334 (If' (vec1 v) (more_of-Branch (record { form = (Load (Whole (Global 0 0) BoolKind)); kind = BoolKind }) (vec0 v) end_of-Stmt end_of-Branch) (vec0 v) end_of-Stmt) ++ []); answer = None } ∷ []); imports_in = false }

pub blocks_limit : (b : Box (Unit {0}) Heap) (v : Vec (Unit {0}) Heap) → limit_of (blocks b v) ≡ Some (record { number = 51; index = 0 })
blocks_limit b v = refl

-- MODULE M; VAR g: BOOLEAN; BEGIN [1333*IF g THEN END; ]END M.
abbrev blocks_just : Outside Program
blocks_just b v = record { types = record { kinds = (BoolKind ∷ (Nothing ∷ [])); records = []; signatures = [] }; modules = (record { name = []; objects = []; variables = (0 ∷ []); body = 0 } ∷ []); procedures = (record { «module» = 0; line = 1; is_body = true; formals = []; result = 1; locals = []; texts = []; body = (replicate 1333 (If' (vec1 v) (more_of-Branch (record { form = (Load (Whole (Global 0 0) BoolKind)); kind = BoolKind }) (vec0 v) end_of-Stmt end_of-Branch) (vec0 v) end_of-Stmt) ++ []); answer = None } ∷ []); imports_in = false }

pub blocks_just_limit : (b : Box (Unit {0}) Heap) (v : Vec (Unit {0}) Heap) → limit_of (blocks_just b v) ≡ None
blocks_just_limit b v = refl

-- MODULE M; VAR g: BOOLEAN; PROCEDURE P; VAR i: INTEGER; BEGIN [1333*IF g THEN END; ]IF g THEN INC(i) END END P; BEGIN END M.
abbrev block_before_its_parameters : Outside Program
block_before_its_parameters b v = record { types = record { kinds = (BoolKind ∷ (Nothing ∷ (Int ∷ []))); records = []; signatures = [] }; modules = (record { name = []; objects = []; variables = (0 ∷ []); body = 1 } ∷ []); procedures = (record { «module» = 0; line = 1; is_body = false; formals = []; result = 1; locals = (2 ∷ []); texts = []; body = (replicate 1333 (If' (vec1 v) (more_of-Branch (record { form = (Load (Whole (Global 0 0) BoolKind)); kind = BoolKind }) (vec0 v) end_of-Stmt end_of-Branch) (vec0 v) end_of-Stmt) ++ ((If' (vec1 v) (more_of-Branch (record { form = (Load (Whole (Global 0 0) BoolKind)); kind = BoolKind }) (vec1 v) (more_of-Stmt (Increase (Whole (Local 0) Int) (record { form = (Literal 1); kind = Int })) end_of-Stmt) end_of-Branch) (vec0 v) end_of-Stmt) ∷ [])); answer = None } ∷ (record { «module» = 0; line = 1; is_body = true; formals = []; result = 1; locals = []; texts = []; body = []; answer = None } ∷ [])); imports_in = false }

pub block_before_its_parameters_limit : (b : Box (Unit {0}) Heap) (v : Vec (Unit {0}) Heap) → limit_of (block_before_its_parameters b v) ≡ Some (record { number = 51; index = 0 })
block_before_its_parameters_limit b v = refl

-- MODULE M; VAR g: BOOLEAN; PROCEDURE P; VAR i: INTEGER; BEGIN [1334*IF g THEN INC(i); INC(i) END; ]END P; BEGIN END M.
abbrev value_before_block : Outside Program
value_before_block b v = record { types = record { kinds = (BoolKind ∷ (Nothing ∷ (Int ∷ []))); records = []; signatures = [] }; modules = (record { name = []; objects = []; variables = (0 ∷ []); body = 1 } ∷ []); procedures = (record { «module» = 0; line = 1; is_body = false; formals = []; result = 1; locals = (2 ∷ []); texts = []; body = (replicate 1334 (If' (vec1 v) (more_of-Branch (record { form = (Load (Whole (Global 0 0) BoolKind)); kind = BoolKind }) (vec2 v) (more_of-Stmt (Increase (Whole (Local 0) Int) (record { form = (Literal 1); kind = Int })) (more_of-Stmt (Increase (Whole (Local 0) Int) (record { form = (Literal 1); kind = Int })) end_of-Stmt)) end_of-Branch) (vec0 v) end_of-Stmt) ++ []); answer = None } ∷ (record { «module» = 0; line = 1; is_body = true; formals = []; result = 1; locals = []; texts = []; body = []; answer = None } ∷ [])); imports_in = false }

pub value_before_block_limit : (b : Box (Unit {0}) Heap) (v : Vec (Unit {0}) Heap) → limit_of (value_before_block b v) ≡ Some (record { number = 50; index = 0 })
value_before_block_limit b v = refl

-- MODULE M; PROCEDURE A; END A; PROCEDURE P; VAR a: ARRAY 1000000 OF INTEGER; b: ARRAY 48577 OF INTEGER; END P; BEGIN END M.
abbrev locals : Outside Program
locals b v = record { types = record { kinds = (Nothing ∷ (Int ∷ ((Array (Some 1000000) 1) ∷ ((Array (Some 48577) 1) ∷ [])))); records = []; signatures = [] }; modules = (record { name = []; objects = []; variables = []; body = 2 } ∷ []); procedures = (record { «module» = 0; line = 1; is_body = false; formals = []; result = 0; locals = []; texts = []; body = []; answer = None } ∷ (record { «module» = 0; line = 1; is_body = false; formals = []; result = 0; locals = (2 ∷ (3 ∷ [])); texts = []; body = []; answer = None } ∷ (record { «module» = 0; line = 1; is_body = true; formals = []; result = 0; locals = []; texts = []; body = []; answer = None } ∷ []))); imports_in = false }

pub locals_limit : (b : Box (Unit {0}) Heap) (v : Vec (Unit {0}) Heap) → limit_of (locals b v) ≡ Some (record { number = 59; index = 1 })
locals_limit b v = refl

-- MODULE M; PROCEDURE A; END A; PROCEDURE P; VAR a: ARRAY 1000000 OF INTEGER; b: ARRAY 48576 OF INTEGER; END P; BEGIN END M.
abbrev locals_just : Outside Program
locals_just b v = record { types = record { kinds = (Nothing ∷ (Int ∷ ((Array (Some 1000000) 1) ∷ ((Array (Some 48576) 1) ∷ [])))); records = []; signatures = [] }; modules = (record { name = []; objects = []; variables = []; body = 2 } ∷ []); procedures = (record { «module» = 0; line = 1; is_body = false; formals = []; result = 0; locals = []; texts = []; body = []; answer = None } ∷ (record { «module» = 0; line = 1; is_body = false; formals = []; result = 0; locals = (2 ∷ (3 ∷ [])); texts = []; body = []; answer = None } ∷ (record { «module» = 0; line = 1; is_body = true; formals = []; result = 0; locals = []; texts = []; body = []; answer = None } ∷ []))); imports_in = false }

pub locals_just_limit : (b : Box (Unit {0}) Heap) (v : Vec (Unit {0}) Heap) → limit_of (locals_just b v) ≡ None
locals_just_limit b v = refl

-- MODULE M; IMPORT Out; PROCEDURE P; VAR a: ARRAY 1000000 OF INTEGER; b: ARRAY 48577 OF INTEGER; BEGIN [4001*Out.Int(1, 1); ]END P; BEGIN [4001*Out.Int(1, 1); ]END M.
abbrev locals_before_values : Outside Program
locals_before_values b v = record { types = record { kinds = (Nothing ∷ (Int ∷ ((Array (Some 1000000) 1) ∷ ((Array (Some 48577) 1) ∷ [])))); records = []; signatures = [] }; modules = (record { name = []; objects = []; variables = []; body = 1 } ∷ []); procedures = (record { «module» = 0; line = 1; is_body = false; formals = []; result = 0; locals = (2 ∷ (3 ∷ [])); texts = []; body = (replicate 4001 (OutInt (record { form = (Literal 1); kind = Int }) (record { form = (Literal 1); kind = Int })) ++ []); answer = None } ∷ (record { «module» = 0; line = 1; is_body = true; formals = []; result = 0; locals = []; texts = []; body = (replicate 4001 (OutInt (record { form = (Literal 1); kind = Int }) (record { form = (Literal 1); kind = Int })) ++ []); answer = None } ∷ [])); imports_in = false }

pub locals_before_values_limit : (b : Box (Unit {0}) Heap) (v : Vec (Unit {0}) Heap) → limit_of (locals_before_values b v) ≡ Some (record { number = 59; index = 0 })
locals_before_values_limit b v = refl

-- MODULE M; IMPORT Out; PROCEDURE A; BEGIN [4001*Out.Int(1, 1); ]END A; PROCEDURE P; VAR a: ARRAY 1000000 OF INTEGER; b: ARRAY 48577 OF INTEGER; END P; BEGIN END M.
abbrev values_of_an_earlier_procedure : Outside Program
values_of_an_earlier_procedure b v = record { types = record { kinds = (Nothing ∷ (Int ∷ ((Array (Some 1000000) 1) ∷ ((Array (Some 48577) 1) ∷ [])))); records = []; signatures = [] }; modules = (record { name = []; objects = []; variables = []; body = 2 } ∷ []); procedures = (record { «module» = 0; line = 1; is_body = false; formals = []; result = 0; locals = []; texts = []; body = (replicate 4001 (OutInt (record { form = (Literal 1); kind = Int }) (record { form = (Literal 1); kind = Int })) ++ []); answer = None } ∷ (record { «module» = 0; line = 1; is_body = false; formals = []; result = 0; locals = (2 ∷ (3 ∷ [])); texts = []; body = []; answer = None } ∷ (record { «module» = 0; line = 1; is_body = true; formals = []; result = 0; locals = []; texts = []; body = []; answer = None } ∷ []))); imports_in = false }

pub values_of_an_earlier_procedure_limit : (b : Box (Unit {0}) Heap) (v : Vec (Unit {0}) Heap) → limit_of (values_of_an_earlier_procedure b v) ≡ Some (record { number = 50; index = 0 })
values_of_an_earlier_procedure_limit b v = refl

-- MODULE M; VAR a: ARRAY 1000000 OF INTEGER; b: ARRAY 48576 OF INTEGER; BEGIN END M.
abbrev globals : Outside Program
globals b v = record { types = record { kinds = (Int ∷ ((Array (Some 1000000) 0) ∷ ((Array (Some 48576) 0) ∷ (Nothing ∷ [])))); records = []; signatures = [] }; modules = (record { name = []; objects = []; variables = (1 ∷ (2 ∷ [])); body = 0 } ∷ []); procedures = (record { «module» = 0; line = 1; is_body = true; formals = []; result = 3; locals = []; texts = []; body = []; answer = None } ∷ []); imports_in = false }

pub globals_limit : (b : Box (Unit {0}) Heap) (v : Vec (Unit {0}) Heap) → limit_of (globals b v) ≡ Some (record { number = 53; index = 0 })
globals_limit b v = refl

-- MODULE M; VAR a: ARRAY 1000000 OF INTEGER; b: ARRAY 48575 OF INTEGER; BEGIN END M.
abbrev globals_just : Outside Program
globals_just b v = record { types = record { kinds = (Int ∷ ((Array (Some 1000000) 0) ∷ ((Array (Some 48575) 0) ∷ (Nothing ∷ [])))); records = []; signatures = [] }; modules = (record { name = []; objects = []; variables = (1 ∷ (2 ∷ [])); body = 0 } ∷ []); procedures = (record { «module» = 0; line = 1; is_body = true; formals = []; result = 3; locals = []; texts = []; body = []; answer = None } ∷ []); imports_in = false }

pub globals_just_limit : (b : Box (Unit {0}) Heap) (v : Vec (Unit {0}) Heap) → limit_of (globals_just b v) ≡ None
globals_just_limit b v = refl

-- MODULE M; [4096*PROCEDURE P#; END P#; ]END M.
abbrev procedures : Outside Program
procedures b v = record { types = record { kinds = (Nothing ∷ []); records = []; signatures = [] }; modules = (record { name = []; objects = []; variables = []; body = 4096 } ∷ []); procedures = (replicate 4096 record { «module» = 0; line = 1; is_body = false; formals = []; result = 0; locals = []; texts = []; body = []; answer = None } ++ (record { «module» = 0; line = 1; is_body = true; formals = []; result = 0; locals = []; texts = []; body = []; answer = None } ∷ [])); imports_in = false }

pub procedures_limit : (b : Box (Unit {0}) Heap) (v : Vec (Unit {0}) Heap) → limit_of (procedures b v) ≡ Some (record { number = 52; index = 0 })
procedures_limit b v = refl

-- MODULE M; [4095*PROCEDURE P#; END P#; ]END M.
abbrev procedures_just : Outside Program
procedures_just b v = record { types = record { kinds = (Nothing ∷ []); records = []; signatures = [] }; modules = (record { name = []; objects = []; variables = []; body = 4095 } ∷ []); procedures = (replicate 4095 record { «module» = 0; line = 1; is_body = false; formals = []; result = 0; locals = []; texts = []; body = []; answer = None } ++ (record { «module» = 0; line = 1; is_body = true; formals = []; result = 0; locals = []; texts = []; body = []; answer = None } ∷ [])); imports_in = false }

pub procedures_just_limit : (b : Box (Unit {0}) Heap) (v : Vec (Unit {0}) Heap) → limit_of (procedures_just b v) ≡ None
procedures_just_limit b v = refl

-- MODULE M; IMPORT Out; TYPE R = RECORD END; S = RECORD (R) END; BEGIN Out.String(''abc''); Out.String(''[262107*x]'') END M.
abbrev constants_just : Outside Program
constants_just b v = record { types = record { kinds = ((RecordKind 0) ∷ ((RecordKind 1) ∷ (Nothing ∷ []))); records = (record { «module» = 0; base = None; level = 0; fields = []; cells = 0; extent = record { bytes = 0; wide = false } } ∷ (record { «module» = 0; base = (Some 0); level = 1; fields = []; cells = 0; extent = record { bytes = 0; wide = false } } ∷ [])); signatures = [] }; modules = (record { name = []; objects = []; variables = []; body = 0 } ∷ []); procedures = (record { «module» = 0; line = 1; is_body = true; formals = []; result = 2; locals = []; texts = ((97 ∷ (98 ∷ (99 ∷ []))) ∷ ((replicate 262107 120 ++ []) ∷ [])); body = ((OutString (Whole (Text 0) (TextKind 3))) ∷ ((OutString (Whole (Text 1) (TextKind 262107))) ∷ [])); answer = None } ∷ []); imports_in = false }

pub constants_just_limit : (b : Box (Unit {0}) Heap) (v : Vec (Unit {0}) Heap) → limit_of (constants_just b v) ≡ None
constants_just_limit b v = refl

-- MODULE M; IMPORT Out; TYPE R = RECORD END; S = RECORD (R) END; BEGIN Out.String(''abc''); Out.String(''[262108*x]'') END M.
abbrev constants_over : Outside Program
constants_over b v = record { types = record { kinds = ((RecordKind 0) ∷ ((RecordKind 1) ∷ (Nothing ∷ []))); records = (record { «module» = 0; base = None; level = 0; fields = []; cells = 0; extent = record { bytes = 0; wide = false } } ∷ (record { «module» = 0; base = (Some 0); level = 1; fields = []; cells = 0; extent = record { bytes = 0; wide = false } } ∷ [])); signatures = [] }; modules = (record { name = []; objects = []; variables = []; body = 0 } ∷ []); procedures = (record { «module» = 0; line = 1; is_body = true; formals = []; result = 2; locals = []; texts = ((97 ∷ (98 ∷ (99 ∷ []))) ∷ ((replicate 262108 120 ++ []) ∷ [])); body = ((OutString (Whole (Text 0) (TextKind 3))) ∷ ((OutString (Whole (Text 1) (TextKind 262108))) ∷ [])); answer = None } ∷ []); imports_in = false }

pub constants_over_limit : (b : Box (Unit {0}) Heap) (v : Vec (Unit {0}) Heap) → limit_of (constants_over b v) ≡ Some (record { number = 58; index = 0 })
constants_over_limit b v = refl
