-- Worked programs: their checked trees, and the procedures that they become. Written by bench/lowered_rows.py from their texts.
use Rattle.std.specs.Prelude.{◌≡◌, ℕ, List, [], ◌∷◌, Bool, true, false, Option, Some, None, pos, Vec, Box}
use Rattle.std.proofs.Common.{refl, arith}
use Rattle.std.specs.declared.alloc.Global.{Global as Heap}
use Rattle.block_runs.specs.declared.code.Code.{Code}
use Rattle.block_runs.specs.declared.code.Code.TheVariants.{Const as ConstOp, Global as GlobalOp, Load as LoadOp, Store as StoreOp, LoadByte as LoadByteOp, StoreByte as StoreByteOp, Add as AddOp, Sub as SubOp, Or as OrOp, Mul as MulOp, MulAdd as MulAddOp, Neg as NegOp, Max0 as Max0Op, Set as SetOp, Flip as FlipOp, Bit as BitOp, Has as HasOp, Div as DivOp, Mod as ModOp, Below as BelowOp, Fits as FitsOp, Byte as ByteOp, Elem as ElemOp, True as TrueOp, IsPtr as IsPtrOp, GuardPtr as GuardPtrOp, New as NewOp, Call as CallOp, Copy as CopyOp, Svc as SvcOp}
use Rattle.block_runs.specs.declared.end.End.{End}
use Rattle.block_runs.specs.declared.end.End.TheVariants.{Jump, Branch, Nonzero, Return, Trap}
use Rattle.ssa_core.specs.declared.procedure.Op.{Op}
use Rattle.ssa_core.specs.declared.procedure.Block.{Block}
use Rattle.ssa_core.specs.declared.procedure.Proc.{Proc}
use Rattle.ssa_lowered.specs.Data.{packed}
use Rattle.ssa_lowered.specs.Constants.{constants}
use Rattle.ssa_lowered.specs.Lowered.{lowered}
use Rattle.ob_types.specs.declared.types.TypeKind.TheVariants.{Int, Char, Array, Nothing}
use Rattle.ob_types.specs.declared.types.TypeKind.TheVariants.{Bool as BoolKind, Byte as ByteKind, Text as TextKind, Record as RecordKind, Pointer as PointerKind}
use Rattle.ob_types.specs.declared.types.Mode.TheVariants.{Value as OfValue, Open as OfOpen}
use Rattle.ob_types.specs.declared.tree.Unary.TheVariants.{Negate, Not}
use Rattle.ob_types.specs.declared.tree.Binary.TheVariants.{Add, Subtract, Multiply, Div, Mod}
use Rattle.ob_types.specs.declared.tree.Relation.TheVariants.{Equal, Less, Greater}
use Rattle.ob_types.specs.declared.tree.Base.TheVariants.{Done, Global, Local, Parameter, Text}
use Rattle.ob_types.specs.declared.tree.Expr.{Literal, Load, Guard', Unary', Chain', Compare', In', IsPointer', Byte', Call', end_of-Link, more_of-Link}
use Rattle.ob_types.specs.declared.tree.Link.{Operate, Element}
use Rattle.ob_types.specs.declared.tree.Designator.{Whole, Part', end_of-Selector, more_of-Selector}
use Rattle.ob_types.specs.declared.tree.Selector.{Index}
use Rattle.ob_types.specs.declared.tree.Call.{Direct', end_of-Argument, more_of-Argument}
use Rattle.ob_types.specs.declared.tree.Argument.{ByValue, ByOpen}
use Rattle.ob_types.specs.declared.statements.Label.TheVariants.{One, Range}
use Rattle.ob_types.specs.declared.statements.Stmt.{Assign, CopyArray, New, Assert, OutChar, OutInt, OutString, OutLn, InChar, If', While', Case', end_of-Stmt, more_of-Stmt, end_of-Branch, more_of-Branch, end_of-CasePart, more_of-CasePart}
use Rattle.ob_types.specs.declared.statements.Stmt.{Call as Invoke}
use Rattle.ob_types.specs.declared.program.Program.{Program}
use Rattle.ob_types.specs.Trees.{data_tree, record_row, fields_before}

-- the outside of a box and of a vector
abbrev Outside : Type 0 → Type 0
Outside A = Box (Unit {0}) Heap → Vec (Unit {0}) Heap → A

-- procedures, blocks and operations, in few words
abbrev op : Code → List ℕ → Option ℕ → Op
op code uses def = record { code = code; uses = uses; def = def }

abbrev block : List ℕ → List Op → End → ℕ → Option ℕ → Block
block params ops end freq enter = record { params = params; ops = ops; end = end; freq = freq; enter = enter }

abbrev proc : List Block → (values args : ℕ) → Bool → (cells bytes : ℕ) → Proc
proc blocks values args counted cells bytes = record { blocks = blocks; values = values; args = args; counted = counted; local_cells = cells; local_bytes = bytes }

abbrev vec0 : Vec (Unit {0}) Heap → Vec (Unit {0}) Heap
vec0 v = record { ptr = v.ptr; len = 0; cap = 0; alloc = v.alloc; items = []; ok = (refl, omega arith); small = omega arith }

abbrev vec1 : Vec (Unit {0}) Heap → Vec (Unit {0}) Heap
vec1 v = record { ptr = v.ptr; len = 1; cap = 1; alloc = v.alloc; items = tt ∷ []; ok = (refl, omega arith); small = omega arith }

abbrev vec2 : Vec (Unit {0}) Heap → Vec (Unit {0}) Heap
vec2 v = record { ptr = v.ptr; len = 2; cap = 2; alloc = v.alloc; items = tt ∷ tt ∷ []; ok = (refl, omega arith); small = omega arith }

abbrev vec4 : Vec (Unit {0}) Heap → Vec (Unit {0}) Heap
vec4 v = record { ptr = v.ptr; len = 4; cap = 4; alloc = v.alloc; items = tt ∷ tt ∷ tt ∷ tt ∷ []; ok = (refl, omega arith); small = omega arith }

-- MODULE M; IMPORT Out; BEGIN Out.Int(6*7, 0); Out.Ln END M.
abbrev first : Outside Program
first b v = record { types = record { kinds = (Nothing ∷ []); records = []; signatures = [] }; modules = (record { name = []; objects = []; variables = []; body = 0 } ∷ []); procedures = (record { «module» = 0; line = 1; is_body = true; formals = []; result = 0; locals = []; texts = []; body = ((OutInt (record { form = (Chain' b (Literal 6) (vec1 v) (more_of-Link (Operate Multiply (Literal 7)) end_of-Link)); kind = Int }) (record { form = (Literal 0); kind = Int })) ∷ OutLn ∷ []); answer = None } ∷ []); imports_in = false }

abbrev first_procs : List Proc
first_procs = ((proc ((block [] ((op (ConstOp 6) [] (Some 0)) ∷ (op (ConstOp 7) [] (Some 1)) ∷ (op MulOp (0 ∷ 1 ∷ []) (Some 2)) ∷ (op (ConstOp 0) [] (Some 3)) ∷ (op (SvcOp 2) (2 ∷ 3 ∷ []) None) ∷ (op (ConstOp 10) [] (Some 4)) ∷ (op (SvcOp 1) (4 ∷ []) None) ∷ []) (Return None) 1048576 None) ∷ []) 5 0 false 0 0) ∷ [])

pub first_low : (b : Box (Unit {0}) Heap) (v : Vec (Unit {0}) Heap) → lowered (first b v) ≡ first_procs
unfolding data_tree record_row fields_before
first_low b v = refl

-- MODULE M; IMPORT Out; BEGIN Out.Int((-7) DIV 2, 0); Out.Char('' ''); Out.Int((-7) MOD 2, 0) END M.
abbrev division : Outside Program
division b v = record { types = record { kinds = (Nothing ∷ []); records = []; signatures = [] }; modules = (record { name = []; objects = []; variables = []; body = 0 } ∷ []); procedures = (record { «module» = 0; line = 1; is_body = true; formals = []; result = 0; locals = []; texts = []; body = ((OutInt (record { form = (Chain' b (Unary' Negate b (Literal 7)) (vec1 v) (more_of-Link (Operate Div (Literal 2)) end_of-Link)); kind = Int }) (record { form = (Literal 0); kind = Int })) ∷ (OutChar (record { form = (Literal 32); kind = Char })) ∷ (OutInt (record { form = (Chain' b (Unary' Negate b (Literal 7)) (vec1 v) (more_of-Link (Operate Mod (Literal 2)) end_of-Link)); kind = Int }) (record { form = (Literal 0); kind = Int })) ∷ []); answer = None } ∷ []); imports_in = false }

abbrev division_procs : List Proc
division_procs = ((proc ((block [] ((op (ConstOp 7) [] (Some 0)) ∷ (op NegOp (0 ∷ []) (Some 1)) ∷ (op (ConstOp 2) [] (Some 2)) ∷ (op DivOp (1 ∷ 2 ∷ []) (Some 3)) ∷ (op (ConstOp 0) [] (Some 4)) ∷ (op (SvcOp 2) (3 ∷ 4 ∷ []) None) ∷ (op (ConstOp 32) [] (Some 5)) ∷ (op (SvcOp 1) (5 ∷ []) None) ∷ (op (ConstOp 7) [] (Some 6)) ∷ (op NegOp (6 ∷ []) (Some 7)) ∷ (op (ConstOp 2) [] (Some 8)) ∷ (op ModOp (7 ∷ 8 ∷ []) (Some 9)) ∷ (op (ConstOp 0) [] (Some 10)) ∷ (op (SvcOp 2) (9 ∷ 10 ∷ []) None) ∷ []) (Return None) 1048576 None) ∷ []) 11 0 false 0 0) ∷ [])

pub division_low : (b : Box (Unit {0}) Heap) (v : Vec (Unit {0}) Heap) → lowered (division b v) ≡ division_procs
unfolding data_tree record_row fields_before
division_low b v = refl

-- MODULE M; IMPORT Out; BEGIN Out.Int(7 DIV (1 - 2), 0) END M.
abbrev divisor : Outside Program
divisor b v = record { types = record { kinds = (Nothing ∷ []); records = []; signatures = [] }; modules = (record { name = []; objects = []; variables = []; body = 0 } ∷ []); procedures = (record { «module» = 0; line = 1; is_body = true; formals = []; result = 0; locals = []; texts = []; body = ((OutInt (record { form = (Chain' b (Literal 7) (vec1 v) (more_of-Link (Operate Div (Chain' b (Literal 1) (vec1 v) (more_of-Link (Operate Subtract (Literal 2)) end_of-Link))) end_of-Link)); kind = Int }) (record { form = (Literal 0); kind = Int })) ∷ []); answer = None } ∷ []); imports_in = false }

abbrev divisor_procs : List Proc
divisor_procs = ((proc ((block [] ((op (ConstOp 7) [] (Some 0)) ∷ (op (ConstOp 1) [] (Some 1)) ∷ (op (ConstOp 2) [] (Some 2)) ∷ (op SubOp (1 ∷ 2 ∷ []) (Some 3)) ∷ (op DivOp (0 ∷ 3 ∷ []) (Some 4)) ∷ (op (ConstOp 0) [] (Some 5)) ∷ (op (SvcOp 2) (4 ∷ 5 ∷ []) None) ∷ []) (Return None) 1048576 None) ∷ []) 6 0 false 0 0) ∷ [])

pub divisor_low : (b : Box (Unit {0}) Heap) (v : Vec (Unit {0}) Heap) → lowered (divisor b v) ≡ divisor_procs
unfolding data_tree record_row fields_before
divisor_low b v = refl

-- MODULE S; IMPORT Out; PROCEDURE P; VAR a, b, t, i: INTEGER; BEGIN a := 1; b := 2; i := 0; WHILE i < 3 DO t := a; a := b; b := t; i := i + 1 END; Out.Int(a, 0); Out.Int(b, 0) END P; BEGIN P END S.
abbrev swap : Outside Program
swap b v = record { types = record { kinds = (Nothing ∷ Int ∷ []); records = []; signatures = [] }; modules = (record { name = []; objects = []; variables = []; body = 1 } ∷ []); procedures = (record { «module» = 0; line = 1; is_body = false; formals = []; result = 0; locals = (1 ∷ 1 ∷ 1 ∷ 1 ∷ []); texts = []; body = ((Assign (Whole (Local 0) Int) (record { form = (Literal 1); kind = Int })) ∷ (Assign (Whole (Local 1) Int) (record { form = (Literal 2); kind = Int })) ∷ (Assign (Whole (Local 3) Int) (record { form = (Literal 0); kind = Int })) ∷ (While' (vec1 v) (more_of-Branch (record { form = (Compare' Less b (Load (Whole (Local 3) Int)) b (Literal 3)); kind = BoolKind }) (vec4 v) (more_of-Stmt (Assign (Whole (Local 2) Int) (record { form = (Load (Whole (Local 0) Int)); kind = Int })) (more_of-Stmt (Assign (Whole (Local 0) Int) (record { form = (Load (Whole (Local 1) Int)); kind = Int })) (more_of-Stmt (Assign (Whole (Local 1) Int) (record { form = (Load (Whole (Local 2) Int)); kind = Int })) (more_of-Stmt (Assign (Whole (Local 3) Int) (record { form = (Chain' b (Load (Whole (Local 3) Int)) (vec1 v) (more_of-Link (Operate Add (Literal 1)) end_of-Link)); kind = Int })) end_of-Stmt)))) end_of-Branch)) ∷ (OutInt (record { form = (Load (Whole (Local 0) Int)); kind = Int }) (record { form = (Literal 0); kind = Int })) ∷ (OutInt (record { form = (Load (Whole (Local 1) Int)); kind = Int }) (record { form = (Literal 0); kind = Int })) ∷ []); answer = None } ∷ record { «module» = 0; line = 1; is_body = true; formals = []; result = 0; locals = []; texts = []; body = ((Invoke (Direct' 0 (vec0 v) end_of-Argument)) ∷ []); answer = None } ∷ []); imports_in = false }

abbrev swap_procs : List Proc
swap_procs = ((proc ((block [] ((op (ConstOp 0) [] (Some 0)) ∷ (op (ConstOp 0) [] (Some 1)) ∷ (op (ConstOp 0) [] (Some 2)) ∷ (op (ConstOp 0) [] (Some 3)) ∷ (op (ConstOp 1) [] (Some 4)) ∷ (op (ConstOp 2) [] (Some 5)) ∷ (op (ConstOp 0) [] (Some 6)) ∷ []) (Jump 1 (4 ∷ 5 ∷ 2 ∷ 6 ∷ [])) 1048576 None) ∷ (block (7 ∷ 8 ∷ 9 ∷ 10 ∷ []) ((op (ConstOp 3) [] (Some 11)) ∷ []) (Branch 11 10 11 2 3) 8388608 (Some 0)) ∷ (block [] ((op (ConstOp 1) [] (Some 12)) ∷ (op AddOp (10 ∷ 12 ∷ []) (Some 13)) ∷ []) (Jump 1 (8 ∷ 7 ∷ 7 ∷ 13 ∷ [])) 8388608 None) ∷ (block [] ((op (ConstOp 0) [] (Some 14)) ∷ (op (SvcOp 2) (7 ∷ 14 ∷ []) None) ∷ (op (ConstOp 0) [] (Some 15)) ∷ (op (SvcOp 2) (8 ∷ 15 ∷ []) None) ∷ []) (Return None) 1048576 None) ∷ []) 16 0 true 4 0) ∷ (proc ((block [] ((op (CallOp 0) [] None) ∷ []) (Return None) 1048576 None) ∷ []) 0 0 false 0 0) ∷ [])

pub swap_low : (b : Box (Unit {0}) Heap) (v : Vec (Unit {0}) Heap) → lowered (swap b v) ≡ swap_procs
unfolding data_tree record_row fields_before
swap_low b v = refl

-- MODULE M; VAR a: ARRAY 3 OF INTEGER; i: INTEGER; BEGIN i := 2; a[i] := 1; i := 3; a[i] := 1 END M.
abbrev indexes : Outside Program
indexes b v = record { types = record { kinds = (Int ∷ (Array (Some 3) 0) ∷ Nothing ∷ []); records = []; signatures = [] }; modules = (record { name = []; objects = []; variables = (1 ∷ 0 ∷ []); body = 0 } ∷ []); procedures = (record { «module» = 0; line = 1; is_body = true; formals = []; result = 2; locals = []; texts = []; body = ((Assign (Whole (Global 0 1) Int) (record { form = (Literal 2); kind = Int })) ∷ (Assign (Part' b (Global 0 0) Int (vec1 v) (more_of-Selector (Index (Some 3) 0 (Load (Whole (Global 0 1) Int))) end_of-Selector)) (record { form = (Literal 1); kind = Int })) ∷ (Assign (Whole (Global 0 1) Int) (record { form = (Literal 3); kind = Int })) ∷ (Assign (Part' b (Global 0 0) Int (vec1 v) (more_of-Selector (Index (Some 3) 0 (Load (Whole (Global 0 1) Int))) end_of-Selector)) (record { form = (Literal 1); kind = Int })) ∷ []); answer = None } ∷ []); imports_in = false }

abbrev indexes_procs : List Proc
indexes_procs = ((proc ((block [] ((op (GlobalOp 32) [] (Some 0)) ∷ (op (ConstOp 2) [] (Some 1)) ∷ (op StoreOp (0 ∷ 1 ∷ []) None) ∷ (op (GlobalOp 8) [] (Some 2)) ∷ (op (GlobalOp 32) [] (Some 3)) ∷ (op LoadOp (3 ∷ []) (Some 4)) ∷ (op (ConstOp 3) [] (Some 5)) ∷ (op BelowOp (4 ∷ 5 ∷ []) None) ∷ (op (ConstOp 8) [] (Some 6)) ∷ (op MulAddOp (4 ∷ 6 ∷ 2 ∷ []) (Some 7)) ∷ (op (ConstOp 1) [] (Some 8)) ∷ (op StoreOp (7 ∷ 8 ∷ []) None) ∷ (op (GlobalOp 32) [] (Some 9)) ∷ (op (ConstOp 3) [] (Some 10)) ∷ (op StoreOp (9 ∷ 10 ∷ []) None) ∷ (op (GlobalOp 8) [] (Some 11)) ∷ (op (GlobalOp 32) [] (Some 12)) ∷ (op LoadOp (12 ∷ []) (Some 13)) ∷ (op (ConstOp 3) [] (Some 14)) ∷ (op BelowOp (13 ∷ 14 ∷ []) None) ∷ (op (ConstOp 8) [] (Some 15)) ∷ (op MulAddOp (13 ∷ 15 ∷ 11 ∷ []) (Some 16)) ∷ (op (ConstOp 1) [] (Some 17)) ∷ (op StoreOp (16 ∷ 17 ∷ []) None) ∷ []) (Return None) 1048576 None) ∷ []) 18 0 false 0 0) ∷ [])

pub indexes_low : (b : Box (Unit {0}) Heap) (v : Vec (Unit {0}) Heap) → lowered (indexes b v) ≡ indexes_procs
unfolding data_tree record_row fields_before
indexes_low b v = refl

-- MODULE M; VAR a: ARRAY 3 OF INTEGER; i: INTEGER; BEGIN i := -1; a[i] := 1 END M.
abbrev negative : Outside Program
negative b v = record { types = record { kinds = (Int ∷ (Array (Some 3) 0) ∷ Nothing ∷ []); records = []; signatures = [] }; modules = (record { name = []; objects = []; variables = (1 ∷ 0 ∷ []); body = 0 } ∷ []); procedures = (record { «module» = 0; line = 1; is_body = true; formals = []; result = 2; locals = []; texts = []; body = ((Assign (Whole (Global 0 1) Int) (record { form = (Unary' Negate b (Literal 1)); kind = Int })) ∷ (Assign (Part' b (Global 0 0) Int (vec1 v) (more_of-Selector (Index (Some 3) 0 (Load (Whole (Global 0 1) Int))) end_of-Selector)) (record { form = (Literal 1); kind = Int })) ∷ []); answer = None } ∷ []); imports_in = false }

abbrev negative_procs : List Proc
negative_procs = ((proc ((block [] ((op (GlobalOp 32) [] (Some 0)) ∷ (op (ConstOp 1) [] (Some 1)) ∷ (op NegOp (1 ∷ []) (Some 2)) ∷ (op StoreOp (0 ∷ 2 ∷ []) None) ∷ (op (GlobalOp 8) [] (Some 3)) ∷ (op (GlobalOp 32) [] (Some 4)) ∷ (op LoadOp (4 ∷ []) (Some 5)) ∷ (op (ConstOp 3) [] (Some 6)) ∷ (op BelowOp (5 ∷ 6 ∷ []) None) ∷ (op (ConstOp 8) [] (Some 7)) ∷ (op MulAddOp (5 ∷ 7 ∷ 3 ∷ []) (Some 8)) ∷ (op (ConstOp 1) [] (Some 9)) ∷ (op StoreOp (8 ∷ 9 ∷ []) None) ∷ []) (Return None) 1048576 None) ∷ []) 10 0 false 0 0) ∷ [])

pub negative_low : (b : Box (Unit {0}) Heap) (v : Vec (Unit {0}) Heap) → lowered (negative b v) ≡ negative_procs
unfolding data_tree record_row fields_before
negative_low b v = refl

-- MODULE W; BEGIN WHILE TRUE DO END END W.
abbrev forever : Outside Program
forever b v = record { types = record { kinds = (Nothing ∷ []); records = []; signatures = [] }; modules = (record { name = []; objects = []; variables = []; body = 0 } ∷ []); procedures = (record { «module» = 0; line = 1; is_body = true; formals = []; result = 0; locals = []; texts = []; body = ((While' (vec1 v) (more_of-Branch (record { form = (Literal 1); kind = BoolKind }) (vec0 v) end_of-Stmt end_of-Branch)) ∷ []); answer = None } ∷ []); imports_in = false }

abbrev forever_procs : List Proc
forever_procs = ((proc ((block [] [] (Jump 1 []) 1048576 None) ∷ (block [] ((op (ConstOp 1) [] (Some 0)) ∷ []) (Nonzero 0 2 3) 8388608 (Some 0)) ∷ (block [] [] (Jump 1 []) 8388608 None) ∷ (block [] [] (Return None) 1048576 None) ∷ []) 1 0 false 0 0) ∷ [])

pub forever_low : (b : Box (Unit {0}) Heap) (v : Vec (Unit {0}) Heap) → lowered (forever b v) ≡ forever_procs
unfolding data_tree record_row fields_before
forever_low b v = refl

-- MODULE D; IMPORT Out; PROCEDURE D(n: INTEGER); BEGIN IF n > 1 THEN D(n - 1) END END D; BEGIN Out.Char(''a''); D(20); Out.Char(''b'') END D.
abbrev depth : Outside Program
depth b v = record { types = record { kinds = (Int ∷ Nothing ∷ []); records = []; signatures = [] }; modules = (record { name = []; objects = []; variables = []; body = 1 } ∷ []); procedures = (record { «module» = 0; line = 1; is_body = false; formals = (record { mode = OfValue; variable = false; type_number = 0 } ∷ []); result = 1; locals = []; texts = []; body = ((If' (vec1 v) (more_of-Branch (record { form = (Compare' Greater b (Load (Whole (Local 0) Int)) b (Literal 1)); kind = BoolKind }) (vec1 v) (more_of-Stmt (Invoke (Direct' 0 (vec1 v) (more_of-Argument (ByValue (Chain' b (Load (Whole (Local 0) Int)) (vec1 v) (more_of-Link (Operate Subtract (Literal 1)) end_of-Link))) end_of-Argument))) end_of-Stmt) end_of-Branch) (vec0 v) end_of-Stmt) ∷ []); answer = None } ∷ record { «module» = 0; line = 1; is_body = true; formals = []; result = 1; locals = []; texts = []; body = ((OutChar (record { form = (Literal 97); kind = Char })) ∷ (Invoke (Direct' 0 (vec1 v) (more_of-Argument (ByValue (Literal 20)) end_of-Argument))) ∷ (OutChar (record { form = (Literal 98); kind = Char })) ∷ []); answer = None } ∷ []); imports_in = false }

abbrev depth_procs : List Proc
depth_procs = ((proc ((block (0 ∷ []) ((op (ConstOp 1) [] (Some 1)) ∷ []) (Branch 12 0 1 1 2) 1048576 None) ∷ (block [] ((op (ConstOp 1) [] (Some 2)) ∷ (op SubOp (0 ∷ 2 ∷ []) (Some 3)) ∷ (op (CallOp 0) (3 ∷ []) None) ∷ []) (Jump 3 []) 524288 None) ∷ (block [] [] (Jump 3 []) 524288 None) ∷ (block [] [] (Return None) 1048576 None) ∷ []) 4 1 true 1 0) ∷ (proc ((block [] ((op (ConstOp 97) [] (Some 0)) ∷ (op (SvcOp 1) (0 ∷ []) None) ∷ (op (ConstOp 20) [] (Some 1)) ∷ (op (CallOp 0) (1 ∷ []) None) ∷ (op (ConstOp 98) [] (Some 2)) ∷ (op (SvcOp 1) (2 ∷ []) None) ∷ []) (Return None) 1048576 None) ∷ []) 3 0 false 0 0) ∷ [])

pub depth_low : (b : Box (Unit {0}) Heap) (v : Vec (Unit {0}) Heap) → lowered (depth b v) ≡ depth_procs
unfolding data_tree record_row fields_before
depth_low b v = refl

-- MODULE G; TYPE B = RECORD END; E = RECORD (B) x: INTEGER END; F = RECORD (E) END; PB = POINTER TO B; PE = POINTER TO E; PF = POINTER TO F; VAR p: PB; e: PE; f: PF; BEGIN ASSERT(~(p IS PE)); NEW(e); p := e; e := p(PE); NEW(f); p := f; e := p(PE); ASSERT(p IS PF); NEW(p); e := p(PE) END G.
abbrev guards : Outside Program
guards b v = record { types = record { kinds = ((RecordKind 0) ∷ (RecordKind 1) ∷ (RecordKind 2) ∷ (PointerKind 0) ∷ (PointerKind 1) ∷ (PointerKind 2) ∷ Nothing ∷ Int ∷ []); records = (record { «module» = 0; base = None; level = 0; fields = []; cells = 0; extent = record { bytes = 0; wide = false } } ∷ record { «module» = 0; base = (Some 0); level = 1; fields = (record { name = []; exported = false; type_number = 7 } ∷ []); cells = 1; extent = record { bytes = 8; wide = true } } ∷ record { «module» = 0; base = (Some 1); level = 2; fields = []; cells = 1; extent = record { bytes = 8; wide = true } } ∷ []); signatures = [] }; modules = (record { name = []; objects = []; variables = (3 ∷ 4 ∷ 5 ∷ []); body = 0 } ∷ []); procedures = (record { «module» = 0; line = 1; is_body = true; formals = []; result = 6; locals = []; texts = []; body = ((Assert (record { form = (Unary' Not b (IsPointer' b (Load (Whole (Global 0 0) (PointerKind 0))) 1)); kind = BoolKind })) ∷ (New (Whole (Global 0 1) (PointerKind 1))) ∷ (Assign (Whole (Global 0 0) (PointerKind 0)) (record { form = (Load (Whole (Global 0 1) (PointerKind 1))); kind = (PointerKind 1) })) ∷ (Assign (Whole (Global 0 1) (PointerKind 1)) (record { form = (Guard' b (Whole (Global 0 0) (PointerKind 0)) (1 ∷ [])); kind = (PointerKind 1) })) ∷ (New (Whole (Global 0 2) (PointerKind 2))) ∷ (Assign (Whole (Global 0 0) (PointerKind 0)) (record { form = (Load (Whole (Global 0 2) (PointerKind 2))); kind = (PointerKind 2) })) ∷ (Assign (Whole (Global 0 1) (PointerKind 1)) (record { form = (Guard' b (Whole (Global 0 0) (PointerKind 0)) (1 ∷ [])); kind = (PointerKind 1) })) ∷ (Assert (record { form = (IsPointer' b (Load (Whole (Global 0 0) (PointerKind 0))) 2); kind = BoolKind })) ∷ (New (Whole (Global 0 0) (PointerKind 0))) ∷ (Assign (Whole (Global 0 1) (PointerKind 1)) (record { form = (Guard' b (Whole (Global 0 0) (PointerKind 0)) (1 ∷ [])); kind = (PointerKind 1) })) ∷ []); answer = None } ∷ []); imports_in = false }

abbrev guards_procs : List Proc
guards_procs = ((proc ((block [] ((op (GlobalOp 8) [] (Some 0)) ∷ (op LoadOp (0 ∷ []) (Some 1)) ∷ (op (GlobalOp 160) [] (Some 2)) ∷ (op (IsPtrOp 1) (1 ∷ 2 ∷ []) (Some 3)) ∷ (op FlipOp (3 ∷ []) (Some 4)) ∷ (op TrueOp (4 ∷ []) None) ∷ (op (GlobalOp 16) [] (Some 5)) ∷ (op (ConstOp 2) [] (Some 6)) ∷ (op (ConstOp 16) [] (Some 7)) ∷ (op (GlobalOp 160) [] (Some 8)) ∷ (op NewOp (6 ∷ 7 ∷ 8 ∷ []) (Some 9)) ∷ (op StoreOp (5 ∷ 9 ∷ []) None) ∷ (op (GlobalOp 8) [] (Some 10)) ∷ (op (GlobalOp 16) [] (Some 11)) ∷ (op LoadOp (11 ∷ []) (Some 12)) ∷ (op StoreOp (10 ∷ 12 ∷ []) None) ∷ (op (GlobalOp 16) [] (Some 13)) ∷ (op (GlobalOp 8) [] (Some 14)) ∷ (op LoadOp (14 ∷ []) (Some 15)) ∷ (op (GlobalOp 160) [] (Some 16)) ∷ (op (GuardPtrOp 1) (15 ∷ 16 ∷ []) None) ∷ (op StoreOp (13 ∷ 15 ∷ []) None) ∷ (op (GlobalOp 24) [] (Some 17)) ∷ (op (ConstOp 2) [] (Some 18)) ∷ (op (ConstOp 16) [] (Some 19)) ∷ (op (GlobalOp 288) [] (Some 20)) ∷ (op NewOp (18 ∷ 19 ∷ 20 ∷ []) (Some 21)) ∷ (op StoreOp (17 ∷ 21 ∷ []) None) ∷ (op (GlobalOp 8) [] (Some 22)) ∷ (op (GlobalOp 24) [] (Some 23)) ∷ (op LoadOp (23 ∷ []) (Some 24)) ∷ (op StoreOp (22 ∷ 24 ∷ []) None) ∷ (op (GlobalOp 16) [] (Some 25)) ∷ (op (GlobalOp 8) [] (Some 26)) ∷ (op LoadOp (26 ∷ []) (Some 27)) ∷ (op (GlobalOp 160) [] (Some 28)) ∷ (op (GuardPtrOp 1) (27 ∷ 28 ∷ []) None) ∷ (op StoreOp (25 ∷ 27 ∷ []) None) ∷ (op (GlobalOp 8) [] (Some 29)) ∷ (op LoadOp (29 ∷ []) (Some 30)) ∷ (op (GlobalOp 288) [] (Some 31)) ∷ (op (IsPtrOp 2) (30 ∷ 31 ∷ []) (Some 32)) ∷ (op TrueOp (32 ∷ []) None) ∷ (op (GlobalOp 8) [] (Some 33)) ∷ (op (ConstOp 1) [] (Some 34)) ∷ (op (ConstOp 8) [] (Some 35)) ∷ (op (GlobalOp 32) [] (Some 36)) ∷ (op NewOp (34 ∷ 35 ∷ 36 ∷ []) (Some 37)) ∷ (op StoreOp (33 ∷ 37 ∷ []) None) ∷ (op (GlobalOp 16) [] (Some 38)) ∷ (op (GlobalOp 8) [] (Some 39)) ∷ (op LoadOp (39 ∷ []) (Some 40)) ∷ (op (GlobalOp 160) [] (Some 41)) ∷ (op (GuardPtrOp 1) (40 ∷ 41 ∷ []) None) ∷ (op StoreOp (38 ∷ 40 ∷ []) None) ∷ []) (Return None) 1048576 None) ∷ []) 42 0 false 0 0) ∷ [])

pub guards_low : (b : Box (Unit {0}) Heap) (v : Vec (Unit {0}) Heap) → lowered (guards b v) ≡ guards_procs
unfolding data_tree record_row fields_before
guards_low b v = refl

pub guards_constants : (b : Box (Unit {0}) Heap) (v : Vec (Unit {0}) Heap) → constants (guards b v) (packed (guards b v).types) 268435456 ≡ (32 ∷ 0 ∷ 0 ∷ 16 ∷ 0 ∷ 0 ∷ 0 ∷ 0 ∷ 0 ∷ 0 ∷ 0 ∷ 0 ∷ 0 ∷ 0 ∷ 0 ∷ 0 ∷ 0 ∷ 0 ∷ 0 ∷ 0 ∷ 0 ∷ 0 ∷ 0 ∷ 0 ∷ 0 ∷ 0 ∷ 0 ∷ 0 ∷ 0 ∷ 0 ∷ 0 ∷ 0 ∷ 0 ∷ 0 ∷ 0 ∷ 0 ∷ 0 ∷ 0 ∷ 0 ∷ 0 ∷ 0 ∷ 0 ∷ 0 ∷ 0 ∷ 0 ∷ 0 ∷ 0 ∷ 0 ∷ 0 ∷ 0 ∷ 0 ∷ 0 ∷ 0 ∷ 0 ∷ 0 ∷ 0 ∷ 0 ∷ 0 ∷ 0 ∷ 0 ∷ 0 ∷ 0 ∷ 0 ∷ 0 ∷ 0 ∷ 0 ∷ 0 ∷ 0 ∷ 0 ∷ 0 ∷ 0 ∷ 0 ∷ 0 ∷ 0 ∷ 0 ∷ 0 ∷ 0 ∷ 0 ∷ 0 ∷ 0 ∷ 0 ∷ 0 ∷ 0 ∷ 0 ∷ 0 ∷ 0 ∷ 0 ∷ 0 ∷ 0 ∷ 0 ∷ 0 ∷ 0 ∷ 0 ∷ 0 ∷ 0 ∷ 0 ∷ 0 ∷ 0 ∷ 0 ∷ 0 ∷ 0 ∷ 0 ∷ 0 ∷ 0 ∷ 0 ∷ 0 ∷ 0 ∷ 0 ∷ 0 ∷ 0 ∷ 0 ∷ 0 ∷ 0 ∷ 0 ∷ 0 ∷ 0 ∷ 0 ∷ 0 ∷ 0 ∷ 0 ∷ 0 ∷ 0 ∷ 0 ∷ 0 ∷ 0 ∷ 0 ∷ 0 ∷ 0 ∷ 32 ∷ 0 ∷ 0 ∷ 16 ∷ 0 ∷ 0 ∷ 0 ∷ 0 ∷ 160 ∷ 0 ∷ 0 ∷ 16 ∷ 0 ∷ 0 ∷ 0 ∷ 0 ∷ 0 ∷ 0 ∷ 0 ∷ 0 ∷ 0 ∷ 0 ∷ 0 ∷ 0 ∷ 0 ∷ 0 ∷ 0 ∷ 0 ∷ 0 ∷ 0 ∷ 0 ∷ 0 ∷ 0 ∷ 0 ∷ 0 ∷ 0 ∷ 0 ∷ 0 ∷ 0 ∷ 0 ∷ 0 ∷ 0 ∷ 0 ∷ 0 ∷ 0 ∷ 0 ∷ 0 ∷ 0 ∷ 0 ∷ 0 ∷ 0 ∷ 0 ∷ 0 ∷ 0 ∷ 0 ∷ 0 ∷ 0 ∷ 0 ∷ 0 ∷ 0 ∷ 0 ∷ 0 ∷ 0 ∷ 0 ∷ 0 ∷ 0 ∷ 0 ∷ 0 ∷ 0 ∷ 0 ∷ 0 ∷ 0 ∷ 0 ∷ 0 ∷ 0 ∷ 0 ∷ 0 ∷ 0 ∷ 0 ∷ 0 ∷ 0 ∷ 0 ∷ 0 ∷ 0 ∷ 0 ∷ 0 ∷ 0 ∷ 0 ∷ 0 ∷ 0 ∷ 0 ∷ 0 ∷ 0 ∷ 0 ∷ 0 ∷ 0 ∷ 0 ∷ 0 ∷ 0 ∷ 0 ∷ 0 ∷ 0 ∷ 0 ∷ 0 ∷ 0 ∷ 0 ∷ 0 ∷ 0 ∷ 0 ∷ 0 ∷ 0 ∷ 0 ∷ 0 ∷ 0 ∷ 0 ∷ 0 ∷ 0 ∷ 0 ∷ 0 ∷ 0 ∷ 0 ∷ 0 ∷ 0 ∷ 0 ∷ 0 ∷ 0 ∷ 0 ∷ 0 ∷ 32 ∷ 0 ∷ 0 ∷ 16 ∷ 0 ∷ 0 ∷ 0 ∷ 0 ∷ 160 ∷ 0 ∷ 0 ∷ 16 ∷ 0 ∷ 0 ∷ 0 ∷ 0 ∷ 32 ∷ 1 ∷ 0 ∷ 16 ∷ 0 ∷ 0 ∷ 0 ∷ 0 ∷ 0 ∷ 0 ∷ 0 ∷ 0 ∷ 0 ∷ 0 ∷ 0 ∷ 0 ∷ 0 ∷ 0 ∷ 0 ∷ 0 ∷ 0 ∷ 0 ∷ 0 ∷ 0 ∷ 0 ∷ 0 ∷ 0 ∷ 0 ∷ 0 ∷ 0 ∷ 0 ∷ 0 ∷ 0 ∷ 0 ∷ 0 ∷ 0 ∷ 0 ∷ 0 ∷ 0 ∷ 0 ∷ 0 ∷ 0 ∷ 0 ∷ 0 ∷ 0 ∷ 0 ∷ 0 ∷ 0 ∷ 0 ∷ 0 ∷ 0 ∷ 0 ∷ 0 ∷ 0 ∷ 0 ∷ 0 ∷ 0 ∷ 0 ∷ 0 ∷ 0 ∷ 0 ∷ 0 ∷ 0 ∷ 0 ∷ 0 ∷ 0 ∷ 0 ∷ 0 ∷ 0 ∷ 0 ∷ 0 ∷ 0 ∷ 0 ∷ 0 ∷ 0 ∷ 0 ∷ 0 ∷ 0 ∷ 0 ∷ 0 ∷ 0 ∷ 0 ∷ 0 ∷ 0 ∷ 0 ∷ 0 ∷ 0 ∷ 0 ∷ 0 ∷ 0 ∷ 0 ∷ 0 ∷ 0 ∷ 0 ∷ 0 ∷ 0 ∷ 0 ∷ 0 ∷ 0 ∷ 0 ∷ 0 ∷ 0 ∷ 0 ∷ 0 ∷ 0 ∷ 0 ∷ 0 ∷ 0 ∷ 0 ∷ 0 ∷ 0 ∷ 0 ∷ [])
unfolding data_tree record_row fields_before
guards_constants b v = refl

-- MODULE G; TYPE B = RECORD END; E = RECORD (B) x: INTEGER END; PB = POINTER TO B; PE = POINTER TO E; VAR p: PB; e: PE; BEGIN e := p(PE) END G.
abbrev nilguard : Outside Program
nilguard b v = record { types = record { kinds = ((RecordKind 0) ∷ (RecordKind 1) ∷ (PointerKind 0) ∷ (PointerKind 1) ∷ Nothing ∷ Int ∷ []); records = (record { «module» = 0; base = None; level = 0; fields = []; cells = 0; extent = record { bytes = 0; wide = false } } ∷ record { «module» = 0; base = (Some 0); level = 1; fields = (record { name = []; exported = false; type_number = 5 } ∷ []); cells = 1; extent = record { bytes = 8; wide = true } } ∷ []); signatures = [] }; modules = (record { name = []; objects = []; variables = (2 ∷ 3 ∷ []); body = 0 } ∷ []); procedures = (record { «module» = 0; line = 1; is_body = true; formals = []; result = 4; locals = []; texts = []; body = ((Assign (Whole (Global 0 1) (PointerKind 1)) (record { form = (Guard' b (Whole (Global 0 0) (PointerKind 0)) (1 ∷ [])); kind = (PointerKind 1) })) ∷ []); answer = None } ∷ []); imports_in = false }

abbrev nilguard_procs : List Proc
nilguard_procs = ((proc ((block [] ((op (GlobalOp 16) [] (Some 0)) ∷ (op (GlobalOp 8) [] (Some 1)) ∷ (op LoadOp (1 ∷ []) (Some 2)) ∷ (op (GlobalOp 152) [] (Some 3)) ∷ (op (GuardPtrOp 1) (2 ∷ 3 ∷ []) None) ∷ (op StoreOp (0 ∷ 2 ∷ []) None) ∷ []) (Return None) 1048576 None) ∷ []) 4 0 false 0 0) ∷ [])

pub nilguard_low : (b : Box (Unit {0}) Heap) (v : Vec (Unit {0}) Heap) → lowered (nilguard b v) ≡ nilguard_procs
unfolding data_tree record_row fields_before
nilguard_low b v = refl

pub nilguard_constants : (b : Box (Unit {0}) Heap) (v : Vec (Unit {0}) Heap) → constants (nilguard b v) (packed (nilguard b v).types) 268435456 ≡ (24 ∷ 0 ∷ 0 ∷ 16 ∷ 0 ∷ 0 ∷ 0 ∷ 0 ∷ 0 ∷ 0 ∷ 0 ∷ 0 ∷ 0 ∷ 0 ∷ 0 ∷ 0 ∷ 0 ∷ 0 ∷ 0 ∷ 0 ∷ 0 ∷ 0 ∷ 0 ∷ 0 ∷ 0 ∷ 0 ∷ 0 ∷ 0 ∷ 0 ∷ 0 ∷ 0 ∷ 0 ∷ 0 ∷ 0 ∷ 0 ∷ 0 ∷ 0 ∷ 0 ∷ 0 ∷ 0 ∷ 0 ∷ 0 ∷ 0 ∷ 0 ∷ 0 ∷ 0 ∷ 0 ∷ 0 ∷ 0 ∷ 0 ∷ 0 ∷ 0 ∷ 0 ∷ 0 ∷ 0 ∷ 0 ∷ 0 ∷ 0 ∷ 0 ∷ 0 ∷ 0 ∷ 0 ∷ 0 ∷ 0 ∷ 0 ∷ 0 ∷ 0 ∷ 0 ∷ 0 ∷ 0 ∷ 0 ∷ 0 ∷ 0 ∷ 0 ∷ 0 ∷ 0 ∷ 0 ∷ 0 ∷ 0 ∷ 0 ∷ 0 ∷ 0 ∷ 0 ∷ 0 ∷ 0 ∷ 0 ∷ 0 ∷ 0 ∷ 0 ∷ 0 ∷ 0 ∷ 0 ∷ 0 ∷ 0 ∷ 0 ∷ 0 ∷ 0 ∷ 0 ∷ 0 ∷ 0 ∷ 0 ∷ 0 ∷ 0 ∷ 0 ∷ 0 ∷ 0 ∷ 0 ∷ 0 ∷ 0 ∷ 0 ∷ 0 ∷ 0 ∷ 0 ∷ 0 ∷ 0 ∷ 0 ∷ 0 ∷ 0 ∷ 0 ∷ 0 ∷ 0 ∷ 0 ∷ 0 ∷ 0 ∷ 0 ∷ 0 ∷ 0 ∷ 0 ∷ 24 ∷ 0 ∷ 0 ∷ 16 ∷ 0 ∷ 0 ∷ 0 ∷ 0 ∷ 152 ∷ 0 ∷ 0 ∷ 16 ∷ 0 ∷ 0 ∷ 0 ∷ 0 ∷ 0 ∷ 0 ∷ 0 ∷ 0 ∷ 0 ∷ 0 ∷ 0 ∷ 0 ∷ 0 ∷ 0 ∷ 0 ∷ 0 ∷ 0 ∷ 0 ∷ 0 ∷ 0 ∷ 0 ∷ 0 ∷ 0 ∷ 0 ∷ 0 ∷ 0 ∷ 0 ∷ 0 ∷ 0 ∷ 0 ∷ 0 ∷ 0 ∷ 0 ∷ 0 ∷ 0 ∷ 0 ∷ 0 ∷ 0 ∷ 0 ∷ 0 ∷ 0 ∷ 0 ∷ 0 ∷ 0 ∷ 0 ∷ 0 ∷ 0 ∷ 0 ∷ 0 ∷ 0 ∷ 0 ∷ 0 ∷ 0 ∷ 0 ∷ 0 ∷ 0 ∷ 0 ∷ 0 ∷ 0 ∷ 0 ∷ 0 ∷ 0 ∷ 0 ∷ 0 ∷ 0 ∷ 0 ∷ 0 ∷ 0 ∷ 0 ∷ 0 ∷ 0 ∷ 0 ∷ 0 ∷ 0 ∷ 0 ∷ 0 ∷ 0 ∷ 0 ∷ 0 ∷ 0 ∷ 0 ∷ 0 ∷ 0 ∷ 0 ∷ 0 ∷ 0 ∷ 0 ∷ 0 ∷ 0 ∷ 0 ∷ 0 ∷ 0 ∷ 0 ∷ 0 ∷ 0 ∷ 0 ∷ 0 ∷ 0 ∷ 0 ∷ 0 ∷ 0 ∷ 0 ∷ 0 ∷ 0 ∷ 0 ∷ 0 ∷ 0 ∷ 0 ∷ 0 ∷ 0 ∷ 0 ∷ 0 ∷ 0 ∷ 0 ∷ 0 ∷ 0 ∷ [])
unfolding data_tree record_row fields_before
nilguard_constants b v = refl

-- MODULE M; IMPORT Out; BEGIN Out.Int(0FFFFFFFFFFFFFFFFH, 0); Out.Int(42, 5); Out.Char(41X); Out.Int(ORD(''0''), 0) END M.
abbrev widths : Outside Program
widths b v = record { types = record { kinds = (Nothing ∷ []); records = []; signatures = [] }; modules = (record { name = []; objects = []; variables = []; body = 0 } ∷ []); procedures = (record { «module» = 0; line = 1; is_body = true; formals = []; result = 0; locals = []; texts = []; body = ((OutInt (record { form = (Literal 18446744073709551615); kind = Int }) (record { form = (Literal 0); kind = Int })) ∷ (OutInt (record { form = (Literal 42); kind = Int }) (record { form = (Literal 5); kind = Int })) ∷ (OutChar (record { form = (Literal 65); kind = Char })) ∷ (OutInt (record { form = (Literal 48); kind = Int }) (record { form = (Literal 0); kind = Int })) ∷ []); answer = None } ∷ []); imports_in = false }

abbrev widths_procs : List Proc
widths_procs = ((proc ((block [] ((op (ConstOp 18446744073709551615) [] (Some 0)) ∷ (op (ConstOp 0) [] (Some 1)) ∷ (op (SvcOp 2) (0 ∷ 1 ∷ []) None) ∷ (op (ConstOp 42) [] (Some 2)) ∷ (op (ConstOp 5) [] (Some 3)) ∷ (op (SvcOp 2) (2 ∷ 3 ∷ []) None) ∷ (op (ConstOp 65) [] (Some 4)) ∷ (op (SvcOp 1) (4 ∷ []) None) ∷ (op (ConstOp 48) [] (Some 5)) ∷ (op (ConstOp 0) [] (Some 6)) ∷ (op (SvcOp 2) (5 ∷ 6 ∷ []) None) ∷ []) (Return None) 1048576 None) ∷ []) 7 0 false 0 0) ∷ [])

pub widths_low : (b : Box (Unit {0}) Heap) (v : Vec (Unit {0}) Heap) → lowered (widths b v) ≡ widths_procs
unfolding data_tree record_row fields_before
widths_low b v = refl

-- MODULE K; IMPORT In, Out; VAR c: CHAR; BEGIN In.Char(c); WHILE In.Done DO Out.Char(c); In.Char(c) END END K.
abbrev echo : Outside Program
echo b v = record { types = record { kinds = (Char ∷ Nothing ∷ []); records = []; signatures = [] }; modules = (record { name = []; objects = []; variables = (0 ∷ []); body = 0 } ∷ []); procedures = (record { «module» = 0; line = 1; is_body = true; formals = []; result = 1; locals = []; texts = []; body = ((InChar (Whole (Global 0 0) Char)) ∷ (While' (vec1 v) (more_of-Branch (record { form = (Load (Whole Done BoolKind)); kind = BoolKind }) (vec2 v) (more_of-Stmt (OutChar (record { form = (Load (Whole (Global 0 0) Char)); kind = Char })) (more_of-Stmt (InChar (Whole (Global 0 0) Char)) end_of-Stmt)) end_of-Branch)) ∷ []); answer = None } ∷ []); imports_in = true }

abbrev echo_procs : List Proc
echo_procs = ((proc ((block [] ((op (GlobalOp 8) [] (Some 0)) ∷ (op (SvcOp 4) [] (Some 1)) ∷ (op (ConstOp 0) [] (Some 2)) ∷ (op (SetOp 10) (1 ∷ 2 ∷ []) (Some 3)) ∷ (op (GlobalOp 0) [] (Some 4)) ∷ (op StoreByteOp (4 ∷ 3 ∷ []) None) ∷ (op Max0Op (1 ∷ []) (Some 5)) ∷ (op StoreByteOp (0 ∷ 5 ∷ []) None) ∷ []) (Jump 1 []) 1048576 None) ∷ (block [] ((op (GlobalOp 0) [] (Some 6)) ∷ (op LoadByteOp (6 ∷ []) (Some 7)) ∷ []) (Nonzero 7 2 3) 8388608 (Some 0)) ∷ (block [] ((op (GlobalOp 8) [] (Some 8)) ∷ (op LoadByteOp (8 ∷ []) (Some 9)) ∷ (op (SvcOp 1) (9 ∷ []) None) ∷ (op (GlobalOp 8) [] (Some 10)) ∷ (op (SvcOp 4) [] (Some 11)) ∷ (op (ConstOp 0) [] (Some 12)) ∷ (op (SetOp 10) (11 ∷ 12 ∷ []) (Some 13)) ∷ (op (GlobalOp 0) [] (Some 14)) ∷ (op StoreByteOp (14 ∷ 13 ∷ []) None) ∷ (op Max0Op (11 ∷ []) (Some 15)) ∷ (op StoreByteOp (10 ∷ 15 ∷ []) None) ∷ []) (Jump 1 []) 8388608 None) ∷ (block [] [] (Return None) 1048576 None) ∷ []) 16 0 false 0 0) ∷ [])

pub echo_low : (b : Box (Unit {0}) Heap) (v : Vec (Unit {0}) Heap) → lowered (echo b v) ≡ echo_procs
unfolding data_tree record_row fields_before
echo_low b v = refl

-- MODULE A; PROCEDURE Twice*(x: INTEGER): INTEGER; BEGIN RETURN 2*x END Twice; END A. === MODULE B; IMPORT A, Out; BEGIN Out.Int(A.Twice(21), 0); Out.Ln END B.
abbrev twomodules : Outside Program
twomodules b v = record { types = record { kinds = (Int ∷ Nothing ∷ []); records = []; signatures = [] }; modules = (record { name = []; objects = []; variables = []; body = 1 } ∷ record { name = []; objects = []; variables = []; body = 2 } ∷ []); procedures = (record { «module» = 0; line = 1; is_body = false; formals = (record { mode = OfValue; variable = false; type_number = 0 } ∷ []); result = 0; locals = []; texts = []; body = []; answer = (Some (record { form = (Chain' b (Literal 2) (vec1 v) (more_of-Link (Operate Multiply (Load (Whole (Local 0) Int))) end_of-Link)); kind = Int })) } ∷ record { «module» = 0; line = 1; is_body = true; formals = []; result = 1; locals = []; texts = []; body = []; answer = None } ∷ record { «module» = 1; line = 1; is_body = true; formals = []; result = 1; locals = []; texts = []; body = ((OutInt (record { form = (Call' b (Direct' 0 (vec1 v) (more_of-Argument (ByValue (Literal 21)) end_of-Argument))); kind = Int }) (record { form = (Literal 0); kind = Int })) ∷ OutLn ∷ []); answer = None } ∷ []); imports_in = false }

abbrev twomodules_procs : List Proc
twomodules_procs = ((proc ((block (0 ∷ []) ((op (ConstOp 2) [] (Some 1)) ∷ (op MulOp (1 ∷ 0 ∷ []) (Some 2)) ∷ []) (Return (Some 2)) 1048576 None) ∷ []) 3 1 true 1 0) ∷ (proc ((block [] [] (Return None) 1048576 None) ∷ []) 0 0 false 0 0) ∷ (proc ((block [] ((op (ConstOp 21) [] (Some 0)) ∷ (op (CallOp 0) (0 ∷ []) (Some 1)) ∷ (op (ConstOp 0) [] (Some 2)) ∷ (op (SvcOp 2) (1 ∷ 2 ∷ []) None) ∷ (op (ConstOp 10) [] (Some 3)) ∷ (op (SvcOp 1) (3 ∷ []) None) ∷ []) (Return None) 1048576 None) ∷ []) 4 0 false 0 0) ∷ [])

pub twomodules_low : (b : Box (Unit {0}) Heap) (v : Vec (Unit {0}) Heap) → lowered (twomodules b v) ≡ twomodules_procs
unfolding data_tree record_row fields_before
twomodules_low b v = refl

-- MODULE C; VAR i: INTEGER; BEGIN i := 5; CASE i OF 1: | 2..4: END END C.
abbrev casemiss : Outside Program
casemiss b v = record { types = record { kinds = (Int ∷ Nothing ∷ []); records = []; signatures = [] }; modules = (record { name = []; objects = []; variables = (0 ∷ []); body = 0 } ∷ []); procedures = (record { «module» = 0; line = 1; is_body = true; formals = []; result = 1; locals = []; texts = []; body = ((Assign (Whole (Global 0 0) Int) (record { form = (Literal 5); kind = Int })) ∷ (Case' (record { form = (Load (Whole (Global 0 0) Int)); kind = Int }) (vec2 v) (more_of-CasePart (One (pos 1) ∷ []) (vec0 v) end_of-Stmt (more_of-CasePart (Range (pos 2) (pos 4) ∷ []) (vec0 v) end_of-Stmt end_of-CasePart))) ∷ []); answer = None } ∷ []); imports_in = false }

abbrev casemiss_procs : List Proc
casemiss_procs = ((proc ((block [] ((op (GlobalOp 8) [] (Some 0)) ∷ (op (ConstOp 5) [] (Some 1)) ∷ (op StoreOp (0 ∷ 1 ∷ []) None) ∷ (op (GlobalOp 8) [] (Some 2)) ∷ (op LoadOp (2 ∷ []) (Some 3)) ∷ (op (ConstOp 1) [] (Some 4)) ∷ []) (Branch 0 3 4 4 1) 1048576 None) ∷ (block [] ((op (ConstOp 2) [] (Some 5)) ∷ []) (Branch 10 3 5 2 3) 1048576 None) ∷ (block [] ((op (ConstOp 4) [] (Some 6)) ∷ []) (Branch 13 3 6 5 3) 1048576 None) ∷ (block [] [] (Trap 6) 524288 None) ∷ (block [] [] (Jump 6 []) 524288 None) ∷ (block [] [] (Jump 6 []) 524288 None) ∷ (block [] [] (Return None) 1048576 None) ∷ []) 7 0 false 0 0) ∷ [])

pub casemiss_low : (b : Box (Unit {0}) Heap) (v : Vec (Unit {0}) Heap) → lowered (casemiss b v) ≡ casemiss_procs
unfolding data_tree record_row fields_before
casemiss_low b v = refl

-- MODULE C; VAR i: INTEGER; BEGIN ASSERT(i = 0); ASSERT(i = 1) END C.
abbrev asserts : Outside Program
asserts b v = record { types = record { kinds = (Int ∷ Nothing ∷ []); records = []; signatures = [] }; modules = (record { name = []; objects = []; variables = (0 ∷ []); body = 0 } ∷ []); procedures = (record { «module» = 0; line = 1; is_body = true; formals = []; result = 1; locals = []; texts = []; body = ((Assert (record { form = (Compare' Equal b (Load (Whole (Global 0 0) Int)) b (Literal 0)); kind = BoolKind })) ∷ (Assert (record { form = (Compare' Equal b (Load (Whole (Global 0 0) Int)) b (Literal 1)); kind = BoolKind })) ∷ []); answer = None } ∷ []); imports_in = false }

abbrev asserts_procs : List Proc
asserts_procs = ((proc ((block [] ((op (GlobalOp 8) [] (Some 0)) ∷ (op LoadOp (0 ∷ []) (Some 1)) ∷ (op (ConstOp 0) [] (Some 2)) ∷ (op (SetOp 0) (1 ∷ 2 ∷ []) (Some 3)) ∷ (op TrueOp (3 ∷ []) None) ∷ (op (GlobalOp 8) [] (Some 4)) ∷ (op LoadOp (4 ∷ []) (Some 5)) ∷ (op (ConstOp 1) [] (Some 6)) ∷ (op (SetOp 0) (5 ∷ 6 ∷ []) (Some 7)) ∷ (op TrueOp (7 ∷ []) None) ∷ []) (Return None) 1048576 None) ∷ []) 8 0 false 0 0) ∷ [])

pub asserts_low : (b : Box (Unit {0}) Heap) (v : Vec (Unit {0}) Heap) → lowered (asserts b v) ≡ asserts_procs
unfolding data_tree record_row fields_before
asserts_low b v = refl

-- MODULE C; VAR i: INTEGER; BEGIN i := 64; ASSERT(i IN {1}) END C.
abbrev sets : Outside Program
sets b v = record { types = record { kinds = (Int ∷ Nothing ∷ []); records = []; signatures = [] }; modules = (record { name = []; objects = []; variables = (0 ∷ []); body = 0 } ∷ []); procedures = (record { «module» = 0; line = 1; is_body = true; formals = []; result = 1; locals = []; texts = []; body = ((Assign (Whole (Global 0 0) Int) (record { form = (Literal 64); kind = Int })) ∷ (Assert (record { form = (In' b (Load (Whole (Global 0 0) Int)) b (Chain' b (Literal 0) (vec1 v) (more_of-Link (Element (Literal 1)) end_of-Link))); kind = BoolKind })) ∷ []); answer = None } ∷ []); imports_in = false }

abbrev sets_procs : List Proc
sets_procs = ((proc ((block [] ((op (GlobalOp 8) [] (Some 0)) ∷ (op (ConstOp 64) [] (Some 1)) ∷ (op StoreOp (0 ∷ 1 ∷ []) None) ∷ (op (GlobalOp 8) [] (Some 2)) ∷ (op LoadOp (2 ∷ []) (Some 3)) ∷ (op ElemOp (3 ∷ []) None) ∷ (op (ConstOp 0) [] (Some 4)) ∷ (op (ConstOp 1) [] (Some 5)) ∷ (op ElemOp (5 ∷ []) None) ∷ (op BitOp (5 ∷ []) (Some 6)) ∷ (op OrOp (4 ∷ 6 ∷ []) (Some 7)) ∷ (op HasOp (3 ∷ 7 ∷ []) (Some 8)) ∷ (op TrueOp (8 ∷ []) None) ∷ []) (Return None) 1048576 None) ∷ []) 9 0 false 0 0) ∷ [])

pub sets_low : (b : Box (Unit {0}) Heap) (v : Vec (Unit {0}) Heap) → lowered (sets b v) ≡ sets_procs
unfolding data_tree record_row fields_before
sets_low b v = refl

-- MODULE C; VAR i: INTEGER; y: BYTE; BEGIN i := 256; y := i END C.
abbrev ranges : Outside Program
ranges b v = record { types = record { kinds = (Int ∷ ByteKind ∷ Nothing ∷ []); records = []; signatures = [] }; modules = (record { name = []; objects = []; variables = (0 ∷ 1 ∷ []); body = 0 } ∷ []); procedures = (record { «module» = 0; line = 1; is_body = true; formals = []; result = 2; locals = []; texts = []; body = ((Assign (Whole (Global 0 0) Int) (record { form = (Literal 256); kind = Int })) ∷ (Assign (Whole (Global 0 1) ByteKind) (record { form = (Byte' b (Load (Whole (Global 0 0) Int))); kind = ByteKind })) ∷ []); answer = None } ∷ []); imports_in = false }

abbrev ranges_procs : List Proc
ranges_procs = ((proc ((block [] ((op (GlobalOp 8) [] (Some 0)) ∷ (op (ConstOp 256) [] (Some 1)) ∷ (op StoreOp (0 ∷ 1 ∷ []) None) ∷ (op (GlobalOp 16) [] (Some 2)) ∷ (op (GlobalOp 8) [] (Some 3)) ∷ (op LoadOp (3 ∷ []) (Some 4)) ∷ (op ByteOp (4 ∷ []) None) ∷ (op StoreByteOp (2 ∷ 4 ∷ []) None) ∷ []) (Return None) 1048576 None) ∷ []) 5 0 false 0 0) ∷ [])

pub ranges_low : (b : Box (Unit {0}) Heap) (v : Vec (Unit {0}) Heap) → lowered (ranges b v) ≡ ranges_procs
unfolding data_tree record_row fields_before
ranges_low b v = refl

-- MODULE C; VAR a: ARRAY 3 OF CHAR; PROCEDURE Q(VAR s: ARRAY OF CHAR); BEGIN s := ''abc'' END Q; BEGIN Q(a) END C.
abbrev copytrap : Outside Program
copytrap b v = record { types = record { kinds = (Char ∷ (Array (Some 3) 0) ∷ (Array None 0) ∷ Nothing ∷ []); records = []; signatures = [] }; modules = (record { name = []; objects = []; variables = (1 ∷ []); body = 1 } ∷ []); procedures = (record { «module» = 0; line = 1; is_body = false; formals = (record { mode = OfOpen; variable = true; type_number = 2 } ∷ []); result = 3; locals = []; texts = ((97 ∷ 98 ∷ 99 ∷ []) ∷ []); body = ((CopyArray (Whole (Parameter 0) (Array None 0)) (Whole (Text 0) (TextKind 3))) ∷ []); answer = None } ∷ record { «module» = 0; line = 1; is_body = true; formals = []; result = 3; locals = []; texts = []; body = ((Invoke (Direct' 0 (vec1 v) (more_of-Argument (ByOpen (Whole (Global 0 0) (Array (Some 3) 0))) end_of-Argument))) ∷ []); answer = None } ∷ []); imports_in = false }

abbrev copytrap_procs : List Proc
copytrap_procs = ((proc ((block (0 ∷ 1 ∷ []) ((op (GlobalOp 16) [] (Some 2)) ∷ (op (ConstOp 4) [] (Some 3)) ∷ (op FitsOp (3 ∷ 1 ∷ []) None) ∷ (op (ConstOp 4) [] (Some 4)) ∷ (op CopyOp (0 ∷ 2 ∷ 4 ∷ []) None) ∷ []) (Return None) 1048576 None) ∷ []) 5 2 true 0 0) ∷ (proc ((block [] ((op (GlobalOp 8) [] (Some 0)) ∷ (op (ConstOp 3) [] (Some 1)) ∷ (op (CallOp 0) (0 ∷ 1 ∷ []) None) ∷ []) (Return None) 1048576 None) ∷ []) 2 0 false 0 0) ∷ [])

pub copytrap_low : (b : Box (Unit {0}) Heap) (v : Vec (Unit {0}) Heap) → lowered (copytrap b v) ≡ copytrap_procs
unfolding data_tree record_row fields_before
copytrap_low b v = refl

pub copytrap_constants : (b : Box (Unit {0}) Heap) (v : Vec (Unit {0}) Heap) → constants (copytrap b v) (packed (copytrap b v).types) 268435456 ≡ (97 ∷ 98 ∷ 99 ∷ 0 ∷ 0 ∷ 0 ∷ 0 ∷ 0 ∷ [])
unfolding data_tree record_row fields_before
copytrap_constants b v = refl

-- MODULE C; IMPORT Out; VAR a: ARRAY 4 OF CHAR; PROCEDURE Q(VAR s: ARRAY OF CHAR); BEGIN s := ''abc'' END Q; BEGIN Q(a); Out.String(a) END C.
abbrev copyfits : Outside Program
copyfits b v = record { types = record { kinds = (Char ∷ (Array (Some 4) 0) ∷ (Array None 0) ∷ Nothing ∷ []); records = []; signatures = [] }; modules = (record { name = []; objects = []; variables = (1 ∷ []); body = 1 } ∷ []); procedures = (record { «module» = 0; line = 1; is_body = false; formals = (record { mode = OfOpen; variable = true; type_number = 2 } ∷ []); result = 3; locals = []; texts = ((97 ∷ 98 ∷ 99 ∷ []) ∷ []); body = ((CopyArray (Whole (Parameter 0) (Array None 0)) (Whole (Text 0) (TextKind 3))) ∷ []); answer = None } ∷ record { «module» = 0; line = 1; is_body = true; formals = []; result = 3; locals = []; texts = []; body = ((Invoke (Direct' 0 (vec1 v) (more_of-Argument (ByOpen (Whole (Global 0 0) (Array (Some 4) 0))) end_of-Argument))) ∷ (OutString (Whole (Global 0 0) (Array (Some 4) 0))) ∷ []); answer = None } ∷ []); imports_in = false }

abbrev copyfits_procs : List Proc
copyfits_procs = ((proc ((block (0 ∷ 1 ∷ []) ((op (GlobalOp 16) [] (Some 2)) ∷ (op (ConstOp 4) [] (Some 3)) ∷ (op FitsOp (3 ∷ 1 ∷ []) None) ∷ (op (ConstOp 4) [] (Some 4)) ∷ (op CopyOp (0 ∷ 2 ∷ 4 ∷ []) None) ∷ []) (Return None) 1048576 None) ∷ []) 5 2 true 0 0) ∷ (proc ((block [] ((op (GlobalOp 8) [] (Some 0)) ∷ (op (ConstOp 4) [] (Some 1)) ∷ (op (CallOp 0) (0 ∷ 1 ∷ []) None) ∷ (op (GlobalOp 8) [] (Some 2)) ∷ (op (ConstOp 4) [] (Some 3)) ∷ (op (ConstOp 1) [] (Some 4)) ∷ (op (SvcOp 3) (2 ∷ 3 ∷ 4 ∷ []) None) ∷ []) (Return None) 1048576 None) ∷ []) 5 0 false 0 0) ∷ [])

pub copyfits_low : (b : Box (Unit {0}) Heap) (v : Vec (Unit {0}) Heap) → lowered (copyfits b v) ≡ copyfits_procs
unfolding data_tree record_row fields_before
copyfits_low b v = refl

pub copyfits_constants : (b : Box (Unit {0}) Heap) (v : Vec (Unit {0}) Heap) → constants (copyfits b v) (packed (copyfits b v).types) 268435456 ≡ (97 ∷ 98 ∷ 99 ∷ 0 ∷ 0 ∷ 0 ∷ 0 ∷ 0 ∷ [])
unfolding data_tree record_row fields_before
copyfits_constants b v = refl
