-- Worked programs: their checked trees, and the procedures that they become. Written by bench/lowered_rows.py from their texts.
use Rattle.std.specs.Prelude.{◌≡◌, ℕ, List, [], ◌∷◌, Bool, true, false, Option, Some, None, pos, negsuc, Vec, Box}
use Rattle.std.proofs.Common.{refl, arith}
use Rattle.std.specs.declared.alloc.Global.{Global as Heap}
use Rattle.ob_types.specs.Store.{Kind}
use Rattle.block_runs.specs.declared.code.Code.{Code}
use Rattle.block_runs.specs.declared.code.Code.TheVariants.{Const as ConstOp, Global as GlobalOp, Local as LocalOp, Plus as PlusOp, Code as CodeOp, Load as LoadOp, Store as StoreOp, LoadByte as LoadByteOp, StoreByte as StoreByteOp, Add as AddOp, Sub as SubOp, Or as OrOp, Bic as BicOp, Lsl as LslOp, Asr as AsrOp, Ror as RorOp, Mul as MulOp, MulAdd as MulAddOp, Neg as NegOp, Abs as AbsOp, Odd as OddOp, Set as SetOp, Bit as BitOp, Span as SpanOp, Has as HasOp, Div as DivOp, Below as BelowOp, Fits as FitsOp, Byte as ByteOp, Elem as ElemOp, NotNil as NotNilOp, True as TrueOp, IsPtr as IsPtrOp, IsTag as IsTagOp, GuardPtr as GuardPtrOp, GuardTag as GuardTagOp, New as NewOp, Call as CallOp, CallAt as CallAtOp, Copy as CopyOp, Zero as ZeroOp, Compare as CompareOp, Svc as SvcOp}
use Rattle.block_runs.specs.declared.end.End.{End}
use Rattle.block_runs.specs.declared.end.End.TheVariants.{Jump, Branch, Nonzero, Return, Trap}
use Rattle.ssa_core.specs.declared.procedure.Op.{Op}
use Rattle.ssa_core.specs.declared.procedure.Block.{Block}
use Rattle.ssa_core.specs.declared.procedure.Proc.{Proc}
use Rattle.ssa_lowered.specs.Data.{packed}
use Rattle.ssa_lowered.specs.Constants.{constants}
use Rattle.ssa_lowered.specs.Lowered.{lowered}
use Rattle.ob_types.specs.declared.types.TypeKind.TheVariants.{Int, Char, Nil, Array, Nothing}
use Rattle.ob_types.specs.declared.types.TypeKind.TheVariants.{Bool as BoolKind, Byte as ByteKind, Set as SetKind, Text as TextKind, Record as RecordKind, Pointer as PointerKind, Procedure as ProcedureKind}
use Rattle.ob_types.specs.declared.types.Mode.TheVariants.{Place}
use Rattle.ob_types.specs.declared.types.Mode.TheVariants.{Value as OfValue, Record as OfRecord, Open as OfOpen}
use Rattle.ob_types.specs.declared.tree.Unary.TheVariants.{Negate, Not, Abs, Odd}
use Rattle.ob_types.specs.declared.tree.Binary.TheVariants.{Add, Subtract, Multiply, Div, Difference, Subset, Superset, Lsl, Asr, Ror}
use Rattle.ob_types.specs.declared.tree.Relation.TheVariants.{Equal, Unequal, Less, Greater}
use Rattle.ob_types.specs.declared.tree.Base.TheVariants.{Global, Local, Parameter, Text}
use Rattle.ob_types.specs.declared.tree.Expr.{Literal, Routine, Load, Unary', Chain', Compare', CompareTexts', In', IsParameter, Byte', Length, Call', end_of-Link, more_of-Link}
use Rattle.ob_types.specs.declared.tree.Link.{Operate, And, Or, Element, Elements'}
use Rattle.ob_types.specs.declared.tree.Designator.{Whole, Part', end_of-Selector, more_of-Selector}
use Rattle.ob_types.specs.declared.tree.Selector.{Index, Field, Dereference, Narrow}
use Rattle.ob_types.specs.declared.tree.Call.{Direct', Indirect', end_of-Argument, more_of-Argument}
use Rattle.ob_types.specs.declared.tree.Argument.{ByValue, ByPlace, ByRecord, ByOpen}
use Rattle.ob_types.specs.declared.statements.Label.TheVariants.{One, Range}
use Rattle.ob_types.specs.declared.statements.Stmt.{Assign, CopyArray, CopyRecord, Increase, Include, Exclude, New, Assert, OutChar, OutInt, OutString, OutLn, If', While', Repeat', For', Case', CasePointer', CaseParameter', end_of-Stmt, more_of-Stmt, end_of-Branch, more_of-Branch, end_of-CasePart, more_of-CasePart, end_of-TypePart, more_of-TypePart}
use Rattle.ob_types.specs.declared.statements.Stmt.{Call as Invoke}
use Rattle.ob_types.specs.declared.program.Program.{Program}
use Rattle.ob_types.specs.Trees.{data_tree, record_row, fields_before}

-- the outside of a box and of a vector
abbrev Outside : Type 0 → Type 0
Outside A = Box (Unit {0}) Heap → Vec (Unit {0}) Heap → A

-- procedures, blocks and operations, in few words
abbrev op : Code → List ℕ → Option ℕ → Op
op code uses def = record { code = code; uses = uses; def = def }

abbrev block : List ℕ → List Op → End → ℕ → Option ℕ → Block
block params ops end freq enter = record { params = params; ops = ops; end = end; freq = freq; enter = enter }

abbrev proc : List Block → (values args : ℕ) → Bool → (cells bytes : ℕ) → Proc
proc blocks values args counted cells bytes = record { blocks = blocks; values = values; args = args; counted = counted; local_cells = cells; local_bytes = bytes }

abbrev vec0 : Vec (Unit {0}) Heap → Vec (Unit {0}) Heap
vec0 v = record { ptr = v.ptr; len = 0; cap = 0; alloc = v.alloc; items = []; ok = (refl, omega arith); small = omega arith }

abbrev vec1 : Vec (Unit {0}) Heap → Vec (Unit {0}) Heap
vec1 v = record { ptr = v.ptr; len = 1; cap = 1; alloc = v.alloc; items = tt ∷ []; ok = (refl, omega arith); small = omega arith }

abbrev vec2 : Vec (Unit {0}) Heap → Vec (Unit {0}) Heap
vec2 v = record { ptr = v.ptr; len = 2; cap = 2; alloc = v.alloc; items = tt ∷ tt ∷ []; ok = (refl, omega arith); small = omega arith }

abbrev vec3 : Vec (Unit {0}) Heap → Vec (Unit {0}) Heap
vec3 v = record { ptr = v.ptr; len = 3; cap = 3; alloc = v.alloc; items = tt ∷ tt ∷ tt ∷ []; ok = (refl, omega arith); small = omega arith }

abbrev vec7 : Vec (Unit {0}) Heap → Vec (Unit {0}) Heap
vec7 v = record { ptr = v.ptr; len = 7; cap = 7; alloc = v.alloc; items = tt ∷ tt ∷ tt ∷ tt ∷ tt ∷ tt ∷ tt ∷ []; ok = (refl, omega arith); small = omega arith }

-- MODULE V; IMPORT Out; VAR a: ARRAY 3 OF INTEGER; i: INTEGER; PROCEDURE Set(VAR x: INTEGER; n: INTEGER); BEGIN i := 0; x := n END Set; BEGIN i := 2; Set(a[i], 7); Out.Int(a[2], 0); Out.Int(a[0], 0); Set(a[i+3], 1) END V.
abbrev varelement : Outside Program
varelement b v = record { types = record { kinds = (Int ∷ (Array (Some 3) 0) ∷ Nothing ∷ []); records = []; signatures = [] }; modules = (record { name = []; objects = []; variables = (1 ∷ 0 ∷ []); body = 1 } ∷ []); procedures = (record { «module» = 0; line = 1; is_body = false; formals = (record { mode = Place; variable = true; type_number = 0 } ∷ record { mode = OfValue; variable = false; type_number = 0 } ∷ []); result = 2; locals = []; texts = []; body = ((Assign (Whole (Global 0 1) Int) (record { form = (Literal 0); kind = Int })) ∷ (Assign (Whole (Parameter 0) Int) (record { form = (Load (Whole (Local 0) Int)); kind = Int })) ∷ []); answer = None } ∷ record { «module» = 0; line = 1; is_body = true; formals = []; result = 2; locals = []; texts = []; body = ((Assign (Whole (Global 0 1) Int) (record { form = (Literal 2); kind = Int })) ∷ (Invoke (Direct' 0 (vec2 v) (more_of-Argument (ByPlace (Part' b (Global 0 0) Int (vec1 v) (more_of-Selector (Index (Some 3) 0 (Load (Whole (Global 0 1) Int))) end_of-Selector))) (more_of-Argument (ByValue (Literal 7)) end_of-Argument)))) ∷ (OutInt (record { form = (Load (Part' b (Global 0 0) Int (vec1 v) (more_of-Selector (Index (Some 3) 0 (Literal 2)) end_of-Selector))); kind = Int }) (record { form = (Literal 0); kind = Int })) ∷ (OutInt (record { form = (Load (Part' b (Global 0 0) Int (vec1 v) (more_of-Selector (Index (Some 3) 0 (Literal 0)) end_of-Selector))); kind = Int }) (record { form = (Literal 0); kind = Int })) ∷ (Invoke (Direct' 0 (vec2 v) (more_of-Argument (ByPlace (Part' b (Global 0 0) Int (vec1 v) (more_of-Selector (Index (Some 3) 0 (Chain' b (Load (Whole (Global 0 1) Int)) (vec1 v) (more_of-Link (Operate Add (Literal 3)) end_of-Link))) end_of-Selector))) (more_of-Argument (ByValue (Literal 1)) end_of-Argument)))) ∷ []); answer = None } ∷ []); imports_in = false }

abbrev varelement_procs : List Proc
varelement_procs = ((proc ((block (0 ∷ 1 ∷ []) ((op (GlobalOp 32) [] (Some 2)) ∷ (op (ConstOp 0) [] (Some 3)) ∷ (op StoreOp (2 ∷ 3 ∷ []) None) ∷ (op StoreOp (0 ∷ 1 ∷ []) None) ∷ []) (Return None) 1048576 None) ∷ []) 4 2 true 1 0) ∷ (proc ((block [] ((op (GlobalOp 32) [] (Some 0)) ∷ (op (ConstOp 2) [] (Some 1)) ∷ (op StoreOp (0 ∷ 1 ∷ []) None) ∷ (op (GlobalOp 8) [] (Some 2)) ∷ (op (GlobalOp 32) [] (Some 3)) ∷ (op LoadOp (3 ∷ []) (Some 4)) ∷ (op (ConstOp 3) [] (Some 5)) ∷ (op BelowOp (4 ∷ 5 ∷ []) None) ∷ (op (ConstOp 8) [] (Some 6)) ∷ (op MulAddOp (4 ∷ 6 ∷ 2 ∷ []) (Some 7)) ∷ (op (ConstOp 7) [] (Some 8)) ∷ (op (CallOp 0) (7 ∷ 8 ∷ []) None) ∷ (op (GlobalOp 8) [] (Some 9)) ∷ (op (ConstOp 2) [] (Some 10)) ∷ (op (ConstOp 3) [] (Some 11)) ∷ (op BelowOp (10 ∷ 11 ∷ []) None) ∷ (op (ConstOp 8) [] (Some 12)) ∷ (op MulAddOp (10 ∷ 12 ∷ 9 ∷ []) (Some 13)) ∷ (op LoadOp (13 ∷ []) (Some 14)) ∷ (op (ConstOp 0) [] (Some 15)) ∷ (op (SvcOp 2) (14 ∷ 15 ∷ []) None) ∷ (op (GlobalOp 8) [] (Some 16)) ∷ (op (ConstOp 0) [] (Some 17)) ∷ (op (ConstOp 3) [] (Some 18)) ∷ (op BelowOp (17 ∷ 18 ∷ []) None) ∷ (op (ConstOp 8) [] (Some 19)) ∷ (op MulAddOp (17 ∷ 19 ∷ 16 ∷ []) (Some 20)) ∷ (op LoadOp (20 ∷ []) (Some 21)) ∷ (op (ConstOp 0) [] (Some 22)) ∷ (op (SvcOp 2) (21 ∷ 22 ∷ []) None) ∷ (op (GlobalOp 8) [] (Some 23)) ∷ (op (GlobalOp 32) [] (Some 24)) ∷ (op LoadOp (24 ∷ []) (Some 25)) ∷ (op (ConstOp 3) [] (Some 26)) ∷ (op AddOp (25 ∷ 26 ∷ []) (Some 27)) ∷ (op (ConstOp 3) [] (Some 28)) ∷ (op BelowOp (27 ∷ 28 ∷ []) None) ∷ (op (ConstOp 8) [] (Some 29)) ∷ (op MulAddOp (27 ∷ 29 ∷ 23 ∷ []) (Some 30)) ∷ (op (ConstOp 1) [] (Some 31)) ∷ (op (CallOp 0) (30 ∷ 31 ∷ []) None) ∷ []) (Return None) 1048576 None) ∷ []) 32 0 false 0 0) ∷ [])

pub varelement_low : (b : Box (Unit {0}) Heap) (v : Vec (Unit {0}) Heap) → lowered (varelement b v) ≡ varelement_procs
unfolding data_tree record_row fields_before
varelement_low b v = refl

-- MODULE F; IMPORT Out; PROCEDURE Fac(n: INTEGER): INTEGER; VAR r: INTEGER; BEGIN IF n = 0 THEN r := 1 ELSE r := n * Fac(n - 1) END RETURN r END Fac; BEGIN Out.Int(Fac(9), 0) END F.
abbrev factorial : Outside Program
factorial b v = record { types = record { kinds = (Int ∷ Nothing ∷ []); records = []; signatures = [] }; modules = (record { name = []; objects = []; variables = []; body = 1 } ∷ []); procedures = (record { «module» = 0; line = 1; is_body = false; formals = (record { mode = OfValue; variable = false; type_number = 0 } ∷ []); result = 0; locals = (0 ∷ []); texts = []; body = ((If' (vec1 v) (more_of-Branch (record { form = (Compare' Equal b (Load (Whole (Local 0) Int)) b (Literal 0)); kind = BoolKind }) (vec1 v) (more_of-Stmt (Assign (Whole (Local 1) Int) (record { form = (Literal 1); kind = Int })) end_of-Stmt) end_of-Branch) (vec1 v) (more_of-Stmt (Assign (Whole (Local 1) Int) (record { form = (Chain' b (Load (Whole (Local 0) Int)) (vec1 v) (more_of-Link (Operate Multiply (Call' b (Direct' 0 (vec1 v) (more_of-Argument (ByValue (Chain' b (Load (Whole (Local 0) Int)) (vec1 v) (more_of-Link (Operate Subtract (Literal 1)) end_of-Link))) end_of-Argument)))) end_of-Link)); kind = Int })) end_of-Stmt)) ∷ []); answer = (Some (record { form = (Load (Whole (Local 1) Int)); kind = Int })) } ∷ record { «module» = 0; line = 1; is_body = true; formals = []; result = 1; locals = []; texts = []; body = ((OutInt (record { form = (Call' b (Direct' 0 (vec1 v) (more_of-Argument (ByValue (Literal 9)) end_of-Argument))); kind = Int }) (record { form = (Literal 0); kind = Int })) ∷ []); answer = None } ∷ []); imports_in = false }

abbrev factorial_procs : List Proc
factorial_procs = ((proc ((block (0 ∷ []) ((op (ConstOp 0) [] (Some 1)) ∷ (op (ConstOp 0) [] (Some 2)) ∷ []) (Branch 0 0 2 1 2) 1048576 None) ∷ (block [] ((op (ConstOp 1) [] (Some 3)) ∷ []) (Jump 3 (3 ∷ [])) 524288 None) ∷ (block [] ((op (ConstOp 1) [] (Some 4)) ∷ (op SubOp (0 ∷ 4 ∷ []) (Some 5)) ∷ (op (CallOp 0) (5 ∷ []) (Some 6)) ∷ (op MulOp (0 ∷ 6 ∷ []) (Some 7)) ∷ []) (Jump 3 (7 ∷ [])) 524288 None) ∷ (block (8 ∷ []) [] (Return (Some 8)) 1048576 None) ∷ []) 9 1 true 2 0) ∷ (proc ((block [] ((op (ConstOp 9) [] (Some 0)) ∷ (op (CallOp 0) (0 ∷ []) (Some 1)) ∷ (op (ConstOp 0) [] (Some 2)) ∷ (op (SvcOp 2) (1 ∷ 2 ∷ []) None) ∷ []) (Return None) 1048576 None) ∷ []) 3 0 false 0 0) ∷ [])

pub factorial_low : (b : Box (Unit {0}) Heap) (v : Vec (Unit {0}) Heap) → lowered (factorial b v) ≡ factorial_procs
unfolding data_tree record_row fields_before
factorial_low b v = refl

-- MODULE X; IMPORT Out; TYPE P = RECORD x, y: INTEGER END; Q = RECORD (P) z: INTEGER END; VAR p: P; q: Q; BEGIN q.x := 1; q.y := 2; q.z := 3; p := q; Out.Int(p.x, 0); Out.Int(p.y, 0); Out.Int(q.z, 0) END X.
abbrev extensioncopy : Outside Program
extensioncopy b v = record { types = record { kinds = ((RecordKind 0) ∷ (RecordKind 1) ∷ Nothing ∷ Int ∷ []); records = (record { «module» = 0; base = None; level = 0; fields = (record { name = []; exported = false; type_number = 3 } ∷ record { name = []; exported = false; type_number = 3 } ∷ []); cells = 2; extent = record { bytes = 16; wide = true } } ∷ record { «module» = 0; base = (Some 0); level = 1; fields = (record { name = []; exported = false; type_number = 3 } ∷ []); cells = 3; extent = record { bytes = 24; wide = true } } ∷ []); signatures = [] }; modules = (record { name = []; objects = []; variables = (0 ∷ 1 ∷ []); body = 0 } ∷ []); procedures = (record { «module» = 0; line = 1; is_body = true; formals = []; result = 2; locals = []; texts = []; body = ((Assign (Part' b (Global 0 1) Int (vec1 v) (more_of-Selector (Field 0 0) end_of-Selector)) (record { form = (Literal 1); kind = Int })) ∷ (Assign (Part' b (Global 0 1) Int (vec1 v) (more_of-Selector (Field 0 1) end_of-Selector)) (record { form = (Literal 2); kind = Int })) ∷ (Assign (Part' b (Global 0 1) Int (vec1 v) (more_of-Selector (Field 1 0) end_of-Selector)) (record { form = (Literal 3); kind = Int })) ∷ (CopyRecord (Whole (Global 0 0) (RecordKind 0)) (Whole (Global 0 1) (RecordKind 1))) ∷ (OutInt (record { form = (Load (Part' b (Global 0 0) Int (vec1 v) (more_of-Selector (Field 0 0) end_of-Selector))); kind = Int }) (record { form = (Literal 0); kind = Int })) ∷ (OutInt (record { form = (Load (Part' b (Global 0 0) Int (vec1 v) (more_of-Selector (Field 0 1) end_of-Selector))); kind = Int }) (record { form = (Literal 0); kind = Int })) ∷ (OutInt (record { form = (Load (Part' b (Global 0 1) Int (vec1 v) (more_of-Selector (Field 1 0) end_of-Selector))); kind = Int }) (record { form = (Literal 0); kind = Int })) ∷ []); answer = None } ∷ []); imports_in = false }

abbrev extensioncopy_procs : List Proc
extensioncopy_procs = ((proc ((block [] ((op (GlobalOp 24) [] (Some 0)) ∷ (op (ConstOp 1) [] (Some 1)) ∷ (op StoreOp (0 ∷ 1 ∷ []) None) ∷ (op (GlobalOp 24) [] (Some 2)) ∷ (op (PlusOp 8) (2 ∷ []) (Some 3)) ∷ (op (ConstOp 2) [] (Some 4)) ∷ (op StoreOp (3 ∷ 4 ∷ []) None) ∷ (op (GlobalOp 24) [] (Some 5)) ∷ (op (PlusOp 16) (5 ∷ []) (Some 6)) ∷ (op (ConstOp 3) [] (Some 7)) ∷ (op StoreOp (6 ∷ 7 ∷ []) None) ∷ (op (GlobalOp 8) [] (Some 8)) ∷ (op (GlobalOp 24) [] (Some 9)) ∷ (op (ConstOp 16) [] (Some 10)) ∷ (op CopyOp (8 ∷ 9 ∷ 10 ∷ []) None) ∷ (op (GlobalOp 8) [] (Some 11)) ∷ (op LoadOp (11 ∷ []) (Some 12)) ∷ (op (ConstOp 0) [] (Some 13)) ∷ (op (SvcOp 2) (12 ∷ 13 ∷ []) None) ∷ (op (GlobalOp 8) [] (Some 14)) ∷ (op (PlusOp 8) (14 ∷ []) (Some 15)) ∷ (op LoadOp (15 ∷ []) (Some 16)) ∷ (op (ConstOp 0) [] (Some 17)) ∷ (op (SvcOp 2) (16 ∷ 17 ∷ []) None) ∷ (op (GlobalOp 24) [] (Some 18)) ∷ (op (PlusOp 16) (18 ∷ []) (Some 19)) ∷ (op LoadOp (19 ∷ []) (Some 20)) ∷ (op (ConstOp 0) [] (Some 21)) ∷ (op (SvcOp 2) (20 ∷ 21 ∷ []) None) ∷ []) (Return None) 1048576 None) ∷ []) 22 0 false 0 0) ∷ [])

pub extensioncopy_low : (b : Box (Unit {0}) Heap) (v : Vec (Unit {0}) Heap) → lowered (extensioncopy b v) ≡ extensioncopy_procs
unfolding data_tree record_row fields_before
extensioncopy_low b v = refl

pub extensioncopy_constants : (b : Box (Unit {0}) Heap) (v : Vec (Unit {0}) Heap) → constants (extensioncopy b v) (packed (extensioncopy b v).types) 268435456 ≡ (48 ∷ 0 ∷ 0 ∷ 16 ∷ 0 ∷ 0 ∷ 0 ∷ 0 ∷ 0 ∷ 0 ∷ 0 ∷ 0 ∷ 0 ∷ 0 ∷ 0 ∷ 0 ∷ 0 ∷ 0 ∷ 0 ∷ 0 ∷ 0 ∷ 0 ∷ 0 ∷ 0 ∷ 0 ∷ 0 ∷ 0 ∷ 0 ∷ 0 ∷ 0 ∷ 0 ∷ 0 ∷ 0 ∷ 0 ∷ 0 ∷ 0 ∷ 0 ∷ 0 ∷ 0 ∷ 0 ∷ 0 ∷ 0 ∷ 0 ∷ 0 ∷ 0 ∷ 0 ∷ 0 ∷ 0 ∷ 0 ∷ 0 ∷ 0 ∷ 0 ∷ 0 ∷ 0 ∷ 0 ∷ 0 ∷ 0 ∷ 0 ∷ 0 ∷ 0 ∷ 0 ∷ 0 ∷ 0 ∷ 0 ∷ 0 ∷ 0 ∷ 0 ∷ 0 ∷ 0 ∷ 0 ∷ 0 ∷ 0 ∷ 0 ∷ 0 ∷ 0 ∷ 0 ∷ 0 ∷ 0 ∷ 0 ∷ 0 ∷ 0 ∷ 0 ∷ 0 ∷ 0 ∷ 0 ∷ 0 ∷ 0 ∷ 0 ∷ 0 ∷ 0 ∷ 0 ∷ 0 ∷ 0 ∷ 0 ∷ 0 ∷ 0 ∷ 0 ∷ 0 ∷ 0 ∷ 0 ∷ 0 ∷ 0 ∷ 0 ∷ 0 ∷ 0 ∷ 0 ∷ 0 ∷ 0 ∷ 0 ∷ 0 ∷ 0 ∷ 0 ∷ 0 ∷ 0 ∷ 0 ∷ 0 ∷ 0 ∷ 0 ∷ 0 ∷ 0 ∷ 0 ∷ 0 ∷ 0 ∷ 0 ∷ 0 ∷ 0 ∷ 0 ∷ 0 ∷ 48 ∷ 0 ∷ 0 ∷ 16 ∷ 0 ∷ 0 ∷ 0 ∷ 0 ∷ 176 ∷ 0 ∷ 0 ∷ 16 ∷ 0 ∷ 0 ∷ 0 ∷ 0 ∷ 0 ∷ 0 ∷ 0 ∷ 0 ∷ 0 ∷ 0 ∷ 0 ∷ 0 ∷ 0 ∷ 0 ∷ 0 ∷ 0 ∷ 0 ∷ 0 ∷ 0 ∷ 0 ∷ 0 ∷ 0 ∷ 0 ∷ 0 ∷ 0 ∷ 0 ∷ 0 ∷ 0 ∷ 0 ∷ 0 ∷ 0 ∷ 0 ∷ 0 ∷ 0 ∷ 0 ∷ 0 ∷ 0 ∷ 0 ∷ 0 ∷ 0 ∷ 0 ∷ 0 ∷ 0 ∷ 0 ∷ 0 ∷ 0 ∷ 0 ∷ 0 ∷ 0 ∷ 0 ∷ 0 ∷ 0 ∷ 0 ∷ 0 ∷ 0 ∷ 0 ∷ 0 ∷ 0 ∷ 0 ∷ 0 ∷ 0 ∷ 0 ∷ 0 ∷ 0 ∷ 0 ∷ 0 ∷ 0 ∷ 0 ∷ 0 ∷ 0 ∷ 0 ∷ 0 ∷ 0 ∷ 0 ∷ 0 ∷ 0 ∷ 0 ∷ 0 ∷ 0 ∷ 0 ∷ 0 ∷ 0 ∷ 0 ∷ 0 ∷ 0 ∷ 0 ∷ 0 ∷ 0 ∷ 0 ∷ 0 ∷ 0 ∷ 0 ∷ 0 ∷ 0 ∷ 0 ∷ 0 ∷ 0 ∷ 0 ∷ 0 ∷ 0 ∷ 0 ∷ 0 ∷ 0 ∷ 0 ∷ 0 ∷ 0 ∷ 0 ∷ 0 ∷ 0 ∷ 0 ∷ 0 ∷ 0 ∷ 0 ∷ 0 ∷ 0 ∷ 0 ∷ [])
unfolding data_tree record_row fields_before
extensioncopy_constants b v = refl

-- MODULE O; IMPORT Out; TYPE A = ARRAY 3 OF INTEGER; VAR m: ARRAY 2 OF A; i: INTEGER; PROCEDURE Sum(a: ARRAY OF INTEGER): INTEGER; VAR i, s: INTEGER; BEGIN s := 0; FOR i := 0 TO LEN(a) - 1 DO s := s + a[i] END RETURN s END Sum; PROCEDURE All(VAR b: ARRAY OF A): INTEGER; VAR i, s: INTEGER; BEGIN s := 0; FOR i := 0 TO LEN(b) - 1 DO s := s + Sum(b[i]) * (i + 1) END RETURN s END All; BEGIN FOR i := 0 TO 2 DO m[1][i] := i + 1; m[0, i] := 10 END; Out.Int(All(m), 0) END O.
abbrev openarrays : Outside Program
openarrays b v = record { types = record { kinds = (Int ∷ (Array (Some 3) 0) ∷ (Array (Some 2) 1) ∷ (Array None 0) ∷ (Array None 1) ∷ Nothing ∷ []); records = []; signatures = [] }; modules = (record { name = []; objects = []; variables = (2 ∷ 0 ∷ []); body = 2 } ∷ []); procedures = (record { «module» = 0; line = 1; is_body = false; formals = (record { mode = OfOpen; variable = false; type_number = 3 } ∷ []); result = 0; locals = (0 ∷ 0 ∷ []); texts = []; body = ((Assign (Whole (Local 1) Int) (record { form = (Literal 0); kind = Int })) ∷ (For' b (Whole (Local 0) Int) (record { form = (Literal 0); kind = Int }) (record { form = (Chain' b (Length (Whole (Parameter 0) (Array None 0))) (vec1 v) (more_of-Link (Operate Subtract (Literal 1)) end_of-Link)); kind = Int }) (pos 1) (vec1 v) (more_of-Stmt (Assign (Whole (Local 1) Int) (record { form = (Chain' b (Load (Whole (Local 1) Int)) (vec1 v) (more_of-Link (Operate Add (Load (Part' b (Parameter 0) Int (vec1 v) (more_of-Selector (Index None 0 (Load (Whole (Local 0) Int))) end_of-Selector)))) end_of-Link)); kind = Int })) end_of-Stmt)) ∷ []); answer = (Some (record { form = (Load (Whole (Local 1) Int)); kind = Int })) } ∷ record { «module» = 0; line = 1; is_body = false; formals = (record { mode = OfOpen; variable = true; type_number = 4 } ∷ []); result = 0; locals = (0 ∷ 0 ∷ []); texts = []; body = ((Assign (Whole (Local 1) Int) (record { form = (Literal 0); kind = Int })) ∷ (For' b (Whole (Local 0) Int) (record { form = (Literal 0); kind = Int }) (record { form = (Chain' b (Length (Whole (Parameter 0) (Array None 1))) (vec1 v) (more_of-Link (Operate Subtract (Literal 1)) end_of-Link)); kind = Int }) (pos 1) (vec1 v) (more_of-Stmt (Assign (Whole (Local 1) Int) (record { form = (Chain' b (Load (Whole (Local 1) Int)) (vec1 v) (more_of-Link (Operate Add (Chain' b (Call' b (Direct' 0 (vec1 v) (more_of-Argument (ByOpen (Part' b (Parameter 0) (Array (Some 3) 0) (vec1 v) (more_of-Selector (Index None 1 (Load (Whole (Local 0) Int))) end_of-Selector))) end_of-Argument))) (vec1 v) (more_of-Link (Operate Multiply (Chain' b (Load (Whole (Local 0) Int)) (vec1 v) (more_of-Link (Operate Add (Literal 1)) end_of-Link))) end_of-Link))) end_of-Link)); kind = Int })) end_of-Stmt)) ∷ []); answer = (Some (record { form = (Load (Whole (Local 1) Int)); kind = Int })) } ∷ record { «module» = 0; line = 1; is_body = true; formals = []; result = 5; locals = []; texts = []; body = ((For' b (Whole (Global 0 1) Int) (record { form = (Literal 0); kind = Int }) (record { form = (Literal 2); kind = Int }) (pos 1) (vec2 v) (more_of-Stmt (Assign (Part' b (Global 0 0) Int (vec2 v) (more_of-Selector (Index (Some 2) 1 (Literal 1)) (more_of-Selector (Index (Some 3) 0 (Load (Whole (Global 0 1) Int))) end_of-Selector))) (record { form = (Chain' b (Load (Whole (Global 0 1) Int)) (vec1 v) (more_of-Link (Operate Add (Literal 1)) end_of-Link)); kind = Int })) (more_of-Stmt (Assign (Part' b (Global 0 0) Int (vec2 v) (more_of-Selector (Index (Some 2) 1 (Literal 0)) (more_of-Selector (Index (Some 3) 0 (Load (Whole (Global 0 1) Int))) end_of-Selector))) (record { form = (Literal 10); kind = Int })) end_of-Stmt))) ∷ (OutInt (record { form = (Call' b (Direct' 1 (vec1 v) (more_of-Argument (ByOpen (Whole (Global 0 0) (Array (Some 2) 1))) end_of-Argument))); kind = Int }) (record { form = (Literal 0); kind = Int })) ∷ []); answer = None } ∷ []); imports_in = false }

abbrev openarrays_procs : List Proc
openarrays_procs = ((proc ((block (0 ∷ 1 ∷ []) ((op (ConstOp 0) [] (Some 2)) ∷ (op (ConstOp 0) [] (Some 3)) ∷ (op (ConstOp 0) [] (Some 4)) ∷ (op (ConstOp 0) [] (Some 5)) ∷ (op (ConstOp 1) [] (Some 6)) ∷ (op SubOp (1 ∷ 6 ∷ []) (Some 7)) ∷ []) (Jump 1 (5 ∷ 4 ∷ [])) 1048576 None) ∷ (block (8 ∷ 9 ∷ []) [] (Branch 13 8 7 2 3) 8388608 (Some 0)) ∷ (block [] ((op BelowOp (8 ∷ 1 ∷ []) None) ∷ (op (ConstOp 8) [] (Some 10)) ∷ (op MulAddOp (8 ∷ 10 ∷ 0 ∷ []) (Some 11)) ∷ (op LoadOp (11 ∷ []) (Some 12)) ∷ (op AddOp (9 ∷ 12 ∷ []) (Some 13)) ∷ (op (ConstOp 1) [] (Some 14)) ∷ (op AddOp (8 ∷ 14 ∷ []) (Some 15)) ∷ []) (Jump 1 (15 ∷ 13 ∷ [])) 8388608 None) ∷ (block [] [] (Return (Some 9)) 1048576 None) ∷ []) 16 2 true 2 0) ∷ (proc ((block (0 ∷ 1 ∷ []) ((op (ConstOp 0) [] (Some 2)) ∷ (op (ConstOp 0) [] (Some 3)) ∷ (op (ConstOp 0) [] (Some 4)) ∷ (op (ConstOp 0) [] (Some 5)) ∷ (op (ConstOp 1) [] (Some 6)) ∷ (op SubOp (1 ∷ 6 ∷ []) (Some 7)) ∷ []) (Jump 1 (5 ∷ 4 ∷ [])) 1048576 None) ∷ (block (8 ∷ 9 ∷ []) [] (Branch 13 8 7 2 3) 8388608 (Some 0)) ∷ (block [] ((op BelowOp (8 ∷ 1 ∷ []) None) ∷ (op (ConstOp 24) [] (Some 10)) ∷ (op MulAddOp (8 ∷ 10 ∷ 0 ∷ []) (Some 11)) ∷ (op (ConstOp 3) [] (Some 12)) ∷ (op (CallOp 0) (11 ∷ 12 ∷ []) (Some 13)) ∷ (op (ConstOp 1) [] (Some 14)) ∷ (op AddOp (8 ∷ 14 ∷ []) (Some 15)) ∷ (op MulOp (13 ∷ 15 ∷ []) (Some 16)) ∷ (op AddOp (9 ∷ 16 ∷ []) (Some 17)) ∷ (op (ConstOp 1) [] (Some 18)) ∷ (op AddOp (8 ∷ 18 ∷ []) (Some 19)) ∷ []) (Jump 1 (19 ∷ 17 ∷ [])) 8388608 None) ∷ (block [] [] (Return (Some 9)) 1048576 None) ∷ []) 20 2 true 2 0) ∷ (proc ((block [] ((op (GlobalOp 56) [] (Some 0)) ∷ (op (ConstOp 0) [] (Some 1)) ∷ (op StoreOp (0 ∷ 1 ∷ []) None) ∷ (op (ConstOp 2) [] (Some 2)) ∷ []) (Jump 1 []) 1048576 None) ∷ (block [] ((op (GlobalOp 56) [] (Some 3)) ∷ (op LoadOp (3 ∷ []) (Some 4)) ∷ []) (Branch 13 4 2 2 3) 8388608 (Some 0)) ∷ (block [] ((op (GlobalOp 8) [] (Some 5)) ∷ (op (ConstOp 1) [] (Some 6)) ∷ (op (ConstOp 2) [] (Some 7)) ∷ (op BelowOp (6 ∷ 7 ∷ []) None) ∷ (op (ConstOp 24) [] (Some 8)) ∷ (op MulAddOp (6 ∷ 8 ∷ 5 ∷ []) (Some 9)) ∷ (op (GlobalOp 56) [] (Some 10)) ∷ (op LoadOp (10 ∷ []) (Some 11)) ∷ (op (ConstOp 3) [] (Some 12)) ∷ (op BelowOp (11 ∷ 12 ∷ []) None) ∷ (op (ConstOp 8) [] (Some 13)) ∷ (op MulAddOp (11 ∷ 13 ∷ 9 ∷ []) (Some 14)) ∷ (op (GlobalOp 56) [] (Some 15)) ∷ (op LoadOp (15 ∷ []) (Some 16)) ∷ (op (ConstOp 1) [] (Some 17)) ∷ (op AddOp (16 ∷ 17 ∷ []) (Some 18)) ∷ (op StoreOp (14 ∷ 18 ∷ []) None) ∷ (op (GlobalOp 8) [] (Some 19)) ∷ (op (ConstOp 0) [] (Some 20)) ∷ (op (ConstOp 2) [] (Some 21)) ∷ (op BelowOp (20 ∷ 21 ∷ []) None) ∷ (op (ConstOp 24) [] (Some 22)) ∷ (op MulAddOp (20 ∷ 22 ∷ 19 ∷ []) (Some 23)) ∷ (op (GlobalOp 56) [] (Some 24)) ∷ (op LoadOp (24 ∷ []) (Some 25)) ∷ (op (ConstOp 3) [] (Some 26)) ∷ (op BelowOp (25 ∷ 26 ∷ []) None) ∷ (op (ConstOp 8) [] (Some 27)) ∷ (op MulAddOp (25 ∷ 27 ∷ 23 ∷ []) (Some 28)) ∷ (op (ConstOp 10) [] (Some 29)) ∷ (op StoreOp (28 ∷ 29 ∷ []) None) ∷ (op (GlobalOp 56) [] (Some 30)) ∷ (op (GlobalOp 56) [] (Some 31)) ∷ (op LoadOp (31 ∷ []) (Some 32)) ∷ (op (ConstOp 1) [] (Some 33)) ∷ (op AddOp (32 ∷ 33 ∷ []) (Some 34)) ∷ (op StoreOp (30 ∷ 34 ∷ []) None) ∷ []) (Jump 1 []) 8388608 None) ∷ (block [] ((op (GlobalOp 8) [] (Some 35)) ∷ (op (ConstOp 2) [] (Some 36)) ∷ (op (CallOp 1) (35 ∷ 36 ∷ []) (Some 37)) ∷ (op (ConstOp 0) [] (Some 38)) ∷ (op (SvcOp 2) (37 ∷ 38 ∷ []) None) ∷ []) (Return None) 1048576 None) ∷ []) 39 0 false 0 0) ∷ [])

pub openarrays_low : (b : Box (Unit {0}) Heap) (v : Vec (Unit {0}) Heap) → lowered (openarrays b v) ≡ openarrays_procs
unfolding data_tree record_row fields_before
openarrays_low b v = refl

-- MODULE F; IMPORT Out; VAR i: INTEGER; BEGIN FOR i := 6 TO 0 BY -2 DO Out.Int(i, 0) END; Out.Int(i, 0) END F.
abbrev forby : Outside Program
forby b v = record { types = record { kinds = (Int ∷ Nothing ∷ []); records = []; signatures = [] }; modules = (record { name = []; objects = []; variables = (0 ∷ []); body = 0 } ∷ []); procedures = (record { «module» = 0; line = 1; is_body = true; formals = []; result = 1; locals = []; texts = []; body = ((For' b (Whole (Global 0 0) Int) (record { form = (Literal 6); kind = Int }) (record { form = (Literal 0); kind = Int }) (negsuc 1) (vec1 v) (more_of-Stmt (OutInt (record { form = (Load (Whole (Global 0 0) Int)); kind = Int }) (record { form = (Literal 0); kind = Int })) end_of-Stmt)) ∷ (OutInt (record { form = (Load (Whole (Global 0 0) Int)); kind = Int }) (record { form = (Literal 0); kind = Int })) ∷ []); answer = None } ∷ []); imports_in = false }

abbrev forby_procs : List Proc
forby_procs = ((proc ((block [] ((op (GlobalOp 8) [] (Some 0)) ∷ (op (ConstOp 6) [] (Some 1)) ∷ (op StoreOp (0 ∷ 1 ∷ []) None) ∷ (op (ConstOp 0) [] (Some 2)) ∷ []) (Jump 1 []) 1048576 None) ∷ (block [] ((op (GlobalOp 8) [] (Some 3)) ∷ (op LoadOp (3 ∷ []) (Some 4)) ∷ []) (Branch 10 4 2 2 3) 8388608 (Some 0)) ∷ (block [] ((op (GlobalOp 8) [] (Some 5)) ∷ (op LoadOp (5 ∷ []) (Some 6)) ∷ (op (ConstOp 0) [] (Some 7)) ∷ (op (SvcOp 2) (6 ∷ 7 ∷ []) None) ∷ (op (GlobalOp 8) [] (Some 8)) ∷ (op (GlobalOp 8) [] (Some 9)) ∷ (op LoadOp (9 ∷ []) (Some 10)) ∷ (op (ConstOp 18446744073709551614) [] (Some 11)) ∷ (op AddOp (10 ∷ 11 ∷ []) (Some 12)) ∷ (op StoreOp (8 ∷ 12 ∷ []) None) ∷ []) (Jump 1 []) 8388608 None) ∷ (block [] ((op (GlobalOp 8) [] (Some 13)) ∷ (op LoadOp (13 ∷ []) (Some 14)) ∷ (op (ConstOp 0) [] (Some 15)) ∷ (op (SvcOp 2) (14 ∷ 15 ∷ []) None) ∷ []) (Return None) 1048576 None) ∷ []) 16 0 false 0 0) ∷ [])

pub forby_low : (b : Box (Unit {0}) Heap) (v : Vec (Unit {0}) Heap) → lowered (forby b v) ≡ forby_procs
unfolding data_tree record_row fields_before
forby_low b v = refl

-- MODULE F; IMPORT Out; VAR i, n: INTEGER; PROCEDURE L(): INTEGER; BEGIN RETURN n + i END L; BEGIN n := 2; FOR i := 1 TO L() DO n := 0; Out.Int(i, 0) END END F.
abbrev forlimit : Outside Program
forlimit b v = record { types = record { kinds = (Int ∷ Nothing ∷ []); records = []; signatures = [] }; modules = (record { name = []; objects = []; variables = (0 ∷ 0 ∷ []); body = 1 } ∷ []); procedures = (record { «module» = 0; line = 1; is_body = false; formals = []; result = 0; locals = []; texts = []; body = []; answer = (Some (record { form = (Chain' b (Load (Whole (Global 0 1) Int)) (vec1 v) (more_of-Link (Operate Add (Load (Whole (Global 0 0) Int))) end_of-Link)); kind = Int })) } ∷ record { «module» = 0; line = 1; is_body = true; formals = []; result = 1; locals = []; texts = []; body = ((Assign (Whole (Global 0 1) Int) (record { form = (Literal 2); kind = Int })) ∷ (For' b (Whole (Global 0 0) Int) (record { form = (Literal 1); kind = Int }) (record { form = (Call' b (Direct' 0 (vec0 v) end_of-Argument)); kind = Int }) (pos 1) (vec2 v) (more_of-Stmt (Assign (Whole (Global 0 1) Int) (record { form = (Literal 0); kind = Int })) (more_of-Stmt (OutInt (record { form = (Load (Whole (Global 0 0) Int)); kind = Int }) (record { form = (Literal 0); kind = Int })) end_of-Stmt))) ∷ []); answer = None } ∷ []); imports_in = false }

abbrev forlimit_procs : List Proc
forlimit_procs = ((proc ((block [] ((op (GlobalOp 16) [] (Some 0)) ∷ (op LoadOp (0 ∷ []) (Some 1)) ∷ (op (GlobalOp 8) [] (Some 2)) ∷ (op LoadOp (2 ∷ []) (Some 3)) ∷ (op AddOp (1 ∷ 3 ∷ []) (Some 4)) ∷ []) (Return (Some 4)) 1048576 None) ∷ []) 5 0 true 0 0) ∷ (proc ((block [] ((op (GlobalOp 16) [] (Some 0)) ∷ (op (ConstOp 2) [] (Some 1)) ∷ (op StoreOp (0 ∷ 1 ∷ []) None) ∷ (op (GlobalOp 8) [] (Some 2)) ∷ (op (ConstOp 1) [] (Some 3)) ∷ (op StoreOp (2 ∷ 3 ∷ []) None) ∷ (op (CallOp 0) [] (Some 4)) ∷ []) (Jump 1 []) 1048576 None) ∷ (block [] ((op (GlobalOp 8) [] (Some 5)) ∷ (op LoadOp (5 ∷ []) (Some 6)) ∷ []) (Branch 13 6 4 2 3) 8388608 (Some 0)) ∷ (block [] ((op (GlobalOp 16) [] (Some 7)) ∷ (op (ConstOp 0) [] (Some 8)) ∷ (op StoreOp (7 ∷ 8 ∷ []) None) ∷ (op (GlobalOp 8) [] (Some 9)) ∷ (op LoadOp (9 ∷ []) (Some 10)) ∷ (op (ConstOp 0) [] (Some 11)) ∷ (op (SvcOp 2) (10 ∷ 11 ∷ []) None) ∷ (op (GlobalOp 8) [] (Some 12)) ∷ (op (GlobalOp 8) [] (Some 13)) ∷ (op LoadOp (13 ∷ []) (Some 14)) ∷ (op (ConstOp 1) [] (Some 15)) ∷ (op AddOp (14 ∷ 15 ∷ []) (Some 16)) ∷ (op StoreOp (12 ∷ 16 ∷ []) None) ∷ []) (Jump 1 []) 8388608 None) ∷ (block [] [] (Return None) 1048576 None) ∷ []) 17 0 false 0 0) ∷ [])

pub forlimit_low : (b : Box (Unit {0}) Heap) (v : Vec (Unit {0}) Heap) → lowered (forlimit b v) ≡ forlimit_procs
unfolding data_tree record_row fields_before
forlimit_low b v = refl

-- MODULE T; IMPORT Out; VAR a: ARRAY 8 OF CHAR; b: ARRAY 2 OF CHAR; BEGIN IF a = b THEN Out.Char(''='') END; b[0] := ''x''; b[1] := ''y''; IF b > ''xx'' THEN Out.Char(''>'') END; IF b < ''xyz'' THEN Out.Char(''<'') END; IF ''ab'' # ''ab'' THEN Out.Char(''#'') END END T.
abbrev texts : Outside Program
texts b v = record { types = record { kinds = (Char ∷ (Array (Some 8) 0) ∷ (Array (Some 2) 0) ∷ Nothing ∷ []); records = []; signatures = [] }; modules = (record { name = []; objects = []; variables = (1 ∷ 2 ∷ []); body = 0 } ∷ []); procedures = (record { «module» = 0; line = 1; is_body = true; formals = []; result = 3; locals = []; texts = ((120 ∷ 120 ∷ []) ∷ (120 ∷ 121 ∷ 122 ∷ []) ∷ (97 ∷ 98 ∷ []) ∷ (97 ∷ 98 ∷ []) ∷ []); body = ((If' (vec1 v) (more_of-Branch (record { form = (CompareTexts' Equal b (Whole (Global 0 0) (Array (Some 8) 0)) b (Whole (Global 0 1) (Array (Some 2) 0))); kind = BoolKind }) (vec1 v) (more_of-Stmt (OutChar (record { form = (Literal 61); kind = Char })) end_of-Stmt) end_of-Branch) (vec0 v) end_of-Stmt) ∷ (Assign (Part' b (Global 0 1) Char (vec1 v) (more_of-Selector (Index (Some 2) 0 (Literal 0)) end_of-Selector)) (record { form = (Literal 120); kind = Char })) ∷ (Assign (Part' b (Global 0 1) Char (vec1 v) (more_of-Selector (Index (Some 2) 0 (Literal 1)) end_of-Selector)) (record { form = (Literal 121); kind = Char })) ∷ (If' (vec1 v) (more_of-Branch (record { form = (CompareTexts' Greater b (Whole (Global 0 1) (Array (Some 2) 0)) b (Whole (Text 0) (TextKind 2))); kind = BoolKind }) (vec1 v) (more_of-Stmt (OutChar (record { form = (Literal 62); kind = Char })) end_of-Stmt) end_of-Branch) (vec0 v) end_of-Stmt) ∷ (If' (vec1 v) (more_of-Branch (record { form = (CompareTexts' Less b (Whole (Global 0 1) (Array (Some 2) 0)) b (Whole (Text 1) (TextKind 3))); kind = BoolKind }) (vec1 v) (more_of-Stmt (OutChar (record { form = (Literal 60); kind = Char })) end_of-Stmt) end_of-Branch) (vec0 v) end_of-Stmt) ∷ (If' (vec1 v) (more_of-Branch (record { form = (CompareTexts' Unequal b (Whole (Text 2) (TextKind 2)) b (Whole (Text 3) (TextKind 2))); kind = BoolKind }) (vec1 v) (more_of-Stmt (OutChar (record { form = (Literal 35); kind = Char })) end_of-Stmt) end_of-Branch) (vec0 v) end_of-Stmt) ∷ []); answer = None } ∷ []); imports_in = false }

abbrev texts_procs : List Proc
texts_procs = ((proc ((block [] ((op (GlobalOp 8) [] (Some 0)) ∷ (op (ConstOp 8) [] (Some 1)) ∷ (op (GlobalOp 16) [] (Some 2)) ∷ (op (ConstOp 2) [] (Some 3)) ∷ (op CompareOp (0 ∷ 1 ∷ 2 ∷ 3 ∷ []) (Some 4)) ∷ (op (ConstOp 0) [] (Some 5)) ∷ (op (SetOp 0) (4 ∷ 5 ∷ []) (Some 6)) ∷ []) (Nonzero 6 1 2) 1048576 None) ∷ (block [] ((op (ConstOp 61) [] (Some 7)) ∷ (op (SvcOp 1) (7 ∷ []) None) ∷ []) (Jump 3 []) 524288 None) ∷ (block [] [] (Jump 3 []) 524288 None) ∷ (block [] ((op (GlobalOp 16) [] (Some 8)) ∷ (op (ConstOp 0) [] (Some 9)) ∷ (op (ConstOp 2) [] (Some 10)) ∷ (op BelowOp (9 ∷ 10 ∷ []) None) ∷ (op (ConstOp 1) [] (Some 11)) ∷ (op MulAddOp (9 ∷ 11 ∷ 8 ∷ []) (Some 12)) ∷ (op (ConstOp 120) [] (Some 13)) ∷ (op StoreByteOp (12 ∷ 13 ∷ []) None) ∷ (op (GlobalOp 16) [] (Some 14)) ∷ (op (ConstOp 1) [] (Some 15)) ∷ (op (ConstOp 2) [] (Some 16)) ∷ (op BelowOp (15 ∷ 16 ∷ []) None) ∷ (op (ConstOp 1) [] (Some 17)) ∷ (op MulAddOp (15 ∷ 17 ∷ 14 ∷ []) (Some 18)) ∷ (op (ConstOp 121) [] (Some 19)) ∷ (op StoreByteOp (18 ∷ 19 ∷ []) None) ∷ (op (GlobalOp 16) [] (Some 20)) ∷ (op (ConstOp 2) [] (Some 21)) ∷ (op (GlobalOp 24) [] (Some 22)) ∷ (op (ConstOp 3) [] (Some 23)) ∷ (op CompareOp (20 ∷ 21 ∷ 22 ∷ 23 ∷ []) (Some 24)) ∷ (op (ConstOp 0) [] (Some 25)) ∷ (op (SetOp 12) (24 ∷ 25 ∷ []) (Some 26)) ∷ []) (Nonzero 26 4 5) 1048576 None) ∷ (block [] ((op (ConstOp 62) [] (Some 27)) ∷ (op (SvcOp 1) (27 ∷ []) None) ∷ []) (Jump 6 []) 524288 None) ∷ (block [] [] (Jump 6 []) 524288 None) ∷ (block [] ((op (GlobalOp 16) [] (Some 28)) ∷ (op (ConstOp 2) [] (Some 29)) ∷ (op (GlobalOp 32) [] (Some 30)) ∷ (op (ConstOp 4) [] (Some 31)) ∷ (op CompareOp (28 ∷ 29 ∷ 30 ∷ 31 ∷ []) (Some 32)) ∷ (op (ConstOp 0) [] (Some 33)) ∷ (op (SetOp 11) (32 ∷ 33 ∷ []) (Some 34)) ∷ []) (Nonzero 34 7 8) 1048576 None) ∷ (block [] ((op (ConstOp 60) [] (Some 35)) ∷ (op (SvcOp 1) (35 ∷ []) None) ∷ []) (Jump 9 []) 524288 None) ∷ (block [] [] (Jump 9 []) 524288 None) ∷ (block [] ((op (GlobalOp 40) [] (Some 36)) ∷ (op (ConstOp 3) [] (Some 37)) ∷ (op (GlobalOp 48) [] (Some 38)) ∷ (op (ConstOp 3) [] (Some 39)) ∷ (op CompareOp (36 ∷ 37 ∷ 38 ∷ 39 ∷ []) (Some 40)) ∷ (op (ConstOp 0) [] (Some 41)) ∷ (op (SetOp 1) (40 ∷ 41 ∷ []) (Some 42)) ∷ []) (Nonzero 42 10 11) 1048576 None) ∷ (block [] ((op (ConstOp 35) [] (Some 43)) ∷ (op (SvcOp 1) (43 ∷ []) None) ∷ []) (Jump 12 []) 524288 None) ∷ (block [] [] (Jump 12 []) 524288 None) ∷ (block [] [] (Return None) 1048576 None) ∷ []) 44 0 false 0 0) ∷ [])

pub texts_low : (b : Box (Unit {0}) Heap) (v : Vec (Unit {0}) Heap) → lowered (texts b v) ≡ texts_procs
unfolding data_tree record_row fields_before
texts_low b v = refl

pub texts_constants : (b : Box (Unit {0}) Heap) (v : Vec (Unit {0}) Heap) → constants (texts b v) (packed (texts b v).types) 268435456 ≡ (120 ∷ 120 ∷ 0 ∷ 0 ∷ 0 ∷ 0 ∷ 0 ∷ 0 ∷ 120 ∷ 121 ∷ 122 ∷ 0 ∷ 0 ∷ 0 ∷ 0 ∷ 0 ∷ 97 ∷ 98 ∷ 0 ∷ 0 ∷ 0 ∷ 0 ∷ 0 ∷ 0 ∷ 97 ∷ 98 ∷ 0 ∷ 0 ∷ 0 ∷ 0 ∷ 0 ∷ 0 ∷ [])
unfolding data_tree record_row fields_before
texts_constants b v = refl

-- MODULE T; IMPORT Out; TYPE B = RECORD x: INTEGER END; E = RECORD (B) y: INTEGER END; PE = POINTER TO E; VAR b: B; e: E; p: PE; PROCEDURE Kind(VAR r: B); BEGIN CASE r OF E: Out.Char(''E''); r.y := 5; r.x := 6 | B: Out.Char(''B'') END; IF r IS E THEN Out.Int(r(E).y, 0) END END Kind; PROCEDURE Pass(VAR r: B); BEGIN Kind(r) END Pass; BEGIN Kind(b); Kind(e); Pass(e); NEW(p); Pass(p^); Out.Int(p.x, 0); Pass(b) END T.
abbrev tags : Outside Program
tags b v = record { types = record { kinds = ((RecordKind 0) ∷ (RecordKind 1) ∷ (PointerKind 1) ∷ Nothing ∷ Int ∷ []); records = (record { «module» = 0; base = None; level = 0; fields = (record { name = []; exported = false; type_number = 4 } ∷ []); cells = 1; extent = record { bytes = 8; wide = true } } ∷ record { «module» = 0; base = (Some 0); level = 1; fields = (record { name = []; exported = false; type_number = 4 } ∷ []); cells = 2; extent = record { bytes = 16; wide = true } } ∷ []); signatures = [] }; modules = (record { name = []; objects = []; variables = (0 ∷ 1 ∷ 2 ∷ []); body = 2 } ∷ []); procedures = (record { «module» = 0; line = 1; is_body = false; formals = (record { mode = OfRecord; variable = true; type_number = 0 } ∷ []); result = 3; locals = []; texts = []; body = ((CaseParameter' (Whole (Parameter 0) (RecordKind 0)) (vec2 v) (more_of-TypePart 1 (vec3 v) (more_of-Stmt (OutChar (record { form = (Literal 69); kind = Char })) (more_of-Stmt (Assign (Part' b (Parameter 0) Int (vec2 v) (more_of-Selector (Narrow 1) (more_of-Selector (Field 1 0) end_of-Selector))) (record { form = (Literal 5); kind = Int })) (more_of-Stmt (Assign (Part' b (Parameter 0) Int (vec2 v) (more_of-Selector (Narrow 1) (more_of-Selector (Field 0 0) end_of-Selector))) (record { form = (Literal 6); kind = Int })) end_of-Stmt))) (more_of-TypePart 0 (vec1 v) (more_of-Stmt (OutChar (record { form = (Literal 66); kind = Char })) end_of-Stmt) end_of-TypePart))) ∷ (If' (vec1 v) (more_of-Branch (record { form = (IsParameter (Whole (Parameter 0) (RecordKind 0)) 1); kind = BoolKind }) (vec1 v) (more_of-Stmt (OutInt (record { form = (Load (Part' b (Parameter 0) Int (vec2 v) (more_of-Selector (Narrow 1) (more_of-Selector (Field 1 0) end_of-Selector)))); kind = Int }) (record { form = (Literal 0); kind = Int })) end_of-Stmt) end_of-Branch) (vec0 v) end_of-Stmt) ∷ []); answer = None } ∷ record { «module» = 0; line = 1; is_body = false; formals = (record { mode = OfRecord; variable = true; type_number = 0 } ∷ []); result = 3; locals = []; texts = []; body = ((Invoke (Direct' 0 (vec1 v) (more_of-Argument (ByRecord (Whole (Parameter 0) (RecordKind 0))) end_of-Argument))) ∷ []); answer = None } ∷ record { «module» = 0; line = 1; is_body = true; formals = []; result = 3; locals = []; texts = []; body = ((Invoke (Direct' 0 (vec1 v) (more_of-Argument (ByRecord (Whole (Global 0 0) (RecordKind 0))) end_of-Argument))) ∷ (Invoke (Direct' 0 (vec1 v) (more_of-Argument (ByRecord (Whole (Global 0 1) (RecordKind 1))) end_of-Argument))) ∷ (Invoke (Direct' 1 (vec1 v) (more_of-Argument (ByRecord (Whole (Global 0 1) (RecordKind 1))) end_of-Argument))) ∷ (New (Whole (Global 0 2) (PointerKind 1))) ∷ (Invoke (Direct' 1 (vec1 v) (more_of-Argument (ByRecord (Part' b (Global 0 2) (RecordKind 1) (vec1 v) (more_of-Selector (Dereference []) end_of-Selector))) end_of-Argument))) ∷ (OutInt (record { form = (Load (Part' b (Global 0 2) Int (vec2 v) (more_of-Selector (Dereference []) (more_of-Selector (Field 0 0) end_of-Selector)))); kind = Int }) (record { form = (Literal 0); kind = Int })) ∷ (Invoke (Direct' 1 (vec1 v) (more_of-Argument (ByRecord (Whole (Global 0 0) (RecordKind 0))) end_of-Argument))) ∷ []); answer = None } ∷ []); imports_in = false }

abbrev tags_procs : List Proc
tags_procs = ((proc ((block (0 ∷ 1 ∷ []) ((op (GlobalOp 168) [] (Some 2)) ∷ (op (IsTagOp 1) (1 ∷ 2 ∷ []) (Some 3)) ∷ []) (Nonzero 3 3 1) 1048576 None) ∷ (block [] ((op (GlobalOp 40) [] (Some 4)) ∷ (op (IsTagOp 0) (1 ∷ 4 ∷ []) (Some 5)) ∷ []) (Nonzero 5 4 2) 1048576 None) ∷ (block [] [] (Jump 5 []) 524288 None) ∷ (block [] ((op (ConstOp 69) [] (Some 6)) ∷ (op (SvcOp 1) (6 ∷ []) None) ∷ (op (GlobalOp 168) [] (Some 7)) ∷ (op (GuardTagOp 1) (1 ∷ 7 ∷ []) None) ∷ (op (PlusOp 8) (0 ∷ []) (Some 8)) ∷ (op (ConstOp 5) [] (Some 9)) ∷ (op StoreOp (8 ∷ 9 ∷ []) None) ∷ (op (GlobalOp 168) [] (Some 10)) ∷ (op (GuardTagOp 1) (1 ∷ 10 ∷ []) None) ∷ (op (ConstOp 6) [] (Some 11)) ∷ (op StoreOp (0 ∷ 11 ∷ []) None) ∷ []) (Jump 5 []) 524288 None) ∷ (block [] ((op (ConstOp 66) [] (Some 12)) ∷ (op (SvcOp 1) (12 ∷ []) None) ∷ []) (Jump 5 []) 524288 None) ∷ (block [] ((op (GlobalOp 168) [] (Some 13)) ∷ (op (IsTagOp 1) (1 ∷ 13 ∷ []) (Some 14)) ∷ []) (Nonzero 14 6 7) 1048576 None) ∷ (block [] ((op (GlobalOp 168) [] (Some 15)) ∷ (op (GuardTagOp 1) (1 ∷ 15 ∷ []) None) ∷ (op (PlusOp 8) (0 ∷ []) (Some 16)) ∷ (op LoadOp (16 ∷ []) (Some 17)) ∷ (op (ConstOp 0) [] (Some 18)) ∷ (op (SvcOp 2) (17 ∷ 18 ∷ []) None) ∷ []) (Jump 8 []) 524288 None) ∷ (block [] [] (Jump 8 []) 524288 None) ∷ (block [] [] (Return None) 1048576 None) ∷ []) 19 2 true 0 0) ∷ (proc ((block (0 ∷ 1 ∷ []) ((op (CallOp 0) (0 ∷ 1 ∷ []) None) ∷ []) (Return None) 1048576 None) ∷ []) 2 2 true 0 0) ∷ (proc ((block [] ((op (GlobalOp 8) [] (Some 0)) ∷ (op (GlobalOp 40) [] (Some 1)) ∷ (op (CallOp 0) (0 ∷ 1 ∷ []) None) ∷ (op (GlobalOp 16) [] (Some 2)) ∷ (op (GlobalOp 168) [] (Some 3)) ∷ (op (CallOp 0) (2 ∷ 3 ∷ []) None) ∷ (op (GlobalOp 16) [] (Some 4)) ∷ (op (GlobalOp 168) [] (Some 5)) ∷ (op (CallOp 1) (4 ∷ 5 ∷ []) None) ∷ (op (GlobalOp 32) [] (Some 6)) ∷ (op (ConstOp 3) [] (Some 7)) ∷ (op (ConstOp 24) [] (Some 8)) ∷ (op (GlobalOp 168) [] (Some 9)) ∷ (op NewOp (7 ∷ 8 ∷ 9 ∷ []) (Some 10)) ∷ (op StoreOp (6 ∷ 10 ∷ []) None) ∷ (op (GlobalOp 32) [] (Some 11)) ∷ (op LoadOp (11 ∷ []) (Some 12)) ∷ (op NotNilOp (12 ∷ []) None) ∷ (op (PlusOp 8) (12 ∷ []) (Some 13)) ∷ (op LoadOp (12 ∷ []) (Some 14)) ∷ (op (CallOp 1) (13 ∷ 14 ∷ []) None) ∷ (op (GlobalOp 32) [] (Some 15)) ∷ (op LoadOp (15 ∷ []) (Some 16)) ∷ (op NotNilOp (16 ∷ []) None) ∷ (op (PlusOp 8) (16 ∷ []) (Some 17)) ∷ (op LoadOp (17 ∷ []) (Some 18)) ∷ (op (ConstOp 0) [] (Some 19)) ∷ (op (SvcOp 2) (18 ∷ 19 ∷ []) None) ∷ (op (GlobalOp 8) [] (Some 20)) ∷ (op (GlobalOp 40) [] (Some 21)) ∷ (op (CallOp 1) (20 ∷ 21 ∷ []) None) ∷ []) (Return None) 1048576 None) ∷ []) 22 0 false 0 0) ∷ [])

pub tags_low : (b : Box (Unit {0}) Heap) (v : Vec (Unit {0}) Heap) → lowered (tags b v) ≡ tags_procs
unfolding data_tree record_row fields_before
tags_low b v = refl

pub tags_constants : (b : Box (Unit {0}) Heap) (v : Vec (Unit {0}) Heap) → constants (tags b v) (packed (tags b v).types) 268435456 ≡ (40 ∷ 0 ∷ 0 ∷ 16 ∷ 0 ∷ 0 ∷ 0 ∷ 0 ∷ 0 ∷ 0 ∷ 0 ∷ 0 ∷ 0 ∷ 0 ∷ 0 ∷ 0 ∷ 0 ∷ 0 ∷ 0 ∷ 0 ∷ 0 ∷ 0 ∷ 0 ∷ 0 ∷ 0 ∷ 0 ∷ 0 ∷ 0 ∷ 0 ∷ 0 ∷ 0 ∷ 0 ∷ 0 ∷ 0 ∷ 0 ∷ 0 ∷ 0 ∷ 0 ∷ 0 ∷ 0 ∷ 0 ∷ 0 ∷ 0 ∷ 0 ∷ 0 ∷ 0 ∷ 0 ∷ 0 ∷ 0 ∷ 0 ∷ 0 ∷ 0 ∷ 0 ∷ 0 ∷ 0 ∷ 0 ∷ 0 ∷ 0 ∷ 0 ∷ 0 ∷ 0 ∷ 0 ∷ 0 ∷ 0 ∷ 0 ∷ 0 ∷ 0 ∷ 0 ∷ 0 ∷ 0 ∷ 0 ∷ 0 ∷ 0 ∷ 0 ∷ 0 ∷ 0 ∷ 0 ∷ 0 ∷ 0 ∷ 0 ∷ 0 ∷ 0 ∷ 0 ∷ 0 ∷ 0 ∷ 0 ∷ 0 ∷ 0 ∷ 0 ∷ 0 ∷ 0 ∷ 0 ∷ 0 ∷ 0 ∷ 0 ∷ 0 ∷ 0 ∷ 0 ∷ 0 ∷ 0 ∷ 0 ∷ 0 ∷ 0 ∷ 0 ∷ 0 ∷ 0 ∷ 0 ∷ 0 ∷ 0 ∷ 0 ∷ 0 ∷ 0 ∷ 0 ∷ 0 ∷ 0 ∷ 0 ∷ 0 ∷ 0 ∷ 0 ∷ 0 ∷ 0 ∷ 0 ∷ 0 ∷ 0 ∷ 0 ∷ 0 ∷ 0 ∷ 0 ∷ 40 ∷ 0 ∷ 0 ∷ 16 ∷ 0 ∷ 0 ∷ 0 ∷ 0 ∷ 168 ∷ 0 ∷ 0 ∷ 16 ∷ 0 ∷ 0 ∷ 0 ∷ 0 ∷ 0 ∷ 0 ∷ 0 ∷ 0 ∷ 0 ∷ 0 ∷ 0 ∷ 0 ∷ 0 ∷ 0 ∷ 0 ∷ 0 ∷ 0 ∷ 0 ∷ 0 ∷ 0 ∷ 0 ∷ 0 ∷ 0 ∷ 0 ∷ 0 ∷ 0 ∷ 0 ∷ 0 ∷ 0 ∷ 0 ∷ 0 ∷ 0 ∷ 0 ∷ 0 ∷ 0 ∷ 0 ∷ 0 ∷ 0 ∷ 0 ∷ 0 ∷ 0 ∷ 0 ∷ 0 ∷ 0 ∷ 0 ∷ 0 ∷ 0 ∷ 0 ∷ 0 ∷ 0 ∷ 0 ∷ 0 ∷ 0 ∷ 0 ∷ 0 ∷ 0 ∷ 0 ∷ 0 ∷ 0 ∷ 0 ∷ 0 ∷ 0 ∷ 0 ∷ 0 ∷ 0 ∷ 0 ∷ 0 ∷ 0 ∷ 0 ∷ 0 ∷ 0 ∷ 0 ∷ 0 ∷ 0 ∷ 0 ∷ 0 ∷ 0 ∷ 0 ∷ 0 ∷ 0 ∷ 0 ∷ 0 ∷ 0 ∷ 0 ∷ 0 ∷ 0 ∷ 0 ∷ 0 ∷ 0 ∷ 0 ∷ 0 ∷ 0 ∷ 0 ∷ 0 ∷ 0 ∷ 0 ∷ 0 ∷ 0 ∷ 0 ∷ 0 ∷ 0 ∷ 0 ∷ 0 ∷ 0 ∷ 0 ∷ 0 ∷ 0 ∷ 0 ∷ 0 ∷ 0 ∷ 0 ∷ 0 ∷ 0 ∷ 0 ∷ 0 ∷ 0 ∷ [])
unfolding data_tree record_row fields_before
tags_constants b v = refl

-- MODULE T; TYPE B = RECORD x: INTEGER END; E = RECORD (B) y: INTEGER END; VAR b: B; PROCEDURE Kind(VAR r: B); BEGIN r(E).y := 5 END Kind; BEGIN Kind(b) END T.
abbrev tagguard : Outside Program
tagguard b v = record { types = record { kinds = ((RecordKind 0) ∷ (RecordKind 1) ∷ Nothing ∷ Int ∷ []); records = (record { «module» = 0; base = None; level = 0; fields = (record { name = []; exported = false; type_number = 3 } ∷ []); cells = 1; extent = record { bytes = 8; wide = true } } ∷ record { «module» = 0; base = (Some 0); level = 1; fields = (record { name = []; exported = false; type_number = 3 } ∷ []); cells = 2; extent = record { bytes = 16; wide = true } } ∷ []); signatures = [] }; modules = (record { name = []; objects = []; variables = (0 ∷ []); body = 1 } ∷ []); procedures = (record { «module» = 0; line = 1; is_body = false; formals = (record { mode = OfRecord; variable = true; type_number = 0 } ∷ []); result = 2; locals = []; texts = []; body = ((Assign (Part' b (Parameter 0) Int (vec2 v) (more_of-Selector (Narrow 1) (more_of-Selector (Field 1 0) end_of-Selector))) (record { form = (Literal 5); kind = Int })) ∷ []); answer = None } ∷ record { «module» = 0; line = 1; is_body = true; formals = []; result = 2; locals = []; texts = []; body = ((Invoke (Direct' 0 (vec1 v) (more_of-Argument (ByRecord (Whole (Global 0 0) (RecordKind 0))) end_of-Argument))) ∷ []); answer = None } ∷ []); imports_in = false }

abbrev tagguard_procs : List Proc
tagguard_procs = ((proc ((block (0 ∷ 1 ∷ []) ((op (GlobalOp 144) [] (Some 2)) ∷ (op (GuardTagOp 1) (1 ∷ 2 ∷ []) None) ∷ (op (PlusOp 8) (0 ∷ []) (Some 3)) ∷ (op (ConstOp 5) [] (Some 4)) ∷ (op StoreOp (3 ∷ 4 ∷ []) None) ∷ []) (Return None) 1048576 None) ∷ []) 5 2 true 0 0) ∷ (proc ((block [] ((op (GlobalOp 8) [] (Some 0)) ∷ (op (GlobalOp 16) [] (Some 1)) ∷ (op (CallOp 0) (0 ∷ 1 ∷ []) None) ∷ []) (Return None) 1048576 None) ∷ []) 2 0 false 0 0) ∷ [])

pub tagguard_low : (b : Box (Unit {0}) Heap) (v : Vec (Unit {0}) Heap) → lowered (tagguard b v) ≡ tagguard_procs
unfolding data_tree record_row fields_before
tagguard_low b v = refl

pub tagguard_constants : (b : Box (Unit {0}) Heap) (v : Vec (Unit {0}) Heap) → constants (tagguard b v) (packed (tagguard b v).types) 268435456 ≡ (16 ∷ 0 ∷ 0 ∷ 16 ∷ 0 ∷ 0 ∷ 0 ∷ 0 ∷ 0 ∷ 0 ∷ 0 ∷ 0 ∷ 0 ∷ 0 ∷ 0 ∷ 0 ∷ 0 ∷ 0 ∷ 0 ∷ 0 ∷ 0 ∷ 0 ∷ 0 ∷ 0 ∷ 0 ∷ 0 ∷ 0 ∷ 0 ∷ 0 ∷ 0 ∷ 0 ∷ 0 ∷ 0 ∷ 0 ∷ 0 ∷ 0 ∷ 0 ∷ 0 ∷ 0 ∷ 0 ∷ 0 ∷ 0 ∷ 0 ∷ 0 ∷ 0 ∷ 0 ∷ 0 ∷ 0 ∷ 0 ∷ 0 ∷ 0 ∷ 0 ∷ 0 ∷ 0 ∷ 0 ∷ 0 ∷ 0 ∷ 0 ∷ 0 ∷ 0 ∷ 0 ∷ 0 ∷ 0 ∷ 0 ∷ 0 ∷ 0 ∷ 0 ∷ 0 ∷ 0 ∷ 0 ∷ 0 ∷ 0 ∷ 0 ∷ 0 ∷ 0 ∷ 0 ∷ 0 ∷ 0 ∷ 0 ∷ 0 ∷ 0 ∷ 0 ∷ 0 ∷ 0 ∷ 0 ∷ 0 ∷ 0 ∷ 0 ∷ 0 ∷ 0 ∷ 0 ∷ 0 ∷ 0 ∷ 0 ∷ 0 ∷ 0 ∷ 0 ∷ 0 ∷ 0 ∷ 0 ∷ 0 ∷ 0 ∷ 0 ∷ 0 ∷ 0 ∷ 0 ∷ 0 ∷ 0 ∷ 0 ∷ 0 ∷ 0 ∷ 0 ∷ 0 ∷ 0 ∷ 0 ∷ 0 ∷ 0 ∷ 0 ∷ 0 ∷ 0 ∷ 0 ∷ 0 ∷ 0 ∷ 0 ∷ 0 ∷ 0 ∷ 0 ∷ 0 ∷ 16 ∷ 0 ∷ 0 ∷ 16 ∷ 0 ∷ 0 ∷ 0 ∷ 0 ∷ 144 ∷ 0 ∷ 0 ∷ 16 ∷ 0 ∷ 0 ∷ 0 ∷ 0 ∷ 0 ∷ 0 ∷ 0 ∷ 0 ∷ 0 ∷ 0 ∷ 0 ∷ 0 ∷ 0 ∷ 0 ∷ 0 ∷ 0 ∷ 0 ∷ 0 ∷ 0 ∷ 0 ∷ 0 ∷ 0 ∷ 0 ∷ 0 ∷ 0 ∷ 0 ∷ 0 ∷ 0 ∷ 0 ∷ 0 ∷ 0 ∷ 0 ∷ 0 ∷ 0 ∷ 0 ∷ 0 ∷ 0 ∷ 0 ∷ 0 ∷ 0 ∷ 0 ∷ 0 ∷ 0 ∷ 0 ∷ 0 ∷ 0 ∷ 0 ∷ 0 ∷ 0 ∷ 0 ∷ 0 ∷ 0 ∷ 0 ∷ 0 ∷ 0 ∷ 0 ∷ 0 ∷ 0 ∷ 0 ∷ 0 ∷ 0 ∷ 0 ∷ 0 ∷ 0 ∷ 0 ∷ 0 ∷ 0 ∷ 0 ∷ 0 ∷ 0 ∷ 0 ∷ 0 ∷ 0 ∷ 0 ∷ 0 ∷ 0 ∷ 0 ∷ 0 ∷ 0 ∷ 0 ∷ 0 ∷ 0 ∷ 0 ∷ 0 ∷ 0 ∷ 0 ∷ 0 ∷ 0 ∷ 0 ∷ 0 ∷ 0 ∷ 0 ∷ 0 ∷ 0 ∷ 0 ∷ 0 ∷ 0 ∷ 0 ∷ 0 ∷ 0 ∷ 0 ∷ 0 ∷ 0 ∷ 0 ∷ 0 ∷ 0 ∷ 0 ∷ 0 ∷ 0 ∷ 0 ∷ 0 ∷ 0 ∷ 0 ∷ 0 ∷ 0 ∷ 0 ∷ [])
unfolding data_tree record_row fields_before
tagguard_constants b v = refl

-- MODULE P; IMPORT Out; TYPE B = POINTER TO RB; RB = RECORD x: INTEGER END; E = POINTER TO RE; RE = RECORD (RB) y: INTEGER; next: B END; VAR p: B; e: E; PROCEDURE Show(q: B); BEGIN CASE q OF E: Out.Char(''E''); q.y := 3; Show(q.next) | B: Out.Char(''B'') END END Show; BEGIN Show(p); NEW(e); e.next := e; NEW(e.next); Show(e); p := e; Out.Int(p(E).y, 0); IF p = e THEN Out.Char(''!'') END; e := NIL; p := e.next END P.
abbrev pointercase : Outside Program
pointercase b v = record { types = record { kinds = ((RecordKind 0) ∷ (RecordKind 1) ∷ (PointerKind 0) ∷ (PointerKind 1) ∷ Nothing ∷ Int ∷ []); records = (record { «module» = 0; base = None; level = 0; fields = (record { name = []; exported = false; type_number = 5 } ∷ []); cells = 1; extent = record { bytes = 8; wide = true } } ∷ record { «module» = 0; base = (Some 0); level = 1; fields = (record { name = []; exported = false; type_number = 5 } ∷ record { name = []; exported = false; type_number = 2 } ∷ []); cells = 3; extent = record { bytes = 24; wide = true } } ∷ []); signatures = [] }; modules = (record { name = []; objects = []; variables = (2 ∷ 3 ∷ []); body = 1 } ∷ []); procedures = (record { «module» = 0; line = 1; is_body = false; formals = (record { mode = OfValue; variable = false; type_number = 2 } ∷ []); result = 4; locals = []; texts = []; body = ((CasePointer' (record { form = (Load (Whole (Local 0) (PointerKind 0))); kind = (PointerKind 0) }) (vec2 v) (more_of-TypePart 1 (vec3 v) (more_of-Stmt (OutChar (record { form = (Literal 69); kind = Char })) (more_of-Stmt (Assign (Part' b (Local 0) Int (vec2 v) (more_of-Selector (Dereference (1 ∷ [])) (more_of-Selector (Field 1 0) end_of-Selector))) (record { form = (Literal 3); kind = Int })) (more_of-Stmt (Invoke (Direct' 0 (vec1 v) (more_of-Argument (ByValue (Load (Part' b (Local 0) (PointerKind 0) (vec2 v) (more_of-Selector (Dereference (1 ∷ [])) (more_of-Selector (Field 1 1) end_of-Selector))))) end_of-Argument))) end_of-Stmt))) (more_of-TypePart 0 (vec1 v) (more_of-Stmt (OutChar (record { form = (Literal 66); kind = Char })) end_of-Stmt) end_of-TypePart))) ∷ []); answer = None } ∷ record { «module» = 0; line = 1; is_body = true; formals = []; result = 4; locals = []; texts = []; body = ((Invoke (Direct' 0 (vec1 v) (more_of-Argument (ByValue (Load (Whole (Global 0 0) (PointerKind 0)))) end_of-Argument))) ∷ (New (Whole (Global 0 1) (PointerKind 1))) ∷ (Assign (Part' b (Global 0 1) (PointerKind 0) (vec2 v) (more_of-Selector (Dereference []) (more_of-Selector (Field 1 1) end_of-Selector))) (record { form = (Load (Whole (Global 0 1) (PointerKind 1))); kind = (PointerKind 1) })) ∷ (New (Part' b (Global 0 1) (PointerKind 0) (vec2 v) (more_of-Selector (Dereference []) (more_of-Selector (Field 1 1) end_of-Selector)))) ∷ (Invoke (Direct' 0 (vec1 v) (more_of-Argument (ByValue (Load (Whole (Global 0 1) (PointerKind 1)))) end_of-Argument))) ∷ (Assign (Whole (Global 0 0) (PointerKind 0)) (record { form = (Load (Whole (Global 0 1) (PointerKind 1))); kind = (PointerKind 1) })) ∷ (OutInt (record { form = (Load (Part' b (Global 0 0) Int (vec2 v) (more_of-Selector (Dereference (1 ∷ [])) (more_of-Selector (Field 1 0) end_of-Selector)))); kind = Int }) (record { form = (Literal 0); kind = Int })) ∷ (If' (vec1 v) (more_of-Branch (record { form = (Compare' Equal b (Load (Whole (Global 0 0) (PointerKind 0))) b (Load (Whole (Global 0 1) (PointerKind 1)))); kind = BoolKind }) (vec1 v) (more_of-Stmt (OutChar (record { form = (Literal 33); kind = Char })) end_of-Stmt) end_of-Branch) (vec0 v) end_of-Stmt) ∷ (Assign (Whole (Global 0 1) (PointerKind 1)) (record { form = (Literal 0); kind = Nil })) ∷ (Assign (Whole (Global 0 0) (PointerKind 0)) (record { form = (Load (Part' b (Global 0 1) (PointerKind 0) (vec2 v) (more_of-Selector (Dereference []) (more_of-Selector (Field 1 1) end_of-Selector)))); kind = (PointerKind 0) })) ∷ []); answer = None } ∷ []); imports_in = false }

abbrev pointercase_procs : List Proc
pointercase_procs = ((proc ((block (0 ∷ []) ((op (GlobalOp 152) [] (Some 1)) ∷ (op (IsPtrOp 1) (0 ∷ 1 ∷ []) (Some 2)) ∷ []) (Nonzero 2 3 1) 1048576 None) ∷ (block [] ((op (GlobalOp 24) [] (Some 3)) ∷ (op (IsPtrOp 0) (0 ∷ 3 ∷ []) (Some 4)) ∷ []) (Nonzero 4 4 2) 1048576 None) ∷ (block [] [] (Jump 5 []) 524288 None) ∷ (block [] ((op (ConstOp 69) [] (Some 5)) ∷ (op (SvcOp 1) (5 ∷ []) None) ∷ (op (GlobalOp 152) [] (Some 6)) ∷ (op (GuardPtrOp 1) (0 ∷ 6 ∷ []) None) ∷ (op NotNilOp (0 ∷ []) None) ∷ (op (PlusOp 16) (0 ∷ []) (Some 7)) ∷ (op (ConstOp 3) [] (Some 8)) ∷ (op StoreOp (7 ∷ 8 ∷ []) None) ∷ (op (GlobalOp 152) [] (Some 9)) ∷ (op (GuardPtrOp 1) (0 ∷ 9 ∷ []) None) ∷ (op NotNilOp (0 ∷ []) None) ∷ (op (PlusOp 24) (0 ∷ []) (Some 10)) ∷ (op LoadOp (10 ∷ []) (Some 11)) ∷ (op (CallOp 0) (11 ∷ []) None) ∷ []) (Jump 5 []) 524288 None) ∷ (block [] ((op (ConstOp 66) [] (Some 12)) ∷ (op (SvcOp 1) (12 ∷ []) None) ∷ []) (Jump 5 []) 524288 None) ∷ (block [] [] (Return None) 1048576 None) ∷ []) 13 1 true 1 0) ∷ (proc ((block [] ((op (GlobalOp 8) [] (Some 0)) ∷ (op LoadOp (0 ∷ []) (Some 1)) ∷ (op (CallOp 0) (1 ∷ []) None) ∷ (op (GlobalOp 16) [] (Some 2)) ∷ (op (ConstOp 4) [] (Some 3)) ∷ (op (ConstOp 32) [] (Some 4)) ∷ (op (GlobalOp 152) [] (Some 5)) ∷ (op NewOp (3 ∷ 4 ∷ 5 ∷ []) (Some 6)) ∷ (op StoreOp (2 ∷ 6 ∷ []) None) ∷ (op (GlobalOp 16) [] (Some 7)) ∷ (op LoadOp (7 ∷ []) (Some 8)) ∷ (op NotNilOp (8 ∷ []) None) ∷ (op (PlusOp 24) (8 ∷ []) (Some 9)) ∷ (op (GlobalOp 16) [] (Some 10)) ∷ (op LoadOp (10 ∷ []) (Some 11)) ∷ (op StoreOp (9 ∷ 11 ∷ []) None) ∷ (op (GlobalOp 16) [] (Some 12)) ∷ (op LoadOp (12 ∷ []) (Some 13)) ∷ (op NotNilOp (13 ∷ []) None) ∷ (op (PlusOp 24) (13 ∷ []) (Some 14)) ∷ (op (ConstOp 2) [] (Some 15)) ∷ (op (ConstOp 16) [] (Some 16)) ∷ (op (GlobalOp 24) [] (Some 17)) ∷ (op NewOp (15 ∷ 16 ∷ 17 ∷ []) (Some 18)) ∷ (op StoreOp (14 ∷ 18 ∷ []) None) ∷ (op (GlobalOp 16) [] (Some 19)) ∷ (op LoadOp (19 ∷ []) (Some 20)) ∷ (op (CallOp 0) (20 ∷ []) None) ∷ (op (GlobalOp 8) [] (Some 21)) ∷ (op (GlobalOp 16) [] (Some 22)) ∷ (op LoadOp (22 ∷ []) (Some 23)) ∷ (op StoreOp (21 ∷ 23 ∷ []) None) ∷ (op (GlobalOp 8) [] (Some 24)) ∷ (op LoadOp (24 ∷ []) (Some 25)) ∷ (op (GlobalOp 152) [] (Some 26)) ∷ (op (GuardPtrOp 1) (25 ∷ 26 ∷ []) None) ∷ (op NotNilOp (25 ∷ []) None) ∷ (op (PlusOp 16) (25 ∷ []) (Some 27)) ∷ (op LoadOp (27 ∷ []) (Some 28)) ∷ (op (ConstOp 0) [] (Some 29)) ∷ (op (SvcOp 2) (28 ∷ 29 ∷ []) None) ∷ (op (GlobalOp 8) [] (Some 30)) ∷ (op LoadOp (30 ∷ []) (Some 31)) ∷ (op (GlobalOp 16) [] (Some 32)) ∷ (op LoadOp (32 ∷ []) (Some 33)) ∷ []) (Branch 0 31 33 1 2) 1048576 None) ∷ (block [] ((op (ConstOp 33) [] (Some 34)) ∷ (op (SvcOp 1) (34 ∷ []) None) ∷ []) (Jump 3 []) 524288 None) ∷ (block [] [] (Jump 3 []) 524288 None) ∷ (block [] ((op (GlobalOp 16) [] (Some 35)) ∷ (op (ConstOp 0) [] (Some 36)) ∷ (op StoreOp (35 ∷ 36 ∷ []) None) ∷ (op (GlobalOp 8) [] (Some 37)) ∷ (op (GlobalOp 16) [] (Some 38)) ∷ (op LoadOp (38 ∷ []) (Some 39)) ∷ (op NotNilOp (39 ∷ []) None) ∷ (op (PlusOp 24) (39 ∷ []) (Some 40)) ∷ (op LoadOp (40 ∷ []) (Some 41)) ∷ (op StoreOp (37 ∷ 41 ∷ []) None) ∷ []) (Return None) 1048576 None) ∷ []) 42 0 false 0 0) ∷ [])

pub pointercase_low : (b : Box (Unit {0}) Heap) (v : Vec (Unit {0}) Heap) → lowered (pointercase b v) ≡ pointercase_procs
unfolding data_tree record_row fields_before
pointercase_low b v = refl

pub pointercase_constants : (b : Box (Unit {0}) Heap) (v : Vec (Unit {0}) Heap) → constants (pointercase b v) (packed (pointercase b v).types) 268435456 ≡ (24 ∷ 0 ∷ 0 ∷ 16 ∷ 0 ∷ 0 ∷ 0 ∷ 0 ∷ 0 ∷ 0 ∷ 0 ∷ 0 ∷ 0 ∷ 0 ∷ 0 ∷ 0 ∷ 0 ∷ 0 ∷ 0 ∷ 0 ∷ 0 ∷ 0 ∷ 0 ∷ 0 ∷ 0 ∷ 0 ∷ 0 ∷ 0 ∷ 0 ∷ 0 ∷ 0 ∷ 0 ∷ 0 ∷ 0 ∷ 0 ∷ 0 ∷ 0 ∷ 0 ∷ 0 ∷ 0 ∷ 0 ∷ 0 ∷ 0 ∷ 0 ∷ 0 ∷ 0 ∷ 0 ∷ 0 ∷ 0 ∷ 0 ∷ 0 ∷ 0 ∷ 0 ∷ 0 ∷ 0 ∷ 0 ∷ 0 ∷ 0 ∷ 0 ∷ 0 ∷ 0 ∷ 0 ∷ 0 ∷ 0 ∷ 0 ∷ 0 ∷ 0 ∷ 0 ∷ 0 ∷ 0 ∷ 0 ∷ 0 ∷ 0 ∷ 0 ∷ 0 ∷ 0 ∷ 0 ∷ 0 ∷ 0 ∷ 0 ∷ 0 ∷ 0 ∷ 0 ∷ 0 ∷ 0 ∷ 0 ∷ 0 ∷ 0 ∷ 0 ∷ 0 ∷ 0 ∷ 0 ∷ 0 ∷ 0 ∷ 0 ∷ 0 ∷ 0 ∷ 0 ∷ 0 ∷ 0 ∷ 0 ∷ 0 ∷ 0 ∷ 0 ∷ 0 ∷ 0 ∷ 0 ∷ 0 ∷ 0 ∷ 0 ∷ 0 ∷ 0 ∷ 0 ∷ 0 ∷ 0 ∷ 0 ∷ 0 ∷ 0 ∷ 0 ∷ 0 ∷ 0 ∷ 0 ∷ 0 ∷ 0 ∷ 0 ∷ 0 ∷ 0 ∷ 0 ∷ 24 ∷ 0 ∷ 0 ∷ 16 ∷ 0 ∷ 0 ∷ 0 ∷ 0 ∷ 152 ∷ 0 ∷ 0 ∷ 16 ∷ 0 ∷ 0 ∷ 0 ∷ 0 ∷ 0 ∷ 0 ∷ 0 ∷ 0 ∷ 0 ∷ 0 ∷ 0 ∷ 0 ∷ 0 ∷ 0 ∷ 0 ∷ 0 ∷ 0 ∷ 0 ∷ 0 ∷ 0 ∷ 0 ∷ 0 ∷ 0 ∷ 0 ∷ 0 ∷ 0 ∷ 0 ∷ 0 ∷ 0 ∷ 0 ∷ 0 ∷ 0 ∷ 0 ∷ 0 ∷ 0 ∷ 0 ∷ 0 ∷ 0 ∷ 0 ∷ 0 ∷ 0 ∷ 0 ∷ 0 ∷ 0 ∷ 0 ∷ 0 ∷ 0 ∷ 0 ∷ 0 ∷ 0 ∷ 0 ∷ 0 ∷ 0 ∷ 0 ∷ 0 ∷ 0 ∷ 0 ∷ 0 ∷ 0 ∷ 0 ∷ 0 ∷ 0 ∷ 0 ∷ 0 ∷ 0 ∷ 0 ∷ 0 ∷ 0 ∷ 0 ∷ 0 ∷ 0 ∷ 0 ∷ 0 ∷ 0 ∷ 0 ∷ 0 ∷ 0 ∷ 0 ∷ 0 ∷ 0 ∷ 0 ∷ 0 ∷ 0 ∷ 0 ∷ 0 ∷ 0 ∷ 0 ∷ 0 ∷ 0 ∷ 0 ∷ 0 ∷ 0 ∷ 0 ∷ 0 ∷ 0 ∷ 0 ∷ 0 ∷ 0 ∷ 0 ∷ 0 ∷ 0 ∷ 0 ∷ 0 ∷ 0 ∷ 0 ∷ 0 ∷ 0 ∷ 0 ∷ 0 ∷ 0 ∷ 0 ∷ 0 ∷ 0 ∷ 0 ∷ 0 ∷ 0 ∷ [])
unfolding data_tree record_row fields_before
pointercase_constants b v = refl

-- MODULE P; IMPORT Out; TYPE F = PROCEDURE (x: INTEGER): INTEGER; VAR f, g: F; PROCEDURE D(x: INTEGER): INTEGER; BEGIN Out.Int(x, 0) RETURN 2 * x END D; PROCEDURE E(x: INTEGER): INTEGER; BEGIN f := D RETURN f(x) + 1 END E; BEGIN f := E; Out.Int(f(f(4)), 0); IF (f = D) & (g = NIL) THEN Out.Char(''!'') END; Out.Int(g(D(5)), 0) END P.
abbrev procvars : Outside Program
procvars b v = record { types = record { kinds = (Int ∷ (ProcedureKind 0) ∷ Nothing ∷ []); records = []; signatures = (record { formals = (record { mode = OfValue; variable = false; type_number = 0 } ∷ []); result = 0 } ∷ []) }; modules = (record { name = []; objects = []; variables = (1 ∷ 1 ∷ []); body = 2 } ∷ []); procedures = (record { «module» = 0; line = 1; is_body = false; formals = (record { mode = OfValue; variable = false; type_number = 0 } ∷ []); result = 0; locals = []; texts = []; body = ((OutInt (record { form = (Load (Whole (Local 0) Int)); kind = Int }) (record { form = (Literal 0); kind = Int })) ∷ []); answer = (Some (record { form = (Chain' b (Literal 2) (vec1 v) (more_of-Link (Operate Multiply (Load (Whole (Local 0) Int))) end_of-Link)); kind = Int })) } ∷ record { «module» = 0; line = 1; is_body = false; formals = (record { mode = OfValue; variable = false; type_number = 0 } ∷ []); result = 0; locals = []; texts = []; body = ((Assign (Whole (Global 0 0) (ProcedureKind 0)) (record { form = (Routine 0); kind = (ProcedureKind 0) })) ∷ []); answer = (Some (record { form = (Chain' b (Call' b (Indirect' (Whole (Global 0 0) (ProcedureKind 0)) (vec1 v) (more_of-Argument (ByValue (Load (Whole (Local 0) Int))) end_of-Argument))) (vec1 v) (more_of-Link (Operate Add (Literal 1)) end_of-Link)); kind = Int })) } ∷ record { «module» = 0; line = 1; is_body = true; formals = []; result = 2; locals = []; texts = []; body = ((Assign (Whole (Global 0 0) (ProcedureKind 0)) (record { form = (Routine 1); kind = (ProcedureKind 0) })) ∷ (OutInt (record { form = (Call' b (Indirect' (Whole (Global 0 0) (ProcedureKind 0)) (vec1 v) (more_of-Argument (ByValue (Call' b (Indirect' (Whole (Global 0 0) (ProcedureKind 0)) (vec1 v) (more_of-Argument (ByValue (Literal 4)) end_of-Argument)))) end_of-Argument))); kind = Int }) (record { form = (Literal 0); kind = Int })) ∷ (If' (vec1 v) (more_of-Branch (record { form = (Chain' b (Compare' Equal b (Load (Whole (Global 0 0) (ProcedureKind 0))) b (Routine 0)) (vec1 v) (more_of-Link (And (Compare' Equal b (Load (Whole (Global 0 1) (ProcedureKind 0))) b (Literal 0))) end_of-Link)); kind = BoolKind }) (vec1 v) (more_of-Stmt (OutChar (record { form = (Literal 33); kind = Char })) end_of-Stmt) end_of-Branch) (vec0 v) end_of-Stmt) ∷ (OutInt (record { form = (Call' b (Indirect' (Whole (Global 0 1) (ProcedureKind 0)) (vec1 v) (more_of-Argument (ByValue (Call' b (Direct' 0 (vec1 v) (more_of-Argument (ByValue (Literal 5)) end_of-Argument)))) end_of-Argument))); kind = Int }) (record { form = (Literal 0); kind = Int })) ∷ []); answer = None } ∷ []); imports_in = false }

abbrev procvars_procs : List Proc
procvars_procs = ((proc ((block (0 ∷ []) ((op (ConstOp 0) [] (Some 1)) ∷ (op (SvcOp 2) (0 ∷ 1 ∷ []) None) ∷ (op (ConstOp 2) [] (Some 2)) ∷ (op MulOp (2 ∷ 0 ∷ []) (Some 3)) ∷ []) (Return (Some 3)) 1048576 None) ∷ []) 4 1 true 1 0) ∷ (proc ((block (0 ∷ []) ((op (GlobalOp 8) [] (Some 1)) ∷ (op (CodeOp 0) [] (Some 2)) ∷ (op StoreOp (1 ∷ 2 ∷ []) None) ∷ (op (GlobalOp 8) [] (Some 3)) ∷ (op LoadOp (3 ∷ []) (Some 4)) ∷ (op NotNilOp (4 ∷ []) None) ∷ (op CallAtOp (4 ∷ 0 ∷ []) (Some 5)) ∷ (op (ConstOp 1) [] (Some 6)) ∷ (op AddOp (5 ∷ 6 ∷ []) (Some 7)) ∷ []) (Return (Some 7)) 1048576 None) ∷ []) 8 1 true 1 0) ∷ (proc ((block [] ((op (GlobalOp 8) [] (Some 0)) ∷ (op (CodeOp 1) [] (Some 1)) ∷ (op StoreOp (0 ∷ 1 ∷ []) None) ∷ (op (GlobalOp 8) [] (Some 2)) ∷ (op LoadOp (2 ∷ []) (Some 3)) ∷ (op (GlobalOp 8) [] (Some 4)) ∷ (op LoadOp (4 ∷ []) (Some 5)) ∷ (op (ConstOp 4) [] (Some 6)) ∷ (op NotNilOp (5 ∷ []) None) ∷ (op CallAtOp (5 ∷ 6 ∷ []) (Some 7)) ∷ (op NotNilOp (3 ∷ []) None) ∷ (op CallAtOp (3 ∷ 7 ∷ []) (Some 8)) ∷ (op (ConstOp 0) [] (Some 9)) ∷ (op (SvcOp 2) (8 ∷ 9 ∷ []) None) ∷ (op (GlobalOp 8) [] (Some 10)) ∷ (op LoadOp (10 ∷ []) (Some 11)) ∷ (op (CodeOp 0) [] (Some 12)) ∷ []) (Branch 0 11 12 1 3) 1048576 None) ∷ (block [] ((op (GlobalOp 16) [] (Some 13)) ∷ (op LoadOp (13 ∷ []) (Some 14)) ∷ (op (ConstOp 0) [] (Some 15)) ∷ []) (Branch 0 14 15 2 3) 1048576 None) ∷ (block [] ((op (ConstOp 33) [] (Some 16)) ∷ (op (SvcOp 1) (16 ∷ []) None) ∷ []) (Jump 4 []) 524288 None) ∷ (block [] [] (Jump 4 []) 524288 None) ∷ (block [] ((op (GlobalOp 16) [] (Some 17)) ∷ (op LoadOp (17 ∷ []) (Some 18)) ∷ (op (ConstOp 5) [] (Some 19)) ∷ (op (CallOp 0) (19 ∷ []) (Some 20)) ∷ (op NotNilOp (18 ∷ []) None) ∷ (op CallAtOp (18 ∷ 20 ∷ []) (Some 21)) ∷ (op (ConstOp 0) [] (Some 22)) ∷ (op (SvcOp 2) (21 ∷ 22 ∷ []) None) ∷ []) (Return None) 1048576 None) ∷ []) 23 0 false 0 0) ∷ [])

pub procvars_low : (b : Box (Unit {0}) Heap) (v : Vec (Unit {0}) Heap) → lowered (procvars b v) ≡ procvars_procs
unfolding data_tree record_row fields_before
procvars_low b v = refl

-- MODULE S; IMPORT Out; VAR s: SET; i: INTEGER; BEGIN s := {1, 3..5, 7..6}; FOR i := 0 TO 0 DO INCL(s, 63); EXCL(s, 4) END; IF s - {63} = {1, 3, 5} THEN Out.Char(''a'') END; IF {1} <= s THEN Out.Char(''b'') END; IF ~(s >= {2}) THEN Out.Char(''c'') END; Out.Int(ORD(s), 0); s := {0..i, 64 - i * 0} END S.
abbrev setcons : Outside Program
setcons b v = record { types = record { kinds = (SetKind ∷ Int ∷ Nothing ∷ []); records = []; signatures = [] }; modules = (record { name = []; objects = []; variables = (0 ∷ 1 ∷ []); body = 0 } ∷ []); procedures = (record { «module» = 0; line = 1; is_body = true; formals = []; result = 2; locals = []; texts = []; body = ((Assign (Whole (Global 0 0) SetKind) (record { form = (Chain' b (Literal 0) (vec3 v) (more_of-Link (Element (Literal 1)) (more_of-Link (Elements' b (Literal 3) b (Literal 5)) (more_of-Link (Elements' b (Literal 7) b (Literal 6)) end_of-Link)))); kind = SetKind })) ∷ (For' b (Whole (Global 0 1) Int) (record { form = (Literal 0); kind = Int }) (record { form = (Literal 0); kind = Int }) (pos 1) (vec2 v) (more_of-Stmt (Include (Whole (Global 0 0) SetKind) (record { form = (Literal 63); kind = Int })) (more_of-Stmt (Exclude (Whole (Global 0 0) SetKind) (record { form = (Literal 4); kind = Int })) end_of-Stmt))) ∷ (If' (vec1 v) (more_of-Branch (record { form = (Compare' Equal b (Chain' b (Load (Whole (Global 0 0) SetKind)) (vec1 v) (more_of-Link (Operate Difference (Chain' b (Literal 0) (vec1 v) (more_of-Link (Element (Literal 63)) end_of-Link))) end_of-Link)) b (Chain' b (Literal 0) (vec3 v) (more_of-Link (Element (Literal 1)) (more_of-Link (Element (Literal 3)) (more_of-Link (Element (Literal 5)) end_of-Link))))); kind = BoolKind }) (vec1 v) (more_of-Stmt (OutChar (record { form = (Literal 97); kind = Char })) end_of-Stmt) end_of-Branch) (vec0 v) end_of-Stmt) ∷ (If' (vec1 v) (more_of-Branch (record { form = (Chain' b (Literal 0) (vec2 v) (more_of-Link (Element (Literal 1)) (more_of-Link (Operate Subset (Load (Whole (Global 0 0) SetKind))) end_of-Link))); kind = BoolKind }) (vec1 v) (more_of-Stmt (OutChar (record { form = (Literal 98); kind = Char })) end_of-Stmt) end_of-Branch) (vec0 v) end_of-Stmt) ∷ (If' (vec1 v) (more_of-Branch (record { form = (Unary' Not b (Chain' b (Load (Whole (Global 0 0) SetKind)) (vec1 v) (more_of-Link (Operate Superset (Chain' b (Literal 0) (vec1 v) (more_of-Link (Element (Literal 2)) end_of-Link))) end_of-Link))); kind = BoolKind }) (vec1 v) (more_of-Stmt (OutChar (record { form = (Literal 99); kind = Char })) end_of-Stmt) end_of-Branch) (vec0 v) end_of-Stmt) ∷ (OutInt (record { form = (Load (Whole (Global 0 0) SetKind)); kind = Int }) (record { form = (Literal 0); kind = Int })) ∷ (Assign (Whole (Global 0 0) SetKind) (record { form = (Chain' b (Literal 0) (vec2 v) (more_of-Link (Elements' b (Literal 0) b (Load (Whole (Global 0 1) Int))) (more_of-Link (Element (Chain' b (Literal 64) (vec1 v) (more_of-Link (Operate Subtract (Chain' b (Load (Whole (Global 0 1) Int)) (vec1 v) (more_of-Link (Operate Multiply (Literal 0)) end_of-Link))) end_of-Link))) end_of-Link))); kind = SetKind })) ∷ []); answer = None } ∷ []); imports_in = false }

abbrev setcons_procs : List Proc
setcons_procs = ((proc ((block [] ((op (GlobalOp 8) [] (Some 0)) ∷ (op (ConstOp 0) [] (Some 1)) ∷ (op (ConstOp 1) [] (Some 2)) ∷ (op ElemOp (2 ∷ []) None) ∷ (op BitOp (2 ∷ []) (Some 3)) ∷ (op OrOp (1 ∷ 3 ∷ []) (Some 4)) ∷ (op (ConstOp 3) [] (Some 5)) ∷ (op ElemOp (5 ∷ []) None) ∷ (op (ConstOp 5) [] (Some 6)) ∷ (op ElemOp (6 ∷ []) None) ∷ (op SpanOp (5 ∷ 6 ∷ []) (Some 7)) ∷ (op OrOp (4 ∷ 7 ∷ []) (Some 8)) ∷ (op (ConstOp 7) [] (Some 9)) ∷ (op ElemOp (9 ∷ []) None) ∷ (op (ConstOp 6) [] (Some 10)) ∷ (op ElemOp (10 ∷ []) None) ∷ (op SpanOp (9 ∷ 10 ∷ []) (Some 11)) ∷ (op OrOp (8 ∷ 11 ∷ []) (Some 12)) ∷ (op StoreOp (0 ∷ 12 ∷ []) None) ∷ (op (GlobalOp 16) [] (Some 13)) ∷ (op (ConstOp 0) [] (Some 14)) ∷ (op StoreOp (13 ∷ 14 ∷ []) None) ∷ (op (ConstOp 0) [] (Some 15)) ∷ []) (Jump 1 []) 1048576 None) ∷ (block [] ((op (GlobalOp 16) [] (Some 16)) ∷ (op LoadOp (16 ∷ []) (Some 17)) ∷ []) (Branch 13 17 15 2 3) 8388608 (Some 0)) ∷ (block [] ((op (GlobalOp 8) [] (Some 18)) ∷ (op (ConstOp 63) [] (Some 19)) ∷ (op ElemOp (19 ∷ []) None) ∷ (op BitOp (19 ∷ []) (Some 20)) ∷ (op LoadOp (18 ∷ []) (Some 21)) ∷ (op OrOp (21 ∷ 20 ∷ []) (Some 22)) ∷ (op StoreOp (18 ∷ 22 ∷ []) None) ∷ (op (GlobalOp 8) [] (Some 23)) ∷ (op (ConstOp 4) [] (Some 24)) ∷ (op ElemOp (24 ∷ []) None) ∷ (op BitOp (24 ∷ []) (Some 25)) ∷ (op LoadOp (23 ∷ []) (Some 26)) ∷ (op BicOp (26 ∷ 25 ∷ []) (Some 27)) ∷ (op StoreOp (23 ∷ 27 ∷ []) None) ∷ (op (GlobalOp 16) [] (Some 28)) ∷ (op (GlobalOp 16) [] (Some 29)) ∷ (op LoadOp (29 ∷ []) (Some 30)) ∷ (op (ConstOp 1) [] (Some 31)) ∷ (op AddOp (30 ∷ 31 ∷ []) (Some 32)) ∷ (op StoreOp (28 ∷ 32 ∷ []) None) ∷ []) (Jump 1 []) 8388608 None) ∷ (block [] ((op (GlobalOp 8) [] (Some 33)) ∷ (op LoadOp (33 ∷ []) (Some 34)) ∷ (op (ConstOp 0) [] (Some 35)) ∷ (op (ConstOp 63) [] (Some 36)) ∷ (op ElemOp (36 ∷ []) None) ∷ (op BitOp (36 ∷ []) (Some 37)) ∷ (op OrOp (35 ∷ 37 ∷ []) (Some 38)) ∷ (op BicOp (34 ∷ 38 ∷ []) (Some 39)) ∷ (op (ConstOp 0) [] (Some 40)) ∷ (op (ConstOp 1) [] (Some 41)) ∷ (op ElemOp (41 ∷ []) None) ∷ (op BitOp (41 ∷ []) (Some 42)) ∷ (op OrOp (40 ∷ 42 ∷ []) (Some 43)) ∷ (op (ConstOp 3) [] (Some 44)) ∷ (op ElemOp (44 ∷ []) None) ∷ (op BitOp (44 ∷ []) (Some 45)) ∷ (op OrOp (43 ∷ 45 ∷ []) (Some 46)) ∷ (op (ConstOp 5) [] (Some 47)) ∷ (op ElemOp (47 ∷ []) None) ∷ (op BitOp (47 ∷ []) (Some 48)) ∷ (op OrOp (46 ∷ 48 ∷ []) (Some 49)) ∷ []) (Branch 0 39 49 4 5) 1048576 None) ∷ (block [] ((op (ConstOp 97) [] (Some 50)) ∷ (op (SvcOp 1) (50 ∷ []) None) ∷ []) (Jump 6 []) 524288 None) ∷ (block [] [] (Jump 6 []) 524288 None) ∷ (block [] ((op (ConstOp 0) [] (Some 51)) ∷ (op (ConstOp 1) [] (Some 52)) ∷ (op ElemOp (52 ∷ []) None) ∷ (op BitOp (52 ∷ []) (Some 53)) ∷ (op OrOp (51 ∷ 53 ∷ []) (Some 54)) ∷ (op (GlobalOp 8) [] (Some 55)) ∷ (op LoadOp (55 ∷ []) (Some 56)) ∷ (op BicOp (54 ∷ 56 ∷ []) (Some 57)) ∷ (op (ConstOp 0) [] (Some 58)) ∷ (op (SetOp 0) (57 ∷ 58 ∷ []) (Some 59)) ∷ []) (Nonzero 59 7 8) 1048576 None) ∷ (block [] ((op (ConstOp 98) [] (Some 60)) ∷ (op (SvcOp 1) (60 ∷ []) None) ∷ []) (Jump 9 []) 524288 None) ∷ (block [] [] (Jump 9 []) 524288 None) ∷ (block [] ((op (GlobalOp 8) [] (Some 61)) ∷ (op LoadOp (61 ∷ []) (Some 62)) ∷ (op (ConstOp 0) [] (Some 63)) ∷ (op (ConstOp 2) [] (Some 64)) ∷ (op ElemOp (64 ∷ []) None) ∷ (op BitOp (64 ∷ []) (Some 65)) ∷ (op OrOp (63 ∷ 65 ∷ []) (Some 66)) ∷ (op BicOp (66 ∷ 62 ∷ []) (Some 67)) ∷ (op (ConstOp 0) [] (Some 68)) ∷ (op (SetOp 0) (67 ∷ 68 ∷ []) (Some 69)) ∷ []) (Nonzero 69 11 10) 1048576 None) ∷ (block [] ((op (ConstOp 99) [] (Some 70)) ∷ (op (SvcOp 1) (70 ∷ []) None) ∷ []) (Jump 12 []) 524288 None) ∷ (block [] [] (Jump 12 []) 524288 None) ∷ (block [] ((op (GlobalOp 8) [] (Some 71)) ∷ (op LoadOp (71 ∷ []) (Some 72)) ∷ (op (ConstOp 0) [] (Some 73)) ∷ (op (SvcOp 2) (72 ∷ 73 ∷ []) None) ∷ (op (GlobalOp 8) [] (Some 74)) ∷ (op (ConstOp 0) [] (Some 75)) ∷ (op (ConstOp 0) [] (Some 76)) ∷ (op ElemOp (76 ∷ []) None) ∷ (op (GlobalOp 16) [] (Some 77)) ∷ (op LoadOp (77 ∷ []) (Some 78)) ∷ (op ElemOp (78 ∷ []) None) ∷ (op SpanOp (76 ∷ 78 ∷ []) (Some 79)) ∷ (op OrOp (75 ∷ 79 ∷ []) (Some 80)) ∷ (op (ConstOp 64) [] (Some 81)) ∷ (op (GlobalOp 16) [] (Some 82)) ∷ (op LoadOp (82 ∷ []) (Some 83)) ∷ (op (ConstOp 0) [] (Some 84)) ∷ (op MulOp (83 ∷ 84 ∷ []) (Some 85)) ∷ (op SubOp (81 ∷ 85 ∷ []) (Some 86)) ∷ (op ElemOp (86 ∷ []) None) ∷ (op BitOp (86 ∷ []) (Some 87)) ∷ (op OrOp (80 ∷ 87 ∷ []) (Some 88)) ∷ (op StoreOp (74 ∷ 88 ∷ []) None) ∷ []) (Return None) 1048576 None) ∷ []) 89 0 false 0 0) ∷ [])

pub setcons_low : (b : Box (Unit {0}) Heap) (v : Vec (Unit {0}) Heap) → lowered (setcons b v) ≡ setcons_procs
unfolding data_tree record_row fields_before
setcons_low b v = refl

-- MODULE O; IMPORT Out; VAR g: INTEGER; a: ARRAY 2 OF INTEGER; PROCEDURE F(): INTEGER; BEGIN g := g + 10 RETURN 1 END F; BEGIN g := 1; INC(g, F()); Out.Int(g, 0); a[g - 12] := F() + g; Out.Int(a[0], 0); IF (g = 0) & (1 DIV (g - g) = 1) OR (g # 0) THEN Out.Char(''k'') END; a[2] := 1 DIV 0 END O.
abbrev order : Outside Program
order b v = record { types = record { kinds = (Int ∷ (Array (Some 2) 0) ∷ Nothing ∷ []); records = []; signatures = [] }; modules = (record { name = []; objects = []; variables = (0 ∷ 1 ∷ []); body = 1 } ∷ []); procedures = (record { «module» = 0; line = 1; is_body = false; formals = []; result = 0; locals = []; texts = []; body = ((Assign (Whole (Global 0 0) Int) (record { form = (Chain' b (Load (Whole (Global 0 0) Int)) (vec1 v) (more_of-Link (Operate Add (Literal 10)) end_of-Link)); kind = Int })) ∷ []); answer = (Some (record { form = (Literal 1); kind = Int })) } ∷ record { «module» = 0; line = 1; is_body = true; formals = []; result = 2; locals = []; texts = []; body = ((Assign (Whole (Global 0 0) Int) (record { form = (Literal 1); kind = Int })) ∷ (Increase (Whole (Global 0 0) Int) (record { form = (Call' b (Direct' 0 (vec0 v) end_of-Argument)); kind = Int })) ∷ (OutInt (record { form = (Load (Whole (Global 0 0) Int)); kind = Int }) (record { form = (Literal 0); kind = Int })) ∷ (Assign (Part' b (Global 0 1) Int (vec1 v) (more_of-Selector (Index (Some 2) 0 (Chain' b (Load (Whole (Global 0 0) Int)) (vec1 v) (more_of-Link (Operate Subtract (Literal 12)) end_of-Link))) end_of-Selector)) (record { form = (Chain' b (Call' b (Direct' 0 (vec0 v) end_of-Argument)) (vec1 v) (more_of-Link (Operate Add (Load (Whole (Global 0 0) Int))) end_of-Link)); kind = Int })) ∷ (OutInt (record { form = (Load (Part' b (Global 0 1) Int (vec1 v) (more_of-Selector (Index (Some 2) 0 (Literal 0)) end_of-Selector))); kind = Int }) (record { form = (Literal 0); kind = Int })) ∷ (If' (vec1 v) (more_of-Branch (record { form = (Chain' b (Compare' Equal b (Load (Whole (Global 0 0) Int)) b (Literal 0)) (vec2 v) (more_of-Link (And (Compare' Equal b (Chain' b (Literal 1) (vec1 v) (more_of-Link (Operate Div (Chain' b (Load (Whole (Global 0 0) Int)) (vec1 v) (more_of-Link (Operate Subtract (Load (Whole (Global 0 0) Int))) end_of-Link))) end_of-Link)) b (Literal 1))) (more_of-Link (Or (Compare' Unequal b (Load (Whole (Global 0 0) Int)) b (Literal 0))) end_of-Link))); kind = BoolKind }) (vec1 v) (more_of-Stmt (OutChar (record { form = (Literal 107); kind = Char })) end_of-Stmt) end_of-Branch) (vec0 v) end_of-Stmt) ∷ (Assign (Part' b (Global 0 1) Int (vec1 v) (more_of-Selector (Index (Some 2) 0 (Literal 2)) end_of-Selector)) (record { form = (Chain' b (Literal 1) (vec1 v) (more_of-Link (Operate Div (Literal 0)) end_of-Link)); kind = Int })) ∷ []); answer = None } ∷ []); imports_in = false }

abbrev order_procs : List Proc
order_procs = ((proc ((block [] ((op (GlobalOp 8) [] (Some 0)) ∷ (op (GlobalOp 8) [] (Some 1)) ∷ (op LoadOp (1 ∷ []) (Some 2)) ∷ (op (ConstOp 10) [] (Some 3)) ∷ (op AddOp (2 ∷ 3 ∷ []) (Some 4)) ∷ (op StoreOp (0 ∷ 4 ∷ []) None) ∷ (op (ConstOp 1) [] (Some 5)) ∷ []) (Return (Some 5)) 1048576 None) ∷ []) 6 0 true 0 0) ∷ (proc ((block [] ((op (GlobalOp 8) [] (Some 0)) ∷ (op (ConstOp 1) [] (Some 1)) ∷ (op StoreOp (0 ∷ 1 ∷ []) None) ∷ (op (GlobalOp 8) [] (Some 2)) ∷ (op (CallOp 0) [] (Some 3)) ∷ (op LoadOp (2 ∷ []) (Some 4)) ∷ (op AddOp (4 ∷ 3 ∷ []) (Some 5)) ∷ (op StoreOp (2 ∷ 5 ∷ []) None) ∷ (op (GlobalOp 8) [] (Some 6)) ∷ (op LoadOp (6 ∷ []) (Some 7)) ∷ (op (ConstOp 0) [] (Some 8)) ∷ (op (SvcOp 2) (7 ∷ 8 ∷ []) None) ∷ (op (GlobalOp 16) [] (Some 9)) ∷ (op (GlobalOp 8) [] (Some 10)) ∷ (op LoadOp (10 ∷ []) (Some 11)) ∷ (op (ConstOp 12) [] (Some 12)) ∷ (op SubOp (11 ∷ 12 ∷ []) (Some 13)) ∷ (op (ConstOp 2) [] (Some 14)) ∷ (op BelowOp (13 ∷ 14 ∷ []) None) ∷ (op (ConstOp 8) [] (Some 15)) ∷ (op MulAddOp (13 ∷ 15 ∷ 9 ∷ []) (Some 16)) ∷ (op (CallOp 0) [] (Some 17)) ∷ (op (GlobalOp 8) [] (Some 18)) ∷ (op LoadOp (18 ∷ []) (Some 19)) ∷ (op AddOp (17 ∷ 19 ∷ []) (Some 20)) ∷ (op StoreOp (16 ∷ 20 ∷ []) None) ∷ (op (GlobalOp 16) [] (Some 21)) ∷ (op (ConstOp 0) [] (Some 22)) ∷ (op (ConstOp 2) [] (Some 23)) ∷ (op BelowOp (22 ∷ 23 ∷ []) None) ∷ (op (ConstOp 8) [] (Some 24)) ∷ (op MulAddOp (22 ∷ 24 ∷ 21 ∷ []) (Some 25)) ∷ (op LoadOp (25 ∷ []) (Some 26)) ∷ (op (ConstOp 0) [] (Some 27)) ∷ (op (SvcOp 2) (26 ∷ 27 ∷ []) None) ∷ (op (GlobalOp 8) [] (Some 28)) ∷ (op LoadOp (28 ∷ []) (Some 29)) ∷ (op (ConstOp 0) [] (Some 30)) ∷ []) (Branch 0 29 30 1 2) 1048576 None) ∷ (block [] ((op (ConstOp 1) [] (Some 31)) ∷ (op (GlobalOp 8) [] (Some 32)) ∷ (op LoadOp (32 ∷ []) (Some 33)) ∷ (op (GlobalOp 8) [] (Some 34)) ∷ (op LoadOp (34 ∷ []) (Some 35)) ∷ (op SubOp (33 ∷ 35 ∷ []) (Some 36)) ∷ (op DivOp (31 ∷ 36 ∷ []) (Some 37)) ∷ (op (ConstOp 1) [] (Some 38)) ∷ []) (Branch 0 37 38 3 2) 1048576 None) ∷ (block [] ((op (GlobalOp 8) [] (Some 39)) ∷ (op LoadOp (39 ∷ []) (Some 40)) ∷ (op (ConstOp 0) [] (Some 41)) ∷ []) (Branch 1 40 41 3 4) 1048576 None) ∷ (block [] ((op (ConstOp 107) [] (Some 42)) ∷ (op (SvcOp 1) (42 ∷ []) None) ∷ []) (Jump 5 []) 524288 None) ∷ (block [] [] (Jump 5 []) 524288 None) ∷ (block [] ((op (GlobalOp 16) [] (Some 43)) ∷ (op (ConstOp 2) [] (Some 44)) ∷ (op (ConstOp 2) [] (Some 45)) ∷ (op BelowOp (44 ∷ 45 ∷ []) None) ∷ (op (ConstOp 8) [] (Some 46)) ∷ (op MulAddOp (44 ∷ 46 ∷ 43 ∷ []) (Some 47)) ∷ (op (ConstOp 1) [] (Some 48)) ∷ (op (ConstOp 0) [] (Some 49)) ∷ (op DivOp (48 ∷ 49 ∷ []) (Some 50)) ∷ (op StoreOp (47 ∷ 50 ∷ []) None) ∷ []) (Return None) 1048576 None) ∷ []) 51 0 false 0 0) ∷ [])

pub order_low : (b : Box (Unit {0}) Heap) (v : Vec (Unit {0}) Heap) → lowered (order b v) ≡ order_procs
unfolding data_tree record_row fields_before
order_low b v = refl

-- MODULE B; IMPORT Out; VAR b: BYTE; BEGIN b := 254; INC(b); Out.Int(b, 0); INC(b) END B.
abbrev byteinc : Outside Program
byteinc b v = record { types = record { kinds = (ByteKind ∷ Nothing ∷ []); records = []; signatures = [] }; modules = (record { name = []; objects = []; variables = (0 ∷ []); body = 0 } ∷ []); procedures = (record { «module» = 0; line = 1; is_body = true; formals = []; result = 1; locals = []; texts = []; body = ((Assign (Whole (Global 0 0) ByteKind) (record { form = (Byte' b (Literal 254)); kind = ByteKind })) ∷ (Increase (Whole (Global 0 0) ByteKind) (record { form = (Literal 1); kind = Int })) ∷ (OutInt (record { form = (Load (Whole (Global 0 0) ByteKind)); kind = ByteKind }) (record { form = (Literal 0); kind = Int })) ∷ (Increase (Whole (Global 0 0) ByteKind) (record { form = (Literal 1); kind = Int })) ∷ []); answer = None } ∷ []); imports_in = false }

abbrev byteinc_procs : List Proc
byteinc_procs = ((proc ((block [] ((op (GlobalOp 8) [] (Some 0)) ∷ (op (ConstOp 254) [] (Some 1)) ∷ (op ByteOp (1 ∷ []) None) ∷ (op StoreByteOp (0 ∷ 1 ∷ []) None) ∷ (op (GlobalOp 8) [] (Some 2)) ∷ (op (ConstOp 1) [] (Some 3)) ∷ (op LoadByteOp (2 ∷ []) (Some 4)) ∷ (op AddOp (4 ∷ 3 ∷ []) (Some 5)) ∷ (op ByteOp (5 ∷ []) None) ∷ (op StoreByteOp (2 ∷ 5 ∷ []) None) ∷ (op (GlobalOp 8) [] (Some 6)) ∷ (op LoadByteOp (6 ∷ []) (Some 7)) ∷ (op (ConstOp 0) [] (Some 8)) ∷ (op (SvcOp 2) (7 ∷ 8 ∷ []) None) ∷ (op (GlobalOp 8) [] (Some 9)) ∷ (op (ConstOp 1) [] (Some 10)) ∷ (op LoadByteOp (9 ∷ []) (Some 11)) ∷ (op AddOp (11 ∷ 10 ∷ []) (Some 12)) ∷ (op ByteOp (12 ∷ []) None) ∷ (op StoreByteOp (9 ∷ 12 ∷ []) None) ∷ []) (Return None) 1048576 None) ∷ []) 13 0 false 0 0) ∷ [])

pub byteinc_low : (b : Box (Unit {0}) Heap) (v : Vec (Unit {0}) Heap) → lowered (byteinc b v) ≡ byteinc_procs
unfolding data_tree record_row fields_before
byteinc_low b v = refl

-- MODULE R; IMPORT Out; TYPE N = POINTER TO R; R = RECORD v: INTEGER; l, r: N END; VAR t: N; PROCEDURE Add(VAR t: N; v: INTEGER); BEGIN IF t = NIL THEN NEW(t); t.v := v ELSIF v < t.v THEN Add(t.l, v) ELSE Add(t.r, v) END END Add; PROCEDURE Walk(t: N); BEGIN IF t # NIL THEN Walk(t.l); Out.Int(t.v, 2); Walk(t.r) END END Walk; BEGIN Add(t, 5); Add(t, 2); Add(t, 8); Add(t, 6); Walk(t) END R.
abbrev recdeep : Outside Program
recdeep b v = record { types = record { kinds = ((RecordKind 0) ∷ (PointerKind 0) ∷ Int ∷ Nothing ∷ []); records = (record { «module» = 0; base = None; level = 0; fields = (record { name = []; exported = false; type_number = 2 } ∷ record { name = []; exported = false; type_number = 1 } ∷ record { name = []; exported = false; type_number = 1 } ∷ []); cells = 3; extent = record { bytes = 24; wide = true } } ∷ []); signatures = [] }; modules = (record { name = []; objects = []; variables = (1 ∷ []); body = 2 } ∷ []); procedures = (record { «module» = 0; line = 1; is_body = false; formals = (record { mode = Place; variable = true; type_number = 1 } ∷ record { mode = OfValue; variable = false; type_number = 2 } ∷ []); result = 3; locals = []; texts = []; body = ((If' (vec2 v) (more_of-Branch (record { form = (Compare' Equal b (Load (Whole (Parameter 0) (PointerKind 0))) b (Literal 0)); kind = BoolKind }) (vec2 v) (more_of-Stmt (New (Whole (Parameter 0) (PointerKind 0))) (more_of-Stmt (Assign (Part' b (Parameter 0) Int (vec2 v) (more_of-Selector (Dereference []) (more_of-Selector (Field 0 0) end_of-Selector))) (record { form = (Load (Whole (Local 0) Int)); kind = Int })) end_of-Stmt)) (more_of-Branch (record { form = (Compare' Less b (Load (Whole (Local 0) Int)) b (Load (Part' b (Parameter 0) Int (vec2 v) (more_of-Selector (Dereference []) (more_of-Selector (Field 0 0) end_of-Selector))))); kind = BoolKind }) (vec1 v) (more_of-Stmt (Invoke (Direct' 0 (vec2 v) (more_of-Argument (ByPlace (Part' b (Parameter 0) (PointerKind 0) (vec2 v) (more_of-Selector (Dereference []) (more_of-Selector (Field 0 1) end_of-Selector)))) (more_of-Argument (ByValue (Load (Whole (Local 0) Int))) end_of-Argument)))) end_of-Stmt) end_of-Branch)) (vec1 v) (more_of-Stmt (Invoke (Direct' 0 (vec2 v) (more_of-Argument (ByPlace (Part' b (Parameter 0) (PointerKind 0) (vec2 v) (more_of-Selector (Dereference []) (more_of-Selector (Field 0 2) end_of-Selector)))) (more_of-Argument (ByValue (Load (Whole (Local 0) Int))) end_of-Argument)))) end_of-Stmt)) ∷ []); answer = None } ∷ record { «module» = 0; line = 1; is_body = false; formals = (record { mode = OfValue; variable = false; type_number = 1 } ∷ []); result = 3; locals = []; texts = []; body = ((If' (vec1 v) (more_of-Branch (record { form = (Compare' Unequal b (Load (Whole (Local 0) (PointerKind 0))) b (Literal 0)); kind = BoolKind }) (vec3 v) (more_of-Stmt (Invoke (Direct' 1 (vec1 v) (more_of-Argument (ByValue (Load (Part' b (Local 0) (PointerKind 0) (vec2 v) (more_of-Selector (Dereference []) (more_of-Selector (Field 0 1) end_of-Selector))))) end_of-Argument))) (more_of-Stmt (OutInt (record { form = (Load (Part' b (Local 0) Int (vec2 v) (more_of-Selector (Dereference []) (more_of-Selector (Field 0 0) end_of-Selector)))); kind = Int }) (record { form = (Literal 2); kind = Int })) (more_of-Stmt (Invoke (Direct' 1 (vec1 v) (more_of-Argument (ByValue (Load (Part' b (Local 0) (PointerKind 0) (vec2 v) (more_of-Selector (Dereference []) (more_of-Selector (Field 0 2) end_of-Selector))))) end_of-Argument))) end_of-Stmt))) end_of-Branch) (vec0 v) end_of-Stmt) ∷ []); answer = None } ∷ record { «module» = 0; line = 1; is_body = true; formals = []; result = 3; locals = []; texts = []; body = ((Invoke (Direct' 0 (vec2 v) (more_of-Argument (ByPlace (Whole (Global 0 0) (PointerKind 0))) (more_of-Argument (ByValue (Literal 5)) end_of-Argument)))) ∷ (Invoke (Direct' 0 (vec2 v) (more_of-Argument (ByPlace (Whole (Global 0 0) (PointerKind 0))) (more_of-Argument (ByValue (Literal 2)) end_of-Argument)))) ∷ (Invoke (Direct' 0 (vec2 v) (more_of-Argument (ByPlace (Whole (Global 0 0) (PointerKind 0))) (more_of-Argument (ByValue (Literal 8)) end_of-Argument)))) ∷ (Invoke (Direct' 0 (vec2 v) (more_of-Argument (ByPlace (Whole (Global 0 0) (PointerKind 0))) (more_of-Argument (ByValue (Literal 6)) end_of-Argument)))) ∷ (Invoke (Direct' 1 (vec1 v) (more_of-Argument (ByValue (Load (Whole (Global 0 0) (PointerKind 0)))) end_of-Argument))) ∷ []); answer = None } ∷ []); imports_in = false }

abbrev recdeep_procs : List Proc
recdeep_procs = ((proc ((block (0 ∷ 1 ∷ []) ((op LoadOp (0 ∷ []) (Some 2)) ∷ (op (ConstOp 0) [] (Some 3)) ∷ []) (Branch 0 2 3 1 2) 1048576 None) ∷ (block [] ((op (ConstOp 4) [] (Some 4)) ∷ (op (ConstOp 32) [] (Some 5)) ∷ (op (GlobalOp 16) [] (Some 6)) ∷ (op NewOp (4 ∷ 5 ∷ 6 ∷ []) (Some 7)) ∷ (op StoreOp (0 ∷ 7 ∷ []) None) ∷ (op LoadOp (0 ∷ []) (Some 8)) ∷ (op NotNilOp (8 ∷ []) None) ∷ (op (PlusOp 8) (8 ∷ []) (Some 9)) ∷ (op StoreOp (9 ∷ 1 ∷ []) None) ∷ []) (Jump 6 []) 524288 None) ∷ (block [] ((op LoadOp (0 ∷ []) (Some 10)) ∷ (op NotNilOp (10 ∷ []) None) ∷ (op (PlusOp 8) (10 ∷ []) (Some 11)) ∷ (op LoadOp (11 ∷ []) (Some 12)) ∷ []) (Branch 11 1 12 3 4) 524288 None) ∷ (block [] ((op LoadOp (0 ∷ []) (Some 13)) ∷ (op NotNilOp (13 ∷ []) None) ∷ (op (PlusOp 16) (13 ∷ []) (Some 14)) ∷ (op (CallOp 0) (14 ∷ 1 ∷ []) None) ∷ []) (Jump 5 []) 262144 None) ∷ (block [] ((op LoadOp (0 ∷ []) (Some 15)) ∷ (op NotNilOp (15 ∷ []) None) ∷ (op (PlusOp 24) (15 ∷ []) (Some 16)) ∷ (op (CallOp 0) (16 ∷ 1 ∷ []) None) ∷ []) (Jump 5 []) 262144 None) ∷ (block [] [] (Jump 6 []) 524288 None) ∷ (block [] [] (Return None) 1048576 None) ∷ []) 17 2 true 1 0) ∷ (proc ((block (0 ∷ []) ((op (ConstOp 0) [] (Some 1)) ∷ []) (Branch 1 0 1 1 2) 1048576 None) ∷ (block [] ((op NotNilOp (0 ∷ []) None) ∷ (op (PlusOp 16) (0 ∷ []) (Some 2)) ∷ (op LoadOp (2 ∷ []) (Some 3)) ∷ (op (CallOp 1) (3 ∷ []) None) ∷ (op NotNilOp (0 ∷ []) None) ∷ (op (PlusOp 8) (0 ∷ []) (Some 4)) ∷ (op LoadOp (4 ∷ []) (Some 5)) ∷ (op (ConstOp 2) [] (Some 6)) ∷ (op (SvcOp 2) (5 ∷ 6 ∷ []) None) ∷ (op NotNilOp (0 ∷ []) None) ∷ (op (PlusOp 24) (0 ∷ []) (Some 7)) ∷ (op LoadOp (7 ∷ []) (Some 8)) ∷ (op (CallOp 1) (8 ∷ []) None) ∷ []) (Jump 3 []) 524288 None) ∷ (block [] [] (Jump 3 []) 524288 None) ∷ (block [] [] (Return None) 1048576 None) ∷ []) 9 1 true 1 0) ∷ (proc ((block [] ((op (GlobalOp 8) [] (Some 0)) ∷ (op (ConstOp 5) [] (Some 1)) ∷ (op (CallOp 0) (0 ∷ 1 ∷ []) None) ∷ (op (GlobalOp 8) [] (Some 2)) ∷ (op (ConstOp 2) [] (Some 3)) ∷ (op (CallOp 0) (2 ∷ 3 ∷ []) None) ∷ (op (GlobalOp 8) [] (Some 4)) ∷ (op (ConstOp 8) [] (Some 5)) ∷ (op (CallOp 0) (4 ∷ 5 ∷ []) None) ∷ (op (GlobalOp 8) [] (Some 6)) ∷ (op (ConstOp 6) [] (Some 7)) ∷ (op (CallOp 0) (6 ∷ 7 ∷ []) None) ∷ (op (GlobalOp 8) [] (Some 8)) ∷ (op LoadOp (8 ∷ []) (Some 9)) ∷ (op (CallOp 1) (9 ∷ []) None) ∷ []) (Return None) 1048576 None) ∷ []) 10 0 false 0 0) ∷ [])

pub recdeep_low : (b : Box (Unit {0}) Heap) (v : Vec (Unit {0}) Heap) → lowered (recdeep b v) ≡ recdeep_procs
unfolding data_tree record_row fields_before
recdeep_low b v = refl

pub recdeep_constants : (b : Box (Unit {0}) Heap) (v : Vec (Unit {0}) Heap) → constants (recdeep b v) (packed (recdeep b v).types) 268435456 ≡ (16 ∷ 0 ∷ 0 ∷ 16 ∷ 0 ∷ 0 ∷ 0 ∷ 0 ∷ 0 ∷ 0 ∷ 0 ∷ 0 ∷ 0 ∷ 0 ∷ 0 ∷ 0 ∷ 0 ∷ 0 ∷ 0 ∷ 0 ∷ 0 ∷ 0 ∷ 0 ∷ 0 ∷ 0 ∷ 0 ∷ 0 ∷ 0 ∷ 0 ∷ 0 ∷ 0 ∷ 0 ∷ 0 ∷ 0 ∷ 0 ∷ 0 ∷ 0 ∷ 0 ∷ 0 ∷ 0 ∷ 0 ∷ 0 ∷ 0 ∷ 0 ∷ 0 ∷ 0 ∷ 0 ∷ 0 ∷ 0 ∷ 0 ∷ 0 ∷ 0 ∷ 0 ∷ 0 ∷ 0 ∷ 0 ∷ 0 ∷ 0 ∷ 0 ∷ 0 ∷ 0 ∷ 0 ∷ 0 ∷ 0 ∷ 0 ∷ 0 ∷ 0 ∷ 0 ∷ 0 ∷ 0 ∷ 0 ∷ 0 ∷ 0 ∷ 0 ∷ 0 ∷ 0 ∷ 0 ∷ 0 ∷ 0 ∷ 0 ∷ 0 ∷ 0 ∷ 0 ∷ 0 ∷ 0 ∷ 0 ∷ 0 ∷ 0 ∷ 0 ∷ 0 ∷ 0 ∷ 0 ∷ 0 ∷ 0 ∷ 0 ∷ 0 ∷ 0 ∷ 0 ∷ 0 ∷ 0 ∷ 0 ∷ 0 ∷ 0 ∷ 0 ∷ 0 ∷ 0 ∷ 0 ∷ 0 ∷ 0 ∷ 0 ∷ 0 ∷ 0 ∷ 0 ∷ 0 ∷ 0 ∷ 0 ∷ 0 ∷ 0 ∷ 0 ∷ 0 ∷ 0 ∷ 0 ∷ 0 ∷ 0 ∷ 0 ∷ 0 ∷ 0 ∷ 0 ∷ [])
unfolding data_tree record_row fields_before
recdeep_constants b v = refl

-- MODULE Z; IMPORT Out; PROCEDURE P; VAR i: INTEGER; a: ARRAY 3 OF CHAR; BEGIN Out.Char(''p''); a[i] := ''q''; Out.String(a) END P; BEGIN Out.Char(''(''); P; Out.Char('')'') END Z.
abbrev localzero : Outside Program
localzero b v = record { types = record { kinds = (Char ∷ Nothing ∷ Int ∷ (Array (Some 3) 0) ∷ []); records = []; signatures = [] }; modules = (record { name = []; objects = []; variables = []; body = 1 } ∷ []); procedures = (record { «module» = 0; line = 1; is_body = false; formals = []; result = 1; locals = (2 ∷ 3 ∷ []); texts = []; body = ((OutChar (record { form = (Literal 112); kind = Char })) ∷ (Assign (Part' b (Local 1) Char (vec1 v) (more_of-Selector (Index (Some 3) 0 (Load (Whole (Local 0) Int))) end_of-Selector)) (record { form = (Literal 113); kind = Char })) ∷ (OutString (Whole (Local 1) (Array (Some 3) 0))) ∷ []); answer = None } ∷ record { «module» = 0; line = 1; is_body = true; formals = []; result = 1; locals = []; texts = []; body = ((OutChar (record { form = (Literal 40); kind = Char })) ∷ (Invoke (Direct' 0 (vec0 v) end_of-Argument)) ∷ (OutChar (record { form = (Literal 41); kind = Char })) ∷ []); answer = None } ∷ []); imports_in = false }

abbrev localzero_procs : List Proc
localzero_procs = ((proc ((block [] ((op (LocalOp 8) [] (Some 0)) ∷ (op (ConstOp 8) [] (Some 1)) ∷ (op ZeroOp (0 ∷ 1 ∷ []) None) ∷ (op (ConstOp 0) [] (Some 2)) ∷ (op (ConstOp 112) [] (Some 3)) ∷ (op (SvcOp 1) (3 ∷ []) None) ∷ (op (LocalOp 8) [] (Some 4)) ∷ (op (ConstOp 3) [] (Some 5)) ∷ (op BelowOp (2 ∷ 5 ∷ []) None) ∷ (op (ConstOp 1) [] (Some 6)) ∷ (op MulAddOp (2 ∷ 6 ∷ 4 ∷ []) (Some 7)) ∷ (op (ConstOp 113) [] (Some 8)) ∷ (op StoreByteOp (7 ∷ 8 ∷ []) None) ∷ (op (LocalOp 8) [] (Some 9)) ∷ (op (ConstOp 3) [] (Some 10)) ∷ (op (ConstOp 1) [] (Some 11)) ∷ (op (SvcOp 3) (9 ∷ 10 ∷ 11 ∷ []) None) ∷ []) (Return None) 1048576 None) ∷ []) 12 0 true 4 8) ∷ (proc ((block [] ((op (ConstOp 40) [] (Some 0)) ∷ (op (SvcOp 1) (0 ∷ []) None) ∷ (op (CallOp 0) [] None) ∷ (op (ConstOp 41) [] (Some 1)) ∷ (op (SvcOp 1) (1 ∷ []) None) ∷ []) (Return None) 1048576 None) ∷ []) 2 0 false 0 0) ∷ [])

pub localzero_low : (b : Box (Unit {0}) Heap) (v : Vec (Unit {0}) Heap) → lowered (localzero b v) ≡ localzero_procs
unfolding data_tree record_row fields_before
localzero_low b v = refl

-- MODULE R; IMPORT Out; VAR i: INTEGER; BEGIN REPEAT INC(i); IF i = 2 THEN Out.Char(''2'') ELSIF i = 3 THEN Out.Char(''3'') ELSE Out.Char(''-'') END UNTIL i = 4 END R.
abbrev repeats : Outside Program
repeats b v = record { types = record { kinds = (Int ∷ Nothing ∷ []); records = []; signatures = [] }; modules = (record { name = []; objects = []; variables = (0 ∷ []); body = 0 } ∷ []); procedures = (record { «module» = 0; line = 1; is_body = true; formals = []; result = 1; locals = []; texts = []; body = ((Repeat' (vec2 v) (more_of-Stmt (Increase (Whole (Global 0 0) Int) (record { form = (Literal 1); kind = Int })) (more_of-Stmt (If' (vec2 v) (more_of-Branch (record { form = (Compare' Equal b (Load (Whole (Global 0 0) Int)) b (Literal 2)); kind = BoolKind }) (vec1 v) (more_of-Stmt (OutChar (record { form = (Literal 50); kind = Char })) end_of-Stmt) (more_of-Branch (record { form = (Compare' Equal b (Load (Whole (Global 0 0) Int)) b (Literal 3)); kind = BoolKind }) (vec1 v) (more_of-Stmt (OutChar (record { form = (Literal 51); kind = Char })) end_of-Stmt) end_of-Branch)) (vec1 v) (more_of-Stmt (OutChar (record { form = (Literal 45); kind = Char })) end_of-Stmt)) end_of-Stmt)) (record { form = (Compare' Equal b (Load (Whole (Global 0 0) Int)) b (Literal 4)); kind = BoolKind })) ∷ []); answer = None } ∷ []); imports_in = false }

abbrev repeats_procs : List Proc
repeats_procs = ((proc ((block [] [] (Jump 1 []) 1048576 None) ∷ (block [] ((op (GlobalOp 8) [] (Some 0)) ∷ (op (ConstOp 1) [] (Some 1)) ∷ (op LoadOp (0 ∷ []) (Some 2)) ∷ (op AddOp (2 ∷ 1 ∷ []) (Some 3)) ∷ (op StoreOp (0 ∷ 3 ∷ []) None) ∷ (op (GlobalOp 8) [] (Some 4)) ∷ (op LoadOp (4 ∷ []) (Some 5)) ∷ (op (ConstOp 2) [] (Some 6)) ∷ []) (Branch 0 5 6 2 3) 8388608 (Some 0)) ∷ (block [] ((op (ConstOp 50) [] (Some 7)) ∷ (op (SvcOp 1) (7 ∷ []) None) ∷ []) (Jump 7 []) 4194304 None) ∷ (block [] ((op (GlobalOp 8) [] (Some 8)) ∷ (op LoadOp (8 ∷ []) (Some 9)) ∷ (op (ConstOp 3) [] (Some 10)) ∷ []) (Branch 0 9 10 4 5) 4194304 None) ∷ (block [] ((op (ConstOp 51) [] (Some 11)) ∷ (op (SvcOp 1) (11 ∷ []) None) ∷ []) (Jump 6 []) 2097152 None) ∷ (block [] ((op (ConstOp 45) [] (Some 12)) ∷ (op (SvcOp 1) (12 ∷ []) None) ∷ []) (Jump 6 []) 2097152 None) ∷ (block [] [] (Jump 7 []) 4194304 None) ∷ (block [] ((op (GlobalOp 8) [] (Some 13)) ∷ (op LoadOp (13 ∷ []) (Some 14)) ∷ (op (ConstOp 4) [] (Some 15)) ∷ []) (Branch 0 14 15 9 8) 8388608 None) ∷ (block [] [] (Jump 1 []) 8388608 None) ∷ (block [] [] (Return None) 1048576 None) ∷ []) 16 0 false 0 0) ∷ [])

pub repeats_low : (b : Box (Unit {0}) Heap) (v : Vec (Unit {0}) Heap) → lowered (repeats b v) ≡ repeats_procs
unfolding data_tree record_row fields_before
repeats_low b v = refl

-- MODULE W; IMPORT Out; VAR a, b: INTEGER; BEGIN a := 12; b := 18; WHILE a > b DO a := a - b; Out.Char(''a'') ELSIF b > a DO b := b - a; Out.Char(''b'') END; Out.Int(a, 0) END W.
abbrev whileelsif : Outside Program
whileelsif b v = record { types = record { kinds = (Int ∷ Nothing ∷ []); records = []; signatures = [] }; modules = (record { name = []; objects = []; variables = (0 ∷ 0 ∷ []); body = 0 } ∷ []); procedures = (record { «module» = 0; line = 1; is_body = true; formals = []; result = 1; locals = []; texts = []; body = ((Assign (Whole (Global 0 0) Int) (record { form = (Literal 12); kind = Int })) ∷ (Assign (Whole (Global 0 1) Int) (record { form = (Literal 18); kind = Int })) ∷ (While' (vec2 v) (more_of-Branch (record { form = (Compare' Greater b (Load (Whole (Global 0 0) Int)) b (Load (Whole (Global 0 1) Int))); kind = BoolKind }) (vec2 v) (more_of-Stmt (Assign (Whole (Global 0 0) Int) (record { form = (Chain' b (Load (Whole (Global 0 0) Int)) (vec1 v) (more_of-Link (Operate Subtract (Load (Whole (Global 0 1) Int))) end_of-Link)); kind = Int })) (more_of-Stmt (OutChar (record { form = (Literal 97); kind = Char })) end_of-Stmt)) (more_of-Branch (record { form = (Compare' Greater b (Load (Whole (Global 0 1) Int)) b (Load (Whole (Global 0 0) Int))); kind = BoolKind }) (vec2 v) (more_of-Stmt (Assign (Whole (Global 0 1) Int) (record { form = (Chain' b (Load (Whole (Global 0 1) Int)) (vec1 v) (more_of-Link (Operate Subtract (Load (Whole (Global 0 0) Int))) end_of-Link)); kind = Int })) (more_of-Stmt (OutChar (record { form = (Literal 98); kind = Char })) end_of-Stmt)) end_of-Branch))) ∷ (OutInt (record { form = (Load (Whole (Global 0 0) Int)); kind = Int }) (record { form = (Literal 0); kind = Int })) ∷ []); answer = None } ∷ []); imports_in = false }

abbrev whileelsif_procs : List Proc
whileelsif_procs = ((proc ((block [] ((op (GlobalOp 8) [] (Some 0)) ∷ (op (ConstOp 12) [] (Some 1)) ∷ (op StoreOp (0 ∷ 1 ∷ []) None) ∷ (op (GlobalOp 16) [] (Some 2)) ∷ (op (ConstOp 18) [] (Some 3)) ∷ (op StoreOp (2 ∷ 3 ∷ []) None) ∷ []) (Jump 1 []) 1048576 None) ∷ (block [] ((op (GlobalOp 8) [] (Some 4)) ∷ (op LoadOp (4 ∷ []) (Some 5)) ∷ (op (GlobalOp 16) [] (Some 6)) ∷ (op LoadOp (6 ∷ []) (Some 7)) ∷ []) (Branch 12 5 7 2 3) 8388608 (Some 0)) ∷ (block [] ((op (GlobalOp 8) [] (Some 8)) ∷ (op (GlobalOp 8) [] (Some 9)) ∷ (op LoadOp (9 ∷ []) (Some 10)) ∷ (op (GlobalOp 16) [] (Some 11)) ∷ (op LoadOp (11 ∷ []) (Some 12)) ∷ (op SubOp (10 ∷ 12 ∷ []) (Some 13)) ∷ (op StoreOp (8 ∷ 13 ∷ []) None) ∷ (op (ConstOp 97) [] (Some 14)) ∷ (op (SvcOp 1) (14 ∷ []) None) ∷ []) (Jump 1 []) 8388608 None) ∷ (block [] ((op (GlobalOp 16) [] (Some 15)) ∷ (op LoadOp (15 ∷ []) (Some 16)) ∷ (op (GlobalOp 8) [] (Some 17)) ∷ (op LoadOp (17 ∷ []) (Some 18)) ∷ []) (Branch 12 16 18 4 5) 8388608 None) ∷ (block [] ((op (GlobalOp 16) [] (Some 19)) ∷ (op (GlobalOp 16) [] (Some 20)) ∷ (op LoadOp (20 ∷ []) (Some 21)) ∷ (op (GlobalOp 8) [] (Some 22)) ∷ (op LoadOp (22 ∷ []) (Some 23)) ∷ (op SubOp (21 ∷ 23 ∷ []) (Some 24)) ∷ (op StoreOp (19 ∷ 24 ∷ []) None) ∷ (op (ConstOp 98) [] (Some 25)) ∷ (op (SvcOp 1) (25 ∷ []) None) ∷ []) (Jump 1 []) 8388608 None) ∷ (block [] ((op (GlobalOp 8) [] (Some 26)) ∷ (op LoadOp (26 ∷ []) (Some 27)) ∷ (op (ConstOp 0) [] (Some 28)) ∷ (op (SvcOp 2) (27 ∷ 28 ∷ []) None) ∷ []) (Return None) 1048576 None) ∷ []) 29 0 false 0 0) ∷ [])

pub whileelsif_low : (b : Box (Unit {0}) Heap) (v : Vec (Unit {0}) Heap) → lowered (whileelsif b v) ≡ whileelsif_procs
unfolding data_tree record_row fields_before
whileelsif_low b v = refl

-- MODULE C; IMPORT Out; VAR c: CHAR; i: INTEGER; BEGIN FOR i := 0 TO 2 DO c := CHR(i * 5 + ORD(''a'')); CASE c OF ''a'': Out.Char(''1'') | ''b''..''f'', ''z'': Out.Char(''2'') | ''k'': Out.Char(''3'') END END; c := CHR(-1 + i * 0) END C.
abbrev cases : Outside Program
cases b v = record { types = record { kinds = (Char ∷ Int ∷ Nothing ∷ []); records = []; signatures = [] }; modules = (record { name = []; objects = []; variables = (0 ∷ 1 ∷ []); body = 0 } ∷ []); procedures = (record { «module» = 0; line = 1; is_body = true; formals = []; result = 2; locals = []; texts = []; body = ((For' b (Whole (Global 0 1) Int) (record { form = (Literal 0); kind = Int }) (record { form = (Literal 2); kind = Int }) (pos 1) (vec2 v) (more_of-Stmt (Assign (Whole (Global 0 0) Char) (record { form = (Byte' b (Chain' b (Load (Whole (Global 0 1) Int)) (vec2 v) (more_of-Link (Operate Multiply (Literal 5)) (more_of-Link (Operate Add (Literal 97)) end_of-Link)))); kind = Char })) (more_of-Stmt (Case' (record { form = (Load (Whole (Global 0 0) Char)); kind = Char }) (vec3 v) (more_of-CasePart (One (pos 97) ∷ []) (vec1 v) (more_of-Stmt (OutChar (record { form = (Literal 49); kind = Char })) end_of-Stmt) (more_of-CasePart (Range (pos 98) (pos 102) ∷ One (pos 122) ∷ []) (vec1 v) (more_of-Stmt (OutChar (record { form = (Literal 50); kind = Char })) end_of-Stmt) (more_of-CasePart (One (pos 107) ∷ []) (vec1 v) (more_of-Stmt (OutChar (record { form = (Literal 51); kind = Char })) end_of-Stmt) end_of-CasePart)))) end_of-Stmt))) ∷ (Assign (Whole (Global 0 0) Char) (record { form = (Byte' b (Chain' b (Unary' Negate b (Literal 1)) (vec1 v) (more_of-Link (Operate Add (Chain' b (Load (Whole (Global 0 1) Int)) (vec1 v) (more_of-Link (Operate Multiply (Literal 0)) end_of-Link))) end_of-Link))); kind = Char })) ∷ []); answer = None } ∷ []); imports_in = false }

abbrev cases_procs : List Proc
cases_procs = ((proc ((block [] ((op (GlobalOp 16) [] (Some 0)) ∷ (op (ConstOp 0) [] (Some 1)) ∷ (op StoreOp (0 ∷ 1 ∷ []) None) ∷ (op (ConstOp 2) [] (Some 2)) ∷ []) (Jump 1 []) 1048576 None) ∷ (block [] ((op (GlobalOp 16) [] (Some 3)) ∷ (op LoadOp (3 ∷ []) (Some 4)) ∷ []) (Branch 13 4 2 2 12) 8388608 (Some 0)) ∷ (block [] ((op (GlobalOp 8) [] (Some 5)) ∷ (op (GlobalOp 16) [] (Some 6)) ∷ (op LoadOp (6 ∷ []) (Some 7)) ∷ (op (ConstOp 5) [] (Some 8)) ∷ (op MulOp (7 ∷ 8 ∷ []) (Some 9)) ∷ (op (ConstOp 97) [] (Some 10)) ∷ (op AddOp (9 ∷ 10 ∷ []) (Some 11)) ∷ (op ByteOp (11 ∷ []) None) ∷ (op StoreByteOp (5 ∷ 11 ∷ []) None) ∷ (op (GlobalOp 8) [] (Some 12)) ∷ (op LoadByteOp (12 ∷ []) (Some 13)) ∷ (op (ConstOp 97) [] (Some 14)) ∷ []) (Branch 0 13 14 8 3) 8388608 None) ∷ (block [] ((op (ConstOp 98) [] (Some 15)) ∷ []) (Branch 10 13 15 4 5) 8388608 None) ∷ (block [] ((op (ConstOp 102) [] (Some 16)) ∷ []) (Branch 13 13 16 9 5) 8388608 None) ∷ (block [] ((op (ConstOp 122) [] (Some 17)) ∷ []) (Branch 0 13 17 9 6) 8388608 None) ∷ (block [] ((op (ConstOp 107) [] (Some 18)) ∷ []) (Branch 0 13 18 10 7) 8388608 None) ∷ (block [] [] (Trap 6) 4194304 None) ∷ (block [] ((op (ConstOp 49) [] (Some 19)) ∷ (op (SvcOp 1) (19 ∷ []) None) ∷ []) (Jump 11 []) 4194304 None) ∷ (block [] ((op (ConstOp 50) [] (Some 20)) ∷ (op (SvcOp 1) (20 ∷ []) None) ∷ []) (Jump 11 []) 4194304 None) ∷ (block [] ((op (ConstOp 51) [] (Some 21)) ∷ (op (SvcOp 1) (21 ∷ []) None) ∷ []) (Jump 11 []) 4194304 None) ∷ (block [] ((op (GlobalOp 16) [] (Some 22)) ∷ (op (GlobalOp 16) [] (Some 23)) ∷ (op LoadOp (23 ∷ []) (Some 24)) ∷ (op (ConstOp 1) [] (Some 25)) ∷ (op AddOp (24 ∷ 25 ∷ []) (Some 26)) ∷ (op StoreOp (22 ∷ 26 ∷ []) None) ∷ []) (Jump 1 []) 8388608 None) ∷ (block [] ((op (GlobalOp 8) [] (Some 27)) ∷ (op (ConstOp 1) [] (Some 28)) ∷ (op NegOp (28 ∷ []) (Some 29)) ∷ (op (GlobalOp 16) [] (Some 30)) ∷ (op LoadOp (30 ∷ []) (Some 31)) ∷ (op (ConstOp 0) [] (Some 32)) ∷ (op MulOp (31 ∷ 32 ∷ []) (Some 33)) ∷ (op AddOp (29 ∷ 33 ∷ []) (Some 34)) ∷ (op ByteOp (34 ∷ []) None) ∷ (op StoreByteOp (27 ∷ 34 ∷ []) None) ∷ []) (Return None) 1048576 None) ∷ []) 35 0 false 0 0) ∷ [])

pub cases_low : (b : Box (Unit {0}) Heap) (v : Vec (Unit {0}) Heap) → lowered (cases b v) ≡ cases_procs
unfolding data_tree record_row fields_before
cases_low b v = refl

-- MODULE S; IMPORT Out; BEGIN Out.Int(LSL(1, 65), 0); Out.Int(ASR(-8, 1), 3); Out.Int(ROR(1, 1), 0); Out.Int(ABS(-3), 0); IF ODD(-3) THEN Out.Char(''o'') END END S.
abbrev shifts : Outside Program
shifts b v = record { types = record { kinds = (Nothing ∷ []); records = []; signatures = [] }; modules = (record { name = []; objects = []; variables = []; body = 0 } ∷ []); procedures = (record { «module» = 0; line = 1; is_body = true; formals = []; result = 0; locals = []; texts = []; body = ((OutInt (record { form = (Chain' b (Literal 1) (vec1 v) (more_of-Link (Operate Lsl (Literal 65)) end_of-Link)); kind = Int }) (record { form = (Literal 0); kind = Int })) ∷ (OutInt (record { form = (Chain' b (Unary' Negate b (Literal 8)) (vec1 v) (more_of-Link (Operate Asr (Literal 1)) end_of-Link)); kind = Int }) (record { form = (Literal 3); kind = Int })) ∷ (OutInt (record { form = (Chain' b (Literal 1) (vec1 v) (more_of-Link (Operate Ror (Literal 1)) end_of-Link)); kind = Int }) (record { form = (Literal 0); kind = Int })) ∷ (OutInt (record { form = (Unary' Abs b (Unary' Negate b (Literal 3))); kind = Int }) (record { form = (Literal 0); kind = Int })) ∷ (If' (vec1 v) (more_of-Branch (record { form = (Unary' Odd b (Unary' Negate b (Literal 3))); kind = BoolKind }) (vec1 v) (more_of-Stmt (OutChar (record { form = (Literal 111); kind = Char })) end_of-Stmt) end_of-Branch) (vec0 v) end_of-Stmt) ∷ []); answer = None } ∷ []); imports_in = false }

abbrev shifts_procs : List Proc
shifts_procs = ((proc ((block [] ((op (ConstOp 1) [] (Some 0)) ∷ (op (ConstOp 65) [] (Some 1)) ∷ (op LslOp (0 ∷ 1 ∷ []) (Some 2)) ∷ (op (ConstOp 0) [] (Some 3)) ∷ (op (SvcOp 2) (2 ∷ 3 ∷ []) None) ∷ (op (ConstOp 8) [] (Some 4)) ∷ (op NegOp (4 ∷ []) (Some 5)) ∷ (op (ConstOp 1) [] (Some 6)) ∷ (op AsrOp (5 ∷ 6 ∷ []) (Some 7)) ∷ (op (ConstOp 3) [] (Some 8)) ∷ (op (SvcOp 2) (7 ∷ 8 ∷ []) None) ∷ (op (ConstOp 1) [] (Some 9)) ∷ (op (ConstOp 1) [] (Some 10)) ∷ (op RorOp (9 ∷ 10 ∷ []) (Some 11)) ∷ (op (ConstOp 0) [] (Some 12)) ∷ (op (SvcOp 2) (11 ∷ 12 ∷ []) None) ∷ (op (ConstOp 3) [] (Some 13)) ∷ (op NegOp (13 ∷ []) (Some 14)) ∷ (op AbsOp (14 ∷ []) (Some 15)) ∷ (op (ConstOp 0) [] (Some 16)) ∷ (op (SvcOp 2) (15 ∷ 16 ∷ []) None) ∷ (op (ConstOp 3) [] (Some 17)) ∷ (op NegOp (17 ∷ []) (Some 18)) ∷ (op OddOp (18 ∷ []) (Some 19)) ∷ []) (Nonzero 19 1 2) 1048576 None) ∷ (block [] ((op (ConstOp 111) [] (Some 20)) ∷ (op (SvcOp 1) (20 ∷ []) None) ∷ []) (Jump 3 []) 524288 None) ∷ (block [] [] (Jump 3 []) 524288 None) ∷ (block [] [] (Return None) 1048576 None) ∷ []) 21 0 false 0 0) ∷ [])

pub shifts_low : (b : Box (Unit {0}) Heap) (v : Vec (Unit {0}) Heap) → lowered (shifts b v) ≡ shifts_procs
unfolding data_tree record_row fields_before
shifts_low b v = refl

-- MODULE M; IMPORT Out; VAR even: PROCEDURE (n: INTEGER): BOOLEAN; PROCEDURE Odd(n: INTEGER): BOOLEAN; VAR r: BOOLEAN; BEGIN r := FALSE; IF n > 0 THEN r := even(n - 1) END RETURN r END Odd; PROCEDURE Even(n: INTEGER): BOOLEAN; VAR r: BOOLEAN; BEGIN r := TRUE; IF n > 0 THEN r := Odd(n - 1) END RETURN r END Even; BEGIN even := Even; IF Even(6) THEN Out.Char(''e'') END; even := NIL; IF Odd(1) THEN Out.Char(''o'') END END M.
abbrev evenodd : Outside Program
evenodd b v = record { types = record { kinds = (Int ∷ BoolKind ∷ (ProcedureKind 0) ∷ Nothing ∷ []); records = []; signatures = (record { formals = (record { mode = OfValue; variable = false; type_number = 0 } ∷ []); result = 1 } ∷ []) }; modules = (record { name = []; objects = []; variables = (2 ∷ []); body = 2 } ∷ []); procedures = (record { «module» = 0; line = 1; is_body = false; formals = (record { mode = OfValue; variable = false; type_number = 0 } ∷ []); result = 1; locals = (1 ∷ []); texts = []; body = ((Assign (Whole (Local 1) BoolKind) (record { form = (Literal 0); kind = BoolKind })) ∷ (If' (vec1 v) (more_of-Branch (record { form = (Compare' Greater b (Load (Whole (Local 0) Int)) b (Literal 0)); kind = BoolKind }) (vec1 v) (more_of-Stmt (Assign (Whole (Local 1) BoolKind) (record { form = (Call' b (Indirect' (Whole (Global 0 0) (ProcedureKind 0)) (vec1 v) (more_of-Argument (ByValue (Chain' b (Load (Whole (Local 0) Int)) (vec1 v) (more_of-Link (Operate Subtract (Literal 1)) end_of-Link))) end_of-Argument))); kind = BoolKind })) end_of-Stmt) end_of-Branch) (vec0 v) end_of-Stmt) ∷ []); answer = (Some (record { form = (Load (Whole (Local 1) BoolKind)); kind = BoolKind })) } ∷ record { «module» = 0; line = 1; is_body = false; formals = (record { mode = OfValue; variable = false; type_number = 0 } ∷ []); result = 1; locals = (1 ∷ []); texts = []; body = ((Assign (Whole (Local 1) BoolKind) (record { form = (Literal 1); kind = BoolKind })) ∷ (If' (vec1 v) (more_of-Branch (record { form = (Compare' Greater b (Load (Whole (Local 0) Int)) b (Literal 0)); kind = BoolKind }) (vec1 v) (more_of-Stmt (Assign (Whole (Local 1) BoolKind) (record { form = (Call' b (Direct' 0 (vec1 v) (more_of-Argument (ByValue (Chain' b (Load (Whole (Local 0) Int)) (vec1 v) (more_of-Link (Operate Subtract (Literal 1)) end_of-Link))) end_of-Argument))); kind = BoolKind })) end_of-Stmt) end_of-Branch) (vec0 v) end_of-Stmt) ∷ []); answer = (Some (record { form = (Load (Whole (Local 1) BoolKind)); kind = BoolKind })) } ∷ record { «module» = 0; line = 1; is_body = true; formals = []; result = 3; locals = []; texts = []; body = ((Assign (Whole (Global 0 0) (ProcedureKind 0)) (record { form = (Routine 1); kind = (ProcedureKind 0) })) ∷ (If' (vec1 v) (more_of-Branch (record { form = (Call' b (Direct' 1 (vec1 v) (more_of-Argument (ByValue (Literal 6)) end_of-Argument))); kind = BoolKind }) (vec1 v) (more_of-Stmt (OutChar (record { form = (Literal 101); kind = Char })) end_of-Stmt) end_of-Branch) (vec0 v) end_of-Stmt) ∷ (Assign (Whole (Global 0 0) (ProcedureKind 0)) (record { form = (Literal 0); kind = Nil })) ∷ (If' (vec1 v) (more_of-Branch (record { form = (Call' b (Direct' 0 (vec1 v) (more_of-Argument (ByValue (Literal 1)) end_of-Argument))); kind = BoolKind }) (vec1 v) (more_of-Stmt (OutChar (record { form = (Literal 111); kind = Char })) end_of-Stmt) end_of-Branch) (vec0 v) end_of-Stmt) ∷ []); answer = None } ∷ []); imports_in = false }

abbrev evenodd_procs : List Proc
evenodd_procs = ((proc ((block (0 ∷ []) ((op (ConstOp 0) [] (Some 1)) ∷ (op (ConstOp 0) [] (Some 2)) ∷ (op (ConstOp 0) [] (Some 3)) ∷ []) (Branch 12 0 3 1 2) 1048576 None) ∷ (block [] ((op (GlobalOp 8) [] (Some 4)) ∷ (op LoadOp (4 ∷ []) (Some 5)) ∷ (op (ConstOp 1) [] (Some 6)) ∷ (op SubOp (0 ∷ 6 ∷ []) (Some 7)) ∷ (op NotNilOp (5 ∷ []) None) ∷ (op CallAtOp (5 ∷ 7 ∷ []) (Some 8)) ∷ []) (Jump 3 (8 ∷ [])) 524288 None) ∷ (block [] [] (Jump 3 (2 ∷ [])) 524288 None) ∷ (block (9 ∷ []) [] (Return (Some 9)) 1048576 None) ∷ []) 10 1 true 2 0) ∷ (proc ((block (0 ∷ []) ((op (ConstOp 0) [] (Some 1)) ∷ (op (ConstOp 1) [] (Some 2)) ∷ (op (ConstOp 0) [] (Some 3)) ∷ []) (Branch 12 0 3 1 2) 1048576 None) ∷ (block [] ((op (ConstOp 1) [] (Some 4)) ∷ (op SubOp (0 ∷ 4 ∷ []) (Some 5)) ∷ (op (CallOp 0) (5 ∷ []) (Some 6)) ∷ []) (Jump 3 (6 ∷ [])) 524288 None) ∷ (block [] [] (Jump 3 (2 ∷ [])) 524288 None) ∷ (block (7 ∷ []) [] (Return (Some 7)) 1048576 None) ∷ []) 8 1 true 2 0) ∷ (proc ((block [] ((op (GlobalOp 8) [] (Some 0)) ∷ (op (CodeOp 1) [] (Some 1)) ∷ (op StoreOp (0 ∷ 1 ∷ []) None) ∷ (op (ConstOp 6) [] (Some 2)) ∷ (op (CallOp 1) (2 ∷ []) (Some 3)) ∷ []) (Nonzero 3 1 2) 1048576 None) ∷ (block [] ((op (ConstOp 101) [] (Some 4)) ∷ (op (SvcOp 1) (4 ∷ []) None) ∷ []) (Jump 3 []) 524288 None) ∷ (block [] [] (Jump 3 []) 524288 None) ∷ (block [] ((op (GlobalOp 8) [] (Some 5)) ∷ (op (ConstOp 0) [] (Some 6)) ∷ (op StoreOp (5 ∷ 6 ∷ []) None) ∷ (op (ConstOp 1) [] (Some 7)) ∷ (op (CallOp 0) (7 ∷ []) (Some 8)) ∷ []) (Nonzero 8 4 5) 1048576 None) ∷ (block [] ((op (ConstOp 111) [] (Some 9)) ∷ (op (SvcOp 1) (9 ∷ []) None) ∷ []) (Jump 6 []) 524288 None) ∷ (block [] [] (Jump 6 []) 524288 None) ∷ (block [] [] (Return None) 1048576 None) ∷ []) 10 0 false 0 0) ∷ [])

pub evenodd_low : (b : Box (Unit {0}) Heap) (v : Vec (Unit {0}) Heap) → lowered (evenodd b v) ≡ evenodd_procs
unfolding data_tree record_row fields_before
evenodd_low b v = refl

-- MODULE V; IMPORT Out; TYPE R = RECORD a: INTEGER; n: RECORD b: ARRAY 2 OF CHAR END END; E = RECORD (R) e: INTEGER END; VAR r: R; e: E; PROCEDURE P(x: R; VAR y: R); BEGIN y.a := 9; Out.Int(x.a, 0); y.n.b := x.n.b; y := x END P; BEGIN e.a := 3; P(e, e); P(r, e); Out.Int(e.a, 0) END V.
abbrev alias : Outside Program
alias b v = record { types = record { kinds = ((RecordKind 0) ∷ (RecordKind 1) ∷ (RecordKind 2) ∷ Char ∷ Nothing ∷ Int ∷ (Array (Some 2) 3) ∷ []); records = (record { «module» = 0; base = None; level = 0; fields = (record { name = []; exported = false; type_number = 5 } ∷ record { name = []; exported = false; type_number = 1 } ∷ []); cells = 3; extent = record { bytes = 16; wide = true } } ∷ record { «module» = 0; base = None; level = 0; fields = (record { name = []; exported = false; type_number = 6 } ∷ []); cells = 2; extent = record { bytes = 2; wide = false } } ∷ record { «module» = 0; base = (Some 0); level = 1; fields = (record { name = []; exported = false; type_number = 5 } ∷ []); cells = 4; extent = record { bytes = 24; wide = true } } ∷ []); signatures = [] }; modules = (record { name = []; objects = []; variables = (0 ∷ 2 ∷ []); body = 1 } ∷ []); procedures = (record { «module» = 0; line = 1; is_body = false; formals = (record { mode = Place; variable = false; type_number = 0 } ∷ record { mode = OfRecord; variable = true; type_number = 0 } ∷ []); result = 4; locals = []; texts = []; body = ((Assign (Part' b (Parameter 1) Int (vec1 v) (more_of-Selector (Field 0 0) end_of-Selector)) (record { form = (Literal 9); kind = Int })) ∷ (OutInt (record { form = (Load (Part' b (Parameter 0) Int (vec1 v) (more_of-Selector (Field 0 0) end_of-Selector))); kind = Int }) (record { form = (Literal 0); kind = Int })) ∷ (CopyArray (Part' b (Parameter 1) (Array (Some 2) 3) (vec2 v) (more_of-Selector (Field 0 1) (more_of-Selector (Field 1 0) end_of-Selector))) (Part' b (Parameter 0) (Array (Some 2) 3) (vec2 v) (more_of-Selector (Field 0 1) (more_of-Selector (Field 1 0) end_of-Selector)))) ∷ (CopyRecord (Whole (Parameter 1) (RecordKind 0)) (Whole (Parameter 0) (RecordKind 0))) ∷ []); answer = None } ∷ record { «module» = 0; line = 1; is_body = true; formals = []; result = 4; locals = []; texts = []; body = ((Assign (Part' b (Global 0 1) Int (vec1 v) (more_of-Selector (Field 0 0) end_of-Selector)) (record { form = (Literal 3); kind = Int })) ∷ (Invoke (Direct' 0 (vec2 v) (more_of-Argument (ByPlace (Whole (Global 0 1) (RecordKind 2))) (more_of-Argument (ByRecord (Whole (Global 0 1) (RecordKind 2))) end_of-Argument)))) ∷ (Invoke (Direct' 0 (vec2 v) (more_of-Argument (ByPlace (Whole (Global 0 0) (RecordKind 0))) (more_of-Argument (ByRecord (Whole (Global 0 1) (RecordKind 2))) end_of-Argument)))) ∷ (OutInt (record { form = (Load (Part' b (Global 0 1) Int (vec1 v) (more_of-Selector (Field 0 0) end_of-Selector))); kind = Int }) (record { form = (Literal 0); kind = Int })) ∷ []); answer = None } ∷ []); imports_in = false }

abbrev alias_procs : List Proc
alias_procs = ((proc ((block (0 ∷ 1 ∷ 2 ∷ []) ((op (ConstOp 9) [] (Some 3)) ∷ (op StoreOp (1 ∷ 3 ∷ []) None) ∷ (op LoadOp (0 ∷ []) (Some 4)) ∷ (op (ConstOp 0) [] (Some 5)) ∷ (op (SvcOp 2) (4 ∷ 5 ∷ []) None) ∷ (op (PlusOp 8) (1 ∷ []) (Some 6)) ∷ (op (PlusOp 8) (0 ∷ []) (Some 7)) ∷ (op (ConstOp 2) [] (Some 8)) ∷ (op CopyOp (6 ∷ 7 ∷ 8 ∷ []) None) ∷ (op (ConstOp 16) [] (Some 9)) ∷ (op CopyOp (1 ∷ 0 ∷ 9 ∷ []) None) ∷ []) (Return None) 1048576 None) ∷ []) 10 3 true 0 0) ∷ (proc ((block [] ((op (GlobalOp 24) [] (Some 0)) ∷ (op (ConstOp 3) [] (Some 1)) ∷ (op StoreOp (0 ∷ 1 ∷ []) None) ∷ (op (GlobalOp 24) [] (Some 2)) ∷ (op (GlobalOp 24) [] (Some 3)) ∷ (op (GlobalOp 304) [] (Some 4)) ∷ (op (CallOp 0) (2 ∷ 3 ∷ 4 ∷ []) None) ∷ (op (GlobalOp 8) [] (Some 5)) ∷ (op (GlobalOp 24) [] (Some 6)) ∷ (op (GlobalOp 304) [] (Some 7)) ∷ (op (CallOp 0) (5 ∷ 6 ∷ 7 ∷ []) None) ∷ (op (GlobalOp 24) [] (Some 8)) ∷ (op LoadOp (8 ∷ []) (Some 9)) ∷ (op (ConstOp 0) [] (Some 10)) ∷ (op (SvcOp 2) (9 ∷ 10 ∷ []) None) ∷ []) (Return None) 1048576 None) ∷ []) 11 0 false 0 0) ∷ [])

pub alias_low : (b : Box (Unit {0}) Heap) (v : Vec (Unit {0}) Heap) → lowered (alias b v) ≡ alias_procs
unfolding data_tree record_row fields_before
alias_low b v = refl

pub alias_constants : (b : Box (Unit {0}) Heap) (v : Vec (Unit {0}) Heap) → constants (alias b v) (packed (alias b v).types) 268435456 ≡ (48 ∷ 0 ∷ 0 ∷ 16 ∷ 0 ∷ 0 ∷ 0 ∷ 0 ∷ 0 ∷ 0 ∷ 0 ∷ 0 ∷ 0 ∷ 0 ∷ 0 ∷ 0 ∷ 0 ∷ 0 ∷ 0 ∷ 0 ∷ 0 ∷ 0 ∷ 0 ∷ 0 ∷ 0 ∷ 0 ∷ 0 ∷ 0 ∷ 0 ∷ 0 ∷ 0 ∷ 0 ∷ 0 ∷ 0 ∷ 0 ∷ 0 ∷ 0 ∷ 0 ∷ 0 ∷ 0 ∷ 0 ∷ 0 ∷ 0 ∷ 0 ∷ 0 ∷ 0 ∷ 0 ∷ 0 ∷ 0 ∷ 0 ∷ 0 ∷ 0 ∷ 0 ∷ 0 ∷ 0 ∷ 0 ∷ 0 ∷ 0 ∷ 0 ∷ 0 ∷ 0 ∷ 0 ∷ 0 ∷ 0 ∷ 0 ∷ 0 ∷ 0 ∷ 0 ∷ 0 ∷ 0 ∷ 0 ∷ 0 ∷ 0 ∷ 0 ∷ 0 ∷ 0 ∷ 0 ∷ 0 ∷ 0 ∷ 0 ∷ 0 ∷ 0 ∷ 0 ∷ 0 ∷ 0 ∷ 0 ∷ 0 ∷ 0 ∷ 0 ∷ 0 ∷ 0 ∷ 0 ∷ 0 ∷ 0 ∷ 0 ∷ 0 ∷ 0 ∷ 0 ∷ 0 ∷ 0 ∷ 0 ∷ 0 ∷ 0 ∷ 0 ∷ 0 ∷ 0 ∷ 0 ∷ 0 ∷ 0 ∷ 0 ∷ 0 ∷ 0 ∷ 0 ∷ 0 ∷ 0 ∷ 0 ∷ 0 ∷ 0 ∷ 0 ∷ 0 ∷ 0 ∷ 0 ∷ 0 ∷ 0 ∷ 0 ∷ 0 ∷ 0 ∷ 0 ∷ 176 ∷ 0 ∷ 0 ∷ 16 ∷ 0 ∷ 0 ∷ 0 ∷ 0 ∷ 0 ∷ 0 ∷ 0 ∷ 0 ∷ 0 ∷ 0 ∷ 0 ∷ 0 ∷ 0 ∷ 0 ∷ 0 ∷ 0 ∷ 0 ∷ 0 ∷ 0 ∷ 0 ∷ 0 ∷ 0 ∷ 0 ∷ 0 ∷ 0 ∷ 0 ∷ 0 ∷ 0 ∷ 0 ∷ 0 ∷ 0 ∷ 0 ∷ 0 ∷ 0 ∷ 0 ∷ 0 ∷ 0 ∷ 0 ∷ 0 ∷ 0 ∷ 0 ∷ 0 ∷ 0 ∷ 0 ∷ 0 ∷ 0 ∷ 0 ∷ 0 ∷ 0 ∷ 0 ∷ 0 ∷ 0 ∷ 0 ∷ 0 ∷ 0 ∷ 0 ∷ 0 ∷ 0 ∷ 0 ∷ 0 ∷ 0 ∷ 0 ∷ 0 ∷ 0 ∷ 0 ∷ 0 ∷ 0 ∷ 0 ∷ 0 ∷ 0 ∷ 0 ∷ 0 ∷ 0 ∷ 0 ∷ 0 ∷ 0 ∷ 0 ∷ 0 ∷ 0 ∷ 0 ∷ 0 ∷ 0 ∷ 0 ∷ 0 ∷ 0 ∷ 0 ∷ 0 ∷ 0 ∷ 0 ∷ 0 ∷ 0 ∷ 0 ∷ 0 ∷ 0 ∷ 0 ∷ 0 ∷ 0 ∷ 0 ∷ 0 ∷ 0 ∷ 0 ∷ 0 ∷ 0 ∷ 0 ∷ 0 ∷ 0 ∷ 0 ∷ 0 ∷ 0 ∷ 0 ∷ 0 ∷ 0 ∷ 0 ∷ 0 ∷ 0 ∷ 0 ∷ 0 ∷ 0 ∷ 0 ∷ 0 ∷ 0 ∷ 0 ∷ 0 ∷ 0 ∷ 48 ∷ 0 ∷ 0 ∷ 16 ∷ 0 ∷ 0 ∷ 0 ∷ 0 ∷ 48 ∷ 1 ∷ 0 ∷ 16 ∷ 0 ∷ 0 ∷ 0 ∷ 0 ∷ 0 ∷ 0 ∷ 0 ∷ 0 ∷ 0 ∷ 0 ∷ 0 ∷ 0 ∷ 0 ∷ 0 ∷ 0 ∷ 0 ∷ 0 ∷ 0 ∷ 0 ∷ 0 ∷ 0 ∷ 0 ∷ 0 ∷ 0 ∷ 0 ∷ 0 ∷ 0 ∷ 0 ∷ 0 ∷ 0 ∷ 0 ∷ 0 ∷ 0 ∷ 0 ∷ 0 ∷ 0 ∷ 0 ∷ 0 ∷ 0 ∷ 0 ∷ 0 ∷ 0 ∷ 0 ∷ 0 ∷ 0 ∷ 0 ∷ 0 ∷ 0 ∷ 0 ∷ 0 ∷ 0 ∷ 0 ∷ 0 ∷ 0 ∷ 0 ∷ 0 ∷ 0 ∷ 0 ∷ 0 ∷ 0 ∷ 0 ∷ 0 ∷ 0 ∷ 0 ∷ 0 ∷ 0 ∷ 0 ∷ 0 ∷ 0 ∷ 0 ∷ 0 ∷ 0 ∷ 0 ∷ 0 ∷ 0 ∷ 0 ∷ 0 ∷ 0 ∷ 0 ∷ 0 ∷ 0 ∷ 0 ∷ 0 ∷ 0 ∷ 0 ∷ 0 ∷ 0 ∷ 0 ∷ 0 ∷ 0 ∷ 0 ∷ 0 ∷ 0 ∷ 0 ∷ 0 ∷ 0 ∷ 0 ∷ 0 ∷ 0 ∷ 0 ∷ 0 ∷ 0 ∷ 0 ∷ 0 ∷ 0 ∷ 0 ∷ 0 ∷ 0 ∷ 0 ∷ 0 ∷ 0 ∷ 0 ∷ 0 ∷ 0 ∷ 0 ∷ 0 ∷ [])
unfolding data_tree record_row fields_before
alias_constants b v = refl

-- MODULE Queens; IMPORT Out; VAR a: ARRAY 4 OF BOOLEAN; b, c: ARRAY 7 OF BOOLEAN; count: INTEGER; PROCEDURE Try(i: INTEGER); VAR j: INTEGER; BEGIN FOR j := 0 TO 3 DO IF ~a[j] & ~b[i + j] & ~c[i - j + 3] THEN a[j] := TRUE; b[i + j] := TRUE; c[i - j + 3] := TRUE; IF i < 3 THEN Try(i + 1) ELSE INC(count) END; a[j] := FALSE; b[i + j] := FALSE; c[i - j + 3] := FALSE END END END Try; BEGIN Try(0); Out.Int(count, 0); Out.Ln END Queens.
abbrev queens4 : Outside Program
queens4 b v = record { types = record { kinds = (BoolKind ∷ (Array (Some 4) 0) ∷ (Array (Some 7) 0) ∷ Int ∷ Nothing ∷ []); records = []; signatures = [] }; modules = (record { name = []; objects = []; variables = (1 ∷ 2 ∷ 2 ∷ 3 ∷ []); body = 1 } ∷ []); procedures = (record { «module» = 0; line = 1; is_body = false; formals = (record { mode = OfValue; variable = false; type_number = 3 } ∷ []); result = 4; locals = (3 ∷ []); texts = []; body = ((For' b (Whole (Local 1) Int) (record { form = (Literal 0); kind = Int }) (record { form = (Literal 3); kind = Int }) (pos 1) (vec1 v) (more_of-Stmt (If' (vec1 v) (more_of-Branch (record { form = (Chain' b (Unary' Not b (Load (Part' b (Global 0 0) BoolKind (vec1 v) (more_of-Selector (Index (Some 4) 0 (Load (Whole (Local 1) Int))) end_of-Selector)))) (vec2 v) (more_of-Link (And (Unary' Not b (Load (Part' b (Global 0 1) BoolKind (vec1 v) (more_of-Selector (Index (Some 7) 0 (Chain' b (Load (Whole (Local 0) Int)) (vec1 v) (more_of-Link (Operate Add (Load (Whole (Local 1) Int))) end_of-Link))) end_of-Selector))))) (more_of-Link (And (Unary' Not b (Load (Part' b (Global 0 2) BoolKind (vec1 v) (more_of-Selector (Index (Some 7) 0 (Chain' b (Load (Whole (Local 0) Int)) (vec2 v) (more_of-Link (Operate Subtract (Load (Whole (Local 1) Int))) (more_of-Link (Operate Add (Literal 3)) end_of-Link)))) end_of-Selector))))) end_of-Link))); kind = BoolKind }) (vec7 v) (more_of-Stmt (Assign (Part' b (Global 0 0) BoolKind (vec1 v) (more_of-Selector (Index (Some 4) 0 (Load (Whole (Local 1) Int))) end_of-Selector)) (record { form = (Literal 1); kind = BoolKind })) (more_of-Stmt (Assign (Part' b (Global 0 1) BoolKind (vec1 v) (more_of-Selector (Index (Some 7) 0 (Chain' b (Load (Whole (Local 0) Int)) (vec1 v) (more_of-Link (Operate Add (Load (Whole (Local 1) Int))) end_of-Link))) end_of-Selector)) (record { form = (Literal 1); kind = BoolKind })) (more_of-Stmt (Assign (Part' b (Global 0 2) BoolKind (vec1 v) (more_of-Selector (Index (Some 7) 0 (Chain' b (Load (Whole (Local 0) Int)) (vec2 v) (more_of-Link (Operate Subtract (Load (Whole (Local 1) Int))) (more_of-Link (Operate Add (Literal 3)) end_of-Link)))) end_of-Selector)) (record { form = (Literal 1); kind = BoolKind })) (more_of-Stmt (If' (vec1 v) (more_of-Branch (record { form = (Compare' Less b (Load (Whole (Local 0) Int)) b (Literal 3)); kind = BoolKind }) (vec1 v) (more_of-Stmt (Invoke (Direct' 0 (vec1 v) (more_of-Argument (ByValue (Chain' b (Load (Whole (Local 0) Int)) (vec1 v) (more_of-Link (Operate Add (Literal 1)) end_of-Link))) end_of-Argument))) end_of-Stmt) end_of-Branch) (vec1 v) (more_of-Stmt (Increase (Whole (Global 0 3) Int) (record { form = (Literal 1); kind = Int })) end_of-Stmt)) (more_of-Stmt (Assign (Part' b (Global 0 0) BoolKind (vec1 v) (more_of-Selector (Index (Some 4) 0 (Load (Whole (Local 1) Int))) end_of-Selector)) (record { form = (Literal 0); kind = BoolKind })) (more_of-Stmt (Assign (Part' b (Global 0 1) BoolKind (vec1 v) (more_of-Selector (Index (Some 7) 0 (Chain' b (Load (Whole (Local 0) Int)) (vec1 v) (more_of-Link (Operate Add (Load (Whole (Local 1) Int))) end_of-Link))) end_of-Selector)) (record { form = (Literal 0); kind = BoolKind })) (more_of-Stmt (Assign (Part' b (Global 0 2) BoolKind (vec1 v) (more_of-Selector (Index (Some 7) 0 (Chain' b (Load (Whole (Local 0) Int)) (vec2 v) (more_of-Link (Operate Subtract (Load (Whole (Local 1) Int))) (more_of-Link (Operate Add (Literal 3)) end_of-Link)))) end_of-Selector)) (record { form = (Literal 0); kind = BoolKind })) end_of-Stmt))))))) end_of-Branch) (vec0 v) end_of-Stmt) end_of-Stmt)) ∷ []); answer = None } ∷ record { «module» = 0; line = 1; is_body = true; formals = []; result = 4; locals = []; texts = []; body = ((Invoke (Direct' 0 (vec1 v) (more_of-Argument (ByValue (Literal 0)) end_of-Argument))) ∷ (OutInt (record { form = (Load (Whole (Global 0 3) Int)); kind = Int }) (record { form = (Literal 0); kind = Int })) ∷ OutLn ∷ []); answer = None } ∷ []); imports_in = false }

abbrev queens4_procs : List Proc
queens4_procs = ((proc ((block (0 ∷ []) ((op (ConstOp 0) [] (Some 1)) ∷ (op (ConstOp 0) [] (Some 2)) ∷ (op (ConstOp 3) [] (Some 3)) ∷ []) (Jump 1 (2 ∷ [])) 1048576 None) ∷ (block (4 ∷ []) [] (Branch 13 4 3 2 11) 8388608 (Some 0)) ∷ (block [] ((op (GlobalOp 8) [] (Some 5)) ∷ (op (ConstOp 4) [] (Some 6)) ∷ (op BelowOp (4 ∷ 6 ∷ []) None) ∷ (op (ConstOp 1) [] (Some 7)) ∷ (op MulAddOp (4 ∷ 7 ∷ 5 ∷ []) (Some 8)) ∷ (op LoadByteOp (8 ∷ []) (Some 9)) ∷ []) (Nonzero 9 9 3) 8388608 None) ∷ (block [] ((op (GlobalOp 16) [] (Some 10)) ∷ (op AddOp (0 ∷ 4 ∷ []) (Some 11)) ∷ (op (ConstOp 7) [] (Some 12)) ∷ (op BelowOp (11 ∷ 12 ∷ []) None) ∷ (op (ConstOp 1) [] (Some 13)) ∷ (op MulAddOp (11 ∷ 13 ∷ 10 ∷ []) (Some 14)) ∷ (op LoadByteOp (14 ∷ []) (Some 15)) ∷ []) (Nonzero 15 9 4) 8388608 None) ∷ (block [] ((op (GlobalOp 24) [] (Some 16)) ∷ (op SubOp (0 ∷ 4 ∷ []) (Some 17)) ∷ (op (ConstOp 3) [] (Some 18)) ∷ (op AddOp (17 ∷ 18 ∷ []) (Some 19)) ∷ (op (ConstOp 7) [] (Some 20)) ∷ (op BelowOp (19 ∷ 20 ∷ []) None) ∷ (op (ConstOp 1) [] (Some 21)) ∷ (op MulAddOp (19 ∷ 21 ∷ 16 ∷ []) (Some 22)) ∷ (op LoadByteOp (22 ∷ []) (Some 23)) ∷ []) (Nonzero 23 9 5) 8388608 None) ∷ (block [] ((op (GlobalOp 8) [] (Some 24)) ∷ (op (ConstOp 4) [] (Some 25)) ∷ (op BelowOp (4 ∷ 25 ∷ []) None) ∷ (op (ConstOp 1) [] (Some 26)) ∷ (op MulAddOp (4 ∷ 26 ∷ 24 ∷ []) (Some 27)) ∷ (op (ConstOp 1) [] (Some 28)) ∷ (op StoreByteOp (27 ∷ 28 ∷ []) None) ∷ (op (GlobalOp 16) [] (Some 29)) ∷ (op AddOp (0 ∷ 4 ∷ []) (Some 30)) ∷ (op (ConstOp 7) [] (Some 31)) ∷ (op BelowOp (30 ∷ 31 ∷ []) None) ∷ (op (ConstOp 1) [] (Some 32)) ∷ (op MulAddOp (30 ∷ 32 ∷ 29 ∷ []) (Some 33)) ∷ (op (ConstOp 1) [] (Some 34)) ∷ (op StoreByteOp (33 ∷ 34 ∷ []) None) ∷ (op (GlobalOp 24) [] (Some 35)) ∷ (op SubOp (0 ∷ 4 ∷ []) (Some 36)) ∷ (op (ConstOp 3) [] (Some 37)) ∷ (op AddOp (36 ∷ 37 ∷ []) (Some 38)) ∷ (op (ConstOp 7) [] (Some 39)) ∷ (op BelowOp (38 ∷ 39 ∷ []) None) ∷ (op (ConstOp 1) [] (Some 40)) ∷ (op MulAddOp (38 ∷ 40 ∷ 35 ∷ []) (Some 41)) ∷ (op (ConstOp 1) [] (Some 42)) ∷ (op StoreByteOp (41 ∷ 42 ∷ []) None) ∷ (op (ConstOp 3) [] (Some 43)) ∷ []) (Branch 11 0 43 6 7) 4194304 None) ∷ (block [] ((op (ConstOp 1) [] (Some 44)) ∷ (op AddOp (0 ∷ 44 ∷ []) (Some 45)) ∷ (op (CallOp 0) (45 ∷ []) None) ∷ []) (Jump 8 []) 2097152 None) ∷ (block [] ((op (GlobalOp 32) [] (Some 46)) ∷ (op (ConstOp 1) [] (Some 47)) ∷ (op LoadOp (46 ∷ []) (Some 48)) ∷ (op AddOp (48 ∷ 47 ∷ []) (Some 49)) ∷ (op StoreOp (46 ∷ 49 ∷ []) None) ∷ []) (Jump 8 []) 2097152 None) ∷ (block [] ((op (GlobalOp 8) [] (Some 50)) ∷ (op (ConstOp 4) [] (Some 51)) ∷ (op BelowOp (4 ∷ 51 ∷ []) None) ∷ (op (ConstOp 1) [] (Some 52)) ∷ (op MulAddOp (4 ∷ 52 ∷ 50 ∷ []) (Some 53)) ∷ (op (ConstOp 0) [] (Some 54)) ∷ (op StoreByteOp (53 ∷ 54 ∷ []) None) ∷ (op (GlobalOp 16) [] (Some 55)) ∷ (op AddOp (0 ∷ 4 ∷ []) (Some 56)) ∷ (op (ConstOp 7) [] (Some 57)) ∷ (op BelowOp (56 ∷ 57 ∷ []) None) ∷ (op (ConstOp 1) [] (Some 58)) ∷ (op MulAddOp (56 ∷ 58 ∷ 55 ∷ []) (Some 59)) ∷ (op (ConstOp 0) [] (Some 60)) ∷ (op StoreByteOp (59 ∷ 60 ∷ []) None) ∷ (op (GlobalOp 24) [] (Some 61)) ∷ (op SubOp (0 ∷ 4 ∷ []) (Some 62)) ∷ (op (ConstOp 3) [] (Some 63)) ∷ (op AddOp (62 ∷ 63 ∷ []) (Some 64)) ∷ (op (ConstOp 7) [] (Some 65)) ∷ (op BelowOp (64 ∷ 65 ∷ []) None) ∷ (op (ConstOp 1) [] (Some 66)) ∷ (op MulAddOp (64 ∷ 66 ∷ 61 ∷ []) (Some 67)) ∷ (op (ConstOp 0) [] (Some 68)) ∷ (op StoreByteOp (67 ∷ 68 ∷ []) None) ∷ []) (Jump 10 []) 4194304 None) ∷ (block [] [] (Jump 10 []) 4194304 None) ∷ (block [] ((op (ConstOp 1) [] (Some 69)) ∷ (op AddOp (4 ∷ 69 ∷ []) (Some 70)) ∷ []) (Jump 1 (70 ∷ [])) 8388608 None) ∷ (block [] [] (Return None) 1048576 None) ∷ []) 71 1 true 2 0) ∷ (proc ((block [] ((op (ConstOp 0) [] (Some 0)) ∷ (op (CallOp 0) (0 ∷ []) None) ∷ (op (GlobalOp 32) [] (Some 1)) ∷ (op LoadOp (1 ∷ []) (Some 2)) ∷ (op (ConstOp 0) [] (Some 3)) ∷ (op (SvcOp 2) (2 ∷ 3 ∷ []) None) ∷ (op (ConstOp 10) [] (Some 4)) ∷ (op (SvcOp 1) (4 ∷ []) None) ∷ []) (Return None) 1048576 None) ∷ []) 5 0 false 0 0) ∷ [])

pub queens4_low : (b : Box (Unit {0}) Heap) (v : Vec (Unit {0}) Heap) → lowered (queens4 b v) ≡ queens4_procs
unfolding data_tree record_row fields_before
queens4_low b v = refl

-- MODULE R; VAR i: INTEGER; PROCEDURE F(): INTEGER; BEGIN RETURN 1 DIV i END F; BEGIN i := F() END R.
abbrev returnorder : Outside Program
returnorder b v = record { types = record { kinds = (Int ∷ Nothing ∷ []); records = []; signatures = [] }; modules = (record { name = []; objects = []; variables = (0 ∷ []); body = 1 } ∷ []); procedures = (record { «module» = 0; line = 1; is_body = false; formals = []; result = 0; locals = []; texts = []; body = []; answer = (Some (record { form = (Chain' b (Literal 1) (vec1 v) (more_of-Link (Operate Div (Load (Whole (Global 0 0) Int))) end_of-Link)); kind = Int })) } ∷ record { «module» = 0; line = 1; is_body = true; formals = []; result = 1; locals = []; texts = []; body = ((Assign (Whole (Global 0 0) Int) (record { form = (Call' b (Direct' 0 (vec0 v) end_of-Argument)); kind = Int })) ∷ []); answer = None } ∷ []); imports_in = false }

abbrev returnorder_procs : List Proc
returnorder_procs = ((proc ((block [] ((op (ConstOp 1) [] (Some 0)) ∷ (op (GlobalOp 8) [] (Some 1)) ∷ (op LoadOp (1 ∷ []) (Some 2)) ∷ (op DivOp (0 ∷ 2 ∷ []) (Some 3)) ∷ []) (Return (Some 3)) 1048576 None) ∷ []) 4 0 true 0 0) ∷ (proc ((block [] ((op (GlobalOp 8) [] (Some 0)) ∷ (op (CallOp 0) [] (Some 1)) ∷ (op StoreOp (0 ∷ 1 ∷ []) None) ∷ []) (Return None) 1048576 None) ∷ []) 2 0 false 0 0) ∷ [])

pub returnorder_low : (b : Box (Unit {0}) Heap) (v : Vec (Unit {0}) Heap) → lowered (returnorder b v) ≡ returnorder_procs
unfolding data_tree record_row fields_before
returnorder_low b v = refl

-- MODULE G; IMPORT Out; VAR i: INTEGER; PROCEDURE F(): INTEGER; BEGIN Out.Char(''f'') RETURN 70 END F; BEGIN REPEAT Out.Char(''r''); ASSERT(F() IN {i, F()}) UNTIL TRUE END G.
abbrev guardorder : Outside Program
guardorder b v = record { types = record { kinds = (Int ∷ Nothing ∷ []); records = []; signatures = [] }; modules = (record { name = []; objects = []; variables = (0 ∷ []); body = 1 } ∷ []); procedures = (record { «module» = 0; line = 1; is_body = false; formals = []; result = 0; locals = []; texts = []; body = ((OutChar (record { form = (Literal 102); kind = Char })) ∷ []); answer = (Some (record { form = (Literal 70); kind = Int })) } ∷ record { «module» = 0; line = 1; is_body = true; formals = []; result = 1; locals = []; texts = []; body = ((Repeat' (vec2 v) (more_of-Stmt (OutChar (record { form = (Literal 114); kind = Char })) (more_of-Stmt (Assert (record { form = (In' b (Call' b (Direct' 0 (vec0 v) end_of-Argument)) b (Chain' b (Literal 0) (vec2 v) (more_of-Link (Element (Load (Whole (Global 0 0) Int))) (more_of-Link (Element (Call' b (Direct' 0 (vec0 v) end_of-Argument))) end_of-Link)))); kind = BoolKind })) end_of-Stmt)) (record { form = (Literal 1); kind = BoolKind })) ∷ []); answer = None } ∷ []); imports_in = false }

abbrev guardorder_procs : List Proc
guardorder_procs = ((proc ((block [] ((op (ConstOp 102) [] (Some 0)) ∷ (op (SvcOp 1) (0 ∷ []) None) ∷ (op (ConstOp 70) [] (Some 1)) ∷ []) (Return (Some 1)) 1048576 None) ∷ []) 2 0 true 0 0) ∷ (proc ((block [] [] (Jump 1 []) 1048576 None) ∷ (block [] ((op (ConstOp 114) [] (Some 0)) ∷ (op (SvcOp 1) (0 ∷ []) None) ∷ (op (CallOp 0) [] (Some 1)) ∷ (op ElemOp (1 ∷ []) None) ∷ (op (ConstOp 0) [] (Some 2)) ∷ (op (GlobalOp 8) [] (Some 3)) ∷ (op LoadOp (3 ∷ []) (Some 4)) ∷ (op ElemOp (4 ∷ []) None) ∷ (op BitOp (4 ∷ []) (Some 5)) ∷ (op OrOp (2 ∷ 5 ∷ []) (Some 6)) ∷ (op (CallOp 0) [] (Some 7)) ∷ (op ElemOp (7 ∷ []) None) ∷ (op BitOp (7 ∷ []) (Some 8)) ∷ (op OrOp (6 ∷ 8 ∷ []) (Some 9)) ∷ (op HasOp (1 ∷ 9 ∷ []) (Some 10)) ∷ (op TrueOp (10 ∷ []) None) ∷ (op (ConstOp 1) [] (Some 11)) ∷ []) (Nonzero 11 3 2) 8388608 (Some 0)) ∷ (block [] [] (Jump 1 []) 8388608 None) ∷ (block [] [] (Return None) 1048576 None) ∷ []) 12 0 false 0 0) ∷ [])

pub guardorder_low : (b : Box (Unit {0}) Heap) (v : Vec (Unit {0}) Heap) → lowered (guardorder b v) ≡ guardorder_procs
unfolding data_tree record_row fields_before
guardorder_low b v = refl

-- MODULE L; IMPORT Out; VAR i: INTEGER; s: SET; BEGIN FOR i := 1 TO 3 DO Out.Int(i, 0) END; Out.Char(''x''); s := {i .. 64, 1 DIV 0} END L.
abbrev loopturns : Outside Program
loopturns b v = record { types = record { kinds = (Int ∷ SetKind ∷ Nothing ∷ []); records = []; signatures = [] }; modules = (record { name = []; objects = []; variables = (0 ∷ 1 ∷ []); body = 0 } ∷ []); procedures = (record { «module» = 0; line = 1; is_body = true; formals = []; result = 2; locals = []; texts = []; body = ((For' b (Whole (Global 0 0) Int) (record { form = (Literal 1); kind = Int }) (record { form = (Literal 3); kind = Int }) (pos 1) (vec1 v) (more_of-Stmt (OutInt (record { form = (Load (Whole (Global 0 0) Int)); kind = Int }) (record { form = (Literal 0); kind = Int })) end_of-Stmt)) ∷ (OutChar (record { form = (Literal 120); kind = Char })) ∷ (Assign (Whole (Global 0 1) SetKind) (record { form = (Chain' b (Literal 0) (vec2 v) (more_of-Link (Elements' b (Load (Whole (Global 0 0) Int)) b (Literal 64)) (more_of-Link (Element (Chain' b (Literal 1) (vec1 v) (more_of-Link (Operate Div (Literal 0)) end_of-Link))) end_of-Link))); kind = SetKind })) ∷ []); answer = None } ∷ []); imports_in = false }

abbrev loopturns_procs : List Proc
loopturns_procs = ((proc ((block [] ((op (GlobalOp 8) [] (Some 0)) ∷ (op (ConstOp 1) [] (Some 1)) ∷ (op StoreOp (0 ∷ 1 ∷ []) None) ∷ (op (ConstOp 3) [] (Some 2)) ∷ []) (Jump 1 []) 1048576 None) ∷ (block [] ((op (GlobalOp 8) [] (Some 3)) ∷ (op LoadOp (3 ∷ []) (Some 4)) ∷ []) (Branch 13 4 2 2 3) 8388608 (Some 0)) ∷ (block [] ((op (GlobalOp 8) [] (Some 5)) ∷ (op LoadOp (5 ∷ []) (Some 6)) ∷ (op (ConstOp 0) [] (Some 7)) ∷ (op (SvcOp 2) (6 ∷ 7 ∷ []) None) ∷ (op (GlobalOp 8) [] (Some 8)) ∷ (op (GlobalOp 8) [] (Some 9)) ∷ (op LoadOp (9 ∷ []) (Some 10)) ∷ (op (ConstOp 1) [] (Some 11)) ∷ (op AddOp (10 ∷ 11 ∷ []) (Some 12)) ∷ (op StoreOp (8 ∷ 12 ∷ []) None) ∷ []) (Jump 1 []) 8388608 None) ∷ (block [] ((op (ConstOp 120) [] (Some 13)) ∷ (op (SvcOp 1) (13 ∷ []) None) ∷ (op (GlobalOp 16) [] (Some 14)) ∷ (op (ConstOp 0) [] (Some 15)) ∷ (op (GlobalOp 8) [] (Some 16)) ∷ (op LoadOp (16 ∷ []) (Some 17)) ∷ (op ElemOp (17 ∷ []) None) ∷ (op (ConstOp 64) [] (Some 18)) ∷ (op ElemOp (18 ∷ []) None) ∷ (op SpanOp (17 ∷ 18 ∷ []) (Some 19)) ∷ (op OrOp (15 ∷ 19 ∷ []) (Some 20)) ∷ (op (ConstOp 1) [] (Some 21)) ∷ (op (ConstOp 0) [] (Some 22)) ∷ (op DivOp (21 ∷ 22 ∷ []) (Some 23)) ∷ (op ElemOp (23 ∷ []) None) ∷ (op BitOp (23 ∷ []) (Some 24)) ∷ (op OrOp (20 ∷ 24 ∷ []) (Some 25)) ∷ (op StoreOp (14 ∷ 25 ∷ []) None) ∷ []) (Return None) 1048576 None) ∷ []) 26 0 false 0 0) ∷ [])

pub loopturns_low : (b : Box (Unit {0}) Heap) (v : Vec (Unit {0}) Heap) → lowered (loopturns b v) ≡ loopturns_procs
unfolding data_tree record_row fields_before
loopturns_low b v = refl

-- MODULE L; IMPORT Out; VAR i: INTEGER; BEGIN FOR i := 1 TO 3 DO Out.Int(i, 0) END; Out.Char(''x'') END L.
abbrev loopturn : Outside Program
loopturn b v = record { types = record { kinds = (Int ∷ Nothing ∷ []); records = []; signatures = [] }; modules = (record { name = []; objects = []; variables = (0 ∷ []); body = 0 } ∷ []); procedures = (record { «module» = 0; line = 1; is_body = true; formals = []; result = 1; locals = []; texts = []; body = ((For' b (Whole (Global 0 0) Int) (record { form = (Literal 1); kind = Int }) (record { form = (Literal 3); kind = Int }) (pos 1) (vec1 v) (more_of-Stmt (OutInt (record { form = (Load (Whole (Global 0 0) Int)); kind = Int }) (record { form = (Literal 0); kind = Int })) end_of-Stmt)) ∷ (OutChar (record { form = (Literal 120); kind = Char })) ∷ []); answer = None } ∷ []); imports_in = false }

abbrev loopturn_procs : List Proc
loopturn_procs = ((proc ((block [] ((op (GlobalOp 8) [] (Some 0)) ∷ (op (ConstOp 1) [] (Some 1)) ∷ (op StoreOp (0 ∷ 1 ∷ []) None) ∷ (op (ConstOp 3) [] (Some 2)) ∷ []) (Jump 1 []) 1048576 None) ∷ (block [] ((op (GlobalOp 8) [] (Some 3)) ∷ (op LoadOp (3 ∷ []) (Some 4)) ∷ []) (Branch 13 4 2 2 3) 8388608 (Some 0)) ∷ (block [] ((op (GlobalOp 8) [] (Some 5)) ∷ (op LoadOp (5 ∷ []) (Some 6)) ∷ (op (ConstOp 0) [] (Some 7)) ∷ (op (SvcOp 2) (6 ∷ 7 ∷ []) None) ∷ (op (GlobalOp 8) [] (Some 8)) ∷ (op (GlobalOp 8) [] (Some 9)) ∷ (op LoadOp (9 ∷ []) (Some 10)) ∷ (op (ConstOp 1) [] (Some 11)) ∷ (op AddOp (10 ∷ 11 ∷ []) (Some 12)) ∷ (op StoreOp (8 ∷ 12 ∷ []) None) ∷ []) (Jump 1 []) 8388608 None) ∷ (block [] ((op (ConstOp 120) [] (Some 13)) ∷ (op (SvcOp 1) (13 ∷ []) None) ∷ []) (Return None) 1048576 None) ∷ []) 14 0 false 0 0) ∷ [])

pub loopturn_low : (b : Box (Unit {0}) Heap) (v : Vec (Unit {0}) Heap) → lowered (loopturn b v) ≡ loopturn_procs
unfolding data_tree record_row fields_before
loopturn_low b v = refl

-- MODULE C; IMPORT Out; VAR a: ARRAY 3 OF CHAR; PROCEDURE P(VAR x: ARRAY OF CHAR; y: ARRAY OF CHAR); BEGIN x := y; Out.String(x) END P; BEGIN a := ''hi''; P(a, a) END C.
abbrev copyself : Outside Program
copyself b v = record { types = record { kinds = (Char ∷ (Array (Some 3) 0) ∷ (Array None 0) ∷ Nothing ∷ []); records = []; signatures = [] }; modules = (record { name = []; objects = []; variables = (1 ∷ []); body = 1 } ∷ []); procedures = (record { «module» = 0; line = 1; is_body = false; formals = (record { mode = OfOpen; variable = true; type_number = 2 } ∷ record { mode = OfOpen; variable = false; type_number = 2 } ∷ []); result = 3; locals = []; texts = []; body = ((CopyArray (Whole (Parameter 0) (Array None 0)) (Whole (Parameter 1) (Array None 0))) ∷ (OutString (Whole (Parameter 0) (Array None 0))) ∷ []); answer = None } ∷ record { «module» = 0; line = 1; is_body = true; formals = []; result = 3; locals = []; texts = ((104 ∷ 105 ∷ []) ∷ []); body = ((CopyArray (Whole (Global 0 0) (Array (Some 3) 0)) (Whole (Text 0) (TextKind 2))) ∷ (Invoke (Direct' 0 (vec2 v) (more_of-Argument (ByOpen (Whole (Global 0 0) (Array (Some 3) 0))) (more_of-Argument (ByOpen (Whole (Global 0 0) (Array (Some 3) 0))) end_of-Argument)))) ∷ []); answer = None } ∷ []); imports_in = false }

abbrev copyself_procs : List Proc
copyself_procs = ((proc ((block (0 ∷ 1 ∷ 2 ∷ 3 ∷ []) ((op FitsOp (3 ∷ 1 ∷ []) None) ∷ (op (ConstOp 1) [] (Some 4)) ∷ (op MulOp (3 ∷ 4 ∷ []) (Some 5)) ∷ (op CopyOp (0 ∷ 2 ∷ 5 ∷ []) None) ∷ (op (ConstOp 1) [] (Some 6)) ∷ (op (SvcOp 3) (0 ∷ 1 ∷ 6 ∷ []) None) ∷ []) (Return None) 1048576 None) ∷ []) 7 4 true 0 0) ∷ (proc ((block [] ((op (GlobalOp 8) [] (Some 0)) ∷ (op (GlobalOp 16) [] (Some 1)) ∷ (op (ConstOp 3) [] (Some 2)) ∷ (op CopyOp (0 ∷ 1 ∷ 2 ∷ []) None) ∷ (op (GlobalOp 8) [] (Some 3)) ∷ (op (ConstOp 3) [] (Some 4)) ∷ (op (GlobalOp 8) [] (Some 5)) ∷ (op (ConstOp 3) [] (Some 6)) ∷ (op (CallOp 0) (3 ∷ 4 ∷ 5 ∷ 6 ∷ []) None) ∷ []) (Return None) 1048576 None) ∷ []) 7 0 false 0 0) ∷ [])

pub copyself_low : (b : Box (Unit {0}) Heap) (v : Vec (Unit {0}) Heap) → lowered (copyself b v) ≡ copyself_procs
unfolding data_tree record_row fields_before
copyself_low b v = refl

pub copyself_constants : (b : Box (Unit {0}) Heap) (v : Vec (Unit {0}) Heap) → constants (copyself b v) (packed (copyself b v).types) 268435456 ≡ (104 ∷ 105 ∷ 0 ∷ 0 ∷ 0 ∷ 0 ∷ 0 ∷ 0 ∷ [])
unfolding data_tree record_row fields_before
copyself_constants b v = refl

-- MODULE V; TYPE F = PROCEDURE (s: ARRAY OF CHAR); VAR f: F; PROCEDURE P(s: ARRAY OF CHAR); VAR i: INTEGER; BEGIN i := LEN(s) END P; BEGIN f := P; f(''abc'') END V.
abbrev stringcall : Outside Program
stringcall b v = record { types = record { kinds = (Char ∷ (Array None 0) ∷ Nothing ∷ (ProcedureKind 0) ∷ Int ∷ []); records = []; signatures = (record { formals = (record { mode = OfOpen; variable = false; type_number = 1 } ∷ []); result = 2 } ∷ []) }; modules = (record { name = []; objects = []; variables = (3 ∷ []); body = 1 } ∷ []); procedures = (record { «module» = 0; line = 1; is_body = false; formals = (record { mode = OfOpen; variable = false; type_number = 1 } ∷ []); result = 2; locals = (4 ∷ []); texts = []; body = ((Assign (Whole (Local 0) Int) (record { form = (Length (Whole (Parameter 0) (Array None 0))); kind = Int })) ∷ []); answer = None } ∷ record { «module» = 0; line = 1; is_body = true; formals = []; result = 2; locals = []; texts = ((97 ∷ 98 ∷ 99 ∷ []) ∷ []); body = ((Assign (Whole (Global 0 0) (ProcedureKind 0)) (record { form = (Routine 0); kind = (ProcedureKind 0) })) ∷ (Invoke (Indirect' (Whole (Global 0 0) (ProcedureKind 0)) (vec1 v) (more_of-Argument (ByOpen (Whole (Text 0) (TextKind 3))) end_of-Argument))) ∷ []); answer = None } ∷ []); imports_in = false }

abbrev stringcall_procs : List Proc
stringcall_procs = ((proc ((block (0 ∷ 1 ∷ []) ((op (ConstOp 0) [] (Some 2)) ∷ []) (Return None) 1048576 None) ∷ []) 3 2 true 1 0) ∷ (proc ((block [] ((op (GlobalOp 8) [] (Some 0)) ∷ (op (CodeOp 0) [] (Some 1)) ∷ (op StoreOp (0 ∷ 1 ∷ []) None) ∷ (op (GlobalOp 8) [] (Some 2)) ∷ (op LoadOp (2 ∷ []) (Some 3)) ∷ (op (GlobalOp 16) [] (Some 4)) ∷ (op (ConstOp 4) [] (Some 5)) ∷ (op NotNilOp (3 ∷ []) None) ∷ (op CallAtOp (3 ∷ 4 ∷ 5 ∷ []) None) ∷ []) (Return None) 1048576 None) ∷ []) 6 0 false 0 0) ∷ [])

pub stringcall_low : (b : Box (Unit {0}) Heap) (v : Vec (Unit {0}) Heap) → lowered (stringcall b v) ≡ stringcall_procs
unfolding data_tree record_row fields_before
stringcall_low b v = refl

pub stringcall_constants : (b : Box (Unit {0}) Heap) (v : Vec (Unit {0}) Heap) → constants (stringcall b v) (packed (stringcall b v).types) 268435456 ≡ (97 ∷ 98 ∷ 99 ∷ 0 ∷ 0 ∷ 0 ∷ 0 ∷ 0 ∷ [])
unfolding data_tree record_row fields_before
stringcall_constants b v = refl

-- MODULE Z; TYPE R = RECORD END; VAR a: ARRAY 1048576, 1048576 OF R; PROCEDURE P; VAR b: ARRAY 1048576 OF R; BEGIN b[1048575] := a[0][1] END P; BEGIN P END Z.
abbrev emptiest : Outside Program
emptiest b v = record { types = record { kinds = ((RecordKind 0) ∷ (Array (Some 1048576) 0) ∷ (Array (Some 1048576) 1) ∷ Nothing ∷ []); records = (record { «module» = 0; base = None; level = 0; fields = []; cells = 0; extent = record { bytes = 0; wide = false } } ∷ []); signatures = [] }; modules = (record { name = []; objects = []; variables = (2 ∷ []); body = 1 } ∷ []); procedures = (record { «module» = 0; line = 1; is_body = false; formals = []; result = 3; locals = (1 ∷ []); texts = []; body = ((CopyRecord (Part' b (Local 0) (RecordKind 0) (vec1 v) (more_of-Selector (Index (Some 1048576) 0 (Literal 1048575)) end_of-Selector)) (Part' b (Global 0 0) (RecordKind 0) (vec2 v) (more_of-Selector (Index (Some 1048576) 1 (Literal 0)) (more_of-Selector (Index (Some 1048576) 0 (Literal 1)) end_of-Selector)))) ∷ []); answer = None } ∷ record { «module» = 0; line = 1; is_body = true; formals = []; result = 3; locals = []; texts = []; body = ((Invoke (Direct' 0 (vec0 v) end_of-Argument)) ∷ []); answer = None } ∷ []); imports_in = false }

abbrev emptiest_procs : List Proc
emptiest_procs = ((proc ((block [] ((op (LocalOp 0) [] (Some 0)) ∷ (op (ConstOp 0) [] (Some 1)) ∷ (op ZeroOp (0 ∷ 1 ∷ []) None) ∷ (op (LocalOp 0) [] (Some 2)) ∷ (op (ConstOp 1048575) [] (Some 3)) ∷ (op (ConstOp 1048576) [] (Some 4)) ∷ (op BelowOp (3 ∷ 4 ∷ []) None) ∷ (op (ConstOp 0) [] (Some 5)) ∷ (op MulAddOp (3 ∷ 5 ∷ 2 ∷ []) (Some 6)) ∷ (op (GlobalOp 8) [] (Some 7)) ∷ (op (ConstOp 0) [] (Some 8)) ∷ (op (ConstOp 1048576) [] (Some 9)) ∷ (op BelowOp (8 ∷ 9 ∷ []) None) ∷ (op (ConstOp 0) [] (Some 10)) ∷ (op MulAddOp (8 ∷ 10 ∷ 7 ∷ []) (Some 11)) ∷ (op (ConstOp 1) [] (Some 12)) ∷ (op (ConstOp 1048576) [] (Some 13)) ∷ (op BelowOp (12 ∷ 13 ∷ []) None) ∷ (op (ConstOp 0) [] (Some 14)) ∷ (op MulAddOp (12 ∷ 14 ∷ 11 ∷ []) (Some 15)) ∷ (op (ConstOp 0) [] (Some 16)) ∷ (op CopyOp (6 ∷ 15 ∷ 16 ∷ []) None) ∷ []) (Return None) 1048576 None) ∷ []) 17 0 true 0 0) ∷ (proc ((block [] ((op (CallOp 0) [] None) ∷ []) (Return None) 1048576 None) ∷ []) 0 0 false 0 0) ∷ [])

pub emptiest_low : (b : Box (Unit {0}) Heap) (v : Vec (Unit {0}) Heap) → lowered (emptiest b v) ≡ emptiest_procs
unfolding data_tree record_row fields_before
emptiest_low b v = refl

pub emptiest_constants : (b : Box (Unit {0}) Heap) (v : Vec (Unit {0}) Heap) → constants (emptiest b v) (packed (emptiest b v).types) 268435456 ≡ (8 ∷ 0 ∷ 0 ∷ 16 ∷ 0 ∷ 0 ∷ 0 ∷ 0 ∷ 0 ∷ 0 ∷ 0 ∷ 0 ∷ 0 ∷ 0 ∷ 0 ∷ 0 ∷ 0 ∷ 0 ∷ 0 ∷ 0 ∷ 0 ∷ 0 ∷ 0 ∷ 0 ∷ 0 ∷ 0 ∷ 0 ∷ 0 ∷ 0 ∷ 0 ∷ 0 ∷ 0 ∷ 0 ∷ 0 ∷ 0 ∷ 0 ∷ 0 ∷ 0 ∷ 0 ∷ 0 ∷ 0 ∷ 0 ∷ 0 ∷ 0 ∷ 0 ∷ 0 ∷ 0 ∷ 0 ∷ 0 ∷ 0 ∷ 0 ∷ 0 ∷ 0 ∷ 0 ∷ 0 ∷ 0 ∷ 0 ∷ 0 ∷ 0 ∷ 0 ∷ 0 ∷ 0 ∷ 0 ∷ 0 ∷ 0 ∷ 0 ∷ 0 ∷ 0 ∷ 0 ∷ 0 ∷ 0 ∷ 0 ∷ 0 ∷ 0 ∷ 0 ∷ 0 ∷ 0 ∷ 0 ∷ 0 ∷ 0 ∷ 0 ∷ 0 ∷ 0 ∷ 0 ∷ 0 ∷ 0 ∷ 0 ∷ 0 ∷ 0 ∷ 0 ∷ 0 ∷ 0 ∷ 0 ∷ 0 ∷ 0 ∷ 0 ∷ 0 ∷ 0 ∷ 0 ∷ 0 ∷ 0 ∷ 0 ∷ 0 ∷ 0 ∷ 0 ∷ 0 ∷ 0 ∷ 0 ∷ 0 ∷ 0 ∷ 0 ∷ 0 ∷ 0 ∷ 0 ∷ 0 ∷ 0 ∷ 0 ∷ 0 ∷ 0 ∷ 0 ∷ 0 ∷ 0 ∷ 0 ∷ 0 ∷ 0 ∷ 0 ∷ 0 ∷ 0 ∷ [])
unfolding data_tree record_row fields_before
emptiest_constants b v = refl
