-- Worked programs: their checked trees, and the procedures that they become. Written by bench/lowered_rows.py from their texts.
use Rattle.std.specs.Prelude.{◌≡◌, ℕ, List, [], ◌∷◌, Bool, true, false, Option, Some, None, pos, negsuc, Vec, Box}
use Rattle.std.proofs.Common.{refl, arith}
use Rattle.std.specs.declared.alloc.Global.{Global as Heap}
use Rattle.block_runs.specs.declared.code.Code.{Code}
use Rattle.block_runs.specs.declared.code.Code.TheVariants.{Const as ConstOp, Global as GlobalOp, Local as LocalOp, Plus as PlusOp, Code as CodeOp, Arg as ArgOp, Load as LoadOp, Store as StoreOp, LoadByte as LoadByteOp, StoreByte as StoreByteOp, Add as AddOp, Sub as SubOp, And as AndOp, Or as OrOp, Eor as EorOp, Bic as BicOp, Lsl as LslOp, Asr as AsrOp, Ror as RorOp, Mul as MulOp, MulAdd as MulAddOp, Neg as NegOp, Not as NotOp, Abs as AbsOp, Max0 as Max0Op, Odd as OddOp, Set as SetOp, Flip as FlipOp, Bit as BitOp, Span as SpanOp, Has as HasOp, Div as DivOp, Mod as ModOp, Below as BelowOp, Fits as FitsOp, Byte as ByteOp, Elem as ElemOp, NotNil as NotNilOp, True as TrueOp, IsPtr as IsPtrOp, IsTag as IsTagOp, GuardPtr as GuardPtrOp, GuardTag as GuardTagOp, New as NewOp, Call as CallOp, CallAt as CallAtOp, Copy as CopyOp, Zero as ZeroOp, Compare as CompareOp, Svc as SvcOp}
use Rattle.block_runs.specs.declared.end.End.{End}
use Rattle.block_runs.specs.declared.end.End.TheVariants.{Jump, Branch, Nonzero, Return, Trap}
use Rattle.ssa_core.specs.declared.procedure.Op.{Op}
use Rattle.ssa_core.specs.declared.procedure.Block.{Block}
use Rattle.ssa_core.specs.declared.procedure.Proc.{Proc}
use Rattle.ssa_lowered.specs.Data.{packed}
use Rattle.ssa_lowered.specs.Constants.{constants}
use Rattle.ssa_lowered.specs.Lowered.{lowered}
use Rattle.ob_types.specs.declared.types.TypeKind.TheVariants.{Int, Char, Nil, Array, Nothing}
use Rattle.ob_types.specs.declared.types.TypeKind.TheVariants.{Bool as BoolKind, Byte as ByteKind, Set as SetKind, Text as TextKind, Record as RecordKind, Pointer as PointerKind, Procedure as ProcedureKind}
use Rattle.ob_types.specs.declared.types.Mode.TheVariants.{Place}
use Rattle.ob_types.specs.declared.types.Mode.TheVariants.{Value as OfValue, Record as OfRecord, Open as OfOpen}
use Rattle.ob_types.specs.declared.tree.Unary.TheVariants.{Negate, Complement, Not, Abs, Odd}
use Rattle.ob_types.specs.declared.tree.Binary.TheVariants.{Add, Subtract, Multiply, Div, Mod, Union, Difference, Intersection, SymmetricDifference, Subset, Superset, Lsl, Asr, Ror}
use Rattle.ob_types.specs.declared.tree.Relation.TheVariants.{Equal, Unequal, Less, Greater, GreaterEqual}
use Rattle.ob_types.specs.declared.tree.Base.TheVariants.{Done, Global, Local, Parameter, Text}
use Rattle.ob_types.specs.declared.tree.Expr.{Literal, Routine, Load, Guard', Unary', Chain', Compare', CompareTexts', In', IsPointer', IsParameter, Byte', Length, Call', end_of-Link, more_of-Link}
use Rattle.ob_types.specs.declared.tree.Link.{Operate, And, Or, Element, Elements'}
use Rattle.ob_types.specs.declared.tree.Designator.{Whole, Part', end_of-Selector, more_of-Selector}
use Rattle.ob_types.specs.declared.tree.Selector.{Index, Field, Dereference, Narrow}
use Rattle.ob_types.specs.declared.tree.Call.{Direct', Indirect', end_of-Argument, more_of-Argument}
use Rattle.ob_types.specs.declared.tree.Argument.{ByValue, ByPlace, ByRecord, ByOpen}
use Rattle.ob_types.specs.declared.statements.Label.TheVariants.{One, Range}
use Rattle.ob_types.specs.declared.statements.Stmt.{Assign, CopyArray, CopyRecord, Increase, Decrease, Include, Exclude, New, Assert, OutChar, OutInt, OutString, OutLn, InChar, If', While', Repeat', For', Case', CasePointer', CaseParameter', end_of-Stmt, more_of-Stmt, end_of-Branch, more_of-Branch, end_of-CasePart, more_of-CasePart, end_of-TypePart, more_of-TypePart}
use Rattle.ob_types.specs.declared.statements.Stmt.{Call as Invoke}
use Rattle.ob_types.specs.declared.program.Program.{Program}
use Rattle.ob_types.specs.Trees.{data_tree, record_row, fields_before}

-- the outside of a box and of a vector
abbrev Outside : Type 0 → Type 0
Outside A = Box (Unit {0}) Heap → Vec (Unit {0}) Heap → A

-- procedures, blocks and operations, in few words
abbrev op : Code → List ℕ → Option ℕ → Op
op code uses def = record { code = code; uses = uses; def = def }

abbrev block : List ℕ → List Op → End → ℕ → Option ℕ → Block
block params ops end freq enter = record { params = params; ops = ops; end = end; freq = freq; enter = enter }

abbrev proc : List Block → (values args : ℕ) → Bool → (cells bytes : ℕ) → Proc
proc blocks values args counted cells bytes = record { blocks = blocks; values = values; args = args; counted = counted; local_cells = cells; local_bytes = bytes }

abbrev vec0 : Vec (Unit {0}) Heap → Vec (Unit {0}) Heap
vec0 v = record { ptr = v.ptr; len = 0; cap = 0; alloc = v.alloc; items = []; ok = (refl, omega arith); small = omega arith }

abbrev vec1 : Vec (Unit {0}) Heap → Vec (Unit {0}) Heap
vec1 v = record { ptr = v.ptr; len = 1; cap = 1; alloc = v.alloc; items = tt ∷ []; ok = (refl, omega arith); small = omega arith }

abbrev vec2 : Vec (Unit {0}) Heap → Vec (Unit {0}) Heap
vec2 v = record { ptr = v.ptr; len = 2; cap = 2; alloc = v.alloc; items = tt ∷ tt ∷ []; ok = (refl, omega arith); small = omega arith }

abbrev vec3 : Vec (Unit {0}) Heap → Vec (Unit {0}) Heap
vec3 v = record { ptr = v.ptr; len = 3; cap = 3; alloc = v.alloc; items = tt ∷ tt ∷ tt ∷ []; ok = (refl, omega arith); small = omega arith }

abbrev vec4 : Vec (Unit {0}) Heap → Vec (Unit {0}) Heap
vec4 v = record { ptr = v.ptr; len = 4; cap = 4; alloc = v.alloc; items = tt ∷ tt ∷ tt ∷ tt ∷ []; ok = (refl, omega arith); small = omega arith }

abbrev vec5 : Vec (Unit {0}) Heap → Vec (Unit {0}) Heap
vec5 v = record { ptr = v.ptr; len = 5; cap = 5; alloc = v.alloc; items = tt ∷ tt ∷ tt ∷ tt ∷ tt ∷ []; ok = (refl, omega arith); small = omega arith }

abbrev vec6 : Vec (Unit {0}) Heap → Vec (Unit {0}) Heap
vec6 v = record { ptr = v.ptr; len = 6; cap = 6; alloc = v.alloc; items = tt ∷ tt ∷ tt ∷ tt ∷ tt ∷ tt ∷ []; ok = (refl, omega arith); small = omega arith }

abbrev vec7 : Vec (Unit {0}) Heap → Vec (Unit {0}) Heap
vec7 v = record { ptr = v.ptr; len = 7; cap = 7; alloc = v.alloc; items = tt ∷ tt ∷ tt ∷ tt ∷ tt ∷ tt ∷ tt ∷ []; ok = (refl, omega arith); small = omega arith }

-- MODULE M; VAR x: INTEGER; PROCEDURE P(y: INTEGER); VAR z: INTEGER; BEGIN z := y; CASE y OF END; z := 2; x := z END P; BEGIN CASE x OF END END M.
abbrev empty_case : Outside Program
empty_case b v = record { types = record { kinds = (Int ∷ Nothing ∷ []); records = []; signatures = [] }; modules = (record { name = []; objects = []; variables = (0 ∷ []); body = 1 } ∷ []); procedures = (record { «module» = 0; line = 1; is_body = false; formals = (record { mode = OfValue; variable = false; type_number = 0 } ∷ []); result = 1; locals = (0 ∷ []); texts = []; body = ((Assign (Whole (Local 1) Int) (record { form = (Load (Whole (Local 0) Int)); kind = Int })) ∷ (Case' (record { form = (Load (Whole (Local 0) Int)); kind = Int }) (vec0 v) end_of-CasePart) ∷ (Assign (Whole (Local 1) Int) (record { form = (Literal 2); kind = Int })) ∷ (Assign (Whole (Global 0 0) Int) (record { form = (Load (Whole (Local 1) Int)); kind = Int })) ∷ []); answer = None } ∷ record { «module» = 0; line = 1; is_body = true; formals = []; result = 1; locals = []; texts = []; body = ((Case' (record { form = (Load (Whole (Global 0 0) Int)); kind = Int }) (vec0 v) end_of-CasePart) ∷ []); answer = None } ∷ []); imports_in = false }

abbrev empty_case_procs : List Proc
empty_case_procs = ((proc ((block (0 ∷ []) ((op (ConstOp 0) [] (Some 1)) ∷ []) (Jump 1 []) 1048576 None) ∷ (block [] [] (Trap 6) 524288 None) ∷ (block [] ((op (ConstOp 2) [] (Some 2)) ∷ (op (GlobalOp 8) [] (Some 3)) ∷ (op StoreOp (3 ∷ 2 ∷ []) None) ∷ []) (Return None) 1048576 None) ∷ []) 4 1 true 2 0) ∷ (proc ((block [] ((op (GlobalOp 8) [] (Some 0)) ∷ (op LoadOp (0 ∷ []) (Some 1)) ∷ []) (Jump 1 []) 1048576 None) ∷ (block [] [] (Trap 6) 524288 None) ∷ (block [] [] (Return None) 1048576 None) ∷ []) 2 0 false 0 0) ∷ [])

pub empty_case_low : (b : Box (Unit {0}) Heap) (v : Vec (Unit {0}) Heap) → lowered (empty_case b v) ≡ empty_case_procs
unfolding data_tree record_row fields_before
empty_case_low b v = refl

-- MODULE M; VAR g: INTEGER; PROCEDURE P(a: INTEGER; VAR b: INTEGER; c: ARRAY OF CHAR; d: BYTE; e: CHAR; VAR f: BYTE): INTEGER; BEGIN b := a + d; f := d; g := LEN(c); INC(f, d); RETURN ORD(e) + d END P; PROCEDURE Q; VAR u: INTEGER; v: BYTE; BEGIN u := P(1, u, ''xyz'', 3, ''a'', v); g := u + v END Q; BEGIN Q END M.
abbrev words_six : Outside Program
words_six b v = record { types = record { kinds = (Int ∷ Char ∷ (Array None 1) ∷ ByteKind ∷ Nothing ∷ []); records = []; signatures = [] }; modules = (record { name = []; objects = []; variables = (0 ∷ []); body = 2 } ∷ []); procedures = (record { «module» = 0; line = 1; is_body = false; formals = (record { mode = OfValue; variable = false; type_number = 0 } ∷ record { mode = Place; variable = true; type_number = 0 } ∷ record { mode = OfOpen; variable = false; type_number = 2 } ∷ record { mode = OfValue; variable = false; type_number = 3 } ∷ record { mode = OfValue; variable = false; type_number = 1 } ∷ record { mode = Place; variable = true; type_number = 3 } ∷ []); result = 0; locals = []; texts = []; body = ((Assign (Whole (Parameter 1) Int) (record { form = (Chain' b (Load (Whole (Local 0) Int)) (vec1 v) (more_of-Link (Operate Add (Load (Whole (Local 1) ByteKind))) end_of-Link)); kind = Int })) ∷ (Assign (Whole (Parameter 5) ByteKind) (record { form = (Byte' b (Load (Whole (Local 1) ByteKind))); kind = ByteKind })) ∷ (Assign (Whole (Global 0 0) Int) (record { form = (Length (Whole (Parameter 2) (Array None 1))); kind = Int })) ∷ (Increase (Whole (Parameter 5) ByteKind) (record { form = (Load (Whole (Local 1) ByteKind)); kind = ByteKind })) ∷ []); answer = (Some (record { form = (Chain' b (Load (Whole (Local 2) Char)) (vec1 v) (more_of-Link (Operate Add (Load (Whole (Local 1) ByteKind))) end_of-Link)); kind = Int })) } ∷ record { «module» = 0; line = 1; is_body = false; formals = []; result = 4; locals = (0 ∷ 3 ∷ []); texts = ((120 ∷ 121 ∷ 122 ∷ []) ∷ []); body = ((Assign (Whole (Local 0) Int) (record { form = (Call' b (Direct' 0 (vec6 v) (more_of-Argument (ByValue (Literal 1)) (more_of-Argument (ByPlace (Whole (Local 0) Int)) (more_of-Argument (ByOpen (Whole (Text 0) (TextKind 3))) (more_of-Argument (ByValue (Byte' b (Literal 3))) (more_of-Argument (ByValue (Literal 97)) (more_of-Argument (ByPlace (Whole (Local 1) ByteKind)) end_of-Argument)))))))); kind = Int })) ∷ (Assign (Whole (Global 0 0) Int) (record { form = (Chain' b (Load (Whole (Local 0) Int)) (vec1 v) (more_of-Link (Operate Add (Load (Whole (Local 1) ByteKind))) end_of-Link)); kind = Int })) ∷ []); answer = None } ∷ record { «module» = 0; line = 1; is_body = true; formals = []; result = 4; locals = []; texts = []; body = ((Invoke (Direct' 1 (vec0 v) end_of-Argument)) ∷ []); answer = None } ∷ []); imports_in = false }

abbrev words_six_procs : List Proc
words_six_procs = ((proc ((block (0 ∷ 1 ∷ 2 ∷ 3 ∷ []) ((op (ArgOp 4) [] (Some 4)) ∷ (op (ArgOp 5) [] (Some 5)) ∷ (op (ArgOp 6) [] (Some 6)) ∷ (op AddOp (0 ∷ 4 ∷ []) (Some 7)) ∷ (op StoreOp (1 ∷ 7 ∷ []) None) ∷ (op ByteOp (4 ∷ []) None) ∷ (op StoreByteOp (6 ∷ 4 ∷ []) None) ∷ (op (GlobalOp 8) [] (Some 8)) ∷ (op StoreOp (8 ∷ 3 ∷ []) None) ∷ (op LoadByteOp (6 ∷ []) (Some 9)) ∷ (op AddOp (9 ∷ 4 ∷ []) (Some 10)) ∷ (op ByteOp (10 ∷ []) None) ∷ (op StoreByteOp (6 ∷ 10 ∷ []) None) ∷ (op AddOp (5 ∷ 4 ∷ []) (Some 11)) ∷ []) (Return (Some 11)) 1048576 None) ∷ []) 12 7 true 3 0) ∷ (proc ((block [] ((op (LocalOp 16) [] (Some 0)) ∷ (op (ConstOp 0) [] (Some 1)) ∷ (op StoreOp (0 ∷ 1 ∷ []) None) ∷ (op (LocalOp 8) [] (Some 2)) ∷ (op (ConstOp 0) [] (Some 3)) ∷ (op StoreByteOp (2 ∷ 3 ∷ []) None) ∷ (op (LocalOp 16) [] (Some 4)) ∷ (op (ConstOp 1) [] (Some 5)) ∷ (op (LocalOp 16) [] (Some 6)) ∷ (op (GlobalOp 16) [] (Some 7)) ∷ (op (ConstOp 4) [] (Some 8)) ∷ (op (ConstOp 3) [] (Some 9)) ∷ (op ByteOp (9 ∷ []) None) ∷ (op (ConstOp 97) [] (Some 10)) ∷ (op (LocalOp 8) [] (Some 11)) ∷ (op (CallOp 0) (5 ∷ 6 ∷ 7 ∷ 8 ∷ 9 ∷ 10 ∷ 11 ∷ []) (Some 12)) ∷ (op StoreOp (4 ∷ 12 ∷ []) None) ∷ (op (GlobalOp 8) [] (Some 13)) ∷ (op (LocalOp 16) [] (Some 14)) ∷ (op LoadOp (14 ∷ []) (Some 15)) ∷ (op (LocalOp 8) [] (Some 16)) ∷ (op LoadByteOp (16 ∷ []) (Some 17)) ∷ (op AddOp (15 ∷ 17 ∷ []) (Some 18)) ∷ (op StoreOp (13 ∷ 18 ∷ []) None) ∷ []) (Return None) 1048576 None) ∷ []) 19 0 true 2 16) ∷ (proc ((block [] ((op (CallOp 1) [] None) ∷ []) (Return None) 1048576 None) ∷ []) 0 0 false 0 0) ∷ [])

pub words_six_low : (b : Box (Unit {0}) Heap) (v : Vec (Unit {0}) Heap) → lowered (words_six b v) ≡ words_six_procs
unfolding data_tree record_row fields_before
words_six_low b v = refl

pub words_six_constants : (b : Box (Unit {0}) Heap) (v : Vec (Unit {0}) Heap) → constants (words_six b v) (packed (words_six b v).types) 268435456 ≡ (120 ∷ 121 ∷ 122 ∷ 0 ∷ 0 ∷ 0 ∷ 0 ∷ 0 ∷ [])
unfolding data_tree record_row fields_before
words_six_constants b v = refl

-- MODULE M; TYPE R = RECORD a: INTEGER; b: ARRAY 3 OF INTEGER END; S = RECORD (R) c: CHAR; r: R END; T = RECORD (S) p: POINTER TO S END; P = POINTER TO R; Q = POINTER TO T; VAR p: P; q: Q; r: R; s: S; PROCEDURE F(VAR x: R); BEGIN IF x IS S THEN x(S).c := ''a''; x(S).r.b[2] := x.a END; IF x IS T THEN NEW(x(T).p); x(T).p.c := ''z''; F(x(T).p.r); F(x(T).p^); F(x); F(x(S)) END END F; PROCEDURE G(x: S; y: R): INTEGER; BEGIN RETURN x.r.b[y.a] END G; BEGIN NEW(p); NEW(q); p := q; p.b[1] := 5; q.r.b[0] := 3; r := p^; s := q^; p^ := r; F(r); F(s); F(p^); F(q^); F(q.r); F(s.r); r.a := G(s, r); r.a := G(q^, p^); q(Q).c := ''b''; IF p(Q).c > ''a'' THEN p := NIL END; r := s.r END M.
abbrev records : Outside Program
records b v = record { types = record { kinds = ((RecordKind 0) ∷ (RecordKind 1) ∷ (RecordKind 2) ∷ (PointerKind 0) ∷ (PointerKind 2) ∷ Int ∷ Nothing ∷ (Array (Some 3) 5) ∷ Char ∷ (PointerKind 1) ∷ []); records = (record { «module» = 0; base = None; level = 0; fields = (record { name = []; exported = false; type_number = 5 } ∷ record { name = []; exported = false; type_number = 7 } ∷ []); cells = 4; extent = record { bytes = 32; wide = true } } ∷ record { «module» = 0; base = (Some 0); level = 1; fields = (record { name = []; exported = false; type_number = 8 } ∷ record { name = []; exported = false; type_number = 0 } ∷ []); cells = 9; extent = record { bytes = 72; wide = true } } ∷ record { «module» = 0; base = (Some 1); level = 2; fields = (record { name = []; exported = false; type_number = 9 } ∷ []); cells = 10; extent = record { bytes = 80; wide = true } } ∷ []); signatures = [] }; modules = (record { name = []; objects = []; variables = (3 ∷ 4 ∷ 0 ∷ 1 ∷ []); body = 2 } ∷ []); procedures = (record { «module» = 0; line = 1; is_body = false; formals = (record { mode = OfRecord; variable = true; type_number = 0 } ∷ []); result = 6; locals = []; texts = []; body = ((If' (vec1 v) (more_of-Branch (record { form = (IsParameter (Whole (Parameter 0) (RecordKind 0)) 1); kind = BoolKind }) (vec2 v) (more_of-Stmt (Assign (Part' b (Parameter 0) Char (vec2 v) (more_of-Selector (Narrow 1) (more_of-Selector (Field 1 0) end_of-Selector))) (record { form = (Literal 97); kind = Char })) (more_of-Stmt (Assign (Part' b (Parameter 0) Int (vec4 v) (more_of-Selector (Narrow 1) (more_of-Selector (Field 1 1) (more_of-Selector (Field 0 1) (more_of-Selector (Index (Some 3) 5 (Literal 2)) end_of-Selector))))) (record { form = (Load (Part' b (Parameter 0) Int (vec1 v) (more_of-Selector (Field 0 0) end_of-Selector))); kind = Int })) end_of-Stmt)) end_of-Branch) (vec0 v) end_of-Stmt) ∷ (If' (vec1 v) (more_of-Branch (record { form = (IsParameter (Whole (Parameter 0) (RecordKind 0)) 2); kind = BoolKind }) (vec6 v) (more_of-Stmt (New (Part' b (Parameter 0) (PointerKind 1) (vec2 v) (more_of-Selector (Narrow 2) (more_of-Selector (Field 2 0) end_of-Selector)))) (more_of-Stmt (Assign (Part' b (Parameter 0) Char (vec4 v) (more_of-Selector (Narrow 2) (more_of-Selector (Field 2 0) (more_of-Selector (Dereference []) (more_of-Selector (Field 1 0) end_of-Selector))))) (record { form = (Literal 122); kind = Char })) (more_of-Stmt (Invoke (Direct' 0 (vec1 v) (more_of-Argument (ByRecord (Part' b (Parameter 0) (RecordKind 0) (vec4 v) (more_of-Selector (Narrow 2) (more_of-Selector (Field 2 0) (more_of-Selector (Dereference []) (more_of-Selector (Field 1 1) end_of-Selector)))))) end_of-Argument))) (more_of-Stmt (Invoke (Direct' 0 (vec1 v) (more_of-Argument (ByRecord (Part' b (Parameter 0) (RecordKind 1) (vec3 v) (more_of-Selector (Narrow 2) (more_of-Selector (Field 2 0) (more_of-Selector (Dereference []) end_of-Selector))))) end_of-Argument))) (more_of-Stmt (Invoke (Direct' 0 (vec1 v) (more_of-Argument (ByRecord (Whole (Parameter 0) (RecordKind 0))) end_of-Argument))) (more_of-Stmt (Invoke (Direct' 0 (vec1 v) (more_of-Argument (ByRecord (Part' b (Parameter 0) (RecordKind 1) (vec1 v) (more_of-Selector (Narrow 1) end_of-Selector))) end_of-Argument))) end_of-Stmt)))))) end_of-Branch) (vec0 v) end_of-Stmt) ∷ []); answer = None } ∷ record { «module» = 0; line = 1; is_body = false; formals = (record { mode = Place; variable = false; type_number = 1 } ∷ record { mode = Place; variable = false; type_number = 0 } ∷ []); result = 5; locals = []; texts = []; body = []; answer = (Some (record { form = (Load (Part' b (Parameter 0) Int (vec3 v) (more_of-Selector (Field 1 1) (more_of-Selector (Field 0 1) (more_of-Selector (Index (Some 3) 5 (Load (Part' b (Parameter 1) Int (vec1 v) (more_of-Selector (Field 0 0) end_of-Selector)))) end_of-Selector))))); kind = Int })) } ∷ record { «module» = 0; line = 1; is_body = true; formals = []; result = 6; locals = []; texts = []; body = ((New (Whole (Global 0 0) (PointerKind 0))) ∷ (New (Whole (Global 0 1) (PointerKind 2))) ∷ (Assign (Whole (Global 0 0) (PointerKind 0)) (record { form = (Load (Whole (Global 0 1) (PointerKind 2))); kind = (PointerKind 2) })) ∷ (Assign (Part' b (Global 0 0) Int (vec3 v) (more_of-Selector (Dereference []) (more_of-Selector (Field 0 1) (more_of-Selector (Index (Some 3) 5 (Literal 1)) end_of-Selector)))) (record { form = (Literal 5); kind = Int })) ∷ (Assign (Part' b (Global 0 1) Int (vec4 v) (more_of-Selector (Dereference []) (more_of-Selector (Field 1 1) (more_of-Selector (Field 0 1) (more_of-Selector (Index (Some 3) 5 (Literal 0)) end_of-Selector))))) (record { form = (Literal 3); kind = Int })) ∷ (CopyRecord (Whole (Global 0 2) (RecordKind 0)) (Part' b (Global 0 0) (RecordKind 0) (vec1 v) (more_of-Selector (Dereference []) end_of-Selector))) ∷ (CopyRecord (Whole (Global 0 3) (RecordKind 1)) (Part' b (Global 0 1) (RecordKind 2) (vec1 v) (more_of-Selector (Dereference []) end_of-Selector))) ∷ (CopyRecord (Part' b (Global 0 0) (RecordKind 0) (vec1 v) (more_of-Selector (Dereference []) end_of-Selector)) (Whole (Global 0 2) (RecordKind 0))) ∷ (Invoke (Direct' 0 (vec1 v) (more_of-Argument (ByRecord (Whole (Global 0 2) (RecordKind 0))) end_of-Argument))) ∷ (Invoke (Direct' 0 (vec1 v) (more_of-Argument (ByRecord (Whole (Global 0 3) (RecordKind 1))) end_of-Argument))) ∷ (Invoke (Direct' 0 (vec1 v) (more_of-Argument (ByRecord (Part' b (Global 0 0) (RecordKind 0) (vec1 v) (more_of-Selector (Dereference []) end_of-Selector))) end_of-Argument))) ∷ (Invoke (Direct' 0 (vec1 v) (more_of-Argument (ByRecord (Part' b (Global 0 1) (RecordKind 2) (vec1 v) (more_of-Selector (Dereference []) end_of-Selector))) end_of-Argument))) ∷ (Invoke (Direct' 0 (vec1 v) (more_of-Argument (ByRecord (Part' b (Global 0 1) (RecordKind 0) (vec2 v) (more_of-Selector (Dereference []) (more_of-Selector (Field 1 1) end_of-Selector)))) end_of-Argument))) ∷ (Invoke (Direct' 0 (vec1 v) (more_of-Argument (ByRecord (Part' b (Global 0 3) (RecordKind 0) (vec1 v) (more_of-Selector (Field 1 1) end_of-Selector))) end_of-Argument))) ∷ (Assign (Part' b (Global 0 2) Int (vec1 v) (more_of-Selector (Field 0 0) end_of-Selector)) (record { form = (Call' b (Direct' 1 (vec2 v) (more_of-Argument (ByPlace (Whole (Global 0 3) (RecordKind 1))) (more_of-Argument (ByPlace (Whole (Global 0 2) (RecordKind 0))) end_of-Argument)))); kind = Int })) ∷ (Assign (Part' b (Global 0 2) Int (vec1 v) (more_of-Selector (Field 0 0) end_of-Selector)) (record { form = (Call' b (Direct' 1 (vec2 v) (more_of-Argument (ByPlace (Part' b (Global 0 1) (RecordKind 2) (vec1 v) (more_of-Selector (Dereference []) end_of-Selector))) (more_of-Argument (ByPlace (Part' b (Global 0 0) (RecordKind 0) (vec1 v) (more_of-Selector (Dereference []) end_of-Selector))) end_of-Argument)))); kind = Int })) ∷ (Assign (Part' b (Global 0 1) Char (vec2 v) (more_of-Selector (Dereference (2 ∷ [])) (more_of-Selector (Field 1 0) end_of-Selector))) (record { form = (Literal 98); kind = Char })) ∷ (If' (vec1 v) (more_of-Branch (record { form = (Compare' Greater b (Load (Part' b (Global 0 0) Char (vec2 v) (more_of-Selector (Dereference (2 ∷ [])) (more_of-Selector (Field 1 0) end_of-Selector)))) b (Literal 97)); kind = BoolKind }) (vec1 v) (more_of-Stmt (Assign (Whole (Global 0 0) (PointerKind 0)) (record { form = (Literal 0); kind = Nil })) end_of-Stmt) end_of-Branch) (vec0 v) end_of-Stmt) ∷ (CopyRecord (Whole (Global 0 2) (RecordKind 0)) (Part' b (Global 0 3) (RecordKind 0) (vec1 v) (more_of-Selector (Field 1 1) end_of-Selector))) ∷ []); answer = None } ∷ []); imports_in = false }

abbrev records_procs : List Proc
records_procs = ((proc ((block (0 ∷ 1 ∷ []) ((op (GlobalOp 256) [] (Some 2)) ∷ (op (IsTagOp 1) (1 ∷ 2 ∷ []) (Some 3)) ∷ []) (Nonzero 3 1 2) 1048576 None) ∷ (block [] ((op (GlobalOp 256) [] (Some 4)) ∷ (op (GuardTagOp 1) (1 ∷ 4 ∷ []) None) ∷ (op (PlusOp 32) (0 ∷ []) (Some 5)) ∷ (op (ConstOp 97) [] (Some 6)) ∷ (op StoreByteOp (5 ∷ 6 ∷ []) None) ∷ (op (GlobalOp 256) [] (Some 7)) ∷ (op (GuardTagOp 1) (1 ∷ 7 ∷ []) None) ∷ (op (PlusOp 40) (0 ∷ []) (Some 8)) ∷ (op (PlusOp 8) (8 ∷ []) (Some 9)) ∷ (op (ConstOp 2) [] (Some 10)) ∷ (op (ConstOp 3) [] (Some 11)) ∷ (op BelowOp (10 ∷ 11 ∷ []) None) ∷ (op (ConstOp 8) [] (Some 12)) ∷ (op MulAddOp (10 ∷ 12 ∷ 9 ∷ []) (Some 13)) ∷ (op LoadOp (0 ∷ []) (Some 14)) ∷ (op StoreOp (13 ∷ 14 ∷ []) None) ∷ []) (Jump 3 []) 524288 None) ∷ (block [] [] (Jump 3 []) 524288 None) ∷ (block [] ((op (GlobalOp 384) [] (Some 15)) ∷ (op (IsTagOp 2) (1 ∷ 15 ∷ []) (Some 16)) ∷ []) (Nonzero 16 4 5) 1048576 None) ∷ (block [] ((op (GlobalOp 384) [] (Some 17)) ∷ (op (GuardTagOp 2) (1 ∷ 17 ∷ []) None) ∷ (op (PlusOp 72) (0 ∷ []) (Some 18)) ∷ (op (ConstOp 10) [] (Some 19)) ∷ (op (ConstOp 80) [] (Some 20)) ∷ (op (GlobalOp 256) [] (Some 21)) ∷ (op NewOp (19 ∷ 20 ∷ 21 ∷ []) (Some 22)) ∷ (op StoreOp (18 ∷ 22 ∷ []) None) ∷ (op (GlobalOp 384) [] (Some 23)) ∷ (op (GuardTagOp 2) (1 ∷ 23 ∷ []) None) ∷ (op (PlusOp 72) (0 ∷ []) (Some 24)) ∷ (op LoadOp (24 ∷ []) (Some 25)) ∷ (op NotNilOp (25 ∷ []) None) ∷ (op (PlusOp 40) (25 ∷ []) (Some 26)) ∷ (op (ConstOp 122) [] (Some 27)) ∷ (op StoreByteOp (26 ∷ 27 ∷ []) None) ∷ (op (GlobalOp 384) [] (Some 28)) ∷ (op (GuardTagOp 2) (1 ∷ 28 ∷ []) None) ∷ (op (PlusOp 72) (0 ∷ []) (Some 29)) ∷ (op LoadOp (29 ∷ []) (Some 30)) ∷ (op NotNilOp (30 ∷ []) None) ∷ (op (PlusOp 48) (30 ∷ []) (Some 31)) ∷ (op (GlobalOp 128) [] (Some 32)) ∷ (op (CallOp 0) (31 ∷ 32 ∷ []) None) ∷ (op (GlobalOp 384) [] (Some 33)) ∷ (op (GuardTagOp 2) (1 ∷ 33 ∷ []) None) ∷ (op (PlusOp 72) (0 ∷ []) (Some 34)) ∷ (op LoadOp (34 ∷ []) (Some 35)) ∷ (op NotNilOp (35 ∷ []) None) ∷ (op (PlusOp 8) (35 ∷ []) (Some 36)) ∷ (op LoadOp (35 ∷ []) (Some 37)) ∷ (op (CallOp 0) (36 ∷ 37 ∷ []) None) ∷ (op (CallOp 0) (0 ∷ 1 ∷ []) None) ∷ (op (GlobalOp 256) [] (Some 38)) ∷ (op (GuardTagOp 1) (1 ∷ 38 ∷ []) None) ∷ (op (CallOp 0) (0 ∷ 1 ∷ []) None) ∷ []) (Jump 6 []) 524288 None) ∷ (block [] [] (Jump 6 []) 524288 None) ∷ (block [] [] (Return None) 1048576 None) ∷ []) 39 2 true 0 0) ∷ (proc ((block (0 ∷ 1 ∷ []) ((op (PlusOp 40) (0 ∷ []) (Some 2)) ∷ (op (PlusOp 8) (2 ∷ []) (Some 3)) ∷ (op LoadOp (1 ∷ []) (Some 4)) ∷ (op (ConstOp 3) [] (Some 5)) ∷ (op BelowOp (4 ∷ 5 ∷ []) None) ∷ (op (ConstOp 8) [] (Some 6)) ∷ (op MulAddOp (4 ∷ 6 ∷ 3 ∷ []) (Some 7)) ∷ (op LoadOp (7 ∷ []) (Some 8)) ∷ []) (Return (Some 8)) 1048576 None) ∷ []) 9 2 true 0 0) ∷ (proc ((block [] ((op (GlobalOp 8) [] (Some 0)) ∷ (op (ConstOp 5) [] (Some 1)) ∷ (op (ConstOp 40) [] (Some 2)) ∷ (op (GlobalOp 128) [] (Some 3)) ∷ (op NewOp (1 ∷ 2 ∷ 3 ∷ []) (Some 4)) ∷ (op StoreOp (0 ∷ 4 ∷ []) None) ∷ (op (GlobalOp 16) [] (Some 5)) ∷ (op (ConstOp 11) [] (Some 6)) ∷ (op (ConstOp 88) [] (Some 7)) ∷ (op (GlobalOp 384) [] (Some 8)) ∷ (op NewOp (6 ∷ 7 ∷ 8 ∷ []) (Some 9)) ∷ (op StoreOp (5 ∷ 9 ∷ []) None) ∷ (op (GlobalOp 8) [] (Some 10)) ∷ (op (GlobalOp 16) [] (Some 11)) ∷ (op LoadOp (11 ∷ []) (Some 12)) ∷ (op StoreOp (10 ∷ 12 ∷ []) None) ∷ (op (GlobalOp 8) [] (Some 13)) ∷ (op LoadOp (13 ∷ []) (Some 14)) ∷ (op NotNilOp (14 ∷ []) None) ∷ (op (PlusOp 16) (14 ∷ []) (Some 15)) ∷ (op (ConstOp 1) [] (Some 16)) ∷ (op (ConstOp 3) [] (Some 17)) ∷ (op BelowOp (16 ∷ 17 ∷ []) None) ∷ (op (ConstOp 8) [] (Some 18)) ∷ (op MulAddOp (16 ∷ 18 ∷ 15 ∷ []) (Some 19)) ∷ (op (ConstOp 5) [] (Some 20)) ∷ (op StoreOp (19 ∷ 20 ∷ []) None) ∷ (op (GlobalOp 16) [] (Some 21)) ∷ (op LoadOp (21 ∷ []) (Some 22)) ∷ (op NotNilOp (22 ∷ []) None) ∷ (op (PlusOp 48) (22 ∷ []) (Some 23)) ∷ (op (PlusOp 8) (23 ∷ []) (Some 24)) ∷ (op (ConstOp 0) [] (Some 25)) ∷ (op (ConstOp 3) [] (Some 26)) ∷ (op BelowOp (25 ∷ 26 ∷ []) None) ∷ (op (ConstOp 8) [] (Some 27)) ∷ (op MulAddOp (25 ∷ 27 ∷ 24 ∷ []) (Some 28)) ∷ (op (ConstOp 3) [] (Some 29)) ∷ (op StoreOp (28 ∷ 29 ∷ []) None) ∷ (op (GlobalOp 24) [] (Some 30)) ∷ (op (GlobalOp 8) [] (Some 31)) ∷ (op LoadOp (31 ∷ []) (Some 32)) ∷ (op NotNilOp (32 ∷ []) None) ∷ (op (PlusOp 8) (32 ∷ []) (Some 33)) ∷ (op (ConstOp 32) [] (Some 34)) ∷ (op CopyOp (30 ∷ 33 ∷ 34 ∷ []) None) ∷ (op (GlobalOp 56) [] (Some 35)) ∷ (op (GlobalOp 16) [] (Some 36)) ∷ (op LoadOp (36 ∷ []) (Some 37)) ∷ (op NotNilOp (37 ∷ []) None) ∷ (op (PlusOp 8) (37 ∷ []) (Some 38)) ∷ (op (ConstOp 72) [] (Some 39)) ∷ (op CopyOp (35 ∷ 38 ∷ 39 ∷ []) None) ∷ (op (GlobalOp 8) [] (Some 40)) ∷ (op LoadOp (40 ∷ []) (Some 41)) ∷ (op NotNilOp (41 ∷ []) None) ∷ (op (PlusOp 8) (41 ∷ []) (Some 42)) ∷ (op (GlobalOp 24) [] (Some 43)) ∷ (op (ConstOp 32) [] (Some 44)) ∷ (op CopyOp (42 ∷ 43 ∷ 44 ∷ []) None) ∷ (op (GlobalOp 24) [] (Some 45)) ∷ (op (GlobalOp 128) [] (Some 46)) ∷ (op (CallOp 0) (45 ∷ 46 ∷ []) None) ∷ (op (GlobalOp 56) [] (Some 47)) ∷ (op (GlobalOp 256) [] (Some 48)) ∷ (op (CallOp 0) (47 ∷ 48 ∷ []) None) ∷ (op (GlobalOp 8) [] (Some 49)) ∷ (op LoadOp (49 ∷ []) (Some 50)) ∷ (op NotNilOp (50 ∷ []) None) ∷ (op (PlusOp 8) (50 ∷ []) (Some 51)) ∷ (op LoadOp (50 ∷ []) (Some 52)) ∷ (op (CallOp 0) (51 ∷ 52 ∷ []) None) ∷ (op (GlobalOp 16) [] (Some 53)) ∷ (op LoadOp (53 ∷ []) (Some 54)) ∷ (op NotNilOp (54 ∷ []) None) ∷ (op (PlusOp 8) (54 ∷ []) (Some 55)) ∷ (op LoadOp (54 ∷ []) (Some 56)) ∷ (op (CallOp 0) (55 ∷ 56 ∷ []) None) ∷ (op (GlobalOp 16) [] (Some 57)) ∷ (op LoadOp (57 ∷ []) (Some 58)) ∷ (op NotNilOp (58 ∷ []) None) ∷ (op (PlusOp 48) (58 ∷ []) (Some 59)) ∷ (op (GlobalOp 128) [] (Some 60)) ∷ (op (CallOp 0) (59 ∷ 60 ∷ []) None) ∷ (op (GlobalOp 56) [] (Some 61)) ∷ (op (PlusOp 40) (61 ∷ []) (Some 62)) ∷ (op (GlobalOp 128) [] (Some 63)) ∷ (op (CallOp 0) (62 ∷ 63 ∷ []) None) ∷ (op (GlobalOp 24) [] (Some 64)) ∷ (op (GlobalOp 56) [] (Some 65)) ∷ (op (GlobalOp 24) [] (Some 66)) ∷ (op (CallOp 1) (65 ∷ 66 ∷ []) (Some 67)) ∷ (op StoreOp (64 ∷ 67 ∷ []) None) ∷ (op (GlobalOp 24) [] (Some 68)) ∷ (op (GlobalOp 16) [] (Some 69)) ∷ (op LoadOp (69 ∷ []) (Some 70)) ∷ (op NotNilOp (70 ∷ []) None) ∷ (op (PlusOp 8) (70 ∷ []) (Some 71)) ∷ (op (GlobalOp 8) [] (Some 72)) ∷ (op LoadOp (72 ∷ []) (Some 73)) ∷ (op NotNilOp (73 ∷ []) None) ∷ (op (PlusOp 8) (73 ∷ []) (Some 74)) ∷ (op (CallOp 1) (71 ∷ 74 ∷ []) (Some 75)) ∷ (op StoreOp (68 ∷ 75 ∷ []) None) ∷ (op (GlobalOp 16) [] (Some 76)) ∷ (op LoadOp (76 ∷ []) (Some 77)) ∷ (op (GlobalOp 384) [] (Some 78)) ∷ (op (GuardPtrOp 2) (77 ∷ 78 ∷ []) None) ∷ (op NotNilOp (77 ∷ []) None) ∷ (op (PlusOp 40) (77 ∷ []) (Some 79)) ∷ (op (ConstOp 98) [] (Some 80)) ∷ (op StoreByteOp (79 ∷ 80 ∷ []) None) ∷ (op (GlobalOp 8) [] (Some 81)) ∷ (op LoadOp (81 ∷ []) (Some 82)) ∷ (op (GlobalOp 384) [] (Some 83)) ∷ (op (GuardPtrOp 2) (82 ∷ 83 ∷ []) None) ∷ (op NotNilOp (82 ∷ []) None) ∷ (op (PlusOp 40) (82 ∷ []) (Some 84)) ∷ (op LoadByteOp (84 ∷ []) (Some 85)) ∷ (op (ConstOp 97) [] (Some 86)) ∷ []) (Branch 12 85 86 1 2) 1048576 None) ∷ (block [] ((op (GlobalOp 8) [] (Some 87)) ∷ (op (ConstOp 0) [] (Some 88)) ∷ (op StoreOp (87 ∷ 88 ∷ []) None) ∷ []) (Jump 3 []) 524288 None) ∷ (block [] [] (Jump 3 []) 524288 None) ∷ (block [] ((op (GlobalOp 24) [] (Some 89)) ∷ (op (GlobalOp 56) [] (Some 90)) ∷ (op (PlusOp 40) (90 ∷ []) (Some 91)) ∷ (op (ConstOp 32) [] (Some 92)) ∷ (op CopyOp (89 ∷ 91 ∷ 92 ∷ []) None) ∷ []) (Return None) 1048576 None) ∷ []) 93 0 false 0 0) ∷ [])

pub records_low : (b : Box (Unit {0}) Heap) (v : Vec (Unit {0}) Heap) → lowered (records b v) ≡ records_procs
unfolding data_tree record_row fields_before
records_low b v = refl

pub records_constants : (b : Box (Unit {0}) Heap) (v : Vec (Unit {0}) Heap) → constants (records b v) (packed (records b v).types) 268435456 ≡ (128 ∷ 0 ∷ 0 ∷ 16 ∷ 0 ∷ 0 ∷ 0 ∷ 0 ∷ 0 ∷ 0 ∷ 0 ∷ 0 ∷ 0 ∷ 0 ∷ 0 ∷ 0 ∷ 0 ∷ 0 ∷ 0 ∷ 0 ∷ 0 ∷ 0 ∷ 0 ∷ 0 ∷ 0 ∷ 0 ∷ 0 ∷ 0 ∷ 0 ∷ 0 ∷ 0 ∷ 0 ∷ 0 ∷ 0 ∷ 0 ∷ 0 ∷ 0 ∷ 0 ∷ 0 ∷ 0 ∷ 0 ∷ 0 ∷ 0 ∷ 0 ∷ 0 ∷ 0 ∷ 0 ∷ 0 ∷ 0 ∷ 0 ∷ 0 ∷ 0 ∷ 0 ∷ 0 ∷ 0 ∷ 0 ∷ 0 ∷ 0 ∷ 0 ∷ 0 ∷ 0 ∷ 0 ∷ 0 ∷ 0 ∷ 0 ∷ 0 ∷ 0 ∷ 0 ∷ 0 ∷ 0 ∷ 0 ∷ 0 ∷ 0 ∷ 0 ∷ 0 ∷ 0 ∷ 0 ∷ 0 ∷ 0 ∷ 0 ∷ 0 ∷ 0 ∷ 0 ∷ 0 ∷ 0 ∷ 0 ∷ 0 ∷ 0 ∷ 0 ∷ 0 ∷ 0 ∷ 0 ∷ 0 ∷ 0 ∷ 0 ∷ 0 ∷ 0 ∷ 0 ∷ 0 ∷ 0 ∷ 0 ∷ 0 ∷ 0 ∷ 0 ∷ 0 ∷ 0 ∷ 0 ∷ 0 ∷ 0 ∷ 0 ∷ 0 ∷ 0 ∷ 0 ∷ 0 ∷ 0 ∷ 0 ∷ 0 ∷ 0 ∷ 0 ∷ 0 ∷ 0 ∷ 0 ∷ 0 ∷ 0 ∷ 0 ∷ 0 ∷ 0 ∷ 0 ∷ 128 ∷ 0 ∷ 0 ∷ 16 ∷ 0 ∷ 0 ∷ 0 ∷ 0 ∷ 0 ∷ 1 ∷ 0 ∷ 16 ∷ 0 ∷ 0 ∷ 0 ∷ 0 ∷ 0 ∷ 0 ∷ 0 ∷ 0 ∷ 0 ∷ 0 ∷ 0 ∷ 0 ∷ 0 ∷ 0 ∷ 0 ∷ 0 ∷ 0 ∷ 0 ∷ 0 ∷ 0 ∷ 0 ∷ 0 ∷ 0 ∷ 0 ∷ 0 ∷ 0 ∷ 0 ∷ 0 ∷ 0 ∷ 0 ∷ 0 ∷ 0 ∷ 0 ∷ 0 ∷ 0 ∷ 0 ∷ 0 ∷ 0 ∷ 0 ∷ 0 ∷ 0 ∷ 0 ∷ 0 ∷ 0 ∷ 0 ∷ 0 ∷ 0 ∷ 0 ∷ 0 ∷ 0 ∷ 0 ∷ 0 ∷ 0 ∷ 0 ∷ 0 ∷ 0 ∷ 0 ∷ 0 ∷ 0 ∷ 0 ∷ 0 ∷ 0 ∷ 0 ∷ 0 ∷ 0 ∷ 0 ∷ 0 ∷ 0 ∷ 0 ∷ 0 ∷ 0 ∷ 0 ∷ 0 ∷ 0 ∷ 0 ∷ 0 ∷ 0 ∷ 0 ∷ 0 ∷ 0 ∷ 0 ∷ 0 ∷ 0 ∷ 0 ∷ 0 ∷ 0 ∷ 0 ∷ 0 ∷ 0 ∷ 0 ∷ 0 ∷ 0 ∷ 0 ∷ 0 ∷ 0 ∷ 0 ∷ 0 ∷ 0 ∷ 0 ∷ 0 ∷ 0 ∷ 0 ∷ 0 ∷ 0 ∷ 0 ∷ 0 ∷ 0 ∷ 0 ∷ 0 ∷ 0 ∷ 0 ∷ 0 ∷ 0 ∷ 0 ∷ 0 ∷ 0 ∷ 128 ∷ 0 ∷ 0 ∷ 16 ∷ 0 ∷ 0 ∷ 0 ∷ 0 ∷ 0 ∷ 1 ∷ 0 ∷ 16 ∷ 0 ∷ 0 ∷ 0 ∷ 0 ∷ 128 ∷ 1 ∷ 0 ∷ 16 ∷ 0 ∷ 0 ∷ 0 ∷ 0 ∷ 0 ∷ 0 ∷ 0 ∷ 0 ∷ 0 ∷ 0 ∷ 0 ∷ 0 ∷ 0 ∷ 0 ∷ 0 ∷ 0 ∷ 0 ∷ 0 ∷ 0 ∷ 0 ∷ 0 ∷ 0 ∷ 0 ∷ 0 ∷ 0 ∷ 0 ∷ 0 ∷ 0 ∷ 0 ∷ 0 ∷ 0 ∷ 0 ∷ 0 ∷ 0 ∷ 0 ∷ 0 ∷ 0 ∷ 0 ∷ 0 ∷ 0 ∷ 0 ∷ 0 ∷ 0 ∷ 0 ∷ 0 ∷ 0 ∷ 0 ∷ 0 ∷ 0 ∷ 0 ∷ 0 ∷ 0 ∷ 0 ∷ 0 ∷ 0 ∷ 0 ∷ 0 ∷ 0 ∷ 0 ∷ 0 ∷ 0 ∷ 0 ∷ 0 ∷ 0 ∷ 0 ∷ 0 ∷ 0 ∷ 0 ∷ 0 ∷ 0 ∷ 0 ∷ 0 ∷ 0 ∷ 0 ∷ 0 ∷ 0 ∷ 0 ∷ 0 ∷ 0 ∷ 0 ∷ 0 ∷ 0 ∷ 0 ∷ 0 ∷ 0 ∷ 0 ∷ 0 ∷ 0 ∷ 0 ∷ 0 ∷ 0 ∷ 0 ∷ 0 ∷ 0 ∷ 0 ∷ 0 ∷ 0 ∷ 0 ∷ 0 ∷ 0 ∷ 0 ∷ 0 ∷ 0 ∷ 0 ∷ 0 ∷ 0 ∷ 0 ∷ 0 ∷ [])
unfolding data_tree record_row fields_before
records_constants b v = refl

-- MODULE M; CONST lo = -3; hi = -1; TYPE A = RECORD x: INTEGER END; B = RECORD (A) y: INTEGER END; C = RECORD (B) z: INTEGER END; PA = POINTER TO A; PB = POINTER TO B; PC = POINTER TO C; VAR g: INTEGER; c: CHAR; p: PA; PROCEDURE F(VAR a: A; n: INTEGER): INTEGER; VAR m, k: INTEGER; BEGIN m := n; CASE n OF 1: m := 2 | 2..5, 7: k := m; m := k + 1 | 9, 11..12, lo..hi: CASE k OF 0: k := 1 END END; CASE a OF C: m := a.z | B: m := a.y; CASE a OF C: k := a.z END END; RETURN m + k END F; PROCEDURE H(q: PA): INTEGER; VAR m: INTEGER; BEGIN CASE q OF PC: m := q.z; q := NIL | PB: m := q.y | PA: m := q.x END; RETURN m END H; BEGIN CASE c OF ''a''..''z'': g := 1 | ''0'', 0X: g := 2 END; NEW(p); CASE p OF PB: g := p.y END; g := F(p^, 3) + H(p); CASE p OF END END M.
abbrev cases : Outside Program
cases b v = record { types = record { kinds = ((RecordKind 0) ∷ (RecordKind 1) ∷ (RecordKind 2) ∷ Int ∷ Char ∷ (PointerKind 0) ∷ Nothing ∷ []); records = (record { «module» = 0; base = None; level = 0; fields = (record { name = []; exported = false; type_number = 3 } ∷ []); cells = 1; extent = record { bytes = 8; wide = true } } ∷ record { «module» = 0; base = (Some 0); level = 1; fields = (record { name = []; exported = false; type_number = 3 } ∷ []); cells = 2; extent = record { bytes = 16; wide = true } } ∷ record { «module» = 0; base = (Some 1); level = 2; fields = (record { name = []; exported = false; type_number = 3 } ∷ []); cells = 3; extent = record { bytes = 24; wide = true } } ∷ []); signatures = [] }; modules = (record { name = []; objects = []; variables = (3 ∷ 4 ∷ 5 ∷ []); body = 2 } ∷ []); procedures = (record { «module» = 0; line = 1; is_body = false; formals = (record { mode = OfRecord; variable = true; type_number = 0 } ∷ record { mode = OfValue; variable = false; type_number = 3 } ∷ []); result = 3; locals = (3 ∷ 3 ∷ []); texts = []; body = ((Assign (Whole (Local 1) Int) (record { form = (Load (Whole (Local 0) Int)); kind = Int })) ∷ (Case' (record { form = (Load (Whole (Local 0) Int)); kind = Int }) (vec3 v) (more_of-CasePart (One (pos 1) ∷ []) (vec1 v) (more_of-Stmt (Assign (Whole (Local 1) Int) (record { form = (Literal 2); kind = Int })) end_of-Stmt) (more_of-CasePart (Range (pos 2) (pos 5) ∷ One (pos 7) ∷ []) (vec2 v) (more_of-Stmt (Assign (Whole (Local 2) Int) (record { form = (Load (Whole (Local 1) Int)); kind = Int })) (more_of-Stmt (Assign (Whole (Local 1) Int) (record { form = (Chain' b (Load (Whole (Local 2) Int)) (vec1 v) (more_of-Link (Operate Add (Literal 1)) end_of-Link)); kind = Int })) end_of-Stmt)) (more_of-CasePart (One (pos 9) ∷ Range (pos 11) (pos 12) ∷ Range (negsuc 2) (negsuc 0) ∷ []) (vec1 v) (more_of-Stmt (Case' (record { form = (Load (Whole (Local 2) Int)); kind = Int }) (vec1 v) (more_of-CasePart (One (pos 0) ∷ []) (vec1 v) (more_of-Stmt (Assign (Whole (Local 2) Int) (record { form = (Literal 1); kind = Int })) end_of-Stmt) end_of-CasePart)) end_of-Stmt) end_of-CasePart)))) ∷ (CaseParameter' (Whole (Parameter 0) (RecordKind 0)) (vec2 v) (more_of-TypePart 2 (vec1 v) (more_of-Stmt (Assign (Whole (Local 1) Int) (record { form = (Load (Part' b (Parameter 0) Int (vec2 v) (more_of-Selector (Narrow 2) (more_of-Selector (Field 2 0) end_of-Selector)))); kind = Int })) end_of-Stmt) (more_of-TypePart 1 (vec2 v) (more_of-Stmt (Assign (Whole (Local 1) Int) (record { form = (Load (Part' b (Parameter 0) Int (vec2 v) (more_of-Selector (Narrow 1) (more_of-Selector (Field 1 0) end_of-Selector)))); kind = Int })) (more_of-Stmt (CaseParameter' (Part' b (Parameter 0) (RecordKind 1) (vec1 v) (more_of-Selector (Narrow 1) end_of-Selector)) (vec1 v) (more_of-TypePart 2 (vec1 v) (more_of-Stmt (Assign (Whole (Local 2) Int) (record { form = (Load (Part' b (Parameter 0) Int (vec2 v) (more_of-Selector (Narrow 2) (more_of-Selector (Field 2 0) end_of-Selector)))); kind = Int })) end_of-Stmt) end_of-TypePart)) end_of-Stmt)) end_of-TypePart))) ∷ []); answer = (Some (record { form = (Chain' b (Load (Whole (Local 1) Int)) (vec1 v) (more_of-Link (Operate Add (Load (Whole (Local 2) Int))) end_of-Link)); kind = Int })) } ∷ record { «module» = 0; line = 1; is_body = false; formals = (record { mode = OfValue; variable = false; type_number = 5 } ∷ []); result = 3; locals = (3 ∷ []); texts = []; body = ((CasePointer' (record { form = (Load (Whole (Local 0) (PointerKind 0))); kind = (PointerKind 0) }) (vec3 v) (more_of-TypePart 2 (vec2 v) (more_of-Stmt (Assign (Whole (Local 1) Int) (record { form = (Load (Part' b (Local 0) Int (vec2 v) (more_of-Selector (Dereference (2 ∷ [])) (more_of-Selector (Field 2 0) end_of-Selector)))); kind = Int })) (more_of-Stmt (Assign (Whole (Local 0) (PointerKind 0)) (record { form = (Literal 0); kind = Nil })) end_of-Stmt)) (more_of-TypePart 1 (vec1 v) (more_of-Stmt (Assign (Whole (Local 1) Int) (record { form = (Load (Part' b (Local 0) Int (vec2 v) (more_of-Selector (Dereference (1 ∷ [])) (more_of-Selector (Field 1 0) end_of-Selector)))); kind = Int })) end_of-Stmt) (more_of-TypePart 0 (vec1 v) (more_of-Stmt (Assign (Whole (Local 1) Int) (record { form = (Load (Part' b (Local 0) Int (vec2 v) (more_of-Selector (Dereference (0 ∷ [])) (more_of-Selector (Field 0 0) end_of-Selector)))); kind = Int })) end_of-Stmt) end_of-TypePart)))) ∷ []); answer = (Some (record { form = (Load (Whole (Local 1) Int)); kind = Int })) } ∷ record { «module» = 0; line = 1; is_body = true; formals = []; result = 6; locals = []; texts = []; body = ((Case' (record { form = (Load (Whole (Global 0 1) Char)); kind = Char }) (vec2 v) (more_of-CasePart (Range (pos 97) (pos 122) ∷ []) (vec1 v) (more_of-Stmt (Assign (Whole (Global 0 0) Int) (record { form = (Literal 1); kind = Int })) end_of-Stmt) (more_of-CasePart (One (pos 48) ∷ One (pos 0) ∷ []) (vec1 v) (more_of-Stmt (Assign (Whole (Global 0 0) Int) (record { form = (Literal 2); kind = Int })) end_of-Stmt) end_of-CasePart))) ∷ (New (Whole (Global 0 2) (PointerKind 0))) ∷ (CasePointer' (record { form = (Load (Whole (Global 0 2) (PointerKind 0))); kind = (PointerKind 0) }) (vec1 v) (more_of-TypePart 1 (vec1 v) (more_of-Stmt (Assign (Whole (Global 0 0) Int) (record { form = (Load (Part' b (Global 0 2) Int (vec2 v) (more_of-Selector (Dereference (1 ∷ [])) (more_of-Selector (Field 1 0) end_of-Selector)))); kind = Int })) end_of-Stmt) end_of-TypePart)) ∷ (Assign (Whole (Global 0 0) Int) (record { form = (Chain' b (Call' b (Direct' 0 (vec2 v) (more_of-Argument (ByRecord (Part' b (Global 0 2) (RecordKind 0) (vec1 v) (more_of-Selector (Dereference []) end_of-Selector))) (more_of-Argument (ByValue (Literal 3)) end_of-Argument)))) (vec1 v) (more_of-Link (Operate Add (Call' b (Direct' 1 (vec1 v) (more_of-Argument (ByValue (Load (Whole (Global 0 2) (PointerKind 0)))) end_of-Argument)))) end_of-Link)); kind = Int })) ∷ (CasePointer' (record { form = (Load (Whole (Global 0 2) (PointerKind 0))); kind = (PointerKind 0) }) (vec0 v) end_of-TypePart) ∷ []); answer = None } ∷ []); imports_in = false }

abbrev cases_procs : List Proc
cases_procs = ((proc ((block (0 ∷ 1 ∷ 2 ∷ []) ((op (ConstOp 0) [] (Some 3)) ∷ (op (ConstOp 0) [] (Some 4)) ∷ (op (ConstOp 1) [] (Some 5)) ∷ []) (Branch 0 2 5 10 1) 1048576 None) ∷ (block [] ((op (ConstOp 2) [] (Some 6)) ∷ []) (Branch 10 2 6 2 3) 1048576 None) ∷ (block [] ((op (ConstOp 5) [] (Some 7)) ∷ []) (Branch 13 2 7 11 3) 1048576 None) ∷ (block [] ((op (ConstOp 7) [] (Some 8)) ∷ []) (Branch 0 2 8 11 4) 1048576 None) ∷ (block [] ((op (ConstOp 9) [] (Some 9)) ∷ []) (Branch 0 2 9 12 5) 1048576 None) ∷ (block [] ((op (ConstOp 11) [] (Some 10)) ∷ []) (Branch 10 2 10 6 7) 1048576 None) ∷ (block [] ((op (ConstOp 12) [] (Some 11)) ∷ []) (Branch 13 2 11 12 7) 1048576 None) ∷ (block [] ((op (ConstOp 18446744073709551613) [] (Some 12)) ∷ []) (Branch 10 2 12 8 9) 1048576 None) ∷ (block [] ((op (ConstOp 18446744073709551615) [] (Some 13)) ∷ []) (Branch 13 2 13 12 9) 1048576 None) ∷ (block [] [] (Trap 6) 524288 None) ∷ (block [] ((op (ConstOp 2) [] (Some 14)) ∷ []) (Jump 16 (14 ∷ 4 ∷ [])) 524288 None) ∷ (block [] ((op (ConstOp 1) [] (Some 15)) ∷ (op AddOp (2 ∷ 15 ∷ []) (Some 16)) ∷ []) (Jump 16 (16 ∷ 2 ∷ [])) 524288 None) ∷ (block [] ((op (ConstOp 0) [] (Some 17)) ∷ []) (Branch 0 4 17 14 13) 524288 None) ∷ (block [] [] (Trap 6) 262144 None) ∷ (block [] ((op (ConstOp 1) [] (Some 18)) ∷ []) (Jump 15 (18 ∷ [])) 262144 None) ∷ (block (19 ∷ []) [] (Jump 16 (2 ∷ 19 ∷ [])) 524288 None) ∷ (block (20 ∷ 21 ∷ []) ((op (GlobalOp 288) [] (Some 22)) ∷ (op (IsTagOp 2) (1 ∷ 22 ∷ []) (Some 23)) ∷ []) (Nonzero 23 19 17) 1048576 None) ∷ (block [] ((op (GlobalOp 160) [] (Some 24)) ∷ (op (IsTagOp 1) (1 ∷ 24 ∷ []) (Some 25)) ∷ []) (Nonzero 25 20 18) 1048576 None) ∷ (block [] [] (Jump 24 (20 ∷ 21 ∷ [])) 524288 None) ∷ (block [] ((op (GlobalOp 288) [] (Some 26)) ∷ (op (GuardTagOp 2) (1 ∷ 26 ∷ []) None) ∷ (op (PlusOp 16) (0 ∷ []) (Some 27)) ∷ (op LoadOp (27 ∷ []) (Some 28)) ∷ []) (Jump 24 (28 ∷ 21 ∷ [])) 524288 None) ∷ (block [] ((op (GlobalOp 160) [] (Some 29)) ∷ (op (GuardTagOp 1) (1 ∷ 29 ∷ []) None) ∷ (op (PlusOp 8) (0 ∷ []) (Some 30)) ∷ (op LoadOp (30 ∷ []) (Some 31)) ∷ (op (GlobalOp 160) [] (Some 32)) ∷ (op (GuardTagOp 1) (1 ∷ 32 ∷ []) None) ∷ (op (GlobalOp 288) [] (Some 33)) ∷ (op (IsTagOp 2) (1 ∷ 33 ∷ []) (Some 34)) ∷ []) (Nonzero 34 22 21) 524288 None) ∷ (block [] [] (Jump 23 (21 ∷ [])) 262144 None) ∷ (block [] ((op (GlobalOp 288) [] (Some 35)) ∷ (op (GuardTagOp 2) (1 ∷ 35 ∷ []) None) ∷ (op (PlusOp 16) (0 ∷ []) (Some 36)) ∷ (op LoadOp (36 ∷ []) (Some 37)) ∷ []) (Jump 23 (37 ∷ [])) 262144 None) ∷ (block (38 ∷ []) [] (Jump 24 (31 ∷ 38 ∷ [])) 524288 None) ∷ (block (39 ∷ 40 ∷ []) ((op AddOp (39 ∷ 40 ∷ []) (Some 41)) ∷ []) (Return (Some 41)) 1048576 None) ∷ []) 42 3 true 3 0) ∷ (proc ((block (0 ∷ []) ((op (ConstOp 0) [] (Some 1)) ∷ (op (GlobalOp 288) [] (Some 2)) ∷ (op (IsPtrOp 2) (0 ∷ 2 ∷ []) (Some 3)) ∷ []) (Nonzero 3 4 1) 1048576 None) ∷ (block [] ((op (GlobalOp 160) [] (Some 4)) ∷ (op (IsPtrOp 1) (0 ∷ 4 ∷ []) (Some 5)) ∷ []) (Nonzero 5 5 2) 1048576 None) ∷ (block [] ((op (GlobalOp 32) [] (Some 6)) ∷ (op (IsPtrOp 0) (0 ∷ 6 ∷ []) (Some 7)) ∷ []) (Nonzero 7 6 3) 1048576 None) ∷ (block [] [] (Jump 7 (0 ∷ 1 ∷ [])) 524288 None) ∷ (block [] ((op (GlobalOp 288) [] (Some 8)) ∷ (op (GuardPtrOp 2) (0 ∷ 8 ∷ []) None) ∷ (op NotNilOp (0 ∷ []) None) ∷ (op (PlusOp 24) (0 ∷ []) (Some 9)) ∷ (op LoadOp (9 ∷ []) (Some 10)) ∷ (op (ConstOp 0) [] (Some 11)) ∷ []) (Jump 7 (11 ∷ 10 ∷ [])) 524288 None) ∷ (block [] ((op (GlobalOp 160) [] (Some 12)) ∷ (op (GuardPtrOp 1) (0 ∷ 12 ∷ []) None) ∷ (op NotNilOp (0 ∷ []) None) ∷ (op (PlusOp 16) (0 ∷ []) (Some 13)) ∷ (op LoadOp (13 ∷ []) (Some 14)) ∷ []) (Jump 7 (0 ∷ 14 ∷ [])) 524288 None) ∷ (block [] ((op (GlobalOp 32) [] (Some 15)) ∷ (op (GuardPtrOp 0) (0 ∷ 15 ∷ []) None) ∷ (op NotNilOp (0 ∷ []) None) ∷ (op (PlusOp 8) (0 ∷ []) (Some 16)) ∷ (op LoadOp (16 ∷ []) (Some 17)) ∷ []) (Jump 7 (0 ∷ 17 ∷ [])) 524288 None) ∷ (block (18 ∷ 19 ∷ []) [] (Return (Some 19)) 1048576 None) ∷ []) 20 1 true 2 0) ∷ (proc ((block [] ((op (GlobalOp 16) [] (Some 0)) ∷ (op LoadByteOp (0 ∷ []) (Some 1)) ∷ (op (ConstOp 97) [] (Some 2)) ∷ []) (Branch 10 1 2 1 2) 1048576 None) ∷ (block [] ((op (ConstOp 122) [] (Some 3)) ∷ []) (Branch 13 1 3 5 2) 1048576 None) ∷ (block [] ((op (ConstOp 48) [] (Some 4)) ∷ []) (Branch 0 1 4 6 3) 1048576 None) ∷ (block [] ((op (ConstOp 0) [] (Some 5)) ∷ []) (Branch 0 1 5 6 4) 1048576 None) ∷ (block [] [] (Trap 6) 524288 None) ∷ (block [] ((op (GlobalOp 8) [] (Some 6)) ∷ (op (ConstOp 1) [] (Some 7)) ∷ (op StoreOp (6 ∷ 7 ∷ []) None) ∷ []) (Jump 7 []) 524288 None) ∷ (block [] ((op (GlobalOp 8) [] (Some 8)) ∷ (op (ConstOp 2) [] (Some 9)) ∷ (op StoreOp (8 ∷ 9 ∷ []) None) ∷ []) (Jump 7 []) 524288 None) ∷ (block [] ((op (GlobalOp 24) [] (Some 10)) ∷ (op (ConstOp 2) [] (Some 11)) ∷ (op (ConstOp 16) [] (Some 12)) ∷ (op (GlobalOp 32) [] (Some 13)) ∷ (op NewOp (11 ∷ 12 ∷ 13 ∷ []) (Some 14)) ∷ (op StoreOp (10 ∷ 14 ∷ []) None) ∷ (op (GlobalOp 24) [] (Some 15)) ∷ (op LoadOp (15 ∷ []) (Some 16)) ∷ (op (GlobalOp 160) [] (Some 17)) ∷ (op (IsPtrOp 1) (16 ∷ 17 ∷ []) (Some 18)) ∷ []) (Nonzero 18 9 8) 1048576 None) ∷ (block [] [] (Jump 10 []) 524288 None) ∷ (block [] ((op (GlobalOp 8) [] (Some 19)) ∷ (op (GlobalOp 24) [] (Some 20)) ∷ (op LoadOp (20 ∷ []) (Some 21)) ∷ (op (GlobalOp 160) [] (Some 22)) ∷ (op (GuardPtrOp 1) (21 ∷ 22 ∷ []) None) ∷ (op NotNilOp (21 ∷ []) None) ∷ (op (PlusOp 16) (21 ∷ []) (Some 23)) ∷ (op LoadOp (23 ∷ []) (Some 24)) ∷ (op StoreOp (19 ∷ 24 ∷ []) None) ∷ []) (Jump 10 []) 524288 None) ∷ (block [] ((op (GlobalOp 8) [] (Some 25)) ∷ (op (GlobalOp 24) [] (Some 26)) ∷ (op LoadOp (26 ∷ []) (Some 27)) ∷ (op NotNilOp (27 ∷ []) None) ∷ (op (PlusOp 8) (27 ∷ []) (Some 28)) ∷ (op LoadOp (27 ∷ []) (Some 29)) ∷ (op (ConstOp 3) [] (Some 30)) ∷ (op (CallOp 0) (28 ∷ 29 ∷ 30 ∷ []) (Some 31)) ∷ (op (GlobalOp 24) [] (Some 32)) ∷ (op LoadOp (32 ∷ []) (Some 33)) ∷ (op (CallOp 1) (33 ∷ []) (Some 34)) ∷ (op AddOp (31 ∷ 34 ∷ []) (Some 35)) ∷ (op StoreOp (25 ∷ 35 ∷ []) None) ∷ (op (GlobalOp 24) [] (Some 36)) ∷ (op LoadOp (36 ∷ []) (Some 37)) ∷ []) (Jump 11 []) 1048576 None) ∷ (block [] [] (Jump 12 []) 524288 None) ∷ (block [] [] (Return None) 1048576 None) ∷ []) 38 0 false 0 0) ∷ [])

pub cases_low : (b : Box (Unit {0}) Heap) (v : Vec (Unit {0}) Heap) → lowered (cases b v) ≡ cases_procs
unfolding data_tree record_row fields_before
cases_low b v = refl

pub cases_constants : (b : Box (Unit {0}) Heap) (v : Vec (Unit {0}) Heap) → constants (cases b v) (packed (cases b v).types) 268435456 ≡ (32 ∷ 0 ∷ 0 ∷ 16 ∷ 0 ∷ 0 ∷ 0 ∷ 0 ∷ 0 ∷ 0 ∷ 0 ∷ 0 ∷ 0 ∷ 0 ∷ 0 ∷ 0 ∷ 0 ∷ 0 ∷ 0 ∷ 0 ∷ 0 ∷ 0 ∷ 0 ∷ 0 ∷ 0 ∷ 0 ∷ 0 ∷ 0 ∷ 0 ∷ 0 ∷ 0 ∷ 0 ∷ 0 ∷ 0 ∷ 0 ∷ 0 ∷ 0 ∷ 0 ∷ 0 ∷ 0 ∷ 0 ∷ 0 ∷ 0 ∷ 0 ∷ 0 ∷ 0 ∷ 0 ∷ 0 ∷ 0 ∷ 0 ∷ 0 ∷ 0 ∷ 0 ∷ 0 ∷ 0 ∷ 0 ∷ 0 ∷ 0 ∷ 0 ∷ 0 ∷ 0 ∷ 0 ∷ 0 ∷ 0 ∷ 0 ∷ 0 ∷ 0 ∷ 0 ∷ 0 ∷ 0 ∷ 0 ∷ 0 ∷ 0 ∷ 0 ∷ 0 ∷ 0 ∷ 0 ∷ 0 ∷ 0 ∷ 0 ∷ 0 ∷ 0 ∷ 0 ∷ 0 ∷ 0 ∷ 0 ∷ 0 ∷ 0 ∷ 0 ∷ 0 ∷ 0 ∷ 0 ∷ 0 ∷ 0 ∷ 0 ∷ 0 ∷ 0 ∷ 0 ∷ 0 ∷ 0 ∷ 0 ∷ 0 ∷ 0 ∷ 0 ∷ 0 ∷ 0 ∷ 0 ∷ 0 ∷ 0 ∷ 0 ∷ 0 ∷ 0 ∷ 0 ∷ 0 ∷ 0 ∷ 0 ∷ 0 ∷ 0 ∷ 0 ∷ 0 ∷ 0 ∷ 0 ∷ 0 ∷ 0 ∷ 0 ∷ 0 ∷ 0 ∷ 0 ∷ 32 ∷ 0 ∷ 0 ∷ 16 ∷ 0 ∷ 0 ∷ 0 ∷ 0 ∷ 160 ∷ 0 ∷ 0 ∷ 16 ∷ 0 ∷ 0 ∷ 0 ∷ 0 ∷ 0 ∷ 0 ∷ 0 ∷ 0 ∷ 0 ∷ 0 ∷ 0 ∷ 0 ∷ 0 ∷ 0 ∷ 0 ∷ 0 ∷ 0 ∷ 0 ∷ 0 ∷ 0 ∷ 0 ∷ 0 ∷ 0 ∷ 0 ∷ 0 ∷ 0 ∷ 0 ∷ 0 ∷ 0 ∷ 0 ∷ 0 ∷ 0 ∷ 0 ∷ 0 ∷ 0 ∷ 0 ∷ 0 ∷ 0 ∷ 0 ∷ 0 ∷ 0 ∷ 0 ∷ 0 ∷ 0 ∷ 0 ∷ 0 ∷ 0 ∷ 0 ∷ 0 ∷ 0 ∷ 0 ∷ 0 ∷ 0 ∷ 0 ∷ 0 ∷ 0 ∷ 0 ∷ 0 ∷ 0 ∷ 0 ∷ 0 ∷ 0 ∷ 0 ∷ 0 ∷ 0 ∷ 0 ∷ 0 ∷ 0 ∷ 0 ∷ 0 ∷ 0 ∷ 0 ∷ 0 ∷ 0 ∷ 0 ∷ 0 ∷ 0 ∷ 0 ∷ 0 ∷ 0 ∷ 0 ∷ 0 ∷ 0 ∷ 0 ∷ 0 ∷ 0 ∷ 0 ∷ 0 ∷ 0 ∷ 0 ∷ 0 ∷ 0 ∷ 0 ∷ 0 ∷ 0 ∷ 0 ∷ 0 ∷ 0 ∷ 0 ∷ 0 ∷ 0 ∷ 0 ∷ 0 ∷ 0 ∷ 0 ∷ 0 ∷ 0 ∷ 0 ∷ 0 ∷ 0 ∷ 0 ∷ 0 ∷ 0 ∷ 0 ∷ 0 ∷ 0 ∷ 32 ∷ 0 ∷ 0 ∷ 16 ∷ 0 ∷ 0 ∷ 0 ∷ 0 ∷ 160 ∷ 0 ∷ 0 ∷ 16 ∷ 0 ∷ 0 ∷ 0 ∷ 0 ∷ 32 ∷ 1 ∷ 0 ∷ 16 ∷ 0 ∷ 0 ∷ 0 ∷ 0 ∷ 0 ∷ 0 ∷ 0 ∷ 0 ∷ 0 ∷ 0 ∷ 0 ∷ 0 ∷ 0 ∷ 0 ∷ 0 ∷ 0 ∷ 0 ∷ 0 ∷ 0 ∷ 0 ∷ 0 ∷ 0 ∷ 0 ∷ 0 ∷ 0 ∷ 0 ∷ 0 ∷ 0 ∷ 0 ∷ 0 ∷ 0 ∷ 0 ∷ 0 ∷ 0 ∷ 0 ∷ 0 ∷ 0 ∷ 0 ∷ 0 ∷ 0 ∷ 0 ∷ 0 ∷ 0 ∷ 0 ∷ 0 ∷ 0 ∷ 0 ∷ 0 ∷ 0 ∷ 0 ∷ 0 ∷ 0 ∷ 0 ∷ 0 ∷ 0 ∷ 0 ∷ 0 ∷ 0 ∷ 0 ∷ 0 ∷ 0 ∷ 0 ∷ 0 ∷ 0 ∷ 0 ∷ 0 ∷ 0 ∷ 0 ∷ 0 ∷ 0 ∷ 0 ∷ 0 ∷ 0 ∷ 0 ∷ 0 ∷ 0 ∷ 0 ∷ 0 ∷ 0 ∷ 0 ∷ 0 ∷ 0 ∷ 0 ∷ 0 ∷ 0 ∷ 0 ∷ 0 ∷ 0 ∷ 0 ∷ 0 ∷ 0 ∷ 0 ∷ 0 ∷ 0 ∷ 0 ∷ 0 ∷ 0 ∷ 0 ∷ 0 ∷ 0 ∷ 0 ∷ 0 ∷ 0 ∷ 0 ∷ 0 ∷ 0 ∷ 0 ∷ 0 ∷ [])
unfolding data_tree record_row fields_before
cases_constants b v = refl

-- MODULE M; IMPORT Out; VAR g, n: INTEGER; PROCEDURE P(a, b: INTEGER; VAR v: INTEGER); VAR i, j, k: INTEGER; t: BOOLEAN; BEGIN WHILE a > b DO a := a - b ELSIF b > a DO b := b - a; k := a END; WHILE (a > 0) & ~(b = 0) OR t DO DEC(a); t := FALSE END; REPEAT INC(i); IF i > 5 THEN j := i ELSIF i = 3 THEN j := k; k := 1 ELSE i := 7 END UNTIL (i > 10) OR (j < k); FOR i := 0 TO k DO j := j + i; FOR v := i TO 0 BY -2 DO Out.Int(v, 0) END END; FOR g := 10 TO 0 BY -3 DO n := n + g END END P; BEGIN P(3, 4, n); FOR n := 1 TO 3 DO END; REPEAT UNTIL TRUE; IF n = 1 THEN END END M.
abbrev loops : Outside Program
loops b v = record { types = record { kinds = (Int ∷ Nothing ∷ BoolKind ∷ []); records = []; signatures = [] }; modules = (record { name = []; objects = []; variables = (0 ∷ 0 ∷ []); body = 1 } ∷ []); procedures = (record { «module» = 0; line = 1; is_body = false; formals = (record { mode = OfValue; variable = false; type_number = 0 } ∷ record { mode = OfValue; variable = false; type_number = 0 } ∷ record { mode = Place; variable = true; type_number = 0 } ∷ []); result = 1; locals = (0 ∷ 0 ∷ 0 ∷ 2 ∷ []); texts = []; body = ((While' (vec2 v) (more_of-Branch (record { form = (Compare' Greater b (Load (Whole (Local 0) Int)) b (Load (Whole (Local 1) Int))); kind = BoolKind }) (vec1 v) (more_of-Stmt (Assign (Whole (Local 0) Int) (record { form = (Chain' b (Load (Whole (Local 0) Int)) (vec1 v) (more_of-Link (Operate Subtract (Load (Whole (Local 1) Int))) end_of-Link)); kind = Int })) end_of-Stmt) (more_of-Branch (record { form = (Compare' Greater b (Load (Whole (Local 1) Int)) b (Load (Whole (Local 0) Int))); kind = BoolKind }) (vec2 v) (more_of-Stmt (Assign (Whole (Local 1) Int) (record { form = (Chain' b (Load (Whole (Local 1) Int)) (vec1 v) (more_of-Link (Operate Subtract (Load (Whole (Local 0) Int))) end_of-Link)); kind = Int })) (more_of-Stmt (Assign (Whole (Local 4) Int) (record { form = (Load (Whole (Local 0) Int)); kind = Int })) end_of-Stmt)) end_of-Branch))) ∷ (While' (vec1 v) (more_of-Branch (record { form = (Chain' b (Compare' Greater b (Load (Whole (Local 0) Int)) b (Literal 0)) (vec2 v) (more_of-Link (And (Unary' Not b (Compare' Equal b (Load (Whole (Local 1) Int)) b (Literal 0)))) (more_of-Link (Or (Load (Whole (Local 5) BoolKind))) end_of-Link))); kind = BoolKind }) (vec2 v) (more_of-Stmt (Decrease (Whole (Local 0) Int) (record { form = (Literal 1); kind = Int })) (more_of-Stmt (Assign (Whole (Local 5) BoolKind) (record { form = (Literal 0); kind = BoolKind })) end_of-Stmt)) end_of-Branch)) ∷ (Repeat' (vec2 v) (more_of-Stmt (Increase (Whole (Local 2) Int) (record { form = (Literal 1); kind = Int })) (more_of-Stmt (If' (vec2 v) (more_of-Branch (record { form = (Compare' Greater b (Load (Whole (Local 2) Int)) b (Literal 5)); kind = BoolKind }) (vec1 v) (more_of-Stmt (Assign (Whole (Local 3) Int) (record { form = (Load (Whole (Local 2) Int)); kind = Int })) end_of-Stmt) (more_of-Branch (record { form = (Compare' Equal b (Load (Whole (Local 2) Int)) b (Literal 3)); kind = BoolKind }) (vec2 v) (more_of-Stmt (Assign (Whole (Local 3) Int) (record { form = (Load (Whole (Local 4) Int)); kind = Int })) (more_of-Stmt (Assign (Whole (Local 4) Int) (record { form = (Literal 1); kind = Int })) end_of-Stmt)) end_of-Branch)) (vec1 v) (more_of-Stmt (Assign (Whole (Local 2) Int) (record { form = (Literal 7); kind = Int })) end_of-Stmt)) end_of-Stmt)) (record { form = (Chain' b (Compare' Greater b (Load (Whole (Local 2) Int)) b (Literal 10)) (vec1 v) (more_of-Link (Or (Compare' Less b (Load (Whole (Local 3) Int)) b (Load (Whole (Local 4) Int)))) end_of-Link)); kind = BoolKind })) ∷ (For' b (Whole (Local 2) Int) (record { form = (Literal 0); kind = Int }) (record { form = (Load (Whole (Local 4) Int)); kind = Int }) (pos 1) (vec2 v) (more_of-Stmt (Assign (Whole (Local 3) Int) (record { form = (Chain' b (Load (Whole (Local 3) Int)) (vec1 v) (more_of-Link (Operate Add (Load (Whole (Local 2) Int))) end_of-Link)); kind = Int })) (more_of-Stmt (For' b (Whole (Parameter 2) Int) (record { form = (Load (Whole (Local 2) Int)); kind = Int }) (record { form = (Literal 0); kind = Int }) (negsuc 1) (vec1 v) (more_of-Stmt (OutInt (record { form = (Load (Whole (Parameter 2) Int)); kind = Int }) (record { form = (Literal 0); kind = Int })) end_of-Stmt)) end_of-Stmt))) ∷ (For' b (Whole (Global 0 0) Int) (record { form = (Literal 10); kind = Int }) (record { form = (Literal 0); kind = Int }) (negsuc 2) (vec1 v) (more_of-Stmt (Assign (Whole (Global 0 1) Int) (record { form = (Chain' b (Load (Whole (Global 0 1) Int)) (vec1 v) (more_of-Link (Operate Add (Load (Whole (Global 0 0) Int))) end_of-Link)); kind = Int })) end_of-Stmt)) ∷ []); answer = None } ∷ record { «module» = 0; line = 1; is_body = true; formals = []; result = 1; locals = []; texts = []; body = ((Invoke (Direct' 0 (vec3 v) (more_of-Argument (ByValue (Literal 3)) (more_of-Argument (ByValue (Literal 4)) (more_of-Argument (ByPlace (Whole (Global 0 1) Int)) end_of-Argument))))) ∷ (For' b (Whole (Global 0 1) Int) (record { form = (Literal 1); kind = Int }) (record { form = (Literal 3); kind = Int }) (pos 1) (vec0 v) end_of-Stmt) ∷ (Repeat' (vec0 v) end_of-Stmt (record { form = (Literal 1); kind = BoolKind })) ∷ (If' (vec1 v) (more_of-Branch (record { form = (Compare' Equal b (Load (Whole (Global 0 1) Int)) b (Literal 1)); kind = BoolKind }) (vec0 v) end_of-Stmt end_of-Branch) (vec0 v) end_of-Stmt) ∷ []); answer = None } ∷ []); imports_in = false }

abbrev loops_procs : List Proc
loops_procs = ((proc ((block (0 ∷ 1 ∷ 2 ∷ []) ((op (ConstOp 0) [] (Some 3)) ∷ (op (ConstOp 0) [] (Some 4)) ∷ (op (ConstOp 0) [] (Some 5)) ∷ (op (ConstOp 0) [] (Some 6)) ∷ []) (Jump 1 (0 ∷ 1 ∷ 5 ∷ [])) 1048576 None) ∷ (block (7 ∷ 8 ∷ 9 ∷ []) [] (Branch 12 7 8 2 3) 8388608 (Some 0)) ∷ (block [] ((op SubOp (7 ∷ 8 ∷ []) (Some 10)) ∷ []) (Jump 1 (10 ∷ 8 ∷ 9 ∷ [])) 8388608 None) ∷ (block [] [] (Branch 12 8 7 4 5) 8388608 None) ∷ (block [] ((op SubOp (8 ∷ 7 ∷ []) (Some 11)) ∷ []) (Jump 1 (7 ∷ 11 ∷ 7 ∷ [])) 8388608 None) ∷ (block [] [] (Jump 6 (7 ∷ 6 ∷ [])) 1048576 None) ∷ (block (12 ∷ 13 ∷ []) ((op (ConstOp 0) [] (Some 14)) ∷ []) (Branch 12 12 14 7 8) 8388608 (Some 5)) ∷ (block [] ((op (ConstOp 0) [] (Some 15)) ∷ []) (Branch 0 8 15 8 9) 8388608 None) ∷ (block [] [] (Nonzero 13 9 10) 8388608 None) ∷ (block [] ((op (ConstOp 1) [] (Some 16)) ∷ (op SubOp (12 ∷ 16 ∷ []) (Some 17)) ∷ (op (ConstOp 0) [] (Some 18)) ∷ []) (Jump 6 (17 ∷ 18 ∷ [])) 8388608 None) ∷ (block [] [] (Jump 11 (3 ∷ 4 ∷ 9 ∷ [])) 1048576 None) ∷ (block (19 ∷ 20 ∷ 21 ∷ []) ((op (ConstOp 1) [] (Some 22)) ∷ (op AddOp (19 ∷ 22 ∷ []) (Some 23)) ∷ (op (ConstOp 5) [] (Some 24)) ∷ []) (Branch 12 23 24 12 13) 8388608 (Some 10)) ∷ (block [] [] (Jump 17 (23 ∷ 23 ∷ 21 ∷ [])) 4194304 None) ∷ (block [] ((op (ConstOp 3) [] (Some 25)) ∷ []) (Branch 0 23 25 14 15) 4194304 None) ∷ (block [] ((op (ConstOp 1) [] (Some 26)) ∷ []) (Jump 16 (23 ∷ 21 ∷ 26 ∷ [])) 2097152 None) ∷ (block [] ((op (ConstOp 7) [] (Some 27)) ∷ []) (Jump 16 (27 ∷ 20 ∷ 21 ∷ [])) 2097152 None) ∷ (block (28 ∷ 29 ∷ 30 ∷ []) [] (Jump 17 (28 ∷ 29 ∷ 30 ∷ [])) 4194304 None) ∷ (block (31 ∷ 32 ∷ 33 ∷ []) ((op (ConstOp 10) [] (Some 34)) ∷ []) (Branch 12 31 34 20 18) 8388608 None) ∷ (block [] [] (Branch 11 32 33 20 19) 8388608 None) ∷ (block [] [] (Jump 11 (31 ∷ 32 ∷ 33 ∷ [])) 8388608 None) ∷ (block [] ((op (ConstOp 0) [] (Some 35)) ∷ []) (Jump 21 (35 ∷ 32 ∷ [])) 1048576 None) ∷ (block (36 ∷ 37 ∷ []) [] (Branch 13 36 33 22 26) 8388608 (Some 20)) ∷ (block [] ((op AddOp (37 ∷ 36 ∷ []) (Some 38)) ∷ (op StoreOp (2 ∷ 36 ∷ []) None) ∷ (op (ConstOp 0) [] (Some 39)) ∷ []) (Jump 23 []) 8388608 None) ∷ (block [] ((op LoadOp (2 ∷ []) (Some 40)) ∷ []) (Branch 10 40 39 24 25) 67108864 (Some 22)) ∷ (block [] ((op LoadOp (2 ∷ []) (Some 41)) ∷ (op (ConstOp 0) [] (Some 42)) ∷ (op (SvcOp 2) (41 ∷ 42 ∷ []) None) ∷ (op LoadOp (2 ∷ []) (Some 43)) ∷ (op (ConstOp 18446744073709551614) [] (Some 44)) ∷ (op AddOp (43 ∷ 44 ∷ []) (Some 45)) ∷ (op StoreOp (2 ∷ 45 ∷ []) None) ∷ []) (Jump 23 []) 67108864 None) ∷ (block [] ((op (ConstOp 1) [] (Some 46)) ∷ (op AddOp (36 ∷ 46 ∷ []) (Some 47)) ∷ []) (Jump 21 (47 ∷ 38 ∷ [])) 8388608 None) ∷ (block [] ((op (GlobalOp 8) [] (Some 48)) ∷ (op (ConstOp 10) [] (Some 49)) ∷ (op StoreOp (48 ∷ 49 ∷ []) None) ∷ (op (ConstOp 0) [] (Some 50)) ∷ []) (Jump 27 []) 1048576 None) ∷ (block [] ((op (GlobalOp 8) [] (Some 51)) ∷ (op LoadOp (51 ∷ []) (Some 52)) ∷ []) (Branch 10 52 50 28 29) 8388608 (Some 26)) ∷ (block [] ((op (GlobalOp 16) [] (Some 53)) ∷ (op (GlobalOp 16) [] (Some 54)) ∷ (op LoadOp (54 ∷ []) (Some 55)) ∷ (op (GlobalOp 8) [] (Some 56)) ∷ (op LoadOp (56 ∷ []) (Some 57)) ∷ (op AddOp (55 ∷ 57 ∷ []) (Some 58)) ∷ (op StoreOp (53 ∷ 58 ∷ []) None) ∷ (op (GlobalOp 8) [] (Some 59)) ∷ (op (GlobalOp 8) [] (Some 60)) ∷ (op LoadOp (60 ∷ []) (Some 61)) ∷ (op (ConstOp 18446744073709551613) [] (Some 62)) ∷ (op AddOp (61 ∷ 62 ∷ []) (Some 63)) ∷ (op StoreOp (59 ∷ 63 ∷ []) None) ∷ []) (Jump 27 []) 8388608 None) ∷ (block [] [] (Return None) 1048576 None) ∷ []) 64 3 true 6 0) ∷ (proc ((block [] ((op (ConstOp 3) [] (Some 0)) ∷ (op (ConstOp 4) [] (Some 1)) ∷ (op (GlobalOp 16) [] (Some 2)) ∷ (op (CallOp 0) (0 ∷ 1 ∷ 2 ∷ []) None) ∷ (op (GlobalOp 16) [] (Some 3)) ∷ (op (ConstOp 1) [] (Some 4)) ∷ (op StoreOp (3 ∷ 4 ∷ []) None) ∷ (op (ConstOp 3) [] (Some 5)) ∷ []) (Jump 1 []) 1048576 None) ∷ (block [] ((op (GlobalOp 16) [] (Some 6)) ∷ (op LoadOp (6 ∷ []) (Some 7)) ∷ []) (Branch 13 7 5 2 3) 8388608 (Some 0)) ∷ (block [] ((op (GlobalOp 16) [] (Some 8)) ∷ (op (GlobalOp 16) [] (Some 9)) ∷ (op LoadOp (9 ∷ []) (Some 10)) ∷ (op (ConstOp 1) [] (Some 11)) ∷ (op AddOp (10 ∷ 11 ∷ []) (Some 12)) ∷ (op StoreOp (8 ∷ 12 ∷ []) None) ∷ []) (Jump 1 []) 8388608 None) ∷ (block [] [] (Jump 4 []) 1048576 None) ∷ (block [] ((op (ConstOp 1) [] (Some 13)) ∷ []) (Nonzero 13 6 5) 8388608 (Some 3)) ∷ (block [] [] (Jump 4 []) 8388608 None) ∷ (block [] ((op (GlobalOp 16) [] (Some 14)) ∷ (op LoadOp (14 ∷ []) (Some 15)) ∷ (op (ConstOp 1) [] (Some 16)) ∷ []) (Branch 0 15 16 7 8) 1048576 None) ∷ (block [] [] (Jump 9 []) 524288 None) ∷ (block [] [] (Jump 9 []) 524288 None) ∷ (block [] [] (Return None) 1048576 None) ∷ []) 17 0 false 0 0) ∷ [])

pub loops_low : (b : Box (Unit {0}) Heap) (v : Vec (Unit {0}) Heap) → lowered (loops b v) ≡ loops_procs
unfolding data_tree record_row fields_before
loops_low b v = refl

-- MODULE M; IMPORT Out; VAR g: BOOLEAN; s: SET; PROCEDURE F(a, b: BOOLEAN): BOOLEAN; VAR c: BOOLEAN; BEGIN c := a & b OR ~a & (b OR c); g := ~(a & b); IF ~(a OR b) & ~c THEN c := a # b END; ASSERT(a OR b); RETURN (a & b) = (a OR c) END F; PROCEDURE S(t: SET; x, y: INTEGER): BOOLEAN; VAR u: SET; BEGIN u := -t + s - {1, x, y..x} * {x} / t; INCL(u, x); EXCL(s, y + 1); INCL(s, 3); RETURN (x IN u) & (u <= t) OR (u >= s) & ({} = u) OR (t # s) END S; BEGIN IF F(g, TRUE) & S(s, 1, 2) THEN Out.Ln END END M.
abbrev flags : Outside Program
flags b v = record { types = record { kinds = (BoolKind ∷ SetKind ∷ Int ∷ Nothing ∷ []); records = []; signatures = [] }; modules = (record { name = []; objects = []; variables = (0 ∷ 1 ∷ []); body = 2 } ∷ []); procedures = (record { «module» = 0; line = 1; is_body = false; formals = (record { mode = OfValue; variable = false; type_number = 0 } ∷ record { mode = OfValue; variable = false; type_number = 0 } ∷ []); result = 0; locals = (0 ∷ []); texts = []; body = ((Assign (Whole (Local 2) BoolKind) (record { form = (Chain' b (Load (Whole (Local 0) BoolKind)) (vec2 v) (more_of-Link (And (Load (Whole (Local 1) BoolKind))) (more_of-Link (Or (Chain' b (Unary' Not b (Load (Whole (Local 0) BoolKind))) (vec1 v) (more_of-Link (And (Chain' b (Load (Whole (Local 1) BoolKind)) (vec1 v) (more_of-Link (Or (Load (Whole (Local 2) BoolKind))) end_of-Link))) end_of-Link))) end_of-Link))); kind = BoolKind })) ∷ (Assign (Whole (Global 0 0) BoolKind) (record { form = (Unary' Not b (Chain' b (Load (Whole (Local 0) BoolKind)) (vec1 v) (more_of-Link (And (Load (Whole (Local 1) BoolKind))) end_of-Link))); kind = BoolKind })) ∷ (If' (vec1 v) (more_of-Branch (record { form = (Chain' b (Unary' Not b (Chain' b (Load (Whole (Local 0) BoolKind)) (vec1 v) (more_of-Link (Or (Load (Whole (Local 1) BoolKind))) end_of-Link))) (vec1 v) (more_of-Link (And (Unary' Not b (Load (Whole (Local 2) BoolKind)))) end_of-Link)); kind = BoolKind }) (vec1 v) (more_of-Stmt (Assign (Whole (Local 2) BoolKind) (record { form = (Compare' Unequal b (Load (Whole (Local 0) BoolKind)) b (Load (Whole (Local 1) BoolKind))); kind = BoolKind })) end_of-Stmt) end_of-Branch) (vec0 v) end_of-Stmt) ∷ (Assert (record { form = (Chain' b (Load (Whole (Local 0) BoolKind)) (vec1 v) (more_of-Link (Or (Load (Whole (Local 1) BoolKind))) end_of-Link)); kind = BoolKind })) ∷ []); answer = (Some (record { form = (Compare' Equal b (Chain' b (Load (Whole (Local 0) BoolKind)) (vec1 v) (more_of-Link (And (Load (Whole (Local 1) BoolKind))) end_of-Link)) b (Chain' b (Load (Whole (Local 0) BoolKind)) (vec1 v) (more_of-Link (Or (Load (Whole (Local 2) BoolKind))) end_of-Link))); kind = BoolKind })) } ∷ record { «module» = 0; line = 1; is_body = false; formals = (record { mode = OfValue; variable = false; type_number = 1 } ∷ record { mode = OfValue; variable = false; type_number = 2 } ∷ record { mode = OfValue; variable = false; type_number = 2 } ∷ []); result = 0; locals = (1 ∷ []); texts = []; body = ((Assign (Whole (Local 3) SetKind) (record { form = (Chain' b (Unary' Complement b (Load (Whole (Local 0) SetKind))) (vec2 v) (more_of-Link (Operate Union (Load (Whole (Global 0 1) SetKind))) (more_of-Link (Operate Difference (Chain' b (Literal 0) (vec5 v) (more_of-Link (Element (Literal 1)) (more_of-Link (Element (Load (Whole (Local 1) Int))) (more_of-Link (Elements' b (Load (Whole (Local 2) Int)) b (Load (Whole (Local 1) Int))) (more_of-Link (Operate Intersection (Chain' b (Literal 0) (vec1 v) (more_of-Link (Element (Load (Whole (Local 1) Int))) end_of-Link))) (more_of-Link (Operate SymmetricDifference (Load (Whole (Local 0) SetKind))) end_of-Link))))))) end_of-Link))); kind = SetKind })) ∷ (Include (Whole (Local 3) SetKind) (record { form = (Load (Whole (Local 1) Int)); kind = Int })) ∷ (Exclude (Whole (Global 0 1) SetKind) (record { form = (Chain' b (Load (Whole (Local 2) Int)) (vec1 v) (more_of-Link (Operate Add (Literal 1)) end_of-Link)); kind = Int })) ∷ (Include (Whole (Global 0 1) SetKind) (record { form = (Literal 3); kind = Int })) ∷ []); answer = (Some (record { form = (Chain' b (In' b (Load (Whole (Local 1) Int)) b (Load (Whole (Local 3) SetKind))) (vec3 v) (more_of-Link (And (Chain' b (Load (Whole (Local 3) SetKind)) (vec1 v) (more_of-Link (Operate Subset (Load (Whole (Local 0) SetKind))) end_of-Link))) (more_of-Link (Or (Chain' b (Load (Whole (Local 3) SetKind)) (vec2 v) (more_of-Link (Operate Superset (Load (Whole (Global 0 1) SetKind))) (more_of-Link (And (Compare' Equal b (Literal 0) b (Load (Whole (Local 3) SetKind)))) end_of-Link)))) (more_of-Link (Or (Compare' Unequal b (Load (Whole (Local 0) SetKind)) b (Load (Whole (Global 0 1) SetKind)))) end_of-Link)))); kind = BoolKind })) } ∷ record { «module» = 0; line = 1; is_body = true; formals = []; result = 3; locals = []; texts = []; body = ((If' (vec1 v) (more_of-Branch (record { form = (Chain' b (Call' b (Direct' 0 (vec2 v) (more_of-Argument (ByValue (Load (Whole (Global 0 0) BoolKind))) (more_of-Argument (ByValue (Literal 1)) end_of-Argument)))) (vec1 v) (more_of-Link (And (Call' b (Direct' 1 (vec3 v) (more_of-Argument (ByValue (Load (Whole (Global 0 1) SetKind))) (more_of-Argument (ByValue (Literal 1)) (more_of-Argument (ByValue (Literal 2)) end_of-Argument)))))) end_of-Link)); kind = BoolKind }) (vec1 v) (more_of-Stmt OutLn end_of-Stmt) end_of-Branch) (vec0 v) end_of-Stmt) ∷ []); answer = None } ∷ []); imports_in = false }

abbrev flags_procs : List Proc
flags_procs = ((proc ((block (0 ∷ 1 ∷ []) ((op (ConstOp 0) [] (Some 2)) ∷ []) (Nonzero 0 1 2) 1048576 None) ∷ (block [] [] (Nonzero 1 5 2) 1048576 None) ∷ (block [] [] (Nonzero 0 6 3) 1048576 None) ∷ (block [] [] (Nonzero 1 5 4) 1048576 None) ∷ (block [] [] (Nonzero 2 5 6) 1048576 None) ∷ (block [] ((op (ConstOp 1) [] (Some 3)) ∷ []) (Jump 7 (3 ∷ [])) 524288 None) ∷ (block [] ((op (ConstOp 0) [] (Some 4)) ∷ []) (Jump 7 (4 ∷ [])) 524288 None) ∷ (block (5 ∷ []) ((op (GlobalOp 8) [] (Some 6)) ∷ []) (Nonzero 0 8 10) 1048576 None) ∷ (block [] [] (Nonzero 1 9 10) 1048576 None) ∷ (block [] ((op (ConstOp 1) [] (Some 7)) ∷ []) (Jump 11 (7 ∷ [])) 524288 None) ∷ (block [] ((op (ConstOp 0) [] (Some 8)) ∷ []) (Jump 11 (8 ∷ [])) 524288 None) ∷ (block (9 ∷ []) ((op FlipOp (9 ∷ []) (Some 10)) ∷ (op StoreByteOp (6 ∷ 10 ∷ []) None) ∷ []) (Nonzero 0 15 12) 1048576 None) ∷ (block [] [] (Nonzero 1 15 13) 1048576 None) ∷ (block [] [] (Nonzero 5 15 14) 1048576 None) ∷ (block [] ((op (SetOp 1) (0 ∷ 1 ∷ []) (Some 11)) ∷ []) (Jump 16 (11 ∷ [])) 524288 None) ∷ (block [] [] (Jump 16 (5 ∷ [])) 524288 None) ∷ (block (12 ∷ []) [] (Nonzero 0 18 17) 1048576 None) ∷ (block [] [] (Nonzero 1 18 19) 1048576 None) ∷ (block [] ((op (ConstOp 1) [] (Some 13)) ∷ []) (Jump 20 (13 ∷ [])) 524288 None) ∷ (block [] ((op (ConstOp 0) [] (Some 14)) ∷ []) (Jump 20 (14 ∷ [])) 524288 None) ∷ (block (15 ∷ []) ((op TrueOp (15 ∷ []) None) ∷ []) (Nonzero 0 21 23) 1048576 None) ∷ (block [] [] (Nonzero 1 22 23) 1048576 None) ∷ (block [] ((op (ConstOp 1) [] (Some 16)) ∷ []) (Jump 24 (16 ∷ [])) 524288 None) ∷ (block [] ((op (ConstOp 0) [] (Some 17)) ∷ []) (Jump 24 (17 ∷ [])) 524288 None) ∷ (block (18 ∷ []) [] (Nonzero 0 26 25) 1048576 None) ∷ (block [] [] (Nonzero 12 26 27) 1048576 None) ∷ (block [] ((op (ConstOp 1) [] (Some 19)) ∷ []) (Jump 28 (19 ∷ [])) 524288 None) ∷ (block [] ((op (ConstOp 0) [] (Some 20)) ∷ []) (Jump 28 (20 ∷ [])) 524288 None) ∷ (block (21 ∷ []) ((op (SetOp 0) (18 ∷ 21 ∷ []) (Some 22)) ∷ []) (Return (Some 22)) 1048576 None) ∷ []) 23 2 true 3 0) ∷ (proc ((block (0 ∷ 1 ∷ 2 ∷ []) ((op (ConstOp 0) [] (Some 3)) ∷ (op NotOp (0 ∷ []) (Some 4)) ∷ (op (GlobalOp 16) [] (Some 5)) ∷ (op LoadOp (5 ∷ []) (Some 6)) ∷ (op OrOp (4 ∷ 6 ∷ []) (Some 7)) ∷ (op (ConstOp 0) [] (Some 8)) ∷ (op (ConstOp 1) [] (Some 9)) ∷ (op ElemOp (9 ∷ []) None) ∷ (op BitOp (9 ∷ []) (Some 10)) ∷ (op OrOp (8 ∷ 10 ∷ []) (Some 11)) ∷ (op ElemOp (1 ∷ []) None) ∷ (op BitOp (1 ∷ []) (Some 12)) ∷ (op OrOp (11 ∷ 12 ∷ []) (Some 13)) ∷ (op ElemOp (2 ∷ []) None) ∷ (op ElemOp (1 ∷ []) None) ∷ (op SpanOp (2 ∷ 1 ∷ []) (Some 14)) ∷ (op OrOp (13 ∷ 14 ∷ []) (Some 15)) ∷ (op (ConstOp 0) [] (Some 16)) ∷ (op ElemOp (1 ∷ []) None) ∷ (op BitOp (1 ∷ []) (Some 17)) ∷ (op OrOp (16 ∷ 17 ∷ []) (Some 18)) ∷ (op AndOp (15 ∷ 18 ∷ []) (Some 19)) ∷ (op EorOp (19 ∷ 0 ∷ []) (Some 20)) ∷ (op BicOp (7 ∷ 20 ∷ []) (Some 21)) ∷ (op ElemOp (1 ∷ []) None) ∷ (op BitOp (1 ∷ []) (Some 22)) ∷ (op OrOp (21 ∷ 22 ∷ []) (Some 23)) ∷ (op (GlobalOp 16) [] (Some 24)) ∷ (op (ConstOp 1) [] (Some 25)) ∷ (op AddOp (2 ∷ 25 ∷ []) (Some 26)) ∷ (op ElemOp (26 ∷ []) None) ∷ (op BitOp (26 ∷ []) (Some 27)) ∷ (op LoadOp (24 ∷ []) (Some 28)) ∷ (op BicOp (28 ∷ 27 ∷ []) (Some 29)) ∷ (op StoreOp (24 ∷ 29 ∷ []) None) ∷ (op (GlobalOp 16) [] (Some 30)) ∷ (op (ConstOp 3) [] (Some 31)) ∷ (op ElemOp (31 ∷ []) None) ∷ (op BitOp (31 ∷ []) (Some 32)) ∷ (op LoadOp (30 ∷ []) (Some 33)) ∷ (op OrOp (33 ∷ 32 ∷ []) (Some 34)) ∷ (op StoreOp (30 ∷ 34 ∷ []) None) ∷ (op ElemOp (1 ∷ []) None) ∷ (op HasOp (1 ∷ 23 ∷ []) (Some 35)) ∷ []) (Nonzero 35 1 2) 1048576 None) ∷ (block [] ((op BicOp (23 ∷ 0 ∷ []) (Some 36)) ∷ (op (ConstOp 0) [] (Some 37)) ∷ (op (SetOp 0) (36 ∷ 37 ∷ []) (Some 38)) ∷ []) (Nonzero 38 5 2) 1048576 None) ∷ (block [] ((op (GlobalOp 16) [] (Some 39)) ∷ (op LoadOp (39 ∷ []) (Some 40)) ∷ (op BicOp (40 ∷ 23 ∷ []) (Some 41)) ∷ (op (ConstOp 0) [] (Some 42)) ∷ (op (SetOp 0) (41 ∷ 42 ∷ []) (Some 43)) ∷ []) (Nonzero 43 3 4) 1048576 None) ∷ (block [] ((op (ConstOp 0) [] (Some 44)) ∷ []) (Branch 0 44 23 5 4) 1048576 None) ∷ (block [] ((op (GlobalOp 16) [] (Some 45)) ∷ (op LoadOp (45 ∷ []) (Some 46)) ∷ []) (Branch 1 0 46 5 6) 1048576 None) ∷ (block [] ((op (ConstOp 1) [] (Some 47)) ∷ []) (Jump 7 (47 ∷ [])) 524288 None) ∷ (block [] ((op (ConstOp 0) [] (Some 48)) ∷ []) (Jump 7 (48 ∷ [])) 524288 None) ∷ (block (49 ∷ []) [] (Return (Some 49)) 1048576 None) ∷ []) 50 3 true 4 0) ∷ (proc ((block [] ((op (GlobalOp 8) [] (Some 0)) ∷ (op LoadByteOp (0 ∷ []) (Some 1)) ∷ (op (ConstOp 1) [] (Some 2)) ∷ (op (CallOp 0) (1 ∷ 2 ∷ []) (Some 3)) ∷ []) (Nonzero 3 1 3) 1048576 None) ∷ (block [] ((op (GlobalOp 16) [] (Some 4)) ∷ (op LoadOp (4 ∷ []) (Some 5)) ∷ (op (ConstOp 1) [] (Some 6)) ∷ (op (ConstOp 2) [] (Some 7)) ∷ (op (CallOp 1) (5 ∷ 6 ∷ 7 ∷ []) (Some 8)) ∷ []) (Nonzero 8 2 3) 1048576 None) ∷ (block [] ((op (ConstOp 10) [] (Some 9)) ∷ (op (SvcOp 1) (9 ∷ []) None) ∷ []) (Jump 4 []) 524288 None) ∷ (block [] [] (Jump 4 []) 524288 None) ∷ (block [] [] (Return None) 1048576 None) ∷ []) 10 0 false 0 0) ∷ [])

pub flags_low : (b : Box (Unit {0}) Heap) (v : Vec (Unit {0}) Heap) → lowered (flags b v) ≡ flags_procs
unfolding data_tree record_row fields_before
flags_low b v = refl

-- MODULE M; IMPORT Out, In; VAR x: INTEGER; b: BYTE; c: CHAR; PROCEDURE P(n: INTEGER; d: BYTE): BYTE; VAR ch: CHAR; e: BYTE; BEGIN x := -n + ABS(n) * (n DIV 3) - n MOD (d + 1); IF ODD(n) THEN x := LSL(n, 2) + ASR(n, d) + ROR(n, 1) END; In.Char(ch); ch := CHR(n); e := n; d := e; INC(e); DEC(b, n); x := ORD(ch) + ORD(n > 2); Out.Char(ch); Out.Int(e, 3); ASSERT(In.Done); RETURN n END P; BEGIN In.Char(c); b := P(x, b); x := +x; x := 9223372036854775807 END M.
abbrev numbers : Outside Program
numbers b v = record { types = record { kinds = (Int ∷ ByteKind ∷ Char ∷ Nothing ∷ []); records = []; signatures = [] }; modules = (record { name = []; objects = []; variables = (0 ∷ 1 ∷ 2 ∷ []); body = 1 } ∷ []); procedures = (record { «module» = 0; line = 1; is_body = false; formals = (record { mode = OfValue; variable = false; type_number = 0 } ∷ record { mode = OfValue; variable = false; type_number = 1 } ∷ []); result = 1; locals = (2 ∷ 1 ∷ []); texts = []; body = ((Assign (Whole (Global 0 0) Int) (record { form = (Chain' b (Unary' Negate b (Load (Whole (Local 0) Int))) (vec2 v) (more_of-Link (Operate Add (Chain' b (Unary' Abs b (Load (Whole (Local 0) Int))) (vec1 v) (more_of-Link (Operate Multiply (Chain' b (Load (Whole (Local 0) Int)) (vec1 v) (more_of-Link (Operate Div (Literal 3)) end_of-Link))) end_of-Link))) (more_of-Link (Operate Subtract (Chain' b (Load (Whole (Local 0) Int)) (vec1 v) (more_of-Link (Operate Mod (Chain' b (Load (Whole (Local 1) ByteKind)) (vec1 v) (more_of-Link (Operate Add (Literal 1)) end_of-Link))) end_of-Link))) end_of-Link))); kind = Int })) ∷ (If' (vec1 v) (more_of-Branch (record { form = (Unary' Odd b (Load (Whole (Local 0) Int))); kind = BoolKind }) (vec1 v) (more_of-Stmt (Assign (Whole (Global 0 0) Int) (record { form = (Chain' b (Load (Whole (Local 0) Int)) (vec3 v) (more_of-Link (Operate Lsl (Literal 2)) (more_of-Link (Operate Add (Chain' b (Load (Whole (Local 0) Int)) (vec1 v) (more_of-Link (Operate Asr (Load (Whole (Local 1) ByteKind))) end_of-Link))) (more_of-Link (Operate Add (Chain' b (Load (Whole (Local 0) Int)) (vec1 v) (more_of-Link (Operate Ror (Literal 1)) end_of-Link))) end_of-Link)))); kind = Int })) end_of-Stmt) end_of-Branch) (vec0 v) end_of-Stmt) ∷ (InChar (Whole (Local 2) Char)) ∷ (Assign (Whole (Local 2) Char) (record { form = (Byte' b (Load (Whole (Local 0) Int))); kind = Char })) ∷ (Assign (Whole (Local 3) ByteKind) (record { form = (Byte' b (Load (Whole (Local 0) Int))); kind = ByteKind })) ∷ (Assign (Whole (Local 1) ByteKind) (record { form = (Byte' b (Load (Whole (Local 3) ByteKind))); kind = ByteKind })) ∷ (Increase (Whole (Local 3) ByteKind) (record { form = (Literal 1); kind = Int })) ∷ (Decrease (Whole (Global 0 1) ByteKind) (record { form = (Load (Whole (Local 0) Int)); kind = Int })) ∷ (Assign (Whole (Global 0 0) Int) (record { form = (Chain' b (Load (Whole (Local 2) Char)) (vec1 v) (more_of-Link (Operate Add (Compare' Greater b (Load (Whole (Local 0) Int)) b (Literal 2))) end_of-Link)); kind = Int })) ∷ (OutChar (record { form = (Load (Whole (Local 2) Char)); kind = Char })) ∷ (OutInt (record { form = (Load (Whole (Local 3) ByteKind)); kind = ByteKind }) (record { form = (Literal 3); kind = Int })) ∷ (Assert (record { form = (Load (Whole Done BoolKind)); kind = BoolKind })) ∷ []); answer = (Some (record { form = (Byte' b (Load (Whole (Local 0) Int))); kind = ByteKind })) } ∷ record { «module» = 0; line = 1; is_body = true; formals = []; result = 3; locals = []; texts = []; body = ((InChar (Whole (Global 0 2) Char)) ∷ (Assign (Whole (Global 0 1) ByteKind) (record { form = (Byte' b (Call' b (Direct' 0 (vec2 v) (more_of-Argument (ByValue (Load (Whole (Global 0 0) Int))) (more_of-Argument (ByValue (Byte' b (Load (Whole (Global 0 1) ByteKind)))) end_of-Argument))))); kind = ByteKind })) ∷ (Assign (Whole (Global 0 0) Int) (record { form = (Load (Whole (Global 0 0) Int)); kind = Int })) ∷ (Assign (Whole (Global 0 0) Int) (record { form = (Literal 9223372036854775807); kind = Int })) ∷ []); answer = None } ∷ []); imports_in = true }

abbrev numbers_procs : List Proc
numbers_procs = ((proc ((block (0 ∷ 1 ∷ []) ((op (LocalOp 8) [] (Some 2)) ∷ (op (ConstOp 0) [] (Some 3)) ∷ (op StoreByteOp (2 ∷ 3 ∷ []) None) ∷ (op (ConstOp 0) [] (Some 4)) ∷ (op (GlobalOp 8) [] (Some 5)) ∷ (op NegOp (0 ∷ []) (Some 6)) ∷ (op AbsOp (0 ∷ []) (Some 7)) ∷ (op (ConstOp 3) [] (Some 8)) ∷ (op DivOp (0 ∷ 8 ∷ []) (Some 9)) ∷ (op MulOp (7 ∷ 9 ∷ []) (Some 10)) ∷ (op AddOp (6 ∷ 10 ∷ []) (Some 11)) ∷ (op (ConstOp 1) [] (Some 12)) ∷ (op AddOp (1 ∷ 12 ∷ []) (Some 13)) ∷ (op ModOp (0 ∷ 13 ∷ []) (Some 14)) ∷ (op SubOp (11 ∷ 14 ∷ []) (Some 15)) ∷ (op StoreOp (5 ∷ 15 ∷ []) None) ∷ (op OddOp (0 ∷ []) (Some 16)) ∷ []) (Nonzero 16 1 2) 1048576 None) ∷ (block [] ((op (GlobalOp 8) [] (Some 17)) ∷ (op (ConstOp 2) [] (Some 18)) ∷ (op LslOp (0 ∷ 18 ∷ []) (Some 19)) ∷ (op AsrOp (0 ∷ 1 ∷ []) (Some 20)) ∷ (op AddOp (19 ∷ 20 ∷ []) (Some 21)) ∷ (op (ConstOp 1) [] (Some 22)) ∷ (op RorOp (0 ∷ 22 ∷ []) (Some 23)) ∷ (op AddOp (21 ∷ 23 ∷ []) (Some 24)) ∷ (op StoreOp (17 ∷ 24 ∷ []) None) ∷ []) (Jump 3 []) 524288 None) ∷ (block [] [] (Jump 3 []) 524288 None) ∷ (block [] ((op (LocalOp 8) [] (Some 25)) ∷ (op (SvcOp 4) [] (Some 26)) ∷ (op (ConstOp 0) [] (Some 27)) ∷ (op (SetOp 10) (26 ∷ 27 ∷ []) (Some 28)) ∷ (op (GlobalOp 0) [] (Some 29)) ∷ (op StoreByteOp (29 ∷ 28 ∷ []) None) ∷ (op Max0Op (26 ∷ []) (Some 30)) ∷ (op StoreByteOp (25 ∷ 30 ∷ []) None) ∷ (op (LocalOp 8) [] (Some 31)) ∷ (op ByteOp (0 ∷ []) None) ∷ (op StoreByteOp (31 ∷ 0 ∷ []) None) ∷ (op ByteOp (0 ∷ []) None) ∷ (op ByteOp (0 ∷ []) None) ∷ (op (ConstOp 1) [] (Some 32)) ∷ (op AddOp (0 ∷ 32 ∷ []) (Some 33)) ∷ (op ByteOp (33 ∷ []) None) ∷ (op (GlobalOp 16) [] (Some 34)) ∷ (op LoadByteOp (34 ∷ []) (Some 35)) ∷ (op SubOp (35 ∷ 0 ∷ []) (Some 36)) ∷ (op ByteOp (36 ∷ []) None) ∷ (op StoreByteOp (34 ∷ 36 ∷ []) None) ∷ (op (GlobalOp 8) [] (Some 37)) ∷ (op (LocalOp 8) [] (Some 38)) ∷ (op LoadByteOp (38 ∷ []) (Some 39)) ∷ (op (ConstOp 2) [] (Some 40)) ∷ (op (SetOp 12) (0 ∷ 40 ∷ []) (Some 41)) ∷ (op AddOp (39 ∷ 41 ∷ []) (Some 42)) ∷ (op StoreOp (37 ∷ 42 ∷ []) None) ∷ (op (LocalOp 8) [] (Some 43)) ∷ (op LoadByteOp (43 ∷ []) (Some 44)) ∷ (op (SvcOp 1) (44 ∷ []) None) ∷ (op (ConstOp 3) [] (Some 45)) ∷ (op (SvcOp 2) (33 ∷ 45 ∷ []) None) ∷ (op (GlobalOp 0) [] (Some 46)) ∷ (op LoadByteOp (46 ∷ []) (Some 47)) ∷ (op TrueOp (47 ∷ []) None) ∷ (op ByteOp (0 ∷ []) None) ∷ []) (Return (Some 0)) 1048576 None) ∷ []) 48 2 true 4 8) ∷ (proc ((block [] ((op (GlobalOp 24) [] (Some 0)) ∷ (op (SvcOp 4) [] (Some 1)) ∷ (op (ConstOp 0) [] (Some 2)) ∷ (op (SetOp 10) (1 ∷ 2 ∷ []) (Some 3)) ∷ (op (GlobalOp 0) [] (Some 4)) ∷ (op StoreByteOp (4 ∷ 3 ∷ []) None) ∷ (op Max0Op (1 ∷ []) (Some 5)) ∷ (op StoreByteOp (0 ∷ 5 ∷ []) None) ∷ (op (GlobalOp 16) [] (Some 6)) ∷ (op (GlobalOp 8) [] (Some 7)) ∷ (op LoadOp (7 ∷ []) (Some 8)) ∷ (op (GlobalOp 16) [] (Some 9)) ∷ (op LoadByteOp (9 ∷ []) (Some 10)) ∷ (op ByteOp (10 ∷ []) None) ∷ (op (CallOp 0) (8 ∷ 10 ∷ []) (Some 11)) ∷ (op ByteOp (11 ∷ []) None) ∷ (op StoreByteOp (6 ∷ 11 ∷ []) None) ∷ (op (GlobalOp 8) [] (Some 12)) ∷ (op (GlobalOp 8) [] (Some 13)) ∷ (op LoadOp (13 ∷ []) (Some 14)) ∷ (op StoreOp (12 ∷ 14 ∷ []) None) ∷ (op (GlobalOp 8) [] (Some 15)) ∷ (op (ConstOp 9223372036854775807) [] (Some 16)) ∷ (op StoreOp (15 ∷ 16 ∷ []) None) ∷ []) (Return None) 1048576 None) ∷ []) 17 0 false 0 0) ∷ [])

pub numbers_low : (b : Box (Unit {0}) Heap) (v : Vec (Unit {0}) Heap) → lowered (numbers b v) ≡ numbers_procs
unfolding data_tree record_row fields_before
numbers_low b v = refl

-- MODULE M; IMPORT Out; TYPE A = ARRAY 3 OF ARRAY 2 OF INTEGER; T = ARRAY 8 OF CHAR; VAR a: A; t, u: T; x: INTEGER; PROCEDURE P(s: ARRAY OF CHAR; VAR v: ARRAY OF CHAR; w: A; VAR y: ARRAY OF INTEGER); VAR b: A; l: T; i: INTEGER; BEGIN b := w; b[1] := w[2]; l := ''abc''; l := s; v := s; v := ''de''; v[0] := ''x''; Out.String(s); Out.String(l); Out.String(''hi''); i := LEN(s) + LEN(l) + LEN(a[1]) + LEN(a[i]); y[i] := b[i][i - 1]; IF (s = l) OR (l < ''q'') OR (''ab'' >= v) THEN v[1] := l[0]; P(l, v, b, b[0]); P(''z1'', v, a, y); P(s, l, w, b[2]) END END P; BEGIN P(''q2'', t, a, a[x]); u := t; u := ''longer'' END M.
abbrev arrays : Outside Program
arrays b v = record { types = record { kinds = (Int ∷ (Array (Some 2) 0) ∷ (Array (Some 3) 1) ∷ Char ∷ (Array (Some 8) 3) ∷ (Array None 3) ∷ (Array None 0) ∷ Nothing ∷ []); records = []; signatures = [] }; modules = (record { name = []; objects = []; variables = (2 ∷ 4 ∷ 4 ∷ 0 ∷ []); body = 1 } ∷ []); procedures = (record { «module» = 0; line = 1; is_body = false; formals = (record { mode = OfOpen; variable = false; type_number = 5 } ∷ record { mode = OfOpen; variable = true; type_number = 5 } ∷ record { mode = Place; variable = false; type_number = 2 } ∷ record { mode = OfOpen; variable = true; type_number = 6 } ∷ []); result = 7; locals = (2 ∷ 4 ∷ 0 ∷ []); texts = ((97 ∷ 98 ∷ 99 ∷ []) ∷ (100 ∷ 101 ∷ []) ∷ (104 ∷ 105 ∷ []) ∷ (113 ∷ []) ∷ (97 ∷ 98 ∷ []) ∷ (122 ∷ 49 ∷ []) ∷ []); body = ((CopyArray (Whole (Local 0) (Array (Some 3) 1)) (Whole (Parameter 2) (Array (Some 3) 1))) ∷ (CopyArray (Part' b (Local 0) (Array (Some 2) 0) (vec1 v) (more_of-Selector (Index (Some 3) 1 (Literal 1)) end_of-Selector)) (Part' b (Parameter 2) (Array (Some 2) 0) (vec1 v) (more_of-Selector (Index (Some 3) 1 (Literal 2)) end_of-Selector))) ∷ (CopyArray (Whole (Local 1) (Array (Some 8) 3)) (Whole (Text 0) (TextKind 3))) ∷ (CopyArray (Whole (Local 1) (Array (Some 8) 3)) (Whole (Parameter 0) (Array None 3))) ∷ (CopyArray (Whole (Parameter 1) (Array None 3)) (Whole (Parameter 0) (Array None 3))) ∷ (CopyArray (Whole (Parameter 1) (Array None 3)) (Whole (Text 1) (TextKind 2))) ∷ (Assign (Part' b (Parameter 1) Char (vec1 v) (more_of-Selector (Index None 3 (Literal 0)) end_of-Selector)) (record { form = (Literal 120); kind = Char })) ∷ (OutString (Whole (Parameter 0) (Array None 3))) ∷ (OutString (Whole (Local 1) (Array (Some 8) 3))) ∷ (OutString (Whole (Text 2) (TextKind 2))) ∷ (Assign (Whole (Local 2) Int) (record { form = (Chain' b (Length (Whole (Parameter 0) (Array None 3))) (vec3 v) (more_of-Link (Operate Add (Length (Whole (Local 1) (Array (Some 8) 3)))) (more_of-Link (Operate Add (Length (Part' b (Global 0 0) (Array (Some 2) 0) (vec1 v) (more_of-Selector (Index (Some 3) 1 (Literal 1)) end_of-Selector)))) (more_of-Link (Operate Add (Length (Part' b (Global 0 0) (Array (Some 2) 0) (vec1 v) (more_of-Selector (Index (Some 3) 1 (Load (Whole (Local 2) Int))) end_of-Selector)))) end_of-Link)))); kind = Int })) ∷ (Assign (Part' b (Parameter 3) Int (vec1 v) (more_of-Selector (Index None 0 (Load (Whole (Local 2) Int))) end_of-Selector)) (record { form = (Load (Part' b (Local 0) Int (vec2 v) (more_of-Selector (Index (Some 3) 1 (Load (Whole (Local 2) Int))) (more_of-Selector (Index (Some 2) 0 (Chain' b (Load (Whole (Local 2) Int)) (vec1 v) (more_of-Link (Operate Subtract (Literal 1)) end_of-Link))) end_of-Selector)))); kind = Int })) ∷ (If' (vec1 v) (more_of-Branch (record { form = (Chain' b (CompareTexts' Equal b (Whole (Parameter 0) (Array None 3)) b (Whole (Local 1) (Array (Some 8) 3))) (vec2 v) (more_of-Link (Or (CompareTexts' Less b (Whole (Local 1) (Array (Some 8) 3)) b (Whole (Text 3) (TextKind 1)))) (more_of-Link (Or (CompareTexts' GreaterEqual b (Whole (Text 4) (TextKind 2)) b (Whole (Parameter 1) (Array None 3)))) end_of-Link))); kind = BoolKind }) (vec4 v) (more_of-Stmt (Assign (Part' b (Parameter 1) Char (vec1 v) (more_of-Selector (Index None 3 (Literal 1)) end_of-Selector)) (record { form = (Load (Part' b (Local 1) Char (vec1 v) (more_of-Selector (Index (Some 8) 3 (Literal 0)) end_of-Selector))); kind = Char })) (more_of-Stmt (Invoke (Direct' 0 (vec4 v) (more_of-Argument (ByOpen (Whole (Local 1) (Array (Some 8) 3))) (more_of-Argument (ByOpen (Whole (Parameter 1) (Array None 3))) (more_of-Argument (ByPlace (Whole (Local 0) (Array (Some 3) 1))) (more_of-Argument (ByOpen (Part' b (Local 0) (Array (Some 2) 0) (vec1 v) (more_of-Selector (Index (Some 3) 1 (Literal 0)) end_of-Selector))) end_of-Argument)))))) (more_of-Stmt (Invoke (Direct' 0 (vec4 v) (more_of-Argument (ByOpen (Whole (Text 5) (TextKind 2))) (more_of-Argument (ByOpen (Whole (Parameter 1) (Array None 3))) (more_of-Argument (ByPlace (Whole (Global 0 0) (Array (Some 3) 1))) (more_of-Argument (ByOpen (Whole (Parameter 3) (Array None 0))) end_of-Argument)))))) (more_of-Stmt (Invoke (Direct' 0 (vec4 v) (more_of-Argument (ByOpen (Whole (Parameter 0) (Array None 3))) (more_of-Argument (ByOpen (Whole (Local 1) (Array (Some 8) 3))) (more_of-Argument (ByPlace (Whole (Parameter 2) (Array (Some 3) 1))) (more_of-Argument (ByOpen (Part' b (Local 0) (Array (Some 2) 0) (vec1 v) (more_of-Selector (Index (Some 3) 1 (Literal 2)) end_of-Selector))) end_of-Argument)))))) end_of-Stmt)))) end_of-Branch) (vec0 v) end_of-Stmt) ∷ []); answer = None } ∷ record { «module» = 0; line = 1; is_body = true; formals = []; result = 7; locals = []; texts = ((113 ∷ 50 ∷ []) ∷ (108 ∷ 111 ∷ 110 ∷ 103 ∷ 101 ∷ 114 ∷ []) ∷ []); body = ((Invoke (Direct' 0 (vec4 v) (more_of-Argument (ByOpen (Whole (Text 0) (TextKind 2))) (more_of-Argument (ByOpen (Whole (Global 0 1) (Array (Some 8) 3))) (more_of-Argument (ByPlace (Whole (Global 0 0) (Array (Some 3) 1))) (more_of-Argument (ByOpen (Part' b (Global 0 0) (Array (Some 2) 0) (vec1 v) (more_of-Selector (Index (Some 3) 1 (Load (Whole (Global 0 3) Int))) end_of-Selector))) end_of-Argument)))))) ∷ (CopyArray (Whole (Global 0 2) (Array (Some 8) 3)) (Whole (Global 0 1) (Array (Some 8) 3))) ∷ (CopyArray (Whole (Global 0 2) (Array (Some 8) 3)) (Whole (Text 1) (TextKind 6))) ∷ []); answer = None } ∷ []); imports_in = false }

abbrev arrays_procs : List Proc
arrays_procs = ((proc ((block (0 ∷ 1 ∷ 2 ∷ 3 ∷ []) ((op (ArgOp 4) [] (Some 4)) ∷ (op (ArgOp 5) [] (Some 5)) ∷ (op (ArgOp 6) [] (Some 6)) ∷ (op (LocalOp 56) [] (Some 7)) ∷ (op (ConstOp 56) [] (Some 8)) ∷ (op ZeroOp (7 ∷ 8 ∷ []) None) ∷ (op (ConstOp 0) [] (Some 9)) ∷ (op (LocalOp 56) [] (Some 10)) ∷ (op (ConstOp 48) [] (Some 11)) ∷ (op CopyOp (10 ∷ 4 ∷ 11 ∷ []) None) ∷ (op (LocalOp 56) [] (Some 12)) ∷ (op (ConstOp 1) [] (Some 13)) ∷ (op (ConstOp 3) [] (Some 14)) ∷ (op BelowOp (13 ∷ 14 ∷ []) None) ∷ (op (ConstOp 16) [] (Some 15)) ∷ (op MulAddOp (13 ∷ 15 ∷ 12 ∷ []) (Some 16)) ∷ (op (ConstOp 2) [] (Some 17)) ∷ (op (ConstOp 3) [] (Some 18)) ∷ (op BelowOp (17 ∷ 18 ∷ []) None) ∷ (op (ConstOp 16) [] (Some 19)) ∷ (op MulAddOp (17 ∷ 19 ∷ 4 ∷ []) (Some 20)) ∷ (op (ConstOp 16) [] (Some 21)) ∷ (op CopyOp (16 ∷ 20 ∷ 21 ∷ []) None) ∷ (op (LocalOp 8) [] (Some 22)) ∷ (op (GlobalOp 80) [] (Some 23)) ∷ (op (ConstOp 4) [] (Some 24)) ∷ (op CopyOp (22 ∷ 23 ∷ 24 ∷ []) None) ∷ (op (LocalOp 8) [] (Some 25)) ∷ (op (ConstOp 8) [] (Some 26)) ∷ (op FitsOp (1 ∷ 26 ∷ []) None) ∷ (op (ConstOp 1) [] (Some 27)) ∷ (op MulOp (1 ∷ 27 ∷ []) (Some 28)) ∷ (op CopyOp (25 ∷ 0 ∷ 28 ∷ []) None) ∷ (op FitsOp (1 ∷ 3 ∷ []) None) ∷ (op (ConstOp 1) [] (Some 29)) ∷ (op MulOp (1 ∷ 29 ∷ []) (Some 30)) ∷ (op CopyOp (2 ∷ 0 ∷ 30 ∷ []) None) ∷ (op (GlobalOp 88) [] (Some 31)) ∷ (op (ConstOp 3) [] (Some 32)) ∷ (op FitsOp (32 ∷ 3 ∷ []) None) ∷ (op (ConstOp 3) [] (Some 33)) ∷ (op CopyOp (2 ∷ 31 ∷ 33 ∷ []) None) ∷ (op (ConstOp 0) [] (Some 34)) ∷ (op BelowOp (34 ∷ 3 ∷ []) None) ∷ (op (ConstOp 1) [] (Some 35)) ∷ (op MulAddOp (34 ∷ 35 ∷ 2 ∷ []) (Some 36)) ∷ (op (ConstOp 120) [] (Some 37)) ∷ (op StoreByteOp (36 ∷ 37 ∷ []) None) ∷ (op (ConstOp 1) [] (Some 38)) ∷ (op (SvcOp 3) (0 ∷ 1 ∷ 38 ∷ []) None) ∷ (op (LocalOp 8) [] (Some 39)) ∷ (op (ConstOp 8) [] (Some 40)) ∷ (op (ConstOp 1) [] (Some 41)) ∷ (op (SvcOp 3) (39 ∷ 40 ∷ 41 ∷ []) None) ∷ (op (GlobalOp 96) [] (Some 42)) ∷ (op (ConstOp 3) [] (Some 43)) ∷ (op (ConstOp 1) [] (Some 44)) ∷ (op (SvcOp 3) (42 ∷ 43 ∷ 44 ∷ []) None) ∷ (op (LocalOp 8) [] (Some 45)) ∷ (op (ConstOp 8) [] (Some 46)) ∷ (op AddOp (1 ∷ 46 ∷ []) (Some 47)) ∷ (op (GlobalOp 8) [] (Some 48)) ∷ (op (ConstOp 1) [] (Some 49)) ∷ (op (ConstOp 3) [] (Some 50)) ∷ (op BelowOp (49 ∷ 50 ∷ []) None) ∷ (op (ConstOp 16) [] (Some 51)) ∷ (op MulAddOp (49 ∷ 51 ∷ 48 ∷ []) (Some 52)) ∷ (op (ConstOp 2) [] (Some 53)) ∷ (op AddOp (47 ∷ 53 ∷ []) (Some 54)) ∷ (op (GlobalOp 8) [] (Some 55)) ∷ (op (ConstOp 3) [] (Some 56)) ∷ (op BelowOp (9 ∷ 56 ∷ []) None) ∷ (op (ConstOp 16) [] (Some 57)) ∷ (op MulAddOp (9 ∷ 57 ∷ 55 ∷ []) (Some 58)) ∷ (op (ConstOp 2) [] (Some 59)) ∷ (op AddOp (54 ∷ 59 ∷ []) (Some 60)) ∷ (op BelowOp (60 ∷ 6 ∷ []) None) ∷ (op (ConstOp 8) [] (Some 61)) ∷ (op MulAddOp (60 ∷ 61 ∷ 5 ∷ []) (Some 62)) ∷ (op (LocalOp 56) [] (Some 63)) ∷ (op (ConstOp 3) [] (Some 64)) ∷ (op BelowOp (60 ∷ 64 ∷ []) None) ∷ (op (ConstOp 16) [] (Some 65)) ∷ (op MulAddOp (60 ∷ 65 ∷ 63 ∷ []) (Some 66)) ∷ (op (ConstOp 1) [] (Some 67)) ∷ (op SubOp (60 ∷ 67 ∷ []) (Some 68)) ∷ (op (ConstOp 2) [] (Some 69)) ∷ (op BelowOp (68 ∷ 69 ∷ []) None) ∷ (op (ConstOp 8) [] (Some 70)) ∷ (op MulAddOp (68 ∷ 70 ∷ 66 ∷ []) (Some 71)) ∷ (op LoadOp (71 ∷ []) (Some 72)) ∷ (op StoreOp (62 ∷ 72 ∷ []) None) ∷ (op (ConstOp 1) [] (Some 73)) ∷ (op MulOp (1 ∷ 73 ∷ []) (Some 74)) ∷ (op (LocalOp 8) [] (Some 75)) ∷ (op (ConstOp 8) [] (Some 76)) ∷ (op CompareOp (0 ∷ 74 ∷ 75 ∷ 76 ∷ []) (Some 77)) ∷ (op (ConstOp 0) [] (Some 78)) ∷ (op (SetOp 0) (77 ∷ 78 ∷ []) (Some 79)) ∷ []) (Nonzero 79 3 1) 1048576 None) ∷ (block [] ((op (LocalOp 8) [] (Some 80)) ∷ (op (ConstOp 8) [] (Some 81)) ∷ (op (GlobalOp 104) [] (Some 82)) ∷ (op (ConstOp 2) [] (Some 83)) ∷ (op CompareOp (80 ∷ 81 ∷ 82 ∷ 83 ∷ []) (Some 84)) ∷ (op (ConstOp 0) [] (Some 85)) ∷ (op (SetOp 11) (84 ∷ 85 ∷ []) (Some 86)) ∷ []) (Nonzero 86 3 2) 1048576 None) ∷ (block [] ((op (GlobalOp 112) [] (Some 87)) ∷ (op (ConstOp 3) [] (Some 88)) ∷ (op (ConstOp 1) [] (Some 89)) ∷ (op MulOp (3 ∷ 89 ∷ []) (Some 90)) ∷ (op CompareOp (87 ∷ 88 ∷ 2 ∷ 90 ∷ []) (Some 91)) ∷ (op (ConstOp 0) [] (Some 92)) ∷ (op (SetOp 10) (91 ∷ 92 ∷ []) (Some 93)) ∷ []) (Nonzero 93 3 4) 1048576 None) ∷ (block [] ((op (ConstOp 1) [] (Some 94)) ∷ (op BelowOp (94 ∷ 3 ∷ []) None) ∷ (op (ConstOp 1) [] (Some 95)) ∷ (op MulAddOp (94 ∷ 95 ∷ 2 ∷ []) (Some 96)) ∷ (op (LocalOp 8) [] (Some 97)) ∷ (op (ConstOp 0) [] (Some 98)) ∷ (op (ConstOp 8) [] (Some 99)) ∷ (op BelowOp (98 ∷ 99 ∷ []) None) ∷ (op (ConstOp 1) [] (Some 100)) ∷ (op MulAddOp (98 ∷ 100 ∷ 97 ∷ []) (Some 101)) ∷ (op LoadByteOp (101 ∷ []) (Some 102)) ∷ (op StoreByteOp (96 ∷ 102 ∷ []) None) ∷ (op (LocalOp 8) [] (Some 103)) ∷ (op (ConstOp 8) [] (Some 104)) ∷ (op (LocalOp 56) [] (Some 105)) ∷ (op (LocalOp 56) [] (Some 106)) ∷ (op (ConstOp 0) [] (Some 107)) ∷ (op (ConstOp 3) [] (Some 108)) ∷ (op BelowOp (107 ∷ 108 ∷ []) None) ∷ (op (ConstOp 16) [] (Some 109)) ∷ (op MulAddOp (107 ∷ 109 ∷ 106 ∷ []) (Some 110)) ∷ (op (ConstOp 2) [] (Some 111)) ∷ (op (CallOp 0) (103 ∷ 104 ∷ 2 ∷ 3 ∷ 105 ∷ 110 ∷ 111 ∷ []) None) ∷ (op (GlobalOp 120) [] (Some 112)) ∷ (op (ConstOp 3) [] (Some 113)) ∷ (op (GlobalOp 8) [] (Some 114)) ∷ (op (CallOp 0) (112 ∷ 113 ∷ 2 ∷ 3 ∷ 114 ∷ 5 ∷ 6 ∷ []) None) ∷ (op (LocalOp 8) [] (Some 115)) ∷ (op (ConstOp 8) [] (Some 116)) ∷ (op (LocalOp 56) [] (Some 117)) ∷ (op (ConstOp 2) [] (Some 118)) ∷ (op (ConstOp 3) [] (Some 119)) ∷ (op BelowOp (118 ∷ 119 ∷ []) None) ∷ (op (ConstOp 16) [] (Some 120)) ∷ (op MulAddOp (118 ∷ 120 ∷ 117 ∷ []) (Some 121)) ∷ (op (ConstOp 2) [] (Some 122)) ∷ (op (CallOp 0) (0 ∷ 1 ∷ 115 ∷ 116 ∷ 4 ∷ 121 ∷ 122 ∷ []) None) ∷ []) (Jump 5 []) 524288 None) ∷ (block [] [] (Jump 5 []) 524288 None) ∷ (block [] [] (Return None) 1048576 None) ∷ []) 123 7 true 15 56) ∷ (proc ((block [] ((op (GlobalOp 128) [] (Some 0)) ∷ (op (ConstOp 3) [] (Some 1)) ∷ (op (GlobalOp 56) [] (Some 2)) ∷ (op (ConstOp 8) [] (Some 3)) ∷ (op (GlobalOp 8) [] (Some 4)) ∷ (op (GlobalOp 8) [] (Some 5)) ∷ (op (GlobalOp 72) [] (Some 6)) ∷ (op LoadOp (6 ∷ []) (Some 7)) ∷ (op (ConstOp 3) [] (Some 8)) ∷ (op BelowOp (7 ∷ 8 ∷ []) None) ∷ (op (ConstOp 16) [] (Some 9)) ∷ (op MulAddOp (7 ∷ 9 ∷ 5 ∷ []) (Some 10)) ∷ (op (ConstOp 2) [] (Some 11)) ∷ (op (CallOp 0) (0 ∷ 1 ∷ 2 ∷ 3 ∷ 4 ∷ 10 ∷ 11 ∷ []) None) ∷ (op (GlobalOp 64) [] (Some 12)) ∷ (op (GlobalOp 56) [] (Some 13)) ∷ (op (ConstOp 8) [] (Some 14)) ∷ (op CopyOp (12 ∷ 13 ∷ 14 ∷ []) None) ∷ (op (GlobalOp 64) [] (Some 15)) ∷ (op (GlobalOp 136) [] (Some 16)) ∷ (op (ConstOp 7) [] (Some 17)) ∷ (op CopyOp (15 ∷ 16 ∷ 17 ∷ []) None) ∷ []) (Return None) 1048576 None) ∷ []) 18 0 false 0 0) ∷ [])

pub arrays_low : (b : Box (Unit {0}) Heap) (v : Vec (Unit {0}) Heap) → lowered (arrays b v) ≡ arrays_procs
unfolding data_tree record_row fields_before
arrays_low b v = refl

pub arrays_constants : (b : Box (Unit {0}) Heap) (v : Vec (Unit {0}) Heap) → constants (arrays b v) (packed (arrays b v).types) 268435456 ≡ (97 ∷ 98 ∷ 99 ∷ 0 ∷ 0 ∷ 0 ∷ 0 ∷ 0 ∷ 100 ∷ 101 ∷ 0 ∷ 0 ∷ 0 ∷ 0 ∷ 0 ∷ 0 ∷ 104 ∷ 105 ∷ 0 ∷ 0 ∷ 0 ∷ 0 ∷ 0 ∷ 0 ∷ 113 ∷ 0 ∷ 0 ∷ 0 ∷ 0 ∷ 0 ∷ 0 ∷ 0 ∷ 97 ∷ 98 ∷ 0 ∷ 0 ∷ 0 ∷ 0 ∷ 0 ∷ 0 ∷ 122 ∷ 49 ∷ 0 ∷ 0 ∷ 0 ∷ 0 ∷ 0 ∷ 0 ∷ 113 ∷ 50 ∷ 0 ∷ 0 ∷ 0 ∷ 0 ∷ 0 ∷ 0 ∷ 108 ∷ 111 ∷ 110 ∷ 103 ∷ 101 ∷ 114 ∷ 0 ∷ 0 ∷ [])
unfolding data_tree record_row fields_before
arrays_constants b v = refl

-- MODULE M; IMPORT Out; TYPE F = PROCEDURE (n: INTEGER): INTEGER; G = PROCEDURE (VAR r: INTEGER; s: ARRAY OF CHAR); VAR f: F; g: G; h: ARRAY 2 OF F; x: INTEGER; PROCEDURE A(n: INTEGER): INTEGER; VAR m: INTEGER; BEGIN IF n > 0 THEN m := A(n - 1) + A(m) END; RETURN m END A; PROCEDURE B(VAR r: INTEGER; s: ARRAY OF CHAR); VAR k: F; PROCEDURE C(s: ARRAY OF CHAR); BEGIN Out.String(''inner''); Out.String(s) END C; BEGIN k := A; r := k(r); Out.String(''outer''); C(''mid''); IF (k = A) & (k # NIL) THEN g(r, s) END END B; BEGIN f := A; g := B; h[1] := f; x := h[x](f(3)); g(x, ''text''); f := NIL END M.
abbrev procvars : Outside Program
procvars b v = record { types = record { kinds = (Int ∷ (ProcedureKind 0) ∷ Char ∷ (Array None 2) ∷ Nothing ∷ (ProcedureKind 1) ∷ (Array (Some 2) 1) ∷ []); records = []; signatures = (record { formals = (record { mode = OfValue; variable = false; type_number = 0 } ∷ []); result = 0 } ∷ record { formals = (record { mode = Place; variable = true; type_number = 0 } ∷ record { mode = OfOpen; variable = false; type_number = 3 } ∷ []); result = 4 } ∷ []) }; modules = (record { name = []; objects = []; variables = (1 ∷ 5 ∷ 6 ∷ 0 ∷ []); body = 3 } ∷ []); procedures = (record { «module» = 0; line = 1; is_body = false; formals = (record { mode = OfValue; variable = false; type_number = 0 } ∷ []); result = 0; locals = (0 ∷ []); texts = []; body = ((If' (vec1 v) (more_of-Branch (record { form = (Compare' Greater b (Load (Whole (Local 0) Int)) b (Literal 0)); kind = BoolKind }) (vec1 v) (more_of-Stmt (Assign (Whole (Local 1) Int) (record { form = (Chain' b (Call' b (Direct' 0 (vec1 v) (more_of-Argument (ByValue (Chain' b (Load (Whole (Local 0) Int)) (vec1 v) (more_of-Link (Operate Subtract (Literal 1)) end_of-Link))) end_of-Argument))) (vec1 v) (more_of-Link (Operate Add (Call' b (Direct' 0 (vec1 v) (more_of-Argument (ByValue (Load (Whole (Local 1) Int))) end_of-Argument)))) end_of-Link)); kind = Int })) end_of-Stmt) end_of-Branch) (vec0 v) end_of-Stmt) ∷ []); answer = (Some (record { form = (Load (Whole (Local 1) Int)); kind = Int })) } ∷ record { «module» = 0; line = 1; is_body = false; formals = (record { mode = Place; variable = true; type_number = 0 } ∷ record { mode = OfOpen; variable = false; type_number = 3 } ∷ []); result = 4; locals = (1 ∷ []); texts = ((111 ∷ 117 ∷ 116 ∷ 101 ∷ 114 ∷ []) ∷ (109 ∷ 105 ∷ 100 ∷ []) ∷ []); body = ((Assign (Whole (Local 0) (ProcedureKind 0)) (record { form = (Routine 0); kind = (ProcedureKind 0) })) ∷ (Assign (Whole (Parameter 0) Int) (record { form = (Call' b (Indirect' (Whole (Local 0) (ProcedureKind 0)) (vec1 v) (more_of-Argument (ByValue (Load (Whole (Parameter 0) Int))) end_of-Argument))); kind = Int })) ∷ (OutString (Whole (Text 0) (TextKind 5))) ∷ (Invoke (Direct' 2 (vec1 v) (more_of-Argument (ByOpen (Whole (Text 1) (TextKind 3))) end_of-Argument))) ∷ (If' (vec1 v) (more_of-Branch (record { form = (Chain' b (Compare' Equal b (Load (Whole (Local 0) (ProcedureKind 0))) b (Routine 0)) (vec1 v) (more_of-Link (And (Compare' Unequal b (Load (Whole (Local 0) (ProcedureKind 0))) b (Literal 0))) end_of-Link)); kind = BoolKind }) (vec1 v) (more_of-Stmt (Invoke (Indirect' (Whole (Global 0 1) (ProcedureKind 1)) (vec2 v) (more_of-Argument (ByPlace (Whole (Parameter 0) Int)) (more_of-Argument (ByOpen (Whole (Parameter 1) (Array None 2))) end_of-Argument)))) end_of-Stmt) end_of-Branch) (vec0 v) end_of-Stmt) ∷ []); answer = None } ∷ record { «module» = 0; line = 1; is_body = false; formals = (record { mode = OfOpen; variable = false; type_number = 3 } ∷ []); result = 4; locals = []; texts = ((105 ∷ 110 ∷ 110 ∷ 101 ∷ 114 ∷ []) ∷ []); body = ((OutString (Whole (Text 0) (TextKind 5))) ∷ (OutString (Whole (Parameter 0) (Array None 2))) ∷ []); answer = None } ∷ record { «module» = 0; line = 1; is_body = true; formals = []; result = 4; locals = []; texts = ((116 ∷ 101 ∷ 120 ∷ 116 ∷ []) ∷ []); body = ((Assign (Whole (Global 0 0) (ProcedureKind 0)) (record { form = (Routine 0); kind = (ProcedureKind 0) })) ∷ (Assign (Whole (Global 0 1) (ProcedureKind 1)) (record { form = (Routine 1); kind = (ProcedureKind 1) })) ∷ (Assign (Part' b (Global 0 2) (ProcedureKind 0) (vec1 v) (more_of-Selector (Index (Some 2) 1 (Literal 1)) end_of-Selector)) (record { form = (Load (Whole (Global 0 0) (ProcedureKind 0))); kind = (ProcedureKind 0) })) ∷ (Assign (Whole (Global 0 3) Int) (record { form = (Call' b (Indirect' (Part' b (Global 0 2) (ProcedureKind 0) (vec1 v) (more_of-Selector (Index (Some 2) 1 (Load (Whole (Global 0 3) Int))) end_of-Selector)) (vec1 v) (more_of-Argument (ByValue (Call' b (Indirect' (Whole (Global 0 0) (ProcedureKind 0)) (vec1 v) (more_of-Argument (ByValue (Literal 3)) end_of-Argument)))) end_of-Argument))); kind = Int })) ∷ (Invoke (Indirect' (Whole (Global 0 1) (ProcedureKind 1)) (vec2 v) (more_of-Argument (ByPlace (Whole (Global 0 3) Int)) (more_of-Argument (ByOpen (Whole (Text 0) (TextKind 4))) end_of-Argument)))) ∷ (Assign (Whole (Global 0 0) (ProcedureKind 0)) (record { form = (Literal 0); kind = Nil })) ∷ []); answer = None } ∷ []); imports_in = false }

abbrev procvars_procs : List Proc
procvars_procs = ((proc ((block (0 ∷ []) ((op (ConstOp 0) [] (Some 1)) ∷ (op (ConstOp 0) [] (Some 2)) ∷ []) (Branch 12 0 2 1 2) 1048576 None) ∷ (block [] ((op (ConstOp 1) [] (Some 3)) ∷ (op SubOp (0 ∷ 3 ∷ []) (Some 4)) ∷ (op (CallOp 0) (4 ∷ []) (Some 5)) ∷ (op (CallOp 0) (1 ∷ []) (Some 6)) ∷ (op AddOp (5 ∷ 6 ∷ []) (Some 7)) ∷ []) (Jump 3 (7 ∷ [])) 524288 None) ∷ (block [] [] (Jump 3 (1 ∷ [])) 524288 None) ∷ (block (8 ∷ []) [] (Return (Some 8)) 1048576 None) ∷ []) 9 1 true 2 0) ∷ (proc ((block (0 ∷ 1 ∷ 2 ∷ []) ((op (ConstOp 0) [] (Some 3)) ∷ (op (CodeOp 0) [] (Some 4)) ∷ (op LoadOp (0 ∷ []) (Some 5)) ∷ (op NotNilOp (4 ∷ []) None) ∷ (op CallAtOp (4 ∷ 5 ∷ []) (Some 6)) ∷ (op StoreOp (0 ∷ 6 ∷ []) None) ∷ (op (GlobalOp 48) [] (Some 7)) ∷ (op (ConstOp 6) [] (Some 8)) ∷ (op (ConstOp 1) [] (Some 9)) ∷ (op (SvcOp 3) (7 ∷ 8 ∷ 9 ∷ []) None) ∷ (op (GlobalOp 56) [] (Some 10)) ∷ (op (ConstOp 4) [] (Some 11)) ∷ (op (CallOp 2) (10 ∷ 11 ∷ []) None) ∷ (op (CodeOp 0) [] (Some 12)) ∷ []) (Branch 0 4 12 1 3) 1048576 None) ∷ (block [] ((op (ConstOp 0) [] (Some 13)) ∷ []) (Branch 1 4 13 2 3) 1048576 None) ∷ (block [] ((op (GlobalOp 16) [] (Some 14)) ∷ (op LoadOp (14 ∷ []) (Some 15)) ∷ (op NotNilOp (15 ∷ []) None) ∷ (op CallAtOp (15 ∷ 0 ∷ 1 ∷ 2 ∷ []) None) ∷ []) (Jump 4 []) 524288 None) ∷ (block [] [] (Jump 4 []) 524288 None) ∷ (block [] [] (Return None) 1048576 None) ∷ []) 16 3 true 1 0) ∷ (proc ((block (0 ∷ 1 ∷ []) ((op (GlobalOp 64) [] (Some 2)) ∷ (op (ConstOp 6) [] (Some 3)) ∷ (op (ConstOp 1) [] (Some 4)) ∷ (op (SvcOp 3) (2 ∷ 3 ∷ 4 ∷ []) None) ∷ (op (ConstOp 1) [] (Some 5)) ∷ (op (SvcOp 3) (0 ∷ 1 ∷ 5 ∷ []) None) ∷ []) (Return None) 1048576 None) ∷ []) 6 2 true 0 0) ∷ (proc ((block [] ((op (GlobalOp 8) [] (Some 0)) ∷ (op (CodeOp 0) [] (Some 1)) ∷ (op StoreOp (0 ∷ 1 ∷ []) None) ∷ (op (GlobalOp 16) [] (Some 2)) ∷ (op (CodeOp 1) [] (Some 3)) ∷ (op StoreOp (2 ∷ 3 ∷ []) None) ∷ (op (GlobalOp 24) [] (Some 4)) ∷ (op (ConstOp 1) [] (Some 5)) ∷ (op (ConstOp 2) [] (Some 6)) ∷ (op BelowOp (5 ∷ 6 ∷ []) None) ∷ (op (ConstOp 8) [] (Some 7)) ∷ (op MulAddOp (5 ∷ 7 ∷ 4 ∷ []) (Some 8)) ∷ (op (GlobalOp 8) [] (Some 9)) ∷ (op LoadOp (9 ∷ []) (Some 10)) ∷ (op StoreOp (8 ∷ 10 ∷ []) None) ∷ (op (GlobalOp 40) [] (Some 11)) ∷ (op (GlobalOp 24) [] (Some 12)) ∷ (op (GlobalOp 40) [] (Some 13)) ∷ (op LoadOp (13 ∷ []) (Some 14)) ∷ (op (ConstOp 2) [] (Some 15)) ∷ (op BelowOp (14 ∷ 15 ∷ []) None) ∷ (op (ConstOp 8) [] (Some 16)) ∷ (op MulAddOp (14 ∷ 16 ∷ 12 ∷ []) (Some 17)) ∷ (op LoadOp (17 ∷ []) (Some 18)) ∷ (op (GlobalOp 8) [] (Some 19)) ∷ (op LoadOp (19 ∷ []) (Some 20)) ∷ (op (ConstOp 3) [] (Some 21)) ∷ (op NotNilOp (20 ∷ []) None) ∷ (op CallAtOp (20 ∷ 21 ∷ []) (Some 22)) ∷ (op NotNilOp (18 ∷ []) None) ∷ (op CallAtOp (18 ∷ 22 ∷ []) (Some 23)) ∷ (op StoreOp (11 ∷ 23 ∷ []) None) ∷ (op (GlobalOp 16) [] (Some 24)) ∷ (op LoadOp (24 ∷ []) (Some 25)) ∷ (op (GlobalOp 40) [] (Some 26)) ∷ (op (GlobalOp 72) [] (Some 27)) ∷ (op (ConstOp 5) [] (Some 28)) ∷ (op NotNilOp (25 ∷ []) None) ∷ (op CallAtOp (25 ∷ 26 ∷ 27 ∷ 28 ∷ []) None) ∷ (op (GlobalOp 8) [] (Some 29)) ∷ (op (ConstOp 0) [] (Some 30)) ∷ (op StoreOp (29 ∷ 30 ∷ []) None) ∷ []) (Return None) 1048576 None) ∷ []) 31 0 false 0 0) ∷ [])

pub procvars_low : (b : Box (Unit {0}) Heap) (v : Vec (Unit {0}) Heap) → lowered (procvars b v) ≡ procvars_procs
unfolding data_tree record_row fields_before
procvars_low b v = refl

pub procvars_constants : (b : Box (Unit {0}) Heap) (v : Vec (Unit {0}) Heap) → constants (procvars b v) (packed (procvars b v).types) 268435456 ≡ (111 ∷ 117 ∷ 116 ∷ 101 ∷ 114 ∷ 0 ∷ 0 ∷ 0 ∷ 109 ∷ 105 ∷ 100 ∷ 0 ∷ 0 ∷ 0 ∷ 0 ∷ 0 ∷ 105 ∷ 110 ∷ 110 ∷ 101 ∷ 114 ∷ 0 ∷ 0 ∷ 0 ∷ 116 ∷ 101 ∷ 120 ∷ 116 ∷ 0 ∷ 0 ∷ 0 ∷ 0 ∷ [])
unfolding data_tree record_row fields_before
procvars_constants b v = refl

-- MODULE M0; VAR a*: INTEGER; r*: RECORD x*: INTEGER; s*: ARRAY 4 OF CHAR END; PROCEDURE P*(n: INTEGER); BEGIN a := n; r.s := ''abc'' END P; BEGIN P(3) END M0. === MODULE M1; IMPORT M0, X := Out; VAR b: INTEGER; q: PROCEDURE (n: INTEGER); BEGIN q := M0.P; q(M0.a); b := M0.r.x + LEN(M0.r.s); X.String(M0.r.s); X.String(''ok'') END M1.
abbrev units : Outside Program
units b v = record { types = record { kinds = ((RecordKind 0) ∷ Int ∷ Nothing ∷ (ProcedureKind 0) ∷ Char ∷ (Array (Some 4) 4) ∷ []); records = (record { «module» = 0; base = None; level = 0; fields = (record { name = []; exported = true; type_number = 1 } ∷ record { name = []; exported = true; type_number = 5 } ∷ []); cells = 5; extent = record { bytes = 16; wide = true } } ∷ []); signatures = (record { formals = (record { mode = OfValue; variable = false; type_number = 1 } ∷ []); result = 2 } ∷ []) }; modules = (record { name = []; objects = []; variables = (1 ∷ 0 ∷ []); body = 1 } ∷ record { name = []; objects = []; variables = (1 ∷ 3 ∷ []); body = 2 } ∷ []); procedures = (record { «module» = 0; line = 1; is_body = false; formals = (record { mode = OfValue; variable = false; type_number = 1 } ∷ []); result = 2; locals = []; texts = ((97 ∷ 98 ∷ 99 ∷ []) ∷ []); body = ((Assign (Whole (Global 0 0) Int) (record { form = (Load (Whole (Local 0) Int)); kind = Int })) ∷ (CopyArray (Part' b (Global 0 1) (Array (Some 4) 4) (vec1 v) (more_of-Selector (Field 0 1) end_of-Selector)) (Whole (Text 0) (TextKind 3))) ∷ []); answer = None } ∷ record { «module» = 0; line = 1; is_body = true; formals = []; result = 2; locals = []; texts = []; body = ((Invoke (Direct' 0 (vec1 v) (more_of-Argument (ByValue (Literal 3)) end_of-Argument))) ∷ []); answer = None } ∷ record { «module» = 1; line = 1; is_body = true; formals = []; result = 2; locals = []; texts = ((111 ∷ 107 ∷ []) ∷ []); body = ((Assign (Whole (Global 1 1) (ProcedureKind 0)) (record { form = (Routine 0); kind = (ProcedureKind 0) })) ∷ (Invoke (Indirect' (Whole (Global 1 1) (ProcedureKind 0)) (vec1 v) (more_of-Argument (ByValue (Load (Whole (Global 0 0) Int))) end_of-Argument))) ∷ (Assign (Whole (Global 1 0) Int) (record { form = (Chain' b (Load (Part' b (Global 0 1) Int (vec1 v) (more_of-Selector (Field 0 0) end_of-Selector))) (vec1 v) (more_of-Link (Operate Add (Length (Part' b (Global 0 1) (Array (Some 4) 4) (vec1 v) (more_of-Selector (Field 0 1) end_of-Selector)))) end_of-Link)); kind = Int })) ∷ (OutString (Part' b (Global 0 1) (Array (Some 4) 4) (vec1 v) (more_of-Selector (Field 0 1) end_of-Selector))) ∷ (OutString (Whole (Text 0) (TextKind 2))) ∷ []); answer = None } ∷ []); imports_in = false }

abbrev units_procs : List Proc
units_procs = ((proc ((block (0 ∷ []) ((op (GlobalOp 8) [] (Some 1)) ∷ (op StoreOp (1 ∷ 0 ∷ []) None) ∷ (op (GlobalOp 16) [] (Some 2)) ∷ (op (PlusOp 8) (2 ∷ []) (Some 3)) ∷ (op (GlobalOp 176) [] (Some 4)) ∷ (op (ConstOp 4) [] (Some 5)) ∷ (op CopyOp (3 ∷ 4 ∷ 5 ∷ []) None) ∷ []) (Return None) 1048576 None) ∷ []) 6 1 true 1 0) ∷ (proc ((block [] ((op (ConstOp 3) [] (Some 0)) ∷ (op (CallOp 0) (0 ∷ []) None) ∷ []) (Return None) 1048576 None) ∷ []) 1 0 false 0 0) ∷ (proc ((block [] ((op (GlobalOp 40) [] (Some 0)) ∷ (op (CodeOp 0) [] (Some 1)) ∷ (op StoreOp (0 ∷ 1 ∷ []) None) ∷ (op (GlobalOp 40) [] (Some 2)) ∷ (op LoadOp (2 ∷ []) (Some 3)) ∷ (op (GlobalOp 8) [] (Some 4)) ∷ (op LoadOp (4 ∷ []) (Some 5)) ∷ (op NotNilOp (3 ∷ []) None) ∷ (op CallAtOp (3 ∷ 5 ∷ []) None) ∷ (op (GlobalOp 32) [] (Some 6)) ∷ (op (GlobalOp 16) [] (Some 7)) ∷ (op LoadOp (7 ∷ []) (Some 8)) ∷ (op (GlobalOp 16) [] (Some 9)) ∷ (op (PlusOp 8) (9 ∷ []) (Some 10)) ∷ (op (ConstOp 4) [] (Some 11)) ∷ (op AddOp (8 ∷ 11 ∷ []) (Some 12)) ∷ (op StoreOp (6 ∷ 12 ∷ []) None) ∷ (op (GlobalOp 16) [] (Some 13)) ∷ (op (PlusOp 8) (13 ∷ []) (Some 14)) ∷ (op (ConstOp 4) [] (Some 15)) ∷ (op (ConstOp 1) [] (Some 16)) ∷ (op (SvcOp 3) (14 ∷ 15 ∷ 16 ∷ []) None) ∷ (op (GlobalOp 184) [] (Some 17)) ∷ (op (ConstOp 3) [] (Some 18)) ∷ (op (ConstOp 1) [] (Some 19)) ∷ (op (SvcOp 3) (17 ∷ 18 ∷ 19 ∷ []) None) ∷ []) (Return None) 1048576 None) ∷ []) 20 0 false 0 0) ∷ [])

pub units_low : (b : Box (Unit {0}) Heap) (v : Vec (Unit {0}) Heap) → lowered (units b v) ≡ units_procs
unfolding data_tree record_row fields_before
units_low b v = refl

pub units_constants : (b : Box (Unit {0}) Heap) (v : Vec (Unit {0}) Heap) → constants (units b v) (packed (units b v).types) 268435456 ≡ (48 ∷ 0 ∷ 0 ∷ 16 ∷ 0 ∷ 0 ∷ 0 ∷ 0 ∷ 0 ∷ 0 ∷ 0 ∷ 0 ∷ 0 ∷ 0 ∷ 0 ∷ 0 ∷ 0 ∷ 0 ∷ 0 ∷ 0 ∷ 0 ∷ 0 ∷ 0 ∷ 0 ∷ 0 ∷ 0 ∷ 0 ∷ 0 ∷ 0 ∷ 0 ∷ 0 ∷ 0 ∷ 0 ∷ 0 ∷ 0 ∷ 0 ∷ 0 ∷ 0 ∷ 0 ∷ 0 ∷ 0 ∷ 0 ∷ 0 ∷ 0 ∷ 0 ∷ 0 ∷ 0 ∷ 0 ∷ 0 ∷ 0 ∷ 0 ∷ 0 ∷ 0 ∷ 0 ∷ 0 ∷ 0 ∷ 0 ∷ 0 ∷ 0 ∷ 0 ∷ 0 ∷ 0 ∷ 0 ∷ 0 ∷ 0 ∷ 0 ∷ 0 ∷ 0 ∷ 0 ∷ 0 ∷ 0 ∷ 0 ∷ 0 ∷ 0 ∷ 0 ∷ 0 ∷ 0 ∷ 0 ∷ 0 ∷ 0 ∷ 0 ∷ 0 ∷ 0 ∷ 0 ∷ 0 ∷ 0 ∷ 0 ∷ 0 ∷ 0 ∷ 0 ∷ 0 ∷ 0 ∷ 0 ∷ 0 ∷ 0 ∷ 0 ∷ 0 ∷ 0 ∷ 0 ∷ 0 ∷ 0 ∷ 0 ∷ 0 ∷ 0 ∷ 0 ∷ 0 ∷ 0 ∷ 0 ∷ 0 ∷ 0 ∷ 0 ∷ 0 ∷ 0 ∷ 0 ∷ 0 ∷ 0 ∷ 0 ∷ 0 ∷ 0 ∷ 0 ∷ 0 ∷ 0 ∷ 0 ∷ 0 ∷ 0 ∷ 0 ∷ 0 ∷ 0 ∷ 97 ∷ 98 ∷ 99 ∷ 0 ∷ 0 ∷ 0 ∷ 0 ∷ 0 ∷ 111 ∷ 107 ∷ 0 ∷ 0 ∷ 0 ∷ 0 ∷ 0 ∷ 0 ∷ [])
unfolding data_tree record_row fields_before
units_constants b v = refl

-- MODULE M; VAR x, y: INTEGER; b: BOOLEAN; PROCEDURE F(n: INTEGER; b: BOOLEAN): INTEGER; BEGIN RETURN n END F; PROCEDURE P(a, c: INTEGER); VAR d: BOOLEAN; e: INTEGER; BEGIN e := F(a + c, d & (a > 1)) + F(e, ~d OR b); d := (e = 1) = (a = 2); IF d = (b & (x > y)) THEN e := F(1, b OR d) END; WHILE F(e, b & d) > 0 DO d := b & ~d END; x := e END P; BEGIN P(x, y) END M.
abbrev nested_values : Outside Program
nested_values b v = record { types = record { kinds = (Int ∷ BoolKind ∷ Nothing ∷ []); records = []; signatures = [] }; modules = (record { name = []; objects = []; variables = (0 ∷ 0 ∷ 1 ∷ []); body = 2 } ∷ []); procedures = (record { «module» = 0; line = 1; is_body = false; formals = (record { mode = OfValue; variable = false; type_number = 0 } ∷ record { mode = OfValue; variable = false; type_number = 1 } ∷ []); result = 0; locals = []; texts = []; body = []; answer = (Some (record { form = (Load (Whole (Local 0) Int)); kind = Int })) } ∷ record { «module» = 0; line = 1; is_body = false; formals = (record { mode = OfValue; variable = false; type_number = 0 } ∷ record { mode = OfValue; variable = false; type_number = 0 } ∷ []); result = 2; locals = (1 ∷ 0 ∷ []); texts = []; body = ((Assign (Whole (Local 3) Int) (record { form = (Chain' b (Call' b (Direct' 0 (vec2 v) (more_of-Argument (ByValue (Chain' b (Load (Whole (Local 0) Int)) (vec1 v) (more_of-Link (Operate Add (Load (Whole (Local 1) Int))) end_of-Link))) (more_of-Argument (ByValue (Chain' b (Load (Whole (Local 2) BoolKind)) (vec1 v) (more_of-Link (And (Compare' Greater b (Load (Whole (Local 0) Int)) b (Literal 1))) end_of-Link))) end_of-Argument)))) (vec1 v) (more_of-Link (Operate Add (Call' b (Direct' 0 (vec2 v) (more_of-Argument (ByValue (Load (Whole (Local 3) Int))) (more_of-Argument (ByValue (Chain' b (Unary' Not b (Load (Whole (Local 2) BoolKind))) (vec1 v) (more_of-Link (Or (Load (Whole (Global 0 2) BoolKind))) end_of-Link))) end_of-Argument))))) end_of-Link)); kind = Int })) ∷ (Assign (Whole (Local 2) BoolKind) (record { form = (Compare' Equal b (Compare' Equal b (Load (Whole (Local 3) Int)) b (Literal 1)) b (Compare' Equal b (Load (Whole (Local 0) Int)) b (Literal 2))); kind = BoolKind })) ∷ (If' (vec1 v) (more_of-Branch (record { form = (Compare' Equal b (Load (Whole (Local 2) BoolKind)) b (Chain' b (Load (Whole (Global 0 2) BoolKind)) (vec1 v) (more_of-Link (And (Compare' Greater b (Load (Whole (Global 0 0) Int)) b (Load (Whole (Global 0 1) Int)))) end_of-Link))); kind = BoolKind }) (vec1 v) (more_of-Stmt (Assign (Whole (Local 3) Int) (record { form = (Call' b (Direct' 0 (vec2 v) (more_of-Argument (ByValue (Literal 1)) (more_of-Argument (ByValue (Chain' b (Load (Whole (Global 0 2) BoolKind)) (vec1 v) (more_of-Link (Or (Load (Whole (Local 2) BoolKind))) end_of-Link))) end_of-Argument)))); kind = Int })) end_of-Stmt) end_of-Branch) (vec0 v) end_of-Stmt) ∷ (While' (vec1 v) (more_of-Branch (record { form = (Compare' Greater b (Call' b (Direct' 0 (vec2 v) (more_of-Argument (ByValue (Load (Whole (Local 3) Int))) (more_of-Argument (ByValue (Chain' b (Load (Whole (Global 0 2) BoolKind)) (vec1 v) (more_of-Link (And (Load (Whole (Local 2) BoolKind))) end_of-Link))) end_of-Argument)))) b (Literal 0)); kind = BoolKind }) (vec1 v) (more_of-Stmt (Assign (Whole (Local 2) BoolKind) (record { form = (Chain' b (Load (Whole (Global 0 2) BoolKind)) (vec1 v) (more_of-Link (And (Unary' Not b (Load (Whole (Local 2) BoolKind)))) end_of-Link)); kind = BoolKind })) end_of-Stmt) end_of-Branch)) ∷ (Assign (Whole (Global 0 0) Int) (record { form = (Load (Whole (Local 3) Int)); kind = Int })) ∷ []); answer = None } ∷ record { «module» = 0; line = 1; is_body = true; formals = []; result = 2; locals = []; texts = []; body = ((Invoke (Direct' 1 (vec2 v) (more_of-Argument (ByValue (Load (Whole (Global 0 0) Int))) (more_of-Argument (ByValue (Load (Whole (Global 0 1) Int))) end_of-Argument)))) ∷ []); answer = None } ∷ []); imports_in = false }

abbrev nested_values_procs : List Proc
nested_values_procs = ((proc ((block (0 ∷ 1 ∷ []) [] (Return (Some 0)) 1048576 None) ∷ []) 2 2 true 2 0) ∷ (proc ((block (0 ∷ 1 ∷ []) ((op (ConstOp 0) [] (Some 2)) ∷ (op (ConstOp 0) [] (Some 3)) ∷ (op AddOp (0 ∷ 1 ∷ []) (Some 4)) ∷ []) (Nonzero 2 1 3) 1048576 None) ∷ (block [] ((op (ConstOp 1) [] (Some 5)) ∷ []) (Branch 12 0 5 2 3) 1048576 None) ∷ (block [] ((op (ConstOp 1) [] (Some 6)) ∷ []) (Jump 4 (6 ∷ [])) 524288 None) ∷ (block [] ((op (ConstOp 0) [] (Some 7)) ∷ []) (Jump 4 (7 ∷ [])) 524288 None) ∷ (block (8 ∷ []) ((op (CallOp 0) (4 ∷ 8 ∷ []) (Some 9)) ∷ []) (Nonzero 2 5 6) 1048576 None) ∷ (block [] ((op (GlobalOp 24) [] (Some 10)) ∷ (op LoadByteOp (10 ∷ []) (Some 11)) ∷ []) (Nonzero 11 6 7) 1048576 None) ∷ (block [] ((op (ConstOp 1) [] (Some 12)) ∷ []) (Jump 8 (12 ∷ [])) 524288 None) ∷ (block [] ((op (ConstOp 0) [] (Some 13)) ∷ []) (Jump 8 (13 ∷ [])) 524288 None) ∷ (block (14 ∷ []) ((op (CallOp 0) (3 ∷ 14 ∷ []) (Some 15)) ∷ (op AddOp (9 ∷ 15 ∷ []) (Some 16)) ∷ (op (ConstOp 1) [] (Some 17)) ∷ (op (SetOp 0) (16 ∷ 17 ∷ []) (Some 18)) ∷ (op (ConstOp 2) [] (Some 19)) ∷ (op (SetOp 0) (0 ∷ 19 ∷ []) (Some 20)) ∷ (op (SetOp 0) (18 ∷ 20 ∷ []) (Some 21)) ∷ (op (GlobalOp 24) [] (Some 22)) ∷ (op LoadByteOp (22 ∷ []) (Some 23)) ∷ []) (Nonzero 23 9 11) 1048576 None) ∷ (block [] ((op (GlobalOp 8) [] (Some 24)) ∷ (op LoadOp (24 ∷ []) (Some 25)) ∷ (op (GlobalOp 16) [] (Some 26)) ∷ (op LoadOp (26 ∷ []) (Some 27)) ∷ []) (Branch 12 25 27 10 11) 1048576 None) ∷ (block [] ((op (ConstOp 1) [] (Some 28)) ∷ []) (Jump 12 (28 ∷ [])) 524288 None) ∷ (block [] ((op (ConstOp 0) [] (Some 29)) ∷ []) (Jump 12 (29 ∷ [])) 524288 None) ∷ (block (30 ∷ []) [] (Branch 0 21 30 13 18) 1048576 None) ∷ (block [] ((op (ConstOp 1) [] (Some 31)) ∷ (op (GlobalOp 24) [] (Some 32)) ∷ (op LoadByteOp (32 ∷ []) (Some 33)) ∷ []) (Nonzero 33 15 14) 524288 None) ∷ (block [] [] (Nonzero 21 15 16) 524288 None) ∷ (block [] ((op (ConstOp 1) [] (Some 34)) ∷ []) (Jump 17 (34 ∷ [])) 262144 None) ∷ (block [] ((op (ConstOp 0) [] (Some 35)) ∷ []) (Jump 17 (35 ∷ [])) 262144 None) ∷ (block (36 ∷ []) ((op (CallOp 0) (31 ∷ 36 ∷ []) (Some 37)) ∷ []) (Jump 19 (37 ∷ [])) 524288 None) ∷ (block [] [] (Jump 19 (16 ∷ [])) 524288 None) ∷ (block (38 ∷ []) [] (Jump 20 (21 ∷ [])) 1048576 None) ∷ (block (39 ∷ []) ((op (GlobalOp 24) [] (Some 40)) ∷ (op LoadByteOp (40 ∷ []) (Some 41)) ∷ []) (Nonzero 41 21 23) 8388608 (Some 19)) ∷ (block [] [] (Nonzero 39 22 23) 8388608 None) ∷ (block [] ((op (ConstOp 1) [] (Some 42)) ∷ []) (Jump 24 (42 ∷ [])) 4194304 None) ∷ (block [] ((op (ConstOp 0) [] (Some 43)) ∷ []) (Jump 24 (43 ∷ [])) 4194304 None) ∷ (block (44 ∷ []) ((op (CallOp 0) (38 ∷ 44 ∷ []) (Some 45)) ∷ (op (ConstOp 0) [] (Some 46)) ∷ []) (Branch 12 45 46 25 30) 8388608 None) ∷ (block [] ((op (GlobalOp 24) [] (Some 47)) ∷ (op LoadByteOp (47 ∷ []) (Some 48)) ∷ []) (Nonzero 48 26 28) 8388608 None) ∷ (block [] [] (Nonzero 39 28 27) 8388608 None) ∷ (block [] ((op (ConstOp 1) [] (Some 49)) ∷ []) (Jump 29 (49 ∷ [])) 4194304 None) ∷ (block [] ((op (ConstOp 0) [] (Some 50)) ∷ []) (Jump 29 (50 ∷ [])) 4194304 None) ∷ (block (51 ∷ []) [] (Jump 20 (51 ∷ [])) 8388608 None) ∷ (block [] ((op (GlobalOp 8) [] (Some 52)) ∷ (op StoreOp (52 ∷ 38 ∷ []) None) ∷ []) (Return None) 1048576 None) ∷ []) 53 2 true 4 0) ∷ (proc ((block [] ((op (GlobalOp 8) [] (Some 0)) ∷ (op LoadOp (0 ∷ []) (Some 1)) ∷ (op (GlobalOp 16) [] (Some 2)) ∷ (op LoadOp (2 ∷ []) (Some 3)) ∷ (op (CallOp 1) (1 ∷ 3 ∷ []) None) ∷ []) (Return None) 1048576 None) ∷ []) 4 0 false 0 0) ∷ [])

pub nested_values_low : (b : Box (Unit {0}) Heap) (v : Vec (Unit {0}) Heap) → lowered (nested_values b v) ≡ nested_values_procs
unfolding data_tree record_row fields_before
nested_values_low b v = refl

-- MODULE M; PROCEDURE V(VAR x: INTEGER); BEGIN INC(x, 2) END V; PROCEDURE P(n: INTEGER; k: INTEGER); VAR i, j: INTEGER; a: ARRAY 2 OF INTEGER; b: BOOLEAN; s: SET; BEGIN V(n); V(i); FOR i := n TO 10 DO V(j); INC(n); FOR k := i TO n BY 3 DO a[k] := i END END; DEC(i, k); b := i < n END P; BEGIN P(1, 2) END M.
abbrev memory_for : Outside Program
memory_for b v = record { types = record { kinds = (Int ∷ Nothing ∷ (Array (Some 2) 0) ∷ BoolKind ∷ SetKind ∷ []); records = []; signatures = [] }; modules = (record { name = []; objects = []; variables = []; body = 2 } ∷ []); procedures = (record { «module» = 0; line = 1; is_body = false; formals = (record { mode = Place; variable = true; type_number = 0 } ∷ []); result = 1; locals = []; texts = []; body = ((Increase (Whole (Parameter 0) Int) (record { form = (Literal 2); kind = Int })) ∷ []); answer = None } ∷ record { «module» = 0; line = 1; is_body = false; formals = (record { mode = OfValue; variable = false; type_number = 0 } ∷ record { mode = OfValue; variable = false; type_number = 0 } ∷ []); result = 1; locals = (0 ∷ 0 ∷ 2 ∷ 3 ∷ 4 ∷ []); texts = []; body = ((Invoke (Direct' 0 (vec1 v) (more_of-Argument (ByPlace (Whole (Local 0) Int)) end_of-Argument))) ∷ (Invoke (Direct' 0 (vec1 v) (more_of-Argument (ByPlace (Whole (Local 2) Int)) end_of-Argument))) ∷ (For' b (Whole (Local 2) Int) (record { form = (Load (Whole (Local 0) Int)); kind = Int }) (record { form = (Literal 10); kind = Int }) (pos 1) (vec3 v) (more_of-Stmt (Invoke (Direct' 0 (vec1 v) (more_of-Argument (ByPlace (Whole (Local 3) Int)) end_of-Argument))) (more_of-Stmt (Increase (Whole (Local 0) Int) (record { form = (Literal 1); kind = Int })) (more_of-Stmt (For' b (Whole (Local 1) Int) (record { form = (Load (Whole (Local 2) Int)); kind = Int }) (record { form = (Load (Whole (Local 0) Int)); kind = Int }) (pos 3) (vec1 v) (more_of-Stmt (Assign (Part' b (Local 4) Int (vec1 v) (more_of-Selector (Index (Some 2) 0 (Load (Whole (Local 1) Int))) end_of-Selector)) (record { form = (Load (Whole (Local 2) Int)); kind = Int })) end_of-Stmt)) end_of-Stmt)))) ∷ (Decrease (Whole (Local 2) Int) (record { form = (Load (Whole (Local 1) Int)); kind = Int })) ∷ (Assign (Whole (Local 5) BoolKind) (record { form = (Compare' Less b (Load (Whole (Local 2) Int)) b (Load (Whole (Local 0) Int))); kind = BoolKind })) ∷ []); answer = None } ∷ record { «module» = 0; line = 1; is_body = true; formals = []; result = 1; locals = []; texts = []; body = ((Invoke (Direct' 1 (vec2 v) (more_of-Argument (ByValue (Literal 1)) (more_of-Argument (ByValue (Literal 2)) end_of-Argument)))) ∷ []); answer = None } ∷ []); imports_in = false }

abbrev memory_for_procs : List Proc
memory_for_procs = ((proc ((block (0 ∷ []) ((op (ConstOp 2) [] (Some 1)) ∷ (op LoadOp (0 ∷ []) (Some 2)) ∷ (op AddOp (2 ∷ 1 ∷ []) (Some 3)) ∷ (op StoreOp (0 ∷ 3 ∷ []) None) ∷ []) (Return None) 1048576 None) ∷ []) 4 1 true 0 0) ∷ (proc ((block (0 ∷ 1 ∷ []) ((op (LocalOp 40) [] (Some 2)) ∷ (op (ConstOp 16) [] (Some 3)) ∷ (op ZeroOp (2 ∷ 3 ∷ []) None) ∷ (op (LocalOp 24) [] (Some 4)) ∷ (op StoreOp (4 ∷ 0 ∷ []) None) ∷ (op (LocalOp 16) [] (Some 5)) ∷ (op (ConstOp 0) [] (Some 6)) ∷ (op StoreOp (5 ∷ 6 ∷ []) None) ∷ (op (LocalOp 8) [] (Some 7)) ∷ (op (ConstOp 0) [] (Some 8)) ∷ (op StoreOp (7 ∷ 8 ∷ []) None) ∷ (op (ConstOp 0) [] (Some 9)) ∷ (op (ConstOp 0) [] (Some 10)) ∷ (op (LocalOp 24) [] (Some 11)) ∷ (op (CallOp 0) (11 ∷ []) None) ∷ (op (LocalOp 16) [] (Some 12)) ∷ (op (CallOp 0) (12 ∷ []) None) ∷ (op (LocalOp 16) [] (Some 13)) ∷ (op (LocalOp 24) [] (Some 14)) ∷ (op LoadOp (14 ∷ []) (Some 15)) ∷ (op StoreOp (13 ∷ 15 ∷ []) None) ∷ (op (ConstOp 10) [] (Some 16)) ∷ []) (Jump 1 (1 ∷ [])) 1048576 None) ∷ (block (17 ∷ []) ((op (LocalOp 16) [] (Some 18)) ∷ (op LoadOp (18 ∷ []) (Some 19)) ∷ []) (Branch 13 19 16 2 6) 8388608 (Some 0)) ∷ (block [] ((op (LocalOp 8) [] (Some 20)) ∷ (op (CallOp 0) (20 ∷ []) None) ∷ (op (LocalOp 24) [] (Some 21)) ∷ (op (ConstOp 1) [] (Some 22)) ∷ (op LoadOp (21 ∷ []) (Some 23)) ∷ (op AddOp (23 ∷ 22 ∷ []) (Some 24)) ∷ (op StoreOp (21 ∷ 24 ∷ []) None) ∷ (op (LocalOp 16) [] (Some 25)) ∷ (op LoadOp (25 ∷ []) (Some 26)) ∷ (op (LocalOp 24) [] (Some 27)) ∷ (op LoadOp (27 ∷ []) (Some 28)) ∷ []) (Jump 3 (26 ∷ [])) 8388608 None) ∷ (block (29 ∷ []) [] (Branch 13 29 28 4 5) 67108864 (Some 2)) ∷ (block [] ((op (LocalOp 40) [] (Some 30)) ∷ (op (ConstOp 2) [] (Some 31)) ∷ (op BelowOp (29 ∷ 31 ∷ []) None) ∷ (op (ConstOp 8) [] (Some 32)) ∷ (op MulAddOp (29 ∷ 32 ∷ 30 ∷ []) (Some 33)) ∷ (op (LocalOp 16) [] (Some 34)) ∷ (op LoadOp (34 ∷ []) (Some 35)) ∷ (op StoreOp (33 ∷ 35 ∷ []) None) ∷ (op (ConstOp 3) [] (Some 36)) ∷ (op AddOp (29 ∷ 36 ∷ []) (Some 37)) ∷ []) (Jump 3 (37 ∷ [])) 67108864 None) ∷ (block [] ((op (LocalOp 16) [] (Some 38)) ∷ (op (LocalOp 16) [] (Some 39)) ∷ (op LoadOp (39 ∷ []) (Some 40)) ∷ (op (ConstOp 1) [] (Some 41)) ∷ (op AddOp (40 ∷ 41 ∷ []) (Some 42)) ∷ (op StoreOp (38 ∷ 42 ∷ []) None) ∷ []) (Jump 1 (29 ∷ [])) 8388608 None) ∷ (block [] ((op (LocalOp 16) [] (Some 43)) ∷ (op LoadOp (43 ∷ []) (Some 44)) ∷ (op SubOp (44 ∷ 17 ∷ []) (Some 45)) ∷ (op StoreOp (43 ∷ 45 ∷ []) None) ∷ (op (LocalOp 16) [] (Some 46)) ∷ (op LoadOp (46 ∷ []) (Some 47)) ∷ (op (LocalOp 24) [] (Some 48)) ∷ (op LoadOp (48 ∷ []) (Some 49)) ∷ (op (SetOp 11) (47 ∷ 49 ∷ []) (Some 50)) ∷ []) (Return None) 1048576 None) ∷ []) 51 2 true 8 40) ∷ (proc ((block [] ((op (ConstOp 1) [] (Some 0)) ∷ (op (ConstOp 2) [] (Some 1)) ∷ (op (CallOp 1) (0 ∷ 1 ∷ []) None) ∷ []) (Return None) 1048576 None) ∷ []) 2 0 false 0 0) ∷ [])

pub memory_for_low : (b : Box (Unit {0}) Heap) (v : Vec (Unit {0}) Heap) → lowered (memory_for b v) ≡ memory_for_procs
unfolding data_tree record_row fields_before
memory_for_low b v = refl

-- MODULE M; VAR g: INTEGER; PROCEDURE P(a: INTEGER); VAR i: INTEGER; BEGIN WHILE a > i DO WHILE a > i DO WHILE a > i DO WHILE a > i DO WHILE a > i DO WHILE a > i DO WHILE a > i DO WHILE a > i DO WHILE a > i DO WHILE a > i DO WHILE a > i DO WHILE a > i DO INC(i) END END END END END END END END END END END END; IF a > i THEN IF a > i THEN IF a > i THEN IF a > i THEN IF a > i THEN IF a > i THEN IF a > i THEN IF a > i THEN IF a > i THEN IF a > i THEN IF a > i THEN IF a > i THEN IF a > i THEN IF a > i THEN IF a > i THEN IF a > i THEN IF a > i THEN IF a > i THEN IF a > i THEN IF a > i THEN IF a > i THEN IF a > i THEN IF a > i THEN INC(i) END END END END END END END END END END END END END END END END END END END END END END END END P; BEGIN P(1) END M.
abbrev deep : Outside Program
deep b v = record { types = record { kinds = (Int ∷ Nothing ∷ []); records = []; signatures = [] }; modules = (record { name = []; objects = []; variables = (0 ∷ []); body = 1 } ∷ []); procedures = (record { «module» = 0; line = 1; is_body = false; formals = (record { mode = OfValue; variable = false; type_number = 0 } ∷ []); result = 1; locals = (0 ∷ []); texts = []; body = ((While' (vec1 v) (more_of-Branch (record { form = (Compare' Greater b (Load (Whole (Local 0) Int)) b (Load (Whole (Local 1) Int))); kind = BoolKind }) (vec1 v) (more_of-Stmt (While' (vec1 v) (more_of-Branch (record { form = (Compare' Greater b (Load (Whole (Local 0) Int)) b (Load (Whole (Local 1) Int))); kind = BoolKind }) (vec1 v) (more_of-Stmt (While' (vec1 v) (more_of-Branch (record { form = (Compare' Greater b (Load (Whole (Local 0) Int)) b (Load (Whole (Local 1) Int))); kind = BoolKind }) (vec1 v) (more_of-Stmt (While' (vec1 v) (more_of-Branch (record { form = (Compare' Greater b (Load (Whole (Local 0) Int)) b (Load (Whole (Local 1) Int))); kind = BoolKind }) (vec1 v) (more_of-Stmt (While' (vec1 v) (more_of-Branch (record { form = (Compare' Greater b (Load (Whole (Local 0) Int)) b (Load (Whole (Local 1) Int))); kind = BoolKind }) (vec1 v) (more_of-Stmt (While' (vec1 v) (more_of-Branch (record { form = (Compare' Greater b (Load (Whole (Local 0) Int)) b (Load (Whole (Local 1) Int))); kind = BoolKind }) (vec1 v) (more_of-Stmt (While' (vec1 v) (more_of-Branch (record { form = (Compare' Greater b (Load (Whole (Local 0) Int)) b (Load (Whole (Local 1) Int))); kind = BoolKind }) (vec1 v) (more_of-Stmt (While' (vec1 v) (more_of-Branch (record { form = (Compare' Greater b (Load (Whole (Local 0) Int)) b (Load (Whole (Local 1) Int))); kind = BoolKind }) (vec1 v) (more_of-Stmt (While' (vec1 v) (more_of-Branch (record { form = (Compare' Greater b (Load (Whole (Local 0) Int)) b (Load (Whole (Local 1) Int))); kind = BoolKind }) (vec1 v) (more_of-Stmt (While' (vec1 v) (more_of-Branch (record { form = (Compare' Greater b (Load (Whole (Local 0) Int)) b (Load (Whole (Local 1) Int))); kind = BoolKind }) (vec1 v) (more_of-Stmt (While' (vec1 v) (more_of-Branch (record { form = (Compare' Greater b (Load (Whole (Local 0) Int)) b (Load (Whole (Local 1) Int))); kind = BoolKind }) (vec1 v) (more_of-Stmt (While' (vec1 v) (more_of-Branch (record { form = (Compare' Greater b (Load (Whole (Local 0) Int)) b (Load (Whole (Local 1) Int))); kind = BoolKind }) (vec1 v) (more_of-Stmt (Increase (Whole (Local 1) Int) (record { form = (Literal 1); kind = Int })) end_of-Stmt) end_of-Branch)) end_of-Stmt) end_of-Branch)) end_of-Stmt) end_of-Branch)) end_of-Stmt) end_of-Branch)) end_of-Stmt) end_of-Branch)) end_of-Stmt) end_of-Branch)) end_of-Stmt) end_of-Branch)) end_of-Stmt) end_of-Branch)) end_of-Stmt) end_of-Branch)) end_of-Stmt) end_of-Branch)) end_of-Stmt) end_of-Branch)) end_of-Stmt) end_of-Branch)) ∷ (If' (vec1 v) (more_of-Branch (record { form = (Compare' Greater b (Load (Whole (Local 0) Int)) b (Load (Whole (Local 1) Int))); kind = BoolKind }) (vec1 v) (more_of-Stmt (If' (vec1 v) (more_of-Branch (record { form = (Compare' Greater b (Load (Whole (Local 0) Int)) b (Load (Whole (Local 1) Int))); kind = BoolKind }) (vec1 v) (more_of-Stmt (If' (vec1 v) (more_of-Branch (record { form = (Compare' Greater b (Load (Whole (Local 0) Int)) b (Load (Whole (Local 1) Int))); kind = BoolKind }) (vec1 v) (more_of-Stmt (If' (vec1 v) (more_of-Branch (record { form = (Compare' Greater b (Load (Whole (Local 0) Int)) b (Load (Whole (Local 1) Int))); kind = BoolKind }) (vec1 v) (more_of-Stmt (If' (vec1 v) (more_of-Branch (record { form = (Compare' Greater b (Load (Whole (Local 0) Int)) b (Load (Whole (Local 1) Int))); kind = BoolKind }) (vec1 v) (more_of-Stmt (If' (vec1 v) (more_of-Branch (record { form = (Compare' Greater b (Load (Whole (Local 0) Int)) b (Load (Whole (Local 1) Int))); kind = BoolKind }) (vec1 v) (more_of-Stmt (If' (vec1 v) (more_of-Branch (record { form = (Compare' Greater b (Load (Whole (Local 0) Int)) b (Load (Whole (Local 1) Int))); kind = BoolKind }) (vec1 v) (more_of-Stmt (If' (vec1 v) (more_of-Branch (record { form = (Compare' Greater b (Load (Whole (Local 0) Int)) b (Load (Whole (Local 1) Int))); kind = BoolKind }) (vec1 v) (more_of-Stmt (If' (vec1 v) (more_of-Branch (record { form = (Compare' Greater b (Load (Whole (Local 0) Int)) b (Load (Whole (Local 1) Int))); kind = BoolKind }) (vec1 v) (more_of-Stmt (If' (vec1 v) (more_of-Branch (record { form = (Compare' Greater b (Load (Whole (Local 0) Int)) b (Load (Whole (Local 1) Int))); kind = BoolKind }) (vec1 v) (more_of-Stmt (If' (vec1 v) (more_of-Branch (record { form = (Compare' Greater b (Load (Whole (Local 0) Int)) b (Load (Whole (Local 1) Int))); kind = BoolKind }) (vec1 v) (more_of-Stmt (If' (vec1 v) (more_of-Branch (record { form = (Compare' Greater b (Load (Whole (Local 0) Int)) b (Load (Whole (Local 1) Int))); kind = BoolKind }) (vec1 v) (more_of-Stmt (If' (vec1 v) (more_of-Branch (record { form = (Compare' Greater b (Load (Whole (Local 0) Int)) b (Load (Whole (Local 1) Int))); kind = BoolKind }) (vec1 v) (more_of-Stmt (If' (vec1 v) (more_of-Branch (record { form = (Compare' Greater b (Load (Whole (Local 0) Int)) b (Load (Whole (Local 1) Int))); kind = BoolKind }) (vec1 v) (more_of-Stmt (If' (vec1 v) (more_of-Branch (record { form = (Compare' Greater b (Load (Whole (Local 0) Int)) b (Load (Whole (Local 1) Int))); kind = BoolKind }) (vec1 v) (more_of-Stmt (If' (vec1 v) (more_of-Branch (record { form = (Compare' Greater b (Load (Whole (Local 0) Int)) b (Load (Whole (Local 1) Int))); kind = BoolKind }) (vec1 v) (more_of-Stmt (If' (vec1 v) (more_of-Branch (record { form = (Compare' Greater b (Load (Whole (Local 0) Int)) b (Load (Whole (Local 1) Int))); kind = BoolKind }) (vec1 v) (more_of-Stmt (If' (vec1 v) (more_of-Branch (record { form = (Compare' Greater b (Load (Whole (Local 0) Int)) b (Load (Whole (Local 1) Int))); kind = BoolKind }) (vec1 v) (more_of-Stmt (If' (vec1 v) (more_of-Branch (record { form = (Compare' Greater b (Load (Whole (Local 0) Int)) b (Load (Whole (Local 1) Int))); kind = BoolKind }) (vec1 v) (more_of-Stmt (If' (vec1 v) (more_of-Branch (record { form = (Compare' Greater b (Load (Whole (Local 0) Int)) b (Load (Whole (Local 1) Int))); kind = BoolKind }) (vec1 v) (more_of-Stmt (If' (vec1 v) (more_of-Branch (record { form = (Compare' Greater b (Load (Whole (Local 0) Int)) b (Load (Whole (Local 1) Int))); kind = BoolKind }) (vec1 v) (more_of-Stmt (If' (vec1 v) (more_of-Branch (record { form = (Compare' Greater b (Load (Whole (Local 0) Int)) b (Load (Whole (Local 1) Int))); kind = BoolKind }) (vec1 v) (more_of-Stmt (If' (vec1 v) (more_of-Branch (record { form = (Compare' Greater b (Load (Whole (Local 0) Int)) b (Load (Whole (Local 1) Int))); kind = BoolKind }) (vec1 v) (more_of-Stmt (Increase (Whole (Local 1) Int) (record { form = (Literal 1); kind = Int })) end_of-Stmt) end_of-Branch) (vec0 v) end_of-Stmt) end_of-Stmt) end_of-Branch) (vec0 v) end_of-Stmt) end_of-Stmt) end_of-Branch) (vec0 v) end_of-Stmt) end_of-Stmt) end_of-Branch) (vec0 v) end_of-Stmt) end_of-Stmt) end_of-Branch) (vec0 v) end_of-Stmt) end_of-Stmt) end_of-Branch) (vec0 v) end_of-Stmt) end_of-Stmt) end_of-Branch) (vec0 v) end_of-Stmt) end_of-Stmt) end_of-Branch) (vec0 v) end_of-Stmt) end_of-Stmt) end_of-Branch) (vec0 v) end_of-Stmt) end_of-Stmt) end_of-Branch) (vec0 v) end_of-Stmt) end_of-Stmt) end_of-Branch) (vec0 v) end_of-Stmt) end_of-Stmt) end_of-Branch) (vec0 v) end_of-Stmt) end_of-Stmt) end_of-Branch) (vec0 v) end_of-Stmt) end_of-Stmt) end_of-Branch) (vec0 v) end_of-Stmt) end_of-Stmt) end_of-Branch) (vec0 v) end_of-Stmt) end_of-Stmt) end_of-Branch) (vec0 v) end_of-Stmt) end_of-Stmt) end_of-Branch) (vec0 v) end_of-Stmt) end_of-Stmt) end_of-Branch) (vec0 v) end_of-Stmt) end_of-Stmt) end_of-Branch) (vec0 v) end_of-Stmt) end_of-Stmt) end_of-Branch) (vec0 v) end_of-Stmt) end_of-Stmt) end_of-Branch) (vec0 v) end_of-Stmt) end_of-Stmt) end_of-Branch) (vec0 v) end_of-Stmt) end_of-Stmt) end_of-Branch) (vec0 v) end_of-Stmt) ∷ []); answer = None } ∷ record { «module» = 0; line = 1; is_body = true; formals = []; result = 1; locals = []; texts = []; body = ((Invoke (Direct' 0 (vec1 v) (more_of-Argument (ByValue (Literal 1)) end_of-Argument))) ∷ []); answer = None } ∷ []); imports_in = false }

abbrev deep_procs : List Proc
deep_procs = ((proc ((block (0 ∷ []) ((op (ConstOp 0) [] (Some 1)) ∷ []) (Jump 1 (1 ∷ [])) 1048576 None) ∷ (block (2 ∷ []) [] (Branch 12 0 2 2 36) 8388608 (Some 0)) ∷ (block [] [] (Jump 3 (2 ∷ [])) 8388608 None) ∷ (block (3 ∷ []) [] (Branch 12 0 3 4 35) 67108864 (Some 2)) ∷ (block [] [] (Jump 5 (3 ∷ [])) 67108864 None) ∷ (block (4 ∷ []) [] (Branch 12 0 4 6 34) 536870912 (Some 4)) ∷ (block [] [] (Jump 7 (4 ∷ [])) 536870912 None) ∷ (block (5 ∷ []) [] (Branch 12 0 5 8 33) 4294967296 (Some 6)) ∷ (block [] [] (Jump 9 (5 ∷ [])) 4294967296 None) ∷ (block (6 ∷ []) [] (Branch 12 0 6 10 32) 34359738368 (Some 8)) ∷ (block [] [] (Jump 11 (6 ∷ [])) 34359738368 None) ∷ (block (7 ∷ []) [] (Branch 12 0 7 12 31) 274877906944 (Some 10)) ∷ (block [] [] (Jump 13 (7 ∷ [])) 274877906944 None) ∷ (block (8 ∷ []) [] (Branch 12 0 8 14 30) 2199023255552 (Some 12)) ∷ (block [] [] (Jump 15 (8 ∷ [])) 2199023255552 None) ∷ (block (9 ∷ []) [] (Branch 12 0 9 16 29) 17592186044416 (Some 14)) ∷ (block [] [] (Jump 17 (9 ∷ [])) 17592186044416 None) ∷ (block (10 ∷ []) [] (Branch 12 0 10 18 28) 140737488355328 (Some 16)) ∷ (block [] [] (Jump 19 (10 ∷ [])) 140737488355328 None) ∷ (block (11 ∷ []) [] (Branch 12 0 11 20 27) 1125899906842624 (Some 18)) ∷ (block [] [] (Jump 21 (11 ∷ [])) 1125899906842624 None) ∷ (block (12 ∷ []) [] (Branch 12 0 12 22 26) 1125899906842624 (Some 20)) ∷ (block [] [] (Jump 23 (12 ∷ [])) 1125899906842624 None) ∷ (block (13 ∷ []) [] (Branch 12 0 13 24 25) 1125899906842624 (Some 22)) ∷ (block [] ((op (ConstOp 1) [] (Some 14)) ∷ (op AddOp (13 ∷ 14 ∷ []) (Some 15)) ∷ []) (Jump 23 (15 ∷ [])) 1125899906842624 None) ∷ (block [] [] (Jump 21 (13 ∷ [])) 1125899906842624 None) ∷ (block [] [] (Jump 19 (12 ∷ [])) 1125899906842624 None) ∷ (block [] [] (Jump 17 (11 ∷ [])) 140737488355328 None) ∷ (block [] [] (Jump 15 (10 ∷ [])) 17592186044416 None) ∷ (block [] [] (Jump 13 (9 ∷ [])) 2199023255552 None) ∷ (block [] [] (Jump 11 (8 ∷ [])) 274877906944 None) ∷ (block [] [] (Jump 9 (7 ∷ [])) 34359738368 None) ∷ (block [] [] (Jump 7 (6 ∷ [])) 4294967296 None) ∷ (block [] [] (Jump 5 (5 ∷ [])) 536870912 None) ∷ (block [] [] (Jump 3 (4 ∷ [])) 67108864 None) ∷ (block [] [] (Jump 1 (3 ∷ [])) 8388608 None) ∷ (block [] [] (Branch 12 0 2 37 104) 1048576 None) ∷ (block [] [] (Branch 12 0 2 38 102) 524288 None) ∷ (block [] [] (Branch 12 0 2 39 100) 262144 None) ∷ (block [] [] (Branch 12 0 2 40 98) 131072 None) ∷ (block [] [] (Branch 12 0 2 41 96) 65536 None) ∷ (block [] [] (Branch 12 0 2 42 94) 32768 None) ∷ (block [] [] (Branch 12 0 2 43 92) 16384 None) ∷ (block [] [] (Branch 12 0 2 44 90) 8192 None) ∷ (block [] [] (Branch 12 0 2 45 88) 4096 None) ∷ (block [] [] (Branch 12 0 2 46 86) 2048 None) ∷ (block [] [] (Branch 12 0 2 47 84) 1024 None) ∷ (block [] [] (Branch 12 0 2 48 82) 512 None) ∷ (block [] [] (Branch 12 0 2 49 80) 256 None) ∷ (block [] [] (Branch 12 0 2 50 78) 128 None) ∷ (block [] [] (Branch 12 0 2 51 76) 64 None) ∷ (block [] [] (Branch 12 0 2 52 74) 32 None) ∷ (block [] [] (Branch 12 0 2 53 72) 16 None) ∷ (block [] [] (Branch 12 0 2 54 70) 8 None) ∷ (block [] [] (Branch 12 0 2 55 68) 4 None) ∷ (block [] [] (Branch 12 0 2 56 66) 2 None) ∷ (block [] [] (Branch 12 0 2 57 64) 1 None) ∷ (block [] [] (Branch 12 0 2 58 62) 1 None) ∷ (block [] [] (Branch 12 0 2 59 60) 1 None) ∷ (block [] ((op (ConstOp 1) [] (Some 16)) ∷ (op AddOp (2 ∷ 16 ∷ []) (Some 17)) ∷ []) (Jump 61 (17 ∷ [])) 1 None) ∷ (block [] [] (Jump 61 (2 ∷ [])) 1 None) ∷ (block (18 ∷ []) [] (Jump 63 (18 ∷ [])) 1 None) ∷ (block [] [] (Jump 63 (2 ∷ [])) 1 None) ∷ (block (19 ∷ []) [] (Jump 65 (19 ∷ [])) 1 None) ∷ (block [] [] (Jump 65 (2 ∷ [])) 1 None) ∷ (block (20 ∷ []) [] (Jump 67 (20 ∷ [])) 1 None) ∷ (block [] [] (Jump 67 (2 ∷ [])) 1 None) ∷ (block (21 ∷ []) [] (Jump 69 (21 ∷ [])) 2 None) ∷ (block [] [] (Jump 69 (2 ∷ [])) 2 None) ∷ (block (22 ∷ []) [] (Jump 71 (22 ∷ [])) 4 None) ∷ (block [] [] (Jump 71 (2 ∷ [])) 4 None) ∷ (block (23 ∷ []) [] (Jump 73 (23 ∷ [])) 8 None) ∷ (block [] [] (Jump 73 (2 ∷ [])) 8 None) ∷ (block (24 ∷ []) [] (Jump 75 (24 ∷ [])) 16 None) ∷ (block [] [] (Jump 75 (2 ∷ [])) 16 None) ∷ (block (25 ∷ []) [] (Jump 77 (25 ∷ [])) 32 None) ∷ (block [] [] (Jump 77 (2 ∷ [])) 32 None) ∷ (block (26 ∷ []) [] (Jump 79 (26 ∷ [])) 64 None) ∷ (block [] [] (Jump 79 (2 ∷ [])) 64 None) ∷ (block (27 ∷ []) [] (Jump 81 (27 ∷ [])) 128 None) ∷ (block [] [] (Jump 81 (2 ∷ [])) 128 None) ∷ (block (28 ∷ []) [] (Jump 83 (28 ∷ [])) 256 None) ∷ (block [] [] (Jump 83 (2 ∷ [])) 256 None) ∷ (block (29 ∷ []) [] (Jump 85 (29 ∷ [])) 512 None) ∷ (block [] [] (Jump 85 (2 ∷ [])) 512 None) ∷ (block (30 ∷ []) [] (Jump 87 (30 ∷ [])) 1024 None) ∷ (block [] [] (Jump 87 (2 ∷ [])) 1024 None) ∷ (block (31 ∷ []) [] (Jump 89 (31 ∷ [])) 2048 None) ∷ (block [] [] (Jump 89 (2 ∷ [])) 2048 None) ∷ (block (32 ∷ []) [] (Jump 91 (32 ∷ [])) 4096 None) ∷ (block [] [] (Jump 91 (2 ∷ [])) 4096 None) ∷ (block (33 ∷ []) [] (Jump 93 (33 ∷ [])) 8192 None) ∷ (block [] [] (Jump 93 (2 ∷ [])) 8192 None) ∷ (block (34 ∷ []) [] (Jump 95 (34 ∷ [])) 16384 None) ∷ (block [] [] (Jump 95 (2 ∷ [])) 16384 None) ∷ (block (35 ∷ []) [] (Jump 97 (35 ∷ [])) 32768 None) ∷ (block [] [] (Jump 97 (2 ∷ [])) 32768 None) ∷ (block (36 ∷ []) [] (Jump 99 (36 ∷ [])) 65536 None) ∷ (block [] [] (Jump 99 (2 ∷ [])) 65536 None) ∷ (block (37 ∷ []) [] (Jump 101 (37 ∷ [])) 131072 None) ∷ (block [] [] (Jump 101 (2 ∷ [])) 131072 None) ∷ (block (38 ∷ []) [] (Jump 103 (38 ∷ [])) 262144 None) ∷ (block [] [] (Jump 103 (2 ∷ [])) 262144 None) ∷ (block (39 ∷ []) [] (Jump 105 (39 ∷ [])) 524288 None) ∷ (block [] [] (Jump 105 (2 ∷ [])) 524288 None) ∷ (block (40 ∷ []) [] (Return None) 1048576 None) ∷ []) 41 1 true 2 0) ∷ (proc ((block [] ((op (ConstOp 1) [] (Some 0)) ∷ (op (CallOp 0) (0 ∷ []) None) ∷ []) (Return None) 1048576 None) ∷ []) 1 0 false 0 0) ∷ [])

pub deep_low : (b : Box (Unit {0}) Heap) (v : Vec (Unit {0}) Heap) → lowered (deep b v) ≡ deep_procs
unfolding data_tree record_row fields_before
deep_low b v = refl

-- MODULE M; TYPE R = RECORD x: INTEGER END; P = POINTER TO R; VAR g: INTEGER; PROCEDURE Q(n: INTEGER; b: BYTE): P; VAR p, q, r: P; s, t: SET; BEGIN IF n > 0 THEN NEW(p); INCL(s, n) ELSE q := p; EXCL(t, 1) END; WHILE n > 0 DO NEW(q); DEC(n); p := q; INC(b) END; REPEAT NEW(r); INCL(s, 2) UNTIL r # NIL; CASE n OF 1: NEW(p) | 2: EXCL(s, n) END; CASE p OF P: NEW(q) END; IF 3 IN s + t THEN g := b END; RETURN r END Q; BEGIN IF Q(1, 2) = NIL THEN g := 1 END END M.
abbrev registers_in_parts : Outside Program
registers_in_parts b v = record { types = record { kinds = ((RecordKind 0) ∷ Int ∷ ByteKind ∷ (PointerKind 0) ∷ SetKind ∷ Nothing ∷ []); records = (record { «module» = 0; base = None; level = 0; fields = (record { name = []; exported = false; type_number = 1 } ∷ []); cells = 1; extent = record { bytes = 8; wide = true } } ∷ []); signatures = [] }; modules = (record { name = []; objects = []; variables = (1 ∷ []); body = 1 } ∷ []); procedures = (record { «module» = 0; line = 1; is_body = false; formals = (record { mode = OfValue; variable = false; type_number = 1 } ∷ record { mode = OfValue; variable = false; type_number = 2 } ∷ []); result = 3; locals = (3 ∷ 3 ∷ 3 ∷ 4 ∷ 4 ∷ []); texts = []; body = ((If' (vec1 v) (more_of-Branch (record { form = (Compare' Greater b (Load (Whole (Local 0) Int)) b (Literal 0)); kind = BoolKind }) (vec2 v) (more_of-Stmt (New (Whole (Local 2) (PointerKind 0))) (more_of-Stmt (Include (Whole (Local 5) SetKind) (record { form = (Load (Whole (Local 0) Int)); kind = Int })) end_of-Stmt)) end_of-Branch) (vec2 v) (more_of-Stmt (Assign (Whole (Local 3) (PointerKind 0)) (record { form = (Load (Whole (Local 2) (PointerKind 0))); kind = (PointerKind 0) })) (more_of-Stmt (Exclude (Whole (Local 6) SetKind) (record { form = (Literal 1); kind = Int })) end_of-Stmt))) ∷ (While' (vec1 v) (more_of-Branch (record { form = (Compare' Greater b (Load (Whole (Local 0) Int)) b (Literal 0)); kind = BoolKind }) (vec4 v) (more_of-Stmt (New (Whole (Local 3) (PointerKind 0))) (more_of-Stmt (Decrease (Whole (Local 0) Int) (record { form = (Literal 1); kind = Int })) (more_of-Stmt (Assign (Whole (Local 2) (PointerKind 0)) (record { form = (Load (Whole (Local 3) (PointerKind 0))); kind = (PointerKind 0) })) (more_of-Stmt (Increase (Whole (Local 1) ByteKind) (record { form = (Literal 1); kind = Int })) end_of-Stmt)))) end_of-Branch)) ∷ (Repeat' (vec2 v) (more_of-Stmt (New (Whole (Local 4) (PointerKind 0))) (more_of-Stmt (Include (Whole (Local 5) SetKind) (record { form = (Literal 2); kind = Int })) end_of-Stmt)) (record { form = (Compare' Unequal b (Load (Whole (Local 4) (PointerKind 0))) b (Literal 0)); kind = BoolKind })) ∷ (Case' (record { form = (Load (Whole (Local 0) Int)); kind = Int }) (vec2 v) (more_of-CasePart (One (pos 1) ∷ []) (vec1 v) (more_of-Stmt (New (Whole (Local 2) (PointerKind 0))) end_of-Stmt) (more_of-CasePart (One (pos 2) ∷ []) (vec1 v) (more_of-Stmt (Exclude (Whole (Local 5) SetKind) (record { form = (Load (Whole (Local 0) Int)); kind = Int })) end_of-Stmt) end_of-CasePart))) ∷ (CasePointer' (record { form = (Load (Whole (Local 2) (PointerKind 0))); kind = (PointerKind 0) }) (vec1 v) (more_of-TypePart 0 (vec1 v) (more_of-Stmt (New (Whole (Local 3) (PointerKind 0))) end_of-Stmt) end_of-TypePart)) ∷ (If' (vec1 v) (more_of-Branch (record { form = (In' b (Literal 3) b (Chain' b (Load (Whole (Local 5) SetKind)) (vec1 v) (more_of-Link (Operate Union (Load (Whole (Local 6) SetKind))) end_of-Link))); kind = BoolKind }) (vec1 v) (more_of-Stmt (Assign (Whole (Global 0 0) Int) (record { form = (Load (Whole (Local 1) ByteKind)); kind = ByteKind })) end_of-Stmt) end_of-Branch) (vec0 v) end_of-Stmt) ∷ []); answer = (Some (record { form = (Load (Whole (Local 4) (PointerKind 0))); kind = (PointerKind 0) })) } ∷ record { «module» = 0; line = 1; is_body = true; formals = []; result = 5; locals = []; texts = []; body = ((If' (vec1 v) (more_of-Branch (record { form = (Compare' Equal b (Call' b (Direct' 0 (vec2 v) (more_of-Argument (ByValue (Literal 1)) (more_of-Argument (ByValue (Byte' b (Literal 2))) end_of-Argument)))) b (Literal 0)); kind = BoolKind }) (vec1 v) (more_of-Stmt (Assign (Whole (Global 0 0) Int) (record { form = (Literal 1); kind = Int })) end_of-Stmt) end_of-Branch) (vec0 v) end_of-Stmt) ∷ []); answer = None } ∷ []); imports_in = false }

abbrev registers_in_parts_procs : List Proc
registers_in_parts_procs = ((proc ((block (0 ∷ 1 ∷ []) ((op (ConstOp 0) [] (Some 2)) ∷ (op (ConstOp 0) [] (Some 3)) ∷ (op (ConstOp 0) [] (Some 4)) ∷ (op (ConstOp 0) [] (Some 5)) ∷ (op (ConstOp 0) [] (Some 6)) ∷ (op (ConstOp 0) [] (Some 7)) ∷ []) (Branch 12 0 7 1 2) 1048576 None) ∷ (block [] ((op (ConstOp 2) [] (Some 8)) ∷ (op (ConstOp 16) [] (Some 9)) ∷ (op (GlobalOp 16) [] (Some 10)) ∷ (op NewOp (8 ∷ 9 ∷ 10 ∷ []) (Some 11)) ∷ (op ElemOp (0 ∷ []) None) ∷ (op BitOp (0 ∷ []) (Some 12)) ∷ (op OrOp (5 ∷ 12 ∷ []) (Some 13)) ∷ []) (Jump 3 (11 ∷ 3 ∷ 13 ∷ 6 ∷ [])) 524288 None) ∷ (block [] ((op (ConstOp 1) [] (Some 14)) ∷ (op ElemOp (14 ∷ []) None) ∷ (op BitOp (14 ∷ []) (Some 15)) ∷ (op BicOp (6 ∷ 15 ∷ []) (Some 16)) ∷ []) (Jump 3 (2 ∷ 2 ∷ 5 ∷ 16 ∷ [])) 524288 None) ∷ (block (17 ∷ 18 ∷ 19 ∷ 20 ∷ []) [] (Jump 4 (0 ∷ 1 ∷ 17 ∷ 18 ∷ [])) 1048576 None) ∷ (block (21 ∷ 22 ∷ 23 ∷ 24 ∷ []) ((op (ConstOp 0) [] (Some 25)) ∷ []) (Branch 12 21 25 5 6) 8388608 (Some 3)) ∷ (block [] ((op (ConstOp 2) [] (Some 26)) ∷ (op (ConstOp 16) [] (Some 27)) ∷ (op (GlobalOp 16) [] (Some 28)) ∷ (op NewOp (26 ∷ 27 ∷ 28 ∷ []) (Some 29)) ∷ (op (ConstOp 1) [] (Some 30)) ∷ (op SubOp (21 ∷ 30 ∷ []) (Some 31)) ∷ (op (ConstOp 1) [] (Some 32)) ∷ (op AddOp (22 ∷ 32 ∷ []) (Some 33)) ∷ (op ByteOp (33 ∷ []) None) ∷ []) (Jump 4 (31 ∷ 33 ∷ 29 ∷ 29 ∷ [])) 8388608 None) ∷ (block [] [] (Jump 7 (4 ∷ 19 ∷ [])) 1048576 None) ∷ (block (34 ∷ 35 ∷ []) ((op (ConstOp 2) [] (Some 36)) ∷ (op (ConstOp 16) [] (Some 37)) ∷ (op (GlobalOp 16) [] (Some 38)) ∷ (op NewOp (36 ∷ 37 ∷ 38 ∷ []) (Some 39)) ∷ (op (ConstOp 2) [] (Some 40)) ∷ (op ElemOp (40 ∷ []) None) ∷ (op BitOp (40 ∷ []) (Some 41)) ∷ (op OrOp (35 ∷ 41 ∷ []) (Some 42)) ∷ (op (ConstOp 0) [] (Some 43)) ∷ []) (Branch 1 39 43 9 8) 8388608 (Some 6)) ∷ (block [] [] (Jump 7 (39 ∷ 42 ∷ [])) 8388608 None) ∷ (block [] ((op (ConstOp 1) [] (Some 44)) ∷ []) (Branch 0 21 44 12 10) 1048576 None) ∷ (block [] ((op (ConstOp 2) [] (Some 45)) ∷ []) (Branch 0 21 45 13 11) 1048576 None) ∷ (block [] [] (Trap 6) 524288 None) ∷ (block [] ((op (ConstOp 2) [] (Some 46)) ∷ (op (ConstOp 16) [] (Some 47)) ∷ (op (GlobalOp 16) [] (Some 48)) ∷ (op NewOp (46 ∷ 47 ∷ 48 ∷ []) (Some 49)) ∷ []) (Jump 14 (49 ∷ 42 ∷ [])) 524288 None) ∷ (block [] ((op ElemOp (21 ∷ []) None) ∷ (op BitOp (21 ∷ []) (Some 50)) ∷ (op BicOp (42 ∷ 50 ∷ []) (Some 51)) ∷ []) (Jump 14 (23 ∷ 51 ∷ [])) 524288 None) ∷ (block (52 ∷ 53 ∷ []) ((op (GlobalOp 16) [] (Some 54)) ∷ (op (IsPtrOp 0) (52 ∷ 54 ∷ []) (Some 55)) ∷ []) (Nonzero 55 16 15) 1048576 None) ∷ (block [] [] (Jump 17 (24 ∷ [])) 524288 None) ∷ (block [] ((op (ConstOp 2) [] (Some 56)) ∷ (op (ConstOp 16) [] (Some 57)) ∷ (op (GlobalOp 16) [] (Some 58)) ∷ (op NewOp (56 ∷ 57 ∷ 58 ∷ []) (Some 59)) ∷ []) (Jump 17 (59 ∷ [])) 524288 None) ∷ (block (60 ∷ []) ((op (ConstOp 3) [] (Some 61)) ∷ (op ElemOp (61 ∷ []) None) ∷ (op OrOp (53 ∷ 20 ∷ []) (Some 62)) ∷ (op HasOp (61 ∷ 62 ∷ []) (Some 63)) ∷ []) (Nonzero 63 18 19) 1048576 None) ∷ (block [] ((op (GlobalOp 8) [] (Some 64)) ∷ (op StoreOp (64 ∷ 22 ∷ []) None) ∷ []) (Jump 20 []) 524288 None) ∷ (block [] [] (Jump 20 []) 524288 None) ∷ (block [] [] (Return (Some 39)) 1048576 None) ∷ []) 65 2 true 7 0) ∷ (proc ((block [] ((op (ConstOp 1) [] (Some 0)) ∷ (op (ConstOp 2) [] (Some 1)) ∷ (op ByteOp (1 ∷ []) None) ∷ (op (CallOp 0) (0 ∷ 1 ∷ []) (Some 2)) ∷ (op (ConstOp 0) [] (Some 3)) ∷ []) (Branch 0 2 3 1 2) 1048576 None) ∷ (block [] ((op (GlobalOp 8) [] (Some 4)) ∷ (op (ConstOp 1) [] (Some 5)) ∷ (op StoreOp (4 ∷ 5 ∷ []) None) ∷ []) (Jump 3 []) 524288 None) ∷ (block [] [] (Jump 3 []) 524288 None) ∷ (block [] [] (Return None) 1048576 None) ∷ []) 6 0 false 0 0) ∷ [])

pub registers_in_parts_low : (b : Box (Unit {0}) Heap) (v : Vec (Unit {0}) Heap) → lowered (registers_in_parts b v) ≡ registers_in_parts_procs
unfolding data_tree record_row fields_before
registers_in_parts_low b v = refl

pub registers_in_parts_constants : (b : Box (Unit {0}) Heap) (v : Vec (Unit {0}) Heap) → constants (registers_in_parts b v) (packed (registers_in_parts b v).types) 268435456 ≡ (16 ∷ 0 ∷ 0 ∷ 16 ∷ 0 ∷ 0 ∷ 0 ∷ 0 ∷ 0 ∷ 0 ∷ 0 ∷ 0 ∷ 0 ∷ 0 ∷ 0 ∷ 0 ∷ 0 ∷ 0 ∷ 0 ∷ 0 ∷ 0 ∷ 0 ∷ 0 ∷ 0 ∷ 0 ∷ 0 ∷ 0 ∷ 0 ∷ 0 ∷ 0 ∷ 0 ∷ 0 ∷ 0 ∷ 0 ∷ 0 ∷ 0 ∷ 0 ∷ 0 ∷ 0 ∷ 0 ∷ 0 ∷ 0 ∷ 0 ∷ 0 ∷ 0 ∷ 0 ∷ 0 ∷ 0 ∷ 0 ∷ 0 ∷ 0 ∷ 0 ∷ 0 ∷ 0 ∷ 0 ∷ 0 ∷ 0 ∷ 0 ∷ 0 ∷ 0 ∷ 0 ∷ 0 ∷ 0 ∷ 0 ∷ 0 ∷ 0 ∷ 0 ∷ 0 ∷ 0 ∷ 0 ∷ 0 ∷ 0 ∷ 0 ∷ 0 ∷ 0 ∷ 0 ∷ 0 ∷ 0 ∷ 0 ∷ 0 ∷ 0 ∷ 0 ∷ 0 ∷ 0 ∷ 0 ∷ 0 ∷ 0 ∷ 0 ∷ 0 ∷ 0 ∷ 0 ∷ 0 ∷ 0 ∷ 0 ∷ 0 ∷ 0 ∷ 0 ∷ 0 ∷ 0 ∷ 0 ∷ 0 ∷ 0 ∷ 0 ∷ 0 ∷ 0 ∷ 0 ∷ 0 ∷ 0 ∷ 0 ∷ 0 ∷ 0 ∷ 0 ∷ 0 ∷ 0 ∷ 0 ∷ 0 ∷ 0 ∷ 0 ∷ 0 ∷ 0 ∷ 0 ∷ 0 ∷ 0 ∷ 0 ∷ 0 ∷ 0 ∷ 0 ∷ 0 ∷ [])
unfolding data_tree record_row fields_before
registers_in_parts_constants b v = refl

-- MODULE M; TYPE E = RECORD END; VAR g: INTEGER; PROCEDURE P(a: INTEGER); VAR e, f: E; x: INTEGER; BEGIN e := f; x := a; g := x END P; PROCEDURE Q(VAR e: E); BEGIN g := g + 1 END Q; PROCEDURE R; VAR e: E; BEGIN Q(e) END R; BEGIN P(3); R END M.
abbrev empty_record : Outside Program
empty_record b v = record { types = record { kinds = ((RecordKind 0) ∷ Int ∷ Nothing ∷ []); records = (record { «module» = 0; base = None; level = 0; fields = []; cells = 0; extent = record { bytes = 0; wide = false } } ∷ []); signatures = [] }; modules = (record { name = []; objects = []; variables = (1 ∷ []); body = 3 } ∷ []); procedures = (record { «module» = 0; line = 1; is_body = false; formals = (record { mode = OfValue; variable = false; type_number = 1 } ∷ []); result = 2; locals = (0 ∷ 0 ∷ 1 ∷ []); texts = []; body = ((CopyRecord (Whole (Local 1) (RecordKind 0)) (Whole (Local 2) (RecordKind 0))) ∷ (Assign (Whole (Local 3) Int) (record { form = (Load (Whole (Local 0) Int)); kind = Int })) ∷ (Assign (Whole (Global 0 0) Int) (record { form = (Load (Whole (Local 3) Int)); kind = Int })) ∷ []); answer = None } ∷ record { «module» = 0; line = 1; is_body = false; formals = (record { mode = OfRecord; variable = true; type_number = 0 } ∷ []); result = 2; locals = []; texts = []; body = ((Assign (Whole (Global 0 0) Int) (record { form = (Chain' b (Load (Whole (Global 0 0) Int)) (vec1 v) (more_of-Link (Operate Add (Literal 1)) end_of-Link)); kind = Int })) ∷ []); answer = None } ∷ record { «module» = 0; line = 1; is_body = false; formals = []; result = 2; locals = (0 ∷ []); texts = []; body = ((Invoke (Direct' 1 (vec1 v) (more_of-Argument (ByRecord (Whole (Local 0) (RecordKind 0))) end_of-Argument))) ∷ []); answer = None } ∷ record { «module» = 0; line = 1; is_body = true; formals = []; result = 2; locals = []; texts = []; body = ((Invoke (Direct' 0 (vec1 v) (more_of-Argument (ByValue (Literal 3)) end_of-Argument))) ∷ (Invoke (Direct' 2 (vec0 v) end_of-Argument)) ∷ []); answer = None } ∷ []); imports_in = false }

abbrev empty_record_procs : List Proc
empty_record_procs = ((proc ((block (0 ∷ []) ((op (LocalOp 0) [] (Some 1)) ∷ (op (ConstOp 0) [] (Some 2)) ∷ (op ZeroOp (1 ∷ 2 ∷ []) None) ∷ (op (ConstOp 0) [] (Some 3)) ∷ (op (LocalOp 0) [] (Some 4)) ∷ (op (LocalOp 0) [] (Some 5)) ∷ (op (ConstOp 0) [] (Some 6)) ∷ (op CopyOp (4 ∷ 5 ∷ 6 ∷ []) None) ∷ (op (GlobalOp 8) [] (Some 7)) ∷ (op StoreOp (7 ∷ 0 ∷ []) None) ∷ []) (Return None) 1048576 None) ∷ []) 8 1 true 2 0) ∷ (proc ((block (0 ∷ 1 ∷ []) ((op (GlobalOp 8) [] (Some 2)) ∷ (op (GlobalOp 8) [] (Some 3)) ∷ (op LoadOp (3 ∷ []) (Some 4)) ∷ (op (ConstOp 1) [] (Some 5)) ∷ (op AddOp (4 ∷ 5 ∷ []) (Some 6)) ∷ (op StoreOp (2 ∷ 6 ∷ []) None) ∷ []) (Return None) 1048576 None) ∷ []) 7 2 true 0 0) ∷ (proc ((block [] ((op (LocalOp 0) [] (Some 0)) ∷ (op (ConstOp 0) [] (Some 1)) ∷ (op ZeroOp (0 ∷ 1 ∷ []) None) ∷ (op (LocalOp 0) [] (Some 2)) ∷ (op (GlobalOp 16) [] (Some 3)) ∷ (op (CallOp 1) (2 ∷ 3 ∷ []) None) ∷ []) (Return None) 1048576 None) ∷ []) 4 0 true 0 0) ∷ (proc ((block [] ((op (ConstOp 3) [] (Some 0)) ∷ (op (CallOp 0) (0 ∷ []) None) ∷ (op (CallOp 2) [] None) ∷ []) (Return None) 1048576 None) ∷ []) 1 0 false 0 0) ∷ [])

pub empty_record_low : (b : Box (Unit {0}) Heap) (v : Vec (Unit {0}) Heap) → lowered (empty_record b v) ≡ empty_record_procs
unfolding data_tree record_row fields_before
empty_record_low b v = refl

pub empty_record_constants : (b : Box (Unit {0}) Heap) (v : Vec (Unit {0}) Heap) → constants (empty_record b v) (packed (empty_record b v).types) 268435456 ≡ (16 ∷ 0 ∷ 0 ∷ 16 ∷ 0 ∷ 0 ∷ 0 ∷ 0 ∷ 0 ∷ 0 ∷ 0 ∷ 0 ∷ 0 ∷ 0 ∷ 0 ∷ 0 ∷ 0 ∷ 0 ∷ 0 ∷ 0 ∷ 0 ∷ 0 ∷ 0 ∷ 0 ∷ 0 ∷ 0 ∷ 0 ∷ 0 ∷ 0 ∷ 0 ∷ 0 ∷ 0 ∷ 0 ∷ 0 ∷ 0 ∷ 0 ∷ 0 ∷ 0 ∷ 0 ∷ 0 ∷ 0 ∷ 0 ∷ 0 ∷ 0 ∷ 0 ∷ 0 ∷ 0 ∷ 0 ∷ 0 ∷ 0 ∷ 0 ∷ 0 ∷ 0 ∷ 0 ∷ 0 ∷ 0 ∷ 0 ∷ 0 ∷ 0 ∷ 0 ∷ 0 ∷ 0 ∷ 0 ∷ 0 ∷ 0 ∷ 0 ∷ 0 ∷ 0 ∷ 0 ∷ 0 ∷ 0 ∷ 0 ∷ 0 ∷ 0 ∷ 0 ∷ 0 ∷ 0 ∷ 0 ∷ 0 ∷ 0 ∷ 0 ∷ 0 ∷ 0 ∷ 0 ∷ 0 ∷ 0 ∷ 0 ∷ 0 ∷ 0 ∷ 0 ∷ 0 ∷ 0 ∷ 0 ∷ 0 ∷ 0 ∷ 0 ∷ 0 ∷ 0 ∷ 0 ∷ 0 ∷ 0 ∷ 0 ∷ 0 ∷ 0 ∷ 0 ∷ 0 ∷ 0 ∷ 0 ∷ 0 ∷ 0 ∷ 0 ∷ 0 ∷ 0 ∷ 0 ∷ 0 ∷ 0 ∷ 0 ∷ 0 ∷ 0 ∷ 0 ∷ 0 ∷ 0 ∷ 0 ∷ 0 ∷ 0 ∷ 0 ∷ 0 ∷ 0 ∷ [])
unfolding data_tree record_row fields_before
empty_record_constants b v = refl

-- MODULE M; VAR g: INTEGER; PROCEDURE P(a: INTEGER): INTEGER; VAR x, y, z: INTEGER; BEGIN x := a; IF a < 1 THEN x := 1 ELSIF a < 2 THEN y := 2 ELSIF (a < 3) OR (a = 7) & ~(a = 9) THEN z := 3; x := 5 ELSE y := x END; WHILE x < 3 DO INC(x) ELSIF y < 3 DO INC(y); z := y ELSIF z = 1 DO DEC(z, 2) END; RETURN x + y + z END P; BEGIN g := P(g) END M.
abbrev elsifs : Outside Program
elsifs b v = record { types = record { kinds = (Int ∷ Nothing ∷ []); records = []; signatures = [] }; modules = (record { name = []; objects = []; variables = (0 ∷ []); body = 1 } ∷ []); procedures = (record { «module» = 0; line = 1; is_body = false; formals = (record { mode = OfValue; variable = false; type_number = 0 } ∷ []); result = 0; locals = (0 ∷ 0 ∷ 0 ∷ []); texts = []; body = ((Assign (Whole (Local 1) Int) (record { form = (Load (Whole (Local 0) Int)); kind = Int })) ∷ (If' (vec3 v) (more_of-Branch (record { form = (Compare' Less b (Load (Whole (Local 0) Int)) b (Literal 1)); kind = BoolKind }) (vec1 v) (more_of-Stmt (Assign (Whole (Local 1) Int) (record { form = (Literal 1); kind = Int })) end_of-Stmt) (more_of-Branch (record { form = (Compare' Less b (Load (Whole (Local 0) Int)) b (Literal 2)); kind = BoolKind }) (vec1 v) (more_of-Stmt (Assign (Whole (Local 2) Int) (record { form = (Literal 2); kind = Int })) end_of-Stmt) (more_of-Branch (record { form = (Chain' b (Compare' Less b (Load (Whole (Local 0) Int)) b (Literal 3)) (vec1 v) (more_of-Link (Or (Chain' b (Compare' Equal b (Load (Whole (Local 0) Int)) b (Literal 7)) (vec1 v) (more_of-Link (And (Unary' Not b (Compare' Equal b (Load (Whole (Local 0) Int)) b (Literal 9)))) end_of-Link))) end_of-Link)); kind = BoolKind }) (vec2 v) (more_of-Stmt (Assign (Whole (Local 3) Int) (record { form = (Literal 3); kind = Int })) (more_of-Stmt (Assign (Whole (Local 1) Int) (record { form = (Literal 5); kind = Int })) end_of-Stmt)) end_of-Branch))) (vec1 v) (more_of-Stmt (Assign (Whole (Local 2) Int) (record { form = (Load (Whole (Local 1) Int)); kind = Int })) end_of-Stmt)) ∷ (While' (vec3 v) (more_of-Branch (record { form = (Compare' Less b (Load (Whole (Local 1) Int)) b (Literal 3)); kind = BoolKind }) (vec1 v) (more_of-Stmt (Increase (Whole (Local 1) Int) (record { form = (Literal 1); kind = Int })) end_of-Stmt) (more_of-Branch (record { form = (Compare' Less b (Load (Whole (Local 2) Int)) b (Literal 3)); kind = BoolKind }) (vec2 v) (more_of-Stmt (Increase (Whole (Local 2) Int) (record { form = (Literal 1); kind = Int })) (more_of-Stmt (Assign (Whole (Local 3) Int) (record { form = (Load (Whole (Local 2) Int)); kind = Int })) end_of-Stmt)) (more_of-Branch (record { form = (Compare' Equal b (Load (Whole (Local 3) Int)) b (Literal 1)); kind = BoolKind }) (vec1 v) (more_of-Stmt (Decrease (Whole (Local 3) Int) (record { form = (Literal 2); kind = Int })) end_of-Stmt) end_of-Branch)))) ∷ []); answer = (Some (record { form = (Chain' b (Load (Whole (Local 1) Int)) (vec2 v) (more_of-Link (Operate Add (Load (Whole (Local 2) Int))) (more_of-Link (Operate Add (Load (Whole (Local 3) Int))) end_of-Link))); kind = Int })) } ∷ record { «module» = 0; line = 1; is_body = true; formals = []; result = 1; locals = []; texts = []; body = ((Assign (Whole (Global 0 0) Int) (record { form = (Call' b (Direct' 0 (vec1 v) (more_of-Argument (ByValue (Load (Whole (Global 0 0) Int))) end_of-Argument))); kind = Int })) ∷ []); answer = None } ∷ []); imports_in = false }

abbrev elsifs_procs : List Proc
elsifs_procs = ((proc ((block (0 ∷ []) ((op (ConstOp 0) [] (Some 1)) ∷ (op (ConstOp 0) [] (Some 2)) ∷ (op (ConstOp 0) [] (Some 3)) ∷ (op (ConstOp 1) [] (Some 4)) ∷ []) (Branch 11 0 4 1 2) 1048576 None) ∷ (block [] ((op (ConstOp 1) [] (Some 5)) ∷ []) (Jump 11 (5 ∷ 2 ∷ 3 ∷ [])) 524288 None) ∷ (block [] ((op (ConstOp 2) [] (Some 6)) ∷ []) (Branch 11 0 6 3 4) 524288 None) ∷ (block [] ((op (ConstOp 2) [] (Some 7)) ∷ []) (Jump 10 (0 ∷ 7 ∷ 3 ∷ [])) 262144 None) ∷ (block [] ((op (ConstOp 3) [] (Some 8)) ∷ []) (Branch 11 0 8 7 5) 262144 None) ∷ (block [] ((op (ConstOp 7) [] (Some 9)) ∷ []) (Branch 0 0 9 6 8) 262144 None) ∷ (block [] ((op (ConstOp 9) [] (Some 10)) ∷ []) (Branch 0 0 10 8 7) 262144 None) ∷ (block [] ((op (ConstOp 3) [] (Some 11)) ∷ (op (ConstOp 5) [] (Some 12)) ∷ []) (Jump 9 (12 ∷ 2 ∷ 11 ∷ [])) 131072 None) ∷ (block [] [] (Jump 9 (0 ∷ 0 ∷ 3 ∷ [])) 131072 None) ∷ (block (13 ∷ 14 ∷ 15 ∷ []) [] (Jump 10 (13 ∷ 14 ∷ 15 ∷ [])) 262144 None) ∷ (block (16 ∷ 17 ∷ 18 ∷ []) [] (Jump 11 (16 ∷ 17 ∷ 18 ∷ [])) 524288 None) ∷ (block (19 ∷ 20 ∷ 21 ∷ []) [] (Jump 12 (19 ∷ 20 ∷ 21 ∷ [])) 1048576 None) ∷ (block (22 ∷ 23 ∷ 24 ∷ []) ((op (ConstOp 3) [] (Some 25)) ∷ []) (Branch 11 22 25 13 14) 8388608 (Some 11)) ∷ (block [] ((op (ConstOp 1) [] (Some 26)) ∷ (op AddOp (22 ∷ 26 ∷ []) (Some 27)) ∷ []) (Jump 12 (27 ∷ 23 ∷ 24 ∷ [])) 8388608 None) ∷ (block [] ((op (ConstOp 3) [] (Some 28)) ∷ []) (Branch 11 23 28 15 16) 8388608 None) ∷ (block [] ((op (ConstOp 1) [] (Some 29)) ∷ (op AddOp (23 ∷ 29 ∷ []) (Some 30)) ∷ []) (Jump 12 (22 ∷ 30 ∷ 30 ∷ [])) 8388608 None) ∷ (block [] ((op (ConstOp 1) [] (Some 31)) ∷ []) (Branch 0 24 31 17 18) 8388608 None) ∷ (block [] ((op (ConstOp 2) [] (Some 32)) ∷ (op SubOp (24 ∷ 32 ∷ []) (Some 33)) ∷ []) (Jump 12 (22 ∷ 23 ∷ 33 ∷ [])) 8388608 None) ∷ (block [] ((op AddOp (22 ∷ 23 ∷ []) (Some 34)) ∷ (op AddOp (34 ∷ 24 ∷ []) (Some 35)) ∷ []) (Return (Some 35)) 1048576 None) ∷ []) 36 1 true 4 0) ∷ (proc ((block [] ((op (GlobalOp 8) [] (Some 0)) ∷ (op (GlobalOp 8) [] (Some 1)) ∷ (op LoadOp (1 ∷ []) (Some 2)) ∷ (op (CallOp 0) (2 ∷ []) (Some 3)) ∷ (op StoreOp (0 ∷ 3 ∷ []) None) ∷ []) (Return None) 1048576 None) ∷ []) 4 0 false 0 0) ∷ [])

pub elsifs_low : (b : Box (Unit {0}) Heap) (v : Vec (Unit {0}) Heap) → lowered (elsifs b v) ≡ elsifs_procs
unfolding data_tree record_row fields_before
elsifs_low b v = refl

-- MODULE M; VAR a, b, c: BOOLEAN; s: SET; i: INTEGER; t: ARRAY 4 OF CHAR; PROCEDURE F(x: BOOLEAN): BOOLEAN; BEGIN RETURN ~x & a OR b & (c OR x) & ~(a OR b) END F; BEGIN a := b & c OR a; b := (a OR b) & c; a := ~(b & c); s := {1, 3..i, i + 1} + {i} * s - {0} / (-s); b := (i IN s) & (s <= {1}) OR (s >= {2}); c := a & F(b OR c) OR ~F(a); IF ~(a & b) OR ~c THEN i := 1 END; WHILE a & ~b DO a := FALSE END; REPEAT INC(i) UNTIL (i > 5) & (t = ''abc'') OR (t < ''x''); b := (t # ''ab'') & (t >= t) END M.
abbrev chains : Outside Program
chains b v = record { types = record { kinds = (BoolKind ∷ SetKind ∷ Int ∷ Char ∷ (Array (Some 4) 3) ∷ Nothing ∷ []); records = []; signatures = [] }; modules = (record { name = []; objects = []; variables = (0 ∷ 0 ∷ 0 ∷ 1 ∷ 2 ∷ 4 ∷ []); body = 1 } ∷ []); procedures = (record { «module» = 0; line = 1; is_body = false; formals = (record { mode = OfValue; variable = false; type_number = 0 } ∷ []); result = 0; locals = []; texts = []; body = []; answer = (Some (record { form = (Chain' b (Unary' Not b (Load (Whole (Local 0) BoolKind))) (vec2 v) (more_of-Link (And (Load (Whole (Global 0 0) BoolKind))) (more_of-Link (Or (Chain' b (Load (Whole (Global 0 1) BoolKind)) (vec2 v) (more_of-Link (And (Chain' b (Load (Whole (Global 0 2) BoolKind)) (vec1 v) (more_of-Link (Or (Load (Whole (Local 0) BoolKind))) end_of-Link))) (more_of-Link (And (Unary' Not b (Chain' b (Load (Whole (Global 0 0) BoolKind)) (vec1 v) (more_of-Link (Or (Load (Whole (Global 0 1) BoolKind))) end_of-Link)))) end_of-Link)))) end_of-Link))); kind = BoolKind })) } ∷ record { «module» = 0; line = 1; is_body = true; formals = []; result = 5; locals = []; texts = ((97 ∷ 98 ∷ 99 ∷ []) ∷ (120 ∷ []) ∷ (97 ∷ 98 ∷ []) ∷ []); body = ((Assign (Whole (Global 0 0) BoolKind) (record { form = (Chain' b (Load (Whole (Global 0 1) BoolKind)) (vec2 v) (more_of-Link (And (Load (Whole (Global 0 2) BoolKind))) (more_of-Link (Or (Load (Whole (Global 0 0) BoolKind))) end_of-Link))); kind = BoolKind })) ∷ (Assign (Whole (Global 0 1) BoolKind) (record { form = (Chain' b (Load (Whole (Global 0 0) BoolKind)) (vec2 v) (more_of-Link (Or (Load (Whole (Global 0 1) BoolKind))) (more_of-Link (And (Load (Whole (Global 0 2) BoolKind))) end_of-Link))); kind = BoolKind })) ∷ (Assign (Whole (Global 0 0) BoolKind) (record { form = (Unary' Not b (Chain' b (Load (Whole (Global 0 1) BoolKind)) (vec1 v) (more_of-Link (And (Load (Whole (Global 0 2) BoolKind))) end_of-Link))); kind = BoolKind })) ∷ (Assign (Whole (Global 0 3) SetKind) (record { form = (Chain' b (Literal 0) (vec5 v) (more_of-Link (Element (Literal 1)) (more_of-Link (Elements' b (Literal 3) b (Load (Whole (Global 0 4) Int))) (more_of-Link (Element (Chain' b (Load (Whole (Global 0 4) Int)) (vec1 v) (more_of-Link (Operate Add (Literal 1)) end_of-Link))) (more_of-Link (Operate Union (Chain' b (Literal 0) (vec2 v) (more_of-Link (Element (Load (Whole (Global 0 4) Int))) (more_of-Link (Operate Intersection (Load (Whole (Global 0 3) SetKind))) end_of-Link)))) (more_of-Link (Operate Difference (Chain' b (Literal 0) (vec2 v) (more_of-Link (Element (Literal 0)) (more_of-Link (Operate SymmetricDifference (Unary' Complement b (Load (Whole (Global 0 3) SetKind)))) end_of-Link)))) end_of-Link)))))); kind = SetKind })) ∷ (Assign (Whole (Global 0 1) BoolKind) (record { form = (Chain' b (In' b (Load (Whole (Global 0 4) Int)) b (Load (Whole (Global 0 3) SetKind))) (vec2 v) (more_of-Link (And (Chain' b (Load (Whole (Global 0 3) SetKind)) (vec1 v) (more_of-Link (Operate Subset (Chain' b (Literal 0) (vec1 v) (more_of-Link (Element (Literal 1)) end_of-Link))) end_of-Link))) (more_of-Link (Or (Chain' b (Load (Whole (Global 0 3) SetKind)) (vec1 v) (more_of-Link (Operate Superset (Chain' b (Literal 0) (vec1 v) (more_of-Link (Element (Literal 2)) end_of-Link))) end_of-Link))) end_of-Link))); kind = BoolKind })) ∷ (Assign (Whole (Global 0 2) BoolKind) (record { form = (Chain' b (Load (Whole (Global 0 0) BoolKind)) (vec2 v) (more_of-Link (And (Call' b (Direct' 0 (vec1 v) (more_of-Argument (ByValue (Chain' b (Load (Whole (Global 0 1) BoolKind)) (vec1 v) (more_of-Link (Or (Load (Whole (Global 0 2) BoolKind))) end_of-Link))) end_of-Argument)))) (more_of-Link (Or (Unary' Not b (Call' b (Direct' 0 (vec1 v) (more_of-Argument (ByValue (Load (Whole (Global 0 0) BoolKind))) end_of-Argument))))) end_of-Link))); kind = BoolKind })) ∷ (If' (vec1 v) (more_of-Branch (record { form = (Chain' b (Unary' Not b (Chain' b (Load (Whole (Global 0 0) BoolKind)) (vec1 v) (more_of-Link (And (Load (Whole (Global 0 1) BoolKind))) end_of-Link))) (vec1 v) (more_of-Link (Or (Unary' Not b (Load (Whole (Global 0 2) BoolKind)))) end_of-Link)); kind = BoolKind }) (vec1 v) (more_of-Stmt (Assign (Whole (Global 0 4) Int) (record { form = (Literal 1); kind = Int })) end_of-Stmt) end_of-Branch) (vec0 v) end_of-Stmt) ∷ (While' (vec1 v) (more_of-Branch (record { form = (Chain' b (Load (Whole (Global 0 0) BoolKind)) (vec1 v) (more_of-Link (And (Unary' Not b (Load (Whole (Global 0 1) BoolKind)))) end_of-Link)); kind = BoolKind }) (vec1 v) (more_of-Stmt (Assign (Whole (Global 0 0) BoolKind) (record { form = (Literal 0); kind = BoolKind })) end_of-Stmt) end_of-Branch)) ∷ (Repeat' (vec1 v) (more_of-Stmt (Increase (Whole (Global 0 4) Int) (record { form = (Literal 1); kind = Int })) end_of-Stmt) (record { form = (Chain' b (Compare' Greater b (Load (Whole (Global 0 4) Int)) b (Literal 5)) (vec2 v) (more_of-Link (And (CompareTexts' Equal b (Whole (Global 0 5) (Array (Some 4) 3)) b (Whole (Text 0) (TextKind 3)))) (more_of-Link (Or (CompareTexts' Less b (Whole (Global 0 5) (Array (Some 4) 3)) b (Whole (Text 1) (TextKind 1)))) end_of-Link))); kind = BoolKind })) ∷ (Assign (Whole (Global 0 1) BoolKind) (record { form = (Chain' b (CompareTexts' Unequal b (Whole (Global 0 5) (Array (Some 4) 3)) b (Whole (Text 2) (TextKind 2))) (vec1 v) (more_of-Link (And (CompareTexts' GreaterEqual b (Whole (Global 0 5) (Array (Some 4) 3)) b (Whole (Global 0 5) (Array (Some 4) 3)))) end_of-Link)); kind = BoolKind })) ∷ []); answer = None } ∷ []); imports_in = false }

abbrev chains_procs : List Proc
chains_procs = ((proc ((block (0 ∷ []) [] (Nonzero 0 2 1) 1048576 None) ∷ (block [] ((op (GlobalOp 8) [] (Some 1)) ∷ (op LoadByteOp (1 ∷ []) (Some 2)) ∷ []) (Nonzero 2 7 2) 1048576 None) ∷ (block [] ((op (GlobalOp 16) [] (Some 3)) ∷ (op LoadByteOp (3 ∷ []) (Some 4)) ∷ []) (Nonzero 4 3 8) 1048576 None) ∷ (block [] ((op (GlobalOp 24) [] (Some 5)) ∷ (op LoadByteOp (5 ∷ []) (Some 6)) ∷ []) (Nonzero 6 5 4) 1048576 None) ∷ (block [] [] (Nonzero 0 5 8) 1048576 None) ∷ (block [] ((op (GlobalOp 8) [] (Some 7)) ∷ (op LoadByteOp (7 ∷ []) (Some 8)) ∷ []) (Nonzero 8 8 6) 1048576 None) ∷ (block [] ((op (GlobalOp 16) [] (Some 9)) ∷ (op LoadByteOp (9 ∷ []) (Some 10)) ∷ []) (Nonzero 10 8 7) 1048576 None) ∷ (block [] ((op (ConstOp 1) [] (Some 11)) ∷ []) (Jump 9 (11 ∷ [])) 524288 None) ∷ (block [] ((op (ConstOp 0) [] (Some 12)) ∷ []) (Jump 9 (12 ∷ [])) 524288 None) ∷ (block (13 ∷ []) [] (Return (Some 13)) 1048576 None) ∷ []) 14 1 true 1 0) ∷ (proc ((block [] ((op (GlobalOp 8) [] (Some 0)) ∷ (op (GlobalOp 16) [] (Some 1)) ∷ (op LoadByteOp (1 ∷ []) (Some 2)) ∷ []) (Nonzero 2 1 2) 1048576 None) ∷ (block [] ((op (GlobalOp 24) [] (Some 3)) ∷ (op LoadByteOp (3 ∷ []) (Some 4)) ∷ []) (Nonzero 4 3 2) 1048576 None) ∷ (block [] ((op (GlobalOp 8) [] (Some 5)) ∷ (op LoadByteOp (5 ∷ []) (Some 6)) ∷ []) (Nonzero 6 3 4) 1048576 None) ∷ (block [] ((op (ConstOp 1) [] (Some 7)) ∷ []) (Jump 5 (7 ∷ [])) 524288 None) ∷ (block [] ((op (ConstOp 0) [] (Some 8)) ∷ []) (Jump 5 (8 ∷ [])) 524288 None) ∷ (block (9 ∷ []) ((op StoreByteOp (0 ∷ 9 ∷ []) None) ∷ (op (GlobalOp 16) [] (Some 10)) ∷ (op (GlobalOp 8) [] (Some 11)) ∷ (op LoadByteOp (11 ∷ []) (Some 12)) ∷ []) (Nonzero 12 7 6) 1048576 None) ∷ (block [] ((op (GlobalOp 16) [] (Some 13)) ∷ (op LoadByteOp (13 ∷ []) (Some 14)) ∷ []) (Nonzero 14 7 9) 1048576 None) ∷ (block [] ((op (GlobalOp 24) [] (Some 15)) ∷ (op LoadByteOp (15 ∷ []) (Some 16)) ∷ []) (Nonzero 16 8 9) 1048576 None) ∷ (block [] ((op (ConstOp 1) [] (Some 17)) ∷ []) (Jump 10 (17 ∷ [])) 524288 None) ∷ (block [] ((op (ConstOp 0) [] (Some 18)) ∷ []) (Jump 10 (18 ∷ [])) 524288 None) ∷ (block (19 ∷ []) ((op StoreByteOp (10 ∷ 19 ∷ []) None) ∷ (op (GlobalOp 8) [] (Some 20)) ∷ (op (GlobalOp 16) [] (Some 21)) ∷ (op LoadByteOp (21 ∷ []) (Some 22)) ∷ []) (Nonzero 22 11 13) 1048576 None) ∷ (block [] ((op (GlobalOp 24) [] (Some 23)) ∷ (op LoadByteOp (23 ∷ []) (Some 24)) ∷ []) (Nonzero 24 12 13) 1048576 None) ∷ (block [] ((op (ConstOp 1) [] (Some 25)) ∷ []) (Jump 14 (25 ∷ [])) 524288 None) ∷ (block [] ((op (ConstOp 0) [] (Some 26)) ∷ []) (Jump 14 (26 ∷ [])) 524288 None) ∷ (block (27 ∷ []) ((op FlipOp (27 ∷ []) (Some 28)) ∷ (op StoreByteOp (20 ∷ 28 ∷ []) None) ∷ (op (GlobalOp 32) [] (Some 29)) ∷ (op (ConstOp 0) [] (Some 30)) ∷ (op (ConstOp 1) [] (Some 31)) ∷ (op ElemOp (31 ∷ []) None) ∷ (op BitOp (31 ∷ []) (Some 32)) ∷ (op OrOp (30 ∷ 32 ∷ []) (Some 33)) ∷ (op (ConstOp 3) [] (Some 34)) ∷ (op ElemOp (34 ∷ []) None) ∷ (op (GlobalOp 40) [] (Some 35)) ∷ (op LoadOp (35 ∷ []) (Some 36)) ∷ (op ElemOp (36 ∷ []) None) ∷ (op SpanOp (34 ∷ 36 ∷ []) (Some 37)) ∷ (op OrOp (33 ∷ 37 ∷ []) (Some 38)) ∷ (op (GlobalOp 40) [] (Some 39)) ∷ (op LoadOp (39 ∷ []) (Some 40)) ∷ (op (ConstOp 1) [] (Some 41)) ∷ (op AddOp (40 ∷ 41 ∷ []) (Some 42)) ∷ (op ElemOp (42 ∷ []) None) ∷ (op BitOp (42 ∷ []) (Some 43)) ∷ (op OrOp (38 ∷ 43 ∷ []) (Some 44)) ∷ (op (ConstOp 0) [] (Some 45)) ∷ (op (GlobalOp 40) [] (Some 46)) ∷ (op LoadOp (46 ∷ []) (Some 47)) ∷ (op ElemOp (47 ∷ []) None) ∷ (op BitOp (47 ∷ []) (Some 48)) ∷ (op OrOp (45 ∷ 48 ∷ []) (Some 49)) ∷ (op (GlobalOp 32) [] (Some 50)) ∷ (op LoadOp (50 ∷ []) (Some 51)) ∷ (op AndOp (49 ∷ 51 ∷ []) (Some 52)) ∷ (op OrOp (44 ∷ 52 ∷ []) (Some 53)) ∷ (op (ConstOp 0) [] (Some 54)) ∷ (op (ConstOp 0) [] (Some 55)) ∷ (op ElemOp (55 ∷ []) None) ∷ (op BitOp (55 ∷ []) (Some 56)) ∷ (op OrOp (54 ∷ 56 ∷ []) (Some 57)) ∷ (op (GlobalOp 32) [] (Some 58)) ∷ (op LoadOp (58 ∷ []) (Some 59)) ∷ (op NotOp (59 ∷ []) (Some 60)) ∷ (op EorOp (57 ∷ 60 ∷ []) (Some 61)) ∷ (op BicOp (53 ∷ 61 ∷ []) (Some 62)) ∷ (op StoreOp (29 ∷ 62 ∷ []) None) ∷ (op (GlobalOp 16) [] (Some 63)) ∷ (op (GlobalOp 40) [] (Some 64)) ∷ (op LoadOp (64 ∷ []) (Some 65)) ∷ (op ElemOp (65 ∷ []) None) ∷ (op (GlobalOp 32) [] (Some 66)) ∷ (op LoadOp (66 ∷ []) (Some 67)) ∷ (op HasOp (65 ∷ 67 ∷ []) (Some 68)) ∷ []) (Nonzero 68 15 16) 1048576 None) ∷ (block [] ((op (GlobalOp 32) [] (Some 69)) ∷ (op LoadOp (69 ∷ []) (Some 70)) ∷ (op (ConstOp 0) [] (Some 71)) ∷ (op (ConstOp 1) [] (Some 72)) ∷ (op ElemOp (72 ∷ []) None) ∷ (op BitOp (72 ∷ []) (Some 73)) ∷ (op OrOp (71 ∷ 73 ∷ []) (Some 74)) ∷ (op BicOp (70 ∷ 74 ∷ []) (Some 75)) ∷ (op (ConstOp 0) [] (Some 76)) ∷ (op (SetOp 0) (75 ∷ 76 ∷ []) (Some 77)) ∷ []) (Nonzero 77 17 16) 1048576 None) ∷ (block [] ((op (GlobalOp 32) [] (Some 78)) ∷ (op LoadOp (78 ∷ []) (Some 79)) ∷ (op (ConstOp 0) [] (Some 80)) ∷ (op (ConstOp 2) [] (Some 81)) ∷ (op ElemOp (81 ∷ []) None) ∷ (op BitOp (81 ∷ []) (Some 82)) ∷ (op OrOp (80 ∷ 82 ∷ []) (Some 83)) ∷ (op BicOp (83 ∷ 79 ∷ []) (Some 84)) ∷ (op (ConstOp 0) [] (Some 85)) ∷ (op (SetOp 0) (84 ∷ 85 ∷ []) (Some 86)) ∷ []) (Nonzero 86 17 18) 1048576 None) ∷ (block [] ((op (ConstOp 1) [] (Some 87)) ∷ []) (Jump 19 (87 ∷ [])) 524288 None) ∷ (block [] ((op (ConstOp 0) [] (Some 88)) ∷ []) (Jump 19 (88 ∷ [])) 524288 None) ∷ (block (89 ∷ []) ((op StoreByteOp (63 ∷ 89 ∷ []) None) ∷ (op (GlobalOp 24) [] (Some 90)) ∷ (op (GlobalOp 8) [] (Some 91)) ∷ (op LoadByteOp (91 ∷ []) (Some 92)) ∷ []) (Nonzero 92 20 25) 1048576 None) ∷ (block [] ((op (GlobalOp 16) [] (Some 93)) ∷ (op LoadByteOp (93 ∷ []) (Some 94)) ∷ []) (Nonzero 94 22 21) 1048576 None) ∷ (block [] ((op (GlobalOp 24) [] (Some 95)) ∷ (op LoadByteOp (95 ∷ []) (Some 96)) ∷ []) (Nonzero 96 22 23) 1048576 None) ∷ (block [] ((op (ConstOp 1) [] (Some 97)) ∷ []) (Jump 24 (97 ∷ [])) 524288 None) ∷ (block [] ((op (ConstOp 0) [] (Some 98)) ∷ []) (Jump 24 (98 ∷ [])) 524288 None) ∷ (block (99 ∷ []) ((op (CallOp 0) (99 ∷ []) (Some 100)) ∷ []) (Nonzero 100 26 25) 1048576 None) ∷ (block [] ((op (GlobalOp 8) [] (Some 101)) ∷ (op LoadByteOp (101 ∷ []) (Some 102)) ∷ (op (CallOp 0) (102 ∷ []) (Some 103)) ∷ []) (Nonzero 103 27 26) 1048576 None) ∷ (block [] ((op (ConstOp 1) [] (Some 104)) ∷ []) (Jump 28 (104 ∷ [])) 524288 None) ∷ (block [] ((op (ConstOp 0) [] (Some 105)) ∷ []) (Jump 28 (105 ∷ [])) 524288 None) ∷ (block (106 ∷ []) ((op StoreByteOp (90 ∷ 106 ∷ []) None) ∷ (op (GlobalOp 8) [] (Some 107)) ∷ (op LoadByteOp (107 ∷ []) (Some 108)) ∷ []) (Nonzero 108 29 31) 1048576 None) ∷ (block [] ((op (GlobalOp 16) [] (Some 109)) ∷ (op LoadByteOp (109 ∷ []) (Some 110)) ∷ []) (Nonzero 110 30 31) 1048576 None) ∷ (block [] ((op (GlobalOp 24) [] (Some 111)) ∷ (op LoadByteOp (111 ∷ []) (Some 112)) ∷ []) (Nonzero 112 32 31) 1048576 None) ∷ (block [] ((op (GlobalOp 40) [] (Some 113)) ∷ (op (ConstOp 1) [] (Some 114)) ∷ (op StoreOp (113 ∷ 114 ∷ []) None) ∷ []) (Jump 33 []) 524288 None) ∷ (block [] [] (Jump 33 []) 524288 None) ∷ (block [] [] (Jump 34 []) 1048576 None) ∷ (block [] ((op (GlobalOp 8) [] (Some 115)) ∷ (op LoadByteOp (115 ∷ []) (Some 116)) ∷ []) (Nonzero 116 35 37) 8388608 (Some 33)) ∷ (block [] ((op (GlobalOp 16) [] (Some 117)) ∷ (op LoadByteOp (117 ∷ []) (Some 118)) ∷ []) (Nonzero 118 37 36) 8388608 None) ∷ (block [] ((op (GlobalOp 8) [] (Some 119)) ∷ (op (ConstOp 0) [] (Some 120)) ∷ (op StoreByteOp (119 ∷ 120 ∷ []) None) ∷ []) (Jump 34 []) 8388608 None) ∷ (block [] [] (Jump 38 []) 1048576 None) ∷ (block [] ((op (GlobalOp 40) [] (Some 121)) ∷ (op (ConstOp 1) [] (Some 122)) ∷ (op LoadOp (121 ∷ []) (Some 123)) ∷ (op AddOp (123 ∷ 122 ∷ []) (Some 124)) ∷ (op StoreOp (121 ∷ 124 ∷ []) None) ∷ (op (GlobalOp 40) [] (Some 125)) ∷ (op LoadOp (125 ∷ []) (Some 126)) ∷ (op (ConstOp 5) [] (Some 127)) ∷ []) (Branch 12 126 127 39 40) 8388608 (Some 37)) ∷ (block [] ((op (GlobalOp 48) [] (Some 128)) ∷ (op (ConstOp 4) [] (Some 129)) ∷ (op (GlobalOp 56) [] (Some 130)) ∷ (op (ConstOp 4) [] (Some 131)) ∷ (op CompareOp (128 ∷ 129 ∷ 130 ∷ 131 ∷ []) (Some 132)) ∷ (op (ConstOp 0) [] (Some 133)) ∷ (op (SetOp 0) (132 ∷ 133 ∷ []) (Some 134)) ∷ []) (Nonzero 134 42 40) 8388608 None) ∷ (block [] ((op (GlobalOp 48) [] (Some 135)) ∷ (op (ConstOp 4) [] (Some 136)) ∷ (op (GlobalOp 64) [] (Some 137)) ∷ (op (ConstOp 2) [] (Some 138)) ∷ (op CompareOp (135 ∷ 136 ∷ 137 ∷ 138 ∷ []) (Some 139)) ∷ (op (ConstOp 0) [] (Some 140)) ∷ (op (SetOp 11) (139 ∷ 140 ∷ []) (Some 141)) ∷ []) (Nonzero 141 42 41) 8388608 None) ∷ (block [] [] (Jump 38 []) 8388608 None) ∷ (block [] ((op (GlobalOp 16) [] (Some 142)) ∷ (op (GlobalOp 48) [] (Some 143)) ∷ (op (ConstOp 4) [] (Some 144)) ∷ (op (GlobalOp 72) [] (Some 145)) ∷ (op (ConstOp 3) [] (Some 146)) ∷ (op CompareOp (143 ∷ 144 ∷ 145 ∷ 146 ∷ []) (Some 147)) ∷ (op (ConstOp 0) [] (Some 148)) ∷ (op (SetOp 1) (147 ∷ 148 ∷ []) (Some 149)) ∷ []) (Nonzero 149 43 45) 1048576 None) ∷ (block [] ((op (GlobalOp 48) [] (Some 150)) ∷ (op (ConstOp 4) [] (Some 151)) ∷ (op (GlobalOp 48) [] (Some 152)) ∷ (op (ConstOp 4) [] (Some 153)) ∷ (op CompareOp (150 ∷ 151 ∷ 152 ∷ 153 ∷ []) (Some 154)) ∷ (op (ConstOp 0) [] (Some 155)) ∷ (op (SetOp 10) (154 ∷ 155 ∷ []) (Some 156)) ∷ []) (Nonzero 156 44 45) 1048576 None) ∷ (block [] ((op (ConstOp 1) [] (Some 157)) ∷ []) (Jump 46 (157 ∷ [])) 524288 None) ∷ (block [] ((op (ConstOp 0) [] (Some 158)) ∷ []) (Jump 46 (158 ∷ [])) 524288 None) ∷ (block (159 ∷ []) ((op StoreByteOp (142 ∷ 159 ∷ []) None) ∷ []) (Return None) 1048576 None) ∷ []) 160 0 false 0 0) ∷ [])

pub chains_low : (b : Box (Unit {0}) Heap) (v : Vec (Unit {0}) Heap) → lowered (chains b v) ≡ chains_procs
unfolding data_tree record_row fields_before
chains_low b v = refl

pub chains_constants : (b : Box (Unit {0}) Heap) (v : Vec (Unit {0}) Heap) → constants (chains b v) (packed (chains b v).types) 268435456 ≡ (97 ∷ 98 ∷ 99 ∷ 0 ∷ 0 ∷ 0 ∷ 0 ∷ 0 ∷ 120 ∷ 0 ∷ 0 ∷ 0 ∷ 0 ∷ 0 ∷ 0 ∷ 0 ∷ 97 ∷ 98 ∷ 0 ∷ 0 ∷ 0 ∷ 0 ∷ 0 ∷ 0 ∷ [])
unfolding data_tree record_row fields_before
chains_constants b v = refl

-- MODULE M; TYPE A = RECORD n: INTEGER; c: CHAR END; PA = POINTER TO A; B = RECORD (A) m: PA; d: CHAR END; PB = POINTER TO B; C = RECORD (B) k: ARRAY 3 OF PA END; PC = POINTER TO C; VAR p: PA; i: INTEGER; a: ARRAY 2 OF PA; PROCEDURE P(VAR r: A; q: PA): INTEGER; VAR l: PA; BEGIN l := q; l.n := 1; l(PB).m := l; l(PC).k[i](PB).m.n := l(PB)(PC).n; r(B).m := q(PB); r(B)(C).k[1] := NIL; IF l IS PC THEN l := l(PC).k[2] END; CASE l OF PC: l.k[0] := l | PB: l.m.c := ''x'' END; CASE r OF C: r.d := ''y'' | A: r.n := 4 END; RETURN l.n + r.n END P; BEGIN NEW(p); NEW(a[i]); a[1].n := P(a[0]^, p); p(PB).m(PB).m.n := 7 END M.
abbrev guarded : Outside Program
guarded b v = record { types = record { kinds = ((RecordKind 0) ∷ (RecordKind 1) ∷ (RecordKind 2) ∷ (PointerKind 0) ∷ Int ∷ (Array (Some 2) 3) ∷ Nothing ∷ Char ∷ (Array (Some 3) 3) ∷ []); records = (record { «module» = 0; base = None; level = 0; fields = (record { name = []; exported = false; type_number = 4 } ∷ record { name = []; exported = false; type_number = 7 } ∷ []); cells = 2; extent = record { bytes = 16; wide = true } } ∷ record { «module» = 0; base = (Some 0); level = 1; fields = (record { name = []; exported = false; type_number = 3 } ∷ record { name = []; exported = false; type_number = 7 } ∷ []); cells = 4; extent = record { bytes = 32; wide = true } } ∷ record { «module» = 0; base = (Some 1); level = 2; fields = (record { name = []; exported = false; type_number = 8 } ∷ []); cells = 7; extent = record { bytes = 56; wide = true } } ∷ []); signatures = [] }; modules = (record { name = []; objects = []; variables = (3 ∷ 4 ∷ 5 ∷ []); body = 1 } ∷ []); procedures = (record { «module» = 0; line = 1; is_body = false; formals = (record { mode = OfRecord; variable = true; type_number = 0 } ∷ record { mode = OfValue; variable = false; type_number = 3 } ∷ []); result = 4; locals = (3 ∷ []); texts = []; body = ((Assign (Whole (Local 1) (PointerKind 0)) (record { form = (Load (Whole (Local 0) (PointerKind 0))); kind = (PointerKind 0) })) ∷ (Assign (Part' b (Local 1) Int (vec2 v) (more_of-Selector (Dereference []) (more_of-Selector (Field 0 0) end_of-Selector))) (record { form = (Literal 1); kind = Int })) ∷ (Assign (Part' b (Local 1) (PointerKind 0) (vec2 v) (more_of-Selector (Dereference (1 ∷ [])) (more_of-Selector (Field 1 0) end_of-Selector))) (record { form = (Load (Whole (Local 1) (PointerKind 0))); kind = (PointerKind 0) })) ∷ (Assign (Part' b (Local 1) Int (vec7 v) (more_of-Selector (Dereference (2 ∷ [])) (more_of-Selector (Field 2 0) (more_of-Selector (Index (Some 3) 3 (Load (Whole (Global 0 1) Int))) (more_of-Selector (Dereference (1 ∷ [])) (more_of-Selector (Field 1 0) (more_of-Selector (Dereference []) (more_of-Selector (Field 0 0) end_of-Selector)))))))) (record { form = (Load (Part' b (Local 1) Int (vec2 v) (more_of-Selector (Dereference (1 ∷ 2 ∷ [])) (more_of-Selector (Field 0 0) end_of-Selector)))); kind = Int })) ∷ (Assign (Part' b (Parameter 0) (PointerKind 0) (vec2 v) (more_of-Selector (Narrow 1) (more_of-Selector (Field 1 0) end_of-Selector))) (record { form = (Guard' b (Whole (Local 0) (PointerKind 0)) (1 ∷ [])); kind = (PointerKind 1) })) ∷ (Assign (Part' b (Parameter 0) (PointerKind 0) (vec4 v) (more_of-Selector (Narrow 1) (more_of-Selector (Narrow 2) (more_of-Selector (Field 2 0) (more_of-Selector (Index (Some 3) 3 (Literal 1)) end_of-Selector))))) (record { form = (Literal 0); kind = Nil })) ∷ (If' (vec1 v) (more_of-Branch (record { form = (IsPointer' b (Load (Whole (Local 1) (PointerKind 0))) 2); kind = BoolKind }) (vec1 v) (more_of-Stmt (Assign (Whole (Local 1) (PointerKind 0)) (record { form = (Load (Part' b (Local 1) (PointerKind 0) (vec3 v) (more_of-Selector (Dereference (2 ∷ [])) (more_of-Selector (Field 2 0) (more_of-Selector (Index (Some 3) 3 (Literal 2)) end_of-Selector))))); kind = (PointerKind 0) })) end_of-Stmt) end_of-Branch) (vec0 v) end_of-Stmt) ∷ (CasePointer' (record { form = (Load (Whole (Local 1) (PointerKind 0))); kind = (PointerKind 0) }) (vec2 v) (more_of-TypePart 2 (vec1 v) (more_of-Stmt (Assign (Part' b (Local 1) (PointerKind 0) (vec3 v) (more_of-Selector (Dereference (2 ∷ [])) (more_of-Selector (Field 2 0) (more_of-Selector (Index (Some 3) 3 (Literal 0)) end_of-Selector)))) (record { form = (Guard' b (Whole (Local 1) (PointerKind 0)) (2 ∷ [])); kind = (PointerKind 2) })) end_of-Stmt) (more_of-TypePart 1 (vec1 v) (more_of-Stmt (Assign (Part' b (Local 1) Char (vec4 v) (more_of-Selector (Dereference (1 ∷ [])) (more_of-Selector (Field 1 0) (more_of-Selector (Dereference []) (more_of-Selector (Field 0 1) end_of-Selector))))) (record { form = (Literal 120); kind = Char })) end_of-Stmt) end_of-TypePart))) ∷ (CaseParameter' (Whole (Parameter 0) (RecordKind 0)) (vec2 v) (more_of-TypePart 2 (vec1 v) (more_of-Stmt (Assign (Part' b (Parameter 0) Char (vec2 v) (more_of-Selector (Narrow 2) (more_of-Selector (Field 1 1) end_of-Selector))) (record { form = (Literal 121); kind = Char })) end_of-Stmt) (more_of-TypePart 0 (vec1 v) (more_of-Stmt (Assign (Part' b (Parameter 0) Int (vec2 v) (more_of-Selector (Narrow 0) (more_of-Selector (Field 0 0) end_of-Selector))) (record { form = (Literal 4); kind = Int })) end_of-Stmt) end_of-TypePart))) ∷ []); answer = (Some (record { form = (Chain' b (Load (Part' b (Local 1) Int (vec2 v) (more_of-Selector (Dereference []) (more_of-Selector (Field 0 0) end_of-Selector)))) (vec1 v) (more_of-Link (Operate Add (Load (Part' b (Parameter 0) Int (vec1 v) (more_of-Selector (Field 0 0) end_of-Selector)))) end_of-Link)); kind = Int })) } ∷ record { «module» = 0; line = 1; is_body = true; formals = []; result = 6; locals = []; texts = []; body = ((New (Whole (Global 0 0) (PointerKind 0))) ∷ (New (Part' b (Global 0 2) (PointerKind 0) (vec1 v) (more_of-Selector (Index (Some 2) 3 (Load (Whole (Global 0 1) Int))) end_of-Selector))) ∷ (Assign (Part' b (Global 0 2) Int (vec3 v) (more_of-Selector (Index (Some 2) 3 (Literal 1)) (more_of-Selector (Dereference []) (more_of-Selector (Field 0 0) end_of-Selector)))) (record { form = (Call' b (Direct' 0 (vec2 v) (more_of-Argument (ByRecord (Part' b (Global 0 2) (RecordKind 0) (vec2 v) (more_of-Selector (Index (Some 2) 3 (Literal 0)) (more_of-Selector (Dereference []) end_of-Selector)))) (more_of-Argument (ByValue (Load (Whole (Global 0 0) (PointerKind 0)))) end_of-Argument)))); kind = Int })) ∷ (Assign (Part' b (Global 0 0) Int (vec6 v) (more_of-Selector (Dereference (1 ∷ [])) (more_of-Selector (Field 1 0) (more_of-Selector (Dereference (1 ∷ [])) (more_of-Selector (Field 1 0) (more_of-Selector (Dereference []) (more_of-Selector (Field 0 0) end_of-Selector))))))) (record { form = (Literal 7); kind = Int })) ∷ []); answer = None } ∷ []); imports_in = false }

abbrev guarded_procs : List Proc
guarded_procs = ((proc ((block (0 ∷ 1 ∷ 2 ∷ []) ((op (ConstOp 0) [] (Some 3)) ∷ (op NotNilOp (2 ∷ []) None) ∷ (op (PlusOp 8) (2 ∷ []) (Some 4)) ∷ (op (ConstOp 1) [] (Some 5)) ∷ (op StoreOp (4 ∷ 5 ∷ []) None) ∷ (op (GlobalOp 168) [] (Some 6)) ∷ (op (GuardPtrOp 1) (2 ∷ 6 ∷ []) None) ∷ (op NotNilOp (2 ∷ []) None) ∷ (op (PlusOp 24) (2 ∷ []) (Some 7)) ∷ (op StoreOp (7 ∷ 2 ∷ []) None) ∷ (op (GlobalOp 296) [] (Some 8)) ∷ (op (GuardPtrOp 2) (2 ∷ 8 ∷ []) None) ∷ (op NotNilOp (2 ∷ []) None) ∷ (op (PlusOp 40) (2 ∷ []) (Some 9)) ∷ (op (GlobalOp 16) [] (Some 10)) ∷ (op LoadOp (10 ∷ []) (Some 11)) ∷ (op (ConstOp 3) [] (Some 12)) ∷ (op BelowOp (11 ∷ 12 ∷ []) None) ∷ (op (ConstOp 8) [] (Some 13)) ∷ (op MulAddOp (11 ∷ 13 ∷ 9 ∷ []) (Some 14)) ∷ (op LoadOp (14 ∷ []) (Some 15)) ∷ (op (GlobalOp 168) [] (Some 16)) ∷ (op (GuardPtrOp 1) (15 ∷ 16 ∷ []) None) ∷ (op NotNilOp (15 ∷ []) None) ∷ (op (PlusOp 24) (15 ∷ []) (Some 17)) ∷ (op LoadOp (17 ∷ []) (Some 18)) ∷ (op NotNilOp (18 ∷ []) None) ∷ (op (PlusOp 8) (18 ∷ []) (Some 19)) ∷ (op (GlobalOp 168) [] (Some 20)) ∷ (op (GuardPtrOp 1) (2 ∷ 20 ∷ []) None) ∷ (op (GlobalOp 296) [] (Some 21)) ∷ (op (GuardPtrOp 2) (2 ∷ 21 ∷ []) None) ∷ (op NotNilOp (2 ∷ []) None) ∷ (op (PlusOp 8) (2 ∷ []) (Some 22)) ∷ (op LoadOp (22 ∷ []) (Some 23)) ∷ (op StoreOp (19 ∷ 23 ∷ []) None) ∷ (op (GlobalOp 168) [] (Some 24)) ∷ (op (GuardTagOp 1) (1 ∷ 24 ∷ []) None) ∷ (op (PlusOp 16) (0 ∷ []) (Some 25)) ∷ (op (GlobalOp 168) [] (Some 26)) ∷ (op (GuardPtrOp 1) (2 ∷ 26 ∷ []) None) ∷ (op StoreOp (25 ∷ 2 ∷ []) None) ∷ (op (GlobalOp 168) [] (Some 27)) ∷ (op (GuardTagOp 1) (1 ∷ 27 ∷ []) None) ∷ (op (GlobalOp 296) [] (Some 28)) ∷ (op (GuardTagOp 2) (1 ∷ 28 ∷ []) None) ∷ (op (PlusOp 32) (0 ∷ []) (Some 29)) ∷ (op (ConstOp 1) [] (Some 30)) ∷ (op (ConstOp 3) [] (Some 31)) ∷ (op BelowOp (30 ∷ 31 ∷ []) None) ∷ (op (ConstOp 8) [] (Some 32)) ∷ (op MulAddOp (30 ∷ 32 ∷ 29 ∷ []) (Some 33)) ∷ (op (ConstOp 0) [] (Some 34)) ∷ (op StoreOp (33 ∷ 34 ∷ []) None) ∷ (op (GlobalOp 296) [] (Some 35)) ∷ (op (IsPtrOp 2) (2 ∷ 35 ∷ []) (Some 36)) ∷ []) (Nonzero 36 1 2) 1048576 None) ∷ (block [] ((op (GlobalOp 296) [] (Some 37)) ∷ (op (GuardPtrOp 2) (2 ∷ 37 ∷ []) None) ∷ (op NotNilOp (2 ∷ []) None) ∷ (op (PlusOp 40) (2 ∷ []) (Some 38)) ∷ (op (ConstOp 2) [] (Some 39)) ∷ (op (ConstOp 3) [] (Some 40)) ∷ (op BelowOp (39 ∷ 40 ∷ []) None) ∷ (op (ConstOp 8) [] (Some 41)) ∷ (op MulAddOp (39 ∷ 41 ∷ 38 ∷ []) (Some 42)) ∷ (op LoadOp (42 ∷ []) (Some 43)) ∷ []) (Jump 3 (43 ∷ [])) 524288 None) ∷ (block [] [] (Jump 3 (2 ∷ [])) 524288 None) ∷ (block (44 ∷ []) ((op (GlobalOp 296) [] (Some 45)) ∷ (op (IsPtrOp 2) (44 ∷ 45 ∷ []) (Some 46)) ∷ []) (Nonzero 46 6 4) 1048576 None) ∷ (block [] ((op (GlobalOp 168) [] (Some 47)) ∷ (op (IsPtrOp 1) (44 ∷ 47 ∷ []) (Some 48)) ∷ []) (Nonzero 48 7 5) 1048576 None) ∷ (block [] [] (Jump 8 []) 524288 None) ∷ (block [] ((op (GlobalOp 296) [] (Some 49)) ∷ (op (GuardPtrOp 2) (44 ∷ 49 ∷ []) None) ∷ (op NotNilOp (44 ∷ []) None) ∷ (op (PlusOp 40) (44 ∷ []) (Some 50)) ∷ (op (ConstOp 0) [] (Some 51)) ∷ (op (ConstOp 3) [] (Some 52)) ∷ (op BelowOp (51 ∷ 52 ∷ []) None) ∷ (op (ConstOp 8) [] (Some 53)) ∷ (op MulAddOp (51 ∷ 53 ∷ 50 ∷ []) (Some 54)) ∷ (op (GlobalOp 296) [] (Some 55)) ∷ (op (GuardPtrOp 2) (44 ∷ 55 ∷ []) None) ∷ (op StoreOp (54 ∷ 44 ∷ []) None) ∷ []) (Jump 8 []) 524288 None) ∷ (block [] ((op (GlobalOp 168) [] (Some 56)) ∷ (op (GuardPtrOp 1) (44 ∷ 56 ∷ []) None) ∷ (op NotNilOp (44 ∷ []) None) ∷ (op (PlusOp 24) (44 ∷ []) (Some 57)) ∷ (op LoadOp (57 ∷ []) (Some 58)) ∷ (op NotNilOp (58 ∷ []) None) ∷ (op (PlusOp 16) (58 ∷ []) (Some 59)) ∷ (op (ConstOp 120) [] (Some 60)) ∷ (op StoreByteOp (59 ∷ 60 ∷ []) None) ∷ []) (Jump 8 []) 524288 None) ∷ (block [] ((op (GlobalOp 296) [] (Some 61)) ∷ (op (IsTagOp 2) (1 ∷ 61 ∷ []) (Some 62)) ∷ []) (Nonzero 62 11 9) 1048576 None) ∷ (block [] ((op (GlobalOp 40) [] (Some 63)) ∷ (op (IsTagOp 0) (1 ∷ 63 ∷ []) (Some 64)) ∷ []) (Nonzero 64 12 10) 1048576 None) ∷ (block [] [] (Jump 13 []) 524288 None) ∷ (block [] ((op (GlobalOp 296) [] (Some 65)) ∷ (op (GuardTagOp 2) (1 ∷ 65 ∷ []) None) ∷ (op (PlusOp 24) (0 ∷ []) (Some 66)) ∷ (op (ConstOp 121) [] (Some 67)) ∷ (op StoreByteOp (66 ∷ 67 ∷ []) None) ∷ []) (Jump 13 []) 524288 None) ∷ (block [] ((op (GlobalOp 40) [] (Some 68)) ∷ (op (GuardTagOp 0) (1 ∷ 68 ∷ []) None) ∷ (op (ConstOp 4) [] (Some 69)) ∷ (op StoreOp (0 ∷ 69 ∷ []) None) ∷ []) (Jump 13 []) 524288 None) ∷ (block [] ((op NotNilOp (44 ∷ []) None) ∷ (op (PlusOp 8) (44 ∷ []) (Some 70)) ∷ (op LoadOp (70 ∷ []) (Some 71)) ∷ (op LoadOp (0 ∷ []) (Some 72)) ∷ (op AddOp (71 ∷ 72 ∷ []) (Some 73)) ∷ []) (Return (Some 73)) 1048576 None) ∷ []) 74 3 true 2 0) ∷ (proc ((block [] ((op (GlobalOp 8) [] (Some 0)) ∷ (op (ConstOp 3) [] (Some 1)) ∷ (op (ConstOp 24) [] (Some 2)) ∷ (op (GlobalOp 40) [] (Some 3)) ∷ (op NewOp (1 ∷ 2 ∷ 3 ∷ []) (Some 4)) ∷ (op StoreOp (0 ∷ 4 ∷ []) None) ∷ (op (GlobalOp 24) [] (Some 5)) ∷ (op (GlobalOp 16) [] (Some 6)) ∷ (op LoadOp (6 ∷ []) (Some 7)) ∷ (op (ConstOp 2) [] (Some 8)) ∷ (op BelowOp (7 ∷ 8 ∷ []) None) ∷ (op (ConstOp 8) [] (Some 9)) ∷ (op MulAddOp (7 ∷ 9 ∷ 5 ∷ []) (Some 10)) ∷ (op (ConstOp 3) [] (Some 11)) ∷ (op (ConstOp 24) [] (Some 12)) ∷ (op (GlobalOp 40) [] (Some 13)) ∷ (op NewOp (11 ∷ 12 ∷ 13 ∷ []) (Some 14)) ∷ (op StoreOp (10 ∷ 14 ∷ []) None) ∷ (op (GlobalOp 24) [] (Some 15)) ∷ (op (ConstOp 1) [] (Some 16)) ∷ (op (ConstOp 2) [] (Some 17)) ∷ (op BelowOp (16 ∷ 17 ∷ []) None) ∷ (op (ConstOp 8) [] (Some 18)) ∷ (op MulAddOp (16 ∷ 18 ∷ 15 ∷ []) (Some 19)) ∷ (op LoadOp (19 ∷ []) (Some 20)) ∷ (op NotNilOp (20 ∷ []) None) ∷ (op (PlusOp 8) (20 ∷ []) (Some 21)) ∷ (op (GlobalOp 24) [] (Some 22)) ∷ (op (ConstOp 0) [] (Some 23)) ∷ (op (ConstOp 2) [] (Some 24)) ∷ (op BelowOp (23 ∷ 24 ∷ []) None) ∷ (op (ConstOp 8) [] (Some 25)) ∷ (op MulAddOp (23 ∷ 25 ∷ 22 ∷ []) (Some 26)) ∷ (op LoadOp (26 ∷ []) (Some 27)) ∷ (op NotNilOp (27 ∷ []) None) ∷ (op (PlusOp 8) (27 ∷ []) (Some 28)) ∷ (op LoadOp (27 ∷ []) (Some 29)) ∷ (op (GlobalOp 8) [] (Some 30)) ∷ (op LoadOp (30 ∷ []) (Some 31)) ∷ (op (CallOp 0) (28 ∷ 29 ∷ 31 ∷ []) (Some 32)) ∷ (op StoreOp (21 ∷ 32 ∷ []) None) ∷ (op (GlobalOp 8) [] (Some 33)) ∷ (op LoadOp (33 ∷ []) (Some 34)) ∷ (op (GlobalOp 168) [] (Some 35)) ∷ (op (GuardPtrOp 1) (34 ∷ 35 ∷ []) None) ∷ (op NotNilOp (34 ∷ []) None) ∷ (op (PlusOp 24) (34 ∷ []) (Some 36)) ∷ (op LoadOp (36 ∷ []) (Some 37)) ∷ (op (GlobalOp 168) [] (Some 38)) ∷ (op (GuardPtrOp 1) (37 ∷ 38 ∷ []) None) ∷ (op NotNilOp (37 ∷ []) None) ∷ (op (PlusOp 24) (37 ∷ []) (Some 39)) ∷ (op LoadOp (39 ∷ []) (Some 40)) ∷ (op NotNilOp (40 ∷ []) None) ∷ (op (PlusOp 8) (40 ∷ []) (Some 41)) ∷ (op (ConstOp 7) [] (Some 42)) ∷ (op StoreOp (41 ∷ 42 ∷ []) None) ∷ []) (Return None) 1048576 None) ∷ []) 43 0 false 0 0) ∷ [])

pub guarded_low : (b : Box (Unit {0}) Heap) (v : Vec (Unit {0}) Heap) → lowered (guarded b v) ≡ guarded_procs
unfolding data_tree record_row fields_before
guarded_low b v = refl

pub guarded_constants : (b : Box (Unit {0}) Heap) (v : Vec (Unit {0}) Heap) → constants (guarded b v) (packed (guarded b v).types) 268435456 ≡ (40 ∷ 0 ∷ 0 ∷ 16 ∷ 0 ∷ 0 ∷ 0 ∷ 0 ∷ 0 ∷ 0 ∷ 0 ∷ 0 ∷ 0 ∷ 0 ∷ 0 ∷ 0 ∷ 0 ∷ 0 ∷ 0 ∷ 0 ∷ 0 ∷ 0 ∷ 0 ∷ 0 ∷ 0 ∷ 0 ∷ 0 ∷ 0 ∷ 0 ∷ 0 ∷ 0 ∷ 0 ∷ 0 ∷ 0 ∷ 0 ∷ 0 ∷ 0 ∷ 0 ∷ 0 ∷ 0 ∷ 0 ∷ 0 ∷ 0 ∷ 0 ∷ 0 ∷ 0 ∷ 0 ∷ 0 ∷ 0 ∷ 0 ∷ 0 ∷ 0 ∷ 0 ∷ 0 ∷ 0 ∷ 0 ∷ 0 ∷ 0 ∷ 0 ∷ 0 ∷ 0 ∷ 0 ∷ 0 ∷ 0 ∷ 0 ∷ 0 ∷ 0 ∷ 0 ∷ 0 ∷ 0 ∷ 0 ∷ 0 ∷ 0 ∷ 0 ∷ 0 ∷ 0 ∷ 0 ∷ 0 ∷ 0 ∷ 0 ∷ 0 ∷ 0 ∷ 0 ∷ 0 ∷ 0 ∷ 0 ∷ 0 ∷ 0 ∷ 0 ∷ 0 ∷ 0 ∷ 0 ∷ 0 ∷ 0 ∷ 0 ∷ 0 ∷ 0 ∷ 0 ∷ 0 ∷ 0 ∷ 0 ∷ 0 ∷ 0 ∷ 0 ∷ 0 ∷ 0 ∷ 0 ∷ 0 ∷ 0 ∷ 0 ∷ 0 ∷ 0 ∷ 0 ∷ 0 ∷ 0 ∷ 0 ∷ 0 ∷ 0 ∷ 0 ∷ 0 ∷ 0 ∷ 0 ∷ 0 ∷ 0 ∷ 0 ∷ 0 ∷ 0 ∷ 0 ∷ 40 ∷ 0 ∷ 0 ∷ 16 ∷ 0 ∷ 0 ∷ 0 ∷ 0 ∷ 168 ∷ 0 ∷ 0 ∷ 16 ∷ 0 ∷ 0 ∷ 0 ∷ 0 ∷ 0 ∷ 0 ∷ 0 ∷ 0 ∷ 0 ∷ 0 ∷ 0 ∷ 0 ∷ 0 ∷ 0 ∷ 0 ∷ 0 ∷ 0 ∷ 0 ∷ 0 ∷ 0 ∷ 0 ∷ 0 ∷ 0 ∷ 0 ∷ 0 ∷ 0 ∷ 0 ∷ 0 ∷ 0 ∷ 0 ∷ 0 ∷ 0 ∷ 0 ∷ 0 ∷ 0 ∷ 0 ∷ 0 ∷ 0 ∷ 0 ∷ 0 ∷ 0 ∷ 0 ∷ 0 ∷ 0 ∷ 0 ∷ 0 ∷ 0 ∷ 0 ∷ 0 ∷ 0 ∷ 0 ∷ 0 ∷ 0 ∷ 0 ∷ 0 ∷ 0 ∷ 0 ∷ 0 ∷ 0 ∷ 0 ∷ 0 ∷ 0 ∷ 0 ∷ 0 ∷ 0 ∷ 0 ∷ 0 ∷ 0 ∷ 0 ∷ 0 ∷ 0 ∷ 0 ∷ 0 ∷ 0 ∷ 0 ∷ 0 ∷ 0 ∷ 0 ∷ 0 ∷ 0 ∷ 0 ∷ 0 ∷ 0 ∷ 0 ∷ 0 ∷ 0 ∷ 0 ∷ 0 ∷ 0 ∷ 0 ∷ 0 ∷ 0 ∷ 0 ∷ 0 ∷ 0 ∷ 0 ∷ 0 ∷ 0 ∷ 0 ∷ 0 ∷ 0 ∷ 0 ∷ 0 ∷ 0 ∷ 0 ∷ 0 ∷ 0 ∷ 0 ∷ 0 ∷ 0 ∷ 0 ∷ 0 ∷ 0 ∷ 0 ∷ 0 ∷ 0 ∷ 40 ∷ 0 ∷ 0 ∷ 16 ∷ 0 ∷ 0 ∷ 0 ∷ 0 ∷ 168 ∷ 0 ∷ 0 ∷ 16 ∷ 0 ∷ 0 ∷ 0 ∷ 0 ∷ 40 ∷ 1 ∷ 0 ∷ 16 ∷ 0 ∷ 0 ∷ 0 ∷ 0 ∷ 0 ∷ 0 ∷ 0 ∷ 0 ∷ 0 ∷ 0 ∷ 0 ∷ 0 ∷ 0 ∷ 0 ∷ 0 ∷ 0 ∷ 0 ∷ 0 ∷ 0 ∷ 0 ∷ 0 ∷ 0 ∷ 0 ∷ 0 ∷ 0 ∷ 0 ∷ 0 ∷ 0 ∷ 0 ∷ 0 ∷ 0 ∷ 0 ∷ 0 ∷ 0 ∷ 0 ∷ 0 ∷ 0 ∷ 0 ∷ 0 ∷ 0 ∷ 0 ∷ 0 ∷ 0 ∷ 0 ∷ 0 ∷ 0 ∷ 0 ∷ 0 ∷ 0 ∷ 0 ∷ 0 ∷ 0 ∷ 0 ∷ 0 ∷ 0 ∷ 0 ∷ 0 ∷ 0 ∷ 0 ∷ 0 ∷ 0 ∷ 0 ∷ 0 ∷ 0 ∷ 0 ∷ 0 ∷ 0 ∷ 0 ∷ 0 ∷ 0 ∷ 0 ∷ 0 ∷ 0 ∷ 0 ∷ 0 ∷ 0 ∷ 0 ∷ 0 ∷ 0 ∷ 0 ∷ 0 ∷ 0 ∷ 0 ∷ 0 ∷ 0 ∷ 0 ∷ 0 ∷ 0 ∷ 0 ∷ 0 ∷ 0 ∷ 0 ∷ 0 ∷ 0 ∷ 0 ∷ 0 ∷ 0 ∷ 0 ∷ 0 ∷ 0 ∷ 0 ∷ 0 ∷ 0 ∷ 0 ∷ 0 ∷ 0 ∷ 0 ∷ 0 ∷ [])
unfolding data_tree record_row fields_before
guarded_constants b v = refl
