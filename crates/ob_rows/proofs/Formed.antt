-- Worked programs: their checked trees, and what holds of them. Written by bench/checked_rows.py from their texts.
use Rattle.std.specs.Prelude.{◌≡◌, [], ◌∷◌, true, false, Some, None, pos, negsuc, Vec, Box}
use Rattle.std.proofs.Common.{refl, arith}
use Rattle.std.specs.declared.alloc.Global.{Global as Heap}
use Rattle.ob_types.specs.WellFormed.{well_formed}
use Rattle.ob_types.specs.declared.types.TypeKind.TheVariants.{Int, Char, Nil, Array, Nothing}
use Rattle.ob_types.specs.declared.types.TypeKind.TheVariants.{Bool as BoolKind, Byte as ByteKind, Set as SetKind, Text as TextKind, Record as RecordKind, Pointer as PointerKind, Procedure as ProcedureKind}
use Rattle.ob_types.specs.declared.types.Mode.TheVariants.{Place}
use Rattle.ob_types.specs.declared.types.Mode.TheVariants.{Value as OfValue, Record as OfRecord, Open as OfOpen}
use Rattle.ob_types.specs.declared.tree.Unary.TheVariants.{Negate, Not, Abs, Odd}
use Rattle.ob_types.specs.declared.tree.Binary.TheVariants.{Add, Subtract, Multiply, Div, Mod, Difference, Subset, Superset, Lsl, Asr, Ror}
use Rattle.ob_types.specs.declared.tree.Relation.TheVariants.{Equal, Unequal, Less, Greater}
use Rattle.ob_types.specs.declared.tree.Base.TheVariants.{Done, Global, Local, Parameter, Text}
use Rattle.ob_types.specs.declared.tree.Expr.{Literal, Routine, Load, Guard', Unary', Chain', Compare', CompareTexts', In', IsPointer', IsParameter, Byte', Length, Call', end_of-Link, more_of-Link}
use Rattle.ob_types.specs.declared.tree.Link.{Operate, And, Or, Element, Elements'}
use Rattle.ob_types.specs.declared.tree.Designator.{Whole, Part', end_of-Selector, more_of-Selector}
use Rattle.ob_types.specs.declared.tree.Selector.{Index, Field, Dereference, Narrow}
use Rattle.ob_types.specs.declared.tree.Call.{Direct', Indirect', end_of-Argument, more_of-Argument}
use Rattle.ob_types.specs.declared.tree.Argument.{ByValue, ByPlace, ByRecord, ByOpen}
use Rattle.ob_types.specs.declared.statements.Label.TheVariants.{One, Range}
use Rattle.ob_types.specs.declared.statements.Stmt.{Assign, CopyArray, CopyRecord, Increase, Include, Exclude, New, Assert, OutChar, OutInt, OutString, OutLn, InChar, If', While', Repeat', For', Case', CasePointer', CaseParameter', end_of-Stmt, more_of-Stmt, end_of-Branch, more_of-Branch, end_of-CasePart, more_of-CasePart, end_of-TypePart, more_of-TypePart}
use Rattle.ob_types.specs.declared.statements.Stmt.{Call as Invoke}
use Rattle.ob_types.specs.declared.program.Program.{Program}
use Rattle.ob_types.specs.Trees.{data_tree, record_row}

-- the outside of a box and of a vector
abbrev Outside : Type 0 → Type 0
Outside A = Box (Unit {0}) Heap → Vec (Unit {0}) Heap → A

abbrev vec0 : Vec (Unit {0}) Heap → Vec (Unit {0}) Heap
vec0 v = record { ptr = v.ptr; len = 0; cap = 0; alloc = v.alloc; items = []; ok = (refl, omega arith); small = omega arith }

abbrev vec1 : Vec (Unit {0}) Heap → Vec (Unit {0}) Heap
vec1 v = record { ptr = v.ptr; len = 1; cap = 1; alloc = v.alloc; items = tt ∷ []; ok = (refl, omega arith); small = omega arith }

abbrev vec2 : Vec (Unit {0}) Heap → Vec (Unit {0}) Heap
vec2 v = record { ptr = v.ptr; len = 2; cap = 2; alloc = v.alloc; items = tt ∷ tt ∷ []; ok = (refl, omega arith); small = omega arith }

abbrev vec3 : Vec (Unit {0}) Heap → Vec (Unit {0}) Heap
vec3 v = record { ptr = v.ptr; len = 3; cap = 3; alloc = v.alloc; items = tt ∷ tt ∷ tt ∷ []; ok = (refl, omega arith); small = omega arith }

abbrev vec4 : Vec (Unit {0}) Heap → Vec (Unit {0}) Heap
vec4 v = record { ptr = v.ptr; len = 4; cap = 4; alloc = v.alloc; items = tt ∷ tt ∷ tt ∷ tt ∷ []; ok = (refl, omega arith); small = omega arith }

abbrev vec7 : Vec (Unit {0}) Heap → Vec (Unit {0}) Heap
vec7 v = record { ptr = v.ptr; len = 7; cap = 7; alloc = v.alloc; items = tt ∷ tt ∷ tt ∷ tt ∷ tt ∷ tt ∷ tt ∷ []; ok = (refl, omega arith); small = omega arith }

-- MODULE M; IMPORT Out; BEGIN Out.Int(6*7, 0); Out.Ln END M.
abbrev first : Outside Program
first b v = record { types = record { kinds = (Nothing ∷ []); records = []; signatures = [] }; modules = (record { name = []; objects = []; variables = []; body = 0 } ∷ []); procedures = (record { «module» = 0; line = 1; is_body = true; formals = []; result = 0; locals = []; texts = []; body = ((OutInt (record { form = (Chain' b (Literal 6) (vec1 v) (more_of-Link (Operate Multiply (Literal 7)) end_of-Link)); kind = Int }) (record { form = (Literal 0); kind = Int })) ∷ OutLn ∷ []); answer = None } ∷ []); imports_in = false }

pub first_formed : (b : Box (Unit {0}) Heap) (v : Vec (Unit {0}) Heap) → well_formed (first b v) ≡ true
unfolding data_tree record_row
first_formed b v = refl

-- MODULE M; IMPORT Out; BEGIN Out.Int((-7) DIV 2, 0); Out.Char('' ''); Out.Int((-7) MOD 2, 0) END M.
abbrev division : Outside Program
division b v = record { types = record { kinds = (Nothing ∷ []); records = []; signatures = [] }; modules = (record { name = []; objects = []; variables = []; body = 0 } ∷ []); procedures = (record { «module» = 0; line = 1; is_body = true; formals = []; result = 0; locals = []; texts = []; body = ((OutInt (record { form = (Chain' b (Unary' Negate b (Literal 7)) (vec1 v) (more_of-Link (Operate Div (Literal 2)) end_of-Link)); kind = Int }) (record { form = (Literal 0); kind = Int })) ∷ (OutChar (record { form = (Literal 32); kind = Char })) ∷ (OutInt (record { form = (Chain' b (Unary' Negate b (Literal 7)) (vec1 v) (more_of-Link (Operate Mod (Literal 2)) end_of-Link)); kind = Int }) (record { form = (Literal 0); kind = Int })) ∷ []); answer = None } ∷ []); imports_in = false }

pub division_formed : (b : Box (Unit {0}) Heap) (v : Vec (Unit {0}) Heap) → well_formed (division b v) ≡ true
unfolding data_tree record_row
division_formed b v = refl

-- MODULE M; IMPORT Out; BEGIN Out.Int(7 DIV (1 - 2), 0) END M.
abbrev divisor : Outside Program
divisor b v = record { types = record { kinds = (Nothing ∷ []); records = []; signatures = [] }; modules = (record { name = []; objects = []; variables = []; body = 0 } ∷ []); procedures = (record { «module» = 0; line = 1; is_body = true; formals = []; result = 0; locals = []; texts = []; body = ((OutInt (record { form = (Chain' b (Literal 7) (vec1 v) (more_of-Link (Operate Div (Chain' b (Literal 1) (vec1 v) (more_of-Link (Operate Subtract (Literal 2)) end_of-Link))) end_of-Link)); kind = Int }) (record { form = (Literal 0); kind = Int })) ∷ []); answer = None } ∷ []); imports_in = false }

pub divisor_formed : (b : Box (Unit {0}) Heap) (v : Vec (Unit {0}) Heap) → well_formed (divisor b v) ≡ true
unfolding data_tree record_row
divisor_formed b v = refl

-- MODULE S; IMPORT Out; PROCEDURE P; VAR a, b, t, i: INTEGER; BEGIN a := 1; b := 2; i := 0; WHILE i < 3 DO t := a; a := b; b := t; i := i + 1 END; Out.Int(a, 0); Out.Int(b, 0) END P; BEGIN P END S.
abbrev swap : Outside Program
swap b v = record { types = record { kinds = (Nothing ∷ Int ∷ []); records = []; signatures = [] }; modules = (record { name = []; objects = []; variables = []; body = 1 } ∷ []); procedures = (record { «module» = 0; line = 1; is_body = false; formals = []; result = 0; locals = (1 ∷ 1 ∷ 1 ∷ 1 ∷ []); texts = []; body = ((Assign (Whole (Local 0) Int) (record { form = (Literal 1); kind = Int })) ∷ (Assign (Whole (Local 1) Int) (record { form = (Literal 2); kind = Int })) ∷ (Assign (Whole (Local 3) Int) (record { form = (Literal 0); kind = Int })) ∷ (While' (vec1 v) (more_of-Branch (record { form = (Compare' Less b (Load (Whole (Local 3) Int)) b (Literal 3)); kind = BoolKind }) (vec4 v) (more_of-Stmt (Assign (Whole (Local 2) Int) (record { form = (Load (Whole (Local 0) Int)); kind = Int })) (more_of-Stmt (Assign (Whole (Local 0) Int) (record { form = (Load (Whole (Local 1) Int)); kind = Int })) (more_of-Stmt (Assign (Whole (Local 1) Int) (record { form = (Load (Whole (Local 2) Int)); kind = Int })) (more_of-Stmt (Assign (Whole (Local 3) Int) (record { form = (Chain' b (Load (Whole (Local 3) Int)) (vec1 v) (more_of-Link (Operate Add (Literal 1)) end_of-Link)); kind = Int })) end_of-Stmt)))) end_of-Branch)) ∷ (OutInt (record { form = (Load (Whole (Local 0) Int)); kind = Int }) (record { form = (Literal 0); kind = Int })) ∷ (OutInt (record { form = (Load (Whole (Local 1) Int)); kind = Int }) (record { form = (Literal 0); kind = Int })) ∷ []); answer = None } ∷ record { «module» = 0; line = 1; is_body = true; formals = []; result = 0; locals = []; texts = []; body = ((Invoke (Direct' 0 (vec0 v) end_of-Argument)) ∷ []); answer = None } ∷ []); imports_in = false }

pub swap_formed : (b : Box (Unit {0}) Heap) (v : Vec (Unit {0}) Heap) → well_formed (swap b v) ≡ true
unfolding data_tree record_row
swap_formed b v = refl

-- MODULE M; VAR a: ARRAY 3 OF INTEGER; i: INTEGER; BEGIN i := 2; a[i] := 1; i := 3; a[i] := 1 END M.
abbrev indexes : Outside Program
indexes b v = record { types = record { kinds = (Int ∷ (Array (Some 3) 0) ∷ Nothing ∷ []); records = []; signatures = [] }; modules = (record { name = []; objects = []; variables = (1 ∷ 0 ∷ []); body = 0 } ∷ []); procedures = (record { «module» = 0; line = 1; is_body = true; formals = []; result = 2; locals = []; texts = []; body = ((Assign (Whole (Global 0 1) Int) (record { form = (Literal 2); kind = Int })) ∷ (Assign (Part' b (Global 0 0) Int (vec1 v) (more_of-Selector (Index (Some 3) 0 (Load (Whole (Global 0 1) Int))) end_of-Selector)) (record { form = (Literal 1); kind = Int })) ∷ (Assign (Whole (Global 0 1) Int) (record { form = (Literal 3); kind = Int })) ∷ (Assign (Part' b (Global 0 0) Int (vec1 v) (more_of-Selector (Index (Some 3) 0 (Load (Whole (Global 0 1) Int))) end_of-Selector)) (record { form = (Literal 1); kind = Int })) ∷ []); answer = None } ∷ []); imports_in = false }

pub indexes_formed : (b : Box (Unit {0}) Heap) (v : Vec (Unit {0}) Heap) → well_formed (indexes b v) ≡ true
unfolding data_tree record_row
indexes_formed b v = refl

-- MODULE M; VAR a: ARRAY 3 OF INTEGER; i: INTEGER; BEGIN i := -1; a[i] := 1 END M.
abbrev negative : Outside Program
negative b v = record { types = record { kinds = (Int ∷ (Array (Some 3) 0) ∷ Nothing ∷ []); records = []; signatures = [] }; modules = (record { name = []; objects = []; variables = (1 ∷ 0 ∷ []); body = 0 } ∷ []); procedures = (record { «module» = 0; line = 1; is_body = true; formals = []; result = 2; locals = []; texts = []; body = ((Assign (Whole (Global 0 1) Int) (record { form = (Unary' Negate b (Literal 1)); kind = Int })) ∷ (Assign (Part' b (Global 0 0) Int (vec1 v) (more_of-Selector (Index (Some 3) 0 (Load (Whole (Global 0 1) Int))) end_of-Selector)) (record { form = (Literal 1); kind = Int })) ∷ []); answer = None } ∷ []); imports_in = false }

pub negative_formed : (b : Box (Unit {0}) Heap) (v : Vec (Unit {0}) Heap) → well_formed (negative b v) ≡ true
unfolding data_tree record_row
negative_formed b v = refl

-- MODULE W; BEGIN WHILE TRUE DO END END W.
abbrev forever : Outside Program
forever b v = record { types = record { kinds = (Nothing ∷ []); records = []; signatures = [] }; modules = (record { name = []; objects = []; variables = []; body = 0 } ∷ []); procedures = (record { «module» = 0; line = 1; is_body = true; formals = []; result = 0; locals = []; texts = []; body = ((While' (vec1 v) (more_of-Branch (record { form = (Literal 1); kind = BoolKind }) (vec0 v) end_of-Stmt end_of-Branch)) ∷ []); answer = None } ∷ []); imports_in = false }

pub forever_formed : (b : Box (Unit {0}) Heap) (v : Vec (Unit {0}) Heap) → well_formed (forever b v) ≡ true
unfolding data_tree record_row
forever_formed b v = refl

-- MODULE D; IMPORT Out; PROCEDURE D(n: INTEGER); BEGIN IF n > 1 THEN D(n - 1) END END D; BEGIN Out.Char(''a''); D(20); Out.Char(''b'') END D.
abbrev depth : Outside Program
depth b v = record { types = record { kinds = (Int ∷ Nothing ∷ []); records = []; signatures = [] }; modules = (record { name = []; objects = []; variables = []; body = 1 } ∷ []); procedures = (record { «module» = 0; line = 1; is_body = false; formals = (record { mode = OfValue; variable = false; type_number = 0 } ∷ []); result = 1; locals = []; texts = []; body = ((If' (vec1 v) (more_of-Branch (record { form = (Compare' Greater b (Load (Whole (Local 0) Int)) b (Literal 1)); kind = BoolKind }) (vec1 v) (more_of-Stmt (Invoke (Direct' 0 (vec1 v) (more_of-Argument (ByValue (Chain' b (Load (Whole (Local 0) Int)) (vec1 v) (more_of-Link (Operate Subtract (Literal 1)) end_of-Link))) end_of-Argument))) end_of-Stmt) end_of-Branch) (vec0 v) end_of-Stmt) ∷ []); answer = None } ∷ record { «module» = 0; line = 1; is_body = true; formals = []; result = 1; locals = []; texts = []; body = ((OutChar (record { form = (Literal 97); kind = Char })) ∷ (Invoke (Direct' 0 (vec1 v) (more_of-Argument (ByValue (Literal 20)) end_of-Argument))) ∷ (OutChar (record { form = (Literal 98); kind = Char })) ∷ []); answer = None } ∷ []); imports_in = false }

pub depth_formed : (b : Box (Unit {0}) Heap) (v : Vec (Unit {0}) Heap) → well_formed (depth b v) ≡ true
unfolding data_tree record_row
depth_formed b v = refl

-- MODULE G; TYPE B = RECORD END; E = RECORD (B) x: INTEGER END; F = RECORD (E) END; PB = POINTER TO B; PE = POINTER TO E; PF = POINTER TO F; VAR p: PB; e: PE; f: PF; BEGIN ASSERT(~(p IS PE)); NEW(e); p := e; e := p(PE); NEW(f); p := f; e := p(PE); ASSERT(p IS PF); NEW(p); e := p(PE) END G.
abbrev guards : Outside Program
guards b v = record { types = record { kinds = ((RecordKind 0) ∷ (RecordKind 1) ∷ (RecordKind 2) ∷ (PointerKind 0) ∷ (PointerKind 1) ∷ (PointerKind 2) ∷ Nothing ∷ Int ∷ []); records = (record { «module» = 0; base = None; level = 0; fields = []; cells = 0; extent = record { bytes = 0; wide = false } } ∷ record { «module» = 0; base = (Some 0); level = 1; fields = (record { name = []; exported = false; type_number = 7 } ∷ []); cells = 1; extent = record { bytes = 8; wide = true } } ∷ record { «module» = 0; base = (Some 1); level = 2; fields = []; cells = 1; extent = record { bytes = 8; wide = true } } ∷ []); signatures = [] }; modules = (record { name = []; objects = []; variables = (3 ∷ 4 ∷ 5 ∷ []); body = 0 } ∷ []); procedures = (record { «module» = 0; line = 1; is_body = true; formals = []; result = 6; locals = []; texts = []; body = ((Assert (record { form = (Unary' Not b (IsPointer' b (Load (Whole (Global 0 0) (PointerKind 0))) 1)); kind = BoolKind })) ∷ (New (Whole (Global 0 1) (PointerKind 1))) ∷ (Assign (Whole (Global 0 0) (PointerKind 0)) (record { form = (Load (Whole (Global 0 1) (PointerKind 1))); kind = (PointerKind 1) })) ∷ (Assign (Whole (Global 0 1) (PointerKind 1)) (record { form = (Guard' b (Whole (Global 0 0) (PointerKind 0)) (1 ∷ [])); kind = (PointerKind 1) })) ∷ (New (Whole (Global 0 2) (PointerKind 2))) ∷ (Assign (Whole (Global 0 0) (PointerKind 0)) (record { form = (Load (Whole (Global 0 2) (PointerKind 2))); kind = (PointerKind 2) })) ∷ (Assign (Whole (Global 0 1) (PointerKind 1)) (record { form = (Guard' b (Whole (Global 0 0) (PointerKind 0)) (1 ∷ [])); kind = (PointerKind 1) })) ∷ (Assert (record { form = (IsPointer' b (Load (Whole (Global 0 0) (PointerKind 0))) 2); kind = BoolKind })) ∷ (New (Whole (Global 0 0) (PointerKind 0))) ∷ (Assign (Whole (Global 0 1) (PointerKind 1)) (record { form = (Guard' b (Whole (Global 0 0) (PointerKind 0)) (1 ∷ [])); kind = (PointerKind 1) })) ∷ []); answer = None } ∷ []); imports_in = false }

pub guards_formed : (b : Box (Unit {0}) Heap) (v : Vec (Unit {0}) Heap) → well_formed (guards b v) ≡ true
unfolding data_tree record_row
guards_formed b v = refl

-- MODULE G; TYPE B = RECORD END; E = RECORD (B) x: INTEGER END; PB = POINTER TO B; PE = POINTER TO E; VAR p: PB; e: PE; BEGIN e := p(PE) END G.
abbrev nilguard : Outside Program
nilguard b v = record { types = record { kinds = ((RecordKind 0) ∷ (RecordKind 1) ∷ (PointerKind 0) ∷ (PointerKind 1) ∷ Nothing ∷ Int ∷ []); records = (record { «module» = 0; base = None; level = 0; fields = []; cells = 0; extent = record { bytes = 0; wide = false } } ∷ record { «module» = 0; base = (Some 0); level = 1; fields = (record { name = []; exported = false; type_number = 5 } ∷ []); cells = 1; extent = record { bytes = 8; wide = true } } ∷ []); signatures = [] }; modules = (record { name = []; objects = []; variables = (2 ∷ 3 ∷ []); body = 0 } ∷ []); procedures = (record { «module» = 0; line = 1; is_body = true; formals = []; result = 4; locals = []; texts = []; body = ((Assign (Whole (Global 0 1) (PointerKind 1)) (record { form = (Guard' b (Whole (Global 0 0) (PointerKind 0)) (1 ∷ [])); kind = (PointerKind 1) })) ∷ []); answer = None } ∷ []); imports_in = false }

pub nilguard_formed : (b : Box (Unit {0}) Heap) (v : Vec (Unit {0}) Heap) → well_formed (nilguard b v) ≡ true
unfolding data_tree record_row
nilguard_formed b v = refl

-- MODULE M; IMPORT Out; BEGIN Out.Int(0FFFFFFFFFFFFFFFFH, 0); Out.Int(42, 5); Out.Char(41X); Out.Int(ORD(''0''), 0) END M.
abbrev widths : Outside Program
widths b v = record { types = record { kinds = (Nothing ∷ []); records = []; signatures = [] }; modules = (record { name = []; objects = []; variables = []; body = 0 } ∷ []); procedures = (record { «module» = 0; line = 1; is_body = true; formals = []; result = 0; locals = []; texts = []; body = ((OutInt (record { form = (Literal 18446744073709551615); kind = Int }) (record { form = (Literal 0); kind = Int })) ∷ (OutInt (record { form = (Literal 42); kind = Int }) (record { form = (Literal 5); kind = Int })) ∷ (OutChar (record { form = (Literal 65); kind = Char })) ∷ (OutInt (record { form = (Literal 48); kind = Int }) (record { form = (Literal 0); kind = Int })) ∷ []); answer = None } ∷ []); imports_in = false }

pub widths_formed : (b : Box (Unit {0}) Heap) (v : Vec (Unit {0}) Heap) → well_formed (widths b v) ≡ true
unfolding data_tree record_row
widths_formed b v = refl

-- MODULE K; IMPORT In, Out; VAR c: CHAR; BEGIN In.Char(c); WHILE In.Done DO Out.Char(c); In.Char(c) END END K.
abbrev echo : Outside Program
echo b v = record { types = record { kinds = (Char ∷ Nothing ∷ []); records = []; signatures = [] }; modules = (record { name = []; objects = []; variables = (0 ∷ []); body = 0 } ∷ []); procedures = (record { «module» = 0; line = 1; is_body = true; formals = []; result = 1; locals = []; texts = []; body = ((InChar (Whole (Global 0 0) Char)) ∷ (While' (vec1 v) (more_of-Branch (record { form = (Load (Whole Done BoolKind)); kind = BoolKind }) (vec2 v) (more_of-Stmt (OutChar (record { form = (Load (Whole (Global 0 0) Char)); kind = Char })) (more_of-Stmt (InChar (Whole (Global 0 0) Char)) end_of-Stmt)) end_of-Branch)) ∷ []); answer = None } ∷ []); imports_in = true }

pub echo_formed : (b : Box (Unit {0}) Heap) (v : Vec (Unit {0}) Heap) → well_formed (echo b v) ≡ true
unfolding data_tree record_row
echo_formed b v = refl

-- MODULE A; PROCEDURE Twice*(x: INTEGER): INTEGER; BEGIN RETURN 2*x END Twice; END A. === MODULE B; IMPORT A, Out; BEGIN Out.Int(A.Twice(21), 0); Out.Ln END B.
abbrev twomodules : Outside Program
twomodules b v = record { types = record { kinds = (Int ∷ Nothing ∷ []); records = []; signatures = [] }; modules = (record { name = []; objects = []; variables = []; body = 1 } ∷ record { name = []; objects = []; variables = []; body = 2 } ∷ []); procedures = (record { «module» = 0; line = 1; is_body = false; formals = (record { mode = OfValue; variable = false; type_number = 0 } ∷ []); result = 0; locals = []; texts = []; body = []; answer = (Some (record { form = (Chain' b (Literal 2) (vec1 v) (more_of-Link (Operate Multiply (Load (Whole (Local 0) Int))) end_of-Link)); kind = Int })) } ∷ record { «module» = 0; line = 1; is_body = true; formals = []; result = 1; locals = []; texts = []; body = []; answer = None } ∷ record { «module» = 1; line = 1; is_body = true; formals = []; result = 1; locals = []; texts = []; body = ((OutInt (record { form = (Call' b (Direct' 0 (vec1 v) (more_of-Argument (ByValue (Literal 21)) end_of-Argument))); kind = Int }) (record { form = (Literal 0); kind = Int })) ∷ OutLn ∷ []); answer = None } ∷ []); imports_in = false }

pub twomodules_formed : (b : Box (Unit {0}) Heap) (v : Vec (Unit {0}) Heap) → well_formed (twomodules b v) ≡ true
unfolding data_tree record_row
twomodules_formed b v = refl

-- MODULE C; VAR i: INTEGER; BEGIN i := 5; CASE i OF 1: | 2..4: END END C.
abbrev casemiss : Outside Program
casemiss b v = record { types = record { kinds = (Int ∷ Nothing ∷ []); records = []; signatures = [] }; modules = (record { name = []; objects = []; variables = (0 ∷ []); body = 0 } ∷ []); procedures = (record { «module» = 0; line = 1; is_body = true; formals = []; result = 1; locals = []; texts = []; body = ((Assign (Whole (Global 0 0) Int) (record { form = (Literal 5); kind = Int })) ∷ (Case' (record { form = (Load (Whole (Global 0 0) Int)); kind = Int }) (vec2 v) (more_of-CasePart (One (pos 1) ∷ []) (vec0 v) end_of-Stmt (more_of-CasePart (Range (pos 2) (pos 4) ∷ []) (vec0 v) end_of-Stmt end_of-CasePart))) ∷ []); answer = None } ∷ []); imports_in = false }

pub casemiss_formed : (b : Box (Unit {0}) Heap) (v : Vec (Unit {0}) Heap) → well_formed (casemiss b v) ≡ true
unfolding data_tree record_row
casemiss_formed b v = refl

-- MODULE C; VAR i: INTEGER; BEGIN ASSERT(i = 0); ASSERT(i = 1) END C.
abbrev asserts : Outside Program
asserts b v = record { types = record { kinds = (Int ∷ Nothing ∷ []); records = []; signatures = [] }; modules = (record { name = []; objects = []; variables = (0 ∷ []); body = 0 } ∷ []); procedures = (record { «module» = 0; line = 1; is_body = true; formals = []; result = 1; locals = []; texts = []; body = ((Assert (record { form = (Compare' Equal b (Load (Whole (Global 0 0) Int)) b (Literal 0)); kind = BoolKind })) ∷ (Assert (record { form = (Compare' Equal b (Load (Whole (Global 0 0) Int)) b (Literal 1)); kind = BoolKind })) ∷ []); answer = None } ∷ []); imports_in = false }

pub asserts_formed : (b : Box (Unit {0}) Heap) (v : Vec (Unit {0}) Heap) → well_formed (asserts b v) ≡ true
unfolding data_tree record_row
asserts_formed b v = refl

-- MODULE C; VAR i: INTEGER; BEGIN i := 64; ASSERT(i IN {1}) END C.
abbrev sets : Outside Program
sets b v = record { types = record { kinds = (Int ∷ Nothing ∷ []); records = []; signatures = [] }; modules = (record { name = []; objects = []; variables = (0 ∷ []); body = 0 } ∷ []); procedures = (record { «module» = 0; line = 1; is_body = true; formals = []; result = 1; locals = []; texts = []; body = ((Assign (Whole (Global 0 0) Int) (record { form = (Literal 64); kind = Int })) ∷ (Assert (record { form = (In' b (Load (Whole (Global 0 0) Int)) b (Chain' b (Literal 0) (vec1 v) (more_of-Link (Element (Literal 1)) end_of-Link))); kind = BoolKind })) ∷ []); answer = None } ∷ []); imports_in = false }

pub sets_formed : (b : Box (Unit {0}) Heap) (v : Vec (Unit {0}) Heap) → well_formed (sets b v) ≡ true
unfolding data_tree record_row
sets_formed b v = refl

-- MODULE C; VAR i: INTEGER; y: BYTE; BEGIN i := 256; y := i END C.
abbrev ranges : Outside Program
ranges b v = record { types = record { kinds = (Int ∷ ByteKind ∷ Nothing ∷ []); records = []; signatures = [] }; modules = (record { name = []; objects = []; variables = (0 ∷ 1 ∷ []); body = 0 } ∷ []); procedures = (record { «module» = 0; line = 1; is_body = true; formals = []; result = 2; locals = []; texts = []; body = ((Assign (Whole (Global 0 0) Int) (record { form = (Literal 256); kind = Int })) ∷ (Assign (Whole (Global 0 1) ByteKind) (record { form = (Byte' b (Load (Whole (Global 0 0) Int))); kind = ByteKind })) ∷ []); answer = None } ∷ []); imports_in = false }

pub ranges_formed : (b : Box (Unit {0}) Heap) (v : Vec (Unit {0}) Heap) → well_formed (ranges b v) ≡ true
unfolding data_tree record_row
ranges_formed b v = refl

-- MODULE C; VAR a: ARRAY 3 OF CHAR; PROCEDURE Q(VAR s: ARRAY OF CHAR); BEGIN s := ''abc'' END Q; BEGIN Q(a) END C.
abbrev copytrap : Outside Program
copytrap b v = record { types = record { kinds = (Char ∷ (Array (Some 3) 0) ∷ (Array None 0) ∷ Nothing ∷ []); records = []; signatures = [] }; modules = (record { name = []; objects = []; variables = (1 ∷ []); body = 1 } ∷ []); procedures = (record { «module» = 0; line = 1; is_body = false; formals = (record { mode = OfOpen; variable = true; type_number = 2 } ∷ []); result = 3; locals = []; texts = ((97 ∷ 98 ∷ 99 ∷ []) ∷ []); body = ((CopyArray (Whole (Parameter 0) (Array None 0)) (Whole (Text 0) (TextKind 3))) ∷ []); answer = None } ∷ record { «module» = 0; line = 1; is_body = true; formals = []; result = 3; locals = []; texts = []; body = ((Invoke (Direct' 0 (vec1 v) (more_of-Argument (ByOpen (Whole (Global 0 0) (Array (Some 3) 0))) end_of-Argument))) ∷ []); answer = None } ∷ []); imports_in = false }

pub copytrap_formed : (b : Box (Unit {0}) Heap) (v : Vec (Unit {0}) Heap) → well_formed (copytrap b v) ≡ true
unfolding data_tree record_row
copytrap_formed b v = refl

-- MODULE C; IMPORT Out; VAR a: ARRAY 4 OF CHAR; PROCEDURE Q(VAR s: ARRAY OF CHAR); BEGIN s := ''abc'' END Q; BEGIN Q(a); Out.String(a) END C.
abbrev copyfits : Outside Program
copyfits b v = record { types = record { kinds = (Char ∷ (Array (Some 4) 0) ∷ (Array None 0) ∷ Nothing ∷ []); records = []; signatures = [] }; modules = (record { name = []; objects = []; variables = (1 ∷ []); body = 1 } ∷ []); procedures = (record { «module» = 0; line = 1; is_body = false; formals = (record { mode = OfOpen; variable = true; type_number = 2 } ∷ []); result = 3; locals = []; texts = ((97 ∷ 98 ∷ 99 ∷ []) ∷ []); body = ((CopyArray (Whole (Parameter 0) (Array None 0)) (Whole (Text 0) (TextKind 3))) ∷ []); answer = None } ∷ record { «module» = 0; line = 1; is_body = true; formals = []; result = 3; locals = []; texts = []; body = ((Invoke (Direct' 0 (vec1 v) (more_of-Argument (ByOpen (Whole (Global 0 0) (Array (Some 4) 0))) end_of-Argument))) ∷ (OutString (Whole (Global 0 0) (Array (Some 4) 0))) ∷ []); answer = None } ∷ []); imports_in = false }

pub copyfits_formed : (b : Box (Unit {0}) Heap) (v : Vec (Unit {0}) Heap) → well_formed (copyfits b v) ≡ true
unfolding data_tree record_row
copyfits_formed b v = refl

-- MODULE V; IMPORT Out; VAR a: ARRAY 3 OF INTEGER; i: INTEGER; PROCEDURE Set(VAR x: INTEGER; n: INTEGER); BEGIN i := 0; x := n END Set; BEGIN i := 2; Set(a[i], 7); Out.Int(a[2], 0); Out.Int(a[0], 0); Set(a[i+3], 1) END V.
abbrev varelement : Outside Program
varelement b v = record { types = record { kinds = (Int ∷ (Array (Some 3) 0) ∷ Nothing ∷ []); records = []; signatures = [] }; modules = (record { name = []; objects = []; variables = (1 ∷ 0 ∷ []); body = 1 } ∷ []); procedures = (record { «module» = 0; line = 1; is_body = false; formals = (record { mode = Place; variable = true; type_number = 0 } ∷ record { mode = OfValue; variable = false; type_number = 0 } ∷ []); result = 2; locals = []; texts = []; body = ((Assign (Whole (Global 0 1) Int) (record { form = (Literal 0); kind = Int })) ∷ (Assign (Whole (Parameter 0) Int) (record { form = (Load (Whole (Local 0) Int)); kind = Int })) ∷ []); answer = None } ∷ record { «module» = 0; line = 1; is_body = true; formals = []; result = 2; locals = []; texts = []; body = ((Assign (Whole (Global 0 1) Int) (record { form = (Literal 2); kind = Int })) ∷ (Invoke (Direct' 0 (vec2 v) (more_of-Argument (ByPlace (Part' b (Global 0 0) Int (vec1 v) (more_of-Selector (Index (Some 3) 0 (Load (Whole (Global 0 1) Int))) end_of-Selector))) (more_of-Argument (ByValue (Literal 7)) end_of-Argument)))) ∷ (OutInt (record { form = (Load (Part' b (Global 0 0) Int (vec1 v) (more_of-Selector (Index (Some 3) 0 (Literal 2)) end_of-Selector))); kind = Int }) (record { form = (Literal 0); kind = Int })) ∷ (OutInt (record { form = (Load (Part' b (Global 0 0) Int (vec1 v) (more_of-Selector (Index (Some 3) 0 (Literal 0)) end_of-Selector))); kind = Int }) (record { form = (Literal 0); kind = Int })) ∷ (Invoke (Direct' 0 (vec2 v) (more_of-Argument (ByPlace (Part' b (Global 0 0) Int (vec1 v) (more_of-Selector (Index (Some 3) 0 (Chain' b (Load (Whole (Global 0 1) Int)) (vec1 v) (more_of-Link (Operate Add (Literal 3)) end_of-Link))) end_of-Selector))) (more_of-Argument (ByValue (Literal 1)) end_of-Argument)))) ∷ []); answer = None } ∷ []); imports_in = false }

pub varelement_formed : (b : Box (Unit {0}) Heap) (v : Vec (Unit {0}) Heap) → well_formed (varelement b v) ≡ true
unfolding data_tree record_row
varelement_formed b v = refl

-- MODULE F; IMPORT Out; PROCEDURE Fac(n: INTEGER): INTEGER; VAR r: INTEGER; BEGIN IF n = 0 THEN r := 1 ELSE r := n * Fac(n - 1) END RETURN r END Fac; BEGIN Out.Int(Fac(9), 0) END F.
abbrev factorial : Outside Program
factorial b v = record { types = record { kinds = (Int ∷ Nothing ∷ []); records = []; signatures = [] }; modules = (record { name = []; objects = []; variables = []; body = 1 } ∷ []); procedures = (record { «module» = 0; line = 1; is_body = false; formals = (record { mode = OfValue; variable = false; type_number = 0 } ∷ []); result = 0; locals = (0 ∷ []); texts = []; body = ((If' (vec1 v) (more_of-Branch (record { form = (Compare' Equal b (Load (Whole (Local 0) Int)) b (Literal 0)); kind = BoolKind }) (vec1 v) (more_of-Stmt (Assign (Whole (Local 1) Int) (record { form = (Literal 1); kind = Int })) end_of-Stmt) end_of-Branch) (vec1 v) (more_of-Stmt (Assign (Whole (Local 1) Int) (record { form = (Chain' b (Load (Whole (Local 0) Int)) (vec1 v) (more_of-Link (Operate Multiply (Call' b (Direct' 0 (vec1 v) (more_of-Argument (ByValue (Chain' b (Load (Whole (Local 0) Int)) (vec1 v) (more_of-Link (Operate Subtract (Literal 1)) end_of-Link))) end_of-Argument)))) end_of-Link)); kind = Int })) end_of-Stmt)) ∷ []); answer = (Some (record { form = (Load (Whole (Local 1) Int)); kind = Int })) } ∷ record { «module» = 0; line = 1; is_body = true; formals = []; result = 1; locals = []; texts = []; body = ((OutInt (record { form = (Call' b (Direct' 0 (vec1 v) (more_of-Argument (ByValue (Literal 9)) end_of-Argument))); kind = Int }) (record { form = (Literal 0); kind = Int })) ∷ []); answer = None } ∷ []); imports_in = false }

pub factorial_formed : (b : Box (Unit {0}) Heap) (v : Vec (Unit {0}) Heap) → well_formed (factorial b v) ≡ true
unfolding data_tree record_row
factorial_formed b v = refl

-- MODULE X; IMPORT Out; TYPE P = RECORD x, y: INTEGER END; Q = RECORD (P) z: INTEGER END; VAR p: P; q: Q; BEGIN q.x := 1; q.y := 2; q.z := 3; p := q; Out.Int(p.x, 0); Out.Int(p.y, 0); Out.Int(q.z, 0) END X.
abbrev extensioncopy : Outside Program
extensioncopy b v = record { types = record { kinds = ((RecordKind 0) ∷ (RecordKind 1) ∷ Nothing ∷ Int ∷ []); records = (record { «module» = 0; base = None; level = 0; fields = (record { name = []; exported = false; type_number = 3 } ∷ record { name = []; exported = false; type_number = 3 } ∷ []); cells = 2; extent = record { bytes = 16; wide = true } } ∷ record { «module» = 0; base = (Some 0); level = 1; fields = (record { name = []; exported = false; type_number = 3 } ∷ []); cells = 3; extent = record { bytes = 24; wide = true } } ∷ []); signatures = [] }; modules = (record { name = []; objects = []; variables = (0 ∷ 1 ∷ []); body = 0 } ∷ []); procedures = (record { «module» = 0; line = 1; is_body = true; formals = []; result = 2; locals = []; texts = []; body = ((Assign (Part' b (Global 0 1) Int (vec1 v) (more_of-Selector (Field 0 0) end_of-Selector)) (record { form = (Literal 1); kind = Int })) ∷ (Assign (Part' b (Global 0 1) Int (vec1 v) (more_of-Selector (Field 0 1) end_of-Selector)) (record { form = (Literal 2); kind = Int })) ∷ (Assign (Part' b (Global 0 1) Int (vec1 v) (more_of-Selector (Field 1 0) end_of-Selector)) (record { form = (Literal 3); kind = Int })) ∷ (CopyRecord (Whole (Global 0 0) (RecordKind 0)) (Whole (Global 0 1) (RecordKind 1))) ∷ (OutInt (record { form = (Load (Part' b (Global 0 0) Int (vec1 v) (more_of-Selector (Field 0 0) end_of-Selector))); kind = Int }) (record { form = (Literal 0); kind = Int })) ∷ (OutInt (record { form = (Load (Part' b (Global 0 0) Int (vec1 v) (more_of-Selector (Field 0 1) end_of-Selector))); kind = Int }) (record { form = (Literal 0); kind = Int })) ∷ (OutInt (record { form = (Load (Part' b (Global 0 1) Int (vec1 v) (more_of-Selector (Field 1 0) end_of-Selector))); kind = Int }) (record { form = (Literal 0); kind = Int })) ∷ []); answer = None } ∷ []); imports_in = false }

pub extensioncopy_formed : (b : Box (Unit {0}) Heap) (v : Vec (Unit {0}) Heap) → well_formed (extensioncopy b v) ≡ true
unfolding data_tree record_row
extensioncopy_formed b v = refl

-- MODULE O; IMPORT Out; TYPE A = ARRAY 3 OF INTEGER; VAR m: ARRAY 2 OF A; i: INTEGER; PROCEDURE Sum(a: ARRAY OF INTEGER): INTEGER; VAR i, s: INTEGER; BEGIN s := 0; FOR i := 0 TO LEN(a) - 1 DO s := s + a[i] END RETURN s END Sum; PROCEDURE All(VAR b: ARRAY OF A): INTEGER; VAR i, s: INTEGER; BEGIN s := 0; FOR i := 0 TO LEN(b) - 1 DO s := s + Sum(b[i]) * (i + 1) END RETURN s END All; BEGIN FOR i := 0 TO 2 DO m[1][i] := i + 1; m[0, i] := 10 END; Out.Int(All(m), 0) END O.
abbrev openarrays : Outside Program
openarrays b v = record { types = record { kinds = (Int ∷ (Array (Some 3) 0) ∷ (Array (Some 2) 1) ∷ (Array None 0) ∷ (Array None 1) ∷ Nothing ∷ []); records = []; signatures = [] }; modules = (record { name = []; objects = []; variables = (2 ∷ 0 ∷ []); body = 2 } ∷ []); procedures = (record { «module» = 0; line = 1; is_body = false; formals = (record { mode = OfOpen; variable = false; type_number = 3 } ∷ []); result = 0; locals = (0 ∷ 0 ∷ []); texts = []; body = ((Assign (Whole (Local 1) Int) (record { form = (Literal 0); kind = Int })) ∷ (For' b (Whole (Local 0) Int) (record { form = (Literal 0); kind = Int }) (record { form = (Chain' b (Length (Whole (Parameter 0) (Array None 0))) (vec1 v) (more_of-Link (Operate Subtract (Literal 1)) end_of-Link)); kind = Int }) (pos 1) (vec1 v) (more_of-Stmt (Assign (Whole (Local 1) Int) (record { form = (Chain' b (Load (Whole (Local 1) Int)) (vec1 v) (more_of-Link (Operate Add (Load (Part' b (Parameter 0) Int (vec1 v) (more_of-Selector (Index None 0 (Load (Whole (Local 0) Int))) end_of-Selector)))) end_of-Link)); kind = Int })) end_of-Stmt)) ∷ []); answer = (Some (record { form = (Load (Whole (Local 1) Int)); kind = Int })) } ∷ record { «module» = 0; line = 1; is_body = false; formals = (record { mode = OfOpen; variable = true; type_number = 4 } ∷ []); result = 0; locals = (0 ∷ 0 ∷ []); texts = []; body = ((Assign (Whole (Local 1) Int) (record { form = (Literal 0); kind = Int })) ∷ (For' b (Whole (Local 0) Int) (record { form = (Literal 0); kind = Int }) (record { form = (Chain' b (Length (Whole (Parameter 0) (Array None 1))) (vec1 v) (more_of-Link (Operate Subtract (Literal 1)) end_of-Link)); kind = Int }) (pos 1) (vec1 v) (more_of-Stmt (Assign (Whole (Local 1) Int) (record { form = (Chain' b (Load (Whole (Local 1) Int)) (vec1 v) (more_of-Link (Operate Add (Chain' b (Call' b (Direct' 0 (vec1 v) (more_of-Argument (ByOpen (Part' b (Parameter 0) (Array (Some 3) 0) (vec1 v) (more_of-Selector (Index None 1 (Load (Whole (Local 0) Int))) end_of-Selector))) end_of-Argument))) (vec1 v) (more_of-Link (Operate Multiply (Chain' b (Load (Whole (Local 0) Int)) (vec1 v) (more_of-Link (Operate Add (Literal 1)) end_of-Link))) end_of-Link))) end_of-Link)); kind = Int })) end_of-Stmt)) ∷ []); answer = (Some (record { form = (Load (Whole (Local 1) Int)); kind = Int })) } ∷ record { «module» = 0; line = 1; is_body = true; formals = []; result = 5; locals = []; texts = []; body = ((For' b (Whole (Global 0 1) Int) (record { form = (Literal 0); kind = Int }) (record { form = (Literal 2); kind = Int }) (pos 1) (vec2 v) (more_of-Stmt (Assign (Part' b (Global 0 0) Int (vec2 v) (more_of-Selector (Index (Some 2) 1 (Literal 1)) (more_of-Selector (Index (Some 3) 0 (Load (Whole (Global 0 1) Int))) end_of-Selector))) (record { form = (Chain' b (Load (Whole (Global 0 1) Int)) (vec1 v) (more_of-Link (Operate Add (Literal 1)) end_of-Link)); kind = Int })) (more_of-Stmt (Assign (Part' b (Global 0 0) Int (vec2 v) (more_of-Selector (Index (Some 2) 1 (Literal 0)) (more_of-Selector (Index (Some 3) 0 (Load (Whole (Global 0 1) Int))) end_of-Selector))) (record { form = (Literal 10); kind = Int })) end_of-Stmt))) ∷ (OutInt (record { form = (Call' b (Direct' 1 (vec1 v) (more_of-Argument (ByOpen (Whole (Global 0 0) (Array (Some 2) 1))) end_of-Argument))); kind = Int }) (record { form = (Literal 0); kind = Int })) ∷ []); answer = None } ∷ []); imports_in = false }

pub openarrays_formed : (b : Box (Unit {0}) Heap) (v : Vec (Unit {0}) Heap) → well_formed (openarrays b v) ≡ true
unfolding data_tree record_row
openarrays_formed b v = refl

-- MODULE F; IMPORT Out; VAR i: INTEGER; BEGIN FOR i := 6 TO 0 BY -2 DO Out.Int(i, 0) END; Out.Int(i, 0) END F.
abbrev forby : Outside Program
forby b v = record { types = record { kinds = (Int ∷ Nothing ∷ []); records = []; signatures = [] }; modules = (record { name = []; objects = []; variables = (0 ∷ []); body = 0 } ∷ []); procedures = (record { «module» = 0; line = 1; is_body = true; formals = []; result = 1; locals = []; texts = []; body = ((For' b (Whole (Global 0 0) Int) (record { form = (Literal 6); kind = Int }) (record { form = (Literal 0); kind = Int }) (negsuc 1) (vec1 v) (more_of-Stmt (OutInt (record { form = (Load (Whole (Global 0 0) Int)); kind = Int }) (record { form = (Literal 0); kind = Int })) end_of-Stmt)) ∷ (OutInt (record { form = (Load (Whole (Global 0 0) Int)); kind = Int }) (record { form = (Literal 0); kind = Int })) ∷ []); answer = None } ∷ []); imports_in = false }

pub forby_formed : (b : Box (Unit {0}) Heap) (v : Vec (Unit {0}) Heap) → well_formed (forby b v) ≡ true
unfolding data_tree record_row
forby_formed b v = refl

-- MODULE F; IMPORT Out; VAR i, n: INTEGER; PROCEDURE L(): INTEGER; BEGIN RETURN n + i END L; BEGIN n := 2; FOR i := 1 TO L() DO n := 0; Out.Int(i, 0) END END F.
abbrev forlimit : Outside Program
forlimit b v = record { types = record { kinds = (Int ∷ Nothing ∷ []); records = []; signatures = [] }; modules = (record { name = []; objects = []; variables = (0 ∷ 0 ∷ []); body = 1 } ∷ []); procedures = (record { «module» = 0; line = 1; is_body = false; formals = []; result = 0; locals = []; texts = []; body = []; answer = (Some (record { form = (Chain' b (Load (Whole (Global 0 1) Int)) (vec1 v) (more_of-Link (Operate Add (Load (Whole (Global 0 0) Int))) end_of-Link)); kind = Int })) } ∷ record { «module» = 0; line = 1; is_body = true; formals = []; result = 1; locals = []; texts = []; body = ((Assign (Whole (Global 0 1) Int) (record { form = (Literal 2); kind = Int })) ∷ (For' b (Whole (Global 0 0) Int) (record { form = (Literal 1); kind = Int }) (record { form = (Call' b (Direct' 0 (vec0 v) end_of-Argument)); kind = Int }) (pos 1) (vec2 v) (more_of-Stmt (Assign (Whole (Global 0 1) Int) (record { form = (Literal 0); kind = Int })) (more_of-Stmt (OutInt (record { form = (Load (Whole (Global 0 0) Int)); kind = Int }) (record { form = (Literal 0); kind = Int })) end_of-Stmt))) ∷ []); answer = None } ∷ []); imports_in = false }

pub forlimit_formed : (b : Box (Unit {0}) Heap) (v : Vec (Unit {0}) Heap) → well_formed (forlimit b v) ≡ true
unfolding data_tree record_row
forlimit_formed b v = refl

-- MODULE T; IMPORT Out; VAR a: ARRAY 8 OF CHAR; b: ARRAY 2 OF CHAR; BEGIN IF a = b THEN Out.Char(''='') END; b[0] := ''x''; b[1] := ''y''; IF b > ''xx'' THEN Out.Char(''>'') END; IF b < ''xyz'' THEN Out.Char(''<'') END; IF ''ab'' # ''ab'' THEN Out.Char(''#'') END END T.
abbrev texts : Outside Program
texts b v = record { types = record { kinds = (Char ∷ (Array (Some 8) 0) ∷ (Array (Some 2) 0) ∷ Nothing ∷ []); records = []; signatures = [] }; modules = (record { name = []; objects = []; variables = (1 ∷ 2 ∷ []); body = 0 } ∷ []); procedures = (record { «module» = 0; line = 1; is_body = true; formals = []; result = 3; locals = []; texts = ((120 ∷ 120 ∷ []) ∷ (120 ∷ 121 ∷ 122 ∷ []) ∷ (97 ∷ 98 ∷ []) ∷ (97 ∷ 98 ∷ []) ∷ []); body = ((If' (vec1 v) (more_of-Branch (record { form = (CompareTexts' Equal b (Whole (Global 0 0) (Array (Some 8) 0)) b (Whole (Global 0 1) (Array (Some 2) 0))); kind = BoolKind }) (vec1 v) (more_of-Stmt (OutChar (record { form = (Literal 61); kind = Char })) end_of-Stmt) end_of-Branch) (vec0 v) end_of-Stmt) ∷ (Assign (Part' b (Global 0 1) Char (vec1 v) (more_of-Selector (Index (Some 2) 0 (Literal 0)) end_of-Selector)) (record { form = (Literal 120); kind = Char })) ∷ (Assign (Part' b (Global 0 1) Char (vec1 v) (more_of-Selector (Index (Some 2) 0 (Literal 1)) end_of-Selector)) (record { form = (Literal 121); kind = Char })) ∷ (If' (vec1 v) (more_of-Branch (record { form = (CompareTexts' Greater b (Whole (Global 0 1) (Array (Some 2) 0)) b (Whole (Text 0) (TextKind 2))); kind = BoolKind }) (vec1 v) (more_of-Stmt (OutChar (record { form = (Literal 62); kind = Char })) end_of-Stmt) end_of-Branch) (vec0 v) end_of-Stmt) ∷ (If' (vec1 v) (more_of-Branch (record { form = (CompareTexts' Less b (Whole (Global 0 1) (Array (Some 2) 0)) b (Whole (Text 1) (TextKind 3))); kind = BoolKind }) (vec1 v) (more_of-Stmt (OutChar (record { form = (Literal 60); kind = Char })) end_of-Stmt) end_of-Branch) (vec0 v) end_of-Stmt) ∷ (If' (vec1 v) (more_of-Branch (record { form = (CompareTexts' Unequal b (Whole (Text 2) (TextKind 2)) b (Whole (Text 3) (TextKind 2))); kind = BoolKind }) (vec1 v) (more_of-Stmt (OutChar (record { form = (Literal 35); kind = Char })) end_of-Stmt) end_of-Branch) (vec0 v) end_of-Stmt) ∷ []); answer = None } ∷ []); imports_in = false }

pub texts_formed : (b : Box (Unit {0}) Heap) (v : Vec (Unit {0}) Heap) → well_formed (texts b v) ≡ true
unfolding data_tree record_row
texts_formed b v = refl

-- MODULE T; IMPORT Out; TYPE B = RECORD x: INTEGER END; E = RECORD (B) y: INTEGER END; PE = POINTER TO E; VAR b: B; e: E; p: PE; PROCEDURE Kind(VAR r: B); BEGIN CASE r OF E: Out.Char(''E''); r.y := 5; r.x := 6 | B: Out.Char(''B'') END; IF r IS E THEN Out.Int(r(E).y, 0) END END Kind; PROCEDURE Pass(VAR r: B); BEGIN Kind(r) END Pass; BEGIN Kind(b); Kind(e); Pass(e); NEW(p); Pass(p^); Out.Int(p.x, 0); Pass(b) END T.
abbrev tags : Outside Program
tags b v = record { types = record { kinds = ((RecordKind 0) ∷ (RecordKind 1) ∷ (PointerKind 1) ∷ Nothing ∷ Int ∷ []); records = (record { «module» = 0; base = None; level = 0; fields = (record { name = []; exported = false; type_number = 4 } ∷ []); cells = 1; extent = record { bytes = 8; wide = true } } ∷ record { «module» = 0; base = (Some 0); level = 1; fields = (record { name = []; exported = false; type_number = 4 } ∷ []); cells = 2; extent = record { bytes = 16; wide = true } } ∷ []); signatures = [] }; modules = (record { name = []; objects = []; variables = (0 ∷ 1 ∷ 2 ∷ []); body = 2 } ∷ []); procedures = (record { «module» = 0; line = 1; is_body = false; formals = (record { mode = OfRecord; variable = true; type_number = 0 } ∷ []); result = 3; locals = []; texts = []; body = ((CaseParameter' (Whole (Parameter 0) (RecordKind 0)) (vec2 v) (more_of-TypePart 1 (vec3 v) (more_of-Stmt (OutChar (record { form = (Literal 69); kind = Char })) (more_of-Stmt (Assign (Part' b (Parameter 0) Int (vec2 v) (more_of-Selector (Narrow 1) (more_of-Selector (Field 1 0) end_of-Selector))) (record { form = (Literal 5); kind = Int })) (more_of-Stmt (Assign (Part' b (Parameter 0) Int (vec2 v) (more_of-Selector (Narrow 1) (more_of-Selector (Field 0 0) end_of-Selector))) (record { form = (Literal 6); kind = Int })) end_of-Stmt))) (more_of-TypePart 0 (vec1 v) (more_of-Stmt (OutChar (record { form = (Literal 66); kind = Char })) end_of-Stmt) end_of-TypePart))) ∷ (If' (vec1 v) (more_of-Branch (record { form = (IsParameter (Whole (Parameter 0) (RecordKind 0)) 1); kind = BoolKind }) (vec1 v) (more_of-Stmt (OutInt (record { form = (Load (Part' b (Parameter 0) Int (vec2 v) (more_of-Selector (Narrow 1) (more_of-Selector (Field 1 0) end_of-Selector)))); kind = Int }) (record { form = (Literal 0); kind = Int })) end_of-Stmt) end_of-Branch) (vec0 v) end_of-Stmt) ∷ []); answer = None } ∷ record { «module» = 0; line = 1; is_body = false; formals = (record { mode = OfRecord; variable = true; type_number = 0 } ∷ []); result = 3; locals = []; texts = []; body = ((Invoke (Direct' 0 (vec1 v) (more_of-Argument (ByRecord (Whole (Parameter 0) (RecordKind 0))) end_of-Argument))) ∷ []); answer = None } ∷ record { «module» = 0; line = 1; is_body = true; formals = []; result = 3; locals = []; texts = []; body = ((Invoke (Direct' 0 (vec1 v) (more_of-Argument (ByRecord (Whole (Global 0 0) (RecordKind 0))) end_of-Argument))) ∷ (Invoke (Direct' 0 (vec1 v) (more_of-Argument (ByRecord (Whole (Global 0 1) (RecordKind 1))) end_of-Argument))) ∷ (Invoke (Direct' 1 (vec1 v) (more_of-Argument (ByRecord (Whole (Global 0 1) (RecordKind 1))) end_of-Argument))) ∷ (New (Whole (Global 0 2) (PointerKind 1))) ∷ (Invoke (Direct' 1 (vec1 v) (more_of-Argument (ByRecord (Part' b (Global 0 2) (RecordKind 1) (vec1 v) (more_of-Selector (Dereference []) end_of-Selector))) end_of-Argument))) ∷ (OutInt (record { form = (Load (Part' b (Global 0 2) Int (vec2 v) (more_of-Selector (Dereference []) (more_of-Selector (Field 0 0) end_of-Selector)))); kind = Int }) (record { form = (Literal 0); kind = Int })) ∷ (Invoke (Direct' 1 (vec1 v) (more_of-Argument (ByRecord (Whole (Global 0 0) (RecordKind 0))) end_of-Argument))) ∷ []); answer = None } ∷ []); imports_in = false }

pub tags_formed : (b : Box (Unit {0}) Heap) (v : Vec (Unit {0}) Heap) → well_formed (tags b v) ≡ true
unfolding data_tree record_row
tags_formed b v = refl

-- MODULE T; TYPE B = RECORD x: INTEGER END; E = RECORD (B) y: INTEGER END; VAR b: B; PROCEDURE Kind(VAR r: B); BEGIN r(E).y := 5 END Kind; BEGIN Kind(b) END T.
abbrev tagguard : Outside Program
tagguard b v = record { types = record { kinds = ((RecordKind 0) ∷ (RecordKind 1) ∷ Nothing ∷ Int ∷ []); records = (record { «module» = 0; base = None; level = 0; fields = (record { name = []; exported = false; type_number = 3 } ∷ []); cells = 1; extent = record { bytes = 8; wide = true } } ∷ record { «module» = 0; base = (Some 0); level = 1; fields = (record { name = []; exported = false; type_number = 3 } ∷ []); cells = 2; extent = record { bytes = 16; wide = true } } ∷ []); signatures = [] }; modules = (record { name = []; objects = []; variables = (0 ∷ []); body = 1 } ∷ []); procedures = (record { «module» = 0; line = 1; is_body = false; formals = (record { mode = OfRecord; variable = true; type_number = 0 } ∷ []); result = 2; locals = []; texts = []; body = ((Assign (Part' b (Parameter 0) Int (vec2 v) (more_of-Selector (Narrow 1) (more_of-Selector (Field 1 0) end_of-Selector))) (record { form = (Literal 5); kind = Int })) ∷ []); answer = None } ∷ record { «module» = 0; line = 1; is_body = true; formals = []; result = 2; locals = []; texts = []; body = ((Invoke (Direct' 0 (vec1 v) (more_of-Argument (ByRecord (Whole (Global 0 0) (RecordKind 0))) end_of-Argument))) ∷ []); answer = None } ∷ []); imports_in = false }

pub tagguard_formed : (b : Box (Unit {0}) Heap) (v : Vec (Unit {0}) Heap) → well_formed (tagguard b v) ≡ true
unfolding data_tree record_row
tagguard_formed b v = refl

-- MODULE P; IMPORT Out; TYPE B = POINTER TO RB; RB = RECORD x: INTEGER END; E = POINTER TO RE; RE = RECORD (RB) y: INTEGER; next: B END; VAR p: B; e: E; PROCEDURE Show(q: B); BEGIN CASE q OF E: Out.Char(''E''); q.y := 3; Show(q.next) | B: Out.Char(''B'') END END Show; BEGIN Show(p); NEW(e); e.next := e; NEW(e.next); Show(e); p := e; Out.Int(p(E).y, 0); IF p = e THEN Out.Char(''!'') END; e := NIL; p := e.next END P.
abbrev pointercase : Outside Program
pointercase b v = record { types = record { kinds = ((RecordKind 0) ∷ (RecordKind 1) ∷ (PointerKind 0) ∷ (PointerKind 1) ∷ Nothing ∷ Int ∷ []); records = (record { «module» = 0; base = None; level = 0; fields = (record { name = []; exported = false; type_number = 5 } ∷ []); cells = 1; extent = record { bytes = 8; wide = true } } ∷ record { «module» = 0; base = (Some 0); level = 1; fields = (record { name = []; exported = false; type_number = 5 } ∷ record { name = []; exported = false; type_number = 2 } ∷ []); cells = 3; extent = record { bytes = 24; wide = true } } ∷ []); signatures = [] }; modules = (record { name = []; objects = []; variables = (2 ∷ 3 ∷ []); body = 1 } ∷ []); procedures = (record { «module» = 0; line = 1; is_body = false; formals = (record { mode = OfValue; variable = false; type_number = 2 } ∷ []); result = 4; locals = []; texts = []; body = ((CasePointer' (record { form = (Load (Whole (Local 0) (PointerKind 0))); kind = (PointerKind 0) }) (vec2 v) (more_of-TypePart 1 (vec3 v) (more_of-Stmt (OutChar (record { form = (Literal 69); kind = Char })) (more_of-Stmt (Assign (Part' b (Local 0) Int (vec2 v) (more_of-Selector (Dereference (1 ∷ [])) (more_of-Selector (Field 1 0) end_of-Selector))) (record { form = (Literal 3); kind = Int })) (more_of-Stmt (Invoke (Direct' 0 (vec1 v) (more_of-Argument (ByValue (Load (Part' b (Local 0) (PointerKind 0) (vec2 v) (more_of-Selector (Dereference (1 ∷ [])) (more_of-Selector (Field 1 1) end_of-Selector))))) end_of-Argument))) end_of-Stmt))) (more_of-TypePart 0 (vec1 v) (more_of-Stmt (OutChar (record { form = (Literal 66); kind = Char })) end_of-Stmt) end_of-TypePart))) ∷ []); answer = None } ∷ record { «module» = 0; line = 1; is_body = true; formals = []; result = 4; locals = []; texts = []; body = ((Invoke (Direct' 0 (vec1 v) (more_of-Argument (ByValue (Load (Whole (Global 0 0) (PointerKind 0)))) end_of-Argument))) ∷ (New (Whole (Global 0 1) (PointerKind 1))) ∷ (Assign (Part' b (Global 0 1) (PointerKind 0) (vec2 v) (more_of-Selector (Dereference []) (more_of-Selector (Field 1 1) end_of-Selector))) (record { form = (Load (Whole (Global 0 1) (PointerKind 1))); kind = (PointerKind 1) })) ∷ (New (Part' b (Global 0 1) (PointerKind 0) (vec2 v) (more_of-Selector (Dereference []) (more_of-Selector (Field 1 1) end_of-Selector)))) ∷ (Invoke (Direct' 0 (vec1 v) (more_of-Argument (ByValue (Load (Whole (Global 0 1) (PointerKind 1)))) end_of-Argument))) ∷ (Assign (Whole (Global 0 0) (PointerKind 0)) (record { form = (Load (Whole (Global 0 1) (PointerKind 1))); kind = (PointerKind 1) })) ∷ (OutInt (record { form = (Load (Part' b (Global 0 0) Int (vec2 v) (more_of-Selector (Dereference (1 ∷ [])) (more_of-Selector (Field 1 0) end_of-Selector)))); kind = Int }) (record { form = (Literal 0); kind = Int })) ∷ (If' (vec1 v) (more_of-Branch (record { form = (Compare' Equal b (Load (Whole (Global 0 0) (PointerKind 0))) b (Load (Whole (Global 0 1) (PointerKind 1)))); kind = BoolKind }) (vec1 v) (more_of-Stmt (OutChar (record { form = (Literal 33); kind = Char })) end_of-Stmt) end_of-Branch) (vec0 v) end_of-Stmt) ∷ (Assign (Whole (Global 0 1) (PointerKind 1)) (record { form = (Literal 0); kind = Nil })) ∷ (Assign (Whole (Global 0 0) (PointerKind 0)) (record { form = (Load (Part' b (Global 0 1) (PointerKind 0) (vec2 v) (more_of-Selector (Dereference []) (more_of-Selector (Field 1 1) end_of-Selector)))); kind = (PointerKind 0) })) ∷ []); answer = None } ∷ []); imports_in = false }

pub pointercase_formed : (b : Box (Unit {0}) Heap) (v : Vec (Unit {0}) Heap) → well_formed (pointercase b v) ≡ true
unfolding data_tree record_row
pointercase_formed b v = refl

-- MODULE P; IMPORT Out; TYPE F = PROCEDURE (x: INTEGER): INTEGER; VAR f, g: F; PROCEDURE D(x: INTEGER): INTEGER; BEGIN Out.Int(x, 0) RETURN 2 * x END D; PROCEDURE E(x: INTEGER): INTEGER; BEGIN f := D RETURN f(x) + 1 END E; BEGIN f := E; Out.Int(f(f(4)), 0); IF (f = D) & (g = NIL) THEN Out.Char(''!'') END; Out.Int(g(D(5)), 0) END P.
abbrev procvars : Outside Program
procvars b v = record { types = record { kinds = (Int ∷ (ProcedureKind 0) ∷ Nothing ∷ []); records = []; signatures = (record { formals = (record { mode = OfValue; variable = false; type_number = 0 } ∷ []); result = 0 } ∷ []) }; modules = (record { name = []; objects = []; variables = (1 ∷ 1 ∷ []); body = 2 } ∷ []); procedures = (record { «module» = 0; line = 1; is_body = false; formals = (record { mode = OfValue; variable = false; type_number = 0 } ∷ []); result = 0; locals = []; texts = []; body = ((OutInt (record { form = (Load (Whole (Local 0) Int)); kind = Int }) (record { form = (Literal 0); kind = Int })) ∷ []); answer = (Some (record { form = (Chain' b (Literal 2) (vec1 v) (more_of-Link (Operate Multiply (Load (Whole (Local 0) Int))) end_of-Link)); kind = Int })) } ∷ record { «module» = 0; line = 1; is_body = false; formals = (record { mode = OfValue; variable = false; type_number = 0 } ∷ []); result = 0; locals = []; texts = []; body = ((Assign (Whole (Global 0 0) (ProcedureKind 0)) (record { form = (Routine 0); kind = (ProcedureKind 0) })) ∷ []); answer = (Some (record { form = (Chain' b (Call' b (Indirect' (Whole (Global 0 0) (ProcedureKind 0)) (vec1 v) (more_of-Argument (ByValue (Load (Whole (Local 0) Int))) end_of-Argument))) (vec1 v) (more_of-Link (Operate Add (Literal 1)) end_of-Link)); kind = Int })) } ∷ record { «module» = 0; line = 1; is_body = true; formals = []; result = 2; locals = []; texts = []; body = ((Assign (Whole (Global 0 0) (ProcedureKind 0)) (record { form = (Routine 1); kind = (ProcedureKind 0) })) ∷ (OutInt (record { form = (Call' b (Indirect' (Whole (Global 0 0) (ProcedureKind 0)) (vec1 v) (more_of-Argument (ByValue (Call' b (Indirect' (Whole (Global 0 0) (ProcedureKind 0)) (vec1 v) (more_of-Argument (ByValue (Literal 4)) end_of-Argument)))) end_of-Argument))); kind = Int }) (record { form = (Literal 0); kind = Int })) ∷ (If' (vec1 v) (more_of-Branch (record { form = (Chain' b (Compare' Equal b (Load (Whole (Global 0 0) (ProcedureKind 0))) b (Routine 0)) (vec1 v) (more_of-Link (And (Compare' Equal b (Load (Whole (Global 0 1) (ProcedureKind 0))) b (Literal 0))) end_of-Link)); kind = BoolKind }) (vec1 v) (more_of-Stmt (OutChar (record { form = (Literal 33); kind = Char })) end_of-Stmt) end_of-Branch) (vec0 v) end_of-Stmt) ∷ (OutInt (record { form = (Call' b (Indirect' (Whole (Global 0 1) (ProcedureKind 0)) (vec1 v) (more_of-Argument (ByValue (Call' b (Direct' 0 (vec1 v) (more_of-Argument (ByValue (Literal 5)) end_of-Argument)))) end_of-Argument))); kind = Int }) (record { form = (Literal 0); kind = Int })) ∷ []); answer = None } ∷ []); imports_in = false }

pub procvars_formed : (b : Box (Unit {0}) Heap) (v : Vec (Unit {0}) Heap) → well_formed (procvars b v) ≡ true
unfolding data_tree record_row
procvars_formed b v = refl

-- MODULE S; IMPORT Out; VAR s: SET; i: INTEGER; BEGIN s := {1, 3..5, 7..6}; FOR i := 0 TO 0 DO INCL(s, 63); EXCL(s, 4) END; IF s - {63} = {1, 3, 5} THEN Out.Char(''a'') END; IF {1} <= s THEN Out.Char(''b'') END; IF ~(s >= {2}) THEN Out.Char(''c'') END; Out.Int(ORD(s), 0); s := {0..i, 64 - i * 0} END S.
abbrev setcons : Outside Program
setcons b v = record { types = record { kinds = (SetKind ∷ Int ∷ Nothing ∷ []); records = []; signatures = [] }; modules = (record { name = []; objects = []; variables = (0 ∷ 1 ∷ []); body = 0 } ∷ []); procedures = (record { «module» = 0; line = 1; is_body = true; formals = []; result = 2; locals = []; texts = []; body = ((Assign (Whole (Global 0 0) SetKind) (record { form = (Chain' b (Literal 0) (vec3 v) (more_of-Link (Element (Literal 1)) (more_of-Link (Elements' b (Literal 3) b (Literal 5)) (more_of-Link (Elements' b (Literal 7) b (Literal 6)) end_of-Link)))); kind = SetKind })) ∷ (For' b (Whole (Global 0 1) Int) (record { form = (Literal 0); kind = Int }) (record { form = (Literal 0); kind = Int }) (pos 1) (vec2 v) (more_of-Stmt (Include (Whole (Global 0 0) SetKind) (record { form = (Literal 63); kind = Int })) (more_of-Stmt (Exclude (Whole (Global 0 0) SetKind) (record { form = (Literal 4); kind = Int })) end_of-Stmt))) ∷ (If' (vec1 v) (more_of-Branch (record { form = (Compare' Equal b (Chain' b (Load (Whole (Global 0 0) SetKind)) (vec1 v) (more_of-Link (Operate Difference (Chain' b (Literal 0) (vec1 v) (more_of-Link (Element (Literal 63)) end_of-Link))) end_of-Link)) b (Chain' b (Literal 0) (vec3 v) (more_of-Link (Element (Literal 1)) (more_of-Link (Element (Literal 3)) (more_of-Link (Element (Literal 5)) end_of-Link))))); kind = BoolKind }) (vec1 v) (more_of-Stmt (OutChar (record { form = (Literal 97); kind = Char })) end_of-Stmt) end_of-Branch) (vec0 v) end_of-Stmt) ∷ (If' (vec1 v) (more_of-Branch (record { form = (Chain' b (Literal 0) (vec2 v) (more_of-Link (Element (Literal 1)) (more_of-Link (Operate Subset (Load (Whole (Global 0 0) SetKind))) end_of-Link))); kind = BoolKind }) (vec1 v) (more_of-Stmt (OutChar (record { form = (Literal 98); kind = Char })) end_of-Stmt) end_of-Branch) (vec0 v) end_of-Stmt) ∷ (If' (vec1 v) (more_of-Branch (record { form = (Unary' Not b (Chain' b (Load (Whole (Global 0 0) SetKind)) (vec1 v) (more_of-Link (Operate Superset (Chain' b (Literal 0) (vec1 v) (more_of-Link (Element (Literal 2)) end_of-Link))) end_of-Link))); kind = BoolKind }) (vec1 v) (more_of-Stmt (OutChar (record { form = (Literal 99); kind = Char })) end_of-Stmt) end_of-Branch) (vec0 v) end_of-Stmt) ∷ (OutInt (record { form = (Load (Whole (Global 0 0) SetKind)); kind = Int }) (record { form = (Literal 0); kind = Int })) ∷ (Assign (Whole (Global 0 0) SetKind) (record { form = (Chain' b (Literal 0) (vec2 v) (more_of-Link (Elements' b (Literal 0) b (Load (Whole (Global 0 1) Int))) (more_of-Link (Element (Chain' b (Literal 64) (vec1 v) (more_of-Link (Operate Subtract (Chain' b (Load (Whole (Global 0 1) Int)) (vec1 v) (more_of-Link (Operate Multiply (Literal 0)) end_of-Link))) end_of-Link))) end_of-Link))); kind = SetKind })) ∷ []); answer = None } ∷ []); imports_in = false }

pub setcons_formed : (b : Box (Unit {0}) Heap) (v : Vec (Unit {0}) Heap) → well_formed (setcons b v) ≡ true
unfolding data_tree record_row
setcons_formed b v = refl

-- MODULE O; IMPORT Out; VAR g: INTEGER; a: ARRAY 2 OF INTEGER; PROCEDURE F(): INTEGER; BEGIN g := g + 10 RETURN 1 END F; BEGIN g := 1; INC(g, F()); Out.Int(g, 0); a[g - 12] := F() + g; Out.Int(a[0], 0); IF (g = 0) & (1 DIV (g - g) = 1) OR (g # 0) THEN Out.Char(''k'') END; a[2] := 1 DIV 0 END O.
abbrev order : Outside Program
order b v = record { types = record { kinds = (Int ∷ (Array (Some 2) 0) ∷ Nothing ∷ []); records = []; signatures = [] }; modules = (record { name = []; objects = []; variables = (0 ∷ 1 ∷ []); body = 1 } ∷ []); procedures = (record { «module» = 0; line = 1; is_body = false; formals = []; result = 0; locals = []; texts = []; body = ((Assign (Whole (Global 0 0) Int) (record { form = (Chain' b (Load (Whole (Global 0 0) Int)) (vec1 v) (more_of-Link (Operate Add (Literal 10)) end_of-Link)); kind = Int })) ∷ []); answer = (Some (record { form = (Literal 1); kind = Int })) } ∷ record { «module» = 0; line = 1; is_body = true; formals = []; result = 2; locals = []; texts = []; body = ((Assign (Whole (Global 0 0) Int) (record { form = (Literal 1); kind = Int })) ∷ (Increase (Whole (Global 0 0) Int) (record { form = (Call' b (Direct' 0 (vec0 v) end_of-Argument)); kind = Int })) ∷ (OutInt (record { form = (Load (Whole (Global 0 0) Int)); kind = Int }) (record { form = (Literal 0); kind = Int })) ∷ (Assign (Part' b (Global 0 1) Int (vec1 v) (more_of-Selector (Index (Some 2) 0 (Chain' b (Load (Whole (Global 0 0) Int)) (vec1 v) (more_of-Link (Operate Subtract (Literal 12)) end_of-Link))) end_of-Selector)) (record { form = (Chain' b (Call' b (Direct' 0 (vec0 v) end_of-Argument)) (vec1 v) (more_of-Link (Operate Add (Load (Whole (Global 0 0) Int))) end_of-Link)); kind = Int })) ∷ (OutInt (record { form = (Load (Part' b (Global 0 1) Int (vec1 v) (more_of-Selector (Index (Some 2) 0 (Literal 0)) end_of-Selector))); kind = Int }) (record { form = (Literal 0); kind = Int })) ∷ (If' (vec1 v) (more_of-Branch (record { form = (Chain' b (Compare' Equal b (Load (Whole (Global 0 0) Int)) b (Literal 0)) (vec2 v) (more_of-Link (And (Compare' Equal b (Chain' b (Literal 1) (vec1 v) (more_of-Link (Operate Div (Chain' b (Load (Whole (Global 0 0) Int)) (vec1 v) (more_of-Link (Operate Subtract (Load (Whole (Global 0 0) Int))) end_of-Link))) end_of-Link)) b (Literal 1))) (more_of-Link (Or (Compare' Unequal b (Load (Whole (Global 0 0) Int)) b (Literal 0))) end_of-Link))); kind = BoolKind }) (vec1 v) (more_of-Stmt (OutChar (record { form = (Literal 107); kind = Char })) end_of-Stmt) end_of-Branch) (vec0 v) end_of-Stmt) ∷ (Assign (Part' b (Global 0 1) Int (vec1 v) (more_of-Selector (Index (Some 2) 0 (Literal 2)) end_of-Selector)) (record { form = (Chain' b (Literal 1) (vec1 v) (more_of-Link (Operate Div (Literal 0)) end_of-Link)); kind = Int })) ∷ []); answer = None } ∷ []); imports_in = false }

pub order_formed : (b : Box (Unit {0}) Heap) (v : Vec (Unit {0}) Heap) → well_formed (order b v) ≡ true
unfolding data_tree record_row
order_formed b v = refl

-- MODULE B; IMPORT Out; VAR b: BYTE; BEGIN b := 254; INC(b); Out.Int(b, 0); INC(b) END B.
abbrev byteinc : Outside Program
byteinc b v = record { types = record { kinds = (ByteKind ∷ Nothing ∷ []); records = []; signatures = [] }; modules = (record { name = []; objects = []; variables = (0 ∷ []); body = 0 } ∷ []); procedures = (record { «module» = 0; line = 1; is_body = true; formals = []; result = 1; locals = []; texts = []; body = ((Assign (Whole (Global 0 0) ByteKind) (record { form = (Byte' b (Literal 254)); kind = ByteKind })) ∷ (Increase (Whole (Global 0 0) ByteKind) (record { form = (Literal 1); kind = Int })) ∷ (OutInt (record { form = (Load (Whole (Global 0 0) ByteKind)); kind = ByteKind }) (record { form = (Literal 0); kind = Int })) ∷ (Increase (Whole (Global 0 0) ByteKind) (record { form = (Literal 1); kind = Int })) ∷ []); answer = None } ∷ []); imports_in = false }

pub byteinc_formed : (b : Box (Unit {0}) Heap) (v : Vec (Unit {0}) Heap) → well_formed (byteinc b v) ≡ true
unfolding data_tree record_row
byteinc_formed b v = refl

-- MODULE R; IMPORT Out; TYPE N = POINTER TO R; R = RECORD v: INTEGER; l, r: N END; VAR t: N; PROCEDURE Add(VAR t: N; v: INTEGER); BEGIN IF t = NIL THEN NEW(t); t.v := v ELSIF v < t.v THEN Add(t.l, v) ELSE Add(t.r, v) END END Add; PROCEDURE Walk(t: N); BEGIN IF t # NIL THEN Walk(t.l); Out.Int(t.v, 2); Walk(t.r) END END Walk; BEGIN Add(t, 5); Add(t, 2); Add(t, 8); Add(t, 6); Walk(t) END R.
abbrev recdeep : Outside Program
recdeep b v = record { types = record { kinds = ((RecordKind 0) ∷ (PointerKind 0) ∷ Int ∷ Nothing ∷ []); records = (record { «module» = 0; base = None; level = 0; fields = (record { name = []; exported = false; type_number = 2 } ∷ record { name = []; exported = false; type_number = 1 } ∷ record { name = []; exported = false; type_number = 1 } ∷ []); cells = 3; extent = record { bytes = 24; wide = true } } ∷ []); signatures = [] }; modules = (record { name = []; objects = []; variables = (1 ∷ []); body = 2 } ∷ []); procedures = (record { «module» = 0; line = 1; is_body = false; formals = (record { mode = Place; variable = true; type_number = 1 } ∷ record { mode = OfValue; variable = false; type_number = 2 } ∷ []); result = 3; locals = []; texts = []; body = ((If' (vec2 v) (more_of-Branch (record { form = (Compare' Equal b (Load (Whole (Parameter 0) (PointerKind 0))) b (Literal 0)); kind = BoolKind }) (vec2 v) (more_of-Stmt (New (Whole (Parameter 0) (PointerKind 0))) (more_of-Stmt (Assign (Part' b (Parameter 0) Int (vec2 v) (more_of-Selector (Dereference []) (more_of-Selector (Field 0 0) end_of-Selector))) (record { form = (Load (Whole (Local 0) Int)); kind = Int })) end_of-Stmt)) (more_of-Branch (record { form = (Compare' Less b (Load (Whole (Local 0) Int)) b (Load (Part' b (Parameter 0) Int (vec2 v) (more_of-Selector (Dereference []) (more_of-Selector (Field 0 0) end_of-Selector))))); kind = BoolKind }) (vec1 v) (more_of-Stmt (Invoke (Direct' 0 (vec2 v) (more_of-Argument (ByPlace (Part' b (Parameter 0) (PointerKind 0) (vec2 v) (more_of-Selector (Dereference []) (more_of-Selector (Field 0 1) end_of-Selector)))) (more_of-Argument (ByValue (Load (Whole (Local 0) Int))) end_of-Argument)))) end_of-Stmt) end_of-Branch)) (vec1 v) (more_of-Stmt (Invoke (Direct' 0 (vec2 v) (more_of-Argument (ByPlace (Part' b (Parameter 0) (PointerKind 0) (vec2 v) (more_of-Selector (Dereference []) (more_of-Selector (Field 0 2) end_of-Selector)))) (more_of-Argument (ByValue (Load (Whole (Local 0) Int))) end_of-Argument)))) end_of-Stmt)) ∷ []); answer = None } ∷ record { «module» = 0; line = 1; is_body = false; formals = (record { mode = OfValue; variable = false; type_number = 1 } ∷ []); result = 3; locals = []; texts = []; body = ((If' (vec1 v) (more_of-Branch (record { form = (Compare' Unequal b (Load (Whole (Local 0) (PointerKind 0))) b (Literal 0)); kind = BoolKind }) (vec3 v) (more_of-Stmt (Invoke (Direct' 1 (vec1 v) (more_of-Argument (ByValue (Load (Part' b (Local 0) (PointerKind 0) (vec2 v) (more_of-Selector (Dereference []) (more_of-Selector (Field 0 1) end_of-Selector))))) end_of-Argument))) (more_of-Stmt (OutInt (record { form = (Load (Part' b (Local 0) Int (vec2 v) (more_of-Selector (Dereference []) (more_of-Selector (Field 0 0) end_of-Selector)))); kind = Int }) (record { form = (Literal 2); kind = Int })) (more_of-Stmt (Invoke (Direct' 1 (vec1 v) (more_of-Argument (ByValue (Load (Part' b (Local 0) (PointerKind 0) (vec2 v) (more_of-Selector (Dereference []) (more_of-Selector (Field 0 2) end_of-Selector))))) end_of-Argument))) end_of-Stmt))) end_of-Branch) (vec0 v) end_of-Stmt) ∷ []); answer = None } ∷ record { «module» = 0; line = 1; is_body = true; formals = []; result = 3; locals = []; texts = []; body = ((Invoke (Direct' 0 (vec2 v) (more_of-Argument (ByPlace (Whole (Global 0 0) (PointerKind 0))) (more_of-Argument (ByValue (Literal 5)) end_of-Argument)))) ∷ (Invoke (Direct' 0 (vec2 v) (more_of-Argument (ByPlace (Whole (Global 0 0) (PointerKind 0))) (more_of-Argument (ByValue (Literal 2)) end_of-Argument)))) ∷ (Invoke (Direct' 0 (vec2 v) (more_of-Argument (ByPlace (Whole (Global 0 0) (PointerKind 0))) (more_of-Argument (ByValue (Literal 8)) end_of-Argument)))) ∷ (Invoke (Direct' 0 (vec2 v) (more_of-Argument (ByPlace (Whole (Global 0 0) (PointerKind 0))) (more_of-Argument (ByValue (Literal 6)) end_of-Argument)))) ∷ (Invoke (Direct' 1 (vec1 v) (more_of-Argument (ByValue (Load (Whole (Global 0 0) (PointerKind 0)))) end_of-Argument))) ∷ []); answer = None } ∷ []); imports_in = false }

pub recdeep_formed : (b : Box (Unit {0}) Heap) (v : Vec (Unit {0}) Heap) → well_formed (recdeep b v) ≡ true
unfolding data_tree record_row
recdeep_formed b v = refl

-- MODULE Z; IMPORT Out; PROCEDURE P; VAR i: INTEGER; a: ARRAY 3 OF CHAR; BEGIN Out.Char(''p''); a[i] := ''q''; Out.String(a) END P; BEGIN Out.Char(''(''); P; Out.Char('')'') END Z.
abbrev localzero : Outside Program
localzero b v = record { types = record { kinds = (Char ∷ Nothing ∷ Int ∷ (Array (Some 3) 0) ∷ []); records = []; signatures = [] }; modules = (record { name = []; objects = []; variables = []; body = 1 } ∷ []); procedures = (record { «module» = 0; line = 1; is_body = false; formals = []; result = 1; locals = (2 ∷ 3 ∷ []); texts = []; body = ((OutChar (record { form = (Literal 112); kind = Char })) ∷ (Assign (Part' b (Local 1) Char (vec1 v) (more_of-Selector (Index (Some 3) 0 (Load (Whole (Local 0) Int))) end_of-Selector)) (record { form = (Literal 113); kind = Char })) ∷ (OutString (Whole (Local 1) (Array (Some 3) 0))) ∷ []); answer = None } ∷ record { «module» = 0; line = 1; is_body = true; formals = []; result = 1; locals = []; texts = []; body = ((OutChar (record { form = (Literal 40); kind = Char })) ∷ (Invoke (Direct' 0 (vec0 v) end_of-Argument)) ∷ (OutChar (record { form = (Literal 41); kind = Char })) ∷ []); answer = None } ∷ []); imports_in = false }

pub localzero_formed : (b : Box (Unit {0}) Heap) (v : Vec (Unit {0}) Heap) → well_formed (localzero b v) ≡ true
unfolding data_tree record_row
localzero_formed b v = refl

-- MODULE R; IMPORT Out; VAR i: INTEGER; BEGIN REPEAT INC(i); IF i = 2 THEN Out.Char(''2'') ELSIF i = 3 THEN Out.Char(''3'') ELSE Out.Char(''-'') END UNTIL i = 4 END R.
abbrev repeats : Outside Program
repeats b v = record { types = record { kinds = (Int ∷ Nothing ∷ []); records = []; signatures = [] }; modules = (record { name = []; objects = []; variables = (0 ∷ []); body = 0 } ∷ []); procedures = (record { «module» = 0; line = 1; is_body = true; formals = []; result = 1; locals = []; texts = []; body = ((Repeat' (vec2 v) (more_of-Stmt (Increase (Whole (Global 0 0) Int) (record { form = (Literal 1); kind = Int })) (more_of-Stmt (If' (vec2 v) (more_of-Branch (record { form = (Compare' Equal b (Load (Whole (Global 0 0) Int)) b (Literal 2)); kind = BoolKind }) (vec1 v) (more_of-Stmt (OutChar (record { form = (Literal 50); kind = Char })) end_of-Stmt) (more_of-Branch (record { form = (Compare' Equal b (Load (Whole (Global 0 0) Int)) b (Literal 3)); kind = BoolKind }) (vec1 v) (more_of-Stmt (OutChar (record { form = (Literal 51); kind = Char })) end_of-Stmt) end_of-Branch)) (vec1 v) (more_of-Stmt (OutChar (record { form = (Literal 45); kind = Char })) end_of-Stmt)) end_of-Stmt)) (record { form = (Compare' Equal b (Load (Whole (Global 0 0) Int)) b (Literal 4)); kind = BoolKind })) ∷ []); answer = None } ∷ []); imports_in = false }

pub repeats_formed : (b : Box (Unit {0}) Heap) (v : Vec (Unit {0}) Heap) → well_formed (repeats b v) ≡ true
unfolding data_tree record_row
repeats_formed b v = refl

-- MODULE W; IMPORT Out; VAR a, b: INTEGER; BEGIN a := 12; b := 18; WHILE a > b DO a := a - b; Out.Char(''a'') ELSIF b > a DO b := b - a; Out.Char(''b'') END; Out.Int(a, 0) END W.
abbrev whileelsif : Outside Program
whileelsif b v = record { types = record { kinds = (Int ∷ Nothing ∷ []); records = []; signatures = [] }; modules = (record { name = []; objects = []; variables = (0 ∷ 0 ∷ []); body = 0 } ∷ []); procedures = (record { «module» = 0; line = 1; is_body = true; formals = []; result = 1; locals = []; texts = []; body = ((Assign (Whole (Global 0 0) Int) (record { form = (Literal 12); kind = Int })) ∷ (Assign (Whole (Global 0 1) Int) (record { form = (Literal 18); kind = Int })) ∷ (While' (vec2 v) (more_of-Branch (record { form = (Compare' Greater b (Load (Whole (Global 0 0) Int)) b (Load (Whole (Global 0 1) Int))); kind = BoolKind }) (vec2 v) (more_of-Stmt (Assign (Whole (Global 0 0) Int) (record { form = (Chain' b (Load (Whole (Global 0 0) Int)) (vec1 v) (more_of-Link (Operate Subtract (Load (Whole (Global 0 1) Int))) end_of-Link)); kind = Int })) (more_of-Stmt (OutChar (record { form = (Literal 97); kind = Char })) end_of-Stmt)) (more_of-Branch (record { form = (Compare' Greater b (Load (Whole (Global 0 1) Int)) b (Load (Whole (Global 0 0) Int))); kind = BoolKind }) (vec2 v) (more_of-Stmt (Assign (Whole (Global 0 1) Int) (record { form = (Chain' b (Load (Whole (Global 0 1) Int)) (vec1 v) (more_of-Link (Operate Subtract (Load (Whole (Global 0 0) Int))) end_of-Link)); kind = Int })) (more_of-Stmt (OutChar (record { form = (Literal 98); kind = Char })) end_of-Stmt)) end_of-Branch))) ∷ (OutInt (record { form = (Load (Whole (Global 0 0) Int)); kind = Int }) (record { form = (Literal 0); kind = Int })) ∷ []); answer = None } ∷ []); imports_in = false }

pub whileelsif_formed : (b : Box (Unit {0}) Heap) (v : Vec (Unit {0}) Heap) → well_formed (whileelsif b v) ≡ true
unfolding data_tree record_row
whileelsif_formed b v = refl

-- MODULE C; IMPORT Out; VAR c: CHAR; i: INTEGER; BEGIN FOR i := 0 TO 2 DO c := CHR(i * 5 + ORD(''a'')); CASE c OF ''a'': Out.Char(''1'') | ''b''..''f'', ''z'': Out.Char(''2'') | ''k'': Out.Char(''3'') END END; c := CHR(-1 + i * 0) END C.
abbrev cases : Outside Program
cases b v = record { types = record { kinds = (Char ∷ Int ∷ Nothing ∷ []); records = []; signatures = [] }; modules = (record { name = []; objects = []; variables = (0 ∷ 1 ∷ []); body = 0 } ∷ []); procedures = (record { «module» = 0; line = 1; is_body = true; formals = []; result = 2; locals = []; texts = []; body = ((For' b (Whole (Global 0 1) Int) (record { form = (Literal 0); kind = Int }) (record { form = (Literal 2); kind = Int }) (pos 1) (vec2 v) (more_of-Stmt (Assign (Whole (Global 0 0) Char) (record { form = (Byte' b (Chain' b (Load (Whole (Global 0 1) Int)) (vec2 v) (more_of-Link (Operate Multiply (Literal 5)) (more_of-Link (Operate Add (Literal 97)) end_of-Link)))); kind = Char })) (more_of-Stmt (Case' (record { form = (Load (Whole (Global 0 0) Char)); kind = Char }) (vec3 v) (more_of-CasePart (One (pos 97) ∷ []) (vec1 v) (more_of-Stmt (OutChar (record { form = (Literal 49); kind = Char })) end_of-Stmt) (more_of-CasePart (Range (pos 98) (pos 102) ∷ One (pos 122) ∷ []) (vec1 v) (more_of-Stmt (OutChar (record { form = (Literal 50); kind = Char })) end_of-Stmt) (more_of-CasePart (One (pos 107) ∷ []) (vec1 v) (more_of-Stmt (OutChar (record { form = (Literal 51); kind = Char })) end_of-Stmt) end_of-CasePart)))) end_of-Stmt))) ∷ (Assign (Whole (Global 0 0) Char) (record { form = (Byte' b (Chain' b (Unary' Negate b (Literal 1)) (vec1 v) (more_of-Link (Operate Add (Chain' b (Load (Whole (Global 0 1) Int)) (vec1 v) (more_of-Link (Operate Multiply (Literal 0)) end_of-Link))) end_of-Link))); kind = Char })) ∷ []); answer = None } ∷ []); imports_in = false }

pub cases_formed : (b : Box (Unit {0}) Heap) (v : Vec (Unit {0}) Heap) → well_formed (cases b v) ≡ true
unfolding data_tree record_row
cases_formed b v = refl

-- MODULE S; IMPORT Out; BEGIN Out.Int(LSL(1, 65), 0); Out.Int(ASR(-8, 1), 3); Out.Int(ROR(1, 1), 0); Out.Int(ABS(-3), 0); IF ODD(-3) THEN Out.Char(''o'') END END S.
abbrev shifts : Outside Program
shifts b v = record { types = record { kinds = (Nothing ∷ []); records = []; signatures = [] }; modules = (record { name = []; objects = []; variables = []; body = 0 } ∷ []); procedures = (record { «module» = 0; line = 1; is_body = true; formals = []; result = 0; locals = []; texts = []; body = ((OutInt (record { form = (Chain' b (Literal 1) (vec1 v) (more_of-Link (Operate Lsl (Literal 65)) end_of-Link)); kind = Int }) (record { form = (Literal 0); kind = Int })) ∷ (OutInt (record { form = (Chain' b (Unary' Negate b (Literal 8)) (vec1 v) (more_of-Link (Operate Asr (Literal 1)) end_of-Link)); kind = Int }) (record { form = (Literal 3); kind = Int })) ∷ (OutInt (record { form = (Chain' b (Literal 1) (vec1 v) (more_of-Link (Operate Ror (Literal 1)) end_of-Link)); kind = Int }) (record { form = (Literal 0); kind = Int })) ∷ (OutInt (record { form = (Unary' Abs b (Unary' Negate b (Literal 3))); kind = Int }) (record { form = (Literal 0); kind = Int })) ∷ (If' (vec1 v) (more_of-Branch (record { form = (Unary' Odd b (Unary' Negate b (Literal 3))); kind = BoolKind }) (vec1 v) (more_of-Stmt (OutChar (record { form = (Literal 111); kind = Char })) end_of-Stmt) end_of-Branch) (vec0 v) end_of-Stmt) ∷ []); answer = None } ∷ []); imports_in = false }

pub shifts_formed : (b : Box (Unit {0}) Heap) (v : Vec (Unit {0}) Heap) → well_formed (shifts b v) ≡ true
unfolding data_tree record_row
shifts_formed b v = refl

-- MODULE M; IMPORT Out; VAR even: PROCEDURE (n: INTEGER): BOOLEAN; PROCEDURE Odd(n: INTEGER): BOOLEAN; VAR r: BOOLEAN; BEGIN r := FALSE; IF n > 0 THEN r := even(n - 1) END RETURN r END Odd; PROCEDURE Even(n: INTEGER): BOOLEAN; VAR r: BOOLEAN; BEGIN r := TRUE; IF n > 0 THEN r := Odd(n - 1) END RETURN r END Even; BEGIN even := Even; IF Even(6) THEN Out.Char(''e'') END; even := NIL; IF Odd(1) THEN Out.Char(''o'') END END M.
abbrev evenodd : Outside Program
evenodd b v = record { types = record { kinds = (Int ∷ BoolKind ∷ (ProcedureKind 0) ∷ Nothing ∷ []); records = []; signatures = (record { formals = (record { mode = OfValue; variable = false; type_number = 0 } ∷ []); result = 1 } ∷ []) }; modules = (record { name = []; objects = []; variables = (2 ∷ []); body = 2 } ∷ []); procedures = (record { «module» = 0; line = 1; is_body = false; formals = (record { mode = OfValue; variable = false; type_number = 0 } ∷ []); result = 1; locals = (1 ∷ []); texts = []; body = ((Assign (Whole (Local 1) BoolKind) (record { form = (Literal 0); kind = BoolKind })) ∷ (If' (vec1 v) (more_of-Branch (record { form = (Compare' Greater b (Load (Whole (Local 0) Int)) b (Literal 0)); kind = BoolKind }) (vec1 v) (more_of-Stmt (Assign (Whole (Local 1) BoolKind) (record { form = (Call' b (Indirect' (Whole (Global 0 0) (ProcedureKind 0)) (vec1 v) (more_of-Argument (ByValue (Chain' b (Load (Whole (Local 0) Int)) (vec1 v) (more_of-Link (Operate Subtract (Literal 1)) end_of-Link))) end_of-Argument))); kind = BoolKind })) end_of-Stmt) end_of-Branch) (vec0 v) end_of-Stmt) ∷ []); answer = (Some (record { form = (Load (Whole (Local 1) BoolKind)); kind = BoolKind })) } ∷ record { «module» = 0; line = 1; is_body = false; formals = (record { mode = OfValue; variable = false; type_number = 0 } ∷ []); result = 1; locals = (1 ∷ []); texts = []; body = ((Assign (Whole (Local 1) BoolKind) (record { form = (Literal 1); kind = BoolKind })) ∷ (If' (vec1 v) (more_of-Branch (record { form = (Compare' Greater b (Load (Whole (Local 0) Int)) b (Literal 0)); kind = BoolKind }) (vec1 v) (more_of-Stmt (Assign (Whole (Local 1) BoolKind) (record { form = (Call' b (Direct' 0 (vec1 v) (more_of-Argument (ByValue (Chain' b (Load (Whole (Local 0) Int)) (vec1 v) (more_of-Link (Operate Subtract (Literal 1)) end_of-Link))) end_of-Argument))); kind = BoolKind })) end_of-Stmt) end_of-Branch) (vec0 v) end_of-Stmt) ∷ []); answer = (Some (record { form = (Load (Whole (Local 1) BoolKind)); kind = BoolKind })) } ∷ record { «module» = 0; line = 1; is_body = true; formals = []; result = 3; locals = []; texts = []; body = ((Assign (Whole (Global 0 0) (ProcedureKind 0)) (record { form = (Routine 1); kind = (ProcedureKind 0) })) ∷ (If' (vec1 v) (more_of-Branch (record { form = (Call' b (Direct' 1 (vec1 v) (more_of-Argument (ByValue (Literal 6)) end_of-Argument))); kind = BoolKind }) (vec1 v) (more_of-Stmt (OutChar (record { form = (Literal 101); kind = Char })) end_of-Stmt) end_of-Branch) (vec0 v) end_of-Stmt) ∷ (Assign (Whole (Global 0 0) (ProcedureKind 0)) (record { form = (Literal 0); kind = Nil })) ∷ (If' (vec1 v) (more_of-Branch (record { form = (Call' b (Direct' 0 (vec1 v) (more_of-Argument (ByValue (Literal 1)) end_of-Argument))); kind = BoolKind }) (vec1 v) (more_of-Stmt (OutChar (record { form = (Literal 111); kind = Char })) end_of-Stmt) end_of-Branch) (vec0 v) end_of-Stmt) ∷ []); answer = None } ∷ []); imports_in = false }

pub evenodd_formed : (b : Box (Unit {0}) Heap) (v : Vec (Unit {0}) Heap) → well_formed (evenodd b v) ≡ true
unfolding data_tree record_row
evenodd_formed b v = refl

-- MODULE V; IMPORT Out; TYPE R = RECORD a: INTEGER; n: RECORD b: ARRAY 2 OF CHAR END END; E = RECORD (R) e: INTEGER END; VAR r: R; e: E; PROCEDURE P(x: R; VAR y: R); BEGIN y.a := 9; Out.Int(x.a, 0); y.n.b := x.n.b; y := x END P; BEGIN e.a := 3; P(e, e); P(r, e); Out.Int(e.a, 0) END V.
abbrev alias : Outside Program
alias b v = record { types = record { kinds = ((RecordKind 0) ∷ (RecordKind 1) ∷ (RecordKind 2) ∷ Char ∷ Nothing ∷ Int ∷ (Array (Some 2) 3) ∷ []); records = (record { «module» = 0; base = None; level = 0; fields = (record { name = []; exported = false; type_number = 5 } ∷ record { name = []; exported = false; type_number = 1 } ∷ []); cells = 3; extent = record { bytes = 16; wide = true } } ∷ record { «module» = 0; base = None; level = 0; fields = (record { name = []; exported = false; type_number = 6 } ∷ []); cells = 2; extent = record { bytes = 2; wide = false } } ∷ record { «module» = 0; base = (Some 0); level = 1; fields = (record { name = []; exported = false; type_number = 5 } ∷ []); cells = 4; extent = record { bytes = 24; wide = true } } ∷ []); signatures = [] }; modules = (record { name = []; objects = []; variables = (0 ∷ 2 ∷ []); body = 1 } ∷ []); procedures = (record { «module» = 0; line = 1; is_body = false; formals = (record { mode = Place; variable = false; type_number = 0 } ∷ record { mode = OfRecord; variable = true; type_number = 0 } ∷ []); result = 4; locals = []; texts = []; body = ((Assign (Part' b (Parameter 1) Int (vec1 v) (more_of-Selector (Field 0 0) end_of-Selector)) (record { form = (Literal 9); kind = Int })) ∷ (OutInt (record { form = (Load (Part' b (Parameter 0) Int (vec1 v) (more_of-Selector (Field 0 0) end_of-Selector))); kind = Int }) (record { form = (Literal 0); kind = Int })) ∷ (CopyArray (Part' b (Parameter 1) (Array (Some 2) 3) (vec2 v) (more_of-Selector (Field 0 1) (more_of-Selector (Field 1 0) end_of-Selector))) (Part' b (Parameter 0) (Array (Some 2) 3) (vec2 v) (more_of-Selector (Field 0 1) (more_of-Selector (Field 1 0) end_of-Selector)))) ∷ (CopyRecord (Whole (Parameter 1) (RecordKind 0)) (Whole (Parameter 0) (RecordKind 0))) ∷ []); answer = None } ∷ record { «module» = 0; line = 1; is_body = true; formals = []; result = 4; locals = []; texts = []; body = ((Assign (Part' b (Global 0 1) Int (vec1 v) (more_of-Selector (Field 0 0) end_of-Selector)) (record { form = (Literal 3); kind = Int })) ∷ (Invoke (Direct' 0 (vec2 v) (more_of-Argument (ByPlace (Whole (Global 0 1) (RecordKind 2))) (more_of-Argument (ByRecord (Whole (Global 0 1) (RecordKind 2))) end_of-Argument)))) ∷ (Invoke (Direct' 0 (vec2 v) (more_of-Argument (ByPlace (Whole (Global 0 0) (RecordKind 0))) (more_of-Argument (ByRecord (Whole (Global 0 1) (RecordKind 2))) end_of-Argument)))) ∷ (OutInt (record { form = (Load (Part' b (Global 0 1) Int (vec1 v) (more_of-Selector (Field 0 0) end_of-Selector))); kind = Int }) (record { form = (Literal 0); kind = Int })) ∷ []); answer = None } ∷ []); imports_in = false }

pub alias_formed : (b : Box (Unit {0}) Heap) (v : Vec (Unit {0}) Heap) → well_formed (alias b v) ≡ true
unfolding data_tree record_row
alias_formed b v = refl

-- MODULE Queens; IMPORT Out; VAR a: ARRAY 4 OF BOOLEAN; b, c: ARRAY 7 OF BOOLEAN; count: INTEGER; PROCEDURE Try(i: INTEGER); VAR j: INTEGER; BEGIN FOR j := 0 TO 3 DO IF ~a[j] & ~b[i + j] & ~c[i - j + 3] THEN a[j] := TRUE; b[i + j] := TRUE; c[i - j + 3] := TRUE; IF i < 3 THEN Try(i + 1) ELSE INC(count) END; a[j] := FALSE; b[i + j] := FALSE; c[i - j + 3] := FALSE END END END Try; BEGIN Try(0); Out.Int(count, 0); Out.Ln END Queens.
abbrev queens4 : Outside Program
queens4 b v = record { types = record { kinds = (BoolKind ∷ (Array (Some 4) 0) ∷ (Array (Some 7) 0) ∷ Int ∷ Nothing ∷ []); records = []; signatures = [] }; modules = (record { name = []; objects = []; variables = (1 ∷ 2 ∷ 2 ∷ 3 ∷ []); body = 1 } ∷ []); procedures = (record { «module» = 0; line = 1; is_body = false; formals = (record { mode = OfValue; variable = false; type_number = 3 } ∷ []); result = 4; locals = (3 ∷ []); texts = []; body = ((For' b (Whole (Local 1) Int) (record { form = (Literal 0); kind = Int }) (record { form = (Literal 3); kind = Int }) (pos 1) (vec1 v) (more_of-Stmt (If' (vec1 v) (more_of-Branch (record { form = (Chain' b (Unary' Not b (Load (Part' b (Global 0 0) BoolKind (vec1 v) (more_of-Selector (Index (Some 4) 0 (Load (Whole (Local 1) Int))) end_of-Selector)))) (vec2 v) (more_of-Link (And (Unary' Not b (Load (Part' b (Global 0 1) BoolKind (vec1 v) (more_of-Selector (Index (Some 7) 0 (Chain' b (Load (Whole (Local 0) Int)) (vec1 v) (more_of-Link (Operate Add (Load (Whole (Local 1) Int))) end_of-Link))) end_of-Selector))))) (more_of-Link (And (Unary' Not b (Load (Part' b (Global 0 2) BoolKind (vec1 v) (more_of-Selector (Index (Some 7) 0 (Chain' b (Load (Whole (Local 0) Int)) (vec2 v) (more_of-Link (Operate Subtract (Load (Whole (Local 1) Int))) (more_of-Link (Operate Add (Literal 3)) end_of-Link)))) end_of-Selector))))) end_of-Link))); kind = BoolKind }) (vec7 v) (more_of-Stmt (Assign (Part' b (Global 0 0) BoolKind (vec1 v) (more_of-Selector (Index (Some 4) 0 (Load (Whole (Local 1) Int))) end_of-Selector)) (record { form = (Literal 1); kind = BoolKind })) (more_of-Stmt (Assign (Part' b (Global 0 1) BoolKind (vec1 v) (more_of-Selector (Index (Some 7) 0 (Chain' b (Load (Whole (Local 0) Int)) (vec1 v) (more_of-Link (Operate Add (Load (Whole (Local 1) Int))) end_of-Link))) end_of-Selector)) (record { form = (Literal 1); kind = BoolKind })) (more_of-Stmt (Assign (Part' b (Global 0 2) BoolKind (vec1 v) (more_of-Selector (Index (Some 7) 0 (Chain' b (Load (Whole (Local 0) Int)) (vec2 v) (more_of-Link (Operate Subtract (Load (Whole (Local 1) Int))) (more_of-Link (Operate Add (Literal 3)) end_of-Link)))) end_of-Selector)) (record { form = (Literal 1); kind = BoolKind })) (more_of-Stmt (If' (vec1 v) (more_of-Branch (record { form = (Compare' Less b (Load (Whole (Local 0) Int)) b (Literal 3)); kind = BoolKind }) (vec1 v) (more_of-Stmt (Invoke (Direct' 0 (vec1 v) (more_of-Argument (ByValue (Chain' b (Load (Whole (Local 0) Int)) (vec1 v) (more_of-Link (Operate Add (Literal 1)) end_of-Link))) end_of-Argument))) end_of-Stmt) end_of-Branch) (vec1 v) (more_of-Stmt (Increase (Whole (Global 0 3) Int) (record { form = (Literal 1); kind = Int })) end_of-Stmt)) (more_of-Stmt (Assign (Part' b (Global 0 0) BoolKind (vec1 v) (more_of-Selector (Index (Some 4) 0 (Load (Whole (Local 1) Int))) end_of-Selector)) (record { form = (Literal 0); kind = BoolKind })) (more_of-Stmt (Assign (Part' b (Global 0 1) BoolKind (vec1 v) (more_of-Selector (Index (Some 7) 0 (Chain' b (Load (Whole (Local 0) Int)) (vec1 v) (more_of-Link (Operate Add (Load (Whole (Local 1) Int))) end_of-Link))) end_of-Selector)) (record { form = (Literal 0); kind = BoolKind })) (more_of-Stmt (Assign (Part' b (Global 0 2) BoolKind (vec1 v) (more_of-Selector (Index (Some 7) 0 (Chain' b (Load (Whole (Local 0) Int)) (vec2 v) (more_of-Link (Operate Subtract (Load (Whole (Local 1) Int))) (more_of-Link (Operate Add (Literal 3)) end_of-Link)))) end_of-Selector)) (record { form = (Literal 0); kind = BoolKind })) end_of-Stmt))))))) end_of-Branch) (vec0 v) end_of-Stmt) end_of-Stmt)) ∷ []); answer = None } ∷ record { «module» = 0; line = 1; is_body = true; formals = []; result = 4; locals = []; texts = []; body = ((Invoke (Direct' 0 (vec1 v) (more_of-Argument (ByValue (Literal 0)) end_of-Argument))) ∷ (OutInt (record { form = (Load (Whole (Global 0 3) Int)); kind = Int }) (record { form = (Literal 0); kind = Int })) ∷ OutLn ∷ []); answer = None } ∷ []); imports_in = false }

pub queens4_formed : (b : Box (Unit {0}) Heap) (v : Vec (Unit {0}) Heap) → well_formed (queens4 b v) ≡ true
unfolding data_tree record_row
queens4_formed b v = refl

-- MODULE R; VAR i: INTEGER; PROCEDURE F(): INTEGER; BEGIN RETURN 1 DIV i END F; BEGIN i := F() END R.
abbrev returnorder : Outside Program
returnorder b v = record { types = record { kinds = (Int ∷ Nothing ∷ []); records = []; signatures = [] }; modules = (record { name = []; objects = []; variables = (0 ∷ []); body = 1 } ∷ []); procedures = (record { «module» = 0; line = 1; is_body = false; formals = []; result = 0; locals = []; texts = []; body = []; answer = (Some (record { form = (Chain' b (Literal 1) (vec1 v) (more_of-Link (Operate Div (Load (Whole (Global 0 0) Int))) end_of-Link)); kind = Int })) } ∷ record { «module» = 0; line = 1; is_body = true; formals = []; result = 1; locals = []; texts = []; body = ((Assign (Whole (Global 0 0) Int) (record { form = (Call' b (Direct' 0 (vec0 v) end_of-Argument)); kind = Int })) ∷ []); answer = None } ∷ []); imports_in = false }

pub returnorder_formed : (b : Box (Unit {0}) Heap) (v : Vec (Unit {0}) Heap) → well_formed (returnorder b v) ≡ true
unfolding data_tree record_row
returnorder_formed b v = refl

-- MODULE G; IMPORT Out; VAR i: INTEGER; PROCEDURE F(): INTEGER; BEGIN Out.Char(''f'') RETURN 70 END F; BEGIN REPEAT Out.Char(''r''); ASSERT(F() IN {i, F()}) UNTIL TRUE END G.
abbrev guardorder : Outside Program
guardorder b v = record { types = record { kinds = (Int ∷ Nothing ∷ []); records = []; signatures = [] }; modules = (record { name = []; objects = []; variables = (0 ∷ []); body = 1 } ∷ []); procedures = (record { «module» = 0; line = 1; is_body = false; formals = []; result = 0; locals = []; texts = []; body = ((OutChar (record { form = (Literal 102); kind = Char })) ∷ []); answer = (Some (record { form = (Literal 70); kind = Int })) } ∷ record { «module» = 0; line = 1; is_body = true; formals = []; result = 1; locals = []; texts = []; body = ((Repeat' (vec2 v) (more_of-Stmt (OutChar (record { form = (Literal 114); kind = Char })) (more_of-Stmt (Assert (record { form = (In' b (Call' b (Direct' 0 (vec0 v) end_of-Argument)) b (Chain' b (Literal 0) (vec2 v) (more_of-Link (Element (Load (Whole (Global 0 0) Int))) (more_of-Link (Element (Call' b (Direct' 0 (vec0 v) end_of-Argument))) end_of-Link)))); kind = BoolKind })) end_of-Stmt)) (record { form = (Literal 1); kind = BoolKind })) ∷ []); answer = None } ∷ []); imports_in = false }

pub guardorder_formed : (b : Box (Unit {0}) Heap) (v : Vec (Unit {0}) Heap) → well_formed (guardorder b v) ≡ true
unfolding data_tree record_row
guardorder_formed b v = refl

-- MODULE L; IMPORT Out; VAR i: INTEGER; s: SET; BEGIN FOR i := 1 TO 3 DO Out.Int(i, 0) END; Out.Char(''x''); s := {i .. 64, 1 DIV 0} END L.
abbrev loopturns : Outside Program
loopturns b v = record { types = record { kinds = (Int ∷ SetKind ∷ Nothing ∷ []); records = []; signatures = [] }; modules = (record { name = []; objects = []; variables = (0 ∷ 1 ∷ []); body = 0 } ∷ []); procedures = (record { «module» = 0; line = 1; is_body = true; formals = []; result = 2; locals = []; texts = []; body = ((For' b (Whole (Global 0 0) Int) (record { form = (Literal 1); kind = Int }) (record { form = (Literal 3); kind = Int }) (pos 1) (vec1 v) (more_of-Stmt (OutInt (record { form = (Load (Whole (Global 0 0) Int)); kind = Int }) (record { form = (Literal 0); kind = Int })) end_of-Stmt)) ∷ (OutChar (record { form = (Literal 120); kind = Char })) ∷ (Assign (Whole (Global 0 1) SetKind) (record { form = (Chain' b (Literal 0) (vec2 v) (more_of-Link (Elements' b (Load (Whole (Global 0 0) Int)) b (Literal 64)) (more_of-Link (Element (Chain' b (Literal 1) (vec1 v) (more_of-Link (Operate Div (Literal 0)) end_of-Link))) end_of-Link))); kind = SetKind })) ∷ []); answer = None } ∷ []); imports_in = false }

pub loopturns_formed : (b : Box (Unit {0}) Heap) (v : Vec (Unit {0}) Heap) → well_formed (loopturns b v) ≡ true
unfolding data_tree record_row
loopturns_formed b v = refl

-- MODULE L; IMPORT Out; VAR i: INTEGER; BEGIN FOR i := 1 TO 3 DO Out.Int(i, 0) END; Out.Char(''x'') END L.
abbrev loopturn : Outside Program
loopturn b v = record { types = record { kinds = (Int ∷ Nothing ∷ []); records = []; signatures = [] }; modules = (record { name = []; objects = []; variables = (0 ∷ []); body = 0 } ∷ []); procedures = (record { «module» = 0; line = 1; is_body = true; formals = []; result = 1; locals = []; texts = []; body = ((For' b (Whole (Global 0 0) Int) (record { form = (Literal 1); kind = Int }) (record { form = (Literal 3); kind = Int }) (pos 1) (vec1 v) (more_of-Stmt (OutInt (record { form = (Load (Whole (Global 0 0) Int)); kind = Int }) (record { form = (Literal 0); kind = Int })) end_of-Stmt)) ∷ (OutChar (record { form = (Literal 120); kind = Char })) ∷ []); answer = None } ∷ []); imports_in = false }

pub loopturn_formed : (b : Box (Unit {0}) Heap) (v : Vec (Unit {0}) Heap) → well_formed (loopturn b v) ≡ true
unfolding data_tree record_row
loopturn_formed b v = refl

-- MODULE C; IMPORT Out; VAR a: ARRAY 3 OF CHAR; PROCEDURE P(VAR x: ARRAY OF CHAR; y: ARRAY OF CHAR); BEGIN x := y; Out.String(x) END P; BEGIN a := ''hi''; P(a, a) END C.
abbrev copyself : Outside Program
copyself b v = record { types = record { kinds = (Char ∷ (Array (Some 3) 0) ∷ (Array None 0) ∷ Nothing ∷ []); records = []; signatures = [] }; modules = (record { name = []; objects = []; variables = (1 ∷ []); body = 1 } ∷ []); procedures = (record { «module» = 0; line = 1; is_body = false; formals = (record { mode = OfOpen; variable = true; type_number = 2 } ∷ record { mode = OfOpen; variable = false; type_number = 2 } ∷ []); result = 3; locals = []; texts = []; body = ((CopyArray (Whole (Parameter 0) (Array None 0)) (Whole (Parameter 1) (Array None 0))) ∷ (OutString (Whole (Parameter 0) (Array None 0))) ∷ []); answer = None } ∷ record { «module» = 0; line = 1; is_body = true; formals = []; result = 3; locals = []; texts = ((104 ∷ 105 ∷ []) ∷ []); body = ((CopyArray (Whole (Global 0 0) (Array (Some 3) 0)) (Whole (Text 0) (TextKind 2))) ∷ (Invoke (Direct' 0 (vec2 v) (more_of-Argument (ByOpen (Whole (Global 0 0) (Array (Some 3) 0))) (more_of-Argument (ByOpen (Whole (Global 0 0) (Array (Some 3) 0))) end_of-Argument)))) ∷ []); answer = None } ∷ []); imports_in = false }

pub copyself_formed : (b : Box (Unit {0}) Heap) (v : Vec (Unit {0}) Heap) → well_formed (copyself b v) ≡ true
unfolding data_tree record_row
copyself_formed b v = refl

-- MODULE V; TYPE F = PROCEDURE (s: ARRAY OF CHAR); VAR f: F; PROCEDURE P(s: ARRAY OF CHAR); VAR i: INTEGER; BEGIN i := LEN(s) END P; BEGIN f := P; f(''abc'') END V.
abbrev stringcall : Outside Program
stringcall b v = record { types = record { kinds = (Char ∷ (Array None 0) ∷ Nothing ∷ (ProcedureKind 0) ∷ Int ∷ []); records = []; signatures = (record { formals = (record { mode = OfOpen; variable = false; type_number = 1 } ∷ []); result = 2 } ∷ []) }; modules = (record { name = []; objects = []; variables = (3 ∷ []); body = 1 } ∷ []); procedures = (record { «module» = 0; line = 1; is_body = false; formals = (record { mode = OfOpen; variable = false; type_number = 1 } ∷ []); result = 2; locals = (4 ∷ []); texts = []; body = ((Assign (Whole (Local 0) Int) (record { form = (Length (Whole (Parameter 0) (Array None 0))); kind = Int })) ∷ []); answer = None } ∷ record { «module» = 0; line = 1; is_body = true; formals = []; result = 2; locals = []; texts = ((97 ∷ 98 ∷ 99 ∷ []) ∷ []); body = ((Assign (Whole (Global 0 0) (ProcedureKind 0)) (record { form = (Routine 0); kind = (ProcedureKind 0) })) ∷ (Invoke (Indirect' (Whole (Global 0 0) (ProcedureKind 0)) (vec1 v) (more_of-Argument (ByOpen (Whole (Text 0) (TextKind 3))) end_of-Argument))) ∷ []); answer = None } ∷ []); imports_in = false }

pub stringcall_formed : (b : Box (Unit {0}) Heap) (v : Vec (Unit {0}) Heap) → well_formed (stringcall b v) ≡ true
unfolding data_tree record_row
stringcall_formed b v = refl

-- MODULE Z; TYPE R = RECORD END; VAR a: ARRAY 1048576, 1048576 OF R; PROCEDURE P; VAR b: ARRAY 1048576 OF R; BEGIN b[1048575] := a[0][1] END P; BEGIN P END Z.
abbrev emptiest : Outside Program
emptiest b v = record { types = record { kinds = ((RecordKind 0) ∷ (Array (Some 1048576) 0) ∷ (Array (Some 1048576) 1) ∷ Nothing ∷ []); records = (record { «module» = 0; base = None; level = 0; fields = []; cells = 0; extent = record { bytes = 0; wide = false } } ∷ []); signatures = [] }; modules = (record { name = []; objects = []; variables = (2 ∷ []); body = 1 } ∷ []); procedures = (record { «module» = 0; line = 1; is_body = false; formals = []; result = 3; locals = (1 ∷ []); texts = []; body = ((CopyRecord (Part' b (Local 0) (RecordKind 0) (vec1 v) (more_of-Selector (Index (Some 1048576) 0 (Literal 1048575)) end_of-Selector)) (Part' b (Global 0 0) (RecordKind 0) (vec2 v) (more_of-Selector (Index (Some 1048576) 1 (Literal 0)) (more_of-Selector (Index (Some 1048576) 0 (Literal 1)) end_of-Selector)))) ∷ []); answer = None } ∷ record { «module» = 0; line = 1; is_body = true; formals = []; result = 3; locals = []; texts = []; body = ((Invoke (Direct' 0 (vec0 v) end_of-Argument)) ∷ []); answer = None } ∷ []); imports_in = false }

pub emptiest_formed : (b : Box (Unit {0}) Heap) (v : Vec (Unit {0}) Heap) → well_formed (emptiest b v) ≡ true
unfolding data_tree record_row
emptiest_formed b v = refl
