-- A module, what the judgement makes of it, and the checked program, as code holds it, that is the same. Its symbols and
-- syntax were written by bench/judged_rows.py from its text.
use Rattle.std.specs.Prelude.{◌≡◌, ℕ, [], ◌∷◌, true, false, Some, None, pos, Box}
use Rattle.std.proofs.Common.{refl}
use Rattle.ob_symbol.specs.declared.symbol.Symbol.{Symbol}
use Rattle.ob_symbol.specs.declared.symbol.Kind.{Kind}
use Rattle.ob_symbol.specs.declared.symbol.Kind.TheVariants.{Int, Ident}
use Rattle.ob_symbol.specs.declared.symbol.Kind.TheVariants as TheKind
use Rattle.ob_syntax.specs.Syntax as S
use Rattle.ob_judge.specs.Shapes as H
use Rattle.ob_judge.specs.Image as I
use Rattle.ob_judge.specs.Modules.{Parsed, Legal, checked}
use Rattle.std.proofs.Common.{arith, Vec}
use Rattle.std.specs.declared.alloc.Global.{Global as Heap}
use Rattle.ob_types.specs.declared.types.TypeKind.TheVariants as TheTypeKind
use Rattle.ob_types.specs.declared.tree.Base.TheVariants as TheBase
use Rattle.ob_types.specs.declared.tree.Expr as X
use Rattle.ob_types.specs.declared.tree.Designator.{Whole, Part', end_of-Selector, more_of-Selector}
use Rattle.ob_types.specs.declared.tree.Selector.{Field, Dereference}
use Rattle.ob_types.specs.declared.statements.Stmt.{Assign, CopyArray}
use Rattle.ob_types.specs.declared.program.Entity.TheVariants as TheEntity
use Rattle.ob_types.specs.declared.program.Program.{Program as Held}
use Rattle.judged_tree.specs.Plain.{plain_program}
use Rattle.judged_tree.specs.Outline.{outlined_program}

abbrev symbol : Kind → ℕ → ℕ → Symbol
symbol kind from to = record { kind = kind; from = from; to = to }

-- MODULE M; TYPE R = RECORD x: INTEGER END; P = POINTER TO R; VAR p: P; s: ARRAY 3 OF CHAR; BEGIN p.x := 7; s := ''b'' END M.
abbrev pointed_0 : Parsed
pointed_0 = record { source = record { bytes = (77 ∷ 79 ∷ 68 ∷ 85 ∷ 76 ∷ 69 ∷ 32 ∷ 77 ∷ 59 ∷ 32 ∷ 84 ∷ 89 ∷ 80 ∷ 69 ∷ 32 ∷ 82 ∷ 32 ∷ 61 ∷ 32 ∷ 82 ∷ 69 ∷ 67 ∷ 79 ∷ 82 ∷ 68 ∷ 32 ∷ 120 ∷ 58 ∷ 32 ∷ 73 ∷ 78 ∷ 84 ∷ 69 ∷ 71 ∷ 69 ∷ 82 ∷ 32 ∷ 69 ∷ 78 ∷ 68 ∷ 59 ∷ 32 ∷ 80 ∷ 32 ∷ 61 ∷ 32 ∷ 80 ∷ 79 ∷ 73 ∷ 78 ∷ 84 ∷ 69 ∷ 82 ∷ 32 ∷ 84 ∷ 79 ∷ 32 ∷ 82 ∷ 59 ∷ 32 ∷ 86 ∷ 65 ∷ 82 ∷ 32 ∷ 112 ∷ 58 ∷ 32 ∷ 80 ∷ 59 ∷ 32 ∷ 115 ∷ 58 ∷ 32 ∷ 65 ∷ 82 ∷ 82 ∷ 65 ∷ 89 ∷ 32 ∷ 51 ∷ 32 ∷ 79 ∷ 70 ∷ 32 ∷ 67 ∷ 72 ∷ 65 ∷ 82 ∷ 59 ∷ 32 ∷ 66 ∷ 69 ∷ 71 ∷ 73 ∷ 78 ∷ 32 ∷ 112 ∷ 46 ∷ 120 ∷ 32 ∷ 58 ∷ 61 ∷ 32 ∷ 55 ∷ 59 ∷ 32 ∷ 115 ∷ 32 ∷ 58 ∷ 61 ∷ 32 ∷ 34 ∷ 98 ∷ 34 ∷ 32 ∷ 69 ∷ 78 ∷ 68 ∷ 32 ∷ 77 ∷ 46 ∷ []); symbols = (symbol (Ident) 0 6 ∷ symbol (Ident) 7 8 ∷ symbol (Ident) 8 9 ∷ symbol (Ident) 10 14 ∷ symbol (Ident) 15 16 ∷ symbol (Ident) 17 18 ∷ symbol (Ident) 19 25 ∷ symbol (Ident) 26 27 ∷ symbol (Ident) 27 28 ∷ symbol (Ident) 29 36 ∷ symbol (Ident) 37 40 ∷ symbol (Ident) 40 41 ∷ symbol (Ident) 42 43 ∷ symbol (Ident) 44 45 ∷ symbol (Ident) 46 53 ∷ symbol (Ident) 54 56 ∷ symbol (Ident) 57 58 ∷ symbol (Ident) 58 59 ∷ symbol (Ident) 60 63 ∷ symbol (Ident) 64 65 ∷ symbol (Ident) 65 66 ∷ symbol (Ident) 67 68 ∷ symbol (Ident) 68 69 ∷ symbol (Ident) 70 71 ∷ symbol (Ident) 71 72 ∷ symbol (Ident) 73 78 ∷ symbol (Int (pos 3)) 79 80 ∷ symbol (Ident) 81 83 ∷ symbol (Ident) 84 88 ∷ symbol (Ident) 88 89 ∷ symbol (Ident) 90 95 ∷ symbol (Ident) 96 97 ∷ symbol (Ident) 97 98 ∷ symbol (Ident) 98 99 ∷ symbol (Ident) 100 102 ∷ symbol (Int (pos 7)) 103 104 ∷ symbol (Ident) 104 105 ∷ symbol (Ident) 106 107 ∷ symbol (Ident) 108 110 ∷ symbol (TheKind.Text) 111 114 ∷ symbol (Ident) 115 118 ∷ symbol (Ident) 119 120 ∷ symbol (Ident) 120 121 ∷ []) }; tree = record { module_word = 0; name = 1; semicolon = 0; imports = None; decls = (S.decls None (Some (record { type_word = 0; each = (record { name = (record { name = 4; star = None }); equal = 0; is = (S.Record 6 None (S.fields (record { first = (record { name = 7; star = None }); more = [] }) 0 (S.Named (record { name = 9; member = None }))) S.no_more_fields 0); semicolon = 0 } ∷ record { name = (record { name = 12; star = None }); equal = 0; is = (S.Pointer 14 0 (S.Named (record { name = 16; member = None }))); semicolon = 0 } ∷ []) })) (Some (record { var_word = 0; each = (record { names = (record { first = (record { name = 19; star = None }); more = [] }); colon = 0; of = (S.Named (record { name = 21; member = None })); semicolon = 0 } ∷ record { names = (record { first = (record { name = 23; star = None }); more = [] }); colon = 0; of = (S.Array 25 (S.only (S.simple None (S.term (S.Int 26) S.no_factor) S.no_term)) S.no_expression 0 (S.Named (record { name = 28; member = None }))); semicolon = 0 } ∷ []) })) S.no_procedure); body = (Some (record { begin_word = 0; stats = (S.stats (S.AssignOrCall (record { name = 31; selectors = (S.selected (S.Field 0 33) S.no_selector) }) (Some (record { becomes = 0; value = (S.only (S.simple None (S.term (S.Int 35) S.no_factor) S.no_term)) }))) (S.next_stat 0 (S.AssignOrCall (record { name = 37; selectors = S.no_selector }) (Some (record { becomes = 0; value = (S.only (S.simple None (S.term (S.Text 39) S.no_factor) S.no_term)) }))) S.no_stat)) })); end_word = 0; end_name = 41; period = 0 } }

abbrev image : I.Program
image = record { records = (record { module_number = 0; base = None; level = 0; fields = (record { name = (120 ∷ []); exported = false; shape = H.Integer } ∷ []); cells = 1; extent = record { bytes = 8; wide = true } } ∷ []); pointers = (Some 0 ∷ []); modules = (record { name = (77 ∷ []); objects = (record { name = (82 ∷ []); exported = false; entity = I.OfType (H.Record 0) } ∷ record { name = (80 ∷ []); exported = false; entity = I.OfType (H.Pointer 0) } ∷ record { name = (112 ∷ []); exported = false; entity = I.OfVariable 0 } ∷ record { name = (115 ∷ []); exported = false; entity = I.OfVariable 1 } ∷ []); variables = ((H.Pointer 0) ∷ (H.Array 3 H.Char) ∷ []); body = 0 } ∷ []); procedures = (record { module_number = 0; line = 1; is_body = true; formals = []; result = H.Nothing; locals = []; texts = ((98 ∷ []) ∷ []); body = (I.next_statement (I.Assign (I.of_type (I.Field (I.Dereference (I.Load (I.of_type (I.Global 0 0) (H.Pointer 0)))) 0 0) H.Integer) (record { form = (I.Literal 7); shape = H.Integer })) (I.next_statement (I.CopyArray (I.of_type (I.Global 0 1) (H.Array 3 H.Char)) (I.of_type (I.Text (98 ∷ [])) (H.Text 1))) I.no_statement)); answer = None } ∷ []); imports_in = false }

pub pointed : checked (pointed_0 ∷ []) ≡ Legal image
pointed = refl

abbrev two : Vec (Unit {0}) Heap → Vec (Unit {0}) Heap
two v = record { ptr = v.ptr; len = 2; cap = 2; alloc = v.alloc; items = tt ∷ tt ∷ []; ok = (refl, omega arith); small = omega arith }

-- types: nothing, INTEGER, R, P, CHAR, ARRAY 3 OF CHAR
abbrev held : Box (Unit {0}) Heap → Vec (Unit {0}) Heap → Held
held b v = record {
  types = record {
    kinds = TheTypeKind.Nothing ∷ TheTypeKind.Int ∷ TheTypeKind.Record 0 ∷ TheTypeKind.Pointer 0 ∷ TheTypeKind.Char ∷ TheTypeKind.Array (Some 3) 4 ∷ [];
    records = record { «module» = 0; base = None; level = 0; fields = record { name = 120 ∷ []; exported = false; type_number = 1 } ∷ []; cells = 1; extent = record { bytes = 8; wide = true } } ∷ [];
    signatures = [];
  };
  modules = record {
    name = 77 ∷ [];
    objects = record { name = 82 ∷ []; exported = false; entity = TheEntity.Type 2 } ∷ record { name = 80 ∷ []; exported = false; entity = TheEntity.Type 3 } ∷ record { name = 112 ∷ []; exported = false; entity = TheEntity.Variable 0 } ∷ record { name = 115 ∷ []; exported = false; entity = TheEntity.Variable 1 } ∷ [];
    variables = 3 ∷ 5 ∷ [];
    body = 0;
  } ∷ [];
  procedures = record {
    «module» = 0;
    line = 1;
    is_body = true;
    formals = [];
    result = 0;
    locals = [];
    texts = (98 ∷ []) ∷ [];
    body = Assign (Part' b (TheBase.Global 0 0) TheTypeKind.Int (two v) (more_of-Selector (Dereference []) (more_of-Selector (Field 0 0) end_of-Selector))) (record { form = X.Literal 7; kind = TheTypeKind.Int })
        ∷ CopyArray (Whole (TheBase.Global 0 1) (TheTypeKind.Array (Some 3) 4)) (Whole (TheBase.Text 0) (TheTypeKind.Text 1)) ∷ [];
    answer = None;
  } ∷ [];
  imports_in = false;
}

-- it has the outline of that image
pub held_is : (b : Box (Unit {0}) Heap) (v : Vec (Unit {0}) Heap) → plain_program [] (held b v) ≡ outlined_program image
held_is b v = refl
