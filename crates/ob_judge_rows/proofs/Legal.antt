-- Small modules, and what the judgement says of them. Written by bench/judged_rows.py from their texts.
use Rattle.std.specs.Prelude.{◌≡◌, ℕ, [], ◌∷◌, true, false, Some, None, pos, negsuc}
use Rattle.std.proofs.Common.{refl}
use Rattle.ob_symbol.specs.declared.symbol.Symbol.{Symbol}
use Rattle.ob_symbol.specs.declared.symbol.Kind.{Kind}
use Rattle.ob_symbol.specs.declared.symbol.Kind.TheVariants.{Int, Ident}
use Rattle.ob_symbol.specs.declared.symbol.Kind.TheVariants as TheKind
use Rattle.ob_syntax.specs.Syntax as S
use Rattle.ob_syntax.specs.declared.expressions.Relation.TheVariants as TheRelation
use Rattle.ob_syntax.specs.declared.expressions.Sign.TheVariants as TheSign
use Rattle.ob_syntax.specs.declared.expressions.AddOperator.TheVariants as TheAddOperator
use Rattle.ob_syntax.specs.declared.expressions.MulOperator.TheVariants as TheMulOperator
use Rattle.ob_syntax.specs.declared.statements.Label.TheVariants as TheLabel
use Rattle.ob_types.specs.declared.types.Mode.TheVariants as TheMode
use Rattle.ob_types.specs.declared.tree.Unary.TheVariants as TheUnary
use Rattle.ob_types.specs.declared.tree.Binary.TheVariants as TheBinary
use Rattle.ob_types.specs.declared.tree.Relation.TheVariants as TheComparison
use Rattle.ob_types.specs.declared.statements.Label.TheVariants as TheLabelOf
use Rattle.ob_judge.specs.Shapes as H
use Rattle.ob_judge.specs.Image as I
use Rattle.ob_judge.specs.Modules.{Parsed, Legal, Fault, checked}

abbrev symbol : Kind → ℕ → ℕ → Symbol
symbol kind from to = record { kind = kind; from = from; to = to }

-- MODULE M; VAR b: BOOLEAN; BEGIN b := (b) END M.
abbrev legal_1_0 : Parsed
legal_1_0 = record { source = record { bytes = (77 ∷ 79 ∷ 68 ∷ 85 ∷ 76 ∷ 69 ∷ 32 ∷ 77 ∷ 59 ∷ 32 ∷ 86 ∷ 65 ∷ 82 ∷ 32 ∷ 98 ∷ 58 ∷ 32 ∷ 66 ∷ 79 ∷ 79 ∷ 76 ∷ 69 ∷ 65 ∷ 78 ∷ 59 ∷ 32 ∷ 66 ∷ 69 ∷ 71 ∷ 73 ∷ 78 ∷ 32 ∷ 98 ∷ 32 ∷ 58 ∷ 61 ∷ 32 ∷ 40 ∷ 98 ∷ 41 ∷ 32 ∷ 69 ∷ 78 ∷ 68 ∷ 32 ∷ 77 ∷ 46 ∷ []); symbols = (symbol (Ident) 0 6 ∷ symbol (Ident) 7 8 ∷ symbol (Ident) 8 9 ∷ symbol (Ident) 10 13 ∷ symbol (Ident) 14 15 ∷ symbol (Ident) 15 16 ∷ symbol (Ident) 17 24 ∷ symbol (Ident) 24 25 ∷ symbol (Ident) 26 31 ∷ symbol (Ident) 32 33 ∷ symbol (Ident) 34 36 ∷ symbol (Ident) 37 38 ∷ symbol (Ident) 38 39 ∷ symbol (Ident) 39 40 ∷ symbol (Ident) 41 44 ∷ symbol (Ident) 45 46 ∷ symbol (Ident) 46 47 ∷ []) }; tree = record { module_word = 0; name = 1; semicolon = 0; imports = None; decls = (S.decls None None (Some (record { var_word = 0; each = (record { names = (record { first = (record { name = 4; star = None }); more = [] }); colon = 0; of = (S.Named (record { name = 6; member = None })); semicolon = 0 } ∷ []) })) S.no_procedure); body = (Some (record { begin_word = 0; stats = (S.stats (S.AssignOrCall (record { name = 9; selectors = S.no_selector }) (Some (record { becomes = 0; value = (S.only (S.simple None (S.term (S.Paren 11 (S.only (S.simple None (S.term (S.Designated 12 S.no_selector) S.no_factor) S.no_term)) 0) S.no_factor) S.no_term)) }))) S.no_stat) })); end_word = 0; end_name = 15; period = 0 } }

pub legal_1 : checked (legal_1_0 ∷ []) ≡ Legal (record { records = []; pointers = []; modules = (record { name = (77 ∷ []); objects = (record { name = (98 ∷ []); exported = false; entity = I.OfVariable 0 } ∷ []); variables = (H.Boolean ∷ []); body = 0 } ∷ []); procedures = (record { module_number = 0; line = 1; is_body = true; formals = []; result = H.Nothing; locals = []; texts = []; body = (I.next_statement (I.Assign (I.of_type (I.Global 0 0) H.Boolean) (record { form = (I.Load (I.of_type (I.Global 0 0) H.Boolean)); shape = H.Boolean })) I.no_statement); answer = None } ∷ []); imports_in = false })
legal_1 = refl

-- MODULE M; VAR i: INTEGER; b: BOOLEAN; a: ARRAY 3 OF INTEGER; BEGIN b := (a[0]) = i END M.
abbrev legal_2_0 : Parsed
legal_2_0 = record { source = record { bytes = (77 ∷ 79 ∷ 68 ∷ 85 ∷ 76 ∷ 69 ∷ 32 ∷ 77 ∷ 59 ∷ 32 ∷ 86 ∷ 65 ∷ 82 ∷ 32 ∷ 105 ∷ 58 ∷ 32 ∷ 73 ∷ 78 ∷ 84 ∷ 69 ∷ 71 ∷ 69 ∷ 82 ∷ 59 ∷ 32 ∷ 98 ∷ 58 ∷ 32 ∷ 66 ∷ 79 ∷ 79 ∷ 76 ∷ 69 ∷ 65 ∷ 78 ∷ 59 ∷ 32 ∷ 97 ∷ 58 ∷ 32 ∷ 65 ∷ 82 ∷ 82 ∷ 65 ∷ 89 ∷ 32 ∷ 51 ∷ 32 ∷ 79 ∷ 70 ∷ 32 ∷ 73 ∷ 78 ∷ 84 ∷ 69 ∷ 71 ∷ 69 ∷ 82 ∷ 59 ∷ 32 ∷ 66 ∷ 69 ∷ 71 ∷ 73 ∷ 78 ∷ 32 ∷ 98 ∷ 32 ∷ 58 ∷ 61 ∷ 32 ∷ 40 ∷ 97 ∷ 91 ∷ 48 ∷ 93 ∷ 41 ∷ 32 ∷ 61 ∷ 32 ∷ 105 ∷ 32 ∷ 69 ∷ 78 ∷ 68 ∷ 32 ∷ 77 ∷ 46 ∷ []); symbols = (symbol (Ident) 0 6 ∷ symbol (Ident) 7 8 ∷ symbol (Ident) 8 9 ∷ symbol (Ident) 10 13 ∷ symbol (Ident) 14 15 ∷ symbol (Ident) 15 16 ∷ symbol (Ident) 17 24 ∷ symbol (Ident) 24 25 ∷ symbol (Ident) 26 27 ∷ symbol (Ident) 27 28 ∷ symbol (Ident) 29 36 ∷ symbol (Ident) 36 37 ∷ symbol (Ident) 38 39 ∷ symbol (Ident) 39 40 ∷ symbol (Ident) 41 46 ∷ symbol (Int (pos 3)) 47 48 ∷ symbol (Ident) 49 51 ∷ symbol (Ident) 52 59 ∷ symbol (Ident) 59 60 ∷ symbol (Ident) 61 66 ∷ symbol (Ident) 67 68 ∷ symbol (Ident) 69 71 ∷ symbol (Ident) 72 73 ∷ symbol (Ident) 73 74 ∷ symbol (Ident) 74 75 ∷ symbol (Int (pos 0)) 75 76 ∷ symbol (Ident) 76 77 ∷ symbol (Ident) 77 78 ∷ symbol (Ident) 79 80 ∷ symbol (Ident) 81 82 ∷ symbol (Ident) 83 86 ∷ symbol (Ident) 87 88 ∷ symbol (Ident) 88 89 ∷ []) }; tree = record { module_word = 0; name = 1; semicolon = 0; imports = None; decls = (S.decls None None (Some (record { var_word = 0; each = (record { names = (record { first = (record { name = 4; star = None }); more = [] }); colon = 0; of = (S.Named (record { name = 6; member = None })); semicolon = 0 } ∷ record { names = (record { first = (record { name = 8; star = None }); more = [] }); colon = 0; of = (S.Named (record { name = 10; member = None })); semicolon = 0 } ∷ record { names = (record { first = (record { name = 12; star = None }); more = [] }); colon = 0; of = (S.Array 14 (S.only (S.simple None (S.term (S.Int 15) S.no_factor) S.no_term)) S.no_expression 0 (S.Named (record { name = 17; member = None }))); semicolon = 0 } ∷ []) })) S.no_procedure); body = (Some (record { begin_word = 0; stats = (S.stats (S.AssignOrCall (record { name = 20; selectors = S.no_selector }) (Some (record { becomes = 0; value = (S.compared (S.simple None (S.term (S.Paren 22 (S.only (S.simple None (S.term (S.Designated 23 (S.selected (S.Index 0 (S.expressions (S.only (S.simple None (S.term (S.Int 25) S.no_factor) S.no_term)) S.no_expression) 0) S.no_selector)) S.no_factor) S.no_term)) 0) S.no_factor) S.no_term) (TheRelation.Equal 28) (S.simple None (S.term (S.Designated 29 S.no_selector) S.no_factor) S.no_term)) }))) S.no_stat) })); end_word = 0; end_name = 31; period = 0 } }

pub legal_2 : checked (legal_2_0 ∷ []) ≡ Legal (record { records = []; pointers = []; modules = (record { name = (77 ∷ []); objects = (record { name = (105 ∷ []); exported = false; entity = I.OfVariable 0 } ∷ record { name = (98 ∷ []); exported = false; entity = I.OfVariable 1 } ∷ record { name = (97 ∷ []); exported = false; entity = I.OfVariable 2 } ∷ []); variables = (H.Integer ∷ H.Boolean ∷ (H.Array 3 H.Integer) ∷ []); body = 0 } ∷ []); procedures = (record { module_number = 0; line = 1; is_body = true; formals = []; result = H.Nothing; locals = []; texts = []; body = (I.next_statement (I.Assign (I.of_type (I.Global 0 1) H.Boolean) (record { form = (I.Compare TheComparison.Equal (I.Load (I.of_type (I.Index (I.Global 0 2) (Some 3) H.Integer (I.Literal 0)) H.Integer)) (I.Load (I.of_type (I.Global 0 0) H.Integer))); shape = H.Boolean })) I.no_statement); answer = None } ∷ []); imports_in = false })
legal_2 = refl

-- MODULE M; VAR u: ARRAY 4 OF CHAR; BEGIN u := (u) END M.
abbrev legal_3_0 : Parsed
legal_3_0 = record { source = record { bytes = (77 ∷ 79 ∷ 68 ∷ 85 ∷ 76 ∷ 69 ∷ 32 ∷ 77 ∷ 59 ∷ 32 ∷ 86 ∷ 65 ∷ 82 ∷ 32 ∷ 117 ∷ 58 ∷ 32 ∷ 65 ∷ 82 ∷ 82 ∷ 65 ∷ 89 ∷ 32 ∷ 52 ∷ 32 ∷ 79 ∷ 70 ∷ 32 ∷ 67 ∷ 72 ∷ 65 ∷ 82 ∷ 59 ∷ 32 ∷ 66 ∷ 69 ∷ 71 ∷ 73 ∷ 78 ∷ 32 ∷ 117 ∷ 32 ∷ 58 ∷ 61 ∷ 32 ∷ 40 ∷ 117 ∷ 41 ∷ 32 ∷ 69 ∷ 78 ∷ 68 ∷ 32 ∷ 77 ∷ 46 ∷ []); symbols = (symbol (Ident) 0 6 ∷ symbol (Ident) 7 8 ∷ symbol (Ident) 8 9 ∷ symbol (Ident) 10 13 ∷ symbol (Ident) 14 15 ∷ symbol (Ident) 15 16 ∷ symbol (Ident) 17 22 ∷ symbol (Int (pos 4)) 23 24 ∷ symbol (Ident) 25 27 ∷ symbol (Ident) 28 32 ∷ symbol (Ident) 32 33 ∷ symbol (Ident) 34 39 ∷ symbol (Ident) 40 41 ∷ symbol (Ident) 42 44 ∷ symbol (Ident) 45 46 ∷ symbol (Ident) 46 47 ∷ symbol (Ident) 47 48 ∷ symbol (Ident) 49 52 ∷ symbol (Ident) 53 54 ∷ symbol (Ident) 54 55 ∷ []) }; tree = record { module_word = 0; name = 1; semicolon = 0; imports = None; decls = (S.decls None None (Some (record { var_word = 0; each = (record { names = (record { first = (record { name = 4; star = None }); more = [] }); colon = 0; of = (S.Array 6 (S.only (S.simple None (S.term (S.Int 7) S.no_factor) S.no_term)) S.no_expression 0 (S.Named (record { name = 9; member = None }))); semicolon = 0 } ∷ []) })) S.no_procedure); body = (Some (record { begin_word = 0; stats = (S.stats (S.AssignOrCall (record { name = 12; selectors = S.no_selector }) (Some (record { becomes = 0; value = (S.only (S.simple None (S.term (S.Paren 14 (S.only (S.simple None (S.term (S.Designated 15 S.no_selector) S.no_factor) S.no_term)) 0) S.no_factor) S.no_term)) }))) S.no_stat) })); end_word = 0; end_name = 18; period = 0 } }

pub legal_3 : checked (legal_3_0 ∷ []) ≡ Legal (record { records = []; pointers = []; modules = (record { name = (77 ∷ []); objects = (record { name = (117 ∷ []); exported = false; entity = I.OfVariable 0 } ∷ []); variables = ((H.Array 4 H.Char) ∷ []); body = 0 } ∷ []); procedures = (record { module_number = 0; line = 1; is_body = true; formals = []; result = H.Nothing; locals = []; texts = []; body = (I.next_statement (I.CopyArray (I.of_type (I.Global 0 0) (H.Array 4 H.Char)) (I.of_type (I.Global 0 0) (H.Array 4 H.Char))) I.no_statement); answer = None } ∷ []); imports_in = false })
legal_3 = refl

-- MODULE M; TYPE R = RECORD x: INTEGER; y*: CHAR END; VAR r: R; BEGIN r := (r) END M.
abbrev legal_4_0 : Parsed
legal_4_0 = record { source = record { bytes = (77 ∷ 79 ∷ 68 ∷ 85 ∷ 76 ∷ 69 ∷ 32 ∷ 77 ∷ 59 ∷ 32 ∷ 84 ∷ 89 ∷ 80 ∷ 69 ∷ 32 ∷ 82 ∷ 32 ∷ 61 ∷ 32 ∷ 82 ∷ 69 ∷ 67 ∷ 79 ∷ 82 ∷ 68 ∷ 32 ∷ 120 ∷ 58 ∷ 32 ∷ 73 ∷ 78 ∷ 84 ∷ 69 ∷ 71 ∷ 69 ∷ 82 ∷ 59 ∷ 32 ∷ 121 ∷ 42 ∷ 58 ∷ 32 ∷ 67 ∷ 72 ∷ 65 ∷ 82 ∷ 32 ∷ 69 ∷ 78 ∷ 68 ∷ 59 ∷ 32 ∷ 86 ∷ 65 ∷ 82 ∷ 32 ∷ 114 ∷ 58 ∷ 32 ∷ 82 ∷ 59 ∷ 32 ∷ 66 ∷ 69 ∷ 71 ∷ 73 ∷ 78 ∷ 32 ∷ 114 ∷ 32 ∷ 58 ∷ 61 ∷ 32 ∷ 40 ∷ 114 ∷ 41 ∷ 32 ∷ 69 ∷ 78 ∷ 68 ∷ 32 ∷ 77 ∷ 46 ∷ []); symbols = (symbol (Ident) 0 6 ∷ symbol (Ident) 7 8 ∷ symbol (Ident) 8 9 ∷ symbol (Ident) 10 14 ∷ symbol (Ident) 15 16 ∷ symbol (Ident) 17 18 ∷ symbol (Ident) 19 25 ∷ symbol (Ident) 26 27 ∷ symbol (Ident) 27 28 ∷ symbol (Ident) 29 36 ∷ symbol (Ident) 36 37 ∷ symbol (Ident) 38 39 ∷ symbol (Ident) 39 40 ∷ symbol (Ident) 40 41 ∷ symbol (Ident) 42 46 ∷ symbol (Ident) 47 50 ∷ symbol (Ident) 50 51 ∷ symbol (Ident) 52 55 ∷ symbol (Ident) 56 57 ∷ symbol (Ident) 57 58 ∷ symbol (Ident) 59 60 ∷ symbol (Ident) 60 61 ∷ symbol (Ident) 62 67 ∷ symbol (Ident) 68 69 ∷ symbol (Ident) 70 72 ∷ symbol (Ident) 73 74 ∷ symbol (Ident) 74 75 ∷ symbol (Ident) 75 76 ∷ symbol (Ident) 77 80 ∷ symbol (Ident) 81 82 ∷ symbol (Ident) 82 83 ∷ []) }; tree = record { module_word = 0; name = 1; semicolon = 0; imports = None; decls = (S.decls None (Some (record { type_word = 0; each = (record { name = (record { name = 4; star = None }); equal = 0; is = (S.Record 6 None (S.fields (record { first = (record { name = 7; star = None }); more = [] }) 0 (S.Named (record { name = 9; member = None }))) (S.next_fields 0 (S.fields (record { first = (record { name = 11; star = Some 0 }); more = [] }) 0 (S.Named (record { name = 14; member = None }))) S.no_more_fields) 0); semicolon = 0 } ∷ []) })) (Some (record { var_word = 0; each = (record { names = (record { first = (record { name = 18; star = None }); more = [] }); colon = 0; of = (S.Named (record { name = 20; member = None })); semicolon = 0 } ∷ []) })) S.no_procedure); body = (Some (record { begin_word = 0; stats = (S.stats (S.AssignOrCall (record { name = 23; selectors = S.no_selector }) (Some (record { becomes = 0; value = (S.only (S.simple None (S.term (S.Paren 25 (S.only (S.simple None (S.term (S.Designated 26 S.no_selector) S.no_factor) S.no_term)) 0) S.no_factor) S.no_term)) }))) S.no_stat) })); end_word = 0; end_name = 29; period = 0 } }

pub legal_4 : checked (legal_4_0 ∷ []) ≡ Legal (record { records = (record { module_number = 0; base = None; level = 0; fields = (record { name = (120 ∷ []); exported = false; shape = H.Integer } ∷ record { name = (121 ∷ []); exported = true; shape = H.Char } ∷ []); cells = 2; extent = record { bytes = 16; wide = true } } ∷ []); pointers = []; modules = (record { name = (77 ∷ []); objects = (record { name = (82 ∷ []); exported = false; entity = I.OfType (H.Record 0) } ∷ record { name = (114 ∷ []); exported = false; entity = I.OfVariable 0 } ∷ []); variables = ((H.Record 0) ∷ []); body = 0 } ∷ []); procedures = (record { module_number = 0; line = 1; is_body = true; formals = []; result = H.Nothing; locals = []; texts = []; body = (I.next_statement (I.CopyRecord (I.of_type (I.Global 0 0) (H.Record 0)) (I.of_type (I.Global 0 0) (H.Record 0))) I.no_statement); answer = None } ∷ []); imports_in = false })
legal_4 = refl

-- MODULE M; TYPE R = RECORD x: INTEGER; y*: CHAR END; P = POINTER TO R; VAR p: P; BEGIN p := (p) END M.
abbrev legal_5_0 : Parsed
legal_5_0 = record { source = record { bytes = (77 ∷ 79 ∷ 68 ∷ 85 ∷ 76 ∷ 69 ∷ 32 ∷ 77 ∷ 59 ∷ 32 ∷ 84 ∷ 89 ∷ 80 ∷ 69 ∷ 32 ∷ 82 ∷ 32 ∷ 61 ∷ 32 ∷ 82 ∷ 69 ∷ 67 ∷ 79 ∷ 82 ∷ 68 ∷ 32 ∷ 120 ∷ 58 ∷ 32 ∷ 73 ∷ 78 ∷ 84 ∷ 69 ∷ 71 ∷ 69 ∷ 82 ∷ 59 ∷ 32 ∷ 121 ∷ 42 ∷ 58 ∷ 32 ∷ 67 ∷ 72 ∷ 65 ∷ 82 ∷ 32 ∷ 69 ∷ 78 ∷ 68 ∷ 59 ∷ 32 ∷ 80 ∷ 32 ∷ 61 ∷ 32 ∷ 80 ∷ 79 ∷ 73 ∷ 78 ∷ 84 ∷ 69 ∷ 82 ∷ 32 ∷ 84 ∷ 79 ∷ 32 ∷ 82 ∷ 59 ∷ 32 ∷ 86 ∷ 65 ∷ 82 ∷ 32 ∷ 112 ∷ 58 ∷ 32 ∷ 80 ∷ 59 ∷ 32 ∷ 66 ∷ 69 ∷ 71 ∷ 73 ∷ 78 ∷ 32 ∷ 112 ∷ 32 ∷ 58 ∷ 61 ∷ 32 ∷ 40 ∷ 112 ∷ 41 ∷ 32 ∷ 69 ∷ 78 ∷ 68 ∷ 32 ∷ 77 ∷ 46 ∷ []); symbols = (symbol (Ident) 0 6 ∷ symbol (Ident) 7 8 ∷ symbol (Ident) 8 9 ∷ symbol (Ident) 10 14 ∷ symbol (Ident) 15 16 ∷ symbol (Ident) 17 18 ∷ symbol (Ident) 19 25 ∷ symbol (Ident) 26 27 ∷ symbol (Ident) 27 28 ∷ symbol (Ident) 29 36 ∷ symbol (Ident) 36 37 ∷ symbol (Ident) 38 39 ∷ symbol (Ident) 39 40 ∷ symbol (Ident) 40 41 ∷ symbol (Ident) 42 46 ∷ symbol (Ident) 47 50 ∷ symbol (Ident) 50 51 ∷ symbol (Ident) 52 53 ∷ symbol (Ident) 54 55 ∷ symbol (Ident) 56 63 ∷ symbol (Ident) 64 66 ∷ symbol (Ident) 67 68 ∷ symbol (Ident) 68 69 ∷ symbol (Ident) 70 73 ∷ symbol (Ident) 74 75 ∷ symbol (Ident) 75 76 ∷ symbol (Ident) 77 78 ∷ symbol (Ident) 78 79 ∷ symbol (Ident) 80 85 ∷ symbol (Ident) 86 87 ∷ symbol (Ident) 88 90 ∷ symbol (Ident) 91 92 ∷ symbol (Ident) 92 93 ∷ symbol (Ident) 93 94 ∷ symbol (Ident) 95 98 ∷ symbol (Ident) 99 100 ∷ symbol (Ident) 100 101 ∷ []) }; tree = record { module_word = 0; name = 1; semicolon = 0; imports = None; decls = (S.decls None (Some (record { type_word = 0; each = (record { name = (record { name = 4; star = None }); equal = 0; is = (S.Record 6 None (S.fields (record { first = (record { name = 7; star = None }); more = [] }) 0 (S.Named (record { name = 9; member = None }))) (S.next_fields 0 (S.fields (record { first = (record { name = 11; star = Some 0 }); more = [] }) 0 (S.Named (record { name = 14; member = None }))) S.no_more_fields) 0); semicolon = 0 } ∷ record { name = (record { name = 17; star = None }); equal = 0; is = (S.Pointer 19 0 (S.Named (record { name = 21; member = None }))); semicolon = 0 } ∷ []) })) (Some (record { var_word = 0; each = (record { names = (record { first = (record { name = 24; star = None }); more = [] }); colon = 0; of = (S.Named (record { name = 26; member = None })); semicolon = 0 } ∷ []) })) S.no_procedure); body = (Some (record { begin_word = 0; stats = (S.stats (S.AssignOrCall (record { name = 29; selectors = S.no_selector }) (Some (record { becomes = 0; value = (S.only (S.simple None (S.term (S.Paren 31 (S.only (S.simple None (S.term (S.Designated 32 S.no_selector) S.no_factor) S.no_term)) 0) S.no_factor) S.no_term)) }))) S.no_stat) })); end_word = 0; end_name = 35; period = 0 } }

pub legal_5 : checked (legal_5_0 ∷ []) ≡ Legal (record { records = (record { module_number = 0; base = None; level = 0; fields = (record { name = (120 ∷ []); exported = false; shape = H.Integer } ∷ record { name = (121 ∷ []); exported = true; shape = H.Char } ∷ []); cells = 2; extent = record { bytes = 16; wide = true } } ∷ []); pointers = (Some 0 ∷ []); modules = (record { name = (77 ∷ []); objects = (record { name = (82 ∷ []); exported = false; entity = I.OfType (H.Record 0) } ∷ record { name = (80 ∷ []); exported = false; entity = I.OfType (H.Pointer 0) } ∷ record { name = (112 ∷ []); exported = false; entity = I.OfVariable 0 } ∷ []); variables = ((H.Pointer 0) ∷ []); body = 0 } ∷ []); procedures = (record { module_number = 0; line = 1; is_body = true; formals = []; result = H.Nothing; locals = []; texts = []; body = (I.next_statement (I.Assign (I.of_type (I.Global 0 0) (H.Pointer 0)) (record { form = (I.Load (I.of_type (I.Global 0 0) (H.Pointer 0))); shape = (H.Pointer 0) })) I.no_statement); answer = None } ∷ []); imports_in = false })
legal_5 = refl

-- MODULE M; VAR i: INTEGER; y: BYTE; BEGIN i := 1 - (+y) END M.
abbrev legal_6_0 : Parsed
legal_6_0 = record { source = record { bytes = (77 ∷ 79 ∷ 68 ∷ 85 ∷ 76 ∷ 69 ∷ 32 ∷ 77 ∷ 59 ∷ 32 ∷ 86 ∷ 65 ∷ 82 ∷ 32 ∷ 105 ∷ 58 ∷ 32 ∷ 73 ∷ 78 ∷ 84 ∷ 69 ∷ 71 ∷ 69 ∷ 82 ∷ 59 ∷ 32 ∷ 121 ∷ 58 ∷ 32 ∷ 66 ∷ 89 ∷ 84 ∷ 69 ∷ 59 ∷ 32 ∷ 66 ∷ 69 ∷ 71 ∷ 73 ∷ 78 ∷ 32 ∷ 105 ∷ 32 ∷ 58 ∷ 61 ∷ 32 ∷ 49 ∷ 32 ∷ 45 ∷ 32 ∷ 40 ∷ 43 ∷ 121 ∷ 41 ∷ 32 ∷ 69 ∷ 78 ∷ 68 ∷ 32 ∷ 77 ∷ 46 ∷ []); symbols = (symbol (Ident) 0 6 ∷ symbol (Ident) 7 8 ∷ symbol (Ident) 8 9 ∷ symbol (Ident) 10 13 ∷ symbol (Ident) 14 15 ∷ symbol (Ident) 15 16 ∷ symbol (Ident) 17 24 ∷ symbol (Ident) 24 25 ∷ symbol (Ident) 26 27 ∷ symbol (Ident) 27 28 ∷ symbol (Ident) 29 33 ∷ symbol (Ident) 33 34 ∷ symbol (Ident) 35 40 ∷ symbol (Ident) 41 42 ∷ symbol (Ident) 43 45 ∷ symbol (Int (pos 1)) 46 47 ∷ symbol (Ident) 48 49 ∷ symbol (Ident) 50 51 ∷ symbol (Ident) 51 52 ∷ symbol (Ident) 52 53 ∷ symbol (Ident) 53 54 ∷ symbol (Ident) 55 58 ∷ symbol (Ident) 59 60 ∷ symbol (Ident) 60 61 ∷ []) }; tree = record { module_word = 0; name = 1; semicolon = 0; imports = None; decls = (S.decls None None (Some (record { var_word = 0; each = (record { names = (record { first = (record { name = 4; star = None }); more = [] }); colon = 0; of = (S.Named (record { name = 6; member = None })); semicolon = 0 } ∷ record { names = (record { first = (record { name = 8; star = None }); more = [] }); colon = 0; of = (S.Named (record { name = 10; member = None })); semicolon = 0 } ∷ []) })) S.no_procedure); body = (Some (record { begin_word = 0; stats = (S.stats (S.AssignOrCall (record { name = 13; selectors = S.no_selector }) (Some (record { becomes = 0; value = (S.only (S.simple None (S.term (S.Int 15) S.no_factor) (S.added (TheAddOperator.Minus 16) (S.term (S.Paren 17 (S.only (S.simple (Some (TheSign.Plus 18)) (S.term (S.Designated 19 S.no_selector) S.no_factor) S.no_term)) 0) S.no_factor) S.no_term))) }))) S.no_stat) })); end_word = 0; end_name = 22; period = 0 } }

pub legal_6 : checked (legal_6_0 ∷ []) ≡ Legal (record { records = []; pointers = []; modules = (record { name = (77 ∷ []); objects = (record { name = (105 ∷ []); exported = false; entity = I.OfVariable 0 } ∷ record { name = (121 ∷ []); exported = false; entity = I.OfVariable 1 } ∷ []); variables = (H.Integer ∷ H.Byte ∷ []); body = 0 } ∷ []); procedures = (record { module_number = 0; line = 1; is_body = true; formals = []; result = H.Nothing; locals = []; texts = []; body = (I.next_statement (I.Assign (I.of_type (I.Global 0 0) H.Integer) (record { form = (I.Linked (I.Literal 1) (I.Operate TheBinary.Subtract (I.Load (I.of_type (I.Global 0 1) H.Byte)))); shape = H.Integer })) I.no_statement); answer = None } ∷ []); imports_in = false })
legal_6 = refl

-- MODULE M; VAR y: BYTE; BEGIN y := +y END M.
abbrev legal_7_0 : Parsed
legal_7_0 = record { source = record { bytes = (77 ∷ 79 ∷ 68 ∷ 85 ∷ 76 ∷ 69 ∷ 32 ∷ 77 ∷ 59 ∷ 32 ∷ 86 ∷ 65 ∷ 82 ∷ 32 ∷ 121 ∷ 58 ∷ 32 ∷ 66 ∷ 89 ∷ 84 ∷ 69 ∷ 59 ∷ 32 ∷ 66 ∷ 69 ∷ 71 ∷ 73 ∷ 78 ∷ 32 ∷ 121 ∷ 32 ∷ 58 ∷ 61 ∷ 32 ∷ 43 ∷ 121 ∷ 32 ∷ 69 ∷ 78 ∷ 68 ∷ 32 ∷ 77 ∷ 46 ∷ []); symbols = (symbol (Ident) 0 6 ∷ symbol (Ident) 7 8 ∷ symbol (Ident) 8 9 ∷ symbol (Ident) 10 13 ∷ symbol (Ident) 14 15 ∷ symbol (Ident) 15 16 ∷ symbol (Ident) 17 21 ∷ symbol (Ident) 21 22 ∷ symbol (Ident) 23 28 ∷ symbol (Ident) 29 30 ∷ symbol (Ident) 31 33 ∷ symbol (Ident) 34 35 ∷ symbol (Ident) 35 36 ∷ symbol (Ident) 37 40 ∷ symbol (Ident) 41 42 ∷ symbol (Ident) 42 43 ∷ []) }; tree = record { module_word = 0; name = 1; semicolon = 0; imports = None; decls = (S.decls None None (Some (record { var_word = 0; each = (record { names = (record { first = (record { name = 4; star = None }); more = [] }); colon = 0; of = (S.Named (record { name = 6; member = None })); semicolon = 0 } ∷ []) })) S.no_procedure); body = (Some (record { begin_word = 0; stats = (S.stats (S.AssignOrCall (record { name = 9; selectors = S.no_selector }) (Some (record { becomes = 0; value = (S.only (S.simple (Some (TheSign.Plus 11)) (S.term (S.Designated 12 S.no_selector) S.no_factor) S.no_term)) }))) S.no_stat) })); end_word = 0; end_name = 14; period = 0 } }

pub legal_7 : checked (legal_7_0 ∷ []) ≡ Legal (record { records = []; pointers = []; modules = (record { name = (77 ∷ []); objects = (record { name = (121 ∷ []); exported = false; entity = I.OfVariable 0 } ∷ []); variables = (H.Byte ∷ []); body = 0 } ∷ []); procedures = (record { module_number = 0; line = 1; is_body = true; formals = []; result = H.Nothing; locals = []; texts = []; body = (I.next_statement (I.Assign (I.of_type (I.Global 0 0) H.Byte) (record { form = (I.AsByte (I.Load (I.of_type (I.Global 0 0) H.Byte))); shape = H.Byte })) I.no_statement); answer = None } ∷ []); imports_in = false })
legal_7 = refl

-- MODULE M; VAR i: INTEGER; PROCEDURE F(x: INTEGER): INTEGER; RETURN x END F; BEGIN i := (F(1)) END M.
abbrev legal_8_0 : Parsed
legal_8_0 = record { source = record { bytes = (77 ∷ 79 ∷ 68 ∷ 85 ∷ 76 ∷ 69 ∷ 32 ∷ 77 ∷ 59 ∷ 32 ∷ 86 ∷ 65 ∷ 82 ∷ 32 ∷ 105 ∷ 58 ∷ 32 ∷ 73 ∷ 78 ∷ 84 ∷ 69 ∷ 71 ∷ 69 ∷ 82 ∷ 59 ∷ 32 ∷ 80 ∷ 82 ∷ 79 ∷ 67 ∷ 69 ∷ 68 ∷ 85 ∷ 82 ∷ 69 ∷ 32 ∷ 70 ∷ 40 ∷ 120 ∷ 58 ∷ 32 ∷ 73 ∷ 78 ∷ 84 ∷ 69 ∷ 71 ∷ 69 ∷ 82 ∷ 41 ∷ 58 ∷ 32 ∷ 73 ∷ 78 ∷ 84 ∷ 69 ∷ 71 ∷ 69 ∷ 82 ∷ 59 ∷ 32 ∷ 82 ∷ 69 ∷ 84 ∷ 85 ∷ 82 ∷ 78 ∷ 32 ∷ 120 ∷ 32 ∷ 69 ∷ 78 ∷ 68 ∷ 32 ∷ 70 ∷ 59 ∷ 32 ∷ 66 ∷ 69 ∷ 71 ∷ 73 ∷ 78 ∷ 32 ∷ 105 ∷ 32 ∷ 58 ∷ 61 ∷ 32 ∷ 40 ∷ 70 ∷ 40 ∷ 49 ∷ 41 ∷ 41 ∷ 32 ∷ 69 ∷ 78 ∷ 68 ∷ 32 ∷ 77 ∷ 46 ∷ []); symbols = (symbol (Ident) 0 6 ∷ symbol (Ident) 7 8 ∷ symbol (Ident) 8 9 ∷ symbol (Ident) 10 13 ∷ symbol (Ident) 14 15 ∷ symbol (Ident) 15 16 ∷ symbol (Ident) 17 24 ∷ symbol (Ident) 24 25 ∷ symbol (Ident) 26 35 ∷ symbol (Ident) 36 37 ∷ symbol (Ident) 37 38 ∷ symbol (Ident) 38 39 ∷ symbol (Ident) 39 40 ∷ symbol (Ident) 41 48 ∷ symbol (Ident) 48 49 ∷ symbol (Ident) 49 50 ∷ symbol (Ident) 51 58 ∷ symbol (Ident) 58 59 ∷ symbol (Ident) 60 66 ∷ symbol (Ident) 67 68 ∷ symbol (Ident) 69 72 ∷ symbol (Ident) 73 74 ∷ symbol (Ident) 74 75 ∷ symbol (Ident) 76 81 ∷ symbol (Ident) 82 83 ∷ symbol (Ident) 84 86 ∷ symbol (Ident) 87 88 ∷ symbol (Ident) 88 89 ∷ symbol (Ident) 89 90 ∷ symbol (Int (pos 1)) 90 91 ∷ symbol (Ident) 91 92 ∷ symbol (Ident) 92 93 ∷ symbol (Ident) 94 97 ∷ symbol (Ident) 98 99 ∷ symbol (Ident) 99 100 ∷ []) }; tree = record { module_word = 0; name = 1; semicolon = 0; imports = None; decls = (S.decls None None (Some (record { var_word = 0; each = (record { names = (record { first = (record { name = 4; star = None }); more = [] }); colon = 0; of = (S.Named (record { name = 6; member = None })); semicolon = 0 } ∷ []) })) (S.procedure 0 (record { name = 9; star = None }) (Some (record { left_paren = 0; sections = Some (record { first = (record { var_word = None; first = 11; more = []; colon = 0; open_array = None; of = (record { name = 13; member = None }) }); more = [] }); right_paren = 0; result = Some (record { colon = 0; name = (record { name = 16; member = None }) }) })) 0 (S.decls None None None S.no_procedure) None (Some (record { return_word = 18; value = (S.only (S.simple None (S.term (S.Designated 19 S.no_selector) S.no_factor) S.no_term)) })) 20 21 0 S.no_procedure)); body = (Some (record { begin_word = 0; stats = (S.stats (S.AssignOrCall (record { name = 24; selectors = S.no_selector }) (Some (record { becomes = 0; value = (S.only (S.simple None (S.term (S.Paren 26 (S.only (S.simple None (S.term (S.Designated 27 (S.selected (S.Parens 0 (S.expressions (S.only (S.simple None (S.term (S.Int 29) S.no_factor) S.no_term)) S.no_expression) 0) S.no_selector)) S.no_factor) S.no_term)) 0) S.no_factor) S.no_term)) }))) S.no_stat) })); end_word = 0; end_name = 33; period = 0 } }

pub legal_8 : checked (legal_8_0 ∷ []) ≡ Legal (record { records = []; pointers = []; modules = (record { name = (77 ∷ []); objects = (record { name = (105 ∷ []); exported = false; entity = I.OfVariable 0 } ∷ record { name = (70 ∷ []); exported = false; entity = I.OfProcedure 0 } ∷ []); variables = (H.Integer ∷ []); body = 1 } ∷ []); procedures = (record { module_number = 0; line = 1; is_body = false; formals = (record { mode = TheMode.Value; variable = false; shape = H.Integer } ∷ []); result = H.Integer; locals = []; texts = []; body = I.no_statement; answer = (Some (record { form = (I.Load (I.of_type (I.Local 0) H.Integer)); shape = H.Integer })) } ∷ record { module_number = 0; line = 1; is_body = true; formals = []; result = H.Nothing; locals = []; texts = []; body = (I.next_statement (I.Assign (I.of_type (I.Global 0 0) H.Integer) (record { form = (I.Result (I.Direct 0 (I.next_argument (I.ByValue (I.Literal 1)) I.no_argument))); shape = H.Integer })) I.no_statement); answer = None } ∷ []); imports_in = false })
legal_8 = refl

-- MODULE M; IMPORT Out; BEGIN Out.String((''ab'')) END M.
abbrev legal_9_0 : Parsed
legal_9_0 = record { source = record { bytes = (77 ∷ 79 ∷ 68 ∷ 85 ∷ 76 ∷ 69 ∷ 32 ∷ 77 ∷ 59 ∷ 32 ∷ 73 ∷ 77 ∷ 80 ∷ 79 ∷ 82 ∷ 84 ∷ 32 ∷ 79 ∷ 117 ∷ 116 ∷ 59 ∷ 32 ∷ 66 ∷ 69 ∷ 71 ∷ 73 ∷ 78 ∷ 32 ∷ 79 ∷ 117 ∷ 116 ∷ 46 ∷ 83 ∷ 116 ∷ 114 ∷ 105 ∷ 110 ∷ 103 ∷ 40 ∷ 40 ∷ 34 ∷ 97 ∷ 98 ∷ 34 ∷ 41 ∷ 41 ∷ 32 ∷ 69 ∷ 78 ∷ 68 ∷ 32 ∷ 77 ∷ 46 ∷ []); symbols = (symbol (Ident) 0 6 ∷ symbol (Ident) 7 8 ∷ symbol (Ident) 8 9 ∷ symbol (Ident) 10 16 ∷ symbol (Ident) 17 20 ∷ symbol (Ident) 20 21 ∷ symbol (Ident) 22 27 ∷ symbol (Ident) 28 31 ∷ symbol (Ident) 31 32 ∷ symbol (Ident) 32 38 ∷ symbol (Ident) 38 39 ∷ symbol (Ident) 39 40 ∷ symbol (TheKind.Text) 40 44 ∷ symbol (Ident) 44 45 ∷ symbol (Ident) 45 46 ∷ symbol (Ident) 47 50 ∷ symbol (Ident) 51 52 ∷ symbol (Ident) 52 53 ∷ []) }; tree = record { module_word = 0; name = 1; semicolon = 0; imports = Some (record { import_word = 0; first = (record { name = 4; of = None }); more = []; semicolon = 0 }); decls = (S.decls None None None S.no_procedure); body = (Some (record { begin_word = 0; stats = (S.stats (S.AssignOrCall (record { name = 7; selectors = (S.selected (S.Field 0 9) (S.selected (S.Parens 0 (S.expressions (S.only (S.simple None (S.term (S.Paren 11 (S.only (S.simple None (S.term (S.Text 12) S.no_factor) S.no_term)) 0) S.no_factor) S.no_term)) S.no_expression) 0) S.no_selector)) }) None) S.no_stat) })); end_word = 0; end_name = 16; period = 0 } }

pub legal_9 : checked (legal_9_0 ∷ []) ≡ Legal (record { records = []; pointers = []; modules = (record { name = (77 ∷ []); objects = []; variables = []; body = 0 } ∷ []); procedures = (record { module_number = 0; line = 1; is_body = true; formals = []; result = H.Nothing; locals = []; texts = ((97 ∷ 98 ∷ []) ∷ []); body = (I.next_statement (I.OutString (I.of_type (I.Text (97 ∷ 98 ∷ [])) (H.Text 2))) I.no_statement); answer = None } ∷ []); imports_in = false })
legal_9 = refl

-- MODULE M; TYPE R = RECORD x: INTEGER; y*: CHAR END; P = POINTER TO R; VAR r: R; p: P; BEGIN r := p^ END M.
abbrev legal_10_0 : Parsed
legal_10_0 = record { source = record { bytes = (77 ∷ 79 ∷ 68 ∷ 85 ∷ 76 ∷ 69 ∷ 32 ∷ 77 ∷ 59 ∷ 32 ∷ 84 ∷ 89 ∷ 80 ∷ 69 ∷ 32 ∷ 82 ∷ 32 ∷ 61 ∷ 32 ∷ 82 ∷ 69 ∷ 67 ∷ 79 ∷ 82 ∷ 68 ∷ 32 ∷ 120 ∷ 58 ∷ 32 ∷ 73 ∷ 78 ∷ 84 ∷ 69 ∷ 71 ∷ 69 ∷ 82 ∷ 59 ∷ 32 ∷ 121 ∷ 42 ∷ 58 ∷ 32 ∷ 67 ∷ 72 ∷ 65 ∷ 82 ∷ 32 ∷ 69 ∷ 78 ∷ 68 ∷ 59 ∷ 32 ∷ 80 ∷ 32 ∷ 61 ∷ 32 ∷ 80 ∷ 79 ∷ 73 ∷ 78 ∷ 84 ∷ 69 ∷ 82 ∷ 32 ∷ 84 ∷ 79 ∷ 32 ∷ 82 ∷ 59 ∷ 32 ∷ 86 ∷ 65 ∷ 82 ∷ 32 ∷ 114 ∷ 58 ∷ 32 ∷ 82 ∷ 59 ∷ 32 ∷ 112 ∷ 58 ∷ 32 ∷ 80 ∷ 59 ∷ 32 ∷ 66 ∷ 69 ∷ 71 ∷ 73 ∷ 78 ∷ 32 ∷ 114 ∷ 32 ∷ 58 ∷ 61 ∷ 32 ∷ 112 ∷ 94 ∷ 32 ∷ 69 ∷ 78 ∷ 68 ∷ 32 ∷ 77 ∷ 46 ∷ []); symbols = (symbol (Ident) 0 6 ∷ symbol (Ident) 7 8 ∷ symbol (Ident) 8 9 ∷ symbol (Ident) 10 14 ∷ symbol (Ident) 15 16 ∷ symbol (Ident) 17 18 ∷ symbol (Ident) 19 25 ∷ symbol (Ident) 26 27 ∷ symbol (Ident) 27 28 ∷ symbol (Ident) 29 36 ∷ symbol (Ident) 36 37 ∷ symbol (Ident) 38 39 ∷ symbol (Ident) 39 40 ∷ symbol (Ident) 40 41 ∷ symbol (Ident) 42 46 ∷ symbol (Ident) 47 50 ∷ symbol (Ident) 50 51 ∷ symbol (Ident) 52 53 ∷ symbol (Ident) 54 55 ∷ symbol (Ident) 56 63 ∷ symbol (Ident) 64 66 ∷ symbol (Ident) 67 68 ∷ symbol (Ident) 68 69 ∷ symbol (Ident) 70 73 ∷ symbol (Ident) 74 75 ∷ symbol (Ident) 75 76 ∷ symbol (Ident) 77 78 ∷ symbol (Ident) 78 79 ∷ symbol (Ident) 80 81 ∷ symbol (Ident) 81 82 ∷ symbol (Ident) 83 84 ∷ symbol (Ident) 84 85 ∷ symbol (Ident) 86 91 ∷ symbol (Ident) 92 93 ∷ symbol (Ident) 94 96 ∷ symbol (Ident) 97 98 ∷ symbol (Ident) 98 99 ∷ symbol (Ident) 100 103 ∷ symbol (Ident) 104 105 ∷ symbol (Ident) 105 106 ∷ []) }; tree = record { module_word = 0; name = 1; semicolon = 0; imports = None; decls = (S.decls None (Some (record { type_word = 0; each = (record { name = (record { name = 4; star = None }); equal = 0; is = (S.Record 6 None (S.fields (record { first = (record { name = 7; star = None }); more = [] }) 0 (S.Named (record { name = 9; member = None }))) (S.next_fields 0 (S.fields (record { first = (record { name = 11; star = Some 0 }); more = [] }) 0 (S.Named (record { name = 14; member = None }))) S.no_more_fields) 0); semicolon = 0 } ∷ record { name = (record { name = 17; star = None }); equal = 0; is = (S.Pointer 19 0 (S.Named (record { name = 21; member = None }))); semicolon = 0 } ∷ []) })) (Some (record { var_word = 0; each = (record { names = (record { first = (record { name = 24; star = None }); more = [] }); colon = 0; of = (S.Named (record { name = 26; member = None })); semicolon = 0 } ∷ record { names = (record { first = (record { name = 28; star = None }); more = [] }); colon = 0; of = (S.Named (record { name = 30; member = None })); semicolon = 0 } ∷ []) })) S.no_procedure); body = (Some (record { begin_word = 0; stats = (S.stats (S.AssignOrCall (record { name = 33; selectors = S.no_selector }) (Some (record { becomes = 0; value = (S.only (S.simple None (S.term (S.Designated 35 (S.selected (S.Arrow 0) S.no_selector)) S.no_factor) S.no_term)) }))) S.no_stat) })); end_word = 0; end_name = 38; period = 0 } }

pub legal_10 : checked (legal_10_0 ∷ []) ≡ Legal (record { records = (record { module_number = 0; base = None; level = 0; fields = (record { name = (120 ∷ []); exported = false; shape = H.Integer } ∷ record { name = (121 ∷ []); exported = true; shape = H.Char } ∷ []); cells = 2; extent = record { bytes = 16; wide = true } } ∷ []); pointers = (Some 0 ∷ []); modules = (record { name = (77 ∷ []); objects = (record { name = (82 ∷ []); exported = false; entity = I.OfType (H.Record 0) } ∷ record { name = (80 ∷ []); exported = false; entity = I.OfType (H.Pointer 0) } ∷ record { name = (114 ∷ []); exported = false; entity = I.OfVariable 0 } ∷ record { name = (112 ∷ []); exported = false; entity = I.OfVariable 1 } ∷ []); variables = ((H.Record 0) ∷ (H.Pointer 0) ∷ []); body = 0 } ∷ []); procedures = (record { module_number = 0; line = 1; is_body = true; formals = []; result = H.Nothing; locals = []; texts = []; body = (I.next_statement (I.CopyRecord (I.of_type (I.Global 0 0) (H.Record 0)) (I.of_type (I.Dereference (I.Load (I.of_type (I.Global 0 1) (H.Pointer 0)))) (H.Record 0))) I.no_statement); answer = None } ∷ []); imports_in = false })
legal_10 = refl

-- MODULE M; TYPE R = RECORD x: INTEGER; y*: CHAR END; E = RECORD (R) z: SET END; VAR r: R; e: E; BEGIN r := e END M.
abbrev legal_11_0 : Parsed
legal_11_0 = record { source = record { bytes = (77 ∷ 79 ∷ 68 ∷ 85 ∷ 76 ∷ 69 ∷ 32 ∷ 77 ∷ 59 ∷ 32 ∷ 84 ∷ 89 ∷ 80 ∷ 69 ∷ 32 ∷ 82 ∷ 32 ∷ 61 ∷ 32 ∷ 82 ∷ 69 ∷ 67 ∷ 79 ∷ 82 ∷ 68 ∷ 32 ∷ 120 ∷ 58 ∷ 32 ∷ 73 ∷ 78 ∷ 84 ∷ 69 ∷ 71 ∷ 69 ∷ 82 ∷ 59 ∷ 32 ∷ 121 ∷ 42 ∷ 58 ∷ 32 ∷ 67 ∷ 72 ∷ 65 ∷ 82 ∷ 32 ∷ 69 ∷ 78 ∷ 68 ∷ 59 ∷ 32 ∷ 69 ∷ 32 ∷ 61 ∷ 32 ∷ 82 ∷ 69 ∷ 67 ∷ 79 ∷ 82 ∷ 68 ∷ 32 ∷ 40 ∷ 82 ∷ 41 ∷ 32 ∷ 122 ∷ 58 ∷ 32 ∷ 83 ∷ 69 ∷ 84 ∷ 32 ∷ 69 ∷ 78 ∷ 68 ∷ 59 ∷ 32 ∷ 86 ∷ 65 ∷ 82 ∷ 32 ∷ 114 ∷ 58 ∷ 32 ∷ 82 ∷ 59 ∷ 32 ∷ 101 ∷ 58 ∷ 32 ∷ 69 ∷ 59 ∷ 32 ∷ 66 ∷ 69 ∷ 71 ∷ 73 ∷ 78 ∷ 32 ∷ 114 ∷ 32 ∷ 58 ∷ 61 ∷ 32 ∷ 101 ∷ 32 ∷ 69 ∷ 78 ∷ 68 ∷ 32 ∷ 77 ∷ 46 ∷ []); symbols = (symbol (Ident) 0 6 ∷ symbol (Ident) 7 8 ∷ symbol (Ident) 8 9 ∷ symbol (Ident) 10 14 ∷ symbol (Ident) 15 16 ∷ symbol (Ident) 17 18 ∷ symbol (Ident) 19 25 ∷ symbol (Ident) 26 27 ∷ symbol (Ident) 27 28 ∷ symbol (Ident) 29 36 ∷ symbol (Ident) 36 37 ∷ symbol (Ident) 38 39 ∷ symbol (Ident) 39 40 ∷ symbol (Ident) 40 41 ∷ symbol (Ident) 42 46 ∷ symbol (Ident) 47 50 ∷ symbol (Ident) 50 51 ∷ symbol (Ident) 52 53 ∷ symbol (Ident) 54 55 ∷ symbol (Ident) 56 62 ∷ symbol (Ident) 63 64 ∷ symbol (Ident) 64 65 ∷ symbol (Ident) 65 66 ∷ symbol (Ident) 67 68 ∷ symbol (Ident) 68 69 ∷ symbol (Ident) 70 73 ∷ symbol (Ident) 74 77 ∷ symbol (Ident) 77 78 ∷ symbol (Ident) 79 82 ∷ symbol (Ident) 83 84 ∷ symbol (Ident) 84 85 ∷ symbol (Ident) 86 87 ∷ symbol (Ident) 87 88 ∷ symbol (Ident) 89 90 ∷ symbol (Ident) 90 91 ∷ symbol (Ident) 92 93 ∷ symbol (Ident) 93 94 ∷ symbol (Ident) 95 100 ∷ symbol (Ident) 101 102 ∷ symbol (Ident) 103 105 ∷ symbol (Ident) 106 107 ∷ symbol (Ident) 108 111 ∷ symbol (Ident) 112 113 ∷ symbol (Ident) 113 114 ∷ []) }; tree = record { module_word = 0; name = 1; semicolon = 0; imports = None; decls = (S.decls None (Some (record { type_word = 0; each = (record { name = (record { name = 4; star = None }); equal = 0; is = (S.Record 6 None (S.fields (record { first = (record { name = 7; star = None }); more = [] }) 0 (S.Named (record { name = 9; member = None }))) (S.next_fields 0 (S.fields (record { first = (record { name = 11; star = Some 0 }); more = [] }) 0 (S.Named (record { name = 14; member = None }))) S.no_more_fields) 0); semicolon = 0 } ∷ record { name = (record { name = 17; star = None }); equal = 0; is = (S.Record 19 (Some (record { left_paren = 0; name = (record { name = 21; member = None }); right_paren = 0 })) (S.fields (record { first = (record { name = 23; star = None }); more = [] }) 0 (S.Named (record { name = 25; member = None }))) S.no_more_fields 0); semicolon = 0 } ∷ []) })) (Some (record { var_word = 0; each = (record { names = (record { first = (record { name = 29; star = None }); more = [] }); colon = 0; of = (S.Named (record { name = 31; member = None })); semicolon = 0 } ∷ record { names = (record { first = (record { name = 33; star = None }); more = [] }); colon = 0; of = (S.Named (record { name = 35; member = None })); semicolon = 0 } ∷ []) })) S.no_procedure); body = (Some (record { begin_word = 0; stats = (S.stats (S.AssignOrCall (record { name = 38; selectors = S.no_selector }) (Some (record { becomes = 0; value = (S.only (S.simple None (S.term (S.Designated 40 S.no_selector) S.no_factor) S.no_term)) }))) S.no_stat) })); end_word = 0; end_name = 42; period = 0 } }

pub legal_11 : checked (legal_11_0 ∷ []) ≡ Legal (record { records = (record { module_number = 0; base = None; level = 0; fields = (record { name = (120 ∷ []); exported = false; shape = H.Integer } ∷ record { name = (121 ∷ []); exported = true; shape = H.Char } ∷ []); cells = 2; extent = record { bytes = 16; wide = true } } ∷ record { module_number = 0; base = (Some 0); level = 1; fields = (record { name = (122 ∷ []); exported = false; shape = H.Set } ∷ []); cells = 3; extent = record { bytes = 24; wide = true } } ∷ []); pointers = []; modules = (record { name = (77 ∷ []); objects = (record { name = (82 ∷ []); exported = false; entity = I.OfType (H.Record 0) } ∷ record { name = (69 ∷ []); exported = false; entity = I.OfType (H.Record 1) } ∷ record { name = (114 ∷ []); exported = false; entity = I.OfVariable 0 } ∷ record { name = (101 ∷ []); exported = false; entity = I.OfVariable 1 } ∷ []); variables = ((H.Record 0) ∷ (H.Record 1) ∷ []); body = 0 } ∷ []); procedures = (record { module_number = 0; line = 1; is_body = true; formals = []; result = H.Nothing; locals = []; texts = []; body = (I.next_statement (I.CopyRecord (I.of_type (I.Global 0 0) (H.Record 0)) (I.of_type (I.Global 0 1) (H.Record 1))) I.no_statement); answer = None } ∷ []); imports_in = false })
legal_11 = refl

-- MODULE M; TYPE R = RECORD x: INTEGER; y*: CHAR END; E = RECORD (R) z: SET END; P = POINTER TO R; Q = POINTER TO E; VAR p: P; q: Q; BEGIN p := q END M.
abbrev legal_12_0 : Parsed
legal_12_0 = record { source = record { bytes = (77 ∷ 79 ∷ 68 ∷ 85 ∷ 76 ∷ 69 ∷ 32 ∷ 77 ∷ 59 ∷ 32 ∷ 84 ∷ 89 ∷ 80 ∷ 69 ∷ 32 ∷ 82 ∷ 32 ∷ 61 ∷ 32 ∷ 82 ∷ 69 ∷ 67 ∷ 79 ∷ 82 ∷ 68 ∷ 32 ∷ 120 ∷ 58 ∷ 32 ∷ 73 ∷ 78 ∷ 84 ∷ 69 ∷ 71 ∷ 69 ∷ 82 ∷ 59 ∷ 32 ∷ 121 ∷ 42 ∷ 58 ∷ 32 ∷ 67 ∷ 72 ∷ 65 ∷ 82 ∷ 32 ∷ 69 ∷ 78 ∷ 68 ∷ 59 ∷ 32 ∷ 69 ∷ 32 ∷ 61 ∷ 32 ∷ 82 ∷ 69 ∷ 67 ∷ 79 ∷ 82 ∷ 68 ∷ 32 ∷ 40 ∷ 82 ∷ 41 ∷ 32 ∷ 122 ∷ 58 ∷ 32 ∷ 83 ∷ 69 ∷ 84 ∷ 32 ∷ 69 ∷ 78 ∷ 68 ∷ 59 ∷ 32 ∷ 80 ∷ 32 ∷ 61 ∷ 32 ∷ 80 ∷ 79 ∷ 73 ∷ 78 ∷ 84 ∷ 69 ∷ 82 ∷ 32 ∷ 84 ∷ 79 ∷ 32 ∷ 82 ∷ 59 ∷ 32 ∷ 81 ∷ 32 ∷ 61 ∷ 32 ∷ 80 ∷ 79 ∷ 73 ∷ 78 ∷ 84 ∷ 69 ∷ 82 ∷ 32 ∷ 84 ∷ 79 ∷ 32 ∷ 69 ∷ 59 ∷ 32 ∷ 86 ∷ 65 ∷ 82 ∷ 32 ∷ 112 ∷ 58 ∷ 32 ∷ 80 ∷ 59 ∷ 32 ∷ 113 ∷ 58 ∷ 32 ∷ 81 ∷ 59 ∷ 32 ∷ 66 ∷ 69 ∷ 71 ∷ 73 ∷ 78 ∷ 32 ∷ 112 ∷ 32 ∷ 58 ∷ 61 ∷ 32 ∷ 113 ∷ 32 ∷ 69 ∷ 78 ∷ 68 ∷ 32 ∷ 77 ∷ 46 ∷ []); symbols = (symbol (Ident) 0 6 ∷ symbol (Ident) 7 8 ∷ symbol (Ident) 8 9 ∷ symbol (Ident) 10 14 ∷ symbol (Ident) 15 16 ∷ symbol (Ident) 17 18 ∷ symbol (Ident) 19 25 ∷ symbol (Ident) 26 27 ∷ symbol (Ident) 27 28 ∷ symbol (Ident) 29 36 ∷ symbol (Ident) 36 37 ∷ symbol (Ident) 38 39 ∷ symbol (Ident) 39 40 ∷ symbol (Ident) 40 41 ∷ symbol (Ident) 42 46 ∷ symbol (Ident) 47 50 ∷ symbol (Ident) 50 51 ∷ symbol (Ident) 52 53 ∷ symbol (Ident) 54 55 ∷ symbol (Ident) 56 62 ∷ symbol (Ident) 63 64 ∷ symbol (Ident) 64 65 ∷ symbol (Ident) 65 66 ∷ symbol (Ident) 67 68 ∷ symbol (Ident) 68 69 ∷ symbol (Ident) 70 73 ∷ symbol (Ident) 74 77 ∷ symbol (Ident) 77 78 ∷ symbol (Ident) 79 80 ∷ symbol (Ident) 81 82 ∷ symbol (Ident) 83 90 ∷ symbol (Ident) 91 93 ∷ symbol (Ident) 94 95 ∷ symbol (Ident) 95 96 ∷ symbol (Ident) 97 98 ∷ symbol (Ident) 99 100 ∷ symbol (Ident) 101 108 ∷ symbol (Ident) 109 111 ∷ symbol (Ident) 112 113 ∷ symbol (Ident) 113 114 ∷ symbol (Ident) 115 118 ∷ symbol (Ident) 119 120 ∷ symbol (Ident) 120 121 ∷ symbol (Ident) 122 123 ∷ symbol (Ident) 123 124 ∷ symbol (Ident) 125 126 ∷ symbol (Ident) 126 127 ∷ symbol (Ident) 128 129 ∷ symbol (Ident) 129 130 ∷ symbol (Ident) 131 136 ∷ symbol (Ident) 137 138 ∷ symbol (Ident) 139 141 ∷ symbol (Ident) 142 143 ∷ symbol (Ident) 144 147 ∷ symbol (Ident) 148 149 ∷ symbol (Ident) 149 150 ∷ []) }; tree = record { module_word = 0; name = 1; semicolon = 0; imports = None; decls = (S.decls None (Some (record { type_word = 0; each = (record { name = (record { name = 4; star = None }); equal = 0; is = (S.Record 6 None (S.fields (record { first = (record { name = 7; star = None }); more = [] }) 0 (S.Named (record { name = 9; member = None }))) (S.next_fields 0 (S.fields (record { first = (record { name = 11; star = Some 0 }); more = [] }) 0 (S.Named (record { name = 14; member = None }))) S.no_more_fields) 0); semicolon = 0 } ∷ record { name = (record { name = 17; star = None }); equal = 0; is = (S.Record 19 (Some (record { left_paren = 0; name = (record { name = 21; member = None }); right_paren = 0 })) (S.fields (record { first = (record { name = 23; star = None }); more = [] }) 0 (S.Named (record { name = 25; member = None }))) S.no_more_fields 0); semicolon = 0 } ∷ record { name = (record { name = 28; star = None }); equal = 0; is = (S.Pointer 30 0 (S.Named (record { name = 32; member = None }))); semicolon = 0 } ∷ record { name = (record { name = 34; star = None }); equal = 0; is = (S.Pointer 36 0 (S.Named (record { name = 38; member = None }))); semicolon = 0 } ∷ []) })) (Some (record { var_word = 0; each = (record { names = (record { first = (record { name = 41; star = None }); more = [] }); colon = 0; of = (S.Named (record { name = 43; member = None })); semicolon = 0 } ∷ record { names = (record { first = (record { name = 45; star = None }); more = [] }); colon = 0; of = (S.Named (record { name = 47; member = None })); semicolon = 0 } ∷ []) })) S.no_procedure); body = (Some (record { begin_word = 0; stats = (S.stats (S.AssignOrCall (record { name = 50; selectors = S.no_selector }) (Some (record { becomes = 0; value = (S.only (S.simple None (S.term (S.Designated 52 S.no_selector) S.no_factor) S.no_term)) }))) S.no_stat) })); end_word = 0; end_name = 54; period = 0 } }

pub legal_12 : checked (legal_12_0 ∷ []) ≡ Legal (record { records = (record { module_number = 0; base = None; level = 0; fields = (record { name = (120 ∷ []); exported = false; shape = H.Integer } ∷ record { name = (121 ∷ []); exported = true; shape = H.Char } ∷ []); cells = 2; extent = record { bytes = 16; wide = true } } ∷ record { module_number = 0; base = (Some 0); level = 1; fields = (record { name = (122 ∷ []); exported = false; shape = H.Set } ∷ []); cells = 3; extent = record { bytes = 24; wide = true } } ∷ []); pointers = (Some 0 ∷ Some 1 ∷ []); modules = (record { name = (77 ∷ []); objects = (record { name = (82 ∷ []); exported = false; entity = I.OfType (H.Record 0) } ∷ record { name = (69 ∷ []); exported = false; entity = I.OfType (H.Record 1) } ∷ record { name = (80 ∷ []); exported = false; entity = I.OfType (H.Pointer 0) } ∷ record { name = (81 ∷ []); exported = false; entity = I.OfType (H.Pointer 1) } ∷ record { name = (112 ∷ []); exported = false; entity = I.OfVariable 0 } ∷ record { name = (113 ∷ []); exported = false; entity = I.OfVariable 1 } ∷ []); variables = ((H.Pointer 0) ∷ (H.Pointer 1) ∷ []); body = 0 } ∷ []); procedures = (record { module_number = 0; line = 1; is_body = true; formals = []; result = H.Nothing; locals = []; texts = []; body = (I.next_statement (I.Assign (I.of_type (I.Global 0 0) (H.Pointer 0)) (record { form = (I.Load (I.of_type (I.Global 0 1) (H.Pointer 1))); shape = (H.Pointer 1) })) I.no_statement); answer = None } ∷ []); imports_in = false })
legal_12 = refl

-- MODULE M; TYPE R = RECORD x: INTEGER; y*: CHAR END; E = RECORD (R) z: SET END; Q = POINTER TO E; VAR e: E; q: Q; BEGIN e := q^ END M.
abbrev legal_13_0 : Parsed
legal_13_0 = record { source = record { bytes = (77 ∷ 79 ∷ 68 ∷ 85 ∷ 76 ∷ 69 ∷ 32 ∷ 77 ∷ 59 ∷ 32 ∷ 84 ∷ 89 ∷ 80 ∷ 69 ∷ 32 ∷ 82 ∷ 32 ∷ 61 ∷ 32 ∷ 82 ∷ 69 ∷ 67 ∷ 79 ∷ 82 ∷ 68 ∷ 32 ∷ 120 ∷ 58 ∷ 32 ∷ 73 ∷ 78 ∷ 84 ∷ 69 ∷ 71 ∷ 69 ∷ 82 ∷ 59 ∷ 32 ∷ 121 ∷ 42 ∷ 58 ∷ 32 ∷ 67 ∷ 72 ∷ 65 ∷ 82 ∷ 32 ∷ 69 ∷ 78 ∷ 68 ∷ 59 ∷ 32 ∷ 69 ∷ 32 ∷ 61 ∷ 32 ∷ 82 ∷ 69 ∷ 67 ∷ 79 ∷ 82 ∷ 68 ∷ 32 ∷ 40 ∷ 82 ∷ 41 ∷ 32 ∷ 122 ∷ 58 ∷ 32 ∷ 83 ∷ 69 ∷ 84 ∷ 32 ∷ 69 ∷ 78 ∷ 68 ∷ 59 ∷ 32 ∷ 81 ∷ 32 ∷ 61 ∷ 32 ∷ 80 ∷ 79 ∷ 73 ∷ 78 ∷ 84 ∷ 69 ∷ 82 ∷ 32 ∷ 84 ∷ 79 ∷ 32 ∷ 69 ∷ 59 ∷ 32 ∷ 86 ∷ 65 ∷ 82 ∷ 32 ∷ 101 ∷ 58 ∷ 32 ∷ 69 ∷ 59 ∷ 32 ∷ 113 ∷ 58 ∷ 32 ∷ 81 ∷ 59 ∷ 32 ∷ 66 ∷ 69 ∷ 71 ∷ 73 ∷ 78 ∷ 32 ∷ 101 ∷ 32 ∷ 58 ∷ 61 ∷ 32 ∷ 113 ∷ 94 ∷ 32 ∷ 69 ∷ 78 ∷ 68 ∷ 32 ∷ 77 ∷ 46 ∷ []); symbols = (symbol (Ident) 0 6 ∷ symbol (Ident) 7 8 ∷ symbol (Ident) 8 9 ∷ symbol (Ident) 10 14 ∷ symbol (Ident) 15 16 ∷ symbol (Ident) 17 18 ∷ symbol (Ident) 19 25 ∷ symbol (Ident) 26 27 ∷ symbol (Ident) 27 28 ∷ symbol (Ident) 29 36 ∷ symbol (Ident) 36 37 ∷ symbol (Ident) 38 39 ∷ symbol (Ident) 39 40 ∷ symbol (Ident) 40 41 ∷ symbol (Ident) 42 46 ∷ symbol (Ident) 47 50 ∷ symbol (Ident) 50 51 ∷ symbol (Ident) 52 53 ∷ symbol (Ident) 54 55 ∷ symbol (Ident) 56 62 ∷ symbol (Ident) 63 64 ∷ symbol (Ident) 64 65 ∷ symbol (Ident) 65 66 ∷ symbol (Ident) 67 68 ∷ symbol (Ident) 68 69 ∷ symbol (Ident) 70 73 ∷ symbol (Ident) 74 77 ∷ symbol (Ident) 77 78 ∷ symbol (Ident) 79 80 ∷ symbol (Ident) 81 82 ∷ symbol (Ident) 83 90 ∷ symbol (Ident) 91 93 ∷ symbol (Ident) 94 95 ∷ symbol (Ident) 95 96 ∷ symbol (Ident) 97 100 ∷ symbol (Ident) 101 102 ∷ symbol (Ident) 102 103 ∷ symbol (Ident) 104 105 ∷ symbol (Ident) 105 106 ∷ symbol (Ident) 107 108 ∷ symbol (Ident) 108 109 ∷ symbol (Ident) 110 111 ∷ symbol (Ident) 111 112 ∷ symbol (Ident) 113 118 ∷ symbol (Ident) 119 120 ∷ symbol (Ident) 121 123 ∷ symbol (Ident) 124 125 ∷ symbol (Ident) 125 126 ∷ symbol (Ident) 127 130 ∷ symbol (Ident) 131 132 ∷ symbol (Ident) 132 133 ∷ []) }; tree = record { module_word = 0; name = 1; semicolon = 0; imports = None; decls = (S.decls None (Some (record { type_word = 0; each = (record { name = (record { name = 4; star = None }); equal = 0; is = (S.Record 6 None (S.fields (record { first = (record { name = 7; star = None }); more = [] }) 0 (S.Named (record { name = 9; member = None }))) (S.next_fields 0 (S.fields (record { first = (record { name = 11; star = Some 0 }); more = [] }) 0 (S.Named (record { name = 14; member = None }))) S.no_more_fields) 0); semicolon = 0 } ∷ record { name = (record { name = 17; star = None }); equal = 0; is = (S.Record 19 (Some (record { left_paren = 0; name = (record { name = 21; member = None }); right_paren = 0 })) (S.fields (record { first = (record { name = 23; star = None }); more = [] }) 0 (S.Named (record { name = 25; member = None }))) S.no_more_fields 0); semicolon = 0 } ∷ record { name = (record { name = 28; star = None }); equal = 0; is = (S.Pointer 30 0 (S.Named (record { name = 32; member = None }))); semicolon = 0 } ∷ []) })) (Some (record { var_word = 0; each = (record { names = (record { first = (record { name = 35; star = None }); more = [] }); colon = 0; of = (S.Named (record { name = 37; member = None })); semicolon = 0 } ∷ record { names = (record { first = (record { name = 39; star = None }); more = [] }); colon = 0; of = (S.Named (record { name = 41; member = None })); semicolon = 0 } ∷ []) })) S.no_procedure); body = (Some (record { begin_word = 0; stats = (S.stats (S.AssignOrCall (record { name = 44; selectors = S.no_selector }) (Some (record { becomes = 0; value = (S.only (S.simple None (S.term (S.Designated 46 (S.selected (S.Arrow 0) S.no_selector)) S.no_factor) S.no_term)) }))) S.no_stat) })); end_word = 0; end_name = 49; period = 0 } }

pub legal_13 : checked (legal_13_0 ∷ []) ≡ Legal (record { records = (record { module_number = 0; base = None; level = 0; fields = (record { name = (120 ∷ []); exported = false; shape = H.Integer } ∷ record { name = (121 ∷ []); exported = true; shape = H.Char } ∷ []); cells = 2; extent = record { bytes = 16; wide = true } } ∷ record { module_number = 0; base = (Some 0); level = 1; fields = (record { name = (122 ∷ []); exported = false; shape = H.Set } ∷ []); cells = 3; extent = record { bytes = 24; wide = true } } ∷ []); pointers = (Some 1 ∷ []); modules = (record { name = (77 ∷ []); objects = (record { name = (82 ∷ []); exported = false; entity = I.OfType (H.Record 0) } ∷ record { name = (69 ∷ []); exported = false; entity = I.OfType (H.Record 1) } ∷ record { name = (81 ∷ []); exported = false; entity = I.OfType (H.Pointer 0) } ∷ record { name = (101 ∷ []); exported = false; entity = I.OfVariable 0 } ∷ record { name = (113 ∷ []); exported = false; entity = I.OfVariable 1 } ∷ []); variables = ((H.Record 1) ∷ (H.Pointer 0) ∷ []); body = 0 } ∷ []); procedures = (record { module_number = 0; line = 1; is_body = true; formals = []; result = H.Nothing; locals = []; texts = []; body = (I.next_statement (I.CopyRecord (I.of_type (I.Global 0 0) (H.Record 1)) (I.of_type (I.Dereference (I.Load (I.of_type (I.Global 0 1) (H.Pointer 0)))) (H.Record 1))) I.no_statement); answer = None } ∷ []); imports_in = false })
legal_13 = refl

-- MODULE M; VAR i: INTEGER; y: BYTE; BEGIN y := 1; y := i; i := y END M.
abbrev legal_14_0 : Parsed
legal_14_0 = record { source = record { bytes = (77 ∷ 79 ∷ 68 ∷ 85 ∷ 76 ∷ 69 ∷ 32 ∷ 77 ∷ 59 ∷ 32 ∷ 86 ∷ 65 ∷ 82 ∷ 32 ∷ 105 ∷ 58 ∷ 32 ∷ 73 ∷ 78 ∷ 84 ∷ 69 ∷ 71 ∷ 69 ∷ 82 ∷ 59 ∷ 32 ∷ 121 ∷ 58 ∷ 32 ∷ 66 ∷ 89 ∷ 84 ∷ 69 ∷ 59 ∷ 32 ∷ 66 ∷ 69 ∷ 71 ∷ 73 ∷ 78 ∷ 32 ∷ 121 ∷ 32 ∷ 58 ∷ 61 ∷ 32 ∷ 49 ∷ 59 ∷ 32 ∷ 121 ∷ 32 ∷ 58 ∷ 61 ∷ 32 ∷ 105 ∷ 59 ∷ 32 ∷ 105 ∷ 32 ∷ 58 ∷ 61 ∷ 32 ∷ 121 ∷ 32 ∷ 69 ∷ 78 ∷ 68 ∷ 32 ∷ 77 ∷ 46 ∷ []); symbols = (symbol (Ident) 0 6 ∷ symbol (Ident) 7 8 ∷ symbol (Ident) 8 9 ∷ symbol (Ident) 10 13 ∷ symbol (Ident) 14 15 ∷ symbol (Ident) 15 16 ∷ symbol (Ident) 17 24 ∷ symbol (Ident) 24 25 ∷ symbol (Ident) 26 27 ∷ symbol (Ident) 27 28 ∷ symbol (Ident) 29 33 ∷ symbol (Ident) 33 34 ∷ symbol (Ident) 35 40 ∷ symbol (Ident) 41 42 ∷ symbol (Ident) 43 45 ∷ symbol (Int (pos 1)) 46 47 ∷ symbol (Ident) 47 48 ∷ symbol (Ident) 49 50 ∷ symbol (Ident) 51 53 ∷ symbol (Ident) 54 55 ∷ symbol (Ident) 55 56 ∷ symbol (Ident) 57 58 ∷ symbol (Ident) 59 61 ∷ symbol (Ident) 62 63 ∷ symbol (Ident) 64 67 ∷ symbol (Ident) 68 69 ∷ symbol (Ident) 69 70 ∷ []) }; tree = record { module_word = 0; name = 1; semicolon = 0; imports = None; decls = (S.decls None None (Some (record { var_word = 0; each = (record { names = (record { first = (record { name = 4; star = None }); more = [] }); colon = 0; of = (S.Named (record { name = 6; member = None })); semicolon = 0 } ∷ record { names = (record { first = (record { name = 8; star = None }); more = [] }); colon = 0; of = (S.Named (record { name = 10; member = None })); semicolon = 0 } ∷ []) })) S.no_procedure); body = (Some (record { begin_word = 0; stats = (S.stats (S.AssignOrCall (record { name = 13; selectors = S.no_selector }) (Some (record { becomes = 0; value = (S.only (S.simple None (S.term (S.Int 15) S.no_factor) S.no_term)) }))) (S.next_stat 0 (S.AssignOrCall (record { name = 17; selectors = S.no_selector }) (Some (record { becomes = 0; value = (S.only (S.simple None (S.term (S.Designated 19 S.no_selector) S.no_factor) S.no_term)) }))) (S.next_stat 0 (S.AssignOrCall (record { name = 21; selectors = S.no_selector }) (Some (record { becomes = 0; value = (S.only (S.simple None (S.term (S.Designated 23 S.no_selector) S.no_factor) S.no_term)) }))) S.no_stat))) })); end_word = 0; end_name = 25; period = 0 } }

pub legal_14 : checked (legal_14_0 ∷ []) ≡ Legal (record { records = []; pointers = []; modules = (record { name = (77 ∷ []); objects = (record { name = (105 ∷ []); exported = false; entity = I.OfVariable 0 } ∷ record { name = (121 ∷ []); exported = false; entity = I.OfVariable 1 } ∷ []); variables = (H.Integer ∷ H.Byte ∷ []); body = 0 } ∷ []); procedures = (record { module_number = 0; line = 1; is_body = true; formals = []; result = H.Nothing; locals = []; texts = []; body = (I.next_statement (I.Assign (I.of_type (I.Global 0 1) H.Byte) (record { form = (I.AsByte (I.Literal 1)); shape = H.Byte })) (I.next_statement (I.Assign (I.of_type (I.Global 0 1) H.Byte) (record { form = (I.AsByte (I.Load (I.of_type (I.Global 0 0) H.Integer))); shape = H.Byte })) (I.next_statement (I.Assign (I.of_type (I.Global 0 0) H.Integer) (record { form = (I.Load (I.of_type (I.Global 0 1) H.Byte)); shape = H.Byte })) I.no_statement))); answer = None } ∷ []); imports_in = false })
legal_14 = refl

-- MODULE M; VAR c: CHAR; BEGIN c := ''a'' END M.
abbrev legal_15_0 : Parsed
legal_15_0 = record { source = record { bytes = (77 ∷ 79 ∷ 68 ∷ 85 ∷ 76 ∷ 69 ∷ 32 ∷ 77 ∷ 59 ∷ 32 ∷ 86 ∷ 65 ∷ 82 ∷ 32 ∷ 99 ∷ 58 ∷ 32 ∷ 67 ∷ 72 ∷ 65 ∷ 82 ∷ 59 ∷ 32 ∷ 66 ∷ 69 ∷ 71 ∷ 73 ∷ 78 ∷ 32 ∷ 99 ∷ 32 ∷ 58 ∷ 61 ∷ 32 ∷ 34 ∷ 97 ∷ 34 ∷ 32 ∷ 69 ∷ 78 ∷ 68 ∷ 32 ∷ 77 ∷ 46 ∷ []); symbols = (symbol (Ident) 0 6 ∷ symbol (Ident) 7 8 ∷ symbol (Ident) 8 9 ∷ symbol (Ident) 10 13 ∷ symbol (Ident) 14 15 ∷ symbol (Ident) 15 16 ∷ symbol (Ident) 17 21 ∷ symbol (Ident) 21 22 ∷ symbol (Ident) 23 28 ∷ symbol (Ident) 29 30 ∷ symbol (Ident) 31 33 ∷ symbol (TheKind.Text) 34 37 ∷ symbol (Ident) 38 41 ∷ symbol (Ident) 42 43 ∷ symbol (Ident) 43 44 ∷ []) }; tree = record { module_word = 0; name = 1; semicolon = 0; imports = None; decls = (S.decls None None (Some (record { var_word = 0; each = (record { names = (record { first = (record { name = 4; star = None }); more = [] }); colon = 0; of = (S.Named (record { name = 6; member = None })); semicolon = 0 } ∷ []) })) S.no_procedure); body = (Some (record { begin_word = 0; stats = (S.stats (S.AssignOrCall (record { name = 9; selectors = S.no_selector }) (Some (record { becomes = 0; value = (S.only (S.simple None (S.term (S.Text 11) S.no_factor) S.no_term)) }))) S.no_stat) })); end_word = 0; end_name = 13; period = 0 } }

pub legal_15 : checked (legal_15_0 ∷ []) ≡ Legal (record { records = []; pointers = []; modules = (record { name = (77 ∷ []); objects = (record { name = (99 ∷ []); exported = false; entity = I.OfVariable 0 } ∷ []); variables = (H.Char ∷ []); body = 0 } ∷ []); procedures = (record { module_number = 0; line = 1; is_body = true; formals = []; result = H.Nothing; locals = []; texts = []; body = (I.next_statement (I.Assign (I.of_type (I.Global 0 0) H.Char) (record { form = (I.Literal 97); shape = H.Char })) I.no_statement); answer = None } ∷ []); imports_in = false })
legal_15 = refl

-- MODULE M; VAR c: CHAR; BEGIN c := 41X END M.
abbrev legal_16_0 : Parsed
legal_16_0 = record { source = record { bytes = (77 ∷ 79 ∷ 68 ∷ 85 ∷ 76 ∷ 69 ∷ 32 ∷ 77 ∷ 59 ∷ 32 ∷ 86 ∷ 65 ∷ 82 ∷ 32 ∷ 99 ∷ 58 ∷ 32 ∷ 67 ∷ 72 ∷ 65 ∷ 82 ∷ 59 ∷ 32 ∷ 66 ∷ 69 ∷ 71 ∷ 73 ∷ 78 ∷ 32 ∷ 99 ∷ 32 ∷ 58 ∷ 61 ∷ 32 ∷ 52 ∷ 49 ∷ 88 ∷ 32 ∷ 69 ∷ 78 ∷ 68 ∷ 32 ∷ 77 ∷ 46 ∷ []); symbols = (symbol (Ident) 0 6 ∷ symbol (Ident) 7 8 ∷ symbol (Ident) 8 9 ∷ symbol (Ident) 10 13 ∷ symbol (Ident) 14 15 ∷ symbol (Ident) 15 16 ∷ symbol (Ident) 17 21 ∷ symbol (Ident) 21 22 ∷ symbol (Ident) 23 28 ∷ symbol (Ident) 29 30 ∷ symbol (Ident) 31 33 ∷ symbol (TheKind.Char 65) 34 37 ∷ symbol (Ident) 38 41 ∷ symbol (Ident) 42 43 ∷ symbol (Ident) 43 44 ∷ []) }; tree = record { module_word = 0; name = 1; semicolon = 0; imports = None; decls = (S.decls None None (Some (record { var_word = 0; each = (record { names = (record { first = (record { name = 4; star = None }); more = [] }); colon = 0; of = (S.Named (record { name = 6; member = None })); semicolon = 0 } ∷ []) })) S.no_procedure); body = (Some (record { begin_word = 0; stats = (S.stats (S.AssignOrCall (record { name = 9; selectors = S.no_selector }) (Some (record { becomes = 0; value = (S.only (S.simple None (S.term (S.Char 11) S.no_factor) S.no_term)) }))) S.no_stat) })); end_word = 0; end_name = 13; period = 0 } }

pub legal_16 : checked (legal_16_0 ∷ []) ≡ Legal (record { records = []; pointers = []; modules = (record { name = (77 ∷ []); objects = (record { name = (99 ∷ []); exported = false; entity = I.OfVariable 0 } ∷ []); variables = (H.Char ∷ []); body = 0 } ∷ []); procedures = (record { module_number = 0; line = 1; is_body = true; formals = []; result = H.Nothing; locals = []; texts = []; body = (I.next_statement (I.Assign (I.of_type (I.Global 0 0) H.Char) (record { form = (I.Literal 65); shape = H.Char })) I.no_statement); answer = None } ∷ []); imports_in = false })
legal_16 = refl

-- MODULE M; VAR t: ARRAY 8 OF CHAR; BEGIN t := ''abcdefg'' END M.
abbrev legal_17_0 : Parsed
legal_17_0 = record { source = record { bytes = (77 ∷ 79 ∷ 68 ∷ 85 ∷ 76 ∷ 69 ∷ 32 ∷ 77 ∷ 59 ∷ 32 ∷ 86 ∷ 65 ∷ 82 ∷ 32 ∷ 116 ∷ 58 ∷ 32 ∷ 65 ∷ 82 ∷ 82 ∷ 65 ∷ 89 ∷ 32 ∷ 56 ∷ 32 ∷ 79 ∷ 70 ∷ 32 ∷ 67 ∷ 72 ∷ 65 ∷ 82 ∷ 59 ∷ 32 ∷ 66 ∷ 69 ∷ 71 ∷ 73 ∷ 78 ∷ 32 ∷ 116 ∷ 32 ∷ 58 ∷ 61 ∷ 32 ∷ 34 ∷ 97 ∷ 98 ∷ 99 ∷ 100 ∷ 101 ∷ 102 ∷ 103 ∷ 34 ∷ 32 ∷ 69 ∷ 78 ∷ 68 ∷ 32 ∷ 77 ∷ 46 ∷ []); symbols = (symbol (Ident) 0 6 ∷ symbol (Ident) 7 8 ∷ symbol (Ident) 8 9 ∷ symbol (Ident) 10 13 ∷ symbol (Ident) 14 15 ∷ symbol (Ident) 15 16 ∷ symbol (Ident) 17 22 ∷ symbol (Int (pos 8)) 23 24 ∷ symbol (Ident) 25 27 ∷ symbol (Ident) 28 32 ∷ symbol (Ident) 32 33 ∷ symbol (Ident) 34 39 ∷ symbol (Ident) 40 41 ∷ symbol (Ident) 42 44 ∷ symbol (TheKind.Text) 45 54 ∷ symbol (Ident) 55 58 ∷ symbol (Ident) 59 60 ∷ symbol (Ident) 60 61 ∷ []) }; tree = record { module_word = 0; name = 1; semicolon = 0; imports = None; decls = (S.decls None None (Some (record { var_word = 0; each = (record { names = (record { first = (record { name = 4; star = None }); more = [] }); colon = 0; of = (S.Array 6 (S.only (S.simple None (S.term (S.Int 7) S.no_factor) S.no_term)) S.no_expression 0 (S.Named (record { name = 9; member = None }))); semicolon = 0 } ∷ []) })) S.no_procedure); body = (Some (record { begin_word = 0; stats = (S.stats (S.AssignOrCall (record { name = 12; selectors = S.no_selector }) (Some (record { becomes = 0; value = (S.only (S.simple None (S.term (S.Text 14) S.no_factor) S.no_term)) }))) S.no_stat) })); end_word = 0; end_name = 16; period = 0 } }

pub legal_17 : checked (legal_17_0 ∷ []) ≡ Legal (record { records = []; pointers = []; modules = (record { name = (77 ∷ []); objects = (record { name = (116 ∷ []); exported = false; entity = I.OfVariable 0 } ∷ []); variables = ((H.Array 8 H.Char) ∷ []); body = 0 } ∷ []); procedures = (record { module_number = 0; line = 1; is_body = true; formals = []; result = H.Nothing; locals = []; texts = ((97 ∷ 98 ∷ 99 ∷ 100 ∷ 101 ∷ 102 ∷ 103 ∷ []) ∷ []); body = (I.next_statement (I.CopyArray (I.of_type (I.Global 0 0) (H.Array 8 H.Char)) (I.of_type (I.Text (97 ∷ 98 ∷ 99 ∷ 100 ∷ 101 ∷ 102 ∷ 103 ∷ [])) (H.Text 7))) I.no_statement); answer = None } ∷ []); imports_in = false })
legal_17 = refl

-- MODULE M; VAR u: ARRAY 4 OF CHAR; BEGIN u := ''ab'' END M.
abbrev legal_18_0 : Parsed
legal_18_0 = record { source = record { bytes = (77 ∷ 79 ∷ 68 ∷ 85 ∷ 76 ∷ 69 ∷ 32 ∷ 77 ∷ 59 ∷ 32 ∷ 86 ∷ 65 ∷ 82 ∷ 32 ∷ 117 ∷ 58 ∷ 32 ∷ 65 ∷ 82 ∷ 82 ∷ 65 ∷ 89 ∷ 32 ∷ 52 ∷ 32 ∷ 79 ∷ 70 ∷ 32 ∷ 67 ∷ 72 ∷ 65 ∷ 82 ∷ 59 ∷ 32 ∷ 66 ∷ 69 ∷ 71 ∷ 73 ∷ 78 ∷ 32 ∷ 117 ∷ 32 ∷ 58 ∷ 61 ∷ 32 ∷ 34 ∷ 97 ∷ 98 ∷ 34 ∷ 32 ∷ 69 ∷ 78 ∷ 68 ∷ 32 ∷ 77 ∷ 46 ∷ []); symbols = (symbol (Ident) 0 6 ∷ symbol (Ident) 7 8 ∷ symbol (Ident) 8 9 ∷ symbol (Ident) 10 13 ∷ symbol (Ident) 14 15 ∷ symbol (Ident) 15 16 ∷ symbol (Ident) 17 22 ∷ symbol (Int (pos 4)) 23 24 ∷ symbol (Ident) 25 27 ∷ symbol (Ident) 28 32 ∷ symbol (Ident) 32 33 ∷ symbol (Ident) 34 39 ∷ symbol (Ident) 40 41 ∷ symbol (Ident) 42 44 ∷ symbol (TheKind.Text) 45 49 ∷ symbol (Ident) 50 53 ∷ symbol (Ident) 54 55 ∷ symbol (Ident) 55 56 ∷ []) }; tree = record { module_word = 0; name = 1; semicolon = 0; imports = None; decls = (S.decls None None (Some (record { var_word = 0; each = (record { names = (record { first = (record { name = 4; star = None }); more = [] }); colon = 0; of = (S.Array 6 (S.only (S.simple None (S.term (S.Int 7) S.no_factor) S.no_term)) S.no_expression 0 (S.Named (record { name = 9; member = None }))); semicolon = 0 } ∷ []) })) S.no_procedure); body = (Some (record { begin_word = 0; stats = (S.stats (S.AssignOrCall (record { name = 12; selectors = S.no_selector }) (Some (record { becomes = 0; value = (S.only (S.simple None (S.term (S.Text 14) S.no_factor) S.no_term)) }))) S.no_stat) })); end_word = 0; end_name = 16; period = 0 } }

pub legal_18 : checked (legal_18_0 ∷ []) ≡ Legal (record { records = []; pointers = []; modules = (record { name = (77 ∷ []); objects = (record { name = (117 ∷ []); exported = false; entity = I.OfVariable 0 } ∷ []); variables = ((H.Array 4 H.Char) ∷ []); body = 0 } ∷ []); procedures = (record { module_number = 0; line = 1; is_body = true; formals = []; result = H.Nothing; locals = []; texts = ((97 ∷ 98 ∷ []) ∷ []); body = (I.next_statement (I.CopyArray (I.of_type (I.Global 0 0) (H.Array 4 H.Char)) (I.of_type (I.Text (97 ∷ 98 ∷ [])) (H.Text 2))) I.no_statement); answer = None } ∷ []); imports_in = false })
legal_18 = refl

-- MODULE M; VAR b: BOOLEAN; t: ARRAY 8 OF CHAR; BEGIN b := t = ''ab'' END M.
abbrev legal_19_0 : Parsed
legal_19_0 = record { source = record { bytes = (77 ∷ 79 ∷ 68 ∷ 85 ∷ 76 ∷ 69 ∷ 32 ∷ 77 ∷ 59 ∷ 32 ∷ 86 ∷ 65 ∷ 82 ∷ 32 ∷ 98 ∷ 58 ∷ 32 ∷ 66 ∷ 79 ∷ 79 ∷ 76 ∷ 69 ∷ 65 ∷ 78 ∷ 59 ∷ 32 ∷ 116 ∷ 58 ∷ 32 ∷ 65 ∷ 82 ∷ 82 ∷ 65 ∷ 89 ∷ 32 ∷ 56 ∷ 32 ∷ 79 ∷ 70 ∷ 32 ∷ 67 ∷ 72 ∷ 65 ∷ 82 ∷ 59 ∷ 32 ∷ 66 ∷ 69 ∷ 71 ∷ 73 ∷ 78 ∷ 32 ∷ 98 ∷ 32 ∷ 58 ∷ 61 ∷ 32 ∷ 116 ∷ 32 ∷ 61 ∷ 32 ∷ 34 ∷ 97 ∷ 98 ∷ 34 ∷ 32 ∷ 69 ∷ 78 ∷ 68 ∷ 32 ∷ 77 ∷ 46 ∷ []); symbols = (symbol (Ident) 0 6 ∷ symbol (Ident) 7 8 ∷ symbol (Ident) 8 9 ∷ symbol (Ident) 10 13 ∷ symbol (Ident) 14 15 ∷ symbol (Ident) 15 16 ∷ symbol (Ident) 17 24 ∷ symbol (Ident) 24 25 ∷ symbol (Ident) 26 27 ∷ symbol (Ident) 27 28 ∷ symbol (Ident) 29 34 ∷ symbol (Int (pos 8)) 35 36 ∷ symbol (Ident) 37 39 ∷ symbol (Ident) 40 44 ∷ symbol (Ident) 44 45 ∷ symbol (Ident) 46 51 ∷ symbol (Ident) 52 53 ∷ symbol (Ident) 54 56 ∷ symbol (Ident) 57 58 ∷ symbol (Ident) 59 60 ∷ symbol (TheKind.Text) 61 65 ∷ symbol (Ident) 66 69 ∷ symbol (Ident) 70 71 ∷ symbol (Ident) 71 72 ∷ []) }; tree = record { module_word = 0; name = 1; semicolon = 0; imports = None; decls = (S.decls None None (Some (record { var_word = 0; each = (record { names = (record { first = (record { name = 4; star = None }); more = [] }); colon = 0; of = (S.Named (record { name = 6; member = None })); semicolon = 0 } ∷ record { names = (record { first = (record { name = 8; star = None }); more = [] }); colon = 0; of = (S.Array 10 (S.only (S.simple None (S.term (S.Int 11) S.no_factor) S.no_term)) S.no_expression 0 (S.Named (record { name = 13; member = None }))); semicolon = 0 } ∷ []) })) S.no_procedure); body = (Some (record { begin_word = 0; stats = (S.stats (S.AssignOrCall (record { name = 16; selectors = S.no_selector }) (Some (record { becomes = 0; value = (S.compared (S.simple None (S.term (S.Designated 18 S.no_selector) S.no_factor) S.no_term) (TheRelation.Equal 19) (S.simple None (S.term (S.Text 20) S.no_factor) S.no_term)) }))) S.no_stat) })); end_word = 0; end_name = 22; period = 0 } }

pub legal_19 : checked (legal_19_0 ∷ []) ≡ Legal (record { records = []; pointers = []; modules = (record { name = (77 ∷ []); objects = (record { name = (98 ∷ []); exported = false; entity = I.OfVariable 0 } ∷ record { name = (116 ∷ []); exported = false; entity = I.OfVariable 1 } ∷ []); variables = (H.Boolean ∷ (H.Array 8 H.Char) ∷ []); body = 0 } ∷ []); procedures = (record { module_number = 0; line = 1; is_body = true; formals = []; result = H.Nothing; locals = []; texts = ((97 ∷ 98 ∷ []) ∷ []); body = (I.next_statement (I.Assign (I.of_type (I.Global 0 0) H.Boolean) (record { form = (I.CompareTexts TheComparison.Equal (I.of_type (I.Global 0 1) (H.Array 8 H.Char)) (I.of_type (I.Text (97 ∷ 98 ∷ [])) (H.Text 2))); shape = H.Boolean })) I.no_statement); answer = None } ∷ []); imports_in = false })
legal_19 = refl

-- MODULE M; VAR b: BOOLEAN; BEGIN b := ''a'' = ''b'' END M.
abbrev legal_20_0 : Parsed
legal_20_0 = record { source = record { bytes = (77 ∷ 79 ∷ 68 ∷ 85 ∷ 76 ∷ 69 ∷ 32 ∷ 77 ∷ 59 ∷ 32 ∷ 86 ∷ 65 ∷ 82 ∷ 32 ∷ 98 ∷ 58 ∷ 32 ∷ 66 ∷ 79 ∷ 79 ∷ 76 ∷ 69 ∷ 65 ∷ 78 ∷ 59 ∷ 32 ∷ 66 ∷ 69 ∷ 71 ∷ 73 ∷ 78 ∷ 32 ∷ 98 ∷ 32 ∷ 58 ∷ 61 ∷ 32 ∷ 34 ∷ 97 ∷ 34 ∷ 32 ∷ 61 ∷ 32 ∷ 34 ∷ 98 ∷ 34 ∷ 32 ∷ 69 ∷ 78 ∷ 68 ∷ 32 ∷ 77 ∷ 46 ∷ []); symbols = (symbol (Ident) 0 6 ∷ symbol (Ident) 7 8 ∷ symbol (Ident) 8 9 ∷ symbol (Ident) 10 13 ∷ symbol (Ident) 14 15 ∷ symbol (Ident) 15 16 ∷ symbol (Ident) 17 24 ∷ symbol (Ident) 24 25 ∷ symbol (Ident) 26 31 ∷ symbol (Ident) 32 33 ∷ symbol (Ident) 34 36 ∷ symbol (TheKind.Text) 37 40 ∷ symbol (Ident) 41 42 ∷ symbol (TheKind.Text) 43 46 ∷ symbol (Ident) 47 50 ∷ symbol (Ident) 51 52 ∷ symbol (Ident) 52 53 ∷ []) }; tree = record { module_word = 0; name = 1; semicolon = 0; imports = None; decls = (S.decls None None (Some (record { var_word = 0; each = (record { names = (record { first = (record { name = 4; star = None }); more = [] }); colon = 0; of = (S.Named (record { name = 6; member = None })); semicolon = 0 } ∷ []) })) S.no_procedure); body = (Some (record { begin_word = 0; stats = (S.stats (S.AssignOrCall (record { name = 9; selectors = S.no_selector }) (Some (record { becomes = 0; value = (S.compared (S.simple None (S.term (S.Text 11) S.no_factor) S.no_term) (TheRelation.Equal 12) (S.simple None (S.term (S.Text 13) S.no_factor) S.no_term)) }))) S.no_stat) })); end_word = 0; end_name = 15; period = 0 } }

pub legal_20 : checked (legal_20_0 ∷ []) ≡ Legal (record { records = []; pointers = []; modules = (record { name = (77 ∷ []); objects = (record { name = (98 ∷ []); exported = false; entity = I.OfVariable 0 } ∷ []); variables = (H.Boolean ∷ []); body = 0 } ∷ []); procedures = (record { module_number = 0; line = 1; is_body = true; formals = []; result = H.Nothing; locals = []; texts = []; body = (I.next_statement (I.Assign (I.of_type (I.Global 0 0) H.Boolean) (record { form = (I.Compare TheComparison.Equal (I.Literal 97) (I.Literal 98)); shape = H.Boolean })) I.no_statement); answer = None } ∷ []); imports_in = false })
legal_20 = refl

-- MODULE M; VAR b: BOOLEAN; c: CHAR; BEGIN b := ''a'' < c END M.
abbrev legal_21_0 : Parsed
legal_21_0 = record { source = record { bytes = (77 ∷ 79 ∷ 68 ∷ 85 ∷ 76 ∷ 69 ∷ 32 ∷ 77 ∷ 59 ∷ 32 ∷ 86 ∷ 65 ∷ 82 ∷ 32 ∷ 98 ∷ 58 ∷ 32 ∷ 66 ∷ 79 ∷ 79 ∷ 76 ∷ 69 ∷ 65 ∷ 78 ∷ 59 ∷ 32 ∷ 99 ∷ 58 ∷ 32 ∷ 67 ∷ 72 ∷ 65 ∷ 82 ∷ 59 ∷ 32 ∷ 66 ∷ 69 ∷ 71 ∷ 73 ∷ 78 ∷ 32 ∷ 98 ∷ 32 ∷ 58 ∷ 61 ∷ 32 ∷ 34 ∷ 97 ∷ 34 ∷ 32 ∷ 60 ∷ 32 ∷ 99 ∷ 32 ∷ 69 ∷ 78 ∷ 68 ∷ 32 ∷ 77 ∷ 46 ∷ []); symbols = (symbol (Ident) 0 6 ∷ symbol (Ident) 7 8 ∷ symbol (Ident) 8 9 ∷ symbol (Ident) 10 13 ∷ symbol (Ident) 14 15 ∷ symbol (Ident) 15 16 ∷ symbol (Ident) 17 24 ∷ symbol (Ident) 24 25 ∷ symbol (Ident) 26 27 ∷ symbol (Ident) 27 28 ∷ symbol (Ident) 29 33 ∷ symbol (Ident) 33 34 ∷ symbol (Ident) 35 40 ∷ symbol (Ident) 41 42 ∷ symbol (Ident) 43 45 ∷ symbol (TheKind.Text) 46 49 ∷ symbol (Ident) 50 51 ∷ symbol (Ident) 52 53 ∷ symbol (Ident) 54 57 ∷ symbol (Ident) 58 59 ∷ symbol (Ident) 59 60 ∷ []) }; tree = record { module_word = 0; name = 1; semicolon = 0; imports = None; decls = (S.decls None None (Some (record { var_word = 0; each = (record { names = (record { first = (record { name = 4; star = None }); more = [] }); colon = 0; of = (S.Named (record { name = 6; member = None })); semicolon = 0 } ∷ record { names = (record { first = (record { name = 8; star = None }); more = [] }); colon = 0; of = (S.Named (record { name = 10; member = None })); semicolon = 0 } ∷ []) })) S.no_procedure); body = (Some (record { begin_word = 0; stats = (S.stats (S.AssignOrCall (record { name = 13; selectors = S.no_selector }) (Some (record { becomes = 0; value = (S.compared (S.simple None (S.term (S.Text 15) S.no_factor) S.no_term) (TheRelation.Less 16) (S.simple None (S.term (S.Designated 17 S.no_selector) S.no_factor) S.no_term)) }))) S.no_stat) })); end_word = 0; end_name = 19; period = 0 } }

pub legal_21 : checked (legal_21_0 ∷ []) ≡ Legal (record { records = []; pointers = []; modules = (record { name = (77 ∷ []); objects = (record { name = (98 ∷ []); exported = false; entity = I.OfVariable 0 } ∷ record { name = (99 ∷ []); exported = false; entity = I.OfVariable 1 } ∷ []); variables = (H.Boolean ∷ H.Char ∷ []); body = 0 } ∷ []); procedures = (record { module_number = 0; line = 1; is_body = true; formals = []; result = H.Nothing; locals = []; texts = []; body = (I.next_statement (I.Assign (I.of_type (I.Global 0 0) H.Boolean) (record { form = (I.Compare TheComparison.Less (I.Literal 97) (I.Load (I.of_type (I.Global 0 1) H.Char))); shape = H.Boolean })) I.no_statement); answer = None } ∷ []); imports_in = false })
legal_21 = refl

-- MODULE M; VAR b: BOOLEAN; BEGIN b := ''ab'' < ''b'' END M.
abbrev legal_22_0 : Parsed
legal_22_0 = record { source = record { bytes = (77 ∷ 79 ∷ 68 ∷ 85 ∷ 76 ∷ 69 ∷ 32 ∷ 77 ∷ 59 ∷ 32 ∷ 86 ∷ 65 ∷ 82 ∷ 32 ∷ 98 ∷ 58 ∷ 32 ∷ 66 ∷ 79 ∷ 79 ∷ 76 ∷ 69 ∷ 65 ∷ 78 ∷ 59 ∷ 32 ∷ 66 ∷ 69 ∷ 71 ∷ 73 ∷ 78 ∷ 32 ∷ 98 ∷ 32 ∷ 58 ∷ 61 ∷ 32 ∷ 34 ∷ 97 ∷ 98 ∷ 34 ∷ 32 ∷ 60 ∷ 32 ∷ 34 ∷ 98 ∷ 34 ∷ 32 ∷ 69 ∷ 78 ∷ 68 ∷ 32 ∷ 77 ∷ 46 ∷ []); symbols = (symbol (Ident) 0 6 ∷ symbol (Ident) 7 8 ∷ symbol (Ident) 8 9 ∷ symbol (Ident) 10 13 ∷ symbol (Ident) 14 15 ∷ symbol (Ident) 15 16 ∷ symbol (Ident) 17 24 ∷ symbol (Ident) 24 25 ∷ symbol (Ident) 26 31 ∷ symbol (Ident) 32 33 ∷ symbol (Ident) 34 36 ∷ symbol (TheKind.Text) 37 41 ∷ symbol (Ident) 42 43 ∷ symbol (TheKind.Text) 44 47 ∷ symbol (Ident) 48 51 ∷ symbol (Ident) 52 53 ∷ symbol (Ident) 53 54 ∷ []) }; tree = record { module_word = 0; name = 1; semicolon = 0; imports = None; decls = (S.decls None None (Some (record { var_word = 0; each = (record { names = (record { first = (record { name = 4; star = None }); more = [] }); colon = 0; of = (S.Named (record { name = 6; member = None })); semicolon = 0 } ∷ []) })) S.no_procedure); body = (Some (record { begin_word = 0; stats = (S.stats (S.AssignOrCall (record { name = 9; selectors = S.no_selector }) (Some (record { becomes = 0; value = (S.compared (S.simple None (S.term (S.Text 11) S.no_factor) S.no_term) (TheRelation.Less 12) (S.simple None (S.term (S.Text 13) S.no_factor) S.no_term)) }))) S.no_stat) })); end_word = 0; end_name = 15; period = 0 } }

pub legal_22 : checked (legal_22_0 ∷ []) ≡ Legal (record { records = []; pointers = []; modules = (record { name = (77 ∷ []); objects = (record { name = (98 ∷ []); exported = false; entity = I.OfVariable 0 } ∷ []); variables = (H.Boolean ∷ []); body = 0 } ∷ []); procedures = (record { module_number = 0; line = 1; is_body = true; formals = []; result = H.Nothing; locals = []; texts = ((97 ∷ 98 ∷ []) ∷ (98 ∷ []) ∷ []); body = (I.next_statement (I.Assign (I.of_type (I.Global 0 0) H.Boolean) (record { form = (I.CompareTexts TheComparison.Less (I.of_type (I.Text (97 ∷ 98 ∷ [])) (H.Text 2)) (I.of_type (I.Text (98 ∷ [])) (H.Text 1))); shape = H.Boolean })) I.no_statement); answer = None } ∷ []); imports_in = false })
legal_22 = refl

-- MODULE M; VAR b: BOOLEAN; t: ARRAY 8 OF CHAR; u: ARRAY 4 OF CHAR; BEGIN b := t <= u END M.
abbrev legal_23_0 : Parsed
legal_23_0 = record { source = record { bytes = (77 ∷ 79 ∷ 68 ∷ 85 ∷ 76 ∷ 69 ∷ 32 ∷ 77 ∷ 59 ∷ 32 ∷ 86 ∷ 65 ∷ 82 ∷ 32 ∷ 98 ∷ 58 ∷ 32 ∷ 66 ∷ 79 ∷ 79 ∷ 76 ∷ 69 ∷ 65 ∷ 78 ∷ 59 ∷ 32 ∷ 116 ∷ 58 ∷ 32 ∷ 65 ∷ 82 ∷ 82 ∷ 65 ∷ 89 ∷ 32 ∷ 56 ∷ 32 ∷ 79 ∷ 70 ∷ 32 ∷ 67 ∷ 72 ∷ 65 ∷ 82 ∷ 59 ∷ 32 ∷ 117 ∷ 58 ∷ 32 ∷ 65 ∷ 82 ∷ 82 ∷ 65 ∷ 89 ∷ 32 ∷ 52 ∷ 32 ∷ 79 ∷ 70 ∷ 32 ∷ 67 ∷ 72 ∷ 65 ∷ 82 ∷ 59 ∷ 32 ∷ 66 ∷ 69 ∷ 71 ∷ 73 ∷ 78 ∷ 32 ∷ 98 ∷ 32 ∷ 58 ∷ 61 ∷ 32 ∷ 116 ∷ 32 ∷ 60 ∷ 61 ∷ 32 ∷ 117 ∷ 32 ∷ 69 ∷ 78 ∷ 68 ∷ 32 ∷ 77 ∷ 46 ∷ []); symbols = (symbol (Ident) 0 6 ∷ symbol (Ident) 7 8 ∷ symbol (Ident) 8 9 ∷ symbol (Ident) 10 13 ∷ symbol (Ident) 14 15 ∷ symbol (Ident) 15 16 ∷ symbol (Ident) 17 24 ∷ symbol (Ident) 24 25 ∷ symbol (Ident) 26 27 ∷ symbol (Ident) 27 28 ∷ symbol (Ident) 29 34 ∷ symbol (Int (pos 8)) 35 36 ∷ symbol (Ident) 37 39 ∷ symbol (Ident) 40 44 ∷ symbol (Ident) 44 45 ∷ symbol (Ident) 46 47 ∷ symbol (Ident) 47 48 ∷ symbol (Ident) 49 54 ∷ symbol (Int (pos 4)) 55 56 ∷ symbol (Ident) 57 59 ∷ symbol (Ident) 60 64 ∷ symbol (Ident) 64 65 ∷ symbol (Ident) 66 71 ∷ symbol (Ident) 72 73 ∷ symbol (Ident) 74 76 ∷ symbol (Ident) 77 78 ∷ symbol (Ident) 79 81 ∷ symbol (Ident) 82 83 ∷ symbol (Ident) 84 87 ∷ symbol (Ident) 88 89 ∷ symbol (Ident) 89 90 ∷ []) }; tree = record { module_word = 0; name = 1; semicolon = 0; imports = None; decls = (S.decls None None (Some (record { var_word = 0; each = (record { names = (record { first = (record { name = 4; star = None }); more = [] }); colon = 0; of = (S.Named (record { name = 6; member = None })); semicolon = 0 } ∷ record { names = (record { first = (record { name = 8; star = None }); more = [] }); colon = 0; of = (S.Array 10 (S.only (S.simple None (S.term (S.Int 11) S.no_factor) S.no_term)) S.no_expression 0 (S.Named (record { name = 13; member = None }))); semicolon = 0 } ∷ record { names = (record { first = (record { name = 15; star = None }); more = [] }); colon = 0; of = (S.Array 17 (S.only (S.simple None (S.term (S.Int 18) S.no_factor) S.no_term)) S.no_expression 0 (S.Named (record { name = 20; member = None }))); semicolon = 0 } ∷ []) })) S.no_procedure); body = (Some (record { begin_word = 0; stats = (S.stats (S.AssignOrCall (record { name = 23; selectors = S.no_selector }) (Some (record { becomes = 0; value = (S.compared (S.simple None (S.term (S.Designated 25 S.no_selector) S.no_factor) S.no_term) (TheRelation.LessEqual 26) (S.simple None (S.term (S.Designated 27 S.no_selector) S.no_factor) S.no_term)) }))) S.no_stat) })); end_word = 0; end_name = 29; period = 0 } }

pub legal_23 : checked (legal_23_0 ∷ []) ≡ Legal (record { records = []; pointers = []; modules = (record { name = (77 ∷ []); objects = (record { name = (98 ∷ []); exported = false; entity = I.OfVariable 0 } ∷ record { name = (116 ∷ []); exported = false; entity = I.OfVariable 1 } ∷ record { name = (117 ∷ []); exported = false; entity = I.OfVariable 2 } ∷ []); variables = (H.Boolean ∷ (H.Array 8 H.Char) ∷ (H.Array 4 H.Char) ∷ []); body = 0 } ∷ []); procedures = (record { module_number = 0; line = 1; is_body = true; formals = []; result = H.Nothing; locals = []; texts = []; body = (I.next_statement (I.Assign (I.of_type (I.Global 0 0) H.Boolean) (record { form = (I.CompareTexts TheComparison.LessEqual (I.of_type (I.Global 0 1) (H.Array 8 H.Char)) (I.of_type (I.Global 0 2) (H.Array 4 H.Char))); shape = H.Boolean })) I.no_statement); answer = None } ∷ []); imports_in = false })
legal_23 = refl

-- MODULE M; VAR f: PROCEDURE (x: INTEGER): INTEGER; PROCEDURE F(x: INTEGER): INTEGER; RETURN x END F; BEGIN f := F END M.
abbrev legal_24_0 : Parsed
legal_24_0 = record { source = record { bytes = (77 ∷ 79 ∷ 68 ∷ 85 ∷ 76 ∷ 69 ∷ 32 ∷ 77 ∷ 59 ∷ 32 ∷ 86 ∷ 65 ∷ 82 ∷ 32 ∷ 102 ∷ 58 ∷ 32 ∷ 80 ∷ 82 ∷ 79 ∷ 67 ∷ 69 ∷ 68 ∷ 85 ∷ 82 ∷ 69 ∷ 32 ∷ 40 ∷ 120 ∷ 58 ∷ 32 ∷ 73 ∷ 78 ∷ 84 ∷ 69 ∷ 71 ∷ 69 ∷ 82 ∷ 41 ∷ 58 ∷ 32 ∷ 73 ∷ 78 ∷ 84 ∷ 69 ∷ 71 ∷ 69 ∷ 82 ∷ 59 ∷ 32 ∷ 80 ∷ 82 ∷ 79 ∷ 67 ∷ 69 ∷ 68 ∷ 85 ∷ 82 ∷ 69 ∷ 32 ∷ 70 ∷ 40 ∷ 120 ∷ 58 ∷ 32 ∷ 73 ∷ 78 ∷ 84 ∷ 69 ∷ 71 ∷ 69 ∷ 82 ∷ 41 ∷ 58 ∷ 32 ∷ 73 ∷ 78 ∷ 84 ∷ 69 ∷ 71 ∷ 69 ∷ 82 ∷ 59 ∷ 32 ∷ 82 ∷ 69 ∷ 84 ∷ 85 ∷ 82 ∷ 78 ∷ 32 ∷ 120 ∷ 32 ∷ 69 ∷ 78 ∷ 68 ∷ 32 ∷ 70 ∷ 59 ∷ 32 ∷ 66 ∷ 69 ∷ 71 ∷ 73 ∷ 78 ∷ 32 ∷ 102 ∷ 32 ∷ 58 ∷ 61 ∷ 32 ∷ 70 ∷ 32 ∷ 69 ∷ 78 ∷ 68 ∷ 32 ∷ 77 ∷ 46 ∷ []); symbols = (symbol (Ident) 0 6 ∷ symbol (Ident) 7 8 ∷ symbol (Ident) 8 9 ∷ symbol (Ident) 10 13 ∷ symbol (Ident) 14 15 ∷ symbol (Ident) 15 16 ∷ symbol (Ident) 17 26 ∷ symbol (Ident) 27 28 ∷ symbol (Ident) 28 29 ∷ symbol (Ident) 29 30 ∷ symbol (Ident) 31 38 ∷ symbol (Ident) 38 39 ∷ symbol (Ident) 39 40 ∷ symbol (Ident) 41 48 ∷ symbol (Ident) 48 49 ∷ symbol (Ident) 50 59 ∷ symbol (Ident) 60 61 ∷ symbol (Ident) 61 62 ∷ symbol (Ident) 62 63 ∷ symbol (Ident) 63 64 ∷ symbol (Ident) 65 72 ∷ symbol (Ident) 72 73 ∷ symbol (Ident) 73 74 ∷ symbol (Ident) 75 82 ∷ symbol (Ident) 82 83 ∷ symbol (Ident) 84 90 ∷ symbol (Ident) 91 92 ∷ symbol (Ident) 93 96 ∷ symbol (Ident) 97 98 ∷ symbol (Ident) 98 99 ∷ symbol (Ident) 100 105 ∷ symbol (Ident) 106 107 ∷ symbol (Ident) 108 110 ∷ symbol (Ident) 111 112 ∷ symbol (Ident) 113 116 ∷ symbol (Ident) 117 118 ∷ symbol (Ident) 118 119 ∷ []) }; tree = record { module_word = 0; name = 1; semicolon = 0; imports = None; decls = (S.decls None None (Some (record { var_word = 0; each = (record { names = (record { first = (record { name = 4; star = None }); more = [] }); colon = 0; of = (S.Procedure 6 (Some (record { left_paren = 0; sections = Some (record { first = (record { var_word = None; first = 8; more = []; colon = 0; open_array = None; of = (record { name = 10; member = None }) }); more = [] }); right_paren = 0; result = Some (record { colon = 0; name = (record { name = 13; member = None }) }) }))); semicolon = 0 } ∷ []) })) (S.procedure 0 (record { name = 16; star = None }) (Some (record { left_paren = 0; sections = Some (record { first = (record { var_word = None; first = 18; more = []; colon = 0; open_array = None; of = (record { name = 20; member = None }) }); more = [] }); right_paren = 0; result = Some (record { colon = 0; name = (record { name = 23; member = None }) }) })) 0 (S.decls None None None S.no_procedure) None (Some (record { return_word = 25; value = (S.only (S.simple None (S.term (S.Designated 26 S.no_selector) S.no_factor) S.no_term)) })) 27 28 0 S.no_procedure)); body = (Some (record { begin_word = 0; stats = (S.stats (S.AssignOrCall (record { name = 31; selectors = S.no_selector }) (Some (record { becomes = 0; value = (S.only (S.simple None (S.term (S.Designated 33 S.no_selector) S.no_factor) S.no_term)) }))) S.no_stat) })); end_word = 0; end_name = 35; period = 0 } }

pub legal_24 : checked (legal_24_0 ∷ []) ≡ Legal (record { records = []; pointers = []; modules = (record { name = (77 ∷ []); objects = (record { name = (102 ∷ []); exported = false; entity = I.OfVariable 0 } ∷ record { name = (70 ∷ []); exported = false; entity = I.OfProcedure 0 } ∷ []); variables = ((H.Procedure (H.one false H.Integer H.none) H.Integer) ∷ []); body = 1 } ∷ []); procedures = (record { module_number = 0; line = 1; is_body = false; formals = (record { mode = TheMode.Value; variable = false; shape = H.Integer } ∷ []); result = H.Integer; locals = []; texts = []; body = I.no_statement; answer = (Some (record { form = (I.Load (I.of_type (I.Local 0) H.Integer)); shape = H.Integer })) } ∷ record { module_number = 0; line = 1; is_body = true; formals = []; result = H.Nothing; locals = []; texts = []; body = (I.next_statement (I.Assign (I.of_type (I.Global 0 0) (H.Procedure (H.one false H.Integer H.none) H.Integer)) (record { form = (I.Routine 0); shape = (H.Procedure (H.one false H.Integer H.none) H.Integer) })) I.no_statement); answer = None } ∷ []); imports_in = false })
legal_24 = refl

-- MODULE M; VAR f: PROCEDURE (x: INTEGER): INTEGER; BEGIN f := NIL END M.
abbrev legal_25_0 : Parsed
legal_25_0 = record { source = record { bytes = (77 ∷ 79 ∷ 68 ∷ 85 ∷ 76 ∷ 69 ∷ 32 ∷ 77 ∷ 59 ∷ 32 ∷ 86 ∷ 65 ∷ 82 ∷ 32 ∷ 102 ∷ 58 ∷ 32 ∷ 80 ∷ 82 ∷ 79 ∷ 67 ∷ 69 ∷ 68 ∷ 85 ∷ 82 ∷ 69 ∷ 32 ∷ 40 ∷ 120 ∷ 58 ∷ 32 ∷ 73 ∷ 78 ∷ 84 ∷ 69 ∷ 71 ∷ 69 ∷ 82 ∷ 41 ∷ 58 ∷ 32 ∷ 73 ∷ 78 ∷ 84 ∷ 69 ∷ 71 ∷ 69 ∷ 82 ∷ 59 ∷ 32 ∷ 66 ∷ 69 ∷ 71 ∷ 73 ∷ 78 ∷ 32 ∷ 102 ∷ 32 ∷ 58 ∷ 61 ∷ 32 ∷ 78 ∷ 73 ∷ 76 ∷ 32 ∷ 69 ∷ 78 ∷ 68 ∷ 32 ∷ 77 ∷ 46 ∷ []); symbols = (symbol (Ident) 0 6 ∷ symbol (Ident) 7 8 ∷ symbol (Ident) 8 9 ∷ symbol (Ident) 10 13 ∷ symbol (Ident) 14 15 ∷ symbol (Ident) 15 16 ∷ symbol (Ident) 17 26 ∷ symbol (Ident) 27 28 ∷ symbol (Ident) 28 29 ∷ symbol (Ident) 29 30 ∷ symbol (Ident) 31 38 ∷ symbol (Ident) 38 39 ∷ symbol (Ident) 39 40 ∷ symbol (Ident) 41 48 ∷ symbol (Ident) 48 49 ∷ symbol (Ident) 50 55 ∷ symbol (Ident) 56 57 ∷ symbol (Ident) 58 60 ∷ symbol (Ident) 61 64 ∷ symbol (Ident) 65 68 ∷ symbol (Ident) 69 70 ∷ symbol (Ident) 70 71 ∷ []) }; tree = record { module_word = 0; name = 1; semicolon = 0; imports = None; decls = (S.decls None None (Some (record { var_word = 0; each = (record { names = (record { first = (record { name = 4; star = None }); more = [] }); colon = 0; of = (S.Procedure 6 (Some (record { left_paren = 0; sections = Some (record { first = (record { var_word = None; first = 8; more = []; colon = 0; open_array = None; of = (record { name = 10; member = None }) }); more = [] }); right_paren = 0; result = Some (record { colon = 0; name = (record { name = 13; member = None }) }) }))); semicolon = 0 } ∷ []) })) S.no_procedure); body = (Some (record { begin_word = 0; stats = (S.stats (S.AssignOrCall (record { name = 16; selectors = S.no_selector }) (Some (record { becomes = 0; value = (S.only (S.simple None (S.term (S.Nil 18) S.no_factor) S.no_term)) }))) S.no_stat) })); end_word = 0; end_name = 20; period = 0 } }

pub legal_25 : checked (legal_25_0 ∷ []) ≡ Legal (record { records = []; pointers = []; modules = (record { name = (77 ∷ []); objects = (record { name = (102 ∷ []); exported = false; entity = I.OfVariable 0 } ∷ []); variables = ((H.Procedure (H.one false H.Integer H.none) H.Integer) ∷ []); body = 0 } ∷ []); procedures = (record { module_number = 0; line = 1; is_body = true; formals = []; result = H.Nothing; locals = []; texts = []; body = (I.next_statement (I.Assign (I.of_type (I.Global 0 0) (H.Procedure (H.one false H.Integer H.none) H.Integer)) (record { form = (I.Literal 0); shape = H.Nil })) I.no_statement); answer = None } ∷ []); imports_in = false })
legal_25 = refl

-- MODULE M; VAR b: BOOLEAN; f: PROCEDURE (x: INTEGER): INTEGER; PROCEDURE F(x: INTEGER): INTEGER; RETURN x END F; BEGIN b := f = F END M.
abbrev legal_26_0 : Parsed
legal_26_0 = record { source = record { bytes = (77 ∷ 79 ∷ 68 ∷ 85 ∷ 76 ∷ 69 ∷ 32 ∷ 77 ∷ 59 ∷ 32 ∷ 86 ∷ 65 ∷ 82 ∷ 32 ∷ 98 ∷ 58 ∷ 32 ∷ 66 ∷ 79 ∷ 79 ∷ 76 ∷ 69 ∷ 65 ∷ 78 ∷ 59 ∷ 32 ∷ 102 ∷ 58 ∷ 32 ∷ 80 ∷ 82 ∷ 79 ∷ 67 ∷ 69 ∷ 68 ∷ 85 ∷ 82 ∷ 69 ∷ 32 ∷ 40 ∷ 120 ∷ 58 ∷ 32 ∷ 73 ∷ 78 ∷ 84 ∷ 69 ∷ 71 ∷ 69 ∷ 82 ∷ 41 ∷ 58 ∷ 32 ∷ 73 ∷ 78 ∷ 84 ∷ 69 ∷ 71 ∷ 69 ∷ 82 ∷ 59 ∷ 32 ∷ 80 ∷ 82 ∷ 79 ∷ 67 ∷ 69 ∷ 68 ∷ 85 ∷ 82 ∷ 69 ∷ 32 ∷ 70 ∷ 40 ∷ 120 ∷ 58 ∷ 32 ∷ 73 ∷ 78 ∷ 84 ∷ 69 ∷ 71 ∷ 69 ∷ 82 ∷ 41 ∷ 58 ∷ 32 ∷ 73 ∷ 78 ∷ 84 ∷ 69 ∷ 71 ∷ 69 ∷ 82 ∷ 59 ∷ 32 ∷ 82 ∷ 69 ∷ 84 ∷ 85 ∷ 82 ∷ 78 ∷ 32 ∷ 120 ∷ 32 ∷ 69 ∷ 78 ∷ 68 ∷ 32 ∷ 70 ∷ 59 ∷ 32 ∷ 66 ∷ 69 ∷ 71 ∷ 73 ∷ 78 ∷ 32 ∷ 98 ∷ 32 ∷ 58 ∷ 61 ∷ 32 ∷ 102 ∷ 32 ∷ 61 ∷ 32 ∷ 70 ∷ 32 ∷ 69 ∷ 78 ∷ 68 ∷ 32 ∷ 77 ∷ 46 ∷ []); symbols = (symbol (Ident) 0 6 ∷ symbol (Ident) 7 8 ∷ symbol (Ident) 8 9 ∷ symbol (Ident) 10 13 ∷ symbol (Ident) 14 15 ∷ symbol (Ident) 15 16 ∷ symbol (Ident) 17 24 ∷ symbol (Ident) 24 25 ∷ symbol (Ident) 26 27 ∷ symbol (Ident) 27 28 ∷ symbol (Ident) 29 38 ∷ symbol (Ident) 39 40 ∷ symbol (Ident) 40 41 ∷ symbol (Ident) 41 42 ∷ symbol (Ident) 43 50 ∷ symbol (Ident) 50 51 ∷ symbol (Ident) 51 52 ∷ symbol (Ident) 53 60 ∷ symbol (Ident) 60 61 ∷ symbol (Ident) 62 71 ∷ symbol (Ident) 72 73 ∷ symbol (Ident) 73 74 ∷ symbol (Ident) 74 75 ∷ symbol (Ident) 75 76 ∷ symbol (Ident) 77 84 ∷ symbol (Ident) 84 85 ∷ symbol (Ident) 85 86 ∷ symbol (Ident) 87 94 ∷ symbol (Ident) 94 95 ∷ symbol (Ident) 96 102 ∷ symbol (Ident) 103 104 ∷ symbol (Ident) 105 108 ∷ symbol (Ident) 109 110 ∷ symbol (Ident) 110 111 ∷ symbol (Ident) 112 117 ∷ symbol (Ident) 118 119 ∷ symbol (Ident) 120 122 ∷ symbol (Ident) 123 124 ∷ symbol (Ident) 125 126 ∷ symbol (Ident) 127 128 ∷ symbol (Ident) 129 132 ∷ symbol (Ident) 133 134 ∷ symbol (Ident) 134 135 ∷ []) }; tree = record { module_word = 0; name = 1; semicolon = 0; imports = None; decls = (S.decls None None (Some (record { var_word = 0; each = (record { names = (record { first = (record { name = 4; star = None }); more = [] }); colon = 0; of = (S.Named (record { name = 6; member = None })); semicolon = 0 } ∷ record { names = (record { first = (record { name = 8; star = None }); more = [] }); colon = 0; of = (S.Procedure 10 (Some (record { left_paren = 0; sections = Some (record { first = (record { var_word = None; first = 12; more = []; colon = 0; open_array = None; of = (record { name = 14; member = None }) }); more = [] }); right_paren = 0; result = Some (record { colon = 0; name = (record { name = 17; member = None }) }) }))); semicolon = 0 } ∷ []) })) (S.procedure 0 (record { name = 20; star = None }) (Some (record { left_paren = 0; sections = Some (record { first = (record { var_word = None; first = 22; more = []; colon = 0; open_array = None; of = (record { name = 24; member = None }) }); more = [] }); right_paren = 0; result = Some (record { colon = 0; name = (record { name = 27; member = None }) }) })) 0 (S.decls None None None S.no_procedure) None (Some (record { return_word = 29; value = (S.only (S.simple None (S.term (S.Designated 30 S.no_selector) S.no_factor) S.no_term)) })) 31 32 0 S.no_procedure)); body = (Some (record { begin_word = 0; stats = (S.stats (S.AssignOrCall (record { name = 35; selectors = S.no_selector }) (Some (record { becomes = 0; value = (S.compared (S.simple None (S.term (S.Designated 37 S.no_selector) S.no_factor) S.no_term) (TheRelation.Equal 38) (S.simple None (S.term (S.Designated 39 S.no_selector) S.no_factor) S.no_term)) }))) S.no_stat) })); end_word = 0; end_name = 41; period = 0 } }

pub legal_26 : checked (legal_26_0 ∷ []) ≡ Legal (record { records = []; pointers = []; modules = (record { name = (77 ∷ []); objects = (record { name = (98 ∷ []); exported = false; entity = I.OfVariable 0 } ∷ record { name = (102 ∷ []); exported = false; entity = I.OfVariable 1 } ∷ record { name = (70 ∷ []); exported = false; entity = I.OfProcedure 0 } ∷ []); variables = (H.Boolean ∷ (H.Procedure (H.one false H.Integer H.none) H.Integer) ∷ []); body = 1 } ∷ []); procedures = (record { module_number = 0; line = 1; is_body = false; formals = (record { mode = TheMode.Value; variable = false; shape = H.Integer } ∷ []); result = H.Integer; locals = []; texts = []; body = I.no_statement; answer = (Some (record { form = (I.Load (I.of_type (I.Local 0) H.Integer)); shape = H.Integer })) } ∷ record { module_number = 0; line = 1; is_body = true; formals = []; result = H.Nothing; locals = []; texts = []; body = (I.next_statement (I.Assign (I.of_type (I.Global 0 0) H.Boolean) (record { form = (I.Compare TheComparison.Equal (I.Load (I.of_type (I.Global 0 1) (H.Procedure (H.one false H.Integer H.none) H.Integer))) (I.Routine 0)); shape = H.Boolean })) I.no_statement); answer = None } ∷ []); imports_in = false })
legal_26 = refl

-- MODULE M; VAR b: BOOLEAN; g: PROCEDURE; PROCEDURE N; END N; BEGIN b := N = g END M.
abbrev legal_27_0 : Parsed
legal_27_0 = record { source = record { bytes = (77 ∷ 79 ∷ 68 ∷ 85 ∷ 76 ∷ 69 ∷ 32 ∷ 77 ∷ 59 ∷ 32 ∷ 86 ∷ 65 ∷ 82 ∷ 32 ∷ 98 ∷ 58 ∷ 32 ∷ 66 ∷ 79 ∷ 79 ∷ 76 ∷ 69 ∷ 65 ∷ 78 ∷ 59 ∷ 32 ∷ 103 ∷ 58 ∷ 32 ∷ 80 ∷ 82 ∷ 79 ∷ 67 ∷ 69 ∷ 68 ∷ 85 ∷ 82 ∷ 69 ∷ 59 ∷ 32 ∷ 80 ∷ 82 ∷ 79 ∷ 67 ∷ 69 ∷ 68 ∷ 85 ∷ 82 ∷ 69 ∷ 32 ∷ 78 ∷ 59 ∷ 32 ∷ 69 ∷ 78 ∷ 68 ∷ 32 ∷ 78 ∷ 59 ∷ 32 ∷ 66 ∷ 69 ∷ 71 ∷ 73 ∷ 78 ∷ 32 ∷ 98 ∷ 32 ∷ 58 ∷ 61 ∷ 32 ∷ 78 ∷ 32 ∷ 61 ∷ 32 ∷ 103 ∷ 32 ∷ 69 ∷ 78 ∷ 68 ∷ 32 ∷ 77 ∷ 46 ∷ []); symbols = (symbol (Ident) 0 6 ∷ symbol (Ident) 7 8 ∷ symbol (Ident) 8 9 ∷ symbol (Ident) 10 13 ∷ symbol (Ident) 14 15 ∷ symbol (Ident) 15 16 ∷ symbol (Ident) 17 24 ∷ symbol (Ident) 24 25 ∷ symbol (Ident) 26 27 ∷ symbol (Ident) 27 28 ∷ symbol (Ident) 29 38 ∷ symbol (Ident) 38 39 ∷ symbol (Ident) 40 49 ∷ symbol (Ident) 50 51 ∷ symbol (Ident) 51 52 ∷ symbol (Ident) 53 56 ∷ symbol (Ident) 57 58 ∷ symbol (Ident) 58 59 ∷ symbol (Ident) 60 65 ∷ symbol (Ident) 66 67 ∷ symbol (Ident) 68 70 ∷ symbol (Ident) 71 72 ∷ symbol (Ident) 73 74 ∷ symbol (Ident) 75 76 ∷ symbol (Ident) 77 80 ∷ symbol (Ident) 81 82 ∷ symbol (Ident) 82 83 ∷ []) }; tree = record { module_word = 0; name = 1; semicolon = 0; imports = None; decls = (S.decls None None (Some (record { var_word = 0; each = (record { names = (record { first = (record { name = 4; star = None }); more = [] }); colon = 0; of = (S.Named (record { name = 6; member = None })); semicolon = 0 } ∷ record { names = (record { first = (record { name = 8; star = None }); more = [] }); colon = 0; of = (S.Procedure 10 None); semicolon = 0 } ∷ []) })) (S.procedure 0 (record { name = 13; star = None }) None 0 (S.decls None None None S.no_procedure) None None 15 16 0 S.no_procedure)); body = (Some (record { begin_word = 0; stats = (S.stats (S.AssignOrCall (record { name = 19; selectors = S.no_selector }) (Some (record { becomes = 0; value = (S.compared (S.simple None (S.term (S.Designated 21 S.no_selector) S.no_factor) S.no_term) (TheRelation.Equal 22) (S.simple None (S.term (S.Designated 23 S.no_selector) S.no_factor) S.no_term)) }))) S.no_stat) })); end_word = 0; end_name = 25; period = 0 } }

pub legal_27 : checked (legal_27_0 ∷ []) ≡ Legal (record { records = []; pointers = []; modules = (record { name = (77 ∷ []); objects = (record { name = (98 ∷ []); exported = false; entity = I.OfVariable 0 } ∷ record { name = (103 ∷ []); exported = false; entity = I.OfVariable 1 } ∷ record { name = (78 ∷ []); exported = false; entity = I.OfProcedure 0 } ∷ []); variables = (H.Boolean ∷ (H.Procedure H.none H.Nothing) ∷ []); body = 1 } ∷ []); procedures = (record { module_number = 0; line = 1; is_body = false; formals = []; result = H.Nothing; locals = []; texts = []; body = I.no_statement; answer = None } ∷ record { module_number = 0; line = 1; is_body = true; formals = []; result = H.Nothing; locals = []; texts = []; body = (I.next_statement (I.Assign (I.of_type (I.Global 0 0) H.Boolean) (record { form = (I.Compare TheComparison.Equal (I.Routine 0) (I.Load (I.of_type (I.Global 0 1) (H.Procedure H.none H.Nothing)))); shape = H.Boolean })) I.no_statement); answer = None } ∷ []); imports_in = false })
legal_27 = refl

-- MODULE M; VAR g: PROCEDURE; BEGIN g END M.
abbrev legal_28_0 : Parsed
legal_28_0 = record { source = record { bytes = (77 ∷ 79 ∷ 68 ∷ 85 ∷ 76 ∷ 69 ∷ 32 ∷ 77 ∷ 59 ∷ 32 ∷ 86 ∷ 65 ∷ 82 ∷ 32 ∷ 103 ∷ 58 ∷ 32 ∷ 80 ∷ 82 ∷ 79 ∷ 67 ∷ 69 ∷ 68 ∷ 85 ∷ 82 ∷ 69 ∷ 59 ∷ 32 ∷ 66 ∷ 69 ∷ 71 ∷ 73 ∷ 78 ∷ 32 ∷ 103 ∷ 32 ∷ 69 ∷ 78 ∷ 68 ∷ 32 ∷ 77 ∷ 46 ∷ []); symbols = (symbol (Ident) 0 6 ∷ symbol (Ident) 7 8 ∷ symbol (Ident) 8 9 ∷ symbol (Ident) 10 13 ∷ symbol (Ident) 14 15 ∷ symbol (Ident) 15 16 ∷ symbol (Ident) 17 26 ∷ symbol (Ident) 26 27 ∷ symbol (Ident) 28 33 ∷ symbol (Ident) 34 35 ∷ symbol (Ident) 36 39 ∷ symbol (Ident) 40 41 ∷ symbol (Ident) 41 42 ∷ []) }; tree = record { module_word = 0; name = 1; semicolon = 0; imports = None; decls = (S.decls None None (Some (record { var_word = 0; each = (record { names = (record { first = (record { name = 4; star = None }); more = [] }); colon = 0; of = (S.Procedure 6 None); semicolon = 0 } ∷ []) })) S.no_procedure); body = (Some (record { begin_word = 0; stats = (S.stats (S.AssignOrCall (record { name = 9; selectors = S.no_selector }) None) S.no_stat) })); end_word = 0; end_name = 11; period = 0 } }

pub legal_28 : checked (legal_28_0 ∷ []) ≡ Legal (record { records = []; pointers = []; modules = (record { name = (77 ∷ []); objects = (record { name = (103 ∷ []); exported = false; entity = I.OfVariable 0 } ∷ []); variables = ((H.Procedure H.none H.Nothing) ∷ []); body = 0 } ∷ []); procedures = (record { module_number = 0; line = 1; is_body = true; formals = []; result = H.Nothing; locals = []; texts = []; body = (I.next_statement (I.Invoke (I.Indirect (I.of_type (I.Global 0 0) (H.Procedure H.none H.Nothing)) I.no_argument)) I.no_statement); answer = None } ∷ []); imports_in = false })
legal_28 = refl

-- MODULE M; VAR g: PROCEDURE; BEGIN g() END M.
abbrev legal_29_0 : Parsed
legal_29_0 = record { source = record { bytes = (77 ∷ 79 ∷ 68 ∷ 85 ∷ 76 ∷ 69 ∷ 32 ∷ 77 ∷ 59 ∷ 32 ∷ 86 ∷ 65 ∷ 82 ∷ 32 ∷ 103 ∷ 58 ∷ 32 ∷ 80 ∷ 82 ∷ 79 ∷ 67 ∷ 69 ∷ 68 ∷ 85 ∷ 82 ∷ 69 ∷ 59 ∷ 32 ∷ 66 ∷ 69 ∷ 71 ∷ 73 ∷ 78 ∷ 32 ∷ 103 ∷ 40 ∷ 41 ∷ 32 ∷ 69 ∷ 78 ∷ 68 ∷ 32 ∷ 77 ∷ 46 ∷ []); symbols = (symbol (Ident) 0 6 ∷ symbol (Ident) 7 8 ∷ symbol (Ident) 8 9 ∷ symbol (Ident) 10 13 ∷ symbol (Ident) 14 15 ∷ symbol (Ident) 15 16 ∷ symbol (Ident) 17 26 ∷ symbol (Ident) 26 27 ∷ symbol (Ident) 28 33 ∷ symbol (Ident) 34 35 ∷ symbol (Ident) 35 36 ∷ symbol (Ident) 36 37 ∷ symbol (Ident) 38 41 ∷ symbol (Ident) 42 43 ∷ symbol (Ident) 43 44 ∷ []) }; tree = record { module_word = 0; name = 1; semicolon = 0; imports = None; decls = (S.decls None None (Some (record { var_word = 0; each = (record { names = (record { first = (record { name = 4; star = None }); more = [] }); colon = 0; of = (S.Procedure 6 None); semicolon = 0 } ∷ []) })) S.no_procedure); body = (Some (record { begin_word = 0; stats = (S.stats (S.AssignOrCall (record { name = 9; selectors = (S.selected (S.EmptyParens 0 0) S.no_selector) }) None) S.no_stat) })); end_word = 0; end_name = 13; period = 0 } }

pub legal_29 : checked (legal_29_0 ∷ []) ≡ Legal (record { records = []; pointers = []; modules = (record { name = (77 ∷ []); objects = (record { name = (103 ∷ []); exported = false; entity = I.OfVariable 0 } ∷ []); variables = ((H.Procedure H.none H.Nothing) ∷ []); body = 0 } ∷ []); procedures = (record { module_number = 0; line = 1; is_body = true; formals = []; result = H.Nothing; locals = []; texts = []; body = (I.next_statement (I.Invoke (I.Indirect (I.of_type (I.Global 0 0) (H.Procedure H.none H.Nothing)) I.no_argument)) I.no_statement); answer = None } ∷ []); imports_in = false })
legal_29 = refl

-- MODULE M; PROCEDURE N; END N; BEGIN N() END M.
abbrev legal_30_0 : Parsed
legal_30_0 = record { source = record { bytes = (77 ∷ 79 ∷ 68 ∷ 85 ∷ 76 ∷ 69 ∷ 32 ∷ 77 ∷ 59 ∷ 32 ∷ 80 ∷ 82 ∷ 79 ∷ 67 ∷ 69 ∷ 68 ∷ 85 ∷ 82 ∷ 69 ∷ 32 ∷ 78 ∷ 59 ∷ 32 ∷ 69 ∷ 78 ∷ 68 ∷ 32 ∷ 78 ∷ 59 ∷ 32 ∷ 66 ∷ 69 ∷ 71 ∷ 73 ∷ 78 ∷ 32 ∷ 78 ∷ 40 ∷ 41 ∷ 32 ∷ 69 ∷ 78 ∷ 68 ∷ 32 ∷ 77 ∷ 46 ∷ []); symbols = (symbol (Ident) 0 6 ∷ symbol (Ident) 7 8 ∷ symbol (Ident) 8 9 ∷ symbol (Ident) 10 19 ∷ symbol (Ident) 20 21 ∷ symbol (Ident) 21 22 ∷ symbol (Ident) 23 26 ∷ symbol (Ident) 27 28 ∷ symbol (Ident) 28 29 ∷ symbol (Ident) 30 35 ∷ symbol (Ident) 36 37 ∷ symbol (Ident) 37 38 ∷ symbol (Ident) 38 39 ∷ symbol (Ident) 40 43 ∷ symbol (Ident) 44 45 ∷ symbol (Ident) 45 46 ∷ []) }; tree = record { module_word = 0; name = 1; semicolon = 0; imports = None; decls = (S.decls None None None (S.procedure 0 (record { name = 4; star = None }) None 0 (S.decls None None None S.no_procedure) None None 6 7 0 S.no_procedure)); body = (Some (record { begin_word = 0; stats = (S.stats (S.AssignOrCall (record { name = 10; selectors = (S.selected (S.EmptyParens 0 0) S.no_selector) }) None) S.no_stat) })); end_word = 0; end_name = 14; period = 0 } }

pub legal_30 : checked (legal_30_0 ∷ []) ≡ Legal (record { records = []; pointers = []; modules = (record { name = (77 ∷ []); objects = (record { name = (78 ∷ []); exported = false; entity = I.OfProcedure 0 } ∷ []); variables = []; body = 1 } ∷ []); procedures = (record { module_number = 0; line = 1; is_body = false; formals = []; result = H.Nothing; locals = []; texts = []; body = I.no_statement; answer = None } ∷ record { module_number = 0; line = 1; is_body = true; formals = []; result = H.Nothing; locals = []; texts = []; body = (I.next_statement (I.Invoke (I.Direct 0 I.no_argument)) I.no_statement); answer = None } ∷ []); imports_in = false })
legal_30 = refl

-- MODULE M; VAR i: INTEGER; f: PROCEDURE (x: INTEGER): INTEGER; BEGIN i := f(1) END M.
abbrev legal_31_0 : Parsed
legal_31_0 = record { source = record { bytes = (77 ∷ 79 ∷ 68 ∷ 85 ∷ 76 ∷ 69 ∷ 32 ∷ 77 ∷ 59 ∷ 32 ∷ 86 ∷ 65 ∷ 82 ∷ 32 ∷ 105 ∷ 58 ∷ 32 ∷ 73 ∷ 78 ∷ 84 ∷ 69 ∷ 71 ∷ 69 ∷ 82 ∷ 59 ∷ 32 ∷ 102 ∷ 58 ∷ 32 ∷ 80 ∷ 82 ∷ 79 ∷ 67 ∷ 69 ∷ 68 ∷ 85 ∷ 82 ∷ 69 ∷ 32 ∷ 40 ∷ 120 ∷ 58 ∷ 32 ∷ 73 ∷ 78 ∷ 84 ∷ 69 ∷ 71 ∷ 69 ∷ 82 ∷ 41 ∷ 58 ∷ 32 ∷ 73 ∷ 78 ∷ 84 ∷ 69 ∷ 71 ∷ 69 ∷ 82 ∷ 59 ∷ 32 ∷ 66 ∷ 69 ∷ 71 ∷ 73 ∷ 78 ∷ 32 ∷ 105 ∷ 32 ∷ 58 ∷ 61 ∷ 32 ∷ 102 ∷ 40 ∷ 49 ∷ 41 ∷ 32 ∷ 69 ∷ 78 ∷ 68 ∷ 32 ∷ 77 ∷ 46 ∷ []); symbols = (symbol (Ident) 0 6 ∷ symbol (Ident) 7 8 ∷ symbol (Ident) 8 9 ∷ symbol (Ident) 10 13 ∷ symbol (Ident) 14 15 ∷ symbol (Ident) 15 16 ∷ symbol (Ident) 17 24 ∷ symbol (Ident) 24 25 ∷ symbol (Ident) 26 27 ∷ symbol (Ident) 27 28 ∷ symbol (Ident) 29 38 ∷ symbol (Ident) 39 40 ∷ symbol (Ident) 40 41 ∷ symbol (Ident) 41 42 ∷ symbol (Ident) 43 50 ∷ symbol (Ident) 50 51 ∷ symbol (Ident) 51 52 ∷ symbol (Ident) 53 60 ∷ symbol (Ident) 60 61 ∷ symbol (Ident) 62 67 ∷ symbol (Ident) 68 69 ∷ symbol (Ident) 70 72 ∷ symbol (Ident) 73 74 ∷ symbol (Ident) 74 75 ∷ symbol (Int (pos 1)) 75 76 ∷ symbol (Ident) 76 77 ∷ symbol (Ident) 78 81 ∷ symbol (Ident) 82 83 ∷ symbol (Ident) 83 84 ∷ []) }; tree = record { module_word = 0; name = 1; semicolon = 0; imports = None; decls = (S.decls None None (Some (record { var_word = 0; each = (record { names = (record { first = (record { name = 4; star = None }); more = [] }); colon = 0; of = (S.Named (record { name = 6; member = None })); semicolon = 0 } ∷ record { names = (record { first = (record { name = 8; star = None }); more = [] }); colon = 0; of = (S.Procedure 10 (Some (record { left_paren = 0; sections = Some (record { first = (record { var_word = None; first = 12; more = []; colon = 0; open_array = None; of = (record { name = 14; member = None }) }); more = [] }); right_paren = 0; result = Some (record { colon = 0; name = (record { name = 17; member = None }) }) }))); semicolon = 0 } ∷ []) })) S.no_procedure); body = (Some (record { begin_word = 0; stats = (S.stats (S.AssignOrCall (record { name = 20; selectors = S.no_selector }) (Some (record { becomes = 0; value = (S.only (S.simple None (S.term (S.Designated 22 (S.selected (S.Parens 0 (S.expressions (S.only (S.simple None (S.term (S.Int 24) S.no_factor) S.no_term)) S.no_expression) 0) S.no_selector)) S.no_factor) S.no_term)) }))) S.no_stat) })); end_word = 0; end_name = 27; period = 0 } }

pub legal_31 : checked (legal_31_0 ∷ []) ≡ Legal (record { records = []; pointers = []; modules = (record { name = (77 ∷ []); objects = (record { name = (105 ∷ []); exported = false; entity = I.OfVariable 0 } ∷ record { name = (102 ∷ []); exported = false; entity = I.OfVariable 1 } ∷ []); variables = (H.Integer ∷ (H.Procedure (H.one false H.Integer H.none) H.Integer) ∷ []); body = 0 } ∷ []); procedures = (record { module_number = 0; line = 1; is_body = true; formals = []; result = H.Nothing; locals = []; texts = []; body = (I.next_statement (I.Assign (I.of_type (I.Global 0 0) H.Integer) (record { form = (I.Result (I.Indirect (I.of_type (I.Global 0 1) (H.Procedure (H.one false H.Integer H.none) H.Integer)) (I.next_argument (I.ByValue (I.Literal 1)) I.no_argument))); shape = H.Integer })) I.no_statement); answer = None } ∷ []); imports_in = false })
legal_31 = refl

-- MODULE M; VAR i: INTEGER; m: ARRAY 2, 3 OF INTEGER; BEGIN i := m[0][1] END M.
abbrev legal_32_0 : Parsed
legal_32_0 = record { source = record { bytes = (77 ∷ 79 ∷ 68 ∷ 85 ∷ 76 ∷ 69 ∷ 32 ∷ 77 ∷ 59 ∷ 32 ∷ 86 ∷ 65 ∷ 82 ∷ 32 ∷ 105 ∷ 58 ∷ 32 ∷ 73 ∷ 78 ∷ 84 ∷ 69 ∷ 71 ∷ 69 ∷ 82 ∷ 59 ∷ 32 ∷ 109 ∷ 58 ∷ 32 ∷ 65 ∷ 82 ∷ 82 ∷ 65 ∷ 89 ∷ 32 ∷ 50 ∷ 44 ∷ 32 ∷ 51 ∷ 32 ∷ 79 ∷ 70 ∷ 32 ∷ 73 ∷ 78 ∷ 84 ∷ 69 ∷ 71 ∷ 69 ∷ 82 ∷ 59 ∷ 32 ∷ 66 ∷ 69 ∷ 71 ∷ 73 ∷ 78 ∷ 32 ∷ 105 ∷ 32 ∷ 58 ∷ 61 ∷ 32 ∷ 109 ∷ 91 ∷ 48 ∷ 93 ∷ 91 ∷ 49 ∷ 93 ∷ 32 ∷ 69 ∷ 78 ∷ 68 ∷ 32 ∷ 77 ∷ 46 ∷ []); symbols = (symbol (Ident) 0 6 ∷ symbol (Ident) 7 8 ∷ symbol (Ident) 8 9 ∷ symbol (Ident) 10 13 ∷ symbol (Ident) 14 15 ∷ symbol (Ident) 15 16 ∷ symbol (Ident) 17 24 ∷ symbol (Ident) 24 25 ∷ symbol (Ident) 26 27 ∷ symbol (Ident) 27 28 ∷ symbol (Ident) 29 34 ∷ symbol (Int (pos 2)) 35 36 ∷ symbol (Ident) 36 37 ∷ symbol (Int (pos 3)) 38 39 ∷ symbol (Ident) 40 42 ∷ symbol (Ident) 43 50 ∷ symbol (Ident) 50 51 ∷ symbol (Ident) 52 57 ∷ symbol (Ident) 58 59 ∷ symbol (Ident) 60 62 ∷ symbol (Ident) 63 64 ∷ symbol (Ident) 64 65 ∷ symbol (Int (pos 0)) 65 66 ∷ symbol (Ident) 66 67 ∷ symbol (Ident) 67 68 ∷ symbol (Int (pos 1)) 68 69 ∷ symbol (Ident) 69 70 ∷ symbol (Ident) 71 74 ∷ symbol (Ident) 75 76 ∷ symbol (Ident) 76 77 ∷ []) }; tree = record { module_word = 0; name = 1; semicolon = 0; imports = None; decls = (S.decls None None (Some (record { var_word = 0; each = (record { names = (record { first = (record { name = 4; star = None }); more = [] }); colon = 0; of = (S.Named (record { name = 6; member = None })); semicolon = 0 } ∷ record { names = (record { first = (record { name = 8; star = None }); more = [] }); colon = 0; of = (S.Array 10 (S.only (S.simple None (S.term (S.Int 11) S.no_factor) S.no_term)) (S.next_expression 0 (S.only (S.simple None (S.term (S.Int 13) S.no_factor) S.no_term)) S.no_expression) 0 (S.Named (record { name = 15; member = None }))); semicolon = 0 } ∷ []) })) S.no_procedure); body = (Some (record { begin_word = 0; stats = (S.stats (S.AssignOrCall (record { name = 18; selectors = S.no_selector }) (Some (record { becomes = 0; value = (S.only (S.simple None (S.term (S.Designated 20 (S.selected (S.Index 0 (S.expressions (S.only (S.simple None (S.term (S.Int 22) S.no_factor) S.no_term)) S.no_expression) 0) (S.selected (S.Index 0 (S.expressions (S.only (S.simple None (S.term (S.Int 25) S.no_factor) S.no_term)) S.no_expression) 0) S.no_selector))) S.no_factor) S.no_term)) }))) S.no_stat) })); end_word = 0; end_name = 28; period = 0 } }

pub legal_32 : checked (legal_32_0 ∷ []) ≡ Legal (record { records = []; pointers = []; modules = (record { name = (77 ∷ []); objects = (record { name = (105 ∷ []); exported = false; entity = I.OfVariable 0 } ∷ record { name = (109 ∷ []); exported = false; entity = I.OfVariable 1 } ∷ []); variables = (H.Integer ∷ (H.Array 2 (H.Array 3 H.Integer)) ∷ []); body = 0 } ∷ []); procedures = (record { module_number = 0; line = 1; is_body = true; formals = []; result = H.Nothing; locals = []; texts = []; body = (I.next_statement (I.Assign (I.of_type (I.Global 0 0) H.Integer) (record { form = (I.Load (I.of_type (I.Index (I.Index (I.Global 0 1) (Some 2) (H.Array 3 H.Integer) (I.Literal 0)) (Some 3) H.Integer (I.Literal 1)) H.Integer)); shape = H.Integer })) I.no_statement); answer = None } ∷ []); imports_in = false })
legal_32 = refl

-- MODULE M; VAR a: ARRAY 3 OF INTEGER; m: ARRAY 2, 3 OF INTEGER; BEGIN m[0] := a END M.
abbrev legal_33_0 : Parsed
legal_33_0 = record { source = record { bytes = (77 ∷ 79 ∷ 68 ∷ 85 ∷ 76 ∷ 69 ∷ 32 ∷ 77 ∷ 59 ∷ 32 ∷ 86 ∷ 65 ∷ 82 ∷ 32 ∷ 97 ∷ 58 ∷ 32 ∷ 65 ∷ 82 ∷ 82 ∷ 65 ∷ 89 ∷ 32 ∷ 51 ∷ 32 ∷ 79 ∷ 70 ∷ 32 ∷ 73 ∷ 78 ∷ 84 ∷ 69 ∷ 71 ∷ 69 ∷ 82 ∷ 59 ∷ 32 ∷ 109 ∷ 58 ∷ 32 ∷ 65 ∷ 82 ∷ 82 ∷ 65 ∷ 89 ∷ 32 ∷ 50 ∷ 44 ∷ 32 ∷ 51 ∷ 32 ∷ 79 ∷ 70 ∷ 32 ∷ 73 ∷ 78 ∷ 84 ∷ 69 ∷ 71 ∷ 69 ∷ 82 ∷ 59 ∷ 32 ∷ 66 ∷ 69 ∷ 71 ∷ 73 ∷ 78 ∷ 32 ∷ 109 ∷ 91 ∷ 48 ∷ 93 ∷ 32 ∷ 58 ∷ 61 ∷ 32 ∷ 97 ∷ 32 ∷ 69 ∷ 78 ∷ 68 ∷ 32 ∷ 77 ∷ 46 ∷ []); symbols = (symbol (Ident) 0 6 ∷ symbol (Ident) 7 8 ∷ symbol (Ident) 8 9 ∷ symbol (Ident) 10 13 ∷ symbol (Ident) 14 15 ∷ symbol (Ident) 15 16 ∷ symbol (Ident) 17 22 ∷ symbol (Int (pos 3)) 23 24 ∷ symbol (Ident) 25 27 ∷ symbol (Ident) 28 35 ∷ symbol (Ident) 35 36 ∷ symbol (Ident) 37 38 ∷ symbol (Ident) 38 39 ∷ symbol (Ident) 40 45 ∷ symbol (Int (pos 2)) 46 47 ∷ symbol (Ident) 47 48 ∷ symbol (Int (pos 3)) 49 50 ∷ symbol (Ident) 51 53 ∷ symbol (Ident) 54 61 ∷ symbol (Ident) 61 62 ∷ symbol (Ident) 63 68 ∷ symbol (Ident) 69 70 ∷ symbol (Ident) 70 71 ∷ symbol (Int (pos 0)) 71 72 ∷ symbol (Ident) 72 73 ∷ symbol (Ident) 74 76 ∷ symbol (Ident) 77 78 ∷ symbol (Ident) 79 82 ∷ symbol (Ident) 83 84 ∷ symbol (Ident) 84 85 ∷ []) }; tree = record { module_word = 0; name = 1; semicolon = 0; imports = None; decls = (S.decls None None (Some (record { var_word = 0; each = (record { names = (record { first = (record { name = 4; star = None }); more = [] }); colon = 0; of = (S.Array 6 (S.only (S.simple None (S.term (S.Int 7) S.no_factor) S.no_term)) S.no_expression 0 (S.Named (record { name = 9; member = None }))); semicolon = 0 } ∷ record { names = (record { first = (record { name = 11; star = None }); more = [] }); colon = 0; of = (S.Array 13 (S.only (S.simple None (S.term (S.Int 14) S.no_factor) S.no_term)) (S.next_expression 0 (S.only (S.simple None (S.term (S.Int 16) S.no_factor) S.no_term)) S.no_expression) 0 (S.Named (record { name = 18; member = None }))); semicolon = 0 } ∷ []) })) S.no_procedure); body = (Some (record { begin_word = 0; stats = (S.stats (S.AssignOrCall (record { name = 21; selectors = (S.selected (S.Index 0 (S.expressions (S.only (S.simple None (S.term (S.Int 23) S.no_factor) S.no_term)) S.no_expression) 0) S.no_selector) }) (Some (record { becomes = 0; value = (S.only (S.simple None (S.term (S.Designated 26 S.no_selector) S.no_factor) S.no_term)) }))) S.no_stat) })); end_word = 0; end_name = 28; period = 0 } }

pub legal_33 : checked (legal_33_0 ∷ []) ≡ Legal (record { records = []; pointers = []; modules = (record { name = (77 ∷ []); objects = (record { name = (97 ∷ []); exported = false; entity = I.OfVariable 0 } ∷ record { name = (109 ∷ []); exported = false; entity = I.OfVariable 1 } ∷ []); variables = ((H.Array 3 H.Integer) ∷ (H.Array 2 (H.Array 3 H.Integer)) ∷ []); body = 0 } ∷ []); procedures = (record { module_number = 0; line = 1; is_body = true; formals = []; result = H.Nothing; locals = []; texts = []; body = (I.next_statement (I.CopyArray (I.of_type (I.Index (I.Global 0 1) (Some 2) (H.Array 3 H.Integer) (I.Literal 0)) (H.Array 3 H.Integer)) (I.of_type (I.Global 0 0) (H.Array 3 H.Integer))) I.no_statement); answer = None } ∷ []); imports_in = false })
legal_33 = refl

-- MODULE M; VAR i: INTEGER; j: INTEGER; m: ARRAY 2, 3 OF INTEGER; BEGIN m[i, j] := i END M.
abbrev legal_34_0 : Parsed
legal_34_0 = record { source = record { bytes = (77 ∷ 79 ∷ 68 ∷ 85 ∷ 76 ∷ 69 ∷ 32 ∷ 77 ∷ 59 ∷ 32 ∷ 86 ∷ 65 ∷ 82 ∷ 32 ∷ 105 ∷ 58 ∷ 32 ∷ 73 ∷ 78 ∷ 84 ∷ 69 ∷ 71 ∷ 69 ∷ 82 ∷ 59 ∷ 32 ∷ 106 ∷ 58 ∷ 32 ∷ 73 ∷ 78 ∷ 84 ∷ 69 ∷ 71 ∷ 69 ∷ 82 ∷ 59 ∷ 32 ∷ 109 ∷ 58 ∷ 32 ∷ 65 ∷ 82 ∷ 82 ∷ 65 ∷ 89 ∷ 32 ∷ 50 ∷ 44 ∷ 32 ∷ 51 ∷ 32 ∷ 79 ∷ 70 ∷ 32 ∷ 73 ∷ 78 ∷ 84 ∷ 69 ∷ 71 ∷ 69 ∷ 82 ∷ 59 ∷ 32 ∷ 66 ∷ 69 ∷ 71 ∷ 73 ∷ 78 ∷ 32 ∷ 109 ∷ 91 ∷ 105 ∷ 44 ∷ 32 ∷ 106 ∷ 93 ∷ 32 ∷ 58 ∷ 61 ∷ 32 ∷ 105 ∷ 32 ∷ 69 ∷ 78 ∷ 68 ∷ 32 ∷ 77 ∷ 46 ∷ []); symbols = (symbol (Ident) 0 6 ∷ symbol (Ident) 7 8 ∷ symbol (Ident) 8 9 ∷ symbol (Ident) 10 13 ∷ symbol (Ident) 14 15 ∷ symbol (Ident) 15 16 ∷ symbol (Ident) 17 24 ∷ symbol (Ident) 24 25 ∷ symbol (Ident) 26 27 ∷ symbol (Ident) 27 28 ∷ symbol (Ident) 29 36 ∷ symbol (Ident) 36 37 ∷ symbol (Ident) 38 39 ∷ symbol (Ident) 39 40 ∷ symbol (Ident) 41 46 ∷ symbol (Int (pos 2)) 47 48 ∷ symbol (Ident) 48 49 ∷ symbol (Int (pos 3)) 50 51 ∷ symbol (Ident) 52 54 ∷ symbol (Ident) 55 62 ∷ symbol (Ident) 62 63 ∷ symbol (Ident) 64 69 ∷ symbol (Ident) 70 71 ∷ symbol (Ident) 71 72 ∷ symbol (Ident) 72 73 ∷ symbol (Ident) 73 74 ∷ symbol (Ident) 75 76 ∷ symbol (Ident) 76 77 ∷ symbol (Ident) 78 80 ∷ symbol (Ident) 81 82 ∷ symbol (Ident) 83 86 ∷ symbol (Ident) 87 88 ∷ symbol (Ident) 88 89 ∷ []) }; tree = record { module_word = 0; name = 1; semicolon = 0; imports = None; decls = (S.decls None None (Some (record { var_word = 0; each = (record { names = (record { first = (record { name = 4; star = None }); more = [] }); colon = 0; of = (S.Named (record { name = 6; member = None })); semicolon = 0 } ∷ record { names = (record { first = (record { name = 8; star = None }); more = [] }); colon = 0; of = (S.Named (record { name = 10; member = None })); semicolon = 0 } ∷ record { names = (record { first = (record { name = 12; star = None }); more = [] }); colon = 0; of = (S.Array 14 (S.only (S.simple None (S.term (S.Int 15) S.no_factor) S.no_term)) (S.next_expression 0 (S.only (S.simple None (S.term (S.Int 17) S.no_factor) S.no_term)) S.no_expression) 0 (S.Named (record { name = 19; member = None }))); semicolon = 0 } ∷ []) })) S.no_procedure); body = (Some (record { begin_word = 0; stats = (S.stats (S.AssignOrCall (record { name = 22; selectors = (S.selected (S.Index 0 (S.expressions (S.only (S.simple None (S.term (S.Designated 24 S.no_selector) S.no_factor) S.no_term)) (S.next_expression 0 (S.only (S.simple None (S.term (S.Designated 26 S.no_selector) S.no_factor) S.no_term)) S.no_expression)) 0) S.no_selector) }) (Some (record { becomes = 0; value = (S.only (S.simple None (S.term (S.Designated 29 S.no_selector) S.no_factor) S.no_term)) }))) S.no_stat) })); end_word = 0; end_name = 31; period = 0 } }

pub legal_34 : checked (legal_34_0 ∷ []) ≡ Legal (record { records = []; pointers = []; modules = (record { name = (77 ∷ []); objects = (record { name = (105 ∷ []); exported = false; entity = I.OfVariable 0 } ∷ record { name = (106 ∷ []); exported = false; entity = I.OfVariable 1 } ∷ record { name = (109 ∷ []); exported = false; entity = I.OfVariable 2 } ∷ []); variables = (H.Integer ∷ H.Integer ∷ (H.Array 2 (H.Array 3 H.Integer)) ∷ []); body = 0 } ∷ []); procedures = (record { module_number = 0; line = 1; is_body = true; formals = []; result = H.Nothing; locals = []; texts = []; body = (I.next_statement (I.Assign (I.of_type (I.Index (I.Index (I.Global 0 2) (Some 2) (H.Array 3 H.Integer) (I.Load (I.of_type (I.Global 0 0) H.Integer))) (Some 3) H.Integer (I.Load (I.of_type (I.Global 0 1) H.Integer))) H.Integer) (record { form = (I.Load (I.of_type (I.Global 0 0) H.Integer)); shape = H.Integer })) I.no_statement); answer = None } ∷ []); imports_in = false })
legal_34 = refl

-- MODULE M; TYPE R = RECORD x: INTEGER; y*: CHAR END; E = RECORD (R) z: SET END; VAR e: E; m: ARRAY 2, 3 OF INTEGER; PROCEDURE V(VAR x: INTEGER; VAR r: R); END V; BEGIN V(m[1, 2], e) END M.
abbrev legal_35_0 : Parsed
legal_35_0 = record { source = record { bytes = (77 ∷ 79 ∷ 68 ∷ 85 ∷ 76 ∷ 69 ∷ 32 ∷ 77 ∷ 59 ∷ 32 ∷ 84 ∷ 89 ∷ 80 ∷ 69 ∷ 32 ∷ 82 ∷ 32 ∷ 61 ∷ 32 ∷ 82 ∷ 69 ∷ 67 ∷ 79 ∷ 82 ∷ 68 ∷ 32 ∷ 120 ∷ 58 ∷ 32 ∷ 73 ∷ 78 ∷ 84 ∷ 69 ∷ 71 ∷ 69 ∷ 82 ∷ 59 ∷ 32 ∷ 121 ∷ 42 ∷ 58 ∷ 32 ∷ 67 ∷ 72 ∷ 65 ∷ 82 ∷ 32 ∷ 69 ∷ 78 ∷ 68 ∷ 59 ∷ 32 ∷ 69 ∷ 32 ∷ 61 ∷ 32 ∷ 82 ∷ 69 ∷ 67 ∷ 79 ∷ 82 ∷ 68 ∷ 32 ∷ 40 ∷ 82 ∷ 41 ∷ 32 ∷ 122 ∷ 58 ∷ 32 ∷ 83 ∷ 69 ∷ 84 ∷ 32 ∷ 69 ∷ 78 ∷ 68 ∷ 59 ∷ 32 ∷ 86 ∷ 65 ∷ 82 ∷ 32 ∷ 101 ∷ 58 ∷ 32 ∷ 69 ∷ 59 ∷ 32 ∷ 109 ∷ 58 ∷ 32 ∷ 65 ∷ 82 ∷ 82 ∷ 65 ∷ 89 ∷ 32 ∷ 50 ∷ 44 ∷ 32 ∷ 51 ∷ 32 ∷ 79 ∷ 70 ∷ 32 ∷ 73 ∷ 78 ∷ 84 ∷ 69 ∷ 71 ∷ 69 ∷ 82 ∷ 59 ∷ 32 ∷ 80 ∷ 82 ∷ 79 ∷ 67 ∷ 69 ∷ 68 ∷ 85 ∷ 82 ∷ 69 ∷ 32 ∷ 86 ∷ 40 ∷ 86 ∷ 65 ∷ 82 ∷ 32 ∷ 120 ∷ 58 ∷ 32 ∷ 73 ∷ 78 ∷ 84 ∷ 69 ∷ 71 ∷ 69 ∷ 82 ∷ 59 ∷ 32 ∷ 86 ∷ 65 ∷ 82 ∷ 32 ∷ 114 ∷ 58 ∷ 32 ∷ 82 ∷ 41 ∷ 59 ∷ 32 ∷ 69 ∷ 78 ∷ 68 ∷ 32 ∷ 86 ∷ 59 ∷ 32 ∷ 66 ∷ 69 ∷ 71 ∷ 73 ∷ 78 ∷ 32 ∷ 86 ∷ 40 ∷ 109 ∷ 91 ∷ 49 ∷ 44 ∷ 32 ∷ 50 ∷ 93 ∷ 44 ∷ 32 ∷ 101 ∷ 41 ∷ 32 ∷ 69 ∷ 78 ∷ 68 ∷ 32 ∷ 77 ∷ 46 ∷ []); symbols = (symbol (Ident) 0 6 ∷ symbol (Ident) 7 8 ∷ symbol (Ident) 8 9 ∷ symbol (Ident) 10 14 ∷ symbol (Ident) 15 16 ∷ symbol (Ident) 17 18 ∷ symbol (Ident) 19 25 ∷ symbol (Ident) 26 27 ∷ symbol (Ident) 27 28 ∷ symbol (Ident) 29 36 ∷ symbol (Ident) 36 37 ∷ symbol (Ident) 38 39 ∷ symbol (Ident) 39 40 ∷ symbol (Ident) 40 41 ∷ symbol (Ident) 42 46 ∷ symbol (Ident) 47 50 ∷ symbol (Ident) 50 51 ∷ symbol (Ident) 52 53 ∷ symbol (Ident) 54 55 ∷ symbol (Ident) 56 62 ∷ symbol (Ident) 63 64 ∷ symbol (Ident) 64 65 ∷ symbol (Ident) 65 66 ∷ symbol (Ident) 67 68 ∷ symbol (Ident) 68 69 ∷ symbol (Ident) 70 73 ∷ symbol (Ident) 74 77 ∷ symbol (Ident) 77 78 ∷ symbol (Ident) 79 82 ∷ symbol (Ident) 83 84 ∷ symbol (Ident) 84 85 ∷ symbol (Ident) 86 87 ∷ symbol (Ident) 87 88 ∷ symbol (Ident) 89 90 ∷ symbol (Ident) 90 91 ∷ symbol (Ident) 92 97 ∷ symbol (Int (pos 2)) 98 99 ∷ symbol (Ident) 99 100 ∷ symbol (Int (pos 3)) 101 102 ∷ symbol (Ident) 103 105 ∷ symbol (Ident) 106 113 ∷ symbol (Ident) 113 114 ∷ symbol (Ident) 115 124 ∷ symbol (Ident) 125 126 ∷ symbol (Ident) 126 127 ∷ symbol (Ident) 127 130 ∷ symbol (Ident) 131 132 ∷ symbol (Ident) 132 133 ∷ symbol (Ident) 134 141 ∷ symbol (Ident) 141 142 ∷ symbol (Ident) 143 146 ∷ symbol (Ident) 147 148 ∷ symbol (Ident) 148 149 ∷ symbol (Ident) 150 151 ∷ symbol (Ident) 151 152 ∷ symbol (Ident) 152 153 ∷ symbol (Ident) 154 157 ∷ symbol (Ident) 158 159 ∷ symbol (Ident) 159 160 ∷ symbol (Ident) 161 166 ∷ symbol (Ident) 167 168 ∷ symbol (Ident) 168 169 ∷ symbol (Ident) 169 170 ∷ symbol (Ident) 170 171 ∷ symbol (Int (pos 1)) 171 172 ∷ symbol (Ident) 172 173 ∷ symbol (Int (pos 2)) 174 175 ∷ symbol (Ident) 175 176 ∷ symbol (Ident) 176 177 ∷ symbol (Ident) 178 179 ∷ symbol (Ident) 179 180 ∷ symbol (Ident) 181 184 ∷ symbol (Ident) 185 186 ∷ symbol (Ident) 186 187 ∷ []) }; tree = record { module_word = 0; name = 1; semicolon = 0; imports = None; decls = (S.decls None (Some (record { type_word = 0; each = (record { name = (record { name = 4; star = None }); equal = 0; is = (S.Record 6 None (S.fields (record { first = (record { name = 7; star = None }); more = [] }) 0 (S.Named (record { name = 9; member = None }))) (S.next_fields 0 (S.fields (record { first = (record { name = 11; star = Some 0 }); more = [] }) 0 (S.Named (record { name = 14; member = None }))) S.no_more_fields) 0); semicolon = 0 } ∷ record { name = (record { name = 17; star = None }); equal = 0; is = (S.Record 19 (Some (record { left_paren = 0; name = (record { name = 21; member = None }); right_paren = 0 })) (S.fields (record { first = (record { name = 23; star = None }); more = [] }) 0 (S.Named (record { name = 25; member = None }))) S.no_more_fields 0); semicolon = 0 } ∷ []) })) (Some (record { var_word = 0; each = (record { names = (record { first = (record { name = 29; star = None }); more = [] }); colon = 0; of = (S.Named (record { name = 31; member = None })); semicolon = 0 } ∷ record { names = (record { first = (record { name = 33; star = None }); more = [] }); colon = 0; of = (S.Array 35 (S.only (S.simple None (S.term (S.Int 36) S.no_factor) S.no_term)) (S.next_expression 0 (S.only (S.simple None (S.term (S.Int 38) S.no_factor) S.no_term)) S.no_expression) 0 (S.Named (record { name = 40; member = None }))); semicolon = 0 } ∷ []) })) (S.procedure 0 (record { name = 43; star = None }) (Some (record { left_paren = 0; sections = Some (record { first = (record { var_word = Some 0; first = 46; more = []; colon = 0; open_array = None; of = (record { name = 48; member = None }) }); more = (record { semicolon = 0; section = (record { var_word = Some 0; first = 51; more = []; colon = 0; open_array = None; of = (record { name = 53; member = None }) }) } ∷ []) }); right_paren = 0; result = None })) 0 (S.decls None None None S.no_procedure) None None 56 57 0 S.no_procedure)); body = (Some (record { begin_word = 0; stats = (S.stats (S.AssignOrCall (record { name = 60; selectors = (S.selected (S.Parens 0 (S.expressions (S.only (S.simple None (S.term (S.Designated 62 (S.selected (S.Index 0 (S.expressions (S.only (S.simple None (S.term (S.Int 64) S.no_factor) S.no_term)) (S.next_expression 0 (S.only (S.simple None (S.term (S.Int 66) S.no_factor) S.no_term)) S.no_expression)) 0) S.no_selector)) S.no_factor) S.no_term)) (S.next_expression 0 (S.only (S.simple None (S.term (S.Designated 69 S.no_selector) S.no_factor) S.no_term)) S.no_expression)) 0) S.no_selector) }) None) S.no_stat) })); end_word = 0; end_name = 72; period = 0 } }

pub legal_35 : checked (legal_35_0 ∷ []) ≡ Legal (record { records = (record { module_number = 0; base = None; level = 0; fields = (record { name = (120 ∷ []); exported = false; shape = H.Integer } ∷ record { name = (121 ∷ []); exported = true; shape = H.Char } ∷ []); cells = 2; extent = record { bytes = 16; wide = true } } ∷ record { module_number = 0; base = (Some 0); level = 1; fields = (record { name = (122 ∷ []); exported = false; shape = H.Set } ∷ []); cells = 3; extent = record { bytes = 24; wide = true } } ∷ []); pointers = []; modules = (record { name = (77 ∷ []); objects = (record { name = (82 ∷ []); exported = false; entity = I.OfType (H.Record 0) } ∷ record { name = (69 ∷ []); exported = false; entity = I.OfType (H.Record 1) } ∷ record { name = (101 ∷ []); exported = false; entity = I.OfVariable 0 } ∷ record { name = (109 ∷ []); exported = false; entity = I.OfVariable 1 } ∷ record { name = (86 ∷ []); exported = false; entity = I.OfProcedure 0 } ∷ []); variables = ((H.Record 1) ∷ (H.Array 2 (H.Array 3 H.Integer)) ∷ []); body = 1 } ∷ []); procedures = (record { module_number = 0; line = 1; is_body = false; formals = (record { mode = TheMode.Place; variable = true; shape = H.Integer } ∷ record { mode = TheMode.Record; variable = true; shape = (H.Record 0) } ∷ []); result = H.Nothing; locals = []; texts = []; body = I.no_statement; answer = None } ∷ record { module_number = 0; line = 1; is_body = true; formals = []; result = H.Nothing; locals = []; texts = []; body = (I.next_statement (I.Invoke (I.Direct 0 (I.next_argument (I.ByPlace (I.of_type (I.Index (I.Index (I.Global 0 1) (Some 2) (H.Array 3 H.Integer) (I.Literal 1)) (Some 3) H.Integer (I.Literal 2)) H.Integer)) (I.next_argument (I.ByRecord (I.of_type (I.Global 0 0) (H.Record 1))) I.no_argument)))) I.no_statement); answer = None } ∷ []); imports_in = false })
legal_35 = refl

-- MODULE M; TYPE R = RECORD x: INTEGER; y*: CHAR END; P = POINTER TO R; VAR i: INTEGER; p: P; PROCEDURE V(VAR x: INTEGER; VAR r: R); END V; BEGIN V(i, p^) END M.
abbrev legal_36_0 : Parsed
legal_36_0 = record { source = record { bytes = (77 ∷ 79 ∷ 68 ∷ 85 ∷ 76 ∷ 69 ∷ 32 ∷ 77 ∷ 59 ∷ 32 ∷ 84 ∷ 89 ∷ 80 ∷ 69 ∷ 32 ∷ 82 ∷ 32 ∷ 61 ∷ 32 ∷ 82 ∷ 69 ∷ 67 ∷ 79 ∷ 82 ∷ 68 ∷ 32 ∷ 120 ∷ 58 ∷ 32 ∷ 73 ∷ 78 ∷ 84 ∷ 69 ∷ 71 ∷ 69 ∷ 82 ∷ 59 ∷ 32 ∷ 121 ∷ 42 ∷ 58 ∷ 32 ∷ 67 ∷ 72 ∷ 65 ∷ 82 ∷ 32 ∷ 69 ∷ 78 ∷ 68 ∷ 59 ∷ 32 ∷ 80 ∷ 32 ∷ 61 ∷ 32 ∷ 80 ∷ 79 ∷ 73 ∷ 78 ∷ 84 ∷ 69 ∷ 82 ∷ 32 ∷ 84 ∷ 79 ∷ 32 ∷ 82 ∷ 59 ∷ 32 ∷ 86 ∷ 65 ∷ 82 ∷ 32 ∷ 105 ∷ 58 ∷ 32 ∷ 73 ∷ 78 ∷ 84 ∷ 69 ∷ 71 ∷ 69 ∷ 82 ∷ 59 ∷ 32 ∷ 112 ∷ 58 ∷ 32 ∷ 80 ∷ 59 ∷ 32 ∷ 80 ∷ 82 ∷ 79 ∷ 67 ∷ 69 ∷ 68 ∷ 85 ∷ 82 ∷ 69 ∷ 32 ∷ 86 ∷ 40 ∷ 86 ∷ 65 ∷ 82 ∷ 32 ∷ 120 ∷ 58 ∷ 32 ∷ 73 ∷ 78 ∷ 84 ∷ 69 ∷ 71 ∷ 69 ∷ 82 ∷ 59 ∷ 32 ∷ 86 ∷ 65 ∷ 82 ∷ 32 ∷ 114 ∷ 58 ∷ 32 ∷ 82 ∷ 41 ∷ 59 ∷ 32 ∷ 69 ∷ 78 ∷ 68 ∷ 32 ∷ 86 ∷ 59 ∷ 32 ∷ 66 ∷ 69 ∷ 71 ∷ 73 ∷ 78 ∷ 32 ∷ 86 ∷ 40 ∷ 105 ∷ 44 ∷ 32 ∷ 112 ∷ 94 ∷ 41 ∷ 32 ∷ 69 ∷ 78 ∷ 68 ∷ 32 ∷ 77 ∷ 46 ∷ []); symbols = (symbol (Ident) 0 6 ∷ symbol (Ident) 7 8 ∷ symbol (Ident) 8 9 ∷ symbol (Ident) 10 14 ∷ symbol (Ident) 15 16 ∷ symbol (Ident) 17 18 ∷ symbol (Ident) 19 25 ∷ symbol (Ident) 26 27 ∷ symbol (Ident) 27 28 ∷ symbol (Ident) 29 36 ∷ symbol (Ident) 36 37 ∷ symbol (Ident) 38 39 ∷ symbol (Ident) 39 40 ∷ symbol (Ident) 40 41 ∷ symbol (Ident) 42 46 ∷ symbol (Ident) 47 50 ∷ symbol (Ident) 50 51 ∷ symbol (Ident) 52 53 ∷ symbol (Ident) 54 55 ∷ symbol (Ident) 56 63 ∷ symbol (Ident) 64 66 ∷ symbol (Ident) 67 68 ∷ symbol (Ident) 68 69 ∷ symbol (Ident) 70 73 ∷ symbol (Ident) 74 75 ∷ symbol (Ident) 75 76 ∷ symbol (Ident) 77 84 ∷ symbol (Ident) 84 85 ∷ symbol (Ident) 86 87 ∷ symbol (Ident) 87 88 ∷ symbol (Ident) 89 90 ∷ symbol (Ident) 90 91 ∷ symbol (Ident) 92 101 ∷ symbol (Ident) 102 103 ∷ symbol (Ident) 103 104 ∷ symbol (Ident) 104 107 ∷ symbol (Ident) 108 109 ∷ symbol (Ident) 109 110 ∷ symbol (Ident) 111 118 ∷ symbol (Ident) 118 119 ∷ symbol (Ident) 120 123 ∷ symbol (Ident) 124 125 ∷ symbol (Ident) 125 126 ∷ symbol (Ident) 127 128 ∷ symbol (Ident) 128 129 ∷ symbol (Ident) 129 130 ∷ symbol (Ident) 131 134 ∷ symbol (Ident) 135 136 ∷ symbol (Ident) 136 137 ∷ symbol (Ident) 138 143 ∷ symbol (Ident) 144 145 ∷ symbol (Ident) 145 146 ∷ symbol (Ident) 146 147 ∷ symbol (Ident) 147 148 ∷ symbol (Ident) 149 150 ∷ symbol (Ident) 150 151 ∷ symbol (Ident) 151 152 ∷ symbol (Ident) 153 156 ∷ symbol (Ident) 157 158 ∷ symbol (Ident) 158 159 ∷ []) }; tree = record { module_word = 0; name = 1; semicolon = 0; imports = None; decls = (S.decls None (Some (record { type_word = 0; each = (record { name = (record { name = 4; star = None }); equal = 0; is = (S.Record 6 None (S.fields (record { first = (record { name = 7; star = None }); more = [] }) 0 (S.Named (record { name = 9; member = None }))) (S.next_fields 0 (S.fields (record { first = (record { name = 11; star = Some 0 }); more = [] }) 0 (S.Named (record { name = 14; member = None }))) S.no_more_fields) 0); semicolon = 0 } ∷ record { name = (record { name = 17; star = None }); equal = 0; is = (S.Pointer 19 0 (S.Named (record { name = 21; member = None }))); semicolon = 0 } ∷ []) })) (Some (record { var_word = 0; each = (record { names = (record { first = (record { name = 24; star = None }); more = [] }); colon = 0; of = (S.Named (record { name = 26; member = None })); semicolon = 0 } ∷ record { names = (record { first = (record { name = 28; star = None }); more = [] }); colon = 0; of = (S.Named (record { name = 30; member = None })); semicolon = 0 } ∷ []) })) (S.procedure 0 (record { name = 33; star = None }) (Some (record { left_paren = 0; sections = Some (record { first = (record { var_word = Some 0; first = 36; more = []; colon = 0; open_array = None; of = (record { name = 38; member = None }) }); more = (record { semicolon = 0; section = (record { var_word = Some 0; first = 41; more = []; colon = 0; open_array = None; of = (record { name = 43; member = None }) }) } ∷ []) }); right_paren = 0; result = None })) 0 (S.decls None None None S.no_procedure) None None 46 47 0 S.no_procedure)); body = (Some (record { begin_word = 0; stats = (S.stats (S.AssignOrCall (record { name = 50; selectors = (S.selected (S.Parens 0 (S.expressions (S.only (S.simple None (S.term (S.Designated 52 S.no_selector) S.no_factor) S.no_term)) (S.next_expression 0 (S.only (S.simple None (S.term (S.Designated 54 (S.selected (S.Arrow 0) S.no_selector)) S.no_factor) S.no_term)) S.no_expression)) 0) S.no_selector) }) None) S.no_stat) })); end_word = 0; end_name = 58; period = 0 } }

pub legal_36 : checked (legal_36_0 ∷ []) ≡ Legal (record { records = (record { module_number = 0; base = None; level = 0; fields = (record { name = (120 ∷ []); exported = false; shape = H.Integer } ∷ record { name = (121 ∷ []); exported = true; shape = H.Char } ∷ []); cells = 2; extent = record { bytes = 16; wide = true } } ∷ []); pointers = (Some 0 ∷ []); modules = (record { name = (77 ∷ []); objects = (record { name = (82 ∷ []); exported = false; entity = I.OfType (H.Record 0) } ∷ record { name = (80 ∷ []); exported = false; entity = I.OfType (H.Pointer 0) } ∷ record { name = (105 ∷ []); exported = false; entity = I.OfVariable 0 } ∷ record { name = (112 ∷ []); exported = false; entity = I.OfVariable 1 } ∷ record { name = (86 ∷ []); exported = false; entity = I.OfProcedure 0 } ∷ []); variables = (H.Integer ∷ (H.Pointer 0) ∷ []); body = 1 } ∷ []); procedures = (record { module_number = 0; line = 1; is_body = false; formals = (record { mode = TheMode.Place; variable = true; shape = H.Integer } ∷ record { mode = TheMode.Record; variable = true; shape = (H.Record 0) } ∷ []); result = H.Nothing; locals = []; texts = []; body = I.no_statement; answer = None } ∷ record { module_number = 0; line = 1; is_body = true; formals = []; result = H.Nothing; locals = []; texts = []; body = (I.next_statement (I.Invoke (I.Direct 0 (I.next_argument (I.ByPlace (I.of_type (I.Global 0 0) H.Integer)) (I.next_argument (I.ByRecord (I.of_type (I.Dereference (I.Load (I.of_type (I.Global 0 1) (H.Pointer 0)))) (H.Record 0))) I.no_argument)))) I.no_statement); answer = None } ∷ []); imports_in = false })
legal_36 = refl

-- MODULE M; TYPE R = RECORD x: INTEGER; y*: CHAR END; E = RECORD (R) z: SET END; P = POINTER TO R; Q = POINTER TO E; VAR p: P; q: Q; PROCEDURE V(VAR x: INTEGER; VAR r: R); END V; BEGIN V(p.x, q^) END M.
abbrev legal_37_0 : Parsed
legal_37_0 = record { source = record { bytes = (77 ∷ 79 ∷ 68 ∷ 85 ∷ 76 ∷ 69 ∷ 32 ∷ 77 ∷ 59 ∷ 32 ∷ 84 ∷ 89 ∷ 80 ∷ 69 ∷ 32 ∷ 82 ∷ 32 ∷ 61 ∷ 32 ∷ 82 ∷ 69 ∷ 67 ∷ 79 ∷ 82 ∷ 68 ∷ 32 ∷ 120 ∷ 58 ∷ 32 ∷ 73 ∷ 78 ∷ 84 ∷ 69 ∷ 71 ∷ 69 ∷ 82 ∷ 59 ∷ 32 ∷ 121 ∷ 42 ∷ 58 ∷ 32 ∷ 67 ∷ 72 ∷ 65 ∷ 82 ∷ 32 ∷ 69 ∷ 78 ∷ 68 ∷ 59 ∷ 32 ∷ 69 ∷ 32 ∷ 61 ∷ 32 ∷ 82 ∷ 69 ∷ 67 ∷ 79 ∷ 82 ∷ 68 ∷ 32 ∷ 40 ∷ 82 ∷ 41 ∷ 32 ∷ 122 ∷ 58 ∷ 32 ∷ 83 ∷ 69 ∷ 84 ∷ 32 ∷ 69 ∷ 78 ∷ 68 ∷ 59 ∷ 32 ∷ 80 ∷ 32 ∷ 61 ∷ 32 ∷ 80 ∷ 79 ∷ 73 ∷ 78 ∷ 84 ∷ 69 ∷ 82 ∷ 32 ∷ 84 ∷ 79 ∷ 32 ∷ 82 ∷ 59 ∷ 32 ∷ 81 ∷ 32 ∷ 61 ∷ 32 ∷ 80 ∷ 79 ∷ 73 ∷ 78 ∷ 84 ∷ 69 ∷ 82 ∷ 32 ∷ 84 ∷ 79 ∷ 32 ∷ 69 ∷ 59 ∷ 32 ∷ 86 ∷ 65 ∷ 82 ∷ 32 ∷ 112 ∷ 58 ∷ 32 ∷ 80 ∷ 59 ∷ 32 ∷ 113 ∷ 58 ∷ 32 ∷ 81 ∷ 59 ∷ 32 ∷ 80 ∷ 82 ∷ 79 ∷ 67 ∷ 69 ∷ 68 ∷ 85 ∷ 82 ∷ 69 ∷ 32 ∷ 86 ∷ 40 ∷ 86 ∷ 65 ∷ 82 ∷ 32 ∷ 120 ∷ 58 ∷ 32 ∷ 73 ∷ 78 ∷ 84 ∷ 69 ∷ 71 ∷ 69 ∷ 82 ∷ 59 ∷ 32 ∷ 86 ∷ 65 ∷ 82 ∷ 32 ∷ 114 ∷ 58 ∷ 32 ∷ 82 ∷ 41 ∷ 59 ∷ 32 ∷ 69 ∷ 78 ∷ 68 ∷ 32 ∷ 86 ∷ 59 ∷ 32 ∷ 66 ∷ 69 ∷ 71 ∷ 73 ∷ 78 ∷ 32 ∷ 86 ∷ 40 ∷ 112 ∷ 46 ∷ 120 ∷ 44 ∷ 32 ∷ 113 ∷ 94 ∷ 41 ∷ 32 ∷ 69 ∷ 78 ∷ 68 ∷ 32 ∷ 77 ∷ 46 ∷ []); symbols = (symbol (Ident) 0 6 ∷ symbol (Ident) 7 8 ∷ symbol (Ident) 8 9 ∷ symbol (Ident) 10 14 ∷ symbol (Ident) 15 16 ∷ symbol (Ident) 17 18 ∷ symbol (Ident) 19 25 ∷ symbol (Ident) 26 27 ∷ symbol (Ident) 27 28 ∷ symbol (Ident) 29 36 ∷ symbol (Ident) 36 37 ∷ symbol (Ident) 38 39 ∷ symbol (Ident) 39 40 ∷ symbol (Ident) 40 41 ∷ symbol (Ident) 42 46 ∷ symbol (Ident) 47 50 ∷ symbol (Ident) 50 51 ∷ symbol (Ident) 52 53 ∷ symbol (Ident) 54 55 ∷ symbol (Ident) 56 62 ∷ symbol (Ident) 63 64 ∷ symbol (Ident) 64 65 ∷ symbol (Ident) 65 66 ∷ symbol (Ident) 67 68 ∷ symbol (Ident) 68 69 ∷ symbol (Ident) 70 73 ∷ symbol (Ident) 74 77 ∷ symbol (Ident) 77 78 ∷ symbol (Ident) 79 80 ∷ symbol (Ident) 81 82 ∷ symbol (Ident) 83 90 ∷ symbol (Ident) 91 93 ∷ symbol (Ident) 94 95 ∷ symbol (Ident) 95 96 ∷ symbol (Ident) 97 98 ∷ symbol (Ident) 99 100 ∷ symbol (Ident) 101 108 ∷ symbol (Ident) 109 111 ∷ symbol (Ident) 112 113 ∷ symbol (Ident) 113 114 ∷ symbol (Ident) 115 118 ∷ symbol (Ident) 119 120 ∷ symbol (Ident) 120 121 ∷ symbol (Ident) 122 123 ∷ symbol (Ident) 123 124 ∷ symbol (Ident) 125 126 ∷ symbol (Ident) 126 127 ∷ symbol (Ident) 128 129 ∷ symbol (Ident) 129 130 ∷ symbol (Ident) 131 140 ∷ symbol (Ident) 141 142 ∷ symbol (Ident) 142 143 ∷ symbol (Ident) 143 146 ∷ symbol (Ident) 147 148 ∷ symbol (Ident) 148 149 ∷ symbol (Ident) 150 157 ∷ symbol (Ident) 157 158 ∷ symbol (Ident) 159 162 ∷ symbol (Ident) 163 164 ∷ symbol (Ident) 164 165 ∷ symbol (Ident) 166 167 ∷ symbol (Ident) 167 168 ∷ symbol (Ident) 168 169 ∷ symbol (Ident) 170 173 ∷ symbol (Ident) 174 175 ∷ symbol (Ident) 175 176 ∷ symbol (Ident) 177 182 ∷ symbol (Ident) 183 184 ∷ symbol (Ident) 184 185 ∷ symbol (Ident) 185 186 ∷ symbol (Ident) 186 187 ∷ symbol (Ident) 187 188 ∷ symbol (Ident) 188 189 ∷ symbol (Ident) 190 191 ∷ symbol (Ident) 191 192 ∷ symbol (Ident) 192 193 ∷ symbol (Ident) 194 197 ∷ symbol (Ident) 198 199 ∷ symbol (Ident) 199 200 ∷ []) }; tree = record { module_word = 0; name = 1; semicolon = 0; imports = None; decls = (S.decls None (Some (record { type_word = 0; each = (record { name = (record { name = 4; star = None }); equal = 0; is = (S.Record 6 None (S.fields (record { first = (record { name = 7; star = None }); more = [] }) 0 (S.Named (record { name = 9; member = None }))) (S.next_fields 0 (S.fields (record { first = (record { name = 11; star = Some 0 }); more = [] }) 0 (S.Named (record { name = 14; member = None }))) S.no_more_fields) 0); semicolon = 0 } ∷ record { name = (record { name = 17; star = None }); equal = 0; is = (S.Record 19 (Some (record { left_paren = 0; name = (record { name = 21; member = None }); right_paren = 0 })) (S.fields (record { first = (record { name = 23; star = None }); more = [] }) 0 (S.Named (record { name = 25; member = None }))) S.no_more_fields 0); semicolon = 0 } ∷ record { name = (record { name = 28; star = None }); equal = 0; is = (S.Pointer 30 0 (S.Named (record { name = 32; member = None }))); semicolon = 0 } ∷ record { name = (record { name = 34; star = None }); equal = 0; is = (S.Pointer 36 0 (S.Named (record { name = 38; member = None }))); semicolon = 0 } ∷ []) })) (Some (record { var_word = 0; each = (record { names = (record { first = (record { name = 41; star = None }); more = [] }); colon = 0; of = (S.Named (record { name = 43; member = None })); semicolon = 0 } ∷ record { names = (record { first = (record { name = 45; star = None }); more = [] }); colon = 0; of = (S.Named (record { name = 47; member = None })); semicolon = 0 } ∷ []) })) (S.procedure 0 (record { name = 50; star = None }) (Some (record { left_paren = 0; sections = Some (record { first = (record { var_word = Some 0; first = 53; more = []; colon = 0; open_array = None; of = (record { name = 55; member = None }) }); more = (record { semicolon = 0; section = (record { var_word = Some 0; first = 58; more = []; colon = 0; open_array = None; of = (record { name = 60; member = None }) }) } ∷ []) }); right_paren = 0; result = None })) 0 (S.decls None None None S.no_procedure) None None 63 64 0 S.no_procedure)); body = (Some (record { begin_word = 0; stats = (S.stats (S.AssignOrCall (record { name = 67; selectors = (S.selected (S.Parens 0 (S.expressions (S.only (S.simple None (S.term (S.Designated 69 (S.selected (S.Field 0 71) S.no_selector)) S.no_factor) S.no_term)) (S.next_expression 0 (S.only (S.simple None (S.term (S.Designated 73 (S.selected (S.Arrow 0) S.no_selector)) S.no_factor) S.no_term)) S.no_expression)) 0) S.no_selector) }) None) S.no_stat) })); end_word = 0; end_name = 77; period = 0 } }

pub legal_37 : checked (legal_37_0 ∷ []) ≡ Legal (record { records = (record { module_number = 0; base = None; level = 0; fields = (record { name = (120 ∷ []); exported = false; shape = H.Integer } ∷ record { name = (121 ∷ []); exported = true; shape = H.Char } ∷ []); cells = 2; extent = record { bytes = 16; wide = true } } ∷ record { module_number = 0; base = (Some 0); level = 1; fields = (record { name = (122 ∷ []); exported = false; shape = H.Set } ∷ []); cells = 3; extent = record { bytes = 24; wide = true } } ∷ []); pointers = (Some 0 ∷ Some 1 ∷ []); modules = (record { name = (77 ∷ []); objects = (record { name = (82 ∷ []); exported = false; entity = I.OfType (H.Record 0) } ∷ record { name = (69 ∷ []); exported = false; entity = I.OfType (H.Record 1) } ∷ record { name = (80 ∷ []); exported = false; entity = I.OfType (H.Pointer 0) } ∷ record { name = (81 ∷ []); exported = false; entity = I.OfType (H.Pointer 1) } ∷ record { name = (112 ∷ []); exported = false; entity = I.OfVariable 0 } ∷ record { name = (113 ∷ []); exported = false; entity = I.OfVariable 1 } ∷ record { name = (86 ∷ []); exported = false; entity = I.OfProcedure 0 } ∷ []); variables = ((H.Pointer 0) ∷ (H.Pointer 1) ∷ []); body = 1 } ∷ []); procedures = (record { module_number = 0; line = 1; is_body = false; formals = (record { mode = TheMode.Place; variable = true; shape = H.Integer } ∷ record { mode = TheMode.Record; variable = true; shape = (H.Record 0) } ∷ []); result = H.Nothing; locals = []; texts = []; body = I.no_statement; answer = None } ∷ record { module_number = 0; line = 1; is_body = true; formals = []; result = H.Nothing; locals = []; texts = []; body = (I.next_statement (I.Invoke (I.Direct 0 (I.next_argument (I.ByPlace (I.of_type (I.Field (I.Dereference (I.Load (I.of_type (I.Global 0 0) (H.Pointer 0)))) 0 0) H.Integer)) (I.next_argument (I.ByRecord (I.of_type (I.Dereference (I.Load (I.of_type (I.Global 0 1) (H.Pointer 1)))) (H.Record 1))) I.no_argument)))) I.no_statement); answer = None } ∷ []); imports_in = false })
legal_37 = refl

-- MODULE M; VAR a: ARRAY 3 OF INTEGER; t: ARRAY 8 OF CHAR; PROCEDURE O(x: ARRAY OF CHAR; VAR z: ARRAY OF INTEGER); END O; BEGIN O(t, a) END M.
abbrev legal_38_0 : Parsed
legal_38_0 = record { source = record { bytes = (77 ∷ 79 ∷ 68 ∷ 85 ∷ 76 ∷ 69 ∷ 32 ∷ 77 ∷ 59 ∷ 32 ∷ 86 ∷ 65 ∷ 82 ∷ 32 ∷ 97 ∷ 58 ∷ 32 ∷ 65 ∷ 82 ∷ 82 ∷ 65 ∷ 89 ∷ 32 ∷ 51 ∷ 32 ∷ 79 ∷ 70 ∷ 32 ∷ 73 ∷ 78 ∷ 84 ∷ 69 ∷ 71 ∷ 69 ∷ 82 ∷ 59 ∷ 32 ∷ 116 ∷ 58 ∷ 32 ∷ 65 ∷ 82 ∷ 82 ∷ 65 ∷ 89 ∷ 32 ∷ 56 ∷ 32 ∷ 79 ∷ 70 ∷ 32 ∷ 67 ∷ 72 ∷ 65 ∷ 82 ∷ 59 ∷ 32 ∷ 80 ∷ 82 ∷ 79 ∷ 67 ∷ 69 ∷ 68 ∷ 85 ∷ 82 ∷ 69 ∷ 32 ∷ 79 ∷ 40 ∷ 120 ∷ 58 ∷ 32 ∷ 65 ∷ 82 ∷ 82 ∷ 65 ∷ 89 ∷ 32 ∷ 79 ∷ 70 ∷ 32 ∷ 67 ∷ 72 ∷ 65 ∷ 82 ∷ 59 ∷ 32 ∷ 86 ∷ 65 ∷ 82 ∷ 32 ∷ 122 ∷ 58 ∷ 32 ∷ 65 ∷ 82 ∷ 82 ∷ 65 ∷ 89 ∷ 32 ∷ 79 ∷ 70 ∷ 32 ∷ 73 ∷ 78 ∷ 84 ∷ 69 ∷ 71 ∷ 69 ∷ 82 ∷ 41 ∷ 59 ∷ 32 ∷ 69 ∷ 78 ∷ 68 ∷ 32 ∷ 79 ∷ 59 ∷ 32 ∷ 66 ∷ 69 ∷ 71 ∷ 73 ∷ 78 ∷ 32 ∷ 79 ∷ 40 ∷ 116 ∷ 44 ∷ 32 ∷ 97 ∷ 41 ∷ 32 ∷ 69 ∷ 78 ∷ 68 ∷ 32 ∷ 77 ∷ 46 ∷ []); symbols = (symbol (Ident) 0 6 ∷ symbol (Ident) 7 8 ∷ symbol (Ident) 8 9 ∷ symbol (Ident) 10 13 ∷ symbol (Ident) 14 15 ∷ symbol (Ident) 15 16 ∷ symbol (Ident) 17 22 ∷ symbol (Int (pos 3)) 23 24 ∷ symbol (Ident) 25 27 ∷ symbol (Ident) 28 35 ∷ symbol (Ident) 35 36 ∷ symbol (Ident) 37 38 ∷ symbol (Ident) 38 39 ∷ symbol (Ident) 40 45 ∷ symbol (Int (pos 8)) 46 47 ∷ symbol (Ident) 48 50 ∷ symbol (Ident) 51 55 ∷ symbol (Ident) 55 56 ∷ symbol (Ident) 57 66 ∷ symbol (Ident) 67 68 ∷ symbol (Ident) 68 69 ∷ symbol (Ident) 69 70 ∷ symbol (Ident) 70 71 ∷ symbol (Ident) 72 77 ∷ symbol (Ident) 78 80 ∷ symbol (Ident) 81 85 ∷ symbol (Ident) 85 86 ∷ symbol (Ident) 87 90 ∷ symbol (Ident) 91 92 ∷ symbol (Ident) 92 93 ∷ symbol (Ident) 94 99 ∷ symbol (Ident) 100 102 ∷ symbol (Ident) 103 110 ∷ symbol (Ident) 110 111 ∷ symbol (Ident) 111 112 ∷ symbol (Ident) 113 116 ∷ symbol (Ident) 117 118 ∷ symbol (Ident) 118 119 ∷ symbol (Ident) 120 125 ∷ symbol (Ident) 126 127 ∷ symbol (Ident) 127 128 ∷ symbol (Ident) 128 129 ∷ symbol (Ident) 129 130 ∷ symbol (Ident) 131 132 ∷ symbol (Ident) 132 133 ∷ symbol (Ident) 134 137 ∷ symbol (Ident) 138 139 ∷ symbol (Ident) 139 140 ∷ []) }; tree = record { module_word = 0; name = 1; semicolon = 0; imports = None; decls = (S.decls None None (Some (record { var_word = 0; each = (record { names = (record { first = (record { name = 4; star = None }); more = [] }); colon = 0; of = (S.Array 6 (S.only (S.simple None (S.term (S.Int 7) S.no_factor) S.no_term)) S.no_expression 0 (S.Named (record { name = 9; member = None }))); semicolon = 0 } ∷ record { names = (record { first = (record { name = 11; star = None }); more = [] }); colon = 0; of = (S.Array 13 (S.only (S.simple None (S.term (S.Int 14) S.no_factor) S.no_term)) S.no_expression 0 (S.Named (record { name = 16; member = None }))); semicolon = 0 } ∷ []) })) (S.procedure 0 (record { name = 19; star = None }) (Some (record { left_paren = 0; sections = Some (record { first = (record { var_word = None; first = 21; more = []; colon = 0; open_array = Some (record { array_word = 0; of_word = 0 }); of = (record { name = 25; member = None }) }); more = (record { semicolon = 0; section = (record { var_word = Some 0; first = 28; more = []; colon = 0; open_array = Some (record { array_word = 0; of_word = 0 }); of = (record { name = 32; member = None }) }) } ∷ []) }); right_paren = 0; result = None })) 0 (S.decls None None None S.no_procedure) None None 35 36 0 S.no_procedure)); body = (Some (record { begin_word = 0; stats = (S.stats (S.AssignOrCall (record { name = 39; selectors = (S.selected (S.Parens 0 (S.expressions (S.only (S.simple None (S.term (S.Designated 41 S.no_selector) S.no_factor) S.no_term)) (S.next_expression 0 (S.only (S.simple None (S.term (S.Designated 43 S.no_selector) S.no_factor) S.no_term)) S.no_expression)) 0) S.no_selector) }) None) S.no_stat) })); end_word = 0; end_name = 46; period = 0 } }

pub legal_38 : checked (legal_38_0 ∷ []) ≡ Legal (record { records = []; pointers = []; modules = (record { name = (77 ∷ []); objects = (record { name = (97 ∷ []); exported = false; entity = I.OfVariable 0 } ∷ record { name = (116 ∷ []); exported = false; entity = I.OfVariable 1 } ∷ record { name = (79 ∷ []); exported = false; entity = I.OfProcedure 0 } ∷ []); variables = ((H.Array 3 H.Integer) ∷ (H.Array 8 H.Char) ∷ []); body = 1 } ∷ []); procedures = (record { module_number = 0; line = 1; is_body = false; formals = (record { mode = TheMode.Open; variable = false; shape = (H.Open H.Char) } ∷ record { mode = TheMode.Open; variable = true; shape = (H.Open H.Integer) } ∷ []); result = H.Nothing; locals = []; texts = []; body = I.no_statement; answer = None } ∷ record { module_number = 0; line = 1; is_body = true; formals = []; result = H.Nothing; locals = []; texts = []; body = (I.next_statement (I.Invoke (I.Direct 0 (I.next_argument (I.ByOpen (I.of_type (I.Global 0 1) (H.Array 8 H.Char))) (I.next_argument (I.ByOpen (I.of_type (I.Global 0 0) (H.Array 3 H.Integer))) I.no_argument)))) I.no_statement); answer = None } ∷ []); imports_in = false })
legal_38 = refl

-- MODULE M; VAR m: ARRAY 2, 3 OF INTEGER; PROCEDURE O(x: ARRAY OF CHAR; VAR z: ARRAY OF INTEGER); END O; BEGIN O(''a'', m[1]) END M.
abbrev legal_39_0 : Parsed
legal_39_0 = record { source = record { bytes = (77 ∷ 79 ∷ 68 ∷ 85 ∷ 76 ∷ 69 ∷ 32 ∷ 77 ∷ 59 ∷ 32 ∷ 86 ∷ 65 ∷ 82 ∷ 32 ∷ 109 ∷ 58 ∷ 32 ∷ 65 ∷ 82 ∷ 82 ∷ 65 ∷ 89 ∷ 32 ∷ 50 ∷ 44 ∷ 32 ∷ 51 ∷ 32 ∷ 79 ∷ 70 ∷ 32 ∷ 73 ∷ 78 ∷ 84 ∷ 69 ∷ 71 ∷ 69 ∷ 82 ∷ 59 ∷ 32 ∷ 80 ∷ 82 ∷ 79 ∷ 67 ∷ 69 ∷ 68 ∷ 85 ∷ 82 ∷ 69 ∷ 32 ∷ 79 ∷ 40 ∷ 120 ∷ 58 ∷ 32 ∷ 65 ∷ 82 ∷ 82 ∷ 65 ∷ 89 ∷ 32 ∷ 79 ∷ 70 ∷ 32 ∷ 67 ∷ 72 ∷ 65 ∷ 82 ∷ 59 ∷ 32 ∷ 86 ∷ 65 ∷ 82 ∷ 32 ∷ 122 ∷ 58 ∷ 32 ∷ 65 ∷ 82 ∷ 82 ∷ 65 ∷ 89 ∷ 32 ∷ 79 ∷ 70 ∷ 32 ∷ 73 ∷ 78 ∷ 84 ∷ 69 ∷ 71 ∷ 69 ∷ 82 ∷ 41 ∷ 59 ∷ 32 ∷ 69 ∷ 78 ∷ 68 ∷ 32 ∷ 79 ∷ 59 ∷ 32 ∷ 66 ∷ 69 ∷ 71 ∷ 73 ∷ 78 ∷ 32 ∷ 79 ∷ 40 ∷ 34 ∷ 97 ∷ 34 ∷ 44 ∷ 32 ∷ 109 ∷ 91 ∷ 49 ∷ 93 ∷ 41 ∷ 32 ∷ 69 ∷ 78 ∷ 68 ∷ 32 ∷ 77 ∷ 46 ∷ []); symbols = (symbol (Ident) 0 6 ∷ symbol (Ident) 7 8 ∷ symbol (Ident) 8 9 ∷ symbol (Ident) 10 13 ∷ symbol (Ident) 14 15 ∷ symbol (Ident) 15 16 ∷ symbol (Ident) 17 22 ∷ symbol (Int (pos 2)) 23 24 ∷ symbol (Ident) 24 25 ∷ symbol (Int (pos 3)) 26 27 ∷ symbol (Ident) 28 30 ∷ symbol (Ident) 31 38 ∷ symbol (Ident) 38 39 ∷ symbol (Ident) 40 49 ∷ symbol (Ident) 50 51 ∷ symbol (Ident) 51 52 ∷ symbol (Ident) 52 53 ∷ symbol (Ident) 53 54 ∷ symbol (Ident) 55 60 ∷ symbol (Ident) 61 63 ∷ symbol (Ident) 64 68 ∷ symbol (Ident) 68 69 ∷ symbol (Ident) 70 73 ∷ symbol (Ident) 74 75 ∷ symbol (Ident) 75 76 ∷ symbol (Ident) 77 82 ∷ symbol (Ident) 83 85 ∷ symbol (Ident) 86 93 ∷ symbol (Ident) 93 94 ∷ symbol (Ident) 94 95 ∷ symbol (Ident) 96 99 ∷ symbol (Ident) 100 101 ∷ symbol (Ident) 101 102 ∷ symbol (Ident) 103 108 ∷ symbol (Ident) 109 110 ∷ symbol (Ident) 110 111 ∷ symbol (TheKind.Text) 111 114 ∷ symbol (Ident) 114 115 ∷ symbol (Ident) 116 117 ∷ symbol (Ident) 117 118 ∷ symbol (Int (pos 1)) 118 119 ∷ symbol (Ident) 119 120 ∷ symbol (Ident) 120 121 ∷ symbol (Ident) 122 125 ∷ symbol (Ident) 126 127 ∷ symbol (Ident) 127 128 ∷ []) }; tree = record { module_word = 0; name = 1; semicolon = 0; imports = None; decls = (S.decls None None (Some (record { var_word = 0; each = (record { names = (record { first = (record { name = 4; star = None }); more = [] }); colon = 0; of = (S.Array 6 (S.only (S.simple None (S.term (S.Int 7) S.no_factor) S.no_term)) (S.next_expression 0 (S.only (S.simple None (S.term (S.Int 9) S.no_factor) S.no_term)) S.no_expression) 0 (S.Named (record { name = 11; member = None }))); semicolon = 0 } ∷ []) })) (S.procedure 0 (record { name = 14; star = None }) (Some (record { left_paren = 0; sections = Some (record { first = (record { var_word = None; first = 16; more = []; colon = 0; open_array = Some (record { array_word = 0; of_word = 0 }); of = (record { name = 20; member = None }) }); more = (record { semicolon = 0; section = (record { var_word = Some 0; first = 23; more = []; colon = 0; open_array = Some (record { array_word = 0; of_word = 0 }); of = (record { name = 27; member = None }) }) } ∷ []) }); right_paren = 0; result = None })) 0 (S.decls None None None S.no_procedure) None None 30 31 0 S.no_procedure)); body = (Some (record { begin_word = 0; stats = (S.stats (S.AssignOrCall (record { name = 34; selectors = (S.selected (S.Parens 0 (S.expressions (S.only (S.simple None (S.term (S.Text 36) S.no_factor) S.no_term)) (S.next_expression 0 (S.only (S.simple None (S.term (S.Designated 38 (S.selected (S.Index 0 (S.expressions (S.only (S.simple None (S.term (S.Int 40) S.no_factor) S.no_term)) S.no_expression) 0) S.no_selector)) S.no_factor) S.no_term)) S.no_expression)) 0) S.no_selector) }) None) S.no_stat) })); end_word = 0; end_name = 44; period = 0 } }

pub legal_39 : checked (legal_39_0 ∷ []) ≡ Legal (record { records = []; pointers = []; modules = (record { name = (77 ∷ []); objects = (record { name = (109 ∷ []); exported = false; entity = I.OfVariable 0 } ∷ record { name = (79 ∷ []); exported = false; entity = I.OfProcedure 0 } ∷ []); variables = ((H.Array 2 (H.Array 3 H.Integer)) ∷ []); body = 1 } ∷ []); procedures = (record { module_number = 0; line = 1; is_body = false; formals = (record { mode = TheMode.Open; variable = false; shape = (H.Open H.Char) } ∷ record { mode = TheMode.Open; variable = true; shape = (H.Open H.Integer) } ∷ []); result = H.Nothing; locals = []; texts = []; body = I.no_statement; answer = None } ∷ record { module_number = 0; line = 1; is_body = true; formals = []; result = H.Nothing; locals = []; texts = ((97 ∷ []) ∷ []); body = (I.next_statement (I.Invoke (I.Direct 0 (I.next_argument (I.ByOpen (I.of_type (I.Text (97 ∷ [])) (H.Text 1))) (I.next_argument (I.ByOpen (I.of_type (I.Index (I.Global 0 0) (Some 2) (H.Array 3 H.Integer) (I.Literal 1)) (H.Array 3 H.Integer))) I.no_argument)))) I.no_statement); answer = None } ∷ []); imports_in = false })
legal_39 = refl

-- MODULE M; VAR a: ARRAY 3 OF INTEGER; PROCEDURE O(x: ARRAY OF CHAR; VAR z: ARRAY OF INTEGER); END O; BEGIN O('''', a) END M.
abbrev legal_40_0 : Parsed
legal_40_0 = record { source = record { bytes = (77 ∷ 79 ∷ 68 ∷ 85 ∷ 76 ∷ 69 ∷ 32 ∷ 77 ∷ 59 ∷ 32 ∷ 86 ∷ 65 ∷ 82 ∷ 32 ∷ 97 ∷ 58 ∷ 32 ∷ 65 ∷ 82 ∷ 82 ∷ 65 ∷ 89 ∷ 32 ∷ 51 ∷ 32 ∷ 79 ∷ 70 ∷ 32 ∷ 73 ∷ 78 ∷ 84 ∷ 69 ∷ 71 ∷ 69 ∷ 82 ∷ 59 ∷ 32 ∷ 80 ∷ 82 ∷ 79 ∷ 67 ∷ 69 ∷ 68 ∷ 85 ∷ 82 ∷ 69 ∷ 32 ∷ 79 ∷ 40 ∷ 120 ∷ 58 ∷ 32 ∷ 65 ∷ 82 ∷ 82 ∷ 65 ∷ 89 ∷ 32 ∷ 79 ∷ 70 ∷ 32 ∷ 67 ∷ 72 ∷ 65 ∷ 82 ∷ 59 ∷ 32 ∷ 86 ∷ 65 ∷ 82 ∷ 32 ∷ 122 ∷ 58 ∷ 32 ∷ 65 ∷ 82 ∷ 82 ∷ 65 ∷ 89 ∷ 32 ∷ 79 ∷ 70 ∷ 32 ∷ 73 ∷ 78 ∷ 84 ∷ 69 ∷ 71 ∷ 69 ∷ 82 ∷ 41 ∷ 59 ∷ 32 ∷ 69 ∷ 78 ∷ 68 ∷ 32 ∷ 79 ∷ 59 ∷ 32 ∷ 66 ∷ 69 ∷ 71 ∷ 73 ∷ 78 ∷ 32 ∷ 79 ∷ 40 ∷ 34 ∷ 34 ∷ 44 ∷ 32 ∷ 97 ∷ 41 ∷ 32 ∷ 69 ∷ 78 ∷ 68 ∷ 32 ∷ 77 ∷ 46 ∷ []); symbols = (symbol (Ident) 0 6 ∷ symbol (Ident) 7 8 ∷ symbol (Ident) 8 9 ∷ symbol (Ident) 10 13 ∷ symbol (Ident) 14 15 ∷ symbol (Ident) 15 16 ∷ symbol (Ident) 17 22 ∷ symbol (Int (pos 3)) 23 24 ∷ symbol (Ident) 25 27 ∷ symbol (Ident) 28 35 ∷ symbol (Ident) 35 36 ∷ symbol (Ident) 37 46 ∷ symbol (Ident) 47 48 ∷ symbol (Ident) 48 49 ∷ symbol (Ident) 49 50 ∷ symbol (Ident) 50 51 ∷ symbol (Ident) 52 57 ∷ symbol (Ident) 58 60 ∷ symbol (Ident) 61 65 ∷ symbol (Ident) 65 66 ∷ symbol (Ident) 67 70 ∷ symbol (Ident) 71 72 ∷ symbol (Ident) 72 73 ∷ symbol (Ident) 74 79 ∷ symbol (Ident) 80 82 ∷ symbol (Ident) 83 90 ∷ symbol (Ident) 90 91 ∷ symbol (Ident) 91 92 ∷ symbol (Ident) 93 96 ∷ symbol (Ident) 97 98 ∷ symbol (Ident) 98 99 ∷ symbol (Ident) 100 105 ∷ symbol (Ident) 106 107 ∷ symbol (Ident) 107 108 ∷ symbol (TheKind.Text) 108 110 ∷ symbol (Ident) 110 111 ∷ symbol (Ident) 112 113 ∷ symbol (Ident) 113 114 ∷ symbol (Ident) 115 118 ∷ symbol (Ident) 119 120 ∷ symbol (Ident) 120 121 ∷ []) }; tree = record { module_word = 0; name = 1; semicolon = 0; imports = None; decls = (S.decls None None (Some (record { var_word = 0; each = (record { names = (record { first = (record { name = 4; star = None }); more = [] }); colon = 0; of = (S.Array 6 (S.only (S.simple None (S.term (S.Int 7) S.no_factor) S.no_term)) S.no_expression 0 (S.Named (record { name = 9; member = None }))); semicolon = 0 } ∷ []) })) (S.procedure 0 (record { name = 12; star = None }) (Some (record { left_paren = 0; sections = Some (record { first = (record { var_word = None; first = 14; more = []; colon = 0; open_array = Some (record { array_word = 0; of_word = 0 }); of = (record { name = 18; member = None }) }); more = (record { semicolon = 0; section = (record { var_word = Some 0; first = 21; more = []; colon = 0; open_array = Some (record { array_word = 0; of_word = 0 }); of = (record { name = 25; member = None }) }) } ∷ []) }); right_paren = 0; result = None })) 0 (S.decls None None None S.no_procedure) None None 28 29 0 S.no_procedure)); body = (Some (record { begin_word = 0; stats = (S.stats (S.AssignOrCall (record { name = 32; selectors = (S.selected (S.Parens 0 (S.expressions (S.only (S.simple None (S.term (S.Text 34) S.no_factor) S.no_term)) (S.next_expression 0 (S.only (S.simple None (S.term (S.Designated 36 S.no_selector) S.no_factor) S.no_term)) S.no_expression)) 0) S.no_selector) }) None) S.no_stat) })); end_word = 0; end_name = 39; period = 0 } }

pub legal_40 : checked (legal_40_0 ∷ []) ≡ Legal (record { records = []; pointers = []; modules = (record { name = (77 ∷ []); objects = (record { name = (97 ∷ []); exported = false; entity = I.OfVariable 0 } ∷ record { name = (79 ∷ []); exported = false; entity = I.OfProcedure 0 } ∷ []); variables = ((H.Array 3 H.Integer) ∷ []); body = 1 } ∷ []); procedures = (record { module_number = 0; line = 1; is_body = false; formals = (record { mode = TheMode.Open; variable = false; shape = (H.Open H.Char) } ∷ record { mode = TheMode.Open; variable = true; shape = (H.Open H.Integer) } ∷ []); result = H.Nothing; locals = []; texts = []; body = I.no_statement; answer = None } ∷ record { module_number = 0; line = 1; is_body = true; formals = []; result = H.Nothing; locals = []; texts = ([] ∷ []); body = (I.next_statement (I.Invoke (I.Direct 0 (I.next_argument (I.ByOpen (I.of_type (I.Text []) (H.Text 0))) (I.next_argument (I.ByOpen (I.of_type (I.Global 0 0) (H.Array 3 H.Integer))) I.no_argument)))) I.no_statement); answer = None } ∷ []); imports_in = false })
legal_40 = refl

-- MODULE M; VAR a: ARRAY 3 OF INTEGER; u: ARRAY 4 OF CHAR; PROCEDURE O(x: ARRAY OF CHAR; VAR z: ARRAY OF INTEGER); END O; BEGIN O(u, a) END M.
abbrev legal_41_0 : Parsed
legal_41_0 = record { source = record { bytes = (77 ∷ 79 ∷ 68 ∷ 85 ∷ 76 ∷ 69 ∷ 32 ∷ 77 ∷ 59 ∷ 32 ∷ 86 ∷ 65 ∷ 82 ∷ 32 ∷ 97 ∷ 58 ∷ 32 ∷ 65 ∷ 82 ∷ 82 ∷ 65 ∷ 89 ∷ 32 ∷ 51 ∷ 32 ∷ 79 ∷ 70 ∷ 32 ∷ 73 ∷ 78 ∷ 84 ∷ 69 ∷ 71 ∷ 69 ∷ 82 ∷ 59 ∷ 32 ∷ 117 ∷ 58 ∷ 32 ∷ 65 ∷ 82 ∷ 82 ∷ 65 ∷ 89 ∷ 32 ∷ 52 ∷ 32 ∷ 79 ∷ 70 ∷ 32 ∷ 67 ∷ 72 ∷ 65 ∷ 82 ∷ 59 ∷ 32 ∷ 80 ∷ 82 ∷ 79 ∷ 67 ∷ 69 ∷ 68 ∷ 85 ∷ 82 ∷ 69 ∷ 32 ∷ 79 ∷ 40 ∷ 120 ∷ 58 ∷ 32 ∷ 65 ∷ 82 ∷ 82 ∷ 65 ∷ 89 ∷ 32 ∷ 79 ∷ 70 ∷ 32 ∷ 67 ∷ 72 ∷ 65 ∷ 82 ∷ 59 ∷ 32 ∷ 86 ∷ 65 ∷ 82 ∷ 32 ∷ 122 ∷ 58 ∷ 32 ∷ 65 ∷ 82 ∷ 82 ∷ 65 ∷ 89 ∷ 32 ∷ 79 ∷ 70 ∷ 32 ∷ 73 ∷ 78 ∷ 84 ∷ 69 ∷ 71 ∷ 69 ∷ 82 ∷ 41 ∷ 59 ∷ 32 ∷ 69 ∷ 78 ∷ 68 ∷ 32 ∷ 79 ∷ 59 ∷ 32 ∷ 66 ∷ 69 ∷ 71 ∷ 73 ∷ 78 ∷ 32 ∷ 79 ∷ 40 ∷ 117 ∷ 44 ∷ 32 ∷ 97 ∷ 41 ∷ 32 ∷ 69 ∷ 78 ∷ 68 ∷ 32 ∷ 77 ∷ 46 ∷ []); symbols = (symbol (Ident) 0 6 ∷ symbol (Ident) 7 8 ∷ symbol (Ident) 8 9 ∷ symbol (Ident) 10 13 ∷ symbol (Ident) 14 15 ∷ symbol (Ident) 15 16 ∷ symbol (Ident) 17 22 ∷ symbol (Int (pos 3)) 23 24 ∷ symbol (Ident) 25 27 ∷ symbol (Ident) 28 35 ∷ symbol (Ident) 35 36 ∷ symbol (Ident) 37 38 ∷ symbol (Ident) 38 39 ∷ symbol (Ident) 40 45 ∷ symbol (Int (pos 4)) 46 47 ∷ symbol (Ident) 48 50 ∷ symbol (Ident) 51 55 ∷ symbol (Ident) 55 56 ∷ symbol (Ident) 57 66 ∷ symbol (Ident) 67 68 ∷ symbol (Ident) 68 69 ∷ symbol (Ident) 69 70 ∷ symbol (Ident) 70 71 ∷ symbol (Ident) 72 77 ∷ symbol (Ident) 78 80 ∷ symbol (Ident) 81 85 ∷ symbol (Ident) 85 86 ∷ symbol (Ident) 87 90 ∷ symbol (Ident) 91 92 ∷ symbol (Ident) 92 93 ∷ symbol (Ident) 94 99 ∷ symbol (Ident) 100 102 ∷ symbol (Ident) 103 110 ∷ symbol (Ident) 110 111 ∷ symbol (Ident) 111 112 ∷ symbol (Ident) 113 116 ∷ symbol (Ident) 117 118 ∷ symbol (Ident) 118 119 ∷ symbol (Ident) 120 125 ∷ symbol (Ident) 126 127 ∷ symbol (Ident) 127 128 ∷ symbol (Ident) 128 129 ∷ symbol (Ident) 129 130 ∷ symbol (Ident) 131 132 ∷ symbol (Ident) 132 133 ∷ symbol (Ident) 134 137 ∷ symbol (Ident) 138 139 ∷ symbol (Ident) 139 140 ∷ []) }; tree = record { module_word = 0; name = 1; semicolon = 0; imports = None; decls = (S.decls None None (Some (record { var_word = 0; each = (record { names = (record { first = (record { name = 4; star = None }); more = [] }); colon = 0; of = (S.Array 6 (S.only (S.simple None (S.term (S.Int 7) S.no_factor) S.no_term)) S.no_expression 0 (S.Named (record { name = 9; member = None }))); semicolon = 0 } ∷ record { names = (record { first = (record { name = 11; star = None }); more = [] }); colon = 0; of = (S.Array 13 (S.only (S.simple None (S.term (S.Int 14) S.no_factor) S.no_term)) S.no_expression 0 (S.Named (record { name = 16; member = None }))); semicolon = 0 } ∷ []) })) (S.procedure 0 (record { name = 19; star = None }) (Some (record { left_paren = 0; sections = Some (record { first = (record { var_word = None; first = 21; more = []; colon = 0; open_array = Some (record { array_word = 0; of_word = 0 }); of = (record { name = 25; member = None }) }); more = (record { semicolon = 0; section = (record { var_word = Some 0; first = 28; more = []; colon = 0; open_array = Some (record { array_word = 0; of_word = 0 }); of = (record { name = 32; member = None }) }) } ∷ []) }); right_paren = 0; result = None })) 0 (S.decls None None None S.no_procedure) None None 35 36 0 S.no_procedure)); body = (Some (record { begin_word = 0; stats = (S.stats (S.AssignOrCall (record { name = 39; selectors = (S.selected (S.Parens 0 (S.expressions (S.only (S.simple None (S.term (S.Designated 41 S.no_selector) S.no_factor) S.no_term)) (S.next_expression 0 (S.only (S.simple None (S.term (S.Designated 43 S.no_selector) S.no_factor) S.no_term)) S.no_expression)) 0) S.no_selector) }) None) S.no_stat) })); end_word = 0; end_name = 46; period = 0 } }

pub legal_41 : checked (legal_41_0 ∷ []) ≡ Legal (record { records = []; pointers = []; modules = (record { name = (77 ∷ []); objects = (record { name = (97 ∷ []); exported = false; entity = I.OfVariable 0 } ∷ record { name = (117 ∷ []); exported = false; entity = I.OfVariable 1 } ∷ record { name = (79 ∷ []); exported = false; entity = I.OfProcedure 0 } ∷ []); variables = ((H.Array 3 H.Integer) ∷ (H.Array 4 H.Char) ∷ []); body = 1 } ∷ []); procedures = (record { module_number = 0; line = 1; is_body = false; formals = (record { mode = TheMode.Open; variable = false; shape = (H.Open H.Char) } ∷ record { mode = TheMode.Open; variable = true; shape = (H.Open H.Integer) } ∷ []); result = H.Nothing; locals = []; texts = []; body = I.no_statement; answer = None } ∷ record { module_number = 0; line = 1; is_body = true; formals = []; result = H.Nothing; locals = []; texts = []; body = (I.next_statement (I.Invoke (I.Direct 0 (I.next_argument (I.ByOpen (I.of_type (I.Global 0 1) (H.Array 4 H.Char))) (I.next_argument (I.ByOpen (I.of_type (I.Global 0 0) (H.Array 3 H.Integer))) I.no_argument)))) I.no_statement); answer = None } ∷ []); imports_in = false })
legal_41 = refl

-- MODULE M; TYPE R = RECORD x: INTEGER; y*: CHAR END; E = RECORD (R) z: SET END; VAR e: E; a: ARRAY 3 OF INTEGER; PROCEDURE W(r: R; a: ARRAY OF INTEGER); END W; BEGIN W(e, a) END M.
abbrev legal_42_0 : Parsed
legal_42_0 = record { source = record { bytes = (77 ∷ 79 ∷ 68 ∷ 85 ∷ 76 ∷ 69 ∷ 32 ∷ 77 ∷ 59 ∷ 32 ∷ 84 ∷ 89 ∷ 80 ∷ 69 ∷ 32 ∷ 82 ∷ 32 ∷ 61 ∷ 32 ∷ 82 ∷ 69 ∷ 67 ∷ 79 ∷ 82 ∷ 68 ∷ 32 ∷ 120 ∷ 58 ∷ 32 ∷ 73 ∷ 78 ∷ 84 ∷ 69 ∷ 71 ∷ 69 ∷ 82 ∷ 59 ∷ 32 ∷ 121 ∷ 42 ∷ 58 ∷ 32 ∷ 67 ∷ 72 ∷ 65 ∷ 82 ∷ 32 ∷ 69 ∷ 78 ∷ 68 ∷ 59 ∷ 32 ∷ 69 ∷ 32 ∷ 61 ∷ 32 ∷ 82 ∷ 69 ∷ 67 ∷ 79 ∷ 82 ∷ 68 ∷ 32 ∷ 40 ∷ 82 ∷ 41 ∷ 32 ∷ 122 ∷ 58 ∷ 32 ∷ 83 ∷ 69 ∷ 84 ∷ 32 ∷ 69 ∷ 78 ∷ 68 ∷ 59 ∷ 32 ∷ 86 ∷ 65 ∷ 82 ∷ 32 ∷ 101 ∷ 58 ∷ 32 ∷ 69 ∷ 59 ∷ 32 ∷ 97 ∷ 58 ∷ 32 ∷ 65 ∷ 82 ∷ 82 ∷ 65 ∷ 89 ∷ 32 ∷ 51 ∷ 32 ∷ 79 ∷ 70 ∷ 32 ∷ 73 ∷ 78 ∷ 84 ∷ 69 ∷ 71 ∷ 69 ∷ 82 ∷ 59 ∷ 32 ∷ 80 ∷ 82 ∷ 79 ∷ 67 ∷ 69 ∷ 68 ∷ 85 ∷ 82 ∷ 69 ∷ 32 ∷ 87 ∷ 40 ∷ 114 ∷ 58 ∷ 32 ∷ 82 ∷ 59 ∷ 32 ∷ 97 ∷ 58 ∷ 32 ∷ 65 ∷ 82 ∷ 82 ∷ 65 ∷ 89 ∷ 32 ∷ 79 ∷ 70 ∷ 32 ∷ 73 ∷ 78 ∷ 84 ∷ 69 ∷ 71 ∷ 69 ∷ 82 ∷ 41 ∷ 59 ∷ 32 ∷ 69 ∷ 78 ∷ 68 ∷ 32 ∷ 87 ∷ 59 ∷ 32 ∷ 66 ∷ 69 ∷ 71 ∷ 73 ∷ 78 ∷ 32 ∷ 87 ∷ 40 ∷ 101 ∷ 44 ∷ 32 ∷ 97 ∷ 41 ∷ 32 ∷ 69 ∷ 78 ∷ 68 ∷ 32 ∷ 77 ∷ 46 ∷ []); symbols = (symbol (Ident) 0 6 ∷ symbol (Ident) 7 8 ∷ symbol (Ident) 8 9 ∷ symbol (Ident) 10 14 ∷ symbol (Ident) 15 16 ∷ symbol (Ident) 17 18 ∷ symbol (Ident) 19 25 ∷ symbol (Ident) 26 27 ∷ symbol (Ident) 27 28 ∷ symbol (Ident) 29 36 ∷ symbol (Ident) 36 37 ∷ symbol (Ident) 38 39 ∷ symbol (Ident) 39 40 ∷ symbol (Ident) 40 41 ∷ symbol (Ident) 42 46 ∷ symbol (Ident) 47 50 ∷ symbol (Ident) 50 51 ∷ symbol (Ident) 52 53 ∷ symbol (Ident) 54 55 ∷ symbol (Ident) 56 62 ∷ symbol (Ident) 63 64 ∷ symbol (Ident) 64 65 ∷ symbol (Ident) 65 66 ∷ symbol (Ident) 67 68 ∷ symbol (Ident) 68 69 ∷ symbol (Ident) 70 73 ∷ symbol (Ident) 74 77 ∷ symbol (Ident) 77 78 ∷ symbol (Ident) 79 82 ∷ symbol (Ident) 83 84 ∷ symbol (Ident) 84 85 ∷ symbol (Ident) 86 87 ∷ symbol (Ident) 87 88 ∷ symbol (Ident) 89 90 ∷ symbol (Ident) 90 91 ∷ symbol (Ident) 92 97 ∷ symbol (Int (pos 3)) 98 99 ∷ symbol (Ident) 100 102 ∷ symbol (Ident) 103 110 ∷ symbol (Ident) 110 111 ∷ symbol (Ident) 112 121 ∷ symbol (Ident) 122 123 ∷ symbol (Ident) 123 124 ∷ symbol (Ident) 124 125 ∷ symbol (Ident) 125 126 ∷ symbol (Ident) 127 128 ∷ symbol (Ident) 128 129 ∷ symbol (Ident) 130 131 ∷ symbol (Ident) 131 132 ∷ symbol (Ident) 133 138 ∷ symbol (Ident) 139 141 ∷ symbol (Ident) 142 149 ∷ symbol (Ident) 149 150 ∷ symbol (Ident) 150 151 ∷ symbol (Ident) 152 155 ∷ symbol (Ident) 156 157 ∷ symbol (Ident) 157 158 ∷ symbol (Ident) 159 164 ∷ symbol (Ident) 165 166 ∷ symbol (Ident) 166 167 ∷ symbol (Ident) 167 168 ∷ symbol (Ident) 168 169 ∷ symbol (Ident) 170 171 ∷ symbol (Ident) 171 172 ∷ symbol (Ident) 173 176 ∷ symbol (Ident) 177 178 ∷ symbol (Ident) 178 179 ∷ []) }; tree = record { module_word = 0; name = 1; semicolon = 0; imports = None; decls = (S.decls None (Some (record { type_word = 0; each = (record { name = (record { name = 4; star = None }); equal = 0; is = (S.Record 6 None (S.fields (record { first = (record { name = 7; star = None }); more = [] }) 0 (S.Named (record { name = 9; member = None }))) (S.next_fields 0 (S.fields (record { first = (record { name = 11; star = Some 0 }); more = [] }) 0 (S.Named (record { name = 14; member = None }))) S.no_more_fields) 0); semicolon = 0 } ∷ record { name = (record { name = 17; star = None }); equal = 0; is = (S.Record 19 (Some (record { left_paren = 0; name = (record { name = 21; member = None }); right_paren = 0 })) (S.fields (record { first = (record { name = 23; star = None }); more = [] }) 0 (S.Named (record { name = 25; member = None }))) S.no_more_fields 0); semicolon = 0 } ∷ []) })) (Some (record { var_word = 0; each = (record { names = (record { first = (record { name = 29; star = None }); more = [] }); colon = 0; of = (S.Named (record { name = 31; member = None })); semicolon = 0 } ∷ record { names = (record { first = (record { name = 33; star = None }); more = [] }); colon = 0; of = (S.Array 35 (S.only (S.simple None (S.term (S.Int 36) S.no_factor) S.no_term)) S.no_expression 0 (S.Named (record { name = 38; member = None }))); semicolon = 0 } ∷ []) })) (S.procedure 0 (record { name = 41; star = None }) (Some (record { left_paren = 0; sections = Some (record { first = (record { var_word = None; first = 43; more = []; colon = 0; open_array = None; of = (record { name = 45; member = None }) }); more = (record { semicolon = 0; section = (record { var_word = None; first = 47; more = []; colon = 0; open_array = Some (record { array_word = 0; of_word = 0 }); of = (record { name = 51; member = None }) }) } ∷ []) }); right_paren = 0; result = None })) 0 (S.decls None None None S.no_procedure) None None 54 55 0 S.no_procedure)); body = (Some (record { begin_word = 0; stats = (S.stats (S.AssignOrCall (record { name = 58; selectors = (S.selected (S.Parens 0 (S.expressions (S.only (S.simple None (S.term (S.Designated 60 S.no_selector) S.no_factor) S.no_term)) (S.next_expression 0 (S.only (S.simple None (S.term (S.Designated 62 S.no_selector) S.no_factor) S.no_term)) S.no_expression)) 0) S.no_selector) }) None) S.no_stat) })); end_word = 0; end_name = 65; period = 0 } }

pub legal_42 : checked (legal_42_0 ∷ []) ≡ Legal (record { records = (record { module_number = 0; base = None; level = 0; fields = (record { name = (120 ∷ []); exported = false; shape = H.Integer } ∷ record { name = (121 ∷ []); exported = true; shape = H.Char } ∷ []); cells = 2; extent = record { bytes = 16; wide = true } } ∷ record { module_number = 0; base = (Some 0); level = 1; fields = (record { name = (122 ∷ []); exported = false; shape = H.Set } ∷ []); cells = 3; extent = record { bytes = 24; wide = true } } ∷ []); pointers = []; modules = (record { name = (77 ∷ []); objects = (record { name = (82 ∷ []); exported = false; entity = I.OfType (H.Record 0) } ∷ record { name = (69 ∷ []); exported = false; entity = I.OfType (H.Record 1) } ∷ record { name = (101 ∷ []); exported = false; entity = I.OfVariable 0 } ∷ record { name = (97 ∷ []); exported = false; entity = I.OfVariable 1 } ∷ record { name = (87 ∷ []); exported = false; entity = I.OfProcedure 0 } ∷ []); variables = ((H.Record 1) ∷ (H.Array 3 H.Integer) ∷ []); body = 1 } ∷ []); procedures = (record { module_number = 0; line = 1; is_body = false; formals = (record { mode = TheMode.Place; variable = false; shape = (H.Record 0) } ∷ record { mode = TheMode.Open; variable = false; shape = (H.Open H.Integer) } ∷ []); result = H.Nothing; locals = []; texts = []; body = I.no_statement; answer = None } ∷ record { module_number = 0; line = 1; is_body = true; formals = []; result = H.Nothing; locals = []; texts = []; body = (I.next_statement (I.Invoke (I.Direct 0 (I.next_argument (I.ByPlace (I.of_type (I.Global 0 0) (H.Record 1))) (I.next_argument (I.ByOpen (I.of_type (I.Global 0 1) (H.Array 3 H.Integer))) I.no_argument)))) I.no_statement); answer = None } ∷ []); imports_in = false })
legal_42 = refl

-- MODULE M; TYPE R = RECORD x: INTEGER; y*: CHAR END; P = POINTER TO R; VAR p: P; m: ARRAY 2, 3 OF INTEGER; PROCEDURE W(r: R; a: ARRAY OF INTEGER); END W; BEGIN W(p^, m[0]) END M.
abbrev legal_43_0 : Parsed
legal_43_0 = record { source = record { bytes = (77 ∷ 79 ∷ 68 ∷ 85 ∷ 76 ∷ 69 ∷ 32 ∷ 77 ∷ 59 ∷ 32 ∷ 84 ∷ 89 ∷ 80 ∷ 69 ∷ 32 ∷ 82 ∷ 32 ∷ 61 ∷ 32 ∷ 82 ∷ 69 ∷ 67 ∷ 79 ∷ 82 ∷ 68 ∷ 32 ∷ 120 ∷ 58 ∷ 32 ∷ 73 ∷ 78 ∷ 84 ∷ 69 ∷ 71 ∷ 69 ∷ 82 ∷ 59 ∷ 32 ∷ 121 ∷ 42 ∷ 58 ∷ 32 ∷ 67 ∷ 72 ∷ 65 ∷ 82 ∷ 32 ∷ 69 ∷ 78 ∷ 68 ∷ 59 ∷ 32 ∷ 80 ∷ 32 ∷ 61 ∷ 32 ∷ 80 ∷ 79 ∷ 73 ∷ 78 ∷ 84 ∷ 69 ∷ 82 ∷ 32 ∷ 84 ∷ 79 ∷ 32 ∷ 82 ∷ 59 ∷ 32 ∷ 86 ∷ 65 ∷ 82 ∷ 32 ∷ 112 ∷ 58 ∷ 32 ∷ 80 ∷ 59 ∷ 32 ∷ 109 ∷ 58 ∷ 32 ∷ 65 ∷ 82 ∷ 82 ∷ 65 ∷ 89 ∷ 32 ∷ 50 ∷ 44 ∷ 32 ∷ 51 ∷ 32 ∷ 79 ∷ 70 ∷ 32 ∷ 73 ∷ 78 ∷ 84 ∷ 69 ∷ 71 ∷ 69 ∷ 82 ∷ 59 ∷ 32 ∷ 80 ∷ 82 ∷ 79 ∷ 67 ∷ 69 ∷ 68 ∷ 85 ∷ 82 ∷ 69 ∷ 32 ∷ 87 ∷ 40 ∷ 114 ∷ 58 ∷ 32 ∷ 82 ∷ 59 ∷ 32 ∷ 97 ∷ 58 ∷ 32 ∷ 65 ∷ 82 ∷ 82 ∷ 65 ∷ 89 ∷ 32 ∷ 79 ∷ 70 ∷ 32 ∷ 73 ∷ 78 ∷ 84 ∷ 69 ∷ 71 ∷ 69 ∷ 82 ∷ 41 ∷ 59 ∷ 32 ∷ 69 ∷ 78 ∷ 68 ∷ 32 ∷ 87 ∷ 59 ∷ 32 ∷ 66 ∷ 69 ∷ 71 ∷ 73 ∷ 78 ∷ 32 ∷ 87 ∷ 40 ∷ 112 ∷ 94 ∷ 44 ∷ 32 ∷ 109 ∷ 91 ∷ 48 ∷ 93 ∷ 41 ∷ 32 ∷ 69 ∷ 78 ∷ 68 ∷ 32 ∷ 77 ∷ 46 ∷ []); symbols = (symbol (Ident) 0 6 ∷ symbol (Ident) 7 8 ∷ symbol (Ident) 8 9 ∷ symbol (Ident) 10 14 ∷ symbol (Ident) 15 16 ∷ symbol (Ident) 17 18 ∷ symbol (Ident) 19 25 ∷ symbol (Ident) 26 27 ∷ symbol (Ident) 27 28 ∷ symbol (Ident) 29 36 ∷ symbol (Ident) 36 37 ∷ symbol (Ident) 38 39 ∷ symbol (Ident) 39 40 ∷ symbol (Ident) 40 41 ∷ symbol (Ident) 42 46 ∷ symbol (Ident) 47 50 ∷ symbol (Ident) 50 51 ∷ symbol (Ident) 52 53 ∷ symbol (Ident) 54 55 ∷ symbol (Ident) 56 63 ∷ symbol (Ident) 64 66 ∷ symbol (Ident) 67 68 ∷ symbol (Ident) 68 69 ∷ symbol (Ident) 70 73 ∷ symbol (Ident) 74 75 ∷ symbol (Ident) 75 76 ∷ symbol (Ident) 77 78 ∷ symbol (Ident) 78 79 ∷ symbol (Ident) 80 81 ∷ symbol (Ident) 81 82 ∷ symbol (Ident) 83 88 ∷ symbol (Int (pos 2)) 89 90 ∷ symbol (Ident) 90 91 ∷ symbol (Int (pos 3)) 92 93 ∷ symbol (Ident) 94 96 ∷ symbol (Ident) 97 104 ∷ symbol (Ident) 104 105 ∷ symbol (Ident) 106 115 ∷ symbol (Ident) 116 117 ∷ symbol (Ident) 117 118 ∷ symbol (Ident) 118 119 ∷ symbol (Ident) 119 120 ∷ symbol (Ident) 121 122 ∷ symbol (Ident) 122 123 ∷ symbol (Ident) 124 125 ∷ symbol (Ident) 125 126 ∷ symbol (Ident) 127 132 ∷ symbol (Ident) 133 135 ∷ symbol (Ident) 136 143 ∷ symbol (Ident) 143 144 ∷ symbol (Ident) 144 145 ∷ symbol (Ident) 146 149 ∷ symbol (Ident) 150 151 ∷ symbol (Ident) 151 152 ∷ symbol (Ident) 153 158 ∷ symbol (Ident) 159 160 ∷ symbol (Ident) 160 161 ∷ symbol (Ident) 161 162 ∷ symbol (Ident) 162 163 ∷ symbol (Ident) 163 164 ∷ symbol (Ident) 165 166 ∷ symbol (Ident) 166 167 ∷ symbol (Int (pos 0)) 167 168 ∷ symbol (Ident) 168 169 ∷ symbol (Ident) 169 170 ∷ symbol (Ident) 171 174 ∷ symbol (Ident) 175 176 ∷ symbol (Ident) 176 177 ∷ []) }; tree = record { module_word = 0; name = 1; semicolon = 0; imports = None; decls = (S.decls None (Some (record { type_word = 0; each = (record { name = (record { name = 4; star = None }); equal = 0; is = (S.Record 6 None (S.fields (record { first = (record { name = 7; star = None }); more = [] }) 0 (S.Named (record { name = 9; member = None }))) (S.next_fields 0 (S.fields (record { first = (record { name = 11; star = Some 0 }); more = [] }) 0 (S.Named (record { name = 14; member = None }))) S.no_more_fields) 0); semicolon = 0 } ∷ record { name = (record { name = 17; star = None }); equal = 0; is = (S.Pointer 19 0 (S.Named (record { name = 21; member = None }))); semicolon = 0 } ∷ []) })) (Some (record { var_word = 0; each = (record { names = (record { first = (record { name = 24; star = None }); more = [] }); colon = 0; of = (S.Named (record { name = 26; member = None })); semicolon = 0 } ∷ record { names = (record { first = (record { name = 28; star = None }); more = [] }); colon = 0; of = (S.Array 30 (S.only (S.simple None (S.term (S.Int 31) S.no_factor) S.no_term)) (S.next_expression 0 (S.only (S.simple None (S.term (S.Int 33) S.no_factor) S.no_term)) S.no_expression) 0 (S.Named (record { name = 35; member = None }))); semicolon = 0 } ∷ []) })) (S.procedure 0 (record { name = 38; star = None }) (Some (record { left_paren = 0; sections = Some (record { first = (record { var_word = None; first = 40; more = []; colon = 0; open_array = None; of = (record { name = 42; member = None }) }); more = (record { semicolon = 0; section = (record { var_word = None; first = 44; more = []; colon = 0; open_array = Some (record { array_word = 0; of_word = 0 }); of = (record { name = 48; member = None }) }) } ∷ []) }); right_paren = 0; result = None })) 0 (S.decls None None None S.no_procedure) None None 51 52 0 S.no_procedure)); body = (Some (record { begin_word = 0; stats = (S.stats (S.AssignOrCall (record { name = 55; selectors = (S.selected (S.Parens 0 (S.expressions (S.only (S.simple None (S.term (S.Designated 57 (S.selected (S.Arrow 0) S.no_selector)) S.no_factor) S.no_term)) (S.next_expression 0 (S.only (S.simple None (S.term (S.Designated 60 (S.selected (S.Index 0 (S.expressions (S.only (S.simple None (S.term (S.Int 62) S.no_factor) S.no_term)) S.no_expression) 0) S.no_selector)) S.no_factor) S.no_term)) S.no_expression)) 0) S.no_selector) }) None) S.no_stat) })); end_word = 0; end_name = 66; period = 0 } }

pub legal_43 : checked (legal_43_0 ∷ []) ≡ Legal (record { records = (record { module_number = 0; base = None; level = 0; fields = (record { name = (120 ∷ []); exported = false; shape = H.Integer } ∷ record { name = (121 ∷ []); exported = true; shape = H.Char } ∷ []); cells = 2; extent = record { bytes = 16; wide = true } } ∷ []); pointers = (Some 0 ∷ []); modules = (record { name = (77 ∷ []); objects = (record { name = (82 ∷ []); exported = false; entity = I.OfType (H.Record 0) } ∷ record { name = (80 ∷ []); exported = false; entity = I.OfType (H.Pointer 0) } ∷ record { name = (112 ∷ []); exported = false; entity = I.OfVariable 0 } ∷ record { name = (109 ∷ []); exported = false; entity = I.OfVariable 1 } ∷ record { name = (87 ∷ []); exported = false; entity = I.OfProcedure 0 } ∷ []); variables = ((H.Pointer 0) ∷ (H.Array 2 (H.Array 3 H.Integer)) ∷ []); body = 1 } ∷ []); procedures = (record { module_number = 0; line = 1; is_body = false; formals = (record { mode = TheMode.Place; variable = false; shape = (H.Record 0) } ∷ record { mode = TheMode.Open; variable = false; shape = (H.Open H.Integer) } ∷ []); result = H.Nothing; locals = []; texts = []; body = I.no_statement; answer = None } ∷ record { module_number = 0; line = 1; is_body = true; formals = []; result = H.Nothing; locals = []; texts = []; body = (I.next_statement (I.Invoke (I.Direct 0 (I.next_argument (I.ByPlace (I.of_type (I.Dereference (I.Load (I.of_type (I.Global 0 0) (H.Pointer 0)))) (H.Record 0))) (I.next_argument (I.ByOpen (I.of_type (I.Index (I.Global 0 1) (Some 2) (H.Array 3 H.Integer) (I.Literal 0)) (H.Array 3 H.Integer))) I.no_argument)))) I.no_statement); answer = None } ∷ []); imports_in = false })
legal_43 = refl

-- MODULE M; VAR i: INTEGER; t: ARRAY 8 OF CHAR; m: ARRAY 2, 3 OF INTEGER; BEGIN i := LEN(t) + LEN(m) + LEN(m[1]) END M.
abbrev legal_44_0 : Parsed
legal_44_0 = record { source = record { bytes = (77 ∷ 79 ∷ 68 ∷ 85 ∷ 76 ∷ 69 ∷ 32 ∷ 77 ∷ 59 ∷ 32 ∷ 86 ∷ 65 ∷ 82 ∷ 32 ∷ 105 ∷ 58 ∷ 32 ∷ 73 ∷ 78 ∷ 84 ∷ 69 ∷ 71 ∷ 69 ∷ 82 ∷ 59 ∷ 32 ∷ 116 ∷ 58 ∷ 32 ∷ 65 ∷ 82 ∷ 82 ∷ 65 ∷ 89 ∷ 32 ∷ 56 ∷ 32 ∷ 79 ∷ 70 ∷ 32 ∷ 67 ∷ 72 ∷ 65 ∷ 82 ∷ 59 ∷ 32 ∷ 109 ∷ 58 ∷ 32 ∷ 65 ∷ 82 ∷ 82 ∷ 65 ∷ 89 ∷ 32 ∷ 50 ∷ 44 ∷ 32 ∷ 51 ∷ 32 ∷ 79 ∷ 70 ∷ 32 ∷ 73 ∷ 78 ∷ 84 ∷ 69 ∷ 71 ∷ 69 ∷ 82 ∷ 59 ∷ 32 ∷ 66 ∷ 69 ∷ 71 ∷ 73 ∷ 78 ∷ 32 ∷ 105 ∷ 32 ∷ 58 ∷ 61 ∷ 32 ∷ 76 ∷ 69 ∷ 78 ∷ 40 ∷ 116 ∷ 41 ∷ 32 ∷ 43 ∷ 32 ∷ 76 ∷ 69 ∷ 78 ∷ 40 ∷ 109 ∷ 41 ∷ 32 ∷ 43 ∷ 32 ∷ 76 ∷ 69 ∷ 78 ∷ 40 ∷ 109 ∷ 91 ∷ 49 ∷ 93 ∷ 41 ∷ 32 ∷ 69 ∷ 78 ∷ 68 ∷ 32 ∷ 77 ∷ 46 ∷ []); symbols = (symbol (Ident) 0 6 ∷ symbol (Ident) 7 8 ∷ symbol (Ident) 8 9 ∷ symbol (Ident) 10 13 ∷ symbol (Ident) 14 15 ∷ symbol (Ident) 15 16 ∷ symbol (Ident) 17 24 ∷ symbol (Ident) 24 25 ∷ symbol (Ident) 26 27 ∷ symbol (Ident) 27 28 ∷ symbol (Ident) 29 34 ∷ symbol (Int (pos 8)) 35 36 ∷ symbol (Ident) 37 39 ∷ symbol (Ident) 40 44 ∷ symbol (Ident) 44 45 ∷ symbol (Ident) 46 47 ∷ symbol (Ident) 47 48 ∷ symbol (Ident) 49 54 ∷ symbol (Int (pos 2)) 55 56 ∷ symbol (Ident) 56 57 ∷ symbol (Int (pos 3)) 58 59 ∷ symbol (Ident) 60 62 ∷ symbol (Ident) 63 70 ∷ symbol (Ident) 70 71 ∷ symbol (Ident) 72 77 ∷ symbol (Ident) 78 79 ∷ symbol (Ident) 80 82 ∷ symbol (Ident) 83 86 ∷ symbol (Ident) 86 87 ∷ symbol (Ident) 87 88 ∷ symbol (Ident) 88 89 ∷ symbol (Ident) 90 91 ∷ symbol (Ident) 92 95 ∷ symbol (Ident) 95 96 ∷ symbol (Ident) 96 97 ∷ symbol (Ident) 97 98 ∷ symbol (Ident) 99 100 ∷ symbol (Ident) 101 104 ∷ symbol (Ident) 104 105 ∷ symbol (Ident) 105 106 ∷ symbol (Ident) 106 107 ∷ symbol (Int (pos 1)) 107 108 ∷ symbol (Ident) 108 109 ∷ symbol (Ident) 109 110 ∷ symbol (Ident) 111 114 ∷ symbol (Ident) 115 116 ∷ symbol (Ident) 116 117 ∷ []) }; tree = record { module_word = 0; name = 1; semicolon = 0; imports = None; decls = (S.decls None None (Some (record { var_word = 0; each = (record { names = (record { first = (record { name = 4; star = None }); more = [] }); colon = 0; of = (S.Named (record { name = 6; member = None })); semicolon = 0 } ∷ record { names = (record { first = (record { name = 8; star = None }); more = [] }); colon = 0; of = (S.Array 10 (S.only (S.simple None (S.term (S.Int 11) S.no_factor) S.no_term)) S.no_expression 0 (S.Named (record { name = 13; member = None }))); semicolon = 0 } ∷ record { names = (record { first = (record { name = 15; star = None }); more = [] }); colon = 0; of = (S.Array 17 (S.only (S.simple None (S.term (S.Int 18) S.no_factor) S.no_term)) (S.next_expression 0 (S.only (S.simple None (S.term (S.Int 20) S.no_factor) S.no_term)) S.no_expression) 0 (S.Named (record { name = 22; member = None }))); semicolon = 0 } ∷ []) })) S.no_procedure); body = (Some (record { begin_word = 0; stats = (S.stats (S.AssignOrCall (record { name = 25; selectors = S.no_selector }) (Some (record { becomes = 0; value = (S.only (S.simple None (S.term (S.Designated 27 (S.selected (S.Parens 0 (S.expressions (S.only (S.simple None (S.term (S.Designated 29 S.no_selector) S.no_factor) S.no_term)) S.no_expression) 0) S.no_selector)) S.no_factor) (S.added (TheAddOperator.Plus 31) (S.term (S.Designated 32 (S.selected (S.Parens 0 (S.expressions (S.only (S.simple None (S.term (S.Designated 34 S.no_selector) S.no_factor) S.no_term)) S.no_expression) 0) S.no_selector)) S.no_factor) (S.added (TheAddOperator.Plus 36) (S.term (S.Designated 37 (S.selected (S.Parens 0 (S.expressions (S.only (S.simple None (S.term (S.Designated 39 (S.selected (S.Index 0 (S.expressions (S.only (S.simple None (S.term (S.Int 41) S.no_factor) S.no_term)) S.no_expression) 0) S.no_selector)) S.no_factor) S.no_term)) S.no_expression) 0) S.no_selector)) S.no_factor) S.no_term)))) }))) S.no_stat) })); end_word = 0; end_name = 45; period = 0 } }

pub legal_44 : checked (legal_44_0 ∷ []) ≡ Legal (record { records = []; pointers = []; modules = (record { name = (77 ∷ []); objects = (record { name = (105 ∷ []); exported = false; entity = I.OfVariable 0 } ∷ record { name = (116 ∷ []); exported = false; entity = I.OfVariable 1 } ∷ record { name = (109 ∷ []); exported = false; entity = I.OfVariable 2 } ∷ []); variables = (H.Integer ∷ (H.Array 8 H.Char) ∷ (H.Array 2 (H.Array 3 H.Integer)) ∷ []); body = 0 } ∷ []); procedures = (record { module_number = 0; line = 1; is_body = true; formals = []; result = H.Nothing; locals = []; texts = []; body = (I.next_statement (I.Assign (I.of_type (I.Global 0 0) H.Integer) (record { form = (I.Linked (I.Linked (I.Length (I.of_type (I.Global 0 1) (H.Array 8 H.Char))) (I.Operate TheBinary.Add (I.Length (I.of_type (I.Global 0 2) (H.Array 2 (H.Array 3 H.Integer)))))) (I.Operate TheBinary.Add (I.Length (I.of_type (I.Index (I.Global 0 2) (Some 2) (H.Array 3 H.Integer) (I.Literal 1)) (H.Array 3 H.Integer))))); shape = H.Integer })) I.no_statement); answer = None } ∷ []); imports_in = false })
legal_44 = refl

-- MODULE M; VAR i: INTEGER; b: BOOLEAN; c: CHAR; y: BYTE; s: SET; BEGIN i := ABS(y) + LSL(1, 2) + ASR(i, y) + ROR(1, i) + ORD(c) + ORD(''a'') + ORD(b) + ORD(s) END M.
abbrev legal_45_0 : Parsed
legal_45_0 = record { source = record { bytes = (77 ∷ 79 ∷ 68 ∷ 85 ∷ 76 ∷ 69 ∷ 32 ∷ 77 ∷ 59 ∷ 32 ∷ 86 ∷ 65 ∷ 82 ∷ 32 ∷ 105 ∷ 58 ∷ 32 ∷ 73 ∷ 78 ∷ 84 ∷ 69 ∷ 71 ∷ 69 ∷ 82 ∷ 59 ∷ 32 ∷ 98 ∷ 58 ∷ 32 ∷ 66 ∷ 79 ∷ 79 ∷ 76 ∷ 69 ∷ 65 ∷ 78 ∷ 59 ∷ 32 ∷ 99 ∷ 58 ∷ 32 ∷ 67 ∷ 72 ∷ 65 ∷ 82 ∷ 59 ∷ 32 ∷ 121 ∷ 58 ∷ 32 ∷ 66 ∷ 89 ∷ 84 ∷ 69 ∷ 59 ∷ 32 ∷ 115 ∷ 58 ∷ 32 ∷ 83 ∷ 69 ∷ 84 ∷ 59 ∷ 32 ∷ 66 ∷ 69 ∷ 71 ∷ 73 ∷ 78 ∷ 32 ∷ 105 ∷ 32 ∷ 58 ∷ 61 ∷ 32 ∷ 65 ∷ 66 ∷ 83 ∷ 40 ∷ 121 ∷ 41 ∷ 32 ∷ 43 ∷ 32 ∷ 76 ∷ 83 ∷ 76 ∷ 40 ∷ 49 ∷ 44 ∷ 32 ∷ 50 ∷ 41 ∷ 32 ∷ 43 ∷ 32 ∷ 65 ∷ 83 ∷ 82 ∷ 40 ∷ 105 ∷ 44 ∷ 32 ∷ 121 ∷ 41 ∷ 32 ∷ 43 ∷ 32 ∷ 82 ∷ 79 ∷ 82 ∷ 40 ∷ 49 ∷ 44 ∷ 32 ∷ 105 ∷ 41 ∷ 32 ∷ 43 ∷ 32 ∷ 79 ∷ 82 ∷ 68 ∷ 40 ∷ 99 ∷ 41 ∷ 32 ∷ 43 ∷ 32 ∷ 79 ∷ 82 ∷ 68 ∷ 40 ∷ 34 ∷ 97 ∷ 34 ∷ 41 ∷ 32 ∷ 43 ∷ 32 ∷ 79 ∷ 82 ∷ 68 ∷ 40 ∷ 98 ∷ 41 ∷ 32 ∷ 43 ∷ 32 ∷ 79 ∷ 82 ∷ 68 ∷ 40 ∷ 115 ∷ 41 ∷ 32 ∷ 69 ∷ 78 ∷ 68 ∷ 32 ∷ 77 ∷ 46 ∷ []); symbols = (symbol (Ident) 0 6 ∷ symbol (Ident) 7 8 ∷ symbol (Ident) 8 9 ∷ symbol (Ident) 10 13 ∷ symbol (Ident) 14 15 ∷ symbol (Ident) 15 16 ∷ symbol (Ident) 17 24 ∷ symbol (Ident) 24 25 ∷ symbol (Ident) 26 27 ∷ symbol (Ident) 27 28 ∷ symbol (Ident) 29 36 ∷ symbol (Ident) 36 37 ∷ symbol (Ident) 38 39 ∷ symbol (Ident) 39 40 ∷ symbol (Ident) 41 45 ∷ symbol (Ident) 45 46 ∷ symbol (Ident) 47 48 ∷ symbol (Ident) 48 49 ∷ symbol (Ident) 50 54 ∷ symbol (Ident) 54 55 ∷ symbol (Ident) 56 57 ∷ symbol (Ident) 57 58 ∷ symbol (Ident) 59 62 ∷ symbol (Ident) 62 63 ∷ symbol (Ident) 64 69 ∷ symbol (Ident) 70 71 ∷ symbol (Ident) 72 74 ∷ symbol (Ident) 75 78 ∷ symbol (Ident) 78 79 ∷ symbol (Ident) 79 80 ∷ symbol (Ident) 80 81 ∷ symbol (Ident) 82 83 ∷ symbol (Ident) 84 87 ∷ symbol (Ident) 87 88 ∷ symbol (Int (pos 1)) 88 89 ∷ symbol (Ident) 89 90 ∷ symbol (Int (pos 2)) 91 92 ∷ symbol (Ident) 92 93 ∷ symbol (Ident) 94 95 ∷ symbol (Ident) 96 99 ∷ symbol (Ident) 99 100 ∷ symbol (Ident) 100 101 ∷ symbol (Ident) 101 102 ∷ symbol (Ident) 103 104 ∷ symbol (Ident) 104 105 ∷ symbol (Ident) 106 107 ∷ symbol (Ident) 108 111 ∷ symbol (Ident) 111 112 ∷ symbol (Int (pos 1)) 112 113 ∷ symbol (Ident) 113 114 ∷ symbol (Ident) 115 116 ∷ symbol (Ident) 116 117 ∷ symbol (Ident) 118 119 ∷ symbol (Ident) 120 123 ∷ symbol (Ident) 123 124 ∷ symbol (Ident) 124 125 ∷ symbol (Ident) 125 126 ∷ symbol (Ident) 127 128 ∷ symbol (Ident) 129 132 ∷ symbol (Ident) 132 133 ∷ symbol (TheKind.Text) 133 136 ∷ symbol (Ident) 136 137 ∷ symbol (Ident) 138 139 ∷ symbol (Ident) 140 143 ∷ symbol (Ident) 143 144 ∷ symbol (Ident) 144 145 ∷ symbol (Ident) 145 146 ∷ symbol (Ident) 147 148 ∷ symbol (Ident) 149 152 ∷ symbol (Ident) 152 153 ∷ symbol (Ident) 153 154 ∷ symbol (Ident) 154 155 ∷ symbol (Ident) 156 159 ∷ symbol (Ident) 160 161 ∷ symbol (Ident) 161 162 ∷ []) }; tree = record { module_word = 0; name = 1; semicolon = 0; imports = None; decls = (S.decls None None (Some (record { var_word = 0; each = (record { names = (record { first = (record { name = 4; star = None }); more = [] }); colon = 0; of = (S.Named (record { name = 6; member = None })); semicolon = 0 } ∷ record { names = (record { first = (record { name = 8; star = None }); more = [] }); colon = 0; of = (S.Named (record { name = 10; member = None })); semicolon = 0 } ∷ record { names = (record { first = (record { name = 12; star = None }); more = [] }); colon = 0; of = (S.Named (record { name = 14; member = None })); semicolon = 0 } ∷ record { names = (record { first = (record { name = 16; star = None }); more = [] }); colon = 0; of = (S.Named (record { name = 18; member = None })); semicolon = 0 } ∷ record { names = (record { first = (record { name = 20; star = None }); more = [] }); colon = 0; of = (S.Named (record { name = 22; member = None })); semicolon = 0 } ∷ []) })) S.no_procedure); body = (Some (record { begin_word = 0; stats = (S.stats (S.AssignOrCall (record { name = 25; selectors = S.no_selector }) (Some (record { becomes = 0; value = (S.only (S.simple None (S.term (S.Designated 27 (S.selected (S.Parens 0 (S.expressions (S.only (S.simple None (S.term (S.Designated 29 S.no_selector) S.no_factor) S.no_term)) S.no_expression) 0) S.no_selector)) S.no_factor) (S.added (TheAddOperator.Plus 31) (S.term (S.Designated 32 (S.selected (S.Parens 0 (S.expressions (S.only (S.simple None (S.term (S.Int 34) S.no_factor) S.no_term)) (S.next_expression 0 (S.only (S.simple None (S.term (S.Int 36) S.no_factor) S.no_term)) S.no_expression)) 0) S.no_selector)) S.no_factor) (S.added (TheAddOperator.Plus 38) (S.term (S.Designated 39 (S.selected (S.Parens 0 (S.expressions (S.only (S.simple None (S.term (S.Designated 41 S.no_selector) S.no_factor) S.no_term)) (S.next_expression 0 (S.only (S.simple None (S.term (S.Designated 43 S.no_selector) S.no_factor) S.no_term)) S.no_expression)) 0) S.no_selector)) S.no_factor) (S.added (TheAddOperator.Plus 45) (S.term (S.Designated 46 (S.selected (S.Parens 0 (S.expressions (S.only (S.simple None (S.term (S.Int 48) S.no_factor) S.no_term)) (S.next_expression 0 (S.only (S.simple None (S.term (S.Designated 50 S.no_selector) S.no_factor) S.no_term)) S.no_expression)) 0) S.no_selector)) S.no_factor) (S.added (TheAddOperator.Plus 52) (S.term (S.Designated 53 (S.selected (S.Parens 0 (S.expressions (S.only (S.simple None (S.term (S.Designated 55 S.no_selector) S.no_factor) S.no_term)) S.no_expression) 0) S.no_selector)) S.no_factor) (S.added (TheAddOperator.Plus 57) (S.term (S.Designated 58 (S.selected (S.Parens 0 (S.expressions (S.only (S.simple None (S.term (S.Text 60) S.no_factor) S.no_term)) S.no_expression) 0) S.no_selector)) S.no_factor) (S.added (TheAddOperator.Plus 62) (S.term (S.Designated 63 (S.selected (S.Parens 0 (S.expressions (S.only (S.simple None (S.term (S.Designated 65 S.no_selector) S.no_factor) S.no_term)) S.no_expression) 0) S.no_selector)) S.no_factor) (S.added (TheAddOperator.Plus 67) (S.term (S.Designated 68 (S.selected (S.Parens 0 (S.expressions (S.only (S.simple None (S.term (S.Designated 70 S.no_selector) S.no_factor) S.no_term)) S.no_expression) 0) S.no_selector)) S.no_factor) S.no_term))))))))) }))) S.no_stat) })); end_word = 0; end_name = 73; period = 0 } }

pub legal_45 : checked (legal_45_0 ∷ []) ≡ Legal (record { records = []; pointers = []; modules = (record { name = (77 ∷ []); objects = (record { name = (105 ∷ []); exported = false; entity = I.OfVariable 0 } ∷ record { name = (98 ∷ []); exported = false; entity = I.OfVariable 1 } ∷ record { name = (99 ∷ []); exported = false; entity = I.OfVariable 2 } ∷ record { name = (121 ∷ []); exported = false; entity = I.OfVariable 3 } ∷ record { name = (115 ∷ []); exported = false; entity = I.OfVariable 4 } ∷ []); variables = (H.Integer ∷ H.Boolean ∷ H.Char ∷ H.Byte ∷ H.Set ∷ []); body = 0 } ∷ []); procedures = (record { module_number = 0; line = 1; is_body = true; formals = []; result = H.Nothing; locals = []; texts = []; body = (I.next_statement (I.Assign (I.of_type (I.Global 0 0) H.Integer) (record { form = (I.Linked (I.Linked (I.Linked (I.Linked (I.Linked (I.Linked (I.Linked (I.Apply TheUnary.Abs (I.Load (I.of_type (I.Global 0 3) H.Byte))) (I.Operate TheBinary.Add (I.Linked (I.Literal 1) (I.Operate TheBinary.Lsl (I.Literal 2))))) (I.Operate TheBinary.Add (I.Linked (I.Load (I.of_type (I.Global 0 0) H.Integer)) (I.Operate TheBinary.Asr (I.Load (I.of_type (I.Global 0 3) H.Byte)))))) (I.Operate TheBinary.Add (I.Linked (I.Literal 1) (I.Operate TheBinary.Ror (I.Load (I.of_type (I.Global 0 0) H.Integer)))))) (I.Operate TheBinary.Add (I.Load (I.of_type (I.Global 0 2) H.Char)))) (I.Operate TheBinary.Add (I.Literal 97))) (I.Operate TheBinary.Add (I.Load (I.of_type (I.Global 0 1) H.Boolean)))) (I.Operate TheBinary.Add (I.Load (I.of_type (I.Global 0 4) H.Set)))); shape = H.Integer })) I.no_statement); answer = None } ∷ []); imports_in = false })
legal_45 = refl

-- MODULE M; VAR i: INTEGER; b: BOOLEAN; BEGIN b := ODD(i) END M.
abbrev legal_46_0 : Parsed
legal_46_0 = record { source = record { bytes = (77 ∷ 79 ∷ 68 ∷ 85 ∷ 76 ∷ 69 ∷ 32 ∷ 77 ∷ 59 ∷ 32 ∷ 86 ∷ 65 ∷ 82 ∷ 32 ∷ 105 ∷ 58 ∷ 32 ∷ 73 ∷ 78 ∷ 84 ∷ 69 ∷ 71 ∷ 69 ∷ 82 ∷ 59 ∷ 32 ∷ 98 ∷ 58 ∷ 32 ∷ 66 ∷ 79 ∷ 79 ∷ 76 ∷ 69 ∷ 65 ∷ 78 ∷ 59 ∷ 32 ∷ 66 ∷ 69 ∷ 71 ∷ 73 ∷ 78 ∷ 32 ∷ 98 ∷ 32 ∷ 58 ∷ 61 ∷ 32 ∷ 79 ∷ 68 ∷ 68 ∷ 40 ∷ 105 ∷ 41 ∷ 32 ∷ 69 ∷ 78 ∷ 68 ∷ 32 ∷ 77 ∷ 46 ∷ []); symbols = (symbol (Ident) 0 6 ∷ symbol (Ident) 7 8 ∷ symbol (Ident) 8 9 ∷ symbol (Ident) 10 13 ∷ symbol (Ident) 14 15 ∷ symbol (Ident) 15 16 ∷ symbol (Ident) 17 24 ∷ symbol (Ident) 24 25 ∷ symbol (Ident) 26 27 ∷ symbol (Ident) 27 28 ∷ symbol (Ident) 29 36 ∷ symbol (Ident) 36 37 ∷ symbol (Ident) 38 43 ∷ symbol (Ident) 44 45 ∷ symbol (Ident) 46 48 ∷ symbol (Ident) 49 52 ∷ symbol (Ident) 52 53 ∷ symbol (Ident) 53 54 ∷ symbol (Ident) 54 55 ∷ symbol (Ident) 56 59 ∷ symbol (Ident) 60 61 ∷ symbol (Ident) 61 62 ∷ []) }; tree = record { module_word = 0; name = 1; semicolon = 0; imports = None; decls = (S.decls None None (Some (record { var_word = 0; each = (record { names = (record { first = (record { name = 4; star = None }); more = [] }); colon = 0; of = (S.Named (record { name = 6; member = None })); semicolon = 0 } ∷ record { names = (record { first = (record { name = 8; star = None }); more = [] }); colon = 0; of = (S.Named (record { name = 10; member = None })); semicolon = 0 } ∷ []) })) S.no_procedure); body = (Some (record { begin_word = 0; stats = (S.stats (S.AssignOrCall (record { name = 13; selectors = S.no_selector }) (Some (record { becomes = 0; value = (S.only (S.simple None (S.term (S.Designated 15 (S.selected (S.Parens 0 (S.expressions (S.only (S.simple None (S.term (S.Designated 17 S.no_selector) S.no_factor) S.no_term)) S.no_expression) 0) S.no_selector)) S.no_factor) S.no_term)) }))) S.no_stat) })); end_word = 0; end_name = 20; period = 0 } }

pub legal_46 : checked (legal_46_0 ∷ []) ≡ Legal (record { records = []; pointers = []; modules = (record { name = (77 ∷ []); objects = (record { name = (105 ∷ []); exported = false; entity = I.OfVariable 0 } ∷ record { name = (98 ∷ []); exported = false; entity = I.OfVariable 1 } ∷ []); variables = (H.Integer ∷ H.Boolean ∷ []); body = 0 } ∷ []); procedures = (record { module_number = 0; line = 1; is_body = true; formals = []; result = H.Nothing; locals = []; texts = []; body = (I.next_statement (I.Assign (I.of_type (I.Global 0 1) H.Boolean) (record { form = (I.Apply TheUnary.Odd (I.Load (I.of_type (I.Global 0 0) H.Integer))); shape = H.Boolean })) I.no_statement); answer = None } ∷ []); imports_in = false })
legal_46 = refl

-- MODULE M; VAR i: INTEGER; c: CHAR; BEGIN c := CHR(i) END M.
abbrev legal_47_0 : Parsed
legal_47_0 = record { source = record { bytes = (77 ∷ 79 ∷ 68 ∷ 85 ∷ 76 ∷ 69 ∷ 32 ∷ 77 ∷ 59 ∷ 32 ∷ 86 ∷ 65 ∷ 82 ∷ 32 ∷ 105 ∷ 58 ∷ 32 ∷ 73 ∷ 78 ∷ 84 ∷ 69 ∷ 71 ∷ 69 ∷ 82 ∷ 59 ∷ 32 ∷ 99 ∷ 58 ∷ 32 ∷ 67 ∷ 72 ∷ 65 ∷ 82 ∷ 59 ∷ 32 ∷ 66 ∷ 69 ∷ 71 ∷ 73 ∷ 78 ∷ 32 ∷ 99 ∷ 32 ∷ 58 ∷ 61 ∷ 32 ∷ 67 ∷ 72 ∷ 82 ∷ 40 ∷ 105 ∷ 41 ∷ 32 ∷ 69 ∷ 78 ∷ 68 ∷ 32 ∷ 77 ∷ 46 ∷ []); symbols = (symbol (Ident) 0 6 ∷ symbol (Ident) 7 8 ∷ symbol (Ident) 8 9 ∷ symbol (Ident) 10 13 ∷ symbol (Ident) 14 15 ∷ symbol (Ident) 15 16 ∷ symbol (Ident) 17 24 ∷ symbol (Ident) 24 25 ∷ symbol (Ident) 26 27 ∷ symbol (Ident) 27 28 ∷ symbol (Ident) 29 33 ∷ symbol (Ident) 33 34 ∷ symbol (Ident) 35 40 ∷ symbol (Ident) 41 42 ∷ symbol (Ident) 43 45 ∷ symbol (Ident) 46 49 ∷ symbol (Ident) 49 50 ∷ symbol (Ident) 50 51 ∷ symbol (Ident) 51 52 ∷ symbol (Ident) 53 56 ∷ symbol (Ident) 57 58 ∷ symbol (Ident) 58 59 ∷ []) }; tree = record { module_word = 0; name = 1; semicolon = 0; imports = None; decls = (S.decls None None (Some (record { var_word = 0; each = (record { names = (record { first = (record { name = 4; star = None }); more = [] }); colon = 0; of = (S.Named (record { name = 6; member = None })); semicolon = 0 } ∷ record { names = (record { first = (record { name = 8; star = None }); more = [] }); colon = 0; of = (S.Named (record { name = 10; member = None })); semicolon = 0 } ∷ []) })) S.no_procedure); body = (Some (record { begin_word = 0; stats = (S.stats (S.AssignOrCall (record { name = 13; selectors = S.no_selector }) (Some (record { becomes = 0; value = (S.only (S.simple None (S.term (S.Designated 15 (S.selected (S.Parens 0 (S.expressions (S.only (S.simple None (S.term (S.Designated 17 S.no_selector) S.no_factor) S.no_term)) S.no_expression) 0) S.no_selector)) S.no_factor) S.no_term)) }))) S.no_stat) })); end_word = 0; end_name = 20; period = 0 } }

pub legal_47 : checked (legal_47_0 ∷ []) ≡ Legal (record { records = []; pointers = []; modules = (record { name = (77 ∷ []); objects = (record { name = (105 ∷ []); exported = false; entity = I.OfVariable 0 } ∷ record { name = (99 ∷ []); exported = false; entity = I.OfVariable 1 } ∷ []); variables = (H.Integer ∷ H.Char ∷ []); body = 0 } ∷ []); procedures = (record { module_number = 0; line = 1; is_body = true; formals = []; result = H.Nothing; locals = []; texts = []; body = (I.next_statement (I.Assign (I.of_type (I.Global 0 1) H.Char) (record { form = (I.AsByte (I.Load (I.of_type (I.Global 0 0) H.Integer))); shape = H.Char })) I.no_statement); answer = None } ∷ []); imports_in = false })
legal_47 = refl

-- MODULE M; VAR i: INTEGER; y: BYTE; s: SET; BEGIN INC(i); DEC(y, 3); INCL(s, i); EXCL(s, 3) END M.
abbrev legal_48_0 : Parsed
legal_48_0 = record { source = record { bytes = (77 ∷ 79 ∷ 68 ∷ 85 ∷ 76 ∷ 69 ∷ 32 ∷ 77 ∷ 59 ∷ 32 ∷ 86 ∷ 65 ∷ 82 ∷ 32 ∷ 105 ∷ 58 ∷ 32 ∷ 73 ∷ 78 ∷ 84 ∷ 69 ∷ 71 ∷ 69 ∷ 82 ∷ 59 ∷ 32 ∷ 121 ∷ 58 ∷ 32 ∷ 66 ∷ 89 ∷ 84 ∷ 69 ∷ 59 ∷ 32 ∷ 115 ∷ 58 ∷ 32 ∷ 83 ∷ 69 ∷ 84 ∷ 59 ∷ 32 ∷ 66 ∷ 69 ∷ 71 ∷ 73 ∷ 78 ∷ 32 ∷ 73 ∷ 78 ∷ 67 ∷ 40 ∷ 105 ∷ 41 ∷ 59 ∷ 32 ∷ 68 ∷ 69 ∷ 67 ∷ 40 ∷ 121 ∷ 44 ∷ 32 ∷ 51 ∷ 41 ∷ 59 ∷ 32 ∷ 73 ∷ 78 ∷ 67 ∷ 76 ∷ 40 ∷ 115 ∷ 44 ∷ 32 ∷ 105 ∷ 41 ∷ 59 ∷ 32 ∷ 69 ∷ 88 ∷ 67 ∷ 76 ∷ 40 ∷ 115 ∷ 44 ∷ 32 ∷ 51 ∷ 41 ∷ 32 ∷ 69 ∷ 78 ∷ 68 ∷ 32 ∷ 77 ∷ 46 ∷ []); symbols = (symbol (Ident) 0 6 ∷ symbol (Ident) 7 8 ∷ symbol (Ident) 8 9 ∷ symbol (Ident) 10 13 ∷ symbol (Ident) 14 15 ∷ symbol (Ident) 15 16 ∷ symbol (Ident) 17 24 ∷ symbol (Ident) 24 25 ∷ symbol (Ident) 26 27 ∷ symbol (Ident) 27 28 ∷ symbol (Ident) 29 33 ∷ symbol (Ident) 33 34 ∷ symbol (Ident) 35 36 ∷ symbol (Ident) 36 37 ∷ symbol (Ident) 38 41 ∷ symbol (Ident) 41 42 ∷ symbol (Ident) 43 48 ∷ symbol (Ident) 49 52 ∷ symbol (Ident) 52 53 ∷ symbol (Ident) 53 54 ∷ symbol (Ident) 54 55 ∷ symbol (Ident) 55 56 ∷ symbol (Ident) 57 60 ∷ symbol (Ident) 60 61 ∷ symbol (Ident) 61 62 ∷ symbol (Ident) 62 63 ∷ symbol (Int (pos 3)) 64 65 ∷ symbol (Ident) 65 66 ∷ symbol (Ident) 66 67 ∷ symbol (Ident) 68 72 ∷ symbol (Ident) 72 73 ∷ symbol (Ident) 73 74 ∷ symbol (Ident) 74 75 ∷ symbol (Ident) 76 77 ∷ symbol (Ident) 77 78 ∷ symbol (Ident) 78 79 ∷ symbol (Ident) 80 84 ∷ symbol (Ident) 84 85 ∷ symbol (Ident) 85 86 ∷ symbol (Ident) 86 87 ∷ symbol (Int (pos 3)) 88 89 ∷ symbol (Ident) 89 90 ∷ symbol (Ident) 91 94 ∷ symbol (Ident) 95 96 ∷ symbol (Ident) 96 97 ∷ []) }; tree = record { module_word = 0; name = 1; semicolon = 0; imports = None; decls = (S.decls None None (Some (record { var_word = 0; each = (record { names = (record { first = (record { name = 4; star = None }); more = [] }); colon = 0; of = (S.Named (record { name = 6; member = None })); semicolon = 0 } ∷ record { names = (record { first = (record { name = 8; star = None }); more = [] }); colon = 0; of = (S.Named (record { name = 10; member = None })); semicolon = 0 } ∷ record { names = (record { first = (record { name = 12; star = None }); more = [] }); colon = 0; of = (S.Named (record { name = 14; member = None })); semicolon = 0 } ∷ []) })) S.no_procedure); body = (Some (record { begin_word = 0; stats = (S.stats (S.AssignOrCall (record { name = 17; selectors = (S.selected (S.Parens 0 (S.expressions (S.only (S.simple None (S.term (S.Designated 19 S.no_selector) S.no_factor) S.no_term)) S.no_expression) 0) S.no_selector) }) None) (S.next_stat 0 (S.AssignOrCall (record { name = 22; selectors = (S.selected (S.Parens 0 (S.expressions (S.only (S.simple None (S.term (S.Designated 24 S.no_selector) S.no_factor) S.no_term)) (S.next_expression 0 (S.only (S.simple None (S.term (S.Int 26) S.no_factor) S.no_term)) S.no_expression)) 0) S.no_selector) }) None) (S.next_stat 0 (S.AssignOrCall (record { name = 29; selectors = (S.selected (S.Parens 0 (S.expressions (S.only (S.simple None (S.term (S.Designated 31 S.no_selector) S.no_factor) S.no_term)) (S.next_expression 0 (S.only (S.simple None (S.term (S.Designated 33 S.no_selector) S.no_factor) S.no_term)) S.no_expression)) 0) S.no_selector) }) None) (S.next_stat 0 (S.AssignOrCall (record { name = 36; selectors = (S.selected (S.Parens 0 (S.expressions (S.only (S.simple None (S.term (S.Designated 38 S.no_selector) S.no_factor) S.no_term)) (S.next_expression 0 (S.only (S.simple None (S.term (S.Int 40) S.no_factor) S.no_term)) S.no_expression)) 0) S.no_selector) }) None) S.no_stat)))) })); end_word = 0; end_name = 43; period = 0 } }

pub legal_48 : checked (legal_48_0 ∷ []) ≡ Legal (record { records = []; pointers = []; modules = (record { name = (77 ∷ []); objects = (record { name = (105 ∷ []); exported = false; entity = I.OfVariable 0 } ∷ record { name = (121 ∷ []); exported = false; entity = I.OfVariable 1 } ∷ record { name = (115 ∷ []); exported = false; entity = I.OfVariable 2 } ∷ []); variables = (H.Integer ∷ H.Byte ∷ H.Set ∷ []); body = 0 } ∷ []); procedures = (record { module_number = 0; line = 1; is_body = true; formals = []; result = H.Nothing; locals = []; texts = []; body = (I.next_statement (I.Increase (I.of_type (I.Global 0 0) H.Integer) (record { form = (I.Literal 1); shape = H.Integer })) (I.next_statement (I.Decrease (I.of_type (I.Global 0 1) H.Byte) (record { form = (I.Literal 3); shape = H.Integer })) (I.next_statement (I.Include (I.of_type (I.Global 0 2) H.Set) (record { form = (I.Load (I.of_type (I.Global 0 0) H.Integer)); shape = H.Integer })) (I.next_statement (I.Exclude (I.of_type (I.Global 0 2) H.Set) (record { form = (I.Literal 3); shape = H.Integer })) I.no_statement)))); answer = None } ∷ []); imports_in = false })
legal_48 = refl

-- MODULE M; TYPE R = RECORD x: INTEGER; y*: CHAR END; E = RECORD (R) z: SET END; P = POINTER TO R; Q = POINTER TO E; VAR p: P; q: Q; BEGIN NEW(p); NEW(q) END M.
abbrev legal_49_0 : Parsed
legal_49_0 = record { source = record { bytes = (77 ∷ 79 ∷ 68 ∷ 85 ∷ 76 ∷ 69 ∷ 32 ∷ 77 ∷ 59 ∷ 32 ∷ 84 ∷ 89 ∷ 80 ∷ 69 ∷ 32 ∷ 82 ∷ 32 ∷ 61 ∷ 32 ∷ 82 ∷ 69 ∷ 67 ∷ 79 ∷ 82 ∷ 68 ∷ 32 ∷ 120 ∷ 58 ∷ 32 ∷ 73 ∷ 78 ∷ 84 ∷ 69 ∷ 71 ∷ 69 ∷ 82 ∷ 59 ∷ 32 ∷ 121 ∷ 42 ∷ 58 ∷ 32 ∷ 67 ∷ 72 ∷ 65 ∷ 82 ∷ 32 ∷ 69 ∷ 78 ∷ 68 ∷ 59 ∷ 32 ∷ 69 ∷ 32 ∷ 61 ∷ 32 ∷ 82 ∷ 69 ∷ 67 ∷ 79 ∷ 82 ∷ 68 ∷ 32 ∷ 40 ∷ 82 ∷ 41 ∷ 32 ∷ 122 ∷ 58 ∷ 32 ∷ 83 ∷ 69 ∷ 84 ∷ 32 ∷ 69 ∷ 78 ∷ 68 ∷ 59 ∷ 32 ∷ 80 ∷ 32 ∷ 61 ∷ 32 ∷ 80 ∷ 79 ∷ 73 ∷ 78 ∷ 84 ∷ 69 ∷ 82 ∷ 32 ∷ 84 ∷ 79 ∷ 32 ∷ 82 ∷ 59 ∷ 32 ∷ 81 ∷ 32 ∷ 61 ∷ 32 ∷ 80 ∷ 79 ∷ 73 ∷ 78 ∷ 84 ∷ 69 ∷ 82 ∷ 32 ∷ 84 ∷ 79 ∷ 32 ∷ 69 ∷ 59 ∷ 32 ∷ 86 ∷ 65 ∷ 82 ∷ 32 ∷ 112 ∷ 58 ∷ 32 ∷ 80 ∷ 59 ∷ 32 ∷ 113 ∷ 58 ∷ 32 ∷ 81 ∷ 59 ∷ 32 ∷ 66 ∷ 69 ∷ 71 ∷ 73 ∷ 78 ∷ 32 ∷ 78 ∷ 69 ∷ 87 ∷ 40 ∷ 112 ∷ 41 ∷ 59 ∷ 32 ∷ 78 ∷ 69 ∷ 87 ∷ 40 ∷ 113 ∷ 41 ∷ 32 ∷ 69 ∷ 78 ∷ 68 ∷ 32 ∷ 77 ∷ 46 ∷ []); symbols = (symbol (Ident) 0 6 ∷ symbol (Ident) 7 8 ∷ symbol (Ident) 8 9 ∷ symbol (Ident) 10 14 ∷ symbol (Ident) 15 16 ∷ symbol (Ident) 17 18 ∷ symbol (Ident) 19 25 ∷ symbol (Ident) 26 27 ∷ symbol (Ident) 27 28 ∷ symbol (Ident) 29 36 ∷ symbol (Ident) 36 37 ∷ symbol (Ident) 38 39 ∷ symbol (Ident) 39 40 ∷ symbol (Ident) 40 41 ∷ symbol (Ident) 42 46 ∷ symbol (Ident) 47 50 ∷ symbol (Ident) 50 51 ∷ symbol (Ident) 52 53 ∷ symbol (Ident) 54 55 ∷ symbol (Ident) 56 62 ∷ symbol (Ident) 63 64 ∷ symbol (Ident) 64 65 ∷ symbol (Ident) 65 66 ∷ symbol (Ident) 67 68 ∷ symbol (Ident) 68 69 ∷ symbol (Ident) 70 73 ∷ symbol (Ident) 74 77 ∷ symbol (Ident) 77 78 ∷ symbol (Ident) 79 80 ∷ symbol (Ident) 81 82 ∷ symbol (Ident) 83 90 ∷ symbol (Ident) 91 93 ∷ symbol (Ident) 94 95 ∷ symbol (Ident) 95 96 ∷ symbol (Ident) 97 98 ∷ symbol (Ident) 99 100 ∷ symbol (Ident) 101 108 ∷ symbol (Ident) 109 111 ∷ symbol (Ident) 112 113 ∷ symbol (Ident) 113 114 ∷ symbol (Ident) 115 118 ∷ symbol (Ident) 119 120 ∷ symbol (Ident) 120 121 ∷ symbol (Ident) 122 123 ∷ symbol (Ident) 123 124 ∷ symbol (Ident) 125 126 ∷ symbol (Ident) 126 127 ∷ symbol (Ident) 128 129 ∷ symbol (Ident) 129 130 ∷ symbol (Ident) 131 136 ∷ symbol (Ident) 137 140 ∷ symbol (Ident) 140 141 ∷ symbol (Ident) 141 142 ∷ symbol (Ident) 142 143 ∷ symbol (Ident) 143 144 ∷ symbol (Ident) 145 148 ∷ symbol (Ident) 148 149 ∷ symbol (Ident) 149 150 ∷ symbol (Ident) 150 151 ∷ symbol (Ident) 152 155 ∷ symbol (Ident) 156 157 ∷ symbol (Ident) 157 158 ∷ []) }; tree = record { module_word = 0; name = 1; semicolon = 0; imports = None; decls = (S.decls None (Some (record { type_word = 0; each = (record { name = (record { name = 4; star = None }); equal = 0; is = (S.Record 6 None (S.fields (record { first = (record { name = 7; star = None }); more = [] }) 0 (S.Named (record { name = 9; member = None }))) (S.next_fields 0 (S.fields (record { first = (record { name = 11; star = Some 0 }); more = [] }) 0 (S.Named (record { name = 14; member = None }))) S.no_more_fields) 0); semicolon = 0 } ∷ record { name = (record { name = 17; star = None }); equal = 0; is = (S.Record 19 (Some (record { left_paren = 0; name = (record { name = 21; member = None }); right_paren = 0 })) (S.fields (record { first = (record { name = 23; star = None }); more = [] }) 0 (S.Named (record { name = 25; member = None }))) S.no_more_fields 0); semicolon = 0 } ∷ record { name = (record { name = 28; star = None }); equal = 0; is = (S.Pointer 30 0 (S.Named (record { name = 32; member = None }))); semicolon = 0 } ∷ record { name = (record { name = 34; star = None }); equal = 0; is = (S.Pointer 36 0 (S.Named (record { name = 38; member = None }))); semicolon = 0 } ∷ []) })) (Some (record { var_word = 0; each = (record { names = (record { first = (record { name = 41; star = None }); more = [] }); colon = 0; of = (S.Named (record { name = 43; member = None })); semicolon = 0 } ∷ record { names = (record { first = (record { name = 45; star = None }); more = [] }); colon = 0; of = (S.Named (record { name = 47; member = None })); semicolon = 0 } ∷ []) })) S.no_procedure); body = (Some (record { begin_word = 0; stats = (S.stats (S.AssignOrCall (record { name = 50; selectors = (S.selected (S.Parens 0 (S.expressions (S.only (S.simple None (S.term (S.Designated 52 S.no_selector) S.no_factor) S.no_term)) S.no_expression) 0) S.no_selector) }) None) (S.next_stat 0 (S.AssignOrCall (record { name = 55; selectors = (S.selected (S.Parens 0 (S.expressions (S.only (S.simple None (S.term (S.Designated 57 S.no_selector) S.no_factor) S.no_term)) S.no_expression) 0) S.no_selector) }) None) S.no_stat)) })); end_word = 0; end_name = 60; period = 0 } }

pub legal_49 : checked (legal_49_0 ∷ []) ≡ Legal (record { records = (record { module_number = 0; base = None; level = 0; fields = (record { name = (120 ∷ []); exported = false; shape = H.Integer } ∷ record { name = (121 ∷ []); exported = true; shape = H.Char } ∷ []); cells = 2; extent = record { bytes = 16; wide = true } } ∷ record { module_number = 0; base = (Some 0); level = 1; fields = (record { name = (122 ∷ []); exported = false; shape = H.Set } ∷ []); cells = 3; extent = record { bytes = 24; wide = true } } ∷ []); pointers = (Some 0 ∷ Some 1 ∷ []); modules = (record { name = (77 ∷ []); objects = (record { name = (82 ∷ []); exported = false; entity = I.OfType (H.Record 0) } ∷ record { name = (69 ∷ []); exported = false; entity = I.OfType (H.Record 1) } ∷ record { name = (80 ∷ []); exported = false; entity = I.OfType (H.Pointer 0) } ∷ record { name = (81 ∷ []); exported = false; entity = I.OfType (H.Pointer 1) } ∷ record { name = (112 ∷ []); exported = false; entity = I.OfVariable 0 } ∷ record { name = (113 ∷ []); exported = false; entity = I.OfVariable 1 } ∷ []); variables = ((H.Pointer 0) ∷ (H.Pointer 1) ∷ []); body = 0 } ∷ []); procedures = (record { module_number = 0; line = 1; is_body = true; formals = []; result = H.Nothing; locals = []; texts = []; body = (I.next_statement (I.New (I.of_type (I.Global 0 0) (H.Pointer 0))) (I.next_statement (I.New (I.of_type (I.Global 0 1) (H.Pointer 1))) I.no_statement)); answer = None } ∷ []); imports_in = false })
legal_49 = refl

-- MODULE M; IMPORT Out; VAR i: INTEGER; c: CHAR; y: BYTE; t: ARRAY 8 OF CHAR; BEGIN Out.Char(''a''); Out.Char(c); Out.Int(y, i); Out.String(t); Out.String(''xyz''); Out.Ln; Out.Ln() END M.
abbrev legal_50_0 : Parsed
legal_50_0 = record { source = record { bytes = (77 ∷ 79 ∷ 68 ∷ 85 ∷ 76 ∷ 69 ∷ 32 ∷ 77 ∷ 59 ∷ 32 ∷ 73 ∷ 77 ∷ 80 ∷ 79 ∷ 82 ∷ 84 ∷ 32 ∷ 79 ∷ 117 ∷ 116 ∷ 59 ∷ 32 ∷ 86 ∷ 65 ∷ 82 ∷ 32 ∷ 105 ∷ 58 ∷ 32 ∷ 73 ∷ 78 ∷ 84 ∷ 69 ∷ 71 ∷ 69 ∷ 82 ∷ 59 ∷ 32 ∷ 99 ∷ 58 ∷ 32 ∷ 67 ∷ 72 ∷ 65 ∷ 82 ∷ 59 ∷ 32 ∷ 121 ∷ 58 ∷ 32 ∷ 66 ∷ 89 ∷ 84 ∷ 69 ∷ 59 ∷ 32 ∷ 116 ∷ 58 ∷ 32 ∷ 65 ∷ 82 ∷ 82 ∷ 65 ∷ 89 ∷ 32 ∷ 56 ∷ 32 ∷ 79 ∷ 70 ∷ 32 ∷ 67 ∷ 72 ∷ 65 ∷ 82 ∷ 59 ∷ 32 ∷ 66 ∷ 69 ∷ 71 ∷ 73 ∷ 78 ∷ 32 ∷ 79 ∷ 117 ∷ 116 ∷ 46 ∷ 67 ∷ 104 ∷ 97 ∷ 114 ∷ 40 ∷ 34 ∷ 97 ∷ 34 ∷ 41 ∷ 59 ∷ 32 ∷ 79 ∷ 117 ∷ 116 ∷ 46 ∷ 67 ∷ 104 ∷ 97 ∷ 114 ∷ 40 ∷ 99 ∷ 41 ∷ 59 ∷ 32 ∷ 79 ∷ 117 ∷ 116 ∷ 46 ∷ 73 ∷ 110 ∷ 116 ∷ 40 ∷ 121 ∷ 44 ∷ 32 ∷ 105 ∷ 41 ∷ 59 ∷ 32 ∷ 79 ∷ 117 ∷ 116 ∷ 46 ∷ 83 ∷ 116 ∷ 114 ∷ 105 ∷ 110 ∷ 103 ∷ 40 ∷ 116 ∷ 41 ∷ 59 ∷ 32 ∷ 79 ∷ 117 ∷ 116 ∷ 46 ∷ 83 ∷ 116 ∷ 114 ∷ 105 ∷ 110 ∷ 103 ∷ 40 ∷ 34 ∷ 120 ∷ 121 ∷ 122 ∷ 34 ∷ 41 ∷ 59 ∷ 32 ∷ 79 ∷ 117 ∷ 116 ∷ 46 ∷ 76 ∷ 110 ∷ 59 ∷ 32 ∷ 79 ∷ 117 ∷ 116 ∷ 46 ∷ 76 ∷ 110 ∷ 40 ∷ 41 ∷ 32 ∷ 69 ∷ 78 ∷ 68 ∷ 32 ∷ 77 ∷ 46 ∷ []); symbols = (symbol (Ident) 0 6 ∷ symbol (Ident) 7 8 ∷ symbol (Ident) 8 9 ∷ symbol (Ident) 10 16 ∷ symbol (Ident) 17 20 ∷ symbol (Ident) 20 21 ∷ symbol (Ident) 22 25 ∷ symbol (Ident) 26 27 ∷ symbol (Ident) 27 28 ∷ symbol (Ident) 29 36 ∷ symbol (Ident) 36 37 ∷ symbol (Ident) 38 39 ∷ symbol (Ident) 39 40 ∷ symbol (Ident) 41 45 ∷ symbol (Ident) 45 46 ∷ symbol (Ident) 47 48 ∷ symbol (Ident) 48 49 ∷ symbol (Ident) 50 54 ∷ symbol (Ident) 54 55 ∷ symbol (Ident) 56 57 ∷ symbol (Ident) 57 58 ∷ symbol (Ident) 59 64 ∷ symbol (Int (pos 8)) 65 66 ∷ symbol (Ident) 67 69 ∷ symbol (Ident) 70 74 ∷ symbol (Ident) 74 75 ∷ symbol (Ident) 76 81 ∷ symbol (Ident) 82 85 ∷ symbol (Ident) 85 86 ∷ symbol (Ident) 86 90 ∷ symbol (Ident) 90 91 ∷ symbol (TheKind.Text) 91 94 ∷ symbol (Ident) 94 95 ∷ symbol (Ident) 95 96 ∷ symbol (Ident) 97 100 ∷ symbol (Ident) 100 101 ∷ symbol (Ident) 101 105 ∷ symbol (Ident) 105 106 ∷ symbol (Ident) 106 107 ∷ symbol (Ident) 107 108 ∷ symbol (Ident) 108 109 ∷ symbol (Ident) 110 113 ∷ symbol (Ident) 113 114 ∷ symbol (Ident) 114 117 ∷ symbol (Ident) 117 118 ∷ symbol (Ident) 118 119 ∷ symbol (Ident) 119 120 ∷ symbol (Ident) 121 122 ∷ symbol (Ident) 122 123 ∷ symbol (Ident) 123 124 ∷ symbol (Ident) 125 128 ∷ symbol (Ident) 128 129 ∷ symbol (Ident) 129 135 ∷ symbol (Ident) 135 136 ∷ symbol (Ident) 136 137 ∷ symbol (Ident) 137 138 ∷ symbol (Ident) 138 139 ∷ symbol (Ident) 140 143 ∷ symbol (Ident) 143 144 ∷ symbol (Ident) 144 150 ∷ symbol (Ident) 150 151 ∷ symbol (TheKind.Text) 151 156 ∷ symbol (Ident) 156 157 ∷ symbol (Ident) 157 158 ∷ symbol (Ident) 159 162 ∷ symbol (Ident) 162 163 ∷ symbol (Ident) 163 165 ∷ symbol (Ident) 165 166 ∷ symbol (Ident) 167 170 ∷ symbol (Ident) 170 171 ∷ symbol (Ident) 171 173 ∷ symbol (Ident) 173 174 ∷ symbol (Ident) 174 175 ∷ symbol (Ident) 176 179 ∷ symbol (Ident) 180 181 ∷ symbol (Ident) 181 182 ∷ []) }; tree = record { module_word = 0; name = 1; semicolon = 0; imports = Some (record { import_word = 0; first = (record { name = 4; of = None }); more = []; semicolon = 0 }); decls = (S.decls None None (Some (record { var_word = 0; each = (record { names = (record { first = (record { name = 7; star = None }); more = [] }); colon = 0; of = (S.Named (record { name = 9; member = None })); semicolon = 0 } ∷ record { names = (record { first = (record { name = 11; star = None }); more = [] }); colon = 0; of = (S.Named (record { name = 13; member = None })); semicolon = 0 } ∷ record { names = (record { first = (record { name = 15; star = None }); more = [] }); colon = 0; of = (S.Named (record { name = 17; member = None })); semicolon = 0 } ∷ record { names = (record { first = (record { name = 19; star = None }); more = [] }); colon = 0; of = (S.Array 21 (S.only (S.simple None (S.term (S.Int 22) S.no_factor) S.no_term)) S.no_expression 0 (S.Named (record { name = 24; member = None }))); semicolon = 0 } ∷ []) })) S.no_procedure); body = (Some (record { begin_word = 0; stats = (S.stats (S.AssignOrCall (record { name = 27; selectors = (S.selected (S.Field 0 29) (S.selected (S.Parens 0 (S.expressions (S.only (S.simple None (S.term (S.Text 31) S.no_factor) S.no_term)) S.no_expression) 0) S.no_selector)) }) None) (S.next_stat 0 (S.AssignOrCall (record { name = 34; selectors = (S.selected (S.Field 0 36) (S.selected (S.Parens 0 (S.expressions (S.only (S.simple None (S.term (S.Designated 38 S.no_selector) S.no_factor) S.no_term)) S.no_expression) 0) S.no_selector)) }) None) (S.next_stat 0 (S.AssignOrCall (record { name = 41; selectors = (S.selected (S.Field 0 43) (S.selected (S.Parens 0 (S.expressions (S.only (S.simple None (S.term (S.Designated 45 S.no_selector) S.no_factor) S.no_term)) (S.next_expression 0 (S.only (S.simple None (S.term (S.Designated 47 S.no_selector) S.no_factor) S.no_term)) S.no_expression)) 0) S.no_selector)) }) None) (S.next_stat 0 (S.AssignOrCall (record { name = 50; selectors = (S.selected (S.Field 0 52) (S.selected (S.Parens 0 (S.expressions (S.only (S.simple None (S.term (S.Designated 54 S.no_selector) S.no_factor) S.no_term)) S.no_expression) 0) S.no_selector)) }) None) (S.next_stat 0 (S.AssignOrCall (record { name = 57; selectors = (S.selected (S.Field 0 59) (S.selected (S.Parens 0 (S.expressions (S.only (S.simple None (S.term (S.Text 61) S.no_factor) S.no_term)) S.no_expression) 0) S.no_selector)) }) None) (S.next_stat 0 (S.AssignOrCall (record { name = 64; selectors = (S.selected (S.Field 0 66) S.no_selector) }) None) (S.next_stat 0 (S.AssignOrCall (record { name = 68; selectors = (S.selected (S.Field 0 70) (S.selected (S.EmptyParens 0 0) S.no_selector)) }) None) S.no_stat))))))) })); end_word = 0; end_name = 74; period = 0 } }

pub legal_50 : checked (legal_50_0 ∷ []) ≡ Legal (record { records = []; pointers = []; modules = (record { name = (77 ∷ []); objects = (record { name = (105 ∷ []); exported = false; entity = I.OfVariable 0 } ∷ record { name = (99 ∷ []); exported = false; entity = I.OfVariable 1 } ∷ record { name = (121 ∷ []); exported = false; entity = I.OfVariable 2 } ∷ record { name = (116 ∷ []); exported = false; entity = I.OfVariable 3 } ∷ []); variables = (H.Integer ∷ H.Char ∷ H.Byte ∷ (H.Array 8 H.Char) ∷ []); body = 0 } ∷ []); procedures = (record { module_number = 0; line = 1; is_body = true; formals = []; result = H.Nothing; locals = []; texts = ((120 ∷ 121 ∷ 122 ∷ []) ∷ []); body = (I.next_statement (I.OutChar (record { form = (I.Literal 97); shape = H.Char })) (I.next_statement (I.OutChar (record { form = (I.Load (I.of_type (I.Global 0 1) H.Char)); shape = H.Char })) (I.next_statement (I.OutInt (record { form = (I.Load (I.of_type (I.Global 0 2) H.Byte)); shape = H.Byte }) (record { form = (I.Load (I.of_type (I.Global 0 0) H.Integer)); shape = H.Integer })) (I.next_statement (I.OutString (I.of_type (I.Global 0 3) (H.Array 8 H.Char))) (I.next_statement (I.OutString (I.of_type (I.Text (120 ∷ 121 ∷ 122 ∷ [])) (H.Text 3))) (I.next_statement I.OutLn (I.next_statement I.OutLn I.no_statement))))))); answer = None } ∷ []); imports_in = false })
legal_50 = refl

-- MODULE M; IMPORT In; VAR b: BOOLEAN; c: CHAR; t: ARRAY 8 OF CHAR; BEGIN In.Char(c); In.Char(t[0]); b := In.Done END M.
abbrev legal_51_0 : Parsed
legal_51_0 = record { source = record { bytes = (77 ∷ 79 ∷ 68 ∷ 85 ∷ 76 ∷ 69 ∷ 32 ∷ 77 ∷ 59 ∷ 32 ∷ 73 ∷ 77 ∷ 80 ∷ 79 ∷ 82 ∷ 84 ∷ 32 ∷ 73 ∷ 110 ∷ 59 ∷ 32 ∷ 86 ∷ 65 ∷ 82 ∷ 32 ∷ 98 ∷ 58 ∷ 32 ∷ 66 ∷ 79 ∷ 79 ∷ 76 ∷ 69 ∷ 65 ∷ 78 ∷ 59 ∷ 32 ∷ 99 ∷ 58 ∷ 32 ∷ 67 ∷ 72 ∷ 65 ∷ 82 ∷ 59 ∷ 32 ∷ 116 ∷ 58 ∷ 32 ∷ 65 ∷ 82 ∷ 82 ∷ 65 ∷ 89 ∷ 32 ∷ 56 ∷ 32 ∷ 79 ∷ 70 ∷ 32 ∷ 67 ∷ 72 ∷ 65 ∷ 82 ∷ 59 ∷ 32 ∷ 66 ∷ 69 ∷ 71 ∷ 73 ∷ 78 ∷ 32 ∷ 73 ∷ 110 ∷ 46 ∷ 67 ∷ 104 ∷ 97 ∷ 114 ∷ 40 ∷ 99 ∷ 41 ∷ 59 ∷ 32 ∷ 73 ∷ 110 ∷ 46 ∷ 67 ∷ 104 ∷ 97 ∷ 114 ∷ 40 ∷ 116 ∷ 91 ∷ 48 ∷ 93 ∷ 41 ∷ 59 ∷ 32 ∷ 98 ∷ 32 ∷ 58 ∷ 61 ∷ 32 ∷ 73 ∷ 110 ∷ 46 ∷ 68 ∷ 111 ∷ 110 ∷ 101 ∷ 32 ∷ 69 ∷ 78 ∷ 68 ∷ 32 ∷ 77 ∷ 46 ∷ []); symbols = (symbol (Ident) 0 6 ∷ symbol (Ident) 7 8 ∷ symbol (Ident) 8 9 ∷ symbol (Ident) 10 16 ∷ symbol (Ident) 17 19 ∷ symbol (Ident) 19 20 ∷ symbol (Ident) 21 24 ∷ symbol (Ident) 25 26 ∷ symbol (Ident) 26 27 ∷ symbol (Ident) 28 35 ∷ symbol (Ident) 35 36 ∷ symbol (Ident) 37 38 ∷ symbol (Ident) 38 39 ∷ symbol (Ident) 40 44 ∷ symbol (Ident) 44 45 ∷ symbol (Ident) 46 47 ∷ symbol (Ident) 47 48 ∷ symbol (Ident) 49 54 ∷ symbol (Int (pos 8)) 55 56 ∷ symbol (Ident) 57 59 ∷ symbol (Ident) 60 64 ∷ symbol (Ident) 64 65 ∷ symbol (Ident) 66 71 ∷ symbol (Ident) 72 74 ∷ symbol (Ident) 74 75 ∷ symbol (Ident) 75 79 ∷ symbol (Ident) 79 80 ∷ symbol (Ident) 80 81 ∷ symbol (Ident) 81 82 ∷ symbol (Ident) 82 83 ∷ symbol (Ident) 84 86 ∷ symbol (Ident) 86 87 ∷ symbol (Ident) 87 91 ∷ symbol (Ident) 91 92 ∷ symbol (Ident) 92 93 ∷ symbol (Ident) 93 94 ∷ symbol (Int (pos 0)) 94 95 ∷ symbol (Ident) 95 96 ∷ symbol (Ident) 96 97 ∷ symbol (Ident) 97 98 ∷ symbol (Ident) 99 100 ∷ symbol (Ident) 101 103 ∷ symbol (Ident) 104 106 ∷ symbol (Ident) 106 107 ∷ symbol (Ident) 107 111 ∷ symbol (Ident) 112 115 ∷ symbol (Ident) 116 117 ∷ symbol (Ident) 117 118 ∷ []) }; tree = record { module_word = 0; name = 1; semicolon = 0; imports = Some (record { import_word = 0; first = (record { name = 4; of = None }); more = []; semicolon = 0 }); decls = (S.decls None None (Some (record { var_word = 0; each = (record { names = (record { first = (record { name = 7; star = None }); more = [] }); colon = 0; of = (S.Named (record { name = 9; member = None })); semicolon = 0 } ∷ record { names = (record { first = (record { name = 11; star = None }); more = [] }); colon = 0; of = (S.Named (record { name = 13; member = None })); semicolon = 0 } ∷ record { names = (record { first = (record { name = 15; star = None }); more = [] }); colon = 0; of = (S.Array 17 (S.only (S.simple None (S.term (S.Int 18) S.no_factor) S.no_term)) S.no_expression 0 (S.Named (record { name = 20; member = None }))); semicolon = 0 } ∷ []) })) S.no_procedure); body = (Some (record { begin_word = 0; stats = (S.stats (S.AssignOrCall (record { name = 23; selectors = (S.selected (S.Field 0 25) (S.selected (S.Parens 0 (S.expressions (S.only (S.simple None (S.term (S.Designated 27 S.no_selector) S.no_factor) S.no_term)) S.no_expression) 0) S.no_selector)) }) None) (S.next_stat 0 (S.AssignOrCall (record { name = 30; selectors = (S.selected (S.Field 0 32) (S.selected (S.Parens 0 (S.expressions (S.only (S.simple None (S.term (S.Designated 34 (S.selected (S.Index 0 (S.expressions (S.only (S.simple None (S.term (S.Int 36) S.no_factor) S.no_term)) S.no_expression) 0) S.no_selector)) S.no_factor) S.no_term)) S.no_expression) 0) S.no_selector)) }) None) (S.next_stat 0 (S.AssignOrCall (record { name = 40; selectors = S.no_selector }) (Some (record { becomes = 0; value = (S.only (S.simple None (S.term (S.Designated 42 (S.selected (S.Field 0 44) S.no_selector)) S.no_factor) S.no_term)) }))) S.no_stat))) })); end_word = 0; end_name = 46; period = 0 } }

pub legal_51 : checked (legal_51_0 ∷ []) ≡ Legal (record { records = []; pointers = []; modules = (record { name = (77 ∷ []); objects = (record { name = (98 ∷ []); exported = false; entity = I.OfVariable 0 } ∷ record { name = (99 ∷ []); exported = false; entity = I.OfVariable 1 } ∷ record { name = (116 ∷ []); exported = false; entity = I.OfVariable 2 } ∷ []); variables = (H.Boolean ∷ H.Char ∷ (H.Array 8 H.Char) ∷ []); body = 0 } ∷ []); procedures = (record { module_number = 0; line = 1; is_body = true; formals = []; result = H.Nothing; locals = []; texts = []; body = (I.next_statement (I.InChar (I.of_type (I.Global 0 1) H.Char)) (I.next_statement (I.InChar (I.of_type (I.Index (I.Global 0 2) (Some 8) H.Char (I.Literal 0)) H.Char)) (I.next_statement (I.Assign (I.of_type (I.Global 0 0) H.Boolean) (record { form = (I.Load (I.of_type I.Done H.Boolean)); shape = H.Boolean })) I.no_statement))); answer = None } ∷ []); imports_in = true })
legal_51 = refl

-- MODULE M; VAR i: INTEGER; j: INTEGER; s: SET; BEGIN s := {} + {1} * {2..i} - {i, j..3} / s; s := -s + {1} END M.
abbrev legal_52_0 : Parsed
legal_52_0 = record { source = record { bytes = (77 ∷ 79 ∷ 68 ∷ 85 ∷ 76 ∷ 69 ∷ 32 ∷ 77 ∷ 59 ∷ 32 ∷ 86 ∷ 65 ∷ 82 ∷ 32 ∷ 105 ∷ 58 ∷ 32 ∷ 73 ∷ 78 ∷ 84 ∷ 69 ∷ 71 ∷ 69 ∷ 82 ∷ 59 ∷ 32 ∷ 106 ∷ 58 ∷ 32 ∷ 73 ∷ 78 ∷ 84 ∷ 69 ∷ 71 ∷ 69 ∷ 82 ∷ 59 ∷ 32 ∷ 115 ∷ 58 ∷ 32 ∷ 83 ∷ 69 ∷ 84 ∷ 59 ∷ 32 ∷ 66 ∷ 69 ∷ 71 ∷ 73 ∷ 78 ∷ 32 ∷ 115 ∷ 32 ∷ 58 ∷ 61 ∷ 32 ∷ 123 ∷ 125 ∷ 32 ∷ 43 ∷ 32 ∷ 123 ∷ 49 ∷ 125 ∷ 32 ∷ 42 ∷ 32 ∷ 123 ∷ 50 ∷ 46 ∷ 46 ∷ 105 ∷ 125 ∷ 32 ∷ 45 ∷ 32 ∷ 123 ∷ 105 ∷ 44 ∷ 32 ∷ 106 ∷ 46 ∷ 46 ∷ 51 ∷ 125 ∷ 32 ∷ 47 ∷ 32 ∷ 115 ∷ 59 ∷ 32 ∷ 115 ∷ 32 ∷ 58 ∷ 61 ∷ 32 ∷ 45 ∷ 115 ∷ 32 ∷ 43 ∷ 32 ∷ 123 ∷ 49 ∷ 125 ∷ 32 ∷ 69 ∷ 78 ∷ 68 ∷ 32 ∷ 77 ∷ 46 ∷ []); symbols = (symbol (Ident) 0 6 ∷ symbol (Ident) 7 8 ∷ symbol (Ident) 8 9 ∷ symbol (Ident) 10 13 ∷ symbol (Ident) 14 15 ∷ symbol (Ident) 15 16 ∷ symbol (Ident) 17 24 ∷ symbol (Ident) 24 25 ∷ symbol (Ident) 26 27 ∷ symbol (Ident) 27 28 ∷ symbol (Ident) 29 36 ∷ symbol (Ident) 36 37 ∷ symbol (Ident) 38 39 ∷ symbol (Ident) 39 40 ∷ symbol (Ident) 41 44 ∷ symbol (Ident) 44 45 ∷ symbol (Ident) 46 51 ∷ symbol (Ident) 52 53 ∷ symbol (Ident) 54 56 ∷ symbol (Ident) 57 58 ∷ symbol (Ident) 58 59 ∷ symbol (Ident) 60 61 ∷ symbol (Ident) 62 63 ∷ symbol (Int (pos 1)) 63 64 ∷ symbol (Ident) 64 65 ∷ symbol (Ident) 66 67 ∷ symbol (Ident) 68 69 ∷ symbol (Int (pos 2)) 69 70 ∷ symbol (Ident) 70 72 ∷ symbol (Ident) 72 73 ∷ symbol (Ident) 73 74 ∷ symbol (Ident) 75 76 ∷ symbol (Ident) 77 78 ∷ symbol (Ident) 78 79 ∷ symbol (Ident) 79 80 ∷ symbol (Ident) 81 82 ∷ symbol (Ident) 82 84 ∷ symbol (Int (pos 3)) 84 85 ∷ symbol (Ident) 85 86 ∷ symbol (Ident) 87 88 ∷ symbol (Ident) 89 90 ∷ symbol (Ident) 90 91 ∷ symbol (Ident) 92 93 ∷ symbol (Ident) 94 96 ∷ symbol (Ident) 97 98 ∷ symbol (Ident) 98 99 ∷ symbol (Ident) 100 101 ∷ symbol (Ident) 102 103 ∷ symbol (Int (pos 1)) 103 104 ∷ symbol (Ident) 104 105 ∷ symbol (Ident) 106 109 ∷ symbol (Ident) 110 111 ∷ symbol (Ident) 111 112 ∷ []) }; tree = record { module_word = 0; name = 1; semicolon = 0; imports = None; decls = (S.decls None None (Some (record { var_word = 0; each = (record { names = (record { first = (record { name = 4; star = None }); more = [] }); colon = 0; of = (S.Named (record { name = 6; member = None })); semicolon = 0 } ∷ record { names = (record { first = (record { name = 8; star = None }); more = [] }); colon = 0; of = (S.Named (record { name = 10; member = None })); semicolon = 0 } ∷ record { names = (record { first = (record { name = 12; star = None }); more = [] }); colon = 0; of = (S.Named (record { name = 14; member = None })); semicolon = 0 } ∷ []) })) S.no_procedure); body = (Some (record { begin_word = 0; stats = (S.stats (S.AssignOrCall (record { name = 17; selectors = S.no_selector }) (Some (record { becomes = 0; value = (S.only (S.simple None (S.term (S.EmptySet 19 0) S.no_factor) (S.added (TheAddOperator.Plus 21) (S.term (S.Set 22 (S.one (S.only (S.simple None (S.term (S.Int 23) S.no_factor) S.no_term))) S.no_element 0) (S.multiplied (TheMulOperator.Times 25) (S.Set 26 (S.range (S.only (S.simple None (S.term (S.Int 27) S.no_factor) S.no_term)) 0 (S.only (S.simple None (S.term (S.Designated 29 S.no_selector) S.no_factor) S.no_term))) S.no_element 0) S.no_factor)) (S.added (TheAddOperator.Minus 31) (S.term (S.Set 32 (S.one (S.only (S.simple None (S.term (S.Designated 33 S.no_selector) S.no_factor) S.no_term))) (S.next_element 0 (S.range (S.only (S.simple None (S.term (S.Designated 35 S.no_selector) S.no_factor) S.no_term)) 0 (S.only (S.simple None (S.term (S.Int 37) S.no_factor) S.no_term))) S.no_element) 0) (S.multiplied (TheMulOperator.Slash 39) (S.Designated 40 S.no_selector) S.no_factor)) S.no_term)))) }))) (S.next_stat 0 (S.AssignOrCall (record { name = 42; selectors = S.no_selector }) (Some (record { becomes = 0; value = (S.only (S.simple (Some (TheSign.Minus 44)) (S.term (S.Designated 45 S.no_selector) S.no_factor) (S.added (TheAddOperator.Plus 46) (S.term (S.Set 47 (S.one (S.only (S.simple None (S.term (S.Int 48) S.no_factor) S.no_term))) S.no_element 0) S.no_factor) S.no_term))) }))) S.no_stat)) })); end_word = 0; end_name = 51; period = 0 } }

pub legal_52 : checked (legal_52_0 ∷ []) ≡ Legal (record { records = []; pointers = []; modules = (record { name = (77 ∷ []); objects = (record { name = (105 ∷ []); exported = false; entity = I.OfVariable 0 } ∷ record { name = (106 ∷ []); exported = false; entity = I.OfVariable 1 } ∷ record { name = (115 ∷ []); exported = false; entity = I.OfVariable 2 } ∷ []); variables = (H.Integer ∷ H.Integer ∷ H.Set ∷ []); body = 0 } ∷ []); procedures = (record { module_number = 0; line = 1; is_body = true; formals = []; result = H.Nothing; locals = []; texts = []; body = (I.next_statement (I.Assign (I.of_type (I.Global 0 2) H.Set) (record { form = (I.Linked (I.Linked (I.Literal 0) (I.Operate TheBinary.Union (I.Linked (I.Linked (I.Literal 0) (I.Element (I.Literal 1))) (I.Operate TheBinary.Intersection (I.Linked (I.Literal 0) (I.Elements (I.Literal 2) (I.Load (I.of_type (I.Global 0 0) H.Integer)))))))) (I.Operate TheBinary.Difference (I.Linked (I.Linked (I.Linked (I.Literal 0) (I.Element (I.Load (I.of_type (I.Global 0 0) H.Integer)))) (I.Elements (I.Load (I.of_type (I.Global 0 1) H.Integer)) (I.Literal 3))) (I.Operate TheBinary.SymmetricDifference (I.Load (I.of_type (I.Global 0 2) H.Set)))))); shape = H.Set })) (I.next_statement (I.Assign (I.of_type (I.Global 0 2) H.Set) (record { form = (I.Linked (I.Apply TheUnary.Complement (I.Load (I.of_type (I.Global 0 2) H.Set))) (I.Operate TheBinary.Union (I.Linked (I.Literal 0) (I.Element (I.Literal 1))))); shape = H.Set })) I.no_statement)); answer = None } ∷ []); imports_in = false })
legal_52 = refl

-- MODULE M; VAR i: INTEGER; b: BOOLEAN; s: SET; BEGIN b := (s <= {1}) & (s >= s) & (s = s) & (s # {}) OR (i IN s) END M.
abbrev legal_53_0 : Parsed
legal_53_0 = record { source = record { bytes = (77 ∷ 79 ∷ 68 ∷ 85 ∷ 76 ∷ 69 ∷ 32 ∷ 77 ∷ 59 ∷ 32 ∷ 86 ∷ 65 ∷ 82 ∷ 32 ∷ 105 ∷ 58 ∷ 32 ∷ 73 ∷ 78 ∷ 84 ∷ 69 ∷ 71 ∷ 69 ∷ 82 ∷ 59 ∷ 32 ∷ 98 ∷ 58 ∷ 32 ∷ 66 ∷ 79 ∷ 79 ∷ 76 ∷ 69 ∷ 65 ∷ 78 ∷ 59 ∷ 32 ∷ 115 ∷ 58 ∷ 32 ∷ 83 ∷ 69 ∷ 84 ∷ 59 ∷ 32 ∷ 66 ∷ 69 ∷ 71 ∷ 73 ∷ 78 ∷ 32 ∷ 98 ∷ 32 ∷ 58 ∷ 61 ∷ 32 ∷ 40 ∷ 115 ∷ 32 ∷ 60 ∷ 61 ∷ 32 ∷ 123 ∷ 49 ∷ 125 ∷ 41 ∷ 32 ∷ 38 ∷ 32 ∷ 40 ∷ 115 ∷ 32 ∷ 62 ∷ 61 ∷ 32 ∷ 115 ∷ 41 ∷ 32 ∷ 38 ∷ 32 ∷ 40 ∷ 115 ∷ 32 ∷ 61 ∷ 32 ∷ 115 ∷ 41 ∷ 32 ∷ 38 ∷ 32 ∷ 40 ∷ 115 ∷ 32 ∷ 35 ∷ 32 ∷ 123 ∷ 125 ∷ 41 ∷ 32 ∷ 79 ∷ 82 ∷ 32 ∷ 40 ∷ 105 ∷ 32 ∷ 73 ∷ 78 ∷ 32 ∷ 115 ∷ 41 ∷ 32 ∷ 69 ∷ 78 ∷ 68 ∷ 32 ∷ 77 ∷ 46 ∷ []); symbols = (symbol (Ident) 0 6 ∷ symbol (Ident) 7 8 ∷ symbol (Ident) 8 9 ∷ symbol (Ident) 10 13 ∷ symbol (Ident) 14 15 ∷ symbol (Ident) 15 16 ∷ symbol (Ident) 17 24 ∷ symbol (Ident) 24 25 ∷ symbol (Ident) 26 27 ∷ symbol (Ident) 27 28 ∷ symbol (Ident) 29 36 ∷ symbol (Ident) 36 37 ∷ symbol (Ident) 38 39 ∷ symbol (Ident) 39 40 ∷ symbol (Ident) 41 44 ∷ symbol (Ident) 44 45 ∷ symbol (Ident) 46 51 ∷ symbol (Ident) 52 53 ∷ symbol (Ident) 54 56 ∷ symbol (Ident) 57 58 ∷ symbol (Ident) 58 59 ∷ symbol (Ident) 60 62 ∷ symbol (Ident) 63 64 ∷ symbol (Int (pos 1)) 64 65 ∷ symbol (Ident) 65 66 ∷ symbol (Ident) 66 67 ∷ symbol (Ident) 68 69 ∷ symbol (Ident) 70 71 ∷ symbol (Ident) 71 72 ∷ symbol (Ident) 73 75 ∷ symbol (Ident) 76 77 ∷ symbol (Ident) 77 78 ∷ symbol (Ident) 79 80 ∷ symbol (Ident) 81 82 ∷ symbol (Ident) 82 83 ∷ symbol (Ident) 84 85 ∷ symbol (Ident) 86 87 ∷ symbol (Ident) 87 88 ∷ symbol (Ident) 89 90 ∷ symbol (Ident) 91 92 ∷ symbol (Ident) 92 93 ∷ symbol (Ident) 94 95 ∷ symbol (Ident) 96 97 ∷ symbol (Ident) 97 98 ∷ symbol (Ident) 98 99 ∷ symbol (Ident) 100 102 ∷ symbol (Ident) 103 104 ∷ symbol (Ident) 104 105 ∷ symbol (Ident) 106 108 ∷ symbol (Ident) 109 110 ∷ symbol (Ident) 110 111 ∷ symbol (Ident) 112 115 ∷ symbol (Ident) 116 117 ∷ symbol (Ident) 117 118 ∷ []) }; tree = record { module_word = 0; name = 1; semicolon = 0; imports = None; decls = (S.decls None None (Some (record { var_word = 0; each = (record { names = (record { first = (record { name = 4; star = None }); more = [] }); colon = 0; of = (S.Named (record { name = 6; member = None })); semicolon = 0 } ∷ record { names = (record { first = (record { name = 8; star = None }); more = [] }); colon = 0; of = (S.Named (record { name = 10; member = None })); semicolon = 0 } ∷ record { names = (record { first = (record { name = 12; star = None }); more = [] }); colon = 0; of = (S.Named (record { name = 14; member = None })); semicolon = 0 } ∷ []) })) S.no_procedure); body = (Some (record { begin_word = 0; stats = (S.stats (S.AssignOrCall (record { name = 17; selectors = S.no_selector }) (Some (record { becomes = 0; value = (S.only (S.simple None (S.term (S.Paren 19 (S.compared (S.simple None (S.term (S.Designated 20 S.no_selector) S.no_factor) S.no_term) (TheRelation.LessEqual 21) (S.simple None (S.term (S.Set 22 (S.one (S.only (S.simple None (S.term (S.Int 23) S.no_factor) S.no_term))) S.no_element 0) S.no_factor) S.no_term)) 0) (S.multiplied (TheMulOperator.And 26) (S.Paren 27 (S.compared (S.simple None (S.term (S.Designated 28 S.no_selector) S.no_factor) S.no_term) (TheRelation.GreaterEqual 29) (S.simple None (S.term (S.Designated 30 S.no_selector) S.no_factor) S.no_term)) 0) (S.multiplied (TheMulOperator.And 32) (S.Paren 33 (S.compared (S.simple None (S.term (S.Designated 34 S.no_selector) S.no_factor) S.no_term) (TheRelation.Equal 35) (S.simple None (S.term (S.Designated 36 S.no_selector) S.no_factor) S.no_term)) 0) (S.multiplied (TheMulOperator.And 38) (S.Paren 39 (S.compared (S.simple None (S.term (S.Designated 40 S.no_selector) S.no_factor) S.no_term) (TheRelation.NotEqual 41) (S.simple None (S.term (S.EmptySet 42 0) S.no_factor) S.no_term)) 0) S.no_factor)))) (S.added (TheAddOperator.Or 45) (S.term (S.Paren 46 (S.compared (S.simple None (S.term (S.Designated 47 S.no_selector) S.no_factor) S.no_term) (TheRelation.In 48) (S.simple None (S.term (S.Designated 49 S.no_selector) S.no_factor) S.no_term)) 0) S.no_factor) S.no_term))) }))) S.no_stat) })); end_word = 0; end_name = 52; period = 0 } }

pub legal_53 : checked (legal_53_0 ∷ []) ≡ Legal (record { records = []; pointers = []; modules = (record { name = (77 ∷ []); objects = (record { name = (105 ∷ []); exported = false; entity = I.OfVariable 0 } ∷ record { name = (98 ∷ []); exported = false; entity = I.OfVariable 1 } ∷ record { name = (115 ∷ []); exported = false; entity = I.OfVariable 2 } ∷ []); variables = (H.Integer ∷ H.Boolean ∷ H.Set ∷ []); body = 0 } ∷ []); procedures = (record { module_number = 0; line = 1; is_body = true; formals = []; result = H.Nothing; locals = []; texts = []; body = (I.next_statement (I.Assign (I.of_type (I.Global 0 1) H.Boolean) (record { form = (I.Linked (I.Linked (I.Linked (I.Linked (I.Linked (I.Load (I.of_type (I.Global 0 2) H.Set)) (I.Operate TheBinary.Subset (I.Linked (I.Literal 0) (I.Element (I.Literal 1))))) (I.And (I.Linked (I.Load (I.of_type (I.Global 0 2) H.Set)) (I.Operate TheBinary.Superset (I.Load (I.of_type (I.Global 0 2) H.Set)))))) (I.And (I.Compare TheComparison.Equal (I.Load (I.of_type (I.Global 0 2) H.Set)) (I.Load (I.of_type (I.Global 0 2) H.Set))))) (I.And (I.Compare TheComparison.Unequal (I.Load (I.of_type (I.Global 0 2) H.Set)) (I.Literal 0)))) (I.Or (I.In (I.Load (I.of_type (I.Global 0 0) H.Integer)) (I.Load (I.of_type (I.Global 0 2) H.Set))))); shape = H.Boolean })) I.no_statement); answer = None } ∷ []); imports_in = false })
legal_53 = refl

-- MODULE M; VAR i: INTEGER; j: INTEGER; b: BOOLEAN; c: CHAR; y: BYTE; BEGIN b := ~b OR (i < j) & (i <= y) & (i > 1) & (i >= 2) & (c # ''b'') END M.
abbrev legal_54_0 : Parsed
legal_54_0 = record { source = record { bytes = (77 ∷ 79 ∷ 68 ∷ 85 ∷ 76 ∷ 69 ∷ 32 ∷ 77 ∷ 59 ∷ 32 ∷ 86 ∷ 65 ∷ 82 ∷ 32 ∷ 105 ∷ 58 ∷ 32 ∷ 73 ∷ 78 ∷ 84 ∷ 69 ∷ 71 ∷ 69 ∷ 82 ∷ 59 ∷ 32 ∷ 106 ∷ 58 ∷ 32 ∷ 73 ∷ 78 ∷ 84 ∷ 69 ∷ 71 ∷ 69 ∷ 82 ∷ 59 ∷ 32 ∷ 98 ∷ 58 ∷ 32 ∷ 66 ∷ 79 ∷ 79 ∷ 76 ∷ 69 ∷ 65 ∷ 78 ∷ 59 ∷ 32 ∷ 99 ∷ 58 ∷ 32 ∷ 67 ∷ 72 ∷ 65 ∷ 82 ∷ 59 ∷ 32 ∷ 121 ∷ 58 ∷ 32 ∷ 66 ∷ 89 ∷ 84 ∷ 69 ∷ 59 ∷ 32 ∷ 66 ∷ 69 ∷ 71 ∷ 73 ∷ 78 ∷ 32 ∷ 98 ∷ 32 ∷ 58 ∷ 61 ∷ 32 ∷ 126 ∷ 98 ∷ 32 ∷ 79 ∷ 82 ∷ 32 ∷ 40 ∷ 105 ∷ 32 ∷ 60 ∷ 32 ∷ 106 ∷ 41 ∷ 32 ∷ 38 ∷ 32 ∷ 40 ∷ 105 ∷ 32 ∷ 60 ∷ 61 ∷ 32 ∷ 121 ∷ 41 ∷ 32 ∷ 38 ∷ 32 ∷ 40 ∷ 105 ∷ 32 ∷ 62 ∷ 32 ∷ 49 ∷ 41 ∷ 32 ∷ 38 ∷ 32 ∷ 40 ∷ 105 ∷ 32 ∷ 62 ∷ 61 ∷ 32 ∷ 50 ∷ 41 ∷ 32 ∷ 38 ∷ 32 ∷ 40 ∷ 99 ∷ 32 ∷ 35 ∷ 32 ∷ 34 ∷ 98 ∷ 34 ∷ 41 ∷ 32 ∷ 69 ∷ 78 ∷ 68 ∷ 32 ∷ 77 ∷ 46 ∷ []); symbols = (symbol (Ident) 0 6 ∷ symbol (Ident) 7 8 ∷ symbol (Ident) 8 9 ∷ symbol (Ident) 10 13 ∷ symbol (Ident) 14 15 ∷ symbol (Ident) 15 16 ∷ symbol (Ident) 17 24 ∷ symbol (Ident) 24 25 ∷ symbol (Ident) 26 27 ∷ symbol (Ident) 27 28 ∷ symbol (Ident) 29 36 ∷ symbol (Ident) 36 37 ∷ symbol (Ident) 38 39 ∷ symbol (Ident) 39 40 ∷ symbol (Ident) 41 48 ∷ symbol (Ident) 48 49 ∷ symbol (Ident) 50 51 ∷ symbol (Ident) 51 52 ∷ symbol (Ident) 53 57 ∷ symbol (Ident) 57 58 ∷ symbol (Ident) 59 60 ∷ symbol (Ident) 60 61 ∷ symbol (Ident) 62 66 ∷ symbol (Ident) 66 67 ∷ symbol (Ident) 68 73 ∷ symbol (Ident) 74 75 ∷ symbol (Ident) 76 78 ∷ symbol (Ident) 79 80 ∷ symbol (Ident) 80 81 ∷ symbol (Ident) 82 84 ∷ symbol (Ident) 85 86 ∷ symbol (Ident) 86 87 ∷ symbol (Ident) 88 89 ∷ symbol (Ident) 90 91 ∷ symbol (Ident) 91 92 ∷ symbol (Ident) 93 94 ∷ symbol (Ident) 95 96 ∷ symbol (Ident) 96 97 ∷ symbol (Ident) 98 100 ∷ symbol (Ident) 101 102 ∷ symbol (Ident) 102 103 ∷ symbol (Ident) 104 105 ∷ symbol (Ident) 106 107 ∷ symbol (Ident) 107 108 ∷ symbol (Ident) 109 110 ∷ symbol (Int (pos 1)) 111 112 ∷ symbol (Ident) 112 113 ∷ symbol (Ident) 114 115 ∷ symbol (Ident) 116 117 ∷ symbol (Ident) 117 118 ∷ symbol (Ident) 119 121 ∷ symbol (Int (pos 2)) 122 123 ∷ symbol (Ident) 123 124 ∷ symbol (Ident) 125 126 ∷ symbol (Ident) 127 128 ∷ symbol (Ident) 128 129 ∷ symbol (Ident) 130 131 ∷ symbol (TheKind.Text) 132 135 ∷ symbol (Ident) 135 136 ∷ symbol (Ident) 137 140 ∷ symbol (Ident) 141 142 ∷ symbol (Ident) 142 143 ∷ []) }; tree = record { module_word = 0; name = 1; semicolon = 0; imports = None; decls = (S.decls None None (Some (record { var_word = 0; each = (record { names = (record { first = (record { name = 4; star = None }); more = [] }); colon = 0; of = (S.Named (record { name = 6; member = None })); semicolon = 0 } ∷ record { names = (record { first = (record { name = 8; star = None }); more = [] }); colon = 0; of = (S.Named (record { name = 10; member = None })); semicolon = 0 } ∷ record { names = (record { first = (record { name = 12; star = None }); more = [] }); colon = 0; of = (S.Named (record { name = 14; member = None })); semicolon = 0 } ∷ record { names = (record { first = (record { name = 16; star = None }); more = [] }); colon = 0; of = (S.Named (record { name = 18; member = None })); semicolon = 0 } ∷ record { names = (record { first = (record { name = 20; star = None }); more = [] }); colon = 0; of = (S.Named (record { name = 22; member = None })); semicolon = 0 } ∷ []) })) S.no_procedure); body = (Some (record { begin_word = 0; stats = (S.stats (S.AssignOrCall (record { name = 25; selectors = S.no_selector }) (Some (record { becomes = 0; value = (S.only (S.simple None (S.term (S.Not 27 (S.Designated 28 S.no_selector)) S.no_factor) (S.added (TheAddOperator.Or 29) (S.term (S.Paren 30 (S.compared (S.simple None (S.term (S.Designated 31 S.no_selector) S.no_factor) S.no_term) (TheRelation.Less 32) (S.simple None (S.term (S.Designated 33 S.no_selector) S.no_factor) S.no_term)) 0) (S.multiplied (TheMulOperator.And 35) (S.Paren 36 (S.compared (S.simple None (S.term (S.Designated 37 S.no_selector) S.no_factor) S.no_term) (TheRelation.LessEqual 38) (S.simple None (S.term (S.Designated 39 S.no_selector) S.no_factor) S.no_term)) 0) (S.multiplied (TheMulOperator.And 41) (S.Paren 42 (S.compared (S.simple None (S.term (S.Designated 43 S.no_selector) S.no_factor) S.no_term) (TheRelation.Greater 44) (S.simple None (S.term (S.Int 45) S.no_factor) S.no_term)) 0) (S.multiplied (TheMulOperator.And 47) (S.Paren 48 (S.compared (S.simple None (S.term (S.Designated 49 S.no_selector) S.no_factor) S.no_term) (TheRelation.GreaterEqual 50) (S.simple None (S.term (S.Int 51) S.no_factor) S.no_term)) 0) (S.multiplied (TheMulOperator.And 53) (S.Paren 54 (S.compared (S.simple None (S.term (S.Designated 55 S.no_selector) S.no_factor) S.no_term) (TheRelation.NotEqual 56) (S.simple None (S.term (S.Text 57) S.no_factor) S.no_term)) 0) S.no_factor))))) S.no_term))) }))) S.no_stat) })); end_word = 0; end_name = 60; period = 0 } }

pub legal_54 : checked (legal_54_0 ∷ []) ≡ Legal (record { records = []; pointers = []; modules = (record { name = (77 ∷ []); objects = (record { name = (105 ∷ []); exported = false; entity = I.OfVariable 0 } ∷ record { name = (106 ∷ []); exported = false; entity = I.OfVariable 1 } ∷ record { name = (98 ∷ []); exported = false; entity = I.OfVariable 2 } ∷ record { name = (99 ∷ []); exported = false; entity = I.OfVariable 3 } ∷ record { name = (121 ∷ []); exported = false; entity = I.OfVariable 4 } ∷ []); variables = (H.Integer ∷ H.Integer ∷ H.Boolean ∷ H.Char ∷ H.Byte ∷ []); body = 0 } ∷ []); procedures = (record { module_number = 0; line = 1; is_body = true; formals = []; result = H.Nothing; locals = []; texts = []; body = (I.next_statement (I.Assign (I.of_type (I.Global 0 2) H.Boolean) (record { form = (I.Linked (I.Apply TheUnary.Not (I.Load (I.of_type (I.Global 0 2) H.Boolean))) (I.Or (I.Linked (I.Linked (I.Linked (I.Linked (I.Compare TheComparison.Less (I.Load (I.of_type (I.Global 0 0) H.Integer)) (I.Load (I.of_type (I.Global 0 1) H.Integer))) (I.And (I.Compare TheComparison.LessEqual (I.Load (I.of_type (I.Global 0 0) H.Integer)) (I.Load (I.of_type (I.Global 0 4) H.Byte))))) (I.And (I.Compare TheComparison.Greater (I.Load (I.of_type (I.Global 0 0) H.Integer)) (I.Literal 1)))) (I.And (I.Compare TheComparison.GreaterEqual (I.Load (I.of_type (I.Global 0 0) H.Integer)) (I.Literal 2)))) (I.And (I.Compare TheComparison.Unequal (I.Load (I.of_type (I.Global 0 3) H.Char)) (I.Literal 98)))))); shape = H.Boolean })) I.no_statement); answer = None } ∷ []); imports_in = false })
legal_54 = refl

-- MODULE M; VAR i: INTEGER; BEGIN i := -i * 3 DIV 2 MOD 7 - (2 - 3) END M.
abbrev legal_55_0 : Parsed
legal_55_0 = record { source = record { bytes = (77 ∷ 79 ∷ 68 ∷ 85 ∷ 76 ∷ 69 ∷ 32 ∷ 77 ∷ 59 ∷ 32 ∷ 86 ∷ 65 ∷ 82 ∷ 32 ∷ 105 ∷ 58 ∷ 32 ∷ 73 ∷ 78 ∷ 84 ∷ 69 ∷ 71 ∷ 69 ∷ 82 ∷ 59 ∷ 32 ∷ 66 ∷ 69 ∷ 71 ∷ 73 ∷ 78 ∷ 32 ∷ 105 ∷ 32 ∷ 58 ∷ 61 ∷ 32 ∷ 45 ∷ 105 ∷ 32 ∷ 42 ∷ 32 ∷ 51 ∷ 32 ∷ 68 ∷ 73 ∷ 86 ∷ 32 ∷ 50 ∷ 32 ∷ 77 ∷ 79 ∷ 68 ∷ 32 ∷ 55 ∷ 32 ∷ 45 ∷ 32 ∷ 40 ∷ 50 ∷ 32 ∷ 45 ∷ 32 ∷ 51 ∷ 41 ∷ 32 ∷ 69 ∷ 78 ∷ 68 ∷ 32 ∷ 77 ∷ 46 ∷ []); symbols = (symbol (Ident) 0 6 ∷ symbol (Ident) 7 8 ∷ symbol (Ident) 8 9 ∷ symbol (Ident) 10 13 ∷ symbol (Ident) 14 15 ∷ symbol (Ident) 15 16 ∷ symbol (Ident) 17 24 ∷ symbol (Ident) 24 25 ∷ symbol (Ident) 26 31 ∷ symbol (Ident) 32 33 ∷ symbol (Ident) 34 36 ∷ symbol (Ident) 37 38 ∷ symbol (Ident) 38 39 ∷ symbol (Ident) 40 41 ∷ symbol (Int (pos 3)) 42 43 ∷ symbol (Ident) 44 47 ∷ symbol (Int (pos 2)) 48 49 ∷ symbol (Ident) 50 53 ∷ symbol (Int (pos 7)) 54 55 ∷ symbol (Ident) 56 57 ∷ symbol (Ident) 58 59 ∷ symbol (Int (pos 2)) 59 60 ∷ symbol (Ident) 61 62 ∷ symbol (Int (pos 3)) 63 64 ∷ symbol (Ident) 64 65 ∷ symbol (Ident) 66 69 ∷ symbol (Ident) 70 71 ∷ symbol (Ident) 71 72 ∷ []) }; tree = record { module_word = 0; name = 1; semicolon = 0; imports = None; decls = (S.decls None None (Some (record { var_word = 0; each = (record { names = (record { first = (record { name = 4; star = None }); more = [] }); colon = 0; of = (S.Named (record { name = 6; member = None })); semicolon = 0 } ∷ []) })) S.no_procedure); body = (Some (record { begin_word = 0; stats = (S.stats (S.AssignOrCall (record { name = 9; selectors = S.no_selector }) (Some (record { becomes = 0; value = (S.only (S.simple (Some (TheSign.Minus 11)) (S.term (S.Designated 12 S.no_selector) (S.multiplied (TheMulOperator.Times 13) (S.Int 14) (S.multiplied (TheMulOperator.Div 15) (S.Int 16) (S.multiplied (TheMulOperator.Mod 17) (S.Int 18) S.no_factor)))) (S.added (TheAddOperator.Minus 19) (S.term (S.Paren 20 (S.only (S.simple None (S.term (S.Int 21) S.no_factor) (S.added (TheAddOperator.Minus 22) (S.term (S.Int 23) S.no_factor) S.no_term))) 0) S.no_factor) S.no_term))) }))) S.no_stat) })); end_word = 0; end_name = 26; period = 0 } }

pub legal_55 : checked (legal_55_0 ∷ []) ≡ Legal (record { records = []; pointers = []; modules = (record { name = (77 ∷ []); objects = (record { name = (105 ∷ []); exported = false; entity = I.OfVariable 0 } ∷ []); variables = (H.Integer ∷ []); body = 0 } ∷ []); procedures = (record { module_number = 0; line = 1; is_body = true; formals = []; result = H.Nothing; locals = []; texts = []; body = (I.next_statement (I.Assign (I.of_type (I.Global 0 0) H.Integer) (record { form = (I.Linked (I.Apply TheUnary.Negate (I.Linked (I.Linked (I.Linked (I.Load (I.of_type (I.Global 0 0) H.Integer)) (I.Operate TheBinary.Multiply (I.Literal 3))) (I.Operate TheBinary.Div (I.Literal 2))) (I.Operate TheBinary.Mod (I.Literal 7)))) (I.Operate TheBinary.Subtract (I.Linked (I.Literal 2) (I.Operate TheBinary.Subtract (I.Literal 3))))); shape = H.Integer })) I.no_statement); answer = None } ∷ []); imports_in = false })
legal_55 = refl

-- MODULE M; TYPE R = RECORD x: INTEGER; y*: CHAR END; E = RECORD (R) z: SET END; P = POINTER TO R; Q = POINTER TO E; VAR b: BOOLEAN; p: P; q: Q; BEGIN b := p = NIL; b := NIL # q; b := p = q; b := q # p END M.
abbrev legal_56_0 : Parsed
legal_56_0 = record { source = record { bytes = (77 ∷ 79 ∷ 68 ∷ 85 ∷ 76 ∷ 69 ∷ 32 ∷ 77 ∷ 59 ∷ 32 ∷ 84 ∷ 89 ∷ 80 ∷ 69 ∷ 32 ∷ 82 ∷ 32 ∷ 61 ∷ 32 ∷ 82 ∷ 69 ∷ 67 ∷ 79 ∷ 82 ∷ 68 ∷ 32 ∷ 120 ∷ 58 ∷ 32 ∷ 73 ∷ 78 ∷ 84 ∷ 69 ∷ 71 ∷ 69 ∷ 82 ∷ 59 ∷ 32 ∷ 121 ∷ 42 ∷ 58 ∷ 32 ∷ 67 ∷ 72 ∷ 65 ∷ 82 ∷ 32 ∷ 69 ∷ 78 ∷ 68 ∷ 59 ∷ 32 ∷ 69 ∷ 32 ∷ 61 ∷ 32 ∷ 82 ∷ 69 ∷ 67 ∷ 79 ∷ 82 ∷ 68 ∷ 32 ∷ 40 ∷ 82 ∷ 41 ∷ 32 ∷ 122 ∷ 58 ∷ 32 ∷ 83 ∷ 69 ∷ 84 ∷ 32 ∷ 69 ∷ 78 ∷ 68 ∷ 59 ∷ 32 ∷ 80 ∷ 32 ∷ 61 ∷ 32 ∷ 80 ∷ 79 ∷ 73 ∷ 78 ∷ 84 ∷ 69 ∷ 82 ∷ 32 ∷ 84 ∷ 79 ∷ 32 ∷ 82 ∷ 59 ∷ 32 ∷ 81 ∷ 32 ∷ 61 ∷ 32 ∷ 80 ∷ 79 ∷ 73 ∷ 78 ∷ 84 ∷ 69 ∷ 82 ∷ 32 ∷ 84 ∷ 79 ∷ 32 ∷ 69 ∷ 59 ∷ 32 ∷ 86 ∷ 65 ∷ 82 ∷ 32 ∷ 98 ∷ 58 ∷ 32 ∷ 66 ∷ 79 ∷ 79 ∷ 76 ∷ 69 ∷ 65 ∷ 78 ∷ 59 ∷ 32 ∷ 112 ∷ 58 ∷ 32 ∷ 80 ∷ 59 ∷ 32 ∷ 113 ∷ 58 ∷ 32 ∷ 81 ∷ 59 ∷ 32 ∷ 66 ∷ 69 ∷ 71 ∷ 73 ∷ 78 ∷ 32 ∷ 98 ∷ 32 ∷ 58 ∷ 61 ∷ 32 ∷ 112 ∷ 32 ∷ 61 ∷ 32 ∷ 78 ∷ 73 ∷ 76 ∷ 59 ∷ 32 ∷ 98 ∷ 32 ∷ 58 ∷ 61 ∷ 32 ∷ 78 ∷ 73 ∷ 76 ∷ 32 ∷ 35 ∷ 32 ∷ 113 ∷ 59 ∷ 32 ∷ 98 ∷ 32 ∷ 58 ∷ 61 ∷ 32 ∷ 112 ∷ 32 ∷ 61 ∷ 32 ∷ 113 ∷ 59 ∷ 32 ∷ 98 ∷ 32 ∷ 58 ∷ 61 ∷ 32 ∷ 113 ∷ 32 ∷ 35 ∷ 32 ∷ 112 ∷ 32 ∷ 69 ∷ 78 ∷ 68 ∷ 32 ∷ 77 ∷ 46 ∷ []); symbols = (symbol (Ident) 0 6 ∷ symbol (Ident) 7 8 ∷ symbol (Ident) 8 9 ∷ symbol (Ident) 10 14 ∷ symbol (Ident) 15 16 ∷ symbol (Ident) 17 18 ∷ symbol (Ident) 19 25 ∷ symbol (Ident) 26 27 ∷ symbol (Ident) 27 28 ∷ symbol (Ident) 29 36 ∷ symbol (Ident) 36 37 ∷ symbol (Ident) 38 39 ∷ symbol (Ident) 39 40 ∷ symbol (Ident) 40 41 ∷ symbol (Ident) 42 46 ∷ symbol (Ident) 47 50 ∷ symbol (Ident) 50 51 ∷ symbol (Ident) 52 53 ∷ symbol (Ident) 54 55 ∷ symbol (Ident) 56 62 ∷ symbol (Ident) 63 64 ∷ symbol (Ident) 64 65 ∷ symbol (Ident) 65 66 ∷ symbol (Ident) 67 68 ∷ symbol (Ident) 68 69 ∷ symbol (Ident) 70 73 ∷ symbol (Ident) 74 77 ∷ symbol (Ident) 77 78 ∷ symbol (Ident) 79 80 ∷ symbol (Ident) 81 82 ∷ symbol (Ident) 83 90 ∷ symbol (Ident) 91 93 ∷ symbol (Ident) 94 95 ∷ symbol (Ident) 95 96 ∷ symbol (Ident) 97 98 ∷ symbol (Ident) 99 100 ∷ symbol (Ident) 101 108 ∷ symbol (Ident) 109 111 ∷ symbol (Ident) 112 113 ∷ symbol (Ident) 113 114 ∷ symbol (Ident) 115 118 ∷ symbol (Ident) 119 120 ∷ symbol (Ident) 120 121 ∷ symbol (Ident) 122 129 ∷ symbol (Ident) 129 130 ∷ symbol (Ident) 131 132 ∷ symbol (Ident) 132 133 ∷ symbol (Ident) 134 135 ∷ symbol (Ident) 135 136 ∷ symbol (Ident) 137 138 ∷ symbol (Ident) 138 139 ∷ symbol (Ident) 140 141 ∷ symbol (Ident) 141 142 ∷ symbol (Ident) 143 148 ∷ symbol (Ident) 149 150 ∷ symbol (Ident) 151 153 ∷ symbol (Ident) 154 155 ∷ symbol (Ident) 156 157 ∷ symbol (Ident) 158 161 ∷ symbol (Ident) 161 162 ∷ symbol (Ident) 163 164 ∷ symbol (Ident) 165 167 ∷ symbol (Ident) 168 171 ∷ symbol (Ident) 172 173 ∷ symbol (Ident) 174 175 ∷ symbol (Ident) 175 176 ∷ symbol (Ident) 177 178 ∷ symbol (Ident) 179 181 ∷ symbol (Ident) 182 183 ∷ symbol (Ident) 184 185 ∷ symbol (Ident) 186 187 ∷ symbol (Ident) 187 188 ∷ symbol (Ident) 189 190 ∷ symbol (Ident) 191 193 ∷ symbol (Ident) 194 195 ∷ symbol (Ident) 196 197 ∷ symbol (Ident) 198 199 ∷ symbol (Ident) 200 203 ∷ symbol (Ident) 204 205 ∷ symbol (Ident) 205 206 ∷ []) }; tree = record { module_word = 0; name = 1; semicolon = 0; imports = None; decls = (S.decls None (Some (record { type_word = 0; each = (record { name = (record { name = 4; star = None }); equal = 0; is = (S.Record 6 None (S.fields (record { first = (record { name = 7; star = None }); more = [] }) 0 (S.Named (record { name = 9; member = None }))) (S.next_fields 0 (S.fields (record { first = (record { name = 11; star = Some 0 }); more = [] }) 0 (S.Named (record { name = 14; member = None }))) S.no_more_fields) 0); semicolon = 0 } ∷ record { name = (record { name = 17; star = None }); equal = 0; is = (S.Record 19 (Some (record { left_paren = 0; name = (record { name = 21; member = None }); right_paren = 0 })) (S.fields (record { first = (record { name = 23; star = None }); more = [] }) 0 (S.Named (record { name = 25; member = None }))) S.no_more_fields 0); semicolon = 0 } ∷ record { name = (record { name = 28; star = None }); equal = 0; is = (S.Pointer 30 0 (S.Named (record { name = 32; member = None }))); semicolon = 0 } ∷ record { name = (record { name = 34; star = None }); equal = 0; is = (S.Pointer 36 0 (S.Named (record { name = 38; member = None }))); semicolon = 0 } ∷ []) })) (Some (record { var_word = 0; each = (record { names = (record { first = (record { name = 41; star = None }); more = [] }); colon = 0; of = (S.Named (record { name = 43; member = None })); semicolon = 0 } ∷ record { names = (record { first = (record { name = 45; star = None }); more = [] }); colon = 0; of = (S.Named (record { name = 47; member = None })); semicolon = 0 } ∷ record { names = (record { first = (record { name = 49; star = None }); more = [] }); colon = 0; of = (S.Named (record { name = 51; member = None })); semicolon = 0 } ∷ []) })) S.no_procedure); body = (Some (record { begin_word = 0; stats = (S.stats (S.AssignOrCall (record { name = 54; selectors = S.no_selector }) (Some (record { becomes = 0; value = (S.compared (S.simple None (S.term (S.Designated 56 S.no_selector) S.no_factor) S.no_term) (TheRelation.Equal 57) (S.simple None (S.term (S.Nil 58) S.no_factor) S.no_term)) }))) (S.next_stat 0 (S.AssignOrCall (record { name = 60; selectors = S.no_selector }) (Some (record { becomes = 0; value = (S.compared (S.simple None (S.term (S.Nil 62) S.no_factor) S.no_term) (TheRelation.NotEqual 63) (S.simple None (S.term (S.Designated 64 S.no_selector) S.no_factor) S.no_term)) }))) (S.next_stat 0 (S.AssignOrCall (record { name = 66; selectors = S.no_selector }) (Some (record { becomes = 0; value = (S.compared (S.simple None (S.term (S.Designated 68 S.no_selector) S.no_factor) S.no_term) (TheRelation.Equal 69) (S.simple None (S.term (S.Designated 70 S.no_selector) S.no_factor) S.no_term)) }))) (S.next_stat 0 (S.AssignOrCall (record { name = 72; selectors = S.no_selector }) (Some (record { becomes = 0; value = (S.compared (S.simple None (S.term (S.Designated 74 S.no_selector) S.no_factor) S.no_term) (TheRelation.NotEqual 75) (S.simple None (S.term (S.Designated 76 S.no_selector) S.no_factor) S.no_term)) }))) S.no_stat)))) })); end_word = 0; end_name = 78; period = 0 } }

pub legal_56 : checked (legal_56_0 ∷ []) ≡ Legal (record { records = (record { module_number = 0; base = None; level = 0; fields = (record { name = (120 ∷ []); exported = false; shape = H.Integer } ∷ record { name = (121 ∷ []); exported = true; shape = H.Char } ∷ []); cells = 2; extent = record { bytes = 16; wide = true } } ∷ record { module_number = 0; base = (Some 0); level = 1; fields = (record { name = (122 ∷ []); exported = false; shape = H.Set } ∷ []); cells = 3; extent = record { bytes = 24; wide = true } } ∷ []); pointers = (Some 0 ∷ Some 1 ∷ []); modules = (record { name = (77 ∷ []); objects = (record { name = (82 ∷ []); exported = false; entity = I.OfType (H.Record 0) } ∷ record { name = (69 ∷ []); exported = false; entity = I.OfType (H.Record 1) } ∷ record { name = (80 ∷ []); exported = false; entity = I.OfType (H.Pointer 0) } ∷ record { name = (81 ∷ []); exported = false; entity = I.OfType (H.Pointer 1) } ∷ record { name = (98 ∷ []); exported = false; entity = I.OfVariable 0 } ∷ record { name = (112 ∷ []); exported = false; entity = I.OfVariable 1 } ∷ record { name = (113 ∷ []); exported = false; entity = I.OfVariable 2 } ∷ []); variables = (H.Boolean ∷ (H.Pointer 0) ∷ (H.Pointer 1) ∷ []); body = 0 } ∷ []); procedures = (record { module_number = 0; line = 1; is_body = true; formals = []; result = H.Nothing; locals = []; texts = []; body = (I.next_statement (I.Assign (I.of_type (I.Global 0 0) H.Boolean) (record { form = (I.Compare TheComparison.Equal (I.Load (I.of_type (I.Global 0 1) (H.Pointer 0))) (I.Literal 0)); shape = H.Boolean })) (I.next_statement (I.Assign (I.of_type (I.Global 0 0) H.Boolean) (record { form = (I.Compare TheComparison.Unequal (I.Literal 0) (I.Load (I.of_type (I.Global 0 2) (H.Pointer 1)))); shape = H.Boolean })) (I.next_statement (I.Assign (I.of_type (I.Global 0 0) H.Boolean) (record { form = (I.Compare TheComparison.Equal (I.Load (I.of_type (I.Global 0 1) (H.Pointer 0))) (I.Load (I.of_type (I.Global 0 2) (H.Pointer 1)))); shape = H.Boolean })) (I.next_statement (I.Assign (I.of_type (I.Global 0 0) H.Boolean) (record { form = (I.Compare TheComparison.Unequal (I.Load (I.of_type (I.Global 0 2) (H.Pointer 1))) (I.Load (I.of_type (I.Global 0 1) (H.Pointer 0)))); shape = H.Boolean })) I.no_statement)))); answer = None } ∷ []); imports_in = false })
legal_56 = refl

-- MODULE M; TYPE R = RECORD x: INTEGER; y*: CHAR END; E = RECORD (R) z: SET END; P = POINTER TO R; Q = POINTER TO E; VAR b: BOOLEAN; y: BYTE; p: P; q: Q; BEGIN b := p IS Q; q := p(Q); b := p(Q) # q; p(Q).z := {}; p.x := q.x; q.y := ''c'' END M.
abbrev legal_57_0 : Parsed
legal_57_0 = record { source = record { bytes = (77 ∷ 79 ∷ 68 ∷ 85 ∷ 76 ∷ 69 ∷ 32 ∷ 77 ∷ 59 ∷ 32 ∷ 84 ∷ 89 ∷ 80 ∷ 69 ∷ 32 ∷ 82 ∷ 32 ∷ 61 ∷ 32 ∷ 82 ∷ 69 ∷ 67 ∷ 79 ∷ 82 ∷ 68 ∷ 32 ∷ 120 ∷ 58 ∷ 32 ∷ 73 ∷ 78 ∷ 84 ∷ 69 ∷ 71 ∷ 69 ∷ 82 ∷ 59 ∷ 32 ∷ 121 ∷ 42 ∷ 58 ∷ 32 ∷ 67 ∷ 72 ∷ 65 ∷ 82 ∷ 32 ∷ 69 ∷ 78 ∷ 68 ∷ 59 ∷ 32 ∷ 69 ∷ 32 ∷ 61 ∷ 32 ∷ 82 ∷ 69 ∷ 67 ∷ 79 ∷ 82 ∷ 68 ∷ 32 ∷ 40 ∷ 82 ∷ 41 ∷ 32 ∷ 122 ∷ 58 ∷ 32 ∷ 83 ∷ 69 ∷ 84 ∷ 32 ∷ 69 ∷ 78 ∷ 68 ∷ 59 ∷ 32 ∷ 80 ∷ 32 ∷ 61 ∷ 32 ∷ 80 ∷ 79 ∷ 73 ∷ 78 ∷ 84 ∷ 69 ∷ 82 ∷ 32 ∷ 84 ∷ 79 ∷ 32 ∷ 82 ∷ 59 ∷ 32 ∷ 81 ∷ 32 ∷ 61 ∷ 32 ∷ 80 ∷ 79 ∷ 73 ∷ 78 ∷ 84 ∷ 69 ∷ 82 ∷ 32 ∷ 84 ∷ 79 ∷ 32 ∷ 69 ∷ 59 ∷ 32 ∷ 86 ∷ 65 ∷ 82 ∷ 32 ∷ 98 ∷ 58 ∷ 32 ∷ 66 ∷ 79 ∷ 79 ∷ 76 ∷ 69 ∷ 65 ∷ 78 ∷ 59 ∷ 32 ∷ 121 ∷ 58 ∷ 32 ∷ 66 ∷ 89 ∷ 84 ∷ 69 ∷ 59 ∷ 32 ∷ 112 ∷ 58 ∷ 32 ∷ 80 ∷ 59 ∷ 32 ∷ 113 ∷ 58 ∷ 32 ∷ 81 ∷ 59 ∷ 32 ∷ 66 ∷ 69 ∷ 71 ∷ 73 ∷ 78 ∷ 32 ∷ 98 ∷ 32 ∷ 58 ∷ 61 ∷ 32 ∷ 112 ∷ 32 ∷ 73 ∷ 83 ∷ 32 ∷ 81 ∷ 59 ∷ 32 ∷ 113 ∷ 32 ∷ 58 ∷ 61 ∷ 32 ∷ 112 ∷ 40 ∷ 81 ∷ 41 ∷ 59 ∷ 32 ∷ 98 ∷ 32 ∷ 58 ∷ 61 ∷ 32 ∷ 112 ∷ 40 ∷ 81 ∷ 41 ∷ 32 ∷ 35 ∷ 32 ∷ 113 ∷ 59 ∷ 32 ∷ 112 ∷ 40 ∷ 81 ∷ 41 ∷ 46 ∷ 122 ∷ 32 ∷ 58 ∷ 61 ∷ 32 ∷ 123 ∷ 125 ∷ 59 ∷ 32 ∷ 112 ∷ 46 ∷ 120 ∷ 32 ∷ 58 ∷ 61 ∷ 32 ∷ 113 ∷ 46 ∷ 120 ∷ 59 ∷ 32 ∷ 113 ∷ 46 ∷ 121 ∷ 32 ∷ 58 ∷ 61 ∷ 32 ∷ 34 ∷ 99 ∷ 34 ∷ 32 ∷ 69 ∷ 78 ∷ 68 ∷ 32 ∷ 77 ∷ 46 ∷ []); symbols = (symbol (Ident) 0 6 ∷ symbol (Ident) 7 8 ∷ symbol (Ident) 8 9 ∷ symbol (Ident) 10 14 ∷ symbol (Ident) 15 16 ∷ symbol (Ident) 17 18 ∷ symbol (Ident) 19 25 ∷ symbol (Ident) 26 27 ∷ symbol (Ident) 27 28 ∷ symbol (Ident) 29 36 ∷ symbol (Ident) 36 37 ∷ symbol (Ident) 38 39 ∷ symbol (Ident) 39 40 ∷ symbol (Ident) 40 41 ∷ symbol (Ident) 42 46 ∷ symbol (Ident) 47 50 ∷ symbol (Ident) 50 51 ∷ symbol (Ident) 52 53 ∷ symbol (Ident) 54 55 ∷ symbol (Ident) 56 62 ∷ symbol (Ident) 63 64 ∷ symbol (Ident) 64 65 ∷ symbol (Ident) 65 66 ∷ symbol (Ident) 67 68 ∷ symbol (Ident) 68 69 ∷ symbol (Ident) 70 73 ∷ symbol (Ident) 74 77 ∷ symbol (Ident) 77 78 ∷ symbol (Ident) 79 80 ∷ symbol (Ident) 81 82 ∷ symbol (Ident) 83 90 ∷ symbol (Ident) 91 93 ∷ symbol (Ident) 94 95 ∷ symbol (Ident) 95 96 ∷ symbol (Ident) 97 98 ∷ symbol (Ident) 99 100 ∷ symbol (Ident) 101 108 ∷ symbol (Ident) 109 111 ∷ symbol (Ident) 112 113 ∷ symbol (Ident) 113 114 ∷ symbol (Ident) 115 118 ∷ symbol (Ident) 119 120 ∷ symbol (Ident) 120 121 ∷ symbol (Ident) 122 129 ∷ symbol (Ident) 129 130 ∷ symbol (Ident) 131 132 ∷ symbol (Ident) 132 133 ∷ symbol (Ident) 134 138 ∷ symbol (Ident) 138 139 ∷ symbol (Ident) 140 141 ∷ symbol (Ident) 141 142 ∷ symbol (Ident) 143 144 ∷ symbol (Ident) 144 145 ∷ symbol (Ident) 146 147 ∷ symbol (Ident) 147 148 ∷ symbol (Ident) 149 150 ∷ symbol (Ident) 150 151 ∷ symbol (Ident) 152 157 ∷ symbol (Ident) 158 159 ∷ symbol (Ident) 160 162 ∷ symbol (Ident) 163 164 ∷ symbol (Ident) 165 167 ∷ symbol (Ident) 168 169 ∷ symbol (Ident) 169 170 ∷ symbol (Ident) 171 172 ∷ symbol (Ident) 173 175 ∷ symbol (Ident) 176 177 ∷ symbol (Ident) 177 178 ∷ symbol (Ident) 178 179 ∷ symbol (Ident) 179 180 ∷ symbol (Ident) 180 181 ∷ symbol (Ident) 182 183 ∷ symbol (Ident) 184 186 ∷ symbol (Ident) 187 188 ∷ symbol (Ident) 188 189 ∷ symbol (Ident) 189 190 ∷ symbol (Ident) 190 191 ∷ symbol (Ident) 192 193 ∷ symbol (Ident) 194 195 ∷ symbol (Ident) 195 196 ∷ symbol (Ident) 197 198 ∷ symbol (Ident) 198 199 ∷ symbol (Ident) 199 200 ∷ symbol (Ident) 200 201 ∷ symbol (Ident) 201 202 ∷ symbol (Ident) 202 203 ∷ symbol (Ident) 204 206 ∷ symbol (Ident) 207 208 ∷ symbol (Ident) 208 209 ∷ symbol (Ident) 209 210 ∷ symbol (Ident) 211 212 ∷ symbol (Ident) 212 213 ∷ symbol (Ident) 213 214 ∷ symbol (Ident) 215 217 ∷ symbol (Ident) 218 219 ∷ symbol (Ident) 219 220 ∷ symbol (Ident) 220 221 ∷ symbol (Ident) 221 222 ∷ symbol (Ident) 223 224 ∷ symbol (Ident) 224 225 ∷ symbol (Ident) 225 226 ∷ symbol (Ident) 227 229 ∷ symbol (TheKind.Text) 230 233 ∷ symbol (Ident) 234 237 ∷ symbol (Ident) 238 239 ∷ symbol (Ident) 239 240 ∷ []) }; tree = record { module_word = 0; name = 1; semicolon = 0; imports = None; decls = (S.decls None (Some (record { type_word = 0; each = (record { name = (record { name = 4; star = None }); equal = 0; is = (S.Record 6 None (S.fields (record { first = (record { name = 7; star = None }); more = [] }) 0 (S.Named (record { name = 9; member = None }))) (S.next_fields 0 (S.fields (record { first = (record { name = 11; star = Some 0 }); more = [] }) 0 (S.Named (record { name = 14; member = None }))) S.no_more_fields) 0); semicolon = 0 } ∷ record { name = (record { name = 17; star = None }); equal = 0; is = (S.Record 19 (Some (record { left_paren = 0; name = (record { name = 21; member = None }); right_paren = 0 })) (S.fields (record { first = (record { name = 23; star = None }); more = [] }) 0 (S.Named (record { name = 25; member = None }))) S.no_more_fields 0); semicolon = 0 } ∷ record { name = (record { name = 28; star = None }); equal = 0; is = (S.Pointer 30 0 (S.Named (record { name = 32; member = None }))); semicolon = 0 } ∷ record { name = (record { name = 34; star = None }); equal = 0; is = (S.Pointer 36 0 (S.Named (record { name = 38; member = None }))); semicolon = 0 } ∷ []) })) (Some (record { var_word = 0; each = (record { names = (record { first = (record { name = 41; star = None }); more = [] }); colon = 0; of = (S.Named (record { name = 43; member = None })); semicolon = 0 } ∷ record { names = (record { first = (record { name = 45; star = None }); more = [] }); colon = 0; of = (S.Named (record { name = 47; member = None })); semicolon = 0 } ∷ record { names = (record { first = (record { name = 49; star = None }); more = [] }); colon = 0; of = (S.Named (record { name = 51; member = None })); semicolon = 0 } ∷ record { names = (record { first = (record { name = 53; star = None }); more = [] }); colon = 0; of = (S.Named (record { name = 55; member = None })); semicolon = 0 } ∷ []) })) S.no_procedure); body = (Some (record { begin_word = 0; stats = (S.stats (S.AssignOrCall (record { name = 58; selectors = S.no_selector }) (Some (record { becomes = 0; value = (S.compared (S.simple None (S.term (S.Designated 60 S.no_selector) S.no_factor) S.no_term) (TheRelation.Is 61) (S.simple None (S.term (S.Designated 62 S.no_selector) S.no_factor) S.no_term)) }))) (S.next_stat 0 (S.AssignOrCall (record { name = 64; selectors = S.no_selector }) (Some (record { becomes = 0; value = (S.only (S.simple None (S.term (S.Designated 66 (S.selected (S.Parens 0 (S.expressions (S.only (S.simple None (S.term (S.Designated 68 S.no_selector) S.no_factor) S.no_term)) S.no_expression) 0) S.no_selector)) S.no_factor) S.no_term)) }))) (S.next_stat 0 (S.AssignOrCall (record { name = 71; selectors = S.no_selector }) (Some (record { becomes = 0; value = (S.compared (S.simple None (S.term (S.Designated 73 (S.selected (S.Parens 0 (S.expressions (S.only (S.simple None (S.term (S.Designated 75 S.no_selector) S.no_factor) S.no_term)) S.no_expression) 0) S.no_selector)) S.no_factor) S.no_term) (TheRelation.NotEqual 77) (S.simple None (S.term (S.Designated 78 S.no_selector) S.no_factor) S.no_term)) }))) (S.next_stat 0 (S.AssignOrCall (record { name = 80; selectors = (S.selected (S.Parens 0 (S.expressions (S.only (S.simple None (S.term (S.Designated 82 S.no_selector) S.no_factor) S.no_term)) S.no_expression) 0) (S.selected (S.Field 0 85) S.no_selector)) }) (Some (record { becomes = 0; value = (S.only (S.simple None (S.term (S.EmptySet 87 0) S.no_factor) S.no_term)) }))) (S.next_stat 0 (S.AssignOrCall (record { name = 90; selectors = (S.selected (S.Field 0 92) S.no_selector) }) (Some (record { becomes = 0; value = (S.only (S.simple None (S.term (S.Designated 94 (S.selected (S.Field 0 96) S.no_selector)) S.no_factor) S.no_term)) }))) (S.next_stat 0 (S.AssignOrCall (record { name = 98; selectors = (S.selected (S.Field 0 100) S.no_selector) }) (Some (record { becomes = 0; value = (S.only (S.simple None (S.term (S.Text 102) S.no_factor) S.no_term)) }))) S.no_stat)))))) })); end_word = 0; end_name = 104; period = 0 } }

pub legal_57 : checked (legal_57_0 ∷ []) ≡ Legal (record { records = (record { module_number = 0; base = None; level = 0; fields = (record { name = (120 ∷ []); exported = false; shape = H.Integer } ∷ record { name = (121 ∷ []); exported = true; shape = H.Char } ∷ []); cells = 2; extent = record { bytes = 16; wide = true } } ∷ record { module_number = 0; base = (Some 0); level = 1; fields = (record { name = (122 ∷ []); exported = false; shape = H.Set } ∷ []); cells = 3; extent = record { bytes = 24; wide = true } } ∷ []); pointers = (Some 0 ∷ Some 1 ∷ []); modules = (record { name = (77 ∷ []); objects = (record { name = (82 ∷ []); exported = false; entity = I.OfType (H.Record 0) } ∷ record { name = (69 ∷ []); exported = false; entity = I.OfType (H.Record 1) } ∷ record { name = (80 ∷ []); exported = false; entity = I.OfType (H.Pointer 0) } ∷ record { name = (81 ∷ []); exported = false; entity = I.OfType (H.Pointer 1) } ∷ record { name = (98 ∷ []); exported = false; entity = I.OfVariable 0 } ∷ record { name = (121 ∷ []); exported = false; entity = I.OfVariable 1 } ∷ record { name = (112 ∷ []); exported = false; entity = I.OfVariable 2 } ∷ record { name = (113 ∷ []); exported = false; entity = I.OfVariable 3 } ∷ []); variables = (H.Boolean ∷ H.Byte ∷ (H.Pointer 0) ∷ (H.Pointer 1) ∷ []); body = 0 } ∷ []); procedures = (record { module_number = 0; line = 1; is_body = true; formals = []; result = H.Nothing; locals = []; texts = []; body = (I.next_statement (I.Assign (I.of_type (I.Global 0 0) H.Boolean) (record { form = (I.IsPointer (I.Load (I.of_type (I.Global 0 2) (H.Pointer 0))) 1); shape = H.Boolean })) (I.next_statement (I.Assign (I.of_type (I.Global 0 3) (H.Pointer 1)) (record { form = (I.Guard (I.Load (I.of_type (I.Global 0 2) (H.Pointer 0))) 1); shape = (H.Pointer 1) })) (I.next_statement (I.Assign (I.of_type (I.Global 0 0) H.Boolean) (record { form = (I.Compare TheComparison.Unequal (I.Guard (I.Load (I.of_type (I.Global 0 2) (H.Pointer 0))) 1) (I.Load (I.of_type (I.Global 0 3) (H.Pointer 1)))); shape = H.Boolean })) (I.next_statement (I.Assign (I.of_type (I.Field (I.Dereference (I.Guard (I.Load (I.of_type (I.Global 0 2) (H.Pointer 0))) 1)) 1 0) H.Set) (record { form = (I.Literal 0); shape = H.Set })) (I.next_statement (I.Assign (I.of_type (I.Field (I.Dereference (I.Load (I.of_type (I.Global 0 2) (H.Pointer 0)))) 0 0) H.Integer) (record { form = (I.Load (I.of_type (I.Field (I.Dereference (I.Load (I.of_type (I.Global 0 3) (H.Pointer 1)))) 0 0) H.Integer)); shape = H.Integer })) (I.next_statement (I.Assign (I.of_type (I.Field (I.Dereference (I.Load (I.of_type (I.Global 0 3) (H.Pointer 1)))) 0 1) H.Char) (record { form = (I.Literal 99); shape = H.Char })) I.no_statement)))))); answer = None } ∷ []); imports_in = false })
legal_57 = refl

-- MODULE M; VAR i: INTEGER; b: BOOLEAN; BEGIN IF b THEN i := 1 ELSIF i = 2 THEN ELSIF b THEN i := 2 ELSE i := 3 END END M.
abbrev legal_58_0 : Parsed
legal_58_0 = record { source = record { bytes = (77 ∷ 79 ∷ 68 ∷ 85 ∷ 76 ∷ 69 ∷ 32 ∷ 77 ∷ 59 ∷ 32 ∷ 86 ∷ 65 ∷ 82 ∷ 32 ∷ 105 ∷ 58 ∷ 32 ∷ 73 ∷ 78 ∷ 84 ∷ 69 ∷ 71 ∷ 69 ∷ 82 ∷ 59 ∷ 32 ∷ 98 ∷ 58 ∷ 32 ∷ 66 ∷ 79 ∷ 79 ∷ 76 ∷ 69 ∷ 65 ∷ 78 ∷ 59 ∷ 32 ∷ 66 ∷ 69 ∷ 71 ∷ 73 ∷ 78 ∷ 32 ∷ 73 ∷ 70 ∷ 32 ∷ 98 ∷ 32 ∷ 84 ∷ 72 ∷ 69 ∷ 78 ∷ 32 ∷ 105 ∷ 32 ∷ 58 ∷ 61 ∷ 32 ∷ 49 ∷ 32 ∷ 69 ∷ 76 ∷ 83 ∷ 73 ∷ 70 ∷ 32 ∷ 105 ∷ 32 ∷ 61 ∷ 32 ∷ 50 ∷ 32 ∷ 84 ∷ 72 ∷ 69 ∷ 78 ∷ 32 ∷ 69 ∷ 76 ∷ 83 ∷ 73 ∷ 70 ∷ 32 ∷ 98 ∷ 32 ∷ 84 ∷ 72 ∷ 69 ∷ 78 ∷ 32 ∷ 105 ∷ 32 ∷ 58 ∷ 61 ∷ 32 ∷ 50 ∷ 32 ∷ 69 ∷ 76 ∷ 83 ∷ 69 ∷ 32 ∷ 105 ∷ 32 ∷ 58 ∷ 61 ∷ 32 ∷ 51 ∷ 32 ∷ 69 ∷ 78 ∷ 68 ∷ 32 ∷ 69 ∷ 78 ∷ 68 ∷ 32 ∷ 77 ∷ 46 ∷ []); symbols = (symbol (Ident) 0 6 ∷ symbol (Ident) 7 8 ∷ symbol (Ident) 8 9 ∷ symbol (Ident) 10 13 ∷ symbol (Ident) 14 15 ∷ symbol (Ident) 15 16 ∷ symbol (Ident) 17 24 ∷ symbol (Ident) 24 25 ∷ symbol (Ident) 26 27 ∷ symbol (Ident) 27 28 ∷ symbol (Ident) 29 36 ∷ symbol (Ident) 36 37 ∷ symbol (Ident) 38 43 ∷ symbol (Ident) 44 46 ∷ symbol (Ident) 47 48 ∷ symbol (Ident) 49 53 ∷ symbol (Ident) 54 55 ∷ symbol (Ident) 56 58 ∷ symbol (Int (pos 1)) 59 60 ∷ symbol (Ident) 61 66 ∷ symbol (Ident) 67 68 ∷ symbol (Ident) 69 70 ∷ symbol (Int (pos 2)) 71 72 ∷ symbol (Ident) 73 77 ∷ symbol (Ident) 78 83 ∷ symbol (Ident) 84 85 ∷ symbol (Ident) 86 90 ∷ symbol (Ident) 91 92 ∷ symbol (Ident) 93 95 ∷ symbol (Int (pos 2)) 96 97 ∷ symbol (Ident) 98 102 ∷ symbol (Ident) 103 104 ∷ symbol (Ident) 105 107 ∷ symbol (Int (pos 3)) 108 109 ∷ symbol (Ident) 110 113 ∷ symbol (Ident) 114 117 ∷ symbol (Ident) 118 119 ∷ symbol (Ident) 119 120 ∷ []) }; tree = record { module_word = 0; name = 1; semicolon = 0; imports = None; decls = (S.decls None None (Some (record { var_word = 0; each = (record { names = (record { first = (record { name = 4; star = None }); more = [] }); colon = 0; of = (S.Named (record { name = 6; member = None })); semicolon = 0 } ∷ record { names = (record { first = (record { name = 8; star = None }); more = [] }); colon = 0; of = (S.Named (record { name = 10; member = None })); semicolon = 0 } ∷ []) })) S.no_procedure); body = (Some (record { begin_word = 0; stats = (S.stats (S.If 0 (S.only (S.simple None (S.term (S.Designated 14 S.no_selector) S.no_factor) S.no_term)) 0 (S.stats (S.AssignOrCall (record { name = 16; selectors = S.no_selector }) (Some (record { becomes = 0; value = (S.only (S.simple None (S.term (S.Int 18) S.no_factor) S.no_term)) }))) S.no_stat) (S.next_elsif 0 (S.compared (S.simple None (S.term (S.Designated 20 S.no_selector) S.no_factor) S.no_term) (TheRelation.Equal 21) (S.simple None (S.term (S.Int 22) S.no_factor) S.no_term)) 0 (S.stats S.Empty S.no_stat) (S.next_elsif 0 (S.only (S.simple None (S.term (S.Designated 25 S.no_selector) S.no_factor) S.no_term)) 0 (S.stats (S.AssignOrCall (record { name = 27; selectors = S.no_selector }) (Some (record { becomes = 0; value = (S.only (S.simple None (S.term (S.Int 29) S.no_factor) S.no_term)) }))) S.no_stat) S.no_elsif)) (S.otherwise 0 (S.stats (S.AssignOrCall (record { name = 31; selectors = S.no_selector }) (Some (record { becomes = 0; value = (S.only (S.simple None (S.term (S.Int 33) S.no_factor) S.no_term)) }))) S.no_stat)) 0) S.no_stat) })); end_word = 0; end_name = 36; period = 0 } }

pub legal_58 : checked (legal_58_0 ∷ []) ≡ Legal (record { records = []; pointers = []; modules = (record { name = (77 ∷ []); objects = (record { name = (105 ∷ []); exported = false; entity = I.OfVariable 0 } ∷ record { name = (98 ∷ []); exported = false; entity = I.OfVariable 1 } ∷ []); variables = (H.Integer ∷ H.Boolean ∷ []); body = 0 } ∷ []); procedures = (record { module_number = 0; line = 1; is_body = true; formals = []; result = H.Nothing; locals = []; texts = []; body = (I.next_statement (I.If (I.next_branch (record { form = (I.Load (I.of_type (I.Global 0 1) H.Boolean)); shape = H.Boolean }) (I.next_statement (I.Assign (I.of_type (I.Global 0 0) H.Integer) (record { form = (I.Literal 1); shape = H.Integer })) I.no_statement) (I.next_branch (record { form = (I.Compare TheComparison.Equal (I.Load (I.of_type (I.Global 0 0) H.Integer)) (I.Literal 2)); shape = H.Boolean }) I.no_statement (I.next_branch (record { form = (I.Load (I.of_type (I.Global 0 1) H.Boolean)); shape = H.Boolean }) (I.next_statement (I.Assign (I.of_type (I.Global 0 0) H.Integer) (record { form = (I.Literal 2); shape = H.Integer })) I.no_statement) I.no_branch))) (I.next_statement (I.Assign (I.of_type (I.Global 0 0) H.Integer) (record { form = (I.Literal 3); shape = H.Integer })) I.no_statement)) I.no_statement); answer = None } ∷ []); imports_in = false })
legal_58 = refl

-- MODULE M; VAR i: INTEGER; b: BOOLEAN; BEGIN WHILE b DO i := 1 ELSIF i = 2 DO i := 3 END END M.
abbrev legal_59_0 : Parsed
legal_59_0 = record { source = record { bytes = (77 ∷ 79 ∷ 68 ∷ 85 ∷ 76 ∷ 69 ∷ 32 ∷ 77 ∷ 59 ∷ 32 ∷ 86 ∷ 65 ∷ 82 ∷ 32 ∷ 105 ∷ 58 ∷ 32 ∷ 73 ∷ 78 ∷ 84 ∷ 69 ∷ 71 ∷ 69 ∷ 82 ∷ 59 ∷ 32 ∷ 98 ∷ 58 ∷ 32 ∷ 66 ∷ 79 ∷ 79 ∷ 76 ∷ 69 ∷ 65 ∷ 78 ∷ 59 ∷ 32 ∷ 66 ∷ 69 ∷ 71 ∷ 73 ∷ 78 ∷ 32 ∷ 87 ∷ 72 ∷ 73 ∷ 76 ∷ 69 ∷ 32 ∷ 98 ∷ 32 ∷ 68 ∷ 79 ∷ 32 ∷ 105 ∷ 32 ∷ 58 ∷ 61 ∷ 32 ∷ 49 ∷ 32 ∷ 69 ∷ 76 ∷ 83 ∷ 73 ∷ 70 ∷ 32 ∷ 105 ∷ 32 ∷ 61 ∷ 32 ∷ 50 ∷ 32 ∷ 68 ∷ 79 ∷ 32 ∷ 105 ∷ 32 ∷ 58 ∷ 61 ∷ 32 ∷ 51 ∷ 32 ∷ 69 ∷ 78 ∷ 68 ∷ 32 ∷ 69 ∷ 78 ∷ 68 ∷ 32 ∷ 77 ∷ 46 ∷ []); symbols = (symbol (Ident) 0 6 ∷ symbol (Ident) 7 8 ∷ symbol (Ident) 8 9 ∷ symbol (Ident) 10 13 ∷ symbol (Ident) 14 15 ∷ symbol (Ident) 15 16 ∷ symbol (Ident) 17 24 ∷ symbol (Ident) 24 25 ∷ symbol (Ident) 26 27 ∷ symbol (Ident) 27 28 ∷ symbol (Ident) 29 36 ∷ symbol (Ident) 36 37 ∷ symbol (Ident) 38 43 ∷ symbol (Ident) 44 49 ∷ symbol (Ident) 50 51 ∷ symbol (Ident) 52 54 ∷ symbol (Ident) 55 56 ∷ symbol (Ident) 57 59 ∷ symbol (Int (pos 1)) 60 61 ∷ symbol (Ident) 62 67 ∷ symbol (Ident) 68 69 ∷ symbol (Ident) 70 71 ∷ symbol (Int (pos 2)) 72 73 ∷ symbol (Ident) 74 76 ∷ symbol (Ident) 77 78 ∷ symbol (Ident) 79 81 ∷ symbol (Int (pos 3)) 82 83 ∷ symbol (Ident) 84 87 ∷ symbol (Ident) 88 91 ∷ symbol (Ident) 92 93 ∷ symbol (Ident) 93 94 ∷ []) }; tree = record { module_word = 0; name = 1; semicolon = 0; imports = None; decls = (S.decls None None (Some (record { var_word = 0; each = (record { names = (record { first = (record { name = 4; star = None }); more = [] }); colon = 0; of = (S.Named (record { name = 6; member = None })); semicolon = 0 } ∷ record { names = (record { first = (record { name = 8; star = None }); more = [] }); colon = 0; of = (S.Named (record { name = 10; member = None })); semicolon = 0 } ∷ []) })) S.no_procedure); body = (Some (record { begin_word = 0; stats = (S.stats (S.While 0 (S.only (S.simple None (S.term (S.Designated 14 S.no_selector) S.no_factor) S.no_term)) 0 (S.stats (S.AssignOrCall (record { name = 16; selectors = S.no_selector }) (Some (record { becomes = 0; value = (S.only (S.simple None (S.term (S.Int 18) S.no_factor) S.no_term)) }))) S.no_stat) (S.next_elsif 0 (S.compared (S.simple None (S.term (S.Designated 20 S.no_selector) S.no_factor) S.no_term) (TheRelation.Equal 21) (S.simple None (S.term (S.Int 22) S.no_factor) S.no_term)) 0 (S.stats (S.AssignOrCall (record { name = 24; selectors = S.no_selector }) (Some (record { becomes = 0; value = (S.only (S.simple None (S.term (S.Int 26) S.no_factor) S.no_term)) }))) S.no_stat) S.no_elsif) 0) S.no_stat) })); end_word = 0; end_name = 29; period = 0 } }

pub legal_59 : checked (legal_59_0 ∷ []) ≡ Legal (record { records = []; pointers = []; modules = (record { name = (77 ∷ []); objects = (record { name = (105 ∷ []); exported = false; entity = I.OfVariable 0 } ∷ record { name = (98 ∷ []); exported = false; entity = I.OfVariable 1 } ∷ []); variables = (H.Integer ∷ H.Boolean ∷ []); body = 0 } ∷ []); procedures = (record { module_number = 0; line = 1; is_body = true; formals = []; result = H.Nothing; locals = []; texts = []; body = (I.next_statement (I.While (I.next_branch (record { form = (I.Load (I.of_type (I.Global 0 1) H.Boolean)); shape = H.Boolean }) (I.next_statement (I.Assign (I.of_type (I.Global 0 0) H.Integer) (record { form = (I.Literal 1); shape = H.Integer })) I.no_statement) (I.next_branch (record { form = (I.Compare TheComparison.Equal (I.Load (I.of_type (I.Global 0 0) H.Integer)) (I.Literal 2)); shape = H.Boolean }) (I.next_statement (I.Assign (I.of_type (I.Global 0 0) H.Integer) (record { form = (I.Literal 3); shape = H.Integer })) I.no_statement) I.no_branch))) I.no_statement); answer = None } ∷ []); imports_in = false })
legal_59 = refl

-- MODULE M; VAR i: INTEGER; b: BOOLEAN; BEGIN REPEAT i := 1 UNTIL b END M.
abbrev legal_60_0 : Parsed
legal_60_0 = record { source = record { bytes = (77 ∷ 79 ∷ 68 ∷ 85 ∷ 76 ∷ 69 ∷ 32 ∷ 77 ∷ 59 ∷ 32 ∷ 86 ∷ 65 ∷ 82 ∷ 32 ∷ 105 ∷ 58 ∷ 32 ∷ 73 ∷ 78 ∷ 84 ∷ 69 ∷ 71 ∷ 69 ∷ 82 ∷ 59 ∷ 32 ∷ 98 ∷ 58 ∷ 32 ∷ 66 ∷ 79 ∷ 79 ∷ 76 ∷ 69 ∷ 65 ∷ 78 ∷ 59 ∷ 32 ∷ 66 ∷ 69 ∷ 71 ∷ 73 ∷ 78 ∷ 32 ∷ 82 ∷ 69 ∷ 80 ∷ 69 ∷ 65 ∷ 84 ∷ 32 ∷ 105 ∷ 32 ∷ 58 ∷ 61 ∷ 32 ∷ 49 ∷ 32 ∷ 85 ∷ 78 ∷ 84 ∷ 73 ∷ 76 ∷ 32 ∷ 98 ∷ 32 ∷ 69 ∷ 78 ∷ 68 ∷ 32 ∷ 77 ∷ 46 ∷ []); symbols = (symbol (Ident) 0 6 ∷ symbol (Ident) 7 8 ∷ symbol (Ident) 8 9 ∷ symbol (Ident) 10 13 ∷ symbol (Ident) 14 15 ∷ symbol (Ident) 15 16 ∷ symbol (Ident) 17 24 ∷ symbol (Ident) 24 25 ∷ symbol (Ident) 26 27 ∷ symbol (Ident) 27 28 ∷ symbol (Ident) 29 36 ∷ symbol (Ident) 36 37 ∷ symbol (Ident) 38 43 ∷ symbol (Ident) 44 50 ∷ symbol (Ident) 51 52 ∷ symbol (Ident) 53 55 ∷ symbol (Int (pos 1)) 56 57 ∷ symbol (Ident) 58 63 ∷ symbol (Ident) 64 65 ∷ symbol (Ident) 66 69 ∷ symbol (Ident) 70 71 ∷ symbol (Ident) 71 72 ∷ []) }; tree = record { module_word = 0; name = 1; semicolon = 0; imports = None; decls = (S.decls None None (Some (record { var_word = 0; each = (record { names = (record { first = (record { name = 4; star = None }); more = [] }); colon = 0; of = (S.Named (record { name = 6; member = None })); semicolon = 0 } ∷ record { names = (record { first = (record { name = 8; star = None }); more = [] }); colon = 0; of = (S.Named (record { name = 10; member = None })); semicolon = 0 } ∷ []) })) S.no_procedure); body = (Some (record { begin_word = 0; stats = (S.stats (S.Repeat 0 (S.stats (S.AssignOrCall (record { name = 14; selectors = S.no_selector }) (Some (record { becomes = 0; value = (S.only (S.simple None (S.term (S.Int 16) S.no_factor) S.no_term)) }))) S.no_stat) 0 (S.only (S.simple None (S.term (S.Designated 18 S.no_selector) S.no_factor) S.no_term))) S.no_stat) })); end_word = 0; end_name = 20; period = 0 } }

pub legal_60 : checked (legal_60_0 ∷ []) ≡ Legal (record { records = []; pointers = []; modules = (record { name = (77 ∷ []); objects = (record { name = (105 ∷ []); exported = false; entity = I.OfVariable 0 } ∷ record { name = (98 ∷ []); exported = false; entity = I.OfVariable 1 } ∷ []); variables = (H.Integer ∷ H.Boolean ∷ []); body = 0 } ∷ []); procedures = (record { module_number = 0; line = 1; is_body = true; formals = []; result = H.Nothing; locals = []; texts = []; body = (I.next_statement (I.Repeat (I.next_statement (I.Assign (I.of_type (I.Global 0 0) H.Integer) (record { form = (I.Literal 1); shape = H.Integer })) I.no_statement) (record { form = (I.Load (I.of_type (I.Global 0 1) H.Boolean)); shape = H.Boolean })) I.no_statement); answer = None } ∷ []); imports_in = false })
legal_60 = refl

-- MODULE M; VAR i: INTEGER; j: INTEGER; y: BYTE; BEGIN FOR i := 0 TO 10 DO END; FOR i := y TO y BY -2 DO j := i END END M.
abbrev legal_61_0 : Parsed
legal_61_0 = record { source = record { bytes = (77 ∷ 79 ∷ 68 ∷ 85 ∷ 76 ∷ 69 ∷ 32 ∷ 77 ∷ 59 ∷ 32 ∷ 86 ∷ 65 ∷ 82 ∷ 32 ∷ 105 ∷ 58 ∷ 32 ∷ 73 ∷ 78 ∷ 84 ∷ 69 ∷ 71 ∷ 69 ∷ 82 ∷ 59 ∷ 32 ∷ 106 ∷ 58 ∷ 32 ∷ 73 ∷ 78 ∷ 84 ∷ 69 ∷ 71 ∷ 69 ∷ 82 ∷ 59 ∷ 32 ∷ 121 ∷ 58 ∷ 32 ∷ 66 ∷ 89 ∷ 84 ∷ 69 ∷ 59 ∷ 32 ∷ 66 ∷ 69 ∷ 71 ∷ 73 ∷ 78 ∷ 32 ∷ 70 ∷ 79 ∷ 82 ∷ 32 ∷ 105 ∷ 32 ∷ 58 ∷ 61 ∷ 32 ∷ 48 ∷ 32 ∷ 84 ∷ 79 ∷ 32 ∷ 49 ∷ 48 ∷ 32 ∷ 68 ∷ 79 ∷ 32 ∷ 69 ∷ 78 ∷ 68 ∷ 59 ∷ 32 ∷ 70 ∷ 79 ∷ 82 ∷ 32 ∷ 105 ∷ 32 ∷ 58 ∷ 61 ∷ 32 ∷ 121 ∷ 32 ∷ 84 ∷ 79 ∷ 32 ∷ 121 ∷ 32 ∷ 66 ∷ 89 ∷ 32 ∷ 45 ∷ 50 ∷ 32 ∷ 68 ∷ 79 ∷ 32 ∷ 106 ∷ 32 ∷ 58 ∷ 61 ∷ 32 ∷ 105 ∷ 32 ∷ 69 ∷ 78 ∷ 68 ∷ 32 ∷ 69 ∷ 78 ∷ 68 ∷ 32 ∷ 77 ∷ 46 ∷ []); symbols = (symbol (Ident) 0 6 ∷ symbol (Ident) 7 8 ∷ symbol (Ident) 8 9 ∷ symbol (Ident) 10 13 ∷ symbol (Ident) 14 15 ∷ symbol (Ident) 15 16 ∷ symbol (Ident) 17 24 ∷ symbol (Ident) 24 25 ∷ symbol (Ident) 26 27 ∷ symbol (Ident) 27 28 ∷ symbol (Ident) 29 36 ∷ symbol (Ident) 36 37 ∷ symbol (Ident) 38 39 ∷ symbol (Ident) 39 40 ∷ symbol (Ident) 41 45 ∷ symbol (Ident) 45 46 ∷ symbol (Ident) 47 52 ∷ symbol (Ident) 53 56 ∷ symbol (Ident) 57 58 ∷ symbol (Ident) 59 61 ∷ symbol (Int (pos 0)) 62 63 ∷ symbol (Ident) 64 66 ∷ symbol (Int (pos 10)) 67 69 ∷ symbol (Ident) 70 72 ∷ symbol (Ident) 73 76 ∷ symbol (Ident) 76 77 ∷ symbol (Ident) 78 81 ∷ symbol (Ident) 82 83 ∷ symbol (Ident) 84 86 ∷ symbol (Ident) 87 88 ∷ symbol (Ident) 89 91 ∷ symbol (Ident) 92 93 ∷ symbol (Ident) 94 96 ∷ symbol (Ident) 97 98 ∷ symbol (Int (pos 2)) 98 99 ∷ symbol (Ident) 100 102 ∷ symbol (Ident) 103 104 ∷ symbol (Ident) 105 107 ∷ symbol (Ident) 108 109 ∷ symbol (Ident) 110 113 ∷ symbol (Ident) 114 117 ∷ symbol (Ident) 118 119 ∷ symbol (Ident) 119 120 ∷ []) }; tree = record { module_word = 0; name = 1; semicolon = 0; imports = None; decls = (S.decls None None (Some (record { var_word = 0; each = (record { names = (record { first = (record { name = 4; star = None }); more = [] }); colon = 0; of = (S.Named (record { name = 6; member = None })); semicolon = 0 } ∷ record { names = (record { first = (record { name = 8; star = None }); more = [] }); colon = 0; of = (S.Named (record { name = 10; member = None })); semicolon = 0 } ∷ record { names = (record { first = (record { name = 12; star = None }); more = [] }); colon = 0; of = (S.Named (record { name = 14; member = None })); semicolon = 0 } ∷ []) })) S.no_procedure); body = (Some (record { begin_word = 0; stats = (S.stats (S.For 0 18 0 (S.only (S.simple None (S.term (S.Int 20) S.no_factor) S.no_term)) 0 (S.only (S.simple None (S.term (S.Int 22) S.no_factor) S.no_term)) None 0 (S.stats S.Empty S.no_stat) 0) (S.next_stat 0 (S.For 0 27 0 (S.only (S.simple None (S.term (S.Designated 29 S.no_selector) S.no_factor) S.no_term)) 0 (S.only (S.simple None (S.term (S.Designated 31 S.no_selector) S.no_factor) S.no_term)) (Some (record { by_word = 0; step = (S.only (S.simple (Some (TheSign.Minus 33)) (S.term (S.Int 34) S.no_factor) S.no_term)) })) 0 (S.stats (S.AssignOrCall (record { name = 36; selectors = S.no_selector }) (Some (record { becomes = 0; value = (S.only (S.simple None (S.term (S.Designated 38 S.no_selector) S.no_factor) S.no_term)) }))) S.no_stat) 0) S.no_stat)) })); end_word = 0; end_name = 41; period = 0 } }

pub legal_61 : checked (legal_61_0 ∷ []) ≡ Legal (record { records = []; pointers = []; modules = (record { name = (77 ∷ []); objects = (record { name = (105 ∷ []); exported = false; entity = I.OfVariable 0 } ∷ record { name = (106 ∷ []); exported = false; entity = I.OfVariable 1 } ∷ record { name = (121 ∷ []); exported = false; entity = I.OfVariable 2 } ∷ []); variables = (H.Integer ∷ H.Integer ∷ H.Byte ∷ []); body = 0 } ∷ []); procedures = (record { module_number = 0; line = 1; is_body = true; formals = []; result = H.Nothing; locals = []; texts = []; body = (I.next_statement (I.For (I.of_type (I.Global 0 0) H.Integer) (record { form = (I.Literal 0); shape = H.Integer }) (record { form = (I.Literal 10); shape = H.Integer }) (pos 1) I.no_statement) (I.next_statement (I.For (I.of_type (I.Global 0 0) H.Integer) (record { form = (I.Load (I.of_type (I.Global 0 2) H.Byte)); shape = H.Byte }) (record { form = (I.Load (I.of_type (I.Global 0 2) H.Byte)); shape = H.Byte }) (negsuc 1) (I.next_statement (I.Assign (I.of_type (I.Global 0 1) H.Integer) (record { form = (I.Load (I.of_type (I.Global 0 0) H.Integer)); shape = H.Integer })) I.no_statement)) I.no_statement)); answer = None } ∷ []); imports_in = false })
legal_61 = refl

-- MODULE M; VAR i: INTEGER; j: INTEGER; BEGIN CASE i OF 1: j := 1 | | 2, 4..6: | 0FFFFFFFFFFFFFFFFH: END END M.
abbrev legal_62_0 : Parsed
legal_62_0 = record { source = record { bytes = (77 ∷ 79 ∷ 68 ∷ 85 ∷ 76 ∷ 69 ∷ 32 ∷ 77 ∷ 59 ∷ 32 ∷ 86 ∷ 65 ∷ 82 ∷ 32 ∷ 105 ∷ 58 ∷ 32 ∷ 73 ∷ 78 ∷ 84 ∷ 69 ∷ 71 ∷ 69 ∷ 82 ∷ 59 ∷ 32 ∷ 106 ∷ 58 ∷ 32 ∷ 73 ∷ 78 ∷ 84 ∷ 69 ∷ 71 ∷ 69 ∷ 82 ∷ 59 ∷ 32 ∷ 66 ∷ 69 ∷ 71 ∷ 73 ∷ 78 ∷ 32 ∷ 67 ∷ 65 ∷ 83 ∷ 69 ∷ 32 ∷ 105 ∷ 32 ∷ 79 ∷ 70 ∷ 32 ∷ 49 ∷ 58 ∷ 32 ∷ 106 ∷ 32 ∷ 58 ∷ 61 ∷ 32 ∷ 49 ∷ 32 ∷ 124 ∷ 32 ∷ 124 ∷ 32 ∷ 50 ∷ 44 ∷ 32 ∷ 52 ∷ 46 ∷ 46 ∷ 54 ∷ 58 ∷ 32 ∷ 124 ∷ 32 ∷ 48 ∷ 70 ∷ 70 ∷ 70 ∷ 70 ∷ 70 ∷ 70 ∷ 70 ∷ 70 ∷ 70 ∷ 70 ∷ 70 ∷ 70 ∷ 70 ∷ 70 ∷ 70 ∷ 70 ∷ 72 ∷ 58 ∷ 32 ∷ 69 ∷ 78 ∷ 68 ∷ 32 ∷ 69 ∷ 78 ∷ 68 ∷ 32 ∷ 77 ∷ 46 ∷ []); symbols = (symbol (Ident) 0 6 ∷ symbol (Ident) 7 8 ∷ symbol (Ident) 8 9 ∷ symbol (Ident) 10 13 ∷ symbol (Ident) 14 15 ∷ symbol (Ident) 15 16 ∷ symbol (Ident) 17 24 ∷ symbol (Ident) 24 25 ∷ symbol (Ident) 26 27 ∷ symbol (Ident) 27 28 ∷ symbol (Ident) 29 36 ∷ symbol (Ident) 36 37 ∷ symbol (Ident) 38 43 ∷ symbol (Ident) 44 48 ∷ symbol (Ident) 49 50 ∷ symbol (Ident) 51 53 ∷ symbol (Int (pos 1)) 54 55 ∷ symbol (Ident) 55 56 ∷ symbol (Ident) 57 58 ∷ symbol (Ident) 59 61 ∷ symbol (Int (pos 1)) 62 63 ∷ symbol (Ident) 64 65 ∷ symbol (Ident) 66 67 ∷ symbol (Int (pos 2)) 68 69 ∷ symbol (Ident) 69 70 ∷ symbol (Int (pos 4)) 71 72 ∷ symbol (Ident) 72 74 ∷ symbol (Int (pos 6)) 74 75 ∷ symbol (Ident) 75 76 ∷ symbol (Ident) 77 78 ∷ symbol (Int (negsuc 0)) 79 97 ∷ symbol (Ident) 97 98 ∷ symbol (Ident) 99 102 ∷ symbol (Ident) 103 106 ∷ symbol (Ident) 107 108 ∷ symbol (Ident) 108 109 ∷ []) }; tree = record { module_word = 0; name = 1; semicolon = 0; imports = None; decls = (S.decls None None (Some (record { var_word = 0; each = (record { names = (record { first = (record { name = 4; star = None }); more = [] }); colon = 0; of = (S.Named (record { name = 6; member = None })); semicolon = 0 } ∷ record { names = (record { first = (record { name = 8; star = None }); more = [] }); colon = 0; of = (S.Named (record { name = 10; member = None })); semicolon = 0 } ∷ []) })) S.no_procedure); body = (Some (record { begin_word = 0; stats = (S.stats (S.Case 0 (S.only (S.simple None (S.term (S.Designated 14 S.no_selector) S.no_factor) S.no_term)) 0 (S.one_case (record { low = TheLabel.Int 16; high = None }) [] 0 (S.stats (S.AssignOrCall (record { name = 18; selectors = S.no_selector }) (Some (record { becomes = 0; value = (S.only (S.simple None (S.term (S.Int 20) S.no_factor) S.no_term)) }))) S.no_stat)) (S.next_case 0 (S.one_case (record { low = TheLabel.Int 23; high = None }) (record { comma = 0; range = (record { low = TheLabel.Int 25; high = Some (record { dots = 0; label = TheLabel.Int 27 }) }) } ∷ []) 0 (S.stats S.Empty S.no_stat)) (S.next_case 0 (S.one_case (record { low = TheLabel.Int 30; high = None }) [] 0 (S.stats S.Empty S.no_stat)) S.no_next_case)) 0) S.no_stat) })); end_word = 0; end_name = 34; period = 0 } }

pub legal_62 : checked (legal_62_0 ∷ []) ≡ Legal (record { records = []; pointers = []; modules = (record { name = (77 ∷ []); objects = (record { name = (105 ∷ []); exported = false; entity = I.OfVariable 0 } ∷ record { name = (106 ∷ []); exported = false; entity = I.OfVariable 1 } ∷ []); variables = (H.Integer ∷ H.Integer ∷ []); body = 0 } ∷ []); procedures = (record { module_number = 0; line = 1; is_body = true; formals = []; result = H.Nothing; locals = []; texts = []; body = (I.next_statement (I.Case (record { form = (I.Load (I.of_type (I.Global 0 0) H.Integer)); shape = H.Integer }) (I.next_part (I.Labels (TheLabelOf.One (pos 1) ∷ [])) (I.next_statement (I.Assign (I.of_type (I.Global 0 1) H.Integer) (record { form = (I.Literal 1); shape = H.Integer })) I.no_statement) (I.next_part (I.Labels (TheLabelOf.One (pos 2) ∷ TheLabelOf.Range (pos 4) (pos 6) ∷ [])) I.no_statement (I.next_part (I.Labels (TheLabelOf.One (negsuc 0) ∷ [])) I.no_statement I.no_part)))) I.no_statement); answer = None } ∷ []); imports_in = false })
legal_62 = refl

-- MODULE M; VAR i: INTEGER; c: CHAR; BEGIN CASE c OF ''a'': | ''b''..''y'', 7FX: i := 1 END END M.
abbrev legal_63_0 : Parsed
legal_63_0 = record { source = record { bytes = (77 ∷ 79 ∷ 68 ∷ 85 ∷ 76 ∷ 69 ∷ 32 ∷ 77 ∷ 59 ∷ 32 ∷ 86 ∷ 65 ∷ 82 ∷ 32 ∷ 105 ∷ 58 ∷ 32 ∷ 73 ∷ 78 ∷ 84 ∷ 69 ∷ 71 ∷ 69 ∷ 82 ∷ 59 ∷ 32 ∷ 99 ∷ 58 ∷ 32 ∷ 67 ∷ 72 ∷ 65 ∷ 82 ∷ 59 ∷ 32 ∷ 66 ∷ 69 ∷ 71 ∷ 73 ∷ 78 ∷ 32 ∷ 67 ∷ 65 ∷ 83 ∷ 69 ∷ 32 ∷ 99 ∷ 32 ∷ 79 ∷ 70 ∷ 32 ∷ 34 ∷ 97 ∷ 34 ∷ 58 ∷ 32 ∷ 124 ∷ 32 ∷ 34 ∷ 98 ∷ 34 ∷ 46 ∷ 46 ∷ 34 ∷ 121 ∷ 34 ∷ 44 ∷ 32 ∷ 55 ∷ 70 ∷ 88 ∷ 58 ∷ 32 ∷ 105 ∷ 32 ∷ 58 ∷ 61 ∷ 32 ∷ 49 ∷ 32 ∷ 69 ∷ 78 ∷ 68 ∷ 32 ∷ 69 ∷ 78 ∷ 68 ∷ 32 ∷ 77 ∷ 46 ∷ []); symbols = (symbol (Ident) 0 6 ∷ symbol (Ident) 7 8 ∷ symbol (Ident) 8 9 ∷ symbol (Ident) 10 13 ∷ symbol (Ident) 14 15 ∷ symbol (Ident) 15 16 ∷ symbol (Ident) 17 24 ∷ symbol (Ident) 24 25 ∷ symbol (Ident) 26 27 ∷ symbol (Ident) 27 28 ∷ symbol (Ident) 29 33 ∷ symbol (Ident) 33 34 ∷ symbol (Ident) 35 40 ∷ symbol (Ident) 41 45 ∷ symbol (Ident) 46 47 ∷ symbol (Ident) 48 50 ∷ symbol (TheKind.Text) 51 54 ∷ symbol (Ident) 54 55 ∷ symbol (Ident) 56 57 ∷ symbol (TheKind.Text) 58 61 ∷ symbol (Ident) 61 63 ∷ symbol (TheKind.Text) 63 66 ∷ symbol (Ident) 66 67 ∷ symbol (TheKind.Char 127) 68 71 ∷ symbol (Ident) 71 72 ∷ symbol (Ident) 73 74 ∷ symbol (Ident) 75 77 ∷ symbol (Int (pos 1)) 78 79 ∷ symbol (Ident) 80 83 ∷ symbol (Ident) 84 87 ∷ symbol (Ident) 88 89 ∷ symbol (Ident) 89 90 ∷ []) }; tree = record { module_word = 0; name = 1; semicolon = 0; imports = None; decls = (S.decls None None (Some (record { var_word = 0; each = (record { names = (record { first = (record { name = 4; star = None }); more = [] }); colon = 0; of = (S.Named (record { name = 6; member = None })); semicolon = 0 } ∷ record { names = (record { first = (record { name = 8; star = None }); more = [] }); colon = 0; of = (S.Named (record { name = 10; member = None })); semicolon = 0 } ∷ []) })) S.no_procedure); body = (Some (record { begin_word = 0; stats = (S.stats (S.Case 0 (S.only (S.simple None (S.term (S.Designated 14 S.no_selector) S.no_factor) S.no_term)) 0 (S.one_case (record { low = TheLabel.Text 16; high = None }) [] 0 (S.stats S.Empty S.no_stat)) (S.next_case 0 (S.one_case (record { low = TheLabel.Text 19; high = Some (record { dots = 0; label = TheLabel.Text 21 }) }) (record { comma = 0; range = (record { low = TheLabel.Char 23; high = None }) } ∷ []) 0 (S.stats (S.AssignOrCall (record { name = 25; selectors = S.no_selector }) (Some (record { becomes = 0; value = (S.only (S.simple None (S.term (S.Int 27) S.no_factor) S.no_term)) }))) S.no_stat)) S.no_next_case) 0) S.no_stat) })); end_word = 0; end_name = 30; period = 0 } }

pub legal_63 : checked (legal_63_0 ∷ []) ≡ Legal (record { records = []; pointers = []; modules = (record { name = (77 ∷ []); objects = (record { name = (105 ∷ []); exported = false; entity = I.OfVariable 0 } ∷ record { name = (99 ∷ []); exported = false; entity = I.OfVariable 1 } ∷ []); variables = (H.Integer ∷ H.Char ∷ []); body = 0 } ∷ []); procedures = (record { module_number = 0; line = 1; is_body = true; formals = []; result = H.Nothing; locals = []; texts = []; body = (I.next_statement (I.Case (record { form = (I.Load (I.of_type (I.Global 0 1) H.Char)); shape = H.Char }) (I.next_part (I.Labels (TheLabelOf.One (pos 97) ∷ [])) I.no_statement (I.next_part (I.Labels (TheLabelOf.Range (pos 98) (pos 121) ∷ TheLabelOf.One (pos 127) ∷ [])) (I.next_statement (I.Assign (I.of_type (I.Global 0 0) H.Integer) (record { form = (I.Literal 1); shape = H.Integer })) I.no_statement) I.no_part))) I.no_statement); answer = None } ∷ []); imports_in = false })
legal_63 = refl

-- MODULE M; VAR y: BYTE; BEGIN CASE y OF END END M.
abbrev legal_64_0 : Parsed
legal_64_0 = record { source = record { bytes = (77 ∷ 79 ∷ 68 ∷ 85 ∷ 76 ∷ 69 ∷ 32 ∷ 77 ∷ 59 ∷ 32 ∷ 86 ∷ 65 ∷ 82 ∷ 32 ∷ 121 ∷ 58 ∷ 32 ∷ 66 ∷ 89 ∷ 84 ∷ 69 ∷ 59 ∷ 32 ∷ 66 ∷ 69 ∷ 71 ∷ 73 ∷ 78 ∷ 32 ∷ 67 ∷ 65 ∷ 83 ∷ 69 ∷ 32 ∷ 121 ∷ 32 ∷ 79 ∷ 70 ∷ 32 ∷ 69 ∷ 78 ∷ 68 ∷ 32 ∷ 69 ∷ 78 ∷ 68 ∷ 32 ∷ 77 ∷ 46 ∷ []); symbols = (symbol (Ident) 0 6 ∷ symbol (Ident) 7 8 ∷ symbol (Ident) 8 9 ∷ symbol (Ident) 10 13 ∷ symbol (Ident) 14 15 ∷ symbol (Ident) 15 16 ∷ symbol (Ident) 17 21 ∷ symbol (Ident) 21 22 ∷ symbol (Ident) 23 28 ∷ symbol (Ident) 29 33 ∷ symbol (Ident) 34 35 ∷ symbol (Ident) 36 38 ∷ symbol (Ident) 39 42 ∷ symbol (Ident) 43 46 ∷ symbol (Ident) 47 48 ∷ symbol (Ident) 48 49 ∷ []) }; tree = record { module_word = 0; name = 1; semicolon = 0; imports = None; decls = (S.decls None None (Some (record { var_word = 0; each = (record { names = (record { first = (record { name = 4; star = None }); more = [] }); colon = 0; of = (S.Named (record { name = 6; member = None })); semicolon = 0 } ∷ []) })) S.no_procedure); body = (Some (record { begin_word = 0; stats = (S.stats (S.Case 0 (S.only (S.simple None (S.term (S.Designated 10 S.no_selector) S.no_factor) S.no_term)) 0 S.no_case S.no_next_case 0) S.no_stat) })); end_word = 0; end_name = 14; period = 0 } }

pub legal_64 : checked (legal_64_0 ∷ []) ≡ Legal (record { records = []; pointers = []; modules = (record { name = (77 ∷ []); objects = (record { name = (121 ∷ []); exported = false; entity = I.OfVariable 0 } ∷ []); variables = (H.Byte ∷ []); body = 0 } ∷ []); procedures = (record { module_number = 0; line = 1; is_body = true; formals = []; result = H.Nothing; locals = []; texts = []; body = (I.next_statement (I.Case (record { form = (I.Load (I.of_type (I.Global 0 0) H.Byte)); shape = H.Byte }) I.no_part) I.no_statement); answer = None } ∷ []); imports_in = false })
legal_64 = refl

-- MODULE M; VAR i: INTEGER; BEGIN CASE i + 1 OF 0: END END M.
abbrev legal_65_0 : Parsed
legal_65_0 = record { source = record { bytes = (77 ∷ 79 ∷ 68 ∷ 85 ∷ 76 ∷ 69 ∷ 32 ∷ 77 ∷ 59 ∷ 32 ∷ 86 ∷ 65 ∷ 82 ∷ 32 ∷ 105 ∷ 58 ∷ 32 ∷ 73 ∷ 78 ∷ 84 ∷ 69 ∷ 71 ∷ 69 ∷ 82 ∷ 59 ∷ 32 ∷ 66 ∷ 69 ∷ 71 ∷ 73 ∷ 78 ∷ 32 ∷ 67 ∷ 65 ∷ 83 ∷ 69 ∷ 32 ∷ 105 ∷ 32 ∷ 43 ∷ 32 ∷ 49 ∷ 32 ∷ 79 ∷ 70 ∷ 32 ∷ 48 ∷ 58 ∷ 32 ∷ 69 ∷ 78 ∷ 68 ∷ 32 ∷ 69 ∷ 78 ∷ 68 ∷ 32 ∷ 77 ∷ 46 ∷ []); symbols = (symbol (Ident) 0 6 ∷ symbol (Ident) 7 8 ∷ symbol (Ident) 8 9 ∷ symbol (Ident) 10 13 ∷ symbol (Ident) 14 15 ∷ symbol (Ident) 15 16 ∷ symbol (Ident) 17 24 ∷ symbol (Ident) 24 25 ∷ symbol (Ident) 26 31 ∷ symbol (Ident) 32 36 ∷ symbol (Ident) 37 38 ∷ symbol (Ident) 39 40 ∷ symbol (Int (pos 1)) 41 42 ∷ symbol (Ident) 43 45 ∷ symbol (Int (pos 0)) 46 47 ∷ symbol (Ident) 47 48 ∷ symbol (Ident) 49 52 ∷ symbol (Ident) 53 56 ∷ symbol (Ident) 57 58 ∷ symbol (Ident) 58 59 ∷ []) }; tree = record { module_word = 0; name = 1; semicolon = 0; imports = None; decls = (S.decls None None (Some (record { var_word = 0; each = (record { names = (record { first = (record { name = 4; star = None }); more = [] }); colon = 0; of = (S.Named (record { name = 6; member = None })); semicolon = 0 } ∷ []) })) S.no_procedure); body = (Some (record { begin_word = 0; stats = (S.stats (S.Case 0 (S.only (S.simple None (S.term (S.Designated 10 S.no_selector) S.no_factor) (S.added (TheAddOperator.Plus 11) (S.term (S.Int 12) S.no_factor) S.no_term))) 0 (S.one_case (record { low = TheLabel.Int 14; high = None }) [] 0 (S.stats S.Empty S.no_stat)) S.no_next_case 0) S.no_stat) })); end_word = 0; end_name = 18; period = 0 } }

pub legal_65 : checked (legal_65_0 ∷ []) ≡ Legal (record { records = []; pointers = []; modules = (record { name = (77 ∷ []); objects = (record { name = (105 ∷ []); exported = false; entity = I.OfVariable 0 } ∷ []); variables = (H.Integer ∷ []); body = 0 } ∷ []); procedures = (record { module_number = 0; line = 1; is_body = true; formals = []; result = H.Nothing; locals = []; texts = []; body = (I.next_statement (I.Case (record { form = (I.Linked (I.Load (I.of_type (I.Global 0 0) H.Integer)) (I.Operate TheBinary.Add (I.Literal 1))); shape = H.Integer }) (I.next_part (I.Labels (TheLabelOf.One (pos 0) ∷ [])) I.no_statement I.no_part)) I.no_statement); answer = None } ∷ []); imports_in = false })
legal_65 = refl

-- MODULE M; VAR i: INTEGER; BEGIN ;; i := 1;; END M.
abbrev legal_66_0 : Parsed
legal_66_0 = record { source = record { bytes = (77 ∷ 79 ∷ 68 ∷ 85 ∷ 76 ∷ 69 ∷ 32 ∷ 77 ∷ 59 ∷ 32 ∷ 86 ∷ 65 ∷ 82 ∷ 32 ∷ 105 ∷ 58 ∷ 32 ∷ 73 ∷ 78 ∷ 84 ∷ 69 ∷ 71 ∷ 69 ∷ 82 ∷ 59 ∷ 32 ∷ 66 ∷ 69 ∷ 71 ∷ 73 ∷ 78 ∷ 32 ∷ 59 ∷ 59 ∷ 32 ∷ 105 ∷ 32 ∷ 58 ∷ 61 ∷ 32 ∷ 49 ∷ 59 ∷ 59 ∷ 32 ∷ 32 ∷ 69 ∷ 78 ∷ 68 ∷ 32 ∷ 77 ∷ 46 ∷ []); symbols = (symbol (Ident) 0 6 ∷ symbol (Ident) 7 8 ∷ symbol (Ident) 8 9 ∷ symbol (Ident) 10 13 ∷ symbol (Ident) 14 15 ∷ symbol (Ident) 15 16 ∷ symbol (Ident) 17 24 ∷ symbol (Ident) 24 25 ∷ symbol (Ident) 26 31 ∷ symbol (Ident) 32 33 ∷ symbol (Ident) 33 34 ∷ symbol (Ident) 35 36 ∷ symbol (Ident) 37 39 ∷ symbol (Int (pos 1)) 40 41 ∷ symbol (Ident) 41 42 ∷ symbol (Ident) 42 43 ∷ symbol (Ident) 45 48 ∷ symbol (Ident) 49 50 ∷ symbol (Ident) 50 51 ∷ []) }; tree = record { module_word = 0; name = 1; semicolon = 0; imports = None; decls = (S.decls None None (Some (record { var_word = 0; each = (record { names = (record { first = (record { name = 4; star = None }); more = [] }); colon = 0; of = (S.Named (record { name = 6; member = None })); semicolon = 0 } ∷ []) })) S.no_procedure); body = (Some (record { begin_word = 0; stats = (S.stats (S.AssignOrCall (record { name = 11; selectors = S.no_selector }) (Some (record { becomes = 0; value = (S.only (S.simple None (S.term (S.Int 13) S.no_factor) S.no_term)) }))) S.no_stat) })); end_word = 0; end_name = 17; period = 0 } }

pub legal_66 : checked (legal_66_0 ∷ []) ≡ Legal (record { records = []; pointers = []; modules = (record { name = (77 ∷ []); objects = (record { name = (105 ∷ []); exported = false; entity = I.OfVariable 0 } ∷ []); variables = (H.Integer ∷ []); body = 0 } ∷ []); procedures = (record { module_number = 0; line = 1; is_body = true; formals = []; result = H.Nothing; locals = []; texts = []; body = (I.next_statement (I.Assign (I.of_type (I.Global 0 0) H.Integer) (record { form = (I.Literal 1); shape = H.Integer })) I.no_statement); answer = None } ∷ []); imports_in = false })
legal_66 = refl

-- MODULE M; VAR i: INTEGER; BEGIN i := 0FFFFFFFFFFFFFFFFH; i := 9223372036854775807 END M.
abbrev legal_67_0 : Parsed
legal_67_0 = record { source = record { bytes = (77 ∷ 79 ∷ 68 ∷ 85 ∷ 76 ∷ 69 ∷ 32 ∷ 77 ∷ 59 ∷ 32 ∷ 86 ∷ 65 ∷ 82 ∷ 32 ∷ 105 ∷ 58 ∷ 32 ∷ 73 ∷ 78 ∷ 84 ∷ 69 ∷ 71 ∷ 69 ∷ 82 ∷ 59 ∷ 32 ∷ 66 ∷ 69 ∷ 71 ∷ 73 ∷ 78 ∷ 32 ∷ 105 ∷ 32 ∷ 58 ∷ 61 ∷ 32 ∷ 48 ∷ 70 ∷ 70 ∷ 70 ∷ 70 ∷ 70 ∷ 70 ∷ 70 ∷ 70 ∷ 70 ∷ 70 ∷ 70 ∷ 70 ∷ 70 ∷ 70 ∷ 70 ∷ 70 ∷ 72 ∷ 59 ∷ 32 ∷ 105 ∷ 32 ∷ 58 ∷ 61 ∷ 32 ∷ 57 ∷ 50 ∷ 50 ∷ 51 ∷ 51 ∷ 55 ∷ 50 ∷ 48 ∷ 51 ∷ 54 ∷ 56 ∷ 53 ∷ 52 ∷ 55 ∷ 55 ∷ 53 ∷ 56 ∷ 48 ∷ 55 ∷ 32 ∷ 69 ∷ 78 ∷ 68 ∷ 32 ∷ 77 ∷ 46 ∷ []); symbols = (symbol (Ident) 0 6 ∷ symbol (Ident) 7 8 ∷ symbol (Ident) 8 9 ∷ symbol (Ident) 10 13 ∷ symbol (Ident) 14 15 ∷ symbol (Ident) 15 16 ∷ symbol (Ident) 17 24 ∷ symbol (Ident) 24 25 ∷ symbol (Ident) 26 31 ∷ symbol (Ident) 32 33 ∷ symbol (Ident) 34 36 ∷ symbol (Int (negsuc 0)) 37 55 ∷ symbol (Ident) 55 56 ∷ symbol (Ident) 57 58 ∷ symbol (Ident) 59 61 ∷ symbol (Int (pos 9223372036854775807)) 62 81 ∷ symbol (Ident) 82 85 ∷ symbol (Ident) 86 87 ∷ symbol (Ident) 87 88 ∷ []) }; tree = record { module_word = 0; name = 1; semicolon = 0; imports = None; decls = (S.decls None None (Some (record { var_word = 0; each = (record { names = (record { first = (record { name = 4; star = None }); more = [] }); colon = 0; of = (S.Named (record { name = 6; member = None })); semicolon = 0 } ∷ []) })) S.no_procedure); body = (Some (record { begin_word = 0; stats = (S.stats (S.AssignOrCall (record { name = 9; selectors = S.no_selector }) (Some (record { becomes = 0; value = (S.only (S.simple None (S.term (S.Int 11) S.no_factor) S.no_term)) }))) (S.next_stat 0 (S.AssignOrCall (record { name = 13; selectors = S.no_selector }) (Some (record { becomes = 0; value = (S.only (S.simple None (S.term (S.Int 15) S.no_factor) S.no_term)) }))) S.no_stat)) })); end_word = 0; end_name = 17; period = 0 } }

pub legal_67 : checked (legal_67_0 ∷ []) ≡ Legal (record { records = []; pointers = []; modules = (record { name = (77 ∷ []); objects = (record { name = (105 ∷ []); exported = false; entity = I.OfVariable 0 } ∷ []); variables = (H.Integer ∷ []); body = 0 } ∷ []); procedures = (record { module_number = 0; line = 1; is_body = true; formals = []; result = H.Nothing; locals = []; texts = []; body = (I.next_statement (I.Assign (I.of_type (I.Global 0 0) H.Integer) (record { form = (I.Literal 18446744073709551615); shape = H.Integer })) (I.next_statement (I.Assign (I.of_type (I.Global 0 0) H.Integer) (record { form = (I.Literal 9223372036854775807); shape = H.Integer })) I.no_statement)); answer = None } ∷ []); imports_in = false })
legal_67 = refl

-- MODULE M; PROCEDURE P; CONST c = 3; TYPE T = ARRAY c OF CHAR; VAR x: T; PROCEDURE Q; VAR y: T; BEGIN y[c - 1] := ''a''; P END Q; BEGIN Q; x := ''ab'' END P; BEGIN P END M.
abbrev scope_1_0 : Parsed
scope_1_0 = record { source = record { bytes = (77 ∷ 79 ∷ 68 ∷ 85 ∷ 76 ∷ 69 ∷ 32 ∷ 77 ∷ 59 ∷ 32 ∷ 80 ∷ 82 ∷ 79 ∷ 67 ∷ 69 ∷ 68 ∷ 85 ∷ 82 ∷ 69 ∷ 32 ∷ 80 ∷ 59 ∷ 32 ∷ 67 ∷ 79 ∷ 78 ∷ 83 ∷ 84 ∷ 32 ∷ 99 ∷ 32 ∷ 61 ∷ 32 ∷ 51 ∷ 59 ∷ 32 ∷ 84 ∷ 89 ∷ 80 ∷ 69 ∷ 32 ∷ 84 ∷ 32 ∷ 61 ∷ 32 ∷ 65 ∷ 82 ∷ 82 ∷ 65 ∷ 89 ∷ 32 ∷ 99 ∷ 32 ∷ 79 ∷ 70 ∷ 32 ∷ 67 ∷ 72 ∷ 65 ∷ 82 ∷ 59 ∷ 32 ∷ 86 ∷ 65 ∷ 82 ∷ 32 ∷ 120 ∷ 58 ∷ 32 ∷ 84 ∷ 59 ∷ 32 ∷ 80 ∷ 82 ∷ 79 ∷ 67 ∷ 69 ∷ 68 ∷ 85 ∷ 82 ∷ 69 ∷ 32 ∷ 81 ∷ 59 ∷ 32 ∷ 86 ∷ 65 ∷ 82 ∷ 32 ∷ 121 ∷ 58 ∷ 32 ∷ 84 ∷ 59 ∷ 32 ∷ 66 ∷ 69 ∷ 71 ∷ 73 ∷ 78 ∷ 32 ∷ 121 ∷ 91 ∷ 99 ∷ 32 ∷ 45 ∷ 32 ∷ 49 ∷ 93 ∷ 32 ∷ 58 ∷ 61 ∷ 32 ∷ 34 ∷ 97 ∷ 34 ∷ 59 ∷ 32 ∷ 80 ∷ 32 ∷ 69 ∷ 78 ∷ 68 ∷ 32 ∷ 81 ∷ 59 ∷ 32 ∷ 66 ∷ 69 ∷ 71 ∷ 73 ∷ 78 ∷ 32 ∷ 81 ∷ 59 ∷ 32 ∷ 120 ∷ 32 ∷ 58 ∷ 61 ∷ 32 ∷ 34 ∷ 97 ∷ 98 ∷ 34 ∷ 32 ∷ 69 ∷ 78 ∷ 68 ∷ 32 ∷ 80 ∷ 59 ∷ 32 ∷ 66 ∷ 69 ∷ 71 ∷ 73 ∷ 78 ∷ 32 ∷ 80 ∷ 32 ∷ 69 ∷ 78 ∷ 68 ∷ 32 ∷ 77 ∷ 46 ∷ []); symbols = (symbol (Ident) 0 6 ∷ symbol (Ident) 7 8 ∷ symbol (Ident) 8 9 ∷ symbol (Ident) 10 19 ∷ symbol (Ident) 20 21 ∷ symbol (Ident) 21 22 ∷ symbol (Ident) 23 28 ∷ symbol (Ident) 29 30 ∷ symbol (Ident) 31 32 ∷ symbol (Int (pos 3)) 33 34 ∷ symbol (Ident) 34 35 ∷ symbol (Ident) 36 40 ∷ symbol (Ident) 41 42 ∷ symbol (Ident) 43 44 ∷ symbol (Ident) 45 50 ∷ symbol (Ident) 51 52 ∷ symbol (Ident) 53 55 ∷ symbol (Ident) 56 60 ∷ symbol (Ident) 60 61 ∷ symbol (Ident) 62 65 ∷ symbol (Ident) 66 67 ∷ symbol (Ident) 67 68 ∷ symbol (Ident) 69 70 ∷ symbol (Ident) 70 71 ∷ symbol (Ident) 72 81 ∷ symbol (Ident) 82 83 ∷ symbol (Ident) 83 84 ∷ symbol (Ident) 85 88 ∷ symbol (Ident) 89 90 ∷ symbol (Ident) 90 91 ∷ symbol (Ident) 92 93 ∷ symbol (Ident) 93 94 ∷ symbol (Ident) 95 100 ∷ symbol (Ident) 101 102 ∷ symbol (Ident) 102 103 ∷ symbol (Ident) 103 104 ∷ symbol (Ident) 105 106 ∷ symbol (Int (pos 1)) 107 108 ∷ symbol (Ident) 108 109 ∷ symbol (Ident) 110 112 ∷ symbol (TheKind.Text) 113 116 ∷ symbol (Ident) 116 117 ∷ symbol (Ident) 118 119 ∷ symbol (Ident) 120 123 ∷ symbol (Ident) 124 125 ∷ symbol (Ident) 125 126 ∷ symbol (Ident) 127 132 ∷ symbol (Ident) 133 134 ∷ symbol (Ident) 134 135 ∷ symbol (Ident) 136 137 ∷ symbol (Ident) 138 140 ∷ symbol (TheKind.Text) 141 145 ∷ symbol (Ident) 146 149 ∷ symbol (Ident) 150 151 ∷ symbol (Ident) 151 152 ∷ symbol (Ident) 153 158 ∷ symbol (Ident) 159 160 ∷ symbol (Ident) 161 164 ∷ symbol (Ident) 165 166 ∷ symbol (Ident) 166 167 ∷ []) }; tree = record { module_word = 0; name = 1; semicolon = 0; imports = None; decls = (S.decls None None None (S.procedure 0 (record { name = 4; star = None }) None 0 (S.decls (Some (record { const_word = 0; each = (record { name = (record { name = 7; star = None }); equal = 0; value = (S.only (S.simple None (S.term (S.Int 9) S.no_factor) S.no_term)); semicolon = 0 } ∷ []) })) (Some (record { type_word = 0; each = (record { name = (record { name = 12; star = None }); equal = 0; is = (S.Array 14 (S.only (S.simple None (S.term (S.Designated 15 S.no_selector) S.no_factor) S.no_term)) S.no_expression 0 (S.Named (record { name = 17; member = None }))); semicolon = 0 } ∷ []) })) (Some (record { var_word = 0; each = (record { names = (record { first = (record { name = 20; star = None }); more = [] }); colon = 0; of = (S.Named (record { name = 22; member = None })); semicolon = 0 } ∷ []) })) (S.procedure 0 (record { name = 25; star = None }) None 0 (S.decls None None (Some (record { var_word = 0; each = (record { names = (record { first = (record { name = 28; star = None }); more = [] }); colon = 0; of = (S.Named (record { name = 30; member = None })); semicolon = 0 } ∷ []) })) S.no_procedure) (Some (record { begin_word = 0; stats = (S.stats (S.AssignOrCall (record { name = 33; selectors = (S.selected (S.Index 0 (S.expressions (S.only (S.simple None (S.term (S.Designated 35 S.no_selector) S.no_factor) (S.added (TheAddOperator.Minus 36) (S.term (S.Int 37) S.no_factor) S.no_term))) S.no_expression) 0) S.no_selector) }) (Some (record { becomes = 0; value = (S.only (S.simple None (S.term (S.Text 40) S.no_factor) S.no_term)) }))) (S.next_stat 0 (S.AssignOrCall (record { name = 42; selectors = S.no_selector }) None) S.no_stat)) })) None 43 44 0 S.no_procedure)) (Some (record { begin_word = 0; stats = (S.stats (S.AssignOrCall (record { name = 47; selectors = S.no_selector }) None) (S.next_stat 0 (S.AssignOrCall (record { name = 49; selectors = S.no_selector }) (Some (record { becomes = 0; value = (S.only (S.simple None (S.term (S.Text 51) S.no_factor) S.no_term)) }))) S.no_stat)) })) None 52 53 0 S.no_procedure)); body = (Some (record { begin_word = 0; stats = (S.stats (S.AssignOrCall (record { name = 56; selectors = S.no_selector }) None) S.no_stat) })); end_word = 0; end_name = 58; period = 0 } }

pub scope_1 : checked (scope_1_0 ∷ []) ≡ Legal (record { records = []; pointers = []; modules = (record { name = (77 ∷ []); objects = (record { name = (80 ∷ []); exported = false; entity = I.OfProcedure 0 } ∷ []); variables = []; body = 2 } ∷ []); procedures = (record { module_number = 0; line = 1; is_body = false; formals = []; result = H.Nothing; locals = ((H.Array 3 H.Char) ∷ []); texts = ((97 ∷ 98 ∷ []) ∷ []); body = (I.next_statement (I.Invoke (I.Direct 1 I.no_argument)) (I.next_statement (I.CopyArray (I.of_type (I.Local 0) (H.Array 3 H.Char)) (I.of_type (I.Text (97 ∷ 98 ∷ [])) (H.Text 2))) I.no_statement)); answer = None } ∷ record { module_number = 0; line = 1; is_body = false; formals = []; result = H.Nothing; locals = ((H.Array 3 H.Char) ∷ []); texts = []; body = (I.next_statement (I.Assign (I.of_type (I.Index (I.Local 0) (Some 3) H.Char (I.Linked (I.Literal 3) (I.Operate TheBinary.Subtract (I.Literal 1)))) H.Char) (record { form = (I.Literal 97); shape = H.Char })) (I.next_statement (I.Invoke (I.Direct 0 I.no_argument)) I.no_statement)); answer = None } ∷ record { module_number = 0; line = 1; is_body = true; formals = []; result = H.Nothing; locals = []; texts = []; body = (I.next_statement (I.Invoke (I.Direct 0 I.no_argument)) I.no_statement); answer = None } ∷ []); imports_in = false })
scope_1 = refl

-- MODULE M; TYPE L = POINTER TO R; R = RECORD n: L; m: POINTER TO R END; VAR l: L; BEGIN NEW(l.n); NEW(l.m); l.m.n := l; l.n := l END M.
abbrev scope_2_0 : Parsed
scope_2_0 = record { source = record { bytes = (77 ∷ 79 ∷ 68 ∷ 85 ∷ 76 ∷ 69 ∷ 32 ∷ 77 ∷ 59 ∷ 32 ∷ 84 ∷ 89 ∷ 80 ∷ 69 ∷ 32 ∷ 76 ∷ 32 ∷ 61 ∷ 32 ∷ 80 ∷ 79 ∷ 73 ∷ 78 ∷ 84 ∷ 69 ∷ 82 ∷ 32 ∷ 84 ∷ 79 ∷ 32 ∷ 82 ∷ 59 ∷ 32 ∷ 82 ∷ 32 ∷ 61 ∷ 32 ∷ 82 ∷ 69 ∷ 67 ∷ 79 ∷ 82 ∷ 68 ∷ 32 ∷ 110 ∷ 58 ∷ 32 ∷ 76 ∷ 59 ∷ 32 ∷ 109 ∷ 58 ∷ 32 ∷ 80 ∷ 79 ∷ 73 ∷ 78 ∷ 84 ∷ 69 ∷ 82 ∷ 32 ∷ 84 ∷ 79 ∷ 32 ∷ 82 ∷ 32 ∷ 69 ∷ 78 ∷ 68 ∷ 59 ∷ 32 ∷ 86 ∷ 65 ∷ 82 ∷ 32 ∷ 108 ∷ 58 ∷ 32 ∷ 76 ∷ 59 ∷ 32 ∷ 66 ∷ 69 ∷ 71 ∷ 73 ∷ 78 ∷ 32 ∷ 78 ∷ 69 ∷ 87 ∷ 40 ∷ 108 ∷ 46 ∷ 110 ∷ 41 ∷ 59 ∷ 32 ∷ 78 ∷ 69 ∷ 87 ∷ 40 ∷ 108 ∷ 46 ∷ 109 ∷ 41 ∷ 59 ∷ 32 ∷ 108 ∷ 46 ∷ 109 ∷ 46 ∷ 110 ∷ 32 ∷ 58 ∷ 61 ∷ 32 ∷ 108 ∷ 59 ∷ 32 ∷ 108 ∷ 46 ∷ 110 ∷ 32 ∷ 58 ∷ 61 ∷ 32 ∷ 108 ∷ 32 ∷ 69 ∷ 78 ∷ 68 ∷ 32 ∷ 77 ∷ 46 ∷ []); symbols = (symbol (Ident) 0 6 ∷ symbol (Ident) 7 8 ∷ symbol (Ident) 8 9 ∷ symbol (Ident) 10 14 ∷ symbol (Ident) 15 16 ∷ symbol (Ident) 17 18 ∷ symbol (Ident) 19 26 ∷ symbol (Ident) 27 29 ∷ symbol (Ident) 30 31 ∷ symbol (Ident) 31 32 ∷ symbol (Ident) 33 34 ∷ symbol (Ident) 35 36 ∷ symbol (Ident) 37 43 ∷ symbol (Ident) 44 45 ∷ symbol (Ident) 45 46 ∷ symbol (Ident) 47 48 ∷ symbol (Ident) 48 49 ∷ symbol (Ident) 50 51 ∷ symbol (Ident) 51 52 ∷ symbol (Ident) 53 60 ∷ symbol (Ident) 61 63 ∷ symbol (Ident) 64 65 ∷ symbol (Ident) 66 69 ∷ symbol (Ident) 69 70 ∷ symbol (Ident) 71 74 ∷ symbol (Ident) 75 76 ∷ symbol (Ident) 76 77 ∷ symbol (Ident) 78 79 ∷ symbol (Ident) 79 80 ∷ symbol (Ident) 81 86 ∷ symbol (Ident) 87 90 ∷ symbol (Ident) 90 91 ∷ symbol (Ident) 91 92 ∷ symbol (Ident) 92 93 ∷ symbol (Ident) 93 94 ∷ symbol (Ident) 94 95 ∷ symbol (Ident) 95 96 ∷ symbol (Ident) 97 100 ∷ symbol (Ident) 100 101 ∷ symbol (Ident) 101 102 ∷ symbol (Ident) 102 103 ∷ symbol (Ident) 103 104 ∷ symbol (Ident) 104 105 ∷ symbol (Ident) 105 106 ∷ symbol (Ident) 107 108 ∷ symbol (Ident) 108 109 ∷ symbol (Ident) 109 110 ∷ symbol (Ident) 110 111 ∷ symbol (Ident) 111 112 ∷ symbol (Ident) 113 115 ∷ symbol (Ident) 116 117 ∷ symbol (Ident) 117 118 ∷ symbol (Ident) 119 120 ∷ symbol (Ident) 120 121 ∷ symbol (Ident) 121 122 ∷ symbol (Ident) 123 125 ∷ symbol (Ident) 126 127 ∷ symbol (Ident) 128 131 ∷ symbol (Ident) 132 133 ∷ symbol (Ident) 133 134 ∷ []) }; tree = record { module_word = 0; name = 1; semicolon = 0; imports = None; decls = (S.decls None (Some (record { type_word = 0; each = (record { name = (record { name = 4; star = None }); equal = 0; is = (S.Pointer 6 0 (S.Named (record { name = 8; member = None }))); semicolon = 0 } ∷ record { name = (record { name = 10; star = None }); equal = 0; is = (S.Record 12 None (S.fields (record { first = (record { name = 13; star = None }); more = [] }) 0 (S.Named (record { name = 15; member = None }))) (S.next_fields 0 (S.fields (record { first = (record { name = 17; star = None }); more = [] }) 0 (S.Pointer 19 0 (S.Named (record { name = 21; member = None })))) S.no_more_fields) 0); semicolon = 0 } ∷ []) })) (Some (record { var_word = 0; each = (record { names = (record { first = (record { name = 25; star = None }); more = [] }); colon = 0; of = (S.Named (record { name = 27; member = None })); semicolon = 0 } ∷ []) })) S.no_procedure); body = (Some (record { begin_word = 0; stats = (S.stats (S.AssignOrCall (record { name = 30; selectors = (S.selected (S.Parens 0 (S.expressions (S.only (S.simple None (S.term (S.Designated 32 (S.selected (S.Field 0 34) S.no_selector)) S.no_factor) S.no_term)) S.no_expression) 0) S.no_selector) }) None) (S.next_stat 0 (S.AssignOrCall (record { name = 37; selectors = (S.selected (S.Parens 0 (S.expressions (S.only (S.simple None (S.term (S.Designated 39 (S.selected (S.Field 0 41) S.no_selector)) S.no_factor) S.no_term)) S.no_expression) 0) S.no_selector) }) None) (S.next_stat 0 (S.AssignOrCall (record { name = 44; selectors = (S.selected (S.Field 0 46) (S.selected (S.Field 0 48) S.no_selector)) }) (Some (record { becomes = 0; value = (S.only (S.simple None (S.term (S.Designated 50 S.no_selector) S.no_factor) S.no_term)) }))) (S.next_stat 0 (S.AssignOrCall (record { name = 52; selectors = (S.selected (S.Field 0 54) S.no_selector) }) (Some (record { becomes = 0; value = (S.only (S.simple None (S.term (S.Designated 56 S.no_selector) S.no_factor) S.no_term)) }))) S.no_stat)))) })); end_word = 0; end_name = 58; period = 0 } }

pub scope_2 : checked (scope_2_0 ∷ []) ≡ Legal (record { records = (record { module_number = 0; base = None; level = 0; fields = (record { name = (110 ∷ []); exported = false; shape = (H.Pointer 0) } ∷ record { name = (109 ∷ []); exported = false; shape = (H.Pointer 1) } ∷ []); cells = 2; extent = record { bytes = 16; wide = true } } ∷ []); pointers = (Some 0 ∷ Some 0 ∷ []); modules = (record { name = (77 ∷ []); objects = (record { name = (76 ∷ []); exported = false; entity = I.OfType (H.Pointer 0) } ∷ record { name = (82 ∷ []); exported = false; entity = I.OfType (H.Record 0) } ∷ record { name = (108 ∷ []); exported = false; entity = I.OfVariable 0 } ∷ []); variables = ((H.Pointer 0) ∷ []); body = 0 } ∷ []); procedures = (record { module_number = 0; line = 1; is_body = true; formals = []; result = H.Nothing; locals = []; texts = []; body = (I.next_statement (I.New (I.of_type (I.Field (I.Dereference (I.Load (I.of_type (I.Global 0 0) (H.Pointer 0)))) 0 0) (H.Pointer 0))) (I.next_statement (I.New (I.of_type (I.Field (I.Dereference (I.Load (I.of_type (I.Global 0 0) (H.Pointer 0)))) 0 1) (H.Pointer 1))) (I.next_statement (I.Assign (I.of_type (I.Field (I.Dereference (I.Load (I.of_type (I.Field (I.Dereference (I.Load (I.of_type (I.Global 0 0) (H.Pointer 0)))) 0 1) (H.Pointer 1)))) 0 0) (H.Pointer 0)) (record { form = (I.Load (I.of_type (I.Global 0 0) (H.Pointer 0))); shape = (H.Pointer 0) })) (I.next_statement (I.Assign (I.of_type (I.Field (I.Dereference (I.Load (I.of_type (I.Global 0 0) (H.Pointer 0)))) 0 0) (H.Pointer 0)) (record { form = (I.Load (I.of_type (I.Global 0 0) (H.Pointer 0))); shape = (H.Pointer 0) })) I.no_statement)))); answer = None } ∷ []); imports_in = false })
scope_2 = refl

-- MODULE M; PROCEDURE P(n: INTEGER): INTEGER; VAR r: INTEGER; BEGIN IF n > 0 THEN r := P(n - 1) END RETURN r + n END P; END M.
abbrev scope_3_0 : Parsed
scope_3_0 = record { source = record { bytes = (77 ∷ 79 ∷ 68 ∷ 85 ∷ 76 ∷ 69 ∷ 32 ∷ 77 ∷ 59 ∷ 32 ∷ 80 ∷ 82 ∷ 79 ∷ 67 ∷ 69 ∷ 68 ∷ 85 ∷ 82 ∷ 69 ∷ 32 ∷ 80 ∷ 40 ∷ 110 ∷ 58 ∷ 32 ∷ 73 ∷ 78 ∷ 84 ∷ 69 ∷ 71 ∷ 69 ∷ 82 ∷ 41 ∷ 58 ∷ 32 ∷ 73 ∷ 78 ∷ 84 ∷ 69 ∷ 71 ∷ 69 ∷ 82 ∷ 59 ∷ 32 ∷ 86 ∷ 65 ∷ 82 ∷ 32 ∷ 114 ∷ 58 ∷ 32 ∷ 73 ∷ 78 ∷ 84 ∷ 69 ∷ 71 ∷ 69 ∷ 82 ∷ 59 ∷ 32 ∷ 66 ∷ 69 ∷ 71 ∷ 73 ∷ 78 ∷ 32 ∷ 73 ∷ 70 ∷ 32 ∷ 110 ∷ 32 ∷ 62 ∷ 32 ∷ 48 ∷ 32 ∷ 84 ∷ 72 ∷ 69 ∷ 78 ∷ 32 ∷ 114 ∷ 32 ∷ 58 ∷ 61 ∷ 32 ∷ 80 ∷ 40 ∷ 110 ∷ 32 ∷ 45 ∷ 32 ∷ 49 ∷ 41 ∷ 32 ∷ 69 ∷ 78 ∷ 68 ∷ 32 ∷ 82 ∷ 69 ∷ 84 ∷ 85 ∷ 82 ∷ 78 ∷ 32 ∷ 114 ∷ 32 ∷ 43 ∷ 32 ∷ 110 ∷ 32 ∷ 69 ∷ 78 ∷ 68 ∷ 32 ∷ 80 ∷ 59 ∷ 32 ∷ 69 ∷ 78 ∷ 68 ∷ 32 ∷ 77 ∷ 46 ∷ []); symbols = (symbol (Ident) 0 6 ∷ symbol (Ident) 7 8 ∷ symbol (Ident) 8 9 ∷ symbol (Ident) 10 19 ∷ symbol (Ident) 20 21 ∷ symbol (Ident) 21 22 ∷ symbol (Ident) 22 23 ∷ symbol (Ident) 23 24 ∷ symbol (Ident) 25 32 ∷ symbol (Ident) 32 33 ∷ symbol (Ident) 33 34 ∷ symbol (Ident) 35 42 ∷ symbol (Ident) 42 43 ∷ symbol (Ident) 44 47 ∷ symbol (Ident) 48 49 ∷ symbol (Ident) 49 50 ∷ symbol (Ident) 51 58 ∷ symbol (Ident) 58 59 ∷ symbol (Ident) 60 65 ∷ symbol (Ident) 66 68 ∷ symbol (Ident) 69 70 ∷ symbol (Ident) 71 72 ∷ symbol (Int (pos 0)) 73 74 ∷ symbol (Ident) 75 79 ∷ symbol (Ident) 80 81 ∷ symbol (Ident) 82 84 ∷ symbol (Ident) 85 86 ∷ symbol (Ident) 86 87 ∷ symbol (Ident) 87 88 ∷ symbol (Ident) 89 90 ∷ symbol (Int (pos 1)) 91 92 ∷ symbol (Ident) 92 93 ∷ symbol (Ident) 94 97 ∷ symbol (Ident) 98 104 ∷ symbol (Ident) 105 106 ∷ symbol (Ident) 107 108 ∷ symbol (Ident) 109 110 ∷ symbol (Ident) 111 114 ∷ symbol (Ident) 115 116 ∷ symbol (Ident) 116 117 ∷ symbol (Ident) 118 121 ∷ symbol (Ident) 122 123 ∷ symbol (Ident) 123 124 ∷ []) }; tree = record { module_word = 0; name = 1; semicolon = 0; imports = None; decls = (S.decls None None None (S.procedure 0 (record { name = 4; star = None }) (Some (record { left_paren = 0; sections = Some (record { first = (record { var_word = None; first = 6; more = []; colon = 0; open_array = None; of = (record { name = 8; member = None }) }); more = [] }); right_paren = 0; result = Some (record { colon = 0; name = (record { name = 11; member = None }) }) })) 0 (S.decls None None (Some (record { var_word = 0; each = (record { names = (record { first = (record { name = 14; star = None }); more = [] }); colon = 0; of = (S.Named (record { name = 16; member = None })); semicolon = 0 } ∷ []) })) S.no_procedure) (Some (record { begin_word = 0; stats = (S.stats (S.If 0 (S.compared (S.simple None (S.term (S.Designated 20 S.no_selector) S.no_factor) S.no_term) (TheRelation.Greater 21) (S.simple None (S.term (S.Int 22) S.no_factor) S.no_term)) 0 (S.stats (S.AssignOrCall (record { name = 24; selectors = S.no_selector }) (Some (record { becomes = 0; value = (S.only (S.simple None (S.term (S.Designated 26 (S.selected (S.Parens 0 (S.expressions (S.only (S.simple None (S.term (S.Designated 28 S.no_selector) S.no_factor) (S.added (TheAddOperator.Minus 29) (S.term (S.Int 30) S.no_factor) S.no_term))) S.no_expression) 0) S.no_selector)) S.no_factor) S.no_term)) }))) S.no_stat) S.no_elsif S.no_else 0) S.no_stat) })) (Some (record { return_word = 33; value = (S.only (S.simple None (S.term (S.Designated 34 S.no_selector) S.no_factor) (S.added (TheAddOperator.Plus 35) (S.term (S.Designated 36 S.no_selector) S.no_factor) S.no_term))) })) 37 38 0 S.no_procedure)); body = None; end_word = 0; end_name = 41; period = 0 } }

pub scope_3 : checked (scope_3_0 ∷ []) ≡ Legal (record { records = []; pointers = []; modules = (record { name = (77 ∷ []); objects = (record { name = (80 ∷ []); exported = false; entity = I.OfProcedure 0 } ∷ []); variables = []; body = 1 } ∷ []); procedures = (record { module_number = 0; line = 1; is_body = false; formals = (record { mode = TheMode.Value; variable = false; shape = H.Integer } ∷ []); result = H.Integer; locals = (H.Integer ∷ []); texts = []; body = (I.next_statement (I.If (I.next_branch (record { form = (I.Compare TheComparison.Greater (I.Load (I.of_type (I.Local 0) H.Integer)) (I.Literal 0)); shape = H.Boolean }) (I.next_statement (I.Assign (I.of_type (I.Local 1) H.Integer) (record { form = (I.Result (I.Direct 0 (I.next_argument (I.ByValue (I.Linked (I.Load (I.of_type (I.Local 0) H.Integer)) (I.Operate TheBinary.Subtract (I.Literal 1)))) I.no_argument))); shape = H.Integer })) I.no_statement) I.no_branch) I.no_statement) I.no_statement); answer = (Some (record { form = (I.Linked (I.Load (I.of_type (I.Local 1) H.Integer)) (I.Operate TheBinary.Add (I.Load (I.of_type (I.Local 0) H.Integer)))); shape = H.Integer })) } ∷ record { module_number = 0; line = 1; is_body = true; formals = []; result = H.Nothing; locals = []; texts = []; body = I.no_statement; answer = None } ∷ []); imports_in = false })
scope_3 = refl

-- MODULE M; TYPE T = RECORD a, b: INTEGER; c: ARRAY 2 OF RECORD d: CHAR END END; VAR x, y: T; BEGIN x.c[1].d := ''a''; x := y END M.
abbrev scope_4_0 : Parsed
scope_4_0 = record { source = record { bytes = (77 ∷ 79 ∷ 68 ∷ 85 ∷ 76 ∷ 69 ∷ 32 ∷ 77 ∷ 59 ∷ 32 ∷ 84 ∷ 89 ∷ 80 ∷ 69 ∷ 32 ∷ 84 ∷ 32 ∷ 61 ∷ 32 ∷ 82 ∷ 69 ∷ 67 ∷ 79 ∷ 82 ∷ 68 ∷ 32 ∷ 97 ∷ 44 ∷ 32 ∷ 98 ∷ 58 ∷ 32 ∷ 73 ∷ 78 ∷ 84 ∷ 69 ∷ 71 ∷ 69 ∷ 82 ∷ 59 ∷ 32 ∷ 99 ∷ 58 ∷ 32 ∷ 65 ∷ 82 ∷ 82 ∷ 65 ∷ 89 ∷ 32 ∷ 50 ∷ 32 ∷ 79 ∷ 70 ∷ 32 ∷ 82 ∷ 69 ∷ 67 ∷ 79 ∷ 82 ∷ 68 ∷ 32 ∷ 100 ∷ 58 ∷ 32 ∷ 67 ∷ 72 ∷ 65 ∷ 82 ∷ 32 ∷ 69 ∷ 78 ∷ 68 ∷ 32 ∷ 69 ∷ 78 ∷ 68 ∷ 59 ∷ 32 ∷ 86 ∷ 65 ∷ 82 ∷ 32 ∷ 120 ∷ 44 ∷ 32 ∷ 121 ∷ 58 ∷ 32 ∷ 84 ∷ 59 ∷ 32 ∷ 66 ∷ 69 ∷ 71 ∷ 73 ∷ 78 ∷ 32 ∷ 120 ∷ 46 ∷ 99 ∷ 91 ∷ 49 ∷ 93 ∷ 46 ∷ 100 ∷ 32 ∷ 58 ∷ 61 ∷ 32 ∷ 34 ∷ 97 ∷ 34 ∷ 59 ∷ 32 ∷ 120 ∷ 32 ∷ 58 ∷ 61 ∷ 32 ∷ 121 ∷ 32 ∷ 69 ∷ 78 ∷ 68 ∷ 32 ∷ 77 ∷ 46 ∷ []); symbols = (symbol (Ident) 0 6 ∷ symbol (Ident) 7 8 ∷ symbol (Ident) 8 9 ∷ symbol (Ident) 10 14 ∷ symbol (Ident) 15 16 ∷ symbol (Ident) 17 18 ∷ symbol (Ident) 19 25 ∷ symbol (Ident) 26 27 ∷ symbol (Ident) 27 28 ∷ symbol (Ident) 29 30 ∷ symbol (Ident) 30 31 ∷ symbol (Ident) 32 39 ∷ symbol (Ident) 39 40 ∷ symbol (Ident) 41 42 ∷ symbol (Ident) 42 43 ∷ symbol (Ident) 44 49 ∷ symbol (Int (pos 2)) 50 51 ∷ symbol (Ident) 52 54 ∷ symbol (Ident) 55 61 ∷ symbol (Ident) 62 63 ∷ symbol (Ident) 63 64 ∷ symbol (Ident) 65 69 ∷ symbol (Ident) 70 73 ∷ symbol (Ident) 74 77 ∷ symbol (Ident) 77 78 ∷ symbol (Ident) 79 82 ∷ symbol (Ident) 83 84 ∷ symbol (Ident) 84 85 ∷ symbol (Ident) 86 87 ∷ symbol (Ident) 87 88 ∷ symbol (Ident) 89 90 ∷ symbol (Ident) 90 91 ∷ symbol (Ident) 92 97 ∷ symbol (Ident) 98 99 ∷ symbol (Ident) 99 100 ∷ symbol (Ident) 100 101 ∷ symbol (Ident) 101 102 ∷ symbol (Int (pos 1)) 102 103 ∷ symbol (Ident) 103 104 ∷ symbol (Ident) 104 105 ∷ symbol (Ident) 105 106 ∷ symbol (Ident) 107 109 ∷ symbol (TheKind.Text) 110 113 ∷ symbol (Ident) 113 114 ∷ symbol (Ident) 115 116 ∷ symbol (Ident) 117 119 ∷ symbol (Ident) 120 121 ∷ symbol (Ident) 122 125 ∷ symbol (Ident) 126 127 ∷ symbol (Ident) 127 128 ∷ []) }; tree = record { module_word = 0; name = 1; semicolon = 0; imports = None; decls = (S.decls None (Some (record { type_word = 0; each = (record { name = (record { name = 4; star = None }); equal = 0; is = (S.Record 6 None (S.fields (record { first = (record { name = 7; star = None }); more = (record { comma = 0; name = (record { name = 9; star = None }) } ∷ []) }) 0 (S.Named (record { name = 11; member = None }))) (S.next_fields 0 (S.fields (record { first = (record { name = 13; star = None }); more = [] }) 0 (S.Array 15 (S.only (S.simple None (S.term (S.Int 16) S.no_factor) S.no_term)) S.no_expression 0 (S.Record 18 None (S.fields (record { first = (record { name = 19; star = None }); more = [] }) 0 (S.Named (record { name = 21; member = None }))) S.no_more_fields 0))) S.no_more_fields) 0); semicolon = 0 } ∷ []) })) (Some (record { var_word = 0; each = (record { names = (record { first = (record { name = 26; star = None }); more = (record { comma = 0; name = (record { name = 28; star = None }) } ∷ []) }); colon = 0; of = (S.Named (record { name = 30; member = None })); semicolon = 0 } ∷ []) })) S.no_procedure); body = (Some (record { begin_word = 0; stats = (S.stats (S.AssignOrCall (record { name = 33; selectors = (S.selected (S.Field 0 35) (S.selected (S.Index 0 (S.expressions (S.only (S.simple None (S.term (S.Int 37) S.no_factor) S.no_term)) S.no_expression) 0) (S.selected (S.Field 0 40) S.no_selector))) }) (Some (record { becomes = 0; value = (S.only (S.simple None (S.term (S.Text 42) S.no_factor) S.no_term)) }))) (S.next_stat 0 (S.AssignOrCall (record { name = 44; selectors = S.no_selector }) (Some (record { becomes = 0; value = (S.only (S.simple None (S.term (S.Designated 46 S.no_selector) S.no_factor) S.no_term)) }))) S.no_stat)) })); end_word = 0; end_name = 48; period = 0 } }

pub scope_4 : checked (scope_4_0 ∷ []) ≡ Legal (record { records = (record { module_number = 0; base = None; level = 0; fields = (record { name = (97 ∷ []); exported = false; shape = H.Integer } ∷ record { name = (98 ∷ []); exported = false; shape = H.Integer } ∷ record { name = (99 ∷ []); exported = false; shape = (H.Array 2 (H.Record 1)) } ∷ []); cells = 4; extent = record { bytes = 24; wide = true } } ∷ record { module_number = 0; base = None; level = 0; fields = (record { name = (100 ∷ []); exported = false; shape = H.Char } ∷ []); cells = 1; extent = record { bytes = 1; wide = false } } ∷ []); pointers = []; modules = (record { name = (77 ∷ []); objects = (record { name = (84 ∷ []); exported = false; entity = I.OfType (H.Record 0) } ∷ record { name = (120 ∷ []); exported = false; entity = I.OfVariable 0 } ∷ record { name = (121 ∷ []); exported = false; entity = I.OfVariable 1 } ∷ []); variables = ((H.Record 0) ∷ (H.Record 0) ∷ []); body = 0 } ∷ []); procedures = (record { module_number = 0; line = 1; is_body = true; formals = []; result = H.Nothing; locals = []; texts = []; body = (I.next_statement (I.Assign (I.of_type (I.Field (I.Index (I.Field (I.Global 0 0) 0 2) (Some 2) (H.Record 1) (I.Literal 1)) 1 0) H.Char) (record { form = (I.Literal 97); shape = H.Char })) (I.next_statement (I.CopyRecord (I.of_type (I.Global 0 0) (H.Record 0)) (I.of_type (I.Global 0 1) (H.Record 0))) I.no_statement)); answer = None } ∷ []); imports_in = false })
scope_4 = refl

-- MODULE M; VAR i: INTEGER; PROCEDURE P(i: CHAR; VAR j: CHAR); VAR k: CHAR; BEGIN k := i; j := k; i := j END P; BEGIN i := 1 END M.
abbrev scope_5_0 : Parsed
scope_5_0 = record { source = record { bytes = (77 ∷ 79 ∷ 68 ∷ 85 ∷ 76 ∷ 69 ∷ 32 ∷ 77 ∷ 59 ∷ 32 ∷ 86 ∷ 65 ∷ 82 ∷ 32 ∷ 105 ∷ 58 ∷ 32 ∷ 73 ∷ 78 ∷ 84 ∷ 69 ∷ 71 ∷ 69 ∷ 82 ∷ 59 ∷ 32 ∷ 80 ∷ 82 ∷ 79 ∷ 67 ∷ 69 ∷ 68 ∷ 85 ∷ 82 ∷ 69 ∷ 32 ∷ 80 ∷ 40 ∷ 105 ∷ 58 ∷ 32 ∷ 67 ∷ 72 ∷ 65 ∷ 82 ∷ 59 ∷ 32 ∷ 86 ∷ 65 ∷ 82 ∷ 32 ∷ 106 ∷ 58 ∷ 32 ∷ 67 ∷ 72 ∷ 65 ∷ 82 ∷ 41 ∷ 59 ∷ 32 ∷ 86 ∷ 65 ∷ 82 ∷ 32 ∷ 107 ∷ 58 ∷ 32 ∷ 67 ∷ 72 ∷ 65 ∷ 82 ∷ 59 ∷ 32 ∷ 66 ∷ 69 ∷ 71 ∷ 73 ∷ 78 ∷ 32 ∷ 107 ∷ 32 ∷ 58 ∷ 61 ∷ 32 ∷ 105 ∷ 59 ∷ 32 ∷ 106 ∷ 32 ∷ 58 ∷ 61 ∷ 32 ∷ 107 ∷ 59 ∷ 32 ∷ 105 ∷ 32 ∷ 58 ∷ 61 ∷ 32 ∷ 106 ∷ 32 ∷ 69 ∷ 78 ∷ 68 ∷ 32 ∷ 80 ∷ 59 ∷ 32 ∷ 66 ∷ 69 ∷ 71 ∷ 73 ∷ 78 ∷ 32 ∷ 105 ∷ 32 ∷ 58 ∷ 61 ∷ 32 ∷ 49 ∷ 32 ∷ 69 ∷ 78 ∷ 68 ∷ 32 ∷ 77 ∷ 46 ∷ []); symbols = (symbol (Ident) 0 6 ∷ symbol (Ident) 7 8 ∷ symbol (Ident) 8 9 ∷ symbol (Ident) 10 13 ∷ symbol (Ident) 14 15 ∷ symbol (Ident) 15 16 ∷ symbol (Ident) 17 24 ∷ symbol (Ident) 24 25 ∷ symbol (Ident) 26 35 ∷ symbol (Ident) 36 37 ∷ symbol (Ident) 37 38 ∷ symbol (Ident) 38 39 ∷ symbol (Ident) 39 40 ∷ symbol (Ident) 41 45 ∷ symbol (Ident) 45 46 ∷ symbol (Ident) 47 50 ∷ symbol (Ident) 51 52 ∷ symbol (Ident) 52 53 ∷ symbol (Ident) 54 58 ∷ symbol (Ident) 58 59 ∷ symbol (Ident) 59 60 ∷ symbol (Ident) 61 64 ∷ symbol (Ident) 65 66 ∷ symbol (Ident) 66 67 ∷ symbol (Ident) 68 72 ∷ symbol (Ident) 72 73 ∷ symbol (Ident) 74 79 ∷ symbol (Ident) 80 81 ∷ symbol (Ident) 82 84 ∷ symbol (Ident) 85 86 ∷ symbol (Ident) 86 87 ∷ symbol (Ident) 88 89 ∷ symbol (Ident) 90 92 ∷ symbol (Ident) 93 94 ∷ symbol (Ident) 94 95 ∷ symbol (Ident) 96 97 ∷ symbol (Ident) 98 100 ∷ symbol (Ident) 101 102 ∷ symbol (Ident) 103 106 ∷ symbol (Ident) 107 108 ∷ symbol (Ident) 108 109 ∷ symbol (Ident) 110 115 ∷ symbol (Ident) 116 117 ∷ symbol (Ident) 118 120 ∷ symbol (Int (pos 1)) 121 122 ∷ symbol (Ident) 123 126 ∷ symbol (Ident) 127 128 ∷ symbol (Ident) 128 129 ∷ []) }; tree = record { module_word = 0; name = 1; semicolon = 0; imports = None; decls = (S.decls None None (Some (record { var_word = 0; each = (record { names = (record { first = (record { name = 4; star = None }); more = [] }); colon = 0; of = (S.Named (record { name = 6; member = None })); semicolon = 0 } ∷ []) })) (S.procedure 0 (record { name = 9; star = None }) (Some (record { left_paren = 0; sections = Some (record { first = (record { var_word = None; first = 11; more = []; colon = 0; open_array = None; of = (record { name = 13; member = None }) }); more = (record { semicolon = 0; section = (record { var_word = Some 0; first = 16; more = []; colon = 0; open_array = None; of = (record { name = 18; member = None }) }) } ∷ []) }); right_paren = 0; result = None })) 0 (S.decls None None (Some (record { var_word = 0; each = (record { names = (record { first = (record { name = 22; star = None }); more = [] }); colon = 0; of = (S.Named (record { name = 24; member = None })); semicolon = 0 } ∷ []) })) S.no_procedure) (Some (record { begin_word = 0; stats = (S.stats (S.AssignOrCall (record { name = 27; selectors = S.no_selector }) (Some (record { becomes = 0; value = (S.only (S.simple None (S.term (S.Designated 29 S.no_selector) S.no_factor) S.no_term)) }))) (S.next_stat 0 (S.AssignOrCall (record { name = 31; selectors = S.no_selector }) (Some (record { becomes = 0; value = (S.only (S.simple None (S.term (S.Designated 33 S.no_selector) S.no_factor) S.no_term)) }))) (S.next_stat 0 (S.AssignOrCall (record { name = 35; selectors = S.no_selector }) (Some (record { becomes = 0; value = (S.only (S.simple None (S.term (S.Designated 37 S.no_selector) S.no_factor) S.no_term)) }))) S.no_stat))) })) None 38 39 0 S.no_procedure)); body = (Some (record { begin_word = 0; stats = (S.stats (S.AssignOrCall (record { name = 42; selectors = S.no_selector }) (Some (record { becomes = 0; value = (S.only (S.simple None (S.term (S.Int 44) S.no_factor) S.no_term)) }))) S.no_stat) })); end_word = 0; end_name = 46; period = 0 } }

pub scope_5 : checked (scope_5_0 ∷ []) ≡ Legal (record { records = []; pointers = []; modules = (record { name = (77 ∷ []); objects = (record { name = (105 ∷ []); exported = false; entity = I.OfVariable 0 } ∷ record { name = (80 ∷ []); exported = false; entity = I.OfProcedure 0 } ∷ []); variables = (H.Integer ∷ []); body = 1 } ∷ []); procedures = (record { module_number = 0; line = 1; is_body = false; formals = (record { mode = TheMode.Value; variable = false; shape = H.Char } ∷ record { mode = TheMode.Place; variable = true; shape = H.Char } ∷ []); result = H.Nothing; locals = (H.Char ∷ []); texts = []; body = (I.next_statement (I.Assign (I.of_type (I.Local 1) H.Char) (record { form = (I.Load (I.of_type (I.Local 0) H.Char)); shape = H.Char })) (I.next_statement (I.Assign (I.of_type (I.Parameter 1) H.Char) (record { form = (I.Load (I.of_type (I.Local 1) H.Char)); shape = H.Char })) (I.next_statement (I.Assign (I.of_type (I.Local 0) H.Char) (record { form = (I.Load (I.of_type (I.Parameter 1) H.Char)); shape = H.Char })) I.no_statement))); answer = None } ∷ record { module_number = 0; line = 1; is_body = true; formals = []; result = H.Nothing; locals = []; texts = []; body = (I.next_statement (I.Assign (I.of_type (I.Global 0 0) H.Integer) (record { form = (I.Literal 1); shape = H.Integer })) I.no_statement); answer = None } ∷ []); imports_in = false })
scope_5 = refl

-- MODULE M; TYPE F = PROCEDURE (VAR a: ARRAY OF CHAR; r: INTEGER): BOOLEAN; VAR f: F; g: PROCEDURE (VAR b: ARRAY OF CHAR; s: INTEGER): BOOLEAN; PROCEDURE P(VAR c: ARRAY OF CHAR; t: INTEGER): BOOLEAN; RETURN c[t] = ''x'' END P; BEGIN f := g; g := P; f := P END M.
abbrev scope_6_0 : Parsed
scope_6_0 = record { source = record { bytes = (77 ∷ 79 ∷ 68 ∷ 85 ∷ 76 ∷ 69 ∷ 32 ∷ 77 ∷ 59 ∷ 32 ∷ 84 ∷ 89 ∷ 80 ∷ 69 ∷ 32 ∷ 70 ∷ 32 ∷ 61 ∷ 32 ∷ 80 ∷ 82 ∷ 79 ∷ 67 ∷ 69 ∷ 68 ∷ 85 ∷ 82 ∷ 69 ∷ 32 ∷ 40 ∷ 86 ∷ 65 ∷ 82 ∷ 32 ∷ 97 ∷ 58 ∷ 32 ∷ 65 ∷ 82 ∷ 82 ∷ 65 ∷ 89 ∷ 32 ∷ 79 ∷ 70 ∷ 32 ∷ 67 ∷ 72 ∷ 65 ∷ 82 ∷ 59 ∷ 32 ∷ 114 ∷ 58 ∷ 32 ∷ 73 ∷ 78 ∷ 84 ∷ 69 ∷ 71 ∷ 69 ∷ 82 ∷ 41 ∷ 58 ∷ 32 ∷ 66 ∷ 79 ∷ 79 ∷ 76 ∷ 69 ∷ 65 ∷ 78 ∷ 59 ∷ 32 ∷ 86 ∷ 65 ∷ 82 ∷ 32 ∷ 102 ∷ 58 ∷ 32 ∷ 70 ∷ 59 ∷ 32 ∷ 103 ∷ 58 ∷ 32 ∷ 80 ∷ 82 ∷ 79 ∷ 67 ∷ 69 ∷ 68 ∷ 85 ∷ 82 ∷ 69 ∷ 32 ∷ 40 ∷ 86 ∷ 65 ∷ 82 ∷ 32 ∷ 98 ∷ 58 ∷ 32 ∷ 65 ∷ 82 ∷ 82 ∷ 65 ∷ 89 ∷ 32 ∷ 79 ∷ 70 ∷ 32 ∷ 67 ∷ 72 ∷ 65 ∷ 82 ∷ 59 ∷ 32 ∷ 115 ∷ 58 ∷ 32 ∷ 73 ∷ 78 ∷ 84 ∷ 69 ∷ 71 ∷ 69 ∷ 82 ∷ 41 ∷ 58 ∷ 32 ∷ 66 ∷ 79 ∷ 79 ∷ 76 ∷ 69 ∷ 65 ∷ 78 ∷ 59 ∷ 32 ∷ 80 ∷ 82 ∷ 79 ∷ 67 ∷ 69 ∷ 68 ∷ 85 ∷ 82 ∷ 69 ∷ 32 ∷ 80 ∷ 40 ∷ 86 ∷ 65 ∷ 82 ∷ 32 ∷ 99 ∷ 58 ∷ 32 ∷ 65 ∷ 82 ∷ 82 ∷ 65 ∷ 89 ∷ 32 ∷ 79 ∷ 70 ∷ 32 ∷ 67 ∷ 72 ∷ 65 ∷ 82 ∷ 59 ∷ 32 ∷ 116 ∷ 58 ∷ 32 ∷ 73 ∷ 78 ∷ 84 ∷ 69 ∷ 71 ∷ 69 ∷ 82 ∷ 41 ∷ 58 ∷ 32 ∷ 66 ∷ 79 ∷ 79 ∷ 76 ∷ 69 ∷ 65 ∷ 78 ∷ 59 ∷ 32 ∷ 82 ∷ 69 ∷ 84 ∷ 85 ∷ 82 ∷ 78 ∷ 32 ∷ 99 ∷ 91 ∷ 116 ∷ 93 ∷ 32 ∷ 61 ∷ 32 ∷ 34 ∷ 120 ∷ 34 ∷ 32 ∷ 69 ∷ 78 ∷ 68 ∷ 32 ∷ 80 ∷ 59 ∷ 32 ∷ 66 ∷ 69 ∷ 71 ∷ 73 ∷ 78 ∷ 32 ∷ 102 ∷ 32 ∷ 58 ∷ 61 ∷ 32 ∷ 103 ∷ 59 ∷ 32 ∷ 103 ∷ 32 ∷ 58 ∷ 61 ∷ 32 ∷ 80 ∷ 59 ∷ 32 ∷ 102 ∷ 32 ∷ 58 ∷ 61 ∷ 32 ∷ 80 ∷ 32 ∷ 69 ∷ 78 ∷ 68 ∷ 32 ∷ 77 ∷ 46 ∷ []); symbols = (symbol (Ident) 0 6 ∷ symbol (Ident) 7 8 ∷ symbol (Ident) 8 9 ∷ symbol (Ident) 10 14 ∷ symbol (Ident) 15 16 ∷ symbol (Ident) 17 18 ∷ symbol (Ident) 19 28 ∷ symbol (Ident) 29 30 ∷ symbol (Ident) 30 33 ∷ symbol (Ident) 34 35 ∷ symbol (Ident) 35 36 ∷ symbol (Ident) 37 42 ∷ symbol (Ident) 43 45 ∷ symbol (Ident) 46 50 ∷ symbol (Ident) 50 51 ∷ symbol (Ident) 52 53 ∷ symbol (Ident) 53 54 ∷ symbol (Ident) 55 62 ∷ symbol (Ident) 62 63 ∷ symbol (Ident) 63 64 ∷ symbol (Ident) 65 72 ∷ symbol (Ident) 72 73 ∷ symbol (Ident) 74 77 ∷ symbol (Ident) 78 79 ∷ symbol (Ident) 79 80 ∷ symbol (Ident) 81 82 ∷ symbol (Ident) 82 83 ∷ symbol (Ident) 84 85 ∷ symbol (Ident) 85 86 ∷ symbol (Ident) 87 96 ∷ symbol (Ident) 97 98 ∷ symbol (Ident) 98 101 ∷ symbol (Ident) 102 103 ∷ symbol (Ident) 103 104 ∷ symbol (Ident) 105 110 ∷ symbol (Ident) 111 113 ∷ symbol (Ident) 114 118 ∷ symbol (Ident) 118 119 ∷ symbol (Ident) 120 121 ∷ symbol (Ident) 121 122 ∷ symbol (Ident) 123 130 ∷ symbol (Ident) 130 131 ∷ symbol (Ident) 131 132 ∷ symbol (Ident) 133 140 ∷ symbol (Ident) 140 141 ∷ symbol (Ident) 142 151 ∷ symbol (Ident) 152 153 ∷ symbol (Ident) 153 154 ∷ symbol (Ident) 154 157 ∷ symbol (Ident) 158 159 ∷ symbol (Ident) 159 160 ∷ symbol (Ident) 161 166 ∷ symbol (Ident) 167 169 ∷ symbol (Ident) 170 174 ∷ symbol (Ident) 174 175 ∷ symbol (Ident) 176 177 ∷ symbol (Ident) 177 178 ∷ symbol (Ident) 179 186 ∷ symbol (Ident) 186 187 ∷ symbol (Ident) 187 188 ∷ symbol (Ident) 189 196 ∷ symbol (Ident) 196 197 ∷ symbol (Ident) 198 204 ∷ symbol (Ident) 205 206 ∷ symbol (Ident) 206 207 ∷ symbol (Ident) 207 208 ∷ symbol (Ident) 208 209 ∷ symbol (Ident) 210 211 ∷ symbol (TheKind.Text) 212 215 ∷ symbol (Ident) 216 219 ∷ symbol (Ident) 220 221 ∷ symbol (Ident) 221 222 ∷ symbol (Ident) 223 228 ∷ symbol (Ident) 229 230 ∷ symbol (Ident) 231 233 ∷ symbol (Ident) 234 235 ∷ symbol (Ident) 235 236 ∷ symbol (Ident) 237 238 ∷ symbol (Ident) 239 241 ∷ symbol (Ident) 242 243 ∷ symbol (Ident) 243 244 ∷ symbol (Ident) 245 246 ∷ symbol (Ident) 247 249 ∷ symbol (Ident) 250 251 ∷ symbol (Ident) 252 255 ∷ symbol (Ident) 256 257 ∷ symbol (Ident) 257 258 ∷ []) }; tree = record { module_word = 0; name = 1; semicolon = 0; imports = None; decls = (S.decls None (Some (record { type_word = 0; each = (record { name = (record { name = 4; star = None }); equal = 0; is = (S.Procedure 6 (Some (record { left_paren = 0; sections = Some (record { first = (record { var_word = Some 0; first = 9; more = []; colon = 0; open_array = Some (record { array_word = 0; of_word = 0 }); of = (record { name = 13; member = None }) }); more = (record { semicolon = 0; section = (record { var_word = None; first = 15; more = []; colon = 0; open_array = None; of = (record { name = 17; member = None }) }) } ∷ []) }); right_paren = 0; result = Some (record { colon = 0; name = (record { name = 20; member = None }) }) }))); semicolon = 0 } ∷ []) })) (Some (record { var_word = 0; each = (record { names = (record { first = (record { name = 23; star = None }); more = [] }); colon = 0; of = (S.Named (record { name = 25; member = None })); semicolon = 0 } ∷ record { names = (record { first = (record { name = 27; star = None }); more = [] }); colon = 0; of = (S.Procedure 29 (Some (record { left_paren = 0; sections = Some (record { first = (record { var_word = Some 0; first = 32; more = []; colon = 0; open_array = Some (record { array_word = 0; of_word = 0 }); of = (record { name = 36; member = None }) }); more = (record { semicolon = 0; section = (record { var_word = None; first = 38; more = []; colon = 0; open_array = None; of = (record { name = 40; member = None }) }) } ∷ []) }); right_paren = 0; result = Some (record { colon = 0; name = (record { name = 43; member = None }) }) }))); semicolon = 0 } ∷ []) })) (S.procedure 0 (record { name = 46; star = None }) (Some (record { left_paren = 0; sections = Some (record { first = (record { var_word = Some 0; first = 49; more = []; colon = 0; open_array = Some (record { array_word = 0; of_word = 0 }); of = (record { name = 53; member = None }) }); more = (record { semicolon = 0; section = (record { var_word = None; first = 55; more = []; colon = 0; open_array = None; of = (record { name = 57; member = None }) }) } ∷ []) }); right_paren = 0; result = Some (record { colon = 0; name = (record { name = 60; member = None }) }) })) 0 (S.decls None None None S.no_procedure) None (Some (record { return_word = 62; value = (S.compared (S.simple None (S.term (S.Designated 63 (S.selected (S.Index 0 (S.expressions (S.only (S.simple None (S.term (S.Designated 65 S.no_selector) S.no_factor) S.no_term)) S.no_expression) 0) S.no_selector)) S.no_factor) S.no_term) (TheRelation.Equal 67) (S.simple None (S.term (S.Text 68) S.no_factor) S.no_term)) })) 69 70 0 S.no_procedure)); body = (Some (record { begin_word = 0; stats = (S.stats (S.AssignOrCall (record { name = 73; selectors = S.no_selector }) (Some (record { becomes = 0; value = (S.only (S.simple None (S.term (S.Designated 75 S.no_selector) S.no_factor) S.no_term)) }))) (S.next_stat 0 (S.AssignOrCall (record { name = 77; selectors = S.no_selector }) (Some (record { becomes = 0; value = (S.only (S.simple None (S.term (S.Designated 79 S.no_selector) S.no_factor) S.no_term)) }))) (S.next_stat 0 (S.AssignOrCall (record { name = 81; selectors = S.no_selector }) (Some (record { becomes = 0; value = (S.only (S.simple None (S.term (S.Designated 83 S.no_selector) S.no_factor) S.no_term)) }))) S.no_stat))) })); end_word = 0; end_name = 85; period = 0 } }

pub scope_6 : checked (scope_6_0 ∷ []) ≡ Legal (record { records = []; pointers = []; modules = (record { name = (77 ∷ []); objects = (record { name = (70 ∷ []); exported = false; entity = I.OfType (H.Procedure (H.one true (H.Open H.Char) (H.one false H.Integer H.none)) H.Boolean) } ∷ record { name = (102 ∷ []); exported = false; entity = I.OfVariable 0 } ∷ record { name = (103 ∷ []); exported = false; entity = I.OfVariable 1 } ∷ record { name = (80 ∷ []); exported = false; entity = I.OfProcedure 0 } ∷ []); variables = ((H.Procedure (H.one true (H.Open H.Char) (H.one false H.Integer H.none)) H.Boolean) ∷ (H.Procedure (H.one true (H.Open H.Char) (H.one false H.Integer H.none)) H.Boolean) ∷ []); body = 1 } ∷ []); procedures = (record { module_number = 0; line = 1; is_body = false; formals = (record { mode = TheMode.Open; variable = true; shape = (H.Open H.Char) } ∷ record { mode = TheMode.Value; variable = false; shape = H.Integer } ∷ []); result = H.Boolean; locals = []; texts = []; body = I.no_statement; answer = (Some (record { form = (I.Compare TheComparison.Equal (I.Load (I.of_type (I.Index (I.Parameter 0) None H.Char (I.Load (I.of_type (I.Local 0) H.Integer))) H.Char)) (I.Literal 120)); shape = H.Boolean })) } ∷ record { module_number = 0; line = 1; is_body = true; formals = []; result = H.Nothing; locals = []; texts = []; body = (I.next_statement (I.Assign (I.of_type (I.Global 0 0) (H.Procedure (H.one true (H.Open H.Char) (H.one false H.Integer H.none)) H.Boolean)) (record { form = (I.Load (I.of_type (I.Global 0 1) (H.Procedure (H.one true (H.Open H.Char) (H.one false H.Integer H.none)) H.Boolean))); shape = (H.Procedure (H.one true (H.Open H.Char) (H.one false H.Integer H.none)) H.Boolean) })) (I.next_statement (I.Assign (I.of_type (I.Global 0 1) (H.Procedure (H.one true (H.Open H.Char) (H.one false H.Integer H.none)) H.Boolean)) (record { form = (I.Routine 0); shape = (H.Procedure (H.one true (H.Open H.Char) (H.one false H.Integer H.none)) H.Boolean) })) (I.next_statement (I.Assign (I.of_type (I.Global 0 0) (H.Procedure (H.one true (H.Open H.Char) (H.one false H.Integer H.none)) H.Boolean)) (record { form = (I.Routine 0); shape = (H.Procedure (H.one true (H.Open H.Char) (H.one false H.Integer H.none)) H.Boolean) })) I.no_statement))); answer = None } ∷ []); imports_in = false })
scope_6 = refl

-- MODULE M; CONST a = 3; b = a * a + 1; s = ''hello''; t = s; c = ''x''; d = {1, a..5}; e = ORD(c); f = CHR(e + 1); g = ~(a = b); h = -a DIV 2; n = NIL; VAR i: INTEGER; q: CHAR; x: SET; z: BOOLEAN; w: ARRAY 9 OF CHAR; p: POINTER TO RECORD END; BEGIN i := b; q := c; q := f; x := d; z := g; i := h; w := s; w := t; p := n; w := c END M.
abbrev scope_7_0 : Parsed
scope_7_0 = record { source = record { bytes = (77 ∷ 79 ∷ 68 ∷ 85 ∷ 76 ∷ 69 ∷ 32 ∷ 77 ∷ 59 ∷ 32 ∷ 67 ∷ 79 ∷ 78 ∷ 83 ∷ 84 ∷ 32 ∷ 97 ∷ 32 ∷ 61 ∷ 32 ∷ 51 ∷ 59 ∷ 32 ∷ 98 ∷ 32 ∷ 61 ∷ 32 ∷ 97 ∷ 32 ∷ 42 ∷ 32 ∷ 97 ∷ 32 ∷ 43 ∷ 32 ∷ 49 ∷ 59 ∷ 32 ∷ 115 ∷ 32 ∷ 61 ∷ 32 ∷ 34 ∷ 104 ∷ 101 ∷ 108 ∷ 108 ∷ 111 ∷ 34 ∷ 59 ∷ 32 ∷ 116 ∷ 32 ∷ 61 ∷ 32 ∷ 115 ∷ 59 ∷ 32 ∷ 99 ∷ 32 ∷ 61 ∷ 32 ∷ 34 ∷ 120 ∷ 34 ∷ 59 ∷ 32 ∷ 100 ∷ 32 ∷ 61 ∷ 32 ∷ 123 ∷ 49 ∷ 44 ∷ 32 ∷ 97 ∷ 46 ∷ 46 ∷ 53 ∷ 125 ∷ 59 ∷ 32 ∷ 101 ∷ 32 ∷ 61 ∷ 32 ∷ 79 ∷ 82 ∷ 68 ∷ 40 ∷ 99 ∷ 41 ∷ 59 ∷ 32 ∷ 102 ∷ 32 ∷ 61 ∷ 32 ∷ 67 ∷ 72 ∷ 82 ∷ 40 ∷ 101 ∷ 32 ∷ 43 ∷ 32 ∷ 49 ∷ 41 ∷ 59 ∷ 32 ∷ 103 ∷ 32 ∷ 61 ∷ 32 ∷ 126 ∷ 40 ∷ 97 ∷ 32 ∷ 61 ∷ 32 ∷ 98 ∷ 41 ∷ 59 ∷ 32 ∷ 104 ∷ 32 ∷ 61 ∷ 32 ∷ 45 ∷ 97 ∷ 32 ∷ 68 ∷ 73 ∷ 86 ∷ 32 ∷ 50 ∷ 59 ∷ 32 ∷ 110 ∷ 32 ∷ 61 ∷ 32 ∷ 78 ∷ 73 ∷ 76 ∷ 59 ∷ 32 ∷ 86 ∷ 65 ∷ 82 ∷ 32 ∷ 105 ∷ 58 ∷ 32 ∷ 73 ∷ 78 ∷ 84 ∷ 69 ∷ 71 ∷ 69 ∷ 82 ∷ 59 ∷ 32 ∷ 113 ∷ 58 ∷ 32 ∷ 67 ∷ 72 ∷ 65 ∷ 82 ∷ 59 ∷ 32 ∷ 120 ∷ 58 ∷ 32 ∷ 83 ∷ 69 ∷ 84 ∷ 59 ∷ 32 ∷ 122 ∷ 58 ∷ 32 ∷ 66 ∷ 79 ∷ 79 ∷ 76 ∷ 69 ∷ 65 ∷ 78 ∷ 59 ∷ 32 ∷ 119 ∷ 58 ∷ 32 ∷ 65 ∷ 82 ∷ 82 ∷ 65 ∷ 89 ∷ 32 ∷ 57 ∷ 32 ∷ 79 ∷ 70 ∷ 32 ∷ 67 ∷ 72 ∷ 65 ∷ 82 ∷ 59 ∷ 32 ∷ 112 ∷ 58 ∷ 32 ∷ 80 ∷ 79 ∷ 73 ∷ 78 ∷ 84 ∷ 69 ∷ 82 ∷ 32 ∷ 84 ∷ 79 ∷ 32 ∷ 82 ∷ 69 ∷ 67 ∷ 79 ∷ 82 ∷ 68 ∷ 32 ∷ 69 ∷ 78 ∷ 68 ∷ 59 ∷ 32 ∷ 66 ∷ 69 ∷ 71 ∷ 73 ∷ 78 ∷ 32 ∷ 105 ∷ 32 ∷ 58 ∷ 61 ∷ 32 ∷ 98 ∷ 59 ∷ 32 ∷ 113 ∷ 32 ∷ 58 ∷ 61 ∷ 32 ∷ 99 ∷ 59 ∷ 32 ∷ 113 ∷ 32 ∷ 58 ∷ 61 ∷ 32 ∷ 102 ∷ 59 ∷ 32 ∷ 120 ∷ 32 ∷ 58 ∷ 61 ∷ 32 ∷ 100 ∷ 59 ∷ 32 ∷ 122 ∷ 32 ∷ 58 ∷ 61 ∷ 32 ∷ 103 ∷ 59 ∷ 32 ∷ 105 ∷ 32 ∷ 58 ∷ 61 ∷ 32 ∷ 104 ∷ 59 ∷ 32 ∷ 119 ∷ 32 ∷ 58 ∷ 61 ∷ 32 ∷ 115 ∷ 59 ∷ 32 ∷ 119 ∷ 32 ∷ 58 ∷ 61 ∷ 32 ∷ 116 ∷ 59 ∷ 32 ∷ 112 ∷ 32 ∷ 58 ∷ 61 ∷ 32 ∷ 110 ∷ 59 ∷ 32 ∷ 119 ∷ 32 ∷ 58 ∷ 61 ∷ 32 ∷ 99 ∷ 32 ∷ 69 ∷ 78 ∷ 68 ∷ 32 ∷ 77 ∷ 46 ∷ []); symbols = (symbol (Ident) 0 6 ∷ symbol (Ident) 7 8 ∷ symbol (Ident) 8 9 ∷ symbol (Ident) 10 15 ∷ symbol (Ident) 16 17 ∷ symbol (Ident) 18 19 ∷ symbol (Int (pos 3)) 20 21 ∷ symbol (Ident) 21 22 ∷ symbol (Ident) 23 24 ∷ symbol (Ident) 25 26 ∷ symbol (Ident) 27 28 ∷ symbol (Ident) 29 30 ∷ symbol (Ident) 31 32 ∷ symbol (Ident) 33 34 ∷ symbol (Int (pos 1)) 35 36 ∷ symbol (Ident) 36 37 ∷ symbol (Ident) 38 39 ∷ symbol (Ident) 40 41 ∷ symbol (TheKind.Text) 42 49 ∷ symbol (Ident) 49 50 ∷ symbol (Ident) 51 52 ∷ symbol (Ident) 53 54 ∷ symbol (Ident) 55 56 ∷ symbol (Ident) 56 57 ∷ symbol (Ident) 58 59 ∷ symbol (Ident) 60 61 ∷ symbol (TheKind.Text) 62 65 ∷ symbol (Ident) 65 66 ∷ symbol (Ident) 67 68 ∷ symbol (Ident) 69 70 ∷ symbol (Ident) 71 72 ∷ symbol (Int (pos 1)) 72 73 ∷ symbol (Ident) 73 74 ∷ symbol (Ident) 75 76 ∷ symbol (Ident) 76 78 ∷ symbol (Int (pos 5)) 78 79 ∷ symbol (Ident) 79 80 ∷ symbol (Ident) 80 81 ∷ symbol (Ident) 82 83 ∷ symbol (Ident) 84 85 ∷ symbol (Ident) 86 89 ∷ symbol (Ident) 89 90 ∷ symbol (Ident) 90 91 ∷ symbol (Ident) 91 92 ∷ symbol (Ident) 92 93 ∷ symbol (Ident) 94 95 ∷ symbol (Ident) 96 97 ∷ symbol (Ident) 98 101 ∷ symbol (Ident) 101 102 ∷ symbol (Ident) 102 103 ∷ symbol (Ident) 104 105 ∷ symbol (Int (pos 1)) 106 107 ∷ symbol (Ident) 107 108 ∷ symbol (Ident) 108 109 ∷ symbol (Ident) 110 111 ∷ symbol (Ident) 112 113 ∷ symbol (Ident) 114 115 ∷ symbol (Ident) 115 116 ∷ symbol (Ident) 116 117 ∷ symbol (Ident) 118 119 ∷ symbol (Ident) 120 121 ∷ symbol (Ident) 121 122 ∷ symbol (Ident) 122 123 ∷ symbol (Ident) 124 125 ∷ symbol (Ident) 126 127 ∷ symbol (Ident) 128 129 ∷ symbol (Ident) 129 130 ∷ symbol (Ident) 131 134 ∷ symbol (Int (pos 2)) 135 136 ∷ symbol (Ident) 136 137 ∷ symbol (Ident) 138 139 ∷ symbol (Ident) 140 141 ∷ symbol (Ident) 142 145 ∷ symbol (Ident) 145 146 ∷ symbol (Ident) 147 150 ∷ symbol (Ident) 151 152 ∷ symbol (Ident) 152 153 ∷ symbol (Ident) 154 161 ∷ symbol (Ident) 161 162 ∷ symbol (Ident) 163 164 ∷ symbol (Ident) 164 165 ∷ symbol (Ident) 166 170 ∷ symbol (Ident) 170 171 ∷ symbol (Ident) 172 173 ∷ symbol (Ident) 173 174 ∷ symbol (Ident) 175 178 ∷ symbol (Ident) 178 179 ∷ symbol (Ident) 180 181 ∷ symbol (Ident) 181 182 ∷ symbol (Ident) 183 190 ∷ symbol (Ident) 190 191 ∷ symbol (Ident) 192 193 ∷ symbol (Ident) 193 194 ∷ symbol (Ident) 195 200 ∷ symbol (Int (pos 9)) 201 202 ∷ symbol (Ident) 203 205 ∷ symbol (Ident) 206 210 ∷ symbol (Ident) 210 211 ∷ symbol (Ident) 212 213 ∷ symbol (Ident) 213 214 ∷ symbol (Ident) 215 222 ∷ symbol (Ident) 223 225 ∷ symbol (Ident) 226 232 ∷ symbol (Ident) 233 236 ∷ symbol (Ident) 236 237 ∷ symbol (Ident) 238 243 ∷ symbol (Ident) 244 245 ∷ symbol (Ident) 246 248 ∷ symbol (Ident) 249 250 ∷ symbol (Ident) 250 251 ∷ symbol (Ident) 252 253 ∷ symbol (Ident) 254 256 ∷ symbol (Ident) 257 258 ∷ symbol (Ident) 258 259 ∷ symbol (Ident) 260 261 ∷ symbol (Ident) 262 264 ∷ symbol (Ident) 265 266 ∷ symbol (Ident) 266 267 ∷ symbol (Ident) 268 269 ∷ symbol (Ident) 270 272 ∷ symbol (Ident) 273 274 ∷ symbol (Ident) 274 275 ∷ symbol (Ident) 276 277 ∷ symbol (Ident) 278 280 ∷ symbol (Ident) 281 282 ∷ symbol (Ident) 282 283 ∷ symbol (Ident) 284 285 ∷ symbol (Ident) 286 288 ∷ symbol (Ident) 289 290 ∷ symbol (Ident) 290 291 ∷ symbol (Ident) 292 293 ∷ symbol (Ident) 294 296 ∷ symbol (Ident) 297 298 ∷ symbol (Ident) 298 299 ∷ symbol (Ident) 300 301 ∷ symbol (Ident) 302 304 ∷ symbol (Ident) 305 306 ∷ symbol (Ident) 306 307 ∷ symbol (Ident) 308 309 ∷ symbol (Ident) 310 312 ∷ symbol (Ident) 313 314 ∷ symbol (Ident) 314 315 ∷ symbol (Ident) 316 317 ∷ symbol (Ident) 318 320 ∷ symbol (Ident) 321 322 ∷ symbol (Ident) 323 326 ∷ symbol (Ident) 327 328 ∷ symbol (Ident) 328 329 ∷ []) }; tree = record { module_word = 0; name = 1; semicolon = 0; imports = None; decls = (S.decls (Some (record { const_word = 0; each = (record { name = (record { name = 4; star = None }); equal = 0; value = (S.only (S.simple None (S.term (S.Int 6) S.no_factor) S.no_term)); semicolon = 0 } ∷ record { name = (record { name = 8; star = None }); equal = 0; value = (S.only (S.simple None (S.term (S.Designated 10 S.no_selector) (S.multiplied (TheMulOperator.Times 11) (S.Designated 12 S.no_selector) S.no_factor)) (S.added (TheAddOperator.Plus 13) (S.term (S.Int 14) S.no_factor) S.no_term))); semicolon = 0 } ∷ record { name = (record { name = 16; star = None }); equal = 0; value = (S.only (S.simple None (S.term (S.Text 18) S.no_factor) S.no_term)); semicolon = 0 } ∷ record { name = (record { name = 20; star = None }); equal = 0; value = (S.only (S.simple None (S.term (S.Designated 22 S.no_selector) S.no_factor) S.no_term)); semicolon = 0 } ∷ record { name = (record { name = 24; star = None }); equal = 0; value = (S.only (S.simple None (S.term (S.Text 26) S.no_factor) S.no_term)); semicolon = 0 } ∷ record { name = (record { name = 28; star = None }); equal = 0; value = (S.only (S.simple None (S.term (S.Set 30 (S.one (S.only (S.simple None (S.term (S.Int 31) S.no_factor) S.no_term))) (S.next_element 0 (S.range (S.only (S.simple None (S.term (S.Designated 33 S.no_selector) S.no_factor) S.no_term)) 0 (S.only (S.simple None (S.term (S.Int 35) S.no_factor) S.no_term))) S.no_element) 0) S.no_factor) S.no_term)); semicolon = 0 } ∷ record { name = (record { name = 38; star = None }); equal = 0; value = (S.only (S.simple None (S.term (S.Designated 40 (S.selected (S.Parens 0 (S.expressions (S.only (S.simple None (S.term (S.Designated 42 S.no_selector) S.no_factor) S.no_term)) S.no_expression) 0) S.no_selector)) S.no_factor) S.no_term)); semicolon = 0 } ∷ record { name = (record { name = 45; star = None }); equal = 0; value = (S.only (S.simple None (S.term (S.Designated 47 (S.selected (S.Parens 0 (S.expressions (S.only (S.simple None (S.term (S.Designated 49 S.no_selector) S.no_factor) (S.added (TheAddOperator.Plus 50) (S.term (S.Int 51) S.no_factor) S.no_term))) S.no_expression) 0) S.no_selector)) S.no_factor) S.no_term)); semicolon = 0 } ∷ record { name = (record { name = 54; star = None }); equal = 0; value = (S.only (S.simple None (S.term (S.Not 56 (S.Paren 57 (S.compared (S.simple None (S.term (S.Designated 58 S.no_selector) S.no_factor) S.no_term) (TheRelation.Equal 59) (S.simple None (S.term (S.Designated 60 S.no_selector) S.no_factor) S.no_term)) 0)) S.no_factor) S.no_term)); semicolon = 0 } ∷ record { name = (record { name = 63; star = None }); equal = 0; value = (S.only (S.simple (Some (TheSign.Minus 65)) (S.term (S.Designated 66 S.no_selector) (S.multiplied (TheMulOperator.Div 67) (S.Int 68) S.no_factor)) S.no_term)); semicolon = 0 } ∷ record { name = (record { name = 70; star = None }); equal = 0; value = (S.only (S.simple None (S.term (S.Nil 72) S.no_factor) S.no_term)); semicolon = 0 } ∷ []) })) None (Some (record { var_word = 0; each = (record { names = (record { first = (record { name = 75; star = None }); more = [] }); colon = 0; of = (S.Named (record { name = 77; member = None })); semicolon = 0 } ∷ record { names = (record { first = (record { name = 79; star = None }); more = [] }); colon = 0; of = (S.Named (record { name = 81; member = None })); semicolon = 0 } ∷ record { names = (record { first = (record { name = 83; star = None }); more = [] }); colon = 0; of = (S.Named (record { name = 85; member = None })); semicolon = 0 } ∷ record { names = (record { first = (record { name = 87; star = None }); more = [] }); colon = 0; of = (S.Named (record { name = 89; member = None })); semicolon = 0 } ∷ record { names = (record { first = (record { name = 91; star = None }); more = [] }); colon = 0; of = (S.Array 93 (S.only (S.simple None (S.term (S.Int 94) S.no_factor) S.no_term)) S.no_expression 0 (S.Named (record { name = 96; member = None }))); semicolon = 0 } ∷ record { names = (record { first = (record { name = 98; star = None }); more = [] }); colon = 0; of = (S.Pointer 100 0 (S.Record 102 None S.no_fields S.no_more_fields 0)); semicolon = 0 } ∷ []) })) S.no_procedure); body = (Some (record { begin_word = 0; stats = (S.stats (S.AssignOrCall (record { name = 106; selectors = S.no_selector }) (Some (record { becomes = 0; value = (S.only (S.simple None (S.term (S.Designated 108 S.no_selector) S.no_factor) S.no_term)) }))) (S.next_stat 0 (S.AssignOrCall (record { name = 110; selectors = S.no_selector }) (Some (record { becomes = 0; value = (S.only (S.simple None (S.term (S.Designated 112 S.no_selector) S.no_factor) S.no_term)) }))) (S.next_stat 0 (S.AssignOrCall (record { name = 114; selectors = S.no_selector }) (Some (record { becomes = 0; value = (S.only (S.simple None (S.term (S.Designated 116 S.no_selector) S.no_factor) S.no_term)) }))) (S.next_stat 0 (S.AssignOrCall (record { name = 118; selectors = S.no_selector }) (Some (record { becomes = 0; value = (S.only (S.simple None (S.term (S.Designated 120 S.no_selector) S.no_factor) S.no_term)) }))) (S.next_stat 0 (S.AssignOrCall (record { name = 122; selectors = S.no_selector }) (Some (record { becomes = 0; value = (S.only (S.simple None (S.term (S.Designated 124 S.no_selector) S.no_factor) S.no_term)) }))) (S.next_stat 0 (S.AssignOrCall (record { name = 126; selectors = S.no_selector }) (Some (record { becomes = 0; value = (S.only (S.simple None (S.term (S.Designated 128 S.no_selector) S.no_factor) S.no_term)) }))) (S.next_stat 0 (S.AssignOrCall (record { name = 130; selectors = S.no_selector }) (Some (record { becomes = 0; value = (S.only (S.simple None (S.term (S.Designated 132 S.no_selector) S.no_factor) S.no_term)) }))) (S.next_stat 0 (S.AssignOrCall (record { name = 134; selectors = S.no_selector }) (Some (record { becomes = 0; value = (S.only (S.simple None (S.term (S.Designated 136 S.no_selector) S.no_factor) S.no_term)) }))) (S.next_stat 0 (S.AssignOrCall (record { name = 138; selectors = S.no_selector }) (Some (record { becomes = 0; value = (S.only (S.simple None (S.term (S.Designated 140 S.no_selector) S.no_factor) S.no_term)) }))) (S.next_stat 0 (S.AssignOrCall (record { name = 142; selectors = S.no_selector }) (Some (record { becomes = 0; value = (S.only (S.simple None (S.term (S.Designated 144 S.no_selector) S.no_factor) S.no_term)) }))) S.no_stat)))))))))) })); end_word = 0; end_name = 146; period = 0 } }

pub scope_7 : checked (scope_7_0 ∷ []) ≡ Legal (record { records = (record { module_number = 0; base = None; level = 0; fields = []; cells = 0; extent = record { bytes = 0; wide = false } } ∷ []); pointers = (Some 0 ∷ []); modules = (record { name = (77 ∷ []); objects = (record { name = (97 ∷ []); exported = false; entity = I.OfConstant (I.Bits H.Integer 3) } ∷ record { name = (98 ∷ []); exported = false; entity = I.OfConstant (I.Bits H.Integer 10) } ∷ record { name = (115 ∷ []); exported = false; entity = I.OfConstant (I.Chars (104 ∷ 101 ∷ 108 ∷ 108 ∷ 111 ∷ [])) } ∷ record { name = (116 ∷ []); exported = false; entity = I.OfConstant (I.Chars (104 ∷ 101 ∷ 108 ∷ 108 ∷ 111 ∷ [])) } ∷ record { name = (99 ∷ []); exported = false; entity = I.OfConstant (I.Chars (120 ∷ [])) } ∷ record { name = (100 ∷ []); exported = false; entity = I.OfConstant (I.Bits H.Set 58) } ∷ record { name = (101 ∷ []); exported = false; entity = I.OfConstant (I.Bits H.Integer 120) } ∷ record { name = (102 ∷ []); exported = false; entity = I.OfConstant (I.Bits H.Char 121) } ∷ record { name = (103 ∷ []); exported = false; entity = I.OfConstant (I.Bits H.Boolean 1) } ∷ record { name = (104 ∷ []); exported = false; entity = I.OfConstant (I.Bits H.Integer 18446744073709551615) } ∷ record { name = (110 ∷ []); exported = false; entity = I.OfConstant (I.Bits H.Nil 0) } ∷ record { name = (105 ∷ []); exported = false; entity = I.OfVariable 0 } ∷ record { name = (113 ∷ []); exported = false; entity = I.OfVariable 1 } ∷ record { name = (120 ∷ []); exported = false; entity = I.OfVariable 2 } ∷ record { name = (122 ∷ []); exported = false; entity = I.OfVariable 3 } ∷ record { name = (119 ∷ []); exported = false; entity = I.OfVariable 4 } ∷ record { name = (112 ∷ []); exported = false; entity = I.OfVariable 5 } ∷ []); variables = (H.Integer ∷ H.Char ∷ H.Set ∷ H.Boolean ∷ (H.Array 9 H.Char) ∷ (H.Pointer 0) ∷ []); body = 0 } ∷ []); procedures = (record { module_number = 0; line = 1; is_body = true; formals = []; result = H.Nothing; locals = []; texts = ((104 ∷ 101 ∷ 108 ∷ 108 ∷ 111 ∷ []) ∷ (104 ∷ 101 ∷ 108 ∷ 108 ∷ 111 ∷ []) ∷ (120 ∷ []) ∷ []); body = (I.next_statement (I.Assign (I.of_type (I.Global 0 0) H.Integer) (record { form = (I.Literal 10); shape = H.Integer })) (I.next_statement (I.Assign (I.of_type (I.Global 0 1) H.Char) (record { form = (I.Literal 120); shape = H.Char })) (I.next_statement (I.Assign (I.of_type (I.Global 0 1) H.Char) (record { form = (I.Literal 121); shape = H.Char })) (I.next_statement (I.Assign (I.of_type (I.Global 0 2) H.Set) (record { form = (I.Literal 58); shape = H.Set })) (I.next_statement (I.Assign (I.of_type (I.Global 0 3) H.Boolean) (record { form = (I.Literal 1); shape = H.Boolean })) (I.next_statement (I.Assign (I.of_type (I.Global 0 0) H.Integer) (record { form = (I.Literal 18446744073709551615); shape = H.Integer })) (I.next_statement (I.CopyArray (I.of_type (I.Global 0 4) (H.Array 9 H.Char)) (I.of_type (I.Text (104 ∷ 101 ∷ 108 ∷ 108 ∷ 111 ∷ [])) (H.Text 5))) (I.next_statement (I.CopyArray (I.of_type (I.Global 0 4) (H.Array 9 H.Char)) (I.of_type (I.Text (104 ∷ 101 ∷ 108 ∷ 108 ∷ 111 ∷ [])) (H.Text 5))) (I.next_statement (I.Assign (I.of_type (I.Global 0 5) (H.Pointer 0)) (record { form = (I.Literal 0); shape = H.Nil })) (I.next_statement (I.CopyArray (I.of_type (I.Global 0 4) (H.Array 9 H.Char)) (I.of_type (I.Text (120 ∷ [])) (H.Text 1))) I.no_statement)))))))))); answer = None } ∷ []); imports_in = false })
scope_7 = refl

-- MODULE M; TYPE A = ARRAY 3 OF CHAR; VAR a: ARRAY 3 OF CHAR; b: A; c: ARRAY 2 OF A; d: ARRAY 2, 3 OF CHAR; BEGIN a := b; c := d; d[0] := c[1]; a := d[1] END M.
abbrev scope_8_0 : Parsed
scope_8_0 = record { source = record { bytes = (77 ∷ 79 ∷ 68 ∷ 85 ∷ 76 ∷ 69 ∷ 32 ∷ 77 ∷ 59 ∷ 32 ∷ 84 ∷ 89 ∷ 80 ∷ 69 ∷ 32 ∷ 65 ∷ 32 ∷ 61 ∷ 32 ∷ 65 ∷ 82 ∷ 82 ∷ 65 ∷ 89 ∷ 32 ∷ 51 ∷ 32 ∷ 79 ∷ 70 ∷ 32 ∷ 67 ∷ 72 ∷ 65 ∷ 82 ∷ 59 ∷ 32 ∷ 86 ∷ 65 ∷ 82 ∷ 32 ∷ 97 ∷ 58 ∷ 32 ∷ 65 ∷ 82 ∷ 82 ∷ 65 ∷ 89 ∷ 32 ∷ 51 ∷ 32 ∷ 79 ∷ 70 ∷ 32 ∷ 67 ∷ 72 ∷ 65 ∷ 82 ∷ 59 ∷ 32 ∷ 98 ∷ 58 ∷ 32 ∷ 65 ∷ 59 ∷ 32 ∷ 99 ∷ 58 ∷ 32 ∷ 65 ∷ 82 ∷ 82 ∷ 65 ∷ 89 ∷ 32 ∷ 50 ∷ 32 ∷ 79 ∷ 70 ∷ 32 ∷ 65 ∷ 59 ∷ 32 ∷ 100 ∷ 58 ∷ 32 ∷ 65 ∷ 82 ∷ 82 ∷ 65 ∷ 89 ∷ 32 ∷ 50 ∷ 44 ∷ 32 ∷ 51 ∷ 32 ∷ 79 ∷ 70 ∷ 32 ∷ 67 ∷ 72 ∷ 65 ∷ 82 ∷ 59 ∷ 32 ∷ 66 ∷ 69 ∷ 71 ∷ 73 ∷ 78 ∷ 32 ∷ 97 ∷ 32 ∷ 58 ∷ 61 ∷ 32 ∷ 98 ∷ 59 ∷ 32 ∷ 99 ∷ 32 ∷ 58 ∷ 61 ∷ 32 ∷ 100 ∷ 59 ∷ 32 ∷ 100 ∷ 91 ∷ 48 ∷ 93 ∷ 32 ∷ 58 ∷ 61 ∷ 32 ∷ 99 ∷ 91 ∷ 49 ∷ 93 ∷ 59 ∷ 32 ∷ 97 ∷ 32 ∷ 58 ∷ 61 ∷ 32 ∷ 100 ∷ 91 ∷ 49 ∷ 93 ∷ 32 ∷ 69 ∷ 78 ∷ 68 ∷ 32 ∷ 77 ∷ 46 ∷ []); symbols = (symbol (Ident) 0 6 ∷ symbol (Ident) 7 8 ∷ symbol (Ident) 8 9 ∷ symbol (Ident) 10 14 ∷ symbol (Ident) 15 16 ∷ symbol (Ident) 17 18 ∷ symbol (Ident) 19 24 ∷ symbol (Int (pos 3)) 25 26 ∷ symbol (Ident) 27 29 ∷ symbol (Ident) 30 34 ∷ symbol (Ident) 34 35 ∷ symbol (Ident) 36 39 ∷ symbol (Ident) 40 41 ∷ symbol (Ident) 41 42 ∷ symbol (Ident) 43 48 ∷ symbol (Int (pos 3)) 49 50 ∷ symbol (Ident) 51 53 ∷ symbol (Ident) 54 58 ∷ symbol (Ident) 58 59 ∷ symbol (Ident) 60 61 ∷ symbol (Ident) 61 62 ∷ symbol (Ident) 63 64 ∷ symbol (Ident) 64 65 ∷ symbol (Ident) 66 67 ∷ symbol (Ident) 67 68 ∷ symbol (Ident) 69 74 ∷ symbol (Int (pos 2)) 75 76 ∷ symbol (Ident) 77 79 ∷ symbol (Ident) 80 81 ∷ symbol (Ident) 81 82 ∷ symbol (Ident) 83 84 ∷ symbol (Ident) 84 85 ∷ symbol (Ident) 86 91 ∷ symbol (Int (pos 2)) 92 93 ∷ symbol (Ident) 93 94 ∷ symbol (Int (pos 3)) 95 96 ∷ symbol (Ident) 97 99 ∷ symbol (Ident) 100 104 ∷ symbol (Ident) 104 105 ∷ symbol (Ident) 106 111 ∷ symbol (Ident) 112 113 ∷ symbol (Ident) 114 116 ∷ symbol (Ident) 117 118 ∷ symbol (Ident) 118 119 ∷ symbol (Ident) 120 121 ∷ symbol (Ident) 122 124 ∷ symbol (Ident) 125 126 ∷ symbol (Ident) 126 127 ∷ symbol (Ident) 128 129 ∷ symbol (Ident) 129 130 ∷ symbol (Int (pos 0)) 130 131 ∷ symbol (Ident) 131 132 ∷ symbol (Ident) 133 135 ∷ symbol (Ident) 136 137 ∷ symbol (Ident) 137 138 ∷ symbol (Int (pos 1)) 138 139 ∷ symbol (Ident) 139 140 ∷ symbol (Ident) 140 141 ∷ symbol (Ident) 142 143 ∷ symbol (Ident) 144 146 ∷ symbol (Ident) 147 148 ∷ symbol (Ident) 148 149 ∷ symbol (Int (pos 1)) 149 150 ∷ symbol (Ident) 150 151 ∷ symbol (Ident) 152 155 ∷ symbol (Ident) 156 157 ∷ symbol (Ident) 157 158 ∷ []) }; tree = record { module_word = 0; name = 1; semicolon = 0; imports = None; decls = (S.decls None (Some (record { type_word = 0; each = (record { name = (record { name = 4; star = None }); equal = 0; is = (S.Array 6 (S.only (S.simple None (S.term (S.Int 7) S.no_factor) S.no_term)) S.no_expression 0 (S.Named (record { name = 9; member = None }))); semicolon = 0 } ∷ []) })) (Some (record { var_word = 0; each = (record { names = (record { first = (record { name = 12; star = None }); more = [] }); colon = 0; of = (S.Array 14 (S.only (S.simple None (S.term (S.Int 15) S.no_factor) S.no_term)) S.no_expression 0 (S.Named (record { name = 17; member = None }))); semicolon = 0 } ∷ record { names = (record { first = (record { name = 19; star = None }); more = [] }); colon = 0; of = (S.Named (record { name = 21; member = None })); semicolon = 0 } ∷ record { names = (record { first = (record { name = 23; star = None }); more = [] }); colon = 0; of = (S.Array 25 (S.only (S.simple None (S.term (S.Int 26) S.no_factor) S.no_term)) S.no_expression 0 (S.Named (record { name = 28; member = None }))); semicolon = 0 } ∷ record { names = (record { first = (record { name = 30; star = None }); more = [] }); colon = 0; of = (S.Array 32 (S.only (S.simple None (S.term (S.Int 33) S.no_factor) S.no_term)) (S.next_expression 0 (S.only (S.simple None (S.term (S.Int 35) S.no_factor) S.no_term)) S.no_expression) 0 (S.Named (record { name = 37; member = None }))); semicolon = 0 } ∷ []) })) S.no_procedure); body = (Some (record { begin_word = 0; stats = (S.stats (S.AssignOrCall (record { name = 40; selectors = S.no_selector }) (Some (record { becomes = 0; value = (S.only (S.simple None (S.term (S.Designated 42 S.no_selector) S.no_factor) S.no_term)) }))) (S.next_stat 0 (S.AssignOrCall (record { name = 44; selectors = S.no_selector }) (Some (record { becomes = 0; value = (S.only (S.simple None (S.term (S.Designated 46 S.no_selector) S.no_factor) S.no_term)) }))) (S.next_stat 0 (S.AssignOrCall (record { name = 48; selectors = (S.selected (S.Index 0 (S.expressions (S.only (S.simple None (S.term (S.Int 50) S.no_factor) S.no_term)) S.no_expression) 0) S.no_selector) }) (Some (record { becomes = 0; value = (S.only (S.simple None (S.term (S.Designated 53 (S.selected (S.Index 0 (S.expressions (S.only (S.simple None (S.term (S.Int 55) S.no_factor) S.no_term)) S.no_expression) 0) S.no_selector)) S.no_factor) S.no_term)) }))) (S.next_stat 0 (S.AssignOrCall (record { name = 58; selectors = S.no_selector }) (Some (record { becomes = 0; value = (S.only (S.simple None (S.term (S.Designated 60 (S.selected (S.Index 0 (S.expressions (S.only (S.simple None (S.term (S.Int 62) S.no_factor) S.no_term)) S.no_expression) 0) S.no_selector)) S.no_factor) S.no_term)) }))) S.no_stat)))) })); end_word = 0; end_name = 65; period = 0 } }

pub scope_8 : checked (scope_8_0 ∷ []) ≡ Legal (record { records = []; pointers = []; modules = (record { name = (77 ∷ []); objects = (record { name = (65 ∷ []); exported = false; entity = I.OfType (H.Array 3 H.Char) } ∷ record { name = (97 ∷ []); exported = false; entity = I.OfVariable 0 } ∷ record { name = (98 ∷ []); exported = false; entity = I.OfVariable 1 } ∷ record { name = (99 ∷ []); exported = false; entity = I.OfVariable 2 } ∷ record { name = (100 ∷ []); exported = false; entity = I.OfVariable 3 } ∷ []); variables = ((H.Array 3 H.Char) ∷ (H.Array 3 H.Char) ∷ (H.Array 2 (H.Array 3 H.Char)) ∷ (H.Array 2 (H.Array 3 H.Char)) ∷ []); body = 0 } ∷ []); procedures = (record { module_number = 0; line = 1; is_body = true; formals = []; result = H.Nothing; locals = []; texts = []; body = (I.next_statement (I.CopyArray (I.of_type (I.Global 0 0) (H.Array 3 H.Char)) (I.of_type (I.Global 0 1) (H.Array 3 H.Char))) (I.next_statement (I.CopyArray (I.of_type (I.Global 0 2) (H.Array 2 (H.Array 3 H.Char))) (I.of_type (I.Global 0 3) (H.Array 2 (H.Array 3 H.Char)))) (I.next_statement (I.CopyArray (I.of_type (I.Index (I.Global 0 3) (Some 2) (H.Array 3 H.Char) (I.Literal 0)) (H.Array 3 H.Char)) (I.of_type (I.Index (I.Global 0 2) (Some 2) (H.Array 3 H.Char) (I.Literal 1)) (H.Array 3 H.Char))) (I.next_statement (I.CopyArray (I.of_type (I.Global 0 0) (H.Array 3 H.Char)) (I.of_type (I.Index (I.Global 0 3) (Some 2) (H.Array 3 H.Char) (I.Literal 1)) (H.Array 3 H.Char))) I.no_statement)))); answer = None } ∷ []); imports_in = false })
scope_8 = refl

-- MODULE M; TYPE R = RECORD END; S = RECORD END; VAR r: R; s: S; BEGIN r := s END M.
abbrev scope_9_0 : Parsed
scope_9_0 = record { source = record { bytes = (77 ∷ 79 ∷ 68 ∷ 85 ∷ 76 ∷ 69 ∷ 32 ∷ 77 ∷ 59 ∷ 32 ∷ 84 ∷ 89 ∷ 80 ∷ 69 ∷ 32 ∷ 82 ∷ 32 ∷ 61 ∷ 32 ∷ 82 ∷ 69 ∷ 67 ∷ 79 ∷ 82 ∷ 68 ∷ 32 ∷ 69 ∷ 78 ∷ 68 ∷ 59 ∷ 32 ∷ 83 ∷ 32 ∷ 61 ∷ 32 ∷ 82 ∷ 69 ∷ 67 ∷ 79 ∷ 82 ∷ 68 ∷ 32 ∷ 69 ∷ 78 ∷ 68 ∷ 59 ∷ 32 ∷ 86 ∷ 65 ∷ 82 ∷ 32 ∷ 114 ∷ 58 ∷ 32 ∷ 82 ∷ 59 ∷ 32 ∷ 115 ∷ 58 ∷ 32 ∷ 83 ∷ 59 ∷ 32 ∷ 66 ∷ 69 ∷ 71 ∷ 73 ∷ 78 ∷ 32 ∷ 114 ∷ 32 ∷ 58 ∷ 61 ∷ 32 ∷ 115 ∷ 32 ∷ 69 ∷ 78 ∷ 68 ∷ 32 ∷ 77 ∷ 46 ∷ []); symbols = (symbol (Ident) 0 6 ∷ symbol (Ident) 7 8 ∷ symbol (Ident) 8 9 ∷ symbol (Ident) 10 14 ∷ symbol (Ident) 15 16 ∷ symbol (Ident) 17 18 ∷ symbol (Ident) 19 25 ∷ symbol (Ident) 26 29 ∷ symbol (Ident) 29 30 ∷ symbol (Ident) 31 32 ∷ symbol (Ident) 33 34 ∷ symbol (Ident) 35 41 ∷ symbol (Ident) 42 45 ∷ symbol (Ident) 45 46 ∷ symbol (Ident) 47 50 ∷ symbol (Ident) 51 52 ∷ symbol (Ident) 52 53 ∷ symbol (Ident) 54 55 ∷ symbol (Ident) 55 56 ∷ symbol (Ident) 57 58 ∷ symbol (Ident) 58 59 ∷ symbol (Ident) 60 61 ∷ symbol (Ident) 61 62 ∷ symbol (Ident) 63 68 ∷ symbol (Ident) 69 70 ∷ symbol (Ident) 71 73 ∷ symbol (Ident) 74 75 ∷ symbol (Ident) 76 79 ∷ symbol (Ident) 80 81 ∷ symbol (Ident) 81 82 ∷ []) }; tree = record { module_word = 0; name = 1; semicolon = 0; imports = None; decls = (S.decls None (Some (record { type_word = 0; each = (record { name = (record { name = 4; star = None }); equal = 0; is = (S.Record 6 None S.no_fields S.no_more_fields 0); semicolon = 0 } ∷ record { name = (record { name = 9; star = None }); equal = 0; is = (S.Record 11 None S.no_fields S.no_more_fields 0); semicolon = 0 } ∷ []) })) (Some (record { var_word = 0; each = (record { names = (record { first = (record { name = 15; star = None }); more = [] }); colon = 0; of = (S.Named (record { name = 17; member = None })); semicolon = 0 } ∷ record { names = (record { first = (record { name = 19; star = None }); more = [] }); colon = 0; of = (S.Named (record { name = 21; member = None })); semicolon = 0 } ∷ []) })) S.no_procedure); body = (Some (record { begin_word = 0; stats = (S.stats (S.AssignOrCall (record { name = 24; selectors = S.no_selector }) (Some (record { becomes = 0; value = (S.only (S.simple None (S.term (S.Designated 26 S.no_selector) S.no_factor) S.no_term)) }))) S.no_stat) })); end_word = 0; end_name = 28; period = 0 } }

pub scope_9 : checked (scope_9_0 ∷ []) ≡ Fault 0 31 74
scope_9 = refl

-- MODULE M; VAR p: POINTER TO RECORD x: INTEGER END; q: POINTER TO RECORD x: INTEGER END; BEGIN p := q END M.
abbrev scope_10_0 : Parsed
scope_10_0 = record { source = record { bytes = (77 ∷ 79 ∷ 68 ∷ 85 ∷ 76 ∷ 69 ∷ 32 ∷ 77 ∷ 59 ∷ 32 ∷ 86 ∷ 65 ∷ 82 ∷ 32 ∷ 112 ∷ 58 ∷ 32 ∷ 80 ∷ 79 ∷ 73 ∷ 78 ∷ 84 ∷ 69 ∷ 82 ∷ 32 ∷ 84 ∷ 79 ∷ 32 ∷ 82 ∷ 69 ∷ 67 ∷ 79 ∷ 82 ∷ 68 ∷ 32 ∷ 120 ∷ 58 ∷ 32 ∷ 73 ∷ 78 ∷ 84 ∷ 69 ∷ 71 ∷ 69 ∷ 82 ∷ 32 ∷ 69 ∷ 78 ∷ 68 ∷ 59 ∷ 32 ∷ 113 ∷ 58 ∷ 32 ∷ 80 ∷ 79 ∷ 73 ∷ 78 ∷ 84 ∷ 69 ∷ 82 ∷ 32 ∷ 84 ∷ 79 ∷ 32 ∷ 82 ∷ 69 ∷ 67 ∷ 79 ∷ 82 ∷ 68 ∷ 32 ∷ 120 ∷ 58 ∷ 32 ∷ 73 ∷ 78 ∷ 84 ∷ 69 ∷ 71 ∷ 69 ∷ 82 ∷ 32 ∷ 69 ∷ 78 ∷ 68 ∷ 59 ∷ 32 ∷ 66 ∷ 69 ∷ 71 ∷ 73 ∷ 78 ∷ 32 ∷ 112 ∷ 32 ∷ 58 ∷ 61 ∷ 32 ∷ 113 ∷ 32 ∷ 69 ∷ 78 ∷ 68 ∷ 32 ∷ 77 ∷ 46 ∷ []); symbols = (symbol (Ident) 0 6 ∷ symbol (Ident) 7 8 ∷ symbol (Ident) 8 9 ∷ symbol (Ident) 10 13 ∷ symbol (Ident) 14 15 ∷ symbol (Ident) 15 16 ∷ symbol (Ident) 17 24 ∷ symbol (Ident) 25 27 ∷ symbol (Ident) 28 34 ∷ symbol (Ident) 35 36 ∷ symbol (Ident) 36 37 ∷ symbol (Ident) 38 45 ∷ symbol (Ident) 46 49 ∷ symbol (Ident) 49 50 ∷ symbol (Ident) 51 52 ∷ symbol (Ident) 52 53 ∷ symbol (Ident) 54 61 ∷ symbol (Ident) 62 64 ∷ symbol (Ident) 65 71 ∷ symbol (Ident) 72 73 ∷ symbol (Ident) 73 74 ∷ symbol (Ident) 75 82 ∷ symbol (Ident) 83 86 ∷ symbol (Ident) 86 87 ∷ symbol (Ident) 88 93 ∷ symbol (Ident) 94 95 ∷ symbol (Ident) 96 98 ∷ symbol (Ident) 99 100 ∷ symbol (Ident) 101 104 ∷ symbol (Ident) 105 106 ∷ symbol (Ident) 106 107 ∷ []) }; tree = record { module_word = 0; name = 1; semicolon = 0; imports = None; decls = (S.decls None None (Some (record { var_word = 0; each = (record { names = (record { first = (record { name = 4; star = None }); more = [] }); colon = 0; of = (S.Pointer 6 0 (S.Record 8 None (S.fields (record { first = (record { name = 9; star = None }); more = [] }) 0 (S.Named (record { name = 11; member = None }))) S.no_more_fields 0)); semicolon = 0 } ∷ record { names = (record { first = (record { name = 14; star = None }); more = [] }); colon = 0; of = (S.Pointer 16 0 (S.Record 18 None (S.fields (record { first = (record { name = 19; star = None }); more = [] }) 0 (S.Named (record { name = 21; member = None }))) S.no_more_fields 0)); semicolon = 0 } ∷ []) })) S.no_procedure); body = (Some (record { begin_word = 0; stats = (S.stats (S.AssignOrCall (record { name = 25; selectors = S.no_selector }) (Some (record { becomes = 0; value = (S.only (S.simple None (S.term (S.Designated 27 S.no_selector) S.no_factor) S.no_term)) }))) S.no_stat) })); end_word = 0; end_name = 29; period = 0 } }

pub scope_10 : checked (scope_10_0 ∷ []) ≡ Fault 0 31 99
scope_10 = refl

-- MODULE M; TYPE INTEGER = CHAR; VAR x: INTEGER; BEGIN x := ''a'' END M.
abbrev scope_11_0 : Parsed
scope_11_0 = record { source = record { bytes = (77 ∷ 79 ∷ 68 ∷ 85 ∷ 76 ∷ 69 ∷ 32 ∷ 77 ∷ 59 ∷ 32 ∷ 84 ∷ 89 ∷ 80 ∷ 69 ∷ 32 ∷ 73 ∷ 78 ∷ 84 ∷ 69 ∷ 71 ∷ 69 ∷ 82 ∷ 32 ∷ 61 ∷ 32 ∷ 67 ∷ 72 ∷ 65 ∷ 82 ∷ 59 ∷ 32 ∷ 86 ∷ 65 ∷ 82 ∷ 32 ∷ 120 ∷ 58 ∷ 32 ∷ 73 ∷ 78 ∷ 84 ∷ 69 ∷ 71 ∷ 69 ∷ 82 ∷ 59 ∷ 32 ∷ 66 ∷ 69 ∷ 71 ∷ 73 ∷ 78 ∷ 32 ∷ 120 ∷ 32 ∷ 58 ∷ 61 ∷ 32 ∷ 34 ∷ 97 ∷ 34 ∷ 32 ∷ 69 ∷ 78 ∷ 68 ∷ 32 ∷ 77 ∷ 46 ∷ []); symbols = (symbol (Ident) 0 6 ∷ symbol (Ident) 7 8 ∷ symbol (Ident) 8 9 ∷ symbol (Ident) 10 14 ∷ symbol (Ident) 15 22 ∷ symbol (Ident) 23 24 ∷ symbol (Ident) 25 29 ∷ symbol (Ident) 29 30 ∷ symbol (Ident) 31 34 ∷ symbol (Ident) 35 36 ∷ symbol (Ident) 36 37 ∷ symbol (Ident) 38 45 ∷ symbol (Ident) 45 46 ∷ symbol (Ident) 47 52 ∷ symbol (Ident) 53 54 ∷ symbol (Ident) 55 57 ∷ symbol (TheKind.Text) 58 61 ∷ symbol (Ident) 62 65 ∷ symbol (Ident) 66 67 ∷ symbol (Ident) 67 68 ∷ []) }; tree = record { module_word = 0; name = 1; semicolon = 0; imports = None; decls = (S.decls None (Some (record { type_word = 0; each = (record { name = (record { name = 4; star = None }); equal = 0; is = (S.Named (record { name = 6; member = None })); semicolon = 0 } ∷ []) })) (Some (record { var_word = 0; each = (record { names = (record { first = (record { name = 9; star = None }); more = [] }); colon = 0; of = (S.Named (record { name = 11; member = None })); semicolon = 0 } ∷ []) })) S.no_procedure); body = (Some (record { begin_word = 0; stats = (S.stats (S.AssignOrCall (record { name = 14; selectors = S.no_selector }) (Some (record { becomes = 0; value = (S.only (S.simple None (S.term (S.Text 16) S.no_factor) S.no_term)) }))) S.no_stat) })); end_word = 0; end_name = 18; period = 0 } }

pub scope_11 : checked (scope_11_0 ∷ []) ≡ Legal (record { records = []; pointers = []; modules = (record { name = (77 ∷ []); objects = (record { name = (73 ∷ 78 ∷ 84 ∷ 69 ∷ 71 ∷ 69 ∷ 82 ∷ []); exported = false; entity = I.OfType H.Char } ∷ record { name = (120 ∷ []); exported = false; entity = I.OfVariable 0 } ∷ []); variables = (H.Char ∷ []); body = 0 } ∷ []); procedures = (record { module_number = 0; line = 1; is_body = true; formals = []; result = H.Nothing; locals = []; texts = []; body = (I.next_statement (I.Assign (I.of_type (I.Global 0 0) H.Char) (record { form = (I.Literal 97); shape = H.Char })) I.no_statement); answer = None } ∷ []); imports_in = false })
scope_11 = refl

-- MODULE M; PROCEDURE P(VAR a: ARRAY OF INTEGER; b: ARRAY OF INTEGER; VAR c: ARRAY OF CHAR); BEGIN a := b; a[1] := b[0]; c := ''abc''; P(a, b, c); P(a, a, c) END P; END M.
abbrev scope_12_0 : Parsed
scope_12_0 = record { source = record { bytes = (77 ∷ 79 ∷ 68 ∷ 85 ∷ 76 ∷ 69 ∷ 32 ∷ 77 ∷ 59 ∷ 32 ∷ 80 ∷ 82 ∷ 79 ∷ 67 ∷ 69 ∷ 68 ∷ 85 ∷ 82 ∷ 69 ∷ 32 ∷ 80 ∷ 40 ∷ 86 ∷ 65 ∷ 82 ∷ 32 ∷ 97 ∷ 58 ∷ 32 ∷ 65 ∷ 82 ∷ 82 ∷ 65 ∷ 89 ∷ 32 ∷ 79 ∷ 70 ∷ 32 ∷ 73 ∷ 78 ∷ 84 ∷ 69 ∷ 71 ∷ 69 ∷ 82 ∷ 59 ∷ 32 ∷ 98 ∷ 58 ∷ 32 ∷ 65 ∷ 82 ∷ 82 ∷ 65 ∷ 89 ∷ 32 ∷ 79 ∷ 70 ∷ 32 ∷ 73 ∷ 78 ∷ 84 ∷ 69 ∷ 71 ∷ 69 ∷ 82 ∷ 59 ∷ 32 ∷ 86 ∷ 65 ∷ 82 ∷ 32 ∷ 99 ∷ 58 ∷ 32 ∷ 65 ∷ 82 ∷ 82 ∷ 65 ∷ 89 ∷ 32 ∷ 79 ∷ 70 ∷ 32 ∷ 67 ∷ 72 ∷ 65 ∷ 82 ∷ 41 ∷ 59 ∷ 32 ∷ 66 ∷ 69 ∷ 71 ∷ 73 ∷ 78 ∷ 32 ∷ 97 ∷ 32 ∷ 58 ∷ 61 ∷ 32 ∷ 98 ∷ 59 ∷ 32 ∷ 97 ∷ 91 ∷ 49 ∷ 93 ∷ 32 ∷ 58 ∷ 61 ∷ 32 ∷ 98 ∷ 91 ∷ 48 ∷ 93 ∷ 59 ∷ 32 ∷ 99 ∷ 32 ∷ 58 ∷ 61 ∷ 32 ∷ 34 ∷ 97 ∷ 98 ∷ 99 ∷ 34 ∷ 59 ∷ 32 ∷ 80 ∷ 40 ∷ 97 ∷ 44 ∷ 32 ∷ 98 ∷ 44 ∷ 32 ∷ 99 ∷ 41 ∷ 59 ∷ 32 ∷ 80 ∷ 40 ∷ 97 ∷ 44 ∷ 32 ∷ 97 ∷ 44 ∷ 32 ∷ 99 ∷ 41 ∷ 32 ∷ 69 ∷ 78 ∷ 68 ∷ 32 ∷ 80 ∷ 59 ∷ 32 ∷ 69 ∷ 78 ∷ 68 ∷ 32 ∷ 77 ∷ 46 ∷ []); symbols = (symbol (Ident) 0 6 ∷ symbol (Ident) 7 8 ∷ symbol (Ident) 8 9 ∷ symbol (Ident) 10 19 ∷ symbol (Ident) 20 21 ∷ symbol (Ident) 21 22 ∷ symbol (Ident) 22 25 ∷ symbol (Ident) 26 27 ∷ symbol (Ident) 27 28 ∷ symbol (Ident) 29 34 ∷ symbol (Ident) 35 37 ∷ symbol (Ident) 38 45 ∷ symbol (Ident) 45 46 ∷ symbol (Ident) 47 48 ∷ symbol (Ident) 48 49 ∷ symbol (Ident) 50 55 ∷ symbol (Ident) 56 58 ∷ symbol (Ident) 59 66 ∷ symbol (Ident) 66 67 ∷ symbol (Ident) 68 71 ∷ symbol (Ident) 72 73 ∷ symbol (Ident) 73 74 ∷ symbol (Ident) 75 80 ∷ symbol (Ident) 81 83 ∷ symbol (Ident) 84 88 ∷ symbol (Ident) 88 89 ∷ symbol (Ident) 89 90 ∷ symbol (Ident) 91 96 ∷ symbol (Ident) 97 98 ∷ symbol (Ident) 99 101 ∷ symbol (Ident) 102 103 ∷ symbol (Ident) 103 104 ∷ symbol (Ident) 105 106 ∷ symbol (Ident) 106 107 ∷ symbol (Int (pos 1)) 107 108 ∷ symbol (Ident) 108 109 ∷ symbol (Ident) 110 112 ∷ symbol (Ident) 113 114 ∷ symbol (Ident) 114 115 ∷ symbol (Int (pos 0)) 115 116 ∷ symbol (Ident) 116 117 ∷ symbol (Ident) 117 118 ∷ symbol (Ident) 119 120 ∷ symbol (Ident) 121 123 ∷ symbol (TheKind.Text) 124 129 ∷ symbol (Ident) 129 130 ∷ symbol (Ident) 131 132 ∷ symbol (Ident) 132 133 ∷ symbol (Ident) 133 134 ∷ symbol (Ident) 134 135 ∷ symbol (Ident) 136 137 ∷ symbol (Ident) 137 138 ∷ symbol (Ident) 139 140 ∷ symbol (Ident) 140 141 ∷ symbol (Ident) 141 142 ∷ symbol (Ident) 143 144 ∷ symbol (Ident) 144 145 ∷ symbol (Ident) 145 146 ∷ symbol (Ident) 146 147 ∷ symbol (Ident) 148 149 ∷ symbol (Ident) 149 150 ∷ symbol (Ident) 151 152 ∷ symbol (Ident) 152 153 ∷ symbol (Ident) 154 157 ∷ symbol (Ident) 158 159 ∷ symbol (Ident) 159 160 ∷ symbol (Ident) 161 164 ∷ symbol (Ident) 165 166 ∷ symbol (Ident) 166 167 ∷ []) }; tree = record { module_word = 0; name = 1; semicolon = 0; imports = None; decls = (S.decls None None None (S.procedure 0 (record { name = 4; star = None }) (Some (record { left_paren = 0; sections = Some (record { first = (record { var_word = Some 0; first = 7; more = []; colon = 0; open_array = Some (record { array_word = 0; of_word = 0 }); of = (record { name = 11; member = None }) }); more = (record { semicolon = 0; section = (record { var_word = None; first = 13; more = []; colon = 0; open_array = Some (record { array_word = 0; of_word = 0 }); of = (record { name = 17; member = None }) }) } ∷ record { semicolon = 0; section = (record { var_word = Some 0; first = 20; more = []; colon = 0; open_array = Some (record { array_word = 0; of_word = 0 }); of = (record { name = 24; member = None }) }) } ∷ []) }); right_paren = 0; result = None })) 0 (S.decls None None None S.no_procedure) (Some (record { begin_word = 0; stats = (S.stats (S.AssignOrCall (record { name = 28; selectors = S.no_selector }) (Some (record { becomes = 0; value = (S.only (S.simple None (S.term (S.Designated 30 S.no_selector) S.no_factor) S.no_term)) }))) (S.next_stat 0 (S.AssignOrCall (record { name = 32; selectors = (S.selected (S.Index 0 (S.expressions (S.only (S.simple None (S.term (S.Int 34) S.no_factor) S.no_term)) S.no_expression) 0) S.no_selector) }) (Some (record { becomes = 0; value = (S.only (S.simple None (S.term (S.Designated 37 (S.selected (S.Index 0 (S.expressions (S.only (S.simple None (S.term (S.Int 39) S.no_factor) S.no_term)) S.no_expression) 0) S.no_selector)) S.no_factor) S.no_term)) }))) (S.next_stat 0 (S.AssignOrCall (record { name = 42; selectors = S.no_selector }) (Some (record { becomes = 0; value = (S.only (S.simple None (S.term (S.Text 44) S.no_factor) S.no_term)) }))) (S.next_stat 0 (S.AssignOrCall (record { name = 46; selectors = (S.selected (S.Parens 0 (S.expressions (S.only (S.simple None (S.term (S.Designated 48 S.no_selector) S.no_factor) S.no_term)) (S.next_expression 0 (S.only (S.simple None (S.term (S.Designated 50 S.no_selector) S.no_factor) S.no_term)) (S.next_expression 0 (S.only (S.simple None (S.term (S.Designated 52 S.no_selector) S.no_factor) S.no_term)) S.no_expression))) 0) S.no_selector) }) None) (S.next_stat 0 (S.AssignOrCall (record { name = 55; selectors = (S.selected (S.Parens 0 (S.expressions (S.only (S.simple None (S.term (S.Designated 57 S.no_selector) S.no_factor) S.no_term)) (S.next_expression 0 (S.only (S.simple None (S.term (S.Designated 59 S.no_selector) S.no_factor) S.no_term)) (S.next_expression 0 (S.only (S.simple None (S.term (S.Designated 61 S.no_selector) S.no_factor) S.no_term)) S.no_expression))) 0) S.no_selector) }) None) S.no_stat))))) })) None 63 64 0 S.no_procedure)); body = None; end_word = 0; end_name = 67; period = 0 } }

pub scope_12 : checked (scope_12_0 ∷ []) ≡ Legal (record { records = []; pointers = []; modules = (record { name = (77 ∷ []); objects = (record { name = (80 ∷ []); exported = false; entity = I.OfProcedure 0 } ∷ []); variables = []; body = 1 } ∷ []); procedures = (record { module_number = 0; line = 1; is_body = false; formals = (record { mode = TheMode.Open; variable = true; shape = (H.Open H.Integer) } ∷ record { mode = TheMode.Open; variable = false; shape = (H.Open H.Integer) } ∷ record { mode = TheMode.Open; variable = true; shape = (H.Open H.Char) } ∷ []); result = H.Nothing; locals = []; texts = ((97 ∷ 98 ∷ 99 ∷ []) ∷ []); body = (I.next_statement (I.CopyArray (I.of_type (I.Parameter 0) (H.Open H.Integer)) (I.of_type (I.Parameter 1) (H.Open H.Integer))) (I.next_statement (I.Assign (I.of_type (I.Index (I.Parameter 0) None H.Integer (I.Literal 1)) H.Integer) (record { form = (I.Load (I.of_type (I.Index (I.Parameter 1) None H.Integer (I.Literal 0)) H.Integer)); shape = H.Integer })) (I.next_statement (I.CopyArray (I.of_type (I.Parameter 2) (H.Open H.Char)) (I.of_type (I.Text (97 ∷ 98 ∷ 99 ∷ [])) (H.Text 3))) (I.next_statement (I.Invoke (I.Direct 0 (I.next_argument (I.ByOpen (I.of_type (I.Parameter 0) (H.Open H.Integer))) (I.next_argument (I.ByOpen (I.of_type (I.Parameter 1) (H.Open H.Integer))) (I.next_argument (I.ByOpen (I.of_type (I.Parameter 2) (H.Open H.Char))) I.no_argument))))) (I.next_statement (I.Invoke (I.Direct 0 (I.next_argument (I.ByOpen (I.of_type (I.Parameter 0) (H.Open H.Integer))) (I.next_argument (I.ByOpen (I.of_type (I.Parameter 0) (H.Open H.Integer))) (I.next_argument (I.ByOpen (I.of_type (I.Parameter 2) (H.Open H.Char))) I.no_argument))))) I.no_statement))))); answer = None } ∷ record { module_number = 0; line = 1; is_body = true; formals = []; result = H.Nothing; locals = []; texts = []; body = I.no_statement; answer = None } ∷ []); imports_in = false })
scope_12 = refl

-- MODULE M; VAR i: INTEGER; PROCEDURE P(x: BYTE): BYTE; RETURN x + 1 END P; BEGIN i := P(i) END M.
abbrev scope_13_0 : Parsed
scope_13_0 = record { source = record { bytes = (77 ∷ 79 ∷ 68 ∷ 85 ∷ 76 ∷ 69 ∷ 32 ∷ 77 ∷ 59 ∷ 32 ∷ 86 ∷ 65 ∷ 82 ∷ 32 ∷ 105 ∷ 58 ∷ 32 ∷ 73 ∷ 78 ∷ 84 ∷ 69 ∷ 71 ∷ 69 ∷ 82 ∷ 59 ∷ 32 ∷ 80 ∷ 82 ∷ 79 ∷ 67 ∷ 69 ∷ 68 ∷ 85 ∷ 82 ∷ 69 ∷ 32 ∷ 80 ∷ 40 ∷ 120 ∷ 58 ∷ 32 ∷ 66 ∷ 89 ∷ 84 ∷ 69 ∷ 41 ∷ 58 ∷ 32 ∷ 66 ∷ 89 ∷ 84 ∷ 69 ∷ 59 ∷ 32 ∷ 82 ∷ 69 ∷ 84 ∷ 85 ∷ 82 ∷ 78 ∷ 32 ∷ 120 ∷ 32 ∷ 43 ∷ 32 ∷ 49 ∷ 32 ∷ 69 ∷ 78 ∷ 68 ∷ 32 ∷ 80 ∷ 59 ∷ 32 ∷ 66 ∷ 69 ∷ 71 ∷ 73 ∷ 78 ∷ 32 ∷ 105 ∷ 32 ∷ 58 ∷ 61 ∷ 32 ∷ 80 ∷ 40 ∷ 105 ∷ 41 ∷ 32 ∷ 69 ∷ 78 ∷ 68 ∷ 32 ∷ 77 ∷ 46 ∷ []); symbols = (symbol (Ident) 0 6 ∷ symbol (Ident) 7 8 ∷ symbol (Ident) 8 9 ∷ symbol (Ident) 10 13 ∷ symbol (Ident) 14 15 ∷ symbol (Ident) 15 16 ∷ symbol (Ident) 17 24 ∷ symbol (Ident) 24 25 ∷ symbol (Ident) 26 35 ∷ symbol (Ident) 36 37 ∷ symbol (Ident) 37 38 ∷ symbol (Ident) 38 39 ∷ symbol (Ident) 39 40 ∷ symbol (Ident) 41 45 ∷ symbol (Ident) 45 46 ∷ symbol (Ident) 46 47 ∷ symbol (Ident) 48 52 ∷ symbol (Ident) 52 53 ∷ symbol (Ident) 54 60 ∷ symbol (Ident) 61 62 ∷ symbol (Ident) 63 64 ∷ symbol (Int (pos 1)) 65 66 ∷ symbol (Ident) 67 70 ∷ symbol (Ident) 71 72 ∷ symbol (Ident) 72 73 ∷ symbol (Ident) 74 79 ∷ symbol (Ident) 80 81 ∷ symbol (Ident) 82 84 ∷ symbol (Ident) 85 86 ∷ symbol (Ident) 86 87 ∷ symbol (Ident) 87 88 ∷ symbol (Ident) 88 89 ∷ symbol (Ident) 90 93 ∷ symbol (Ident) 94 95 ∷ symbol (Ident) 95 96 ∷ []) }; tree = record { module_word = 0; name = 1; semicolon = 0; imports = None; decls = (S.decls None None (Some (record { var_word = 0; each = (record { names = (record { first = (record { name = 4; star = None }); more = [] }); colon = 0; of = (S.Named (record { name = 6; member = None })); semicolon = 0 } ∷ []) })) (S.procedure 0 (record { name = 9; star = None }) (Some (record { left_paren = 0; sections = Some (record { first = (record { var_word = None; first = 11; more = []; colon = 0; open_array = None; of = (record { name = 13; member = None }) }); more = [] }); right_paren = 0; result = Some (record { colon = 0; name = (record { name = 16; member = None }) }) })) 0 (S.decls None None None S.no_procedure) None (Some (record { return_word = 18; value = (S.only (S.simple None (S.term (S.Designated 19 S.no_selector) S.no_factor) (S.added (TheAddOperator.Plus 20) (S.term (S.Int 21) S.no_factor) S.no_term))) })) 22 23 0 S.no_procedure)); body = (Some (record { begin_word = 0; stats = (S.stats (S.AssignOrCall (record { name = 26; selectors = S.no_selector }) (Some (record { becomes = 0; value = (S.only (S.simple None (S.term (S.Designated 28 (S.selected (S.Parens 0 (S.expressions (S.only (S.simple None (S.term (S.Designated 30 S.no_selector) S.no_factor) S.no_term)) S.no_expression) 0) S.no_selector)) S.no_factor) S.no_term)) }))) S.no_stat) })); end_word = 0; end_name = 33; period = 0 } }

pub scope_13 : checked (scope_13_0 ∷ []) ≡ Legal (record { records = []; pointers = []; modules = (record { name = (77 ∷ []); objects = (record { name = (105 ∷ []); exported = false; entity = I.OfVariable 0 } ∷ record { name = (80 ∷ []); exported = false; entity = I.OfProcedure 0 } ∷ []); variables = (H.Integer ∷ []); body = 1 } ∷ []); procedures = (record { module_number = 0; line = 1; is_body = false; formals = (record { mode = TheMode.Value; variable = false; shape = H.Byte } ∷ []); result = H.Byte; locals = []; texts = []; body = I.no_statement; answer = (Some (record { form = (I.AsByte (I.Linked (I.Load (I.of_type (I.Local 0) H.Byte)) (I.Operate TheBinary.Add (I.Literal 1)))); shape = H.Byte })) } ∷ record { module_number = 0; line = 1; is_body = true; formals = []; result = H.Nothing; locals = []; texts = []; body = (I.next_statement (I.Assign (I.of_type (I.Global 0 0) H.Integer) (record { form = (I.Result (I.Direct 0 (I.next_argument (I.ByValue (I.AsByte (I.Load (I.of_type (I.Global 0 0) H.Integer)))) I.no_argument))); shape = H.Byte })) I.no_statement); answer = None } ∷ []); imports_in = false })
scope_13 = refl

-- MODULE M; TYPE R = RECORD x: INTEGER END; E = RECORD (R) x2: INTEGER END; VAR e: E; PROCEDURE P(VAR r: R); BEGIN IF r IS E THEN r(E).x2 := r.x; P(r(E)) END END P; BEGIN P(e) END M.
abbrev scope_14_0 : Parsed
scope_14_0 = record { source = record { bytes = (77 ∷ 79 ∷ 68 ∷ 85 ∷ 76 ∷ 69 ∷ 32 ∷ 77 ∷ 59 ∷ 32 ∷ 84 ∷ 89 ∷ 80 ∷ 69 ∷ 32 ∷ 82 ∷ 32 ∷ 61 ∷ 32 ∷ 82 ∷ 69 ∷ 67 ∷ 79 ∷ 82 ∷ 68 ∷ 32 ∷ 120 ∷ 58 ∷ 32 ∷ 73 ∷ 78 ∷ 84 ∷ 69 ∷ 71 ∷ 69 ∷ 82 ∷ 32 ∷ 69 ∷ 78 ∷ 68 ∷ 59 ∷ 32 ∷ 69 ∷ 32 ∷ 61 ∷ 32 ∷ 82 ∷ 69 ∷ 67 ∷ 79 ∷ 82 ∷ 68 ∷ 32 ∷ 40 ∷ 82 ∷ 41 ∷ 32 ∷ 120 ∷ 50 ∷ 58 ∷ 32 ∷ 73 ∷ 78 ∷ 84 ∷ 69 ∷ 71 ∷ 69 ∷ 82 ∷ 32 ∷ 69 ∷ 78 ∷ 68 ∷ 59 ∷ 32 ∷ 86 ∷ 65 ∷ 82 ∷ 32 ∷ 101 ∷ 58 ∷ 32 ∷ 69 ∷ 59 ∷ 32 ∷ 80 ∷ 82 ∷ 79 ∷ 67 ∷ 69 ∷ 68 ∷ 85 ∷ 82 ∷ 69 ∷ 32 ∷ 80 ∷ 40 ∷ 86 ∷ 65 ∷ 82 ∷ 32 ∷ 114 ∷ 58 ∷ 32 ∷ 82 ∷ 41 ∷ 59 ∷ 32 ∷ 66 ∷ 69 ∷ 71 ∷ 73 ∷ 78 ∷ 32 ∷ 73 ∷ 70 ∷ 32 ∷ 114 ∷ 32 ∷ 73 ∷ 83 ∷ 32 ∷ 69 ∷ 32 ∷ 84 ∷ 72 ∷ 69 ∷ 78 ∷ 32 ∷ 114 ∷ 40 ∷ 69 ∷ 41 ∷ 46 ∷ 120 ∷ 50 ∷ 32 ∷ 58 ∷ 61 ∷ 32 ∷ 114 ∷ 46 ∷ 120 ∷ 59 ∷ 32 ∷ 80 ∷ 40 ∷ 114 ∷ 40 ∷ 69 ∷ 41 ∷ 41 ∷ 32 ∷ 69 ∷ 78 ∷ 68 ∷ 32 ∷ 69 ∷ 78 ∷ 68 ∷ 32 ∷ 80 ∷ 59 ∷ 32 ∷ 66 ∷ 69 ∷ 71 ∷ 73 ∷ 78 ∷ 32 ∷ 80 ∷ 40 ∷ 101 ∷ 41 ∷ 32 ∷ 69 ∷ 78 ∷ 68 ∷ 32 ∷ 77 ∷ 46 ∷ []); symbols = (symbol (Ident) 0 6 ∷ symbol (Ident) 7 8 ∷ symbol (Ident) 8 9 ∷ symbol (Ident) 10 14 ∷ symbol (Ident) 15 16 ∷ symbol (Ident) 17 18 ∷ symbol (Ident) 19 25 ∷ symbol (Ident) 26 27 ∷ symbol (Ident) 27 28 ∷ symbol (Ident) 29 36 ∷ symbol (Ident) 37 40 ∷ symbol (Ident) 40 41 ∷ symbol (Ident) 42 43 ∷ symbol (Ident) 44 45 ∷ symbol (Ident) 46 52 ∷ symbol (Ident) 53 54 ∷ symbol (Ident) 54 55 ∷ symbol (Ident) 55 56 ∷ symbol (Ident) 57 59 ∷ symbol (Ident) 59 60 ∷ symbol (Ident) 61 68 ∷ symbol (Ident) 69 72 ∷ symbol (Ident) 72 73 ∷ symbol (Ident) 74 77 ∷ symbol (Ident) 78 79 ∷ symbol (Ident) 79 80 ∷ symbol (Ident) 81 82 ∷ symbol (Ident) 82 83 ∷ symbol (Ident) 84 93 ∷ symbol (Ident) 94 95 ∷ symbol (Ident) 95 96 ∷ symbol (Ident) 96 99 ∷ symbol (Ident) 100 101 ∷ symbol (Ident) 101 102 ∷ symbol (Ident) 103 104 ∷ symbol (Ident) 104 105 ∷ symbol (Ident) 105 106 ∷ symbol (Ident) 107 112 ∷ symbol (Ident) 113 115 ∷ symbol (Ident) 116 117 ∷ symbol (Ident) 118 120 ∷ symbol (Ident) 121 122 ∷ symbol (Ident) 123 127 ∷ symbol (Ident) 128 129 ∷ symbol (Ident) 129 130 ∷ symbol (Ident) 130 131 ∷ symbol (Ident) 131 132 ∷ symbol (Ident) 132 133 ∷ symbol (Ident) 133 135 ∷ symbol (Ident) 136 138 ∷ symbol (Ident) 139 140 ∷ symbol (Ident) 140 141 ∷ symbol (Ident) 141 142 ∷ symbol (Ident) 142 143 ∷ symbol (Ident) 144 145 ∷ symbol (Ident) 145 146 ∷ symbol (Ident) 146 147 ∷ symbol (Ident) 147 148 ∷ symbol (Ident) 148 149 ∷ symbol (Ident) 149 150 ∷ symbol (Ident) 150 151 ∷ symbol (Ident) 152 155 ∷ symbol (Ident) 156 159 ∷ symbol (Ident) 160 161 ∷ symbol (Ident) 161 162 ∷ symbol (Ident) 163 168 ∷ symbol (Ident) 169 170 ∷ symbol (Ident) 170 171 ∷ symbol (Ident) 171 172 ∷ symbol (Ident) 172 173 ∷ symbol (Ident) 174 177 ∷ symbol (Ident) 178 179 ∷ symbol (Ident) 179 180 ∷ []) }; tree = record { module_word = 0; name = 1; semicolon = 0; imports = None; decls = (S.decls None (Some (record { type_word = 0; each = (record { name = (record { name = 4; star = None }); equal = 0; is = (S.Record 6 None (S.fields (record { first = (record { name = 7; star = None }); more = [] }) 0 (S.Named (record { name = 9; member = None }))) S.no_more_fields 0); semicolon = 0 } ∷ record { name = (record { name = 12; star = None }); equal = 0; is = (S.Record 14 (Some (record { left_paren = 0; name = (record { name = 16; member = None }); right_paren = 0 })) (S.fields (record { first = (record { name = 18; star = None }); more = [] }) 0 (S.Named (record { name = 20; member = None }))) S.no_more_fields 0); semicolon = 0 } ∷ []) })) (Some (record { var_word = 0; each = (record { names = (record { first = (record { name = 24; star = None }); more = [] }); colon = 0; of = (S.Named (record { name = 26; member = None })); semicolon = 0 } ∷ []) })) (S.procedure 0 (record { name = 29; star = None }) (Some (record { left_paren = 0; sections = Some (record { first = (record { var_word = Some 0; first = 32; more = []; colon = 0; open_array = None; of = (record { name = 34; member = None }) }); more = [] }); right_paren = 0; result = None })) 0 (S.decls None None None S.no_procedure) (Some (record { begin_word = 0; stats = (S.stats (S.If 0 (S.compared (S.simple None (S.term (S.Designated 39 S.no_selector) S.no_factor) S.no_term) (TheRelation.Is 40) (S.simple None (S.term (S.Designated 41 S.no_selector) S.no_factor) S.no_term)) 0 (S.stats (S.AssignOrCall (record { name = 43; selectors = (S.selected (S.Parens 0 (S.expressions (S.only (S.simple None (S.term (S.Designated 45 S.no_selector) S.no_factor) S.no_term)) S.no_expression) 0) (S.selected (S.Field 0 48) S.no_selector)) }) (Some (record { becomes = 0; value = (S.only (S.simple None (S.term (S.Designated 50 (S.selected (S.Field 0 52) S.no_selector)) S.no_factor) S.no_term)) }))) (S.next_stat 0 (S.AssignOrCall (record { name = 54; selectors = (S.selected (S.Parens 0 (S.expressions (S.only (S.simple None (S.term (S.Designated 56 (S.selected (S.Parens 0 (S.expressions (S.only (S.simple None (S.term (S.Designated 58 S.no_selector) S.no_factor) S.no_term)) S.no_expression) 0) S.no_selector)) S.no_factor) S.no_term)) S.no_expression) 0) S.no_selector) }) None) S.no_stat)) S.no_elsif S.no_else 0) S.no_stat) })) None 62 63 0 S.no_procedure)); body = (Some (record { begin_word = 0; stats = (S.stats (S.AssignOrCall (record { name = 66; selectors = (S.selected (S.Parens 0 (S.expressions (S.only (S.simple None (S.term (S.Designated 68 S.no_selector) S.no_factor) S.no_term)) S.no_expression) 0) S.no_selector) }) None) S.no_stat) })); end_word = 0; end_name = 71; period = 0 } }

pub scope_14 : checked (scope_14_0 ∷ []) ≡ Legal (record { records = (record { module_number = 0; base = None; level = 0; fields = (record { name = (120 ∷ []); exported = false; shape = H.Integer } ∷ []); cells = 1; extent = record { bytes = 8; wide = true } } ∷ record { module_number = 0; base = (Some 0); level = 1; fields = (record { name = (120 ∷ 50 ∷ []); exported = false; shape = H.Integer } ∷ []); cells = 2; extent = record { bytes = 16; wide = true } } ∷ []); pointers = []; modules = (record { name = (77 ∷ []); objects = (record { name = (82 ∷ []); exported = false; entity = I.OfType (H.Record 0) } ∷ record { name = (69 ∷ []); exported = false; entity = I.OfType (H.Record 1) } ∷ record { name = (101 ∷ []); exported = false; entity = I.OfVariable 0 } ∷ record { name = (80 ∷ []); exported = false; entity = I.OfProcedure 0 } ∷ []); variables = ((H.Record 1) ∷ []); body = 1 } ∷ []); procedures = (record { module_number = 0; line = 1; is_body = false; formals = (record { mode = TheMode.Record; variable = true; shape = (H.Record 0) } ∷ []); result = H.Nothing; locals = []; texts = []; body = (I.next_statement (I.If (I.next_branch (record { form = (I.IsParameter (I.of_type (I.Parameter 0) (H.Record 0)) 1); shape = H.Boolean }) (I.next_statement (I.Assign (I.of_type (I.Field (I.Narrow (I.Parameter 0) 1) 1 0) H.Integer) (record { form = (I.Load (I.of_type (I.Field (I.Parameter 0) 0 0) H.Integer)); shape = H.Integer })) (I.next_statement (I.Invoke (I.Direct 0 (I.next_argument (I.ByRecord (I.of_type (I.Narrow (I.Parameter 0) 1) (H.Record 1))) I.no_argument))) I.no_statement)) I.no_branch) I.no_statement) I.no_statement); answer = None } ∷ record { module_number = 0; line = 1; is_body = true; formals = []; result = H.Nothing; locals = []; texts = []; body = (I.next_statement (I.Invoke (I.Direct 0 (I.next_argument (I.ByRecord (I.of_type (I.Global 0 0) (H.Record 1))) I.no_argument))) I.no_statement); answer = None } ∷ []); imports_in = false })
scope_14 = refl

-- MODULE M; CONST a = 1; PROCEDURE P; CONST b = a; a = 2; BEGIN END P; END M.
abbrev scope_15_0 : Parsed
scope_15_0 = record { source = record { bytes = (77 ∷ 79 ∷ 68 ∷ 85 ∷ 76 ∷ 69 ∷ 32 ∷ 77 ∷ 59 ∷ 32 ∷ 67 ∷ 79 ∷ 78 ∷ 83 ∷ 84 ∷ 32 ∷ 97 ∷ 32 ∷ 61 ∷ 32 ∷ 49 ∷ 59 ∷ 32 ∷ 80 ∷ 82 ∷ 79 ∷ 67 ∷ 69 ∷ 68 ∷ 85 ∷ 82 ∷ 69 ∷ 32 ∷ 80 ∷ 59 ∷ 32 ∷ 67 ∷ 79 ∷ 78 ∷ 83 ∷ 84 ∷ 32 ∷ 98 ∷ 32 ∷ 61 ∷ 32 ∷ 97 ∷ 59 ∷ 32 ∷ 97 ∷ 32 ∷ 61 ∷ 32 ∷ 50 ∷ 59 ∷ 32 ∷ 66 ∷ 69 ∷ 71 ∷ 73 ∷ 78 ∷ 32 ∷ 69 ∷ 78 ∷ 68 ∷ 32 ∷ 80 ∷ 59 ∷ 32 ∷ 69 ∷ 78 ∷ 68 ∷ 32 ∷ 77 ∷ 46 ∷ []); symbols = (symbol (Ident) 0 6 ∷ symbol (Ident) 7 8 ∷ symbol (Ident) 8 9 ∷ symbol (Ident) 10 15 ∷ symbol (Ident) 16 17 ∷ symbol (Ident) 18 19 ∷ symbol (Int (pos 1)) 20 21 ∷ symbol (Ident) 21 22 ∷ symbol (Ident) 23 32 ∷ symbol (Ident) 33 34 ∷ symbol (Ident) 34 35 ∷ symbol (Ident) 36 41 ∷ symbol (Ident) 42 43 ∷ symbol (Ident) 44 45 ∷ symbol (Ident) 46 47 ∷ symbol (Ident) 47 48 ∷ symbol (Ident) 49 50 ∷ symbol (Ident) 51 52 ∷ symbol (Int (pos 2)) 53 54 ∷ symbol (Ident) 54 55 ∷ symbol (Ident) 56 61 ∷ symbol (Ident) 62 65 ∷ symbol (Ident) 66 67 ∷ symbol (Ident) 67 68 ∷ symbol (Ident) 69 72 ∷ symbol (Ident) 73 74 ∷ symbol (Ident) 74 75 ∷ []) }; tree = record { module_word = 0; name = 1; semicolon = 0; imports = None; decls = (S.decls (Some (record { const_word = 0; each = (record { name = (record { name = 4; star = None }); equal = 0; value = (S.only (S.simple None (S.term (S.Int 6) S.no_factor) S.no_term)); semicolon = 0 } ∷ []) })) None None (S.procedure 0 (record { name = 9; star = None }) None 0 (S.decls (Some (record { const_word = 0; each = (record { name = (record { name = 12; star = None }); equal = 0; value = (S.only (S.simple None (S.term (S.Designated 14 S.no_selector) S.no_factor) S.no_term)); semicolon = 0 } ∷ record { name = (record { name = 16; star = None }); equal = 0; value = (S.only (S.simple None (S.term (S.Int 18) S.no_factor) S.no_term)); semicolon = 0 } ∷ []) })) None None S.no_procedure) None None 21 22 0 S.no_procedure)); body = None; end_word = 0; end_name = 25; period = 0 } }

pub scope_15 : checked (scope_15_0 ∷ []) ≡ Legal (record { records = []; pointers = []; modules = (record { name = (77 ∷ []); objects = (record { name = (97 ∷ []); exported = false; entity = I.OfConstant (I.Bits H.Integer 1) } ∷ record { name = (80 ∷ []); exported = false; entity = I.OfProcedure 0 } ∷ []); variables = []; body = 1 } ∷ []); procedures = (record { module_number = 0; line = 1; is_body = false; formals = []; result = H.Nothing; locals = []; texts = []; body = I.no_statement; answer = None } ∷ record { module_number = 0; line = 1; is_body = true; formals = []; result = H.Nothing; locals = []; texts = []; body = I.no_statement; answer = None } ∷ []); imports_in = false })
scope_15 = refl

-- MODULE M; PROCEDURE P; PROCEDURE Q(x: INTEGER); END Q; BEGIN Q(1) END P; BEGIN P END M.
abbrev scope_16_0 : Parsed
scope_16_0 = record { source = record { bytes = (77 ∷ 79 ∷ 68 ∷ 85 ∷ 76 ∷ 69 ∷ 32 ∷ 77 ∷ 59 ∷ 32 ∷ 80 ∷ 82 ∷ 79 ∷ 67 ∷ 69 ∷ 68 ∷ 85 ∷ 82 ∷ 69 ∷ 32 ∷ 80 ∷ 59 ∷ 32 ∷ 80 ∷ 82 ∷ 79 ∷ 67 ∷ 69 ∷ 68 ∷ 85 ∷ 82 ∷ 69 ∷ 32 ∷ 81 ∷ 40 ∷ 120 ∷ 58 ∷ 32 ∷ 73 ∷ 78 ∷ 84 ∷ 69 ∷ 71 ∷ 69 ∷ 82 ∷ 41 ∷ 59 ∷ 32 ∷ 69 ∷ 78 ∷ 68 ∷ 32 ∷ 81 ∷ 59 ∷ 32 ∷ 66 ∷ 69 ∷ 71 ∷ 73 ∷ 78 ∷ 32 ∷ 81 ∷ 40 ∷ 49 ∷ 41 ∷ 32 ∷ 69 ∷ 78 ∷ 68 ∷ 32 ∷ 80 ∷ 59 ∷ 32 ∷ 66 ∷ 69 ∷ 71 ∷ 73 ∷ 78 ∷ 32 ∷ 80 ∷ 32 ∷ 69 ∷ 78 ∷ 68 ∷ 32 ∷ 77 ∷ 46 ∷ []); symbols = (symbol (Ident) 0 6 ∷ symbol (Ident) 7 8 ∷ symbol (Ident) 8 9 ∷ symbol (Ident) 10 19 ∷ symbol (Ident) 20 21 ∷ symbol (Ident) 21 22 ∷ symbol (Ident) 23 32 ∷ symbol (Ident) 33 34 ∷ symbol (Ident) 34 35 ∷ symbol (Ident) 35 36 ∷ symbol (Ident) 36 37 ∷ symbol (Ident) 38 45 ∷ symbol (Ident) 45 46 ∷ symbol (Ident) 46 47 ∷ symbol (Ident) 48 51 ∷ symbol (Ident) 52 53 ∷ symbol (Ident) 53 54 ∷ symbol (Ident) 55 60 ∷ symbol (Ident) 61 62 ∷ symbol (Ident) 62 63 ∷ symbol (Int (pos 1)) 63 64 ∷ symbol (Ident) 64 65 ∷ symbol (Ident) 66 69 ∷ symbol (Ident) 70 71 ∷ symbol (Ident) 71 72 ∷ symbol (Ident) 73 78 ∷ symbol (Ident) 79 80 ∷ symbol (Ident) 81 84 ∷ symbol (Ident) 85 86 ∷ symbol (Ident) 86 87 ∷ []) }; tree = record { module_word = 0; name = 1; semicolon = 0; imports = None; decls = (S.decls None None None (S.procedure 0 (record { name = 4; star = None }) None 0 (S.decls None None None (S.procedure 0 (record { name = 7; star = None }) (Some (record { left_paren = 0; sections = Some (record { first = (record { var_word = None; first = 9; more = []; colon = 0; open_array = None; of = (record { name = 11; member = None }) }); more = [] }); right_paren = 0; result = None })) 0 (S.decls None None None S.no_procedure) None None 14 15 0 S.no_procedure)) (Some (record { begin_word = 0; stats = (S.stats (S.AssignOrCall (record { name = 18; selectors = (S.selected (S.Parens 0 (S.expressions (S.only (S.simple None (S.term (S.Int 20) S.no_factor) S.no_term)) S.no_expression) 0) S.no_selector) }) None) S.no_stat) })) None 22 23 0 S.no_procedure)); body = (Some (record { begin_word = 0; stats = (S.stats (S.AssignOrCall (record { name = 26; selectors = S.no_selector }) None) S.no_stat) })); end_word = 0; end_name = 28; period = 0 } }

pub scope_16 : checked (scope_16_0 ∷ []) ≡ Legal (record { records = []; pointers = []; modules = (record { name = (77 ∷ []); objects = (record { name = (80 ∷ []); exported = false; entity = I.OfProcedure 0 } ∷ []); variables = []; body = 2 } ∷ []); procedures = (record { module_number = 0; line = 1; is_body = false; formals = []; result = H.Nothing; locals = []; texts = []; body = (I.next_statement (I.Invoke (I.Direct 1 (I.next_argument (I.ByValue (I.Literal 1)) I.no_argument))) I.no_statement); answer = None } ∷ record { module_number = 0; line = 1; is_body = false; formals = (record { mode = TheMode.Value; variable = false; shape = H.Integer } ∷ []); result = H.Nothing; locals = []; texts = []; body = I.no_statement; answer = None } ∷ record { module_number = 0; line = 1; is_body = true; formals = []; result = H.Nothing; locals = []; texts = []; body = (I.next_statement (I.Invoke (I.Direct 0 I.no_argument)) I.no_statement); answer = None } ∷ []); imports_in = false })
scope_16 = refl

-- MODULE M; TYPE F = PROCEDURE (x: INTEGER): F; END M.
abbrev scope_17_0 : Parsed
scope_17_0 = record { source = record { bytes = (77 ∷ 79 ∷ 68 ∷ 85 ∷ 76 ∷ 69 ∷ 32 ∷ 77 ∷ 59 ∷ 32 ∷ 84 ∷ 89 ∷ 80 ∷ 69 ∷ 32 ∷ 70 ∷ 32 ∷ 61 ∷ 32 ∷ 80 ∷ 82 ∷ 79 ∷ 67 ∷ 69 ∷ 68 ∷ 85 ∷ 82 ∷ 69 ∷ 32 ∷ 40 ∷ 120 ∷ 58 ∷ 32 ∷ 73 ∷ 78 ∷ 84 ∷ 69 ∷ 71 ∷ 69 ∷ 82 ∷ 41 ∷ 58 ∷ 32 ∷ 70 ∷ 59 ∷ 32 ∷ 69 ∷ 78 ∷ 68 ∷ 32 ∷ 77 ∷ 46 ∷ []); symbols = (symbol (Ident) 0 6 ∷ symbol (Ident) 7 8 ∷ symbol (Ident) 8 9 ∷ symbol (Ident) 10 14 ∷ symbol (Ident) 15 16 ∷ symbol (Ident) 17 18 ∷ symbol (Ident) 19 28 ∷ symbol (Ident) 29 30 ∷ symbol (Ident) 30 31 ∷ symbol (Ident) 31 32 ∷ symbol (Ident) 33 40 ∷ symbol (Ident) 40 41 ∷ symbol (Ident) 41 42 ∷ symbol (Ident) 43 44 ∷ symbol (Ident) 44 45 ∷ symbol (Ident) 46 49 ∷ symbol (Ident) 50 51 ∷ symbol (Ident) 51 52 ∷ []) }; tree = record { module_word = 0; name = 1; semicolon = 0; imports = None; decls = (S.decls None (Some (record { type_word = 0; each = (record { name = (record { name = 4; star = None }); equal = 0; is = (S.Procedure 6 (Some (record { left_paren = 0; sections = Some (record { first = (record { var_word = None; first = 8; more = []; colon = 0; open_array = None; of = (record { name = 10; member = None }) }); more = [] }); right_paren = 0; result = Some (record { colon = 0; name = (record { name = 13; member = None }) }) }))); semicolon = 0 } ∷ []) })) None S.no_procedure); body = None; end_word = 0; end_name = 16; period = 0 } }

pub scope_17 : checked (scope_17_0 ∷ []) ≡ Fault 0 30 43
scope_17 = refl

-- MODULE M; TYPE T = POINTER TO RECORD f: PROCEDURE (t: INTEGER) END; VAR t: T; PROCEDURE P(i: INTEGER); END P; BEGIN t.f := P; t.f(3) END M.
abbrev scope_18_0 : Parsed
scope_18_0 = record { source = record { bytes = (77 ∷ 79 ∷ 68 ∷ 85 ∷ 76 ∷ 69 ∷ 32 ∷ 77 ∷ 59 ∷ 32 ∷ 84 ∷ 89 ∷ 80 ∷ 69 ∷ 32 ∷ 84 ∷ 32 ∷ 61 ∷ 32 ∷ 80 ∷ 79 ∷ 73 ∷ 78 ∷ 84 ∷ 69 ∷ 82 ∷ 32 ∷ 84 ∷ 79 ∷ 32 ∷ 82 ∷ 69 ∷ 67 ∷ 79 ∷ 82 ∷ 68 ∷ 32 ∷ 102 ∷ 58 ∷ 32 ∷ 80 ∷ 82 ∷ 79 ∷ 67 ∷ 69 ∷ 68 ∷ 85 ∷ 82 ∷ 69 ∷ 32 ∷ 40 ∷ 116 ∷ 58 ∷ 32 ∷ 73 ∷ 78 ∷ 84 ∷ 69 ∷ 71 ∷ 69 ∷ 82 ∷ 41 ∷ 32 ∷ 69 ∷ 78 ∷ 68 ∷ 59 ∷ 32 ∷ 86 ∷ 65 ∷ 82 ∷ 32 ∷ 116 ∷ 58 ∷ 32 ∷ 84 ∷ 59 ∷ 32 ∷ 80 ∷ 82 ∷ 79 ∷ 67 ∷ 69 ∷ 68 ∷ 85 ∷ 82 ∷ 69 ∷ 32 ∷ 80 ∷ 40 ∷ 105 ∷ 58 ∷ 32 ∷ 73 ∷ 78 ∷ 84 ∷ 69 ∷ 71 ∷ 69 ∷ 82 ∷ 41 ∷ 59 ∷ 32 ∷ 69 ∷ 78 ∷ 68 ∷ 32 ∷ 80 ∷ 59 ∷ 32 ∷ 66 ∷ 69 ∷ 71 ∷ 73 ∷ 78 ∷ 32 ∷ 116 ∷ 46 ∷ 102 ∷ 32 ∷ 58 ∷ 61 ∷ 32 ∷ 80 ∷ 59 ∷ 32 ∷ 116 ∷ 46 ∷ 102 ∷ 40 ∷ 51 ∷ 41 ∷ 32 ∷ 69 ∷ 78 ∷ 68 ∷ 32 ∷ 77 ∷ 46 ∷ []); symbols = (symbol (Ident) 0 6 ∷ symbol (Ident) 7 8 ∷ symbol (Ident) 8 9 ∷ symbol (Ident) 10 14 ∷ symbol (Ident) 15 16 ∷ symbol (Ident) 17 18 ∷ symbol (Ident) 19 26 ∷ symbol (Ident) 27 29 ∷ symbol (Ident) 30 36 ∷ symbol (Ident) 37 38 ∷ symbol (Ident) 38 39 ∷ symbol (Ident) 40 49 ∷ symbol (Ident) 50 51 ∷ symbol (Ident) 51 52 ∷ symbol (Ident) 52 53 ∷ symbol (Ident) 54 61 ∷ symbol (Ident) 61 62 ∷ symbol (Ident) 63 66 ∷ symbol (Ident) 66 67 ∷ symbol (Ident) 68 71 ∷ symbol (Ident) 72 73 ∷ symbol (Ident) 73 74 ∷ symbol (Ident) 75 76 ∷ symbol (Ident) 76 77 ∷ symbol (Ident) 78 87 ∷ symbol (Ident) 88 89 ∷ symbol (Ident) 89 90 ∷ symbol (Ident) 90 91 ∷ symbol (Ident) 91 92 ∷ symbol (Ident) 93 100 ∷ symbol (Ident) 100 101 ∷ symbol (Ident) 101 102 ∷ symbol (Ident) 103 106 ∷ symbol (Ident) 107 108 ∷ symbol (Ident) 108 109 ∷ symbol (Ident) 110 115 ∷ symbol (Ident) 116 117 ∷ symbol (Ident) 117 118 ∷ symbol (Ident) 118 119 ∷ symbol (Ident) 120 122 ∷ symbol (Ident) 123 124 ∷ symbol (Ident) 124 125 ∷ symbol (Ident) 126 127 ∷ symbol (Ident) 127 128 ∷ symbol (Ident) 128 129 ∷ symbol (Ident) 129 130 ∷ symbol (Int (pos 3)) 130 131 ∷ symbol (Ident) 131 132 ∷ symbol (Ident) 133 136 ∷ symbol (Ident) 137 138 ∷ symbol (Ident) 138 139 ∷ []) }; tree = record { module_word = 0; name = 1; semicolon = 0; imports = None; decls = (S.decls None (Some (record { type_word = 0; each = (record { name = (record { name = 4; star = None }); equal = 0; is = (S.Pointer 6 0 (S.Record 8 None (S.fields (record { first = (record { name = 9; star = None }); more = [] }) 0 (S.Procedure 11 (Some (record { left_paren = 0; sections = Some (record { first = (record { var_word = None; first = 13; more = []; colon = 0; open_array = None; of = (record { name = 15; member = None }) }); more = [] }); right_paren = 0; result = None })))) S.no_more_fields 0)); semicolon = 0 } ∷ []) })) (Some (record { var_word = 0; each = (record { names = (record { first = (record { name = 20; star = None }); more = [] }); colon = 0; of = (S.Named (record { name = 22; member = None })); semicolon = 0 } ∷ []) })) (S.procedure 0 (record { name = 25; star = None }) (Some (record { left_paren = 0; sections = Some (record { first = (record { var_word = None; first = 27; more = []; colon = 0; open_array = None; of = (record { name = 29; member = None }) }); more = [] }); right_paren = 0; result = None })) 0 (S.decls None None None S.no_procedure) None None 32 33 0 S.no_procedure)); body = (Some (record { begin_word = 0; stats = (S.stats (S.AssignOrCall (record { name = 36; selectors = (S.selected (S.Field 0 38) S.no_selector) }) (Some (record { becomes = 0; value = (S.only (S.simple None (S.term (S.Designated 40 S.no_selector) S.no_factor) S.no_term)) }))) (S.next_stat 0 (S.AssignOrCall (record { name = 42; selectors = (S.selected (S.Field 0 44) (S.selected (S.Parens 0 (S.expressions (S.only (S.simple None (S.term (S.Int 46) S.no_factor) S.no_term)) S.no_expression) 0) S.no_selector)) }) None) S.no_stat)) })); end_word = 0; end_name = 49; period = 0 } }

pub scope_18 : checked (scope_18_0 ∷ []) ≡ Legal (record { records = (record { module_number = 0; base = None; level = 0; fields = (record { name = (102 ∷ []); exported = false; shape = (H.Procedure (H.one false H.Integer H.none) H.Nothing) } ∷ []); cells = 1; extent = record { bytes = 8; wide = true } } ∷ []); pointers = (Some 0 ∷ []); modules = (record { name = (77 ∷ []); objects = (record { name = (84 ∷ []); exported = false; entity = I.OfType (H.Pointer 0) } ∷ record { name = (116 ∷ []); exported = false; entity = I.OfVariable 0 } ∷ record { name = (80 ∷ []); exported = false; entity = I.OfProcedure 0 } ∷ []); variables = ((H.Pointer 0) ∷ []); body = 1 } ∷ []); procedures = (record { module_number = 0; line = 1; is_body = false; formals = (record { mode = TheMode.Value; variable = false; shape = H.Integer } ∷ []); result = H.Nothing; locals = []; texts = []; body = I.no_statement; answer = None } ∷ record { module_number = 0; line = 1; is_body = true; formals = []; result = H.Nothing; locals = []; texts = []; body = (I.next_statement (I.Assign (I.of_type (I.Field (I.Dereference (I.Load (I.of_type (I.Global 0 0) (H.Pointer 0)))) 0 0) (H.Procedure (H.one false H.Integer H.none) H.Nothing)) (record { form = (I.Routine 0); shape = (H.Procedure (H.one false H.Integer H.none) H.Nothing) })) (I.next_statement (I.Invoke (I.Indirect (I.of_type (I.Field (I.Dereference (I.Load (I.of_type (I.Global 0 0) (H.Pointer 0)))) 0 0) (H.Procedure (H.one false H.Integer H.none) H.Nothing)) (I.next_argument (I.ByValue (I.Literal 3)) I.no_argument))) I.no_statement)); answer = None } ∷ []); imports_in = false })
scope_18 = refl

-- MODULE M; TYPE R = RECORD (R) END; END M.
abbrev scope_19_0 : Parsed
scope_19_0 = record { source = record { bytes = (77 ∷ 79 ∷ 68 ∷ 85 ∷ 76 ∷ 69 ∷ 32 ∷ 77 ∷ 59 ∷ 32 ∷ 84 ∷ 89 ∷ 80 ∷ 69 ∷ 32 ∷ 82 ∷ 32 ∷ 61 ∷ 32 ∷ 82 ∷ 69 ∷ 67 ∷ 79 ∷ 82 ∷ 68 ∷ 32 ∷ 40 ∷ 82 ∷ 41 ∷ 32 ∷ 69 ∷ 78 ∷ 68 ∷ 59 ∷ 32 ∷ 69 ∷ 78 ∷ 68 ∷ 32 ∷ 77 ∷ 46 ∷ []); symbols = (symbol (Ident) 0 6 ∷ symbol (Ident) 7 8 ∷ symbol (Ident) 8 9 ∷ symbol (Ident) 10 14 ∷ symbol (Ident) 15 16 ∷ symbol (Ident) 17 18 ∷ symbol (Ident) 19 25 ∷ symbol (Ident) 26 27 ∷ symbol (Ident) 27 28 ∷ symbol (Ident) 28 29 ∷ symbol (Ident) 30 33 ∷ symbol (Ident) 33 34 ∷ symbol (Ident) 35 38 ∷ symbol (Ident) 39 40 ∷ symbol (Ident) 40 41 ∷ []) }; tree = record { module_word = 0; name = 1; semicolon = 0; imports = None; decls = (S.decls None (Some (record { type_word = 0; each = (record { name = (record { name = 4; star = None }); equal = 0; is = (S.Record 6 (Some (record { left_paren = 0; name = (record { name = 8; member = None }); right_paren = 0 })) S.no_fields S.no_more_fields 0); semicolon = 0 } ∷ []) })) None S.no_procedure); body = None; end_word = 0; end_name = 13; period = 0 } }

pub scope_19 : checked (scope_19_0 ∷ []) ≡ Fault 0 30 27
scope_19 = refl

-- MODULE M; VAR x: ARRAY 3 OF x; END M.
abbrev scope_20_0 : Parsed
scope_20_0 = record { source = record { bytes = (77 ∷ 79 ∷ 68 ∷ 85 ∷ 76 ∷ 69 ∷ 32 ∷ 77 ∷ 59 ∷ 32 ∷ 86 ∷ 65 ∷ 82 ∷ 32 ∷ 120 ∷ 58 ∷ 32 ∷ 65 ∷ 82 ∷ 82 ∷ 65 ∷ 89 ∷ 32 ∷ 51 ∷ 32 ∷ 79 ∷ 70 ∷ 32 ∷ 120 ∷ 59 ∷ 32 ∷ 69 ∷ 78 ∷ 68 ∷ 32 ∷ 77 ∷ 46 ∷ []); symbols = (symbol (Ident) 0 6 ∷ symbol (Ident) 7 8 ∷ symbol (Ident) 8 9 ∷ symbol (Ident) 10 13 ∷ symbol (Ident) 14 15 ∷ symbol (Ident) 15 16 ∷ symbol (Ident) 17 22 ∷ symbol (Int (pos 3)) 23 24 ∷ symbol (Ident) 25 27 ∷ symbol (Ident) 28 29 ∷ symbol (Ident) 29 30 ∷ symbol (Ident) 31 34 ∷ symbol (Ident) 35 36 ∷ symbol (Ident) 36 37 ∷ []) }; tree = record { module_word = 0; name = 1; semicolon = 0; imports = None; decls = (S.decls None None (Some (record { var_word = 0; each = (record { names = (record { first = (record { name = 4; star = None }); more = [] }); colon = 0; of = (S.Array 6 (S.only (S.simple None (S.term (S.Int 7) S.no_factor) S.no_term)) S.no_expression 0 (S.Named (record { name = 9; member = None }))); semicolon = 0 } ∷ []) })) S.no_procedure); body = None; end_word = 0; end_name = 12; period = 0 } }

pub scope_20 : checked (scope_20_0 ∷ []) ≡ Fault 0 30 28
scope_20 = refl

-- MODULE A; CONST c* = 3; d = 4; TYPE R* = RECORD x*: INTEGER; h: INTEGER END; P* = POINTER TO R; H = RECORD END; VAR v*: INTEGER; r*: R; p*: P; a*: ARRAY 2 OF INTEGER; w: INTEGER; f*: PROCEDURE; PROCEDURE N*; END N; PROCEDURE L; END L; END A.
abbrev modules_1_0 : Parsed
modules_1_0 = record { source = record { bytes = (77 ∷ 79 ∷ 68 ∷ 85 ∷ 76 ∷ 69 ∷ 32 ∷ 65 ∷ 59 ∷ 32 ∷ 67 ∷ 79 ∷ 78 ∷ 83 ∷ 84 ∷ 32 ∷ 99 ∷ 42 ∷ 32 ∷ 61 ∷ 32 ∷ 51 ∷ 59 ∷ 32 ∷ 100 ∷ 32 ∷ 61 ∷ 32 ∷ 52 ∷ 59 ∷ 32 ∷ 84 ∷ 89 ∷ 80 ∷ 69 ∷ 32 ∷ 82 ∷ 42 ∷ 32 ∷ 61 ∷ 32 ∷ 82 ∷ 69 ∷ 67 ∷ 79 ∷ 82 ∷ 68 ∷ 32 ∷ 120 ∷ 42 ∷ 58 ∷ 32 ∷ 73 ∷ 78 ∷ 84 ∷ 69 ∷ 71 ∷ 69 ∷ 82 ∷ 59 ∷ 32 ∷ 104 ∷ 58 ∷ 32 ∷ 73 ∷ 78 ∷ 84 ∷ 69 ∷ 71 ∷ 69 ∷ 82 ∷ 32 ∷ 69 ∷ 78 ∷ 68 ∷ 59 ∷ 32 ∷ 80 ∷ 42 ∷ 32 ∷ 61 ∷ 32 ∷ 80 ∷ 79 ∷ 73 ∷ 78 ∷ 84 ∷ 69 ∷ 82 ∷ 32 ∷ 84 ∷ 79 ∷ 32 ∷ 82 ∷ 59 ∷ 32 ∷ 72 ∷ 32 ∷ 61 ∷ 32 ∷ 82 ∷ 69 ∷ 67 ∷ 79 ∷ 82 ∷ 68 ∷ 32 ∷ 69 ∷ 78 ∷ 68 ∷ 59 ∷ 32 ∷ 86 ∷ 65 ∷ 82 ∷ 32 ∷ 118 ∷ 42 ∷ 58 ∷ 32 ∷ 73 ∷ 78 ∷ 84 ∷ 69 ∷ 71 ∷ 69 ∷ 82 ∷ 59 ∷ 32 ∷ 114 ∷ 42 ∷ 58 ∷ 32 ∷ 82 ∷ 59 ∷ 32 ∷ 112 ∷ 42 ∷ 58 ∷ 32 ∷ 80 ∷ 59 ∷ 32 ∷ 97 ∷ 42 ∷ 58 ∷ 32 ∷ 65 ∷ 82 ∷ 82 ∷ 65 ∷ 89 ∷ 32 ∷ 50 ∷ 32 ∷ 79 ∷ 70 ∷ 32 ∷ 73 ∷ 78 ∷ 84 ∷ 69 ∷ 71 ∷ 69 ∷ 82 ∷ 59 ∷ 32 ∷ 119 ∷ 58 ∷ 32 ∷ 73 ∷ 78 ∷ 84 ∷ 69 ∷ 71 ∷ 69 ∷ 82 ∷ 59 ∷ 32 ∷ 102 ∷ 42 ∷ 58 ∷ 32 ∷ 80 ∷ 82 ∷ 79 ∷ 67 ∷ 69 ∷ 68 ∷ 85 ∷ 82 ∷ 69 ∷ 59 ∷ 32 ∷ 80 ∷ 82 ∷ 79 ∷ 67 ∷ 69 ∷ 68 ∷ 85 ∷ 82 ∷ 69 ∷ 32 ∷ 78 ∷ 42 ∷ 59 ∷ 32 ∷ 69 ∷ 78 ∷ 68 ∷ 32 ∷ 78 ∷ 59 ∷ 32 ∷ 80 ∷ 82 ∷ 79 ∷ 67 ∷ 69 ∷ 68 ∷ 85 ∷ 82 ∷ 69 ∷ 32 ∷ 76 ∷ 59 ∷ 32 ∷ 69 ∷ 78 ∷ 68 ∷ 32 ∷ 76 ∷ 59 ∷ 32 ∷ 69 ∷ 78 ∷ 68 ∷ 32 ∷ 65 ∷ 46 ∷ 10 ∷ []); symbols = (symbol (Ident) 0 6 ∷ symbol (Ident) 7 8 ∷ symbol (Ident) 8 9 ∷ symbol (Ident) 10 15 ∷ symbol (Ident) 16 17 ∷ symbol (Ident) 17 18 ∷ symbol (Ident) 19 20 ∷ symbol (Int (pos 3)) 21 22 ∷ symbol (Ident) 22 23 ∷ symbol (Ident) 24 25 ∷ symbol (Ident) 26 27 ∷ symbol (Int (pos 4)) 28 29 ∷ symbol (Ident) 29 30 ∷ symbol (Ident) 31 35 ∷ symbol (Ident) 36 37 ∷ symbol (Ident) 37 38 ∷ symbol (Ident) 39 40 ∷ symbol (Ident) 41 47 ∷ symbol (Ident) 48 49 ∷ symbol (Ident) 49 50 ∷ symbol (Ident) 50 51 ∷ symbol (Ident) 52 59 ∷ symbol (Ident) 59 60 ∷ symbol (Ident) 61 62 ∷ symbol (Ident) 62 63 ∷ symbol (Ident) 64 71 ∷ symbol (Ident) 72 75 ∷ symbol (Ident) 75 76 ∷ symbol (Ident) 77 78 ∷ symbol (Ident) 78 79 ∷ symbol (Ident) 80 81 ∷ symbol (Ident) 82 89 ∷ symbol (Ident) 90 92 ∷ symbol (Ident) 93 94 ∷ symbol (Ident) 94 95 ∷ symbol (Ident) 96 97 ∷ symbol (Ident) 98 99 ∷ symbol (Ident) 100 106 ∷ symbol (Ident) 107 110 ∷ symbol (Ident) 110 111 ∷ symbol (Ident) 112 115 ∷ symbol (Ident) 116 117 ∷ symbol (Ident) 117 118 ∷ symbol (Ident) 118 119 ∷ symbol (Ident) 120 127 ∷ symbol (Ident) 127 128 ∷ symbol (Ident) 129 130 ∷ symbol (Ident) 130 131 ∷ symbol (Ident) 131 132 ∷ symbol (Ident) 133 134 ∷ symbol (Ident) 134 135 ∷ symbol (Ident) 136 137 ∷ symbol (Ident) 137 138 ∷ symbol (Ident) 138 139 ∷ symbol (Ident) 140 141 ∷ symbol (Ident) 141 142 ∷ symbol (Ident) 143 144 ∷ symbol (Ident) 144 145 ∷ symbol (Ident) 145 146 ∷ symbol (Ident) 147 152 ∷ symbol (Int (pos 2)) 153 154 ∷ symbol (Ident) 155 157 ∷ symbol (Ident) 158 165 ∷ symbol (Ident) 165 166 ∷ symbol (Ident) 167 168 ∷ symbol (Ident) 168 169 ∷ symbol (Ident) 170 177 ∷ symbol (Ident) 177 178 ∷ symbol (Ident) 179 180 ∷ symbol (Ident) 180 181 ∷ symbol (Ident) 181 182 ∷ symbol (Ident) 183 192 ∷ symbol (Ident) 192 193 ∷ symbol (Ident) 194 203 ∷ symbol (Ident) 204 205 ∷ symbol (Ident) 205 206 ∷ symbol (Ident) 206 207 ∷ symbol (Ident) 208 211 ∷ symbol (Ident) 212 213 ∷ symbol (Ident) 213 214 ∷ symbol (Ident) 215 224 ∷ symbol (Ident) 225 226 ∷ symbol (Ident) 226 227 ∷ symbol (Ident) 228 231 ∷ symbol (Ident) 232 233 ∷ symbol (Ident) 233 234 ∷ symbol (Ident) 235 238 ∷ symbol (Ident) 239 240 ∷ symbol (Ident) 240 241 ∷ []) }; tree = record { module_word = 0; name = 1; semicolon = 0; imports = None; decls = (S.decls (Some (record { const_word = 0; each = (record { name = (record { name = 4; star = Some 0 }); equal = 0; value = (S.only (S.simple None (S.term (S.Int 7) S.no_factor) S.no_term)); semicolon = 0 } ∷ record { name = (record { name = 9; star = None }); equal = 0; value = (S.only (S.simple None (S.term (S.Int 11) S.no_factor) S.no_term)); semicolon = 0 } ∷ []) })) (Some (record { type_word = 0; each = (record { name = (record { name = 14; star = Some 0 }); equal = 0; is = (S.Record 17 None (S.fields (record { first = (record { name = 18; star = Some 0 }); more = [] }) 0 (S.Named (record { name = 21; member = None }))) (S.next_fields 0 (S.fields (record { first = (record { name = 23; star = None }); more = [] }) 0 (S.Named (record { name = 25; member = None }))) S.no_more_fields) 0); semicolon = 0 } ∷ record { name = (record { name = 28; star = Some 0 }); equal = 0; is = (S.Pointer 31 0 (S.Named (record { name = 33; member = None }))); semicolon = 0 } ∷ record { name = (record { name = 35; star = None }); equal = 0; is = (S.Record 37 None S.no_fields S.no_more_fields 0); semicolon = 0 } ∷ []) })) (Some (record { var_word = 0; each = (record { names = (record { first = (record { name = 41; star = Some 0 }); more = [] }); colon = 0; of = (S.Named (record { name = 44; member = None })); semicolon = 0 } ∷ record { names = (record { first = (record { name = 46; star = Some 0 }); more = [] }); colon = 0; of = (S.Named (record { name = 49; member = None })); semicolon = 0 } ∷ record { names = (record { first = (record { name = 51; star = Some 0 }); more = [] }); colon = 0; of = (S.Named (record { name = 54; member = None })); semicolon = 0 } ∷ record { names = (record { first = (record { name = 56; star = Some 0 }); more = [] }); colon = 0; of = (S.Array 59 (S.only (S.simple None (S.term (S.Int 60) S.no_factor) S.no_term)) S.no_expression 0 (S.Named (record { name = 62; member = None }))); semicolon = 0 } ∷ record { names = (record { first = (record { name = 64; star = None }); more = [] }); colon = 0; of = (S.Named (record { name = 66; member = None })); semicolon = 0 } ∷ record { names = (record { first = (record { name = 68; star = Some 0 }); more = [] }); colon = 0; of = (S.Procedure 71 None); semicolon = 0 } ∷ []) })) (S.procedure 0 (record { name = 74; star = Some 0 }) None 0 (S.decls None None None S.no_procedure) None None 77 78 0 (S.procedure 0 (record { name = 81; star = None }) None 0 (S.decls None None None S.no_procedure) None None 83 84 0 S.no_procedure))); body = None; end_word = 0; end_name = 87; period = 0 } }

-- MODULE M; IMPORT A, Out; VAR i: INTEGER; r: A.R; p: A.P; BEGIN i := A.v + A.c + A.a[1]; r := A.r; p := A.p; NEW(p); p.x := A.r.x; A.p.x := 3; A.N; A.f; Out.Int(A.v, 0) END M.
abbrev modules_1_1 : Parsed
modules_1_1 = record { source = record { bytes = (77 ∷ 79 ∷ 68 ∷ 85 ∷ 76 ∷ 69 ∷ 32 ∷ 77 ∷ 59 ∷ 32 ∷ 73 ∷ 77 ∷ 80 ∷ 79 ∷ 82 ∷ 84 ∷ 32 ∷ 65 ∷ 44 ∷ 32 ∷ 79 ∷ 117 ∷ 116 ∷ 59 ∷ 32 ∷ 86 ∷ 65 ∷ 82 ∷ 32 ∷ 105 ∷ 58 ∷ 32 ∷ 73 ∷ 78 ∷ 84 ∷ 69 ∷ 71 ∷ 69 ∷ 82 ∷ 59 ∷ 32 ∷ 114 ∷ 58 ∷ 32 ∷ 65 ∷ 46 ∷ 82 ∷ 59 ∷ 32 ∷ 112 ∷ 58 ∷ 32 ∷ 65 ∷ 46 ∷ 80 ∷ 59 ∷ 32 ∷ 66 ∷ 69 ∷ 71 ∷ 73 ∷ 78 ∷ 32 ∷ 105 ∷ 32 ∷ 58 ∷ 61 ∷ 32 ∷ 65 ∷ 46 ∷ 118 ∷ 32 ∷ 43 ∷ 32 ∷ 65 ∷ 46 ∷ 99 ∷ 32 ∷ 43 ∷ 32 ∷ 65 ∷ 46 ∷ 97 ∷ 91 ∷ 49 ∷ 93 ∷ 59 ∷ 32 ∷ 114 ∷ 32 ∷ 58 ∷ 61 ∷ 32 ∷ 65 ∷ 46 ∷ 114 ∷ 59 ∷ 32 ∷ 112 ∷ 32 ∷ 58 ∷ 61 ∷ 32 ∷ 65 ∷ 46 ∷ 112 ∷ 59 ∷ 32 ∷ 78 ∷ 69 ∷ 87 ∷ 40 ∷ 112 ∷ 41 ∷ 59 ∷ 32 ∷ 112 ∷ 46 ∷ 120 ∷ 32 ∷ 58 ∷ 61 ∷ 32 ∷ 65 ∷ 46 ∷ 114 ∷ 46 ∷ 120 ∷ 59 ∷ 32 ∷ 65 ∷ 46 ∷ 112 ∷ 46 ∷ 120 ∷ 32 ∷ 58 ∷ 61 ∷ 32 ∷ 51 ∷ 59 ∷ 32 ∷ 65 ∷ 46 ∷ 78 ∷ 59 ∷ 32 ∷ 65 ∷ 46 ∷ 102 ∷ 59 ∷ 32 ∷ 79 ∷ 117 ∷ 116 ∷ 46 ∷ 73 ∷ 110 ∷ 116 ∷ 40 ∷ 65 ∷ 46 ∷ 118 ∷ 44 ∷ 32 ∷ 48 ∷ 41 ∷ 32 ∷ 69 ∷ 78 ∷ 68 ∷ 32 ∷ 77 ∷ 46 ∷ []); symbols = (symbol (Ident) 0 6 ∷ symbol (Ident) 7 8 ∷ symbol (Ident) 8 9 ∷ symbol (Ident) 10 16 ∷ symbol (Ident) 17 18 ∷ symbol (Ident) 18 19 ∷ symbol (Ident) 20 23 ∷ symbol (Ident) 23 24 ∷ symbol (Ident) 25 28 ∷ symbol (Ident) 29 30 ∷ symbol (Ident) 30 31 ∷ symbol (Ident) 32 39 ∷ symbol (Ident) 39 40 ∷ symbol (Ident) 41 42 ∷ symbol (Ident) 42 43 ∷ symbol (Ident) 44 45 ∷ symbol (Ident) 45 46 ∷ symbol (Ident) 46 47 ∷ symbol (Ident) 47 48 ∷ symbol (Ident) 49 50 ∷ symbol (Ident) 50 51 ∷ symbol (Ident) 52 53 ∷ symbol (Ident) 53 54 ∷ symbol (Ident) 54 55 ∷ symbol (Ident) 55 56 ∷ symbol (Ident) 57 62 ∷ symbol (Ident) 63 64 ∷ symbol (Ident) 65 67 ∷ symbol (Ident) 68 69 ∷ symbol (Ident) 69 70 ∷ symbol (Ident) 70 71 ∷ symbol (Ident) 72 73 ∷ symbol (Ident) 74 75 ∷ symbol (Ident) 75 76 ∷ symbol (Ident) 76 77 ∷ symbol (Ident) 78 79 ∷ symbol (Ident) 80 81 ∷ symbol (Ident) 81 82 ∷ symbol (Ident) 82 83 ∷ symbol (Ident) 83 84 ∷ symbol (Int (pos 1)) 84 85 ∷ symbol (Ident) 85 86 ∷ symbol (Ident) 86 87 ∷ symbol (Ident) 88 89 ∷ symbol (Ident) 90 92 ∷ symbol (Ident) 93 94 ∷ symbol (Ident) 94 95 ∷ symbol (Ident) 95 96 ∷ symbol (Ident) 96 97 ∷ symbol (Ident) 98 99 ∷ symbol (Ident) 100 102 ∷ symbol (Ident) 103 104 ∷ symbol (Ident) 104 105 ∷ symbol (Ident) 105 106 ∷ symbol (Ident) 106 107 ∷ symbol (Ident) 108 111 ∷ symbol (Ident) 111 112 ∷ symbol (Ident) 112 113 ∷ symbol (Ident) 113 114 ∷ symbol (Ident) 114 115 ∷ symbol (Ident) 116 117 ∷ symbol (Ident) 117 118 ∷ symbol (Ident) 118 119 ∷ symbol (Ident) 120 122 ∷ symbol (Ident) 123 124 ∷ symbol (Ident) 124 125 ∷ symbol (Ident) 125 126 ∷ symbol (Ident) 126 127 ∷ symbol (Ident) 127 128 ∷ symbol (Ident) 128 129 ∷ symbol (Ident) 130 131 ∷ symbol (Ident) 131 132 ∷ symbol (Ident) 132 133 ∷ symbol (Ident) 133 134 ∷ symbol (Ident) 134 135 ∷ symbol (Ident) 136 138 ∷ symbol (Int (pos 3)) 139 140 ∷ symbol (Ident) 140 141 ∷ symbol (Ident) 142 143 ∷ symbol (Ident) 143 144 ∷ symbol (Ident) 144 145 ∷ symbol (Ident) 145 146 ∷ symbol (Ident) 147 148 ∷ symbol (Ident) 148 149 ∷ symbol (Ident) 149 150 ∷ symbol (Ident) 150 151 ∷ symbol (Ident) 152 155 ∷ symbol (Ident) 155 156 ∷ symbol (Ident) 156 159 ∷ symbol (Ident) 159 160 ∷ symbol (Ident) 160 161 ∷ symbol (Ident) 161 162 ∷ symbol (Ident) 162 163 ∷ symbol (Ident) 163 164 ∷ symbol (Int (pos 0)) 165 166 ∷ symbol (Ident) 166 167 ∷ symbol (Ident) 168 171 ∷ symbol (Ident) 172 173 ∷ symbol (Ident) 173 174 ∷ []) }; tree = record { module_word = 0; name = 1; semicolon = 0; imports = Some (record { import_word = 0; first = (record { name = 4; of = None }); more = (record { comma = 0; import = (record { name = 6; of = None }) } ∷ []); semicolon = 0 }); decls = (S.decls None None (Some (record { var_word = 0; each = (record { names = (record { first = (record { name = 9; star = None }); more = [] }); colon = 0; of = (S.Named (record { name = 11; member = None })); semicolon = 0 } ∷ record { names = (record { first = (record { name = 13; star = None }); more = [] }); colon = 0; of = (S.Named (record { name = 15; member = Some (record { period = 0; name = 17 }) })); semicolon = 0 } ∷ record { names = (record { first = (record { name = 19; star = None }); more = [] }); colon = 0; of = (S.Named (record { name = 21; member = Some (record { period = 0; name = 23 }) })); semicolon = 0 } ∷ []) })) S.no_procedure); body = (Some (record { begin_word = 0; stats = (S.stats (S.AssignOrCall (record { name = 26; selectors = S.no_selector }) (Some (record { becomes = 0; value = (S.only (S.simple None (S.term (S.Designated 28 (S.selected (S.Field 0 30) S.no_selector)) S.no_factor) (S.added (TheAddOperator.Plus 31) (S.term (S.Designated 32 (S.selected (S.Field 0 34) S.no_selector)) S.no_factor) (S.added (TheAddOperator.Plus 35) (S.term (S.Designated 36 (S.selected (S.Field 0 38) (S.selected (S.Index 0 (S.expressions (S.only (S.simple None (S.term (S.Int 40) S.no_factor) S.no_term)) S.no_expression) 0) S.no_selector))) S.no_factor) S.no_term)))) }))) (S.next_stat 0 (S.AssignOrCall (record { name = 43; selectors = S.no_selector }) (Some (record { becomes = 0; value = (S.only (S.simple None (S.term (S.Designated 45 (S.selected (S.Field 0 47) S.no_selector)) S.no_factor) S.no_term)) }))) (S.next_stat 0 (S.AssignOrCall (record { name = 49; selectors = S.no_selector }) (Some (record { becomes = 0; value = (S.only (S.simple None (S.term (S.Designated 51 (S.selected (S.Field 0 53) S.no_selector)) S.no_factor) S.no_term)) }))) (S.next_stat 0 (S.AssignOrCall (record { name = 55; selectors = (S.selected (S.Parens 0 (S.expressions (S.only (S.simple None (S.term (S.Designated 57 S.no_selector) S.no_factor) S.no_term)) S.no_expression) 0) S.no_selector) }) None) (S.next_stat 0 (S.AssignOrCall (record { name = 60; selectors = (S.selected (S.Field 0 62) S.no_selector) }) (Some (record { becomes = 0; value = (S.only (S.simple None (S.term (S.Designated 64 (S.selected (S.Field 0 66) (S.selected (S.Field 0 68) S.no_selector))) S.no_factor) S.no_term)) }))) (S.next_stat 0 (S.AssignOrCall (record { name = 70; selectors = (S.selected (S.Field 0 72) (S.selected (S.Field 0 74) S.no_selector)) }) (Some (record { becomes = 0; value = (S.only (S.simple None (S.term (S.Int 76) S.no_factor) S.no_term)) }))) (S.next_stat 0 (S.AssignOrCall (record { name = 78; selectors = (S.selected (S.Field 0 80) S.no_selector) }) None) (S.next_stat 0 (S.AssignOrCall (record { name = 82; selectors = (S.selected (S.Field 0 84) S.no_selector) }) None) (S.next_stat 0 (S.AssignOrCall (record { name = 86; selectors = (S.selected (S.Field 0 88) (S.selected (S.Parens 0 (S.expressions (S.only (S.simple None (S.term (S.Designated 90 (S.selected (S.Field 0 92) S.no_selector)) S.no_factor) S.no_term)) (S.next_expression 0 (S.only (S.simple None (S.term (S.Int 94) S.no_factor) S.no_term)) S.no_expression)) 0) S.no_selector)) }) None) S.no_stat))))))))) })); end_word = 0; end_name = 97; period = 0 } }

pub modules_1 : checked (modules_1_0 ∷ modules_1_1 ∷ []) ≡ Legal (record { records = (record { module_number = 0; base = None; level = 0; fields = (record { name = (120 ∷ []); exported = true; shape = H.Integer } ∷ record { name = (104 ∷ []); exported = false; shape = H.Integer } ∷ []); cells = 2; extent = record { bytes = 16; wide = true } } ∷ record { module_number = 0; base = None; level = 0; fields = []; cells = 0; extent = record { bytes = 0; wide = false } } ∷ []); pointers = (Some 0 ∷ []); modules = (record { name = (65 ∷ []); objects = (record { name = (99 ∷ []); exported = true; entity = I.OfConstant (I.Bits H.Integer 3) } ∷ record { name = (100 ∷ []); exported = false; entity = I.OfConstant (I.Bits H.Integer 4) } ∷ record { name = (82 ∷ []); exported = true; entity = I.OfType (H.Record 0) } ∷ record { name = (80 ∷ []); exported = true; entity = I.OfType (H.Pointer 0) } ∷ record { name = (72 ∷ []); exported = false; entity = I.OfType (H.Record 1) } ∷ record { name = (118 ∷ []); exported = true; entity = I.OfVariable 0 } ∷ record { name = (114 ∷ []); exported = true; entity = I.OfVariable 1 } ∷ record { name = (112 ∷ []); exported = true; entity = I.OfVariable 2 } ∷ record { name = (97 ∷ []); exported = true; entity = I.OfVariable 3 } ∷ record { name = (119 ∷ []); exported = false; entity = I.OfVariable 4 } ∷ record { name = (102 ∷ []); exported = true; entity = I.OfVariable 5 } ∷ record { name = (78 ∷ []); exported = true; entity = I.OfProcedure 0 } ∷ record { name = (76 ∷ []); exported = false; entity = I.OfProcedure 1 } ∷ []); variables = (H.Integer ∷ (H.Record 0) ∷ (H.Pointer 0) ∷ (H.Array 2 H.Integer) ∷ H.Integer ∷ (H.Procedure H.none H.Nothing) ∷ []); body = 2 } ∷ record { name = (77 ∷ []); objects = (record { name = (105 ∷ []); exported = false; entity = I.OfVariable 0 } ∷ record { name = (114 ∷ []); exported = false; entity = I.OfVariable 1 } ∷ record { name = (112 ∷ []); exported = false; entity = I.OfVariable 2 } ∷ []); variables = (H.Integer ∷ (H.Record 0) ∷ (H.Pointer 0) ∷ []); body = 3 } ∷ []); procedures = (record { module_number = 0; line = 1; is_body = false; formals = []; result = H.Nothing; locals = []; texts = []; body = I.no_statement; answer = None } ∷ record { module_number = 0; line = 1; is_body = false; formals = []; result = H.Nothing; locals = []; texts = []; body = I.no_statement; answer = None } ∷ record { module_number = 0; line = 1; is_body = true; formals = []; result = H.Nothing; locals = []; texts = []; body = I.no_statement; answer = None } ∷ record { module_number = 1; line = 1; is_body = true; formals = []; result = H.Nothing; locals = []; texts = []; body = (I.next_statement (I.Assign (I.of_type (I.Global 1 0) H.Integer) (record { form = (I.Linked (I.Linked (I.Load (I.of_type (I.Global 0 0) H.Integer)) (I.Operate TheBinary.Add (I.Literal 3))) (I.Operate TheBinary.Add (I.Load (I.of_type (I.Index (I.Global 0 3) (Some 2) H.Integer (I.Literal 1)) H.Integer)))); shape = H.Integer })) (I.next_statement (I.CopyRecord (I.of_type (I.Global 1 1) (H.Record 0)) (I.of_type (I.Global 0 1) (H.Record 0))) (I.next_statement (I.Assign (I.of_type (I.Global 1 2) (H.Pointer 0)) (record { form = (I.Load (I.of_type (I.Global 0 2) (H.Pointer 0))); shape = (H.Pointer 0) })) (I.next_statement (I.New (I.of_type (I.Global 1 2) (H.Pointer 0))) (I.next_statement (I.Assign (I.of_type (I.Field (I.Dereference (I.Load (I.of_type (I.Global 1 2) (H.Pointer 0)))) 0 0) H.Integer) (record { form = (I.Load (I.of_type (I.Field (I.Global 0 1) 0 0) H.Integer)); shape = H.Integer })) (I.next_statement (I.Assign (I.of_type (I.Field (I.Dereference (I.Load (I.of_type (I.Global 0 2) (H.Pointer 0)))) 0 0) H.Integer) (record { form = (I.Literal 3); shape = H.Integer })) (I.next_statement (I.Invoke (I.Direct 0 I.no_argument)) (I.next_statement (I.Invoke (I.Indirect (I.of_type (I.Global 0 5) (H.Procedure H.none H.Nothing)) I.no_argument)) (I.next_statement (I.OutInt (record { form = (I.Load (I.of_type (I.Global 0 0) H.Integer)); shape = H.Integer }) (record { form = (I.Literal 0); shape = H.Integer })) I.no_statement))))))))); answer = None } ∷ []); imports_in = false })
modules_1 = refl

-- MODULE A; CONST c* = 3; d = 4; TYPE R* = RECORD x*: INTEGER; h: INTEGER END; P* = POINTER TO R; H = RECORD END; VAR v*: INTEGER; r*: R; p*: P; a*: ARRAY 2 OF INTEGER; w: INTEGER; f*: PROCEDURE; PROCEDURE N*; END N; PROCEDURE L; END L; END A.
abbrev modules_2_0 : Parsed
modules_2_0 = record { source = record { bytes = (77 ∷ 79 ∷ 68 ∷ 85 ∷ 76 ∷ 69 ∷ 32 ∷ 65 ∷ 59 ∷ 32 ∷ 67 ∷ 79 ∷ 78 ∷ 83 ∷ 84 ∷ 32 ∷ 99 ∷ 42 ∷ 32 ∷ 61 ∷ 32 ∷ 51 ∷ 59 ∷ 32 ∷ 100 ∷ 32 ∷ 61 ∷ 32 ∷ 52 ∷ 59 ∷ 32 ∷ 84 ∷ 89 ∷ 80 ∷ 69 ∷ 32 ∷ 82 ∷ 42 ∷ 32 ∷ 61 ∷ 32 ∷ 82 ∷ 69 ∷ 67 ∷ 79 ∷ 82 ∷ 68 ∷ 32 ∷ 120 ∷ 42 ∷ 58 ∷ 32 ∷ 73 ∷ 78 ∷ 84 ∷ 69 ∷ 71 ∷ 69 ∷ 82 ∷ 59 ∷ 32 ∷ 104 ∷ 58 ∷ 32 ∷ 73 ∷ 78 ∷ 84 ∷ 69 ∷ 71 ∷ 69 ∷ 82 ∷ 32 ∷ 69 ∷ 78 ∷ 68 ∷ 59 ∷ 32 ∷ 80 ∷ 42 ∷ 32 ∷ 61 ∷ 32 ∷ 80 ∷ 79 ∷ 73 ∷ 78 ∷ 84 ∷ 69 ∷ 82 ∷ 32 ∷ 84 ∷ 79 ∷ 32 ∷ 82 ∷ 59 ∷ 32 ∷ 72 ∷ 32 ∷ 61 ∷ 32 ∷ 82 ∷ 69 ∷ 67 ∷ 79 ∷ 82 ∷ 68 ∷ 32 ∷ 69 ∷ 78 ∷ 68 ∷ 59 ∷ 32 ∷ 86 ∷ 65 ∷ 82 ∷ 32 ∷ 118 ∷ 42 ∷ 58 ∷ 32 ∷ 73 ∷ 78 ∷ 84 ∷ 69 ∷ 71 ∷ 69 ∷ 82 ∷ 59 ∷ 32 ∷ 114 ∷ 42 ∷ 58 ∷ 32 ∷ 82 ∷ 59 ∷ 32 ∷ 112 ∷ 42 ∷ 58 ∷ 32 ∷ 80 ∷ 59 ∷ 32 ∷ 97 ∷ 42 ∷ 58 ∷ 32 ∷ 65 ∷ 82 ∷ 82 ∷ 65 ∷ 89 ∷ 32 ∷ 50 ∷ 32 ∷ 79 ∷ 70 ∷ 32 ∷ 73 ∷ 78 ∷ 84 ∷ 69 ∷ 71 ∷ 69 ∷ 82 ∷ 59 ∷ 32 ∷ 119 ∷ 58 ∷ 32 ∷ 73 ∷ 78 ∷ 84 ∷ 69 ∷ 71 ∷ 69 ∷ 82 ∷ 59 ∷ 32 ∷ 102 ∷ 42 ∷ 58 ∷ 32 ∷ 80 ∷ 82 ∷ 79 ∷ 67 ∷ 69 ∷ 68 ∷ 85 ∷ 82 ∷ 69 ∷ 59 ∷ 32 ∷ 80 ∷ 82 ∷ 79 ∷ 67 ∷ 69 ∷ 68 ∷ 85 ∷ 82 ∷ 69 ∷ 32 ∷ 78 ∷ 42 ∷ 59 ∷ 32 ∷ 69 ∷ 78 ∷ 68 ∷ 32 ∷ 78 ∷ 59 ∷ 32 ∷ 80 ∷ 82 ∷ 79 ∷ 67 ∷ 69 ∷ 68 ∷ 85 ∷ 82 ∷ 69 ∷ 32 ∷ 76 ∷ 59 ∷ 32 ∷ 69 ∷ 78 ∷ 68 ∷ 32 ∷ 76 ∷ 59 ∷ 32 ∷ 69 ∷ 78 ∷ 68 ∷ 32 ∷ 65 ∷ 46 ∷ 10 ∷ []); symbols = (symbol (Ident) 0 6 ∷ symbol (Ident) 7 8 ∷ symbol (Ident) 8 9 ∷ symbol (Ident) 10 15 ∷ symbol (Ident) 16 17 ∷ symbol (Ident) 17 18 ∷ symbol (Ident) 19 20 ∷ symbol (Int (pos 3)) 21 22 ∷ symbol (Ident) 22 23 ∷ symbol (Ident) 24 25 ∷ symbol (Ident) 26 27 ∷ symbol (Int (pos 4)) 28 29 ∷ symbol (Ident) 29 30 ∷ symbol (Ident) 31 35 ∷ symbol (Ident) 36 37 ∷ symbol (Ident) 37 38 ∷ symbol (Ident) 39 40 ∷ symbol (Ident) 41 47 ∷ symbol (Ident) 48 49 ∷ symbol (Ident) 49 50 ∷ symbol (Ident) 50 51 ∷ symbol (Ident) 52 59 ∷ symbol (Ident) 59 60 ∷ symbol (Ident) 61 62 ∷ symbol (Ident) 62 63 ∷ symbol (Ident) 64 71 ∷ symbol (Ident) 72 75 ∷ symbol (Ident) 75 76 ∷ symbol (Ident) 77 78 ∷ symbol (Ident) 78 79 ∷ symbol (Ident) 80 81 ∷ symbol (Ident) 82 89 ∷ symbol (Ident) 90 92 ∷ symbol (Ident) 93 94 ∷ symbol (Ident) 94 95 ∷ symbol (Ident) 96 97 ∷ symbol (Ident) 98 99 ∷ symbol (Ident) 100 106 ∷ symbol (Ident) 107 110 ∷ symbol (Ident) 110 111 ∷ symbol (Ident) 112 115 ∷ symbol (Ident) 116 117 ∷ symbol (Ident) 117 118 ∷ symbol (Ident) 118 119 ∷ symbol (Ident) 120 127 ∷ symbol (Ident) 127 128 ∷ symbol (Ident) 129 130 ∷ symbol (Ident) 130 131 ∷ symbol (Ident) 131 132 ∷ symbol (Ident) 133 134 ∷ symbol (Ident) 134 135 ∷ symbol (Ident) 136 137 ∷ symbol (Ident) 137 138 ∷ symbol (Ident) 138 139 ∷ symbol (Ident) 140 141 ∷ symbol (Ident) 141 142 ∷ symbol (Ident) 143 144 ∷ symbol (Ident) 144 145 ∷ symbol (Ident) 145 146 ∷ symbol (Ident) 147 152 ∷ symbol (Int (pos 2)) 153 154 ∷ symbol (Ident) 155 157 ∷ symbol (Ident) 158 165 ∷ symbol (Ident) 165 166 ∷ symbol (Ident) 167 168 ∷ symbol (Ident) 168 169 ∷ symbol (Ident) 170 177 ∷ symbol (Ident) 177 178 ∷ symbol (Ident) 179 180 ∷ symbol (Ident) 180 181 ∷ symbol (Ident) 181 182 ∷ symbol (Ident) 183 192 ∷ symbol (Ident) 192 193 ∷ symbol (Ident) 194 203 ∷ symbol (Ident) 204 205 ∷ symbol (Ident) 205 206 ∷ symbol (Ident) 206 207 ∷ symbol (Ident) 208 211 ∷ symbol (Ident) 212 213 ∷ symbol (Ident) 213 214 ∷ symbol (Ident) 215 224 ∷ symbol (Ident) 225 226 ∷ symbol (Ident) 226 227 ∷ symbol (Ident) 228 231 ∷ symbol (Ident) 232 233 ∷ symbol (Ident) 233 234 ∷ symbol (Ident) 235 238 ∷ symbol (Ident) 239 240 ∷ symbol (Ident) 240 241 ∷ []) }; tree = record { module_word = 0; name = 1; semicolon = 0; imports = None; decls = (S.decls (Some (record { const_word = 0; each = (record { name = (record { name = 4; star = Some 0 }); equal = 0; value = (S.only (S.simple None (S.term (S.Int 7) S.no_factor) S.no_term)); semicolon = 0 } ∷ record { name = (record { name = 9; star = None }); equal = 0; value = (S.only (S.simple None (S.term (S.Int 11) S.no_factor) S.no_term)); semicolon = 0 } ∷ []) })) (Some (record { type_word = 0; each = (record { name = (record { name = 14; star = Some 0 }); equal = 0; is = (S.Record 17 None (S.fields (record { first = (record { name = 18; star = Some 0 }); more = [] }) 0 (S.Named (record { name = 21; member = None }))) (S.next_fields 0 (S.fields (record { first = (record { name = 23; star = None }); more = [] }) 0 (S.Named (record { name = 25; member = None }))) S.no_more_fields) 0); semicolon = 0 } ∷ record { name = (record { name = 28; star = Some 0 }); equal = 0; is = (S.Pointer 31 0 (S.Named (record { name = 33; member = None }))); semicolon = 0 } ∷ record { name = (record { name = 35; star = None }); equal = 0; is = (S.Record 37 None S.no_fields S.no_more_fields 0); semicolon = 0 } ∷ []) })) (Some (record { var_word = 0; each = (record { names = (record { first = (record { name = 41; star = Some 0 }); more = [] }); colon = 0; of = (S.Named (record { name = 44; member = None })); semicolon = 0 } ∷ record { names = (record { first = (record { name = 46; star = Some 0 }); more = [] }); colon = 0; of = (S.Named (record { name = 49; member = None })); semicolon = 0 } ∷ record { names = (record { first = (record { name = 51; star = Some 0 }); more = [] }); colon = 0; of = (S.Named (record { name = 54; member = None })); semicolon = 0 } ∷ record { names = (record { first = (record { name = 56; star = Some 0 }); more = [] }); colon = 0; of = (S.Array 59 (S.only (S.simple None (S.term (S.Int 60) S.no_factor) S.no_term)) S.no_expression 0 (S.Named (record { name = 62; member = None }))); semicolon = 0 } ∷ record { names = (record { first = (record { name = 64; star = None }); more = [] }); colon = 0; of = (S.Named (record { name = 66; member = None })); semicolon = 0 } ∷ record { names = (record { first = (record { name = 68; star = Some 0 }); more = [] }); colon = 0; of = (S.Procedure 71 None); semicolon = 0 } ∷ []) })) (S.procedure 0 (record { name = 74; star = Some 0 }) None 0 (S.decls None None None S.no_procedure) None None 77 78 0 (S.procedure 0 (record { name = 81; star = None }) None 0 (S.decls None None None S.no_procedure) None None 83 84 0 S.no_procedure))); body = None; end_word = 0; end_name = 87; period = 0 } }

-- MODULE M; IMPORT B := A, C := A; VAR r: B.R; BEGIN r := C.r END M.
abbrev modules_2_1 : Parsed
modules_2_1 = record { source = record { bytes = (77 ∷ 79 ∷ 68 ∷ 85 ∷ 76 ∷ 69 ∷ 32 ∷ 77 ∷ 59 ∷ 32 ∷ 73 ∷ 77 ∷ 80 ∷ 79 ∷ 82 ∷ 84 ∷ 32 ∷ 66 ∷ 32 ∷ 58 ∷ 61 ∷ 32 ∷ 65 ∷ 44 ∷ 32 ∷ 67 ∷ 32 ∷ 58 ∷ 61 ∷ 32 ∷ 65 ∷ 59 ∷ 32 ∷ 86 ∷ 65 ∷ 82 ∷ 32 ∷ 114 ∷ 58 ∷ 32 ∷ 66 ∷ 46 ∷ 82 ∷ 59 ∷ 32 ∷ 66 ∷ 69 ∷ 71 ∷ 73 ∷ 78 ∷ 32 ∷ 114 ∷ 32 ∷ 58 ∷ 61 ∷ 32 ∷ 67 ∷ 46 ∷ 114 ∷ 32 ∷ 69 ∷ 78 ∷ 68 ∷ 32 ∷ 77 ∷ 46 ∷ []); symbols = (symbol (Ident) 0 6 ∷ symbol (Ident) 7 8 ∷ symbol (Ident) 8 9 ∷ symbol (Ident) 10 16 ∷ symbol (Ident) 17 18 ∷ symbol (Ident) 19 21 ∷ symbol (Ident) 22 23 ∷ symbol (Ident) 23 24 ∷ symbol (Ident) 25 26 ∷ symbol (Ident) 27 29 ∷ symbol (Ident) 30 31 ∷ symbol (Ident) 31 32 ∷ symbol (Ident) 33 36 ∷ symbol (Ident) 37 38 ∷ symbol (Ident) 38 39 ∷ symbol (Ident) 40 41 ∷ symbol (Ident) 41 42 ∷ symbol (Ident) 42 43 ∷ symbol (Ident) 43 44 ∷ symbol (Ident) 45 50 ∷ symbol (Ident) 51 52 ∷ symbol (Ident) 53 55 ∷ symbol (Ident) 56 57 ∷ symbol (Ident) 57 58 ∷ symbol (Ident) 58 59 ∷ symbol (Ident) 60 63 ∷ symbol (Ident) 64 65 ∷ symbol (Ident) 65 66 ∷ []) }; tree = record { module_word = 0; name = 1; semicolon = 0; imports = Some (record { import_word = 0; first = (record { name = 4; of = Some (record { becomes = 0; name = 6 }) }); more = (record { comma = 0; import = (record { name = 8; of = Some (record { becomes = 0; name = 10 }) }) } ∷ []); semicolon = 0 }); decls = (S.decls None None (Some (record { var_word = 0; each = (record { names = (record { first = (record { name = 13; star = None }); more = [] }); colon = 0; of = (S.Named (record { name = 15; member = Some (record { period = 0; name = 17 }) })); semicolon = 0 } ∷ []) })) S.no_procedure); body = (Some (record { begin_word = 0; stats = (S.stats (S.AssignOrCall (record { name = 20; selectors = S.no_selector }) (Some (record { becomes = 0; value = (S.only (S.simple None (S.term (S.Designated 22 (S.selected (S.Field 0 24) S.no_selector)) S.no_factor) S.no_term)) }))) S.no_stat) })); end_word = 0; end_name = 26; period = 0 } }

pub modules_2 : checked (modules_2_0 ∷ modules_2_1 ∷ []) ≡ Legal (record { records = (record { module_number = 0; base = None; level = 0; fields = (record { name = (120 ∷ []); exported = true; shape = H.Integer } ∷ record { name = (104 ∷ []); exported = false; shape = H.Integer } ∷ []); cells = 2; extent = record { bytes = 16; wide = true } } ∷ record { module_number = 0; base = None; level = 0; fields = []; cells = 0; extent = record { bytes = 0; wide = false } } ∷ []); pointers = (Some 0 ∷ []); modules = (record { name = (65 ∷ []); objects = (record { name = (99 ∷ []); exported = true; entity = I.OfConstant (I.Bits H.Integer 3) } ∷ record { name = (100 ∷ []); exported = false; entity = I.OfConstant (I.Bits H.Integer 4) } ∷ record { name = (82 ∷ []); exported = true; entity = I.OfType (H.Record 0) } ∷ record { name = (80 ∷ []); exported = true; entity = I.OfType (H.Pointer 0) } ∷ record { name = (72 ∷ []); exported = false; entity = I.OfType (H.Record 1) } ∷ record { name = (118 ∷ []); exported = true; entity = I.OfVariable 0 } ∷ record { name = (114 ∷ []); exported = true; entity = I.OfVariable 1 } ∷ record { name = (112 ∷ []); exported = true; entity = I.OfVariable 2 } ∷ record { name = (97 ∷ []); exported = true; entity = I.OfVariable 3 } ∷ record { name = (119 ∷ []); exported = false; entity = I.OfVariable 4 } ∷ record { name = (102 ∷ []); exported = true; entity = I.OfVariable 5 } ∷ record { name = (78 ∷ []); exported = true; entity = I.OfProcedure 0 } ∷ record { name = (76 ∷ []); exported = false; entity = I.OfProcedure 1 } ∷ []); variables = (H.Integer ∷ (H.Record 0) ∷ (H.Pointer 0) ∷ (H.Array 2 H.Integer) ∷ H.Integer ∷ (H.Procedure H.none H.Nothing) ∷ []); body = 2 } ∷ record { name = (77 ∷ []); objects = (record { name = (114 ∷ []); exported = false; entity = I.OfVariable 0 } ∷ []); variables = ((H.Record 0) ∷ []); body = 3 } ∷ []); procedures = (record { module_number = 0; line = 1; is_body = false; formals = []; result = H.Nothing; locals = []; texts = []; body = I.no_statement; answer = None } ∷ record { module_number = 0; line = 1; is_body = false; formals = []; result = H.Nothing; locals = []; texts = []; body = I.no_statement; answer = None } ∷ record { module_number = 0; line = 1; is_body = true; formals = []; result = H.Nothing; locals = []; texts = []; body = I.no_statement; answer = None } ∷ record { module_number = 1; line = 1; is_body = true; formals = []; result = H.Nothing; locals = []; texts = []; body = (I.next_statement (I.CopyRecord (I.of_type (I.Global 1 0) (H.Record 0)) (I.of_type (I.Global 0 1) (H.Record 0))) I.no_statement); answer = None } ∷ []); imports_in = false })
modules_2 = refl

-- MODULE A; TYPE P* = POINTER TO R; R = RECORD x*: INTEGER END; VAR p*: P; END A.
abbrev modules_3_0 : Parsed
modules_3_0 = record { source = record { bytes = (77 ∷ 79 ∷ 68 ∷ 85 ∷ 76 ∷ 69 ∷ 32 ∷ 65 ∷ 59 ∷ 32 ∷ 84 ∷ 89 ∷ 80 ∷ 69 ∷ 32 ∷ 80 ∷ 42 ∷ 32 ∷ 61 ∷ 32 ∷ 80 ∷ 79 ∷ 73 ∷ 78 ∷ 84 ∷ 69 ∷ 82 ∷ 32 ∷ 84 ∷ 79 ∷ 32 ∷ 82 ∷ 59 ∷ 32 ∷ 82 ∷ 32 ∷ 61 ∷ 32 ∷ 82 ∷ 69 ∷ 67 ∷ 79 ∷ 82 ∷ 68 ∷ 32 ∷ 120 ∷ 42 ∷ 58 ∷ 32 ∷ 73 ∷ 78 ∷ 84 ∷ 69 ∷ 71 ∷ 69 ∷ 82 ∷ 32 ∷ 69 ∷ 78 ∷ 68 ∷ 59 ∷ 32 ∷ 86 ∷ 65 ∷ 82 ∷ 32 ∷ 112 ∷ 42 ∷ 58 ∷ 32 ∷ 80 ∷ 59 ∷ 32 ∷ 69 ∷ 78 ∷ 68 ∷ 32 ∷ 65 ∷ 46 ∷ 10 ∷ []); symbols = (symbol (Ident) 0 6 ∷ symbol (Ident) 7 8 ∷ symbol (Ident) 8 9 ∷ symbol (Ident) 10 14 ∷ symbol (Ident) 15 16 ∷ symbol (Ident) 16 17 ∷ symbol (Ident) 18 19 ∷ symbol (Ident) 20 27 ∷ symbol (Ident) 28 30 ∷ symbol (Ident) 31 32 ∷ symbol (Ident) 32 33 ∷ symbol (Ident) 34 35 ∷ symbol (Ident) 36 37 ∷ symbol (Ident) 38 44 ∷ symbol (Ident) 45 46 ∷ symbol (Ident) 46 47 ∷ symbol (Ident) 47 48 ∷ symbol (Ident) 49 56 ∷ symbol (Ident) 57 60 ∷ symbol (Ident) 60 61 ∷ symbol (Ident) 62 65 ∷ symbol (Ident) 66 67 ∷ symbol (Ident) 67 68 ∷ symbol (Ident) 68 69 ∷ symbol (Ident) 70 71 ∷ symbol (Ident) 71 72 ∷ symbol (Ident) 73 76 ∷ symbol (Ident) 77 78 ∷ symbol (Ident) 78 79 ∷ []) }; tree = record { module_word = 0; name = 1; semicolon = 0; imports = None; decls = (S.decls None (Some (record { type_word = 0; each = (record { name = (record { name = 4; star = Some 0 }); equal = 0; is = (S.Pointer 7 0 (S.Named (record { name = 9; member = None }))); semicolon = 0 } ∷ record { name = (record { name = 11; star = None }); equal = 0; is = (S.Record 13 None (S.fields (record { first = (record { name = 14; star = Some 0 }); more = [] }) 0 (S.Named (record { name = 17; member = None }))) S.no_more_fields 0); semicolon = 0 } ∷ []) })) (Some (record { var_word = 0; each = (record { names = (record { first = (record { name = 21; star = Some 0 }); more = [] }); colon = 0; of = (S.Named (record { name = 24; member = None })); semicolon = 0 } ∷ []) })) S.no_procedure); body = None; end_word = 0; end_name = 27; period = 0 } }

-- MODULE B; IMPORT A; TYPE E = RECORD (A.P) END; BEGIN A.p.x := 1 END B.
abbrev modules_3_1 : Parsed
modules_3_1 = record { source = record { bytes = (77 ∷ 79 ∷ 68 ∷ 85 ∷ 76 ∷ 69 ∷ 32 ∷ 66 ∷ 59 ∷ 32 ∷ 73 ∷ 77 ∷ 80 ∷ 79 ∷ 82 ∷ 84 ∷ 32 ∷ 65 ∷ 59 ∷ 32 ∷ 84 ∷ 89 ∷ 80 ∷ 69 ∷ 32 ∷ 69 ∷ 32 ∷ 61 ∷ 32 ∷ 82 ∷ 69 ∷ 67 ∷ 79 ∷ 82 ∷ 68 ∷ 32 ∷ 40 ∷ 65 ∷ 46 ∷ 80 ∷ 41 ∷ 32 ∷ 69 ∷ 78 ∷ 68 ∷ 59 ∷ 32 ∷ 66 ∷ 69 ∷ 71 ∷ 73 ∷ 78 ∷ 32 ∷ 65 ∷ 46 ∷ 112 ∷ 46 ∷ 120 ∷ 32 ∷ 58 ∷ 61 ∷ 32 ∷ 49 ∷ 32 ∷ 69 ∷ 78 ∷ 68 ∷ 32 ∷ 66 ∷ 46 ∷ []); symbols = (symbol (Ident) 0 6 ∷ symbol (Ident) 7 8 ∷ symbol (Ident) 8 9 ∷ symbol (Ident) 10 16 ∷ symbol (Ident) 17 18 ∷ symbol (Ident) 18 19 ∷ symbol (Ident) 20 24 ∷ symbol (Ident) 25 26 ∷ symbol (Ident) 27 28 ∷ symbol (Ident) 29 35 ∷ symbol (Ident) 36 37 ∷ symbol (Ident) 37 38 ∷ symbol (Ident) 38 39 ∷ symbol (Ident) 39 40 ∷ symbol (Ident) 40 41 ∷ symbol (Ident) 42 45 ∷ symbol (Ident) 45 46 ∷ symbol (Ident) 47 52 ∷ symbol (Ident) 53 54 ∷ symbol (Ident) 54 55 ∷ symbol (Ident) 55 56 ∷ symbol (Ident) 56 57 ∷ symbol (Ident) 57 58 ∷ symbol (Ident) 59 61 ∷ symbol (Int (pos 1)) 62 63 ∷ symbol (Ident) 64 67 ∷ symbol (Ident) 68 69 ∷ symbol (Ident) 69 70 ∷ []) }; tree = record { module_word = 0; name = 1; semicolon = 0; imports = Some (record { import_word = 0; first = (record { name = 4; of = None }); more = []; semicolon = 0 }); decls = (S.decls None (Some (record { type_word = 0; each = (record { name = (record { name = 7; star = None }); equal = 0; is = (S.Record 9 (Some (record { left_paren = 0; name = (record { name = 11; member = Some (record { period = 0; name = 13 }) }); right_paren = 0 })) S.no_fields S.no_more_fields 0); semicolon = 0 } ∷ []) })) None S.no_procedure); body = (Some (record { begin_word = 0; stats = (S.stats (S.AssignOrCall (record { name = 18; selectors = (S.selected (S.Field 0 20) (S.selected (S.Field 0 22) S.no_selector)) }) (Some (record { becomes = 0; value = (S.only (S.simple None (S.term (S.Int 24) S.no_factor) S.no_term)) }))) S.no_stat) })); end_word = 0; end_name = 26; period = 0 } }

pub modules_3 : checked (modules_3_0 ∷ modules_3_1 ∷ []) ≡ Fault 1 42 37
modules_3 = refl

-- MODULE A; TYPE P* = POINTER TO R; R = RECORD x*: INTEGER END; VAR p*: P; END A.
abbrev modules_4_0 : Parsed
modules_4_0 = record { source = record { bytes = (77 ∷ 79 ∷ 68 ∷ 85 ∷ 76 ∷ 69 ∷ 32 ∷ 65 ∷ 59 ∷ 32 ∷ 84 ∷ 89 ∷ 80 ∷ 69 ∷ 32 ∷ 80 ∷ 42 ∷ 32 ∷ 61 ∷ 32 ∷ 80 ∷ 79 ∷ 73 ∷ 78 ∷ 84 ∷ 69 ∷ 82 ∷ 32 ∷ 84 ∷ 79 ∷ 32 ∷ 82 ∷ 59 ∷ 32 ∷ 82 ∷ 32 ∷ 61 ∷ 32 ∷ 82 ∷ 69 ∷ 67 ∷ 79 ∷ 82 ∷ 68 ∷ 32 ∷ 120 ∷ 42 ∷ 58 ∷ 32 ∷ 73 ∷ 78 ∷ 84 ∷ 69 ∷ 71 ∷ 69 ∷ 82 ∷ 32 ∷ 69 ∷ 78 ∷ 68 ∷ 59 ∷ 32 ∷ 86 ∷ 65 ∷ 82 ∷ 32 ∷ 112 ∷ 42 ∷ 58 ∷ 32 ∷ 80 ∷ 59 ∷ 32 ∷ 69 ∷ 78 ∷ 68 ∷ 32 ∷ 65 ∷ 46 ∷ 10 ∷ []); symbols = (symbol (Ident) 0 6 ∷ symbol (Ident) 7 8 ∷ symbol (Ident) 8 9 ∷ symbol (Ident) 10 14 ∷ symbol (Ident) 15 16 ∷ symbol (Ident) 16 17 ∷ symbol (Ident) 18 19 ∷ symbol (Ident) 20 27 ∷ symbol (Ident) 28 30 ∷ symbol (Ident) 31 32 ∷ symbol (Ident) 32 33 ∷ symbol (Ident) 34 35 ∷ symbol (Ident) 36 37 ∷ symbol (Ident) 38 44 ∷ symbol (Ident) 45 46 ∷ symbol (Ident) 46 47 ∷ symbol (Ident) 47 48 ∷ symbol (Ident) 49 56 ∷ symbol (Ident) 57 60 ∷ symbol (Ident) 60 61 ∷ symbol (Ident) 62 65 ∷ symbol (Ident) 66 67 ∷ symbol (Ident) 67 68 ∷ symbol (Ident) 68 69 ∷ symbol (Ident) 70 71 ∷ symbol (Ident) 71 72 ∷ symbol (Ident) 73 76 ∷ symbol (Ident) 77 78 ∷ symbol (Ident) 78 79 ∷ []) }; tree = record { module_word = 0; name = 1; semicolon = 0; imports = None; decls = (S.decls None (Some (record { type_word = 0; each = (record { name = (record { name = 4; star = Some 0 }); equal = 0; is = (S.Pointer 7 0 (S.Named (record { name = 9; member = None }))); semicolon = 0 } ∷ record { name = (record { name = 11; star = None }); equal = 0; is = (S.Record 13 None (S.fields (record { first = (record { name = 14; star = Some 0 }); more = [] }) 0 (S.Named (record { name = 17; member = None }))) S.no_more_fields 0); semicolon = 0 } ∷ []) })) (Some (record { var_word = 0; each = (record { names = (record { first = (record { name = 21; star = Some 0 }); more = [] }); colon = 0; of = (S.Named (record { name = 24; member = None })); semicolon = 0 } ∷ []) })) S.no_procedure); body = None; end_word = 0; end_name = 27; period = 0 } }

-- MODULE B; IMPORT A; BEGIN A.p.x := 1; A.p^ := A.p^ END B.
abbrev modules_4_1 : Parsed
modules_4_1 = record { source = record { bytes = (77 ∷ 79 ∷ 68 ∷ 85 ∷ 76 ∷ 69 ∷ 32 ∷ 66 ∷ 59 ∷ 32 ∷ 73 ∷ 77 ∷ 80 ∷ 79 ∷ 82 ∷ 84 ∷ 32 ∷ 65 ∷ 59 ∷ 32 ∷ 66 ∷ 69 ∷ 71 ∷ 73 ∷ 78 ∷ 32 ∷ 65 ∷ 46 ∷ 112 ∷ 46 ∷ 120 ∷ 32 ∷ 58 ∷ 61 ∷ 32 ∷ 49 ∷ 59 ∷ 32 ∷ 65 ∷ 46 ∷ 112 ∷ 94 ∷ 32 ∷ 58 ∷ 61 ∷ 32 ∷ 65 ∷ 46 ∷ 112 ∷ 94 ∷ 32 ∷ 69 ∷ 78 ∷ 68 ∷ 32 ∷ 66 ∷ 46 ∷ 10 ∷ []); symbols = (symbol (Ident) 0 6 ∷ symbol (Ident) 7 8 ∷ symbol (Ident) 8 9 ∷ symbol (Ident) 10 16 ∷ symbol (Ident) 17 18 ∷ symbol (Ident) 18 19 ∷ symbol (Ident) 20 25 ∷ symbol (Ident) 26 27 ∷ symbol (Ident) 27 28 ∷ symbol (Ident) 28 29 ∷ symbol (Ident) 29 30 ∷ symbol (Ident) 30 31 ∷ symbol (Ident) 32 34 ∷ symbol (Int (pos 1)) 35 36 ∷ symbol (Ident) 36 37 ∷ symbol (Ident) 38 39 ∷ symbol (Ident) 39 40 ∷ symbol (Ident) 40 41 ∷ symbol (Ident) 41 42 ∷ symbol (Ident) 43 45 ∷ symbol (Ident) 46 47 ∷ symbol (Ident) 47 48 ∷ symbol (Ident) 48 49 ∷ symbol (Ident) 49 50 ∷ symbol (Ident) 51 54 ∷ symbol (Ident) 55 56 ∷ symbol (Ident) 56 57 ∷ []) }; tree = record { module_word = 0; name = 1; semicolon = 0; imports = Some (record { import_word = 0; first = (record { name = 4; of = None }); more = []; semicolon = 0 }); decls = (S.decls None None None S.no_procedure); body = (Some (record { begin_word = 0; stats = (S.stats (S.AssignOrCall (record { name = 7; selectors = (S.selected (S.Field 0 9) (S.selected (S.Field 0 11) S.no_selector)) }) (Some (record { becomes = 0; value = (S.only (S.simple None (S.term (S.Int 13) S.no_factor) S.no_term)) }))) (S.next_stat 0 (S.AssignOrCall (record { name = 15; selectors = (S.selected (S.Field 0 17) (S.selected (S.Arrow 0) S.no_selector)) }) (Some (record { becomes = 0; value = (S.only (S.simple None (S.term (S.Designated 20 (S.selected (S.Field 0 22) (S.selected (S.Arrow 0) S.no_selector))) S.no_factor) S.no_term)) }))) S.no_stat)) })); end_word = 0; end_name = 25; period = 0 } }

-- MODULE C; IMPORT B, A; VAR q: A.P; BEGIN q := A.p; q.x := 2; B.x END C.
abbrev modules_4_2 : Parsed
modules_4_2 = record { source = record { bytes = (77 ∷ 79 ∷ 68 ∷ 85 ∷ 76 ∷ 69 ∷ 32 ∷ 67 ∷ 59 ∷ 32 ∷ 73 ∷ 77 ∷ 80 ∷ 79 ∷ 82 ∷ 84 ∷ 32 ∷ 66 ∷ 44 ∷ 32 ∷ 65 ∷ 59 ∷ 32 ∷ 86 ∷ 65 ∷ 82 ∷ 32 ∷ 113 ∷ 58 ∷ 32 ∷ 65 ∷ 46 ∷ 80 ∷ 59 ∷ 32 ∷ 66 ∷ 69 ∷ 71 ∷ 73 ∷ 78 ∷ 32 ∷ 113 ∷ 32 ∷ 58 ∷ 61 ∷ 32 ∷ 65 ∷ 46 ∷ 112 ∷ 59 ∷ 32 ∷ 113 ∷ 46 ∷ 120 ∷ 32 ∷ 58 ∷ 61 ∷ 32 ∷ 50 ∷ 59 ∷ 32 ∷ 66 ∷ 46 ∷ 120 ∷ 32 ∷ 69 ∷ 78 ∷ 68 ∷ 32 ∷ 67 ∷ 46 ∷ []); symbols = (symbol (Ident) 0 6 ∷ symbol (Ident) 7 8 ∷ symbol (Ident) 8 9 ∷ symbol (Ident) 10 16 ∷ symbol (Ident) 17 18 ∷ symbol (Ident) 18 19 ∷ symbol (Ident) 20 21 ∷ symbol (Ident) 21 22 ∷ symbol (Ident) 23 26 ∷ symbol (Ident) 27 28 ∷ symbol (Ident) 28 29 ∷ symbol (Ident) 30 31 ∷ symbol (Ident) 31 32 ∷ symbol (Ident) 32 33 ∷ symbol (Ident) 33 34 ∷ symbol (Ident) 35 40 ∷ symbol (Ident) 41 42 ∷ symbol (Ident) 43 45 ∷ symbol (Ident) 46 47 ∷ symbol (Ident) 47 48 ∷ symbol (Ident) 48 49 ∷ symbol (Ident) 49 50 ∷ symbol (Ident) 51 52 ∷ symbol (Ident) 52 53 ∷ symbol (Ident) 53 54 ∷ symbol (Ident) 55 57 ∷ symbol (Int (pos 2)) 58 59 ∷ symbol (Ident) 59 60 ∷ symbol (Ident) 61 62 ∷ symbol (Ident) 62 63 ∷ symbol (Ident) 63 64 ∷ symbol (Ident) 65 68 ∷ symbol (Ident) 69 70 ∷ symbol (Ident) 70 71 ∷ []) }; tree = record { module_word = 0; name = 1; semicolon = 0; imports = Some (record { import_word = 0; first = (record { name = 4; of = None }); more = (record { comma = 0; import = (record { name = 6; of = None }) } ∷ []); semicolon = 0 }); decls = (S.decls None None (Some (record { var_word = 0; each = (record { names = (record { first = (record { name = 9; star = None }); more = [] }); colon = 0; of = (S.Named (record { name = 11; member = Some (record { period = 0; name = 13 }) })); semicolon = 0 } ∷ []) })) S.no_procedure); body = (Some (record { begin_word = 0; stats = (S.stats (S.AssignOrCall (record { name = 16; selectors = S.no_selector }) (Some (record { becomes = 0; value = (S.only (S.simple None (S.term (S.Designated 18 (S.selected (S.Field 0 20) S.no_selector)) S.no_factor) S.no_term)) }))) (S.next_stat 0 (S.AssignOrCall (record { name = 22; selectors = (S.selected (S.Field 0 24) S.no_selector) }) (Some (record { becomes = 0; value = (S.only (S.simple None (S.term (S.Int 26) S.no_factor) S.no_term)) }))) (S.next_stat 0 (S.AssignOrCall (record { name = 28; selectors = (S.selected (S.Field 0 30) S.no_selector) }) None) S.no_stat))) })); end_word = 0; end_name = 32; period = 0 } }

pub modules_4 : checked (modules_4_0 ∷ modules_4_1 ∷ modules_4_2 ∷ []) ≡ Fault 2 30 63
modules_4 = refl

-- MODULE A; CONST s* = ''text''; END A.
abbrev modules_5_0 : Parsed
modules_5_0 = record { source = record { bytes = (77 ∷ 79 ∷ 68 ∷ 85 ∷ 76 ∷ 69 ∷ 32 ∷ 65 ∷ 59 ∷ 32 ∷ 67 ∷ 79 ∷ 78 ∷ 83 ∷ 84 ∷ 32 ∷ 115 ∷ 42 ∷ 32 ∷ 61 ∷ 32 ∷ 34 ∷ 116 ∷ 101 ∷ 120 ∷ 116 ∷ 34 ∷ 59 ∷ 32 ∷ 69 ∷ 78 ∷ 68 ∷ 32 ∷ 65 ∷ 46 ∷ 10 ∷ []); symbols = (symbol (Ident) 0 6 ∷ symbol (Ident) 7 8 ∷ symbol (Ident) 8 9 ∷ symbol (Ident) 10 15 ∷ symbol (Ident) 16 17 ∷ symbol (Ident) 17 18 ∷ symbol (Ident) 19 20 ∷ symbol (TheKind.Text) 21 27 ∷ symbol (Ident) 27 28 ∷ symbol (Ident) 29 32 ∷ symbol (Ident) 33 34 ∷ symbol (Ident) 34 35 ∷ []) }; tree = record { module_word = 0; name = 1; semicolon = 0; imports = None; decls = (S.decls (Some (record { const_word = 0; each = (record { name = (record { name = 4; star = Some 0 }); equal = 0; value = (S.only (S.simple None (S.term (S.Text 7) S.no_factor) S.no_term)); semicolon = 0 } ∷ []) })) None None S.no_procedure); body = None; end_word = 0; end_name = 10; period = 0 } }

-- MODULE B; IMPORT A, Out; VAR t: ARRAY 5 OF CHAR; BEGIN t := A.s; Out.String(A.s) END B.
abbrev modules_5_1 : Parsed
modules_5_1 = record { source = record { bytes = (77 ∷ 79 ∷ 68 ∷ 85 ∷ 76 ∷ 69 ∷ 32 ∷ 66 ∷ 59 ∷ 32 ∷ 73 ∷ 77 ∷ 80 ∷ 79 ∷ 82 ∷ 84 ∷ 32 ∷ 65 ∷ 44 ∷ 32 ∷ 79 ∷ 117 ∷ 116 ∷ 59 ∷ 32 ∷ 86 ∷ 65 ∷ 82 ∷ 32 ∷ 116 ∷ 58 ∷ 32 ∷ 65 ∷ 82 ∷ 82 ∷ 65 ∷ 89 ∷ 32 ∷ 53 ∷ 32 ∷ 79 ∷ 70 ∷ 32 ∷ 67 ∷ 72 ∷ 65 ∷ 82 ∷ 59 ∷ 32 ∷ 66 ∷ 69 ∷ 71 ∷ 73 ∷ 78 ∷ 32 ∷ 116 ∷ 32 ∷ 58 ∷ 61 ∷ 32 ∷ 65 ∷ 46 ∷ 115 ∷ 59 ∷ 32 ∷ 79 ∷ 117 ∷ 116 ∷ 46 ∷ 83 ∷ 116 ∷ 114 ∷ 105 ∷ 110 ∷ 103 ∷ 40 ∷ 65 ∷ 46 ∷ 115 ∷ 41 ∷ 32 ∷ 69 ∷ 78 ∷ 68 ∷ 32 ∷ 66 ∷ 46 ∷ []); symbols = (symbol (Ident) 0 6 ∷ symbol (Ident) 7 8 ∷ symbol (Ident) 8 9 ∷ symbol (Ident) 10 16 ∷ symbol (Ident) 17 18 ∷ symbol (Ident) 18 19 ∷ symbol (Ident) 20 23 ∷ symbol (Ident) 23 24 ∷ symbol (Ident) 25 28 ∷ symbol (Ident) 29 30 ∷ symbol (Ident) 30 31 ∷ symbol (Ident) 32 37 ∷ symbol (Int (pos 5)) 38 39 ∷ symbol (Ident) 40 42 ∷ symbol (Ident) 43 47 ∷ symbol (Ident) 47 48 ∷ symbol (Ident) 49 54 ∷ symbol (Ident) 55 56 ∷ symbol (Ident) 57 59 ∷ symbol (Ident) 60 61 ∷ symbol (Ident) 61 62 ∷ symbol (Ident) 62 63 ∷ symbol (Ident) 63 64 ∷ symbol (Ident) 65 68 ∷ symbol (Ident) 68 69 ∷ symbol (Ident) 69 75 ∷ symbol (Ident) 75 76 ∷ symbol (Ident) 76 77 ∷ symbol (Ident) 77 78 ∷ symbol (Ident) 78 79 ∷ symbol (Ident) 79 80 ∷ symbol (Ident) 81 84 ∷ symbol (Ident) 85 86 ∷ symbol (Ident) 86 87 ∷ []) }; tree = record { module_word = 0; name = 1; semicolon = 0; imports = Some (record { import_word = 0; first = (record { name = 4; of = None }); more = (record { comma = 0; import = (record { name = 6; of = None }) } ∷ []); semicolon = 0 }); decls = (S.decls None None (Some (record { var_word = 0; each = (record { names = (record { first = (record { name = 9; star = None }); more = [] }); colon = 0; of = (S.Array 11 (S.only (S.simple None (S.term (S.Int 12) S.no_factor) S.no_term)) S.no_expression 0 (S.Named (record { name = 14; member = None }))); semicolon = 0 } ∷ []) })) S.no_procedure); body = (Some (record { begin_word = 0; stats = (S.stats (S.AssignOrCall (record { name = 17; selectors = S.no_selector }) (Some (record { becomes = 0; value = (S.only (S.simple None (S.term (S.Designated 19 (S.selected (S.Field 0 21) S.no_selector)) S.no_factor) S.no_term)) }))) (S.next_stat 0 (S.AssignOrCall (record { name = 23; selectors = (S.selected (S.Field 0 25) (S.selected (S.Parens 0 (S.expressions (S.only (S.simple None (S.term (S.Designated 27 (S.selected (S.Field 0 29) S.no_selector)) S.no_factor) S.no_term)) S.no_expression) 0) S.no_selector)) }) None) S.no_stat)) })); end_word = 0; end_name = 32; period = 0 } }

pub modules_5 : checked (modules_5_0 ∷ modules_5_1 ∷ []) ≡ Legal (record { records = []; pointers = []; modules = (record { name = (65 ∷ []); objects = (record { name = (115 ∷ []); exported = true; entity = I.OfConstant (I.Chars (116 ∷ 101 ∷ 120 ∷ 116 ∷ [])) } ∷ []); variables = []; body = 0 } ∷ record { name = (66 ∷ []); objects = (record { name = (116 ∷ []); exported = false; entity = I.OfVariable 0 } ∷ []); variables = ((H.Array 5 H.Char) ∷ []); body = 1 } ∷ []); procedures = (record { module_number = 0; line = 1; is_body = true; formals = []; result = H.Nothing; locals = []; texts = []; body = I.no_statement; answer = None } ∷ record { module_number = 1; line = 1; is_body = true; formals = []; result = H.Nothing; locals = []; texts = ((116 ∷ 101 ∷ 120 ∷ 116 ∷ []) ∷ (116 ∷ 101 ∷ 120 ∷ 116 ∷ []) ∷ []); body = (I.next_statement (I.CopyArray (I.of_type (I.Global 1 0) (H.Array 5 H.Char)) (I.of_type (I.Text (116 ∷ 101 ∷ 120 ∷ 116 ∷ [])) (H.Text 4))) (I.next_statement (I.OutString (I.of_type (I.Text (116 ∷ 101 ∷ 120 ∷ 116 ∷ [])) (H.Text 4))) I.no_statement)); answer = None } ∷ []); imports_in = false })
modules_5 = refl

-- MODULE A; VAR x: INTEGER; BEGIN x := y END A.
abbrev modules_6_0 : Parsed
modules_6_0 = record { source = record { bytes = (77 ∷ 79 ∷ 68 ∷ 85 ∷ 76 ∷ 69 ∷ 32 ∷ 65 ∷ 59 ∷ 32 ∷ 86 ∷ 65 ∷ 82 ∷ 32 ∷ 120 ∷ 58 ∷ 32 ∷ 73 ∷ 78 ∷ 84 ∷ 69 ∷ 71 ∷ 69 ∷ 82 ∷ 59 ∷ 32 ∷ 66 ∷ 69 ∷ 71 ∷ 73 ∷ 78 ∷ 32 ∷ 120 ∷ 32 ∷ 58 ∷ 61 ∷ 32 ∷ 121 ∷ 32 ∷ 69 ∷ 78 ∷ 68 ∷ 32 ∷ 65 ∷ 46 ∷ 10 ∷ []); symbols = (symbol (Ident) 0 6 ∷ symbol (Ident) 7 8 ∷ symbol (Ident) 8 9 ∷ symbol (Ident) 10 13 ∷ symbol (Ident) 14 15 ∷ symbol (Ident) 15 16 ∷ symbol (Ident) 17 24 ∷ symbol (Ident) 24 25 ∷ symbol (Ident) 26 31 ∷ symbol (Ident) 32 33 ∷ symbol (Ident) 34 36 ∷ symbol (Ident) 37 38 ∷ symbol (Ident) 39 42 ∷ symbol (Ident) 43 44 ∷ symbol (Ident) 44 45 ∷ []) }; tree = record { module_word = 0; name = 1; semicolon = 0; imports = None; decls = (S.decls None None (Some (record { var_word = 0; each = (record { names = (record { first = (record { name = 4; star = None }); more = [] }); colon = 0; of = (S.Named (record { name = 6; member = None })); semicolon = 0 } ∷ []) })) S.no_procedure); body = (Some (record { begin_word = 0; stats = (S.stats (S.AssignOrCall (record { name = 9; selectors = S.no_selector }) (Some (record { becomes = 0; value = (S.only (S.simple None (S.term (S.Designated 11 S.no_selector) S.no_factor) S.no_term)) }))) S.no_stat) })); end_word = 0; end_name = 13; period = 0 } }

pub modules_6 : checked (modules_6_0 ∷ []) ≡ Fault 0 30 37
modules_6 = refl

-- MODULE A; TYPE R* = RECORD x: INTEGER END; END A.
abbrev modules_7_0 : Parsed
modules_7_0 = record { source = record { bytes = (77 ∷ 79 ∷ 68 ∷ 85 ∷ 76 ∷ 69 ∷ 32 ∷ 65 ∷ 59 ∷ 32 ∷ 84 ∷ 89 ∷ 80 ∷ 69 ∷ 32 ∷ 82 ∷ 42 ∷ 32 ∷ 61 ∷ 32 ∷ 82 ∷ 69 ∷ 67 ∷ 79 ∷ 82 ∷ 68 ∷ 32 ∷ 120 ∷ 58 ∷ 32 ∷ 73 ∷ 78 ∷ 84 ∷ 69 ∷ 71 ∷ 69 ∷ 82 ∷ 32 ∷ 69 ∷ 78 ∷ 68 ∷ 59 ∷ 32 ∷ 69 ∷ 78 ∷ 68 ∷ 32 ∷ 65 ∷ 46 ∷ 10 ∷ []); symbols = (symbol (Ident) 0 6 ∷ symbol (Ident) 7 8 ∷ symbol (Ident) 8 9 ∷ symbol (Ident) 10 14 ∷ symbol (Ident) 15 16 ∷ symbol (Ident) 16 17 ∷ symbol (Ident) 18 19 ∷ symbol (Ident) 20 26 ∷ symbol (Ident) 27 28 ∷ symbol (Ident) 28 29 ∷ symbol (Ident) 30 37 ∷ symbol (Ident) 38 41 ∷ symbol (Ident) 41 42 ∷ symbol (Ident) 43 46 ∷ symbol (Ident) 47 48 ∷ symbol (Ident) 48 49 ∷ []) }; tree = record { module_word = 0; name = 1; semicolon = 0; imports = None; decls = (S.decls None (Some (record { type_word = 0; each = (record { name = (record { name = 4; star = Some 0 }); equal = 0; is = (S.Record 7 None (S.fields (record { first = (record { name = 8; star = None }); more = [] }) 0 (S.Named (record { name = 10; member = None }))) S.no_more_fields 0); semicolon = 0 } ∷ []) })) None S.no_procedure); body = None; end_word = 0; end_name = 14; period = 0 } }

-- MODULE B; IMPORT A; TYPE E* = RECORD (A.R) x: INTEGER END; END B.
abbrev modules_7_1 : Parsed
modules_7_1 = record { source = record { bytes = (77 ∷ 79 ∷ 68 ∷ 85 ∷ 76 ∷ 69 ∷ 32 ∷ 66 ∷ 59 ∷ 32 ∷ 73 ∷ 77 ∷ 80 ∷ 79 ∷ 82 ∷ 84 ∷ 32 ∷ 65 ∷ 59 ∷ 32 ∷ 84 ∷ 89 ∷ 80 ∷ 69 ∷ 32 ∷ 69 ∷ 42 ∷ 32 ∷ 61 ∷ 32 ∷ 82 ∷ 69 ∷ 67 ∷ 79 ∷ 82 ∷ 68 ∷ 32 ∷ 40 ∷ 65 ∷ 46 ∷ 82 ∷ 41 ∷ 32 ∷ 120 ∷ 58 ∷ 32 ∷ 73 ∷ 78 ∷ 84 ∷ 69 ∷ 71 ∷ 69 ∷ 82 ∷ 32 ∷ 69 ∷ 78 ∷ 68 ∷ 59 ∷ 32 ∷ 69 ∷ 78 ∷ 68 ∷ 32 ∷ 66 ∷ 46 ∷ []); symbols = (symbol (Ident) 0 6 ∷ symbol (Ident) 7 8 ∷ symbol (Ident) 8 9 ∷ symbol (Ident) 10 16 ∷ symbol (Ident) 17 18 ∷ symbol (Ident) 18 19 ∷ symbol (Ident) 20 24 ∷ symbol (Ident) 25 26 ∷ symbol (Ident) 26 27 ∷ symbol (Ident) 28 29 ∷ symbol (Ident) 30 36 ∷ symbol (Ident) 37 38 ∷ symbol (Ident) 38 39 ∷ symbol (Ident) 39 40 ∷ symbol (Ident) 40 41 ∷ symbol (Ident) 41 42 ∷ symbol (Ident) 43 44 ∷ symbol (Ident) 44 45 ∷ symbol (Ident) 46 53 ∷ symbol (Ident) 54 57 ∷ symbol (Ident) 57 58 ∷ symbol (Ident) 59 62 ∷ symbol (Ident) 63 64 ∷ symbol (Ident) 64 65 ∷ []) }; tree = record { module_word = 0; name = 1; semicolon = 0; imports = Some (record { import_word = 0; first = (record { name = 4; of = None }); more = []; semicolon = 0 }); decls = (S.decls None (Some (record { type_word = 0; each = (record { name = (record { name = 7; star = Some 0 }); equal = 0; is = (S.Record 10 (Some (record { left_paren = 0; name = (record { name = 12; member = Some (record { period = 0; name = 14 }) }); right_paren = 0 })) (S.fields (record { first = (record { name = 16; star = None }); more = [] }) 0 (S.Named (record { name = 18; member = None }))) S.no_more_fields 0); semicolon = 0 } ∷ []) })) None S.no_procedure); body = None; end_word = 0; end_name = 22; period = 0 } }

pub modules_7 : checked (modules_7_0 ∷ modules_7_1 ∷ []) ≡ Fault 1 36 43
modules_7 = refl

-- MODULE M; BEGIN i := 1 END M.
abbrev modules_8_0 : Parsed
modules_8_0 = record { source = record { bytes = (77 ∷ 79 ∷ 68 ∷ 85 ∷ 76 ∷ 69 ∷ 32 ∷ 77 ∷ 59 ∷ 32 ∷ 66 ∷ 69 ∷ 71 ∷ 73 ∷ 78 ∷ 10 ∷ 10 ∷ 32 ∷ 32 ∷ 105 ∷ 32 ∷ 58 ∷ 61 ∷ 32 ∷ 49 ∷ 10 ∷ 69 ∷ 78 ∷ 68 ∷ 32 ∷ 77 ∷ 46 ∷ []); symbols = (symbol (Ident) 0 6 ∷ symbol (Ident) 7 8 ∷ symbol (Ident) 8 9 ∷ symbol (Ident) 10 15 ∷ symbol (Ident) 19 20 ∷ symbol (Ident) 21 23 ∷ symbol (Int (pos 1)) 24 25 ∷ symbol (Ident) 26 29 ∷ symbol (Ident) 30 31 ∷ symbol (Ident) 31 32 ∷ []) }; tree = record { module_word = 0; name = 1; semicolon = 0; imports = None; decls = (S.decls None None None S.no_procedure); body = (Some (record { begin_word = 0; stats = (S.stats (S.AssignOrCall (record { name = 4; selectors = S.no_selector }) (Some (record { becomes = 0; value = (S.only (S.simple None (S.term (S.Int 6) S.no_factor) S.no_term)) }))) S.no_stat) })); end_word = 0; end_name = 8; period = 0 } }

pub modules_8 : checked (modules_8_0 ∷ []) ≡ Fault 0 30 19
modules_8 = refl

-- MODULE M; VAR i: INTEGER; PROCEDURE P; END P; PROCEDURE Q; END Q; END M.
abbrev modules_9_0 : Parsed
modules_9_0 = record { source = record { bytes = (77 ∷ 79 ∷ 68 ∷ 85 ∷ 76 ∷ 69 ∷ 32 ∷ 77 ∷ 59 ∷ 10 ∷ 10 ∷ 86 ∷ 65 ∷ 82 ∷ 32 ∷ 105 ∷ 58 ∷ 32 ∷ 73 ∷ 78 ∷ 84 ∷ 69 ∷ 71 ∷ 69 ∷ 82 ∷ 59 ∷ 10 ∷ 10 ∷ 80 ∷ 82 ∷ 79 ∷ 67 ∷ 69 ∷ 68 ∷ 85 ∷ 82 ∷ 69 ∷ 32 ∷ 80 ∷ 59 ∷ 10 ∷ 69 ∷ 78 ∷ 68 ∷ 32 ∷ 80 ∷ 59 ∷ 10 ∷ 10 ∷ 80 ∷ 82 ∷ 79 ∷ 67 ∷ 69 ∷ 68 ∷ 85 ∷ 82 ∷ 69 ∷ 10 ∷ 81 ∷ 59 ∷ 10 ∷ 69 ∷ 78 ∷ 68 ∷ 32 ∷ 81 ∷ 59 ∷ 10 ∷ 69 ∷ 78 ∷ 68 ∷ 32 ∷ 77 ∷ 46 ∷ []); symbols = (symbol (Ident) 0 6 ∷ symbol (Ident) 7 8 ∷ symbol (Ident) 8 9 ∷ symbol (Ident) 11 14 ∷ symbol (Ident) 15 16 ∷ symbol (Ident) 16 17 ∷ symbol (Ident) 18 25 ∷ symbol (Ident) 25 26 ∷ symbol (Ident) 28 37 ∷ symbol (Ident) 38 39 ∷ symbol (Ident) 39 40 ∷ symbol (Ident) 41 44 ∷ symbol (Ident) 45 46 ∷ symbol (Ident) 46 47 ∷ symbol (Ident) 49 58 ∷ symbol (Ident) 59 60 ∷ symbol (Ident) 60 61 ∷ symbol (Ident) 62 65 ∷ symbol (Ident) 66 67 ∷ symbol (Ident) 67 68 ∷ symbol (Ident) 69 72 ∷ symbol (Ident) 73 74 ∷ symbol (Ident) 74 75 ∷ []) }; tree = record { module_word = 0; name = 1; semicolon = 0; imports = None; decls = (S.decls None None (Some (record { var_word = 0; each = (record { names = (record { first = (record { name = 4; star = None }); more = [] }); colon = 0; of = (S.Named (record { name = 6; member = None })); semicolon = 0 } ∷ []) })) (S.procedure 0 (record { name = 9; star = None }) None 0 (S.decls None None None S.no_procedure) None None 11 12 0 (S.procedure 0 (record { name = 15; star = None }) None 0 (S.decls None None None S.no_procedure) None None 17 18 0 S.no_procedure))); body = None; end_word = 0; end_name = 21; period = 0 } }

pub modules_9 : checked (modules_9_0 ∷ []) ≡ Legal (record { records = []; pointers = []; modules = (record { name = (77 ∷ []); objects = (record { name = (105 ∷ []); exported = false; entity = I.OfVariable 0 } ∷ record { name = (80 ∷ []); exported = false; entity = I.OfProcedure 0 } ∷ record { name = (81 ∷ []); exported = false; entity = I.OfProcedure 1 } ∷ []); variables = (H.Integer ∷ []); body = 2 } ∷ []); procedures = (record { module_number = 0; line = 5; is_body = false; formals = []; result = H.Nothing; locals = []; texts = []; body = I.no_statement; answer = None } ∷ record { module_number = 0; line = 9; is_body = false; formals = []; result = H.Nothing; locals = []; texts = []; body = I.no_statement; answer = None } ∷ record { module_number = 0; line = 1; is_body = true; formals = []; result = H.Nothing; locals = []; texts = []; body = I.no_statement; answer = None } ∷ []); imports_in = false })
modules_9 = refl

-- MODULE M; IMPORT Out; CONST c = 1; PROCEDURE P*; PROCEDURE Q*; END Q; BEGIN Q END P; BEGIN P; Out.Ln END M.
abbrev modules_10_0 : Parsed
modules_10_0 = record { source = record { bytes = (77 ∷ 79 ∷ 68 ∷ 85 ∷ 76 ∷ 69 ∷ 32 ∷ 77 ∷ 59 ∷ 32 ∷ 73 ∷ 77 ∷ 80 ∷ 79 ∷ 82 ∷ 84 ∷ 32 ∷ 79 ∷ 117 ∷ 116 ∷ 59 ∷ 32 ∷ 67 ∷ 79 ∷ 78 ∷ 83 ∷ 84 ∷ 32 ∷ 99 ∷ 32 ∷ 61 ∷ 32 ∷ 49 ∷ 59 ∷ 32 ∷ 80 ∷ 82 ∷ 79 ∷ 67 ∷ 69 ∷ 68 ∷ 85 ∷ 82 ∷ 69 ∷ 32 ∷ 80 ∷ 42 ∷ 59 ∷ 32 ∷ 80 ∷ 82 ∷ 79 ∷ 67 ∷ 69 ∷ 68 ∷ 85 ∷ 82 ∷ 69 ∷ 32 ∷ 81 ∷ 42 ∷ 59 ∷ 32 ∷ 69 ∷ 78 ∷ 68 ∷ 32 ∷ 81 ∷ 59 ∷ 32 ∷ 66 ∷ 69 ∷ 71 ∷ 73 ∷ 78 ∷ 32 ∷ 81 ∷ 32 ∷ 69 ∷ 78 ∷ 68 ∷ 32 ∷ 80 ∷ 59 ∷ 32 ∷ 66 ∷ 69 ∷ 71 ∷ 73 ∷ 78 ∷ 32 ∷ 80 ∷ 59 ∷ 32 ∷ 79 ∷ 117 ∷ 116 ∷ 46 ∷ 76 ∷ 110 ∷ 32 ∷ 69 ∷ 78 ∷ 68 ∷ 32 ∷ 77 ∷ 46 ∷ []); symbols = (symbol (Ident) 0 6 ∷ symbol (Ident) 7 8 ∷ symbol (Ident) 8 9 ∷ symbol (Ident) 10 16 ∷ symbol (Ident) 17 20 ∷ symbol (Ident) 20 21 ∷ symbol (Ident) 22 27 ∷ symbol (Ident) 28 29 ∷ symbol (Ident) 30 31 ∷ symbol (Int (pos 1)) 32 33 ∷ symbol (Ident) 33 34 ∷ symbol (Ident) 35 44 ∷ symbol (Ident) 45 46 ∷ symbol (Ident) 46 47 ∷ symbol (Ident) 47 48 ∷ symbol (Ident) 49 58 ∷ symbol (Ident) 59 60 ∷ symbol (Ident) 60 61 ∷ symbol (Ident) 61 62 ∷ symbol (Ident) 63 66 ∷ symbol (Ident) 67 68 ∷ symbol (Ident) 68 69 ∷ symbol (Ident) 70 75 ∷ symbol (Ident) 76 77 ∷ symbol (Ident) 78 81 ∷ symbol (Ident) 82 83 ∷ symbol (Ident) 83 84 ∷ symbol (Ident) 85 90 ∷ symbol (Ident) 91 92 ∷ symbol (Ident) 92 93 ∷ symbol (Ident) 94 97 ∷ symbol (Ident) 97 98 ∷ symbol (Ident) 98 100 ∷ symbol (Ident) 101 104 ∷ symbol (Ident) 105 106 ∷ symbol (Ident) 106 107 ∷ []) }; tree = record { module_word = 0; name = 1; semicolon = 0; imports = Some (record { import_word = 0; first = (record { name = 4; of = None }); more = []; semicolon = 0 }); decls = (S.decls (Some (record { const_word = 0; each = (record { name = (record { name = 7; star = None }); equal = 0; value = (S.only (S.simple None (S.term (S.Int 9) S.no_factor) S.no_term)); semicolon = 0 } ∷ []) })) None None (S.procedure 0 (record { name = 12; star = Some 0 }) None 0 (S.decls None None None (S.procedure 0 (record { name = 16; star = Some 0 }) None 0 (S.decls None None None S.no_procedure) None None 19 20 0 S.no_procedure)) (Some (record { begin_word = 0; stats = (S.stats (S.AssignOrCall (record { name = 23; selectors = S.no_selector }) None) S.no_stat) })) None 24 25 0 S.no_procedure)); body = (Some (record { begin_word = 0; stats = (S.stats (S.AssignOrCall (record { name = 28; selectors = S.no_selector }) None) (S.next_stat 0 (S.AssignOrCall (record { name = 30; selectors = (S.selected (S.Field 0 32) S.no_selector) }) None) S.no_stat)) })); end_word = 0; end_name = 34; period = 0 } }

pub modules_10 : checked (modules_10_0 ∷ []) ≡ Legal (record { records = []; pointers = []; modules = (record { name = (77 ∷ []); objects = (record { name = (99 ∷ []); exported = false; entity = I.OfConstant (I.Bits H.Integer 1) } ∷ record { name = (80 ∷ []); exported = true; entity = I.OfProcedure 0 } ∷ []); variables = []; body = 2 } ∷ []); procedures = (record { module_number = 0; line = 1; is_body = false; formals = []; result = H.Nothing; locals = []; texts = []; body = (I.next_statement (I.Invoke (I.Direct 1 I.no_argument)) I.no_statement); answer = None } ∷ record { module_number = 0; line = 1; is_body = false; formals = []; result = H.Nothing; locals = []; texts = []; body = I.no_statement; answer = None } ∷ record { module_number = 0; line = 1; is_body = true; formals = []; result = H.Nothing; locals = []; texts = []; body = (I.next_statement (I.Invoke (I.Direct 0 I.no_argument)) (I.next_statement I.OutLn I.no_statement)); answer = None } ∷ []); imports_in = false })
modules_10 = refl

-- MODULE M; TYPE R = RECORD c: CHAR; i: INTEGER; d: CHAR END; E = RECORD (R) e: CHAR END; P = POINTER TO E; VAR a: ARRAY 9 OF CHAR; r: R; p: P; END M.
abbrev layouts_1_0 : Parsed
layouts_1_0 = record { source = record { bytes = (77 ∷ 79 ∷ 68 ∷ 85 ∷ 76 ∷ 69 ∷ 32 ∷ 77 ∷ 59 ∷ 32 ∷ 84 ∷ 89 ∷ 80 ∷ 69 ∷ 32 ∷ 82 ∷ 32 ∷ 61 ∷ 32 ∷ 82 ∷ 69 ∷ 67 ∷ 79 ∷ 82 ∷ 68 ∷ 32 ∷ 99 ∷ 58 ∷ 32 ∷ 67 ∷ 72 ∷ 65 ∷ 82 ∷ 59 ∷ 32 ∷ 105 ∷ 58 ∷ 32 ∷ 73 ∷ 78 ∷ 84 ∷ 69 ∷ 71 ∷ 69 ∷ 82 ∷ 59 ∷ 32 ∷ 100 ∷ 58 ∷ 32 ∷ 67 ∷ 72 ∷ 65 ∷ 82 ∷ 32 ∷ 69 ∷ 78 ∷ 68 ∷ 59 ∷ 32 ∷ 69 ∷ 32 ∷ 61 ∷ 32 ∷ 82 ∷ 69 ∷ 67 ∷ 79 ∷ 82 ∷ 68 ∷ 32 ∷ 40 ∷ 82 ∷ 41 ∷ 32 ∷ 101 ∷ 58 ∷ 32 ∷ 67 ∷ 72 ∷ 65 ∷ 82 ∷ 32 ∷ 69 ∷ 78 ∷ 68 ∷ 59 ∷ 32 ∷ 80 ∷ 32 ∷ 61 ∷ 32 ∷ 80 ∷ 79 ∷ 73 ∷ 78 ∷ 84 ∷ 69 ∷ 82 ∷ 32 ∷ 84 ∷ 79 ∷ 32 ∷ 69 ∷ 59 ∷ 32 ∷ 86 ∷ 65 ∷ 82 ∷ 32 ∷ 97 ∷ 58 ∷ 32 ∷ 65 ∷ 82 ∷ 82 ∷ 65 ∷ 89 ∷ 32 ∷ 57 ∷ 32 ∷ 79 ∷ 70 ∷ 32 ∷ 67 ∷ 72 ∷ 65 ∷ 82 ∷ 59 ∷ 32 ∷ 114 ∷ 58 ∷ 32 ∷ 82 ∷ 59 ∷ 32 ∷ 112 ∷ 58 ∷ 32 ∷ 80 ∷ 59 ∷ 32 ∷ 69 ∷ 78 ∷ 68 ∷ 32 ∷ 77 ∷ 46 ∷ []); symbols = (symbol (Ident) 0 6 ∷ symbol (Ident) 7 8 ∷ symbol (Ident) 8 9 ∷ symbol (Ident) 10 14 ∷ symbol (Ident) 15 16 ∷ symbol (Ident) 17 18 ∷ symbol (Ident) 19 25 ∷ symbol (Ident) 26 27 ∷ symbol (Ident) 27 28 ∷ symbol (Ident) 29 33 ∷ symbol (Ident) 33 34 ∷ symbol (Ident) 35 36 ∷ symbol (Ident) 36 37 ∷ symbol (Ident) 38 45 ∷ symbol (Ident) 45 46 ∷ symbol (Ident) 47 48 ∷ symbol (Ident) 48 49 ∷ symbol (Ident) 50 54 ∷ symbol (Ident) 55 58 ∷ symbol (Ident) 58 59 ∷ symbol (Ident) 60 61 ∷ symbol (Ident) 62 63 ∷ symbol (Ident) 64 70 ∷ symbol (Ident) 71 72 ∷ symbol (Ident) 72 73 ∷ symbol (Ident) 73 74 ∷ symbol (Ident) 75 76 ∷ symbol (Ident) 76 77 ∷ symbol (Ident) 78 82 ∷ symbol (Ident) 83 86 ∷ symbol (Ident) 86 87 ∷ symbol (Ident) 88 89 ∷ symbol (Ident) 90 91 ∷ symbol (Ident) 92 99 ∷ symbol (Ident) 100 102 ∷ symbol (Ident) 103 104 ∷ symbol (Ident) 104 105 ∷ symbol (Ident) 106 109 ∷ symbol (Ident) 110 111 ∷ symbol (Ident) 111 112 ∷ symbol (Ident) 113 118 ∷ symbol (Int (pos 9)) 119 120 ∷ symbol (Ident) 121 123 ∷ symbol (Ident) 124 128 ∷ symbol (Ident) 128 129 ∷ symbol (Ident) 130 131 ∷ symbol (Ident) 131 132 ∷ symbol (Ident) 133 134 ∷ symbol (Ident) 134 135 ∷ symbol (Ident) 136 137 ∷ symbol (Ident) 137 138 ∷ symbol (Ident) 139 140 ∷ symbol (Ident) 140 141 ∷ symbol (Ident) 142 145 ∷ symbol (Ident) 146 147 ∷ symbol (Ident) 147 148 ∷ []) }; tree = record { module_word = 0; name = 1; semicolon = 0; imports = None; decls = (S.decls None (Some (record { type_word = 0; each = (record { name = (record { name = 4; star = None }); equal = 0; is = (S.Record 6 None (S.fields (record { first = (record { name = 7; star = None }); more = [] }) 0 (S.Named (record { name = 9; member = None }))) (S.next_fields 0 (S.fields (record { first = (record { name = 11; star = None }); more = [] }) 0 (S.Named (record { name = 13; member = None }))) (S.next_fields 0 (S.fields (record { first = (record { name = 15; star = None }); more = [] }) 0 (S.Named (record { name = 17; member = None }))) S.no_more_fields)) 0); semicolon = 0 } ∷ record { name = (record { name = 20; star = None }); equal = 0; is = (S.Record 22 (Some (record { left_paren = 0; name = (record { name = 24; member = None }); right_paren = 0 })) (S.fields (record { first = (record { name = 26; star = None }); more = [] }) 0 (S.Named (record { name = 28; member = None }))) S.no_more_fields 0); semicolon = 0 } ∷ record { name = (record { name = 31; star = None }); equal = 0; is = (S.Pointer 33 0 (S.Named (record { name = 35; member = None }))); semicolon = 0 } ∷ []) })) (Some (record { var_word = 0; each = (record { names = (record { first = (record { name = 38; star = None }); more = [] }); colon = 0; of = (S.Array 40 (S.only (S.simple None (S.term (S.Int 41) S.no_factor) S.no_term)) S.no_expression 0 (S.Named (record { name = 43; member = None }))); semicolon = 0 } ∷ record { names = (record { first = (record { name = 45; star = None }); more = [] }); colon = 0; of = (S.Named (record { name = 47; member = None })); semicolon = 0 } ∷ record { names = (record { first = (record { name = 49; star = None }); more = [] }); colon = 0; of = (S.Named (record { name = 51; member = None })); semicolon = 0 } ∷ []) })) S.no_procedure); body = None; end_word = 0; end_name = 54; period = 0 } }

pub layouts_1 : checked (layouts_1_0 ∷ []) ≡ Legal (record { records = (record { module_number = 0; base = None; level = 0; fields = (record { name = (99 ∷ []); exported = false; shape = H.Char } ∷ record { name = (105 ∷ []); exported = false; shape = H.Integer } ∷ record { name = (100 ∷ []); exported = false; shape = H.Char } ∷ []); cells = 3; extent = record { bytes = 24; wide = true } } ∷ record { module_number = 0; base = (Some 0); level = 1; fields = (record { name = (101 ∷ []); exported = false; shape = H.Char } ∷ []); cells = 4; extent = record { bytes = 32; wide = true } } ∷ []); pointers = (Some 1 ∷ []); modules = (record { name = (77 ∷ []); objects = (record { name = (82 ∷ []); exported = false; entity = I.OfType (H.Record 0) } ∷ record { name = (69 ∷ []); exported = false; entity = I.OfType (H.Record 1) } ∷ record { name = (80 ∷ []); exported = false; entity = I.OfType (H.Pointer 0) } ∷ record { name = (97 ∷ []); exported = false; entity = I.OfVariable 0 } ∷ record { name = (114 ∷ []); exported = false; entity = I.OfVariable 1 } ∷ record { name = (112 ∷ []); exported = false; entity = I.OfVariable 2 } ∷ []); variables = ((H.Array 9 H.Char) ∷ (H.Record 0) ∷ (H.Pointer 0) ∷ []); body = 0 } ∷ []); procedures = (record { module_number = 0; line = 1; is_body = true; formals = []; result = H.Nothing; locals = []; texts = []; body = I.no_statement; answer = None } ∷ []); imports_in = false })
layouts_1 = refl

-- MODULE M; VAR a: ARRAY 3 OF RECORD b: BOOLEAN; c: CHAR END; END M.
abbrev layouts_2_0 : Parsed
layouts_2_0 = record { source = record { bytes = (77 ∷ 79 ∷ 68 ∷ 85 ∷ 76 ∷ 69 ∷ 32 ∷ 77 ∷ 59 ∷ 32 ∷ 86 ∷ 65 ∷ 82 ∷ 32 ∷ 97 ∷ 58 ∷ 32 ∷ 65 ∷ 82 ∷ 82 ∷ 65 ∷ 89 ∷ 32 ∷ 51 ∷ 32 ∷ 79 ∷ 70 ∷ 32 ∷ 82 ∷ 69 ∷ 67 ∷ 79 ∷ 82 ∷ 68 ∷ 32 ∷ 98 ∷ 58 ∷ 32 ∷ 66 ∷ 79 ∷ 79 ∷ 76 ∷ 69 ∷ 65 ∷ 78 ∷ 59 ∷ 32 ∷ 99 ∷ 58 ∷ 32 ∷ 67 ∷ 72 ∷ 65 ∷ 82 ∷ 32 ∷ 69 ∷ 78 ∷ 68 ∷ 59 ∷ 32 ∷ 69 ∷ 78 ∷ 68 ∷ 32 ∷ 77 ∷ 46 ∷ []); symbols = (symbol (Ident) 0 6 ∷ symbol (Ident) 7 8 ∷ symbol (Ident) 8 9 ∷ symbol (Ident) 10 13 ∷ symbol (Ident) 14 15 ∷ symbol (Ident) 15 16 ∷ symbol (Ident) 17 22 ∷ symbol (Int (pos 3)) 23 24 ∷ symbol (Ident) 25 27 ∷ symbol (Ident) 28 34 ∷ symbol (Ident) 35 36 ∷ symbol (Ident) 36 37 ∷ symbol (Ident) 38 45 ∷ symbol (Ident) 45 46 ∷ symbol (Ident) 47 48 ∷ symbol (Ident) 48 49 ∷ symbol (Ident) 50 54 ∷ symbol (Ident) 55 58 ∷ symbol (Ident) 58 59 ∷ symbol (Ident) 60 63 ∷ symbol (Ident) 64 65 ∷ symbol (Ident) 65 66 ∷ []) }; tree = record { module_word = 0; name = 1; semicolon = 0; imports = None; decls = (S.decls None None (Some (record { var_word = 0; each = (record { names = (record { first = (record { name = 4; star = None }); more = [] }); colon = 0; of = (S.Array 6 (S.only (S.simple None (S.term (S.Int 7) S.no_factor) S.no_term)) S.no_expression 0 (S.Record 9 None (S.fields (record { first = (record { name = 10; star = None }); more = [] }) 0 (S.Named (record { name = 12; member = None }))) (S.next_fields 0 (S.fields (record { first = (record { name = 14; star = None }); more = [] }) 0 (S.Named (record { name = 16; member = None }))) S.no_more_fields) 0)); semicolon = 0 } ∷ []) })) S.no_procedure); body = None; end_word = 0; end_name = 20; period = 0 } }

pub layouts_2 : checked (layouts_2_0 ∷ []) ≡ Legal (record { records = (record { module_number = 0; base = None; level = 0; fields = (record { name = (98 ∷ []); exported = false; shape = H.Boolean } ∷ record { name = (99 ∷ []); exported = false; shape = H.Char } ∷ []); cells = 2; extent = record { bytes = 2; wide = false } } ∷ []); pointers = []; modules = (record { name = (77 ∷ []); objects = (record { name = (97 ∷ []); exported = false; entity = I.OfVariable 0 } ∷ []); variables = ((H.Array 3 (H.Record 0)) ∷ []); body = 0 } ∷ []); procedures = (record { module_number = 0; line = 1; is_body = true; formals = []; result = H.Nothing; locals = []; texts = []; body = I.no_statement; answer = None } ∷ []); imports_in = false })
layouts_2 = refl

-- MODULE M; TYPE T = RECORD x, y, z: BYTE END; VAR a: ARRAY 2, 5 OF T; r: RECORD t: ARRAY 2, 5 OF T; i: INTEGER; n: RECORD t: T END END; END M.
abbrev layouts_3_0 : Parsed
layouts_3_0 = record { source = record { bytes = (77 ∷ 79 ∷ 68 ∷ 85 ∷ 76 ∷ 69 ∷ 32 ∷ 77 ∷ 59 ∷ 32 ∷ 84 ∷ 89 ∷ 80 ∷ 69 ∷ 32 ∷ 84 ∷ 32 ∷ 61 ∷ 32 ∷ 82 ∷ 69 ∷ 67 ∷ 79 ∷ 82 ∷ 68 ∷ 32 ∷ 120 ∷ 44 ∷ 32 ∷ 121 ∷ 44 ∷ 32 ∷ 122 ∷ 58 ∷ 32 ∷ 66 ∷ 89 ∷ 84 ∷ 69 ∷ 32 ∷ 69 ∷ 78 ∷ 68 ∷ 59 ∷ 32 ∷ 86 ∷ 65 ∷ 82 ∷ 32 ∷ 97 ∷ 58 ∷ 32 ∷ 65 ∷ 82 ∷ 82 ∷ 65 ∷ 89 ∷ 32 ∷ 50 ∷ 44 ∷ 32 ∷ 53 ∷ 32 ∷ 79 ∷ 70 ∷ 32 ∷ 84 ∷ 59 ∷ 32 ∷ 114 ∷ 58 ∷ 32 ∷ 82 ∷ 69 ∷ 67 ∷ 79 ∷ 82 ∷ 68 ∷ 32 ∷ 116 ∷ 58 ∷ 32 ∷ 65 ∷ 82 ∷ 82 ∷ 65 ∷ 89 ∷ 32 ∷ 50 ∷ 44 ∷ 32 ∷ 53 ∷ 32 ∷ 79 ∷ 70 ∷ 32 ∷ 84 ∷ 59 ∷ 32 ∷ 105 ∷ 58 ∷ 32 ∷ 73 ∷ 78 ∷ 84 ∷ 69 ∷ 71 ∷ 69 ∷ 82 ∷ 59 ∷ 32 ∷ 110 ∷ 58 ∷ 32 ∷ 82 ∷ 69 ∷ 67 ∷ 79 ∷ 82 ∷ 68 ∷ 32 ∷ 116 ∷ 58 ∷ 32 ∷ 84 ∷ 32 ∷ 69 ∷ 78 ∷ 68 ∷ 32 ∷ 69 ∷ 78 ∷ 68 ∷ 59 ∷ 32 ∷ 69 ∷ 78 ∷ 68 ∷ 32 ∷ 77 ∷ 46 ∷ []); symbols = (symbol (Ident) 0 6 ∷ symbol (Ident) 7 8 ∷ symbol (Ident) 8 9 ∷ symbol (Ident) 10 14 ∷ symbol (Ident) 15 16 ∷ symbol (Ident) 17 18 ∷ symbol (Ident) 19 25 ∷ symbol (Ident) 26 27 ∷ symbol (Ident) 27 28 ∷ symbol (Ident) 29 30 ∷ symbol (Ident) 30 31 ∷ symbol (Ident) 32 33 ∷ symbol (Ident) 33 34 ∷ symbol (Ident) 35 39 ∷ symbol (Ident) 40 43 ∷ symbol (Ident) 43 44 ∷ symbol (Ident) 45 48 ∷ symbol (Ident) 49 50 ∷ symbol (Ident) 50 51 ∷ symbol (Ident) 52 57 ∷ symbol (Int (pos 2)) 58 59 ∷ symbol (Ident) 59 60 ∷ symbol (Int (pos 5)) 61 62 ∷ symbol (Ident) 63 65 ∷ symbol (Ident) 66 67 ∷ symbol (Ident) 67 68 ∷ symbol (Ident) 69 70 ∷ symbol (Ident) 70 71 ∷ symbol (Ident) 72 78 ∷ symbol (Ident) 79 80 ∷ symbol (Ident) 80 81 ∷ symbol (Ident) 82 87 ∷ symbol (Int (pos 2)) 88 89 ∷ symbol (Ident) 89 90 ∷ symbol (Int (pos 5)) 91 92 ∷ symbol (Ident) 93 95 ∷ symbol (Ident) 96 97 ∷ symbol (Ident) 97 98 ∷ symbol (Ident) 99 100 ∷ symbol (Ident) 100 101 ∷ symbol (Ident) 102 109 ∷ symbol (Ident) 109 110 ∷ symbol (Ident) 111 112 ∷ symbol (Ident) 112 113 ∷ symbol (Ident) 114 120 ∷ symbol (Ident) 121 122 ∷ symbol (Ident) 122 123 ∷ symbol (Ident) 124 125 ∷ symbol (Ident) 126 129 ∷ symbol (Ident) 130 133 ∷ symbol (Ident) 133 134 ∷ symbol (Ident) 135 138 ∷ symbol (Ident) 139 140 ∷ symbol (Ident) 140 141 ∷ []) }; tree = record { module_word = 0; name = 1; semicolon = 0; imports = None; decls = (S.decls None (Some (record { type_word = 0; each = (record { name = (record { name = 4; star = None }); equal = 0; is = (S.Record 6 None (S.fields (record { first = (record { name = 7; star = None }); more = (record { comma = 0; name = (record { name = 9; star = None }) } ∷ record { comma = 0; name = (record { name = 11; star = None }) } ∷ []) }) 0 (S.Named (record { name = 13; member = None }))) S.no_more_fields 0); semicolon = 0 } ∷ []) })) (Some (record { var_word = 0; each = (record { names = (record { first = (record { name = 17; star = None }); more = [] }); colon = 0; of = (S.Array 19 (S.only (S.simple None (S.term (S.Int 20) S.no_factor) S.no_term)) (S.next_expression 0 (S.only (S.simple None (S.term (S.Int 22) S.no_factor) S.no_term)) S.no_expression) 0 (S.Named (record { name = 24; member = None }))); semicolon = 0 } ∷ record { names = (record { first = (record { name = 26; star = None }); more = [] }); colon = 0; of = (S.Record 28 None (S.fields (record { first = (record { name = 29; star = None }); more = [] }) 0 (S.Array 31 (S.only (S.simple None (S.term (S.Int 32) S.no_factor) S.no_term)) (S.next_expression 0 (S.only (S.simple None (S.term (S.Int 34) S.no_factor) S.no_term)) S.no_expression) 0 (S.Named (record { name = 36; member = None })))) (S.next_fields 0 (S.fields (record { first = (record { name = 38; star = None }); more = [] }) 0 (S.Named (record { name = 40; member = None }))) (S.next_fields 0 (S.fields (record { first = (record { name = 42; star = None }); more = [] }) 0 (S.Record 44 None (S.fields (record { first = (record { name = 45; star = None }); more = [] }) 0 (S.Named (record { name = 47; member = None }))) S.no_more_fields 0)) S.no_more_fields)) 0); semicolon = 0 } ∷ []) })) S.no_procedure); body = None; end_word = 0; end_name = 52; period = 0 } }

pub layouts_3 : checked (layouts_3_0 ∷ []) ≡ Legal (record { records = (record { module_number = 0; base = None; level = 0; fields = (record { name = (120 ∷ []); exported = false; shape = H.Byte } ∷ record { name = (121 ∷ []); exported = false; shape = H.Byte } ∷ record { name = (122 ∷ []); exported = false; shape = H.Byte } ∷ []); cells = 3; extent = record { bytes = 3; wide = false } } ∷ record { module_number = 0; base = None; level = 0; fields = (record { name = (116 ∷ []); exported = false; shape = (H.Array 2 (H.Array 5 (H.Record 0))) } ∷ record { name = (105 ∷ []); exported = false; shape = H.Integer } ∷ record { name = (110 ∷ []); exported = false; shape = (H.Record 2) } ∷ []); cells = 34; extent = record { bytes = 48; wide = true } } ∷ record { module_number = 0; base = None; level = 0; fields = (record { name = (116 ∷ []); exported = false; shape = (H.Record 0) } ∷ []); cells = 3; extent = record { bytes = 3; wide = false } } ∷ []); pointers = []; modules = (record { name = (77 ∷ []); objects = (record { name = (84 ∷ []); exported = false; entity = I.OfType (H.Record 0) } ∷ record { name = (97 ∷ []); exported = false; entity = I.OfVariable 0 } ∷ record { name = (114 ∷ []); exported = false; entity = I.OfVariable 1 } ∷ []); variables = ((H.Array 2 (H.Array 5 (H.Record 0))) ∷ (H.Record 1) ∷ []); body = 0 } ∷ []); procedures = (record { module_number = 0; line = 1; is_body = true; formals = []; result = H.Nothing; locals = []; texts = []; body = I.no_statement; answer = None } ∷ []); imports_in = false })
layouts_3 = refl
