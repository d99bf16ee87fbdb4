-- Small modules, and what the judgement says of them. Written by bench/judged_rows.py from their texts.
use Rattle.std.specs.Prelude.{◌≡◌, ℕ, [], ◌∷◌, true, false, Some, None, pos, negsuc}
use Rattle.std.proofs.Common.{refl}
use Rattle.ob_symbol.specs.declared.symbol.Symbol.{Symbol}
use Rattle.ob_symbol.specs.declared.symbol.Kind.{Kind}
use Rattle.ob_symbol.specs.declared.symbol.Kind.TheVariants.{Int, Ident}
use Rattle.ob_symbol.specs.declared.symbol.Kind.TheVariants as TheKind
use Rattle.ob_syntax.specs.Syntax as S
use Rattle.ob_syntax.specs.declared.expressions.Relation.TheVariants as TheRelation
use Rattle.ob_syntax.specs.declared.expressions.Sign.TheVariants as TheSign
use Rattle.ob_syntax.specs.declared.expressions.AddOperator.TheVariants as TheAddOperator
use Rattle.ob_syntax.specs.declared.expressions.MulOperator.TheVariants as TheMulOperator
use Rattle.ob_syntax.specs.declared.statements.Label.TheVariants as TheLabel
use Rattle.ob_types.specs.declared.types.Mode.TheVariants as TheMode
use Rattle.ob_types.specs.declared.tree.Relation.TheVariants as TheComparison
use Rattle.ob_types.specs.declared.statements.Label.TheVariants as TheLabelOf
use Rattle.ob_judge.specs.Shapes as H
use Rattle.ob_judge.specs.Image as I
use Rattle.ob_judge.specs.Modules.{Parsed, Legal, Fault, checked}

abbrev symbol : Kind → ℕ → ℕ → Symbol
symbol kind from to = record { kind = kind; from = from; to = to }

-- MODULE A; TYPE R* = RECORD x*: INTEGER END; VAR p*: POINTER TO R; r*: R; a*: ARRAY 2 OF R; END A.
abbrev choice_others_1_0 : Parsed
choice_others_1_0 = record { source = record { bytes = (77 ∷ 79 ∷ 68 ∷ 85 ∷ 76 ∷ 69 ∷ 32 ∷ 65 ∷ 59 ∷ 32 ∷ 84 ∷ 89 ∷ 80 ∷ 69 ∷ 32 ∷ 82 ∷ 42 ∷ 32 ∷ 61 ∷ 32 ∷ 82 ∷ 69 ∷ 67 ∷ 79 ∷ 82 ∷ 68 ∷ 32 ∷ 120 ∷ 42 ∷ 58 ∷ 32 ∷ 73 ∷ 78 ∷ 84 ∷ 69 ∷ 71 ∷ 69 ∷ 82 ∷ 32 ∷ 69 ∷ 78 ∷ 68 ∷ 59 ∷ 32 ∷ 86 ∷ 65 ∷ 82 ∷ 32 ∷ 112 ∷ 42 ∷ 58 ∷ 32 ∷ 80 ∷ 79 ∷ 73 ∷ 78 ∷ 84 ∷ 69 ∷ 82 ∷ 32 ∷ 84 ∷ 79 ∷ 32 ∷ 82 ∷ 59 ∷ 32 ∷ 114 ∷ 42 ∷ 58 ∷ 32 ∷ 82 ∷ 59 ∷ 32 ∷ 97 ∷ 42 ∷ 58 ∷ 32 ∷ 65 ∷ 82 ∷ 82 ∷ 65 ∷ 89 ∷ 32 ∷ 50 ∷ 32 ∷ 79 ∷ 70 ∷ 32 ∷ 82 ∷ 59 ∷ 32 ∷ 69 ∷ 78 ∷ 68 ∷ 32 ∷ 65 ∷ 46 ∷ 10 ∷ []); symbols = (symbol (Ident) 0 6 ∷ symbol (Ident) 7 8 ∷ symbol (Ident) 8 9 ∷ symbol (Ident) 10 14 ∷ symbol (Ident) 15 16 ∷ symbol (Ident) 16 17 ∷ symbol (Ident) 18 19 ∷ symbol (Ident) 20 26 ∷ symbol (Ident) 27 28 ∷ symbol (Ident) 28 29 ∷ symbol (Ident) 29 30 ∷ symbol (Ident) 31 38 ∷ symbol (Ident) 39 42 ∷ symbol (Ident) 42 43 ∷ symbol (Ident) 44 47 ∷ symbol (Ident) 48 49 ∷ symbol (Ident) 49 50 ∷ symbol (Ident) 50 51 ∷ symbol (Ident) 52 59 ∷ symbol (Ident) 60 62 ∷ symbol (Ident) 63 64 ∷ symbol (Ident) 64 65 ∷ symbol (Ident) 66 67 ∷ symbol (Ident) 67 68 ∷ symbol (Ident) 68 69 ∷ symbol (Ident) 70 71 ∷ symbol (Ident) 71 72 ∷ symbol (Ident) 73 74 ∷ symbol (Ident) 74 75 ∷ symbol (Ident) 75 76 ∷ symbol (Ident) 77 82 ∷ symbol (Int (pos 2)) 83 84 ∷ symbol (Ident) 85 87 ∷ symbol (Ident) 88 89 ∷ symbol (Ident) 89 90 ∷ symbol (Ident) 91 94 ∷ symbol (Ident) 95 96 ∷ symbol (Ident) 96 97 ∷ []) }; tree = record { module_word = 0; name = 1; semicolon = 0; imports = None; decls = (S.decls None (Some (record { type_word = 0; each = (record { name = (record { name = 4; star = Some 0 }); equal = 0; is = (S.Record 7 None (S.fields (record { first = (record { name = 8; star = Some 0 }); more = [] }) 0 (S.Named (record { name = 11; member = None }))) S.no_more_fields 0); semicolon = 0 } ∷ []) })) (Some (record { var_word = 0; each = (record { names = (record { first = (record { name = 15; star = Some 0 }); more = [] }); colon = 0; of = (S.Pointer 18 0 (S.Named (record { name = 20; member = None }))); semicolon = 0 } ∷ record { names = (record { first = (record { name = 22; star = Some 0 }); more = [] }); colon = 0; of = (S.Named (record { name = 25; member = None })); semicolon = 0 } ∷ record { names = (record { first = (record { name = 27; star = Some 0 }); more = [] }); colon = 0; of = (S.Array 30 (S.only (S.simple None (S.term (S.Int 31) S.no_factor) S.no_term)) S.no_expression 0 (S.Named (record { name = 33; member = None }))); semicolon = 0 } ∷ []) })) S.no_procedure); body = None; end_word = 0; end_name = 36; period = 0 } }

-- MODULE M; IMPORT A; BEGIN A.a[1].x := 1 END M.
abbrev choice_others_1_1 : Parsed
choice_others_1_1 = record { source = record { bytes = (77 ∷ 79 ∷ 68 ∷ 85 ∷ 76 ∷ 69 ∷ 32 ∷ 77 ∷ 59 ∷ 32 ∷ 73 ∷ 77 ∷ 80 ∷ 79 ∷ 82 ∷ 84 ∷ 32 ∷ 65 ∷ 59 ∷ 32 ∷ 66 ∷ 69 ∷ 71 ∷ 73 ∷ 78 ∷ 32 ∷ 65 ∷ 46 ∷ 97 ∷ 91 ∷ 49 ∷ 93 ∷ 46 ∷ 120 ∷ 32 ∷ 58 ∷ 61 ∷ 32 ∷ 49 ∷ 32 ∷ 69 ∷ 78 ∷ 68 ∷ 32 ∷ 77 ∷ 46 ∷ []); symbols = (symbol (Ident) 0 6 ∷ symbol (Ident) 7 8 ∷ symbol (Ident) 8 9 ∷ symbol (Ident) 10 16 ∷ symbol (Ident) 17 18 ∷ symbol (Ident) 18 19 ∷ symbol (Ident) 20 25 ∷ symbol (Ident) 26 27 ∷ symbol (Ident) 27 28 ∷ symbol (Ident) 28 29 ∷ symbol (Ident) 29 30 ∷ symbol (Int (pos 1)) 30 31 ∷ symbol (Ident) 31 32 ∷ symbol (Ident) 32 33 ∷ symbol (Ident) 33 34 ∷ symbol (Ident) 35 37 ∷ symbol (Int (pos 1)) 38 39 ∷ symbol (Ident) 40 43 ∷ symbol (Ident) 44 45 ∷ symbol (Ident) 45 46 ∷ []) }; tree = record { module_word = 0; name = 1; semicolon = 0; imports = Some (record { import_word = 0; first = (record { name = 4; of = None }); more = []; semicolon = 0 }); decls = (S.decls None None None S.no_procedure); body = (Some (record { begin_word = 0; stats = (S.stats (S.AssignOrCall (record { name = 7; selectors = (S.selected (S.Field 0 9) (S.selected (S.Index 0 (S.expressions (S.only (S.simple None (S.term (S.Int 11) S.no_factor) S.no_term)) S.no_expression) 0) (S.selected (S.Field 0 14) S.no_selector))) }) (Some (record { becomes = 0; value = (S.only (S.simple None (S.term (S.Int 16) S.no_factor) S.no_term)) }))) S.no_stat) })); end_word = 0; end_name = 18; period = 0 } }

pub choice_others_1 : checked (choice_others_1_0 ∷ choice_others_1_1 ∷ []) ≡ Fault 1 33 26
choice_others_1 = refl

-- MODULE A; TYPE R* = RECORD x*: INTEGER END; VAR p*: POINTER TO R; r*: R; a*: ARRAY 2 OF R; END A.
abbrev choice_others_2_0 : Parsed
choice_others_2_0 = record { source = record { bytes = (77 ∷ 79 ∷ 68 ∷ 85 ∷ 76 ∷ 69 ∷ 32 ∷ 65 ∷ 59 ∷ 32 ∷ 84 ∷ 89 ∷ 80 ∷ 69 ∷ 32 ∷ 82 ∷ 42 ∷ 32 ∷ 61 ∷ 32 ∷ 82 ∷ 69 ∷ 67 ∷ 79 ∷ 82 ∷ 68 ∷ 32 ∷ 120 ∷ 42 ∷ 58 ∷ 32 ∷ 73 ∷ 78 ∷ 84 ∷ 69 ∷ 71 ∷ 69 ∷ 82 ∷ 32 ∷ 69 ∷ 78 ∷ 68 ∷ 59 ∷ 32 ∷ 86 ∷ 65 ∷ 82 ∷ 32 ∷ 112 ∷ 42 ∷ 58 ∷ 32 ∷ 80 ∷ 79 ∷ 73 ∷ 78 ∷ 84 ∷ 69 ∷ 82 ∷ 32 ∷ 84 ∷ 79 ∷ 32 ∷ 82 ∷ 59 ∷ 32 ∷ 114 ∷ 42 ∷ 58 ∷ 32 ∷ 82 ∷ 59 ∷ 32 ∷ 97 ∷ 42 ∷ 58 ∷ 32 ∷ 65 ∷ 82 ∷ 82 ∷ 65 ∷ 89 ∷ 32 ∷ 50 ∷ 32 ∷ 79 ∷ 70 ∷ 32 ∷ 82 ∷ 59 ∷ 32 ∷ 69 ∷ 78 ∷ 68 ∷ 32 ∷ 65 ∷ 46 ∷ 10 ∷ []); symbols = (symbol (Ident) 0 6 ∷ symbol (Ident) 7 8 ∷ symbol (Ident) 8 9 ∷ symbol (Ident) 10 14 ∷ symbol (Ident) 15 16 ∷ symbol (Ident) 16 17 ∷ symbol (Ident) 18 19 ∷ symbol (Ident) 20 26 ∷ symbol (Ident) 27 28 ∷ symbol (Ident) 28 29 ∷ symbol (Ident) 29 30 ∷ symbol (Ident) 31 38 ∷ symbol (Ident) 39 42 ∷ symbol (Ident) 42 43 ∷ symbol (Ident) 44 47 ∷ symbol (Ident) 48 49 ∷ symbol (Ident) 49 50 ∷ symbol (Ident) 50 51 ∷ symbol (Ident) 52 59 ∷ symbol (Ident) 60 62 ∷ symbol (Ident) 63 64 ∷ symbol (Ident) 64 65 ∷ symbol (Ident) 66 67 ∷ symbol (Ident) 67 68 ∷ symbol (Ident) 68 69 ∷ symbol (Ident) 70 71 ∷ symbol (Ident) 71 72 ∷ symbol (Ident) 73 74 ∷ symbol (Ident) 74 75 ∷ symbol (Ident) 75 76 ∷ symbol (Ident) 77 82 ∷ symbol (Int (pos 2)) 83 84 ∷ symbol (Ident) 85 87 ∷ symbol (Ident) 88 89 ∷ symbol (Ident) 89 90 ∷ symbol (Ident) 91 94 ∷ symbol (Ident) 95 96 ∷ symbol (Ident) 96 97 ∷ []) }; tree = record { module_word = 0; name = 1; semicolon = 0; imports = None; decls = (S.decls None (Some (record { type_word = 0; each = (record { name = (record { name = 4; star = Some 0 }); equal = 0; is = (S.Record 7 None (S.fields (record { first = (record { name = 8; star = Some 0 }); more = [] }) 0 (S.Named (record { name = 11; member = None }))) S.no_more_fields 0); semicolon = 0 } ∷ []) })) (Some (record { var_word = 0; each = (record { names = (record { first = (record { name = 15; star = Some 0 }); more = [] }); colon = 0; of = (S.Pointer 18 0 (S.Named (record { name = 20; member = None }))); semicolon = 0 } ∷ record { names = (record { first = (record { name = 22; star = Some 0 }); more = [] }); colon = 0; of = (S.Named (record { name = 25; member = None })); semicolon = 0 } ∷ record { names = (record { first = (record { name = 27; star = Some 0 }); more = [] }); colon = 0; of = (S.Array 30 (S.only (S.simple None (S.term (S.Int 31) S.no_factor) S.no_term)) S.no_expression 0 (S.Named (record { name = 33; member = None }))); semicolon = 0 } ∷ []) })) S.no_procedure); body = None; end_word = 0; end_name = 36; period = 0 } }

-- MODULE M; IMPORT A; PROCEDURE V(VAR i: INTEGER); END V; BEGIN V(A.r.x) END M.
abbrev choice_others_2_1 : Parsed
choice_others_2_1 = record { source = record { bytes = (77 ∷ 79 ∷ 68 ∷ 85 ∷ 76 ∷ 69 ∷ 32 ∷ 77 ∷ 59 ∷ 32 ∷ 73 ∷ 77 ∷ 80 ∷ 79 ∷ 82 ∷ 84 ∷ 32 ∷ 65 ∷ 59 ∷ 32 ∷ 80 ∷ 82 ∷ 79 ∷ 67 ∷ 69 ∷ 68 ∷ 85 ∷ 82 ∷ 69 ∷ 32 ∷ 86 ∷ 40 ∷ 86 ∷ 65 ∷ 82 ∷ 32 ∷ 105 ∷ 58 ∷ 32 ∷ 73 ∷ 78 ∷ 84 ∷ 69 ∷ 71 ∷ 69 ∷ 82 ∷ 41 ∷ 59 ∷ 32 ∷ 69 ∷ 78 ∷ 68 ∷ 32 ∷ 86 ∷ 59 ∷ 32 ∷ 66 ∷ 69 ∷ 71 ∷ 73 ∷ 78 ∷ 32 ∷ 86 ∷ 40 ∷ 65 ∷ 46 ∷ 114 ∷ 46 ∷ 120 ∷ 41 ∷ 32 ∷ 69 ∷ 78 ∷ 68 ∷ 32 ∷ 77 ∷ 46 ∷ []); symbols = (symbol (Ident) 0 6 ∷ symbol (Ident) 7 8 ∷ symbol (Ident) 8 9 ∷ symbol (Ident) 10 16 ∷ symbol (Ident) 17 18 ∷ symbol (Ident) 18 19 ∷ symbol (Ident) 20 29 ∷ symbol (Ident) 30 31 ∷ symbol (Ident) 31 32 ∷ symbol (Ident) 32 35 ∷ symbol (Ident) 36 37 ∷ symbol (Ident) 37 38 ∷ symbol (Ident) 39 46 ∷ symbol (Ident) 46 47 ∷ symbol (Ident) 47 48 ∷ symbol (Ident) 49 52 ∷ symbol (Ident) 53 54 ∷ symbol (Ident) 54 55 ∷ symbol (Ident) 56 61 ∷ symbol (Ident) 62 63 ∷ symbol (Ident) 63 64 ∷ symbol (Ident) 64 65 ∷ symbol (Ident) 65 66 ∷ symbol (Ident) 66 67 ∷ symbol (Ident) 67 68 ∷ symbol (Ident) 68 69 ∷ symbol (Ident) 69 70 ∷ symbol (Ident) 71 74 ∷ symbol (Ident) 75 76 ∷ symbol (Ident) 76 77 ∷ []) }; tree = record { module_word = 0; name = 1; semicolon = 0; imports = Some (record { import_word = 0; first = (record { name = 4; of = None }); more = []; semicolon = 0 }); decls = (S.decls None None None (S.procedure 0 (record { name = 7; star = None }) (Some (record { left_paren = 0; sections = Some (record { first = (record { var_word = Some 0; first = 10; more = []; colon = 0; open_array = None; of = (record { name = 12; member = None }) }); more = [] }); right_paren = 0; result = None })) 0 (S.decls None None None S.no_procedure) None None 15 16 0 S.no_procedure)); body = (Some (record { begin_word = 0; stats = (S.stats (S.AssignOrCall (record { name = 19; selectors = (S.selected (S.Parens 0 (S.expressions (S.only (S.simple None (S.term (S.Designated 21 (S.selected (S.Field 0 23) (S.selected (S.Field 0 25) S.no_selector))) S.no_factor) S.no_term)) S.no_expression) 0) S.no_selector) }) None) S.no_stat) })); end_word = 0; end_name = 28; period = 0 } }

pub choice_others_2 : checked (choice_others_2_0 ∷ choice_others_2_1 ∷ []) ≡ Fault 1 33 64
choice_others_2 = refl

-- MODULE A; TYPE R* = RECORD x*: INTEGER END; VAR p*: POINTER TO R; r*: R; a*: ARRAY 2 OF R; END A.
abbrev choice_others_3_0 : Parsed
choice_others_3_0 = record { source = record { bytes = (77 ∷ 79 ∷ 68 ∷ 85 ∷ 76 ∷ 69 ∷ 32 ∷ 65 ∷ 59 ∷ 32 ∷ 84 ∷ 89 ∷ 80 ∷ 69 ∷ 32 ∷ 82 ∷ 42 ∷ 32 ∷ 61 ∷ 32 ∷ 82 ∷ 69 ∷ 67 ∷ 79 ∷ 82 ∷ 68 ∷ 32 ∷ 120 ∷ 42 ∷ 58 ∷ 32 ∷ 73 ∷ 78 ∷ 84 ∷ 69 ∷ 71 ∷ 69 ∷ 82 ∷ 32 ∷ 69 ∷ 78 ∷ 68 ∷ 59 ∷ 32 ∷ 86 ∷ 65 ∷ 82 ∷ 32 ∷ 112 ∷ 42 ∷ 58 ∷ 32 ∷ 80 ∷ 79 ∷ 73 ∷ 78 ∷ 84 ∷ 69 ∷ 82 ∷ 32 ∷ 84 ∷ 79 ∷ 32 ∷ 82 ∷ 59 ∷ 32 ∷ 114 ∷ 42 ∷ 58 ∷ 32 ∷ 82 ∷ 59 ∷ 32 ∷ 97 ∷ 42 ∷ 58 ∷ 32 ∷ 65 ∷ 82 ∷ 82 ∷ 65 ∷ 89 ∷ 32 ∷ 50 ∷ 32 ∷ 79 ∷ 70 ∷ 32 ∷ 82 ∷ 59 ∷ 32 ∷ 69 ∷ 78 ∷ 68 ∷ 32 ∷ 65 ∷ 46 ∷ 10 ∷ []); symbols = (symbol (Ident) 0 6 ∷ symbol (Ident) 7 8 ∷ symbol (Ident) 8 9 ∷ symbol (Ident) 10 14 ∷ symbol (Ident) 15 16 ∷ symbol (Ident) 16 17 ∷ symbol (Ident) 18 19 ∷ symbol (Ident) 20 26 ∷ symbol (Ident) 27 28 ∷ symbol (Ident) 28 29 ∷ symbol (Ident) 29 30 ∷ symbol (Ident) 31 38 ∷ symbol (Ident) 39 42 ∷ symbol (Ident) 42 43 ∷ symbol (Ident) 44 47 ∷ symbol (Ident) 48 49 ∷ symbol (Ident) 49 50 ∷ symbol (Ident) 50 51 ∷ symbol (Ident) 52 59 ∷ symbol (Ident) 60 62 ∷ symbol (Ident) 63 64 ∷ symbol (Ident) 64 65 ∷ symbol (Ident) 66 67 ∷ symbol (Ident) 67 68 ∷ symbol (Ident) 68 69 ∷ symbol (Ident) 70 71 ∷ symbol (Ident) 71 72 ∷ symbol (Ident) 73 74 ∷ symbol (Ident) 74 75 ∷ symbol (Ident) 75 76 ∷ symbol (Ident) 77 82 ∷ symbol (Int (pos 2)) 83 84 ∷ symbol (Ident) 85 87 ∷ symbol (Ident) 88 89 ∷ symbol (Ident) 89 90 ∷ symbol (Ident) 91 94 ∷ symbol (Ident) 95 96 ∷ symbol (Ident) 96 97 ∷ []) }; tree = record { module_word = 0; name = 1; semicolon = 0; imports = None; decls = (S.decls None (Some (record { type_word = 0; each = (record { name = (record { name = 4; star = Some 0 }); equal = 0; is = (S.Record 7 None (S.fields (record { first = (record { name = 8; star = Some 0 }); more = [] }) 0 (S.Named (record { name = 11; member = None }))) S.no_more_fields 0); semicolon = 0 } ∷ []) })) (Some (record { var_word = 0; each = (record { names = (record { first = (record { name = 15; star = Some 0 }); more = [] }); colon = 0; of = (S.Pointer 18 0 (S.Named (record { name = 20; member = None }))); semicolon = 0 } ∷ record { names = (record { first = (record { name = 22; star = Some 0 }); more = [] }); colon = 0; of = (S.Named (record { name = 25; member = None })); semicolon = 0 } ∷ record { names = (record { first = (record { name = 27; star = Some 0 }); more = [] }); colon = 0; of = (S.Array 30 (S.only (S.simple None (S.term (S.Int 31) S.no_factor) S.no_term)) S.no_expression 0 (S.Named (record { name = 33; member = None }))); semicolon = 0 } ∷ []) })) S.no_procedure); body = None; end_word = 0; end_name = 36; period = 0 } }

-- MODULE M; IMPORT A; PROCEDURE V(VAR i: INTEGER); END V; BEGIN V(A.p.x); A.p^ := A.r END M.
abbrev choice_others_3_1 : Parsed
choice_others_3_1 = record { source = record { bytes = (77 ∷ 79 ∷ 68 ∷ 85 ∷ 76 ∷ 69 ∷ 32 ∷ 77 ∷ 59 ∷ 32 ∷ 73 ∷ 77 ∷ 80 ∷ 79 ∷ 82 ∷ 84 ∷ 32 ∷ 65 ∷ 59 ∷ 32 ∷ 80 ∷ 82 ∷ 79 ∷ 67 ∷ 69 ∷ 68 ∷ 85 ∷ 82 ∷ 69 ∷ 32 ∷ 86 ∷ 40 ∷ 86 ∷ 65 ∷ 82 ∷ 32 ∷ 105 ∷ 58 ∷ 32 ∷ 73 ∷ 78 ∷ 84 ∷ 69 ∷ 71 ∷ 69 ∷ 82 ∷ 41 ∷ 59 ∷ 32 ∷ 69 ∷ 78 ∷ 68 ∷ 32 ∷ 86 ∷ 59 ∷ 32 ∷ 66 ∷ 69 ∷ 71 ∷ 73 ∷ 78 ∷ 32 ∷ 86 ∷ 40 ∷ 65 ∷ 46 ∷ 112 ∷ 46 ∷ 120 ∷ 41 ∷ 59 ∷ 32 ∷ 65 ∷ 46 ∷ 112 ∷ 94 ∷ 32 ∷ 58 ∷ 61 ∷ 32 ∷ 65 ∷ 46 ∷ 114 ∷ 32 ∷ 69 ∷ 78 ∷ 68 ∷ 32 ∷ 77 ∷ 46 ∷ []); symbols = (symbol (Ident) 0 6 ∷ symbol (Ident) 7 8 ∷ symbol (Ident) 8 9 ∷ symbol (Ident) 10 16 ∷ symbol (Ident) 17 18 ∷ symbol (Ident) 18 19 ∷ symbol (Ident) 20 29 ∷ symbol (Ident) 30 31 ∷ symbol (Ident) 31 32 ∷ symbol (Ident) 32 35 ∷ symbol (Ident) 36 37 ∷ symbol (Ident) 37 38 ∷ symbol (Ident) 39 46 ∷ symbol (Ident) 46 47 ∷ symbol (Ident) 47 48 ∷ symbol (Ident) 49 52 ∷ symbol (Ident) 53 54 ∷ symbol (Ident) 54 55 ∷ symbol (Ident) 56 61 ∷ symbol (Ident) 62 63 ∷ symbol (Ident) 63 64 ∷ symbol (Ident) 64 65 ∷ symbol (Ident) 65 66 ∷ symbol (Ident) 66 67 ∷ symbol (Ident) 67 68 ∷ symbol (Ident) 68 69 ∷ symbol (Ident) 69 70 ∷ symbol (Ident) 70 71 ∷ symbol (Ident) 72 73 ∷ symbol (Ident) 73 74 ∷ symbol (Ident) 74 75 ∷ symbol (Ident) 75 76 ∷ symbol (Ident) 77 79 ∷ symbol (Ident) 80 81 ∷ symbol (Ident) 81 82 ∷ symbol (Ident) 82 83 ∷ symbol (Ident) 84 87 ∷ symbol (Ident) 88 89 ∷ symbol (Ident) 89 90 ∷ []) }; tree = record { module_word = 0; name = 1; semicolon = 0; imports = Some (record { import_word = 0; first = (record { name = 4; of = None }); more = []; semicolon = 0 }); decls = (S.decls None None None (S.procedure 0 (record { name = 7; star = None }) (Some (record { left_paren = 0; sections = Some (record { first = (record { var_word = Some 0; first = 10; more = []; colon = 0; open_array = None; of = (record { name = 12; member = None }) }); more = [] }); right_paren = 0; result = None })) 0 (S.decls None None None S.no_procedure) None None 15 16 0 S.no_procedure)); body = (Some (record { begin_word = 0; stats = (S.stats (S.AssignOrCall (record { name = 19; selectors = (S.selected (S.Parens 0 (S.expressions (S.only (S.simple None (S.term (S.Designated 21 (S.selected (S.Field 0 23) (S.selected (S.Field 0 25) S.no_selector))) S.no_factor) S.no_term)) S.no_expression) 0) S.no_selector) }) None) (S.next_stat 0 (S.AssignOrCall (record { name = 28; selectors = (S.selected (S.Field 0 30) (S.selected (S.Arrow 0) S.no_selector)) }) (Some (record { becomes = 0; value = (S.only (S.simple None (S.term (S.Designated 33 (S.selected (S.Field 0 35) S.no_selector)) S.no_factor) S.no_term)) }))) S.no_stat)) })); end_word = 0; end_name = 37; period = 0 } }

pub choice_others_3 : checked (choice_others_3_0 ∷ choice_others_3_1 ∷ []) ≡ Legal (record { records = (record { module_number = 0; base = None; level = 0; fields = (record { name = (120 ∷ []); exported = true; shape = H.Integer } ∷ []); cells = 1; extent = record { bytes = 8; wide = true } } ∷ []); pointers = (Some 0 ∷ []); modules = (record { name = (65 ∷ []); objects = (record { name = (82 ∷ []); exported = true; entity = I.OfType (H.Record 0) } ∷ record { name = (112 ∷ []); exported = true; entity = I.OfVariable 0 } ∷ record { name = (114 ∷ []); exported = true; entity = I.OfVariable 1 } ∷ record { name = (97 ∷ []); exported = true; entity = I.OfVariable 2 } ∷ []); variables = ((H.Pointer 0) ∷ (H.Record 0) ∷ (H.Array 2 (H.Record 0)) ∷ []); body = 0 } ∷ record { name = (77 ∷ []); objects = (record { name = (86 ∷ []); exported = false; entity = I.OfProcedure 1 } ∷ []); variables = []; body = 2 } ∷ []); procedures = (record { module_number = 0; line = 1; is_body = true; formals = []; result = H.Nothing; locals = []; texts = []; body = I.no_statement; answer = None } ∷ record { module_number = 1; line = 1; is_body = false; formals = (record { mode = TheMode.Place; variable = true; shape = H.Integer } ∷ []); result = H.Nothing; locals = []; texts = []; body = I.no_statement; answer = None } ∷ record { module_number = 1; line = 1; is_body = true; formals = []; result = H.Nothing; locals = []; texts = []; body = (I.next_statement (I.Invoke (I.Direct 1 (I.next_argument (I.ByPlace (I.of_type (I.Field (I.Dereference (I.Load (I.of_type (I.Global 0 0) (H.Pointer 0)))) 0 0) H.Integer)) I.no_argument))) (I.next_statement (I.CopyRecord (I.of_type (I.Dereference (I.Load (I.of_type (I.Global 0 0) (H.Pointer 0)))) (H.Record 0)) (I.of_type (I.Global 0 1) (H.Record 0))) I.no_statement)); answer = None } ∷ []); imports_in = false })
choice_others_3 = refl

-- MODULE M; TYPE R = RECORD x: INTEGER END; E = RECORD (R) y: INTEGER END; P = POINTER TO R; Q = POINTER TO E; VAR p: P; q: Q; BEGIN CASE p OF Q, Q: END END M.
abbrev choice_type_labels_1_0 : Parsed
choice_type_labels_1_0 = record { source = record { bytes = (77 ∷ 79 ∷ 68 ∷ 85 ∷ 76 ∷ 69 ∷ 32 ∷ 77 ∷ 59 ∷ 32 ∷ 84 ∷ 89 ∷ 80 ∷ 69 ∷ 32 ∷ 82 ∷ 32 ∷ 61 ∷ 32 ∷ 82 ∷ 69 ∷ 67 ∷ 79 ∷ 82 ∷ 68 ∷ 32 ∷ 120 ∷ 58 ∷ 32 ∷ 73 ∷ 78 ∷ 84 ∷ 69 ∷ 71 ∷ 69 ∷ 82 ∷ 32 ∷ 69 ∷ 78 ∷ 68 ∷ 59 ∷ 32 ∷ 69 ∷ 32 ∷ 61 ∷ 32 ∷ 82 ∷ 69 ∷ 67 ∷ 79 ∷ 82 ∷ 68 ∷ 32 ∷ 40 ∷ 82 ∷ 41 ∷ 32 ∷ 121 ∷ 58 ∷ 32 ∷ 73 ∷ 78 ∷ 84 ∷ 69 ∷ 71 ∷ 69 ∷ 82 ∷ 32 ∷ 69 ∷ 78 ∷ 68 ∷ 59 ∷ 32 ∷ 80 ∷ 32 ∷ 61 ∷ 32 ∷ 80 ∷ 79 ∷ 73 ∷ 78 ∷ 84 ∷ 69 ∷ 82 ∷ 32 ∷ 84 ∷ 79 ∷ 32 ∷ 82 ∷ 59 ∷ 32 ∷ 81 ∷ 32 ∷ 61 ∷ 32 ∷ 80 ∷ 79 ∷ 73 ∷ 78 ∷ 84 ∷ 69 ∷ 82 ∷ 32 ∷ 84 ∷ 79 ∷ 32 ∷ 69 ∷ 59 ∷ 32 ∷ 86 ∷ 65 ∷ 82 ∷ 32 ∷ 112 ∷ 58 ∷ 32 ∷ 80 ∷ 59 ∷ 32 ∷ 113 ∷ 58 ∷ 32 ∷ 81 ∷ 59 ∷ 32 ∷ 66 ∷ 69 ∷ 71 ∷ 73 ∷ 78 ∷ 32 ∷ 67 ∷ 65 ∷ 83 ∷ 69 ∷ 32 ∷ 112 ∷ 32 ∷ 79 ∷ 70 ∷ 32 ∷ 81 ∷ 44 ∷ 32 ∷ 81 ∷ 58 ∷ 32 ∷ 69 ∷ 78 ∷ 68 ∷ 32 ∷ 69 ∷ 78 ∷ 68 ∷ 32 ∷ 77 ∷ 46 ∷ []); symbols = (symbol (Ident) 0 6 ∷ symbol (Ident) 7 8 ∷ symbol (Ident) 8 9 ∷ symbol (Ident) 10 14 ∷ symbol (Ident) 15 16 ∷ symbol (Ident) 17 18 ∷ symbol (Ident) 19 25 ∷ symbol (Ident) 26 27 ∷ symbol (Ident) 27 28 ∷ symbol (Ident) 29 36 ∷ symbol (Ident) 37 40 ∷ symbol (Ident) 40 41 ∷ symbol (Ident) 42 43 ∷ symbol (Ident) 44 45 ∷ symbol (Ident) 46 52 ∷ symbol (Ident) 53 54 ∷ symbol (Ident) 54 55 ∷ symbol (Ident) 55 56 ∷ symbol (Ident) 57 58 ∷ symbol (Ident) 58 59 ∷ symbol (Ident) 60 67 ∷ symbol (Ident) 68 71 ∷ symbol (Ident) 71 72 ∷ symbol (Ident) 73 74 ∷ symbol (Ident) 75 76 ∷ symbol (Ident) 77 84 ∷ symbol (Ident) 85 87 ∷ symbol (Ident) 88 89 ∷ symbol (Ident) 89 90 ∷ symbol (Ident) 91 92 ∷ symbol (Ident) 93 94 ∷ symbol (Ident) 95 102 ∷ symbol (Ident) 103 105 ∷ symbol (Ident) 106 107 ∷ symbol (Ident) 107 108 ∷ symbol (Ident) 109 112 ∷ symbol (Ident) 113 114 ∷ symbol (Ident) 114 115 ∷ symbol (Ident) 116 117 ∷ symbol (Ident) 117 118 ∷ symbol (Ident) 119 120 ∷ symbol (Ident) 120 121 ∷ symbol (Ident) 122 123 ∷ symbol (Ident) 123 124 ∷ symbol (Ident) 125 130 ∷ symbol (Ident) 131 135 ∷ symbol (Ident) 136 137 ∷ symbol (Ident) 138 140 ∷ symbol (Ident) 141 142 ∷ symbol (Ident) 142 143 ∷ symbol (Ident) 144 145 ∷ symbol (Ident) 145 146 ∷ symbol (Ident) 147 150 ∷ symbol (Ident) 151 154 ∷ symbol (Ident) 155 156 ∷ symbol (Ident) 156 157 ∷ []) }; tree = record { module_word = 0; name = 1; semicolon = 0; imports = None; decls = (S.decls None (Some (record { type_word = 0; each = (record { name = (record { name = 4; star = None }); equal = 0; is = (S.Record 6 None (S.fields (record { first = (record { name = 7; star = None }); more = [] }) 0 (S.Named (record { name = 9; member = None }))) S.no_more_fields 0); semicolon = 0 } ∷ record { name = (record { name = 12; star = None }); equal = 0; is = (S.Record 14 (Some (record { left_paren = 0; name = (record { name = 16; member = None }); right_paren = 0 })) (S.fields (record { first = (record { name = 18; star = None }); more = [] }) 0 (S.Named (record { name = 20; member = None }))) S.no_more_fields 0); semicolon = 0 } ∷ record { name = (record { name = 23; star = None }); equal = 0; is = (S.Pointer 25 0 (S.Named (record { name = 27; member = None }))); semicolon = 0 } ∷ record { name = (record { name = 29; star = None }); equal = 0; is = (S.Pointer 31 0 (S.Named (record { name = 33; member = None }))); semicolon = 0 } ∷ []) })) (Some (record { var_word = 0; each = (record { names = (record { first = (record { name = 36; star = None }); more = [] }); colon = 0; of = (S.Named (record { name = 38; member = None })); semicolon = 0 } ∷ record { names = (record { first = (record { name = 40; star = None }); more = [] }); colon = 0; of = (S.Named (record { name = 42; member = None })); semicolon = 0 } ∷ []) })) S.no_procedure); body = (Some (record { begin_word = 0; stats = (S.stats (S.Case 0 (S.only (S.simple None (S.term (S.Designated 46 S.no_selector) S.no_factor) S.no_term)) 0 (S.one_case (record { low = TheLabel.Named (record { name = 48; member = None }); high = None }) (record { comma = 0; range = (record { low = TheLabel.Named (record { name = 50; member = None }); high = None }) } ∷ []) 0 (S.stats S.Empty S.no_stat)) S.no_next_case 0) S.no_stat) })); end_word = 0; end_name = 54; period = 0 } }

pub choice_type_labels_1 : checked (choice_type_labels_1_0 ∷ []) ≡ Fault 0 39 144
choice_type_labels_1 = refl

-- MODULE M; TYPE R = RECORD x: INTEGER END; E = RECORD (R) y: INTEGER END; P = POINTER TO R; Q = POINTER TO E; VAR p: P; q: Q; BEGIN CASE p OF P..Q: END END M.
abbrev choice_type_labels_2_0 : Parsed
choice_type_labels_2_0 = record { source = record { bytes = (77 ∷ 79 ∷ 68 ∷ 85 ∷ 76 ∷ 69 ∷ 32 ∷ 77 ∷ 59 ∷ 32 ∷ 84 ∷ 89 ∷ 80 ∷ 69 ∷ 32 ∷ 82 ∷ 32 ∷ 61 ∷ 32 ∷ 82 ∷ 69 ∷ 67 ∷ 79 ∷ 82 ∷ 68 ∷ 32 ∷ 120 ∷ 58 ∷ 32 ∷ 73 ∷ 78 ∷ 84 ∷ 69 ∷ 71 ∷ 69 ∷ 82 ∷ 32 ∷ 69 ∷ 78 ∷ 68 ∷ 59 ∷ 32 ∷ 69 ∷ 32 ∷ 61 ∷ 32 ∷ 82 ∷ 69 ∷ 67 ∷ 79 ∷ 82 ∷ 68 ∷ 32 ∷ 40 ∷ 82 ∷ 41 ∷ 32 ∷ 121 ∷ 58 ∷ 32 ∷ 73 ∷ 78 ∷ 84 ∷ 69 ∷ 71 ∷ 69 ∷ 82 ∷ 32 ∷ 69 ∷ 78 ∷ 68 ∷ 59 ∷ 32 ∷ 80 ∷ 32 ∷ 61 ∷ 32 ∷ 80 ∷ 79 ∷ 73 ∷ 78 ∷ 84 ∷ 69 ∷ 82 ∷ 32 ∷ 84 ∷ 79 ∷ 32 ∷ 82 ∷ 59 ∷ 32 ∷ 81 ∷ 32 ∷ 61 ∷ 32 ∷ 80 ∷ 79 ∷ 73 ∷ 78 ∷ 84 ∷ 69 ∷ 82 ∷ 32 ∷ 84 ∷ 79 ∷ 32 ∷ 69 ∷ 59 ∷ 32 ∷ 86 ∷ 65 ∷ 82 ∷ 32 ∷ 112 ∷ 58 ∷ 32 ∷ 80 ∷ 59 ∷ 32 ∷ 113 ∷ 58 ∷ 32 ∷ 81 ∷ 59 ∷ 32 ∷ 66 ∷ 69 ∷ 71 ∷ 73 ∷ 78 ∷ 32 ∷ 67 ∷ 65 ∷ 83 ∷ 69 ∷ 32 ∷ 112 ∷ 32 ∷ 79 ∷ 70 ∷ 32 ∷ 80 ∷ 46 ∷ 46 ∷ 81 ∷ 58 ∷ 32 ∷ 69 ∷ 78 ∷ 68 ∷ 32 ∷ 69 ∷ 78 ∷ 68 ∷ 32 ∷ 77 ∷ 46 ∷ []); symbols = (symbol (Ident) 0 6 ∷ symbol (Ident) 7 8 ∷ symbol (Ident) 8 9 ∷ symbol (Ident) 10 14 ∷ symbol (Ident) 15 16 ∷ symbol (Ident) 17 18 ∷ symbol (Ident) 19 25 ∷ symbol (Ident) 26 27 ∷ symbol (Ident) 27 28 ∷ symbol (Ident) 29 36 ∷ symbol (Ident) 37 40 ∷ symbol (Ident) 40 41 ∷ symbol (Ident) 42 43 ∷ symbol (Ident) 44 45 ∷ symbol (Ident) 46 52 ∷ symbol (Ident) 53 54 ∷ symbol (Ident) 54 55 ∷ symbol (Ident) 55 56 ∷ symbol (Ident) 57 58 ∷ symbol (Ident) 58 59 ∷ symbol (Ident) 60 67 ∷ symbol (Ident) 68 71 ∷ symbol (Ident) 71 72 ∷ symbol (Ident) 73 74 ∷ symbol (Ident) 75 76 ∷ symbol (Ident) 77 84 ∷ symbol (Ident) 85 87 ∷ symbol (Ident) 88 89 ∷ symbol (Ident) 89 90 ∷ symbol (Ident) 91 92 ∷ symbol (Ident) 93 94 ∷ symbol (Ident) 95 102 ∷ symbol (Ident) 103 105 ∷ symbol (Ident) 106 107 ∷ symbol (Ident) 107 108 ∷ symbol (Ident) 109 112 ∷ symbol (Ident) 113 114 ∷ symbol (Ident) 114 115 ∷ symbol (Ident) 116 117 ∷ symbol (Ident) 117 118 ∷ symbol (Ident) 119 120 ∷ symbol (Ident) 120 121 ∷ symbol (Ident) 122 123 ∷ symbol (Ident) 123 124 ∷ symbol (Ident) 125 130 ∷ symbol (Ident) 131 135 ∷ symbol (Ident) 136 137 ∷ symbol (Ident) 138 140 ∷ symbol (Ident) 141 142 ∷ symbol (Ident) 142 144 ∷ symbol (Ident) 144 145 ∷ symbol (Ident) 145 146 ∷ symbol (Ident) 147 150 ∷ symbol (Ident) 151 154 ∷ symbol (Ident) 155 156 ∷ symbol (Ident) 156 157 ∷ []) }; tree = record { module_word = 0; name = 1; semicolon = 0; imports = None; decls = (S.decls None (Some (record { type_word = 0; each = (record { name = (record { name = 4; star = None }); equal = 0; is = (S.Record 6 None (S.fields (record { first = (record { name = 7; star = None }); more = [] }) 0 (S.Named (record { name = 9; member = None }))) S.no_more_fields 0); semicolon = 0 } ∷ record { name = (record { name = 12; star = None }); equal = 0; is = (S.Record 14 (Some (record { left_paren = 0; name = (record { name = 16; member = None }); right_paren = 0 })) (S.fields (record { first = (record { name = 18; star = None }); more = [] }) 0 (S.Named (record { name = 20; member = None }))) S.no_more_fields 0); semicolon = 0 } ∷ record { name = (record { name = 23; star = None }); equal = 0; is = (S.Pointer 25 0 (S.Named (record { name = 27; member = None }))); semicolon = 0 } ∷ record { name = (record { name = 29; star = None }); equal = 0; is = (S.Pointer 31 0 (S.Named (record { name = 33; member = None }))); semicolon = 0 } ∷ []) })) (Some (record { var_word = 0; each = (record { names = (record { first = (record { name = 36; star = None }); more = [] }); colon = 0; of = (S.Named (record { name = 38; member = None })); semicolon = 0 } ∷ record { names = (record { first = (record { name = 40; star = None }); more = [] }); colon = 0; of = (S.Named (record { name = 42; member = None })); semicolon = 0 } ∷ []) })) S.no_procedure); body = (Some (record { begin_word = 0; stats = (S.stats (S.Case 0 (S.only (S.simple None (S.term (S.Designated 46 S.no_selector) S.no_factor) S.no_term)) 0 (S.one_case (record { low = TheLabel.Named (record { name = 48; member = None }); high = Some (record { dots = 0; label = TheLabel.Named (record { name = 50; member = None }) }) }) [] 0 (S.stats S.Empty S.no_stat)) S.no_next_case 0) S.no_stat) })); end_word = 0; end_name = 54; period = 0 } }

pub choice_type_labels_2 : checked (choice_type_labels_2_0 ∷ []) ≡ Fault 0 39 141
choice_type_labels_2 = refl

-- MODULE M; TYPE R = RECORD x: INTEGER END; E = RECORD (R) y: INTEGER END; P = POINTER TO R; Q = POINTER TO E; VAR p: P; q: Q; BEGIN CASE p OF P: | Q: END END M.
abbrev choice_type_labels_3_0 : Parsed
choice_type_labels_3_0 = record { source = record { bytes = (77 ∷ 79 ∷ 68 ∷ 85 ∷ 76 ∷ 69 ∷ 32 ∷ 77 ∷ 59 ∷ 32 ∷ 84 ∷ 89 ∷ 80 ∷ 69 ∷ 32 ∷ 82 ∷ 32 ∷ 61 ∷ 32 ∷ 82 ∷ 69 ∷ 67 ∷ 79 ∷ 82 ∷ 68 ∷ 32 ∷ 120 ∷ 58 ∷ 32 ∷ 73 ∷ 78 ∷ 84 ∷ 69 ∷ 71 ∷ 69 ∷ 82 ∷ 32 ∷ 69 ∷ 78 ∷ 68 ∷ 59 ∷ 32 ∷ 69 ∷ 32 ∷ 61 ∷ 32 ∷ 82 ∷ 69 ∷ 67 ∷ 79 ∷ 82 ∷ 68 ∷ 32 ∷ 40 ∷ 82 ∷ 41 ∷ 32 ∷ 121 ∷ 58 ∷ 32 ∷ 73 ∷ 78 ∷ 84 ∷ 69 ∷ 71 ∷ 69 ∷ 82 ∷ 32 ∷ 69 ∷ 78 ∷ 68 ∷ 59 ∷ 32 ∷ 80 ∷ 32 ∷ 61 ∷ 32 ∷ 80 ∷ 79 ∷ 73 ∷ 78 ∷ 84 ∷ 69 ∷ 82 ∷ 32 ∷ 84 ∷ 79 ∷ 32 ∷ 82 ∷ 59 ∷ 32 ∷ 81 ∷ 32 ∷ 61 ∷ 32 ∷ 80 ∷ 79 ∷ 73 ∷ 78 ∷ 84 ∷ 69 ∷ 82 ∷ 32 ∷ 84 ∷ 79 ∷ 32 ∷ 69 ∷ 59 ∷ 32 ∷ 86 ∷ 65 ∷ 82 ∷ 32 ∷ 112 ∷ 58 ∷ 32 ∷ 80 ∷ 59 ∷ 32 ∷ 113 ∷ 58 ∷ 32 ∷ 81 ∷ 59 ∷ 32 ∷ 66 ∷ 69 ∷ 71 ∷ 73 ∷ 78 ∷ 32 ∷ 67 ∷ 65 ∷ 83 ∷ 69 ∷ 32 ∷ 112 ∷ 32 ∷ 79 ∷ 70 ∷ 32 ∷ 80 ∷ 58 ∷ 32 ∷ 124 ∷ 32 ∷ 81 ∷ 58 ∷ 32 ∷ 69 ∷ 78 ∷ 68 ∷ 32 ∷ 69 ∷ 78 ∷ 68 ∷ 32 ∷ 77 ∷ 46 ∷ []); symbols = (symbol (Ident) 0 6 ∷ symbol (Ident) 7 8 ∷ symbol (Ident) 8 9 ∷ symbol (Ident) 10 14 ∷ symbol (Ident) 15 16 ∷ symbol (Ident) 17 18 ∷ symbol (Ident) 19 25 ∷ symbol (Ident) 26 27 ∷ symbol (Ident) 27 28 ∷ symbol (Ident) 29 36 ∷ symbol (Ident) 37 40 ∷ symbol (Ident) 40 41 ∷ symbol (Ident) 42 43 ∷ symbol (Ident) 44 45 ∷ symbol (Ident) 46 52 ∷ symbol (Ident) 53 54 ∷ symbol (Ident) 54 55 ∷ symbol (Ident) 55 56 ∷ symbol (Ident) 57 58 ∷ symbol (Ident) 58 59 ∷ symbol (Ident) 60 67 ∷ symbol (Ident) 68 71 ∷ symbol (Ident) 71 72 ∷ symbol (Ident) 73 74 ∷ symbol (Ident) 75 76 ∷ symbol (Ident) 77 84 ∷ symbol (Ident) 85 87 ∷ symbol (Ident) 88 89 ∷ symbol (Ident) 89 90 ∷ symbol (Ident) 91 92 ∷ symbol (Ident) 93 94 ∷ symbol (Ident) 95 102 ∷ symbol (Ident) 103 105 ∷ symbol (Ident) 106 107 ∷ symbol (Ident) 107 108 ∷ symbol (Ident) 109 112 ∷ symbol (Ident) 113 114 ∷ symbol (Ident) 114 115 ∷ symbol (Ident) 116 117 ∷ symbol (Ident) 117 118 ∷ symbol (Ident) 119 120 ∷ symbol (Ident) 120 121 ∷ symbol (Ident) 122 123 ∷ symbol (Ident) 123 124 ∷ symbol (Ident) 125 130 ∷ symbol (Ident) 131 135 ∷ symbol (Ident) 136 137 ∷ symbol (Ident) 138 140 ∷ symbol (Ident) 141 142 ∷ symbol (Ident) 142 143 ∷ symbol (Ident) 144 145 ∷ symbol (Ident) 146 147 ∷ symbol (Ident) 147 148 ∷ symbol (Ident) 149 152 ∷ symbol (Ident) 153 156 ∷ symbol (Ident) 157 158 ∷ symbol (Ident) 158 159 ∷ []) }; tree = record { module_word = 0; name = 1; semicolon = 0; imports = None; decls = (S.decls None (Some (record { type_word = 0; each = (record { name = (record { name = 4; star = None }); equal = 0; is = (S.Record 6 None (S.fields (record { first = (record { name = 7; star = None }); more = [] }) 0 (S.Named (record { name = 9; member = None }))) S.no_more_fields 0); semicolon = 0 } ∷ record { name = (record { name = 12; star = None }); equal = 0; is = (S.Record 14 (Some (record { left_paren = 0; name = (record { name = 16; member = None }); right_paren = 0 })) (S.fields (record { first = (record { name = 18; star = None }); more = [] }) 0 (S.Named (record { name = 20; member = None }))) S.no_more_fields 0); semicolon = 0 } ∷ record { name = (record { name = 23; star = None }); equal = 0; is = (S.Pointer 25 0 (S.Named (record { name = 27; member = None }))); semicolon = 0 } ∷ record { name = (record { name = 29; star = None }); equal = 0; is = (S.Pointer 31 0 (S.Named (record { name = 33; member = None }))); semicolon = 0 } ∷ []) })) (Some (record { var_word = 0; each = (record { names = (record { first = (record { name = 36; star = None }); more = [] }); colon = 0; of = (S.Named (record { name = 38; member = None })); semicolon = 0 } ∷ record { names = (record { first = (record { name = 40; star = None }); more = [] }); colon = 0; of = (S.Named (record { name = 42; member = None })); semicolon = 0 } ∷ []) })) S.no_procedure); body = (Some (record { begin_word = 0; stats = (S.stats (S.Case 0 (S.only (S.simple None (S.term (S.Designated 46 S.no_selector) S.no_factor) S.no_term)) 0 (S.one_case (record { low = TheLabel.Named (record { name = 48; member = None }); high = None }) [] 0 (S.stats S.Empty S.no_stat)) (S.next_case 0 (S.one_case (record { low = TheLabel.Named (record { name = 51; member = None }); high = None }) [] 0 (S.stats S.Empty S.no_stat)) S.no_next_case) 0) S.no_stat) })); end_word = 0; end_name = 55; period = 0 } }

pub choice_type_labels_3 : checked (choice_type_labels_3_0 ∷ []) ≡ Legal (record { records = (record { module_number = 0; base = None; level = 0; fields = (record { name = (120 ∷ []); exported = false; shape = H.Integer } ∷ []); cells = 1; extent = record { bytes = 8; wide = true } } ∷ record { module_number = 0; base = (Some 0); level = 1; fields = (record { name = (121 ∷ []); exported = false; shape = H.Integer } ∷ []); cells = 2; extent = record { bytes = 16; wide = true } } ∷ []); pointers = (Some 0 ∷ Some 1 ∷ []); modules = (record { name = (77 ∷ []); objects = (record { name = (82 ∷ []); exported = false; entity = I.OfType (H.Record 0) } ∷ record { name = (69 ∷ []); exported = false; entity = I.OfType (H.Record 1) } ∷ record { name = (80 ∷ []); exported = false; entity = I.OfType (H.Pointer 0) } ∷ record { name = (81 ∷ []); exported = false; entity = I.OfType (H.Pointer 1) } ∷ record { name = (112 ∷ []); exported = false; entity = I.OfVariable 0 } ∷ record { name = (113 ∷ []); exported = false; entity = I.OfVariable 1 } ∷ []); variables = ((H.Pointer 0) ∷ (H.Pointer 1) ∷ []); body = 0 } ∷ []); procedures = (record { module_number = 0; line = 1; is_body = true; formals = []; result = H.Nothing; locals = []; texts = []; body = (I.next_statement (I.CasePointer (record { form = (I.Load (I.of_type (I.Global 0 0) (H.Pointer 0))); shape = (H.Pointer 0) }) (I.next_part (I.Extends 0) I.no_statement (I.next_part (I.Extends 1) I.no_statement I.no_part))) I.no_statement); answer = None } ∷ []); imports_in = false })
choice_type_labels_3 = refl

-- MODULE M; TYPE R = RECORD x: INTEGER END; E = RECORD (R) y: INTEGER END; P = POINTER TO R; Q = POINTER TO E; VAR p: P; q: Q; PROCEDURE V(VAR q: Q); END V; BEGIN CASE p OF Q: V(p) END END M.
abbrev choice_narrowed_1_0 : Parsed
choice_narrowed_1_0 = record { source = record { bytes = (77 ∷ 79 ∷ 68 ∷ 85 ∷ 76 ∷ 69 ∷ 32 ∷ 77 ∷ 59 ∷ 32 ∷ 84 ∷ 89 ∷ 80 ∷ 69 ∷ 32 ∷ 82 ∷ 32 ∷ 61 ∷ 32 ∷ 82 ∷ 69 ∷ 67 ∷ 79 ∷ 82 ∷ 68 ∷ 32 ∷ 120 ∷ 58 ∷ 32 ∷ 73 ∷ 78 ∷ 84 ∷ 69 ∷ 71 ∷ 69 ∷ 82 ∷ 32 ∷ 69 ∷ 78 ∷ 68 ∷ 59 ∷ 32 ∷ 69 ∷ 32 ∷ 61 ∷ 32 ∷ 82 ∷ 69 ∷ 67 ∷ 79 ∷ 82 ∷ 68 ∷ 32 ∷ 40 ∷ 82 ∷ 41 ∷ 32 ∷ 121 ∷ 58 ∷ 32 ∷ 73 ∷ 78 ∷ 84 ∷ 69 ∷ 71 ∷ 69 ∷ 82 ∷ 32 ∷ 69 ∷ 78 ∷ 68 ∷ 59 ∷ 32 ∷ 80 ∷ 32 ∷ 61 ∷ 32 ∷ 80 ∷ 79 ∷ 73 ∷ 78 ∷ 84 ∷ 69 ∷ 82 ∷ 32 ∷ 84 ∷ 79 ∷ 32 ∷ 82 ∷ 59 ∷ 32 ∷ 81 ∷ 32 ∷ 61 ∷ 32 ∷ 80 ∷ 79 ∷ 73 ∷ 78 ∷ 84 ∷ 69 ∷ 82 ∷ 32 ∷ 84 ∷ 79 ∷ 32 ∷ 69 ∷ 59 ∷ 32 ∷ 86 ∷ 65 ∷ 82 ∷ 32 ∷ 112 ∷ 58 ∷ 32 ∷ 80 ∷ 59 ∷ 32 ∷ 113 ∷ 58 ∷ 32 ∷ 81 ∷ 59 ∷ 32 ∷ 80 ∷ 82 ∷ 79 ∷ 67 ∷ 69 ∷ 68 ∷ 85 ∷ 82 ∷ 69 ∷ 32 ∷ 86 ∷ 40 ∷ 86 ∷ 65 ∷ 82 ∷ 32 ∷ 113 ∷ 58 ∷ 32 ∷ 81 ∷ 41 ∷ 59 ∷ 32 ∷ 69 ∷ 78 ∷ 68 ∷ 32 ∷ 86 ∷ 59 ∷ 32 ∷ 66 ∷ 69 ∷ 71 ∷ 73 ∷ 78 ∷ 32 ∷ 67 ∷ 65 ∷ 83 ∷ 69 ∷ 32 ∷ 112 ∷ 32 ∷ 79 ∷ 70 ∷ 32 ∷ 81 ∷ 58 ∷ 32 ∷ 86 ∷ 40 ∷ 112 ∷ 41 ∷ 32 ∷ 69 ∷ 78 ∷ 68 ∷ 32 ∷ 69 ∷ 78 ∷ 68 ∷ 32 ∷ 77 ∷ 46 ∷ []); symbols = (symbol (Ident) 0 6 ∷ symbol (Ident) 7 8 ∷ symbol (Ident) 8 9 ∷ symbol (Ident) 10 14 ∷ symbol (Ident) 15 16 ∷ symbol (Ident) 17 18 ∷ symbol (Ident) 19 25 ∷ symbol (Ident) 26 27 ∷ symbol (Ident) 27 28 ∷ symbol (Ident) 29 36 ∷ symbol (Ident) 37 40 ∷ symbol (Ident) 40 41 ∷ symbol (Ident) 42 43 ∷ symbol (Ident) 44 45 ∷ symbol (Ident) 46 52 ∷ symbol (Ident) 53 54 ∷ symbol (Ident) 54 55 ∷ symbol (Ident) 55 56 ∷ symbol (Ident) 57 58 ∷ symbol (Ident) 58 59 ∷ symbol (Ident) 60 67 ∷ symbol (Ident) 68 71 ∷ symbol (Ident) 71 72 ∷ symbol (Ident) 73 74 ∷ symbol (Ident) 75 76 ∷ symbol (Ident) 77 84 ∷ symbol (Ident) 85 87 ∷ symbol (Ident) 88 89 ∷ symbol (Ident) 89 90 ∷ symbol (Ident) 91 92 ∷ symbol (Ident) 93 94 ∷ symbol (Ident) 95 102 ∷ symbol (Ident) 103 105 ∷ symbol (Ident) 106 107 ∷ symbol (Ident) 107 108 ∷ symbol (Ident) 109 112 ∷ symbol (Ident) 113 114 ∷ symbol (Ident) 114 115 ∷ symbol (Ident) 116 117 ∷ symbol (Ident) 117 118 ∷ symbol (Ident) 119 120 ∷ symbol (Ident) 120 121 ∷ symbol (Ident) 122 123 ∷ symbol (Ident) 123 124 ∷ symbol (Ident) 125 134 ∷ symbol (Ident) 135 136 ∷ symbol (Ident) 136 137 ∷ symbol (Ident) 137 140 ∷ symbol (Ident) 141 142 ∷ symbol (Ident) 142 143 ∷ symbol (Ident) 144 145 ∷ symbol (Ident) 145 146 ∷ symbol (Ident) 146 147 ∷ symbol (Ident) 148 151 ∷ symbol (Ident) 152 153 ∷ symbol (Ident) 153 154 ∷ symbol (Ident) 155 160 ∷ symbol (Ident) 161 165 ∷ symbol (Ident) 166 167 ∷ symbol (Ident) 168 170 ∷ symbol (Ident) 171 172 ∷ symbol (Ident) 172 173 ∷ symbol (Ident) 174 175 ∷ symbol (Ident) 175 176 ∷ symbol (Ident) 176 177 ∷ symbol (Ident) 177 178 ∷ symbol (Ident) 179 182 ∷ symbol (Ident) 183 186 ∷ symbol (Ident) 187 188 ∷ symbol (Ident) 188 189 ∷ []) }; tree = record { module_word = 0; name = 1; semicolon = 0; imports = None; decls = (S.decls None (Some (record { type_word = 0; each = (record { name = (record { name = 4; star = None }); equal = 0; is = (S.Record 6 None (S.fields (record { first = (record { name = 7; star = None }); more = [] }) 0 (S.Named (record { name = 9; member = None }))) S.no_more_fields 0); semicolon = 0 } ∷ record { name = (record { name = 12; star = None }); equal = 0; is = (S.Record 14 (Some (record { left_paren = 0; name = (record { name = 16; member = None }); right_paren = 0 })) (S.fields (record { first = (record { name = 18; star = None }); more = [] }) 0 (S.Named (record { name = 20; member = None }))) S.no_more_fields 0); semicolon = 0 } ∷ record { name = (record { name = 23; star = None }); equal = 0; is = (S.Pointer 25 0 (S.Named (record { name = 27; member = None }))); semicolon = 0 } ∷ record { name = (record { name = 29; star = None }); equal = 0; is = (S.Pointer 31 0 (S.Named (record { name = 33; member = None }))); semicolon = 0 } ∷ []) })) (Some (record { var_word = 0; each = (record { names = (record { first = (record { name = 36; star = None }); more = [] }); colon = 0; of = (S.Named (record { name = 38; member = None })); semicolon = 0 } ∷ record { names = (record { first = (record { name = 40; star = None }); more = [] }); colon = 0; of = (S.Named (record { name = 42; member = None })); semicolon = 0 } ∷ []) })) (S.procedure 0 (record { name = 45; star = None }) (Some (record { left_paren = 0; sections = Some (record { first = (record { var_word = Some 0; first = 48; more = []; colon = 0; open_array = None; of = (record { name = 50; member = None }) }); more = [] }); right_paren = 0; result = None })) 0 (S.decls None None None S.no_procedure) None None 53 54 0 S.no_procedure)); body = (Some (record { begin_word = 0; stats = (S.stats (S.Case 0 (S.only (S.simple None (S.term (S.Designated 58 S.no_selector) S.no_factor) S.no_term)) 0 (S.one_case (record { low = TheLabel.Named (record { name = 60; member = None }); high = None }) [] 0 (S.stats (S.AssignOrCall (record { name = 62; selectors = (S.selected (S.Parens 0 (S.expressions (S.only (S.simple None (S.term (S.Designated 64 S.no_selector) S.no_factor) S.no_term)) S.no_expression) 0) S.no_selector) }) None) S.no_stat)) S.no_next_case 0) S.no_stat) })); end_word = 0; end_name = 68; period = 0 } }

pub choice_narrowed_1 : checked (choice_narrowed_1_0 ∷ []) ≡ Fault 0 31 176
choice_narrowed_1 = refl

-- MODULE M; TYPE R = RECORD x: INTEGER END; E = RECORD (R) y: INTEGER END; P = POINTER TO R; Q = POINTER TO E; VAR p: P; q: Q; BEGIN CASE p OF Q: NEW(p) END END M.
abbrev choice_narrowed_2_0 : Parsed
choice_narrowed_2_0 = record { source = record { bytes = (77 ∷ 79 ∷ 68 ∷ 85 ∷ 76 ∷ 69 ∷ 32 ∷ 77 ∷ 59 ∷ 32 ∷ 84 ∷ 89 ∷ 80 ∷ 69 ∷ 32 ∷ 82 ∷ 32 ∷ 61 ∷ 32 ∷ 82 ∷ 69 ∷ 67 ∷ 79 ∷ 82 ∷ 68 ∷ 32 ∷ 120 ∷ 58 ∷ 32 ∷ 73 ∷ 78 ∷ 84 ∷ 69 ∷ 71 ∷ 69 ∷ 82 ∷ 32 ∷ 69 ∷ 78 ∷ 68 ∷ 59 ∷ 32 ∷ 69 ∷ 32 ∷ 61 ∷ 32 ∷ 82 ∷ 69 ∷ 67 ∷ 79 ∷ 82 ∷ 68 ∷ 32 ∷ 40 ∷ 82 ∷ 41 ∷ 32 ∷ 121 ∷ 58 ∷ 32 ∷ 73 ∷ 78 ∷ 84 ∷ 69 ∷ 71 ∷ 69 ∷ 82 ∷ 32 ∷ 69 ∷ 78 ∷ 68 ∷ 59 ∷ 32 ∷ 80 ∷ 32 ∷ 61 ∷ 32 ∷ 80 ∷ 79 ∷ 73 ∷ 78 ∷ 84 ∷ 69 ∷ 82 ∷ 32 ∷ 84 ∷ 79 ∷ 32 ∷ 82 ∷ 59 ∷ 32 ∷ 81 ∷ 32 ∷ 61 ∷ 32 ∷ 80 ∷ 79 ∷ 73 ∷ 78 ∷ 84 ∷ 69 ∷ 82 ∷ 32 ∷ 84 ∷ 79 ∷ 32 ∷ 69 ∷ 59 ∷ 32 ∷ 86 ∷ 65 ∷ 82 ∷ 32 ∷ 112 ∷ 58 ∷ 32 ∷ 80 ∷ 59 ∷ 32 ∷ 113 ∷ 58 ∷ 32 ∷ 81 ∷ 59 ∷ 32 ∷ 66 ∷ 69 ∷ 71 ∷ 73 ∷ 78 ∷ 32 ∷ 67 ∷ 65 ∷ 83 ∷ 69 ∷ 32 ∷ 112 ∷ 32 ∷ 79 ∷ 70 ∷ 32 ∷ 81 ∷ 58 ∷ 32 ∷ 78 ∷ 69 ∷ 87 ∷ 40 ∷ 112 ∷ 41 ∷ 32 ∷ 69 ∷ 78 ∷ 68 ∷ 32 ∷ 69 ∷ 78 ∷ 68 ∷ 32 ∷ 77 ∷ 46 ∷ []); symbols = (symbol (Ident) 0 6 ∷ symbol (Ident) 7 8 ∷ symbol (Ident) 8 9 ∷ symbol (Ident) 10 14 ∷ symbol (Ident) 15 16 ∷ symbol (Ident) 17 18 ∷ symbol (Ident) 19 25 ∷ symbol (Ident) 26 27 ∷ symbol (Ident) 27 28 ∷ symbol (Ident) 29 36 ∷ symbol (Ident) 37 40 ∷ symbol (Ident) 40 41 ∷ symbol (Ident) 42 43 ∷ symbol (Ident) 44 45 ∷ symbol (Ident) 46 52 ∷ symbol (Ident) 53 54 ∷ symbol (Ident) 54 55 ∷ symbol (Ident) 55 56 ∷ symbol (Ident) 57 58 ∷ symbol (Ident) 58 59 ∷ symbol (Ident) 60 67 ∷ symbol (Ident) 68 71 ∷ symbol (Ident) 71 72 ∷ symbol (Ident) 73 74 ∷ symbol (Ident) 75 76 ∷ symbol (Ident) 77 84 ∷ symbol (Ident) 85 87 ∷ symbol (Ident) 88 89 ∷ symbol (Ident) 89 90 ∷ symbol (Ident) 91 92 ∷ symbol (Ident) 93 94 ∷ symbol (Ident) 95 102 ∷ symbol (Ident) 103 105 ∷ symbol (Ident) 106 107 ∷ symbol (Ident) 107 108 ∷ symbol (Ident) 109 112 ∷ symbol (Ident) 113 114 ∷ symbol (Ident) 114 115 ∷ symbol (Ident) 116 117 ∷ symbol (Ident) 117 118 ∷ symbol (Ident) 119 120 ∷ symbol (Ident) 120 121 ∷ symbol (Ident) 122 123 ∷ symbol (Ident) 123 124 ∷ symbol (Ident) 125 130 ∷ symbol (Ident) 131 135 ∷ symbol (Ident) 136 137 ∷ symbol (Ident) 138 140 ∷ symbol (Ident) 141 142 ∷ symbol (Ident) 142 143 ∷ symbol (Ident) 144 147 ∷ symbol (Ident) 147 148 ∷ symbol (Ident) 148 149 ∷ symbol (Ident) 149 150 ∷ symbol (Ident) 151 154 ∷ symbol (Ident) 155 158 ∷ symbol (Ident) 159 160 ∷ symbol (Ident) 160 161 ∷ []) }; tree = record { module_word = 0; name = 1; semicolon = 0; imports = None; decls = (S.decls None (Some (record { type_word = 0; each = (record { name = (record { name = 4; star = None }); equal = 0; is = (S.Record 6 None (S.fields (record { first = (record { name = 7; star = None }); more = [] }) 0 (S.Named (record { name = 9; member = None }))) S.no_more_fields 0); semicolon = 0 } ∷ record { name = (record { name = 12; star = None }); equal = 0; is = (S.Record 14 (Some (record { left_paren = 0; name = (record { name = 16; member = None }); right_paren = 0 })) (S.fields (record { first = (record { name = 18; star = None }); more = [] }) 0 (S.Named (record { name = 20; member = None }))) S.no_more_fields 0); semicolon = 0 } ∷ record { name = (record { name = 23; star = None }); equal = 0; is = (S.Pointer 25 0 (S.Named (record { name = 27; member = None }))); semicolon = 0 } ∷ record { name = (record { name = 29; star = None }); equal = 0; is = (S.Pointer 31 0 (S.Named (record { name = 33; member = None }))); semicolon = 0 } ∷ []) })) (Some (record { var_word = 0; each = (record { names = (record { first = (record { name = 36; star = None }); more = [] }); colon = 0; of = (S.Named (record { name = 38; member = None })); semicolon = 0 } ∷ record { names = (record { first = (record { name = 40; star = None }); more = [] }); colon = 0; of = (S.Named (record { name = 42; member = None })); semicolon = 0 } ∷ []) })) S.no_procedure); body = (Some (record { begin_word = 0; stats = (S.stats (S.Case 0 (S.only (S.simple None (S.term (S.Designated 46 S.no_selector) S.no_factor) S.no_term)) 0 (S.one_case (record { low = TheLabel.Named (record { name = 48; member = None }); high = None }) [] 0 (S.stats (S.AssignOrCall (record { name = 50; selectors = (S.selected (S.Parens 0 (S.expressions (S.only (S.simple None (S.term (S.Designated 52 S.no_selector) S.no_factor) S.no_term)) S.no_expression) 0) S.no_selector) }) None) S.no_stat)) S.no_next_case 0) S.no_stat) })); end_word = 0; end_name = 56; period = 0 } }

pub choice_narrowed_2 : checked (choice_narrowed_2_0 ∷ []) ≡ Fault 0 31 148
choice_narrowed_2 = refl

-- MODULE M; TYPE R = RECORD x: INTEGER END; E = RECORD (R) y: INTEGER END; P = POINTER TO R; Q = POINTER TO E; VAR p: P; q: Q; PROCEDURE U(VAR r: R); PROCEDURE V(VAR e: E); END V; BEGIN CASE r OF E: V(r(E)); r.y := 1 END END U; END M.
abbrev choice_narrowed_3_0 : Parsed
choice_narrowed_3_0 = record { source = record { bytes = (77 ∷ 79 ∷ 68 ∷ 85 ∷ 76 ∷ 69 ∷ 32 ∷ 77 ∷ 59 ∷ 32 ∷ 84 ∷ 89 ∷ 80 ∷ 69 ∷ 32 ∷ 82 ∷ 32 ∷ 61 ∷ 32 ∷ 82 ∷ 69 ∷ 67 ∷ 79 ∷ 82 ∷ 68 ∷ 32 ∷ 120 ∷ 58 ∷ 32 ∷ 73 ∷ 78 ∷ 84 ∷ 69 ∷ 71 ∷ 69 ∷ 82 ∷ 32 ∷ 69 ∷ 78 ∷ 68 ∷ 59 ∷ 32 ∷ 69 ∷ 32 ∷ 61 ∷ 32 ∷ 82 ∷ 69 ∷ 67 ∷ 79 ∷ 82 ∷ 68 ∷ 32 ∷ 40 ∷ 82 ∷ 41 ∷ 32 ∷ 121 ∷ 58 ∷ 32 ∷ 73 ∷ 78 ∷ 84 ∷ 69 ∷ 71 ∷ 69 ∷ 82 ∷ 32 ∷ 69 ∷ 78 ∷ 68 ∷ 59 ∷ 32 ∷ 80 ∷ 32 ∷ 61 ∷ 32 ∷ 80 ∷ 79 ∷ 73 ∷ 78 ∷ 84 ∷ 69 ∷ 82 ∷ 32 ∷ 84 ∷ 79 ∷ 32 ∷ 82 ∷ 59 ∷ 32 ∷ 81 ∷ 32 ∷ 61 ∷ 32 ∷ 80 ∷ 79 ∷ 73 ∷ 78 ∷ 84 ∷ 69 ∷ 82 ∷ 32 ∷ 84 ∷ 79 ∷ 32 ∷ 69 ∷ 59 ∷ 32 ∷ 86 ∷ 65 ∷ 82 ∷ 32 ∷ 112 ∷ 58 ∷ 32 ∷ 80 ∷ 59 ∷ 32 ∷ 113 ∷ 58 ∷ 32 ∷ 81 ∷ 59 ∷ 32 ∷ 80 ∷ 82 ∷ 79 ∷ 67 ∷ 69 ∷ 68 ∷ 85 ∷ 82 ∷ 69 ∷ 32 ∷ 85 ∷ 40 ∷ 86 ∷ 65 ∷ 82 ∷ 32 ∷ 114 ∷ 58 ∷ 32 ∷ 82 ∷ 41 ∷ 59 ∷ 32 ∷ 80 ∷ 82 ∷ 79 ∷ 67 ∷ 69 ∷ 68 ∷ 85 ∷ 82 ∷ 69 ∷ 32 ∷ 86 ∷ 40 ∷ 86 ∷ 65 ∷ 82 ∷ 32 ∷ 101 ∷ 58 ∷ 32 ∷ 69 ∷ 41 ∷ 59 ∷ 32 ∷ 69 ∷ 78 ∷ 68 ∷ 32 ∷ 86 ∷ 59 ∷ 32 ∷ 66 ∷ 69 ∷ 71 ∷ 73 ∷ 78 ∷ 32 ∷ 67 ∷ 65 ∷ 83 ∷ 69 ∷ 32 ∷ 114 ∷ 32 ∷ 79 ∷ 70 ∷ 32 ∷ 69 ∷ 58 ∷ 32 ∷ 86 ∷ 40 ∷ 114 ∷ 40 ∷ 69 ∷ 41 ∷ 41 ∷ 59 ∷ 32 ∷ 114 ∷ 46 ∷ 121 ∷ 32 ∷ 58 ∷ 61 ∷ 32 ∷ 49 ∷ 32 ∷ 69 ∷ 78 ∷ 68 ∷ 32 ∷ 69 ∷ 78 ∷ 68 ∷ 32 ∷ 85 ∷ 59 ∷ 32 ∷ 69 ∷ 78 ∷ 68 ∷ 32 ∷ 77 ∷ 46 ∷ []); symbols = (symbol (Ident) 0 6 ∷ symbol (Ident) 7 8 ∷ symbol (Ident) 8 9 ∷ symbol (Ident) 10 14 ∷ symbol (Ident) 15 16 ∷ symbol (Ident) 17 18 ∷ symbol (Ident) 19 25 ∷ symbol (Ident) 26 27 ∷ symbol (Ident) 27 28 ∷ symbol (Ident) 29 36 ∷ symbol (Ident) 37 40 ∷ symbol (Ident) 40 41 ∷ symbol (Ident) 42 43 ∷ symbol (Ident) 44 45 ∷ symbol (Ident) 46 52 ∷ symbol (Ident) 53 54 ∷ symbol (Ident) 54 55 ∷ symbol (Ident) 55 56 ∷ symbol (Ident) 57 58 ∷ symbol (Ident) 58 59 ∷ symbol (Ident) 60 67 ∷ symbol (Ident) 68 71 ∷ symbol (Ident) 71 72 ∷ symbol (Ident) 73 74 ∷ symbol (Ident) 75 76 ∷ symbol (Ident) 77 84 ∷ symbol (Ident) 85 87 ∷ symbol (Ident) 88 89 ∷ symbol (Ident) 89 90 ∷ symbol (Ident) 91 92 ∷ symbol (Ident) 93 94 ∷ symbol (Ident) 95 102 ∷ symbol (Ident) 103 105 ∷ symbol (Ident) 106 107 ∷ symbol (Ident) 107 108 ∷ symbol (Ident) 109 112 ∷ symbol (Ident) 113 114 ∷ symbol (Ident) 114 115 ∷ symbol (Ident) 116 117 ∷ symbol (Ident) 117 118 ∷ symbol (Ident) 119 120 ∷ symbol (Ident) 120 121 ∷ symbol (Ident) 122 123 ∷ symbol (Ident) 123 124 ∷ symbol (Ident) 125 134 ∷ symbol (Ident) 135 136 ∷ symbol (Ident) 136 137 ∷ symbol (Ident) 137 140 ∷ symbol (Ident) 141 142 ∷ symbol (Ident) 142 143 ∷ symbol (Ident) 144 145 ∷ symbol (Ident) 145 146 ∷ symbol (Ident) 146 147 ∷ symbol (Ident) 148 157 ∷ symbol (Ident) 158 159 ∷ symbol (Ident) 159 160 ∷ symbol (Ident) 160 163 ∷ symbol (Ident) 164 165 ∷ symbol (Ident) 165 166 ∷ symbol (Ident) 167 168 ∷ symbol (Ident) 168 169 ∷ symbol (Ident) 169 170 ∷ symbol (Ident) 171 174 ∷ symbol (Ident) 175 176 ∷ symbol (Ident) 176 177 ∷ symbol (Ident) 178 183 ∷ symbol (Ident) 184 188 ∷ symbol (Ident) 189 190 ∷ symbol (Ident) 191 193 ∷ symbol (Ident) 194 195 ∷ symbol (Ident) 195 196 ∷ symbol (Ident) 197 198 ∷ symbol (Ident) 198 199 ∷ symbol (Ident) 199 200 ∷ symbol (Ident) 200 201 ∷ symbol (Ident) 201 202 ∷ symbol (Ident) 202 203 ∷ symbol (Ident) 203 204 ∷ symbol (Ident) 204 205 ∷ symbol (Ident) 206 207 ∷ symbol (Ident) 207 208 ∷ symbol (Ident) 208 209 ∷ symbol (Ident) 210 212 ∷ symbol (Int (pos 1)) 213 214 ∷ symbol (Ident) 215 218 ∷ symbol (Ident) 219 222 ∷ symbol (Ident) 223 224 ∷ symbol (Ident) 224 225 ∷ symbol (Ident) 226 229 ∷ symbol (Ident) 230 231 ∷ symbol (Ident) 231 232 ∷ []) }; tree = record { module_word = 0; name = 1; semicolon = 0; imports = None; decls = (S.decls None (Some (record { type_word = 0; each = (record { name = (record { name = 4; star = None }); equal = 0; is = (S.Record 6 None (S.fields (record { first = (record { name = 7; star = None }); more = [] }) 0 (S.Named (record { name = 9; member = None }))) S.no_more_fields 0); semicolon = 0 } ∷ record { name = (record { name = 12; star = None }); equal = 0; is = (S.Record 14 (Some (record { left_paren = 0; name = (record { name = 16; member = None }); right_paren = 0 })) (S.fields (record { first = (record { name = 18; star = None }); more = [] }) 0 (S.Named (record { name = 20; member = None }))) S.no_more_fields 0); semicolon = 0 } ∷ record { name = (record { name = 23; star = None }); equal = 0; is = (S.Pointer 25 0 (S.Named (record { name = 27; member = None }))); semicolon = 0 } ∷ record { name = (record { name = 29; star = None }); equal = 0; is = (S.Pointer 31 0 (S.Named (record { name = 33; member = None }))); semicolon = 0 } ∷ []) })) (Some (record { var_word = 0; each = (record { names = (record { first = (record { name = 36; star = None }); more = [] }); colon = 0; of = (S.Named (record { name = 38; member = None })); semicolon = 0 } ∷ record { names = (record { first = (record { name = 40; star = None }); more = [] }); colon = 0; of = (S.Named (record { name = 42; member = None })); semicolon = 0 } ∷ []) })) (S.procedure 0 (record { name = 45; star = None }) (Some (record { left_paren = 0; sections = Some (record { first = (record { var_word = Some 0; first = 48; more = []; colon = 0; open_array = None; of = (record { name = 50; member = None }) }); more = [] }); right_paren = 0; result = None })) 0 (S.decls None None None (S.procedure 0 (record { name = 54; star = None }) (Some (record { left_paren = 0; sections = Some (record { first = (record { var_word = Some 0; first = 57; more = []; colon = 0; open_array = None; of = (record { name = 59; member = None }) }); more = [] }); right_paren = 0; result = None })) 0 (S.decls None None None S.no_procedure) None None 62 63 0 S.no_procedure)) (Some (record { begin_word = 0; stats = (S.stats (S.Case 0 (S.only (S.simple None (S.term (S.Designated 67 S.no_selector) S.no_factor) S.no_term)) 0 (S.one_case (record { low = TheLabel.Named (record { name = 69; member = None }); high = None }) [] 0 (S.stats (S.AssignOrCall (record { name = 71; selectors = (S.selected (S.Parens 0 (S.expressions (S.only (S.simple None (S.term (S.Designated 73 (S.selected (S.Parens 0 (S.expressions (S.only (S.simple None (S.term (S.Designated 75 S.no_selector) S.no_factor) S.no_term)) S.no_expression) 0) S.no_selector)) S.no_factor) S.no_term)) S.no_expression) 0) S.no_selector) }) None) (S.next_stat 0 (S.AssignOrCall (record { name = 79; selectors = (S.selected (S.Field 0 81) S.no_selector) }) (Some (record { becomes = 0; value = (S.only (S.simple None (S.term (S.Int 83) S.no_factor) S.no_term)) }))) S.no_stat))) S.no_next_case 0) S.no_stat) })) None 85 86 0 S.no_procedure)); body = None; end_word = 0; end_name = 89; period = 0 } }

pub choice_narrowed_3 : checked (choice_narrowed_3_0 ∷ []) ≡ Legal (record { records = (record { module_number = 0; base = None; level = 0; fields = (record { name = (120 ∷ []); exported = false; shape = H.Integer } ∷ []); cells = 1; extent = record { bytes = 8; wide = true } } ∷ record { module_number = 0; base = (Some 0); level = 1; fields = (record { name = (121 ∷ []); exported = false; shape = H.Integer } ∷ []); cells = 2; extent = record { bytes = 16; wide = true } } ∷ []); pointers = (Some 0 ∷ Some 1 ∷ []); modules = (record { name = (77 ∷ []); objects = (record { name = (82 ∷ []); exported = false; entity = I.OfType (H.Record 0) } ∷ record { name = (69 ∷ []); exported = false; entity = I.OfType (H.Record 1) } ∷ record { name = (80 ∷ []); exported = false; entity = I.OfType (H.Pointer 0) } ∷ record { name = (81 ∷ []); exported = false; entity = I.OfType (H.Pointer 1) } ∷ record { name = (112 ∷ []); exported = false; entity = I.OfVariable 0 } ∷ record { name = (113 ∷ []); exported = false; entity = I.OfVariable 1 } ∷ record { name = (85 ∷ []); exported = false; entity = I.OfProcedure 0 } ∷ []); variables = ((H.Pointer 0) ∷ (H.Pointer 1) ∷ []); body = 2 } ∷ []); procedures = (record { module_number = 0; line = 1; is_body = false; formals = (record { mode = TheMode.Record; variable = true; shape = (H.Record 0) } ∷ []); result = H.Nothing; locals = []; texts = []; body = (I.next_statement (I.CaseParameter (I.of_type (I.Parameter 0) (H.Record 0)) (I.next_part (I.Extends 1) (I.next_statement (I.Invoke (I.Direct 1 (I.next_argument (I.ByRecord (I.of_type (I.Narrow (I.Narrow (I.Parameter 0) 1) 1) (H.Record 1))) I.no_argument))) (I.next_statement (I.Assign (I.of_type (I.Field (I.Narrow (I.Parameter 0) 1) 1 0) H.Integer) (record { form = (I.Literal 1); shape = H.Integer })) I.no_statement)) I.no_part)) I.no_statement); answer = None } ∷ record { module_number = 0; line = 1; is_body = false; formals = (record { mode = TheMode.Record; variable = true; shape = (H.Record 1) } ∷ []); result = H.Nothing; locals = []; texts = []; body = I.no_statement; answer = None } ∷ record { module_number = 0; line = 1; is_body = true; formals = []; result = H.Nothing; locals = []; texts = []; body = I.no_statement; answer = None } ∷ []); imports_in = false })
choice_narrowed_3 = refl

-- MODULE M; TYPE R = RECORD x: INTEGER END; E = RECORD (R) y: INTEGER END; P = POINTER TO R; Q = POINTER TO E; VAR p: P; q: Q; BEGIN CASE p OF Q: p := q; p.y := 2; CASE p OF Q: p.y := 3 END END END M.
abbrev choice_narrowed_4_0 : Parsed
choice_narrowed_4_0 = record { source = record { bytes = (77 ∷ 79 ∷ 68 ∷ 85 ∷ 76 ∷ 69 ∷ 32 ∷ 77 ∷ 59 ∷ 32 ∷ 84 ∷ 89 ∷ 80 ∷ 69 ∷ 32 ∷ 82 ∷ 32 ∷ 61 ∷ 32 ∷ 82 ∷ 69 ∷ 67 ∷ 79 ∷ 82 ∷ 68 ∷ 32 ∷ 120 ∷ 58 ∷ 32 ∷ 73 ∷ 78 ∷ 84 ∷ 69 ∷ 71 ∷ 69 ∷ 82 ∷ 32 ∷ 69 ∷ 78 ∷ 68 ∷ 59 ∷ 32 ∷ 69 ∷ 32 ∷ 61 ∷ 32 ∷ 82 ∷ 69 ∷ 67 ∷ 79 ∷ 82 ∷ 68 ∷ 32 ∷ 40 ∷ 82 ∷ 41 ∷ 32 ∷ 121 ∷ 58 ∷ 32 ∷ 73 ∷ 78 ∷ 84 ∷ 69 ∷ 71 ∷ 69 ∷ 82 ∷ 32 ∷ 69 ∷ 78 ∷ 68 ∷ 59 ∷ 32 ∷ 80 ∷ 32 ∷ 61 ∷ 32 ∷ 80 ∷ 79 ∷ 73 ∷ 78 ∷ 84 ∷ 69 ∷ 82 ∷ 32 ∷ 84 ∷ 79 ∷ 32 ∷ 82 ∷ 59 ∷ 32 ∷ 81 ∷ 32 ∷ 61 ∷ 32 ∷ 80 ∷ 79 ∷ 73 ∷ 78 ∷ 84 ∷ 69 ∷ 82 ∷ 32 ∷ 84 ∷ 79 ∷ 32 ∷ 69 ∷ 59 ∷ 32 ∷ 86 ∷ 65 ∷ 82 ∷ 32 ∷ 112 ∷ 58 ∷ 32 ∷ 80 ∷ 59 ∷ 32 ∷ 113 ∷ 58 ∷ 32 ∷ 81 ∷ 59 ∷ 32 ∷ 66 ∷ 69 ∷ 71 ∷ 73 ∷ 78 ∷ 32 ∷ 67 ∷ 65 ∷ 83 ∷ 69 ∷ 32 ∷ 112 ∷ 32 ∷ 79 ∷ 70 ∷ 32 ∷ 81 ∷ 58 ∷ 32 ∷ 112 ∷ 32 ∷ 58 ∷ 61 ∷ 32 ∷ 113 ∷ 59 ∷ 32 ∷ 112 ∷ 46 ∷ 121 ∷ 32 ∷ 58 ∷ 61 ∷ 32 ∷ 50 ∷ 59 ∷ 32 ∷ 67 ∷ 65 ∷ 83 ∷ 69 ∷ 32 ∷ 112 ∷ 32 ∷ 79 ∷ 70 ∷ 32 ∷ 81 ∷ 58 ∷ 32 ∷ 112 ∷ 46 ∷ 121 ∷ 32 ∷ 58 ∷ 61 ∷ 32 ∷ 51 ∷ 32 ∷ 69 ∷ 78 ∷ 68 ∷ 32 ∷ 69 ∷ 78 ∷ 68 ∷ 32 ∷ 69 ∷ 78 ∷ 68 ∷ 32 ∷ 77 ∷ 46 ∷ []); symbols = (symbol (Ident) 0 6 ∷ symbol (Ident) 7 8 ∷ symbol (Ident) 8 9 ∷ symbol (Ident) 10 14 ∷ symbol (Ident) 15 16 ∷ symbol (Ident) 17 18 ∷ symbol (Ident) 19 25 ∷ symbol (Ident) 26 27 ∷ symbol (Ident) 27 28 ∷ symbol (Ident) 29 36 ∷ symbol (Ident) 37 40 ∷ symbol (Ident) 40 41 ∷ symbol (Ident) 42 43 ∷ symbol (Ident) 44 45 ∷ symbol (Ident) 46 52 ∷ symbol (Ident) 53 54 ∷ symbol (Ident) 54 55 ∷ symbol (Ident) 55 56 ∷ symbol (Ident) 57 58 ∷ symbol (Ident) 58 59 ∷ symbol (Ident) 60 67 ∷ symbol (Ident) 68 71 ∷ symbol (Ident) 71 72 ∷ symbol (Ident) 73 74 ∷ symbol (Ident) 75 76 ∷ symbol (Ident) 77 84 ∷ symbol (Ident) 85 87 ∷ symbol (Ident) 88 89 ∷ symbol (Ident) 89 90 ∷ symbol (Ident) 91 92 ∷ symbol (Ident) 93 94 ∷ symbol (Ident) 95 102 ∷ symbol (Ident) 103 105 ∷ symbol (Ident) 106 107 ∷ symbol (Ident) 107 108 ∷ symbol (Ident) 109 112 ∷ symbol (Ident) 113 114 ∷ symbol (Ident) 114 115 ∷ symbol (Ident) 116 117 ∷ symbol (Ident) 117 118 ∷ symbol (Ident) 119 120 ∷ symbol (Ident) 120 121 ∷ symbol (Ident) 122 123 ∷ symbol (Ident) 123 124 ∷ symbol (Ident) 125 130 ∷ symbol (Ident) 131 135 ∷ symbol (Ident) 136 137 ∷ symbol (Ident) 138 140 ∷ symbol (Ident) 141 142 ∷ symbol (Ident) 142 143 ∷ symbol (Ident) 144 145 ∷ symbol (Ident) 146 148 ∷ symbol (Ident) 149 150 ∷ symbol (Ident) 150 151 ∷ symbol (Ident) 152 153 ∷ symbol (Ident) 153 154 ∷ symbol (Ident) 154 155 ∷ symbol (Ident) 156 158 ∷ symbol (Int (pos 2)) 159 160 ∷ symbol (Ident) 160 161 ∷ symbol (Ident) 162 166 ∷ symbol (Ident) 167 168 ∷ symbol (Ident) 169 171 ∷ symbol (Ident) 172 173 ∷ symbol (Ident) 173 174 ∷ symbol (Ident) 175 176 ∷ symbol (Ident) 176 177 ∷ symbol (Ident) 177 178 ∷ symbol (Ident) 179 181 ∷ symbol (Int (pos 3)) 182 183 ∷ symbol (Ident) 184 187 ∷ symbol (Ident) 188 191 ∷ symbol (Ident) 192 195 ∷ symbol (Ident) 196 197 ∷ symbol (Ident) 197 198 ∷ []) }; tree = record { module_word = 0; name = 1; semicolon = 0; imports = None; decls = (S.decls None (Some (record { type_word = 0; each = (record { name = (record { name = 4; star = None }); equal = 0; is = (S.Record 6 None (S.fields (record { first = (record { name = 7; star = None }); more = [] }) 0 (S.Named (record { name = 9; member = None }))) S.no_more_fields 0); semicolon = 0 } ∷ record { name = (record { name = 12; star = None }); equal = 0; is = (S.Record 14 (Some (record { left_paren = 0; name = (record { name = 16; member = None }); right_paren = 0 })) (S.fields (record { first = (record { name = 18; star = None }); more = [] }) 0 (S.Named (record { name = 20; member = None }))) S.no_more_fields 0); semicolon = 0 } ∷ record { name = (record { name = 23; star = None }); equal = 0; is = (S.Pointer 25 0 (S.Named (record { name = 27; member = None }))); semicolon = 0 } ∷ record { name = (record { name = 29; star = None }); equal = 0; is = (S.Pointer 31 0 (S.Named (record { name = 33; member = None }))); semicolon = 0 } ∷ []) })) (Some (record { var_word = 0; each = (record { names = (record { first = (record { name = 36; star = None }); more = [] }); colon = 0; of = (S.Named (record { name = 38; member = None })); semicolon = 0 } ∷ record { names = (record { first = (record { name = 40; star = None }); more = [] }); colon = 0; of = (S.Named (record { name = 42; member = None })); semicolon = 0 } ∷ []) })) S.no_procedure); body = (Some (record { begin_word = 0; stats = (S.stats (S.Case 0 (S.only (S.simple None (S.term (S.Designated 46 S.no_selector) S.no_factor) S.no_term)) 0 (S.one_case (record { low = TheLabel.Named (record { name = 48; member = None }); high = None }) [] 0 (S.stats (S.AssignOrCall (record { name = 50; selectors = S.no_selector }) (Some (record { becomes = 0; value = (S.only (S.simple None (S.term (S.Designated 52 S.no_selector) S.no_factor) S.no_term)) }))) (S.next_stat 0 (S.AssignOrCall (record { name = 54; selectors = (S.selected (S.Field 0 56) S.no_selector) }) (Some (record { becomes = 0; value = (S.only (S.simple None (S.term (S.Int 58) S.no_factor) S.no_term)) }))) (S.next_stat 0 (S.Case 0 (S.only (S.simple None (S.term (S.Designated 61 S.no_selector) S.no_factor) S.no_term)) 0 (S.one_case (record { low = TheLabel.Named (record { name = 63; member = None }); high = None }) [] 0 (S.stats (S.AssignOrCall (record { name = 65; selectors = (S.selected (S.Field 0 67) S.no_selector) }) (Some (record { becomes = 0; value = (S.only (S.simple None (S.term (S.Int 69) S.no_factor) S.no_term)) }))) S.no_stat)) S.no_next_case 0) S.no_stat)))) S.no_next_case 0) S.no_stat) })); end_word = 0; end_name = 73; period = 0 } }

pub choice_narrowed_4 : checked (choice_narrowed_4_0 ∷ []) ≡ Legal (record { records = (record { module_number = 0; base = None; level = 0; fields = (record { name = (120 ∷ []); exported = false; shape = H.Integer } ∷ []); cells = 1; extent = record { bytes = 8; wide = true } } ∷ record { module_number = 0; base = (Some 0); level = 1; fields = (record { name = (121 ∷ []); exported = false; shape = H.Integer } ∷ []); cells = 2; extent = record { bytes = 16; wide = true } } ∷ []); pointers = (Some 0 ∷ Some 1 ∷ []); modules = (record { name = (77 ∷ []); objects = (record { name = (82 ∷ []); exported = false; entity = I.OfType (H.Record 0) } ∷ record { name = (69 ∷ []); exported = false; entity = I.OfType (H.Record 1) } ∷ record { name = (80 ∷ []); exported = false; entity = I.OfType (H.Pointer 0) } ∷ record { name = (81 ∷ []); exported = false; entity = I.OfType (H.Pointer 1) } ∷ record { name = (112 ∷ []); exported = false; entity = I.OfVariable 0 } ∷ record { name = (113 ∷ []); exported = false; entity = I.OfVariable 1 } ∷ []); variables = ((H.Pointer 0) ∷ (H.Pointer 1) ∷ []); body = 0 } ∷ []); procedures = (record { module_number = 0; line = 1; is_body = true; formals = []; result = H.Nothing; locals = []; texts = []; body = (I.next_statement (I.CasePointer (record { form = (I.Load (I.of_type (I.Global 0 0) (H.Pointer 0))); shape = (H.Pointer 0) }) (I.next_part (I.Extends 1) (I.next_statement (I.Assign (I.of_type (I.Global 0 0) (H.Pointer 0)) (record { form = (I.Load (I.of_type (I.Global 0 1) (H.Pointer 1))); shape = (H.Pointer 1) })) (I.next_statement (I.Assign (I.of_type (I.Field (I.Dereference (I.Guard (I.Load (I.of_type (I.Global 0 0) (H.Pointer 0))) 1)) 1 0) H.Integer) (record { form = (I.Literal 2); shape = H.Integer })) (I.next_statement (I.CasePointer (record { form = (I.Guard (I.Load (I.of_type (I.Global 0 0) (H.Pointer 0))) 1); shape = (H.Pointer 1) }) (I.next_part (I.Extends 1) (I.next_statement (I.Assign (I.of_type (I.Field (I.Dereference (I.Guard (I.Load (I.of_type (I.Global 0 0) (H.Pointer 0))) 1)) 1 0) H.Integer) (record { form = (I.Literal 3); shape = H.Integer })) I.no_statement) I.no_part)) I.no_statement))) I.no_part)) I.no_statement); answer = None } ∷ []); imports_in = false })
choice_narrowed_4 = refl

-- MODULE M; TYPE R = RECORD n: POINTER TO R END; END M.
abbrev choice_forward_1_0 : Parsed
choice_forward_1_0 = record { source = record { bytes = (77 ∷ 79 ∷ 68 ∷ 85 ∷ 76 ∷ 69 ∷ 32 ∷ 77 ∷ 59 ∷ 32 ∷ 84 ∷ 89 ∷ 80 ∷ 69 ∷ 32 ∷ 82 ∷ 32 ∷ 61 ∷ 32 ∷ 82 ∷ 69 ∷ 67 ∷ 79 ∷ 82 ∷ 68 ∷ 32 ∷ 110 ∷ 58 ∷ 32 ∷ 80 ∷ 79 ∷ 73 ∷ 78 ∷ 84 ∷ 69 ∷ 82 ∷ 32 ∷ 84 ∷ 79 ∷ 32 ∷ 82 ∷ 32 ∷ 69 ∷ 78 ∷ 68 ∷ 59 ∷ 32 ∷ 69 ∷ 78 ∷ 68 ∷ 32 ∷ 77 ∷ 46 ∷ []); symbols = (symbol (Ident) 0 6 ∷ symbol (Ident) 7 8 ∷ symbol (Ident) 8 9 ∷ symbol (Ident) 10 14 ∷ symbol (Ident) 15 16 ∷ symbol (Ident) 17 18 ∷ symbol (Ident) 19 25 ∷ symbol (Ident) 26 27 ∷ symbol (Ident) 27 28 ∷ symbol (Ident) 29 36 ∷ symbol (Ident) 37 39 ∷ symbol (Ident) 40 41 ∷ symbol (Ident) 42 45 ∷ symbol (Ident) 45 46 ∷ symbol (Ident) 47 50 ∷ symbol (Ident) 51 52 ∷ symbol (Ident) 52 53 ∷ []) }; tree = record { module_word = 0; name = 1; semicolon = 0; imports = None; decls = (S.decls None (Some (record { type_word = 0; each = (record { name = (record { name = 4; star = None }); equal = 0; is = (S.Record 6 None (S.fields (record { first = (record { name = 7; star = None }); more = [] }) 0 (S.Pointer 9 0 (S.Named (record { name = 11; member = None })))) S.no_more_fields 0); semicolon = 0 } ∷ []) })) None S.no_procedure); body = None; end_word = 0; end_name = 15; period = 0 } }

pub choice_forward_1 : checked (choice_forward_1_0 ∷ []) ≡ Legal (record { records = (record { module_number = 0; base = None; level = 0; fields = (record { name = (110 ∷ []); exported = false; shape = (H.Pointer 0) } ∷ []); cells = 1; extent = record { bytes = 8; wide = true } } ∷ []); pointers = (Some 0 ∷ []); modules = (record { name = (77 ∷ []); objects = (record { name = (82 ∷ []); exported = false; entity = I.OfType (H.Record 0) } ∷ []); variables = []; body = 0 } ∷ []); procedures = (record { module_number = 0; line = 1; is_body = true; formals = []; result = H.Nothing; locals = []; texts = []; body = I.no_statement; answer = None } ∷ []); imports_in = false })
choice_forward_1 = refl

-- MODULE M; TYPE L = POINTER TO RECORD n: L END; END M.
abbrev choice_forward_2_0 : Parsed
choice_forward_2_0 = record { source = record { bytes = (77 ∷ 79 ∷ 68 ∷ 85 ∷ 76 ∷ 69 ∷ 32 ∷ 77 ∷ 59 ∷ 32 ∷ 84 ∷ 89 ∷ 80 ∷ 69 ∷ 32 ∷ 76 ∷ 32 ∷ 61 ∷ 32 ∷ 80 ∷ 79 ∷ 73 ∷ 78 ∷ 84 ∷ 69 ∷ 82 ∷ 32 ∷ 84 ∷ 79 ∷ 32 ∷ 82 ∷ 69 ∷ 67 ∷ 79 ∷ 82 ∷ 68 ∷ 32 ∷ 110 ∷ 58 ∷ 32 ∷ 76 ∷ 32 ∷ 69 ∷ 78 ∷ 68 ∷ 59 ∷ 32 ∷ 69 ∷ 78 ∷ 68 ∷ 32 ∷ 77 ∷ 46 ∷ []); symbols = (symbol (Ident) 0 6 ∷ symbol (Ident) 7 8 ∷ symbol (Ident) 8 9 ∷ symbol (Ident) 10 14 ∷ symbol (Ident) 15 16 ∷ symbol (Ident) 17 18 ∷ symbol (Ident) 19 26 ∷ symbol (Ident) 27 29 ∷ symbol (Ident) 30 36 ∷ symbol (Ident) 37 38 ∷ symbol (Ident) 38 39 ∷ symbol (Ident) 40 41 ∷ symbol (Ident) 42 45 ∷ symbol (Ident) 45 46 ∷ symbol (Ident) 47 50 ∷ symbol (Ident) 51 52 ∷ symbol (Ident) 52 53 ∷ []) }; tree = record { module_word = 0; name = 1; semicolon = 0; imports = None; decls = (S.decls None (Some (record { type_word = 0; each = (record { name = (record { name = 4; star = None }); equal = 0; is = (S.Pointer 6 0 (S.Record 8 None (S.fields (record { first = (record { name = 9; star = None }); more = [] }) 0 (S.Named (record { name = 11; member = None }))) S.no_more_fields 0)); semicolon = 0 } ∷ []) })) None S.no_procedure); body = None; end_word = 0; end_name = 15; period = 0 } }

pub choice_forward_2 : checked (choice_forward_2_0 ∷ []) ≡ Fault 0 30 40
choice_forward_2 = refl

-- MODULE M; TYPE T = POINTER TO U; S = POINTER TO W; W = INTEGER; END M.
abbrev choice_forward_3_0 : Parsed
choice_forward_3_0 = record { source = record { bytes = (77 ∷ 79 ∷ 68 ∷ 85 ∷ 76 ∷ 69 ∷ 32 ∷ 77 ∷ 59 ∷ 32 ∷ 84 ∷ 89 ∷ 80 ∷ 69 ∷ 32 ∷ 84 ∷ 32 ∷ 61 ∷ 32 ∷ 80 ∷ 79 ∷ 73 ∷ 78 ∷ 84 ∷ 69 ∷ 82 ∷ 32 ∷ 84 ∷ 79 ∷ 32 ∷ 85 ∷ 59 ∷ 32 ∷ 83 ∷ 32 ∷ 61 ∷ 32 ∷ 80 ∷ 79 ∷ 73 ∷ 78 ∷ 84 ∷ 69 ∷ 82 ∷ 32 ∷ 84 ∷ 79 ∷ 32 ∷ 87 ∷ 59 ∷ 32 ∷ 87 ∷ 32 ∷ 61 ∷ 32 ∷ 73 ∷ 78 ∷ 84 ∷ 69 ∷ 71 ∷ 69 ∷ 82 ∷ 59 ∷ 32 ∷ 69 ∷ 78 ∷ 68 ∷ 32 ∷ 77 ∷ 46 ∷ []); symbols = (symbol (Ident) 0 6 ∷ symbol (Ident) 7 8 ∷ symbol (Ident) 8 9 ∷ symbol (Ident) 10 14 ∷ symbol (Ident) 15 16 ∷ symbol (Ident) 17 18 ∷ symbol (Ident) 19 26 ∷ symbol (Ident) 27 29 ∷ symbol (Ident) 30 31 ∷ symbol (Ident) 31 32 ∷ symbol (Ident) 33 34 ∷ symbol (Ident) 35 36 ∷ symbol (Ident) 37 44 ∷ symbol (Ident) 45 47 ∷ symbol (Ident) 48 49 ∷ symbol (Ident) 49 50 ∷ symbol (Ident) 51 52 ∷ symbol (Ident) 53 54 ∷ symbol (Ident) 55 62 ∷ symbol (Ident) 62 63 ∷ symbol (Ident) 64 67 ∷ symbol (Ident) 68 69 ∷ symbol (Ident) 69 70 ∷ []) }; tree = record { module_word = 0; name = 1; semicolon = 0; imports = None; decls = (S.decls None (Some (record { type_word = 0; each = (record { name = (record { name = 4; star = None }); equal = 0; is = (S.Pointer 6 0 (S.Named (record { name = 8; member = None }))); semicolon = 0 } ∷ record { name = (record { name = 10; star = None }); equal = 0; is = (S.Pointer 12 0 (S.Named (record { name = 14; member = None }))); semicolon = 0 } ∷ record { name = (record { name = 16; star = None }); equal = 0; is = (S.Named (record { name = 18; member = None })); semicolon = 0 } ∷ []) })) None S.no_procedure); body = None; end_word = 0; end_name = 21; period = 0 } }

pub choice_forward_3 : checked (choice_forward_3_0 ∷ []) ≡ Fault 0 30 30
choice_forward_3 = refl

-- MODULE M; TYPE R = RECORD END; PROCEDURE P; TYPE L = POINTER TO R; R = RECORD x: INTEGER END; VAR l: L; BEGIN l.x := 1 END P; END M.
abbrev choice_forward_4_0 : Parsed
choice_forward_4_0 = record { source = record { bytes = (77 ∷ 79 ∷ 68 ∷ 85 ∷ 76 ∷ 69 ∷ 32 ∷ 77 ∷ 59 ∷ 32 ∷ 84 ∷ 89 ∷ 80 ∷ 69 ∷ 32 ∷ 82 ∷ 32 ∷ 61 ∷ 32 ∷ 82 ∷ 69 ∷ 67 ∷ 79 ∷ 82 ∷ 68 ∷ 32 ∷ 69 ∷ 78 ∷ 68 ∷ 59 ∷ 32 ∷ 80 ∷ 82 ∷ 79 ∷ 67 ∷ 69 ∷ 68 ∷ 85 ∷ 82 ∷ 69 ∷ 32 ∷ 80 ∷ 59 ∷ 32 ∷ 84 ∷ 89 ∷ 80 ∷ 69 ∷ 32 ∷ 76 ∷ 32 ∷ 61 ∷ 32 ∷ 80 ∷ 79 ∷ 73 ∷ 78 ∷ 84 ∷ 69 ∷ 82 ∷ 32 ∷ 84 ∷ 79 ∷ 32 ∷ 82 ∷ 59 ∷ 32 ∷ 82 ∷ 32 ∷ 61 ∷ 32 ∷ 82 ∷ 69 ∷ 67 ∷ 79 ∷ 82 ∷ 68 ∷ 32 ∷ 120 ∷ 58 ∷ 32 ∷ 73 ∷ 78 ∷ 84 ∷ 69 ∷ 71 ∷ 69 ∷ 82 ∷ 32 ∷ 69 ∷ 78 ∷ 68 ∷ 59 ∷ 32 ∷ 86 ∷ 65 ∷ 82 ∷ 32 ∷ 108 ∷ 58 ∷ 32 ∷ 76 ∷ 59 ∷ 32 ∷ 66 ∷ 69 ∷ 71 ∷ 73 ∷ 78 ∷ 32 ∷ 108 ∷ 46 ∷ 120 ∷ 32 ∷ 58 ∷ 61 ∷ 32 ∷ 49 ∷ 32 ∷ 69 ∷ 78 ∷ 68 ∷ 32 ∷ 80 ∷ 59 ∷ 32 ∷ 69 ∷ 78 ∷ 68 ∷ 32 ∷ 77 ∷ 46 ∷ []); symbols = (symbol (Ident) 0 6 ∷ symbol (Ident) 7 8 ∷ symbol (Ident) 8 9 ∷ symbol (Ident) 10 14 ∷ symbol (Ident) 15 16 ∷ symbol (Ident) 17 18 ∷ symbol (Ident) 19 25 ∷ symbol (Ident) 26 29 ∷ symbol (Ident) 29 30 ∷ symbol (Ident) 31 40 ∷ symbol (Ident) 41 42 ∷ symbol (Ident) 42 43 ∷ symbol (Ident) 44 48 ∷ symbol (Ident) 49 50 ∷ symbol (Ident) 51 52 ∷ symbol (Ident) 53 60 ∷ symbol (Ident) 61 63 ∷ symbol (Ident) 64 65 ∷ symbol (Ident) 65 66 ∷ symbol (Ident) 67 68 ∷ symbol (Ident) 69 70 ∷ symbol (Ident) 71 77 ∷ symbol (Ident) 78 79 ∷ symbol (Ident) 79 80 ∷ symbol (Ident) 81 88 ∷ symbol (Ident) 89 92 ∷ symbol (Ident) 92 93 ∷ symbol (Ident) 94 97 ∷ symbol (Ident) 98 99 ∷ symbol (Ident) 99 100 ∷ symbol (Ident) 101 102 ∷ symbol (Ident) 102 103 ∷ symbol (Ident) 104 109 ∷ symbol (Ident) 110 111 ∷ symbol (Ident) 111 112 ∷ symbol (Ident) 112 113 ∷ symbol (Ident) 114 116 ∷ symbol (Int (pos 1)) 117 118 ∷ symbol (Ident) 119 122 ∷ symbol (Ident) 123 124 ∷ symbol (Ident) 124 125 ∷ symbol (Ident) 126 129 ∷ symbol (Ident) 130 131 ∷ symbol (Ident) 131 132 ∷ []) }; tree = record { module_word = 0; name = 1; semicolon = 0; imports = None; decls = (S.decls None (Some (record { type_word = 0; each = (record { name = (record { name = 4; star = None }); equal = 0; is = (S.Record 6 None S.no_fields S.no_more_fields 0); semicolon = 0 } ∷ []) })) None (S.procedure 0 (record { name = 10; star = None }) None 0 (S.decls None (Some (record { type_word = 0; each = (record { name = (record { name = 13; star = None }); equal = 0; is = (S.Pointer 15 0 (S.Named (record { name = 17; member = None }))); semicolon = 0 } ∷ record { name = (record { name = 19; star = None }); equal = 0; is = (S.Record 21 None (S.fields (record { first = (record { name = 22; star = None }); more = [] }) 0 (S.Named (record { name = 24; member = None }))) S.no_more_fields 0); semicolon = 0 } ∷ []) })) (Some (record { var_word = 0; each = (record { names = (record { first = (record { name = 28; star = None }); more = [] }); colon = 0; of = (S.Named (record { name = 30; member = None })); semicolon = 0 } ∷ []) })) S.no_procedure) (Some (record { begin_word = 0; stats = (S.stats (S.AssignOrCall (record { name = 33; selectors = (S.selected (S.Field 0 35) S.no_selector) }) (Some (record { becomes = 0; value = (S.only (S.simple None (S.term (S.Int 37) S.no_factor) S.no_term)) }))) S.no_stat) })) None 38 39 0 S.no_procedure)); body = None; end_word = 0; end_name = 42; period = 0 } }

pub choice_forward_4 : checked (choice_forward_4_0 ∷ []) ≡ Fault 0 30 112
choice_forward_4 = refl

-- MODULE M; TYPE R = RECORD x: INTEGER END; E = RECORD (R) y: INTEGER END; P = POINTER TO R; Q = POINTER TO E; VAR p: P; q: Q; BEGIN p(Q) := q END M.
abbrev choice_guard_1_0 : Parsed
choice_guard_1_0 = record { source = record { bytes = (77 ∷ 79 ∷ 68 ∷ 85 ∷ 76 ∷ 69 ∷ 32 ∷ 77 ∷ 59 ∷ 32 ∷ 84 ∷ 89 ∷ 80 ∷ 69 ∷ 32 ∷ 82 ∷ 32 ∷ 61 ∷ 32 ∷ 82 ∷ 69 ∷ 67 ∷ 79 ∷ 82 ∷ 68 ∷ 32 ∷ 120 ∷ 58 ∷ 32 ∷ 73 ∷ 78 ∷ 84 ∷ 69 ∷ 71 ∷ 69 ∷ 82 ∷ 32 ∷ 69 ∷ 78 ∷ 68 ∷ 59 ∷ 32 ∷ 69 ∷ 32 ∷ 61 ∷ 32 ∷ 82 ∷ 69 ∷ 67 ∷ 79 ∷ 82 ∷ 68 ∷ 32 ∷ 40 ∷ 82 ∷ 41 ∷ 32 ∷ 121 ∷ 58 ∷ 32 ∷ 73 ∷ 78 ∷ 84 ∷ 69 ∷ 71 ∷ 69 ∷ 82 ∷ 32 ∷ 69 ∷ 78 ∷ 68 ∷ 59 ∷ 32 ∷ 80 ∷ 32 ∷ 61 ∷ 32 ∷ 80 ∷ 79 ∷ 73 ∷ 78 ∷ 84 ∷ 69 ∷ 82 ∷ 32 ∷ 84 ∷ 79 ∷ 32 ∷ 82 ∷ 59 ∷ 32 ∷ 81 ∷ 32 ∷ 61 ∷ 32 ∷ 80 ∷ 79 ∷ 73 ∷ 78 ∷ 84 ∷ 69 ∷ 82 ∷ 32 ∷ 84 ∷ 79 ∷ 32 ∷ 69 ∷ 59 ∷ 32 ∷ 86 ∷ 65 ∷ 82 ∷ 32 ∷ 112 ∷ 58 ∷ 32 ∷ 80 ∷ 59 ∷ 32 ∷ 113 ∷ 58 ∷ 32 ∷ 81 ∷ 59 ∷ 32 ∷ 66 ∷ 69 ∷ 71 ∷ 73 ∷ 78 ∷ 32 ∷ 112 ∷ 40 ∷ 81 ∷ 41 ∷ 32 ∷ 58 ∷ 61 ∷ 32 ∷ 113 ∷ 32 ∷ 69 ∷ 78 ∷ 68 ∷ 32 ∷ 77 ∷ 46 ∷ []); symbols = (symbol (Ident) 0 6 ∷ symbol (Ident) 7 8 ∷ symbol (Ident) 8 9 ∷ symbol (Ident) 10 14 ∷ symbol (Ident) 15 16 ∷ symbol (Ident) 17 18 ∷ symbol (Ident) 19 25 ∷ symbol (Ident) 26 27 ∷ symbol (Ident) 27 28 ∷ symbol (Ident) 29 36 ∷ symbol (Ident) 37 40 ∷ symbol (Ident) 40 41 ∷ symbol (Ident) 42 43 ∷ symbol (Ident) 44 45 ∷ symbol (Ident) 46 52 ∷ symbol (Ident) 53 54 ∷ symbol (Ident) 54 55 ∷ symbol (Ident) 55 56 ∷ symbol (Ident) 57 58 ∷ symbol (Ident) 58 59 ∷ symbol (Ident) 60 67 ∷ symbol (Ident) 68 71 ∷ symbol (Ident) 71 72 ∷ symbol (Ident) 73 74 ∷ symbol (Ident) 75 76 ∷ symbol (Ident) 77 84 ∷ symbol (Ident) 85 87 ∷ symbol (Ident) 88 89 ∷ symbol (Ident) 89 90 ∷ symbol (Ident) 91 92 ∷ symbol (Ident) 93 94 ∷ symbol (Ident) 95 102 ∷ symbol (Ident) 103 105 ∷ symbol (Ident) 106 107 ∷ symbol (Ident) 107 108 ∷ symbol (Ident) 109 112 ∷ symbol (Ident) 113 114 ∷ symbol (Ident) 114 115 ∷ symbol (Ident) 116 117 ∷ symbol (Ident) 117 118 ∷ symbol (Ident) 119 120 ∷ symbol (Ident) 120 121 ∷ symbol (Ident) 122 123 ∷ symbol (Ident) 123 124 ∷ symbol (Ident) 125 130 ∷ symbol (Ident) 131 132 ∷ symbol (Ident) 132 133 ∷ symbol (Ident) 133 134 ∷ symbol (Ident) 134 135 ∷ symbol (Ident) 136 138 ∷ symbol (Ident) 139 140 ∷ symbol (Ident) 141 144 ∷ symbol (Ident) 145 146 ∷ symbol (Ident) 146 147 ∷ []) }; tree = record { module_word = 0; name = 1; semicolon = 0; imports = None; decls = (S.decls None (Some (record { type_word = 0; each = (record { name = (record { name = 4; star = None }); equal = 0; is = (S.Record 6 None (S.fields (record { first = (record { name = 7; star = None }); more = [] }) 0 (S.Named (record { name = 9; member = None }))) S.no_more_fields 0); semicolon = 0 } ∷ record { name = (record { name = 12; star = None }); equal = 0; is = (S.Record 14 (Some (record { left_paren = 0; name = (record { name = 16; member = None }); right_paren = 0 })) (S.fields (record { first = (record { name = 18; star = None }); more = [] }) 0 (S.Named (record { name = 20; member = None }))) S.no_more_fields 0); semicolon = 0 } ∷ record { name = (record { name = 23; star = None }); equal = 0; is = (S.Pointer 25 0 (S.Named (record { name = 27; member = None }))); semicolon = 0 } ∷ record { name = (record { name = 29; star = None }); equal = 0; is = (S.Pointer 31 0 (S.Named (record { name = 33; member = None }))); semicolon = 0 } ∷ []) })) (Some (record { var_word = 0; each = (record { names = (record { first = (record { name = 36; star = None }); more = [] }); colon = 0; of = (S.Named (record { name = 38; member = None })); semicolon = 0 } ∷ record { names = (record { first = (record { name = 40; star = None }); more = [] }); colon = 0; of = (S.Named (record { name = 42; member = None })); semicolon = 0 } ∷ []) })) S.no_procedure); body = (Some (record { begin_word = 0; stats = (S.stats (S.AssignOrCall (record { name = 45; selectors = (S.selected (S.Parens 0 (S.expressions (S.only (S.simple None (S.term (S.Designated 47 S.no_selector) S.no_factor) S.no_term)) S.no_expression) 0) S.no_selector) }) (Some (record { becomes = 0; value = (S.only (S.simple None (S.term (S.Designated 50 S.no_selector) S.no_factor) S.no_term)) }))) S.no_stat) })); end_word = 0; end_name = 52; period = 0 } }

pub choice_guard_1 : checked (choice_guard_1_0 ∷ []) ≡ Fault 0 31 131
choice_guard_1 = refl

-- MODULE M; TYPE R = RECORD x: INTEGER END; E = RECORD (R) y: INTEGER END; P = POINTER TO R; Q = POINTER TO E; VAR p: P; q: Q; PROCEDURE V(VAR q: Q); END V; BEGIN V(p(Q)) END M.
abbrev choice_guard_2_0 : Parsed
choice_guard_2_0 = record { source = record { bytes = (77 ∷ 79 ∷ 68 ∷ 85 ∷ 76 ∷ 69 ∷ 32 ∷ 77 ∷ 59 ∷ 32 ∷ 84 ∷ 89 ∷ 80 ∷ 69 ∷ 32 ∷ 82 ∷ 32 ∷ 61 ∷ 32 ∷ 82 ∷ 69 ∷ 67 ∷ 79 ∷ 82 ∷ 68 ∷ 32 ∷ 120 ∷ 58 ∷ 32 ∷ 73 ∷ 78 ∷ 84 ∷ 69 ∷ 71 ∷ 69 ∷ 82 ∷ 32 ∷ 69 ∷ 78 ∷ 68 ∷ 59 ∷ 32 ∷ 69 ∷ 32 ∷ 61 ∷ 32 ∷ 82 ∷ 69 ∷ 67 ∷ 79 ∷ 82 ∷ 68 ∷ 32 ∷ 40 ∷ 82 ∷ 41 ∷ 32 ∷ 121 ∷ 58 ∷ 32 ∷ 73 ∷ 78 ∷ 84 ∷ 69 ∷ 71 ∷ 69 ∷ 82 ∷ 32 ∷ 69 ∷ 78 ∷ 68 ∷ 59 ∷ 32 ∷ 80 ∷ 32 ∷ 61 ∷ 32 ∷ 80 ∷ 79 ∷ 73 ∷ 78 ∷ 84 ∷ 69 ∷ 82 ∷ 32 ∷ 84 ∷ 79 ∷ 32 ∷ 82 ∷ 59 ∷ 32 ∷ 81 ∷ 32 ∷ 61 ∷ 32 ∷ 80 ∷ 79 ∷ 73 ∷ 78 ∷ 84 ∷ 69 ∷ 82 ∷ 32 ∷ 84 ∷ 79 ∷ 32 ∷ 69 ∷ 59 ∷ 32 ∷ 86 ∷ 65 ∷ 82 ∷ 32 ∷ 112 ∷ 58 ∷ 32 ∷ 80 ∷ 59 ∷ 32 ∷ 113 ∷ 58 ∷ 32 ∷ 81 ∷ 59 ∷ 32 ∷ 80 ∷ 82 ∷ 79 ∷ 67 ∷ 69 ∷ 68 ∷ 85 ∷ 82 ∷ 69 ∷ 32 ∷ 86 ∷ 40 ∷ 86 ∷ 65 ∷ 82 ∷ 32 ∷ 113 ∷ 58 ∷ 32 ∷ 81 ∷ 41 ∷ 59 ∷ 32 ∷ 69 ∷ 78 ∷ 68 ∷ 32 ∷ 86 ∷ 59 ∷ 32 ∷ 66 ∷ 69 ∷ 71 ∷ 73 ∷ 78 ∷ 32 ∷ 86 ∷ 40 ∷ 112 ∷ 40 ∷ 81 ∷ 41 ∷ 41 ∷ 32 ∷ 69 ∷ 78 ∷ 68 ∷ 32 ∷ 77 ∷ 46 ∷ []); symbols = (symbol (Ident) 0 6 ∷ symbol (Ident) 7 8 ∷ symbol (Ident) 8 9 ∷ symbol (Ident) 10 14 ∷ symbol (Ident) 15 16 ∷ symbol (Ident) 17 18 ∷ symbol (Ident) 19 25 ∷ symbol (Ident) 26 27 ∷ symbol (Ident) 27 28 ∷ symbol (Ident) 29 36 ∷ symbol (Ident) 37 40 ∷ symbol (Ident) 40 41 ∷ symbol (Ident) 42 43 ∷ symbol (Ident) 44 45 ∷ symbol (Ident) 46 52 ∷ symbol (Ident) 53 54 ∷ symbol (Ident) 54 55 ∷ symbol (Ident) 55 56 ∷ symbol (Ident) 57 58 ∷ symbol (Ident) 58 59 ∷ symbol (Ident) 60 67 ∷ symbol (Ident) 68 71 ∷ symbol (Ident) 71 72 ∷ symbol (Ident) 73 74 ∷ symbol (Ident) 75 76 ∷ symbol (Ident) 77 84 ∷ symbol (Ident) 85 87 ∷ symbol (Ident) 88 89 ∷ symbol (Ident) 89 90 ∷ symbol (Ident) 91 92 ∷ symbol (Ident) 93 94 ∷ symbol (Ident) 95 102 ∷ symbol (Ident) 103 105 ∷ symbol (Ident) 106 107 ∷ symbol (Ident) 107 108 ∷ symbol (Ident) 109 112 ∷ symbol (Ident) 113 114 ∷ symbol (Ident) 114 115 ∷ symbol (Ident) 116 117 ∷ symbol (Ident) 117 118 ∷ symbol (Ident) 119 120 ∷ symbol (Ident) 120 121 ∷ symbol (Ident) 122 123 ∷ symbol (Ident) 123 124 ∷ symbol (Ident) 125 134 ∷ symbol (Ident) 135 136 ∷ symbol (Ident) 136 137 ∷ symbol (Ident) 137 140 ∷ symbol (Ident) 141 142 ∷ symbol (Ident) 142 143 ∷ symbol (Ident) 144 145 ∷ symbol (Ident) 145 146 ∷ symbol (Ident) 146 147 ∷ symbol (Ident) 148 151 ∷ symbol (Ident) 152 153 ∷ symbol (Ident) 153 154 ∷ symbol (Ident) 155 160 ∷ symbol (Ident) 161 162 ∷ symbol (Ident) 162 163 ∷ symbol (Ident) 163 164 ∷ symbol (Ident) 164 165 ∷ symbol (Ident) 165 166 ∷ symbol (Ident) 166 167 ∷ symbol (Ident) 167 168 ∷ symbol (Ident) 169 172 ∷ symbol (Ident) 173 174 ∷ symbol (Ident) 174 175 ∷ []) }; tree = record { module_word = 0; name = 1; semicolon = 0; imports = None; decls = (S.decls None (Some (record { type_word = 0; each = (record { name = (record { name = 4; star = None }); equal = 0; is = (S.Record 6 None (S.fields (record { first = (record { name = 7; star = None }); more = [] }) 0 (S.Named (record { name = 9; member = None }))) S.no_more_fields 0); semicolon = 0 } ∷ record { name = (record { name = 12; star = None }); equal = 0; is = (S.Record 14 (Some (record { left_paren = 0; name = (record { name = 16; member = None }); right_paren = 0 })) (S.fields (record { first = (record { name = 18; star = None }); more = [] }) 0 (S.Named (record { name = 20; member = None }))) S.no_more_fields 0); semicolon = 0 } ∷ record { name = (record { name = 23; star = None }); equal = 0; is = (S.Pointer 25 0 (S.Named (record { name = 27; member = None }))); semicolon = 0 } ∷ record { name = (record { name = 29; star = None }); equal = 0; is = (S.Pointer 31 0 (S.Named (record { name = 33; member = None }))); semicolon = 0 } ∷ []) })) (Some (record { var_word = 0; each = (record { names = (record { first = (record { name = 36; star = None }); more = [] }); colon = 0; of = (S.Named (record { name = 38; member = None })); semicolon = 0 } ∷ record { names = (record { first = (record { name = 40; star = None }); more = [] }); colon = 0; of = (S.Named (record { name = 42; member = None })); semicolon = 0 } ∷ []) })) (S.procedure 0 (record { name = 45; star = None }) (Some (record { left_paren = 0; sections = Some (record { first = (record { var_word = Some 0; first = 48; more = []; colon = 0; open_array = None; of = (record { name = 50; member = None }) }); more = [] }); right_paren = 0; result = None })) 0 (S.decls None None None S.no_procedure) None None 53 54 0 S.no_procedure)); body = (Some (record { begin_word = 0; stats = (S.stats (S.AssignOrCall (record { name = 57; selectors = (S.selected (S.Parens 0 (S.expressions (S.only (S.simple None (S.term (S.Designated 59 (S.selected (S.Parens 0 (S.expressions (S.only (S.simple None (S.term (S.Designated 61 S.no_selector) S.no_factor) S.no_term)) S.no_expression) 0) S.no_selector)) S.no_factor) S.no_term)) S.no_expression) 0) S.no_selector) }) None) S.no_stat) })); end_word = 0; end_name = 65; period = 0 } }

pub choice_guard_2 : checked (choice_guard_2_0 ∷ []) ≡ Fault 0 40 163
choice_guard_2 = refl

-- MODULE M; TYPE R = RECORD x: INTEGER END; E = RECORD (R) y: INTEGER END; P = POINTER TO R; Q = POINTER TO E; VAR p: P; q: Q; PROCEDURE U(VAR r: R; e: E); BEGIN r(E) := e; r(E).y := 1 END U; END M.
abbrev choice_guard_3_0 : Parsed
choice_guard_3_0 = record { source = record { bytes = (77 ∷ 79 ∷ 68 ∷ 85 ∷ 76 ∷ 69 ∷ 32 ∷ 77 ∷ 59 ∷ 32 ∷ 84 ∷ 89 ∷ 80 ∷ 69 ∷ 32 ∷ 82 ∷ 32 ∷ 61 ∷ 32 ∷ 82 ∷ 69 ∷ 67 ∷ 79 ∷ 82 ∷ 68 ∷ 32 ∷ 120 ∷ 58 ∷ 32 ∷ 73 ∷ 78 ∷ 84 ∷ 69 ∷ 71 ∷ 69 ∷ 82 ∷ 32 ∷ 69 ∷ 78 ∷ 68 ∷ 59 ∷ 32 ∷ 69 ∷ 32 ∷ 61 ∷ 32 ∷ 82 ∷ 69 ∷ 67 ∷ 79 ∷ 82 ∷ 68 ∷ 32 ∷ 40 ∷ 82 ∷ 41 ∷ 32 ∷ 121 ∷ 58 ∷ 32 ∷ 73 ∷ 78 ∷ 84 ∷ 69 ∷ 71 ∷ 69 ∷ 82 ∷ 32 ∷ 69 ∷ 78 ∷ 68 ∷ 59 ∷ 32 ∷ 80 ∷ 32 ∷ 61 ∷ 32 ∷ 80 ∷ 79 ∷ 73 ∷ 78 ∷ 84 ∷ 69 ∷ 82 ∷ 32 ∷ 84 ∷ 79 ∷ 32 ∷ 82 ∷ 59 ∷ 32 ∷ 81 ∷ 32 ∷ 61 ∷ 32 ∷ 80 ∷ 79 ∷ 73 ∷ 78 ∷ 84 ∷ 69 ∷ 82 ∷ 32 ∷ 84 ∷ 79 ∷ 32 ∷ 69 ∷ 59 ∷ 32 ∷ 86 ∷ 65 ∷ 82 ∷ 32 ∷ 112 ∷ 58 ∷ 32 ∷ 80 ∷ 59 ∷ 32 ∷ 113 ∷ 58 ∷ 32 ∷ 81 ∷ 59 ∷ 32 ∷ 80 ∷ 82 ∷ 79 ∷ 67 ∷ 69 ∷ 68 ∷ 85 ∷ 82 ∷ 69 ∷ 32 ∷ 85 ∷ 40 ∷ 86 ∷ 65 ∷ 82 ∷ 32 ∷ 114 ∷ 58 ∷ 32 ∷ 82 ∷ 59 ∷ 32 ∷ 101 ∷ 58 ∷ 32 ∷ 69 ∷ 41 ∷ 59 ∷ 32 ∷ 66 ∷ 69 ∷ 71 ∷ 73 ∷ 78 ∷ 32 ∷ 114 ∷ 40 ∷ 69 ∷ 41 ∷ 32 ∷ 58 ∷ 61 ∷ 32 ∷ 101 ∷ 59 ∷ 32 ∷ 114 ∷ 40 ∷ 69 ∷ 41 ∷ 46 ∷ 121 ∷ 32 ∷ 58 ∷ 61 ∷ 32 ∷ 49 ∷ 32 ∷ 69 ∷ 78 ∷ 68 ∷ 32 ∷ 85 ∷ 59 ∷ 32 ∷ 69 ∷ 78 ∷ 68 ∷ 32 ∷ 77 ∷ 46 ∷ []); symbols = (symbol (Ident) 0 6 ∷ symbol (Ident) 7 8 ∷ symbol (Ident) 8 9 ∷ symbol (Ident) 10 14 ∷ symbol (Ident) 15 16 ∷ symbol (Ident) 17 18 ∷ symbol (Ident) 19 25 ∷ symbol (Ident) 26 27 ∷ symbol (Ident) 27 28 ∷ symbol (Ident) 29 36 ∷ symbol (Ident) 37 40 ∷ symbol (Ident) 40 41 ∷ symbol (Ident) 42 43 ∷ symbol (Ident) 44 45 ∷ symbol (Ident) 46 52 ∷ symbol (Ident) 53 54 ∷ symbol (Ident) 54 55 ∷ symbol (Ident) 55 56 ∷ symbol (Ident) 57 58 ∷ symbol (Ident) 58 59 ∷ symbol (Ident) 60 67 ∷ symbol (Ident) 68 71 ∷ symbol (Ident) 71 72 ∷ symbol (Ident) 73 74 ∷ symbol (Ident) 75 76 ∷ symbol (Ident) 77 84 ∷ symbol (Ident) 85 87 ∷ symbol (Ident) 88 89 ∷ symbol (Ident) 89 90 ∷ symbol (Ident) 91 92 ∷ symbol (Ident) 93 94 ∷ symbol (Ident) 95 102 ∷ symbol (Ident) 103 105 ∷ symbol (Ident) 106 107 ∷ symbol (Ident) 107 108 ∷ symbol (Ident) 109 112 ∷ symbol (Ident) 113 114 ∷ symbol (Ident) 114 115 ∷ symbol (Ident) 116 117 ∷ symbol (Ident) 117 118 ∷ symbol (Ident) 119 120 ∷ symbol (Ident) 120 121 ∷ symbol (Ident) 122 123 ∷ symbol (Ident) 123 124 ∷ symbol (Ident) 125 134 ∷ symbol (Ident) 135 136 ∷ symbol (Ident) 136 137 ∷ symbol (Ident) 137 140 ∷ symbol (Ident) 141 142 ∷ symbol (Ident) 142 143 ∷ symbol (Ident) 144 145 ∷ symbol (Ident) 145 146 ∷ symbol (Ident) 147 148 ∷ symbol (Ident) 148 149 ∷ symbol (Ident) 150 151 ∷ symbol (Ident) 151 152 ∷ symbol (Ident) 152 153 ∷ symbol (Ident) 154 159 ∷ symbol (Ident) 160 161 ∷ symbol (Ident) 161 162 ∷ symbol (Ident) 162 163 ∷ symbol (Ident) 163 164 ∷ symbol (Ident) 165 167 ∷ symbol (Ident) 168 169 ∷ symbol (Ident) 169 170 ∷ symbol (Ident) 171 172 ∷ symbol (Ident) 172 173 ∷ symbol (Ident) 173 174 ∷ symbol (Ident) 174 175 ∷ symbol (Ident) 175 176 ∷ symbol (Ident) 176 177 ∷ symbol (Ident) 178 180 ∷ symbol (Int (pos 1)) 181 182 ∷ symbol (Ident) 183 186 ∷ symbol (Ident) 187 188 ∷ symbol (Ident) 188 189 ∷ symbol (Ident) 190 193 ∷ symbol (Ident) 194 195 ∷ symbol (Ident) 195 196 ∷ []) }; tree = record { module_word = 0; name = 1; semicolon = 0; imports = None; decls = (S.decls None (Some (record { type_word = 0; each = (record { name = (record { name = 4; star = None }); equal = 0; is = (S.Record 6 None (S.fields (record { first = (record { name = 7; star = None }); more = [] }) 0 (S.Named (record { name = 9; member = None }))) S.no_more_fields 0); semicolon = 0 } ∷ record { name = (record { name = 12; star = None }); equal = 0; is = (S.Record 14 (Some (record { left_paren = 0; name = (record { name = 16; member = None }); right_paren = 0 })) (S.fields (record { first = (record { name = 18; star = None }); more = [] }) 0 (S.Named (record { name = 20; member = None }))) S.no_more_fields 0); semicolon = 0 } ∷ record { name = (record { name = 23; star = None }); equal = 0; is = (S.Pointer 25 0 (S.Named (record { name = 27; member = None }))); semicolon = 0 } ∷ record { name = (record { name = 29; star = None }); equal = 0; is = (S.Pointer 31 0 (S.Named (record { name = 33; member = None }))); semicolon = 0 } ∷ []) })) (Some (record { var_word = 0; each = (record { names = (record { first = (record { name = 36; star = None }); more = [] }); colon = 0; of = (S.Named (record { name = 38; member = None })); semicolon = 0 } ∷ record { names = (record { first = (record { name = 40; star = None }); more = [] }); colon = 0; of = (S.Named (record { name = 42; member = None })); semicolon = 0 } ∷ []) })) (S.procedure 0 (record { name = 45; star = None }) (Some (record { left_paren = 0; sections = Some (record { first = (record { var_word = Some 0; first = 48; more = []; colon = 0; open_array = None; of = (record { name = 50; member = None }) }); more = (record { semicolon = 0; section = (record { var_word = None; first = 52; more = []; colon = 0; open_array = None; of = (record { name = 54; member = None }) }) } ∷ []) }); right_paren = 0; result = None })) 0 (S.decls None None None S.no_procedure) (Some (record { begin_word = 0; stats = (S.stats (S.AssignOrCall (record { name = 58; selectors = (S.selected (S.Parens 0 (S.expressions (S.only (S.simple None (S.term (S.Designated 60 S.no_selector) S.no_factor) S.no_term)) S.no_expression) 0) S.no_selector) }) (Some (record { becomes = 0; value = (S.only (S.simple None (S.term (S.Designated 63 S.no_selector) S.no_factor) S.no_term)) }))) (S.next_stat 0 (S.AssignOrCall (record { name = 65; selectors = (S.selected (S.Parens 0 (S.expressions (S.only (S.simple None (S.term (S.Designated 67 S.no_selector) S.no_factor) S.no_term)) S.no_expression) 0) (S.selected (S.Field 0 70) S.no_selector)) }) (Some (record { becomes = 0; value = (S.only (S.simple None (S.term (S.Int 72) S.no_factor) S.no_term)) }))) S.no_stat)) })) None 73 74 0 S.no_procedure)); body = None; end_word = 0; end_name = 77; period = 0 } }

pub choice_guard_3 : checked (choice_guard_3_0 ∷ []) ≡ Legal (record { records = (record { module_number = 0; base = None; level = 0; fields = (record { name = (120 ∷ []); exported = false; shape = H.Integer } ∷ []); cells = 1; extent = record { bytes = 8; wide = true } } ∷ record { module_number = 0; base = (Some 0); level = 1; fields = (record { name = (121 ∷ []); exported = false; shape = H.Integer } ∷ []); cells = 2; extent = record { bytes = 16; wide = true } } ∷ []); pointers = (Some 0 ∷ Some 1 ∷ []); modules = (record { name = (77 ∷ []); objects = (record { name = (82 ∷ []); exported = false; entity = I.OfType (H.Record 0) } ∷ record { name = (69 ∷ []); exported = false; entity = I.OfType (H.Record 1) } ∷ record { name = (80 ∷ []); exported = false; entity = I.OfType (H.Pointer 0) } ∷ record { name = (81 ∷ []); exported = false; entity = I.OfType (H.Pointer 1) } ∷ record { name = (112 ∷ []); exported = false; entity = I.OfVariable 0 } ∷ record { name = (113 ∷ []); exported = false; entity = I.OfVariable 1 } ∷ record { name = (85 ∷ []); exported = false; entity = I.OfProcedure 0 } ∷ []); variables = ((H.Pointer 0) ∷ (H.Pointer 1) ∷ []); body = 1 } ∷ []); procedures = (record { module_number = 0; line = 1; is_body = false; formals = (record { mode = TheMode.Record; variable = true; shape = (H.Record 0) } ∷ record { mode = TheMode.Place; variable = false; shape = (H.Record 1) } ∷ []); result = H.Nothing; locals = []; texts = []; body = (I.next_statement (I.CopyRecord (I.of_type (I.Narrow (I.Parameter 0) 1) (H.Record 1)) (I.of_type (I.Parameter 1) (H.Record 1))) (I.next_statement (I.Assign (I.of_type (I.Field (I.Narrow (I.Parameter 0) 1) 1 0) H.Integer) (record { form = (I.Literal 1); shape = H.Integer })) I.no_statement)); answer = None } ∷ record { module_number = 0; line = 1; is_body = true; formals = []; result = H.Nothing; locals = []; texts = []; body = I.no_statement; answer = None } ∷ []); imports_in = false })
choice_guard_3 = refl

-- MODULE M; VAR b: BOOLEAN; BEGIN b := NIL = NIL END M.
abbrev choice_nil_1_0 : Parsed
choice_nil_1_0 = record { source = record { bytes = (77 ∷ 79 ∷ 68 ∷ 85 ∷ 76 ∷ 69 ∷ 32 ∷ 77 ∷ 59 ∷ 32 ∷ 86 ∷ 65 ∷ 82 ∷ 32 ∷ 98 ∷ 58 ∷ 32 ∷ 66 ∷ 79 ∷ 79 ∷ 76 ∷ 69 ∷ 65 ∷ 78 ∷ 59 ∷ 32 ∷ 66 ∷ 69 ∷ 71 ∷ 73 ∷ 78 ∷ 32 ∷ 98 ∷ 32 ∷ 58 ∷ 61 ∷ 32 ∷ 78 ∷ 73 ∷ 76 ∷ 32 ∷ 61 ∷ 32 ∷ 78 ∷ 73 ∷ 76 ∷ 32 ∷ 69 ∷ 78 ∷ 68 ∷ 32 ∷ 77 ∷ 46 ∷ []); symbols = (symbol (Ident) 0 6 ∷ symbol (Ident) 7 8 ∷ symbol (Ident) 8 9 ∷ symbol (Ident) 10 13 ∷ symbol (Ident) 14 15 ∷ symbol (Ident) 15 16 ∷ symbol (Ident) 17 24 ∷ symbol (Ident) 24 25 ∷ symbol (Ident) 26 31 ∷ symbol (Ident) 32 33 ∷ symbol (Ident) 34 36 ∷ symbol (Ident) 37 40 ∷ symbol (Ident) 41 42 ∷ symbol (Ident) 43 46 ∷ symbol (Ident) 47 50 ∷ symbol (Ident) 51 52 ∷ symbol (Ident) 52 53 ∷ []) }; tree = record { module_word = 0; name = 1; semicolon = 0; imports = None; decls = (S.decls None None (Some (record { var_word = 0; each = (record { names = (record { first = (record { name = 4; star = None }); more = [] }); colon = 0; of = (S.Named (record { name = 6; member = None })); semicolon = 0 } ∷ []) })) S.no_procedure); body = (Some (record { begin_word = 0; stats = (S.stats (S.AssignOrCall (record { name = 9; selectors = S.no_selector }) (Some (record { becomes = 0; value = (S.compared (S.simple None (S.term (S.Nil 11) S.no_factor) S.no_term) (TheRelation.Equal 12) (S.simple None (S.term (S.Nil 13) S.no_factor) S.no_term)) }))) S.no_stat) })); end_word = 0; end_name = 15; period = 0 } }

pub choice_nil_1 : checked (choice_nil_1_0 ∷ []) ≡ Fault 0 31 41
choice_nil_1 = refl

-- MODULE M; VAR b: BOOLEAN; BEGIN b := NIL # NIL END M.
abbrev choice_nil_2_0 : Parsed
choice_nil_2_0 = record { source = record { bytes = (77 ∷ 79 ∷ 68 ∷ 85 ∷ 76 ∷ 69 ∷ 32 ∷ 77 ∷ 59 ∷ 32 ∷ 86 ∷ 65 ∷ 82 ∷ 32 ∷ 98 ∷ 58 ∷ 32 ∷ 66 ∷ 79 ∷ 79 ∷ 76 ∷ 69 ∷ 65 ∷ 78 ∷ 59 ∷ 32 ∷ 66 ∷ 69 ∷ 71 ∷ 73 ∷ 78 ∷ 32 ∷ 98 ∷ 32 ∷ 58 ∷ 61 ∷ 32 ∷ 78 ∷ 73 ∷ 76 ∷ 32 ∷ 35 ∷ 32 ∷ 78 ∷ 73 ∷ 76 ∷ 32 ∷ 69 ∷ 78 ∷ 68 ∷ 32 ∷ 77 ∷ 46 ∷ []); symbols = (symbol (Ident) 0 6 ∷ symbol (Ident) 7 8 ∷ symbol (Ident) 8 9 ∷ symbol (Ident) 10 13 ∷ symbol (Ident) 14 15 ∷ symbol (Ident) 15 16 ∷ symbol (Ident) 17 24 ∷ symbol (Ident) 24 25 ∷ symbol (Ident) 26 31 ∷ symbol (Ident) 32 33 ∷ symbol (Ident) 34 36 ∷ symbol (Ident) 37 40 ∷ symbol (Ident) 41 42 ∷ symbol (Ident) 43 46 ∷ symbol (Ident) 47 50 ∷ symbol (Ident) 51 52 ∷ symbol (Ident) 52 53 ∷ []) }; tree = record { module_word = 0; name = 1; semicolon = 0; imports = None; decls = (S.decls None None (Some (record { var_word = 0; each = (record { names = (record { first = (record { name = 4; star = None }); more = [] }); colon = 0; of = (S.Named (record { name = 6; member = None })); semicolon = 0 } ∷ []) })) S.no_procedure); body = (Some (record { begin_word = 0; stats = (S.stats (S.AssignOrCall (record { name = 9; selectors = S.no_selector }) (Some (record { becomes = 0; value = (S.compared (S.simple None (S.term (S.Nil 11) S.no_factor) S.no_term) (TheRelation.NotEqual 12) (S.simple None (S.term (S.Nil 13) S.no_factor) S.no_term)) }))) S.no_stat) })); end_word = 0; end_name = 15; period = 0 } }

pub choice_nil_2 : checked (choice_nil_2_0 ∷ []) ≡ Fault 0 31 41
choice_nil_2 = refl

-- MODULE M; VAR b: BOOLEAN; PROCEDURE P; PROCEDURE L; END L; BEGIN b := L = P END P; END M.
abbrev choice_nil_3_0 : Parsed
choice_nil_3_0 = record { source = record { bytes = (77 ∷ 79 ∷ 68 ∷ 85 ∷ 76 ∷ 69 ∷ 32 ∷ 77 ∷ 59 ∷ 32 ∷ 86 ∷ 65 ∷ 82 ∷ 32 ∷ 98 ∷ 58 ∷ 32 ∷ 66 ∷ 79 ∷ 79 ∷ 76 ∷ 69 ∷ 65 ∷ 78 ∷ 59 ∷ 32 ∷ 80 ∷ 82 ∷ 79 ∷ 67 ∷ 69 ∷ 68 ∷ 85 ∷ 82 ∷ 69 ∷ 32 ∷ 80 ∷ 59 ∷ 32 ∷ 80 ∷ 82 ∷ 79 ∷ 67 ∷ 69 ∷ 68 ∷ 85 ∷ 82 ∷ 69 ∷ 32 ∷ 76 ∷ 59 ∷ 32 ∷ 69 ∷ 78 ∷ 68 ∷ 32 ∷ 76 ∷ 59 ∷ 32 ∷ 66 ∷ 69 ∷ 71 ∷ 73 ∷ 78 ∷ 32 ∷ 98 ∷ 32 ∷ 58 ∷ 61 ∷ 32 ∷ 76 ∷ 32 ∷ 61 ∷ 32 ∷ 80 ∷ 32 ∷ 69 ∷ 78 ∷ 68 ∷ 32 ∷ 80 ∷ 59 ∷ 32 ∷ 69 ∷ 78 ∷ 68 ∷ 32 ∷ 77 ∷ 46 ∷ []); symbols = (symbol (Ident) 0 6 ∷ symbol (Ident) 7 8 ∷ symbol (Ident) 8 9 ∷ symbol (Ident) 10 13 ∷ symbol (Ident) 14 15 ∷ symbol (Ident) 15 16 ∷ symbol (Ident) 17 24 ∷ symbol (Ident) 24 25 ∷ symbol (Ident) 26 35 ∷ symbol (Ident) 36 37 ∷ symbol (Ident) 37 38 ∷ symbol (Ident) 39 48 ∷ symbol (Ident) 49 50 ∷ symbol (Ident) 50 51 ∷ symbol (Ident) 52 55 ∷ symbol (Ident) 56 57 ∷ symbol (Ident) 57 58 ∷ symbol (Ident) 59 64 ∷ symbol (Ident) 65 66 ∷ symbol (Ident) 67 69 ∷ symbol (Ident) 70 71 ∷ symbol (Ident) 72 73 ∷ symbol (Ident) 74 75 ∷ symbol (Ident) 76 79 ∷ symbol (Ident) 80 81 ∷ symbol (Ident) 81 82 ∷ symbol (Ident) 83 86 ∷ symbol (Ident) 87 88 ∷ symbol (Ident) 88 89 ∷ []) }; tree = record { module_word = 0; name = 1; semicolon = 0; imports = None; decls = (S.decls None None (Some (record { var_word = 0; each = (record { names = (record { first = (record { name = 4; star = None }); more = [] }); colon = 0; of = (S.Named (record { name = 6; member = None })); semicolon = 0 } ∷ []) })) (S.procedure 0 (record { name = 9; star = None }) None 0 (S.decls None None None (S.procedure 0 (record { name = 12; star = None }) None 0 (S.decls None None None S.no_procedure) None None 14 15 0 S.no_procedure)) (Some (record { begin_word = 0; stats = (S.stats (S.AssignOrCall (record { name = 18; selectors = S.no_selector }) (Some (record { becomes = 0; value = (S.compared (S.simple None (S.term (S.Designated 20 S.no_selector) S.no_factor) S.no_term) (TheRelation.Equal 21) (S.simple None (S.term (S.Designated 22 S.no_selector) S.no_factor) S.no_term)) }))) S.no_stat) })) None 23 24 0 S.no_procedure)); body = None; end_word = 0; end_name = 27; period = 0 } }

pub choice_nil_3 : checked (choice_nil_3_0 ∷ []) ≡ Legal (record { records = []; pointers = []; modules = (record { name = (77 ∷ []); objects = (record { name = (98 ∷ []); exported = false; entity = I.OfVariable 0 } ∷ record { name = (80 ∷ []); exported = false; entity = I.OfProcedure 0 } ∷ []); variables = (H.Boolean ∷ []); body = 2 } ∷ []); procedures = (record { module_number = 0; line = 1; is_body = false; formals = []; result = H.Nothing; locals = []; texts = []; body = (I.next_statement (I.Assign (I.of_type (I.Global 0 0) H.Boolean) (record { form = (I.Compare TheComparison.Equal (I.Routine 1) (I.Routine 0)); shape = H.Boolean })) I.no_statement); answer = None } ∷ record { module_number = 0; line = 1; is_body = false; formals = []; result = H.Nothing; locals = []; texts = []; body = I.no_statement; answer = None } ∷ record { module_number = 0; line = 1; is_body = true; formals = []; result = H.Nothing; locals = []; texts = []; body = I.no_statement; answer = None } ∷ []); imports_in = false })
choice_nil_3 = refl

-- MODULE M; VAR f: PROCEDURE; BEGIN f := ASSERT END M.
abbrev choice_nil_4_0 : Parsed
choice_nil_4_0 = record { source = record { bytes = (77 ∷ 79 ∷ 68 ∷ 85 ∷ 76 ∷ 69 ∷ 32 ∷ 77 ∷ 59 ∷ 32 ∷ 86 ∷ 65 ∷ 82 ∷ 32 ∷ 102 ∷ 58 ∷ 32 ∷ 80 ∷ 82 ∷ 79 ∷ 67 ∷ 69 ∷ 68 ∷ 85 ∷ 82 ∷ 69 ∷ 59 ∷ 32 ∷ 66 ∷ 69 ∷ 71 ∷ 73 ∷ 78 ∷ 32 ∷ 102 ∷ 32 ∷ 58 ∷ 61 ∷ 32 ∷ 65 ∷ 83 ∷ 83 ∷ 69 ∷ 82 ∷ 84 ∷ 32 ∷ 69 ∷ 78 ∷ 68 ∷ 32 ∷ 77 ∷ 46 ∷ []); symbols = (symbol (Ident) 0 6 ∷ symbol (Ident) 7 8 ∷ symbol (Ident) 8 9 ∷ symbol (Ident) 10 13 ∷ symbol (Ident) 14 15 ∷ symbol (Ident) 15 16 ∷ symbol (Ident) 17 26 ∷ symbol (Ident) 26 27 ∷ symbol (Ident) 28 33 ∷ symbol (Ident) 34 35 ∷ symbol (Ident) 36 38 ∷ symbol (Ident) 39 45 ∷ symbol (Ident) 46 49 ∷ symbol (Ident) 50 51 ∷ symbol (Ident) 51 52 ∷ []) }; tree = record { module_word = 0; name = 1; semicolon = 0; imports = None; decls = (S.decls None None (Some (record { var_word = 0; each = (record { names = (record { first = (record { name = 4; star = None }); more = [] }); colon = 0; of = (S.Procedure 6 None); semicolon = 0 } ∷ []) })) S.no_procedure); body = (Some (record { begin_word = 0; stats = (S.stats (S.AssignOrCall (record { name = 9; selectors = S.no_selector }) (Some (record { becomes = 0; value = (S.only (S.simple None (S.term (S.Designated 11 S.no_selector) S.no_factor) S.no_term)) }))) S.no_stat) })); end_word = 0; end_name = 13; period = 0 } }

pub choice_nil_4 : checked (choice_nil_4_0 ∷ []) ≡ Fault 0 31 39
choice_nil_4 = refl

-- MODULE M; VAR s: ARRAY 3 OF CHAR; BEGIN s := 41X END M.
abbrev choice_characters_1_0 : Parsed
choice_characters_1_0 = record { source = record { bytes = (77 ∷ 79 ∷ 68 ∷ 85 ∷ 76 ∷ 69 ∷ 32 ∷ 77 ∷ 59 ∷ 32 ∷ 86 ∷ 65 ∷ 82 ∷ 32 ∷ 115 ∷ 58 ∷ 32 ∷ 65 ∷ 82 ∷ 82 ∷ 65 ∷ 89 ∷ 32 ∷ 51 ∷ 32 ∷ 79 ∷ 70 ∷ 32 ∷ 67 ∷ 72 ∷ 65 ∷ 82 ∷ 59 ∷ 32 ∷ 66 ∷ 69 ∷ 71 ∷ 73 ∷ 78 ∷ 32 ∷ 115 ∷ 32 ∷ 58 ∷ 61 ∷ 32 ∷ 52 ∷ 49 ∷ 88 ∷ 32 ∷ 69 ∷ 78 ∷ 68 ∷ 32 ∷ 77 ∷ 46 ∷ []); symbols = (symbol (Ident) 0 6 ∷ symbol (Ident) 7 8 ∷ symbol (Ident) 8 9 ∷ symbol (Ident) 10 13 ∷ symbol (Ident) 14 15 ∷ symbol (Ident) 15 16 ∷ symbol (Ident) 17 22 ∷ symbol (Int (pos 3)) 23 24 ∷ symbol (Ident) 25 27 ∷ symbol (Ident) 28 32 ∷ symbol (Ident) 32 33 ∷ symbol (Ident) 34 39 ∷ symbol (Ident) 40 41 ∷ symbol (Ident) 42 44 ∷ symbol (TheKind.Char 65) 45 48 ∷ symbol (Ident) 49 52 ∷ symbol (Ident) 53 54 ∷ symbol (Ident) 54 55 ∷ []) }; tree = record { module_word = 0; name = 1; semicolon = 0; imports = None; decls = (S.decls None None (Some (record { var_word = 0; each = (record { names = (record { first = (record { name = 4; star = None }); more = [] }); colon = 0; of = (S.Array 6 (S.only (S.simple None (S.term (S.Int 7) S.no_factor) S.no_term)) S.no_expression 0 (S.Named (record { name = 9; member = None }))); semicolon = 0 } ∷ []) })) S.no_procedure); body = (Some (record { begin_word = 0; stats = (S.stats (S.AssignOrCall (record { name = 12; selectors = S.no_selector }) (Some (record { becomes = 0; value = (S.only (S.simple None (S.term (S.Char 14) S.no_factor) S.no_term)) }))) S.no_stat) })); end_word = 0; end_name = 16; period = 0 } }

pub choice_characters_1 : checked (choice_characters_1_0 ∷ []) ≡ Fault 0 31 45
choice_characters_1 = refl

-- MODULE M; VAR s: ARRAY 3 OF CHAR; b: BOOLEAN; BEGIN b := s = 41X END M.
abbrev choice_characters_2_0 : Parsed
choice_characters_2_0 = record { source = record { bytes = (77 ∷ 79 ∷ 68 ∷ 85 ∷ 76 ∷ 69 ∷ 32 ∷ 77 ∷ 59 ∷ 32 ∷ 86 ∷ 65 ∷ 82 ∷ 32 ∷ 115 ∷ 58 ∷ 32 ∷ 65 ∷ 82 ∷ 82 ∷ 65 ∷ 89 ∷ 32 ∷ 51 ∷ 32 ∷ 79 ∷ 70 ∷ 32 ∷ 67 ∷ 72 ∷ 65 ∷ 82 ∷ 59 ∷ 32 ∷ 98 ∷ 58 ∷ 32 ∷ 66 ∷ 79 ∷ 79 ∷ 76 ∷ 69 ∷ 65 ∷ 78 ∷ 59 ∷ 32 ∷ 66 ∷ 69 ∷ 71 ∷ 73 ∷ 78 ∷ 32 ∷ 98 ∷ 32 ∷ 58 ∷ 61 ∷ 32 ∷ 115 ∷ 32 ∷ 61 ∷ 32 ∷ 52 ∷ 49 ∷ 88 ∷ 32 ∷ 69 ∷ 78 ∷ 68 ∷ 32 ∷ 77 ∷ 46 ∷ []); symbols = (symbol (Ident) 0 6 ∷ symbol (Ident) 7 8 ∷ symbol (Ident) 8 9 ∷ symbol (Ident) 10 13 ∷ symbol (Ident) 14 15 ∷ symbol (Ident) 15 16 ∷ symbol (Ident) 17 22 ∷ symbol (Int (pos 3)) 23 24 ∷ symbol (Ident) 25 27 ∷ symbol (Ident) 28 32 ∷ symbol (Ident) 32 33 ∷ symbol (Ident) 34 35 ∷ symbol (Ident) 35 36 ∷ symbol (Ident) 37 44 ∷ symbol (Ident) 44 45 ∷ symbol (Ident) 46 51 ∷ symbol (Ident) 52 53 ∷ symbol (Ident) 54 56 ∷ symbol (Ident) 57 58 ∷ symbol (Ident) 59 60 ∷ symbol (TheKind.Char 65) 61 64 ∷ symbol (Ident) 65 68 ∷ symbol (Ident) 69 70 ∷ symbol (Ident) 70 71 ∷ []) }; tree = record { module_word = 0; name = 1; semicolon = 0; imports = None; decls = (S.decls None None (Some (record { var_word = 0; each = (record { names = (record { first = (record { name = 4; star = None }); more = [] }); colon = 0; of = (S.Array 6 (S.only (S.simple None (S.term (S.Int 7) S.no_factor) S.no_term)) S.no_expression 0 (S.Named (record { name = 9; member = None }))); semicolon = 0 } ∷ record { names = (record { first = (record { name = 11; star = None }); more = [] }); colon = 0; of = (S.Named (record { name = 13; member = None })); semicolon = 0 } ∷ []) })) S.no_procedure); body = (Some (record { begin_word = 0; stats = (S.stats (S.AssignOrCall (record { name = 16; selectors = S.no_selector }) (Some (record { becomes = 0; value = (S.compared (S.simple None (S.term (S.Designated 18 S.no_selector) S.no_factor) S.no_term) (TheRelation.Equal 19) (S.simple None (S.term (S.Char 20) S.no_factor) S.no_term)) }))) S.no_stat) })); end_word = 0; end_name = 22; period = 0 } }

pub choice_characters_2 : checked (choice_characters_2_0 ∷ []) ≡ Fault 0 31 59
choice_characters_2 = refl

-- MODULE M; VAR s: ARRAY 3 OF CHAR; c: CHAR; BEGIN s := ''a''; c := ''a''; c := 41X END M.
abbrev choice_characters_3_0 : Parsed
choice_characters_3_0 = record { source = record { bytes = (77 ∷ 79 ∷ 68 ∷ 85 ∷ 76 ∷ 69 ∷ 32 ∷ 77 ∷ 59 ∷ 32 ∷ 86 ∷ 65 ∷ 82 ∷ 32 ∷ 115 ∷ 58 ∷ 32 ∷ 65 ∷ 82 ∷ 82 ∷ 65 ∷ 89 ∷ 32 ∷ 51 ∷ 32 ∷ 79 ∷ 70 ∷ 32 ∷ 67 ∷ 72 ∷ 65 ∷ 82 ∷ 59 ∷ 32 ∷ 99 ∷ 58 ∷ 32 ∷ 67 ∷ 72 ∷ 65 ∷ 82 ∷ 59 ∷ 32 ∷ 66 ∷ 69 ∷ 71 ∷ 73 ∷ 78 ∷ 32 ∷ 115 ∷ 32 ∷ 58 ∷ 61 ∷ 32 ∷ 34 ∷ 97 ∷ 34 ∷ 59 ∷ 32 ∷ 99 ∷ 32 ∷ 58 ∷ 61 ∷ 32 ∷ 34 ∷ 97 ∷ 34 ∷ 59 ∷ 32 ∷ 99 ∷ 32 ∷ 58 ∷ 61 ∷ 32 ∷ 52 ∷ 49 ∷ 88 ∷ 32 ∷ 69 ∷ 78 ∷ 68 ∷ 32 ∷ 77 ∷ 46 ∷ []); symbols = (symbol (Ident) 0 6 ∷ symbol (Ident) 7 8 ∷ symbol (Ident) 8 9 ∷ symbol (Ident) 10 13 ∷ symbol (Ident) 14 15 ∷ symbol (Ident) 15 16 ∷ symbol (Ident) 17 22 ∷ symbol (Int (pos 3)) 23 24 ∷ symbol (Ident) 25 27 ∷ symbol (Ident) 28 32 ∷ symbol (Ident) 32 33 ∷ symbol (Ident) 34 35 ∷ symbol (Ident) 35 36 ∷ symbol (Ident) 37 41 ∷ symbol (Ident) 41 42 ∷ symbol (Ident) 43 48 ∷ symbol (Ident) 49 50 ∷ symbol (Ident) 51 53 ∷ symbol (TheKind.Text) 54 57 ∷ symbol (Ident) 57 58 ∷ symbol (Ident) 59 60 ∷ symbol (Ident) 61 63 ∷ symbol (TheKind.Text) 64 67 ∷ symbol (Ident) 67 68 ∷ symbol (Ident) 69 70 ∷ symbol (Ident) 71 73 ∷ symbol (TheKind.Char 65) 74 77 ∷ symbol (Ident) 78 81 ∷ symbol (Ident) 82 83 ∷ symbol (Ident) 83 84 ∷ []) }; tree = record { module_word = 0; name = 1; semicolon = 0; imports = None; decls = (S.decls None None (Some (record { var_word = 0; each = (record { names = (record { first = (record { name = 4; star = None }); more = [] }); colon = 0; of = (S.Array 6 (S.only (S.simple None (S.term (S.Int 7) S.no_factor) S.no_term)) S.no_expression 0 (S.Named (record { name = 9; member = None }))); semicolon = 0 } ∷ record { names = (record { first = (record { name = 11; star = None }); more = [] }); colon = 0; of = (S.Named (record { name = 13; member = None })); semicolon = 0 } ∷ []) })) S.no_procedure); body = (Some (record { begin_word = 0; stats = (S.stats (S.AssignOrCall (record { name = 16; selectors = S.no_selector }) (Some (record { becomes = 0; value = (S.only (S.simple None (S.term (S.Text 18) S.no_factor) S.no_term)) }))) (S.next_stat 0 (S.AssignOrCall (record { name = 20; selectors = S.no_selector }) (Some (record { becomes = 0; value = (S.only (S.simple None (S.term (S.Text 22) S.no_factor) S.no_term)) }))) (S.next_stat 0 (S.AssignOrCall (record { name = 24; selectors = S.no_selector }) (Some (record { becomes = 0; value = (S.only (S.simple None (S.term (S.Char 26) S.no_factor) S.no_term)) }))) S.no_stat))) })); end_word = 0; end_name = 28; period = 0 } }

pub choice_characters_3 : checked (choice_characters_3_0 ∷ []) ≡ Legal (record { records = []; pointers = []; modules = (record { name = (77 ∷ []); objects = (record { name = (115 ∷ []); exported = false; entity = I.OfVariable 0 } ∷ record { name = (99 ∷ []); exported = false; entity = I.OfVariable 1 } ∷ []); variables = ((H.Array 3 H.Char) ∷ H.Char ∷ []); body = 0 } ∷ []); procedures = (record { module_number = 0; line = 1; is_body = true; formals = []; result = H.Nothing; locals = []; texts = ((97 ∷ []) ∷ []); body = (I.next_statement (I.CopyArray (I.of_type (I.Global 0 0) (H.Array 3 H.Char)) (I.of_type (I.Text (97 ∷ [])) (H.Text 1))) (I.next_statement (I.Assign (I.of_type (I.Global 0 1) H.Char) (record { form = (I.Literal 97); shape = H.Char })) (I.next_statement (I.Assign (I.of_type (I.Global 0 1) H.Char) (record { form = (I.Literal 65); shape = H.Char })) I.no_statement))); answer = None } ∷ []); imports_in = false })
choice_characters_3 = refl

-- MODULE M; TYPE R = RECORD x: INTEGER END; E = RECORD (R) y: INTEGER END; P = POINTER TO R; Q = POINTER TO E; VAR p: P; q: Q; BEGIN CASE (p) OF Q: END END M.
abbrev choice_selectors_1_0 : Parsed
choice_selectors_1_0 = record { source = record { bytes = (77 ∷ 79 ∷ 68 ∷ 85 ∷ 76 ∷ 69 ∷ 32 ∷ 77 ∷ 59 ∷ 32 ∷ 84 ∷ 89 ∷ 80 ∷ 69 ∷ 32 ∷ 82 ∷ 32 ∷ 61 ∷ 32 ∷ 82 ∷ 69 ∷ 67 ∷ 79 ∷ 82 ∷ 68 ∷ 32 ∷ 120 ∷ 58 ∷ 32 ∷ 73 ∷ 78 ∷ 84 ∷ 69 ∷ 71 ∷ 69 ∷ 82 ∷ 32 ∷ 69 ∷ 78 ∷ 68 ∷ 59 ∷ 32 ∷ 69 ∷ 32 ∷ 61 ∷ 32 ∷ 82 ∷ 69 ∷ 67 ∷ 79 ∷ 82 ∷ 68 ∷ 32 ∷ 40 ∷ 82 ∷ 41 ∷ 32 ∷ 121 ∷ 58 ∷ 32 ∷ 73 ∷ 78 ∷ 84 ∷ 69 ∷ 71 ∷ 69 ∷ 82 ∷ 32 ∷ 69 ∷ 78 ∷ 68 ∷ 59 ∷ 32 ∷ 80 ∷ 32 ∷ 61 ∷ 32 ∷ 80 ∷ 79 ∷ 73 ∷ 78 ∷ 84 ∷ 69 ∷ 82 ∷ 32 ∷ 84 ∷ 79 ∷ 32 ∷ 82 ∷ 59 ∷ 32 ∷ 81 ∷ 32 ∷ 61 ∷ 32 ∷ 80 ∷ 79 ∷ 73 ∷ 78 ∷ 84 ∷ 69 ∷ 82 ∷ 32 ∷ 84 ∷ 79 ∷ 32 ∷ 69 ∷ 59 ∷ 32 ∷ 86 ∷ 65 ∷ 82 ∷ 32 ∷ 112 ∷ 58 ∷ 32 ∷ 80 ∷ 59 ∷ 32 ∷ 113 ∷ 58 ∷ 32 ∷ 81 ∷ 59 ∷ 32 ∷ 66 ∷ 69 ∷ 71 ∷ 73 ∷ 78 ∷ 32 ∷ 67 ∷ 65 ∷ 83 ∷ 69 ∷ 32 ∷ 40 ∷ 112 ∷ 41 ∷ 32 ∷ 79 ∷ 70 ∷ 32 ∷ 81 ∷ 58 ∷ 32 ∷ 69 ∷ 78 ∷ 68 ∷ 32 ∷ 69 ∷ 78 ∷ 68 ∷ 32 ∷ 77 ∷ 46 ∷ []); symbols = (symbol (Ident) 0 6 ∷ symbol (Ident) 7 8 ∷ symbol (Ident) 8 9 ∷ symbol (Ident) 10 14 ∷ symbol (Ident) 15 16 ∷ symbol (Ident) 17 18 ∷ symbol (Ident) 19 25 ∷ symbol (Ident) 26 27 ∷ symbol (Ident) 27 28 ∷ symbol (Ident) 29 36 ∷ symbol (Ident) 37 40 ∷ symbol (Ident) 40 41 ∷ symbol (Ident) 42 43 ∷ symbol (Ident) 44 45 ∷ symbol (Ident) 46 52 ∷ symbol (Ident) 53 54 ∷ symbol (Ident) 54 55 ∷ symbol (Ident) 55 56 ∷ symbol (Ident) 57 58 ∷ symbol (Ident) 58 59 ∷ symbol (Ident) 60 67 ∷ symbol (Ident) 68 71 ∷ symbol (Ident) 71 72 ∷ symbol (Ident) 73 74 ∷ symbol (Ident) 75 76 ∷ symbol (Ident) 77 84 ∷ symbol (Ident) 85 87 ∷ symbol (Ident) 88 89 ∷ symbol (Ident) 89 90 ∷ symbol (Ident) 91 92 ∷ symbol (Ident) 93 94 ∷ symbol (Ident) 95 102 ∷ symbol (Ident) 103 105 ∷ symbol (Ident) 106 107 ∷ symbol (Ident) 107 108 ∷ symbol (Ident) 109 112 ∷ symbol (Ident) 113 114 ∷ symbol (Ident) 114 115 ∷ symbol (Ident) 116 117 ∷ symbol (Ident) 117 118 ∷ symbol (Ident) 119 120 ∷ symbol (Ident) 120 121 ∷ symbol (Ident) 122 123 ∷ symbol (Ident) 123 124 ∷ symbol (Ident) 125 130 ∷ symbol (Ident) 131 135 ∷ symbol (Ident) 136 137 ∷ symbol (Ident) 137 138 ∷ symbol (Ident) 138 139 ∷ symbol (Ident) 140 142 ∷ symbol (Ident) 143 144 ∷ symbol (Ident) 144 145 ∷ symbol (Ident) 146 149 ∷ symbol (Ident) 150 153 ∷ symbol (Ident) 154 155 ∷ symbol (Ident) 155 156 ∷ []) }; tree = record { module_word = 0; name = 1; semicolon = 0; imports = None; decls = (S.decls None (Some (record { type_word = 0; each = (record { name = (record { name = 4; star = None }); equal = 0; is = (S.Record 6 None (S.fields (record { first = (record { name = 7; star = None }); more = [] }) 0 (S.Named (record { name = 9; member = None }))) S.no_more_fields 0); semicolon = 0 } ∷ record { name = (record { name = 12; star = None }); equal = 0; is = (S.Record 14 (Some (record { left_paren = 0; name = (record { name = 16; member = None }); right_paren = 0 })) (S.fields (record { first = (record { name = 18; star = None }); more = [] }) 0 (S.Named (record { name = 20; member = None }))) S.no_more_fields 0); semicolon = 0 } ∷ record { name = (record { name = 23; star = None }); equal = 0; is = (S.Pointer 25 0 (S.Named (record { name = 27; member = None }))); semicolon = 0 } ∷ record { name = (record { name = 29; star = None }); equal = 0; is = (S.Pointer 31 0 (S.Named (record { name = 33; member = None }))); semicolon = 0 } ∷ []) })) (Some (record { var_word = 0; each = (record { names = (record { first = (record { name = 36; star = None }); more = [] }); colon = 0; of = (S.Named (record { name = 38; member = None })); semicolon = 0 } ∷ record { names = (record { first = (record { name = 40; star = None }); more = [] }); colon = 0; of = (S.Named (record { name = 42; member = None })); semicolon = 0 } ∷ []) })) S.no_procedure); body = (Some (record { begin_word = 0; stats = (S.stats (S.Case 0 (S.only (S.simple None (S.term (S.Paren 46 (S.only (S.simple None (S.term (S.Designated 47 S.no_selector) S.no_factor) S.no_term)) 0) S.no_factor) S.no_term)) 0 (S.one_case (record { low = TheLabel.Named (record { name = 50; member = None }); high = None }) [] 0 (S.stats S.Empty S.no_stat)) S.no_next_case 0) S.no_stat) })); end_word = 0; end_name = 54; period = 0 } }

pub choice_selectors_1 : checked (choice_selectors_1_0 ∷ []) ≡ Fault 0 31 136
choice_selectors_1 = refl

-- MODULE M; TYPE R = RECORD x: INTEGER END; E = RECORD (R) y: INTEGER END; P = POINTER TO R; Q = POINTER TO E; VAR p: P; q: Q; PROCEDURE U(r: R); BEGIN CASE r OF E: END END U; END M.
abbrev choice_selectors_2_0 : Parsed
choice_selectors_2_0 = record { source = record { bytes = (77 ∷ 79 ∷ 68 ∷ 85 ∷ 76 ∷ 69 ∷ 32 ∷ 77 ∷ 59 ∷ 32 ∷ 84 ∷ 89 ∷ 80 ∷ 69 ∷ 32 ∷ 82 ∷ 32 ∷ 61 ∷ 32 ∷ 82 ∷ 69 ∷ 67 ∷ 79 ∷ 82 ∷ 68 ∷ 32 ∷ 120 ∷ 58 ∷ 32 ∷ 73 ∷ 78 ∷ 84 ∷ 69 ∷ 71 ∷ 69 ∷ 82 ∷ 32 ∷ 69 ∷ 78 ∷ 68 ∷ 59 ∷ 32 ∷ 69 ∷ 32 ∷ 61 ∷ 32 ∷ 82 ∷ 69 ∷ 67 ∷ 79 ∷ 82 ∷ 68 ∷ 32 ∷ 40 ∷ 82 ∷ 41 ∷ 32 ∷ 121 ∷ 58 ∷ 32 ∷ 73 ∷ 78 ∷ 84 ∷ 69 ∷ 71 ∷ 69 ∷ 82 ∷ 32 ∷ 69 ∷ 78 ∷ 68 ∷ 59 ∷ 32 ∷ 80 ∷ 32 ∷ 61 ∷ 32 ∷ 80 ∷ 79 ∷ 73 ∷ 78 ∷ 84 ∷ 69 ∷ 82 ∷ 32 ∷ 84 ∷ 79 ∷ 32 ∷ 82 ∷ 59 ∷ 32 ∷ 81 ∷ 32 ∷ 61 ∷ 32 ∷ 80 ∷ 79 ∷ 73 ∷ 78 ∷ 84 ∷ 69 ∷ 82 ∷ 32 ∷ 84 ∷ 79 ∷ 32 ∷ 69 ∷ 59 ∷ 32 ∷ 86 ∷ 65 ∷ 82 ∷ 32 ∷ 112 ∷ 58 ∷ 32 ∷ 80 ∷ 59 ∷ 32 ∷ 113 ∷ 58 ∷ 32 ∷ 81 ∷ 59 ∷ 32 ∷ 80 ∷ 82 ∷ 79 ∷ 67 ∷ 69 ∷ 68 ∷ 85 ∷ 82 ∷ 69 ∷ 32 ∷ 85 ∷ 40 ∷ 114 ∷ 58 ∷ 32 ∷ 82 ∷ 41 ∷ 59 ∷ 32 ∷ 66 ∷ 69 ∷ 71 ∷ 73 ∷ 78 ∷ 32 ∷ 67 ∷ 65 ∷ 83 ∷ 69 ∷ 32 ∷ 114 ∷ 32 ∷ 79 ∷ 70 ∷ 32 ∷ 69 ∷ 58 ∷ 32 ∷ 69 ∷ 78 ∷ 68 ∷ 32 ∷ 69 ∷ 78 ∷ 68 ∷ 32 ∷ 85 ∷ 59 ∷ 32 ∷ 69 ∷ 78 ∷ 68 ∷ 32 ∷ 77 ∷ 46 ∷ []); symbols = (symbol (Ident) 0 6 ∷ symbol (Ident) 7 8 ∷ symbol (Ident) 8 9 ∷ symbol (Ident) 10 14 ∷ symbol (Ident) 15 16 ∷ symbol (Ident) 17 18 ∷ symbol (Ident) 19 25 ∷ symbol (Ident) 26 27 ∷ symbol (Ident) 27 28 ∷ symbol (Ident) 29 36 ∷ symbol (Ident) 37 40 ∷ symbol (Ident) 40 41 ∷ symbol (Ident) 42 43 ∷ symbol (Ident) 44 45 ∷ symbol (Ident) 46 52 ∷ symbol (Ident) 53 54 ∷ symbol (Ident) 54 55 ∷ symbol (Ident) 55 56 ∷ symbol (Ident) 57 58 ∷ symbol (Ident) 58 59 ∷ symbol (Ident) 60 67 ∷ symbol (Ident) 68 71 ∷ symbol (Ident) 71 72 ∷ symbol (Ident) 73 74 ∷ symbol (Ident) 75 76 ∷ symbol (Ident) 77 84 ∷ symbol (Ident) 85 87 ∷ symbol (Ident) 88 89 ∷ symbol (Ident) 89 90 ∷ symbol (Ident) 91 92 ∷ symbol (Ident) 93 94 ∷ symbol (Ident) 95 102 ∷ symbol (Ident) 103 105 ∷ symbol (Ident) 106 107 ∷ symbol (Ident) 107 108 ∷ symbol (Ident) 109 112 ∷ symbol (Ident) 113 114 ∷ symbol (Ident) 114 115 ∷ symbol (Ident) 116 117 ∷ symbol (Ident) 117 118 ∷ symbol (Ident) 119 120 ∷ symbol (Ident) 120 121 ∷ symbol (Ident) 122 123 ∷ symbol (Ident) 123 124 ∷ symbol (Ident) 125 134 ∷ symbol (Ident) 135 136 ∷ symbol (Ident) 136 137 ∷ symbol (Ident) 137 138 ∷ symbol (Ident) 138 139 ∷ symbol (Ident) 140 141 ∷ symbol (Ident) 141 142 ∷ symbol (Ident) 142 143 ∷ symbol (Ident) 144 149 ∷ symbol (Ident) 150 154 ∷ symbol (Ident) 155 156 ∷ symbol (Ident) 157 159 ∷ symbol (Ident) 160 161 ∷ symbol (Ident) 161 162 ∷ symbol (Ident) 163 166 ∷ symbol (Ident) 167 170 ∷ symbol (Ident) 171 172 ∷ symbol (Ident) 172 173 ∷ symbol (Ident) 174 177 ∷ symbol (Ident) 178 179 ∷ symbol (Ident) 179 180 ∷ []) }; tree = record { module_word = 0; name = 1; semicolon = 0; imports = None; decls = (S.decls None (Some (record { type_word = 0; each = (record { name = (record { name = 4; star = None }); equal = 0; is = (S.Record 6 None (S.fields (record { first = (record { name = 7; star = None }); more = [] }) 0 (S.Named (record { name = 9; member = None }))) S.no_more_fields 0); semicolon = 0 } ∷ record { name = (record { name = 12; star = None }); equal = 0; is = (S.Record 14 (Some (record { left_paren = 0; name = (record { name = 16; member = None }); right_paren = 0 })) (S.fields (record { first = (record { name = 18; star = None }); more = [] }) 0 (S.Named (record { name = 20; member = None }))) S.no_more_fields 0); semicolon = 0 } ∷ record { name = (record { name = 23; star = None }); equal = 0; is = (S.Pointer 25 0 (S.Named (record { name = 27; member = None }))); semicolon = 0 } ∷ record { name = (record { name = 29; star = None }); equal = 0; is = (S.Pointer 31 0 (S.Named (record { name = 33; member = None }))); semicolon = 0 } ∷ []) })) (Some (record { var_word = 0; each = (record { names = (record { first = (record { name = 36; star = None }); more = [] }); colon = 0; of = (S.Named (record { name = 38; member = None })); semicolon = 0 } ∷ record { names = (record { first = (record { name = 40; star = None }); more = [] }); colon = 0; of = (S.Named (record { name = 42; member = None })); semicolon = 0 } ∷ []) })) (S.procedure 0 (record { name = 45; star = None }) (Some (record { left_paren = 0; sections = Some (record { first = (record { var_word = None; first = 47; more = []; colon = 0; open_array = None; of = (record { name = 49; member = None }) }); more = [] }); right_paren = 0; result = None })) 0 (S.decls None None None S.no_procedure) (Some (record { begin_word = 0; stats = (S.stats (S.Case 0 (S.only (S.simple None (S.term (S.Designated 54 S.no_selector) S.no_factor) S.no_term)) 0 (S.one_case (record { low = TheLabel.Named (record { name = 56; member = None }); high = None }) [] 0 (S.stats S.Empty S.no_stat)) S.no_next_case 0) S.no_stat) })) None 59 60 0 S.no_procedure)); body = None; end_word = 0; end_name = 63; period = 0 } }

pub choice_selectors_2 : checked (choice_selectors_2_0 ∷ []) ≡ Fault 0 31 155
choice_selectors_2 = refl

-- MODULE M; VAR y: BYTE; BEGIN CASE y OF 1000: | 3: END END M.
abbrev choice_selectors_4_0 : Parsed
choice_selectors_4_0 = record { source = record { bytes = (77 ∷ 79 ∷ 68 ∷ 85 ∷ 76 ∷ 69 ∷ 32 ∷ 77 ∷ 59 ∷ 32 ∷ 86 ∷ 65 ∷ 82 ∷ 32 ∷ 121 ∷ 58 ∷ 32 ∷ 66 ∷ 89 ∷ 84 ∷ 69 ∷ 59 ∷ 32 ∷ 66 ∷ 69 ∷ 71 ∷ 73 ∷ 78 ∷ 32 ∷ 67 ∷ 65 ∷ 83 ∷ 69 ∷ 32 ∷ 121 ∷ 32 ∷ 79 ∷ 70 ∷ 32 ∷ 49 ∷ 48 ∷ 48 ∷ 48 ∷ 58 ∷ 32 ∷ 124 ∷ 32 ∷ 51 ∷ 58 ∷ 32 ∷ 69 ∷ 78 ∷ 68 ∷ 32 ∷ 69 ∷ 78 ∷ 68 ∷ 32 ∷ 77 ∷ 46 ∷ []); symbols = (symbol (Ident) 0 6 ∷ symbol (Ident) 7 8 ∷ symbol (Ident) 8 9 ∷ symbol (Ident) 10 13 ∷ symbol (Ident) 14 15 ∷ symbol (Ident) 15 16 ∷ symbol (Ident) 17 21 ∷ symbol (Ident) 21 22 ∷ symbol (Ident) 23 28 ∷ symbol (Ident) 29 33 ∷ symbol (Ident) 34 35 ∷ symbol (Ident) 36 38 ∷ symbol (Int (pos 1000)) 39 43 ∷ symbol (Ident) 43 44 ∷ symbol (Ident) 45 46 ∷ symbol (Int (pos 3)) 47 48 ∷ symbol (Ident) 48 49 ∷ symbol (Ident) 50 53 ∷ symbol (Ident) 54 57 ∷ symbol (Ident) 58 59 ∷ symbol (Ident) 59 60 ∷ []) }; tree = record { module_word = 0; name = 1; semicolon = 0; imports = None; decls = (S.decls None None (Some (record { var_word = 0; each = (record { names = (record { first = (record { name = 4; star = None }); more = [] }); colon = 0; of = (S.Named (record { name = 6; member = None })); semicolon = 0 } ∷ []) })) S.no_procedure); body = (Some (record { begin_word = 0; stats = (S.stats (S.Case 0 (S.only (S.simple None (S.term (S.Designated 10 S.no_selector) S.no_factor) S.no_term)) 0 (S.one_case (record { low = TheLabel.Int 12; high = None }) [] 0 (S.stats S.Empty S.no_stat)) (S.next_case 0 (S.one_case (record { low = TheLabel.Int 15; high = None }) [] 0 (S.stats S.Empty S.no_stat)) S.no_next_case) 0) S.no_stat) })); end_word = 0; end_name = 19; period = 0 } }

pub choice_selectors_4 : checked (choice_selectors_4_0 ∷ []) ≡ Legal (record { records = []; pointers = []; modules = (record { name = (77 ∷ []); objects = (record { name = (121 ∷ []); exported = false; entity = I.OfVariable 0 } ∷ []); variables = (H.Byte ∷ []); body = 0 } ∷ []); procedures = (record { module_number = 0; line = 1; is_body = true; formals = []; result = H.Nothing; locals = []; texts = []; body = (I.next_statement (I.Case (record { form = (I.Load (I.of_type (I.Global 0 0) H.Byte)); shape = H.Byte }) (I.next_part (I.Labels (TheLabelOf.One (pos 1000) ∷ [])) I.no_statement (I.next_part (I.Labels (TheLabelOf.One (pos 3) ∷ [])) I.no_statement I.no_part))) I.no_statement); answer = None } ∷ []); imports_in = false })
choice_selectors_4 = refl

-- MODULE M; VAR c: CHAR; BEGIN CASE c OF END END M.
abbrev choice_selectors_5_0 : Parsed
choice_selectors_5_0 = record { source = record { bytes = (77 ∷ 79 ∷ 68 ∷ 85 ∷ 76 ∷ 69 ∷ 32 ∷ 77 ∷ 59 ∷ 32 ∷ 86 ∷ 65 ∷ 82 ∷ 32 ∷ 99 ∷ 58 ∷ 32 ∷ 67 ∷ 72 ∷ 65 ∷ 82 ∷ 59 ∷ 32 ∷ 66 ∷ 69 ∷ 71 ∷ 73 ∷ 78 ∷ 32 ∷ 67 ∷ 65 ∷ 83 ∷ 69 ∷ 32 ∷ 99 ∷ 32 ∷ 79 ∷ 70 ∷ 32 ∷ 69 ∷ 78 ∷ 68 ∷ 32 ∷ 69 ∷ 78 ∷ 68 ∷ 32 ∷ 77 ∷ 46 ∷ []); symbols = (symbol (Ident) 0 6 ∷ symbol (Ident) 7 8 ∷ symbol (Ident) 8 9 ∷ symbol (Ident) 10 13 ∷ symbol (Ident) 14 15 ∷ symbol (Ident) 15 16 ∷ symbol (Ident) 17 21 ∷ symbol (Ident) 21 22 ∷ symbol (Ident) 23 28 ∷ symbol (Ident) 29 33 ∷ symbol (Ident) 34 35 ∷ symbol (Ident) 36 38 ∷ symbol (Ident) 39 42 ∷ symbol (Ident) 43 46 ∷ symbol (Ident) 47 48 ∷ symbol (Ident) 48 49 ∷ []) }; tree = record { module_word = 0; name = 1; semicolon = 0; imports = None; decls = (S.decls None None (Some (record { var_word = 0; each = (record { names = (record { first = (record { name = 4; star = None }); more = [] }); colon = 0; of = (S.Named (record { name = 6; member = None })); semicolon = 0 } ∷ []) })) S.no_procedure); body = (Some (record { begin_word = 0; stats = (S.stats (S.Case 0 (S.only (S.simple None (S.term (S.Designated 10 S.no_selector) S.no_factor) S.no_term)) 0 S.no_case S.no_next_case 0) S.no_stat) })); end_word = 0; end_name = 14; period = 0 } }

pub choice_selectors_5 : checked (choice_selectors_5_0 ∷ []) ≡ Legal (record { records = []; pointers = []; modules = (record { name = (77 ∷ []); objects = (record { name = (99 ∷ []); exported = false; entity = I.OfVariable 0 } ∷ []); variables = (H.Char ∷ []); body = 0 } ∷ []); procedures = (record { module_number = 0; line = 1; is_body = true; formals = []; result = H.Nothing; locals = []; texts = []; body = (I.next_statement (I.Case (record { form = (I.Load (I.of_type (I.Global 0 0) H.Char)); shape = H.Char }) I.no_part) I.no_statement); answer = None } ∷ []); imports_in = false })
choice_selectors_5 = refl

-- MODULE A; TYPE R* = RECORD x*: INTEGER END; VAR p*: POINTER TO R; r*: R; a*: ARRAY 2 OF R; END A.
abbrev choice_selectors_6_0 : Parsed
choice_selectors_6_0 = record { source = record { bytes = (77 ∷ 79 ∷ 68 ∷ 85 ∷ 76 ∷ 69 ∷ 32 ∷ 65 ∷ 59 ∷ 32 ∷ 84 ∷ 89 ∷ 80 ∷ 69 ∷ 32 ∷ 82 ∷ 42 ∷ 32 ∷ 61 ∷ 32 ∷ 82 ∷ 69 ∷ 67 ∷ 79 ∷ 82 ∷ 68 ∷ 32 ∷ 120 ∷ 42 ∷ 58 ∷ 32 ∷ 73 ∷ 78 ∷ 84 ∷ 69 ∷ 71 ∷ 69 ∷ 82 ∷ 32 ∷ 69 ∷ 78 ∷ 68 ∷ 59 ∷ 32 ∷ 86 ∷ 65 ∷ 82 ∷ 32 ∷ 112 ∷ 42 ∷ 58 ∷ 32 ∷ 80 ∷ 79 ∷ 73 ∷ 78 ∷ 84 ∷ 69 ∷ 82 ∷ 32 ∷ 84 ∷ 79 ∷ 32 ∷ 82 ∷ 59 ∷ 32 ∷ 114 ∷ 42 ∷ 58 ∷ 32 ∷ 82 ∷ 59 ∷ 32 ∷ 97 ∷ 42 ∷ 58 ∷ 32 ∷ 65 ∷ 82 ∷ 82 ∷ 65 ∷ 89 ∷ 32 ∷ 50 ∷ 32 ∷ 79 ∷ 70 ∷ 32 ∷ 82 ∷ 59 ∷ 32 ∷ 69 ∷ 78 ∷ 68 ∷ 32 ∷ 65 ∷ 46 ∷ 10 ∷ []); symbols = (symbol (Ident) 0 6 ∷ symbol (Ident) 7 8 ∷ symbol (Ident) 8 9 ∷ symbol (Ident) 10 14 ∷ symbol (Ident) 15 16 ∷ symbol (Ident) 16 17 ∷ symbol (Ident) 18 19 ∷ symbol (Ident) 20 26 ∷ symbol (Ident) 27 28 ∷ symbol (Ident) 28 29 ∷ symbol (Ident) 29 30 ∷ symbol (Ident) 31 38 ∷ symbol (Ident) 39 42 ∷ symbol (Ident) 42 43 ∷ symbol (Ident) 44 47 ∷ symbol (Ident) 48 49 ∷ symbol (Ident) 49 50 ∷ symbol (Ident) 50 51 ∷ symbol (Ident) 52 59 ∷ symbol (Ident) 60 62 ∷ symbol (Ident) 63 64 ∷ symbol (Ident) 64 65 ∷ symbol (Ident) 66 67 ∷ symbol (Ident) 67 68 ∷ symbol (Ident) 68 69 ∷ symbol (Ident) 70 71 ∷ symbol (Ident) 71 72 ∷ symbol (Ident) 73 74 ∷ symbol (Ident) 74 75 ∷ symbol (Ident) 75 76 ∷ symbol (Ident) 77 82 ∷ symbol (Int (pos 2)) 83 84 ∷ symbol (Ident) 85 87 ∷ symbol (Ident) 88 89 ∷ symbol (Ident) 89 90 ∷ symbol (Ident) 91 94 ∷ symbol (Ident) 95 96 ∷ symbol (Ident) 96 97 ∷ []) }; tree = record { module_word = 0; name = 1; semicolon = 0; imports = None; decls = (S.decls None (Some (record { type_word = 0; each = (record { name = (record { name = 4; star = Some 0 }); equal = 0; is = (S.Record 7 None (S.fields (record { first = (record { name = 8; star = Some 0 }); more = [] }) 0 (S.Named (record { name = 11; member = None }))) S.no_more_fields 0); semicolon = 0 } ∷ []) })) (Some (record { var_word = 0; each = (record { names = (record { first = (record { name = 15; star = Some 0 }); more = [] }); colon = 0; of = (S.Pointer 18 0 (S.Named (record { name = 20; member = None }))); semicolon = 0 } ∷ record { names = (record { first = (record { name = 22; star = Some 0 }); more = [] }); colon = 0; of = (S.Named (record { name = 25; member = None })); semicolon = 0 } ∷ record { names = (record { first = (record { name = 27; star = Some 0 }); more = [] }); colon = 0; of = (S.Array 30 (S.only (S.simple None (S.term (S.Int 31) S.no_factor) S.no_term)) S.no_expression 0 (S.Named (record { name = 33; member = None }))); semicolon = 0 } ∷ []) })) S.no_procedure); body = None; end_word = 0; end_name = 36; period = 0 } }

-- MODULE M; IMPORT A; BEGIN CASE A.p OF END END M.
abbrev choice_selectors_6_1 : Parsed
choice_selectors_6_1 = record { source = record { bytes = (77 ∷ 79 ∷ 68 ∷ 85 ∷ 76 ∷ 69 ∷ 32 ∷ 77 ∷ 59 ∷ 32 ∷ 73 ∷ 77 ∷ 80 ∷ 79 ∷ 82 ∷ 84 ∷ 32 ∷ 65 ∷ 59 ∷ 32 ∷ 66 ∷ 69 ∷ 71 ∷ 73 ∷ 78 ∷ 32 ∷ 67 ∷ 65 ∷ 83 ∷ 69 ∷ 32 ∷ 65 ∷ 46 ∷ 112 ∷ 32 ∷ 79 ∷ 70 ∷ 32 ∷ 69 ∷ 78 ∷ 68 ∷ 32 ∷ 69 ∷ 78 ∷ 68 ∷ 32 ∷ 77 ∷ 46 ∷ []); symbols = (symbol (Ident) 0 6 ∷ symbol (Ident) 7 8 ∷ symbol (Ident) 8 9 ∷ symbol (Ident) 10 16 ∷ symbol (Ident) 17 18 ∷ symbol (Ident) 18 19 ∷ symbol (Ident) 20 25 ∷ symbol (Ident) 26 30 ∷ symbol (Ident) 31 32 ∷ symbol (Ident) 32 33 ∷ symbol (Ident) 33 34 ∷ symbol (Ident) 35 37 ∷ symbol (Ident) 38 41 ∷ symbol (Ident) 42 45 ∷ symbol (Ident) 46 47 ∷ symbol (Ident) 47 48 ∷ []) }; tree = record { module_word = 0; name = 1; semicolon = 0; imports = Some (record { import_word = 0; first = (record { name = 4; of = None }); more = []; semicolon = 0 }); decls = (S.decls None None None S.no_procedure); body = (Some (record { begin_word = 0; stats = (S.stats (S.Case 0 (S.only (S.simple None (S.term (S.Designated 8 (S.selected (S.Field 0 10) S.no_selector)) S.no_factor) S.no_term)) 0 S.no_case S.no_next_case 0) S.no_stat) })); end_word = 0; end_name = 14; period = 0 } }

pub choice_selectors_6 : checked (choice_selectors_6_0 ∷ choice_selectors_6_1 ∷ []) ≡ Fault 1 31 31
choice_selectors_6 = refl

-- MODULE M; VAR y: BYTE; BEGIN FOR y := 0 TO 1 DO END END M.
abbrev choice_step_1_0 : Parsed
choice_step_1_0 = record { source = record { bytes = (77 ∷ 79 ∷ 68 ∷ 85 ∷ 76 ∷ 69 ∷ 32 ∷ 77 ∷ 59 ∷ 32 ∷ 86 ∷ 65 ∷ 82 ∷ 32 ∷ 121 ∷ 58 ∷ 32 ∷ 66 ∷ 89 ∷ 84 ∷ 69 ∷ 59 ∷ 32 ∷ 66 ∷ 69 ∷ 71 ∷ 73 ∷ 78 ∷ 32 ∷ 70 ∷ 79 ∷ 82 ∷ 32 ∷ 121 ∷ 32 ∷ 58 ∷ 61 ∷ 32 ∷ 48 ∷ 32 ∷ 84 ∷ 79 ∷ 32 ∷ 49 ∷ 32 ∷ 68 ∷ 79 ∷ 32 ∷ 69 ∷ 78 ∷ 68 ∷ 32 ∷ 69 ∷ 78 ∷ 68 ∷ 32 ∷ 77 ∷ 46 ∷ []); symbols = (symbol (Ident) 0 6 ∷ symbol (Ident) 7 8 ∷ symbol (Ident) 8 9 ∷ symbol (Ident) 10 13 ∷ symbol (Ident) 14 15 ∷ symbol (Ident) 15 16 ∷ symbol (Ident) 17 21 ∷ symbol (Ident) 21 22 ∷ symbol (Ident) 23 28 ∷ symbol (Ident) 29 32 ∷ symbol (Ident) 33 34 ∷ symbol (Ident) 35 37 ∷ symbol (Int (pos 0)) 38 39 ∷ symbol (Ident) 40 42 ∷ symbol (Int (pos 1)) 43 44 ∷ symbol (Ident) 45 47 ∷ symbol (Ident) 48 51 ∷ symbol (Ident) 52 55 ∷ symbol (Ident) 56 57 ∷ symbol (Ident) 57 58 ∷ []) }; tree = record { module_word = 0; name = 1; semicolon = 0; imports = None; decls = (S.decls None None (Some (record { var_word = 0; each = (record { names = (record { first = (record { name = 4; star = None }); more = [] }); colon = 0; of = (S.Named (record { name = 6; member = None })); semicolon = 0 } ∷ []) })) S.no_procedure); body = (Some (record { begin_word = 0; stats = (S.stats (S.For 0 10 0 (S.only (S.simple None (S.term (S.Int 12) S.no_factor) S.no_term)) 0 (S.only (S.simple None (S.term (S.Int 14) S.no_factor) S.no_term)) None 0 (S.stats S.Empty S.no_stat) 0) S.no_stat) })); end_word = 0; end_name = 18; period = 0 } }

pub choice_step_1 : checked (choice_step_1_0 ∷ []) ≡ Fault 0 31 33
choice_step_1 = refl

-- MODULE M; PROCEDURE P(VAR i: BYTE); BEGIN FOR i := 0 TO 1 DO END END P; END M.
abbrev choice_step_2_0 : Parsed
choice_step_2_0 = record { source = record { bytes = (77 ∷ 79 ∷ 68 ∷ 85 ∷ 76 ∷ 69 ∷ 32 ∷ 77 ∷ 59 ∷ 32 ∷ 80 ∷ 82 ∷ 79 ∷ 67 ∷ 69 ∷ 68 ∷ 85 ∷ 82 ∷ 69 ∷ 32 ∷ 80 ∷ 40 ∷ 86 ∷ 65 ∷ 82 ∷ 32 ∷ 105 ∷ 58 ∷ 32 ∷ 66 ∷ 89 ∷ 84 ∷ 69 ∷ 41 ∷ 59 ∷ 32 ∷ 66 ∷ 69 ∷ 71 ∷ 73 ∷ 78 ∷ 32 ∷ 70 ∷ 79 ∷ 82 ∷ 32 ∷ 105 ∷ 32 ∷ 58 ∷ 61 ∷ 32 ∷ 48 ∷ 32 ∷ 84 ∷ 79 ∷ 32 ∷ 49 ∷ 32 ∷ 68 ∷ 79 ∷ 32 ∷ 69 ∷ 78 ∷ 68 ∷ 32 ∷ 69 ∷ 78 ∷ 68 ∷ 32 ∷ 80 ∷ 59 ∷ 32 ∷ 69 ∷ 78 ∷ 68 ∷ 32 ∷ 77 ∷ 46 ∷ []); symbols = (symbol (Ident) 0 6 ∷ symbol (Ident) 7 8 ∷ symbol (Ident) 8 9 ∷ symbol (Ident) 10 19 ∷ symbol (Ident) 20 21 ∷ symbol (Ident) 21 22 ∷ symbol (Ident) 22 25 ∷ symbol (Ident) 26 27 ∷ symbol (Ident) 27 28 ∷ symbol (Ident) 29 33 ∷ symbol (Ident) 33 34 ∷ symbol (Ident) 34 35 ∷ symbol (Ident) 36 41 ∷ symbol (Ident) 42 45 ∷ symbol (Ident) 46 47 ∷ symbol (Ident) 48 50 ∷ symbol (Int (pos 0)) 51 52 ∷ symbol (Ident) 53 55 ∷ symbol (Int (pos 1)) 56 57 ∷ symbol (Ident) 58 60 ∷ symbol (Ident) 61 64 ∷ symbol (Ident) 65 68 ∷ symbol (Ident) 69 70 ∷ symbol (Ident) 70 71 ∷ symbol (Ident) 72 75 ∷ symbol (Ident) 76 77 ∷ symbol (Ident) 77 78 ∷ []) }; tree = record { module_word = 0; name = 1; semicolon = 0; imports = None; decls = (S.decls None None None (S.procedure 0 (record { name = 4; star = None }) (Some (record { left_paren = 0; sections = Some (record { first = (record { var_word = Some 0; first = 7; more = []; colon = 0; open_array = None; of = (record { name = 9; member = None }) }); more = [] }); right_paren = 0; result = None })) 0 (S.decls None None None S.no_procedure) (Some (record { begin_word = 0; stats = (S.stats (S.For 0 14 0 (S.only (S.simple None (S.term (S.Int 16) S.no_factor) S.no_term)) 0 (S.only (S.simple None (S.term (S.Int 18) S.no_factor) S.no_term)) None 0 (S.stats S.Empty S.no_stat) 0) S.no_stat) })) None 21 22 0 S.no_procedure)); body = None; end_word = 0; end_name = 25; period = 0 } }

pub choice_step_2 : checked (choice_step_2_0 ∷ []) ≡ Fault 0 31 46
choice_step_2 = refl

-- MODULE M; PROCEDURE P(VAR i: INTEGER); BEGIN FOR i := 0 TO 1 BY -3 DO END END P; END M.
abbrev choice_step_3_0 : Parsed
choice_step_3_0 = record { source = record { bytes = (77 ∷ 79 ∷ 68 ∷ 85 ∷ 76 ∷ 69 ∷ 32 ∷ 77 ∷ 59 ∷ 32 ∷ 80 ∷ 82 ∷ 79 ∷ 67 ∷ 69 ∷ 68 ∷ 85 ∷ 82 ∷ 69 ∷ 32 ∷ 80 ∷ 40 ∷ 86 ∷ 65 ∷ 82 ∷ 32 ∷ 105 ∷ 58 ∷ 32 ∷ 73 ∷ 78 ∷ 84 ∷ 69 ∷ 71 ∷ 69 ∷ 82 ∷ 41 ∷ 59 ∷ 32 ∷ 66 ∷ 69 ∷ 71 ∷ 73 ∷ 78 ∷ 32 ∷ 70 ∷ 79 ∷ 82 ∷ 32 ∷ 105 ∷ 32 ∷ 58 ∷ 61 ∷ 32 ∷ 48 ∷ 32 ∷ 84 ∷ 79 ∷ 32 ∷ 49 ∷ 32 ∷ 66 ∷ 89 ∷ 32 ∷ 45 ∷ 51 ∷ 32 ∷ 68 ∷ 79 ∷ 32 ∷ 69 ∷ 78 ∷ 68 ∷ 32 ∷ 69 ∷ 78 ∷ 68 ∷ 32 ∷ 80 ∷ 59 ∷ 32 ∷ 69 ∷ 78 ∷ 68 ∷ 32 ∷ 77 ∷ 46 ∷ []); symbols = (symbol (Ident) 0 6 ∷ symbol (Ident) 7 8 ∷ symbol (Ident) 8 9 ∷ symbol (Ident) 10 19 ∷ symbol (Ident) 20 21 ∷ symbol (Ident) 21 22 ∷ symbol (Ident) 22 25 ∷ symbol (Ident) 26 27 ∷ symbol (Ident) 27 28 ∷ symbol (Ident) 29 36 ∷ symbol (Ident) 36 37 ∷ symbol (Ident) 37 38 ∷ symbol (Ident) 39 44 ∷ symbol (Ident) 45 48 ∷ symbol (Ident) 49 50 ∷ symbol (Ident) 51 53 ∷ symbol (Int (pos 0)) 54 55 ∷ symbol (Ident) 56 58 ∷ symbol (Int (pos 1)) 59 60 ∷ symbol (Ident) 61 63 ∷ symbol (Ident) 64 65 ∷ symbol (Int (pos 3)) 65 66 ∷ symbol (Ident) 67 69 ∷ symbol (Ident) 70 73 ∷ symbol (Ident) 74 77 ∷ symbol (Ident) 78 79 ∷ symbol (Ident) 79 80 ∷ symbol (Ident) 81 84 ∷ symbol (Ident) 85 86 ∷ symbol (Ident) 86 87 ∷ []) }; tree = record { module_word = 0; name = 1; semicolon = 0; imports = None; decls = (S.decls None None None (S.procedure 0 (record { name = 4; star = None }) (Some (record { left_paren = 0; sections = Some (record { first = (record { var_word = Some 0; first = 7; more = []; colon = 0; open_array = None; of = (record { name = 9; member = None }) }); more = [] }); right_paren = 0; result = None })) 0 (S.decls None None None S.no_procedure) (Some (record { begin_word = 0; stats = (S.stats (S.For 0 14 0 (S.only (S.simple None (S.term (S.Int 16) S.no_factor) S.no_term)) 0 (S.only (S.simple None (S.term (S.Int 18) S.no_factor) S.no_term)) (Some (record { by_word = 0; step = (S.only (S.simple (Some (TheSign.Minus 20)) (S.term (S.Int 21) S.no_factor) S.no_term)) })) 0 (S.stats S.Empty S.no_stat) 0) S.no_stat) })) None 24 25 0 S.no_procedure)); body = None; end_word = 0; end_name = 28; period = 0 } }

pub choice_step_3 : checked (choice_step_3_0 ∷ []) ≡ Legal (record { records = []; pointers = []; modules = (record { name = (77 ∷ []); objects = (record { name = (80 ∷ []); exported = false; entity = I.OfProcedure 0 } ∷ []); variables = []; body = 1 } ∷ []); procedures = (record { module_number = 0; line = 1; is_body = false; formals = (record { mode = TheMode.Place; variable = true; shape = H.Integer } ∷ []); result = H.Nothing; locals = []; texts = []; body = (I.next_statement (I.For (I.of_type (I.Parameter 0) H.Integer) (record { form = (I.Literal 0); shape = H.Integer }) (record { form = (I.Literal 1); shape = H.Integer }) (negsuc 2) I.no_statement) I.no_statement); answer = None } ∷ record { module_number = 0; line = 1; is_body = true; formals = []; result = H.Nothing; locals = []; texts = []; body = I.no_statement; answer = None } ∷ []); imports_in = false })
choice_step_3 = refl

-- MODULE M; VAR a: ARRAY 2 OF CHAR; i: INTEGER; BEGIN i := LEN((a)) END M.
abbrev choice_parentheses_1_0 : Parsed
choice_parentheses_1_0 = record { source = record { bytes = (77 ∷ 79 ∷ 68 ∷ 85 ∷ 76 ∷ 69 ∷ 32 ∷ 77 ∷ 59 ∷ 32 ∷ 86 ∷ 65 ∷ 82 ∷ 32 ∷ 97 ∷ 58 ∷ 32 ∷ 65 ∷ 82 ∷ 82 ∷ 65 ∷ 89 ∷ 32 ∷ 50 ∷ 32 ∷ 79 ∷ 70 ∷ 32 ∷ 67 ∷ 72 ∷ 65 ∷ 82 ∷ 59 ∷ 32 ∷ 105 ∷ 58 ∷ 32 ∷ 73 ∷ 78 ∷ 84 ∷ 69 ∷ 71 ∷ 69 ∷ 82 ∷ 59 ∷ 32 ∷ 66 ∷ 69 ∷ 71 ∷ 73 ∷ 78 ∷ 32 ∷ 105 ∷ 32 ∷ 58 ∷ 61 ∷ 32 ∷ 76 ∷ 69 ∷ 78 ∷ 40 ∷ 40 ∷ 97 ∷ 41 ∷ 41 ∷ 32 ∷ 69 ∷ 78 ∷ 68 ∷ 32 ∷ 77 ∷ 46 ∷ []); symbols = (symbol (Ident) 0 6 ∷ symbol (Ident) 7 8 ∷ symbol (Ident) 8 9 ∷ symbol (Ident) 10 13 ∷ symbol (Ident) 14 15 ∷ symbol (Ident) 15 16 ∷ symbol (Ident) 17 22 ∷ symbol (Int (pos 2)) 23 24 ∷ symbol (Ident) 25 27 ∷ symbol (Ident) 28 32 ∷ symbol (Ident) 32 33 ∷ symbol (Ident) 34 35 ∷ symbol (Ident) 35 36 ∷ symbol (Ident) 37 44 ∷ symbol (Ident) 44 45 ∷ symbol (Ident) 46 51 ∷ symbol (Ident) 52 53 ∷ symbol (Ident) 54 56 ∷ symbol (Ident) 57 60 ∷ symbol (Ident) 60 61 ∷ symbol (Ident) 61 62 ∷ symbol (Ident) 62 63 ∷ symbol (Ident) 63 64 ∷ symbol (Ident) 64 65 ∷ symbol (Ident) 66 69 ∷ symbol (Ident) 70 71 ∷ symbol (Ident) 71 72 ∷ []) }; tree = record { module_word = 0; name = 1; semicolon = 0; imports = None; decls = (S.decls None None (Some (record { var_word = 0; each = (record { names = (record { first = (record { name = 4; star = None }); more = [] }); colon = 0; of = (S.Array 6 (S.only (S.simple None (S.term (S.Int 7) S.no_factor) S.no_term)) S.no_expression 0 (S.Named (record { name = 9; member = None }))); semicolon = 0 } ∷ record { names = (record { first = (record { name = 11; star = None }); more = [] }); colon = 0; of = (S.Named (record { name = 13; member = None })); semicolon = 0 } ∷ []) })) S.no_procedure); body = (Some (record { begin_word = 0; stats = (S.stats (S.AssignOrCall (record { name = 16; selectors = S.no_selector }) (Some (record { becomes = 0; value = (S.only (S.simple None (S.term (S.Designated 18 (S.selected (S.Parens 0 (S.expressions (S.only (S.simple None (S.term (S.Paren 20 (S.only (S.simple None (S.term (S.Designated 21 S.no_selector) S.no_factor) S.no_term)) 0) S.no_factor) S.no_term)) S.no_expression) 0) S.no_selector)) S.no_factor) S.no_term)) }))) S.no_stat) })); end_word = 0; end_name = 25; period = 0 } }

pub choice_parentheses_1 : checked (choice_parentheses_1_0 ∷ []) ≡ Fault 0 31 61
choice_parentheses_1 = refl

-- MODULE M; VAR a, b: ARRAY 2 OF CHAR; t: BOOLEAN; BEGIN b := (a); t := (a) = b END M.
abbrev choice_parentheses_2_0 : Parsed
choice_parentheses_2_0 = record { source = record { bytes = (77 ∷ 79 ∷ 68 ∷ 85 ∷ 76 ∷ 69 ∷ 32 ∷ 77 ∷ 59 ∷ 32 ∷ 86 ∷ 65 ∷ 82 ∷ 32 ∷ 97 ∷ 44 ∷ 32 ∷ 98 ∷ 58 ∷ 32 ∷ 65 ∷ 82 ∷ 82 ∷ 65 ∷ 89 ∷ 32 ∷ 50 ∷ 32 ∷ 79 ∷ 70 ∷ 32 ∷ 67 ∷ 72 ∷ 65 ∷ 82 ∷ 59 ∷ 32 ∷ 116 ∷ 58 ∷ 32 ∷ 66 ∷ 79 ∷ 79 ∷ 76 ∷ 69 ∷ 65 ∷ 78 ∷ 59 ∷ 32 ∷ 66 ∷ 69 ∷ 71 ∷ 73 ∷ 78 ∷ 32 ∷ 98 ∷ 32 ∷ 58 ∷ 61 ∷ 32 ∷ 40 ∷ 97 ∷ 41 ∷ 59 ∷ 32 ∷ 116 ∷ 32 ∷ 58 ∷ 61 ∷ 32 ∷ 40 ∷ 97 ∷ 41 ∷ 32 ∷ 61 ∷ 32 ∷ 98 ∷ 32 ∷ 69 ∷ 78 ∷ 68 ∷ 32 ∷ 77 ∷ 46 ∷ []); symbols = (symbol (Ident) 0 6 ∷ symbol (Ident) 7 8 ∷ symbol (Ident) 8 9 ∷ symbol (Ident) 10 13 ∷ symbol (Ident) 14 15 ∷ symbol (Ident) 15 16 ∷ symbol (Ident) 17 18 ∷ symbol (Ident) 18 19 ∷ symbol (Ident) 20 25 ∷ symbol (Int (pos 2)) 26 27 ∷ symbol (Ident) 28 30 ∷ symbol (Ident) 31 35 ∷ symbol (Ident) 35 36 ∷ symbol (Ident) 37 38 ∷ symbol (Ident) 38 39 ∷ symbol (Ident) 40 47 ∷ symbol (Ident) 47 48 ∷ symbol (Ident) 49 54 ∷ symbol (Ident) 55 56 ∷ symbol (Ident) 57 59 ∷ symbol (Ident) 60 61 ∷ symbol (Ident) 61 62 ∷ symbol (Ident) 62 63 ∷ symbol (Ident) 63 64 ∷ symbol (Ident) 65 66 ∷ symbol (Ident) 67 69 ∷ symbol (Ident) 70 71 ∷ symbol (Ident) 71 72 ∷ symbol (Ident) 72 73 ∷ symbol (Ident) 74 75 ∷ symbol (Ident) 76 77 ∷ symbol (Ident) 78 81 ∷ symbol (Ident) 82 83 ∷ symbol (Ident) 83 84 ∷ []) }; tree = record { module_word = 0; name = 1; semicolon = 0; imports = None; decls = (S.decls None None (Some (record { var_word = 0; each = (record { names = (record { first = (record { name = 4; star = None }); more = (record { comma = 0; name = (record { name = 6; star = None }) } ∷ []) }); colon = 0; of = (S.Array 8 (S.only (S.simple None (S.term (S.Int 9) S.no_factor) S.no_term)) S.no_expression 0 (S.Named (record { name = 11; member = None }))); semicolon = 0 } ∷ record { names = (record { first = (record { name = 13; star = None }); more = [] }); colon = 0; of = (S.Named (record { name = 15; member = None })); semicolon = 0 } ∷ []) })) S.no_procedure); body = (Some (record { begin_word = 0; stats = (S.stats (S.AssignOrCall (record { name = 18; selectors = S.no_selector }) (Some (record { becomes = 0; value = (S.only (S.simple None (S.term (S.Paren 20 (S.only (S.simple None (S.term (S.Designated 21 S.no_selector) S.no_factor) S.no_term)) 0) S.no_factor) S.no_term)) }))) (S.next_stat 0 (S.AssignOrCall (record { name = 24; selectors = S.no_selector }) (Some (record { becomes = 0; value = (S.compared (S.simple None (S.term (S.Paren 26 (S.only (S.simple None (S.term (S.Designated 27 S.no_selector) S.no_factor) S.no_term)) 0) S.no_factor) S.no_term) (TheRelation.Equal 29) (S.simple None (S.term (S.Designated 30 S.no_selector) S.no_factor) S.no_term)) }))) S.no_stat)) })); end_word = 0; end_name = 32; period = 0 } }

pub choice_parentheses_2 : checked (choice_parentheses_2_0 ∷ []) ≡ Legal (record { records = []; pointers = []; modules = (record { name = (77 ∷ []); objects = (record { name = (97 ∷ []); exported = false; entity = I.OfVariable 0 } ∷ record { name = (98 ∷ []); exported = false; entity = I.OfVariable 1 } ∷ record { name = (116 ∷ []); exported = false; entity = I.OfVariable 2 } ∷ []); variables = ((H.Array 2 H.Char) ∷ (H.Array 2 H.Char) ∷ H.Boolean ∷ []); body = 0 } ∷ []); procedures = (record { module_number = 0; line = 1; is_body = true; formals = []; result = H.Nothing; locals = []; texts = []; body = (I.next_statement (I.CopyArray (I.of_type (I.Global 0 1) (H.Array 2 H.Char)) (I.of_type (I.Global 0 0) (H.Array 2 H.Char))) (I.next_statement (I.Assign (I.of_type (I.Global 0 2) H.Boolean) (record { form = (I.CompareTexts TheComparison.Equal (I.of_type (I.Global 0 0) (H.Array 2 H.Char)) (I.of_type (I.Global 0 1) (H.Array 2 H.Char))); shape = H.Boolean })) I.no_statement)); answer = None } ∷ []); imports_in = false })
choice_parentheses_2 = refl

-- MODULE M; TYPE R = RECORD x: INTEGER END; E = RECORD (R) y: INTEGER END; P = POINTER TO R; Q = POINTER TO E; VAR p: P; q: Q; PROCEDURE S(r: R); END S; BEGIN S((p^)) END M.
abbrev choice_parentheses_3_0 : Parsed
choice_parentheses_3_0 = record { source = record { bytes = (77 ∷ 79 ∷ 68 ∷ 85 ∷ 76 ∷ 69 ∷ 32 ∷ 77 ∷ 59 ∷ 32 ∷ 84 ∷ 89 ∷ 80 ∷ 69 ∷ 32 ∷ 82 ∷ 32 ∷ 61 ∷ 32 ∷ 82 ∷ 69 ∷ 67 ∷ 79 ∷ 82 ∷ 68 ∷ 32 ∷ 120 ∷ 58 ∷ 32 ∷ 73 ∷ 78 ∷ 84 ∷ 69 ∷ 71 ∷ 69 ∷ 82 ∷ 32 ∷ 69 ∷ 78 ∷ 68 ∷ 59 ∷ 32 ∷ 69 ∷ 32 ∷ 61 ∷ 32 ∷ 82 ∷ 69 ∷ 67 ∷ 79 ∷ 82 ∷ 68 ∷ 32 ∷ 40 ∷ 82 ∷ 41 ∷ 32 ∷ 121 ∷ 58 ∷ 32 ∷ 73 ∷ 78 ∷ 84 ∷ 69 ∷ 71 ∷ 69 ∷ 82 ∷ 32 ∷ 69 ∷ 78 ∷ 68 ∷ 59 ∷ 32 ∷ 80 ∷ 32 ∷ 61 ∷ 32 ∷ 80 ∷ 79 ∷ 73 ∷ 78 ∷ 84 ∷ 69 ∷ 82 ∷ 32 ∷ 84 ∷ 79 ∷ 32 ∷ 82 ∷ 59 ∷ 32 ∷ 81 ∷ 32 ∷ 61 ∷ 32 ∷ 80 ∷ 79 ∷ 73 ∷ 78 ∷ 84 ∷ 69 ∷ 82 ∷ 32 ∷ 84 ∷ 79 ∷ 32 ∷ 69 ∷ 59 ∷ 32 ∷ 86 ∷ 65 ∷ 82 ∷ 32 ∷ 112 ∷ 58 ∷ 32 ∷ 80 ∷ 59 ∷ 32 ∷ 113 ∷ 58 ∷ 32 ∷ 81 ∷ 59 ∷ 32 ∷ 80 ∷ 82 ∷ 79 ∷ 67 ∷ 69 ∷ 68 ∷ 85 ∷ 82 ∷ 69 ∷ 32 ∷ 83 ∷ 40 ∷ 114 ∷ 58 ∷ 32 ∷ 82 ∷ 41 ∷ 59 ∷ 32 ∷ 69 ∷ 78 ∷ 68 ∷ 32 ∷ 83 ∷ 59 ∷ 32 ∷ 66 ∷ 69 ∷ 71 ∷ 73 ∷ 78 ∷ 32 ∷ 83 ∷ 40 ∷ 40 ∷ 112 ∷ 94 ∷ 41 ∷ 41 ∷ 32 ∷ 69 ∷ 78 ∷ 68 ∷ 32 ∷ 77 ∷ 46 ∷ []); symbols = (symbol (Ident) 0 6 ∷ symbol (Ident) 7 8 ∷ symbol (Ident) 8 9 ∷ symbol (Ident) 10 14 ∷ symbol (Ident) 15 16 ∷ symbol (Ident) 17 18 ∷ symbol (Ident) 19 25 ∷ symbol (Ident) 26 27 ∷ symbol (Ident) 27 28 ∷ symbol (Ident) 29 36 ∷ symbol (Ident) 37 40 ∷ symbol (Ident) 40 41 ∷ symbol (Ident) 42 43 ∷ symbol (Ident) 44 45 ∷ symbol (Ident) 46 52 ∷ symbol (Ident) 53 54 ∷ symbol (Ident) 54 55 ∷ symbol (Ident) 55 56 ∷ symbol (Ident) 57 58 ∷ symbol (Ident) 58 59 ∷ symbol (Ident) 60 67 ∷ symbol (Ident) 68 71 ∷ symbol (Ident) 71 72 ∷ symbol (Ident) 73 74 ∷ symbol (Ident) 75 76 ∷ symbol (Ident) 77 84 ∷ symbol (Ident) 85 87 ∷ symbol (Ident) 88 89 ∷ symbol (Ident) 89 90 ∷ symbol (Ident) 91 92 ∷ symbol (Ident) 93 94 ∷ symbol (Ident) 95 102 ∷ symbol (Ident) 103 105 ∷ symbol (Ident) 106 107 ∷ symbol (Ident) 107 108 ∷ symbol (Ident) 109 112 ∷ symbol (Ident) 113 114 ∷ symbol (Ident) 114 115 ∷ symbol (Ident) 116 117 ∷ symbol (Ident) 117 118 ∷ symbol (Ident) 119 120 ∷ symbol (Ident) 120 121 ∷ symbol (Ident) 122 123 ∷ symbol (Ident) 123 124 ∷ symbol (Ident) 125 134 ∷ symbol (Ident) 135 136 ∷ symbol (Ident) 136 137 ∷ symbol (Ident) 137 138 ∷ symbol (Ident) 138 139 ∷ symbol (Ident) 140 141 ∷ symbol (Ident) 141 142 ∷ symbol (Ident) 142 143 ∷ symbol (Ident) 144 147 ∷ symbol (Ident) 148 149 ∷ symbol (Ident) 149 150 ∷ symbol (Ident) 151 156 ∷ symbol (Ident) 157 158 ∷ symbol (Ident) 158 159 ∷ symbol (Ident) 159 160 ∷ symbol (Ident) 160 161 ∷ symbol (Ident) 161 162 ∷ symbol (Ident) 162 163 ∷ symbol (Ident) 163 164 ∷ symbol (Ident) 165 168 ∷ symbol (Ident) 169 170 ∷ symbol (Ident) 170 171 ∷ []) }; tree = record { module_word = 0; name = 1; semicolon = 0; imports = None; decls = (S.decls None (Some (record { type_word = 0; each = (record { name = (record { name = 4; star = None }); equal = 0; is = (S.Record 6 None (S.fields (record { first = (record { name = 7; star = None }); more = [] }) 0 (S.Named (record { name = 9; member = None }))) S.no_more_fields 0); semicolon = 0 } ∷ record { name = (record { name = 12; star = None }); equal = 0; is = (S.Record 14 (Some (record { left_paren = 0; name = (record { name = 16; member = None }); right_paren = 0 })) (S.fields (record { first = (record { name = 18; star = None }); more = [] }) 0 (S.Named (record { name = 20; member = None }))) S.no_more_fields 0); semicolon = 0 } ∷ record { name = (record { name = 23; star = None }); equal = 0; is = (S.Pointer 25 0 (S.Named (record { name = 27; member = None }))); semicolon = 0 } ∷ record { name = (record { name = 29; star = None }); equal = 0; is = (S.Pointer 31 0 (S.Named (record { name = 33; member = None }))); semicolon = 0 } ∷ []) })) (Some (record { var_word = 0; each = (record { names = (record { first = (record { name = 36; star = None }); more = [] }); colon = 0; of = (S.Named (record { name = 38; member = None })); semicolon = 0 } ∷ record { names = (record { first = (record { name = 40; star = None }); more = [] }); colon = 0; of = (S.Named (record { name = 42; member = None })); semicolon = 0 } ∷ []) })) (S.procedure 0 (record { name = 45; star = None }) (Some (record { left_paren = 0; sections = Some (record { first = (record { var_word = None; first = 47; more = []; colon = 0; open_array = None; of = (record { name = 49; member = None }) }); more = [] }); right_paren = 0; result = None })) 0 (S.decls None None None S.no_procedure) None None 52 53 0 S.no_procedure)); body = (Some (record { begin_word = 0; stats = (S.stats (S.AssignOrCall (record { name = 56; selectors = (S.selected (S.Parens 0 (S.expressions (S.only (S.simple None (S.term (S.Paren 58 (S.only (S.simple None (S.term (S.Designated 59 (S.selected (S.Arrow 0) S.no_selector)) S.no_factor) S.no_term)) 0) S.no_factor) S.no_term)) S.no_expression) 0) S.no_selector) }) None) S.no_stat) })); end_word = 0; end_name = 64; period = 0 } }

pub choice_parentheses_3 : checked (choice_parentheses_3_0 ∷ []) ≡ Fault 0 31 159
choice_parentheses_3 = refl

-- MODULE M; TYPE R = RECORD x: INTEGER END; E = RECORD (R) y: INTEGER END; P = POINTER TO R; Q = POINTER TO E; VAR p: P; q: Q; PROCEDURE F(): P; RETURN p END F; BEGIN F().x := 1 END M.
abbrev choice_calls_1_0 : Parsed
choice_calls_1_0 = record { source = record { bytes = (77 ∷ 79 ∷ 68 ∷ 85 ∷ 76 ∷ 69 ∷ 32 ∷ 77 ∷ 59 ∷ 32 ∷ 84 ∷ 89 ∷ 80 ∷ 69 ∷ 32 ∷ 82 ∷ 32 ∷ 61 ∷ 32 ∷ 82 ∷ 69 ∷ 67 ∷ 79 ∷ 82 ∷ 68 ∷ 32 ∷ 120 ∷ 58 ∷ 32 ∷ 73 ∷ 78 ∷ 84 ∷ 69 ∷ 71 ∷ 69 ∷ 82 ∷ 32 ∷ 69 ∷ 78 ∷ 68 ∷ 59 ∷ 32 ∷ 69 ∷ 32 ∷ 61 ∷ 32 ∷ 82 ∷ 69 ∷ 67 ∷ 79 ∷ 82 ∷ 68 ∷ 32 ∷ 40 ∷ 82 ∷ 41 ∷ 32 ∷ 121 ∷ 58 ∷ 32 ∷ 73 ∷ 78 ∷ 84 ∷ 69 ∷ 71 ∷ 69 ∷ 82 ∷ 32 ∷ 69 ∷ 78 ∷ 68 ∷ 59 ∷ 32 ∷ 80 ∷ 32 ∷ 61 ∷ 32 ∷ 80 ∷ 79 ∷ 73 ∷ 78 ∷ 84 ∷ 69 ∷ 82 ∷ 32 ∷ 84 ∷ 79 ∷ 32 ∷ 82 ∷ 59 ∷ 32 ∷ 81 ∷ 32 ∷ 61 ∷ 32 ∷ 80 ∷ 79 ∷ 73 ∷ 78 ∷ 84 ∷ 69 ∷ 82 ∷ 32 ∷ 84 ∷ 79 ∷ 32 ∷ 69 ∷ 59 ∷ 32 ∷ 86 ∷ 65 ∷ 82 ∷ 32 ∷ 112 ∷ 58 ∷ 32 ∷ 80 ∷ 59 ∷ 32 ∷ 113 ∷ 58 ∷ 32 ∷ 81 ∷ 59 ∷ 32 ∷ 80 ∷ 82 ∷ 79 ∷ 67 ∷ 69 ∷ 68 ∷ 85 ∷ 82 ∷ 69 ∷ 32 ∷ 70 ∷ 40 ∷ 41 ∷ 58 ∷ 32 ∷ 80 ∷ 59 ∷ 32 ∷ 82 ∷ 69 ∷ 84 ∷ 85 ∷ 82 ∷ 78 ∷ 32 ∷ 112 ∷ 32 ∷ 69 ∷ 78 ∷ 68 ∷ 32 ∷ 70 ∷ 59 ∷ 32 ∷ 66 ∷ 69 ∷ 71 ∷ 73 ∷ 78 ∷ 32 ∷ 70 ∷ 40 ∷ 41 ∷ 46 ∷ 120 ∷ 32 ∷ 58 ∷ 61 ∷ 32 ∷ 49 ∷ 32 ∷ 69 ∷ 78 ∷ 68 ∷ 32 ∷ 77 ∷ 46 ∷ []); symbols = (symbol (Ident) 0 6 ∷ symbol (Ident) 7 8 ∷ symbol (Ident) 8 9 ∷ symbol (Ident) 10 14 ∷ symbol (Ident) 15 16 ∷ symbol (Ident) 17 18 ∷ symbol (Ident) 19 25 ∷ symbol (Ident) 26 27 ∷ symbol (Ident) 27 28 ∷ symbol (Ident) 29 36 ∷ symbol (Ident) 37 40 ∷ symbol (Ident) 40 41 ∷ symbol (Ident) 42 43 ∷ symbol (Ident) 44 45 ∷ symbol (Ident) 46 52 ∷ symbol (Ident) 53 54 ∷ symbol (Ident) 54 55 ∷ symbol (Ident) 55 56 ∷ symbol (Ident) 57 58 ∷ symbol (Ident) 58 59 ∷ symbol (Ident) 60 67 ∷ symbol (Ident) 68 71 ∷ symbol (Ident) 71 72 ∷ symbol (Ident) 73 74 ∷ symbol (Ident) 75 76 ∷ symbol (Ident) 77 84 ∷ symbol (Ident) 85 87 ∷ symbol (Ident) 88 89 ∷ symbol (Ident) 89 90 ∷ symbol (Ident) 91 92 ∷ symbol (Ident) 93 94 ∷ symbol (Ident) 95 102 ∷ symbol (Ident) 103 105 ∷ symbol (Ident) 106 107 ∷ symbol (Ident) 107 108 ∷ symbol (Ident) 109 112 ∷ symbol (Ident) 113 114 ∷ symbol (Ident) 114 115 ∷ symbol (Ident) 116 117 ∷ symbol (Ident) 117 118 ∷ symbol (Ident) 119 120 ∷ symbol (Ident) 120 121 ∷ symbol (Ident) 122 123 ∷ symbol (Ident) 123 124 ∷ symbol (Ident) 125 134 ∷ symbol (Ident) 135 136 ∷ symbol (Ident) 136 137 ∷ symbol (Ident) 137 138 ∷ symbol (Ident) 138 139 ∷ symbol (Ident) 140 141 ∷ symbol (Ident) 141 142 ∷ symbol (Ident) 143 149 ∷ symbol (Ident) 150 151 ∷ symbol (Ident) 152 155 ∷ symbol (Ident) 156 157 ∷ symbol (Ident) 157 158 ∷ symbol (Ident) 159 164 ∷ symbol (Ident) 165 166 ∷ symbol (Ident) 166 167 ∷ symbol (Ident) 167 168 ∷ symbol (Ident) 168 169 ∷ symbol (Ident) 169 170 ∷ symbol (Ident) 171 173 ∷ symbol (Int (pos 1)) 174 175 ∷ symbol (Ident) 176 179 ∷ symbol (Ident) 180 181 ∷ symbol (Ident) 181 182 ∷ []) }; tree = record { module_word = 0; name = 1; semicolon = 0; imports = None; decls = (S.decls None (Some (record { type_word = 0; each = (record { name = (record { name = 4; star = None }); equal = 0; is = (S.Record 6 None (S.fields (record { first = (record { name = 7; star = None }); more = [] }) 0 (S.Named (record { name = 9; member = None }))) S.no_more_fields 0); semicolon = 0 } ∷ record { name = (record { name = 12; star = None }); equal = 0; is = (S.Record 14 (Some (record { left_paren = 0; name = (record { name = 16; member = None }); right_paren = 0 })) (S.fields (record { first = (record { name = 18; star = None }); more = [] }) 0 (S.Named (record { name = 20; member = None }))) S.no_more_fields 0); semicolon = 0 } ∷ record { name = (record { name = 23; star = None }); equal = 0; is = (S.Pointer 25 0 (S.Named (record { name = 27; member = None }))); semicolon = 0 } ∷ record { name = (record { name = 29; star = None }); equal = 0; is = (S.Pointer 31 0 (S.Named (record { name = 33; member = None }))); semicolon = 0 } ∷ []) })) (Some (record { var_word = 0; each = (record { names = (record { first = (record { name = 36; star = None }); more = [] }); colon = 0; of = (S.Named (record { name = 38; member = None })); semicolon = 0 } ∷ record { names = (record { first = (record { name = 40; star = None }); more = [] }); colon = 0; of = (S.Named (record { name = 42; member = None })); semicolon = 0 } ∷ []) })) (S.procedure 0 (record { name = 45; star = None }) (Some (record { left_paren = 0; sections = None; right_paren = 0; result = Some (record { colon = 0; name = (record { name = 49; member = None }) }) })) 0 (S.decls None None None S.no_procedure) None (Some (record { return_word = 51; value = (S.only (S.simple None (S.term (S.Designated 52 S.no_selector) S.no_factor) S.no_term)) })) 53 54 0 S.no_procedure)); body = (Some (record { begin_word = 0; stats = (S.stats (S.AssignOrCall (record { name = 57; selectors = (S.selected (S.EmptyParens 0 0) (S.selected (S.Field 0 61) S.no_selector)) }) (Some (record { becomes = 0; value = (S.only (S.simple None (S.term (S.Int 63) S.no_factor) S.no_term)) }))) S.no_stat) })); end_word = 0; end_name = 65; period = 0 } }

pub choice_calls_1 : checked (choice_calls_1_0 ∷ []) ≡ Fault 0 31 165
choice_calls_1 = refl

-- MODULE M; PROCEDURE F(): INTEGER; RETURN 1 END F; BEGIN F(2) END M.
abbrev choice_calls_2_0 : Parsed
choice_calls_2_0 = record { source = record { bytes = (77 ∷ 79 ∷ 68 ∷ 85 ∷ 76 ∷ 69 ∷ 32 ∷ 77 ∷ 59 ∷ 32 ∷ 80 ∷ 82 ∷ 79 ∷ 67 ∷ 69 ∷ 68 ∷ 85 ∷ 82 ∷ 69 ∷ 32 ∷ 70 ∷ 40 ∷ 41 ∷ 58 ∷ 32 ∷ 73 ∷ 78 ∷ 84 ∷ 69 ∷ 71 ∷ 69 ∷ 82 ∷ 59 ∷ 32 ∷ 82 ∷ 69 ∷ 84 ∷ 85 ∷ 82 ∷ 78 ∷ 32 ∷ 49 ∷ 32 ∷ 69 ∷ 78 ∷ 68 ∷ 32 ∷ 70 ∷ 59 ∷ 32 ∷ 66 ∷ 69 ∷ 71 ∷ 73 ∷ 78 ∷ 32 ∷ 70 ∷ 40 ∷ 50 ∷ 41 ∷ 32 ∷ 69 ∷ 78 ∷ 68 ∷ 32 ∷ 77 ∷ 46 ∷ []); symbols = (symbol (Ident) 0 6 ∷ symbol (Ident) 7 8 ∷ symbol (Ident) 8 9 ∷ symbol (Ident) 10 19 ∷ symbol (Ident) 20 21 ∷ symbol (Ident) 21 22 ∷ symbol (Ident) 22 23 ∷ symbol (Ident) 23 24 ∷ symbol (Ident) 25 32 ∷ symbol (Ident) 32 33 ∷ symbol (Ident) 34 40 ∷ symbol (Int (pos 1)) 41 42 ∷ symbol (Ident) 43 46 ∷ symbol (Ident) 47 48 ∷ symbol (Ident) 48 49 ∷ symbol (Ident) 50 55 ∷ symbol (Ident) 56 57 ∷ symbol (Ident) 57 58 ∷ symbol (Int (pos 2)) 58 59 ∷ symbol (Ident) 59 60 ∷ symbol (Ident) 61 64 ∷ symbol (Ident) 65 66 ∷ symbol (Ident) 66 67 ∷ []) }; tree = record { module_word = 0; name = 1; semicolon = 0; imports = None; decls = (S.decls None None None (S.procedure 0 (record { name = 4; star = None }) (Some (record { left_paren = 0; sections = None; right_paren = 0; result = Some (record { colon = 0; name = (record { name = 8; member = None }) }) })) 0 (S.decls None None None S.no_procedure) None (Some (record { return_word = 10; value = (S.only (S.simple None (S.term (S.Int 11) S.no_factor) S.no_term)) })) 12 13 0 S.no_procedure)); body = (Some (record { begin_word = 0; stats = (S.stats (S.AssignOrCall (record { name = 16; selectors = (S.selected (S.Parens 0 (S.expressions (S.only (S.simple None (S.term (S.Int 18) S.no_factor) S.no_term)) S.no_expression) 0) S.no_selector) }) None) S.no_stat) })); end_word = 0; end_name = 21; period = 0 } }

pub choice_calls_2 : checked (choice_calls_2_0 ∷ []) ≡ Fault 0 40 56
choice_calls_2 = refl

-- MODULE M; PROCEDURE F(): INTEGER; RETURN 1 END F; BEGIN F() END M.
abbrev choice_calls_3_0 : Parsed
choice_calls_3_0 = record { source = record { bytes = (77 ∷ 79 ∷ 68 ∷ 85 ∷ 76 ∷ 69 ∷ 32 ∷ 77 ∷ 59 ∷ 32 ∷ 80 ∷ 82 ∷ 79 ∷ 67 ∷ 69 ∷ 68 ∷ 85 ∷ 82 ∷ 69 ∷ 32 ∷ 70 ∷ 40 ∷ 41 ∷ 58 ∷ 32 ∷ 73 ∷ 78 ∷ 84 ∷ 69 ∷ 71 ∷ 69 ∷ 82 ∷ 59 ∷ 32 ∷ 82 ∷ 69 ∷ 84 ∷ 85 ∷ 82 ∷ 78 ∷ 32 ∷ 49 ∷ 32 ∷ 69 ∷ 78 ∷ 68 ∷ 32 ∷ 70 ∷ 59 ∷ 32 ∷ 66 ∷ 69 ∷ 71 ∷ 73 ∷ 78 ∷ 32 ∷ 70 ∷ 40 ∷ 41 ∷ 32 ∷ 69 ∷ 78 ∷ 68 ∷ 32 ∷ 77 ∷ 46 ∷ []); symbols = (symbol (Ident) 0 6 ∷ symbol (Ident) 7 8 ∷ symbol (Ident) 8 9 ∷ symbol (Ident) 10 19 ∷ symbol (Ident) 20 21 ∷ symbol (Ident) 21 22 ∷ symbol (Ident) 22 23 ∷ symbol (Ident) 23 24 ∷ symbol (Ident) 25 32 ∷ symbol (Ident) 32 33 ∷ symbol (Ident) 34 40 ∷ symbol (Int (pos 1)) 41 42 ∷ symbol (Ident) 43 46 ∷ symbol (Ident) 47 48 ∷ symbol (Ident) 48 49 ∷ symbol (Ident) 50 55 ∷ symbol (Ident) 56 57 ∷ symbol (Ident) 57 58 ∷ symbol (Ident) 58 59 ∷ symbol (Ident) 60 63 ∷ symbol (Ident) 64 65 ∷ symbol (Ident) 65 66 ∷ []) }; tree = record { module_word = 0; name = 1; semicolon = 0; imports = None; decls = (S.decls None None None (S.procedure 0 (record { name = 4; star = None }) (Some (record { left_paren = 0; sections = None; right_paren = 0; result = Some (record { colon = 0; name = (record { name = 8; member = None }) }) })) 0 (S.decls None None None S.no_procedure) None (Some (record { return_word = 10; value = (S.only (S.simple None (S.term (S.Int 11) S.no_factor) S.no_term)) })) 12 13 0 S.no_procedure)); body = (Some (record { begin_word = 0; stats = (S.stats (S.AssignOrCall (record { name = 16; selectors = (S.selected (S.EmptyParens 0 0) S.no_selector) }) None) S.no_stat) })); end_word = 0; end_name = 20; period = 0 } }

pub choice_calls_3 : checked (choice_calls_3_0 ∷ []) ≡ Fault 0 31 56
choice_calls_3 = refl

-- MODULE M; VAR g: PROCEDURE; PROCEDURE N; END N; BEGIN g := N; g; N; g() END M.
abbrev choice_calls_4_0 : Parsed
choice_calls_4_0 = record { source = record { bytes = (77 ∷ 79 ∷ 68 ∷ 85 ∷ 76 ∷ 69 ∷ 32 ∷ 77 ∷ 59 ∷ 32 ∷ 86 ∷ 65 ∷ 82 ∷ 32 ∷ 103 ∷ 58 ∷ 32 ∷ 80 ∷ 82 ∷ 79 ∷ 67 ∷ 69 ∷ 68 ∷ 85 ∷ 82 ∷ 69 ∷ 59 ∷ 32 ∷ 80 ∷ 82 ∷ 79 ∷ 67 ∷ 69 ∷ 68 ∷ 85 ∷ 82 ∷ 69 ∷ 32 ∷ 78 ∷ 59 ∷ 32 ∷ 69 ∷ 78 ∷ 68 ∷ 32 ∷ 78 ∷ 59 ∷ 32 ∷ 66 ∷ 69 ∷ 71 ∷ 73 ∷ 78 ∷ 32 ∷ 103 ∷ 32 ∷ 58 ∷ 61 ∷ 32 ∷ 78 ∷ 59 ∷ 32 ∷ 103 ∷ 59 ∷ 32 ∷ 78 ∷ 59 ∷ 32 ∷ 103 ∷ 40 ∷ 41 ∷ 32 ∷ 69 ∷ 78 ∷ 68 ∷ 32 ∷ 77 ∷ 46 ∷ []); symbols = (symbol (Ident) 0 6 ∷ symbol (Ident) 7 8 ∷ symbol (Ident) 8 9 ∷ symbol (Ident) 10 13 ∷ symbol (Ident) 14 15 ∷ symbol (Ident) 15 16 ∷ symbol (Ident) 17 26 ∷ symbol (Ident) 26 27 ∷ symbol (Ident) 28 37 ∷ symbol (Ident) 38 39 ∷ symbol (Ident) 39 40 ∷ symbol (Ident) 41 44 ∷ symbol (Ident) 45 46 ∷ symbol (Ident) 46 47 ∷ symbol (Ident) 48 53 ∷ symbol (Ident) 54 55 ∷ symbol (Ident) 56 58 ∷ symbol (Ident) 59 60 ∷ symbol (Ident) 60 61 ∷ symbol (Ident) 62 63 ∷ symbol (Ident) 63 64 ∷ symbol (Ident) 65 66 ∷ symbol (Ident) 66 67 ∷ symbol (Ident) 68 69 ∷ symbol (Ident) 69 70 ∷ symbol (Ident) 70 71 ∷ symbol (Ident) 72 75 ∷ symbol (Ident) 76 77 ∷ symbol (Ident) 77 78 ∷ []) }; tree = record { module_word = 0; name = 1; semicolon = 0; imports = None; decls = (S.decls None None (Some (record { var_word = 0; each = (record { names = (record { first = (record { name = 4; star = None }); more = [] }); colon = 0; of = (S.Procedure 6 None); semicolon = 0 } ∷ []) })) (S.procedure 0 (record { name = 9; star = None }) None 0 (S.decls None None None S.no_procedure) None None 11 12 0 S.no_procedure)); body = (Some (record { begin_word = 0; stats = (S.stats (S.AssignOrCall (record { name = 15; selectors = S.no_selector }) (Some (record { becomes = 0; value = (S.only (S.simple None (S.term (S.Designated 17 S.no_selector) S.no_factor) S.no_term)) }))) (S.next_stat 0 (S.AssignOrCall (record { name = 19; selectors = S.no_selector }) None) (S.next_stat 0 (S.AssignOrCall (record { name = 21; selectors = S.no_selector }) None) (S.next_stat 0 (S.AssignOrCall (record { name = 23; selectors = (S.selected (S.EmptyParens 0 0) S.no_selector) }) None) S.no_stat)))) })); end_word = 0; end_name = 27; period = 0 } }

pub choice_calls_4 : checked (choice_calls_4_0 ∷ []) ≡ Legal (record { records = []; pointers = []; modules = (record { name = (77 ∷ []); objects = (record { name = (103 ∷ []); exported = false; entity = I.OfVariable 0 } ∷ record { name = (78 ∷ []); exported = false; entity = I.OfProcedure 0 } ∷ []); variables = ((H.Procedure H.none H.Nothing) ∷ []); body = 1 } ∷ []); procedures = (record { module_number = 0; line = 1; is_body = false; formals = []; result = H.Nothing; locals = []; texts = []; body = I.no_statement; answer = None } ∷ record { module_number = 0; line = 1; is_body = true; formals = []; result = H.Nothing; locals = []; texts = []; body = (I.next_statement (I.Assign (I.of_type (I.Global 0 0) (H.Procedure H.none H.Nothing)) (record { form = (I.Routine 0); shape = (H.Procedure H.none H.Nothing) })) (I.next_statement (I.Invoke (I.Indirect (I.of_type (I.Global 0 0) (H.Procedure H.none H.Nothing)) I.no_argument)) (I.next_statement (I.Invoke (I.Direct 0 I.no_argument)) (I.next_statement (I.Invoke (I.Indirect (I.of_type (I.Global 0 0) (H.Procedure H.none H.Nothing)) I.no_argument)) I.no_statement)))); answer = None } ∷ []); imports_in = false })
choice_calls_4 = refl

-- MODULE M; TYPE F = PROCEDURE (a, b, c, d, e, f, g, h, i, j, k, l: ARRAY OF CHAR; m: CHAR); END M.
abbrev choice_words_1_0 : Parsed
choice_words_1_0 = record { source = record { bytes = (77 ∷ 79 ∷ 68 ∷ 85 ∷ 76 ∷ 69 ∷ 32 ∷ 77 ∷ 59 ∷ 32 ∷ 84 ∷ 89 ∷ 80 ∷ 69 ∷ 32 ∷ 70 ∷ 32 ∷ 61 ∷ 32 ∷ 80 ∷ 82 ∷ 79 ∷ 67 ∷ 69 ∷ 68 ∷ 85 ∷ 82 ∷ 69 ∷ 32 ∷ 40 ∷ 97 ∷ 44 ∷ 32 ∷ 98 ∷ 44 ∷ 32 ∷ 99 ∷ 44 ∷ 32 ∷ 100 ∷ 44 ∷ 32 ∷ 101 ∷ 44 ∷ 32 ∷ 102 ∷ 44 ∷ 32 ∷ 103 ∷ 44 ∷ 32 ∷ 104 ∷ 44 ∷ 32 ∷ 105 ∷ 44 ∷ 32 ∷ 106 ∷ 44 ∷ 32 ∷ 107 ∷ 44 ∷ 32 ∷ 108 ∷ 58 ∷ 32 ∷ 65 ∷ 82 ∷ 82 ∷ 65 ∷ 89 ∷ 32 ∷ 79 ∷ 70 ∷ 32 ∷ 67 ∷ 72 ∷ 65 ∷ 82 ∷ 59 ∷ 32 ∷ 109 ∷ 58 ∷ 32 ∷ 67 ∷ 72 ∷ 65 ∷ 82 ∷ 41 ∷ 59 ∷ 32 ∷ 69 ∷ 78 ∷ 68 ∷ 32 ∷ 77 ∷ 46 ∷ []); symbols = (symbol (Ident) 0 6 ∷ symbol (Ident) 7 8 ∷ symbol (Ident) 8 9 ∷ symbol (Ident) 10 14 ∷ symbol (Ident) 15 16 ∷ symbol (Ident) 17 18 ∷ symbol (Ident) 19 28 ∷ symbol (Ident) 29 30 ∷ symbol (Ident) 30 31 ∷ symbol (Ident) 31 32 ∷ symbol (Ident) 33 34 ∷ symbol (Ident) 34 35 ∷ symbol (Ident) 36 37 ∷ symbol (Ident) 37 38 ∷ symbol (Ident) 39 40 ∷ symbol (Ident) 40 41 ∷ symbol (Ident) 42 43 ∷ symbol (Ident) 43 44 ∷ symbol (Ident) 45 46 ∷ symbol (Ident) 46 47 ∷ symbol (Ident) 48 49 ∷ symbol (Ident) 49 50 ∷ symbol (Ident) 51 52 ∷ symbol (Ident) 52 53 ∷ symbol (Ident) 54 55 ∷ symbol (Ident) 55 56 ∷ symbol (Ident) 57 58 ∷ symbol (Ident) 58 59 ∷ symbol (Ident) 60 61 ∷ symbol (Ident) 61 62 ∷ symbol (Ident) 63 64 ∷ symbol (Ident) 64 65 ∷ symbol (Ident) 66 71 ∷ symbol (Ident) 72 74 ∷ symbol (Ident) 75 79 ∷ symbol (Ident) 79 80 ∷ symbol (Ident) 81 82 ∷ symbol (Ident) 82 83 ∷ symbol (Ident) 84 88 ∷ symbol (Ident) 88 89 ∷ symbol (Ident) 89 90 ∷ symbol (Ident) 91 94 ∷ symbol (Ident) 95 96 ∷ symbol (Ident) 96 97 ∷ []) }; tree = record { module_word = 0; name = 1; semicolon = 0; imports = None; decls = (S.decls None (Some (record { type_word = 0; each = (record { name = (record { name = 4; star = None }); equal = 0; is = (S.Procedure 6 (Some (record { left_paren = 0; sections = Some (record { first = (record { var_word = None; first = 8; more = (record { comma = 0; name = 10 } ∷ record { comma = 0; name = 12 } ∷ record { comma = 0; name = 14 } ∷ record { comma = 0; name = 16 } ∷ record { comma = 0; name = 18 } ∷ record { comma = 0; name = 20 } ∷ record { comma = 0; name = 22 } ∷ record { comma = 0; name = 24 } ∷ record { comma = 0; name = 26 } ∷ record { comma = 0; name = 28 } ∷ record { comma = 0; name = 30 } ∷ []); colon = 0; open_array = Some (record { array_word = 0; of_word = 0 }); of = (record { name = 34; member = None }) }); more = (record { semicolon = 0; section = (record { var_word = None; first = 36; more = []; colon = 0; open_array = None; of = (record { name = 38; member = None }) }) } ∷ []) }); right_paren = 0; result = None }))); semicolon = 0 } ∷ []) })) None S.no_procedure); body = None; end_word = 0; end_name = 42; period = 0 } }

pub choice_words_1 : checked (choice_words_1_0 ∷ []) ≡ Fault 0 40 81
choice_words_1 = refl

-- MODULE M; TYPE F = PROCEDURE (a, b, c, d, e, f, g, h, i, j, k, l: ARRAY OF CHAR); END M.
abbrev choice_words_2_0 : Parsed
choice_words_2_0 = record { source = record { bytes = (77 ∷ 79 ∷ 68 ∷ 85 ∷ 76 ∷ 69 ∷ 32 ∷ 77 ∷ 59 ∷ 32 ∷ 84 ∷ 89 ∷ 80 ∷ 69 ∷ 32 ∷ 70 ∷ 32 ∷ 61 ∷ 32 ∷ 80 ∷ 82 ∷ 79 ∷ 67 ∷ 69 ∷ 68 ∷ 85 ∷ 82 ∷ 69 ∷ 32 ∷ 40 ∷ 97 ∷ 44 ∷ 32 ∷ 98 ∷ 44 ∷ 32 ∷ 99 ∷ 44 ∷ 32 ∷ 100 ∷ 44 ∷ 32 ∷ 101 ∷ 44 ∷ 32 ∷ 102 ∷ 44 ∷ 32 ∷ 103 ∷ 44 ∷ 32 ∷ 104 ∷ 44 ∷ 32 ∷ 105 ∷ 44 ∷ 32 ∷ 106 ∷ 44 ∷ 32 ∷ 107 ∷ 44 ∷ 32 ∷ 108 ∷ 58 ∷ 32 ∷ 65 ∷ 82 ∷ 82 ∷ 65 ∷ 89 ∷ 32 ∷ 79 ∷ 70 ∷ 32 ∷ 67 ∷ 72 ∷ 65 ∷ 82 ∷ 41 ∷ 59 ∷ 32 ∷ 69 ∷ 78 ∷ 68 ∷ 32 ∷ 77 ∷ 46 ∷ []); symbols = (symbol (Ident) 0 6 ∷ symbol (Ident) 7 8 ∷ symbol (Ident) 8 9 ∷ symbol (Ident) 10 14 ∷ symbol (Ident) 15 16 ∷ symbol (Ident) 17 18 ∷ symbol (Ident) 19 28 ∷ symbol (Ident) 29 30 ∷ symbol (Ident) 30 31 ∷ symbol (Ident) 31 32 ∷ symbol (Ident) 33 34 ∷ symbol (Ident) 34 35 ∷ symbol (Ident) 36 37 ∷ symbol (Ident) 37 38 ∷ symbol (Ident) 39 40 ∷ symbol (Ident) 40 41 ∷ symbol (Ident) 42 43 ∷ symbol (Ident) 43 44 ∷ symbol (Ident) 45 46 ∷ symbol (Ident) 46 47 ∷ symbol (Ident) 48 49 ∷ symbol (Ident) 49 50 ∷ symbol (Ident) 51 52 ∷ symbol (Ident) 52 53 ∷ symbol (Ident) 54 55 ∷ symbol (Ident) 55 56 ∷ symbol (Ident) 57 58 ∷ symbol (Ident) 58 59 ∷ symbol (Ident) 60 61 ∷ symbol (Ident) 61 62 ∷ symbol (Ident) 63 64 ∷ symbol (Ident) 64 65 ∷ symbol (Ident) 66 71 ∷ symbol (Ident) 72 74 ∷ symbol (Ident) 75 79 ∷ symbol (Ident) 79 80 ∷ symbol (Ident) 80 81 ∷ symbol (Ident) 82 85 ∷ symbol (Ident) 86 87 ∷ symbol (Ident) 87 88 ∷ []) }; tree = record { module_word = 0; name = 1; semicolon = 0; imports = None; decls = (S.decls None (Some (record { type_word = 0; each = (record { name = (record { name = 4; star = None }); equal = 0; is = (S.Procedure 6 (Some (record { left_paren = 0; sections = Some (record { first = (record { var_word = None; first = 8; more = (record { comma = 0; name = 10 } ∷ record { comma = 0; name = 12 } ∷ record { comma = 0; name = 14 } ∷ record { comma = 0; name = 16 } ∷ record { comma = 0; name = 18 } ∷ record { comma = 0; name = 20 } ∷ record { comma = 0; name = 22 } ∷ record { comma = 0; name = 24 } ∷ record { comma = 0; name = 26 } ∷ record { comma = 0; name = 28 } ∷ record { comma = 0; name = 30 } ∷ []); colon = 0; open_array = Some (record { array_word = 0; of_word = 0 }); of = (record { name = 34; member = None }) }); more = [] }); right_paren = 0; result = None }))); semicolon = 0 } ∷ []) })) None S.no_procedure); body = None; end_word = 0; end_name = 38; period = 0 } }

pub choice_words_2 : checked (choice_words_2_0 ∷ []) ≡ Legal (record { records = []; pointers = []; modules = (record { name = (77 ∷ []); objects = (record { name = (70 ∷ []); exported = false; entity = I.OfType (H.Procedure (H.one false (H.Open H.Char) (H.one false (H.Open H.Char) (H.one false (H.Open H.Char) (H.one false (H.Open H.Char) (H.one false (H.Open H.Char) (H.one false (H.Open H.Char) (H.one false (H.Open H.Char) (H.one false (H.Open H.Char) (H.one false (H.Open H.Char) (H.one false (H.Open H.Char) (H.one false (H.Open H.Char) (H.one false (H.Open H.Char) H.none)))))))))))) H.Nothing) } ∷ []); variables = []; body = 0 } ∷ []); procedures = (record { module_number = 0; line = 1; is_body = true; formals = []; result = H.Nothing; locals = []; texts = []; body = I.no_statement; answer = None } ∷ []); imports_in = false })
choice_words_2 = refl

-- MODULE M; TYPE F = PROCEDURE (a: CHAR; b, a: INTEGER); END M.
abbrev choice_words_3_0 : Parsed
choice_words_3_0 = record { source = record { bytes = (77 ∷ 79 ∷ 68 ∷ 85 ∷ 76 ∷ 69 ∷ 32 ∷ 77 ∷ 59 ∷ 32 ∷ 84 ∷ 89 ∷ 80 ∷ 69 ∷ 32 ∷ 70 ∷ 32 ∷ 61 ∷ 32 ∷ 80 ∷ 82 ∷ 79 ∷ 67 ∷ 69 ∷ 68 ∷ 85 ∷ 82 ∷ 69 ∷ 32 ∷ 40 ∷ 97 ∷ 58 ∷ 32 ∷ 67 ∷ 72 ∷ 65 ∷ 82 ∷ 59 ∷ 32 ∷ 98 ∷ 44 ∷ 32 ∷ 97 ∷ 58 ∷ 32 ∷ 73 ∷ 78 ∷ 84 ∷ 69 ∷ 71 ∷ 69 ∷ 82 ∷ 41 ∷ 59 ∷ 32 ∷ 69 ∷ 78 ∷ 68 ∷ 32 ∷ 77 ∷ 46 ∷ []); symbols = (symbol (Ident) 0 6 ∷ symbol (Ident) 7 8 ∷ symbol (Ident) 8 9 ∷ symbol (Ident) 10 14 ∷ symbol (Ident) 15 16 ∷ symbol (Ident) 17 18 ∷ symbol (Ident) 19 28 ∷ symbol (Ident) 29 30 ∷ symbol (Ident) 30 31 ∷ symbol (Ident) 31 32 ∷ symbol (Ident) 33 37 ∷ symbol (Ident) 37 38 ∷ symbol (Ident) 39 40 ∷ symbol (Ident) 40 41 ∷ symbol (Ident) 42 43 ∷ symbol (Ident) 43 44 ∷ symbol (Ident) 45 52 ∷ symbol (Ident) 52 53 ∷ symbol (Ident) 53 54 ∷ symbol (Ident) 55 58 ∷ symbol (Ident) 59 60 ∷ symbol (Ident) 60 61 ∷ []) }; tree = record { module_word = 0; name = 1; semicolon = 0; imports = None; decls = (S.decls None (Some (record { type_word = 0; each = (record { name = (record { name = 4; star = None }); equal = 0; is = (S.Procedure 6 (Some (record { left_paren = 0; sections = Some (record { first = (record { var_word = None; first = 8; more = []; colon = 0; open_array = None; of = (record { name = 10; member = None }) }); more = (record { semicolon = 0; section = (record { var_word = None; first = 12; more = (record { comma = 0; name = 14 } ∷ []); colon = 0; open_array = None; of = (record { name = 16; member = None }) }) } ∷ []) }); right_paren = 0; result = None }))); semicolon = 0 } ∷ []) })) None S.no_procedure); body = None; end_word = 0; end_name = 20; period = 0 } }

pub choice_words_3 : checked (choice_words_3_0 ∷ []) ≡ Fault 0 36 42
choice_words_3 = refl

-- MODULE M; VAR x: INTEGER; PROCEDURE P; VAR x: CHAR; PROCEDURE Q; VAR y: CHAR; BEGIN y := x END Q; END P; END M.
abbrev choice_scopes_1_0 : Parsed
choice_scopes_1_0 = record { source = record { bytes = (77 ∷ 79 ∷ 68 ∷ 85 ∷ 76 ∷ 69 ∷ 32 ∷ 77 ∷ 59 ∷ 32 ∷ 86 ∷ 65 ∷ 82 ∷ 32 ∷ 120 ∷ 58 ∷ 32 ∷ 73 ∷ 78 ∷ 84 ∷ 69 ∷ 71 ∷ 69 ∷ 82 ∷ 59 ∷ 32 ∷ 80 ∷ 82 ∷ 79 ∷ 67 ∷ 69 ∷ 68 ∷ 85 ∷ 82 ∷ 69 ∷ 32 ∷ 80 ∷ 59 ∷ 32 ∷ 86 ∷ 65 ∷ 82 ∷ 32 ∷ 120 ∷ 58 ∷ 32 ∷ 67 ∷ 72 ∷ 65 ∷ 82 ∷ 59 ∷ 32 ∷ 80 ∷ 82 ∷ 79 ∷ 67 ∷ 69 ∷ 68 ∷ 85 ∷ 82 ∷ 69 ∷ 32 ∷ 81 ∷ 59 ∷ 32 ∷ 86 ∷ 65 ∷ 82 ∷ 32 ∷ 121 ∷ 58 ∷ 32 ∷ 67 ∷ 72 ∷ 65 ∷ 82 ∷ 59 ∷ 32 ∷ 66 ∷ 69 ∷ 71 ∷ 73 ∷ 78 ∷ 32 ∷ 121 ∷ 32 ∷ 58 ∷ 61 ∷ 32 ∷ 120 ∷ 32 ∷ 69 ∷ 78 ∷ 68 ∷ 32 ∷ 81 ∷ 59 ∷ 32 ∷ 69 ∷ 78 ∷ 68 ∷ 32 ∷ 80 ∷ 59 ∷ 32 ∷ 69 ∷ 78 ∷ 68 ∷ 32 ∷ 77 ∷ 46 ∷ []); symbols = (symbol (Ident) 0 6 ∷ symbol (Ident) 7 8 ∷ symbol (Ident) 8 9 ∷ symbol (Ident) 10 13 ∷ symbol (Ident) 14 15 ∷ symbol (Ident) 15 16 ∷ symbol (Ident) 17 24 ∷ symbol (Ident) 24 25 ∷ symbol (Ident) 26 35 ∷ symbol (Ident) 36 37 ∷ symbol (Ident) 37 38 ∷ symbol (Ident) 39 42 ∷ symbol (Ident) 43 44 ∷ symbol (Ident) 44 45 ∷ symbol (Ident) 46 50 ∷ symbol (Ident) 50 51 ∷ symbol (Ident) 52 61 ∷ symbol (Ident) 62 63 ∷ symbol (Ident) 63 64 ∷ symbol (Ident) 65 68 ∷ symbol (Ident) 69 70 ∷ symbol (Ident) 70 71 ∷ symbol (Ident) 72 76 ∷ symbol (Ident) 76 77 ∷ symbol (Ident) 78 83 ∷ symbol (Ident) 84 85 ∷ symbol (Ident) 86 88 ∷ symbol (Ident) 89 90 ∷ symbol (Ident) 91 94 ∷ symbol (Ident) 95 96 ∷ symbol (Ident) 96 97 ∷ symbol (Ident) 98 101 ∷ symbol (Ident) 102 103 ∷ symbol (Ident) 103 104 ∷ symbol (Ident) 105 108 ∷ symbol (Ident) 109 110 ∷ symbol (Ident) 110 111 ∷ []) }; tree = record { module_word = 0; name = 1; semicolon = 0; imports = None; decls = (S.decls None None (Some (record { var_word = 0; each = (record { names = (record { first = (record { name = 4; star = None }); more = [] }); colon = 0; of = (S.Named (record { name = 6; member = None })); semicolon = 0 } ∷ []) })) (S.procedure 0 (record { name = 9; star = None }) None 0 (S.decls None None (Some (record { var_word = 0; each = (record { names = (record { first = (record { name = 12; star = None }); more = [] }); colon = 0; of = (S.Named (record { name = 14; member = None })); semicolon = 0 } ∷ []) })) (S.procedure 0 (record { name = 17; star = None }) None 0 (S.decls None None (Some (record { var_word = 0; each = (record { names = (record { first = (record { name = 20; star = None }); more = [] }); colon = 0; of = (S.Named (record { name = 22; member = None })); semicolon = 0 } ∷ []) })) S.no_procedure) (Some (record { begin_word = 0; stats = (S.stats (S.AssignOrCall (record { name = 25; selectors = S.no_selector }) (Some (record { becomes = 0; value = (S.only (S.simple None (S.term (S.Designated 27 S.no_selector) S.no_factor) S.no_term)) }))) S.no_stat) })) None 28 29 0 S.no_procedure)) None None 31 32 0 S.no_procedure)); body = None; end_word = 0; end_name = 35; period = 0 } }

pub choice_scopes_1 : checked (choice_scopes_1_0 ∷ []) ≡ Fault 0 34 89
choice_scopes_1 = refl

-- MODULE M; TYPE BOOLEAN = INTEGER; VAR b: BOOLEAN; BEGIN b := 3 END M.
abbrev choice_scopes_2_0 : Parsed
choice_scopes_2_0 = record { source = record { bytes = (77 ∷ 79 ∷ 68 ∷ 85 ∷ 76 ∷ 69 ∷ 32 ∷ 77 ∷ 59 ∷ 32 ∷ 84 ∷ 89 ∷ 80 ∷ 69 ∷ 32 ∷ 66 ∷ 79 ∷ 79 ∷ 76 ∷ 69 ∷ 65 ∷ 78 ∷ 32 ∷ 61 ∷ 32 ∷ 73 ∷ 78 ∷ 84 ∷ 69 ∷ 71 ∷ 69 ∷ 82 ∷ 59 ∷ 32 ∷ 86 ∷ 65 ∷ 82 ∷ 32 ∷ 98 ∷ 58 ∷ 32 ∷ 66 ∷ 79 ∷ 79 ∷ 76 ∷ 69 ∷ 65 ∷ 78 ∷ 59 ∷ 32 ∷ 66 ∷ 69 ∷ 71 ∷ 73 ∷ 78 ∷ 32 ∷ 98 ∷ 32 ∷ 58 ∷ 61 ∷ 32 ∷ 51 ∷ 32 ∷ 69 ∷ 78 ∷ 68 ∷ 32 ∷ 77 ∷ 46 ∷ []); symbols = (symbol (Ident) 0 6 ∷ symbol (Ident) 7 8 ∷ symbol (Ident) 8 9 ∷ symbol (Ident) 10 14 ∷ symbol (Ident) 15 22 ∷ symbol (Ident) 23 24 ∷ symbol (Ident) 25 32 ∷ symbol (Ident) 32 33 ∷ symbol (Ident) 34 37 ∷ symbol (Ident) 38 39 ∷ symbol (Ident) 39 40 ∷ symbol (Ident) 41 48 ∷ symbol (Ident) 48 49 ∷ symbol (Ident) 50 55 ∷ symbol (Ident) 56 57 ∷ symbol (Ident) 58 60 ∷ symbol (Int (pos 3)) 61 62 ∷ symbol (Ident) 63 66 ∷ symbol (Ident) 67 68 ∷ symbol (Ident) 68 69 ∷ []) }; tree = record { module_word = 0; name = 1; semicolon = 0; imports = None; decls = (S.decls None (Some (record { type_word = 0; each = (record { name = (record { name = 4; star = None }); equal = 0; is = (S.Named (record { name = 6; member = None })); semicolon = 0 } ∷ []) })) (Some (record { var_word = 0; each = (record { names = (record { first = (record { name = 9; star = None }); more = [] }); colon = 0; of = (S.Named (record { name = 11; member = None })); semicolon = 0 } ∷ []) })) S.no_procedure); body = (Some (record { begin_word = 0; stats = (S.stats (S.AssignOrCall (record { name = 14; selectors = S.no_selector }) (Some (record { becomes = 0; value = (S.only (S.simple None (S.term (S.Int 16) S.no_factor) S.no_term)) }))) S.no_stat) })); end_word = 0; end_name = 18; period = 0 } }

pub choice_scopes_2 : checked (choice_scopes_2_0 ∷ []) ≡ Legal (record { records = []; pointers = []; modules = (record { name = (77 ∷ []); objects = (record { name = (66 ∷ 79 ∷ 79 ∷ 76 ∷ 69 ∷ 65 ∷ 78 ∷ []); exported = false; entity = I.OfType H.Integer } ∷ record { name = (98 ∷ []); exported = false; entity = I.OfVariable 0 } ∷ []); variables = (H.Integer ∷ []); body = 0 } ∷ []); procedures = (record { module_number = 0; line = 1; is_body = true; formals = []; result = H.Nothing; locals = []; texts = []; body = (I.next_statement (I.Assign (I.of_type (I.Global 0 0) H.Integer) (record { form = (I.Literal 3); shape = H.Integer })) I.no_statement); answer = None } ∷ []); imports_in = false })
choice_scopes_2 = refl

-- MODULE M; VAR M: INTEGER; BEGIN M := 1 END M.
abbrev choice_scopes_3_0 : Parsed
choice_scopes_3_0 = record { source = record { bytes = (77 ∷ 79 ∷ 68 ∷ 85 ∷ 76 ∷ 69 ∷ 32 ∷ 77 ∷ 59 ∷ 32 ∷ 86 ∷ 65 ∷ 82 ∷ 32 ∷ 77 ∷ 58 ∷ 32 ∷ 73 ∷ 78 ∷ 84 ∷ 69 ∷ 71 ∷ 69 ∷ 82 ∷ 59 ∷ 32 ∷ 66 ∷ 69 ∷ 71 ∷ 73 ∷ 78 ∷ 32 ∷ 77 ∷ 32 ∷ 58 ∷ 61 ∷ 32 ∷ 49 ∷ 32 ∷ 69 ∷ 78 ∷ 68 ∷ 32 ∷ 77 ∷ 46 ∷ []); symbols = (symbol (Ident) 0 6 ∷ symbol (Ident) 7 8 ∷ symbol (Ident) 8 9 ∷ symbol (Ident) 10 13 ∷ symbol (Ident) 14 15 ∷ symbol (Ident) 15 16 ∷ symbol (Ident) 17 24 ∷ symbol (Ident) 24 25 ∷ symbol (Ident) 26 31 ∷ symbol (Ident) 32 33 ∷ symbol (Ident) 34 36 ∷ symbol (Int (pos 1)) 37 38 ∷ symbol (Ident) 39 42 ∷ symbol (Ident) 43 44 ∷ symbol (Ident) 44 45 ∷ []) }; tree = record { module_word = 0; name = 1; semicolon = 0; imports = None; decls = (S.decls None None (Some (record { var_word = 0; each = (record { names = (record { first = (record { name = 4; star = None }); more = [] }); colon = 0; of = (S.Named (record { name = 6; member = None })); semicolon = 0 } ∷ []) })) S.no_procedure); body = (Some (record { begin_word = 0; stats = (S.stats (S.AssignOrCall (record { name = 9; selectors = S.no_selector }) (Some (record { becomes = 0; value = (S.only (S.simple None (S.term (S.Int 11) S.no_factor) S.no_term)) }))) S.no_stat) })); end_word = 0; end_name = 13; period = 0 } }

pub choice_scopes_3 : checked (choice_scopes_3_0 ∷ []) ≡ Legal (record { records = []; pointers = []; modules = (record { name = (77 ∷ []); objects = (record { name = (77 ∷ []); exported = false; entity = I.OfVariable 0 } ∷ []); variables = (H.Integer ∷ []); body = 0 } ∷ []); procedures = (record { module_number = 0; line = 1; is_body = true; formals = []; result = H.Nothing; locals = []; texts = []; body = (I.next_statement (I.Assign (I.of_type (I.Global 0 0) H.Integer) (record { form = (I.Literal 1); shape = H.Integer })) I.no_statement); answer = None } ∷ []); imports_in = false })
choice_scopes_3 = refl

-- MODULE M; IMPORT A := Out, B := Out; BEGIN A.Ln; B.Ln END M.
abbrev choice_scopes_4_0 : Parsed
choice_scopes_4_0 = record { source = record { bytes = (77 ∷ 79 ∷ 68 ∷ 85 ∷ 76 ∷ 69 ∷ 32 ∷ 77 ∷ 59 ∷ 32 ∷ 73 ∷ 77 ∷ 80 ∷ 79 ∷ 82 ∷ 84 ∷ 32 ∷ 65 ∷ 32 ∷ 58 ∷ 61 ∷ 32 ∷ 79 ∷ 117 ∷ 116 ∷ 44 ∷ 32 ∷ 66 ∷ 32 ∷ 58 ∷ 61 ∷ 32 ∷ 79 ∷ 117 ∷ 116 ∷ 59 ∷ 32 ∷ 66 ∷ 69 ∷ 71 ∷ 73 ∷ 78 ∷ 32 ∷ 65 ∷ 46 ∷ 76 ∷ 110 ∷ 59 ∷ 32 ∷ 66 ∷ 46 ∷ 76 ∷ 110 ∷ 32 ∷ 69 ∷ 78 ∷ 68 ∷ 32 ∷ 77 ∷ 46 ∷ []); symbols = (symbol (Ident) 0 6 ∷ symbol (Ident) 7 8 ∷ symbol (Ident) 8 9 ∷ symbol (Ident) 10 16 ∷ symbol (Ident) 17 18 ∷ symbol (Ident) 19 21 ∷ symbol (Ident) 22 25 ∷ symbol (Ident) 25 26 ∷ symbol (Ident) 27 28 ∷ symbol (Ident) 29 31 ∷ symbol (Ident) 32 35 ∷ symbol (Ident) 35 36 ∷ symbol (Ident) 37 42 ∷ symbol (Ident) 43 44 ∷ symbol (Ident) 44 45 ∷ symbol (Ident) 45 47 ∷ symbol (Ident) 47 48 ∷ symbol (Ident) 49 50 ∷ symbol (Ident) 50 51 ∷ symbol (Ident) 51 53 ∷ symbol (Ident) 54 57 ∷ symbol (Ident) 58 59 ∷ symbol (Ident) 59 60 ∷ []) }; tree = record { module_word = 0; name = 1; semicolon = 0; imports = Some (record { import_word = 0; first = (record { name = 4; of = Some (record { becomes = 0; name = 6 }) }); more = (record { comma = 0; import = (record { name = 8; of = Some (record { becomes = 0; name = 10 }) }) } ∷ []); semicolon = 0 }); decls = (S.decls None None None S.no_procedure); body = (Some (record { begin_word = 0; stats = (S.stats (S.AssignOrCall (record { name = 13; selectors = (S.selected (S.Field 0 15) S.no_selector) }) None) (S.next_stat 0 (S.AssignOrCall (record { name = 17; selectors = (S.selected (S.Field 0 19) S.no_selector) }) None) S.no_stat)) })); end_word = 0; end_name = 21; period = 0 } }

pub choice_scopes_4 : checked (choice_scopes_4_0 ∷ []) ≡ Legal (record { records = []; pointers = []; modules = (record { name = (77 ∷ []); objects = []; variables = []; body = 0 } ∷ []); procedures = (record { module_number = 0; line = 1; is_body = true; formals = []; result = H.Nothing; locals = []; texts = []; body = (I.next_statement I.OutLn (I.next_statement I.OutLn I.no_statement)); answer = None } ∷ []); imports_in = false })
choice_scopes_4 = refl

-- MODULE M; PROCEDURE V(VAR i: INTEGER; b: BOOLEAN); END V; BEGIN V(1, z) END M.
abbrev choice_arguments_1_0 : Parsed
choice_arguments_1_0 = record { source = record { bytes = (77 ∷ 79 ∷ 68 ∷ 85 ∷ 76 ∷ 69 ∷ 32 ∷ 77 ∷ 59 ∷ 32 ∷ 80 ∷ 82 ∷ 79 ∷ 67 ∷ 69 ∷ 68 ∷ 85 ∷ 82 ∷ 69 ∷ 32 ∷ 86 ∷ 40 ∷ 86 ∷ 65 ∷ 82 ∷ 32 ∷ 105 ∷ 58 ∷ 32 ∷ 73 ∷ 78 ∷ 84 ∷ 69 ∷ 71 ∷ 69 ∷ 82 ∷ 59 ∷ 32 ∷ 98 ∷ 58 ∷ 32 ∷ 66 ∷ 79 ∷ 79 ∷ 76 ∷ 69 ∷ 65 ∷ 78 ∷ 41 ∷ 59 ∷ 32 ∷ 69 ∷ 78 ∷ 68 ∷ 32 ∷ 86 ∷ 59 ∷ 32 ∷ 66 ∷ 69 ∷ 71 ∷ 73 ∷ 78 ∷ 32 ∷ 86 ∷ 40 ∷ 49 ∷ 44 ∷ 32 ∷ 122 ∷ 41 ∷ 32 ∷ 69 ∷ 78 ∷ 68 ∷ 32 ∷ 77 ∷ 46 ∷ []); symbols = (symbol (Ident) 0 6 ∷ symbol (Ident) 7 8 ∷ symbol (Ident) 8 9 ∷ symbol (Ident) 10 19 ∷ symbol (Ident) 20 21 ∷ symbol (Ident) 21 22 ∷ symbol (Ident) 22 25 ∷ symbol (Ident) 26 27 ∷ symbol (Ident) 27 28 ∷ symbol (Ident) 29 36 ∷ symbol (Ident) 36 37 ∷ symbol (Ident) 38 39 ∷ symbol (Ident) 39 40 ∷ symbol (Ident) 41 48 ∷ symbol (Ident) 48 49 ∷ symbol (Ident) 49 50 ∷ symbol (Ident) 51 54 ∷ symbol (Ident) 55 56 ∷ symbol (Ident) 56 57 ∷ symbol (Ident) 58 63 ∷ symbol (Ident) 64 65 ∷ symbol (Ident) 65 66 ∷ symbol (Int (pos 1)) 66 67 ∷ symbol (Ident) 67 68 ∷ symbol (Ident) 69 70 ∷ symbol (Ident) 70 71 ∷ symbol (Ident) 72 75 ∷ symbol (Ident) 76 77 ∷ symbol (Ident) 77 78 ∷ []) }; tree = record { module_word = 0; name = 1; semicolon = 0; imports = None; decls = (S.decls None None None (S.procedure 0 (record { name = 4; star = None }) (Some (record { left_paren = 0; sections = Some (record { first = (record { var_word = Some 0; first = 7; more = []; colon = 0; open_array = None; of = (record { name = 9; member = None }) }); more = (record { semicolon = 0; section = (record { var_word = None; first = 11; more = []; colon = 0; open_array = None; of = (record { name = 13; member = None }) }) } ∷ []) }); right_paren = 0; result = None })) 0 (S.decls None None None S.no_procedure) None None 16 17 0 S.no_procedure)); body = (Some (record { begin_word = 0; stats = (S.stats (S.AssignOrCall (record { name = 20; selectors = (S.selected (S.Parens 0 (S.expressions (S.only (S.simple None (S.term (S.Int 22) S.no_factor) S.no_term)) (S.next_expression 0 (S.only (S.simple None (S.term (S.Designated 24 S.no_selector) S.no_factor) S.no_term)) S.no_expression)) 0) S.no_selector) }) None) S.no_stat) })); end_word = 0; end_name = 27; period = 0 } }

pub choice_arguments_1 : checked (choice_arguments_1_0 ∷ []) ≡ Fault 0 30 69
choice_arguments_1 = refl

-- MODULE M; PROCEDURE V(VAR i: INTEGER; b: BOOLEAN); END V; BEGIN V(1) END M.
abbrev choice_arguments_2_0 : Parsed
choice_arguments_2_0 = record { source = record { bytes = (77 ∷ 79 ∷ 68 ∷ 85 ∷ 76 ∷ 69 ∷ 32 ∷ 77 ∷ 59 ∷ 32 ∷ 80 ∷ 82 ∷ 79 ∷ 67 ∷ 69 ∷ 68 ∷ 85 ∷ 82 ∷ 69 ∷ 32 ∷ 86 ∷ 40 ∷ 86 ∷ 65 ∷ 82 ∷ 32 ∷ 105 ∷ 58 ∷ 32 ∷ 73 ∷ 78 ∷ 84 ∷ 69 ∷ 71 ∷ 69 ∷ 82 ∷ 59 ∷ 32 ∷ 98 ∷ 58 ∷ 32 ∷ 66 ∷ 79 ∷ 79 ∷ 76 ∷ 69 ∷ 65 ∷ 78 ∷ 41 ∷ 59 ∷ 32 ∷ 69 ∷ 78 ∷ 68 ∷ 32 ∷ 86 ∷ 59 ∷ 32 ∷ 66 ∷ 69 ∷ 71 ∷ 73 ∷ 78 ∷ 32 ∷ 86 ∷ 40 ∷ 49 ∷ 41 ∷ 32 ∷ 69 ∷ 78 ∷ 68 ∷ 32 ∷ 77 ∷ 46 ∷ []); symbols = (symbol (Ident) 0 6 ∷ symbol (Ident) 7 8 ∷ symbol (Ident) 8 9 ∷ symbol (Ident) 10 19 ∷ symbol (Ident) 20 21 ∷ symbol (Ident) 21 22 ∷ symbol (Ident) 22 25 ∷ symbol (Ident) 26 27 ∷ symbol (Ident) 27 28 ∷ symbol (Ident) 29 36 ∷ symbol (Ident) 36 37 ∷ symbol (Ident) 38 39 ∷ symbol (Ident) 39 40 ∷ symbol (Ident) 41 48 ∷ symbol (Ident) 48 49 ∷ symbol (Ident) 49 50 ∷ symbol (Ident) 51 54 ∷ symbol (Ident) 55 56 ∷ symbol (Ident) 56 57 ∷ symbol (Ident) 58 63 ∷ symbol (Ident) 64 65 ∷ symbol (Ident) 65 66 ∷ symbol (Int (pos 1)) 66 67 ∷ symbol (Ident) 67 68 ∷ symbol (Ident) 69 72 ∷ symbol (Ident) 73 74 ∷ symbol (Ident) 74 75 ∷ []) }; tree = record { module_word = 0; name = 1; semicolon = 0; imports = None; decls = (S.decls None None None (S.procedure 0 (record { name = 4; star = None }) (Some (record { left_paren = 0; sections = Some (record { first = (record { var_word = Some 0; first = 7; more = []; colon = 0; open_array = None; of = (record { name = 9; member = None }) }); more = (record { semicolon = 0; section = (record { var_word = None; first = 11; more = []; colon = 0; open_array = None; of = (record { name = 13; member = None }) }) } ∷ []) }); right_paren = 0; result = None })) 0 (S.decls None None None S.no_procedure) None None 16 17 0 S.no_procedure)); body = (Some (record { begin_word = 0; stats = (S.stats (S.AssignOrCall (record { name = 20; selectors = (S.selected (S.Parens 0 (S.expressions (S.only (S.simple None (S.term (S.Int 22) S.no_factor) S.no_term)) S.no_expression) 0) S.no_selector) }) None) S.no_stat) })); end_word = 0; end_name = 25; period = 0 } }

pub choice_arguments_2 : checked (choice_arguments_2_0 ∷ []) ≡ Fault 0 40 64
choice_arguments_2 = refl

-- MODULE M; IMPORT In; PROCEDURE V(VAR i: INTEGER); END V; BEGIN V(In.Done) END M.
abbrev choice_arguments_3_0 : Parsed
choice_arguments_3_0 = record { source = record { bytes = (77 ∷ 79 ∷ 68 ∷ 85 ∷ 76 ∷ 69 ∷ 32 ∷ 77 ∷ 59 ∷ 32 ∷ 73 ∷ 77 ∷ 80 ∷ 79 ∷ 82 ∷ 84 ∷ 32 ∷ 73 ∷ 110 ∷ 59 ∷ 32 ∷ 80 ∷ 82 ∷ 79 ∷ 67 ∷ 69 ∷ 68 ∷ 85 ∷ 82 ∷ 69 ∷ 32 ∷ 86 ∷ 40 ∷ 86 ∷ 65 ∷ 82 ∷ 32 ∷ 105 ∷ 58 ∷ 32 ∷ 73 ∷ 78 ∷ 84 ∷ 69 ∷ 71 ∷ 69 ∷ 82 ∷ 41 ∷ 59 ∷ 32 ∷ 69 ∷ 78 ∷ 68 ∷ 32 ∷ 86 ∷ 59 ∷ 32 ∷ 66 ∷ 69 ∷ 71 ∷ 73 ∷ 78 ∷ 32 ∷ 86 ∷ 40 ∷ 73 ∷ 110 ∷ 46 ∷ 68 ∷ 111 ∷ 110 ∷ 101 ∷ 41 ∷ 32 ∷ 69 ∷ 78 ∷ 68 ∷ 32 ∷ 77 ∷ 46 ∷ []); symbols = (symbol (Ident) 0 6 ∷ symbol (Ident) 7 8 ∷ symbol (Ident) 8 9 ∷ symbol (Ident) 10 16 ∷ symbol (Ident) 17 19 ∷ symbol (Ident) 19 20 ∷ symbol (Ident) 21 30 ∷ symbol (Ident) 31 32 ∷ symbol (Ident) 32 33 ∷ symbol (Ident) 33 36 ∷ symbol (Ident) 37 38 ∷ symbol (Ident) 38 39 ∷ symbol (Ident) 40 47 ∷ symbol (Ident) 47 48 ∷ symbol (Ident) 48 49 ∷ symbol (Ident) 50 53 ∷ symbol (Ident) 54 55 ∷ symbol (Ident) 55 56 ∷ symbol (Ident) 57 62 ∷ symbol (Ident) 63 64 ∷ symbol (Ident) 64 65 ∷ symbol (Ident) 65 67 ∷ symbol (Ident) 67 68 ∷ symbol (Ident) 68 72 ∷ symbol (Ident) 72 73 ∷ symbol (Ident) 74 77 ∷ symbol (Ident) 78 79 ∷ symbol (Ident) 79 80 ∷ []) }; tree = record { module_word = 0; name = 1; semicolon = 0; imports = Some (record { import_word = 0; first = (record { name = 4; of = None }); more = []; semicolon = 0 }); decls = (S.decls None None None (S.procedure 0 (record { name = 7; star = None }) (Some (record { left_paren = 0; sections = Some (record { first = (record { var_word = Some 0; first = 10; more = []; colon = 0; open_array = None; of = (record { name = 12; member = None }) }); more = [] }); right_paren = 0; result = None })) 0 (S.decls None None None S.no_procedure) None None 15 16 0 S.no_procedure)); body = (Some (record { begin_word = 0; stats = (S.stats (S.AssignOrCall (record { name = 19; selectors = (S.selected (S.Parens 0 (S.expressions (S.only (S.simple None (S.term (S.Designated 21 (S.selected (S.Field 0 23) S.no_selector)) S.no_factor) S.no_term)) S.no_expression) 0) S.no_selector) }) None) S.no_stat) })); end_word = 0; end_name = 26; period = 0 } }

pub choice_arguments_3 : checked (choice_arguments_3_0 ∷ []) ≡ Fault 0 33 65
choice_arguments_3 = refl

-- MODULE M; CONST c = 1; BEGIN c := TRUE & 1 END M.
abbrev choice_assignment_1_0 : Parsed
choice_assignment_1_0 = record { source = record { bytes = (77 ∷ 79 ∷ 68 ∷ 85 ∷ 76 ∷ 69 ∷ 32 ∷ 77 ∷ 59 ∷ 32 ∷ 67 ∷ 79 ∷ 78 ∷ 83 ∷ 84 ∷ 32 ∷ 99 ∷ 32 ∷ 61 ∷ 32 ∷ 49 ∷ 59 ∷ 32 ∷ 66 ∷ 69 ∷ 71 ∷ 73 ∷ 78 ∷ 32 ∷ 99 ∷ 32 ∷ 58 ∷ 61 ∷ 32 ∷ 84 ∷ 82 ∷ 85 ∷ 69 ∷ 32 ∷ 38 ∷ 32 ∷ 49 ∷ 32 ∷ 69 ∷ 78 ∷ 68 ∷ 32 ∷ 77 ∷ 46 ∷ []); symbols = (symbol (Ident) 0 6 ∷ symbol (Ident) 7 8 ∷ symbol (Ident) 8 9 ∷ symbol (Ident) 10 15 ∷ symbol (Ident) 16 17 ∷ symbol (Ident) 18 19 ∷ symbol (Int (pos 1)) 20 21 ∷ symbol (Ident) 21 22 ∷ symbol (Ident) 23 28 ∷ symbol (Ident) 29 30 ∷ symbol (Ident) 31 33 ∷ symbol (Ident) 34 38 ∷ symbol (Ident) 39 40 ∷ symbol (Int (pos 1)) 41 42 ∷ symbol (Ident) 43 46 ∷ symbol (Ident) 47 48 ∷ symbol (Ident) 48 49 ∷ []) }; tree = record { module_word = 0; name = 1; semicolon = 0; imports = None; decls = (S.decls (Some (record { const_word = 0; each = (record { name = (record { name = 4; star = None }); equal = 0; value = (S.only (S.simple None (S.term (S.Int 6) S.no_factor) S.no_term)); semicolon = 0 } ∷ []) })) None None S.no_procedure); body = (Some (record { begin_word = 0; stats = (S.stats (S.AssignOrCall (record { name = 9; selectors = S.no_selector }) (Some (record { becomes = 0; value = (S.only (S.simple None (S.term (S.True 11) (S.multiplied (TheMulOperator.And 12) (S.Int 13) S.no_factor)) S.no_term)) }))) S.no_stat) })); end_word = 0; end_name = 15; period = 0 } }

pub choice_assignment_1 : checked (choice_assignment_1_0 ∷ []) ≡ Fault 0 31 39
choice_assignment_1 = refl

-- MODULE M; IMPORT In; BEGIN In.Done := 1 END M.
abbrev choice_assignment_2_0 : Parsed
choice_assignment_2_0 = record { source = record { bytes = (77 ∷ 79 ∷ 68 ∷ 85 ∷ 76 ∷ 69 ∷ 32 ∷ 77 ∷ 59 ∷ 32 ∷ 73 ∷ 77 ∷ 80 ∷ 79 ∷ 82 ∷ 84 ∷ 32 ∷ 73 ∷ 110 ∷ 59 ∷ 32 ∷ 66 ∷ 69 ∷ 71 ∷ 73 ∷ 78 ∷ 32 ∷ 73 ∷ 110 ∷ 46 ∷ 68 ∷ 111 ∷ 110 ∷ 101 ∷ 32 ∷ 58 ∷ 61 ∷ 32 ∷ 49 ∷ 32 ∷ 69 ∷ 78 ∷ 68 ∷ 32 ∷ 77 ∷ 46 ∷ []); symbols = (symbol (Ident) 0 6 ∷ symbol (Ident) 7 8 ∷ symbol (Ident) 8 9 ∷ symbol (Ident) 10 16 ∷ symbol (Ident) 17 19 ∷ symbol (Ident) 19 20 ∷ symbol (Ident) 21 26 ∷ symbol (Ident) 27 29 ∷ symbol (Ident) 29 30 ∷ symbol (Ident) 30 34 ∷ symbol (Ident) 35 37 ∷ symbol (Int (pos 1)) 38 39 ∷ symbol (Ident) 40 43 ∷ symbol (Ident) 44 45 ∷ symbol (Ident) 45 46 ∷ []) }; tree = record { module_word = 0; name = 1; semicolon = 0; imports = Some (record { import_word = 0; first = (record { name = 4; of = None }); more = []; semicolon = 0 }); decls = (S.decls None None None S.no_procedure); body = (Some (record { begin_word = 0; stats = (S.stats (S.AssignOrCall (record { name = 7; selectors = (S.selected (S.Field 0 9) S.no_selector) }) (Some (record { becomes = 0; value = (S.only (S.simple None (S.term (S.Int 11) S.no_factor) S.no_term)) }))) S.no_stat) })); end_word = 0; end_name = 13; period = 0 } }

pub choice_assignment_2 : checked (choice_assignment_2_0 ∷ []) ≡ Fault 0 33 27
choice_assignment_2 = refl

-- MODULE M; PROCEDURE P(a: ARRAY OF CHAR); BEGIN a := z END P; END M.
abbrev choice_assignment_3_0 : Parsed
choice_assignment_3_0 = record { source = record { bytes = (77 ∷ 79 ∷ 68 ∷ 85 ∷ 76 ∷ 69 ∷ 32 ∷ 77 ∷ 59 ∷ 32 ∷ 80 ∷ 82 ∷ 79 ∷ 67 ∷ 69 ∷ 68 ∷ 85 ∷ 82 ∷ 69 ∷ 32 ∷ 80 ∷ 40 ∷ 97 ∷ 58 ∷ 32 ∷ 65 ∷ 82 ∷ 82 ∷ 65 ∷ 89 ∷ 32 ∷ 79 ∷ 70 ∷ 32 ∷ 67 ∷ 72 ∷ 65 ∷ 82 ∷ 41 ∷ 59 ∷ 32 ∷ 66 ∷ 69 ∷ 71 ∷ 73 ∷ 78 ∷ 32 ∷ 97 ∷ 32 ∷ 58 ∷ 61 ∷ 32 ∷ 122 ∷ 32 ∷ 69 ∷ 78 ∷ 68 ∷ 32 ∷ 80 ∷ 59 ∷ 32 ∷ 69 ∷ 78 ∷ 68 ∷ 32 ∷ 77 ∷ 46 ∷ []); symbols = (symbol (Ident) 0 6 ∷ symbol (Ident) 7 8 ∷ symbol (Ident) 8 9 ∷ symbol (Ident) 10 19 ∷ symbol (Ident) 20 21 ∷ symbol (Ident) 21 22 ∷ symbol (Ident) 22 23 ∷ symbol (Ident) 23 24 ∷ symbol (Ident) 25 30 ∷ symbol (Ident) 31 33 ∷ symbol (Ident) 34 38 ∷ symbol (Ident) 38 39 ∷ symbol (Ident) 39 40 ∷ symbol (Ident) 41 46 ∷ symbol (Ident) 47 48 ∷ symbol (Ident) 49 51 ∷ symbol (Ident) 52 53 ∷ symbol (Ident) 54 57 ∷ symbol (Ident) 58 59 ∷ symbol (Ident) 59 60 ∷ symbol (Ident) 61 64 ∷ symbol (Ident) 65 66 ∷ symbol (Ident) 66 67 ∷ []) }; tree = record { module_word = 0; name = 1; semicolon = 0; imports = None; decls = (S.decls None None None (S.procedure 0 (record { name = 4; star = None }) (Some (record { left_paren = 0; sections = Some (record { first = (record { var_word = None; first = 6; more = []; colon = 0; open_array = Some (record { array_word = 0; of_word = 0 }); of = (record { name = 10; member = None }) }); more = [] }); right_paren = 0; result = None })) 0 (S.decls None None None S.no_procedure) (Some (record { begin_word = 0; stats = (S.stats (S.AssignOrCall (record { name = 14; selectors = S.no_selector }) (Some (record { becomes = 0; value = (S.only (S.simple None (S.term (S.Designated 16 S.no_selector) S.no_factor) S.no_term)) }))) S.no_stat) })) None 17 18 0 S.no_procedure)); body = None; end_word = 0; end_name = 21; period = 0 } }

pub choice_assignment_3 : checked (choice_assignment_3_0 ∷ []) ≡ Fault 0 30 52
choice_assignment_3 = refl

-- MODULE M; VAR a: ARRAY 2, 2 OF CHAR; BEGIN a[TRUE, z] := ''a'' END M.
abbrev choice_walked_1_0 : Parsed
choice_walked_1_0 = record { source = record { bytes = (77 ∷ 79 ∷ 68 ∷ 85 ∷ 76 ∷ 69 ∷ 32 ∷ 77 ∷ 59 ∷ 32 ∷ 86 ∷ 65 ∷ 82 ∷ 32 ∷ 97 ∷ 58 ∷ 32 ∷ 65 ∷ 82 ∷ 82 ∷ 65 ∷ 89 ∷ 32 ∷ 50 ∷ 44 ∷ 32 ∷ 50 ∷ 32 ∷ 79 ∷ 70 ∷ 32 ∷ 67 ∷ 72 ∷ 65 ∷ 82 ∷ 59 ∷ 32 ∷ 66 ∷ 69 ∷ 71 ∷ 73 ∷ 78 ∷ 32 ∷ 97 ∷ 91 ∷ 84 ∷ 82 ∷ 85 ∷ 69 ∷ 44 ∷ 32 ∷ 122 ∷ 93 ∷ 32 ∷ 58 ∷ 61 ∷ 32 ∷ 34 ∷ 97 ∷ 34 ∷ 32 ∷ 69 ∷ 78 ∷ 68 ∷ 32 ∷ 77 ∷ 46 ∷ []); symbols = (symbol (Ident) 0 6 ∷ symbol (Ident) 7 8 ∷ symbol (Ident) 8 9 ∷ symbol (Ident) 10 13 ∷ symbol (Ident) 14 15 ∷ symbol (Ident) 15 16 ∷ symbol (Ident) 17 22 ∷ symbol (Int (pos 2)) 23 24 ∷ symbol (Ident) 24 25 ∷ symbol (Int (pos 2)) 26 27 ∷ symbol (Ident) 28 30 ∷ symbol (Ident) 31 35 ∷ symbol (Ident) 35 36 ∷ symbol (Ident) 37 42 ∷ symbol (Ident) 43 44 ∷ symbol (Ident) 44 45 ∷ symbol (Ident) 45 49 ∷ symbol (Ident) 49 50 ∷ symbol (Ident) 51 52 ∷ symbol (Ident) 52 53 ∷ symbol (Ident) 54 56 ∷ symbol (TheKind.Text) 57 60 ∷ symbol (Ident) 61 64 ∷ symbol (Ident) 65 66 ∷ symbol (Ident) 66 67 ∷ []) }; tree = record { module_word = 0; name = 1; semicolon = 0; imports = None; decls = (S.decls None None (Some (record { var_word = 0; each = (record { names = (record { first = (record { name = 4; star = None }); more = [] }); colon = 0; of = (S.Array 6 (S.only (S.simple None (S.term (S.Int 7) S.no_factor) S.no_term)) (S.next_expression 0 (S.only (S.simple None (S.term (S.Int 9) S.no_factor) S.no_term)) S.no_expression) 0 (S.Named (record { name = 11; member = None }))); semicolon = 0 } ∷ []) })) S.no_procedure); body = (Some (record { begin_word = 0; stats = (S.stats (S.AssignOrCall (record { name = 14; selectors = (S.selected (S.Index 0 (S.expressions (S.only (S.simple None (S.term (S.True 16) S.no_factor) S.no_term)) (S.next_expression 0 (S.only (S.simple None (S.term (S.Designated 18 S.no_selector) S.no_factor) S.no_term)) S.no_expression)) 0) S.no_selector) }) (Some (record { becomes = 0; value = (S.only (S.simple None (S.term (S.Text 21) S.no_factor) S.no_term)) }))) S.no_stat) })); end_word = 0; end_name = 23; period = 0 } }

pub choice_walked_1 : checked (choice_walked_1_0 ∷ []) ≡ Fault 0 31 45
choice_walked_1 = refl

-- MODULE M; VAR i: INTEGER; BEGIN FOR i := TRUE TO z DO END END M.
abbrev choice_walked_2_0 : Parsed
choice_walked_2_0 = record { source = record { bytes = (77 ∷ 79 ∷ 68 ∷ 85 ∷ 76 ∷ 69 ∷ 32 ∷ 77 ∷ 59 ∷ 32 ∷ 86 ∷ 65 ∷ 82 ∷ 32 ∷ 105 ∷ 58 ∷ 32 ∷ 73 ∷ 78 ∷ 84 ∷ 69 ∷ 71 ∷ 69 ∷ 82 ∷ 59 ∷ 32 ∷ 66 ∷ 69 ∷ 71 ∷ 73 ∷ 78 ∷ 32 ∷ 70 ∷ 79 ∷ 82 ∷ 32 ∷ 105 ∷ 32 ∷ 58 ∷ 61 ∷ 32 ∷ 84 ∷ 82 ∷ 85 ∷ 69 ∷ 32 ∷ 84 ∷ 79 ∷ 32 ∷ 122 ∷ 32 ∷ 68 ∷ 79 ∷ 32 ∷ 69 ∷ 78 ∷ 68 ∷ 32 ∷ 69 ∷ 78 ∷ 68 ∷ 32 ∷ 77 ∷ 46 ∷ []); symbols = (symbol (Ident) 0 6 ∷ symbol (Ident) 7 8 ∷ symbol (Ident) 8 9 ∷ symbol (Ident) 10 13 ∷ symbol (Ident) 14 15 ∷ symbol (Ident) 15 16 ∷ symbol (Ident) 17 24 ∷ symbol (Ident) 24 25 ∷ symbol (Ident) 26 31 ∷ symbol (Ident) 32 35 ∷ symbol (Ident) 36 37 ∷ symbol (Ident) 38 40 ∷ symbol (Ident) 41 45 ∷ symbol (Ident) 46 48 ∷ symbol (Ident) 49 50 ∷ symbol (Ident) 51 53 ∷ symbol (Ident) 54 57 ∷ symbol (Ident) 58 61 ∷ symbol (Ident) 62 63 ∷ symbol (Ident) 63 64 ∷ []) }; tree = record { module_word = 0; name = 1; semicolon = 0; imports = None; decls = (S.decls None None (Some (record { var_word = 0; each = (record { names = (record { first = (record { name = 4; star = None }); more = [] }); colon = 0; of = (S.Named (record { name = 6; member = None })); semicolon = 0 } ∷ []) })) S.no_procedure); body = (Some (record { begin_word = 0; stats = (S.stats (S.For 0 10 0 (S.only (S.simple None (S.term (S.True 12) S.no_factor) S.no_term)) 0 (S.only (S.simple None (S.term (S.Designated 14 S.no_selector) S.no_factor) S.no_term)) None 0 (S.stats S.Empty S.no_stat) 0) S.no_stat) })); end_word = 0; end_name = 18; period = 0 } }

pub choice_walked_2 : checked (choice_walked_2_0 ∷ []) ≡ Fault 0 31 41
choice_walked_2 = refl

-- MODULE M; VAR s: SET; BEGIN s := {TRUE, z} END M.
abbrev choice_walked_3_0 : Parsed
choice_walked_3_0 = record { source = record { bytes = (77 ∷ 79 ∷ 68 ∷ 85 ∷ 76 ∷ 69 ∷ 32 ∷ 77 ∷ 59 ∷ 32 ∷ 86 ∷ 65 ∷ 82 ∷ 32 ∷ 115 ∷ 58 ∷ 32 ∷ 83 ∷ 69 ∷ 84 ∷ 59 ∷ 32 ∷ 66 ∷ 69 ∷ 71 ∷ 73 ∷ 78 ∷ 32 ∷ 115 ∷ 32 ∷ 58 ∷ 61 ∷ 32 ∷ 123 ∷ 84 ∷ 82 ∷ 85 ∷ 69 ∷ 44 ∷ 32 ∷ 122 ∷ 125 ∷ 32 ∷ 69 ∷ 78 ∷ 68 ∷ 32 ∷ 77 ∷ 46 ∷ []); symbols = (symbol (Ident) 0 6 ∷ symbol (Ident) 7 8 ∷ symbol (Ident) 8 9 ∷ symbol (Ident) 10 13 ∷ symbol (Ident) 14 15 ∷ symbol (Ident) 15 16 ∷ symbol (Ident) 17 20 ∷ symbol (Ident) 20 21 ∷ symbol (Ident) 22 27 ∷ symbol (Ident) 28 29 ∷ symbol (Ident) 30 32 ∷ symbol (Ident) 33 34 ∷ symbol (Ident) 34 38 ∷ symbol (Ident) 38 39 ∷ symbol (Ident) 40 41 ∷ symbol (Ident) 41 42 ∷ symbol (Ident) 43 46 ∷ symbol (Ident) 47 48 ∷ symbol (Ident) 48 49 ∷ []) }; tree = record { module_word = 0; name = 1; semicolon = 0; imports = None; decls = (S.decls None None (Some (record { var_word = 0; each = (record { names = (record { first = (record { name = 4; star = None }); more = [] }); colon = 0; of = (S.Named (record { name = 6; member = None })); semicolon = 0 } ∷ []) })) S.no_procedure); body = (Some (record { begin_word = 0; stats = (S.stats (S.AssignOrCall (record { name = 9; selectors = S.no_selector }) (Some (record { becomes = 0; value = (S.only (S.simple None (S.term (S.Set 11 (S.one (S.only (S.simple None (S.term (S.True 12) S.no_factor) S.no_term))) (S.next_element 0 (S.one (S.only (S.simple None (S.term (S.Designated 14 S.no_selector) S.no_factor) S.no_term))) S.no_element) 0) S.no_factor) S.no_term)) }))) S.no_stat) })); end_word = 0; end_name = 17; period = 0 } }

pub choice_walked_3 : checked (choice_walked_3_0 ∷ []) ≡ Fault 0 31 34
choice_walked_3 = refl

-- MODULE M; CONST a = 1; a = z; END M.
abbrev choice_stands_1_0 : Parsed
choice_stands_1_0 = record { source = record { bytes = (77 ∷ 79 ∷ 68 ∷ 85 ∷ 76 ∷ 69 ∷ 32 ∷ 77 ∷ 59 ∷ 32 ∷ 67 ∷ 79 ∷ 78 ∷ 83 ∷ 84 ∷ 32 ∷ 97 ∷ 32 ∷ 61 ∷ 32 ∷ 49 ∷ 59 ∷ 32 ∷ 97 ∷ 32 ∷ 61 ∷ 32 ∷ 122 ∷ 59 ∷ 32 ∷ 69 ∷ 78 ∷ 68 ∷ 32 ∷ 77 ∷ 46 ∷ []); symbols = (symbol (Ident) 0 6 ∷ symbol (Ident) 7 8 ∷ symbol (Ident) 8 9 ∷ symbol (Ident) 10 15 ∷ symbol (Ident) 16 17 ∷ symbol (Ident) 18 19 ∷ symbol (Int (pos 1)) 20 21 ∷ symbol (Ident) 21 22 ∷ symbol (Ident) 23 24 ∷ symbol (Ident) 25 26 ∷ symbol (Ident) 27 28 ∷ symbol (Ident) 28 29 ∷ symbol (Ident) 30 33 ∷ symbol (Ident) 34 35 ∷ symbol (Ident) 35 36 ∷ []) }; tree = record { module_word = 0; name = 1; semicolon = 0; imports = None; decls = (S.decls (Some (record { const_word = 0; each = (record { name = (record { name = 4; star = None }); equal = 0; value = (S.only (S.simple None (S.term (S.Int 6) S.no_factor) S.no_term)); semicolon = 0 } ∷ record { name = (record { name = 8; star = None }); equal = 0; value = (S.only (S.simple None (S.term (S.Designated 10 S.no_selector) S.no_factor) S.no_term)); semicolon = 0 } ∷ []) })) None None S.no_procedure); body = None; end_word = 0; end_name = 13; period = 0 } }

pub choice_stands_1 : checked (choice_stands_1_0 ∷ []) ≡ Fault 0 36 23
choice_stands_1 = refl

-- MODULE M; IMPORT A := Out, A := Z; END M.
abbrev choice_stands_2_0 : Parsed
choice_stands_2_0 = record { source = record { bytes = (77 ∷ 79 ∷ 68 ∷ 85 ∷ 76 ∷ 69 ∷ 32 ∷ 77 ∷ 59 ∷ 32 ∷ 73 ∷ 77 ∷ 80 ∷ 79 ∷ 82 ∷ 84 ∷ 32 ∷ 65 ∷ 32 ∷ 58 ∷ 61 ∷ 32 ∷ 79 ∷ 117 ∷ 116 ∷ 44 ∷ 32 ∷ 65 ∷ 32 ∷ 58 ∷ 61 ∷ 32 ∷ 90 ∷ 59 ∷ 32 ∷ 69 ∷ 78 ∷ 68 ∷ 32 ∷ 77 ∷ 46 ∷ []); symbols = (symbol (Ident) 0 6 ∷ symbol (Ident) 7 8 ∷ symbol (Ident) 8 9 ∷ symbol (Ident) 10 16 ∷ symbol (Ident) 17 18 ∷ symbol (Ident) 19 21 ∷ symbol (Ident) 22 25 ∷ symbol (Ident) 25 26 ∷ symbol (Ident) 27 28 ∷ symbol (Ident) 29 31 ∷ symbol (Ident) 32 33 ∷ symbol (Ident) 33 34 ∷ symbol (Ident) 35 38 ∷ symbol (Ident) 39 40 ∷ symbol (Ident) 40 41 ∷ []) }; tree = record { module_word = 0; name = 1; semicolon = 0; imports = Some (record { import_word = 0; first = (record { name = 4; of = Some (record { becomes = 0; name = 6 }) }); more = (record { comma = 0; import = (record { name = 8; of = Some (record { becomes = 0; name = 10 }) }) } ∷ []); semicolon = 0 }); decls = (S.decls None None None S.no_procedure); body = None; end_word = 0; end_name = 13; period = 0 } }

pub choice_stands_2 : checked (choice_stands_2_0 ∷ []) ≡ Fault 0 36 27
choice_stands_2 = refl

-- MODULE M; VAR a: INTEGER; b, a: Z; END M.
abbrev choice_stands_3_0 : Parsed
choice_stands_3_0 = record { source = record { bytes = (77 ∷ 79 ∷ 68 ∷ 85 ∷ 76 ∷ 69 ∷ 32 ∷ 77 ∷ 59 ∷ 32 ∷ 86 ∷ 65 ∷ 82 ∷ 32 ∷ 97 ∷ 58 ∷ 32 ∷ 73 ∷ 78 ∷ 84 ∷ 69 ∷ 71 ∷ 69 ∷ 82 ∷ 59 ∷ 32 ∷ 98 ∷ 44 ∷ 32 ∷ 97 ∷ 58 ∷ 32 ∷ 90 ∷ 59 ∷ 32 ∷ 69 ∷ 78 ∷ 68 ∷ 32 ∷ 77 ∷ 46 ∷ []); symbols = (symbol (Ident) 0 6 ∷ symbol (Ident) 7 8 ∷ symbol (Ident) 8 9 ∷ symbol (Ident) 10 13 ∷ symbol (Ident) 14 15 ∷ symbol (Ident) 15 16 ∷ symbol (Ident) 17 24 ∷ symbol (Ident) 24 25 ∷ symbol (Ident) 26 27 ∷ symbol (Ident) 27 28 ∷ symbol (Ident) 29 30 ∷ symbol (Ident) 30 31 ∷ symbol (Ident) 32 33 ∷ symbol (Ident) 33 34 ∷ symbol (Ident) 35 38 ∷ symbol (Ident) 39 40 ∷ symbol (Ident) 40 41 ∷ []) }; tree = record { module_word = 0; name = 1; semicolon = 0; imports = None; decls = (S.decls None None (Some (record { var_word = 0; each = (record { names = (record { first = (record { name = 4; star = None }); more = [] }); colon = 0; of = (S.Named (record { name = 6; member = None })); semicolon = 0 } ∷ record { names = (record { first = (record { name = 8; star = None }); more = (record { comma = 0; name = (record { name = 10; star = None }) } ∷ []) }); colon = 0; of = (S.Named (record { name = 12; member = None })); semicolon = 0 } ∷ []) })) S.no_procedure); body = None; end_word = 0; end_name = 15; period = 0 } }

pub choice_stands_3 : checked (choice_stands_3_0 ∷ []) ≡ Fault 0 36 29
choice_stands_3 = refl

-- MODULE M; CONST c = 1 DIV 0 + z; END M.
abbrev choice_constants_1_0 : Parsed
choice_constants_1_0 = record { source = record { bytes = (77 ∷ 79 ∷ 68 ∷ 85 ∷ 76 ∷ 69 ∷ 32 ∷ 77 ∷ 59 ∷ 32 ∷ 67 ∷ 79 ∷ 78 ∷ 83 ∷ 84 ∷ 32 ∷ 99 ∷ 32 ∷ 61 ∷ 32 ∷ 49 ∷ 32 ∷ 68 ∷ 73 ∷ 86 ∷ 32 ∷ 48 ∷ 32 ∷ 43 ∷ 32 ∷ 122 ∷ 59 ∷ 32 ∷ 69 ∷ 78 ∷ 68 ∷ 32 ∷ 77 ∷ 46 ∷ []); symbols = (symbol (Ident) 0 6 ∷ symbol (Ident) 7 8 ∷ symbol (Ident) 8 9 ∷ symbol (Ident) 10 15 ∷ symbol (Ident) 16 17 ∷ symbol (Ident) 18 19 ∷ symbol (Int (pos 1)) 20 21 ∷ symbol (Ident) 22 25 ∷ symbol (Int (pos 0)) 26 27 ∷ symbol (Ident) 28 29 ∷ symbol (Ident) 30 31 ∷ symbol (Ident) 31 32 ∷ symbol (Ident) 33 36 ∷ symbol (Ident) 37 38 ∷ symbol (Ident) 38 39 ∷ []) }; tree = record { module_word = 0; name = 1; semicolon = 0; imports = None; decls = (S.decls (Some (record { const_word = 0; each = (record { name = (record { name = 4; star = None }); equal = 0; value = (S.only (S.simple None (S.term (S.Int 6) (S.multiplied (TheMulOperator.Div 7) (S.Int 8) S.no_factor)) (S.added (TheAddOperator.Plus 9) (S.term (S.Designated 10 S.no_selector) S.no_factor) S.no_term))); semicolon = 0 } ∷ []) })) None None S.no_procedure); body = None; end_word = 0; end_name = 13; period = 0 } }

pub choice_constants_1 : checked (choice_constants_1_0 ∷ []) ≡ Fault 0 30 30
choice_constants_1 = refl

-- MODULE M; CONST c = TRUE OR (1 MOD 0 = 1); d = FALSE & ({64} = {}); END M.
abbrev choice_constants_2_0 : Parsed
choice_constants_2_0 = record { source = record { bytes = (77 ∷ 79 ∷ 68 ∷ 85 ∷ 76 ∷ 69 ∷ 32 ∷ 77 ∷ 59 ∷ 32 ∷ 67 ∷ 79 ∷ 78 ∷ 83 ∷ 84 ∷ 32 ∷ 99 ∷ 32 ∷ 61 ∷ 32 ∷ 84 ∷ 82 ∷ 85 ∷ 69 ∷ 32 ∷ 79 ∷ 82 ∷ 32 ∷ 40 ∷ 49 ∷ 32 ∷ 77 ∷ 79 ∷ 68 ∷ 32 ∷ 48 ∷ 32 ∷ 61 ∷ 32 ∷ 49 ∷ 41 ∷ 59 ∷ 32 ∷ 100 ∷ 32 ∷ 61 ∷ 32 ∷ 70 ∷ 65 ∷ 76 ∷ 83 ∷ 69 ∷ 32 ∷ 38 ∷ 32 ∷ 40 ∷ 123 ∷ 54 ∷ 52 ∷ 125 ∷ 32 ∷ 61 ∷ 32 ∷ 123 ∷ 125 ∷ 41 ∷ 59 ∷ 32 ∷ 69 ∷ 78 ∷ 68 ∷ 32 ∷ 77 ∷ 46 ∷ []); symbols = (symbol (Ident) 0 6 ∷ symbol (Ident) 7 8 ∷ symbol (Ident) 8 9 ∷ symbol (Ident) 10 15 ∷ symbol (Ident) 16 17 ∷ symbol (Ident) 18 19 ∷ symbol (Ident) 20 24 ∷ symbol (Ident) 25 27 ∷ symbol (Ident) 28 29 ∷ symbol (Int (pos 1)) 29 30 ∷ symbol (Ident) 31 34 ∷ symbol (Int (pos 0)) 35 36 ∷ symbol (Ident) 37 38 ∷ symbol (Int (pos 1)) 39 40 ∷ symbol (Ident) 40 41 ∷ symbol (Ident) 41 42 ∷ symbol (Ident) 43 44 ∷ symbol (Ident) 45 46 ∷ symbol (Ident) 47 52 ∷ symbol (Ident) 53 54 ∷ symbol (Ident) 55 56 ∷ symbol (Ident) 56 57 ∷ symbol (Int (pos 64)) 57 59 ∷ symbol (Ident) 59 60 ∷ symbol (Ident) 61 62 ∷ symbol (Ident) 63 64 ∷ symbol (Ident) 64 65 ∷ symbol (Ident) 65 66 ∷ symbol (Ident) 66 67 ∷ symbol (Ident) 68 71 ∷ symbol (Ident) 72 73 ∷ symbol (Ident) 73 74 ∷ []) }; tree = record { module_word = 0; name = 1; semicolon = 0; imports = None; decls = (S.decls (Some (record { const_word = 0; each = (record { name = (record { name = 4; star = None }); equal = 0; value = (S.only (S.simple None (S.term (S.True 6) S.no_factor) (S.added (TheAddOperator.Or 7) (S.term (S.Paren 8 (S.compared (S.simple None (S.term (S.Int 9) (S.multiplied (TheMulOperator.Mod 10) (S.Int 11) S.no_factor)) S.no_term) (TheRelation.Equal 12) (S.simple None (S.term (S.Int 13) S.no_factor) S.no_term)) 0) S.no_factor) S.no_term))); semicolon = 0 } ∷ record { name = (record { name = 16; star = None }); equal = 0; value = (S.only (S.simple None (S.term (S.False 18) (S.multiplied (TheMulOperator.And 19) (S.Paren 20 (S.compared (S.simple None (S.term (S.Set 21 (S.one (S.only (S.simple None (S.term (S.Int 22) S.no_factor) S.no_term))) S.no_element 0) S.no_factor) S.no_term) (TheRelation.Equal 24) (S.simple None (S.term (S.EmptySet 25 0) S.no_factor) S.no_term)) 0) S.no_factor)) S.no_term)); semicolon = 0 } ∷ []) })) None None S.no_procedure); body = None; end_word = 0; end_name = 30; period = 0 } }

pub choice_constants_2 : checked (choice_constants_2_0 ∷ []) ≡ Legal (record { records = []; pointers = []; modules = (record { name = (77 ∷ []); objects = (record { name = (99 ∷ []); exported = false; entity = I.OfConstant (I.Bits H.Boolean 1) } ∷ record { name = (100 ∷ []); exported = false; entity = I.OfConstant (I.Bits H.Boolean 0) } ∷ []); variables = []; body = 0 } ∷ []); procedures = (record { module_number = 0; line = 1; is_body = true; formals = []; result = H.Nothing; locals = []; texts = []; body = I.no_statement; answer = None } ∷ []); imports_in = false })
choice_constants_2 = refl

-- MODULE M; CONST c = INTEGER; END M.
abbrev choice_constants_3_0 : Parsed
choice_constants_3_0 = record { source = record { bytes = (77 ∷ 79 ∷ 68 ∷ 85 ∷ 76 ∷ 69 ∷ 32 ∷ 77 ∷ 59 ∷ 32 ∷ 67 ∷ 79 ∷ 78 ∷ 83 ∷ 84 ∷ 32 ∷ 99 ∷ 32 ∷ 61 ∷ 32 ∷ 73 ∷ 78 ∷ 84 ∷ 69 ∷ 71 ∷ 69 ∷ 82 ∷ 59 ∷ 32 ∷ 69 ∷ 78 ∷ 68 ∷ 32 ∷ 77 ∷ 46 ∷ []); symbols = (symbol (Ident) 0 6 ∷ symbol (Ident) 7 8 ∷ symbol (Ident) 8 9 ∷ symbol (Ident) 10 15 ∷ symbol (Ident) 16 17 ∷ symbol (Ident) 18 19 ∷ symbol (Ident) 20 27 ∷ symbol (Ident) 27 28 ∷ symbol (Ident) 29 32 ∷ symbol (Ident) 33 34 ∷ symbol (Ident) 34 35 ∷ []) }; tree = record { module_word = 0; name = 1; semicolon = 0; imports = None; decls = (S.decls (Some (record { const_word = 0; each = (record { name = (record { name = 4; star = None }); equal = 0; value = (S.only (S.simple None (S.term (S.Designated 6 S.no_selector) S.no_factor) S.no_term)); semicolon = 0 } ∷ []) })) None None S.no_procedure); body = None; end_word = 0; end_name = 9; period = 0 } }

pub choice_constants_3 : checked (choice_constants_3_0 ∷ []) ≡ Fault 0 31 20
choice_constants_3 = refl

-- MODULE M; VAR v: INTEGER; PROCEDURE P; CONST c = v + TRUE; END P; END M.
abbrev choice_constants_4_0 : Parsed
choice_constants_4_0 = record { source = record { bytes = (77 ∷ 79 ∷ 68 ∷ 85 ∷ 76 ∷ 69 ∷ 32 ∷ 77 ∷ 59 ∷ 32 ∷ 86 ∷ 65 ∷ 82 ∷ 32 ∷ 118 ∷ 58 ∷ 32 ∷ 73 ∷ 78 ∷ 84 ∷ 69 ∷ 71 ∷ 69 ∷ 82 ∷ 59 ∷ 32 ∷ 80 ∷ 82 ∷ 79 ∷ 67 ∷ 69 ∷ 68 ∷ 85 ∷ 82 ∷ 69 ∷ 32 ∷ 80 ∷ 59 ∷ 32 ∷ 67 ∷ 79 ∷ 78 ∷ 83 ∷ 84 ∷ 32 ∷ 99 ∷ 32 ∷ 61 ∷ 32 ∷ 118 ∷ 32 ∷ 43 ∷ 32 ∷ 84 ∷ 82 ∷ 85 ∷ 69 ∷ 59 ∷ 32 ∷ 69 ∷ 78 ∷ 68 ∷ 32 ∷ 80 ∷ 59 ∷ 32 ∷ 69 ∷ 78 ∷ 68 ∷ 32 ∷ 77 ∷ 46 ∷ []); symbols = (symbol (Ident) 0 6 ∷ symbol (Ident) 7 8 ∷ symbol (Ident) 8 9 ∷ symbol (Ident) 10 13 ∷ symbol (Ident) 14 15 ∷ symbol (Ident) 15 16 ∷ symbol (Ident) 17 24 ∷ symbol (Ident) 24 25 ∷ symbol (Ident) 26 35 ∷ symbol (Ident) 36 37 ∷ symbol (Ident) 37 38 ∷ symbol (Ident) 39 44 ∷ symbol (Ident) 45 46 ∷ symbol (Ident) 47 48 ∷ symbol (Ident) 49 50 ∷ symbol (Ident) 51 52 ∷ symbol (Ident) 53 57 ∷ symbol (Ident) 57 58 ∷ symbol (Ident) 59 62 ∷ symbol (Ident) 63 64 ∷ symbol (Ident) 64 65 ∷ symbol (Ident) 66 69 ∷ symbol (Ident) 70 71 ∷ symbol (Ident) 71 72 ∷ []) }; tree = record { module_word = 0; name = 1; semicolon = 0; imports = None; decls = (S.decls None None (Some (record { var_word = 0; each = (record { names = (record { first = (record { name = 4; star = None }); more = [] }); colon = 0; of = (S.Named (record { name = 6; member = None })); semicolon = 0 } ∷ []) })) (S.procedure 0 (record { name = 9; star = None }) None 0 (S.decls (Some (record { const_word = 0; each = (record { name = (record { name = 12; star = None }); equal = 0; value = (S.only (S.simple None (S.term (S.Designated 14 S.no_selector) S.no_factor) (S.added (TheAddOperator.Plus 15) (S.term (S.True 16) S.no_factor) S.no_term))); semicolon = 0 } ∷ []) })) None None S.no_procedure) None None 18 19 0 S.no_procedure)); body = None; end_word = 0; end_name = 22; period = 0 } }

pub choice_constants_4 : checked (choice_constants_4_0 ∷ []) ≡ Fault 0 32 49
choice_constants_4 = refl

-- MODULE M; PROCEDURE P; RETURN z END P; END M.
abbrev choice_result_1_0 : Parsed
choice_result_1_0 = record { source = record { bytes = (77 ∷ 79 ∷ 68 ∷ 85 ∷ 76 ∷ 69 ∷ 32 ∷ 77 ∷ 59 ∷ 32 ∷ 80 ∷ 82 ∷ 79 ∷ 67 ∷ 69 ∷ 68 ∷ 85 ∷ 82 ∷ 69 ∷ 32 ∷ 80 ∷ 59 ∷ 32 ∷ 82 ∷ 69 ∷ 84 ∷ 85 ∷ 82 ∷ 78 ∷ 32 ∷ 122 ∷ 32 ∷ 69 ∷ 78 ∷ 68 ∷ 32 ∷ 80 ∷ 59 ∷ 32 ∷ 69 ∷ 78 ∷ 68 ∷ 32 ∷ 77 ∷ 46 ∷ []); symbols = (symbol (Ident) 0 6 ∷ symbol (Ident) 7 8 ∷ symbol (Ident) 8 9 ∷ symbol (Ident) 10 19 ∷ symbol (Ident) 20 21 ∷ symbol (Ident) 21 22 ∷ symbol (Ident) 23 29 ∷ symbol (Ident) 30 31 ∷ symbol (Ident) 32 35 ∷ symbol (Ident) 36 37 ∷ symbol (Ident) 37 38 ∷ symbol (Ident) 39 42 ∷ symbol (Ident) 43 44 ∷ symbol (Ident) 44 45 ∷ []) }; tree = record { module_word = 0; name = 1; semicolon = 0; imports = None; decls = (S.decls None None None (S.procedure 0 (record { name = 4; star = None }) None 0 (S.decls None None None S.no_procedure) None (Some (record { return_word = 6; value = (S.only (S.simple None (S.term (S.Designated 7 S.no_selector) S.no_factor) S.no_term)) })) 8 9 0 S.no_procedure)); body = None; end_word = 0; end_name = 12; period = 0 } }

pub choice_result_1 : checked (choice_result_1_0 ∷ []) ≡ Fault 0 30 30
choice_result_1 = refl

-- MODULE M; PROCEDURE P(): CHAR; END Q; END M.
abbrev choice_result_2_0 : Parsed
choice_result_2_0 = record { source = record { bytes = (77 ∷ 79 ∷ 68 ∷ 85 ∷ 76 ∷ 69 ∷ 32 ∷ 77 ∷ 59 ∷ 32 ∷ 80 ∷ 82 ∷ 79 ∷ 67 ∷ 69 ∷ 68 ∷ 85 ∷ 82 ∷ 69 ∷ 32 ∷ 80 ∷ 40 ∷ 41 ∷ 58 ∷ 32 ∷ 67 ∷ 72 ∷ 65 ∷ 82 ∷ 59 ∷ 32 ∷ 69 ∷ 78 ∷ 68 ∷ 32 ∷ 81 ∷ 59 ∷ 32 ∷ 69 ∷ 78 ∷ 68 ∷ 32 ∷ 77 ∷ 46 ∷ []); symbols = (symbol (Ident) 0 6 ∷ symbol (Ident) 7 8 ∷ symbol (Ident) 8 9 ∷ symbol (Ident) 10 19 ∷ symbol (Ident) 20 21 ∷ symbol (Ident) 21 22 ∷ symbol (Ident) 22 23 ∷ symbol (Ident) 23 24 ∷ symbol (Ident) 25 29 ∷ symbol (Ident) 29 30 ∷ symbol (Ident) 31 34 ∷ symbol (Ident) 35 36 ∷ symbol (Ident) 36 37 ∷ symbol (Ident) 38 41 ∷ symbol (Ident) 42 43 ∷ symbol (Ident) 43 44 ∷ []) }; tree = record { module_word = 0; name = 1; semicolon = 0; imports = None; decls = (S.decls None None None (S.procedure 0 (record { name = 4; star = None }) (Some (record { left_paren = 0; sections = None; right_paren = 0; result = Some (record { colon = 0; name = (record { name = 8; member = None }) }) })) 0 (S.decls None None None S.no_procedure) None None 10 11 0 S.no_procedure)); body = None; end_word = 0; end_name = 14; period = 0 } }

pub choice_result_2 : checked (choice_result_2_0 ∷ []) ≡ Fault 0 41 31
choice_result_2 = refl

-- MODULE M; TYPE R = RECORD (z) x, x: INTEGER END; END M.
abbrev choice_result_3_0 : Parsed
choice_result_3_0 = record { source = record { bytes = (77 ∷ 79 ∷ 68 ∷ 85 ∷ 76 ∷ 69 ∷ 32 ∷ 77 ∷ 59 ∷ 32 ∷ 84 ∷ 89 ∷ 80 ∷ 69 ∷ 32 ∷ 82 ∷ 32 ∷ 61 ∷ 32 ∷ 82 ∷ 69 ∷ 67 ∷ 79 ∷ 82 ∷ 68 ∷ 32 ∷ 40 ∷ 122 ∷ 41 ∷ 32 ∷ 120 ∷ 44 ∷ 32 ∷ 120 ∷ 58 ∷ 32 ∷ 73 ∷ 78 ∷ 84 ∷ 69 ∷ 71 ∷ 69 ∷ 82 ∷ 32 ∷ 69 ∷ 78 ∷ 68 ∷ 59 ∷ 32 ∷ 69 ∷ 78 ∷ 68 ∷ 32 ∷ 77 ∷ 46 ∷ []); symbols = (symbol (Ident) 0 6 ∷ symbol (Ident) 7 8 ∷ symbol (Ident) 8 9 ∷ symbol (Ident) 10 14 ∷ symbol (Ident) 15 16 ∷ symbol (Ident) 17 18 ∷ symbol (Ident) 19 25 ∷ symbol (Ident) 26 27 ∷ symbol (Ident) 27 28 ∷ symbol (Ident) 28 29 ∷ symbol (Ident) 30 31 ∷ symbol (Ident) 31 32 ∷ symbol (Ident) 33 34 ∷ symbol (Ident) 34 35 ∷ symbol (Ident) 36 43 ∷ symbol (Ident) 44 47 ∷ symbol (Ident) 47 48 ∷ symbol (Ident) 49 52 ∷ symbol (Ident) 53 54 ∷ symbol (Ident) 54 55 ∷ []) }; tree = record { module_word = 0; name = 1; semicolon = 0; imports = None; decls = (S.decls None (Some (record { type_word = 0; each = (record { name = (record { name = 4; star = None }); equal = 0; is = (S.Record 6 (Some (record { left_paren = 0; name = (record { name = 8; member = None }); right_paren = 0 })) (S.fields (record { first = (record { name = 10; star = None }); more = (record { comma = 0; name = (record { name = 12; star = None }) } ∷ []) }) 0 (S.Named (record { name = 14; member = None }))) S.no_more_fields 0); semicolon = 0 } ∷ []) })) None S.no_procedure); body = None; end_word = 0; end_name = 18; period = 0 } }

pub choice_result_3 : checked (choice_result_3_0 ∷ []) ≡ Fault 0 30 27
choice_result_3 = refl

-- MODULE M; TYPE R = RECORD (CHAR) x, x: INTEGER END; END M.
abbrev choice_result_4_0 : Parsed
choice_result_4_0 = record { source = record { bytes = (77 ∷ 79 ∷ 68 ∷ 85 ∷ 76 ∷ 69 ∷ 32 ∷ 77 ∷ 59 ∷ 32 ∷ 84 ∷ 89 ∷ 80 ∷ 69 ∷ 32 ∷ 82 ∷ 32 ∷ 61 ∷ 32 ∷ 82 ∷ 69 ∷ 67 ∷ 79 ∷ 82 ∷ 68 ∷ 32 ∷ 40 ∷ 67 ∷ 72 ∷ 65 ∷ 82 ∷ 41 ∷ 32 ∷ 120 ∷ 44 ∷ 32 ∷ 120 ∷ 58 ∷ 32 ∷ 73 ∷ 78 ∷ 84 ∷ 69 ∷ 71 ∷ 69 ∷ 82 ∷ 32 ∷ 69 ∷ 78 ∷ 68 ∷ 59 ∷ 32 ∷ 69 ∷ 78 ∷ 68 ∷ 32 ∷ 77 ∷ 46 ∷ []); symbols = (symbol (Ident) 0 6 ∷ symbol (Ident) 7 8 ∷ symbol (Ident) 8 9 ∷ symbol (Ident) 10 14 ∷ symbol (Ident) 15 16 ∷ symbol (Ident) 17 18 ∷ symbol (Ident) 19 25 ∷ symbol (Ident) 26 27 ∷ symbol (Ident) 27 31 ∷ symbol (Ident) 31 32 ∷ symbol (Ident) 33 34 ∷ symbol (Ident) 34 35 ∷ symbol (Ident) 36 37 ∷ symbol (Ident) 37 38 ∷ symbol (Ident) 39 46 ∷ symbol (Ident) 47 50 ∷ symbol (Ident) 50 51 ∷ symbol (Ident) 52 55 ∷ symbol (Ident) 56 57 ∷ symbol (Ident) 57 58 ∷ []) }; tree = record { module_word = 0; name = 1; semicolon = 0; imports = None; decls = (S.decls None (Some (record { type_word = 0; each = (record { name = (record { name = 4; star = None }); equal = 0; is = (S.Record 6 (Some (record { left_paren = 0; name = (record { name = 8; member = None }); right_paren = 0 })) (S.fields (record { first = (record { name = 10; star = None }); more = (record { comma = 0; name = (record { name = 12; star = None }) } ∷ []) }) 0 (S.Named (record { name = 14; member = None }))) S.no_more_fields 0); semicolon = 0 } ∷ []) })) None S.no_procedure); body = None; end_word = 0; end_name = 18; period = 0 } }

pub choice_result_4 : checked (choice_result_4_0 ∷ []) ≡ Fault 0 42 27
choice_result_4 = refl

-- MODULE M; TYPE R = RECORD x: INTEGER END; E = RECORD (R) y: INTEGER END; P = POINTER TO R; Q = POINTER TO E; VAR p: P; q: Q; BEGIN q := p(Q, z) END M.
abbrev choice_guard_or_call_1_0 : Parsed
choice_guard_or_call_1_0 = record { source = record { bytes = (77 ∷ 79 ∷ 68 ∷ 85 ∷ 76 ∷ 69 ∷ 32 ∷ 77 ∷ 59 ∷ 32 ∷ 84 ∷ 89 ∷ 80 ∷ 69 ∷ 32 ∷ 82 ∷ 32 ∷ 61 ∷ 32 ∷ 82 ∷ 69 ∷ 67 ∷ 79 ∷ 82 ∷ 68 ∷ 32 ∷ 120 ∷ 58 ∷ 32 ∷ 73 ∷ 78 ∷ 84 ∷ 69 ∷ 71 ∷ 69 ∷ 82 ∷ 32 ∷ 69 ∷ 78 ∷ 68 ∷ 59 ∷ 32 ∷ 69 ∷ 32 ∷ 61 ∷ 32 ∷ 82 ∷ 69 ∷ 67 ∷ 79 ∷ 82 ∷ 68 ∷ 32 ∷ 40 ∷ 82 ∷ 41 ∷ 32 ∷ 121 ∷ 58 ∷ 32 ∷ 73 ∷ 78 ∷ 84 ∷ 69 ∷ 71 ∷ 69 ∷ 82 ∷ 32 ∷ 69 ∷ 78 ∷ 68 ∷ 59 ∷ 32 ∷ 80 ∷ 32 ∷ 61 ∷ 32 ∷ 80 ∷ 79 ∷ 73 ∷ 78 ∷ 84 ∷ 69 ∷ 82 ∷ 32 ∷ 84 ∷ 79 ∷ 32 ∷ 82 ∷ 59 ∷ 32 ∷ 81 ∷ 32 ∷ 61 ∷ 32 ∷ 80 ∷ 79 ∷ 73 ∷ 78 ∷ 84 ∷ 69 ∷ 82 ∷ 32 ∷ 84 ∷ 79 ∷ 32 ∷ 69 ∷ 59 ∷ 32 ∷ 86 ∷ 65 ∷ 82 ∷ 32 ∷ 112 ∷ 58 ∷ 32 ∷ 80 ∷ 59 ∷ 32 ∷ 113 ∷ 58 ∷ 32 ∷ 81 ∷ 59 ∷ 32 ∷ 66 ∷ 69 ∷ 71 ∷ 73 ∷ 78 ∷ 32 ∷ 113 ∷ 32 ∷ 58 ∷ 61 ∷ 32 ∷ 112 ∷ 40 ∷ 81 ∷ 44 ∷ 32 ∷ 122 ∷ 41 ∷ 32 ∷ 69 ∷ 78 ∷ 68 ∷ 32 ∷ 77 ∷ 46 ∷ []); symbols = (symbol (Ident) 0 6 ∷ symbol (Ident) 7 8 ∷ symbol (Ident) 8 9 ∷ symbol (Ident) 10 14 ∷ symbol (Ident) 15 16 ∷ symbol (Ident) 17 18 ∷ symbol (Ident) 19 25 ∷ symbol (Ident) 26 27 ∷ symbol (Ident) 27 28 ∷ symbol (Ident) 29 36 ∷ symbol (Ident) 37 40 ∷ symbol (Ident) 40 41 ∷ symbol (Ident) 42 43 ∷ symbol (Ident) 44 45 ∷ symbol (Ident) 46 52 ∷ symbol (Ident) 53 54 ∷ symbol (Ident) 54 55 ∷ symbol (Ident) 55 56 ∷ symbol (Ident) 57 58 ∷ symbol (Ident) 58 59 ∷ symbol (Ident) 60 67 ∷ symbol (Ident) 68 71 ∷ symbol (Ident) 71 72 ∷ symbol (Ident) 73 74 ∷ symbol (Ident) 75 76 ∷ symbol (Ident) 77 84 ∷ symbol (Ident) 85 87 ∷ symbol (Ident) 88 89 ∷ symbol (Ident) 89 90 ∷ symbol (Ident) 91 92 ∷ symbol (Ident) 93 94 ∷ symbol (Ident) 95 102 ∷ symbol (Ident) 103 105 ∷ symbol (Ident) 106 107 ∷ symbol (Ident) 107 108 ∷ symbol (Ident) 109 112 ∷ symbol (Ident) 113 114 ∷ symbol (Ident) 114 115 ∷ symbol (Ident) 116 117 ∷ symbol (Ident) 117 118 ∷ symbol (Ident) 119 120 ∷ symbol (Ident) 120 121 ∷ symbol (Ident) 122 123 ∷ symbol (Ident) 123 124 ∷ symbol (Ident) 125 130 ∷ symbol (Ident) 131 132 ∷ symbol (Ident) 133 135 ∷ symbol (Ident) 136 137 ∷ symbol (Ident) 137 138 ∷ symbol (Ident) 138 139 ∷ symbol (Ident) 139 140 ∷ symbol (Ident) 141 142 ∷ symbol (Ident) 142 143 ∷ symbol (Ident) 144 147 ∷ symbol (Ident) 148 149 ∷ symbol (Ident) 149 150 ∷ []) }; tree = record { module_word = 0; name = 1; semicolon = 0; imports = None; decls = (S.decls None (Some (record { type_word = 0; each = (record { name = (record { name = 4; star = None }); equal = 0; is = (S.Record 6 None (S.fields (record { first = (record { name = 7; star = None }); more = [] }) 0 (S.Named (record { name = 9; member = None }))) S.no_more_fields 0); semicolon = 0 } ∷ record { name = (record { name = 12; star = None }); equal = 0; is = (S.Record 14 (Some (record { left_paren = 0; name = (record { name = 16; member = None }); right_paren = 0 })) (S.fields (record { first = (record { name = 18; star = None }); more = [] }) 0 (S.Named (record { name = 20; member = None }))) S.no_more_fields 0); semicolon = 0 } ∷ record { name = (record { name = 23; star = None }); equal = 0; is = (S.Pointer 25 0 (S.Named (record { name = 27; member = None }))); semicolon = 0 } ∷ record { name = (record { name = 29; star = None }); equal = 0; is = (S.Pointer 31 0 (S.Named (record { name = 33; member = None }))); semicolon = 0 } ∷ []) })) (Some (record { var_word = 0; each = (record { names = (record { first = (record { name = 36; star = None }); more = [] }); colon = 0; of = (S.Named (record { name = 38; member = None })); semicolon = 0 } ∷ record { names = (record { first = (record { name = 40; star = None }); more = [] }); colon = 0; of = (S.Named (record { name = 42; member = None })); semicolon = 0 } ∷ []) })) S.no_procedure); body = (Some (record { begin_word = 0; stats = (S.stats (S.AssignOrCall (record { name = 45; selectors = S.no_selector }) (Some (record { becomes = 0; value = (S.only (S.simple None (S.term (S.Designated 47 (S.selected (S.Parens 0 (S.expressions (S.only (S.simple None (S.term (S.Designated 49 S.no_selector) S.no_factor) S.no_term)) (S.next_expression 0 (S.only (S.simple None (S.term (S.Designated 51 S.no_selector) S.no_factor) S.no_term)) S.no_expression)) 0) S.no_selector)) S.no_factor) S.no_term)) }))) S.no_stat) })); end_word = 0; end_name = 54; period = 0 } }

pub choice_guard_or_call_1 : checked (choice_guard_or_call_1_0 ∷ []) ≡ Fault 0 31 138
choice_guard_or_call_1 = refl

-- MODULE M; TYPE R = RECORD x: INTEGER END; E = RECORD (R) y: INTEGER END; P = POINTER TO R; Q = POINTER TO E; VAR p: P; q: Q; BEGIN q := p(p) END M.
abbrev choice_guard_or_call_2_0 : Parsed
choice_guard_or_call_2_0 = record { source = record { bytes = (77 ∷ 79 ∷ 68 ∷ 85 ∷ 76 ∷ 69 ∷ 32 ∷ 77 ∷ 59 ∷ 32 ∷ 84 ∷ 89 ∷ 80 ∷ 69 ∷ 32 ∷ 82 ∷ 32 ∷ 61 ∷ 32 ∷ 82 ∷ 69 ∷ 67 ∷ 79 ∷ 82 ∷ 68 ∷ 32 ∷ 120 ∷ 58 ∷ 32 ∷ 73 ∷ 78 ∷ 84 ∷ 69 ∷ 71 ∷ 69 ∷ 82 ∷ 32 ∷ 69 ∷ 78 ∷ 68 ∷ 59 ∷ 32 ∷ 69 ∷ 32 ∷ 61 ∷ 32 ∷ 82 ∷ 69 ∷ 67 ∷ 79 ∷ 82 ∷ 68 ∷ 32 ∷ 40 ∷ 82 ∷ 41 ∷ 32 ∷ 121 ∷ 58 ∷ 32 ∷ 73 ∷ 78 ∷ 84 ∷ 69 ∷ 71 ∷ 69 ∷ 82 ∷ 32 ∷ 69 ∷ 78 ∷ 68 ∷ 59 ∷ 32 ∷ 80 ∷ 32 ∷ 61 ∷ 32 ∷ 80 ∷ 79 ∷ 73 ∷ 78 ∷ 84 ∷ 69 ∷ 82 ∷ 32 ∷ 84 ∷ 79 ∷ 32 ∷ 82 ∷ 59 ∷ 32 ∷ 81 ∷ 32 ∷ 61 ∷ 32 ∷ 80 ∷ 79 ∷ 73 ∷ 78 ∷ 84 ∷ 69 ∷ 82 ∷ 32 ∷ 84 ∷ 79 ∷ 32 ∷ 69 ∷ 59 ∷ 32 ∷ 86 ∷ 65 ∷ 82 ∷ 32 ∷ 112 ∷ 58 ∷ 32 ∷ 80 ∷ 59 ∷ 32 ∷ 113 ∷ 58 ∷ 32 ∷ 81 ∷ 59 ∷ 32 ∷ 66 ∷ 69 ∷ 71 ∷ 73 ∷ 78 ∷ 32 ∷ 113 ∷ 32 ∷ 58 ∷ 61 ∷ 32 ∷ 112 ∷ 40 ∷ 112 ∷ 41 ∷ 32 ∷ 69 ∷ 78 ∷ 68 ∷ 32 ∷ 77 ∷ 46 ∷ []); symbols = (symbol (Ident) 0 6 ∷ symbol (Ident) 7 8 ∷ symbol (Ident) 8 9 ∷ symbol (Ident) 10 14 ∷ symbol (Ident) 15 16 ∷ symbol (Ident) 17 18 ∷ symbol (Ident) 19 25 ∷ symbol (Ident) 26 27 ∷ symbol (Ident) 27 28 ∷ symbol (Ident) 29 36 ∷ symbol (Ident) 37 40 ∷ symbol (Ident) 40 41 ∷ symbol (Ident) 42 43 ∷ symbol (Ident) 44 45 ∷ symbol (Ident) 46 52 ∷ symbol (Ident) 53 54 ∷ symbol (Ident) 54 55 ∷ symbol (Ident) 55 56 ∷ symbol (Ident) 57 58 ∷ symbol (Ident) 58 59 ∷ symbol (Ident) 60 67 ∷ symbol (Ident) 68 71 ∷ symbol (Ident) 71 72 ∷ symbol (Ident) 73 74 ∷ symbol (Ident) 75 76 ∷ symbol (Ident) 77 84 ∷ symbol (Ident) 85 87 ∷ symbol (Ident) 88 89 ∷ symbol (Ident) 89 90 ∷ symbol (Ident) 91 92 ∷ symbol (Ident) 93 94 ∷ symbol (Ident) 95 102 ∷ symbol (Ident) 103 105 ∷ symbol (Ident) 106 107 ∷ symbol (Ident) 107 108 ∷ symbol (Ident) 109 112 ∷ symbol (Ident) 113 114 ∷ symbol (Ident) 114 115 ∷ symbol (Ident) 116 117 ∷ symbol (Ident) 117 118 ∷ symbol (Ident) 119 120 ∷ symbol (Ident) 120 121 ∷ symbol (Ident) 122 123 ∷ symbol (Ident) 123 124 ∷ symbol (Ident) 125 130 ∷ symbol (Ident) 131 132 ∷ symbol (Ident) 133 135 ∷ symbol (Ident) 136 137 ∷ symbol (Ident) 137 138 ∷ symbol (Ident) 138 139 ∷ symbol (Ident) 139 140 ∷ symbol (Ident) 141 144 ∷ symbol (Ident) 145 146 ∷ symbol (Ident) 146 147 ∷ []) }; tree = record { module_word = 0; name = 1; semicolon = 0; imports = None; decls = (S.decls None (Some (record { type_word = 0; each = (record { name = (record { name = 4; star = None }); equal = 0; is = (S.Record 6 None (S.fields (record { first = (record { name = 7; star = None }); more = [] }) 0 (S.Named (record { name = 9; member = None }))) S.no_more_fields 0); semicolon = 0 } ∷ record { name = (record { name = 12; star = None }); equal = 0; is = (S.Record 14 (Some (record { left_paren = 0; name = (record { name = 16; member = None }); right_paren = 0 })) (S.fields (record { first = (record { name = 18; star = None }); more = [] }) 0 (S.Named (record { name = 20; member = None }))) S.no_more_fields 0); semicolon = 0 } ∷ record { name = (record { name = 23; star = None }); equal = 0; is = (S.Pointer 25 0 (S.Named (record { name = 27; member = None }))); semicolon = 0 } ∷ record { name = (record { name = 29; star = None }); equal = 0; is = (S.Pointer 31 0 (S.Named (record { name = 33; member = None }))); semicolon = 0 } ∷ []) })) (Some (record { var_word = 0; each = (record { names = (record { first = (record { name = 36; star = None }); more = [] }); colon = 0; of = (S.Named (record { name = 38; member = None })); semicolon = 0 } ∷ record { names = (record { first = (record { name = 40; star = None }); more = [] }); colon = 0; of = (S.Named (record { name = 42; member = None })); semicolon = 0 } ∷ []) })) S.no_procedure); body = (Some (record { begin_word = 0; stats = (S.stats (S.AssignOrCall (record { name = 45; selectors = S.no_selector }) (Some (record { becomes = 0; value = (S.only (S.simple None (S.term (S.Designated 47 (S.selected (S.Parens 0 (S.expressions (S.only (S.simple None (S.term (S.Designated 49 S.no_selector) S.no_factor) S.no_term)) S.no_expression) 0) S.no_selector)) S.no_factor) S.no_term)) }))) S.no_stat) })); end_word = 0; end_name = 52; period = 0 } }

pub choice_guard_or_call_2 : checked (choice_guard_or_call_2_0 ∷ []) ≡ Fault 0 31 138
choice_guard_or_call_2 = refl

-- MODULE M; TYPE R = RECORD x: INTEGER END; E = RECORD (R) y: INTEGER END; P = POINTER TO R; Q = POINTER TO E; VAR p: P; q: Q; b: BOOLEAN; BEGIN b := p IS 1 END M.
abbrev choice_guard_or_call_3_0 : Parsed
choice_guard_or_call_3_0 = record { source = record { bytes = (77 ∷ 79 ∷ 68 ∷ 85 ∷ 76 ∷ 69 ∷ 32 ∷ 77 ∷ 59 ∷ 32 ∷ 84 ∷ 89 ∷ 80 ∷ 69 ∷ 32 ∷ 82 ∷ 32 ∷ 61 ∷ 32 ∷ 82 ∷ 69 ∷ 67 ∷ 79 ∷ 82 ∷ 68 ∷ 32 ∷ 120 ∷ 58 ∷ 32 ∷ 73 ∷ 78 ∷ 84 ∷ 69 ∷ 71 ∷ 69 ∷ 82 ∷ 32 ∷ 69 ∷ 78 ∷ 68 ∷ 59 ∷ 32 ∷ 69 ∷ 32 ∷ 61 ∷ 32 ∷ 82 ∷ 69 ∷ 67 ∷ 79 ∷ 82 ∷ 68 ∷ 32 ∷ 40 ∷ 82 ∷ 41 ∷ 32 ∷ 121 ∷ 58 ∷ 32 ∷ 73 ∷ 78 ∷ 84 ∷ 69 ∷ 71 ∷ 69 ∷ 82 ∷ 32 ∷ 69 ∷ 78 ∷ 68 ∷ 59 ∷ 32 ∷ 80 ∷ 32 ∷ 61 ∷ 32 ∷ 80 ∷ 79 ∷ 73 ∷ 78 ∷ 84 ∷ 69 ∷ 82 ∷ 32 ∷ 84 ∷ 79 ∷ 32 ∷ 82 ∷ 59 ∷ 32 ∷ 81 ∷ 32 ∷ 61 ∷ 32 ∷ 80 ∷ 79 ∷ 73 ∷ 78 ∷ 84 ∷ 69 ∷ 82 ∷ 32 ∷ 84 ∷ 79 ∷ 32 ∷ 69 ∷ 59 ∷ 32 ∷ 86 ∷ 65 ∷ 82 ∷ 32 ∷ 112 ∷ 58 ∷ 32 ∷ 80 ∷ 59 ∷ 32 ∷ 113 ∷ 58 ∷ 32 ∷ 81 ∷ 59 ∷ 32 ∷ 98 ∷ 58 ∷ 32 ∷ 66 ∷ 79 ∷ 79 ∷ 76 ∷ 69 ∷ 65 ∷ 78 ∷ 59 ∷ 32 ∷ 66 ∷ 69 ∷ 71 ∷ 73 ∷ 78 ∷ 32 ∷ 98 ∷ 32 ∷ 58 ∷ 61 ∷ 32 ∷ 112 ∷ 32 ∷ 73 ∷ 83 ∷ 32 ∷ 49 ∷ 32 ∷ 69 ∷ 78 ∷ 68 ∷ 32 ∷ 77 ∷ 46 ∷ []); symbols = (symbol (Ident) 0 6 ∷ symbol (Ident) 7 8 ∷ symbol (Ident) 8 9 ∷ symbol (Ident) 10 14 ∷ symbol (Ident) 15 16 ∷ symbol (Ident) 17 18 ∷ symbol (Ident) 19 25 ∷ symbol (Ident) 26 27 ∷ symbol (Ident) 27 28 ∷ symbol (Ident) 29 36 ∷ symbol (Ident) 37 40 ∷ symbol (Ident) 40 41 ∷ symbol (Ident) 42 43 ∷ symbol (Ident) 44 45 ∷ symbol (Ident) 46 52 ∷ symbol (Ident) 53 54 ∷ symbol (Ident) 54 55 ∷ symbol (Ident) 55 56 ∷ symbol (Ident) 57 58 ∷ symbol (Ident) 58 59 ∷ symbol (Ident) 60 67 ∷ symbol (Ident) 68 71 ∷ symbol (Ident) 71 72 ∷ symbol (Ident) 73 74 ∷ symbol (Ident) 75 76 ∷ symbol (Ident) 77 84 ∷ symbol (Ident) 85 87 ∷ symbol (Ident) 88 89 ∷ symbol (Ident) 89 90 ∷ symbol (Ident) 91 92 ∷ symbol (Ident) 93 94 ∷ symbol (Ident) 95 102 ∷ symbol (Ident) 103 105 ∷ symbol (Ident) 106 107 ∷ symbol (Ident) 107 108 ∷ symbol (Ident) 109 112 ∷ symbol (Ident) 113 114 ∷ symbol (Ident) 114 115 ∷ symbol (Ident) 116 117 ∷ symbol (Ident) 117 118 ∷ symbol (Ident) 119 120 ∷ symbol (Ident) 120 121 ∷ symbol (Ident) 122 123 ∷ symbol (Ident) 123 124 ∷ symbol (Ident) 125 126 ∷ symbol (Ident) 126 127 ∷ symbol (Ident) 128 135 ∷ symbol (Ident) 135 136 ∷ symbol (Ident) 137 142 ∷ symbol (Ident) 143 144 ∷ symbol (Ident) 145 147 ∷ symbol (Ident) 148 149 ∷ symbol (Ident) 150 152 ∷ symbol (Int (pos 1)) 153 154 ∷ symbol (Ident) 155 158 ∷ symbol (Ident) 159 160 ∷ symbol (Ident) 160 161 ∷ []) }; tree = record { module_word = 0; name = 1; semicolon = 0; imports = None; decls = (S.decls None (Some (record { type_word = 0; each = (record { name = (record { name = 4; star = None }); equal = 0; is = (S.Record 6 None (S.fields (record { first = (record { name = 7; star = None }); more = [] }) 0 (S.Named (record { name = 9; member = None }))) S.no_more_fields 0); semicolon = 0 } ∷ record { name = (record { name = 12; star = None }); equal = 0; is = (S.Record 14 (Some (record { left_paren = 0; name = (record { name = 16; member = None }); right_paren = 0 })) (S.fields (record { first = (record { name = 18; star = None }); more = [] }) 0 (S.Named (record { name = 20; member = None }))) S.no_more_fields 0); semicolon = 0 } ∷ record { name = (record { name = 23; star = None }); equal = 0; is = (S.Pointer 25 0 (S.Named (record { name = 27; member = None }))); semicolon = 0 } ∷ record { name = (record { name = 29; star = None }); equal = 0; is = (S.Pointer 31 0 (S.Named (record { name = 33; member = None }))); semicolon = 0 } ∷ []) })) (Some (record { var_word = 0; each = (record { names = (record { first = (record { name = 36; star = None }); more = [] }); colon = 0; of = (S.Named (record { name = 38; member = None })); semicolon = 0 } ∷ record { names = (record { first = (record { name = 40; star = None }); more = [] }); colon = 0; of = (S.Named (record { name = 42; member = None })); semicolon = 0 } ∷ record { names = (record { first = (record { name = 44; star = None }); more = [] }); colon = 0; of = (S.Named (record { name = 46; member = None })); semicolon = 0 } ∷ []) })) S.no_procedure); body = (Some (record { begin_word = 0; stats = (S.stats (S.AssignOrCall (record { name = 49; selectors = S.no_selector }) (Some (record { becomes = 0; value = (S.compared (S.simple None (S.term (S.Designated 51 S.no_selector) S.no_factor) S.no_term) (TheRelation.Is 52) (S.simple None (S.term (S.Int 53) S.no_factor) S.no_term)) }))) S.no_stat) })); end_word = 0; end_name = 55; period = 0 } }

pub choice_guard_or_call_3 : checked (choice_guard_or_call_3_0 ∷ []) ≡ Fault 0 31 150
choice_guard_or_call_3 = refl

-- MODULE M; TYPE R = RECORD x: INTEGER END; E = RECORD (R) y: INTEGER END; P = POINTER TO R; Q = POINTER TO E; VAR p: P; q: Q; b: BOOLEAN; BEGIN b := p IS z END M.
abbrev choice_guard_or_call_4_0 : Parsed
choice_guard_or_call_4_0 = record { source = record { bytes = (77 ∷ 79 ∷ 68 ∷ 85 ∷ 76 ∷ 69 ∷ 32 ∷ 77 ∷ 59 ∷ 32 ∷ 84 ∷ 89 ∷ 80 ∷ 69 ∷ 32 ∷ 82 ∷ 32 ∷ 61 ∷ 32 ∷ 82 ∷ 69 ∷ 67 ∷ 79 ∷ 82 ∷ 68 ∷ 32 ∷ 120 ∷ 58 ∷ 32 ∷ 73 ∷ 78 ∷ 84 ∷ 69 ∷ 71 ∷ 69 ∷ 82 ∷ 32 ∷ 69 ∷ 78 ∷ 68 ∷ 59 ∷ 32 ∷ 69 ∷ 32 ∷ 61 ∷ 32 ∷ 82 ∷ 69 ∷ 67 ∷ 79 ∷ 82 ∷ 68 ∷ 32 ∷ 40 ∷ 82 ∷ 41 ∷ 32 ∷ 121 ∷ 58 ∷ 32 ∷ 73 ∷ 78 ∷ 84 ∷ 69 ∷ 71 ∷ 69 ∷ 82 ∷ 32 ∷ 69 ∷ 78 ∷ 68 ∷ 59 ∷ 32 ∷ 80 ∷ 32 ∷ 61 ∷ 32 ∷ 80 ∷ 79 ∷ 73 ∷ 78 ∷ 84 ∷ 69 ∷ 82 ∷ 32 ∷ 84 ∷ 79 ∷ 32 ∷ 82 ∷ 59 ∷ 32 ∷ 81 ∷ 32 ∷ 61 ∷ 32 ∷ 80 ∷ 79 ∷ 73 ∷ 78 ∷ 84 ∷ 69 ∷ 82 ∷ 32 ∷ 84 ∷ 79 ∷ 32 ∷ 69 ∷ 59 ∷ 32 ∷ 86 ∷ 65 ∷ 82 ∷ 32 ∷ 112 ∷ 58 ∷ 32 ∷ 80 ∷ 59 ∷ 32 ∷ 113 ∷ 58 ∷ 32 ∷ 81 ∷ 59 ∷ 32 ∷ 98 ∷ 58 ∷ 32 ∷ 66 ∷ 79 ∷ 79 ∷ 76 ∷ 69 ∷ 65 ∷ 78 ∷ 59 ∷ 32 ∷ 66 ∷ 69 ∷ 71 ∷ 73 ∷ 78 ∷ 32 ∷ 98 ∷ 32 ∷ 58 ∷ 61 ∷ 32 ∷ 112 ∷ 32 ∷ 73 ∷ 83 ∷ 32 ∷ 122 ∷ 32 ∷ 69 ∷ 78 ∷ 68 ∷ 32 ∷ 77 ∷ 46 ∷ []); symbols = (symbol (Ident) 0 6 ∷ symbol (Ident) 7 8 ∷ symbol (Ident) 8 9 ∷ symbol (Ident) 10 14 ∷ symbol (Ident) 15 16 ∷ symbol (Ident) 17 18 ∷ symbol (Ident) 19 25 ∷ symbol (Ident) 26 27 ∷ symbol (Ident) 27 28 ∷ symbol (Ident) 29 36 ∷ symbol (Ident) 37 40 ∷ symbol (Ident) 40 41 ∷ symbol (Ident) 42 43 ∷ symbol (Ident) 44 45 ∷ symbol (Ident) 46 52 ∷ symbol (Ident) 53 54 ∷ symbol (Ident) 54 55 ∷ symbol (Ident) 55 56 ∷ symbol (Ident) 57 58 ∷ symbol (Ident) 58 59 ∷ symbol (Ident) 60 67 ∷ symbol (Ident) 68 71 ∷ symbol (Ident) 71 72 ∷ symbol (Ident) 73 74 ∷ symbol (Ident) 75 76 ∷ symbol (Ident) 77 84 ∷ symbol (Ident) 85 87 ∷ symbol (Ident) 88 89 ∷ symbol (Ident) 89 90 ∷ symbol (Ident) 91 92 ∷ symbol (Ident) 93 94 ∷ symbol (Ident) 95 102 ∷ symbol (Ident) 103 105 ∷ symbol (Ident) 106 107 ∷ symbol (Ident) 107 108 ∷ symbol (Ident) 109 112 ∷ symbol (Ident) 113 114 ∷ symbol (Ident) 114 115 ∷ symbol (Ident) 116 117 ∷ symbol (Ident) 117 118 ∷ symbol (Ident) 119 120 ∷ symbol (Ident) 120 121 ∷ symbol (Ident) 122 123 ∷ symbol (Ident) 123 124 ∷ symbol (Ident) 125 126 ∷ symbol (Ident) 126 127 ∷ symbol (Ident) 128 135 ∷ symbol (Ident) 135 136 ∷ symbol (Ident) 137 142 ∷ symbol (Ident) 143 144 ∷ symbol (Ident) 145 147 ∷ symbol (Ident) 148 149 ∷ symbol (Ident) 150 152 ∷ symbol (Ident) 153 154 ∷ symbol (Ident) 155 158 ∷ symbol (Ident) 159 160 ∷ symbol (Ident) 160 161 ∷ []) }; tree = record { module_word = 0; name = 1; semicolon = 0; imports = None; decls = (S.decls None (Some (record { type_word = 0; each = (record { name = (record { name = 4; star = None }); equal = 0; is = (S.Record 6 None (S.fields (record { first = (record { name = 7; star = None }); more = [] }) 0 (S.Named (record { name = 9; member = None }))) S.no_more_fields 0); semicolon = 0 } ∷ record { name = (record { name = 12; star = None }); equal = 0; is = (S.Record 14 (Some (record { left_paren = 0; name = (record { name = 16; member = None }); right_paren = 0 })) (S.fields (record { first = (record { name = 18; star = None }); more = [] }) 0 (S.Named (record { name = 20; member = None }))) S.no_more_fields 0); semicolon = 0 } ∷ record { name = (record { name = 23; star = None }); equal = 0; is = (S.Pointer 25 0 (S.Named (record { name = 27; member = None }))); semicolon = 0 } ∷ record { name = (record { name = 29; star = None }); equal = 0; is = (S.Pointer 31 0 (S.Named (record { name = 33; member = None }))); semicolon = 0 } ∷ []) })) (Some (record { var_word = 0; each = (record { names = (record { first = (record { name = 36; star = None }); more = [] }); colon = 0; of = (S.Named (record { name = 38; member = None })); semicolon = 0 } ∷ record { names = (record { first = (record { name = 40; star = None }); more = [] }); colon = 0; of = (S.Named (record { name = 42; member = None })); semicolon = 0 } ∷ record { names = (record { first = (record { name = 44; star = None }); more = [] }); colon = 0; of = (S.Named (record { name = 46; member = None })); semicolon = 0 } ∷ []) })) S.no_procedure); body = (Some (record { begin_word = 0; stats = (S.stats (S.AssignOrCall (record { name = 49; selectors = S.no_selector }) (Some (record { becomes = 0; value = (S.compared (S.simple None (S.term (S.Designated 51 S.no_selector) S.no_factor) S.no_term) (TheRelation.Is 52) (S.simple None (S.term (S.Designated 53 S.no_selector) S.no_factor) S.no_term)) }))) S.no_stat) })); end_word = 0; end_name = 55; period = 0 } }

pub choice_guard_or_call_4 : checked (choice_guard_or_call_4_0 ∷ []) ≡ Fault 0 30 153
choice_guard_or_call_4 = refl

-- MODULE M; VAR i: INTEGER; BEGIN i := 1 + 2 < 3 END M.
abbrev choice_places_1_0 : Parsed
choice_places_1_0 = record { source = record { bytes = (77 ∷ 79 ∷ 68 ∷ 85 ∷ 76 ∷ 69 ∷ 32 ∷ 77 ∷ 59 ∷ 32 ∷ 86 ∷ 65 ∷ 82 ∷ 32 ∷ 105 ∷ 58 ∷ 32 ∷ 73 ∷ 78 ∷ 84 ∷ 69 ∷ 71 ∷ 69 ∷ 82 ∷ 59 ∷ 32 ∷ 66 ∷ 69 ∷ 71 ∷ 73 ∷ 78 ∷ 32 ∷ 105 ∷ 32 ∷ 58 ∷ 61 ∷ 32 ∷ 49 ∷ 32 ∷ 43 ∷ 32 ∷ 50 ∷ 32 ∷ 60 ∷ 32 ∷ 51 ∷ 32 ∷ 69 ∷ 78 ∷ 68 ∷ 32 ∷ 77 ∷ 46 ∷ []); symbols = (symbol (Ident) 0 6 ∷ symbol (Ident) 7 8 ∷ symbol (Ident) 8 9 ∷ symbol (Ident) 10 13 ∷ symbol (Ident) 14 15 ∷ symbol (Ident) 15 16 ∷ symbol (Ident) 17 24 ∷ symbol (Ident) 24 25 ∷ symbol (Ident) 26 31 ∷ symbol (Ident) 32 33 ∷ symbol (Ident) 34 36 ∷ symbol (Int (pos 1)) 37 38 ∷ symbol (Ident) 39 40 ∷ symbol (Int (pos 2)) 41 42 ∷ symbol (Ident) 43 44 ∷ symbol (Int (pos 3)) 45 46 ∷ symbol (Ident) 47 50 ∷ symbol (Ident) 51 52 ∷ symbol (Ident) 52 53 ∷ []) }; tree = record { module_word = 0; name = 1; semicolon = 0; imports = None; decls = (S.decls None None (Some (record { var_word = 0; each = (record { names = (record { first = (record { name = 4; star = None }); more = [] }); colon = 0; of = (S.Named (record { name = 6; member = None })); semicolon = 0 } ∷ []) })) S.no_procedure); body = (Some (record { begin_word = 0; stats = (S.stats (S.AssignOrCall (record { name = 9; selectors = S.no_selector }) (Some (record { becomes = 0; value = (S.compared (S.simple None (S.term (S.Int 11) S.no_factor) (S.added (TheAddOperator.Plus 12) (S.term (S.Int 13) S.no_factor) S.no_term)) (TheRelation.Less 14) (S.simple None (S.term (S.Int 15) S.no_factor) S.no_term)) }))) S.no_stat) })); end_word = 0; end_name = 17; period = 0 } }

pub choice_places_1 : checked (choice_places_1_0 ∷ []) ≡ Fault 0 31 37
choice_places_1 = refl

-- MODULE M; VAR i: INTEGER; BEGIN i := -TRUE END M.
abbrev choice_places_2_0 : Parsed
choice_places_2_0 = record { source = record { bytes = (77 ∷ 79 ∷ 68 ∷ 85 ∷ 76 ∷ 69 ∷ 32 ∷ 77 ∷ 59 ∷ 32 ∷ 86 ∷ 65 ∷ 82 ∷ 32 ∷ 105 ∷ 58 ∷ 32 ∷ 73 ∷ 78 ∷ 84 ∷ 69 ∷ 71 ∷ 69 ∷ 82 ∷ 59 ∷ 32 ∷ 66 ∷ 69 ∷ 71 ∷ 73 ∷ 78 ∷ 32 ∷ 105 ∷ 32 ∷ 58 ∷ 61 ∷ 32 ∷ 45 ∷ 84 ∷ 82 ∷ 85 ∷ 69 ∷ 32 ∷ 69 ∷ 78 ∷ 68 ∷ 32 ∷ 77 ∷ 46 ∷ []); symbols = (symbol (Ident) 0 6 ∷ symbol (Ident) 7 8 ∷ symbol (Ident) 8 9 ∷ symbol (Ident) 10 13 ∷ symbol (Ident) 14 15 ∷ symbol (Ident) 15 16 ∷ symbol (Ident) 17 24 ∷ symbol (Ident) 24 25 ∷ symbol (Ident) 26 31 ∷ symbol (Ident) 32 33 ∷ symbol (Ident) 34 36 ∷ symbol (Ident) 37 38 ∷ symbol (Ident) 38 42 ∷ symbol (Ident) 43 46 ∷ symbol (Ident) 47 48 ∷ symbol (Ident) 48 49 ∷ []) }; tree = record { module_word = 0; name = 1; semicolon = 0; imports = None; decls = (S.decls None None (Some (record { var_word = 0; each = (record { names = (record { first = (record { name = 4; star = None }); more = [] }); colon = 0; of = (S.Named (record { name = 6; member = None })); semicolon = 0 } ∷ []) })) S.no_procedure); body = (Some (record { begin_word = 0; stats = (S.stats (S.AssignOrCall (record { name = 9; selectors = S.no_selector }) (Some (record { becomes = 0; value = (S.only (S.simple (Some (TheSign.Minus 11)) (S.term (S.True 12) S.no_factor) S.no_term)) }))) S.no_stat) })); end_word = 0; end_name = 14; period = 0 } }

pub choice_places_2 : checked (choice_places_2_0 ∷ []) ≡ Fault 0 31 37
choice_places_2 = refl

-- MODULE M; TYPE T = ARRAY 2 OF ARRAY 1048576 OF CHAR; END M.
abbrev choice_places_3_0 : Parsed
choice_places_3_0 = record { source = record { bytes = (77 ∷ 79 ∷ 68 ∷ 85 ∷ 76 ∷ 69 ∷ 32 ∷ 77 ∷ 59 ∷ 32 ∷ 84 ∷ 89 ∷ 80 ∷ 69 ∷ 32 ∷ 84 ∷ 32 ∷ 61 ∷ 32 ∷ 65 ∷ 82 ∷ 82 ∷ 65 ∷ 89 ∷ 32 ∷ 50 ∷ 32 ∷ 79 ∷ 70 ∷ 32 ∷ 65 ∷ 82 ∷ 82 ∷ 65 ∷ 89 ∷ 32 ∷ 49 ∷ 48 ∷ 52 ∷ 56 ∷ 53 ∷ 55 ∷ 54 ∷ 32 ∷ 79 ∷ 70 ∷ 32 ∷ 67 ∷ 72 ∷ 65 ∷ 82 ∷ 59 ∷ 32 ∷ 69 ∷ 78 ∷ 68 ∷ 32 ∷ 77 ∷ 46 ∷ []); symbols = (symbol (Ident) 0 6 ∷ symbol (Ident) 7 8 ∷ symbol (Ident) 8 9 ∷ symbol (Ident) 10 14 ∷ symbol (Ident) 15 16 ∷ symbol (Ident) 17 18 ∷ symbol (Ident) 19 24 ∷ symbol (Int (pos 2)) 25 26 ∷ symbol (Ident) 27 29 ∷ symbol (Ident) 30 35 ∷ symbol (Int (pos 1048576)) 36 43 ∷ symbol (Ident) 44 46 ∷ symbol (Ident) 47 51 ∷ symbol (Ident) 51 52 ∷ symbol (Ident) 53 56 ∷ symbol (Ident) 57 58 ∷ symbol (Ident) 58 59 ∷ []) }; tree = record { module_word = 0; name = 1; semicolon = 0; imports = None; decls = (S.decls None (Some (record { type_word = 0; each = (record { name = (record { name = 4; star = None }); equal = 0; is = (S.Array 6 (S.only (S.simple None (S.term (S.Int 7) S.no_factor) S.no_term)) S.no_expression 0 (S.Array 9 (S.only (S.simple None (S.term (S.Int 10) S.no_factor) S.no_term)) S.no_expression 0 (S.Named (record { name = 12; member = None })))); semicolon = 0 } ∷ []) })) None S.no_procedure); body = None; end_word = 0; end_name = 15; period = 0 } }

pub choice_places_3 : checked (choice_places_3_0 ∷ []) ≡ Fault 0 35 19
choice_places_3 = refl

-- MODULE M; TYPE T = ARRAY 1048576, 2 OF CHAR; END M.
abbrev choice_places_4_0 : Parsed
choice_places_4_0 = record { source = record { bytes = (77 ∷ 79 ∷ 68 ∷ 85 ∷ 76 ∷ 69 ∷ 32 ∷ 77 ∷ 59 ∷ 32 ∷ 84 ∷ 89 ∷ 80 ∷ 69 ∷ 32 ∷ 84 ∷ 32 ∷ 61 ∷ 32 ∷ 65 ∷ 82 ∷ 82 ∷ 65 ∷ 89 ∷ 32 ∷ 49 ∷ 48 ∷ 52 ∷ 56 ∷ 53 ∷ 55 ∷ 54 ∷ 44 ∷ 32 ∷ 50 ∷ 32 ∷ 79 ∷ 70 ∷ 32 ∷ 67 ∷ 72 ∷ 65 ∷ 82 ∷ 59 ∷ 32 ∷ 69 ∷ 78 ∷ 68 ∷ 32 ∷ 77 ∷ 46 ∷ []); symbols = (symbol (Ident) 0 6 ∷ symbol (Ident) 7 8 ∷ symbol (Ident) 8 9 ∷ symbol (Ident) 10 14 ∷ symbol (Ident) 15 16 ∷ symbol (Ident) 17 18 ∷ symbol (Ident) 19 24 ∷ symbol (Int (pos 1048576)) 25 32 ∷ symbol (Ident) 32 33 ∷ symbol (Int (pos 2)) 34 35 ∷ symbol (Ident) 36 38 ∷ symbol (Ident) 39 43 ∷ symbol (Ident) 43 44 ∷ symbol (Ident) 45 48 ∷ symbol (Ident) 49 50 ∷ symbol (Ident) 50 51 ∷ []) }; tree = record { module_word = 0; name = 1; semicolon = 0; imports = None; decls = (S.decls None (Some (record { type_word = 0; each = (record { name = (record { name = 4; star = None }); equal = 0; is = (S.Array 6 (S.only (S.simple None (S.term (S.Int 7) S.no_factor) S.no_term)) (S.next_expression 0 (S.only (S.simple None (S.term (S.Int 9) S.no_factor) S.no_term)) S.no_expression) 0 (S.Named (record { name = 11; member = None }))); semicolon = 0 } ∷ []) })) None S.no_procedure); body = None; end_word = 0; end_name = 14; period = 0 } }

pub choice_places_4 : checked (choice_places_4_0 ∷ []) ≡ Fault 0 35 19
choice_places_4 = refl

-- MODULE M; TYPE T = ARRAY 1048576, 1048576 OF RECORD END; END M.
abbrev choice_places_5_0 : Parsed
choice_places_5_0 = record { source = record { bytes = (77 ∷ 79 ∷ 68 ∷ 85 ∷ 76 ∷ 69 ∷ 32 ∷ 77 ∷ 59 ∷ 32 ∷ 84 ∷ 89 ∷ 80 ∷ 69 ∷ 32 ∷ 84 ∷ 32 ∷ 61 ∷ 32 ∷ 65 ∷ 82 ∷ 82 ∷ 65 ∷ 89 ∷ 32 ∷ 49 ∷ 48 ∷ 52 ∷ 56 ∷ 53 ∷ 55 ∷ 54 ∷ 44 ∷ 32 ∷ 49 ∷ 48 ∷ 52 ∷ 56 ∷ 53 ∷ 55 ∷ 54 ∷ 32 ∷ 79 ∷ 70 ∷ 32 ∷ 82 ∷ 69 ∷ 67 ∷ 79 ∷ 82 ∷ 68 ∷ 32 ∷ 69 ∷ 78 ∷ 68 ∷ 59 ∷ 32 ∷ 69 ∷ 78 ∷ 68 ∷ 32 ∷ 77 ∷ 46 ∷ []); symbols = (symbol (Ident) 0 6 ∷ symbol (Ident) 7 8 ∷ symbol (Ident) 8 9 ∷ symbol (Ident) 10 14 ∷ symbol (Ident) 15 16 ∷ symbol (Ident) 17 18 ∷ symbol (Ident) 19 24 ∷ symbol (Int (pos 1048576)) 25 32 ∷ symbol (Ident) 32 33 ∷ symbol (Int (pos 1048576)) 34 41 ∷ symbol (Ident) 42 44 ∷ symbol (Ident) 45 51 ∷ symbol (Ident) 52 55 ∷ symbol (Ident) 55 56 ∷ symbol (Ident) 57 60 ∷ symbol (Ident) 61 62 ∷ symbol (Ident) 62 63 ∷ []) }; tree = record { module_word = 0; name = 1; semicolon = 0; imports = None; decls = (S.decls None (Some (record { type_word = 0; each = (record { name = (record { name = 4; star = None }); equal = 0; is = (S.Array 6 (S.only (S.simple None (S.term (S.Int 7) S.no_factor) S.no_term)) (S.next_expression 0 (S.only (S.simple None (S.term (S.Int 9) S.no_factor) S.no_term)) S.no_expression) 0 (S.Record 11 None S.no_fields S.no_more_fields 0)); semicolon = 0 } ∷ []) })) None S.no_procedure); body = None; end_word = 0; end_name = 15; period = 0 } }

pub choice_places_5 : checked (choice_places_5_0 ∷ []) ≡ Legal (record { records = (record { module_number = 0; base = None; level = 0; fields = []; cells = 0; extent = record { bytes = 0; wide = false } } ∷ []); pointers = []; modules = (record { name = (77 ∷ []); objects = (record { name = (84 ∷ []); exported = false; entity = I.OfType (H.Array 1048576 (H.Array 1048576 (H.Record 0))) } ∷ []); variables = []; body = 0 } ∷ []); procedures = (record { module_number = 0; line = 1; is_body = true; formals = []; result = H.Nothing; locals = []; texts = []; body = I.no_statement; answer = None } ∷ []); imports_in = false })
choice_places_5 = refl

-- MODULE M; IMPORT Out; VAR x: Out.T; END M.
abbrev choice_places_6_0 : Parsed
choice_places_6_0 = record { source = record { bytes = (77 ∷ 79 ∷ 68 ∷ 85 ∷ 76 ∷ 69 ∷ 32 ∷ 77 ∷ 59 ∷ 32 ∷ 73 ∷ 77 ∷ 80 ∷ 79 ∷ 82 ∷ 84 ∷ 32 ∷ 79 ∷ 117 ∷ 116 ∷ 59 ∷ 32 ∷ 86 ∷ 65 ∷ 82 ∷ 32 ∷ 120 ∷ 58 ∷ 32 ∷ 79 ∷ 117 ∷ 116 ∷ 46 ∷ 84 ∷ 59 ∷ 32 ∷ 69 ∷ 78 ∷ 68 ∷ 32 ∷ 77 ∷ 46 ∷ []); symbols = (symbol (Ident) 0 6 ∷ symbol (Ident) 7 8 ∷ symbol (Ident) 8 9 ∷ symbol (Ident) 10 16 ∷ symbol (Ident) 17 20 ∷ symbol (Ident) 20 21 ∷ symbol (Ident) 22 25 ∷ symbol (Ident) 26 27 ∷ symbol (Ident) 27 28 ∷ symbol (Ident) 29 32 ∷ symbol (Ident) 32 33 ∷ symbol (Ident) 33 34 ∷ symbol (Ident) 34 35 ∷ symbol (Ident) 36 39 ∷ symbol (Ident) 40 41 ∷ symbol (Ident) 41 42 ∷ []) }; tree = record { module_word = 0; name = 1; semicolon = 0; imports = Some (record { import_word = 0; first = (record { name = 4; of = None }); more = []; semicolon = 0 }); decls = (S.decls None None (Some (record { var_word = 0; each = (record { names = (record { first = (record { name = 7; star = None }); more = [] }); colon = 0; of = (S.Named (record { name = 9; member = Some (record { period = 0; name = 11 }) })); semicolon = 0 } ∷ []) })) S.no_procedure); body = None; end_word = 0; end_name = 14; period = 0 } }

pub choice_places_6 : checked (choice_places_6_0 ∷ []) ≡ Fault 0 30 33
choice_places_6 = refl

-- MODULE A; TYPE R* = RECORD x*: INTEGER END; VAR p*: POINTER TO R; r*: R; a*: ARRAY 2 OF R; END A.
abbrev choice_places_7_0 : Parsed
choice_places_7_0 = record { source = record { bytes = (77 ∷ 79 ∷ 68 ∷ 85 ∷ 76 ∷ 69 ∷ 32 ∷ 65 ∷ 59 ∷ 32 ∷ 84 ∷ 89 ∷ 80 ∷ 69 ∷ 32 ∷ 82 ∷ 42 ∷ 32 ∷ 61 ∷ 32 ∷ 82 ∷ 69 ∷ 67 ∷ 79 ∷ 82 ∷ 68 ∷ 32 ∷ 120 ∷ 42 ∷ 58 ∷ 32 ∷ 73 ∷ 78 ∷ 84 ∷ 69 ∷ 71 ∷ 69 ∷ 82 ∷ 32 ∷ 69 ∷ 78 ∷ 68 ∷ 59 ∷ 32 ∷ 86 ∷ 65 ∷ 82 ∷ 32 ∷ 112 ∷ 42 ∷ 58 ∷ 32 ∷ 80 ∷ 79 ∷ 73 ∷ 78 ∷ 84 ∷ 69 ∷ 82 ∷ 32 ∷ 84 ∷ 79 ∷ 32 ∷ 82 ∷ 59 ∷ 32 ∷ 114 ∷ 42 ∷ 58 ∷ 32 ∷ 82 ∷ 59 ∷ 32 ∷ 97 ∷ 42 ∷ 58 ∷ 32 ∷ 65 ∷ 82 ∷ 82 ∷ 65 ∷ 89 ∷ 32 ∷ 50 ∷ 32 ∷ 79 ∷ 70 ∷ 32 ∷ 82 ∷ 59 ∷ 32 ∷ 69 ∷ 78 ∷ 68 ∷ 32 ∷ 65 ∷ 46 ∷ 10 ∷ []); symbols = (symbol (Ident) 0 6 ∷ symbol (Ident) 7 8 ∷ symbol (Ident) 8 9 ∷ symbol (Ident) 10 14 ∷ symbol (Ident) 15 16 ∷ symbol (Ident) 16 17 ∷ symbol (Ident) 18 19 ∷ symbol (Ident) 20 26 ∷ symbol (Ident) 27 28 ∷ symbol (Ident) 28 29 ∷ symbol (Ident) 29 30 ∷ symbol (Ident) 31 38 ∷ symbol (Ident) 39 42 ∷ symbol (Ident) 42 43 ∷ symbol (Ident) 44 47 ∷ symbol (Ident) 48 49 ∷ symbol (Ident) 49 50 ∷ symbol (Ident) 50 51 ∷ symbol (Ident) 52 59 ∷ symbol (Ident) 60 62 ∷ symbol (Ident) 63 64 ∷ symbol (Ident) 64 65 ∷ symbol (Ident) 66 67 ∷ symbol (Ident) 67 68 ∷ symbol (Ident) 68 69 ∷ symbol (Ident) 70 71 ∷ symbol (Ident) 71 72 ∷ symbol (Ident) 73 74 ∷ symbol (Ident) 74 75 ∷ symbol (Ident) 75 76 ∷ symbol (Ident) 77 82 ∷ symbol (Int (pos 2)) 83 84 ∷ symbol (Ident) 85 87 ∷ symbol (Ident) 88 89 ∷ symbol (Ident) 89 90 ∷ symbol (Ident) 91 94 ∷ symbol (Ident) 95 96 ∷ symbol (Ident) 96 97 ∷ []) }; tree = record { module_word = 0; name = 1; semicolon = 0; imports = None; decls = (S.decls None (Some (record { type_word = 0; each = (record { name = (record { name = 4; star = Some 0 }); equal = 0; is = (S.Record 7 None (S.fields (record { first = (record { name = 8; star = Some 0 }); more = [] }) 0 (S.Named (record { name = 11; member = None }))) S.no_more_fields 0); semicolon = 0 } ∷ []) })) (Some (record { var_word = 0; each = (record { names = (record { first = (record { name = 15; star = Some 0 }); more = [] }); colon = 0; of = (S.Pointer 18 0 (S.Named (record { name = 20; member = None }))); semicolon = 0 } ∷ record { names = (record { first = (record { name = 22; star = Some 0 }); more = [] }); colon = 0; of = (S.Named (record { name = 25; member = None })); semicolon = 0 } ∷ record { names = (record { first = (record { name = 27; star = Some 0 }); more = [] }); colon = 0; of = (S.Array 30 (S.only (S.simple None (S.term (S.Int 31) S.no_factor) S.no_term)) S.no_expression 0 (S.Named (record { name = 33; member = None }))); semicolon = 0 } ∷ []) })) S.no_procedure); body = None; end_word = 0; end_name = 36; period = 0 } }

-- MODULE M; IMPORT A; TYPE T = RECORD (A.p) END; END M.
abbrev choice_places_7_1 : Parsed
choice_places_7_1 = record { source = record { bytes = (77 ∷ 79 ∷ 68 ∷ 85 ∷ 76 ∷ 69 ∷ 32 ∷ 77 ∷ 59 ∷ 32 ∷ 73 ∷ 77 ∷ 80 ∷ 79 ∷ 82 ∷ 84 ∷ 32 ∷ 65 ∷ 59 ∷ 32 ∷ 84 ∷ 89 ∷ 80 ∷ 69 ∷ 32 ∷ 84 ∷ 32 ∷ 61 ∷ 32 ∷ 82 ∷ 69 ∷ 67 ∷ 79 ∷ 82 ∷ 68 ∷ 32 ∷ 40 ∷ 65 ∷ 46 ∷ 112 ∷ 41 ∷ 32 ∷ 69 ∷ 78 ∷ 68 ∷ 59 ∷ 32 ∷ 69 ∷ 78 ∷ 68 ∷ 32 ∷ 77 ∷ 46 ∷ []); symbols = (symbol (Ident) 0 6 ∷ symbol (Ident) 7 8 ∷ symbol (Ident) 8 9 ∷ symbol (Ident) 10 16 ∷ symbol (Ident) 17 18 ∷ symbol (Ident) 18 19 ∷ symbol (Ident) 20 24 ∷ symbol (Ident) 25 26 ∷ symbol (Ident) 27 28 ∷ symbol (Ident) 29 35 ∷ symbol (Ident) 36 37 ∷ symbol (Ident) 37 38 ∷ symbol (Ident) 38 39 ∷ symbol (Ident) 39 40 ∷ symbol (Ident) 40 41 ∷ symbol (Ident) 42 45 ∷ symbol (Ident) 45 46 ∷ symbol (Ident) 47 50 ∷ symbol (Ident) 51 52 ∷ symbol (Ident) 52 53 ∷ []) }; tree = record { module_word = 0; name = 1; semicolon = 0; imports = Some (record { import_word = 0; first = (record { name = 4; of = None }); more = []; semicolon = 0 }); decls = (S.decls None (Some (record { type_word = 0; each = (record { name = (record { name = 7; star = None }); equal = 0; is = (S.Record 9 (Some (record { left_paren = 0; name = (record { name = 11; member = Some (record { period = 0; name = 13 }) }); right_paren = 0 })) S.no_fields S.no_more_fields 0); semicolon = 0 } ∷ []) })) None S.no_procedure); body = None; end_word = 0; end_name = 18; period = 0 } }

pub choice_places_7 : checked (choice_places_7_0 ∷ choice_places_7_1 ∷ []) ≡ Fault 1 42 37
choice_places_7 = refl

-- MODULE M; VAR f: PROCEDURE (VAR x: ARRAY OF CHAR); PROCEDURE P(x: ARRAY OF CHAR); END P; BEGIN f := P END M.
abbrev choice_modes_1_0 : Parsed
choice_modes_1_0 = record { source = record { bytes = (77 ∷ 79 ∷ 68 ∷ 85 ∷ 76 ∷ 69 ∷ 32 ∷ 77 ∷ 59 ∷ 32 ∷ 86 ∷ 65 ∷ 82 ∷ 32 ∷ 102 ∷ 58 ∷ 32 ∷ 80 ∷ 82 ∷ 79 ∷ 67 ∷ 69 ∷ 68 ∷ 85 ∷ 82 ∷ 69 ∷ 32 ∷ 40 ∷ 86 ∷ 65 ∷ 82 ∷ 32 ∷ 120 ∷ 58 ∷ 32 ∷ 65 ∷ 82 ∷ 82 ∷ 65 ∷ 89 ∷ 32 ∷ 79 ∷ 70 ∷ 32 ∷ 67 ∷ 72 ∷ 65 ∷ 82 ∷ 41 ∷ 59 ∷ 32 ∷ 80 ∷ 82 ∷ 79 ∷ 67 ∷ 69 ∷ 68 ∷ 85 ∷ 82 ∷ 69 ∷ 32 ∷ 80 ∷ 40 ∷ 120 ∷ 58 ∷ 32 ∷ 65 ∷ 82 ∷ 82 ∷ 65 ∷ 89 ∷ 32 ∷ 79 ∷ 70 ∷ 32 ∷ 67 ∷ 72 ∷ 65 ∷ 82 ∷ 41 ∷ 59 ∷ 32 ∷ 69 ∷ 78 ∷ 68 ∷ 32 ∷ 80 ∷ 59 ∷ 32 ∷ 66 ∷ 69 ∷ 71 ∷ 73 ∷ 78 ∷ 32 ∷ 102 ∷ 32 ∷ 58 ∷ 61 ∷ 32 ∷ 80 ∷ 32 ∷ 69 ∷ 78 ∷ 68 ∷ 32 ∷ 77 ∷ 46 ∷ []); symbols = (symbol (Ident) 0 6 ∷ symbol (Ident) 7 8 ∷ symbol (Ident) 8 9 ∷ symbol (Ident) 10 13 ∷ symbol (Ident) 14 15 ∷ symbol (Ident) 15 16 ∷ symbol (Ident) 17 26 ∷ symbol (Ident) 27 28 ∷ symbol (Ident) 28 31 ∷ symbol (Ident) 32 33 ∷ symbol (Ident) 33 34 ∷ symbol (Ident) 35 40 ∷ symbol (Ident) 41 43 ∷ symbol (Ident) 44 48 ∷ symbol (Ident) 48 49 ∷ symbol (Ident) 49 50 ∷ symbol (Ident) 51 60 ∷ symbol (Ident) 61 62 ∷ symbol (Ident) 62 63 ∷ symbol (Ident) 63 64 ∷ symbol (Ident) 64 65 ∷ symbol (Ident) 66 71 ∷ symbol (Ident) 72 74 ∷ symbol (Ident) 75 79 ∷ symbol (Ident) 79 80 ∷ symbol (Ident) 80 81 ∷ symbol (Ident) 82 85 ∷ symbol (Ident) 86 87 ∷ symbol (Ident) 87 88 ∷ symbol (Ident) 89 94 ∷ symbol (Ident) 95 96 ∷ symbol (Ident) 97 99 ∷ symbol (Ident) 100 101 ∷ symbol (Ident) 102 105 ∷ symbol (Ident) 106 107 ∷ symbol (Ident) 107 108 ∷ []) }; tree = record { module_word = 0; name = 1; semicolon = 0; imports = None; decls = (S.decls None None (Some (record { var_word = 0; each = (record { names = (record { first = (record { name = 4; star = None }); more = [] }); colon = 0; of = (S.Procedure 6 (Some (record { left_paren = 0; sections = Some (record { first = (record { var_word = Some 0; first = 9; more = []; colon = 0; open_array = Some (record { array_word = 0; of_word = 0 }); of = (record { name = 13; member = None }) }); more = [] }); right_paren = 0; result = None }))); semicolon = 0 } ∷ []) })) (S.procedure 0 (record { name = 17; star = None }) (Some (record { left_paren = 0; sections = Some (record { first = (record { var_word = None; first = 19; more = []; colon = 0; open_array = Some (record { array_word = 0; of_word = 0 }); of = (record { name = 23; member = None }) }); more = [] }); right_paren = 0; result = None })) 0 (S.decls None None None S.no_procedure) None None 26 27 0 S.no_procedure)); body = (Some (record { begin_word = 0; stats = (S.stats (S.AssignOrCall (record { name = 30; selectors = S.no_selector }) (Some (record { becomes = 0; value = (S.only (S.simple None (S.term (S.Designated 32 S.no_selector) S.no_factor) S.no_term)) }))) S.no_stat) })); end_word = 0; end_name = 34; period = 0 } }

pub choice_modes_1 : checked (choice_modes_1_0 ∷ []) ≡ Fault 0 31 100
choice_modes_1 = refl

-- MODULE M; VAR f: PROCEDURE (x: ARRAY OF CHAR); PROCEDURE P(x: ARRAY OF CHAR); END P; BEGIN f := P END M.
abbrev choice_modes_2_0 : Parsed
choice_modes_2_0 = record { source = record { bytes = (77 ∷ 79 ∷ 68 ∷ 85 ∷ 76 ∷ 69 ∷ 32 ∷ 77 ∷ 59 ∷ 32 ∷ 86 ∷ 65 ∷ 82 ∷ 32 ∷ 102 ∷ 58 ∷ 32 ∷ 80 ∷ 82 ∷ 79 ∷ 67 ∷ 69 ∷ 68 ∷ 85 ∷ 82 ∷ 69 ∷ 32 ∷ 40 ∷ 120 ∷ 58 ∷ 32 ∷ 65 ∷ 82 ∷ 82 ∷ 65 ∷ 89 ∷ 32 ∷ 79 ∷ 70 ∷ 32 ∷ 67 ∷ 72 ∷ 65 ∷ 82 ∷ 41 ∷ 59 ∷ 32 ∷ 80 ∷ 82 ∷ 79 ∷ 67 ∷ 69 ∷ 68 ∷ 85 ∷ 82 ∷ 69 ∷ 32 ∷ 80 ∷ 40 ∷ 120 ∷ 58 ∷ 32 ∷ 65 ∷ 82 ∷ 82 ∷ 65 ∷ 89 ∷ 32 ∷ 79 ∷ 70 ∷ 32 ∷ 67 ∷ 72 ∷ 65 ∷ 82 ∷ 41 ∷ 59 ∷ 32 ∷ 69 ∷ 78 ∷ 68 ∷ 32 ∷ 80 ∷ 59 ∷ 32 ∷ 66 ∷ 69 ∷ 71 ∷ 73 ∷ 78 ∷ 32 ∷ 102 ∷ 32 ∷ 58 ∷ 61 ∷ 32 ∷ 80 ∷ 32 ∷ 69 ∷ 78 ∷ 68 ∷ 32 ∷ 77 ∷ 46 ∷ []); symbols = (symbol (Ident) 0 6 ∷ symbol (Ident) 7 8 ∷ symbol (Ident) 8 9 ∷ symbol (Ident) 10 13 ∷ symbol (Ident) 14 15 ∷ symbol (Ident) 15 16 ∷ symbol (Ident) 17 26 ∷ symbol (Ident) 27 28 ∷ symbol (Ident) 28 29 ∷ symbol (Ident) 29 30 ∷ symbol (Ident) 31 36 ∷ symbol (Ident) 37 39 ∷ symbol (Ident) 40 44 ∷ symbol (Ident) 44 45 ∷ symbol (Ident) 45 46 ∷ symbol (Ident) 47 56 ∷ symbol (Ident) 57 58 ∷ symbol (Ident) 58 59 ∷ symbol (Ident) 59 60 ∷ symbol (Ident) 60 61 ∷ symbol (Ident) 62 67 ∷ symbol (Ident) 68 70 ∷ symbol (Ident) 71 75 ∷ symbol (Ident) 75 76 ∷ symbol (Ident) 76 77 ∷ symbol (Ident) 78 81 ∷ symbol (Ident) 82 83 ∷ symbol (Ident) 83 84 ∷ symbol (Ident) 85 90 ∷ symbol (Ident) 91 92 ∷ symbol (Ident) 93 95 ∷ symbol (Ident) 96 97 ∷ symbol (Ident) 98 101 ∷ symbol (Ident) 102 103 ∷ symbol (Ident) 103 104 ∷ []) }; tree = record { module_word = 0; name = 1; semicolon = 0; imports = None; decls = (S.decls None None (Some (record { var_word = 0; each = (record { names = (record { first = (record { name = 4; star = None }); more = [] }); colon = 0; of = (S.Procedure 6 (Some (record { left_paren = 0; sections = Some (record { first = (record { var_word = None; first = 8; more = []; colon = 0; open_array = Some (record { array_word = 0; of_word = 0 }); of = (record { name = 12; member = None }) }); more = [] }); right_paren = 0; result = None }))); semicolon = 0 } ∷ []) })) (S.procedure 0 (record { name = 16; star = None }) (Some (record { left_paren = 0; sections = Some (record { first = (record { var_word = None; first = 18; more = []; colon = 0; open_array = Some (record { array_word = 0; of_word = 0 }); of = (record { name = 22; member = None }) }); more = [] }); right_paren = 0; result = None })) 0 (S.decls None None None S.no_procedure) None None 25 26 0 S.no_procedure)); body = (Some (record { begin_word = 0; stats = (S.stats (S.AssignOrCall (record { name = 29; selectors = S.no_selector }) (Some (record { becomes = 0; value = (S.only (S.simple None (S.term (S.Designated 31 S.no_selector) S.no_factor) S.no_term)) }))) S.no_stat) })); end_word = 0; end_name = 33; period = 0 } }

pub choice_modes_2 : checked (choice_modes_2_0 ∷ []) ≡ Legal (record { records = []; pointers = []; modules = (record { name = (77 ∷ []); objects = (record { name = (102 ∷ []); exported = false; entity = I.OfVariable 0 } ∷ record { name = (80 ∷ []); exported = false; entity = I.OfProcedure 0 } ∷ []); variables = ((H.Procedure (H.one false (H.Open H.Char) H.none) H.Nothing) ∷ []); body = 1 } ∷ []); procedures = (record { module_number = 0; line = 1; is_body = false; formals = (record { mode = TheMode.Open; variable = false; shape = (H.Open H.Char) } ∷ []); result = H.Nothing; locals = []; texts = []; body = I.no_statement; answer = None } ∷ record { module_number = 0; line = 1; is_body = true; formals = []; result = H.Nothing; locals = []; texts = []; body = (I.next_statement (I.Assign (I.of_type (I.Global 0 0) (H.Procedure (H.one false (H.Open H.Char) H.none) H.Nothing)) (record { form = (I.Routine 0); shape = (H.Procedure (H.one false (H.Open H.Char) H.none) H.Nothing) })) I.no_statement); answer = None } ∷ []); imports_in = false })
choice_modes_2 = refl
