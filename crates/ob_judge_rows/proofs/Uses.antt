-- Small modules, and what the judgement says of them. Written by bench/judged_rows.py from their texts.
use Rattle.std.specs.Prelude.{◌≡◌, ℕ, [], ◌∷◌, true, false, Some, None, pos, negsuc}
use Rattle.std.proofs.Common.{refl}
use Rattle.ob_symbol.specs.declared.symbol.Symbol.{Symbol}
use Rattle.ob_symbol.specs.declared.symbol.Kind.{Kind}
use Rattle.ob_symbol.specs.declared.symbol.Kind.TheVariants.{Int, Ident}
use Rattle.ob_symbol.specs.declared.symbol.Kind.TheVariants as TheKind
use Rattle.ob_syntax.specs.Syntax as S
use Rattle.ob_syntax.specs.declared.expressions.AddOperator.TheVariants as TheAddOperator
use Rattle.ob_syntax.specs.declared.expressions.MulOperator.TheVariants as TheMulOperator
use Rattle.ob_syntax.specs.declared.statements.Label.TheVariants as TheLabel
use Rattle.ob_types.specs.declared.types.Mode.TheVariants as TheMode
use Rattle.ob_judge.specs.Shapes as H
use Rattle.ob_judge.specs.Image as I
use Rattle.ob_judge.specs.Modules.{Parsed, Legal, Fault, checked}

abbrev symbol : Kind → ℕ → ℕ → Symbol
symbol kind from to = record { kind = kind; from = from; to = to }

-- MODULE M; IMPORT In; BEGIN In.Done := TRUE END M.
abbrev read_only_1_0 : Parsed
read_only_1_0 = record { source = record { bytes = (77 ∷ 79 ∷ 68 ∷ 85 ∷ 76 ∷ 69 ∷ 32 ∷ 77 ∷ 59 ∷ 32 ∷ 73 ∷ 77 ∷ 80 ∷ 79 ∷ 82 ∷ 84 ∷ 32 ∷ 73 ∷ 110 ∷ 59 ∷ 32 ∷ 66 ∷ 69 ∷ 71 ∷ 73 ∷ 78 ∷ 32 ∷ 73 ∷ 110 ∷ 46 ∷ 68 ∷ 111 ∷ 110 ∷ 101 ∷ 32 ∷ 58 ∷ 61 ∷ 32 ∷ 84 ∷ 82 ∷ 85 ∷ 69 ∷ 32 ∷ 69 ∷ 78 ∷ 68 ∷ 32 ∷ 77 ∷ 46 ∷ []); symbols = (symbol (Ident) 0 6 ∷ symbol (Ident) 7 8 ∷ symbol (Ident) 8 9 ∷ symbol (Ident) 10 16 ∷ symbol (Ident) 17 19 ∷ symbol (Ident) 19 20 ∷ symbol (Ident) 21 26 ∷ symbol (Ident) 27 29 ∷ symbol (Ident) 29 30 ∷ symbol (Ident) 30 34 ∷ symbol (Ident) 35 37 ∷ symbol (Ident) 38 42 ∷ symbol (Ident) 43 46 ∷ symbol (Ident) 47 48 ∷ symbol (Ident) 48 49 ∷ []) }; tree = record { module_word = 0; name = 1; semicolon = 0; imports = Some (record { import_word = 0; first = (record { name = 4; of = None }); more = []; semicolon = 0 }); decls = (S.decls None None None S.no_procedure); body = (Some (record { begin_word = 0; stats = (S.stats (S.AssignOrCall (record { name = 7; selectors = (S.selected (S.Field 0 9) S.no_selector) }) (Some (record { becomes = 0; value = (S.only (S.simple None (S.term (S.True 11) S.no_factor) S.no_term)) }))) S.no_stat) })); end_word = 0; end_name = 13; period = 0 } }

pub read_only_1 : checked (read_only_1_0 ∷ []) ≡ Fault 0 33 27
read_only_1 = refl

-- MODULE M; IMPORT In; VAR i: INTEGER; b: BOOLEAN; BEGIN INC(i, 1); In.Done := b END M.
abbrev read_only_2_0 : Parsed
read_only_2_0 = record { source = record { bytes = (77 ∷ 79 ∷ 68 ∷ 85 ∷ 76 ∷ 69 ∷ 32 ∷ 77 ∷ 59 ∷ 32 ∷ 73 ∷ 77 ∷ 80 ∷ 79 ∷ 82 ∷ 84 ∷ 32 ∷ 73 ∷ 110 ∷ 59 ∷ 32 ∷ 86 ∷ 65 ∷ 82 ∷ 32 ∷ 105 ∷ 58 ∷ 32 ∷ 73 ∷ 78 ∷ 84 ∷ 69 ∷ 71 ∷ 69 ∷ 82 ∷ 59 ∷ 32 ∷ 98 ∷ 58 ∷ 32 ∷ 66 ∷ 79 ∷ 79 ∷ 76 ∷ 69 ∷ 65 ∷ 78 ∷ 59 ∷ 32 ∷ 66 ∷ 69 ∷ 71 ∷ 73 ∷ 78 ∷ 32 ∷ 73 ∷ 78 ∷ 67 ∷ 40 ∷ 105 ∷ 44 ∷ 32 ∷ 49 ∷ 41 ∷ 59 ∷ 32 ∷ 73 ∷ 110 ∷ 46 ∷ 68 ∷ 111 ∷ 110 ∷ 101 ∷ 32 ∷ 58 ∷ 61 ∷ 32 ∷ 98 ∷ 32 ∷ 69 ∷ 78 ∷ 68 ∷ 32 ∷ 77 ∷ 46 ∷ []); symbols = (symbol (Ident) 0 6 ∷ symbol (Ident) 7 8 ∷ symbol (Ident) 8 9 ∷ symbol (Ident) 10 16 ∷ symbol (Ident) 17 19 ∷ symbol (Ident) 19 20 ∷ symbol (Ident) 21 24 ∷ symbol (Ident) 25 26 ∷ symbol (Ident) 26 27 ∷ symbol (Ident) 28 35 ∷ symbol (Ident) 35 36 ∷ symbol (Ident) 37 38 ∷ symbol (Ident) 38 39 ∷ symbol (Ident) 40 47 ∷ symbol (Ident) 47 48 ∷ symbol (Ident) 49 54 ∷ symbol (Ident) 55 58 ∷ symbol (Ident) 58 59 ∷ symbol (Ident) 59 60 ∷ symbol (Ident) 60 61 ∷ symbol (Int (pos 1)) 62 63 ∷ symbol (Ident) 63 64 ∷ symbol (Ident) 64 65 ∷ symbol (Ident) 66 68 ∷ symbol (Ident) 68 69 ∷ symbol (Ident) 69 73 ∷ symbol (Ident) 74 76 ∷ symbol (Ident) 77 78 ∷ symbol (Ident) 79 82 ∷ symbol (Ident) 83 84 ∷ symbol (Ident) 84 85 ∷ []) }; tree = record { module_word = 0; name = 1; semicolon = 0; imports = Some (record { import_word = 0; first = (record { name = 4; of = None }); more = []; semicolon = 0 }); decls = (S.decls None None (Some (record { var_word = 0; each = (record { names = (record { first = (record { name = 7; star = None }); more = [] }); colon = 0; of = (S.Named (record { name = 9; member = None })); semicolon = 0 } ∷ record { names = (record { first = (record { name = 11; star = None }); more = [] }); colon = 0; of = (S.Named (record { name = 13; member = None })); semicolon = 0 } ∷ []) })) S.no_procedure); body = (Some (record { begin_word = 0; stats = (S.stats (S.AssignOrCall (record { name = 16; selectors = (S.selected (S.Parens 0 (S.expressions (S.only (S.simple None (S.term (S.Designated 18 S.no_selector) S.no_factor) S.no_term)) (S.next_expression 0 (S.only (S.simple None (S.term (S.Int 20) S.no_factor) S.no_term)) S.no_expression)) 0) S.no_selector) }) None) (S.next_stat 0 (S.AssignOrCall (record { name = 23; selectors = (S.selected (S.Field 0 25) S.no_selector) }) (Some (record { becomes = 0; value = (S.only (S.simple None (S.term (S.Designated 27 S.no_selector) S.no_factor) S.no_term)) }))) S.no_stat)) })); end_word = 0; end_name = 29; period = 0 } }

pub read_only_2 : checked (read_only_2_0 ∷ []) ≡ Fault 0 33 66
read_only_2 = refl

-- MODULE M; TYPE R = RECORD x: INTEGER END; PROCEDURE P(r: R); BEGIN r.x := 1 END P; END M.
abbrev read_only_3_0 : Parsed
read_only_3_0 = record { source = record { bytes = (77 ∷ 79 ∷ 68 ∷ 85 ∷ 76 ∷ 69 ∷ 32 ∷ 77 ∷ 59 ∷ 32 ∷ 84 ∷ 89 ∷ 80 ∷ 69 ∷ 32 ∷ 82 ∷ 32 ∷ 61 ∷ 32 ∷ 82 ∷ 69 ∷ 67 ∷ 79 ∷ 82 ∷ 68 ∷ 32 ∷ 120 ∷ 58 ∷ 32 ∷ 73 ∷ 78 ∷ 84 ∷ 69 ∷ 71 ∷ 69 ∷ 82 ∷ 32 ∷ 69 ∷ 78 ∷ 68 ∷ 59 ∷ 32 ∷ 80 ∷ 82 ∷ 79 ∷ 67 ∷ 69 ∷ 68 ∷ 85 ∷ 82 ∷ 69 ∷ 32 ∷ 80 ∷ 40 ∷ 114 ∷ 58 ∷ 32 ∷ 82 ∷ 41 ∷ 59 ∷ 32 ∷ 66 ∷ 69 ∷ 71 ∷ 73 ∷ 78 ∷ 32 ∷ 114 ∷ 46 ∷ 120 ∷ 32 ∷ 58 ∷ 61 ∷ 32 ∷ 49 ∷ 32 ∷ 69 ∷ 78 ∷ 68 ∷ 32 ∷ 80 ∷ 59 ∷ 32 ∷ 69 ∷ 78 ∷ 68 ∷ 32 ∷ 77 ∷ 46 ∷ []); symbols = (symbol (Ident) 0 6 ∷ symbol (Ident) 7 8 ∷ symbol (Ident) 8 9 ∷ symbol (Ident) 10 14 ∷ symbol (Ident) 15 16 ∷ symbol (Ident) 17 18 ∷ symbol (Ident) 19 25 ∷ symbol (Ident) 26 27 ∷ symbol (Ident) 27 28 ∷ symbol (Ident) 29 36 ∷ symbol (Ident) 37 40 ∷ symbol (Ident) 40 41 ∷ symbol (Ident) 42 51 ∷ symbol (Ident) 52 53 ∷ symbol (Ident) 53 54 ∷ symbol (Ident) 54 55 ∷ symbol (Ident) 55 56 ∷ symbol (Ident) 57 58 ∷ symbol (Ident) 58 59 ∷ symbol (Ident) 59 60 ∷ symbol (Ident) 61 66 ∷ symbol (Ident) 67 68 ∷ symbol (Ident) 68 69 ∷ symbol (Ident) 69 70 ∷ symbol (Ident) 71 73 ∷ symbol (Int (pos 1)) 74 75 ∷ symbol (Ident) 76 79 ∷ symbol (Ident) 80 81 ∷ symbol (Ident) 81 82 ∷ symbol (Ident) 83 86 ∷ symbol (Ident) 87 88 ∷ symbol (Ident) 88 89 ∷ []) }; tree = record { module_word = 0; name = 1; semicolon = 0; imports = None; decls = (S.decls None (Some (record { type_word = 0; each = (record { name = (record { name = 4; star = None }); equal = 0; is = (S.Record 6 None (S.fields (record { first = (record { name = 7; star = None }); more = [] }) 0 (S.Named (record { name = 9; member = None }))) S.no_more_fields 0); semicolon = 0 } ∷ []) })) None (S.procedure 0 (record { name = 13; star = None }) (Some (record { left_paren = 0; sections = Some (record { first = (record { var_word = None; first = 15; more = []; colon = 0; open_array = None; of = (record { name = 17; member = None }) }); more = [] }); right_paren = 0; result = None })) 0 (S.decls None None None S.no_procedure) (Some (record { begin_word = 0; stats = (S.stats (S.AssignOrCall (record { name = 21; selectors = (S.selected (S.Field 0 23) S.no_selector) }) (Some (record { becomes = 0; value = (S.only (S.simple None (S.term (S.Int 25) S.no_factor) S.no_term)) }))) S.no_stat) })) None 26 27 0 S.no_procedure)); body = None; end_word = 0; end_name = 30; period = 0 } }

pub read_only_3 : checked (read_only_3_0 ∷ []) ≡ Fault 0 33 67
read_only_3 = refl

-- MODULE M; TYPE A = ARRAY 3 OF INTEGER; PROCEDURE P(a: A); BEGIN a[0] := 1 END P; END M.
abbrev read_only_4_0 : Parsed
read_only_4_0 = record { source = record { bytes = (77 ∷ 79 ∷ 68 ∷ 85 ∷ 76 ∷ 69 ∷ 32 ∷ 77 ∷ 59 ∷ 32 ∷ 84 ∷ 89 ∷ 80 ∷ 69 ∷ 32 ∷ 65 ∷ 32 ∷ 61 ∷ 32 ∷ 65 ∷ 82 ∷ 82 ∷ 65 ∷ 89 ∷ 32 ∷ 51 ∷ 32 ∷ 79 ∷ 70 ∷ 32 ∷ 73 ∷ 78 ∷ 84 ∷ 69 ∷ 71 ∷ 69 ∷ 82 ∷ 59 ∷ 32 ∷ 80 ∷ 82 ∷ 79 ∷ 67 ∷ 69 ∷ 68 ∷ 85 ∷ 82 ∷ 69 ∷ 32 ∷ 80 ∷ 40 ∷ 97 ∷ 58 ∷ 32 ∷ 65 ∷ 41 ∷ 59 ∷ 32 ∷ 66 ∷ 69 ∷ 71 ∷ 73 ∷ 78 ∷ 32 ∷ 97 ∷ 91 ∷ 48 ∷ 93 ∷ 32 ∷ 58 ∷ 61 ∷ 32 ∷ 49 ∷ 32 ∷ 69 ∷ 78 ∷ 68 ∷ 32 ∷ 80 ∷ 59 ∷ 32 ∷ 69 ∷ 78 ∷ 68 ∷ 32 ∷ 77 ∷ 46 ∷ []); symbols = (symbol (Ident) 0 6 ∷ symbol (Ident) 7 8 ∷ symbol (Ident) 8 9 ∷ symbol (Ident) 10 14 ∷ symbol (Ident) 15 16 ∷ symbol (Ident) 17 18 ∷ symbol (Ident) 19 24 ∷ symbol (Int (pos 3)) 25 26 ∷ symbol (Ident) 27 29 ∷ symbol (Ident) 30 37 ∷ symbol (Ident) 37 38 ∷ symbol (Ident) 39 48 ∷ symbol (Ident) 49 50 ∷ symbol (Ident) 50 51 ∷ symbol (Ident) 51 52 ∷ symbol (Ident) 52 53 ∷ symbol (Ident) 54 55 ∷ symbol (Ident) 55 56 ∷ symbol (Ident) 56 57 ∷ symbol (Ident) 58 63 ∷ symbol (Ident) 64 65 ∷ symbol (Ident) 65 66 ∷ symbol (Int (pos 0)) 66 67 ∷ symbol (Ident) 67 68 ∷ symbol (Ident) 69 71 ∷ symbol (Int (pos 1)) 72 73 ∷ symbol (Ident) 74 77 ∷ symbol (Ident) 78 79 ∷ symbol (Ident) 79 80 ∷ symbol (Ident) 81 84 ∷ symbol (Ident) 85 86 ∷ symbol (Ident) 86 87 ∷ []) }; tree = record { module_word = 0; name = 1; semicolon = 0; imports = None; decls = (S.decls None (Some (record { type_word = 0; each = (record { name = (record { name = 4; star = None }); equal = 0; is = (S.Array 6 (S.only (S.simple None (S.term (S.Int 7) S.no_factor) S.no_term)) S.no_expression 0 (S.Named (record { name = 9; member = None }))); semicolon = 0 } ∷ []) })) None (S.procedure 0 (record { name = 12; star = None }) (Some (record { left_paren = 0; sections = Some (record { first = (record { var_word = None; first = 14; more = []; colon = 0; open_array = None; of = (record { name = 16; member = None }) }); more = [] }); right_paren = 0; result = None })) 0 (S.decls None None None S.no_procedure) (Some (record { begin_word = 0; stats = (S.stats (S.AssignOrCall (record { name = 20; selectors = (S.selected (S.Index 0 (S.expressions (S.only (S.simple None (S.term (S.Int 22) S.no_factor) S.no_term)) S.no_expression) 0) S.no_selector) }) (Some (record { becomes = 0; value = (S.only (S.simple None (S.term (S.Int 25) S.no_factor) S.no_term)) }))) S.no_stat) })) None 26 27 0 S.no_procedure)); body = None; end_word = 0; end_name = 30; period = 0 } }

pub read_only_4 : checked (read_only_4_0 ∷ []) ≡ Fault 0 33 64
read_only_4 = refl

-- MODULE M; TYPE A = ARRAY 3 OF INTEGER; PROCEDURE P(a, b: A); BEGIN a := b END P; END M.
abbrev read_only_5_0 : Parsed
read_only_5_0 = record { source = record { bytes = (77 ∷ 79 ∷ 68 ∷ 85 ∷ 76 ∷ 69 ∷ 32 ∷ 77 ∷ 59 ∷ 32 ∷ 84 ∷ 89 ∷ 80 ∷ 69 ∷ 32 ∷ 65 ∷ 32 ∷ 61 ∷ 32 ∷ 65 ∷ 82 ∷ 82 ∷ 65 ∷ 89 ∷ 32 ∷ 51 ∷ 32 ∷ 79 ∷ 70 ∷ 32 ∷ 73 ∷ 78 ∷ 84 ∷ 69 ∷ 71 ∷ 69 ∷ 82 ∷ 59 ∷ 32 ∷ 80 ∷ 82 ∷ 79 ∷ 67 ∷ 69 ∷ 68 ∷ 85 ∷ 82 ∷ 69 ∷ 32 ∷ 80 ∷ 40 ∷ 97 ∷ 44 ∷ 32 ∷ 98 ∷ 58 ∷ 32 ∷ 65 ∷ 41 ∷ 59 ∷ 32 ∷ 66 ∷ 69 ∷ 71 ∷ 73 ∷ 78 ∷ 32 ∷ 97 ∷ 32 ∷ 58 ∷ 61 ∷ 32 ∷ 98 ∷ 32 ∷ 69 ∷ 78 ∷ 68 ∷ 32 ∷ 80 ∷ 59 ∷ 32 ∷ 69 ∷ 78 ∷ 68 ∷ 32 ∷ 77 ∷ 46 ∷ []); symbols = (symbol (Ident) 0 6 ∷ symbol (Ident) 7 8 ∷ symbol (Ident) 8 9 ∷ symbol (Ident) 10 14 ∷ symbol (Ident) 15 16 ∷ symbol (Ident) 17 18 ∷ symbol (Ident) 19 24 ∷ symbol (Int (pos 3)) 25 26 ∷ symbol (Ident) 27 29 ∷ symbol (Ident) 30 37 ∷ symbol (Ident) 37 38 ∷ symbol (Ident) 39 48 ∷ symbol (Ident) 49 50 ∷ symbol (Ident) 50 51 ∷ symbol (Ident) 51 52 ∷ symbol (Ident) 52 53 ∷ symbol (Ident) 54 55 ∷ symbol (Ident) 55 56 ∷ symbol (Ident) 57 58 ∷ symbol (Ident) 58 59 ∷ symbol (Ident) 59 60 ∷ symbol (Ident) 61 66 ∷ symbol (Ident) 67 68 ∷ symbol (Ident) 69 71 ∷ symbol (Ident) 72 73 ∷ symbol (Ident) 74 77 ∷ symbol (Ident) 78 79 ∷ symbol (Ident) 79 80 ∷ symbol (Ident) 81 84 ∷ symbol (Ident) 85 86 ∷ symbol (Ident) 86 87 ∷ []) }; tree = record { module_word = 0; name = 1; semicolon = 0; imports = None; decls = (S.decls None (Some (record { type_word = 0; each = (record { name = (record { name = 4; star = None }); equal = 0; is = (S.Array 6 (S.only (S.simple None (S.term (S.Int 7) S.no_factor) S.no_term)) S.no_expression 0 (S.Named (record { name = 9; member = None }))); semicolon = 0 } ∷ []) })) None (S.procedure 0 (record { name = 12; star = None }) (Some (record { left_paren = 0; sections = Some (record { first = (record { var_word = None; first = 14; more = (record { comma = 0; name = 16 } ∷ []); colon = 0; open_array = None; of = (record { name = 18; member = None }) }); more = [] }); right_paren = 0; result = None })) 0 (S.decls None None None S.no_procedure) (Some (record { begin_word = 0; stats = (S.stats (S.AssignOrCall (record { name = 22; selectors = S.no_selector }) (Some (record { becomes = 0; value = (S.only (S.simple None (S.term (S.Designated 24 S.no_selector) S.no_factor) S.no_term)) }))) S.no_stat) })) None 25 26 0 S.no_procedure)); body = None; end_word = 0; end_name = 29; period = 0 } }

pub read_only_5 : checked (read_only_5_0 ∷ []) ≡ Fault 0 33 67
read_only_5 = refl

-- MODULE M; PROCEDURE P(a: ARRAY OF INTEGER); BEGIN a[0] := TRUE END P; END M.
abbrev read_only_6_0 : Parsed
read_only_6_0 = record { source = record { bytes = (77 ∷ 79 ∷ 68 ∷ 85 ∷ 76 ∷ 69 ∷ 32 ∷ 77 ∷ 59 ∷ 32 ∷ 80 ∷ 82 ∷ 79 ∷ 67 ∷ 69 ∷ 68 ∷ 85 ∷ 82 ∷ 69 ∷ 32 ∷ 80 ∷ 40 ∷ 97 ∷ 58 ∷ 32 ∷ 65 ∷ 82 ∷ 82 ∷ 65 ∷ 89 ∷ 32 ∷ 79 ∷ 70 ∷ 32 ∷ 73 ∷ 78 ∷ 84 ∷ 69 ∷ 71 ∷ 69 ∷ 82 ∷ 41 ∷ 59 ∷ 32 ∷ 66 ∷ 69 ∷ 71 ∷ 73 ∷ 78 ∷ 32 ∷ 97 ∷ 91 ∷ 48 ∷ 93 ∷ 32 ∷ 58 ∷ 61 ∷ 32 ∷ 84 ∷ 82 ∷ 85 ∷ 69 ∷ 32 ∷ 69 ∷ 78 ∷ 68 ∷ 32 ∷ 80 ∷ 59 ∷ 32 ∷ 69 ∷ 78 ∷ 68 ∷ 32 ∷ 77 ∷ 46 ∷ []); symbols = (symbol (Ident) 0 6 ∷ symbol (Ident) 7 8 ∷ symbol (Ident) 8 9 ∷ symbol (Ident) 10 19 ∷ symbol (Ident) 20 21 ∷ symbol (Ident) 21 22 ∷ symbol (Ident) 22 23 ∷ symbol (Ident) 23 24 ∷ symbol (Ident) 25 30 ∷ symbol (Ident) 31 33 ∷ symbol (Ident) 34 41 ∷ symbol (Ident) 41 42 ∷ symbol (Ident) 42 43 ∷ symbol (Ident) 44 49 ∷ symbol (Ident) 50 51 ∷ symbol (Ident) 51 52 ∷ symbol (Int (pos 0)) 52 53 ∷ symbol (Ident) 53 54 ∷ symbol (Ident) 55 57 ∷ symbol (Ident) 58 62 ∷ symbol (Ident) 63 66 ∷ symbol (Ident) 67 68 ∷ symbol (Ident) 68 69 ∷ symbol (Ident) 70 73 ∷ symbol (Ident) 74 75 ∷ symbol (Ident) 75 76 ∷ []) }; tree = record { module_word = 0; name = 1; semicolon = 0; imports = None; decls = (S.decls None None None (S.procedure 0 (record { name = 4; star = None }) (Some (record { left_paren = 0; sections = Some (record { first = (record { var_word = None; first = 6; more = []; colon = 0; open_array = Some (record { array_word = 0; of_word = 0 }); of = (record { name = 10; member = None }) }); more = [] }); right_paren = 0; result = None })) 0 (S.decls None None None S.no_procedure) (Some (record { begin_word = 0; stats = (S.stats (S.AssignOrCall (record { name = 14; selectors = (S.selected (S.Index 0 (S.expressions (S.only (S.simple None (S.term (S.Int 16) S.no_factor) S.no_term)) S.no_expression) 0) S.no_selector) }) (Some (record { becomes = 0; value = (S.only (S.simple None (S.term (S.True 19) S.no_factor) S.no_term)) }))) S.no_stat) })) None 20 21 0 S.no_procedure)); body = None; end_word = 0; end_name = 24; period = 0 } }

pub read_only_6 : checked (read_only_6_0 ∷ []) ≡ Fault 0 33 50
read_only_6 = refl

-- MODULE M; PROCEDURE P(a: ARRAY OF INTEGER); BEGIN INC(a[0]) END P; END M.
abbrev read_only_7_0 : Parsed
read_only_7_0 = record { source = record { bytes = (77 ∷ 79 ∷ 68 ∷ 85 ∷ 76 ∷ 69 ∷ 32 ∷ 77 ∷ 59 ∷ 32 ∷ 80 ∷ 82 ∷ 79 ∷ 67 ∷ 69 ∷ 68 ∷ 85 ∷ 82 ∷ 69 ∷ 32 ∷ 80 ∷ 40 ∷ 97 ∷ 58 ∷ 32 ∷ 65 ∷ 82 ∷ 82 ∷ 65 ∷ 89 ∷ 32 ∷ 79 ∷ 70 ∷ 32 ∷ 73 ∷ 78 ∷ 84 ∷ 69 ∷ 71 ∷ 69 ∷ 82 ∷ 41 ∷ 59 ∷ 32 ∷ 66 ∷ 69 ∷ 71 ∷ 73 ∷ 78 ∷ 32 ∷ 73 ∷ 78 ∷ 67 ∷ 40 ∷ 97 ∷ 91 ∷ 48 ∷ 93 ∷ 41 ∷ 32 ∷ 69 ∷ 78 ∷ 68 ∷ 32 ∷ 80 ∷ 59 ∷ 32 ∷ 69 ∷ 78 ∷ 68 ∷ 32 ∷ 77 ∷ 46 ∷ []); symbols = (symbol (Ident) 0 6 ∷ symbol (Ident) 7 8 ∷ symbol (Ident) 8 9 ∷ symbol (Ident) 10 19 ∷ symbol (Ident) 20 21 ∷ symbol (Ident) 21 22 ∷ symbol (Ident) 22 23 ∷ symbol (Ident) 23 24 ∷ symbol (Ident) 25 30 ∷ symbol (Ident) 31 33 ∷ symbol (Ident) 34 41 ∷ symbol (Ident) 41 42 ∷ symbol (Ident) 42 43 ∷ symbol (Ident) 44 49 ∷ symbol (Ident) 50 53 ∷ symbol (Ident) 53 54 ∷ symbol (Ident) 54 55 ∷ symbol (Ident) 55 56 ∷ symbol (Int (pos 0)) 56 57 ∷ symbol (Ident) 57 58 ∷ symbol (Ident) 58 59 ∷ symbol (Ident) 60 63 ∷ symbol (Ident) 64 65 ∷ symbol (Ident) 65 66 ∷ symbol (Ident) 67 70 ∷ symbol (Ident) 71 72 ∷ symbol (Ident) 72 73 ∷ []) }; tree = record { module_word = 0; name = 1; semicolon = 0; imports = None; decls = (S.decls None None None (S.procedure 0 (record { name = 4; star = None }) (Some (record { left_paren = 0; sections = Some (record { first = (record { var_word = None; first = 6; more = []; colon = 0; open_array = Some (record { array_word = 0; of_word = 0 }); of = (record { name = 10; member = None }) }); more = [] }); right_paren = 0; result = None })) 0 (S.decls None None None S.no_procedure) (Some (record { begin_word = 0; stats = (S.stats (S.AssignOrCall (record { name = 14; selectors = (S.selected (S.Parens 0 (S.expressions (S.only (S.simple None (S.term (S.Designated 16 (S.selected (S.Index 0 (S.expressions (S.only (S.simple None (S.term (S.Int 18) S.no_factor) S.no_term)) S.no_expression) 0) S.no_selector)) S.no_factor) S.no_term)) S.no_expression) 0) S.no_selector) }) None) S.no_stat) })) None 21 22 0 S.no_procedure)); body = None; end_word = 0; end_name = 25; period = 0 } }

pub read_only_7 : checked (read_only_7_0 ∷ []) ≡ Fault 0 33 54
read_only_7 = refl

-- MODULE M; TYPE R = RECORD x: INTEGER END; PROCEDURE V(VAR r: R); END V; PROCEDURE P(r: R); BEGIN V(r) END P; END M.
abbrev read_only_8_0 : Parsed
read_only_8_0 = record { source = record { bytes = (77 ∷ 79 ∷ 68 ∷ 85 ∷ 76 ∷ 69 ∷ 32 ∷ 77 ∷ 59 ∷ 32 ∷ 84 ∷ 89 ∷ 80 ∷ 69 ∷ 32 ∷ 82 ∷ 32 ∷ 61 ∷ 32 ∷ 82 ∷ 69 ∷ 67 ∷ 79 ∷ 82 ∷ 68 ∷ 32 ∷ 120 ∷ 58 ∷ 32 ∷ 73 ∷ 78 ∷ 84 ∷ 69 ∷ 71 ∷ 69 ∷ 82 ∷ 32 ∷ 69 ∷ 78 ∷ 68 ∷ 59 ∷ 32 ∷ 80 ∷ 82 ∷ 79 ∷ 67 ∷ 69 ∷ 68 ∷ 85 ∷ 82 ∷ 69 ∷ 32 ∷ 86 ∷ 40 ∷ 86 ∷ 65 ∷ 82 ∷ 32 ∷ 114 ∷ 58 ∷ 32 ∷ 82 ∷ 41 ∷ 59 ∷ 32 ∷ 69 ∷ 78 ∷ 68 ∷ 32 ∷ 86 ∷ 59 ∷ 32 ∷ 80 ∷ 82 ∷ 79 ∷ 67 ∷ 69 ∷ 68 ∷ 85 ∷ 82 ∷ 69 ∷ 32 ∷ 80 ∷ 40 ∷ 114 ∷ 58 ∷ 32 ∷ 82 ∷ 41 ∷ 59 ∷ 32 ∷ 66 ∷ 69 ∷ 71 ∷ 73 ∷ 78 ∷ 32 ∷ 86 ∷ 40 ∷ 114 ∷ 41 ∷ 32 ∷ 69 ∷ 78 ∷ 68 ∷ 32 ∷ 80 ∷ 59 ∷ 32 ∷ 69 ∷ 78 ∷ 68 ∷ 32 ∷ 77 ∷ 46 ∷ []); symbols = (symbol (Ident) 0 6 ∷ symbol (Ident) 7 8 ∷ symbol (Ident) 8 9 ∷ symbol (Ident) 10 14 ∷ symbol (Ident) 15 16 ∷ symbol (Ident) 17 18 ∷ symbol (Ident) 19 25 ∷ symbol (Ident) 26 27 ∷ symbol (Ident) 27 28 ∷ symbol (Ident) 29 36 ∷ symbol (Ident) 37 40 ∷ symbol (Ident) 40 41 ∷ symbol (Ident) 42 51 ∷ symbol (Ident) 52 53 ∷ symbol (Ident) 53 54 ∷ symbol (Ident) 54 57 ∷ symbol (Ident) 58 59 ∷ symbol (Ident) 59 60 ∷ symbol (Ident) 61 62 ∷ symbol (Ident) 62 63 ∷ symbol (Ident) 63 64 ∷ symbol (Ident) 65 68 ∷ symbol (Ident) 69 70 ∷ symbol (Ident) 70 71 ∷ symbol (Ident) 72 81 ∷ symbol (Ident) 82 83 ∷ symbol (Ident) 83 84 ∷ symbol (Ident) 84 85 ∷ symbol (Ident) 85 86 ∷ symbol (Ident) 87 88 ∷ symbol (Ident) 88 89 ∷ symbol (Ident) 89 90 ∷ symbol (Ident) 91 96 ∷ symbol (Ident) 97 98 ∷ symbol (Ident) 98 99 ∷ symbol (Ident) 99 100 ∷ symbol (Ident) 100 101 ∷ symbol (Ident) 102 105 ∷ symbol (Ident) 106 107 ∷ symbol (Ident) 107 108 ∷ symbol (Ident) 109 112 ∷ symbol (Ident) 113 114 ∷ symbol (Ident) 114 115 ∷ []) }; tree = record { module_word = 0; name = 1; semicolon = 0; imports = None; decls = (S.decls None (Some (record { type_word = 0; each = (record { name = (record { name = 4; star = None }); equal = 0; is = (S.Record 6 None (S.fields (record { first = (record { name = 7; star = None }); more = [] }) 0 (S.Named (record { name = 9; member = None }))) S.no_more_fields 0); semicolon = 0 } ∷ []) })) None (S.procedure 0 (record { name = 13; star = None }) (Some (record { left_paren = 0; sections = Some (record { first = (record { var_word = Some 0; first = 16; more = []; colon = 0; open_array = None; of = (record { name = 18; member = None }) }); more = [] }); right_paren = 0; result = None })) 0 (S.decls None None None S.no_procedure) None None 21 22 0 (S.procedure 0 (record { name = 25; star = None }) (Some (record { left_paren = 0; sections = Some (record { first = (record { var_word = None; first = 27; more = []; colon = 0; open_array = None; of = (record { name = 29; member = None }) }); more = [] }); right_paren = 0; result = None })) 0 (S.decls None None None S.no_procedure) (Some (record { begin_word = 0; stats = (S.stats (S.AssignOrCall (record { name = 33; selectors = (S.selected (S.Parens 0 (S.expressions (S.only (S.simple None (S.term (S.Designated 35 S.no_selector) S.no_factor) S.no_term)) S.no_expression) 0) S.no_selector) }) None) S.no_stat) })) None 37 38 0 S.no_procedure))); body = None; end_word = 0; end_name = 41; period = 0 } }

pub read_only_8 : checked (read_only_8_0 ∷ []) ≡ Fault 0 33 99
read_only_8 = refl

-- MODULE M; TYPE R = RECORD p: POINTER TO RECORD x: INTEGER END END; PROCEDURE P(r: R); BEGIN r.p.x := 1; NEW(r.p) END P; END M.
abbrev read_only_9_0 : Parsed
read_only_9_0 = record { source = record { bytes = (77 ∷ 79 ∷ 68 ∷ 85 ∷ 76 ∷ 69 ∷ 32 ∷ 77 ∷ 59 ∷ 32 ∷ 84 ∷ 89 ∷ 80 ∷ 69 ∷ 32 ∷ 82 ∷ 32 ∷ 61 ∷ 32 ∷ 82 ∷ 69 ∷ 67 ∷ 79 ∷ 82 ∷ 68 ∷ 32 ∷ 112 ∷ 58 ∷ 32 ∷ 80 ∷ 79 ∷ 73 ∷ 78 ∷ 84 ∷ 69 ∷ 82 ∷ 32 ∷ 84 ∷ 79 ∷ 32 ∷ 82 ∷ 69 ∷ 67 ∷ 79 ∷ 82 ∷ 68 ∷ 32 ∷ 120 ∷ 58 ∷ 32 ∷ 73 ∷ 78 ∷ 84 ∷ 69 ∷ 71 ∷ 69 ∷ 82 ∷ 32 ∷ 69 ∷ 78 ∷ 68 ∷ 32 ∷ 69 ∷ 78 ∷ 68 ∷ 59 ∷ 32 ∷ 80 ∷ 82 ∷ 79 ∷ 67 ∷ 69 ∷ 68 ∷ 85 ∷ 82 ∷ 69 ∷ 32 ∷ 80 ∷ 40 ∷ 114 ∷ 58 ∷ 32 ∷ 82 ∷ 41 ∷ 59 ∷ 32 ∷ 66 ∷ 69 ∷ 71 ∷ 73 ∷ 78 ∷ 32 ∷ 114 ∷ 46 ∷ 112 ∷ 46 ∷ 120 ∷ 32 ∷ 58 ∷ 61 ∷ 32 ∷ 49 ∷ 59 ∷ 32 ∷ 78 ∷ 69 ∷ 87 ∷ 40 ∷ 114 ∷ 46 ∷ 112 ∷ 41 ∷ 32 ∷ 69 ∷ 78 ∷ 68 ∷ 32 ∷ 80 ∷ 59 ∷ 32 ∷ 69 ∷ 78 ∷ 68 ∷ 32 ∷ 77 ∷ 46 ∷ []); symbols = (symbol (Ident) 0 6 ∷ symbol (Ident) 7 8 ∷ symbol (Ident) 8 9 ∷ symbol (Ident) 10 14 ∷ symbol (Ident) 15 16 ∷ symbol (Ident) 17 18 ∷ symbol (Ident) 19 25 ∷ symbol (Ident) 26 27 ∷ symbol (Ident) 27 28 ∷ symbol (Ident) 29 36 ∷ symbol (Ident) 37 39 ∷ symbol (Ident) 40 46 ∷ symbol (Ident) 47 48 ∷ symbol (Ident) 48 49 ∷ symbol (Ident) 50 57 ∷ symbol (Ident) 58 61 ∷ symbol (Ident) 62 65 ∷ symbol (Ident) 65 66 ∷ symbol (Ident) 67 76 ∷ symbol (Ident) 77 78 ∷ symbol (Ident) 78 79 ∷ symbol (Ident) 79 80 ∷ symbol (Ident) 80 81 ∷ symbol (Ident) 82 83 ∷ symbol (Ident) 83 84 ∷ symbol (Ident) 84 85 ∷ symbol (Ident) 86 91 ∷ symbol (Ident) 92 93 ∷ symbol (Ident) 93 94 ∷ symbol (Ident) 94 95 ∷ symbol (Ident) 95 96 ∷ symbol (Ident) 96 97 ∷ symbol (Ident) 98 100 ∷ symbol (Int (pos 1)) 101 102 ∷ symbol (Ident) 102 103 ∷ symbol (Ident) 104 107 ∷ symbol (Ident) 107 108 ∷ symbol (Ident) 108 109 ∷ symbol (Ident) 109 110 ∷ symbol (Ident) 110 111 ∷ symbol (Ident) 111 112 ∷ symbol (Ident) 113 116 ∷ symbol (Ident) 117 118 ∷ symbol (Ident) 118 119 ∷ symbol (Ident) 120 123 ∷ symbol (Ident) 124 125 ∷ symbol (Ident) 125 126 ∷ []) }; tree = record { module_word = 0; name = 1; semicolon = 0; imports = None; decls = (S.decls None (Some (record { type_word = 0; each = (record { name = (record { name = 4; star = None }); equal = 0; is = (S.Record 6 None (S.fields (record { first = (record { name = 7; star = None }); more = [] }) 0 (S.Pointer 9 0 (S.Record 11 None (S.fields (record { first = (record { name = 12; star = None }); more = [] }) 0 (S.Named (record { name = 14; member = None }))) S.no_more_fields 0))) S.no_more_fields 0); semicolon = 0 } ∷ []) })) None (S.procedure 0 (record { name = 19; star = None }) (Some (record { left_paren = 0; sections = Some (record { first = (record { var_word = None; first = 21; more = []; colon = 0; open_array = None; of = (record { name = 23; member = None }) }); more = [] }); right_paren = 0; result = None })) 0 (S.decls None None None S.no_procedure) (Some (record { begin_word = 0; stats = (S.stats (S.AssignOrCall (record { name = 27; selectors = (S.selected (S.Field 0 29) (S.selected (S.Field 0 31) S.no_selector)) }) (Some (record { becomes = 0; value = (S.only (S.simple None (S.term (S.Int 33) S.no_factor) S.no_term)) }))) (S.next_stat 0 (S.AssignOrCall (record { name = 35; selectors = (S.selected (S.Parens 0 (S.expressions (S.only (S.simple None (S.term (S.Designated 37 (S.selected (S.Field 0 39) S.no_selector)) S.no_factor) S.no_term)) S.no_expression) 0) S.no_selector) }) None) S.no_stat)) })) None 41 42 0 S.no_procedure)); body = None; end_word = 0; end_name = 45; period = 0 } }

pub read_only_9 : checked (read_only_9_0 ∷ []) ≡ Fault 0 33 108
read_only_9 = refl

-- MODULE M; TYPE R = RECORD a: ARRAY 3 OF SET END; PROCEDURE P(r: R); BEGIN INCL(r.a[1], 2) END P; END M.
abbrev read_only_10_0 : Parsed
read_only_10_0 = record { source = record { bytes = (77 ∷ 79 ∷ 68 ∷ 85 ∷ 76 ∷ 69 ∷ 32 ∷ 77 ∷ 59 ∷ 32 ∷ 84 ∷ 89 ∷ 80 ∷ 69 ∷ 32 ∷ 82 ∷ 32 ∷ 61 ∷ 32 ∷ 82 ∷ 69 ∷ 67 ∷ 79 ∷ 82 ∷ 68 ∷ 32 ∷ 97 ∷ 58 ∷ 32 ∷ 65 ∷ 82 ∷ 82 ∷ 65 ∷ 89 ∷ 32 ∷ 51 ∷ 32 ∷ 79 ∷ 70 ∷ 32 ∷ 83 ∷ 69 ∷ 84 ∷ 32 ∷ 69 ∷ 78 ∷ 68 ∷ 59 ∷ 32 ∷ 80 ∷ 82 ∷ 79 ∷ 67 ∷ 69 ∷ 68 ∷ 85 ∷ 82 ∷ 69 ∷ 32 ∷ 80 ∷ 40 ∷ 114 ∷ 58 ∷ 32 ∷ 82 ∷ 41 ∷ 59 ∷ 32 ∷ 66 ∷ 69 ∷ 71 ∷ 73 ∷ 78 ∷ 32 ∷ 73 ∷ 78 ∷ 67 ∷ 76 ∷ 40 ∷ 114 ∷ 46 ∷ 97 ∷ 91 ∷ 49 ∷ 93 ∷ 44 ∷ 32 ∷ 50 ∷ 41 ∷ 32 ∷ 69 ∷ 78 ∷ 68 ∷ 32 ∷ 80 ∷ 59 ∷ 32 ∷ 69 ∷ 78 ∷ 68 ∷ 32 ∷ 77 ∷ 46 ∷ []); symbols = (symbol (Ident) 0 6 ∷ symbol (Ident) 7 8 ∷ symbol (Ident) 8 9 ∷ symbol (Ident) 10 14 ∷ symbol (Ident) 15 16 ∷ symbol (Ident) 17 18 ∷ symbol (Ident) 19 25 ∷ symbol (Ident) 26 27 ∷ symbol (Ident) 27 28 ∷ symbol (Ident) 29 34 ∷ symbol (Int (pos 3)) 35 36 ∷ symbol (Ident) 37 39 ∷ symbol (Ident) 40 43 ∷ symbol (Ident) 44 47 ∷ symbol (Ident) 47 48 ∷ symbol (Ident) 49 58 ∷ symbol (Ident) 59 60 ∷ symbol (Ident) 60 61 ∷ symbol (Ident) 61 62 ∷ symbol (Ident) 62 63 ∷ symbol (Ident) 64 65 ∷ symbol (Ident) 65 66 ∷ symbol (Ident) 66 67 ∷ symbol (Ident) 68 73 ∷ symbol (Ident) 74 78 ∷ symbol (Ident) 78 79 ∷ symbol (Ident) 79 80 ∷ symbol (Ident) 80 81 ∷ symbol (Ident) 81 82 ∷ symbol (Ident) 82 83 ∷ symbol (Int (pos 1)) 83 84 ∷ symbol (Ident) 84 85 ∷ symbol (Ident) 85 86 ∷ symbol (Int (pos 2)) 87 88 ∷ symbol (Ident) 88 89 ∷ symbol (Ident) 90 93 ∷ symbol (Ident) 94 95 ∷ symbol (Ident) 95 96 ∷ symbol (Ident) 97 100 ∷ symbol (Ident) 101 102 ∷ symbol (Ident) 102 103 ∷ []) }; tree = record { module_word = 0; name = 1; semicolon = 0; imports = None; decls = (S.decls None (Some (record { type_word = 0; each = (record { name = (record { name = 4; star = None }); equal = 0; is = (S.Record 6 None (S.fields (record { first = (record { name = 7; star = None }); more = [] }) 0 (S.Array 9 (S.only (S.simple None (S.term (S.Int 10) S.no_factor) S.no_term)) S.no_expression 0 (S.Named (record { name = 12; member = None })))) S.no_more_fields 0); semicolon = 0 } ∷ []) })) None (S.procedure 0 (record { name = 16; star = None }) (Some (record { left_paren = 0; sections = Some (record { first = (record { var_word = None; first = 18; more = []; colon = 0; open_array = None; of = (record { name = 20; member = None }) }); more = [] }); right_paren = 0; result = None })) 0 (S.decls None None None S.no_procedure) (Some (record { begin_word = 0; stats = (S.stats (S.AssignOrCall (record { name = 24; selectors = (S.selected (S.Parens 0 (S.expressions (S.only (S.simple None (S.term (S.Designated 26 (S.selected (S.Field 0 28) (S.selected (S.Index 0 (S.expressions (S.only (S.simple None (S.term (S.Int 30) S.no_factor) S.no_term)) S.no_expression) 0) S.no_selector))) S.no_factor) S.no_term)) (S.next_expression 0 (S.only (S.simple None (S.term (S.Int 33) S.no_factor) S.no_term)) S.no_expression)) 0) S.no_selector) }) None) S.no_stat) })) None 35 36 0 S.no_procedure)); body = None; end_word = 0; end_name = 39; period = 0 } }

pub read_only_10 : checked (read_only_10_0 ∷ []) ≡ Fault 0 33 79
read_only_10 = refl

-- MODULE M; TYPE R = RECORD c: CHAR END; PROCEDURE V(VAR c: INTEGER); END V; PROCEDURE P(r: R); BEGIN V(r.c) END P; END M.
abbrev read_only_11_0 : Parsed
read_only_11_0 = record { source = record { bytes = (77 ∷ 79 ∷ 68 ∷ 85 ∷ 76 ∷ 69 ∷ 32 ∷ 77 ∷ 59 ∷ 32 ∷ 84 ∷ 89 ∷ 80 ∷ 69 ∷ 32 ∷ 82 ∷ 32 ∷ 61 ∷ 32 ∷ 82 ∷ 69 ∷ 67 ∷ 79 ∷ 82 ∷ 68 ∷ 32 ∷ 99 ∷ 58 ∷ 32 ∷ 67 ∷ 72 ∷ 65 ∷ 82 ∷ 32 ∷ 69 ∷ 78 ∷ 68 ∷ 59 ∷ 32 ∷ 80 ∷ 82 ∷ 79 ∷ 67 ∷ 69 ∷ 68 ∷ 85 ∷ 82 ∷ 69 ∷ 32 ∷ 86 ∷ 40 ∷ 86 ∷ 65 ∷ 82 ∷ 32 ∷ 99 ∷ 58 ∷ 32 ∷ 73 ∷ 78 ∷ 84 ∷ 69 ∷ 71 ∷ 69 ∷ 82 ∷ 41 ∷ 59 ∷ 32 ∷ 69 ∷ 78 ∷ 68 ∷ 32 ∷ 86 ∷ 59 ∷ 32 ∷ 80 ∷ 82 ∷ 79 ∷ 67 ∷ 69 ∷ 68 ∷ 85 ∷ 82 ∷ 69 ∷ 32 ∷ 80 ∷ 40 ∷ 114 ∷ 58 ∷ 32 ∷ 82 ∷ 41 ∷ 59 ∷ 32 ∷ 66 ∷ 69 ∷ 71 ∷ 73 ∷ 78 ∷ 32 ∷ 86 ∷ 40 ∷ 114 ∷ 46 ∷ 99 ∷ 41 ∷ 32 ∷ 69 ∷ 78 ∷ 68 ∷ 32 ∷ 80 ∷ 59 ∷ 32 ∷ 69 ∷ 78 ∷ 68 ∷ 32 ∷ 77 ∷ 46 ∷ []); symbols = (symbol (Ident) 0 6 ∷ symbol (Ident) 7 8 ∷ symbol (Ident) 8 9 ∷ symbol (Ident) 10 14 ∷ symbol (Ident) 15 16 ∷ symbol (Ident) 17 18 ∷ symbol (Ident) 19 25 ∷ symbol (Ident) 26 27 ∷ symbol (Ident) 27 28 ∷ symbol (Ident) 29 33 ∷ symbol (Ident) 34 37 ∷ symbol (Ident) 37 38 ∷ symbol (Ident) 39 48 ∷ symbol (Ident) 49 50 ∷ symbol (Ident) 50 51 ∷ symbol (Ident) 51 54 ∷ symbol (Ident) 55 56 ∷ symbol (Ident) 56 57 ∷ symbol (Ident) 58 65 ∷ symbol (Ident) 65 66 ∷ symbol (Ident) 66 67 ∷ symbol (Ident) 68 71 ∷ symbol (Ident) 72 73 ∷ symbol (Ident) 73 74 ∷ symbol (Ident) 75 84 ∷ symbol (Ident) 85 86 ∷ symbol (Ident) 86 87 ∷ symbol (Ident) 87 88 ∷ symbol (Ident) 88 89 ∷ symbol (Ident) 90 91 ∷ symbol (Ident) 91 92 ∷ symbol (Ident) 92 93 ∷ symbol (Ident) 94 99 ∷ symbol (Ident) 100 101 ∷ symbol (Ident) 101 102 ∷ symbol (Ident) 102 103 ∷ symbol (Ident) 103 104 ∷ symbol (Ident) 104 105 ∷ symbol (Ident) 105 106 ∷ symbol (Ident) 107 110 ∷ symbol (Ident) 111 112 ∷ symbol (Ident) 112 113 ∷ symbol (Ident) 114 117 ∷ symbol (Ident) 118 119 ∷ symbol (Ident) 119 120 ∷ []) }; tree = record { module_word = 0; name = 1; semicolon = 0; imports = None; decls = (S.decls None (Some (record { type_word = 0; each = (record { name = (record { name = 4; star = None }); equal = 0; is = (S.Record 6 None (S.fields (record { first = (record { name = 7; star = None }); more = [] }) 0 (S.Named (record { name = 9; member = None }))) S.no_more_fields 0); semicolon = 0 } ∷ []) })) None (S.procedure 0 (record { name = 13; star = None }) (Some (record { left_paren = 0; sections = Some (record { first = (record { var_word = Some 0; first = 16; more = []; colon = 0; open_array = None; of = (record { name = 18; member = None }) }); more = [] }); right_paren = 0; result = None })) 0 (S.decls None None None S.no_procedure) None None 21 22 0 (S.procedure 0 (record { name = 25; star = None }) (Some (record { left_paren = 0; sections = Some (record { first = (record { var_word = None; first = 27; more = []; colon = 0; open_array = None; of = (record { name = 29; member = None }) }); more = [] }); right_paren = 0; result = None })) 0 (S.decls None None None S.no_procedure) (Some (record { begin_word = 0; stats = (S.stats (S.AssignOrCall (record { name = 33; selectors = (S.selected (S.Parens 0 (S.expressions (S.only (S.simple None (S.term (S.Designated 35 (S.selected (S.Field 0 37) S.no_selector)) S.no_factor) S.no_term)) S.no_expression) 0) S.no_selector) }) None) S.no_stat) })) None 39 40 0 S.no_procedure))); body = None; end_word = 0; end_name = 43; period = 0 } }

pub read_only_11 : checked (read_only_11_0 ∷ []) ≡ Fault 0 33 102
read_only_11 = refl

-- MODULE M; TYPE R = RECORD x: INTEGER END; PROCEDURE P(r: R); BEGIN r.x := TRUE END P; END M.
abbrev read_only_12_0 : Parsed
read_only_12_0 = record { source = record { bytes = (77 ∷ 79 ∷ 68 ∷ 85 ∷ 76 ∷ 69 ∷ 32 ∷ 77 ∷ 59 ∷ 32 ∷ 84 ∷ 89 ∷ 80 ∷ 69 ∷ 32 ∷ 82 ∷ 32 ∷ 61 ∷ 32 ∷ 82 ∷ 69 ∷ 67 ∷ 79 ∷ 82 ∷ 68 ∷ 32 ∷ 120 ∷ 58 ∷ 32 ∷ 73 ∷ 78 ∷ 84 ∷ 69 ∷ 71 ∷ 69 ∷ 82 ∷ 32 ∷ 69 ∷ 78 ∷ 68 ∷ 59 ∷ 32 ∷ 80 ∷ 82 ∷ 79 ∷ 67 ∷ 69 ∷ 68 ∷ 85 ∷ 82 ∷ 69 ∷ 32 ∷ 80 ∷ 40 ∷ 114 ∷ 58 ∷ 32 ∷ 82 ∷ 41 ∷ 59 ∷ 32 ∷ 66 ∷ 69 ∷ 71 ∷ 73 ∷ 78 ∷ 32 ∷ 114 ∷ 46 ∷ 120 ∷ 32 ∷ 58 ∷ 61 ∷ 32 ∷ 84 ∷ 82 ∷ 85 ∷ 69 ∷ 32 ∷ 69 ∷ 78 ∷ 68 ∷ 32 ∷ 80 ∷ 59 ∷ 32 ∷ 69 ∷ 78 ∷ 68 ∷ 32 ∷ 77 ∷ 46 ∷ []); symbols = (symbol (Ident) 0 6 ∷ symbol (Ident) 7 8 ∷ symbol (Ident) 8 9 ∷ symbol (Ident) 10 14 ∷ symbol (Ident) 15 16 ∷ symbol (Ident) 17 18 ∷ symbol (Ident) 19 25 ∷ symbol (Ident) 26 27 ∷ symbol (Ident) 27 28 ∷ symbol (Ident) 29 36 ∷ symbol (Ident) 37 40 ∷ symbol (Ident) 40 41 ∷ symbol (Ident) 42 51 ∷ symbol (Ident) 52 53 ∷ symbol (Ident) 53 54 ∷ symbol (Ident) 54 55 ∷ symbol (Ident) 55 56 ∷ symbol (Ident) 57 58 ∷ symbol (Ident) 58 59 ∷ symbol (Ident) 59 60 ∷ symbol (Ident) 61 66 ∷ symbol (Ident) 67 68 ∷ symbol (Ident) 68 69 ∷ symbol (Ident) 69 70 ∷ symbol (Ident) 71 73 ∷ symbol (Ident) 74 78 ∷ symbol (Ident) 79 82 ∷ symbol (Ident) 83 84 ∷ symbol (Ident) 84 85 ∷ symbol (Ident) 86 89 ∷ symbol (Ident) 90 91 ∷ symbol (Ident) 91 92 ∷ []) }; tree = record { module_word = 0; name = 1; semicolon = 0; imports = None; decls = (S.decls None (Some (record { type_word = 0; each = (record { name = (record { name = 4; star = None }); equal = 0; is = (S.Record 6 None (S.fields (record { first = (record { name = 7; star = None }); more = [] }) 0 (S.Named (record { name = 9; member = None }))) S.no_more_fields 0); semicolon = 0 } ∷ []) })) None (S.procedure 0 (record { name = 13; star = None }) (Some (record { left_paren = 0; sections = Some (record { first = (record { var_word = None; first = 15; more = []; colon = 0; open_array = None; of = (record { name = 17; member = None }) }); more = [] }); right_paren = 0; result = None })) 0 (S.decls None None None S.no_procedure) (Some (record { begin_word = 0; stats = (S.stats (S.AssignOrCall (record { name = 21; selectors = (S.selected (S.Field 0 23) S.no_selector) }) (Some (record { becomes = 0; value = (S.only (S.simple None (S.term (S.True 25) S.no_factor) S.no_term)) }))) S.no_stat) })) None 26 27 0 S.no_procedure)); body = None; end_word = 0; end_name = 30; period = 0 } }

pub read_only_12 : checked (read_only_12_0 ∷ []) ≡ Fault 0 33 67
read_only_12 = refl

-- MODULE A; CONST c* = 3; d = 4; TYPE R* = RECORD x*: INTEGER; h: INTEGER END; P* = POINTER TO R; H = RECORD END; VAR v*: INTEGER; r*: R; p*: P; a*: ARRAY 2 OF INTEGER; w: INTEGER; f*: PROCEDURE; PROCEDURE N*; END N; PROCEDURE L; END L; END A.
abbrev read_only_13_0 : Parsed
read_only_13_0 = record { source = record { bytes = (77 ∷ 79 ∷ 68 ∷ 85 ∷ 76 ∷ 69 ∷ 32 ∷ 65 ∷ 59 ∷ 32 ∷ 67 ∷ 79 ∷ 78 ∷ 83 ∷ 84 ∷ 32 ∷ 99 ∷ 42 ∷ 32 ∷ 61 ∷ 32 ∷ 51 ∷ 59 ∷ 32 ∷ 100 ∷ 32 ∷ 61 ∷ 32 ∷ 52 ∷ 59 ∷ 32 ∷ 84 ∷ 89 ∷ 80 ∷ 69 ∷ 32 ∷ 82 ∷ 42 ∷ 32 ∷ 61 ∷ 32 ∷ 82 ∷ 69 ∷ 67 ∷ 79 ∷ 82 ∷ 68 ∷ 32 ∷ 120 ∷ 42 ∷ 58 ∷ 32 ∷ 73 ∷ 78 ∷ 84 ∷ 69 ∷ 71 ∷ 69 ∷ 82 ∷ 59 ∷ 32 ∷ 104 ∷ 58 ∷ 32 ∷ 73 ∷ 78 ∷ 84 ∷ 69 ∷ 71 ∷ 69 ∷ 82 ∷ 32 ∷ 69 ∷ 78 ∷ 68 ∷ 59 ∷ 32 ∷ 80 ∷ 42 ∷ 32 ∷ 61 ∷ 32 ∷ 80 ∷ 79 ∷ 73 ∷ 78 ∷ 84 ∷ 69 ∷ 82 ∷ 32 ∷ 84 ∷ 79 ∷ 32 ∷ 82 ∷ 59 ∷ 32 ∷ 72 ∷ 32 ∷ 61 ∷ 32 ∷ 82 ∷ 69 ∷ 67 ∷ 79 ∷ 82 ∷ 68 ∷ 32 ∷ 69 ∷ 78 ∷ 68 ∷ 59 ∷ 32 ∷ 86 ∷ 65 ∷ 82 ∷ 32 ∷ 118 ∷ 42 ∷ 58 ∷ 32 ∷ 73 ∷ 78 ∷ 84 ∷ 69 ∷ 71 ∷ 69 ∷ 82 ∷ 59 ∷ 32 ∷ 114 ∷ 42 ∷ 58 ∷ 32 ∷ 82 ∷ 59 ∷ 32 ∷ 112 ∷ 42 ∷ 58 ∷ 32 ∷ 80 ∷ 59 ∷ 32 ∷ 97 ∷ 42 ∷ 58 ∷ 32 ∷ 65 ∷ 82 ∷ 82 ∷ 65 ∷ 89 ∷ 32 ∷ 50 ∷ 32 ∷ 79 ∷ 70 ∷ 32 ∷ 73 ∷ 78 ∷ 84 ∷ 69 ∷ 71 ∷ 69 ∷ 82 ∷ 59 ∷ 32 ∷ 119 ∷ 58 ∷ 32 ∷ 73 ∷ 78 ∷ 84 ∷ 69 ∷ 71 ∷ 69 ∷ 82 ∷ 59 ∷ 32 ∷ 102 ∷ 42 ∷ 58 ∷ 32 ∷ 80 ∷ 82 ∷ 79 ∷ 67 ∷ 69 ∷ 68 ∷ 85 ∷ 82 ∷ 69 ∷ 59 ∷ 32 ∷ 80 ∷ 82 ∷ 79 ∷ 67 ∷ 69 ∷ 68 ∷ 85 ∷ 82 ∷ 69 ∷ 32 ∷ 78 ∷ 42 ∷ 59 ∷ 32 ∷ 69 ∷ 78 ∷ 68 ∷ 32 ∷ 78 ∷ 59 ∷ 32 ∷ 80 ∷ 82 ∷ 79 ∷ 67 ∷ 69 ∷ 68 ∷ 85 ∷ 82 ∷ 69 ∷ 32 ∷ 76 ∷ 59 ∷ 32 ∷ 69 ∷ 78 ∷ 68 ∷ 32 ∷ 76 ∷ 59 ∷ 32 ∷ 69 ∷ 78 ∷ 68 ∷ 32 ∷ 65 ∷ 46 ∷ 10 ∷ []); symbols = (symbol (Ident) 0 6 ∷ symbol (Ident) 7 8 ∷ symbol (Ident) 8 9 ∷ symbol (Ident) 10 15 ∷ symbol (Ident) 16 17 ∷ symbol (Ident) 17 18 ∷ symbol (Ident) 19 20 ∷ symbol (Int (pos 3)) 21 22 ∷ symbol (Ident) 22 23 ∷ symbol (Ident) 24 25 ∷ symbol (Ident) 26 27 ∷ symbol (Int (pos 4)) 28 29 ∷ symbol (Ident) 29 30 ∷ symbol (Ident) 31 35 ∷ symbol (Ident) 36 37 ∷ symbol (Ident) 37 38 ∷ symbol (Ident) 39 40 ∷ symbol (Ident) 41 47 ∷ symbol (Ident) 48 49 ∷ symbol (Ident) 49 50 ∷ symbol (Ident) 50 51 ∷ symbol (Ident) 52 59 ∷ symbol (Ident) 59 60 ∷ symbol (Ident) 61 62 ∷ symbol (Ident) 62 63 ∷ symbol (Ident) 64 71 ∷ symbol (Ident) 72 75 ∷ symbol (Ident) 75 76 ∷ symbol (Ident) 77 78 ∷ symbol (Ident) 78 79 ∷ symbol (Ident) 80 81 ∷ symbol (Ident) 82 89 ∷ symbol (Ident) 90 92 ∷ symbol (Ident) 93 94 ∷ symbol (Ident) 94 95 ∷ symbol (Ident) 96 97 ∷ symbol (Ident) 98 99 ∷ symbol (Ident) 100 106 ∷ symbol (Ident) 107 110 ∷ symbol (Ident) 110 111 ∷ symbol (Ident) 112 115 ∷ symbol (Ident) 116 117 ∷ symbol (Ident) 117 118 ∷ symbol (Ident) 118 119 ∷ symbol (Ident) 120 127 ∷ symbol (Ident) 127 128 ∷ symbol (Ident) 129 130 ∷ symbol (Ident) 130 131 ∷ symbol (Ident) 131 132 ∷ symbol (Ident) 133 134 ∷ symbol (Ident) 134 135 ∷ symbol (Ident) 136 137 ∷ symbol (Ident) 137 138 ∷ symbol (Ident) 138 139 ∷ symbol (Ident) 140 141 ∷ symbol (Ident) 141 142 ∷ symbol (Ident) 143 144 ∷ symbol (Ident) 144 145 ∷ symbol (Ident) 145 146 ∷ symbol (Ident) 147 152 ∷ symbol (Int (pos 2)) 153 154 ∷ symbol (Ident) 155 157 ∷ symbol (Ident) 158 165 ∷ symbol (Ident) 165 166 ∷ symbol (Ident) 167 168 ∷ symbol (Ident) 168 169 ∷ symbol (Ident) 170 177 ∷ symbol (Ident) 177 178 ∷ symbol (Ident) 179 180 ∷ symbol (Ident) 180 181 ∷ symbol (Ident) 181 182 ∷ symbol (Ident) 183 192 ∷ symbol (Ident) 192 193 ∷ symbol (Ident) 194 203 ∷ symbol (Ident) 204 205 ∷ symbol (Ident) 205 206 ∷ symbol (Ident) 206 207 ∷ symbol (Ident) 208 211 ∷ symbol (Ident) 212 213 ∷ symbol (Ident) 213 214 ∷ symbol (Ident) 215 224 ∷ symbol (Ident) 225 226 ∷ symbol (Ident) 226 227 ∷ symbol (Ident) 228 231 ∷ symbol (Ident) 232 233 ∷ symbol (Ident) 233 234 ∷ symbol (Ident) 235 238 ∷ symbol (Ident) 239 240 ∷ symbol (Ident) 240 241 ∷ []) }; tree = record { module_word = 0; name = 1; semicolon = 0; imports = None; decls = (S.decls (Some (record { const_word = 0; each = (record { name = (record { name = 4; star = Some 0 }); equal = 0; value = (S.only (S.simple None (S.term (S.Int 7) S.no_factor) S.no_term)); semicolon = 0 } ∷ record { name = (record { name = 9; star = None }); equal = 0; value = (S.only (S.simple None (S.term (S.Int 11) S.no_factor) S.no_term)); semicolon = 0 } ∷ []) })) (Some (record { type_word = 0; each = (record { name = (record { name = 14; star = Some 0 }); equal = 0; is = (S.Record 17 None (S.fields (record { first = (record { name = 18; star = Some 0 }); more = [] }) 0 (S.Named (record { name = 21; member = None }))) (S.next_fields 0 (S.fields (record { first = (record { name = 23; star = None }); more = [] }) 0 (S.Named (record { name = 25; member = None }))) S.no_more_fields) 0); semicolon = 0 } ∷ record { name = (record { name = 28; star = Some 0 }); equal = 0; is = (S.Pointer 31 0 (S.Named (record { name = 33; member = None }))); semicolon = 0 } ∷ record { name = (record { name = 35; star = None }); equal = 0; is = (S.Record 37 None S.no_fields S.no_more_fields 0); semicolon = 0 } ∷ []) })) (Some (record { var_word = 0; each = (record { names = (record { first = (record { name = 41; star = Some 0 }); more = [] }); colon = 0; of = (S.Named (record { name = 44; member = None })); semicolon = 0 } ∷ record { names = (record { first = (record { name = 46; star = Some 0 }); more = [] }); colon = 0; of = (S.Named (record { name = 49; member = None })); semicolon = 0 } ∷ record { names = (record { first = (record { name = 51; star = Some 0 }); more = [] }); colon = 0; of = (S.Named (record { name = 54; member = None })); semicolon = 0 } ∷ record { names = (record { first = (record { name = 56; star = Some 0 }); more = [] }); colon = 0; of = (S.Array 59 (S.only (S.simple None (S.term (S.Int 60) S.no_factor) S.no_term)) S.no_expression 0 (S.Named (record { name = 62; member = None }))); semicolon = 0 } ∷ record { names = (record { first = (record { name = 64; star = None }); more = [] }); colon = 0; of = (S.Named (record { name = 66; member = None })); semicolon = 0 } ∷ record { names = (record { first = (record { name = 68; star = Some 0 }); more = [] }); colon = 0; of = (S.Procedure 71 None); semicolon = 0 } ∷ []) })) (S.procedure 0 (record { name = 74; star = Some 0 }) None 0 (S.decls None None None S.no_procedure) None None 77 78 0 (S.procedure 0 (record { name = 81; star = None }) None 0 (S.decls None None None S.no_procedure) None None 83 84 0 S.no_procedure))); body = None; end_word = 0; end_name = 87; period = 0 } }

-- MODULE M; IMPORT A; BEGIN A.v := 1 END M.
abbrev read_only_13_1 : Parsed
read_only_13_1 = record { source = record { bytes = (77 ∷ 79 ∷ 68 ∷ 85 ∷ 76 ∷ 69 ∷ 32 ∷ 77 ∷ 59 ∷ 32 ∷ 73 ∷ 77 ∷ 80 ∷ 79 ∷ 82 ∷ 84 ∷ 32 ∷ 65 ∷ 59 ∷ 32 ∷ 66 ∷ 69 ∷ 71 ∷ 73 ∷ 78 ∷ 32 ∷ 65 ∷ 46 ∷ 118 ∷ 32 ∷ 58 ∷ 61 ∷ 32 ∷ 49 ∷ 32 ∷ 69 ∷ 78 ∷ 68 ∷ 32 ∷ 77 ∷ 46 ∷ []); symbols = (symbol (Ident) 0 6 ∷ symbol (Ident) 7 8 ∷ symbol (Ident) 8 9 ∷ symbol (Ident) 10 16 ∷ symbol (Ident) 17 18 ∷ symbol (Ident) 18 19 ∷ symbol (Ident) 20 25 ∷ symbol (Ident) 26 27 ∷ symbol (Ident) 27 28 ∷ symbol (Ident) 28 29 ∷ symbol (Ident) 30 32 ∷ symbol (Int (pos 1)) 33 34 ∷ symbol (Ident) 35 38 ∷ symbol (Ident) 39 40 ∷ symbol (Ident) 40 41 ∷ []) }; tree = record { module_word = 0; name = 1; semicolon = 0; imports = Some (record { import_word = 0; first = (record { name = 4; of = None }); more = []; semicolon = 0 }); decls = (S.decls None None None S.no_procedure); body = (Some (record { begin_word = 0; stats = (S.stats (S.AssignOrCall (record { name = 7; selectors = (S.selected (S.Field 0 9) S.no_selector) }) (Some (record { becomes = 0; value = (S.only (S.simple None (S.term (S.Int 11) S.no_factor) S.no_term)) }))) S.no_stat) })); end_word = 0; end_name = 13; period = 0 } }

pub read_only_13 : checked (read_only_13_0 ∷ read_only_13_1 ∷ []) ≡ Fault 1 33 26
read_only_13 = refl

-- MODULE A; CONST c* = 3; d = 4; TYPE R* = RECORD x*: INTEGER; h: INTEGER END; P* = POINTER TO R; H = RECORD END; VAR v*: INTEGER; r*: R; p*: P; a*: ARRAY 2 OF INTEGER; w: INTEGER; f*: PROCEDURE; PROCEDURE N*; END N; PROCEDURE L; END L; END A.
abbrev read_only_14_0 : Parsed
read_only_14_0 = record { source = record { bytes = (77 ∷ 79 ∷ 68 ∷ 85 ∷ 76 ∷ 69 ∷ 32 ∷ 65 ∷ 59 ∷ 32 ∷ 67 ∷ 79 ∷ 78 ∷ 83 ∷ 84 ∷ 32 ∷ 99 ∷ 42 ∷ 32 ∷ 61 ∷ 32 ∷ 51 ∷ 59 ∷ 32 ∷ 100 ∷ 32 ∷ 61 ∷ 32 ∷ 52 ∷ 59 ∷ 32 ∷ 84 ∷ 89 ∷ 80 ∷ 69 ∷ 32 ∷ 82 ∷ 42 ∷ 32 ∷ 61 ∷ 32 ∷ 82 ∷ 69 ∷ 67 ∷ 79 ∷ 82 ∷ 68 ∷ 32 ∷ 120 ∷ 42 ∷ 58 ∷ 32 ∷ 73 ∷ 78 ∷ 84 ∷ 69 ∷ 71 ∷ 69 ∷ 82 ∷ 59 ∷ 32 ∷ 104 ∷ 58 ∷ 32 ∷ 73 ∷ 78 ∷ 84 ∷ 69 ∷ 71 ∷ 69 ∷ 82 ∷ 32 ∷ 69 ∷ 78 ∷ 68 ∷ 59 ∷ 32 ∷ 80 ∷ 42 ∷ 32 ∷ 61 ∷ 32 ∷ 80 ∷ 79 ∷ 73 ∷ 78 ∷ 84 ∷ 69 ∷ 82 ∷ 32 ∷ 84 ∷ 79 ∷ 32 ∷ 82 ∷ 59 ∷ 32 ∷ 72 ∷ 32 ∷ 61 ∷ 32 ∷ 82 ∷ 69 ∷ 67 ∷ 79 ∷ 82 ∷ 68 ∷ 32 ∷ 69 ∷ 78 ∷ 68 ∷ 59 ∷ 32 ∷ 86 ∷ 65 ∷ 82 ∷ 32 ∷ 118 ∷ 42 ∷ 58 ∷ 32 ∷ 73 ∷ 78 ∷ 84 ∷ 69 ∷ 71 ∷ 69 ∷ 82 ∷ 59 ∷ 32 ∷ 114 ∷ 42 ∷ 58 ∷ 32 ∷ 82 ∷ 59 ∷ 32 ∷ 112 ∷ 42 ∷ 58 ∷ 32 ∷ 80 ∷ 59 ∷ 32 ∷ 97 ∷ 42 ∷ 58 ∷ 32 ∷ 65 ∷ 82 ∷ 82 ∷ 65 ∷ 89 ∷ 32 ∷ 50 ∷ 32 ∷ 79 ∷ 70 ∷ 32 ∷ 73 ∷ 78 ∷ 84 ∷ 69 ∷ 71 ∷ 69 ∷ 82 ∷ 59 ∷ 32 ∷ 119 ∷ 58 ∷ 32 ∷ 73 ∷ 78 ∷ 84 ∷ 69 ∷ 71 ∷ 69 ∷ 82 ∷ 59 ∷ 32 ∷ 102 ∷ 42 ∷ 58 ∷ 32 ∷ 80 ∷ 82 ∷ 79 ∷ 67 ∷ 69 ∷ 68 ∷ 85 ∷ 82 ∷ 69 ∷ 59 ∷ 32 ∷ 80 ∷ 82 ∷ 79 ∷ 67 ∷ 69 ∷ 68 ∷ 85 ∷ 82 ∷ 69 ∷ 32 ∷ 78 ∷ 42 ∷ 59 ∷ 32 ∷ 69 ∷ 78 ∷ 68 ∷ 32 ∷ 78 ∷ 59 ∷ 32 ∷ 80 ∷ 82 ∷ 79 ∷ 67 ∷ 69 ∷ 68 ∷ 85 ∷ 82 ∷ 69 ∷ 32 ∷ 76 ∷ 59 ∷ 32 ∷ 69 ∷ 78 ∷ 68 ∷ 32 ∷ 76 ∷ 59 ∷ 32 ∷ 69 ∷ 78 ∷ 68 ∷ 32 ∷ 65 ∷ 46 ∷ 10 ∷ []); symbols = (symbol (Ident) 0 6 ∷ symbol (Ident) 7 8 ∷ symbol (Ident) 8 9 ∷ symbol (Ident) 10 15 ∷ symbol (Ident) 16 17 ∷ symbol (Ident) 17 18 ∷ symbol (Ident) 19 20 ∷ symbol (Int (pos 3)) 21 22 ∷ symbol (Ident) 22 23 ∷ symbol (Ident) 24 25 ∷ symbol (Ident) 26 27 ∷ symbol (Int (pos 4)) 28 29 ∷ symbol (Ident) 29 30 ∷ symbol (Ident) 31 35 ∷ symbol (Ident) 36 37 ∷ symbol (Ident) 37 38 ∷ symbol (Ident) 39 40 ∷ symbol (Ident) 41 47 ∷ symbol (Ident) 48 49 ∷ symbol (Ident) 49 50 ∷ symbol (Ident) 50 51 ∷ symbol (Ident) 52 59 ∷ symbol (Ident) 59 60 ∷ symbol (Ident) 61 62 ∷ symbol (Ident) 62 63 ∷ symbol (Ident) 64 71 ∷ symbol (Ident) 72 75 ∷ symbol (Ident) 75 76 ∷ symbol (Ident) 77 78 ∷ symbol (Ident) 78 79 ∷ symbol (Ident) 80 81 ∷ symbol (Ident) 82 89 ∷ symbol (Ident) 90 92 ∷ symbol (Ident) 93 94 ∷ symbol (Ident) 94 95 ∷ symbol (Ident) 96 97 ∷ symbol (Ident) 98 99 ∷ symbol (Ident) 100 106 ∷ symbol (Ident) 107 110 ∷ symbol (Ident) 110 111 ∷ symbol (Ident) 112 115 ∷ symbol (Ident) 116 117 ∷ symbol (Ident) 117 118 ∷ symbol (Ident) 118 119 ∷ symbol (Ident) 120 127 ∷ symbol (Ident) 127 128 ∷ symbol (Ident) 129 130 ∷ symbol (Ident) 130 131 ∷ symbol (Ident) 131 132 ∷ symbol (Ident) 133 134 ∷ symbol (Ident) 134 135 ∷ symbol (Ident) 136 137 ∷ symbol (Ident) 137 138 ∷ symbol (Ident) 138 139 ∷ symbol (Ident) 140 141 ∷ symbol (Ident) 141 142 ∷ symbol (Ident) 143 144 ∷ symbol (Ident) 144 145 ∷ symbol (Ident) 145 146 ∷ symbol (Ident) 147 152 ∷ symbol (Int (pos 2)) 153 154 ∷ symbol (Ident) 155 157 ∷ symbol (Ident) 158 165 ∷ symbol (Ident) 165 166 ∷ symbol (Ident) 167 168 ∷ symbol (Ident) 168 169 ∷ symbol (Ident) 170 177 ∷ symbol (Ident) 177 178 ∷ symbol (Ident) 179 180 ∷ symbol (Ident) 180 181 ∷ symbol (Ident) 181 182 ∷ symbol (Ident) 183 192 ∷ symbol (Ident) 192 193 ∷ symbol (Ident) 194 203 ∷ symbol (Ident) 204 205 ∷ symbol (Ident) 205 206 ∷ symbol (Ident) 206 207 ∷ symbol (Ident) 208 211 ∷ symbol (Ident) 212 213 ∷ symbol (Ident) 213 214 ∷ symbol (Ident) 215 224 ∷ symbol (Ident) 225 226 ∷ symbol (Ident) 226 227 ∷ symbol (Ident) 228 231 ∷ symbol (Ident) 232 233 ∷ symbol (Ident) 233 234 ∷ symbol (Ident) 235 238 ∷ symbol (Ident) 239 240 ∷ symbol (Ident) 240 241 ∷ []) }; tree = record { module_word = 0; name = 1; semicolon = 0; imports = None; decls = (S.decls (Some (record { const_word = 0; each = (record { name = (record { name = 4; star = Some 0 }); equal = 0; value = (S.only (S.simple None (S.term (S.Int 7) S.no_factor) S.no_term)); semicolon = 0 } ∷ record { name = (record { name = 9; star = None }); equal = 0; value = (S.only (S.simple None (S.term (S.Int 11) S.no_factor) S.no_term)); semicolon = 0 } ∷ []) })) (Some (record { type_word = 0; each = (record { name = (record { name = 14; star = Some 0 }); equal = 0; is = (S.Record 17 None (S.fields (record { first = (record { name = 18; star = Some 0 }); more = [] }) 0 (S.Named (record { name = 21; member = None }))) (S.next_fields 0 (S.fields (record { first = (record { name = 23; star = None }); more = [] }) 0 (S.Named (record { name = 25; member = None }))) S.no_more_fields) 0); semicolon = 0 } ∷ record { name = (record { name = 28; star = Some 0 }); equal = 0; is = (S.Pointer 31 0 (S.Named (record { name = 33; member = None }))); semicolon = 0 } ∷ record { name = (record { name = 35; star = None }); equal = 0; is = (S.Record 37 None S.no_fields S.no_more_fields 0); semicolon = 0 } ∷ []) })) (Some (record { var_word = 0; each = (record { names = (record { first = (record { name = 41; star = Some 0 }); more = [] }); colon = 0; of = (S.Named (record { name = 44; member = None })); semicolon = 0 } ∷ record { names = (record { first = (record { name = 46; star = Some 0 }); more = [] }); colon = 0; of = (S.Named (record { name = 49; member = None })); semicolon = 0 } ∷ record { names = (record { first = (record { name = 51; star = Some 0 }); more = [] }); colon = 0; of = (S.Named (record { name = 54; member = None })); semicolon = 0 } ∷ record { names = (record { first = (record { name = 56; star = Some 0 }); more = [] }); colon = 0; of = (S.Array 59 (S.only (S.simple None (S.term (S.Int 60) S.no_factor) S.no_term)) S.no_expression 0 (S.Named (record { name = 62; member = None }))); semicolon = 0 } ∷ record { names = (record { first = (record { name = 64; star = None }); more = [] }); colon = 0; of = (S.Named (record { name = 66; member = None })); semicolon = 0 } ∷ record { names = (record { first = (record { name = 68; star = Some 0 }); more = [] }); colon = 0; of = (S.Procedure 71 None); semicolon = 0 } ∷ []) })) (S.procedure 0 (record { name = 74; star = Some 0 }) None 0 (S.decls None None None S.no_procedure) None None 77 78 0 (S.procedure 0 (record { name = 81; star = None }) None 0 (S.decls None None None S.no_procedure) None None 83 84 0 S.no_procedure))); body = None; end_word = 0; end_name = 87; period = 0 } }

-- MODULE M; IMPORT A; BEGIN A.r.x := 1 END M.
abbrev read_only_14_1 : Parsed
read_only_14_1 = record { source = record { bytes = (77 ∷ 79 ∷ 68 ∷ 85 ∷ 76 ∷ 69 ∷ 32 ∷ 77 ∷ 59 ∷ 32 ∷ 73 ∷ 77 ∷ 80 ∷ 79 ∷ 82 ∷ 84 ∷ 32 ∷ 65 ∷ 59 ∷ 32 ∷ 66 ∷ 69 ∷ 71 ∷ 73 ∷ 78 ∷ 32 ∷ 65 ∷ 46 ∷ 114 ∷ 46 ∷ 120 ∷ 32 ∷ 58 ∷ 61 ∷ 32 ∷ 49 ∷ 32 ∷ 69 ∷ 78 ∷ 68 ∷ 32 ∷ 77 ∷ 46 ∷ []); symbols = (symbol (Ident) 0 6 ∷ symbol (Ident) 7 8 ∷ symbol (Ident) 8 9 ∷ symbol (Ident) 10 16 ∷ symbol (Ident) 17 18 ∷ symbol (Ident) 18 19 ∷ symbol (Ident) 20 25 ∷ symbol (Ident) 26 27 ∷ symbol (Ident) 27 28 ∷ symbol (Ident) 28 29 ∷ symbol (Ident) 29 30 ∷ symbol (Ident) 30 31 ∷ symbol (Ident) 32 34 ∷ symbol (Int (pos 1)) 35 36 ∷ symbol (Ident) 37 40 ∷ symbol (Ident) 41 42 ∷ symbol (Ident) 42 43 ∷ []) }; tree = record { module_word = 0; name = 1; semicolon = 0; imports = Some (record { import_word = 0; first = (record { name = 4; of = None }); more = []; semicolon = 0 }); decls = (S.decls None None None S.no_procedure); body = (Some (record { begin_word = 0; stats = (S.stats (S.AssignOrCall (record { name = 7; selectors = (S.selected (S.Field 0 9) (S.selected (S.Field 0 11) S.no_selector)) }) (Some (record { becomes = 0; value = (S.only (S.simple None (S.term (S.Int 13) S.no_factor) S.no_term)) }))) S.no_stat) })); end_word = 0; end_name = 15; period = 0 } }

pub read_only_14 : checked (read_only_14_0 ∷ read_only_14_1 ∷ []) ≡ Fault 1 33 26
read_only_14 = refl

-- MODULE A; CONST c* = 3; d = 4; TYPE R* = RECORD x*: INTEGER; h: INTEGER END; P* = POINTER TO R; H = RECORD END; VAR v*: INTEGER; r*: R; p*: P; a*: ARRAY 2 OF INTEGER; w: INTEGER; f*: PROCEDURE; PROCEDURE N*; END N; PROCEDURE L; END L; END A.
abbrev read_only_15_0 : Parsed
read_only_15_0 = record { source = record { bytes = (77 ∷ 79 ∷ 68 ∷ 85 ∷ 76 ∷ 69 ∷ 32 ∷ 65 ∷ 59 ∷ 32 ∷ 67 ∷ 79 ∷ 78 ∷ 83 ∷ 84 ∷ 32 ∷ 99 ∷ 42 ∷ 32 ∷ 61 ∷ 32 ∷ 51 ∷ 59 ∷ 32 ∷ 100 ∷ 32 ∷ 61 ∷ 32 ∷ 52 ∷ 59 ∷ 32 ∷ 84 ∷ 89 ∷ 80 ∷ 69 ∷ 32 ∷ 82 ∷ 42 ∷ 32 ∷ 61 ∷ 32 ∷ 82 ∷ 69 ∷ 67 ∷ 79 ∷ 82 ∷ 68 ∷ 32 ∷ 120 ∷ 42 ∷ 58 ∷ 32 ∷ 73 ∷ 78 ∷ 84 ∷ 69 ∷ 71 ∷ 69 ∷ 82 ∷ 59 ∷ 32 ∷ 104 ∷ 58 ∷ 32 ∷ 73 ∷ 78 ∷ 84 ∷ 69 ∷ 71 ∷ 69 ∷ 82 ∷ 32 ∷ 69 ∷ 78 ∷ 68 ∷ 59 ∷ 32 ∷ 80 ∷ 42 ∷ 32 ∷ 61 ∷ 32 ∷ 80 ∷ 79 ∷ 73 ∷ 78 ∷ 84 ∷ 69 ∷ 82 ∷ 32 ∷ 84 ∷ 79 ∷ 32 ∷ 82 ∷ 59 ∷ 32 ∷ 72 ∷ 32 ∷ 61 ∷ 32 ∷ 82 ∷ 69 ∷ 67 ∷ 79 ∷ 82 ∷ 68 ∷ 32 ∷ 69 ∷ 78 ∷ 68 ∷ 59 ∷ 32 ∷ 86 ∷ 65 ∷ 82 ∷ 32 ∷ 118 ∷ 42 ∷ 58 ∷ 32 ∷ 73 ∷ 78 ∷ 84 ∷ 69 ∷ 71 ∷ 69 ∷ 82 ∷ 59 ∷ 32 ∷ 114 ∷ 42 ∷ 58 ∷ 32 ∷ 82 ∷ 59 ∷ 32 ∷ 112 ∷ 42 ∷ 58 ∷ 32 ∷ 80 ∷ 59 ∷ 32 ∷ 97 ∷ 42 ∷ 58 ∷ 32 ∷ 65 ∷ 82 ∷ 82 ∷ 65 ∷ 89 ∷ 32 ∷ 50 ∷ 32 ∷ 79 ∷ 70 ∷ 32 ∷ 73 ∷ 78 ∷ 84 ∷ 69 ∷ 71 ∷ 69 ∷ 82 ∷ 59 ∷ 32 ∷ 119 ∷ 58 ∷ 32 ∷ 73 ∷ 78 ∷ 84 ∷ 69 ∷ 71 ∷ 69 ∷ 82 ∷ 59 ∷ 32 ∷ 102 ∷ 42 ∷ 58 ∷ 32 ∷ 80 ∷ 82 ∷ 79 ∷ 67 ∷ 69 ∷ 68 ∷ 85 ∷ 82 ∷ 69 ∷ 59 ∷ 32 ∷ 80 ∷ 82 ∷ 79 ∷ 67 ∷ 69 ∷ 68 ∷ 85 ∷ 82 ∷ 69 ∷ 32 ∷ 78 ∷ 42 ∷ 59 ∷ 32 ∷ 69 ∷ 78 ∷ 68 ∷ 32 ∷ 78 ∷ 59 ∷ 32 ∷ 80 ∷ 82 ∷ 79 ∷ 67 ∷ 69 ∷ 68 ∷ 85 ∷ 82 ∷ 69 ∷ 32 ∷ 76 ∷ 59 ∷ 32 ∷ 69 ∷ 78 ∷ 68 ∷ 32 ∷ 76 ∷ 59 ∷ 32 ∷ 69 ∷ 78 ∷ 68 ∷ 32 ∷ 65 ∷ 46 ∷ 10 ∷ []); symbols = (symbol (Ident) 0 6 ∷ symbol (Ident) 7 8 ∷ symbol (Ident) 8 9 ∷ symbol (Ident) 10 15 ∷ symbol (Ident) 16 17 ∷ symbol (Ident) 17 18 ∷ symbol (Ident) 19 20 ∷ symbol (Int (pos 3)) 21 22 ∷ symbol (Ident) 22 23 ∷ symbol (Ident) 24 25 ∷ symbol (Ident) 26 27 ∷ symbol (Int (pos 4)) 28 29 ∷ symbol (Ident) 29 30 ∷ symbol (Ident) 31 35 ∷ symbol (Ident) 36 37 ∷ symbol (Ident) 37 38 ∷ symbol (Ident) 39 40 ∷ symbol (Ident) 41 47 ∷ symbol (Ident) 48 49 ∷ symbol (Ident) 49 50 ∷ symbol (Ident) 50 51 ∷ symbol (Ident) 52 59 ∷ symbol (Ident) 59 60 ∷ symbol (Ident) 61 62 ∷ symbol (Ident) 62 63 ∷ symbol (Ident) 64 71 ∷ symbol (Ident) 72 75 ∷ symbol (Ident) 75 76 ∷ symbol (Ident) 77 78 ∷ symbol (Ident) 78 79 ∷ symbol (Ident) 80 81 ∷ symbol (Ident) 82 89 ∷ symbol (Ident) 90 92 ∷ symbol (Ident) 93 94 ∷ symbol (Ident) 94 95 ∷ symbol (Ident) 96 97 ∷ symbol (Ident) 98 99 ∷ symbol (Ident) 100 106 ∷ symbol (Ident) 107 110 ∷ symbol (Ident) 110 111 ∷ symbol (Ident) 112 115 ∷ symbol (Ident) 116 117 ∷ symbol (Ident) 117 118 ∷ symbol (Ident) 118 119 ∷ symbol (Ident) 120 127 ∷ symbol (Ident) 127 128 ∷ symbol (Ident) 129 130 ∷ symbol (Ident) 130 131 ∷ symbol (Ident) 131 132 ∷ symbol (Ident) 133 134 ∷ symbol (Ident) 134 135 ∷ symbol (Ident) 136 137 ∷ symbol (Ident) 137 138 ∷ symbol (Ident) 138 139 ∷ symbol (Ident) 140 141 ∷ symbol (Ident) 141 142 ∷ symbol (Ident) 143 144 ∷ symbol (Ident) 144 145 ∷ symbol (Ident) 145 146 ∷ symbol (Ident) 147 152 ∷ symbol (Int (pos 2)) 153 154 ∷ symbol (Ident) 155 157 ∷ symbol (Ident) 158 165 ∷ symbol (Ident) 165 166 ∷ symbol (Ident) 167 168 ∷ symbol (Ident) 168 169 ∷ symbol (Ident) 170 177 ∷ symbol (Ident) 177 178 ∷ symbol (Ident) 179 180 ∷ symbol (Ident) 180 181 ∷ symbol (Ident) 181 182 ∷ symbol (Ident) 183 192 ∷ symbol (Ident) 192 193 ∷ symbol (Ident) 194 203 ∷ symbol (Ident) 204 205 ∷ symbol (Ident) 205 206 ∷ symbol (Ident) 206 207 ∷ symbol (Ident) 208 211 ∷ symbol (Ident) 212 213 ∷ symbol (Ident) 213 214 ∷ symbol (Ident) 215 224 ∷ symbol (Ident) 225 226 ∷ symbol (Ident) 226 227 ∷ symbol (Ident) 228 231 ∷ symbol (Ident) 232 233 ∷ symbol (Ident) 233 234 ∷ symbol (Ident) 235 238 ∷ symbol (Ident) 239 240 ∷ symbol (Ident) 240 241 ∷ []) }; tree = record { module_word = 0; name = 1; semicolon = 0; imports = None; decls = (S.decls (Some (record { const_word = 0; each = (record { name = (record { name = 4; star = Some 0 }); equal = 0; value = (S.only (S.simple None (S.term (S.Int 7) S.no_factor) S.no_term)); semicolon = 0 } ∷ record { name = (record { name = 9; star = None }); equal = 0; value = (S.only (S.simple None (S.term (S.Int 11) S.no_factor) S.no_term)); semicolon = 0 } ∷ []) })) (Some (record { type_word = 0; each = (record { name = (record { name = 14; star = Some 0 }); equal = 0; is = (S.Record 17 None (S.fields (record { first = (record { name = 18; star = Some 0 }); more = [] }) 0 (S.Named (record { name = 21; member = None }))) (S.next_fields 0 (S.fields (record { first = (record { name = 23; star = None }); more = [] }) 0 (S.Named (record { name = 25; member = None }))) S.no_more_fields) 0); semicolon = 0 } ∷ record { name = (record { name = 28; star = Some 0 }); equal = 0; is = (S.Pointer 31 0 (S.Named (record { name = 33; member = None }))); semicolon = 0 } ∷ record { name = (record { name = 35; star = None }); equal = 0; is = (S.Record 37 None S.no_fields S.no_more_fields 0); semicolon = 0 } ∷ []) })) (Some (record { var_word = 0; each = (record { names = (record { first = (record { name = 41; star = Some 0 }); more = [] }); colon = 0; of = (S.Named (record { name = 44; member = None })); semicolon = 0 } ∷ record { names = (record { first = (record { name = 46; star = Some 0 }); more = [] }); colon = 0; of = (S.Named (record { name = 49; member = None })); semicolon = 0 } ∷ record { names = (record { first = (record { name = 51; star = Some 0 }); more = [] }); colon = 0; of = (S.Named (record { name = 54; member = None })); semicolon = 0 } ∷ record { names = (record { first = (record { name = 56; star = Some 0 }); more = [] }); colon = 0; of = (S.Array 59 (S.only (S.simple None (S.term (S.Int 60) S.no_factor) S.no_term)) S.no_expression 0 (S.Named (record { name = 62; member = None }))); semicolon = 0 } ∷ record { names = (record { first = (record { name = 64; star = None }); more = [] }); colon = 0; of = (S.Named (record { name = 66; member = None })); semicolon = 0 } ∷ record { names = (record { first = (record { name = 68; star = Some 0 }); more = [] }); colon = 0; of = (S.Procedure 71 None); semicolon = 0 } ∷ []) })) (S.procedure 0 (record { name = 74; star = Some 0 }) None 0 (S.decls None None None S.no_procedure) None None 77 78 0 (S.procedure 0 (record { name = 81; star = None }) None 0 (S.decls None None None S.no_procedure) None None 83 84 0 S.no_procedure))); body = None; end_word = 0; end_name = 87; period = 0 } }

-- MODULE M; IMPORT A; BEGIN A.a[0] := 1 END M.
abbrev read_only_15_1 : Parsed
read_only_15_1 = record { source = record { bytes = (77 ∷ 79 ∷ 68 ∷ 85 ∷ 76 ∷ 69 ∷ 32 ∷ 77 ∷ 59 ∷ 32 ∷ 73 ∷ 77 ∷ 80 ∷ 79 ∷ 82 ∷ 84 ∷ 32 ∷ 65 ∷ 59 ∷ 32 ∷ 66 ∷ 69 ∷ 71 ∷ 73 ∷ 78 ∷ 32 ∷ 65 ∷ 46 ∷ 97 ∷ 91 ∷ 48 ∷ 93 ∷ 32 ∷ 58 ∷ 61 ∷ 32 ∷ 49 ∷ 32 ∷ 69 ∷ 78 ∷ 68 ∷ 32 ∷ 77 ∷ 46 ∷ []); symbols = (symbol (Ident) 0 6 ∷ symbol (Ident) 7 8 ∷ symbol (Ident) 8 9 ∷ symbol (Ident) 10 16 ∷ symbol (Ident) 17 18 ∷ symbol (Ident) 18 19 ∷ symbol (Ident) 20 25 ∷ symbol (Ident) 26 27 ∷ symbol (Ident) 27 28 ∷ symbol (Ident) 28 29 ∷ symbol (Ident) 29 30 ∷ symbol (Int (pos 0)) 30 31 ∷ symbol (Ident) 31 32 ∷ symbol (Ident) 33 35 ∷ symbol (Int (pos 1)) 36 37 ∷ symbol (Ident) 38 41 ∷ symbol (Ident) 42 43 ∷ symbol (Ident) 43 44 ∷ []) }; tree = record { module_word = 0; name = 1; semicolon = 0; imports = Some (record { import_word = 0; first = (record { name = 4; of = None }); more = []; semicolon = 0 }); decls = (S.decls None None None S.no_procedure); body = (Some (record { begin_word = 0; stats = (S.stats (S.AssignOrCall (record { name = 7; selectors = (S.selected (S.Field 0 9) (S.selected (S.Index 0 (S.expressions (S.only (S.simple None (S.term (S.Int 11) S.no_factor) S.no_term)) S.no_expression) 0) S.no_selector)) }) (Some (record { becomes = 0; value = (S.only (S.simple None (S.term (S.Int 14) S.no_factor) S.no_term)) }))) S.no_stat) })); end_word = 0; end_name = 16; period = 0 } }

pub read_only_15 : checked (read_only_15_0 ∷ read_only_15_1 ∷ []) ≡ Fault 1 33 26
read_only_15 = refl

-- MODULE A; CONST c* = 3; d = 4; TYPE R* = RECORD x*: INTEGER; h: INTEGER END; P* = POINTER TO R; H = RECORD END; VAR v*: INTEGER; r*: R; p*: P; a*: ARRAY 2 OF INTEGER; w: INTEGER; f*: PROCEDURE; PROCEDURE N*; END N; PROCEDURE L; END L; END A.
abbrev read_only_16_0 : Parsed
read_only_16_0 = record { source = record { bytes = (77 ∷ 79 ∷ 68 ∷ 85 ∷ 76 ∷ 69 ∷ 32 ∷ 65 ∷ 59 ∷ 32 ∷ 67 ∷ 79 ∷ 78 ∷ 83 ∷ 84 ∷ 32 ∷ 99 ∷ 42 ∷ 32 ∷ 61 ∷ 32 ∷ 51 ∷ 59 ∷ 32 ∷ 100 ∷ 32 ∷ 61 ∷ 32 ∷ 52 ∷ 59 ∷ 32 ∷ 84 ∷ 89 ∷ 80 ∷ 69 ∷ 32 ∷ 82 ∷ 42 ∷ 32 ∷ 61 ∷ 32 ∷ 82 ∷ 69 ∷ 67 ∷ 79 ∷ 82 ∷ 68 ∷ 32 ∷ 120 ∷ 42 ∷ 58 ∷ 32 ∷ 73 ∷ 78 ∷ 84 ∷ 69 ∷ 71 ∷ 69 ∷ 82 ∷ 59 ∷ 32 ∷ 104 ∷ 58 ∷ 32 ∷ 73 ∷ 78 ∷ 84 ∷ 69 ∷ 71 ∷ 69 ∷ 82 ∷ 32 ∷ 69 ∷ 78 ∷ 68 ∷ 59 ∷ 32 ∷ 80 ∷ 42 ∷ 32 ∷ 61 ∷ 32 ∷ 80 ∷ 79 ∷ 73 ∷ 78 ∷ 84 ∷ 69 ∷ 82 ∷ 32 ∷ 84 ∷ 79 ∷ 32 ∷ 82 ∷ 59 ∷ 32 ∷ 72 ∷ 32 ∷ 61 ∷ 32 ∷ 82 ∷ 69 ∷ 67 ∷ 79 ∷ 82 ∷ 68 ∷ 32 ∷ 69 ∷ 78 ∷ 68 ∷ 59 ∷ 32 ∷ 86 ∷ 65 ∷ 82 ∷ 32 ∷ 118 ∷ 42 ∷ 58 ∷ 32 ∷ 73 ∷ 78 ∷ 84 ∷ 69 ∷ 71 ∷ 69 ∷ 82 ∷ 59 ∷ 32 ∷ 114 ∷ 42 ∷ 58 ∷ 32 ∷ 82 ∷ 59 ∷ 32 ∷ 112 ∷ 42 ∷ 58 ∷ 32 ∷ 80 ∷ 59 ∷ 32 ∷ 97 ∷ 42 ∷ 58 ∷ 32 ∷ 65 ∷ 82 ∷ 82 ∷ 65 ∷ 89 ∷ 32 ∷ 50 ∷ 32 ∷ 79 ∷ 70 ∷ 32 ∷ 73 ∷ 78 ∷ 84 ∷ 69 ∷ 71 ∷ 69 ∷ 82 ∷ 59 ∷ 32 ∷ 119 ∷ 58 ∷ 32 ∷ 73 ∷ 78 ∷ 84 ∷ 69 ∷ 71 ∷ 69 ∷ 82 ∷ 59 ∷ 32 ∷ 102 ∷ 42 ∷ 58 ∷ 32 ∷ 80 ∷ 82 ∷ 79 ∷ 67 ∷ 69 ∷ 68 ∷ 85 ∷ 82 ∷ 69 ∷ 59 ∷ 32 ∷ 80 ∷ 82 ∷ 79 ∷ 67 ∷ 69 ∷ 68 ∷ 85 ∷ 82 ∷ 69 ∷ 32 ∷ 78 ∷ 42 ∷ 59 ∷ 32 ∷ 69 ∷ 78 ∷ 68 ∷ 32 ∷ 78 ∷ 59 ∷ 32 ∷ 80 ∷ 82 ∷ 79 ∷ 67 ∷ 69 ∷ 68 ∷ 85 ∷ 82 ∷ 69 ∷ 32 ∷ 76 ∷ 59 ∷ 32 ∷ 69 ∷ 78 ∷ 68 ∷ 32 ∷ 76 ∷ 59 ∷ 32 ∷ 69 ∷ 78 ∷ 68 ∷ 32 ∷ 65 ∷ 46 ∷ 10 ∷ []); symbols = (symbol (Ident) 0 6 ∷ symbol (Ident) 7 8 ∷ symbol (Ident) 8 9 ∷ symbol (Ident) 10 15 ∷ symbol (Ident) 16 17 ∷ symbol (Ident) 17 18 ∷ symbol (Ident) 19 20 ∷ symbol (Int (pos 3)) 21 22 ∷ symbol (Ident) 22 23 ∷ symbol (Ident) 24 25 ∷ symbol (Ident) 26 27 ∷ symbol (Int (pos 4)) 28 29 ∷ symbol (Ident) 29 30 ∷ symbol (Ident) 31 35 ∷ symbol (Ident) 36 37 ∷ symbol (Ident) 37 38 ∷ symbol (Ident) 39 40 ∷ symbol (Ident) 41 47 ∷ symbol (Ident) 48 49 ∷ symbol (Ident) 49 50 ∷ symbol (Ident) 50 51 ∷ symbol (Ident) 52 59 ∷ symbol (Ident) 59 60 ∷ symbol (Ident) 61 62 ∷ symbol (Ident) 62 63 ∷ symbol (Ident) 64 71 ∷ symbol (Ident) 72 75 ∷ symbol (Ident) 75 76 ∷ symbol (Ident) 77 78 ∷ symbol (Ident) 78 79 ∷ symbol (Ident) 80 81 ∷ symbol (Ident) 82 89 ∷ symbol (Ident) 90 92 ∷ symbol (Ident) 93 94 ∷ symbol (Ident) 94 95 ∷ symbol (Ident) 96 97 ∷ symbol (Ident) 98 99 ∷ symbol (Ident) 100 106 ∷ symbol (Ident) 107 110 ∷ symbol (Ident) 110 111 ∷ symbol (Ident) 112 115 ∷ symbol (Ident) 116 117 ∷ symbol (Ident) 117 118 ∷ symbol (Ident) 118 119 ∷ symbol (Ident) 120 127 ∷ symbol (Ident) 127 128 ∷ symbol (Ident) 129 130 ∷ symbol (Ident) 130 131 ∷ symbol (Ident) 131 132 ∷ symbol (Ident) 133 134 ∷ symbol (Ident) 134 135 ∷ symbol (Ident) 136 137 ∷ symbol (Ident) 137 138 ∷ symbol (Ident) 138 139 ∷ symbol (Ident) 140 141 ∷ symbol (Ident) 141 142 ∷ symbol (Ident) 143 144 ∷ symbol (Ident) 144 145 ∷ symbol (Ident) 145 146 ∷ symbol (Ident) 147 152 ∷ symbol (Int (pos 2)) 153 154 ∷ symbol (Ident) 155 157 ∷ symbol (Ident) 158 165 ∷ symbol (Ident) 165 166 ∷ symbol (Ident) 167 168 ∷ symbol (Ident) 168 169 ∷ symbol (Ident) 170 177 ∷ symbol (Ident) 177 178 ∷ symbol (Ident) 179 180 ∷ symbol (Ident) 180 181 ∷ symbol (Ident) 181 182 ∷ symbol (Ident) 183 192 ∷ symbol (Ident) 192 193 ∷ symbol (Ident) 194 203 ∷ symbol (Ident) 204 205 ∷ symbol (Ident) 205 206 ∷ symbol (Ident) 206 207 ∷ symbol (Ident) 208 211 ∷ symbol (Ident) 212 213 ∷ symbol (Ident) 213 214 ∷ symbol (Ident) 215 224 ∷ symbol (Ident) 225 226 ∷ symbol (Ident) 226 227 ∷ symbol (Ident) 228 231 ∷ symbol (Ident) 232 233 ∷ symbol (Ident) 233 234 ∷ symbol (Ident) 235 238 ∷ symbol (Ident) 239 240 ∷ symbol (Ident) 240 241 ∷ []) }; tree = record { module_word = 0; name = 1; semicolon = 0; imports = None; decls = (S.decls (Some (record { const_word = 0; each = (record { name = (record { name = 4; star = Some 0 }); equal = 0; value = (S.only (S.simple None (S.term (S.Int 7) S.no_factor) S.no_term)); semicolon = 0 } ∷ record { name = (record { name = 9; star = None }); equal = 0; value = (S.only (S.simple None (S.term (S.Int 11) S.no_factor) S.no_term)); semicolon = 0 } ∷ []) })) (Some (record { type_word = 0; each = (record { name = (record { name = 14; star = Some 0 }); equal = 0; is = (S.Record 17 None (S.fields (record { first = (record { name = 18; star = Some 0 }); more = [] }) 0 (S.Named (record { name = 21; member = None }))) (S.next_fields 0 (S.fields (record { first = (record { name = 23; star = None }); more = [] }) 0 (S.Named (record { name = 25; member = None }))) S.no_more_fields) 0); semicolon = 0 } ∷ record { name = (record { name = 28; star = Some 0 }); equal = 0; is = (S.Pointer 31 0 (S.Named (record { name = 33; member = None }))); semicolon = 0 } ∷ record { name = (record { name = 35; star = None }); equal = 0; is = (S.Record 37 None S.no_fields S.no_more_fields 0); semicolon = 0 } ∷ []) })) (Some (record { var_word = 0; each = (record { names = (record { first = (record { name = 41; star = Some 0 }); more = [] }); colon = 0; of = (S.Named (record { name = 44; member = None })); semicolon = 0 } ∷ record { names = (record { first = (record { name = 46; star = Some 0 }); more = [] }); colon = 0; of = (S.Named (record { name = 49; member = None })); semicolon = 0 } ∷ record { names = (record { first = (record { name = 51; star = Some 0 }); more = [] }); colon = 0; of = (S.Named (record { name = 54; member = None })); semicolon = 0 } ∷ record { names = (record { first = (record { name = 56; star = Some 0 }); more = [] }); colon = 0; of = (S.Array 59 (S.only (S.simple None (S.term (S.Int 60) S.no_factor) S.no_term)) S.no_expression 0 (S.Named (record { name = 62; member = None }))); semicolon = 0 } ∷ record { names = (record { first = (record { name = 64; star = None }); more = [] }); colon = 0; of = (S.Named (record { name = 66; member = None })); semicolon = 0 } ∷ record { names = (record { first = (record { name = 68; star = Some 0 }); more = [] }); colon = 0; of = (S.Procedure 71 None); semicolon = 0 } ∷ []) })) (S.procedure 0 (record { name = 74; star = Some 0 }) None 0 (S.decls None None None S.no_procedure) None None 77 78 0 (S.procedure 0 (record { name = 81; star = None }) None 0 (S.decls None None None S.no_procedure) None None 83 84 0 S.no_procedure))); body = None; end_word = 0; end_name = 87; period = 0 } }

-- MODULE M; IMPORT A; BEGIN NEW(A.p) END M.
abbrev read_only_16_1 : Parsed
read_only_16_1 = record { source = record { bytes = (77 ∷ 79 ∷ 68 ∷ 85 ∷ 76 ∷ 69 ∷ 32 ∷ 77 ∷ 59 ∷ 32 ∷ 73 ∷ 77 ∷ 80 ∷ 79 ∷ 82 ∷ 84 ∷ 32 ∷ 65 ∷ 59 ∷ 32 ∷ 66 ∷ 69 ∷ 71 ∷ 73 ∷ 78 ∷ 32 ∷ 78 ∷ 69 ∷ 87 ∷ 40 ∷ 65 ∷ 46 ∷ 112 ∷ 41 ∷ 32 ∷ 69 ∷ 78 ∷ 68 ∷ 32 ∷ 77 ∷ 46 ∷ []); symbols = (symbol (Ident) 0 6 ∷ symbol (Ident) 7 8 ∷ symbol (Ident) 8 9 ∷ symbol (Ident) 10 16 ∷ symbol (Ident) 17 18 ∷ symbol (Ident) 18 19 ∷ symbol (Ident) 20 25 ∷ symbol (Ident) 26 29 ∷ symbol (Ident) 29 30 ∷ symbol (Ident) 30 31 ∷ symbol (Ident) 31 32 ∷ symbol (Ident) 32 33 ∷ symbol (Ident) 33 34 ∷ symbol (Ident) 35 38 ∷ symbol (Ident) 39 40 ∷ symbol (Ident) 40 41 ∷ []) }; tree = record { module_word = 0; name = 1; semicolon = 0; imports = Some (record { import_word = 0; first = (record { name = 4; of = None }); more = []; semicolon = 0 }); decls = (S.decls None None None S.no_procedure); body = (Some (record { begin_word = 0; stats = (S.stats (S.AssignOrCall (record { name = 7; selectors = (S.selected (S.Parens 0 (S.expressions (S.only (S.simple None (S.term (S.Designated 9 (S.selected (S.Field 0 11) S.no_selector)) S.no_factor) S.no_term)) S.no_expression) 0) S.no_selector) }) None) S.no_stat) })); end_word = 0; end_name = 14; period = 0 } }

pub read_only_16 : checked (read_only_16_0 ∷ read_only_16_1 ∷ []) ≡ Fault 1 33 30
read_only_16 = refl

-- MODULE A; CONST c* = 3; d = 4; TYPE R* = RECORD x*: INTEGER; h: INTEGER END; P* = POINTER TO R; H = RECORD END; VAR v*: INTEGER; r*: R; p*: P; a*: ARRAY 2 OF INTEGER; w: INTEGER; f*: PROCEDURE; PROCEDURE N*; END N; PROCEDURE L; END L; END A.
abbrev read_only_17_0 : Parsed
read_only_17_0 = record { source = record { bytes = (77 ∷ 79 ∷ 68 ∷ 85 ∷ 76 ∷ 69 ∷ 32 ∷ 65 ∷ 59 ∷ 32 ∷ 67 ∷ 79 ∷ 78 ∷ 83 ∷ 84 ∷ 32 ∷ 99 ∷ 42 ∷ 32 ∷ 61 ∷ 32 ∷ 51 ∷ 59 ∷ 32 ∷ 100 ∷ 32 ∷ 61 ∷ 32 ∷ 52 ∷ 59 ∷ 32 ∷ 84 ∷ 89 ∷ 80 ∷ 69 ∷ 32 ∷ 82 ∷ 42 ∷ 32 ∷ 61 ∷ 32 ∷ 82 ∷ 69 ∷ 67 ∷ 79 ∷ 82 ∷ 68 ∷ 32 ∷ 120 ∷ 42 ∷ 58 ∷ 32 ∷ 73 ∷ 78 ∷ 84 ∷ 69 ∷ 71 ∷ 69 ∷ 82 ∷ 59 ∷ 32 ∷ 104 ∷ 58 ∷ 32 ∷ 73 ∷ 78 ∷ 84 ∷ 69 ∷ 71 ∷ 69 ∷ 82 ∷ 32 ∷ 69 ∷ 78 ∷ 68 ∷ 59 ∷ 32 ∷ 80 ∷ 42 ∷ 32 ∷ 61 ∷ 32 ∷ 80 ∷ 79 ∷ 73 ∷ 78 ∷ 84 ∷ 69 ∷ 82 ∷ 32 ∷ 84 ∷ 79 ∷ 32 ∷ 82 ∷ 59 ∷ 32 ∷ 72 ∷ 32 ∷ 61 ∷ 32 ∷ 82 ∷ 69 ∷ 67 ∷ 79 ∷ 82 ∷ 68 ∷ 32 ∷ 69 ∷ 78 ∷ 68 ∷ 59 ∷ 32 ∷ 86 ∷ 65 ∷ 82 ∷ 32 ∷ 118 ∷ 42 ∷ 58 ∷ 32 ∷ 73 ∷ 78 ∷ 84 ∷ 69 ∷ 71 ∷ 69 ∷ 82 ∷ 59 ∷ 32 ∷ 114 ∷ 42 ∷ 58 ∷ 32 ∷ 82 ∷ 59 ∷ 32 ∷ 112 ∷ 42 ∷ 58 ∷ 32 ∷ 80 ∷ 59 ∷ 32 ∷ 97 ∷ 42 ∷ 58 ∷ 32 ∷ 65 ∷ 82 ∷ 82 ∷ 65 ∷ 89 ∷ 32 ∷ 50 ∷ 32 ∷ 79 ∷ 70 ∷ 32 ∷ 73 ∷ 78 ∷ 84 ∷ 69 ∷ 71 ∷ 69 ∷ 82 ∷ 59 ∷ 32 ∷ 119 ∷ 58 ∷ 32 ∷ 73 ∷ 78 ∷ 84 ∷ 69 ∷ 71 ∷ 69 ∷ 82 ∷ 59 ∷ 32 ∷ 102 ∷ 42 ∷ 58 ∷ 32 ∷ 80 ∷ 82 ∷ 79 ∷ 67 ∷ 69 ∷ 68 ∷ 85 ∷ 82 ∷ 69 ∷ 59 ∷ 32 ∷ 80 ∷ 82 ∷ 79 ∷ 67 ∷ 69 ∷ 68 ∷ 85 ∷ 82 ∷ 69 ∷ 32 ∷ 78 ∷ 42 ∷ 59 ∷ 32 ∷ 69 ∷ 78 ∷ 68 ∷ 32 ∷ 78 ∷ 59 ∷ 32 ∷ 80 ∷ 82 ∷ 79 ∷ 67 ∷ 69 ∷ 68 ∷ 85 ∷ 82 ∷ 69 ∷ 32 ∷ 76 ∷ 59 ∷ 32 ∷ 69 ∷ 78 ∷ 68 ∷ 32 ∷ 76 ∷ 59 ∷ 32 ∷ 69 ∷ 78 ∷ 68 ∷ 32 ∷ 65 ∷ 46 ∷ 10 ∷ []); symbols = (symbol (Ident) 0 6 ∷ symbol (Ident) 7 8 ∷ symbol (Ident) 8 9 ∷ symbol (Ident) 10 15 ∷ symbol (Ident) 16 17 ∷ symbol (Ident) 17 18 ∷ symbol (Ident) 19 20 ∷ symbol (Int (pos 3)) 21 22 ∷ symbol (Ident) 22 23 ∷ symbol (Ident) 24 25 ∷ symbol (Ident) 26 27 ∷ symbol (Int (pos 4)) 28 29 ∷ symbol (Ident) 29 30 ∷ symbol (Ident) 31 35 ∷ symbol (Ident) 36 37 ∷ symbol (Ident) 37 38 ∷ symbol (Ident) 39 40 ∷ symbol (Ident) 41 47 ∷ symbol (Ident) 48 49 ∷ symbol (Ident) 49 50 ∷ symbol (Ident) 50 51 ∷ symbol (Ident) 52 59 ∷ symbol (Ident) 59 60 ∷ symbol (Ident) 61 62 ∷ symbol (Ident) 62 63 ∷ symbol (Ident) 64 71 ∷ symbol (Ident) 72 75 ∷ symbol (Ident) 75 76 ∷ symbol (Ident) 77 78 ∷ symbol (Ident) 78 79 ∷ symbol (Ident) 80 81 ∷ symbol (Ident) 82 89 ∷ symbol (Ident) 90 92 ∷ symbol (Ident) 93 94 ∷ symbol (Ident) 94 95 ∷ symbol (Ident) 96 97 ∷ symbol (Ident) 98 99 ∷ symbol (Ident) 100 106 ∷ symbol (Ident) 107 110 ∷ symbol (Ident) 110 111 ∷ symbol (Ident) 112 115 ∷ symbol (Ident) 116 117 ∷ symbol (Ident) 117 118 ∷ symbol (Ident) 118 119 ∷ symbol (Ident) 120 127 ∷ symbol (Ident) 127 128 ∷ symbol (Ident) 129 130 ∷ symbol (Ident) 130 131 ∷ symbol (Ident) 131 132 ∷ symbol (Ident) 133 134 ∷ symbol (Ident) 134 135 ∷ symbol (Ident) 136 137 ∷ symbol (Ident) 137 138 ∷ symbol (Ident) 138 139 ∷ symbol (Ident) 140 141 ∷ symbol (Ident) 141 142 ∷ symbol (Ident) 143 144 ∷ symbol (Ident) 144 145 ∷ symbol (Ident) 145 146 ∷ symbol (Ident) 147 152 ∷ symbol (Int (pos 2)) 153 154 ∷ symbol (Ident) 155 157 ∷ symbol (Ident) 158 165 ∷ symbol (Ident) 165 166 ∷ symbol (Ident) 167 168 ∷ symbol (Ident) 168 169 ∷ symbol (Ident) 170 177 ∷ symbol (Ident) 177 178 ∷ symbol (Ident) 179 180 ∷ symbol (Ident) 180 181 ∷ symbol (Ident) 181 182 ∷ symbol (Ident) 183 192 ∷ symbol (Ident) 192 193 ∷ symbol (Ident) 194 203 ∷ symbol (Ident) 204 205 ∷ symbol (Ident) 205 206 ∷ symbol (Ident) 206 207 ∷ symbol (Ident) 208 211 ∷ symbol (Ident) 212 213 ∷ symbol (Ident) 213 214 ∷ symbol (Ident) 215 224 ∷ symbol (Ident) 225 226 ∷ symbol (Ident) 226 227 ∷ symbol (Ident) 228 231 ∷ symbol (Ident) 232 233 ∷ symbol (Ident) 233 234 ∷ symbol (Ident) 235 238 ∷ symbol (Ident) 239 240 ∷ symbol (Ident) 240 241 ∷ []) }; tree = record { module_word = 0; name = 1; semicolon = 0; imports = None; decls = (S.decls (Some (record { const_word = 0; each = (record { name = (record { name = 4; star = Some 0 }); equal = 0; value = (S.only (S.simple None (S.term (S.Int 7) S.no_factor) S.no_term)); semicolon = 0 } ∷ record { name = (record { name = 9; star = None }); equal = 0; value = (S.only (S.simple None (S.term (S.Int 11) S.no_factor) S.no_term)); semicolon = 0 } ∷ []) })) (Some (record { type_word = 0; each = (record { name = (record { name = 14; star = Some 0 }); equal = 0; is = (S.Record 17 None (S.fields (record { first = (record { name = 18; star = Some 0 }); more = [] }) 0 (S.Named (record { name = 21; member = None }))) (S.next_fields 0 (S.fields (record { first = (record { name = 23; star = None }); more = [] }) 0 (S.Named (record { name = 25; member = None }))) S.no_more_fields) 0); semicolon = 0 } ∷ record { name = (record { name = 28; star = Some 0 }); equal = 0; is = (S.Pointer 31 0 (S.Named (record { name = 33; member = None }))); semicolon = 0 } ∷ record { name = (record { name = 35; star = None }); equal = 0; is = (S.Record 37 None S.no_fields S.no_more_fields 0); semicolon = 0 } ∷ []) })) (Some (record { var_word = 0; each = (record { names = (record { first = (record { name = 41; star = Some 0 }); more = [] }); colon = 0; of = (S.Named (record { name = 44; member = None })); semicolon = 0 } ∷ record { names = (record { first = (record { name = 46; star = Some 0 }); more = [] }); colon = 0; of = (S.Named (record { name = 49; member = None })); semicolon = 0 } ∷ record { names = (record { first = (record { name = 51; star = Some 0 }); more = [] }); colon = 0; of = (S.Named (record { name = 54; member = None })); semicolon = 0 } ∷ record { names = (record { first = (record { name = 56; star = Some 0 }); more = [] }); colon = 0; of = (S.Array 59 (S.only (S.simple None (S.term (S.Int 60) S.no_factor) S.no_term)) S.no_expression 0 (S.Named (record { name = 62; member = None }))); semicolon = 0 } ∷ record { names = (record { first = (record { name = 64; star = None }); more = [] }); colon = 0; of = (S.Named (record { name = 66; member = None })); semicolon = 0 } ∷ record { names = (record { first = (record { name = 68; star = Some 0 }); more = [] }); colon = 0; of = (S.Procedure 71 None); semicolon = 0 } ∷ []) })) (S.procedure 0 (record { name = 74; star = Some 0 }) None 0 (S.decls None None None S.no_procedure) None None 77 78 0 (S.procedure 0 (record { name = 81; star = None }) None 0 (S.decls None None None S.no_procedure) None None 83 84 0 S.no_procedure))); body = None; end_word = 0; end_name = 87; period = 0 } }

-- MODULE M; IMPORT A; BEGIN INC(A.v) END M.
abbrev read_only_17_1 : Parsed
read_only_17_1 = record { source = record { bytes = (77 ∷ 79 ∷ 68 ∷ 85 ∷ 76 ∷ 69 ∷ 32 ∷ 77 ∷ 59 ∷ 32 ∷ 73 ∷ 77 ∷ 80 ∷ 79 ∷ 82 ∷ 84 ∷ 32 ∷ 65 ∷ 59 ∷ 32 ∷ 66 ∷ 69 ∷ 71 ∷ 73 ∷ 78 ∷ 32 ∷ 73 ∷ 78 ∷ 67 ∷ 40 ∷ 65 ∷ 46 ∷ 118 ∷ 41 ∷ 32 ∷ 69 ∷ 78 ∷ 68 ∷ 32 ∷ 77 ∷ 46 ∷ []); symbols = (symbol (Ident) 0 6 ∷ symbol (Ident) 7 8 ∷ symbol (Ident) 8 9 ∷ symbol (Ident) 10 16 ∷ symbol (Ident) 17 18 ∷ symbol (Ident) 18 19 ∷ symbol (Ident) 20 25 ∷ symbol (Ident) 26 29 ∷ symbol (Ident) 29 30 ∷ symbol (Ident) 30 31 ∷ symbol (Ident) 31 32 ∷ symbol (Ident) 32 33 ∷ symbol (Ident) 33 34 ∷ symbol (Ident) 35 38 ∷ symbol (Ident) 39 40 ∷ symbol (Ident) 40 41 ∷ []) }; tree = record { module_word = 0; name = 1; semicolon = 0; imports = Some (record { import_word = 0; first = (record { name = 4; of = None }); more = []; semicolon = 0 }); decls = (S.decls None None None S.no_procedure); body = (Some (record { begin_word = 0; stats = (S.stats (S.AssignOrCall (record { name = 7; selectors = (S.selected (S.Parens 0 (S.expressions (S.only (S.simple None (S.term (S.Designated 9 (S.selected (S.Field 0 11) S.no_selector)) S.no_factor) S.no_term)) S.no_expression) 0) S.no_selector) }) None) S.no_stat) })); end_word = 0; end_name = 14; period = 0 } }

pub read_only_17 : checked (read_only_17_0 ∷ read_only_17_1 ∷ []) ≡ Fault 1 33 30
read_only_17 = refl

-- MODULE A; CONST c* = 3; d = 4; TYPE R* = RECORD x*: INTEGER; h: INTEGER END; P* = POINTER TO R; H = RECORD END; VAR v*: INTEGER; r*: R; p*: P; a*: ARRAY 2 OF INTEGER; w: INTEGER; f*: PROCEDURE; PROCEDURE N*; END N; PROCEDURE L; END L; END A.
abbrev read_only_18_0 : Parsed
read_only_18_0 = record { source = record { bytes = (77 ∷ 79 ∷ 68 ∷ 85 ∷ 76 ∷ 69 ∷ 32 ∷ 65 ∷ 59 ∷ 32 ∷ 67 ∷ 79 ∷ 78 ∷ 83 ∷ 84 ∷ 32 ∷ 99 ∷ 42 ∷ 32 ∷ 61 ∷ 32 ∷ 51 ∷ 59 ∷ 32 ∷ 100 ∷ 32 ∷ 61 ∷ 32 ∷ 52 ∷ 59 ∷ 32 ∷ 84 ∷ 89 ∷ 80 ∷ 69 ∷ 32 ∷ 82 ∷ 42 ∷ 32 ∷ 61 ∷ 32 ∷ 82 ∷ 69 ∷ 67 ∷ 79 ∷ 82 ∷ 68 ∷ 32 ∷ 120 ∷ 42 ∷ 58 ∷ 32 ∷ 73 ∷ 78 ∷ 84 ∷ 69 ∷ 71 ∷ 69 ∷ 82 ∷ 59 ∷ 32 ∷ 104 ∷ 58 ∷ 32 ∷ 73 ∷ 78 ∷ 84 ∷ 69 ∷ 71 ∷ 69 ∷ 82 ∷ 32 ∷ 69 ∷ 78 ∷ 68 ∷ 59 ∷ 32 ∷ 80 ∷ 42 ∷ 32 ∷ 61 ∷ 32 ∷ 80 ∷ 79 ∷ 73 ∷ 78 ∷ 84 ∷ 69 ∷ 82 ∷ 32 ∷ 84 ∷ 79 ∷ 32 ∷ 82 ∷ 59 ∷ 32 ∷ 72 ∷ 32 ∷ 61 ∷ 32 ∷ 82 ∷ 69 ∷ 67 ∷ 79 ∷ 82 ∷ 68 ∷ 32 ∷ 69 ∷ 78 ∷ 68 ∷ 59 ∷ 32 ∷ 86 ∷ 65 ∷ 82 ∷ 32 ∷ 118 ∷ 42 ∷ 58 ∷ 32 ∷ 73 ∷ 78 ∷ 84 ∷ 69 ∷ 71 ∷ 69 ∷ 82 ∷ 59 ∷ 32 ∷ 114 ∷ 42 ∷ 58 ∷ 32 ∷ 82 ∷ 59 ∷ 32 ∷ 112 ∷ 42 ∷ 58 ∷ 32 ∷ 80 ∷ 59 ∷ 32 ∷ 97 ∷ 42 ∷ 58 ∷ 32 ∷ 65 ∷ 82 ∷ 82 ∷ 65 ∷ 89 ∷ 32 ∷ 50 ∷ 32 ∷ 79 ∷ 70 ∷ 32 ∷ 73 ∷ 78 ∷ 84 ∷ 69 ∷ 71 ∷ 69 ∷ 82 ∷ 59 ∷ 32 ∷ 119 ∷ 58 ∷ 32 ∷ 73 ∷ 78 ∷ 84 ∷ 69 ∷ 71 ∷ 69 ∷ 82 ∷ 59 ∷ 32 ∷ 102 ∷ 42 ∷ 58 ∷ 32 ∷ 80 ∷ 82 ∷ 79 ∷ 67 ∷ 69 ∷ 68 ∷ 85 ∷ 82 ∷ 69 ∷ 59 ∷ 32 ∷ 80 ∷ 82 ∷ 79 ∷ 67 ∷ 69 ∷ 68 ∷ 85 ∷ 82 ∷ 69 ∷ 32 ∷ 78 ∷ 42 ∷ 59 ∷ 32 ∷ 69 ∷ 78 ∷ 68 ∷ 32 ∷ 78 ∷ 59 ∷ 32 ∷ 80 ∷ 82 ∷ 79 ∷ 67 ∷ 69 ∷ 68 ∷ 85 ∷ 82 ∷ 69 ∷ 32 ∷ 76 ∷ 59 ∷ 32 ∷ 69 ∷ 78 ∷ 68 ∷ 32 ∷ 76 ∷ 59 ∷ 32 ∷ 69 ∷ 78 ∷ 68 ∷ 32 ∷ 65 ∷ 46 ∷ 10 ∷ []); symbols = (symbol (Ident) 0 6 ∷ symbol (Ident) 7 8 ∷ symbol (Ident) 8 9 ∷ symbol (Ident) 10 15 ∷ symbol (Ident) 16 17 ∷ symbol (Ident) 17 18 ∷ symbol (Ident) 19 20 ∷ symbol (Int (pos 3)) 21 22 ∷ symbol (Ident) 22 23 ∷ symbol (Ident) 24 25 ∷ symbol (Ident) 26 27 ∷ symbol (Int (pos 4)) 28 29 ∷ symbol (Ident) 29 30 ∷ symbol (Ident) 31 35 ∷ symbol (Ident) 36 37 ∷ symbol (Ident) 37 38 ∷ symbol (Ident) 39 40 ∷ symbol (Ident) 41 47 ∷ symbol (Ident) 48 49 ∷ symbol (Ident) 49 50 ∷ symbol (Ident) 50 51 ∷ symbol (Ident) 52 59 ∷ symbol (Ident) 59 60 ∷ symbol (Ident) 61 62 ∷ symbol (Ident) 62 63 ∷ symbol (Ident) 64 71 ∷ symbol (Ident) 72 75 ∷ symbol (Ident) 75 76 ∷ symbol (Ident) 77 78 ∷ symbol (Ident) 78 79 ∷ symbol (Ident) 80 81 ∷ symbol (Ident) 82 89 ∷ symbol (Ident) 90 92 ∷ symbol (Ident) 93 94 ∷ symbol (Ident) 94 95 ∷ symbol (Ident) 96 97 ∷ symbol (Ident) 98 99 ∷ symbol (Ident) 100 106 ∷ symbol (Ident) 107 110 ∷ symbol (Ident) 110 111 ∷ symbol (Ident) 112 115 ∷ symbol (Ident) 116 117 ∷ symbol (Ident) 117 118 ∷ symbol (Ident) 118 119 ∷ symbol (Ident) 120 127 ∷ symbol (Ident) 127 128 ∷ symbol (Ident) 129 130 ∷ symbol (Ident) 130 131 ∷ symbol (Ident) 131 132 ∷ symbol (Ident) 133 134 ∷ symbol (Ident) 134 135 ∷ symbol (Ident) 136 137 ∷ symbol (Ident) 137 138 ∷ symbol (Ident) 138 139 ∷ symbol (Ident) 140 141 ∷ symbol (Ident) 141 142 ∷ symbol (Ident) 143 144 ∷ symbol (Ident) 144 145 ∷ symbol (Ident) 145 146 ∷ symbol (Ident) 147 152 ∷ symbol (Int (pos 2)) 153 154 ∷ symbol (Ident) 155 157 ∷ symbol (Ident) 158 165 ∷ symbol (Ident) 165 166 ∷ symbol (Ident) 167 168 ∷ symbol (Ident) 168 169 ∷ symbol (Ident) 170 177 ∷ symbol (Ident) 177 178 ∷ symbol (Ident) 179 180 ∷ symbol (Ident) 180 181 ∷ symbol (Ident) 181 182 ∷ symbol (Ident) 183 192 ∷ symbol (Ident) 192 193 ∷ symbol (Ident) 194 203 ∷ symbol (Ident) 204 205 ∷ symbol (Ident) 205 206 ∷ symbol (Ident) 206 207 ∷ symbol (Ident) 208 211 ∷ symbol (Ident) 212 213 ∷ symbol (Ident) 213 214 ∷ symbol (Ident) 215 224 ∷ symbol (Ident) 225 226 ∷ symbol (Ident) 226 227 ∷ symbol (Ident) 228 231 ∷ symbol (Ident) 232 233 ∷ symbol (Ident) 233 234 ∷ symbol (Ident) 235 238 ∷ symbol (Ident) 239 240 ∷ symbol (Ident) 240 241 ∷ []) }; tree = record { module_word = 0; name = 1; semicolon = 0; imports = None; decls = (S.decls (Some (record { const_word = 0; each = (record { name = (record { name = 4; star = Some 0 }); equal = 0; value = (S.only (S.simple None (S.term (S.Int 7) S.no_factor) S.no_term)); semicolon = 0 } ∷ record { name = (record { name = 9; star = None }); equal = 0; value = (S.only (S.simple None (S.term (S.Int 11) S.no_factor) S.no_term)); semicolon = 0 } ∷ []) })) (Some (record { type_word = 0; each = (record { name = (record { name = 14; star = Some 0 }); equal = 0; is = (S.Record 17 None (S.fields (record { first = (record { name = 18; star = Some 0 }); more = [] }) 0 (S.Named (record { name = 21; member = None }))) (S.next_fields 0 (S.fields (record { first = (record { name = 23; star = None }); more = [] }) 0 (S.Named (record { name = 25; member = None }))) S.no_more_fields) 0); semicolon = 0 } ∷ record { name = (record { name = 28; star = Some 0 }); equal = 0; is = (S.Pointer 31 0 (S.Named (record { name = 33; member = None }))); semicolon = 0 } ∷ record { name = (record { name = 35; star = None }); equal = 0; is = (S.Record 37 None S.no_fields S.no_more_fields 0); semicolon = 0 } ∷ []) })) (Some (record { var_word = 0; each = (record { names = (record { first = (record { name = 41; star = Some 0 }); more = [] }); colon = 0; of = (S.Named (record { name = 44; member = None })); semicolon = 0 } ∷ record { names = (record { first = (record { name = 46; star = Some 0 }); more = [] }); colon = 0; of = (S.Named (record { name = 49; member = None })); semicolon = 0 } ∷ record { names = (record { first = (record { name = 51; star = Some 0 }); more = [] }); colon = 0; of = (S.Named (record { name = 54; member = None })); semicolon = 0 } ∷ record { names = (record { first = (record { name = 56; star = Some 0 }); more = [] }); colon = 0; of = (S.Array 59 (S.only (S.simple None (S.term (S.Int 60) S.no_factor) S.no_term)) S.no_expression 0 (S.Named (record { name = 62; member = None }))); semicolon = 0 } ∷ record { names = (record { first = (record { name = 64; star = None }); more = [] }); colon = 0; of = (S.Named (record { name = 66; member = None })); semicolon = 0 } ∷ record { names = (record { first = (record { name = 68; star = Some 0 }); more = [] }); colon = 0; of = (S.Procedure 71 None); semicolon = 0 } ∷ []) })) (S.procedure 0 (record { name = 74; star = Some 0 }) None 0 (S.decls None None None S.no_procedure) None None 77 78 0 (S.procedure 0 (record { name = 81; star = None }) None 0 (S.decls None None None S.no_procedure) None None 83 84 0 S.no_procedure))); body = None; end_word = 0; end_name = 87; period = 0 } }

-- MODULE M; IMPORT A; PROCEDURE V(VAR r: A.R); END V; BEGIN V(A.r) END M.
abbrev read_only_18_1 : Parsed
read_only_18_1 = record { source = record { bytes = (77 ∷ 79 ∷ 68 ∷ 85 ∷ 76 ∷ 69 ∷ 32 ∷ 77 ∷ 59 ∷ 32 ∷ 73 ∷ 77 ∷ 80 ∷ 79 ∷ 82 ∷ 84 ∷ 32 ∷ 65 ∷ 59 ∷ 32 ∷ 80 ∷ 82 ∷ 79 ∷ 67 ∷ 69 ∷ 68 ∷ 85 ∷ 82 ∷ 69 ∷ 32 ∷ 86 ∷ 40 ∷ 86 ∷ 65 ∷ 82 ∷ 32 ∷ 114 ∷ 58 ∷ 32 ∷ 65 ∷ 46 ∷ 82 ∷ 41 ∷ 59 ∷ 32 ∷ 69 ∷ 78 ∷ 68 ∷ 32 ∷ 86 ∷ 59 ∷ 32 ∷ 66 ∷ 69 ∷ 71 ∷ 73 ∷ 78 ∷ 32 ∷ 86 ∷ 40 ∷ 65 ∷ 46 ∷ 114 ∷ 41 ∷ 32 ∷ 69 ∷ 78 ∷ 68 ∷ 32 ∷ 77 ∷ 46 ∷ []); symbols = (symbol (Ident) 0 6 ∷ symbol (Ident) 7 8 ∷ symbol (Ident) 8 9 ∷ symbol (Ident) 10 16 ∷ symbol (Ident) 17 18 ∷ symbol (Ident) 18 19 ∷ symbol (Ident) 20 29 ∷ symbol (Ident) 30 31 ∷ symbol (Ident) 31 32 ∷ symbol (Ident) 32 35 ∷ symbol (Ident) 36 37 ∷ symbol (Ident) 37 38 ∷ symbol (Ident) 39 40 ∷ symbol (Ident) 40 41 ∷ symbol (Ident) 41 42 ∷ symbol (Ident) 42 43 ∷ symbol (Ident) 43 44 ∷ symbol (Ident) 45 48 ∷ symbol (Ident) 49 50 ∷ symbol (Ident) 50 51 ∷ symbol (Ident) 52 57 ∷ symbol (Ident) 58 59 ∷ symbol (Ident) 59 60 ∷ symbol (Ident) 60 61 ∷ symbol (Ident) 61 62 ∷ symbol (Ident) 62 63 ∷ symbol (Ident) 63 64 ∷ symbol (Ident) 65 68 ∷ symbol (Ident) 69 70 ∷ symbol (Ident) 70 71 ∷ []) }; tree = record { module_word = 0; name = 1; semicolon = 0; imports = Some (record { import_word = 0; first = (record { name = 4; of = None }); more = []; semicolon = 0 }); decls = (S.decls None None None (S.procedure 0 (record { name = 7; star = None }) (Some (record { left_paren = 0; sections = Some (record { first = (record { var_word = Some 0; first = 10; more = []; colon = 0; open_array = None; of = (record { name = 12; member = Some (record { period = 0; name = 14 }) }) }); more = [] }); right_paren = 0; result = None })) 0 (S.decls None None None S.no_procedure) None None 17 18 0 S.no_procedure)); body = (Some (record { begin_word = 0; stats = (S.stats (S.AssignOrCall (record { name = 21; selectors = (S.selected (S.Parens 0 (S.expressions (S.only (S.simple None (S.term (S.Designated 23 (S.selected (S.Field 0 25) S.no_selector)) S.no_factor) S.no_term)) S.no_expression) 0) S.no_selector) }) None) S.no_stat) })); end_word = 0; end_name = 28; period = 0 } }

pub read_only_18 : checked (read_only_18_0 ∷ read_only_18_1 ∷ []) ≡ Fault 1 33 60
read_only_18 = refl

-- MODULE A; CONST c* = 3; d = 4; TYPE R* = RECORD x*: INTEGER; h: INTEGER END; P* = POINTER TO R; H = RECORD END; VAR v*: INTEGER; r*: R; p*: P; a*: ARRAY 2 OF INTEGER; w: INTEGER; f*: PROCEDURE; PROCEDURE N*; END N; PROCEDURE L; END L; END A.
abbrev read_only_19_0 : Parsed
read_only_19_0 = record { source = record { bytes = (77 ∷ 79 ∷ 68 ∷ 85 ∷ 76 ∷ 69 ∷ 32 ∷ 65 ∷ 59 ∷ 32 ∷ 67 ∷ 79 ∷ 78 ∷ 83 ∷ 84 ∷ 32 ∷ 99 ∷ 42 ∷ 32 ∷ 61 ∷ 32 ∷ 51 ∷ 59 ∷ 32 ∷ 100 ∷ 32 ∷ 61 ∷ 32 ∷ 52 ∷ 59 ∷ 32 ∷ 84 ∷ 89 ∷ 80 ∷ 69 ∷ 32 ∷ 82 ∷ 42 ∷ 32 ∷ 61 ∷ 32 ∷ 82 ∷ 69 ∷ 67 ∷ 79 ∷ 82 ∷ 68 ∷ 32 ∷ 120 ∷ 42 ∷ 58 ∷ 32 ∷ 73 ∷ 78 ∷ 84 ∷ 69 ∷ 71 ∷ 69 ∷ 82 ∷ 59 ∷ 32 ∷ 104 ∷ 58 ∷ 32 ∷ 73 ∷ 78 ∷ 84 ∷ 69 ∷ 71 ∷ 69 ∷ 82 ∷ 32 ∷ 69 ∷ 78 ∷ 68 ∷ 59 ∷ 32 ∷ 80 ∷ 42 ∷ 32 ∷ 61 ∷ 32 ∷ 80 ∷ 79 ∷ 73 ∷ 78 ∷ 84 ∷ 69 ∷ 82 ∷ 32 ∷ 84 ∷ 79 ∷ 32 ∷ 82 ∷ 59 ∷ 32 ∷ 72 ∷ 32 ∷ 61 ∷ 32 ∷ 82 ∷ 69 ∷ 67 ∷ 79 ∷ 82 ∷ 68 ∷ 32 ∷ 69 ∷ 78 ∷ 68 ∷ 59 ∷ 32 ∷ 86 ∷ 65 ∷ 82 ∷ 32 ∷ 118 ∷ 42 ∷ 58 ∷ 32 ∷ 73 ∷ 78 ∷ 84 ∷ 69 ∷ 71 ∷ 69 ∷ 82 ∷ 59 ∷ 32 ∷ 114 ∷ 42 ∷ 58 ∷ 32 ∷ 82 ∷ 59 ∷ 32 ∷ 112 ∷ 42 ∷ 58 ∷ 32 ∷ 80 ∷ 59 ∷ 32 ∷ 97 ∷ 42 ∷ 58 ∷ 32 ∷ 65 ∷ 82 ∷ 82 ∷ 65 ∷ 89 ∷ 32 ∷ 50 ∷ 32 ∷ 79 ∷ 70 ∷ 32 ∷ 73 ∷ 78 ∷ 84 ∷ 69 ∷ 71 ∷ 69 ∷ 82 ∷ 59 ∷ 32 ∷ 119 ∷ 58 ∷ 32 ∷ 73 ∷ 78 ∷ 84 ∷ 69 ∷ 71 ∷ 69 ∷ 82 ∷ 59 ∷ 32 ∷ 102 ∷ 42 ∷ 58 ∷ 32 ∷ 80 ∷ 82 ∷ 79 ∷ 67 ∷ 69 ∷ 68 ∷ 85 ∷ 82 ∷ 69 ∷ 59 ∷ 32 ∷ 80 ∷ 82 ∷ 79 ∷ 67 ∷ 69 ∷ 68 ∷ 85 ∷ 82 ∷ 69 ∷ 32 ∷ 78 ∷ 42 ∷ 59 ∷ 32 ∷ 69 ∷ 78 ∷ 68 ∷ 32 ∷ 78 ∷ 59 ∷ 32 ∷ 80 ∷ 82 ∷ 79 ∷ 67 ∷ 69 ∷ 68 ∷ 85 ∷ 82 ∷ 69 ∷ 32 ∷ 76 ∷ 59 ∷ 32 ∷ 69 ∷ 78 ∷ 68 ∷ 32 ∷ 76 ∷ 59 ∷ 32 ∷ 69 ∷ 78 ∷ 68 ∷ 32 ∷ 65 ∷ 46 ∷ 10 ∷ []); symbols = (symbol (Ident) 0 6 ∷ symbol (Ident) 7 8 ∷ symbol (Ident) 8 9 ∷ symbol (Ident) 10 15 ∷ symbol (Ident) 16 17 ∷ symbol (Ident) 17 18 ∷ symbol (Ident) 19 20 ∷ symbol (Int (pos 3)) 21 22 ∷ symbol (Ident) 22 23 ∷ symbol (Ident) 24 25 ∷ symbol (Ident) 26 27 ∷ symbol (Int (pos 4)) 28 29 ∷ symbol (Ident) 29 30 ∷ symbol (Ident) 31 35 ∷ symbol (Ident) 36 37 ∷ symbol (Ident) 37 38 ∷ symbol (Ident) 39 40 ∷ symbol (Ident) 41 47 ∷ symbol (Ident) 48 49 ∷ symbol (Ident) 49 50 ∷ symbol (Ident) 50 51 ∷ symbol (Ident) 52 59 ∷ symbol (Ident) 59 60 ∷ symbol (Ident) 61 62 ∷ symbol (Ident) 62 63 ∷ symbol (Ident) 64 71 ∷ symbol (Ident) 72 75 ∷ symbol (Ident) 75 76 ∷ symbol (Ident) 77 78 ∷ symbol (Ident) 78 79 ∷ symbol (Ident) 80 81 ∷ symbol (Ident) 82 89 ∷ symbol (Ident) 90 92 ∷ symbol (Ident) 93 94 ∷ symbol (Ident) 94 95 ∷ symbol (Ident) 96 97 ∷ symbol (Ident) 98 99 ∷ symbol (Ident) 100 106 ∷ symbol (Ident) 107 110 ∷ symbol (Ident) 110 111 ∷ symbol (Ident) 112 115 ∷ symbol (Ident) 116 117 ∷ symbol (Ident) 117 118 ∷ symbol (Ident) 118 119 ∷ symbol (Ident) 120 127 ∷ symbol (Ident) 127 128 ∷ symbol (Ident) 129 130 ∷ symbol (Ident) 130 131 ∷ symbol (Ident) 131 132 ∷ symbol (Ident) 133 134 ∷ symbol (Ident) 134 135 ∷ symbol (Ident) 136 137 ∷ symbol (Ident) 137 138 ∷ symbol (Ident) 138 139 ∷ symbol (Ident) 140 141 ∷ symbol (Ident) 141 142 ∷ symbol (Ident) 143 144 ∷ symbol (Ident) 144 145 ∷ symbol (Ident) 145 146 ∷ symbol (Ident) 147 152 ∷ symbol (Int (pos 2)) 153 154 ∷ symbol (Ident) 155 157 ∷ symbol (Ident) 158 165 ∷ symbol (Ident) 165 166 ∷ symbol (Ident) 167 168 ∷ symbol (Ident) 168 169 ∷ symbol (Ident) 170 177 ∷ symbol (Ident) 177 178 ∷ symbol (Ident) 179 180 ∷ symbol (Ident) 180 181 ∷ symbol (Ident) 181 182 ∷ symbol (Ident) 183 192 ∷ symbol (Ident) 192 193 ∷ symbol (Ident) 194 203 ∷ symbol (Ident) 204 205 ∷ symbol (Ident) 205 206 ∷ symbol (Ident) 206 207 ∷ symbol (Ident) 208 211 ∷ symbol (Ident) 212 213 ∷ symbol (Ident) 213 214 ∷ symbol (Ident) 215 224 ∷ symbol (Ident) 225 226 ∷ symbol (Ident) 226 227 ∷ symbol (Ident) 228 231 ∷ symbol (Ident) 232 233 ∷ symbol (Ident) 233 234 ∷ symbol (Ident) 235 238 ∷ symbol (Ident) 239 240 ∷ symbol (Ident) 240 241 ∷ []) }; tree = record { module_word = 0; name = 1; semicolon = 0; imports = None; decls = (S.decls (Some (record { const_word = 0; each = (record { name = (record { name = 4; star = Some 0 }); equal = 0; value = (S.only (S.simple None (S.term (S.Int 7) S.no_factor) S.no_term)); semicolon = 0 } ∷ record { name = (record { name = 9; star = None }); equal = 0; value = (S.only (S.simple None (S.term (S.Int 11) S.no_factor) S.no_term)); semicolon = 0 } ∷ []) })) (Some (record { type_word = 0; each = (record { name = (record { name = 14; star = Some 0 }); equal = 0; is = (S.Record 17 None (S.fields (record { first = (record { name = 18; star = Some 0 }); more = [] }) 0 (S.Named (record { name = 21; member = None }))) (S.next_fields 0 (S.fields (record { first = (record { name = 23; star = None }); more = [] }) 0 (S.Named (record { name = 25; member = None }))) S.no_more_fields) 0); semicolon = 0 } ∷ record { name = (record { name = 28; star = Some 0 }); equal = 0; is = (S.Pointer 31 0 (S.Named (record { name = 33; member = None }))); semicolon = 0 } ∷ record { name = (record { name = 35; star = None }); equal = 0; is = (S.Record 37 None S.no_fields S.no_more_fields 0); semicolon = 0 } ∷ []) })) (Some (record { var_word = 0; each = (record { names = (record { first = (record { name = 41; star = Some 0 }); more = [] }); colon = 0; of = (S.Named (record { name = 44; member = None })); semicolon = 0 } ∷ record { names = (record { first = (record { name = 46; star = Some 0 }); more = [] }); colon = 0; of = (S.Named (record { name = 49; member = None })); semicolon = 0 } ∷ record { names = (record { first = (record { name = 51; star = Some 0 }); more = [] }); colon = 0; of = (S.Named (record { name = 54; member = None })); semicolon = 0 } ∷ record { names = (record { first = (record { name = 56; star = Some 0 }); more = [] }); colon = 0; of = (S.Array 59 (S.only (S.simple None (S.term (S.Int 60) S.no_factor) S.no_term)) S.no_expression 0 (S.Named (record { name = 62; member = None }))); semicolon = 0 } ∷ record { names = (record { first = (record { name = 64; star = None }); more = [] }); colon = 0; of = (S.Named (record { name = 66; member = None })); semicolon = 0 } ∷ record { names = (record { first = (record { name = 68; star = Some 0 }); more = [] }); colon = 0; of = (S.Procedure 71 None); semicolon = 0 } ∷ []) })) (S.procedure 0 (record { name = 74; star = Some 0 }) None 0 (S.decls None None None S.no_procedure) None None 77 78 0 (S.procedure 0 (record { name = 81; star = None }) None 0 (S.decls None None None S.no_procedure) None None 83 84 0 S.no_procedure))); body = None; end_word = 0; end_name = 87; period = 0 } }

-- MODULE M; IMPORT A; BEGIN A.f := A.N END M.
abbrev read_only_19_1 : Parsed
read_only_19_1 = record { source = record { bytes = (77 ∷ 79 ∷ 68 ∷ 85 ∷ 76 ∷ 69 ∷ 32 ∷ 77 ∷ 59 ∷ 32 ∷ 73 ∷ 77 ∷ 80 ∷ 79 ∷ 82 ∷ 84 ∷ 32 ∷ 65 ∷ 59 ∷ 32 ∷ 66 ∷ 69 ∷ 71 ∷ 73 ∷ 78 ∷ 32 ∷ 65 ∷ 46 ∷ 102 ∷ 32 ∷ 58 ∷ 61 ∷ 32 ∷ 65 ∷ 46 ∷ 78 ∷ 32 ∷ 69 ∷ 78 ∷ 68 ∷ 32 ∷ 77 ∷ 46 ∷ []); symbols = (symbol (Ident) 0 6 ∷ symbol (Ident) 7 8 ∷ symbol (Ident) 8 9 ∷ symbol (Ident) 10 16 ∷ symbol (Ident) 17 18 ∷ symbol (Ident) 18 19 ∷ symbol (Ident) 20 25 ∷ symbol (Ident) 26 27 ∷ symbol (Ident) 27 28 ∷ symbol (Ident) 28 29 ∷ symbol (Ident) 30 32 ∷ symbol (Ident) 33 34 ∷ symbol (Ident) 34 35 ∷ symbol (Ident) 35 36 ∷ symbol (Ident) 37 40 ∷ symbol (Ident) 41 42 ∷ symbol (Ident) 42 43 ∷ []) }; tree = record { module_word = 0; name = 1; semicolon = 0; imports = Some (record { import_word = 0; first = (record { name = 4; of = None }); more = []; semicolon = 0 }); decls = (S.decls None None None S.no_procedure); body = (Some (record { begin_word = 0; stats = (S.stats (S.AssignOrCall (record { name = 7; selectors = (S.selected (S.Field 0 9) S.no_selector) }) (Some (record { becomes = 0; value = (S.only (S.simple None (S.term (S.Designated 11 (S.selected (S.Field 0 13) S.no_selector)) S.no_factor) S.no_term)) }))) S.no_stat) })); end_word = 0; end_name = 15; period = 0 } }

pub read_only_19 : checked (read_only_19_0 ∷ read_only_19_1 ∷ []) ≡ Fault 1 33 26
read_only_19 = refl

-- MODULE M; IMPORT In; PROCEDURE V(VAR b: BOOLEAN); END V; BEGIN V(In.Done) END M.
abbrev read_only_20_0 : Parsed
read_only_20_0 = record { source = record { bytes = (77 ∷ 79 ∷ 68 ∷ 85 ∷ 76 ∷ 69 ∷ 32 ∷ 77 ∷ 59 ∷ 32 ∷ 73 ∷ 77 ∷ 80 ∷ 79 ∷ 82 ∷ 84 ∷ 32 ∷ 73 ∷ 110 ∷ 59 ∷ 32 ∷ 80 ∷ 82 ∷ 79 ∷ 67 ∷ 69 ∷ 68 ∷ 85 ∷ 82 ∷ 69 ∷ 32 ∷ 86 ∷ 40 ∷ 86 ∷ 65 ∷ 82 ∷ 32 ∷ 98 ∷ 58 ∷ 32 ∷ 66 ∷ 79 ∷ 79 ∷ 76 ∷ 69 ∷ 65 ∷ 78 ∷ 41 ∷ 59 ∷ 32 ∷ 69 ∷ 78 ∷ 68 ∷ 32 ∷ 86 ∷ 59 ∷ 32 ∷ 66 ∷ 69 ∷ 71 ∷ 73 ∷ 78 ∷ 32 ∷ 86 ∷ 40 ∷ 73 ∷ 110 ∷ 46 ∷ 68 ∷ 111 ∷ 110 ∷ 101 ∷ 41 ∷ 32 ∷ 69 ∷ 78 ∷ 68 ∷ 32 ∷ 77 ∷ 46 ∷ []); symbols = (symbol (Ident) 0 6 ∷ symbol (Ident) 7 8 ∷ symbol (Ident) 8 9 ∷ symbol (Ident) 10 16 ∷ symbol (Ident) 17 19 ∷ symbol (Ident) 19 20 ∷ symbol (Ident) 21 30 ∷ symbol (Ident) 31 32 ∷ symbol (Ident) 32 33 ∷ symbol (Ident) 33 36 ∷ symbol (Ident) 37 38 ∷ symbol (Ident) 38 39 ∷ symbol (Ident) 40 47 ∷ symbol (Ident) 47 48 ∷ symbol (Ident) 48 49 ∷ symbol (Ident) 50 53 ∷ symbol (Ident) 54 55 ∷ symbol (Ident) 55 56 ∷ symbol (Ident) 57 62 ∷ symbol (Ident) 63 64 ∷ symbol (Ident) 64 65 ∷ symbol (Ident) 65 67 ∷ symbol (Ident) 67 68 ∷ symbol (Ident) 68 72 ∷ symbol (Ident) 72 73 ∷ symbol (Ident) 74 77 ∷ symbol (Ident) 78 79 ∷ symbol (Ident) 79 80 ∷ []) }; tree = record { module_word = 0; name = 1; semicolon = 0; imports = Some (record { import_word = 0; first = (record { name = 4; of = None }); more = []; semicolon = 0 }); decls = (S.decls None None None (S.procedure 0 (record { name = 7; star = None }) (Some (record { left_paren = 0; sections = Some (record { first = (record { var_word = Some 0; first = 10; more = []; colon = 0; open_array = None; of = (record { name = 12; member = None }) }); more = [] }); right_paren = 0; result = None })) 0 (S.decls None None None S.no_procedure) None None 15 16 0 S.no_procedure)); body = (Some (record { begin_word = 0; stats = (S.stats (S.AssignOrCall (record { name = 19; selectors = (S.selected (S.Parens 0 (S.expressions (S.only (S.simple None (S.term (S.Designated 21 (S.selected (S.Field 0 23) S.no_selector)) S.no_factor) S.no_term)) S.no_expression) 0) S.no_selector) }) None) S.no_stat) })); end_word = 0; end_name = 26; period = 0 } }

pub read_only_20 : checked (read_only_20_0 ∷ []) ≡ Fault 0 33 65
read_only_20 = refl

-- MODULE M; VAR i: INTEGER; BEGIN CASE i OF 1, 1: END END M.
abbrev bad_label_1_0 : Parsed
bad_label_1_0 = record { source = record { bytes = (77 ∷ 79 ∷ 68 ∷ 85 ∷ 76 ∷ 69 ∷ 32 ∷ 77 ∷ 59 ∷ 32 ∷ 86 ∷ 65 ∷ 82 ∷ 32 ∷ 105 ∷ 58 ∷ 32 ∷ 73 ∷ 78 ∷ 84 ∷ 69 ∷ 71 ∷ 69 ∷ 82 ∷ 59 ∷ 32 ∷ 66 ∷ 69 ∷ 71 ∷ 73 ∷ 78 ∷ 32 ∷ 67 ∷ 65 ∷ 83 ∷ 69 ∷ 32 ∷ 105 ∷ 32 ∷ 79 ∷ 70 ∷ 32 ∷ 49 ∷ 44 ∷ 32 ∷ 49 ∷ 58 ∷ 32 ∷ 69 ∷ 78 ∷ 68 ∷ 32 ∷ 69 ∷ 78 ∷ 68 ∷ 32 ∷ 77 ∷ 46 ∷ []); symbols = (symbol (Ident) 0 6 ∷ symbol (Ident) 7 8 ∷ symbol (Ident) 8 9 ∷ symbol (Ident) 10 13 ∷ symbol (Ident) 14 15 ∷ symbol (Ident) 15 16 ∷ symbol (Ident) 17 24 ∷ symbol (Ident) 24 25 ∷ symbol (Ident) 26 31 ∷ symbol (Ident) 32 36 ∷ symbol (Ident) 37 38 ∷ symbol (Ident) 39 41 ∷ symbol (Int (pos 1)) 42 43 ∷ symbol (Ident) 43 44 ∷ symbol (Int (pos 1)) 45 46 ∷ symbol (Ident) 46 47 ∷ symbol (Ident) 48 51 ∷ symbol (Ident) 52 55 ∷ symbol (Ident) 56 57 ∷ symbol (Ident) 57 58 ∷ []) }; tree = record { module_word = 0; name = 1; semicolon = 0; imports = None; decls = (S.decls None None (Some (record { var_word = 0; each = (record { names = (record { first = (record { name = 4; star = None }); more = [] }); colon = 0; of = (S.Named (record { name = 6; member = None })); semicolon = 0 } ∷ []) })) S.no_procedure); body = (Some (record { begin_word = 0; stats = (S.stats (S.Case 0 (S.only (S.simple None (S.term (S.Designated 10 S.no_selector) S.no_factor) S.no_term)) 0 (S.one_case (record { low = TheLabel.Int 12; high = None }) (record { comma = 0; range = (record { low = TheLabel.Int 14; high = None }) } ∷ []) 0 (S.stats S.Empty S.no_stat)) S.no_next_case 0) S.no_stat) })); end_word = 0; end_name = 18; period = 0 } }

pub bad_label_1 : checked (bad_label_1_0 ∷ []) ≡ Fault 0 39 45
bad_label_1 = refl

-- MODULE M; VAR i: INTEGER; BEGIN CASE i OF 1..3: | 2: END END M.
abbrev bad_label_2_0 : Parsed
bad_label_2_0 = record { source = record { bytes = (77 ∷ 79 ∷ 68 ∷ 85 ∷ 76 ∷ 69 ∷ 32 ∷ 77 ∷ 59 ∷ 32 ∷ 86 ∷ 65 ∷ 82 ∷ 32 ∷ 105 ∷ 58 ∷ 32 ∷ 73 ∷ 78 ∷ 84 ∷ 69 ∷ 71 ∷ 69 ∷ 82 ∷ 59 ∷ 32 ∷ 66 ∷ 69 ∷ 71 ∷ 73 ∷ 78 ∷ 32 ∷ 67 ∷ 65 ∷ 83 ∷ 69 ∷ 32 ∷ 105 ∷ 32 ∷ 79 ∷ 70 ∷ 32 ∷ 49 ∷ 46 ∷ 46 ∷ 51 ∷ 58 ∷ 32 ∷ 124 ∷ 32 ∷ 50 ∷ 58 ∷ 32 ∷ 69 ∷ 78 ∷ 68 ∷ 32 ∷ 69 ∷ 78 ∷ 68 ∷ 32 ∷ 77 ∷ 46 ∷ []); symbols = (symbol (Ident) 0 6 ∷ symbol (Ident) 7 8 ∷ symbol (Ident) 8 9 ∷ symbol (Ident) 10 13 ∷ symbol (Ident) 14 15 ∷ symbol (Ident) 15 16 ∷ symbol (Ident) 17 24 ∷ symbol (Ident) 24 25 ∷ symbol (Ident) 26 31 ∷ symbol (Ident) 32 36 ∷ symbol (Ident) 37 38 ∷ symbol (Ident) 39 41 ∷ symbol (Int (pos 1)) 42 43 ∷ symbol (Ident) 43 45 ∷ symbol (Int (pos 3)) 45 46 ∷ symbol (Ident) 46 47 ∷ symbol (Ident) 48 49 ∷ symbol (Int (pos 2)) 50 51 ∷ symbol (Ident) 51 52 ∷ symbol (Ident) 53 56 ∷ symbol (Ident) 57 60 ∷ symbol (Ident) 61 62 ∷ symbol (Ident) 62 63 ∷ []) }; tree = record { module_word = 0; name = 1; semicolon = 0; imports = None; decls = (S.decls None None (Some (record { var_word = 0; each = (record { names = (record { first = (record { name = 4; star = None }); more = [] }); colon = 0; of = (S.Named (record { name = 6; member = None })); semicolon = 0 } ∷ []) })) S.no_procedure); body = (Some (record { begin_word = 0; stats = (S.stats (S.Case 0 (S.only (S.simple None (S.term (S.Designated 10 S.no_selector) S.no_factor) S.no_term)) 0 (S.one_case (record { low = TheLabel.Int 12; high = Some (record { dots = 0; label = TheLabel.Int 14 }) }) [] 0 (S.stats S.Empty S.no_stat)) (S.next_case 0 (S.one_case (record { low = TheLabel.Int 17; high = None }) [] 0 (S.stats S.Empty S.no_stat)) S.no_next_case) 0) S.no_stat) })); end_word = 0; end_name = 21; period = 0 } }

pub bad_label_2 : checked (bad_label_2_0 ∷ []) ≡ Fault 0 39 50
bad_label_2 = refl

-- MODULE M; VAR i: INTEGER; BEGIN CASE i OF 1..3, 5..4: END END M.
abbrev bad_label_3_0 : Parsed
bad_label_3_0 = record { source = record { bytes = (77 ∷ 79 ∷ 68 ∷ 85 ∷ 76 ∷ 69 ∷ 32 ∷ 77 ∷ 59 ∷ 32 ∷ 86 ∷ 65 ∷ 82 ∷ 32 ∷ 105 ∷ 58 ∷ 32 ∷ 73 ∷ 78 ∷ 84 ∷ 69 ∷ 71 ∷ 69 ∷ 82 ∷ 59 ∷ 32 ∷ 66 ∷ 69 ∷ 71 ∷ 73 ∷ 78 ∷ 32 ∷ 67 ∷ 65 ∷ 83 ∷ 69 ∷ 32 ∷ 105 ∷ 32 ∷ 79 ∷ 70 ∷ 32 ∷ 49 ∷ 46 ∷ 46 ∷ 51 ∷ 44 ∷ 32 ∷ 53 ∷ 46 ∷ 46 ∷ 52 ∷ 58 ∷ 32 ∷ 69 ∷ 78 ∷ 68 ∷ 32 ∷ 69 ∷ 78 ∷ 68 ∷ 32 ∷ 77 ∷ 46 ∷ []); symbols = (symbol (Ident) 0 6 ∷ symbol (Ident) 7 8 ∷ symbol (Ident) 8 9 ∷ symbol (Ident) 10 13 ∷ symbol (Ident) 14 15 ∷ symbol (Ident) 15 16 ∷ symbol (Ident) 17 24 ∷ symbol (Ident) 24 25 ∷ symbol (Ident) 26 31 ∷ symbol (Ident) 32 36 ∷ symbol (Ident) 37 38 ∷ symbol (Ident) 39 41 ∷ symbol (Int (pos 1)) 42 43 ∷ symbol (Ident) 43 45 ∷ symbol (Int (pos 3)) 45 46 ∷ symbol (Ident) 46 47 ∷ symbol (Int (pos 5)) 48 49 ∷ symbol (Ident) 49 51 ∷ symbol (Int (pos 4)) 51 52 ∷ symbol (Ident) 52 53 ∷ symbol (Ident) 54 57 ∷ symbol (Ident) 58 61 ∷ symbol (Ident) 62 63 ∷ symbol (Ident) 63 64 ∷ []) }; tree = record { module_word = 0; name = 1; semicolon = 0; imports = None; decls = (S.decls None None (Some (record { var_word = 0; each = (record { names = (record { first = (record { name = 4; star = None }); more = [] }); colon = 0; of = (S.Named (record { name = 6; member = None })); semicolon = 0 } ∷ []) })) S.no_procedure); body = (Some (record { begin_word = 0; stats = (S.stats (S.Case 0 (S.only (S.simple None (S.term (S.Designated 10 S.no_selector) S.no_factor) S.no_term)) 0 (S.one_case (record { low = TheLabel.Int 12; high = Some (record { dots = 0; label = TheLabel.Int 14 }) }) (record { comma = 0; range = (record { low = TheLabel.Int 16; high = Some (record { dots = 0; label = TheLabel.Int 18 }) }) } ∷ []) 0 (S.stats S.Empty S.no_stat)) S.no_next_case 0) S.no_stat) })); end_word = 0; end_name = 22; period = 0 } }

pub bad_label_3 : checked (bad_label_3_0 ∷ []) ≡ Fault 0 39 48
bad_label_3 = refl

-- MODULE M; VAR i: INTEGER; BEGIN CASE i OF ''a'': END END M.
abbrev bad_label_4_0 : Parsed
bad_label_4_0 = record { source = record { bytes = (77 ∷ 79 ∷ 68 ∷ 85 ∷ 76 ∷ 69 ∷ 32 ∷ 77 ∷ 59 ∷ 32 ∷ 86 ∷ 65 ∷ 82 ∷ 32 ∷ 105 ∷ 58 ∷ 32 ∷ 73 ∷ 78 ∷ 84 ∷ 69 ∷ 71 ∷ 69 ∷ 82 ∷ 59 ∷ 32 ∷ 66 ∷ 69 ∷ 71 ∷ 73 ∷ 78 ∷ 32 ∷ 67 ∷ 65 ∷ 83 ∷ 69 ∷ 32 ∷ 105 ∷ 32 ∷ 79 ∷ 70 ∷ 32 ∷ 34 ∷ 97 ∷ 34 ∷ 58 ∷ 32 ∷ 69 ∷ 78 ∷ 68 ∷ 32 ∷ 69 ∷ 78 ∷ 68 ∷ 32 ∷ 77 ∷ 46 ∷ []); symbols = (symbol (Ident) 0 6 ∷ symbol (Ident) 7 8 ∷ symbol (Ident) 8 9 ∷ symbol (Ident) 10 13 ∷ symbol (Ident) 14 15 ∷ symbol (Ident) 15 16 ∷ symbol (Ident) 17 24 ∷ symbol (Ident) 24 25 ∷ symbol (Ident) 26 31 ∷ symbol (Ident) 32 36 ∷ symbol (Ident) 37 38 ∷ symbol (Ident) 39 41 ∷ symbol (TheKind.Text) 42 45 ∷ symbol (Ident) 45 46 ∷ symbol (Ident) 47 50 ∷ symbol (Ident) 51 54 ∷ symbol (Ident) 55 56 ∷ symbol (Ident) 56 57 ∷ []) }; tree = record { module_word = 0; name = 1; semicolon = 0; imports = None; decls = (S.decls None None (Some (record { var_word = 0; each = (record { names = (record { first = (record { name = 4; star = None }); more = [] }); colon = 0; of = (S.Named (record { name = 6; member = None })); semicolon = 0 } ∷ []) })) S.no_procedure); body = (Some (record { begin_word = 0; stats = (S.stats (S.Case 0 (S.only (S.simple None (S.term (S.Designated 10 S.no_selector) S.no_factor) S.no_term)) 0 (S.one_case (record { low = TheLabel.Text 12; high = None }) [] 0 (S.stats S.Empty S.no_stat)) S.no_next_case 0) S.no_stat) })); end_word = 0; end_name = 16; period = 0 } }

pub bad_label_4 : checked (bad_label_4_0 ∷ []) ≡ Fault 0 39 42
bad_label_4 = refl

-- MODULE M; VAR i: INTEGER; BEGIN CASE i OF 41X: END END M.
abbrev bad_label_5_0 : Parsed
bad_label_5_0 = record { source = record { bytes = (77 ∷ 79 ∷ 68 ∷ 85 ∷ 76 ∷ 69 ∷ 32 ∷ 77 ∷ 59 ∷ 32 ∷ 86 ∷ 65 ∷ 82 ∷ 32 ∷ 105 ∷ 58 ∷ 32 ∷ 73 ∷ 78 ∷ 84 ∷ 69 ∷ 71 ∷ 69 ∷ 82 ∷ 59 ∷ 32 ∷ 66 ∷ 69 ∷ 71 ∷ 73 ∷ 78 ∷ 32 ∷ 67 ∷ 65 ∷ 83 ∷ 69 ∷ 32 ∷ 105 ∷ 32 ∷ 79 ∷ 70 ∷ 32 ∷ 52 ∷ 49 ∷ 88 ∷ 58 ∷ 32 ∷ 69 ∷ 78 ∷ 68 ∷ 32 ∷ 69 ∷ 78 ∷ 68 ∷ 32 ∷ 77 ∷ 46 ∷ []); symbols = (symbol (Ident) 0 6 ∷ symbol (Ident) 7 8 ∷ symbol (Ident) 8 9 ∷ symbol (Ident) 10 13 ∷ symbol (Ident) 14 15 ∷ symbol (Ident) 15 16 ∷ symbol (Ident) 17 24 ∷ symbol (Ident) 24 25 ∷ symbol (Ident) 26 31 ∷ symbol (Ident) 32 36 ∷ symbol (Ident) 37 38 ∷ symbol (Ident) 39 41 ∷ symbol (TheKind.Char 65) 42 45 ∷ symbol (Ident) 45 46 ∷ symbol (Ident) 47 50 ∷ symbol (Ident) 51 54 ∷ symbol (Ident) 55 56 ∷ symbol (Ident) 56 57 ∷ []) }; tree = record { module_word = 0; name = 1; semicolon = 0; imports = None; decls = (S.decls None None (Some (record { var_word = 0; each = (record { names = (record { first = (record { name = 4; star = None }); more = [] }); colon = 0; of = (S.Named (record { name = 6; member = None })); semicolon = 0 } ∷ []) })) S.no_procedure); body = (Some (record { begin_word = 0; stats = (S.stats (S.Case 0 (S.only (S.simple None (S.term (S.Designated 10 S.no_selector) S.no_factor) S.no_term)) 0 (S.one_case (record { low = TheLabel.Char 12; high = None }) [] 0 (S.stats S.Empty S.no_stat)) S.no_next_case 0) S.no_stat) })); end_word = 0; end_name = 16; period = 0 } }

pub bad_label_5 : checked (bad_label_5_0 ∷ []) ≡ Fault 0 39 42
bad_label_5 = refl

-- MODULE M; VAR c: CHAR; BEGIN CASE c OF 1: END END M.
abbrev bad_label_6_0 : Parsed
bad_label_6_0 = record { source = record { bytes = (77 ∷ 79 ∷ 68 ∷ 85 ∷ 76 ∷ 69 ∷ 32 ∷ 77 ∷ 59 ∷ 32 ∷ 86 ∷ 65 ∷ 82 ∷ 32 ∷ 99 ∷ 58 ∷ 32 ∷ 67 ∷ 72 ∷ 65 ∷ 82 ∷ 59 ∷ 32 ∷ 66 ∷ 69 ∷ 71 ∷ 73 ∷ 78 ∷ 32 ∷ 67 ∷ 65 ∷ 83 ∷ 69 ∷ 32 ∷ 99 ∷ 32 ∷ 79 ∷ 70 ∷ 32 ∷ 49 ∷ 58 ∷ 32 ∷ 69 ∷ 78 ∷ 68 ∷ 32 ∷ 69 ∷ 78 ∷ 68 ∷ 32 ∷ 77 ∷ 46 ∷ []); symbols = (symbol (Ident) 0 6 ∷ symbol (Ident) 7 8 ∷ symbol (Ident) 8 9 ∷ symbol (Ident) 10 13 ∷ symbol (Ident) 14 15 ∷ symbol (Ident) 15 16 ∷ symbol (Ident) 17 21 ∷ symbol (Ident) 21 22 ∷ symbol (Ident) 23 28 ∷ symbol (Ident) 29 33 ∷ symbol (Ident) 34 35 ∷ symbol (Ident) 36 38 ∷ symbol (Int (pos 1)) 39 40 ∷ symbol (Ident) 40 41 ∷ symbol (Ident) 42 45 ∷ symbol (Ident) 46 49 ∷ symbol (Ident) 50 51 ∷ symbol (Ident) 51 52 ∷ []) }; tree = record { module_word = 0; name = 1; semicolon = 0; imports = None; decls = (S.decls None None (Some (record { var_word = 0; each = (record { names = (record { first = (record { name = 4; star = None }); more = [] }); colon = 0; of = (S.Named (record { name = 6; member = None })); semicolon = 0 } ∷ []) })) S.no_procedure); body = (Some (record { begin_word = 0; stats = (S.stats (S.Case 0 (S.only (S.simple None (S.term (S.Designated 10 S.no_selector) S.no_factor) S.no_term)) 0 (S.one_case (record { low = TheLabel.Int 12; high = None }) [] 0 (S.stats S.Empty S.no_stat)) S.no_next_case 0) S.no_stat) })); end_word = 0; end_name = 16; period = 0 } }

pub bad_label_6 : checked (bad_label_6_0 ∷ []) ≡ Fault 0 39 39
bad_label_6 = refl

-- MODULE M; VAR c: CHAR; BEGIN CASE c OF ''ab'': END END M.
abbrev bad_label_7_0 : Parsed
bad_label_7_0 = record { source = record { bytes = (77 ∷ 79 ∷ 68 ∷ 85 ∷ 76 ∷ 69 ∷ 32 ∷ 77 ∷ 59 ∷ 32 ∷ 86 ∷ 65 ∷ 82 ∷ 32 ∷ 99 ∷ 58 ∷ 32 ∷ 67 ∷ 72 ∷ 65 ∷ 82 ∷ 59 ∷ 32 ∷ 66 ∷ 69 ∷ 71 ∷ 73 ∷ 78 ∷ 32 ∷ 67 ∷ 65 ∷ 83 ∷ 69 ∷ 32 ∷ 99 ∷ 32 ∷ 79 ∷ 70 ∷ 32 ∷ 34 ∷ 97 ∷ 98 ∷ 34 ∷ 58 ∷ 32 ∷ 69 ∷ 78 ∷ 68 ∷ 32 ∷ 69 ∷ 78 ∷ 68 ∷ 32 ∷ 77 ∷ 46 ∷ []); symbols = (symbol (Ident) 0 6 ∷ symbol (Ident) 7 8 ∷ symbol (Ident) 8 9 ∷ symbol (Ident) 10 13 ∷ symbol (Ident) 14 15 ∷ symbol (Ident) 15 16 ∷ symbol (Ident) 17 21 ∷ symbol (Ident) 21 22 ∷ symbol (Ident) 23 28 ∷ symbol (Ident) 29 33 ∷ symbol (Ident) 34 35 ∷ symbol (Ident) 36 38 ∷ symbol (TheKind.Text) 39 43 ∷ symbol (Ident) 43 44 ∷ symbol (Ident) 45 48 ∷ symbol (Ident) 49 52 ∷ symbol (Ident) 53 54 ∷ symbol (Ident) 54 55 ∷ []) }; tree = record { module_word = 0; name = 1; semicolon = 0; imports = None; decls = (S.decls None None (Some (record { var_word = 0; each = (record { names = (record { first = (record { name = 4; star = None }); more = [] }); colon = 0; of = (S.Named (record { name = 6; member = None })); semicolon = 0 } ∷ []) })) S.no_procedure); body = (Some (record { begin_word = 0; stats = (S.stats (S.Case 0 (S.only (S.simple None (S.term (S.Designated 10 S.no_selector) S.no_factor) S.no_term)) 0 (S.one_case (record { low = TheLabel.Text 12; high = None }) [] 0 (S.stats S.Empty S.no_stat)) S.no_next_case 0) S.no_stat) })); end_word = 0; end_name = 16; period = 0 } }

pub bad_label_7 : checked (bad_label_7_0 ∷ []) ≡ Fault 0 39 39
bad_label_7 = refl

-- MODULE M; VAR c: CHAR; BEGIN CASE c OF ''a'': | 61X: END END M.
abbrev bad_label_8_0 : Parsed
bad_label_8_0 = record { source = record { bytes = (77 ∷ 79 ∷ 68 ∷ 85 ∷ 76 ∷ 69 ∷ 32 ∷ 77 ∷ 59 ∷ 32 ∷ 86 ∷ 65 ∷ 82 ∷ 32 ∷ 99 ∷ 58 ∷ 32 ∷ 67 ∷ 72 ∷ 65 ∷ 82 ∷ 59 ∷ 32 ∷ 66 ∷ 69 ∷ 71 ∷ 73 ∷ 78 ∷ 32 ∷ 67 ∷ 65 ∷ 83 ∷ 69 ∷ 32 ∷ 99 ∷ 32 ∷ 79 ∷ 70 ∷ 32 ∷ 34 ∷ 97 ∷ 34 ∷ 58 ∷ 32 ∷ 124 ∷ 32 ∷ 54 ∷ 49 ∷ 88 ∷ 58 ∷ 32 ∷ 69 ∷ 78 ∷ 68 ∷ 32 ∷ 69 ∷ 78 ∷ 68 ∷ 32 ∷ 77 ∷ 46 ∷ []); symbols = (symbol (Ident) 0 6 ∷ symbol (Ident) 7 8 ∷ symbol (Ident) 8 9 ∷ symbol (Ident) 10 13 ∷ symbol (Ident) 14 15 ∷ symbol (Ident) 15 16 ∷ symbol (Ident) 17 21 ∷ symbol (Ident) 21 22 ∷ symbol (Ident) 23 28 ∷ symbol (Ident) 29 33 ∷ symbol (Ident) 34 35 ∷ symbol (Ident) 36 38 ∷ symbol (TheKind.Text) 39 42 ∷ symbol (Ident) 42 43 ∷ symbol (Ident) 44 45 ∷ symbol (TheKind.Char 97) 46 49 ∷ symbol (Ident) 49 50 ∷ symbol (Ident) 51 54 ∷ symbol (Ident) 55 58 ∷ symbol (Ident) 59 60 ∷ symbol (Ident) 60 61 ∷ []) }; tree = record { module_word = 0; name = 1; semicolon = 0; imports = None; decls = (S.decls None None (Some (record { var_word = 0; each = (record { names = (record { first = (record { name = 4; star = None }); more = [] }); colon = 0; of = (S.Named (record { name = 6; member = None })); semicolon = 0 } ∷ []) })) S.no_procedure); body = (Some (record { begin_word = 0; stats = (S.stats (S.Case 0 (S.only (S.simple None (S.term (S.Designated 10 S.no_selector) S.no_factor) S.no_term)) 0 (S.one_case (record { low = TheLabel.Text 12; high = None }) [] 0 (S.stats S.Empty S.no_stat)) (S.next_case 0 (S.one_case (record { low = TheLabel.Char 15; high = None }) [] 0 (S.stats S.Empty S.no_stat)) S.no_next_case) 0) S.no_stat) })); end_word = 0; end_name = 19; period = 0 } }

pub bad_label_8 : checked (bad_label_8_0 ∷ []) ≡ Fault 0 39 46
bad_label_8 = refl

-- MODULE M; VAR c: CHAR; BEGIN CASE c OF ''a''..''z'': | ''m'': END END M.
abbrev bad_label_9_0 : Parsed
bad_label_9_0 = record { source = record { bytes = (77 ∷ 79 ∷ 68 ∷ 85 ∷ 76 ∷ 69 ∷ 32 ∷ 77 ∷ 59 ∷ 32 ∷ 86 ∷ 65 ∷ 82 ∷ 32 ∷ 99 ∷ 58 ∷ 32 ∷ 67 ∷ 72 ∷ 65 ∷ 82 ∷ 59 ∷ 32 ∷ 66 ∷ 69 ∷ 71 ∷ 73 ∷ 78 ∷ 32 ∷ 67 ∷ 65 ∷ 83 ∷ 69 ∷ 32 ∷ 99 ∷ 32 ∷ 79 ∷ 70 ∷ 32 ∷ 34 ∷ 97 ∷ 34 ∷ 46 ∷ 46 ∷ 34 ∷ 122 ∷ 34 ∷ 58 ∷ 32 ∷ 124 ∷ 32 ∷ 34 ∷ 109 ∷ 34 ∷ 58 ∷ 32 ∷ 69 ∷ 78 ∷ 68 ∷ 32 ∷ 69 ∷ 78 ∷ 68 ∷ 32 ∷ 77 ∷ 46 ∷ []); symbols = (symbol (Ident) 0 6 ∷ symbol (Ident) 7 8 ∷ symbol (Ident) 8 9 ∷ symbol (Ident) 10 13 ∷ symbol (Ident) 14 15 ∷ symbol (Ident) 15 16 ∷ symbol (Ident) 17 21 ∷ symbol (Ident) 21 22 ∷ symbol (Ident) 23 28 ∷ symbol (Ident) 29 33 ∷ symbol (Ident) 34 35 ∷ symbol (Ident) 36 38 ∷ symbol (TheKind.Text) 39 42 ∷ symbol (Ident) 42 44 ∷ symbol (TheKind.Text) 44 47 ∷ symbol (Ident) 47 48 ∷ symbol (Ident) 49 50 ∷ symbol (TheKind.Text) 51 54 ∷ symbol (Ident) 54 55 ∷ symbol (Ident) 56 59 ∷ symbol (Ident) 60 63 ∷ symbol (Ident) 64 65 ∷ symbol (Ident) 65 66 ∷ []) }; tree = record { module_word = 0; name = 1; semicolon = 0; imports = None; decls = (S.decls None None (Some (record { var_word = 0; each = (record { names = (record { first = (record { name = 4; star = None }); more = [] }); colon = 0; of = (S.Named (record { name = 6; member = None })); semicolon = 0 } ∷ []) })) S.no_procedure); body = (Some (record { begin_word = 0; stats = (S.stats (S.Case 0 (S.only (S.simple None (S.term (S.Designated 10 S.no_selector) S.no_factor) S.no_term)) 0 (S.one_case (record { low = TheLabel.Text 12; high = Some (record { dots = 0; label = TheLabel.Text 14 }) }) [] 0 (S.stats S.Empty S.no_stat)) (S.next_case 0 (S.one_case (record { low = TheLabel.Text 17; high = None }) [] 0 (S.stats S.Empty S.no_stat)) S.no_next_case) 0) S.no_stat) })); end_word = 0; end_name = 21; period = 0 } }

pub bad_label_9 : checked (bad_label_9_0 ∷ []) ≡ Fault 0 39 51
bad_label_9 = refl

-- MODULE M; VAR i: INTEGER; BEGIN CASE i OF i: END END M.
abbrev bad_label_10_0 : Parsed
bad_label_10_0 = record { source = record { bytes = (77 ∷ 79 ∷ 68 ∷ 85 ∷ 76 ∷ 69 ∷ 32 ∷ 77 ∷ 59 ∷ 32 ∷ 86 ∷ 65 ∷ 82 ∷ 32 ∷ 105 ∷ 58 ∷ 32 ∷ 73 ∷ 78 ∷ 84 ∷ 69 ∷ 71 ∷ 69 ∷ 82 ∷ 59 ∷ 32 ∷ 66 ∷ 69 ∷ 71 ∷ 73 ∷ 78 ∷ 32 ∷ 67 ∷ 65 ∷ 83 ∷ 69 ∷ 32 ∷ 105 ∷ 32 ∷ 79 ∷ 70 ∷ 32 ∷ 105 ∷ 58 ∷ 32 ∷ 69 ∷ 78 ∷ 68 ∷ 32 ∷ 69 ∷ 78 ∷ 68 ∷ 32 ∷ 77 ∷ 46 ∷ []); symbols = (symbol (Ident) 0 6 ∷ symbol (Ident) 7 8 ∷ symbol (Ident) 8 9 ∷ symbol (Ident) 10 13 ∷ symbol (Ident) 14 15 ∷ symbol (Ident) 15 16 ∷ symbol (Ident) 17 24 ∷ symbol (Ident) 24 25 ∷ symbol (Ident) 26 31 ∷ symbol (Ident) 32 36 ∷ symbol (Ident) 37 38 ∷ symbol (Ident) 39 41 ∷ symbol (Ident) 42 43 ∷ symbol (Ident) 43 44 ∷ symbol (Ident) 45 48 ∷ symbol (Ident) 49 52 ∷ symbol (Ident) 53 54 ∷ symbol (Ident) 54 55 ∷ []) }; tree = record { module_word = 0; name = 1; semicolon = 0; imports = None; decls = (S.decls None None (Some (record { var_word = 0; each = (record { names = (record { first = (record { name = 4; star = None }); more = [] }); colon = 0; of = (S.Named (record { name = 6; member = None })); semicolon = 0 } ∷ []) })) S.no_procedure); body = (Some (record { begin_word = 0; stats = (S.stats (S.Case 0 (S.only (S.simple None (S.term (S.Designated 10 S.no_selector) S.no_factor) S.no_term)) 0 (S.one_case (record { low = TheLabel.Named (record { name = 12; member = None }); high = None }) [] 0 (S.stats S.Empty S.no_stat)) S.no_next_case 0) S.no_stat) })); end_word = 0; end_name = 16; period = 0 } }

pub bad_label_10 : checked (bad_label_10_0 ∷ []) ≡ Fault 0 39 42
bad_label_10 = refl

-- MODULE M; VAR i: INTEGER; PROCEDURE F(x: INTEGER): INTEGER; RETURN x END F; BEGIN CASE i OF F: END END M.
abbrev bad_label_11_0 : Parsed
bad_label_11_0 = record { source = record { bytes = (77 ∷ 79 ∷ 68 ∷ 85 ∷ 76 ∷ 69 ∷ 32 ∷ 77 ∷ 59 ∷ 32 ∷ 86 ∷ 65 ∷ 82 ∷ 32 ∷ 105 ∷ 58 ∷ 32 ∷ 73 ∷ 78 ∷ 84 ∷ 69 ∷ 71 ∷ 69 ∷ 82 ∷ 59 ∷ 32 ∷ 80 ∷ 82 ∷ 79 ∷ 67 ∷ 69 ∷ 68 ∷ 85 ∷ 82 ∷ 69 ∷ 32 ∷ 70 ∷ 40 ∷ 120 ∷ 58 ∷ 32 ∷ 73 ∷ 78 ∷ 84 ∷ 69 ∷ 71 ∷ 69 ∷ 82 ∷ 41 ∷ 58 ∷ 32 ∷ 73 ∷ 78 ∷ 84 ∷ 69 ∷ 71 ∷ 69 ∷ 82 ∷ 59 ∷ 32 ∷ 82 ∷ 69 ∷ 84 ∷ 85 ∷ 82 ∷ 78 ∷ 32 ∷ 120 ∷ 32 ∷ 69 ∷ 78 ∷ 68 ∷ 32 ∷ 70 ∷ 59 ∷ 32 ∷ 66 ∷ 69 ∷ 71 ∷ 73 ∷ 78 ∷ 32 ∷ 67 ∷ 65 ∷ 83 ∷ 69 ∷ 32 ∷ 105 ∷ 32 ∷ 79 ∷ 70 ∷ 32 ∷ 70 ∷ 58 ∷ 32 ∷ 69 ∷ 78 ∷ 68 ∷ 32 ∷ 69 ∷ 78 ∷ 68 ∷ 32 ∷ 77 ∷ 46 ∷ []); symbols = (symbol (Ident) 0 6 ∷ symbol (Ident) 7 8 ∷ symbol (Ident) 8 9 ∷ symbol (Ident) 10 13 ∷ symbol (Ident) 14 15 ∷ symbol (Ident) 15 16 ∷ symbol (Ident) 17 24 ∷ symbol (Ident) 24 25 ∷ symbol (Ident) 26 35 ∷ symbol (Ident) 36 37 ∷ symbol (Ident) 37 38 ∷ symbol (Ident) 38 39 ∷ symbol (Ident) 39 40 ∷ symbol (Ident) 41 48 ∷ symbol (Ident) 48 49 ∷ symbol (Ident) 49 50 ∷ symbol (Ident) 51 58 ∷ symbol (Ident) 58 59 ∷ symbol (Ident) 60 66 ∷ symbol (Ident) 67 68 ∷ symbol (Ident) 69 72 ∷ symbol (Ident) 73 74 ∷ symbol (Ident) 74 75 ∷ symbol (Ident) 76 81 ∷ symbol (Ident) 82 86 ∷ symbol (Ident) 87 88 ∷ symbol (Ident) 89 91 ∷ symbol (Ident) 92 93 ∷ symbol (Ident) 93 94 ∷ symbol (Ident) 95 98 ∷ symbol (Ident) 99 102 ∷ symbol (Ident) 103 104 ∷ symbol (Ident) 104 105 ∷ []) }; tree = record { module_word = 0; name = 1; semicolon = 0; imports = None; decls = (S.decls None None (Some (record { var_word = 0; each = (record { names = (record { first = (record { name = 4; star = None }); more = [] }); colon = 0; of = (S.Named (record { name = 6; member = None })); semicolon = 0 } ∷ []) })) (S.procedure 0 (record { name = 9; star = None }) (Some (record { left_paren = 0; sections = Some (record { first = (record { var_word = None; first = 11; more = []; colon = 0; open_array = None; of = (record { name = 13; member = None }) }); more = [] }); right_paren = 0; result = Some (record { colon = 0; name = (record { name = 16; member = None }) }) })) 0 (S.decls None None None S.no_procedure) None (Some (record { return_word = 18; value = (S.only (S.simple None (S.term (S.Designated 19 S.no_selector) S.no_factor) S.no_term)) })) 20 21 0 S.no_procedure)); body = (Some (record { begin_word = 0; stats = (S.stats (S.Case 0 (S.only (S.simple None (S.term (S.Designated 25 S.no_selector) S.no_factor) S.no_term)) 0 (S.one_case (record { low = TheLabel.Named (record { name = 27; member = None }); high = None }) [] 0 (S.stats S.Empty S.no_stat)) S.no_next_case 0) S.no_stat) })); end_word = 0; end_name = 31; period = 0 } }

pub bad_label_11 : checked (bad_label_11_0 ∷ []) ≡ Fault 0 39 92
bad_label_11 = refl

-- MODULE M; VAR i: INTEGER; BEGIN CASE i OF INTEGER: END END M.
abbrev bad_label_12_0 : Parsed
bad_label_12_0 = record { source = record { bytes = (77 ∷ 79 ∷ 68 ∷ 85 ∷ 76 ∷ 69 ∷ 32 ∷ 77 ∷ 59 ∷ 32 ∷ 86 ∷ 65 ∷ 82 ∷ 32 ∷ 105 ∷ 58 ∷ 32 ∷ 73 ∷ 78 ∷ 84 ∷ 69 ∷ 71 ∷ 69 ∷ 82 ∷ 59 ∷ 32 ∷ 66 ∷ 69 ∷ 71 ∷ 73 ∷ 78 ∷ 32 ∷ 67 ∷ 65 ∷ 83 ∷ 69 ∷ 32 ∷ 105 ∷ 32 ∷ 79 ∷ 70 ∷ 32 ∷ 73 ∷ 78 ∷ 84 ∷ 69 ∷ 71 ∷ 69 ∷ 82 ∷ 58 ∷ 32 ∷ 69 ∷ 78 ∷ 68 ∷ 32 ∷ 69 ∷ 78 ∷ 68 ∷ 32 ∷ 77 ∷ 46 ∷ []); symbols = (symbol (Ident) 0 6 ∷ symbol (Ident) 7 8 ∷ symbol (Ident) 8 9 ∷ symbol (Ident) 10 13 ∷ symbol (Ident) 14 15 ∷ symbol (Ident) 15 16 ∷ symbol (Ident) 17 24 ∷ symbol (Ident) 24 25 ∷ symbol (Ident) 26 31 ∷ symbol (Ident) 32 36 ∷ symbol (Ident) 37 38 ∷ symbol (Ident) 39 41 ∷ symbol (Ident) 42 49 ∷ symbol (Ident) 49 50 ∷ symbol (Ident) 51 54 ∷ symbol (Ident) 55 58 ∷ symbol (Ident) 59 60 ∷ symbol (Ident) 60 61 ∷ []) }; tree = record { module_word = 0; name = 1; semicolon = 0; imports = None; decls = (S.decls None None (Some (record { var_word = 0; each = (record { names = (record { first = (record { name = 4; star = None }); more = [] }); colon = 0; of = (S.Named (record { name = 6; member = None })); semicolon = 0 } ∷ []) })) S.no_procedure); body = (Some (record { begin_word = 0; stats = (S.stats (S.Case 0 (S.only (S.simple None (S.term (S.Designated 10 S.no_selector) S.no_factor) S.no_term)) 0 (S.one_case (record { low = TheLabel.Named (record { name = 12; member = None }); high = None }) [] 0 (S.stats S.Empty S.no_stat)) S.no_next_case 0) S.no_stat) })); end_word = 0; end_name = 16; period = 0 } }

pub bad_label_12 : checked (bad_label_12_0 ∷ []) ≡ Fault 0 39 42
bad_label_12 = refl

-- MODULE M; VAR y: BYTE; BEGIN CASE y OF 1: | 300: | 1..2: END END M.
abbrev bad_label_13_0 : Parsed
bad_label_13_0 = record { source = record { bytes = (77 ∷ 79 ∷ 68 ∷ 85 ∷ 76 ∷ 69 ∷ 32 ∷ 77 ∷ 59 ∷ 32 ∷ 86 ∷ 65 ∷ 82 ∷ 32 ∷ 121 ∷ 58 ∷ 32 ∷ 66 ∷ 89 ∷ 84 ∷ 69 ∷ 59 ∷ 32 ∷ 66 ∷ 69 ∷ 71 ∷ 73 ∷ 78 ∷ 32 ∷ 67 ∷ 65 ∷ 83 ∷ 69 ∷ 32 ∷ 121 ∷ 32 ∷ 79 ∷ 70 ∷ 32 ∷ 49 ∷ 58 ∷ 32 ∷ 124 ∷ 32 ∷ 51 ∷ 48 ∷ 48 ∷ 58 ∷ 32 ∷ 124 ∷ 32 ∷ 49 ∷ 46 ∷ 46 ∷ 50 ∷ 58 ∷ 32 ∷ 69 ∷ 78 ∷ 68 ∷ 32 ∷ 69 ∷ 78 ∷ 68 ∷ 32 ∷ 77 ∷ 46 ∷ []); symbols = (symbol (Ident) 0 6 ∷ symbol (Ident) 7 8 ∷ symbol (Ident) 8 9 ∷ symbol (Ident) 10 13 ∷ symbol (Ident) 14 15 ∷ symbol (Ident) 15 16 ∷ symbol (Ident) 17 21 ∷ symbol (Ident) 21 22 ∷ symbol (Ident) 23 28 ∷ symbol (Ident) 29 33 ∷ symbol (Ident) 34 35 ∷ symbol (Ident) 36 38 ∷ symbol (Int (pos 1)) 39 40 ∷ symbol (Ident) 40 41 ∷ symbol (Ident) 42 43 ∷ symbol (Int (pos 300)) 44 47 ∷ symbol (Ident) 47 48 ∷ symbol (Ident) 49 50 ∷ symbol (Int (pos 1)) 51 52 ∷ symbol (Ident) 52 54 ∷ symbol (Int (pos 2)) 54 55 ∷ symbol (Ident) 55 56 ∷ symbol (Ident) 57 60 ∷ symbol (Ident) 61 64 ∷ symbol (Ident) 65 66 ∷ symbol (Ident) 66 67 ∷ []) }; tree = record { module_word = 0; name = 1; semicolon = 0; imports = None; decls = (S.decls None None (Some (record { var_word = 0; each = (record { names = (record { first = (record { name = 4; star = None }); more = [] }); colon = 0; of = (S.Named (record { name = 6; member = None })); semicolon = 0 } ∷ []) })) S.no_procedure); body = (Some (record { begin_word = 0; stats = (S.stats (S.Case 0 (S.only (S.simple None (S.term (S.Designated 10 S.no_selector) S.no_factor) S.no_term)) 0 (S.one_case (record { low = TheLabel.Int 12; high = None }) [] 0 (S.stats S.Empty S.no_stat)) (S.next_case 0 (S.one_case (record { low = TheLabel.Int 15; high = None }) [] 0 (S.stats S.Empty S.no_stat)) (S.next_case 0 (S.one_case (record { low = TheLabel.Int 18; high = Some (record { dots = 0; label = TheLabel.Int 20 }) }) [] 0 (S.stats S.Empty S.no_stat)) S.no_next_case)) 0) S.no_stat) })); end_word = 0; end_name = 24; period = 0 } }

pub bad_label_13 : checked (bad_label_13_0 ∷ []) ≡ Fault 0 39 51
bad_label_13 = refl

-- MODULE M; VAR i: INTEGER; BEGIN CASE i OF 3: | 1..5: END END M.
abbrev bad_label_14_0 : Parsed
bad_label_14_0 = record { source = record { bytes = (77 ∷ 79 ∷ 68 ∷ 85 ∷ 76 ∷ 69 ∷ 32 ∷ 77 ∷ 59 ∷ 32 ∷ 86 ∷ 65 ∷ 82 ∷ 32 ∷ 105 ∷ 58 ∷ 32 ∷ 73 ∷ 78 ∷ 84 ∷ 69 ∷ 71 ∷ 69 ∷ 82 ∷ 59 ∷ 32 ∷ 66 ∷ 69 ∷ 71 ∷ 73 ∷ 78 ∷ 32 ∷ 67 ∷ 65 ∷ 83 ∷ 69 ∷ 32 ∷ 105 ∷ 32 ∷ 79 ∷ 70 ∷ 32 ∷ 51 ∷ 58 ∷ 32 ∷ 124 ∷ 32 ∷ 49 ∷ 46 ∷ 46 ∷ 53 ∷ 58 ∷ 32 ∷ 69 ∷ 78 ∷ 68 ∷ 32 ∷ 69 ∷ 78 ∷ 68 ∷ 32 ∷ 77 ∷ 46 ∷ []); symbols = (symbol (Ident) 0 6 ∷ symbol (Ident) 7 8 ∷ symbol (Ident) 8 9 ∷ symbol (Ident) 10 13 ∷ symbol (Ident) 14 15 ∷ symbol (Ident) 15 16 ∷ symbol (Ident) 17 24 ∷ symbol (Ident) 24 25 ∷ symbol (Ident) 26 31 ∷ symbol (Ident) 32 36 ∷ symbol (Ident) 37 38 ∷ symbol (Ident) 39 41 ∷ symbol (Int (pos 3)) 42 43 ∷ symbol (Ident) 43 44 ∷ symbol (Ident) 45 46 ∷ symbol (Int (pos 1)) 47 48 ∷ symbol (Ident) 48 50 ∷ symbol (Int (pos 5)) 50 51 ∷ symbol (Ident) 51 52 ∷ symbol (Ident) 53 56 ∷ symbol (Ident) 57 60 ∷ symbol (Ident) 61 62 ∷ symbol (Ident) 62 63 ∷ []) }; tree = record { module_word = 0; name = 1; semicolon = 0; imports = None; decls = (S.decls None None (Some (record { var_word = 0; each = (record { names = (record { first = (record { name = 4; star = None }); more = [] }); colon = 0; of = (S.Named (record { name = 6; member = None })); semicolon = 0 } ∷ []) })) S.no_procedure); body = (Some (record { begin_word = 0; stats = (S.stats (S.Case 0 (S.only (S.simple None (S.term (S.Designated 10 S.no_selector) S.no_factor) S.no_term)) 0 (S.one_case (record { low = TheLabel.Int 12; high = None }) [] 0 (S.stats S.Empty S.no_stat)) (S.next_case 0 (S.one_case (record { low = TheLabel.Int 15; high = Some (record { dots = 0; label = TheLabel.Int 17 }) }) [] 0 (S.stats S.Empty S.no_stat)) S.no_next_case) 0) S.no_stat) })); end_word = 0; end_name = 21; period = 0 } }

pub bad_label_14 : checked (bad_label_14_0 ∷ []) ≡ Fault 0 39 47
bad_label_14 = refl

-- MODULE M; VAR i: INTEGER; BEGIN CASE i OF 1..2: | 4..5: | 0..3: END END M.
abbrev bad_label_15_0 : Parsed
bad_label_15_0 = record { source = record { bytes = (77 ∷ 79 ∷ 68 ∷ 85 ∷ 76 ∷ 69 ∷ 32 ∷ 77 ∷ 59 ∷ 32 ∷ 86 ∷ 65 ∷ 82 ∷ 32 ∷ 105 ∷ 58 ∷ 32 ∷ 73 ∷ 78 ∷ 84 ∷ 69 ∷ 71 ∷ 69 ∷ 82 ∷ 59 ∷ 32 ∷ 66 ∷ 69 ∷ 71 ∷ 73 ∷ 78 ∷ 32 ∷ 67 ∷ 65 ∷ 83 ∷ 69 ∷ 32 ∷ 105 ∷ 32 ∷ 79 ∷ 70 ∷ 32 ∷ 49 ∷ 46 ∷ 46 ∷ 50 ∷ 58 ∷ 32 ∷ 124 ∷ 32 ∷ 52 ∷ 46 ∷ 46 ∷ 53 ∷ 58 ∷ 32 ∷ 124 ∷ 32 ∷ 48 ∷ 46 ∷ 46 ∷ 51 ∷ 58 ∷ 32 ∷ 69 ∷ 78 ∷ 68 ∷ 32 ∷ 69 ∷ 78 ∷ 68 ∷ 32 ∷ 77 ∷ 46 ∷ []); symbols = (symbol (Ident) 0 6 ∷ symbol (Ident) 7 8 ∷ symbol (Ident) 8 9 ∷ symbol (Ident) 10 13 ∷ symbol (Ident) 14 15 ∷ symbol (Ident) 15 16 ∷ symbol (Ident) 17 24 ∷ symbol (Ident) 24 25 ∷ symbol (Ident) 26 31 ∷ symbol (Ident) 32 36 ∷ symbol (Ident) 37 38 ∷ symbol (Ident) 39 41 ∷ symbol (Int (pos 1)) 42 43 ∷ symbol (Ident) 43 45 ∷ symbol (Int (pos 2)) 45 46 ∷ symbol (Ident) 46 47 ∷ symbol (Ident) 48 49 ∷ symbol (Int (pos 4)) 50 51 ∷ symbol (Ident) 51 53 ∷ symbol (Int (pos 5)) 53 54 ∷ symbol (Ident) 54 55 ∷ symbol (Ident) 56 57 ∷ symbol (Int (pos 0)) 58 59 ∷ symbol (Ident) 59 61 ∷ symbol (Int (pos 3)) 61 62 ∷ symbol (Ident) 62 63 ∷ symbol (Ident) 64 67 ∷ symbol (Ident) 68 71 ∷ symbol (Ident) 72 73 ∷ symbol (Ident) 73 74 ∷ []) }; tree = record { module_word = 0; name = 1; semicolon = 0; imports = None; decls = (S.decls None None (Some (record { var_word = 0; each = (record { names = (record { first = (record { name = 4; star = None }); more = [] }); colon = 0; of = (S.Named (record { name = 6; member = None })); semicolon = 0 } ∷ []) })) S.no_procedure); body = (Some (record { begin_word = 0; stats = (S.stats (S.Case 0 (S.only (S.simple None (S.term (S.Designated 10 S.no_selector) S.no_factor) S.no_term)) 0 (S.one_case (record { low = TheLabel.Int 12; high = Some (record { dots = 0; label = TheLabel.Int 14 }) }) [] 0 (S.stats S.Empty S.no_stat)) (S.next_case 0 (S.one_case (record { low = TheLabel.Int 17; high = Some (record { dots = 0; label = TheLabel.Int 19 }) }) [] 0 (S.stats S.Empty S.no_stat)) (S.next_case 0 (S.one_case (record { low = TheLabel.Int 22; high = Some (record { dots = 0; label = TheLabel.Int 24 }) }) [] 0 (S.stats S.Empty S.no_stat)) S.no_next_case)) 0) S.no_stat) })); end_word = 0; end_name = 28; period = 0 } }

pub bad_label_15 : checked (bad_label_15_0 ∷ []) ≡ Fault 0 39 58
bad_label_15 = refl

-- MODULE M; TYPE R = RECORD x: INTEGER; y*: CHAR END; P = POINTER TO R; VAR p: P; BEGIN CASE p OF 1: END END M.
abbrev bad_label_16_0 : Parsed
bad_label_16_0 = record { source = record { bytes = (77 ∷ 79 ∷ 68 ∷ 85 ∷ 76 ∷ 69 ∷ 32 ∷ 77 ∷ 59 ∷ 32 ∷ 84 ∷ 89 ∷ 80 ∷ 69 ∷ 32 ∷ 82 ∷ 32 ∷ 61 ∷ 32 ∷ 82 ∷ 69 ∷ 67 ∷ 79 ∷ 82 ∷ 68 ∷ 32 ∷ 120 ∷ 58 ∷ 32 ∷ 73 ∷ 78 ∷ 84 ∷ 69 ∷ 71 ∷ 69 ∷ 82 ∷ 59 ∷ 32 ∷ 121 ∷ 42 ∷ 58 ∷ 32 ∷ 67 ∷ 72 ∷ 65 ∷ 82 ∷ 32 ∷ 69 ∷ 78 ∷ 68 ∷ 59 ∷ 32 ∷ 80 ∷ 32 ∷ 61 ∷ 32 ∷ 80 ∷ 79 ∷ 73 ∷ 78 ∷ 84 ∷ 69 ∷ 82 ∷ 32 ∷ 84 ∷ 79 ∷ 32 ∷ 82 ∷ 59 ∷ 32 ∷ 86 ∷ 65 ∷ 82 ∷ 32 ∷ 112 ∷ 58 ∷ 32 ∷ 80 ∷ 59 ∷ 32 ∷ 66 ∷ 69 ∷ 71 ∷ 73 ∷ 78 ∷ 32 ∷ 67 ∷ 65 ∷ 83 ∷ 69 ∷ 32 ∷ 112 ∷ 32 ∷ 79 ∷ 70 ∷ 32 ∷ 49 ∷ 58 ∷ 32 ∷ 69 ∷ 78 ∷ 68 ∷ 32 ∷ 69 ∷ 78 ∷ 68 ∷ 32 ∷ 77 ∷ 46 ∷ []); symbols = (symbol (Ident) 0 6 ∷ symbol (Ident) 7 8 ∷ symbol (Ident) 8 9 ∷ symbol (Ident) 10 14 ∷ symbol (Ident) 15 16 ∷ symbol (Ident) 17 18 ∷ symbol (Ident) 19 25 ∷ symbol (Ident) 26 27 ∷ symbol (Ident) 27 28 ∷ symbol (Ident) 29 36 ∷ symbol (Ident) 36 37 ∷ symbol (Ident) 38 39 ∷ symbol (Ident) 39 40 ∷ symbol (Ident) 40 41 ∷ symbol (Ident) 42 46 ∷ symbol (Ident) 47 50 ∷ symbol (Ident) 50 51 ∷ symbol (Ident) 52 53 ∷ symbol (Ident) 54 55 ∷ symbol (Ident) 56 63 ∷ symbol (Ident) 64 66 ∷ symbol (Ident) 67 68 ∷ symbol (Ident) 68 69 ∷ symbol (Ident) 70 73 ∷ symbol (Ident) 74 75 ∷ symbol (Ident) 75 76 ∷ symbol (Ident) 77 78 ∷ symbol (Ident) 78 79 ∷ symbol (Ident) 80 85 ∷ symbol (Ident) 86 90 ∷ symbol (Ident) 91 92 ∷ symbol (Ident) 93 95 ∷ symbol (Int (pos 1)) 96 97 ∷ symbol (Ident) 97 98 ∷ symbol (Ident) 99 102 ∷ symbol (Ident) 103 106 ∷ symbol (Ident) 107 108 ∷ symbol (Ident) 108 109 ∷ []) }; tree = record { module_word = 0; name = 1; semicolon = 0; imports = None; decls = (S.decls None (Some (record { type_word = 0; each = (record { name = (record { name = 4; star = None }); equal = 0; is = (S.Record 6 None (S.fields (record { first = (record { name = 7; star = None }); more = [] }) 0 (S.Named (record { name = 9; member = None }))) (S.next_fields 0 (S.fields (record { first = (record { name = 11; star = Some 0 }); more = [] }) 0 (S.Named (record { name = 14; member = None }))) S.no_more_fields) 0); semicolon = 0 } ∷ record { name = (record { name = 17; star = None }); equal = 0; is = (S.Pointer 19 0 (S.Named (record { name = 21; member = None }))); semicolon = 0 } ∷ []) })) (Some (record { var_word = 0; each = (record { names = (record { first = (record { name = 24; star = None }); more = [] }); colon = 0; of = (S.Named (record { name = 26; member = None })); semicolon = 0 } ∷ []) })) S.no_procedure); body = (Some (record { begin_word = 0; stats = (S.stats (S.Case 0 (S.only (S.simple None (S.term (S.Designated 30 S.no_selector) S.no_factor) S.no_term)) 0 (S.one_case (record { low = TheLabel.Int 32; high = None }) [] 0 (S.stats S.Empty S.no_stat)) S.no_next_case 0) S.no_stat) })); end_word = 0; end_name = 36; period = 0 } }

pub bad_label_16 : checked (bad_label_16_0 ∷ []) ≡ Fault 0 39 96
bad_label_16 = refl

-- MODULE M; TYPE R = RECORD x: INTEGER; y*: CHAR END; P = POINTER TO R; VAR p: P; BEGIN CASE p OF R: END END M.
abbrev bad_label_17_0 : Parsed
bad_label_17_0 = record { source = record { bytes = (77 ∷ 79 ∷ 68 ∷ 85 ∷ 76 ∷ 69 ∷ 32 ∷ 77 ∷ 59 ∷ 32 ∷ 84 ∷ 89 ∷ 80 ∷ 69 ∷ 32 ∷ 82 ∷ 32 ∷ 61 ∷ 32 ∷ 82 ∷ 69 ∷ 67 ∷ 79 ∷ 82 ∷ 68 ∷ 32 ∷ 120 ∷ 58 ∷ 32 ∷ 73 ∷ 78 ∷ 84 ∷ 69 ∷ 71 ∷ 69 ∷ 82 ∷ 59 ∷ 32 ∷ 121 ∷ 42 ∷ 58 ∷ 32 ∷ 67 ∷ 72 ∷ 65 ∷ 82 ∷ 32 ∷ 69 ∷ 78 ∷ 68 ∷ 59 ∷ 32 ∷ 80 ∷ 32 ∷ 61 ∷ 32 ∷ 80 ∷ 79 ∷ 73 ∷ 78 ∷ 84 ∷ 69 ∷ 82 ∷ 32 ∷ 84 ∷ 79 ∷ 32 ∷ 82 ∷ 59 ∷ 32 ∷ 86 ∷ 65 ∷ 82 ∷ 32 ∷ 112 ∷ 58 ∷ 32 ∷ 80 ∷ 59 ∷ 32 ∷ 66 ∷ 69 ∷ 71 ∷ 73 ∷ 78 ∷ 32 ∷ 67 ∷ 65 ∷ 83 ∷ 69 ∷ 32 ∷ 112 ∷ 32 ∷ 79 ∷ 70 ∷ 32 ∷ 82 ∷ 58 ∷ 32 ∷ 69 ∷ 78 ∷ 68 ∷ 32 ∷ 69 ∷ 78 ∷ 68 ∷ 32 ∷ 77 ∷ 46 ∷ []); symbols = (symbol (Ident) 0 6 ∷ symbol (Ident) 7 8 ∷ symbol (Ident) 8 9 ∷ symbol (Ident) 10 14 ∷ symbol (Ident) 15 16 ∷ symbol (Ident) 17 18 ∷ symbol (Ident) 19 25 ∷ symbol (Ident) 26 27 ∷ symbol (Ident) 27 28 ∷ symbol (Ident) 29 36 ∷ symbol (Ident) 36 37 ∷ symbol (Ident) 38 39 ∷ symbol (Ident) 39 40 ∷ symbol (Ident) 40 41 ∷ symbol (Ident) 42 46 ∷ symbol (Ident) 47 50 ∷ symbol (Ident) 50 51 ∷ symbol (Ident) 52 53 ∷ symbol (Ident) 54 55 ∷ symbol (Ident) 56 63 ∷ symbol (Ident) 64 66 ∷ symbol (Ident) 67 68 ∷ symbol (Ident) 68 69 ∷ symbol (Ident) 70 73 ∷ symbol (Ident) 74 75 ∷ symbol (Ident) 75 76 ∷ symbol (Ident) 77 78 ∷ symbol (Ident) 78 79 ∷ symbol (Ident) 80 85 ∷ symbol (Ident) 86 90 ∷ symbol (Ident) 91 92 ∷ symbol (Ident) 93 95 ∷ symbol (Ident) 96 97 ∷ symbol (Ident) 97 98 ∷ symbol (Ident) 99 102 ∷ symbol (Ident) 103 106 ∷ symbol (Ident) 107 108 ∷ symbol (Ident) 108 109 ∷ []) }; tree = record { module_word = 0; name = 1; semicolon = 0; imports = None; decls = (S.decls None (Some (record { type_word = 0; each = (record { name = (record { name = 4; star = None }); equal = 0; is = (S.Record 6 None (S.fields (record { first = (record { name = 7; star = None }); more = [] }) 0 (S.Named (record { name = 9; member = None }))) (S.next_fields 0 (S.fields (record { first = (record { name = 11; star = Some 0 }); more = [] }) 0 (S.Named (record { name = 14; member = None }))) S.no_more_fields) 0); semicolon = 0 } ∷ record { name = (record { name = 17; star = None }); equal = 0; is = (S.Pointer 19 0 (S.Named (record { name = 21; member = None }))); semicolon = 0 } ∷ []) })) (Some (record { var_word = 0; each = (record { names = (record { first = (record { name = 24; star = None }); more = [] }); colon = 0; of = (S.Named (record { name = 26; member = None })); semicolon = 0 } ∷ []) })) S.no_procedure); body = (Some (record { begin_word = 0; stats = (S.stats (S.Case 0 (S.only (S.simple None (S.term (S.Designated 30 S.no_selector) S.no_factor) S.no_term)) 0 (S.one_case (record { low = TheLabel.Named (record { name = 32; member = None }); high = None }) [] 0 (S.stats S.Empty S.no_stat)) S.no_next_case 0) S.no_stat) })); end_word = 0; end_name = 36; period = 0 } }

pub bad_label_17 : checked (bad_label_17_0 ∷ []) ≡ Fault 0 39 96
bad_label_17 = refl

-- MODULE M; TYPE R = RECORD x: INTEGER; y*: CHAR END; E = RECORD (R) z: SET END; P = POINTER TO R; Q = POINTER TO E; VAR q: Q; BEGIN CASE q OF P: END END M.
abbrev bad_label_18_0 : Parsed
bad_label_18_0 = record { source = record { bytes = (77 ∷ 79 ∷ 68 ∷ 85 ∷ 76 ∷ 69 ∷ 32 ∷ 77 ∷ 59 ∷ 32 ∷ 84 ∷ 89 ∷ 80 ∷ 69 ∷ 32 ∷ 82 ∷ 32 ∷ 61 ∷ 32 ∷ 82 ∷ 69 ∷ 67 ∷ 79 ∷ 82 ∷ 68 ∷ 32 ∷ 120 ∷ 58 ∷ 32 ∷ 73 ∷ 78 ∷ 84 ∷ 69 ∷ 71 ∷ 69 ∷ 82 ∷ 59 ∷ 32 ∷ 121 ∷ 42 ∷ 58 ∷ 32 ∷ 67 ∷ 72 ∷ 65 ∷ 82 ∷ 32 ∷ 69 ∷ 78 ∷ 68 ∷ 59 ∷ 32 ∷ 69 ∷ 32 ∷ 61 ∷ 32 ∷ 82 ∷ 69 ∷ 67 ∷ 79 ∷ 82 ∷ 68 ∷ 32 ∷ 40 ∷ 82 ∷ 41 ∷ 32 ∷ 122 ∷ 58 ∷ 32 ∷ 83 ∷ 69 ∷ 84 ∷ 32 ∷ 69 ∷ 78 ∷ 68 ∷ 59 ∷ 32 ∷ 80 ∷ 32 ∷ 61 ∷ 32 ∷ 80 ∷ 79 ∷ 73 ∷ 78 ∷ 84 ∷ 69 ∷ 82 ∷ 32 ∷ 84 ∷ 79 ∷ 32 ∷ 82 ∷ 59 ∷ 32 ∷ 81 ∷ 32 ∷ 61 ∷ 32 ∷ 80 ∷ 79 ∷ 73 ∷ 78 ∷ 84 ∷ 69 ∷ 82 ∷ 32 ∷ 84 ∷ 79 ∷ 32 ∷ 69 ∷ 59 ∷ 32 ∷ 86 ∷ 65 ∷ 82 ∷ 32 ∷ 113 ∷ 58 ∷ 32 ∷ 81 ∷ 59 ∷ 32 ∷ 66 ∷ 69 ∷ 71 ∷ 73 ∷ 78 ∷ 32 ∷ 67 ∷ 65 ∷ 83 ∷ 69 ∷ 32 ∷ 113 ∷ 32 ∷ 79 ∷ 70 ∷ 32 ∷ 80 ∷ 58 ∷ 32 ∷ 69 ∷ 78 ∷ 68 ∷ 32 ∷ 69 ∷ 78 ∷ 68 ∷ 32 ∷ 77 ∷ 46 ∷ []); symbols = (symbol (Ident) 0 6 ∷ symbol (Ident) 7 8 ∷ symbol (Ident) 8 9 ∷ symbol (Ident) 10 14 ∷ symbol (Ident) 15 16 ∷ symbol (Ident) 17 18 ∷ symbol (Ident) 19 25 ∷ symbol (Ident) 26 27 ∷ symbol (Ident) 27 28 ∷ symbol (Ident) 29 36 ∷ symbol (Ident) 36 37 ∷ symbol (Ident) 38 39 ∷ symbol (Ident) 39 40 ∷ symbol (Ident) 40 41 ∷ symbol (Ident) 42 46 ∷ symbol (Ident) 47 50 ∷ symbol (Ident) 50 51 ∷ symbol (Ident) 52 53 ∷ symbol (Ident) 54 55 ∷ symbol (Ident) 56 62 ∷ symbol (Ident) 63 64 ∷ symbol (Ident) 64 65 ∷ symbol (Ident) 65 66 ∷ symbol (Ident) 67 68 ∷ symbol (Ident) 68 69 ∷ symbol (Ident) 70 73 ∷ symbol (Ident) 74 77 ∷ symbol (Ident) 77 78 ∷ symbol (Ident) 79 80 ∷ symbol (Ident) 81 82 ∷ symbol (Ident) 83 90 ∷ symbol (Ident) 91 93 ∷ symbol (Ident) 94 95 ∷ symbol (Ident) 95 96 ∷ symbol (Ident) 97 98 ∷ symbol (Ident) 99 100 ∷ symbol (Ident) 101 108 ∷ symbol (Ident) 109 111 ∷ symbol (Ident) 112 113 ∷ symbol (Ident) 113 114 ∷ symbol (Ident) 115 118 ∷ symbol (Ident) 119 120 ∷ symbol (Ident) 120 121 ∷ symbol (Ident) 122 123 ∷ symbol (Ident) 123 124 ∷ symbol (Ident) 125 130 ∷ symbol (Ident) 131 135 ∷ symbol (Ident) 136 137 ∷ symbol (Ident) 138 140 ∷ symbol (Ident) 141 142 ∷ symbol (Ident) 142 143 ∷ symbol (Ident) 144 147 ∷ symbol (Ident) 148 151 ∷ symbol (Ident) 152 153 ∷ symbol (Ident) 153 154 ∷ []) }; tree = record { module_word = 0; name = 1; semicolon = 0; imports = None; decls = (S.decls None (Some (record { type_word = 0; each = (record { name = (record { name = 4; star = None }); equal = 0; is = (S.Record 6 None (S.fields (record { first = (record { name = 7; star = None }); more = [] }) 0 (S.Named (record { name = 9; member = None }))) (S.next_fields 0 (S.fields (record { first = (record { name = 11; star = Some 0 }); more = [] }) 0 (S.Named (record { name = 14; member = None }))) S.no_more_fields) 0); semicolon = 0 } ∷ record { name = (record { name = 17; star = None }); equal = 0; is = (S.Record 19 (Some (record { left_paren = 0; name = (record { name = 21; member = None }); right_paren = 0 })) (S.fields (record { first = (record { name = 23; star = None }); more = [] }) 0 (S.Named (record { name = 25; member = None }))) S.no_more_fields 0); semicolon = 0 } ∷ record { name = (record { name = 28; star = None }); equal = 0; is = (S.Pointer 30 0 (S.Named (record { name = 32; member = None }))); semicolon = 0 } ∷ record { name = (record { name = 34; star = None }); equal = 0; is = (S.Pointer 36 0 (S.Named (record { name = 38; member = None }))); semicolon = 0 } ∷ []) })) (Some (record { var_word = 0; each = (record { names = (record { first = (record { name = 41; star = None }); more = [] }); colon = 0; of = (S.Named (record { name = 43; member = None })); semicolon = 0 } ∷ []) })) S.no_procedure); body = (Some (record { begin_word = 0; stats = (S.stats (S.Case 0 (S.only (S.simple None (S.term (S.Designated 47 S.no_selector) S.no_factor) S.no_term)) 0 (S.one_case (record { low = TheLabel.Named (record { name = 49; member = None }); high = None }) [] 0 (S.stats S.Empty S.no_stat)) S.no_next_case 0) S.no_stat) })); end_word = 0; end_name = 53; period = 0 } }

pub bad_label_18 : checked (bad_label_18_0 ∷ []) ≡ Fault 0 39 141
bad_label_18 = refl

-- MODULE M; TYPE R = RECORD x: INTEGER; y*: CHAR END; E = RECORD (R) z: SET END; P = POINTER TO R; Q = POINTER TO E; VAR p: P; BEGIN CASE p OF Q, P: END END M.
abbrev bad_label_19_0 : Parsed
bad_label_19_0 = record { source = record { bytes = (77 ∷ 79 ∷ 68 ∷ 85 ∷ 76 ∷ 69 ∷ 32 ∷ 77 ∷ 59 ∷ 32 ∷ 84 ∷ 89 ∷ 80 ∷ 69 ∷ 32 ∷ 82 ∷ 32 ∷ 61 ∷ 32 ∷ 82 ∷ 69 ∷ 67 ∷ 79 ∷ 82 ∷ 68 ∷ 32 ∷ 120 ∷ 58 ∷ 32 ∷ 73 ∷ 78 ∷ 84 ∷ 69 ∷ 71 ∷ 69 ∷ 82 ∷ 59 ∷ 32 ∷ 121 ∷ 42 ∷ 58 ∷ 32 ∷ 67 ∷ 72 ∷ 65 ∷ 82 ∷ 32 ∷ 69 ∷ 78 ∷ 68 ∷ 59 ∷ 32 ∷ 69 ∷ 32 ∷ 61 ∷ 32 ∷ 82 ∷ 69 ∷ 67 ∷ 79 ∷ 82 ∷ 68 ∷ 32 ∷ 40 ∷ 82 ∷ 41 ∷ 32 ∷ 122 ∷ 58 ∷ 32 ∷ 83 ∷ 69 ∷ 84 ∷ 32 ∷ 69 ∷ 78 ∷ 68 ∷ 59 ∷ 32 ∷ 80 ∷ 32 ∷ 61 ∷ 32 ∷ 80 ∷ 79 ∷ 73 ∷ 78 ∷ 84 ∷ 69 ∷ 82 ∷ 32 ∷ 84 ∷ 79 ∷ 32 ∷ 82 ∷ 59 ∷ 32 ∷ 81 ∷ 32 ∷ 61 ∷ 32 ∷ 80 ∷ 79 ∷ 73 ∷ 78 ∷ 84 ∷ 69 ∷ 82 ∷ 32 ∷ 84 ∷ 79 ∷ 32 ∷ 69 ∷ 59 ∷ 32 ∷ 86 ∷ 65 ∷ 82 ∷ 32 ∷ 112 ∷ 58 ∷ 32 ∷ 80 ∷ 59 ∷ 32 ∷ 66 ∷ 69 ∷ 71 ∷ 73 ∷ 78 ∷ 32 ∷ 67 ∷ 65 ∷ 83 ∷ 69 ∷ 32 ∷ 112 ∷ 32 ∷ 79 ∷ 70 ∷ 32 ∷ 81 ∷ 44 ∷ 32 ∷ 80 ∷ 58 ∷ 32 ∷ 69 ∷ 78 ∷ 68 ∷ 32 ∷ 69 ∷ 78 ∷ 68 ∷ 32 ∷ 77 ∷ 46 ∷ []); symbols = (symbol (Ident) 0 6 ∷ symbol (Ident) 7 8 ∷ symbol (Ident) 8 9 ∷ symbol (Ident) 10 14 ∷ symbol (Ident) 15 16 ∷ symbol (Ident) 17 18 ∷ symbol (Ident) 19 25 ∷ symbol (Ident) 26 27 ∷ symbol (Ident) 27 28 ∷ symbol (Ident) 29 36 ∷ symbol (Ident) 36 37 ∷ symbol (Ident) 38 39 ∷ symbol (Ident) 39 40 ∷ symbol (Ident) 40 41 ∷ symbol (Ident) 42 46 ∷ symbol (Ident) 47 50 ∷ symbol (Ident) 50 51 ∷ symbol (Ident) 52 53 ∷ symbol (Ident) 54 55 ∷ symbol (Ident) 56 62 ∷ symbol (Ident) 63 64 ∷ symbol (Ident) 64 65 ∷ symbol (Ident) 65 66 ∷ symbol (Ident) 67 68 ∷ symbol (Ident) 68 69 ∷ symbol (Ident) 70 73 ∷ symbol (Ident) 74 77 ∷ symbol (Ident) 77 78 ∷ symbol (Ident) 79 80 ∷ symbol (Ident) 81 82 ∷ symbol (Ident) 83 90 ∷ symbol (Ident) 91 93 ∷ symbol (Ident) 94 95 ∷ symbol (Ident) 95 96 ∷ symbol (Ident) 97 98 ∷ symbol (Ident) 99 100 ∷ symbol (Ident) 101 108 ∷ symbol (Ident) 109 111 ∷ symbol (Ident) 112 113 ∷ symbol (Ident) 113 114 ∷ symbol (Ident) 115 118 ∷ symbol (Ident) 119 120 ∷ symbol (Ident) 120 121 ∷ symbol (Ident) 122 123 ∷ symbol (Ident) 123 124 ∷ symbol (Ident) 125 130 ∷ symbol (Ident) 131 135 ∷ symbol (Ident) 136 137 ∷ symbol (Ident) 138 140 ∷ symbol (Ident) 141 142 ∷ symbol (Ident) 142 143 ∷ symbol (Ident) 144 145 ∷ symbol (Ident) 145 146 ∷ symbol (Ident) 147 150 ∷ symbol (Ident) 151 154 ∷ symbol (Ident) 155 156 ∷ symbol (Ident) 156 157 ∷ []) }; tree = record { module_word = 0; name = 1; semicolon = 0; imports = None; decls = (S.decls None (Some (record { type_word = 0; each = (record { name = (record { name = 4; star = None }); equal = 0; is = (S.Record 6 None (S.fields (record { first = (record { name = 7; star = None }); more = [] }) 0 (S.Named (record { name = 9; member = None }))) (S.next_fields 0 (S.fields (record { first = (record { name = 11; star = Some 0 }); more = [] }) 0 (S.Named (record { name = 14; member = None }))) S.no_more_fields) 0); semicolon = 0 } ∷ record { name = (record { name = 17; star = None }); equal = 0; is = (S.Record 19 (Some (record { left_paren = 0; name = (record { name = 21; member = None }); right_paren = 0 })) (S.fields (record { first = (record { name = 23; star = None }); more = [] }) 0 (S.Named (record { name = 25; member = None }))) S.no_more_fields 0); semicolon = 0 } ∷ record { name = (record { name = 28; star = None }); equal = 0; is = (S.Pointer 30 0 (S.Named (record { name = 32; member = None }))); semicolon = 0 } ∷ record { name = (record { name = 34; star = None }); equal = 0; is = (S.Pointer 36 0 (S.Named (record { name = 38; member = None }))); semicolon = 0 } ∷ []) })) (Some (record { var_word = 0; each = (record { names = (record { first = (record { name = 41; star = None }); more = [] }); colon = 0; of = (S.Named (record { name = 43; member = None })); semicolon = 0 } ∷ []) })) S.no_procedure); body = (Some (record { begin_word = 0; stats = (S.stats (S.Case 0 (S.only (S.simple None (S.term (S.Designated 47 S.no_selector) S.no_factor) S.no_term)) 0 (S.one_case (record { low = TheLabel.Named (record { name = 49; member = None }); high = None }) (record { comma = 0; range = (record { low = TheLabel.Named (record { name = 51; member = None }); high = None }) } ∷ []) 0 (S.stats S.Empty S.no_stat)) S.no_next_case 0) S.no_stat) })); end_word = 0; end_name = 55; period = 0 } }

pub bad_label_19 : checked (bad_label_19_0 ∷ []) ≡ Fault 0 39 144
bad_label_19 = refl

-- MODULE M; TYPE R = RECORD x: INTEGER; y*: CHAR END; E = RECORD (R) z: SET END; P = POINTER TO R; Q = POINTER TO E; VAR p: P; BEGIN CASE p OF Q..P: END END M.
abbrev bad_label_20_0 : Parsed
bad_label_20_0 = record { source = record { bytes = (77 ∷ 79 ∷ 68 ∷ 85 ∷ 76 ∷ 69 ∷ 32 ∷ 77 ∷ 59 ∷ 32 ∷ 84 ∷ 89 ∷ 80 ∷ 69 ∷ 32 ∷ 82 ∷ 32 ∷ 61 ∷ 32 ∷ 82 ∷ 69 ∷ 67 ∷ 79 ∷ 82 ∷ 68 ∷ 32 ∷ 120 ∷ 58 ∷ 32 ∷ 73 ∷ 78 ∷ 84 ∷ 69 ∷ 71 ∷ 69 ∷ 82 ∷ 59 ∷ 32 ∷ 121 ∷ 42 ∷ 58 ∷ 32 ∷ 67 ∷ 72 ∷ 65 ∷ 82 ∷ 32 ∷ 69 ∷ 78 ∷ 68 ∷ 59 ∷ 32 ∷ 69 ∷ 32 ∷ 61 ∷ 32 ∷ 82 ∷ 69 ∷ 67 ∷ 79 ∷ 82 ∷ 68 ∷ 32 ∷ 40 ∷ 82 ∷ 41 ∷ 32 ∷ 122 ∷ 58 ∷ 32 ∷ 83 ∷ 69 ∷ 84 ∷ 32 ∷ 69 ∷ 78 ∷ 68 ∷ 59 ∷ 32 ∷ 80 ∷ 32 ∷ 61 ∷ 32 ∷ 80 ∷ 79 ∷ 73 ∷ 78 ∷ 84 ∷ 69 ∷ 82 ∷ 32 ∷ 84 ∷ 79 ∷ 32 ∷ 82 ∷ 59 ∷ 32 ∷ 81 ∷ 32 ∷ 61 ∷ 32 ∷ 80 ∷ 79 ∷ 73 ∷ 78 ∷ 84 ∷ 69 ∷ 82 ∷ 32 ∷ 84 ∷ 79 ∷ 32 ∷ 69 ∷ 59 ∷ 32 ∷ 86 ∷ 65 ∷ 82 ∷ 32 ∷ 112 ∷ 58 ∷ 32 ∷ 80 ∷ 59 ∷ 32 ∷ 66 ∷ 69 ∷ 71 ∷ 73 ∷ 78 ∷ 32 ∷ 67 ∷ 65 ∷ 83 ∷ 69 ∷ 32 ∷ 112 ∷ 32 ∷ 79 ∷ 70 ∷ 32 ∷ 81 ∷ 46 ∷ 46 ∷ 80 ∷ 58 ∷ 32 ∷ 69 ∷ 78 ∷ 68 ∷ 32 ∷ 69 ∷ 78 ∷ 68 ∷ 32 ∷ 77 ∷ 46 ∷ []); symbols = (symbol (Ident) 0 6 ∷ symbol (Ident) 7 8 ∷ symbol (Ident) 8 9 ∷ symbol (Ident) 10 14 ∷ symbol (Ident) 15 16 ∷ symbol (Ident) 17 18 ∷ symbol (Ident) 19 25 ∷ symbol (Ident) 26 27 ∷ symbol (Ident) 27 28 ∷ symbol (Ident) 29 36 ∷ symbol (Ident) 36 37 ∷ symbol (Ident) 38 39 ∷ symbol (Ident) 39 40 ∷ symbol (Ident) 40 41 ∷ symbol (Ident) 42 46 ∷ symbol (Ident) 47 50 ∷ symbol (Ident) 50 51 ∷ symbol (Ident) 52 53 ∷ symbol (Ident) 54 55 ∷ symbol (Ident) 56 62 ∷ symbol (Ident) 63 64 ∷ symbol (Ident) 64 65 ∷ symbol (Ident) 65 66 ∷ symbol (Ident) 67 68 ∷ symbol (Ident) 68 69 ∷ symbol (Ident) 70 73 ∷ symbol (Ident) 74 77 ∷ symbol (Ident) 77 78 ∷ symbol (Ident) 79 80 ∷ symbol (Ident) 81 82 ∷ symbol (Ident) 83 90 ∷ symbol (Ident) 91 93 ∷ symbol (Ident) 94 95 ∷ symbol (Ident) 95 96 ∷ symbol (Ident) 97 98 ∷ symbol (Ident) 99 100 ∷ symbol (Ident) 101 108 ∷ symbol (Ident) 109 111 ∷ symbol (Ident) 112 113 ∷ symbol (Ident) 113 114 ∷ symbol (Ident) 115 118 ∷ symbol (Ident) 119 120 ∷ symbol (Ident) 120 121 ∷ symbol (Ident) 122 123 ∷ symbol (Ident) 123 124 ∷ symbol (Ident) 125 130 ∷ symbol (Ident) 131 135 ∷ symbol (Ident) 136 137 ∷ symbol (Ident) 138 140 ∷ symbol (Ident) 141 142 ∷ symbol (Ident) 142 144 ∷ symbol (Ident) 144 145 ∷ symbol (Ident) 145 146 ∷ symbol (Ident) 147 150 ∷ symbol (Ident) 151 154 ∷ symbol (Ident) 155 156 ∷ symbol (Ident) 156 157 ∷ []) }; tree = record { module_word = 0; name = 1; semicolon = 0; imports = None; decls = (S.decls None (Some (record { type_word = 0; each = (record { name = (record { name = 4; star = None }); equal = 0; is = (S.Record 6 None (S.fields (record { first = (record { name = 7; star = None }); more = [] }) 0 (S.Named (record { name = 9; member = None }))) (S.next_fields 0 (S.fields (record { first = (record { name = 11; star = Some 0 }); more = [] }) 0 (S.Named (record { name = 14; member = None }))) S.no_more_fields) 0); semicolon = 0 } ∷ record { name = (record { name = 17; star = None }); equal = 0; is = (S.Record 19 (Some (record { left_paren = 0; name = (record { name = 21; member = None }); right_paren = 0 })) (S.fields (record { first = (record { name = 23; star = None }); more = [] }) 0 (S.Named (record { name = 25; member = None }))) S.no_more_fields 0); semicolon = 0 } ∷ record { name = (record { name = 28; star = None }); equal = 0; is = (S.Pointer 30 0 (S.Named (record { name = 32; member = None }))); semicolon = 0 } ∷ record { name = (record { name = 34; star = None }); equal = 0; is = (S.Pointer 36 0 (S.Named (record { name = 38; member = None }))); semicolon = 0 } ∷ []) })) (Some (record { var_word = 0; each = (record { names = (record { first = (record { name = 41; star = None }); more = [] }); colon = 0; of = (S.Named (record { name = 43; member = None })); semicolon = 0 } ∷ []) })) S.no_procedure); body = (Some (record { begin_word = 0; stats = (S.stats (S.Case 0 (S.only (S.simple None (S.term (S.Designated 47 S.no_selector) S.no_factor) S.no_term)) 0 (S.one_case (record { low = TheLabel.Named (record { name = 49; member = None }); high = Some (record { dots = 0; label = TheLabel.Named (record { name = 51; member = None }) }) }) [] 0 (S.stats S.Empty S.no_stat)) S.no_next_case 0) S.no_stat) })); end_word = 0; end_name = 55; period = 0 } }

pub bad_label_20 : checked (bad_label_20_0 ∷ []) ≡ Fault 0 39 141
bad_label_20 = refl

-- MODULE M; TYPE R = RECORD x: INTEGER; y*: CHAR END; P = POINTER TO R; VAR i: INTEGER; p: P; BEGIN CASE p OF i: END END M.
abbrev bad_label_21_0 : Parsed
bad_label_21_0 = record { source = record { bytes = (77 ∷ 79 ∷ 68 ∷ 85 ∷ 76 ∷ 69 ∷ 32 ∷ 77 ∷ 59 ∷ 32 ∷ 84 ∷ 89 ∷ 80 ∷ 69 ∷ 32 ∷ 82 ∷ 32 ∷ 61 ∷ 32 ∷ 82 ∷ 69 ∷ 67 ∷ 79 ∷ 82 ∷ 68 ∷ 32 ∷ 120 ∷ 58 ∷ 32 ∷ 73 ∷ 78 ∷ 84 ∷ 69 ∷ 71 ∷ 69 ∷ 82 ∷ 59 ∷ 32 ∷ 121 ∷ 42 ∷ 58 ∷ 32 ∷ 67 ∷ 72 ∷ 65 ∷ 82 ∷ 32 ∷ 69 ∷ 78 ∷ 68 ∷ 59 ∷ 32 ∷ 80 ∷ 32 ∷ 61 ∷ 32 ∷ 80 ∷ 79 ∷ 73 ∷ 78 ∷ 84 ∷ 69 ∷ 82 ∷ 32 ∷ 84 ∷ 79 ∷ 32 ∷ 82 ∷ 59 ∷ 32 ∷ 86 ∷ 65 ∷ 82 ∷ 32 ∷ 105 ∷ 58 ∷ 32 ∷ 73 ∷ 78 ∷ 84 ∷ 69 ∷ 71 ∷ 69 ∷ 82 ∷ 59 ∷ 32 ∷ 112 ∷ 58 ∷ 32 ∷ 80 ∷ 59 ∷ 32 ∷ 66 ∷ 69 ∷ 71 ∷ 73 ∷ 78 ∷ 32 ∷ 67 ∷ 65 ∷ 83 ∷ 69 ∷ 32 ∷ 112 ∷ 32 ∷ 79 ∷ 70 ∷ 32 ∷ 105 ∷ 58 ∷ 32 ∷ 69 ∷ 78 ∷ 68 ∷ 32 ∷ 69 ∷ 78 ∷ 68 ∷ 32 ∷ 77 ∷ 46 ∷ []); symbols = (symbol (Ident) 0 6 ∷ symbol (Ident) 7 8 ∷ symbol (Ident) 8 9 ∷ symbol (Ident) 10 14 ∷ symbol (Ident) 15 16 ∷ symbol (Ident) 17 18 ∷ symbol (Ident) 19 25 ∷ symbol (Ident) 26 27 ∷ symbol (Ident) 27 28 ∷ symbol (Ident) 29 36 ∷ symbol (Ident) 36 37 ∷ symbol (Ident) 38 39 ∷ symbol (Ident) 39 40 ∷ symbol (Ident) 40 41 ∷ symbol (Ident) 42 46 ∷ symbol (Ident) 47 50 ∷ symbol (Ident) 50 51 ∷ symbol (Ident) 52 53 ∷ symbol (Ident) 54 55 ∷ symbol (Ident) 56 63 ∷ symbol (Ident) 64 66 ∷ symbol (Ident) 67 68 ∷ symbol (Ident) 68 69 ∷ symbol (Ident) 70 73 ∷ symbol (Ident) 74 75 ∷ symbol (Ident) 75 76 ∷ symbol (Ident) 77 84 ∷ symbol (Ident) 84 85 ∷ symbol (Ident) 86 87 ∷ symbol (Ident) 87 88 ∷ symbol (Ident) 89 90 ∷ symbol (Ident) 90 91 ∷ symbol (Ident) 92 97 ∷ symbol (Ident) 98 102 ∷ symbol (Ident) 103 104 ∷ symbol (Ident) 105 107 ∷ symbol (Ident) 108 109 ∷ symbol (Ident) 109 110 ∷ symbol (Ident) 111 114 ∷ symbol (Ident) 115 118 ∷ symbol (Ident) 119 120 ∷ symbol (Ident) 120 121 ∷ []) }; tree = record { module_word = 0; name = 1; semicolon = 0; imports = None; decls = (S.decls None (Some (record { type_word = 0; each = (record { name = (record { name = 4; star = None }); equal = 0; is = (S.Record 6 None (S.fields (record { first = (record { name = 7; star = None }); more = [] }) 0 (S.Named (record { name = 9; member = None }))) (S.next_fields 0 (S.fields (record { first = (record { name = 11; star = Some 0 }); more = [] }) 0 (S.Named (record { name = 14; member = None }))) S.no_more_fields) 0); semicolon = 0 } ∷ record { name = (record { name = 17; star = None }); equal = 0; is = (S.Pointer 19 0 (S.Named (record { name = 21; member = None }))); semicolon = 0 } ∷ []) })) (Some (record { var_word = 0; each = (record { names = (record { first = (record { name = 24; star = None }); more = [] }); colon = 0; of = (S.Named (record { name = 26; member = None })); semicolon = 0 } ∷ record { names = (record { first = (record { name = 28; star = None }); more = [] }); colon = 0; of = (S.Named (record { name = 30; member = None })); semicolon = 0 } ∷ []) })) S.no_procedure); body = (Some (record { begin_word = 0; stats = (S.stats (S.Case 0 (S.only (S.simple None (S.term (S.Designated 34 S.no_selector) S.no_factor) S.no_term)) 0 (S.one_case (record { low = TheLabel.Named (record { name = 36; member = None }); high = None }) [] 0 (S.stats S.Empty S.no_stat)) S.no_next_case 0) S.no_stat) })); end_word = 0; end_name = 40; period = 0 } }

pub bad_label_21 : checked (bad_label_21_0 ∷ []) ≡ Fault 0 39 108
bad_label_21 = refl

-- MODULE M; TYPE R = RECORD x: INTEGER; y*: CHAR END; E = RECORD (R) z: SET END; P = POINTER TO R; Q = POINTER TO E; VAR p: P; BEGIN CASE p OF P: | P: | Q: END END M.
abbrev bad_label_22_0 : Parsed
bad_label_22_0 = record { source = record { bytes = (77 ∷ 79 ∷ 68 ∷ 85 ∷ 76 ∷ 69 ∷ 32 ∷ 77 ∷ 59 ∷ 32 ∷ 84 ∷ 89 ∷ 80 ∷ 69 ∷ 32 ∷ 82 ∷ 32 ∷ 61 ∷ 32 ∷ 82 ∷ 69 ∷ 67 ∷ 79 ∷ 82 ∷ 68 ∷ 32 ∷ 120 ∷ 58 ∷ 32 ∷ 73 ∷ 78 ∷ 84 ∷ 69 ∷ 71 ∷ 69 ∷ 82 ∷ 59 ∷ 32 ∷ 121 ∷ 42 ∷ 58 ∷ 32 ∷ 67 ∷ 72 ∷ 65 ∷ 82 ∷ 32 ∷ 69 ∷ 78 ∷ 68 ∷ 59 ∷ 32 ∷ 69 ∷ 32 ∷ 61 ∷ 32 ∷ 82 ∷ 69 ∷ 67 ∷ 79 ∷ 82 ∷ 68 ∷ 32 ∷ 40 ∷ 82 ∷ 41 ∷ 32 ∷ 122 ∷ 58 ∷ 32 ∷ 83 ∷ 69 ∷ 84 ∷ 32 ∷ 69 ∷ 78 ∷ 68 ∷ 59 ∷ 32 ∷ 80 ∷ 32 ∷ 61 ∷ 32 ∷ 80 ∷ 79 ∷ 73 ∷ 78 ∷ 84 ∷ 69 ∷ 82 ∷ 32 ∷ 84 ∷ 79 ∷ 32 ∷ 82 ∷ 59 ∷ 32 ∷ 81 ∷ 32 ∷ 61 ∷ 32 ∷ 80 ∷ 79 ∷ 73 ∷ 78 ∷ 84 ∷ 69 ∷ 82 ∷ 32 ∷ 84 ∷ 79 ∷ 32 ∷ 69 ∷ 59 ∷ 32 ∷ 86 ∷ 65 ∷ 82 ∷ 32 ∷ 112 ∷ 58 ∷ 32 ∷ 80 ∷ 59 ∷ 32 ∷ 66 ∷ 69 ∷ 71 ∷ 73 ∷ 78 ∷ 32 ∷ 67 ∷ 65 ∷ 83 ∷ 69 ∷ 32 ∷ 112 ∷ 32 ∷ 79 ∷ 70 ∷ 32 ∷ 80 ∷ 58 ∷ 32 ∷ 124 ∷ 32 ∷ 80 ∷ 58 ∷ 32 ∷ 124 ∷ 32 ∷ 81 ∷ 58 ∷ 32 ∷ 69 ∷ 78 ∷ 68 ∷ 32 ∷ 69 ∷ 78 ∷ 68 ∷ 32 ∷ 77 ∷ 46 ∷ []); symbols = (symbol (Ident) 0 6 ∷ symbol (Ident) 7 8 ∷ symbol (Ident) 8 9 ∷ symbol (Ident) 10 14 ∷ symbol (Ident) 15 16 ∷ symbol (Ident) 17 18 ∷ symbol (Ident) 19 25 ∷ symbol (Ident) 26 27 ∷ symbol (Ident) 27 28 ∷ symbol (Ident) 29 36 ∷ symbol (Ident) 36 37 ∷ symbol (Ident) 38 39 ∷ symbol (Ident) 39 40 ∷ symbol (Ident) 40 41 ∷ symbol (Ident) 42 46 ∷ symbol (Ident) 47 50 ∷ symbol (Ident) 50 51 ∷ symbol (Ident) 52 53 ∷ symbol (Ident) 54 55 ∷ symbol (Ident) 56 62 ∷ symbol (Ident) 63 64 ∷ symbol (Ident) 64 65 ∷ symbol (Ident) 65 66 ∷ symbol (Ident) 67 68 ∷ symbol (Ident) 68 69 ∷ symbol (Ident) 70 73 ∷ symbol (Ident) 74 77 ∷ symbol (Ident) 77 78 ∷ symbol (Ident) 79 80 ∷ symbol (Ident) 81 82 ∷ symbol (Ident) 83 90 ∷ symbol (Ident) 91 93 ∷ symbol (Ident) 94 95 ∷ symbol (Ident) 95 96 ∷ symbol (Ident) 97 98 ∷ symbol (Ident) 99 100 ∷ symbol (Ident) 101 108 ∷ symbol (Ident) 109 111 ∷ symbol (Ident) 112 113 ∷ symbol (Ident) 113 114 ∷ symbol (Ident) 115 118 ∷ symbol (Ident) 119 120 ∷ symbol (Ident) 120 121 ∷ symbol (Ident) 122 123 ∷ symbol (Ident) 123 124 ∷ symbol (Ident) 125 130 ∷ symbol (Ident) 131 135 ∷ symbol (Ident) 136 137 ∷ symbol (Ident) 138 140 ∷ symbol (Ident) 141 142 ∷ symbol (Ident) 142 143 ∷ symbol (Ident) 144 145 ∷ symbol (Ident) 146 147 ∷ symbol (Ident) 147 148 ∷ symbol (Ident) 149 150 ∷ symbol (Ident) 151 152 ∷ symbol (Ident) 152 153 ∷ symbol (Ident) 154 157 ∷ symbol (Ident) 158 161 ∷ symbol (Ident) 162 163 ∷ symbol (Ident) 163 164 ∷ []) }; tree = record { module_word = 0; name = 1; semicolon = 0; imports = None; decls = (S.decls None (Some (record { type_word = 0; each = (record { name = (record { name = 4; star = None }); equal = 0; is = (S.Record 6 None (S.fields (record { first = (record { name = 7; star = None }); more = [] }) 0 (S.Named (record { name = 9; member = None }))) (S.next_fields 0 (S.fields (record { first = (record { name = 11; star = Some 0 }); more = [] }) 0 (S.Named (record { name = 14; member = None }))) S.no_more_fields) 0); semicolon = 0 } ∷ record { name = (record { name = 17; star = None }); equal = 0; is = (S.Record 19 (Some (record { left_paren = 0; name = (record { name = 21; member = None }); right_paren = 0 })) (S.fields (record { first = (record { name = 23; star = None }); more = [] }) 0 (S.Named (record { name = 25; member = None }))) S.no_more_fields 0); semicolon = 0 } ∷ record { name = (record { name = 28; star = None }); equal = 0; is = (S.Pointer 30 0 (S.Named (record { name = 32; member = None }))); semicolon = 0 } ∷ record { name = (record { name = 34; star = None }); equal = 0; is = (S.Pointer 36 0 (S.Named (record { name = 38; member = None }))); semicolon = 0 } ∷ []) })) (Some (record { var_word = 0; each = (record { names = (record { first = (record { name = 41; star = None }); more = [] }); colon = 0; of = (S.Named (record { name = 43; member = None })); semicolon = 0 } ∷ []) })) S.no_procedure); body = (Some (record { begin_word = 0; stats = (S.stats (S.Case 0 (S.only (S.simple None (S.term (S.Designated 47 S.no_selector) S.no_factor) S.no_term)) 0 (S.one_case (record { low = TheLabel.Named (record { name = 49; member = None }); high = None }) [] 0 (S.stats S.Empty S.no_stat)) (S.next_case 0 (S.one_case (record { low = TheLabel.Named (record { name = 52; member = None }); high = None }) [] 0 (S.stats S.Empty S.no_stat)) (S.next_case 0 (S.one_case (record { low = TheLabel.Named (record { name = 55; member = None }); high = None }) [] 0 (S.stats S.Empty S.no_stat)) S.no_next_case)) 0) S.no_stat) })); end_word = 0; end_name = 59; period = 0 } }

pub bad_label_22 : checked (bad_label_22_0 ∷ []) ≡ Legal (record { records = (record { module_number = 0; base = None; level = 0; fields = (record { name = (120 ∷ []); exported = false; shape = H.Integer } ∷ record { name = (121 ∷ []); exported = true; shape = H.Char } ∷ []); cells = 2; extent = record { bytes = 16; wide = true } } ∷ record { module_number = 0; base = (Some 0); level = 1; fields = (record { name = (122 ∷ []); exported = false; shape = H.Set } ∷ []); cells = 3; extent = record { bytes = 24; wide = true } } ∷ []); pointers = (Some 0 ∷ Some 1 ∷ []); modules = (record { name = (77 ∷ []); objects = (record { name = (82 ∷ []); exported = false; entity = I.OfType (H.Record 0) } ∷ record { name = (69 ∷ []); exported = false; entity = I.OfType (H.Record 1) } ∷ record { name = (80 ∷ []); exported = false; entity = I.OfType (H.Pointer 0) } ∷ record { name = (81 ∷ []); exported = false; entity = I.OfType (H.Pointer 1) } ∷ record { name = (112 ∷ []); exported = false; entity = I.OfVariable 0 } ∷ []); variables = ((H.Pointer 0) ∷ []); body = 0 } ∷ []); procedures = (record { module_number = 0; line = 1; is_body = true; formals = []; result = H.Nothing; locals = []; texts = []; body = (I.next_statement (I.CasePointer (record { form = (I.Load (I.of_type (I.Global 0 0) (H.Pointer 0))); shape = (H.Pointer 0) }) (I.next_part (I.Extends 0) I.no_statement (I.next_part (I.Extends 0) I.no_statement (I.next_part (I.Extends 1) I.no_statement I.no_part)))) I.no_statement); answer = None } ∷ []); imports_in = false })
bad_label_22 = refl

-- MODULE M; TYPE R = RECORD x: INTEGER; y*: CHAR END; P = POINTER TO R; VAR p: P; BEGIN CASE p OF INTEGER: END END M.
abbrev bad_label_23_0 : Parsed
bad_label_23_0 = record { source = record { bytes = (77 ∷ 79 ∷ 68 ∷ 85 ∷ 76 ∷ 69 ∷ 32 ∷ 77 ∷ 59 ∷ 32 ∷ 84 ∷ 89 ∷ 80 ∷ 69 ∷ 32 ∷ 82 ∷ 32 ∷ 61 ∷ 32 ∷ 82 ∷ 69 ∷ 67 ∷ 79 ∷ 82 ∷ 68 ∷ 32 ∷ 120 ∷ 58 ∷ 32 ∷ 73 ∷ 78 ∷ 84 ∷ 69 ∷ 71 ∷ 69 ∷ 82 ∷ 59 ∷ 32 ∷ 121 ∷ 42 ∷ 58 ∷ 32 ∷ 67 ∷ 72 ∷ 65 ∷ 82 ∷ 32 ∷ 69 ∷ 78 ∷ 68 ∷ 59 ∷ 32 ∷ 80 ∷ 32 ∷ 61 ∷ 32 ∷ 80 ∷ 79 ∷ 73 ∷ 78 ∷ 84 ∷ 69 ∷ 82 ∷ 32 ∷ 84 ∷ 79 ∷ 32 ∷ 82 ∷ 59 ∷ 32 ∷ 86 ∷ 65 ∷ 82 ∷ 32 ∷ 112 ∷ 58 ∷ 32 ∷ 80 ∷ 59 ∷ 32 ∷ 66 ∷ 69 ∷ 71 ∷ 73 ∷ 78 ∷ 32 ∷ 67 ∷ 65 ∷ 83 ∷ 69 ∷ 32 ∷ 112 ∷ 32 ∷ 79 ∷ 70 ∷ 32 ∷ 73 ∷ 78 ∷ 84 ∷ 69 ∷ 71 ∷ 69 ∷ 82 ∷ 58 ∷ 32 ∷ 69 ∷ 78 ∷ 68 ∷ 32 ∷ 69 ∷ 78 ∷ 68 ∷ 32 ∷ 77 ∷ 46 ∷ []); symbols = (symbol (Ident) 0 6 ∷ symbol (Ident) 7 8 ∷ symbol (Ident) 8 9 ∷ symbol (Ident) 10 14 ∷ symbol (Ident) 15 16 ∷ symbol (Ident) 17 18 ∷ symbol (Ident) 19 25 ∷ symbol (Ident) 26 27 ∷ symbol (Ident) 27 28 ∷ symbol (Ident) 29 36 ∷ symbol (Ident) 36 37 ∷ symbol (Ident) 38 39 ∷ symbol (Ident) 39 40 ∷ symbol (Ident) 40 41 ∷ symbol (Ident) 42 46 ∷ symbol (Ident) 47 50 ∷ symbol (Ident) 50 51 ∷ symbol (Ident) 52 53 ∷ symbol (Ident) 54 55 ∷ symbol (Ident) 56 63 ∷ symbol (Ident) 64 66 ∷ symbol (Ident) 67 68 ∷ symbol (Ident) 68 69 ∷ symbol (Ident) 70 73 ∷ symbol (Ident) 74 75 ∷ symbol (Ident) 75 76 ∷ symbol (Ident) 77 78 ∷ symbol (Ident) 78 79 ∷ symbol (Ident) 80 85 ∷ symbol (Ident) 86 90 ∷ symbol (Ident) 91 92 ∷ symbol (Ident) 93 95 ∷ symbol (Ident) 96 103 ∷ symbol (Ident) 103 104 ∷ symbol (Ident) 105 108 ∷ symbol (Ident) 109 112 ∷ symbol (Ident) 113 114 ∷ symbol (Ident) 114 115 ∷ []) }; tree = record { module_word = 0; name = 1; semicolon = 0; imports = None; decls = (S.decls None (Some (record { type_word = 0; each = (record { name = (record { name = 4; star = None }); equal = 0; is = (S.Record 6 None (S.fields (record { first = (record { name = 7; star = None }); more = [] }) 0 (S.Named (record { name = 9; member = None }))) (S.next_fields 0 (S.fields (record { first = (record { name = 11; star = Some 0 }); more = [] }) 0 (S.Named (record { name = 14; member = None }))) S.no_more_fields) 0); semicolon = 0 } ∷ record { name = (record { name = 17; star = None }); equal = 0; is = (S.Pointer 19 0 (S.Named (record { name = 21; member = None }))); semicolon = 0 } ∷ []) })) (Some (record { var_word = 0; each = (record { names = (record { first = (record { name = 24; star = None }); more = [] }); colon = 0; of = (S.Named (record { name = 26; member = None })); semicolon = 0 } ∷ []) })) S.no_procedure); body = (Some (record { begin_word = 0; stats = (S.stats (S.Case 0 (S.only (S.simple None (S.term (S.Designated 30 S.no_selector) S.no_factor) S.no_term)) 0 (S.one_case (record { low = TheLabel.Named (record { name = 32; member = None }); high = None }) [] 0 (S.stats S.Empty S.no_stat)) S.no_next_case 0) S.no_stat) })); end_word = 0; end_name = 36; period = 0 } }

pub bad_label_23 : checked (bad_label_23_0 ∷ []) ≡ Fault 0 39 96
bad_label_23 = refl

-- MODULE M; TYPE R = RECORD x: INTEGER; y*: CHAR END; E = RECORD (R) z: SET END; P = POINTER TO R; Q = POINTER TO E; VAR p: P; BEGIN CASE p OF Q: CASE p OF P: END END END M.
abbrev bad_label_24_0 : Parsed
bad_label_24_0 = record { source = record { bytes = (77 ∷ 79 ∷ 68 ∷ 85 ∷ 76 ∷ 69 ∷ 32 ∷ 77 ∷ 59 ∷ 32 ∷ 84 ∷ 89 ∷ 80 ∷ 69 ∷ 32 ∷ 82 ∷ 32 ∷ 61 ∷ 32 ∷ 82 ∷ 69 ∷ 67 ∷ 79 ∷ 82 ∷ 68 ∷ 32 ∷ 120 ∷ 58 ∷ 32 ∷ 73 ∷ 78 ∷ 84 ∷ 69 ∷ 71 ∷ 69 ∷ 82 ∷ 59 ∷ 32 ∷ 121 ∷ 42 ∷ 58 ∷ 32 ∷ 67 ∷ 72 ∷ 65 ∷ 82 ∷ 32 ∷ 69 ∷ 78 ∷ 68 ∷ 59 ∷ 32 ∷ 69 ∷ 32 ∷ 61 ∷ 32 ∷ 82 ∷ 69 ∷ 67 ∷ 79 ∷ 82 ∷ 68 ∷ 32 ∷ 40 ∷ 82 ∷ 41 ∷ 32 ∷ 122 ∷ 58 ∷ 32 ∷ 83 ∷ 69 ∷ 84 ∷ 32 ∷ 69 ∷ 78 ∷ 68 ∷ 59 ∷ 32 ∷ 80 ∷ 32 ∷ 61 ∷ 32 ∷ 80 ∷ 79 ∷ 73 ∷ 78 ∷ 84 ∷ 69 ∷ 82 ∷ 32 ∷ 84 ∷ 79 ∷ 32 ∷ 82 ∷ 59 ∷ 32 ∷ 81 ∷ 32 ∷ 61 ∷ 32 ∷ 80 ∷ 79 ∷ 73 ∷ 78 ∷ 84 ∷ 69 ∷ 82 ∷ 32 ∷ 84 ∷ 79 ∷ 32 ∷ 69 ∷ 59 ∷ 32 ∷ 86 ∷ 65 ∷ 82 ∷ 32 ∷ 112 ∷ 58 ∷ 32 ∷ 80 ∷ 59 ∷ 32 ∷ 66 ∷ 69 ∷ 71 ∷ 73 ∷ 78 ∷ 32 ∷ 67 ∷ 65 ∷ 83 ∷ 69 ∷ 32 ∷ 112 ∷ 32 ∷ 79 ∷ 70 ∷ 32 ∷ 81 ∷ 58 ∷ 32 ∷ 67 ∷ 65 ∷ 83 ∷ 69 ∷ 32 ∷ 112 ∷ 32 ∷ 79 ∷ 70 ∷ 32 ∷ 80 ∷ 58 ∷ 32 ∷ 69 ∷ 78 ∷ 68 ∷ 32 ∷ 69 ∷ 78 ∷ 68 ∷ 32 ∷ 69 ∷ 78 ∷ 68 ∷ 32 ∷ 77 ∷ 46 ∷ []); symbols = (symbol (Ident) 0 6 ∷ symbol (Ident) 7 8 ∷ symbol (Ident) 8 9 ∷ symbol (Ident) 10 14 ∷ symbol (Ident) 15 16 ∷ symbol (Ident) 17 18 ∷ symbol (Ident) 19 25 ∷ symbol (Ident) 26 27 ∷ symbol (Ident) 27 28 ∷ symbol (Ident) 29 36 ∷ symbol (Ident) 36 37 ∷ symbol (Ident) 38 39 ∷ symbol (Ident) 39 40 ∷ symbol (Ident) 40 41 ∷ symbol (Ident) 42 46 ∷ symbol (Ident) 47 50 ∷ symbol (Ident) 50 51 ∷ symbol (Ident) 52 53 ∷ symbol (Ident) 54 55 ∷ symbol (Ident) 56 62 ∷ symbol (Ident) 63 64 ∷ symbol (Ident) 64 65 ∷ symbol (Ident) 65 66 ∷ symbol (Ident) 67 68 ∷ symbol (Ident) 68 69 ∷ symbol (Ident) 70 73 ∷ symbol (Ident) 74 77 ∷ symbol (Ident) 77 78 ∷ symbol (Ident) 79 80 ∷ symbol (Ident) 81 82 ∷ symbol (Ident) 83 90 ∷ symbol (Ident) 91 93 ∷ symbol (Ident) 94 95 ∷ symbol (Ident) 95 96 ∷ symbol (Ident) 97 98 ∷ symbol (Ident) 99 100 ∷ symbol (Ident) 101 108 ∷ symbol (Ident) 109 111 ∷ symbol (Ident) 112 113 ∷ symbol (Ident) 113 114 ∷ symbol (Ident) 115 118 ∷ symbol (Ident) 119 120 ∷ symbol (Ident) 120 121 ∷ symbol (Ident) 122 123 ∷ symbol (Ident) 123 124 ∷ symbol (Ident) 125 130 ∷ symbol (Ident) 131 135 ∷ symbol (Ident) 136 137 ∷ symbol (Ident) 138 140 ∷ symbol (Ident) 141 142 ∷ symbol (Ident) 142 143 ∷ symbol (Ident) 144 148 ∷ symbol (Ident) 149 150 ∷ symbol (Ident) 151 153 ∷ symbol (Ident) 154 155 ∷ symbol (Ident) 155 156 ∷ symbol (Ident) 157 160 ∷ symbol (Ident) 161 164 ∷ symbol (Ident) 165 168 ∷ symbol (Ident) 169 170 ∷ symbol (Ident) 170 171 ∷ []) }; tree = record { module_word = 0; name = 1; semicolon = 0; imports = None; decls = (S.decls None (Some (record { type_word = 0; each = (record { name = (record { name = 4; star = None }); equal = 0; is = (S.Record 6 None (S.fields (record { first = (record { name = 7; star = None }); more = [] }) 0 (S.Named (record { name = 9; member = None }))) (S.next_fields 0 (S.fields (record { first = (record { name = 11; star = Some 0 }); more = [] }) 0 (S.Named (record { name = 14; member = None }))) S.no_more_fields) 0); semicolon = 0 } ∷ record { name = (record { name = 17; star = None }); equal = 0; is = (S.Record 19 (Some (record { left_paren = 0; name = (record { name = 21; member = None }); right_paren = 0 })) (S.fields (record { first = (record { name = 23; star = None }); more = [] }) 0 (S.Named (record { name = 25; member = None }))) S.no_more_fields 0); semicolon = 0 } ∷ record { name = (record { name = 28; star = None }); equal = 0; is = (S.Pointer 30 0 (S.Named (record { name = 32; member = None }))); semicolon = 0 } ∷ record { name = (record { name = 34; star = None }); equal = 0; is = (S.Pointer 36 0 (S.Named (record { name = 38; member = None }))); semicolon = 0 } ∷ []) })) (Some (record { var_word = 0; each = (record { names = (record { first = (record { name = 41; star = None }); more = [] }); colon = 0; of = (S.Named (record { name = 43; member = None })); semicolon = 0 } ∷ []) })) S.no_procedure); body = (Some (record { begin_word = 0; stats = (S.stats (S.Case 0 (S.only (S.simple None (S.term (S.Designated 47 S.no_selector) S.no_factor) S.no_term)) 0 (S.one_case (record { low = TheLabel.Named (record { name = 49; member = None }); high = None }) [] 0 (S.stats (S.Case 0 (S.only (S.simple None (S.term (S.Designated 52 S.no_selector) S.no_factor) S.no_term)) 0 (S.one_case (record { low = TheLabel.Named (record { name = 54; member = None }); high = None }) [] 0 (S.stats S.Empty S.no_stat)) S.no_next_case 0) S.no_stat)) S.no_next_case 0) S.no_stat) })); end_word = 0; end_name = 59; period = 0 } }

pub bad_label_24 : checked (bad_label_24_0 ∷ []) ≡ Fault 0 39 154
bad_label_24 = refl

-- MODULE M; VAR i: INTEGER; BEGIN CASE i OF 0FFFFFFFFFFFFFFFFH..0: | 0: END END M.
abbrev bad_label_25_0 : Parsed
bad_label_25_0 = record { source = record { bytes = (77 ∷ 79 ∷ 68 ∷ 85 ∷ 76 ∷ 69 ∷ 32 ∷ 77 ∷ 59 ∷ 32 ∷ 86 ∷ 65 ∷ 82 ∷ 32 ∷ 105 ∷ 58 ∷ 32 ∷ 73 ∷ 78 ∷ 84 ∷ 69 ∷ 71 ∷ 69 ∷ 82 ∷ 59 ∷ 32 ∷ 66 ∷ 69 ∷ 71 ∷ 73 ∷ 78 ∷ 32 ∷ 67 ∷ 65 ∷ 83 ∷ 69 ∷ 32 ∷ 105 ∷ 32 ∷ 79 ∷ 70 ∷ 32 ∷ 48 ∷ 70 ∷ 70 ∷ 70 ∷ 70 ∷ 70 ∷ 70 ∷ 70 ∷ 70 ∷ 70 ∷ 70 ∷ 70 ∷ 70 ∷ 70 ∷ 70 ∷ 70 ∷ 70 ∷ 72 ∷ 46 ∷ 46 ∷ 48 ∷ 58 ∷ 32 ∷ 124 ∷ 32 ∷ 48 ∷ 58 ∷ 32 ∷ 69 ∷ 78 ∷ 68 ∷ 32 ∷ 69 ∷ 78 ∷ 68 ∷ 32 ∷ 77 ∷ 46 ∷ []); symbols = (symbol (Ident) 0 6 ∷ symbol (Ident) 7 8 ∷ symbol (Ident) 8 9 ∷ symbol (Ident) 10 13 ∷ symbol (Ident) 14 15 ∷ symbol (Ident) 15 16 ∷ symbol (Ident) 17 24 ∷ symbol (Ident) 24 25 ∷ symbol (Ident) 26 31 ∷ symbol (Ident) 32 36 ∷ symbol (Ident) 37 38 ∷ symbol (Ident) 39 41 ∷ symbol (Int (negsuc 0)) 42 60 ∷ symbol (Ident) 60 62 ∷ symbol (Int (pos 0)) 62 63 ∷ symbol (Ident) 63 64 ∷ symbol (Ident) 65 66 ∷ symbol (Int (pos 0)) 67 68 ∷ symbol (Ident) 68 69 ∷ symbol (Ident) 70 73 ∷ symbol (Ident) 74 77 ∷ symbol (Ident) 78 79 ∷ symbol (Ident) 79 80 ∷ []) }; tree = record { module_word = 0; name = 1; semicolon = 0; imports = None; decls = (S.decls None None (Some (record { var_word = 0; each = (record { names = (record { first = (record { name = 4; star = None }); more = [] }); colon = 0; of = (S.Named (record { name = 6; member = None })); semicolon = 0 } ∷ []) })) S.no_procedure); body = (Some (record { begin_word = 0; stats = (S.stats (S.Case 0 (S.only (S.simple None (S.term (S.Designated 10 S.no_selector) S.no_factor) S.no_term)) 0 (S.one_case (record { low = TheLabel.Int 12; high = Some (record { dots = 0; label = TheLabel.Int 14 }) }) [] 0 (S.stats S.Empty S.no_stat)) (S.next_case 0 (S.one_case (record { low = TheLabel.Int 17; high = None }) [] 0 (S.stats S.Empty S.no_stat)) S.no_next_case) 0) S.no_stat) })); end_word = 0; end_name = 21; period = 0 } }

pub bad_label_25 : checked (bad_label_25_0 ∷ []) ≡ Fault 0 39 67
bad_label_25 = refl

-- MODULE M; VAR c: CHAR; BEGIN CASE c OF '''': END END M.
abbrev bad_label_26_0 : Parsed
bad_label_26_0 = record { source = record { bytes = (77 ∷ 79 ∷ 68 ∷ 85 ∷ 76 ∷ 69 ∷ 32 ∷ 77 ∷ 59 ∷ 32 ∷ 86 ∷ 65 ∷ 82 ∷ 32 ∷ 99 ∷ 58 ∷ 32 ∷ 67 ∷ 72 ∷ 65 ∷ 82 ∷ 59 ∷ 32 ∷ 66 ∷ 69 ∷ 71 ∷ 73 ∷ 78 ∷ 32 ∷ 67 ∷ 65 ∷ 83 ∷ 69 ∷ 32 ∷ 99 ∷ 32 ∷ 79 ∷ 70 ∷ 32 ∷ 34 ∷ 34 ∷ 58 ∷ 32 ∷ 69 ∷ 78 ∷ 68 ∷ 32 ∷ 69 ∷ 78 ∷ 68 ∷ 32 ∷ 77 ∷ 46 ∷ []); symbols = (symbol (Ident) 0 6 ∷ symbol (Ident) 7 8 ∷ symbol (Ident) 8 9 ∷ symbol (Ident) 10 13 ∷ symbol (Ident) 14 15 ∷ symbol (Ident) 15 16 ∷ symbol (Ident) 17 21 ∷ symbol (Ident) 21 22 ∷ symbol (Ident) 23 28 ∷ symbol (Ident) 29 33 ∷ symbol (Ident) 34 35 ∷ symbol (Ident) 36 38 ∷ symbol (TheKind.Text) 39 41 ∷ symbol (Ident) 41 42 ∷ symbol (Ident) 43 46 ∷ symbol (Ident) 47 50 ∷ symbol (Ident) 51 52 ∷ symbol (Ident) 52 53 ∷ []) }; tree = record { module_word = 0; name = 1; semicolon = 0; imports = None; decls = (S.decls None None (Some (record { var_word = 0; each = (record { names = (record { first = (record { name = 4; star = None }); more = [] }); colon = 0; of = (S.Named (record { name = 6; member = None })); semicolon = 0 } ∷ []) })) S.no_procedure); body = (Some (record { begin_word = 0; stats = (S.stats (S.Case 0 (S.only (S.simple None (S.term (S.Designated 10 S.no_selector) S.no_factor) S.no_term)) 0 (S.one_case (record { low = TheLabel.Text 12; high = None }) [] 0 (S.stats S.Empty S.no_stat)) S.no_next_case 0) S.no_stat) })); end_word = 0; end_name = 16; period = 0 } }

pub bad_label_26 : checked (bad_label_26_0 ∷ []) ≡ Fault 0 39 39
bad_label_26 = refl

-- MODULE M; VAR i: INTEGER; BEGIN CASE i OF 1..''a'': END END M.
abbrev bad_label_27_0 : Parsed
bad_label_27_0 = record { source = record { bytes = (77 ∷ 79 ∷ 68 ∷ 85 ∷ 76 ∷ 69 ∷ 32 ∷ 77 ∷ 59 ∷ 32 ∷ 86 ∷ 65 ∷ 82 ∷ 32 ∷ 105 ∷ 58 ∷ 32 ∷ 73 ∷ 78 ∷ 84 ∷ 69 ∷ 71 ∷ 69 ∷ 82 ∷ 59 ∷ 32 ∷ 66 ∷ 69 ∷ 71 ∷ 73 ∷ 78 ∷ 32 ∷ 67 ∷ 65 ∷ 83 ∷ 69 ∷ 32 ∷ 105 ∷ 32 ∷ 79 ∷ 70 ∷ 32 ∷ 49 ∷ 46 ∷ 46 ∷ 34 ∷ 97 ∷ 34 ∷ 58 ∷ 32 ∷ 69 ∷ 78 ∷ 68 ∷ 32 ∷ 69 ∷ 78 ∷ 68 ∷ 32 ∷ 77 ∷ 46 ∷ []); symbols = (symbol (Ident) 0 6 ∷ symbol (Ident) 7 8 ∷ symbol (Ident) 8 9 ∷ symbol (Ident) 10 13 ∷ symbol (Ident) 14 15 ∷ symbol (Ident) 15 16 ∷ symbol (Ident) 17 24 ∷ symbol (Ident) 24 25 ∷ symbol (Ident) 26 31 ∷ symbol (Ident) 32 36 ∷ symbol (Ident) 37 38 ∷ symbol (Ident) 39 41 ∷ symbol (Int (pos 1)) 42 43 ∷ symbol (Ident) 43 45 ∷ symbol (TheKind.Text) 45 48 ∷ symbol (Ident) 48 49 ∷ symbol (Ident) 50 53 ∷ symbol (Ident) 54 57 ∷ symbol (Ident) 58 59 ∷ symbol (Ident) 59 60 ∷ []) }; tree = record { module_word = 0; name = 1; semicolon = 0; imports = None; decls = (S.decls None None (Some (record { var_word = 0; each = (record { names = (record { first = (record { name = 4; star = None }); more = [] }); colon = 0; of = (S.Named (record { name = 6; member = None })); semicolon = 0 } ∷ []) })) S.no_procedure); body = (Some (record { begin_word = 0; stats = (S.stats (S.Case 0 (S.only (S.simple None (S.term (S.Designated 10 S.no_selector) S.no_factor) S.no_term)) 0 (S.one_case (record { low = TheLabel.Int 12; high = Some (record { dots = 0; label = TheLabel.Text 14 }) }) [] 0 (S.stats S.Empty S.no_stat)) S.no_next_case 0) S.no_stat) })); end_word = 0; end_name = 18; period = 0 } }

pub bad_label_27 : checked (bad_label_27_0 ∷ []) ≡ Fault 0 39 45
bad_label_27 = refl

-- MODULE M; TYPE R = RECORD x: INTEGER; y*: CHAR END; P = POINTER TO R; VAR p: P; BEGIN CASE p OF ''a'': END END M.
abbrev bad_label_28_0 : Parsed
bad_label_28_0 = record { source = record { bytes = (77 ∷ 79 ∷ 68 ∷ 85 ∷ 76 ∷ 69 ∷ 32 ∷ 77 ∷ 59 ∷ 32 ∷ 84 ∷ 89 ∷ 80 ∷ 69 ∷ 32 ∷ 82 ∷ 32 ∷ 61 ∷ 32 ∷ 82 ∷ 69 ∷ 67 ∷ 79 ∷ 82 ∷ 68 ∷ 32 ∷ 120 ∷ 58 ∷ 32 ∷ 73 ∷ 78 ∷ 84 ∷ 69 ∷ 71 ∷ 69 ∷ 82 ∷ 59 ∷ 32 ∷ 121 ∷ 42 ∷ 58 ∷ 32 ∷ 67 ∷ 72 ∷ 65 ∷ 82 ∷ 32 ∷ 69 ∷ 78 ∷ 68 ∷ 59 ∷ 32 ∷ 80 ∷ 32 ∷ 61 ∷ 32 ∷ 80 ∷ 79 ∷ 73 ∷ 78 ∷ 84 ∷ 69 ∷ 82 ∷ 32 ∷ 84 ∷ 79 ∷ 32 ∷ 82 ∷ 59 ∷ 32 ∷ 86 ∷ 65 ∷ 82 ∷ 32 ∷ 112 ∷ 58 ∷ 32 ∷ 80 ∷ 59 ∷ 32 ∷ 66 ∷ 69 ∷ 71 ∷ 73 ∷ 78 ∷ 32 ∷ 67 ∷ 65 ∷ 83 ∷ 69 ∷ 32 ∷ 112 ∷ 32 ∷ 79 ∷ 70 ∷ 32 ∷ 34 ∷ 97 ∷ 34 ∷ 58 ∷ 32 ∷ 69 ∷ 78 ∷ 68 ∷ 32 ∷ 69 ∷ 78 ∷ 68 ∷ 32 ∷ 77 ∷ 46 ∷ []); symbols = (symbol (Ident) 0 6 ∷ symbol (Ident) 7 8 ∷ symbol (Ident) 8 9 ∷ symbol (Ident) 10 14 ∷ symbol (Ident) 15 16 ∷ symbol (Ident) 17 18 ∷ symbol (Ident) 19 25 ∷ symbol (Ident) 26 27 ∷ symbol (Ident) 27 28 ∷ symbol (Ident) 29 36 ∷ symbol (Ident) 36 37 ∷ symbol (Ident) 38 39 ∷ symbol (Ident) 39 40 ∷ symbol (Ident) 40 41 ∷ symbol (Ident) 42 46 ∷ symbol (Ident) 47 50 ∷ symbol (Ident) 50 51 ∷ symbol (Ident) 52 53 ∷ symbol (Ident) 54 55 ∷ symbol (Ident) 56 63 ∷ symbol (Ident) 64 66 ∷ symbol (Ident) 67 68 ∷ symbol (Ident) 68 69 ∷ symbol (Ident) 70 73 ∷ symbol (Ident) 74 75 ∷ symbol (Ident) 75 76 ∷ symbol (Ident) 77 78 ∷ symbol (Ident) 78 79 ∷ symbol (Ident) 80 85 ∷ symbol (Ident) 86 90 ∷ symbol (Ident) 91 92 ∷ symbol (Ident) 93 95 ∷ symbol (TheKind.Text) 96 99 ∷ symbol (Ident) 99 100 ∷ symbol (Ident) 101 104 ∷ symbol (Ident) 105 108 ∷ symbol (Ident) 109 110 ∷ symbol (Ident) 110 111 ∷ []) }; tree = record { module_word = 0; name = 1; semicolon = 0; imports = None; decls = (S.decls None (Some (record { type_word = 0; each = (record { name = (record { name = 4; star = None }); equal = 0; is = (S.Record 6 None (S.fields (record { first = (record { name = 7; star = None }); more = [] }) 0 (S.Named (record { name = 9; member = None }))) (S.next_fields 0 (S.fields (record { first = (record { name = 11; star = Some 0 }); more = [] }) 0 (S.Named (record { name = 14; member = None }))) S.no_more_fields) 0); semicolon = 0 } ∷ record { name = (record { name = 17; star = None }); equal = 0; is = (S.Pointer 19 0 (S.Named (record { name = 21; member = None }))); semicolon = 0 } ∷ []) })) (Some (record { var_word = 0; each = (record { names = (record { first = (record { name = 24; star = None }); more = [] }); colon = 0; of = (S.Named (record { name = 26; member = None })); semicolon = 0 } ∷ []) })) S.no_procedure); body = (Some (record { begin_word = 0; stats = (S.stats (S.Case 0 (S.only (S.simple None (S.term (S.Designated 30 S.no_selector) S.no_factor) S.no_term)) 0 (S.one_case (record { low = TheLabel.Text 32; high = None }) [] 0 (S.stats S.Empty S.no_stat)) S.no_next_case 0) S.no_stat) })); end_word = 0; end_name = 36; period = 0 } }

pub bad_label_28 : checked (bad_label_28_0 ∷ []) ≡ Fault 0 39 96
bad_label_28 = refl

-- MODULE M; CONST k = 3; s = ''x''; VAR i: INTEGER; c: CHAR; BEGIN CASE i OF k: | 3: END END M.
abbrev bad_label_29_0 : Parsed
bad_label_29_0 = record { source = record { bytes = (77 ∷ 79 ∷ 68 ∷ 85 ∷ 76 ∷ 69 ∷ 32 ∷ 77 ∷ 59 ∷ 32 ∷ 67 ∷ 79 ∷ 78 ∷ 83 ∷ 84 ∷ 32 ∷ 107 ∷ 32 ∷ 61 ∷ 32 ∷ 51 ∷ 59 ∷ 32 ∷ 115 ∷ 32 ∷ 61 ∷ 32 ∷ 34 ∷ 120 ∷ 34 ∷ 59 ∷ 32 ∷ 86 ∷ 65 ∷ 82 ∷ 32 ∷ 105 ∷ 58 ∷ 32 ∷ 73 ∷ 78 ∷ 84 ∷ 69 ∷ 71 ∷ 69 ∷ 82 ∷ 59 ∷ 32 ∷ 99 ∷ 58 ∷ 32 ∷ 67 ∷ 72 ∷ 65 ∷ 82 ∷ 59 ∷ 32 ∷ 66 ∷ 69 ∷ 71 ∷ 73 ∷ 78 ∷ 32 ∷ 67 ∷ 65 ∷ 83 ∷ 69 ∷ 32 ∷ 105 ∷ 32 ∷ 79 ∷ 70 ∷ 32 ∷ 107 ∷ 58 ∷ 32 ∷ 124 ∷ 32 ∷ 51 ∷ 58 ∷ 32 ∷ 69 ∷ 78 ∷ 68 ∷ 32 ∷ 69 ∷ 78 ∷ 68 ∷ 32 ∷ 77 ∷ 46 ∷ []); symbols = (symbol (Ident) 0 6 ∷ symbol (Ident) 7 8 ∷ symbol (Ident) 8 9 ∷ symbol (Ident) 10 15 ∷ symbol (Ident) 16 17 ∷ symbol (Ident) 18 19 ∷ symbol (Int (pos 3)) 20 21 ∷ symbol (Ident) 21 22 ∷ symbol (Ident) 23 24 ∷ symbol (Ident) 25 26 ∷ symbol (TheKind.Text) 27 30 ∷ symbol (Ident) 30 31 ∷ symbol (Ident) 32 35 ∷ symbol (Ident) 36 37 ∷ symbol (Ident) 37 38 ∷ symbol (Ident) 39 46 ∷ symbol (Ident) 46 47 ∷ symbol (Ident) 48 49 ∷ symbol (Ident) 49 50 ∷ symbol (Ident) 51 55 ∷ symbol (Ident) 55 56 ∷ symbol (Ident) 57 62 ∷ symbol (Ident) 63 67 ∷ symbol (Ident) 68 69 ∷ symbol (Ident) 70 72 ∷ symbol (Ident) 73 74 ∷ symbol (Ident) 74 75 ∷ symbol (Ident) 76 77 ∷ symbol (Int (pos 3)) 78 79 ∷ symbol (Ident) 79 80 ∷ symbol (Ident) 81 84 ∷ symbol (Ident) 85 88 ∷ symbol (Ident) 89 90 ∷ symbol (Ident) 90 91 ∷ []) }; tree = record { module_word = 0; name = 1; semicolon = 0; imports = None; decls = (S.decls (Some (record { const_word = 0; each = (record { name = (record { name = 4; star = None }); equal = 0; value = (S.only (S.simple None (S.term (S.Int 6) S.no_factor) S.no_term)); semicolon = 0 } ∷ record { name = (record { name = 8; star = None }); equal = 0; value = (S.only (S.simple None (S.term (S.Text 10) S.no_factor) S.no_term)); semicolon = 0 } ∷ []) })) None (Some (record { var_word = 0; each = (record { names = (record { first = (record { name = 13; star = None }); more = [] }); colon = 0; of = (S.Named (record { name = 15; member = None })); semicolon = 0 } ∷ record { names = (record { first = (record { name = 17; star = None }); more = [] }); colon = 0; of = (S.Named (record { name = 19; member = None })); semicolon = 0 } ∷ []) })) S.no_procedure); body = (Some (record { begin_word = 0; stats = (S.stats (S.Case 0 (S.only (S.simple None (S.term (S.Designated 23 S.no_selector) S.no_factor) S.no_term)) 0 (S.one_case (record { low = TheLabel.Named (record { name = 25; member = None }); high = None }) [] 0 (S.stats S.Empty S.no_stat)) (S.next_case 0 (S.one_case (record { low = TheLabel.Int 28; high = None }) [] 0 (S.stats S.Empty S.no_stat)) S.no_next_case) 0) S.no_stat) })); end_word = 0; end_name = 32; period = 0 } }

pub bad_label_29 : checked (bad_label_29_0 ∷ []) ≡ Fault 0 39 78
bad_label_29 = refl

-- MODULE M; CONST k = 3; s = ''x''; VAR c: CHAR; BEGIN CASE c OF s: | k: END END M.
abbrev bad_label_30_0 : Parsed
bad_label_30_0 = record { source = record { bytes = (77 ∷ 79 ∷ 68 ∷ 85 ∷ 76 ∷ 69 ∷ 32 ∷ 77 ∷ 59 ∷ 32 ∷ 67 ∷ 79 ∷ 78 ∷ 83 ∷ 84 ∷ 32 ∷ 107 ∷ 32 ∷ 61 ∷ 32 ∷ 51 ∷ 59 ∷ 32 ∷ 115 ∷ 32 ∷ 61 ∷ 32 ∷ 34 ∷ 120 ∷ 34 ∷ 59 ∷ 32 ∷ 86 ∷ 65 ∷ 82 ∷ 32 ∷ 99 ∷ 58 ∷ 32 ∷ 67 ∷ 72 ∷ 65 ∷ 82 ∷ 59 ∷ 32 ∷ 66 ∷ 69 ∷ 71 ∷ 73 ∷ 78 ∷ 32 ∷ 67 ∷ 65 ∷ 83 ∷ 69 ∷ 32 ∷ 99 ∷ 32 ∷ 79 ∷ 70 ∷ 32 ∷ 115 ∷ 58 ∷ 32 ∷ 124 ∷ 32 ∷ 107 ∷ 58 ∷ 32 ∷ 69 ∷ 78 ∷ 68 ∷ 32 ∷ 69 ∷ 78 ∷ 68 ∷ 32 ∷ 77 ∷ 46 ∷ []); symbols = (symbol (Ident) 0 6 ∷ symbol (Ident) 7 8 ∷ symbol (Ident) 8 9 ∷ symbol (Ident) 10 15 ∷ symbol (Ident) 16 17 ∷ symbol (Ident) 18 19 ∷ symbol (Int (pos 3)) 20 21 ∷ symbol (Ident) 21 22 ∷ symbol (Ident) 23 24 ∷ symbol (Ident) 25 26 ∷ symbol (TheKind.Text) 27 30 ∷ symbol (Ident) 30 31 ∷ symbol (Ident) 32 35 ∷ symbol (Ident) 36 37 ∷ symbol (Ident) 37 38 ∷ symbol (Ident) 39 43 ∷ symbol (Ident) 43 44 ∷ symbol (Ident) 45 50 ∷ symbol (Ident) 51 55 ∷ symbol (Ident) 56 57 ∷ symbol (Ident) 58 60 ∷ symbol (Ident) 61 62 ∷ symbol (Ident) 62 63 ∷ symbol (Ident) 64 65 ∷ symbol (Ident) 66 67 ∷ symbol (Ident) 67 68 ∷ symbol (Ident) 69 72 ∷ symbol (Ident) 73 76 ∷ symbol (Ident) 77 78 ∷ symbol (Ident) 78 79 ∷ []) }; tree = record { module_word = 0; name = 1; semicolon = 0; imports = None; decls = (S.decls (Some (record { const_word = 0; each = (record { name = (record { name = 4; star = None }); equal = 0; value = (S.only (S.simple None (S.term (S.Int 6) S.no_factor) S.no_term)); semicolon = 0 } ∷ record { name = (record { name = 8; star = None }); equal = 0; value = (S.only (S.simple None (S.term (S.Text 10) S.no_factor) S.no_term)); semicolon = 0 } ∷ []) })) None (Some (record { var_word = 0; each = (record { names = (record { first = (record { name = 13; star = None }); more = [] }); colon = 0; of = (S.Named (record { name = 15; member = None })); semicolon = 0 } ∷ []) })) S.no_procedure); body = (Some (record { begin_word = 0; stats = (S.stats (S.Case 0 (S.only (S.simple None (S.term (S.Designated 19 S.no_selector) S.no_factor) S.no_term)) 0 (S.one_case (record { low = TheLabel.Named (record { name = 21; member = None }); high = None }) [] 0 (S.stats S.Empty S.no_stat)) (S.next_case 0 (S.one_case (record { low = TheLabel.Named (record { name = 24; member = None }); high = None }) [] 0 (S.stats S.Empty S.no_stat)) S.no_next_case) 0) S.no_stat) })); end_word = 0; end_name = 28; period = 0 } }

pub bad_label_30 : checked (bad_label_30_0 ∷ []) ≡ Fault 0 39 66
bad_label_30 = refl

-- MODULE M; CONST t = TRUE; VAR i: INTEGER; BEGIN CASE i OF t: END END M.
abbrev bad_label_31_0 : Parsed
bad_label_31_0 = record { source = record { bytes = (77 ∷ 79 ∷ 68 ∷ 85 ∷ 76 ∷ 69 ∷ 32 ∷ 77 ∷ 59 ∷ 32 ∷ 67 ∷ 79 ∷ 78 ∷ 83 ∷ 84 ∷ 32 ∷ 116 ∷ 32 ∷ 61 ∷ 32 ∷ 84 ∷ 82 ∷ 85 ∷ 69 ∷ 59 ∷ 32 ∷ 86 ∷ 65 ∷ 82 ∷ 32 ∷ 105 ∷ 58 ∷ 32 ∷ 73 ∷ 78 ∷ 84 ∷ 69 ∷ 71 ∷ 69 ∷ 82 ∷ 59 ∷ 32 ∷ 66 ∷ 69 ∷ 71 ∷ 73 ∷ 78 ∷ 32 ∷ 67 ∷ 65 ∷ 83 ∷ 69 ∷ 32 ∷ 105 ∷ 32 ∷ 79 ∷ 70 ∷ 32 ∷ 116 ∷ 58 ∷ 32 ∷ 69 ∷ 78 ∷ 68 ∷ 32 ∷ 69 ∷ 78 ∷ 68 ∷ 32 ∷ 77 ∷ 46 ∷ []); symbols = (symbol (Ident) 0 6 ∷ symbol (Ident) 7 8 ∷ symbol (Ident) 8 9 ∷ symbol (Ident) 10 15 ∷ symbol (Ident) 16 17 ∷ symbol (Ident) 18 19 ∷ symbol (Ident) 20 24 ∷ symbol (Ident) 24 25 ∷ symbol (Ident) 26 29 ∷ symbol (Ident) 30 31 ∷ symbol (Ident) 31 32 ∷ symbol (Ident) 33 40 ∷ symbol (Ident) 40 41 ∷ symbol (Ident) 42 47 ∷ symbol (Ident) 48 52 ∷ symbol (Ident) 53 54 ∷ symbol (Ident) 55 57 ∷ symbol (Ident) 58 59 ∷ symbol (Ident) 59 60 ∷ symbol (Ident) 61 64 ∷ symbol (Ident) 65 68 ∷ symbol (Ident) 69 70 ∷ symbol (Ident) 70 71 ∷ []) }; tree = record { module_word = 0; name = 1; semicolon = 0; imports = None; decls = (S.decls (Some (record { const_word = 0; each = (record { name = (record { name = 4; star = None }); equal = 0; value = (S.only (S.simple None (S.term (S.True 6) S.no_factor) S.no_term)); semicolon = 0 } ∷ []) })) None (Some (record { var_word = 0; each = (record { names = (record { first = (record { name = 9; star = None }); more = [] }); colon = 0; of = (S.Named (record { name = 11; member = None })); semicolon = 0 } ∷ []) })) S.no_procedure); body = (Some (record { begin_word = 0; stats = (S.stats (S.Case 0 (S.only (S.simple None (S.term (S.Designated 15 S.no_selector) S.no_factor) S.no_term)) 0 (S.one_case (record { low = TheLabel.Named (record { name = 17; member = None }); high = None }) [] 0 (S.stats S.Empty S.no_stat)) S.no_next_case 0) S.no_stat) })); end_word = 0; end_name = 21; period = 0 } }

pub bad_label_31 : checked (bad_label_31_0 ∷ []) ≡ Fault 0 39 58
bad_label_31 = refl

-- MODULE M; TYPE R = RECORD END; S = RECORD END; PROCEDURE P(VAR r: R); BEGIN CASE r OF S: END END P; END M.
abbrev bad_label_32_0 : Parsed
bad_label_32_0 = record { source = record { bytes = (77 ∷ 79 ∷ 68 ∷ 85 ∷ 76 ∷ 69 ∷ 32 ∷ 77 ∷ 59 ∷ 32 ∷ 84 ∷ 89 ∷ 80 ∷ 69 ∷ 32 ∷ 82 ∷ 32 ∷ 61 ∷ 32 ∷ 82 ∷ 69 ∷ 67 ∷ 79 ∷ 82 ∷ 68 ∷ 32 ∷ 69 ∷ 78 ∷ 68 ∷ 59 ∷ 32 ∷ 83 ∷ 32 ∷ 61 ∷ 32 ∷ 82 ∷ 69 ∷ 67 ∷ 79 ∷ 82 ∷ 68 ∷ 32 ∷ 69 ∷ 78 ∷ 68 ∷ 59 ∷ 32 ∷ 80 ∷ 82 ∷ 79 ∷ 67 ∷ 69 ∷ 68 ∷ 85 ∷ 82 ∷ 69 ∷ 32 ∷ 80 ∷ 40 ∷ 86 ∷ 65 ∷ 82 ∷ 32 ∷ 114 ∷ 58 ∷ 32 ∷ 82 ∷ 41 ∷ 59 ∷ 32 ∷ 66 ∷ 69 ∷ 71 ∷ 73 ∷ 78 ∷ 32 ∷ 67 ∷ 65 ∷ 83 ∷ 69 ∷ 32 ∷ 114 ∷ 32 ∷ 79 ∷ 70 ∷ 32 ∷ 83 ∷ 58 ∷ 32 ∷ 69 ∷ 78 ∷ 68 ∷ 32 ∷ 69 ∷ 78 ∷ 68 ∷ 32 ∷ 80 ∷ 59 ∷ 32 ∷ 69 ∷ 78 ∷ 68 ∷ 32 ∷ 77 ∷ 46 ∷ []); symbols = (symbol (Ident) 0 6 ∷ symbol (Ident) 7 8 ∷ symbol (Ident) 8 9 ∷ symbol (Ident) 10 14 ∷ symbol (Ident) 15 16 ∷ symbol (Ident) 17 18 ∷ symbol (Ident) 19 25 ∷ symbol (Ident) 26 29 ∷ symbol (Ident) 29 30 ∷ symbol (Ident) 31 32 ∷ symbol (Ident) 33 34 ∷ symbol (Ident) 35 41 ∷ symbol (Ident) 42 45 ∷ symbol (Ident) 45 46 ∷ symbol (Ident) 47 56 ∷ symbol (Ident) 57 58 ∷ symbol (Ident) 58 59 ∷ symbol (Ident) 59 62 ∷ symbol (Ident) 63 64 ∷ symbol (Ident) 64 65 ∷ symbol (Ident) 66 67 ∷ symbol (Ident) 67 68 ∷ symbol (Ident) 68 69 ∷ symbol (Ident) 70 75 ∷ symbol (Ident) 76 80 ∷ symbol (Ident) 81 82 ∷ symbol (Ident) 83 85 ∷ symbol (Ident) 86 87 ∷ symbol (Ident) 87 88 ∷ symbol (Ident) 89 92 ∷ symbol (Ident) 93 96 ∷ symbol (Ident) 97 98 ∷ symbol (Ident) 98 99 ∷ symbol (Ident) 100 103 ∷ symbol (Ident) 104 105 ∷ symbol (Ident) 105 106 ∷ []) }; tree = record { module_word = 0; name = 1; semicolon = 0; imports = None; decls = (S.decls None (Some (record { type_word = 0; each = (record { name = (record { name = 4; star = None }); equal = 0; is = (S.Record 6 None S.no_fields S.no_more_fields 0); semicolon = 0 } ∷ record { name = (record { name = 9; star = None }); equal = 0; is = (S.Record 11 None S.no_fields S.no_more_fields 0); semicolon = 0 } ∷ []) })) None (S.procedure 0 (record { name = 15; star = None }) (Some (record { left_paren = 0; sections = Some (record { first = (record { var_word = Some 0; first = 18; more = []; colon = 0; open_array = None; of = (record { name = 20; member = None }) }); more = [] }); right_paren = 0; result = None })) 0 (S.decls None None None S.no_procedure) (Some (record { begin_word = 0; stats = (S.stats (S.Case 0 (S.only (S.simple None (S.term (S.Designated 25 S.no_selector) S.no_factor) S.no_term)) 0 (S.one_case (record { low = TheLabel.Named (record { name = 27; member = None }); high = None }) [] 0 (S.stats S.Empty S.no_stat)) S.no_next_case 0) S.no_stat) })) None 30 31 0 S.no_procedure)); body = None; end_word = 0; end_name = 34; period = 0 } }

pub bad_label_32 : checked (bad_label_32_0 ∷ []) ≡ Fault 0 39 86
bad_label_32 = refl

-- MODULE M; VAR i: INTEGER; PROCEDURE F(x: INTEGER): INTEGER; RETURN x END F; BEGIN i := F() END M.
abbrev bad_parameter_1_0 : Parsed
bad_parameter_1_0 = record { source = record { bytes = (77 ∷ 79 ∷ 68 ∷ 85 ∷ 76 ∷ 69 ∷ 32 ∷ 77 ∷ 59 ∷ 32 ∷ 86 ∷ 65 ∷ 82 ∷ 32 ∷ 105 ∷ 58 ∷ 32 ∷ 73 ∷ 78 ∷ 84 ∷ 69 ∷ 71 ∷ 69 ∷ 82 ∷ 59 ∷ 32 ∷ 80 ∷ 82 ∷ 79 ∷ 67 ∷ 69 ∷ 68 ∷ 85 ∷ 82 ∷ 69 ∷ 32 ∷ 70 ∷ 40 ∷ 120 ∷ 58 ∷ 32 ∷ 73 ∷ 78 ∷ 84 ∷ 69 ∷ 71 ∷ 69 ∷ 82 ∷ 41 ∷ 58 ∷ 32 ∷ 73 ∷ 78 ∷ 84 ∷ 69 ∷ 71 ∷ 69 ∷ 82 ∷ 59 ∷ 32 ∷ 82 ∷ 69 ∷ 84 ∷ 85 ∷ 82 ∷ 78 ∷ 32 ∷ 120 ∷ 32 ∷ 69 ∷ 78 ∷ 68 ∷ 32 ∷ 70 ∷ 59 ∷ 32 ∷ 66 ∷ 69 ∷ 71 ∷ 73 ∷ 78 ∷ 32 ∷ 105 ∷ 32 ∷ 58 ∷ 61 ∷ 32 ∷ 70 ∷ 40 ∷ 41 ∷ 32 ∷ 69 ∷ 78 ∷ 68 ∷ 32 ∷ 77 ∷ 46 ∷ []); symbols = (symbol (Ident) 0 6 ∷ symbol (Ident) 7 8 ∷ symbol (Ident) 8 9 ∷ symbol (Ident) 10 13 ∷ symbol (Ident) 14 15 ∷ symbol (Ident) 15 16 ∷ symbol (Ident) 17 24 ∷ symbol (Ident) 24 25 ∷ symbol (Ident) 26 35 ∷ symbol (Ident) 36 37 ∷ symbol (Ident) 37 38 ∷ symbol (Ident) 38 39 ∷ symbol (Ident) 39 40 ∷ symbol (Ident) 41 48 ∷ symbol (Ident) 48 49 ∷ symbol (Ident) 49 50 ∷ symbol (Ident) 51 58 ∷ symbol (Ident) 58 59 ∷ symbol (Ident) 60 66 ∷ symbol (Ident) 67 68 ∷ symbol (Ident) 69 72 ∷ symbol (Ident) 73 74 ∷ symbol (Ident) 74 75 ∷ symbol (Ident) 76 81 ∷ symbol (Ident) 82 83 ∷ symbol (Ident) 84 86 ∷ symbol (Ident) 87 88 ∷ symbol (Ident) 88 89 ∷ symbol (Ident) 89 90 ∷ symbol (Ident) 91 94 ∷ symbol (Ident) 95 96 ∷ symbol (Ident) 96 97 ∷ []) }; tree = record { module_word = 0; name = 1; semicolon = 0; imports = None; decls = (S.decls None None (Some (record { var_word = 0; each = (record { names = (record { first = (record { name = 4; star = None }); more = [] }); colon = 0; of = (S.Named (record { name = 6; member = None })); semicolon = 0 } ∷ []) })) (S.procedure 0 (record { name = 9; star = None }) (Some (record { left_paren = 0; sections = Some (record { first = (record { var_word = None; first = 11; more = []; colon = 0; open_array = None; of = (record { name = 13; member = None }) }); more = [] }); right_paren = 0; result = Some (record { colon = 0; name = (record { name = 16; member = None }) }) })) 0 (S.decls None None None S.no_procedure) None (Some (record { return_word = 18; value = (S.only (S.simple None (S.term (S.Designated 19 S.no_selector) S.no_factor) S.no_term)) })) 20 21 0 S.no_procedure)); body = (Some (record { begin_word = 0; stats = (S.stats (S.AssignOrCall (record { name = 24; selectors = S.no_selector }) (Some (record { becomes = 0; value = (S.only (S.simple None (S.term (S.Designated 26 (S.selected (S.EmptyParens 0 0) S.no_selector)) S.no_factor) S.no_term)) }))) S.no_stat) })); end_word = 0; end_name = 30; period = 0 } }

pub bad_parameter_1 : checked (bad_parameter_1_0 ∷ []) ≡ Fault 0 40 87
bad_parameter_1 = refl

-- MODULE M; VAR i: INTEGER; PROCEDURE F(x: INTEGER): INTEGER; RETURN x END F; BEGIN i := F(1, 2) END M.
abbrev bad_parameter_2_0 : Parsed
bad_parameter_2_0 = record { source = record { bytes = (77 ∷ 79 ∷ 68 ∷ 85 ∷ 76 ∷ 69 ∷ 32 ∷ 77 ∷ 59 ∷ 32 ∷ 86 ∷ 65 ∷ 82 ∷ 32 ∷ 105 ∷ 58 ∷ 32 ∷ 73 ∷ 78 ∷ 84 ∷ 69 ∷ 71 ∷ 69 ∷ 82 ∷ 59 ∷ 32 ∷ 80 ∷ 82 ∷ 79 ∷ 67 ∷ 69 ∷ 68 ∷ 85 ∷ 82 ∷ 69 ∷ 32 ∷ 70 ∷ 40 ∷ 120 ∷ 58 ∷ 32 ∷ 73 ∷ 78 ∷ 84 ∷ 69 ∷ 71 ∷ 69 ∷ 82 ∷ 41 ∷ 58 ∷ 32 ∷ 73 ∷ 78 ∷ 84 ∷ 69 ∷ 71 ∷ 69 ∷ 82 ∷ 59 ∷ 32 ∷ 82 ∷ 69 ∷ 84 ∷ 85 ∷ 82 ∷ 78 ∷ 32 ∷ 120 ∷ 32 ∷ 69 ∷ 78 ∷ 68 ∷ 32 ∷ 70 ∷ 59 ∷ 32 ∷ 66 ∷ 69 ∷ 71 ∷ 73 ∷ 78 ∷ 32 ∷ 105 ∷ 32 ∷ 58 ∷ 61 ∷ 32 ∷ 70 ∷ 40 ∷ 49 ∷ 44 ∷ 32 ∷ 50 ∷ 41 ∷ 32 ∷ 69 ∷ 78 ∷ 68 ∷ 32 ∷ 77 ∷ 46 ∷ []); symbols = (symbol (Ident) 0 6 ∷ symbol (Ident) 7 8 ∷ symbol (Ident) 8 9 ∷ symbol (Ident) 10 13 ∷ symbol (Ident) 14 15 ∷ symbol (Ident) 15 16 ∷ symbol (Ident) 17 24 ∷ symbol (Ident) 24 25 ∷ symbol (Ident) 26 35 ∷ symbol (Ident) 36 37 ∷ symbol (Ident) 37 38 ∷ symbol (Ident) 38 39 ∷ symbol (Ident) 39 40 ∷ symbol (Ident) 41 48 ∷ symbol (Ident) 48 49 ∷ symbol (Ident) 49 50 ∷ symbol (Ident) 51 58 ∷ symbol (Ident) 58 59 ∷ symbol (Ident) 60 66 ∷ symbol (Ident) 67 68 ∷ symbol (Ident) 69 72 ∷ symbol (Ident) 73 74 ∷ symbol (Ident) 74 75 ∷ symbol (Ident) 76 81 ∷ symbol (Ident) 82 83 ∷ symbol (Ident) 84 86 ∷ symbol (Ident) 87 88 ∷ symbol (Ident) 88 89 ∷ symbol (Int (pos 1)) 89 90 ∷ symbol (Ident) 90 91 ∷ symbol (Int (pos 2)) 92 93 ∷ symbol (Ident) 93 94 ∷ symbol (Ident) 95 98 ∷ symbol (Ident) 99 100 ∷ symbol (Ident) 100 101 ∷ []) }; tree = record { module_word = 0; name = 1; semicolon = 0; imports = None; decls = (S.decls None None (Some (record { var_word = 0; each = (record { names = (record { first = (record { name = 4; star = None }); more = [] }); colon = 0; of = (S.Named (record { name = 6; member = None })); semicolon = 0 } ∷ []) })) (S.procedure 0 (record { name = 9; star = None }) (Some (record { left_paren = 0; sections = Some (record { first = (record { var_word = None; first = 11; more = []; colon = 0; open_array = None; of = (record { name = 13; member = None }) }); more = [] }); right_paren = 0; result = Some (record { colon = 0; name = (record { name = 16; member = None }) }) })) 0 (S.decls None None None S.no_procedure) None (Some (record { return_word = 18; value = (S.only (S.simple None (S.term (S.Designated 19 S.no_selector) S.no_factor) S.no_term)) })) 20 21 0 S.no_procedure)); body = (Some (record { begin_word = 0; stats = (S.stats (S.AssignOrCall (record { name = 24; selectors = S.no_selector }) (Some (record { becomes = 0; value = (S.only (S.simple None (S.term (S.Designated 26 (S.selected (S.Parens 0 (S.expressions (S.only (S.simple None (S.term (S.Int 28) S.no_factor) S.no_term)) (S.next_expression 0 (S.only (S.simple None (S.term (S.Int 30) S.no_factor) S.no_term)) S.no_expression)) 0) S.no_selector)) S.no_factor) S.no_term)) }))) S.no_stat) })); end_word = 0; end_name = 33; period = 0 } }

pub bad_parameter_2 : checked (bad_parameter_2_0 ∷ []) ≡ Fault 0 40 87
bad_parameter_2 = refl

-- MODULE M; PROCEDURE N; END N; BEGIN N(1) END M.
abbrev bad_parameter_3_0 : Parsed
bad_parameter_3_0 = record { source = record { bytes = (77 ∷ 79 ∷ 68 ∷ 85 ∷ 76 ∷ 69 ∷ 32 ∷ 77 ∷ 59 ∷ 32 ∷ 80 ∷ 82 ∷ 79 ∷ 67 ∷ 69 ∷ 68 ∷ 85 ∷ 82 ∷ 69 ∷ 32 ∷ 78 ∷ 59 ∷ 32 ∷ 69 ∷ 78 ∷ 68 ∷ 32 ∷ 78 ∷ 59 ∷ 32 ∷ 66 ∷ 69 ∷ 71 ∷ 73 ∷ 78 ∷ 32 ∷ 78 ∷ 40 ∷ 49 ∷ 41 ∷ 32 ∷ 69 ∷ 78 ∷ 68 ∷ 32 ∷ 77 ∷ 46 ∷ []); symbols = (symbol (Ident) 0 6 ∷ symbol (Ident) 7 8 ∷ symbol (Ident) 8 9 ∷ symbol (Ident) 10 19 ∷ symbol (Ident) 20 21 ∷ symbol (Ident) 21 22 ∷ symbol (Ident) 23 26 ∷ symbol (Ident) 27 28 ∷ symbol (Ident) 28 29 ∷ symbol (Ident) 30 35 ∷ symbol (Ident) 36 37 ∷ symbol (Ident) 37 38 ∷ symbol (Int (pos 1)) 38 39 ∷ symbol (Ident) 39 40 ∷ symbol (Ident) 41 44 ∷ symbol (Ident) 45 46 ∷ symbol (Ident) 46 47 ∷ []) }; tree = record { module_word = 0; name = 1; semicolon = 0; imports = None; decls = (S.decls None None None (S.procedure 0 (record { name = 4; star = None }) None 0 (S.decls None None None S.no_procedure) None None 6 7 0 S.no_procedure)); body = (Some (record { begin_word = 0; stats = (S.stats (S.AssignOrCall (record { name = 10; selectors = (S.selected (S.Parens 0 (S.expressions (S.only (S.simple None (S.term (S.Int 12) S.no_factor) S.no_term)) S.no_expression) 0) S.no_selector) }) None) S.no_stat) })); end_word = 0; end_name = 15; period = 0 } }

pub bad_parameter_3 : checked (bad_parameter_3_0 ∷ []) ≡ Fault 0 40 36
bad_parameter_3 = refl

-- MODULE M; TYPE R = RECORD x: INTEGER; y*: CHAR END; VAR i: INTEGER; PROCEDURE V(VAR x: INTEGER; VAR r: R); END V; BEGIN V(i) END M.
abbrev bad_parameter_4_0 : Parsed
bad_parameter_4_0 = record { source = record { bytes = (77 ∷ 79 ∷ 68 ∷ 85 ∷ 76 ∷ 69 ∷ 32 ∷ 77 ∷ 59 ∷ 32 ∷ 84 ∷ 89 ∷ 80 ∷ 69 ∷ 32 ∷ 82 ∷ 32 ∷ 61 ∷ 32 ∷ 82 ∷ 69 ∷ 67 ∷ 79 ∷ 82 ∷ 68 ∷ 32 ∷ 120 ∷ 58 ∷ 32 ∷ 73 ∷ 78 ∷ 84 ∷ 69 ∷ 71 ∷ 69 ∷ 82 ∷ 59 ∷ 32 ∷ 121 ∷ 42 ∷ 58 ∷ 32 ∷ 67 ∷ 72 ∷ 65 ∷ 82 ∷ 32 ∷ 69 ∷ 78 ∷ 68 ∷ 59 ∷ 32 ∷ 86 ∷ 65 ∷ 82 ∷ 32 ∷ 105 ∷ 58 ∷ 32 ∷ 73 ∷ 78 ∷ 84 ∷ 69 ∷ 71 ∷ 69 ∷ 82 ∷ 59 ∷ 32 ∷ 80 ∷ 82 ∷ 79 ∷ 67 ∷ 69 ∷ 68 ∷ 85 ∷ 82 ∷ 69 ∷ 32 ∷ 86 ∷ 40 ∷ 86 ∷ 65 ∷ 82 ∷ 32 ∷ 120 ∷ 58 ∷ 32 ∷ 73 ∷ 78 ∷ 84 ∷ 69 ∷ 71 ∷ 69 ∷ 82 ∷ 59 ∷ 32 ∷ 86 ∷ 65 ∷ 82 ∷ 32 ∷ 114 ∷ 58 ∷ 32 ∷ 82 ∷ 41 ∷ 59 ∷ 32 ∷ 69 ∷ 78 ∷ 68 ∷ 32 ∷ 86 ∷ 59 ∷ 32 ∷ 66 ∷ 69 ∷ 71 ∷ 73 ∷ 78 ∷ 32 ∷ 86 ∷ 40 ∷ 105 ∷ 41 ∷ 32 ∷ 69 ∷ 78 ∷ 68 ∷ 32 ∷ 77 ∷ 46 ∷ []); symbols = (symbol (Ident) 0 6 ∷ symbol (Ident) 7 8 ∷ symbol (Ident) 8 9 ∷ symbol (Ident) 10 14 ∷ symbol (Ident) 15 16 ∷ symbol (Ident) 17 18 ∷ symbol (Ident) 19 25 ∷ symbol (Ident) 26 27 ∷ symbol (Ident) 27 28 ∷ symbol (Ident) 29 36 ∷ symbol (Ident) 36 37 ∷ symbol (Ident) 38 39 ∷ symbol (Ident) 39 40 ∷ symbol (Ident) 40 41 ∷ symbol (Ident) 42 46 ∷ symbol (Ident) 47 50 ∷ symbol (Ident) 50 51 ∷ symbol (Ident) 52 55 ∷ symbol (Ident) 56 57 ∷ symbol (Ident) 57 58 ∷ symbol (Ident) 59 66 ∷ symbol (Ident) 66 67 ∷ symbol (Ident) 68 77 ∷ symbol (Ident) 78 79 ∷ symbol (Ident) 79 80 ∷ symbol (Ident) 80 83 ∷ symbol (Ident) 84 85 ∷ symbol (Ident) 85 86 ∷ symbol (Ident) 87 94 ∷ symbol (Ident) 94 95 ∷ symbol (Ident) 96 99 ∷ symbol (Ident) 100 101 ∷ symbol (Ident) 101 102 ∷ symbol (Ident) 103 104 ∷ symbol (Ident) 104 105 ∷ symbol (Ident) 105 106 ∷ symbol (Ident) 107 110 ∷ symbol (Ident) 111 112 ∷ symbol (Ident) 112 113 ∷ symbol (Ident) 114 119 ∷ symbol (Ident) 120 121 ∷ symbol (Ident) 121 122 ∷ symbol (Ident) 122 123 ∷ symbol (Ident) 123 124 ∷ symbol (Ident) 125 128 ∷ symbol (Ident) 129 130 ∷ symbol (Ident) 130 131 ∷ []) }; tree = record { module_word = 0; name = 1; semicolon = 0; imports = None; decls = (S.decls None (Some (record { type_word = 0; each = (record { name = (record { name = 4; star = None }); equal = 0; is = (S.Record 6 None (S.fields (record { first = (record { name = 7; star = None }); more = [] }) 0 (S.Named (record { name = 9; member = None }))) (S.next_fields 0 (S.fields (record { first = (record { name = 11; star = Some 0 }); more = [] }) 0 (S.Named (record { name = 14; member = None }))) S.no_more_fields) 0); semicolon = 0 } ∷ []) })) (Some (record { var_word = 0; each = (record { names = (record { first = (record { name = 18; star = None }); more = [] }); colon = 0; of = (S.Named (record { name = 20; member = None })); semicolon = 0 } ∷ []) })) (S.procedure 0 (record { name = 23; star = None }) (Some (record { left_paren = 0; sections = Some (record { first = (record { var_word = Some 0; first = 26; more = []; colon = 0; open_array = None; of = (record { name = 28; member = None }) }); more = (record { semicolon = 0; section = (record { var_word = Some 0; first = 31; more = []; colon = 0; open_array = None; of = (record { name = 33; member = None }) }) } ∷ []) }); right_paren = 0; result = None })) 0 (S.decls None None None S.no_procedure) None None 36 37 0 S.no_procedure)); body = (Some (record { begin_word = 0; stats = (S.stats (S.AssignOrCall (record { name = 40; selectors = (S.selected (S.Parens 0 (S.expressions (S.only (S.simple None (S.term (S.Designated 42 S.no_selector) S.no_factor) S.no_term)) S.no_expression) 0) S.no_selector) }) None) S.no_stat) })); end_word = 0; end_name = 45; period = 0 } }

pub bad_parameter_4 : checked (bad_parameter_4_0 ∷ []) ≡ Fault 0 40 120
bad_parameter_4 = refl

-- MODULE M; TYPE R = RECORD x: INTEGER; y*: CHAR END; VAR r: R; PROCEDURE V(VAR x: INTEGER; VAR r: R); END V; BEGIN V(1, r) END M.
abbrev bad_parameter_5_0 : Parsed
bad_parameter_5_0 = record { source = record { bytes = (77 ∷ 79 ∷ 68 ∷ 85 ∷ 76 ∷ 69 ∷ 32 ∷ 77 ∷ 59 ∷ 32 ∷ 84 ∷ 89 ∷ 80 ∷ 69 ∷ 32 ∷ 82 ∷ 32 ∷ 61 ∷ 32 ∷ 82 ∷ 69 ∷ 67 ∷ 79 ∷ 82 ∷ 68 ∷ 32 ∷ 120 ∷ 58 ∷ 32 ∷ 73 ∷ 78 ∷ 84 ∷ 69 ∷ 71 ∷ 69 ∷ 82 ∷ 59 ∷ 32 ∷ 121 ∷ 42 ∷ 58 ∷ 32 ∷ 67 ∷ 72 ∷ 65 ∷ 82 ∷ 32 ∷ 69 ∷ 78 ∷ 68 ∷ 59 ∷ 32 ∷ 86 ∷ 65 ∷ 82 ∷ 32 ∷ 114 ∷ 58 ∷ 32 ∷ 82 ∷ 59 ∷ 32 ∷ 80 ∷ 82 ∷ 79 ∷ 67 ∷ 69 ∷ 68 ∷ 85 ∷ 82 ∷ 69 ∷ 32 ∷ 86 ∷ 40 ∷ 86 ∷ 65 ∷ 82 ∷ 32 ∷ 120 ∷ 58 ∷ 32 ∷ 73 ∷ 78 ∷ 84 ∷ 69 ∷ 71 ∷ 69 ∷ 82 ∷ 59 ∷ 32 ∷ 86 ∷ 65 ∷ 82 ∷ 32 ∷ 114 ∷ 58 ∷ 32 ∷ 82 ∷ 41 ∷ 59 ∷ 32 ∷ 69 ∷ 78 ∷ 68 ∷ 32 ∷ 86 ∷ 59 ∷ 32 ∷ 66 ∷ 69 ∷ 71 ∷ 73 ∷ 78 ∷ 32 ∷ 86 ∷ 40 ∷ 49 ∷ 44 ∷ 32 ∷ 114 ∷ 41 ∷ 32 ∷ 69 ∷ 78 ∷ 68 ∷ 32 ∷ 77 ∷ 46 ∷ []); symbols = (symbol (Ident) 0 6 ∷ symbol (Ident) 7 8 ∷ symbol (Ident) 8 9 ∷ symbol (Ident) 10 14 ∷ symbol (Ident) 15 16 ∷ symbol (Ident) 17 18 ∷ symbol (Ident) 19 25 ∷ symbol (Ident) 26 27 ∷ symbol (Ident) 27 28 ∷ symbol (Ident) 29 36 ∷ symbol (Ident) 36 37 ∷ symbol (Ident) 38 39 ∷ symbol (Ident) 39 40 ∷ symbol (Ident) 40 41 ∷ symbol (Ident) 42 46 ∷ symbol (Ident) 47 50 ∷ symbol (Ident) 50 51 ∷ symbol (Ident) 52 55 ∷ symbol (Ident) 56 57 ∷ symbol (Ident) 57 58 ∷ symbol (Ident) 59 60 ∷ symbol (Ident) 60 61 ∷ symbol (Ident) 62 71 ∷ symbol (Ident) 72 73 ∷ symbol (Ident) 73 74 ∷ symbol (Ident) 74 77 ∷ symbol (Ident) 78 79 ∷ symbol (Ident) 79 80 ∷ symbol (Ident) 81 88 ∷ symbol (Ident) 88 89 ∷ symbol (Ident) 90 93 ∷ symbol (Ident) 94 95 ∷ symbol (Ident) 95 96 ∷ symbol (Ident) 97 98 ∷ symbol (Ident) 98 99 ∷ symbol (Ident) 99 100 ∷ symbol (Ident) 101 104 ∷ symbol (Ident) 105 106 ∷ symbol (Ident) 106 107 ∷ symbol (Ident) 108 113 ∷ symbol (Ident) 114 115 ∷ symbol (Ident) 115 116 ∷ symbol (Int (pos 1)) 116 117 ∷ symbol (Ident) 117 118 ∷ symbol (Ident) 119 120 ∷ symbol (Ident) 120 121 ∷ symbol (Ident) 122 125 ∷ symbol (Ident) 126 127 ∷ symbol (Ident) 127 128 ∷ []) }; tree = record { module_word = 0; name = 1; semicolon = 0; imports = None; decls = (S.decls None (Some (record { type_word = 0; each = (record { name = (record { name = 4; star = None }); equal = 0; is = (S.Record 6 None (S.fields (record { first = (record { name = 7; star = None }); more = [] }) 0 (S.Named (record { name = 9; member = None }))) (S.next_fields 0 (S.fields (record { first = (record { name = 11; star = Some 0 }); more = [] }) 0 (S.Named (record { name = 14; member = None }))) S.no_more_fields) 0); semicolon = 0 } ∷ []) })) (Some (record { var_word = 0; each = (record { names = (record { first = (record { name = 18; star = None }); more = [] }); colon = 0; of = (S.Named (record { name = 20; member = None })); semicolon = 0 } ∷ []) })) (S.procedure 0 (record { name = 23; star = None }) (Some (record { left_paren = 0; sections = Some (record { first = (record { var_word = Some 0; first = 26; more = []; colon = 0; open_array = None; of = (record { name = 28; member = None }) }); more = (record { semicolon = 0; section = (record { var_word = Some 0; first = 31; more = []; colon = 0; open_array = None; of = (record { name = 33; member = None }) }) } ∷ []) }); right_paren = 0; result = None })) 0 (S.decls None None None S.no_procedure) None None 36 37 0 S.no_procedure)); body = (Some (record { begin_word = 0; stats = (S.stats (S.AssignOrCall (record { name = 40; selectors = (S.selected (S.Parens 0 (S.expressions (S.only (S.simple None (S.term (S.Int 42) S.no_factor) S.no_term)) (S.next_expression 0 (S.only (S.simple None (S.term (S.Designated 44 S.no_selector) S.no_factor) S.no_term)) S.no_expression)) 0) S.no_selector) }) None) S.no_stat) })); end_word = 0; end_name = 47; period = 0 } }

pub bad_parameter_5 : checked (bad_parameter_5_0 ∷ []) ≡ Fault 0 40 116
bad_parameter_5 = refl

-- MODULE M; TYPE R = RECORD x: INTEGER; y*: CHAR END; VAR i: INTEGER; r: R; PROCEDURE V(VAR x: INTEGER; VAR r: R); END V; BEGIN V(i + 1, r) END M.
abbrev bad_parameter_6_0 : Parsed
bad_parameter_6_0 = record { source = record { bytes = (77 ∷ 79 ∷ 68 ∷ 85 ∷ 76 ∷ 69 ∷ 32 ∷ 77 ∷ 59 ∷ 32 ∷ 84 ∷ 89 ∷ 80 ∷ 69 ∷ 32 ∷ 82 ∷ 32 ∷ 61 ∷ 32 ∷ 82 ∷ 69 ∷ 67 ∷ 79 ∷ 82 ∷ 68 ∷ 32 ∷ 120 ∷ 58 ∷ 32 ∷ 73 ∷ 78 ∷ 84 ∷ 69 ∷ 71 ∷ 69 ∷ 82 ∷ 59 ∷ 32 ∷ 121 ∷ 42 ∷ 58 ∷ 32 ∷ 67 ∷ 72 ∷ 65 ∷ 82 ∷ 32 ∷ 69 ∷ 78 ∷ 68 ∷ 59 ∷ 32 ∷ 86 ∷ 65 ∷ 82 ∷ 32 ∷ 105 ∷ 58 ∷ 32 ∷ 73 ∷ 78 ∷ 84 ∷ 69 ∷ 71 ∷ 69 ∷ 82 ∷ 59 ∷ 32 ∷ 114 ∷ 58 ∷ 32 ∷ 82 ∷ 59 ∷ 32 ∷ 80 ∷ 82 ∷ 79 ∷ 67 ∷ 69 ∷ 68 ∷ 85 ∷ 82 ∷ 69 ∷ 32 ∷ 86 ∷ 40 ∷ 86 ∷ 65 ∷ 82 ∷ 32 ∷ 120 ∷ 58 ∷ 32 ∷ 73 ∷ 78 ∷ 84 ∷ 69 ∷ 71 ∷ 69 ∷ 82 ∷ 59 ∷ 32 ∷ 86 ∷ 65 ∷ 82 ∷ 32 ∷ 114 ∷ 58 ∷ 32 ∷ 82 ∷ 41 ∷ 59 ∷ 32 ∷ 69 ∷ 78 ∷ 68 ∷ 32 ∷ 86 ∷ 59 ∷ 32 ∷ 66 ∷ 69 ∷ 71 ∷ 73 ∷ 78 ∷ 32 ∷ 86 ∷ 40 ∷ 105 ∷ 32 ∷ 43 ∷ 32 ∷ 49 ∷ 44 ∷ 32 ∷ 114 ∷ 41 ∷ 32 ∷ 69 ∷ 78 ∷ 68 ∷ 32 ∷ 77 ∷ 46 ∷ []); symbols = (symbol (Ident) 0 6 ∷ symbol (Ident) 7 8 ∷ symbol (Ident) 8 9 ∷ symbol (Ident) 10 14 ∷ symbol (Ident) 15 16 ∷ symbol (Ident) 17 18 ∷ symbol (Ident) 19 25 ∷ symbol (Ident) 26 27 ∷ symbol (Ident) 27 28 ∷ symbol (Ident) 29 36 ∷ symbol (Ident) 36 37 ∷ symbol (Ident) 38 39 ∷ symbol (Ident) 39 40 ∷ symbol (Ident) 40 41 ∷ symbol (Ident) 42 46 ∷ symbol (Ident) 47 50 ∷ symbol (Ident) 50 51 ∷ symbol (Ident) 52 55 ∷ symbol (Ident) 56 57 ∷ symbol (Ident) 57 58 ∷ symbol (Ident) 59 66 ∷ symbol (Ident) 66 67 ∷ symbol (Ident) 68 69 ∷ symbol (Ident) 69 70 ∷ symbol (Ident) 71 72 ∷ symbol (Ident) 72 73 ∷ symbol (Ident) 74 83 ∷ symbol (Ident) 84 85 ∷ symbol (Ident) 85 86 ∷ symbol (Ident) 86 89 ∷ symbol (Ident) 90 91 ∷ symbol (Ident) 91 92 ∷ symbol (Ident) 93 100 ∷ symbol (Ident) 100 101 ∷ symbol (Ident) 102 105 ∷ symbol (Ident) 106 107 ∷ symbol (Ident) 107 108 ∷ symbol (Ident) 109 110 ∷ symbol (Ident) 110 111 ∷ symbol (Ident) 111 112 ∷ symbol (Ident) 113 116 ∷ symbol (Ident) 117 118 ∷ symbol (Ident) 118 119 ∷ symbol (Ident) 120 125 ∷ symbol (Ident) 126 127 ∷ symbol (Ident) 127 128 ∷ symbol (Ident) 128 129 ∷ symbol (Ident) 130 131 ∷ symbol (Int (pos 1)) 132 133 ∷ symbol (Ident) 133 134 ∷ symbol (Ident) 135 136 ∷ symbol (Ident) 136 137 ∷ symbol (Ident) 138 141 ∷ symbol (Ident) 142 143 ∷ symbol (Ident) 143 144 ∷ []) }; tree = record { module_word = 0; name = 1; semicolon = 0; imports = None; decls = (S.decls None (Some (record { type_word = 0; each = (record { name = (record { name = 4; star = None }); equal = 0; is = (S.Record 6 None (S.fields (record { first = (record { name = 7; star = None }); more = [] }) 0 (S.Named (record { name = 9; member = None }))) (S.next_fields 0 (S.fields (record { first = (record { name = 11; star = Some 0 }); more = [] }) 0 (S.Named (record { name = 14; member = None }))) S.no_more_fields) 0); semicolon = 0 } ∷ []) })) (Some (record { var_word = 0; each = (record { names = (record { first = (record { name = 18; star = None }); more = [] }); colon = 0; of = (S.Named (record { name = 20; member = None })); semicolon = 0 } ∷ record { names = (record { first = (record { name = 22; star = None }); more = [] }); colon = 0; of = (S.Named (record { name = 24; member = None })); semicolon = 0 } ∷ []) })) (S.procedure 0 (record { name = 27; star = None }) (Some (record { left_paren = 0; sections = Some (record { first = (record { var_word = Some 0; first = 30; more = []; colon = 0; open_array = None; of = (record { name = 32; member = None }) }); more = (record { semicolon = 0; section = (record { var_word = Some 0; first = 35; more = []; colon = 0; open_array = None; of = (record { name = 37; member = None }) }) } ∷ []) }); right_paren = 0; result = None })) 0 (S.decls None None None S.no_procedure) None None 40 41 0 S.no_procedure)); body = (Some (record { begin_word = 0; stats = (S.stats (S.AssignOrCall (record { name = 44; selectors = (S.selected (S.Parens 0 (S.expressions (S.only (S.simple None (S.term (S.Designated 46 S.no_selector) S.no_factor) (S.added (TheAddOperator.Plus 47) (S.term (S.Int 48) S.no_factor) S.no_term))) (S.next_expression 0 (S.only (S.simple None (S.term (S.Designated 50 S.no_selector) S.no_factor) S.no_term)) S.no_expression)) 0) S.no_selector) }) None) S.no_stat) })); end_word = 0; end_name = 53; period = 0 } }

pub bad_parameter_6 : checked (bad_parameter_6_0 ∷ []) ≡ Fault 0 40 128
bad_parameter_6 = refl

-- MODULE M; TYPE R = RECORD x: INTEGER; y*: CHAR END; VAR i: INTEGER; r: R; PROCEDURE V(VAR x: INTEGER; VAR r: R); END V; BEGIN V((i), r) END M.
abbrev bad_parameter_7_0 : Parsed
bad_parameter_7_0 = record { source = record { bytes = (77 ∷ 79 ∷ 68 ∷ 85 ∷ 76 ∷ 69 ∷ 32 ∷ 77 ∷ 59 ∷ 32 ∷ 84 ∷ 89 ∷ 80 ∷ 69 ∷ 32 ∷ 82 ∷ 32 ∷ 61 ∷ 32 ∷ 82 ∷ 69 ∷ 67 ∷ 79 ∷ 82 ∷ 68 ∷ 32 ∷ 120 ∷ 58 ∷ 32 ∷ 73 ∷ 78 ∷ 84 ∷ 69 ∷ 71 ∷ 69 ∷ 82 ∷ 59 ∷ 32 ∷ 121 ∷ 42 ∷ 58 ∷ 32 ∷ 67 ∷ 72 ∷ 65 ∷ 82 ∷ 32 ∷ 69 ∷ 78 ∷ 68 ∷ 59 ∷ 32 ∷ 86 ∷ 65 ∷ 82 ∷ 32 ∷ 105 ∷ 58 ∷ 32 ∷ 73 ∷ 78 ∷ 84 ∷ 69 ∷ 71 ∷ 69 ∷ 82 ∷ 59 ∷ 32 ∷ 114 ∷ 58 ∷ 32 ∷ 82 ∷ 59 ∷ 32 ∷ 80 ∷ 82 ∷ 79 ∷ 67 ∷ 69 ∷ 68 ∷ 85 ∷ 82 ∷ 69 ∷ 32 ∷ 86 ∷ 40 ∷ 86 ∷ 65 ∷ 82 ∷ 32 ∷ 120 ∷ 58 ∷ 32 ∷ 73 ∷ 78 ∷ 84 ∷ 69 ∷ 71 ∷ 69 ∷ 82 ∷ 59 ∷ 32 ∷ 86 ∷ 65 ∷ 82 ∷ 32 ∷ 114 ∷ 58 ∷ 32 ∷ 82 ∷ 41 ∷ 59 ∷ 32 ∷ 69 ∷ 78 ∷ 68 ∷ 32 ∷ 86 ∷ 59 ∷ 32 ∷ 66 ∷ 69 ∷ 71 ∷ 73 ∷ 78 ∷ 32 ∷ 86 ∷ 40 ∷ 40 ∷ 105 ∷ 41 ∷ 44 ∷ 32 ∷ 114 ∷ 41 ∷ 32 ∷ 69 ∷ 78 ∷ 68 ∷ 32 ∷ 77 ∷ 46 ∷ []); symbols = (symbol (Ident) 0 6 ∷ symbol (Ident) 7 8 ∷ symbol (Ident) 8 9 ∷ symbol (Ident) 10 14 ∷ symbol (Ident) 15 16 ∷ symbol (Ident) 17 18 ∷ symbol (Ident) 19 25 ∷ symbol (Ident) 26 27 ∷ symbol (Ident) 27 28 ∷ symbol (Ident) 29 36 ∷ symbol (Ident) 36 37 ∷ symbol (Ident) 38 39 ∷ symbol (Ident) 39 40 ∷ symbol (Ident) 40 41 ∷ symbol (Ident) 42 46 ∷ symbol (Ident) 47 50 ∷ symbol (Ident) 50 51 ∷ symbol (Ident) 52 55 ∷ symbol (Ident) 56 57 ∷ symbol (Ident) 57 58 ∷ symbol (Ident) 59 66 ∷ symbol (Ident) 66 67 ∷ symbol (Ident) 68 69 ∷ symbol (Ident) 69 70 ∷ symbol (Ident) 71 72 ∷ symbol (Ident) 72 73 ∷ symbol (Ident) 74 83 ∷ symbol (Ident) 84 85 ∷ symbol (Ident) 85 86 ∷ symbol (Ident) 86 89 ∷ symbol (Ident) 90 91 ∷ symbol (Ident) 91 92 ∷ symbol (Ident) 93 100 ∷ symbol (Ident) 100 101 ∷ symbol (Ident) 102 105 ∷ symbol (Ident) 106 107 ∷ symbol (Ident) 107 108 ∷ symbol (Ident) 109 110 ∷ symbol (Ident) 110 111 ∷ symbol (Ident) 111 112 ∷ symbol (Ident) 113 116 ∷ symbol (Ident) 117 118 ∷ symbol (Ident) 118 119 ∷ symbol (Ident) 120 125 ∷ symbol (Ident) 126 127 ∷ symbol (Ident) 127 128 ∷ symbol (Ident) 128 129 ∷ symbol (Ident) 129 130 ∷ symbol (Ident) 130 131 ∷ symbol (Ident) 131 132 ∷ symbol (Ident) 133 134 ∷ symbol (Ident) 134 135 ∷ symbol (Ident) 136 139 ∷ symbol (Ident) 140 141 ∷ symbol (Ident) 141 142 ∷ []) }; tree = record { module_word = 0; name = 1; semicolon = 0; imports = None; decls = (S.decls None (Some (record { type_word = 0; each = (record { name = (record { name = 4; star = None }); equal = 0; is = (S.Record 6 None (S.fields (record { first = (record { name = 7; star = None }); more = [] }) 0 (S.Named (record { name = 9; member = None }))) (S.next_fields 0 (S.fields (record { first = (record { name = 11; star = Some 0 }); more = [] }) 0 (S.Named (record { name = 14; member = None }))) S.no_more_fields) 0); semicolon = 0 } ∷ []) })) (Some (record { var_word = 0; each = (record { names = (record { first = (record { name = 18; star = None }); more = [] }); colon = 0; of = (S.Named (record { name = 20; member = None })); semicolon = 0 } ∷ record { names = (record { first = (record { name = 22; star = None }); more = [] }); colon = 0; of = (S.Named (record { name = 24; member = None })); semicolon = 0 } ∷ []) })) (S.procedure 0 (record { name = 27; star = None }) (Some (record { left_paren = 0; sections = Some (record { first = (record { var_word = Some 0; first = 30; more = []; colon = 0; open_array = None; of = (record { name = 32; member = None }) }); more = (record { semicolon = 0; section = (record { var_word = Some 0; first = 35; more = []; colon = 0; open_array = None; of = (record { name = 37; member = None }) }) } ∷ []) }); right_paren = 0; result = None })) 0 (S.decls None None None S.no_procedure) None None 40 41 0 S.no_procedure)); body = (Some (record { begin_word = 0; stats = (S.stats (S.AssignOrCall (record { name = 44; selectors = (S.selected (S.Parens 0 (S.expressions (S.only (S.simple None (S.term (S.Paren 46 (S.only (S.simple None (S.term (S.Designated 47 S.no_selector) S.no_factor) S.no_term)) 0) S.no_factor) S.no_term)) (S.next_expression 0 (S.only (S.simple None (S.term (S.Designated 50 S.no_selector) S.no_factor) S.no_term)) S.no_expression)) 0) S.no_selector) }) None) S.no_stat) })); end_word = 0; end_name = 53; period = 0 } }

pub bad_parameter_7 : checked (bad_parameter_7_0 ∷ []) ≡ Fault 0 40 128
bad_parameter_7 = refl

-- MODULE M; TYPE R = RECORD x: INTEGER; y*: CHAR END; VAR r: R; PROCEDURE F(x: INTEGER): INTEGER; RETURN x END F; PROCEDURE V(VAR x: INTEGER; VAR r: R); END V; BEGIN V(F(1), r) END M.
abbrev bad_parameter_8_0 : Parsed
bad_parameter_8_0 = record { source = record { bytes = (77 ∷ 79 ∷ 68 ∷ 85 ∷ 76 ∷ 69 ∷ 32 ∷ 77 ∷ 59 ∷ 32 ∷ 84 ∷ 89 ∷ 80 ∷ 69 ∷ 32 ∷ 82 ∷ 32 ∷ 61 ∷ 32 ∷ 82 ∷ 69 ∷ 67 ∷ 79 ∷ 82 ∷ 68 ∷ 32 ∷ 120 ∷ 58 ∷ 32 ∷ 73 ∷ 78 ∷ 84 ∷ 69 ∷ 71 ∷ 69 ∷ 82 ∷ 59 ∷ 32 ∷ 121 ∷ 42 ∷ 58 ∷ 32 ∷ 67 ∷ 72 ∷ 65 ∷ 82 ∷ 32 ∷ 69 ∷ 78 ∷ 68 ∷ 59 ∷ 32 ∷ 86 ∷ 65 ∷ 82 ∷ 32 ∷ 114 ∷ 58 ∷ 32 ∷ 82 ∷ 59 ∷ 32 ∷ 80 ∷ 82 ∷ 79 ∷ 67 ∷ 69 ∷ 68 ∷ 85 ∷ 82 ∷ 69 ∷ 32 ∷ 70 ∷ 40 ∷ 120 ∷ 58 ∷ 32 ∷ 73 ∷ 78 ∷ 84 ∷ 69 ∷ 71 ∷ 69 ∷ 82 ∷ 41 ∷ 58 ∷ 32 ∷ 73 ∷ 78 ∷ 84 ∷ 69 ∷ 71 ∷ 69 ∷ 82 ∷ 59 ∷ 32 ∷ 82 ∷ 69 ∷ 84 ∷ 85 ∷ 82 ∷ 78 ∷ 32 ∷ 120 ∷ 32 ∷ 69 ∷ 78 ∷ 68 ∷ 32 ∷ 70 ∷ 59 ∷ 32 ∷ 80 ∷ 82 ∷ 79 ∷ 67 ∷ 69 ∷ 68 ∷ 85 ∷ 82 ∷ 69 ∷ 32 ∷ 86 ∷ 40 ∷ 86 ∷ 65 ∷ 82 ∷ 32 ∷ 120 ∷ 58 ∷ 32 ∷ 73 ∷ 78 ∷ 84 ∷ 69 ∷ 71 ∷ 69 ∷ 82 ∷ 59 ∷ 32 ∷ 86 ∷ 65 ∷ 82 ∷ 32 ∷ 114 ∷ 58 ∷ 32 ∷ 82 ∷ 41 ∷ 59 ∷ 32 ∷ 69 ∷ 78 ∷ 68 ∷ 32 ∷ 86 ∷ 59 ∷ 32 ∷ 66 ∷ 69 ∷ 71 ∷ 73 ∷ 78 ∷ 32 ∷ 86 ∷ 40 ∷ 70 ∷ 40 ∷ 49 ∷ 41 ∷ 44 ∷ 32 ∷ 114 ∷ 41 ∷ 32 ∷ 69 ∷ 78 ∷ 68 ∷ 32 ∷ 77 ∷ 46 ∷ []); symbols = (symbol (Ident) 0 6 ∷ symbol (Ident) 7 8 ∷ symbol (Ident) 8 9 ∷ symbol (Ident) 10 14 ∷ symbol (Ident) 15 16 ∷ symbol (Ident) 17 18 ∷ symbol (Ident) 19 25 ∷ symbol (Ident) 26 27 ∷ symbol (Ident) 27 28 ∷ symbol (Ident) 29 36 ∷ symbol (Ident) 36 37 ∷ symbol (Ident) 38 39 ∷ symbol (Ident) 39 40 ∷ symbol (Ident) 40 41 ∷ symbol (Ident) 42 46 ∷ symbol (Ident) 47 50 ∷ symbol (Ident) 50 51 ∷ symbol (Ident) 52 55 ∷ symbol (Ident) 56 57 ∷ symbol (Ident) 57 58 ∷ symbol (Ident) 59 60 ∷ symbol (Ident) 60 61 ∷ symbol (Ident) 62 71 ∷ symbol (Ident) 72 73 ∷ symbol (Ident) 73 74 ∷ symbol (Ident) 74 75 ∷ symbol (Ident) 75 76 ∷ symbol (Ident) 77 84 ∷ symbol (Ident) 84 85 ∷ symbol (Ident) 85 86 ∷ symbol (Ident) 87 94 ∷ symbol (Ident) 94 95 ∷ symbol (Ident) 96 102 ∷ symbol (Ident) 103 104 ∷ symbol (Ident) 105 108 ∷ symbol (Ident) 109 110 ∷ symbol (Ident) 110 111 ∷ symbol (Ident) 112 121 ∷ symbol (Ident) 122 123 ∷ symbol (Ident) 123 124 ∷ symbol (Ident) 124 127 ∷ symbol (Ident) 128 129 ∷ symbol (Ident) 129 130 ∷ symbol (Ident) 131 138 ∷ symbol (Ident) 138 139 ∷ symbol (Ident) 140 143 ∷ symbol (Ident) 144 145 ∷ symbol (Ident) 145 146 ∷ symbol (Ident) 147 148 ∷ symbol (Ident) 148 149 ∷ symbol (Ident) 149 150 ∷ symbol (Ident) 151 154 ∷ symbol (Ident) 155 156 ∷ symbol (Ident) 156 157 ∷ symbol (Ident) 158 163 ∷ symbol (Ident) 164 165 ∷ symbol (Ident) 165 166 ∷ symbol (Ident) 166 167 ∷ symbol (Ident) 167 168 ∷ symbol (Int (pos 1)) 168 169 ∷ symbol (Ident) 169 170 ∷ symbol (Ident) 170 171 ∷ symbol (Ident) 172 173 ∷ symbol (Ident) 173 174 ∷ symbol (Ident) 175 178 ∷ symbol (Ident) 179 180 ∷ symbol (Ident) 180 181 ∷ []) }; tree = record { module_word = 0; name = 1; semicolon = 0; imports = None; decls = (S.decls None (Some (record { type_word = 0; each = (record { name = (record { name = 4; star = None }); equal = 0; is = (S.Record 6 None (S.fields (record { first = (record { name = 7; star = None }); more = [] }) 0 (S.Named (record { name = 9; member = None }))) (S.next_fields 0 (S.fields (record { first = (record { name = 11; star = Some 0 }); more = [] }) 0 (S.Named (record { name = 14; member = None }))) S.no_more_fields) 0); semicolon = 0 } ∷ []) })) (Some (record { var_word = 0; each = (record { names = (record { first = (record { name = 18; star = None }); more = [] }); colon = 0; of = (S.Named (record { name = 20; member = None })); semicolon = 0 } ∷ []) })) (S.procedure 0 (record { name = 23; star = None }) (Some (record { left_paren = 0; sections = Some (record { first = (record { var_word = None; first = 25; more = []; colon = 0; open_array = None; of = (record { name = 27; member = None }) }); more = [] }); right_paren = 0; result = Some (record { colon = 0; name = (record { name = 30; member = None }) }) })) 0 (S.decls None None None S.no_procedure) None (Some (record { return_word = 32; value = (S.only (S.simple None (S.term (S.Designated 33 S.no_selector) S.no_factor) S.no_term)) })) 34 35 0 (S.procedure 0 (record { name = 38; star = None }) (Some (record { left_paren = 0; sections = Some (record { first = (record { var_word = Some 0; first = 41; more = []; colon = 0; open_array = None; of = (record { name = 43; member = None }) }); more = (record { semicolon = 0; section = (record { var_word = Some 0; first = 46; more = []; colon = 0; open_array = None; of = (record { name = 48; member = None }) }) } ∷ []) }); right_paren = 0; result = None })) 0 (S.decls None None None S.no_procedure) None None 51 52 0 S.no_procedure))); body = (Some (record { begin_word = 0; stats = (S.stats (S.AssignOrCall (record { name = 55; selectors = (S.selected (S.Parens 0 (S.expressions (S.only (S.simple None (S.term (S.Designated 57 (S.selected (S.Parens 0 (S.expressions (S.only (S.simple None (S.term (S.Int 59) S.no_factor) S.no_term)) S.no_expression) 0) S.no_selector)) S.no_factor) S.no_term)) (S.next_expression 0 (S.only (S.simple None (S.term (S.Designated 62 S.no_selector) S.no_factor) S.no_term)) S.no_expression)) 0) S.no_selector) }) None) S.no_stat) })); end_word = 0; end_name = 65; period = 0 } }

pub bad_parameter_8 : checked (bad_parameter_8_0 ∷ []) ≡ Fault 0 40 166
bad_parameter_8 = refl

-- MODULE M; TYPE R = RECORD x: INTEGER; y*: CHAR END; E = RECORD (R) z: SET END; P = POINTER TO R; Q = POINTER TO E; VAR i: INTEGER; p: P; PROCEDURE V(VAR x: INTEGER; VAR r: R); END V; BEGIN V(i, p(Q)) END M.
abbrev bad_parameter_9_0 : Parsed
bad_parameter_9_0 = record { source = record { bytes = (77 ∷ 79 ∷ 68 ∷ 85 ∷ 76 ∷ 69 ∷ 32 ∷ 77 ∷ 59 ∷ 32 ∷ 84 ∷ 89 ∷ 80 ∷ 69 ∷ 32 ∷ 82 ∷ 32 ∷ 61 ∷ 32 ∷ 82 ∷ 69 ∷ 67 ∷ 79 ∷ 82 ∷ 68 ∷ 32 ∷ 120 ∷ 58 ∷ 32 ∷ 73 ∷ 78 ∷ 84 ∷ 69 ∷ 71 ∷ 69 ∷ 82 ∷ 59 ∷ 32 ∷ 121 ∷ 42 ∷ 58 ∷ 32 ∷ 67 ∷ 72 ∷ 65 ∷ 82 ∷ 32 ∷ 69 ∷ 78 ∷ 68 ∷ 59 ∷ 32 ∷ 69 ∷ 32 ∷ 61 ∷ 32 ∷ 82 ∷ 69 ∷ 67 ∷ 79 ∷ 82 ∷ 68 ∷ 32 ∷ 40 ∷ 82 ∷ 41 ∷ 32 ∷ 122 ∷ 58 ∷ 32 ∷ 83 ∷ 69 ∷ 84 ∷ 32 ∷ 69 ∷ 78 ∷ 68 ∷ 59 ∷ 32 ∷ 80 ∷ 32 ∷ 61 ∷ 32 ∷ 80 ∷ 79 ∷ 73 ∷ 78 ∷ 84 ∷ 69 ∷ 82 ∷ 32 ∷ 84 ∷ 79 ∷ 32 ∷ 82 ∷ 59 ∷ 32 ∷ 81 ∷ 32 ∷ 61 ∷ 32 ∷ 80 ∷ 79 ∷ 73 ∷ 78 ∷ 84 ∷ 69 ∷ 82 ∷ 32 ∷ 84 ∷ 79 ∷ 32 ∷ 69 ∷ 59 ∷ 32 ∷ 86 ∷ 65 ∷ 82 ∷ 32 ∷ 105 ∷ 58 ∷ 32 ∷ 73 ∷ 78 ∷ 84 ∷ 69 ∷ 71 ∷ 69 ∷ 82 ∷ 59 ∷ 32 ∷ 112 ∷ 58 ∷ 32 ∷ 80 ∷ 59 ∷ 32 ∷ 80 ∷ 82 ∷ 79 ∷ 67 ∷ 69 ∷ 68 ∷ 85 ∷ 82 ∷ 69 ∷ 32 ∷ 86 ∷ 40 ∷ 86 ∷ 65 ∷ 82 ∷ 32 ∷ 120 ∷ 58 ∷ 32 ∷ 73 ∷ 78 ∷ 84 ∷ 69 ∷ 71 ∷ 69 ∷ 82 ∷ 59 ∷ 32 ∷ 86 ∷ 65 ∷ 82 ∷ 32 ∷ 114 ∷ 58 ∷ 32 ∷ 82 ∷ 41 ∷ 59 ∷ 32 ∷ 69 ∷ 78 ∷ 68 ∷ 32 ∷ 86 ∷ 59 ∷ 32 ∷ 66 ∷ 69 ∷ 71 ∷ 73 ∷ 78 ∷ 32 ∷ 86 ∷ 40 ∷ 105 ∷ 44 ∷ 32 ∷ 112 ∷ 40 ∷ 81 ∷ 41 ∷ 41 ∷ 32 ∷ 69 ∷ 78 ∷ 68 ∷ 32 ∷ 77 ∷ 46 ∷ []); symbols = (symbol (Ident) 0 6 ∷ symbol (Ident) 7 8 ∷ symbol (Ident) 8 9 ∷ symbol (Ident) 10 14 ∷ symbol (Ident) 15 16 ∷ symbol (Ident) 17 18 ∷ symbol (Ident) 19 25 ∷ symbol (Ident) 26 27 ∷ symbol (Ident) 27 28 ∷ symbol (Ident) 29 36 ∷ symbol (Ident) 36 37 ∷ symbol (Ident) 38 39 ∷ symbol (Ident) 39 40 ∷ symbol (Ident) 40 41 ∷ symbol (Ident) 42 46 ∷ symbol (Ident) 47 50 ∷ symbol (Ident) 50 51 ∷ symbol (Ident) 52 53 ∷ symbol (Ident) 54 55 ∷ symbol (Ident) 56 62 ∷ symbol (Ident) 63 64 ∷ symbol (Ident) 64 65 ∷ symbol (Ident) 65 66 ∷ symbol (Ident) 67 68 ∷ symbol (Ident) 68 69 ∷ symbol (Ident) 70 73 ∷ symbol (Ident) 74 77 ∷ symbol (Ident) 77 78 ∷ symbol (Ident) 79 80 ∷ symbol (Ident) 81 82 ∷ symbol (Ident) 83 90 ∷ symbol (Ident) 91 93 ∷ symbol (Ident) 94 95 ∷ symbol (Ident) 95 96 ∷ symbol (Ident) 97 98 ∷ symbol (Ident) 99 100 ∷ symbol (Ident) 101 108 ∷ symbol (Ident) 109 111 ∷ symbol (Ident) 112 113 ∷ symbol (Ident) 113 114 ∷ symbol (Ident) 115 118 ∷ symbol (Ident) 119 120 ∷ symbol (Ident) 120 121 ∷ symbol (Ident) 122 129 ∷ symbol (Ident) 129 130 ∷ symbol (Ident) 131 132 ∷ symbol (Ident) 132 133 ∷ symbol (Ident) 134 135 ∷ symbol (Ident) 135 136 ∷ symbol (Ident) 137 146 ∷ symbol (Ident) 147 148 ∷ symbol (Ident) 148 149 ∷ symbol (Ident) 149 152 ∷ symbol (Ident) 153 154 ∷ symbol (Ident) 154 155 ∷ symbol (Ident) 156 163 ∷ symbol (Ident) 163 164 ∷ symbol (Ident) 165 168 ∷ symbol (Ident) 169 170 ∷ symbol (Ident) 170 171 ∷ symbol (Ident) 172 173 ∷ symbol (Ident) 173 174 ∷ symbol (Ident) 174 175 ∷ symbol (Ident) 176 179 ∷ symbol (Ident) 180 181 ∷ symbol (Ident) 181 182 ∷ symbol (Ident) 183 188 ∷ symbol (Ident) 189 190 ∷ symbol (Ident) 190 191 ∷ symbol (Ident) 191 192 ∷ symbol (Ident) 192 193 ∷ symbol (Ident) 194 195 ∷ symbol (Ident) 195 196 ∷ symbol (Ident) 196 197 ∷ symbol (Ident) 197 198 ∷ symbol (Ident) 198 199 ∷ symbol (Ident) 200 203 ∷ symbol (Ident) 204 205 ∷ symbol (Ident) 205 206 ∷ []) }; tree = record { module_word = 0; name = 1; semicolon = 0; imports = None; decls = (S.decls None (Some (record { type_word = 0; each = (record { name = (record { name = 4; star = None }); equal = 0; is = (S.Record 6 None (S.fields (record { first = (record { name = 7; star = None }); more = [] }) 0 (S.Named (record { name = 9; member = None }))) (S.next_fields 0 (S.fields (record { first = (record { name = 11; star = Some 0 }); more = [] }) 0 (S.Named (record { name = 14; member = None }))) S.no_more_fields) 0); semicolon = 0 } ∷ record { name = (record { name = 17; star = None }); equal = 0; is = (S.Record 19 (Some (record { left_paren = 0; name = (record { name = 21; member = None }); right_paren = 0 })) (S.fields (record { first = (record { name = 23; star = None }); more = [] }) 0 (S.Named (record { name = 25; member = None }))) S.no_more_fields 0); semicolon = 0 } ∷ record { name = (record { name = 28; star = None }); equal = 0; is = (S.Pointer 30 0 (S.Named (record { name = 32; member = None }))); semicolon = 0 } ∷ record { name = (record { name = 34; star = None }); equal = 0; is = (S.Pointer 36 0 (S.Named (record { name = 38; member = None }))); semicolon = 0 } ∷ []) })) (Some (record { var_word = 0; each = (record { names = (record { first = (record { name = 41; star = None }); more = [] }); colon = 0; of = (S.Named (record { name = 43; member = None })); semicolon = 0 } ∷ record { names = (record { first = (record { name = 45; star = None }); more = [] }); colon = 0; of = (S.Named (record { name = 47; member = None })); semicolon = 0 } ∷ []) })) (S.procedure 0 (record { name = 50; star = None }) (Some (record { left_paren = 0; sections = Some (record { first = (record { var_word = Some 0; first = 53; more = []; colon = 0; open_array = None; of = (record { name = 55; member = None }) }); more = (record { semicolon = 0; section = (record { var_word = Some 0; first = 58; more = []; colon = 0; open_array = None; of = (record { name = 60; member = None }) }) } ∷ []) }); right_paren = 0; result = None })) 0 (S.decls None None None S.no_procedure) None None 63 64 0 S.no_procedure)); body = (Some (record { begin_word = 0; stats = (S.stats (S.AssignOrCall (record { name = 67; selectors = (S.selected (S.Parens 0 (S.expressions (S.only (S.simple None (S.term (S.Designated 69 S.no_selector) S.no_factor) S.no_term)) (S.next_expression 0 (S.only (S.simple None (S.term (S.Designated 71 (S.selected (S.Parens 0 (S.expressions (S.only (S.simple None (S.term (S.Designated 73 S.no_selector) S.no_factor) S.no_term)) S.no_expression) 0) S.no_selector)) S.no_factor) S.no_term)) S.no_expression)) 0) S.no_selector) }) None) S.no_stat) })); end_word = 0; end_name = 77; period = 0 } }

pub bad_parameter_9 : checked (bad_parameter_9_0 ∷ []) ≡ Fault 0 40 194
bad_parameter_9 = refl

-- MODULE M; VAR i: INTEGER; BEGIN i := ABS() END M.
abbrev bad_parameter_10_0 : Parsed
bad_parameter_10_0 = record { source = record { bytes = (77 ∷ 79 ∷ 68 ∷ 85 ∷ 76 ∷ 69 ∷ 32 ∷ 77 ∷ 59 ∷ 32 ∷ 86 ∷ 65 ∷ 82 ∷ 32 ∷ 105 ∷ 58 ∷ 32 ∷ 73 ∷ 78 ∷ 84 ∷ 69 ∷ 71 ∷ 69 ∷ 82 ∷ 59 ∷ 32 ∷ 66 ∷ 69 ∷ 71 ∷ 73 ∷ 78 ∷ 32 ∷ 105 ∷ 32 ∷ 58 ∷ 61 ∷ 32 ∷ 65 ∷ 66 ∷ 83 ∷ 40 ∷ 41 ∷ 32 ∷ 69 ∷ 78 ∷ 68 ∷ 32 ∷ 77 ∷ 46 ∷ []); symbols = (symbol (Ident) 0 6 ∷ symbol (Ident) 7 8 ∷ symbol (Ident) 8 9 ∷ symbol (Ident) 10 13 ∷ symbol (Ident) 14 15 ∷ symbol (Ident) 15 16 ∷ symbol (Ident) 17 24 ∷ symbol (Ident) 24 25 ∷ symbol (Ident) 26 31 ∷ symbol (Ident) 32 33 ∷ symbol (Ident) 34 36 ∷ symbol (Ident) 37 40 ∷ symbol (Ident) 40 41 ∷ symbol (Ident) 41 42 ∷ symbol (Ident) 43 46 ∷ symbol (Ident) 47 48 ∷ symbol (Ident) 48 49 ∷ []) }; tree = record { module_word = 0; name = 1; semicolon = 0; imports = None; decls = (S.decls None None (Some (record { var_word = 0; each = (record { names = (record { first = (record { name = 4; star = None }); more = [] }); colon = 0; of = (S.Named (record { name = 6; member = None })); semicolon = 0 } ∷ []) })) S.no_procedure); body = (Some (record { begin_word = 0; stats = (S.stats (S.AssignOrCall (record { name = 9; selectors = S.no_selector }) (Some (record { becomes = 0; value = (S.only (S.simple None (S.term (S.Designated 11 (S.selected (S.EmptyParens 0 0) S.no_selector)) S.no_factor) S.no_term)) }))) S.no_stat) })); end_word = 0; end_name = 15; period = 0 } }

pub bad_parameter_10 : checked (bad_parameter_10_0 ∷ []) ≡ Fault 0 40 37
bad_parameter_10 = refl

-- MODULE M; VAR i: INTEGER; BEGIN i := ABS(1, 2) END M.
abbrev bad_parameter_11_0 : Parsed
bad_parameter_11_0 = record { source = record { bytes = (77 ∷ 79 ∷ 68 ∷ 85 ∷ 76 ∷ 69 ∷ 32 ∷ 77 ∷ 59 ∷ 32 ∷ 86 ∷ 65 ∷ 82 ∷ 32 ∷ 105 ∷ 58 ∷ 32 ∷ 73 ∷ 78 ∷ 84 ∷ 69 ∷ 71 ∷ 69 ∷ 82 ∷ 59 ∷ 32 ∷ 66 ∷ 69 ∷ 71 ∷ 73 ∷ 78 ∷ 32 ∷ 105 ∷ 32 ∷ 58 ∷ 61 ∷ 32 ∷ 65 ∷ 66 ∷ 83 ∷ 40 ∷ 49 ∷ 44 ∷ 32 ∷ 50 ∷ 41 ∷ 32 ∷ 69 ∷ 78 ∷ 68 ∷ 32 ∷ 77 ∷ 46 ∷ []); symbols = (symbol (Ident) 0 6 ∷ symbol (Ident) 7 8 ∷ symbol (Ident) 8 9 ∷ symbol (Ident) 10 13 ∷ symbol (Ident) 14 15 ∷ symbol (Ident) 15 16 ∷ symbol (Ident) 17 24 ∷ symbol (Ident) 24 25 ∷ symbol (Ident) 26 31 ∷ symbol (Ident) 32 33 ∷ symbol (Ident) 34 36 ∷ symbol (Ident) 37 40 ∷ symbol (Ident) 40 41 ∷ symbol (Int (pos 1)) 41 42 ∷ symbol (Ident) 42 43 ∷ symbol (Int (pos 2)) 44 45 ∷ symbol (Ident) 45 46 ∷ symbol (Ident) 47 50 ∷ symbol (Ident) 51 52 ∷ symbol (Ident) 52 53 ∷ []) }; tree = record { module_word = 0; name = 1; semicolon = 0; imports = None; decls = (S.decls None None (Some (record { var_word = 0; each = (record { names = (record { first = (record { name = 4; star = None }); more = [] }); colon = 0; of = (S.Named (record { name = 6; member = None })); semicolon = 0 } ∷ []) })) S.no_procedure); body = (Some (record { begin_word = 0; stats = (S.stats (S.AssignOrCall (record { name = 9; selectors = S.no_selector }) (Some (record { becomes = 0; value = (S.only (S.simple None (S.term (S.Designated 11 (S.selected (S.Parens 0 (S.expressions (S.only (S.simple None (S.term (S.Int 13) S.no_factor) S.no_term)) (S.next_expression 0 (S.only (S.simple None (S.term (S.Int 15) S.no_factor) S.no_term)) S.no_expression)) 0) S.no_selector)) S.no_factor) S.no_term)) }))) S.no_stat) })); end_word = 0; end_name = 18; period = 0 } }

pub bad_parameter_11 : checked (bad_parameter_11_0 ∷ []) ≡ Fault 0 40 37
bad_parameter_11 = refl

-- MODULE M; BEGIN INC END M.
abbrev bad_parameter_12_0 : Parsed
bad_parameter_12_0 = record { source = record { bytes = (77 ∷ 79 ∷ 68 ∷ 85 ∷ 76 ∷ 69 ∷ 32 ∷ 77 ∷ 59 ∷ 32 ∷ 66 ∷ 69 ∷ 71 ∷ 73 ∷ 78 ∷ 32 ∷ 73 ∷ 78 ∷ 67 ∷ 32 ∷ 69 ∷ 78 ∷ 68 ∷ 32 ∷ 77 ∷ 46 ∷ []); symbols = (symbol (Ident) 0 6 ∷ symbol (Ident) 7 8 ∷ symbol (Ident) 8 9 ∷ symbol (Ident) 10 15 ∷ symbol (Ident) 16 19 ∷ symbol (Ident) 20 23 ∷ symbol (Ident) 24 25 ∷ symbol (Ident) 25 26 ∷ []) }; tree = record { module_word = 0; name = 1; semicolon = 0; imports = None; decls = (S.decls None None None S.no_procedure); body = (Some (record { begin_word = 0; stats = (S.stats (S.AssignOrCall (record { name = 4; selectors = S.no_selector }) None) S.no_stat) })); end_word = 0; end_name = 6; period = 0 } }

pub bad_parameter_12 : checked (bad_parameter_12_0 ∷ []) ≡ Fault 0 40 16
bad_parameter_12 = refl

-- MODULE M; BEGIN INC() END M.
abbrev bad_parameter_13_0 : Parsed
bad_parameter_13_0 = record { source = record { bytes = (77 ∷ 79 ∷ 68 ∷ 85 ∷ 76 ∷ 69 ∷ 32 ∷ 77 ∷ 59 ∷ 32 ∷ 66 ∷ 69 ∷ 71 ∷ 73 ∷ 78 ∷ 32 ∷ 73 ∷ 78 ∷ 67 ∷ 40 ∷ 41 ∷ 32 ∷ 69 ∷ 78 ∷ 68 ∷ 32 ∷ 77 ∷ 46 ∷ []); symbols = (symbol (Ident) 0 6 ∷ symbol (Ident) 7 8 ∷ symbol (Ident) 8 9 ∷ symbol (Ident) 10 15 ∷ symbol (Ident) 16 19 ∷ symbol (Ident) 19 20 ∷ symbol (Ident) 20 21 ∷ symbol (Ident) 22 25 ∷ symbol (Ident) 26 27 ∷ symbol (Ident) 27 28 ∷ []) }; tree = record { module_word = 0; name = 1; semicolon = 0; imports = None; decls = (S.decls None None None S.no_procedure); body = (Some (record { begin_word = 0; stats = (S.stats (S.AssignOrCall (record { name = 4; selectors = (S.selected (S.EmptyParens 0 0) S.no_selector) }) None) S.no_stat) })); end_word = 0; end_name = 8; period = 0 } }

pub bad_parameter_13 : checked (bad_parameter_13_0 ∷ []) ≡ Fault 0 40 16
bad_parameter_13 = refl

-- MODULE M; VAR i: INTEGER; BEGIN INC(i, 1, 2) END M.
abbrev bad_parameter_14_0 : Parsed
bad_parameter_14_0 = record { source = record { bytes = (77 ∷ 79 ∷ 68 ∷ 85 ∷ 76 ∷ 69 ∷ 32 ∷ 77 ∷ 59 ∷ 32 ∷ 86 ∷ 65 ∷ 82 ∷ 32 ∷ 105 ∷ 58 ∷ 32 ∷ 73 ∷ 78 ∷ 84 ∷ 69 ∷ 71 ∷ 69 ∷ 82 ∷ 59 ∷ 32 ∷ 66 ∷ 69 ∷ 71 ∷ 73 ∷ 78 ∷ 32 ∷ 73 ∷ 78 ∷ 67 ∷ 40 ∷ 105 ∷ 44 ∷ 32 ∷ 49 ∷ 44 ∷ 32 ∷ 50 ∷ 41 ∷ 32 ∷ 69 ∷ 78 ∷ 68 ∷ 32 ∷ 77 ∷ 46 ∷ []); symbols = (symbol (Ident) 0 6 ∷ symbol (Ident) 7 8 ∷ symbol (Ident) 8 9 ∷ symbol (Ident) 10 13 ∷ symbol (Ident) 14 15 ∷ symbol (Ident) 15 16 ∷ symbol (Ident) 17 24 ∷ symbol (Ident) 24 25 ∷ symbol (Ident) 26 31 ∷ symbol (Ident) 32 35 ∷ symbol (Ident) 35 36 ∷ symbol (Ident) 36 37 ∷ symbol (Ident) 37 38 ∷ symbol (Int (pos 1)) 39 40 ∷ symbol (Ident) 40 41 ∷ symbol (Int (pos 2)) 42 43 ∷ symbol (Ident) 43 44 ∷ symbol (Ident) 45 48 ∷ symbol (Ident) 49 50 ∷ symbol (Ident) 50 51 ∷ []) }; tree = record { module_word = 0; name = 1; semicolon = 0; imports = None; decls = (S.decls None None (Some (record { var_word = 0; each = (record { names = (record { first = (record { name = 4; star = None }); more = [] }); colon = 0; of = (S.Named (record { name = 6; member = None })); semicolon = 0 } ∷ []) })) S.no_procedure); body = (Some (record { begin_word = 0; stats = (S.stats (S.AssignOrCall (record { name = 9; selectors = (S.selected (S.Parens 0 (S.expressions (S.only (S.simple None (S.term (S.Designated 11 S.no_selector) S.no_factor) S.no_term)) (S.next_expression 0 (S.only (S.simple None (S.term (S.Int 13) S.no_factor) S.no_term)) (S.next_expression 0 (S.only (S.simple None (S.term (S.Int 15) S.no_factor) S.no_term)) S.no_expression))) 0) S.no_selector) }) None) S.no_stat) })); end_word = 0; end_name = 18; period = 0 } }

pub bad_parameter_14 : checked (bad_parameter_14_0 ∷ []) ≡ Fault 0 40 32
bad_parameter_14 = refl

-- MODULE M; BEGIN INC(1) END M.
abbrev bad_parameter_15_0 : Parsed
bad_parameter_15_0 = record { source = record { bytes = (77 ∷ 79 ∷ 68 ∷ 85 ∷ 76 ∷ 69 ∷ 32 ∷ 77 ∷ 59 ∷ 32 ∷ 66 ∷ 69 ∷ 71 ∷ 73 ∷ 78 ∷ 32 ∷ 73 ∷ 78 ∷ 67 ∷ 40 ∷ 49 ∷ 41 ∷ 32 ∷ 69 ∷ 78 ∷ 68 ∷ 32 ∷ 77 ∷ 46 ∷ []); symbols = (symbol (Ident) 0 6 ∷ symbol (Ident) 7 8 ∷ symbol (Ident) 8 9 ∷ symbol (Ident) 10 15 ∷ symbol (Ident) 16 19 ∷ symbol (Ident) 19 20 ∷ symbol (Int (pos 1)) 20 21 ∷ symbol (Ident) 21 22 ∷ symbol (Ident) 23 26 ∷ symbol (Ident) 27 28 ∷ symbol (Ident) 28 29 ∷ []) }; tree = record { module_word = 0; name = 1; semicolon = 0; imports = None; decls = (S.decls None None None S.no_procedure); body = (Some (record { begin_word = 0; stats = (S.stats (S.AssignOrCall (record { name = 4; selectors = (S.selected (S.Parens 0 (S.expressions (S.only (S.simple None (S.term (S.Int 6) S.no_factor) S.no_term)) S.no_expression) 0) S.no_selector) }) None) S.no_stat) })); end_word = 0; end_name = 9; period = 0 } }

pub bad_parameter_15 : checked (bad_parameter_15_0 ∷ []) ≡ Fault 0 40 20
bad_parameter_15 = refl

-- MODULE M; PROCEDURE F(x: INTEGER): INTEGER; RETURN x END F; BEGIN INC(F(1)) END M.
abbrev bad_parameter_16_0 : Parsed
bad_parameter_16_0 = record { source = record { bytes = (77 ∷ 79 ∷ 68 ∷ 85 ∷ 76 ∷ 69 ∷ 32 ∷ 77 ∷ 59 ∷ 32 ∷ 80 ∷ 82 ∷ 79 ∷ 67 ∷ 69 ∷ 68 ∷ 85 ∷ 82 ∷ 69 ∷ 32 ∷ 70 ∷ 40 ∷ 120 ∷ 58 ∷ 32 ∷ 73 ∷ 78 ∷ 84 ∷ 69 ∷ 71 ∷ 69 ∷ 82 ∷ 41 ∷ 58 ∷ 32 ∷ 73 ∷ 78 ∷ 84 ∷ 69 ∷ 71 ∷ 69 ∷ 82 ∷ 59 ∷ 32 ∷ 82 ∷ 69 ∷ 84 ∷ 85 ∷ 82 ∷ 78 ∷ 32 ∷ 120 ∷ 32 ∷ 69 ∷ 78 ∷ 68 ∷ 32 ∷ 70 ∷ 59 ∷ 32 ∷ 66 ∷ 69 ∷ 71 ∷ 73 ∷ 78 ∷ 32 ∷ 73 ∷ 78 ∷ 67 ∷ 40 ∷ 70 ∷ 40 ∷ 49 ∷ 41 ∷ 41 ∷ 32 ∷ 69 ∷ 78 ∷ 68 ∷ 32 ∷ 77 ∷ 46 ∷ []); symbols = (symbol (Ident) 0 6 ∷ symbol (Ident) 7 8 ∷ symbol (Ident) 8 9 ∷ symbol (Ident) 10 19 ∷ symbol (Ident) 20 21 ∷ symbol (Ident) 21 22 ∷ symbol (Ident) 22 23 ∷ symbol (Ident) 23 24 ∷ symbol (Ident) 25 32 ∷ symbol (Ident) 32 33 ∷ symbol (Ident) 33 34 ∷ symbol (Ident) 35 42 ∷ symbol (Ident) 42 43 ∷ symbol (Ident) 44 50 ∷ symbol (Ident) 51 52 ∷ symbol (Ident) 53 56 ∷ symbol (Ident) 57 58 ∷ symbol (Ident) 58 59 ∷ symbol (Ident) 60 65 ∷ symbol (Ident) 66 69 ∷ symbol (Ident) 69 70 ∷ symbol (Ident) 70 71 ∷ symbol (Ident) 71 72 ∷ symbol (Int (pos 1)) 72 73 ∷ symbol (Ident) 73 74 ∷ symbol (Ident) 74 75 ∷ symbol (Ident) 76 79 ∷ symbol (Ident) 80 81 ∷ symbol (Ident) 81 82 ∷ []) }; tree = record { module_word = 0; name = 1; semicolon = 0; imports = None; decls = (S.decls None None None (S.procedure 0 (record { name = 4; star = None }) (Some (record { left_paren = 0; sections = Some (record { first = (record { var_word = None; first = 6; more = []; colon = 0; open_array = None; of = (record { name = 8; member = None }) }); more = [] }); right_paren = 0; result = Some (record { colon = 0; name = (record { name = 11; member = None }) }) })) 0 (S.decls None None None S.no_procedure) None (Some (record { return_word = 13; value = (S.only (S.simple None (S.term (S.Designated 14 S.no_selector) S.no_factor) S.no_term)) })) 15 16 0 S.no_procedure)); body = (Some (record { begin_word = 0; stats = (S.stats (S.AssignOrCall (record { name = 19; selectors = (S.selected (S.Parens 0 (S.expressions (S.only (S.simple None (S.term (S.Designated 21 (S.selected (S.Parens 0 (S.expressions (S.only (S.simple None (S.term (S.Int 23) S.no_factor) S.no_term)) S.no_expression) 0) S.no_selector)) S.no_factor) S.no_term)) S.no_expression) 0) S.no_selector) }) None) S.no_stat) })); end_word = 0; end_name = 27; period = 0 } }

pub bad_parameter_16 : checked (bad_parameter_16_0 ∷ []) ≡ Fault 0 40 70
bad_parameter_16 = refl

-- MODULE M; VAR s: SET; BEGIN INCL(s) END M.
abbrev bad_parameter_17_0 : Parsed
bad_parameter_17_0 = record { source = record { bytes = (77 ∷ 79 ∷ 68 ∷ 85 ∷ 76 ∷ 69 ∷ 32 ∷ 77 ∷ 59 ∷ 32 ∷ 86 ∷ 65 ∷ 82 ∷ 32 ∷ 115 ∷ 58 ∷ 32 ∷ 83 ∷ 69 ∷ 84 ∷ 59 ∷ 32 ∷ 66 ∷ 69 ∷ 71 ∷ 73 ∷ 78 ∷ 32 ∷ 73 ∷ 78 ∷ 67 ∷ 76 ∷ 40 ∷ 115 ∷ 41 ∷ 32 ∷ 69 ∷ 78 ∷ 68 ∷ 32 ∷ 77 ∷ 46 ∷ []); symbols = (symbol (Ident) 0 6 ∷ symbol (Ident) 7 8 ∷ symbol (Ident) 8 9 ∷ symbol (Ident) 10 13 ∷ symbol (Ident) 14 15 ∷ symbol (Ident) 15 16 ∷ symbol (Ident) 17 20 ∷ symbol (Ident) 20 21 ∷ symbol (Ident) 22 27 ∷ symbol (Ident) 28 32 ∷ symbol (Ident) 32 33 ∷ symbol (Ident) 33 34 ∷ symbol (Ident) 34 35 ∷ symbol (Ident) 36 39 ∷ symbol (Ident) 40 41 ∷ symbol (Ident) 41 42 ∷ []) }; tree = record { module_word = 0; name = 1; semicolon = 0; imports = None; decls = (S.decls None None (Some (record { var_word = 0; each = (record { names = (record { first = (record { name = 4; star = None }); more = [] }); colon = 0; of = (S.Named (record { name = 6; member = None })); semicolon = 0 } ∷ []) })) S.no_procedure); body = (Some (record { begin_word = 0; stats = (S.stats (S.AssignOrCall (record { name = 9; selectors = (S.selected (S.Parens 0 (S.expressions (S.only (S.simple None (S.term (S.Designated 11 S.no_selector) S.no_factor) S.no_term)) S.no_expression) 0) S.no_selector) }) None) S.no_stat) })); end_word = 0; end_name = 14; period = 0 } }

pub bad_parameter_17 : checked (bad_parameter_17_0 ∷ []) ≡ Fault 0 40 28
bad_parameter_17 = refl

-- MODULE M; BEGIN INCL({}, 1) END M.
abbrev bad_parameter_18_0 : Parsed
bad_parameter_18_0 = record { source = record { bytes = (77 ∷ 79 ∷ 68 ∷ 85 ∷ 76 ∷ 69 ∷ 32 ∷ 77 ∷ 59 ∷ 32 ∷ 66 ∷ 69 ∷ 71 ∷ 73 ∷ 78 ∷ 32 ∷ 73 ∷ 78 ∷ 67 ∷ 76 ∷ 40 ∷ 123 ∷ 125 ∷ 44 ∷ 32 ∷ 49 ∷ 41 ∷ 32 ∷ 69 ∷ 78 ∷ 68 ∷ 32 ∷ 77 ∷ 46 ∷ []); symbols = (symbol (Ident) 0 6 ∷ symbol (Ident) 7 8 ∷ symbol (Ident) 8 9 ∷ symbol (Ident) 10 15 ∷ symbol (Ident) 16 20 ∷ symbol (Ident) 20 21 ∷ symbol (Ident) 21 22 ∷ symbol (Ident) 22 23 ∷ symbol (Ident) 23 24 ∷ symbol (Int (pos 1)) 25 26 ∷ symbol (Ident) 26 27 ∷ symbol (Ident) 28 31 ∷ symbol (Ident) 32 33 ∷ symbol (Ident) 33 34 ∷ []) }; tree = record { module_word = 0; name = 1; semicolon = 0; imports = None; decls = (S.decls None None None S.no_procedure); body = (Some (record { begin_word = 0; stats = (S.stats (S.AssignOrCall (record { name = 4; selectors = (S.selected (S.Parens 0 (S.expressions (S.only (S.simple None (S.term (S.EmptySet 6 0) S.no_factor) S.no_term)) (S.next_expression 0 (S.only (S.simple None (S.term (S.Int 9) S.no_factor) S.no_term)) S.no_expression)) 0) S.no_selector) }) None) S.no_stat) })); end_word = 0; end_name = 12; period = 0 } }

pub bad_parameter_18 : checked (bad_parameter_18_0 ∷ []) ≡ Fault 0 40 21
bad_parameter_18 = refl

-- MODULE M; TYPE R = RECORD x: INTEGER; y*: CHAR END; E = RECORD (R) z: SET END; P = POINTER TO R; Q = POINTER TO E; VAR p: P; BEGIN NEW(p(Q)) END M.
abbrev bad_parameter_19_0 : Parsed
bad_parameter_19_0 = record { source = record { bytes = (77 ∷ 79 ∷ 68 ∷ 85 ∷ 76 ∷ 69 ∷ 32 ∷ 77 ∷ 59 ∷ 32 ∷ 84 ∷ 89 ∷ 80 ∷ 69 ∷ 32 ∷ 82 ∷ 32 ∷ 61 ∷ 32 ∷ 82 ∷ 69 ∷ 67 ∷ 79 ∷ 82 ∷ 68 ∷ 32 ∷ 120 ∷ 58 ∷ 32 ∷ 73 ∷ 78 ∷ 84 ∷ 69 ∷ 71 ∷ 69 ∷ 82 ∷ 59 ∷ 32 ∷ 121 ∷ 42 ∷ 58 ∷ 32 ∷ 67 ∷ 72 ∷ 65 ∷ 82 ∷ 32 ∷ 69 ∷ 78 ∷ 68 ∷ 59 ∷ 32 ∷ 69 ∷ 32 ∷ 61 ∷ 32 ∷ 82 ∷ 69 ∷ 67 ∷ 79 ∷ 82 ∷ 68 ∷ 32 ∷ 40 ∷ 82 ∷ 41 ∷ 32 ∷ 122 ∷ 58 ∷ 32 ∷ 83 ∷ 69 ∷ 84 ∷ 32 ∷ 69 ∷ 78 ∷ 68 ∷ 59 ∷ 32 ∷ 80 ∷ 32 ∷ 61 ∷ 32 ∷ 80 ∷ 79 ∷ 73 ∷ 78 ∷ 84 ∷ 69 ∷ 82 ∷ 32 ∷ 84 ∷ 79 ∷ 32 ∷ 82 ∷ 59 ∷ 32 ∷ 81 ∷ 32 ∷ 61 ∷ 32 ∷ 80 ∷ 79 ∷ 73 ∷ 78 ∷ 84 ∷ 69 ∷ 82 ∷ 32 ∷ 84 ∷ 79 ∷ 32 ∷ 69 ∷ 59 ∷ 32 ∷ 86 ∷ 65 ∷ 82 ∷ 32 ∷ 112 ∷ 58 ∷ 32 ∷ 80 ∷ 59 ∷ 32 ∷ 66 ∷ 69 ∷ 71 ∷ 73 ∷ 78 ∷ 32 ∷ 78 ∷ 69 ∷ 87 ∷ 40 ∷ 112 ∷ 40 ∷ 81 ∷ 41 ∷ 41 ∷ 32 ∷ 69 ∷ 78 ∷ 68 ∷ 32 ∷ 77 ∷ 46 ∷ []); symbols = (symbol (Ident) 0 6 ∷ symbol (Ident) 7 8 ∷ symbol (Ident) 8 9 ∷ symbol (Ident) 10 14 ∷ symbol (Ident) 15 16 ∷ symbol (Ident) 17 18 ∷ symbol (Ident) 19 25 ∷ symbol (Ident) 26 27 ∷ symbol (Ident) 27 28 ∷ symbol (Ident) 29 36 ∷ symbol (Ident) 36 37 ∷ symbol (Ident) 38 39 ∷ symbol (Ident) 39 40 ∷ symbol (Ident) 40 41 ∷ symbol (Ident) 42 46 ∷ symbol (Ident) 47 50 ∷ symbol (Ident) 50 51 ∷ symbol (Ident) 52 53 ∷ symbol (Ident) 54 55 ∷ symbol (Ident) 56 62 ∷ symbol (Ident) 63 64 ∷ symbol (Ident) 64 65 ∷ symbol (Ident) 65 66 ∷ symbol (Ident) 67 68 ∷ symbol (Ident) 68 69 ∷ symbol (Ident) 70 73 ∷ symbol (Ident) 74 77 ∷ symbol (Ident) 77 78 ∷ symbol (Ident) 79 80 ∷ symbol (Ident) 81 82 ∷ symbol (Ident) 83 90 ∷ symbol (Ident) 91 93 ∷ symbol (Ident) 94 95 ∷ symbol (Ident) 95 96 ∷ symbol (Ident) 97 98 ∷ symbol (Ident) 99 100 ∷ symbol (Ident) 101 108 ∷ symbol (Ident) 109 111 ∷ symbol (Ident) 112 113 ∷ symbol (Ident) 113 114 ∷ symbol (Ident) 115 118 ∷ symbol (Ident) 119 120 ∷ symbol (Ident) 120 121 ∷ symbol (Ident) 122 123 ∷ symbol (Ident) 123 124 ∷ symbol (Ident) 125 130 ∷ symbol (Ident) 131 134 ∷ symbol (Ident) 134 135 ∷ symbol (Ident) 135 136 ∷ symbol (Ident) 136 137 ∷ symbol (Ident) 137 138 ∷ symbol (Ident) 138 139 ∷ symbol (Ident) 139 140 ∷ symbol (Ident) 141 144 ∷ symbol (Ident) 145 146 ∷ symbol (Ident) 146 147 ∷ []) }; tree = record { module_word = 0; name = 1; semicolon = 0; imports = None; decls = (S.decls None (Some (record { type_word = 0; each = (record { name = (record { name = 4; star = None }); equal = 0; is = (S.Record 6 None (S.fields (record { first = (record { name = 7; star = None }); more = [] }) 0 (S.Named (record { name = 9; member = None }))) (S.next_fields 0 (S.fields (record { first = (record { name = 11; star = Some 0 }); more = [] }) 0 (S.Named (record { name = 14; member = None }))) S.no_more_fields) 0); semicolon = 0 } ∷ record { name = (record { name = 17; star = None }); equal = 0; is = (S.Record 19 (Some (record { left_paren = 0; name = (record { name = 21; member = None }); right_paren = 0 })) (S.fields (record { first = (record { name = 23; star = None }); more = [] }) 0 (S.Named (record { name = 25; member = None }))) S.no_more_fields 0); semicolon = 0 } ∷ record { name = (record { name = 28; star = None }); equal = 0; is = (S.Pointer 30 0 (S.Named (record { name = 32; member = None }))); semicolon = 0 } ∷ record { name = (record { name = 34; star = None }); equal = 0; is = (S.Pointer 36 0 (S.Named (record { name = 38; member = None }))); semicolon = 0 } ∷ []) })) (Some (record { var_word = 0; each = (record { names = (record { first = (record { name = 41; star = None }); more = [] }); colon = 0; of = (S.Named (record { name = 43; member = None })); semicolon = 0 } ∷ []) })) S.no_procedure); body = (Some (record { begin_word = 0; stats = (S.stats (S.AssignOrCall (record { name = 46; selectors = (S.selected (S.Parens 0 (S.expressions (S.only (S.simple None (S.term (S.Designated 48 (S.selected (S.Parens 0 (S.expressions (S.only (S.simple None (S.term (S.Designated 50 S.no_selector) S.no_factor) S.no_term)) S.no_expression) 0) S.no_selector)) S.no_factor) S.no_term)) S.no_expression) 0) S.no_selector) }) None) S.no_stat) })); end_word = 0; end_name = 54; period = 0 } }

pub bad_parameter_19 : checked (bad_parameter_19_0 ∷ []) ≡ Fault 0 40 135
bad_parameter_19 = refl

-- MODULE M; BEGIN NEW END M.
abbrev bad_parameter_20_0 : Parsed
bad_parameter_20_0 = record { source = record { bytes = (77 ∷ 79 ∷ 68 ∷ 85 ∷ 76 ∷ 69 ∷ 32 ∷ 77 ∷ 59 ∷ 32 ∷ 66 ∷ 69 ∷ 71 ∷ 73 ∷ 78 ∷ 32 ∷ 78 ∷ 69 ∷ 87 ∷ 32 ∷ 69 ∷ 78 ∷ 68 ∷ 32 ∷ 77 ∷ 46 ∷ []); symbols = (symbol (Ident) 0 6 ∷ symbol (Ident) 7 8 ∷ symbol (Ident) 8 9 ∷ symbol (Ident) 10 15 ∷ symbol (Ident) 16 19 ∷ symbol (Ident) 20 23 ∷ symbol (Ident) 24 25 ∷ symbol (Ident) 25 26 ∷ []) }; tree = record { module_word = 0; name = 1; semicolon = 0; imports = None; decls = (S.decls None None None S.no_procedure); body = (Some (record { begin_word = 0; stats = (S.stats (S.AssignOrCall (record { name = 4; selectors = S.no_selector }) None) S.no_stat) })); end_word = 0; end_name = 6; period = 0 } }

pub bad_parameter_20 : checked (bad_parameter_20_0 ∷ []) ≡ Fault 0 40 16
bad_parameter_20 = refl

-- MODULE M; TYPE R = RECORD x: INTEGER; y*: CHAR END; P = POINTER TO R; VAR p: P; BEGIN NEW(p, 1) END M.
abbrev bad_parameter_21_0 : Parsed
bad_parameter_21_0 = record { source = record { bytes = (77 ∷ 79 ∷ 68 ∷ 85 ∷ 76 ∷ 69 ∷ 32 ∷ 77 ∷ 59 ∷ 32 ∷ 84 ∷ 89 ∷ 80 ∷ 69 ∷ 32 ∷ 82 ∷ 32 ∷ 61 ∷ 32 ∷ 82 ∷ 69 ∷ 67 ∷ 79 ∷ 82 ∷ 68 ∷ 32 ∷ 120 ∷ 58 ∷ 32 ∷ 73 ∷ 78 ∷ 84 ∷ 69 ∷ 71 ∷ 69 ∷ 82 ∷ 59 ∷ 32 ∷ 121 ∷ 42 ∷ 58 ∷ 32 ∷ 67 ∷ 72 ∷ 65 ∷ 82 ∷ 32 ∷ 69 ∷ 78 ∷ 68 ∷ 59 ∷ 32 ∷ 80 ∷ 32 ∷ 61 ∷ 32 ∷ 80 ∷ 79 ∷ 73 ∷ 78 ∷ 84 ∷ 69 ∷ 82 ∷ 32 ∷ 84 ∷ 79 ∷ 32 ∷ 82 ∷ 59 ∷ 32 ∷ 86 ∷ 65 ∷ 82 ∷ 32 ∷ 112 ∷ 58 ∷ 32 ∷ 80 ∷ 59 ∷ 32 ∷ 66 ∷ 69 ∷ 71 ∷ 73 ∷ 78 ∷ 32 ∷ 78 ∷ 69 ∷ 87 ∷ 40 ∷ 112 ∷ 44 ∷ 32 ∷ 49 ∷ 41 ∷ 32 ∷ 69 ∷ 78 ∷ 68 ∷ 32 ∷ 77 ∷ 46 ∷ []); symbols = (symbol (Ident) 0 6 ∷ symbol (Ident) 7 8 ∷ symbol (Ident) 8 9 ∷ symbol (Ident) 10 14 ∷ symbol (Ident) 15 16 ∷ symbol (Ident) 17 18 ∷ symbol (Ident) 19 25 ∷ symbol (Ident) 26 27 ∷ symbol (Ident) 27 28 ∷ symbol (Ident) 29 36 ∷ symbol (Ident) 36 37 ∷ symbol (Ident) 38 39 ∷ symbol (Ident) 39 40 ∷ symbol (Ident) 40 41 ∷ symbol (Ident) 42 46 ∷ symbol (Ident) 47 50 ∷ symbol (Ident) 50 51 ∷ symbol (Ident) 52 53 ∷ symbol (Ident) 54 55 ∷ symbol (Ident) 56 63 ∷ symbol (Ident) 64 66 ∷ symbol (Ident) 67 68 ∷ symbol (Ident) 68 69 ∷ symbol (Ident) 70 73 ∷ symbol (Ident) 74 75 ∷ symbol (Ident) 75 76 ∷ symbol (Ident) 77 78 ∷ symbol (Ident) 78 79 ∷ symbol (Ident) 80 85 ∷ symbol (Ident) 86 89 ∷ symbol (Ident) 89 90 ∷ symbol (Ident) 90 91 ∷ symbol (Ident) 91 92 ∷ symbol (Int (pos 1)) 93 94 ∷ symbol (Ident) 94 95 ∷ symbol (Ident) 96 99 ∷ symbol (Ident) 100 101 ∷ symbol (Ident) 101 102 ∷ []) }; tree = record { module_word = 0; name = 1; semicolon = 0; imports = None; decls = (S.decls None (Some (record { type_word = 0; each = (record { name = (record { name = 4; star = None }); equal = 0; is = (S.Record 6 None (S.fields (record { first = (record { name = 7; star = None }); more = [] }) 0 (S.Named (record { name = 9; member = None }))) (S.next_fields 0 (S.fields (record { first = (record { name = 11; star = Some 0 }); more = [] }) 0 (S.Named (record { name = 14; member = None }))) S.no_more_fields) 0); semicolon = 0 } ∷ record { name = (record { name = 17; star = None }); equal = 0; is = (S.Pointer 19 0 (S.Named (record { name = 21; member = None }))); semicolon = 0 } ∷ []) })) (Some (record { var_word = 0; each = (record { names = (record { first = (record { name = 24; star = None }); more = [] }); colon = 0; of = (S.Named (record { name = 26; member = None })); semicolon = 0 } ∷ []) })) S.no_procedure); body = (Some (record { begin_word = 0; stats = (S.stats (S.AssignOrCall (record { name = 29; selectors = (S.selected (S.Parens 0 (S.expressions (S.only (S.simple None (S.term (S.Designated 31 S.no_selector) S.no_factor) S.no_term)) (S.next_expression 0 (S.only (S.simple None (S.term (S.Int 33) S.no_factor) S.no_term)) S.no_expression)) 0) S.no_selector) }) None) S.no_stat) })); end_word = 0; end_name = 36; period = 0 } }

pub bad_parameter_21 : checked (bad_parameter_21_0 ∷ []) ≡ Fault 0 40 86
bad_parameter_21 = refl

-- MODULE M; IMPORT Out; BEGIN Out.Ln(1) END M.
abbrev bad_parameter_22_0 : Parsed
bad_parameter_22_0 = record { source = record { bytes = (77 ∷ 79 ∷ 68 ∷ 85 ∷ 76 ∷ 69 ∷ 32 ∷ 77 ∷ 59 ∷ 32 ∷ 73 ∷ 77 ∷ 80 ∷ 79 ∷ 82 ∷ 84 ∷ 32 ∷ 79 ∷ 117 ∷ 116 ∷ 59 ∷ 32 ∷ 66 ∷ 69 ∷ 71 ∷ 73 ∷ 78 ∷ 32 ∷ 79 ∷ 117 ∷ 116 ∷ 46 ∷ 76 ∷ 110 ∷ 40 ∷ 49 ∷ 41 ∷ 32 ∷ 69 ∷ 78 ∷ 68 ∷ 32 ∷ 77 ∷ 46 ∷ []); symbols = (symbol (Ident) 0 6 ∷ symbol (Ident) 7 8 ∷ symbol (Ident) 8 9 ∷ symbol (Ident) 10 16 ∷ symbol (Ident) 17 20 ∷ symbol (Ident) 20 21 ∷ symbol (Ident) 22 27 ∷ symbol (Ident) 28 31 ∷ symbol (Ident) 31 32 ∷ symbol (Ident) 32 34 ∷ symbol (Ident) 34 35 ∷ symbol (Int (pos 1)) 35 36 ∷ symbol (Ident) 36 37 ∷ symbol (Ident) 38 41 ∷ symbol (Ident) 42 43 ∷ symbol (Ident) 43 44 ∷ []) }; tree = record { module_word = 0; name = 1; semicolon = 0; imports = Some (record { import_word = 0; first = (record { name = 4; of = None }); more = []; semicolon = 0 }); decls = (S.decls None None None S.no_procedure); body = (Some (record { begin_word = 0; stats = (S.stats (S.AssignOrCall (record { name = 7; selectors = (S.selected (S.Field 0 9) (S.selected (S.Parens 0 (S.expressions (S.only (S.simple None (S.term (S.Int 11) S.no_factor) S.no_term)) S.no_expression) 0) S.no_selector)) }) None) S.no_stat) })); end_word = 0; end_name = 14; period = 0 } }

pub bad_parameter_22 : checked (bad_parameter_22_0 ∷ []) ≡ Fault 0 40 28
bad_parameter_22 = refl

-- MODULE M; IMPORT Out; BEGIN Out.Int(1) END M.
abbrev bad_parameter_23_0 : Parsed
bad_parameter_23_0 = record { source = record { bytes = (77 ∷ 79 ∷ 68 ∷ 85 ∷ 76 ∷ 69 ∷ 32 ∷ 77 ∷ 59 ∷ 32 ∷ 73 ∷ 77 ∷ 80 ∷ 79 ∷ 82 ∷ 84 ∷ 32 ∷ 79 ∷ 117 ∷ 116 ∷ 59 ∷ 32 ∷ 66 ∷ 69 ∷ 71 ∷ 73 ∷ 78 ∷ 32 ∷ 79 ∷ 117 ∷ 116 ∷ 46 ∷ 73 ∷ 110 ∷ 116 ∷ 40 ∷ 49 ∷ 41 ∷ 32 ∷ 69 ∷ 78 ∷ 68 ∷ 32 ∷ 77 ∷ 46 ∷ []); symbols = (symbol (Ident) 0 6 ∷ symbol (Ident) 7 8 ∷ symbol (Ident) 8 9 ∷ symbol (Ident) 10 16 ∷ symbol (Ident) 17 20 ∷ symbol (Ident) 20 21 ∷ symbol (Ident) 22 27 ∷ symbol (Ident) 28 31 ∷ symbol (Ident) 31 32 ∷ symbol (Ident) 32 35 ∷ symbol (Ident) 35 36 ∷ symbol (Int (pos 1)) 36 37 ∷ symbol (Ident) 37 38 ∷ symbol (Ident) 39 42 ∷ symbol (Ident) 43 44 ∷ symbol (Ident) 44 45 ∷ []) }; tree = record { module_word = 0; name = 1; semicolon = 0; imports = Some (record { import_word = 0; first = (record { name = 4; of = None }); more = []; semicolon = 0 }); decls = (S.decls None None None S.no_procedure); body = (Some (record { begin_word = 0; stats = (S.stats (S.AssignOrCall (record { name = 7; selectors = (S.selected (S.Field 0 9) (S.selected (S.Parens 0 (S.expressions (S.only (S.simple None (S.term (S.Int 11) S.no_factor) S.no_term)) S.no_expression) 0) S.no_selector)) }) None) S.no_stat) })); end_word = 0; end_name = 14; period = 0 } }

pub bad_parameter_23 : checked (bad_parameter_23_0 ∷ []) ≡ Fault 0 40 28
bad_parameter_23 = refl

-- MODULE M; IMPORT Out; BEGIN Out.Char() END M.
abbrev bad_parameter_24_0 : Parsed
bad_parameter_24_0 = record { source = record { bytes = (77 ∷ 79 ∷ 68 ∷ 85 ∷ 76 ∷ 69 ∷ 32 ∷ 77 ∷ 59 ∷ 32 ∷ 73 ∷ 77 ∷ 80 ∷ 79 ∷ 82 ∷ 84 ∷ 32 ∷ 79 ∷ 117 ∷ 116 ∷ 59 ∷ 32 ∷ 66 ∷ 69 ∷ 71 ∷ 73 ∷ 78 ∷ 32 ∷ 79 ∷ 117 ∷ 116 ∷ 46 ∷ 67 ∷ 104 ∷ 97 ∷ 114 ∷ 40 ∷ 41 ∷ 32 ∷ 69 ∷ 78 ∷ 68 ∷ 32 ∷ 77 ∷ 46 ∷ []); symbols = (symbol (Ident) 0 6 ∷ symbol (Ident) 7 8 ∷ symbol (Ident) 8 9 ∷ symbol (Ident) 10 16 ∷ symbol (Ident) 17 20 ∷ symbol (Ident) 20 21 ∷ symbol (Ident) 22 27 ∷ symbol (Ident) 28 31 ∷ symbol (Ident) 31 32 ∷ symbol (Ident) 32 36 ∷ symbol (Ident) 36 37 ∷ symbol (Ident) 37 38 ∷ symbol (Ident) 39 42 ∷ symbol (Ident) 43 44 ∷ symbol (Ident) 44 45 ∷ []) }; tree = record { module_word = 0; name = 1; semicolon = 0; imports = Some (record { import_word = 0; first = (record { name = 4; of = None }); more = []; semicolon = 0 }); decls = (S.decls None None None S.no_procedure); body = (Some (record { begin_word = 0; stats = (S.stats (S.AssignOrCall (record { name = 7; selectors = (S.selected (S.Field 0 9) (S.selected (S.EmptyParens 0 0) S.no_selector)) }) None) S.no_stat) })); end_word = 0; end_name = 13; period = 0 } }

pub bad_parameter_24 : checked (bad_parameter_24_0 ∷ []) ≡ Fault 0 40 28
bad_parameter_24 = refl

-- MODULE M; IMPORT In; BEGIN In.Char(''a'') END M.
abbrev bad_parameter_25_0 : Parsed
bad_parameter_25_0 = record { source = record { bytes = (77 ∷ 79 ∷ 68 ∷ 85 ∷ 76 ∷ 69 ∷ 32 ∷ 77 ∷ 59 ∷ 32 ∷ 73 ∷ 77 ∷ 80 ∷ 79 ∷ 82 ∷ 84 ∷ 32 ∷ 73 ∷ 110 ∷ 59 ∷ 32 ∷ 66 ∷ 69 ∷ 71 ∷ 73 ∷ 78 ∷ 32 ∷ 73 ∷ 110 ∷ 46 ∷ 67 ∷ 104 ∷ 97 ∷ 114 ∷ 40 ∷ 34 ∷ 97 ∷ 34 ∷ 41 ∷ 32 ∷ 69 ∷ 78 ∷ 68 ∷ 32 ∷ 77 ∷ 46 ∷ []); symbols = (symbol (Ident) 0 6 ∷ symbol (Ident) 7 8 ∷ symbol (Ident) 8 9 ∷ symbol (Ident) 10 16 ∷ symbol (Ident) 17 19 ∷ symbol (Ident) 19 20 ∷ symbol (Ident) 21 26 ∷ symbol (Ident) 27 29 ∷ symbol (Ident) 29 30 ∷ symbol (Ident) 30 34 ∷ symbol (Ident) 34 35 ∷ symbol (TheKind.Text) 35 38 ∷ symbol (Ident) 38 39 ∷ symbol (Ident) 40 43 ∷ symbol (Ident) 44 45 ∷ symbol (Ident) 45 46 ∷ []) }; tree = record { module_word = 0; name = 1; semicolon = 0; imports = Some (record { import_word = 0; first = (record { name = 4; of = None }); more = []; semicolon = 0 }); decls = (S.decls None None None S.no_procedure); body = (Some (record { begin_word = 0; stats = (S.stats (S.AssignOrCall (record { name = 7; selectors = (S.selected (S.Field 0 9) (S.selected (S.Parens 0 (S.expressions (S.only (S.simple None (S.term (S.Text 11) S.no_factor) S.no_term)) S.no_expression) 0) S.no_selector)) }) None) S.no_stat) })); end_word = 0; end_name = 14; period = 0 } }

pub bad_parameter_25 : checked (bad_parameter_25_0 ∷ []) ≡ Fault 0 40 35
bad_parameter_25 = refl

-- MODULE M; IMPORT In; BEGIN In.Char END M.
abbrev bad_parameter_26_0 : Parsed
bad_parameter_26_0 = record { source = record { bytes = (77 ∷ 79 ∷ 68 ∷ 85 ∷ 76 ∷ 69 ∷ 32 ∷ 77 ∷ 59 ∷ 32 ∷ 73 ∷ 77 ∷ 80 ∷ 79 ∷ 82 ∷ 84 ∷ 32 ∷ 73 ∷ 110 ∷ 59 ∷ 32 ∷ 66 ∷ 69 ∷ 71 ∷ 73 ∷ 78 ∷ 32 ∷ 73 ∷ 110 ∷ 46 ∷ 67 ∷ 104 ∷ 97 ∷ 114 ∷ 32 ∷ 69 ∷ 78 ∷ 68 ∷ 32 ∷ 77 ∷ 46 ∷ []); symbols = (symbol (Ident) 0 6 ∷ symbol (Ident) 7 8 ∷ symbol (Ident) 8 9 ∷ symbol (Ident) 10 16 ∷ symbol (Ident) 17 19 ∷ symbol (Ident) 19 20 ∷ symbol (Ident) 21 26 ∷ symbol (Ident) 27 29 ∷ symbol (Ident) 29 30 ∷ symbol (Ident) 30 34 ∷ symbol (Ident) 35 38 ∷ symbol (Ident) 39 40 ∷ symbol (Ident) 40 41 ∷ []) }; tree = record { module_word = 0; name = 1; semicolon = 0; imports = Some (record { import_word = 0; first = (record { name = 4; of = None }); more = []; semicolon = 0 }); decls = (S.decls None None None S.no_procedure); body = (Some (record { begin_word = 0; stats = (S.stats (S.AssignOrCall (record { name = 7; selectors = (S.selected (S.Field 0 9) S.no_selector) }) None) S.no_stat) })); end_word = 0; end_name = 11; period = 0 } }

pub bad_parameter_26 : checked (bad_parameter_26_0 ∷ []) ≡ Fault 0 40 27
bad_parameter_26 = refl

-- MODULE M; BEGIN LSL(1) END M.
abbrev bad_parameter_27_0 : Parsed
bad_parameter_27_0 = record { source = record { bytes = (77 ∷ 79 ∷ 68 ∷ 85 ∷ 76 ∷ 69 ∷ 32 ∷ 77 ∷ 59 ∷ 32 ∷ 66 ∷ 69 ∷ 71 ∷ 73 ∷ 78 ∷ 32 ∷ 76 ∷ 83 ∷ 76 ∷ 40 ∷ 49 ∷ 41 ∷ 32 ∷ 69 ∷ 78 ∷ 68 ∷ 32 ∷ 77 ∷ 46 ∷ []); symbols = (symbol (Ident) 0 6 ∷ symbol (Ident) 7 8 ∷ symbol (Ident) 8 9 ∷ symbol (Ident) 10 15 ∷ symbol (Ident) 16 19 ∷ symbol (Ident) 19 20 ∷ symbol (Int (pos 1)) 20 21 ∷ symbol (Ident) 21 22 ∷ symbol (Ident) 23 26 ∷ symbol (Ident) 27 28 ∷ symbol (Ident) 28 29 ∷ []) }; tree = record { module_word = 0; name = 1; semicolon = 0; imports = None; decls = (S.decls None None None S.no_procedure); body = (Some (record { begin_word = 0; stats = (S.stats (S.AssignOrCall (record { name = 4; selectors = (S.selected (S.Parens 0 (S.expressions (S.only (S.simple None (S.term (S.Int 6) S.no_factor) S.no_term)) S.no_expression) 0) S.no_selector) }) None) S.no_stat) })); end_word = 0; end_name = 9; period = 0 } }

pub bad_parameter_27 : checked (bad_parameter_27_0 ∷ []) ≡ Fault 0 40 16
bad_parameter_27 = refl

-- MODULE M; VAR i: INTEGER; BEGIN i := LSL(1) END M.
abbrev bad_parameter_28_0 : Parsed
bad_parameter_28_0 = record { source = record { bytes = (77 ∷ 79 ∷ 68 ∷ 85 ∷ 76 ∷ 69 ∷ 32 ∷ 77 ∷ 59 ∷ 32 ∷ 86 ∷ 65 ∷ 82 ∷ 32 ∷ 105 ∷ 58 ∷ 32 ∷ 73 ∷ 78 ∷ 84 ∷ 69 ∷ 71 ∷ 69 ∷ 82 ∷ 59 ∷ 32 ∷ 66 ∷ 69 ∷ 71 ∷ 73 ∷ 78 ∷ 32 ∷ 105 ∷ 32 ∷ 58 ∷ 61 ∷ 32 ∷ 76 ∷ 83 ∷ 76 ∷ 40 ∷ 49 ∷ 41 ∷ 32 ∷ 69 ∷ 78 ∷ 68 ∷ 32 ∷ 77 ∷ 46 ∷ []); symbols = (symbol (Ident) 0 6 ∷ symbol (Ident) 7 8 ∷ symbol (Ident) 8 9 ∷ symbol (Ident) 10 13 ∷ symbol (Ident) 14 15 ∷ symbol (Ident) 15 16 ∷ symbol (Ident) 17 24 ∷ symbol (Ident) 24 25 ∷ symbol (Ident) 26 31 ∷ symbol (Ident) 32 33 ∷ symbol (Ident) 34 36 ∷ symbol (Ident) 37 40 ∷ symbol (Ident) 40 41 ∷ symbol (Int (pos 1)) 41 42 ∷ symbol (Ident) 42 43 ∷ symbol (Ident) 44 47 ∷ symbol (Ident) 48 49 ∷ symbol (Ident) 49 50 ∷ []) }; tree = record { module_word = 0; name = 1; semicolon = 0; imports = None; decls = (S.decls None None (Some (record { var_word = 0; each = (record { names = (record { first = (record { name = 4; star = None }); more = [] }); colon = 0; of = (S.Named (record { name = 6; member = None })); semicolon = 0 } ∷ []) })) S.no_procedure); body = (Some (record { begin_word = 0; stats = (S.stats (S.AssignOrCall (record { name = 9; selectors = S.no_selector }) (Some (record { becomes = 0; value = (S.only (S.simple None (S.term (S.Designated 11 (S.selected (S.Parens 0 (S.expressions (S.only (S.simple None (S.term (S.Int 13) S.no_factor) S.no_term)) S.no_expression) 0) S.no_selector)) S.no_factor) S.no_term)) }))) S.no_stat) })); end_word = 0; end_name = 16; period = 0 } }

pub bad_parameter_28 : checked (bad_parameter_28_0 ∷ []) ≡ Fault 0 40 37
bad_parameter_28 = refl

-- MODULE M; VAR i: INTEGER; a: ARRAY 3 OF INTEGER; BEGIN i := LEN(a, a) END M.
abbrev bad_parameter_29_0 : Parsed
bad_parameter_29_0 = record { source = record { bytes = (77 ∷ 79 ∷ 68 ∷ 85 ∷ 76 ∷ 69 ∷ 32 ∷ 77 ∷ 59 ∷ 32 ∷ 86 ∷ 65 ∷ 82 ∷ 32 ∷ 105 ∷ 58 ∷ 32 ∷ 73 ∷ 78 ∷ 84 ∷ 69 ∷ 71 ∷ 69 ∷ 82 ∷ 59 ∷ 32 ∷ 97 ∷ 58 ∷ 32 ∷ 65 ∷ 82 ∷ 82 ∷ 65 ∷ 89 ∷ 32 ∷ 51 ∷ 32 ∷ 79 ∷ 70 ∷ 32 ∷ 73 ∷ 78 ∷ 84 ∷ 69 ∷ 71 ∷ 69 ∷ 82 ∷ 59 ∷ 32 ∷ 66 ∷ 69 ∷ 71 ∷ 73 ∷ 78 ∷ 32 ∷ 105 ∷ 32 ∷ 58 ∷ 61 ∷ 32 ∷ 76 ∷ 69 ∷ 78 ∷ 40 ∷ 97 ∷ 44 ∷ 32 ∷ 97 ∷ 41 ∷ 32 ∷ 69 ∷ 78 ∷ 68 ∷ 32 ∷ 77 ∷ 46 ∷ []); symbols = (symbol (Ident) 0 6 ∷ symbol (Ident) 7 8 ∷ symbol (Ident) 8 9 ∷ symbol (Ident) 10 13 ∷ symbol (Ident) 14 15 ∷ symbol (Ident) 15 16 ∷ symbol (Ident) 17 24 ∷ symbol (Ident) 24 25 ∷ symbol (Ident) 26 27 ∷ symbol (Ident) 27 28 ∷ symbol (Ident) 29 34 ∷ symbol (Int (pos 3)) 35 36 ∷ symbol (Ident) 37 39 ∷ symbol (Ident) 40 47 ∷ symbol (Ident) 47 48 ∷ symbol (Ident) 49 54 ∷ symbol (Ident) 55 56 ∷ symbol (Ident) 57 59 ∷ symbol (Ident) 60 63 ∷ symbol (Ident) 63 64 ∷ symbol (Ident) 64 65 ∷ symbol (Ident) 65 66 ∷ symbol (Ident) 67 68 ∷ symbol (Ident) 68 69 ∷ symbol (Ident) 70 73 ∷ symbol (Ident) 74 75 ∷ symbol (Ident) 75 76 ∷ []) }; tree = record { module_word = 0; name = 1; semicolon = 0; imports = None; decls = (S.decls None None (Some (record { var_word = 0; each = (record { names = (record { first = (record { name = 4; star = None }); more = [] }); colon = 0; of = (S.Named (record { name = 6; member = None })); semicolon = 0 } ∷ record { names = (record { first = (record { name = 8; star = None }); more = [] }); colon = 0; of = (S.Array 10 (S.only (S.simple None (S.term (S.Int 11) S.no_factor) S.no_term)) S.no_expression 0 (S.Named (record { name = 13; member = None }))); semicolon = 0 } ∷ []) })) S.no_procedure); body = (Some (record { begin_word = 0; stats = (S.stats (S.AssignOrCall (record { name = 16; selectors = S.no_selector }) (Some (record { becomes = 0; value = (S.only (S.simple None (S.term (S.Designated 18 (S.selected (S.Parens 0 (S.expressions (S.only (S.simple None (S.term (S.Designated 20 S.no_selector) S.no_factor) S.no_term)) (S.next_expression 0 (S.only (S.simple None (S.term (S.Designated 22 S.no_selector) S.no_factor) S.no_term)) S.no_expression)) 0) S.no_selector)) S.no_factor) S.no_term)) }))) S.no_stat) })); end_word = 0; end_name = 25; period = 0 } }

pub bad_parameter_29 : checked (bad_parameter_29_0 ∷ []) ≡ Fault 0 40 60
bad_parameter_29 = refl

-- MODULE M; VAR t: ARRAY 8 OF CHAR; PROCEDURE O(x: ARRAY OF CHAR; VAR z: ARRAY OF INTEGER); END O; BEGIN O(t) END M.
abbrev bad_parameter_30_0 : Parsed
bad_parameter_30_0 = record { source = record { bytes = (77 ∷ 79 ∷ 68 ∷ 85 ∷ 76 ∷ 69 ∷ 32 ∷ 77 ∷ 59 ∷ 32 ∷ 86 ∷ 65 ∷ 82 ∷ 32 ∷ 116 ∷ 58 ∷ 32 ∷ 65 ∷ 82 ∷ 82 ∷ 65 ∷ 89 ∷ 32 ∷ 56 ∷ 32 ∷ 79 ∷ 70 ∷ 32 ∷ 67 ∷ 72 ∷ 65 ∷ 82 ∷ 59 ∷ 32 ∷ 80 ∷ 82 ∷ 79 ∷ 67 ∷ 69 ∷ 68 ∷ 85 ∷ 82 ∷ 69 ∷ 32 ∷ 79 ∷ 40 ∷ 120 ∷ 58 ∷ 32 ∷ 65 ∷ 82 ∷ 82 ∷ 65 ∷ 89 ∷ 32 ∷ 79 ∷ 70 ∷ 32 ∷ 67 ∷ 72 ∷ 65 ∷ 82 ∷ 59 ∷ 32 ∷ 86 ∷ 65 ∷ 82 ∷ 32 ∷ 122 ∷ 58 ∷ 32 ∷ 65 ∷ 82 ∷ 82 ∷ 65 ∷ 89 ∷ 32 ∷ 79 ∷ 70 ∷ 32 ∷ 73 ∷ 78 ∷ 84 ∷ 69 ∷ 71 ∷ 69 ∷ 82 ∷ 41 ∷ 59 ∷ 32 ∷ 69 ∷ 78 ∷ 68 ∷ 32 ∷ 79 ∷ 59 ∷ 32 ∷ 66 ∷ 69 ∷ 71 ∷ 73 ∷ 78 ∷ 32 ∷ 79 ∷ 40 ∷ 116 ∷ 41 ∷ 32 ∷ 69 ∷ 78 ∷ 68 ∷ 32 ∷ 77 ∷ 46 ∷ []); symbols = (symbol (Ident) 0 6 ∷ symbol (Ident) 7 8 ∷ symbol (Ident) 8 9 ∷ symbol (Ident) 10 13 ∷ symbol (Ident) 14 15 ∷ symbol (Ident) 15 16 ∷ symbol (Ident) 17 22 ∷ symbol (Int (pos 8)) 23 24 ∷ symbol (Ident) 25 27 ∷ symbol (Ident) 28 32 ∷ symbol (Ident) 32 33 ∷ symbol (Ident) 34 43 ∷ symbol (Ident) 44 45 ∷ symbol (Ident) 45 46 ∷ symbol (Ident) 46 47 ∷ symbol (Ident) 47 48 ∷ symbol (Ident) 49 54 ∷ symbol (Ident) 55 57 ∷ symbol (Ident) 58 62 ∷ symbol (Ident) 62 63 ∷ symbol (Ident) 64 67 ∷ symbol (Ident) 68 69 ∷ symbol (Ident) 69 70 ∷ symbol (Ident) 71 76 ∷ symbol (Ident) 77 79 ∷ symbol (Ident) 80 87 ∷ symbol (Ident) 87 88 ∷ symbol (Ident) 88 89 ∷ symbol (Ident) 90 93 ∷ symbol (Ident) 94 95 ∷ symbol (Ident) 95 96 ∷ symbol (Ident) 97 102 ∷ symbol (Ident) 103 104 ∷ symbol (Ident) 104 105 ∷ symbol (Ident) 105 106 ∷ symbol (Ident) 106 107 ∷ symbol (Ident) 108 111 ∷ symbol (Ident) 112 113 ∷ symbol (Ident) 113 114 ∷ []) }; tree = record { module_word = 0; name = 1; semicolon = 0; imports = None; decls = (S.decls None None (Some (record { var_word = 0; each = (record { names = (record { first = (record { name = 4; star = None }); more = [] }); colon = 0; of = (S.Array 6 (S.only (S.simple None (S.term (S.Int 7) S.no_factor) S.no_term)) S.no_expression 0 (S.Named (record { name = 9; member = None }))); semicolon = 0 } ∷ []) })) (S.procedure 0 (record { name = 12; star = None }) (Some (record { left_paren = 0; sections = Some (record { first = (record { var_word = None; first = 14; more = []; colon = 0; open_array = Some (record { array_word = 0; of_word = 0 }); of = (record { name = 18; member = None }) }); more = (record { semicolon = 0; section = (record { var_word = Some 0; first = 21; more = []; colon = 0; open_array = Some (record { array_word = 0; of_word = 0 }); of = (record { name = 25; member = None }) }) } ∷ []) }); right_paren = 0; result = None })) 0 (S.decls None None None S.no_procedure) None None 28 29 0 S.no_procedure)); body = (Some (record { begin_word = 0; stats = (S.stats (S.AssignOrCall (record { name = 32; selectors = (S.selected (S.Parens 0 (S.expressions (S.only (S.simple None (S.term (S.Designated 34 S.no_selector) S.no_factor) S.no_term)) S.no_expression) 0) S.no_selector) }) None) S.no_stat) })); end_word = 0; end_name = 37; period = 0 } }

pub bad_parameter_30 : checked (bad_parameter_30_0 ∷ []) ≡ Fault 0 40 103
bad_parameter_30 = refl

-- MODULE M; VAR a: ARRAY 3 OF INTEGER; t: ARRAY 8 OF CHAR; PROCEDURE O(x: ARRAY OF CHAR; VAR z: ARRAY OF INTEGER); END O; BEGIN O(t, a, a) END M.
abbrev bad_parameter_31_0 : Parsed
bad_parameter_31_0 = record { source = record { bytes = (77 ∷ 79 ∷ 68 ∷ 85 ∷ 76 ∷ 69 ∷ 32 ∷ 77 ∷ 59 ∷ 32 ∷ 86 ∷ 65 ∷ 82 ∷ 32 ∷ 97 ∷ 58 ∷ 32 ∷ 65 ∷ 82 ∷ 82 ∷ 65 ∷ 89 ∷ 32 ∷ 51 ∷ 32 ∷ 79 ∷ 70 ∷ 32 ∷ 73 ∷ 78 ∷ 84 ∷ 69 ∷ 71 ∷ 69 ∷ 82 ∷ 59 ∷ 32 ∷ 116 ∷ 58 ∷ 32 ∷ 65 ∷ 82 ∷ 82 ∷ 65 ∷ 89 ∷ 32 ∷ 56 ∷ 32 ∷ 79 ∷ 70 ∷ 32 ∷ 67 ∷ 72 ∷ 65 ∷ 82 ∷ 59 ∷ 32 ∷ 80 ∷ 82 ∷ 79 ∷ 67 ∷ 69 ∷ 68 ∷ 85 ∷ 82 ∷ 69 ∷ 32 ∷ 79 ∷ 40 ∷ 120 ∷ 58 ∷ 32 ∷ 65 ∷ 82 ∷ 82 ∷ 65 ∷ 89 ∷ 32 ∷ 79 ∷ 70 ∷ 32 ∷ 67 ∷ 72 ∷ 65 ∷ 82 ∷ 59 ∷ 32 ∷ 86 ∷ 65 ∷ 82 ∷ 32 ∷ 122 ∷ 58 ∷ 32 ∷ 65 ∷ 82 ∷ 82 ∷ 65 ∷ 89 ∷ 32 ∷ 79 ∷ 70 ∷ 32 ∷ 73 ∷ 78 ∷ 84 ∷ 69 ∷ 71 ∷ 69 ∷ 82 ∷ 41 ∷ 59 ∷ 32 ∷ 69 ∷ 78 ∷ 68 ∷ 32 ∷ 79 ∷ 59 ∷ 32 ∷ 66 ∷ 69 ∷ 71 ∷ 73 ∷ 78 ∷ 32 ∷ 79 ∷ 40 ∷ 116 ∷ 44 ∷ 32 ∷ 97 ∷ 44 ∷ 32 ∷ 97 ∷ 41 ∷ 32 ∷ 69 ∷ 78 ∷ 68 ∷ 32 ∷ 77 ∷ 46 ∷ []); symbols = (symbol (Ident) 0 6 ∷ symbol (Ident) 7 8 ∷ symbol (Ident) 8 9 ∷ symbol (Ident) 10 13 ∷ symbol (Ident) 14 15 ∷ symbol (Ident) 15 16 ∷ symbol (Ident) 17 22 ∷ symbol (Int (pos 3)) 23 24 ∷ symbol (Ident) 25 27 ∷ symbol (Ident) 28 35 ∷ symbol (Ident) 35 36 ∷ symbol (Ident) 37 38 ∷ symbol (Ident) 38 39 ∷ symbol (Ident) 40 45 ∷ symbol (Int (pos 8)) 46 47 ∷ symbol (Ident) 48 50 ∷ symbol (Ident) 51 55 ∷ symbol (Ident) 55 56 ∷ symbol (Ident) 57 66 ∷ symbol (Ident) 67 68 ∷ symbol (Ident) 68 69 ∷ symbol (Ident) 69 70 ∷ symbol (Ident) 70 71 ∷ symbol (Ident) 72 77 ∷ symbol (Ident) 78 80 ∷ symbol (Ident) 81 85 ∷ symbol (Ident) 85 86 ∷ symbol (Ident) 87 90 ∷ symbol (Ident) 91 92 ∷ symbol (Ident) 92 93 ∷ symbol (Ident) 94 99 ∷ symbol (Ident) 100 102 ∷ symbol (Ident) 103 110 ∷ symbol (Ident) 110 111 ∷ symbol (Ident) 111 112 ∷ symbol (Ident) 113 116 ∷ symbol (Ident) 117 118 ∷ symbol (Ident) 118 119 ∷ symbol (Ident) 120 125 ∷ symbol (Ident) 126 127 ∷ symbol (Ident) 127 128 ∷ symbol (Ident) 128 129 ∷ symbol (Ident) 129 130 ∷ symbol (Ident) 131 132 ∷ symbol (Ident) 132 133 ∷ symbol (Ident) 134 135 ∷ symbol (Ident) 135 136 ∷ symbol (Ident) 137 140 ∷ symbol (Ident) 141 142 ∷ symbol (Ident) 142 143 ∷ []) }; tree = record { module_word = 0; name = 1; semicolon = 0; imports = None; decls = (S.decls None None (Some (record { var_word = 0; each = (record { names = (record { first = (record { name = 4; star = None }); more = [] }); colon = 0; of = (S.Array 6 (S.only (S.simple None (S.term (S.Int 7) S.no_factor) S.no_term)) S.no_expression 0 (S.Named (record { name = 9; member = None }))); semicolon = 0 } ∷ record { names = (record { first = (record { name = 11; star = None }); more = [] }); colon = 0; of = (S.Array 13 (S.only (S.simple None (S.term (S.Int 14) S.no_factor) S.no_term)) S.no_expression 0 (S.Named (record { name = 16; member = None }))); semicolon = 0 } ∷ []) })) (S.procedure 0 (record { name = 19; star = None }) (Some (record { left_paren = 0; sections = Some (record { first = (record { var_word = None; first = 21; more = []; colon = 0; open_array = Some (record { array_word = 0; of_word = 0 }); of = (record { name = 25; member = None }) }); more = (record { semicolon = 0; section = (record { var_word = Some 0; first = 28; more = []; colon = 0; open_array = Some (record { array_word = 0; of_word = 0 }); of = (record { name = 32; member = None }) }) } ∷ []) }); right_paren = 0; result = None })) 0 (S.decls None None None S.no_procedure) None None 35 36 0 S.no_procedure)); body = (Some (record { begin_word = 0; stats = (S.stats (S.AssignOrCall (record { name = 39; selectors = (S.selected (S.Parens 0 (S.expressions (S.only (S.simple None (S.term (S.Designated 41 S.no_selector) S.no_factor) S.no_term)) (S.next_expression 0 (S.only (S.simple None (S.term (S.Designated 43 S.no_selector) S.no_factor) S.no_term)) (S.next_expression 0 (S.only (S.simple None (S.term (S.Designated 45 S.no_selector) S.no_factor) S.no_term)) S.no_expression))) 0) S.no_selector) }) None) S.no_stat) })); end_word = 0; end_name = 48; period = 0 } }

pub bad_parameter_31 : checked (bad_parameter_31_0 ∷ []) ≡ Fault 0 40 126
bad_parameter_31 = refl

-- MODULE M; VAR i: INTEGER; f: PROCEDURE (x: INTEGER): INTEGER; BEGIN i := f() END M.
abbrev bad_parameter_32_0 : Parsed
bad_parameter_32_0 = record { source = record { bytes = (77 ∷ 79 ∷ 68 ∷ 85 ∷ 76 ∷ 69 ∷ 32 ∷ 77 ∷ 59 ∷ 32 ∷ 86 ∷ 65 ∷ 82 ∷ 32 ∷ 105 ∷ 58 ∷ 32 ∷ 73 ∷ 78 ∷ 84 ∷ 69 ∷ 71 ∷ 69 ∷ 82 ∷ 59 ∷ 32 ∷ 102 ∷ 58 ∷ 32 ∷ 80 ∷ 82 ∷ 79 ∷ 67 ∷ 69 ∷ 68 ∷ 85 ∷ 82 ∷ 69 ∷ 32 ∷ 40 ∷ 120 ∷ 58 ∷ 32 ∷ 73 ∷ 78 ∷ 84 ∷ 69 ∷ 71 ∷ 69 ∷ 82 ∷ 41 ∷ 58 ∷ 32 ∷ 73 ∷ 78 ∷ 84 ∷ 69 ∷ 71 ∷ 69 ∷ 82 ∷ 59 ∷ 32 ∷ 66 ∷ 69 ∷ 71 ∷ 73 ∷ 78 ∷ 32 ∷ 105 ∷ 32 ∷ 58 ∷ 61 ∷ 32 ∷ 102 ∷ 40 ∷ 41 ∷ 32 ∷ 69 ∷ 78 ∷ 68 ∷ 32 ∷ 77 ∷ 46 ∷ []); symbols = (symbol (Ident) 0 6 ∷ symbol (Ident) 7 8 ∷ symbol (Ident) 8 9 ∷ symbol (Ident) 10 13 ∷ symbol (Ident) 14 15 ∷ symbol (Ident) 15 16 ∷ symbol (Ident) 17 24 ∷ symbol (Ident) 24 25 ∷ symbol (Ident) 26 27 ∷ symbol (Ident) 27 28 ∷ symbol (Ident) 29 38 ∷ symbol (Ident) 39 40 ∷ symbol (Ident) 40 41 ∷ symbol (Ident) 41 42 ∷ symbol (Ident) 43 50 ∷ symbol (Ident) 50 51 ∷ symbol (Ident) 51 52 ∷ symbol (Ident) 53 60 ∷ symbol (Ident) 60 61 ∷ symbol (Ident) 62 67 ∷ symbol (Ident) 68 69 ∷ symbol (Ident) 70 72 ∷ symbol (Ident) 73 74 ∷ symbol (Ident) 74 75 ∷ symbol (Ident) 75 76 ∷ symbol (Ident) 77 80 ∷ symbol (Ident) 81 82 ∷ symbol (Ident) 82 83 ∷ []) }; tree = record { module_word = 0; name = 1; semicolon = 0; imports = None; decls = (S.decls None None (Some (record { var_word = 0; each = (record { names = (record { first = (record { name = 4; star = None }); more = [] }); colon = 0; of = (S.Named (record { name = 6; member = None })); semicolon = 0 } ∷ record { names = (record { first = (record { name = 8; star = None }); more = [] }); colon = 0; of = (S.Procedure 10 (Some (record { left_paren = 0; sections = Some (record { first = (record { var_word = None; first = 12; more = []; colon = 0; open_array = None; of = (record { name = 14; member = None }) }); more = [] }); right_paren = 0; result = Some (record { colon = 0; name = (record { name = 17; member = None }) }) }))); semicolon = 0 } ∷ []) })) S.no_procedure); body = (Some (record { begin_word = 0; stats = (S.stats (S.AssignOrCall (record { name = 20; selectors = S.no_selector }) (Some (record { becomes = 0; value = (S.only (S.simple None (S.term (S.Designated 22 (S.selected (S.EmptyParens 0 0) S.no_selector)) S.no_factor) S.no_term)) }))) S.no_stat) })); end_word = 0; end_name = 26; period = 0 } }

pub bad_parameter_32 : checked (bad_parameter_32_0 ∷ []) ≡ Fault 0 40 73
bad_parameter_32 = refl

-- MODULE M; TYPE R = RECORD x: INTEGER; y*: CHAR END; VAR b: BOOLEAN; PROCEDURE V(VAR x: INTEGER; VAR r: R); END V; BEGIN V(b, 3) END M.
abbrev bad_parameter_33_0 : Parsed
bad_parameter_33_0 = record { source = record { bytes = (77 ∷ 79 ∷ 68 ∷ 85 ∷ 76 ∷ 69 ∷ 32 ∷ 77 ∷ 59 ∷ 32 ∷ 84 ∷ 89 ∷ 80 ∷ 69 ∷ 32 ∷ 82 ∷ 32 ∷ 61 ∷ 32 ∷ 82 ∷ 69 ∷ 67 ∷ 79 ∷ 82 ∷ 68 ∷ 32 ∷ 120 ∷ 58 ∷ 32 ∷ 73 ∷ 78 ∷ 84 ∷ 69 ∷ 71 ∷ 69 ∷ 82 ∷ 59 ∷ 32 ∷ 121 ∷ 42 ∷ 58 ∷ 32 ∷ 67 ∷ 72 ∷ 65 ∷ 82 ∷ 32 ∷ 69 ∷ 78 ∷ 68 ∷ 59 ∷ 32 ∷ 86 ∷ 65 ∷ 82 ∷ 32 ∷ 98 ∷ 58 ∷ 32 ∷ 66 ∷ 79 ∷ 79 ∷ 76 ∷ 69 ∷ 65 ∷ 78 ∷ 59 ∷ 32 ∷ 80 ∷ 82 ∷ 79 ∷ 67 ∷ 69 ∷ 68 ∷ 85 ∷ 82 ∷ 69 ∷ 32 ∷ 86 ∷ 40 ∷ 86 ∷ 65 ∷ 82 ∷ 32 ∷ 120 ∷ 58 ∷ 32 ∷ 73 ∷ 78 ∷ 84 ∷ 69 ∷ 71 ∷ 69 ∷ 82 ∷ 59 ∷ 32 ∷ 86 ∷ 65 ∷ 82 ∷ 32 ∷ 114 ∷ 58 ∷ 32 ∷ 82 ∷ 41 ∷ 59 ∷ 32 ∷ 69 ∷ 78 ∷ 68 ∷ 32 ∷ 86 ∷ 59 ∷ 32 ∷ 66 ∷ 69 ∷ 71 ∷ 73 ∷ 78 ∷ 32 ∷ 86 ∷ 40 ∷ 98 ∷ 44 ∷ 32 ∷ 51 ∷ 41 ∷ 32 ∷ 69 ∷ 78 ∷ 68 ∷ 32 ∷ 77 ∷ 46 ∷ []); symbols = (symbol (Ident) 0 6 ∷ symbol (Ident) 7 8 ∷ symbol (Ident) 8 9 ∷ symbol (Ident) 10 14 ∷ symbol (Ident) 15 16 ∷ symbol (Ident) 17 18 ∷ symbol (Ident) 19 25 ∷ symbol (Ident) 26 27 ∷ symbol (Ident) 27 28 ∷ symbol (Ident) 29 36 ∷ symbol (Ident) 36 37 ∷ symbol (Ident) 38 39 ∷ symbol (Ident) 39 40 ∷ symbol (Ident) 40 41 ∷ symbol (Ident) 42 46 ∷ symbol (Ident) 47 50 ∷ symbol (Ident) 50 51 ∷ symbol (Ident) 52 55 ∷ symbol (Ident) 56 57 ∷ symbol (Ident) 57 58 ∷ symbol (Ident) 59 66 ∷ symbol (Ident) 66 67 ∷ symbol (Ident) 68 77 ∷ symbol (Ident) 78 79 ∷ symbol (Ident) 79 80 ∷ symbol (Ident) 80 83 ∷ symbol (Ident) 84 85 ∷ symbol (Ident) 85 86 ∷ symbol (Ident) 87 94 ∷ symbol (Ident) 94 95 ∷ symbol (Ident) 96 99 ∷ symbol (Ident) 100 101 ∷ symbol (Ident) 101 102 ∷ symbol (Ident) 103 104 ∷ symbol (Ident) 104 105 ∷ symbol (Ident) 105 106 ∷ symbol (Ident) 107 110 ∷ symbol (Ident) 111 112 ∷ symbol (Ident) 112 113 ∷ symbol (Ident) 114 119 ∷ symbol (Ident) 120 121 ∷ symbol (Ident) 121 122 ∷ symbol (Ident) 122 123 ∷ symbol (Ident) 123 124 ∷ symbol (Int (pos 3)) 125 126 ∷ symbol (Ident) 126 127 ∷ symbol (Ident) 128 131 ∷ symbol (Ident) 132 133 ∷ symbol (Ident) 133 134 ∷ []) }; tree = record { module_word = 0; name = 1; semicolon = 0; imports = None; decls = (S.decls None (Some (record { type_word = 0; each = (record { name = (record { name = 4; star = None }); equal = 0; is = (S.Record 6 None (S.fields (record { first = (record { name = 7; star = None }); more = [] }) 0 (S.Named (record { name = 9; member = None }))) (S.next_fields 0 (S.fields (record { first = (record { name = 11; star = Some 0 }); more = [] }) 0 (S.Named (record { name = 14; member = None }))) S.no_more_fields) 0); semicolon = 0 } ∷ []) })) (Some (record { var_word = 0; each = (record { names = (record { first = (record { name = 18; star = None }); more = [] }); colon = 0; of = (S.Named (record { name = 20; member = None })); semicolon = 0 } ∷ []) })) (S.procedure 0 (record { name = 23; star = None }) (Some (record { left_paren = 0; sections = Some (record { first = (record { var_word = Some 0; first = 26; more = []; colon = 0; open_array = None; of = (record { name = 28; member = None }) }); more = (record { semicolon = 0; section = (record { var_word = Some 0; first = 31; more = []; colon = 0; open_array = None; of = (record { name = 33; member = None }) }) } ∷ []) }); right_paren = 0; result = None })) 0 (S.decls None None None S.no_procedure) None None 36 37 0 S.no_procedure)); body = (Some (record { begin_word = 0; stats = (S.stats (S.AssignOrCall (record { name = 40; selectors = (S.selected (S.Parens 0 (S.expressions (S.only (S.simple None (S.term (S.Designated 42 S.no_selector) S.no_factor) S.no_term)) (S.next_expression 0 (S.only (S.simple None (S.term (S.Int 44) S.no_factor) S.no_term)) S.no_expression)) 0) S.no_selector) }) None) S.no_stat) })); end_word = 0; end_name = 47; period = 0 } }

pub bad_parameter_33 : checked (bad_parameter_33_0 ∷ []) ≡ Fault 0 31 122
bad_parameter_33 = refl

-- MODULE M; TYPE R = RECORD x: INTEGER; y*: CHAR END; PROCEDURE V(VAR x: INTEGER; VAR r: R); END V; BEGIN V(NIL, NIL) END M.
abbrev bad_parameter_34_0 : Parsed
bad_parameter_34_0 = record { source = record { bytes = (77 ∷ 79 ∷ 68 ∷ 85 ∷ 76 ∷ 69 ∷ 32 ∷ 77 ∷ 59 ∷ 32 ∷ 84 ∷ 89 ∷ 80 ∷ 69 ∷ 32 ∷ 82 ∷ 32 ∷ 61 ∷ 32 ∷ 82 ∷ 69 ∷ 67 ∷ 79 ∷ 82 ∷ 68 ∷ 32 ∷ 120 ∷ 58 ∷ 32 ∷ 73 ∷ 78 ∷ 84 ∷ 69 ∷ 71 ∷ 69 ∷ 82 ∷ 59 ∷ 32 ∷ 121 ∷ 42 ∷ 58 ∷ 32 ∷ 67 ∷ 72 ∷ 65 ∷ 82 ∷ 32 ∷ 69 ∷ 78 ∷ 68 ∷ 59 ∷ 32 ∷ 80 ∷ 82 ∷ 79 ∷ 67 ∷ 69 ∷ 68 ∷ 85 ∷ 82 ∷ 69 ∷ 32 ∷ 86 ∷ 40 ∷ 86 ∷ 65 ∷ 82 ∷ 32 ∷ 120 ∷ 58 ∷ 32 ∷ 73 ∷ 78 ∷ 84 ∷ 69 ∷ 71 ∷ 69 ∷ 82 ∷ 59 ∷ 32 ∷ 86 ∷ 65 ∷ 82 ∷ 32 ∷ 114 ∷ 58 ∷ 32 ∷ 82 ∷ 41 ∷ 59 ∷ 32 ∷ 69 ∷ 78 ∷ 68 ∷ 32 ∷ 86 ∷ 59 ∷ 32 ∷ 66 ∷ 69 ∷ 71 ∷ 73 ∷ 78 ∷ 32 ∷ 86 ∷ 40 ∷ 78 ∷ 73 ∷ 76 ∷ 44 ∷ 32 ∷ 78 ∷ 73 ∷ 76 ∷ 41 ∷ 32 ∷ 69 ∷ 78 ∷ 68 ∷ 32 ∷ 77 ∷ 46 ∷ []); symbols = (symbol (Ident) 0 6 ∷ symbol (Ident) 7 8 ∷ symbol (Ident) 8 9 ∷ symbol (Ident) 10 14 ∷ symbol (Ident) 15 16 ∷ symbol (Ident) 17 18 ∷ symbol (Ident) 19 25 ∷ symbol (Ident) 26 27 ∷ symbol (Ident) 27 28 ∷ symbol (Ident) 29 36 ∷ symbol (Ident) 36 37 ∷ symbol (Ident) 38 39 ∷ symbol (Ident) 39 40 ∷ symbol (Ident) 40 41 ∷ symbol (Ident) 42 46 ∷ symbol (Ident) 47 50 ∷ symbol (Ident) 50 51 ∷ symbol (Ident) 52 61 ∷ symbol (Ident) 62 63 ∷ symbol (Ident) 63 64 ∷ symbol (Ident) 64 67 ∷ symbol (Ident) 68 69 ∷ symbol (Ident) 69 70 ∷ symbol (Ident) 71 78 ∷ symbol (Ident) 78 79 ∷ symbol (Ident) 80 83 ∷ symbol (Ident) 84 85 ∷ symbol (Ident) 85 86 ∷ symbol (Ident) 87 88 ∷ symbol (Ident) 88 89 ∷ symbol (Ident) 89 90 ∷ symbol (Ident) 91 94 ∷ symbol (Ident) 95 96 ∷ symbol (Ident) 96 97 ∷ symbol (Ident) 98 103 ∷ symbol (Ident) 104 105 ∷ symbol (Ident) 105 106 ∷ symbol (Ident) 106 109 ∷ symbol (Ident) 109 110 ∷ symbol (Ident) 111 114 ∷ symbol (Ident) 114 115 ∷ symbol (Ident) 116 119 ∷ symbol (Ident) 120 121 ∷ symbol (Ident) 121 122 ∷ []) }; tree = record { module_word = 0; name = 1; semicolon = 0; imports = None; decls = (S.decls None (Some (record { type_word = 0; each = (record { name = (record { name = 4; star = None }); equal = 0; is = (S.Record 6 None (S.fields (record { first = (record { name = 7; star = None }); more = [] }) 0 (S.Named (record { name = 9; member = None }))) (S.next_fields 0 (S.fields (record { first = (record { name = 11; star = Some 0 }); more = [] }) 0 (S.Named (record { name = 14; member = None }))) S.no_more_fields) 0); semicolon = 0 } ∷ []) })) None (S.procedure 0 (record { name = 18; star = None }) (Some (record { left_paren = 0; sections = Some (record { first = (record { var_word = Some 0; first = 21; more = []; colon = 0; open_array = None; of = (record { name = 23; member = None }) }); more = (record { semicolon = 0; section = (record { var_word = Some 0; first = 26; more = []; colon = 0; open_array = None; of = (record { name = 28; member = None }) }) } ∷ []) }); right_paren = 0; result = None })) 0 (S.decls None None None S.no_procedure) None None 31 32 0 S.no_procedure)); body = (Some (record { begin_word = 0; stats = (S.stats (S.AssignOrCall (record { name = 35; selectors = (S.selected (S.Parens 0 (S.expressions (S.only (S.simple None (S.term (S.Nil 37) S.no_factor) S.no_term)) (S.next_expression 0 (S.only (S.simple None (S.term (S.Nil 39) S.no_factor) S.no_term)) S.no_expression)) 0) S.no_selector) }) None) S.no_stat) })); end_word = 0; end_name = 42; period = 0 } }

pub bad_parameter_34 : checked (bad_parameter_34_0 ∷ []) ≡ Fault 0 40 106
bad_parameter_34 = refl

-- MODULE M; PROCEDURE F(x: INTEGER): INTEGER; RETURN x END F; BEGIN F END M.
abbrev bad_parameter_35_0 : Parsed
bad_parameter_35_0 = record { source = record { bytes = (77 ∷ 79 ∷ 68 ∷ 85 ∷ 76 ∷ 69 ∷ 32 ∷ 77 ∷ 59 ∷ 32 ∷ 80 ∷ 82 ∷ 79 ∷ 67 ∷ 69 ∷ 68 ∷ 85 ∷ 82 ∷ 69 ∷ 32 ∷ 70 ∷ 40 ∷ 120 ∷ 58 ∷ 32 ∷ 73 ∷ 78 ∷ 84 ∷ 69 ∷ 71 ∷ 69 ∷ 82 ∷ 41 ∷ 58 ∷ 32 ∷ 73 ∷ 78 ∷ 84 ∷ 69 ∷ 71 ∷ 69 ∷ 82 ∷ 59 ∷ 32 ∷ 82 ∷ 69 ∷ 84 ∷ 85 ∷ 82 ∷ 78 ∷ 32 ∷ 120 ∷ 32 ∷ 69 ∷ 78 ∷ 68 ∷ 32 ∷ 70 ∷ 59 ∷ 32 ∷ 66 ∷ 69 ∷ 71 ∷ 73 ∷ 78 ∷ 32 ∷ 70 ∷ 32 ∷ 69 ∷ 78 ∷ 68 ∷ 32 ∷ 77 ∷ 46 ∷ []); symbols = (symbol (Ident) 0 6 ∷ symbol (Ident) 7 8 ∷ symbol (Ident) 8 9 ∷ symbol (Ident) 10 19 ∷ symbol (Ident) 20 21 ∷ symbol (Ident) 21 22 ∷ symbol (Ident) 22 23 ∷ symbol (Ident) 23 24 ∷ symbol (Ident) 25 32 ∷ symbol (Ident) 32 33 ∷ symbol (Ident) 33 34 ∷ symbol (Ident) 35 42 ∷ symbol (Ident) 42 43 ∷ symbol (Ident) 44 50 ∷ symbol (Ident) 51 52 ∷ symbol (Ident) 53 56 ∷ symbol (Ident) 57 58 ∷ symbol (Ident) 58 59 ∷ symbol (Ident) 60 65 ∷ symbol (Ident) 66 67 ∷ symbol (Ident) 68 71 ∷ symbol (Ident) 72 73 ∷ symbol (Ident) 73 74 ∷ []) }; tree = record { module_word = 0; name = 1; semicolon = 0; imports = None; decls = (S.decls None None None (S.procedure 0 (record { name = 4; star = None }) (Some (record { left_paren = 0; sections = Some (record { first = (record { var_word = None; first = 6; more = []; colon = 0; open_array = None; of = (record { name = 8; member = None }) }); more = [] }); right_paren = 0; result = Some (record { colon = 0; name = (record { name = 11; member = None }) }) })) 0 (S.decls None None None S.no_procedure) None (Some (record { return_word = 13; value = (S.only (S.simple None (S.term (S.Designated 14 S.no_selector) S.no_factor) S.no_term)) })) 15 16 0 S.no_procedure)); body = (Some (record { begin_word = 0; stats = (S.stats (S.AssignOrCall (record { name = 19; selectors = S.no_selector }) None) S.no_stat) })); end_word = 0; end_name = 21; period = 0 } }

pub bad_parameter_35 : checked (bad_parameter_35_0 ∷ []) ≡ Fault 0 40 66
bad_parameter_35 = refl

-- MODULE M; VAR f: PROCEDURE (x: INTEGER): INTEGER; BEGIN f END M.
abbrev bad_parameter_36_0 : Parsed
bad_parameter_36_0 = record { source = record { bytes = (77 ∷ 79 ∷ 68 ∷ 85 ∷ 76 ∷ 69 ∷ 32 ∷ 77 ∷ 59 ∷ 32 ∷ 86 ∷ 65 ∷ 82 ∷ 32 ∷ 102 ∷ 58 ∷ 32 ∷ 80 ∷ 82 ∷ 79 ∷ 67 ∷ 69 ∷ 68 ∷ 85 ∷ 82 ∷ 69 ∷ 32 ∷ 40 ∷ 120 ∷ 58 ∷ 32 ∷ 73 ∷ 78 ∷ 84 ∷ 69 ∷ 71 ∷ 69 ∷ 82 ∷ 41 ∷ 58 ∷ 32 ∷ 73 ∷ 78 ∷ 84 ∷ 69 ∷ 71 ∷ 69 ∷ 82 ∷ 59 ∷ 32 ∷ 66 ∷ 69 ∷ 71 ∷ 73 ∷ 78 ∷ 32 ∷ 102 ∷ 32 ∷ 69 ∷ 78 ∷ 68 ∷ 32 ∷ 77 ∷ 46 ∷ []); symbols = (symbol (Ident) 0 6 ∷ symbol (Ident) 7 8 ∷ symbol (Ident) 8 9 ∷ symbol (Ident) 10 13 ∷ symbol (Ident) 14 15 ∷ symbol (Ident) 15 16 ∷ symbol (Ident) 17 26 ∷ symbol (Ident) 27 28 ∷ symbol (Ident) 28 29 ∷ symbol (Ident) 29 30 ∷ symbol (Ident) 31 38 ∷ symbol (Ident) 38 39 ∷ symbol (Ident) 39 40 ∷ symbol (Ident) 41 48 ∷ symbol (Ident) 48 49 ∷ symbol (Ident) 50 55 ∷ symbol (Ident) 56 57 ∷ symbol (Ident) 58 61 ∷ symbol (Ident) 62 63 ∷ symbol (Ident) 63 64 ∷ []) }; tree = record { module_word = 0; name = 1; semicolon = 0; imports = None; decls = (S.decls None None (Some (record { var_word = 0; each = (record { names = (record { first = (record { name = 4; star = None }); more = [] }); colon = 0; of = (S.Procedure 6 (Some (record { left_paren = 0; sections = Some (record { first = (record { var_word = None; first = 8; more = []; colon = 0; open_array = None; of = (record { name = 10; member = None }) }); more = [] }); right_paren = 0; result = Some (record { colon = 0; name = (record { name = 13; member = None }) }) }))); semicolon = 0 } ∷ []) })) S.no_procedure); body = (Some (record { begin_word = 0; stats = (S.stats (S.AssignOrCall (record { name = 16; selectors = S.no_selector }) None) S.no_stat) })); end_word = 0; end_name = 18; period = 0 } }

pub bad_parameter_36 : checked (bad_parameter_36_0 ∷ []) ≡ Fault 0 40 56
bad_parameter_36 = refl

-- MODULE M; IMPORT In; TYPE R = RECORD x: INTEGER; y*: CHAR END; VAR r: R; PROCEDURE V(VAR x: INTEGER; VAR r: R); END V; BEGIN V(In.Done, r) END M.
abbrev bad_parameter_37_0 : Parsed
bad_parameter_37_0 = record { source = record { bytes = (77 ∷ 79 ∷ 68 ∷ 85 ∷ 76 ∷ 69 ∷ 32 ∷ 77 ∷ 59 ∷ 32 ∷ 73 ∷ 77 ∷ 80 ∷ 79 ∷ 82 ∷ 84 ∷ 32 ∷ 73 ∷ 110 ∷ 59 ∷ 32 ∷ 84 ∷ 89 ∷ 80 ∷ 69 ∷ 32 ∷ 82 ∷ 32 ∷ 61 ∷ 32 ∷ 82 ∷ 69 ∷ 67 ∷ 79 ∷ 82 ∷ 68 ∷ 32 ∷ 120 ∷ 58 ∷ 32 ∷ 73 ∷ 78 ∷ 84 ∷ 69 ∷ 71 ∷ 69 ∷ 82 ∷ 59 ∷ 32 ∷ 121 ∷ 42 ∷ 58 ∷ 32 ∷ 67 ∷ 72 ∷ 65 ∷ 82 ∷ 32 ∷ 69 ∷ 78 ∷ 68 ∷ 59 ∷ 32 ∷ 86 ∷ 65 ∷ 82 ∷ 32 ∷ 114 ∷ 58 ∷ 32 ∷ 82 ∷ 59 ∷ 32 ∷ 80 ∷ 82 ∷ 79 ∷ 67 ∷ 69 ∷ 68 ∷ 85 ∷ 82 ∷ 69 ∷ 32 ∷ 86 ∷ 40 ∷ 86 ∷ 65 ∷ 82 ∷ 32 ∷ 120 ∷ 58 ∷ 32 ∷ 73 ∷ 78 ∷ 84 ∷ 69 ∷ 71 ∷ 69 ∷ 82 ∷ 59 ∷ 32 ∷ 86 ∷ 65 ∷ 82 ∷ 32 ∷ 114 ∷ 58 ∷ 32 ∷ 82 ∷ 41 ∷ 59 ∷ 32 ∷ 69 ∷ 78 ∷ 68 ∷ 32 ∷ 86 ∷ 59 ∷ 32 ∷ 66 ∷ 69 ∷ 71 ∷ 73 ∷ 78 ∷ 32 ∷ 86 ∷ 40 ∷ 73 ∷ 110 ∷ 46 ∷ 68 ∷ 111 ∷ 110 ∷ 101 ∷ 44 ∷ 32 ∷ 114 ∷ 41 ∷ 32 ∷ 69 ∷ 78 ∷ 68 ∷ 32 ∷ 77 ∷ 46 ∷ []); symbols = (symbol (Ident) 0 6 ∷ symbol (Ident) 7 8 ∷ symbol (Ident) 8 9 ∷ symbol (Ident) 10 16 ∷ symbol (Ident) 17 19 ∷ symbol (Ident) 19 20 ∷ symbol (Ident) 21 25 ∷ symbol (Ident) 26 27 ∷ symbol (Ident) 28 29 ∷ symbol (Ident) 30 36 ∷ symbol (Ident) 37 38 ∷ symbol (Ident) 38 39 ∷ symbol (Ident) 40 47 ∷ symbol (Ident) 47 48 ∷ symbol (Ident) 49 50 ∷ symbol (Ident) 50 51 ∷ symbol (Ident) 51 52 ∷ symbol (Ident) 53 57 ∷ symbol (Ident) 58 61 ∷ symbol (Ident) 61 62 ∷ symbol (Ident) 63 66 ∷ symbol (Ident) 67 68 ∷ symbol (Ident) 68 69 ∷ symbol (Ident) 70 71 ∷ symbol (Ident) 71 72 ∷ symbol (Ident) 73 82 ∷ symbol (Ident) 83 84 ∷ symbol (Ident) 84 85 ∷ symbol (Ident) 85 88 ∷ symbol (Ident) 89 90 ∷ symbol (Ident) 90 91 ∷ symbol (Ident) 92 99 ∷ symbol (Ident) 99 100 ∷ symbol (Ident) 101 104 ∷ symbol (Ident) 105 106 ∷ symbol (Ident) 106 107 ∷ symbol (Ident) 108 109 ∷ symbol (Ident) 109 110 ∷ symbol (Ident) 110 111 ∷ symbol (Ident) 112 115 ∷ symbol (Ident) 116 117 ∷ symbol (Ident) 117 118 ∷ symbol (Ident) 119 124 ∷ symbol (Ident) 125 126 ∷ symbol (Ident) 126 127 ∷ symbol (Ident) 127 129 ∷ symbol (Ident) 129 130 ∷ symbol (Ident) 130 134 ∷ symbol (Ident) 134 135 ∷ symbol (Ident) 136 137 ∷ symbol (Ident) 137 138 ∷ symbol (Ident) 139 142 ∷ symbol (Ident) 143 144 ∷ symbol (Ident) 144 145 ∷ []) }; tree = record { module_word = 0; name = 1; semicolon = 0; imports = Some (record { import_word = 0; first = (record { name = 4; of = None }); more = []; semicolon = 0 }); decls = (S.decls None (Some (record { type_word = 0; each = (record { name = (record { name = 7; star = None }); equal = 0; is = (S.Record 9 None (S.fields (record { first = (record { name = 10; star = None }); more = [] }) 0 (S.Named (record { name = 12; member = None }))) (S.next_fields 0 (S.fields (record { first = (record { name = 14; star = Some 0 }); more = [] }) 0 (S.Named (record { name = 17; member = None }))) S.no_more_fields) 0); semicolon = 0 } ∷ []) })) (Some (record { var_word = 0; each = (record { names = (record { first = (record { name = 21; star = None }); more = [] }); colon = 0; of = (S.Named (record { name = 23; member = None })); semicolon = 0 } ∷ []) })) (S.procedure 0 (record { name = 26; star = None }) (Some (record { left_paren = 0; sections = Some (record { first = (record { var_word = Some 0; first = 29; more = []; colon = 0; open_array = None; of = (record { name = 31; member = None }) }); more = (record { semicolon = 0; section = (record { var_word = Some 0; first = 34; more = []; colon = 0; open_array = None; of = (record { name = 36; member = None }) }) } ∷ []) }); right_paren = 0; result = None })) 0 (S.decls None None None S.no_procedure) None None 39 40 0 S.no_procedure)); body = (Some (record { begin_word = 0; stats = (S.stats (S.AssignOrCall (record { name = 43; selectors = (S.selected (S.Parens 0 (S.expressions (S.only (S.simple None (S.term (S.Designated 45 (S.selected (S.Field 0 47) S.no_selector)) S.no_factor) S.no_term)) (S.next_expression 0 (S.only (S.simple None (S.term (S.Designated 49 S.no_selector) S.no_factor) S.no_term)) S.no_expression)) 0) S.no_selector) }) None) S.no_stat) })); end_word = 0; end_name = 52; period = 0 } }

pub bad_parameter_37 : checked (bad_parameter_37_0 ∷ []) ≡ Fault 0 33 127
bad_parameter_37 = refl

-- MODULE M; VAR i: INTEGER; b: BOOLEAN; c: CHAR; PROCEDURE F(x: INTEGER): INTEGER; RETURN x END F; BEGIN i := F(b, c) END M.
abbrev bad_parameter_38_0 : Parsed
bad_parameter_38_0 = record { source = record { bytes = (77 ∷ 79 ∷ 68 ∷ 85 ∷ 76 ∷ 69 ∷ 32 ∷ 77 ∷ 59 ∷ 32 ∷ 86 ∷ 65 ∷ 82 ∷ 32 ∷ 105 ∷ 58 ∷ 32 ∷ 73 ∷ 78 ∷ 84 ∷ 69 ∷ 71 ∷ 69 ∷ 82 ∷ 59 ∷ 32 ∷ 98 ∷ 58 ∷ 32 ∷ 66 ∷ 79 ∷ 79 ∷ 76 ∷ 69 ∷ 65 ∷ 78 ∷ 59 ∷ 32 ∷ 99 ∷ 58 ∷ 32 ∷ 67 ∷ 72 ∷ 65 ∷ 82 ∷ 59 ∷ 32 ∷ 80 ∷ 82 ∷ 79 ∷ 67 ∷ 69 ∷ 68 ∷ 85 ∷ 82 ∷ 69 ∷ 32 ∷ 70 ∷ 40 ∷ 120 ∷ 58 ∷ 32 ∷ 73 ∷ 78 ∷ 84 ∷ 69 ∷ 71 ∷ 69 ∷ 82 ∷ 41 ∷ 58 ∷ 32 ∷ 73 ∷ 78 ∷ 84 ∷ 69 ∷ 71 ∷ 69 ∷ 82 ∷ 59 ∷ 32 ∷ 82 ∷ 69 ∷ 84 ∷ 85 ∷ 82 ∷ 78 ∷ 32 ∷ 120 ∷ 32 ∷ 69 ∷ 78 ∷ 68 ∷ 32 ∷ 70 ∷ 59 ∷ 32 ∷ 66 ∷ 69 ∷ 71 ∷ 73 ∷ 78 ∷ 32 ∷ 105 ∷ 32 ∷ 58 ∷ 61 ∷ 32 ∷ 70 ∷ 40 ∷ 98 ∷ 44 ∷ 32 ∷ 99 ∷ 41 ∷ 32 ∷ 69 ∷ 78 ∷ 68 ∷ 32 ∷ 77 ∷ 46 ∷ []); symbols = (symbol (Ident) 0 6 ∷ symbol (Ident) 7 8 ∷ symbol (Ident) 8 9 ∷ symbol (Ident) 10 13 ∷ symbol (Ident) 14 15 ∷ symbol (Ident) 15 16 ∷ symbol (Ident) 17 24 ∷ symbol (Ident) 24 25 ∷ symbol (Ident) 26 27 ∷ symbol (Ident) 27 28 ∷ symbol (Ident) 29 36 ∷ symbol (Ident) 36 37 ∷ symbol (Ident) 38 39 ∷ symbol (Ident) 39 40 ∷ symbol (Ident) 41 45 ∷ symbol (Ident) 45 46 ∷ symbol (Ident) 47 56 ∷ symbol (Ident) 57 58 ∷ symbol (Ident) 58 59 ∷ symbol (Ident) 59 60 ∷ symbol (Ident) 60 61 ∷ symbol (Ident) 62 69 ∷ symbol (Ident) 69 70 ∷ symbol (Ident) 70 71 ∷ symbol (Ident) 72 79 ∷ symbol (Ident) 79 80 ∷ symbol (Ident) 81 87 ∷ symbol (Ident) 88 89 ∷ symbol (Ident) 90 93 ∷ symbol (Ident) 94 95 ∷ symbol (Ident) 95 96 ∷ symbol (Ident) 97 102 ∷ symbol (Ident) 103 104 ∷ symbol (Ident) 105 107 ∷ symbol (Ident) 108 109 ∷ symbol (Ident) 109 110 ∷ symbol (Ident) 110 111 ∷ symbol (Ident) 111 112 ∷ symbol (Ident) 113 114 ∷ symbol (Ident) 114 115 ∷ symbol (Ident) 116 119 ∷ symbol (Ident) 120 121 ∷ symbol (Ident) 121 122 ∷ []) }; tree = record { module_word = 0; name = 1; semicolon = 0; imports = None; decls = (S.decls None None (Some (record { var_word = 0; each = (record { names = (record { first = (record { name = 4; star = None }); more = [] }); colon = 0; of = (S.Named (record { name = 6; member = None })); semicolon = 0 } ∷ record { names = (record { first = (record { name = 8; star = None }); more = [] }); colon = 0; of = (S.Named (record { name = 10; member = None })); semicolon = 0 } ∷ record { names = (record { first = (record { name = 12; star = None }); more = [] }); colon = 0; of = (S.Named (record { name = 14; member = None })); semicolon = 0 } ∷ []) })) (S.procedure 0 (record { name = 17; star = None }) (Some (record { left_paren = 0; sections = Some (record { first = (record { var_word = None; first = 19; more = []; colon = 0; open_array = None; of = (record { name = 21; member = None }) }); more = [] }); right_paren = 0; result = Some (record { colon = 0; name = (record { name = 24; member = None }) }) })) 0 (S.decls None None None S.no_procedure) None (Some (record { return_word = 26; value = (S.only (S.simple None (S.term (S.Designated 27 S.no_selector) S.no_factor) S.no_term)) })) 28 29 0 S.no_procedure)); body = (Some (record { begin_word = 0; stats = (S.stats (S.AssignOrCall (record { name = 32; selectors = S.no_selector }) (Some (record { becomes = 0; value = (S.only (S.simple None (S.term (S.Designated 34 (S.selected (S.Parens 0 (S.expressions (S.only (S.simple None (S.term (S.Designated 36 S.no_selector) S.no_factor) S.no_term)) (S.next_expression 0 (S.only (S.simple None (S.term (S.Designated 38 S.no_selector) S.no_factor) S.no_term)) S.no_expression)) 0) S.no_selector)) S.no_factor) S.no_term)) }))) S.no_stat) })); end_word = 0; end_name = 41; period = 0 } }

pub bad_parameter_38 : checked (bad_parameter_38_0 ∷ []) ≡ Fault 0 40 108
bad_parameter_38 = refl

-- MODULE M; VAR g: PROCEDURE; BEGIN g(1) END M.
abbrev bad_parameter_39_0 : Parsed
bad_parameter_39_0 = record { source = record { bytes = (77 ∷ 79 ∷ 68 ∷ 85 ∷ 76 ∷ 69 ∷ 32 ∷ 77 ∷ 59 ∷ 32 ∷ 86 ∷ 65 ∷ 82 ∷ 32 ∷ 103 ∷ 58 ∷ 32 ∷ 80 ∷ 82 ∷ 79 ∷ 67 ∷ 69 ∷ 68 ∷ 85 ∷ 82 ∷ 69 ∷ 59 ∷ 32 ∷ 66 ∷ 69 ∷ 71 ∷ 73 ∷ 78 ∷ 32 ∷ 103 ∷ 40 ∷ 49 ∷ 41 ∷ 32 ∷ 69 ∷ 78 ∷ 68 ∷ 32 ∷ 77 ∷ 46 ∷ []); symbols = (symbol (Ident) 0 6 ∷ symbol (Ident) 7 8 ∷ symbol (Ident) 8 9 ∷ symbol (Ident) 10 13 ∷ symbol (Ident) 14 15 ∷ symbol (Ident) 15 16 ∷ symbol (Ident) 17 26 ∷ symbol (Ident) 26 27 ∷ symbol (Ident) 28 33 ∷ symbol (Ident) 34 35 ∷ symbol (Ident) 35 36 ∷ symbol (Int (pos 1)) 36 37 ∷ symbol (Ident) 37 38 ∷ symbol (Ident) 39 42 ∷ symbol (Ident) 43 44 ∷ symbol (Ident) 44 45 ∷ []) }; tree = record { module_word = 0; name = 1; semicolon = 0; imports = None; decls = (S.decls None None (Some (record { var_word = 0; each = (record { names = (record { first = (record { name = 4; star = None }); more = [] }); colon = 0; of = (S.Procedure 6 None); semicolon = 0 } ∷ []) })) S.no_procedure); body = (Some (record { begin_word = 0; stats = (S.stats (S.AssignOrCall (record { name = 9; selectors = (S.selected (S.Parens 0 (S.expressions (S.only (S.simple None (S.term (S.Int 11) S.no_factor) S.no_term)) S.no_expression) 0) S.no_selector) }) None) S.no_stat) })); end_word = 0; end_name = 14; period = 0 } }

pub bad_parameter_39 : checked (bad_parameter_39_0 ∷ []) ≡ Fault 0 40 34
bad_parameter_39 = refl

-- MODULE M; BEGIN ASSERT END M.
abbrev bad_parameter_40_0 : Parsed
bad_parameter_40_0 = record { source = record { bytes = (77 ∷ 79 ∷ 68 ∷ 85 ∷ 76 ∷ 69 ∷ 32 ∷ 77 ∷ 59 ∷ 32 ∷ 66 ∷ 69 ∷ 71 ∷ 73 ∷ 78 ∷ 32 ∷ 65 ∷ 83 ∷ 83 ∷ 69 ∷ 82 ∷ 84 ∷ 32 ∷ 69 ∷ 78 ∷ 68 ∷ 32 ∷ 77 ∷ 46 ∷ []); symbols = (symbol (Ident) 0 6 ∷ symbol (Ident) 7 8 ∷ symbol (Ident) 8 9 ∷ symbol (Ident) 10 15 ∷ symbol (Ident) 16 22 ∷ symbol (Ident) 23 26 ∷ symbol (Ident) 27 28 ∷ symbol (Ident) 28 29 ∷ []) }; tree = record { module_word = 0; name = 1; semicolon = 0; imports = None; decls = (S.decls None None None S.no_procedure); body = (Some (record { begin_word = 0; stats = (S.stats (S.AssignOrCall (record { name = 4; selectors = S.no_selector }) None) S.no_stat) })); end_word = 0; end_name = 6; period = 0 } }

pub bad_parameter_40 : checked (bad_parameter_40_0 ∷ []) ≡ Fault 0 40 16
bad_parameter_40 = refl

-- MODULE M; PROCEDURE P(a, b, c, d, e, f, g, h, i, j, k, l, m, n, o, p, q, r, s, t, u, v, w, x, y: INTEGER); END P; END M.
abbrev bad_parameter_41_0 : Parsed
bad_parameter_41_0 = record { source = record { bytes = (77 ∷ 79 ∷ 68 ∷ 85 ∷ 76 ∷ 69 ∷ 32 ∷ 77 ∷ 59 ∷ 32 ∷ 80 ∷ 82 ∷ 79 ∷ 67 ∷ 69 ∷ 68 ∷ 85 ∷ 82 ∷ 69 ∷ 32 ∷ 80 ∷ 40 ∷ 97 ∷ 44 ∷ 32 ∷ 98 ∷ 44 ∷ 32 ∷ 99 ∷ 44 ∷ 32 ∷ 100 ∷ 44 ∷ 32 ∷ 101 ∷ 44 ∷ 32 ∷ 102 ∷ 44 ∷ 32 ∷ 103 ∷ 44 ∷ 32 ∷ 104 ∷ 44 ∷ 32 ∷ 105 ∷ 44 ∷ 32 ∷ 106 ∷ 44 ∷ 32 ∷ 107 ∷ 44 ∷ 32 ∷ 108 ∷ 44 ∷ 32 ∷ 109 ∷ 44 ∷ 32 ∷ 110 ∷ 44 ∷ 32 ∷ 111 ∷ 44 ∷ 32 ∷ 112 ∷ 44 ∷ 32 ∷ 113 ∷ 44 ∷ 32 ∷ 114 ∷ 44 ∷ 32 ∷ 115 ∷ 44 ∷ 32 ∷ 116 ∷ 44 ∷ 32 ∷ 117 ∷ 44 ∷ 32 ∷ 118 ∷ 44 ∷ 32 ∷ 119 ∷ 44 ∷ 32 ∷ 120 ∷ 44 ∷ 32 ∷ 121 ∷ 58 ∷ 32 ∷ 73 ∷ 78 ∷ 84 ∷ 69 ∷ 71 ∷ 69 ∷ 82 ∷ 41 ∷ 59 ∷ 32 ∷ 69 ∷ 78 ∷ 68 ∷ 32 ∷ 80 ∷ 59 ∷ 32 ∷ 69 ∷ 78 ∷ 68 ∷ 32 ∷ 77 ∷ 46 ∷ []); symbols = (symbol (Ident) 0 6 ∷ symbol (Ident) 7 8 ∷ symbol (Ident) 8 9 ∷ symbol (Ident) 10 19 ∷ symbol (Ident) 20 21 ∷ symbol (Ident) 21 22 ∷ symbol (Ident) 22 23 ∷ symbol (Ident) 23 24 ∷ symbol (Ident) 25 26 ∷ symbol (Ident) 26 27 ∷ symbol (Ident) 28 29 ∷ symbol (Ident) 29 30 ∷ symbol (Ident) 31 32 ∷ symbol (Ident) 32 33 ∷ symbol (Ident) 34 35 ∷ symbol (Ident) 35 36 ∷ symbol (Ident) 37 38 ∷ symbol (Ident) 38 39 ∷ symbol (Ident) 40 41 ∷ symbol (Ident) 41 42 ∷ symbol (Ident) 43 44 ∷ symbol (Ident) 44 45 ∷ symbol (Ident) 46 47 ∷ symbol (Ident) 47 48 ∷ symbol (Ident) 49 50 ∷ symbol (Ident) 50 51 ∷ symbol (Ident) 52 53 ∷ symbol (Ident) 53 54 ∷ symbol (Ident) 55 56 ∷ symbol (Ident) 56 57 ∷ symbol (Ident) 58 59 ∷ symbol (Ident) 59 60 ∷ symbol (Ident) 61 62 ∷ symbol (Ident) 62 63 ∷ symbol (Ident) 64 65 ∷ symbol (Ident) 65 66 ∷ symbol (Ident) 67 68 ∷ symbol (Ident) 68 69 ∷ symbol (Ident) 70 71 ∷ symbol (Ident) 71 72 ∷ symbol (Ident) 73 74 ∷ symbol (Ident) 74 75 ∷ symbol (Ident) 76 77 ∷ symbol (Ident) 77 78 ∷ symbol (Ident) 79 80 ∷ symbol (Ident) 80 81 ∷ symbol (Ident) 82 83 ∷ symbol (Ident) 83 84 ∷ symbol (Ident) 85 86 ∷ symbol (Ident) 86 87 ∷ symbol (Ident) 88 89 ∷ symbol (Ident) 89 90 ∷ symbol (Ident) 91 92 ∷ symbol (Ident) 92 93 ∷ symbol (Ident) 94 95 ∷ symbol (Ident) 95 96 ∷ symbol (Ident) 97 104 ∷ symbol (Ident) 104 105 ∷ symbol (Ident) 105 106 ∷ symbol (Ident) 107 110 ∷ symbol (Ident) 111 112 ∷ symbol (Ident) 112 113 ∷ symbol (Ident) 114 117 ∷ symbol (Ident) 118 119 ∷ symbol (Ident) 119 120 ∷ []) }; tree = record { module_word = 0; name = 1; semicolon = 0; imports = None; decls = (S.decls None None None (S.procedure 0 (record { name = 4; star = None }) (Some (record { left_paren = 0; sections = Some (record { first = (record { var_word = None; first = 6; more = (record { comma = 0; name = 8 } ∷ record { comma = 0; name = 10 } ∷ record { comma = 0; name = 12 } ∷ record { comma = 0; name = 14 } ∷ record { comma = 0; name = 16 } ∷ record { comma = 0; name = 18 } ∷ record { comma = 0; name = 20 } ∷ record { comma = 0; name = 22 } ∷ record { comma = 0; name = 24 } ∷ record { comma = 0; name = 26 } ∷ record { comma = 0; name = 28 } ∷ record { comma = 0; name = 30 } ∷ record { comma = 0; name = 32 } ∷ record { comma = 0; name = 34 } ∷ record { comma = 0; name = 36 } ∷ record { comma = 0; name = 38 } ∷ record { comma = 0; name = 40 } ∷ record { comma = 0; name = 42 } ∷ record { comma = 0; name = 44 } ∷ record { comma = 0; name = 46 } ∷ record { comma = 0; name = 48 } ∷ record { comma = 0; name = 50 } ∷ record { comma = 0; name = 52 } ∷ record { comma = 0; name = 54 } ∷ []); colon = 0; open_array = None; of = (record { name = 56; member = None }) }); more = [] }); right_paren = 0; result = None })) 0 (S.decls None None None S.no_procedure) None None 59 60 0 S.no_procedure)); body = None; end_word = 0; end_name = 63; period = 0 } }

pub bad_parameter_41 : checked (bad_parameter_41_0 ∷ []) ≡ Fault 0 40 94
bad_parameter_41 = refl

-- MODULE M; PROCEDURE P(a, b, c, d, e, f, g, h, i, j, k, l, m, n, o, p, q, r, s, t, u, v, w, x: INTEGER); END P; END M.
abbrev bad_parameter_42_0 : Parsed
bad_parameter_42_0 = record { source = record { bytes = (77 ∷ 79 ∷ 68 ∷ 85 ∷ 76 ∷ 69 ∷ 32 ∷ 77 ∷ 59 ∷ 32 ∷ 80 ∷ 82 ∷ 79 ∷ 67 ∷ 69 ∷ 68 ∷ 85 ∷ 82 ∷ 69 ∷ 32 ∷ 80 ∷ 40 ∷ 97 ∷ 44 ∷ 32 ∷ 98 ∷ 44 ∷ 32 ∷ 99 ∷ 44 ∷ 32 ∷ 100 ∷ 44 ∷ 32 ∷ 101 ∷ 44 ∷ 32 ∷ 102 ∷ 44 ∷ 32 ∷ 103 ∷ 44 ∷ 32 ∷ 104 ∷ 44 ∷ 32 ∷ 105 ∷ 44 ∷ 32 ∷ 106 ∷ 44 ∷ 32 ∷ 107 ∷ 44 ∷ 32 ∷ 108 ∷ 44 ∷ 32 ∷ 109 ∷ 44 ∷ 32 ∷ 110 ∷ 44 ∷ 32 ∷ 111 ∷ 44 ∷ 32 ∷ 112 ∷ 44 ∷ 32 ∷ 113 ∷ 44 ∷ 32 ∷ 114 ∷ 44 ∷ 32 ∷ 115 ∷ 44 ∷ 32 ∷ 116 ∷ 44 ∷ 32 ∷ 117 ∷ 44 ∷ 32 ∷ 118 ∷ 44 ∷ 32 ∷ 119 ∷ 44 ∷ 32 ∷ 120 ∷ 58 ∷ 32 ∷ 73 ∷ 78 ∷ 84 ∷ 69 ∷ 71 ∷ 69 ∷ 82 ∷ 41 ∷ 59 ∷ 32 ∷ 69 ∷ 78 ∷ 68 ∷ 32 ∷ 80 ∷ 59 ∷ 32 ∷ 69 ∷ 78 ∷ 68 ∷ 32 ∷ 77 ∷ 46 ∷ []); symbols = (symbol (Ident) 0 6 ∷ symbol (Ident) 7 8 ∷ symbol (Ident) 8 9 ∷ symbol (Ident) 10 19 ∷ symbol (Ident) 20 21 ∷ symbol (Ident) 21 22 ∷ symbol (Ident) 22 23 ∷ symbol (Ident) 23 24 ∷ symbol (Ident) 25 26 ∷ symbol (Ident) 26 27 ∷ symbol (Ident) 28 29 ∷ symbol (Ident) 29 30 ∷ symbol (Ident) 31 32 ∷ symbol (Ident) 32 33 ∷ symbol (Ident) 34 35 ∷ symbol (Ident) 35 36 ∷ symbol (Ident) 37 38 ∷ symbol (Ident) 38 39 ∷ symbol (Ident) 40 41 ∷ symbol (Ident) 41 42 ∷ symbol (Ident) 43 44 ∷ symbol (Ident) 44 45 ∷ symbol (Ident) 46 47 ∷ symbol (Ident) 47 48 ∷ symbol (Ident) 49 50 ∷ symbol (Ident) 50 51 ∷ symbol (Ident) 52 53 ∷ symbol (Ident) 53 54 ∷ symbol (Ident) 55 56 ∷ symbol (Ident) 56 57 ∷ symbol (Ident) 58 59 ∷ symbol (Ident) 59 60 ∷ symbol (Ident) 61 62 ∷ symbol (Ident) 62 63 ∷ symbol (Ident) 64 65 ∷ symbol (Ident) 65 66 ∷ symbol (Ident) 67 68 ∷ symbol (Ident) 68 69 ∷ symbol (Ident) 70 71 ∷ symbol (Ident) 71 72 ∷ symbol (Ident) 73 74 ∷ symbol (Ident) 74 75 ∷ symbol (Ident) 76 77 ∷ symbol (Ident) 77 78 ∷ symbol (Ident) 79 80 ∷ symbol (Ident) 80 81 ∷ symbol (Ident) 82 83 ∷ symbol (Ident) 83 84 ∷ symbol (Ident) 85 86 ∷ symbol (Ident) 86 87 ∷ symbol (Ident) 88 89 ∷ symbol (Ident) 89 90 ∷ symbol (Ident) 91 92 ∷ symbol (Ident) 92 93 ∷ symbol (Ident) 94 101 ∷ symbol (Ident) 101 102 ∷ symbol (Ident) 102 103 ∷ symbol (Ident) 104 107 ∷ symbol (Ident) 108 109 ∷ symbol (Ident) 109 110 ∷ symbol (Ident) 111 114 ∷ symbol (Ident) 115 116 ∷ symbol (Ident) 116 117 ∷ []) }; tree = record { module_word = 0; name = 1; semicolon = 0; imports = None; decls = (S.decls None None None (S.procedure 0 (record { name = 4; star = None }) (Some (record { left_paren = 0; sections = Some (record { first = (record { var_word = None; first = 6; more = (record { comma = 0; name = 8 } ∷ record { comma = 0; name = 10 } ∷ record { comma = 0; name = 12 } ∷ record { comma = 0; name = 14 } ∷ record { comma = 0; name = 16 } ∷ record { comma = 0; name = 18 } ∷ record { comma = 0; name = 20 } ∷ record { comma = 0; name = 22 } ∷ record { comma = 0; name = 24 } ∷ record { comma = 0; name = 26 } ∷ record { comma = 0; name = 28 } ∷ record { comma = 0; name = 30 } ∷ record { comma = 0; name = 32 } ∷ record { comma = 0; name = 34 } ∷ record { comma = 0; name = 36 } ∷ record { comma = 0; name = 38 } ∷ record { comma = 0; name = 40 } ∷ record { comma = 0; name = 42 } ∷ record { comma = 0; name = 44 } ∷ record { comma = 0; name = 46 } ∷ record { comma = 0; name = 48 } ∷ record { comma = 0; name = 50 } ∷ record { comma = 0; name = 52 } ∷ []); colon = 0; open_array = None; of = (record { name = 54; member = None }) }); more = [] }); right_paren = 0; result = None })) 0 (S.decls None None None S.no_procedure) None None 57 58 0 S.no_procedure)); body = None; end_word = 0; end_name = 61; period = 0 } }

pub bad_parameter_42 : checked (bad_parameter_42_0 ∷ []) ≡ Legal (record { records = []; pointers = []; modules = (record { name = (77 ∷ []); objects = (record { name = (80 ∷ []); exported = false; entity = I.OfProcedure 0 } ∷ []); variables = []; body = 1 } ∷ []); procedures = (record { module_number = 0; line = 1; is_body = false; formals = (record { mode = TheMode.Value; variable = false; shape = H.Integer } ∷ record { mode = TheMode.Value; variable = false; shape = H.Integer } ∷ record { mode = TheMode.Value; variable = false; shape = H.Integer } ∷ record { mode = TheMode.Value; variable = false; shape = H.Integer } ∷ record { mode = TheMode.Value; variable = false; shape = H.Integer } ∷ record { mode = TheMode.Value; variable = false; shape = H.Integer } ∷ record { mode = TheMode.Value; variable = false; shape = H.Integer } ∷ record { mode = TheMode.Value; variable = false; shape = H.Integer } ∷ record { mode = TheMode.Value; variable = false; shape = H.Integer } ∷ record { mode = TheMode.Value; variable = false; shape = H.Integer } ∷ record { mode = TheMode.Value; variable = false; shape = H.Integer } ∷ record { mode = TheMode.Value; variable = false; shape = H.Integer } ∷ record { mode = TheMode.Value; variable = false; shape = H.Integer } ∷ record { mode = TheMode.Value; variable = false; shape = H.Integer } ∷ record { mode = TheMode.Value; variable = false; shape = H.Integer } ∷ record { mode = TheMode.Value; variable = false; shape = H.Integer } ∷ record { mode = TheMode.Value; variable = false; shape = H.Integer } ∷ record { mode = TheMode.Value; variable = false; shape = H.Integer } ∷ record { mode = TheMode.Value; variable = false; shape = H.Integer } ∷ record { mode = TheMode.Value; variable = false; shape = H.Integer } ∷ record { mode = TheMode.Value; variable = false; shape = H.Integer } ∷ record { mode = TheMode.Value; variable = false; shape = H.Integer } ∷ record { mode = TheMode.Value; variable = false; shape = H.Integer } ∷ record { mode = TheMode.Value; variable = false; shape = H.Integer } ∷ []); result = H.Nothing; locals = []; texts = []; body = I.no_statement; answer = None } ∷ record { module_number = 0; line = 1; is_body = true; formals = []; result = H.Nothing; locals = []; texts = []; body = I.no_statement; answer = None } ∷ []); imports_in = false })
bad_parameter_42 = refl

-- MODULE M; PROCEDURE P(a, b, c, d, e, f, g, h, i, j, k, l, m: ARRAY OF CHAR); END P; END M.
abbrev bad_parameter_43_0 : Parsed
bad_parameter_43_0 = record { source = record { bytes = (77 ∷ 79 ∷ 68 ∷ 85 ∷ 76 ∷ 69 ∷ 32 ∷ 77 ∷ 59 ∷ 32 ∷ 80 ∷ 82 ∷ 79 ∷ 67 ∷ 69 ∷ 68 ∷ 85 ∷ 82 ∷ 69 ∷ 32 ∷ 80 ∷ 40 ∷ 97 ∷ 44 ∷ 32 ∷ 98 ∷ 44 ∷ 32 ∷ 99 ∷ 44 ∷ 32 ∷ 100 ∷ 44 ∷ 32 ∷ 101 ∷ 44 ∷ 32 ∷ 102 ∷ 44 ∷ 32 ∷ 103 ∷ 44 ∷ 32 ∷ 104 ∷ 44 ∷ 32 ∷ 105 ∷ 44 ∷ 32 ∷ 106 ∷ 44 ∷ 32 ∷ 107 ∷ 44 ∷ 32 ∷ 108 ∷ 44 ∷ 32 ∷ 109 ∷ 58 ∷ 32 ∷ 65 ∷ 82 ∷ 82 ∷ 65 ∷ 89 ∷ 32 ∷ 79 ∷ 70 ∷ 32 ∷ 67 ∷ 72 ∷ 65 ∷ 82 ∷ 41 ∷ 59 ∷ 32 ∷ 69 ∷ 78 ∷ 68 ∷ 32 ∷ 80 ∷ 59 ∷ 32 ∷ 69 ∷ 78 ∷ 68 ∷ 32 ∷ 77 ∷ 46 ∷ []); symbols = (symbol (Ident) 0 6 ∷ symbol (Ident) 7 8 ∷ symbol (Ident) 8 9 ∷ symbol (Ident) 10 19 ∷ symbol (Ident) 20 21 ∷ symbol (Ident) 21 22 ∷ symbol (Ident) 22 23 ∷ symbol (Ident) 23 24 ∷ symbol (Ident) 25 26 ∷ symbol (Ident) 26 27 ∷ symbol (Ident) 28 29 ∷ symbol (Ident) 29 30 ∷ symbol (Ident) 31 32 ∷ symbol (Ident) 32 33 ∷ symbol (Ident) 34 35 ∷ symbol (Ident) 35 36 ∷ symbol (Ident) 37 38 ∷ symbol (Ident) 38 39 ∷ symbol (Ident) 40 41 ∷ symbol (Ident) 41 42 ∷ symbol (Ident) 43 44 ∷ symbol (Ident) 44 45 ∷ symbol (Ident) 46 47 ∷ symbol (Ident) 47 48 ∷ symbol (Ident) 49 50 ∷ symbol (Ident) 50 51 ∷ symbol (Ident) 52 53 ∷ symbol (Ident) 53 54 ∷ symbol (Ident) 55 56 ∷ symbol (Ident) 56 57 ∷ symbol (Ident) 58 59 ∷ symbol (Ident) 59 60 ∷ symbol (Ident) 61 66 ∷ symbol (Ident) 67 69 ∷ symbol (Ident) 70 74 ∷ symbol (Ident) 74 75 ∷ symbol (Ident) 75 76 ∷ symbol (Ident) 77 80 ∷ symbol (Ident) 81 82 ∷ symbol (Ident) 82 83 ∷ symbol (Ident) 84 87 ∷ symbol (Ident) 88 89 ∷ symbol (Ident) 89 90 ∷ []) }; tree = record { module_word = 0; name = 1; semicolon = 0; imports = None; decls = (S.decls None None None (S.procedure 0 (record { name = 4; star = None }) (Some (record { left_paren = 0; sections = Some (record { first = (record { var_word = None; first = 6; more = (record { comma = 0; name = 8 } ∷ record { comma = 0; name = 10 } ∷ record { comma = 0; name = 12 } ∷ record { comma = 0; name = 14 } ∷ record { comma = 0; name = 16 } ∷ record { comma = 0; name = 18 } ∷ record { comma = 0; name = 20 } ∷ record { comma = 0; name = 22 } ∷ record { comma = 0; name = 24 } ∷ record { comma = 0; name = 26 } ∷ record { comma = 0; name = 28 } ∷ record { comma = 0; name = 30 } ∷ []); colon = 0; open_array = Some (record { array_word = 0; of_word = 0 }); of = (record { name = 34; member = None }) }); more = [] }); right_paren = 0; result = None })) 0 (S.decls None None None S.no_procedure) None None 37 38 0 S.no_procedure)); body = None; end_word = 0; end_name = 41; period = 0 } }

pub bad_parameter_43 : checked (bad_parameter_43_0 ∷ []) ≡ Fault 0 40 58
bad_parameter_43 = refl

-- MODULE M; TYPE R = RECORD END; F = PROCEDURE (VAR a, b, c, d, e, f, g, h, i, j, k, l, m: R); END M.
abbrev bad_parameter_44_0 : Parsed
bad_parameter_44_0 = record { source = record { bytes = (77 ∷ 79 ∷ 68 ∷ 85 ∷ 76 ∷ 69 ∷ 32 ∷ 77 ∷ 59 ∷ 32 ∷ 84 ∷ 89 ∷ 80 ∷ 69 ∷ 32 ∷ 82 ∷ 32 ∷ 61 ∷ 32 ∷ 82 ∷ 69 ∷ 67 ∷ 79 ∷ 82 ∷ 68 ∷ 32 ∷ 69 ∷ 78 ∷ 68 ∷ 59 ∷ 32 ∷ 70 ∷ 32 ∷ 61 ∷ 32 ∷ 80 ∷ 82 ∷ 79 ∷ 67 ∷ 69 ∷ 68 ∷ 85 ∷ 82 ∷ 69 ∷ 32 ∷ 40 ∷ 86 ∷ 65 ∷ 82 ∷ 32 ∷ 97 ∷ 44 ∷ 32 ∷ 98 ∷ 44 ∷ 32 ∷ 99 ∷ 44 ∷ 32 ∷ 100 ∷ 44 ∷ 32 ∷ 101 ∷ 44 ∷ 32 ∷ 102 ∷ 44 ∷ 32 ∷ 103 ∷ 44 ∷ 32 ∷ 104 ∷ 44 ∷ 32 ∷ 105 ∷ 44 ∷ 32 ∷ 106 ∷ 44 ∷ 32 ∷ 107 ∷ 44 ∷ 32 ∷ 108 ∷ 44 ∷ 32 ∷ 109 ∷ 58 ∷ 32 ∷ 82 ∷ 41 ∷ 59 ∷ 32 ∷ 69 ∷ 78 ∷ 68 ∷ 32 ∷ 77 ∷ 46 ∷ []); symbols = (symbol (Ident) 0 6 ∷ symbol (Ident) 7 8 ∷ symbol (Ident) 8 9 ∷ symbol (Ident) 10 14 ∷ symbol (Ident) 15 16 ∷ symbol (Ident) 17 18 ∷ symbol (Ident) 19 25 ∷ symbol (Ident) 26 29 ∷ symbol (Ident) 29 30 ∷ symbol (Ident) 31 32 ∷ symbol (Ident) 33 34 ∷ symbol (Ident) 35 44 ∷ symbol (Ident) 45 46 ∷ symbol (Ident) 46 49 ∷ symbol (Ident) 50 51 ∷ symbol (Ident) 51 52 ∷ symbol (Ident) 53 54 ∷ symbol (Ident) 54 55 ∷ symbol (Ident) 56 57 ∷ symbol (Ident) 57 58 ∷ symbol (Ident) 59 60 ∷ symbol (Ident) 60 61 ∷ symbol (Ident) 62 63 ∷ symbol (Ident) 63 64 ∷ symbol (Ident) 65 66 ∷ symbol (Ident) 66 67 ∷ symbol (Ident) 68 69 ∷ symbol (Ident) 69 70 ∷ symbol (Ident) 71 72 ∷ symbol (Ident) 72 73 ∷ symbol (Ident) 74 75 ∷ symbol (Ident) 75 76 ∷ symbol (Ident) 77 78 ∷ symbol (Ident) 78 79 ∷ symbol (Ident) 80 81 ∷ symbol (Ident) 81 82 ∷ symbol (Ident) 83 84 ∷ symbol (Ident) 84 85 ∷ symbol (Ident) 86 87 ∷ symbol (Ident) 87 88 ∷ symbol (Ident) 89 90 ∷ symbol (Ident) 90 91 ∷ symbol (Ident) 91 92 ∷ symbol (Ident) 93 96 ∷ symbol (Ident) 97 98 ∷ symbol (Ident) 98 99 ∷ []) }; tree = record { module_word = 0; name = 1; semicolon = 0; imports = None; decls = (S.decls None (Some (record { type_word = 0; each = (record { name = (record { name = 4; star = None }); equal = 0; is = (S.Record 6 None S.no_fields S.no_more_fields 0); semicolon = 0 } ∷ record { name = (record { name = 9; star = None }); equal = 0; is = (S.Procedure 11 (Some (record { left_paren = 0; sections = Some (record { first = (record { var_word = Some 0; first = 14; more = (record { comma = 0; name = 16 } ∷ record { comma = 0; name = 18 } ∷ record { comma = 0; name = 20 } ∷ record { comma = 0; name = 22 } ∷ record { comma = 0; name = 24 } ∷ record { comma = 0; name = 26 } ∷ record { comma = 0; name = 28 } ∷ record { comma = 0; name = 30 } ∷ record { comma = 0; name = 32 } ∷ record { comma = 0; name = 34 } ∷ record { comma = 0; name = 36 } ∷ record { comma = 0; name = 38 } ∷ []); colon = 0; open_array = None; of = (record { name = 40; member = None }) }); more = [] }); right_paren = 0; result = None }))); semicolon = 0 } ∷ []) })) None S.no_procedure); body = None; end_word = 0; end_name = 44; period = 0 } }

pub bad_parameter_44 : checked (bad_parameter_44_0 ∷ []) ≡ Fault 0 40 86
bad_parameter_44 = refl

-- MODULE M; TYPE R = RECORD END; F = PROCEDURE (VAR a, b, c, d, e, f, g, h, i, j, k, l: R); END M.
abbrev bad_parameter_45_0 : Parsed
bad_parameter_45_0 = record { source = record { bytes = (77 ∷ 79 ∷ 68 ∷ 85 ∷ 76 ∷ 69 ∷ 32 ∷ 77 ∷ 59 ∷ 32 ∷ 84 ∷ 89 ∷ 80 ∷ 69 ∷ 32 ∷ 82 ∷ 32 ∷ 61 ∷ 32 ∷ 82 ∷ 69 ∷ 67 ∷ 79 ∷ 82 ∷ 68 ∷ 32 ∷ 69 ∷ 78 ∷ 68 ∷ 59 ∷ 32 ∷ 70 ∷ 32 ∷ 61 ∷ 32 ∷ 80 ∷ 82 ∷ 79 ∷ 67 ∷ 69 ∷ 68 ∷ 85 ∷ 82 ∷ 69 ∷ 32 ∷ 40 ∷ 86 ∷ 65 ∷ 82 ∷ 32 ∷ 97 ∷ 44 ∷ 32 ∷ 98 ∷ 44 ∷ 32 ∷ 99 ∷ 44 ∷ 32 ∷ 100 ∷ 44 ∷ 32 ∷ 101 ∷ 44 ∷ 32 ∷ 102 ∷ 44 ∷ 32 ∷ 103 ∷ 44 ∷ 32 ∷ 104 ∷ 44 ∷ 32 ∷ 105 ∷ 44 ∷ 32 ∷ 106 ∷ 44 ∷ 32 ∷ 107 ∷ 44 ∷ 32 ∷ 108 ∷ 58 ∷ 32 ∷ 82 ∷ 41 ∷ 59 ∷ 32 ∷ 69 ∷ 78 ∷ 68 ∷ 32 ∷ 77 ∷ 46 ∷ []); symbols = (symbol (Ident) 0 6 ∷ symbol (Ident) 7 8 ∷ symbol (Ident) 8 9 ∷ symbol (Ident) 10 14 ∷ symbol (Ident) 15 16 ∷ symbol (Ident) 17 18 ∷ symbol (Ident) 19 25 ∷ symbol (Ident) 26 29 ∷ symbol (Ident) 29 30 ∷ symbol (Ident) 31 32 ∷ symbol (Ident) 33 34 ∷ symbol (Ident) 35 44 ∷ symbol (Ident) 45 46 ∷ symbol (Ident) 46 49 ∷ symbol (Ident) 50 51 ∷ symbol (Ident) 51 52 ∷ symbol (Ident) 53 54 ∷ symbol (Ident) 54 55 ∷ symbol (Ident) 56 57 ∷ symbol (Ident) 57 58 ∷ symbol (Ident) 59 60 ∷ symbol (Ident) 60 61 ∷ symbol (Ident) 62 63 ∷ symbol (Ident) 63 64 ∷ symbol (Ident) 65 66 ∷ symbol (Ident) 66 67 ∷ symbol (Ident) 68 69 ∷ symbol (Ident) 69 70 ∷ symbol (Ident) 71 72 ∷ symbol (Ident) 72 73 ∷ symbol (Ident) 74 75 ∷ symbol (Ident) 75 76 ∷ symbol (Ident) 77 78 ∷ symbol (Ident) 78 79 ∷ symbol (Ident) 80 81 ∷ symbol (Ident) 81 82 ∷ symbol (Ident) 83 84 ∷ symbol (Ident) 84 85 ∷ symbol (Ident) 86 87 ∷ symbol (Ident) 87 88 ∷ symbol (Ident) 88 89 ∷ symbol (Ident) 90 93 ∷ symbol (Ident) 94 95 ∷ symbol (Ident) 95 96 ∷ []) }; tree = record { module_word = 0; name = 1; semicolon = 0; imports = None; decls = (S.decls None (Some (record { type_word = 0; each = (record { name = (record { name = 4; star = None }); equal = 0; is = (S.Record 6 None S.no_fields S.no_more_fields 0); semicolon = 0 } ∷ record { name = (record { name = 9; star = None }); equal = 0; is = (S.Procedure 11 (Some (record { left_paren = 0; sections = Some (record { first = (record { var_word = Some 0; first = 14; more = (record { comma = 0; name = 16 } ∷ record { comma = 0; name = 18 } ∷ record { comma = 0; name = 20 } ∷ record { comma = 0; name = 22 } ∷ record { comma = 0; name = 24 } ∷ record { comma = 0; name = 26 } ∷ record { comma = 0; name = 28 } ∷ record { comma = 0; name = 30 } ∷ record { comma = 0; name = 32 } ∷ record { comma = 0; name = 34 } ∷ record { comma = 0; name = 36 } ∷ []); colon = 0; open_array = None; of = (record { name = 38; member = None }) }); more = [] }); right_paren = 0; result = None }))); semicolon = 0 } ∷ []) })) None S.no_procedure); body = None; end_word = 0; end_name = 42; period = 0 } }

pub bad_parameter_45 : checked (bad_parameter_45_0 ∷ []) ≡ Legal (record { records = (record { module_number = 0; base = None; level = 0; fields = []; cells = 0; extent = record { bytes = 0; wide = false } } ∷ []); pointers = []; modules = (record { name = (77 ∷ []); objects = (record { name = (82 ∷ []); exported = false; entity = I.OfType (H.Record 0) } ∷ record { name = (70 ∷ []); exported = false; entity = I.OfType (H.Procedure (H.one true (H.Record 0) (H.one true (H.Record 0) (H.one true (H.Record 0) (H.one true (H.Record 0) (H.one true (H.Record 0) (H.one true (H.Record 0) (H.one true (H.Record 0) (H.one true (H.Record 0) (H.one true (H.Record 0) (H.one true (H.Record 0) (H.one true (H.Record 0) (H.one true (H.Record 0) H.none)))))))))))) H.Nothing) } ∷ []); variables = []; body = 0 } ∷ []); procedures = (record { module_number = 0; line = 1; is_body = true; formals = []; result = H.Nothing; locals = []; texts = []; body = I.no_statement; answer = None } ∷ []); imports_in = false })
bad_parameter_45 = refl

-- MODULE M; TYPE R = RECORD END; F = PROCEDURE (a, b, c, d, e, f, g, h, i, j, k, l, m: R); END M.
abbrev bad_parameter_46_0 : Parsed
bad_parameter_46_0 = record { source = record { bytes = (77 ∷ 79 ∷ 68 ∷ 85 ∷ 76 ∷ 69 ∷ 32 ∷ 77 ∷ 59 ∷ 32 ∷ 84 ∷ 89 ∷ 80 ∷ 69 ∷ 32 ∷ 82 ∷ 32 ∷ 61 ∷ 32 ∷ 82 ∷ 69 ∷ 67 ∷ 79 ∷ 82 ∷ 68 ∷ 32 ∷ 69 ∷ 78 ∷ 68 ∷ 59 ∷ 32 ∷ 70 ∷ 32 ∷ 61 ∷ 32 ∷ 80 ∷ 82 ∷ 79 ∷ 67 ∷ 69 ∷ 68 ∷ 85 ∷ 82 ∷ 69 ∷ 32 ∷ 40 ∷ 97 ∷ 44 ∷ 32 ∷ 98 ∷ 44 ∷ 32 ∷ 99 ∷ 44 ∷ 32 ∷ 100 ∷ 44 ∷ 32 ∷ 101 ∷ 44 ∷ 32 ∷ 102 ∷ 44 ∷ 32 ∷ 103 ∷ 44 ∷ 32 ∷ 104 ∷ 44 ∷ 32 ∷ 105 ∷ 44 ∷ 32 ∷ 106 ∷ 44 ∷ 32 ∷ 107 ∷ 44 ∷ 32 ∷ 108 ∷ 44 ∷ 32 ∷ 109 ∷ 58 ∷ 32 ∷ 82 ∷ 41 ∷ 59 ∷ 32 ∷ 69 ∷ 78 ∷ 68 ∷ 32 ∷ 77 ∷ 46 ∷ []); symbols = (symbol (Ident) 0 6 ∷ symbol (Ident) 7 8 ∷ symbol (Ident) 8 9 ∷ symbol (Ident) 10 14 ∷ symbol (Ident) 15 16 ∷ symbol (Ident) 17 18 ∷ symbol (Ident) 19 25 ∷ symbol (Ident) 26 29 ∷ symbol (Ident) 29 30 ∷ symbol (Ident) 31 32 ∷ symbol (Ident) 33 34 ∷ symbol (Ident) 35 44 ∷ symbol (Ident) 45 46 ∷ symbol (Ident) 46 47 ∷ symbol (Ident) 47 48 ∷ symbol (Ident) 49 50 ∷ symbol (Ident) 50 51 ∷ symbol (Ident) 52 53 ∷ symbol (Ident) 53 54 ∷ symbol (Ident) 55 56 ∷ symbol (Ident) 56 57 ∷ symbol (Ident) 58 59 ∷ symbol (Ident) 59 60 ∷ symbol (Ident) 61 62 ∷ symbol (Ident) 62 63 ∷ symbol (Ident) 64 65 ∷ symbol (Ident) 65 66 ∷ symbol (Ident) 67 68 ∷ symbol (Ident) 68 69 ∷ symbol (Ident) 70 71 ∷ symbol (Ident) 71 72 ∷ symbol (Ident) 73 74 ∷ symbol (Ident) 74 75 ∷ symbol (Ident) 76 77 ∷ symbol (Ident) 77 78 ∷ symbol (Ident) 79 80 ∷ symbol (Ident) 80 81 ∷ symbol (Ident) 82 83 ∷ symbol (Ident) 83 84 ∷ symbol (Ident) 85 86 ∷ symbol (Ident) 86 87 ∷ symbol (Ident) 87 88 ∷ symbol (Ident) 89 92 ∷ symbol (Ident) 93 94 ∷ symbol (Ident) 94 95 ∷ []) }; tree = record { module_word = 0; name = 1; semicolon = 0; imports = None; decls = (S.decls None (Some (record { type_word = 0; each = (record { name = (record { name = 4; star = None }); equal = 0; is = (S.Record 6 None S.no_fields S.no_more_fields 0); semicolon = 0 } ∷ record { name = (record { name = 9; star = None }); equal = 0; is = (S.Procedure 11 (Some (record { left_paren = 0; sections = Some (record { first = (record { var_word = None; first = 13; more = (record { comma = 0; name = 15 } ∷ record { comma = 0; name = 17 } ∷ record { comma = 0; name = 19 } ∷ record { comma = 0; name = 21 } ∷ record { comma = 0; name = 23 } ∷ record { comma = 0; name = 25 } ∷ record { comma = 0; name = 27 } ∷ record { comma = 0; name = 29 } ∷ record { comma = 0; name = 31 } ∷ record { comma = 0; name = 33 } ∷ record { comma = 0; name = 35 } ∷ record { comma = 0; name = 37 } ∷ []); colon = 0; open_array = None; of = (record { name = 39; member = None }) }); more = [] }); right_paren = 0; result = None }))); semicolon = 0 } ∷ []) })) None S.no_procedure); body = None; end_word = 0; end_name = 43; period = 0 } }

pub bad_parameter_46 : checked (bad_parameter_46_0 ∷ []) ≡ Legal (record { records = (record { module_number = 0; base = None; level = 0; fields = []; cells = 0; extent = record { bytes = 0; wide = false } } ∷ []); pointers = []; modules = (record { name = (77 ∷ []); objects = (record { name = (82 ∷ []); exported = false; entity = I.OfType (H.Record 0) } ∷ record { name = (70 ∷ []); exported = false; entity = I.OfType (H.Procedure (H.one false (H.Record 0) (H.one false (H.Record 0) (H.one false (H.Record 0) (H.one false (H.Record 0) (H.one false (H.Record 0) (H.one false (H.Record 0) (H.one false (H.Record 0) (H.one false (H.Record 0) (H.one false (H.Record 0) (H.one false (H.Record 0) (H.one false (H.Record 0) (H.one false (H.Record 0) (H.one false (H.Record 0) H.none))))))))))))) H.Nothing) } ∷ []); variables = []; body = 0 } ∷ []); procedures = (record { module_number = 0; line = 1; is_body = true; formals = []; result = H.Nothing; locals = []; texts = []; body = I.no_statement; answer = None } ∷ []); imports_in = false })
bad_parameter_46 = refl

-- MODULE M; PROCEDURE P(): INTEGER; END P; END M.
abbrev missing_return_1_0 : Parsed
missing_return_1_0 = record { source = record { bytes = (77 ∷ 79 ∷ 68 ∷ 85 ∷ 76 ∷ 69 ∷ 32 ∷ 77 ∷ 59 ∷ 32 ∷ 80 ∷ 82 ∷ 79 ∷ 67 ∷ 69 ∷ 68 ∷ 85 ∷ 82 ∷ 69 ∷ 32 ∷ 80 ∷ 40 ∷ 41 ∷ 58 ∷ 32 ∷ 73 ∷ 78 ∷ 84 ∷ 69 ∷ 71 ∷ 69 ∷ 82 ∷ 59 ∷ 32 ∷ 69 ∷ 78 ∷ 68 ∷ 32 ∷ 80 ∷ 59 ∷ 32 ∷ 69 ∷ 78 ∷ 68 ∷ 32 ∷ 77 ∷ 46 ∷ []); symbols = (symbol (Ident) 0 6 ∷ symbol (Ident) 7 8 ∷ symbol (Ident) 8 9 ∷ symbol (Ident) 10 19 ∷ symbol (Ident) 20 21 ∷ symbol (Ident) 21 22 ∷ symbol (Ident) 22 23 ∷ symbol (Ident) 23 24 ∷ symbol (Ident) 25 32 ∷ symbol (Ident) 32 33 ∷ symbol (Ident) 34 37 ∷ symbol (Ident) 38 39 ∷ symbol (Ident) 39 40 ∷ symbol (Ident) 41 44 ∷ symbol (Ident) 45 46 ∷ symbol (Ident) 46 47 ∷ []) }; tree = record { module_word = 0; name = 1; semicolon = 0; imports = None; decls = (S.decls None None None (S.procedure 0 (record { name = 4; star = None }) (Some (record { left_paren = 0; sections = None; right_paren = 0; result = Some (record { colon = 0; name = (record { name = 8; member = None }) }) })) 0 (S.decls None None None S.no_procedure) None None 10 11 0 S.no_procedure)); body = None; end_word = 0; end_name = 14; period = 0 } }

pub missing_return_1 : checked (missing_return_1_0 ∷ []) ≡ Fault 0 41 34
missing_return_1 = refl

-- MODULE M; PROCEDURE P(): INTEGER; END Q; END M.
abbrev missing_return_2_0 : Parsed
missing_return_2_0 = record { source = record { bytes = (77 ∷ 79 ∷ 68 ∷ 85 ∷ 76 ∷ 69 ∷ 32 ∷ 77 ∷ 59 ∷ 32 ∷ 80 ∷ 82 ∷ 79 ∷ 67 ∷ 69 ∷ 68 ∷ 85 ∷ 82 ∷ 69 ∷ 32 ∷ 80 ∷ 40 ∷ 41 ∷ 58 ∷ 32 ∷ 73 ∷ 78 ∷ 84 ∷ 69 ∷ 71 ∷ 69 ∷ 82 ∷ 59 ∷ 32 ∷ 69 ∷ 78 ∷ 68 ∷ 32 ∷ 81 ∷ 59 ∷ 32 ∷ 69 ∷ 78 ∷ 68 ∷ 32 ∷ 77 ∷ 46 ∷ []); symbols = (symbol (Ident) 0 6 ∷ symbol (Ident) 7 8 ∷ symbol (Ident) 8 9 ∷ symbol (Ident) 10 19 ∷ symbol (Ident) 20 21 ∷ symbol (Ident) 21 22 ∷ symbol (Ident) 22 23 ∷ symbol (Ident) 23 24 ∷ symbol (Ident) 25 32 ∷ symbol (Ident) 32 33 ∷ symbol (Ident) 34 37 ∷ symbol (Ident) 38 39 ∷ symbol (Ident) 39 40 ∷ symbol (Ident) 41 44 ∷ symbol (Ident) 45 46 ∷ symbol (Ident) 46 47 ∷ []) }; tree = record { module_word = 0; name = 1; semicolon = 0; imports = None; decls = (S.decls None None None (S.procedure 0 (record { name = 4; star = None }) (Some (record { left_paren = 0; sections = None; right_paren = 0; result = Some (record { colon = 0; name = (record { name = 8; member = None }) }) })) 0 (S.decls None None None S.no_procedure) None None 10 11 0 S.no_procedure)); body = None; end_word = 0; end_name = 14; period = 0 } }

pub missing_return_2 : checked (missing_return_2_0 ∷ []) ≡ Fault 0 41 34
missing_return_2 = refl

-- MODULE M; PROCEDURE P; RETURN 1 END P; END M.
abbrev missing_return_3_0 : Parsed
missing_return_3_0 = record { source = record { bytes = (77 ∷ 79 ∷ 68 ∷ 85 ∷ 76 ∷ 69 ∷ 32 ∷ 77 ∷ 59 ∷ 32 ∷ 80 ∷ 82 ∷ 79 ∷ 67 ∷ 69 ∷ 68 ∷ 85 ∷ 82 ∷ 69 ∷ 32 ∷ 80 ∷ 59 ∷ 32 ∷ 82 ∷ 69 ∷ 84 ∷ 85 ∷ 82 ∷ 78 ∷ 32 ∷ 49 ∷ 32 ∷ 69 ∷ 78 ∷ 68 ∷ 32 ∷ 80 ∷ 59 ∷ 32 ∷ 69 ∷ 78 ∷ 68 ∷ 32 ∷ 77 ∷ 46 ∷ []); symbols = (symbol (Ident) 0 6 ∷ symbol (Ident) 7 8 ∷ symbol (Ident) 8 9 ∷ symbol (Ident) 10 19 ∷ symbol (Ident) 20 21 ∷ symbol (Ident) 21 22 ∷ symbol (Ident) 23 29 ∷ symbol (Int (pos 1)) 30 31 ∷ symbol (Ident) 32 35 ∷ symbol (Ident) 36 37 ∷ symbol (Ident) 37 38 ∷ symbol (Ident) 39 42 ∷ symbol (Ident) 43 44 ∷ symbol (Ident) 44 45 ∷ []) }; tree = record { module_word = 0; name = 1; semicolon = 0; imports = None; decls = (S.decls None None None (S.procedure 0 (record { name = 4; star = None }) None 0 (S.decls None None None S.no_procedure) None (Some (record { return_word = 6; value = (S.only (S.simple None (S.term (S.Int 7) S.no_factor) S.no_term)) })) 8 9 0 S.no_procedure)); body = None; end_word = 0; end_name = 12; period = 0 } }

pub missing_return_3 : checked (missing_return_3_0 ∷ []) ≡ Fault 0 41 23
missing_return_3 = refl

-- MODULE M; PROCEDURE P; RETURN x END P; END M.
abbrev missing_return_4_0 : Parsed
missing_return_4_0 = record { source = record { bytes = (77 ∷ 79 ∷ 68 ∷ 85 ∷ 76 ∷ 69 ∷ 32 ∷ 77 ∷ 59 ∷ 32 ∷ 80 ∷ 82 ∷ 79 ∷ 67 ∷ 69 ∷ 68 ∷ 85 ∷ 82 ∷ 69 ∷ 32 ∷ 80 ∷ 59 ∷ 32 ∷ 82 ∷ 69 ∷ 84 ∷ 85 ∷ 82 ∷ 78 ∷ 32 ∷ 120 ∷ 32 ∷ 69 ∷ 78 ∷ 68 ∷ 32 ∷ 80 ∷ 59 ∷ 32 ∷ 69 ∷ 78 ∷ 68 ∷ 32 ∷ 77 ∷ 46 ∷ []); symbols = (symbol (Ident) 0 6 ∷ symbol (Ident) 7 8 ∷ symbol (Ident) 8 9 ∷ symbol (Ident) 10 19 ∷ symbol (Ident) 20 21 ∷ symbol (Ident) 21 22 ∷ symbol (Ident) 23 29 ∷ symbol (Ident) 30 31 ∷ symbol (Ident) 32 35 ∷ symbol (Ident) 36 37 ∷ symbol (Ident) 37 38 ∷ symbol (Ident) 39 42 ∷ symbol (Ident) 43 44 ∷ symbol (Ident) 44 45 ∷ []) }; tree = record { module_word = 0; name = 1; semicolon = 0; imports = None; decls = (S.decls None None None (S.procedure 0 (record { name = 4; star = None }) None 0 (S.decls None None None S.no_procedure) None (Some (record { return_word = 6; value = (S.only (S.simple None (S.term (S.Designated 7 S.no_selector) S.no_factor) S.no_term)) })) 8 9 0 S.no_procedure)); body = None; end_word = 0; end_name = 12; period = 0 } }

pub missing_return_4 : checked (missing_return_4_0 ∷ []) ≡ Fault 0 30 30
missing_return_4 = refl

-- MODULE M; PROCEDURE P(); RETURN 1 DIV 0 END P; END M.
abbrev missing_return_5_0 : Parsed
missing_return_5_0 = record { source = record { bytes = (77 ∷ 79 ∷ 68 ∷ 85 ∷ 76 ∷ 69 ∷ 32 ∷ 77 ∷ 59 ∷ 32 ∷ 80 ∷ 82 ∷ 79 ∷ 67 ∷ 69 ∷ 68 ∷ 85 ∷ 82 ∷ 69 ∷ 32 ∷ 80 ∷ 40 ∷ 41 ∷ 59 ∷ 32 ∷ 82 ∷ 69 ∷ 84 ∷ 85 ∷ 82 ∷ 78 ∷ 32 ∷ 49 ∷ 32 ∷ 68 ∷ 73 ∷ 86 ∷ 32 ∷ 48 ∷ 32 ∷ 69 ∷ 78 ∷ 68 ∷ 32 ∷ 80 ∷ 59 ∷ 32 ∷ 69 ∷ 78 ∷ 68 ∷ 32 ∷ 77 ∷ 46 ∷ []); symbols = (symbol (Ident) 0 6 ∷ symbol (Ident) 7 8 ∷ symbol (Ident) 8 9 ∷ symbol (Ident) 10 19 ∷ symbol (Ident) 20 21 ∷ symbol (Ident) 21 22 ∷ symbol (Ident) 22 23 ∷ symbol (Ident) 23 24 ∷ symbol (Ident) 25 31 ∷ symbol (Int (pos 1)) 32 33 ∷ symbol (Ident) 34 37 ∷ symbol (Int (pos 0)) 38 39 ∷ symbol (Ident) 40 43 ∷ symbol (Ident) 44 45 ∷ symbol (Ident) 45 46 ∷ symbol (Ident) 47 50 ∷ symbol (Ident) 51 52 ∷ symbol (Ident) 52 53 ∷ []) }; tree = record { module_word = 0; name = 1; semicolon = 0; imports = None; decls = (S.decls None None None (S.procedure 0 (record { name = 4; star = None }) (Some (record { left_paren = 0; sections = None; right_paren = 0; result = None })) 0 (S.decls None None None S.no_procedure) None (Some (record { return_word = 8; value = (S.only (S.simple None (S.term (S.Int 9) (S.multiplied (TheMulOperator.Div 10) (S.Int 11) S.no_factor)) S.no_term)) })) 12 13 0 S.no_procedure)); body = None; end_word = 0; end_name = 16; period = 0 } }

pub missing_return_5 : checked (missing_return_5_0 ∷ []) ≡ Fault 0 41 25
missing_return_5 = refl

-- MODULE M; PROCEDURE P; RETURN TRUE + 1 END Q; END M.
abbrev missing_return_6_0 : Parsed
missing_return_6_0 = record { source = record { bytes = (77 ∷ 79 ∷ 68 ∷ 85 ∷ 76 ∷ 69 ∷ 32 ∷ 77 ∷ 59 ∷ 32 ∷ 80 ∷ 82 ∷ 79 ∷ 67 ∷ 69 ∷ 68 ∷ 85 ∷ 82 ∷ 69 ∷ 32 ∷ 80 ∷ 59 ∷ 32 ∷ 82 ∷ 69 ∷ 84 ∷ 85 ∷ 82 ∷ 78 ∷ 32 ∷ 84 ∷ 82 ∷ 85 ∷ 69 ∷ 32 ∷ 43 ∷ 32 ∷ 49 ∷ 32 ∷ 69 ∷ 78 ∷ 68 ∷ 32 ∷ 81 ∷ 59 ∷ 32 ∷ 69 ∷ 78 ∷ 68 ∷ 32 ∷ 77 ∷ 46 ∷ []); symbols = (symbol (Ident) 0 6 ∷ symbol (Ident) 7 8 ∷ symbol (Ident) 8 9 ∷ symbol (Ident) 10 19 ∷ symbol (Ident) 20 21 ∷ symbol (Ident) 21 22 ∷ symbol (Ident) 23 29 ∷ symbol (Ident) 30 34 ∷ symbol (Ident) 35 36 ∷ symbol (Int (pos 1)) 37 38 ∷ symbol (Ident) 39 42 ∷ symbol (Ident) 43 44 ∷ symbol (Ident) 44 45 ∷ symbol (Ident) 46 49 ∷ symbol (Ident) 50 51 ∷ symbol (Ident) 51 52 ∷ []) }; tree = record { module_word = 0; name = 1; semicolon = 0; imports = None; decls = (S.decls None None None (S.procedure 0 (record { name = 4; star = None }) None 0 (S.decls None None None S.no_procedure) None (Some (record { return_word = 6; value = (S.only (S.simple None (S.term (S.True 7) S.no_factor) (S.added (TheAddOperator.Plus 8) (S.term (S.Int 9) S.no_factor) S.no_term))) })) 10 11 0 S.no_procedure)); body = None; end_word = 0; end_name = 14; period = 0 } }

pub missing_return_6 : checked (missing_return_6_0 ∷ []) ≡ Fault 0 31 35
missing_return_6 = refl

-- MODULE M; TYPE R = RECORD (INTEGER) x: T END; END M.
abbrev bad_extension_1_0 : Parsed
bad_extension_1_0 = record { source = record { bytes = (77 ∷ 79 ∷ 68 ∷ 85 ∷ 76 ∷ 69 ∷ 32 ∷ 77 ∷ 59 ∷ 32 ∷ 84 ∷ 89 ∷ 80 ∷ 69 ∷ 32 ∷ 82 ∷ 32 ∷ 61 ∷ 32 ∷ 82 ∷ 69 ∷ 67 ∷ 79 ∷ 82 ∷ 68 ∷ 32 ∷ 40 ∷ 73 ∷ 78 ∷ 84 ∷ 69 ∷ 71 ∷ 69 ∷ 82 ∷ 41 ∷ 32 ∷ 120 ∷ 58 ∷ 32 ∷ 84 ∷ 32 ∷ 69 ∷ 78 ∷ 68 ∷ 59 ∷ 32 ∷ 69 ∷ 78 ∷ 68 ∷ 32 ∷ 77 ∷ 46 ∷ []); symbols = (symbol (Ident) 0 6 ∷ symbol (Ident) 7 8 ∷ symbol (Ident) 8 9 ∷ symbol (Ident) 10 14 ∷ symbol (Ident) 15 16 ∷ symbol (Ident) 17 18 ∷ symbol (Ident) 19 25 ∷ symbol (Ident) 26 27 ∷ symbol (Ident) 27 34 ∷ symbol (Ident) 34 35 ∷ symbol (Ident) 36 37 ∷ symbol (Ident) 37 38 ∷ symbol (Ident) 39 40 ∷ symbol (Ident) 41 44 ∷ symbol (Ident) 44 45 ∷ symbol (Ident) 46 49 ∷ symbol (Ident) 50 51 ∷ symbol (Ident) 51 52 ∷ []) }; tree = record { module_word = 0; name = 1; semicolon = 0; imports = None; decls = (S.decls None (Some (record { type_word = 0; each = (record { name = (record { name = 4; star = None }); equal = 0; is = (S.Record 6 (Some (record { left_paren = 0; name = (record { name = 8; member = None }); right_paren = 0 })) (S.fields (record { first = (record { name = 10; star = None }); more = [] }) 0 (S.Named (record { name = 12; member = None }))) S.no_more_fields 0); semicolon = 0 } ∷ []) })) None S.no_procedure); body = None; end_word = 0; end_name = 16; period = 0 } }

pub bad_extension_1 : checked (bad_extension_1_0 ∷ []) ≡ Fault 0 42 27
bad_extension_1 = refl

-- MODULE M; TYPE P = POINTER TO RECORD END; R = RECORD (P) END; END M.
abbrev bad_extension_2_0 : Parsed
bad_extension_2_0 = record { source = record { bytes = (77 ∷ 79 ∷ 68 ∷ 85 ∷ 76 ∷ 69 ∷ 32 ∷ 77 ∷ 59 ∷ 32 ∷ 84 ∷ 89 ∷ 80 ∷ 69 ∷ 32 ∷ 80 ∷ 32 ∷ 61 ∷ 32 ∷ 80 ∷ 79 ∷ 73 ∷ 78 ∷ 84 ∷ 69 ∷ 82 ∷ 32 ∷ 84 ∷ 79 ∷ 32 ∷ 82 ∷ 69 ∷ 67 ∷ 79 ∷ 82 ∷ 68 ∷ 32 ∷ 69 ∷ 78 ∷ 68 ∷ 59 ∷ 32 ∷ 82 ∷ 32 ∷ 61 ∷ 32 ∷ 82 ∷ 69 ∷ 67 ∷ 79 ∷ 82 ∷ 68 ∷ 32 ∷ 40 ∷ 80 ∷ 41 ∷ 32 ∷ 69 ∷ 78 ∷ 68 ∷ 59 ∷ 32 ∷ 69 ∷ 78 ∷ 68 ∷ 32 ∷ 77 ∷ 46 ∷ []); symbols = (symbol (Ident) 0 6 ∷ symbol (Ident) 7 8 ∷ symbol (Ident) 8 9 ∷ symbol (Ident) 10 14 ∷ symbol (Ident) 15 16 ∷ symbol (Ident) 17 18 ∷ symbol (Ident) 19 26 ∷ symbol (Ident) 27 29 ∷ symbol (Ident) 30 36 ∷ symbol (Ident) 37 40 ∷ symbol (Ident) 40 41 ∷ symbol (Ident) 42 43 ∷ symbol (Ident) 44 45 ∷ symbol (Ident) 46 52 ∷ symbol (Ident) 53 54 ∷ symbol (Ident) 54 55 ∷ symbol (Ident) 55 56 ∷ symbol (Ident) 57 60 ∷ symbol (Ident) 60 61 ∷ symbol (Ident) 62 65 ∷ symbol (Ident) 66 67 ∷ symbol (Ident) 67 68 ∷ []) }; tree = record { module_word = 0; name = 1; semicolon = 0; imports = None; decls = (S.decls None (Some (record { type_word = 0; each = (record { name = (record { name = 4; star = None }); equal = 0; is = (S.Pointer 6 0 (S.Record 8 None S.no_fields S.no_more_fields 0)); semicolon = 0 } ∷ record { name = (record { name = 11; star = None }); equal = 0; is = (S.Record 13 (Some (record { left_paren = 0; name = (record { name = 15; member = None }); right_paren = 0 })) S.no_fields S.no_more_fields 0); semicolon = 0 } ∷ []) })) None S.no_procedure); body = None; end_word = 0; end_name = 20; period = 0 } }

pub bad_extension_2 : checked (bad_extension_2_0 ∷ []) ≡ Fault 0 42 54
bad_extension_2 = refl

-- MODULE M; CONST c = 1; TYPE R = RECORD (c) END; END M.
abbrev bad_extension_3_0 : Parsed
bad_extension_3_0 = record { source = record { bytes = (77 ∷ 79 ∷ 68 ∷ 85 ∷ 76 ∷ 69 ∷ 32 ∷ 77 ∷ 59 ∷ 32 ∷ 67 ∷ 79 ∷ 78 ∷ 83 ∷ 84 ∷ 32 ∷ 99 ∷ 32 ∷ 61 ∷ 32 ∷ 49 ∷ 59 ∷ 32 ∷ 84 ∷ 89 ∷ 80 ∷ 69 ∷ 32 ∷ 82 ∷ 32 ∷ 61 ∷ 32 ∷ 82 ∷ 69 ∷ 67 ∷ 79 ∷ 82 ∷ 68 ∷ 32 ∷ 40 ∷ 99 ∷ 41 ∷ 32 ∷ 69 ∷ 78 ∷ 68 ∷ 59 ∷ 32 ∷ 69 ∷ 78 ∷ 68 ∷ 32 ∷ 77 ∷ 46 ∷ []); symbols = (symbol (Ident) 0 6 ∷ symbol (Ident) 7 8 ∷ symbol (Ident) 8 9 ∷ symbol (Ident) 10 15 ∷ symbol (Ident) 16 17 ∷ symbol (Ident) 18 19 ∷ symbol (Int (pos 1)) 20 21 ∷ symbol (Ident) 21 22 ∷ symbol (Ident) 23 27 ∷ symbol (Ident) 28 29 ∷ symbol (Ident) 30 31 ∷ symbol (Ident) 32 38 ∷ symbol (Ident) 39 40 ∷ symbol (Ident) 40 41 ∷ symbol (Ident) 41 42 ∷ symbol (Ident) 43 46 ∷ symbol (Ident) 46 47 ∷ symbol (Ident) 48 51 ∷ symbol (Ident) 52 53 ∷ symbol (Ident) 53 54 ∷ []) }; tree = record { module_word = 0; name = 1; semicolon = 0; imports = None; decls = (S.decls (Some (record { const_word = 0; each = (record { name = (record { name = 4; star = None }); equal = 0; value = (S.only (S.simple None (S.term (S.Int 6) S.no_factor) S.no_term)); semicolon = 0 } ∷ []) })) (Some (record { type_word = 0; each = (record { name = (record { name = 9; star = None }); equal = 0; is = (S.Record 11 (Some (record { left_paren = 0; name = (record { name = 13; member = None }); right_paren = 0 })) S.no_fields S.no_more_fields 0); semicolon = 0 } ∷ []) })) None S.no_procedure); body = None; end_word = 0; end_name = 18; period = 0 } }

pub bad_extension_3 : checked (bad_extension_3_0 ∷ []) ≡ Fault 0 42 40
bad_extension_3 = refl

-- MODULE M; TYPE R0 = RECORD END; R1 = RECORD (R0) END; R2 = RECORD (R1) END; R3 = RECORD (R2) END; R4 = RECORD (R3) END; R5 = RECORD (R4) END; R6 = RECORD (R5) END; R7 = RECORD (R6) END; R8 = RECORD (R7) END; R9 = RECORD (R8) END; R10 = RECORD (R9) END; R11 = RECORD (R10) END; R12 = RECORD (R11) END; R13 = RECORD (R12) END; R14 = RECORD (R13) END; R15 = RECORD (R14) END; R16 = RECORD (R15) END; END M.
abbrev bad_extension_4_0 : Parsed
bad_extension_4_0 = record { source = record { bytes = (77 ∷ 79 ∷ 68 ∷ 85 ∷ 76 ∷ 69 ∷ 32 ∷ 77 ∷ 59 ∷ 32 ∷ 84 ∷ 89 ∷ 80 ∷ 69 ∷ 32 ∷ 82 ∷ 48 ∷ 32 ∷ 61 ∷ 32 ∷ 82 ∷ 69 ∷ 67 ∷ 79 ∷ 82 ∷ 68 ∷ 32 ∷ 69 ∷ 78 ∷ 68 ∷ 59 ∷ 32 ∷ 82 ∷ 49 ∷ 32 ∷ 61 ∷ 32 ∷ 82 ∷ 69 ∷ 67 ∷ 79 ∷ 82 ∷ 68 ∷ 32 ∷ 40 ∷ 82 ∷ 48 ∷ 41 ∷ 32 ∷ 69 ∷ 78 ∷ 68 ∷ 59 ∷ 32 ∷ 82 ∷ 50 ∷ 32 ∷ 61 ∷ 32 ∷ 82 ∷ 69 ∷ 67 ∷ 79 ∷ 82 ∷ 68 ∷ 32 ∷ 40 ∷ 82 ∷ 49 ∷ 41 ∷ 32 ∷ 69 ∷ 78 ∷ 68 ∷ 59 ∷ 32 ∷ 82 ∷ 51 ∷ 32 ∷ 61 ∷ 32 ∷ 82 ∷ 69 ∷ 67 ∷ 79 ∷ 82 ∷ 68 ∷ 32 ∷ 40 ∷ 82 ∷ 50 ∷ 41 ∷ 32 ∷ 69 ∷ 78 ∷ 68 ∷ 59 ∷ 32 ∷ 82 ∷ 52 ∷ 32 ∷ 61 ∷ 32 ∷ 82 ∷ 69 ∷ 67 ∷ 79 ∷ 82 ∷ 68 ∷ 32 ∷ 40 ∷ 82 ∷ 51 ∷ 41 ∷ 32 ∷ 69 ∷ 78 ∷ 68 ∷ 59 ∷ 32 ∷ 82 ∷ 53 ∷ 32 ∷ 61 ∷ 32 ∷ 82 ∷ 69 ∷ 67 ∷ 79 ∷ 82 ∷ 68 ∷ 32 ∷ 40 ∷ 82 ∷ 52 ∷ 41 ∷ 32 ∷ 69 ∷ 78 ∷ 68 ∷ 59 ∷ 32 ∷ 82 ∷ 54 ∷ 32 ∷ 61 ∷ 32 ∷ 82 ∷ 69 ∷ 67 ∷ 79 ∷ 82 ∷ 68 ∷ 32 ∷ 40 ∷ 82 ∷ 53 ∷ 41 ∷ 32 ∷ 69 ∷ 78 ∷ 68 ∷ 59 ∷ 32 ∷ 82 ∷ 55 ∷ 32 ∷ 61 ∷ 32 ∷ 82 ∷ 69 ∷ 67 ∷ 79 ∷ 82 ∷ 68 ∷ 32 ∷ 40 ∷ 82 ∷ 54 ∷ 41 ∷ 32 ∷ 69 ∷ 78 ∷ 68 ∷ 59 ∷ 32 ∷ 82 ∷ 56 ∷ 32 ∷ 61 ∷ 32 ∷ 82 ∷ 69 ∷ 67 ∷ 79 ∷ 82 ∷ 68 ∷ 32 ∷ 40 ∷ 82 ∷ 55 ∷ 41 ∷ 32 ∷ 69 ∷ 78 ∷ 68 ∷ 59 ∷ 32 ∷ 82 ∷ 57 ∷ 32 ∷ 61 ∷ 32 ∷ 82 ∷ 69 ∷ 67 ∷ 79 ∷ 82 ∷ 68 ∷ 32 ∷ 40 ∷ 82 ∷ 56 ∷ 41 ∷ 32 ∷ 69 ∷ 78 ∷ 68 ∷ 59 ∷ 32 ∷ 82 ∷ 49 ∷ 48 ∷ 32 ∷ 61 ∷ 32 ∷ 82 ∷ 69 ∷ 67 ∷ 79 ∷ 82 ∷ 68 ∷ 32 ∷ 40 ∷ 82 ∷ 57 ∷ 41 ∷ 32 ∷ 69 ∷ 78 ∷ 68 ∷ 59 ∷ 32 ∷ 82 ∷ 49 ∷ 49 ∷ 32 ∷ 61 ∷ 32 ∷ 82 ∷ 69 ∷ 67 ∷ 79 ∷ 82 ∷ 68 ∷ 32 ∷ 40 ∷ 82 ∷ 49 ∷ 48 ∷ 41 ∷ 32 ∷ 69 ∷ 78 ∷ 68 ∷ 59 ∷ 32 ∷ 82 ∷ 49 ∷ 50 ∷ 32 ∷ 61 ∷ 32 ∷ 82 ∷ 69 ∷ 67 ∷ 79 ∷ 82 ∷ 68 ∷ 32 ∷ 40 ∷ 82 ∷ 49 ∷ 49 ∷ 41 ∷ 32 ∷ 69 ∷ 78 ∷ 68 ∷ 59 ∷ 32 ∷ 82 ∷ 49 ∷ 51 ∷ 32 ∷ 61 ∷ 32 ∷ 82 ∷ 69 ∷ 67 ∷ 79 ∷ 82 ∷ 68 ∷ 32 ∷ 40 ∷ 82 ∷ 49 ∷ 50 ∷ 41 ∷ 32 ∷ 69 ∷ 78 ∷ 68 ∷ 59 ∷ 32 ∷ 82 ∷ 49 ∷ 52 ∷ 32 ∷ 61 ∷ 32 ∷ 82 ∷ 69 ∷ 67 ∷ 79 ∷ 82 ∷ 68 ∷ 32 ∷ 40 ∷ 82 ∷ 49 ∷ 51 ∷ 41 ∷ 32 ∷ 69 ∷ 78 ∷ 68 ∷ 59 ∷ 32 ∷ 82 ∷ 49 ∷ 53 ∷ 32 ∷ 61 ∷ 32 ∷ 82 ∷ 69 ∷ 67 ∷ 79 ∷ 82 ∷ 68 ∷ 32 ∷ 40 ∷ 82 ∷ 49 ∷ 52 ∷ 41 ∷ 32 ∷ 69 ∷ 78 ∷ 68 ∷ 59 ∷ 32 ∷ 82 ∷ 49 ∷ 54 ∷ 32 ∷ 61 ∷ 32 ∷ 82 ∷ 69 ∷ 67 ∷ 79 ∷ 82 ∷ 68 ∷ 32 ∷ 40 ∷ 82 ∷ 49 ∷ 53 ∷ 41 ∷ 32 ∷ 69 ∷ 78 ∷ 68 ∷ 59 ∷ 32 ∷ 69 ∷ 78 ∷ 68 ∷ 32 ∷ 77 ∷ 46 ∷ []); symbols = (symbol (Ident) 0 6 ∷ symbol (Ident) 7 8 ∷ symbol (Ident) 8 9 ∷ symbol (Ident) 10 14 ∷ symbol (Ident) 15 17 ∷ symbol (Ident) 18 19 ∷ symbol (Ident) 20 26 ∷ symbol (Ident) 27 30 ∷ symbol (Ident) 30 31 ∷ symbol (Ident) 32 34 ∷ symbol (Ident) 35 36 ∷ symbol (Ident) 37 43 ∷ symbol (Ident) 44 45 ∷ symbol (Ident) 45 47 ∷ symbol (Ident) 47 48 ∷ symbol (Ident) 49 52 ∷ symbol (Ident) 52 53 ∷ symbol (Ident) 54 56 ∷ symbol (Ident) 57 58 ∷ symbol (Ident) 59 65 ∷ symbol (Ident) 66 67 ∷ symbol (Ident) 67 69 ∷ symbol (Ident) 69 70 ∷ symbol (Ident) 71 74 ∷ symbol (Ident) 74 75 ∷ symbol (Ident) 76 78 ∷ symbol (Ident) 79 80 ∷ symbol (Ident) 81 87 ∷ symbol (Ident) 88 89 ∷ symbol (Ident) 89 91 ∷ symbol (Ident) 91 92 ∷ symbol (Ident) 93 96 ∷ symbol (Ident) 96 97 ∷ symbol (Ident) 98 100 ∷ symbol (Ident) 101 102 ∷ symbol (Ident) 103 109 ∷ symbol (Ident) 110 111 ∷ symbol (Ident) 111 113 ∷ symbol (Ident) 113 114 ∷ symbol (Ident) 115 118 ∷ symbol (Ident) 118 119 ∷ symbol (Ident) 120 122 ∷ symbol (Ident) 123 124 ∷ symbol (Ident) 125 131 ∷ symbol (Ident) 132 133 ∷ symbol (Ident) 133 135 ∷ symbol (Ident) 135 136 ∷ symbol (Ident) 137 140 ∷ symbol (Ident) 140 141 ∷ symbol (Ident) 142 144 ∷ symbol (Ident) 145 146 ∷ symbol (Ident) 147 153 ∷ symbol (Ident) 154 155 ∷ symbol (Ident) 155 157 ∷ symbol (Ident) 157 158 ∷ symbol (Ident) 159 162 ∷ symbol (Ident) 162 163 ∷ symbol (Ident) 164 166 ∷ symbol (Ident) 167 168 ∷ symbol (Ident) 169 175 ∷ symbol (Ident) 176 177 ∷ symbol (Ident) 177 179 ∷ symbol (Ident) 179 180 ∷ symbol (Ident) 181 184 ∷ symbol (Ident) 184 185 ∷ symbol (Ident) 186 188 ∷ symbol (Ident) 189 190 ∷ symbol (Ident) 191 197 ∷ symbol (Ident) 198 199 ∷ symbol (Ident) 199 201 ∷ symbol (Ident) 201 202 ∷ symbol (Ident) 203 206 ∷ symbol (Ident) 206 207 ∷ symbol (Ident) 208 210 ∷ symbol (Ident) 211 212 ∷ symbol (Ident) 213 219 ∷ symbol (Ident) 220 221 ∷ symbol (Ident) 221 223 ∷ symbol (Ident) 223 224 ∷ symbol (Ident) 225 228 ∷ symbol (Ident) 228 229 ∷ symbol (Ident) 230 233 ∷ symbol (Ident) 234 235 ∷ symbol (Ident) 236 242 ∷ symbol (Ident) 243 244 ∷ symbol (Ident) 244 246 ∷ symbol (Ident) 246 247 ∷ symbol (Ident) 248 251 ∷ symbol (Ident) 251 252 ∷ symbol (Ident) 253 256 ∷ symbol (Ident) 257 258 ∷ symbol (Ident) 259 265 ∷ symbol (Ident) 266 267 ∷ symbol (Ident) 267 270 ∷ symbol (Ident) 270 271 ∷ symbol (Ident) 272 275 ∷ symbol (Ident) 275 276 ∷ symbol (Ident) 277 280 ∷ symbol (Ident) 281 282 ∷ symbol (Ident) 283 289 ∷ symbol (Ident) 290 291 ∷ symbol (Ident) 291 294 ∷ symbol (Ident) 294 295 ∷ symbol (Ident) 296 299 ∷ symbol (Ident) 299 300 ∷ symbol (Ident) 301 304 ∷ symbol (Ident) 305 306 ∷ symbol (Ident) 307 313 ∷ symbol (Ident) 314 315 ∷ symbol (Ident) 315 318 ∷ symbol (Ident) 318 319 ∷ symbol (Ident) 320 323 ∷ symbol (Ident) 323 324 ∷ symbol (Ident) 325 328 ∷ symbol (Ident) 329 330 ∷ symbol (Ident) 331 337 ∷ symbol (Ident) 338 339 ∷ symbol (Ident) 339 342 ∷ symbol (Ident) 342 343 ∷ symbol (Ident) 344 347 ∷ symbol (Ident) 347 348 ∷ symbol (Ident) 349 352 ∷ symbol (Ident) 353 354 ∷ symbol (Ident) 355 361 ∷ symbol (Ident) 362 363 ∷ symbol (Ident) 363 366 ∷ symbol (Ident) 366 367 ∷ symbol (Ident) 368 371 ∷ symbol (Ident) 371 372 ∷ symbol (Ident) 373 376 ∷ symbol (Ident) 377 378 ∷ symbol (Ident) 379 385 ∷ symbol (Ident) 386 387 ∷ symbol (Ident) 387 390 ∷ symbol (Ident) 390 391 ∷ symbol (Ident) 392 395 ∷ symbol (Ident) 395 396 ∷ symbol (Ident) 397 400 ∷ symbol (Ident) 401 402 ∷ symbol (Ident) 402 403 ∷ []) }; tree = record { module_word = 0; name = 1; semicolon = 0; imports = None; decls = (S.decls None (Some (record { type_word = 0; each = (record { name = (record { name = 4; star = None }); equal = 0; is = (S.Record 6 None S.no_fields S.no_more_fields 0); semicolon = 0 } ∷ record { name = (record { name = 9; star = None }); equal = 0; is = (S.Record 11 (Some (record { left_paren = 0; name = (record { name = 13; member = None }); right_paren = 0 })) S.no_fields S.no_more_fields 0); semicolon = 0 } ∷ record { name = (record { name = 17; star = None }); equal = 0; is = (S.Record 19 (Some (record { left_paren = 0; name = (record { name = 21; member = None }); right_paren = 0 })) S.no_fields S.no_more_fields 0); semicolon = 0 } ∷ record { name = (record { name = 25; star = None }); equal = 0; is = (S.Record 27 (Some (record { left_paren = 0; name = (record { name = 29; member = None }); right_paren = 0 })) S.no_fields S.no_more_fields 0); semicolon = 0 } ∷ record { name = (record { name = 33; star = None }); equal = 0; is = (S.Record 35 (Some (record { left_paren = 0; name = (record { name = 37; member = None }); right_paren = 0 })) S.no_fields S.no_more_fields 0); semicolon = 0 } ∷ record { name = (record { name = 41; star = None }); equal = 0; is = (S.Record 43 (Some (record { left_paren = 0; name = (record { name = 45; member = None }); right_paren = 0 })) S.no_fields S.no_more_fields 0); semicolon = 0 } ∷ record { name = (record { name = 49; star = None }); equal = 0; is = (S.Record 51 (Some (record { left_paren = 0; name = (record { name = 53; member = None }); right_paren = 0 })) S.no_fields S.no_more_fields 0); semicolon = 0 } ∷ record { name = (record { name = 57; star = None }); equal = 0; is = (S.Record 59 (Some (record { left_paren = 0; name = (record { name = 61; member = None }); right_paren = 0 })) S.no_fields S.no_more_fields 0); semicolon = 0 } ∷ record { name = (record { name = 65; star = None }); equal = 0; is = (S.Record 67 (Some (record { left_paren = 0; name = (record { name = 69; member = None }); right_paren = 0 })) S.no_fields S.no_more_fields 0); semicolon = 0 } ∷ record { name = (record { name = 73; star = None }); equal = 0; is = (S.Record 75 (Some (record { left_paren = 0; name = (record { name = 77; member = None }); right_paren = 0 })) S.no_fields S.no_more_fields 0); semicolon = 0 } ∷ record { name = (record { name = 81; star = None }); equal = 0; is = (S.Record 83 (Some (record { left_paren = 0; name = (record { name = 85; member = None }); right_paren = 0 })) S.no_fields S.no_more_fields 0); semicolon = 0 } ∷ record { name = (record { name = 89; star = None }); equal = 0; is = (S.Record 91 (Some (record { left_paren = 0; name = (record { name = 93; member = None }); right_paren = 0 })) S.no_fields S.no_more_fields 0); semicolon = 0 } ∷ record { name = (record { name = 97; star = None }); equal = 0; is = (S.Record 99 (Some (record { left_paren = 0; name = (record { name = 101; member = None }); right_paren = 0 })) S.no_fields S.no_more_fields 0); semicolon = 0 } ∷ record { name = (record { name = 105; star = None }); equal = 0; is = (S.Record 107 (Some (record { left_paren = 0; name = (record { name = 109; member = None }); right_paren = 0 })) S.no_fields S.no_more_fields 0); semicolon = 0 } ∷ record { name = (record { name = 113; star = None }); equal = 0; is = (S.Record 115 (Some (record { left_paren = 0; name = (record { name = 117; member = None }); right_paren = 0 })) S.no_fields S.no_more_fields 0); semicolon = 0 } ∷ record { name = (record { name = 121; star = None }); equal = 0; is = (S.Record 123 (Some (record { left_paren = 0; name = (record { name = 125; member = None }); right_paren = 0 })) S.no_fields S.no_more_fields 0); semicolon = 0 } ∷ record { name = (record { name = 129; star = None }); equal = 0; is = (S.Record 131 (Some (record { left_paren = 0; name = (record { name = 133; member = None }); right_paren = 0 })) S.no_fields S.no_more_fields 0); semicolon = 0 } ∷ []) })) None S.no_procedure); body = None; end_word = 0; end_name = 138; period = 0 } }

pub bad_extension_4 : checked (bad_extension_4_0 ∷ []) ≡ Fault 0 42 387
bad_extension_4 = refl

-- MODULE M; TYPE R0 = RECORD END; R1 = RECORD (R0) END; R2 = RECORD (R1) END; R3 = RECORD (R2) END; R4 = RECORD (R3) END; R5 = RECORD (R4) END; R6 = RECORD (R5) END; R7 = RECORD (R6) END; R8 = RECORD (R7) END; R9 = RECORD (R8) END; R10 = RECORD (R9) END; R11 = RECORD (R10) END; R12 = RECORD (R11) END; R13 = RECORD (R12) END; R14 = RECORD (R13) END; R15 = RECORD (R14) END; END M.
abbrev bad_extension_5_0 : Parsed
bad_extension_5_0 = record { source = record { bytes = (77 ∷ 79 ∷ 68 ∷ 85 ∷ 76 ∷ 69 ∷ 32 ∷ 77 ∷ 59 ∷ 32 ∷ 84 ∷ 89 ∷ 80 ∷ 69 ∷ 32 ∷ 82 ∷ 48 ∷ 32 ∷ 61 ∷ 32 ∷ 82 ∷ 69 ∷ 67 ∷ 79 ∷ 82 ∷ 68 ∷ 32 ∷ 69 ∷ 78 ∷ 68 ∷ 59 ∷ 32 ∷ 82 ∷ 49 ∷ 32 ∷ 61 ∷ 32 ∷ 82 ∷ 69 ∷ 67 ∷ 79 ∷ 82 ∷ 68 ∷ 32 ∷ 40 ∷ 82 ∷ 48 ∷ 41 ∷ 32 ∷ 69 ∷ 78 ∷ 68 ∷ 59 ∷ 32 ∷ 82 ∷ 50 ∷ 32 ∷ 61 ∷ 32 ∷ 82 ∷ 69 ∷ 67 ∷ 79 ∷ 82 ∷ 68 ∷ 32 ∷ 40 ∷ 82 ∷ 49 ∷ 41 ∷ 32 ∷ 69 ∷ 78 ∷ 68 ∷ 59 ∷ 32 ∷ 82 ∷ 51 ∷ 32 ∷ 61 ∷ 32 ∷ 82 ∷ 69 ∷ 67 ∷ 79 ∷ 82 ∷ 68 ∷ 32 ∷ 40 ∷ 82 ∷ 50 ∷ 41 ∷ 32 ∷ 69 ∷ 78 ∷ 68 ∷ 59 ∷ 32 ∷ 82 ∷ 52 ∷ 32 ∷ 61 ∷ 32 ∷ 82 ∷ 69 ∷ 67 ∷ 79 ∷ 82 ∷ 68 ∷ 32 ∷ 40 ∷ 82 ∷ 51 ∷ 41 ∷ 32 ∷ 69 ∷ 78 ∷ 68 ∷ 59 ∷ 32 ∷ 82 ∷ 53 ∷ 32 ∷ 61 ∷ 32 ∷ 82 ∷ 69 ∷ 67 ∷ 79 ∷ 82 ∷ 68 ∷ 32 ∷ 40 ∷ 82 ∷ 52 ∷ 41 ∷ 32 ∷ 69 ∷ 78 ∷ 68 ∷ 59 ∷ 32 ∷ 82 ∷ 54 ∷ 32 ∷ 61 ∷ 32 ∷ 82 ∷ 69 ∷ 67 ∷ 79 ∷ 82 ∷ 68 ∷ 32 ∷ 40 ∷ 82 ∷ 53 ∷ 41 ∷ 32 ∷ 69 ∷ 78 ∷ 68 ∷ 59 ∷ 32 ∷ 82 ∷ 55 ∷ 32 ∷ 61 ∷ 32 ∷ 82 ∷ 69 ∷ 67 ∷ 79 ∷ 82 ∷ 68 ∷ 32 ∷ 40 ∷ 82 ∷ 54 ∷ 41 ∷ 32 ∷ 69 ∷ 78 ∷ 68 ∷ 59 ∷ 32 ∷ 82 ∷ 56 ∷ 32 ∷ 61 ∷ 32 ∷ 82 ∷ 69 ∷ 67 ∷ 79 ∷ 82 ∷ 68 ∷ 32 ∷ 40 ∷ 82 ∷ 55 ∷ 41 ∷ 32 ∷ 69 ∷ 78 ∷ 68 ∷ 59 ∷ 32 ∷ 82 ∷ 57 ∷ 32 ∷ 61 ∷ 32 ∷ 82 ∷ 69 ∷ 67 ∷ 79 ∷ 82 ∷ 68 ∷ 32 ∷ 40 ∷ 82 ∷ 56 ∷ 41 ∷ 32 ∷ 69 ∷ 78 ∷ 68 ∷ 59 ∷ 32 ∷ 82 ∷ 49 ∷ 48 ∷ 32 ∷ 61 ∷ 32 ∷ 82 ∷ 69 ∷ 67 ∷ 79 ∷ 82 ∷ 68 ∷ 32 ∷ 40 ∷ 82 ∷ 57 ∷ 41 ∷ 32 ∷ 69 ∷ 78 ∷ 68 ∷ 59 ∷ 32 ∷ 82 ∷ 49 ∷ 49 ∷ 32 ∷ 61 ∷ 32 ∷ 82 ∷ 69 ∷ 67 ∷ 79 ∷ 82 ∷ 68 ∷ 32 ∷ 40 ∷ 82 ∷ 49 ∷ 48 ∷ 41 ∷ 32 ∷ 69 ∷ 78 ∷ 68 ∷ 59 ∷ 32 ∷ 82 ∷ 49 ∷ 50 ∷ 32 ∷ 61 ∷ 32 ∷ 82 ∷ 69 ∷ 67 ∷ 79 ∷ 82 ∷ 68 ∷ 32 ∷ 40 ∷ 82 ∷ 49 ∷ 49 ∷ 41 ∷ 32 ∷ 69 ∷ 78 ∷ 68 ∷ 59 ∷ 32 ∷ 82 ∷ 49 ∷ 51 ∷ 32 ∷ 61 ∷ 32 ∷ 82 ∷ 69 ∷ 67 ∷ 79 ∷ 82 ∷ 68 ∷ 32 ∷ 40 ∷ 82 ∷ 49 ∷ 50 ∷ 41 ∷ 32 ∷ 69 ∷ 78 ∷ 68 ∷ 59 ∷ 32 ∷ 82 ∷ 49 ∷ 52 ∷ 32 ∷ 61 ∷ 32 ∷ 82 ∷ 69 ∷ 67 ∷ 79 ∷ 82 ∷ 68 ∷ 32 ∷ 40 ∷ 82 ∷ 49 ∷ 51 ∷ 41 ∷ 32 ∷ 69 ∷ 78 ∷ 68 ∷ 59 ∷ 32 ∷ 82 ∷ 49 ∷ 53 ∷ 32 ∷ 61 ∷ 32 ∷ 82 ∷ 69 ∷ 67 ∷ 79 ∷ 82 ∷ 68 ∷ 32 ∷ 40 ∷ 82 ∷ 49 ∷ 52 ∷ 41 ∷ 32 ∷ 69 ∷ 78 ∷ 68 ∷ 59 ∷ 32 ∷ 69 ∷ 78 ∷ 68 ∷ 32 ∷ 77 ∷ 46 ∷ []); symbols = (symbol (Ident) 0 6 ∷ symbol (Ident) 7 8 ∷ symbol (Ident) 8 9 ∷ symbol (Ident) 10 14 ∷ symbol (Ident) 15 17 ∷ symbol (Ident) 18 19 ∷ symbol (Ident) 20 26 ∷ symbol (Ident) 27 30 ∷ symbol (Ident) 30 31 ∷ symbol (Ident) 32 34 ∷ symbol (Ident) 35 36 ∷ symbol (Ident) 37 43 ∷ symbol (Ident) 44 45 ∷ symbol (Ident) 45 47 ∷ symbol (Ident) 47 48 ∷ symbol (Ident) 49 52 ∷ symbol (Ident) 52 53 ∷ symbol (Ident) 54 56 ∷ symbol (Ident) 57 58 ∷ symbol (Ident) 59 65 ∷ symbol (Ident) 66 67 ∷ symbol (Ident) 67 69 ∷ symbol (Ident) 69 70 ∷ symbol (Ident) 71 74 ∷ symbol (Ident) 74 75 ∷ symbol (Ident) 76 78 ∷ symbol (Ident) 79 80 ∷ symbol (Ident) 81 87 ∷ symbol (Ident) 88 89 ∷ symbol (Ident) 89 91 ∷ symbol (Ident) 91 92 ∷ symbol (Ident) 93 96 ∷ symbol (Ident) 96 97 ∷ symbol (Ident) 98 100 ∷ symbol (Ident) 101 102 ∷ symbol (Ident) 103 109 ∷ symbol (Ident) 110 111 ∷ symbol (Ident) 111 113 ∷ symbol (Ident) 113 114 ∷ symbol (Ident) 115 118 ∷ symbol (Ident) 118 119 ∷ symbol (Ident) 120 122 ∷ symbol (Ident) 123 124 ∷ symbol (Ident) 125 131 ∷ symbol (Ident) 132 133 ∷ symbol (Ident) 133 135 ∷ symbol (Ident) 135 136 ∷ symbol (Ident) 137 140 ∷ symbol (Ident) 140 141 ∷ symbol (Ident) 142 144 ∷ symbol (Ident) 145 146 ∷ symbol (Ident) 147 153 ∷ symbol (Ident) 154 155 ∷ symbol (Ident) 155 157 ∷ symbol (Ident) 157 158 ∷ symbol (Ident) 159 162 ∷ symbol (Ident) 162 163 ∷ symbol (Ident) 164 166 ∷ symbol (Ident) 167 168 ∷ symbol (Ident) 169 175 ∷ symbol (Ident) 176 177 ∷ symbol (Ident) 177 179 ∷ symbol (Ident) 179 180 ∷ symbol (Ident) 181 184 ∷ symbol (Ident) 184 185 ∷ symbol (Ident) 186 188 ∷ symbol (Ident) 189 190 ∷ symbol (Ident) 191 197 ∷ symbol (Ident) 198 199 ∷ symbol (Ident) 199 201 ∷ symbol (Ident) 201 202 ∷ symbol (Ident) 203 206 ∷ symbol (Ident) 206 207 ∷ symbol (Ident) 208 210 ∷ symbol (Ident) 211 212 ∷ symbol (Ident) 213 219 ∷ symbol (Ident) 220 221 ∷ symbol (Ident) 221 223 ∷ symbol (Ident) 223 224 ∷ symbol (Ident) 225 228 ∷ symbol (Ident) 228 229 ∷ symbol (Ident) 230 233 ∷ symbol (Ident) 234 235 ∷ symbol (Ident) 236 242 ∷ symbol (Ident) 243 244 ∷ symbol (Ident) 244 246 ∷ symbol (Ident) 246 247 ∷ symbol (Ident) 248 251 ∷ symbol (Ident) 251 252 ∷ symbol (Ident) 253 256 ∷ symbol (Ident) 257 258 ∷ symbol (Ident) 259 265 ∷ symbol (Ident) 266 267 ∷ symbol (Ident) 267 270 ∷ symbol (Ident) 270 271 ∷ symbol (Ident) 272 275 ∷ symbol (Ident) 275 276 ∷ symbol (Ident) 277 280 ∷ symbol (Ident) 281 282 ∷ symbol (Ident) 283 289 ∷ symbol (Ident) 290 291 ∷ symbol (Ident) 291 294 ∷ symbol (Ident) 294 295 ∷ symbol (Ident) 296 299 ∷ symbol (Ident) 299 300 ∷ symbol (Ident) 301 304 ∷ symbol (Ident) 305 306 ∷ symbol (Ident) 307 313 ∷ symbol (Ident) 314 315 ∷ symbol (Ident) 315 318 ∷ symbol (Ident) 318 319 ∷ symbol (Ident) 320 323 ∷ symbol (Ident) 323 324 ∷ symbol (Ident) 325 328 ∷ symbol (Ident) 329 330 ∷ symbol (Ident) 331 337 ∷ symbol (Ident) 338 339 ∷ symbol (Ident) 339 342 ∷ symbol (Ident) 342 343 ∷ symbol (Ident) 344 347 ∷ symbol (Ident) 347 348 ∷ symbol (Ident) 349 352 ∷ symbol (Ident) 353 354 ∷ symbol (Ident) 355 361 ∷ symbol (Ident) 362 363 ∷ symbol (Ident) 363 366 ∷ symbol (Ident) 366 367 ∷ symbol (Ident) 368 371 ∷ symbol (Ident) 371 372 ∷ symbol (Ident) 373 376 ∷ symbol (Ident) 377 378 ∷ symbol (Ident) 378 379 ∷ []) }; tree = record { module_word = 0; name = 1; semicolon = 0; imports = None; decls = (S.decls None (Some (record { type_word = 0; each = (record { name = (record { name = 4; star = None }); equal = 0; is = (S.Record 6 None S.no_fields S.no_more_fields 0); semicolon = 0 } ∷ record { name = (record { name = 9; star = None }); equal = 0; is = (S.Record 11 (Some (record { left_paren = 0; name = (record { name = 13; member = None }); right_paren = 0 })) S.no_fields S.no_more_fields 0); semicolon = 0 } ∷ record { name = (record { name = 17; star = None }); equal = 0; is = (S.Record 19 (Some (record { left_paren = 0; name = (record { name = 21; member = None }); right_paren = 0 })) S.no_fields S.no_more_fields 0); semicolon = 0 } ∷ record { name = (record { name = 25; star = None }); equal = 0; is = (S.Record 27 (Some (record { left_paren = 0; name = (record { name = 29; member = None }); right_paren = 0 })) S.no_fields S.no_more_fields 0); semicolon = 0 } ∷ record { name = (record { name = 33; star = None }); equal = 0; is = (S.Record 35 (Some (record { left_paren = 0; name = (record { name = 37; member = None }); right_paren = 0 })) S.no_fields S.no_more_fields 0); semicolon = 0 } ∷ record { name = (record { name = 41; star = None }); equal = 0; is = (S.Record 43 (Some (record { left_paren = 0; name = (record { name = 45; member = None }); right_paren = 0 })) S.no_fields S.no_more_fields 0); semicolon = 0 } ∷ record { name = (record { name = 49; star = None }); equal = 0; is = (S.Record 51 (Some (record { left_paren = 0; name = (record { name = 53; member = None }); right_paren = 0 })) S.no_fields S.no_more_fields 0); semicolon = 0 } ∷ record { name = (record { name = 57; star = None }); equal = 0; is = (S.Record 59 (Some (record { left_paren = 0; name = (record { name = 61; member = None }); right_paren = 0 })) S.no_fields S.no_more_fields 0); semicolon = 0 } ∷ record { name = (record { name = 65; star = None }); equal = 0; is = (S.Record 67 (Some (record { left_paren = 0; name = (record { name = 69; member = None }); right_paren = 0 })) S.no_fields S.no_more_fields 0); semicolon = 0 } ∷ record { name = (record { name = 73; star = None }); equal = 0; is = (S.Record 75 (Some (record { left_paren = 0; name = (record { name = 77; member = None }); right_paren = 0 })) S.no_fields S.no_more_fields 0); semicolon = 0 } ∷ record { name = (record { name = 81; star = None }); equal = 0; is = (S.Record 83 (Some (record { left_paren = 0; name = (record { name = 85; member = None }); right_paren = 0 })) S.no_fields S.no_more_fields 0); semicolon = 0 } ∷ record { name = (record { name = 89; star = None }); equal = 0; is = (S.Record 91 (Some (record { left_paren = 0; name = (record { name = 93; member = None }); right_paren = 0 })) S.no_fields S.no_more_fields 0); semicolon = 0 } ∷ record { name = (record { name = 97; star = None }); equal = 0; is = (S.Record 99 (Some (record { left_paren = 0; name = (record { name = 101; member = None }); right_paren = 0 })) S.no_fields S.no_more_fields 0); semicolon = 0 } ∷ record { name = (record { name = 105; star = None }); equal = 0; is = (S.Record 107 (Some (record { left_paren = 0; name = (record { name = 109; member = None }); right_paren = 0 })) S.no_fields S.no_more_fields 0); semicolon = 0 } ∷ record { name = (record { name = 113; star = None }); equal = 0; is = (S.Record 115 (Some (record { left_paren = 0; name = (record { name = 117; member = None }); right_paren = 0 })) S.no_fields S.no_more_fields 0); semicolon = 0 } ∷ record { name = (record { name = 121; star = None }); equal = 0; is = (S.Record 123 (Some (record { left_paren = 0; name = (record { name = 125; member = None }); right_paren = 0 })) S.no_fields S.no_more_fields 0); semicolon = 0 } ∷ []) })) None S.no_procedure); body = None; end_word = 0; end_name = 130; period = 0 } }

pub bad_extension_5 : checked (bad_extension_5_0 ∷ []) ≡ Legal (record { records = (record { module_number = 0; base = None; level = 0; fields = []; cells = 0; extent = record { bytes = 0; wide = false } } ∷ record { module_number = 0; base = (Some 0); level = 1; fields = []; cells = 0; extent = record { bytes = 0; wide = false } } ∷ record { module_number = 0; base = (Some 1); level = 2; fields = []; cells = 0; extent = record { bytes = 0; wide = false } } ∷ record { module_number = 0; base = (Some 2); level = 3; fields = []; cells = 0; extent = record { bytes = 0; wide = false } } ∷ record { module_number = 0; base = (Some 3); level = 4; fields = []; cells = 0; extent = record { bytes = 0; wide = false } } ∷ record { module_number = 0; base = (Some 4); level = 5; fields = []; cells = 0; extent = record { bytes = 0; wide = false } } ∷ record { module_number = 0; base = (Some 5); level = 6; fields = []; cells = 0; extent = record { bytes = 0; wide = false } } ∷ record { module_number = 0; base = (Some 6); level = 7; fields = []; cells = 0; extent = record { bytes = 0; wide = false } } ∷ record { module_number = 0; base = (Some 7); level = 8; fields = []; cells = 0; extent = record { bytes = 0; wide = false } } ∷ record { module_number = 0; base = (Some 8); level = 9; fields = []; cells = 0; extent = record { bytes = 0; wide = false } } ∷ record { module_number = 0; base = (Some 9); level = 10; fields = []; cells = 0; extent = record { bytes = 0; wide = false } } ∷ record { module_number = 0; base = (Some 10); level = 11; fields = []; cells = 0; extent = record { bytes = 0; wide = false } } ∷ record { module_number = 0; base = (Some 11); level = 12; fields = []; cells = 0; extent = record { bytes = 0; wide = false } } ∷ record { module_number = 0; base = (Some 12); level = 13; fields = []; cells = 0; extent = record { bytes = 0; wide = false } } ∷ record { module_number = 0; base = (Some 13); level = 14; fields = []; cells = 0; extent = record { bytes = 0; wide = false } } ∷ record { module_number = 0; base = (Some 14); level = 15; fields = []; cells = 0; extent = record { bytes = 0; wide = false } } ∷ []); pointers = []; modules = (record { name = (77 ∷ []); objects = (record { name = (82 ∷ 48 ∷ []); exported = false; entity = I.OfType (H.Record 0) } ∷ record { name = (82 ∷ 49 ∷ []); exported = false; entity = I.OfType (H.Record 1) } ∷ record { name = (82 ∷ 50 ∷ []); exported = false; entity = I.OfType (H.Record 2) } ∷ record { name = (82 ∷ 51 ∷ []); exported = false; entity = I.OfType (H.Record 3) } ∷ record { name = (82 ∷ 52 ∷ []); exported = false; entity = I.OfType (H.Record 4) } ∷ record { name = (82 ∷ 53 ∷ []); exported = false; entity = I.OfType (H.Record 5) } ∷ record { name = (82 ∷ 54 ∷ []); exported = false; entity = I.OfType (H.Record 6) } ∷ record { name = (82 ∷ 55 ∷ []); exported = false; entity = I.OfType (H.Record 7) } ∷ record { name = (82 ∷ 56 ∷ []); exported = false; entity = I.OfType (H.Record 8) } ∷ record { name = (82 ∷ 57 ∷ []); exported = false; entity = I.OfType (H.Record 9) } ∷ record { name = (82 ∷ 49 ∷ 48 ∷ []); exported = false; entity = I.OfType (H.Record 10) } ∷ record { name = (82 ∷ 49 ∷ 49 ∷ []); exported = false; entity = I.OfType (H.Record 11) } ∷ record { name = (82 ∷ 49 ∷ 50 ∷ []); exported = false; entity = I.OfType (H.Record 12) } ∷ record { name = (82 ∷ 49 ∷ 51 ∷ []); exported = false; entity = I.OfType (H.Record 13) } ∷ record { name = (82 ∷ 49 ∷ 52 ∷ []); exported = false; entity = I.OfType (H.Record 14) } ∷ record { name = (82 ∷ 49 ∷ 53 ∷ []); exported = false; entity = I.OfType (H.Record 15) } ∷ []); variables = []; body = 0 } ∷ []); procedures = (record { module_number = 0; line = 1; is_body = true; formals = []; result = H.Nothing; locals = []; texts = []; body = I.no_statement; answer = None } ∷ []); imports_in = false })
bad_extension_5 = refl

-- MODULE A; CONST c* = 3; d = 4; TYPE R* = RECORD x*: INTEGER; h: INTEGER END; P* = POINTER TO R; H = RECORD END; VAR v*: INTEGER; r*: R; p*: P; a*: ARRAY 2 OF INTEGER; w: INTEGER; f*: PROCEDURE; PROCEDURE N*; END N; PROCEDURE L; END L; END A.
abbrev bad_extension_6_0 : Parsed
bad_extension_6_0 = record { source = record { bytes = (77 ∷ 79 ∷ 68 ∷ 85 ∷ 76 ∷ 69 ∷ 32 ∷ 65 ∷ 59 ∷ 32 ∷ 67 ∷ 79 ∷ 78 ∷ 83 ∷ 84 ∷ 32 ∷ 99 ∷ 42 ∷ 32 ∷ 61 ∷ 32 ∷ 51 ∷ 59 ∷ 32 ∷ 100 ∷ 32 ∷ 61 ∷ 32 ∷ 52 ∷ 59 ∷ 32 ∷ 84 ∷ 89 ∷ 80 ∷ 69 ∷ 32 ∷ 82 ∷ 42 ∷ 32 ∷ 61 ∷ 32 ∷ 82 ∷ 69 ∷ 67 ∷ 79 ∷ 82 ∷ 68 ∷ 32 ∷ 120 ∷ 42 ∷ 58 ∷ 32 ∷ 73 ∷ 78 ∷ 84 ∷ 69 ∷ 71 ∷ 69 ∷ 82 ∷ 59 ∷ 32 ∷ 104 ∷ 58 ∷ 32 ∷ 73 ∷ 78 ∷ 84 ∷ 69 ∷ 71 ∷ 69 ∷ 82 ∷ 32 ∷ 69 ∷ 78 ∷ 68 ∷ 59 ∷ 32 ∷ 80 ∷ 42 ∷ 32 ∷ 61 ∷ 32 ∷ 80 ∷ 79 ∷ 73 ∷ 78 ∷ 84 ∷ 69 ∷ 82 ∷ 32 ∷ 84 ∷ 79 ∷ 32 ∷ 82 ∷ 59 ∷ 32 ∷ 72 ∷ 32 ∷ 61 ∷ 32 ∷ 82 ∷ 69 ∷ 67 ∷ 79 ∷ 82 ∷ 68 ∷ 32 ∷ 69 ∷ 78 ∷ 68 ∷ 59 ∷ 32 ∷ 86 ∷ 65 ∷ 82 ∷ 32 ∷ 118 ∷ 42 ∷ 58 ∷ 32 ∷ 73 ∷ 78 ∷ 84 ∷ 69 ∷ 71 ∷ 69 ∷ 82 ∷ 59 ∷ 32 ∷ 114 ∷ 42 ∷ 58 ∷ 32 ∷ 82 ∷ 59 ∷ 32 ∷ 112 ∷ 42 ∷ 58 ∷ 32 ∷ 80 ∷ 59 ∷ 32 ∷ 97 ∷ 42 ∷ 58 ∷ 32 ∷ 65 ∷ 82 ∷ 82 ∷ 65 ∷ 89 ∷ 32 ∷ 50 ∷ 32 ∷ 79 ∷ 70 ∷ 32 ∷ 73 ∷ 78 ∷ 84 ∷ 69 ∷ 71 ∷ 69 ∷ 82 ∷ 59 ∷ 32 ∷ 119 ∷ 58 ∷ 32 ∷ 73 ∷ 78 ∷ 84 ∷ 69 ∷ 71 ∷ 69 ∷ 82 ∷ 59 ∷ 32 ∷ 102 ∷ 42 ∷ 58 ∷ 32 ∷ 80 ∷ 82 ∷ 79 ∷ 67 ∷ 69 ∷ 68 ∷ 85 ∷ 82 ∷ 69 ∷ 59 ∷ 32 ∷ 80 ∷ 82 ∷ 79 ∷ 67 ∷ 69 ∷ 68 ∷ 85 ∷ 82 ∷ 69 ∷ 32 ∷ 78 ∷ 42 ∷ 59 ∷ 32 ∷ 69 ∷ 78 ∷ 68 ∷ 32 ∷ 78 ∷ 59 ∷ 32 ∷ 80 ∷ 82 ∷ 79 ∷ 67 ∷ 69 ∷ 68 ∷ 85 ∷ 82 ∷ 69 ∷ 32 ∷ 76 ∷ 59 ∷ 32 ∷ 69 ∷ 78 ∷ 68 ∷ 32 ∷ 76 ∷ 59 ∷ 32 ∷ 69 ∷ 78 ∷ 68 ∷ 32 ∷ 65 ∷ 46 ∷ 10 ∷ []); symbols = (symbol (Ident) 0 6 ∷ symbol (Ident) 7 8 ∷ symbol (Ident) 8 9 ∷ symbol (Ident) 10 15 ∷ symbol (Ident) 16 17 ∷ symbol (Ident) 17 18 ∷ symbol (Ident) 19 20 ∷ symbol (Int (pos 3)) 21 22 ∷ symbol (Ident) 22 23 ∷ symbol (Ident) 24 25 ∷ symbol (Ident) 26 27 ∷ symbol (Int (pos 4)) 28 29 ∷ symbol (Ident) 29 30 ∷ symbol (Ident) 31 35 ∷ symbol (Ident) 36 37 ∷ symbol (Ident) 37 38 ∷ symbol (Ident) 39 40 ∷ symbol (Ident) 41 47 ∷ symbol (Ident) 48 49 ∷ symbol (Ident) 49 50 ∷ symbol (Ident) 50 51 ∷ symbol (Ident) 52 59 ∷ symbol (Ident) 59 60 ∷ symbol (Ident) 61 62 ∷ symbol (Ident) 62 63 ∷ symbol (Ident) 64 71 ∷ symbol (Ident) 72 75 ∷ symbol (Ident) 75 76 ∷ symbol (Ident) 77 78 ∷ symbol (Ident) 78 79 ∷ symbol (Ident) 80 81 ∷ symbol (Ident) 82 89 ∷ symbol (Ident) 90 92 ∷ symbol (Ident) 93 94 ∷ symbol (Ident) 94 95 ∷ symbol (Ident) 96 97 ∷ symbol (Ident) 98 99 ∷ symbol (Ident) 100 106 ∷ symbol (Ident) 107 110 ∷ symbol (Ident) 110 111 ∷ symbol (Ident) 112 115 ∷ symbol (Ident) 116 117 ∷ symbol (Ident) 117 118 ∷ symbol (Ident) 118 119 ∷ symbol (Ident) 120 127 ∷ symbol (Ident) 127 128 ∷ symbol (Ident) 129 130 ∷ symbol (Ident) 130 131 ∷ symbol (Ident) 131 132 ∷ symbol (Ident) 133 134 ∷ symbol (Ident) 134 135 ∷ symbol (Ident) 136 137 ∷ symbol (Ident) 137 138 ∷ symbol (Ident) 138 139 ∷ symbol (Ident) 140 141 ∷ symbol (Ident) 141 142 ∷ symbol (Ident) 143 144 ∷ symbol (Ident) 144 145 ∷ symbol (Ident) 145 146 ∷ symbol (Ident) 147 152 ∷ symbol (Int (pos 2)) 153 154 ∷ symbol (Ident) 155 157 ∷ symbol (Ident) 158 165 ∷ symbol (Ident) 165 166 ∷ symbol (Ident) 167 168 ∷ symbol (Ident) 168 169 ∷ symbol (Ident) 170 177 ∷ symbol (Ident) 177 178 ∷ symbol (Ident) 179 180 ∷ symbol (Ident) 180 181 ∷ symbol (Ident) 181 182 ∷ symbol (Ident) 183 192 ∷ symbol (Ident) 192 193 ∷ symbol (Ident) 194 203 ∷ symbol (Ident) 204 205 ∷ symbol (Ident) 205 206 ∷ symbol (Ident) 206 207 ∷ symbol (Ident) 208 211 ∷ symbol (Ident) 212 213 ∷ symbol (Ident) 213 214 ∷ symbol (Ident) 215 224 ∷ symbol (Ident) 225 226 ∷ symbol (Ident) 226 227 ∷ symbol (Ident) 228 231 ∷ symbol (Ident) 232 233 ∷ symbol (Ident) 233 234 ∷ symbol (Ident) 235 238 ∷ symbol (Ident) 239 240 ∷ symbol (Ident) 240 241 ∷ []) }; tree = record { module_word = 0; name = 1; semicolon = 0; imports = None; decls = (S.decls (Some (record { const_word = 0; each = (record { name = (record { name = 4; star = Some 0 }); equal = 0; value = (S.only (S.simple None (S.term (S.Int 7) S.no_factor) S.no_term)); semicolon = 0 } ∷ record { name = (record { name = 9; star = None }); equal = 0; value = (S.only (S.simple None (S.term (S.Int 11) S.no_factor) S.no_term)); semicolon = 0 } ∷ []) })) (Some (record { type_word = 0; each = (record { name = (record { name = 14; star = Some 0 }); equal = 0; is = (S.Record 17 None (S.fields (record { first = (record { name = 18; star = Some 0 }); more = [] }) 0 (S.Named (record { name = 21; member = None }))) (S.next_fields 0 (S.fields (record { first = (record { name = 23; star = None }); more = [] }) 0 (S.Named (record { name = 25; member = None }))) S.no_more_fields) 0); semicolon = 0 } ∷ record { name = (record { name = 28; star = Some 0 }); equal = 0; is = (S.Pointer 31 0 (S.Named (record { name = 33; member = None }))); semicolon = 0 } ∷ record { name = (record { name = 35; star = None }); equal = 0; is = (S.Record 37 None S.no_fields S.no_more_fields 0); semicolon = 0 } ∷ []) })) (Some (record { var_word = 0; each = (record { names = (record { first = (record { name = 41; star = Some 0 }); more = [] }); colon = 0; of = (S.Named (record { name = 44; member = None })); semicolon = 0 } ∷ record { names = (record { first = (record { name = 46; star = Some 0 }); more = [] }); colon = 0; of = (S.Named (record { name = 49; member = None })); semicolon = 0 } ∷ record { names = (record { first = (record { name = 51; star = Some 0 }); more = [] }); colon = 0; of = (S.Named (record { name = 54; member = None })); semicolon = 0 } ∷ record { names = (record { first = (record { name = 56; star = Some 0 }); more = [] }); colon = 0; of = (S.Array 59 (S.only (S.simple None (S.term (S.Int 60) S.no_factor) S.no_term)) S.no_expression 0 (S.Named (record { name = 62; member = None }))); semicolon = 0 } ∷ record { names = (record { first = (record { name = 64; star = None }); more = [] }); colon = 0; of = (S.Named (record { name = 66; member = None })); semicolon = 0 } ∷ record { names = (record { first = (record { name = 68; star = Some 0 }); more = [] }); colon = 0; of = (S.Procedure 71 None); semicolon = 0 } ∷ []) })) (S.procedure 0 (record { name = 74; star = Some 0 }) None 0 (S.decls None None None S.no_procedure) None None 77 78 0 (S.procedure 0 (record { name = 81; star = None }) None 0 (S.decls None None None S.no_procedure) None None 83 84 0 S.no_procedure))); body = None; end_word = 0; end_name = 87; period = 0 } }

-- MODULE M; IMPORT A; TYPE R = RECORD (A.P) END; END M.
abbrev bad_extension_6_1 : Parsed
bad_extension_6_1 = record { source = record { bytes = (77 ∷ 79 ∷ 68 ∷ 85 ∷ 76 ∷ 69 ∷ 32 ∷ 77 ∷ 59 ∷ 32 ∷ 73 ∷ 77 ∷ 80 ∷ 79 ∷ 82 ∷ 84 ∷ 32 ∷ 65 ∷ 59 ∷ 32 ∷ 84 ∷ 89 ∷ 80 ∷ 69 ∷ 32 ∷ 82 ∷ 32 ∷ 61 ∷ 32 ∷ 82 ∷ 69 ∷ 67 ∷ 79 ∷ 82 ∷ 68 ∷ 32 ∷ 40 ∷ 65 ∷ 46 ∷ 80 ∷ 41 ∷ 32 ∷ 69 ∷ 78 ∷ 68 ∷ 59 ∷ 32 ∷ 69 ∷ 78 ∷ 68 ∷ 32 ∷ 77 ∷ 46 ∷ []); symbols = (symbol (Ident) 0 6 ∷ symbol (Ident) 7 8 ∷ symbol (Ident) 8 9 ∷ symbol (Ident) 10 16 ∷ symbol (Ident) 17 18 ∷ symbol (Ident) 18 19 ∷ symbol (Ident) 20 24 ∷ symbol (Ident) 25 26 ∷ symbol (Ident) 27 28 ∷ symbol (Ident) 29 35 ∷ symbol (Ident) 36 37 ∷ symbol (Ident) 37 38 ∷ symbol (Ident) 38 39 ∷ symbol (Ident) 39 40 ∷ symbol (Ident) 40 41 ∷ symbol (Ident) 42 45 ∷ symbol (Ident) 45 46 ∷ symbol (Ident) 47 50 ∷ symbol (Ident) 51 52 ∷ symbol (Ident) 52 53 ∷ []) }; tree = record { module_word = 0; name = 1; semicolon = 0; imports = Some (record { import_word = 0; first = (record { name = 4; of = None }); more = []; semicolon = 0 }); decls = (S.decls None (Some (record { type_word = 0; each = (record { name = (record { name = 7; star = None }); equal = 0; is = (S.Record 9 (Some (record { left_paren = 0; name = (record { name = 11; member = Some (record { period = 0; name = 13 }) }); right_paren = 0 })) S.no_fields S.no_more_fields 0); semicolon = 0 } ∷ []) })) None S.no_procedure); body = None; end_word = 0; end_name = 18; period = 0 } }

pub bad_extension_6 : checked (bad_extension_6_0 ∷ bad_extension_6_1 ∷ []) ≡ Fault 1 42 37
bad_extension_6 = refl

-- MODULE A; CONST c* = 3; d = 4; TYPE R* = RECORD x*: INTEGER; h: INTEGER END; P* = POINTER TO R; H = RECORD END; VAR v*: INTEGER; r*: R; p*: P; a*: ARRAY 2 OF INTEGER; w: INTEGER; f*: PROCEDURE; PROCEDURE N*; END N; PROCEDURE L; END L; END A.
abbrev bad_extension_7_0 : Parsed
bad_extension_7_0 = record { source = record { bytes = (77 ∷ 79 ∷ 68 ∷ 85 ∷ 76 ∷ 69 ∷ 32 ∷ 65 ∷ 59 ∷ 32 ∷ 67 ∷ 79 ∷ 78 ∷ 83 ∷ 84 ∷ 32 ∷ 99 ∷ 42 ∷ 32 ∷ 61 ∷ 32 ∷ 51 ∷ 59 ∷ 32 ∷ 100 ∷ 32 ∷ 61 ∷ 32 ∷ 52 ∷ 59 ∷ 32 ∷ 84 ∷ 89 ∷ 80 ∷ 69 ∷ 32 ∷ 82 ∷ 42 ∷ 32 ∷ 61 ∷ 32 ∷ 82 ∷ 69 ∷ 67 ∷ 79 ∷ 82 ∷ 68 ∷ 32 ∷ 120 ∷ 42 ∷ 58 ∷ 32 ∷ 73 ∷ 78 ∷ 84 ∷ 69 ∷ 71 ∷ 69 ∷ 82 ∷ 59 ∷ 32 ∷ 104 ∷ 58 ∷ 32 ∷ 73 ∷ 78 ∷ 84 ∷ 69 ∷ 71 ∷ 69 ∷ 82 ∷ 32 ∷ 69 ∷ 78 ∷ 68 ∷ 59 ∷ 32 ∷ 80 ∷ 42 ∷ 32 ∷ 61 ∷ 32 ∷ 80 ∷ 79 ∷ 73 ∷ 78 ∷ 84 ∷ 69 ∷ 82 ∷ 32 ∷ 84 ∷ 79 ∷ 32 ∷ 82 ∷ 59 ∷ 32 ∷ 72 ∷ 32 ∷ 61 ∷ 32 ∷ 82 ∷ 69 ∷ 67 ∷ 79 ∷ 82 ∷ 68 ∷ 32 ∷ 69 ∷ 78 ∷ 68 ∷ 59 ∷ 32 ∷ 86 ∷ 65 ∷ 82 ∷ 32 ∷ 118 ∷ 42 ∷ 58 ∷ 32 ∷ 73 ∷ 78 ∷ 84 ∷ 69 ∷ 71 ∷ 69 ∷ 82 ∷ 59 ∷ 32 ∷ 114 ∷ 42 ∷ 58 ∷ 32 ∷ 82 ∷ 59 ∷ 32 ∷ 112 ∷ 42 ∷ 58 ∷ 32 ∷ 80 ∷ 59 ∷ 32 ∷ 97 ∷ 42 ∷ 58 ∷ 32 ∷ 65 ∷ 82 ∷ 82 ∷ 65 ∷ 89 ∷ 32 ∷ 50 ∷ 32 ∷ 79 ∷ 70 ∷ 32 ∷ 73 ∷ 78 ∷ 84 ∷ 69 ∷ 71 ∷ 69 ∷ 82 ∷ 59 ∷ 32 ∷ 119 ∷ 58 ∷ 32 ∷ 73 ∷ 78 ∷ 84 ∷ 69 ∷ 71 ∷ 69 ∷ 82 ∷ 59 ∷ 32 ∷ 102 ∷ 42 ∷ 58 ∷ 32 ∷ 80 ∷ 82 ∷ 79 ∷ 67 ∷ 69 ∷ 68 ∷ 85 ∷ 82 ∷ 69 ∷ 59 ∷ 32 ∷ 80 ∷ 82 ∷ 79 ∷ 67 ∷ 69 ∷ 68 ∷ 85 ∷ 82 ∷ 69 ∷ 32 ∷ 78 ∷ 42 ∷ 59 ∷ 32 ∷ 69 ∷ 78 ∷ 68 ∷ 32 ∷ 78 ∷ 59 ∷ 32 ∷ 80 ∷ 82 ∷ 79 ∷ 67 ∷ 69 ∷ 68 ∷ 85 ∷ 82 ∷ 69 ∷ 32 ∷ 76 ∷ 59 ∷ 32 ∷ 69 ∷ 78 ∷ 68 ∷ 32 ∷ 76 ∷ 59 ∷ 32 ∷ 69 ∷ 78 ∷ 68 ∷ 32 ∷ 65 ∷ 46 ∷ 10 ∷ []); symbols = (symbol (Ident) 0 6 ∷ symbol (Ident) 7 8 ∷ symbol (Ident) 8 9 ∷ symbol (Ident) 10 15 ∷ symbol (Ident) 16 17 ∷ symbol (Ident) 17 18 ∷ symbol (Ident) 19 20 ∷ symbol (Int (pos 3)) 21 22 ∷ symbol (Ident) 22 23 ∷ symbol (Ident) 24 25 ∷ symbol (Ident) 26 27 ∷ symbol (Int (pos 4)) 28 29 ∷ symbol (Ident) 29 30 ∷ symbol (Ident) 31 35 ∷ symbol (Ident) 36 37 ∷ symbol (Ident) 37 38 ∷ symbol (Ident) 39 40 ∷ symbol (Ident) 41 47 ∷ symbol (Ident) 48 49 ∷ symbol (Ident) 49 50 ∷ symbol (Ident) 50 51 ∷ symbol (Ident) 52 59 ∷ symbol (Ident) 59 60 ∷ symbol (Ident) 61 62 ∷ symbol (Ident) 62 63 ∷ symbol (Ident) 64 71 ∷ symbol (Ident) 72 75 ∷ symbol (Ident) 75 76 ∷ symbol (Ident) 77 78 ∷ symbol (Ident) 78 79 ∷ symbol (Ident) 80 81 ∷ symbol (Ident) 82 89 ∷ symbol (Ident) 90 92 ∷ symbol (Ident) 93 94 ∷ symbol (Ident) 94 95 ∷ symbol (Ident) 96 97 ∷ symbol (Ident) 98 99 ∷ symbol (Ident) 100 106 ∷ symbol (Ident) 107 110 ∷ symbol (Ident) 110 111 ∷ symbol (Ident) 112 115 ∷ symbol (Ident) 116 117 ∷ symbol (Ident) 117 118 ∷ symbol (Ident) 118 119 ∷ symbol (Ident) 120 127 ∷ symbol (Ident) 127 128 ∷ symbol (Ident) 129 130 ∷ symbol (Ident) 130 131 ∷ symbol (Ident) 131 132 ∷ symbol (Ident) 133 134 ∷ symbol (Ident) 134 135 ∷ symbol (Ident) 136 137 ∷ symbol (Ident) 137 138 ∷ symbol (Ident) 138 139 ∷ symbol (Ident) 140 141 ∷ symbol (Ident) 141 142 ∷ symbol (Ident) 143 144 ∷ symbol (Ident) 144 145 ∷ symbol (Ident) 145 146 ∷ symbol (Ident) 147 152 ∷ symbol (Int (pos 2)) 153 154 ∷ symbol (Ident) 155 157 ∷ symbol (Ident) 158 165 ∷ symbol (Ident) 165 166 ∷ symbol (Ident) 167 168 ∷ symbol (Ident) 168 169 ∷ symbol (Ident) 170 177 ∷ symbol (Ident) 177 178 ∷ symbol (Ident) 179 180 ∷ symbol (Ident) 180 181 ∷ symbol (Ident) 181 182 ∷ symbol (Ident) 183 192 ∷ symbol (Ident) 192 193 ∷ symbol (Ident) 194 203 ∷ symbol (Ident) 204 205 ∷ symbol (Ident) 205 206 ∷ symbol (Ident) 206 207 ∷ symbol (Ident) 208 211 ∷ symbol (Ident) 212 213 ∷ symbol (Ident) 213 214 ∷ symbol (Ident) 215 224 ∷ symbol (Ident) 225 226 ∷ symbol (Ident) 226 227 ∷ symbol (Ident) 228 231 ∷ symbol (Ident) 232 233 ∷ symbol (Ident) 233 234 ∷ symbol (Ident) 235 238 ∷ symbol (Ident) 239 240 ∷ symbol (Ident) 240 241 ∷ []) }; tree = record { module_word = 0; name = 1; semicolon = 0; imports = None; decls = (S.decls (Some (record { const_word = 0; each = (record { name = (record { name = 4; star = Some 0 }); equal = 0; value = (S.only (S.simple None (S.term (S.Int 7) S.no_factor) S.no_term)); semicolon = 0 } ∷ record { name = (record { name = 9; star = None }); equal = 0; value = (S.only (S.simple None (S.term (S.Int 11) S.no_factor) S.no_term)); semicolon = 0 } ∷ []) })) (Some (record { type_word = 0; each = (record { name = (record { name = 14; star = Some 0 }); equal = 0; is = (S.Record 17 None (S.fields (record { first = (record { name = 18; star = Some 0 }); more = [] }) 0 (S.Named (record { name = 21; member = None }))) (S.next_fields 0 (S.fields (record { first = (record { name = 23; star = None }); more = [] }) 0 (S.Named (record { name = 25; member = None }))) S.no_more_fields) 0); semicolon = 0 } ∷ record { name = (record { name = 28; star = Some 0 }); equal = 0; is = (S.Pointer 31 0 (S.Named (record { name = 33; member = None }))); semicolon = 0 } ∷ record { name = (record { name = 35; star = None }); equal = 0; is = (S.Record 37 None S.no_fields S.no_more_fields 0); semicolon = 0 } ∷ []) })) (Some (record { var_word = 0; each = (record { names = (record { first = (record { name = 41; star = Some 0 }); more = [] }); colon = 0; of = (S.Named (record { name = 44; member = None })); semicolon = 0 } ∷ record { names = (record { first = (record { name = 46; star = Some 0 }); more = [] }); colon = 0; of = (S.Named (record { name = 49; member = None })); semicolon = 0 } ∷ record { names = (record { first = (record { name = 51; star = Some 0 }); more = [] }); colon = 0; of = (S.Named (record { name = 54; member = None })); semicolon = 0 } ∷ record { names = (record { first = (record { name = 56; star = Some 0 }); more = [] }); colon = 0; of = (S.Array 59 (S.only (S.simple None (S.term (S.Int 60) S.no_factor) S.no_term)) S.no_expression 0 (S.Named (record { name = 62; member = None }))); semicolon = 0 } ∷ record { names = (record { first = (record { name = 64; star = None }); more = [] }); colon = 0; of = (S.Named (record { name = 66; member = None })); semicolon = 0 } ∷ record { names = (record { first = (record { name = 68; star = Some 0 }); more = [] }); colon = 0; of = (S.Procedure 71 None); semicolon = 0 } ∷ []) })) (S.procedure 0 (record { name = 74; star = Some 0 }) None 0 (S.decls None None None S.no_procedure) None None 77 78 0 (S.procedure 0 (record { name = 81; star = None }) None 0 (S.decls None None None S.no_procedure) None None 83 84 0 S.no_procedure))); body = None; end_word = 0; end_name = 87; period = 0 } }

-- MODULE M; IMPORT A; TYPE R = RECORD (A.N) END; END M.
abbrev bad_extension_7_1 : Parsed
bad_extension_7_1 = record { source = record { bytes = (77 ∷ 79 ∷ 68 ∷ 85 ∷ 76 ∷ 69 ∷ 32 ∷ 77 ∷ 59 ∷ 32 ∷ 73 ∷ 77 ∷ 80 ∷ 79 ∷ 82 ∷ 84 ∷ 32 ∷ 65 ∷ 59 ∷ 32 ∷ 84 ∷ 89 ∷ 80 ∷ 69 ∷ 32 ∷ 82 ∷ 32 ∷ 61 ∷ 32 ∷ 82 ∷ 69 ∷ 67 ∷ 79 ∷ 82 ∷ 68 ∷ 32 ∷ 40 ∷ 65 ∷ 46 ∷ 78 ∷ 41 ∷ 32 ∷ 69 ∷ 78 ∷ 68 ∷ 59 ∷ 32 ∷ 69 ∷ 78 ∷ 68 ∷ 32 ∷ 77 ∷ 46 ∷ []); symbols = (symbol (Ident) 0 6 ∷ symbol (Ident) 7 8 ∷ symbol (Ident) 8 9 ∷ symbol (Ident) 10 16 ∷ symbol (Ident) 17 18 ∷ symbol (Ident) 18 19 ∷ symbol (Ident) 20 24 ∷ symbol (Ident) 25 26 ∷ symbol (Ident) 27 28 ∷ symbol (Ident) 29 35 ∷ symbol (Ident) 36 37 ∷ symbol (Ident) 37 38 ∷ symbol (Ident) 38 39 ∷ symbol (Ident) 39 40 ∷ symbol (Ident) 40 41 ∷ symbol (Ident) 42 45 ∷ symbol (Ident) 45 46 ∷ symbol (Ident) 47 50 ∷ symbol (Ident) 51 52 ∷ symbol (Ident) 52 53 ∷ []) }; tree = record { module_word = 0; name = 1; semicolon = 0; imports = Some (record { import_word = 0; first = (record { name = 4; of = None }); more = []; semicolon = 0 }); decls = (S.decls None (Some (record { type_word = 0; each = (record { name = (record { name = 7; star = None }); equal = 0; is = (S.Record 9 (Some (record { left_paren = 0; name = (record { name = 11; member = Some (record { period = 0; name = 13 }) }); right_paren = 0 })) S.no_fields S.no_more_fields 0); semicolon = 0 } ∷ []) })) None S.no_procedure); body = None; end_word = 0; end_name = 18; period = 0 } }

pub bad_extension_7 : checked (bad_extension_7_0 ∷ bad_extension_7_1 ∷ []) ≡ Fault 1 42 37
bad_extension_7 = refl

-- MODULE M; IMPORT Out; TYPE R = RECORD (Out) END; END M.
abbrev bad_extension_8_0 : Parsed
bad_extension_8_0 = record { source = record { bytes = (77 ∷ 79 ∷ 68 ∷ 85 ∷ 76 ∷ 69 ∷ 32 ∷ 77 ∷ 59 ∷ 32 ∷ 73 ∷ 77 ∷ 80 ∷ 79 ∷ 82 ∷ 84 ∷ 32 ∷ 79 ∷ 117 ∷ 116 ∷ 59 ∷ 32 ∷ 84 ∷ 89 ∷ 80 ∷ 69 ∷ 32 ∷ 82 ∷ 32 ∷ 61 ∷ 32 ∷ 82 ∷ 69 ∷ 67 ∷ 79 ∷ 82 ∷ 68 ∷ 32 ∷ 40 ∷ 79 ∷ 117 ∷ 116 ∷ 41 ∷ 32 ∷ 69 ∷ 78 ∷ 68 ∷ 59 ∷ 32 ∷ 69 ∷ 78 ∷ 68 ∷ 32 ∷ 77 ∷ 46 ∷ []); symbols = (symbol (Ident) 0 6 ∷ symbol (Ident) 7 8 ∷ symbol (Ident) 8 9 ∷ symbol (Ident) 10 16 ∷ symbol (Ident) 17 20 ∷ symbol (Ident) 20 21 ∷ symbol (Ident) 22 26 ∷ symbol (Ident) 27 28 ∷ symbol (Ident) 29 30 ∷ symbol (Ident) 31 37 ∷ symbol (Ident) 38 39 ∷ symbol (Ident) 39 42 ∷ symbol (Ident) 42 43 ∷ symbol (Ident) 44 47 ∷ symbol (Ident) 47 48 ∷ symbol (Ident) 49 52 ∷ symbol (Ident) 53 54 ∷ symbol (Ident) 54 55 ∷ []) }; tree = record { module_word = 0; name = 1; semicolon = 0; imports = Some (record { import_word = 0; first = (record { name = 4; of = None }); more = []; semicolon = 0 }); decls = (S.decls None (Some (record { type_word = 0; each = (record { name = (record { name = 7; star = None }); equal = 0; is = (S.Record 9 (Some (record { left_paren = 0; name = (record { name = 11; member = None }); right_paren = 0 })) S.no_fields S.no_more_fields 0); semicolon = 0 } ∷ []) })) None S.no_procedure); body = None; end_word = 0; end_name = 16; period = 0 } }

pub bad_extension_8 : checked (bad_extension_8_0 ∷ []) ≡ Fault 0 42 39
bad_extension_8 = refl
