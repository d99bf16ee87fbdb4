-- Small modules, and what the judgement says of them. Written by bench/judged_rows.py from their texts.
use Rattle.std.specs.Prelude.{◌≡◌, ℕ, [], ◌∷◌, true, false, Some, None, pos}
use Rattle.std.proofs.Common.{refl}
use Rattle.ob_symbol.specs.declared.symbol.Symbol.{Symbol}
use Rattle.ob_symbol.specs.declared.symbol.Kind.{Kind}
use Rattle.ob_symbol.specs.declared.symbol.Kind.TheVariants.{Int, Ident}
use Rattle.ob_symbol.specs.declared.symbol.Kind.TheVariants as TheKind
use Rattle.ob_syntax.specs.Syntax as S
use Rattle.ob_syntax.specs.declared.expressions.Relation.TheVariants as TheRelation
use Rattle.ob_syntax.specs.declared.expressions.MulOperator.TheVariants as TheMulOperator
use Rattle.ob_syntax.specs.declared.statements.Label.TheVariants as TheLabel
use Rattle.ob_types.specs.declared.tree.Relation.TheVariants as TheComparison
use Rattle.ob_judge.specs.Shapes as H
use Rattle.ob_judge.specs.Image as I
use Rattle.ob_judge.specs.Modules.{Parsed, Legal, Fault, checked}

abbrev symbol : Kind → ℕ → ℕ → Symbol
symbol kind from to = record { kind = kind; from = from; to = to }

-- MODULE M; TYPE R = RECORD END; E = RECORD (R) END; P = POINTER TO R; Q = POINTER TO E; VAR p: P; PROCEDURE V(VAR q: Q); END V; BEGIN CASE p OF Q: V(p) END END M.
abbrev narrowed_0 : Parsed
narrowed_0 = record { source = record { bytes = (77 ∷ 79 ∷ 68 ∷ 85 ∷ 76 ∷ 69 ∷ 32 ∷ 77 ∷ 59 ∷ 32 ∷ 84 ∷ 89 ∷ 80 ∷ 69 ∷ 32 ∷ 82 ∷ 32 ∷ 61 ∷ 32 ∷ 82 ∷ 69 ∷ 67 ∷ 79 ∷ 82 ∷ 68 ∷ 32 ∷ 69 ∷ 78 ∷ 68 ∷ 59 ∷ 32 ∷ 69 ∷ 32 ∷ 61 ∷ 32 ∷ 82 ∷ 69 ∷ 67 ∷ 79 ∷ 82 ∷ 68 ∷ 32 ∷ 40 ∷ 82 ∷ 41 ∷ 32 ∷ 69 ∷ 78 ∷ 68 ∷ 59 ∷ 32 ∷ 80 ∷ 32 ∷ 61 ∷ 32 ∷ 80 ∷ 79 ∷ 73 ∷ 78 ∷ 84 ∷ 69 ∷ 82 ∷ 32 ∷ 84 ∷ 79 ∷ 32 ∷ 82 ∷ 59 ∷ 32 ∷ 81 ∷ 32 ∷ 61 ∷ 32 ∷ 80 ∷ 79 ∷ 73 ∷ 78 ∷ 84 ∷ 69 ∷ 82 ∷ 32 ∷ 84 ∷ 79 ∷ 32 ∷ 69 ∷ 59 ∷ 32 ∷ 86 ∷ 65 ∷ 82 ∷ 32 ∷ 112 ∷ 58 ∷ 32 ∷ 80 ∷ 59 ∷ 32 ∷ 80 ∷ 82 ∷ 79 ∷ 67 ∷ 69 ∷ 68 ∷ 85 ∷ 82 ∷ 69 ∷ 32 ∷ 86 ∷ 40 ∷ 86 ∷ 65 ∷ 82 ∷ 32 ∷ 113 ∷ 58 ∷ 32 ∷ 81 ∷ 41 ∷ 59 ∷ 32 ∷ 69 ∷ 78 ∷ 68 ∷ 32 ∷ 86 ∷ 59 ∷ 32 ∷ 66 ∷ 69 ∷ 71 ∷ 73 ∷ 78 ∷ 32 ∷ 67 ∷ 65 ∷ 83 ∷ 69 ∷ 32 ∷ 112 ∷ 32 ∷ 79 ∷ 70 ∷ 32 ∷ 81 ∷ 58 ∷ 32 ∷ 86 ∷ 40 ∷ 112 ∷ 41 ∷ 32 ∷ 69 ∷ 78 ∷ 68 ∷ 32 ∷ 69 ∷ 78 ∷ 68 ∷ 32 ∷ 77 ∷ 46 ∷ []); symbols = (symbol (Ident) 0 6 ∷ symbol (Ident) 7 8 ∷ symbol (Ident) 8 9 ∷ symbol (Ident) 10 14 ∷ symbol (Ident) 15 16 ∷ symbol (Ident) 17 18 ∷ symbol (Ident) 19 25 ∷ symbol (Ident) 26 29 ∷ symbol (Ident) 29 30 ∷ symbol (Ident) 31 32 ∷ symbol (Ident) 33 34 ∷ symbol (Ident) 35 41 ∷ symbol (Ident) 42 43 ∷ symbol (Ident) 43 44 ∷ symbol (Ident) 44 45 ∷ symbol (Ident) 46 49 ∷ symbol (Ident) 49 50 ∷ symbol (Ident) 51 52 ∷ symbol (Ident) 53 54 ∷ symbol (Ident) 55 62 ∷ symbol (Ident) 63 65 ∷ symbol (Ident) 66 67 ∷ symbol (Ident) 67 68 ∷ symbol (Ident) 69 70 ∷ symbol (Ident) 71 72 ∷ symbol (Ident) 73 80 ∷ symbol (Ident) 81 83 ∷ symbol (Ident) 84 85 ∷ symbol (Ident) 85 86 ∷ symbol (Ident) 87 90 ∷ symbol (Ident) 91 92 ∷ symbol (Ident) 92 93 ∷ symbol (Ident) 94 95 ∷ symbol (Ident) 95 96 ∷ symbol (Ident) 97 106 ∷ symbol (Ident) 107 108 ∷ symbol (Ident) 108 109 ∷ symbol (Ident) 109 112 ∷ symbol (Ident) 113 114 ∷ symbol (Ident) 114 115 ∷ symbol (Ident) 116 117 ∷ symbol (Ident) 117 118 ∷ symbol (Ident) 118 119 ∷ symbol (Ident) 120 123 ∷ symbol (Ident) 124 125 ∷ symbol (Ident) 125 126 ∷ symbol (Ident) 127 132 ∷ symbol (Ident) 133 137 ∷ symbol (Ident) 138 139 ∷ symbol (Ident) 140 142 ∷ symbol (Ident) 143 144 ∷ symbol (Ident) 144 145 ∷ symbol (Ident) 146 147 ∷ symbol (Ident) 147 148 ∷ symbol (Ident) 148 149 ∷ symbol (Ident) 149 150 ∷ symbol (Ident) 151 154 ∷ symbol (Ident) 155 158 ∷ symbol (Ident) 159 160 ∷ symbol (Ident) 160 161 ∷ []) }; tree = record { module_word = 0; name = 1; semicolon = 0; imports = None; decls = (S.decls None (Some (record { type_word = 0; each = (record { name = (record { name = 4; star = None }); equal = 0; is = (S.Record 6 None S.no_fields S.no_more_fields 0); semicolon = 0 } ∷ record { name = (record { name = 9; star = None }); equal = 0; is = (S.Record 11 (Some (record { left_paren = 0; name = (record { name = 13; member = None }); right_paren = 0 })) S.no_fields S.no_more_fields 0); semicolon = 0 } ∷ record { name = (record { name = 17; star = None }); equal = 0; is = (S.Pointer 19 0 (S.Named (record { name = 21; member = None }))); semicolon = 0 } ∷ record { name = (record { name = 23; star = None }); equal = 0; is = (S.Pointer 25 0 (S.Named (record { name = 27; member = None }))); semicolon = 0 } ∷ []) })) (Some (record { var_word = 0; each = (record { names = (record { first = (record { name = 30; star = None }); more = [] }); colon = 0; of = (S.Named (record { name = 32; member = None })); semicolon = 0 } ∷ []) })) (S.procedure 0 (record { name = 35; star = None }) (Some (record { left_paren = 0; sections = Some (record { first = (record { var_word = Some 0; first = 38; more = []; colon = 0; open_array = None; of = (record { name = 40; member = None }) }); more = [] }); right_paren = 0; result = None })) 0 (S.decls None None None S.no_procedure) None None 43 44 0 S.no_procedure)); body = (Some (record { begin_word = 0; stats = (S.stats (S.Case 0 (S.only (S.simple None (S.term (S.Designated 48 S.no_selector) S.no_factor) S.no_term)) 0 (S.one_case (record { low = TheLabel.Named (record { name = 50; member = None }); high = None }) [] 0 (S.stats (S.AssignOrCall (record { name = 52; selectors = (S.selected (S.Parens 0 (S.expressions (S.only (S.simple None (S.term (S.Designated 54 S.no_selector) S.no_factor) S.no_term)) S.no_expression) 0) S.no_selector) }) None) S.no_stat)) S.no_next_case 0) S.no_stat) })); end_word = 0; end_name = 58; period = 0 } }

pub narrowed : checked (narrowed_0 ∷ []) ≡ Fault 0 31 148
narrowed = refl

-- MODULE M; CONST c = FALSE & (1 DIV 0 = 1); END M.
abbrev not_evaluated_0 : Parsed
not_evaluated_0 = record { source = record { bytes = (77 ∷ 79 ∷ 68 ∷ 85 ∷ 76 ∷ 69 ∷ 32 ∷ 77 ∷ 59 ∷ 32 ∷ 67 ∷ 79 ∷ 78 ∷ 83 ∷ 84 ∷ 32 ∷ 99 ∷ 32 ∷ 61 ∷ 32 ∷ 70 ∷ 65 ∷ 76 ∷ 83 ∷ 69 ∷ 32 ∷ 38 ∷ 32 ∷ 40 ∷ 49 ∷ 32 ∷ 68 ∷ 73 ∷ 86 ∷ 32 ∷ 48 ∷ 32 ∷ 61 ∷ 32 ∷ 49 ∷ 41 ∷ 59 ∷ 32 ∷ 69 ∷ 78 ∷ 68 ∷ 32 ∷ 77 ∷ 46 ∷ []); symbols = (symbol (Ident) 0 6 ∷ symbol (Ident) 7 8 ∷ symbol (Ident) 8 9 ∷ symbol (Ident) 10 15 ∷ symbol (Ident) 16 17 ∷ symbol (Ident) 18 19 ∷ symbol (Ident) 20 25 ∷ symbol (Ident) 26 27 ∷ symbol (Ident) 28 29 ∷ symbol (Int (pos 1)) 29 30 ∷ symbol (Ident) 31 34 ∷ symbol (Int (pos 0)) 35 36 ∷ symbol (Ident) 37 38 ∷ symbol (Int (pos 1)) 39 40 ∷ symbol (Ident) 40 41 ∷ symbol (Ident) 41 42 ∷ symbol (Ident) 43 46 ∷ symbol (Ident) 47 48 ∷ symbol (Ident) 48 49 ∷ []) }; tree = record { module_word = 0; name = 1; semicolon = 0; imports = None; decls = (S.decls (Some (record { const_word = 0; each = (record { name = (record { name = 4; star = None }); equal = 0; value = (S.only (S.simple None (S.term (S.False 6) (S.multiplied (TheMulOperator.And 7) (S.Paren 8 (S.compared (S.simple None (S.term (S.Int 9) (S.multiplied (TheMulOperator.Div 10) (S.Int 11) S.no_factor)) S.no_term) (TheRelation.Equal 12) (S.simple None (S.term (S.Int 13) S.no_factor) S.no_term)) 0) S.no_factor)) S.no_term)); semicolon = 0 } ∷ []) })) None None S.no_procedure); body = None; end_word = 0; end_name = 17; period = 0 } }

pub not_evaluated : checked (not_evaluated_0 ∷ []) ≡ Legal (record { records = []; pointers = []; modules = (record { name = (77 ∷ []); objects = (record { name = (99 ∷ []); exported = false; entity = I.OfConstant (I.Bits H.Boolean 0) } ∷ []); variables = []; body = 0 } ∷ []); procedures = (record { module_number = 0; line = 1; is_body = true; formals = []; result = H.Nothing; locals = []; texts = []; body = I.no_statement; answer = None } ∷ []); imports_in = false })
not_evaluated = refl

-- MODULE M; VAR i: INTEGER; BEGIN CASE i OF 1..3: | 2: END END M.
abbrev overlap_0 : Parsed
overlap_0 = record { source = record { bytes = (77 ∷ 79 ∷ 68 ∷ 85 ∷ 76 ∷ 69 ∷ 32 ∷ 77 ∷ 59 ∷ 32 ∷ 86 ∷ 65 ∷ 82 ∷ 32 ∷ 105 ∷ 58 ∷ 32 ∷ 73 ∷ 78 ∷ 84 ∷ 69 ∷ 71 ∷ 69 ∷ 82 ∷ 59 ∷ 32 ∷ 66 ∷ 69 ∷ 71 ∷ 73 ∷ 78 ∷ 32 ∷ 67 ∷ 65 ∷ 83 ∷ 69 ∷ 32 ∷ 105 ∷ 32 ∷ 79 ∷ 70 ∷ 32 ∷ 49 ∷ 46 ∷ 46 ∷ 51 ∷ 58 ∷ 32 ∷ 124 ∷ 32 ∷ 50 ∷ 58 ∷ 32 ∷ 69 ∷ 78 ∷ 68 ∷ 32 ∷ 69 ∷ 78 ∷ 68 ∷ 32 ∷ 77 ∷ 46 ∷ []); symbols = (symbol (Ident) 0 6 ∷ symbol (Ident) 7 8 ∷ symbol (Ident) 8 9 ∷ symbol (Ident) 10 13 ∷ symbol (Ident) 14 15 ∷ symbol (Ident) 15 16 ∷ symbol (Ident) 17 24 ∷ symbol (Ident) 24 25 ∷ symbol (Ident) 26 31 ∷ symbol (Ident) 32 36 ∷ symbol (Ident) 37 38 ∷ symbol (Ident) 39 41 ∷ symbol (Int (pos 1)) 42 43 ∷ symbol (Ident) 43 45 ∷ symbol (Int (pos 3)) 45 46 ∷ symbol (Ident) 46 47 ∷ symbol (Ident) 48 49 ∷ symbol (Int (pos 2)) 50 51 ∷ symbol (Ident) 51 52 ∷ symbol (Ident) 53 56 ∷ symbol (Ident) 57 60 ∷ symbol (Ident) 61 62 ∷ symbol (Ident) 62 63 ∷ []) }; tree = record { module_word = 0; name = 1; semicolon = 0; imports = None; decls = (S.decls None None (Some (record { var_word = 0; each = (record { names = (record { first = (record { name = 4; star = None }); more = [] }); colon = 0; of = (S.Named (record { name = 6; member = None })); semicolon = 0 } ∷ []) })) S.no_procedure); body = (Some (record { begin_word = 0; stats = (S.stats (S.Case 0 (S.only (S.simple None (S.term (S.Designated 10 S.no_selector) S.no_factor) S.no_term)) 0 (S.one_case (record { low = TheLabel.Int 12; high = Some (record { dots = 0; label = TheLabel.Int 14 }) }) [] 0 (S.stats S.Empty S.no_stat)) (S.next_case 0 (S.one_case (record { low = TheLabel.Int 17; high = None }) [] 0 (S.stats S.Empty S.no_stat)) S.no_next_case) 0) S.no_stat) })); end_word = 0; end_name = 21; period = 0 } }

pub overlap : checked (overlap_0 ∷ []) ≡ Fault 0 39 50
overlap = refl

-- MODULE A; VAR v*: INTEGER; END A.
abbrev of_another_0 : Parsed
of_another_0 = record { source = record { bytes = (77 ∷ 79 ∷ 68 ∷ 85 ∷ 76 ∷ 69 ∷ 32 ∷ 65 ∷ 59 ∷ 32 ∷ 86 ∷ 65 ∷ 82 ∷ 32 ∷ 118 ∷ 42 ∷ 58 ∷ 32 ∷ 73 ∷ 78 ∷ 84 ∷ 69 ∷ 71 ∷ 69 ∷ 82 ∷ 59 ∷ 32 ∷ 69 ∷ 78 ∷ 68 ∷ 32 ∷ 65 ∷ 46 ∷ 10 ∷ []); symbols = (symbol (Ident) 0 6 ∷ symbol (Ident) 7 8 ∷ symbol (Ident) 8 9 ∷ symbol (Ident) 10 13 ∷ symbol (Ident) 14 15 ∷ symbol (Ident) 15 16 ∷ symbol (Ident) 16 17 ∷ symbol (Ident) 18 25 ∷ symbol (Ident) 25 26 ∷ symbol (Ident) 27 30 ∷ symbol (Ident) 31 32 ∷ symbol (Ident) 32 33 ∷ []) }; tree = record { module_word = 0; name = 1; semicolon = 0; imports = None; decls = (S.decls None None (Some (record { var_word = 0; each = (record { names = (record { first = (record { name = 4; star = Some 0 }); more = [] }); colon = 0; of = (S.Named (record { name = 7; member = None })); semicolon = 0 } ∷ []) })) S.no_procedure); body = None; end_word = 0; end_name = 10; period = 0 } }

-- MODULE M; IMPORT A; BEGIN A.v := 1 END M.
abbrev of_another_1 : Parsed
of_another_1 = record { source = record { bytes = (77 ∷ 79 ∷ 68 ∷ 85 ∷ 76 ∷ 69 ∷ 32 ∷ 77 ∷ 59 ∷ 32 ∷ 73 ∷ 77 ∷ 80 ∷ 79 ∷ 82 ∷ 84 ∷ 32 ∷ 65 ∷ 59 ∷ 32 ∷ 66 ∷ 69 ∷ 71 ∷ 73 ∷ 78 ∷ 32 ∷ 65 ∷ 46 ∷ 118 ∷ 32 ∷ 58 ∷ 61 ∷ 32 ∷ 49 ∷ 32 ∷ 69 ∷ 78 ∷ 68 ∷ 32 ∷ 77 ∷ 46 ∷ []); symbols = (symbol (Ident) 0 6 ∷ symbol (Ident) 7 8 ∷ symbol (Ident) 8 9 ∷ symbol (Ident) 10 16 ∷ symbol (Ident) 17 18 ∷ symbol (Ident) 18 19 ∷ symbol (Ident) 20 25 ∷ symbol (Ident) 26 27 ∷ symbol (Ident) 27 28 ∷ symbol (Ident) 28 29 ∷ symbol (Ident) 30 32 ∷ symbol (Int (pos 1)) 33 34 ∷ symbol (Ident) 35 38 ∷ symbol (Ident) 39 40 ∷ symbol (Ident) 40 41 ∷ []) }; tree = record { module_word = 0; name = 1; semicolon = 0; imports = Some (record { import_word = 0; first = (record { name = 4; of = None }); more = []; semicolon = 0 }); decls = (S.decls None None None S.no_procedure); body = (Some (record { begin_word = 0; stats = (S.stats (S.AssignOrCall (record { name = 7; selectors = (S.selected (S.Field 0 9) S.no_selector) }) (Some (record { becomes = 0; value = (S.only (S.simple None (S.term (S.Int 11) S.no_factor) S.no_term)) }))) S.no_stat) })); end_word = 0; end_name = 13; period = 0 } }

pub of_another : checked (of_another_0 ∷ of_another_1 ∷ []) ≡ Fault 1 33 26
of_another = refl

-- MODULE M; VAR i: INTEGER; PROCEDURE V(VAR i: INTEGER); END V; BEGIN V((i)) END M.
abbrev parentheses_0 : Parsed
parentheses_0 = record { source = record { bytes = (77 ∷ 79 ∷ 68 ∷ 85 ∷ 76 ∷ 69 ∷ 32 ∷ 77 ∷ 59 ∷ 32 ∷ 86 ∷ 65 ∷ 82 ∷ 32 ∷ 105 ∷ 58 ∷ 32 ∷ 73 ∷ 78 ∷ 84 ∷ 69 ∷ 71 ∷ 69 ∷ 82 ∷ 59 ∷ 32 ∷ 80 ∷ 82 ∷ 79 ∷ 67 ∷ 69 ∷ 68 ∷ 85 ∷ 82 ∷ 69 ∷ 32 ∷ 86 ∷ 40 ∷ 86 ∷ 65 ∷ 82 ∷ 32 ∷ 105 ∷ 58 ∷ 32 ∷ 73 ∷ 78 ∷ 84 ∷ 69 ∷ 71 ∷ 69 ∷ 82 ∷ 41 ∷ 59 ∷ 32 ∷ 69 ∷ 78 ∷ 68 ∷ 32 ∷ 86 ∷ 59 ∷ 32 ∷ 66 ∷ 69 ∷ 71 ∷ 73 ∷ 78 ∷ 32 ∷ 86 ∷ 40 ∷ 40 ∷ 105 ∷ 41 ∷ 41 ∷ 32 ∷ 69 ∷ 78 ∷ 68 ∷ 32 ∷ 77 ∷ 46 ∷ []); symbols = (symbol (Ident) 0 6 ∷ symbol (Ident) 7 8 ∷ symbol (Ident) 8 9 ∷ symbol (Ident) 10 13 ∷ symbol (Ident) 14 15 ∷ symbol (Ident) 15 16 ∷ symbol (Ident) 17 24 ∷ symbol (Ident) 24 25 ∷ symbol (Ident) 26 35 ∷ symbol (Ident) 36 37 ∷ symbol (Ident) 37 38 ∷ symbol (Ident) 38 41 ∷ symbol (Ident) 42 43 ∷ symbol (Ident) 43 44 ∷ symbol (Ident) 45 52 ∷ symbol (Ident) 52 53 ∷ symbol (Ident) 53 54 ∷ symbol (Ident) 55 58 ∷ symbol (Ident) 59 60 ∷ symbol (Ident) 60 61 ∷ symbol (Ident) 62 67 ∷ symbol (Ident) 68 69 ∷ symbol (Ident) 69 70 ∷ symbol (Ident) 70 71 ∷ symbol (Ident) 71 72 ∷ symbol (Ident) 72 73 ∷ symbol (Ident) 73 74 ∷ symbol (Ident) 75 78 ∷ symbol (Ident) 79 80 ∷ symbol (Ident) 80 81 ∷ []) }; tree = record { module_word = 0; name = 1; semicolon = 0; imports = None; decls = (S.decls None None (Some (record { var_word = 0; each = (record { names = (record { first = (record { name = 4; star = None }); more = [] }); colon = 0; of = (S.Named (record { name = 6; member = None })); semicolon = 0 } ∷ []) })) (S.procedure 0 (record { name = 9; star = None }) (Some (record { left_paren = 0; sections = Some (record { first = (record { var_word = Some 0; first = 12; more = []; colon = 0; open_array = None; of = (record { name = 14; member = None }) }); more = [] }); right_paren = 0; result = None })) 0 (S.decls None None None S.no_procedure) None None 17 18 0 S.no_procedure)); body = (Some (record { begin_word = 0; stats = (S.stats (S.AssignOrCall (record { name = 21; selectors = (S.selected (S.Parens 0 (S.expressions (S.only (S.simple None (S.term (S.Paren 23 (S.only (S.simple None (S.term (S.Designated 24 S.no_selector) S.no_factor) S.no_term)) 0) S.no_factor) S.no_term)) S.no_expression) 0) S.no_selector) }) None) S.no_stat) })); end_word = 0; end_name = 28; period = 0 } }

pub parentheses : checked (parentheses_0 ∷ []) ≡ Fault 0 40 70
parentheses = refl

-- MODULE M; VAR a: ARRAY 3 OF CHAR; PROCEDURE P(): BOOLEAN; BEGIN a := ''b'' RETURN a = ''cd'' END P; END M.
abbrev uses_in_order_0 : Parsed
uses_in_order_0 = record { source = record { bytes = (77 ∷ 79 ∷ 68 ∷ 85 ∷ 76 ∷ 69 ∷ 32 ∷ 77 ∷ 59 ∷ 32 ∷ 86 ∷ 65 ∷ 82 ∷ 32 ∷ 97 ∷ 58 ∷ 32 ∷ 65 ∷ 82 ∷ 82 ∷ 65 ∷ 89 ∷ 32 ∷ 51 ∷ 32 ∷ 79 ∷ 70 ∷ 32 ∷ 67 ∷ 72 ∷ 65 ∷ 82 ∷ 59 ∷ 32 ∷ 80 ∷ 82 ∷ 79 ∷ 67 ∷ 69 ∷ 68 ∷ 85 ∷ 82 ∷ 69 ∷ 32 ∷ 80 ∷ 40 ∷ 41 ∷ 58 ∷ 32 ∷ 66 ∷ 79 ∷ 79 ∷ 76 ∷ 69 ∷ 65 ∷ 78 ∷ 59 ∷ 32 ∷ 66 ∷ 69 ∷ 71 ∷ 73 ∷ 78 ∷ 32 ∷ 97 ∷ 32 ∷ 58 ∷ 61 ∷ 32 ∷ 34 ∷ 98 ∷ 34 ∷ 32 ∷ 82 ∷ 69 ∷ 84 ∷ 85 ∷ 82 ∷ 78 ∷ 32 ∷ 97 ∷ 32 ∷ 61 ∷ 32 ∷ 34 ∷ 99 ∷ 100 ∷ 34 ∷ 32 ∷ 69 ∷ 78 ∷ 68 ∷ 32 ∷ 80 ∷ 59 ∷ 32 ∷ 69 ∷ 78 ∷ 68 ∷ 32 ∷ 77 ∷ 46 ∷ []); symbols = (symbol (Ident) 0 6 ∷ symbol (Ident) 7 8 ∷ symbol (Ident) 8 9 ∷ symbol (Ident) 10 13 ∷ symbol (Ident) 14 15 ∷ symbol (Ident) 15 16 ∷ symbol (Ident) 17 22 ∷ symbol (Int (pos 3)) 23 24 ∷ symbol (Ident) 25 27 ∷ symbol (Ident) 28 32 ∷ symbol (Ident) 32 33 ∷ symbol (Ident) 34 43 ∷ symbol (Ident) 44 45 ∷ symbol (Ident) 45 46 ∷ symbol (Ident) 46 47 ∷ symbol (Ident) 47 48 ∷ symbol (Ident) 49 56 ∷ symbol (Ident) 56 57 ∷ symbol (Ident) 58 63 ∷ symbol (Ident) 64 65 ∷ symbol (Ident) 66 68 ∷ symbol (TheKind.Text) 69 72 ∷ symbol (Ident) 73 79 ∷ symbol (Ident) 80 81 ∷ symbol (Ident) 82 83 ∷ symbol (TheKind.Text) 84 88 ∷ symbol (Ident) 89 92 ∷ symbol (Ident) 93 94 ∷ symbol (Ident) 94 95 ∷ symbol (Ident) 96 99 ∷ symbol (Ident) 100 101 ∷ symbol (Ident) 101 102 ∷ []) }; tree = record { module_word = 0; name = 1; semicolon = 0; imports = None; decls = (S.decls None None (Some (record { var_word = 0; each = (record { names = (record { first = (record { name = 4; star = None }); more = [] }); colon = 0; of = (S.Array 6 (S.only (S.simple None (S.term (S.Int 7) S.no_factor) S.no_term)) S.no_expression 0 (S.Named (record { name = 9; member = None }))); semicolon = 0 } ∷ []) })) (S.procedure 0 (record { name = 12; star = None }) (Some (record { left_paren = 0; sections = None; right_paren = 0; result = Some (record { colon = 0; name = (record { name = 16; member = None }) }) })) 0 (S.decls None None None S.no_procedure) (Some (record { begin_word = 0; stats = (S.stats (S.AssignOrCall (record { name = 19; selectors = S.no_selector }) (Some (record { becomes = 0; value = (S.only (S.simple None (S.term (S.Text 21) S.no_factor) S.no_term)) }))) S.no_stat) })) (Some (record { return_word = 22; value = (S.compared (S.simple None (S.term (S.Designated 23 S.no_selector) S.no_factor) S.no_term) (TheRelation.Equal 24) (S.simple None (S.term (S.Text 25) S.no_factor) S.no_term)) })) 26 27 0 S.no_procedure)); body = None; end_word = 0; end_name = 30; period = 0 } }

pub uses_in_order : checked (uses_in_order_0 ∷ []) ≡ Legal (record { records = []; pointers = []; modules = (record { name = (77 ∷ []); objects = (record { name = (97 ∷ []); exported = false; entity = I.OfVariable 0 } ∷ record { name = (80 ∷ []); exported = false; entity = I.OfProcedure 0 } ∷ []); variables = ((H.Array 3 H.Char) ∷ []); body = 1 } ∷ []); procedures = (record { module_number = 0; line = 1; is_body = false; formals = []; result = H.Boolean; locals = []; texts = ((98 ∷ []) ∷ (99 ∷ 100 ∷ []) ∷ []); body = (I.next_statement (I.CopyArray (I.of_type (I.Global 0 0) (H.Array 3 H.Char)) (I.of_type (I.Text (98 ∷ [])) (H.Text 1))) I.no_statement); answer = (Some (record { form = (I.CompareTexts TheComparison.Equal (I.of_type (I.Global 0 0) (H.Array 3 H.Char)) (I.of_type (I.Text (99 ∷ 100 ∷ [])) (H.Text 2))); shape = H.Boolean })) } ∷ record { module_number = 0; line = 1; is_body = true; formals = []; result = H.Nothing; locals = []; texts = []; body = I.no_statement; answer = None } ∷ []); imports_in = false })
uses_in_order = refl
