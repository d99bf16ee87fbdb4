-- Small modules, and what the judgement says of them. Written by bench/judged_rows.py from their texts.
use Rattle.std.specs.Prelude.{◌≡◌, ℕ, [], ◌∷◌, true, false, Some, None, pos}
use Rattle.std.proofs.Common.{refl}
use Rattle.ob_symbol.specs.declared.symbol.Symbol.{Symbol}
use Rattle.ob_symbol.specs.declared.symbol.Kind.{Kind}
use Rattle.ob_symbol.specs.declared.symbol.Kind.TheVariants.{Int, Ident}
use Rattle.ob_symbol.specs.declared.symbol.Kind.TheVariants as TheKind
use Rattle.ob_syntax.specs.Syntax as S
use Rattle.ob_syntax.specs.declared.expressions.Relation.TheVariants as TheRelation
use Rattle.ob_syntax.specs.declared.expressions.AddOperator.TheVariants as TheAddOperator
use Rattle.ob_syntax.specs.declared.expressions.MulOperator.TheVariants as TheMulOperator
use Rattle.ob_syntax.specs.declared.statements.Label.TheVariants as TheLabel
use Rattle.ob_types.specs.declared.types.Mode.TheVariants as TheMode
use Rattle.ob_types.specs.declared.tree.Unary.TheVariants as TheUnary
use Rattle.ob_types.specs.declared.tree.Binary.TheVariants as TheBinary
use Rattle.ob_types.specs.declared.tree.Relation.TheVariants as TheComparison
use Rattle.ob_judge.specs.Shapes as H
use Rattle.ob_judge.specs.Image as I
use Rattle.ob_judge.specs.Modules.{Parsed, Legal, Fault, checked}

abbrev symbol : Kind → ℕ → ℕ → Symbol
symbol kind from to = record { kind = kind; from = from; to = to }

-- MODULE X; BEGIN y := 1 END X.
abbrev undeclared_0 : Parsed
undeclared_0 = record { source = record { bytes = (77 ∷ 79 ∷ 68 ∷ 85 ∷ 76 ∷ 69 ∷ 32 ∷ 88 ∷ 59 ∷ 32 ∷ 66 ∷ 69 ∷ 71 ∷ 73 ∷ 78 ∷ 32 ∷ 121 ∷ 32 ∷ 58 ∷ 61 ∷ 32 ∷ 49 ∷ 32 ∷ 69 ∷ 78 ∷ 68 ∷ 32 ∷ 88 ∷ 46 ∷ []); symbols = (symbol (Ident) 0 6 ∷ symbol (Ident) 7 8 ∷ symbol (Ident) 8 9 ∷ symbol (Ident) 10 15 ∷ symbol (Ident) 16 17 ∷ symbol (Ident) 18 20 ∷ symbol (Int (pos 1)) 21 22 ∷ symbol (Ident) 23 26 ∷ symbol (Ident) 27 28 ∷ symbol (Ident) 28 29 ∷ []) }; tree = record { module_word = 0; name = 1; semicolon = 0; imports = None; decls = (S.decls None None None S.no_procedure); body = (Some (record { begin_word = 0; stats = (S.stats (S.AssignOrCall (record { name = 4; selectors = S.no_selector }) (Some (record { becomes = 0; value = (S.only (S.simple None (S.term (S.Int 6) S.no_factor) S.no_term)) }))) S.no_stat) })); end_word = 0; end_name = 8; period = 0 } }

pub undeclared : checked (undeclared_0 ∷ []) ≡ Fault 0 30 16
undeclared = refl

-- MODULE X; VAR b: BOOLEAN; BEGIN b := 1 + b END X.
abbrev sum_0 : Parsed
sum_0 = record { source = record { bytes = (77 ∷ 79 ∷ 68 ∷ 85 ∷ 76 ∷ 69 ∷ 32 ∷ 88 ∷ 59 ∷ 32 ∷ 86 ∷ 65 ∷ 82 ∷ 32 ∷ 98 ∷ 58 ∷ 32 ∷ 66 ∷ 79 ∷ 79 ∷ 76 ∷ 69 ∷ 65 ∷ 78 ∷ 59 ∷ 32 ∷ 66 ∷ 69 ∷ 71 ∷ 73 ∷ 78 ∷ 32 ∷ 98 ∷ 32 ∷ 58 ∷ 61 ∷ 32 ∷ 49 ∷ 32 ∷ 43 ∷ 32 ∷ 98 ∷ 32 ∷ 69 ∷ 78 ∷ 68 ∷ 32 ∷ 88 ∷ 46 ∷ []); symbols = (symbol (Ident) 0 6 ∷ symbol (Ident) 7 8 ∷ symbol (Ident) 8 9 ∷ symbol (Ident) 10 13 ∷ symbol (Ident) 14 15 ∷ symbol (Ident) 15 16 ∷ symbol (Ident) 17 24 ∷ symbol (Ident) 24 25 ∷ symbol (Ident) 26 31 ∷ symbol (Ident) 32 33 ∷ symbol (Ident) 34 36 ∷ symbol (Int (pos 1)) 37 38 ∷ symbol (Ident) 39 40 ∷ symbol (Ident) 41 42 ∷ symbol (Ident) 43 46 ∷ symbol (Ident) 47 48 ∷ symbol (Ident) 48 49 ∷ []) }; tree = record { module_word = 0; name = 1; semicolon = 0; imports = None; decls = (S.decls None None (Some (record { var_word = 0; each = (record { names = (record { first = (record { name = 4; star = None }); more = [] }); colon = 0; of = (S.Named (record { name = 6; member = None })); semicolon = 0 } ∷ []) })) S.no_procedure); body = (Some (record { begin_word = 0; stats = (S.stats (S.AssignOrCall (record { name = 9; selectors = S.no_selector }) (Some (record { becomes = 0; value = (S.only (S.simple None (S.term (S.Int 11) S.no_factor) (S.added (TheAddOperator.Plus 12) (S.term (S.Designated 13 S.no_selector) S.no_factor) S.no_term))) }))) S.no_stat) })); end_word = 0; end_name = 15; period = 0 } }

pub sum : checked (sum_0 ∷ []) ≡ Fault 0 31 39
sum = refl

-- MODULE X; VAR i: INTEGER; a: ARRAY i OF INTEGER; END X.
abbrev length_0 : Parsed
length_0 = record { source = record { bytes = (77 ∷ 79 ∷ 68 ∷ 85 ∷ 76 ∷ 69 ∷ 32 ∷ 88 ∷ 59 ∷ 32 ∷ 86 ∷ 65 ∷ 82 ∷ 32 ∷ 105 ∷ 58 ∷ 32 ∷ 73 ∷ 78 ∷ 84 ∷ 69 ∷ 71 ∷ 69 ∷ 82 ∷ 59 ∷ 32 ∷ 97 ∷ 58 ∷ 32 ∷ 65 ∷ 82 ∷ 82 ∷ 65 ∷ 89 ∷ 32 ∷ 105 ∷ 32 ∷ 79 ∷ 70 ∷ 32 ∷ 73 ∷ 78 ∷ 84 ∷ 69 ∷ 71 ∷ 69 ∷ 82 ∷ 59 ∷ 32 ∷ 69 ∷ 78 ∷ 68 ∷ 32 ∷ 88 ∷ 46 ∷ []); symbols = (symbol (Ident) 0 6 ∷ symbol (Ident) 7 8 ∷ symbol (Ident) 8 9 ∷ symbol (Ident) 10 13 ∷ symbol (Ident) 14 15 ∷ symbol (Ident) 15 16 ∷ symbol (Ident) 17 24 ∷ symbol (Ident) 24 25 ∷ symbol (Ident) 26 27 ∷ symbol (Ident) 27 28 ∷ symbol (Ident) 29 34 ∷ symbol (Ident) 35 36 ∷ symbol (Ident) 37 39 ∷ symbol (Ident) 40 47 ∷ symbol (Ident) 47 48 ∷ symbol (Ident) 49 52 ∷ symbol (Ident) 53 54 ∷ symbol (Ident) 54 55 ∷ []) }; tree = record { module_word = 0; name = 1; semicolon = 0; imports = None; decls = (S.decls None None (Some (record { var_word = 0; each = (record { names = (record { first = (record { name = 4; star = None }); more = [] }); colon = 0; of = (S.Named (record { name = 6; member = None })); semicolon = 0 } ∷ record { names = (record { first = (record { name = 8; star = None }); more = [] }); colon = 0; of = (S.Array 10 (S.only (S.simple None (S.term (S.Designated 11 S.no_selector) S.no_factor) S.no_term)) S.no_expression 0 (S.Named (record { name = 13; member = None }))); semicolon = 0 } ∷ []) })) S.no_procedure); body = None; end_word = 0; end_name = 16; period = 0 } }

pub length : checked (length_0 ∷ []) ≡ Fault 0 32 35
length = refl

-- MODULE X; IMPORT In; BEGIN In.Done := TRUE END X.
abbrev done_0 : Parsed
done_0 = record { source = record { bytes = (77 ∷ 79 ∷ 68 ∷ 85 ∷ 76 ∷ 69 ∷ 32 ∷ 88 ∷ 59 ∷ 32 ∷ 73 ∷ 77 ∷ 80 ∷ 79 ∷ 82 ∷ 84 ∷ 32 ∷ 73 ∷ 110 ∷ 59 ∷ 32 ∷ 66 ∷ 69 ∷ 71 ∷ 73 ∷ 78 ∷ 32 ∷ 73 ∷ 110 ∷ 46 ∷ 68 ∷ 111 ∷ 110 ∷ 101 ∷ 32 ∷ 58 ∷ 61 ∷ 32 ∷ 84 ∷ 82 ∷ 85 ∷ 69 ∷ 32 ∷ 69 ∷ 78 ∷ 68 ∷ 32 ∷ 88 ∷ 46 ∷ []); symbols = (symbol (Ident) 0 6 ∷ symbol (Ident) 7 8 ∷ symbol (Ident) 8 9 ∷ symbol (Ident) 10 16 ∷ symbol (Ident) 17 19 ∷ symbol (Ident) 19 20 ∷ symbol (Ident) 21 26 ∷ symbol (Ident) 27 29 ∷ symbol (Ident) 29 30 ∷ symbol (Ident) 30 34 ∷ symbol (Ident) 35 37 ∷ symbol (Ident) 38 42 ∷ symbol (Ident) 43 46 ∷ symbol (Ident) 47 48 ∷ symbol (Ident) 48 49 ∷ []) }; tree = record { module_word = 0; name = 1; semicolon = 0; imports = Some (record { import_word = 0; first = (record { name = 4; of = None }); more = []; semicolon = 0 }); decls = (S.decls None None None S.no_procedure); body = (Some (record { begin_word = 0; stats = (S.stats (S.AssignOrCall (record { name = 7; selectors = (S.selected (S.Field 0 9) S.no_selector) }) (Some (record { becomes = 0; value = (S.only (S.simple None (S.term (S.True 11) S.no_factor) S.no_term)) }))) S.no_stat) })); end_word = 0; end_name = 13; period = 0 } }

pub done : checked (done_0 ∷ []) ≡ Fault 0 33 27
done = refl

-- MODULE X; PROCEDURE P; VAR a: INTEGER; PROCEDURE Q; BEGIN a := 1 END Q; END P; END X.
abbrev outer_0 : Parsed
outer_0 = record { source = record { bytes = (77 ∷ 79 ∷ 68 ∷ 85 ∷ 76 ∷ 69 ∷ 32 ∷ 88 ∷ 59 ∷ 32 ∷ 80 ∷ 82 ∷ 79 ∷ 67 ∷ 69 ∷ 68 ∷ 85 ∷ 82 ∷ 69 ∷ 32 ∷ 80 ∷ 59 ∷ 32 ∷ 86 ∷ 65 ∷ 82 ∷ 32 ∷ 97 ∷ 58 ∷ 32 ∷ 73 ∷ 78 ∷ 84 ∷ 69 ∷ 71 ∷ 69 ∷ 82 ∷ 59 ∷ 32 ∷ 80 ∷ 82 ∷ 79 ∷ 67 ∷ 69 ∷ 68 ∷ 85 ∷ 82 ∷ 69 ∷ 32 ∷ 81 ∷ 59 ∷ 32 ∷ 66 ∷ 69 ∷ 71 ∷ 73 ∷ 78 ∷ 32 ∷ 97 ∷ 32 ∷ 58 ∷ 61 ∷ 32 ∷ 49 ∷ 32 ∷ 69 ∷ 78 ∷ 68 ∷ 32 ∷ 81 ∷ 59 ∷ 32 ∷ 69 ∷ 78 ∷ 68 ∷ 32 ∷ 80 ∷ 59 ∷ 32 ∷ 69 ∷ 78 ∷ 68 ∷ 32 ∷ 88 ∷ 46 ∷ []); symbols = (symbol (Ident) 0 6 ∷ symbol (Ident) 7 8 ∷ symbol (Ident) 8 9 ∷ symbol (Ident) 10 19 ∷ symbol (Ident) 20 21 ∷ symbol (Ident) 21 22 ∷ symbol (Ident) 23 26 ∷ symbol (Ident) 27 28 ∷ symbol (Ident) 28 29 ∷ symbol (Ident) 30 37 ∷ symbol (Ident) 37 38 ∷ symbol (Ident) 39 48 ∷ symbol (Ident) 49 50 ∷ symbol (Ident) 50 51 ∷ symbol (Ident) 52 57 ∷ symbol (Ident) 58 59 ∷ symbol (Ident) 60 62 ∷ symbol (Int (pos 1)) 63 64 ∷ symbol (Ident) 65 68 ∷ symbol (Ident) 69 70 ∷ symbol (Ident) 70 71 ∷ symbol (Ident) 72 75 ∷ symbol (Ident) 76 77 ∷ symbol (Ident) 77 78 ∷ symbol (Ident) 79 82 ∷ symbol (Ident) 83 84 ∷ symbol (Ident) 84 85 ∷ []) }; tree = record { module_word = 0; name = 1; semicolon = 0; imports = None; decls = (S.decls None None None (S.procedure 0 (record { name = 4; star = None }) None 0 (S.decls None None (Some (record { var_word = 0; each = (record { names = (record { first = (record { name = 7; star = None }); more = [] }); colon = 0; of = (S.Named (record { name = 9; member = None })); semicolon = 0 } ∷ []) })) (S.procedure 0 (record { name = 12; star = None }) None 0 (S.decls None None None S.no_procedure) (Some (record { begin_word = 0; stats = (S.stats (S.AssignOrCall (record { name = 15; selectors = S.no_selector }) (Some (record { becomes = 0; value = (S.only (S.simple None (S.term (S.Int 17) S.no_factor) S.no_term)) }))) S.no_stat) })) None 18 19 0 S.no_procedure)) None None 21 22 0 S.no_procedure)); body = None; end_word = 0; end_name = 25; period = 0 } }

pub outer : checked (outer_0 ∷ []) ≡ Fault 0 34 58
outer = refl

-- MODULE X; CONST c = 1 DIV 0; END X.
abbrev divisor_0 : Parsed
divisor_0 = record { source = record { bytes = (77 ∷ 79 ∷ 68 ∷ 85 ∷ 76 ∷ 69 ∷ 32 ∷ 88 ∷ 59 ∷ 32 ∷ 67 ∷ 79 ∷ 78 ∷ 83 ∷ 84 ∷ 32 ∷ 99 ∷ 32 ∷ 61 ∷ 32 ∷ 49 ∷ 32 ∷ 68 ∷ 73 ∷ 86 ∷ 32 ∷ 48 ∷ 59 ∷ 32 ∷ 69 ∷ 78 ∷ 68 ∷ 32 ∷ 88 ∷ 46 ∷ []); symbols = (symbol (Ident) 0 6 ∷ symbol (Ident) 7 8 ∷ symbol (Ident) 8 9 ∷ symbol (Ident) 10 15 ∷ symbol (Ident) 16 17 ∷ symbol (Ident) 18 19 ∷ symbol (Int (pos 1)) 20 21 ∷ symbol (Ident) 22 25 ∷ symbol (Int (pos 0)) 26 27 ∷ symbol (Ident) 27 28 ∷ symbol (Ident) 29 32 ∷ symbol (Ident) 33 34 ∷ symbol (Ident) 34 35 ∷ []) }; tree = record { module_word = 0; name = 1; semicolon = 0; imports = None; decls = (S.decls (Some (record { const_word = 0; each = (record { name = (record { name = 4; star = None }); equal = 0; value = (S.only (S.simple None (S.term (S.Int 6) (S.multiplied (TheMulOperator.Div 7) (S.Int 8) S.no_factor)) S.no_term)); semicolon = 0 } ∷ []) })) None None S.no_procedure); body = None; end_word = 0; end_name = 11; period = 0 } }

pub divisor : checked (divisor_0 ∷ []) ≡ Fault 0 35 20
divisor = refl

-- MODULE X; VAR a, a: INTEGER; END X.
abbrev twice_0 : Parsed
twice_0 = record { source = record { bytes = (77 ∷ 79 ∷ 68 ∷ 85 ∷ 76 ∷ 69 ∷ 32 ∷ 88 ∷ 59 ∷ 32 ∷ 86 ∷ 65 ∷ 82 ∷ 32 ∷ 97 ∷ 44 ∷ 32 ∷ 97 ∷ 58 ∷ 32 ∷ 73 ∷ 78 ∷ 84 ∷ 69 ∷ 71 ∷ 69 ∷ 82 ∷ 59 ∷ 32 ∷ 69 ∷ 78 ∷ 68 ∷ 32 ∷ 88 ∷ 46 ∷ []); symbols = (symbol (Ident) 0 6 ∷ symbol (Ident) 7 8 ∷ symbol (Ident) 8 9 ∷ symbol (Ident) 10 13 ∷ symbol (Ident) 14 15 ∷ symbol (Ident) 15 16 ∷ symbol (Ident) 17 18 ∷ symbol (Ident) 18 19 ∷ symbol (Ident) 20 27 ∷ symbol (Ident) 27 28 ∷ symbol (Ident) 29 32 ∷ symbol (Ident) 33 34 ∷ symbol (Ident) 34 35 ∷ []) }; tree = record { module_word = 0; name = 1; semicolon = 0; imports = None; decls = (S.decls None None (Some (record { var_word = 0; each = (record { names = (record { first = (record { name = 4; star = None }); more = (record { comma = 0; name = (record { name = 6; star = None }) } ∷ []) }); colon = 0; of = (S.Named (record { name = 8; member = None })); semicolon = 0 } ∷ []) })) S.no_procedure); body = None; end_word = 0; end_name = 11; period = 0 } }

pub twice : checked (twice_0 ∷ []) ≡ Fault 0 36 17
twice = refl

-- MODULE X; END Y.
abbrev other_end_0 : Parsed
other_end_0 = record { source = record { bytes = (77 ∷ 79 ∷ 68 ∷ 85 ∷ 76 ∷ 69 ∷ 32 ∷ 88 ∷ 59 ∷ 32 ∷ 69 ∷ 78 ∷ 68 ∷ 32 ∷ 89 ∷ 46 ∷ []); symbols = (symbol (Ident) 0 6 ∷ symbol (Ident) 7 8 ∷ symbol (Ident) 8 9 ∷ symbol (Ident) 10 13 ∷ symbol (Ident) 14 15 ∷ symbol (Ident) 15 16 ∷ []) }; tree = record { module_word = 0; name = 1; semicolon = 0; imports = None; decls = (S.decls None None None S.no_procedure); body = None; end_word = 0; end_name = 4; period = 0 } }

pub other_end : checked (other_end_0 ∷ []) ≡ Fault 0 37 14
other_end = refl

-- MODULE B; IMPORT A, Out; BEGIN Out.Int(A.Twice(21), 0); Out.Ln END B.
abbrev alone_0 : Parsed
alone_0 = record { source = record { bytes = (77 ∷ 79 ∷ 68 ∷ 85 ∷ 76 ∷ 69 ∷ 32 ∷ 66 ∷ 59 ∷ 32 ∷ 73 ∷ 77 ∷ 80 ∷ 79 ∷ 82 ∷ 84 ∷ 32 ∷ 65 ∷ 44 ∷ 32 ∷ 79 ∷ 117 ∷ 116 ∷ 59 ∷ 32 ∷ 66 ∷ 69 ∷ 71 ∷ 73 ∷ 78 ∷ 32 ∷ 79 ∷ 117 ∷ 116 ∷ 46 ∷ 73 ∷ 110 ∷ 116 ∷ 40 ∷ 65 ∷ 46 ∷ 84 ∷ 119 ∷ 105 ∷ 99 ∷ 101 ∷ 40 ∷ 50 ∷ 49 ∷ 41 ∷ 44 ∷ 32 ∷ 48 ∷ 41 ∷ 59 ∷ 32 ∷ 79 ∷ 117 ∷ 116 ∷ 46 ∷ 76 ∷ 110 ∷ 32 ∷ 69 ∷ 78 ∷ 68 ∷ 32 ∷ 66 ∷ 46 ∷ []); symbols = (symbol (Ident) 0 6 ∷ symbol (Ident) 7 8 ∷ symbol (Ident) 8 9 ∷ symbol (Ident) 10 16 ∷ symbol (Ident) 17 18 ∷ symbol (Ident) 18 19 ∷ symbol (Ident) 20 23 ∷ symbol (Ident) 23 24 ∷ symbol (Ident) 25 30 ∷ symbol (Ident) 31 34 ∷ symbol (Ident) 34 35 ∷ symbol (Ident) 35 38 ∷ symbol (Ident) 38 39 ∷ symbol (Ident) 39 40 ∷ symbol (Ident) 40 41 ∷ symbol (Ident) 41 46 ∷ symbol (Ident) 46 47 ∷ symbol (Int (pos 21)) 47 49 ∷ symbol (Ident) 49 50 ∷ symbol (Ident) 50 51 ∷ symbol (Int (pos 0)) 52 53 ∷ symbol (Ident) 53 54 ∷ symbol (Ident) 54 55 ∷ symbol (Ident) 56 59 ∷ symbol (Ident) 59 60 ∷ symbol (Ident) 60 62 ∷ symbol (Ident) 63 66 ∷ symbol (Ident) 67 68 ∷ symbol (Ident) 68 69 ∷ []) }; tree = record { module_word = 0; name = 1; semicolon = 0; imports = Some (record { import_word = 0; first = (record { name = 4; of = None }); more = (record { comma = 0; import = (record { name = 6; of = None }) } ∷ []); semicolon = 0 }); decls = (S.decls None None None S.no_procedure); body = (Some (record { begin_word = 0; stats = (S.stats (S.AssignOrCall (record { name = 9; selectors = (S.selected (S.Field 0 11) (S.selected (S.Parens 0 (S.expressions (S.only (S.simple None (S.term (S.Designated 13 (S.selected (S.Field 0 15) (S.selected (S.Parens 0 (S.expressions (S.only (S.simple None (S.term (S.Int 17) S.no_factor) S.no_term)) S.no_expression) 0) S.no_selector))) S.no_factor) S.no_term)) (S.next_expression 0 (S.only (S.simple None (S.term (S.Int 20) S.no_factor) S.no_term)) S.no_expression)) 0) S.no_selector)) }) None) (S.next_stat 0 (S.AssignOrCall (record { name = 23; selectors = (S.selected (S.Field 0 25) S.no_selector) }) None) S.no_stat)) })); end_word = 0; end_name = 27; period = 0 } }

pub alone : checked (alone_0 ∷ []) ≡ Fault 0 38 17
alone = refl

-- MODULE X; VAR i: INTEGER; BEGIN CASE i OF 1: | 1: END END X.
abbrev label_0 : Parsed
label_0 = record { source = record { bytes = (77 ∷ 79 ∷ 68 ∷ 85 ∷ 76 ∷ 69 ∷ 32 ∷ 88 ∷ 59 ∷ 32 ∷ 86 ∷ 65 ∷ 82 ∷ 32 ∷ 105 ∷ 58 ∷ 32 ∷ 73 ∷ 78 ∷ 84 ∷ 69 ∷ 71 ∷ 69 ∷ 82 ∷ 59 ∷ 32 ∷ 66 ∷ 69 ∷ 71 ∷ 73 ∷ 78 ∷ 32 ∷ 67 ∷ 65 ∷ 83 ∷ 69 ∷ 32 ∷ 105 ∷ 32 ∷ 79 ∷ 70 ∷ 32 ∷ 49 ∷ 58 ∷ 32 ∷ 124 ∷ 32 ∷ 49 ∷ 58 ∷ 32 ∷ 69 ∷ 78 ∷ 68 ∷ 32 ∷ 69 ∷ 78 ∷ 68 ∷ 32 ∷ 88 ∷ 46 ∷ []); symbols = (symbol (Ident) 0 6 ∷ symbol (Ident) 7 8 ∷ symbol (Ident) 8 9 ∷ symbol (Ident) 10 13 ∷ symbol (Ident) 14 15 ∷ symbol (Ident) 15 16 ∷ symbol (Ident) 17 24 ∷ symbol (Ident) 24 25 ∷ symbol (Ident) 26 31 ∷ symbol (Ident) 32 36 ∷ symbol (Ident) 37 38 ∷ symbol (Ident) 39 41 ∷ symbol (Int (pos 1)) 42 43 ∷ symbol (Ident) 43 44 ∷ symbol (Ident) 45 46 ∷ symbol (Int (pos 1)) 47 48 ∷ symbol (Ident) 48 49 ∷ symbol (Ident) 50 53 ∷ symbol (Ident) 54 57 ∷ symbol (Ident) 58 59 ∷ symbol (Ident) 59 60 ∷ []) }; tree = record { module_word = 0; name = 1; semicolon = 0; imports = None; decls = (S.decls None None (Some (record { var_word = 0; each = (record { names = (record { first = (record { name = 4; star = None }); more = [] }); colon = 0; of = (S.Named (record { name = 6; member = None })); semicolon = 0 } ∷ []) })) S.no_procedure); body = (Some (record { begin_word = 0; stats = (S.stats (S.Case 0 (S.only (S.simple None (S.term (S.Designated 10 S.no_selector) S.no_factor) S.no_term)) 0 (S.one_case (record { low = TheLabel.Int 12; high = None }) [] 0 (S.stats S.Empty S.no_stat)) (S.next_case 0 (S.one_case (record { low = TheLabel.Int 15; high = None }) [] 0 (S.stats S.Empty S.no_stat)) S.no_next_case) 0) S.no_stat) })); end_word = 0; end_name = 19; period = 0 } }

pub label : checked (label_0 ∷ []) ≡ Fault 0 39 47
label = refl

-- MODULE X; BEGIN ASSERT() END X.
abbrev no_argument_0 : Parsed
no_argument_0 = record { source = record { bytes = (77 ∷ 79 ∷ 68 ∷ 85 ∷ 76 ∷ 69 ∷ 32 ∷ 88 ∷ 59 ∷ 32 ∷ 66 ∷ 69 ∷ 71 ∷ 73 ∷ 78 ∷ 32 ∷ 65 ∷ 83 ∷ 83 ∷ 69 ∷ 82 ∷ 84 ∷ 40 ∷ 41 ∷ 32 ∷ 69 ∷ 78 ∷ 68 ∷ 32 ∷ 88 ∷ 46 ∷ []); symbols = (symbol (Ident) 0 6 ∷ symbol (Ident) 7 8 ∷ symbol (Ident) 8 9 ∷ symbol (Ident) 10 15 ∷ symbol (Ident) 16 22 ∷ symbol (Ident) 22 23 ∷ symbol (Ident) 23 24 ∷ symbol (Ident) 25 28 ∷ symbol (Ident) 29 30 ∷ symbol (Ident) 30 31 ∷ []) }; tree = record { module_word = 0; name = 1; semicolon = 0; imports = None; decls = (S.decls None None None S.no_procedure); body = (Some (record { begin_word = 0; stats = (S.stats (S.AssignOrCall (record { name = 4; selectors = (S.selected (S.EmptyParens 0 0) S.no_selector) }) None) S.no_stat) })); end_word = 0; end_name = 8; period = 0 } }

pub no_argument : checked (no_argument_0 ∷ []) ≡ Fault 0 40 16
no_argument = refl

-- MODULE X; PROCEDURE P(): INTEGER; END P; END X.
abbrev no_return_0 : Parsed
no_return_0 = record { source = record { bytes = (77 ∷ 79 ∷ 68 ∷ 85 ∷ 76 ∷ 69 ∷ 32 ∷ 88 ∷ 59 ∷ 32 ∷ 80 ∷ 82 ∷ 79 ∷ 67 ∷ 69 ∷ 68 ∷ 85 ∷ 82 ∷ 69 ∷ 32 ∷ 80 ∷ 40 ∷ 41 ∷ 58 ∷ 32 ∷ 73 ∷ 78 ∷ 84 ∷ 69 ∷ 71 ∷ 69 ∷ 82 ∷ 59 ∷ 32 ∷ 69 ∷ 78 ∷ 68 ∷ 32 ∷ 80 ∷ 59 ∷ 32 ∷ 69 ∷ 78 ∷ 68 ∷ 32 ∷ 88 ∷ 46 ∷ []); symbols = (symbol (Ident) 0 6 ∷ symbol (Ident) 7 8 ∷ symbol (Ident) 8 9 ∷ symbol (Ident) 10 19 ∷ symbol (Ident) 20 21 ∷ symbol (Ident) 21 22 ∷ symbol (Ident) 22 23 ∷ symbol (Ident) 23 24 ∷ symbol (Ident) 25 32 ∷ symbol (Ident) 32 33 ∷ symbol (Ident) 34 37 ∷ symbol (Ident) 38 39 ∷ symbol (Ident) 39 40 ∷ symbol (Ident) 41 44 ∷ symbol (Ident) 45 46 ∷ symbol (Ident) 46 47 ∷ []) }; tree = record { module_word = 0; name = 1; semicolon = 0; imports = None; decls = (S.decls None None None (S.procedure 0 (record { name = 4; star = None }) (Some (record { left_paren = 0; sections = None; right_paren = 0; result = Some (record { colon = 0; name = (record { name = 8; member = None }) }) })) 0 (S.decls None None None S.no_procedure) None None 10 11 0 S.no_procedure)); body = None; end_word = 0; end_name = 14; period = 0 } }

pub no_return : checked (no_return_0 ∷ []) ≡ Fault 0 41 34
no_return = refl

-- MODULE X; TYPE T = RECORD (INTEGER) END; END X.
abbrev integer_base_0 : Parsed
integer_base_0 = record { source = record { bytes = (77 ∷ 79 ∷ 68 ∷ 85 ∷ 76 ∷ 69 ∷ 32 ∷ 88 ∷ 59 ∷ 32 ∷ 84 ∷ 89 ∷ 80 ∷ 69 ∷ 32 ∷ 84 ∷ 32 ∷ 61 ∷ 32 ∷ 82 ∷ 69 ∷ 67 ∷ 79 ∷ 82 ∷ 68 ∷ 32 ∷ 40 ∷ 73 ∷ 78 ∷ 84 ∷ 69 ∷ 71 ∷ 69 ∷ 82 ∷ 41 ∷ 32 ∷ 69 ∷ 78 ∷ 68 ∷ 59 ∷ 32 ∷ 69 ∷ 78 ∷ 68 ∷ 32 ∷ 88 ∷ 46 ∷ []); symbols = (symbol (Ident) 0 6 ∷ symbol (Ident) 7 8 ∷ symbol (Ident) 8 9 ∷ symbol (Ident) 10 14 ∷ symbol (Ident) 15 16 ∷ symbol (Ident) 17 18 ∷ symbol (Ident) 19 25 ∷ symbol (Ident) 26 27 ∷ symbol (Ident) 27 34 ∷ symbol (Ident) 34 35 ∷ symbol (Ident) 36 39 ∷ symbol (Ident) 39 40 ∷ symbol (Ident) 41 44 ∷ symbol (Ident) 45 46 ∷ symbol (Ident) 46 47 ∷ []) }; tree = record { module_word = 0; name = 1; semicolon = 0; imports = None; decls = (S.decls None (Some (record { type_word = 0; each = (record { name = (record { name = 4; star = None }); equal = 0; is = (S.Record 6 (Some (record { left_paren = 0; name = (record { name = 8; member = None }); right_paren = 0 })) S.no_fields S.no_more_fields 0); semicolon = 0 } ∷ []) })) None S.no_procedure); body = None; end_word = 0; end_name = 13; period = 0 } }

pub integer_base : checked (integer_base_0 ∷ []) ≡ Fault 0 42 27
integer_base = refl

-- MODULE A; PROCEDURE Twice*(x: INTEGER): INTEGER; RETURN 2*x END Twice; END A.
abbrev in_order_0 : Parsed
in_order_0 = record { source = record { bytes = (77 ∷ 79 ∷ 68 ∷ 85 ∷ 76 ∷ 69 ∷ 32 ∷ 65 ∷ 59 ∷ 32 ∷ 80 ∷ 82 ∷ 79 ∷ 67 ∷ 69 ∷ 68 ∷ 85 ∷ 82 ∷ 69 ∷ 32 ∷ 84 ∷ 119 ∷ 105 ∷ 99 ∷ 101 ∷ 42 ∷ 40 ∷ 120 ∷ 58 ∷ 32 ∷ 73 ∷ 78 ∷ 84 ∷ 69 ∷ 71 ∷ 69 ∷ 82 ∷ 41 ∷ 58 ∷ 32 ∷ 73 ∷ 78 ∷ 84 ∷ 69 ∷ 71 ∷ 69 ∷ 82 ∷ 59 ∷ 32 ∷ 82 ∷ 69 ∷ 84 ∷ 85 ∷ 82 ∷ 78 ∷ 32 ∷ 50 ∷ 42 ∷ 120 ∷ 32 ∷ 69 ∷ 78 ∷ 68 ∷ 32 ∷ 84 ∷ 119 ∷ 105 ∷ 99 ∷ 101 ∷ 59 ∷ 32 ∷ 69 ∷ 78 ∷ 68 ∷ 32 ∷ 65 ∷ 46 ∷ 10 ∷ []); symbols = (symbol (Ident) 0 6 ∷ symbol (Ident) 7 8 ∷ symbol (Ident) 8 9 ∷ symbol (Ident) 10 19 ∷ symbol (Ident) 20 25 ∷ symbol (Ident) 25 26 ∷ symbol (Ident) 26 27 ∷ symbol (Ident) 27 28 ∷ symbol (Ident) 28 29 ∷ symbol (Ident) 30 37 ∷ symbol (Ident) 37 38 ∷ symbol (Ident) 38 39 ∷ symbol (Ident) 40 47 ∷ symbol (Ident) 47 48 ∷ symbol (Ident) 49 55 ∷ symbol (Int (pos 2)) 56 57 ∷ symbol (Ident) 57 58 ∷ symbol (Ident) 58 59 ∷ symbol (Ident) 60 63 ∷ symbol (Ident) 64 69 ∷ symbol (Ident) 69 70 ∷ symbol (Ident) 71 74 ∷ symbol (Ident) 75 76 ∷ symbol (Ident) 76 77 ∷ []) }; tree = record { module_word = 0; name = 1; semicolon = 0; imports = None; decls = (S.decls None None None (S.procedure 0 (record { name = 4; star = Some 0 }) (Some (record { left_paren = 0; sections = Some (record { first = (record { var_word = None; first = 7; more = []; colon = 0; open_array = None; of = (record { name = 9; member = None }) }); more = [] }); right_paren = 0; result = Some (record { colon = 0; name = (record { name = 12; member = None }) }) })) 0 (S.decls None None None S.no_procedure) None (Some (record { return_word = 14; value = (S.only (S.simple None (S.term (S.Int 15) (S.multiplied (TheMulOperator.Times 16) (S.Designated 17 S.no_selector) S.no_factor)) S.no_term)) })) 18 19 0 S.no_procedure)); body = None; end_word = 0; end_name = 22; period = 0 } }

-- MODULE B; IMPORT A, Out; BEGIN Out.Int(A.Twice(21), 0); Out.Ln END B.
abbrev in_order_1 : Parsed
in_order_1 = record { source = record { bytes = (77 ∷ 79 ∷ 68 ∷ 85 ∷ 76 ∷ 69 ∷ 32 ∷ 66 ∷ 59 ∷ 32 ∷ 73 ∷ 77 ∷ 80 ∷ 79 ∷ 82 ∷ 84 ∷ 32 ∷ 65 ∷ 44 ∷ 32 ∷ 79 ∷ 117 ∷ 116 ∷ 59 ∷ 32 ∷ 66 ∷ 69 ∷ 71 ∷ 73 ∷ 78 ∷ 32 ∷ 79 ∷ 117 ∷ 116 ∷ 46 ∷ 73 ∷ 110 ∷ 116 ∷ 40 ∷ 65 ∷ 46 ∷ 84 ∷ 119 ∷ 105 ∷ 99 ∷ 101 ∷ 40 ∷ 50 ∷ 49 ∷ 41 ∷ 44 ∷ 32 ∷ 48 ∷ 41 ∷ 59 ∷ 32 ∷ 79 ∷ 117 ∷ 116 ∷ 46 ∷ 76 ∷ 110 ∷ 32 ∷ 69 ∷ 78 ∷ 68 ∷ 32 ∷ 66 ∷ 46 ∷ []); symbols = (symbol (Ident) 0 6 ∷ symbol (Ident) 7 8 ∷ symbol (Ident) 8 9 ∷ symbol (Ident) 10 16 ∷ symbol (Ident) 17 18 ∷ symbol (Ident) 18 19 ∷ symbol (Ident) 20 23 ∷ symbol (Ident) 23 24 ∷ symbol (Ident) 25 30 ∷ symbol (Ident) 31 34 ∷ symbol (Ident) 34 35 ∷ symbol (Ident) 35 38 ∷ symbol (Ident) 38 39 ∷ symbol (Ident) 39 40 ∷ symbol (Ident) 40 41 ∷ symbol (Ident) 41 46 ∷ symbol (Ident) 46 47 ∷ symbol (Int (pos 21)) 47 49 ∷ symbol (Ident) 49 50 ∷ symbol (Ident) 50 51 ∷ symbol (Int (pos 0)) 52 53 ∷ symbol (Ident) 53 54 ∷ symbol (Ident) 54 55 ∷ symbol (Ident) 56 59 ∷ symbol (Ident) 59 60 ∷ symbol (Ident) 60 62 ∷ symbol (Ident) 63 66 ∷ symbol (Ident) 67 68 ∷ symbol (Ident) 68 69 ∷ []) }; tree = record { module_word = 0; name = 1; semicolon = 0; imports = Some (record { import_word = 0; first = (record { name = 4; of = None }); more = (record { comma = 0; import = (record { name = 6; of = None }) } ∷ []); semicolon = 0 }); decls = (S.decls None None None S.no_procedure); body = (Some (record { begin_word = 0; stats = (S.stats (S.AssignOrCall (record { name = 9; selectors = (S.selected (S.Field 0 11) (S.selected (S.Parens 0 (S.expressions (S.only (S.simple None (S.term (S.Designated 13 (S.selected (S.Field 0 15) (S.selected (S.Parens 0 (S.expressions (S.only (S.simple None (S.term (S.Int 17) S.no_factor) S.no_term)) S.no_expression) 0) S.no_selector))) S.no_factor) S.no_term)) (S.next_expression 0 (S.only (S.simple None (S.term (S.Int 20) S.no_factor) S.no_term)) S.no_expression)) 0) S.no_selector)) }) None) (S.next_stat 0 (S.AssignOrCall (record { name = 23; selectors = (S.selected (S.Field 0 25) S.no_selector) }) None) S.no_stat)) })); end_word = 0; end_name = 27; period = 0 } }

pub in_order : checked (in_order_0 ∷ in_order_1 ∷ []) ≡ Legal (record { records = []; pointers = []; modules = (record { name = (65 ∷ []); objects = (record { name = (84 ∷ 119 ∷ 105 ∷ 99 ∷ 101 ∷ []); exported = true; entity = I.OfProcedure 0 } ∷ []); variables = []; body = 1 } ∷ record { name = (66 ∷ []); objects = []; variables = []; body = 2 } ∷ []); procedures = (record { module_number = 0; line = 1; is_body = false; formals = (record { mode = TheMode.Value; variable = false; shape = H.Integer } ∷ []); result = H.Integer; locals = []; texts = []; body = I.no_statement; answer = (Some (record { form = (I.Linked (I.Literal 2) (I.Operate TheBinary.Multiply (I.Load (I.of_type (I.Local 0) H.Integer)))); shape = H.Integer })) } ∷ record { module_number = 0; line = 1; is_body = true; formals = []; result = H.Nothing; locals = []; texts = []; body = I.no_statement; answer = None } ∷ record { module_number = 1; line = 1; is_body = true; formals = []; result = H.Nothing; locals = []; texts = []; body = (I.next_statement (I.OutInt (record { form = (I.Result (I.Direct 0 (I.next_argument (I.ByValue (I.Literal 21)) I.no_argument))); shape = H.Integer }) (record { form = (I.Literal 0); shape = H.Integer })) (I.next_statement I.OutLn I.no_statement)); answer = None } ∷ []); imports_in = false })
in_order = refl

-- MODULE B; IMPORT A, Out; BEGIN Out.Int(A.Twice(21), 0); Out.Ln END B.
abbrev out_of_order_0 : Parsed
out_of_order_0 = record { source = record { bytes = (77 ∷ 79 ∷ 68 ∷ 85 ∷ 76 ∷ 69 ∷ 32 ∷ 66 ∷ 59 ∷ 32 ∷ 73 ∷ 77 ∷ 80 ∷ 79 ∷ 82 ∷ 84 ∷ 32 ∷ 65 ∷ 44 ∷ 32 ∷ 79 ∷ 117 ∷ 116 ∷ 59 ∷ 32 ∷ 66 ∷ 69 ∷ 71 ∷ 73 ∷ 78 ∷ 32 ∷ 79 ∷ 117 ∷ 116 ∷ 46 ∷ 73 ∷ 110 ∷ 116 ∷ 40 ∷ 65 ∷ 46 ∷ 84 ∷ 119 ∷ 105 ∷ 99 ∷ 101 ∷ 40 ∷ 50 ∷ 49 ∷ 41 ∷ 44 ∷ 32 ∷ 48 ∷ 41 ∷ 59 ∷ 32 ∷ 79 ∷ 117 ∷ 116 ∷ 46 ∷ 76 ∷ 110 ∷ 32 ∷ 69 ∷ 78 ∷ 68 ∷ 32 ∷ 66 ∷ 46 ∷ 10 ∷ []); symbols = (symbol (Ident) 0 6 ∷ symbol (Ident) 7 8 ∷ symbol (Ident) 8 9 ∷ symbol (Ident) 10 16 ∷ symbol (Ident) 17 18 ∷ symbol (Ident) 18 19 ∷ symbol (Ident) 20 23 ∷ symbol (Ident) 23 24 ∷ symbol (Ident) 25 30 ∷ symbol (Ident) 31 34 ∷ symbol (Ident) 34 35 ∷ symbol (Ident) 35 38 ∷ symbol (Ident) 38 39 ∷ symbol (Ident) 39 40 ∷ symbol (Ident) 40 41 ∷ symbol (Ident) 41 46 ∷ symbol (Ident) 46 47 ∷ symbol (Int (pos 21)) 47 49 ∷ symbol (Ident) 49 50 ∷ symbol (Ident) 50 51 ∷ symbol (Int (pos 0)) 52 53 ∷ symbol (Ident) 53 54 ∷ symbol (Ident) 54 55 ∷ symbol (Ident) 56 59 ∷ symbol (Ident) 59 60 ∷ symbol (Ident) 60 62 ∷ symbol (Ident) 63 66 ∷ symbol (Ident) 67 68 ∷ symbol (Ident) 68 69 ∷ []) }; tree = record { module_word = 0; name = 1; semicolon = 0; imports = Some (record { import_word = 0; first = (record { name = 4; of = None }); more = (record { comma = 0; import = (record { name = 6; of = None }) } ∷ []); semicolon = 0 }); decls = (S.decls None None None S.no_procedure); body = (Some (record { begin_word = 0; stats = (S.stats (S.AssignOrCall (record { name = 9; selectors = (S.selected (S.Field 0 11) (S.selected (S.Parens 0 (S.expressions (S.only (S.simple None (S.term (S.Designated 13 (S.selected (S.Field 0 15) (S.selected (S.Parens 0 (S.expressions (S.only (S.simple None (S.term (S.Int 17) S.no_factor) S.no_term)) S.no_expression) 0) S.no_selector))) S.no_factor) S.no_term)) (S.next_expression 0 (S.only (S.simple None (S.term (S.Int 20) S.no_factor) S.no_term)) S.no_expression)) 0) S.no_selector)) }) None) (S.next_stat 0 (S.AssignOrCall (record { name = 23; selectors = (S.selected (S.Field 0 25) S.no_selector) }) None) S.no_stat)) })); end_word = 0; end_name = 27; period = 0 } }

pub out_of_order : checked (out_of_order_0 ∷ []) ≡ Fault 0 38 17
out_of_order = refl

-- MODULE M; IMPORT Out; BEGIN Out.Int(6*7, 0); Out.Ln END M.
abbrev product_0 : Parsed
product_0 = record { source = record { bytes = (77 ∷ 79 ∷ 68 ∷ 85 ∷ 76 ∷ 69 ∷ 32 ∷ 77 ∷ 59 ∷ 32 ∷ 73 ∷ 77 ∷ 80 ∷ 79 ∷ 82 ∷ 84 ∷ 32 ∷ 79 ∷ 117 ∷ 116 ∷ 59 ∷ 32 ∷ 66 ∷ 69 ∷ 71 ∷ 73 ∷ 78 ∷ 32 ∷ 79 ∷ 117 ∷ 116 ∷ 46 ∷ 73 ∷ 110 ∷ 116 ∷ 40 ∷ 54 ∷ 42 ∷ 55 ∷ 44 ∷ 32 ∷ 48 ∷ 41 ∷ 59 ∷ 32 ∷ 79 ∷ 117 ∷ 116 ∷ 46 ∷ 76 ∷ 110 ∷ 32 ∷ 69 ∷ 78 ∷ 68 ∷ 32 ∷ 77 ∷ 46 ∷ []); symbols = (symbol (Ident) 0 6 ∷ symbol (Ident) 7 8 ∷ symbol (Ident) 8 9 ∷ symbol (Ident) 10 16 ∷ symbol (Ident) 17 20 ∷ symbol (Ident) 20 21 ∷ symbol (Ident) 22 27 ∷ symbol (Ident) 28 31 ∷ symbol (Ident) 31 32 ∷ symbol (Ident) 32 35 ∷ symbol (Ident) 35 36 ∷ symbol (Int (pos 6)) 36 37 ∷ symbol (Ident) 37 38 ∷ symbol (Int (pos 7)) 38 39 ∷ symbol (Ident) 39 40 ∷ symbol (Int (pos 0)) 41 42 ∷ symbol (Ident) 42 43 ∷ symbol (Ident) 43 44 ∷ symbol (Ident) 45 48 ∷ symbol (Ident) 48 49 ∷ symbol (Ident) 49 51 ∷ symbol (Ident) 52 55 ∷ symbol (Ident) 56 57 ∷ symbol (Ident) 57 58 ∷ []) }; tree = record { module_word = 0; name = 1; semicolon = 0; imports = Some (record { import_word = 0; first = (record { name = 4; of = None }); more = []; semicolon = 0 }); decls = (S.decls None None None S.no_procedure); body = (Some (record { begin_word = 0; stats = (S.stats (S.AssignOrCall (record { name = 7; selectors = (S.selected (S.Field 0 9) (S.selected (S.Parens 0 (S.expressions (S.only (S.simple None (S.term (S.Int 11) (S.multiplied (TheMulOperator.Times 12) (S.Int 13) S.no_factor)) S.no_term)) (S.next_expression 0 (S.only (S.simple None (S.term (S.Int 15) S.no_factor) S.no_term)) S.no_expression)) 0) S.no_selector)) }) None) (S.next_stat 0 (S.AssignOrCall (record { name = 18; selectors = (S.selected (S.Field 0 20) S.no_selector) }) None) S.no_stat)) })); end_word = 0; end_name = 22; period = 0 } }

pub product : checked (product_0 ∷ []) ≡ Legal (record { records = []; pointers = []; modules = (record { name = (77 ∷ []); objects = []; variables = []; body = 0 } ∷ []); procedures = (record { module_number = 0; line = 1; is_body = true; formals = []; result = H.Nothing; locals = []; texts = []; body = (I.next_statement (I.OutInt (record { form = (I.Linked (I.Literal 6) (I.Operate TheBinary.Multiply (I.Literal 7))); shape = H.Integer }) (record { form = (I.Literal 0); shape = H.Integer })) (I.next_statement I.OutLn I.no_statement)); answer = None } ∷ []); imports_in = false })
product = refl

-- MODULE S; IMPORT Out; PROCEDURE P; VAR a, b, t, i: INTEGER; BEGIN a := 1; b := 2; i := 0; WHILE i < 3 DO t := a; a := b; b := t; i := i + 1 END; Out.Int(a, 0); Out.Int(b, 0) END P; BEGIN P END S.
abbrev swap_0 : Parsed
swap_0 = record { source = record { bytes = (77 ∷ 79 ∷ 68 ∷ 85 ∷ 76 ∷ 69 ∷ 32 ∷ 83 ∷ 59 ∷ 32 ∷ 73 ∷ 77 ∷ 80 ∷ 79 ∷ 82 ∷ 84 ∷ 32 ∷ 79 ∷ 117 ∷ 116 ∷ 59 ∷ 32 ∷ 80 ∷ 82 ∷ 79 ∷ 67 ∷ 69 ∷ 68 ∷ 85 ∷ 82 ∷ 69 ∷ 32 ∷ 80 ∷ 59 ∷ 32 ∷ 86 ∷ 65 ∷ 82 ∷ 32 ∷ 97 ∷ 44 ∷ 32 ∷ 98 ∷ 44 ∷ 32 ∷ 116 ∷ 44 ∷ 32 ∷ 105 ∷ 58 ∷ 32 ∷ 73 ∷ 78 ∷ 84 ∷ 69 ∷ 71 ∷ 69 ∷ 82 ∷ 59 ∷ 32 ∷ 66 ∷ 69 ∷ 71 ∷ 73 ∷ 78 ∷ 32 ∷ 97 ∷ 32 ∷ 58 ∷ 61 ∷ 32 ∷ 49 ∷ 59 ∷ 32 ∷ 98 ∷ 32 ∷ 58 ∷ 61 ∷ 32 ∷ 50 ∷ 59 ∷ 32 ∷ 105 ∷ 32 ∷ 58 ∷ 61 ∷ 32 ∷ 48 ∷ 59 ∷ 32 ∷ 87 ∷ 72 ∷ 73 ∷ 76 ∷ 69 ∷ 32 ∷ 105 ∷ 32 ∷ 60 ∷ 32 ∷ 51 ∷ 32 ∷ 68 ∷ 79 ∷ 32 ∷ 116 ∷ 32 ∷ 58 ∷ 61 ∷ 32 ∷ 97 ∷ 59 ∷ 32 ∷ 97 ∷ 32 ∷ 58 ∷ 61 ∷ 32 ∷ 98 ∷ 59 ∷ 32 ∷ 98 ∷ 32 ∷ 58 ∷ 61 ∷ 32 ∷ 116 ∷ 59 ∷ 32 ∷ 105 ∷ 32 ∷ 58 ∷ 61 ∷ 32 ∷ 105 ∷ 32 ∷ 43 ∷ 32 ∷ 49 ∷ 32 ∷ 69 ∷ 78 ∷ 68 ∷ 59 ∷ 32 ∷ 79 ∷ 117 ∷ 116 ∷ 46 ∷ 73 ∷ 110 ∷ 116 ∷ 40 ∷ 97 ∷ 44 ∷ 32 ∷ 48 ∷ 41 ∷ 59 ∷ 32 ∷ 79 ∷ 117 ∷ 116 ∷ 46 ∷ 73 ∷ 110 ∷ 116 ∷ 40 ∷ 98 ∷ 44 ∷ 32 ∷ 48 ∷ 41 ∷ 32 ∷ 69 ∷ 78 ∷ 68 ∷ 32 ∷ 80 ∷ 59 ∷ 32 ∷ 66 ∷ 69 ∷ 71 ∷ 73 ∷ 78 ∷ 32 ∷ 80 ∷ 32 ∷ 69 ∷ 78 ∷ 68 ∷ 32 ∷ 83 ∷ 46 ∷ []); symbols = (symbol (Ident) 0 6 ∷ symbol (Ident) 7 8 ∷ symbol (Ident) 8 9 ∷ symbol (Ident) 10 16 ∷ symbol (Ident) 17 20 ∷ symbol (Ident) 20 21 ∷ symbol (Ident) 22 31 ∷ symbol (Ident) 32 33 ∷ symbol (Ident) 33 34 ∷ symbol (Ident) 35 38 ∷ symbol (Ident) 39 40 ∷ symbol (Ident) 40 41 ∷ symbol (Ident) 42 43 ∷ symbol (Ident) 43 44 ∷ symbol (Ident) 45 46 ∷ symbol (Ident) 46 47 ∷ symbol (Ident) 48 49 ∷ symbol (Ident) 49 50 ∷ symbol (Ident) 51 58 ∷ symbol (Ident) 58 59 ∷ symbol (Ident) 60 65 ∷ symbol (Ident) 66 67 ∷ symbol (Ident) 68 70 ∷ symbol (Int (pos 1)) 71 72 ∷ symbol (Ident) 72 73 ∷ symbol (Ident) 74 75 ∷ symbol (Ident) 76 78 ∷ symbol (Int (pos 2)) 79 80 ∷ symbol (Ident) 80 81 ∷ symbol (Ident) 82 83 ∷ symbol (Ident) 84 86 ∷ symbol (Int (pos 0)) 87 88 ∷ symbol (Ident) 88 89 ∷ symbol (Ident) 90 95 ∷ symbol (Ident) 96 97 ∷ symbol (Ident) 98 99 ∷ symbol (Int (pos 3)) 100 101 ∷ symbol (Ident) 102 104 ∷ symbol (Ident) 105 106 ∷ symbol (Ident) 107 109 ∷ symbol (Ident) 110 111 ∷ symbol (Ident) 111 112 ∷ symbol (Ident) 113 114 ∷ symbol (Ident) 115 117 ∷ symbol (Ident) 118 119 ∷ symbol (Ident) 119 120 ∷ symbol (Ident) 121 122 ∷ symbol (Ident) 123 125 ∷ symbol (Ident) 126 127 ∷ symbol (Ident) 127 128 ∷ symbol (Ident) 129 130 ∷ symbol (Ident) 131 133 ∷ symbol (Ident) 134 135 ∷ symbol (Ident) 136 137 ∷ symbol (Int (pos 1)) 138 139 ∷ symbol (Ident) 140 143 ∷ symbol (Ident) 143 144 ∷ symbol (Ident) 145 148 ∷ symbol (Ident) 148 149 ∷ symbol (Ident) 149 152 ∷ symbol (Ident) 152 153 ∷ symbol (Ident) 153 154 ∷ symbol (Ident) 154 155 ∷ symbol (Int (pos 0)) 156 157 ∷ symbol (Ident) 157 158 ∷ symbol (Ident) 158 159 ∷ symbol (Ident) 160 163 ∷ symbol (Ident) 163 164 ∷ symbol (Ident) 164 167 ∷ symbol (Ident) 167 168 ∷ symbol (Ident) 168 169 ∷ symbol (Ident) 169 170 ∷ symbol (Int (pos 0)) 171 172 ∷ symbol (Ident) 172 173 ∷ symbol (Ident) 174 177 ∷ symbol (Ident) 178 179 ∷ symbol (Ident) 179 180 ∷ symbol (Ident) 181 186 ∷ symbol (Ident) 187 188 ∷ symbol (Ident) 189 192 ∷ symbol (Ident) 193 194 ∷ symbol (Ident) 194 195 ∷ []) }; tree = record { module_word = 0; name = 1; semicolon = 0; imports = Some (record { import_word = 0; first = (record { name = 4; of = None }); more = []; semicolon = 0 }); decls = (S.decls None None None (S.procedure 0 (record { name = 7; star = None }) None 0 (S.decls None None (Some (record { var_word = 0; each = (record { names = (record { first = (record { name = 10; star = None }); more = (record { comma = 0; name = (record { name = 12; star = None }) } ∷ record { comma = 0; name = (record { name = 14; star = None }) } ∷ record { comma = 0; name = (record { name = 16; star = None }) } ∷ []) }); colon = 0; of = (S.Named (record { name = 18; member = None })); semicolon = 0 } ∷ []) })) S.no_procedure) (Some (record { begin_word = 0; stats = (S.stats (S.AssignOrCall (record { name = 21; selectors = S.no_selector }) (Some (record { becomes = 0; value = (S.only (S.simple None (S.term (S.Int 23) S.no_factor) S.no_term)) }))) (S.next_stat 0 (S.AssignOrCall (record { name = 25; selectors = S.no_selector }) (Some (record { becomes = 0; value = (S.only (S.simple None (S.term (S.Int 27) S.no_factor) S.no_term)) }))) (S.next_stat 0 (S.AssignOrCall (record { name = 29; selectors = S.no_selector }) (Some (record { becomes = 0; value = (S.only (S.simple None (S.term (S.Int 31) S.no_factor) S.no_term)) }))) (S.next_stat 0 (S.While 0 (S.compared (S.simple None (S.term (S.Designated 34 S.no_selector) S.no_factor) S.no_term) (TheRelation.Less 35) (S.simple None (S.term (S.Int 36) S.no_factor) S.no_term)) 0 (S.stats (S.AssignOrCall (record { name = 38; selectors = S.no_selector }) (Some (record { becomes = 0; value = (S.only (S.simple None (S.term (S.Designated 40 S.no_selector) S.no_factor) S.no_term)) }))) (S.next_stat 0 (S.AssignOrCall (record { name = 42; selectors = S.no_selector }) (Some (record { becomes = 0; value = (S.only (S.simple None (S.term (S.Designated 44 S.no_selector) S.no_factor) S.no_term)) }))) (S.next_stat 0 (S.AssignOrCall (record { name = 46; selectors = S.no_selector }) (Some (record { becomes = 0; value = (S.only (S.simple None (S.term (S.Designated 48 S.no_selector) S.no_factor) S.no_term)) }))) (S.next_stat 0 (S.AssignOrCall (record { name = 50; selectors = S.no_selector }) (Some (record { becomes = 0; value = (S.only (S.simple None (S.term (S.Designated 52 S.no_selector) S.no_factor) (S.added (TheAddOperator.Plus 53) (S.term (S.Int 54) S.no_factor) S.no_term))) }))) S.no_stat)))) S.no_elsif 0) (S.next_stat 0 (S.AssignOrCall (record { name = 57; selectors = (S.selected (S.Field 0 59) (S.selected (S.Parens 0 (S.expressions (S.only (S.simple None (S.term (S.Designated 61 S.no_selector) S.no_factor) S.no_term)) (S.next_expression 0 (S.only (S.simple None (S.term (S.Int 63) S.no_factor) S.no_term)) S.no_expression)) 0) S.no_selector)) }) None) (S.next_stat 0 (S.AssignOrCall (record { name = 66; selectors = (S.selected (S.Field 0 68) (S.selected (S.Parens 0 (S.expressions (S.only (S.simple None (S.term (S.Designated 70 S.no_selector) S.no_factor) S.no_term)) (S.next_expression 0 (S.only (S.simple None (S.term (S.Int 72) S.no_factor) S.no_term)) S.no_expression)) 0) S.no_selector)) }) None) S.no_stat)))))) })) None 74 75 0 S.no_procedure)); body = (Some (record { begin_word = 0; stats = (S.stats (S.AssignOrCall (record { name = 78; selectors = S.no_selector }) None) S.no_stat) })); end_word = 0; end_name = 80; period = 0 } }

pub swap : checked (swap_0 ∷ []) ≡ Legal (record { records = []; pointers = []; modules = (record { name = (83 ∷ []); objects = (record { name = (80 ∷ []); exported = false; entity = I.OfProcedure 0 } ∷ []); variables = []; body = 1 } ∷ []); procedures = (record { module_number = 0; line = 1; is_body = false; formals = []; result = H.Nothing; locals = (H.Integer ∷ H.Integer ∷ H.Integer ∷ H.Integer ∷ []); texts = []; body = (I.next_statement (I.Assign (I.of_type (I.Local 0) H.Integer) (record { form = (I.Literal 1); shape = H.Integer })) (I.next_statement (I.Assign (I.of_type (I.Local 1) H.Integer) (record { form = (I.Literal 2); shape = H.Integer })) (I.next_statement (I.Assign (I.of_type (I.Local 3) H.Integer) (record { form = (I.Literal 0); shape = H.Integer })) (I.next_statement (I.While (I.next_branch (record { form = (I.Compare TheComparison.Less (I.Load (I.of_type (I.Local 3) H.Integer)) (I.Literal 3)); shape = H.Boolean }) (I.next_statement (I.Assign (I.of_type (I.Local 2) H.Integer) (record { form = (I.Load (I.of_type (I.Local 0) H.Integer)); shape = H.Integer })) (I.next_statement (I.Assign (I.of_type (I.Local 0) H.Integer) (record { form = (I.Load (I.of_type (I.Local 1) H.Integer)); shape = H.Integer })) (I.next_statement (I.Assign (I.of_type (I.Local 1) H.Integer) (record { form = (I.Load (I.of_type (I.Local 2) H.Integer)); shape = H.Integer })) (I.next_statement (I.Assign (I.of_type (I.Local 3) H.Integer) (record { form = (I.Linked (I.Load (I.of_type (I.Local 3) H.Integer)) (I.Operate TheBinary.Add (I.Literal 1))); shape = H.Integer })) I.no_statement)))) I.no_branch)) (I.next_statement (I.OutInt (record { form = (I.Load (I.of_type (I.Local 0) H.Integer)); shape = H.Integer }) (record { form = (I.Literal 0); shape = H.Integer })) (I.next_statement (I.OutInt (record { form = (I.Load (I.of_type (I.Local 1) H.Integer)); shape = H.Integer }) (record { form = (I.Literal 0); shape = H.Integer })) I.no_statement)))))); answer = None } ∷ record { module_number = 0; line = 1; is_body = true; formals = []; result = H.Nothing; locals = []; texts = []; body = (I.next_statement (I.Invoke (I.Direct 0 I.no_argument)) I.no_statement); answer = None } ∷ []); imports_in = false })
swap = refl

-- MODULE Queens; IMPORT Out; VAR a: ARRAY 8 OF BOOLEAN; b, c: ARRAY 15 OF BOOLEAN; count: INTEGER; PROCEDURE Try(i: INTEGER); VAR j: INTEGER; BEGIN FOR j := 0 TO 7 DO IF ~a[j] & ~b[i + j] & ~c[i - j + 7] THEN a[j] := TRUE; b[i + j] := TRUE; c[i - j + 7] := TRUE; IF i < 7 THEN Try(i + 1) ELSE INC(count) END; a[j] := FALSE; b[i + j] := FALSE; c[i - j + 7] := FALSE END END END Try; BEGIN Try(0); Out.Int(count, 0); Out.Ln END Queens.
abbrev queens_0 : Parsed
queens_0 = record { source = record { bytes = (77 ∷ 79 ∷ 68 ∷ 85 ∷ 76 ∷ 69 ∷ 32 ∷ 81 ∷ 117 ∷ 101 ∷ 101 ∷ 110 ∷ 115 ∷ 59 ∷ 32 ∷ 73 ∷ 77 ∷ 80 ∷ 79 ∷ 82 ∷ 84 ∷ 32 ∷ 79 ∷ 117 ∷ 116 ∷ 59 ∷ 32 ∷ 86 ∷ 65 ∷ 82 ∷ 32 ∷ 97 ∷ 58 ∷ 32 ∷ 65 ∷ 82 ∷ 82 ∷ 65 ∷ 89 ∷ 32 ∷ 56 ∷ 32 ∷ 79 ∷ 70 ∷ 32 ∷ 66 ∷ 79 ∷ 79 ∷ 76 ∷ 69 ∷ 65 ∷ 78 ∷ 59 ∷ 32 ∷ 98 ∷ 44 ∷ 32 ∷ 99 ∷ 58 ∷ 32 ∷ 65 ∷ 82 ∷ 82 ∷ 65 ∷ 89 ∷ 32 ∷ 49 ∷ 53 ∷ 32 ∷ 79 ∷ 70 ∷ 32 ∷ 66 ∷ 79 ∷ 79 ∷ 76 ∷ 69 ∷ 65 ∷ 78 ∷ 59 ∷ 32 ∷ 99 ∷ 111 ∷ 117 ∷ 110 ∷ 116 ∷ 58 ∷ 32 ∷ 73 ∷ 78 ∷ 84 ∷ 69 ∷ 71 ∷ 69 ∷ 82 ∷ 59 ∷ 32 ∷ 80 ∷ 82 ∷ 79 ∷ 67 ∷ 69 ∷ 68 ∷ 85 ∷ 82 ∷ 69 ∷ 32 ∷ 84 ∷ 114 ∷ 121 ∷ 40 ∷ 105 ∷ 58 ∷ 32 ∷ 73 ∷ 78 ∷ 84 ∷ 69 ∷ 71 ∷ 69 ∷ 82 ∷ 41 ∷ 59 ∷ 32 ∷ 86 ∷ 65 ∷ 82 ∷ 32 ∷ 106 ∷ 58 ∷ 32 ∷ 73 ∷ 78 ∷ 84 ∷ 69 ∷ 71 ∷ 69 ∷ 82 ∷ 59 ∷ 32 ∷ 66 ∷ 69 ∷ 71 ∷ 73 ∷ 78 ∷ 32 ∷ 70 ∷ 79 ∷ 82 ∷ 32 ∷ 106 ∷ 32 ∷ 58 ∷ 61 ∷ 32 ∷ 48 ∷ 32 ∷ 84 ∷ 79 ∷ 32 ∷ 55 ∷ 32 ∷ 68 ∷ 79 ∷ 32 ∷ 73 ∷ 70 ∷ 32 ∷ 126 ∷ 97 ∷ 91 ∷ 106 ∷ 93 ∷ 32 ∷ 38 ∷ 32 ∷ 126 ∷ 98 ∷ 91 ∷ 105 ∷ 32 ∷ 43 ∷ 32 ∷ 106 ∷ 93 ∷ 32 ∷ 38 ∷ 32 ∷ 126 ∷ 99 ∷ 91 ∷ 105 ∷ 32 ∷ 45 ∷ 32 ∷ 106 ∷ 32 ∷ 43 ∷ 32 ∷ 55 ∷ 93 ∷ 32 ∷ 84 ∷ 72 ∷ 69 ∷ 78 ∷ 32 ∷ 97 ∷ 91 ∷ 106 ∷ 93 ∷ 32 ∷ 58 ∷ 61 ∷ 32 ∷ 84 ∷ 82 ∷ 85 ∷ 69 ∷ 59 ∷ 32 ∷ 98 ∷ 91 ∷ 105 ∷ 32 ∷ 43 ∷ 32 ∷ 106 ∷ 93 ∷ 32 ∷ 58 ∷ 61 ∷ 32 ∷ 84 ∷ 82 ∷ 85 ∷ 69 ∷ 59 ∷ 32 ∷ 99 ∷ 91 ∷ 105 ∷ 32 ∷ 45 ∷ 32 ∷ 106 ∷ 32 ∷ 43 ∷ 32 ∷ 55 ∷ 93 ∷ 32 ∷ 58 ∷ 61 ∷ 32 ∷ 84 ∷ 82 ∷ 85 ∷ 69 ∷ 59 ∷ 32 ∷ 73 ∷ 70 ∷ 32 ∷ 105 ∷ 32 ∷ 60 ∷ 32 ∷ 55 ∷ 32 ∷ 84 ∷ 72 ∷ 69 ∷ 78 ∷ 32 ∷ 84 ∷ 114 ∷ 121 ∷ 40 ∷ 105 ∷ 32 ∷ 43 ∷ 32 ∷ 49 ∷ 41 ∷ 32 ∷ 69 ∷ 76 ∷ 83 ∷ 69 ∷ 32 ∷ 73 ∷ 78 ∷ 67 ∷ 40 ∷ 99 ∷ 111 ∷ 117 ∷ 110 ∷ 116 ∷ 41 ∷ 32 ∷ 69 ∷ 78 ∷ 68 ∷ 59 ∷ 32 ∷ 97 ∷ 91 ∷ 106 ∷ 93 ∷ 32 ∷ 58 ∷ 61 ∷ 32 ∷ 70 ∷ 65 ∷ 76 ∷ 83 ∷ 69 ∷ 59 ∷ 32 ∷ 98 ∷ 91 ∷ 105 ∷ 32 ∷ 43 ∷ 32 ∷ 106 ∷ 93 ∷ 32 ∷ 58 ∷ 61 ∷ 32 ∷ 70 ∷ 65 ∷ 76 ∷ 83 ∷ 69 ∷ 59 ∷ 32 ∷ 99 ∷ 91 ∷ 105 ∷ 32 ∷ 45 ∷ 32 ∷ 106 ∷ 32 ∷ 43 ∷ 32 ∷ 55 ∷ 93 ∷ 32 ∷ 58 ∷ 61 ∷ 32 ∷ 70 ∷ 65 ∷ 76 ∷ 83 ∷ 69 ∷ 32 ∷ 69 ∷ 78 ∷ 68 ∷ 32 ∷ 69 ∷ 78 ∷ 68 ∷ 32 ∷ 69 ∷ 78 ∷ 68 ∷ 32 ∷ 84 ∷ 114 ∷ 121 ∷ 59 ∷ 32 ∷ 66 ∷ 69 ∷ 71 ∷ 73 ∷ 78 ∷ 32 ∷ 84 ∷ 114 ∷ 121 ∷ 40 ∷ 48 ∷ 41 ∷ 59 ∷ 32 ∷ 79 ∷ 117 ∷ 116 ∷ 46 ∷ 73 ∷ 110 ∷ 116 ∷ 40 ∷ 99 ∷ 111 ∷ 117 ∷ 110 ∷ 116 ∷ 44 ∷ 32 ∷ 48 ∷ 41 ∷ 59 ∷ 32 ∷ 79 ∷ 117 ∷ 116 ∷ 46 ∷ 76 ∷ 110 ∷ 32 ∷ 69 ∷ 78 ∷ 68 ∷ 32 ∷ 81 ∷ 117 ∷ 101 ∷ 101 ∷ 110 ∷ 115 ∷ 46 ∷ []); symbols = (symbol (Ident) 0 6 ∷ symbol (Ident) 7 13 ∷ symbol (Ident) 13 14 ∷ symbol (Ident) 15 21 ∷ symbol (Ident) 22 25 ∷ symbol (Ident) 25 26 ∷ symbol (Ident) 27 30 ∷ symbol (Ident) 31 32 ∷ symbol (Ident) 32 33 ∷ symbol (Ident) 34 39 ∷ symbol (Int (pos 8)) 40 41 ∷ symbol (Ident) 42 44 ∷ symbol (Ident) 45 52 ∷ symbol (Ident) 52 53 ∷ symbol (Ident) 54 55 ∷ symbol (Ident) 55 56 ∷ symbol (Ident) 57 58 ∷ symbol (Ident) 58 59 ∷ symbol (Ident) 60 65 ∷ symbol (Int (pos 15)) 66 68 ∷ symbol (Ident) 69 71 ∷ symbol (Ident) 72 79 ∷ symbol (Ident) 79 80 ∷ symbol (Ident) 81 86 ∷ symbol (Ident) 86 87 ∷ symbol (Ident) 88 95 ∷ symbol (Ident) 95 96 ∷ symbol (Ident) 97 106 ∷ symbol (Ident) 107 110 ∷ symbol (Ident) 110 111 ∷ symbol (Ident) 111 112 ∷ symbol (Ident) 112 113 ∷ symbol (Ident) 114 121 ∷ symbol (Ident) 121 122 ∷ symbol (Ident) 122 123 ∷ symbol (Ident) 124 127 ∷ symbol (Ident) 128 129 ∷ symbol (Ident) 129 130 ∷ symbol (Ident) 131 138 ∷ symbol (Ident) 138 139 ∷ symbol (Ident) 140 145 ∷ symbol (Ident) 146 149 ∷ symbol (Ident) 150 151 ∷ symbol (Ident) 152 154 ∷ symbol (Int (pos 0)) 155 156 ∷ symbol (Ident) 157 159 ∷ symbol (Int (pos 7)) 160 161 ∷ symbol (Ident) 162 164 ∷ symbol (Ident) 165 167 ∷ symbol (Ident) 168 169 ∷ symbol (Ident) 169 170 ∷ symbol (Ident) 170 171 ∷ symbol (Ident) 171 172 ∷ symbol (Ident) 172 173 ∷ symbol (Ident) 174 175 ∷ symbol (Ident) 176 177 ∷ symbol (Ident) 177 178 ∷ symbol (Ident) 178 179 ∷ symbol (Ident) 179 180 ∷ symbol (Ident) 181 182 ∷ symbol (Ident) 183 184 ∷ symbol (Ident) 184 185 ∷ symbol (Ident) 186 187 ∷ symbol (Ident) 188 189 ∷ symbol (Ident) 189 190 ∷ symbol (Ident) 190 191 ∷ symbol (Ident) 191 192 ∷ symbol (Ident) 193 194 ∷ symbol (Ident) 195 196 ∷ symbol (Ident) 197 198 ∷ symbol (Int (pos 7)) 199 200 ∷ symbol (Ident) 200 201 ∷ symbol (Ident) 202 206 ∷ symbol (Ident) 207 208 ∷ symbol (Ident) 208 209 ∷ symbol (Ident) 209 210 ∷ symbol (Ident) 210 211 ∷ symbol (Ident) 212 214 ∷ symbol (Ident) 215 219 ∷ symbol (Ident) 219 220 ∷ symbol (Ident) 221 222 ∷ symbol (Ident) 222 223 ∷ symbol (Ident) 223 224 ∷ symbol (Ident) 225 226 ∷ symbol (Ident) 227 228 ∷ symbol (Ident) 228 229 ∷ symbol (Ident) 230 232 ∷ symbol (Ident) 233 237 ∷ symbol (Ident) 237 238 ∷ symbol (Ident) 239 240 ∷ symbol (Ident) 240 241 ∷ symbol (Ident) 241 242 ∷ symbol (Ident) 243 244 ∷ symbol (Ident) 245 246 ∷ symbol (Ident) 247 248 ∷ symbol (Int (pos 7)) 249 250 ∷ symbol (Ident) 250 251 ∷ symbol (Ident) 252 254 ∷ symbol (Ident) 255 259 ∷ symbol (Ident) 259 260 ∷ symbol (Ident) 261 263 ∷ symbol (Ident) 264 265 ∷ symbol (Ident) 266 267 ∷ symbol (Int (pos 7)) 268 269 ∷ symbol (Ident) 270 274 ∷ symbol (Ident) 275 278 ∷ symbol (Ident) 278 279 ∷ symbol (Ident) 279 280 ∷ symbol (Ident) 281 282 ∷ symbol (Int (pos 1)) 283 284 ∷ symbol (Ident) 284 285 ∷ symbol (Ident) 286 290 ∷ symbol (Ident) 291 294 ∷ symbol (Ident) 294 295 ∷ symbol (Ident) 295 300 ∷ symbol (Ident) 300 301 ∷ symbol (Ident) 302 305 ∷ symbol (Ident) 305 306 ∷ symbol (Ident) 307 308 ∷ symbol (Ident) 308 309 ∷ symbol (Ident) 309 310 ∷ symbol (Ident) 310 311 ∷ symbol (Ident) 312 314 ∷ symbol (Ident) 315 320 ∷ symbol (Ident) 320 321 ∷ symbol (Ident) 322 323 ∷ symbol (Ident) 323 324 ∷ symbol (Ident) 324 325 ∷ symbol (Ident) 326 327 ∷ symbol (Ident) 328 329 ∷ symbol (Ident) 329 330 ∷ symbol (Ident) 331 333 ∷ symbol (Ident) 334 339 ∷ symbol (Ident) 339 340 ∷ symbol (Ident) 341 342 ∷ symbol (Ident) 342 343 ∷ symbol (Ident) 343 344 ∷ symbol (Ident) 345 346 ∷ symbol (Ident) 347 348 ∷ symbol (Ident) 349 350 ∷ symbol (Int (pos 7)) 351 352 ∷ symbol (Ident) 352 353 ∷ symbol (Ident) 354 356 ∷ symbol (Ident) 357 362 ∷ symbol (Ident) 363 366 ∷ symbol (Ident) 367 370 ∷ symbol (Ident) 371 374 ∷ symbol (Ident) 375 378 ∷ symbol (Ident) 378 379 ∷ symbol (Ident) 380 385 ∷ symbol (Ident) 386 389 ∷ symbol (Ident) 389 390 ∷ symbol (Int (pos 0)) 390 391 ∷ symbol (Ident) 391 392 ∷ symbol (Ident) 392 393 ∷ symbol (Ident) 394 397 ∷ symbol (Ident) 397 398 ∷ symbol (Ident) 398 401 ∷ symbol (Ident) 401 402 ∷ symbol (Ident) 402 407 ∷ symbol (Ident) 407 408 ∷ symbol (Int (pos 0)) 409 410 ∷ symbol (Ident) 410 411 ∷ symbol (Ident) 411 412 ∷ symbol (Ident) 413 416 ∷ symbol (Ident) 416 417 ∷ symbol (Ident) 417 419 ∷ symbol (Ident) 420 423 ∷ symbol (Ident) 424 430 ∷ symbol (Ident) 430 431 ∷ []) }; tree = record { module_word = 0; name = 1; semicolon = 0; imports = Some (record { import_word = 0; first = (record { name = 4; of = None }); more = []; semicolon = 0 }); decls = (S.decls None None (Some (record { var_word = 0; each = (record { names = (record { first = (record { name = 7; star = None }); more = [] }); colon = 0; of = (S.Array 9 (S.only (S.simple None (S.term (S.Int 10) S.no_factor) S.no_term)) S.no_expression 0 (S.Named (record { name = 12; member = None }))); semicolon = 0 } ∷ record { names = (record { first = (record { name = 14; star = None }); more = (record { comma = 0; name = (record { name = 16; star = None }) } ∷ []) }); colon = 0; of = (S.Array 18 (S.only (S.simple None (S.term (S.Int 19) S.no_factor) S.no_term)) S.no_expression 0 (S.Named (record { name = 21; member = None }))); semicolon = 0 } ∷ record { names = (record { first = (record { name = 23; star = None }); more = [] }); colon = 0; of = (S.Named (record { name = 25; member = None })); semicolon = 0 } ∷ []) })) (S.procedure 0 (record { name = 28; star = None }) (Some (record { left_paren = 0; sections = Some (record { first = (record { var_word = None; first = 30; more = []; colon = 0; open_array = None; of = (record { name = 32; member = None }) }); more = [] }); right_paren = 0; result = None })) 0 (S.decls None None (Some (record { var_word = 0; each = (record { names = (record { first = (record { name = 36; star = None }); more = [] }); colon = 0; of = (S.Named (record { name = 38; member = None })); semicolon = 0 } ∷ []) })) S.no_procedure) (Some (record { begin_word = 0; stats = (S.stats (S.For 0 42 0 (S.only (S.simple None (S.term (S.Int 44) S.no_factor) S.no_term)) 0 (S.only (S.simple None (S.term (S.Int 46) S.no_factor) S.no_term)) None 0 (S.stats (S.If 0 (S.only (S.simple None (S.term (S.Not 49 (S.Designated 50 (S.selected (S.Index 0 (S.expressions (S.only (S.simple None (S.term (S.Designated 52 S.no_selector) S.no_factor) S.no_term)) S.no_expression) 0) S.no_selector))) (S.multiplied (TheMulOperator.And 54) (S.Not 55 (S.Designated 56 (S.selected (S.Index 0 (S.expressions (S.only (S.simple None (S.term (S.Designated 58 S.no_selector) S.no_factor) (S.added (TheAddOperator.Plus 59) (S.term (S.Designated 60 S.no_selector) S.no_factor) S.no_term))) S.no_expression) 0) S.no_selector))) (S.multiplied (TheMulOperator.And 62) (S.Not 63 (S.Designated 64 (S.selected (S.Index 0 (S.expressions (S.only (S.simple None (S.term (S.Designated 66 S.no_selector) S.no_factor) (S.added (TheAddOperator.Minus 67) (S.term (S.Designated 68 S.no_selector) S.no_factor) (S.added (TheAddOperator.Plus 69) (S.term (S.Int 70) S.no_factor) S.no_term)))) S.no_expression) 0) S.no_selector))) S.no_factor))) S.no_term)) 0 (S.stats (S.AssignOrCall (record { name = 73; selectors = (S.selected (S.Index 0 (S.expressions (S.only (S.simple None (S.term (S.Designated 75 S.no_selector) S.no_factor) S.no_term)) S.no_expression) 0) S.no_selector) }) (Some (record { becomes = 0; value = (S.only (S.simple None (S.term (S.True 78) S.no_factor) S.no_term)) }))) (S.next_stat 0 (S.AssignOrCall (record { name = 80; selectors = (S.selected (S.Index 0 (S.expressions (S.only (S.simple None (S.term (S.Designated 82 S.no_selector) S.no_factor) (S.added (TheAddOperator.Plus 83) (S.term (S.Designated 84 S.no_selector) S.no_factor) S.no_term))) S.no_expression) 0) S.no_selector) }) (Some (record { becomes = 0; value = (S.only (S.simple None (S.term (S.True 87) S.no_factor) S.no_term)) }))) (S.next_stat 0 (S.AssignOrCall (record { name = 89; selectors = (S.selected (S.Index 0 (S.expressions (S.only (S.simple None (S.term (S.Designated 91 S.no_selector) S.no_factor) (S.added (TheAddOperator.Minus 92) (S.term (S.Designated 93 S.no_selector) S.no_factor) (S.added (TheAddOperator.Plus 94) (S.term (S.Int 95) S.no_factor) S.no_term)))) S.no_expression) 0) S.no_selector) }) (Some (record { becomes = 0; value = (S.only (S.simple None (S.term (S.True 98) S.no_factor) S.no_term)) }))) (S.next_stat 0 (S.If 0 (S.compared (S.simple None (S.term (S.Designated 101 S.no_selector) S.no_factor) S.no_term) (TheRelation.Less 102) (S.simple None (S.term (S.Int 103) S.no_factor) S.no_term)) 0 (S.stats (S.AssignOrCall (record { name = 105; selectors = (S.selected (S.Parens 0 (S.expressions (S.only (S.simple None (S.term (S.Designated 107 S.no_selector) S.no_factor) (S.added (TheAddOperator.Plus 108) (S.term (S.Int 109) S.no_factor) S.no_term))) S.no_expression) 0) S.no_selector) }) None) S.no_stat) S.no_elsif (S.otherwise 0 (S.stats (S.AssignOrCall (record { name = 112; selectors = (S.selected (S.Parens 0 (S.expressions (S.only (S.simple None (S.term (S.Designated 114 S.no_selector) S.no_factor) S.no_term)) S.no_expression) 0) S.no_selector) }) None) S.no_stat)) 0) (S.next_stat 0 (S.AssignOrCall (record { name = 118; selectors = (S.selected (S.Index 0 (S.expressions (S.only (S.simple None (S.term (S.Designated 120 S.no_selector) S.no_factor) S.no_term)) S.no_expression) 0) S.no_selector) }) (Some (record { becomes = 0; value = (S.only (S.simple None (S.term (S.False 123) S.no_factor) S.no_term)) }))) (S.next_stat 0 (S.AssignOrCall (record { name = 125; selectors = (S.selected (S.Index 0 (S.expressions (S.only (S.simple None (S.term (S.Designated 127 S.no_selector) S.no_factor) (S.added (TheAddOperator.Plus 128) (S.term (S.Designated 129 S.no_selector) S.no_factor) S.no_term))) S.no_expression) 0) S.no_selector) }) (Some (record { becomes = 0; value = (S.only (S.simple None (S.term (S.False 132) S.no_factor) S.no_term)) }))) (S.next_stat 0 (S.AssignOrCall (record { name = 134; selectors = (S.selected (S.Index 0 (S.expressions (S.only (S.simple None (S.term (S.Designated 136 S.no_selector) S.no_factor) (S.added (TheAddOperator.Minus 137) (S.term (S.Designated 138 S.no_selector) S.no_factor) (S.added (TheAddOperator.Plus 139) (S.term (S.Int 140) S.no_factor) S.no_term)))) S.no_expression) 0) S.no_selector) }) (Some (record { becomes = 0; value = (S.only (S.simple None (S.term (S.False 143) S.no_factor) S.no_term)) }))) S.no_stat))))))) S.no_elsif S.no_else 0) S.no_stat) 0) S.no_stat) })) None 146 147 0 S.no_procedure)); body = (Some (record { begin_word = 0; stats = (S.stats (S.AssignOrCall (record { name = 150; selectors = (S.selected (S.Parens 0 (S.expressions (S.only (S.simple None (S.term (S.Int 152) S.no_factor) S.no_term)) S.no_expression) 0) S.no_selector) }) None) (S.next_stat 0 (S.AssignOrCall (record { name = 155; selectors = (S.selected (S.Field 0 157) (S.selected (S.Parens 0 (S.expressions (S.only (S.simple None (S.term (S.Designated 159 S.no_selector) S.no_factor) S.no_term)) (S.next_expression 0 (S.only (S.simple None (S.term (S.Int 161) S.no_factor) S.no_term)) S.no_expression)) 0) S.no_selector)) }) None) (S.next_stat 0 (S.AssignOrCall (record { name = 164; selectors = (S.selected (S.Field 0 166) S.no_selector) }) None) S.no_stat))) })); end_word = 0; end_name = 168; period = 0 } }

pub queens : checked (queens_0 ∷ []) ≡ Legal (record { records = []; pointers = []; modules = (record { name = (81 ∷ 117 ∷ 101 ∷ 101 ∷ 110 ∷ 115 ∷ []); objects = (record { name = (97 ∷ []); exported = false; entity = I.OfVariable 0 } ∷ record { name = (98 ∷ []); exported = false; entity = I.OfVariable 1 } ∷ record { name = (99 ∷ []); exported = false; entity = I.OfVariable 2 } ∷ record { name = (99 ∷ 111 ∷ 117 ∷ 110 ∷ 116 ∷ []); exported = false; entity = I.OfVariable 3 } ∷ record { name = (84 ∷ 114 ∷ 121 ∷ []); exported = false; entity = I.OfProcedure 0 } ∷ []); variables = ((H.Array 8 H.Boolean) ∷ (H.Array 15 H.Boolean) ∷ (H.Array 15 H.Boolean) ∷ H.Integer ∷ []); body = 1 } ∷ []); procedures = (record { module_number = 0; line = 1; is_body = false; formals = (record { mode = TheMode.Value; variable = false; shape = H.Integer } ∷ []); result = H.Nothing; locals = (H.Integer ∷ []); texts = []; body = (I.next_statement (I.For (I.of_type (I.Local 1) H.Integer) (record { form = (I.Literal 0); shape = H.Integer }) (record { form = (I.Literal 7); shape = H.Integer }) (pos 1) (I.next_statement (I.If (I.next_branch (record { form = (I.Linked (I.Linked (I.Apply TheUnary.Not (I.Load (I.of_type (I.Index (I.Global 0 0) (Some 8) H.Boolean (I.Load (I.of_type (I.Local 1) H.Integer))) H.Boolean))) (I.And (I.Apply TheUnary.Not (I.Load (I.of_type (I.Index (I.Global 0 1) (Some 15) H.Boolean (I.Linked (I.Load (I.of_type (I.Local 0) H.Integer)) (I.Operate TheBinary.Add (I.Load (I.of_type (I.Local 1) H.Integer))))) H.Boolean))))) (I.And (I.Apply TheUnary.Not (I.Load (I.of_type (I.Index (I.Global 0 2) (Some 15) H.Boolean (I.Linked (I.Linked (I.Load (I.of_type (I.Local 0) H.Integer)) (I.Operate TheBinary.Subtract (I.Load (I.of_type (I.Local 1) H.Integer)))) (I.Operate TheBinary.Add (I.Literal 7)))) H.Boolean))))); shape = H.Boolean }) (I.next_statement (I.Assign (I.of_type (I.Index (I.Global 0 0) (Some 8) H.Boolean (I.Load (I.of_type (I.Local 1) H.Integer))) H.Boolean) (record { form = (I.Literal 1); shape = H.Boolean })) (I.next_statement (I.Assign (I.of_type (I.Index (I.Global 0 1) (Some 15) H.Boolean (I.Linked (I.Load (I.of_type (I.Local 0) H.Integer)) (I.Operate TheBinary.Add (I.Load (I.of_type (I.Local 1) H.Integer))))) H.Boolean) (record { form = (I.Literal 1); shape = H.Boolean })) (I.next_statement (I.Assign (I.of_type (I.Index (I.Global 0 2) (Some 15) H.Boolean (I.Linked (I.Linked (I.Load (I.of_type (I.Local 0) H.Integer)) (I.Operate TheBinary.Subtract (I.Load (I.of_type (I.Local 1) H.Integer)))) (I.Operate TheBinary.Add (I.Literal 7)))) H.Boolean) (record { form = (I.Literal 1); shape = H.Boolean })) (I.next_statement (I.If (I.next_branch (record { form = (I.Compare TheComparison.Less (I.Load (I.of_type (I.Local 0) H.Integer)) (I.Literal 7)); shape = H.Boolean }) (I.next_statement (I.Invoke (I.Direct 0 (I.next_argument (I.ByValue (I.Linked (I.Load (I.of_type (I.Local 0) H.Integer)) (I.Operate TheBinary.Add (I.Literal 1)))) I.no_argument))) I.no_statement) I.no_branch) (I.next_statement (I.Increase (I.of_type (I.Global 0 3) H.Integer) (record { form = (I.Literal 1); shape = H.Integer })) I.no_statement)) (I.next_statement (I.Assign (I.of_type (I.Index (I.Global 0 0) (Some 8) H.Boolean (I.Load (I.of_type (I.Local 1) H.Integer))) H.Boolean) (record { form = (I.Literal 0); shape = H.Boolean })) (I.next_statement (I.Assign (I.of_type (I.Index (I.Global 0 1) (Some 15) H.Boolean (I.Linked (I.Load (I.of_type (I.Local 0) H.Integer)) (I.Operate TheBinary.Add (I.Load (I.of_type (I.Local 1) H.Integer))))) H.Boolean) (record { form = (I.Literal 0); shape = H.Boolean })) (I.next_statement (I.Assign (I.of_type (I.Index (I.Global 0 2) (Some 15) H.Boolean (I.Linked (I.Linked (I.Load (I.of_type (I.Local 0) H.Integer)) (I.Operate TheBinary.Subtract (I.Load (I.of_type (I.Local 1) H.Integer)))) (I.Operate TheBinary.Add (I.Literal 7)))) H.Boolean) (record { form = (I.Literal 0); shape = H.Boolean })) I.no_statement))))))) I.no_branch) I.no_statement) I.no_statement)) I.no_statement); answer = None } ∷ record { module_number = 0; line = 1; is_body = true; formals = []; result = H.Nothing; locals = []; texts = []; body = (I.next_statement (I.Invoke (I.Direct 0 (I.next_argument (I.ByValue (I.Literal 0)) I.no_argument))) (I.next_statement (I.OutInt (record { form = (I.Load (I.of_type (I.Global 0 3) H.Integer)); shape = H.Integer }) (record { form = (I.Literal 0); shape = H.Integer })) (I.next_statement I.OutLn I.no_statement))); answer = None } ∷ []); imports_in = false })
queens = refl

-- MODULE K; IMPORT In, Out; VAR c: CHAR; BEGIN In.Char(c); WHILE In.Done DO Out.Char(c); In.Char(c) END END K.
abbrev echo_0 : Parsed
echo_0 = record { source = record { bytes = (77 ∷ 79 ∷ 68 ∷ 85 ∷ 76 ∷ 69 ∷ 32 ∷ 75 ∷ 59 ∷ 32 ∷ 73 ∷ 77 ∷ 80 ∷ 79 ∷ 82 ∷ 84 ∷ 32 ∷ 73 ∷ 110 ∷ 44 ∷ 32 ∷ 79 ∷ 117 ∷ 116 ∷ 59 ∷ 32 ∷ 86 ∷ 65 ∷ 82 ∷ 32 ∷ 99 ∷ 58 ∷ 32 ∷ 67 ∷ 72 ∷ 65 ∷ 82 ∷ 59 ∷ 32 ∷ 66 ∷ 69 ∷ 71 ∷ 73 ∷ 78 ∷ 32 ∷ 73 ∷ 110 ∷ 46 ∷ 67 ∷ 104 ∷ 97 ∷ 114 ∷ 40 ∷ 99 ∷ 41 ∷ 59 ∷ 32 ∷ 87 ∷ 72 ∷ 73 ∷ 76 ∷ 69 ∷ 32 ∷ 73 ∷ 110 ∷ 46 ∷ 68 ∷ 111 ∷ 110 ∷ 101 ∷ 32 ∷ 68 ∷ 79 ∷ 32 ∷ 79 ∷ 117 ∷ 116 ∷ 46 ∷ 67 ∷ 104 ∷ 97 ∷ 114 ∷ 40 ∷ 99 ∷ 41 ∷ 59 ∷ 32 ∷ 73 ∷ 110 ∷ 46 ∷ 67 ∷ 104 ∷ 97 ∷ 114 ∷ 40 ∷ 99 ∷ 41 ∷ 32 ∷ 69 ∷ 78 ∷ 68 ∷ 32 ∷ 69 ∷ 78 ∷ 68 ∷ 32 ∷ 75 ∷ 46 ∷ []); symbols = (symbol (Ident) 0 6 ∷ symbol (Ident) 7 8 ∷ symbol (Ident) 8 9 ∷ symbol (Ident) 10 16 ∷ symbol (Ident) 17 19 ∷ symbol (Ident) 19 20 ∷ symbol (Ident) 21 24 ∷ symbol (Ident) 24 25 ∷ symbol (Ident) 26 29 ∷ symbol (Ident) 30 31 ∷ symbol (Ident) 31 32 ∷ symbol (Ident) 33 37 ∷ symbol (Ident) 37 38 ∷ symbol (Ident) 39 44 ∷ symbol (Ident) 45 47 ∷ symbol (Ident) 47 48 ∷ symbol (Ident) 48 52 ∷ symbol (Ident) 52 53 ∷ symbol (Ident) 53 54 ∷ symbol (Ident) 54 55 ∷ symbol (Ident) 55 56 ∷ symbol (Ident) 57 62 ∷ symbol (Ident) 63 65 ∷ symbol (Ident) 65 66 ∷ symbol (Ident) 66 70 ∷ symbol (Ident) 71 73 ∷ symbol (Ident) 74 77 ∷ symbol (Ident) 77 78 ∷ symbol (Ident) 78 82 ∷ symbol (Ident) 82 83 ∷ symbol (Ident) 83 84 ∷ symbol (Ident) 84 85 ∷ symbol (Ident) 85 86 ∷ symbol (Ident) 87 89 ∷ symbol (Ident) 89 90 ∷ symbol (Ident) 90 94 ∷ symbol (Ident) 94 95 ∷ symbol (Ident) 95 96 ∷ symbol (Ident) 96 97 ∷ symbol (Ident) 98 101 ∷ symbol (Ident) 102 105 ∷ symbol (Ident) 106 107 ∷ symbol (Ident) 107 108 ∷ []) }; tree = record { module_word = 0; name = 1; semicolon = 0; imports = Some (record { import_word = 0; first = (record { name = 4; of = None }); more = (record { comma = 0; import = (record { name = 6; of = None }) } ∷ []); semicolon = 0 }); decls = (S.decls None None (Some (record { var_word = 0; each = (record { names = (record { first = (record { name = 9; star = None }); more = [] }); colon = 0; of = (S.Named (record { name = 11; member = None })); semicolon = 0 } ∷ []) })) S.no_procedure); body = (Some (record { begin_word = 0; stats = (S.stats (S.AssignOrCall (record { name = 14; selectors = (S.selected (S.Field 0 16) (S.selected (S.Parens 0 (S.expressions (S.only (S.simple None (S.term (S.Designated 18 S.no_selector) S.no_factor) S.no_term)) S.no_expression) 0) S.no_selector)) }) None) (S.next_stat 0 (S.While 0 (S.only (S.simple None (S.term (S.Designated 22 (S.selected (S.Field 0 24) S.no_selector)) S.no_factor) S.no_term)) 0 (S.stats (S.AssignOrCall (record { name = 26; selectors = (S.selected (S.Field 0 28) (S.selected (S.Parens 0 (S.expressions (S.only (S.simple None (S.term (S.Designated 30 S.no_selector) S.no_factor) S.no_term)) S.no_expression) 0) S.no_selector)) }) None) (S.next_stat 0 (S.AssignOrCall (record { name = 33; selectors = (S.selected (S.Field 0 35) (S.selected (S.Parens 0 (S.expressions (S.only (S.simple None (S.term (S.Designated 37 S.no_selector) S.no_factor) S.no_term)) S.no_expression) 0) S.no_selector)) }) None) S.no_stat)) S.no_elsif 0) S.no_stat)) })); end_word = 0; end_name = 41; period = 0 } }

pub echo : checked (echo_0 ∷ []) ≡ Legal (record { records = []; pointers = []; modules = (record { name = (75 ∷ []); objects = (record { name = (99 ∷ []); exported = false; entity = I.OfVariable 0 } ∷ []); variables = (H.Char ∷ []); body = 0 } ∷ []); procedures = (record { module_number = 0; line = 1; is_body = true; formals = []; result = H.Nothing; locals = []; texts = []; body = (I.next_statement (I.InChar (I.of_type (I.Global 0 0) H.Char)) (I.next_statement (I.While (I.next_branch (record { form = (I.Load (I.of_type I.Done H.Boolean)); shape = H.Boolean }) (I.next_statement (I.OutChar (record { form = (I.Load (I.of_type (I.Global 0 0) H.Char)); shape = H.Char })) (I.next_statement (I.InChar (I.of_type (I.Global 0 0) H.Char)) I.no_statement)) I.no_branch)) I.no_statement)); answer = None } ∷ []); imports_in = true })
echo = refl

-- MODULE G; TYPE B = RECORD END; E = RECORD (B) x: INTEGER END; F = RECORD (E) END; PB = POINTER TO B; PE = POINTER TO E; PF = POINTER TO F; VAR p: PB; e: PE; f: PF; BEGIN NEW(e); p := e; e := p(PE); NEW(f); p := f; ASSERT(~(p IS PE)) END G.
abbrev guards_0 : Parsed
guards_0 = record { source = record { bytes = (77 ∷ 79 ∷ 68 ∷ 85 ∷ 76 ∷ 69 ∷ 32 ∷ 71 ∷ 59 ∷ 32 ∷ 84 ∷ 89 ∷ 80 ∷ 69 ∷ 32 ∷ 66 ∷ 32 ∷ 61 ∷ 32 ∷ 82 ∷ 69 ∷ 67 ∷ 79 ∷ 82 ∷ 68 ∷ 32 ∷ 69 ∷ 78 ∷ 68 ∷ 59 ∷ 32 ∷ 69 ∷ 32 ∷ 61 ∷ 32 ∷ 82 ∷ 69 ∷ 67 ∷ 79 ∷ 82 ∷ 68 ∷ 32 ∷ 40 ∷ 66 ∷ 41 ∷ 32 ∷ 120 ∷ 58 ∷ 32 ∷ 73 ∷ 78 ∷ 84 ∷ 69 ∷ 71 ∷ 69 ∷ 82 ∷ 32 ∷ 69 ∷ 78 ∷ 68 ∷ 59 ∷ 32 ∷ 70 ∷ 32 ∷ 61 ∷ 32 ∷ 82 ∷ 69 ∷ 67 ∷ 79 ∷ 82 ∷ 68 ∷ 32 ∷ 40 ∷ 69 ∷ 41 ∷ 32 ∷ 69 ∷ 78 ∷ 68 ∷ 59 ∷ 32 ∷ 80 ∷ 66 ∷ 32 ∷ 61 ∷ 32 ∷ 80 ∷ 79 ∷ 73 ∷ 78 ∷ 84 ∷ 69 ∷ 82 ∷ 32 ∷ 84 ∷ 79 ∷ 32 ∷ 66 ∷ 59 ∷ 32 ∷ 80 ∷ 69 ∷ 32 ∷ 61 ∷ 32 ∷ 80 ∷ 79 ∷ 73 ∷ 78 ∷ 84 ∷ 69 ∷ 82 ∷ 32 ∷ 84 ∷ 79 ∷ 32 ∷ 69 ∷ 59 ∷ 32 ∷ 80 ∷ 70 ∷ 32 ∷ 61 ∷ 32 ∷ 80 ∷ 79 ∷ 73 ∷ 78 ∷ 84 ∷ 69 ∷ 82 ∷ 32 ∷ 84 ∷ 79 ∷ 32 ∷ 70 ∷ 59 ∷ 32 ∷ 86 ∷ 65 ∷ 82 ∷ 32 ∷ 112 ∷ 58 ∷ 32 ∷ 80 ∷ 66 ∷ 59 ∷ 32 ∷ 101 ∷ 58 ∷ 32 ∷ 80 ∷ 69 ∷ 59 ∷ 32 ∷ 102 ∷ 58 ∷ 32 ∷ 80 ∷ 70 ∷ 59 ∷ 32 ∷ 66 ∷ 69 ∷ 71 ∷ 73 ∷ 78 ∷ 32 ∷ 78 ∷ 69 ∷ 87 ∷ 40 ∷ 101 ∷ 41 ∷ 59 ∷ 32 ∷ 112 ∷ 32 ∷ 58 ∷ 61 ∷ 32 ∷ 101 ∷ 59 ∷ 32 ∷ 101 ∷ 32 ∷ 58 ∷ 61 ∷ 32 ∷ 112 ∷ 40 ∷ 80 ∷ 69 ∷ 41 ∷ 59 ∷ 32 ∷ 78 ∷ 69 ∷ 87 ∷ 40 ∷ 102 ∷ 41 ∷ 59 ∷ 32 ∷ 112 ∷ 32 ∷ 58 ∷ 61 ∷ 32 ∷ 102 ∷ 59 ∷ 32 ∷ 65 ∷ 83 ∷ 83 ∷ 69 ∷ 82 ∷ 84 ∷ 40 ∷ 126 ∷ 40 ∷ 112 ∷ 32 ∷ 73 ∷ 83 ∷ 32 ∷ 80 ∷ 69 ∷ 41 ∷ 41 ∷ 32 ∷ 69 ∷ 78 ∷ 68 ∷ 32 ∷ 71 ∷ 46 ∷ []); symbols = (symbol (Ident) 0 6 ∷ symbol (Ident) 7 8 ∷ symbol (Ident) 8 9 ∷ symbol (Ident) 10 14 ∷ symbol (Ident) 15 16 ∷ symbol (Ident) 17 18 ∷ symbol (Ident) 19 25 ∷ symbol (Ident) 26 29 ∷ symbol (Ident) 29 30 ∷ symbol (Ident) 31 32 ∷ symbol (Ident) 33 34 ∷ symbol (Ident) 35 41 ∷ symbol (Ident) 42 43 ∷ symbol (Ident) 43 44 ∷ symbol (Ident) 44 45 ∷ symbol (Ident) 46 47 ∷ symbol (Ident) 47 48 ∷ symbol (Ident) 49 56 ∷ symbol (Ident) 57 60 ∷ symbol (Ident) 60 61 ∷ symbol (Ident) 62 63 ∷ symbol (Ident) 64 65 ∷ symbol (Ident) 66 72 ∷ symbol (Ident) 73 74 ∷ symbol (Ident) 74 75 ∷ symbol (Ident) 75 76 ∷ symbol (Ident) 77 80 ∷ symbol (Ident) 80 81 ∷ symbol (Ident) 82 84 ∷ symbol (Ident) 85 86 ∷ symbol (Ident) 87 94 ∷ symbol (Ident) 95 97 ∷ symbol (Ident) 98 99 ∷ symbol (Ident) 99 100 ∷ symbol (Ident) 101 103 ∷ symbol (Ident) 104 105 ∷ symbol (Ident) 106 113 ∷ symbol (Ident) 114 116 ∷ symbol (Ident) 117 118 ∷ symbol (Ident) 118 119 ∷ symbol (Ident) 120 122 ∷ symbol (Ident) 123 124 ∷ symbol (Ident) 125 132 ∷ symbol (Ident) 133 135 ∷ symbol (Ident) 136 137 ∷ symbol (Ident) 137 138 ∷ symbol (Ident) 139 142 ∷ symbol (Ident) 143 144 ∷ symbol (Ident) 144 145 ∷ symbol (Ident) 146 148 ∷ symbol (Ident) 148 149 ∷ symbol (Ident) 150 151 ∷ symbol (Ident) 151 152 ∷ symbol (Ident) 153 155 ∷ symbol (Ident) 155 156 ∷ symbol (Ident) 157 158 ∷ symbol (Ident) 158 159 ∷ symbol (Ident) 160 162 ∷ symbol (Ident) 162 163 ∷ symbol (Ident) 164 169 ∷ symbol (Ident) 170 173 ∷ symbol (Ident) 173 174 ∷ symbol (Ident) 174 175 ∷ symbol (Ident) 175 176 ∷ symbol (Ident) 176 177 ∷ symbol (Ident) 178 179 ∷ symbol (Ident) 180 182 ∷ symbol (Ident) 183 184 ∷ symbol (Ident) 184 185 ∷ symbol (Ident) 186 187 ∷ symbol (Ident) 188 190 ∷ symbol (Ident) 191 192 ∷ symbol (Ident) 192 193 ∷ symbol (Ident) 193 195 ∷ symbol (Ident) 195 196 ∷ symbol (Ident) 196 197 ∷ symbol (Ident) 198 201 ∷ symbol (Ident) 201 202 ∷ symbol (Ident) 202 203 ∷ symbol (Ident) 203 204 ∷ symbol (Ident) 204 205 ∷ symbol (Ident) 206 207 ∷ symbol (Ident) 208 210 ∷ symbol (Ident) 211 212 ∷ symbol (Ident) 212 213 ∷ symbol (Ident) 214 220 ∷ symbol (Ident) 220 221 ∷ symbol (Ident) 221 222 ∷ symbol (Ident) 222 223 ∷ symbol (Ident) 223 224 ∷ symbol (Ident) 225 227 ∷ symbol (Ident) 228 230 ∷ symbol (Ident) 230 231 ∷ symbol (Ident) 231 232 ∷ symbol (Ident) 233 236 ∷ symbol (Ident) 237 238 ∷ symbol (Ident) 238 239 ∷ []) }; tree = record { module_word = 0; name = 1; semicolon = 0; imports = None; decls = (S.decls None (Some (record { type_word = 0; each = (record { name = (record { name = 4; star = None }); equal = 0; is = (S.Record 6 None S.no_fields S.no_more_fields 0); semicolon = 0 } ∷ record { name = (record { name = 9; star = None }); equal = 0; is = (S.Record 11 (Some (record { left_paren = 0; name = (record { name = 13; member = None }); right_paren = 0 })) (S.fields (record { first = (record { name = 15; star = None }); more = [] }) 0 (S.Named (record { name = 17; member = None }))) S.no_more_fields 0); semicolon = 0 } ∷ record { name = (record { name = 20; star = None }); equal = 0; is = (S.Record 22 (Some (record { left_paren = 0; name = (record { name = 24; member = None }); right_paren = 0 })) S.no_fields S.no_more_fields 0); semicolon = 0 } ∷ record { name = (record { name = 28; star = None }); equal = 0; is = (S.Pointer 30 0 (S.Named (record { name = 32; member = None }))); semicolon = 0 } ∷ record { name = (record { name = 34; star = None }); equal = 0; is = (S.Pointer 36 0 (S.Named (record { name = 38; member = None }))); semicolon = 0 } ∷ record { name = (record { name = 40; star = None }); equal = 0; is = (S.Pointer 42 0 (S.Named (record { name = 44; member = None }))); semicolon = 0 } ∷ []) })) (Some (record { var_word = 0; each = (record { names = (record { first = (record { name = 47; star = None }); more = [] }); colon = 0; of = (S.Named (record { name = 49; member = None })); semicolon = 0 } ∷ record { names = (record { first = (record { name = 51; star = None }); more = [] }); colon = 0; of = (S.Named (record { name = 53; member = None })); semicolon = 0 } ∷ record { names = (record { first = (record { name = 55; star = None }); more = [] }); colon = 0; of = (S.Named (record { name = 57; member = None })); semicolon = 0 } ∷ []) })) S.no_procedure); body = (Some (record { begin_word = 0; stats = (S.stats (S.AssignOrCall (record { name = 60; selectors = (S.selected (S.Parens 0 (S.expressions (S.only (S.simple None (S.term (S.Designated 62 S.no_selector) S.no_factor) S.no_term)) S.no_expression) 0) S.no_selector) }) None) (S.next_stat 0 (S.AssignOrCall (record { name = 65; selectors = S.no_selector }) (Some (record { becomes = 0; value = (S.only (S.simple None (S.term (S.Designated 67 S.no_selector) S.no_factor) S.no_term)) }))) (S.next_stat 0 (S.AssignOrCall (record { name = 69; selectors = S.no_selector }) (Some (record { becomes = 0; value = (S.only (S.simple None (S.term (S.Designated 71 (S.selected (S.Parens 0 (S.expressions (S.only (S.simple None (S.term (S.Designated 73 S.no_selector) S.no_factor) S.no_term)) S.no_expression) 0) S.no_selector)) S.no_factor) S.no_term)) }))) (S.next_stat 0 (S.AssignOrCall (record { name = 76; selectors = (S.selected (S.Parens 0 (S.expressions (S.only (S.simple None (S.term (S.Designated 78 S.no_selector) S.no_factor) S.no_term)) S.no_expression) 0) S.no_selector) }) None) (S.next_stat 0 (S.AssignOrCall (record { name = 81; selectors = S.no_selector }) (Some (record { becomes = 0; value = (S.only (S.simple None (S.term (S.Designated 83 S.no_selector) S.no_factor) S.no_term)) }))) (S.next_stat 0 (S.AssignOrCall (record { name = 85; selectors = (S.selected (S.Parens 0 (S.expressions (S.only (S.simple None (S.term (S.Not 87 (S.Paren 88 (S.compared (S.simple None (S.term (S.Designated 89 S.no_selector) S.no_factor) S.no_term) (TheRelation.Is 90) (S.simple None (S.term (S.Designated 91 S.no_selector) S.no_factor) S.no_term)) 0)) S.no_factor) S.no_term)) S.no_expression) 0) S.no_selector) }) None) S.no_stat)))))) })); end_word = 0; end_name = 95; period = 0 } }

pub guards : checked (guards_0 ∷ []) ≡ Legal (record { records = (record { module_number = 0; base = None; level = 0; fields = []; cells = 0; extent = record { bytes = 0; wide = false } } ∷ record { module_number = 0; base = (Some 0); level = 1; fields = (record { name = (120 ∷ []); exported = false; shape = H.Integer } ∷ []); cells = 1; extent = record { bytes = 8; wide = true } } ∷ record { module_number = 0; base = (Some 1); level = 2; fields = []; cells = 1; extent = record { bytes = 8; wide = true } } ∷ []); pointers = (Some 0 ∷ Some 1 ∷ Some 2 ∷ []); modules = (record { name = (71 ∷ []); objects = (record { name = (66 ∷ []); exported = false; entity = I.OfType (H.Record 0) } ∷ record { name = (69 ∷ []); exported = false; entity = I.OfType (H.Record 1) } ∷ record { name = (70 ∷ []); exported = false; entity = I.OfType (H.Record 2) } ∷ record { name = (80 ∷ 66 ∷ []); exported = false; entity = I.OfType (H.Pointer 0) } ∷ record { name = (80 ∷ 69 ∷ []); exported = false; entity = I.OfType (H.Pointer 1) } ∷ record { name = (80 ∷ 70 ∷ []); exported = false; entity = I.OfType (H.Pointer 2) } ∷ record { name = (112 ∷ []); exported = false; entity = I.OfVariable 0 } ∷ record { name = (101 ∷ []); exported = false; entity = I.OfVariable 1 } ∷ record { name = (102 ∷ []); exported = false; entity = I.OfVariable 2 } ∷ []); variables = ((H.Pointer 0) ∷ (H.Pointer 1) ∷ (H.Pointer 2) ∷ []); body = 0 } ∷ []); procedures = (record { module_number = 0; line = 1; is_body = true; formals = []; result = H.Nothing; locals = []; texts = []; body = (I.next_statement (I.New (I.of_type (I.Global 0 1) (H.Pointer 1))) (I.next_statement (I.Assign (I.of_type (I.Global 0 0) (H.Pointer 0)) (record { form = (I.Load (I.of_type (I.Global 0 1) (H.Pointer 1))); shape = (H.Pointer 1) })) (I.next_statement (I.Assign (I.of_type (I.Global 0 1) (H.Pointer 1)) (record { form = (I.Guard (I.Load (I.of_type (I.Global 0 0) (H.Pointer 0))) 1); shape = (H.Pointer 1) })) (I.next_statement (I.New (I.of_type (I.Global 0 2) (H.Pointer 2))) (I.next_statement (I.Assign (I.of_type (I.Global 0 0) (H.Pointer 0)) (record { form = (I.Load (I.of_type (I.Global 0 2) (H.Pointer 2))); shape = (H.Pointer 2) })) (I.next_statement (I.Assert (record { form = (I.Apply TheUnary.Not (I.IsPointer (I.Load (I.of_type (I.Global 0 0) (H.Pointer 0))) 1)); shape = H.Boolean })) I.no_statement)))))); answer = None } ∷ []); imports_in = false })
guards = refl

-- MODULE T; IMPORT Out; CONST s = ''abc''; VAR a: ARRAY 8 OF CHAR; b: BOOLEAN; PROCEDURE P(s: ARRAY OF CHAR): BOOLEAN; BEGIN a := s RETURN s = ''q1'' END P; PROCEDURE Q(): BOOLEAN; RETURN (''one'' < ''two'') & P(''three'') END Q; BEGIN a := s; Out.String(''xy''); IF ''ab'' < a THEN a := ''if'' ELSIF P(''elsif'') THEN ELSE a := ''else'' END; REPEAT a := ''until'' UNTIL a = ''last'' END T.
abbrev texts_0 : Parsed
texts_0 = record { source = record { bytes = (77 ∷ 79 ∷ 68 ∷ 85 ∷ 76 ∷ 69 ∷ 32 ∷ 84 ∷ 59 ∷ 32 ∷ 73 ∷ 77 ∷ 80 ∷ 79 ∷ 82 ∷ 84 ∷ 32 ∷ 79 ∷ 117 ∷ 116 ∷ 59 ∷ 32 ∷ 67 ∷ 79 ∷ 78 ∷ 83 ∷ 84 ∷ 32 ∷ 115 ∷ 32 ∷ 61 ∷ 32 ∷ 34 ∷ 97 ∷ 98 ∷ 99 ∷ 34 ∷ 59 ∷ 32 ∷ 86 ∷ 65 ∷ 82 ∷ 32 ∷ 97 ∷ 58 ∷ 32 ∷ 65 ∷ 82 ∷ 82 ∷ 65 ∷ 89 ∷ 32 ∷ 56 ∷ 32 ∷ 79 ∷ 70 ∷ 32 ∷ 67 ∷ 72 ∷ 65 ∷ 82 ∷ 59 ∷ 32 ∷ 98 ∷ 58 ∷ 32 ∷ 66 ∷ 79 ∷ 79 ∷ 76 ∷ 69 ∷ 65 ∷ 78 ∷ 59 ∷ 32 ∷ 80 ∷ 82 ∷ 79 ∷ 67 ∷ 69 ∷ 68 ∷ 85 ∷ 82 ∷ 69 ∷ 32 ∷ 80 ∷ 40 ∷ 115 ∷ 58 ∷ 32 ∷ 65 ∷ 82 ∷ 82 ∷ 65 ∷ 89 ∷ 32 ∷ 79 ∷ 70 ∷ 32 ∷ 67 ∷ 72 ∷ 65 ∷ 82 ∷ 41 ∷ 58 ∷ 32 ∷ 66 ∷ 79 ∷ 79 ∷ 76 ∷ 69 ∷ 65 ∷ 78 ∷ 59 ∷ 32 ∷ 66 ∷ 69 ∷ 71 ∷ 73 ∷ 78 ∷ 32 ∷ 97 ∷ 32 ∷ 58 ∷ 61 ∷ 32 ∷ 115 ∷ 32 ∷ 82 ∷ 69 ∷ 84 ∷ 85 ∷ 82 ∷ 78 ∷ 32 ∷ 115 ∷ 32 ∷ 61 ∷ 32 ∷ 34 ∷ 113 ∷ 49 ∷ 34 ∷ 32 ∷ 69 ∷ 78 ∷ 68 ∷ 32 ∷ 80 ∷ 59 ∷ 32 ∷ 80 ∷ 82 ∷ 79 ∷ 67 ∷ 69 ∷ 68 ∷ 85 ∷ 82 ∷ 69 ∷ 32 ∷ 81 ∷ 40 ∷ 41 ∷ 58 ∷ 32 ∷ 66 ∷ 79 ∷ 79 ∷ 76 ∷ 69 ∷ 65 ∷ 78 ∷ 59 ∷ 32 ∷ 82 ∷ 69 ∷ 84 ∷ 85 ∷ 82 ∷ 78 ∷ 32 ∷ 40 ∷ 34 ∷ 111 ∷ 110 ∷ 101 ∷ 34 ∷ 32 ∷ 60 ∷ 32 ∷ 34 ∷ 116 ∷ 119 ∷ 111 ∷ 34 ∷ 41 ∷ 32 ∷ 38 ∷ 32 ∷ 80 ∷ 40 ∷ 34 ∷ 116 ∷ 104 ∷ 114 ∷ 101 ∷ 101 ∷ 34 ∷ 41 ∷ 32 ∷ 69 ∷ 78 ∷ 68 ∷ 32 ∷ 81 ∷ 59 ∷ 32 ∷ 66 ∷ 69 ∷ 71 ∷ 73 ∷ 78 ∷ 32 ∷ 97 ∷ 32 ∷ 58 ∷ 61 ∷ 32 ∷ 115 ∷ 59 ∷ 32 ∷ 79 ∷ 117 ∷ 116 ∷ 46 ∷ 83 ∷ 116 ∷ 114 ∷ 105 ∷ 110 ∷ 103 ∷ 40 ∷ 34 ∷ 120 ∷ 121 ∷ 34 ∷ 41 ∷ 59 ∷ 32 ∷ 73 ∷ 70 ∷ 32 ∷ 34 ∷ 97 ∷ 98 ∷ 34 ∷ 32 ∷ 60 ∷ 32 ∷ 97 ∷ 32 ∷ 84 ∷ 72 ∷ 69 ∷ 78 ∷ 32 ∷ 97 ∷ 32 ∷ 58 ∷ 61 ∷ 32 ∷ 34 ∷ 105 ∷ 102 ∷ 34 ∷ 32 ∷ 69 ∷ 76 ∷ 83 ∷ 73 ∷ 70 ∷ 32 ∷ 80 ∷ 40 ∷ 34 ∷ 101 ∷ 108 ∷ 115 ∷ 105 ∷ 102 ∷ 34 ∷ 41 ∷ 32 ∷ 84 ∷ 72 ∷ 69 ∷ 78 ∷ 32 ∷ 69 ∷ 76 ∷ 83 ∷ 69 ∷ 32 ∷ 97 ∷ 32 ∷ 58 ∷ 61 ∷ 32 ∷ 34 ∷ 101 ∷ 108 ∷ 115 ∷ 101 ∷ 34 ∷ 32 ∷ 69 ∷ 78 ∷ 68 ∷ 59 ∷ 32 ∷ 82 ∷ 69 ∷ 80 ∷ 69 ∷ 65 ∷ 84 ∷ 32 ∷ 97 ∷ 32 ∷ 58 ∷ 61 ∷ 32 ∷ 34 ∷ 117 ∷ 110 ∷ 116 ∷ 105 ∷ 108 ∷ 34 ∷ 32 ∷ 85 ∷ 78 ∷ 84 ∷ 73 ∷ 76 ∷ 32 ∷ 97 ∷ 32 ∷ 61 ∷ 32 ∷ 34 ∷ 108 ∷ 97 ∷ 115 ∷ 116 ∷ 34 ∷ 32 ∷ 69 ∷ 78 ∷ 68 ∷ 32 ∷ 84 ∷ 46 ∷ []); symbols = (symbol (Ident) 0 6 ∷ symbol (Ident) 7 8 ∷ symbol (Ident) 8 9 ∷ symbol (Ident) 10 16 ∷ symbol (Ident) 17 20 ∷ symbol (Ident) 20 21 ∷ symbol (Ident) 22 27 ∷ symbol (Ident) 28 29 ∷ symbol (Ident) 30 31 ∷ symbol (TheKind.Text) 32 37 ∷ symbol (Ident) 37 38 ∷ symbol (Ident) 39 42 ∷ symbol (Ident) 43 44 ∷ symbol (Ident) 44 45 ∷ symbol (Ident) 46 51 ∷ symbol (Int (pos 8)) 52 53 ∷ symbol (Ident) 54 56 ∷ symbol (Ident) 57 61 ∷ symbol (Ident) 61 62 ∷ symbol (Ident) 63 64 ∷ symbol (Ident) 64 65 ∷ symbol (Ident) 66 73 ∷ symbol (Ident) 73 74 ∷ symbol (Ident) 75 84 ∷ symbol (Ident) 85 86 ∷ symbol (Ident) 86 87 ∷ symbol (Ident) 87 88 ∷ symbol (Ident) 88 89 ∷ symbol (Ident) 90 95 ∷ symbol (Ident) 96 98 ∷ symbol (Ident) 99 103 ∷ symbol (Ident) 103 104 ∷ symbol (Ident) 104 105 ∷ symbol (Ident) 106 113 ∷ symbol (Ident) 113 114 ∷ symbol (Ident) 115 120 ∷ symbol (Ident) 121 122 ∷ symbol (Ident) 123 125 ∷ symbol (Ident) 126 127 ∷ symbol (Ident) 128 134 ∷ symbol (Ident) 135 136 ∷ symbol (Ident) 137 138 ∷ symbol (TheKind.Text) 139 143 ∷ symbol (Ident) 144 147 ∷ symbol (Ident) 148 149 ∷ symbol (Ident) 149 150 ∷ symbol (Ident) 151 160 ∷ symbol (Ident) 161 162 ∷ symbol (Ident) 162 163 ∷ symbol (Ident) 163 164 ∷ symbol (Ident) 164 165 ∷ symbol (Ident) 166 173 ∷ symbol (Ident) 173 174 ∷ symbol (Ident) 175 181 ∷ symbol (Ident) 182 183 ∷ symbol (TheKind.Text) 183 188 ∷ symbol (Ident) 189 190 ∷ symbol (TheKind.Text) 191 196 ∷ symbol (Ident) 196 197 ∷ symbol (Ident) 198 199 ∷ symbol (Ident) 200 201 ∷ symbol (Ident) 201 202 ∷ symbol (TheKind.Text) 202 209 ∷ symbol (Ident) 209 210 ∷ symbol (Ident) 211 214 ∷ symbol (Ident) 215 216 ∷ symbol (Ident) 216 217 ∷ symbol (Ident) 218 223 ∷ symbol (Ident) 224 225 ∷ symbol (Ident) 226 228 ∷ symbol (Ident) 229 230 ∷ symbol (Ident) 230 231 ∷ symbol (Ident) 232 235 ∷ symbol (Ident) 235 236 ∷ symbol (Ident) 236 242 ∷ symbol (Ident) 242 243 ∷ symbol (TheKind.Text) 243 247 ∷ symbol (Ident) 247 248 ∷ symbol (Ident) 248 249 ∷ symbol (Ident) 250 252 ∷ symbol (TheKind.Text) 253 257 ∷ symbol (Ident) 258 259 ∷ symbol (Ident) 260 261 ∷ symbol (Ident) 262 266 ∷ symbol (Ident) 267 268 ∷ symbol (Ident) 269 271 ∷ symbol (TheKind.Text) 272 276 ∷ symbol (Ident) 277 282 ∷ symbol (Ident) 283 284 ∷ symbol (Ident) 284 285 ∷ symbol (TheKind.Text) 285 292 ∷ symbol (Ident) 292 293 ∷ symbol (Ident) 294 298 ∷ symbol (Ident) 299 303 ∷ symbol (Ident) 304 305 ∷ symbol (Ident) 306 308 ∷ symbol (TheKind.Text) 309 315 ∷ symbol (Ident) 316 319 ∷ symbol (Ident) 319 320 ∷ symbol (Ident) 321 327 ∷ symbol (Ident) 328 329 ∷ symbol (Ident) 330 332 ∷ symbol (TheKind.Text) 333 340 ∷ symbol (Ident) 341 346 ∷ symbol (Ident) 347 348 ∷ symbol (Ident) 349 350 ∷ symbol (TheKind.Text) 351 357 ∷ symbol (Ident) 358 361 ∷ symbol (Ident) 362 363 ∷ symbol (Ident) 363 364 ∷ []) }; tree = record { module_word = 0; name = 1; semicolon = 0; imports = Some (record { import_word = 0; first = (record { name = 4; of = None }); more = []; semicolon = 0 }); decls = (S.decls (Some (record { const_word = 0; each = (record { name = (record { name = 7; star = None }); equal = 0; value = (S.only (S.simple None (S.term (S.Text 9) S.no_factor) S.no_term)); semicolon = 0 } ∷ []) })) None (Some (record { var_word = 0; each = (record { names = (record { first = (record { name = 12; star = None }); more = [] }); colon = 0; of = (S.Array 14 (S.only (S.simple None (S.term (S.Int 15) S.no_factor) S.no_term)) S.no_expression 0 (S.Named (record { name = 17; member = None }))); semicolon = 0 } ∷ record { names = (record { first = (record { name = 19; star = None }); more = [] }); colon = 0; of = (S.Named (record { name = 21; member = None })); semicolon = 0 } ∷ []) })) (S.procedure 0 (record { name = 24; star = None }) (Some (record { left_paren = 0; sections = Some (record { first = (record { var_word = None; first = 26; more = []; colon = 0; open_array = Some (record { array_word = 0; of_word = 0 }); of = (record { name = 30; member = None }) }); more = [] }); right_paren = 0; result = Some (record { colon = 0; name = (record { name = 33; member = None }) }) })) 0 (S.decls None None None S.no_procedure) (Some (record { begin_word = 0; stats = (S.stats (S.AssignOrCall (record { name = 36; selectors = S.no_selector }) (Some (record { becomes = 0; value = (S.only (S.simple None (S.term (S.Designated 38 S.no_selector) S.no_factor) S.no_term)) }))) S.no_stat) })) (Some (record { return_word = 39; value = (S.compared (S.simple None (S.term (S.Designated 40 S.no_selector) S.no_factor) S.no_term) (TheRelation.Equal 41) (S.simple None (S.term (S.Text 42) S.no_factor) S.no_term)) })) 43 44 0 (S.procedure 0 (record { name = 47; star = None }) (Some (record { left_paren = 0; sections = None; right_paren = 0; result = Some (record { colon = 0; name = (record { name = 51; member = None }) }) })) 0 (S.decls None None None S.no_procedure) None (Some (record { return_word = 53; value = (S.only (S.simple None (S.term (S.Paren 54 (S.compared (S.simple None (S.term (S.Text 55) S.no_factor) S.no_term) (TheRelation.Less 56) (S.simple None (S.term (S.Text 57) S.no_factor) S.no_term)) 0) (S.multiplied (TheMulOperator.And 59) (S.Designated 60 (S.selected (S.Parens 0 (S.expressions (S.only (S.simple None (S.term (S.Text 62) S.no_factor) S.no_term)) S.no_expression) 0) S.no_selector)) S.no_factor)) S.no_term)) })) 64 65 0 S.no_procedure))); body = (Some (record { begin_word = 0; stats = (S.stats (S.AssignOrCall (record { name = 68; selectors = S.no_selector }) (Some (record { becomes = 0; value = (S.only (S.simple None (S.term (S.Designated 70 S.no_selector) S.no_factor) S.no_term)) }))) (S.next_stat 0 (S.AssignOrCall (record { name = 72; selectors = (S.selected (S.Field 0 74) (S.selected (S.Parens 0 (S.expressions (S.only (S.simple None (S.term (S.Text 76) S.no_factor) S.no_term)) S.no_expression) 0) S.no_selector)) }) None) (S.next_stat 0 (S.If 0 (S.compared (S.simple None (S.term (S.Text 80) S.no_factor) S.no_term) (TheRelation.Less 81) (S.simple None (S.term (S.Designated 82 S.no_selector) S.no_factor) S.no_term)) 0 (S.stats (S.AssignOrCall (record { name = 84; selectors = S.no_selector }) (Some (record { becomes = 0; value = (S.only (S.simple None (S.term (S.Text 86) S.no_factor) S.no_term)) }))) S.no_stat) (S.next_elsif 0 (S.only (S.simple None (S.term (S.Designated 88 (S.selected (S.Parens 0 (S.expressions (S.only (S.simple None (S.term (S.Text 90) S.no_factor) S.no_term)) S.no_expression) 0) S.no_selector)) S.no_factor) S.no_term)) 0 (S.stats S.Empty S.no_stat) S.no_elsif) (S.otherwise 0 (S.stats (S.AssignOrCall (record { name = 94; selectors = S.no_selector }) (Some (record { becomes = 0; value = (S.only (S.simple None (S.term (S.Text 96) S.no_factor) S.no_term)) }))) S.no_stat)) 0) (S.next_stat 0 (S.Repeat 0 (S.stats (S.AssignOrCall (record { name = 100; selectors = S.no_selector }) (Some (record { becomes = 0; value = (S.only (S.simple None (S.term (S.Text 102) S.no_factor) S.no_term)) }))) S.no_stat) 0 (S.compared (S.simple None (S.term (S.Designated 104 S.no_selector) S.no_factor) S.no_term) (TheRelation.Equal 105) (S.simple None (S.term (S.Text 106) S.no_factor) S.no_term))) S.no_stat)))) })); end_word = 0; end_name = 108; period = 0 } }

pub texts : checked (texts_0 ∷ []) ≡ Legal (record { records = []; pointers = []; modules = (record { name = (84 ∷ []); objects = (record { name = (115 ∷ []); exported = false; entity = I.OfConstant (I.Chars (97 ∷ 98 ∷ 99 ∷ [])) } ∷ record { name = (97 ∷ []); exported = false; entity = I.OfVariable 0 } ∷ record { name = (98 ∷ []); exported = false; entity = I.OfVariable 1 } ∷ record { name = (80 ∷ []); exported = false; entity = I.OfProcedure 0 } ∷ record { name = (81 ∷ []); exported = false; entity = I.OfProcedure 1 } ∷ []); variables = ((H.Array 8 H.Char) ∷ H.Boolean ∷ []); body = 2 } ∷ []); procedures = (record { module_number = 0; line = 1; is_body = false; formals = (record { mode = TheMode.Open; variable = false; shape = (H.Open H.Char) } ∷ []); result = H.Boolean; locals = []; texts = ((113 ∷ 49 ∷ []) ∷ []); body = (I.next_statement (I.CopyArray (I.of_type (I.Global 0 0) (H.Array 8 H.Char)) (I.of_type (I.Parameter 0) (H.Open H.Char))) I.no_statement); answer = (Some (record { form = (I.CompareTexts TheComparison.Equal (I.of_type (I.Parameter 0) (H.Open H.Char)) (I.of_type (I.Text (113 ∷ 49 ∷ [])) (H.Text 2))); shape = H.Boolean })) } ∷ record { module_number = 0; line = 1; is_body = false; formals = []; result = H.Boolean; locals = []; texts = ((111 ∷ 110 ∷ 101 ∷ []) ∷ (116 ∷ 119 ∷ 111 ∷ []) ∷ (116 ∷ 104 ∷ 114 ∷ 101 ∷ 101 ∷ []) ∷ []); body = I.no_statement; answer = (Some (record { form = (I.Linked (I.CompareTexts TheComparison.Less (I.of_type (I.Text (111 ∷ 110 ∷ 101 ∷ [])) (H.Text 3)) (I.of_type (I.Text (116 ∷ 119 ∷ 111 ∷ [])) (H.Text 3))) (I.And (I.Result (I.Direct 0 (I.next_argument (I.ByOpen (I.of_type (I.Text (116 ∷ 104 ∷ 114 ∷ 101 ∷ 101 ∷ [])) (H.Text 5))) I.no_argument))))); shape = H.Boolean })) } ∷ record { module_number = 0; line = 1; is_body = true; formals = []; result = H.Nothing; locals = []; texts = ((97 ∷ 98 ∷ 99 ∷ []) ∷ (120 ∷ 121 ∷ []) ∷ (97 ∷ 98 ∷ []) ∷ (105 ∷ 102 ∷ []) ∷ (101 ∷ 108 ∷ 115 ∷ 105 ∷ 102 ∷ []) ∷ (101 ∷ 108 ∷ 115 ∷ 101 ∷ []) ∷ (117 ∷ 110 ∷ 116 ∷ 105 ∷ 108 ∷ []) ∷ (108 ∷ 97 ∷ 115 ∷ 116 ∷ []) ∷ []); body = (I.next_statement (I.CopyArray (I.of_type (I.Global 0 0) (H.Array 8 H.Char)) (I.of_type (I.Text (97 ∷ 98 ∷ 99 ∷ [])) (H.Text 3))) (I.next_statement (I.OutString (I.of_type (I.Text (120 ∷ 121 ∷ [])) (H.Text 2))) (I.next_statement (I.If (I.next_branch (record { form = (I.CompareTexts TheComparison.Less (I.of_type (I.Text (97 ∷ 98 ∷ [])) (H.Text 2)) (I.of_type (I.Global 0 0) (H.Array 8 H.Char))); shape = H.Boolean }) (I.next_statement (I.CopyArray (I.of_type (I.Global 0 0) (H.Array 8 H.Char)) (I.of_type (I.Text (105 ∷ 102 ∷ [])) (H.Text 2))) I.no_statement) (I.next_branch (record { form = (I.Result (I.Direct 0 (I.next_argument (I.ByOpen (I.of_type (I.Text (101 ∷ 108 ∷ 115 ∷ 105 ∷ 102 ∷ [])) (H.Text 5))) I.no_argument))); shape = H.Boolean }) I.no_statement I.no_branch)) (I.next_statement (I.CopyArray (I.of_type (I.Global 0 0) (H.Array 8 H.Char)) (I.of_type (I.Text (101 ∷ 108 ∷ 115 ∷ 101 ∷ [])) (H.Text 4))) I.no_statement)) (I.next_statement (I.Repeat (I.next_statement (I.CopyArray (I.of_type (I.Global 0 0) (H.Array 8 H.Char)) (I.of_type (I.Text (117 ∷ 110 ∷ 116 ∷ 105 ∷ 108 ∷ [])) (H.Text 5))) I.no_statement) (record { form = (I.CompareTexts TheComparison.Equal (I.of_type (I.Global 0 0) (H.Array 8 H.Char)) (I.of_type (I.Text (108 ∷ 97 ∷ 115 ∷ 116 ∷ [])) (H.Text 4))); shape = H.Boolean })) I.no_statement)))); answer = None } ∷ []); imports_in = false })
texts = refl

-- MODULE L; VAR i: INTEGER; BEGIN IF i = 1 THEN i := 2 ELSIF i = 3 THEN i := 4 ELSIF i = 5 THEN ELSE i := 6 END; WHILE i > 0 DO DEC(i) ELSIF i < 0 DO INC(i) END END L.
abbrev elsifs_0 : Parsed
elsifs_0 = record { source = record { bytes = (77 ∷ 79 ∷ 68 ∷ 85 ∷ 76 ∷ 69 ∷ 32 ∷ 76 ∷ 59 ∷ 32 ∷ 86 ∷ 65 ∷ 82 ∷ 32 ∷ 105 ∷ 58 ∷ 32 ∷ 73 ∷ 78 ∷ 84 ∷ 69 ∷ 71 ∷ 69 ∷ 82 ∷ 59 ∷ 32 ∷ 66 ∷ 69 ∷ 71 ∷ 73 ∷ 78 ∷ 32 ∷ 73 ∷ 70 ∷ 32 ∷ 105 ∷ 32 ∷ 61 ∷ 32 ∷ 49 ∷ 32 ∷ 84 ∷ 72 ∷ 69 ∷ 78 ∷ 32 ∷ 105 ∷ 32 ∷ 58 ∷ 61 ∷ 32 ∷ 50 ∷ 32 ∷ 69 ∷ 76 ∷ 83 ∷ 73 ∷ 70 ∷ 32 ∷ 105 ∷ 32 ∷ 61 ∷ 32 ∷ 51 ∷ 32 ∷ 84 ∷ 72 ∷ 69 ∷ 78 ∷ 32 ∷ 105 ∷ 32 ∷ 58 ∷ 61 ∷ 32 ∷ 52 ∷ 32 ∷ 69 ∷ 76 ∷ 83 ∷ 73 ∷ 70 ∷ 32 ∷ 105 ∷ 32 ∷ 61 ∷ 32 ∷ 53 ∷ 32 ∷ 84 ∷ 72 ∷ 69 ∷ 78 ∷ 32 ∷ 69 ∷ 76 ∷ 83 ∷ 69 ∷ 32 ∷ 105 ∷ 32 ∷ 58 ∷ 61 ∷ 32 ∷ 54 ∷ 32 ∷ 69 ∷ 78 ∷ 68 ∷ 59 ∷ 32 ∷ 87 ∷ 72 ∷ 73 ∷ 76 ∷ 69 ∷ 32 ∷ 105 ∷ 32 ∷ 62 ∷ 32 ∷ 48 ∷ 32 ∷ 68 ∷ 79 ∷ 32 ∷ 68 ∷ 69 ∷ 67 ∷ 40 ∷ 105 ∷ 41 ∷ 32 ∷ 69 ∷ 76 ∷ 83 ∷ 73 ∷ 70 ∷ 32 ∷ 105 ∷ 32 ∷ 60 ∷ 32 ∷ 48 ∷ 32 ∷ 68 ∷ 79 ∷ 32 ∷ 73 ∷ 78 ∷ 67 ∷ 40 ∷ 105 ∷ 41 ∷ 32 ∷ 69 ∷ 78 ∷ 68 ∷ 32 ∷ 69 ∷ 78 ∷ 68 ∷ 32 ∷ 76 ∷ 46 ∷ []); symbols = (symbol (Ident) 0 6 ∷ symbol (Ident) 7 8 ∷ symbol (Ident) 8 9 ∷ symbol (Ident) 10 13 ∷ symbol (Ident) 14 15 ∷ symbol (Ident) 15 16 ∷ symbol (Ident) 17 24 ∷ symbol (Ident) 24 25 ∷ symbol (Ident) 26 31 ∷ symbol (Ident) 32 34 ∷ symbol (Ident) 35 36 ∷ symbol (Ident) 37 38 ∷ symbol (Int (pos 1)) 39 40 ∷ symbol (Ident) 41 45 ∷ symbol (Ident) 46 47 ∷ symbol (Ident) 48 50 ∷ symbol (Int (pos 2)) 51 52 ∷ symbol (Ident) 53 58 ∷ symbol (Ident) 59 60 ∷ symbol (Ident) 61 62 ∷ symbol (Int (pos 3)) 63 64 ∷ symbol (Ident) 65 69 ∷ symbol (Ident) 70 71 ∷ symbol (Ident) 72 74 ∷ symbol (Int (pos 4)) 75 76 ∷ symbol (Ident) 77 82 ∷ symbol (Ident) 83 84 ∷ symbol (Ident) 85 86 ∷ symbol (Int (pos 5)) 87 88 ∷ symbol (Ident) 89 93 ∷ symbol (Ident) 94 98 ∷ symbol (Ident) 99 100 ∷ symbol (Ident) 101 103 ∷ symbol (Int (pos 6)) 104 105 ∷ symbol (Ident) 106 109 ∷ symbol (Ident) 109 110 ∷ symbol (Ident) 111 116 ∷ symbol (Ident) 117 118 ∷ symbol (Ident) 119 120 ∷ symbol (Int (pos 0)) 121 122 ∷ symbol (Ident) 123 125 ∷ symbol (Ident) 126 129 ∷ symbol (Ident) 129 130 ∷ symbol (Ident) 130 131 ∷ symbol (Ident) 131 132 ∷ symbol (Ident) 133 138 ∷ symbol (Ident) 139 140 ∷ symbol (Ident) 141 142 ∷ symbol (Int (pos 0)) 143 144 ∷ symbol (Ident) 145 147 ∷ symbol (Ident) 148 151 ∷ symbol (Ident) 151 152 ∷ symbol (Ident) 152 153 ∷ symbol (Ident) 153 154 ∷ symbol (Ident) 155 158 ∷ symbol (Ident) 159 162 ∷ symbol (Ident) 163 164 ∷ symbol (Ident) 164 165 ∷ []) }; tree = record { module_word = 0; name = 1; semicolon = 0; imports = None; decls = (S.decls None None (Some (record { var_word = 0; each = (record { names = (record { first = (record { name = 4; star = None }); more = [] }); colon = 0; of = (S.Named (record { name = 6; member = None })); semicolon = 0 } ∷ []) })) S.no_procedure); body = (Some (record { begin_word = 0; stats = (S.stats (S.If 0 (S.compared (S.simple None (S.term (S.Designated 10 S.no_selector) S.no_factor) S.no_term) (TheRelation.Equal 11) (S.simple None (S.term (S.Int 12) S.no_factor) S.no_term)) 0 (S.stats (S.AssignOrCall (record { name = 14; selectors = S.no_selector }) (Some (record { becomes = 0; value = (S.only (S.simple None (S.term (S.Int 16) S.no_factor) S.no_term)) }))) S.no_stat) (S.next_elsif 0 (S.compared (S.simple None (S.term (S.Designated 18 S.no_selector) S.no_factor) S.no_term) (TheRelation.Equal 19) (S.simple None (S.term (S.Int 20) S.no_factor) S.no_term)) 0 (S.stats (S.AssignOrCall (record { name = 22; selectors = S.no_selector }) (Some (record { becomes = 0; value = (S.only (S.simple None (S.term (S.Int 24) S.no_factor) S.no_term)) }))) S.no_stat) (S.next_elsif 0 (S.compared (S.simple None (S.term (S.Designated 26 S.no_selector) S.no_factor) S.no_term) (TheRelation.Equal 27) (S.simple None (S.term (S.Int 28) S.no_factor) S.no_term)) 0 (S.stats S.Empty S.no_stat) S.no_elsif)) (S.otherwise 0 (S.stats (S.AssignOrCall (record { name = 31; selectors = S.no_selector }) (Some (record { becomes = 0; value = (S.only (S.simple None (S.term (S.Int 33) S.no_factor) S.no_term)) }))) S.no_stat)) 0) (S.next_stat 0 (S.While 0 (S.compared (S.simple None (S.term (S.Designated 37 S.no_selector) S.no_factor) S.no_term) (TheRelation.Greater 38) (S.simple None (S.term (S.Int 39) S.no_factor) S.no_term)) 0 (S.stats (S.AssignOrCall (record { name = 41; selectors = (S.selected (S.Parens 0 (S.expressions (S.only (S.simple None (S.term (S.Designated 43 S.no_selector) S.no_factor) S.no_term)) S.no_expression) 0) S.no_selector) }) None) S.no_stat) (S.next_elsif 0 (S.compared (S.simple None (S.term (S.Designated 46 S.no_selector) S.no_factor) S.no_term) (TheRelation.Less 47) (S.simple None (S.term (S.Int 48) S.no_factor) S.no_term)) 0 (S.stats (S.AssignOrCall (record { name = 50; selectors = (S.selected (S.Parens 0 (S.expressions (S.only (S.simple None (S.term (S.Designated 52 S.no_selector) S.no_factor) S.no_term)) S.no_expression) 0) S.no_selector) }) None) S.no_stat) S.no_elsif) 0) S.no_stat)) })); end_word = 0; end_name = 56; period = 0 } }

pub elsifs : checked (elsifs_0 ∷ []) ≡ Legal (record { records = []; pointers = []; modules = (record { name = (76 ∷ []); objects = (record { name = (105 ∷ []); exported = false; entity = I.OfVariable 0 } ∷ []); variables = (H.Integer ∷ []); body = 0 } ∷ []); procedures = (record { module_number = 0; line = 1; is_body = true; formals = []; result = H.Nothing; locals = []; texts = []; body = (I.next_statement (I.If (I.next_branch (record { form = (I.Compare TheComparison.Equal (I.Load (I.of_type (I.Global 0 0) H.Integer)) (I.Literal 1)); shape = H.Boolean }) (I.next_statement (I.Assign (I.of_type (I.Global 0 0) H.Integer) (record { form = (I.Literal 2); shape = H.Integer })) I.no_statement) (I.next_branch (record { form = (I.Compare TheComparison.Equal (I.Load (I.of_type (I.Global 0 0) H.Integer)) (I.Literal 3)); shape = H.Boolean }) (I.next_statement (I.Assign (I.of_type (I.Global 0 0) H.Integer) (record { form = (I.Literal 4); shape = H.Integer })) I.no_statement) (I.next_branch (record { form = (I.Compare TheComparison.Equal (I.Load (I.of_type (I.Global 0 0) H.Integer)) (I.Literal 5)); shape = H.Boolean }) I.no_statement I.no_branch))) (I.next_statement (I.Assign (I.of_type (I.Global 0 0) H.Integer) (record { form = (I.Literal 6); shape = H.Integer })) I.no_statement)) (I.next_statement (I.While (I.next_branch (record { form = (I.Compare TheComparison.Greater (I.Load (I.of_type (I.Global 0 0) H.Integer)) (I.Literal 0)); shape = H.Boolean }) (I.next_statement (I.Decrease (I.of_type (I.Global 0 0) H.Integer) (record { form = (I.Literal 1); shape = H.Integer })) I.no_statement) (I.next_branch (record { form = (I.Compare TheComparison.Less (I.Load (I.of_type (I.Global 0 0) H.Integer)) (I.Literal 0)); shape = H.Boolean }) (I.next_statement (I.Increase (I.of_type (I.Global 0 0) H.Integer) (record { form = (I.Literal 1); shape = H.Integer })) I.no_statement) I.no_branch))) I.no_statement)); answer = None } ∷ []); imports_in = false })
elsifs = refl
