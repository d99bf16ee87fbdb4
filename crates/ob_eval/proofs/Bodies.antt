-- The bodies of loops and of CASE on types, as lists.
use Rattle.std.proofs.Common.{◌≡◌, ℕ, ◌+◌, Vec, Box, Global, Bool, Option, refl, ap, ap₂, sym, ◌∙◌}
use mathlib.Core.Former.{Count}
use Rattle.std.specs.Prelude.{if◌then◌else◌}
use Rattle.run_laws.specs.Turns.{State, after, ◌>>=◌, give, repeat}
use Rattle.ob_types.specs.Layout.{extends}
use Rattle.ob_types.specs.Store.{Store, Act, Here}
use Rattle.ob_types.specs.Expressions.{Calls, is_of, pointer_type, parameter_type}
use Rattle.ob_types.specs.Statements.{Deed, skip, test, try, type_case}
use Rattle.ob_types.specs.Meaning.{value, designated, effect, effects, effects_of, type_parts, at_most}
use Rattle.ob_types.specs.declared.tree.Designator.{Designator}
use Rattle.ob_types.specs.declared.statements.Checked.{Checked}
use Rattle.ob_types.specs.declared.statements.ForLoop.{ForLoop}
use Rattle.ob_types.specs.declared.statements.TypePart.{TypePart}
use Rattle.ob_types.specs.declared.statements.Stmt.{Stmt, Repeat, Repeat', For, For', CasePointer, CasePointer', CaseParameter, CaseParameter', Row_of-Stmt, end_of-Stmt, more_of-Stmt, items-the_row-Stmt, items_hidden-the_row-Stmt-0, items_shown-the_row-Stmt-0, Row_of-TypePart, end_of-TypePart, more_of-TypePart, items-the_row-TypePart, items_hidden-the_row-TypePart-3}
use Rattle.ob_types.specs.declared.program.Program.{Program}
use Rattle.eval_store.proofs.Endings.{assoc, same}
use Rattle.eval_at_once.specs.Here.{here_of}
use Rattle.eval_at_once.specs.Lists.{type_parts_by}
use Rattle.eval_at_once.proofs.Rows.{effect_types}
use Rattle.eval_tasks.specs.Tasks.{popped, limited, says, until_round, for_step, for_rounds, evaluates, locates, performs, performs_all, staged, typing, rest}
use Rattle.eval_tasks.specs.Weights.{of_statement, of_row, all_statements}
use Rattle.eval_tasks.specs.declared.task.Stage.TheVariants.{Rounds}
use Rattle.eval_tasks.specs.declared.task.Typing.TheVariants.{OfPointer, OfParameter}
use Rattle.eval_tasks.proofs.Statements.{p_case_pointer, p_case_parameter}
use Rattle.ob_eval.specs.Parts.{IsFor, IsRepeat}
use Rattle.ob_eval.specs.Steps.{before}
use Rattle.ob_eval.specs.declared.machine.Machine.{Machine}

row_effects : (p : Program) (calls : Calls) (here : Here) (fuel : ℕ) (m : _) (row : Row_of-Stmt m) → effects p calls here fuel row ≡ effects_of p calls here fuel (items-the_row-Stmt m row)
row_effects p calls here fuel m end_of-Stmt = refl
row_effects p calls here fuel m (more_of-Stmt s rest) = ap (λ r. effect p calls here fuel s >>= λ _. r) (row_effects p calls here fuel _ rest)

row_weighs : (m : _) (row : Row_of-Stmt m) → of_row row ≡ all_statements (items-the_row-Stmt m row)
row_weighs m end_of-Stmt = refl
row_weighs m (more_of-Stmt s rest) = ap (λ n. 1 + (of_statement s + n)) (row_weighs _ rest)

abbrev loop_row : Stmt → (n : Count) × Row_of-Stmt n
loop_row (Repeat' _ body x) = (_, body)
loop_row (For' _ d x y step _ body) = (_, body)
loop_row _ = (_, end_of-Stmt)

for_body : (p : Program) (calls : Calls) (here : Here) (fuel : ℕ) (f : Box ForLoop Global) → effects p calls here fuel (loop_row (For f)).1 ≡ effects_of p calls here fuel f.value.body.items
for_body p calls here fuel f = let r = loop_row (For f) in row_effects p calls here fuel r.0 r.1 ∙ ap (λ l. effects_of p calls here fuel l) (items_hidden-the_row-Stmt-0 f.value.body)

repeat_body : (p : Program) (calls : Calls) (here : Here) (fuel : ℕ) (body : Vec Stmt Global) (y : Checked) → effects p calls here fuel (loop_row (Repeat body y)).1 ≡ effects_of p calls here fuel body.items
repeat_body p calls here fuel body y = let r = loop_row (Repeat body y) in row_effects p calls here fuel r.0 r.1 ∙ ap (λ l. effects_of p calls here fuel l) (items_hidden-the_row-Stmt-0 body)

pub is_for : (p : Program) (f : Box ForLoop Global) → IsFor p (For f) f.value.step f.value.body.items
is_for p f = record {
  rounds = λ n k x vs t. ap (λ (b : Deed). limited vs (λ limit a rest. for_rounds p n a f.value.step limit b >>= λ _. k x rest) t) (for_body p (at_most p x.fuel) (here_of x) x.fuel f);
  behind = λ n k x vs t. ap (λ (b : Deed). limited vs (λ limit a rest. (for_step p a f.value.step >>= λ _. for_rounds p n a f.value.step limit b) >>= λ _. k x rest) t) (for_body p (at_most p x.fuel) (here_of x) x.fuel f);
  weighs = λ n. refl;
}

pub is_repeat : (p : Program) (body : Vec Stmt Global) (y : Checked) → IsRepeat p (Repeat body y) body.items y.form
is_repeat p body y = record {
  rounds = λ n k x vs t. ap (λ (b : Deed). (repeat n (until_round p b (test (value p (at_most p x.fuel) (here_of x) y.form))) >>= λ _. k x vs) t) (repeat_body p (at_most p x.fuel) (here_of x) x.fuel body y);
  behind = λ n k x vs t. ap (λ (b : Deed). popped vs (λ c rest. (until_round p b (says c) >>= λ ok. if ok then repeat n (until_round p b (test (value p (at_most p x.fuel) (here_of x) y.form))) else skip) >>= λ _. k x rest) t) (repeat_body p (at_most p x.fuel) (here_of x) x.fuel body y);
  weighs = λ n. let r = loop_row (Repeat body y) in ap (λ n. 2 + n) (row_weighs r.0 r.1 ∙ ap all_statements (items_hidden-the_row-Stmt-0 body));
}

-- CASE on types

row_types : (p : Program) (calls : Calls) (here : Here) (fuel : ℕ) (t : Option ℕ) (m : _) (row : Row_of-TypePart m) → type_parts p calls here fuel t row ≡ type_parts_by p calls here fuel t (items-the_row-TypePart m row)
row_types p calls here fuel t m end_of-TypePart = refl
row_types p calls here fuel t m (more_of-TypePart c s body more) = ap₂ (λ b r. try (give (is_of (extends p.types) t c)) b r) (row_effects p calls here fuel _ body ∙ sym (ap (λ l. effects_of p calls here fuel l) (items_shown-the_row-Stmt-0 s body))) (row_types p calls here fuel t _ more)

abbrev type_row : Stmt → (n : Count) × Row_of-TypePart n
type_row (CasePointer' x _ parts) = (_, parts)
type_row (CaseParameter' d _ parts) = (_, parts)
type_row _ = (_, end_of-TypePart)

parameter_types : (p : Program) (calls : Calls) (here : Here) (fuel : ℕ) (d : Designator) (ps : Vec TypePart Global) (t : Option ℕ) → type_parts p calls here fuel t (type_row (CaseParameter d ps)).1 ≡ type_parts_by p calls here fuel t ps.items
parameter_types p calls here fuel d ps t = let r = type_row (CaseParameter d ps) in row_types p calls here fuel t r.0 r.1 ∙ ap (λ l. type_parts_by p calls here fuel t l) (items_hidden-the_row-TypePart-3 ps)

types_same : (x : Act (Option ℕ)) (g h : Option ℕ → Act Bool) (s : State Store) → ((t : Option ℕ) → g t ≡ h t) → type_case x g s ≡ type_case x h s
types_same x g h s e = same (x s) (λ t u. ap (λ d. after (d u) (λ _. skip)) (e t))

pub case_pointer_is : (p : Program) (e : Checked) (ps : Vec TypePart Global) (m : Machine) → before p (λ k. evaluates p e.form (typing p OfPointer ps.items k)) m ≡ before p (performs p (CasePointer e ps)) m
case_pointer_is p e ps m =
    sym (ap (λ d. after d (λ _. rest p m.tasks m.active m.values)) (types_same (pointer_type (value p (at_most p m.active.fuel) (here_of m.active) e.form)) _ (λ t. type_parts_by p (at_most p m.active.fuel) (here_of m.active) m.active.fuel t ps.items) m.world (λ t. effect_types p (at_most p m.active.fuel) (here_of m.active) m.active.fuel e ps t))
    ∙ p_case_pointer p (rest p m.tasks) m.active m.values m.world e ps.items)

pub case_parameter_is : (p : Program) (d : Designator) (ps : Vec TypePart Global) (m : Machine) → before p (λ k. locates p d (typing p OfParameter ps.items k)) m ≡ before p (performs p (CaseParameter d ps)) m
case_parameter_is p d ps m =
    sym (ap (λ d. after d (λ _. rest p m.tasks m.active m.values)) (types_same (parameter_type (designated p (at_most p m.active.fuel) (here_of m.active) d)) _ (λ t. type_parts_by p (at_most p m.active.fuel) (here_of m.active) m.active.fuel t ps.items) m.world (λ t. parameter_types p (at_most p m.active.fuel) (here_of m.active) m.active.fuel d ps t))
    ∙ p_case_parameter p (rest p m.tasks) m.active m.values m.world d ps.items)

-- REPEAT

pub repeat_is : (p : Program) (body : Vec Stmt Global) (y : Checked) (m : Machine) → before p (λ k. performs_all p body.items (staged p (Rounds m.active.fuel) (Repeat body y) k)) m ≡ before p (performs p (Repeat body y)) m
repeat_is p body y m = sym (
    assoc (effects p (at_most p m.active.fuel) (here_of m.active) m.active.fuel (loop_row (Repeat body y)).1 m.world) _ (λ _. rest p m.tasks m.active m.values)
    ∙ ap (λ (b : Deed). after (b m.world) (λ _. staged p (Rounds m.active.fuel) (Repeat body y) (rest p m.tasks) m.active m.values)) (repeat_body p (at_most p m.active.fuel) (here_of m.active) m.active.fuel body y))
