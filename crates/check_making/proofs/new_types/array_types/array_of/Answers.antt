use Rattle.std.proofs.Common.{arith}
use Rattle.ob_judge.specs.Scopes.{place}
use Rattle.ob_judge.specs.Judged.{Keeps}
use Rattle.ob_judge.specs.Shapes.{Array}
use Rattle.check_types.proofs.steps.Answering.{exit, kept, as_judged}
use Rattle.check_types.specs.TypeMeaning.{type_shape}
use Rattle.check_making.specs.Making.{table_of}
use Rattle.check_making.proofs.parameters.Answering.{no_memory, breaks_so}
use Rattle.check_making.proofs.new_types.ArrayLists.{type_fits, type_past, within_past}
use Rattle.check_types.specs.Known.{known_of}
use Rattle.legal_tables.proofs.Judged.{array_legal}
use Rattle.check_making.proofs.new_types.LegalArrays.{array_fits, counted_in}
use Rattle.check_making.proofs.new_types.array_types.array_of.Goals as goal

pub returns-in_err-of-clause-judged : goal.returns-in_err-of-clause-judged
returns-in_err-of-clause-judged c = λ m makes. exit _ c.from_residual.ensures.1 (no_memory _ c.in_err-of.ensures.memory)

pub returns-then-cells-gt-LIMIT-clause-judged : goal.returns-then-cells-gt-LIMIT-clause-judged
returns-then-cells-gt-LIMIT-clause-judged c = λ m makes.
    let r = c.args.round.now in
    let s = c.array.new.self in
    let shape = Array c.args.length (type_shape (table_of c.args.state.now) c.args.element) in
    let counted = counted_in c.args.state.now.types.table s.types.table c.in_ok-of.of shape c.args.cells c.in_ok-of.ensures.known c.in_ok-of.ensures.shape.shape_is c.requires.cells in
    let past = type_past r s m (c.in_ok-of.ensures.makes m makes) c.in_ok-of.of shape c.in_ok-of.ensures.shape.shape_is c.args.cells counted c.if-cells-gt-LIMIT.true in
    as_judged (within_past r.source.now c.args.array_word c.args.length (type_shape (table_of c.args.state.now) c.args.element) m.world past) (breaks_so 35 _ c.fault.ensures)

pub returns-clause-judged : goal.returns-clause-judged
returns-clause-judged c = λ m makes.
    let r = c.args.round.now in
    let s = c.array.new.self in
    let shape = Array c.args.length (type_shape (table_of c.args.state.now) c.args.element) in
    let few = c.if-cells-gt-LIMIT.false in
    let counted = counted_in c.args.state.now.types.table s.types.table c.in_ok-of.of shape c.args.cells c.in_ok-of.ensures.known c.in_ok-of.ensures.shape.shape_is c.requires.cells in
    let fits = type_fits r s m (c.in_ok-of.ensures.makes m makes) c.in_ok-of.of shape c.in_ok-of.ensures.shape.shape_is c.args.cells counted (omega (arith, few)) in
    kept 35 (place r.source.now c.args.array_word) (Keeps shape) fits (record { by = c.in_ok-of.ensures.shape })

pub returns-clause-legal : goal.returns-clause-legal
returns-clause-legal c = λ allowed known legal.
    let old = c.args.state.now.types.table in
    let new = c.array.new.self.types.table in
    let a = type_shape old.types c.args.element in
    let few = c.if-cells-gt-LIMIT.false in
    let made = c.in_ok-of.ensures in
    let counted = counted_in old new c.in_ok-of.of (Array c.args.length a) c.args.cells made.known made.shape.shape_is c.requires.cells in
    let fits = array_fits old new c.in_ok-of.of c.args.length a made.known made.shape.shape_is c.args.cells counted (omega (arith, few)) in
    made.legal (array_legal (known_of old) c.args.length a allowed known fits) legal
