use Rattle.std.proofs.Common.{ap}
use Rattle.check_modules.proofs.programs.WholeProgram.{program_is, results_are, all_use_in_turn}
use Rattle.check_modules.proofs.programs.programs.into_program.Goals as goal

pub returns-clause-program : goal.returns-clause-program
returns-clause-program c = λ texts k stands all.
    let s = c.args.state in
    program_is texts s c.requires k stands all _ (ap (λ qs. record { types = s.types.table.types; modules = s.modules; procedures = qs; imports_in = s.imports_in }) c.from_vec.ensures)

pub returns-clause-results : goal.returns-clause-results
returns-clause-results c = λ texts k stands.
    let s = c.args.state in
    results_are texts s c.requires k stands _ (ap (λ qs. record { types = s.types.table.types; modules = s.modules; procedures = qs; imports_in = s.imports_in }) c.from_vec.ensures)

pub returns-clause-in_turn : goal.returns-clause-in_turn
returns-clause-in_turn c = λ texts k stands. all_use_in_turn texts c.args.state c.requires k stands _ c.from_vec.ensures
