use Rattle.std.proofs.Common.{◌≡◌, true, sym, subst, ◌≤◌, List, length}
use Rattle.ob_types.specs.Meaning.{texts_of}
use Rattle.ob_types.specs.WellFormed.{well_formed}
use Rattle.ob_types.specs.declared.program.Procedure.{Procedure}
use Rattle.judged_programs.specs.LegalTable.{IsLegalTable}
use Rattle.judged_programs.proofs.WellFormedPrograms.{program_well_formed}
use Rattle.judged_tree.proofs.OneShape.{one-number}
use Rattle.legal_tables.proofs.Legal.{legal_table}
use Rattle.source_program.proofs.Behind.{program_behind, program_is}
use Rattle.source_program.proofs.Tables.{counted, laid_out}
use Rattle.source_program.proofs.program.source_program.Goals as goal

pub into_program-program-requires : goal.into_program-program-requires
into_program-program-requires c = c.in_ok-state.ensures.behind.settled.built

pub returns : goal.returns
returns c =
    let T = c.args.texts.now in
    let s = c.in_ok-state.state in
    let h = c.in_ok-state.ensures.behind in
    let p = c.into_program-program.result in
    let legal : IsLegalTable p.types = subst IsLegalTable (sym c.into_program-program.ensures.types) (legal_table s.types h.settled.built h.settled.legal) in
    let fine : well_formed p ≡ true = program_well_formed h.before p (program_is T s h p c.into_program-program.ensures.program) legal h.are_read (c.into_program-program.ensures.results T h.so_far h.stands) in
    let few = subst (λ (qs : List Procedure). length (texts_of qs) ≤ 4294967295) c.as_slice.ensures (c.have_numbers.ensures (c.if-not-have_numbers.false)) in
    record {
      program = program_behind T s h p c.into_program-program.ensures.program c.into_program-program.ensures.in_turn few;
      well_formed = fine;
      counted = counted p fine legal;
      laid_out = laid_out p fine legal;
      one_number = one-number p.types legal.once legal.front;
      fault = tt;
    }
