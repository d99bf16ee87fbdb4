-- What parts of CASE are chosen by, as the definitions have it.
use Rattle.std.specs.Prelude.{ℕ, List, map}
use Rattle.ob_types.specs.declared.program.Program.{Program}
use Rattle.ob_types.specs.declared.statements.Label.{Label}
use Rattle.ssa_lowered.specs.Control.{Test, Rung}
use Rattle.ssa_lowered.specs.Data.{layout}
use Rattle.ssa_lowered.specs.Lowered.{Here, label_test, type_test}
use Rattle.ssa_lowered.specs.Values.{is_pointer, is_tag}
use Rattle.ssa_statements.specs.declared.cases.Choice.{Choice}
use Rattle.ssa_statements.specs.declared.cases.Choice.TheVariants as The
use Rattle.ssa_statements.specs.declared.cases.Rung.{Rung as Coded}

module _ (p : Program) (here : Here) (v : ℕ) where
  -- whether a value is one of a label's
  abbrev pub label_in : Label → Test
  label_in label = label_test p (layout p.types) here v label

  -- whether a value is what a part is chosen by
  abbrev pub choice_in : Choice → Test
  choice_in (The.Value label) = label_in label
  choice_in (The.Pointer r) = type_test p (layout p.types) here is_pointer v r
  choice_in (The.Parameter r) = type_test p (layout p.types) here is_tag v r

  abbrev pub rung_in : Coded → Rung
  rung_in r = record { test = choice_in r.choice; part = r.part }

  abbrev pub rungs_in : List Coded → List Rung
  rungs_in rs = map rung_in rs
