-- Which record types stay as they are known.
use Rattle.std.proofs.Common.{◌≡◌, ℕ, Some, sym, ap, subst}
use Rattle.std.specs.Prelude.{slice_get}
use Rattle.ob_judge.specs.Making.{no_layout}
use Rattle.ob_judge.specs.Shapes.{Known, Layout}
use Rattle.judged_programs.specs.Complete.{CompleteStay}
use Rattle.judged_programs.proofs.Ranking.{blank_later, set_later}
use Rattle.table_builder.specs.Growing.{with_blank_record, with_layout}

module _ (old new : Known) where
  -- all, where no record type was begun or completed
  pub known_stay : new.records ≡ old.records → CompleteStay old.records new.records
  known_stay e = λ r h. ap (λ ls. slice_get ls r) e

  -- those that are complete, where one was begun
  pub begun_stay : new ≡ with_blank_record old → CompleteStay old.records new.records
  begun_stay e = subst (λ (k : Known). CompleteStay old.records k.records) (sym e) (blank_later old.records)

  -- or where one that was begun was completed
  pub completed_stay : (r : ℕ) (l : Layout) → new ≡ with_layout r l old → slice_get old.records r ≡ Some no_layout → CompleteStay old.records new.records
  completed_stay r l e none = subst (λ (k : Known). CompleteStay old.records k.records) (sym e) (set_later old.records r l none)
