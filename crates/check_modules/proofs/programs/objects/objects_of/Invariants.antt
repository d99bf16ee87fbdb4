use Rattle.std.proofs.Common.{List, ℕ, take}
use Rattle.check_making.specs.Making.{offered_of, AreTextPlaces}
use Rattle.check_modules.specs.programs.Entities.{AreObjects}
use Rattle.check_modules.proofs.programs.objects.objects_of.Given as goal

abbrev pub invariant-loop-offer : goal.invariant-loop-offer
invariant-loop-offer l = (texts strings : List (List ℕ)) → AreTextPlaces texts l.places strings → AreObjects texts l.types.table l.objects (offered_of l.types.table.types strings (take l.offer-index l.offered))
