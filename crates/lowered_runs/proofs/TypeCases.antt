-- CASE on dynamic types: its tests, and what comes where no part fits.
use Rattle.std.proofs.Common.{◌≡◌, ℕ, ◌<◌, List, [], ◌∷◌, map, length, Bool, true, false, refl, sym, ap, arith, Option}
use Rattle.run_laws.specs.Turns.{Gives, give}
use Rattle.block_runs.specs.declared.end.End.TheVariants.{Jump}
use Rattle.block_runs.specs.Steps.{set_all}
use Rattle.ob_types.specs.Forms.{all}
use Rattle.ob_types.specs.Layout.{extends}
use Rattle.ob_types.specs.LegalTypes.{is_record_type}
use Rattle.ob_types.specs.Operators.{truth, holds}
use Rattle.ob_types.specs.Expressions.{is_of}
use Rattle.ob_types.specs.Statements.{Deed}
use Rattle.ob_types.proofs.Tests.{and_of}
use Rattle.ob_sound.proofs.Typed.{lt_of}
use Rattle.ssa_lowered.specs.Data.{Layout}
use Rattle.ssa_lowered.specs.Pieces.{Low, Mask, params, picked}
use Rattle.ssa_lowered.specs.Control.{Test}
use Rattle.ssa_lowered.specs.Lowered.{Here, descriptor, type_test}
use Rattle.lowered_runs.specs.Words.{Whole, Level, Right}
use Rattle.lowered_runs.proofs.Stores.{later_refl}
use Rattle.lowered_runs.proofs.Values.{off_refl, enter_same}
use Rattle.lowered_runs.proofs.Follows.{Fact, And as Both, Steady, steady_and, Follows, goes_here}
use Rattle.lowered_runs.proofs.Exprs.{CellIs}
use Rattle.lowered_runs.proofs.Forks.{No_more, Forks, nothing, forks_value, forks_as}
use Rattle.lowered_runs.proofs.Structures.{itself, jump}
use Rattle.lowered_runs.proofs.Cases.{AllSay, Bodies, Matched, Otherwise}
use Rattle.lowered_runs.proofs.Levels.{Variables}
use Rattle.lowered_runs.proofs.TypeTests.{answer, rank}

holds_truth : (b : Bool) → holds (truth b) ≡ b
holds_truth true = refl
holds_truth false = refl

-- where no part fits, nothing is done
abbrev pub nothing_more : Bool → Deed
nothing_more b = give tt

module _ (w : Whole) (l : Level) (right : Right w) (vars : Variables w l) (fuel : ℕ) (K : Fact) (steady : Steady w l K) (mask : Mask) (here : Here) (TypeIs : Option ℕ → ℕ → Fact) (is : ℕ → ℕ → ℕ → Low ℕ) (stays : (t : Option ℕ) (i : ℕ) → Steady w l (TypeIs t i)) (t : Option ℕ) (i : ℕ) where
  abbrev lay : Layout
  lay = w.layout

  abbrev pub KnownType : Fact
  KnownType = Both K (TypeIs t i)

  pub known_type : Steady w l KnownType
  known_type = steady_and w l steady (stays t i)

  module _ (tells : (r : ℕ) → r < length w.program.types.records → Follows w l 0 fuel nothing KnownType (CellIs w l) (answer w l right vars t r) (is (descriptor w.program lay here r) (rank w l right vars r) i)) where
    test_is : (r : ℕ) → r < length w.program.types.records → Forks w l itself fuel KnownType No_more (give (is_of (extends w.program.types) t r)) (type_test w.program lay here is i r)
    test_is r there = forks_as w l (give (is_of (extends w.program.types) t r)) (λ k. give (holds k)) (λ s. ap (λ b. Gives b s) (sym (holds_truth (is_of (extends w.program.types) t r)))) (λ k n f s h. (holds k, refl, refl, tt))
        (forks_value w l known_type (tells r there))

    pub all_types_say : (rs : List ℕ) → all (is_record_type w.program.types) rs ≡ true → AllSay w l fuel KnownType mask known_type (map (λ r. type_test w.program lay here is i r ∷ []) rs) (map (λ r. is_of (extends w.program.types) t r ∷ []) rs)
    all_types_say [] h = tt
    all_types_say (r ∷ rs) h =
        let y = and_of (is_record_type w.program.types r) (all (is_record_type w.program.types) rs) h in
        ((test_is r (lt_of w.program r (length w.program.types.records) y.0), tt), all_types_say rs y.1)

  pub jump_otherwise : (tss : List (List Test)) (bss : List (List Bool)) (says : AllSay w l fuel KnownType mask known_type tss bss) (ms : List Deed) (bodies : List (Low (Unit {0}))) (each : Bodies w l fuel KnownType mask known_type ms bodies) (same : Matched bss ms)
      → Otherwise w l fuel KnownType mask known_type tss bss says ms bodies each same (λ out args. Jump out args) nothing_more (λ t. refl)
  jump_otherwise tss bss says ms bodies each same most c base v out block way free f t ends begins size under le fits typed r =
      goes_here w l (nothing_more false t) tt t refl (record {
        values = set_all (params mask v c.env) (map f (picked mask c.env)) f;
        ready = jump w l free out v mask c.env ends begins (off_refl mask c.env) size under fits r;
        later = later_refl w l t.store;
        same = λ y lt. enter_same mask v c.env (map f (picked mask c.env)) f y (omega (arith, lt, le));
        typed = typed;
      })
