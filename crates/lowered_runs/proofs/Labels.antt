-- The labels of a CASE on values.
use Rattle.std.proofs.Common.{◌≡◌, ℕ, suc, List, [], ◌∷◌, ◌++◌, map, arith, Bool, true, false, cond, ◌&&◌, refl, sym, ap, ap₂, ◌∙◌}
use Rattle.std.specs.Prelude.{ℤ, ◌||◌, ◌==◌, int_le, if◌then◌else◌}
use Rattle.run_laws.specs.Turns.{Gives, after, give}
use Rattle.run_laws.specs.Turns.{State as At}
use Rattle.run_laws.proofs.Comes.{comes_trap}
use Rattle.wrapping_numbers.specs.Numbers.{signed, unsigned}
use Rattle.wrapping_numbers.proofs.Wrapping.{signed-unsigned}
use Rattle.block_runs.specs.declared.end.End.TheVariants.{Trap}
use Rattle.block_runs.specs.States.{Kind as Stopped}
use Rattle.block_runs.specs.Points.{least}
use Rattle.ob_types.specs.Forms.{all}
use Rattle.ob_types.specs.Operators.{truth, holds, label_has, labels_have}
use Rattle.ob_types.specs.Expressions.{compared}
use Rattle.ob_types.specs.Sense.{HasSense}
use Rattle.ob_types.specs.Store.{Bits, Kind, Act, Cell, bits_in, unless}
use Rattle.ob_types.specs.Store.{Store as Objects}
use Rattle.ob_types.specs.Statements.{Deed}
use Rattle.ob_types.specs.WellFormed.{is_integer, label_fine}
use Rattle.ob_types.specs.declared.statements.Label.{Label}
use Rattle.ob_types.specs.declared.statements.Label.TheVariants.{One, Range}
use Rattle.ob_types.specs.declared.tree.Relation.TheVariants.{Equal, LessEqual, GreaterEqual}
use Rattle.ob_types.specs.declared.program.Program.{Program}
use Rattle.ob_types.proofs.Tests.{and_of}
use Rattle.ob_types.proofs.WellFormedParts.{integer_fits, integer_small}
use Rattle.ssa_lowered.specs.Data.{Layout}
use Rattle.ssa_lowered.specs.Pieces.{Low, Mask}
use Rattle.ssa_lowered.specs.Pieces.{give as gives}
use Rattle.ssa_lowered.specs.Values.{const}
use Rattle.ssa_lowered.specs.Control.{Test, fork_branch}
use Rattle.ssa_lowered.specs.Lowered.{Here, label_test, rungs_from}
use Rattle.lowered_runs.specs.Words.{same_trap, Whole, Level, Right}
use Rattle.lowered_runs.proofs.Ready.{system}
use Rattle.lowered_runs.proofs.Follows.{Fact, And as Both, Steady, steady_and, Follows, follows_give}
use Rattle.lowered_runs.proofs.Exprs.{CellIs, NumberIs, steady_number, follows_literal}
use Rattle.lowered_runs.proofs.Forks.{No_more, Forks, nothing, forks_branch, forks_and, forks_as, end_step}
use Rattle.lowered_runs.proofs.Structures.{itself}
use Rattle.lowered_runs.proofs.Cases.{any_true, rungs_of, Says, AllSay, Bodies, Matched, Otherwise}

holds_truth : (b : Bool) → holds (truth b) ≡ b
holds_truth true = refl
holds_truth false = refl

holds_both : (a b : Bool) → holds (cond a (truth b) 0) ≡ (a && b)
holds_both true true = refl
holds_both true false = refl
holds_both false b = refl

pub labels_any : (v : ℕ) (ls : List Label) → any_true (map (label_has v) ls) ≡ labels_have v ls
labels_any v [] = refl
labels_any v (l ∷ ls) = ap (λ b. label_has v l || b) (labels_any v ls)

pub rungs_same : (p : Program) (l : Layout) (here : Here) (i : ℕ) (tss : List (List Test)) → rungs_from p l here i tss ≡ rungs_of i tss
rungs_same p l here i [] = refl
rungs_same p l here i (ts ∷ more) = ap (λ rs. map (λ t. record { test = t; part = i }) ts ++ rs) (rungs_same p l here (suc i) more)

module _ (w : Whole) (l : Level) (right : Right w) (fuel : ℕ) (K : Fact) (steady : Steady w l K) (mask : Mask) (lay : Layout) (here : Here) (v i : ℕ) where
  abbrev pub Known : Fact
  Known = Both K (NumberIs w l v i)

  pub known_steady : Steady w l Known
  known_steady = steady_and w l steady (steady_number w l v i)

  abbrev number : ℕ → Act Cell
  number n = give (Bits n)

  itself_is : Follows w l 0 fuel nothing Known (CellIs w l) (number v) (gives i)
  itself_is = follows_give w l (Bits v) i (λ n f s h. (h.1.0, (h.1.1.0, h.1.1.1)))

  label_is : (lb : Label) → label_fine lb ≡ true → Forks w l itself fuel Known No_more (give (label_has v lb)) (label_test w.program lay here i lb)
  label_is (One a) fine = forks_as w l (give (label_has v (One a))) (λ k. give (holds k)) (λ s. ap (λ b. Gives b s) (sym (holds_truth (v == unsigned a)))) (λ k n f s h. (holds k, refl, refl, tt))
      (forks_branch w l right Equal known_steady itself_is (follows_literal w l (unsigned a) (integer_small a fine)))
  label_is (Range a b) fine =
      let x = and_of (is_integer a) (is_integer b && int_le a b) fine in
      let y = and_of (is_integer b) (int_le a b) x.1 in
      let low = compared GreaterEqual (number v) (number (unsigned a)) in
      let high = compared LessEqual (number v) (number (unsigned b)) in
      forks_as w l (give (label_has v (Range a b))) (λ k. give (holds k)) (λ s. ap (λ t. Gives t s) (range_same a b x.0 y.0) ∙ meant (int_le (signed (unsigned a)) (signed v)) (int_le (signed v) (signed (unsigned b))) s) (λ k n f s h. (holds k, refl, refl, tt))
      (forks_and w l low high (fork_branch 10 (gives i) (const (unsigned a))) (fork_branch 13 (gives i) (const (unsigned b))) known_steady
      (forks_branch w l right GreaterEqual known_steady itself_is (follows_literal w l (unsigned a) (integer_small a x.0))) (forks_branch w l right LessEqual known_steady itself_is (follows_literal w l (unsigned b) (integer_small b y.0))))
    where
      range_same : (a b : ℤ) → is_integer a ≡ true → is_integer b ≡ true → (int_le a (signed v) && int_le (signed v) b) ≡ (int_le (signed (unsigned a)) (signed v) && int_le (signed v) (signed (unsigned b)))
      range_same a b fa fb = ap₂ (λ x y. int_le x (signed v) && int_le (signed v) y) (sym (signed-unsigned a (integer_fits a fa))) (sym (signed-unsigned b (integer_fits b fb)))

      meant : (t u : Bool) (s : At Objects) → Gives (t && u) s ≡ after (after ((if holds (truth t) then (λ z. Gives (Bits (truth u)) z) else give (Bits 0)) s) bits_in) (λ k. give (holds k))
      meant true true s = refl
      meant true false s = refl
      meant false u s = refl

  labels_say : (ls : List Label) → all label_fine ls ≡ true → Says w l fuel Known mask known_steady (map (label_test w.program lay here i) ls) (map (label_has v) ls)
  labels_say [] h = tt
  labels_say (lb ∷ ls) h = let y = and_of (label_fine lb) (all label_fine ls) h in (label_is lb y.0, labels_say ls y.1)

  pub all_labels_say : (lss : List (List Label)) → all (all label_fine) lss ≡ true → AllSay w l fuel Known mask known_steady (map (λ ls. map (label_test w.program lay here i) ls) lss) (map (λ ls. map (label_has v) ls) lss)
  all_labels_say [] h = tt
  all_labels_say (ls ∷ lss) h = let y = and_of (all label_fine ls) (all (all label_fine) lss) h in (labels_say ls y.0, all_labels_say lss y.1)

  -- no part fits
  pub trap_otherwise : (tss : List (List Test)) (bss : List (List Bool)) (says : AllSay w l fuel Known mask known_steady tss bss) (ms : List Deed) (bodies : List (Low (Unit {0}))) (each : Bodies w l fuel Known mask known_steady ms bodies) (same : Matched bss ms)
      → Otherwise w l fuel Known mask known_steady tss bss says ms bodies each same (λ out args. Trap 6) (unless l.proc 6) (λ t. refl)
  trap_otherwise tss bss says ms bodies each same most c base v out block way free f t ends begins size under le fits typed r =
      comes_trap HasSense (system w) (least w.procedures) w.points w.first w.turns same_trap (Kind 6 l.proc) (Stopped 6 l.proc) r.reached
      (end_step w l (record { block = block; op = 0; values = base; env = c.env }) f r.memory t.store (Trap 6) ends) (refl, refl) (λ h. let z = fits h in omega (arith, z))
