-- All calls of a program do what they mean, by turns.
use Rattle.std.proofs.Common.{◌≡◌, ℕ, zero, suc, ◌+◌, ◌<◌, ◌≤◌, List, [], ◌∷◌, ◌++◌, map, length, Bool, true, false, not, ◌&&◌, ◌||◌, refl, sym, ap, ◌∙◌, subst, arith, Option, Some, None}
use Rattle.std.specs.Prelude.{slice_index_or, is_some, nat_lt}
use Rattle.a64_memory.specs.Areas.{heap_base}
use Rattle.run_laws.specs.Runs.{weigh}
use Rattle.run_laws.specs.Layers.{places_from, points_of_all}
use Rattle.run_laws.proofs.Comes.{comes_spend, comes_spent}
use Rattle.run_laws.proofs.Weights.{weigh-append}
use Rattle.block_runs.specs.Blocks.{Procedure, bodies}
use Rattle.block_runs.specs.Blocks.{procedure_of as coded}
use Rattle.block_runs.specs.Points.{least, procedure_points, routine_points, AreCodePlaces}
use Rattle.block_runs.specs.States.{Point, Begin}
use Rattle.ob_types.specs.Forms.{Form, all, forms, joined, types_fine}
use Rattle.ob_types.specs.LegalTypes.{formal_legal}
use Rattle.ob_types.specs.Meaning.{procedure_of, locals_of, invoked, at_most}
use Rattle.ob_types.specs.Sense.{HasSense}
use Rattle.ob_types.specs.Store.{Cell, Handed}
use Rattle.ob_types.specs.Store.{Store as Objects}
use Rattle.ob_types.specs.WellFormed
use Rattle.ob_types.specs.WellFormed.{callable}
use Rattle.ob_types.specs.declared.program.Procedure.{Procedure as Declared}
use Rattle.ob_types.specs.declared.program.Program.{Program}
use Rattle.ob_types.specs.declared.statements.Checked.{Checked}
use Rattle.ob_types.proofs.Tests.{no, and_of}
use Rattle.ob_sound.proofs.Typed.{lt_of}
use Rattle.ob_sound.proofs.Handing.{AllTaken, all_taken_push}
use Rattle.ob_sound.proofs.Programs.{s_at_most}
use Rattle.ssa_core.specs.Procedures.{procedure, procedures}
use Rattle.ssa_lowered.specs.Data.{Layout, IsLayout}
use Rattle.block_runs.specs.Effects.{char_bytes}
use Rattle.object_nodes.specs.Running.{forms_of_all}
use Rattle.ob_types.specs.Meaning.{texts_of}
use Rattle.std.proofs.lemmas.List.{map-append}
use Rattle.ssa_lowered.specs.Pieces.{Cursor}
use Rattle.ssa_lowered.specs.Variables.{lent_by_list, lent_by_answer}
use Rattle.ssa_lowered.specs.Lowered.{Here, here_of, procs_from, made_of, proc_of}
use Rattle.ssa_lowered.specs.Lowered.{answer as lower_answer}
use Rattle.lowered_runs.specs.Words.{same_trap, Whole, Level, Right, Apart}
use Rattle.lowered_runs.proofs.Standing.{shared}
use Rattle.lowered_runs.proofs.Ready.{Position, system, frame_at}
use Rattle.lowered_runs.proofs.Points.{whole_weight, one_within, procedure_at}
use Rattle.lowered_runs.proofs.Starting.{whole_of}
use Rattle.lowered_runs.specs.Claims.{ConstantsStandBy}
use Rattle.held_stores.specs.Changes.{with_frame}
use Rattle.lowered_runs.proofs.Frames.{Activation, above}
use Rattle.lowered_runs.proofs.Calls.{Stacked, Calling, GivesFor}
use Rattle.lowered_runs.proofs.Activations.{DataPlaced, activation, laid, stacked_above, apart_above, variables_above, lent_above}
use Rattle.lowered_runs.proofs.Returns.{IsGiven}
use Rattle.lowered_runs.proofs.Callees.{Serves, invoked_goes}
use Rattle.lowered_runs.proofs.Tree.{list_is, answer_is}
use Rattle.lowered_runs.proofs.Modules.{found, right_of_code, data_placed}

either_left : (a b : Bool) → a ≡ true → (a || b) ≡ true
either_left true b h = refl
either_left false b h = no h

either_right : (a b : Bool) → b ≡ true → (a || b) ≡ true
either_right true b h = refl
either_right false b h = h

-- what all have, each has
pub each_of : {A : Type 0} (test : A → Bool) (xs : List A) (i : ℕ) (none : A) → all test xs ≡ true → i < length xs → test (slice_index_or xs i none) ≡ true
each_of test [] i none h lt = absurd (omega (arith, lt))
each_of test (x ∷ xs) zero none h lt = (and_of (test x) (all test xs) h).0
each_of test (x ∷ xs) (suc i) none h lt = each_of test xs i none (and_of (test x) (all test xs) h).1 (omega (arith, lt))

-- some store
no_store : Objects
no_store = record { globals = []; frames = []; heap = []; tags = []; strings = []; input = [] }

answer_given : (p : Program) (l : Layout) (here : Here) (e : Option Checked) (c : Cursor) → is_some e ≡ true → is_some (lower_answer p l here e c).result ≡ true
answer_given p l here None c h = no h
answer_given p l here (Some x) c h = refl

module _ (p : Program) (packed : Bool) (lay : Layout) (laid_by : IsLayout packed p.types lay) (character : lay.character ≡ char_bytes) (input : List ℕ) (code : ℕ → ℕ) (constants : List ℕ) (n : ℕ) where
  abbrev pub w : Whole
  w = whole_of p packed lay input code constants n

  abbrev pub ps : List Procedure
  ps = procedures (procs_from p lay 0 p.procedures)

  pub coded_at : (g : ℕ) → g < length p.procedures → coded ps g ≡ procedure (proc_of p lay g (procedure_of p g))
  coded_at g lt = let z : 0 + g ≡ g = omega arith in procedure_at p lay 0 p.procedures g (procedure_of p g) (found p.procedures g _ lt) ∙ ap (λ i. procedure (proc_of p lay i (procedure_of p g))) z

  pub points_at : (g : ℕ) → g < length p.procedures → (h : Point → ℕ) → whole_weight p lay g (procedure_of p g) h + shared h ≤ weigh h w.points
  points_at g lt h =
      let starts_at = map Begin (places_from 0 (suc (length (bodies ps)))) in
      let a = weigh-append h starts_at (routine_points ++ points_of_all procedure_points 0 ps) in
      let b = weigh-append h routine_points (points_of_all procedure_points 0 ps) in
      let d = one_within p lay 0 p.procedures g (procedure_of p g) h (found p.procedures g _ lt) in
      let z : 0 + g ≡ g = omega arith in
      let e = ap (λ i. whole_weight p lay i (procedure_of p g) h) z in
      omega (arith, a, b, d, e)

  module _ (good : types_fine p.types ≡ true) (all_fine : (f : ℕ) → f < length p.procedures → WellFormed.procedure_fine p f ≡ true) (codes : AreCodePlaces (length ps) code) (declared : WellFormed.declarations_fine p ≡ true) (standing : 0 < length p.types.records + length (texts_of p.procedures) → ConstantsStandBy p lay constants) where
    right : Right w
    right = right_of_code p packed lay laid_by character input code constants n 0 0 no_store codes declared

    data_at : DataPlaced w
    data_at = data_placed p packed lay laid_by character input code constants n 0 0 no_store declared standing

    given_by : (g : ℕ) (def : Option ℕ) (r : Option Form) (e : Option Checked) → WellFormed.form_of p (procedure_of p g).result ≡ r → (procedure_of p g).answer ≡ e → WellFormed.answer_fine p g r e ≡ true → GivesFor p g def → IsGiven def (made_of p lay g (procedure_of p g)).result
    given_by g None r e is at fine gives = tt
    given_by g (Some v) None e is at fine gives = absurd (different (sym is ∙ gives.1))
      where
        different : {k : Form} → None ≡ Some k → ⊥
        different e = cc
    given_by g (Some v) (Some k) None is at fine gives = no fine
    given_by g (Some v) (Some k) (Some x) is at fine gives = answer_given p lay (here_of p lay g (procedure_of p g)) (procedure_of p g).answer _ (ap is_some at)

    module _ (fuel : ℕ) (calling : Calling w good fuel (at_most p fuel)) (l : Level) (apart : Apart w l) (stacked : Stacked l) (g : ℕ) (hs : List Handed) (xs : List ℕ) (c : Position) (f : ℕ → ℕ) (there : g < length p.procedures) where
      abbrev q : Declared
      q = procedure_of p g

      abbrev k : Activation
      k = activation w l g hs xs (frame_at l c f)

      fine_parts : (all (formal_legal p.types) q.formals ≡ true) × ((all (WellFormed.fine p g) q.body && WellFormed.answer_fine p g (WellFormed.form_of p q.result) q.answer) ≡ true)
      fine_parts = and_of (all (formal_legal p.types) q.formals) (all (WellFormed.fine p g) q.body && WellFormed.answer_fine p g (WellFormed.form_of p q.result) q.answer) (all_fine g there)

      fine_code : (all (WellFormed.fine p g) q.body ≡ true) × (WellFormed.answer_fine p g (WellFormed.form_of p q.result) q.answer ≡ true)
      fine_code = and_of (all (WellFormed.fine p g) q.body) (WellFormed.answer_fine p g (WellFormed.form_of p q.result) q.answer) fine_parts.1

      module _ (s : Objects) (cs : List Cell) (bytes_small : l.local + k.bytes ≤ heap_base) (taken : AllTaken p good (forms_of_all p l.types) s.tags q.formals hs) where
        abbrev u : Level
        u = above l k (with_frame cs s)

        last_forms : (vs : List (List ℕ)) (ks : List ℕ) → slice_index_or (forms_of_all p (vs ++ ks ∷ [])) (length vs) [] ≡ joined (forms p.types) ks
        last_forms [] ks = refl
        last_forms (v ∷ vs) ks = last_forms vs ks

        own_forms : slice_index_or (forms_of_all p u.types) u.frame [] ≡ joined (forms p.types) (locals_of q)
        own_forms = last_forms l.types (locals_of q)

        taken_above : AllTaken p good (forms_of_all p u.types) s.tags q.formals hs
        taken_above = subst (λ fs. AllTaken p good fs s.tags q.formals hs) (sym (map-append (joined (forms p.types)) l.types (locals_of q ∷ []))) (all_taken_push p good (forms_of_all p l.types) (joined (forms p.types) (locals_of q)) s.tags q.formals hs taken)

        pub serves : Serves w u fuel (at_most p fuel)
        serves = record {
          body = list_is w u right (apart_above w l g hs xs (frame_at l c f) (with_frame cs s) good laid_by stacked.depth) (variables_above w l g hs xs (frame_at l c f) (with_frame cs s) good laid_by stacked.depth data_at bytes_small) good (at_most p fuel) (s_at_most p good all_fine fuel) own_forms
              taken_above (stacked_above w l g hs xs (frame_at l c f) (with_frame cs s) stacked) fuel calling (λ x. true) q.body fine_code.0 (λ x. refl)
              (λ x e. lent_above w l g hs xs (frame_at l c f) (with_frame cs s) x (either_left (lent_by_list q.body x) (lent_by_answer q.answer x) e));
          result = answer_is w u right (apart_above w l g hs xs (frame_at l c f) (with_frame cs s) good laid_by stacked.depth) (variables_above w l g hs xs (frame_at l c f) (with_frame cs s) good laid_by stacked.depth data_at bytes_small) good (at_most p fuel) (s_at_most p good all_fine fuel) own_forms
              taken_above (stacked_above w l g hs xs (frame_at l c f) (with_frame cs s) stacked) fuel calling (WellFormed.form_of p q.result) q.answer fine_code.1
              (λ x e. lent_above w l g hs xs (frame_at l c f) (with_frame cs s) x (either_right (lent_by_list q.body x) (lent_by_answer q.answer x) e));
        }

    -- calls, for at most so many turns
    pub calling_all : (fuel : ℕ) → Calling w good fuel (at_most p fuel)
    calling_all zero = record {
      by = λ l g hs xs def most c f s m room free op rest stacked apart ok gives le within stands def_is at held typed taken words.
          comes_spent HasSense (system w) (least w.procedures) w.points w.first w.turns same_trap at (let b = at.bound in omega (arith, b, le));
    }
    calling_all (suc fuel) = record {
      by = λ l g hs xs def most c f s m room free op rest stacked apart ok gives le within stands def_is at held typed taken words.
          let parts = and_of (nat_lt g (length p.procedures)) (not (procedure_of p g).is_body) ok in
          let there = lt_of p g (length p.procedures) parts.0 in
          let calling = calling_all fuel in
          let fine = fine_parts fuel calling l apart stacked g hs xs c f there in
          let code_fine = fine_code fuel calling l apart stacked g hs xs c f there in
          comes_spend HasSense (system w) (least w.procedures) w.points w.first w.turns same_trap s (λ u. invoked p (at_most p fuel) fuel g hs) (λ h. whole_weight p lay g (procedure_of p g) h + shared h) at (points_at g there)
          (λ turns is reached. let bound = at.bound in
          invoked_goes w right good l apart stacked g hs xs def most c f free op rest stands def_is within (coded_at g there) (not_body (procedure_of p g).is_body parts.1) fine.0 (points_at g there)
          (given_by g def (WellFormed.form_of p (procedure_of p g).result) (procedure_of p g).answer refl refl code_fine.1 gives)
          fuel (at_most p fuel) turns (omega (arith, bound, is)) (omega (arith, bound, is, le))
          (λ t cs m0 entered fits. serves fuel calling l apart stacked g hs xs c f there t cs (let low = entered.held.room.local_ends in let fit = (laid w l g hs xs (frame_at l c f) good laid_by).fits in omega (arith, low, fit, fits)) entered.taken)
          (record s { turns = turns }) m turns (omega arith) (record { held = held; typed = typed; taken = taken; words = words }) reached);
    }
      where
        not_body : (b : Bool) → not b ≡ true → b ≡ false
        not_body true h = no h
        not_body false h = refl
