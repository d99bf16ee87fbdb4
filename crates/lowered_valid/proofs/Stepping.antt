-- Valid procedures step alike from states that differ in nothing that is wanted.
use Rattle.std.proofs.Common.{◌≡◌, ℕ, zero, suc, ◌+◌, ◌<◌, ◌≤◌, Bool, true, false, cond, List, [], ◌∷◌, ◌++◌, map, length, drop, Option, Some, None, inl, inr, refl, sym, ap, subst, ◌∙◌, arith}
use Rattle.std.specs.Prelude.{◌⊎◌, ◌&&◌, ◌==◌, nat_lt, nat_le, slice_get, option_map, option_to_list, if◌then◌else◌}
use Rattle.std.specs.List.{list_all}
use Rattle.std.proofs.lemmas.List.{get_or_past, length-map}
use Rattle.std.proofs.lemmas.List.Folds.{list_all_at}
use Rattle.std.proofs.lemmas.Option.{slice_get-get_or}
use Rattle.std.proofs.lemmas.Bool.{cases_lt, eqb-true, eq-eqb, leb-true, and_parts}
use Rattle.run_laws.specs.Runs.{Step, Moves, Ends, Traps, act, run, Within}
use Rattle.run_laws.specs.Layers.{CarriesStep, CarriesBy}
use Rattle.run_laws.proofs.Walks.{Walk-one}
use Rattle.wrapping_numbers.specs.Numbers.{add64, sub64}
use Rattle.a64_memory.specs.Memory.{Area, load1, load8, store1, store8}
use Rattle.block_runs.specs.declared.end.End.{End}
use Rattle.block_runs.specs.declared.end.End.TheVariants.{Jump, Branch, Nonzero, Return, Trap}
use Rattle.block_runs.specs.Blocks.{Operation, CodeBlock, Procedure, no_block, block_at, block_of, procedure_of, end_uses, successors, bodies, bodies_from}
use Rattle.block_runs.specs.Live.{has, defs_of, reads, Live, IsWanted}
use Rattle.block_runs.specs.Live.Live.{Here, Later}
use Rattle.block_runs.specs.Valid.{arguments_fit, params_of}
use Rattle.block_runs.specs.States.{Frame, World, Work, CopyHead, CopyCell, CopyTail, ZeroHead, ZeroCell, CompareHead, CompareCell, State, Starts, Enters, Runs, Works, Stop, Kind, Fault, point}
use Rattle.block_runs.specs.Compares.{compares}
use Rattle.block_runs.specs.Effects.{char_bytes, Effect, Gives, Does, Calls, Begins, Fails, Faults, effect_of}
use Rattle.block_runs.specs.Steps.{set_all, define, behind, at_block, rest_of, answered, resumed, first_frame, taken, freed, enter, goes_back, may_call, called, operate, leave, perform, moved_to, moved, char_at, compared, work_on, begin, step, block_system}
use Rattle.block_runs.specs.Points.{least}
use Rattle.lowered_valid.specs.Contents.{frame_with, enter_with, step_with, system_with, AgreeOn, AgreeAll, HasArguments, Agree}
use Rattle.lowered_valid.specs.Contents.AgreeAll.{NoCall, OneMore}
use Rattle.lowered_valid.specs.Contents.Agree.{BetweenBodies, AtEntry, InCall, InRoutine}

---- Lists of numbers

has_head : (x : ℕ) (xs : List ℕ) → has (x ∷ xs) x ≡ true
has_head x xs = ap (λ b. cond b true (has xs x)) (eq-eqb x x refl)

has_behind : (x : ℕ) (xs : List ℕ) (v : ℕ) → has xs v ≡ true → has (x ∷ xs) v ≡ true
has_behind x xs v h = by (x == v) h
  where
    by : (b : Bool) → has xs v ≡ true → cond b true (has xs v) ≡ true
    by true h = refl
    by false h = h

has_neither : (xs ys : List ℕ) (v : ℕ) → has xs v ≡ false → has ys v ≡ false → has (xs ++ ys) v ≡ false
has_neither [] ys v a b = b
has_neither (x ∷ xs) ys v a b = by (x == v) a (λ h. has_neither xs ys v h b)
  where
    by : (c : Bool) → cond c true (has xs v) ≡ false → (has xs v ≡ false → has (xs ++ ys) v ≡ false) → cond c true (has (xs ++ ys) v) ≡ false
    by true a on = cc
    by false a on = on a

map_same : (xs : List ℕ) (V W : ℕ → ℕ) → ((v : ℕ) → has xs v ≡ true → V v ≡ W v) → map V xs ≡ map W xs
map_same [] V W same = refl
map_same (x ∷ xs) V W same = ap (λ y. y ∷ map V xs) (same x (has_head x xs)) ∙ ap (λ ys. W x ∷ ys) (map_same xs V W (λ v h. same v (has_behind x xs v h)))

drop_next : {X : Type 0} (xs : List X) (n : ℕ) (x : X) (ys : List X) → drop n xs ≡ x ∷ ys → drop (suc n) xs ≡ ys
drop_next [] zero x ys e = cc
drop_next [] (suc n) x ys e = cc
drop_next (y ∷ xs) zero x ys e = cc
drop_next (y ∷ xs) (suc n) x ys e = drop_next xs n x ys e

-- parameters that all get a number have it whatever stood there before
set_all_same : (ps xs : List ℕ) (V W : ℕ → ℕ) (v : ℕ) → length ps ≤ length xs → (has ps v ≡ false → V v ≡ W v) → set_all ps xs V v ≡ set_all ps xs W v
set_all_same [] xs V W v l same = same refl
set_all_same (p ∷ ps) [] V W v l same = absurd (omega (arith, l))
set_all_same (p ∷ ps) (x ∷ xs) V W v l same = by (v == p) refl (λ same. set_all_same ps xs V W v (omega (arith, l)) same)
  where
    other : (v == p) ≡ false → has ps v ≡ false → has (p ∷ ps) v ≡ false
    other e h = turned (p == v) refl
      where
        turned : (b : Bool) → (p == v) ≡ b → cond b true (has ps v) ≡ false
        turned true q = let a = eqb-true p v q in let z : true ≡ false = sym (eq-eqb v p (sym a)) ∙ e in cc
        turned false q = h

    by : (b : Bool) → (v == p) ≡ b → ((has ps v ≡ false → V v ≡ W v) → set_all ps xs V v ≡ set_all ps xs W v) → (if b then x else set_all ps xs V v) ≡ (if b then x else set_all ps xs W v)
    by true e on = refl
    by false e on = on (λ h. same (other e h))

---- What is wanted

-- what is wanted behind an operation that doesn't make it is wanted before
wanted_before : (bls : List CodeBlock) (bl : CodeBlock) (op : Operation) (ops : List Operation) (v : ℕ) → has (option_to_list op.def) v ≡ false → IsWanted bls bl ops v → IsWanted bls bl (op ∷ ops) v
wanted_before bls bl op ops v u (inl r) = inl (by (has op.uses v))
  where
    by : (b : Bool) → cond b true (cond (has (option_to_list op.def) v) false (reads ops bl.end v)) ≡ true
    by true = refl
    by false = ap (λ c. cond c false (reads ops bl.end v)) u ∙ r
wanted_before bls bl op ops v u (inr l) = inr (has_neither (option_to_list op.def) (defs_of ops) v u l.0, l.1)

-- what an operation reads is wanted
used_wanted : (bls : List CodeBlock) (bl : CodeBlock) (op : Operation) (ops : List Operation) (v : ℕ) → has op.uses v ≡ true → IsWanted bls bl (op ∷ ops) v
used_wanted bls bl op ops v h = inl (ap (λ b. cond b true (cond (has (option_to_list op.def) v) false (reads ops bl.end v))) h)

-- what is wanted where a block begins, and is none of its parameters, is live into it
wanted_live : (bls : List CodeBlock) (b v : ℕ) → has (block_at bls b).params v ≡ false → IsWanted bls (block_at bls b) (block_at bls b).ops v → Live bls v b
wanted_live bls b v p w = by (cases_lt b (length bls)) w
  where
    nothing : IsWanted bls no_block [] v → ⊥
    nothing (inl r) = let z : false ≡ true = r in cc
    nothing (inr l) = let e : false ≡ true = l.1.1 in cc

    by : (b < length bls) ⊎ (length bls ≤ b) → IsWanted bls (block_at bls b) (block_at bls b).ops v → Live bls v b
    by (inl lt) (inl r) = Here b (block_at bls b) (slice_get-get_or bls b no_block lt) p r
    by (inl lt) (inr l) = Later b l.1.0 (block_at bls b) (slice_get-get_or bls b no_block lt) (has_neither (block_at bls b).params (defs_of (block_at bls b).ops) v p l.0) l.1.1 l.1.2
    by (inr le) w = absurd (nothing (subst (λ (x : CodeBlock). IsWanted bls x x.ops v) (get_or_past bls b no_block le) w))

---- Steps that are alike

pub data Alike (ps : List Procedure) : Step State Stop → Step State Stop → Type 0 where
  BothMove : (bytes : List ℕ) (s t : State) → Agree ps s t → Alike ps (Moves bytes s) (Moves bytes t)
  BothEnd : Alike ps Ends Ends
  BothTrap : (stop : Stop) → Alike ps (Traps stop) (Traps stop)

-- what a procedure keeps to for this
pub record IsSafe (pr : Procedure) : Type 0 where
  pub first : (v : ℕ) → Live pr.blocks v 0 → ⊥
  pub arguments : list_all (λ bl. arguments_fit pr.blocks bl.end) pr.blocks ≡ true
  pub bare : pr.counted ≡ false → params_of pr.blocks 0 ≡ 0

-- a body is a procedure whose calls aren't counted
body_uncounted : (k : ℕ) (ps : List Procedure) (j q : ℕ) → slice_get (bodies_from k ps) j ≡ Some q → (i : ℕ) × (q ≡ k + i) × ((procedure_of ps i).counted ≡ false)
body_uncounted k [] j q e = cc
body_uncounted k (pr ∷ ps) j q e = by pr.counted refl j e (λ j e. body_uncounted (suc k) ps j q e)
  where
    later : (i : ℕ) × (q ≡ suc k + i) × ((procedure_of ps i).counted ≡ false) → (i : ℕ) × (q ≡ k + i) × ((procedure_of (pr ∷ ps) i).counted ≡ false)
    later r = let a = r.1 in (suc r.0, omega (arith, a), r.2)

    by : (c : Bool) → pr.counted ≡ c → (j : ℕ) → slice_get (if c then bodies_from (suc k) ps else (k ∷ bodies_from (suc k) ps)) j ≡ Some q → ((j : ℕ) → slice_get (bodies_from (suc k) ps) j ≡ Some q → (i : ℕ) × (q ≡ suc k + i) × ((procedure_of ps i).counted ≡ false)) → (i : ℕ) × (q ≡ k + i) × ((procedure_of (pr ∷ ps) i).counted ≡ false)
    by true c j e on = later (on j e)
    by false c zero e on = let a : k ≡ q = cc in (0, omega (arith, a), c)
    by false c (suc j) e on = later (on j e)

module _ (ps : List Procedure) (safe : (p : ℕ) → IsSafe (procedure_of ps p)) where
  ---- Operations

  module _ (f : Frame) (values : ℕ → ℕ) (agree : AgreeOn ps f values) where
    abbrev other : Frame
    other = record f { values = values }

    wanted : (rest : List Operation) → rest_of ps f ≡ rest → (v : ℕ) → IsWanted (procedure_of ps f.proc).blocks (block_of (procedure_of ps f.proc) f.block) rest v → f.values v ≡ values v
    wanted rest r v w = agree v (subst (λ ops. IsWanted (procedure_of ps f.proc).blocks (block_of (procedure_of ps f.proc) f.block) ops v) (sym r) w)

    uses_same : (op : Operation) (ops : List Operation) → rest_of ps f ≡ op ∷ ops → map f.values op.uses ≡ map values op.uses
    uses_same op ops r = map_same op.uses f.values values (λ v h. wanted (op ∷ ops) r v (used_wanted (procedure_of ps f.proc).blocks (block_of (procedure_of ps f.proc) f.block) op ops v h))

    behind_agrees : (op : Operation) (ops : List Operation) (x : ℕ) → rest_of ps f ≡ op ∷ ops → AgreeOn ps (behind f op.def x) (define op.def x values)
    behind_agrees op ops x r v w = by op.def refl
      where
        behind_wanted : IsWanted (procedure_of ps f.proc).blocks (block_of (procedure_of ps f.proc) f.block) ops v
        behind_wanted = subst (λ os. IsWanted (procedure_of ps f.proc).blocks (block_of (procedure_of ps f.proc) f.block) os v) (drop_next (block_of (procedure_of ps f.proc) f.block).ops f.at op ops r) w

        before : has (option_to_list op.def) v ≡ false → f.values v ≡ values v
        before u = wanted (op ∷ ops) r v (wanted_before (procedure_of ps f.proc).blocks (block_of (procedure_of ps f.proc) f.block) op ops v u behind_wanted)

        by : (def : Option ℕ) → op.def ≡ def → define def x f.values v ≡ define def x values v
        by None e = before (ap (λ d. has (option_to_list d) v) e)
        by (Some d) e = at_test (v == d) refl
          where
            not_made : (v == d) ≡ false → has (d ∷ []) v ≡ false
            not_made q = turned (d == v) refl
              where
                turned : (b : Bool) → (d == v) ≡ b → cond b true false ≡ false
                turned true t = let a = eqb-true d v t in let z : true ≡ false = sym (eq-eqb v d (sym a)) ∙ q in cc
                turned false t = refl

            at_test : (b : Bool) → (v == d) ≡ b → (if b then x else f.values v) ≡ (if b then x else values v)
            at_test true q = refl
            at_test false q = before (ap (λ o. has (option_to_list o) v) e ∙ not_made q)

    answered_alike : (fs gs : List Frame) (w : World) (def answer : Option ℕ) → AgreeAll ps fs gs → ((x : ℕ) → AgreeOn ps (behind f def x) (define def x values)) → Alike ps (answered f fs w def answer) (answered other gs w def answer)
    answered_alike fs gs w None answer all after = BothMove [] (Runs (behind f None 0) fs w) (Runs (behind other None 0) gs w) (InCall (behind f None 0) (define None 0 values) fs gs w (after 0) all)
    answered_alike fs gs w (Some d) None all after = BothTrap (Fault d)
    answered_alike fs gs w (Some d) (Some x) all after = BothMove [] (Runs (behind f (Some d) x) fs w) (Runs (behind other (Some d) x) gs w) (InCall (behind f (Some d) x) (define (Some d) x values) fs gs w (after x) all)

    resumed_alike : (rest : List Operation) (fs gs : List Frame) (w : World) (answer : Option ℕ) → rest_of ps f ≡ rest → AgreeAll ps fs gs → Alike ps (resumed rest f fs w answer) (resumed rest other gs w answer)
    resumed_alike [] fs gs w answer r all = BothTrap (Fault 0)
    resumed_alike (op ∷ ops) fs gs w answer r all = answered_alike fs gs w op.def answer all (λ x. behind_agrees op ops x r)

    called_alike : (p : Option ℕ) (args : List ℕ) (fs gs : List Frame) (w : World) → AgreeAll ps fs gs → Alike ps (called ps p args f fs w) (called ps p args other gs w)
    called_alike None args fs gs w all = BothTrap (Fault 0)
    called_alike (Some p) args fs gs w all = by (may_call ps p args) refl
      where
        by : (b : Bool) → may_call ps p args ≡ b → Alike ps (if b then Moves [] (Enters p args (f ∷ fs) w) else Traps (Fault p)) (if b then Moves [] (Enters p args (other ∷ gs) w) else Traps (Fault p))
        by true e =
            let parts = and_parts (nat_lt p (length ps)) _ e in
            let more = and_parts (procedure_of ps p).counted _ parts.1 in
            BothMove [] (Enters p args (f ∷ fs) w) (Enters p args (other ∷ gs) w) (AtEntry p args (f ∷ fs) (other ∷ gs) w (leb-true _ _ more.1) (OneMore f values fs gs agree all))
        by false e = BothTrap (Fault p)

    operate_alike : (op : Operation) (ops : List Operation) (fs gs : List Frame) (w : World) (e : Effect) → rest_of ps f ≡ op ∷ ops → AgreeAll ps fs gs → Alike ps (operate ps op f fs w e) (operate ps op other gs w e)
    operate_alike op ops fs gs w (Gives x) r all = BothMove [] (Runs (behind f op.def x) fs w) (Runs (behind other op.def x) gs w) (InCall (behind f op.def x) (define op.def x values) fs gs w (behind_agrees op ops x r) all)
    operate_alike op ops fs gs w (Does bytes after x) r all = BothMove bytes (Runs (behind f op.def x) fs after) (Runs (behind other op.def x) gs after) (InCall (behind f op.def x) (define op.def x values) fs gs after (behind_agrees op ops x r) all)
    operate_alike op ops fs gs w (Calls p args) r all = called_alike p args fs gs w all
    operate_alike op ops fs gs w (Begins work) r all = BothMove [] (Works work f fs w) (Works work other gs w) (InRoutine work f values fs gs w agree all)
    operate_alike op ops fs gs w (Fails kind) r all = BothTrap (Kind kind f.proc)
    operate_alike op ops fs gs w (Faults at) r all = BothTrap (Fault at)

  -- what comes back is answered alike
  goes_back_alike : {fs gs : List Frame} (w : World) (answer : Option ℕ) → AgreeAll ps fs gs → Alike ps (goes_back ps fs w answer) (goes_back ps gs w answer)
  goes_back_alike w answer NoCall = BothMove [] (Starts (record w { body = suc w.body })) (Starts (record w { body = suc w.body })) (BetweenBodies (record w { body = suc w.body }))
  goes_back_alike w answer (OneMore g values fs gs a all) = resumed_alike g values a (rest_of ps g) fs gs w answer refl all

  ---- Ends

  -- the arguments and targets of a block's end
  fits_at : (p b : ℕ) → arguments_fit (procedure_of ps p).blocks (block_of (procedure_of ps p) b).end ≡ true
  fits_at p b = by (cases_lt b (length (procedure_of ps p).blocks)) (arguments_fit (procedure_of ps p).blocks (block_of (procedure_of ps p) b).end) refl
    where
      by : (b < length (procedure_of ps p).blocks) ⊎ (length (procedure_of ps p).blocks ≤ b) → (t : Bool) → arguments_fit (procedure_of ps p).blocks (block_of (procedure_of ps p) b).end ≡ t → arguments_fit (procedure_of ps p).blocks (block_of (procedure_of ps p) b).end ≡ true
      by (inl lt) true e = e
      by (inl lt) false e = let a = list_all_at (λ bl. arguments_fit (procedure_of ps p).blocks bl.end) (procedure_of ps p).blocks b no_block lt e in let z : true ≡ false = sym (safe p).arguments ∙ a in cc
      by (inr le) t e = ap (λ (bl : CodeBlock). arguments_fit (procedure_of ps p).blocks bl.end) (get_or_past (procedure_of ps p).blocks b no_block le)

  module _ (f : Frame) (values : ℕ → ℕ) (agree : AgreeOn ps f values) (over : rest_of ps f ≡ []) where
    abbrev bls : List CodeBlock
    bls = (procedure_of ps f.proc).blocks

    abbrev bl : CodeBlock
    bl = block_of (procedure_of ps f.proc) f.block

    abbrev twin : Frame
    twin = record f { values = values }

    -- behind the last operation, what the end reads and what is live behind the block is wanted
    end_same : (e : End) → bl.end ≡ e → (v : ℕ) → has (end_uses e) v ≡ true → f.values v ≡ values v
    end_same e is v h = wanted f values agree [] over v (inl (ap (λ x. has (end_uses x) v) is ∙ h))

    live_same : (e : End) → bl.end ≡ e → (to v : ℕ) → has (successors e) to ≡ true → Live bls v to → f.values v ≡ values v
    live_same e is to v edge l = wanted f values agree [] over v (inr (refl, (to, ap (λ x. has (successors x) to) is ∙ edge, l)))

    no_params : (xs : List ℕ) (v : ℕ) → length xs ≡ 0 → has xs v ≡ false
    no_params [] v e = refl
    no_params (x ∷ xs) v e = absurd (omega (arith, e))

    -- on to a block without parameters
    at_plain_block : (e : End) → bl.end ≡ e → (to : ℕ) → has (successors e) to ≡ true → params_of bls to ≡ 0 → AgreeOn ps (at_block f to f.values) values
    at_plain_block e is to edge none v w = live_same e is to v edge (wanted_live bls to v (no_params (block_at bls to).params v none) w)

    -- on to a block that gets its parameters
    at_filled_block : (to : ℕ) (args : List ℕ) → bl.end ≡ Jump to args → AgreeOn ps (at_block f to (set_all (block_at bls to).params (map f.values args) f.values)) (set_all (block_at bls to).params (map values args) values)
    at_filled_block to args is v w =
        ap (λ xs. set_all (block_at bls to).params xs f.values v) same_args
        ∙ set_all_same (block_at bls to).params (map values args) f.values values v (omega (arith, size, fit)) (λ none. live_same (Jump to args) is to v (has_head to []) (wanted_live bls to v none w))
      where
        same_args : map f.values args ≡ map values args
        same_args = map_same args f.values values (λ u h. end_same (Jump to args) is u h)

        fit : length args ≡ length (block_at bls to).params
        fit = eqb-true _ _ (sym (ap (arguments_fit bls) is) ∙ fits_at f.proc f.block)

        size : length (map values args) ≡ length args
        size = length-map args values

    go_alike : (to : ℕ) (V W : ℕ → ℕ) (fs gs : List Frame) (w : World) → AgreeOn ps (at_block f to V) W → AgreeAll ps fs gs → Alike ps (Moves [] (Runs (at_block f to V) fs w)) (Moves [] (Runs (at_block twin to W) gs w))
    go_alike to V W fs gs w a all = BothMove [] (Runs (at_block f to V) fs w) (Runs (at_block twin to W) gs w) (InCall (at_block f to V) W fs gs w a all)

    -- to one of two blocks
    test_alike : (e : End) → bl.end ≡ e → (one second : ℕ) → successors e ≡ one ∷ second ∷ [] → params_of bls one ≡ 0 → params_of bls second ≡ 0 → (c : Bool) (fs gs : List Frame) (w : World) → AgreeAll ps fs gs → Alike ps (Moves [] (Runs (at_block f (cond c one second) f.values) fs w)) (Moves [] (Runs (at_block twin (cond c one second) values) gs w))
    test_alike e is one second two a b true fs gs w all = go_alike one f.values values fs gs w (at_plain_block e is one (ap (λ xs. has xs one) two ∙ has_head one (second ∷ [])) a) all
    test_alike e is one second two a b false fs gs w all = go_alike second f.values values fs gs w (at_plain_block e is second (ap (λ xs. has xs second) two ∙ has_behind one (second ∷ []) second (has_head second [])) b) all

    result_same : (a : Option ℕ) → bl.end ≡ Return a → option_map f.values a ≡ option_map values a
    result_same None is = refl
    result_same (Some v) is = ap (λ x. Some x) (end_same (Return (Some v)) is v (has_head v []))

    leave_alike : (e : End) → bl.end ≡ e → (fs gs : List Frame) (w : World) → AgreeAll ps fs gs → Alike ps (leave ps e f fs w) (leave ps e twin gs w)
    leave_alike (Jump to args) is fs gs w all = go_alike to (set_all (block_at bls to).params (map f.values args) f.values) (set_all (block_at bls to).params (map values args) values) fs gs w (at_filled_block to args is) all
    leave_alike (Branch k a b one second) is fs gs w all =
        let fit = and_parts (params_of bls one == 0) _ (sym (ap (arguments_fit bls) is) ∙ fits_at f.proc f.block) in
        let x = end_same (Branch k a b one second) is a (has_head a (b ∷ [])) in
        let y = end_same (Branch k a b one second) is b (has_behind a (b ∷ []) b (has_head b [])) in
        subst (λ c. Alike ps (Moves [] (Runs (at_block f (cond (compares k (f.values a) (f.values b)) one second) f.values) fs w)) (Moves [] (Runs (at_block twin (cond c one second) values) gs w))) (ap (λ u. compares k u (f.values b)) x ∙ ap (compares k (values a)) y)
        (test_alike (Branch k a b one second) is one second refl (eqb-true _ _ fit.0) (eqb-true _ _ fit.1) (compares k (f.values a) (f.values b)) fs gs w all)
    leave_alike (Nonzero a one second) is fs gs w all =
        let fit = and_parts (params_of bls one == 0) _ (sym (ap (arguments_fit bls) is) ∙ fits_at f.proc f.block) in
        let x = end_same (Nonzero a one second) is a (has_head a []) in
        subst (λ c. Alike ps (Moves [] (Runs (at_block f (cond (f.values a == 0) second one) f.values) fs w)) (Moves [] (Runs (at_block twin (cond c second one) values) gs w))) (ap (λ u. u == 0) x)
        (zero_alike (Nonzero a one second) is one second refl (eqb-true _ _ fit.0) (eqb-true _ _ fit.1) (f.values a == 0) fs gs w all)
      where
        zero_alike : (e : End) → bl.end ≡ e → (one second : ℕ) → successors e ≡ one ∷ second ∷ [] → params_of bls one ≡ 0 → params_of bls second ≡ 0 → (c : Bool) (fs gs : List Frame) (w : World) → AgreeAll ps fs gs → Alike ps (Moves [] (Runs (at_block f (cond c second one) f.values) fs w)) (Moves [] (Runs (at_block twin (cond c second one) values) gs w))
        zero_alike e is one second two a b true fs gs w all = test_alike e is one second two a b false fs gs w all
        zero_alike e is one second two a b false fs gs w all = test_alike e is one second two a b true fs gs w all
    leave_alike (Return a) is fs gs w all =
        subst (λ x. Alike ps (goes_back ps fs (freed (procedure_of ps f.proc) w) (option_map f.values a)) (goes_back ps gs (freed (procedure_of ps f.proc) w) x)) (result_same a is)
        (goes_back_alike (freed (procedure_of ps f.proc) w) (option_map f.values a) all)
    leave_alike (Trap kind) is fs gs w all = BothTrap (Kind kind f.proc)

  ---- Routines

  module _ (f : Frame) (values : ℕ → ℕ) (agree : AgreeOn ps f values) (fs gs : List Frame) (all : AgreeAll ps fs gs) where
    abbrev same : Frame
    same = record f { values = values }

    on_alike : (on : Work) (w : World) → Alike ps (Moves [] (Works on f fs w)) (Moves [] (Works on same gs w))
    on_alike on w = BothMove [] (Works on f fs w) (Works on same gs w) (InRoutine on f values fs gs w agree all)

    moved_to_alike : (m : Option (List Area)) (to : ℕ) (on : Work) (w : World) → Alike ps (moved_to m to on f fs w) (moved_to m to on same gs w)
    moved_to_alike None to on w = BothTrap (Fault to)
    moved_to_alike (Some m) to on w = on_alike on (record w { memory = m })

    moved_alike : (store : ℕ → ℕ → Option (List Area)) (from : ℕ) (x : Option ℕ) (to : ℕ) (on : Work) (w : World) → Alike ps (moved store from x to on f fs w) (moved store from x to on same gs w)
    moved_alike store from None to on w = BothTrap (Fault from)
    moved_alike store from (Some x) to on w = moved_to_alike (store to x) to on w

    either : (c : Bool) (a b a' b' : Step State Stop) → Alike ps a a' → Alike ps b b' → Alike ps (if c then a else b) (if c then a' else b')
    either true a b a' b' x y = x
    either false a b a' b' x y = y

    back_alike : (w : World) (answer : Option ℕ) → Alike ps (resumed (rest_of ps f) f fs w answer) (resumed (rest_of ps f) same gs w answer)
    back_alike w answer = resumed_alike f values agree (rest_of ps f) fs gs w answer refl all

    compared_alike : (x m y n done : ℕ) (w : World) (a b : Option ℕ) → Alike ps (compared (rest_of ps f) x m y n done f fs w a b) (compared (rest_of ps f) x m y n done same gs w a b)
    compared_alike x m y n done w None b = BothTrap (Fault x)
    compared_alike x m y n done w (Some a) None = BothTrap (Fault y)
    compared_alike x m y n done w (Some a) (Some b) = either (a == b && nat_lt 0 a) _ _ _ _ (on_alike (CompareCell x m y n (add64 done char_bytes)) w) (back_alike w (Some (sub64 a b)))

    work_alike : (work : Work) (w : World) → Alike ps (work_on (rest_of ps f) work f fs w) (work_on (rest_of ps f) work same gs w)
    work_alike (CopyHead to from bytes) w = on_alike (CopyCell to from bytes 0) w
    work_alike (CopyCell to from bytes done) w = either (nat_lt bytes (add64 done 8)) _ _ _ _ (on_alike (CopyTail to from bytes done) w) (moved_alike (store8 w.memory) (add64 from done) (load8 w.memory (add64 from done)) (add64 to done) (CopyCell to from bytes (add64 done 8)) w)
    work_alike (CopyTail to from bytes done) w = either (nat_le bytes done) _ _ _ _ (back_alike w None) (moved_alike (store1 w.memory) (add64 from done) (load1 w.memory (add64 from done)) (add64 to done) (CopyTail to from bytes (add64 done 1)) w)
    work_alike (ZeroHead to bytes) w = on_alike (ZeroCell to bytes 0) w
    work_alike (ZeroCell to bytes done) w = either (nat_le bytes done) _ _ _ _ (back_alike w None) (moved_to_alike (store8 w.memory (add64 to done) 0) (add64 to done) (ZeroCell to bytes (add64 done 8)) w)
    work_alike (CompareHead x m y n) w = on_alike (CompareCell x m y n 0) w
    work_alike (CompareCell x m y n done) w = compared_alike x m y n done w (char_at w.memory x m done) (char_at w.memory y n done)

  ---- All steps

  module _ (code : ℕ → ℕ) (contents : State → ℕ → ℕ) where
    begin_alike : (w : World) (p : Option ℕ) → slice_get (bodies ps) w.body ≡ p → Alike ps (begin p w) (begin p w)
    begin_alike w None e = BothEnd
    begin_alike w (Some p) e =
        let b = body_uncounted 0 ps w.body p e in
        let i = b.1 in
        let q : p ≡ b.0 = omega (arith, i) in
        let none : params_of (procedure_of ps p).blocks 0 ≡ 0 = ap (λ k. params_of (procedure_of ps k).blocks 0) q ∙ (safe b.0).bare b.2 in
        BothMove [] (Enters p [] [] w) (Enters p [] [] w) (AtEntry p [] [] [] w (omega (arith, none)) NoCall)

    -- values at an entry: what isn't given is wanted nowhere
    entry_agrees : (p : ℕ) (args : List ℕ) (given : ℕ → ℕ) → HasArguments ps p args → AgreeOn ps (first_frame (procedure_of ps p) p args) (set_all (block_of (procedure_of ps p) 0).params args given)
    entry_agrees p args given has_words v w = set_all_same (block_of (procedure_of ps p) 0).params args (λ u. 0) given v has_words (λ none. absurd ((safe p).first v (wanted_live (procedure_of ps p).blocks 0 v none w)))

    enter_alike : (p : ℕ) (args : List ℕ) (fs gs : List Frame) (w : World) (given : ℕ → ℕ) → HasArguments ps p args → AgreeAll ps fs gs → Alike ps (enter ps p args fs w) (enter_with given ps p args gs w)
    enter_alike p args fs gs w given has_words all = by ((procedure_of ps p).counted && w.calls == 0) (nat_lt w.cells (procedure_of ps p).cells)
      where
        entered : (g : List Frame) (f : Frame) → Step State Stop
        entered g f = Moves [] (Runs f g (taken (procedure_of ps p) w))

        entries : (c d : Bool) (g : List Frame) (f : Frame) → Step State Stop
        entries c d g f = if c then Traps (Kind 8 p) else (if d then Traps (Kind 9 p) else entered g f)

        by : (c d : Bool) → Alike ps (entries c d fs (first_frame (procedure_of ps p) p args)) (entries c d gs (frame_with given (procedure_of ps p) p args))
        by true d = BothTrap (Kind 8 p)
        by false true = BothTrap (Kind 9 p)
        by false false = BothMove [] (Runs (first_frame (procedure_of ps p) p args) fs (taken (procedure_of ps p) w)) (Runs (frame_with given (procedure_of ps p) p args) gs (taken (procedure_of ps p) w)) (InCall (first_frame (procedure_of ps p) p args) (set_all (block_of (procedure_of ps p) 0).params args given) fs gs (taken (procedure_of ps p) w) (entry_agrees p args given has_words) all)

    perform_alike : (f : Frame) (values : ℕ → ℕ) (rest : List Operation) (fs gs : List Frame) (w : World) → AgreeOn ps f values → rest_of ps f ≡ rest → AgreeAll ps fs gs → Alike ps (perform ps code rest f fs w) (perform ps code rest (record f { values = values }) gs w)
    perform_alike f values [] fs gs w agree r all = leave_alike f values agree r (block_of (procedure_of ps f.proc) f.block).end refl fs gs w all
    perform_alike f values (op ∷ ops) fs gs w agree r all =
        subst (λ xs. Alike ps (operate ps op f fs w (effect_of code (length ps) f.args w op.code (map f.values op.uses))) (operate ps op (record f { values = values }) gs w (effect_of code (length ps) f.args w op.code xs))) (uses_same f values agree op ops r)
        (operate_alike f values agree op ops fs gs w (effect_of code (length ps) f.args w op.code (map f.values op.uses)) r all)

    pub step_alike : {s t : State} → Agree ps s t → Alike ps (step ps code s) (step_with contents ps code t)
    step_alike (BetweenBodies w) = begin_alike w (slice_get (bodies ps) w.body) refl
    step_alike (AtEntry p args fs gs w has_words all) = enter_alike p args fs gs w (contents (Enters p args gs w)) has_words all
    step_alike (InCall f values fs gs w agree all) = perform_alike f values (rest_of ps f) fs gs w agree refl all
    step_alike (InRoutine work f values fs gs w agree all) = work_alike f values agree fs gs all work w

    ---- Runs

    act_same : {a b : Step State Stop} (n : ℕ) (out : List ℕ) → Alike ps a b → ((s t : State) (out : List ℕ) → Agree ps s t → run (step_with contents ps code) n t out ≡ run (step ps code) n s out) → act b (run (step_with contents ps code) n) out ≡ act a (run (step ps code) n) out
    act_same n out (BothMove bytes s t agree) on = on s t (out ++ bytes) agree
    act_same n out BothEnd on = refl
    act_same n out (BothTrap stop) on = refl

    pub run_same : (n : ℕ) {s t : State} (out : List ℕ) → Agree ps s t → run (step_with contents ps code) n t out ≡ run (step ps code) n s out
    run_same zero out agree = refl
    run_same (suc n) out agree = act_same n out (step_alike agree) (λ s t out agree. run_same n out agree)

    ---- Point by point

    same_point : {s t : State} → Agree ps s t → point s ≡ point t
    same_point (BetweenBodies w) = refl
    same_point (AtEntry p args fs gs w has_words all) = refl
    same_point (InCall f values fs gs w agree all) = refl
    same_point (InRoutine work f values fs gs w agree all) = refl

    halt_within : (s t : State) → point s ≡ point t → Within (point s ∷ []) ([] ++ point t ∷ [])
    halt_within s t e h = let a = ap h e in omega (arith, a)

    carried : {a b : Step State Stop} (s t : State) → point s ≡ point t → step_with contents ps code t ≡ b → Alike ps a b → CarriesStep (system_with contents ps code) (least ps) (least ps) (λ p. p ∷ []) (Agree ps) (λ (u v : Stop). u ≡ v) (point s) t a
    carried s t at is (BothMove wrote after next agree) = record {
      after = next;
      passed = point t ∷ [];
      walk = Walk-one (system_with contents ps code) t next wrote is;
      similar = agree;
      within = λ h. let a = ap h at in omega (arith, a);
      enough = let a = ap (least ps) at in omega (arith, a);
    }
    carried s t at is BothEnd = record { stop = t; passed = []; walk = (refl, refl); halts = is; within = halt_within s t at }
    carried s t at is (BothTrap stop) = (stop, refl, record { stop = t; passed = []; walk = (refl, refl); halts = is; within = halt_within s t at })

    pub carries : CarriesBy (block_system ps code) (system_with contents ps code) (least ps) (least ps) (λ p. p ∷ []) (Agree ps) (λ (u v : Stop). u ≡ v)
    carries = record { each = λ s t agree. carried s t (same_point agree) refl (step_alike agree) }
