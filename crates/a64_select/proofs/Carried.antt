-- Flows do, step by step, what their procedures do.
use Rattle.std.proofs.Common.{◌≡◌, ℕ, zero, suc, ◌+◌, ◌<◌, ◌≤◌, Bool, true, false, cond, List, [], ◌∷◌, ◌++◌, map, length, take, drop, get_or, Option, Some, None, inl, inr, refl, sym, ap, subst, ◌∙◌, arith}
use Rattle.std.specs.Prelude.{◌⊎◌, ◌&&◌, ◌==◌, nat_lt, nat_le, filter, slice_get, option_map, not}
use Rattle.std.proofs.lemmas.List.{get_or_past, get_or_default, length-append, length-map, get_or-map, get_or_append_left, get_or-append-add}
use Rattle.std.proofs.lemmas.Bool.{cases_lt}
use Rattle.std.proofs.lemmas.Bool.Decides.{nat_tests}
use Rattle.wrapping_numbers.specs.Numbers.{add64}
use Rattle.a64_memory.specs.Memory.{Area, load1, load8, store1, store8}
use Rattle.run_laws.specs.Runs.{Step, Moves, Ends, Traps, weigh, Within}
use Rattle.run_laws.specs.Layers.{CarriesStep, CarriesBy, places_from}
use Rattle.run_laws.proofs.Walks.{Walk-one, Walk-cons}
use Rattle.block_runs.specs.declared.end.End.{End}
use Rattle.block_runs.specs.declared.end.End.TheVariants.{Jump, Branch, Nonzero, Return, Trap}
use Rattle.block_runs.specs.Blocks.{Operation, CodeBlock, Procedure, no_block, block_at, block_of, no_procedure, procedure_of, successors, bodies, bodies_from}
use Rattle.block_runs.specs.States.{Frame, World, Work, CopyHead, CopyCell, CopyTail, ZeroHead, ZeroCell, CompareHead, CompareCell, State, Starts, Enters, Runs, Works, Stop, Kind, Fault, Point, Begin, Entry, In, At, point}
use Rattle.block_runs.specs.Compares.{compares}
use Rattle.block_runs.specs.Effects.{char_bytes, Effect, Gives, Does, Calls, Begins, Fails, Faults, effect_of}
use Rattle.block_runs.specs.Steps.{set_all, at_block, rest_of, answered, resumed, first_frame, taken, freed, enter, goes_back, may_call, called, operate, leave, perform, moved_to, moved, char_at, compared, work_on, begin, step, block_system}
use Rattle.block_runs.specs.Points.{end_least, rest_least, least}
use Rattle.block_runs.specs.Valid.{all_below}
use Rattle.a64_select.specs.Selected.{joins_of, is_join, split_targets, redirected, behind, split_end}
use Rattle.a64_select.specs.Carrying.{new_targets, first_new, new_points, at_end, flow_points, Stands, AllStand, Inside, SameState}
use Rattle.a64_select.proofs.Splitting.{edge_block, old_blocks, split_blocks}
use Rattle.lir_core.specs.Lines.{AllBelow}
use Rattle.a64_select.proofs.Preds.{all_below_each, all_at}
use Rattle.a64_select.proofs.Targets.{leads_below, length-old_blocks}

---- Blocks

old_at : (joins : List Bool) (next : ℕ) (bls : List CodeBlock) (b : ℕ) → b < length bls → get_or (old_blocks joins next bls) b no_block ≡ record (block_at bls b) { end = split_end joins (next + length (new_targets joins (take b bls))) (block_at bls b).end }
old_at joins next [] b l = absurd (omega (arith, l))
old_at joins next (bl ∷ bls) zero l = let e : next ≡ next + 0 = omega arith in ap (λ n. record bl { end = split_end joins n bl.end }) e
old_at joins next (bl ∷ bls) (suc b) l =
    let h : b < length bls = omega (arith, l) in
    let s = length-append (split_targets joins bl.end) (new_targets joins (take b bls)) in
    let e : next + length (split_targets joins bl.end) + length (new_targets joins (take b bls)) ≡ next + length (split_targets joins bl.end ++ new_targets joins (take b bls)) = omega (arith, s) in
    old_at joins (next + length (split_targets joins bl.end)) bls b h ∙ ap (λ n. record (block_at bls b) { end = split_end joins n (block_at bls b).end }) e

-- a block of a procedure in its flow
pub split_at : (bls : List CodeBlock) (b : ℕ) → b < length bls → block_at (split_blocks bls) b ≡ record (block_at bls b) { end = split_end (joins_of bls) (first_new bls b) (block_at bls b).end }
split_at bls b l =
    let o : b < length (old_blocks (joins_of bls) (length bls) bls) = (let s = length-old_blocks (joins_of bls) (length bls) bls in omega (arith, s, l)) in
    get_or_append_left (old_blocks (joins_of bls) (length bls) bls) (map edge_block (new_targets (joins_of bls) bls)) no_block b o ∙ old_at (joins_of bls) (length bls) bls b l

pub new_at : (joins : List Bool) (bls : List CodeBlock) (b i : ℕ) → i < length (split_targets joins (block_at bls b).end) → get_or (new_targets joins bls) (length (new_targets joins (take b bls)) + i) 0 ≡ get_or (split_targets joins (block_at bls b).end) i 0
new_at joins [] b i l = absurd (omega (arith, l))
new_at joins (bl ∷ bls) zero i l = let z : 0 + i ≡ i = omega arith in ap (λ k. get_or (split_targets joins bl.end ++ new_targets joins bls) k 0) z ∙ get_or_append_left (split_targets joins bl.end) (new_targets joins bls) 0 i l
new_at joins (bl ∷ bls) (suc b) i l =
    let s = length-append (split_targets joins bl.end) (new_targets joins (take b bls)) in
    let e : length (split_targets joins bl.end ++ new_targets joins (take b bls)) + i ≡ length (split_targets joins bl.end) + (length (new_targets joins (take b bls)) + i) = omega (arith, s) in
    ap (λ k. get_or (split_targets joins bl.end ++ new_targets joins bls) k 0) e
    ∙ (get_or-append-add (split_targets joins bl.end) (new_targets joins bls) (length (new_targets joins (take b bls)) + i) 0 ∙ new_at joins bls b i l)

new_there : (joins : List Bool) (bls : List CodeBlock) (b i : ℕ) → i < length (split_targets joins (block_at bls b).end) → length (new_targets joins (take b bls)) + i < length (new_targets joins bls)
new_there joins [] b i l = absurd (omega (arith, l))
new_there joins (bl ∷ bls) zero i l = let s = length-append (split_targets joins bl.end) (new_targets joins bls) in omega (arith, s, l)
new_there joins (bl ∷ bls) (suc b) i l =
    let s = length-append (split_targets joins bl.end) (new_targets joins (take b bls)) in
    let t = length-append (split_targets joins bl.end) (new_targets joins bls) in
    let r = new_there joins bls b i l in
    omega (arith, s, t, r)

-- a new node jumps to the target of its edge
pub new_node : (bls : List CodeBlock) (b i : ℕ) → i < length (split_targets (joins_of bls) (block_at bls b).end) → block_at (split_blocks bls) (first_new bls b + i) ≡ edge_block (get_or (split_targets (joins_of bls) (block_at bls b).end) i 0)
new_node bls b i l =
    let j = joins_of bls in
    let k = length (new_targets j (take b bls)) + i in
    let o = length-old_blocks j (length bls) bls in
    let e : first_new bls b + i ≡ length (old_blocks j (length bls) bls) + k = omega (arith, o) in
    let t = new_there j bls b i l in
    ap (λ n. block_at (split_blocks bls) n) e
    ∙ (get_or-append-add (old_blocks j (length bls) bls) (map edge_block (new_targets j bls)) k no_block
    ∙ (get_or-map edge_block (new_targets j bls) k 0 no_block t ∙ ap edge_block (new_at j bls b i l)))

---- Edges of a test

-- an edge of a test leads where it led, or to a new node on it
abbrev pub IsEdge : List ℕ → ℕ → ℕ → ℕ → Type 0
IsEdge split next to to' = (to' ≡ to) ⊎ ((i : ℕ) × (i < length split) × (to' ≡ next + i) × (get_or split i 0 ≡ to))

pub two_edges : (joins : List Bool) (next one other : ℕ) → let split = filter (is_join joins) (one ∷ other ∷ []) in IsEdge split next one (redirected joins next one) × IsEdge split next other (redirected joins (behind joins next one) other)
two_edges joins next one other = at_test (is_join joins one) (is_join joins other)
  where
    at_test : (t u : Bool) → IsEdge (cond t (one ∷ cond u (other ∷ []) []) (cond u (other ∷ []) [])) next one (cond t next one) × IsEdge (cond t (one ∷ cond u (other ∷ []) []) (cond u (other ∷ []) [])) next other (cond u (cond t (suc next) next) other)
    at_test true true = (inr (0, omega arith, omega arith, refl), inr (1, omega arith, omega arith, refl))
    at_test true false = (inr (0, omega arith, omega arith, refl), inl refl)
    at_test false true = (inl refl, inr (0, omega arith, omega arith, refl))
    at_test false false = (inl refl, inl refl)

-- of the edge that is taken
taken_edge : (split : List ℕ) (next one other one' other' : ℕ) (c : Bool) → IsEdge split next one one' → IsEdge split next other other' → IsEdge split next (cond c one other) (cond c one' other')
taken_edge split next one other one' other' true a b = a
taken_edge split next one other one' other' false a b = b

---- Procedures and their flows

abbrev pub split_procedure : Procedure → Procedure
split_procedure pr = record pr { blocks = split_blocks pr.blocks }

abbrev pub split_procedures : List Procedure → List Procedure
split_procedures ps = map split_procedure ps

procedure_same : (ps : List Procedure) (p : ℕ) → procedure_of (split_procedures ps) p ≡ split_procedure (procedure_of ps p)
procedure_same [] p = refl
procedure_same (pr ∷ ps) zero = refl
procedure_same (pr ∷ ps) (suc p) = procedure_same ps p

pub bodies_same : (p : ℕ) (ps : List Procedure) → bodies_from p (split_procedures ps) ≡ bodies_from p ps
bodies_same p [] = refl
bodies_same p (pr ∷ ps) = ap (λ bs. cond pr.counted bs (p ∷ bs)) (bodies_same (suc p) ps)

-- bodies are numbers of procedures
body_below : (p : ℕ) (ps : List Procedure) (j q : ℕ) → slice_get (bodies_from p ps) j ≡ Some q → q < p + length ps
body_below p [] j q e = cc
body_below p (pr ∷ ps) j q e = at_test pr.counted j e (λ k. body_below (suc p) ps k q)
  where
    at_test : (c : Bool) (j : ℕ) → slice_get (cond c (bodies_from (suc p) ps) (p ∷ bodies_from (suc p) ps)) j ≡ Some q → ((k : ℕ) → slice_get (bodies_from (suc p) ps) k ≡ Some q → q < suc p + length ps) → q < p + suc (length ps)
    at_test true j e on = let r = on j e in omega (arith, r)
    at_test false zero e on = let x : p ≡ q = cc in omega (arith, x)
    at_test false (suc j) e on = let r = on j e in omega (arith, r)

-- each procedure has a first block, and its edges lead to its blocks
pub record IsFine (pr : Procedure) : Type 0 where
  pub some : 0 < length pr.blocks
  pub leads : leads_below (length pr.blocks) pr.blocks ≡ true

-- the weight of one of some points
weigh_place : {P : Type 0} (h : P → ℕ) (f : ℕ → P) (a n i : ℕ) → i < n → h (f (a + i)) ≤ weigh h (map f (places_from a n))
weigh_place h f a zero i l = absurd (omega (arith, l))
weigh_place h f a (suc n) zero l = let z : a + 0 ≡ a = omega arith in let e = ap (λ k. h (f k)) z in omega (arith, e)
weigh_place h f a (suc n) (suc i) l =
    let z : a + suc i ≡ suc a + i = omega arith in
    let e = ap (λ k. h (f k)) z in
    let m : i < n = omega (arith, l) in
    let r = weigh_place h f (suc a) n i m in
    omega (arith, e, r)

no_arguments : (xs : List ℕ) (V : ℕ → ℕ) → set_all xs [] V ≡ V
no_arguments [] V = refl
no_arguments (x ∷ xs) V = refl

end_least_same : (joins : List Bool) (next : ℕ) (e : End) → end_least (split_end joins next e) ≡ end_least e
end_least_same joins next (Jump to args) = refl
end_least_same joins next (Branch k a b one other) = refl
end_least_same joins next (Nonzero a one other) = refl
end_least_same joins next (Return a) = refl
end_least_same joins next (Trap kind) = refl

rest_least_same : (joins : List Bool) (next : ℕ) (ops : List Operation) (e : End) → rest_least ops (split_end joins next e) ≡ rest_least ops e
rest_least_same joins next [] e = end_least_same joins next e
rest_least_same joins next (op ∷ ops) e = refl

-- what comes behind a step stands inside
abbrev AfterInside : List Procedure → Step State Stop → Type 0
AfterInside ps (Moves w t) = Inside ps t
AfterInside ps Ends = Unit {0}
AfterInside ps (Traps trap) = Unit {0}

-- a point is one of its own
point_within : (ps : List Procedure) (p : Point) (h : Point → ℕ) → h p + 0 ≤ weigh h (flow_points ps p)
point_within ps (Begin j) h = omega arith
point_within ps (Entry p) h = omega arith
point_within ps (In p b i) h = omega arith
point_within ps (At part) h = omega arith

module _ (ps : List Procedure) (code : ℕ → ℕ) (fine : (p : ℕ) → p < length ps → IsFine (procedure_of ps p)) where
  abbrev qs : List Procedure
  qs = split_procedures ps

  abbrev blocks : ℕ → List CodeBlock
  blocks p = (procedure_of ps p).blocks

  block_same : (p b : ℕ) → b < length (blocks p) → block_of (procedure_of qs p) b ≡ record (block_at (blocks p) b) { end = split_end (joins_of (blocks p)) (first_new (blocks p) b) (block_at (blocks p) b).end }
  block_same p b l = ap (λ pr. block_of pr b) (procedure_same ps p) ∙ split_at (blocks p) b l

  rest_same : (f : Frame) → Stands ps f → rest_of qs f ≡ rest_of ps f
  rest_same f s = ap (λ bl. drop f.at bl.ops) (block_same f.proc f.block s)

  end_same : (f : Frame) → Stands ps f → (block_of (procedure_of qs f.proc) f.block).end ≡ split_end (joins_of (blocks f.proc)) (first_new (blocks f.proc) f.block) (block_at (blocks f.proc) f.block).end
  end_same f s = ap (λ bl. bl.end) (block_same f.proc f.block s)

  params_same : (p to : ℕ) → to < length (blocks p) → (block_of (procedure_of qs p) to).params ≡ (block_at (blocks p) to).params
  params_same p to l = ap (λ bl. bl.params) (block_same p to l)

  -- a procedure with a block is there
  there : (p b : ℕ) → b < length (blocks p) → p < length ps
  there p b l = at_test (cases_lt p (length ps))
    where
      at_test : (p < length ps) ⊎ (length ps ≤ p) → p < length ps
      at_test (inl h) = h
      at_test (inr h) = let e = ap (λ pr. length pr.blocks) (get_or_past ps p no_procedure h) in absurd (omega (arith, e, l))

  ---- Steps of both are the same

  may_call_same : (p : ℕ) (args : List ℕ) → may_call qs p args ≡ may_call ps p args
  may_call_same p args = ap (λ n. nat_lt p n && ((procedure_of qs p).counted && nat_le (length (block_of (procedure_of qs p) 0).params) (length args))) (length-map ps split_procedure) ∙ at_test (nat_lt p (length ps)) refl
    where
      at_test : (t : Bool) → nat_lt p (length ps) ≡ t → (nat_lt p (length ps) && ((procedure_of qs p).counted && nat_le (length (block_of (procedure_of qs p) 0).params) (length args))) ≡ may_call ps p args
      at_test true e =
          let l : p < length ps = grind (arith, nat_tests, e) in
          ap (λ c. nat_lt p (length ps) && (c && nat_le (length (block_of (procedure_of qs p) 0).params) (length args))) (ap (λ pr. pr.counted) (procedure_same ps p))
          ∙ ap (λ xs. nat_lt p (length ps) && ((procedure_of ps p).counted && nat_le (length xs) (length args))) (params_same p 0 (fine p l).some)
      at_test false e = ap (λ t. t && ((procedure_of qs p).counted && nat_le (length (block_of (procedure_of qs p) 0).params) (length args))) e ∙ sym (ap (λ t. t && ((procedure_of ps p).counted && nat_le (length (block_of (procedure_of ps p) 0).params) (length args))) e)

  called_same : (p : Option ℕ) (args : List ℕ) (f : Frame) (fs : List Frame) (w : World) → called qs p args f fs w ≡ called ps p args f fs w
  called_same None args f fs w = refl
  called_same (Some p) args f fs w = ap (λ (t : Bool). let r : Step State Stop = cond t (Moves [] (Enters p args (f ∷ fs) w)) (Traps (Fault p)) in r) (may_call_same p args)

  operate_same : (op : Operation) (f : Frame) (fs : List Frame) (w : World) (e : Effect) → operate qs op f fs w e ≡ operate ps op f fs w e
  operate_same op f fs w (Gives x) = refl
  operate_same op f fs w (Does bytes after x) = refl
  operate_same op f fs w (Calls p args) = called_same p args f fs w
  operate_same op f fs w (Begins work) = refl
  operate_same op f fs w (Fails kind) = refl
  operate_same op f fs w (Faults at) = refl

  goes_back_same : (fs : List Frame) (w : World) (x : Option ℕ) → AllStand ps fs → goes_back qs fs w x ≡ goes_back ps fs w x
  goes_back_same [] w x s = refl
  goes_back_same (g ∷ gs) w x s = ap (λ rest. resumed rest g gs w x) (rest_same g s.0)

  abbrev entered : Procedure → List ℕ → ℕ → List ℕ → List Frame → World → Step State Stop
  entered pr xs p args fs w =
      cond (pr.counted && w.calls == 0) (Traps (Kind 8 p))
      (cond (nat_lt w.cells pr.cells) (Traps (Kind 9 p))
      (Moves [] (Runs (record { proc = p; block = 0; at = 0; values = set_all xs args (λ v. 0); args = args }) fs (taken pr w))))

  enter_same : (p : ℕ) (args : List ℕ) (fs : List Frame) (w : World) → p < length ps → enter qs p args fs w ≡ enter ps p args fs w
  enter_same p args fs w l =
      ap (λ pr. entered pr (block_of pr 0).params p args fs w) (procedure_same ps p)
      ∙ ap (λ xs. entered (procedure_of ps p) xs p args fs w) (ap (λ bl. bl.params) (split_at (blocks p) 0 (fine p l).some))

  ---- What comes behind a step stands inside

  answered_inside : (f : Frame) (fs : List Frame) (w : World) (d x : Option ℕ) → Stands ps f → AllStand ps fs → AfterInside ps (answered f fs w d x)
  answered_inside f fs w None x s t = (s, t)
  answered_inside f fs w (Some v) None s t = tt
  answered_inside f fs w (Some v) (Some x) s t = (s, t)

  resumed_inside : (rest : List Operation) (f : Frame) (fs : List Frame) (w : World) (x : Option ℕ) → Stands ps f → AllStand ps fs → AfterInside ps (resumed rest f fs w x)
  resumed_inside [] f fs w x s t = tt
  resumed_inside (op ∷ ops) f fs w x s t = answered_inside f fs w op.def x s t

  goes_back_inside : (fs : List Frame) (w : World) (x : Option ℕ) → AllStand ps fs → AfterInside ps (goes_back ps fs w x)
  goes_back_inside [] w x t = tt
  goes_back_inside (g ∷ gs) w x t = resumed_inside (rest_of ps g) g gs w x t.0 t.1

  enter_inside : (p : ℕ) (args : List ℕ) (fs : List Frame) (w : World) → p < length ps → AllStand ps fs → AfterInside ps (enter ps p args fs w)
  enter_inside p args fs w l t = at_test ((procedure_of ps p).counted && w.calls == 0) (nat_lt w.cells (procedure_of ps p).cells)
    where
      at_test : (a b : Bool) → AfterInside ps (cond a (Traps (Kind 8 p)) (cond b (Traps (Kind 9 p)) (Moves [] (Runs (first_frame (procedure_of ps p) p args) fs (taken (procedure_of ps p) w)))))
      at_test true b = tt
      at_test false true = tt
      at_test false false = ((fine p l).some, t)

  called_inside : (p : Option ℕ) (args : List ℕ) (f : Frame) (fs : List Frame) (w : World) → Stands ps f → AllStand ps fs → AfterInside ps (called ps p args f fs w)
  called_inside None args f fs w s t = tt
  called_inside (Some p) args f fs w s t = at_test (nat_lt p (length ps)) ((procedure_of ps p).counted && nat_le (length (block_of (procedure_of ps p) 0).params) (length args)) refl
    where
      at_test : (a b : Bool) → nat_lt p (length ps) ≡ a → AfterInside ps (cond (a && b) (Moves [] (Enters p args (f ∷ fs) w)) (Traps (Fault p)))
      at_test true true e = (grind (arith, nat_tests, e), (s, t))
      at_test true false e = tt
      at_test false b e = tt

  operate_inside : (op : Operation) (f : Frame) (fs : List Frame) (w : World) (e : Effect) → Stands ps f → AllStand ps fs → AfterInside ps (operate ps op f fs w e)
  operate_inside op f fs w (Gives x) s t = (s, t)
  operate_inside op f fs w (Does bytes after x) s t = (s, t)
  operate_inside op f fs w (Calls p args) s t = called_inside p args f fs w s t
  operate_inside op f fs w (Begins work) s t = (s, t)
  operate_inside op f fs w (Fails kind) s t = tt
  operate_inside op f fs w (Faults at) s t = tt

  moved_to_inside : (m : Option (List Area)) (to : ℕ) (on : Work) (f : Frame) (fs : List Frame) (w : World) → Stands ps f → AllStand ps fs → AfterInside ps (moved_to m to on f fs w)
  moved_to_inside None to on f fs w s t = tt
  moved_to_inside (Some m) to on f fs w s t = (s, t)

  moved_inside : (store : ℕ → ℕ → Option (List Area)) (from : ℕ) (x : Option ℕ) (to : ℕ) (on : Work) (f : Frame) (fs : List Frame) (w : World) → Stands ps f → AllStand ps fs → AfterInside ps (moved store from x to on f fs w)
  moved_inside store from None to on f fs w s t = tt
  moved_inside store from (Some x) to on f fs w s t = moved_to_inside (store to x) to on f fs w s t

  either_inside : (b : Bool) (one other : Step State Stop) → AfterInside ps one → AfterInside ps other → AfterInside ps (cond b one other)
  either_inside true one other a b = a
  either_inside false one other a b = b

  compared_inside : (rest : List Operation) (x m y n done : ℕ) (f : Frame) (fs : List Frame) (w : World) (a b : Option ℕ) → Stands ps f → AllStand ps fs → AfterInside ps (compared rest x m y n done f fs w a b)
  compared_inside rest x m y n done f fs w None b s t = tt
  compared_inside rest x m y n done f fs w (Some a) None s t = tt
  compared_inside rest x m y n done f fs w (Some a) (Some b) s t = either_inside (a == b && nat_lt 0 a) (Moves [] (Works (CompareCell x m y n (add64 done char_bytes)) f fs w)) _ (s, t) (resumed_inside rest f fs w _ s t)

  work_inside : (rest : List Operation) (work : Work) (f : Frame) (fs : List Frame) (w : World) → Stands ps f → AllStand ps fs → AfterInside ps (work_on rest work f fs w)
  work_inside rest (CopyHead to from bytes) f fs w s t = (s, t)
  work_inside rest (CopyCell to from bytes done) f fs w s t = either_inside (nat_lt bytes (add64 done 8)) (Moves [] (Works (CopyTail to from bytes done) f fs w)) (moved (store8 w.memory) (add64 from done) (load8 w.memory (add64 from done)) (add64 to done) (CopyCell to from bytes (add64 done 8)) f fs w)
      (s, t) (moved_inside (store8 w.memory) (add64 from done) (load8 w.memory (add64 from done)) (add64 to done) (CopyCell to from bytes (add64 done 8)) f fs w s t)
  work_inside rest (CopyTail to from bytes done) f fs w s t = either_inside (nat_le bytes done) (resumed rest f fs w None) (moved (store1 w.memory) (add64 from done) (load1 w.memory (add64 from done)) (add64 to done) (CopyTail to from bytes (add64 done 1)) f fs w)
      (resumed_inside rest f fs w None s t) (moved_inside (store1 w.memory) (add64 from done) (load1 w.memory (add64 from done)) (add64 to done) (CopyTail to from bytes (add64 done 1)) f fs w s t)
  work_inside rest (ZeroHead to bytes) f fs w s t = (s, t)
  work_inside rest (ZeroCell to bytes done) f fs w s t = either_inside (nat_le bytes done) (resumed rest f fs w None) (moved_to (store8 w.memory (add64 to done) 0) (add64 to done) (ZeroCell to bytes (add64 done 8)) f fs w)
      (resumed_inside rest f fs w None s t) (moved_to_inside (store8 w.memory (add64 to done) 0) (add64 to done) (ZeroCell to bytes (add64 done 8)) f fs w s t)
  work_inside rest (CompareHead x m y n) f fs w s t = (s, t)
  work_inside rest (CompareCell x m y n done) f fs w s t = compared_inside rest x m y n done f fs w (char_at w.memory x m done) (char_at w.memory y n done) s t

  begin_inside : (j : ℕ) (o : Option ℕ) (w : World) → slice_get (bodies ps) j ≡ o → AfterInside ps (begin o w)
  begin_inside j None w e = tt
  begin_inside j (Some p) w e = let l = body_below 0 ps j p e in let m : p < length ps = omega (arith, l) in (m, tt)

  ---- One step

  abbrev Carried : State → Step State Stop → Type 0
  Carried s r = CarriesStep (block_system qs code) (least ps) (least qs) (flow_points ps) (SameState ps) (λ (u v : Stop). u ≡ v) (point s) s r

  -- a step that both make
  carried_same : (s : State) (r : Step State Stop) → step qs code s ≡ r → AfterInside ps r → least ps (point s) ≤ least qs (point s) → Carried s r
  carried_same s (Moves w t) e i l = record { after = t; passed = point s ∷ []; walk = Walk-one (block_system qs code) s t w e; similar = record { same = refl; inside = i }; within = λ h. point_within ps (point s) h; enough = omega (arith, l) }
  carried_same s Ends e i l = record { stop = s; passed = []; walk = (refl, refl); halts = e; within = λ h. point_within ps (point s) h }
  carried_same s (Traps trap) e i l = (trap, refl, record { stop = s; passed = []; walk = (refl, refl); halts = e; within = λ h. point_within ps (point s) h })

  frame_least : (f : Frame) → Stands ps f → least ps (In f.proc f.block f.at) ≤ least qs (In f.proc f.block f.at)
  frame_least f s =
      let e : least qs (In f.proc f.block f.at) ≡ least ps (In f.proc f.block f.at) =
      ap (λ bl. rest_least (drop f.at bl.ops) bl.end) (block_same f.proc f.block s)
      ∙ rest_least_same (joins_of (blocks f.proc)) (first_new (blocks f.proc) f.block) (drop f.at (block_at (blocks f.proc) f.block).ops) (block_at (blocks f.proc) f.block).end in
      omega (arith, e)

  ---- The edges of a test

  abbrev split_of : Frame → List ℕ
  split_of f = split_targets (joins_of (blocks f.proc)) (block_at (blocks f.proc) f.block).end

  -- from a new node the flow goes on to where the edge led
  new_node_moves : (f : Frame) (fs : List Frame) (w : World) (values : ℕ → ℕ) (i : ℕ) → i < length (split_of f)
      → step qs code (Runs (at_block f (first_new (blocks f.proc) f.block + i) values) fs w) ≡ Moves [] (Runs (at_block f (get_or (split_of f) i 0) values) fs w)
  new_node_moves f fs w values i l =
      let n = first_new (blocks f.proc) f.block + i in
      let g = at_block f n values in
      let to = get_or (split_of f) i 0 in
      let e : block_of (procedure_of qs f.proc) n ≡ edge_block to = ap (λ pr. block_of pr n) (procedure_same ps f.proc) ∙ new_node (blocks f.proc) f.block i l in
      ap (λ rest. perform qs code rest g fs w) (ap (λ bl. bl.ops) e)
      ∙ (ap (λ end. leave qs end g fs w) (ap (λ bl. bl.end) e)
      ∙ ap (λ V. let r : Step State Stop = Moves [] (Runs (at_block f to V) fs w) in r) (no_arguments (block_of (procedure_of qs f.proc) to).params values))

  edge_carried : (f : Frame) (fs : List Frame) (w : World) (to to' : ℕ) → Stands ps f → AllStand ps fs → rest_of ps f ≡ [] → to < length (blocks f.proc) → IsEdge (split_of f) (first_new (blocks f.proc) f.block) to to'
      → step qs code (Runs f fs w) ≡ Moves [] (Runs (at_block f to' f.values) fs w) → Carried (Runs f fs w) (Moves [] (Runs (at_block f to f.values) fs w))
  edge_carried f fs w to to' s t r l (inl e) m =
      carried_same (Runs f fs w) (Moves [] (Runs (at_block f to f.values) fs w)) (m ∙ ap (λ b. let r : Step State Stop = Moves [] (Runs (at_block f b f.values) fs w) in r) e) (l, t) (frame_least f s)
  edge_carried f fs w to to' s t r l (inr (i, k, e, g)) m = record {
    after = Runs (at_block f to f.values) fs w;
    passed = In f.proc f.block f.at ∷ In f.proc to' 0 ∷ [];
    walk = Walk-cons (block_system qs code) (In f.proc to' 0 ∷ []) (Runs f fs w) (Runs (at_block f to' f.values) fs w) (Runs (at_block f to f.values) fs w) [] [] m
        (Walk-one (block_system qs code) (Runs (at_block f to' f.values) fs w) (Runs (at_block f to f.values) fs w) [] onward);
    similar = record { same = refl; inside = (l, t) };
    within = two_within;
    enough = let a = frame_least f s in omega (arith, a);
  }
    where
      onward : step qs code (Runs (at_block f to' f.values) fs w) ≡ Moves [] (Runs (at_block f to f.values) fs w)
      onward = ap (λ b. step qs code (Runs (at_block f b f.values) fs w)) e ∙ (new_node_moves f fs w f.values i k ∙ ap (λ b. let r : Step State Stop = Moves [] (Runs (at_block f b f.values) fs w) in r) g)

      two_within : Within (flow_points ps (In f.proc f.block f.at)) (In f.proc f.block f.at ∷ In f.proc to' 0 ∷ [])
      two_within h =
          let p = weigh_place h (λ n. In f.proc n 0) (first_new (blocks f.proc) f.block) (length (split_of f)) i k in
          let q = ap (λ b. h (In f.proc b 0)) e in
          let z = ap (λ rest. weigh h (at_end rest (new_points f.proc (blocks f.proc) f.block))) r in
          omega (arith, p, q, z)

  ---- All steps

  targets_there : (f : Frame) → Stands ps f → AllBelow (length (blocks f.proc)) (successors (block_at (blocks f.proc) f.block).end)
  targets_there f s =
      all_below_each (length (blocks f.proc)) (successors (block_at (blocks f.proc) f.block).end)
      (all_at (λ bl. all_below (length (blocks f.proc)) (successors bl.end)) (blocks f.proc) f.block (block_at (blocks f.proc) f.block) (fine f.proc (there f.proc f.block s)).leads s (get_or_default (blocks f.proc) f.block no_block (block_at (blocks f.proc) f.block) s))

  abbrev ended : Frame → End → List Frame → World → Step State Stop
  ended f e fs w = leave qs (split_end (joins_of (blocks f.proc)) (first_new (blocks f.proc) f.block) e) f fs w

  either_below : (n one other : ℕ) (c : Bool) → one < n → other < n → cond c one other < n
  either_below n one other true a b = a
  either_below n one other false a b = b

  test_carried : (f : Frame) (fs : List Frame) (w : World) (e : End) (one other : ℕ) (c : Bool) → Stands ps f → AllStand ps fs → rest_of ps f ≡ [] → (block_at (blocks f.proc) f.block).end ≡ e → split_targets (joins_of (blocks f.proc)) e ≡ filter (is_join (joins_of (blocks f.proc))) (one ∷ other ∷ []) → successors e ≡ one ∷ other ∷ []
      → step qs code (Runs f fs w) ≡ Moves [] (Runs (at_block f (cond c (redirected (joins_of (blocks f.proc)) (first_new (blocks f.proc) f.block) one) (redirected (joins_of (blocks f.proc)) (behind (joins_of (blocks f.proc)) (first_new (blocks f.proc) f.block) one) other)) f.values) fs w)
      → Carried (Runs f fs w) (Moves [] (Runs (at_block f (cond c one other) f.values) fs w))
  test_carried f fs w e one other c s t r is split to m =
      let j = joins_of (blocks f.proc) in
      let next = first_new (blocks f.proc) f.block in
      let two = two_edges j next one other in
      let edge = taken_edge (filter (is_join j) (one ∷ other ∷ [])) next one other (redirected j next one) (redirected j (behind j next one) other) c two.0 two.1 in
      let b = subst (AllBelow (length (blocks f.proc))) (ap successors is ∙ to) (targets_there f s) in
      edge_carried f fs w (cond c one other) (cond c (redirected j next one) (redirected j (behind j next one) other)) s t r (either_below (length (blocks f.proc)) one other c b.0 b.1.0)
      (subst (λ xs. IsEdge xs next (cond c one other) (cond c (redirected j next one) (redirected j (behind j next one) other))) (sym (ap (split_targets j) is ∙ split)) edge) m

  end_carried : (f : Frame) (fs : List Frame) (w : World) (e : End) → Stands ps f → AllStand ps fs → rest_of ps f ≡ [] → (block_at (blocks f.proc) f.block).end ≡ e → step qs code (Runs f fs w) ≡ ended f e fs w → Carried (Runs f fs w) (leave ps e f fs w)
  end_carried f fs w (Jump to args) s t r is m =
      let b = subst (AllBelow (length (blocks f.proc))) (ap successors is) (targets_there f s) in
      carried_same (Runs f fs w) (leave ps (Jump to args) f fs w) (m ∙ ap (λ xs. let q : Step State Stop = Moves [] (Runs (at_block f to (set_all xs (map f.values args) f.values)) fs w) in q) (params_same f.proc to b.0)) (b.0, t) (frame_least f s)
  end_carried f fs w (Branch k a b one other) s t r is m = test_carried f fs w (Branch k a b one other) one other (compares k (f.values a) (f.values b)) s t r is refl refl m
  end_carried f fs w (Nonzero a one other) s t r is m = nonzero (f.values a == 0) refl
    where
      nonzero : (z : Bool) → (f.values a == 0) ≡ z → Carried (Runs f fs w) (leave ps (Nonzero a one other) f fs w)
      nonzero z e =
          let j = joins_of (blocks f.proc) in
          let next = first_new (blocks f.proc) f.block in
          let turned : (b : Bool) (x y : ℕ) → cond b y x ≡ cond (not b) x y = λ b x y. elim b as (λ v. cond v y x ≡ cond (not v) x y) [ true ↦ refl | false ↦ refl ] in
          subst (λ n. Carried (Runs f fs w) (Moves [] (Runs (at_block f n f.values) fs w))) (sym (turned (f.values a == 0) one other))
          (test_carried f fs w (Nonzero a one other) one other (not (f.values a == 0)) s t r is refl refl
          (m ∙ ap (λ n. let q : Step State Stop = Moves [] (Runs (at_block f n f.values) fs w) in q) (turned (f.values a == 0) (redirected j next one) (redirected j (behind j next one) other))))
  end_carried f fs w (Return a) s t r is m =
      carried_same (Runs f fs w) (leave ps (Return a) f fs w) (m ∙ (ap (λ pr. goes_back qs fs (freed pr w) (option_map f.values a)) (procedure_same ps f.proc) ∙ goes_back_same fs (freed (procedure_of ps f.proc) w) (option_map f.values a) t)) (goes_back_inside fs (freed (procedure_of ps f.proc) w) (option_map f.values a) t) (frame_least f s)
  end_carried f fs w (Trap kind) s t r is m = carried_same (Runs f fs w) (leave ps (Trap kind) f fs w) m tt (frame_least f s)

  runs_carried : (f : Frame) (fs : List Frame) (w : World) (rest : List Operation) → Stands ps f → AllStand ps fs → rest_of ps f ≡ rest → Carried (Runs f fs w) (perform ps code rest f fs w)
  runs_carried f fs w [] s t r =
      end_carried f fs w (block_at (blocks f.proc) f.block).end s t r refl
      (ap (λ rest. perform qs code rest f fs w) (rest_same f s ∙ r) ∙ ap (λ e. leave qs e f fs w) (end_same f s))
  runs_carried f fs w (op ∷ ops) s t r =
      let e = effect_of code (length ps) f.args w op.code (map f.values op.uses) in
      carried_same (Runs f fs w) (operate ps op f fs w e)
      (ap (λ rest. perform qs code rest f fs w) (rest_same f s ∙ r) ∙ (ap (λ n. operate qs op f fs w (effect_of code n f.args w op.code (map f.values op.uses))) (length-map ps split_procedure) ∙ operate_same op f fs w e))
      (operate_inside op f fs w e s t) (frame_least f s)

  pub carried : (s : State) → Inside ps s → Carried s (step ps code s)
  carried (Starts w) i = carried_same (Starts w) (begin (slice_get (bodies ps) w.body) w) (ap (λ bs. begin (slice_get bs w.body) w) (bodies_same 0 ps)) (begin_inside w.body (slice_get (bodies ps) w.body) w refl) (omega arith)
  carried (Enters p args fs w) i = carried_same (Enters p args fs w) (enter ps p args fs w) (enter_same p args fs w i.0) (enter_inside p args fs w i.0 i.1) (omega arith)
  carried (Runs f fs w) i = runs_carried f fs w (rest_of ps f) i.0 i.1 refl
  carried (Works work f fs w) i = carried_same (Works work f fs w) (work_on (rest_of ps f) work f fs w) (ap (λ r. work_on r work f fs w) (rest_same f i.0)) (work_inside (rest_of ps f) work f fs w i.0 i.1) (omega arith)

  pub carries : CarriesBy (block_system ps code) (block_system qs code) (least ps) (least qs) (flow_points ps) (SameState ps) (λ (u v : Stop). u ≡ v)
  carries = record { each = λ s a sim. subst (λ t. CarriesStep (block_system qs code) (least ps) (least qs) (flow_points ps) (SameState ps) (λ (u v : Stop). u ≡ v) (point s) t (step ps code s)) sim.same (carried s sim.inside) }
