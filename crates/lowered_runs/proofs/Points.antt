-- The points of lowered procedures: those of the pieces, each once.
use Rattle.std.proofs.Common.{◌≡◌, ℕ, zero, suc, ◌+◌, ◌≤◌, List, [], ◌∷◌, ◌++◌, map, length, Bool, true, false, not, slice_get, refl, sym, ap, ap₂, ◌∙◌, subst, arith, Some, length-append}
use Rattle.std.specs.Prelude.{slice_index_or, if◌then◌else◌}
use Rattle.run_laws.specs.Runs.{weigh}
use Rattle.run_laws.specs.Layers.{places_from, points_of_all}
use Rattle.run_laws.proofs.Layers.{places_from-append}
use Rattle.run_laws.proofs.Weights.{weigh-append, weigh-map}
use Rattle.block_runs.specs.declared.end.End.{End}
use Rattle.block_runs.specs.declared.end.End.TheVariants.{Return}
use Rattle.block_runs.specs.Blocks.{procedure_of, bodies_from}
use Rattle.block_runs.specs.States.{Point, Entry, In}
use Rattle.block_runs.specs.Points.{block_points, procedure_points}
use Rattle.ob_types.specs.declared.program.Program.{Program}
use Rattle.ob_types.specs.declared.program.Procedure.{Procedure as Declared}
use Rattle.ob_types.specs.Meaning.{procedure_of as declared_of}
use Rattle.ssa_core.specs.declared.procedure.Op.{Op}
use Rattle.ssa_core.specs.Procedures.{operation_of, code_block, code_blocks, procedure, procedures}
use Rattle.ssa_lowered.specs.Data.{Layout}
use Rattle.ssa_lowered.specs.Pieces.{Start, Piece, Appends, Closes, blocks_of}
use Rattle.ssa_lowered.specs.Variables.{words_of}
use Rattle.ssa_lowered.specs.Lowered.{here_of, zeroed_bytes, at_entry, entry, made_of, proc_of, procs_from}
use Rattle.ssa_lowered.proofs.Linear.{Linear, line_whole}
use Rattle.lowered_runs.proofs.Standing.{bulk}

early : ℕ → ℕ → ℕ → (Point → ℕ) → ℕ
early q b n h = weigh h (map (In q b) (places_from 0 n))

early_more : (q b n : ℕ) (h : Point → ℕ) → early q b (suc n) h ≡ early q b n h + h (In q b n)
unfolding early
early_more q b n h =
    let e : n + 1 ≡ suc n = omega arith in
    let f : 0 + n ≡ n = omega arith in
    let g = weigh-map h (In q b) (places_from 0 (suc n)) in
    let k = ap (weigh (λ i. h (In q b i))) (ap (places_from 0) (sym e) ∙ sym (places_from-append 0 n 1)) in
    let m = weigh-append (λ i. h (In q b i)) (places_from 0 n) (places_from (0 + n) 1) in
    let o = weigh-map h (In q b) (places_from 0 n) in
    let z = ap (λ i. h (In q b i)) f in
    omega (arith, g, k, m, o, z)

early_none : (q b : ℕ) (h : Point → ℕ) → early q b 0 h ≡ 0
unfolding early
early_none q b h = refl

early_is : (q b n : ℕ) (h : Point → ℕ) → early q b n h ≡ weigh h (map (In q b) (places_from 0 n))
unfolding early
early_is q b n h = refl

map_length : (ops : List Op) → length (map operation_of ops) ≡ length ops
map_length [] = refl
map_length (op ∷ ops) = ap suc (map_length ops)

length_snoc : (ops : List Op) (op : Op) → length (ops ++ op ∷ []) ≡ suc (length ops)
length_snoc ops op = let e = length-append ops (op ∷ []) in omega (arith, e)

block_weight : (q b : ℕ) (s : Start) (ops : List Op) (end : End) (h : Point → ℕ) → weigh h (block_points q b (code_block (record { params = s.params; ops = ops; end = end; freq = s.freq; enter = s.enter }))) ≡ early q b (length ops) h + h (In q b (length ops))
block_weight q b s ops end h =
    let e = ap (λ n. weigh h (map (In q b) (places_from 0 (suc n)))) (map_length ops) in
    e ∙ sym (early_is q b (suc (length ops)) h) ∙ early_more q b (length ops) h

-- the points of the blocks that pieces make are those of the pieces, and the last end's
weigh_blocks : (q : ℕ) (last : End) (h : Point → ℕ) (b : ℕ) (s : Start) (ops : List Op) (ps : List Piece) (c j : ℕ) → Linear b (length ops) ps c j → weigh h (points_of_all (block_points q) b (code_blocks (blocks_of s ops last ps))) ≡ early q b (length ops) h + (bulk q ps h + h (In q c j))
weigh_blocks q last h b s ops [] c j line =
    let e = weigh-append h (block_points q b (code_block (record { params = s.params; ops = ops; end = last; freq = s.freq; enter = s.enter }))) [] in
    let f = block_weight q b s ops last h in
    let g = ap₂ (λ x y. h (In q x y)) line.0 line.1 in
    omega (arith, e, f, g)
weigh_blocks q last h b s ops (Appends at k op ∷ ps) c j line =
    let e = weigh_blocks q last h b s (ops ++ op ∷ []) ps c j (subst (λ n. Linear b n ps c j) (sym (length_snoc ops op)) line.2) in
    let f = ap (λ n. early q b n h) (length_snoc ops op) in
    let g = early_more q b (length ops) h in
    let k2 = ap₂ (λ x y. h (In q x y)) line.0 line.1 in
    omega (arith, e, f, g, k2)
weigh_blocks q last h b s ops (Closes at k end next ∷ ps) c j line =
    let e = weigh_blocks q last h (suc b) next [] ps c j line.2 in
    let f = early_none q (suc b) h in
    let a = weigh-append h (block_points q b (code_block (record { params = s.params; ops = ops; end = end; freq = s.freq; enter = s.enter }))) (points_of_all (block_points q) (suc b) (code_blocks (blocks_of next [] last ps))) in
    let g = block_weight q b s ops end h in
    let k2 = ap₂ (λ x y. h (In q x y)) line.0 line.1 in
    omega (arith, e, f, a, g, k2)

-- all points of a procedure: its entry, its pieces', its return
abbrev pub whole_weight : Program → Layout → ℕ → Declared → (Point → ℕ) → ℕ
whole_weight p l f q h = h (Entry f) + (bulk f (made_of p l f q).pieces h + h (In f (made_of p l f q).after.block (made_of p l f q).after.op))

pub procedure_weight : (p : Program) (l : Layout) (f : ℕ) (q : Declared) (h : Point → ℕ) → weigh h (procedure_points f (procedure (proc_of p l f q))) ≡ whole_weight p l f q h
procedure_weight p l f q h =
    let words = words_of q.formals in
    let e = weigh_blocks f (Return (made_of p l f q).result) h 0 (entry words) [] (made_of p l f q).pieces (made_of p l f q).after.block (made_of p l f q).after.op (line_whole p l (here_of p l f q) words (zeroed_bytes p l q) (at_entry words)).by in
    let g = early_none f 0 h in
    omega (arith, e, g)

-- the procedure of a number
pub procedure_at : (p : Program) (l : Layout) (f : ℕ) (qs : List Declared) (i : ℕ) (q : Declared) → slice_get qs i ≡ Some q → procedure_of (procedures (procs_from p l f qs)) i ≡ procedure (proc_of p l (f + i) q)
procedure_at p l f [] i q e = absurd (cc)
procedure_at p l f (r ∷ qs) zero q e = let z : f ≡ f + 0 = omega arith in ap₂ (λ n x. procedure (proc_of p l n x)) z (one e)
  where
    one : Some r ≡ Some q → r ≡ q
    one e = cc
procedure_at p l f (r ∷ qs) (suc i) q e = let z : suc f + i ≡ f + suc i = omega arith in procedure_at p l (suc f) qs i q e ∙ ap (λ n. procedure (proc_of p l n q)) z

-- the points of one procedure are among those of all
pub one_within : (p : Program) (l : Layout) (f : ℕ) (qs : List Declared) (i : ℕ) (q : Declared) (h : Point → ℕ) → slice_get qs i ≡ Some q → whole_weight p l (f + i) q h ≤ weigh h (points_of_all procedure_points f (procedures (procs_from p l f qs)))
one_within p l f [] i q h e = absurd (cc)
one_within p l f (r ∷ qs) zero q h e =
    let z : f ≡ f + 0 = omega arith in
    let a = weigh-append h (procedure_points f (procedure (proc_of p l f r))) (points_of_all procedure_points (suc f) (procedures (procs_from p l (suc f) qs))) in
    let b = procedure_weight p l f r h in
    let c = ap₂ (λ n x. whole_weight p l n x h) z (one e) in
    omega (arith, a, b, c)
  where
    one : Some r ≡ Some q → r ≡ q
    one e = cc
one_within p l f (r ∷ qs) (suc i) q h e =
    let z : suc f + i ≡ f + suc i = omega arith in
    let a = weigh-append h (procedure_points f (procedure (proc_of p l f r))) (points_of_all procedure_points (suc f) (procedures (procs_from p l (suc f) qs))) in
    let b = one_within p l (suc f) qs i q h e in
    let c = ap (λ n. whole_weight p l n q h) z in
    omega (arith, a, b, c)

-- and those of all bodies together
abbrev pub bodies_weight : Program → Layout → (Point → ℕ) → List ℕ → ℕ
bodies_weight p l h [] = 0
bodies_weight p l h (f ∷ fs) = whole_weight p l f (declared_of p f) h + bodies_weight p l h fs

one_if_body : (p : Program) (l : Layout) (h : Point → ℕ) (f : ℕ) (more : List ℕ) (b : Bool) → bodies_weight p l h (if not b then more else (f ∷ more)) ≤ whole_weight p l f (declared_of p f) h + bodies_weight p l h more
one_if_body p l h f more true = omega arith
one_if_body p l h f more false = omega arith

pub bodies_within : (p : Program) (l : Layout) (f : ℕ) (qs : List Declared) (h : Point → ℕ) → ((i : ℕ) (q : Declared) → slice_get qs i ≡ Some q → declared_of p (f + i) ≡ q)
    → bodies_weight p l h (bodies_from f (procedures (procs_from p l f qs))) ≤ weigh h (points_of_all procedure_points f (procedures (procs_from p l f qs)))
bodies_within p l f [] h are = omega arith
bodies_within p l f (r ∷ qs) h are =
    let z : f + 0 ≡ f = omega arith in
    let a = weigh-append h (procedure_points f (procedure (proc_of p l f r))) (points_of_all procedure_points (suc f) (procedures (procs_from p l (suc f) qs))) in
    let b = procedure_weight p l f r h in
    let c = bodies_within p l (suc f) qs h (λ i q e. let y : suc f + i ≡ f + suc i = omega arith in ap (declared_of p) y ∙ are (suc i) q e) in
    let d = ap (λ q. whole_weight p l f q h) (ap (declared_of p) (sym z) ∙ are 0 r refl) in
    let e = one_if_body p l h f (bodies_from (suc f) (procedures (procs_from p l (suc f) qs))) r.is_body in
    omega (arith, a, b, c, d, e)

pub declared_at : (p : Program) (qs : List Declared) (i : ℕ) (q : Declared) (none : Declared) → slice_get qs i ≡ Some q → slice_index_or qs i none ≡ q
declared_at p [] i q none e = absurd (cc)
declared_at p (r ∷ qs) zero q none e = one e
  where
    one : Some r ≡ Some q → r ≡ q
    one e = cc
declared_at p (r ∷ qs) (suc i) q none e = declared_at p qs i q none e
