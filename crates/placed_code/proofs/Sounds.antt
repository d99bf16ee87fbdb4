-- Sound results are a sound placement, whoever made them.
use Rattle.std.proofs.Common.{◌≡◌, ℕ, zero, suc, ◌+◌, ◌<◌, ◌≤◌, ◌^◌, ◌==◌, ◌&&◌, ◌||◌, ⊎_elim, List, [], ◌∷◌, ◌++◌, map, length, get_or, min, Bool, true, false, cond, Some, None, refl, arith, sym, ap, ◌∙◌, subst, eq-eqb}
use Rattle.std.specs.Prelude.{nat_lt}
use Rattle.std.specs.List.{list_all}
use Rattle.std.proofs.lemmas.Bool.{ltb-true}
use Rattle.std.proofs.lemmas.Bool.Decides.{eqb_tells, nat_tests}
use Rattle.std.proofs.lemmas.List.{append-nil}
use Rattle.a64_machine.proofs.Steps.{AllInRange}
use Rattle.block_runs.specs.declared.end.End.{End}
use Rattle.block_runs.specs.declared.end.End.TheVariants.{Jump, Branch, Nonzero, Return, Trap}
use Rattle.block_runs.specs.Blocks.{Operation, CodeBlock, Procedure, block_at, no_block, successors}
use Rattle.block_runs.specs.Blocks as flow
use Rattle.block_runs.specs.Live.{has}
use Rattle.block_runs.specs.Valid.{operation_fits, condition_fits, all_below, times, made}
use Rattle.block_runs.specs.Steps.{set_all, define, first_values}
use Rattle.lir_core.specs.declared.flow.Flow.{Flow}
use Rattle.lir_core.specs.declared.places.Move.{Move}
use Rattle.lir_core.specs.Flows.{code_node, code_nodes}
use Rattle.lir_core.specs.Flows as flows
use Rattle.lir_core.specs.Spots.{Spot, reg, home, out, target, saved, view_of, Holds}
use Rattle.lir_core.specs.Lines.{end_reads, slots_of}
use Rattle.lir_core.specs.Sound.{IsSoundNode, room_of}
use Rattle.placed_code.specs.Placed.{Copy, Cell, Block, Placed, all_copied, procedure, no_procedure, proc_of, block_of, def_register}
use Rattle.placed_code.specs.Placed as placed_types
use Rattle.placed_code.specs.Words.{frame_of}
use Rattle.placed_code.specs.Layout.{all_words}
use Rattle.placed_code.specs.Claims.{AllNamed, HomesFit, EndFits, Ordered, Lands}
use Rattle.placed_code.specs.Results.{Part, Allocated, last_copies, last_named, left_by, placed_block, part_of, placed_blocks, placed, all_placed, IsSequence, carried_by, entry_places, IsSoundResult, AreSoundResults}
use Rattle.placed_code.proofs.Steps.{params_of}
use Rattle.placed_code.proofs.Relation.{Leaves}
use Rattle.placed_code.proofs.Linking.{nth, get_of_drop, linked, Follows, ProcOk, Sound}
use Rattle.placed_code.proofs.Follows.{Agree, holds_agree, all_copied-append, Finds, Final, finds}
use Rattle.placed_code.proofs.Homes.{touched, touched_cells, touched_blocks, or_left, or_right, touched_body, touched_last}
use Rattle.placed_code.proofs.Parts.{length_map, get_mapped, all_at, procedure_is, length_blocks, block_is, registers_fit, last_below, slots_at, OpsOk, ops_ok, CellsOk, homes_fit, named, last_range, left_range, both_range, cells_ok}
use Rattle.placed_code.proofs.Entering.{set_argument, parameter_is}

abbrev no_flow : Flow
no_flow = record { nodes = []; values = 0; args = 0; counted = false; local_cells = 0; local_bytes = 0 }

abbrev no_result : Allocated
no_result = record { flow = no_flow; first = []; parts = []; order = [] }

-- the result of a procedure, and the part of a node of it
abbrev result_of : List Allocated → ℕ → Allocated
result_of rs p = get_or rs p no_result

abbrev node : List Allocated → ℕ → ℕ → Part
node rs p b = part_of (result_of rs p).parts b

abbrev code_of_result : List Allocated → ℕ → List CodeBlock
code_of_result rs p = code_nodes (result_of rs p).flow.nodes

-- a register named for an end contains the number of its use
use_at : (f V : ℕ → ℕ) (named last : List ℕ) → map f named ≡ map V last → (i : ℕ) → i < length last → f (get_or named i 0) ≡ V (get_or last i 0)
use_at f V [] [] e i l = absurd (omega (arith, l))
use_at f V [] (v ∷ last) e i l = cc
use_at f V (r ∷ named) [] e i l = absurd (omega (arith, l))
use_at f V (r ∷ named) (v ∷ last) e zero l = cc
use_at f V (r ∷ named) (v ∷ last) e (suc i) l = let rest : map f named ≡ map V last = cc in use_at f V named last rest i (omega (arith, l))

first_of_two : (a b : ℕ) → has (a ∷ b ∷ []) a ≡ true
first_of_two a b = ap (λ t. cond t true (has (b ∷ []) a)) (eq-eqb a a refl)

second_of_two : (a b : ℕ) → has (a ∷ b ∷ []) b ≡ true
second_of_two a b = by_test (a == b)
  where
    by_test : (t : Bool) → cond t true (cond (b == b) true false) ≡ true
    by_test true = refl
    by_test false = ap (λ t. cond t true false) (eq-eqb b b refl)

below_of : (n : ℕ) (xs : List ℕ) (v : ℕ) → all_below n xs ≡ true → has xs v ≡ true → v < n
below_of n [] v h l = cc
below_of n (x ∷ xs) v h l = by_test (x == v) refl (nat_lt x n) refl h l (below_of n xs v)
  where
    by_test : (b : Bool) → (x == v) ≡ b → (d : Bool) → nat_lt x n ≡ d → (d && all_below n xs) ≡ true → cond b true (has xs v) ≡ true → (all_below n xs ≡ true → has xs v ≡ true → v < n) → v < n
    by_test b e false g h l on = cc
    by_test true e true g h l on = let same = ⊎_elim (λ t. t.1) (λ f. let wrong = f.0 in cc) (eqb_tells x v) in let t = ltb-true x n g in subst (λ m. m < n) same t
    by_test false e true g h l on = on h l

module _ (k frame : ℕ) (few_regs : k ≤ 16) (steps : List Move → List Copy) (sequence : IsSequence steps) (rs : List Allocated) (sound : AreSoundResults k frame steps rs) where
  abbrev pub ps : List Placed
  ps = all_placed steps rs

  length_ps : length ps ≡ length rs
  length_ps = length_map (placed steps) rs

  known : (p : ℕ) → p < length ps → p < length rs
  known p l = let e = length_ps in omega (arith, e, l)

  is_sound : (p : ℕ) → p < length rs → IsSoundResult k frame steps (result_of rs p)
  is_sound p l = let t = nth rs p l in let e = get_of_drop rs p no_result t.item t.rest t.drops in subst (λ (r : Allocated). IsSoundResult k frame steps r) (sym e) (sound p t.item t.rest t.drops)

  proc_is : (p : ℕ) → p < length rs → placed steps (result_of rs p) ≡ proc_of ps p
  proc_is p l = sym (get_mapped (placed steps) rs p no_procedure no_result l)

  pub orders : (q : ℕ) → q < length ps → Ordered (proc_of ps q)
  orders q l = subst (λ (pr : Placed). Ordered pr) (proc_is q (known q l)) (is_sound q (known q l)).ordered

  count_nodes : (p : ℕ) → length (code_of_result rs p) ≡ length (result_of rs p).flow.nodes
  count_nodes p = length_map code_node (result_of rs p).flow.nodes

  -- the copies at a block's head take what stands there to its start places
  pub record Begins (p b : ℕ) (V : ℕ → ℕ) (c : Spot → ℕ) : Type 0 where
    pub procedure : p < length rs
    pub block : b < length (result_of rs p).flow.nodes
    pub holds : Holds V (view_of (node rs p b).start) (all_copied (node rs p b).into c)

  -- the blocks of a procedure
  block_here : (p b : ℕ) → p < length rs → b < length (result_of rs p).flow.nodes → block_of (proc_of ps p) b ≡ placed_block steps (block_at (code_of_result rs p) b) (node rs p b)
  block_here p b l m =
      let n = count_nodes p in
      let z : 0 + b ≡ b = omega arith in
      ap (λ (pr : Placed). block_of pr b) (sym (proc_is p l))
      ∙ block_is steps 0 (code_of_result rs p) (result_of rs p).parts b (omega (arith, n, m))
      ∙ ap (λ j. placed_block steps (block_at (code_of_result rs p) b) (part_of (result_of rs p).parts j)) z

  flow_is : (p : ℕ) → p < length rs → procedure (proc_of ps p) ≡ flows.procedure (result_of rs p).flow
  flow_is p l = ap (λ (pr : Placed). procedure pr) (sym (proc_is p l)) ∙ procedure_is steps (result_of rs p)

  block_count : (p : ℕ) → p < length rs → length (proc_of ps p).blocks ≡ length (result_of rs p).flow.nodes
  block_count p l = ap (λ (pr : Placed). length pr.blocks) (sym (proc_is p l)) ∙ length_blocks steps 0 (code_of_result rs p) (result_of rs p).parts ∙ count_nodes p

  -- where an edge leads
  leads_to : (p b to : ℕ) → p < length rs → b < length (result_of rs p).flow.nodes → has (successors (block_at (code_of_result rs p) b).end) to ≡ true → to < length (result_of rs p).flow.nodes
  leads_to p b to l m h =
      let n = count_nodes p in
      let t = all_at (λ (bl : CodeBlock). all_below (length (code_of_result rs p)) (successors bl.end)) (code_of_result rs p) (is_sound p l).valid.code.targets b no_block (omega (arith, n, m)) in
      let u = below_of (length (code_of_result rs p)) (successors (block_at (code_of_result rs p) b).end) to t h in
      omega (arith, n, u)

  lands : (q b : ℕ) → q < length rs → Lands (length (proc_of ps q).blocks) (block_of (proc_of ps q) b).end
  lands q b l = by_known (nat_lt b (length (result_of rs q).flow.nodes)) refl
    where
      by_end : (end : End) → ((to : ℕ) → has (successors end) to ≡ true → to < length (result_of rs q).flow.nodes) → Lands (length (result_of rs q).flow.nodes) end
      by_end (Jump to args) h = h to (ap (λ t. cond t true false) (eq-eqb to to refl))
      by_end (Branch c x y one other) h = tt
      by_end (Nonzero x one other) h = tt
      by_end (Return x) h = tt
      by_end (Trap kind) h = tt

      past : (bls : List Block) (n : ℕ) (d : Block) → length bls ≤ n → get_or bls n d ≡ d
      past [] n d h = refl
      past (bl ∷ bls) zero d h = absurd (omega (arith, h))
      past (bl ∷ bls) (suc n) d h = past bls n d (omega (arith, h))

      by_known : (t : Bool) → nat_lt b (length (result_of rs q).flow.nodes) ≡ t → Lands (length (proc_of ps q).blocks) (block_of (proc_of ps q) b).end
      by_known true t =
          let m = ltb-true b (length (result_of rs q).flow.nodes) t in
          subst (λ (bl : Block). Lands (length (proc_of ps q).blocks) bl.end) (sym (block_here q b l m))
          (subst (λ n. Lands n (block_at (code_of_result rs q) b).end) (sym (block_count q l)) (by_end (block_at (code_of_result rs q) b).end (λ to h. leads_to q b to l m h)))
      by_known false t =
          let n = block_count q l in
          let far : length (result_of rs q).flow.nodes ≤ b = grind (arith, nat_tests, t) in
          subst (λ (bl : Block). Lands (length (proc_of ps q).blocks) bl.end) (sym (past (proc_of ps q).blocks b placed_types.no_block (omega (arith, n, far)))) tt

  module _ (few : length (all_words ps) ≤ 2 ^ 18) (in_table : AllInRange (all_words ps)) where
    abbrev Leading : ℕ → End → ℕ → ℕ → (ℕ → ℕ) → (Spot → ℕ) → Type 0
    Leading p end a b V c = Leaves (linked ps frame few in_table orders) Begins p end a b V c

    -- one block
    module _ (p b : ℕ) (l : p < length rs) (m : b < length (result_of rs p).flow.nodes) where
      abbrev bl : CodeBlock
      bl = block_at (code_of_result rs p) b

      abbrev part : Part
      part = node rs p b

      abbrev last : List Copy
      last = last_copies steps part.into bl.ops part.lines

      abbrev regs : List ℕ
      regs = last_named bl.ops part.named

      here : IsSoundResult k frame steps (result_of rs p)
      here = is_sound p l

      node_here : IsSoundNode (room_of k (result_of rs p).flow) (code_of_result rs p) b part.start part.lines part.named part.end
      node_here = here.nodes b m

      -- over an edge
      over : (to : ℕ) (V : ℕ → ℕ) (c content : Spot → ℕ) (end : End) → bl.end ≡ end → has (successors end) to ≡ true → Agree (all_copied last c) content → Holds V (view_of part.end) content
          → Holds (λ v. V (carried_by end (block_at (code_of_result rs p) to).params v)) (view_of (node rs p to).start) (all_copied (node rs p to).into (all_copied (last ++ left_by end part.leaving) c))
      over to V c content end e h a holds =
          let into = (node rs p to).into in
          let edge = here.edges b to m (ap (λ x. has (successors x) to) e ∙ h) V (all_copied last c) (holds_agree V part.end (all_copied last c) content a holds) in
          let edge' = subst (λ (x : End). Holds (λ v. V (carried_by x (block_at (code_of_result rs p) to).params v)) (view_of (node rs p to).start) (all_copied (left_by x part.leaving ++ into) (all_copied last c))) e edge in
          let same : all_copied (left_by end part.leaving ++ into) (all_copied last c) ≡ all_copied into (all_copied (last ++ left_by end part.leaving) c) =
          all_copied-append (left_by end part.leaving) into (all_copied last c) ∙ sym (ap (all_copied into) (all_copied-append last (left_by end part.leaving) c)) in
          subst (λ (x : Spot → ℕ). Holds (λ v. V (carried_by end (block_at (code_of_result rs p) to).params v)) (view_of (node rs p to).start) x) same edge'

      nothing_left : (c : Spot → ℕ) → all_copied (last ++ []) c ≡ all_copied last c
      nothing_left c = ap (λ (ms : List Copy). all_copied ms c) (append-nil last)

      leaves : (end : End) → bl.end ≡ end → (V : ℕ → ℕ) (c : Spot → ℕ) → Final (end_reads end) part.end last regs V c → Leading p end (get_or regs 0 0) (get_or regs 1 0) V (all_copied (last ++ left_by end part.leaving) c)
      leaves (Return None) e V c f = tt
      leaves (Return (Some x)) e V c f = ap (λ (d : Spot → ℕ). d (reg (get_or regs 0 0))) (nothing_left c) ∙ f.agree (reg (get_or regs 0 0)) refl ∙ use_at (λ r. f.content (reg r)) V regs (x ∷ []) f.uses 0 (omega arith)
      leaves (Jump to args) e V c f =
          let h : has (to ∷ []) to ≡ true = ap (λ t. cond t true false) (eq-eqb to to refl) in
          let o = over to V c f.content (Jump to args) e h f.agree f.places in
          let params = (block_at (code_of_result rs p) to).params in
          let same : (flow.block_of (procedure (proc_of ps p)) to).params ≡ params = ap (λ (q : Procedure). (flow.block_of q to).params) (flow_is p l) in
          let begins : Begins p to (set_all params (map V args) V) (all_copied (last ++ part.leaving) c) = record {
            procedure = l;
            block = leads_to p b to l m (ap (λ x. has (successors x) to) e ∙ h);
            holds = λ q v g. o q v g ∙ sym (set_argument params args V v);
          } in
          subst (λ (xs : List ℕ). Begins p to (set_all xs (map V args) V) (all_copied (last ++ part.leaving) c)) (sym same) begins
      leaves (Branch n x y one other) e V c f =
          let begins : (to : ℕ) → has (one ∷ other ∷ []) to ≡ true → Begins p to V (all_copied (last ++ []) c) = λ to h. record { procedure = l; block = leads_to p b to l m (ap (λ x. has (successors x) to) e ∙ h); holds = over to V c f.content (Branch n x y one other) e h f.agree f.places } in (
            ap (λ (d : Spot → ℕ). d (reg (get_or regs 0 0))) (nothing_left c) ∙ f.agree (reg (get_or regs 0 0)) refl ∙ use_at (λ r. f.content (reg r)) V regs (x ∷ y ∷ []) f.uses 0 (omega arith),
            ap (λ (d : Spot → ℕ). d (reg (get_or regs 1 0))) (nothing_left c) ∙ f.agree (reg (get_or regs 1 0)) refl ∙ use_at (λ r. f.content (reg r)) V regs (x ∷ y ∷ []) f.uses 1 (omega arith),
            begins one (first_of_two one other),
            begins other (second_of_two one other),
          )
      leaves (Nonzero x one other) e V c f =
          let begins : (to : ℕ) → has (one ∷ other ∷ []) to ≡ true → Begins p to V (all_copied (last ++ []) c) = λ to h. record { procedure = l; block = leads_to p b to l m (ap (λ x. has (successors x) to) e ∙ h); holds = over to V c f.content (Nonzero x one other) e h f.agree f.places } in (
            ap (λ (d : Spot → ℕ). d (reg (get_or regs 0 0))) (nothing_left c) ∙ f.agree (reg (get_or regs 0 0)) refl ∙ use_at (λ r. f.content (reg r)) V regs (x ∷ []) f.uses 0 (omega arith),
            begins one (first_of_two one other),
            begins other (second_of_two one other),
          )
      leaves (Trap kind) e V c f = tt

      abbrev whole : Block
      whole = placed_block steps bl part

      touched_here : (q : Spot) → touched_blocks (placed_blocks steps 0 (code_of_result rs p) (result_of rs p).parts) q ≡ true → (touched (result_of rs p).first q || touched_blocks (placed_blocks steps 0 (code_of_result rs p) (result_of rs p).parts) q) ≡ true
      touched_here q e = or_right (touched (result_of rs p).first q) (touched_blocks (placed_blocks steps 0 (code_of_result rs p) (result_of rs p).parts) q) e

      in_blocks : block_of (placed steps (result_of rs p)) b ≡ whole
      in_blocks = ap (λ (pr : Placed). block_of pr b) (proc_is p l) ∙ block_here p b l m

      inside : b < length (placed_blocks steps 0 (code_of_result rs p) (result_of rs p).parts)
      inside = let n = length_blocks steps 0 (code_of_result rs p) (result_of rs p).parts in let c = count_nodes p in omega (arith, n, c, m)

      cells_fit : CellsOk (placed steps (result_of rs p)) whole.body
      cells_fit =
          let c = count_nodes p in
          let ops : OpsOk (result_of rs p).flow.args (slots_of (code_of_result rs p)) bl.ops = ops_ok (result_of rs p).flow.args (slots_of (code_of_result rs p)) bl.ops
          (all_at (λ (x : CodeBlock). list_all (operation_fits (result_of rs p).flow.args) x.ops) (code_of_result rs p) here.valid.code.operations b no_block (omega (arith, c, m)))
          (slots_at (code_of_result rs p) b (omega (arith, c, m))) (λ i op rest e. here.numbers b i op rest e) in
          cells_ok k few_regs steps sequence (result_of rs p) (result_of rs p).flow.args part.into bl.ops part.named part.lines (here.steps_fit.1 b).0 node_here.lines_sound.in_range node_here.lines_sound.named_below ops
          (λ q e. touched_here q (touched_body (placed_blocks steps 0 (code_of_result rs p) (result_of rs p).parts) b placed_types.no_block q inside (ap (λ (x : Block). touched_cells x.body q) in_blocks ∙ e)))

      last_named_here : AllNamed (placed steps (result_of rs p)) whole.copies
      last_named_here =
          let left = left_by bl.end part.leaving in
          let range = both_range k few_regs steps sequence (result_of rs p) last left (last_range k few_regs steps sequence (result_of rs p) part.into bl.ops part.lines (here.steps_fit.1 b).0 node_here.lines_sound.in_range) (left_range k few_regs steps sequence (result_of rs p) bl.end part.leaving (here.steps_fit.1 b).1) in
          named k few_regs steps sequence (result_of rs p) whole.copies range (λ q e. touched_here q (touched_last (placed_blocks steps 0 (code_of_result rs p) (result_of rs p).parts) b placed_types.no_block q inside (ap (λ (x : Block). touched x.copies q) in_blocks ∙ e)))

      end_fits : EndFits bl.end (get_or regs 0 0) (get_or regs 1 0)
      end_fits =
          let c = count_nodes p in
          let below = registers_fit k few_regs regs (last_below k bl.ops part.named node_here.lines_sound.named_below) in
          record { a_fits = below 0; b_fits = below 1; condition = all_at (λ (x : CodeBlock). condition_fits x.end) (code_of_result rs p) here.valid.code.conditions b no_block (omega (arith, c, m)) }

      joins : (cells : List Cell) → CellsOk (proc_of ps p) cells → (V : ℕ → ℕ) (c : Spot → ℕ) → Finds (Final (end_reads bl.end) part.end last regs) cells V c → Follows ps frame few in_table orders Begins p whole cells V c
      joins [] ok V c f = (subst (λ (pr : Placed). AllNamed pr whole.copies) (proc_is p l) last_named_here, end_fits, leaves bl.end refl V c f)
      joins (cell ∷ cells) ok V c f = (ok.0, ok.1, f.0, (λ x t after. joins cells ok.2 (define cell.op.def x V) t (f.1 x t after)))

      follows : (V : ℕ → ℕ) (c : Spot → ℕ) → Holds V (view_of part.start) (all_copied part.into c) → Follows ps frame few in_table orders Begins p (block_of (proc_of ps p) b) (block_of (proc_of ps p) b).body V c
      follows V c holds =
          let sim = node_here.lines_sound.simulates V (all_copied part.into c) holds in
          let f = finds steps sequence (room_of k (result_of rs p).flow) bl.ops (end_reads bl.end) part.end part.lines node_here.lines_sound.in_range part.into part.named 0 V c (all_copied part.into c) bl.ops refl (λ q e. refl) sim in
          let ok = subst (λ (pr : Placed). CellsOk pr whole.body) (proc_is p l) cells_fit in
          subst (λ (x : Block). Follows ps frame few in_table orders Begins p x x.body V c) (sym (block_here p b l m)) (joins whole.body ok V c f)

    -- the entry of a procedure
    module _ (q : ℕ) (l : q < length rs) where
      abbrev r : Allocated
      r = result_of rs q

      sound_here : IsSoundResult k frame steps r
      sound_here = is_sound q l

      params_are : params_of (placed steps r) ≡ (block_at (code_nodes r.flow.nodes) 0).params
      params_are = ap (λ (x : Procedure). (flow.block_of x 0).params) (procedure_is steps r)

      some_node : 0 < length r.flow.nodes
      some_node = let n = count_nodes q in let s = sound_here.valid.code.begins in omega (arith, n, s)

      enters : (args : List ℕ) (c : Spot → ℕ) → length (params_of (placed steps r)) ≤ length args → ((i : ℕ) → i < 4 → i < length args → c (reg i) ≡ get_or args i 0) → Begins q 0 (first_values (procedure (placed steps r)) args) (all_copied r.first c)
      enters args c enough given =
          let bls = code_nodes r.flow.nodes in
          let params = (block_at bls 0).params in
          let V : ℕ → ℕ = set_all params args (λ v. 0) in
          let few_params = sound_here.valid.code.first_params in
          let count = ap (λ (xs : List ℕ). length xs) params_are in
          let start : Holds V (view_of (entry_places bls)) c = λ s v e. at_entry args c enough given s v e in
          let after = sound_here.enters V c start in
          let same = all_copied-append r.first (node rs q 0).into c in
          let holds = subst (λ (x : Spot → ℕ). Holds V (view_of (node rs q 0).start) x) same after in
          subst (λ (xs : List ℕ). Begins q 0 (set_all xs args (λ v. 0)) (all_copied r.first c)) (sym params_are) (record { procedure = l; block = some_node; holds = holds })
        where
          short : (xs : List ℕ) (i v : ℕ) → get_or (map Some xs) i None ≡ Some v → i < length xs
          short [] i v e = cc
          short (x ∷ xs) zero v e = omega arith
          short (x ∷ xs) (suc i) v e = let t = short xs i v e in omega (arith, t)

          of_first : (bls : List CodeBlock) → 0 < length bls → (rest : List CodeBlock) × (bls ≡ block_at bls 0 ∷ rest)
          of_first [] h = absurd (omega (arith, h))
          of_first (x ∷ xs) h = (xs, refl)

          at_most : (a b : ℕ) → min a b ≤ a
          at_most zero b = omega arith
          at_most (suc a) zero = omega arith
          at_most (suc a) (suc b) = let t = at_most a b in omega (arith, t)

          at_entry : (args : List ℕ) (c : Spot → ℕ) → length (params_of (placed steps r)) ≤ length args → ((i : ℕ) → i < 4 → i < length args → c (reg i) ≡ get_or args i 0) → (s : Spot) (v : ℕ) → view_of (entry_places (code_nodes r.flow.nodes)) s ≡ Some v → c s ≡ set_all (block_at (code_nodes r.flow.nodes) 0).params args (λ v. 0) v
          at_entry args c enough given (reg i) v e =
              let bls = code_nodes r.flow.nodes in
              let params = (block_at bls 0).params in
              let few_params = sound_here.valid.code.first_params in
              let count = ap (λ (xs : List ℕ). length xs) params_are in
              let i_in = short params i v e in
              let four = at_most 4 r.flow.args in
              let fp : length params ≡ min 4 r.flow.args = few_params in
              let low : i < 4 = omega (arith, i_in, fp, four) in
              let in_args : i < length args = omega (arith, i_in, count, enough) in
              let whole = of_first bls sound_here.valid.code.begins in
              let below = subst (λ (xs : List CodeBlock). all_below r.flow.values (made xs) ≡ true) whole.1 sound_here.valid.code.made_below in
              let once = subst (λ (xs : List CodeBlock). (u : ℕ) → u < r.flow.values → times (made xs) u ≡ 1) whole.1 sound_here.valid.code.made_once in
              given i low in_args ∙ sym (parameter_is r.flow.values (block_at bls 0) whole.0 below once args (λ v. 0) i v e in_args)
          at_entry args c enough given (home u) v e = cc
          at_entry args c enough given (out s) v e = cc
          at_entry args c enough given target v e = cc
          at_entry args c enough given saved v e = cc

      first_named : AllNamed (placed steps r) r.first
      first_named = named k few_regs steps sequence r r.first sound_here.steps_fit.0 (λ s e. or_left (touched r.first s) (touched_blocks (placed_blocks steps 0 (code_nodes r.flow.nodes) r.parts) s) e)

      proc_ok : ProcOk ps frame few in_table orders Begins q
      proc_ok =
          let is = proc_is q l in
          record {
            fits = subst (λ (pr : Placed). HomesFit pr) is (homes_fit k few_regs steps sequence r);
            named = subst (λ (pr : Placed). AllNamed pr pr.copies) is first_named;
            frame_fits = subst (λ (pr : Placed). frame_of pr ≤ frame) is sound_here.fits;
            cells = subst (λ (pr : Placed). (pr.cells < 2 ^ 64) × (pr.bytes < 2 ^ 24)) is sound_here.local_data;
            begins = subst (λ (pr : Placed). (args : List ℕ) (c : Spot → ℕ) → length (params_of pr) ≤ length args → ((i : ℕ) → i < 4 → i < length args → c (reg i) ≡ get_or args i 0) → Begins q 0 (first_values (procedure pr) args) (all_copied pr.copies c)) is enters;
          }

      no_params : (proc_of ps q).counted ≡ false → length (params_of (proc_of ps q)) ≤ 0
      no_params c =
          let is = proc_is q l in
          let none = sound_here.body (ap (λ (pr : Placed). pr.counted) is ∙ c) in
          let fp = sound_here.valid.code.first_params in
          let count = ap (λ (xs : List ℕ). length xs) params_are in
          let all : min 4 r.flow.args ≡ 0 = ap (min 4) none in
          subst (λ (pr : Placed). length (params_of pr) ≤ 0) is (omega (arith, count, fp, all))

    pub is_placement : Sound ps frame few in_table orders Begins
    is_placement = record {
      procs = λ q l. proc_ok q (known q l);
      none = λ q l c. no_params q (known q l) c;
      lands = λ q b l. lands q b (known q l);
      blocks = λ p b V c h. (in_list p h.procedure, in_blocks_too p b h.procedure h.block, follows p b h.procedure h.block V c h.holds);
    }
      where
        in_list : (p : ℕ) → p < length rs → p < length ps
        in_list p l = let e = length_ps in omega (arith, e, l)

        in_blocks_too : (p b : ℕ) → p < length rs → b < length (result_of rs p).flow.nodes → b < length (proc_of ps p).blocks
        in_blocks_too p b l m = let n = block_count p l in omega (arith, n, m)
