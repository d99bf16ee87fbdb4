-- The walk by names accepts the plain result.
use Rattle.std.proofs.Common.{◌≡◌, ℕ, zero, suc, ◌+◌, ◌<◌, ◌≤◌, ◌⊎◌, inl, inr, ⊎_elim, Bool, true, false, ◌&&◌, ◌||◌, cond, List, [], ◌∷◌, ◌++◌, map, length, get_or, take, replicate, Some, None, refl, sym, ap, ap₂, ◌∙◌, subst, arith}
use Rattle.std.specs.Prelude.{◌==◌, nat_lt, slice_get, filter, option_to_list}
use Rattle.std.specs.List.{list_all, list_any}
use Rattle.std.proofs.lemmas.Bool.{eqb-true, eq-eqb, ltb-true}
use Rattle.std.proofs.lemmas.Option.{slice_get-get_or, get_or_from_slice_get}
use Rattle.std.proofs.lemmas.List.{map_more, take_all, length-map, length-replicate, get_or-map}
use Rattle.run_laws.specs.Layers.{places_from}
use Rattle.block_runs.specs.declared.end.End.{End}
use Rattle.block_runs.specs.Blocks.{Operation, CodeBlock, block_at, no_block, end_uses, successors}
use Rattle.block_runs.specs.Live.{has, defs_of, block_makes, reads, Live, Here, Later}
use Rattle.block_runs.specs.Valid.{all_below, block_reads, made, operation_fits, uses_of}
use Rattle.lir_core.specs.declared.flow.Node.{Node}
use Rattle.lir_core.specs.declared.flow.Flow.{Flow}
use Rattle.lir_core.specs.declared.flow.Trace.{Trace}
use Rattle.lir_core.specs.declared.places.Places.{Places}
use Rattle.lir_core.specs.declared.places.TraceOut.{TraceOut}
use Rattle.lir_core.specs.declared.places.TraceIn.{TraceIn}
use Rattle.lir_core.specs.declared.places.Line.{Line}
use Rattle.simple_policies.specs.declared.plain.allocating.Parts.{Parts}
use Rattle.simple_policies.specs.plain.Parts.{ArePushed, AreParts}
use Rattle.lir_core.specs.Flows.{operation_of, code_node, code_nodes, calls_marked, IsValidFlow, no_node, node_at}
use Rattle.lir_core.specs.Rows.{has_bit}
use Rattle.lir_core.specs.Spots.{get, in_register, placed, IsRising, IsRow}
use Rattle.lir_core.specs.Lines.{end_reads, slots_in, slots_of}
use Rattle.lir_core.specs.Walks.{Walks}
use Rattle.lir_core.specs.Sound.{IsStart, IsEnd, EndsRise, room_of, no_places}
use Rattle.walked_results.specs.Walked.{IsWalkedNode, IsWalked}
use Rattle.global_live.specs.Reading.{HasLive}
use Rattle.global_live.proofs.Lists.{has_front, has_back, not_in_front, not_in_back, in_parts, has-filter, all_below_in}
use Rattle.global_live.proofs.Tables.{at_block, has_places}
use Rattle.simple_policies.specs.plain.Plain.{picked, in_homes, is_at_start, is_at_end, plain_start, plain_end, node_lines, node_regs, plain_of, InFlow}
use Rattle.simple_policies.proofs.plain.Walked.{walks}
use Rattle.simple_policies.proofs.plain.Fitting.{parts, AreFit, all_fit, slots_at}
use Rattle.global_live.proofs.Filled.{reads_listed as reads_in}

---- Picked values

places_below : (a n v : ℕ) → has (places_from a n) v ≡ true → v < a + n
places_below a zero v h = cc
places_below a (suc n) v h = at_test (a == v) refl h (λ k. places_below (suc a) n v k)
  where
    at_test : (b : Bool) → (a == v) ≡ b → cond b true (has (places_from (suc a) n) v) ≡ true → (has (places_from (suc a) n) v ≡ true → v < suc a + n) → v < a + suc n
    at_test true e h on = let q = eqb-true a v e in omega (arith, q)
    at_test false e h on = let l = on h in omega (arith, l)

is_picked : (values : ℕ) (test : ℕ → Bool) (v : ℕ) → v < values → test v ≡ true → has (picked values test) v ≡ true
is_picked values test v l t = has-filter test (places_from 0 values) v ∙ ap₂ (λ a b. a && b) (has_places 0 values v (omega arith) (omega (arith, l))) t

was_picked : (values : ℕ) (test : ℕ → Bool) (v : ℕ) → has (picked values test) v ≡ true → (v < values) × (test v ≡ true)
was_picked values test v h =
    let both = parts (has (places_from 0 values) v) (test v) (sym (has-filter test (places_from 0 values) v) ∙ h) in
    let l = places_below 0 values v both.0 in
    (omega (arith, l), both.1)

above : (test : ℕ → Bool) (a n x : ℕ) → x < a → IsRising (filter test (places_from a n)) → IsRising (x ∷ filter test (places_from a n))
above test a zero x l r = tt
above test a (suc n) x l r = at_test (test a) r (λ k. above test (suc a) n x (omega (arith, l)) k)
  where
    at_test : (b : Bool) → IsRising (cond b (a ∷ filter test (places_from (suc a) n)) (filter test (places_from (suc a) n))) → (IsRising (filter test (places_from (suc a) n)) → IsRising (x ∷ filter test (places_from (suc a) n))) → IsRising (x ∷ cond b (a ∷ filter test (places_from (suc a) n)) (filter test (places_from (suc a) n)))
    at_test true r on = (l, r)
    at_test false r on = on r

rising : (test : ℕ → Bool) (a n : ℕ) → IsRising (filter test (places_from a n))
rising test a zero = tt
rising test a (suc n) = at_test (test a) (rising test (suc a) n)
  where
    at_test : (b : Bool) → IsRising (filter test (places_from (suc a) n)) → IsRising (cond b (a ∷ filter test (places_from (suc a) n)) (filter test (places_from (suc a) n)))
    at_test true r = above test (suc a) n a (omega arith) r
    at_test false r = r

---- Homes alone

no_register : (k r v : ℕ) → get (replicate k None) r ≡ Some v → ⊥
no_register zero r v e = cc
no_register (suc k) zero v e = cc
no_register (suc k) (suc r) v e = no_register k r v e

not_in_register : (k v : ℕ) → in_register (replicate k None) v ≡ false
not_in_register zero v = refl
not_in_register (suc k) v = not_in_register k v

placed_home : (k : ℕ) (homed : List ℕ) (v : ℕ) → placed (in_homes k homed) v ≡ has homed v
placed_home k homed v = ap (λ b. b || has homed v) (not_in_register k v)

row : (k values : ℕ) (test : ℕ → Bool) → IsRow k (in_homes k (picked values test))
row k values test = record { registers = length-replicate k None; single = λ r s v a b. absurd (no_register k r v a) }

---- Lists

any_at : (p : ℕ → Bool) (xs : List ℕ) → list_any p xs ≡ true → (x : ℕ) × (has xs x ≡ true) × (p x ≡ true)
any_at p [] h = cc
any_at p (x ∷ xs) h = at_test (p x) refl h (λ k. any_at p xs k)
  where
    later : (b : Bool) (y : ℕ) → has xs y ≡ true → cond b true (has xs y) ≡ true
    later true y k = refl
    later false y k = k

    at_test : (b : Bool) → p x ≡ b → (b || list_any p xs) ≡ true → (list_any p xs ≡ true → (y : ℕ) × (has xs y ≡ true) × (p y ≡ true)) → (y : ℕ) × (has (x ∷ xs) y ≡ true) × (p y ≡ true)
    at_test true e h on = (x, ap (λ b. cond b true (has xs x)) (eq-eqb x x refl), e)
    at_test false e h on = let s = on h in (s.0, later (x == s.0) s.0 s.1, s.2)

some_at : (p : ℕ → Bool) (xs : List ℕ) (x : ℕ) → has xs x ≡ true → p x ≡ true → list_any p xs ≡ true
some_at p [] x h t = cc
some_at p (y ∷ xs) x h t = at_test (y == x) refl h (λ k. some_at p xs x k t)
  where
    or_true : (b : Bool) → (b || true) ≡ true
    or_true true = refl
    or_true false = refl

    at_test : (b : Bool) → (y == x) ≡ b → cond b true (has xs x) ≡ true → (has xs x ≡ true → list_any p xs ≡ true) → (p y || list_any p xs) ≡ true
    at_test true e h on = ap (λ b. b || list_any p xs) (ap p (eqb-true y x e) ∙ t)
    at_test false e h on = ap (λ b. p y || b) (on h) ∙ or_true (p y)

or_front : (a b : Bool) → a ≡ true → (a || b) ≡ true
or_front a b h = ap (λ x. x || b) h

or_back : (a b : Bool) → b ≡ true → (a || b) ≡ true
or_back true b h = refl
or_back false b h = h

or_cases : (a b : Bool) → (a || b) ≡ true → (a ≡ true) ⊎ (b ≡ true)
or_cases true b h = inl refl
or_cases false b h = inr h

---- Reading and making

reads_at_end : (ops : List Operation) (end : End) (v : ℕ) → has (end_uses end) v ≡ true → has (defs_of ops) v ≡ false → reads ops end v ≡ true
reads_at_end [] end v h off = h
reads_at_end (op ∷ ops) end v h off = at_use (λ k. reads_at_end ops end v h k) (has op.uses v)
  where
    off_both : (has (option_to_list op.def) v ≡ false) × (has (defs_of ops) v ≡ false)
    off_both = (not_in_front (option_to_list op.def) (defs_of ops) v off, not_in_back (option_to_list op.def) (defs_of ops) v off)

    at_use : (has (defs_of ops) v ≡ false → reads ops end v ≡ true) → (b : Bool) → cond b true (cond (has (option_to_list op.def) v) false (reads ops end v)) ≡ true
    at_use on true = refl
    at_use on false = ap (λ b. cond b false (reads ops end v)) off_both.0 ∙ on off_both.1

made_in : (bls : List CodeBlock) (n v : ℕ) → n < length bls → has (block_makes (block_at bls n)) v ≡ true → has (made bls) v ≡ true
made_in [] n v l h = absurd (omega (arith, l))
made_in (b ∷ bls) zero v l h = has_front (block_makes b) (made bls) v h
made_in (b ∷ bls) (suc n) v l h = has_back (block_makes b) (made bls) v (made_in bls n v (omega (arith, l)) h)

blocks_at : (nodes : List Node) (n : ℕ) → block_at (code_nodes nodes) n ≡ code_node (get_or nodes n no_node)
blocks_at [] n = refl
blocks_at (x ∷ xs) zero = refl
blocks_at (x ∷ xs) (suc n) = blocks_at xs n

all_at : (p : Node → Bool) (nodes : List Node) (n : ℕ) → list_all p nodes ≡ true → n < length nodes → p (get_or nodes n no_node) ≡ true
all_at p [] n h l = absurd (omega (arith, l))
all_at p (x ∷ xs) zero h l = (parts (p x) (list_all p xs) h).0
all_at p (x ∷ xs) (suc n) h l = all_at p xs n (parts (p x) (list_all p xs) h).1 (omega (arith, l))

---- A node's part

module _ (k : ℕ) (f : Flow) (live : List (List ℕ)) (valid : IsValidFlow f) (rows : HasLive f live) (few : 4 ≤ k) where
  size : length (code_nodes f.nodes) ≡ length f.nodes
  size = length-map f.nodes code_node

  block_is : (n : ℕ) → block_at (code_nodes f.nodes) n ≡ code_node (node_at f.nodes n)
  block_is n = blocks_at f.nodes n

  -- what a node reads or makes is one of the flow's values
  read_below : (n v : ℕ) → has (block_reads (code_node (node_at f.nodes n))) v ≡ true → v < f.values
  read_below n v h =
      let all : all_below f.values (block_reads (block_at (code_nodes f.nodes) n)) ≡ true = at_block (λ bl. all_below f.values (block_reads bl)) (code_nodes f.nodes) n valid.code.read_below refl in
      all_below_in f.values (block_reads (block_at (code_nodes f.nodes) n)) v all (ap (λ (b : CodeBlock). has (block_reads b) v) (block_is n) ∙ h)

  made_below : (n v : ℕ) → n < length f.nodes → has (block_makes (code_node (node_at f.nodes n))) v ≡ true → v < f.values
  made_below n v l h = all_below_in f.values (made (code_nodes f.nodes)) v valid.code.made_below (made_in (code_nodes f.nodes) n v (omega (arith, l, size)) (ap (λ (b : CodeBlock). has (block_makes b) v) (block_is n) ∙ h))

  live_below : (v n : ℕ) → Live (code_nodes f.nodes) v n → v < f.values
  live_below v n (Here b bl at p r) =
      let is : block_at (code_nodes f.nodes) b ≡ bl = get_or_from_slice_get (code_nodes f.nodes) b bl no_block at in
      read_below b v (ap (λ (x : CodeBlock). has (block_reads x) v) (sym (block_is b) ∙ is) ∙ reads_in bl.ops bl.end v r)
  live_below v n (Later b to bl at u e on) = live_below v to on

  module _ (n : ℕ) (there : n < length f.nodes) where
    node : Node
    node = node_at f.nodes n

    at_start : (v : ℕ) → v < f.values → is_at_start live n (node_at f.nodes n) v ≡ true → has (picked f.values (is_at_start live n (node_at f.nodes n))) v ≡ true
    at_start v l h = is_picked f.values (is_at_start live n (node_at f.nodes n)) v l h

    live_start : (v : ℕ) → Live (code_nodes f.nodes) v n → has (picked f.values (is_at_start live n (node_at f.nodes n))) v ≡ true
    live_start v h = at_start v (live_below v n h) (or_front (has_bit live n v) (has (node_at f.nodes n).params v) (rows.whole n v h))

    param_start : (v : ℕ) → has (node_at f.nodes n).params v ≡ true → has (picked f.values (is_at_start live n (node_at f.nodes n))) v ≡ true
    param_start v h = at_start v (made_below n v there (has_front (node_at f.nodes n).params (defs_of (map operation_of (node_at f.nodes n).lirs)) v h)) (or_back (has_bit live n v) (has (node_at f.nodes n).params v) h)

    here : slice_get (code_nodes f.nodes) n ≡ Some (code_node (node_at f.nodes n))
    here = slice_get-get_or (code_nodes f.nodes) n no_block (omega (arith, there, size)) ∙ ap Some (block_is n)

    -- what operations and the end read before they make it is there at the start
    wanted : (v : ℕ) → reads (map operation_of (node_at f.nodes n).lirs) (node_at f.nodes n).end v ≡ true → has (picked f.values (is_at_start live n (node_at f.nodes n))) v ≡ true
    wanted v h = at_param (has (node_at f.nodes n).params v) refl
      where
        at_param : (b : Bool) → has (node_at f.nodes n).params v ≡ b → has (picked f.values (is_at_start live n (node_at f.nodes n))) v ≡ true
        at_param true e = param_start v e
        at_param false e = live_start v (Here n (code_node (node_at f.nodes n)) here e h)

    end_there : (v : ℕ) → has (end_uses (node_at f.nodes n).end) v ≡ true → (has (defs_of (map operation_of (node_at f.nodes n).lirs)) v || has (picked f.values (is_at_start live n (node_at f.nodes n))) v) ≡ true
    end_there v h = at_def (has (defs_of (map operation_of (node_at f.nodes n).lirs)) v) refl
      where
        at_def : (b : Bool) → has (defs_of (map operation_of (node_at f.nodes n).lirs)) v ≡ b → (b || has (picked f.values (is_at_start live n (node_at f.nodes n))) v) ≡ true
        at_def true e = refl
        at_def false e = wanted v (reads_at_end (map operation_of (node_at f.nodes n).lirs) (node_at f.nodes n).end v h e)

    -- what is live behind the node is made there or there at its start
    behind_there : (v to : ℕ) → has (successors (node_at f.nodes n).end) to ≡ true → Live (code_nodes f.nodes) v to → (has (defs_of (map operation_of (node_at f.nodes n).lirs)) v || has (picked f.values (is_at_start live n (node_at f.nodes n))) v) ≡ true
    behind_there v to edge on = at_made (has (block_makes (code_node (node_at f.nodes n))) v) refl
      where
        at_made : (b : Bool) → has (block_makes (code_node (node_at f.nodes n))) v ≡ b → (has (defs_of (map operation_of (node_at f.nodes n).lirs)) v || has (picked f.values (is_at_start live n (node_at f.nodes n))) v) ≡ true
        at_made true e = ⊎_elim
            (λ p. or_back (has (defs_of (map operation_of (node_at f.nodes n).lirs)) v) (has (picked f.values (is_at_start live n (node_at f.nodes n))) v) (param_start v p))
            (λ d. or_front (has (defs_of (map operation_of (node_at f.nodes n).lirs)) v) (has (picked f.values (is_at_start live n (node_at f.nodes n))) v) d)
            (in_parts (node_at f.nodes n).params (defs_of (map operation_of (node_at f.nodes n).lirs)) v e)
        at_made false e = or_back (has (defs_of (map operation_of (node_at f.nodes n).lirs)) v) (has (picked f.values (is_at_start live n (node_at f.nodes n))) v) (live_start v (Later n to (code_node (node_at f.nodes n)) here e edge on))

    ends_there : (v : ℕ) → has (picked f.values (is_at_end live (node_at f.nodes n).end)) v ≡ true → (has (defs_of (map operation_of (node_at f.nodes n).lirs)) v || has (picked f.values (is_at_start live n (node_at f.nodes n))) v) ≡ true
    ends_there v h =
        let w = was_picked f.values (is_at_end live (node_at f.nodes n).end) v h in
        ⊎_elim (λ a. let s = any_at (λ to. has_bit live to v) (successors (node_at f.nodes n).end) a in behind_there v s.0 s.1 (rows.exact s.0 v s.2)) (λ b. end_there v b) (or_cases (list_any (λ to. has_bit live to v) (successors (node_at f.nodes n).end)) (has (end_uses (node_at f.nodes n).end) v) w.1)

    starts : IsStart (code_nodes f.nodes) n (plain_start k f live n)
    starts = record {
      live = λ v h. placed_home k (picked f.values (is_at_start live n (node_at f.nodes n))) v ∙ live_start v h;
      wanted = λ v p w. placed_home k (picked f.values (is_at_start live n (node_at f.nodes n))) v ∙ param_start v (sym (ap (λ (b : CodeBlock). has b.params v) (block_is n)) ∙ p);
      only = λ v h.
          let w = was_picked f.values (is_at_start live n (node_at f.nodes n)) v (sym (placed_home k (picked f.values (is_at_start live n (node_at f.nodes n))) v) ∙ h) in
          ⊎_elim (λ a. inl (rows.exact n v a)) (λ b. inr (ap (λ (x : CodeBlock). has x.params v) (block_is n) ∙ b)) (or_cases (has_bit live n v) (has (node_at f.nodes n).params v) w.1);
    }

    ends : IsEnd (code_nodes f.nodes) n (plain_end k f live n)
    ends = record {
      read = λ v h.
          let e : has (end_uses (node_at f.nodes n).end) v ≡ true = sym (ap (λ (b : CodeBlock). has (end_uses b.end) v) (block_is n)) ∙ h in
          placed_home k (picked f.values (is_at_end live (node_at f.nodes n).end)) v
          ∙ is_picked f.values (is_at_end live (node_at f.nodes n).end) v (read_below n v (has_back (uses_of (map operation_of (node_at f.nodes n).lirs)) (end_uses (node_at f.nodes n).end) v e)) (or_back (list_any (λ to. has_bit live to v) (successors (node_at f.nodes n).end)) (has (end_uses (node_at f.nodes n).end) v) e);
      live = λ v h.
          placed_home k (picked f.values (is_at_end live (node_at f.nodes n).end)) v
          ∙ is_picked f.values (is_at_end live (node_at f.nodes n).end) v (live_below v h.0 h.2) (or_front (list_any (λ to. has_bit live to v) (successors (node_at f.nodes n).end)) (has (end_uses (node_at f.nodes n).end) v) (some_at (λ to. has_bit live to v) (successors (node_at f.nodes n).end) h.0 (sym (ap (λ (b : CodeBlock). has (successors b.end) h.0) (block_is n)) ∙ h.1) (rows.whole h.0 v h.2)));
    }

    fit : AreFit (room_of k f) f.args (node_at f.nodes n).lirs
    fit = record {
      calls = all_at calls_marked f.nodes n valid.calls there;
      below = λ v h. read_below n v (has_front (uses_of (map operation_of (node_at f.nodes n).lirs)) (end_uses (node_at f.nodes n).end) v h);
      defs_below = λ v h. made_below n v there (has_back (node_at f.nodes n).params (defs_of (map operation_of (node_at f.nodes n).lirs)) v h);
      operations = sym (ap (λ (b : CodeBlock). list_all (operation_fits f.args) b.ops) (block_is n)) ∙ at_block (λ bl. list_all (operation_fits f.args) bl.ops) (code_nodes f.nodes) n valid.code.operations refl;
      slots = subst (λ (b : CodeBlock). slots_in b.ops ≤ slots_of (code_nodes f.nodes)) (block_is n) (slots_at (code_nodes f.nodes) n (omega (arith, there, size)));
    }

    lines_walk : Walks (room_of k f) (block_at (code_nodes f.nodes) n).ops (end_reads (block_at (code_nodes f.nodes) n).end) (plain_start k f live n) (node_lines (node_at f.nodes n)) (node_regs (node_at f.nodes n)) (plain_end k f live n)
    lines_walk =
        subst (λ (b : CodeBlock). Walks (room_of k f) b.ops (end_reads b.end) (plain_start k f live n) (node_lines (node_at f.nodes n)) (node_regs (node_at f.nodes n)) (plain_end k f live n)) (sym (block_is n))
        (walks (room_of k f) (map operation_of (node_at f.nodes n).lirs) few (node_at f.nodes n).lirs (node_at f.nodes n).end (picked f.values (is_at_start live n (node_at f.nodes n))) (picked f.values (is_at_end live (node_at f.nodes n).end)) refl
        (all_fit (room_of k f) (map operation_of (node_at f.nodes n).lirs) few f.args (node_at f.nodes n).lirs fit)
        (λ v h. read_below n v (has_back (uses_of (map operation_of (node_at f.nodes n).lirs)) (end_uses (node_at f.nodes n).end) v h)) wanted ends_there end_there)

    pub walked_node : IsWalkedNode (room_of k f) (code_nodes f.nodes) n (plain_start k f live n) (node_lines (node_at f.nodes n)) (node_regs (node_at f.nodes n)) (plain_end k f live n)
    walked_node = record { row = (row k f.values (is_at_start live n (node_at f.nodes n)), row k f.values (is_at_end live (node_at f.nodes n).end)); rises = rising (is_at_start live n (node_at f.nodes n)) 0 f.values; starts = starts; ends = ends; walks = lines_walk }

  pub walked : (t : Trace) (number : ℕ) → InFlow f t.nodes → IsWalked k f t (plain_of k f live number t.nodes)
  walked t number inside = record {
    counts = (length-map t.nodes (plain_start k f live), length-map t.nodes (plain_end k f live), length-map t.nodes (λ n. node_lines (node_at f.nodes n)), length-map t.nodes (λ n. node_regs (node_at f.nodes n)));
    nodes = λ i lt.
        let n = get_or t.nodes i 0 in
        let a = get_or-map (plain_start k f live) t.nodes i 0 no_places lt in
        let b = get_or-map (plain_end k f live) t.nodes i 0 no_places lt in
        let c = get_or-map (λ m. node_lines (node_at f.nodes m)) t.nodes i 0 [] lt in
        let d = get_or-map (λ m. node_regs (node_at f.nodes m)) t.nodes i 0 [] lt in
        subst (λ s. IsWalkedNode (room_of k f) (code_nodes f.nodes) n s (get_or (map (λ m. node_lines (node_at f.nodes m)) t.nodes) i []) (get_or (map (λ m. node_regs (node_at f.nodes m)) t.nodes) i []) (get_or (map (plain_end k f live) t.nodes) i no_places)) (sym a)
        (subst (λ e. IsWalkedNode (room_of k f) (code_nodes f.nodes) n (plain_start k f live n) (get_or (map (λ m. node_lines (node_at f.nodes m)) t.nodes) i []) (get_or (map (λ m. node_regs (node_at f.nodes m)) t.nodes) i []) e) (sym b)
        (subst (λ l. IsWalkedNode (room_of k f) (code_nodes f.nodes) n (plain_start k f live n) l (get_or (map (λ m. node_regs (node_at f.nodes m)) t.nodes) i []) (plain_end k f live n)) (sym c)
        (subst (λ r. IsWalkedNode (room_of k f) (code_nodes f.nodes) n (plain_start k f live n) (node_lines (node_at f.nodes n)) r (plain_end k f live n)) (sym d) (walked_node n (inside i lt)))));
  }

pub ends_rise : (k : ℕ) (f : Flow) (live : List (List ℕ)) (number : ℕ) (nodes : List ℕ) → EndsRise (plain_of k f live number nodes)
ends_rise k f live number [] i = tt
ends_rise k f live number (n ∷ ns) zero = rising (is_at_end live (node_at f.nodes n).end) 0 f.values
ends_rise k f live number (n ∷ ns) (suc i) = ends_rise k f live number ns i

pub in_flow : (f : Flow) (t : List ℕ) → list_all (λ n. nat_lt n (length (code_nodes f.nodes))) t ≡ true → InFlow f t
in_flow f [] h i l = absurd (omega (arith, l))
in_flow f (n ∷ ns) h zero l = let s = length-map f.nodes code_node in let a = ltb-true n (length (code_nodes f.nodes)) (parts (nat_lt n (length (code_nodes f.nodes))) (list_all (λ m. nat_lt m (length (code_nodes f.nodes))) ns) h).0 in omega (arith, a, s)
in_flow f (n ∷ ns) h (suc i) l = in_flow f ns (parts (nat_lt n (length (code_nodes f.nodes))) (list_all (λ m. nat_lt m (length (code_nodes f.nodes))) ns) h).1 i (omega (arith, l))

---- The loop over a trace

pub parts_more : (t : TraceIn) (i n : ℕ) (before after : Parts) → AreParts t i before → i < length t.trace.now.nodes → n ≡ get_or t.trace.now.nodes i 0 → ArePushed t n before after → AreParts t (i + 1) after
parts_more t i n before after a lt is p = record {
  starts = one (plain_start t.regs t.flow.now t.live.now) before.starts.items after.starts.items a.starts p.starts;
  ends = one (plain_end t.regs t.flow.now t.live.now) before.ends.items after.ends.items a.ends p.ends;
  lines = one (λ m. node_lines (node_at t.flow.now.nodes m)) before.lines.items after.lines.items a.lines p.lines;
  regs = one (λ m. node_regs (node_at t.flow.now.nodes m)) before.regs.items after.regs.items a.regs p.regs;
}
  where
    one : {A : Type 0} (g : ℕ → A) (xs ys : List A) → xs ≡ map g (take i t.trace.now.nodes) → ys ≡ xs ++ g n ∷ [] → ys ≡ map g (take (i + 1) t.trace.now.nodes)
    one g xs ys e more = more ∙ ap₂ (λ zs m. zs ++ g m ∷ []) e is ∙ sym (map_more g t.trace.now.nodes i 0 lt)

pub out_is : (t : TraceIn) (i : ℕ) (p : Parts) (starts ends : List Places) (lines : List (List Line)) (regs : List (List ℕ)) → AreParts t i p → length t.trace.now.nodes ≤ i → starts ≡ p.starts.items → ends ≡ p.ends.items → lines ≡ p.lines.items → regs ≡ p.regs.items
    → record { trace = t.number; starts = starts; ends = ends; lines = lines; regs = regs } ≡ plain_of t.regs t.flow.now t.live.now t.number t.trace.now.nodes
out_is t i p starts ends lines regs a le s e l r =
    let all : take i t.trace.now.nodes ≡ t.trace.now.nodes = take_all i t.trace.now.nodes le in
    ap₂ (λ (x y : List Places). let o : TraceOut = record { trace = t.number; starts = x; ends = y; lines = lines; regs = regs } in o) (s ∙ a.starts ∙ ap (map (plain_start t.regs t.flow.now t.live.now)) all) (e ∙ a.ends ∙ ap (map (plain_end t.regs t.flow.now t.live.now)) all)
    ∙ ap₂ (λ (x : List (List Line)) (y : List (List ℕ)). let o : TraceOut = record { trace = t.number; starts = map (plain_start t.regs t.flow.now t.live.now) t.trace.now.nodes; ends = map (plain_end t.regs t.flow.now t.live.now) t.trace.now.nodes; lines = x; regs = y } in o) (l ∙ a.lines ∙ ap (map (λ m. node_lines (node_at t.flow.now.nodes m))) all) (r ∙ a.regs ∙ ap (map (λ m. node_regs (node_at t.flow.now.nodes m))) all)
