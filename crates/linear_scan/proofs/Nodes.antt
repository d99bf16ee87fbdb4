-- A node from its start to its end: what it starts with, and what is left.
use Rattle.std.proofs.Common.{◌≡◌, ◌≢◌, ℕ, zero, suc, ◌+◌, ◌<◌, ◌≤◌, Bool, true, false, ◌||◌, cond, List, [], ◌∷◌, ◌++◌, map, length, Option, Some, None, refl, sym, ap, ap₂, ◌∙◌, subst, arith, append_assoc, ◌⊎◌, inl, inr, ⊎_elim}
use Rattle.std.specs.Prelude.{option_to_list, slice_get, nat_lt}
use Rattle.std.specs.List.{list_all}
use Rattle.std.proofs.lemmas.List.{length-map}
use Rattle.std.proofs.lemmas.Bool.{and_parts, ltb-true}
use Rattle.std.proofs.lemmas.Option.{slice_get-get_or}
use Rattle.block_runs.specs.Blocks.{Operation, CodeBlock, block_at, end_uses, successors}
use Rattle.block_runs.specs.declared.end.End.{End}
use Rattle.block_runs.specs.declared.end.End.TheVariants.{Jump, Branch, Nonzero, Return, Trap}
use Rattle.block_runs.specs.Live.{has, defs_of, block_makes, Live, LiveBehind, IsWanted}
use Rattle.block_runs.specs.Valid.{times}
use Rattle.lir_core.specs.declared.flow.Lir.{Lir}
use Rattle.lir_core.specs.declared.flow.Node.{Node}
use Rattle.lir_core.specs.declared.places.Places.{Places}
use Rattle.lir_core.specs.Flows.{operation_of, code_node, code_nodes, calls_marked, leads, IsValidFlow, no_node}
use Rattle.lir_core.specs.Spots.{get, placed, IsSingle, IsRising, IsRow}
use Rattle.lir_core.specs.Lines.{end_reads, Room}
use Rattle.lir_core.specs.Walks.{Walks}
use Rattle.lir_core.specs.Sound.{IsStart, IsEnd, room_of}
use Rattle.walked_results.specs.Walked.{IsWalkedNode}
use Rattle.global_live.specs.Reading.{HasLive}
use Rattle.global_live.proofs.Lists.{not_in_front, not_in_back, times_of_in, times_of_out}
use Rattle.trace_needs.specs.Needs.{Position, at_start, at_operation, at_end, first_of, positions_of}
use Rattle.trace_needs.specs.Needs as needs
use Rattle.loc_state.specs.declared.part.Part.{Part}
use Rattle.loc_state.specs.Registers.{lowest_empty}
use Rattle.loc_state.specs.Steps.{places, begun, brought, dropped, keeps_all, keeps_one, called}
use Rattle.loc_state.specs.Walked.{Walked}
use Rattle.loc_state.proofs.Stepping.{begins, ends}
use Rattle.linear_scan.specs.Policy.{from, is_needed, bring_at, bring_one, bring_all, drop_one, drop_all, define_at, define_one, needed_in, call_one, operate, operate_all}
use Rattle.linear_scan.specs.Starts.{with_params}
use Rattle.linear_scan.specs.Linear.{Case, end_position, in_node}
use Rattle.linear_scan.proofs.Safe.{Safe, safe_less}
use Rattle.linear_scan.proofs.Bringing.{all_brought}
use Rattle.linear_scan.proofs.Needs.{Follows, follows_tail, passes, later_needed, alive, alive_needed}
use Rattle.linear_scan.proofs.Operating.{At, dead, operate_all_kept}
use Rattle.linear_scan.proofs.Wanted.{any_live, last_live, is_behind, wanted_alive, live_alive, alive_live, live_below, last_needed, end_at, at_node, block_is}
use Rattle.linear_scan.proofs.Fitting.{made_below, made_once, are_once, are_fitting}
use Rattle.linear_scan.proofs.Begins.{params_safe, are_values, begun_safe}

---- Steps leave the start places

module _ (need : ℕ → ℕ → Option ℕ) where
  bring_start : (p : ℕ) (keep : List ℕ) (u : ℕ) (t : Part) → (bring_one need p keep u t).start ≡ t.start
  bring_start p keep u t = by (Rattle.lir_core.specs.Spots.in_register t.regs u) (lowest_empty 0 t.regs)
    where
      by_reg : (o : Option ℕ) → (bring_at need p keep u o t).start ≡ t.start
      by_reg None = refl
      by_reg (Some r) = refl

      by : (b : Bool) (o : Option ℕ) → (cond b (brought u None t) (bring_at need p keep u o t)).start ≡ t.start
      by true o = refl
      by false o = by_reg o

  brings_start : (p : ℕ) (keep us : List ℕ) (t : Part) → (bring_all need p keep us t).start ≡ t.start
  brings_start p keep [] t = refl
  brings_start p keep (u ∷ us) t = brings_start p keep us (bring_one need p keep u t) ∙ bring_start p keep u t

  drop_start : (p v : ℕ) (t : Part) → (drop_one need p v t).start ≡ t.start
  drop_start p v t = by (is_needed need p v)
    where
      by : (b : Bool) → (cond b t (dropped v t)).start ≡ t.start
      by true = refl
      by false = refl

  drops_start : (p : ℕ) (vs : List ℕ) (t : Part) → (drop_all need p vs t).start ≡ t.start
  drops_start p [] t = refl
  drops_start p (v ∷ vs) t = drops_start p vs (drop_one need p v t) ∙ drop_start p v t

  define_start : (p i : ℕ) (o : Option ℕ) (t : Part) → (define_one need p i o t).start ≡ t.start
  define_start p i None t = refl
  define_start p i (Some v) t = drop_start p v (define_at need p i v (lowest_empty 0 t.regs) t) ∙ by (lowest_empty 0 t.regs)
    where
      by : (o : Option ℕ) → (define_at need p i v o t).start ≡ t.start
      by None = refl
      by (Some r) = refl

  keeps_start : (keep : List ℕ) (r : ℕ) (os : List (Option ℕ)) (t : Part) → (keeps_all keep r os t).start ≡ t.start
  keeps_start keep r [] t = refl
  keeps_start keep r (o ∷ os) t = keeps_start keep (suc r) os (keeps_one keep r o t)

  operate_start : (p i : ℕ) (x : Lir) (t : Part) → (operate need (drop_all need) p i x t).start ≡ t.start
  operate_start p i x t = by x.call
    where
      by : (b : Bool) → (cond b (call_one need (drop_all need) (p + 1) i x t) (define_one need (p + 1) i x.def (drop_all need (p + 1) x.uses (bring_all need p x.uses x.uses t)))).start ≡ t.start
      by true = drops_start (p + 1) (x.uses ++ option_to_list x.def) (called i (operation_of x) (needed_in need (p + 1) t.regs) t) ∙ keeps_start (needed_in need (p + 1) t.regs) 0 t.regs t
      by false = define_start (p + 1) i x.def (drop_all need (p + 1) x.uses (bring_all need p x.uses x.uses t)) ∙ drops_start (p + 1) x.uses (bring_all need p x.uses x.uses t) ∙ brings_start p x.uses x.uses t

  operates_start : (xs : List Lir) (p i : ℕ) (t : Part) → (operate_all need (drop_all need) p i xs t).start ≡ t.start
  operates_start [] p i t = refl
  operates_start (x ∷ xs) p i t = operates_start xs (p + 1) (i + 1) (operate need (drop_all need) p i x t) ∙ operate_start p i x t

-- what an end reads in registers it uses
pub reads_used : (end : End) (v : ℕ) → has (end_reads end) v ≡ true → has (end_uses end) v ≡ true
reads_used (Jump to args) v h = cc
reads_used (Branch k a b one other) v h = h
reads_used (Nonzero a one other) v h = h
reads_used (Return None) v h = cc
reads_used (Return (Some a)) v h = h
reads_used (Trap kind) v h = cc

few_reads : (end : End) → length (end_reads end) ≤ 2
few_reads (Jump to args) = omega arith
few_reads (Branch k a b one other) = omega arith
few_reads (Nonzero a one other) = omega arith
few_reads (Return None) = omega arith
few_reads (Return (Some a)) = omega arith
few_reads (Trap kind) = omega arith

module _ (x : Case) (need : ℕ → ℕ → Option ℕ) (valid : IsValidFlow x.flow) (live : HasLive x.flow x.rows) (four : 4 ≤ x.regs) where
  abbrev pub bls : List CodeBlock
  bls = code_nodes x.flow.nodes

  abbrev pub room : Room
  room = room_of x.regs x.flow

  -- all nodes are there
  abbrev pub AllThere : List ℕ → Type 0
  AllThere [] = Unit {0}
  AllThere (n ∷ ns) = ((node : Node) × (slice_get x.flow.nodes n ≡ Some node)) × AllThere ns

  pub all_there : (ns : List ℕ) → list_all (λ n. nat_lt n (length bls)) ns ≡ true → AllThere ns
  all_there [] h = tt
  all_there (n ∷ ns) h =
      let a = and_parts (nat_lt n (length bls)) (list_all (λ m. nat_lt m (length bls)) ns) h in
      let l = ltb-true n (length bls) a.0 in
      let k = length-map x.flow.nodes code_node in
      ((Rattle.std.proofs.Common.get_or x.flow.nodes n no_node, slice_get-get_or x.flow.nodes n no_node (omega (arith, l, k))), all_there ns a.1)

  -- the positions of a node that is there
  abbrev pub node_positions : Node → List ℕ → List Position
  node_positions node ns = at_start node ∷ (map at_operation node.lirs ++ (at_end x.flow.values x.rows (first_of ns) node ∷ positions_of x.flow x.rows ns))

  pub node_follows : (p n : ℕ) (node : Node) (ns : List ℕ) → slice_get x.flow.nodes n ≡ Some node → Follows need p (positions_of x.flow x.rows (n ∷ ns)) → Follows need p (node_positions node ns)
  node_follows p n node ns here fol =
      subst (λ ps. Follows need p (at_start node ∷ ps)) (append_assoc (map at_operation node.lirs) (at_end x.flow.values x.rows (first_of ns) node ∷ []) (positions_of x.flow x.rows ns))
      (subst (λ o. Follows need p (needs.in_node x.flow.values x.rows (first_of ns) o ++ positions_of x.flow x.rows ns)) here fol)

  pub behind_follows : (p : ℕ) (node : Node) (ns : List ℕ) → Follows need p (node_positions node ns) → Follows need (end_position p node + 1) (positions_of x.flow x.rows ns)
  behind_follows p node ns fol =
      follows_tail need (end_position p node) (at_end x.flow.values x.rows (first_of ns) node) (positions_of x.flow x.rows ns)
      (end_at need x.flow x.rows valid live node.lirs (p + 1) (at_end x.flow.values x.rows (first_of ns) node ∷ positions_of x.flow x.rows ns) (follows_tail need p (at_start node) (map at_operation node.lirs ++ (at_end x.flow.values x.rows (first_of ns) node ∷ positions_of x.flow x.rows ns)) fol))

  -- what is live into the next node is needed behind this one
  abbrev pub NextNeeded : ℕ → List ℕ → Type 0
  NextNeeded p ns = (m v : ℕ) → first_of ns ≡ Some m → Live bls v m → is_needed need p v ≡ true

  module _ (p n : ℕ) (node : Node) (ns : List ℕ) (here : slice_get x.flow.nodes n ≡ Some node) (fol : Follows need p (node_positions node ns)) (next : NextNeeded (end_position p node + 1) ns) where
    abbrev last : ℕ → Bool
    last = last_live x.rows node.end

    abbrev rest : List Position
    rest = at_end x.flow.values x.rows (first_of ns) node ∷ positions_of x.flow x.rows ns

    ops_follow : Follows need (p + 1) (map at_operation node.lirs ++ rest)
    ops_follow = follows_tail need p (at_start node) (map at_operation node.lirs ++ rest) fol

    last_is_needed : (v : ℕ) → last v ≡ true → is_needed need (end_position p node) v ≡ true
    last_is_needed v h = last_needed need x.flow x.rows valid live node (first_of ns) (end_position p node) (positions_of x.flow x.rows ns) (end_at need x.flow x.rows valid live node.lirs (p + 1) rest ops_follow) next v h

    alive_is_needed : (v : ℕ) → alive need node.lirs last v ≡ true → is_needed need (p + 1) v ≡ true
    alive_is_needed v h = alive_needed need node.lirs last (p + 1) rest ops_follow last_is_needed v h

    pub live_is_needed : (v : ℕ) → Live bls v n → is_needed need p v ≡ true
    live_is_needed v l = later_needed need p (at_start node) (map at_operation node.lirs ++ rest) fol v (alive_is_needed v (live_alive need x.flow x.rows valid live n node here v l))

    ---- The start

    abbrev pub Known : ℕ → Type 0
    Known v = (Live bls v n ⊎ (has node.params v ≡ true)) × At need (p + 1) node.lirs v

    abbrev there : block_at bls n ≡ code_node node
    there = block_is need x.flow x.rows valid live n node here

    live_unmade : (v : ℕ) → Live bls v n → has (block_makes (code_node node)) v ≡ false
    live_unmade v l = by (has (block_makes (code_node node)) v) refl
      where
        by : (b : Bool) → has (block_makes (code_node node)) v ≡ b → b ≡ false
        by false e = refl
        by true e = absurd (valid.code.placed.own v n (code_node node) (at_node need x.flow x.rows valid live n node here) e l)

    -- what is live into the node may have a place before its parameters do
    pub old_known : (v : ℕ) → Live bls v n → Known v × (has node.params v ≡ false)
    old_known v l =
        let u = live_unmade v l in
        ((inl l, (alive_is_needed v (live_alive need x.flow x.rows valid live n node here v l), not_in_back node.params (defs_of (map operation_of node.lirs)) v u)), not_in_front node.params (defs_of (map operation_of node.lirs)) v u)

    pub left_live : (v : ℕ) → cond (has node.params v) false (alive need node.lirs last v) ≡ true → Live bls v n
    left_live v h = by (has node.params v) refl h
      where
        by : (b : Bool) → has node.params v ≡ b → cond b false (alive need node.lirs last v) ≡ true → Live bls v n
        by true e h = cc
        by false e h = alive_live need x.flow x.rows valid live n node here v e h

    pub record IsReady (s : Places) : Type 0 where
      pub safe : Safe (alive need node.lirs last) Known s
      pub registers : length s.regs ≡ x.regs

    pub ready : (hint : List (Option ℕ)) (args : List ℕ) (q : Places) → length hint ≤ length q.regs → length q.regs ≡ x.regs → Safe (λ v. cond (has node.params v) false (alive need node.lirs last v)) (λ v. Known v × (has node.params v ≡ false)) q → IsReady (with_params (from need p) hint args 0 node.params q)
    ready hint args q l k s =
        let m = params_safe need p (alive need node.lirs last) Known hint args node.params 0 q l once wanted known s in
        record { safe = m.0; registers = m.1 ∙ k }
      where
        once : (v : ℕ) → times node.params v ≤ 1
        once v = let a = made_once x.flow valid n node there v in omega (arith, a)

        wanted : (v : ℕ) → has node.params v ≡ true → alive need node.lirs last v ≡ true → is_needed need p v ≡ true
        wanted v h a = later_needed need p (at_start node) (map at_operation node.lirs ++ rest) fol v (alive_is_needed v a)

        not_made : (v : ℕ) → has node.params v ≡ true → (b : Bool) → has (defs_of (map operation_of node.lirs)) v ≡ b → b ≡ false
        not_made v h false e = refl
        not_made v h true e = let a = made_once x.flow valid n node there v in let b = times_of_in node.params v h in let c = times_of_in (defs_of (map operation_of node.lirs)) v e in absurd (omega (arith, a, b, c))

        known : (v : ℕ) → has node.params v ≡ true → is_needed need p v ≡ true → Known v
        known v h k = (inr h, (sym (passes need p (at_start node) (map at_operation node.lirs ++ rest) fol v refl) ∙ k, not_made v h (has (defs_of (map operation_of node.lirs)) v) refl))

    ---- From the start to the end

    module _ (s : Places) (r : IsReady s) where
      values_below : (v : ℕ) → placed s v ≡ true → v < x.flow.values
      values_below v h = by (r.safe.known v h).0
        where
          by : Live bls v n ⊎ (has node.params v ≡ true) → v < x.flow.values
          by (inl l) = live_below need x.flow x.rows valid live v n l
          by (inr e) = made_below x.flow valid n node there v (Rattle.global_live.proofs.Lists.has_front node.params (defs_of (map operation_of node.lirs)) v e)

      abbrev ops : List Operation
      ops = map operation_of node.lirs

      abbrev t1 : Part
      t1 = operate_all need (drop_all need) (p + 1) 0 node.lirs (begun s)

      abbrev pub t2 : Part
      t2 = in_node x need (drop_all need) p node (begun s)

      calls_of : calls_marked node ≡ true
      calls_of = mark_of x.flow.nodes n node here valid.calls
        where
          mark_of : (nodes : List Node) (n : ℕ) (node : Node) → slice_get nodes n ≡ Some node → list_all calls_marked nodes ≡ true → calls_marked node ≡ true
          mark_of [] n node e h = cc
          mark_of (m ∷ nodes) zero node e h = let q : m ≡ node = cc in ap calls_marked (sym q) ∙ (and_parts (calls_marked m) (list_all calls_marked nodes) h).0
          mark_of (m ∷ nodes) (suc n) node e h = mark_of nodes n node e (and_parts (calls_marked m) (list_all calls_marked nodes) h).1

      operated : Walked room ops (length ops) [] t1 × Safe last (λ v. is_needed need (end_position p node) v ≡ true) (places t1) × (t1 ≡ operate_all need (dead need) (p + 1) 0 node.lirs (begun s))
      operated =
          operate_all_kept need room ops four last rest (end_position p node) last_is_needed node.lirs (p + 1) 0 (begun s) refl ops_follow
          (are_fitting x.flow valid n node there x.regs four valid.calls calls_of) (are_once x.flow valid n node there)
          (λ j. let e : 0 + j ≡ j = omega arith in ap (slice_get ops) e) (let k = length-map node.lirs operation_of in omega (arith, k))
          (begins room ops s r.registers (are_values x.flow.values s values_below))
          (begun_safe (alive need node.lirs last) (At need (p + 1) node.lirs) s (safe_less (alive need node.lirs last) _ s r.safe (alive need node.lirs last) (At need (p + 1) node.lirs) (λ v h. h) (λ v k. k.1)))

      ended : Walked room ops (length ops) (end_reads node.end) t2 × Safe last (λ v. is_needed need (end_position p node) v ≡ true) (places t2)
      ended =
          all_brought room ops last (λ v. is_needed need (end_position p node) v ≡ true) (length ops) need (end_position p node) (end_reads node.end)
          (let l = few_reads node.end in omega (arith, l, four)) (λ u h. ap (λ b. cond b true (any_live x.rows (successors node.end) u)) (reads_used node.end u h)) t1 operated.0 operated.1

      pub same_part : t2 ≡ in_node x need (dead need) p node (begun s)
      same_part = ap (bring_all need (end_position p node) (end_reads node.end) (end_reads node.end)) operated.2

      same_start : t2.start ≡ s
      same_start = brings_start need (end_position p node) (end_reads node.end) (end_reads node.end) t1 ∙ operates_start need node.lirs (p + 1) 0 (begun s)

      is_start : IsStart bls n s
      is_start = record {
        live = λ v l. r.safe.covers v (live_alive need x.flow x.rows valid live n node here v l);
        wanted = subst (λ bl. (v : ℕ) → has bl.params v ≡ true → IsWanted bls bl bl.ops v → placed s v ≡ true) (sym there) (λ v h w. r.safe.covers v (wanted_alive need x.flow x.rows valid live n node here v w));
        only = subst (λ bl. (v : ℕ) → placed s v ≡ true → Live bls v n ⊎ (has bl.params v ≡ true)) (sym there) (λ v h. (r.safe.known v h).0);
      }

      is_end : IsEnd bls n (places t2)
      is_end = record {
        read = subst (λ bl. (v : ℕ) → has (end_uses bl.end) v ≡ true → placed (places t2) v ≡ true) (sym there) (λ v h. ended.1.covers v (ap (λ b. cond b true (any_live x.rows (successors node.end) v)) h));
        live = subst (λ bl. (v : ℕ) → LiveBehind bls bl v → placed (places t2) v ≡ true) (sym there) (λ v l. ended.1.covers v (is_behind need x.flow x.rows valid live n node here v l));
      }

      pub node_walked : IsWalkedNode room bls n t2.start t2.lines t2.named (places t2)
      node_walked = record {
        row = (subst (IsRow x.regs) (sym same_start) (record { registers = r.registers; single = r.safe.single }), record { registers = ended.0.stands.registers; single = ended.1.single });
        rises = subst (λ q. IsRising q.homed) (sym same_start) r.safe.rising;
        starts = subst (IsStart bls n) (sym same_start) is_start;
        ends = is_end;
        walks = subst (λ bl. Walks room bl.ops (end_reads bl.end) t2.start t2.lines t2.named (places t2)) (sym there) (ends room ops (end_reads node.end) t2 ended.0);
      }

      -- the end places have all that is live into a node to which an edge leads, in a row of registers
      pub end_covers : (m v : ℕ) → leads bls m n ≡ true → Live bls v m → placed (places t2) v ≡ true
      end_covers m v e l = ended.1.covers v (is_behind need x.flow x.rows valid live n node here v (m, ap (λ bl. has (successors bl.end) m) (sym there) ∙ e, l))

      pub end_single : IsSingle t2.regs
      end_single = ended.1.single

      pub end_rises : IsRising (places t2).homed
      end_rises = ended.1.rising

      pub end_registers : length t2.regs ≡ x.regs
      end_registers = ended.0.stands.registers
