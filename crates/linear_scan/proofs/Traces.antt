-- All nodes of a trace, one after the other.
use Rattle.std.proofs.Common.{◌≡◌, ℕ, ◌+◌, ◌<◌, ◌≤◌, true, List, [], ◌∷◌, ◌++◌, length, get_or, replicate, Option, Some, None, refl, sym, ap, ap₂, ◌∙◌, subst, arith, append_assoc}
use Rattle.std.specs.Prelude.{slice_get}
use Rattle.std.proofs.Math.Path.{fun_ext}
use Rattle.std.proofs.lemmas.List.{length-map, length-replicate}
use Rattle.block_runs.specs.Blocks.{CodeBlock, block_at, end_uses}
use Rattle.block_runs.specs.declared.end.End.{End}
use Rattle.block_runs.specs.declared.end.End.TheVariants.{Jump, Branch, Nonzero, Return, Trap}
use Rattle.block_runs.specs.Live.{has, Live}
use Rattle.lir_core.specs.declared.flow.Node.{Node}
use Rattle.lir_core.specs.declared.flow.Flow.{Flow}
use Rattle.lir_core.specs.declared.flow.Trace.{Trace}
use Rattle.lir_core.specs.declared.places.Places.{Places}
use Rattle.lir_core.specs.declared.places.TraceOut.{TraceOut}
use Rattle.lir_core.specs.Flows.{code_nodes, leads, IsValidFlow, IsPath, IsTrace}
use Rattle.lir_core.specs.Rows.{has_bit, live_into}
use Rattle.lir_core.specs.Spots.{placed, IsSingle}
use Rattle.lir_core.specs.Lines.{Room}
use Rattle.lir_core.specs.Sound.{IsSound, EndsRise, room_of}
use Rattle.walked_results.specs.Walked.{IsWalked}
use Rattle.walked_results.proofs.Nodes.{AllWalked, walked_more, whole}
use Rattle.global_live.specs.Reading.{HasLive}
use Rattle.global_live.proofs.Lists.{has-filter}
use Rattle.trace_needs.specs.Needs.{first_of, positions_of, next_need}
use Rattle.loc_state.specs.declared.part.Part.{Part}
use Rattle.loc_state.specs.declared.forward.Forward.{Forward}
use Rattle.loc_state.specs.Steps.{places, begun, started, closed, in_part}
use Rattle.linear_scan.specs.Policy.{from, drop_dead, drop_all}
use Rattle.linear_scan.specs.Starts.{arguments_of, only_live, with_params, start_behind, start_afresh}
use Rattle.linear_scan.specs.Linear.{Case, Hint, params_of, end_of, end_position, position_behind, first_start, next_start, in_node, behind, along, result_of, result_by, need_in, linear}
use Rattle.linear_scan.specs.Inputs.{IsFit, FitsHead, IsInput, hint_at}
use Rattle.linear_scan.proofs.Needs.{Follows, follows_all}
use Rattle.linear_scan.proofs.Operating.{dead}
use Rattle.linear_scan.proofs.Wanted.{last_live, live_below, live_alive}
use Rattle.linear_scan.proofs.Begins.{only_live_safe, homed_safe}
use Rattle.linear_scan.proofs.Nodes.{AllThere, all_there, node_positions, node_follows, behind_follows, NextNeeded, live_is_needed, old_known, left_live, IsReady, ready, node_walked, same_part, end_covers, end_single, end_rises, end_registers}

module _ (x : Case) (need : ℕ → ℕ → Option ℕ) (valid : IsValidFlow x.flow) (live : HasLive x.flow x.rows) (four : 4 ≤ x.regs) where
  abbrev blocks : List CodeBlock
  blocks = code_nodes x.flow.nodes

  abbrev space : Room
  space = room_of x.regs x.flow

  abbrev There : List ℕ → Type 0
  There ns = AllThere x need valid live four ns

  -- what is live into a trace's first node is needed from its start on
  first_needed : (ns : List ℕ) (p : ℕ) → There ns → Follows need p (positions_of x.flow x.rows ns) → NextNeeded x need valid live four p ns
  first_needed [] p there fol m v e l = cc
  first_needed (n ∷ ns) p there fol m v e l =
      let node = there.0.0 in
      let here = there.0.1 in
      let at = node_follows x need valid live four p n node ns here fol in
      let q : n ≡ m = cc in
      live_is_needed x need valid live four p n node ns here at (first_needed ns (end_position p node + 1) there.1 (behind_follows x need valid live four p node ns at)) v (subst (Live blocks v) (sym q) l)

  -- the node that comes next is begun, where its start is position p
  record Begun (p n : ℕ) (ns : List ℕ) (t : Part) : Type 0 where
    node : Node
    here : slice_get x.flow.nodes n ≡ Some node
    at : Follows need p (node_positions x need valid live four node ns)
    next : NextNeeded x need valid live four (end_position p node + 1) ns
    start : Places
    is : t ≡ begun start
    good : IsReady x need valid live four p n node ns here at next start

  -- a start behind places that have all that is live
  begun_behind : (p n : ℕ) (ns : List ℕ) (there : There (n ∷ ns)) (fol : Follows need p (positions_of x.flow x.rows (n ∷ ns))) (args : List ℕ) (q : Places) → length q.regs ≡ x.regs → IsSingle q.regs → ((v : ℕ) → Live blocks v n → placed q v ≡ true) → Begun p n ns (begun (start_behind (from need p) (has_bit x.rows n) (params_of (slice_get x.flow.nodes n)) args q))
  begun_behind p n ns there fol args q k single covers =
      let node = there.0.0 in
      let here = there.0.1 in
      let at = node_follows x need valid live four p n node ns here fol in
      let next = first_needed ns (end_position p node + 1) there.1 (behind_follows x need valid live four p node ns at) in
      let size : length (only_live (has_bit x.rows n) q).regs ≡ length q.regs = length-map q.regs _ in
      record {
        node = node;
        here = here;
        at = at;
        next = next;
        start = with_params (from need p) q.regs args 0 node.params (only_live (has_bit x.rows n) q);
        is = ap (λ o. begun (start_behind (from need p) (has_bit x.rows n) (params_of o) args q)) here;
        good = ready x need valid live four p n node ns here at next q.regs args (only_live (has_bit x.rows n) q) (omega (arith, size)) (size ∙ k)
            (only_live_safe (has_bit x.rows n) q _ _ single
            (λ v h. let l = left_live x need valid live four p n node ns here at next v h in (covers v l, live.whole n v l))
            (λ v h. old_known x need valid live four p n node ns here at next v (live.exact n v h)));
      }

  -- a start with no places before it
  begun_afresh : (p n : ℕ) (ns : List ℕ) (there : There (n ∷ ns)) (fol : Follows need p (positions_of x.flow x.rows (n ∷ ns))) → Begun p n ns (begun (start_afresh (from need p) x.regs (live_into x.flow.values x.rows n) (params_of (slice_get x.flow.nodes n))))
  begun_afresh p n ns there fol =
      let node = there.0.0 in
      let here = there.0.1 in
      let at = node_follows x need valid live four p n node ns here fol in
      let next = first_needed ns (end_position p node + 1) there.1 (behind_follows x need valid live four p node ns at) in
      let q : Places = record { regs = replicate x.regs None; homed = Rattle.loc_state.specs.Homed.all_inserted (live_into x.flow.values x.rows n) [] } in
      let size : length q.regs ≡ x.regs = length-replicate {A = Option ℕ} x.regs None in
      record {
        node = node;
        here = here;
        at = at;
        next = next;
        start = with_params (from need p) [] [] 0 node.params q;
        is = ap (λ o. begun (start_afresh (from need p) x.regs (live_into x.flow.values x.rows n) (params_of o))) here;
        good = ready x need valid live four p n node ns here at next [] [] q (omega arith) size
            (homed_safe x.regs (live_into x.flow.values x.rows n) _ _
            (λ v h. in_live v n (left_live x need valid live four p n node ns here at next v h))
            (λ v h. old_known x need valid live four p n node ns here at next v (live.exact n v (bit v n h))));
      }
    where
      in_live : (v m : ℕ) → Live blocks v m → has (live_into x.flow.values x.rows m) v ≡ true
      in_live v m l = Rattle.linear_scan.proofs.Wanted.in_live_into need x.flow x.rows valid live v m l

      bit : (v m : ℕ) → has (live_into x.flow.values x.rows m) v ≡ true → has_bit x.rows m v ≡ true
      bit v m h = (Rattle.std.proofs.lemmas.Bool.and_parts (has (Rattle.run_laws.specs.Layers.places_from 0 x.flow.values) v) (has_bit x.rows m v) (sym (has-filter (has_bit x.rows m) (Rattle.run_laws.specs.Layers.places_from 0 x.flow.values) v) ∙ h)).1

  abbrev AllBegun : ℕ → List ℕ → Part → Type 0
  AllBegun p [] t = Unit {0}
  AllBegun p (n ∷ ns) t = Begun p n ns t

  abbrev WalkedLists : List ℕ → Forward → Type 0
  WalkedLists ns f = AllWalked space blocks ns f.starts f.lines f.regs f.ends

  -- where a node starts whose trace goes on
  next_begun : (p : ℕ) (end : End) (q : Places) (ns : List ℕ) (there : There ns) (fol : Follows need p (positions_of x.flow x.rows ns)) → length q.regs ≡ x.regs → IsSingle q.regs → ((m v : ℕ) → first_of ns ≡ Some m → Live blocks v m → placed q v ≡ true) → AllBegun p ns (begun (Rattle.loc_state.specs.Steps.start_of (next_start x need p end q (first_of ns))))
  next_begun p end q [] there fol k single covers = tt
  next_begun p end q (m ∷ ms) there fol k single covers = begun_behind p m ms there fol (arguments_of end) q k single (λ v l. covers m v refl l)

  first_leads : (n : ℕ) (ns : List ℕ) → IsPath blocks (n ∷ ns) → (m : ℕ) → first_of ns ≡ Some m → leads blocks m n ≡ true
  first_leads n [] path m e = cc
  first_leads n (k ∷ ns) path m e = let q : k ≡ m = cc in ap (λ y. leads blocks y n) (sym q) ∙ path.0

  rest_path : (n : ℕ) (ns : List ℕ) → IsPath blocks (n ∷ ns) → IsPath blocks ns
  rest_path n [] path = tt
  rest_path n (k ∷ ns) path = path.1

  along_kept : (ns : List ℕ) (p : ℕ) (done : List ℕ) (f : Forward) → (there : There ns) → IsPath blocks ns → (fol : Follows need p (positions_of x.flow x.rows ns)) → WalkedLists done f → AllBegun p ns f.part → WalkedLists (done ++ ns) (along x need (drop_all need) p ns f) × (along x need (drop_all need) p ns f ≡ along x need (dead need) p ns f)
  along_kept [] p done f there path fol s b = (subst (λ d. WalkedLists d f) (sym (Rattle.loc_state.proofs.Numbers.append_nil done)) s, refl)
  along_kept (n ∷ ns) p done f there path fol s b =
      let node = b.node in
      let next = first_of ns in
      let go : Part → Forward = λ t. closed (next_start x need (end_position p node + 1) node.end (places t) next) (record f { part = t }) in
      let t : Part = in_node x need (drop_all need) p node (begun b.start) in
      let same : in_node x need (drop_all need) p node f.part ≡ t = ap (in_node x need (drop_all need) p node) b.is in
      let other : in_node x need (dead need) p node f.part ≡ in_node x need (dead need) p node (begun b.start) = ap (in_node x need (dead need) p node) b.is in
      let walked = walked_more space blocks done f.starts f.lines f.regs f.ends n t.start t.lines t.named (places t) s (node_walked x need valid live four p n node ns b.here b.at b.next b.start b.good, end_rises x need valid live four p n node ns b.here b.at b.next b.start b.good) in
      let fol' = behind_follows x need valid live four p node ns b.at in
      let begun' = next_begun (end_position p node + 1) node.end (places t) ns there.1 fol' (end_registers x need valid live four p n node ns b.here b.at b.next b.start b.good) (end_single x need valid live four p n node ns b.here b.at b.next b.start b.good) (λ m v e l. end_covers x need valid live four p n node ns b.here b.at b.next b.start b.good m v (first_leads n ns path m e) l) in
      let more = along_kept ns (end_position p node + 1) (done ++ n ∷ []) (go t) there.1 (rest_path n ns path) fol' walked begun' in
      let equal : go t ≡ go (in_node x need (dead need) p node (begun b.start)) = ap go (same_part x need valid live four p n node ns b.here b.at b.next b.start b.good) in
      let P : (ℕ → List ℕ → Part → Part) → Option Node → Forward = λ d o. along x need d (position_behind p o) ns (behind x need d p o next f) in
      let swift : P (drop_all need) (slice_get x.flow.nodes n) ≡ along x need (drop_all need) (end_position p node + 1) ns (go t) = ap (P (drop_all need)) b.here ∙ ap (λ y. along x need (drop_all need) (end_position p node + 1) ns (go y)) same in
      let plain : P (dead need) (slice_get x.flow.nodes n) ≡ along x need (dead need) (end_position p node + 1) ns (go (in_node x need (dead need) p node (begun b.start))) = ap (P (dead need)) b.here ∙ ap (λ y. along x need (dead need) (end_position p node + 1) ns (go y)) other in (
        subst (WalkedLists (done ++ n ∷ ns)) (sym swift) (subst (λ d. WalkedLists d (along x need (drop_all need) (end_position p node + 1) ns (go t))) (append_assoc done (n ∷ []) ns) more.0),
        swift ∙ more.1 ∙ ap (along x need (dead need) (end_position p node + 1) ns) equal ∙ sym plain,
      )

  -- the first node's start
  first_begun : (n : ℕ) (ns : List ℕ) (hint : Option Hint) (there : There (n ∷ ns)) (fol : Follows need 0 (positions_of x.flow x.rows (n ∷ ns))) → FitsHead x.regs blocks (n ∷ ns) hint → Begun 0 n ns (begun (first_start x need n hint))
  first_begun n ns None there fol fit = begun_afresh 0 n ns there fol
  first_begun n ns (Some h) there fol fit = begun_behind 0 n ns there fol (end_of (slice_get x.flow.nodes h.node)) h.places fit.row.registers fit.row.single fit.live

---- The whole result

module _ (x : Case) (ns : List ℕ) (hint : Option Hint) (given : IsInput x ns hint) (number : ℕ) where
  abbrev need : ℕ → ℕ → Option ℕ
  need = need_in x ns

  pub swift_is_linear : (result_by x need (drop_all need) number ns hint ≡ linear x number ns hint) × IsWalked x.regs x.flow (record { nodes = ns }) (result_by x need (drop_all need) number ns hint) × EndsRise (result_by x need (drop_all need) number ns hint)
  swift_is_linear = by ns hint refl given.trace given.fit (follows_all (positions_of x.flow x.rows ns))
    where
      by : (ms : List ℕ) (hint : Option Hint) → ms ≡ ns → IsTrace (code_nodes x.flow.nodes) ms → FitsHead x.regs (code_nodes x.flow.nodes) ms hint → Follows (need_in x ns) 0 (positions_of x.flow x.rows ns) → (result_by x (need_in x ns) (drop_all (need_in x ns)) number ms hint ≡ result_by x (need_in x ns) (λ p vs t. drop_dead (need_in x ns) p t) number ms hint) × IsWalked x.regs x.flow (record { nodes = ms }) (result_by x (need_in x ns) (drop_all (need_in x ns)) number ms hint) × EndsRise (result_by x (need_in x ns) (drop_all (need_in x ns)) number ms hint)
      by [] hint e trace fit fol = let l = trace.some in absurd (omega (arith, l))
      by (n ∷ ms) hint e trace fit fol =
          let need' = need_in x ns in
          let there = all_there x need' given.valid given.live given.enough (n ∷ ms) trace.nodes in
          let fol' = subst (λ ks. Follows need' 0 (positions_of x.flow x.rows ks)) (sym e) fol in
          let f = started (first_start x need' n hint) in
          let k = along_kept x need' given.valid given.live given.enough (n ∷ ms) 0 [] f there trace.path fol' tt (first_begun x need' given.valid given.live given.enough n ms hint there fol' fit) in
          let g = along x need' (drop_all need') 0 (n ∷ ms) f in
          let w = whole (room_of x.regs x.flow) (code_nodes x.flow.nodes) (n ∷ ms) g.starts g.lines g.regs g.ends k.0 in
          (ap (result_of number) k.1, record { counts = w.counts; nodes = w.nodes }, w.rise)

---- Hints

args_used : (end : End) (v : ℕ) → has (arguments_of end) v ≡ true → has (end_uses end) v ≡ true
args_used (Jump to args) v h = h
args_used (Branch k a b one other) v h = cc
args_used (Nonzero a one other) v h = cc
args_used (Return a) v h = cc
args_used (Trap kind) v h = cc

pub ends_fit : (k : ℕ) (f : Flow) (t : Trace) (o : TraceOut) → IsSound k f t o → EndsRise o → (i head : ℕ) → i < length t.nodes → leads (code_nodes f.nodes) head (get_or t.nodes i 0) ≡ true → IsFit k (code_nodes f.nodes) head (hint_at t o i)
ends_fit k f t o s rise i head lt e =
    let n = s.nodes i lt in
    record { edge = e; row = n.row.1; rises = rise i; live = λ v l. n.ends.live v (head, e, l); arguments = λ v h. n.ends.read v (args_used (block_at (code_nodes f.nodes) (get_or t.nodes i 0)).end v h) }

---- The code's result

-- what the call gives, where its steps are those of the definition by the needs that positions tell
pub record IsMade (x : Case) (number : ℕ) (ns : List ℕ) (hint : Option Hint) (told : ℕ → ℕ → Option ℕ) (head : ℕ) (out : TraceOut) : Type 0 where
  pub first : Some head ≡ slice_get ns 0
  pub needs : (v at : ℕ) → told v at ≡ next_need (positions_of x.flow x.rows ns) v at
  pub is : out ≡ result_of number (along x told (drop_all told) 0 ns (started (first_start x told head hint)))

pub made_is : (x : Case) (number : ℕ) (ns : List ℕ) (hint : Option Hint) (told : ℕ → ℕ → Option ℕ) (head : ℕ) (out : TraceOut) → IsMade x number ns hint told head out → out ≡ result_by x (need_in x ns) (drop_all (need_in x ns)) number ns hint
made_is x number [] hint told head out m = let e = m.first in cc
made_is x number (n ∷ ns) hint told head out m =
    let same : told ≡ need_in x (n ∷ ns) = fun_ext (λ v. fun_ext (λ at. m.needs v at)) in
    m.is ∙ ap₂ (λ t h. result_of number (along x t (drop_all t) 0 (n ∷ ns) (started (first_start x t h hint)))) same (let e = m.first in let q : head ≡ n = cc in q)

pub made_linear : (x : Case) (number : ℕ) (ns : List ℕ) (hint : Option Hint) (told : ℕ → ℕ → Option ℕ) (head : ℕ) (out : TraceOut) → IsMade x number ns hint told head out → IsInput x ns hint → out ≡ linear x number ns hint
made_linear x number ns hint told head out m given = made_is x number ns hint told head out m ∙ (swift_is_linear x ns hint given number).0

pub made_walked : (x : Case) (number : ℕ) (ns : List ℕ) (hint : Option Hint) (told : ℕ → ℕ → Option ℕ) (head : ℕ) (out : TraceOut) → IsMade x number ns hint told head out → IsInput x ns hint → IsWalked x.regs x.flow (record { nodes = ns }) out
made_walked x number ns hint told head out m given = subst (IsWalked x.regs x.flow (record { nodes = ns })) (sym (made_is x number ns hint told head out m)) (swift_is_linear x ns hint given number).1

pub made_rises : (x : Case) (number : ℕ) (ns : List ℕ) (hint : Option Hint) (told : ℕ → ℕ → Option ℕ) (head : ℕ) (out : TraceOut) → IsMade x number ns hint told head out → IsInput x ns hint → EndsRise out
made_rises x number ns hint told head out m given = subst EndsRise (sym (made_is x number ns hint told head out m)) (swift_is_linear x ns hint given number).2
