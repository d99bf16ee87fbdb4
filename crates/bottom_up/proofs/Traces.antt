-- The whole trace, and its result.
use Rattle.std.proofs.Common.{◌≡◌, ℕ, ◌≤◌, Bool, true, false, ◌&&◌, cond, List, [], ◌∷◌, Option, Some, None, refl, sym, ap, ap₂, ◌∙◌, subst, ◌⊎◌, inl, inr, ⊎_elim}
use Rattle.std.specs.Prelude.{slice_get}
use Rattle.block_runs.specs.Blocks.{CodeBlock, block_at, end_uses, successors}
use Rattle.block_runs.specs.Live.{has, Live, Later, LiveBehind, IsWanted}
use Rattle.lir_core.specs.declared.flow.Node.{Node}
use Rattle.lir_core.specs.declared.places.Places.{Places}
use Rattle.lir_core.specs.declared.places.Line.{Line}
use Rattle.lir_core.specs.Flows.{code_node, code_nodes, leads, IsPath, AreDifferent, IsValidFlow}
use Rattle.lir_core.specs.Spots.{in_register, placed}
use Rattle.lir_core.specs.Lines.{end_reads, Room}
use Rattle.lir_core.specs.Walks.{Walks}
use Rattle.lir_core.specs.Sound.{EndsRise, room_of}
use Rattle.walked_results.specs.Walked.{IsWalkedNode, IsWalked}
use Rattle.walked_results.proofs.Nodes.{AllWalked, whole}
use Rattle.lir_core.specs.Rows.{live_into}
use Rattle.global_live.specs.Reading.{HasLive}
use Rattle.global_live.proofs.Lists.{has_back, has-filter, in_parts}
use Rattle.trace_needs.specs.Needs.{first_of}
use Rattle.loc_state.specs.Walked.{AllWalk}
use Rattle.loc_state.proofs.Homing.{has_all_inserted}
use Rattle.loc_state.proofs.Numbers.{either, in_reg, in_home}
use Rattle.loc_back.specs.declared.backward.Backward.{Backward}
use Rattle.loc_back.specs.Marks.{at_start, at_end, marked, with_marks, starts_marked, ends_marked}
use Rattle.loc_back.specs.Steps.{started, left_node, closed}
use Rattle.loc_back.specs.Served.{Section, lives_from, Route, section_of, sections, tasks}
use Rattle.loc_back.proofs.MarkedSets.{has_marked, marked_rises}
use Rattle.loc_back.proofs.Walks.{starts_to, closes_to}
use Rattle.linear_scan.specs.Linear.{Case, position_behind}
use Rattle.linear_scan.specs.Inputs.{IsInput}
use Rattle.linear_scan.proofs.Nodes.{AllThere, all_there}
use Rattle.linear_scan.proofs.Wanted.{at_node}
use Rattle.bottom_up.specs.Bottom.{made_by, made_along, live_first, homed_first, along, walked_back, result_of}
use Rattle.bottom_up.proofs.Sections.{sec, used_after, live_after, live_lives, wanted_lives, lives_live, starts, there, not_here}
use Rattle.bottom_up.proofs.Nodes.{IsKept, AllKept, AreBehind, node_more}

---- Places with their homes

both : (b c : Bool) → cond (cond b c false) true false ≡ true → (b ≡ true) × (c ≡ true)
both true true e = (refl, refl)
both true false e = cc
both false c e = cc

-- what is placed stays placed where its home is marked
placed_marked : (regs : List (Option ℕ)) (homed vs : List ℕ) (v : ℕ) → has vs v ≡ true → placed (record { regs = regs; homed = homed }) v ≡ true → placed (record { regs = regs; homed = marked homed vs [] }) v ≡ true
placed_marked regs homed vs v h p = ⊎_elim (λ e. in_reg (record { regs = regs; homed = marked homed vs [] }) v e) (λ e. in_home (record { regs = regs; homed = marked homed vs [] }) v (has_marked homed vs [] v ∙ ap (λ b. cond (cond b (has homed v) false) true false) h ∙ ap (λ b. cond b true false) e)) (either (record { regs = regs; homed = homed }) v p)

module _ (x : Case) (mention : ℕ → ℕ → Option ℕ) (valid : IsValidFlow x.flow) (live : HasLive x.flow x.rows) (four : 4 ≤ x.regs) where
  abbrev blocks : List CodeBlock
  blocks = code_nodes x.flow.nodes

  abbrev space : Room
  space = room_of x.regs x.flow

  abbrev no_need : ℕ → ℕ → Option ℕ
  no_need v p = None

  abbrev There : List ℕ → Type 0
  There ns = AllThere x no_need valid live four ns

  module _ (first : List ℕ) where
    -- what is live into the first of some nodes and made by one of them is homed from the beginning
    abbrev Reach : List ℕ → Type 0
    Reach ns = (m v : ℕ) → first_of ns ≡ Some m → Live blocks v m → has (made_along x.flow.nodes ns) v ≡ true → has first v ≡ true

    edge_of : (n : ℕ) (node : Node) → slice_get x.flow.nodes n ≡ Some node → (ns : List ℕ) → IsPath blocks (n ∷ ns) → (m : ℕ) → first_of ns ≡ Some m → has (successors node.end) m ≡ true
    edge_of n node here [] path m e = cc
    edge_of n node here (k ∷ ns) path m e = let q : k ≡ m = cc in ap (λ bl. has (successors bl.end) m) (sym (there x.flow x.rows valid live n node here)) ∙ ap (λ y. leads blocks y n) (sym q) ∙ path.0

    rest_path : (n : ℕ) (ns : List ℕ) → IsPath blocks (n ∷ ns) → IsPath blocks ns
    rest_path n [] path = tt
    rest_path n (k ∷ ns) path = path.1

    next_there : (ns : List ℕ) → There ns → (m : ℕ) → first_of ns ≡ Some m → (other : Node) × (slice_get x.flow.nodes m ≡ Some other)
    next_there [] t m e = cc
    next_there (k ∷ ns) t m e = let q : k ≡ m = cc in (t.0.0, ap (slice_get x.flow.nodes) (sym q) ∙ t.0.1)

    none : Section
    none = record { ops = []; last = []; before = []; after = [] }

    along_kept : (ns : List ℕ) (p : ℕ) → There ns → IsPath blocks ns → AreDifferent ns → Reach ns → AreBehind x mention valid live four first ns (along x mention p ns (started first x.regs))
    unfolding none
    along_kept [] p t path apart reach = record {
      done = [];
      here = none;
      made = [];
      sections_are = refl;
      are_made = λ v h. cc;
      sim = starts_to (record { room = space; done = []; here = none; made = [] }) first x.regs refl refl refl;
      starts = λ v h. cc;
      firsts = λ v h. has_all_inserted first [] v ∙ ap (λ b. cond b true false) h;
      kept = tt;
      covers = λ m v e l. cc;
      goes = λ v h np. cc;
    }
    along_kept (n ∷ ns) p t path apart reach =
        let node = t.0.0 in
        let here = t.0.1 in
        let edge = edge_of n node here ns path in
        let next : Reach ns = λ m v e l h. reach n v refl (Later n m (code_node node) (at_node no_need x.flow x.rows valid live n node here) (not_here x.flow x.rows valid live n node here ns apart.0 v h) (edge m e) l) (has_back (made_by (slice_get x.flow.nodes n)) (made_along x.flow.nodes ns) v h) in
        node_more x mention valid live four first n node here ns apart.0 edge (λ v l h. reach n v refl l h) (next_there ns t.1) (along x mention (position_behind p (slice_get x.flow.nodes n)) ns (started first x.regs))
        (along_kept ns (position_behind p (slice_get x.flow.nodes n)) t.1 (rest_path n ns path) apart.1 next) p

  ---- The walk accepts each node

  module _ (homed : List ℕ) (n : ℕ) (node : Node) (here : slice_get x.flow.nodes n ≡ Some node) (s e : Places) (lines : List Line) (named : List ℕ) (k : IsKept x.regs (sec x.flow x.rows valid live n node here) homed s.regs e.regs) where
    abbrev b : Section
    b = sec x.flow x.rows valid live n node here

    abbrev start : Places
    start = with_marks homed b.before s

    abbrev end : Places
    end = with_marks homed b.after e

    at : block_at blocks n ≡ code_node node
    at = there x.flow x.rows valid live n node here

    start_placed : (v : ℕ) → lives_from b 0 v ≡ true → placed start v ≡ true
    start_placed v l = placed_marked s.regs homed b.before v (starts x.flow x.rows valid live n node here v l) (k.start_covers v l)

    only : (v : ℕ) → placed start v ≡ true → Live blocks v n ⊎ (has node.params v ≡ true)
    only v p = ⊎_elim reg homes (either start v p)
      where
        by : lives_from b 0 v ≡ true → (c : Bool) → has node.params v ≡ c → Live blocks v n ⊎ (has node.params v ≡ true)
        by l true q = inr q
        by l false q = inl (lives_live x.flow x.rows valid live n node here v q l)

        reg : in_register s.regs v ≡ true → Live blocks v n ⊎ (has node.params v ≡ true)
        reg q = by (k.start_living (Rattle.loc_state.specs.Registers.register_of v s.regs) v (Rattle.loc_state.proofs.Numbers.register_at s.regs v q)) (has node.params v) refl

        homes : has (marked homed b.before []) v ≡ true → Live blocks v n ⊎ (has node.params v ≡ true)
        homes q =
            let m = both (has b.before v) (has homed v) (sym (has_marked homed b.before [] v) ∙ q) in
            ⊎_elim (λ l. inl (live.exact n v (Rattle.std.proofs.lemmas.Bool.and_parts (has (Rattle.run_laws.specs.Layers.places_from 0 x.flow.values) v) (Rattle.lir_core.specs.Rows.has_bit x.rows n v) (sym (has-filter (Rattle.lir_core.specs.Rows.has_bit x.rows n) (Rattle.run_laws.specs.Layers.places_from 0 x.flow.values) v) ∙ l)).1)) inr (in_parts (live_into x.flow.values x.rows n) node.params v m.0)

    end_placed : (v : ℕ) → has b.after v ≡ true → placed end v ≡ true
    end_placed v h = placed_marked e.regs homed b.after v h (k.end_covers v h)

    node_walked : Walks space b.ops b.last start lines named end → IsWalkedNode space blocks n start lines named end
    unfolding at
    node_walked w = record {
      row = (record { registers = k.start_size; single = k.start_single }, record { registers = k.end_size; single = k.end_single });
      rises = marked_rises homed b.before [] tt;
      starts = record {
        live = λ v l. start_placed v (live_lives x.flow x.rows valid live n node here v l);
        wanted = subst (λ bl. (v : ℕ) → has bl.params v ≡ true → IsWanted blocks bl bl.ops v → placed start v ≡ true) (sym at) (λ v h q. start_placed v (wanted_lives x.flow x.rows valid live n node here v q));
        only = subst (λ bl. (v : ℕ) → placed start v ≡ true → Live blocks v n ⊎ (has bl.params v ≡ true)) (sym at) only;
      };
      ends = record {
        read = subst (λ bl. (v : ℕ) → has (end_uses bl.end) v ≡ true → placed end v ≡ true) (sym at) (λ v h. end_placed v (used_after x.flow x.rows valid live n node here v h));
        live = subst (λ bl. (v : ℕ) → LiveBehind blocks bl v → placed end v ≡ true) (sym at) (λ v l. end_placed v (live_after x.flow x.rows valid live n node here v l));
      };
      walks = subst (λ bl. Walks space bl.ops (end_reads bl.end) start lines named end) (sym at) w;
    }

  all_walked : (homed ns : List ℕ) → There ns → (ss : List Places) (ls : List (List Line)) (rs : List (List ℕ)) (es : List Places) → AllWalk space (tasks (sections x.flow x.rows ns)) (starts_marked x.flow x.rows homed ns ss) ls rs (ends_marked x.flow x.rows homed ns es) → AllKept x.regs homed (sections x.flow x.rows ns) ss es → AllWalked space blocks ns (starts_marked x.flow x.rows homed ns ss) ls rs (ends_marked x.flow x.rows homed ns es)
  all_walked homed [] t [] [] [] [] w k = tt
  all_walked homed [] t [] [] (y ∷ rs) [] w k = absurd w
  all_walked homed [] t [] (y ∷ ls) rs [] w k = absurd w
  all_walked homed [] t [] ls rs (y ∷ es) w k = absurd k
  all_walked homed [] t (y ∷ ss) ls rs es w k = absurd k
  all_walked homed (n ∷ ns) t [] ls rs es w k = absurd k
  all_walked homed (n ∷ ns) t (s ∷ ss) ls rs [] w k = absurd k
  all_walked homed (n ∷ ns) t (s ∷ ss) [] rs (e ∷ es) w k = absurd w
  all_walked homed (n ∷ ns) t (s ∷ ss) (l ∷ ls) [] (e ∷ es) w k = absurd w
  all_walked homed (n ∷ ns) t (s ∷ ss) (l ∷ ls) (r ∷ rs) (e ∷ es) w k =
      ((by (slice_get x.flow.nodes n) t.0.1 w.0 k.0, marked_rises homed (at_end x.flow.values x.rows (slice_get x.flow.nodes n)) [] tt), all_walked homed ns t.1 ss ls rs es w.1 k.1)
    where
      by : (o : Option Node) → slice_get x.flow.nodes n ≡ Some t.0.0 → Walks space (section_of x.flow.values x.rows n (slice_get x.flow.nodes n)).ops (section_of x.flow.values x.rows n (slice_get x.flow.nodes n)).last (with_marks homed (at_start x.flow.values x.rows n (slice_get x.flow.nodes n)) s) l r (with_marks homed (at_end x.flow.values x.rows (slice_get x.flow.nodes n)) e) → IsKept x.regs (section_of x.flow.values x.rows n (slice_get x.flow.nodes n)) homed s.regs e.regs → IsWalkedNode space blocks n (with_marks homed (at_start x.flow.values x.rows n (slice_get x.flow.nodes n)) s) l r (with_marks homed (at_end x.flow.values x.rows (slice_get x.flow.nodes n)) e)
      by o q w k =
          subst (λ o. Walks space (section_of x.flow.values x.rows n o).ops (section_of x.flow.values x.rows n o).last (with_marks homed (at_start x.flow.values x.rows n o) s) l r (with_marks homed (at_end x.flow.values x.rows o) e) → IsKept x.regs (section_of x.flow.values x.rows n o) homed s.regs e.regs → IsWalkedNode space blocks n (with_marks homed (at_start x.flow.values x.rows n o) s) l r (with_marks homed (at_end x.flow.values x.rows o) e)) (sym q)
          (λ w k. node_walked homed n t.0.0 q s e l r k w) w k

---- The result

pub bottom_walked : (x : Case) (mention : ℕ → ℕ → Option ℕ) (ns : List ℕ) → IsInput x ns None → (number : ℕ) → IsWalked x.regs x.flow (record { nodes = ns }) (result_of number (walked_back x mention ns)) × EndsRise (result_of number (walked_back x mention ns))
bottom_walked x mention ns given number =
    let t = all_there x (λ v p. None) given.valid given.live given.enough ns given.trace.nodes in
    let b = along x mention 0 ns (started (homed_first x ns) x.regs) in
    let a = along_kept x mention given.valid given.live given.enough (homed_first x ns) ns 0 t given.trace.path given.trace.different reach in
    let route : Route = record { room = room_of x.regs x.flow; done = a.done; here = a.here; made = a.made } in
    let left = left_node b in
    let c = closed x.flow x.rows ns b in
    let w = subst (λ bs. AllWalk (room_of x.regs x.flow) (tasks bs) c.starts c.lines c.regs c.ends) (sym a.sections_are) (closes_to route x.flow x.rows ns b (record { nodes = a.sections_are; starts = a.starts }) a.sim) in
    let k = subst (λ bs. AllKept x.regs b.part.homed bs left.starts left.ends) (sym a.sections_are) a.kept in
    let k' = subst (λ hs. AllKept x.regs hs (sections x.flow x.rows ns) left.starts left.ends) (sym (homed_same b)) k in
    let s = all_walked x mention given.valid given.live given.enough left.part.homed ns t left.starts left.lines left.regs left.ends w k' in
    let r = whole (room_of x.regs x.flow) (code_nodes x.flow.nodes) ns c.starts c.lines c.regs c.ends s in
    (record { counts = r.counts; nodes = r.nodes }, r.rise)
  where
    homed_same : (b : Backward) → (left_node b).part.homed ≡ b.part.homed
    homed_same b = (Rattle.bottom_up.proofs.Nodes.left_same b.part.stage b).1

    reach : (m v : ℕ) → first_of ns ≡ Some m → Live (code_nodes x.flow.nodes) v m → has (made_along x.flow.nodes ns) v ≡ true → has (homed_first x ns) v ≡ true
    reach m v e l h = has-filter (has (made_along x.flow.nodes ns)) (live_first x ns) v ∙ ap₂ (λ p q. p && q) (in_first ns e) h
      where
        in_first : (ks : List ℕ) → first_of ks ≡ Some m → has (live_first x ks) v ≡ true
        in_first [] q = cc
        in_first (k ∷ ks) q = ap (λ y. has (live_into x.flow.values x.rows y) v) (let z : k ≡ m = cc in z) ∙ Rattle.linear_scan.proofs.Wanted.in_live_into (λ v p. None) x.flow x.rows given.valid given.live v m l
