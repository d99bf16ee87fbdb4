-- Reading node by node, and trace by trace.
use Rattle.std.proofs.Common.{◌≡◌, ◌≢◌, ℕ, zero, suc, ◌+◌, ◌<◌, ◌≤◌, List, [], ◌∷◌, ◌++◌, length, take, drop, get_or, Bool, true, false, cond, refl, arith, sym, ap, ap₂, ◌∙◌, subst, append_assoc}
use Rattle.std.specs.Prelude.{flat_map, ◌==◌}
use Rattle.std.proofs.lemmas.Bool.{eqb-true, eq-eqb}
use Rattle.std.proofs.lemmas.List.{append-nil, take_more, drop_more, drop_all, take_all}
use Rattle.block_runs.specs.Live.{has}
use Rattle.lir_core.specs.declared.flow.Trace.{Trace}
use Rattle.lir_core.specs.declared.flow.Node.{Node}
use Rattle.lir_core.specs.Flows.{code_node, node_at}
use Rattle.global_live.proofs.Lists.{has_front}
use Rattle.trace_build.specs.Parents.{trace_at, no_trace}
use Rattle.trace_build.specs.Cuts.{lists_of, all_nodes, AllTraces}
use Rattle.boundary_resolve.specs.declared.code_line.CodeLine.{CodeLine}
use Rattle.boundary_resolve.specs.declared.code_line.CodeLine.TheVariants.{Node as Begins}
use Rattle.boundary_resolve.specs.Placing.{out_at, lines_at, registers_at, jump_steps, test_steps, node_lines}
use Rattle.boundary_resolve.specs.Edges.{AreSound}
use Rattle.linked_flows.specs.Allocations.{Cut}
use Rattle.linked_flows.proofs.Edges.{count}
use Rattle.linked_flows.proofs.Ordering.{traced_below}
use Rattle.placed_code.specs.Placed.{Block}
use Rattle.link_blocks.specs.Ahead.{block_ahead, behind_block}
use Rattle.link_blocks.specs.Laid.{block_at, Lays, wanted, AreLaid, AreAhead, HasRead, Reads}
use Rattle.link_blocks.specs.declared.planning.Laid.{Laid}
use Rattle.link_blocks.proofs.Flat.{flat}
use Rattle.link_blocks.proofs.Nodes.{node_flat, block_is, behind_is, named_at}
use Rattle.link_blocks.proofs.Seats.{in_all}

pub flat_map-append : {A B : Type 0} (f : A → List B) (xs ys : List A) → flat_map f (xs ++ ys) ≡ flat_map f xs ++ flat_map f ys
flat_map-append f [] ys = refl
flat_map-append f (x ∷ xs) ys = ap (λ (zs : List _). f x ++ zs) (flat_map-append f xs ys) ∙ sym (append_assoc (f x) (flat_map f xs) (flat_map f ys))

earlier : (xs : List ℕ) (n m : ℕ) → (n == m) ≡ false → has (xs ++ n ∷ []) m ≡ true → has xs m ≡ true
earlier [] n m e h = let wrong : cond (n == m) true false ≡ false = ap (λ b. cond b true false) e in cc
earlier (x ∷ xs) n m e h = at_head (x == m) h (earlier xs n m e)
  where
    at_head : (b : Bool) → cond b true (has (xs ++ n ∷ []) m) ≡ true → (has (xs ++ n ∷ []) m ≡ true → has xs m ≡ true) → cond b true (has xs m) ≡ true
    at_head true h on = refl
    at_head false h on = on h

module _ (k : ℕ) (c : Cut) (sound : AreSound k c.flow c.traces c.outs) where
  abbrev lines : ℕ → List CodeLine
  lines n = node_lines c.flow c.traces c.outs n

  -- the lines of a node, as far as they are ahead
  abbrev pub own : ℕ → List CodeLine → List CodeLine
  own n rest = flat (test_steps c.flow c.traces c.outs n) (lines_at c.traces c.outs n) (jump_steps c.flow c.traces c.outs n) n rest

  pub begins : (ns : List ℕ) (i : ℕ) (ahead tail : List CodeLine) → ahead ≡ flat_map lines (drop i ns) ++ tail → i < length ns → ahead ≡ Begins (get_or ns i 0) ∷ own (get_or ns i 0) (flat_map lines (drop (i + 1) ns) ++ tail)
  begins ns i ahead tail e l =
      let n = get_or ns i 0 in
      e ∙ ap (λ (xs : List ℕ). flat_map lines xs ++ tail) (drop_more ns i 0 l) ∙ append_assoc (lines n) (flat_map lines (drop (i + 1) ns)) tail ∙ node_flat c n (flat_map lines (drop (i + 1) ns) ++ tail)

  laid_more : (before after : Laid) (n : ℕ) → n < length c.flow.nodes → AreLaid c before → Lays before after n (wanted c n) → AreLaid c after
  laid_more before after n low laid step = record {
    each = step.each ∙ laid.each;
    blocks = λ m h. by_test m (n == m) refl (sym (ap (λ (xs : List ℕ). has xs m) step.order) ∙ h);
  }
    where
      by_test : (m : ℕ) (b : Bool) → (n == m) ≡ b → has (before.order.items ++ n ∷ []) m ≡ true → block_at after m ≡ wanted c m
      by_test m true e h = let same : n ≡ m = eqb-true n m e in let many = laid.each in subst (λ x. block_at after x ≡ wanted c x) same (step.here (omega (arith, low, many)))
      by_test m false e h = step.others m (λ q. let wrong = eq-eqb n m (sym q) in cc) ∙ laid.blocks m (earlier before.order.items n m e h)

  -- reading a node's lines, where the nodes are these
  abbrev pub StepOn : List Node → List CodeLine → List CodeLine → Laid → Laid → List ℕ → Type 0
  StepOn nodes here behind before after named =
      (n : ℕ) (ls : List CodeLine) → here ≡ Begins n ∷ ls → n < length nodes → (behind ≡ behind_block (code_node (node_at nodes n)) ls) × Lays before after n (block_ahead (code_node (node_at nodes n)) named ls)

  pub read_more : (ns : List ℕ) (rows : List (List ℕ)) (i : ℕ) (from here behind tail : List CodeLine) (first before after : Laid) (named : List ℕ) → AreAhead c ns rows from tail → i < length rows → named ≡ get_or rows i []
      → HasRead c (take i ns) first before here (flat_map lines (drop i ns) ++ tail)
      → StepOn c.flow.nodes here behind before after named
      → HasRead c (take (i + 1) ns) first after behind (flat_map lines (drop (i + 1) ns) ++ tail)
  read_more ns rows i from here behind tail first before after named ahead below row read step =
      let n = get_or ns i 0 in
      let rest = flat_map lines (drop (i + 1) ns) ++ tail in
      let many = ahead.each in
      let l : i < length ns = omega (arith, many, below) in
      let low = ahead.below i l in
      let went = step n (own n rest) (begins ns i here tail read.lines l) low in
      let is : block_ahead (code_node (node_at c.flow.nodes n)) named (own n rest) ≡ wanted c n = ap (λ (r : List ℕ). block_ahead (code_node (node_at c.flow.nodes n)) r (own n rest)) (row ∙ ahead.named i l) ∙ block_is k c sound n rest low in
      let lays : Lays before after n (wanted c n) = subst (λ (b : Block). Lays before after n b) is went.1 in
      record {
        lines = went.0 ∙ behind_is k c sound n rest low;
        order = lays.order ∙ ap (λ (xs : List ℕ). xs ++ n ∷ []) read.order ∙ append_assoc first.order.items (take i ns) (n ∷ []) ∙ ap (λ (xs : List ℕ). first.order.items ++ xs) (sym (take_more ns i 0 l));
        laid = laid_more before after n low read.laid lays;
      }

  pub read_all : (ns : List ℕ) (i : ℕ) (ahead tail : List CodeLine) (first after : Laid) → length ns ≤ i → HasRead c (take i ns) first after ahead (flat_map lines (drop i ns) ++ tail) → HasRead c ns first after ahead tail
  read_all ns i ahead tail first after past read = record {
    lines = read.lines ∙ ap (λ (xs : List ℕ). flat_map lines xs ++ tail) (drop_all i ns past);
    order = read.order ∙ ap (λ (xs : List ℕ). first.order.items ++ xs) (take_all i ns past);
    laid = read.laid;
  }

  module _ (paths : AllTraces c.flow (lists_of c.traces)) where
    in_trace : (t i : ℕ) → t < length c.traces → i < length (trace_at c.traces t).nodes → get_or (trace_at c.traces t).nodes i 0 < length c.flow.nodes
    in_trace t i below l =
        let n = get_or (trace_at c.traces t).nodes i 0 in
        let low = traced_below c.flow (lists_of c.traces) n paths (in_all c.traces t i n below l refl) in
        let m = count k c.flow c.traces c.outs sound in
        omega (arith, low, m)

    traces_more : (t : ℕ) → t < length c.traces → all_nodes (lists_of (drop t c.traces)) ≡ (trace_at c.traces t).nodes ++ all_nodes (lists_of (drop (t + 1) c.traces))
    traces_more t l = ap (λ (ts : List Trace). all_nodes (lists_of ts)) (drop_more c.traces t no_trace l)

    -- a trace's nodes are ahead, and behind them those of the others
    pub trace_ahead : (t : ℕ) (ahead : List CodeLine) (rows : List (List ℕ)) → t < length c.traces → rows ≡ (out_at c.outs t).regs → ahead ≡ flat_map lines (all_nodes (lists_of (drop t c.traces)))
        → AreAhead c (trace_at c.traces t).nodes rows ahead (flat_map lines (all_nodes (lists_of (drop (t + 1) c.traces))))
    trace_ahead t ahead rows l row e =
        let ns = (trace_at c.traces t).nodes in
        let counts = (sound.sound t l).counts in
        record {
          each = sym (ap (λ (rs : List (List ℕ)). length rs) row ∙ counts.3);
          named = λ i below. ap (λ (rs : List (List ℕ)). get_or rs i []) row ∙ sym (named_at k c sound paths t i (get_or ns i 0) l below refl (in_trace t i l below));
          below = λ i below. in_trace t i l below;
          lines = e ∙ ap (flat_map lines) (traces_more t l) ∙ flat_map-append lines ns (all_nodes (lists_of (drop (t + 1) c.traces)));
        }

    pub trace_read : (t : ℕ) (before after : Laid) (here behind : List CodeLine) → t < length c.traces → Reads c t before here
        → HasRead c (trace_at c.traces t).nodes before after behind (flat_map lines (all_nodes (lists_of (drop (t + 1) c.traces)))) → Reads c (t + 1) after behind
    trace_read t before after here behind l reads read =
        let ns = (trace_at c.traces t).nodes in
        let rest = all_nodes (lists_of (drop (t + 1) c.traces)) in
        record {
          lines = read.lines;
          order = ap (λ (xs : List ℕ). xs ++ rest) read.order ∙ append_assoc before.order.items ns rest ∙ ap (λ (xs : List ℕ). before.order.items ++ xs) (sym (traces_more t l)) ∙ reads.order;
          laid_is = read.laid;
        }

pub default_any : {A : Type 0} (xs : List A) (i : ℕ) (d e : A) → i < length xs → get_or xs i d ≡ get_or xs i e
default_any [] i d e l = absurd (omega (arith, l))
default_any (x ∷ xs) zero d e l = refl
default_any (x ∷ xs) (suc i) d e l = default_any xs i d e (omega (arith, l))
