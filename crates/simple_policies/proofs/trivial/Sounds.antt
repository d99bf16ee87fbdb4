-- The walk by names accepts trivial results.
use Rattle.std.proofs.Common.{◌≡◌, ℕ, zero, suc, ◌<◌, true, ◌&&◌, List, [], ◌∷◌, map, filter, length, replicate, get_or, Option, Some, None, refl, sym, ap, ◌∙◌, subst, arith, ◌⊎◌, inl, inr}
use Rattle.std.specs.Prelude.{slice_get}
use Rattle.std.proofs.lemmas.List.{length-map, length-replicate}
use Rattle.std.proofs.lemmas.Bool.{and_parts}
use Rattle.std.proofs.lemmas.Option.{slice_get-map, get_or_from_slice_get}
use Rattle.run_laws.specs.Layers.{places_from}
use Rattle.block_runs.specs.Blocks.{CodeBlock, block_at, no_block, end_uses}
use Rattle.block_runs.specs.declared.end.End.TheVariants.{Jump}
use Rattle.block_runs.specs.Live.{has, Live, Here, Later, LiveBehind}
use Rattle.lir_core.specs.declared.flow.Node.{Node}
use Rattle.lir_core.specs.declared.places.Places.{Places}
use Rattle.lir_core.specs.declared.places.TraceOut.{TraceOut}
use Rattle.lir_core.specs.Flows.{code_node, code_nodes}
use Rattle.lir_core.specs.Rows.{has_bit, live_into}
use Rattle.lir_core.specs.Spots.{in_register, placed, IsRising, IsRow}
use Rattle.lir_core.specs.Lines.{end_reads}
use Rattle.lir_core.specs.Walks.{Walks}
use Rattle.lir_core.specs.Sound.{EndsRise, room_of}
use Rattle.walked_results.specs.Walked.{IsWalkedNode, IsWalked}
use Rattle.global_live.proofs.Lists.{has-filter}
use Rattle.loc_state.specs.Registers.{register_of}
use Rattle.loc_state.proofs.Homing.{filter_rises}
use Rattle.loc_state.proofs.Numbers.{register_at, in_register_at, either, in_reg, in_home}
use Rattle.linear_scan.specs.Starts.{if_live}
use Rattle.linear_scan.specs.Linear.{Case, Hint}
use Rattle.linear_scan.specs.Inputs.{FitsHead, IsInput}
use Rattle.linear_scan.proofs.Wanted.{in_live_into}
use Rattle.simple_policies.specs.trivial.Trivial.{trivial_start, trivial, IsTrivial}
use Rattle.linear_scan.proofs.Begins.{get_live}
use Rattle.linear_scan.proofs.Begins.{stays_live}
use Rattle.linear_scan.proofs.Begins.{get_none}
use Rattle.linear_scan.proofs.Begins.{in_none}

---- Registers

---- Results

places_rise : (a n : ℕ) → IsRising (places_from a n)
places_rise a zero = tt
places_rise a (suc zero) = tt
places_rise a (suc (suc n)) = (omega arith, places_rise (suc a) (suc n))

module _ (x : Case) (ns : List ℕ) (hint : Option Hint) (given : IsInput x ns hint) (is : IsTrivial x.flow ns) where
  abbrev bls : List CodeBlock
  bls = code_nodes x.flow.nodes

  abbrev n : ℕ
  n = is.number

  abbrev plain : CodeBlock
  plain = record { params = []; ops = []; end = Jump is.to is.args }

  there : slice_get bls n ≡ Some plain
  there =
      slice_get-map code_node x.flow.nodes n ∙ ap (Rattle.std.specs.Option.option_map code_node) is.there
      ∙ ap (λ (m : Node). Some (code_node m)) same
    where
      same : is.node ≡ record is.node { params = []; lirs = []; end = Jump is.to is.args }
      same = Rattle.std.proofs.Common.ap₂ (λ (a : List ℕ) (b : List Rattle.lir_core.specs.declared.flow.Lir.Lir). let m : Node = record is.node { params = a; lirs = b } in m) is.no_params is.no_operations
          ∙ ap (λ e. let m : Node = record is.node { params = []; lirs = []; end = e } in m) is.jumps

  here : block_at bls n ≡ plain
  here = get_or_from_slice_get bls n plain no_block there

  -- places that have all that is live and nothing else
  record HasAll (s : Places) : Type 0 where
    row : IsRow x.regs s
    rises : IsRising s.homed
    covers : (v : ℕ) → Live bls v n → placed s v ≡ true
    only : (v : ℕ) → placed s v ≡ true → Live bls v n

  afresh : HasAll (trivial_start x n None)
  afresh = record {
    row = record { registers = length-replicate {A = Option ℕ} x.regs None; single = λ r t v e f. absurd (get_none x.regs r v e) };
    rises = filter_rises (has_bit x.rows n) (places_from 0 x.flow.values) (places_rise 0 x.flow.values);
    covers = λ v l. in_home (trivial_start x n None) v (in_live_into (λ a b. None) x.flow x.rows given.valid given.live v n l);
    only = λ v h. by v (either (trivial_start x n None) v h);
  }
    where
      by : (v : ℕ) → (in_register (replicate x.regs None) v ≡ true) ⊎ (has (live_into x.flow.values x.rows n) v ≡ true) → Live bls v n
      by v (inl e) = absurd (in_none x.regs v e)
      by v (inr e) = given.live.exact n v (and_parts (has (places_from 0 x.flow.values) v) (has_bit x.rows n v) (sym (has-filter (has_bit x.rows n) (places_from 0 x.flow.values) v) ∙ e)).1

  behind : (h : Hint) → FitsHead x.regs bls (n ∷ []) (Some h) → HasAll (trivial_start x n (Some h))
  behind h fit = record {
    row = record { registers = length-map h.places.regs (if_live (has_bit x.rows n)) ∙ fit.row.registers; single = λ r t v e f. fit.row.single r t v (get_live (has_bit x.rows n) h.places.regs r v e).0 (get_live (has_bit x.rows n) h.places.regs t v f).0 };
    rises = filter_rises (has_bit x.rows n) h.places.homed fit.rises;
    covers = λ v l. stays v (either h.places v (fit.live v l)) (given.live.whole n v l);
    only = λ v e. given.live.exact n v (by v (either (trivial_start x n (Some h)) v e));
  }
    where
      stays : (v : ℕ) → (in_register h.places.regs v ≡ true) ⊎ (has h.places.homed v ≡ true) → has_bit x.rows n v ≡ true → placed (trivial_start x n (Some h)) v ≡ true
      stays v (inl e) l = in_reg (trivial_start x n (Some h)) v (in_register_at (map (if_live (has_bit x.rows n)) h.places.regs) (register_of v h.places.regs) v (stays_live (has_bit x.rows n) h.places.regs (register_of v h.places.regs) v (register_at h.places.regs v e) l))
      stays v (inr e) l = in_home (trivial_start x n (Some h)) v (has-filter (has_bit x.rows n) h.places.homed v ∙ ap (λ b. b && has_bit x.rows n v) e ∙ l)

      by : (v : ℕ) → (in_register (map (if_live (has_bit x.rows n)) h.places.regs) v ≡ true) ⊎ (has (filter (has_bit x.rows n) h.places.homed) v ≡ true) → has_bit x.rows n v ≡ true
      by v (inl e) = (get_live (has_bit x.rows n) h.places.regs (register_of v (map (if_live (has_bit x.rows n)) h.places.regs)) v (register_at (map (if_live (has_bit x.rows n)) h.places.regs) v e)).1
      by v (inr e) = (and_parts (has h.places.homed v) (has_bit x.rows n v) (sym (has-filter (has_bit x.rows n) h.places.homed v) ∙ e)).1

  node_walked : (s : Places) → HasAll s → IsWalkedNode (room_of x.regs x.flow) bls n s [] [] s
  node_walked s h = record {
    row = (h.row, h.row);
    rises = h.rises;
    starts = record { live = h.covers; wanted = subst (λ bl. (v : ℕ) → has bl.params v ≡ true → Rattle.block_runs.specs.Live.IsWanted bls bl bl.ops v → placed s v ≡ true) (sym here) (λ v p w. cc); only = λ v e. inl (h.only v e) };
    ends = record {
      read = subst (λ bl. (v : ℕ) → has (end_uses bl.end) v ≡ true → placed s v ≡ true) (sym here) (λ v e. h.covers v (Here n plain there refl e));
      live = subst (λ bl. (v : ℕ) → LiveBehind bls bl v → placed s v ≡ true) (sym here) (λ v l. h.covers v (Later n l.0 plain there refl l.1 l.2));
    };
    walks = subst (λ bl. Walks (room_of x.regs x.flow) bl.ops (end_reads bl.end) s [] [] s) (sym here) (record { passes = tt; finishes = record { done = refl; in_range = tt; uses = refl; places = λ p v e. e } });
  }

  pub trivial_walked : (number : ℕ) → IsWalked x.regs x.flow (record { nodes = ns }) (trivial x number ns hint) × EndsRise (trivial x number ns hint)
  trivial_walked number = subst (λ ms. IsWalked x.regs x.flow (record { nodes = ms }) (trivial x number ms hint) × EndsRise (trivial x number ms hint)) (sym is.one) (
    record {
      counts = (refl, refl, refl, refl);
      nodes = λ i l. at i l;
    },
    rise,
  )
    where
      s : Places
      s = trivial_start x n hint

      good : (o : Option Hint) → FitsHead x.regs bls (n ∷ []) o → HasAll (trivial_start x n o)
      good None fit = afresh
      good (Some h) fit = behind h fit

      fits : FitsHead x.regs bls (n ∷ []) hint
      fits = subst (λ ms. FitsHead x.regs bls ms hint) is.one given.fit

      at : (i : ℕ) → i < 1 → IsWalkedNode (room_of x.regs x.flow) bls (get_or (n ∷ []) i 0) (get_or (trivial_start x n hint ∷ []) i Rattle.lir_core.specs.Sound.no_places) (get_or ([] ∷ []) i []) (get_or ([] ∷ []) i []) (get_or (trivial_start x n hint ∷ []) i Rattle.lir_core.specs.Sound.no_places)
      at zero l = node_walked (trivial_start x n hint) (good hint fits)
      at (suc i) l = absurd (omega (arith, l))

      rise : (i : ℕ) → IsRising (get_or (trivial_start x n hint ∷ []) i Rattle.lir_core.specs.Sound.no_places).homed
      rise zero = (good hint fits).rises
      rise (suc i) = tt

---- The code's result

pub made_is : (x : Case) (number : ℕ) (ns : List ℕ) (hint : Option Hint) (out : TraceOut) → 0 < length ns → out ≡ record { trace = number; starts = trivial_start x (get_or ns 0 0) hint ∷ []; ends = trivial_start x (get_or ns 0 0) hint ∷ []; lines = [] ∷ []; regs = [] ∷ [] } → out ≡ trivial x number ns hint
made_is x number [] hint out l e = absurd (omega (arith, l))
made_is x number (n ∷ ns) hint out l e = e
