-- What is live, a parameter or an argument is below the number of values.
use Rattle.std.proofs.Common.{◌≡◌, ◌⊎◌, ⊎_elim, ℕ, zero, suc, ◌<◌, List, [], ◌∷◌, length, Bool, true, false, ◌&&◌, cond, Some, refl, ap, subst}
use Rattle.std.specs.Prelude.{slice_get, ◌==◌}
use Rattle.std.specs.List.{list_all}
use Rattle.std.proofs.lemmas.Bool.{eq-eqb}
use Rattle.block_runs.specs.Blocks.{CodeBlock, block_at}
use Rattle.block_runs.specs.Live.{has, block_makes, Live, Here, Later}
use Rattle.block_runs.specs.Valid.{all_below, block_reads, made}
use Rattle.global_live.proofs.Lists.{has_front, has_back, all_below_in}
use Rattle.lir_core.specs.Flows.{code_nodes}
use Rattle.lir_core.specs.Spots.{placed, argument_of}
use Rattle.boundary_resolve.specs.Placing.{start_at}
use Rattle.boundary_resolve.specs.Edges.{AreSound}
use Rattle.linked_flows.specs.Allocations.{Cut}
use Rattle.linked_flows.proofs.Nodes.{sound_node}
use Rattle.global_live.proofs.Filled.{reads_listed as reads_in}

pub and_left : (a b : Bool) → (a && b) ≡ true → a ≡ true
and_left true b e = refl
and_left false b e = cc

pub and_right : (a b : Bool) → (a && b) ≡ true → b ≡ true
and_right true b e = e
and_right false b e = cc

all_got : (f : CodeBlock → Bool) (bls : List CodeBlock) (b : ℕ) (bl : CodeBlock) → list_all f bls ≡ true → slice_get bls b ≡ Some bl → f bl ≡ true
all_got f [] b bl e g = cc
all_got f (x ∷ bls) zero bl e g = let same : x ≡ bl = cc in subst (λ y. f y ≡ true) same (and_left (f x) (list_all f bls) e)
all_got f (x ∷ bls) (suc b) bl e g = all_got f bls b bl (and_right (f x) (list_all f bls) e) g

live_low : (values : ℕ) (bls : List CodeBlock) → list_all (λ bl. all_below values (block_reads bl)) bls ≡ true → (v b : ℕ) → Live bls v b → v < values
live_low values bls below v _ (Here b bl there unmade read) = all_below_in values (block_reads bl) v (all_got (λ x. all_below values (block_reads x)) bls b bl below there) (reads_in bl.ops bl.end v read)
live_low values bls below v _ (Later b to bl there unmade leads live) = live_low values bls below v to live

made_by : (bls : List CodeBlock) (b v : ℕ) → has (block_at bls b).params v ≡ true → has (made bls) v ≡ true
made_by [] b v e = cc
made_by (bl ∷ bls) zero v e = has_front (block_makes bl) (made bls) v (has_front bl.params _ v e)
made_by (bl ∷ bls) (suc b) v e = has_back (block_makes bl) (made bls) v (made_by bls b v e)

pub argument_low : (n : ℕ) (params args : List ℕ) (v : ℕ) → ((a : ℕ) → has args a ≡ true → a < n) → v < n → argument_of params args v < n
argument_low n [] args v each l = l
argument_low n (p ∷ params) [] v each l = l
argument_low n (p ∷ params) (a ∷ args) v each l = by_test (v == p) (argument_low n params args v (λ b e. each b (later b (a == b) e)) l)
  where
    later : (b : ℕ) (t : Bool) → has args b ≡ true → cond t true (has args b) ≡ true
    later b true e = refl
    later b false e = e

    by_test : (t : Bool) → argument_of params args v < n → cond t a (argument_of params args v) < n
    by_test true h = each a (ap (λ t. cond t true (has args a)) (eq-eqb a a refl))
    by_test false h = h

module _ (k : ℕ) (c : Cut) (sound : AreSound k c.flow c.traces c.outs) where
  -- each value with a place before a node is one of the flow's
  pub start_low : (n v : ℕ) → n < length c.flow.nodes → placed (start_at c.traces c.outs n) v ≡ true → v < c.flow.values
  start_low n v l e =
      let s = sound_node k c.flow c.traces c.outs sound n l in
      let valid = sound.valid.code in
      ⊎_elim (λ live. live_low c.flow.values (code_nodes c.flow.nodes) valid.read_below v n live)
      (λ param. all_below_in c.flow.values (made (code_nodes c.flow.nodes)) v valid.made_below (made_by (code_nodes c.flow.nodes) n v param))
      (s.starts.only v e)
