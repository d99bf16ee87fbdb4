-- The tests together: exactly the valid procedures pass them.
use Rattle.std.proofs.Common.{◌≡◌, ℕ, zero, suc, ◌+◌, ◌<◌, ◌≤◌, Bool, true, false, List, [], ◌∷◌, length, None, refl, sym, ap, ◌∙◌, subst, arith, inl, inr, ◌⊎◌, ◌↔◌, replicate, Some, Option}
use Rattle.std.specs.Prelude.{slice_get, IsTrue}
use Rattle.std.proofs.lemmas.List.{length-map, length-replicate}
use Rattle.std.proofs.lemmas.Option.{get_or_from_slice_get, slice_get-get_or}
use Rattle.block_runs.specs.Blocks.{CodeBlock, block_at, no_block, end_uses}
use Rattle.block_runs.specs.Live.{has, defs_of, block_makes, reads, Live}
use Rattle.block_runs.specs.Live.Live.{Here, Later}
use Rattle.block_runs.specs.Valid.{made, times, uses_of, block_reads, all_below, size_of, IsPlaced}
use Rattle.global_live.proofs.Lists.{has_front, has_back, in_parts, times-append, times_of_in, times_of_out, all_below_in}
use Rattle.global_live.proofs.Tables.{at_block}
use Rattle.ssa_core.specs.declared.procedure.Proc.{Proc}
use Rattle.ssa_core.specs.Procedures.{code_block, code_blocks}
use Rattle.ssa_core.specs.Validity.{IsValid}
use Rattle.ssa_valid.specs.Form.{is_formed}
use Rattle.ssa_valid.specs.Tables.{makers_from}
use Rattle.ssa_valid.specs.Order.{is_stamped, all_in_order}
use Rattle.ssa_valid.specs.Search.{makes, AreKnown, IsFree, Decides}
use Rattle.ssa_valid.proofs.Tables.{makers_are, length-makers}
use Rattle.ssa_valid.proofs.Reading.{there}
use Rattle.ssa_valid.proofs.Ordered.{IsOrdered, AreInside, all_ordered_to, all_ordered_from}
use Rattle.ssa_valid.proofs.Exploring.{unstamped}
use Rattle.ssa_valid.proofs.Formed.{Parts, Form, formed_to, formed_from}
use Rattle.global_live.proofs.Filled.{reads_listed}

-- what a block makes is made
times_at : (bls : List CodeBlock) (j v : ℕ) → times (block_makes (block_at bls j)) v ≤ times (made bls) v
times_at [] j v = omega arith
times_at (bl ∷ bls) zero v = let a = times-append (block_makes bl) (made bls) v in omega (arith, a)
times_at (bl ∷ bls) (suc j) v = let a = times-append (block_makes bl) (made bls) v in let b = times_at bls j v in omega (arith, a, b)

module _ (p : Proc) (parts : Parts p p.blocks) (made_once : (v : ℕ) → v < p.values → times (made (code_blocks p.blocks)) v ≡ 1) where
  abbrev bls : List CodeBlock
  bls = code_blocks p.blocks

  -- a value that is made is one of the procedure's
  value : (v : ℕ) → 0 < times (made bls) v → v < p.values
  value v some = by (has (made bls) v) refl
    where
      by : (b : Bool) → has (made bls) v ≡ b → v < p.values
      by true e = all_below_in p.values (made bls) v parts.made_below e
      by false e = let a = times_of_out (made bls) v e in absurd (omega (arith, a, some))

  once : (v : ℕ) → times (made bls) v ≤ 1
  once v = by (has (made bls) v) refl
    where
      by : (b : Bool) → has (made bls) v ≡ b → times (made bls) v ≤ 1
      by true e = let a = made_once v (all_below_in p.values (made bls) v parts.made_below e) in omega (arith, a)
      by false e = let a = times_of_out (made bls) v e in omega (arith, a)

  -- how often a block's operations make a value
  defs_times : (j v : ℕ) → times (block_at bls j).params v + times (defs_of (block_at bls j).ops) v ≤ 1
  defs_times j v =
      let a = times_at bls j v in
      let b = times-append (block_at bls j).params (defs_of (block_at bls j).ops) v in
      let d = once v in
      omega (arith, a, b, d)

  def_made : (j v : ℕ) → has (defs_of (block_at bls j).ops) v ≡ true → 0 < times (made bls) v
  def_made j v h =
      let a = times_at bls j v in
      let b = times-append (block_at bls j).params (defs_of (block_at bls j).ops) v in
      let d = times_of_in (defs_of (block_at bls j).ops) v h in
      omega (arith, a, b, d)

  -- a block reads values alone
  read_value : (j v : ℕ) → has (block_reads (block_at bls j)) v ≡ true → v < p.values
  read_value j v h = all_below_in p.values (block_reads (block_at bls j)) v (at_block (λ bl. all_below p.values (block_reads bl)) bls j parts.read_below refl) h

  inside : AreInside p.values bls
  inside = record {
    uses = λ j v h. read_value j v (has_front (uses_of (block_at bls j).ops) (end_uses (block_at bls j).end) v h);
    defs = λ j v h. value v (def_made j v h);
    once = λ j v. let a = defs_times j v in omega (arith, a);
  }

  -- only values are live
  live_value : (v : ℕ) {n : ℕ} → Live bls v n → v < p.values
  live_value v (Here b bl e q r) =
      let at : block_at bls b ≡ bl = get_or_from_slice_get bls b bl no_block e in
      read_value b v (ap (λ x. has (block_reads x) v) at ∙ reads_listed bl.ops bl.end v r)
  live_value v (Later b to bl e u edge l) = live_value v l

  abbrev AreOrdered : Type 0
  AreOrdered = (j : ℕ) → IsOrdered (block_at bls j)

  -- ordered blocks, and no value live into the block that makes it
  own_to : AreOrdered → (v n : ℕ) → makes bls n v ≡ true → Live bls v n → ⊥
  own_to ordered v n m (Here b bl e q r) =
      let at : block_at bls b ≡ bl = get_or_from_slice_get bls b bl no_block e in
      ordered b v (by (in_parts (block_at bls b).params (defs_of (block_at bls b).ops) v m) (ap (λ x. has x.params v) at ∙ q)) (ap (λ x. reads x.ops x.end v) at ∙ r)
    where
      by : ◌⊎◌ (has (block_at bls b).params v ≡ true) (has (defs_of (block_at bls b).ops) v ≡ true) → has (block_at bls b).params v ≡ false → has (defs_of (block_at bls b).ops) v ≡ true
      by (inl h) f = let z : true ≡ false = sym h ∙ f in cc
      by (inr h) f = h
  own_to ordered v n m (Later b to bl e u edge l) =
      let at : block_at bls b ≡ bl = get_or_from_slice_get bls b bl no_block e in
      let z : true ≡ false = sym m ∙ ap (λ x. has (block_makes x) v) at ∙ u in
      cc

  own_from : ((v b : ℕ) (bl : CodeBlock) → slice_get bls b ≡ Some bl → has (block_makes bl) v ≡ true → Live bls v b → ⊥) → AreOrdered
  own_from own j v m r =
      let lt = there (λ x. has (defs_of x.ops) v) bls j refl m in
      let e = slice_get-get_or bls j no_block lt in
      own v j (block_at bls j) e (has_back (block_at bls j).params (defs_of (block_at bls j).ops) v m) (Here j (block_at bls j) e (no_param (has (block_at bls j).params v) refl) r)
    where
      no_param : (b : Bool) → has (block_at bls j).params v ≡ b → has (block_at bls j).params v ≡ false
      no_param true e =
          let a = defs_times j v in
          let b = times_of_in (block_at bls j).params v e in
          let d = times_of_in (defs_of (block_at bls j).ops) v m in
          absurd (omega (arith, a, b, d))
      no_param false e = e

  start : length (replicate {A = Option ℕ} p.values None) ≡ p.values
  start = length-replicate {A = Option ℕ} p.values None

  no_stamp : (v w : ℕ) → is_stamped (replicate p.values None) v w ≡ true → w < 0
  no_stamp v w h = let z : false ≡ true = sym (unstamped p.values v w) ∙ h in cc

  pub order_to : all_in_order (replicate p.values None) bls 0 ≡ true → AreOrdered
  order_to h = all_ordered_to p.values (replicate p.values None) bls 0 start no_stamp inside h

  pub order_from : AreOrdered → all_in_order (replicate p.values None) bls 0 ≡ true
  order_from ordered = all_ordered_from p.values (replicate p.values None) bls 0 start no_stamp inside ordered

  pub known : AreOrdered → AreKnown bls (makers_from 0 bls (replicate p.values 0))
  known ordered = record {
    made_by = λ n v there lt. let b : v < p.values = subst (λ k. v < k) (length-makers bls p.values) lt in makers_are bls p.values n v b (made_once v b);
    own = λ n v m l. own_to ordered v n m l;
  }

  pub placed : AreOrdered → IsFree bls p.values → IsPlaced bls
  placed ordered free = record {
    first = λ v l. free v (live_value v l) l;
    own = λ v b bl e m l. own_to ordered v b (ap (λ x. has (block_makes x) v) (get_or_from_slice_get bls b bl no_block e) ∙ m) l;
  }

  pub ordered_of : IsPlaced bls → AreOrdered
  ordered_of placed = own_from placed.own

---- The call

-- what the three tests before the search say
pub record Passes (p : Proc) : Type 0 where
  pub formed : is_formed p ≡ true
  pub made_once : (v : ℕ) → v < p.values → times (made (code_blocks p.blocks)) v ≡ 1
  pub in_order : all_in_order (replicate p.values None) (code_blocks p.blocks) 0 ≡ true

pub passes : (p : Proc) → IsValid p → Passes p
passes p valid = record {
  formed = formed_from p form;
  made_once = valid.code.made_once;
  in_order = order_from p form.parts valid.code.made_once (ordered_of p form.parts valid.code.made_once valid.code.placed);
}
  where
    form : Form p
    form = record {
      few_args = valid.code.few_args;
      few = valid.code.few;
      begins = valid.code.begins;
      first_params = valid.code.first_params;
      parts = record { targets = valid.code.targets; read_below = valid.code.read_below; made_below = valid.code.made_below; operations = valid.code.operations; conditions = valid.code.conditions; arguments = valid.code.arguments; enters = valid.enters };
    }

pub passes_known : (p : Proc) → Passes p → AreKnown (code_blocks p.blocks) (makers_from 0 (code_blocks p.blocks) (replicate p.values 0))
passes_known p t = let form = formed_to p t.formed in known p form.parts t.made_once (order_to p form.parts t.made_once t.in_order)

pub valid_of : (p : Proc) → Passes p → IsFree (code_blocks p.blocks) p.values → IsValid p
valid_of p t free = record {
  code = record {
    few_args = form.few_args;
    few = form.few;
    begins = form.begins;
    targets = form.parts.targets;
    read_below = form.parts.read_below;
    made_below = form.parts.made_below;
    made_once = t.made_once;
    operations = form.parts.operations;
    conditions = form.parts.conditions;
    arguments = form.parts.arguments;
    first_params = form.first_params;
    placed = placed p form.parts t.made_once (order_to p form.parts t.made_once t.in_order) free;
  };
  enters = form.parts.enters;
}
  where
    form : Form p
    form = formed_to p t.formed

-- the first test that fails
pub not_formed : (p : Proc) → is_formed p ≡ false → IsTrue false ↔ IsValid p
not_formed p h = (λ t. let z : false ≡ true = t in cc, λ valid. let z : true ≡ false = sym (passes p valid).formed ∙ h in cc)

pub few_blocks : (p : Proc) → is_formed p ≡ true → length p.blocks < 4294967296
few_blocks p h =
    let f = (formed_to p h).few in
    let g = size_least (code_blocks p.blocks) in
    let l = length-map p.blocks code_block in
    omega (arith, f, g, l)
  where
    size_least : (bls : List CodeBlock) → length bls ≤ size_of bls
    size_least [] = omega arith
    size_least (bl ∷ bls) = let a = size_least bls in omega (arith, a)

pub not_in_order : (p : Proc) → all_in_order (replicate p.values None) (code_blocks p.blocks) 0 ≡ false → IsTrue false ↔ IsValid p
not_in_order p h = (λ t. let z : false ≡ true = t in cc, λ valid. let z : true ≡ false = sym (passes p valid).in_order ∙ h in cc)

-- the search decides
pub decided : (p : Proc) (makers : List ℕ) (free : Bool) → Passes p → makers ≡ makers_from 0 (code_blocks p.blocks) (replicate p.values 0) → Decides (code_blocks p.blocks) makers free → IsTrue free ↔ IsValid p
decided p makers free t is decides = (λ h. valid_of p t (λ v lt. (both.0 h) v (subst (λ n. v < n) (sym size) lt)), λ valid. both.1 (λ v lt l. valid.code.placed.first v l))
  where
    size : length makers ≡ p.values
    size = ap length is ∙ length-makers (code_blocks p.blocks) p.values

    both : IsTrue free ↔ IsFree (code_blocks p.blocks) (length makers)
    both = decides (subst (AreKnown (code_blocks p.blocks)) (sym is) (passes_known p t))
