-- Numbers, registers and frames of modest flows fit instructions.
use Rattle.std.proofs.Common.{◌≡◌, ℕ, zero, suc, ◌<◌, ◌≤◌, List, [], ◌∷◌, map, length, get_or, Bool, true, false, ◌&&◌, refl, arith}
use Rattle.std.specs.Prelude.{nat_lt, nat_le, is_some}
use Rattle.std.specs.List.{list_all}
use Rattle.std.proofs.lemmas.Bool.{ltb-true}
use Rattle.std.proofs.lemmas.Bool.Decides.{nat_tests}
use Rattle.block_runs.specs.declared.code.Code.{Code}
use Rattle.block_runs.specs.declared.code.Code.TheVariants as o
use Rattle.block_runs.specs.Blocks.{CodeBlock}
use Rattle.block_runs.specs.Valid.{makes, acts, serves, fits, operation_fits, size_of}
use Rattle.lir_core.specs.declared.flow.Lir.{Lir}
use Rattle.lir_core.specs.declared.flow.Node.{Node}
use Rattle.lir_core.specs.declared.places.TraceOut.{TraceOut}
use Rattle.lir_core.specs.Flows.{operation_of, code_node, code_nodes}
use Rattle.lir_core.specs.Lines.{AllBelow}
use Rattle.trace_build.specs.Cuts.{lists_of, AllTraces}
use Rattle.boundary_resolve.specs.Placing.{out_at}
use Rattle.boundary_resolve.specs.Edges.{AreSound}
use Rattle.linked_flows.specs.Allocations.{Cut}
use Rattle.link_blocks.specs.Fits.{number_fits, trap_fits, lirs_fit, node_fits, row_fits, rows_fit, registers_fit}
use Rattle.link_blocks.specs.Laid.{Fits}
use Rattle.modest_flows.proofs.Frames.{frame_small}
use Rattle.modest_flows.proofs.Lives.{and_left, and_right}
use Rattle.modest_flows.specs.Modest.{IsModest}
use Rattle.placed_code.proofs.Parts.{length_map as mapped}

pub both : (a b : Bool) → a ≡ true → b ≡ true → (a && b) ≡ true
both true b e f = f
both false b e f = cc

below : (a b : ℕ) → a < b → nat_lt a b ≡ true
below a b l = grind (arith, nat_tests, l)

wider : (a m n : ℕ) → m ≤ n → nat_lt a m ≡ true → nat_lt a n ≡ true
wider a m n l e = let b = ltb-true a m e in below a n (omega (arith, l, b))

---- Numbers of operations

service_ok : (n u : ℕ) (d : Bool) → serves n u d ≡ true → nat_lt n 65536 ≡ true
service_ok zero u d e = refl
service_ok (suc zero) u d e = refl
service_ok (suc (suc zero)) u d e = refl
service_ok (suc (suc (suc zero))) u d e = refl
service_ok (suc (suc (suc (suc zero)))) u d e = refl
service_ok (suc (suc (suc (suc (suc n))))) u d e = cc

number_ok : (args : ℕ) → args ≤ 24 → (code : Code) (u : ℕ) (d : Bool) → fits args code u d ≡ true → number_fits code ≡ true
number_ok args few (o.Global n) u d e = and_left (nat_lt n 16777216) (makes 0 u d) e
number_ok args few (o.Local n) u d e = and_left (nat_lt n 16777216) (makes 0 u d) e
number_ok args few (o.Plus n) u d e = and_left (nat_lt n 16777216) (makes 1 u d) e
number_ok args few (o.Arg i) u d e =
    wider i args 25 (omega (arith, few)) (and_left (nat_lt i args) (makes 0 u d) (and_right (nat_le 4 i) (nat_lt i args && makes 0 u d) e))
number_ok args few (o.IsPtr j) u d e = wider j 16 4096 (omega arith) (and_left (nat_lt j 16) (makes 2 u d) e)
number_ok args few (o.IsTag j) u d e = wider j 16 4096 (omega arith) (and_left (nat_lt j 16) (makes 2 u d) e)
number_ok args few (o.GuardPtr j) u d e = wider j 16 4096 (omega arith) (and_left (nat_lt j 16) (acts 2 u d) e)
number_ok args few (o.GuardTag j) u d e = wider j 16 4096 (omega arith) (and_left (nat_lt j 16) (acts 2 u d) e)
number_ok args few (o.Svc n) u d e = service_ok n u d e
number_ok args few code u d e = refl

module _ (args : ℕ) (few : args ≤ 24) where
  abbrev block_ok : CodeBlock → Bool
  block_ok bl = list_all (operation_fits args) bl.ops

  lirs_ok : (xs : List Lir) → list_all (operation_fits args) (map operation_of xs) ≡ true → lirs_fit xs ≡ true
  lirs_ok [] e = refl
  lirs_ok (x ∷ xs) e =
      let op = operation_of x in
      both (number_fits x.template) (lirs_fit xs)
      (number_ok args few x.template (length x.uses) (is_some x.def) (and_left (operation_fits args op) (list_all (operation_fits args) (map operation_of xs)) e))
      (lirs_ok xs (and_right (operation_fits args op) (list_all (operation_fits args) (map operation_of xs)) e))

  nodes_ok : (ns : List Node) → list_all block_ok (code_nodes ns) ≡ true → list_all (λ n. trap_fits n.end) ns ≡ true → list_all (λ n. node_fits n) ns ≡ true
  nodes_ok [] e f = refl
  nodes_ok (n ∷ ns) e f =
      let lirs = lirs_ok n.lirs (and_left (block_ok (code_node n)) (list_all block_ok (code_nodes ns)) e) in
      let kind = and_left (trap_fits n.end) (list_all (λ (x : Node). trap_fits x.end) ns) f in
      both (node_fits n) (list_all (λ x. node_fits x) ns) (both (trap_fits n.end) (lirs_fit n.lirs) kind lirs)
      (nodes_ok ns (and_right (block_ok (code_node n)) (list_all block_ok (code_nodes ns)) e) (and_right (trap_fits n.end) (list_all (λ (x : Node). trap_fits x.end) ns) f))

---- Registers

module _ (k : ℕ) (few : k ≤ 16) where
  row_ok : (row : List ℕ) → AllBelow k row → row_fits row ≡ true
  row_ok [] l = refl
  row_ok (r ∷ row) l = let h = l.0 in both (nat_lt r 16) (row_fits row) (below r 16 (omega (arith, h, few))) (row_ok row l.1)

  rows_ok : (rows : List (List ℕ)) → ((i : ℕ) → i < length rows → AllBelow k (get_or rows i [])) → rows_fit rows ≡ true
  rows_ok [] each = refl
  rows_ok (row ∷ rows) each = both (row_fits row) (rows_fit rows) (row_ok row (each 0 (omega arith))) (rows_ok rows (λ i l. each (suc i) (omega (arith, l))))

  outs_ok : (outs : List TraceOut) → ((t : ℕ) → t < length outs → (i : ℕ) → i < length (out_at outs t).regs → AllBelow k (get_or (out_at outs t).regs i [])) → registers_fit outs ≡ true
  outs_ok [] each = refl
  outs_ok (out ∷ outs) each = both (rows_fit out.regs) (registers_fit outs) (rows_ok out.regs (each 0 (omega arith))) (outs_ok outs (λ t l. each (suc t) (omega (arith, l))))

---- The whole

count_small : (bls : List CodeBlock) → length bls ≤ size_of bls
count_small [] = omega arith
count_small (bl ∷ bls) = let m = count_small bls in omega (arith, m)

module _ (k : ℕ) (c : Cut) (sound : AreSound k c.flow c.traces c.outs) (paths : AllTraces c.flow (lists_of c.traces)) (modest : IsModest c.flow) where
  registers_ok : registers_fit c.outs ≡ true
  registers_ok =
      outs_ok k sound.few.1 c.outs (λ t l i m.
      let each = sound.each in
      let there : t < length c.traces = omega (arith, l, each) in
      let one = sound.sound t there in
      let count = one.counts.3 in
      (one.nodes i (omega (arith, m, count))).lines_sound.named_below)

  nodes_few : length c.flow.nodes < 4294967296
  nodes_few =
      let a = count_small (code_nodes c.flow.nodes) in
      let b = sound.valid.code.few in
      let d = mapped code_node c.flow.nodes in
      omega (arith, a, b, d)

  pub modest_fits : Fits c
  modest_fits =
      let frame = frame_small k c sound modest.values in
      record {
        numbers = nodes_ok c.flow.args sound.valid.code.few_args c.flow.nodes sound.valid.code.operations modest.kinds;
        registers = registers_ok;
        local_bytes = modest.local_bytes;
        slots = omega (arith, frame);
        nodes = nodes_few;
      }
