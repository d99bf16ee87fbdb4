-- A step more of the code's loops.
use Rattle.std.proofs.Common.{◌≡◌, ℕ, zero, suc, ◌+◌, ◌<◌, Bool, true, false, cond, List, [], ◌∷◌, ◌++◌, ◌&&◌, filter, length, take, drop, get_or, Option, Some, None, refl, sym, ap, ap₂, ◌∙◌, arith}
use Rattle.std.specs.Prelude.{slice_get, slice_set}
use Rattle.std.proofs.lemmas.List.Elements.{filter-append}
use Rattle.block_runs.specs.declared.end.End.{End}
use Rattle.block_runs.specs.Live.{has}
use Rattle.lir_core.specs.declared.flow.Lir.{Lir}
use Rattle.lir_core.specs.declared.flow.Node.{Node}
use Rattle.trace_needs.specs.Needs.{first_of}
use Rattle.loc_state.specs.Homed.{inserted, all_inserted}
use Rattle.lir_core.specs.Spots.{get, in_register}
use Rattle.global_live.proofs.Lists.{has-filter}
use Rattle.loc_state.specs.Registers.{register_of, lowest_empty}
use Rattle.loc_state.proofs.Homing.{has_all_inserted, inserted_append}
use Rattle.loc_state.proofs.Numbers.{register_at}
use Rattle.loc_back.specs.declared.part.BackPart.{BackPart}
use Rattle.loc_back.specs.declared.backward.Backward.{Backward}
use Rattle.loc_back.specs.Steps.{taken, in_part, entered, left_node, before_node}
use Rattle.loc_back.proofs.Leading.{drop_is}
use Rattle.linear_scan.specs.Linear.{Case, position_behind}
use Rattle.bottom_up.specs.Policy.{register_in, take_at, take_one, operate, operate_all}
use Rattle.bottom_up.specs.Bottom.{made_by, made_along, before_it, along, behind_nodes}

---- What is homed first

-- of what is inserted that which passes a test
pub passed_append : (p : ℕ → Bool) (xs ys homed : List ℕ) → all_inserted (filter p (xs ++ ys)) homed ≡ all_inserted (filter p ys) (all_inserted (filter p xs) homed)
passed_append p xs ys homed = ap (λ zs. all_inserted zs homed) (filter-append p xs ys) ∙ inserted_append (filter p xs) (filter p ys) homed

pub made_step : (p : ℕ → Bool) (nodes : List Node) (ns : List ℕ) (i n : ℕ) (homed : List ℕ) → i < length ns → n ≡ get_or ns i 0 → all_inserted (filter p (made_along nodes (drop i ns))) homed ≡ all_inserted (filter p (made_along nodes (drop (i + 1) ns))) (all_inserted (filter p (made_by (slice_get nodes n))) homed)
made_step p nodes [] i n homed lt e = absurd (omega (arith, lt))
made_step p nodes (m ∷ ns) zero n homed lt e = passed_append p (made_by (slice_get nodes m)) (made_along nodes ns) homed ∙ ap (λ k. all_inserted (filter p (made_along nodes ns)) (all_inserted (filter p (made_by (slice_get nodes k))) homed)) (sym e)
made_step p nodes (m ∷ ns) (suc i) n homed lt e =
    let z : suc i + 1 ≡ suc (i + 1) = omega arith in
    made_step p nodes ns i n homed (omega (arith, lt)) e ∙ ap (λ k. all_inserted (filter p (made_along nodes (drop k (m ∷ ns)))) (all_inserted (filter p (made_by (slice_get nodes n))) homed)) (sym z)

pub none_made : (made values : List ℕ) → made ≡ [] → filter (has made) values ≡ []
none_made made [] e = refl
none_made made (v ∷ values) e = ap (λ ms. cond (has ms v) (v ∷ filter (has made) values) (filter (has made) values)) e ∙ none_made made values e

-- of values that pass a test, those that are made are found among what is made and passes it
pub filter_made : (p : ℕ → Bool) (made values : List ℕ) → filter (has (all_inserted (filter p made) [])) (filter p values) ≡ filter (has made) (filter p values)
filter_made p made [] = refl
filter_made p made (x ∷ values) = at_test (p x) refl (filter_made p made values)
  where
    plain : (b : Bool) → cond b true false ≡ b
    plain true = refl
    plain false = refl

    and_true : (b : Bool) → (b && true) ≡ b
    and_true true = refl
    and_true false = refl

    same : p x ≡ true → has (all_inserted (filter p made) []) x ≡ has made x
    same e = has_all_inserted (filter p made) [] x ∙ plain (has (filter p made) x) ∙ has-filter p made x ∙ ap (λ b. has made x && b) e ∙ and_true (has made x)

    at_test : (b : Bool) → p x ≡ b → filter (has (all_inserted (filter p made) [])) (filter p values) ≡ filter (has made) (filter p values) → filter (has (all_inserted (filter p made) [])) (cond b (x ∷ filter p values) (filter p values)) ≡ filter (has made) (cond b (x ∷ filter p values) (filter p values))
    at_test true e on = ap₂ (λ b xs. cond b (x ∷ xs) xs) (same e) on
    at_test false e on = on

---- Uses

written_again : (regs : List (Option ℕ)) (r v : ℕ) → get regs r ≡ Some v → slice_set regs r (Some v) ≡ regs
written_again [] r v e = refl
written_again (o ∷ regs) zero v e = ap (λ x. x ∷ regs) (sym e)
written_again (o ∷ regs) (suc r) v e = ap (λ xs. o ∷ xs) (written_again regs r v e)

-- a use that is in a register is taken there
pub taken_again : (mention : ℕ → ℕ → Option ℕ) (p v r : ℕ) (keep : List ℕ) (t : BackPart) → register_in t.regs v ≡ Some r → taken v (Some r) t ≡ take_one mention p keep v t
taken_again mention p v r keep t e = at_test (in_register t.regs v) refl e
  where
    at_test : (b : Bool) → in_register t.regs v ≡ b → cond b (Some (register_of v t.regs)) None ≡ Some r → taken v (Some r) t ≡ cond b (taken v None t) (take_at mention p keep v (lowest_empty 0 t.regs) t)
    at_test true h e =
        let q : r ≡ register_of v t.regs = cc in
        ap (λ k. taken v (Some k) t) q ∙ ap (λ rs. let g : BackPart = record t { regs = rs; noted = t.noted ++ register_of v t.regs ∷ [] } in g) (written_again t.regs (register_of v t.regs) v (register_at t.regs v h))
    at_test false h e = cc

---- Ends

-- values more are homed at an end
pub homes_join : (params : List ℕ) (end : End) (args : List (Option ℕ)) (xs ys : List ℕ) (f : Backward) → in_part (λ t. record t { homed = all_inserted ys t.homed }) (before_node params end args xs f) ≡ before_node params end args (xs ++ ys) f
homes_join params end args xs ys f =
    let t = entered params end args [] (left_node f).part in
    ap (λ hs. let g : Backward = record (left_node f) { part = record t { homed = hs } } in g) (sym (inserted_append xs ys (left_node f).part.homed))

-- an operation more
pub operate_step : (mention : ℕ → ℕ → Option ℕ) (xs : List Lir) (i k p q : ℕ) (x : Lir) (t : BackPart) → slice_get xs i ≡ Some x → k ≡ i + 1 → q ≡ p + i → operate mention q i x (operate_all mention (p + k) k (drop k xs) t) ≡ operate_all mention (p + i) i (drop i xs) t
operate_step mention xs i k p q x t e f g =
    let z : p + (i + 1) ≡ p + i + 1 = omega arith in
    ap₂ (λ a c. operate mention c i x (operate_all mention (p + a) a (drop a xs) t)) f g
    ∙ ap (λ a. operate mention (p + i) i x (operate_all mention a (i + 1) (drop (i + 1) xs) t)) z
    ∙ ap (λ ys. operate_all mention (p + i) i ys t) (sym (drop_is xs i x e))

---- Nodes

pub behind_next : (nodes : List Node) (ns : List ℕ) (i p : ℕ) → i < length ns → behind_nodes nodes p (take (i + 1) ns) ≡ position_behind (behind_nodes nodes p (take i ns)) (slice_get nodes (get_or ns i 0))
behind_next nodes [] i p lt = absurd (omega (arith, lt))
behind_next nodes (n ∷ ns) zero p lt = refl
behind_next nodes (n ∷ ns) (suc i) p lt = let z : suc i + 1 ≡ suc (i + 1) = omega arith in ap (λ k. behind_nodes nodes p (take k (n ∷ ns))) z ∙ behind_next nodes ns i (position_behind p (slice_get nodes n)) (omega (arith, lt))

-- a position is behind a node that starts at no other
pub one_start : (o : Option Node) (p q : ℕ) → position_behind p o ≡ position_behind q o → p ≡ q
one_start None p q e = e
one_start (Some node) p q e = omega (arith, e)

pub along_back : (x : Case) (mention : ℕ → ℕ → Option ℕ) (f : Backward) (nodes : List ℕ) (i n p : ℕ) (next : Option ℕ) → i < length nodes → n ≡ get_or nodes i 0 → next ≡ slice_get nodes (i + 1) → before_it x mention p (slice_get x.flow.nodes n) next (along x mention (position_behind p (slice_get x.flow.nodes n)) (drop (i + 1) nodes) f) ≡ along x mention p (drop i nodes) f
along_back x mention f [] i n p next lt a b = absurd (omega (arith, lt))
along_back x mention f (m ∷ nodes) zero n p next lt a b =
    ap₂ (λ k o. before_it x mention p (slice_get x.flow.nodes k) o (along x mention (position_behind p (slice_get x.flow.nodes k)) nodes f)) a (b ∙ at_first nodes)
  where
    at_first : (ms : List ℕ) → slice_get (m ∷ ms) 1 ≡ first_of ms
    at_first [] = refl
    at_first (k ∷ ms) = refl
along_back x mention f (m ∷ nodes) (suc i) n p next lt a b =
    let z : suc i + 1 ≡ suc (i + 1) = omega arith in
    ap (λ k. before_it x mention p (slice_get x.flow.nodes n) next (along x mention (position_behind p (slice_get x.flow.nodes n)) (drop k (m ∷ nodes)) f)) z
    ∙ along_back x mention f nodes i n p next (omega (arith, lt)) a (b ∙ ap (slice_get (m ∷ nodes)) z)
