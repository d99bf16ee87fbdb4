-- What the allocators ask of a trace and its hint.
use Rattle.std.proofs.Common.{◌≡◌, ℕ, Bool, true, false, ◌&&◌, List, [], ◌∷◌, Option, Some, None, refl, sym, ap, ◌∙◌}
use Rattle.std.specs.Prelude.{slice_get}
use Rattle.std.proofs.lemmas.Bool.{and_parts}
use Rattle.block_runs.specs.declared.end.End.{End}
use Rattle.block_runs.specs.declared.end.End.TheVariants.{Jump, Branch, Nonzero, Return, Trap}
use Rattle.lir_core.specs.declared.flow.Node.{Node}
use Rattle.lir_core.specs.declared.flow.Flow.{Flow}
use Rattle.lir_core.specs.Flows.{code_nodes}
use Rattle.linear_scan.specs.Linear.{Case, Hint}
use Rattle.linear_scan.specs.Inputs.{FitsHead, IsInput}
use Rattle.simple_policies.specs.trivial.Trivial.{IsTrivial}
use Rattle.alloc_choice.specs.Choice.{is_jump, is_none, is_bare, is_trivial}

none_is : {A : Type 0} → (xs : List A) → is_none xs ≡ true → xs ≡ []
none_is [] e = refl
none_is (x ∷ xs) e = cc

-- a trace that the test finds trivial is trivial
pub trivial_is : (f : Flow) (ns : List ℕ) → is_trivial f.nodes ns ≡ true → IsTrivial f ns
trivial_is f [] e = cc
trivial_is f (n ∷ (m ∷ ns)) e = cc
trivial_is f (n ∷ []) e = at_node (slice_get f.nodes n) refl e
  where
    at_end : (node : Node) → slice_get f.nodes n ≡ Some node → (end : End) → node.end ≡ end → is_jump end ≡ true → is_none node.params ≡ true → is_none node.lirs ≡ true → IsTrivial f (n ∷ [])
    at_end node there (Jump to args) is j p l = record { number = n; one = refl; node = node; there = there; no_params = none_is node.params p; no_operations = none_is node.lirs l; to = to; args = args; jumps = is }
    at_end node there (Branch k a b one other) is j p l = cc
    at_end node there (Nonzero a one other) is j p l = cc
    at_end node there (Return a) is j p l = cc
    at_end node there (Trap kind) is j p l = cc

    at_node : (o : Option Node) → slice_get f.nodes n ≡ o → is_bare o ≡ true → IsTrivial f (n ∷ [])
    at_node None there e = cc
    at_node (Some node) there e =
        let a = and_parts (is_jump node.end) (is_none node.params && is_none node.lirs) e in
        let b = and_parts (is_none node.params) (is_none node.lirs) a.1 in
        at_end node there node.end refl a.0 b.0 b.1

-- what is asked with a hint holds without one
pub without_hint : (x : Case) (ns : List ℕ) (hint : Option Hint) → IsInput x ns hint → IsInput x ns None
without_hint x ns hint h = record { valid = h.valid; live = h.live; trace = h.trace; enough = h.enough; fit = fits ns }
  where
    fits : (ns : List ℕ) → FitsHead x.regs (code_nodes x.flow.nodes) ns None
    fits [] = tt
    fits (n ∷ ns) = tt
