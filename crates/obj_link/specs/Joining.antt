-- Objects one behind the other.
use Rattle.std.specs.Prelude.{◌≡◌, ℕ, zero, suc, List, [], ◌∷◌, map, All, Bool, ◌==◌, ◌&&◌, Option, Some, None, if◌then◌else◌}
use Rattle.std.specs.List.{flat_map}
use Rattle.lir_core.specs.declared.places.TraceOut.{TraceOut}
use Rattle.trace_build.specs.declared.builder.Builder.{Builder}
use Rattle.alloc_choice.specs.declared.choice.Policy.{Policy}
use Rattle.object_form.specs.declared.object.Object.{Object}
use Rattle.object_form.specs.Objects.{policy_number, builder_number}
use Rattle.obj_link.specs.declared.joining.Joined.{Joined}
use Rattle.obj_link.specs.declared.fault.JoinFault.{JoinFault}
use Rattle.obj_link.specs.declared.fault.JoinFault.TheVariants.{OtherChoice, Memory}

-- the results of both were made by one policy, over traces of one builder, over as many registers
abbrev pub is_of_choice : Object → Object → Bool
is_of_choice a b = (policy_number a.policy == policy_number b.policy) && ((builder_number a.builder == builder_number b.builder) && (a.regs == b.regs))

-- the first of these, the first of which has number i, that isn't of an object's choice
abbrev pub first_other : Object → ℕ → List Object → Option ℕ
first_other a i [] = None
first_other a i (o ∷ os) = if is_of_choice a o then first_other a (suc i) os else Some i

-- the first that isn't of the first one's
abbrev pub other_choice : List Object → Option ℕ
other_choice [] = None
other_choice (o ∷ os) = first_other o 0 (o ∷ os)

abbrev pub texts_of : List Object → List (List ℕ)
texts_of os = map (λ o. o.source) os

-- the results of all, one object's behind the other's
abbrev pub results_of : List Object → List TraceOut
results_of os = flat_map (λ o. o.outs) os

-- an object's results were made by this choice
pub record HasChoice (joined : Joined) (o : Object) : Type 0 where
  pub policy : o.policy ≡ joined.policy
  pub builder : o.builder ≡ joined.builder
  pub regs : o.regs ≡ joined.regs

-- the texts and the results of objects, all of which are of one choice
pub record IsJoined (objects : List Object) (joined : Joined) : Type 0 where
  pub choice : All (HasChoice joined) objects
  pub texts : joined.texts.items ≡ texts_of objects
  pub outs : joined.outs.items ≡ results_of objects

-- why objects aren't joined: the first of another choice; want of memory tells nothing
abbrev pub TellsOfJoin : List Object → JoinFault → Type 0
TellsOfJoin objects (OtherChoice object) = other_choice objects ≡ Some object
TellsOfJoin objects Memory = Unit {0}
