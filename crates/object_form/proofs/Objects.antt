-- What is read, and read again.
use Rattle.std.proofs.Common.{◌≡◌, ℕ, ◌≤◌, List, ◌++◌, length, Result, Ok, Err, ap, ◌∙◌, arith, length-append}
use Rattle.std.specs.Prelude.{IfOk, slice_index_or}
use Rattle.plain_form.specs.Spelling.{number, list, Any, KeepsList}
use Rattle.plain_form.specs.results.Spelling.{result}
use Rattle.plain_form.specs.results.Bounds.{TypedResult}
use Rattle.plain_form.specs.Formats.{IsBytes}
use Rattle.plain_form.proofs.Whole.{whole_takes, whole_again}
use Rattle.plain_form.proofs.ResultBounds.{results_fit, fits_notable}
use Rattle.object_form.specs.declared.object.Object.{Object}
use Rattle.object_form.specs.declared.fault.ObjectFault.{ObjectFault}
use Rattle.object_form.specs.Objects.{mark, most_bytes, policy_number, builder_number, text, spelled, object_bytes, IsObject, IsWritable}
use Rattle.object_form.specs.Reading.{object_at, object_in}
use Rattle.object_form.specs.Faults.{Tells}
use Rattle.object_form.proofs.Formats.{ObjectFits, object_format, is_object, object_fits}

pub object_takes : (bytes : List ℕ) (o : Object) → IsBytes bytes → object_in bytes ≡ Ok o → IsObject o × (bytes ≡ object_bytes o)
object_takes bytes o fits e = let t = whole_takes mark spelled object_at ObjectFits object_format bytes o fits e in (is_object o t.0, t.1)

pub object_again : (o : Object) → IsObject o → object_in (object_bytes o) ≡ Ok o
object_again o h = whole_again mark spelled object_at ObjectFits object_format o (object_fits o h)

read_as : {A B : Type 0} (x y : A) (r : Result A B) → r ≡ Ok x → r ≡ Ok y → x ≡ y
read_as x y r p q = cc

pub one_object : (a b : Object) → IsObject a → IsObject b → object_bytes a ≡ object_bytes b → a ≡ b
one_object a b p q e = read_as a b (object_in (object_bytes a)) (object_again a p) (ap object_in e ∙ object_again b q)

pub is_found : (bytes : List ℕ) (r : Result Object ObjectFault) → IsBytes bytes → Tells r (object_in bytes) → IfOk r (λ o. IsObject o × (bytes ≡ object_bytes o))
is_found bytes (Ok o) fits given = object_takes bytes o fits given
is_found bytes (Err e) fits given = tt

-- what is read can be written
writable : (o : Object) → IsObject o → IsWritable o
writable o h = record { regs = h.regs; source = h.source.0; outs = λ k d lt. fits_notable (slice_index_or o.outs k d) (h.outs.1 k d lt) }

pub is_writable : (bytes : List ℕ) (r : Result Object ObjectFault) → IsBytes bytes → Tells r (object_in bytes) → IfOk r IsWritable
is_writable bytes (Ok o) fits given = writable o (object_takes bytes o fits given).0
is_writable bytes (Err e) fits given = tt

-- a short object is read again
pub short_is_object : (o : Object) → IsWritable o → IsBytes o.source → KeepsList Any TypedResult o.outs → length (object_bytes o) ≤ most_bytes → IsObject o
short_is_object o w b typed short =
    let front = number (policy_number o.policy) ++ (number (builder_number o.builder) ++ number o.regs) in
    let e0 = length-append mark (spelled o) in
    let e1 = length-append front (text o.source ++ list result o.outs) in
    let e2 = length-append (text o.source) (list result o.outs) in
    record { regs = w.regs; source = (w.source, b); outs = results_fit o.outs typed w.outs (omega (arith, short, e0, e1, e2)) }
