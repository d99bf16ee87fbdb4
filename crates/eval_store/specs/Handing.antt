-- What the code hands over, as the meaning says it.
use Rattle.std.specs.Prelude.{Option, Some, None}
use Rattle.ob_types.specs.Store.{Cell, Handed, At, Sized, Tagged, Value, Span}
use Rattle.eval_store.specs.Areas.{address_of, address_form_of}
use Rattle.eval_store.specs.Cells.{cell_of, form_of}
use Rattle.eval_store.specs.declared.handed.Span.{Span as SpanForm}
use Rattle.eval_store.specs.declared.handed.HandedForm.{HandedForm}
use Rattle.eval_store.specs.declared.handed.HandedForm.TheVariants.{At as AnAt, Sized as ASized, Tagged as ATagged, Value as AValue}

abbrev pub handed_of : HandedForm → Handed
handed_of (AnAt a) = At (address_of a)
handed_of (ASized a n) = Sized (address_of a) n
handed_of (ATagged a t) = Tagged (address_of a) t
handed_of (AValue c) = Value (cell_of c)

abbrev pub handed_form_of : Handed → HandedForm
handed_form_of (At a) = AnAt (address_form_of a)
handed_form_of (Sized a n) = ASized (address_form_of a) n
handed_form_of (Tagged a t) = ATagged (address_form_of a) t
handed_form_of (Value c) = AValue (form_of c)

-- the cell of a value
abbrev pub cell_in : Handed → Option Cell
cell_in (Value c) = Some c
cell_in _ = None

abbrev pub span_of : SpanForm → Span
span_of a = record { at = address_of a.at; length = a.length }
