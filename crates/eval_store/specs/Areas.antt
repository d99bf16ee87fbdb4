-- The code's areas and addresses, as the meaning has them.
use Rattle.ob_types.specs.Store.{Area, Globals, Frames, Heap, Strings, Address}
use Rattle.eval_store.specs.declared.handed.Address.{Address as AddressForm}
use Rattle.eval_store.specs.declared.handed.Area.{Area as AreaForm}
use Rattle.eval_store.specs.declared.handed.Area.TheVariants.{Globals as InGlobals, Frames as InFrames, Heap as InHeap, Strings as InStrings}

abbrev pub area_of : AreaForm → Area
area_of InGlobals = Globals
area_of InFrames = Frames
area_of InHeap = Heap
area_of InStrings = Strings

abbrev pub address_of : AddressForm → Address
address_of a = record { area = area_of a.area; object = a.object; cell = a.cell }

abbrev pub area_form_of : Area → AreaForm
area_form_of Globals = InGlobals
area_form_of Frames = InFrames
area_form_of Heap = InHeap
area_form_of Strings = InStrings

abbrev pub address_form_of : Address → AddressForm
address_form_of a = record { area = area_form_of a.area; object = a.object; cell = a.cell }
