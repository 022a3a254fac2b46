-- The event that comes next.
use Rattle.std.proofs.Common.{◌≡◌, List, slice_get}
use Rattle.earliest.specs.HeapOrder.{IsHeap}
use Rattle.earliest.specs.Sorted.{sorted}
use Rattle.earliest.proofs.First.{first_in_order}
use Rattle.agenda.specs.Events.{event_before, event_order}
use Rattle.agenda.specs.declared.event.Event.{Event}

-- the first place of a heap has the first in order
pub first_comes : (es : List Event) → IsHeap event_before es → slice_get es 0 ≡ slice_get (sorted event_before es) 0
first_comes es h = first_in_order event_before event_order es h
