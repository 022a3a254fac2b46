-- A box with a gate, as a call of a generic function takes it: the types of its arguments with their laws, and how they are dropped. Assumes
-- `Logic`.
use Rattle.std.proofs.Common.{[], ◌∷◌, refl}
use mir.Raw.{raw}
use mir.Syntax.{Dict, impl, tnil, tcons, dnil}
use denote.Exit.{no}
use denote.Param.{layout, arg}
use denote.Param.Laws.{Laws, arg_laws}
use denote.RattleType.{RattleType}
use Rattle.std_heap.specs.contracts.Global as heap
use Rattle.std_heap.proofs.Global.TheLaws as heap_laws
use Rattle.std_heap.specs.contracts.GlobalAllocator.TheImpl.{ghosts, dict}
use Rattle.std_alloc.proofs.BoxSteps.Form as box
use Rattle.gate.specs.contracts.gate.Gate as gates
use Rattle.gate.proofs.gate.Gate.TheLaws as gate_laws
use Rattle.site_turns.specs.contracts.SiteTurns as turns
use Rattle.site_turns.proofs.SiteTurns.TheLaws as turns_laws

-- a gate, and the heap
abbrev pub Of : RattleType
Of = gates.the_row turns.the_row

abbrev pub Heap : RattleType
Heap = heap.the_row

-- the same as arguments, at their layouts
abbrev pub OfArg : RattleType
OfArg = arg (raw (layout Of)) no Of

abbrev pub HeapArg : RattleType
HeapArg = arg (raw (layout Heap)) no Heap

abbrev laws_of : Laws Of
laws_of = gate_laws.the_row_laws turns.the_row turns_laws.the_row_laws

abbrev pub LawsOf : Laws OfArg
LawsOf = arg_laws (raw (layout Of)) no Of laws_of refl

abbrev pub LawsHeap : Laws HeapArg
LawsHeap = arg_laws (raw (layout Heap)) no Heap heap_laws.the_row_laws refl

-- neither needs to be dropped
abbrev pub drop_of : Dict
drop_of = impl ("host_gates::Destruct++none::drop" ∷ []) (tcons (layout OfArg) tnil) dnil

abbrev pub drop_heap : Dict
drop_heap = impl ("host_gates::Destruct++none::drop" ∷ []) (tcons (layout HeapArg) tnil) dnil

abbrev pub E : box.Bx
E = record { row = Of; laws = laws_of; al = record { row = Heap; laws = heap_laws.the_row_laws; g = ghosts; d = dict; drops = drop_heap } }

abbrev pub B : RattleType
B = box.B E
