-- A parked gate as its machine value: a pointer and the allocator's handle. Assumes `Logic`.
--     parked_out     what is owned of one is what its pointer owns, if anything, and the handle
--     parked_in      and the other way round
use Rattle.std.proofs.Common.{◌≡◌, List, [], ◌∷◌, ◌++◌, refl, ◌∙◌}
use seplogic.Ra.Ura.{Ura}
use mir.Val.{Val, vstruct, vcons, vnil, of_list}
use types.Logic.{Logic}
use types.Kit.{Item, Goal, Seq, Step, step, ‵, ◌$◌, move, drop, fsplit, fjoin, fpick, fpack, feq_i, feq_l, rewrite}
use denote.RattleType.{Valss}
use denote.Laws.{Is, shows}
use denote.RawPtr.{Ptr, ptr_val}
use denote.Steps.{nothing, peeks}
use denote.Struct.Struct.{within}
use denote.Struct.Owning.{shape, fields, to}
use base.Fml.{Fml}
use Rattle.std_heap.specs.contracts.Global as heap
use Rattle.std_heap.proofs.Handle.{heap_val, heap_Tells}
use Rattle.host_gates.specs.contracts.parked.Parked as parked

abbrev pub parked_val : Ptr → Val
parked_val p = vstruct (vcons (ptr_val p) (vcons heap_val vnil))

abbrev pub behind : (parked.the_row).Denot → Fml
behind = parked.the_heap

module _ {M : Type 1} {𝓤 : Ura M} {𝓛 : Logic 𝓤} {K : Type 0} {Γ : List (Item 𝓤)} {G : Goal 𝓤 𝓛.H} where
  pub parked_in : K → (d : (parked.the_row).Denot)
      → Step K 𝓛 (‵ ((parked.the_row).own_val d (parked_val d.at ∷ [])) ∷ Γ) G (‵ (behind d) ∷ ‵ ((heap.the_row).own_val d.alloc (heap_val ∷ [])) ∷ Γ) G
  parked_in t d = step (λ s. let v : Val = parked_val d.at in
      nothing t $ move t (2 ∷ 0 ∷ []) $ fjoin t $ feq_i t (List Val) (ptr_val d.at ∷ []) (ptr_val d.at ∷ []) refl $ fjoin t $
      feq_i t (List Val) (v ∷ []) (v ∷ []) refl $ fjoin t $
      fpack t (Valss (fields parked.the_type)) (within (shape parked.the_type) (to parked.the_type d) (v ∷ [])) (ptr_val d.at ∷ [], (heap_val ∷ [], tt)) $
      fjoin t $ s)

  pub parked_out : K → (d : (parked.the_row).Denot) (vs : List Val)
      → (vs ≡ parked_val d.at ∷ [] → Seq K 𝓛 (‵ (behind d) ∷ ‵ ((heap.the_row).own_val d.alloc (heap_val ∷ [])) ∷ Γ) G)
      → Seq K 𝓛 (‵ ((parked.the_row).own_val d vs) ∷ Γ) G
  parked_out t d vs k =
      fsplit t $ fpick t (λ vss. fsplit t $ feq_l t (λ ev. fsplit t $ feq_l t (λ ep. fsplit t $
      peeks t heap.the_row (Is heap.the_row) (shows 𝓛 heap.the_row) d.alloc vss.1.0 (λ is.
      let eh : vss.1.0 ≡ heap_val ∷ [] = heap_Tells d.alloc vss.1.0 is in
      rewrite t 0 (λ (us : List Val). ‵ ((heap.the_row).own_val d.alloc us)) eh refl $
      move t (1 ∷ []) $ drop t $ move t (1 ∷ []) $ k (ev ∙ (λ i. vstruct (of_list (ep i ++ (eh i ++ []))) ∷ []))))))
