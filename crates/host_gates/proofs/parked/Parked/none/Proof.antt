-- `none` makes one that owns nothing.
use Rattle.std.proofs.Common.{◌≡◌, [], ◌∷◌, refl, false, lit<}
use Rattle.std.proofs.raw_atomic.Walks.{proved, leaves}
use base.Logic.{emp}
use contract.Monad.{fact, fact_i}
use types.Kit.{‵, raw, ◌⊛◌, ◌$◌, ◌∵◌, !, qed, by, move, drop, split, fsplit, fjoin, use0}
use types.Run.{enter, and_then, no_more, lit, returns}
use types.ByLocal.{alloc_all, pass_all, free_all, look_at, get, sets}
use types.Part.{agg}
use denote.Exit.{yes}
use denote.RawPtr.{null_ptr}
use base.Fml.{ftrue}
use denote.RattleType.{owns}
use denote.Signature.{plain, types_at}
use denote.Steps.{nothing}
use denote.Triple.Walked.{Stays, walk_of, stay_dropped, Goes-dropped}
use Rattle.turns.specs.Circular.{ending_with}
use Rattle.site_turns.specs.declared.SiteTurns.TheVariants.{Circular}
use Rattle.waiting.specs.declared.queue_order.QueueOrder.TheVariants.{Arrival}
use Rattle.history.specs.Calls.{anew}
use Rattle.std_heap.specs.contracts.Global as heap
use Rattle.std_heap.proofs.Handle.{heap_val, heap_Tells}
use Rattle.host_gates.proofs.Fields.{parked_val, parked_in}
use Rattle.host_gates.specs.contracts.parked.Parked as parked
use Rattle.host_gates.specs.contracts.parked.Parked.none as f
use Rattle.host_gates.proofs.parked.Parked.none.Statement.{statement}
use Rattle.host_gates.proofs.parked.Parked.none.Code as code

abbrev stayed : Stays f.ended.signature.params f.ended.kept
stayed = (stay_dropped (plain (λ _. heap.the_row)) yes, tt)

pub none_spec : {M : Type 1} → statement M
none_spec 𝓤 𝓛 𝓜 𝓡 wired =
    let c = f.clauses 𝓛 𝓜.mem 𝓡.returns in let W = walk_of 𝓛 f.ended stayed c in
    proved 𝓛 f.ended stayed c 𝓜 𝓡 (Goes-dropped 𝓛 0 (plain (λ _. heap.the_row)) yes (λ κs x w. refl), tt)
    f.Key.name code.function (code.unfolded 𝓤 𝓛.H 𝓜 𝓡 wired)
    (λ κs. ((λ _. heap_val ∷ []), tt)) (λ κs. (heap_Tells, tt)) (λ κs qs bounds given g are.
    let y : W.Ghost = ((κs, qs, bounds, given, (heap_val ∷ [], tt)), tt) in
    let d : (parked.the_row).Denot = record { at = null_ptr; alloc = given.0; full = false; gate = anew (Circular (ending_with 0)) 0 Arrival } in
    qed 𝓛 ((‵ ftrue ⊛ ‵ (owns (types_at f.signature.params κs) given y.0.4)) ∷ raw ((c κs given).requires tt) ∷ []) ∵ move ! (1 ∷ []) $ drop ! $ split ! $
    drop ! $ fsplit ! $
    enter ! _ _ _ _ _ $ alloc_all ! (λ l. pass_all ! refl ((tt, ((tt, tt), tt)), tt) $
    sets ! (agg ! (and_then ! (lit ! tt) (and_then ! (get ! refl) (no_more !)))) refl (tt, (record { fits = lit< tt }, (((tt, tt), tt), tt))) $
    returns ! (look_at ! 0 refl) $ free_all ! refl $
    nothing ! $ parked_in ! d $ use0 𝓛 (raw (fact 𝓤 (d.full ≡ false))) (fact_i 𝓤 (d.full ≡ false) (emp 𝓤) refl) $ move ! (1 ∷ []) $ nothing ! $
    nothing ! $ fjoin ! $ move ! (3 ∷ []) $
    by ! (leaves 𝓛 f.ended stayed c y (parked_val null_ptr) d (tt, tt) (tt, tt))))
