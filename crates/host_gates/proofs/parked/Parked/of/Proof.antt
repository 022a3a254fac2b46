-- `of` takes the box apart, and keeps what it owned.
use Rattle.std.proofs.Common.{◌≡◌, ℕ, List, [], ◌∷◌, ◌++◌, refl, sym, ap, ◌∙◌, subst, true}
use Rattle.std.proofs.raw_atomic.Walks.{proved_at, leaves}
use base.Logic.{SProp, ent, emp, never, id⊢, fst∗}
use base.Fraction.{full_share}
use base.Fml.{ftrue, fsep, flft}
use mir.Raw.{raw as bare}
use mir.Val.{Val, vstruct, of_list}
use contract.Monad.{fact, fact_i}
use contract.Running.{tables}
use prog.Wp.{WpFn}
use types.Logic.{sem}
use types.Kit.{‵, raw, ◌⊛◌, some, later, ◌$◌, ◌∵◌, !, qed, by, move, keep, drop, split, split3, join, fsplit, fjoin, fpick, pick, suffices, use0, use1, await, rewrite, feq_l}
use types.Run.{enter, stop, fld, of_opd, and_then, no_more, returns}
use types.ByLocal.{alloc_all, pass_all, free_all, look_at, get, get_in, sets, lands_as}
use types.Part.{agg, sub, whole}
use types.Tokens.{lft_new}
use denote.Exit.{yes}
use denote.Builtin.{RawPtr}
use denote.RattleType.{RattleType, owns}
use denote.RawPtr.{Ptr, block_ptr, null_ptr, ptr_val, in_a_block}
use denote.Param.{layout}
use denote.Signature.{plain}
use denote.Laws.{Is, shows}
use denote.Steps.{nothing, only, heard, peeks}
use denote.Triple.Spec.{triple_of}
use denote.Triple.Call.{calls_at}
use denote.Triple.Walked.{Stays, walk_of, stay_dropped, Goes-dropped}
use denote.Triple.Table.{framed}
use denote.Struct.Tuple.{Tuple}
use denote.Param.NoDrop.{glues}
use contract.BorrowLft.{⊑_static, ◌⊑◌}
use Rattle.std_heap.proofs.GlobalAllocator.TheImpl.Met.{passed}
use Rattle.std_alloc.specs.Box.Ownership.{box_owns}
use Rattle.std_heap.specs.contracts.GlobalAllocator.TheImpl.{ghosts, dict}
use Rattle.std_heap.proofs.Handle.{heap_val, heap_Tells}
use Rattle.std_alloc.proofs.BoxSteps.Form as box
use Rattle.std_alloc.proofs.BoxSteps.Steps.{box_out, box_in}
use Rattle.std_alloc.specs.contracts.boxed.Box.into_raw_with_allocator as callee
use Rattle.std_alloc.proofs.boxed.Box.into_raw_with_allocator.Met.{met}
use Rattle.host_gates.proofs.Boxes.{Of, Heap, OfArg, HeapArg, LawsOf, LawsHeap, drop_of, drop_heap, E}
use Rattle.host_gates.proofs.Fields.{parked_val, parked_in}
use Rattle.host_gates.specs.contracts.parked.Parked as parked
use Rattle.host_gates.specs.contracts.parked.Parked.of as f
use Rattle.host_gates.proofs.parked.Parked.of.Statement.{statement}
use Rattle.host_gates.proofs.parked.Parked.of.Code as code

abbrev Pair : RattleType
Pair = Tuple (RawPtr ∷ Heap ∷ [])

abbrev stayed : Stays f.ended.signature.params f.ended.kept
stayed = (stay_dropped _ yes, tt)

pub of_spec : {M : Type 1} → statement M
unfolding Rattle.host_gates.proofs.Destruct++none.drop.Code.code
of_spec 𝓤 𝓛 𝓜 𝓡 wired =
    let H = 𝓛.H in let 𝓣 = tables 𝓤 H 𝓜 𝓡 𝓡.env in let c = f.clauses 𝓛 𝓜.mem 𝓡.returns in
    proved_at 𝓛 f.ended stayed c 𝓜 𝓡 (Goes-dropped 𝓛 0 (plain (λ _. box.B E)) yes (λ κs x w. refl), tt)
    f.Key.name code.function (code.unfolded 𝓤 H 𝓜 𝓡 wired) (λ z are.
    let v = z.0.3.0 in
    qed 𝓛 ((‵ ftrue ⊛ ‵ (owns (box.B E ∷ []) z.0.3 z.0.4)) ∷ raw ((c z.0.0 z.0.3).requires z.1) ∷ []) ∵ split ! $ drop ! $ move ! (1 ∷ []) $ drop ! $
    fsplit ! $ box_out E ! v z.0.4.0 (λ b o h e ws fits.
    box_in E ! v b o v.value e refl $ fjoin ! $
    let tokens = λ (α : ℕ) (β : ℕ). ‵ (flft (α ∷ []) full_share) ⊛ ‵ (flft (β ∷ []) full_share) ⊛ ‵ ftrue in
    let w : Val = box.word E h b o in
    let a = v.alloc in
    let Run : List Val → SProp 𝓤 = λ us. WpFn 𝓤 H 𝓣.C 𝓣.Λ code.function us ((walk_of 𝓛 f.ended stayed c).post z) in
    let typed = box.box_typed E h b o fits in
    suffices ! (Run (w ∷ [])) (subst (λ (us : List Val). ent 𝓤 (Run (w ∷ [])) (Run us)) (sym (λ i. ws i ++ [])) (id⊢ 𝓤 (Run (w ∷ [])))) $
    enter ! _ _ _ _ _ $ alloc_all ! (λ l. pass_all ! refl (typed, tt) $ sets ! (of_opd ! (get ! refl)) refl typed $
    -- the call, with a lifetime for each of its two types: [its tokens and the box; that both are short enough]
    lft_new ! tt (λ α. lft_new ! tt (λ β.
    let k = triple_of 𝓛 (callee.signature OfArg HeapArg ghosts dict drop_heap drop_of)
    (callee.spec OfArg HeapArg ghosts dict drop_heap drop_of 𝓛 𝓜.mem 𝓡.returns) in
    let y : k.Ghost = (((α ∷ [], (β ∷ [], tt)), (full_share, (full_share, tt)), tt, (v, tt), (w ∷ [], tt)), tt) in
    nothing ! $ move ! (1 ∷ 0 ∷ []) $ join ! $ move ! (1 ∷ 0 ∷ []) $ join ! $ join ! $
    nothing ! $ use0 𝓛 (raw (fact 𝓤 ((β ∷ []) ⊑ []))) (fact_i 𝓤 ((β ∷ []) ⊑ []) (emp 𝓤) (⊑_static (β ∷ []))) $ join ! $
    use0 𝓛 (raw (fact 𝓤 ((α ∷ []) ⊑ []))) (fact_i 𝓤 ((α ∷ []) ⊑ []) (emp 𝓤) (⊑_static (α ∷ []))) $ join ! $ move ! (1 ∷ 0 ∷ []) $ join ! $
    use1 𝓛 (raw (k.pre y)) (id⊢ 𝓤 _) $
    calls_at ! (framed 𝓤 H 𝓜 𝓣) k (met 𝓤 𝓛 𝓜 𝓡 (code.calls-std_alloc::boxed::Box::into_raw_with_allocator 𝓡.env wired) OfArg HeapArg LawsOf LawsHeap ghosts dict drop_heap drop_of
    (passed 𝓡.env (code.calls-std_heap::GlobalAllocator::allocate 𝓡.env wired) (code.calls-std_heap::GlobalAllocator::deallocate 𝓡.env wired)
    (code.calls-std_heap::GlobalAllocator::grow 𝓡.env wired) (code.calls-std_heap::GlobalAllocator::shrink 𝓡.env wired) _ 𝓤 𝓛 𝓜 𝓡)
    (glues "host_gates::Destruct++none::drop" 𝓡.env (code.calls-host_gates::Destruct++none::drop 𝓡.env wired) HeapArg LawsHeap _ 𝓤 𝓛 𝓜 𝓡)
    (glues "host_gates::Destruct++none::drop" 𝓡.env (code.calls-host_gates::Destruct++none::drop 𝓡.env wired) OfArg LawsOf _ 𝓤 𝓛 𝓜 𝓡))
    y (and_then ! (get ! refl) (no_more !)) (λ u.
    use1 𝓛 (later (some (λ (r : Ptr × (Heap).Denot). (tokens α β ⊛ ‵ (Pair.own_val r (u ∷ []))) ⊛
    some (λ (_ : (Unit {0} × (Unit {0} × Unit {0})) × Unit {0}). ‵ (fsep (fsep ftrue (fsep ftrue ftrue)) ftrue) ⊛ (raw (fact 𝓤 (r.1 ≡ a)) ⊛
    ‵ (box_owns (ghosts.dealloc_token a) Of r.0 v.value)))))) (id⊢ 𝓤 _) $
    -- it gives [what the pointer owns; the tokens; the pair of pointer and handle]
    await ! tt $ pick ! (λ r. split ! $ move ! (1 ∷ []) $ pick ! (λ _. split3 ! $ drop ! $ heard ! (r.1 ≡ a) (λ ea.
    in_a_block ! r.0 (λ p. box_owns (ghosts.dealloc_token a) Of p v.value) (fst∗ 𝓤 (never 𝓤) (sem 𝓛 (ghosts.dealloc_token a (bare (layout Of)) null_ptr)))
    (λ b' o' e'.
    move ! (1 ∷ []) $ split ! $ move ! (1 ∷ []) $ fpick ! (λ vss. fsplit ! $ feq_l ! (λ eu. fsplit ! $ feq_l ! (λ ep. fsplit ! $
    rewrite ! 0 (λ (s : (Heap).Denot). ‵ ((Heap).own_val s vss.1.0)) ea refl $
    peeks ! Heap (Is Heap) (shows 𝓛 Heap) a vss.1.0 (λ is. let eh : vss.1.0 ≡ heap_val ∷ [] = heap_Tells a vss.1.0 is in
    rewrite ! 0 (λ (us : List Val). ‵ ((Heap).own_val a us)) eh refl $
    -- the pair is taken apart, and the struct made
    let d : (parked.the_row).Denot = record { at = block_ptr b' o'; alloc = a; full = true; gate = v.value } in
    lands_as ! (ap only (eu ∙ (λ j. vstruct (of_list ((ep ∙ ap (λ (p : Ptr). ptr_val p ∷ []) e') j ++ (eh j ++ []))) ∷ []))) refl (tt, (tt, (((tt, tt), tt), tt))) $
    sets ! (of_opd ! (get_in ! (fld ! refl (stop !)) (sub ! 0 refl (whole !)))) refl (tt, tt) $
    sets ! (of_opd ! (get_in ! (fld ! refl (stop !)) (sub ! 1 refl (whole !)))) refl (tt, ((tt, tt), tt)) $
    sets ! (of_opd ! (get ! refl)) refl (tt, tt) $
    sets ! (agg ! (and_then ! (get ! refl) (and_then ! (get ! refl) (no_more !)))) refl (tt, (tt, (((tt, tt), tt), tt))) $
    returns ! (look_at ! 0 refl) $ free_all ! refl $ move ! (3 ∷ 0 ∷ []) $ parked_in ! d $
    use0 𝓛 (raw (fact 𝓤 (d.gate ≡ v.value))) (fact_i 𝓤 (d.gate ≡ v.value) (emp 𝓤) refl) $
    use0 𝓛 (raw (fact 𝓤 (d.full ≡ true))) (fact_i 𝓤 (d.full ≡ true) (emp 𝓤) refl) $ join ! $ move ! (1 ∷ []) $
    nothing ! $ nothing ! $ fjoin ! $ nothing ! $ keep ! (0 ∷ 1 ∷ 2 ∷ 3 ∷ []) $
    by ! (leaves 𝓛 f.ended stayed c z (parked_val (block_ptr b' o')) d (tt, tt) (tt, tt))))))))))))))))
