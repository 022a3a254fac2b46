-- `into_box` makes the box again.
use Rattle.std.proofs.Common.{◌≡◌, ℕ, List, [], ◌∷◌, ◌++◌, refl, sym, ap, ◌∙◌, subst, Bool, true}
use Rattle.std.proofs.raw_atomic.Walks.{proved_at, leaves}
use base.Logic.{SProp, ent, emp, never, id⊢, fst∗}
use base.Fraction.{full_share}
use base.Fml.{ftrue, flft}
use mir.Raw.{raw as bare}
use mir.Val.{Val, vptr, has_ty, WT}
use contract.Monad.{fact, fact_i}
use contract.Running.{tables}
use prog.Wp.{WpFn}
use types.Logic.{sem}
use types.Kit.{‵, raw, ◌⊛◌, some, later, ◌$◌, ◌∵◌, !, qed, by, move, keep, drop, split, split3, join, fsplit, fjoin, pick, suffices, use0, use1, await, rewrite, feq_i, at_ret}
use types.Run.{enter, stop, fld, of_opd, and_then, no_more, first, blocks, exec, returns}
use types.ByLocal.{alloc_all, pass_all, free_all, look_at, get, get_in, sets, lands_last, env}
use types.Part.{sub, whole}
use types.Tokens.{lft_new}
use denote.Exit.{yes}
use denote.RawPtr.{Ptr, block_ptr, null_ptr, in_a_block}
use denote.Param.{layout}
use denote.Signature.{plain}
use denote.Steps.{nothing, only, heard}
use denote.Triple.Spec.{triple_of}
use denote.Triple.Call.{calls_at_last}
use denote.Triple.Walked.{Stays, walk_of, stay_dropped, Goes-dropped}
use denote.Triple.Table.{framed}
use denote.Param.NoDrop.{glues}
use contract.BorrowLft.{⊑_static, ◌⊑◌}
use Rattle.std_heap.proofs.GlobalAllocator.TheImpl.Met.{passed}
use Rattle.std_alloc.specs.Box.Ownership.{box_owns}
use Rattle.std_heap.specs.contracts.GlobalAllocator.TheImpl.{ghosts, dict}
use Rattle.std_heap.proofs.Handle.{heap_val}
use Rattle.std_alloc.proofs.BoxSteps.Form as box
use Rattle.std_alloc.proofs.BoxSteps.Steps.{box_out, box_in}
use Rattle.std_alloc.specs.contracts.boxed.Box.from_raw as callee
use Rattle.std_alloc.proofs.boxed.Box.from_raw.Met.{met}
use Rattle.host_gates.proofs.Boxes.{Of, OfArg, HeapArg, LawsOf, LawsHeap, drop_heap, E, B}
use Rattle.host_gates.proofs.Fields.{parked_val, parked_out}
use Rattle.host_gates.specs.Owned.{owned_if}
use Rattle.std.proofs.VecSteps.Shapes.{after}
use lib.Dec.{T}
use denote.Triple.Clauses.{Lasts, lasts}
use denote.RattleType.{owns}
use Rattle.host_gates.specs.contracts.parked.Parked as parked
use Rattle.host_gates.specs.contracts.parked.Parked.into_box as f
use Rattle.host_gates.proofs.parked.Parked.into_box.Statement.{statement}
use Rattle.host_gates.proofs.parked.Parked.into_box.Code as code

abbrev stayed : Stays f.ended.signature.params f.ended.kept
stayed = (stay_dropped _ yes, tt)

pub into_box_spec : {M : Type 1} → statement M
unfolding Rattle.host_gates.proofs.Destruct++none.drop.Code.code
into_box_spec 𝓤 𝓛 𝓜 𝓡 wired =
    let H = 𝓛.H in let 𝓣 = tables 𝓤 H 𝓜 𝓡 𝓡.env in let c = f.clauses 𝓛 𝓜.mem 𝓡.returns in
    proved_at 𝓛 f.ended stayed c 𝓜 𝓡 (Goes-dropped 𝓛 0 (plain (λ _. parked.the_row)) yes (λ κs x w. refl), tt)
    f.Key.name code.function (code.unfolded 𝓤 H 𝓜 𝓡 wired) (λ z are.
    let v = z.0.3.0 in
    let a = v.alloc in
    let Post : Val → SProp 𝓤 = (walk_of 𝓛 f.ended stayed c).post z in
    let Run : List Val → SProp 𝓤 = λ us. WpFn 𝓤 H 𝓣.C 𝓣.Λ code.function us Post in
    qed 𝓛 ((‵ ftrue ⊛ ‵ (owns (parked.the_row ∷ []) z.0.3 z.0.4)) ∷ raw ((c z.0.0 z.0.3).requires z.1) ∷ []) ∵
    move ! (1 ∷ []) $ heard ! (v.full ≡ true) (λ full. split ! $ drop ! $ fsplit ! $ parked_out ! v z.0.4.0 (λ ws.
    rewrite ! 0 (λ (t : Bool). ‵ (owned_if t (box_owns (ghosts.dealloc_token a) Of v.at v.gate))) full refl $
    in_a_block ! v.at (λ p. box_owns (ghosts.dealloc_token a) Of p v.gate) (fst∗ 𝓤 (never 𝓤) (sem 𝓛 (ghosts.dealloc_token a (bare (layout Of)) null_ptr)))
    (λ b o e.
    let w : Val = parked_val (block_ptr b o) in let tokens = λ (α : ℕ) (β : ℕ). ‵ (flft (α ∷ []) full_share) ⊛ ‵ (flft (β ∷ []) full_share) ⊛ ‵ ftrue in
    suffices ! (Run (w ∷ [])) (subst (λ (us : List Val). ent 𝓤 (Run (w ∷ [])) (Run us)) (sym (λ i. (ws ∙ ap (λ (p : Ptr). parked_val p ∷ []) e) i ++ []))
    (id⊢ 𝓤 (Run (w ∷ [])))) $
    enter ! _ _ _ _ _ $ alloc_all ! (λ l. pass_all ! refl ((tt, (tt, (((tt, tt), tt), tt))), tt) $ let Ev = env code.Mir.locals l in
    sets ! (of_opd ! (get_in ! (fld ! refl (stop !)) (sub ! 0 refl (whole !)))) refl (tt, tt) $
    sets ! (of_opd ! (get_in ! (fld ! refl (stop !)) (sub ! 1 refl (whole !)))) refl (tt, ((tt, tt), tt)) $
    first ! $ blocks ! $ sets ! (of_opd ! (get ! refl)) refl (tt, tt) $
    -- the call, with a lifetime for each of its two types: [its tokens, handle and pointer; that both are short enough; what the pointer owns]
    lft_new ! tt (λ α. lft_new ! tt (λ β.
    let k = triple_of 𝓛 (callee.signature OfArg HeapArg ghosts dict drop_heap) (callee.spec OfArg HeapArg ghosts dict drop_heap 𝓛 𝓜.mem 𝓡.returns) in
    let y : k.Ghost = (((α ∷ [], (β ∷ [], tt)), (full_share, (full_share, tt)), tt, (a, (block_ptr b o, tt)), (heap_val ∷ [], (vptr b o ∷ [], tt))), v.gate) in
    nothing ! $ move ! (1 ∷ 0 ∷ []) $ join ! $ move ! (1 ∷ 0 ∷ []) $ join ! $
    move ! (3 ∷ []) $ feq_i ! (List Val) (vptr b o ∷ []) (vptr b o ∷ []) refl $ fjoin ! $ move ! (3 ∷ 0 ∷ []) $ fjoin ! $ move ! (1 ∷ 0 ∷ []) $ join ! $
    move ! (1 ∷ []) $
    use0 𝓛 (raw (fact 𝓤 ((β ∷ []) ⊑ []))) (fact_i 𝓤 ((β ∷ []) ⊑ []) (emp 𝓤) (⊑_static (β ∷ []))) $ join ! $
    use0 𝓛 (raw (fact 𝓤 ((α ∷ []) ⊑ []))) (fact_i 𝓤 ((α ∷ []) ⊑ []) (emp 𝓤) (⊑_static (α ∷ []))) $ join ! $ move ! (1 ∷ 0 ∷ []) $ join ! $
    use1 𝓛 (raw (k.pre y)) (id⊢ 𝓤 _) $
    calls_at_last ! (framed 𝓤 H 𝓜 𝓣) k (met 𝓤 𝓛 𝓜 𝓡 (code.calls-std_alloc::boxed::Box::from_raw 𝓡.env wired) OfArg HeapArg LawsOf LawsHeap ghosts dict drop_heap
    (passed 𝓡.env (code.calls-std_heap::GlobalAllocator::allocate 𝓡.env wired) (code.calls-std_heap::GlobalAllocator::deallocate 𝓡.env wired)
    (code.calls-std_heap::GlobalAllocator::grow 𝓡.env wired) (code.calls-std_heap::GlobalAllocator::shrink 𝓡.env wired) _ 𝓤 𝓛 𝓜 𝓡)
    (glues "host_gates::Destruct++none::drop" 𝓡.env (code.calls-host_gates::Destruct++none::drop 𝓡.env wired) HeapArg LawsHeap _ 𝓤 𝓛 𝓜 𝓡))
    y (and_then ! (get ! refl) (and_then ! (get ! refl) (no_more !))) (λ u.
    use1 𝓛 (later (some (λ (r : B.Denot). (tokens α β ⊛ ‵ (B.own_val r (u ∷ []))) ⊛
    some (λ (ls : Lasts (callee.ended OfArg HeapArg ghosts dict drop_heap) y.0.0 y.0.3). ‵ (lasts (callee.ended OfArg HeapArg ghosts dict drop_heap) y.0.0 y.0.3 ls) ⊛ (raw (fact 𝓤 (r.value ≡ v.gate)) ⊛ raw (fact 𝓤 (r.alloc ≡ a))))))) (id⊢ 𝓤 (k.post y u)) $
    -- it gives [the tokens; the box; what it holds]
    await ! tt $ pick ! (λ r. split ! $ move ! (1 ∷ []) $ pick ! (λ _. split3 ! $ drop ! $ move ! (2 ∷ []) $ split ! $ move ! (1 ∷ []) $
    box_out E ! r (u ∷ []) (λ b' o' h' e' us fits. box_in E ! r b' o' r.value e' refl $ rewrite ! 0 (λ (xs : List Val). ‵ (B.own_val r xs)) (sym us) refl $
    let good : T (has_ty (box.box_ty E) u) × WT u = subst (λ (x : Val). T (has_ty (box.box_ty E) x) × WT x) (sym (ap only us))
    (box.box_typed E h' b' o' fits) in
    lands_last ! refl good $ exec ! 𝓣.C 𝓣.Λ Ev (after 3 (code.function).body) (at_ret Ev Post) $ sets ! (of_opd ! (get ! refl)) refl good $ nothing ! $
    nothing ! $ fjoin ! $
    returns ! (look_at ! 0 refl) $ free_all ! refl $ nothing ! $ keep ! (0 ∷ 1 ∷ 2 ∷ 4 ∷ []) $
    by ! (leaves 𝓛 f.ended stayed c z u r (tt, tt) (tt, tt)))))))))))))
