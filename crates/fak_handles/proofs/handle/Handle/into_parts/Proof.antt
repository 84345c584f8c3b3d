-- `into_parts` tests the pointer: at null the handle owned nothing, and else what a box owns goes with the parts.
use Rattle.fak_handles.proofs.Common.{◌≡◌, refl, sym, subst, List, [], ◌∷◌, ◌++◌, true, ◌&&◌, T, lit<, ℕ, Option, Some, None, Global, Ura, Val, vcons, vnil, vstruct, of_list, has_ty, WT, SProp, ent, emp, guard, guard_i, id⊢, ftrue, fsep, Memory, Routine, WpFn, Tables, Logic, sem, Fun, fact_use, WpFn-mono, Item, ‵, raw, given, learn, at_ret, ◌⊛◌, ◌$◌, ◌∵◌, !, qed, by, move, drop, use0, use1, join, split, fsplit, fjoin, fpick, feq_l, suffices, done, whole, sub, agg, stop, fld, lit, bin, no_more, and_then, of_opd, first, branches, exec, returns, enter, alloc_all, pass_all, free_all, look_at, get, get_in, sets, sets_last, env, yes, Ptr, block_ptr, null_ptr, ptr_val, Testable, tests_null, RattleType, type_at, nothing, triple_of, entered, says, Stays, stay_dropped, walk_of, ends_at, Goes-dropped, walk_Meets, α, token, handle_tells, D, B, τ, word, box_typed, box_out, box_in}
use mir.Raw.{raw as bare}
use contract.Running.{tables, tables_of}
use types.Match.{live}
use denote.Param.{layout}
use Rattle.core.proofs.atomic.Steps.{Ptr-Good}
use Rattle.core.proofs.cell.Inside.{Good}
use Rattle.core.proofs.option.Made.{Some-of, none_of}
use Rattle.std_alloc.proofs.ResultValues.{and_tt}
use Rattle.std_heap.specs.contracts.Global as Heap
use Rattle.std_heap.specs.contracts.GlobalAllocator.TheImpl.{ghosts}
use Rattle.std_heap.proofs.GlobalToken.{dealloc_token-Testable}
use Rattle.fak_handles.specs.contracts.desk.Desk as Desk
use Rattle.fak_handles.specs.contracts.handle.Handle as Handle
use Rattle.fak_handles.specs.contracts.parts.Parts as Parts
use Rattle.fak_handles.proofs.AsBox.{E, FromHandle as From}
use Rattle.fak_handles.specs.contracts.handle.Handle.into_parts as F
use Rattle.fak_handles.specs.contracts.handle.Handle.into_parts.Key.{name as #self}
use Rattle.fak_handles.proofs.handle.Handle.into_parts.Statement as stated
use Rattle.fak_handles.proofs.handle.Handle.into_parts.Code as code

abbrev stayed : Stays (F.ended).signature.params (F.ended).kept
stayed = (stay_dropped From yes, tt)

abbrev Lr : RattleType
Lr = Parts.the_row Desk.the_row Heap.the_row ghosts

abbrev Out : RattleType
Out = type_at (F.signature).result tt

module _ {M : Type 1} {𝓤 : Ura M} (𝓛 : Logic 𝓤) (at_mem : Memory → SProp 𝓤) (run : Routine → Fun 𝓤) (𝓣 : Tables 𝓤 𝓛.H) where
  open 𝓛 use {H}

  module _ (p : Ptr) (a : Global) (vs : List Val) where
    abbrev y : Option Desk.the_row.Denot → (walk_of 𝓛 F.ended stayed (F.clauses 𝓛 at_mem run)).Ghost
    y k = ((tt, tt, tt, (record { at = p; alloc = a; desk = k }, tt), (vs, tt)), tt)

    abbrev Post : Option Desk.the_row.Denot → Val → SProp 𝓤
    Post k = (walk_of 𝓛 F.ended stayed (F.clauses 𝓛 at_mem run)).post (y k)

    abbrev Goal : Option Desk.the_row.Denot → Type 1
    Goal k = ent 𝓤 ((walk_of 𝓛 F.ended stayed (F.clauses 𝓛 at_mem run)).pre (y k)) (WpFn 𝓤 H 𝓣.C 𝓣.Λ code.function (vs ++ []) (Post k))

    tested : (b o : ℕ) → ent 𝓤 (sem 𝓛 (token E.al a (bare (τ E)) (block_ptr b o))) (guard 𝓤 (Testable (block_ptr b o)) (sem 𝓛 (token E.al a (bare (τ E)) (block_ptr b o))))
    tested b o = fact_use 𝓤 (Testable (block_ptr b o)) (dealloc_token-Testable 𝓛 a (bare (τ E)) (block_ptr b o)) (guard_i 𝓤 (Testable (block_ptr b o)) (sem 𝓛 (token E.al a (bare (τ E)) (block_ptr b o))))

    at_some : (x : Desk.the_row.Denot) → Goal (Some x)
    at_some x =
        let v : D E = record { ptr = p; alloc = a; value = x } in
        qed 𝓛 ((‵ ftrue ⊛ ‵ (fsep ((B E).own_val v vs) ftrue)) ∷ raw (emp 𝓤) ∷ []) ∵ split ! $ drop ! $ fsplit ! $
        box_out E ! v vs (λ b o hv e ws fa. move ! (1 ∷ []) $
        use1 𝓛 (given (Testable (block_ptr b o)) (‵ (token E.al a (bare (τ E)) (block_ptr b o)))) (tested b o) $ learn ! (λ t. move ! (1 ∷ []) $
        box_in E ! v b o x e refl $
        let w : Val = word E hv b o in let d : Lr.Denot = record { ptr = p; alloc = a; value = x } in let v₁ : Val = live 1 (vcons w vnil) in
        let typed = box_typed E hv b o fa in
        let good : Good (layout Out) v₁ = (and_tt _ typed.0, (record { fits = lit< tt }, (typed.1, tt))) in
        use1 𝓛 (‵ (Lr.own_val d (w ∷ []))) (id⊢ 𝓤 _) $ use1 𝓛 (‵ (Out.own_val (Some d) (v₁ ∷ []))) (Some-of 𝓛 Lr d w) $
        move ! (1 ∷ 2 ∷ []) $ drop ! $ drop ! $
        let Γ : List (Item 𝓤) = ‵ (Out.own_val (Some d) (v₁ ∷ [])) ∷ [] in
        by ! (subst (λ (us : List Val). ent 𝓤 (types.Kit.⋆ 𝓛 Γ) (WpFn 𝓤 H 𝓣.C 𝓣.Λ code.function (us ++ []) (Post (Some x)))) (sym ws)
        (qed 𝓛 Γ ∵ enter ! 𝓣.C 𝓣.Λ code.function (w ∷ []) _ $ alloc_all ! (λ ls. pass_all ! refl (typed, tt) $
        sets ! (of_opd ! (get_in ! (fld ! refl (stop !)) (sub ! 0 refl (whole !)))) refl (tt, tt) $ sets ! (of_opd ! (get_in ! (fld ! refl (stop !)) (sub ! 1 refl (whole !)))) refl fa $
        sets ! (bin ! (get ! refl) (lit ! tt) (tests_null (block_ptr b o) t)) refl (tt, tt) $ first ! $ branches ! (get ! refl) (λ wrong. absurd wrong) (λ _.
        sets ! (of_opd ! (get ! refl)) refl (tt, tt) $
        sets ! (agg ! (and_then ! (get ! refl) (and_then ! (get ! refl) (no_more !)))) refl typed $
        sets_last ! (agg ! (and_then ! (lit ! tt) (and_then ! (get ! refl) (no_more !)))) refl good $
        exec ! 𝓣.C 𝓣.Λ (env code.function.locals ls) code.Mir.t-5 (at_ret _ (Post (Some x))) $ sets ! (of_opd ! (get ! refl)) refl good $
        returns ! (look_at ! 0 refl) $ free_all ! refl $
        suffices ! _ (ends_at 𝓛 F.ended stayed (F.clauses 𝓛 at_mem run) (y (Some x)) v₁ (Some d) (tt, tt) (tt, tt)) $ says ! refl $
        nothing ! $ nothing ! $ fjoin ! $ join ! $ nothing ! $ join ! $ done !))))))

    at_none : Goal None
    at_none =
        qed 𝓛 ((‵ ftrue ⊛ ‵ (fsep (Handle.the_row.own_val (record { at = p; alloc = a; desk = None }) vs) ftrue)) ∷ raw (emp 𝓤) ∷ []) ∵ split ! $ drop ! $ fsplit ! $
        fsplit ! $ fpick ! (λ vss. fsplit ! $ feq_l ! (λ ev. fsplit ! $ feq_l ! (λ ep. fsplit ! $ handle_tells E.al ! a vss.1.0 (λ hv ea fa. move ! (1 ∷ []) $ drop ! $ move ! (1 ∷ []) $ fpick ! (λ e. drop ! $ drop ! $ drop ! $
        let w : Val = vstruct (vcons (ptr_val null_ptr) (vcons hv vnil)) in let v₁ : Val = live 0 vnil in
        let ws : vs ≡ w ∷ [] = subst (λ (q : Ptr). vs ≡ vstruct (of_list (ptr_val q ∷ hv ∷ [])) ∷ []) e
        (subst (λ (us : List Val). vs ≡ vstruct (of_list (ptr_val p ∷ (us ++ []))) ∷ []) ea (subst (λ (us : List Val). vs ≡ vstruct (of_list (us ++ (vss.1.0 ++ []))) ∷ []) ep ev)) in
        let typed : T (has_ty (α E.al) hv && true) × WT w = (and_tt (has_ty (α E.al) hv) fa.0, ((Ptr-Good null_ptr).1, (fa.1, tt))) in
        let Γ : List (Item 𝓤) = [] in
        by ! (subst (λ (us : List Val). ent 𝓤 (types.Kit.⋆ 𝓛 Γ) (WpFn 𝓤 H 𝓣.C 𝓣.Λ code.function (us ++ []) (Post None))) (sym ws)
        (qed 𝓛 Γ ∵ enter ! 𝓣.C 𝓣.Λ code.function (w ∷ []) _ $ alloc_all ! (λ ls. pass_all ! refl (typed, tt) $
        sets ! (of_opd ! (get_in ! (fld ! refl (stop !)) (sub ! 0 refl (whole !)))) refl (Ptr-Good null_ptr) $ sets ! (of_opd ! (get_in ! (fld ! refl (stop !)) (sub ! 1 refl (whole !)))) refl fa $
        sets ! (bin ! (get ! refl) (lit ! tt) tt) refl (tt, tt) $ first ! $ branches ! (get ! refl) (λ _.
        sets_last ! (agg ! (and_then ! (lit ! tt) (no_more !))) refl (tt, (record { fits = lit< tt }, tt)) $
        exec ! 𝓣.C 𝓣.Λ (env code.function.locals ls) code.Mir.t-5 (at_ret _ (Post None)) $ sets ! (of_opd ! (get ! refl)) refl (tt, (record { fits = lit< tt }, tt)) $
        use0 𝓛 (‵ (Out.own_val None (v₁ ∷ []))) (none_of 𝓛 Lr) $ returns ! (look_at ! 0 refl) $ free_all ! refl $
        suffices ! _ (ends_at 𝓛 F.ended stayed (F.clauses 𝓛 at_mem run) (y None) v₁ None (tt, tt) (tt, tt)) $ says ! refl $
        nothing ! $ nothing ! $ fjoin ! $ join ! $ nothing ! $ join ! $ done !) (λ wrong. absurd wrong)))))))))

  walk : (z : (walk_of 𝓛 F.ended stayed (F.clauses 𝓛 at_mem run)).Ghost)
      → ent 𝓤 ((walk_of 𝓛 F.ended stayed (F.clauses 𝓛 at_mem run)).pre z) (WpFn 𝓤 H 𝓣.C 𝓣.Λ code.function (z.0.4.0 ++ []) ((walk_of 𝓛 F.ended stayed (F.clauses 𝓛 at_mem run)).post z))
  walk z = by_desk z.0.3.0.desk
    where
      by_desk : (k : Option Desk.the_row.Denot) → Goal z.0.3.0.at z.0.3.0.alloc z.0.4.0 k
      by_desk None = at_none z.0.3.0.at z.0.3.0.alloc z.0.4.0
      by_desk (Some x) = at_some z.0.3.0.at z.0.3.0.alloc z.0.4.0 x

pub into_parts_spec : {M : Type 1} → stated.statement M
unfolding tables_of
into_parts_spec 𝓤 𝓛 𝓜 𝓡 wired =
    let 𝓣 : Tables 𝓤 𝓛.H = tables_of 𝓤 𝓛.H 𝓜 (tables 𝓤 𝓛.H 𝓜 𝓡 𝓡.env) in
    entered 𝓤 𝓛.H (triple_of 𝓛 F.signature (F.spec 𝓛 𝓜.mem 𝓡.returns)) 𝓣.C 𝓣.Λ #self code.function (code.unfolded 𝓤 𝓛.H 𝓜 𝓡 wired)
    (walk_Meets 𝓛 F.ended stayed (Goes-dropped 𝓛 0 From yes (λ κs x f. refl), tt) (F.clauses 𝓛 𝓜.mem 𝓡.returns) (WpFn 𝓤 𝓛.H 𝓣.C 𝓣.Λ code.function) (WpFn-mono 𝓤 𝓛.H 𝓛.laws 𝓣 code.function)
    (walk 𝓛 𝓜.mem 𝓡.returns 𝓣))
