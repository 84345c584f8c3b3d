-- `desk` lends the desk of a handle that has one, and the handle follows it. At null the handle stays as it is.
use mathlib.Core.Path.{◌≡◌, refl, sym, ap, subst}
use Prim.Native.Nat.{ℕ}
use mathlib.Core.List.{List, [], ◌∷◌, ◌++◌}
use lib.Dec.{lit<}
use seplogic.Ra.Ura.{Ura}
use base.Fraction.{full_share}
use base.Logic.{SProp, ent, sep, id⊢, guard, guard_i}
use base.Fml.{Lft, GName, Share, Fml, ftrue, flft, fsep, fobs, fres}
use contract.Monad.{fact_use}
use contract.Running.{tables, tables_of}
use denote.Exit.{no}
use denote.Follow.{follows, follows_by, Part, lends_Part}
use denote.Memory.{part_at, mem, cell_at, part_of}
use denote.RattleType.{RattleType, Valss}
use denote.RawPtr.{Ptr, block_ptr, null_ptr, ptr_val, Testable, tests_null}
use denote.Ref.{MutBor, MutRef, mut_vals, mut_Tells}
use denote.Signature.{plain, mut_ref_to}
use denote.Steps.{nothing, opens, closes}
use denote.Struct.Owning.{shape, fields, to}
use denote.Struct.Struct.{within}
use denote.Triple.Walked.{says, Stays, stay_dropped, walk_of, ends_at, Goes-spent_ref}
use mir.Raw.{raw as bare}
use mir.Syntax.{named}
use mir.Val.{Val, vptr, vstruct, vcons, vnil, of_list}
use prog.Memory.{Memory}
use prog.Routine.{Routine}
use prog.Wp.{Env, Tables, WpFn}
use contract.Monad.{Fun}
use types.ByLocal.{alloc_all, pass_all, free_all, look_at, get, through, sets, env, sets_last}
use types.Kit.{‵, raw, ◌⊛◌, some, later, given, learn, at_ret, ◌$◌, ◌∵◌, !, qed, by, move, keep, use0, use1, drop, split, join, pick, await, rewrite, group, fsplit, fsplit3, fjoin, fpick, fpack, feq_l, feq_i, suffices, frame, done}
use types.Logic.{Logic, sem}
use types.Match.{live}
use types.Part.{whole, sub, look_in, agg}
use types.Run.{stop, fld, load, of_opd, lit, bin, first, blocks, branches, skips, exec, returns, returns_within, enter, addr, no_more, and_then}
use Rattle.core.proofs.alloc.Calls.{token, handle_tells}
use Rattle.core.proofs.atomic.Steps.{Ptr-Good}
use Rattle.core.proofs.option.Made.{Some-of, none_of}
use Rattle.core.specs.contracts.option.Option as OP
use Rattle.std.specs.Prelude.{Option, Some, None}
use Rattle.std.specs.Global.{Global}
use Rattle.std.proofs.raw_atomic.Walks.{proved}
use Rattle.std_alloc.proofs.BoxSteps.Form.{B, D, τ, word, handle}
use Rattle.std_alloc.proofs.BoxSteps.Steps.{box_out, box_in}
use Rattle.std_heap.proofs.GlobalToken.{dealloc_token-Testable}
use Rattle.fak_handles.specs.contracts.desk.Desk as Desk
use Rattle.fak_handles.specs.contracts.handle.Handle as Handle
use Rattle.fak_handles.specs.DeskLending.{with_desk}
use Rattle.fak_handles.proofs.AsBox.{E}
use Rattle.fak_handles.specs.contracts.handle.Handle.desk as F
use Rattle.fak_handles.specs.contracts.handle.Handle.desk.Key.{name as #self}
use Rattle.fak_handles.proofs.handle.Handle.desk.Statement as stated
use Rattle.fak_handles.proofs.handle.Handle.desk.Code as code

abbrev H-row : RattleType
H-row = Handle.the_row

abbrev D-row : RattleType
D-row = Desk.the_row

abbrev stayed : Stays F.ended.signature.params F.ended.kept
stayed = (stay_dropped (mut_ref_to (0 ∷ []) tt (plain (λ _. H-row))) no, tt)

module _ {M : Type 1} {𝓤 : Ura M} (𝓛 : Logic 𝓤) (at_mem : Memory → SProp 𝓤) (run : Routine → Fun 𝓤) (κ : Lft) (q : Share) (rb ro : ℕ) (γ : GName) (p : Ptr) (a : Global) where
  open 𝓛 use {H, A}

  abbrev held : Option D-row.Denot → H-row.Denot
  held k = record { at = p; alloc = a; desk = k }

  abbrev bound : Option D-row.Denot → (walk_of 𝓛 F.ended stayed (F.clauses 𝓛 at_mem run)).Ghost
  bound k = (((κ, tt), (q, tt), tt, (record { ref_ptr = (rb, ro); ghost_name = γ; now = held k }, tt), (vptr rb ro ∷ [], tt)), tt)

  abbrev Post : Option D-row.Denot → Val → SProp 𝓤
  Post k = (walk_of 𝓛 F.ended stayed (F.clauses 𝓛 at_mem run)).post (bound k)

  abbrev Lent : RattleType
  Lent = MutRef (named 0) κ D-row

  -- ---- a handle with a desk

  module _ (x : D-row.Denot) (b o : ℕ) (hv : Val) where
    -- all of the handle but its desk
    abbrev Rest : Fml
    Rest = fsep (fsep (token E.al a (bare (τ E)) (block_ptr b o)) (handle E a hv)) (cell_at full_share H-row.mir (word E hv b o ∷ []) rb ro)

    back : p ≡ block_ptr b o → (w : D-row.Denot) → ent 𝓤 (sep 𝓤 (sem 𝓛 ((mem D-row).own_at w b o)) (sem 𝓛 Rest)) (sem 𝓛 ((mem H-row).own_at (with_desk (held (Some x)) w) rb ro))
    unfolding part_of
    back at_b w =
        let v : D E = record { ptr = p; alloc = a; value = w } in
        qed 𝓛 (‵ (part_at D-row full_share w b o) ∷ ‵ Rest ∷ []) ∵ move ! (1 ∷ []) $ fsplit ! $ fsplit ! $ move ! (3 ∷ []) $
        box_in E ! v b o w at_b refl $ use1 𝓛 (‵ (H-row.own_val (held (Some w)) (word E hv b o ∷ []))) (id⊢ 𝓤 _) $ move ! (1 ∷ 0 ∷ []) $ fjoin ! $
        fpack ! (List Val) (λ us. fsep (cell_at full_share H-row.mir us rb ro) (H-row.own_val (held (Some w)) us)) (word E hv b o ∷ []) $ done !

    exits : (γ' : GName)
        → ent 𝓤 (sep 𝓤 (sem 𝓛 (Lent.own_val (record { ref_ptr = (b, o); ghost_name = γ'; now = x }) (vptr b o ∷ []))) (sep 𝓤 (A.lft κ q) (sem 𝓛 (follows H-row D-row γ γ' (with_desk (held (Some x))))))) (Post (Some x) (live 1 (of_list (vptr b o ∷ []))))
    unfolding follows_by
    exits γ' =
        let r : MutBor D-row.Denot = record { ref_ptr = (b, o); ghost_name = γ'; now = x } in
        qed 𝓛 (‵ (Lent.own_val r (vptr b o ∷ [])) ∷ ‵ (flft κ q) ∷ ‵ (follows H-row D-row γ γ' (with_desk (held (Some x)))) ∷ []) ∵
        use1 𝓛 (‵ ((OP.the_row Lent).own_val (Some r) (live 1 (of_list (vptr b o ∷ [])) ∷ []))) (Some-of 𝓛 Lent r (vptr b o)) $
        suffices ! _ (ends_at 𝓛 F.ended stayed (F.clauses 𝓛 at_mem run) (bound (Some x)) (live 1 (of_list (vptr b o ∷ []))) (Some r) (tt, tt) (tt, tt)) $
        nothing ! $ nothing ! $ fjoin ! $ join ! $ nothing ! $ move ! (2 ∷ 0 ∷ []) $ join ! $ join ! $ frame ! $ says ! refl $ done !

    tested : ent 𝓤 (sem 𝓛 (token E.al a (bare (τ E)) (block_ptr b o))) (guard 𝓤 (Testable (block_ptr b o)) (sem 𝓛 (token E.al a (bare (τ E)) (block_ptr b o))))
    tested = fact_use 𝓤 (Testable (block_ptr b o)) (dealloc_token-Testable 𝓛 a (bare (τ E)) (block_ptr b o)) (guard_i 𝓤 (Testable (block_ptr b o)) (sem 𝓛 (token E.al a (bare (τ E)) (block_ptr b o))))

  -- ---- an empty handle

  leaves : ent 𝓤 (sep 𝓤 (A.obs γ (H-row.coded.code (held None))) (A.lft κ q)) (Post None (live 0 (of_list [])))
  unfolding follows_by
  leaves =
      qed 𝓛 (‵ (fobs γ (H-row.coded.code (held None))) ∷ ‵ (flft κ q) ∷ []) ∵ use1 𝓛 (‵ (fres γ (H-row.coded.code (held None)))) (𝓛.names.obs-res γ (H-row.coded.code (held None))) $ move ! (1 ∷ []) $
      use0 𝓛 (‵ ((OP.the_row Lent).own_val None (live 0 (of_list []) ∷ []))) (none_of 𝓛 Lent) $
      suffices ! _ (ends_at 𝓛 F.ended stayed (F.clauses 𝓛 at_mem run) (bound None) (live 0 (of_list [])) None (tt, tt) (tt, tt)) $
      nothing ! $ nothing ! $ fjoin ! $ join ! $ nothing ! $ move ! (2 ∷ 0 ∷ []) $ join ! $ join ! $ frame ! $ says ! refl $ done !

  module _ (𝓣 : Tables 𝓤 H) where
    abbrev Goal : Option D-row.Denot → Type 1
    Goal k = ent 𝓤 ((walk_of 𝓛 F.ended stayed (F.clauses 𝓛 at_mem run)).pre (bound k)) (WpFn 𝓤 H 𝓣.C 𝓣.Λ code.function (vptr rb ro ∷ []) (Post k))

    at_some : (x : D-row.Denot) → Goal (Some x)
    unfolding follows_by
    at_some x =
        let v : D E = record { ptr = p; alloc = a; value = x } in
        qed 𝓛 (((‵ (flft κ q) ⊛ ‵ ftrue) ⊛ ‵ ((MutRef (named 0) κ H-row).own_val (record { ref_ptr = (rb, ro); ghost_name = γ; now = held (Some x) }) (vptr rb ro ∷ [])) ⊛ ‵ ftrue) ∷ ‵ ftrue ∷ []) ∵
        split ! $ split ! $ move ! (2 ∷ []) $ split ! $ keep ! (0 ∷ 2 ∷ []) $
        enter ! 𝓣.C 𝓣.Λ code.function (vptr rb ro ∷ []) _ $ alloc_all ! (λ l. pass_all ! refl ((tt, tt), tt) $
        let En : Env 𝓤 H = env code.function.locals l in
        fsplit3 ! $ drop ! $ move ! (0 ∷ 1 ∷ 2 ∷ []) $
        opens ! tt H-row rb ro (λ vs. move ! (1 ∷ []) $
        use1 𝓛 (‵ ((B E).own_val v vs)) (id⊢ 𝓤 _) $
        box_out E ! v vs (λ b o hv e ws fa. move ! (1 ∷ []) $
        use1 𝓛 (given (Testable (block_ptr b o)) (‵ (token E.al a (bare (τ E)) (block_ptr b o)))) (tested x b o hv) $ learn ! (λ t.
        move ! (0 ∷ 2 ∷ []) $ fjoin ! $ move ! (1 ∷ []) $ rewrite ! 2 (λ (us : List Val). ‵ (cell_at full_share H-row.mir us rb ro)) ws refl $
        -- [the desk; the token and the handle's own; the cell; the open borrow; obs; auth]
        sets ! (of_opd ! (load ! (through ! refl (fld ! refl (stop !))) (look_in ! 2 (sub ! 0 refl (whole !))))) refl (tt, tt) $
        sets ! (bin ! (get ! refl) (lit ! tt) (tests_null (block_ptr b o) t)) refl (tt, tt) $
        first ! $ branches ! (get ! refl) (λ wrong. absurd wrong) (λ _. skips ! $ exec ! 𝓣.C 𝓣.Λ En code.Mir.t-4 (at_ret En (Post (Some x))) $
        first ! $ blocks ! $
        sets ! (of_opd ! (load ! (through ! refl (fld ! refl (stop !))) (look_in ! 2 (sub ! 0 refl (whole !))))) refl (tt, tt) $
        sets ! (of_opd ! (get ! refl)) refl (tt, tt) $
        sets ! (addr ! (through ! refl (stop !))) refl (tt, tt) $
        sets_last ! (agg ! (and_then ! (lit ! tt) (and_then ! (get ! refl) (no_more !)))) refl (tt, (record { fits = lit< tt }, (tt, tt))) $
        exec ! 𝓣.C 𝓣.Λ En code.Mir.t-5 (at_ret En (Post (Some x))) $
        sets ! (of_opd ! (get ! refl)) refl (tt, (record { fits = lit< tt }, (tt, tt))) $
        move ! (1 ∷ 2 ∷ []) $ fjoin ! $ move ! (2 ∷ 3 ∷ 4 ∷ 1 ∷ 0 ∷ []) $ group ! 5 $
        use1 𝓛 (later (some (λ (γ' : GName). raw (Part 𝓛 H-row D-row (with_desk (held (Some x))) (named 0) κ q rb ro b o γ (sem 𝓛 (Rest x b o hv)) (back x b o hv e) x γ'))))
        (lends_Part 𝓛 H-row D-row (with_desk (held (Some x))) (named 0) κ q rb ro b o γ (sem 𝓛 (Rest x b o hv)) (back x b o hv e) (H-row.coded.code (held (Some x))) (H-row.coded.code (held (Some x))) x) $ await ! tt $ pick ! (λ γ'.
        returns ! (look_at ! 0 refl) $ free_all ! refl $ keep ! (0 ∷ []) $ by ! (exits x b o hv γ')))))))

    at_none : Goal None
    at_none =
        qed 𝓛 (((‵ (flft κ q) ⊛ ‵ ftrue) ⊛ ‵ ((MutRef (named 0) κ H-row).own_val (record { ref_ptr = (rb, ro); ghost_name = γ; now = held None }) (vptr rb ro ∷ [])) ⊛ ‵ ftrue) ∷ ‵ ftrue ∷ []) ∵
        split ! $ split ! $ move ! (2 ∷ []) $ split ! $ keep ! (0 ∷ 2 ∷ []) $
        enter ! 𝓣.C 𝓣.Λ code.function (vptr rb ro ∷ []) _ $ alloc_all ! (λ l. pass_all ! refl ((tt, tt), tt) $
        let En : Env 𝓤 H = env code.function.locals l in
        fsplit3 ! $ drop ! $ move ! (0 ∷ 1 ∷ 2 ∷ []) $
        opens ! tt H-row rb ro (λ vs. move ! (1 ∷ []) $
        fsplit ! $ fpick ! (λ vss. fsplit ! $ feq_l ! (λ ev. fsplit ! $ feq_l ! (λ ep. fsplit ! $ handle_tells E.al ! a vss.1.0 (λ hv ea fa. move ! (1 ∷ []) $ drop ! $ move ! (1 ∷ []) $ fpick ! (λ e. drop ! $
        let w : Val = vstruct (vcons (ptr_val null_ptr) (vcons hv vnil)) in
        let ws : vs ≡ w ∷ [] = subst (λ (z : Ptr). vs ≡ vstruct (of_list (ptr_val z ∷ hv ∷ [])) ∷ []) e
        (subst (λ (us : List Val). vs ≡ vstruct (of_list (ptr_val p ∷ (us ++ []))) ∷ []) ea (subst (λ (us : List Val). vs ≡ vstruct (of_list (us ++ (vss.1.0 ++ []))) ∷ []) ep ev)) in
        rewrite ! 1 (λ (us : List Val). ‵ (cell_at full_share H-row.mir us rb ro)) ws refl $
        -- [the handle's own; the cell; the open borrow; obs; auth]
        sets ! (of_opd ! (load ! (through ! refl (fld ! refl (stop !))) (look_in ! 1 (sub ! 0 refl (whole !))))) refl (Ptr-Good null_ptr) $
        sets ! (bin ! (get ! refl) (lit ! tt) tt) refl (tt, tt) $
        first ! $ branches ! (get ! refl) (λ _.
        sets ! (agg ! (and_then ! (lit ! tt) (no_more !))) refl (tt, (record { fits = lit< tt }, tt)) $
        nothing ! $ fpack ! (p ≡ null_ptr) (λ _. ftrue) e $ nothing ! $ move ! (2 ∷ 0 ∷ []) $ fjoin ! $
        feq_i ! (List Val) (ptr_val null_ptr ∷ []) (ptr_val p ∷ []) (ap (λ (z : Ptr). ptr_val z ∷ []) (sym e)) $ fjoin ! $ feq_i ! (List Val) (w ∷ []) (w ∷ []) refl $ fjoin ! $
        fpack ! (Valss (fields Handle.the_type)) (within (shape Handle.the_type) (to Handle.the_type (held None)) (w ∷ [])) (ptr_val null_ptr ∷ [], (hv ∷ [], tt)) $ fjoin ! $
        use1 𝓛 (‵ (H-row.own_val (held None) (w ∷ []))) (id⊢ 𝓤 _) $ move ! (1 ∷ 0 ∷ []) $ closes ! tt H-row (held None) (w ∷ []) rb ro $
        returns_within ! (Post None) refl (look_at ! 0 refl) $ free_all ! refl $ keep ! (0 ∷ 2 ∷ []) $ by ! leaves)
        (λ wrong. absurd wrong))))))))

pub desk_spec : {M : Type 1} → stated.statement M
unfolding tables_of
desk_spec 𝓤 𝓛 𝓜 𝓡 wired =
    let 𝓣 : Tables 𝓤 𝓛.H = tables_of 𝓤 𝓛.H 𝓜 (tables 𝓤 𝓛.H 𝓜 𝓡 𝓡.env) in
    proved 𝓛 F.ended stayed (F.clauses 𝓛 𝓜.mem 𝓡.returns) 𝓜 𝓡 (Goes-spent_ref 𝓛 1 (0 ∷ []) tt (plain (λ _. H-row)), tt)
    #self code.function (code.unfolded 𝓤 𝓛.H 𝓜 𝓡 wired)
    (λ κs. (mut_vals, tt)) (λ κs. (mut_Tells (named 0) κs.0 H-row, tt)) (λ κs qs bounds a n are.
    by_desk 𝓛 𝓜.mem 𝓡.returns κs.0 qs.0 a.0.ref_ptr.0 a.0.ref_ptr.1 a.0.ghost_name a.0.now.at a.0.now.alloc 𝓣 a.0.now.desk)
  where
    by_desk : {M : Type 1} {𝓤 : Ura M} (𝓛 : Logic 𝓤) (at_mem : Memory → SProp 𝓤) (run : Routine → Fun 𝓤) (κ : Lft) (q : Share) (rb ro : ℕ) (γ : GName) (p : Ptr) (a : Global) (𝓣 : Tables 𝓤 𝓛.H) (k : Option D-row.Denot) → Goal 𝓛 at_mem run κ q rb ro γ p a 𝓣 k
    by_desk 𝓛 at_mem run κ q rb ro γ p a 𝓣 None = at_none 𝓛 at_mem run κ q rb ro γ p a 𝓣
    by_desk 𝓛 at_mem run κ q rb ro γ p a 𝓣 (Some x) = at_some 𝓛 at_mem run κ q rb ro γ p a 𝓣 x
