-- The names that proofs cite most, passed on from one place. Declares nothing.
pub use Rattle.core.proofs.alloc.Calls.{token, Goes-blank, handle_tells, α}
pub use Rattle.fak_handles.specs.Openings.{HasSeat, AreSeatedBelow, AreEmptyBelow}
pub use Rattle.std.proofs.Common.{zero, suc, ◌≡◌, ℕ, ◌+◌, ◌<◌, List, length, slice_index_or, slice_set, ap, sym, subst, ◌∙◌, inl, inr, arith, get_or-set_same, get_or-set_other, ◌-◌, refl, [], ◌∷◌, ◌++◌, T, Global, Option, Some, None, true, ◌&&◌, lit<}
pub use Rattle.std_alloc.proofs.BoxSteps.Form.{Bx, D, R, P, B, args, box_ty, word, box_typed, τ}
pub use Rattle.std_alloc.proofs.BoxSteps.Steps.{box_out, box_in}
pub use base.Fml.{ftrue, fsep, flft}
pub use base.Logic.{SProp, ent, id⊢, never, fst∗, emp, guard, guard_i}
pub use contract.Monad.{Fun, fact, fact_use}
pub use denote.Exit.{no, yes}
pub use denote.RattleType.{RattleType, Valss}
pub use denote.RawPtr.{block_ptr, Ptr, RawPtr, null_ptr, ptr_val, in_a_block, Testable, tests_null}
pub use denote.Signature.{Slot, plain, type_at}
pub use denote.Steps.{heard, nothing, only}
pub use denote.Triple.Spec.{triple_of}
pub use denote.Triple.Table.{entered}
pub use denote.Triple.Walked.{says, Stays, stay_dropped, walk_of, ends_at, walk_Meets, Goes-dropped}
pub use mir.Syntax.{impl, tnil, dnil, Fn, Body, place, copy, assign, rv_opd, seq, return, Args, Dict, a_type, dcons}
pub use mir.Val.{Val, vptr, has_ty, WT, vstruct, of_list, vcons, vnil}
pub use prog.Memory.{Memory}
pub use prog.Routine.{Routine}
pub use prog.Wp.{WpFn, Tables}
pub use seplogic.Ra.Ura.{Ura}
pub use sound.WpLaws.{fm_of, WpFn-mono}
pub use types.ByLocal.{alloc_all, pass_all, free_all, look_at, get, get_in, sets, lands_last, env, lands_as, sets_last}
pub use types.Kit.{Item, at_ret, ‵, raw, ◌⊛◌, some, later, ◌$◌, ◌∵◌, !, qed, by, move, drop, use1, join, split, split3, pick, rewrite, fsplit, fjoin, feq_i, suffices, await, done, fpick, feq_l, fpack, given, learn, use0}
pub use types.Logic.{Logic, sem}
pub use types.Part.{whole, sub, agg}
pub use types.Run.{stop, fld, no_more, and_then, of_opd, returns, enter, first, blocks, exec, lit, bin, branches}
